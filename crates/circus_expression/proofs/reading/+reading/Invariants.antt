use Rattle.std.proofs.Common.{◌≡◌, ◌+◌, ◌*◌, length, map}
use Rattle.circus_expression.specs.Standing.{show_as, stands_for}
use Rattle.circus_expression.specs.ExpressionReading.{items_within}
use Rattle.circus_expression.proofs.Stands.{rank_of, items_go_on}
use Rattle.circus_expression.proofs.reading.+reading.Given as goal

abbrev pub decreases-group_in_parentheses : goal.decreases-group_in_parentheses
decreases-group_in_parentheses l = 26 * l.levels + 1

abbrev pub decreases-subscript : goal.decreases-subscript
decreases-subscript l = 26 * l.levels + 1

abbrev pub decreases-list_text : goal.decreases-list_text
decreases-list_text l = 26 * l.levels + 1

abbrev pub decreases-length : goal.decreases-length
decreases-length l = 26 * l.levels + 1

abbrev pub decreases-length_argument : goal.decreases-length_argument
decreases-length_argument l = 26 * l.levels + 2

abbrev pub decreases-further_suffixes : goal.decreases-further_suffixes
decreases-further_suffixes l = 26 * l.levels + 2

abbrev pub decreases-kind_of_type : goal.decreases-kind_of_type
decreases-kind_of_type l = 26 * l.levels + 2

abbrev pub decreases-one_suffix : goal.decreases-one_suffix
decreases-one_suffix l = 26 * l.levels + 3

abbrev pub decreases-kind_behind_dot : goal.decreases-kind_behind_dot
decreases-kind_behind_dot l = 26 * l.levels + 3

abbrev pub decreases-any_suffixes : goal.decreases-any_suffixes
decreases-any_suffixes l = 26 * l.levels + 4

abbrev pub decreases-kind_by_name : goal.decreases-kind_by_name
decreases-kind_by_name l = 26 * l.levels + 5

abbrev pub decreases-primary_kind : goal.decreases-primary_kind
decreases-primary_kind l = 26 * l.levels + 6

abbrev pub decreases-primary : goal.decreases-primary
decreases-primary l = 26 * l.levels + 7

abbrev pub decreases-factor : goal.decreases-factor
decreases-factor l = 26 * l.levels + 8

abbrev pub decreases-operand : goal.decreases-operand
decreases-operand l = 26 * l.levels + rank_of l.of

abbrev pub decreases-further_link : goal.decreases-further_link
decreases-further_link l = 26 * l.levels + rank_of l.of

abbrev pub decreases-link : goal.decreases-link
decreases-link l = 26 * l.levels + rank_of l.of + 1

abbrev pub decreases-chain : goal.decreases-chain
decreases-chain l = 26 * l.levels + rank_of l.of + 2

abbrev pub decreases-rest_of_comparison : goal.decreases-rest_of_comparison
decreases-rest_of_comparison l = 26 * l.levels + 15

abbrev pub decreases-rest_of_relation : goal.decreases-rest_of_relation
decreases-rest_of_relation l = 26 * l.levels + 16

abbrev pub decreases-relation : goal.decreases-relation
decreases-relation l = 26 * l.levels + 17

abbrev pub decreases-minus_operand : goal.decreases-minus_operand
decreases-minus_operand l = 26 * l.levels + 18

abbrev pub decreases-items : goal.decreases-items
decreases-items l = 26 * l.levels + 25

-- the items so far and those that follow are the items
abbrev pub invariant-items-loop-reader : goal.invariant-items-loop-reader
invariant-items-loop-reader l = show_as (map stands_for) (items_within l.levels l.fn.reader) ≡ items_go_on l.levels l.items l.reader

abbrev pub decreases-items-loop-reader : goal.decreases-items-loop-reader
decreases-items-loop-reader l = length l.reader.rest
