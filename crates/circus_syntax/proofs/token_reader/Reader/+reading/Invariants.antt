use Rattle.std.proofs.Common.{◌≡◌, ◌+◌, ◌*◌, length}
use Rattle.circus_syntax.specs.Reading.{arm_of_type, arms, group_of_type, groups, behind}
use Rattle.circus_syntax.proofs.Tokens.{comma_sign, is_comma}
use Rattle.circus_syntax.proofs.Loops.{goes_on}
use Rattle.circus_syntax.proofs.token_reader.Reader.+reading.Given as goal

abbrev pub decreases-type_kind : goal.decreases-type_kind
decreases-type_kind l = 8 * l.levels

abbrev pub decreases-type_text : goal.decreases-type_text
decreases-type_text l = 8 * l.levels + 1

abbrev pub decreases-group : goal.decreases-group
decreases-group l = 8 * l.levels + 5

abbrev pub decreases-arm : goal.decreases-arm
decreases-arm l = 8 * l.levels + 5

abbrev pub decreases-groups : goal.decreases-groups
decreases-groups l = 8 * l.levels + 6

abbrev pub decreases-arms : goal.decreases-arms
decreases-arms l = 8 * l.levels + 6

abbrev pub decreases-array_kind : goal.decreases-array_kind
decreases-array_kind l = 8 * l.levels + 7

abbrev pub decreases-sequence_kind : goal.decreases-sequence_kind
decreases-sequence_kind l = 8 * l.levels + 7

abbrev pub decreases-record_kind : goal.decreases-record_kind
decreases-record_kind l = 8 * l.levels + 7

abbrev pub decreases-choice_kind : goal.decreases-choice_kind
decreases-choice_kind l = 8 * l.levels + 7

-- the arms so far and those that follow are the arms
abbrev pub invariant-arms-loop-self : goal.invariant-arms-loop-self
invariant-arms-loop-self l = arms l.levels l.fn.self ≡ goes_on is_comma (behind comma_sign (arm_of_type l.levels)) l.arms l.self

abbrev pub decreases-arms-loop-self : goal.decreases-arms-loop-self
decreases-arms-loop-self l = length l.self.rest

-- the groups so far and those that follow are the groups
abbrev pub invariant-groups-loop-self : goal.invariant-groups-loop-self
invariant-groups-loop-self l = groups l.levels l.fn.self ≡ goes_on is_comma (behind comma_sign (group_of_type l.levels)) l.groups l.self

abbrev pub decreases-groups-loop-self : goal.decreases-groups-loop-self
decreases-groups-loop-self l = length l.self.rest
