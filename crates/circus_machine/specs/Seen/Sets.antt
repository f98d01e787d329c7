-- Two lists of instructions are equal in one way at most.
use Rattle.std.specs.Prelude.{◌≡◌, List}
use mathlib.Core.Sum.{⊎_set}
use mathlib.Core.List.{is_set}
use Rattle.std.proofs.Math.Nat.{ℕ_set}
use base.Stored.{Coded-set}
use Rattle.circus_checked.specs.ExpressionTree.{ExpressionTree, SuffixTree}
use Rattle.circus_checked.specs.Seen.ExpressionCode.{coded_expression, coded_suffix}
use Rattle.circus_machine.specs.Seen.Code.{Act}

expression_set : IsSet ExpressionTree
expression_set = Coded-set coded_expression

suffix_set : IsSet SuffixTree
suffix_set = Coded-set coded_suffix

act_set : IsSet Act
act_set = hlevel (expression_set, suffix_set, ⊎_set, is_set, ℕ_set)

pub one_way : (a b : List Act) → IsProp (a ≡ b)
one_way a b = hlevel (act_set, is_set)
