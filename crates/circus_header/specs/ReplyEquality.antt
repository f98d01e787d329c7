-- Which replies are equal: those that are the same, clock and outcome.
use Rattle.std.specs.Prelude.{◌≡◌, Bool, ◌&&◌, nat_eq}
use Rattle.std.specs.Bool.{Decides}
use Rattle.std.specs.Cmp.{IsEquivalence, IsPartialEquivalence, partial_equiv_from_equiv}
use Rattle.std.specs.Cmp.Lexicographic.{pointwise, bytes_decides}
use Rattle.circus_value.specs.ValueEquality.{both, equivalence_from_decides}
use Rattle.circus_value.specs.OutcomeEquality.{outcome_eq, outcome_eq_decides}
use Rattle.circus_header.specs.declared.answer.Reply.{Reply}

abbrev pub reply_eq : Reply → Reply → Bool
reply_eq a b = pointwise nat_eq a.clock b.clock && outcome_eq a.outcome b.outcome

pub reply_eq_decides : (a b : Reply) → Decides (reply_eq a b) (a ≡ b)
reply_eq_decides a b =
    both (pointwise nat_eq a.clock b.clock) (outcome_eq a.outcome b.outcome) (λ clock outcome. record { clock = clock; outcome = outcome })
    (λ e. (cc, cc)) (bytes_decides a.clock b.clock) (outcome_eq_decides a.outcome b.outcome)

pub reply_eq_equiv : IsEquivalence reply_eq
reply_eq_equiv = equivalence_from_decides reply_eq reply_eq_decides

pub reply_eq_per : IsPartialEquivalence reply_eq
reply_eq_per = partial_equiv_from_equiv reply_eq_equiv
