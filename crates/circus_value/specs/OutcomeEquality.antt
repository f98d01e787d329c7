-- Which outcomes are equal: those that are the same.
use Rattle.std.specs.Prelude.{◌≡◌, Bool, false, ◌&&◌, ◌==◌}
use Rattle.std.specs.Bool.{Decides}
use Rattle.std.specs.Cmp.{IsEquivalence, IsPartialEquivalence, partial_equiv_from_equiv}
use Rattle.std.proofs.lemmas.Bool.Decides.{Decides-eqb}
use Rattle.circus_value.specs.ValueEquality.{values_eq, values_eq_decides, under, both, apart, equivalence_from_decides}
use Rattle.circus_value.specs.declared.outcome.Outcome.{Outcome}
use Rattle.circus_value.specs.declared.outcome.Outcome.TheVariants.{Returned, Raised}

abbrev pub outcome_eq : Outcome → Outcome → Bool
outcome_eq (Returned a) (Returned b) = values_eq a b
outcome_eq (Raised m a) (Raised n b) = (m == n) && values_eq a b
outcome_eq _ _ = false

pub outcome_eq_decides : (a b : Outcome) → Decides (outcome_eq a b) (a ≡ b)
outcome_eq_decides (Returned a) (Returned b) = under (values_eq a b) Returned (λ e. cc) (values_eq_decides a b)
outcome_eq_decides (Raised m a) (Raised n b) = both (m == n) (values_eq a b) Raised (λ e. (cc, cc)) (Decides-eqb m n) (values_eq_decides a b)
outcome_eq_decides _ _ = apart (λ e. cc)

pub outcome_eq_equiv : IsEquivalence outcome_eq
outcome_eq_equiv = equivalence_from_decides outcome_eq outcome_eq_decides

pub outcome_eq_per : IsPartialEquivalence outcome_eq
outcome_eq_per = partial_equiv_from_equiv outcome_eq_equiv
