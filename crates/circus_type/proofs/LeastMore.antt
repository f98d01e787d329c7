-- The least of one list of faults and another.
use Rattle.std.proofs.Common.{◌≡◌, ℕ, Bool, true, false, List, [], ◌∷◌, ◌++◌, Option, Some, None, is_none, is_some, not, refl, sym, ◌∙◌, ap, Result, Ok, Err, IsTrue, ◌↔◌}
use Rattle.std.specs.Prelude.{OnOk}
use Rattle.circus_syntax.specs.declared.named.Named.{Named}
use Rattle.circus_syntax.specs.TypeTree.{GroupTree, group_trees}
use Rattle.circus_fault.specs.declared.fault.Fault.{Fault}
use Rattle.circus_fault.specs.Least.{least_from, is_clean}
use Rattle.circus_fault.proofs.LeastIs.{never_lost}
use Rattle.circus_fault.proofs.LeastMore.{least_more}
use Rattle.circus_type.specs.declared.cause.TypeCause.{TypeCause}
use Rattle.circus_type.specs.Inside.{repeated_name, repeated_names, also_name, also_names, is_bare}

-- a list that is found to be empty or not
pub bare_is : (b : Bool) (gs : List GroupTree) → (IsTrue b ↔ (gs ≡ [])) → b ≡ is_bare (group_trees gs)
bare_is true [] tells = refl
bare_is false [] tells = tells.1 refl
bare_is true (g ∷ gs) tells = absurd (let e = tells.0 refl in cc)
bare_is false (g ∷ gs) tells = refl

module _ {C : Type 0} (rank : C → ℕ) where
  -- what is found behind a first find
  pub onward_least : {A E : Type 0} (r : Result A E) (new mid best : Option (Fault C)) (xs ys : List (Fault C)) → mid ≡ least_from rank best xs → OnOk r (new ≡ least_from rank mid ys) → OnOk r (new ≡ least_from rank best (xs ++ ys))
  onward_least (Ok x) new mid best xs ys first then = then ∙ ap (λ b. least_from rank b ys) first ∙ sym (least_more rank best xs ys)
  onward_least (Err e) new mid best xs ys first then = then

  -- names of one list and another
  pub names_more : (embed : TypeCause → C) (best : Option (Fault C)) (earlier : List ℕ → Bool) (ns ms : List Named) → least_from rank best (repeated_names embed earlier (ns ++ ms)) ≡ least_from rank (least_from rank best (repeated_names embed earlier ns)) (repeated_names embed (also_names ns earlier) ms)
  names_more embed best earlier [] ms = refl
  names_more embed best earlier (n ∷ ns) ms =
      least_more rank best (repeated_name embed earlier n) (repeated_names embed (also_name n.name earlier) (ns ++ ms))
      ∙ names_more embed (least_from rank best (repeated_name embed earlier n)) (also_name n.name earlier) ns ms
      ∙ ap (λ b. least_from rank b (repeated_names embed (also_names ns (also_name n.name earlier)) ms)) (sym (least_more rank best (repeated_name embed earlier n) (repeated_names embed (also_name n.name earlier) ns)))
