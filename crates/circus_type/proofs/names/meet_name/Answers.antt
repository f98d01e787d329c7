use Rattle.std.proofs.Common.{◌≡◌, ℕ, Bool, true, false, cond, ◌||◌, List, Option, Some, is_some, refl, ◌∙◌, ap}
use Rattle.std.specs.Prelude.{bytes_eq}
use Rattle.circus_fault.specs.Known.{Known, add_name}
use Rattle.circus_fault.specs.Seen.Tables.{known_of}
use Rattle.circus_type.specs.Inside.{also_name}
use Rattle.circus_type.proofs.names.meet_name.Goals as goal

-- the names of a table with one more
held_more : (name : List ℕ) (number : ℕ) (known new : Known) → new ≡ add_name name number known → (λ n. is_some (new n)) ≡ also_name name (λ n. is_some (known n))
held_more name number known new is = ap (λ k n. is_some (k n)) is ∙ (λ i other. by_test (bytes_eq name other) (known other) i)
  where
    by_test : (b : Bool) (o : Option ℕ) → is_some (cond b (Some number) o) ≡ (b || is_some o)
    by_test true o = refl
    by_test false o = refl

pub returns-clause-added : goal.returns-clause-added
returns-clause-added g c =
    let known = known_of c.args.names.now in
    held_more c.as_slice.result.now _ known _ c.in_ok-earlier.ensures.added
    ∙ ap (λ name. also_name name (λ n. is_some (known n))) c.as_slice.ensures
