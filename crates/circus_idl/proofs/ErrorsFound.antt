-- The numbers of errors by their names, once all of them are declared.
use Rattle.std.proofs.Common.{◌≡◌, ℕ, ◌≤◌, cond, List, [], ◌∷◌, refl, sym, ◌∙◌, ap, arith, Option, Some, None}
use Rattle.std.specs.Prelude.{◌≢◌, Contains}
use Rattle.std.specs.List.{AllByRecursion}
use Rattle.circus_idl.specs.declared.interface.DeclaredError.{DeclaredError}
use Rattle.circus_type.specs.Distinct.{AreDistinct}
use Rattle.circus_idl.specs.Shown.{error_name}
use Rattle.circus_idl.specs.Meaning.{standing_for}
use Rattle.circus_idl.proofs.DraftMore.{standing_here}
use Rattle.circus_idl.proofs.PlainRules.{bytes_differ}
use Rattle.circus_idl.proofs.ObeysParts.{AreReports, error_names, error_numbers, ErrorObeys, found_error}

-- what names stand for behind these errors
abbrev pub errors_after : (List ℕ → Option ℕ) → List DeclaredError → List ℕ → Option ℕ
errors_after errors [] = errors
errors_after errors (e ∷ es) = errors_after (standing_for e.name (Some e.number) errors) es

kept_after : (es : List DeclaredError) (errors : List ℕ → Option ℕ) (name : List ℕ) → AllByRecursion (λ n. name ≢ n) (error_names es) → errors_after errors es name ≡ errors name
kept_after [] errors name differ = refl
kept_after (e ∷ es) errors name differ =
    kept_after es (standing_for e.name (Some e.number) errors) name differ.1
    ∙ ap (λ b. cond b (Some e.number) (errors name)) (bytes_differ e.name name (λ same. differ.0 (sym same)))

found_after : (es : List DeclaredError) (errors : List ℕ → Option ℕ) → AreDistinct (error_names es) → AllByRecursion (λ (e : DeclaredError). errors_after errors es e.name ≡ Some e.number) es
found_after [] errors distinct = tt
found_after (e ∷ es) errors distinct = (
  kept_after es (standing_for e.name (Some e.number) errors) e.name distinct.0 ∙ standing_here e.name (Some e.number) errors,
  found_after es (standing_for e.name (Some e.number) errors) distinct.1,
)

-- the name that is shown for a number stands for it
pub record IsReported (errors : List DeclaredError) (n : ℕ) : Type 0 where
  pub found : errors_after (λ _. None) errors (error_name errors n) ≡ Some n
  pub in_range : n ≤ 65535

is_reported : (errors : List DeclaredError) (n : ℕ) → AllByRecursion ErrorObeys errors → AreDistinct (error_names errors) → Contains (error_numbers errors) n → IsReported errors n
is_reported errors n obey distinct contains =
    let (e, found, named, same) = found_error (λ e. errors_after (λ _. None) errors e.name ≡ Some e.number) errors n (found_after errors (λ _. None) distinct) contains in
    let (d, obeys, _, is) = found_error ErrorObeys errors n obey contains in
    let in_range : d.number ≤ 59999 = obeys.in_range in
    record { found = ap (errors_after (λ _. None) errors) named ∙ found ∙ ap Some same; in_range = omega arith }

pub are_reported : (errors : List DeclaredError) (ns : List ℕ) → AllByRecursion ErrorObeys errors → AreDistinct (error_names errors) → AreReports errors ns → AllByRecursion (IsReported errors) ns
are_reported errors [] obey distinct contained = tt
are_reported errors (n ∷ ns) obey distinct contained = (is_reported errors n obey distinct contained.0, are_reported errors ns obey distinct contained.1)
