-- What is found one after another.
use Rattle.std.proofs.Common.{◌≡◌, Bool, not, ◌||◌, [], ◌∷◌, ◌++◌, refl, sym, ap, ◌∙◌}
use Rattle.circus_fault.proofs.LeastMore.{least_more}
use Rattle.circus_resolve.specs.declared.findings.Findings.{Findings}
use Rattle.circus_resolve.specs.Causes.{rank}
use Rattle.circus_fault.specs.Least.{is_clean}
use Rattle.circus_resolve.specs.Faults.{Faults}
use Rattle.circus_resolve.specs.Seen.Found.{with_faults}

any_more : (xs ys : Faults) (any : Bool) → (not (is_clean ys) || (not (is_clean xs) || any)) ≡ (not (is_clean (xs ++ ys)) || any)
any_more [] ys any = refl
any_more (x ∷ xs) [] any = refl
any_more (x ∷ xs) (y ∷ ys) any = refl

pub found_more : (f : Findings) (xs ys : Faults) → with_faults (with_faults f xs) ys ≡ with_faults f (xs ++ ys)
found_more f xs ys = λ i. record { best = record { fault = sym (least_more rank f.best.fault xs ys) i }; any = any_more xs ys f.any i }

-- first these, then those
pub found_then : (old mid new : Findings) (xs ys : Faults) → mid ≡ with_faults old xs → new ≡ with_faults mid ys → new ≡ with_faults old (xs ++ ys)
found_then old mid new xs ys first then = then ∙ ap (λ f. with_faults f ys) first ∙ found_more old xs ys
