-- Maps with numbers for keys, as functions.
use Rattle.std.proofs.Common.{◌≡◌, ℕ, cond, arith, ◌∙◌, ap, Option, nat_eq, nat_cmp}
use Rattle.std.specs.BTreeMap.{BTreeMap, get, Updates}
use Rattle.std.specs.Ordering.{is_eq}
use Rattle.std.proofs.lemmas.Grind.{common_steps}

pub nat_cmp-is_eq : (k n : ℕ) → is_eq (nat_cmp k n) ≡ nat_eq k n
nat_cmp-is_eq k n = grind (arith, common_steps)

-- after `insert`
pub get-updates : {X : Type 0} (m m' : BTreeMap ℕ X) (k : ℕ) (v : Option X) → Updates nat_cmp m m' k v → (n : ℕ) → get nat_cmp m' n ≡ cond (nat_eq k n) v (get nat_cmp m n)
get-updates m m' k v h n = h.0 n ∙ ap (λ b. cond b v (get nat_cmp m n)) (nat_cmp-is_eq k n)
