-- The parts of messages, by call and by segment.
use Rattle.std.specs.Prelude.{unwrap_or}
use Rattle.std.proofs.Common.{◌≡◌, ℕ, Bool, true, false, cond, List, Option, None, Some, refl, sym, ap, ◌∙◌}
use Rattle.std.specs.Cmp.{nat_cmp_total, eq_by_cmp_equiv}
use Rattle.std.specs.Ordering.{nat_cmp, eq_by_cmp}
use Rattle.std.specs.FinMap.{FinMap, empty, get, insert, get-insert, get_tied, same_map, nat_cmp-IsAntisymmetric}
use Rattle.circus_exchange.specs.Inbox.{with_part}
use Rattle.circus_exchange.proofs.Finite.{turned}

-- what is put where it stands changes nothing
pub put_same : {X : Type 0} (m : FinMap nat_cmp X) (k : ℕ) (v : X) → get m k ≡ Some v → insert m k v ≡ m
put_same m k v is = same_map nat_cmp_total nat_cmp-IsAntisymmetric _ _ (λ q. get-insert nat_cmp_total m k v q ∙ same (eq_by_cmp nat_cmp q k) v (get m q) (λ e. get_tied nat_cmp_total m k q (turned nat_cmp nat_cmp_total q k e) ∙ is))
  where
    same : {X : Type 0} (b : Bool) (v : X) (o : Option X) → (b ≡ true → o ≡ Some v) → cond b (Some v) o ≡ o
    same true v o h = sym (h refl)
    same false v o h = refl

-- a part is put beside the parts of its message that are there
pub put_beside : (m : FinMap nat_cmp (FinMap nat_cmp (List ℕ))) (call number : ℕ) (part : List ℕ) (parts : FinMap nat_cmp (List ℕ)) → get m call ≡ Some parts → insert m call (insert parts number part) ≡ with_part m call number part
put_beside m call number part parts is = ap (λ (o : Option (FinMap nat_cmp (List ℕ))). insert m call (insert (unwrap_or o empty) number part)) (sym is)

-- the first part of a message
pub put_first : (m : FinMap nat_cmp (FinMap nat_cmp (List ℕ))) (call number : ℕ) (part : List ℕ) → get m call ≡ None → insert m call (insert empty number part) ≡ with_part m call number part
put_first m call number part is = ap (λ (o : Option (FinMap nat_cmp (List ℕ))). insert m call (insert (unwrap_or o empty) number part)) (sym is)
