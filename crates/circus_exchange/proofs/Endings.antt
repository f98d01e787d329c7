-- How a call has ended.
use Rattle.std.proofs.Common.{◌≡◌, true, false, Option, None, Some, Result, Ok, Err, refl}
use Rattle.std.specs.Prelude.{OnOk, OnErr, IsSome, IsOk, is_err}

module _ {T E : Type 0} where
  pub well_ended : (r : Result T E) (P : Type 0) → is_err r ≡ false → OnOk r P → P
  well_ended (Ok x) P h p = p
  well_ended (Err e) P h p = absurd cc

  pub ill_ended : (r : Result T E) (P : Type 0) → is_err r ≡ true → OnErr r P → P
  ill_ended (Ok x) P h p = absurd cc
  ill_ended (Err e) P h p = p

  -- a call that fails where nothing stands alone
  pub none_stood : {X : Type 0} (r : Result T E) (o : Option X) → is_err r ≡ true → (IsSome o → IsOk r) → o ≡ None
  none_stood r None h known = refl
  none_stood (Ok x) (Some y) h known = absurd cc
  none_stood (Err e) (Some y) h known = absurd (let wrong : IsOk {T = T} (Err e) = known refl in cc)
