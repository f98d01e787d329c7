-- What holds where no fault is found.
use Rattle.std.proofs.Common.{◌≡◌, ◌≢◌, ℕ, ◌<◌, ◌≤◌, Bool, true, false, [], refl, arith}
use Rattle.std.specs.Prelude.{◌==◌, nat_lt}
use Rattle.std.proofs.lemmas.Bool.{ltb-false, or_parts, eq-eqb}
use Rattle.circus_syntax.specs.declared.named.Numeral.{Numeral}
use Rattle.circus_fault.specs.Least.{faults_if, out_of}

pub no_fault : {C : Type 0} (b : Bool) (place : ℕ) (cause : C) → faults_if b place cause ≡ [] → b ≡ false
no_fault true place cause is = absurd (cc)
no_fault false place cause is = refl

pub in_range : {C : Type 0} (cause : C) (greatest : ℕ) (n : Numeral) → out_of cause greatest n ≡ [] → (0 < n.value) × (n.value ≤ greatest)
in_range cause greatest n none =
    let (zero_is, above) = or_parts (n.value == 0) (nat_lt greatest n.value) (no_fault _ _ cause none) in
    let other : n.value ≢ 0 = λ same. let is = eq-eqb n.value 0 same in absurd (cc) in
    (omega (arith, other), ltb-false greatest n.value above)
