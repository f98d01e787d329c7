-- Lists of the values of bytes.
use Rattle.std.proofs.Common.{ℕ, zero, suc, List, [], ◌∷◌, ◌++◌, arith}
use Rattle.circus_value.specs.Parts.{AreOctets}

pub none_octets : AreOctets []
none_octets k = omega arith

pub both_octets : (a b : List ℕ) → AreOctets a → AreOctets b → AreOctets (a ++ b)
both_octets [] b first second k = second k
both_octets (x ∷ a) b first second zero = first 0
both_octets (x ∷ a) b first second (suc k) = both_octets a b (λ i. first (suc i)) second k
