-- Messages are bytes.
use Rattle.std.proofs.Common.{ℕ, zero, suc, List, [], ◌∷◌, arith}
use Rattle.std.specs.Int.{w16, w32, to_be_bytes}
use Rattle.circus_value.specs.Parts.{AreOctets}
use Rattle.circus_value.proofs.Octets.{none_octets, both_octets}
use Rattle.circus_header.specs.Field.{Field, word, long, bytes_of}
use Rattle.circus_header.specs.CallFields.{call_fields}
use Rattle.circus_header.specs.declared.call.Call.TheVariants.{Fetch}
use Rattle.circus_member_rules.specs.Messages.{fetch_message}

pub word_octets : (n : ℕ) → AreOctets (to_be_bytes w16 n)
word_octets n zero = omega arith
word_octets n (suc zero) = omega arith
word_octets n (suc (suc k)) = omega arith

long_octets : (n : ℕ) → AreOctets (to_be_bytes w32 n)
long_octets n zero = omega arith
long_octets n (suc zero) = omega arith
long_octets n (suc (suc zero)) = omega arith
long_octets n (suc (suc (suc zero))) = omega arith
long_octets n (suc (suc (suc (suc k)))) = omega arith

pub fields_octets : (fields : List Field) → AreOctets (bytes_of fields)
fields_octets [] = none_octets
fields_octets (word n ∷ fields) = both_octets (to_be_bytes w16 n) (bytes_of fields) (word_octets n) (fields_octets fields)
fields_octets (long n ∷ fields) = both_octets (to_be_bytes w32 n) (bytes_of fields) (long_octets n) (fields_octets fields)

pub fetch_octets : (troupe incarnation : ℕ) → AreOctets (fetch_message troupe incarnation)
fetch_octets troupe incarnation = fields_octets (call_fields (Fetch troupe incarnation))
