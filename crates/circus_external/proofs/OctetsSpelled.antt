-- The bytes of an admitted value are the values of bytes.
use Rattle.std.proofs.Common.{◌≡◌, ℕ, zero, suc, ◌%◌, Bool, true, false, cond, nat_eq, nat_lt, nat_le, List, [], ◌∷◌, length, replicate, refl, sym, subst, arith}
use Rattle.std.specs.List.{list_all}
use Rattle.std.specs.Int.{w16, w32, cast_unsigned}
use Rattle.std.proofs.lemmas.Bool.{ltb-true}
use Rattle.circus_value.specs.ValueTree.{ValueTree, ValueTrees, none, more, value_trees}
use Rattle.circus_value.specs.ValueTree as V
use Rattle.circus_value.specs.ShapeTree.{ShapeTree, FieldTrees, ArmTrees, no_fields, more_fields, no_arms, more_arms}
use Rattle.circus_value.specs.ShapeTree as S
use Rattle.circus_value.specs.declared.shape.Label.{Label}
use Rattle.circus_value.specs.Fits.{fits, fields_fit, arm_fits, is_truth, is_cardinal, is_long_cardinal, is_integer, is_long_integer, is_text, is_labelled, is_array, is_sequence, is_record, is_choice, every, count_of}
use Rattle.circus_external.specs.Octets.{word, long}
use Rattle.circus_external.specs.Spelling.{contents, pad, truth_number, pieces, pieces_of_items, bytes_of_pieces, spelling, spelling_of_all, fields_admit}
use Rattle.circus_value.specs.Parts.{AreOctets}
use Rattle.circus_value.proofs.Octets.{none_octets, both_octets}
use Rattle.circus_external.proofs.Alike.{joined-append}
use Rattle.circus_external.proofs.ShapesAlike.{and_both}
use Rattle.circus_external.proofs.PieceSound.{content_given}

word_octets : (n : ℕ) → AreOctets (word n)
word_octets n zero = omega arith
word_octets n (suc zero) = omega arith
word_octets n (suc (suc k)) = omega arith

long_octets : (n : ℕ) → AreOctets (long n)
long_octets n zero = omega arith
long_octets n (suc zero) = omega arith
long_octets n (suc (suc zero)) = omega arith
long_octets n (suc (suc (suc zero))) = omega arith
long_octets n (suc (suc (suc (suc k)))) = omega arith

zeros_are : (n : ℕ) → AreOctets (replicate n 0)
zeros_are zero k = omega arith
zeros_are (suc n) zero = omega arith
zeros_are (suc n) (suc k) = zeros_are n k

text_octets : (bytes : List ℕ) → list_all (λ b. nat_lt b 256) bytes ≡ true → AreOctets bytes
text_octets [] all k = omega arith
text_octets (b ∷ bytes) all zero = ltb-true b 256 (and_both (nat_lt b 256) (list_all (λ x. nat_lt x 256) bytes) all).0
text_octets (b ∷ bytes) all (suc k) = text_octets bytes (and_both (nat_lt b 256) (list_all (λ x. nat_lt x 256) bytes) all).1 k

truth_are : (v : ValueTree) → is_truth v ≡ true → AreOctets (spelling v)
truth_are (V.boolean b) fit = word_octets (truth_number b)
truth_are _ fit = cc

cardinal_are : (v : ValueTree) → is_cardinal v ≡ true → AreOctets (spelling v)
cardinal_are (V.cardinal n) fit = word_octets n
cardinal_are _ fit = cc

long_cardinal_are : (v : ValueTree) → is_long_cardinal v ≡ true → AreOctets (spelling v)
long_cardinal_are (V.long_cardinal n) fit = long_octets n
long_cardinal_are _ fit = cc

integer_are : (v : ValueTree) → is_integer v ≡ true → AreOctets (spelling v)
integer_are (V.integer z) fit = word_octets (cast_unsigned w16 z)
integer_are _ fit = cc

long_integer_are : (v : ValueTree) → is_long_integer v ≡ true → AreOctets (spelling v)
long_integer_are (V.long_integer z) fit = long_octets (cast_unsigned w32 z)
long_integer_are _ fit = cc

text_are : (v : ValueTree) → is_text v ≡ true → AreOctets (spelling v)
text_are (V.text bytes) fit =
    let all = (and_both (nat_lt (length bytes) 65536) (list_all (λ b. nat_lt b 256) bytes) fit).1 in
    both_octets (word (length bytes)) (bytes_of_pieces (contents bytes)) (word_octets (length bytes))
    (subst AreOctets (sym (content_given (length bytes) bytes refl)) (both_octets bytes (pad (length bytes)) (text_octets bytes all) (zeros_are (length bytes % 2))))
text_are _ fit = cc

label_are : (labels : List Label) (v : ValueTree) → is_labelled labels v ≡ true → AreOctets (spelling v)
label_are labels (V.enumeration n) fit = word_octets n
label_are labels _ fit = cc

items_are : (p : ValueTree → Bool) → ((t : ValueTree) → p t ≡ true → AreOctets (spelling t)) → (ts : ValueTrees) → every p ts ≡ true → AreOctets (bytes_of_pieces (pieces_of_items ts))
items_are p each none all = none_octets
items_are p each (more t ts) all =
    let q = and_both (p t) (every p ts) all in
    subst AreOctets (sym (joined-append (pieces t) (pieces_of_items ts))) (both_octets (spelling t) (bytes_of_pieces (pieces_of_items ts)) (each t q.0) (items_are p each ts q.1))

array_are : (len : ℕ) (p : ValueTree → Bool) → ((t : ValueTree) → p t ≡ true → AreOctets (spelling t)) → (v : ValueTree) → is_array len p v ≡ true → AreOctets (spelling v)
array_are len p each (V.array ts) fit = items_are p each ts (and_both (nat_eq (count_of ts) len) (every p ts) fit).1
array_are len p each _ fit = cc

sequence_are : (bound : ℕ) (p : ValueTree → Bool) → ((t : ValueTree) → p t ≡ true → AreOctets (spelling t)) → (v : ValueTree) → is_sequence bound p v ≡ true → AreOctets (spelling v)
sequence_are bound p each (V.sequence ts) fit =
    both_octets (word (count_of ts)) (bytes_of_pieces (pieces_of_items ts)) (word_octets (count_of ts)) (items_are p each ts (and_both (nat_le (count_of ts) bound) (every p ts) fit).1)
sequence_are bound p each _ fit = cc

record_are : (p : ValueTrees → Bool) → ((ts : ValueTrees) → p ts ≡ true → AreOctets (bytes_of_pieces (pieces_of_items ts))) → (v : ValueTree) → is_record p v ≡ true → AreOctets (spelling v)
record_are p each (V.«record» ts) fit = each ts fit
record_are p each _ fit = cc

choice_are : (p : ℕ → ValueTree → Bool) → ((n : ℕ) (t : ValueTree) → p n t ≡ true → AreOctets (spelling t)) → (v : ValueTree) → is_choice p v ≡ true → AreOctets (spelling v)
choice_are p each (V.choice n t) fit = both_octets (word n) (spelling t) (word_octets n) (each n t (and_both (nat_lt n 65536) (p n t) fit).1)
choice_are p each _ fit = cc

mutual
  pub spelled_octets : (s : ShapeTree) (v : ValueTree) → fits s v ≡ true → AreOctets (spelling v)
  spelled_octets S.boolean = truth_are
  spelled_octets S.cardinal = cardinal_are
  spelled_octets S.long_cardinal = long_cardinal_are
  spelled_octets S.integer = integer_are
  spelled_octets S.long_integer = long_integer_are
  spelled_octets S.text = text_are
  spelled_octets (S.enumeration labels) = label_are labels
  spelled_octets (S.array len s) = array_are len (fits s) (spelled_octets s)
  spelled_octets (S.sequence bound s) = sequence_are bound (fits s) (spelled_octets s)
  spelled_octets (S.«record» fs) = record_are (fields_fit fs) (items_octets fs)
  spelled_octets (S.choice arms) = choice_are (arm_fits arms) (arm_octets arms)

  items_octets : (fs : FieldTrees) (ts : ValueTrees) → fields_fit fs ts ≡ true → AreOctets (bytes_of_pieces (pieces_of_items ts))
  items_octets no_fields none fit = none_octets
  items_octets no_fields (more t ts) fit = cc
  items_octets (more_fields name s fs) none fit = cc
  items_octets (more_fields name s fs) (more t ts) fit =
      let q = and_both (fits s t) (fields_fit fs ts) fit in
      subst AreOctets (sym (joined-append (pieces t) (pieces_of_items ts))) (both_octets (spelling t) (bytes_of_pieces (pieces_of_items ts)) (spelled_octets s t q.0) (items_octets fs ts q.1))

  arm_octets : (arms : ArmTrees) (n : ℕ) (t : ValueTree) → arm_fits arms n t ≡ true → AreOctets (spelling t)
  arm_octets no_arms n t fit = cc
  arm_octets (more_arms name k s arms) n t fit =
      elim (nat_eq n k) as (λ b. cond b (fits s t) (arm_fits arms n t) ≡ true → AreOctets (spelling t)) [
        | true ↦ λ x. spelled_octets s t x
        | false ↦ λ x. arm_octets arms n t x
      ] fit

pub fields_spelled_octets : (fs : FieldTrees) (ts : List ValueTree) → fields_admit fs ts ≡ true → AreOctets (spelling_of_all ts)
fields_spelled_octets fs ts fit = items_octets fs (value_trees ts) fit
