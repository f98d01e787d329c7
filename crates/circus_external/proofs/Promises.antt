-- What follows for a caller from having been given the answer of reading.
use Rattle.std.proofs.Common.{◌≡◌, ℕ, ◌+◌, ◌-◌, ◌<◌, true, List, ◌++◌, length, take, drop, Result, Ok, Err, IfOk, refl, sym, ap, ◌∙◌, subst, arith}
use Rattle.std.proofs.lemmas.List.{take_at, get_or-drop}
use Rattle.circus_value.specs.ValueTree.{ValueTree}
use Rattle.circus_value.specs.ShapeTree.{ShapeTree, FieldTrees}
use Rattle.circus_value.specs.Fits.{fits}
use Rattle.circus_external.specs.declared.fault.ExternalFault.{ExternalFault}
use Rattle.circus_external.specs.declared.fault.ExternalFault.TheVariants as fault
use Rattle.circus_external.specs.Spelling.{pieces, pieces_of_all, spelling, spelling_of_all, fields_admit}
use Rattle.circus_external.specs.Answer.{Answer, found, short, not_a_value, bad_pad}
use Rattle.circus_value.specs.Parts.{AreOctets}
use Rattle.circus_external.specs.Refusal.{IsShort, IsNotAValue, IsBadPad, From, IsAnswer, is_proper, are_proper}
use Rattle.circus_external.specs.Reading.{reading, fields_reading}
use Rattle.circus_external.specs.Seen.Given.{Gives, IsReadAt}
use Rattle.circus_external.proofs.ShapesAlike.{alike, all_alike}
use Rattle.circus_external.proofs.OneAnswer.{one_answer, begins_alone}
use Rattle.circus_external.proofs.Sound.{Sound, sound_answer}
use Rattle.circus_external.proofs.ReadingSound.{reading_sound, fields_sound}

pub octets_rest : (bytes : List ℕ) (at : ℕ) → AreOctets bytes → AreOctets (drop at bytes)
octets_rest bytes at are k = subst (λ b. b < 256) (sym (get_or-drop at bytes k 0)) (are (at + k))

-- ---- the laws

pub answer_one : (shape : ShapeTree) (at : ℕ) (bytes : List ℕ) (a b : Answer ValueTree) → is_proper shape ≡ true → IsAnswer (fits shape) pieces at bytes a → IsAnswer (fits shape) pieces at bytes b → a ≡ b
answer_one shape at bytes a b proper = one_answer (fits shape) pieces (alike shape proper) at bytes a b

pub fields_answer_one : (fields : FieldTrees) (at : ℕ) (bytes : List ℕ) (a b : Answer (List ValueTree)) → are_proper fields ≡ true → IsAnswer (fields_admit fields) pieces_of_all at bytes a → IsAnswer (fields_admit fields) pieces_of_all at bytes b → a ≡ b
fields_answer_one fields at bytes a b proper = one_answer (fields_admit fields) pieces_of_all (all_alike fields proper) at bytes a b

pub reading_answers : (shape : ShapeTree) (at : ℕ) (bytes : List ℕ) → AreOctets bytes → is_proper shape ≡ true → IsAnswer (fits shape) pieces at bytes (reading shape at bytes)
reading_answers shape at bytes are proper = sound_answer (is_proper shape ≡ true) (fits shape) pieces at bytes (reading shape at bytes) proper (reading_sound shape at bytes are)

pub fields_reading_answers : (fields : FieldTrees) (at : ℕ) (bytes : List ℕ) → AreOctets bytes → are_proper fields ≡ true → IsAnswer (fields_admit fields) pieces_of_all at bytes (fields_reading fields at bytes)
fields_reading_answers fields at bytes are proper = sound_answer (are_proper fields ≡ true) (fields_admit fields) pieces_of_all at bytes (fields_reading fields at bytes) proper (fields_sound fields at bytes are)

pub begins_no_other : (shape : ShapeTree) → is_proper shape ≡ true → (v w : ValueTree) (x y : List ℕ) → fits shape v ≡ true → fits shape w ≡ true → spelling v ++ x ≡ spelling w ++ y → (v ≡ w) × (x ≡ y)
begins_no_other shape proper v w x y f g same = begins_alone (v ≡ w) (pieces v) (pieces w) x y (alike shape proper v w f g) same

pub fields_begin_no_others : (fields : FieldTrees) → are_proper fields ≡ true → (vs ws : List ValueTree) (x y : List ℕ) → fields_admit fields vs ≡ true → fields_admit fields ws ≡ true → spelling_of_all vs ++ x ≡ spelling_of_all ws ++ y → (vs ≡ ws) × (x ≡ y)
fields_begin_no_others fields proper vs ws x y f g same = begins_alone (vs ≡ ws) (pieces_of_all vs) (pieces_of_all ws) x y (all_alike fields proper vs ws f g) same

pub spelled_read : (shape : ShapeTree) → is_proper shape ≡ true → (v : ValueTree) (at : ℕ) (rest : List ℕ) → fits shape v ≡ true → AreOctets (spelling v ++ rest) → reading shape at (spelling v ++ rest) ≡ found v (at + length (spelling v)) rest
spelled_read shape proper v at rest f are =
    answer_one shape at (spelling v ++ rest) _ _ proper (reading_answers shape at (spelling v ++ rest) are proper)
    (length (spelling v), refl, record { admitted = f; whole = refl; offset_is = refl })

pub fields_spelled_read : (fields : FieldTrees) → are_proper fields ≡ true → (vs : List ValueTree) (at : ℕ) (rest : List ℕ) → fields_admit fields vs ≡ true → AreOctets (spelling_of_all vs ++ rest) → fields_reading fields at (spelling_of_all vs ++ rest) ≡ found vs (at + length (spelling_of_all vs)) rest
fields_spelled_read fields proper vs at rest f are =
    fields_answer_one fields at (spelling_of_all vs ++ rest) _ _ proper (fields_reading_answers fields at (spelling_of_all vs ++ rest) are proper)
    (length (spelling_of_all vs), refl, record { admitted = f; whole = refl; offset_is = refl })

pub read_is_spelled : (shape : ShapeTree) (at : ℕ) (bytes : List ℕ) (v : ValueTree) (next : ℕ) (rest : List ℕ) → AreOctets bytes → reading shape at bytes ≡ found v next rest → (fits shape v ≡ true) × (bytes ≡ spelling v ++ rest) × (next ≡ at + length (spelling v))
read_is_spelled shape at bytes v next rest are is =
    let s = subst (Sound (is_proper shape ≡ true) (fits shape) pieces at bytes) is (reading_sound shape at bytes are) in
    (s.2.admitted, s.2.whole, s.1 ∙ ap (λ o. at + o) s.2.offset_is)

pub fields_read_are_spelled : (fields : FieldTrees) (at : ℕ) (bytes : List ℕ) (vs : List ValueTree) (next : ℕ) (rest : List ℕ) → AreOctets bytes → fields_reading fields at bytes ≡ found vs next rest → (fields_admit fields vs ≡ true) × (bytes ≡ spelling_of_all vs ++ rest) × (next ≡ at + length (spelling_of_all vs))
fields_read_are_spelled fields at bytes vs next rest are is =
    let s = subst (Sound (are_proper fields ≡ true) (fields_admit fields) pieces_of_all at bytes) is (fields_sound fields at bytes are) in
    (s.2.admitted, s.2.whole, s.1 ∙ ap (λ o. at + o) s.2.offset_is)

-- ---- what the code's answer tells

pub given_value : {Y : Type 0} (tree : Y → ValueTree) (shape : ShapeTree) (bytes : List ℕ) (at : ℕ) (result : Result (Y × ℕ) ExternalFault) → AreOctets bytes → Gives tree bytes result (reading shape at (drop at bytes)) → IfOk result (λ r. IsReadAt shape (tree r.0) bytes at r.1)
given_value tree shape bytes at (Ok r) are gives =
    let s = read_is_spelled shape at (drop at bytes) (tree r.0) r.1 (drop r.1 bytes) (octets_rest bytes at are) gives.1 in
    let size : length (spelling (tree r.0)) ≡ r.1 - at = omega (arith, s.2) in
    record {
      spelling = record { admitted = s.0; spelled = ap (take (r.1 - at)) s.1 ∙ take_at (spelling (tree r.0)) (drop r.1 bytes) (r.1 - at) size };
      order = omega (arith, s.2);
      within = gives.0;
    }
given_value tree shape bytes at (Err f) are gives = tt

given_answer : (shape : ShapeTree) (bytes : List ℕ) (at : ℕ) (a : Answer ValueTree) → AreOctets bytes → is_proper shape ≡ true → reading shape at (drop at bytes) ≡ a → IsAnswer (fits shape) pieces at (drop at bytes) a
given_answer shape bytes at a are proper is = subst (IsAnswer (fits shape) pieces at (drop at bytes)) is (reading_answers shape at (drop at bytes) (octets_rest bytes at are) proper)

pub given_short : {Y : Type 0} (tree : Y → ValueTree) (shape : ShapeTree) (bytes : List ℕ) (at : ℕ) (result : Result (Y × ℕ) ExternalFault) → AreOctets bytes → Gives tree bytes result (reading shape at (drop at bytes)) → (place : ℕ) → result ≡ Err (fault.Short place) → is_proper shape ≡ true → From (IsShort (fits shape) pieces (drop at bytes)) at place
given_short tree shape bytes at result are gives place is proper =
    given_answer shape bytes at (short place) are proper (subst (λ r. Gives tree bytes r (reading shape at (drop at bytes))) is gives)

pub given_not_a_value : {Y : Type 0} (tree : Y → ValueTree) (shape : ShapeTree) (bytes : List ℕ) (at : ℕ) (result : Result (Y × ℕ) ExternalFault) → AreOctets bytes → Gives tree bytes result (reading shape at (drop at bytes)) → (place : ℕ) → result ≡ Err (fault.NotAValue place) → is_proper shape ≡ true → From (IsNotAValue (fits shape) pieces (drop at bytes)) at place
given_not_a_value tree shape bytes at result are gives place is proper =
    given_answer shape bytes at (not_a_value place) are proper (subst (λ r. Gives tree bytes r (reading shape at (drop at bytes))) is gives)

pub given_bad_pad : {Y : Type 0} (tree : Y → ValueTree) (shape : ShapeTree) (bytes : List ℕ) (at : ℕ) (result : Result (Y × ℕ) ExternalFault) → AreOctets bytes → Gives tree bytes result (reading shape at (drop at bytes)) → (place : ℕ) → result ≡ Err (fault.BadPad place) → is_proper shape ≡ true → From (IsBadPad (fits shape) pieces (drop at bytes)) at place
given_bad_pad tree shape bytes at result are gives place is proper =
    given_answer shape bytes at (bad_pad place) are proper (subst (λ r. Gives tree bytes r (reading shape at (drop at bytes))) is gives)

pub given_only : {Y : Type 0} (tree : Y → ValueTree) (shape : ShapeTree) (bytes : List ℕ) (at : ℕ) (result : Result (Y × ℕ) ExternalFault) → AreOctets bytes → Gives tree bytes result (reading shape at (drop at bytes)) → (answer : Answer ValueTree) → is_proper shape ≡ true → IsAnswer (fits shape) pieces at (drop at bytes) answer → Gives tree bytes result answer
given_only tree shape bytes at result are gives answer proper is =
    subst (Gives tree bytes result) (answer_one shape at (drop at bytes) _ _ proper (reading_answers shape at (drop at bytes) (octets_rest bytes at are) proper) is) gives
