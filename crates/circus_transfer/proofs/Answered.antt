-- What reading the fields of a snapshot says of restoring it.
use Rattle.std.proofs.Common.{◌≡◌, ◌≢◌, ℕ, ◌+◌, ◌<◌, true, ◌&&◌, nat_lt, List, [], length, drop, Option, Some, None, Result, Ok, Err, refl, sym, ap, ◌∙◌, subst, arith, append-nil}
use Rattle.std.proofs.lemmas.List.{length-drop}
use Rattle.circus_value.specs.ValueTree.{ValueTree}
use Rattle.circus_value.specs.Fits.{all_fit}
use Rattle.circus_value.specs.Parts.{AreOctets}
use Rattle.circus_value.specs.declared.shape.Shape.{Shape}
use Rattle.circus_external.specs.declared.fault.ExternalFault.{ExternalFault}
use Rattle.circus_external.specs.declared.fault.ExternalFault.TheVariants as fault
use Rattle.circus_external.specs.Seen.Given.{Gives}
use Rattle.circus_external.specs.Answer.{Answer, found, short, not_a_value, bad_pad}
use Rattle.circus_external.specs.Spelling.{pieces_of_all, fields_admit}
use Rattle.circus_external.specs.Refusal.{IsShort, IsNotAValue, IsBadPad, IsFound, IsAnswer, are_proper}
use Rattle.circus_external.specs.Reading.{number_read, fields_reading}
use Rattle.circus_external.proofs.Promises.{octets_rest, fields_reading_answers, fields_spelled_read}
use Rattle.circus_external.proofs.OctetsSpelled.{fields_spelled_octets}
use Rattle.circus_external.proofs.ShapesAlike.{and_both}
use Rattle.circus_transfer.specs.Faults.{fault_of}
use Rattle.circus_transfer.specs.Snapshot.{fields_of, snapshot_fields, snapshot_values, snapshot_bytes}
use Rattle.circus_transfer.specs.Restoring.{is_snapshot, IsRestored}
use Rattle.circus_transfer.specs.Seen.Restored.{Restores}
use Rattle.circus_transfer.specs.declared.fault.TransferFault.{TransferFault}
use Rattle.circus_transfer.specs.declared.fault.TransferFault.TheVariants.{Short, BadField, NotAValue, BadPad, Excess, NoMemory}
use Rattle.circus_transfer.proofs.Fields.{admits}

-- ---- numbers

pub number_end : (o : Option ℕ) (size at : ℕ) (bs : List ℕ) (n next : ℕ) (rest : List ℕ) → number_read o size at bs ≡ found n next rest → next ≡ at + size
number_end (Some m) size at bs n next rest is = cc
number_end None size at bs n next rest is = cc

no_number_refused : (o : Option ℕ) (size at : ℕ) (bs : List ℕ) (place : ℕ) → number_read o size at bs ≡ not_a_value place → ⊥
no_number_refused (Some m) size at bs place is = cc
no_number_refused None size at bs place is = cc

pub bytes_left : (bs : List ℕ) (n : ℕ) → n < length bs → drop n bs ≢ []
bytes_left bs n few is = omega (arith, ap length is, length-drop n bs)

-- ---- answers

abbrev pub whole : List Shape → List ℕ → Answer (List ValueTree)
whole shapes bytes = fields_reading (snapshot_fields shapes) 0 bytes

-- a number that isn't the first one
abbrev pub IsLater : Result (List ValueTree × ℕ) TransferFault → Type 0
IsLater (Ok r) = Unit {0}
IsLater (Err (Short place)) = Unit {0}
IsLater (Err (BadField place)) = Unit {0}
IsLater (Err (NotAValue place)) = 0 < place
IsLater (Err (BadPad place)) = Unit {0}
IsLater (Err (Excess place)) = Unit {0}
IsLater (Err NoMemory) = Unit {0}

at_offset : (place offset : ℕ) → place ≡ 0 + offset → place ≡ offset
at_offset place offset is = omega (arith, is)

answered : (shapes : List Shape) (bytes : List ℕ) (a : Answer (List ValueTree)) → AreOctets bytes → are_proper (fields_of shapes) ≡ true → whole shapes bytes ≡ a → IsAnswer (is_snapshot shapes) pieces_of_all 0 bytes a
answered shapes bytes a are proper is = subst (IsAnswer (is_snapshot shapes) pieces_of_all 0 bytes) is (fields_reading_answers (snapshot_fields shapes) 0 bytes are proper)

refused : (shapes : List Shape) (bytes : List ℕ) (place : ℕ) → AreOctets bytes → are_proper (fields_of shapes) ≡ true → whole shapes bytes ≡ not_a_value place → IsNotAValue (is_snapshot shapes) pieces_of_all bytes place
refused shapes bytes place are proper is =
    let a = answered shapes bytes (not_a_value place) are proper is in
    subst (IsNotAValue (is_snapshot shapes) pieces_of_all bytes) (sym (at_offset place a.0 a.1)) a.2

found_there : (shapes : List Shape) (bytes : List ℕ) (values : List ValueTree) (place : ℕ) (rest : List ℕ) → AreOctets bytes → are_proper (fields_of shapes) ≡ true → whole shapes bytes ≡ found values place rest → IsFound (is_snapshot shapes) pieces_of_all bytes values place rest
found_there shapes bytes values place rest are proper is =
    let a = answered shapes bytes (found values place rest) are proper is in
    subst (λ n. IsFound (is_snapshot shapes) pieces_of_all bytes values n rest) (sym (at_offset place a.0 a.1)) a.2

pub restored : (shapes : List Shape) (bytes : List ℕ) (result : Result (List ValueTree × ℕ) TransferFault) → AreOctets bytes → are_proper (fields_of shapes) ≡ true → IsLater result → Restores bytes result (whole shapes bytes) → IsRestored shapes bytes result
restored shapes bytes (Ok r) are proper later is =
    let f = found_there shapes bytes (snapshot_values r.1 r.0) (length bytes) [] are proper is in
    let fit : fields_admit (fields_of shapes) r.0 ≡ true = (and_both (nat_lt r.1 4294967296) (fields_admit (fields_of shapes) r.0) f.admitted).1 in
    (sym (admits shapes r.0) ∙ fit, f.whole ∙ append-nil (snapshot_bytes r.1 r.0))
restored shapes bytes (Err (Short place)) are proper later is =
    let a = answered shapes bytes (short place) are proper is in
    subst (IsShort (is_snapshot shapes) pieces_of_all bytes) (sym (at_offset place a.0 a.1)) a.2
restored shapes bytes (Err (BadField place)) are proper later is =
    (is.0, refused shapes bytes place are proper (is.1 ∙ ap not_a_value (sym is.0)))
restored shapes bytes (Err (NotAValue place)) are proper later is = (later, refused shapes bytes place are proper is)
restored shapes bytes (Err (BadPad place)) are proper later is =
    let a = answered shapes bytes (bad_pad place) are proper is in
    subst (IsBadPad (is_snapshot shapes) pieces_of_all bytes) (sym (at_offset place a.0 a.1)) a.2
restored shapes bytes (Err (Excess place)) are proper later is = record {
  values = is.values;
  rest = is.rest;
  snapshot = found_there shapes bytes is.values place is.rest are proper is.answered;
  left = is.left;
}
restored shapes bytes (Err NoMemory) are proper later is = tt

-- a number in the state stands behind where the state begins
state_later : (shapes : List Shape) (bytes : List ℕ) (at place : ℕ) → 0 < at → AreOctets bytes → are_proper (fields_of shapes) ≡ true → fields_reading (fields_of shapes) at bytes ≡ not_a_value place → 0 < place
state_later shapes bytes at place behind are proper is =
    let a = subst (IsAnswer (fields_admit (fields_of shapes)) pieces_of_all at bytes) is (fields_reading_answers (fields_of shapes) at bytes are proper) in
    omega (arith, a.1, behind)

pub number_later : (bytes bs : List ℕ) (o : Option ℕ) (size at : ℕ) (f : ExternalFault) → Gives (λ n. n) bytes (Err f) (number_read o size at bs) → IsLater (Err (fault_of f))
number_later bytes bs o size at (fault.Short place) gives = tt
number_later bytes bs o size at (fault.NotAValue place) gives = absurd (no_number_refused o size at bs place gives)
number_later bytes bs o size at (fault.BadPad place) gives = tt
number_later bytes bs o size at fault.NoMemory gives = tt

pub state_fault_later : (shapes : List Shape) (bytes : List ℕ) (at : ℕ) (f : ExternalFault) → 0 < at → AreOctets bytes → are_proper (fields_of shapes) ≡ true → Gives (λ ts. ts) bytes (Err f) (fields_reading (fields_of shapes) at (drop at bytes)) → IsLater (Err (fault_of f))
state_fault_later shapes bytes at (fault.Short place) behind are proper gives = tt
state_fault_later shapes bytes at (fault.NotAValue place) behind are proper gives = state_later shapes (drop at bytes) at place behind (octets_rest bytes at are) proper gives
state_fault_later shapes bytes at (fault.BadPad place) behind are proper gives = tt
state_fault_later shapes bytes at fault.NoMemory behind are proper gives = tt

-- ---- the law

only_one : (bytes : List ℕ) (state : List ValueTree) (count next : ℕ) (result : Result (List ValueTree × ℕ) TransferFault) (a : Answer (List ValueTree)) → a ≡ found (snapshot_values count state) next [] → Restores bytes result a → result ≢ Err NoMemory → result ≡ Ok (state, count)
only_one bytes state count next (Ok r) a is restores other =
    let same : found (snapshot_values r.1 r.0) (length bytes) [] ≡ found (snapshot_values count state) next [] = sym restores ∙ is in
    let counts : r.1 ≡ count = cc in
    let states : r.0 ≡ state = cc in
    ap (λ s. Ok (s, r.1)) states ∙ ap (λ n. Ok (state, n)) counts
only_one bytes state count next (Err (Short place)) a is restores other = cc
only_one bytes state count next (Err (BadField place)) a is restores other = let wrong = restores.1 in cc
only_one bytes state count next (Err (NotAValue place)) a is restores other = cc
only_one bytes state count next (Err (BadPad place)) a is restores other = cc
only_one bytes state count next (Err (Excess place)) a is restores other =
    let same : found restores.values place restores.rest ≡ found (snapshot_values count state) next [] = sym restores.answered ∙ is in
    let none : restores.rest ≡ [] = cc in
    absurd (restores.left none)
only_one bytes state count next (Err NoMemory) a is restores other = absurd (other refl)

pub snapshot_restored : (shapes : List Shape) (state : List ValueTree) (count : ℕ) (result : Result (List ValueTree × ℕ) TransferFault) → are_proper (fields_of shapes) ≡ true → all_fit shapes state ≡ true → nat_lt count 4294967296 ≡ true → Restores (snapshot_bytes count state) result (whole shapes (snapshot_bytes count state)) → result ≢ Err NoMemory → result ≡ Ok (state, count)
snapshot_restored shapes state count result proper fit few restores other =
    let values = snapshot_values count state in
    let admitted : fields_admit (snapshot_fields shapes) values ≡ true = ap (λ b. b && fields_admit (fields_of shapes) state) few ∙ admits shapes state ∙ fit in
    let nothing = append-nil (snapshot_bytes count state) in
    let octets = subst AreOctets (sym nothing) (fields_spelled_octets (snapshot_fields shapes) values admitted) in
    let read = fields_spelled_read (snapshot_fields shapes) proper values 0 [] admitted octets in
    let whole_read : whole shapes (snapshot_bytes count state) ≡ found values (0 + length (snapshot_bytes count state)) [] = ap (whole shapes) (sym nothing) ∙ read in
    only_one (snapshot_bytes count state) state count (0 + length (snapshot_bytes count state)) result (whole shapes (snapshot_bytes count state)) whole_read restores other
