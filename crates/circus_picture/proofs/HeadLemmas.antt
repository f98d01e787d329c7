-- Headers that are read are those of the plain reader (the same lemmas as in circus_node, which keeps them to itself).
use Rattle.std.proofs.Common.{◌≡◌, ℕ, ◌+◌, ◌<◌, ◌≤◌, inl, inr, Bool, true, false, ◌&&◌, List, [], length, drop, Option, Some, None, Result, Ok, Err, refl, sym, ap, ◌∙◌}
use Rattle.std.proofs.lemmas.Bool.{le-leb, lt-leb}
use Rattle.std.specs.Prelude.{nat_le, option_map, IfOk, if◌then◌else◌}
use Rattle.std.specs.Result.{result_ok}
use Rattle.circus_external.proofs.OctetLemmas.{first_word_some, first_long_some, first_word_none, first_long_none}
use Rattle.circus_header.specs.Reading.{Headers, calls, returns, IsAnswer}
use Rattle.circus_header.specs.Seen.Layout.{Size, of_word, of_long, size_len, Layout, StandsAt, Reading, refused, ended, cut, out, more}
use Rattle.circus_header.specs.Seen.Layouts.{call_layout, return_layout}
use Rattle.circus_header.specs.declared.call.Call.{Call}
use Rattle.circus_header.specs.declared.answer.ReturnHeader.{ReturnHeader}
use Rattle.circus_header.specs.declared.header_fault.HeaderFault.{HeaderFault}
use Rattle.circus_header.specs.declared.header_fault.HeaderFault.TheVariants.{BadField, NoMemory}
use Rattle.circus_header.proofs.Meanings.{Under}
use Rattle.circus_header.proofs.Answering.{closed, settled}
use Rattle.circus_header.proofs.Calls.{under_calls}
use Rattle.circus_header.proofs.Returns.{under_returns}
use Rattle.circus_collate.specs.declared.table.Table.{Table}
use Rattle.circus_ring.specs.TableFields.{tables, IsTableRead}
use Rattle.circus_ring.specs.Seen.TableLayout.{table_layout}
use Rattle.circus_ring.proofs.Tabling.{under_tables, whole as with_length, as_answer, not_refused}
use Rattle.circus_node.specs.Headers.{first_number, in_range, read_by, whole, call_in, return_in, table_in}

-- ---- numbers

front_some : (octets : List ℕ) (at : ℕ) (s : Size) (n : ℕ) → StandsAt octets at s n → first_number s (drop at octets) ≡ Some n
front_some octets at of_word n stands = first_word_some octets at n stands.room stands.here
front_some octets at of_long n stands = first_long_some octets at n stands.room stands.here

front_none : (octets : List ℕ) (at : ℕ) (s : Size) → length octets < at + size_len s → first_number s (drop at octets) ≡ None
front_none octets at of_word less = first_word_none octets at less
front_none octets at of_long less = first_long_none octets at less

inside : {A : Type 0} (least most at n : ℕ) (next : ℕ → Result A HeaderFault) → least ≤ n → n ≤ most → in_range least most at next (Some n) ≡ next n
inside least most at n next low high =
    ap (λ b. if b && nat_le n most then next n else Err (BadField at)) (le-leb least n low)
    ∙ ap (λ b. if b then next n else Err (BadField at)) (le-leb n most high)

below : {A : Type 0} (least most at n : ℕ) (next : ℕ → Result A HeaderFault) → n < least → in_range least most at next (Some n) ≡ Err (BadField at)
below least most at n next less = ap (λ b. if b && nat_le n most then next n else Err (BadField at)) (lt-leb least n less)

no_more : (b : Bool) → (b && false) ≡ false
no_more true = refl
no_more false = refl

above : {A : Type 0} (least most at n : ℕ) (next : ℕ → Result A HeaderFault) → most < n → in_range least most at next (Some n) ≡ Err (BadField at)
above least most at n next less =
    ap (λ b. if nat_le least n && b then next n else Err (BadField at)) (lt-leb n most less)
    ∙ ap (λ b. if b then next n else Err (BadField at)) (no_more (nat_le least n))

-- ---- layouts

pub read_as : {A : Type 0} (octets : List ℕ) (t : Layout A) (at : ℕ) (r : Result (A × ℕ) HeaderFault)
    → Reading octets t at r → (r ≡ Err NoMemory → ⊥) → read_by t at octets ≡ r
read_as octets t at r refused made = absurd (made refl)
read_as octets t at r ended made = refl
read_as octets t at r (cut {size = s} {least = l} {most = m} {next = next} less) made =
    ap (in_range l m at (λ n. read_by (next n) (at + size_len s) octets)) (front_none octets at s less)
read_as octets t at r (out {size = s} {least = l} {most = m} {next = next} n stands outside) made =
    let go_on : ℕ → Result _ HeaderFault = λ k. read_by (next k) (at + size_len s) octets in
    ap (in_range l m at go_on) (front_some octets at s n stands)
    ∙ elim outside as (λ _. in_range l m at go_on (Some n) ≡ Err (BadField at)) [
      | inl less ↦ below l m at n go_on less
      | inr less ↦ above l m at n go_on less
    ]
read_as octets t at r (more {size = s} {least = l} {most = m} {next = next} n stands low high behind) made =
    let go_on : ℕ → Result _ HeaderFault = λ k. read_by (next k) (at + size_len s) octets in
    ap (in_range l m at go_on) (front_some octets at s n stands)
    ∙ inside l m at n go_on low high
    ∙ read_as octets (next n) (at + size_len s) r behind made

-- ---- headers

closed_whole : {H : Type 0} (hs : Headers H) (octets : List ℕ) (r : Result (H × ℕ) HeaderFault) → closed hs octets r ≡ whole hs.goes_on octets r
closed_whole hs octets (Ok x) = refl
closed_whole hs octets (Err e) = refl

not_memory : {H : Type 0} (hs : Headers H) (octets : List ℕ) (r p : Result (H × ℕ) HeaderFault)
    → r ≡ closed hs octets p → (r ≡ Err NoMemory → ⊥) → p ≡ Err NoMemory → ⊥
not_memory hs octets r p e never is = never (e ∙ ap (closed hs octets) is)

-- an answer is what reading by the layout comes to
answer_is : {H : Type 0} (hs : Headers H) (octets : List ℕ) (t : Layout H) (r : Result (H × ℕ) HeaderFault)
    → Under hs t [] → IsAnswer hs octets r → (r ≡ Err NoMemory → ⊥) → whole hs.goes_on octets (read_by t 0 octets) ≡ r
answer_is hs octets t r u a made =
    let x = settled hs octets t r u a in
    ap (whole hs.goes_on octets) (read_as octets t 0 x.read x.reading (not_memory hs octets r x.read x.is made))
    ∙ sym (closed_whole hs octets x.read) ∙ sym x.is

pub call_in_is : (message : List ℕ) (r : Result (Call × ℕ) HeaderFault) → IsAnswer calls message r → (r ≡ Err NoMemory → ⊥) → result_ok r ≡ call_in message
call_in_is message r a made = sym (ap result_ok (answer_is calls message call_layout r under_calls a made))

pub return_in_is : (message : List ℕ) (r : Result (ReturnHeader × ℕ) HeaderFault) → IsAnswer returns message r → (r ≡ Err NoMemory → ⊥) → result_ok r ≡ return_in message
return_in_is message r a made = sym (ap result_ok (answer_is returns message return_layout r under_returns a made))

-- ---- tables

abbrev table_of : Result (Table × ℕ) HeaderFault → Option Table
table_of r = option_map (λ (read : Table × ℕ). read.0) (result_ok r)

with_its_length : (bytes : List ℕ) (r : Result Table HeaderFault) → table_of (with_length bytes r) ≡ result_ok r
with_its_length bytes (Ok table) = refl
with_its_length bytes (Err e) = refl

pub table_in_is : (bytes : List ℕ) (r : Result Table HeaderFault) → IsTableRead bytes r → (r ≡ Err NoMemory → ⊥) → result_ok r ≡ table_in bytes
table_in_is bytes r is made =
    sym (with_its_length bytes r)
    ∙ sym (ap table_of (answer_is tables bytes table_layout (with_length bytes r) under_tables (as_answer bytes r is) (not_refused bytes r made)))

-- ---- in code

-- what was found is what is meant, where memory was found
pub found_is : {E T : Type 0} (r : Result (Option T) E) (read : Result T HeaderFault) (meant : Option T)
    → IfOk r (λ found. found ≡ result_ok read) → IfOk r (λ found. read ≡ Err NoMemory → ⊥) → ((read ≡ Err NoMemory → ⊥) → result_ok read ≡ meant)
    → IfOk r (λ found. found ≡ meant)
found_is (Ok found) read meant is made same = is ∙ same made
found_is (Err e) read meant is made same = tt
