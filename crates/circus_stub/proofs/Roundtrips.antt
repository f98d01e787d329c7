-- Unpacking what was packed, and packing what was unpacked.
use Rattle.std.proofs.Common.{◌≡◌, ℕ, ◌+◌, ◌≤◌, true, false, cond, nat_lt, Option, Some, None, Result, Ok, Err, List, [], ◌∷◌, ◌++◌, length, refl, sym, ap, ◌∙◌, subst, append-nil, zero, suc, get_or, drop, arith, ◌<◌}
use Rattle.std.specs.Int.{w16, from_be_bytes}
use Rattle.std.specs.Prelude.{IfOk}
use Rattle.std.specs.Option.{option_map_or}
use Rattle.std.proofs.lemmas.List.{drop-drop}
use Rattle.std.proofs.lemmas.Nat.{be_bytes_2, from_be_bytes-to_be_bytes_2}
use Rattle.std.proofs.lemmas.Bool.{le-ltb, ltb-false}
use Rattle.circus_value.specs.declared.outcome.Outcome.TheVariants.{Returned, Raised}
use Rattle.circus_value.specs.declared.outcome.Outcome.{Outcome}
use Rattle.circus_value.specs.ValueTree.{ValueTree}
use Rattle.circus_value.specs.ShapeTree.{field_trees, FieldTrees}
use Rattle.circus_idl.specs.declared.interface.Interface.{Interface}
use Rattle.circus_idl.specs.declared.interface.Procedure.{Procedure}
use Rattle.circus_external.specs.Octets.{word, first_word}
use Rattle.circus_external.specs.Answer.{Answer, found, short, not_a_value, bad_pad}
use Rattle.circus_external.specs.Reading.{fields_reading}
use Rattle.circus_value.specs.Parts.{AreOctets}
use Rattle.circus_external.specs.Refusal.{are_proper}
use Rattle.circus_external.specs.Spelling.{spelling_of_all, fields_admit}
use Rattle.circus_external.proofs.Promises.{fields_spelled_read, fields_read_are_spelled, octets_rest}
use Rattle.circus_external.proofs.OctetsSpelled.{fields_spelled_octets}
use Rattle.circus_stub.specs.declared.fault.StubFault.{StubFault}
use Rattle.circus_stub.specs.declared.fault.StubFault.TheVariants as stub
use Rattle.circus_stub.specs.Packed.{AreArguments, MayEnd, IsOutcome, outcome_spelling, outcome_values}
use Rattle.circus_stub.specs.Unpacked.{Answers, procedure_of, unless_too_long, values_alone, values_unpacked, arguments_unpacked, as_returned, as_raised, raised_fields, raised_values, raised_unpacked, outcome_behind, outcome_unpacked}

-- what was found, with nothing behind
record Alone (a : Answer (List ValueTree)) (values : List ValueTree) : Type 0 where
  next : ℕ
  is : a ≡ found values next []

alone : (a : Answer (List ValueTree)) (values : List ValueTree) → values_alone a ≡ Ok values → Alone a values
alone (found vs next []) values is = record { next = next; is = let same : vs ≡ values = cc in ap (λ ts. found ts next []) same }
alone (found vs next (b ∷ rest)) values is = absurd cc
alone (short place) values is = absurd cc
alone (not_a_value place) values is = absurd cc
alone (bad_pad place) values is = absurd cc

within_limit : {X : Type 0} (limit at : ℕ) (bytes : List ℕ) (a : Result X StubFault) (x : X) → unless_too_long limit at bytes a ≡ Ok x → (length (drop at bytes) ≤ limit) × (a ≡ Ok x)
within_limit limit at bytes a x is =
    elim (nat_lt limit (length (drop at bytes))) as (λ b. nat_lt limit (length (drop at bytes)) ≡ b → cond b (Err (stub.Large (length (drop at bytes)))) a ≡ Ok x → (length (drop at bytes) ≤ limit) × (a ≡ Ok x)) [
      | true ↦ λ above same. absurd cc
      | false ↦ λ below same. (ltb-false limit (length (drop at bytes)) below, same)
    ] refl is

-- values that were unpacked from a place on
values_packed : (fields : FieldTrees) (limit at : ℕ) (bytes : List ℕ) (values : List ValueTree) → AreOctets bytes → values_unpacked fields limit at bytes ≡ Ok values → (fields_admit fields values ≡ true) × (drop at bytes ≡ spelling_of_all values) × (length (drop at bytes) ≤ limit)
values_packed fields limit at bytes values octets is =
    let l = within_limit limit at bytes (values_alone (fields_reading fields at (drop at bytes))) values is in
    let a = alone (fields_reading fields at (drop at bytes)) values l.1 in
    let read = fields_read_are_spelled fields at (drop at bytes) values a.next [] (octets_rest bytes at octets) a.is in
    (read.0, read.1 ∙ append-nil (spelling_of_all values), l.0)

procedure_found : {X : Type 0} (o : Option Procedure) (answer : Procedure → Result X StubFault) (n : ℕ) (x : X) → option_map_or answer o (Err (stub.NoProcedure n)) ≡ Ok x → (p : Procedure) × (o ≡ Some p) × (answer p ≡ Ok x)
procedure_found None answer n x is = absurd cc
procedure_found (Some p) answer n x is = (p, refl, is)

pub unpacked_is_packed : (i : Interface) (limit n : ℕ) (bytes : List ℕ) (values : List ValueTree) → AreOctets bytes → arguments_unpacked i limit n bytes ≡ Ok values → AreArguments i n values × (bytes ≡ spelling_of_all values) × (length bytes ≤ limit)
unpacked_is_packed i limit n bytes values octets is =
    let p = procedure_found (procedure_of i n) (λ (p : Procedure). values_unpacked (field_trees p.arguments) limit 0 bytes) n values is in
    let v = values_packed (field_trees p.0.arguments) limit 0 bytes values octets p.2 in
    (record { procedure = p.0; declared = p.1; admitted = v.0 }, v.1, v.2)

-- values that were packed, from a place on
values_unpack : (fields : FieldTrees) (limit at : ℕ) (bytes : List ℕ) (values : List ValueTree) → are_proper fields ≡ true → fields_admit fields values ≡ true → length (spelling_of_all values) ≤ limit → drop at bytes ≡ spelling_of_all values → values_unpacked fields limit at bytes ≡ Ok values
values_unpack fields limit at bytes values proper admitted few is =
    let spelled = spelling_of_all values in
    let whole : spelled ++ [] ≡ spelled = append-nil spelled in
    let octets = subst AreOctets (sym whole) (fields_spelled_octets fields values admitted) in
    let read : fields_reading fields at spelled ≡ found values (at + length spelled) [] =
    ap (fields_reading fields at) (sym whole) ∙ fields_spelled_read fields proper values at [] admitted octets in
    let not_above : nat_lt limit (length spelled) ≡ false = le-ltb limit (length spelled) few in
    ap (λ xs. cond (nat_lt limit (length xs)) (Err (stub.Large (length xs))) (values_alone (fields_reading fields at xs))) is
    ∙ ap (λ b. cond b (Err (stub.Large (length spelled))) (values_alone (fields_reading fields at spelled))) not_above
    ∙ ap values_alone read

pub packed_is_unpacked : (i : Interface) (limit n : ℕ) (values : List ValueTree) → (fits : AreArguments i n values) → are_proper (field_trees fits.procedure.arguments) ≡ true → length (spelling_of_all values) ≤ limit → arguments_unpacked i limit n (spelling_of_all values) ≡ Ok values
packed_is_unpacked i limit n values fits proper few =
    let bytes = spelling_of_all values in
    ap (λ o. option_map_or (λ (p : Procedure). values_unpacked (field_trees p.arguments) limit 0 bytes) o (Err (stub.NoProcedure n))) fits.declared
    ∙ values_unpack (field_trees fits.procedure.arguments) limit 0 bytes values proper fits.admitted few refl

-- what an answer says of its values
pub answer_is_packed : (i : Interface) (limit n : ℕ) (bytes : List ℕ) (result : Result (List ValueTree) StubFault) → AreOctets bytes → Answers result (arguments_unpacked i limit n bytes) → IfOk result (λ values. AreArguments i n values × (bytes ≡ spelling_of_all values))
answer_is_packed i limit n bytes (Ok values) octets is = let packed = unpacked_is_packed i limit n bytes values octets is in (packed.0, packed.1)
answer_is_packed i limit n bytes (Err fault) octets is = tt

-- ---- outcomes

word_front : (bytes : List ℕ) (n : ℕ) → AreOctets bytes → first_word bytes ≡ Some n → bytes ≡ word n ++ drop 2 bytes
word_front [] n are is = absurd cc
word_front (a ∷ []) n are is = absurd cc
word_front (a ∷ b ∷ rest) n are is =
    let m : ℕ = from_be_bytes w16 (a ∷ b ∷ []) in
    let same : m ≡ n = cc in
    let spelled : word m ≡ a ∷ b ∷ [] = be_bytes_2 (a ∷ b ∷ []) m refl (two_octets a b (are 0) (are 1)) refl in
    ap (λ l. l ++ rest) (sym spelled) ∙ ap (λ k. word k ++ rest) same
  where
    two_octets : (a b : ℕ) → a < 256 → b < 256 → (i : ℕ) → get_or (a ∷ b ∷ []) i 0 < 256
    two_octets a b high low zero = high
    two_octets a b high low (suc zero) = low
    two_octets a b high low (suc (suc i)) = omega arith

returned : (a : Result (List ValueTree) StubFault) (outcome : Outcome) → as_returned a ≡ Ok outcome → (values : List ValueTree) × (a ≡ Ok values) × (outcome ≡ Returned values)
returned (Ok values) outcome is = (values, refl, cc)
returned (Err fault) outcome is = absurd cc

raised : (n : ℕ) (a : Result (List ValueTree) StubFault) (outcome : Outcome) → as_raised n a ≡ Ok outcome → (values : List ValueTree) × (a ≡ Ok values) × (outcome ≡ Raised n values)
raised n (Ok values) outcome is = (values, refl, cc)
raised n (Err fault) outcome is = absurd cc

-- an outcome of the procedure, whose bytes these are and whose values are within the limit
abbrev Ends : Interface → Procedure → ℕ → List ℕ → Outcome → Type 0
Ends i p limit bytes outcome =
    MayEnd i p outcome × (bytes ≡ outcome_spelling outcome) × (length (spelling_of_all (outcome_values outcome)) ≤ limit)

-- what stands behind the first word and an error's number
raised_ends : (i : Interface) (p : Procedure) (limit n : ℕ) (bytes : List ℕ) (outcome : Outcome) (o : Option FieldTrees) → AreOctets bytes → first_word bytes ≡ Some 1 → first_word (drop 2 bytes) ≡ Some n → raised_fields i p n ≡ o → as_raised n (raised_values n limit bytes o) ≡ Ok outcome → Ends i p limit bytes outcome
raised_ends i p limit n bytes outcome None octets one number fields is =
    let r = raised n (raised_values n limit bytes None) outcome is in
    let l = within_limit limit 4 bytes (Err (stub.NoError n)) r.0 r.1 in
    let never = l.1 in absurd cc
raised_ends i p limit n bytes outcome (Some fs) octets one number fields is =
    let r = raised n (raised_values n limit bytes (Some fs)) outcome is in
    let v = values_packed fs limit 4 bytes r.0 octets r.1 in
    let rest : drop 2 bytes ≡ word n ++ drop 4 bytes = word_front (drop 2 bytes) n (octets_rest bytes 2 octets) number ∙ ap (λ l. word n ++ l) (drop-drop 2 2 bytes) in
    let whole : bytes ≡ word 1 ++ (word n ++ spelling_of_all r.0) = word_front bytes 1 octets one ∙ ap (λ l. word 1 ++ l) (rest ∙ ap (λ l. word n ++ l) v.1) in
    subst (Ends i p limit bytes) (sym r.2) ((fs, fields, v.0), whole, subst (λ xs. length xs ≤ limit) v.1 v.2)

raised_behind : (i : Interface) (p : Procedure) (limit : ℕ) (bytes : List ℕ) (outcome : Outcome) (o : Option ℕ) → AreOctets bytes → first_word bytes ≡ Some 1 → first_word (drop 2 bytes) ≡ o → raised_unpacked i p limit bytes o ≡ Ok outcome → Ends i p limit bytes outcome
raised_behind i p limit bytes outcome None octets one number is = absurd cc
raised_behind i p limit bytes outcome (Some n) octets one number is =
    raised_ends i p limit n bytes outcome (raised_fields i p n) octets one number refl is

ends_behind : (i : Interface) (p : Procedure) (limit : ℕ) (bytes : List ℕ) (outcome : Outcome) (o : Option ℕ) → AreOctets bytes → first_word bytes ≡ o → outcome_behind i p limit bytes o ≡ Ok outcome → Ends i p limit bytes outcome
ends_behind i p limit bytes outcome None octets kind is = absurd cc
ends_behind i p limit bytes outcome (Some zero) octets kind is =
    let r = returned (values_unpacked (field_trees p.results) limit 2 bytes) outcome is in
    let v = values_packed (field_trees p.results) limit 2 bytes r.0 octets r.1 in
    let whole : bytes ≡ word 0 ++ spelling_of_all r.0 = word_front bytes 0 octets kind ∙ ap (λ l. word 0 ++ l) v.1 in
    subst (Ends i p limit bytes) (sym r.2) (v.0, whole, subst (λ xs. length xs ≤ limit) v.1 v.2)
ends_behind i p limit bytes outcome (Some (suc zero)) octets kind is =
    raised_behind i p limit bytes outcome (first_word (drop 2 bytes)) octets kind refl is
ends_behind i p limit bytes outcome (Some (suc (suc n))) octets kind is = absurd cc

pub unpacked_outcome_is_packed : (i : Interface) (limit n : ℕ) (bytes : List ℕ) (outcome : Outcome) → AreOctets bytes → outcome_unpacked i limit n bytes ≡ Ok outcome → IsOutcome i n outcome × (bytes ≡ outcome_spelling outcome) × (length (spelling_of_all (outcome_values outcome)) ≤ limit)
unpacked_outcome_is_packed i limit n bytes outcome octets is =
    let p = procedure_found (procedure_of i n) (λ (p : Procedure). outcome_behind i p limit bytes (first_word bytes)) n outcome is in
    let ends = ends_behind i p.0 limit bytes outcome (first_word bytes) octets refl p.2 in
    (record { procedure = p.0; declared = p.1; ends = ends.0 }, ends.1, ends.2)

front_word : (n : ℕ) (rest : List ℕ) → n < 65536 → first_word (word n ++ rest) ≡ Some n
front_word n rest few = ap Some (from_be_bytes-to_be_bytes_2 n few)

outcome_by : (i : Interface) (limit n : ℕ) (p : Procedure) (bytes : List ℕ) (kind : ℕ) → procedure_of i n ≡ Some p → first_word bytes ≡ Some kind → outcome_unpacked i limit n bytes ≡ outcome_behind i p limit bytes (Some kind)
outcome_by i limit n p bytes kind declared is =
    ap (λ o. option_map_or (λ (q : Procedure). outcome_behind i q limit bytes (first_word bytes)) o (Err (stub.NoProcedure n))) declared
    ∙ ap (outcome_behind i p limit bytes) is

pub returned_is_unpacked : (i : Interface) (limit n : ℕ) (p : Procedure) (results : List ValueTree) → procedure_of i n ≡ Some p → fields_admit (field_trees p.results) results ≡ true → are_proper (field_trees p.results) ≡ true → length (spelling_of_all results) ≤ limit → outcome_unpacked i limit n (outcome_spelling (Returned results)) ≡ Ok (Returned results)
returned_is_unpacked i limit n p results declared admitted proper few =
    let bytes = outcome_spelling (Returned results) in
    outcome_by i limit n p bytes 0 declared (front_word 0 (spelling_of_all results) (omega arith))
    ∙ ap as_returned (values_unpack (field_trees p.results) limit 2 bytes results proper admitted few refl)

pub raised_is_unpacked : (i : Interface) (limit n : ℕ) (p : Procedure) (e : ℕ) (fields : FieldTrees) (values : List ValueTree) → procedure_of i n ≡ Some p → e < 65536 → raised_fields i p e ≡ Some fields → fields_admit fields values ≡ true → are_proper fields ≡ true → length (spelling_of_all values) ≤ limit → outcome_unpacked i limit n (outcome_spelling (Raised e values)) ≡ Ok (Raised e values)
raised_is_unpacked i limit n p e fields values declared small raises admitted proper few =
    let bytes = outcome_spelling (Raised e values) in
    outcome_by i limit n p bytes 1 declared (front_word 1 (word e ++ spelling_of_all values) (omega arith))
    ∙ ap (raised_unpacked i p limit bytes) (front_word e (spelling_of_all values) small)
    ∙ ap (λ o. as_raised e (raised_values e limit bytes o)) raises
    ∙ ap (as_raised e) (values_unpack fields limit 4 bytes values proper admitted few refl)

-- what an answer says of its outcome
pub outcome_answer_is_packed : (i : Interface) (limit n : ℕ) (bytes : List ℕ) (result : Result Outcome StubFault) → AreOctets bytes → Answers result (outcome_unpacked i limit n bytes) → IfOk result (λ outcome. IsOutcome i n outcome × (bytes ≡ outcome_spelling outcome))
outcome_answer_is_packed i limit n bytes (Ok outcome) octets is = let packed = unpacked_outcome_is_packed i limit n bytes outcome octets is in (packed.0, packed.1)
outcome_answer_is_packed i limit n bytes (Err fault) octets is = tt
