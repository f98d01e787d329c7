-- States that are read where they were spelled, and messages that hand over none.
use Rattle.std.proofs.Common.{◌≡◌, ℕ, ◌<◌, ◌^◌, Bool, true, false, ◌&&◌, List, [], ◌++◌, Option, None, Some, refl, sym, ap, ◌∙◌, subst, append-nil}
use Rattle.std.specs.Prelude.{nat_le, option_and_then, if◌then◌else◌}
use Rattle.std.proofs.lemmas.Bool.{lt-ltb}
use Rattle.circus_value.specs.ValueTree.{ValueTree}
use Rattle.circus_value.specs.ExternalSize.{size_of_values}
use Rattle.circus_value.specs.Fits.{all_fit}
use Rattle.circus_value.specs.Parts.{AreOctets}
use Rattle.circus_value.specs.declared.shape.Shape.{Shape}
use Rattle.circus_external.specs.Spelling.{fields_admit}
use Rattle.circus_external.specs.Reading.{fields_reading}
use Rattle.circus_external.specs.Refusal.{are_proper}
use Rattle.circus_external.proofs.Promises.{fields_spelled_read}
use Rattle.circus_external.proofs.OctetsSpelled.{fields_spelled_octets}
use Rattle.circus_header.specs.Field.{bytes_of}
use Rattle.circus_header.specs.ReturnFields.{return_fields}
use Rattle.circus_header.specs.declared.answer.ReturnHeader.TheVariants.{Table}
use Rattle.circus_transfer.specs.Snapshot.{fields_of, snapshot_fields, snapshot_values, snapshot_bytes}
use Rattle.circus_transfer.proofs.Fields.{admits}
use Rattle.circus_member_rules.specs.Messages.{stale_message, before_message}
use Rattle.circus_node.specs.Bodies.{found_whole, counted_state, restored_in}

snapshot_admitted : (variables : List Shape) (state : List ValueTree) (count : ℕ) → all_fit variables state ≡ true → count < 2 ^ 32
    → fields_admit (snapshot_fields variables) (snapshot_values count state) ≡ true
snapshot_admitted variables state count fit few =
    ap (λ b. b && fields_admit (fields_of variables) state) (lt-ltb count 4294967296 few) ∙ admits variables state ∙ fit

pub snapshot_octets : (variables : List Shape) (state : List ValueTree) (count : ℕ) → all_fit variables state ≡ true → count < 2 ^ 32 → AreOctets (snapshot_bytes count state)
snapshot_octets variables state count fit few = fields_spelled_octets (snapshot_fields variables) (snapshot_values count state) (snapshot_admitted variables state count fit few)

-- what is spelled is found whole
pub snapshot_found : (variables : List Shape) (count : ℕ) (state : List ValueTree) → are_proper (fields_of variables) ≡ true → all_fit variables state ≡ true → count < 2 ^ 32
    → found_whole (fields_reading (snapshot_fields variables) 0 (snapshot_bytes count state)) ≡ Some (snapshot_values count state)
snapshot_found variables count state proper fit few =
    let values = snapshot_values count state in
    let bytes = snapshot_bytes count state in
    let nothing = append-nil bytes in
    let octets = subst AreOctets (sym nothing) (snapshot_octets variables state count fit few) in
    ap found_whole (ap (fields_reading (snapshot_fields variables) 0) (sym nothing)
    ∙ fields_spelled_read (snapshot_fields variables) proper values 0 [] (snapshot_admitted variables state count fit few) octets)

-- the state that is restored is the one that was handed over
pub state_is : (variables : List Shape) (most count : ℕ) (state : List ValueTree) (restored : List ValueTree × ℕ)
    → are_proper (fields_of variables) ≡ true → all_fit variables state ≡ true → count < 2 ^ 32
    → restored_in variables most (snapshot_bytes count state) ≡ Some restored → restored ≡ (state, count)
state_is variables most count state restored proper fit few is =
    by_test (nat_le (size_of_values state) most) (ap limited (sym (snapshot_found variables count state proper fit few)) ∙ is)
  where
    limited : Option (List ValueTree) → Option (List ValueTree × ℕ)
    limited values =
        option_and_then (λ (r : List ValueTree × ℕ). if nat_le (size_of_values r.0) most then Some r else None) (option_and_then counted_state values)

    by_test : (within : Bool) → (if within then Some (state, count) else None) ≡ Some restored → restored ≡ (state, count)
    by_test true e = cc
    by_test false e = cc

-- ---- no states

pub stale_no_state : (variables : List Shape) (most incarnation : ℕ) → restored_in variables most (stale_message incarnation) ≡ None
stale_no_state variables most incarnation = refl

pub before_no_state : (variables : List Shape) (most first : ℕ) → restored_in variables most (before_message first) ≡ None
before_no_state variables most first = refl

pub table_no_state : (variables : List Shape) (most : ℕ) (rest : List ℕ) → restored_in variables most (bytes_of (return_fields Table) ++ rest) ≡ None
table_no_state variables most rest = refl
