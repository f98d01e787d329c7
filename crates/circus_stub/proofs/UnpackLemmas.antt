-- Unpacking by stubs, and by the interface that they were compiled from.
use Rattle.std.proofs.Common.{◌≡◌, ℕ, zero, suc, ◌+◌, ◌<◌, ◌≤◌, Bool, true, false, cond, nat_eq, nat_lt, Option, Some, None, Result, Ok, Err, List, [], ◌∷◌, length, map, drop, refl, sym, ap, ◌∙◌, arith, append-nil, length-drop}
use Rattle.std.specs.Prelude.{find, slice_get}
use Rattle.std.specs.Option.{option_map}
use Rattle.circus_value.specs.ValueTree.{ValueTree}
use Rattle.circus_value.specs.ShapeTree.{FieldTrees, no_fields, field_trees}
use Rattle.circus_idl.specs.declared.interface.Interface.{Interface}
use Rattle.circus_idl.specs.declared.interface.Procedure.{Procedure}
use Rattle.circus_idl.specs.declared.interface.DeclaredError.{DeclaredError}
use Rattle.circus_external.specs.declared.fault.ExternalFault.{ExternalFault}
use Rattle.circus_external.specs.declared.fault.ExternalFault.TheVariants as external
use Rattle.circus_external.specs.Answer.{Answer, found}
use Rattle.circus_external.specs.Seen.Given.{Gives}
use Rattle.circus_stub.specs.declared.fault.StubFault.{StubFault}
use Rattle.circus_stub.specs.declared.fault.StubFault.TheVariants as stub
use Rattle.circus_stub.specs.declared.operation.Operation.{Operation}
use Rattle.circus_stub.specs.declared.stubs.ProcedureStub.{ProcedureStub}
use Rattle.circus_stub.specs.declared.stubs.ErrorStub.{ErrorStub}
use Rattle.circus_stub.specs.Seen.Faults.{stub_fault}
use Rattle.circus_stub.specs.Flat.{flat_fields}
use Rattle.circus_stub.specs.Seen.Standing.{FieldsStand}
use Rattle.circus_stub.specs.Compiled.{compile_stubs, procedure_stub, error_stub, stub_of, error_values, raised_operations}
use Rattle.circus_external.specs.Octets.{first_word}
use Rattle.circus_value.specs.Among.{is_among}
use Rattle.circus_model.specs.LanguageError.{is_language_error}
use Rattle.circus_stub.specs.Unpacked.{Answers, as_raised, raised_values, raised_unpacked, procedure_of, error_of, raised_fields, unless_too_long, values_alone}
use Rattle.circus_stub.proofs.FlatLemmas.{length-flat_fields}

-- ---- values

-- a whole list of operations
pub all_stand : (ops : List Operation) (fields : FieldTrees) → ops ≡ flat_fields fields 0 → FieldsStand ops 0 (length ops) fields
all_stand ops fields is =
    record {
      rest = [];
      stands = is ∙ sym (append-nil (flat_fields fields 0));
      ends = omega (arith, ap length is, length-flat_fields fields 0);
    }

pub fault_answers : (octets : List ℕ) (fault : ExternalFault) (a : Answer (List ValueTree)) → Gives {X = List ValueTree} {Y = List ValueTree} (λ ts. ts) octets (Err fault) a → Answers (Err (stub_fault fault)) (values_alone a)
fault_answers octets (external.Short place) a gives = ap values_alone gives
fault_answers octets (external.NotAValue place) a gives = ap values_alone gives
fault_answers octets (external.BadPad place) a gives = ap values_alone gives
fault_answers octets external.NoMemory a gives = tt

-- what stands behind values
ended : (values : List ValueTree) (next : ℕ) (rest : List ℕ) → length rest ≡ 0 → values_alone (found values next rest) ≡ Ok values
ended values next [] none = refl
ended values next (b ∷ rest) none = absurd (omega arith)

exceeds : (values : List ValueTree) (next : ℕ) (rest : List ℕ) → 0 < length rest → values_alone (found values next rest) ≡ Err (stub.Excess next)
exceeds values next [] some = absurd (omega arith)
exceeds values next (b ∷ rest) some = refl

pub alone_ended : (octets : List ℕ) (values : List ValueTree) (next : ℕ) (a : Answer (List ValueTree)) → a ≡ found values next (drop next octets) → length octets ≤ next → values_alone a ≡ Ok values
alone_ended octets values next a is past =
    ap values_alone is ∙ ended values next (drop next octets) (omega (arith, length-drop next octets))

pub alone_exceeds : (octets : List ℕ) (values : List ValueTree) (next : ℕ) (a : Answer (List ValueTree)) → a ≡ found values next (drop next octets) → next < length octets → values_alone a ≡ Err (stub.Excess next)
alone_exceeds octets values next a is within =
    ap values_alone is ∙ exceeds values next (drop next octets) (omega (arith, length-drop next octets))

-- ---- the limit

pub is_limited : {X : Type 0} (limit at n : ℕ) (octets : List ℕ) (answer : Result X StubFault) → Some n ≡ cond (nat_lt limit (length (drop at octets))) (Some (length (drop at octets))) None → unless_too_long limit at octets answer ≡ Err (stub.Large n)
is_limited limit at n octets answer =
    elim (nat_lt limit (length (drop at octets))) as (λ b. Some n ≡ cond b (Some (length (drop at octets))) None → cond b (Err (stub.Large (length (drop at octets)))) answer ≡ Err (stub.Large n)) [
      | true ↦ λ is. let same : length (drop at octets) ≡ n = cc in ap (λ k. Err (stub.Large k)) same
      | false ↦ λ is. cc
    ]

pub is_unlimited : {X : Type 0} (limit at : ℕ) (octets : List ℕ) (answer : Result X StubFault) → None ≡ cond (nat_lt limit (length (drop at octets))) (Some (length (drop at octets))) None → unless_too_long limit at octets answer ≡ answer
is_unlimited limit at octets answer =
    elim (nat_lt limit (length (drop at octets))) as (λ b. None ≡ cond b (Some (length (drop at octets))) None → cond b (Err (stub.Large (length (drop at octets)))) answer ≡ answer) [
      | true ↦ λ is. cc
      | false ↦ λ is. refl
    ]

-- ---- procedures and errors by their numbers

find-map : {X Y : Type 0} (p : Y → Bool) (f : X → Y) (xs : List X) → find p (map f xs) ≡ option_map f (find (λ x. p (f x)) xs)
find-map p f [] = refl
find-map p f (x ∷ xs) =
    elim (p (f x)) as (λ b. cond b (Some (f x)) (find p (map f xs)) ≡ option_map f (cond b (Some x) (find (λ y. p (f y)) xs))) [
      | true ↦ refl
      | false ↦ find-map p f xs
    ]

pub stub_of-compiled : (i : Interface) (limit n : ℕ) → stub_of (compile_stubs i limit) n ≡ option_map procedure_stub (procedure_of i n)
stub_of-compiled i limit n = find-map (λ (p : ProcedureStub). nat_eq p.number n) procedure_stub i.procedures

mapped_some : {X Y : Type 0} (f : X → Y) (o : Option X) (y : Y) → Some y ≡ option_map f o → (x : X) × (o ≡ Some x) × (y ≡ f x)
mapped_some f None y is = absurd cc
mapped_some f (Some x) y is = (x, refl, cc)

mapped_none : {X Y : Type 0} (f : X → Y) (o : Option X) → None ≡ option_map f o → o ≡ None
mapped_none f None is = refl
mapped_none f (Some x) is = absurd cc

pub stub_found : (i : Interface) (limit n : ℕ) (p : ProcedureStub) → Some p ≡ stub_of (compile_stubs i limit) n → (q : Procedure) × (procedure_of i n ≡ Some q) × (p ≡ procedure_stub q)
stub_found i limit n p is = mapped_some procedure_stub (procedure_of i n) p (is ∙ stub_of-compiled i limit n)

pub stub_missing : (i : Interface) (limit n : ℕ) → None ≡ stub_of (compile_stubs i limit) n → procedure_of i n ≡ None
stub_missing i limit n is = mapped_none procedure_stub (procedure_of i n) (is ∙ stub_of-compiled i limit n)

-- the operations of fields, in a list of their own
abbrev pub fields_alone : FieldTrees → List Operation
fields_alone fields = flat_fields fields 0

option_map-option_map : {X Y Z : Type 0} (f : X → Y) (g : Y → Z) (o : Option X) → option_map g (option_map f o) ≡ option_map (λ x. g (f x)) o
option_map-option_map f g None = refl
option_map-option_map f g (Some x) = refl

error_values-compiled : (i : Interface) (limit n : ℕ) → error_values (compile_stubs i limit) n ≡ option_map fields_alone (option_map (λ (e : DeclaredError). field_trees e.arguments) (error_of i n))
error_values-compiled i limit n =
    ap (option_map (λ (e : ErrorStub). e.values)) (find-map (λ (e : ErrorStub). nat_eq e.number n) error_stub i.errors)
    ∙ option_map-option_map error_stub (λ (e : ErrorStub). e.values) (error_of i n)
    ∙ sym (option_map-option_map (λ (e : DeclaredError). field_trees e.arguments) fields_alone (error_of i n))

pub raised_operations-compiled : (i : Interface) (p : Procedure) (limit n : ℕ) → raised_operations (compile_stubs i limit) (procedure_stub p) n ≡ option_map fields_alone (raised_fields i p n)
raised_operations-compiled i p limit n =
    elim (is_among p.reports n) as (λ b. cond b (error_values (compile_stubs i limit) n) (cond (is_language_error n) (Some []) None) ≡ option_map fields_alone (cond b (option_map (λ (e : DeclaredError). field_trees e.arguments) (error_of i n)) (cond (is_language_error n) (Some no_fields) None))) [
      | true ↦ error_values-compiled i limit n
      | false ↦ elim (is_language_error n) as (λ b. cond b (Some []) None ≡ option_map fields_alone (cond b (Some no_fields) None)) [
        | true ↦ refl
        | false ↦ refl
      ]
    ]

pub raised_found : (i : Interface) (p : Procedure) (limit n : ℕ) (ops : List Operation) → Some ops ≡ raised_operations (compile_stubs i limit) (procedure_stub p) n → (fields : FieldTrees) × (raised_fields i p n ≡ Some fields) × (ops ≡ flat_fields fields 0)
raised_found i p limit n ops is = mapped_some fields_alone (raised_fields i p n) ops (is ∙ raised_operations-compiled i p limit n)

pub raised_missing : (i : Interface) (p : Procedure) (limit n : ℕ) → None ≡ raised_operations (compile_stubs i limit) (procedure_stub p) n → raised_fields i p n ≡ None
raised_missing i p limit n is = mapped_none fields_alone (raised_fields i p n) (is ∙ raised_operations-compiled i p limit n)

-- ---- outcomes

pub raised_fault : (number : ℕ) (fault : StubFault) (a : Result (List ValueTree) StubFault) → Answers (Err fault) a → Answers (Err fault) (as_raised number a)
raised_fault number stub.NoMemory a answers = tt
raised_fault number (stub.NoProcedure n) a answers = ap (as_raised number) answers
raised_fault number (stub.Large n) a answers = ap (as_raised number) answers
raised_fault number (stub.Short place) a answers = ap (as_raised number) answers
raised_fault number (stub.NotAValue place) a answers = ap (as_raised number) answers
raised_fault number (stub.BadPad place) a answers = ap (as_raised number) answers
raised_fault number (stub.NoError n) a answers = ap (as_raised number) answers
raised_fault number (stub.Excess place) a answers = ap (as_raised number) answers

-- by the error's number
pub raised_is : (i : Interface) (p : Procedure) (limit n : ℕ) (octets : List ℕ) (fields : Option FieldTrees) → Some n ≡ first_word (drop 2 octets) → raised_fields i p n ≡ fields → raised_unpacked i p limit octets (first_word (drop 2 octets)) ≡ as_raised n (raised_values n limit octets fields)
raised_is i p limit n octets fields is same =
    ap (raised_unpacked i p limit octets) (sym is) ∙ ap (λ o. as_raised n (raised_values n limit octets o)) same

-- ---- bytes from a place on

pub slice_get-drop : (xs : List ℕ) (i k : ℕ) → slice_get (drop i xs) k ≡ slice_get xs (i + k)
slice_get-drop xs zero k = ap (slice_get xs) (omega arith)
slice_get-drop [] (suc i) k = refl
slice_get-drop (x ∷ xs) (suc i) k = let next : suc i + k ≡ suc (i + k) = omega arith in slice_get-drop xs i k ∙ ap (slice_get (x ∷ xs)) (sym next)

-- a procedure that is declared has its stub, and no other
pub stub_declared : (i : Interface) (limit n : ℕ) (p : Procedure) (stub : ProcedureStub) → Some stub ≡ stub_of (compile_stubs i limit) n → procedure_of i n ≡ Some p → stub ≡ procedure_stub p
stub_declared i limit n p stub is declared =
    let found = stub_found i limit n stub is in
    let same : found.0 ≡ p = cc in
    found.2 ∙ ap procedure_stub same

pub no_stub_missing : (i : Interface) (limit n : ℕ) (p : Procedure) → None ≡ stub_of (compile_stubs i limit) n → procedure_of i n ≡ Some p → ⊥
no_stub_missing i limit n p is declared = let missing = stub_missing i limit n is in absurd cc
