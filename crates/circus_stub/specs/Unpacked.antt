-- What unpacking comes to, by the shapes of an interface.
use Rattle.std.specs.Prelude.{◌≡◌, ℕ, zero, suc, ◌==◌, nat_lt, cond, Option, Some, None, Result, Ok, Err, List, [], ◌∷◌, length, drop, find}
use Rattle.std.specs.Option.{option_map, option_map_or}
use Rattle.circus_value.specs.Among.{is_among}
use Rattle.circus_value.specs.ValueTree.{ValueTree}
use Rattle.circus_value.specs.ShapeTree.{FieldTrees, no_fields, field_trees}
use Rattle.circus_value.specs.declared.outcome.Outcome.{Outcome}
use Rattle.circus_value.specs.declared.outcome.Outcome.TheVariants.{Returned, Raised}
use Rattle.circus_model.specs.LanguageError.{is_language_error}
use Rattle.circus_idl.specs.declared.interface.Interface.{Interface}
use Rattle.circus_idl.specs.declared.interface.Procedure.{Procedure}
use Rattle.circus_idl.specs.declared.interface.DeclaredError.{DeclaredError}
use Rattle.circus_external.specs.Answer.{Answer, found, short, not_a_value, bad_pad}
use Rattle.circus_external.specs.Octets.{first_word}
use Rattle.circus_external.specs.Reading.{fields_reading}
use Rattle.circus_stub.specs.declared.fault.StubFault.{StubFault}
use Rattle.circus_stub.specs.declared.fault.StubFault.TheVariants.{NoProcedure, Large, Short, NotAValue, BadPad, NoError, Excess, NoMemory}

-- the code's answer is this one, or memory ran out
abbrev pub Answers : {X : Type 0} → Result X StubFault → Result X StubFault → Type 0
Answers (Ok x) answer = answer ≡ Ok x
Answers (Err NoMemory) answer = Unit {0}
Answers (Err (NoProcedure n)) answer = answer ≡ Err (NoProcedure n)
Answers (Err (Large n)) answer = answer ≡ Err (Large n)
Answers (Err (Short place)) answer = answer ≡ Err (Short place)
Answers (Err (NotAValue place)) answer = answer ≡ Err (NotAValue place)
Answers (Err (BadPad place)) answer = answer ≡ Err (BadPad place)
Answers (Err (NoError n)) answer = answer ≡ Err (NoError n)
Answers (Err (Excess place)) answer = answer ≡ Err (Excess place)

-- the first procedure with a number
abbrev pub procedure_of : Interface → ℕ → Option Procedure
procedure_of i n = find (λ (p : Procedure). p.number == n) i.procedures

-- the first error with a number
abbrev pub error_of : Interface → ℕ → Option DeclaredError
error_of i n = find (λ (e : DeclaredError). e.number == n) i.errors

-- the fields of what a procedure raises under a number: a declared error that it reports, or one of the language
abbrev pub raised_fields : Interface → Procedure → ℕ → Option FieldTrees
raised_fields i p n =
    cond (is_among p.reports n) (option_map (λ (e : DeclaredError). field_trees e.arguments) (error_of i n)) (cond (is_language_error n) (Some no_fields) None)

-- the bytes from a place on are too many, or this is the answer
abbrev pub unless_too_long : {X : Type 0} → ℕ → ℕ → List ℕ → Result X StubFault → Result X StubFault
unless_too_long limit at bytes answer =
    cond (nat_lt limit (length (drop at bytes))) (Err (Large (length (drop at bytes)))) answer

-- values behind which nothing stands
abbrev pub values_alone : Answer (List ValueTree) → Result (List ValueTree) StubFault
values_alone (found values next []) = Ok values
values_alone (found values next (_ ∷ _)) = Err (Excess next)
values_alone (short place) = Err (Short place)
values_alone (not_a_value place) = Err (NotAValue place)
values_alone (bad_pad place) = Err (BadPad place)

-- the values of fields, of all bytes from a place on
abbrev pub values_unpacked : FieldTrees → ℕ → ℕ → List ℕ → Result (List ValueTree) StubFault
values_unpacked fields limit at bytes =
    unless_too_long limit at bytes (values_alone (fields_reading fields at (drop at bytes)))

-- the interface's procedure decides, where there is one
abbrev pub by_procedure : {X : Type 0} → Interface → ℕ → (Procedure → Result X StubFault) → Result X StubFault
by_procedure i n answer = option_map_or answer (procedure_of i n) (Err (NoProcedure n))

-- the arguments of a procedure
abbrev pub arguments_unpacked : Interface → ℕ → ℕ → List ℕ → Result (List ValueTree) StubFault
arguments_unpacked i limit n bytes =
    by_procedure i n (λ (p : Procedure). values_unpacked (field_trees p.arguments) limit 0 bytes)

abbrev pub as_returned : Result (List ValueTree) StubFault → Result Outcome StubFault
as_returned (Ok values) = Ok (Returned values)
as_returned (Err fault) = Err fault

abbrev pub as_raised : ℕ → Result (List ValueTree) StubFault → Result Outcome StubFault
as_raised n (Ok values) = Ok (Raised n values)
as_raised n (Err fault) = Err fault

-- the values that are raised under a number
abbrev pub raised_values : ℕ → ℕ → List ℕ → Option FieldTrees → Result (List ValueTree) StubFault
raised_values n limit bytes (Some fields) = values_unpacked fields limit 4 bytes
raised_values n limit bytes None = unless_too_long limit 4 bytes (Err (NoError n))

-- an error's number and its values, behind the first word
abbrev pub raised_unpacked : Interface → Procedure → ℕ → List ℕ → Option ℕ → Result Outcome StubFault
raised_unpacked i p limit bytes (Some n) = as_raised n (raised_values n limit bytes (raised_fields i p n))
raised_unpacked i p limit bytes None = Err (Short 2)

-- by the first word: 0 before results, 1 before an error's number
abbrev pub outcome_behind : Interface → Procedure → ℕ → List ℕ → Option ℕ → Result Outcome StubFault
outcome_behind i p limit bytes (Some zero) = as_returned (values_unpacked (field_trees p.results) limit 2 bytes)
outcome_behind i p limit bytes (Some (suc zero)) = raised_unpacked i p limit bytes (first_word (drop 2 bytes))
outcome_behind i p limit bytes (Some (suc (suc _))) = Err (NotAValue 0)
outcome_behind i p limit bytes None = Err (Short 0)

-- the outcome of a procedure
abbrev pub outcome_unpacked : Interface → ℕ → ℕ → List ℕ → Result Outcome StubFault
outcome_unpacked i limit n bytes =
    by_procedure i n (λ (p : Procedure). outcome_behind i p limit bytes (first_word bytes))
