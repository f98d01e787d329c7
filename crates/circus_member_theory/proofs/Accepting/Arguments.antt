-- Values that are read where they were spelled.
use Rattle.std.proofs.Common.{◌≡◌, ℕ, ◌+◌, true, List, [], length, Some, sym, ap, ◌∙◌, subst, append-nil}
use Rattle.std.specs.Option.{option_map_or}
use Rattle.circus_value.specs.ValueTree.{ValueTree}
use Rattle.circus_value.specs.Fits.{all_fit}
use Rattle.circus_value.specs.Parts.{AreOctets}
use Rattle.circus_value.specs.declared.shape.Shape.{Shape}
use Rattle.circus_external.specs.Answer.{found}
use Rattle.circus_external.specs.Spelling.{spelling_of_all}
use Rattle.circus_external.specs.Refusal.{are_proper}
use Rattle.circus_external.specs.Reading.{fields_reading}
use Rattle.circus_external.proofs.Promises.{fields_spelled_read}
use Rattle.circus_external.proofs.OctetsSpelled.{fields_spelled_octets}
use Rattle.circus_transfer.specs.Snapshot.{fields_of}
use Rattle.circus_transfer.proofs.Fields.{admits}
use Rattle.circus_model.specs.declared.signature.ProcedureShape.{ProcedureShape}
use Rattle.circus_model.specs.Lawful.{procedure_numbered}
use Rattle.circus_member_rules.specs.Messages.{values_found, arguments_in}

pub values_octets : (shapes : List Shape) (values : List ValueTree) → all_fit shapes values ≡ true → AreOctets (spelling_of_all values)
values_octets shapes values fit = fields_spelled_octets (fields_of shapes) values (admits shapes values ∙ fit)

-- values that fit their shapes are found whole
pub values_read : (shapes : List Shape) (values : List ValueTree) (at : ℕ) → are_proper (fields_of shapes) ≡ true → all_fit shapes values ≡ true
    → fields_reading (fields_of shapes) at (spelling_of_all values) ≡ found values (at + length (spelling_of_all values)) []
values_read shapes values at proper fit =
    let nothing = append-nil (spelling_of_all values) in
    ap (fields_reading (fields_of shapes) at) (sym nothing)
    ∙ fields_spelled_read (fields_of shapes) proper values at [] (admits shapes values ∙ fit) (subst AreOctets (sym nothing) (values_octets shapes values fit))

pub arguments_read : (procedures : List ProcedureShape) (number : ℕ) (p : ProcedureShape) (arguments : List ValueTree)
    → procedure_numbered number procedures ≡ Some p → are_proper (fields_of p.arguments) ≡ true → all_fit p.arguments arguments ≡ true
    → arguments_in procedures number (spelling_of_all arguments) ≡ arguments
arguments_read procedures number p arguments is proper fit =
    ap (λ o. option_map_or (λ (q : ProcedureShape). values_found (fields_reading (fields_of q.arguments) 0 (spelling_of_all arguments))) o []) is
    ∙ ap values_found (values_read p.arguments arguments 0 proper fit)
