use Rattle.std.proofs.Common.{Option, [], ◌∙◌, ap, sym}
use Rattle.std.specs.Option.{option_copied, option_map_or}
use Rattle.circus_idl.specs.declared.interface.DeclaredError.{DeclaredError}
use Rattle.circus_idl.proofs.FirstPlace.{name_found}
use Rattle.circus_idl.proofs.errors_by_number.ErrorsByNumber.name.Goals as goal

pub returns-in-Some : goal.returns-in-Some
returns-in-Some c =
    c.as_slice.ensures
    ∙ ap (λ (o : Option DeclaredError). option_map_or (λ (e : DeclaredError). e.name) o []) (ap option_copied (sym c.in-Some.is) ∙ c.error.ensures)
    ∙ name_found c.args.self.now.errors.now c.args.number

pub returns-in-None : goal.returns-in-None
returns-in-None c =
    ap (λ (o : Option DeclaredError). option_map_or (λ (e : DeclaredError). e.name) o []) (ap option_copied (sym c.in-None.is) ∙ c.error.ensures)
    ∙ name_found c.args.self.now.errors.now c.args.number
