use Rattle.std.proofs.Common.{◌∙◌, ap}
use Rattle.std.specs.Prelude.{option_copied}
use Rattle.circus_idl.proofs.FirstPlace.{found_is, none_is}
use Rattle.circus_idl.proofs.errors_by_number.ErrorsByNumber.error.Goals as goal

pub returns-in_err-place : goal.returns-in_err-place
returns-in_err-place c = ap option_copied c.from_residual.ensures ∙ none_is c.args.self.now.errors.now c.args.number (c.in_err-place.ensures.value ∙ c.args.self.now.found c.args.number)

pub returns : goal.returns
returns c = c.at.ensures ∙ found_is c.args.self.now.errors.now c.args.number c.in_ok-place.place.now (c.in_ok-place.ensures.value ∙ c.args.self.now.found c.args.number)
