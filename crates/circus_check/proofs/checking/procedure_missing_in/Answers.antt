use Rattle.std.proofs.Common.{◌∙◌, ap, sym, map}
use Rattle.circus_lang.specs.ModuleTree.{module_of, procedure_of}
use Rattle.circus_check.specs.Faults.{lacking_of}
use Rattle.circus_check.specs.Scope.{implemented_by}
use Rattle.circus_check.specs.Seen.Programs.{interfaces_in, list_now}
use Rattle.circus_check.proofs.Told.{lacked_by, none_lacked}
use Rattle.circus_check.proofs.checking.procedure_missing_in.Goals as goal

pub returns-in_ok-first_missing-in-Some : goal.returns-in_ok-first_missing-in-Some
returns-in_ok-first_missing-in-Some c =
    let o = implemented_by (interfaces_in c.args.program.now) c.args.text.now.interface in
    let procedures = (module_of c.args.text.now).procedures in
    let order = c.in-Some.order.now in
    c.in_ok-first_missing-in-Some.ensures ∙ ap (λ ts. lacking_of order (map procedure_of ts)) c.as_slice.ensures ∙ lacked_by o order procedures (ap list_now (sym c.in-Some.is) ∙ c.order.ensures)

pub returns-in-None : goal.returns-in-None
returns-in-None c =
    let o = implemented_by (interfaces_in c.args.program.now) c.args.text.now.interface in
    none_lacked o (module_of c.args.text.now).procedures (ap list_now (sym c.in-None.is) ∙ c.order.ensures)
