use Rattle.std.proofs.Common.{◌≡◌, ◌∙◌, ap, sym, is_none}
use Rattle.circus_fault.specs.Least.{least_from, faults_if}
use Rattle.circus_fault.proofs.LeastIs.{none_result}
use Rattle.circus_resolve.specs.declared.cause.CheckCause.TheVariants.{Unknown}
use Rattle.circus_resolve.specs.Causes.{rank}
use Rattle.circus_check.specs.Naming.{interface_called}
use Rattle.circus_check.specs.Faults.{interface_faults}
use Rattle.circus_check.proofs.OwnTables.{none_called}
use Rattle.circus_check.proofs.module.check_interface.Goals as goal

pub returns-in-Some : goal.returns-in-Some
returns-in-Some c =
    let interfaces = c.args.naming.now.interfaces.now in
    let best = c.args.best.now.fault in
    let name = c.in-Some.name in
    let none : c.is_none.result ≡ is_none (interface_called interfaces name) =
    none_result c.is_none.result c.interface-known.result c.is_none.ensures ∙ ap is_none c.interface-known.ensures ∙ sym (none_called interfaces name.name) in
    c.note.ensures ∙ ap (λ b. least_from rank best (faults_if b name.at Unknown)) none
    ∙ ap (λ o. least_from rank best (interface_faults interfaces o)) (sym c.in-Some.is)
