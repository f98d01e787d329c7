use Rattle.std.proofs.Common.{◌+◌, ◌∙◌, ap, sym, drop}
use Rattle.circus_fault.specs.Seen.Tables.{holds_name}
use Rattle.circus_type.proofs.Dropped.{drop_more}
use Rattle.circus_check.specs.Faults.{also_parameters}
use Rattle.circus_check.proofs.VariablesFound.{none_held}
use Rattle.circus_check.proofs.module.parameters.Goals as goal

pub loop-procedure-init : goal.loop-procedure-init
loop-procedure-init c = ap (also_parameters c.in-Some.procedures.now) (none_held c.new-names.result c.new-names.ensures)

pub loop-procedure-preserved : goal.loop-procedure-preserved
loop-procedure-preserved c =
    let ps = c.in-Some.procedures.now in
    let old = c.loop-procedure in
    let left = drop_more ps old.procedure-index c.procedure-item.result c.loop-procedure-test.true c.procedure-item.is in
    ap (also_parameters (drop (old.procedure-index + 1) ps)) c.in_ok-also_fields.ensures
    ∙ ap (λ qs. also_parameters qs (holds_name old.names)) (sym left) ∙ old.invariant
