use Rattle.circus_idl.proofs.ShownSome.{each_more}
use Rattle.circus_idl.specs.Shown.{declared_procedure}
use Rattle.circus_idl.proofs.writer.Writer.procedures.Goals as goal

pub loop-procedure-preserved : goal.loop-procedure-preserved
loop-procedure-preserved c =
    each_more (declared_procedure c.args.errors.now.errors.now) c.args.procedures.now c.loop-procedure.procedure-index c.procedure-item.result _ _ _ c.loop-procedure-test.true c.procedure-item.is c.in_ok-procedure.ensures c.loop-procedure.invariant
