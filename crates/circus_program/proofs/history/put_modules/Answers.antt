use Rattle.std.proofs.Common.{refl, ◌∙◌}
use Rattle.circus_report.specs.Run.{IsPut}
use Rattle.circus_report.proofs.PutLemmas.{at_fault}
use Rattle.circus_commands.specs.HistoryLines.{module_lines, modules_lines}
use Rattle.circus_program.proofs.Putting.{item-put, item-cut}
use Rattle.circus_program.proofs.history.put_modules.Goals as goal

pub returns-in_err-put_module-clause-put : goal.returns-in_err-put_module-clause-put
returns-in_err-put_module-clause-put g c =
    let names = g.N.Naming.names c.args.names.now in
    let modules = c.args.modules.now in
    at_fault (IsPut (modules_lines names 0 modules) (g.K.Sink.written c.args.sink.now) (g.K.Sink.written c.put_module.new.sink)) c.from_residual.result c.in_err-put_module.field-0.0 c.from_residual.ensures.1
    (item-cut (modules_lines names) (module_lines names) (λ n x xs. refl) (modules_lines names 0 modules) (g.K.Sink.written c.args.sink.now) (g.K.Sink.written c.loop-number.sink) (g.K.Sink.written c.put_module.new.sink)
    modules c.loop-number.number c.index-modules-number.result c.loop-number-test.true c.index-modules-number.is c.loop-number.invariant.put c.in_err-put_module.field-0.0 c.in_err-put_module.ensures.put)

pub loop-number-preserved : goal.loop-number-preserved
loop-number-preserved g c =
    let names = g.N.Naming.names c.args.names.now in
    let modules = c.args.modules.now in
    record {
      put =
          item-put (modules_lines names) (module_lines names) (λ n x xs. refl) (modules_lines names 0 modules) (g.K.Sink.written c.args.sink.now) (g.K.Sink.written c.loop-number.sink) (g.K.Sink.written c.put_module.new.sink)
          modules c.loop-number.number c.index-modules-number.result c.loop-number-test.true c.index-modules-number.is c.loop-number.invariant.put c.in_ok-put_module.ensures.put;
      count = c.in_ok-put_module.ensures.count ∙ c.loop-number.invariant.count;
    }
