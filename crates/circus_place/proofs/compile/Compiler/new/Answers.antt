use Rattle.std.proofs.Common.{◌∙◌, ap}
use Rattle.circus_place.specs.Value.{attribute_in}
use Rattle.circus_place.proofs.Tables.{tables_more}
use Rattle.circus_place.proofs.compile.Compiler.new.Goals as goal

pub loop-machine-preserved : goal.loop-machine-preserved
loop-machine-preserved c =
    tables_more c.as_slice-machine-items.result.now c.loop-machine.machine-index c.machine-item.result c.loop-machine.machines.items c.push.new.self.items c.in_ok-of.field-0 c.loop-machine-test.true c.machine-item.is c.loop-machine.invariant
    (λ name. c.in_ok-of.ensures name ∙ ap (λ attributes. attribute_in attributes name) c.as_slice.ensures) c.in_ok-push.ensures.items
