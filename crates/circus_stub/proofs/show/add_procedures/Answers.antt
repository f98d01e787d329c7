use Rattle.circus_stub.specs.Compiled.{procedure_stub}
use Rattle.circus_stub.specs.StubsText.{procedure_lines}
use Rattle.circus_stub.proofs.ShowLemmas.{flat_map_shown, mapped_at, mapped_within}
use Rattle.circus_stub.proofs.show.add_procedures.Goals as goal

pub bounds-stubs-place : goal.bounds-stubs-place
bounds-stubs-place c = mapped_within procedure_stub c.args.procedures.now c.args.stubs.now c.loop-place.place c.requires c.loop-place-test.true

pub add_procedure-requires : goal.add_procedure-requires
add_procedure-requires c =
    mapped_at procedure_stub c.args.procedures.now c.args.stubs.now c.loop-place.place c.index-procedures-place.result c.index-stubs-place.result c.requires c.loop-place-test.true c.index-procedures-place.is c.index-stubs-place.is

pub loop-place-preserved : goal.loop-place-preserved
loop-place-preserved c =
    flat_map_shown procedure_lines c.args.procedures.now c.loop-place.place c.index-procedures-place.result c.loop-place.text _ _ c.loop-place-test.true c.index-procedures-place.is c.in_ok-add_procedure.ensures c.loop-place.invariant
