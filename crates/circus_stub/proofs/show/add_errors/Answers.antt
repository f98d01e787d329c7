use Rattle.circus_stub.specs.Compiled.{error_stub}
use Rattle.circus_stub.specs.StubsText.{error_line}
use Rattle.circus_stub.proofs.ShowLemmas.{flat_map_shown, mapped_at, mapped_within}
use Rattle.circus_stub.proofs.show.add_errors.Goals as goal

pub bounds-stubs-place : goal.bounds-stubs-place
bounds-stubs-place c = mapped_within error_stub c.args.errors.now c.args.stubs.now c.loop-place.place c.requires c.loop-place-test.true

pub add_error-requires : goal.add_error-requires
add_error-requires c =
    mapped_at error_stub c.args.errors.now c.args.stubs.now c.loop-place.place c.index-errors-place.result c.index-stubs-place.result c.requires c.loop-place-test.true c.index-errors-place.is c.index-stubs-place.is

pub loop-place-preserved : goal.loop-place-preserved
loop-place-preserved c =
    flat_map_shown error_line c.args.errors.now c.loop-place.place c.index-errors-place.result c.loop-place.text _ _ c.loop-place-test.true c.index-errors-place.is c.in_ok-add_error.ensures c.loop-place.invariant
