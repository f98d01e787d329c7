use Rattle.std.proofs.Common.{◌+◌, ap, ◌∙◌}
use Rattle.std.specs.Option.{unwrap_or}
use Rattle.circus_stub.specs.Flat.{part_end}
use Rattle.circus_stub.proofs.StandLemmas.{end_behind, first_stands}
use Rattle.circus_stub.proofs.place.place_behind.Goals as goal

pub bounds-operations-place : goal.bounds-operations-place
bounds-operations-place c = c.requires.1.within

pub returns : goal.returns
returns c = λ shape standing.
    let here = c.index-operations-place.is ∙ first_stands c.args.operations.now c.args.place c.index-operations-place.result shape standing in
    c.unwrap_or.ensures ∙ ap (λ o. unwrap_or o (c.args.place + 1)) (c.end.ensures ∙ ap part_end here) ∙ end_behind shape c.args.place
