use Rattle.std.proofs.Common.{◌<◌, [], length, arith}
use Rattle.std.proofs.lemmas.List.{map-set, get_or-map}
use Rattle.circus_model.proofs.alone.Thread.note.Goals as goal

pub returns-clause-runs : goal.returns-clause-runs
returns-clause-runs c =
    let within : c.args.place < length c.args.self.now.runs.items = omega (arith, c.requires.runs, c.args.self.now.runs.ok) in
    let before = get_or-map (λ runs. runs.items) c.args.self.now.runs.items c.args.place c.index_mut.result.now [] within in
    let changed = map-set (λ runs. runs.items) c.keep.new.self.runs.items c.from.result c.push.new.self in
    cc (before, changed, c.index_mut.ensures.value, c.in_ok-push.ensures.items, c.keep.ensures.runs, c.from.ensures)
