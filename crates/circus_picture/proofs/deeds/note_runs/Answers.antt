use Rattle.std.proofs.Common.{◌+◌, refl, sym, ap, ◌∙◌, ◌++◌, take, map, append_assoc}
use Rattle.std.proofs.lemmas.List.{take_all}
use Rattle.circus_picture.specs.Deeds.{deeds_of_run, deeds_of_runs}
use Rattle.circus_picture.proofs.Fronts.{front_more}
use Rattle.circus_picture.proofs.KeptLemmas.{kept-as}
use Rattle.circus_picture.proofs.deeds.note_runs.Goals as goal

pub loop-later-preserved : goal.loop-later-preserved
loop-later-preserved c = λ count before kept.
    let node = c.args.node in
    let first = c.args.first in
    let runs = c.args.runs.now in
    let later = c.loop-later.later in
    let run = c.index-runs-later.result in
    let front = deeds_of_runs node first (take later runs) in
    kept-as count ((before ++ front) ++ deeds_of_run node (c.from.result + later) run) (before ++ deeds_of_runs node first (take (later + 1) runs))
    (map (λ own. own.items) c.note_run.new.steps.items)
    (append_assoc before front (deeds_of_run node (c.from.result + later) run)
    ∙ ap (λ k. before ++ (front ++ deeds_of_run node (k + later) run)) c.from.ensures
    ∙ ap (λ l. before ++ l) (sym (front_more (deeds_of_runs node) (deeds_of_run node) (λ n. refl) (λ n x xs. refl) first runs later run c.loop-later-test.true c.index-runs-later.is)))
    (c.in_ok-note_run.ensures count (before ++ front) (c.loop-later.invariant count before kept))

pub returns : goal.returns
returns c = λ count before kept.
    let runs = c.args.runs.now in
    let later = c.loop-later.later in
    kept-as count (before ++ deeds_of_runs c.args.node c.args.first (take later runs)) (before ++ deeds_of_runs c.args.node c.args.first runs)
    (map (λ own. own.items) c.loop-later.steps.items)
    (ap (λ l. before ++ deeds_of_runs c.args.node c.args.first l) (take_all later runs c.loop-later-test.false))
    (c.loop-later.invariant count before kept)
