use Rattle.std.proofs.Common.{OnOk, List, [], ◌∷◌, ◌++◌, map, subst, append_assoc}
use Rattle.circus_picture.specs.Deeds.{Deed, begins, end_of_run}
use Rattle.circus_picture.specs.Seen.Kept.{AreKept}
use Rattle.circus_picture.proofs.deeds.note_run.Goals as goal

pub returns : goal.returns
returns c = λ count before kept.
    let run = c.args.run.now in
    let began : Deed = record { step = run.started; node = c.args.node; did = begins c.args.place run.root run.path } in
    let end = end_of_run c.args.node c.args.place run.ended run.outcome in
    subst (λ (l : List Deed). OnOk c.note_end.result (AreKept count l (map (λ own. own.items) c.note_end.new.steps.items)))
    (append_assoc before (began ∷ []) end)
    (c.note_end.ensures count (before ++ began ∷ []) (c.in_ok-note.ensures count before kept))
