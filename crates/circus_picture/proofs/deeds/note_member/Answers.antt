use Rattle.std.proofs.Common.{OnOk, List, ◌++◌, map, subst, ap, ◌∙◌, append_assoc}
use Rattle.circus_picture.specs.Deeds.{Deed, activation, deeds_of_runs}
use Rattle.circus_picture.specs.Seen.Kept.{AreKept}
use Rattle.circus_picture.proofs.deeds.note_member.Goals as goal

pub returns : goal.returns
returns c = λ count before kept.
    let member = c.args.kept.now in
    let active = activation c.args.node member in
    subst (λ (l : List Deed). OnOk c.note_runs.result (AreKept count l (map (λ own. own.items) c.note_runs.new.steps.items)))
    (append_assoc before active (deeds_of_runs c.args.node member.from c.as_slice.result.now)
    ∙ ap (λ runs. before ++ (active ++ deeds_of_runs c.args.node member.from runs)) c.as_slice.ensures)
    (c.note_runs.ensures count (before ++ active) (c.in_ok-note_activation.ensures count before kept))
