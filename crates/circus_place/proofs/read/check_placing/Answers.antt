use Rattle.std.proofs.Common.{sym, ◌∙◌, ap}
use Rattle.circus_place.specs.Written.{placing_of}
use Rattle.circus_place.specs.Seen.Cut.{present_cut}
use Rattle.circus_place.proofs.Obeying.{means_of}
use Rattle.circus_place.proofs.ReadIs.{clean}
use Rattle.circus_place.proofs.read.check_placing.Goals as goal

pub returns-clause-clean : goal.returns-clause-clean
returns-clause-clean c = clean c.args.stop.now (placing_of c.args.written.now) (sym c.in_ok-best.ensures.found ∙ c.in-None.is)

pub returns-clause-means : goal.returns-clause-means
returns-clause-means c =
    let p = placing_of c.args.written.now in
    let made = c.in_ok-meaning-in-None.ensures in
    means_of p c.in_ok-meaning-in-None.field-0 (clean c.args.stop.now p (sym c.in_ok-best.ensures.found ∙ c.in-None.is)).1 made.machines made.members made.condition
    (made.present ∙ ap (λ k. present_cut k p.present) c.in_ok-best.ensures.numbered)
