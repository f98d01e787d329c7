use Rattle.std.proofs.Common.{length, sym, ap, subst, ◌∙◌}
use Rattle.std.proofs.lemmas.Result.{on_ok_weaker}
use Rattle.circus_dues.specs.Dues.{DuesState}
use Rattle.circus_dues.specs.declared.owing.Owing.{Owing}
use Rattle.circus_dues.specs.Seen.Owing.{CanCome}
use Rattle.circus_dues.specs.Seen.Sound.{IsSoundOwing}
use Rattle.circus_dues.proofs.SoundStages.{sound_step, views_step}
use Rattle.circus_dues.proofs.StepTells.{tells_where_done}
use Rattle.circus_dues.proofs.Untimely.{stepped_late}
use Rattle.circus_dues.proofs.dues.Dues.step.Goals as goal

pub step-requires-clause-sound : goal.step-requires-clause-sound
step-requires-clause-sound c = subst (λ (x : DuesState). IsSoundOwing x.signature x.place x.kept x.owing) (sym c.self.view_is) c.requires.sound

pub step-requires-clause-comes : goal.step-requires-clause-comes
step-requires-clause-comes c =
    subst (λ (x : DuesState). CanCome x.signature x.place.troupe (length x.owing.out.known.views) c.args.occurrence) (sym c.self.view_is) c.requires.comes

pub returns-clause-sound : goal.returns-clause-sound
returns-clause-sound c =
    let i = c.self.inside in
    let declared = i.frame.signature.now in
    let place = i.frame.place.now in
    let kept = i.frame.kept.now in
    let sound = subst (λ (x : DuesState). IsSoundOwing x.signature x.place x.kept x.owing) (sym c.self.view_is) c.requires.sound in
    let comes = subst (λ (x : DuesState). CanCome x.signature x.place.troupe (length x.owing.out.known.views) c.args.occurrence) (sym c.self.view_is) c.requires.comes in
    on_ok_weaker c.step.result
    (λ stepped. subst (IsSoundOwing declared place kept) (sym stepped) (sound_step declared place kept i.owing sound c.args.at c.args.occurrence comes))
    c.step.ensures.kept

pub returns-clause-views : goal.returns-clause-views
returns-clause-views c =
    let i = c.self.inside in
    let declared = i.frame.signature.now in
    let place = i.frame.place.now in
    let kept = i.frame.kept.now in
    let sound = subst (λ (x : DuesState). IsSoundOwing x.signature x.place x.kept x.owing) (sym c.self.view_is) c.requires.sound in
    let comes = subst (λ (x : DuesState). CanCome x.signature x.place.troupe (length x.owing.out.known.views) c.args.occurrence) (sym c.self.view_is) c.requires.comes in
    on_ok_weaker c.step.result
    (λ stepped. ap (λ (d : Owing). length d.out.known.views) stepped
    ∙ views_step declared place kept i.owing sound c.args.at c.args.occurrence comes
    ∙ ap (λ (x : DuesState). length x.owing.out.known.views) c.self.view_is)
    c.step.ensures.kept

pub returns-clause-stands : goal.returns-clause-stands
returns-clause-stands c =
    on_ok_weaker c.step.result
    (λ stepped. (ap (λ (x : DuesState). x.place) c.self.view_is, ap (λ (x : DuesState). x.signature) c.self.view_is, ap (λ (x : DuesState). x.kept) c.self.view_is))
    c.step.ensures.kept

pub returns-clause-tells : goal.returns-clause-tells
returns-clause-tells c =
    let i = c.self.inside in
    tells_where_done i.frame.place.now i.frame.signature.now i.frame.kept.now c.args.at c.args.occurrence i.owing c.args.self.now c.self.view_is c.step.new.self c.step.result
    c.step.ensures.kept c.step.ensures.made c.step.ensures.told

pub returns-clause-never : goal.returns-clause-never
returns-clause-never c =
    let i = c.self.inside in
    on_ok_weaker c.step.result
    (λ stepped late. ap (λ (d : Owing). d.is_timely) stepped
    ∙ stepped_late i.frame.place.now i.frame.kept.now c.args.at i.frame.signature.now.procedures c.args.occurrence i.owing (ap (λ (x : DuesState). x.owing.is_timely) c.self.view_is ∙ late))
    c.step.ensures.kept
