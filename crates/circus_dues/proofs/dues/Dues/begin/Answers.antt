use Rattle.std.proofs.Common.{ℕ, ◌&&◌, if◌then◌else◌, List, length, sym, subst, ap, ◌∙◌}
use Rattle.circus_performing.specs.Performing.{is_active}
use Rattle.circus_member_rules.specs.declared.occurrence.Effect.{Effect}
use Rattle.circus_dues.specs.declared.owing.Owing.{Owing}
use Rattle.circus_dues.specs.Dues.{TellsAtBoot}
use Rattle.circus_dues.specs.Seen.Beginning.{begun_at_boot}
use Rattle.circus_dues.specs.Seen.Sound.{IsSoundOwing}
use Rattle.circus_dues.proofs.BeginningEnters.{views_begun}
use Rattle.circus_dues.proofs.BeginningWhole.{begins_so, sound_begun}
use Rattle.circus_dues.proofs.dues.Dues.begin.Goals as goal

pub returns-clause-sound : goal.returns-clause-sound
returns-clause-sound c =
    let declared = c.args.signature.now in
    let place = c.args.place.now in
    let kept = c.args.kept.now in
    subst (IsSoundOwing declared place kept) (sym c.in_ok-owing.ensures.kept)
    (sound_begun declared place c.args.views c.requires.home kept c.requires.says c.args.begins c.args.first c.requires.fits)

pub returns-clause-views : goal.returns-clause-views
returns-clause-views c =
    ap (λ (d : Owing). length d.out.known.views) c.in_ok-owing.ensures.kept
    ∙ views_begun c.args.place.now c.args.signature.now.root c.args.views c.args.begins c.args.first c.args.kept.now

pub returns-clause-tells : goal.returns-clause-tells
returns-clause-tells c =
    let declared = c.args.signature.now in
    let place = c.args.place.now in
    let kept = c.args.kept.now in
    let views = c.args.views in
    let begins = c.args.begins in
    let first = c.args.first in
    let at_boot : ℕ = if declared.root && is_active begins then 1 else 0 in
    let begun = begun_at_boot place declared.root views begins first kept in
    subst (λ (d : Owing). TellsAtBoot views begins first at_boot (record { place = place; signature = declared; kept = kept; owing = d }) c.in_ok-owing.effects) (sym c.in_ok-owing.ensures.kept)
    (subst (λ (made : List Effect). TellsAtBoot views begins first at_boot (record { place = place; signature = declared; kept = kept; owing = begun }) made) (sym c.in_ok-owing.ensures.made)
    (begins_so place declared views begins first kept))
