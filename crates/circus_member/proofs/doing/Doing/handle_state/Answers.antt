use Rattle.std.proofs.Common.{◌≡◌, refl, sym, subst, ap, ◌∙◌, arith}
use Rattle.circus_model.specs.Lawful.{IsState}
use Rattle.circus_model.specs.Behaviour.{IsModule}
use Rattle.circus_performing.specs.Performing.{is_fetching}
use Rattle.circus_performing.specs.Record.{behaviour}
use Rattle.circus_member_rules.specs.MemberState.{Doing, behind}
use Rattle.circus_member_rules.specs.Step.{handle_state, begin_behind}
use Rattle.circus_member_rules.specs.Happening.{IsHome}
use Rattle.circus_member_rules.specs.Seen.Sound.{IsSound}
use Rattle.circus_member.proofs.Parts.{doing_of}
use Rattle.circus_member_rules.proofs.Handled.{sound_restored}
use Rattle.circus_member.proofs.Restoring.{not_restored, restored_so, active_hosted, restored_hosted}
use Rattle.circus_member.proofs.doing.Doing.handle_state.Goals as goal

pub same-self : goal.same-self
same-self g c = refl

pub returns-then-not-is_fetching-clause-kept : goal.returns-then-not-is_fetching-clause-kept
returns-then-not-is_fetching-clause-kept g c =
    let i = c.self.inside in
    let d = doing_of i.member i.effects in
    let outside = ap is_fetching (ap (λ k. k.phase) (sym c.record.ensures.value)) ∙ sym c.is_fetching.ensures ∙ c.if-not-is_fetching.true in
    subst (λ x. x ≡ behind x (handle_state c.args.at x.member c.args.state c.args.count)) c.self.view_is (not_restored d c.args.at c.args.state c.args.count outside)

pub returns-then-not-is_fetching-clause-sound : goal.returns-then-not-is_fetching-clause-sound
returns-then-not-is_fetching-clause-sound g c = c.requires.sound

pub activate-requires : goal.activate-requires
activate-requires g c = subst (λ d. IsState (g.M.Module.declared d.member.performing.hosted) c.args.state) (sym c.self.view_is) c.requires.state

pub begin-requires : goal.begin-requires
begin-requires g c =
    let i = c.self.inside in
    let sound = subst (λ x. IsSound (behaviour g.M.Module.declared g.M.Module.turn g.M.Module.first x.member.performing.hosted) x.member) (sym c.self.view_is) c.requires.sound in
    let same = active_hosted c.args.at c.args.state c.args.count i.member.performer in
    subst (λ m. IsHome (g.M.Module.declared m.performer.hosted) m.place m.known.views) (sym c.in_ok-self-inside.ensures)
    (subst (λ h. IsHome (g.M.Module.declared h) i.member.place i.member.known.views) (sym same) sound.home)

pub returns-clause-kept : goal.returns-clause-kept
returns-clause-kept g c =
    let i = c.self.inside in
    let d = doing_of i.member i.effects in
    let fetching = ap is_fetching (ap (λ k. k.phase) (sym c.record.ensures.value)) ∙ sym c.is_fetching.ensures ∙ c.if-not-is_fetching.false in
    c.in_ok-begin.ensures
    ∙ ap (λ m. begin_behind (doing_of m i.effects) c.args.count) c.in_ok-self-inside.ensures
    ∙ restored_so d c.args.at c.args.state c.args.count fetching
    ∙ ap (λ x. behind x (handle_state c.args.at x.member c.args.state c.args.count)) c.self.view_is

pub returns-clause-sound : goal.returns-clause-sound
returns-clause-sound g c =
    let m = c.args.self.member in
    let b = behaviour g.M.Module.declared g.M.Module.turn g.M.Module.first m.performing.hosted in
    let lawful : IsModule b = record { first_is_state = g.met.M.Module.first_is_state m.performing.hosted; turns_are_lawful = g.met.M.Module.turns_are_lawful m.performing.hosted } in
    let sound = sound_restored b lawful m c.args.at c.args.state c.args.count c.requires.state (omega (arith, c.ranges.count.fits)) c.requires.sound in
    subst (λ (d : Doing g.row.M.Denot). IsSound (behaviour g.M.Module.declared g.M.Module.turn g.M.Module.first d.member.performing.hosted) d.member) (sym (returns-clause-kept g c))
    (subst (λ h. IsSound (behaviour g.M.Module.declared g.M.Module.turn g.M.Module.first h) (handle_state c.args.at m c.args.state c.args.count).member) (sym (restored_hosted c.args.at c.args.state c.args.count m)) sound)
