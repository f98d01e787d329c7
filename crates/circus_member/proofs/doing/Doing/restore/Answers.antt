use Rattle.std.proofs.Common.{◌≡◌, sym, subst, ap, ◌∙◌}
use Rattle.std.specs.Prelude.{IfOk}
use Rattle.std.proofs.lemmas.Result.{IfOk-weaker}
use Rattle.circus_model.specs.Lawful.{IsState}
use Rattle.circus_performing.specs.Record.{behaviour}
use Rattle.circus_member_rules.specs.MemberState.{Doing, behind}
use Rattle.circus_member_rules.specs.Step.{handle_state}
use Rattle.circus_member_rules.specs.Seen.Sound.{IsSound}
use Rattle.circus_member.proofs.doing.Doing.restore.Goals as goal

pub handle_state-requires-clause-sound : goal.handle_state-requires-clause-sound
handle_state-requires-clause-sound g c =
    subst (λ (d : Doing g.row.M.Denot). IsSound (behaviour g.M.Module.declared g.M.Module.turn g.M.Module.first d.member.performing.hosted) d.member) (sym c.into_inner.ensures) c.requires.sound

pub handle_state-requires-clause-state : goal.handle_state-requires-clause-state
handle_state-requires-clause-state g c =
    subst (λ (d : Doing g.row.M.Denot). IsState (g.M.Module.declared d.member.performing.hosted) c.args.state) (sym c.into_inner.ensures) c.requires.state

pub returns-clause-kept : goal.returns-clause-kept
returns-clause-kept g c =
    subst (λ x. IfOk c.into_box.result (λ e. e.value ≡ x))
    (c.in_ok-handle_state.ensures.kept ∙ ap (λ (d : Doing g.row.M.Denot). behind d (handle_state c.args.at d.member c.args.state c.args.count)) c.into_inner.ensures) c.into_box.ensures

pub returns-clause-sound : goal.returns-clause-sound
returns-clause-sound g c =
    IfOk-weaker c.into_box.result (λ e. e.value ≡ c.in_ok-handle_state.field-0)
    (λ e. IsSound (behaviour g.M.Module.declared g.M.Module.turn g.M.Module.first e.value.member.performing.hosted) e.value.member)
    (λ e is. subst (λ (d : Doing g.row.M.Denot). IsSound (behaviour g.M.Module.declared g.M.Module.turn g.M.Module.first d.member.performing.hosted) d.member) (sym is) c.in_ok-handle_state.ensures.sound) c.into_box.ensures
