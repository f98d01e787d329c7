use Rattle.std.proofs.Common.{◌≡◌, sym, subst, ap, ◌∙◌}
use Rattle.std.specs.Prelude.{IfOk}
use Rattle.circus_performing.specs.Record.{behaviour}
use Rattle.circus_member_rules.specs.MemberState.{Doing}
use Rattle.circus_member_rules.specs.Step.{enter_run_of}
use Rattle.circus_member_rules.specs.Seen.Sound.{IsSound, MayStart}
use Rattle.circus_member.proofs.doing.Doing.enter_boxed.Goals as goal

pub enter-requires-clause-sound : goal.enter-requires-clause-sound
enter-requires-clause-sound g c =
    subst (λ (d : Doing g.row.M.Denot). IsSound (behaviour g.M.Module.declared g.M.Module.turn g.M.Module.first d.member.performing.hosted) d.member) (sym c.into_inner.ensures) c.requires.sound

pub enter-requires-clause-may : goal.enter-requires-clause-may
enter-requires-clause-may g c =
    subst (λ (d : Doing g.row.M.Denot). MayStart (g.M.Module.declared d.member.performing.hosted) d.member c.args.start) (sym c.into_inner.ensures) c.requires.may

pub returns : goal.returns
returns g c =
    subst (λ x. IfOk c.into_box.result (λ e. e.value ≡ x)) (c.in_ok-enter.ensures ∙ ap (λ (e : Doing g.row.M.Denot). enter_run_of g.M.Module.turn c.args.at e c.args.start) c.into_inner.ensures) c.into_box.ensures
