use Rattle.std.proofs.Common.{sym, subst, ap, ◌∙◌}
use Rattle.circus_model.specs.Behaviour.{IsModule}
use Rattle.circus_gather.specs.Gathering.{with_start}
use Rattle.circus_performing.specs.Performing as performing
use Rattle.circus_performing.specs.Acts.{CanEnter}
use Rattle.circus_performing.specs.Record.{behaviour}
use Rattle.circus_member_rules.specs.Step.{after_turns, enter_run_of}
use Rattle.circus_member_rules.specs.Seen.Sound.{IsSound, HasTurned, MayStart}
use Rattle.circus_member.specs.Seen.Parts.{member_of}
use Rattle.circus_member.proofs.Parts.{doing_of}
use Rattle.circus_member_rules.proofs.Turned.{has_turned}
use Rattle.circus_member_rules.proofs.Entering.{with_entered, turned_by_start}
use Rattle.circus_member.proofs.doing.Doing.enter.Goals as goal

pub enter-requires : goal.enter-requires
enter-requires g c =
    subst (λ x. CanEnter (g.M.Module.declared x.member.performing.hosted) c.args.start x.member.performing.kept) (sym c.self.view_is) c.requires.may.can

pub after_turns-requires : goal.after_turns-requires
after_turns-requires g c =
    let i = c.self.inside in
    let d = doing_of i.member i.effects in
    let b = behaviour g.M.Module.declared g.M.Module.turn g.M.Module.first i.member.performer.hosted in
    let lawful : IsModule b = record { first_is_state = g.met.M.Module.first_is_state i.member.performer.hosted; turns_are_lawful = g.met.M.Module.turns_are_lawful i.member.performer.hosted } in
    let sound = subst (λ x. IsSound (behaviour g.M.Module.declared g.M.Module.turn g.M.Module.first x.member.performing.hosted) x.member) (sym c.self.view_is) c.requires.sound in
    let may = subst (λ x. MayStart (g.M.Module.declared x.member.performing.hosted) x.member c.args.start) (sym c.self.view_is) c.requires.may in
    let turned = turned_by_start b lawful d.member c.args.at c.args.start sound may in
    let started = c.started.ensures ∙ ap (λ k. with_start i.member.gather k.count) c.record.ensures.value in
    subst (λ m. HasTurned (behaviour g.M.Module.declared g.M.Module.turn g.M.Module.first m.performer.hosted) (member_of m)) (sym c.in_ok-self-inside.ensures)
    (subst (λ x. HasTurned b (record (with_entered b lawful d.member c.args.at c.args.start) { gathered = x })) (sym started)
    (has_turned b (with_entered b lawful d.member c.args.at c.args.start) turned))

pub returns : goal.returns
returns g c =
    let i = c.self.inside in
    let started = c.started.ensures ∙ ap (λ k. with_start i.member.gather k.count) c.record.ensures.value in
    c.in_ok-after_turns.ensures
    ∙ ap (λ m. after_turns (doing_of m i.effects)) c.in_ok-self-inside.ensures
    ∙ ap (λ x. after_turns (doing_of (record i.member { gather = x; performer = record i.member.performer { kept = performing.enter_run (g.M.Module.turn i.member.performer.hosted) c.args.at c.args.start i.member.performer.kept } }) i.effects)) started
    ∙ ap (λ x. enter_run_of g.M.Module.turn c.args.at x c.args.start) c.self.view_is
