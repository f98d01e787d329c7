use Rattle.std.proofs.Common.{◌≡◌, ◌++◌, refl, sym, subst, ap, ◌∙◌, true}
use Rattle.circus_value.specs.Fits.{all_fit}
use Rattle.circus_transfer.specs.Snapshot.{snapshot_bytes}
use Rattle.circus_performing.specs.Record.{behaviour}
use Rattle.circus_member_rules.specs.Rules.{answers}
use Rattle.circus_member_rules.specs.Step.{given_states}
use Rattle.circus_member.proofs.Parts.{doing_of}
use Rattle.circus_member.proofs.Giving.{nobody_waits, not_idle, states_given, idle_state}
use Rattle.circus_member.proofs.doing.Doing.give_states.Goals as goal

pub same-self : goal.same-self
same-self g c = refl

pub same-self-in_err-message : goal.same-self-in_err-message
same-self-in_err-message g c = refl

pub returns-then-is_empty : goal.returns-then-is_empty
returns-then-is_empty g c =
    let i = c.self.inside in
    let d = doing_of i.member i.effects in
    subst (λ x. x ≡ given_states x) c.self.view_is (nobody_waits d (c.is_empty.ensures.0 c.if-is_empty.true))

pub returns-then-not-is_idle : goal.returns-then-not-is_idle
returns-then-not-is_idle g c =
    let i = c.self.inside in
    let d = doing_of i.member i.effects in
    subst (λ x. x ≡ given_states x) c.self.view_is (not_idle d (sym c.is_idle.ensures ∙ c.if-not-is_idle.true))

pub snapshot-requires : goal.snapshot-requires
snapshot-requires g c =
    let i = c.self.inside in
    let b = behaviour g.M.Module.declared g.M.Module.turn g.M.Module.first i.member.performer.hosted in
    let fit = idle_state b i.member.performer.began i.member.performer.kept c.record-record.ensures.kept (sym c.is_idle.ensures ∙ c.if-not-is_idle.false) in
    subst (λ s. all_fit s.variables c.record-record.result.now.state ≡ true) (sym c.signature.ensures)
    (subst (λ k. all_fit (g.M.Module.declared i.member.performer.hosted).variables k.state ≡ true) (sym c.record-record.ensures.value) fit)

pub returns : goal.returns
returns g c =
    let i = c.self.inside in
    let d = doing_of i.member i.effects in
    let message = c.in_ok-message.ensures.bytes ∙ ap (λ k. snapshot_bytes k.count k.state) c.record-record.ensures.value in
    states_given d c.new.result c.answer_all.new.effects (sym c.is_idle.ensures ∙ c.if-not-is_idle.false) c.new.ensures
    (c.in_ok-answer_all.ensures ∙ ap (λ m. i.effects ++ answers m i.member.requests) message)
    ∙ ap given_states c.self.view_is
