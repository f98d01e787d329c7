use Rattle.std.proofs.Common.{sym, ap, ◌∙◌}
use Rattle.std.specs.Prelude.{slice_get}
use Rattle.circus_member_rules.specs.Rules.{seen_by_ask}
use Rattle.circus_member_rules.proofs.Places.{value_seen}
use Rattle.circus_member_rules.proofs.open_asks.OpenAsks.see_at.Goals as goal

pub view_calls-requires-clause-may : goal.view_calls-requires-clause-may
view_calls-requires-clause-may c =
    let at = ap (λ es. slice_get es c.args.place) (sym c.self.view_is) ∙ c.pair_mut-fanout.ensures.value in
    rw at at c.requires.may

pub returns-clause-kept : goal.returns-clause-kept
returns-clause-kept c =
    let ask = c.pair_mut-fanout.result in
    let at = ap (λ es. slice_get es c.args.place) (sym c.self.view_is) ∙ c.pair_mut-fanout.ensures.value in
    rw at
    (value_seen c.view_calls.result c.self.inside.asks.entries c.args.self.now c.args.place ask.0.now ask.1.now c.view_calls.new.fanout (seen_by_ask c.args.known.now c.args.view.now (ask.0.now, ask.1.now)) c.self.view_is c.pair_mut-fanout.ensures.value c.view_calls.ensures.kept)

pub returns-clause-made : goal.returns-clause-made
returns-clause-made c =
    let at = ap (λ es. slice_get es c.args.place) (sym c.self.view_is) ∙ c.pair_mut-fanout.ensures.value in
    rw at c.view_calls.ensures.made
