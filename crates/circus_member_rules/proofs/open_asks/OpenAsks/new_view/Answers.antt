use Rattle.std.proofs.Common.{◌<◌, ◌≤◌, length, ap, arith}
use Rattle.circus_model.proofs.Lookups.{within}
use Rattle.circus_fanout.specs.Asking.{Asking}
use Rattle.circus_fanout.proofs.Writing.{length-written, written_all}
use Rattle.circus_member_rules.specs.declared.occurrence.AskName.{AskName}
use Rattle.circus_member_rules.specs.Callable.{MayCall}
use Rattle.circus_member_rules.specs.Rules.{seen_by_ask, calls_for_view, is_to}
use Rattle.circus_member_rules.proofs.Places.{not_yet, written_next, made_next, made_last}
use Rattle.circus_member_rules.proofs.open_asks.OpenAsks.new_view.Goals as goal

pub see_at-requires-clause-place : goal.see_at-requires-clause-place
see_at-requires-clause-place c =
    let asks = c.args.self.now in
    let loop = c.loop-place in
    omega (arith, c.len-place-end.ensures.len, ap length c.self.view_is, ap length loop.invariant.seen, length-written (seen_by_ask c.args.known.now c.args.view.now) loop.place asks)

pub see_at-requires-clause-may : goal.see_at-requires-clause-may
see_at-requires-clause-may c =
    not_yet (seen_by_ask c.args.known.now c.args.view.now) (λ (e : AskName × Asking). MayCall c.args.known.now e.1) c.args.self.now c.loop-place.self c.loop-place.place c.loop-place.invariant.seen c.requires.asks

pub loop-place-preserved : goal.loop-place-preserved
loop-place-preserved c =
    let known = c.args.known.now in
    let view = c.args.view.now in
    let asks = c.args.self.now in
    let loop = c.loop-place in
    let few : loop.place < length asks = omega (arith, c.len-place-end.ensures.len, ap length c.self.view_is) in
    let ask = within asks loop.place few in
    record {
      seen = written_next (seen_by_ask known view) asks loop.self c.see_at.new.self loop.place ask.0 loop.invariant.seen ask.1 c.in_ok-see_at.ensures.kept;
      made = made_next (seen_by_ask known view) (is_to view.troupe) (calls_for_view known view) asks loop.self loop.place ask.0 loop.effects c.see_at.new.effects _ loop.invariant.seen ask.1 c.in_ok-see_at.ensures.made loop.invariant.made;
    }

pub returns-clause-kept : goal.returns-clause-kept
returns-clause-kept c =
    let f = seen_by_ask c.args.known.now c.args.view.now in
    let asks = c.args.self.now in
    let loop = c.loop-place in
    let all : length loop.self ≤ loop.place = omega (arith, c.len-place-end.ensures.len, ap length c.self.view_is, ap length loop.invariant.seen, length-written f loop.place asks) in
    written_all f asks loop.self loop.place loop.invariant.seen all

pub returns-clause-made : goal.returns-clause-made
returns-clause-made c =
    let f = seen_by_ask c.args.known.now c.args.view.now in
    let asks = c.args.self.now in
    let loop = c.loop-place in
    let all : length asks ≤ loop.place = omega (arith, c.len-place-end.ensures.len, ap length c.self.view_is) in
    made_last f (is_to c.args.view.now.troupe) (calls_for_view c.args.known.now c.args.view.now) asks loop.place loop.effects _ all loop.invariant.made
