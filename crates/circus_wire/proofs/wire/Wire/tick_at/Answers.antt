use Rattle.std.proofs.Common.{[], ◌++◌, ap, ◌∙◌}
use Rattle.std.proofs.lemmas.Result.{on_ok_weaker}
use Rattle.circus_wire.specs.Wire.{batches, suspicion, peer_ticked}
use Rattle.circus_wire.proofs.Changing.{read_at, given_at, state_at, set_remains}
use Rattle.circus_wire.proofs.Kept.{all_kept}
use Rattle.circus_wire.proofs.wire.Wire.tick_at.Goals as goal

pub invariant_of-self : goal.invariant_of-self
invariant_of-self g c =
    all_kept _ _ _ c.args.place _ _ (read_at _ _ _ _ c.args.place _ c.self.view_is c.requires c.index_mut.ensures.value) c.tick.ensures.format c.self.invariant

pub returns-clause-state : goal.returns-clause-state
returns-clause-state g c =
    on_ok_weaker c.tick.result (λ e. state_at _ _ _ c.args.place _ _ _ peer_ticked c.self.view_is (read_at _ _ _ _ c.args.place _ c.self.view_is c.requires c.index_mut.ensures.value) e) c.tick.ensures.state

pub returns-clause-sent : goal.returns-clause-sent
returns-clause-sent g c =
    on_ok_weaker c.tick.result (λ e. e ∙ ap (λ more. c.args.sends.now ++ more)
    (given_at [] batches _ _ _ _ c.args.place _ _ c.self.view_is c.node_at-node.ensures (read_at _ _ _ _ c.args.place _ c.self.view_is c.requires c.index_mut.ensures.value))) c.tick.ensures.sent

pub returns-clause-suspected : goal.returns-clause-suspected
returns-clause-suspected g c =
    on_ok_weaker c.tick.result (λ e. e ∙ ap (λ more. c.args.suspects.now ++ more)
    (given_at [] suspicion _ _ _ _ c.args.place _ _ c.self.view_is c.node_at-node.ensures (read_at _ _ _ _ c.args.place _ c.self.view_is c.requires c.index_mut.ensures.value))) c.tick.ensures.suspected

pub returns-clause-remains : goal.returns-clause-remains
returns-clause-remains g c = set_remains _ _ _ c.args.place _ _ c.self.view_is
