use Rattle.std.proofs.Common.{◌≡◌, ◌<◌, length, true, None, ap, subst, arith}
use Rattle.circus_schedule.specs.Meaning.{NamesBelow}
use Rattle.circus_schedule.specs.declared.line.Line.{Line}
use Rattle.circus_world.specs.WorldState.{WorldState, Standing}
use Rattle.circus_world.specs.Legal.{refusal}
use Rattle.circus_world.proofs.ComeLemmas.{down_differs}
use Rattle.circus_world.proofs.SoundLemmas.{noted_length}
use Rattle.circus_world.proofs.world.World.follow.Goals as goal

pub comes_to-requires-clause-node : goal.comes_to-requires-clause-node
comes_to-requires-clause-node g c = subst (NamesBelow (length c.args.self.nodes)) c.in-Tick.is c.requires.named

pub comes_to-requires-in-Down-clause-node : goal.comes_to-requires-in-Down-clause-node
comes_to-requires-in-Down-clause-node g c = (subst (NamesBelow (length c.args.self.nodes)) c.in-Down.is c.requires.named).1

pub comes_to-requires-in-Down-clause-event : goal.comes_to-requires-in-Down-clause-event
comes_to-requires-in-Down-clause-event g c = (
  (subst (NamesBelow (length c.args.self.nodes)) c.in-Down.is c.requires.named).0,
  down_differs c.args.self c.in-Down.node c.in-Down.told (subst (λ (line : Line). refusal c.args.self line ≡ None) c.in-Down.is c.requires.legal),
)

pub comes_to-requires-in-Join-clause-node : goal.comes_to-requires-in-Join-clause-node
comes_to-requires-in-Join-clause-node g c =
    let note : Standing g.row.M.Denot → Standing g.row.M.Denot = λ s. record s { joins = true } in
    let named : c.in-Join.node < length c.args.self.nodes = subst (NamesBelow (length c.args.self.nodes)) c.in-Join.is c.requires.named in
    omega (arith, ap (λ (w : WorldState g.row.M.Denot). length w.nodes) c.tell_to_join.ensures, noted_length note c.in-Join.node c.args.self, named)
