use Rattle.std.proofs.Common.{◌≡◌, ℕ, ◌+◌, ◌≤◌, ◌++◌, List}
use Rattle.circus_schedule.specs.declared.line.Line.{Line}
use Rattle.circus_simulation.specs.Sampled.{spares_from, sample_lines, lines_drawn}
use Rattle.circus_simulation.specs.Seen.Stepping.{NoneCrashed}
use Rattle.circus_simulation.proofs.sampling.draw.Given as goal

-- the lines that are left come to what all come to, and those before them were noted
abbrev pub invariant-loop : goal.invariant-loop
invariant-loop g l =
    let sampled_by = sample_lines g.M.Module.declared g.M.Module.turn in
    let drawn_by = lines_drawn g.M.Module.declared g.M.Module.turn in
    record {
      live : NoneCrashed l.world;
      spares : l.spares ≡ spares_from l.world.deployment 0 l.world.nodes;
      few : l.world.steps + l.steps ≤ 18446744073709551615 + l.counter;
      same : (left : ℕ) → l.counter + left ≡ l.steps → sampled_by left l.word l.world ≡ sampled_by l.steps l.seed l.fn.world;
      noted : (drawn : List Line) × g.N.Noting.noted l.fn.notes drawn l.notes
          × ((left : ℕ) → l.counter + left ≡ l.steps → drawn ++ drawn_by left l.word l.world ≡ drawn_by l.steps l.seed l.fn.world);
    }
