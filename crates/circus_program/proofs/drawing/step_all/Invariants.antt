use Rattle.std.proofs.Common.{◌≡◌, ◌+◌, ◌≤◌, length, drop}
use Rattle.circus_program.proofs.Stepping.{IsLeft}
use Rattle.circus_program.proofs.drawing.step_all.Given as goal

-- the lines come to what comes of those that are left
abbrev pub invariant-loop-place : goal.invariant-loop-place
invariant-loop-place g l =
    record {
      deployed : l.world.deployment ≡ l.fn.world.deployment;
      nodes : length l.world.nodes ≡ length l.fn.world.nodes;
      steps : l.world.steps ≤ l.fn.world.steps + l.place;
      left : IsLeft g.M.Module.declared g.M.Module.turn l.lines l.fn.world (l.place + 1) (drop l.place l.lines) l.world;
    }
