use Rattle.std.proofs.Common.{◌≡◌, List, length}
use Rattle.circus_schedule.specs.declared.line.Line.{Line}
use Rattle.circus_world.specs.Lines.{Lead}
use Rattle.circus_world.specs.Seen.Sound.{IsSound}
use Rattle.tests_command.proofs.tally.replay.Given as goal

-- so many lines led from boot to the world that there is
abbrev pub invariant-loop-number : goal.invariant-loop-number
invariant-loop-number g l = record {
  sound : IsSound l.running;
  lines : List Line;
  lead : Lead g.M.Module.declared g.M.Module.turn lines l.initial.running l.running;
  count : length lines ≡ l.number;
}
