use Rattle.std.proofs.Common.{◌≡◌, ◌+◌, ◌≤◌, length, drop}
use Rattle.circus_record.specs.Naming.{names_of}
use Rattle.circus_program.specs.Replay.{replay_lines}
use Rattle.circus_program.proofs.Pieces.{IsBegun}
use Rattle.circus_program.proofs.replay.follow.Given as goal

-- what was written so far is the replay's beginning, behind which the replay of the lines that are left stands
abbrev pub invariant-loop-place : goal.invariant-loop-place
invariant-loop-place g l =
    let lines_from = replay_lines g.M.Module.declared g.M.Module.turn (names_of l.hosts l.names) in
    record {
      hosts : l.hosts ≡ l.running.deployment.nodes;
      nodes : length l.running.nodes ≡ length l.hosts;
      steps : l.running.steps ≤ l.fn.running.steps + l.place;
      begun : IsBegun (lines_from 1 l.lines l.fn.running) (lines_from (l.place + 1) (drop l.place l.lines) l.running) (g.K.Sink.written l.fn.sink) (g.K.Sink.written l.sink);
      count : g.K.Sink.faults l.sink ≡ g.K.Sink.faults l.fn.sink;
    }
