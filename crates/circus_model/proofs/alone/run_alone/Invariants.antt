use Rattle.std.proofs.Common.{◌≡◌, length, map, drop}
use Rattle.std.specs.Prelude.{fold}
use Rattle.circus_model.specs.Behaviour.{behaviours}
use Rattle.circus_model.specs.Execution.{join_runs, thread_of, roots_from, history_of}
use Rattle.circus_model.proofs.alone.run_alone.Given as goal

abbrev pub invariant-loop-place : goal.invariant-loop-place
invariant-loop-place g l =
    let program = behaviours g.M.Module.declared g.M.Module.turn g.M.Module.first l.modules in
    record {
      same : fold (λ history root. join_runs history (thread_of program root).runs) (map (λ runs. runs.items) l.history.items) (roots_from (l.place) (drop (l.place) program)) ≡ history_of program;
      room : length l.history.items ≡ length l.modules;
    }
