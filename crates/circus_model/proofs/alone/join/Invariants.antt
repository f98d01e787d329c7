use Rattle.std.proofs.Common.{◌≡◌, ◌≤◌, length, map}
use Rattle.circus_model.specs.Execution.{join_runs}
use Rattle.circus_model.proofs.alone.join.Given as goal

abbrev pub invariant-loop-more : goal.invariant-loop-more
invariant-loop-more l =
    record {
      same : join_runs (map (λ runs. runs.items) l.history) (map (λ runs. runs.items) l.all.items) ≡ join_runs (map (λ runs. runs.items) l.fn.history) (map (λ runs. runs.items) l.fn.all.items);
      room : length l.all.items ≤ length l.history;
    }

abbrev pub decreases-loop-more : goal.decreases-loop-more
decreases-loop-more l = length l.all.items
