use Rattle.std.proofs.Common.{◌≡◌, [], None, map, take}
use Rattle.circus_model.proofs.alone.new_thread.Given as goal

abbrev pub invariant-loop-each : goal.invariant-loop-each
invariant-loop-each g l =
    record {
      states : l.states.items ≡ map (λ _. None) (take l._each-index l.modules);
      clock : l.clock ≡ map (λ _. 0) (take l._each-index l.modules);
      runs : map (λ runs. runs.items) l.runs.items ≡ map (λ _. []) (take l._each-index l.modules);
    }
