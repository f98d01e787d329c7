use Rattle.std.proofs.Common.{◌≡◌, ◌+◌, ◌*◌, ◌-◌, [], length, get_or}
use Rattle.circus_model.specs.Behaviour.{behaviours}
use Rattle.circus_limits.specs.Limits.{most_asks}
use Rattle.circus_model.specs.Gives.{Gives}
use Rattle.circus_model.specs.Execution.{replies_of}
use Rattle.circus_model.specs.Seen.Threads.{thread_seen, order_given}
use Rattle.circus_model.proofs.Threads.{IsOn, behaviour}
use Rattle.circus_model.proofs.alone.+execution.Given as goal

abbrev pub decreases-answer : goal.decreases-answer
decreases-answer g l = 2 * l.order.callee + 1

abbrev pub decreases-perform : goal.decreases-perform
decreases-perform g l = 2 * l.order.callee

abbrev pub invariant-perform-loop-turn : goal.invariant-perform-loop-turn
invariant-perform-loop-turn g l =
    let program = behaviours g.M.Module.declared g.M.Module.turn g.M.Module.first l.modules in
    let state = get_or (thread_seen program l.fn.thread).store l.order.callee [] in
    record {
      on : IsOn program (order_given l.order) (behaviour g.M.Module.declared g.M.Module.turn g.M.Module.first l.«module») (thread_seen program l.fn.thread) l.asks (thread_seen program l.thread);
      gives : Gives (λ paused. g.M.Module.stands l.«module» paused state l.order.procedure l.order.arguments (replies_of l.asks)) (g.M.Module.turn l.«module» state l.order.procedure l.order.arguments (replies_of l.asks)) l.turn;
      entry : l.entry ≡ l.fn.thread.clock;
    }

abbrev pub decreases-perform-loop-turn : goal.decreases-perform-loop-turn
decreases-perform-loop-turn g l = most_asks + 1 - length l.asks
