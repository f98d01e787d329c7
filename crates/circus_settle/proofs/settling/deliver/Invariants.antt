use Rattle.std.proofs.Common.{◌≡◌, ℕ, ◌+◌, ◌≤◌, length}
use Rattle.circus_settle.specs.Settled.{settle_world}
use Rattle.circus_settle.proofs.settling.deliver.Given as goal

-- the deliveries that are left come to what all come to
abbrev pub invariant-loop-number : goal.invariant-loop-number
invariant-loop-number g l =
    let settled_by = settle_world g.M.Module.declared g.M.Module.turn in
    record {
      sent : l.number ≤ length l.world.sent;
      few : l.world.steps + l.deliveries ≤ 18446744073709551615 + l.number;
      same : (left : ℕ) → l.number + left ≡ l.deliveries → settled_by left l.number l.world ≡ settled_by l.deliveries 0 l.fn.world;
    }
