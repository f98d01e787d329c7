use Rattle.std.proofs.Common.{◌≡◌, List, ℕ, take}
use Rattle.circus_pair.proofs.sent.shared_form.Given as goal

abbrev pub invariant-loop-datagram : goal.invariant-loop-datagram
invariant-loop-datagram l = ◌≡◌ {A = List (List ℕ)} l.shared.items (take l.datagram-index l.datagram-items)
