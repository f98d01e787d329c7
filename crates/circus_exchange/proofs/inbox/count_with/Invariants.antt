use Rattle.std.proofs.Common.{◌-◌, ◌≤◌, ◌||◌, eqb}
use Rattle.std.specs.Prelude.{option_copied}
use Rattle.circus_exchange.specs.Inbox.{is_there}
use Rattle.circus_exchange.proofs.Inboxes.{PassTo}
use Rattle.circus_exchange.proofs.inbox.count_with.Given as goal

abbrev pub invariant-loop-count : goal.invariant-loop-count
invariant-loop-count l = record { within : l.count ≤ l.segment.total; there : PassTo (λ number. is_there l.known (option_copied l.parts) number || eqb number l.segment.number) l.count }

abbrev pub decreases-loop-count : goal.decreases-loop-count
decreases-loop-count l = l.segment.total - l.count
