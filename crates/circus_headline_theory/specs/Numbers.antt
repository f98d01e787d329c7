-- That each call of a node has a number (docs/PROTOCOL.md, "Paired messages"): to no node were more handed over than there are numbers.
use Rattle.std.specs.Prelude.{ℕ, ◌≤◌}
use Rattle.circus_collate.specs.declared.deployment.Deployment.{Deployment}
use Rattle.circus_exchange.specs.Limits.{never_used}
use Rattle.circus_wire.specs.WireActs.{made_to}
use Rattle.circus_node.specs.Trace.{Trace}
use Rattle.circus_world_theory.specs.Histories.{beginning_of}
use Rattle.circus_headline_theory.specs.Trace.{acts_of}

-- calls to a node are numbered from 0 on, by the numbers below never_used
abbrev pub HasNumbers : Deployment → ℕ → Trace → Type 0
HasNumbers d node t = (to : ℕ) → made_to to (acts_of (beginning_of d node) t) ≤ never_used
