-- A node at boot.
use Rattle.std.specs.Prelude.{◌≡◌, ℕ, ◌<◌, ◌≤◌, true, false, ◌↔◌, if◌then◌else◌, List, [], length, map, Option, None, Some, IsSome, Result, slice_get, option_map, option_and_then}
use Rattle.circus_value.specs.Among.{is_among}
use Rattle.circus_value.specs.ValueTree.{ValueTree}
use Rattle.circus_value.specs.declared.outcome.Outcome.{Outcome}
use Rattle.circus_collate.specs.Deployment.{IsDeployment}
use Rattle.circus_collate.specs.declared.deployment.Troupe.{Troupe}
use Rattle.circus_collate.specs.declared.deployment.Host.{Host}
use Rattle.circus_collate.specs.declared.deployment.Deployment.{Deployment}
use Rattle.circus_ring.specs.RingTable.{boot_views, kept_after}
use Rattle.circus_model.specs.NextTurn.{NextTurn}
use Rattle.circus_model.specs.Lawful.{import_of}
use Rattle.circus_model.specs.Agree.{main_alone}
use Rattle.circus_model.specs.declared.signature.Signature.{Signature}
use Rattle.circus_model.specs.declared.signature.Import.{Import}
use Rattle.circus_performing.specs.Record.{behaviour}
use Rattle.circus_wire.specs.Wire as wire
use Rattle.circus_member_rules.specs.declared.place.Beginning.{Beginning}
use Rattle.circus_member_rules.specs.declared.place.Beginning.TheVariants.{Founder, Spare}
use Rattle.circus_member_rules.specs.Proper.{IsProperModule}
use Rattle.circus_member_rules.specs.Step as member_step
use Rattle.circus_node.specs.declared.home.Home.{Home}
use Rattle.circus_node.specs.declared.event.Outputs.{Outputs}
use Rattle.circus_node.specs.declared.event.StepFault.{StepFault}
use Rattle.circus_node.specs.NodeState.{NodeState, member, ringmaster}
use Rattle.circus_node.specs.Accepting.{troupe_at, is_root}
use Rattle.circus_limits.specs.Limits.{limit_of}
use Rattle.circus_node.specs.Making.{Made, consequences, nothing}
use Rattle.circus_node.specs.Step.{Ended, IsEnded, conclude_step}

-- a founder, or a spare
abbrev pub beginning_in : Troupe → ℕ → Beginning
beginning_in troupe node = if is_among troupe.founders node then Founder else Spare

-- where the member of a node stands, and how it begins
abbrev pub home_in : Deployment → ℕ → ℕ → Troupe → Home
home_in d node number troupe =
    record {
      place = record {
        node = node;
        troupe = number;
        calls = troupe.calls;
        replies = troupe.replies;
        troupes = map (λ (h : Host). h.module) d.nodes;
      };
      beginning = beginning_in troupe node;
    }

-- none at the Ringmaster's node
abbrev pub home_of : Deployment → ℕ → Option Home
home_of d node =
    option_and_then (λ number. option_map (home_in d node number) (slice_get d.troupes number)) (troupe_at d node)

-- a module of a troupe of the program: it is a root where the troupe is one, then it has its MAIN alone; its imports are
-- earlier troupes that are no roots; it keeps to the limit of the format; and its shapes and numbers are proper
pub record IsOfTroupe (d : Deployment) (number : ℕ) (declared : Signature) : Type 0 where
  pub root : declared.root ≡ is_root d number
  pub main : declared.root ≡ true → declared.procedures ≡ main_alone
  pub imports : (callee : ℕ) (i : Import) → import_of callee declared.imports ≡ Some i → (callee < number) × (is_root d callee ≡ false)
  pub limit : declared.limit ≤ limit_of d.format
  pub proper : IsProperModule declared

-- a node of a program, with a module exactly where it isn't the Ringmaster's
pub record CanBoot (d : Deployment) (node : ℕ) (declared : Option Signature) : Type 0 where
  pub deployment : IsDeployment d
  pub within : node < length d.nodes
  pub hosted : IsSome declared ↔ IsSome (troupe_at d node)
  pub fits : (number : ℕ) (signature : Signature) → troupe_at d node ≡ Some number → declared ≡ Some signature → IsOfTroupe d number signature

-- there is a module for each troupe, which declares this and is one of its troupe
pub record AreOfTroupes (d : Deployment) (declared : List Signature) : Type 0 where
  pub one_each : length declared ≡ length d.troupes
  pub each : (number : ℕ) (signature : Signature) → slice_get declared number ≡ Some signature → IsOfTroupe d number signature

-- what the module of a node's troupe declares; none at the Ringmaster's node
abbrev pub declared_at : Deployment → List Signature → ℕ → Option Signature
declared_at d declared node = option_and_then (slice_get declared) (troupe_at d node)

-- before any act of a node
abbrev pub fresh_wire : {P : Type 0} → Deployment → ℕ → wire.WireState P
fresh_wire d node = wire.before_any (record { own = node; nodes = length d.nodes; first = 0; format = d.format })

module _ {M : Type 0} (declared : M → Signature) (turn : M → List ValueTree → ℕ → List ValueTree → List Outcome → NextTurn) (first : M → List ValueTree) where
  -- a member boots with the views that every node boots with
  abbrev pub member_at_boot : Deployment → Home → M → Made M
  member_at_boot d home hosted =
      let boot_node = member_step.boot_member declared turn first home.place (boot_views d.troupes) home.beginning hosted in
      record { acting = member boot_node.member; came = consequences boot_node.effects [] }

  abbrev pub ring_at_boot : Deployment → Made M
  ring_at_boot d = record { acting = ringmaster (kept_after d.troupes []); came = nothing }

  -- a member, where the node has one and its module is given
  abbrev pub made_at_boot : Deployment → Option Home → Option M → Made M
  made_at_boot d (Some home) (Some hosted) = member_at_boot d home hosted
  made_at_boot d (Some home) None = ring_at_boot d
  made_at_boot d None hosted = ring_at_boot d

  abbrev pub boot_node : Deployment → Option M → ℕ → Ended M
  boot_node d hosted node =
      let made = made_at_boot d (home_of d node) hosted in
      conclude_step (record { deployment = d; wire = fresh_wire d node; acting = made.acting; dropped = 0 }) [] made.came

  -- a module that does what the one of the node's troupe does; none at the Ringmaster's node
  abbrev pub IsHosted : Deployment → List M → ℕ → Option M → Type 0
  IsHosted d modules node hosted =
      option_map (behaviour declared turn first) hosted
      ≡ option_map (behaviour declared turn first) (option_and_then (slice_get modules) (troupe_at d node))

  -- the node boots with such a module
  abbrev pub IsBooted : Deployment → List M → ℕ → Result (NodeState M × Outputs) StepFault → Type 0
  IsBooted d modules node result = (hosted : Option M) × IsHosted d modules node hosted × IsEnded result (boot_node d hosted node)
