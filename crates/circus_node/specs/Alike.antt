-- A node in which the behaviour of its module stands for the module.
use Rattle.std.specs.Prelude.{ℕ, List, Ok, Err}
use Rattle.circus_value.specs.ValueTree.{ValueTree}
use Rattle.circus_value.specs.declared.outcome.Outcome.{Outcome}
use Rattle.circus_model.specs.NextTurn.{NextTurn}
use Rattle.circus_model.specs.Behaviour.{Behaviour}
use Rattle.circus_model.specs.declared.signature.Signature.{Signature}
use Rattle.circus_performing.specs.Performing.{Performing}
use Rattle.circus_performing.specs.Record.{behaviour}
use Rattle.circus_member_rules.specs.MemberState.{MemberState, Doing}
use Rattle.circus_node.specs.NodeState.{NodeState, Acting, member, ringmaster}
use Rattle.circus_node.specs.Making.{Made}
use Rattle.circus_node.specs.Step.{Ended}

-- what a behaviour declares and does, as a module's
abbrev pub declared_of : Behaviour → Signature
declared_of b = b.declared

abbrev pub turn_of : Behaviour → List ValueTree → ℕ → List ValueTree → List Outcome → NextTurn
turn_of b = b.turn

abbrev pub first_of : Behaviour → List ValueTree
first_of b = b.first

module _ {M : Type 0} (declared : M → Signature) (turn : M → List ValueTree → ℕ → List ValueTree → List Outcome → NextTurn) (first : M → List ValueTree) where
  abbrev pub performing_as : Performing M → Performing Behaviour
  performing_as p = record { hosted = behaviour declared turn first p.hosted; began = p.began; kept = p.kept }

  abbrev pub member_as : MemberState M → MemberState Behaviour
  member_as m =
      record {
        place = m.place;
        known = m.known;
        gathered = m.gathered;
        performing = performing_as m.performing;
        asks = m.asks;
        requests = m.requests;
      }

  abbrev pub doing_as : Doing M → Doing Behaviour
  doing_as d = record { member = member_as d.member; effects = d.effects }

  abbrev pub acting_as : Acting M → Acting Behaviour
  acting_as (member m) = member (member_as m)
  acting_as (ringmaster kept) = ringmaster kept

  abbrev pub made_as : Made M → Made Behaviour
  made_as made = record { acting = acting_as made.acting; came = made.came }

  abbrev pub node_as : NodeState M → NodeState Behaviour
  node_as n = record { deployment = n.deployment; wire = n.wire; acting = acting_as n.acting; dropped = n.dropped }

  -- after a step, with what it gave
  abbrev pub ended_as : Ended M → Ended Behaviour
  ended_as (Ok end) = Ok (node_as end.0, end.1)
  ended_as (Err node) = Err node
