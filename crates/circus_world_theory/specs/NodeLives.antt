-- A node by itself, to which anything may come, and what has happened to its member.
use Rattle.std.specs.Prelude.{◌≡◌, ℕ, ◌<◌, List, [], ◌∷◌, Some, Ok, Err}
use Rattle.circus_value.specs.Parts.{AreOctets}
use Rattle.circus_value.specs.ValueTree.{ValueTree}
use Rattle.circus_value.specs.declared.outcome.Outcome.{Outcome}
use Rattle.circus_collate.specs.declared.deployment.Deployment.{Deployment}
use Rattle.circus_model.specs.NextTurn.{NextTurn}
use Rattle.circus_model.specs.declared.signature.Signature.{Signature}
use Rattle.circus_node.specs.declared.event.Event.{Event}
use Rattle.circus_node.specs.declared.event.Event.TheVariants as comes
use Rattle.circus_node.specs.declared.event.Outputs.{Outputs}
use Rattle.circus_node.specs.Booting.{CanBoot}
use Rattle.circus_node.specs.Booting as booting
use Rattle.circus_node.specs.NodeState.{NodeState}
use Rattle.circus_node.specs.Step.{Ended, step_node}
use Rattle.circus_member_theory.specs.Past.{Past, booted}
use Rattle.circus_world_theory.specs.Happened.{happens_by, with_one}

-- what comes in each step
abbrev pub Events : Type 0
Events = List (ℕ × Event)

-- the steps rise, behind this one
abbrev pub Rising : ℕ → Events → Type 0
Rising step [] = Unit {0}
Rising step (next ∷ events) = (step < next.0) × Rising next.0 events

-- a datagram is bytes
abbrev pub IsOfBytes : Event → Type 0
IsOfBytes (comes.Datagram from bytes) = AreOctets bytes
IsOfBytes comes.Tick = Unit {0}
IsOfBytes (comes.Down node) = Unit {0}
IsOfBytes comes.Join = Unit {0}

module _ {M : Type 0} (declared : M → Signature) (turn : M → List ValueTree → ℕ → List ValueTree → List Outcome → NextTurn) where
  -- events come to a node one behind another, and lead to this: datagrams of anyone with any bytes, ticks, declarations and joins
  abbrev pub Comes : Events → NodeState M → NodeState M → Type 0
  Comes [] n last = last ≡ n
  Comes (next ∷ events) n last = (ended : NodeState M × Outputs) × IsOfBytes next.1 × (step_node declared turn next.0 next.1 n ≡ Ok ended) × Comes events ended.0 last

  -- and then behind others, from the node on that a step came to, if it came to one
  abbrev pub with_rest : (NodeState M → Past) → Past → Ended M → Past
  with_rest others p (Ok ended) = others ended.0
  with_rest others p (Err node) = p

  -- a past, and what happens to the member of a node behind events, as far as they are stepped
  abbrev pub with_events : Past → Events → NodeState M → Past
  with_events p [] n = p
  with_events p (next ∷ events) n =
      with_rest (with_events (with_one p next.0 (happens_by declared next.1 n)) events) p (step_node declared turn next.0 next.1 n)

  -- from boot on
  abbrev pub past_behind : Events → NodeState M → Past
  past_behind events begun = with_events booted events begun

module _ {M : Type 0} (declared : M → Signature) (turn : M → List ValueTree → ℕ → List ValueTree → List Outcome → NextTurn) (first : M → List ValueTree) where
  -- a node of a program that hosts this boots, and then events come to it in rising steps, and lead to the last
  pub record IsLife (d : Deployment) (own : M) (node : ℕ) (events : Events) (begun last : NodeState M) : Type 0 where
    pub can : CanBoot d node (Some (declared own))
    pub outputs : Outputs
    pub boots : booting.boot_node declared turn first d (Some own) node ≡ Ok (begun, outputs)
    pub rising : Rising 0 events
    pub comes : Comes declared turn events begun last
