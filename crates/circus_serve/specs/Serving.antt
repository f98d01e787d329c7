-- A node that is served: what happens to it, by what the takes answer.
use Rattle.std.specs.Prelude.{ℕ, ◌+◌, Bool, true, false, if◌then◌else◌, List, [], ◌∷◌, ◌++◌, Ok, Err}
use Rattle.std.specs.Option.{option_map_or}
use Rattle.circus_value.specs.ValueTree.{ValueTree}
use Rattle.circus_value.specs.declared.outcome.Outcome.{Outcome}
use Rattle.circus_collate.specs.declared.deployment.Deployment.{Deployment}
use Rattle.circus_transfer.specs.declared.joiner.Joiner.{Joiner}
use Rattle.circus_transfer.specs.declared.joiner.Joiner.TheVariants.{Outside, Asking, Fetching, Active}
use Rattle.circus_model.specs.NextTurn.{NextTurn}
use Rattle.circus_model.specs.declared.signature.Signature.{Signature}
use Rattle.circus_record.specs.declared.record.MemberRecord.{MemberRecord}
use Rattle.circus_outside.specs.declared.link.TakenFrom.{TakenFrom}
use Rattle.circus_outside.specs.declared.link.TakenFrom.TheVariants.{From, Nothing}
use Rattle.circus_node.specs.declared.event.Event.{Event}
use Rattle.circus_node.specs.declared.event.Event.TheVariants.{Datagram, Tick, Down, Join}
use Rattle.circus_node.specs.declared.event.Give.{Give}
use Rattle.circus_node.specs.NodeState.{NodeState, member_record}
use Rattle.circus_node.specs.Step as step
use Rattle.circus_serve.specs.declared.happening.Happening.{Happening}
use Rattle.circus_serve.specs.declared.happening.Happening.TheVariants.{Booted, Stepped, Foreign}
use Rattle.circus_serve.specs.Happened.{peer_at}

-- a member that stands outside its troupe, as that of a spare does at boot
abbrev pub is_outside : Joiner → Bool
is_outside Outside = true
is_outside Asking = false
is_outside (Fetching incarnation) = false
is_outside (Active first) = false

pub record Served (M : Type 0) : Type 0 where
  pub node : NodeState M
  -- the number of its next event, boot being event 0
  pub next : ℕ
  -- oldest first
  pub happened : List Happening

-- it is served on, or its next event has no end: no number is left to a node, and this happened before
pub data Progress (M : Type 0) : Type 0 where
  on : Served M → Progress M
  spent : ℕ → List Happening → Progress M

module _ {M : Type 0} where
  abbrev pub happened_by : Progress M → List Happening
  happened_by (on s) = s.happened
  happened_by (spent node happened) = happened

  -- and then
  abbrev pub and_then : (Served M → Progress M) → Progress M → Progress M
  and_then next (on s) = next s
  and_then next (spent node happened) = spent node happened

  -- an event has ended so
  abbrev pub conclude_event : Event → Served M → step.Ended M → Progress M
  conclude_event event s (Ok ended) =
      on (record {
        node = ended.0;
        next = s.next + 1;
        happened = s.happened ++ Stepped event ended.1.gives ended.1.differences ∷ [];
      })
  conclude_event event s (Err node) = spent node s.happened

  -- the nodes that are suspected when it has ended so, in node order
  abbrev pub suspects_in : step.Ended M → List ℕ
  suspects_in (Ok ended) = ended.1.suspects
  suspects_in (Err node) = []

  -- a datagram from no other node is noted, and is no event
  abbrev pub with_foreign : ℕ → List ℕ → Served M → Served M
  with_foreign port bytes s = record s { happened = s.happened ++ Foreign port bytes ∷ [] }

  -- it hosts a spare that was not told to join
  abbrev pub is_spare : NodeState M → Bool
  is_spare n = option_map_or (λ (kept : MemberRecord). is_outside kept.phase) (member_record n.acting) false

  -- at boot, with what it gave
  abbrev pub at_boot : NodeState M → List Give → Served M
  at_boot booted gives = record { node = booted; next = 1; happened = Booted gives ∷ [] }

module _ {M : Type 0} (declared : M → Signature) (turn : M → List ValueTree → ℕ → List ValueTree → List Outcome → NextTurn) where
  unfoldable pub event_comes : Event → Served M → Progress M
  event_comes event s = conclude_event event s (step.step_node declared turn s.next event s.node)

  -- the nodes that are suspected by an event, in node order
  unfoldable pub suspects_by : Event → Served M → List ℕ
  suspects_by event s = suspects_in (step.step_node declared turn s.next event s.node)

  -- these nodes are declared to be down, one after the other
  abbrev pub all_declared : List ℕ → Served M → Progress M
  all_declared [] s = on s
  all_declared (node ∷ others) s = and_then (all_declared others) (event_comes (Down node) s)

  -- an event, and behind it a declaration of each node that is suspected then
  abbrev pub comes : Event → Served M → Progress M
  comes event s = and_then (all_declared (suspects_by event s)) (event_comes event s)

  -- a take: a datagram of another node is an event, one of no other node is foreign, and where nothing came it is a tick
  abbrev pub take_comes : Deployment → ℕ → TakenFrom → Served M → Progress M
  take_comes d own (From port bytes) s =
      option_map_or (λ from. comes (Datagram from bytes) s) (peer_at d own port) (on (with_foreign port bytes s))
  take_comes d own Nothing s = comes Tick s

  -- takes, oldest first
  abbrev pub all_took : Deployment → ℕ → List TakenFrom → Served M → Progress M
  all_took d own [] s = on s
  all_took d own (taken ∷ others) s = and_then (all_took d own others) (take_comes d own taken s)

  -- a spare is told to join, directly behind boot
  abbrev pub begin_serving : NodeState M → List Give → Progress M
  begin_serving booted gives = if is_spare booted then comes Join (at_boot booted gives) else on (at_boot booted gives)

  -- a node that booted so, over these takes
  abbrev pub serve_takes : Deployment → ℕ → NodeState M → List Give → List TakenFrom → Progress M
  serve_takes d own booted gives takes = and_then (all_took d own takes) (begin_serving booted gives)
