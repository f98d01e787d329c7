-- The same happens to a served node with the behaviour of its module.
use Rattle.std.proofs.Common.{◌≡◌, ℕ, Bool, true, false, List, [], ◌∷◌, Option, None, Some, Ok, Err, refl, sym, ◌∙◌, ap}
use Rattle.std.specs.Prelude.{if◌then◌else◌}
use Rattle.std.specs.Option.{option_map_or}
use Rattle.circus_value.specs.ValueTree.{ValueTree}
use Rattle.circus_value.specs.declared.outcome.Outcome.{Outcome}
use Rattle.circus_collate.specs.declared.deployment.Deployment.{Deployment}
use Rattle.circus_model.specs.NextTurn.{NextTurn}
use Rattle.circus_model.specs.Behaviour.{Behaviour}
use Rattle.circus_model.specs.declared.signature.Signature.{Signature}
use Rattle.circus_record.specs.declared.record.MemberRecord.{MemberRecord}
use Rattle.circus_outside.specs.declared.link.TakenFrom.{TakenFrom}
use Rattle.circus_outside.specs.declared.link.TakenFrom.TheVariants.{From, Nothing}
use Rattle.circus_node.specs.declared.event.Event.{Event}
use Rattle.circus_node.specs.declared.event.Event.TheVariants.{Datagram, Tick, Down, Join}
use Rattle.circus_node.specs.declared.event.Give.{Give}
use Rattle.circus_node.specs.NodeState.{NodeState, Acting, member, ringmaster, member_record}
use Rattle.circus_node.specs.Step as step
use Rattle.circus_node.specs.Alike.{declared_of, turn_of, acting_as, node_as, ended_as}
use Rattle.circus_node.proofs.NodesAlike.{node_stepped_as}
use Rattle.circus_serve.specs.Happened.{peer_at}
use Rattle.circus_serve.specs.Serving.{Served, Progress, on, spent, is_outside, is_spare, at_boot, and_then, conclude_event, suspects_in, with_foreign, event_comes, suspects_by, all_declared, comes, take_comes, all_took, begin_serving, serve_takes}
use Rattle.circus_node_command.specs.Alike.{served_as, progress_as}

module _ {M : Type 0} (declared : M → Signature) (turn : M → List ValueTree → ℕ → List ValueTree → List Outcome → NextTurn) (first : M → List ValueTree) where
  abbrev one : Served M → Served Behaviour
  one s = served_as declared turn first s

  abbrev seen : Progress M → Progress Behaviour
  seen p = progress_as declared turn first p

  pub record_as : (a : Acting M) → member_record (acting_as declared turn first a) ≡ member_record a
  record_as (member m) = refl
  record_as (ringmaster kept) = refl

  and_then_as : (next : Served M → Progress M) (also : Served Behaviour → Progress Behaviour) → ((s : Served M) → seen (next s) ≡ also (one s))
      → (p : Progress M) → seen (and_then next p) ≡ and_then also (seen p)
  and_then_as next also same (on s) = same s
  and_then_as next also same (spent node happened) = refl

  -- ---- an event

  concluded_as : (event : Event) (s : Served M) (end : step.Ended M)
      → seen (conclude_event event s end) ≡ conclude_event event (one s) (ended_as declared turn first end)
  concluded_as event s (Ok ended) = refl
  concluded_as event s (Err node) = refl

  event_comes_as : (event : Event) (s : Served M) → seen (event_comes declared turn event s) ≡ event_comes declared_of turn_of event (one s)
  unfolding event_comes
  event_comes_as event s =
      concluded_as event s (step.step_node declared turn s.next event s.node)
      ∙ ap (conclude_event event (one s)) (node_stepped_as declared turn first s.next event s.node)

  suspects_as : (end : step.Ended M) → suspects_in end ≡ suspects_in (ended_as declared turn first end)
  suspects_as (Ok ended) = refl
  suspects_as (Err node) = refl

  suspected_as : (event : Event) (s : Served M) → suspects_by declared turn event s ≡ suspects_by declared_of turn_of event (one s)
  unfolding suspects_by
  suspected_as event s =
      suspects_as (step.step_node declared turn s.next event s.node) ∙ ap suspects_in (node_stepped_as declared turn first s.next event s.node)

  all_declared_as : (nodes : List ℕ) (s : Served M) → seen (all_declared declared turn nodes s) ≡ all_declared declared_of turn_of nodes (one s)
  all_declared_as [] s = refl
  all_declared_as (node ∷ others) s =
      and_then_as (all_declared declared turn others) (all_declared declared_of turn_of others) (all_declared_as others) (event_comes declared turn (Down node) s)
      ∙ ap (and_then (all_declared declared_of turn_of others)) (event_comes_as (Down node) s)

  comes_as : (event : Event) (s : Served M) → seen (comes declared turn event s) ≡ comes declared_of turn_of event (one s)
  comes_as event s =
      let suspects = suspects_by declared turn event s in
      and_then_as (all_declared declared turn suspects) (all_declared declared_of turn_of suspects) (all_declared_as suspects) (event_comes declared turn event s)
      ∙ (λ i. and_then (all_declared declared_of turn_of (suspected_as event s i)) (event_comes_as event s i))

  -- ---- takes

  took_as : (d : Deployment) (own : ℕ) (taken : TakenFrom) (s : Served M) → seen (take_comes declared turn d own taken s) ≡ take_comes declared_of turn_of d own taken (one s)
  took_as d own (From port bytes) s = by_option (peer_at d own port)
    where
      by_option : (o : Option ℕ)
          → seen (option_map_or (λ from. comes declared turn (Datagram from bytes) s) o (on (with_foreign port bytes s)))
          ≡ option_map_or (λ from. comes declared_of turn_of (Datagram from bytes) (one s)) o (on (with_foreign port bytes (one s)))
      by_option None = refl
      by_option (Some from) = comes_as (Datagram from bytes) s
  took_as d own Nothing s = comes_as Tick s

  all_took_as : (d : Deployment) (own : ℕ) (takes : List TakenFrom) (s : Served M)
      → seen (all_took declared turn d own takes s) ≡ all_took declared_of turn_of d own takes (one s)
  all_took_as d own [] s = refl
  all_took_as d own (taken ∷ others) s =
      and_then_as (all_took declared turn d own others) (all_took declared_of turn_of d own others) (all_took_as d own others) (take_comes declared turn d own taken s)
      ∙ ap (and_then (all_took declared_of turn_of d own others)) (took_as d own taken s)

  -- ---- at boot

  spare_as : (n : NodeState M) → is_spare n ≡ is_spare (node_as declared turn first n)
  spare_as n = ap (λ (o : Option MemberRecord). option_map_or (λ (kept : MemberRecord). is_outside kept.phase) o false) (sym (record_as n.acting))

  begun_as : (booted : NodeState M) (gives : List Give)
      → seen (begin_serving declared turn booted gives) ≡ begin_serving declared_of turn_of (node_as declared turn first booted) gives
  begun_as booted gives =
      by_test (is_spare booted)
      ∙ ap (λ b. if b then comes declared_of turn_of Join (one (at_boot booted gives)) else on (one (at_boot booted gives))) (spare_as booted)
    where
      by_test : (b : Bool) → seen (if b then comes declared turn Join (at_boot booted gives) else on (at_boot booted gives))
          ≡ (if b then comes declared_of turn_of Join (one (at_boot booted gives)) else on (one (at_boot booted gives)))
      by_test true = comes_as Join (at_boot booted gives)
      by_test false = refl

  pub serving_as : (d : Deployment) (own : ℕ) (booted : NodeState M) (gives : List Give) (takes : List TakenFrom)
      → seen (serve_takes declared turn d own booted gives takes) ≡ serve_takes declared_of turn_of d own (node_as declared turn first booted) gives takes
  serving_as d own booted gives takes =
      and_then_as (all_took declared turn d own takes) (all_took declared_of turn_of d own takes) (all_took_as d own takes) (begin_serving declared turn booted gives)
      ∙ ap (and_then (all_took declared_of turn_of d own takes)) (begun_as booted gives)
