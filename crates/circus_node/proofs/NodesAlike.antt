-- A node takes the same steps with the behaviour of its module.
use Rattle.std.proofs.Common.{◌≡◌, ℕ, List, [], Option, None, Some, refl, sym, ◌∙◌, ap}
use Rattle.std.specs.Prelude.{option_map, option_and_then}
use Rattle.std.specs.Option.{option_map_or, option_to_list}
use Rattle.circus_value.specs.ValueTree.{ValueTree}
use Rattle.circus_value.specs.declared.outcome.Outcome.{Outcome}
use Rattle.circus_header.specs.declared.answer.ReturnHeader.{ReturnHeader}
use Rattle.circus_header.specs.declared.answer.ReturnHeader.TheVariants as says
use Rattle.circus_collate.specs.declared.deployment.Deployment.{Deployment}
use Rattle.circus_model.specs.NextTurn.{NextTurn}
use Rattle.circus_model.specs.Behaviour.{Behaviour}
use Rattle.circus_model.specs.declared.signature.Signature.{Signature}
use Rattle.circus_performing.specs.Record.{behaviour}
use Rattle.circus_ring.specs.RingTable.{boot_views}
use Rattle.circus_segment.specs.Segment.{reading}
use Rattle.circus_wire.specs.Wire.{after_datagram, sent_by_datagram, heard_from, stopped_at}
use Rattle.circus_wire.specs.declared.delivery.Heard.{Heard}
use Rattle.circus_wire.specs.declared.delivery.Heard.TheVariants.{Dropped, Taken, Called, Returned}
use Rattle.circus_member_rules.specs.declared.occurrence.AskName.{AskName}
use Rattle.circus_member_rules.specs.declared.occurrence.Occurrence.{Occurrence}
use Rattle.circus_member_rules.specs.declared.occurrence.Occurrence.TheVariants as comes
use Rattle.circus_member_rules.specs.declared.occurrence.Purpose.{Purpose}
use Rattle.circus_member_rules.specs.declared.occurrence.Purpose.TheVariants as for
use Rattle.circus_member_rules.specs.MemberState.{MemberState, Doing}
use Rattle.circus_member_rules.specs.Step as member_step
use Rattle.circus_node.specs.declared.event.Event.{Event}
use Rattle.circus_node.specs.declared.event.Event.TheVariants.{Datagram, Tick, Down, Join}
use Rattle.circus_node.specs.declared.event.Give.{Give}
use Rattle.circus_node.specs.NodeState.{NodeState, Acting, member, ringmaster}
use Rattle.circus_node.specs.Accepting as accepting
use Rattle.circus_node.specs.Headers.{return_in}
use Rattle.circus_node.specs.Making as making
use Rattle.circus_node.specs.Making.{Made, consequences, a_drop}
use Rattle.circus_node.specs.Sending.{Sending, sent, spent, gives_of, all_handed}
use Rattle.circus_node.specs.Booting as booting
use Rattle.circus_node.specs.Step as step
use Rattle.circus_node.specs.Step.{Ended}
use Rattle.circus_node.specs.Alike.{declared_of, turn_of, first_of, member_as, acting_as, made_as, node_as, ended_as}
use Rattle.circus_node.proofs.MembersAlike.{stepped_as, difference_as, booted_as}

module _ {M : Type 0} (declared : M → Signature) (turn : M → List ValueTree → ℕ → List ValueTree → List Outcome → NextTurn) (first : M → List ValueTree) where
  abbrev mem : MemberState M → MemberState Behaviour
  mem m = member_as declared turn first m

  abbrev act : Acting M → Acting Behaviour
  act a = acting_as declared turn first a

  -- ---- what is accepted

  taken_as : (d : Deployment) (s : Signature) (m : MemberState M) (name : AskName) (server from : ℕ) (header : ReturnHeader) (at : ℕ) (message : List ℕ)
      → accepting.taken_answer d s (mem m) name server from header at message ≡ accepting.taken_answer d s m name server from header at message
  taken_as d s m name server from (says.Reply clock) at message = refl
  taken_as d s m name server from (says.Stale incarnation) at message = refl
  taken_as d s m name server from (says.Before first) at message = refl
  taken_as d s m name server from (says.Snapshot count) at message = refl
  taken_as d s m name server from says.Table at message = refl

  answer_as : (d : Deployment) (s : Signature) (m : MemberState M) (name : AskName) (server from : ℕ) (message : List ℕ)
      → accepting.accepted_answer d s (mem m) name server from message ≡ accepting.accepted_answer d s m name server from message
  answer_as d s m name server from message = by_header (return_in message)
    where
      by_header : (o : Option (ReturnHeader × ℕ))
          → option_and_then (λ (read : ReturnHeader × ℕ). accepting.taken_answer d s (mem m) name server from read.0 read.1 message) o
          ≡ option_and_then (λ (read : ReturnHeader × ℕ). accepting.taken_answer d s m name server from read.0 read.1 message) o
      by_header None = refl
      by_header (Some read) = taken_as d s m name server from read.0 read.1 message

  return_as : (d : Deployment) (s : Signature) (m : MemberState M) (from : ℕ) (purpose : Purpose) (message : List ℕ)
      → accepting.accepted_return d s (mem m) from purpose message ≡ accepting.accepted_return d s m from purpose message
  return_as d s m from (for.Ask name server) message = answer_as d s m name server from message
  return_as d s m from (for.Ring request) message = refl
  return_as d s m from for.Fetch message = refl

  accepted_as : (d : Deployment) (s : Signature) (m : MemberState M) (from : ℕ) (heard : Heard Purpose)
      → accepting.occurrence_of_heard d s (mem m) from heard ≡ accepting.occurrence_of_heard d s m from heard
  accepted_as d s m from Dropped = refl
  accepted_as d s m from Taken = refl
  accepted_as d s m from (Called sender message) = refl
  accepted_as d s m from (Returned number purpose message) = return_as d s m from purpose message

  -- ---- what is made of it

  happens_as : (at : ℕ) (m : MemberState M) (o : Occurrence)
      → made_as declared turn first (making.happens declared turn at m o) ≡ making.happens declared_of turn_of at (mem m) o
  happens_as at m o =
      let made : Doing Behaviour → Option _ → Made Behaviour = λ d differs. record { acting = member d.member; came = consequences d.effects (option_to_list differs) } in
      ap (λ d. made d (member_step.difference o m)) (stepped_as declared turn first at o m)
      ∙ sym (ap (made (member_step.step_member declared_of turn_of at o (mem m))) (difference_as declared turn first o m))

  arrives_at_member_as : (d : Deployment) (at from : ℕ) (heard : Heard Purpose) (m : MemberState M)
      → made_as declared turn first (making.arrives_at_member declared turn d at from heard m) ≡ making.arrives_at_member declared_of turn_of d at from heard (mem m)
  arrives_at_member_as d at from heard m =
      by_option (accepting.occurrence_of_heard d (declared m.performing.hosted) m from heard)
      ∙ sym (ap (λ o. option_map_or (making.happens declared_of turn_of at (mem m)) o (making.refuse (member (mem m)))) (accepted_as d (declared m.performing.hosted) m from heard))
    where
      by_option : (o : Option Occurrence) → made_as declared turn first (option_map_or (making.happens declared turn at m) o (making.refuse (member m)))
          ≡ option_map_or (making.happens declared_of turn_of at (mem m)) o (making.refuse (member (mem m)))
      by_option None = refl
      by_option (Some o) = happens_as at m o

  arrives_as : (d : Deployment) (at from : ℕ) (heard : Heard Purpose) (a : Acting M)
      → made_as declared turn first (making.arrives declared turn d at from heard a) ≡ making.arrives declared_of turn_of d at from heard (act a)
  arrives_as d at from heard (member m) = arrives_at_member_as d at from heard m
  arrives_as d at from heard (ringmaster kept) = refl

  hears_as : (d : Deployment) (at from : ℕ) (heard : Heard Purpose) (a : Acting M)
      → made_as declared turn first (making.hears declared turn d at from heard a) ≡ making.hears declared_of turn_of d at from heard (act a)
  hears_as d at from Dropped a = refl
  hears_as d at from Taken a = refl
  hears_as d at from (Called sender message) a = arrives_as d at from (Called sender message) a
  hears_as d at from (Returned number purpose message) a = arrives_as d at from (Returned number purpose message) a

  learns_down_as : (at node : ℕ) (a : Acting M) → made_as declared turn first (making.learns_down declared turn at node a) ≡ making.learns_down declared_of turn_of at node (act a)
  learns_down_as at node (member m) = happens_as at m (comes.Declared node)
  learns_down_as at node (ringmaster kept) = refl

  joins_as : (at : ℕ) (a : Acting M) → made_as declared turn first (making.is_told_to_join declared turn at a) ≡ making.is_told_to_join declared_of turn_of at (act a)
  joins_as at (member m) = happens_as at m comes.Joins
  joins_as at (ringmaster kept) = refl

  -- ---- a step

  concluded_as : (n : NodeState M) (gives : List Give) (came : _)
      → ended_as declared turn first (step.conclude_step n gives came) ≡ step.conclude_step (node_as declared turn first n) gives came
  concluded_as n gives came = by_sending (all_handed (sent n.wire gives) came.effects)
    where
      by_sending : (s : Sending) → ended_as declared turn first (step.end_step n came s) ≡ step.end_step (node_as declared turn first n) came s
      by_sending (sent w given) = refl
      by_sending (spent node) = refl

  pub node_stepped_as : (at : ℕ) (event : Event) (n : NodeState M)
      → ended_as declared turn first (step.step_node declared turn at event n) ≡ step.step_node declared_of turn_of at event (node_as declared turn first n)
  node_stepped_as at (Datagram from bytes) n =
      let segment = reading bytes in
      let heard = heard_from n.wire from segment in
      let end : Made Behaviour → Ended Behaviour = λ made.
      step.conclude_step (record { deployment = n.deployment; wire = after_datagram n.wire from segment; acting = made.acting; dropped = n.dropped }) (gives_of (sent_by_datagram n.wire from segment)) made.came in
      let made = making.hears declared turn n.deployment at from heard n.acting in
      concluded_as (record n { wire = after_datagram n.wire from segment; acting = made.acting }) (gives_of (sent_by_datagram n.wire from segment)) made.came
      ∙ ap end (hears_as n.deployment at from heard n.acting)
  node_stepped_as at Tick n = refl
  node_stepped_as at (Down node) n =
      let end : Made Behaviour → Ended Behaviour = λ made.
      step.conclude_step (record { deployment = n.deployment; wire = stopped_at n.wire node; acting = made.acting; dropped = n.dropped }) [] made.came in
      let made = making.learns_down declared turn at node n.acting in
      concluded_as (record n { wire = stopped_at n.wire node; acting = made.acting }) [] made.came
      ∙ ap end (learns_down_as at node n.acting)
  node_stepped_as at Join n =
      let end : Made Behaviour → Ended Behaviour = λ made.
      step.conclude_step (record { deployment = n.deployment; wire = n.wire; acting = made.acting; dropped = n.dropped }) [] made.came in
      let made = making.is_told_to_join declared turn at n.acting in
      concluded_as (record n { acting = made.acting }) [] made.came
      ∙ ap end (joins_as at n.acting)

  -- ---- at boot

  made_at_boot_as : (d : Deployment) (home : Option _) (hosted : Option M)
      → made_as declared turn first (booting.made_at_boot declared turn first d home hosted)
      ≡ booting.made_at_boot declared_of turn_of first_of d home (option_map (behaviour declared turn first) hosted)
  made_at_boot_as d (Some home) (Some hosted) =
      ap (λ (made : Doing Behaviour). record { acting = member made.member; came = consequences made.effects [] })
      (booted_as declared turn first home.place (boot_views d.troupes) home.beginning hosted)
  made_at_boot_as d (Some home) None = refl
  made_at_boot_as d None hosted = refl

  pub node_booted_as : (d : Deployment) (hosted : Option M) (node : ℕ)
      → ended_as declared turn first (booting.boot_node declared turn first d hosted node)
      ≡ booting.boot_node declared_of turn_of first_of d (option_map (behaviour declared turn first) hosted) node
  node_booted_as d hosted node =
      let made = booting.made_at_boot declared turn first d (booting.home_of d node) hosted in
      let end : Made Behaviour → Ended Behaviour = λ m.
      step.conclude_step (record { deployment = d; wire = booting.fresh_wire d node; acting = m.acting; dropped = 0 }) [] m.came in
      concluded_as (record { deployment = d; wire = booting.fresh_wire d node; acting = made.acting; dropped = 0 }) [] made.came
      ∙ ap end (made_at_boot_as d (booting.home_of d node) hosted)
