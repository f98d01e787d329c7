-- What a node gives that hosts a member goes to other nodes, and is bytes.
use Rattle.std.specs.List.{AllByRecursion}
use Rattle.std.specs.Prelude.{slice_get, filter}
use Rattle.std.proofs.Common.{◌≡◌, ℕ, ◌+◌, ◌<◌, List, [], ◌∷◌, length, Some, Ok, refl, sym, ap, subst, ◌∙◌, arith}
use Rattle.std.proofs.lemmas.List.Elements.{recursion_from_All}
use Rattle.circus_value.specs.Parts.{AreOctets}
use Rattle.circus_value.specs.ValueTree.{ValueTree}
use Rattle.circus_value.specs.declared.caller.Caller.{Caller}
use Rattle.circus_value.specs.declared.outcome.Outcome.{Outcome}
use Rattle.circus_exchange.specs.Exchange.{start}
use Rattle.circus_collate.specs.Deployment.{IsDeployment}
use Rattle.circus_collate.specs.declared.deployment.Deployment.{Deployment}
use Rattle.circus_collate.specs.declared.deployment.Troupe.{Troupe}
use Rattle.circus_collate.specs.declared.view.View.{View}
use Rattle.circus_ring.specs.RingTable.{boot_views}
use Rattle.circus_transfer.specs.declared.joiner.Joiner.{Joiner}
use Rattle.circus_model.specs.Behaviour.{Behaviour, IsModule}
use Rattle.circus_model.specs.NextTurn.{NextTurn}
use Rattle.circus_model.specs.declared.signature.Signature.{Signature}
use Rattle.circus_config.specs.declared.plan.Plan.{Plan}
use Rattle.circus_record.specs.declared.record.MemberRecord.{MemberRecord}
use Rattle.circus_performing.specs.Record.{behaviour}
use Rattle.circus_pair.specs.Handed.{call_at, return_at}
use Rattle.circus_pair.specs.TwoEnds.{sent_by}
use Rattle.circus_pair.proofs.Each.{each_at}
use Rattle.circus_wire.specs.Wire.{IsOther}
use Rattle.circus_wire.specs.WireActs.{WireActs, acts_at}
use Rattle.circus_wire.specs.WireStanding.{pair_of}
use Rattle.circus_wire.proofs.Histories.{sent_is}
use Rattle.circus_member_rules.specs.Happening.{IsHome}
use Rattle.circus_member_rules.specs.declared.occurrence.Effect.{Effect}
use Rattle.circus_member_rules.specs.declared.occurrence.Effect.TheVariants as made
use Rattle.circus_member_rules.specs.declared.occurrence.Purpose.{Purpose}
use Rattle.circus_member_rules.specs.declared.occurrence.Purpose.TheVariants as for
use Rattle.circus_member_rules.specs.declared.place.Beginning.{Beginning}
use Rattle.circus_member_rules.specs.declared.place.Place.{Place}
use Rattle.circus_node.specs.Accepting.{troupe_at}
use Rattle.circus_node.specs.Booting.{CanBoot, IsOfTroupe, beginning_in, home_in}
use Rattle.circus_node.specs.Node.{IsNodeOf}
use Rattle.circus_node.specs.NodeState.{NodeState, member_record}
use Rattle.circus_node.specs.Step.{CanCome}
use Rattle.circus_node.specs.Trace as trace
use Rattle.circus_node.specs.Trace.{Trace, StandsFor, effects_in, effects_at_boot}
use Rattle.circus_node.specs.declared.event.Event.{Event}
use Rattle.circus_node.specs.declared.event.Event.TheVariants as comes
use Rattle.circus_node.specs.declared.event.Give.{Give}
use Rattle.circus_node.proofs.NodeLemmas.{boot_is_of, boot_goes, step_is_of, step_goes}
use Rattle.circus_member_theory.specs.Asks.{is_of_ask, calls_owed}
use Rattle.circus_member_theory.specs.Living.{MayLive, after, phase_at_boot}
use Rattle.circus_member_theory.specs.Past.{Past}
use Rattle.circus_member_theory.specs.Requests.{is_request, requests_owed}
use Rattle.circus_world_theory.specs.Histories.{beginning_of}
use Rattle.circus_world_theory.specs.NodeActs.{with_all, acts_in}
use Rattle.circus_world_theory.proofs.Border.Makers.{IsIn, was_called, was_answered}
use Rattle.circus_world_theory.proofs.Given.{HaveGiven, peer_by, given_carries}
use Rattle.circus_world_theory.proofs.Steps.{given_brings, step_gives, boot_gives}
use Rattle.circus_headline_theory.specs.Datagrams.Due.{WasSo, CallIsDue, ReturnIsDue}
use Rattle.circus_headline_theory.specs.Datagrams.Lives.{IsOfOther, boot_acts}
use Rattle.circus_headline_theory.specs.NodeRun.{past_of, IsNodeRun}
use Rattle.circus_headline_theory.specs.ServedRun.{IsNumbered}
use Rattle.circus_headline_theory.specs.Trace.{now, ComesFromOthers}
use Rattle.circus_headline_theory.proofs.Course.{Follows, is_life, may_live, follows_on, follows_at_boot}
use Rattle.circus_headline_theory.proofs.Datagrams.Asked.{call_was_due}
use Rattle.circus_headline_theory.proofs.Datagrams.AtPairs.{other_by, lawful_then}
use Rattle.circus_headline_theory.proofs.Datagrams.Course.{all_made}
use Rattle.circus_headline_theory.proofs.Datagrams.Membership.{filtered_in}
use Rattle.circus_headline_theory.proofs.Datagrams.Requested.{WasDue, request_was_due}
use Rattle.circus_headline_theory.proofs.Datagrams.Returning.{return_was_due}
use Rattle.circus_headline_theory.proofs.Datagrams.Theorem.{is_read}
use Rattle.circus_headline_theory.proofs.Growing.{says_same}
use Rattle.circus_headline_theory.proofs.Owed.Calling.{called_all}
use Rattle.circus_headline_theory.proofs.Owed.Lives.{rises}
use Rattle.circus_headline_theory.proofs.Owed.Requesting.{asked_all}
use Rattle.circus_headline_theory.proofs.Owed.States.{are_returned}
use Rattle.circus_headline_theory.proofs.Spelled.{sent_octets, message_octets}
use Rattle.circus_headline_theory.proofs.Stood.{is_run_of_core}
use Rattle.circus_audit.specs.Possible.{CanBeGiven}
use Rattle.circus_verdict.proofs.Auditing as auditing
use Rattle.circus_verdict.proofs.Possible.Hearing.{HearsOctets, HasHeard, has_heard, all_well, rises_so}
use Rattle.circus_verdict.proofs.Possible.Saying.{call_octets, return_octets}
use Rattle.circus_verdict.proofs.Possible.Whole.{bytes_of_octets, GivesWell}

-- a node of a plan that hosts this
module _ {M : Type 0} (declared : M → Signature) (turn : M → List ValueTree → ℕ → List ValueTree → List Outcome → NextTurn) (first : M → List ValueTree)
    (lawful : (hosted : M) → IsModule (behaviour declared turn first hosted)) (plan : Plan) (named : length plan.names ≡ length plan.deployment.troupes) (node number : ℕ) (troupe : Troupe) (own : M)
    (can : CanBoot plan.deployment node (Some (declared own))) (hosts : troupe_at plan.deployment node ≡ Some number) (there : slice_get plan.deployment.troupes number ≡ Some troupe)
    (home : IsHome (declared own) (home_in plan.deployment node number troupe).place (boot_views plan.deployment.troupes)) where
  abbrev d : Deployment
  d = plan.deployment

  abbrev good : IsDeployment d
  good = can.deployment

  abbrev b : Behaviour
  b = behaviour declared turn first own

  abbrev place : Place
  place = (home_in d node number troupe).place

  abbrev views : List View
  views = boot_views d.troupes

  abbrev beginning : Beginning
  beginning = beginning_in troupe node

  abbrev begins : Joiner
  begins = phase_at_boot beginning

  of_troupe : IsOfTroupe d number (declared own)
  of_troupe = can.fits number (declared own) hosts refl

  abbrev FollowsSo : Trace → Past → WireActs Purpose → NodeState M → Type 0
  FollowsSo t p acts n = Follows declared turn first lawful d good node number troupe own hosts home t p acts n

  -- ---- what was made is bytes

  module _ (t : Trace) (p : Past) (acts : WireActs Purpose) (n : NodeState M) (f : FollowsSo t p acts n) (stands : StandsFor declared turn first d (Some own) node t n)
      (numbered : IsNumbered t) (others : ComesFromOthers d node t) (octets : HearsOctets d node t) where
    abbrev kept : MemberRecord
    kept = (after declared turn first place views beginning own p).performing.kept

    abbrev makes : List (ℕ × Effect)
    makes = all_made declared turn first lawful d good node number troupe own p

    may : MayLive declared turn first place views beginning own p
    may = may_live declared turn first lawful d good node number troupe own hosts home p n.acting f.goes.lives

    kept_is : member_record n.acting ≡ Some kept
    kept_is = ap member_record (is_life declared turn first lawful d good node number troupe own hosts home p n.acting f.goes.lives)

    run : IsNodeRun d b node number troupe t kept
    run = (is_run_of_core declared turn first d own node lawful can number troupe hosts there t n kept stands (auditing.rises t numbered) others kept_is).run

    past_is : past_of d b node number troupe kept t ≡ p
    past_is = f.leaves.past_is kept (says_same place views begins (first own) p kept)

    says_call : (q : Past) (to : ℕ) (message : List ℕ) (purpose : Purpose) → CallIsDue place views begins (first own) kept q to message purpose → AreOctets message
    says_call =
        call_octets plan named b (lawful own) node number troupe of_troupe kept t run (all_well plan named b node number troupe kept t others octets)
        (rises_so plan named b node number troupe kept t (auditing.rises t numbered)) (now t + 1) refl

    says_return : (q : Past) (caller : Caller) (message : List ℕ) → WasSo p q → ReturnIsDue place views begins (first own) kept p q caller message → AreOctets message
    says_return =
        subst (λ (x : Past). (q : Past) (caller : Caller) (message : List ℕ) → WasSo x q → ReturnIsDue place views begins (first own) kept x q caller message → AreOctets message) past_is
        (return_octets plan named b (lawful own) node number troupe of_troupe kept t run (all_well plan named b node number troupe kept t others octets)
        (rises_so plan named b node number troupe kept t (auditing.rises t numbered)) (now t + 1) refl)

    all_calls : filter (λ (e : ℕ × Effect). is_of_ask e.1) makes ≡ calls_owed place views kept p
    all_calls = (called_all declared turn first lawful place views beginning own home p may).calls

    all_requests : filter (λ (e : ℕ × Effect). is_request e.1) makes ≡ requests_owed place views begins kept p
    all_requests = (asked_all declared turn first lawful place views beginning own home p may).made

    call_due : (step to : ℕ) (message : List ℕ) (purpose : Purpose) → IsIn makes (step, made.Call to message purpose)
        → WasDue place views begins (first own) kept p step (made.Call to message purpose)
    call_due step to message (for.Ask name server) at =
        call_was_due place views begins (first own) kept p (rises declared turn first lawful place views beginning own p may) step (made.Call to message (for.Ask name server))
        (subst (λ l. IsIn l (step, made.Call to message (for.Ask name server))) all_calls (filtered_in (λ (e : ℕ × Effect). is_of_ask e.1) makes (step, made.Call to message (for.Ask name server)) at refl))
    call_due step to message (for.Ring request) at =
        request_was_due place views begins (first own) kept p step (made.Call to message (for.Ring request))
        (subst (λ l. IsIn l (step, made.Call to message (for.Ring request))) all_requests (filtered_in (λ (e : ℕ × Effect). is_request e.1) makes (step, made.Call to message (for.Ring request)) at refl))
    call_due step to message for.Fetch at =
        request_was_due place views begins (first own) kept p step (made.Call to message for.Fetch)
        (subst (λ l. IsIn l (step, made.Call to message for.Fetch)) all_requests (filtered_in (λ (e : ℕ × Effect). is_request e.1) makes (step, made.Call to message for.Fetch) at refl))

    called_octets : (to call : ℕ) (message : List ℕ) → call_at 0 (acts_at (pair_of (beginning_of d node)) to acts) call ≡ Some message → AreOctets message
    called_octets to call message is =
        let was = was_called (beginning_of d node) acts to call message is in
        let made_at = f.goes.made (made.Call to message was.purpose) was.among in
        let w = call_due made_at.0 to message was.purpose made_at.1 in
        says_call w.q to message was.purpose w.due_then

    returned_octets : (to call : ℕ) (message : List ℕ) → return_at (acts_at (pair_of (beginning_of d node)) to acts) call ≡ Some message → AreOctets message
    returned_octets to call message is =
        let caller : Caller = record { node = to; number = call } in
        let made_at = f.goes.made (made.Answer caller message) (was_answered (beginning_of d node) acts to call message is) in
        let w = return_was_due place views begins (first own) kept p makes made_at.0 caller message
        (are_returned declared turn first lawful place views beginning own home p may f.goes.numbers.distinct) made_at.1 in
        says_return w.q caller message w.was w.due

    -- so what is given is bytes
    given_octets : (give : Give) → IsOther n.wire give.to → HaveGiven (beginning_of d node) acts give → CanBeGiven plan node give
    given_octets give other given =
        let here = acts_at (pair_of (beginning_of d node)) give.to acts in
        let far : (give.to ≡ node → ⊥) × (give.to < length d.nodes) = peer_by (beginning_of d node) acts n.wire give.to f.goes.stands other in
        let lawful_there = lawful_then (beginning_of d node) acts n.wire give.to f.goes.stands far in (
          (far.1, far.0),
          bytes_of_octets give.bytes
              (each_at AreOctets (sent_by (start 0 d.format) here) given.0 give.bytes
              (sent_octets d.format here good.format lawful_there (message_octets here (called_octets give.to) (returned_octets give.to)))
              (ap (λ l. slice_get l given.0) (sym (sent_is (beginning_of d node) acts give.to lawful_there)) ∙ given.1)),
        )

    all_given : (gives : List Give) → AllByRecursion (λ (give : Give). IsOther n.wire give.to) gives → AllByRecursion (HaveGiven (beginning_of d node) acts) gives
        → AllByRecursion (CanBeGiven plan node) gives
    all_given [] other given = tt
    all_given (give ∷ gives) other given = (given_octets give other.0 given.0, all_given gives other.1 given.1)

  -- ---- along the trace

  can_come : (acts : WireActs Purpose) (p : Past) (t : Trace) (n : NodeState M) → FollowsSo t p acts n → (event : Event) → IsOfOther d node event → CanCome n event
  can_come acts p t n f (comes.Datagram from bytes) is = other_by (beginning_of d node) acts n.wire from f.goes.stands is
  can_come acts p t n f comes.Tick is = tt
  can_come acts p t n f (comes.Down down) is = other_by (beginning_of d node) acts n.wire down f.goes.stands is
  can_come acts p t n f comes.Join is = tt

  pub heard : (t : Trace) (n : NodeState M) → StandsFor declared turn first d (Some own) node t n → IsNumbered t → ComesFromOthers d node t
      → HasHeard declared turn first lawful d good node number troupe own hosts there can.within home t n
  heard t n stands numbered others = has_heard declared turn first lawful d good node number troupe own hosts there can.within home t n stands (auditing.rises t numbered) others

  pub record GivesSoFar (t : Trace) (n : NodeState M) : Type 0 where
    pub of : IsNodeOf d node n
    pub gives : GivesWell plan node t

  pub gives_well : (t : Trace) (n : NodeState M) → StandsFor declared turn first d (Some own) node t n → IsNumbered t → ComesFromOthers d node t → GivesSoFar t n
  gives_well (trace.booted made_ outputs) n stands numbered others =
      let t = trace.booted (effects_at_boot declared turn first d (Some own) node) outputs in
      let acts = boot_acts declared turn first d own node in
      let f = follows_at_boot declared turn first lawful d good node number troupe own hosts home can.within there n outputs stands.0 in
      let g = boot_gives declared turn first d (Some own) node (HaveGiven (beginning_of d node)) (n, outputs) can.within (given_carries (beginning_of d node)) stands.0 in
      record {
        of = boot_is_of declared turn first (Ok (n, outputs)) d (Some own) node can stands.0;
        gives =
            all_given t _ acts n f (stands.0, refl) tt tt tt outputs.gives
            (recursion_from_All (λ (give : Give). IsOther n.wire give.to) outputs.gives (boot_goes declared turn first (Ok (n, outputs)) d (Some own) node can stands.0))
            (recursion_from_All (HaveGiven (beginning_of d node) acts) outputs.gives g.given);
      }
  gives_well (trace.stepped t at event made_ outputs) n stands numbered others =
      let before = gives_well t stands.0 stands.1 numbered.0 others.0 in
      let h = heard t stands.0 stands.1 numbered.0 others.0 in
      let next = trace.stepped t at event (effects_in declared turn at event stands.0) outputs in
      let next_stands : StandsFor declared turn first d (Some own) node next n = (stands.0, stands.1, stands.2, refl) in
      let b_ = beginning_of d node in
      let acts = with_all h.acts (acts_in declared turn at event stands.0) in
      let early = h.before in
      let number_is = numbered.1 in
      let f = follows_on declared turn first lawful d good node number troupe own hosts home t h.past_is h.acts stands.0 h.follows at event (omega (arith, early, number_is)) others.2 others.1
      (n, outputs) stands.2 in
      let g = step_gives declared turn b_ (HaveGiven b_) (omega arith) h.acts at event stands.0 (n, outputs) (given_brings b_ h.acts event) h.follows.goes.stands
      (can_come h.acts h.past_is t stands.0 h.follows event others.1) (is_read event others.2) stands.2 in
      record {
        of = step_is_of declared turn (Ok (n, outputs)) at event stands.0 stands.2 d node before.of;
        gives = (
          before.gives,
          all_given next _ acts n f next_stands numbered others (heard next n next_stands numbered others).octets outputs.gives
              (recursion_from_All (λ (give : Give). IsOther n.wire give.to) outputs.gives (step_goes declared turn (Ok (n, outputs)) at event stands.0 stands.2))
              (recursion_from_All (HaveGiven b_ acts) outputs.gives g.given),
        );
      }
