-- All that the nodes of a world send is bytes.
use Rattle.std.proofs.Common.{◌≡◌, ℕ, ◌+◌, ◌<◌, ◌⊎◌, inl, inr, Bool, true, false, ◌||◌, List, [], ◌∷◌, ◌++◌, length, get_or, All, Option, None, Some, refl, sym, ap, subst, ◌∙◌, arith}
use Rattle.std.specs.Prelude.{◌==◌, slice_get, slice_index, Contains, IsSomeAnd, option_and_then, option_map}
use Rattle.std.specs.List.{find}
use Rattle.std.specs.Option.{option_map_or}
use Rattle.std.proofs.lemmas.List.Elements.{All-nil, All-cons}
use Rattle.std.proofs.lemmas.Option.{none-some, same_Some, slice_get-map, slice_get_within}
use Rattle.circus_value.specs.Fits.{all_fit}
use Rattle.circus_value.specs.Parts.{AreOctets}
use Rattle.circus_value.specs.ValueTree.{ValueTree}
use Rattle.circus_value.specs.declared.caller.Caller.{Caller}
use Rattle.circus_value.specs.declared.outcome.Outcome.{Outcome}
use Rattle.circus_value.specs.declared.outcome.Outcome.TheVariants.{Returned, Raised}
use Rattle.circus_value.proofs.Octets.{none_octets, both_octets}
use Rattle.circus_external.specs.Octets.{word}
use Rattle.circus_external.specs.Spelling.{spelling_of_all}
use Rattle.circus_header.specs.Field.{bytes_of}
use Rattle.circus_header.specs.ReturnFields.{return_fields}
use Rattle.circus_header.specs.declared.answer.Reply.{Reply}
use Rattle.circus_header.specs.declared.answer.ReturnHeader.TheVariants as says
use Rattle.circus_header.specs.declared.call.CallHeader.{CallHeader}
use Rattle.circus_header.specs.declared.call.Request.{Request}
use Rattle.circus_collate.specs.declared.deployment.Deployment.{Deployment}
use Rattle.circus_collate.specs.declared.deployment.Host.{Host}
use Rattle.circus_collate.specs.declared.deployment.Troupe.{Troupe}
use Rattle.circus_collate.specs.declared.table.Table.{Table}
use Rattle.circus_collate.specs.declared.view.View.{View}
use Rattle.circus_transfer.specs.Snapshot.{snapshot_bytes}
use Rattle.circus_transfer.specs.declared.joiner.Joiner.{Joiner}
use Rattle.circus_ring.specs.RingTable.{Kept, boot_views, table_by}
use Rattle.circus_ring.specs.TableFields.{table_fields}
use Rattle.circus_model.specs.Agree.{AreModules, Agree, IsAt}
use Rattle.circus_model.specs.Behaviour.{Behaviour, IsModule, behaviours}
use Rattle.circus_model.specs.Execution.{history_of, replies_of}
use Rattle.circus_model.specs.History.{run_at, state_after}
use Rattle.circus_model.specs.Lawful.{procedure_numbered, outcome_fits, is_raised_by_language}
use Rattle.circus_model.specs.NextTurn.{NextTurn}
use Rattle.circus_model.specs.declared.history.Run.{Run}
use Rattle.circus_model.specs.declared.signature.ErrorShape.{ErrorShape}
use Rattle.circus_model.specs.declared.signature.ProcedureShape.{ProcedureShape}
use Rattle.circus_model.specs.declared.signature.Signature.{Signature}
use Rattle.circus_model.proofs.Threads.{are_modules}
use Rattle.circus_record.specs.declared.record.MemberRecord.{MemberRecord}
use Rattle.circus_record.specs.declared.record.RunRecord.{RunRecord}
use Rattle.circus_performing.specs.Record.{behaviour}
use Rattle.circus_member_theory.proofs.Histories.{run_follows, state_is, runs_are_few}
use Rattle.circus_exchange.specs.Exchange.{start}
use Rattle.circus_pair.specs.Handed.{call_at, return_at}
use Rattle.circus_pair.specs.TwoEnds.{sent_by}
use Rattle.circus_pair.proofs.Each.{each_at}
use Rattle.circus_wire.specs.Wire.{heard_from}
use Rattle.circus_wire.specs.WireActs.{WireActs}
use Rattle.circus_wire.specs.declared.delivery.Heard.{Heard}
use Rattle.circus_wire.specs.declared.delivery.Heard.TheVariants as heard
use Rattle.circus_wire.proofs.Histories.{sent_is}
use Rattle.circus_segment.specs.Segment.{reading}
use Rattle.circus_gather.specs.Gathering.{index_of}
use Rattle.circus_member_rules.specs.Messages.{outcome_spelling, reply_message}
use Rattle.circus_member_rules.specs.Rules.{answer}
use Rattle.circus_member_rules.specs.declared.occurrence.Effect.{Effect}
use Rattle.circus_member_rules.specs.declared.occurrence.Effect.TheVariants as makes
use Rattle.circus_member_rules.specs.declared.occurrence.Purpose.{Purpose}
use Rattle.circus_member_rules.specs.declared.place.Beginning.{Beginning}
use Rattle.circus_member_rules.specs.declared.place.Place.{Place}
use Rattle.circus_member_rules.specs.Step.{reply_of_run}
use Rattle.circus_node.specs.Accepting.{troupe_at, accepted_request}
use Rattle.circus_member_theory.proofs.Accepting.Arguments.{values_octets}
use Rattle.circus_member_theory.proofs.Accepting.Octets.{word_octets, fields_octets}
use Rattle.circus_member_theory.proofs.Accepting.Options.{before_some, passes_some}
use Rattle.circus_member_theory.proofs.Accepting.States.{snapshot_octets}
use Rattle.circus_member_theory.proofs.Accepting.TrueCan.{true_call_octets}
use Rattle.circus_node.specs.Booting.{beginning_in, home_in, home_of, made_at_boot}
use Rattle.circus_node.specs.Making.{hears, by_ring, performs, a_drop, table_message}
use Rattle.circus_node.specs.NodeState.{Acting, member, ringmaster, NodeState}
use Rattle.circus_node.specs.declared.event.Event.{Event}
use Rattle.circus_node.specs.declared.event.Event.TheVariants as comes
use Rattle.circus_schedule.specs.declared.line.Line.{Line}
use Rattle.circus_world.specs.WorldState.{WorldState, Standing}
use Rattle.circus_world.specs.Lines.{IsBetween}
use Rattle.circus_world.specs.Sent.{Sent}
use Rattle.circus_world.proofs.SlotLemmas.{get_there}
use Rattle.circus_world_theory.specs.Histories.{beginning_of, acts_of}
use Rattle.circus_node.specs.Trace.{effects_in}
use Rattle.circus_world_theory.proofs.Boots.{world_stands}
use Rattle.circus_world_theory.proofs.Worlds.{Stands, IsGiven, at_pair, lawful_at}
use Rattle.circus_member_theory.specs.Messages.{IsReplyOf, IsTrueReply, IsTrueState}
use Rattle.circus_member_theory.specs.Truth.{IsTrueReturn}
use Rattle.circus_member_theory.specs.Past.{Past}
use Rattle.circus_member_theory.specs.Living.{after, phase_at_boot, MayLive}
use Rattle.circus_member_theory.specs.Returns.{run_of, has_ended}
use Rattle.circus_headline_theory.proofs.Owed.States.{are_returned}
use Rattle.circus_world_theory.specs.Made.{WasMade}
use Rattle.circus_world_theory.proofs.Border.Makers.{was_answered, return_was_made}
use Rattle.circus_world_theory.specs.Worlds.{IsWorldOf}
use Rattle.circus_world_theory.proofs.Making.{HasModule, MayHaveModule}
use Rattle.circus_world_theory.proofs.Saying.{call_said, return_said}
use Rattle.circus_world_theory.proofs.Stepping.{has_module, CalledAt, NodesTrue}
use Rattle.circus_world_theory.proofs.Theorem.{one_each, nodes_true}
use Rattle.circus_world_theory.proofs.True.{first_at, CallSo, ReturnSo, ActsTrue}
use Rattle.circus_world_theory.specs.Happened.{past_of}
use Rattle.circus_world_theory.proofs.Timely.Lives as lives
use Rattle.circus_world_theory.proofs.Timely.Nodes.{at_home}
use Rattle.circus_world_theory.proofs.Timely.Worlds.{of_troupe}
use Rattle.circus_headline_theory.specs.Datagrams.Due.{ReturnIsDue}
use Rattle.circus_headline_theory.proofs.Datagrams.Course.{all_made}
use Rattle.circus_headline_theory.proofs.Datagrams.Returning.{return_was_due}
use Rattle.circus_headline_theory.proofs.Datagrams.WorldTheorem.{goes_then}
use Rattle.circus_headline_theory.proofs.Spelled.{sent_octets, message_octets}

-- ---- what a run ends with

error_octets : (p : ProcedureShape) (error : ℕ) (values : List ValueTree) (reported : Bool)
    → option_map_or (λ (e : ErrorShape). all_fit e.arguments values) (find (λ (e : ErrorShape). e.number == error) p.errors) false ≡ reported
    → (reported || is_raised_by_language error values) ≡ true → AreOctets (spelling_of_all values)
error_octets p error values true reported is =
    let e = passes_some (λ (x : ErrorShape). all_fit x.arguments values) (find (λ (x : ErrorShape). x.number == error) p.errors) reported in
    values_octets e.value.arguments values e.passes
error_octets p error [] false reported is = none_octets
error_octets p error (v ∷ values) false reported is = absurd (let clash : false ≡ true = is in cc)

pub outcome_octets : (p : ProcedureShape) (outcome : Outcome) → outcome_fits p outcome ≡ true → AreOctets (outcome_spelling outcome)
outcome_octets p (Returned results) fit = both_octets (word 0) (spelling_of_all results) (word_octets 0) (values_octets p.results results fit)
outcome_octets p (Raised error values) fit =
    both_octets (word 1) (word error ++ spelling_of_all values) (word_octets 1)
    (both_octets (word error) (spelling_of_all values) (word_octets error)
    (error_octets p error values (option_map_or (λ (e : ErrorShape). all_fit e.arguments values) (find (λ (e : ErrorShape). e.number == error) p.errors) false) refl fit))

module _ (program : List Behaviour) (agree : Agree program) (are : AreModules program) (troupe : ℕ) (b : Behaviour) (at : IsAt program troupe b) where
  end_octets : (index : ℕ) (run : Run) → run_at (history_of program) troupe index ≡ Some run → AreOctets (outcome_spelling run.outcome)
  end_octets index run is =
      let f = run_follows program agree are troupe b at index run is in
      let law = (are troupe b at).turns_are_lawful (state_after (history_of program) troupe b.first index) run.procedure run.arguments (replies_of run.asks) f.start f.replies_fit in
      let so = rw f.ends_so at law in
      let p = passes_some (λ (x : ProcedureShape). outcome_fits x run.outcome) (procedure_numbered run.procedure b.declared.procedures) so.0.fits in
      outcome_octets p.value run.outcome p.passes

  reply_octets : (header : CallHeader) (reply : Reply) → header.server ≡ troupe → IsTrueReply (history_of program) header reply → AreOctets (reply_message reply)
  reply_octets header reply server is = by_run (run_at (history_of program) header.server (slice_index header.clock header.server)) refl is
    where
      by_run : (o : Option Run) → run_at (history_of program) header.server (slice_index header.clock header.server) ≡ o → IsSomeAnd o (λ run. IsReplyOf run reply)
          → AreOctets (reply_message reply)
      by_run None found so = absurd so
      by_run (Some run) found so =
          both_octets (bytes_of (return_fields (says.Reply reply.clock))) (outcome_spelling reply.outcome) (fields_octets (return_fields (says.Reply reply.clock)))
          (subst (λ (o : Outcome). AreOctets (outcome_spelling o)) (sym so.outcome)
          (end_octets (slice_index header.clock header.server) run
          (ap (λ k. run_at (history_of program) k (slice_index header.clock header.server)) (sym server) ∙ found)))

  state_octets : (count : ℕ) (state : List ValueTree) → IsTrueState (history_of program) troupe b.first count state → AreOctets (snapshot_bytes count state)
  state_octets count state is =
      let within = is.within in
      snapshot_octets b.declared.variables state count
      (subst (λ x. all_fit b.declared.variables x ≡ true) (sym is.state_is) (state_is program agree are troupe b at count is.within).fits)
      (omega (arith, within, runs_are_few program agree are troupe))

  -- a true return is bytes, if it is no table
  return_octets : (Called : Caller → List ℕ → Type 0) (caller : Caller) (message : List ℕ) → IsTrueReturn (history_of program) troupe (first_at program troupe) Called caller message
      → AreOctets message ⊎ ((rest : List ℕ) × (message ≡ bytes_of (return_fields says.Table) ++ rest))
  return_octets Called caller message (inl r) = inl (subst AreOctets (sym r.message_is) (reply_octets r.header r.reply r.called.server r.true_reply))
  return_octets Called caller message (inr (inl s)) =
      let first_is : first_at program troupe ≡ b.first = ap (λ (o : Option Behaviour). option_map_or (λ (x : Behaviour). x.first) o []) at in
      inl (subst AreOctets (sym s.message_is) (state_octets s.count s.state (subst (λ f. IsTrueState (history_of program) troupe f s.count s.state) first_is s.true_state)))
  return_octets Called caller message (inr (inr (inl stale))) = inl (subst AreOctets (sym stale.1) (fields_octets (return_fields (says.Stale stale.0))))
  return_octets Called caller message (inr (inr (inr (inl before)))) = inl (subst AreOctets (sym before.1) (fields_octets (return_fields (says.Before before.0))))
  return_octets Called caller message (inr (inr (inr (inr table)))) = inr table

-- ---- what a member owes is no table

abbrev kind_of : List ℕ → ℕ
kind_of message = slice_index message 1

no_table : (place : Place) (boot : List View) (begins : Joiner) (first : List ValueTree) (kept : MemberRecord) (p q : Past) (caller : Caller) (message rest : List ℕ)
    → message ≡ bytes_of (return_fields says.Table) ++ rest → ReturnIsDue place boot begins first kept p q caller message → ⊥
no_table place boot begins first kept p q caller message rest is (inl call) = elim call.says [
  | inl stale ↦ (let clash : 4 ≡ 1 = ap kind_of (sym is) ∙ ap kind_of stale.0 in omega (arith, clash))
  | inr other ↦ elim other [
    | inl before ↦ (let clash : 4 ≡ 2 = ap kind_of (sym is) ∙ ap kind_of before.1 in omega (arith, clash))
    | inr reply ↦ by_run (run_of kept (index_of place.troupe call.call.header)) reply
  ]
]
  where
    by_run : (o : Option RunRecord) → IsSomeAnd o (λ run. (has_ended run q ≡ true) × (message ≡ reply_message (reply_of_run run))) → ⊥
    by_run None so = so
    by_run (Some run) so = (let clash : 4 ≡ 0 = ap kind_of (sym is) ∙ ap kind_of so.1 in omega (arith, clash))
no_table place boot begins first kept p q caller message rest is (inr request) = (let clash : 4 ≡ 3 = ap kind_of (sym is) ∙ ap kind_of request.message_is in omega (arith, clash))

-- ---- what the Ringmaster makes

abbrev SaysOctets : Effect → Type 0
SaysOctets (makes.Call to message purpose) = AreOctets message
SaysOctets (makes.Answer caller message) = AreOctets message

contained : (effects : List Effect) (e : Effect) → All SaysOctets effects → Contains effects e → SaysOctets e
contained effects e all is = subst SaysOctets is.2 (all is.0 e is.1)

table_octets : (sender : Caller) (t : Option Table) → All SaysOctets (option_map_or (λ (table : Table). answer (table_message table) sender ∷ []) t [])
table_octets sender None = All-nil SaysOctets
table_octets sender (Some table) =
    All-cons SaysOctets (answer (table_message table) sender) []
    (both_octets (bytes_of (return_fields says.Table)) (bytes_of (table_fields table)) (fields_octets (return_fields says.Table)) (fields_octets (table_fields table)))
    (All-nil SaysOctets)

module _ {M : Type 0} (declared : M → Signature) (turn : M → List ValueTree → ℕ → List ValueTree → List Outcome → NextTurn) where
  ring_octets : (at : ℕ) (event : Event) (n : NodeState M) (kept : Kept) → n.acting ≡ ringmaster kept → All SaysOctets (effects_in declared turn at event n)
  ring_octets at event n kept is = subst (λ (a : Acting M). All SaysOctets (effects_in declared turn at event (record n { acting = a }))) (sym is) (by_event event)
    where
      by_request : (sender : Caller) (o : Option Request) → All SaysOctets (by_ring {M = M} (option_map_or (performs kept sender) o (kept, a_drop))).came.effects
      by_request sender None = All-nil SaysOctets
      by_request sender (Some request) = table_octets sender (table_by kept request)

      by_heard : (from : ℕ) (h : Heard Purpose) → All SaysOctets (hears declared turn n.deployment at from h (ringmaster kept)).came.effects
      by_heard from heard.Dropped = All-nil SaysOctets
      by_heard from heard.Taken = All-nil SaysOctets
      by_heard from (heard.Called sender message) = by_request sender (accepted_request kept message)
      by_heard from (heard.Returned number purpose message) = All-nil SaysOctets

      by_event : (e : Event) → All SaysOctets (effects_in declared turn at e (record n { acting = ringmaster kept }))
      by_event (comes.Datagram from bytes) = by_heard from (heard_from n.wire from (reading bytes))
      by_event comes.Tick = All-nil SaysOctets
      by_event (comes.Down other) = All-nil SaysOctets
      by_event comes.Join = All-nil SaysOctets

-- ---- a world

module _ {M : Type 0} (declared : M → Signature) (turn : M → List ValueTree → ℕ → List ValueTree → List Outcome → NextTurn) (first : M → List ValueTree)
    (lawful : (hosted : M) → IsModule (behaviour declared turn first hosted)) (d : Deployment) (modules : List M) (hosted : List (Option M)) (lines : List Line)
    (begun last : WorldState M) (world : IsWorldOf declared turn first d modules hosted lines begun last) where
  abbrev program : List Behaviour
  program = behaviours declared turn first modules

  abbrev acts : ℕ → WireActs Purpose
  acts = acts_of declared turn first d hosted lines begun

  are : AreModules program
  are = are_modules declared turn first modules lawful

  stands : Stands d acts last
  stands = world_stands declared turn first d hosted modules lines begun last world.deployment world.troupes world.hosts world.boots world.leads

  truth : NodesTrue declared turn first program d acts last
  truth = nodes_true declared turn first lawful d modules hosted lines begun last world

  all : length program ≡ length d.troupes
  all = one_each declared turn first lawful d modules hosted lines begun last world

  module _ (node other number : ℕ) (message : List ℕ) where
    abbrev Called : Caller → List ℕ → Type 0
    Called = CalledAt d acts node

    abbrev caller : Caller
    caller = record { node = other; number = number }

    -- ---- calls

    call_octets : call_at 0 (at_pair d acts node other) number ≡ Some message → AreOctets message
    call_octets is =
        let c = call_said (CallSo program Called (troupe_at d node)) (ReturnSo program Called (troupe_at d node)) (beginning_of d node) (acts node) other number message (truth.said node) is in
        subst AreOctets (same_Some c.message message (sym c.message_is ∙ is)) (by_troupe c.purpose c.message (troupe_at d node) (has_module program d node world.deployment all) c.so)
      where
        by_troupe : (purpose : Purpose) (m : List ℕ) (o : Option ℕ) → MayHaveModule program o → CallSo program Called o purpose m → AreOctets m
        by_troupe purpose m None has so = absurd so
        by_troupe purpose m (Some troupe) has so = true_call_octets program world.agree are troupe has.behaves (first_at program troupe) Called purpose m has.there so

    -- ---- returns of a member

    may_live : (number_ : ℕ) (troupe : Troupe) (own : M) (p : Past) (a : Acting M) → lives.NodeLives declared turn first lawful d node number_ troupe own p a
        → MayLive declared turn first (home_in d node number_ troupe).place (boot_views d.troupes) (beginning_in troupe node) own p
    may_live number_ troupe own p (member m) l = l.may
    may_live number_ troupe own p (ringmaster kept) l = absurd l

    module _ (number_ : ℕ) (troupe : Troupe) (own : M) (rest : List ℕ) (hosts_it : slice_get hosted node ≡ Some (Some own)) (is_at : troupe_at d node ≡ Some number_)
        (there : slice_get d.troupes number_ ≡ Some troupe) (s : Standing M) (found : slice_get last.nodes node ≡ Some s) where
      abbrev p : Past
      p = past_of declared turn lines begun node

      abbrev place : Place
      place = (home_in d node number_ troupe).place

      abbrev views : List View
      views = boot_views d.troupes

      abbrev beginning : Beginning
      beginning = beginning_in troupe node

      abbrev kept : MemberRecord
      kept = (after declared turn first place views beginning own p).performing.kept

      returns_no_table : return_at (at_pair d acts node other) number ≡ Some message → message ≡ bytes_of (return_fields says.Table) ++ rest → ⊥
      returns_no_table is table =
          let home = at_home declared turn first lawful d node number_ troupe own is_at there world.deployment
          (of_troupe declared turn first d modules node number_ own world.troupes (world.hosts.each node (Some own) hosts_it) is_at) in
          let goes = (goes_then declared turn first lawful d modules hosted lines begun last world node number_ troupe own hosts_it is_at there).goes s found in
          let made_at = goes.made (makes.Answer caller message) (was_answered (beginning_of d node) (acts node) other number message is) in
          let owed = are_returned declared turn first lawful place views beginning own home p (may_live number_ troupe own p s.node.acting goes.lives) goes.numbers.distinct in
          let w = return_was_due place views (phase_at_boot beginning) (first own) kept p (all_made declared turn first lawful d world.deployment node number_ troupe own p) made_at.0 caller message owed made_at.1 in
          no_table place views (phase_at_boot beginning) (first own) kept p w.q caller message rest table w.due

    -- what is hosted where there is a troupe
    own_there : (number_ : ℕ) (b : Behaviour) (own : Option M) → troupe_at d node ≡ Some number_ → IsAt program number_ b → slice_get hosted node ≡ Some own
        → (x : M) × (slice_get hosted node ≡ Some (Some x))
    own_there number_ b (Some x) is_at at found = (x, found)
    own_there number_ b None is_at at found =
        absurd (none-some b (world.hosts.each node None found
        ∙ ap (λ o. option_map (behaviour declared turn first) (option_and_then (slice_get modules) o)) is_at
        ∙ sym (slice_get-map (behaviour declared turn first) modules number_) ∙ at))

    member_octets : (number_ : ℕ) → troupe_at d node ≡ Some number_ → ReturnSo program Called (Some number_) caller message
        → return_at (at_pair d acts node other) number ≡ Some message → AreOctets message
    member_octets number_ is_at so is =
        let has : HasModule program number_ = subst (λ o. MayHaveModule program o) is_at (has_module program d node world.deployment all) in
        let h = before_some (λ (x : Host). x.module) (slice_get d.nodes node) number_ is_at in
        let within : node < length d.nodes = slice_get_within d.nodes node h.value h.is in
        let troupe = get_there d.troupes number_ ((world.deployment.nodes node h.value h.is).hosted number_ h.then) in
        let hosted_there = get_there hosted node (subst (λ k. node < k) (sym world.hosts.one_each) within) in
        let own = own_there number_ has.behaves hosted_there.0 is_at has.there hosted_there.1 in
        let s = get_there last.nodes node (subst (λ k. node < k) (sym stands.all) within) in
        elim (return_octets program world.agree are number_ has.behaves has.there Called caller message so) [
          | inl octets ↦ octets
          | inr table ↦ absurd (returns_no_table number_ troupe.0 own.0 table.0 own.1 is_at troupe.1 s.0 s.1 is table.1)
        ]

    -- ---- returns of the Ringmaster

    ring_acts : (o : Option ℕ) (a : Acting M) → o ≡ None → (actsx : ℕ → WireActs Purpose) → ActsTrue declared turn first program d (CalledAt d actsx node) o a
        → (kept : Kept) × (a ≡ ringmaster kept)
    ring_acts None (ringmaster kept) none actsx so = (kept, refl)
    ring_acts None (member m) none actsx so = absurd so
    ring_acts (Some troupe) a none actsx so = absurd (none-some troupe (sym none))

    none_at_boot : (own : Option M) → troupe_at d node ≡ None → Contains (made_at_boot declared turn first d (home_of d node) own).came.effects (makes.Answer caller message) → ⊥
    none_at_boot own none is =
        let home_none : home_of d node ≡ None = ap (option_and_then (λ n. option_map (home_in d node n) (slice_get d.troupes n))) none in
        let at : Contains (made_at_boot declared turn first d None own).came.effects (makes.Answer caller message) =
        subst (λ h. Contains (made_at_boot declared turn first d h own).came.effects (makes.Answer caller message)) home_none is in
        let below : at.0 < 0 = at.1 in
        omega (arith, below)

    ring_made : troupe_at d node ≡ None → WasMade declared turn node lines begun (makes.Answer caller message) → AreOctets message
    ring_made none made =
        let then_ : IsWorldOf declared turn first d modules hosted made.step.before begun made.step.world = record {
          deployment = world.deployment;
          troupes = world.troupes;
          agree = world.agree;
          hosts = world.hosts;
          boots = world.boots;
          leads = made.step.lead;
        } in
        let so = (nodes_true declared turn first lawful d modules hosted made.step.before begun made.step.world then_).nodes node made.step.standing made.step.there in
        let kept = ring_acts (troupe_at d node) made.step.standing.node.acting none (acts_of declared turn first d hosted made.step.before begun) so in
        contained (effects_in declared turn (made.step.world.steps + 1) made.step.event made.step.standing.node) (makes.Answer caller message)
        (ring_octets declared turn (made.step.world.steps + 1) made.step.event made.step.standing.node kept.0 kept.1) made.made_it

    -- ---- all returns

    returned_octets : return_at (at_pair d acts node other) number ≡ Some message → AreOctets message
    returned_octets is =
        by_troupe (troupe_at d node) refl
        (return_said (CallSo program Called (troupe_at d node)) (ReturnSo program Called (troupe_at d node)) (beginning_of d node) (acts node) other number message (truth.said node) is)
      where
        by_troupe : (o : Option ℕ) → troupe_at d node ≡ o → ReturnSo program Called o caller message → AreOctets message
        by_troupe None none so = elim (return_was_made declared turn first d hosted node other number message lines begun last world.leads is) [
          | inl boot ↦ absurd (none_at_boot (option_and_then (λ (own : Option M). own) (slice_get hosted node)) none boot)
          | inr made ↦ ring_made none made
        ]
        by_troupe (Some number_) is_at so = member_octets number_ is_at so is

  -- ---- datagrams

  pub all_octets : All (λ (x : Sent). AreOctets x.bytes) last.sent
  all_octets = λ k x below. of_sent (get_or last.sent k x) (stands.sent k x below) (stands.sound.sent k x below)
    where
      nodes_are : length last.deployment.nodes ≡ length d.nodes
      nodes_are = sym stands.sound.all ∙ stands.all

      of_sent : (x : Sent) → IsGiven d acts x → IsBetween (length last.deployment.nodes) x → AreOctets x.bytes
      of_sent x given between =
          let from_below : x.from < length d.nodes = subst (λ k. x.from < k) nodes_are between.from in
          let to_below : x.to < length d.nodes = subst (λ k. x.to < k) nodes_are between.to in
          let t = get_there last.nodes x.from (subst (λ k. x.from < k) (sym stands.all) from_below) in
          let lawful_there = lawful_at d x.from x.to t.0.node.wire (acts x.from) (stands.stands x.from t.0 t.1) to_below (λ same. between.others (sym same)) in
          let here = at_pair d acts x.from x.to in
          each_at AreOctets (sent_by (start 0 d.format) here) given.0 x.bytes
          (sent_octets d.format here stands.known lawful_there (message_octets here (λ n m. call_octets x.from x.to n m) (λ n m. returned_octets x.from x.to n m)))
          (ap (λ l. slice_get l given.0) (sym (sent_is (beginning_of d x.from) (acts x.from) x.to lawful_there)) ∙ given.1)
