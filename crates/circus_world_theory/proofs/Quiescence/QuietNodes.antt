-- The nodes of a world to which deliveries lead stay quiet.
use Rattle.std.proofs.Common.{◌≡◌, inl, inr, ℕ, ◌+◌, ◌<◌, ◌≤◌, List, [], length, Option, None, Some, Ok, Err, refl, sym, ap, subst, ◌∙◌}
use Rattle.std.specs.Prelude.{slice_get, option_and_then}
use Rattle.std.specs.Option.{option_map_or}
use Rattle.std.proofs.lemmas.Bool.Decides.{eqb_tells}
use Rattle.std.proofs.lemmas.List.Elements.{All-nil, All-weaker}
use Rattle.std.proofs.lemmas.Option.{none-some, same_Some}
use Rattle.circus_value.specs.ValueTree.{ValueTree}
use Rattle.circus_value.specs.declared.caller.Caller.{Caller}
use Rattle.circus_value.specs.declared.outcome.Outcome.{Outcome}
use Rattle.circus_header.specs.Reading.{IsOne, calls}
use Rattle.circus_header.specs.declared.call.Call.{Call}
use Rattle.circus_header.specs.declared.call.Call.TheVariants.{Ask}
use Rattle.circus_segment.specs.Segment.{reading}
use Rattle.circus_collate.specs.Deployment.{IsDeployment}
use Rattle.circus_collate.specs.declared.deployment.Deployment.{Deployment}
use Rattle.circus_ring.specs.RingTable.{Kept}
use Rattle.circus_model.specs.NextTurn.{NextTurn}
use Rattle.circus_model.specs.Behaviour.{Behaviour, IsModule}
use Rattle.circus_model.specs.Agree.{AreModules, Agree}
use Rattle.circus_model.specs.Execution.{history_of}
use Rattle.circus_model.specs.declared.signature.Signature.{Signature}
use Rattle.circus_gather.specs.declared.held.HeldCall.{HeldCall}
use Rattle.circus_performing.specs.Performing.{last_count}
use Rattle.circus_performing.specs.Record.{behaviour}
use Rattle.circus_transfer.specs.declared.joiner.Joiner.{Joiner}
use Rattle.circus_pair.specs.Handed.{call_at}
use Rattle.circus_wire.specs.declared.delivery.Heard.{Heard}
use Rattle.circus_wire.specs.declared.delivery.Heard.TheVariants as heard
use Rattle.circus_wire.specs.Wire.{heard_from, after_datagram, sent_by_datagram}
use Rattle.circus_wire.specs.WireActs.{WireActs, acts_at}
use Rattle.circus_wire.specs.WireStanding.{pair_of}
use Rattle.circus_member_rules.specs.Messages.{ask_message}
use Rattle.circus_member_rules.specs.declared.occurrence.Occurrence.{Occurrence}
use Rattle.circus_member_rules.specs.declared.occurrence.Purpose.{Purpose}
use Rattle.circus_member_rules.specs.declared.occurrence.Purpose.TheVariants as for
use Rattle.circus_member_rules.specs.MemberState.{MemberState}
use Rattle.circus_member_rules.specs.Step.{step_member}
use Rattle.circus_node.specs.Headers.{call_in}
use Rattle.circus_node.specs.Accepting.{troupe_at, occurrence_of_heard, accepted_request, taken_request}
use Rattle.circus_member_theory.proofs.Accepting.Calls.{ask_read}
use Rattle.circus_node.specs.declared.event.Event.{Event}
use Rattle.circus_node.specs.declared.event.Event.TheVariants as comes
use Rattle.circus_node.specs.declared.event.Outputs.{Outputs}
use Rattle.circus_node.specs.NodeState.{NodeState, Acting, member, ringmaster}
use Rattle.circus_node.specs.Making.{Made, happens, refuse, by_ring, hears, performs, a_drop}
use Rattle.circus_node.specs.Sending.{Sending, sent, spent, gives_of, all_handed}
use Rattle.circus_node.specs.Step as node_step
use Rattle.circus_world.specs.WorldState.{WorldState, Standing}
use Rattle.circus_world.specs.Course.{Stepped, comes_to, conclude_step}
use Rattle.circus_world.proofs.SlotLemmas.{get_set}
use Rattle.circus_world_theory.specs.Histories.{beginning_of}
use Rattle.circus_world_theory.specs.NodeActs.{wire_behind, acts_in}
use Rattle.circus_node.specs.Trace.{effects_in}
use Rattle.circus_world_theory.proofs.Worlds.{Stands, at_pair}
use Rattle.circus_member_rules.specs.Proper.{AreProper}
use Rattle.circus_member_theory.specs.Truth.{IsTrueCallFor}
use Rattle.circus_world_theory.proofs.Along.{heard_at}
use Rattle.circus_world_theory.proofs.Handing.{IsMade, calls_stay, step_said}
use Rattle.circus_world_theory.proofs.Making.{MayHaveModule}
use Rattle.circus_world_theory.proofs.Saying.{AllSaid, IsSaidCall, call_said, purpose_said, return_said}
use Rattle.circus_world_theory.proofs.Stepping.{has_module, CalledAt, HeardAt, NodesTrue, ends_true, comes_true}
use Rattle.circus_world_theory.proofs.True.{first_at, CallSo, ReturnSo, IsTrueAt, ActsTrue, return_so_grows}
use Rattle.circus_world_theory.specs.Still.{phase_at}
use Rattle.circus_world_theory.proofs.Quiescence.Booting.{few_runs}
use Rattle.circus_world_theory.proofs.Quiescence.Course.{Delivers}
use Rattle.circus_world_theory.proofs.Quiescence.Quietly.{QuietCall, QuietReturn, IsLowAsk, low_ask, MemberQuiet, ActsQuiet, MakesQuiet, HappensQuietly, by_accepted, asked_so, replied_so}

module _ {M : Type 0} (declared : M → Signature) (turn : M → List ValueTree → ℕ → List ValueTree → List Outcome → NextTurn) (first : M → List ValueTree)
    (lawful : (hosted : M) → IsModule (behaviour declared turn first hosted))
    (program : List Behaviour) (agree : Agree program) (are : AreModules program) (proper : AreProper program) (d : Deployment) (good : IsDeployment d)
    (all : length program ≡ length d.troupes) where
  abbrev pub NodeQuiet : (Caller → List ℕ → Type 0) → ℕ → Option ℕ → Acting M → Type 0
  NodeQuiet Called node own a = ActsQuiet declared turn first lawful program agree are proper d Called (phase_at d node) own a

  abbrev NodeTrue : (Caller → List ℕ → Type 0) → Option ℕ → Acting M → Type 0
  NodeTrue Called own a = ActsTrue declared turn first program d Called own a

  -- each node is quiet, and has handed over asks and replies alone
  pub record NodesQuiet (acts : ℕ → WireActs Purpose) (w : WorldState M) : Type 0 where
    pub nodes : (node : ℕ) (s : Standing M) → slice_get w.nodes node ≡ Some s → NodeQuiet (CalledAt d acts node) node (troupe_at d node) s.node.acting
    pub said : (node : ℕ) → AllSaid QuietCall QuietReturn (acts node)

  -- ---- what is heard

  module _ (acts : ℕ → WireActs Purpose) (w : WorldState M) (so_far : NodesTrue declared turn first program d acts w) (quiet : NodesQuiet acts w) (node from : ℕ) where
    abbrev Called : Caller → List ℕ → Type 0
    Called = CalledAt d acts node

    abbrev OwnCall : Purpose → List ℕ → Type 0
    OwnCall = CallSo program Called (troupe_at d node)

    abbrev OwnReturn : Caller → List ℕ → Type 0
    OwnReturn = ReturnSo program Called (troupe_at d node)

    abbrev Theirs : Caller → List ℕ → Type 0
    Theirs = CalledAt d acts from

    abbrev TheirCall : Purpose → List ℕ → Type 0
    TheirCall = CallSo program Theirs (troupe_at d from)

    abbrev TheirReturn : Caller → List ℕ → Type 0
    TheirReturn = ReturnSo program Theirs (troupe_at d from)

    -- a call that came is an ask of the first views
    record CameLow (sender : Caller) (message : List ℕ) : Type 0 where
      purpose : Purpose
      so : TheirCall purpose message
      called : Called sender message
      low : IsLowAsk message

    came_low : (sender : Caller) (message : List ℕ) → HeardAt d acts node from (heard.Called sender message) → CameLow sender message
    came_low sender message at =
        let c = call_said TheirCall TheirReturn (beginning_of d from) (acts from) node sender.number message (so_far.said from) at.1 in
        let q = call_said QuietCall QuietReturn (beginning_of d from) (acts from) node sender.number message (quiet.said from) at.1 in
        let same : c.message ≡ message = same_Some c.message message (sym c.message_is ∙ at.1) in
        let also : q.message ≡ message = same_Some q.message message (sym q.message_is ∙ at.1) in
        let purposes : q.purpose ≡ c.purpose = same_Some q.purpose c.purpose (sym q.purpose_is ∙ c.purpose_is) in
        let so : TheirCall c.purpose message = subst (λ m. TheirCall c.purpose m) same c.so in
        record {
          purpose = c.purpose;
          so = so;
          called = subst (λ k. call_at 0 (at_pair d acts k node) sender.number ≡ Some message) (sym at.0) at.1;
          low = low_ask program Theirs (troupe_at d from) c.purpose message so (subst (λ p. QuietCall p message) purposes (subst (λ m. QuietCall q.purpose m) also q.so));
        }

    module _ (troupe : ℕ) (m : MemberState M) (hosts : troupe_at d node ≡ Some troupe) (truly : IsTrueAt declared turn first program d Called troupe m)
        (still : MemberQuiet declared turn first lawful program agree are proper d Called (phase_at d node) troupe m) where
      abbrev Quietly : Occurrence → Type 0
      Quietly x = HappensQuietly declared turn first lawful program agree are proper d Called (phase_at d node) troupe m truly still x

      same_first : first m.performing.hosted ≡ first_at program troupe
      same_first = ap (λ (o : Option Behaviour). option_map_or (λ (b : Behaviour). b.first) o []) (sym truly.at)

      called_so : (sender : Caller) (message : List ℕ) → HeardAt d acts node from (heard.Called sender message) → (x : Occurrence)
          → occurrence_of_heard d (declared m.performing.hosted) m from (heard.Called sender message) ≡ Some x → Quietly x
      called_so sender message at x is = (let c = came_low sender message at in by_client c (troupe_at d from) (has_module program d from good all) c.so)
        where
          by_client : CameLow sender message → (o : Option ℕ) → MayHaveModule program o → (CallSo program Theirs o (came_low sender message at).purpose message) → Quietly x
          by_client c None has so = absurd so
          by_client c (Some client) has so =
              asked_so declared turn first lawful program agree are proper d Called (phase_at d node) troupe m truly still from client has.behaves (first_at program client) Theirs sender message
              (came_low sender message at).purpose has.there so c.called c.low x is

      returned_so : (number : ℕ) (purpose : Purpose) (message : List ℕ) → HeardAt d acts node from (heard.Returned number purpose message) → (x : Occurrence)
          → occurrence_of_heard d (declared m.performing.hosted) m from (heard.Returned number purpose message) ≡ Some x → Quietly x
      returned_so number purpose message at x is = by_purpose c.purpose purposes own_so (subst (λ p. QuietCall p q.message) also q.so) (troupe_at d from) (has_module program d from good all) r
        where
          c : IsSaidCall OwnCall OwnReturn (beginning_of d node) (acts node) from number
          c = purpose_said OwnCall OwnReturn (beginning_of d node) (acts node) from number purpose (so_far.said node) at.1

          q : IsSaidCall QuietCall QuietReturn (beginning_of d node) (acts node) from number
          q = purpose_said QuietCall QuietReturn (beginning_of d node) (acts node) from number purpose (quiet.said node) at.1

          purposes : c.purpose ≡ purpose
          purposes = same_Some c.purpose purpose (sym c.purpose_is ∙ at.1)

          also : q.purpose ≡ c.purpose
          also = same_Some q.purpose c.purpose (sym q.purpose_is ∙ c.purpose_is)

          caller : Caller
          caller = record { node = node; number = number }

          r : ReturnSo program (λ _ other. other ≡ c.message) (troupe_at d from) caller message
          r = return_so_grows program Theirs (λ _ other. other ≡ c.message) (troupe_at d from) caller message (λ l same. same_Some l c.message (sym same ∙ c.message_is))
              (return_said TheirCall TheirReturn (beginning_of d from) (acts from) node number message (so_far.said from) at.0)

          given : QuietReturn caller message
          given = return_said QuietCall QuietReturn (beginning_of d from) (acts from) node number message (quiet.said from) at.0

          own_so : CallSo program Called (Some troupe) c.purpose c.message
          own_so = subst (λ (o : Option ℕ). CallSo program Called o c.purpose c.message) hosts c.so

          own_few : troupe < 32
          own_few = (subst (λ o. MayHaveModule program o) hosts (has_module program d node good all)).few

          by_purpose : (p : Purpose) → p ≡ purpose → CallSo program Called (Some troupe) p c.message → QuietCall p q.message → (o : Option ℕ) → MayHaveModule program o
              → ReturnSo program (λ _ other. other ≡ c.message) o caller message → Quietly x
          by_purpose (for.Ask name to) same so low (Some server) has back =
              replied_so declared turn first lawful program agree are proper d Called (phase_at d node) troupe m truly still from server number (first_at program server) caller name to c.message message own_few has.few
              (λ one. ap (first_at program) one ∙ sym same_first)
              (subst (λ f. IsTrueCallFor (history_of program) troupe f Called (for.Ask name to) c.message) (sym same_first) so) back given x
              (ap (λ p. occurrence_of_heard d (declared m.performing.hosted) m from (heard.Returned number p message)) same ∙ is)
          by_purpose (for.Ask name to) same so low None has back =
              replied_so declared turn first lawful program agree are proper d Called (phase_at d node) troupe m truly still from troupe number (first m.performing.hosted) caller name to c.message message own_few own_few
              (λ one. refl)
              (subst (λ f. IsTrueCallFor (history_of program) troupe f Called (for.Ask name to) c.message) (sym same_first) so) (inr (inr back)) given x
              (ap (λ p. occurrence_of_heard d (declared m.performing.hosted) m from (heard.Returned number p message)) same ∙ is)
          by_purpose (for.Ring request) same so low o has back = absurd low
          by_purpose for.Fetch same so low o has back = absurd low

      -- ---- a member

      pub happens_so : (h : Heard Purpose) → HeardAt d acts node from h → (x : Occurrence) → occurrence_of_heard d (declared m.performing.hosted) m from h ≡ Some x → Quietly x
      happens_so heard.Dropped at x is = absurd (none-some x is)
      happens_so heard.Taken at x is = absurd (none-some x is)
      happens_so (heard.Called sender message) at x is = called_so sender message at x is
      happens_so (heard.Returned number purpose message) at x is = returned_so number purpose message at x is

      pub few_of : (at : ℕ) (o : Option Occurrence) → NodeTrue Called (Some troupe) (option_map_or (happens declared turn at m) o (refuse (member m))).acting → (x : Occurrence) → o ≡ Some x
          → length (step_member declared turn at x m).member.performing.kept.runs ≤ last_count
      few_of at o truth x is =
          let n = (step_member declared turn at x m).member in
          let t : IsTrueAt declared turn first program d Called troupe n = subst (λ (y : Option Occurrence). NodeTrue Called (Some troupe) (option_map_or (happens declared turn at m) y (refuse (member m))).acting) is truth in
          few_runs program agree are troupe (first n.performing.hosted) n.performing.kept t.rested.sound.kept.inactive t.is.stands

      abbrev MemberMakes : Made M → Type 0
      MemberMakes x = MakesQuiet declared turn first lawful program agree are proper d Called (phase_at d node) (Some troupe) x

      member_hears : (at : ℕ) (h : Heard Purpose) → HeardAt d acts node from h → NodeTrue Called (Some troupe) (hears declared turn d at from h (member m)).acting → MemberMakes (hears declared turn d at from h (member m))
      member_hears at heard.Dropped here truth = record { acting = still; effects = All-nil (IsMade QuietCall QuietReturn) }
      member_hears at heard.Taken here truth = record { acting = still; effects = All-nil (IsMade QuietCall QuietReturn) }
      member_hears at (heard.Called sender message) here truth =
          by_accepted declared turn first lawful program agree are proper d Called (phase_at d node) troupe m truly still at (occurrence_of_heard d (declared m.performing.hosted) m from (heard.Called sender message))
          (called_so sender message here) (few_of at (occurrence_of_heard d (declared m.performing.hosted) m from (heard.Called sender message)) truth)
      member_hears at (heard.Returned number purpose message) here truth =
          by_accepted declared turn first lawful program agree are proper d Called (phase_at d node) troupe m truly still at (occurrence_of_heard d (declared m.performing.hosted) m from (heard.Returned number purpose message))
          (returned_so number purpose message here) (few_of at (occurrence_of_heard d (declared m.performing.hosted) m from (heard.Returned number purpose message)) truth)

    -- ---- either

    abbrev Makes : Option ℕ → Made M → Type 0
    Makes own x = MakesQuiet declared turn first lawful program agree are proper d Called (phase_at d node) own x

    pub ring_acts : (own : Option ℕ) (kept : Kept) → NodeQuiet Called node own (ringmaster kept)
    ring_acts None kept = tt
    ring_acts (Some troupe) kept = tt

    ring_nothing : (own : Option ℕ) (kept : Kept) → Makes own (record { acting = ringmaster kept; came = a_drop })
    ring_nothing own kept = record { acting = ring_acts own kept; effects = All-nil (IsMade QuietCall QuietReturn) }

    ring_hears : (own : Option ℕ) (at : ℕ) (h : Heard Purpose) (kept : Kept) → HeardAt d acts node from h → Makes own (hears declared turn d at from h (ringmaster kept))
    ring_hears own at heard.Dropped kept here = ring_nothing own kept
    ring_hears own at heard.Taken kept here = record { acting = ring_acts own kept; effects = All-nil (IsMade QuietCall QuietReturn) }
    ring_hears own at (heard.Called sender message) kept here =
        let l = (came_low sender message here).low in
        let none : accepted_request kept message ≡ None = ap (option_and_then (λ (read : Call × ℕ). taken_request kept read.0)) (ap call_in l.message_is ∙ ask_read l.header l.body l.header_is) in
        subst (λ o. Makes own (by_ring (option_map_or (performs kept sender) o (kept, a_drop)))) (sym none) (ring_nothing own kept)
    ring_hears own at (heard.Returned number purpose message) kept here = ring_nothing own kept

    hears_quietly : (own : Option ℕ) → troupe_at d node ≡ own → (a : Acting M) → NodeTrue Called own a → NodeQuiet Called node own a → (at : ℕ) (h : Heard Purpose) → HeardAt d acts node from h
        → NodeTrue Called own (hears declared turn d at from h a).acting → Makes own (hears declared turn d at from h a)
    hears_quietly (Some troupe) hosts (member m) truly still at h here truth = member_hears troupe m hosts truly still at h here truth
    hears_quietly (Some troupe) hosts (ringmaster kept) truly still at h here truth = absurd truly
    hears_quietly None hosts (member m) truly still at h here truth = absurd truly
    hears_quietly None hosts (ringmaster kept) truly still at h here truth = ring_hears None at h kept here

  -- ---- what a node has become

  pub acting_sent : (n : NodeState M) (x : Made M) (s : Sending) (ended : NodeState M × Outputs) → node_step.end_step n x.came s ≡ Ok ended → ended.0.acting ≡ n.acting
  acting_sent n x (sent wire gives) ended is = sym (ap (λ (e : NodeState M × Outputs). e.0.acting) (same_ended _ ended is))
    where
      same_ended : (a b : NodeState M × Outputs) → ◌≡◌ {A = node_step.Ended M} (Ok a) (Ok b) → a ≡ b
      same_ended a b h = cc
  acting_sent n x (spent node) ended is = absurd (let clash : ◌≡◌ {A = node_step.Ended M} (Err node) (Ok ended) = is in cc)

  -- what came stays what came
  quiet_grows : (Called Other : Caller → List ℕ → Type 0) → ((caller : Caller) (message : List ℕ) → Called caller message → Other caller message) → (phase : Joiner) (troupe : ℕ) (m : MemberState M)
      → MemberQuiet declared turn first lawful program agree are proper d Called phase troupe m → MemberQuiet declared turn first lawful program agree are proper d Other phase troupe m
  quiet_grows Called Other grows phase troupe m q = record {
    views = q.views;
    down = q.down;
    wants = q.wants;
    requests = q.requests;
    required = q.required;
    first = q.first;
    own_is = q.own_is;
    from = q.from;
    phase_is = q.phase_is;
    held = All-weaker (λ (c : HeldCall). IsOne calls (Ask c.header) × Called c.sender (ask_message c.header c.body)) (λ (c : HeldCall). IsOne calls (Ask c.header) × Other c.sender (ask_message c.header c.body))
        (λ c p. (p.0, grows c.sender (ask_message c.header c.body) p.1)) m.gathered.held q.held;
    replies = q.replies;
    replied = q.replied;
    opened = λ index number callee o. (let x = q.opened index number callee o in record { asking = x.asking; there = x.there; server = x.server; kind = x.kind });
  }

  acting_grows : (Called Other : Caller → List ℕ → Type 0) → ((caller : Caller) (message : List ℕ) → Called caller message → Other caller message) → (node : ℕ) (own : Option ℕ) (a : Acting M)
      → NodeQuiet Called node own a → NodeQuiet Other node own a
  acting_grows Called Other grows node (Some troupe) (member m) q = quiet_grows Called Other grows (phase_at d node) troupe m q
  acting_grows Called Other grows node (Some troupe) (ringmaster kept) q = tt
  acting_grows Called Other grows node None (member m) q = absurd q
  acting_grows Called Other grows node None (ringmaster kept) q = tt

  -- ---- a delivery

  module _ (number : ℕ) (acts new : ℕ → WireActs Purpose) (w next : WorldState M) (stands : Stands d acts w) (delivers : Delivers declared turn d number acts new w next)
      (so_far : NodesTrue declared turn first program d acts w) (quiet : NodesQuiet acts w) where
    abbrev at_node : ℕ
    at_node = delivers.sent.to

    abbrev s : Standing M
    s = delivers.node

    abbrev event : Event
    event = comes.Datagram delivers.sent.from delivers.sent.bytes

    abbrev h : Heard Purpose
    h = heard_from s.node.wire delivers.sent.from (reading delivers.sent.bytes)

    pub deployed : s.node.deployment ≡ d
    deployed = (stands.sound.nodes at_node s delivers.at).deployment ∙ so_far.deployment

    pub truly : HeardAt d acts at_node delivers.sent.from h
    truly = heard_at d acts w stands number delivers.sent s delivers.there delivers.at

    comes_is : comes_to declared turn at_node event w ≡ Ok next
    comes_is =
        ap (λ (o : Option (Standing M)). option_map_or (λ (t : Standing M). conclude_step at_node t w (node_step.step_node declared turn (w.steps + 1) event t.node)) o (Ok w)) delivers.at
        ∙ ap (conclude_step at_node s w) delivers.ends
        ∙ ap (λ (v : WorldState M). let x : Stepped M = Ok v in x) (sym delivers.next_is)

    -- it is true still
    pub delivered_true : NodesTrue declared turn first program d new next
    delivered_true =
        comes_true declared turn first lawful program agree are proper d good all acts w so_far at_node s delivers.at deployed event truly new delivers.here delivers.elsewhere next comes_is

    abbrev makes : Made M
    makes = hears declared turn s.node.deployment (w.steps + 1) delivers.sent.from h s.node.acting

    pub becomes : delivers.ended.0.acting ≡ makes.acting
    becomes =
        let n : NodeState M = record s.node { wire = after_datagram s.node.wire delivers.sent.from (reading delivers.sent.bytes); acting = makes.acting } in
        acting_sent n makes (all_handed (sent n.wire (gives_of (sent_by_datagram s.node.wire delivers.sent.from (reading delivers.sent.bytes)))) makes.came.effects) delivers.ended delivers.ends

    made_quietly_here : MakesQuiet declared turn first lawful program agree are proper d (CalledAt d acts at_node) (phase_at d at_node) (troupe_at d at_node) makes
    made_quietly_here =
        let truth = (ends_true declared turn first lawful program agree are proper d good all acts w so_far at_node s delivers.at deployed event delivers.ended truly delivers.ends).acting in
        let truth_made = subst (λ (a : Acting M). NodeTrue (CalledAt d acts at_node) (troupe_at d at_node) a) becomes truth in
        let by : Deployment → Made M = λ x. hears declared turn x (w.steps + 1) delivers.sent.from h s.node.acting in
        subst (λ x. MakesQuiet declared turn first lawful program agree are proper d (CalledAt d acts at_node) (phase_at d at_node) (troupe_at d at_node) (by x)) (sym deployed)
        (hears_quietly acts w so_far quiet at_node delivers.sent.from (troupe_at d at_node) refl s.node.acting (so_far.nodes at_node s delivers.at) (quiet.nodes at_node s delivers.at) (w.steps + 1) h truly
        (subst (λ x. NodeTrue (CalledAt d acts at_node) (troupe_at d at_node) (by x).acting) deployed truth_made))

    pub still_called : (x : ℕ) (caller : Caller) (message : List ℕ) → CalledAt d acts x caller message → CalledAt d new x caller message
    still_called x caller message called = elim (eqb_tells caller.node at_node) [
      | inl same ↦
          let called_here : call_at 0 (at_pair d acts at_node x) caller.number ≡ Some message = subst (λ k. call_at 0 (at_pair d acts k x) caller.number ≡ Some message) same.1 called in
          subst (λ k. call_at 0 (at_pair d new k x) caller.number ≡ Some message) (sym same.1)
          (subst (λ (a : WireActs Purpose). call_at 0 (acts_at (pair_of (beginning_of d at_node)) x a) caller.number ≡ Some message) (sym delivers.here)
          (calls_stay (beginning_of d at_node) (acts at_node) (acts_in declared turn (w.steps + 1) event s.node) x caller.number message called_here))
      | inr differ ↦ subst (λ (a : WireActs Purpose). call_at 0 (acts_at (pair_of (beginning_of d caller.node)) x a) caller.number ≡ Some message) (sym (delivers.elsewhere caller.node differ.1)) called
    ]

    pub delivered_quiet : NodesQuiet new next
    delivered_quiet = record { nodes = each_node; said = each_said }
      where
        here_quiet : NodeQuiet (CalledAt d new at_node) at_node (troupe_at d at_node) delivers.ended.0.acting
        here_quiet =
            subst (λ (a : Acting M). NodeQuiet (CalledAt d new at_node) at_node (troupe_at d at_node) a) (sym becomes)
            (acting_grows (CalledAt d acts at_node) (CalledAt d new at_node) (still_called at_node) at_node (troupe_at d at_node) makes.acting made_quietly_here.acting)

        each_node : (x : ℕ) (t : Standing M) → slice_get next.nodes x ≡ Some t → NodeQuiet (CalledAt d new x) x (troupe_at d x) t.node.acting
        each_node x t found = elim (get_set w.nodes at_node x (record s { node = delivers.ended.0 }) t (ap (λ (v : WorldState M). slice_get v.nodes x) (sym delivers.next_is) ∙ found)) [
          | inl same ↦
              subst (λ k. NodeQuiet (CalledAt d new k) k (troupe_at d k) t.node.acting) (sym same.0)
              (subst (λ (v : Standing M). NodeQuiet (CalledAt d new at_node) at_node (troupe_at d at_node) v.node.acting) (sym same.1) here_quiet)
          | inr there ↦ acting_grows (CalledAt d acts x) (CalledAt d new x) (still_called x) x (troupe_at d x) t.node.acting (quiet.nodes x t there)
        ]

        each_said : (x : ℕ) → AllSaid QuietCall QuietReturn (new x)
        each_said x = elim (eqb_tells x at_node) [
          | inl same ↦
              subst (λ k. AllSaid QuietCall QuietReturn (new k)) (sym same.1)
              (subst (λ (a : WireActs Purpose). AllSaid QuietCall QuietReturn a) (sym delivers.here)
              (step_said QuietCall QuietReturn (acts at_node) event (wire_behind event s.node) (effects_in declared turn (w.steps + 1) event s.node) (quiet.said at_node) made_quietly_here.effects))
          | inr differ ↦ subst (λ (a : WireActs Purpose). AllSaid QuietCall QuietReturn a) (sym (delivers.elsewhere x differ.1)) (quiet.said x)
        ]
