-- The copies of a program agree, in every world that lines lead to.
use Rattle.std.proofs.Common.{◌≡◌, ℕ, ◌⊎◌, inl, inr, true, false, Bool, List, [], length, Option, None, Some, refl, sym, ap, subst, ◌∙◌}
use Rattle.std.specs.Prelude.{slice_get, option_and_then, if◌then◌else◌}
use Rattle.std.specs.Option.{option_map_or}
use Rattle.std.proofs.lemmas.List.{length-map}
use Rattle.std.proofs.lemmas.Option.{none-some, same_Some}
use Rattle.circus_value.specs.ValueTree.{ValueTree}
use Rattle.circus_value.specs.declared.caller.Caller.{Caller}
use Rattle.circus_value.specs.declared.outcome.Outcome.{Outcome}
use Rattle.circus_collate.specs.declared.deployment.Deployment.{Deployment}
use Rattle.circus_model.specs.NextTurn.{NextTurn}
use Rattle.circus_model.specs.Behaviour.{Behaviour, IsModule, behaviours}
use Rattle.circus_model.specs.Agree.{IsAt}
use Rattle.circus_model.specs.Execution.{history_of}
use Rattle.circus_model.specs.declared.signature.Signature.{Signature}
use Rattle.circus_model.proofs.Threads.{are_modules}
use Rattle.circus_record.specs.declared.record.MemberRecord.{MemberRecord}
use Rattle.circus_performing.specs.Performing.{is_active}
use Rattle.circus_performing.specs.Record.{behaviour}
use Rattle.circus_wire.specs.WireActs.{WireActs}
use Rattle.circus_member_rules.specs.declared.occurrence.AskName.{AskName}
use Rattle.circus_member_rules.specs.declared.occurrence.Purpose.{Purpose}
use Rattle.circus_member_rules.specs.declared.occurrence.Purpose.TheVariants as for
use Rattle.circus_node.specs.Accepting.{troupe_at}
use Rattle.circus_node.specs.declared.event.Event.{Event}
use Rattle.circus_node.specs.declared.event.Event.TheVariants as comes
use Rattle.circus_node.specs.NodeState.{Acting, member, ringmaster, member_record}
use Rattle.circus_schedule.specs.declared.line.Line.{Line}
use Rattle.circus_schedule.specs.declared.line.Line.TheVariants.{Deliver, Tick, Crash, Down, Join}
use Rattle.circus_world.specs.Sent.{Sent}
use Rattle.circus_world.specs.WorldState.{WorldState, Standing, is_live}
use Rattle.circus_world_theory.specs.Histories.{beginning_of, acts_of, comes_by, delivery}
use Rattle.circus_world_theory.proofs.Boots.{world_stands}
use Rattle.circus_world_theory.proofs.Worlds.{Stands}
use Rattle.circus_member_theory.specs.Stands as standing
use Rattle.circus_member_theory.specs.Messages.{IsAskAt, IsTrueState}
use Rattle.circus_member_theory.specs.Truth.{IsTrueReturn, IsTrueCallFor}
use Rattle.circus_world_theory.specs.Worlds.{IsWorldOf}
use Rattle.circus_world_theory.specs.Agreeing.{RecordsStand, AsksAreTrue, ReturnsAreTrue, OthersCiteNothing, NoneDiffer, IsTrueAsk, IsTrueReplyTo, IsTrueSnapshot, CitesNothing, HasCalled, HasReturned}
use Rattle.circus_world_theory.proofs.Proper.{are_proper}
use Rattle.circus_world_theory.proofs.Along.{heard_at, lead_true}
use Rattle.circus_world_theory.proofs.Beginning.{boot_true}
use Rattle.circus_world_theory.proofs.Saying.{call_said, return_said}
use Rattle.circus_world_theory.proofs.Stepping.{CalledAt, ComesTruly, NodesTrue, ends_true}
use Rattle.circus_world_theory.proofs.True.{first_at, CallSo, ReturnSo, ActsTrue}

-- ---- what comes by a line truly comes

pair_parts : (a b : ℕ) (e f : Event) → ◌≡◌ {A = Option (ℕ × Event)} (Some (a, e)) (Some (b, f)) → (a ≡ b) × (e ≡ f)
pair_parts a b e f is = (let p : ◌≡◌ {A = ℕ × Event} (a, e) (b, f) = same_Some _ _ is in (ap (λ (x : ℕ × Event). x.0) p, ap (λ (x : ℕ × Event). x.1) p))

module _ {M : Type 0} (d : Deployment) (acts : ℕ → WireActs Purpose) (w : WorldState M) (stands : Stands d acts w) where
  comes_so : (node other : ℕ) (event came : Event) (s : Standing M) → ◌≡◌ {A = Option (ℕ × Event)} (Some (other, came)) (Some (node, event)) → slice_get w.nodes node ≡ Some s
      → (slice_get w.nodes other ≡ Some s → ComesTruly d acts other came s.node) → ComesTruly d acts node event s.node
  comes_so node other event came s is at truly =
      let parts = pair_parts other node came event is in
      subst (λ e. ComesTruly d acts node e s.node) parts.1
      (subst (λ k. ComesTruly d acts k came s.node) parts.0 (truly (ap (slice_get w.nodes) parts.0 ∙ at)))

  no_event : {X : Type 0} (node : ℕ) (event : Event) → ◌≡◌ {A = Option (ℕ × Event)} None (Some (node, event)) → X
  no_event node event is = absurd (none-some (node, event) is)

  by_live : (number : ℕ) (sent : Sent) (node : ℕ) (event : Event) (s : Standing M) (live : Bool) → slice_get w.sent number ≡ Some sent → slice_get w.nodes node ≡ Some s
      → if◌then◌else◌ {A = Option (ℕ × Event)} live (Some (sent.to, comes.Datagram sent.from sent.bytes)) None ≡ Some (node, event) → ComesTruly d acts node event s.node
  by_live number sent node event s true there at is =
      comes_so node sent.to event (comes.Datagram sent.from sent.bytes) s is at (λ at_to. heard_at d acts w stands number sent s there at_to)
  by_live number sent node event s false there at is = no_event node event is

  by_sent : (number : ℕ) (o : Option Sent) (node : ℕ) (event : Event) (s : Standing M) → slice_get w.sent number ≡ o → slice_get w.nodes node ≡ Some s
      → option_and_then (delivery w) o ≡ Some (node, event) → ComesTruly d acts node event s.node
  by_sent number None node event s there at is = no_event node event is
  by_sent number (Some sent) node event s there at is = by_live number sent node event s (is_live w sent.to) there at is

  pub truly_comes : (line : Line) (node : ℕ) (event : Event) (s : Standing M) → comes_by line w ≡ Some (node, event) → slice_get w.nodes node ≡ Some s
      → ComesTruly d acts node event s.node
  truly_comes (Deliver number) node event s is at = by_sent number (slice_get w.sent number) node event s refl at is
  truly_comes (Tick other) node event s is at = comes_so node other event comes.Tick s is at (λ _. tt)
  truly_comes (Crash other) node event s is at = no_event node event is
  truly_comes (Down other told) node event s is at = comes_so node told event (comes.Down other) s is at (λ _. tt)
  truly_comes (Join other) node event s is at = comes_so node other event comes.Join s is at (λ _. tt)

-- ---- asks

module _ (program : List Behaviour) (troupe : ℕ) (first : List ValueTree) (Called : Caller → List ℕ → Type 0) where
  ask_is_true : (name : AskName) (server : ℕ) (message : List ℕ) → IsTrueCallFor (history_of program) troupe first Called (for.Ask name server) message
      → IsTrueAsk (history_of program) troupe message
  ask_is_true name server message is = record {
    header = is.header;
    body = is.body;
    message_is = is.message_is;
    header_is = is.header_is;
    client = is.named.client;
    is = record {
      number = name.ask;
      run = is.named.run;
      ask = is.named.ask;
      there = subst (λ k. IsAskAt (history_of program) k is.header.client_index name.ask is.named.run is.named.ask) (sym is.named.client)
          (subst (λ k. IsAskAt (history_of program) troupe k name.ask is.named.run is.named.ask) (sym is.named.client_index) is.named.there);
      so = is.named.so;
    };
  }

-- ---- a world

module _ {M : Type 0} (declared : M → Signature) (turn : M → List ValueTree → ℕ → List ValueTree → List Outcome → NextTurn) (first : M → List ValueTree)
    (lawful : (hosted : M) → IsModule (behaviour declared turn first hosted)) where
  module _ (d : Deployment) (modules : List M) (hosted : List (Option M)) (lines : List Line) (booted last : WorldState M)
      (world : IsWorldOf declared turn first d modules hosted lines booted last) where
    abbrev program : List Behaviour
    program = behaviours declared turn first modules

    abbrev acts : ℕ → WireActs Purpose
    acts = acts_of declared turn first d hosted lines booted

    talks : Stands d acts last
    talks = world_stands declared turn first d hosted modules lines booted last world.deployment world.troupes world.hosts world.boots world.leads

    pub one_each : length program ≡ length d.troupes
    one_each = length-map modules (behaviour declared turn first) ∙ sym (length-map modules declared) ∙ world.troupes.one_each

    pub nodes_true : NodesTrue declared turn first program d acts last
    nodes_true =
        lead_true declared turn first lawful program world.agree (are_modules declared turn first modules lawful) (are_proper declared turn first d modules world.troupes) d world.deployment one_each (acts_of declared turn first d hosted [] booted) lines booted last
        (world_stands declared turn first d hosted modules [] booted booted world.deployment world.troupes world.hosts world.boots refl)
        (boot_true declared turn first lawful modules world.agree (are_modules declared turn first modules lawful) (are_proper declared turn first d modules world.troupes) d world.deployment world.troupes hosted world.hosts booted world.boots)
        world.leads

    -- ---- records

    acting_stands : (node troupe : ℕ) (kept : MemberRecord) (b : Behaviour) (own : Option ℕ) (a : Acting M) → own ≡ Some troupe → IsAt program troupe b
        → member_record a ≡ Some kept
        → is_active kept.phase ≡ true → ActsTrue declared turn first program d (CalledAt d acts node) own a → standing.Stands (history_of program) troupe b.first kept
    acting_stands node troupe kept b (Some number) (member m) own at is active acts_true =
        let one : number ≡ troupe = same_Some _ _ own in
        let record_is : m.performing.kept ≡ kept = same_Some _ _ is in
        let same : behaviour declared turn first m.performing.hosted ≡ b = same_Some _ _ (sym acts_true.at ∙ ap (slice_get program) one ∙ at) in
        subst (λ k. standing.Stands (history_of program) k b.first kept) one
        (subst (λ f. standing.Stands (history_of program) number f kept) (ap (λ (x : Behaviour). x.first) same)
        (subst (λ (r : MemberRecord). standing.Stands (history_of program) number (first m.performing.hosted) r) record_is
        (acts_true.is.stands (ap (λ (r : MemberRecord). is_active r.phase) record_is ∙ active))))
    acting_stands node troupe kept b (Some number) (ringmaster ring) own at is active acts_true = absurd acts_true
    acting_stands node troupe kept b None a own at is active acts_true = absurd (none-some troupe own)

    pub records_stand : RecordsStand program d last
    records_stand = λ node troupe s kept b at is hosts at_program active.
        acting_stands node troupe kept b (troupe_at d node) s.node.acting hosts at_program is active (nodes_true.nodes node s at)

    -- ---- messages

    module _ (node : ℕ) where
      abbrev OfCall : Purpose → List ℕ → Type 0
      OfCall = CallSo program (CalledAt d acts node) (troupe_at d node)

      abbrev OfReturn : Caller → List ℕ → Type 0
      OfReturn = ReturnSo program (CalledAt d acts node) (troupe_at d node)

    pub asks_are_true : AsksAreTrue program d acts
    asks_are_true = λ node other number troupe message name server hosts called called_for.
        let c = call_said (OfCall node) (OfReturn node) (beginning_of d node) (acts node) other number message (nodes_true.said node) called in
        let same : c.message ≡ message = same_Some c.message message (sym c.message_is ∙ called) in
        let purpose : c.purpose ≡ for.Ask name server = same_Some c.purpose (for.Ask name server) (sym c.purpose_is ∙ called_for) in
        ask_is_true program troupe (first_at program troupe) (CalledAt d acts node) name server message
        (subst (λ (o : Option ℕ). CallSo program (CalledAt d acts node) o (for.Ask name server) message) hosts
        (subst (λ p. OfCall node p message) purpose (subst (λ m. OfCall node c.purpose m) same c.so)))

    returned : (node other number : ℕ) (message : List ℕ) → HasReturned d acts node other number message → OfReturn node (record { node = other; number = number }) message
    returned node other number message is = return_said (OfCall node) (OfReturn node) (beginning_of d node) (acts node) other number message (nodes_true.said node) is

    pub others_cite_nothing : OthersCiteNothing d acts
    others_cite_nothing = λ node other number message hosts is.
        subst (λ (o : Option ℕ). ReturnSo program (CalledAt d acts node) o (record { node = other; number = number }) message) hosts (returned node other number message is)

    return_is_true : (node other number troupe : ℕ) (message : List ℕ) (b : Behaviour) → IsAt program troupe b
        → IsTrueReturn (history_of program) troupe (first_at program troupe) (CalledAt d acts node) (record { node = other; number = number }) message
        → ((call : List ℕ) × HasCalled d acts other node number call × IsTrueReplyTo (history_of program) troupe call message)
        ⊎ (IsTrueSnapshot (history_of program) troupe b.first message ⊎ CitesNothing message)
    return_is_true node other number troupe message b at (inl is) =
        inl (
          _,
          is.called.called,
          record {
            header = is.header;
            body = is.body;
            call_is = refl;
            server = is.called.server;
            true_call = is.called.true_call;
            reply = is.reply;
            reply_is = is.header_is;
            message_is = is.message_is;
            is = is.true_reply;
          },
        )
    return_is_true node other number troupe message b at (inr (inl is)) =
        let same : first_at program troupe ≡ b.first = ap (λ (o : Option Behaviour). option_map_or (λ (x : Behaviour). x.first) o []) at in
        inr (inl (record {
          count = is.count;
          state = is.state;
          message_is = is.message_is;
          is = subst (λ f. IsTrueState (history_of program) troupe f is.count is.state) same is.true_state;
        }))
    return_is_true node other number troupe message b at (inr (inr is)) = inr (inr is)

    pub returns_are_true : ReturnsAreTrue program d acts
    returns_are_true = λ node other number troupe message b hosts at is.
        return_is_true node other number troupe message b at
        (subst (λ (o : Option ℕ). ReturnSo program (CalledAt d acts node) o (record { node = other; number = number }) message) hosts (returned node other number message is))

    -- ---- replies

    pub none_differ : NoneDiffer declared turn last
    none_differ = λ line node event s ended comes_it at ends.
        (ends_true declared turn first lawful program world.agree (are_modules declared turn first modules lawful) (are_proper declared turn first d modules world.troupes) d world.deployment one_each acts last nodes_true node s at
        ((talks.sound.nodes node s at).deployment ∙ nodes_true.deployment) event ended (truly_comes d acts last talks line node event s comes_it at) ends).differences
