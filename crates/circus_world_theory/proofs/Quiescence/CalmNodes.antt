-- What comes to a quiet node is accepted by its member, so it stays calm.
use Rattle.std.proofs.Common.{◌≡◌, ◌≢◌, ◌⊎◌, inl, inr, ℕ, ◌<◌, Bool, true, false, cond, List, [], length, All, Option, None, Some, Result, Ok, Err, refl, sym, ap, subst, ◌∙◌}
use Rattle.std.specs.Prelude.{slice_get, nat_eq}
use Rattle.std.specs.Option.{option_map_or}
use Rattle.std.proofs.lemmas.Bool.{eqb-true}
use Rattle.std.proofs.lemmas.Bool.Decides.{eqb_tells}
use Rattle.std.proofs.lemmas.List.Elements.{All-contains}
use Rattle.std.proofs.lemmas.Map.Views.{Contains-from_lookup}
use Rattle.std.proofs.lemmas.Option.{same_Some}
use Rattle.circus_value.specs.ValueTree.{ValueTree}
use Rattle.circus_value.specs.declared.caller.Caller.{Caller}
use Rattle.circus_value.specs.declared.outcome.Outcome.{Outcome}
use Rattle.circus_external.proofs.ShapesAlike.{and_both}
use Rattle.circus_header.specs.declared.call.CallHeader.{CallHeader}
use Rattle.circus_header.specs.declared.answer.Reply.{Reply}
use Rattle.circus_segment.specs.Segment.{Piece, IsSegment}
use Rattle.circus_segment.specs.declared.fault.SegmentFault.{SegmentFault}
use Rattle.circus_collate.specs.Deployment.{IsDeployment}
use Rattle.circus_collate.specs.declared.deployment.Deployment.{Deployment}
use Rattle.circus_collate.specs.declared.view.Entry.{Entry}
use Rattle.circus_exchange.specs.Exchange.{start}
use Rattle.circus_ring.specs.RingTable.{boot_views}
use Rattle.circus_model.specs.NextTurn.{NextTurn}
use Rattle.circus_model.specs.Behaviour.{Behaviour, IsModule}
use Rattle.circus_model.specs.Agree.{IsAt, AreModules, Agree}
use Rattle.circus_model.specs.Execution.{history_of}
use Rattle.circus_model.specs.declared.history.Run.{Run}
use Rattle.circus_model.specs.declared.signature.Signature.{Signature}
use Rattle.circus_fanout.specs.Asking.{Asking}
use Rattle.circus_performing.specs.Record.{behaviour}
use Rattle.circus_pair.specs.Acts.{Came, taken_by}
use Rattle.circus_pair.specs.Handed.{call_at}
use Rattle.circus_pair.specs.Lawful.{AreLawful}
use Rattle.circus_pair.specs.Taken.{has_arrived}
use Rattle.circus_pair.specs.TwoEnds.{with_act}
use Rattle.circus_wire.specs.declared.delivery.Heard.{Heard}
use Rattle.circus_wire.specs.declared.delivery.Heard.TheVariants as heard
use Rattle.circus_wire.specs.Wire.{WireState, IsOther, heard_from}
use Rattle.circus_wire.specs.WireActs.{WireActs, followed_by, CameFrom, acts_at}
use Rattle.circus_wire.specs.WireStanding.{WireStands}
use Rattle.circus_wire.proofs.Hearing.{unmade_unreturned}
use Rattle.circus_member_rules.specs.OpenAsks.{is_name, asking_of}
use Rattle.circus_member_rules.specs.declared.occurrence.AskName.{AskName}
use Rattle.circus_member_rules.specs.declared.occurrence.Occurrence.{Occurrence}
use Rattle.circus_member_rules.specs.declared.occurrence.Occurrence.TheVariants as comes
use Rattle.circus_member_rules.specs.declared.occurrence.Purpose.{Purpose}
use Rattle.circus_member_rules.specs.declared.occurrence.Purpose.TheVariants as for
use Rattle.circus_member_rules.specs.MemberState.{MemberState}
use Rattle.circus_node.specs.Accepting.{troupe_at, occurrence_of_heard, accepted_answer}
use Rattle.circus_member_theory.proofs.Accepting.Calls.{ask_no_fetch}
use Rattle.circus_member_theory.proofs.Accepting.TrueReturns.{answers_ask}
use Rattle.circus_node.specs.Booting.{IsOfTroupe}
use Rattle.circus_member_rules.specs.Proper.{AreProper}
use Rattle.circus_member_theory.specs.Truth.{reply_to, IsNamed, IsTrueCallFor, IsTrueReturn, IsTrueAsking, IsAskMessage}
use Rattle.circus_world_theory.specs.Histories.{beginning_of}
use Rattle.circus_world_theory.specs.NodeActs.{with_all, acts_of_datagram}
use Rattle.circus_world_theory.proofs.Worlds.{is_other, lawful_at}
use Rattle.circus_world.specs.WorldState.{WorldState}
use Rattle.circus_world.proofs.SlotLemmas.{all_at}
use Rattle.circus_world_theory.proofs.Making.{MayHaveModule}
use Rattle.circus_world_theory.proofs.Saying.{AllSaid, IsSaidCall, call_said, purpose_said, return_said}
use Rattle.circus_world_theory.proofs.Stepping.{has_module, CalledAt, HeardAt, NodesTrue}
use Rattle.circus_world_theory.proofs.True.{first_at, CallSo, ReturnSo, IsTrueAt, return_so_grows}
use Rattle.circus_world_theory.proofs.Border.Hosting.{Hosts, IsOtherOf, boot_views_are}
use Rattle.circus_world_theory.proofs.Quiescence.Accepts.{ask_accepted, reply_accepted}
use Rattle.circus_world_theory.proofs.Quiescence.Acts.{call_heard, return_heard, arrives_from}
use Rattle.circus_world_theory.proofs.Quiescence.Calm.{Purposed, Arrived, IsCalm, Brings}
use Rattle.circus_world_theory.proofs.Quiescence.Quietly.{QuietCall, QuietReturn, true_reply}
use Rattle.circus_world_theory.proofs.Quiescence.QuietNodes.{NodesQuiet}
use Rattle.circus_world_theory.proofs.Quiescence.Staying.{IsEntryOf, entry_there}
use Rattle.circus_world_theory.proofs.Quiescence.Stepping.{AreFirst, IsQuiet}
use Rattle.circus_transfer.specs.declared.joiner.Joiner.{Joiner}
use Rattle.circus_collate.specs.declared.view.View.{View}
use Rattle.circus_member_rules.specs.Seen.Sound.{IsRested}

-- ---- open asks by name

same_names : (one other : AskName) → is_name one other ≡ true → one ≡ other
same_names one other is =
    let both = and_both (nat_eq one.run other.run) (nat_eq one.ask other.ask) is in
    let runs : one.run ≡ other.run = eqb-true one.run other.run both.0 in
    let asks : one.ask ≡ other.ask = eqb-true one.ask other.ask both.1 in
    λ j. record { run = runs j; ask = asks j }

pub open_so : (P : AskName × Asking → Type 0) (asks : List (AskName × Asking)) (name : AskName) (a : Asking) → All P asks → asking_of asks name ≡ Some a → P (name, a)
open_so P asks name a all is = All-contains P asks (name, a) all (Contains-from_lookup same_names name a asks is)

-- an entry of a view at boot hosts a member of its troupe
pub entry_hosts : (d : Deployment) (good : IsDeployment d) (troupe node : ℕ) → IsEntryOf (boot_views d.troupes) troupe node → troupe_at d node ≡ Some troupe
entry_hosts d good troupe node is =
    let e = entry_there node is.view.entries is.among in
    let all = boot_views_are d good troupe is.view is.there in
    subst (λ n. troupe_at d n ≡ Some troupe) e.3 (all_at (λ (x : Entry). Hosts d troupe x.node) is.view.entries e.0 e.1 all e.2)

module _ {M : Type 0} (declared : M → Signature) (turn : M → List ValueTree → ℕ → List ValueTree → List Outcome → NextTurn) (first : M → List ValueTree)
    (lawful : (hosted : M) → IsModule (behaviour declared turn first hosted))
    (program : List Behaviour) (agree : Agree program) (are : AreModules program) (proper : AreProper program) (d : Deployment) (good : IsDeployment d)
    (all : length program ≡ length d.troupes) (fits : (number : ℕ) (b : Behaviour) → IsAt program number b → IsOfTroupe d number b.declared) where
  -- each call for an ask is to a member of the troupe that is asked
  abbrev pub GoesRight : (ℕ → WireActs Purpose) → ℕ → Type 0
  GoesRight acts from = (node k : ℕ) (name : AskName) (server : ℕ) → Purposed (beginning_of d from) (acts from) node k (for.Ask name server) → troupe_at d node ≡ Some server

  module _ (acts : ℕ → WireActs Purpose) (w : WorldState M) (so_far : NodesTrue declared turn first program d acts w)
      (quiet : NodesQuiet declared turn first lawful program agree are proper d good all acts w) (node from : ℕ) (right : GoesRight acts from)
      (troupe : ℕ) (m : MemberState M) (hosts : troupe_at d node ≡ Some troupe) (truly : IsTrueAt declared turn first program d (CalledAt d acts node) troupe m) where
    abbrev Called : Caller → List ℕ → Type 0
    Called = CalledAt d acts node

    abbrev Theirs : Caller → List ℕ → Type 0
    Theirs = CalledAt d acts from

    abbrev now : Behaviour
    now = behaviour declared turn first m.performing.hosted

    own_is : m.place.troupe ≡ troupe
    own_is = truly.is.own

    -- ---- a call that comes

    record TakesCall (c : Caller) (message : List ℕ) : Type 0 where
      header : CallHeader
      body : List ℕ
      is : occurrence_of_heard d (declared m.performing.hosted) m from (heard.Called c message) ≡ Some (comes.Asked header body c)

    takes_call : (c : Caller) (message : List ℕ) → HeardAt d acts node from (heard.Called c message) → TakesCall c message
    takes_call c message at = by_client (troupe_at d from) refl (has_module program d from good all) c_said.so
      where
        c_said : IsSaidCall (CallSo program Theirs (troupe_at d from)) (ReturnSo program Theirs (troupe_at d from)) (beginning_of d from) (acts from) node c.number
        c_said = call_said (CallSo program Theirs (troupe_at d from)) (ReturnSo program Theirs (troupe_at d from)) (beginning_of d from) (acts from) node c.number message (so_far.said from) at.1

        q_said : IsSaidCall QuietCall QuietReturn (beginning_of d from) (acts from) node c.number
        q_said = call_said QuietCall QuietReturn (beginning_of d from) (acts from) node c.number message (quiet.said from) at.1

        same : c_said.message ≡ message
        same = same_Some c_said.message message (sym c_said.message_is ∙ at.1)

        purposes : q_said.purpose ≡ c_said.purpose
        purposes = same_Some q_said.purpose c_said.purpose (sym q_said.purpose_is ∙ c_said.purpose_is)

        by_ask : (client : ℕ) → troupe_at d from ≡ Some client → (b : Behaviour) → IsAt program client b → (p : Purpose) → c_said.purpose ≡ p → QuietCall p q_said.message → IsTrueCallFor (history_of program) client (first_at program client) Theirs p c_said.message → TakesCall c message
        by_ask client of b at_client (for.Ask name server) is low so =
            let a : IsAskMessage (history_of program) client (first_at program client) Theirs name server message = subst (λ l. IsAskMessage (history_of program) client (first_at program client) Theirs name server l) same so in
            let goes : troupe_at d node ≡ Some server = right node c.number name server (c_said.purpose_is ∙ ap Some is) in
            let server_is : a.header.server ≡ m.place.troupe = sym a.server_is ∙ same_Some server troupe (sym goes ∙ hosts) ∙ sym own_is in
            let at_own : IsAt program m.place.troupe now = subst (λ t. IsAt program t now) (sym own_is) truly.at in
            record {
              header = a.header;
              body = a.body;
              is = ask_accepted program agree are proper d all fits client b at_client (first_at program client) Theirs name server message a m.place.troupe now at_own server_is c (ap (troupe_at d) at.0 ∙ of);
            }
        by_ask client of b at_client (for.Ring request) is low so = absurd low
        by_ask client of b at_client for.Fetch is low so = absurd low

        by_client : (o : Option ℕ) → troupe_at d from ≡ o → MayHaveModule program o → CallSo program Theirs o c_said.purpose c_said.message → TakesCall c message
        by_client None of has so = absurd so
        by_client (Some client) of has so = by_ask client of has.behaves has.there c_said.purpose refl (subst (λ p. QuietCall p q_said.message) purposes q_said.so) so

    -- ---- a return that comes to an open ask

    record TakesReturn (k : ℕ) (purpose : Purpose) (message : List ℕ) (name : AskName) : Type 0 where
      reply : Reply
      is : occurrence_of_heard d (declared m.performing.hosted) m from (heard.Returned k purpose message) ≡ Some (comes.Replied name from reply)

    takes_return : (k : ℕ) (name : AskName) (to : ℕ) (message : List ℕ) (asking : Asking) → asking_of m.asks name ≡ Some asking → HeardAt d acts node from (heard.Returned k (for.Ask name to) message) → TakesReturn k (for.Ask name to) message name
    takes_return k name to message asking open_ at =
        by_server (troupe_at d from) r
      where
        c : IsSaidCall (CallSo program Called (troupe_at d node)) (ReturnSo program Called (troupe_at d node)) (beginning_of d node) (acts node) from k
        c = purpose_said (CallSo program Called (troupe_at d node)) (ReturnSo program Called (troupe_at d node)) (beginning_of d node) (acts node) from k (for.Ask name to) (so_far.said node) at.1

        purpose_is : c.purpose ≡ for.Ask name to
        purpose_is = same_Some c.purpose (for.Ask name to) (sym c.purpose_is ∙ at.1)

        same_first : first m.performing.hosted ≡ first_at program troupe
        same_first = ap (λ (o : Option Behaviour). option_map_or (λ (b : Behaviour). b.first) o []) (sym truly.at)

        own_call : IsAskMessage (history_of program) troupe (first m.performing.hosted) Called name to c.message
        own_call = subst (λ f. IsTrueCallFor (history_of program) troupe f Called (for.Ask name to) c.message) (sym same_first)
            (subst (λ p. CallSo program Called (Some troupe) p c.message) purpose_is (subst (λ (o : Option ℕ). CallSo program Called o c.purpose c.message) hosts c.so))

        caller : Caller
        caller = record { node = node; number = k }

        r : ReturnSo program (λ _ other. other ≡ c.message) (troupe_at d from) caller message
        r = return_so_grows program Theirs (λ _ other. other ≡ c.message) (troupe_at d from) caller message (λ l same. same_Some l c.message (sym same ∙ c.message_is))
            (return_said (CallSo program Theirs (troupe_at d from)) (ReturnSo program Theirs (troupe_at d from)) (beginning_of d from) (acts from) node k message (so_far.said from) at.0)

        given : QuietReturn caller message
        given = return_said QuietCall QuietReturn (beginning_of d from) (acts from) node k message (quiet.said from) at.0

        -- what the open ask asks for is what was called for
        named : IsNamed (history_of program) troupe (first m.performing.hosted) Called name asking.header asking.body
        named = (open_so (λ (e : AskName × Asking). IsTrueAsking (history_of program) troupe (first m.performing.hosted) Called e.0 e.1) m.asks name asking truly.is.asks open_).named

        by_true : (server : ℕ) (firsts : List ValueTree) → IsTrueReturn (history_of program) server firsts (λ _ other. other ≡ c.message) caller message → TakesReturn k (for.Ask name to) message name
        by_true server firsts so =
            let t = true_reply program (λ _ other. other ≡ c.message) server firsts caller message
            (λ n f. ask_no_fetch own_call.header own_call.body server n own_call.header_is (sym own_call.message_is ∙ sym f)) so given in
            let reply_is : t.reply ≡ reply_to own_call.named.ask = answers_ask declared turn first program agree are proper d troupe Called m truly.at server firsts caller c.message message from (comes.IsBefore name from) name to own_call t in
            let run : own_call.named.run ≡ named.run = same_Some own_call.named.run named.run (sym own_call.named.there.run_is ∙ named.there.run_is) in
            let ask : own_call.named.ask ≡ named.ask = same_Some own_call.named.ask named.ask (sym own_call.named.there.ask_is ∙ ap (λ (y : Run). slice_get y.asks name.ask) run ∙ named.there.ask_is) in
            record {
              reply = t.reply;
              is = ap (accepted_answer d (declared m.performing.hosted) m name to from) t.message_is
                  ∙ reply_accepted program agree are proper d all fits m troupe now truly.at name named.run named.ask named.there asking open_ named.so.server named.so.procedure t.reply (reply_is ∙ ap reply_to ask) t.header_is to from;
            }

        by_server : (o : Option ℕ) → ReturnSo program (λ _ other. other ≡ c.message) o caller message → TakesReturn k (for.Ask name to) message name
        by_server (Some server) so = by_true server (first_at program server) so
        by_server None so = by_true 0 [] (inr (inr so))

    -- ---- what comes by a datagram

    abbrev Peer : ℕ → Type 0
    Peer other = IsOtherOf d node other

    module _ (wire : WireState Purpose) (stands : WireStands wire (beginning_of d node) (acts node)) (from_below : from < length d.nodes) (differs : from ≢ node)
        (segment : Result Piece SegmentFault) (read : (s : Piece) → segment ≡ Ok s → IsSegment s) (truly_heard : HeardAt d acts node from (heard_from wire from segment)) where
      abbrev a : WireActs Purpose
      a = acts node

      abbrev came : WireActs Purpose
      came = with_all a (acts_of_datagram from segment)

      other : IsOther wire from
      other = is_other d node from wire a stands from_below differs

      lawful_from : AreLawful 0 d.format (acts_at (start 0 d.format) from a)
      lawful_from = lawful_at d node from wire a stands from_below differs

      purposes_same : (seg : Result Piece SegmentFault) (x k : ℕ) (p : Purpose) → Purposed (beginning_of d node) (with_all a (acts_of_datagram from seg)) x k p → Purposed (beginning_of d node) a x k p
      purposes_same (Ok s) x k p is = is
      purposes_same (Err fault) x k p is = is

      said_came : (seg : Result Piece SegmentFault) → AllSaid QuietCall QuietReturn (with_all a (acts_of_datagram from seg))
      said_came (Ok s) = (quiet.said node, tt)
      said_came (Err fault) = quiet.said node

      lawful_came : (seg : Result Piece SegmentFault) → ((s : Piece) → seg ≡ Ok s → IsSegment s) → (x : ℕ) → Peer x → AreLawful 0 d.format (acts_at (start 0 d.format) x (with_all a (acts_of_datagram from seg)))
      lawful_came (Err fault) reads x peer = lawful_at d node x wire a stands peer.0 peer.1
      lawful_came (Ok s) reads x peer = elim (eqb_tells from x) [
        | inl same ↦ subst (λ o. AreLawful 0 d.format (with_act (acts_at (start 0 d.format) x a) o)) (sym (ap (λ y. cond y (Some (Came s)) None) same.0)) (lawful_at d node x wire a stands peer.0 peer.1, reads s refl)
        | inr differ ↦ subst (λ o. AreLawful 0 d.format (with_act (acts_at (start 0 d.format) x a) o)) (sym (ap (λ y. cond y (Some (Came s)) None) differ.0)) (lawful_at d node x wire a stands peer.0 peer.1)
      ]

      before : (x k : ℕ) → Peer x → Arrived (beginning_of d node) came x 1 k → (p : Purpose) × Purposed (beginning_of d node) came x k p
      before x k peer arrived = by_call (call_at 0 (acts_at (start 0 d.format) x came) k) refl
        where
          by_call : (o : Option (List ℕ)) → call_at 0 (acts_at (start 0 d.format) x came) k ≡ o → (p : Purpose) × Purposed (beginning_of d node) came x k p
          by_call (Some l) is = (let c = call_said QuietCall QuietReturn (beginning_of d node) came x k l (said_came segment) is in (c.purpose, c.purpose_is))
          by_call None is = absurd (let clash : false ≡ true = sym (unmade_unreturned 0 d.format (acts_at (start 0 d.format) x came) k (lawful_came segment read x peer) is) ∙ arrived in cc)

      abbrev o : Option Occurrence
      o = occurrence_of_heard d (declared m.performing.hosted) m from (heard_from wire from segment)

      calls_by : (seg : Result Piece SegmentFault) → segment ≡ seg → (c : Caller) → Arrived (beginning_of d node) (with_all a (acts_of_datagram from seg)) c.node 0 c.number
          → Arrived (beginning_of d node) a c.node 0 c.number ⊎ ((header : CallHeader) × (body : List ℕ) × (o ≡ Some (comes.Asked header body c)))
      calls_by (Err fault) is c arrived = inl arrived
      calls_by (Ok s) is c arrived = elim (eqb_tells c.node from) [
        | inr differ ↦ inl (arrives_from wire a stands from other lawful_from s c.node 0 c.number (read s is) arrived differ.1)
        | inl same ↦ by_before (has_arrived (taken_by (start 0 d.format) (acts_at (start 0 d.format) from a)) 0 c.number) refl same.1
      ]
        where
          by_before : (b : Bool) → has_arrived (taken_by (start 0 d.format) (acts_at (start 0 d.format) from a)) 0 c.number ≡ b → c.node ≡ from
              → Arrived (beginning_of d node) a c.node 0 c.number ⊎ ((header : CallHeader) × (body : List ℕ) × (o ≡ Some (comes.Asked header body c)))
          by_before true was same = inl (subst (λ x. Arrived (beginning_of d node) a x 0 c.number) (sym same) was)
          by_before false was same =
              let h = call_heard wire a stands from other lawful_from s c.number (read s is) (subst (λ x. Arrived (beginning_of d node) (followed_by a (CameFrom from s)) x 0 c.number) same arrived) was in
              let one : ◌≡◌ {A = Caller} (record { node = from; number = c.number }) c = λ i. record { node = sym same i; number = c.number } in
              let heard_is : heard_from wire from segment ≡ heard.Called c h.0 = ap (heard_from wire from) is ∙ h.1 ∙ ap (λ (y : Caller). let z : Heard Purpose = heard.Called y h.0 in z) one in
              let t = takes_call c h.0 (subst (λ y. HeardAt d acts node from y) heard_is truly_heard) in
              inr (t.header, t.body, ap (occurrence_of_heard d (declared m.performing.hosted) m from) heard_is ∙ t.is)

      returns_by : (seg : Result Piece SegmentFault) → segment ≡ seg → (x k : ℕ) (name : AskName) (asked : ℕ) (asking : Asking) → Arrived (beginning_of d node) (with_all a (acts_of_datagram from seg)) x 1 k
          → Purposed (beginning_of d node) a x k (for.Ask name asked) → asking_of m.asks name ≡ Some asking
          → Arrived (beginning_of d node) a x 1 k ⊎ ((reply : Reply) × (o ≡ Some (comes.Replied name x reply)))
      returns_by (Err fault) is x k name asked asking arrived p open_ = inl arrived
      returns_by (Ok s) is x k name asked asking arrived p open_ = elim (eqb_tells x from) [
        | inr differ ↦ inl (arrives_from wire a stands from other lawful_from s x 1 k (read s is) arrived differ.1)
        | inl same ↦ by_before (has_arrived (taken_by (start 0 d.format) (acts_at (start 0 d.format) from a)) 1 k) refl same.1
      ]
        where
          by_before : (b : Bool) → has_arrived (taken_by (start 0 d.format) (acts_at (start 0 d.format) from a)) 1 k ≡ b → x ≡ from
              → Arrived (beginning_of d node) a x 1 k ⊎ ((reply : Reply) × (o ≡ Some (comes.Replied name x reply)))
          by_before true was same = inl (subst (λ y. Arrived (beginning_of d node) a y 1 k) (sym same) was)
          by_before false was same =
              let h = return_heard wire a stands from other lawful_from s k (read s is) (subst (λ y. Arrived (beginning_of d node) (followed_by a (CameFrom from s)) y 1 k) same arrived) was in
              let heard_is : heard_from wire from segment ≡ heard.Returned k h.1 h.0 = ap (heard_from wire from) is ∙ h.2 in
              let there : HeardAt d acts node from (heard.Returned k h.1 h.0) = subst (λ y. HeardAt d acts node from y) heard_is truly_heard in
              let purpose : h.1 ≡ for.Ask name asked = same_Some h.1 (for.Ask name asked) (sym there.1 ∙ subst (λ y. Purposed (beginning_of d node) a y k (for.Ask name asked)) same p) in
              let t = takes_return k name asked h.0 asking open_ (subst (λ y. HeardAt d acts node from (heard.Returned k y h.0)) purpose there) in
              inr (
                t.reply,
                ap (occurrence_of_heard d (declared m.performing.hosted) m from) (heard_is ∙ ap (λ y. let z : Heard Purpose = heard.Returned k y h.0 in z) purpose) ∙ t.is
                    ∙ ap (λ y. Some (comes.Replied name y t.reply)) (sym same),
              )

      pub brings_so : (bv : List View) (own : ℕ) (phase : Joiner) (P : Caller → CallHeader → List ℕ → Type 0) (firsts : AreFirst bv) (rested : IsRested now m) (q : IsQuiet bv own phase P m) (calm : IsCalm (beginning_of d node) bv Peer a m)
          → Brings (beginning_of d node) bv Peer own phase P declared turn first lawful firsts a (acts_of_datagram from segment) m rested q calm o
      brings_so bv own phase P firsts rested q calm = record {
        purposes = λ x k p is. purposes_same segment x k p is;
        before = before;
        calls = λ c peer arrived. calls_by segment refl c arrived;
        returns = λ x k index number callee asked peer arrived p open_ asking there. returns_by segment refl x k (record { run = index; ask = number }) asked asking arrived p there;
      }
