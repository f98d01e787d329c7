-- A true return that is accepted tells what is true.
use Rattle.std.proofs.Common.{◌≡◌, ℕ, ◌<◌, ◌^◌, inl, inr, true, List, drop, Option, None, Some, refl, sym, ap, ◌∙◌, subst, arith}
use Rattle.std.specs.Prelude.{◌==◌, slice_get, Contains, IfSome, option_map, option_and_then}
use Rattle.std.proofs.lemmas.Option.{same_Some}
use Rattle.circus_value.specs.ValueTree.{ValueTree}
use Rattle.circus_value.specs.Fits.{all_fit}
use Rattle.circus_value.specs.declared.caller.Caller.{Caller}
use Rattle.circus_value.specs.declared.outcome.Outcome.{Outcome}
use Rattle.circus_header.specs.Reading.{IsOne, returns}
use Rattle.circus_header.specs.declared.answer.Reply.{Reply}
use Rattle.circus_header.specs.declared.answer.ReturnHeader.{ReturnHeader}
use Rattle.circus_header.specs.declared.answer.ReturnHeader.TheVariants as says
use Rattle.circus_header.specs.declared.call.Request.{Request}
use Rattle.circus_collate.specs.declared.deployment.Deployment.{Deployment}
use Rattle.circus_limits.specs.Limits.{limit_of}
use Rattle.circus_model.proofs.Lookups.{found}
use Rattle.circus_model.specs.Agree.{IsAt, AreModules, Agree}
use Rattle.circus_model.specs.Behaviour.{Behaviour}
use Rattle.circus_model.specs.Execution.{history_of}
use Rattle.circus_model.specs.Lawful.{procedure_numbered, import_of, outcome_fits}
use Rattle.circus_model.specs.NextTurn.{NextTurn}
use Rattle.circus_model.specs.declared.history.Ask.{Ask}
use Rattle.circus_model.specs.declared.history.Run.{Run}
use Rattle.circus_model.specs.declared.signature.Import.{Import}
use Rattle.circus_model.specs.declared.signature.ProcedureShape.{ProcedureShape}
use Rattle.circus_model.specs.declared.signature.Signature.{Signature}
use Rattle.circus_fanout.specs.Asking.{Asking}
use Rattle.circus_performing.specs.Record.{behaviour}
use Rattle.circus_member_rules.specs.Messages.{outcome_spelling, ask_message, fetch_message, reply_message}
use Rattle.circus_member_rules.specs.OpenAsks.{asking_of}
use Rattle.circus_member_rules.specs.declared.occurrence.AskName.{AskName}
use Rattle.circus_member_rules.specs.declared.occurrence.Occurrence.{Occurrence}
use Rattle.circus_member_rules.specs.declared.occurrence.Occurrence.TheVariants as comes
use Rattle.circus_member_rules.specs.declared.occurrence.Purpose.{Purpose}
use Rattle.circus_member_rules.specs.declared.occurrence.Purpose.TheVariants as for
use Rattle.circus_member_rules.specs.MemberState.{MemberState}
use Rattle.circus_member_theory.specs.Messages.{IsAskAt, IsTrueCall, IsTrueReply, IsTrueState}
use Rattle.circus_member_rules.specs.Proper.{IsProperProcedure, AreProper}
use Rattle.circus_member_theory.specs.Truth.{reply_to, Answers, IsNamed, IsTrueAsking, IsTrueMember, IsTrueOccurrence, IsAskMessage, IsTrueCallFor, IsReplyMessage, IsStateMessage, IsTrueReturn}
use Rattle.circus_member_theory.proofs.Histories.{runs_are_few, state_is as state_of, answers, true_reply_is}
use Rattle.circus_node.specs.Bodies.{outcome_at, restored_in}
use Rattle.circus_node.specs.Headers.{return_in}
use Rattle.circus_node.specs.Accepting.{imported_procedure, called_by, outcome_of, taken_reply, taken_answer, accepted_answer, accepted_table, accepted_state, accepted_return}
use Rattle.circus_member_theory.proofs.Accepting.Calls.{ask_header, ask_no_fetch, fetch_troupe}
use Rattle.circus_member_theory.proofs.Accepting.Entries.{ask_found}
use Rattle.circus_member_theory.proofs.Accepting.Options.{before_some, seen_some}
use Rattle.circus_member_theory.proofs.Accepting.Outcomes.{outcome_is}
use Rattle.circus_member_theory.proofs.Accepting.Returns.{reply_length, reply_read, reply_outcome, stale_read, before_read, table_read}
use Rattle.circus_member_theory.proofs.Accepting.States.{state_is, stale_no_state, before_no_state, table_no_state}
use Rattle.circus_member_theory.proofs.Accepting.Tables.{table_incarnation}
use Rattle.circus_member_theory.proofs.Accepting.Taken.{IsTakenReply, reply_taken, imported_as, called_open, imported_answers, table_told}

-- ---- imports

-- what an import names is a procedure of another module of the program
pub imported_proper : (program : List Behaviour) (agree : Agree program) (proper : AreProper program) (troupe : ℕ) (b : Behaviour) (callee procedure : ℕ) (p : ProcedureShape)
    → IsAt program troupe b → imported_as b.declared callee procedure ≡ Some p → IsProperProcedure p
imported_proper program agree proper troupe b callee procedure p at is =
    let i = before_some (λ (x : Import). procedure_numbered procedure x.procedures) (import_of callee b.declared.imports) p is in
    let there = found (λ (x : Import). x.«module» == callee) b.declared.imports i.value i.is in
    let earlier = agree.imports troupe b i.value at there.among in
    let among = found (λ (q : ProcedureShape). q.number == procedure) i.value.procedures p i.then in
    (proper i.value.«module» earlier.imported earlier.there).procedures p (subst (λ ps. Contains ps p) earlier.procedures among.among)

-- ---- other returns

-- a header of a return that is no reply
abbrev IsNoReply : ReturnHeader → Type 0
IsNoReply (says.Reply clock) = ⊥
IsNoReply (says.Stale incarnation) = Unit {0}
IsNoReply (says.Before first) = Unit {0}
IsNoReply (says.Snapshot count) = Unit {0}
IsNoReply says.Table = Unit {0}

-- ---- true returns

module _ {M : Type 0} (declared : M → Signature) (turn : M → List ValueTree → ℕ → List ValueTree → List Outcome → NextTurn) (first : M → List ValueTree)
    (program : List Behaviour) (agree : Agree program) (are : AreModules program) (proper : AreProper program) (d : Deployment) (troupe : ℕ) (Called : Caller → List ℕ → Type 0)
    (m : MemberState M) (at_own : IsAt program troupe (behaviour declared turn first m.performing.hosted)) where
  abbrev Holds : Occurrence → Type 0
  Holds o = IsTrueOccurrence (history_of program) troupe (first m.performing.hosted) Called m o

  -- what is read of the ask's outcome as that of an open ask is its outcome
  outcome_true : (name : AskName) (a : Asking) (run : Run) (ask : Ask) (at : ℕ) (message : List ℕ) (o : Outcome) → IsAskAt (history_of program) troupe name.run name.ask run ask
      → asking_of m.asks name ≡ Some a → IsNamed (history_of program) troupe (first m.performing.hosted) Called name a.header a.body
      → drop at message ≡ outcome_spelling ask.reply → outcome_of d (declared m.performing.hosted) m name at message ≡ Some o → o ≡ ask.reply
  outcome_true name a run ask at message o there is named here read =
      let s : Signature = declared m.performing.hosted in
      let same_run : named.run ≡ run = same_Some named.run run (sym named.there.run_is ∙ there.run_is) in
      let same_ask : named.ask ≡ ask = same_Some named.ask ask (sym named.there.ask_is ∙ ap (λ (r : Run). slice_get r.asks name.ask) same_run ∙ there.ask_is) in
      let server : a.header.server ≡ ask.callee = named.so.server ∙ ap (λ (x : Ask). x.callee) same_ask in
      let procedure : a.header.procedure ≡ ask.procedure = named.so.procedure ∙ ap (λ (x : Ask). x.procedure) same_ask in
      let p = before_some (λ (q : ProcedureShape). outcome_at q (limit_of d.format) at message) (option_and_then (imported_procedure s) (called_by m name)) o read in
      let shape : imported_as s ask.callee ask.procedure ≡ Some p.value =
      ap (imported_as s ask.callee) (sym procedure) ∙ ap (λ n. imported_as s n a.header.procedure) (sym server) ∙ sym (called_open s m name a is) ∙ p.is in
      let fit : outcome_fits p.value ask.reply ≡ true =
      sym (imported_answers s ask.callee ask.procedure p.value ask.reply shape)
      ∙ answers program agree are troupe (behaviour declared turn first m.performing.hosted) at_own name.run name.ask run ask there in
      outcome_is p.value (limit_of d.format) at message ask.reply o
      (imported_proper program agree proper troupe (behaviour declared turn first m.performing.hosted) ask.callee ask.procedure p.value at_own shape) fit here p.then

  -- a return that is no reply tells nothing of the history
  no_reply : (name : AskName) (server from : ℕ) (h : ReturnHeader) (at : ℕ) (message : List ℕ) (o : Occurrence) → IsNoReply h
      → taken_answer d (declared m.performing.hosted) m name server from h at message ≡ Some o → Holds o
  no_reply name server from (says.Reply clock) at message o none is = absurd none
  no_reply name server from (says.Stale incarnation) at message o none is = subst Holds (same_Some _ o is) tt
  no_reply name server from (says.Before index) at message o none is = subst Holds (same_Some _ o is) tt
  no_reply name server from (says.Snapshot count) at message o none is = cc
  no_reply name server from says.Table at message o none is = cc

  no_answer : (name : AskName) (server from : ℕ) (message : List ℕ) (o : Occurrence) → ((read : ReturnHeader × ℕ) → return_in message ≡ Some read → IsNoReply read.0)
      → accepted_answer d (declared m.performing.hosted) m name server from message ≡ Some o → Holds o
  no_answer name server from message o none is =
      let b = before_some (λ (r : ReturnHeader × ℕ). taken_answer d (declared m.performing.hosted) m name server from r.0 r.1 message) (return_in message) o is in
      no_reply name server from b.value.0 b.value.1 message o (none b.value b.is) b.then

  -- a true reply to an ask is read as the ask's
  reply_true : (name : AskName) (server from : ℕ) (reply : Reply) (run : Run) (ask : Ask) (o : Occurrence)
      → IsTrueMember (history_of program) troupe (first m.performing.hosted) Called m
      → IsAskAt (history_of program) troupe name.run name.ask run ask → IsOne returns (says.Reply reply.clock) → reply ≡ reply_to ask
      → accepted_answer d (declared m.performing.hosted) m name server from (reply_message reply) ≡ Some o → Holds o
  reply_true name server from reply run ask o true_member there one reply_is is =
      let message : List ℕ = reply_message reply in
      let at : ℕ = reply_length reply.clock in
      let s : Signature = declared m.performing.hosted in
      let taken : taken_answer d s m name server from (says.Reply reply.clock) at message ≡ Some o =
      ap (option_and_then (λ (r : ReturnHeader × ℕ). taken_answer d s m name server from r.0 r.1 message)) (sym (reply_read reply one)) ∙ is in
      let t = seen_some (λ (r : Reply). comes.Replied name from r) (taken_reply d s m name reply.clock at message) o taken in
      let r = reply_taken d s m name reply.clock at message t.value t.is in
      subst Holds (sym t.seen) (by_open t.value r (asking_of m.asks name) refl)
    where
      by_open : (given : Reply) → IsTakenReply d (declared m.performing.hosted) m name reply.clock (reply_length reply.clock) (reply_message reply) given
          → (asking : Option Asking) → asking_of m.asks name ≡ asking → IfSome asking (λ a. Answers (history_of program) troupe (first m.performing.hosted) Called name given)
      by_open given r None none = tt
      by_open given r (Some a) some =
          let asking = ask_found (λ (e : AskName × Asking). IsTrueAsking (history_of program) troupe (first m.performing.hosted) Called e.0 e.1) m.asks name a true_member.asks some in
          let here : drop (reply_length reply.clock) (reply_message reply) ≡ outcome_spelling ask.reply = reply_outcome reply ∙ ap (λ (x : Reply). outcome_spelling x.outcome) reply_is in
          let outcomes : given.outcome ≡ ask.reply =
          outcome_true name a run ask (reply_length reply.clock) (reply_message reply) given.outcome there some asking.named here r.outcome_read in
          let clocks : given.clock ≡ ask.after = r.clock_is ∙ ap (λ (x : Reply). x.clock) reply_is in
          record { run = run; ask = ask; there = there; is = λ j. record { clock = clocks j; outcome = outcomes j } }

  -- ---- by what the call was made for

  module _ (server : ℕ) (firsts : List ValueTree) (caller : Caller) (call message : List ℕ) (from : ℕ) (o : Occurrence) where
    abbrev IsThat : Caller → List ℕ → Type 0
    IsThat c l = l ≡ call

    -- the reply to the ask that a call is has the ask's clock and outcome
    pub answers_ask : (name : AskName) (to : ℕ) (a : IsAskMessage (history_of program) troupe (first m.performing.hosted) Called name to call)
        (r : IsReplyMessage (history_of program) server firsts IsThat caller message) → r.reply ≡ reply_to a.named.ask
    answers_ask name to a r =
        let sent : ask_message r.header r.body ≡ ask_message a.header a.body = r.called.called ∙ a.message_is in
        let same = ask_header r.header a.header r.body a.body r.called.header_is a.header_is sent in
        let n = a.named in
        let there = subst (λ c. IsAskAt (history_of program) c a.header.client_index name.ask n.run n.ask) (sym n.client)
        (subst (λ i. IsAskAt (history_of program) troupe i name.ask n.run n.ask) (sym n.client_index) n.there) in
        let true_call : IsTrueCall (history_of program) a.header a.body = record { number = name.ask; run = n.run; ask = n.ask; there = there; so = n.so } in
        true_reply_is program agree are a.header a.body true_call r.reply (behaviour declared turn first m.performing.hosted)
        (subst (λ c. IsAt program c (behaviour declared turn first m.performing.hosted)) (sym n.client) at_own)
        (subst (λ h. IsTrueReply (history_of program) h r.reply) same r.true_reply)

    for_ask : (name : AskName) (to : ℕ) → IsTrueMember (history_of program) troupe (first m.performing.hosted) Called m
        → IsAskMessage (history_of program) troupe (first m.performing.hosted) Called name to call
        → IsTrueReturn (history_of program) server firsts IsThat caller message
        → accepted_answer d (declared m.performing.hosted) m name to from message ≡ Some o → Holds o
    for_ask name to true_member a (inl r) is =
        reply_true name to from r.reply a.named.run a.named.ask o true_member a.named.there r.header_is (answers_ask name to a r)
        (ap (accepted_answer d (declared m.performing.hosted) m name to from) (sym r.message_is) ∙ is)
    for_ask name to true_member a (inr (inl s)) is =
        absurd (ask_no_fetch a.header a.body server s.asked.0 a.header_is (sym a.message_is ∙ sym s.asked.1))
    for_ask name to true_member a (inr (inr (inl stale))) is =
        no_answer name to from message o (λ read r. let s = stale_read stale.0 read (ap return_in (sym stale.1) ∙ r) in subst IsNoReply (sym s.1) tt) is
    for_ask name to true_member a (inr (inr (inr (inl before)))) is =
        no_answer name to from message o (λ read r. let s = before_read before.0 read (ap return_in (sym before.1) ∙ r) in subst IsNoReply (sym s.1) tt) is
    for_ask name to true_member a (inr (inr (inr (inr table)))) is =
        no_answer name to from message o (λ read r. subst IsNoReply (sym (table_read table.0 read (ap return_in (sym table.1) ∙ r))) tt) is

    for_request : (request : Request) → accepted_table d request message ≡ Some o → Holds o
    for_request request is =
        let t = table_told d request message o is in
        subst Holds (sym t.is) (table_incarnation t.table t.one)

    no_state : restored_in (declared m.performing.hosted).variables (declared m.performing.hosted).limit message ≡ None
        → accepted_state (declared m.performing.hosted) message ≡ Some o → Holds o
    no_state none is =
        let clash : None ≡ Some o = ap (option_map (λ (r : List ValueTree × ℕ). comes.Restored r.0 r.1)) (sym none) ∙ is in cc

    -- the state that is handed over is one of the own troupe, which its module may have
    pub record IsOwnState (count : ℕ) (state : List ValueTree) : Type 0 where
      pub true_state : IsTrueState (history_of program) troupe (first m.performing.hosted) count state
      pub fits : all_fit (declared m.performing.hosted).variables state ≡ true
      pub few : count < 2 ^ 32

    pub hands_over : (incarnation : ℕ) → call ≡ fetch_message troupe incarnation → (server ≡ troupe → firsts ≡ first m.performing.hosted) → server < 32 → troupe < 32
        → (s : IsStateMessage (history_of program) server firsts IsThat caller message) → IsOwnState s.count s.state
    hands_over incarnation call_is own low own_low s =
        let b : Behaviour = behaviour declared turn first m.performing.hosted in
        let same : server ≡ troupe = fetch_troupe server troupe s.asked.0 incarnation (omega arith) (omega arith) (s.asked.1 ∙ call_is) in
        let true_state : IsTrueState (history_of program) troupe b.first s.count s.state =
        subst (λ f. IsTrueState (history_of program) troupe f s.count s.state) (own same)
        (subst (λ n. IsTrueState (history_of program) n firsts s.count s.state) same s.true_state) in
        record {
          true_state = true_state;
          fits = subst (λ x. all_fit b.declared.variables x ≡ true) (sym true_state.state_is) (state_of program agree are troupe b at_own s.count true_state.within).fits;
          few = omega (arith, true_state.within, runs_are_few program agree are troupe);
        }

    for_fetch : (incarnation : ℕ) → call ≡ fetch_message troupe incarnation → (server ≡ troupe → firsts ≡ first m.performing.hosted) → server < 32 → troupe < 32
        → IsTrueReturn (history_of program) server firsts IsThat caller message → accepted_state (declared m.performing.hosted) message ≡ Some o → Holds o
    for_fetch incarnation call_is own low own_low (inl r) is =
        absurd (ask_no_fetch r.header r.body troupe incarnation r.called.header_is (r.called.called ∙ call_is))
    for_fetch incarnation call_is own low own_low (inr (inl s)) is =
        let b : Behaviour = behaviour declared turn first m.performing.hosted in
        let h = hands_over incarnation call_is own low own_low s in
        let t = seen_some (λ (r : List ValueTree × ℕ). comes.Restored r.0 r.1) (restored_in b.declared.variables b.declared.limit message) o is in
        let restored = state_is b.declared.variables b.declared.limit s.count s.state t.value (proper troupe b at_own).variables h.fits h.few
        (ap (restored_in b.declared.variables b.declared.limit) (sym s.message_is) ∙ t.is) in
        subst Holds (sym t.seen) (subst (λ (x : List ValueTree × ℕ). IsTrueState (history_of program) troupe b.first x.1 x.0) (sym restored) h.true_state)
    for_fetch incarnation call_is own low own_low (inr (inr (inl stale))) is =
        no_state (ap (restored_in (declared m.performing.hosted).variables (declared m.performing.hosted).limit) stale.1
        ∙ stale_no_state (declared m.performing.hosted).variables (declared m.performing.hosted).limit stale.0) is
    for_fetch incarnation call_is own low own_low (inr (inr (inr (inl before)))) is =
        no_state (ap (restored_in (declared m.performing.hosted).variables (declared m.performing.hosted).limit) before.1
        ∙ before_no_state (declared m.performing.hosted).variables (declared m.performing.hosted).limit before.0) is
    for_fetch incarnation call_is own low own_low (inr (inr (inr (inr table)))) is =
        no_state (ap (restored_in (declared m.performing.hosted).variables (declared m.performing.hosted).limit) table.1
        ∙ table_no_state (declared m.performing.hosted).variables (declared m.performing.hosted).limit table.0) is

    pub returned_true : (purpose : Purpose) → IsTrueMember (history_of program) troupe (first m.performing.hosted) Called m
        → IsTrueCallFor (history_of program) troupe (first m.performing.hosted) Called purpose call
        → IsTrueReturn (history_of program) server firsts IsThat caller message
        → (server ≡ troupe → firsts ≡ first m.performing.hosted) → server < 32 → troupe < 32
        → accepted_return d (declared m.performing.hosted) m from purpose message ≡ Some o → Holds o
    returned_true (for.Ask name to) true_member true_call true_return own low own_low is = for_ask name to true_member true_call true_return is
    returned_true (for.Ring request) true_member true_call true_return own low own_low is = for_request request is
    returned_true for.Fetch true_member true_call true_return own low own_low is = for_fetch true_call.0 true_call.1 own low own_low true_return is
