-- A true ask is accepted by a member of the troupe that it asks, and a true reply by one that waits for it.
use Rattle.std.proofs.Common.{◌≡◌, ℕ, ◌+◌, ◌-◌, ◌≤◌, Bool, true, false, not, ◌&&◌, List, [], ◌∷◌, ◌++◌, length, drop, None, Some, sym, ap, subst, ◌∙◌, arith, eq-eqb, lt-ltb, le-leb, length-append, length-drop}
use Rattle.std.specs.Prelude.{nat_le, ◌==◌, is_some, option_map, option_and_then, if◌then◌else◌}
use Rattle.std.specs.Option.{option_map_or}
use Rattle.std.proofs.lemmas.List.{drop-drop}
use Rattle.std.proofs.lemmas.Nat.{from_be_bytes-to_be_bytes_2}
use Rattle.circus_value.specs.ValueTree.{ValueTree, value_trees}
use Rattle.circus_value.specs.Fits.{all_fit}
use Rattle.circus_value.specs.ExternalSize.{size_of_values}
use Rattle.circus_value.specs.declared.caller.Caller.{Caller}
use Rattle.circus_value.specs.declared.shape.Shape.{Shape}
use Rattle.circus_value.specs.declared.outcome.Outcome.{Outcome}
use Rattle.circus_value.specs.declared.outcome.Outcome.TheVariants.{Returned, Raised}
use Rattle.circus_external.specs.Octets.{word, first_word}
use Rattle.circus_external.specs.Spelling.{spelling_of_all}
use Rattle.circus_external.specs.Reading.{fields_reading}
use Rattle.circus_external.specs.Refusal.{are_proper}
use Rattle.circus_external.proofs.Sizes.{size_of_spellings}
use Rattle.circus_transfer.specs.Snapshot.{fields_of}
use Rattle.circus_header.specs.Reading.{IsOne, returns}
use Rattle.circus_header.specs.declared.call.Call.{Call}
use Rattle.circus_header.specs.declared.call.Call.TheVariants.{Ask as AskOf}
use Rattle.circus_header.specs.declared.call.CallHeader.{CallHeader}
use Rattle.circus_header.specs.declared.answer.Reply.{Reply}
use Rattle.circus_header.specs.declared.answer.ReturnHeader.{ReturnHeader}
use Rattle.circus_header.specs.declared.answer.ReturnHeader.TheVariants as says
use Rattle.circus_collate.specs.declared.deployment.Deployment.{Deployment}
use Rattle.circus_limits.specs.Limits.{limit_of}
use Rattle.circus_model.proofs.Histories.{in_history, root_of}
use Rattle.circus_model.proofs.Lookups.{found as found_by}
use Rattle.circus_model.proofs.Logging.{some_and}
use Rattle.circus_model.specs.Agree.{IsAt, AreModules, Agree}
use Rattle.circus_model.specs.Behaviour.{Behaviour}
use Rattle.circus_model.specs.Execution.{history_of, replies_of}
use Rattle.circus_model.specs.History.{run_at, state_after}
use Rattle.circus_model.specs.Lawful.{procedure_numbered, import_of, arguments_fit, outcome_fits, values_of, IsLawful}
use Rattle.circus_model.specs.declared.history.Ask.{Ask}
use Rattle.circus_model.specs.declared.history.Run.{Run}
use Rattle.circus_model.specs.declared.signature.Import.{Import}
use Rattle.circus_model.specs.declared.signature.ProcedureShape.{ProcedureShape}
use Rattle.circus_fanout.specs.Asking.{Asking}
use Rattle.circus_member_rules.specs.Messages.{reply_message, outcome_spelling}
use Rattle.circus_member_rules.specs.OpenAsks.{asking_of}
use Rattle.circus_member_rules.specs.declared.occurrence.AskName.{AskName}
use Rattle.circus_member_rules.specs.declared.occurrence.Occurrence.TheVariants as comes
use Rattle.circus_member_rules.specs.MemberState.{MemberState}
use Rattle.circus_node.specs.Booting.{IsOfTroupe}
use Rattle.circus_member_theory.proofs.Histories.{run_follows, takes, within, answers, makes, path_short, clock_length, callee_below}
use Rattle.circus_member_theory.specs.Messages.{IsAskAt}
use Rattle.circus_member_rules.specs.Proper.{IsProperProcedure, AreProper}
use Rattle.circus_member_theory.specs.Truth.{reply_to, IsNamed, IsAskMessage}
use Rattle.circus_node.specs.Bodies.{found_whole, values_at, raised_values, outcome_by, outcome_at}
use Rattle.circus_node.specs.Headers.{call_in, return_in}
use Rattle.circus_node.specs.Accepting.{troupe_at, is_root, is_in_order, unpacks, imported_procedure, called_by, outcome_of, taken_ask, taken_call, taken_answer, accepted_call, accepted_answer}
use Rattle.circus_member_theory.proofs.Accepting.Arguments.{values_read}
use Rattle.circus_member_theory.proofs.Accepting.Calls.{ask_length, ask_read, ask_body}
use Rattle.circus_member_theory.proofs.Accepting.Options.{passes_some}
use Rattle.circus_member_theory.proofs.Accepting.Outcomes.{raised}
use Rattle.circus_member_theory.proofs.Accepting.Returns.{reply_length, reply_read, reply_outcome}
use Rattle.circus_member_theory.proofs.Accepting.Taken.{imported_as, called_open}
use Rattle.circus_member_theory.proofs.Accepting.TrueReturns.{imported_proper}

pub both_so : {a b : Bool} → a ≡ true → b ≡ true → (a && b) ≡ true
both_so {a} {b} one two = ap (λ x. x && b) one ∙ two

-- ---- values

-- values that fit are found where they stand
values_found : (shapes : List Shape) (most at : ℕ) (bytes : List ℕ) (values : List ValueTree) → are_proper (fields_of shapes) ≡ true → all_fit shapes values ≡ true
    → drop at bytes ≡ spelling_of_all values → size_of_values values ≤ most → values_at shapes most at bytes ≡ Some values
values_found shapes most at bytes values proper fit here few =
    let size : length (spelling_of_all values) ≡ size_of_values values = size_of_spellings (value_trees values) in
    let long : length (drop at bytes) ≡ length (spelling_of_all values) = ap length here in
    let drops = length-drop at bytes in
    let test : nat_le (length bytes - at) most ≡ true = le-leb (length bytes - at) most (omega (arith, size, long, drops, few)) in
    ap (λ b. if b then found_whole (fields_reading (fields_of shapes) at (drop at bytes)) else None) test
    ∙ ap found_whole (ap (fields_reading (fields_of shapes) at) here ∙ values_read shapes values at proper fit)

outcome_found : (p : ProcedureShape) (most at : ℕ) (message : List ℕ) (outcome : Outcome) → IsProperProcedure p → outcome_fits p outcome ≡ true
    → drop at message ≡ outcome_spelling outcome → size_of_values (values_of outcome) ≤ most → outcome_at p most at message ≡ Some outcome
outcome_found p most at message (Returned results) proper fit here few =
    let kind : first_word (drop at message) ≡ Some 0 = ap first_word here in
    let behind : drop (at + 2) message ≡ spelling_of_all results = sym (drop-drop 2 at message) ∙ ap (drop 2) here in
    ap (option_and_then (outcome_by p most (at + 2) message)) kind ∙ ap (option_map Returned) (values_found p.results most (at + 2) message results proper.results fit behind few)
outcome_found p most at message (Raised error values) proper fit here few =
    let r = raised p error values proper fit in
    let kind : first_word (drop at message) ≡ Some 1 = ap first_word here in
    let behind : drop (at + 2) message ≡ word error ++ spelling_of_all values = sym (drop-drop 2 at message) ∙ ap (drop 2) here in
    let number : first_word (drop (at + 2) message) ≡ Some error = ap first_word behind ∙ ap Some (from_be_bytes-to_be_bytes_2 error r.room) in
    let rest : drop ((at + 2) + 2) message ≡ spelling_of_all values = sym (drop-drop 2 (at + 2) message) ∙ ap (drop 2) behind in
    ap (option_and_then (outcome_by p most (at + 2) message)) kind
    ∙ ap (option_and_then (λ n. option_map (Raised n) (raised_values p n most ((at + 2) + 2) message))) number
    ∙ ap (λ s. option_map (Raised error) (option_and_then (λ shapes. values_at shapes most ((at + 2) + 2) message) s)) r.are
    ∙ ap (option_map (Raised error)) (values_found r.shapes most ((at + 2) + 2) message values r.proper r.fit rest few)

module _ (program : List Behaviour) (agree : Agree program) (are : AreModules program) (proper : AreProper program) (d : Deployment)
    (all : length program ≡ length d.troupes) (fits : (number : ℕ) (b : Behaviour) → IsAt program number b → IsOfTroupe d number b.declared) where
  -- ---- asks

  module _ (client : ℕ) (cb : Behaviour) (at_client : IsAt program client cb) (firsts : List ValueTree) (Other : Caller → List ℕ → Type 0) (name : AskName) (to : ℕ) (message : List ℕ)
      (a : IsAskMessage (history_of program) client firsts Other name to message) (own : ℕ) (b : Behaviour) (at_own : IsAt program own b) (server : a.header.server ≡ own) (sender : Caller) (of_client : troupe_at d sender.node ≡ Some client) where
    abbrev h : CallHeader
    h = a.header

    abbrev n : IsNamed (history_of program) client firsts Other name a.header a.body
    n = a.named

    callee_is : n.ask.callee ≡ own
    callee_is = sym n.so.server ∙ server

    in_order : is_in_order d own sender.node h ≡ true
    in_order =
        let root = root_of program agree are client name.run n.run n.there.run_is in
        let of_root = (fits n.run.root root.0.behaviour root.0.there).root in
        let rooted : is_root d h.root ≡ true = ap (is_root d) n.so.root ∙ sym of_root ∙ root.0.root in
        let i = passes_some (λ (x : Import). arguments_fit x.procedures n.ask.procedure n.ask.arguments) (import_of n.ask.callee cb.declared.imports)
        (takes program agree are client cb at_client name.run name.ask n.run n.ask n.there) in
        let no_root : is_root d h.server ≡ false = ap (is_root d) n.so.server ∙ ((fits client cb at_client).imports n.ask.callee i.value i.is).1 in
        let clock : length h.clock ≡ length d.troupes = ap length n.so.clock ∙ clock_length program agree are client cb at_client name.run name.ask n.run n.ask n.there ∙ all in
        let short = path_short program agree are client cb at_client name.run name.ask n.run n.ask n.there in
        let below = callee_below program agree are client cb at_client name.run name.ask n.run n.ask n.there in
        let long : length h.path ≡ length n.run.path + 1 = ap length n.so.path ∙ length-append n.run.path (name.ask ∷ []) in
        let where_ = n.so.server in
        both_so (both_so (both_so (both_so (both_so
        (ap (λ o. option_map_or (λ hosted. hosted == h.client) o false) of_client ∙ eq-eqb client h.client (sym n.client))
        rooted)
        (eq-eqb h.server own server))
        (ap not no_root))
        (eq-eqb (length h.clock) (length d.troupes) clock))
        (lt-ltb (length h.path + h.server) (length d.troupes) (omega (arith, short, below, long, where_, all)))

    unpacked : unpacks d b.declared h.procedure a.body ≡ true
    unpacked =
        let m = some_and (run_at (history_of program) n.ask.callee n.ask.index) _ (makes program agree are client cb at_client name.run name.ask n.run n.ask n.there) in
        let run_is : run_at (history_of program) own n.ask.index ≡ Some m.0 = ap (λ p. run_at (history_of program) p n.ask.index) (sym callee_is) ∙ m.1.0 in
        let starts = (run_follows program agree are own b at_own n.ask.index m.0 run_is).start in
        let fit : arguments_fit b.declared.procedures n.ask.procedure n.ask.arguments ≡ true =
        ap (arguments_fit b.declared.procedures n.ask.procedure) (sym m.1.1.arguments) ∙ ap (λ p. arguments_fit b.declared.procedures p m.0.arguments) (sym m.1.1.procedure) ∙ starts.fit in
        let p = passes_some (λ (q : ProcedureShape). all_fit q.arguments n.ask.arguments) (procedure_numbered n.ask.procedure b.declared.procedures) fit in
        let among = found_by (λ (q : ProcedureShape). q.number == n.ask.procedure) b.declared.procedures p.value p.is in
        let room = within program agree are client cb at_client name.run name.ask n.run n.ask n.there in
        let limit = (fits client cb at_client).limit in
        let found : values_at p.value.arguments (limit_of d.format) 0 a.body ≡ Some n.ask.arguments =
        values_found p.value.arguments (limit_of d.format) 0 a.body n.ask.arguments ((proper own b at_own).procedures p.value among.among).arguments p.passes n.so.body_is (omega (arith, room, limit)) in
        ap (λ k. option_map_or (λ (q : ProcedureShape). is_some (values_at q.arguments (limit_of d.format) 0 a.body)) (procedure_numbered k b.declared.procedures) false) n.so.procedure
        ∙ ap (λ o. option_map_or (λ (q : ProcedureShape). is_some (values_at q.arguments (limit_of d.format) 0 a.body)) o false) p.is
        ∙ ap is_some found

    pub ask_accepted : accepted_call d b.declared own sender message ≡ Some (comes.Asked h a.body sender)
    ask_accepted =
        let read : call_in message ≡ Some (AskOf h, ask_length h) = ap call_in a.message_is ∙ ask_read h a.body a.header_is in
        let body : drop (ask_length h) message ≡ a.body = ap (drop (ask_length h)) a.message_is ∙ ask_body h a.body in
        ap (option_and_then (λ (r : Call × ℕ). taken_call d b.declared own sender r.0 (drop r.1 message))) read
        ∙ ap (taken_ask d b.declared own sender h) body
        ∙ ap (λ x. if x then Some (comes.Asked h a.body sender) else None) (both_so in_order unpacked)

  -- ---- replies

  module _ {M : Type 0} (m : MemberState M) (own : ℕ) (b : Behaviour) (at_own : IsAt program own b) (name : AskName) (run : Run) (ask : Ask) (there : IsAskAt (history_of program) own name.run name.ask run ask)
      (a : Asking) (open_ : asking_of m.asks name ≡ Some a) (server : a.header.server ≡ ask.callee) (procedure : a.header.procedure ≡ ask.procedure)
      (reply : Reply) (is : reply ≡ reply_to ask) (one : IsOne returns (says.Reply reply.clock)) where
    record IsOutcome : Type 0 where
      p : ProcedureShape
      shape : imported_as b.declared ask.callee ask.procedure ≡ Some p
      fit : outcome_fits p ask.reply ≡ true
      few : size_of_values (values_of ask.reply) ≤ limit_of d.format

    outcome_so : IsOutcome
    outcome_so =
        let i = passes_some (λ (x : Import). option_map_or (λ (q : ProcedureShape). outcome_fits q ask.reply) (procedure_numbered ask.procedure x.procedures) false) (import_of ask.callee b.declared.imports)
        (answers program agree are own b at_own name.run name.ask run ask there) in
        let p = passes_some (λ (q : ProcedureShape). outcome_fits q ask.reply) (procedure_numbered ask.procedure i.value.procedures) i.passes in
        let made = some_and (run_at (history_of program) ask.callee ask.index) _ (makes program agree are own b at_own name.run name.ask run ask there) in
        let root = in_history program agree are ask.callee ask.index made.0 made.1.0 in
        let callee = root.logged.behaviour in
        let f = run_follows program agree are ask.callee callee root.logged.there ask.index made.0 made.1.0 in
        let law = (are ask.callee callee root.logged.there).turns_are_lawful (state_after (history_of program) ask.callee callee.first ask.index) made.0.procedure made.0.arguments (replies_of made.0.asks) f.start f.replies_fit in
        let ended = subst (IsLawful callee.declared made.0.procedure (length (replies_of made.0.asks))) f.ends_so law in
        let room = subst (λ (o : Outcome). size_of_values (values_of o) ≤ callee.declared.limit) made.1.1.outcome ended.0.within in
        let limit = (fits ask.callee callee root.logged.there).limit in
        record {
          p = p.value;
          shape = ap (option_and_then (λ (x : Import). procedure_numbered ask.procedure x.procedures)) i.is ∙ p.is;
          fit = p.passes;
          few = omega (arith, room, limit);
        }

    pub reply_accepted : (to from : ℕ) → accepted_answer d b.declared m name to from (reply_message reply) ≡ Some (comes.Replied name from reply)
    reply_accepted to from =
        let o = outcome_so in
        let message = reply_message reply in
        let at = reply_length reply.clock in
        let read : return_in message ≡ Some (says.Reply reply.clock, at) = reply_read reply one in
        let in_ = in_history program agree are own name.run run there.run_is in
        let clock : length reply.clock ≡ length d.troupes = ap (λ (r : Reply). length r.clock) is ∙ in_.logged.grows.after_length name.ask ask there.ask_is ∙ all in
        let outcome : reply.outcome ≡ ask.reply = ap (λ (r : Reply). r.outcome) is in
        let here : drop at message ≡ outcome_spelling ask.reply = reply_outcome reply ∙ ap outcome_spelling outcome in
        let found : outcome_at o.p (limit_of d.format) at message ≡ Some reply.outcome =
        outcome_found o.p (limit_of d.format) at message ask.reply (imported_proper program agree proper own b ask.callee ask.procedure o.p at_own o.shape) o.fit here o.few ∙ ap Some (sym outcome) in
        let which : option_and_then (imported_procedure b.declared) (called_by m name) ≡ Some o.p =
        called_open b.declared m name a open_ ∙ ap (imported_as b.declared a.header.server) procedure ∙ ap (λ k. imported_as b.declared k ask.procedure) server ∙ o.shape in
        ap (option_and_then (λ (r : ReturnHeader × ℕ). taken_answer d b.declared m name to from r.0 r.1 message)) read
        ∙ ap (λ x. option_map (λ r. comes.Replied name from r) (if x then option_map (λ outcome_. record { clock = reply.clock; outcome = outcome_ }) (outcome_of d b.declared m name at message) else None)) (eq-eqb (length reply.clock) (length d.troupes) clock)
        ∙ ap (λ q. option_map (λ r. comes.Replied name from r) (option_map (λ outcome_. record { clock = reply.clock; outcome = outcome_ }) (option_and_then (λ p. outcome_at p (limit_of d.format) at message) q))) which
        ∙ ap (λ q. option_map (λ r. comes.Replied name from r) (option_map (λ outcome_. record { clock = reply.clock; outcome = outcome_ }) q)) found
