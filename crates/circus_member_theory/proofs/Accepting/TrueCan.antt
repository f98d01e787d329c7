-- What is accepted of true messages can happen, since they are bytes.
use Rattle.std.proofs.Common.{◌≡◌, ℕ, ◌<◌, inl, inr, true, false, List, ◌++◌, None, Some, sym, ap, ◌∙◌, subst}
use Rattle.std.specs.Prelude.{option_map, option_and_then}
use Rattle.std.specs.Option.{option_map_or}
use Rattle.circus_value.specs.Fits.{all_fit}
use Rattle.circus_value.specs.Parts.{AreOctets}
use Rattle.circus_value.specs.ValueTree.{ValueTree}
use Rattle.circus_value.specs.declared.caller.Caller.{Caller}
use Rattle.circus_value.specs.declared.outcome.Outcome.{Outcome}
use Rattle.circus_value.specs.declared.outcome.Outcome.TheVariants.{Returned, Raised}
use Rattle.circus_value.proofs.Octets.{both_octets}
use Rattle.circus_external.specs.Octets.{word}
use Rattle.circus_external.specs.Spelling.{spelling_of_all}
use Rattle.circus_header.specs.Field.{bytes_of}
use Rattle.circus_header.specs.CallFields.{call_fields}
use Rattle.circus_header.specs.ReturnFields.{return_fields}
use Rattle.circus_header.specs.declared.answer.Reply.{Reply}
use Rattle.circus_header.specs.declared.answer.ReturnHeader.{ReturnHeader}
use Rattle.circus_header.specs.declared.answer.ReturnHeader.TheVariants as says
use Rattle.circus_header.specs.declared.call.Call.TheVariants.{Ask as AskOf, Ring}
use Rattle.circus_collate.specs.declared.deployment.Deployment.{Deployment}
use Rattle.circus_model.specs.Agree.{IsAt, AreModules, Agree}
use Rattle.circus_model.specs.Behaviour.{Behaviour}
use Rattle.circus_model.specs.Execution.{history_of}
use Rattle.circus_model.specs.Lawful.{procedure_numbered, import_of, import_takes, import_answers, arguments_fit, outcome_fits}
use Rattle.circus_model.specs.NextTurn.{NextTurn}
use Rattle.circus_model.specs.declared.history.Ask.{Ask}
use Rattle.circus_model.specs.declared.signature.Import.{Import}
use Rattle.circus_model.specs.declared.signature.ProcedureShape.{ProcedureShape}
use Rattle.circus_model.specs.declared.signature.Signature.{Signature}
use Rattle.circus_performing.specs.Record.{behaviour}
use Rattle.circus_wire.specs.declared.delivery.Heard.TheVariants as hears
use Rattle.circus_member_rules.specs.Messages.{outcome_spelling}
use Rattle.circus_member_rules.specs.declared.occurrence.Occurrence.{Occurrence}
use Rattle.circus_member_rules.specs.declared.occurrence.Occurrence.TheVariants as comes
use Rattle.circus_member_rules.specs.declared.occurrence.Purpose.{Purpose}
use Rattle.circus_member_rules.specs.declared.occurrence.Purpose.TheVariants as for
use Rattle.circus_member_rules.specs.Happening.{CanHappen}
use Rattle.circus_member_rules.specs.MemberState.{MemberState}
use Rattle.circus_member_rules.specs.Proper.{IsProperProcedure, AreProper}
use Rattle.circus_member_theory.specs.Truth.{IsTrueCallFor, IsTrueReturn}
use Rattle.circus_member_theory.proofs.Histories.{takes, answers}
use Rattle.circus_node.specs.Bodies.{restored_in}
use Rattle.circus_node.specs.Headers.{return_in}
use Rattle.circus_node.specs.Accepting.{IsMemberOf, taken_answer, occurrence_of_heard}
use Rattle.circus_member_theory.proofs.Accepting.Arguments.{values_octets}
use Rattle.circus_member_theory.proofs.Accepting.Calls.{ask_no_fetch}
use Rattle.circus_member_theory.proofs.Accepting.Can.{AreHeardOctets, accepted_can}
use Rattle.circus_member_theory.proofs.Accepting.Octets.{word_octets, fields_octets, fetch_octets}
use Rattle.circus_member_theory.proofs.Accepting.Options.{before_some, passes_some}
use Rattle.circus_member_theory.proofs.Accepting.Outcomes.{raised}
use Rattle.circus_member_theory.proofs.Accepting.Returns.{table_read}
use Rattle.circus_member_theory.proofs.Accepting.States.{snapshot_octets, table_no_state}
use Rattle.circus_member_theory.proofs.Accepting.Taken.{imported_as}
use Rattle.circus_member_theory.proofs.Accepting.TrueReturns.{imported_proper, answers_ask, hands_over}

-- ---- octets

outcome_octets : (p : ProcedureShape) (outcome : Outcome) → IsProperProcedure p → outcome_fits p outcome ≡ true → AreOctets (outcome_spelling outcome)
outcome_octets p (Returned results) proper fit = both_octets (word 0) (spelling_of_all results) (word_octets 0) (values_octets p.results results fit)
outcome_octets p (Raised error values) proper fit =
    let r = raised p error values proper fit in
    both_octets (word 1) (word error ++ spelling_of_all values) (word_octets 1)
    (both_octets (word error) (spelling_of_all values) (word_octets error) (values_octets r.shapes values r.fit))

-- an imported procedure that answers so
record IsImported (declared : Signature) (callee procedure : ℕ) (outcome : Outcome) : Type 0 where
  p : ProcedureShape
  is : imported_as declared callee procedure ≡ Some p
  fits : outcome_fits p outcome ≡ true

answer_imported : (declared : Signature) (callee procedure : ℕ) (outcome : Outcome) → import_answers declared.imports callee procedure outcome ≡ true
    → IsImported declared callee procedure outcome
answer_imported declared callee procedure outcome is =
    let i = passes_some (λ (x : Import). option_map_or (λ (q : ProcedureShape). outcome_fits q outcome) (procedure_numbered procedure x.procedures) false)
    (import_of callee declared.imports) is in
    let p = passes_some (λ (q : ProcedureShape). outcome_fits q outcome) (procedure_numbered procedure i.value.procedures) i.passes in
    record {
      p = p.value;
      is = ap (option_and_then (λ (x : Import). procedure_numbered procedure x.procedures)) i.is ∙ p.is;
      fits = p.passes;
    }

arguments_octets : (declared : Signature) (ask : Ask) → import_takes declared.imports ask.callee ask.procedure ask.arguments ≡ true → AreOctets (spelling_of_all ask.arguments)
arguments_octets declared ask is =
    let i = passes_some (λ (x : Import). arguments_fit x.procedures ask.procedure ask.arguments) (import_of ask.callee declared.imports) is in
    let p = passes_some (λ (q : ProcedureShape). all_fit q.arguments ask.arguments) (procedure_numbered ask.procedure i.value.procedures) i.passes in
    values_octets p.value.arguments ask.arguments p.passes

-- calls of a troupe whose module is `b`
pub true_call_octets : (program : List Behaviour) (agree : Agree program) (are : AreModules program) (client : ℕ) (b : Behaviour)
    (firsts : List ValueTree) (Called : Caller → List ℕ → Type 0) (purpose : Purpose) (message : List ℕ)
    → IsAt program client b → IsTrueCallFor (history_of program) client firsts Called purpose message → AreOctets message
true_call_octets program agree are client b firsts Called (for.Ask name server) message at a =
    let n = a.named in
    subst AreOctets (sym a.message_is)
    (both_octets (bytes_of (call_fields (AskOf a.header))) a.body (fields_octets (call_fields (AskOf a.header)))
    (subst AreOctets (sym n.so.body_is) (arguments_octets b.declared n.ask (takes program agree are client b at name.run name.ask n.run n.ask n.there))))
true_call_octets program agree are client b firsts Called (for.Ring request) message at is = subst AreOctets (sym is) (fields_octets (call_fields (Ring request)))
true_call_octets program agree are client b firsts Called for.Fetch message at is = subst AreOctets (sym is.1) (fetch_octets client is.0)

module _ {M : Type 0} (declared : M → Signature) (turn : M → List ValueTree → ℕ → List ValueTree → List Outcome → NextTurn) (first : M → List ValueTree)
    (program : List Behaviour) (agree : Agree program) (are : AreModules program) (proper : AreProper program) (d : Deployment) (troupe : ℕ) (Called : Caller → List ℕ → Type 0) where
  -- a call that arrives: its message is a true one of a troupe whose module is `b`
  pub call_can : (m : MemberState M) (from client : ℕ) (b : Behaviour) (firsts : List ValueTree) (Other : Caller → List ℕ → Type 0)
      (sender : Caller) (message : List ℕ) (purpose : Purpose) (o : Occurrence)
      → IsMemberOf d m → IsAt program client b → IsTrueCallFor (history_of program) client firsts Other purpose message
      → occurrence_of_heard d (declared m.performing.hosted) m from (hears.Called sender message) ≡ Some o → CanHappen (declared m.performing.hosted) m o
  call_can m from client b firsts Other sender message purpose o member at true_call is =
      accepted_can d (declared m.performing.hosted) m member from (hears.Called sender message) o
      (true_call_octets program agree are client b firsts Other purpose message at true_call) is

  -- a return that arrives to an own call that was made for a purpose
  pub return_can : (m : MemberState M) (from number server : ℕ) (firsts : List ValueTree) (caller : Caller) (purpose : Purpose) (call message : List ℕ) (o : Occurrence)
      → IsMemberOf d m → IsAt program troupe (behaviour declared turn first m.performing.hosted)
      → IsTrueCallFor (history_of program) troupe (first m.performing.hosted) Called purpose call
      → IsTrueReturn (history_of program) server firsts (λ c l. l ≡ call) caller message
      → (server ≡ troupe → firsts ≡ first m.performing.hosted) → server < 32 → troupe < 32
      → occurrence_of_heard d (declared m.performing.hosted) m from (hears.Returned number purpose message) ≡ Some o → CanHappen (declared m.performing.hosted) m o
  return_can m from number server firsts caller purpose call message o member at_own true_call true_return own low own_low is = by_purpose purpose true_call is
    where
      by_octets : (p : Purpose) → AreHeardOctets (hears.Returned number p message)
          → occurrence_of_heard d (declared m.performing.hosted) m from (hears.Returned number p message) ≡ Some o → CanHappen (declared m.performing.hosted) m o
      by_octets p octets e = accepted_can d (declared m.performing.hosted) m member from (hears.Returned number p message) o octets e

      by_purpose : (p : Purpose) → IsTrueCallFor (history_of program) troupe (first m.performing.hosted) Called p call
          → occurrence_of_heard d (declared m.performing.hosted) m from (hears.Returned number p message) ≡ Some o → CanHappen (declared m.performing.hosted) m o
      by_purpose (for.Ask name to) a e = by_return true_return
        where
          by_return : IsTrueReturn (history_of program) server firsts (λ c l. l ≡ call) caller message → CanHappen (declared m.performing.hosted) m o
          by_return (inl r) =
              let b : Behaviour = behaviour declared turn first m.performing.hosted in
              let n = a.named in
              let reply_is = answers_ask declared turn first program agree are proper d troupe Called m at_own server firsts caller call message from o name to a r in
              let i = answer_imported b.declared n.ask.callee n.ask.procedure n.ask.reply (answers program agree are troupe b at_own name.run name.ask n.run n.ask n.there) in
              let outcome = outcome_octets i.p n.ask.reply (imported_proper program agree proper troupe b n.ask.callee n.ask.procedure i.p at_own i.is) i.fits in
              by_octets (for.Ask name to)
              (subst AreOctets (sym r.message_is)
              (both_octets (bytes_of (return_fields (says.Reply r.reply.clock))) (outcome_spelling r.reply.outcome) (fields_octets (return_fields (says.Reply r.reply.clock)))
              (subst (λ (x : Reply). AreOctets (outcome_spelling x.outcome)) (sym reply_is) outcome))) e
          by_return (inr (inl s)) = absurd (ask_no_fetch a.header a.body server s.asked.0 a.header_is (sym a.message_is ∙ sym s.asked.1))
          by_return (inr (inr (inl stale))) = by_octets (for.Ask name to) (subst AreOctets (sym stale.1) (fields_octets (return_fields (says.Stale stale.0)))) e
          by_return (inr (inr (inr (inl before)))) = by_octets (for.Ask name to) (subst AreOctets (sym before.1) (fields_octets (return_fields (says.Before before.0)))) e
          by_return (inr (inr (inr (inr table)))) =
              let b = before_some (λ (x : ReturnHeader × ℕ). taken_answer d (declared m.performing.hosted) m name to from x.0 x.1 message) (return_in message) o e in
              let kind = table_read table.0 b.value (ap return_in (sym table.1) ∙ b.is) in
              let none : None ≡ Some o = ap (λ h. taken_answer d (declared m.performing.hosted) m name to from h b.value.1 message) (sym kind) ∙ b.then in cc
      by_purpose (for.Ring request) a e = by_octets (for.Ring request) tt e
      by_purpose for.Fetch a e = by_return true_return
        where
          by_return : IsTrueReturn (history_of program) server firsts (λ c l. l ≡ call) caller message → CanHappen (declared m.performing.hosted) m o
          by_return (inl r) = absurd (ask_no_fetch r.header r.body troupe a.0 r.called.header_is (r.called.called ∙ a.1))
          by_return (inr (inl s)) =
              let h = hands_over declared turn first program agree are proper d troupe Called m at_own server firsts caller call message from o a.0 a.1 own low own_low s in
              by_octets for.Fetch (subst AreOctets (sym s.message_is) (snapshot_octets (declared m.performing.hosted).variables s.state s.count h.fits h.few)) e
          by_return (inr (inr (inl stale))) = by_octets for.Fetch (subst AreOctets (sym stale.1) (fields_octets (return_fields (says.Stale stale.0)))) e
          by_return (inr (inr (inr (inl before)))) = by_octets for.Fetch (subst AreOctets (sym before.1) (fields_octets (return_fields (says.Before before.0)))) e
          by_return (inr (inr (inr (inr table)))) =
              let none : None ≡ Some o =
              ap (option_map (λ (x : List ValueTree × ℕ). comes.Restored x.0 x.1))
              (sym (table_no_state (declared m.performing.hosted).variables (declared m.performing.hosted).limit table.0)
              ∙ ap (restored_in (declared m.performing.hosted).variables (declared m.performing.hosted).limit) (sym table.1)) ∙ e in cc
