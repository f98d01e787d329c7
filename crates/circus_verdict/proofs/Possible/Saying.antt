-- The messages of a member whose record may stand in a record of its node are bytes.
use Rattle.std.specs.List.{AllByRecursion}
use Rattle.std.specs.Option.{option_map_or}
use Rattle.std.specs.Prelude.{nat_lt, slice_get, unwrap_or, filter, IsSomeAnd}
use Rattle.std.proofs.Common.{◌≡◌, ℕ, ◌+◌, ◌-◌, ◌⊎◌, inl, inr, Bool, true, false, if◌then◌else◌, List, [], ◌∷◌, ◌++◌, length, Option, None, Some, refl, sym, subst, ◌∙◌, arith}
use Rattle.std.proofs.lemmas.Option.{same_Some}
use Rattle.circus_value.specs.Fits.{all_fit}
use Rattle.circus_value.specs.Parts.{AreOctets}
use Rattle.circus_value.specs.ValueTree.{ValueTree}
use Rattle.circus_value.specs.declared.caller.Caller.{Caller}
use Rattle.circus_value.specs.declared.outcome.Outcome.{Outcome}
use Rattle.circus_value.specs.declared.shape.Shape.{Shape}
use Rattle.circus_value.proofs.Octets.{none_octets, both_octets}
use Rattle.circus_external.specs.Octets.{word}
use Rattle.circus_external.specs.Spelling.{spelling_of_all}
use Rattle.circus_header.specs.CallFields.{call_fields}
use Rattle.circus_header.specs.Field.{bytes_of}
use Rattle.circus_header.specs.ReturnFields.{return_fields}
use Rattle.circus_header.specs.declared.answer.ReturnHeader.TheVariants as says
use Rattle.circus_header.specs.declared.call.Call.TheVariants.{Ask, Ring, Fetch}
use Rattle.circus_collate.specs.declared.deployment.Troupe.{Troupe}
use Rattle.circus_collate.specs.declared.view.View.{View}
use Rattle.circus_ring.specs.RingTable.{boot_views}
use Rattle.circus_transfer.specs.declared.joiner.Joiner.{Joiner}
use Rattle.circus_model.specs.Behaviour.{Behaviour, IsModule}
use Rattle.circus_model.specs.Lawful.{procedure_numbered, import_of, arguments_fit, import_takes, outcome_fits}
use Rattle.circus_model.specs.declared.signature.Import.{Import}
use Rattle.circus_model.specs.declared.signature.ProcedureShape.{ProcedureShape}
use Rattle.circus_config.specs.declared.plan.Plan.{Plan}
use Rattle.circus_record.specs.declared.record.MemberRecord.{MemberRecord}
use Rattle.circus_record.specs.declared.record.RunRecord.{RunRecord}
use Rattle.circus_gather.specs.Gathering.{index_of}
use Rattle.circus_performing.specs.Performing.{refusal, state_after}
use Rattle.circus_performing.specs.Record.{count_after}
use Rattle.circus_performing.proofs.Records.{none_is_some}
use Rattle.circus_member_rules.specs.Messages.{outcome_spelling, reply_message}
use Rattle.circus_member_rules.specs.Step.{reply_of_run}
use Rattle.circus_member_rules.specs.declared.occurrence.Occurrence.{Occurrence}
use Rattle.circus_member_rules.specs.declared.occurrence.Occurrence.TheVariants as comes
use Rattle.circus_member_rules.specs.declared.occurrence.Purpose.{Purpose}
use Rattle.circus_member_rules.specs.declared.occurrence.Purpose.TheVariants as for
use Rattle.circus_member_rules.specs.declared.place.Place.{Place}
use Rattle.circus_node.specs.Booting.{beginning_in, home_in, IsOfTroupe}
use Rattle.circus_node.specs.Trace.{Trace}
use Rattle.circus_member_theory.specs.Living.{phase_at_boot}
use Rattle.circus_member_theory.specs.Past.{Past, booted, followed, required_incarnation, phase, snapshot_fetched}
use Rattle.circus_member_theory.specs.Returns.{first_of, run_of, has_ended}
use Rattle.circus_member_theory.specs.Snapshots.{runs_before, began}
use Rattle.circus_member_theory.proofs.Accepting.Arguments.{values_octets}
use Rattle.circus_member_theory.proofs.Accepting.Octets.{word_octets, fields_octets}
use Rattle.circus_member_theory.proofs.Accepting.Options.{passes_some}
use Rattle.circus_member_theory.proofs.Accepting.States.{snapshot_octets}
use Rattle.circus_headline_theory.specs.Datagrams.Due.{WasSo, CallIsDue, IsForState, IsStale, IsBefore, IsReply, ReturnIsDue, header_then}
use Rattle.circus_headline_theory.specs.NodeRun.{past_of, IsNodeRun}
use Rattle.circus_headline_theory.proofs.Octets.{outcome_octets}
use Rattle.circus_headline_theory.specs.Trace.{now}
use Rattle.circus_audit.specs.Possible.{IsEnded, IsWaiting}
use Rattle.circus_verdict.proofs.Possible.Hearing.{RisesSo}
use Rattle.circus_verdict.proofs.Possible.Members.{asks_well, run_is}
use Rattle.circus_verdict.proofs.Possible.Occurring.{IsWell}
use Rattle.circus_verdict.proofs.Possible.Pasts.{Each, snapshot_holds}
use Rattle.circus_verdict.proofs.Possible.Performed.{each_from}

-- ---- outcomes and arguments

refusal_octets : AreOctets (outcome_spelling refusal)
refusal_octets = both_octets (word 1) (word 60007 ++ []) (word_octets 1) (both_octets (word 60007) [] (word_octets 60007) none_octets)

arguments_octets : (imports : List Import) (callee procedure : ℕ) (arguments : List ValueTree) → import_takes imports callee procedure arguments ≡ true → AreOctets (spelling_of_all arguments)
arguments_octets imports callee procedure arguments takes =
    let i = passes_some (λ (i : Import). arguments_fit i.procedures procedure arguments) (import_of callee imports) takes in
    let p = passes_some (λ (p : ProcedureShape). all_fit p.arguments arguments) (procedure_numbered procedure i.value.procedures) i.passes in
    values_octets p.value.arguments arguments p.passes

-- ---- states

ShowsFitting : List Shape → RunRecord → Type 0
ShowsFitting variables run = (state : List ValueTree) → run.state ≡ Some state → all_fit variables state ≡ true

latest_fits : (variables : List Shape) (first : List ValueTree) (runs : List RunRecord) → all_fit variables first ≡ true → AllByRecursion (ShowsFitting variables) runs
    → all_fit variables (state_after first runs) ≡ true
unfolding ShowsFitting
latest_fits variables first [] fit all = fit
latest_fits variables first (run ∷ runs) fit all = latest_fits variables (unwrap_or run.state first) runs (by_state run.state all.0) all.1
  where
    by_state : (o : Option (List ValueTree)) → ((state : List ValueTree) → o ≡ Some state → all_fit variables state ≡ true) → all_fit variables (unwrap_or o first) ≡ true
    by_state None shows = fit
    by_state (Some state) shows = shows state refl

pub filtered_all : {X : Type 0} (P : X → Type 0) (test : X → Bool) (xs : List X) → AllByRecursion P xs → AllByRecursion P (filter test xs)
filtered_all P test [] all = tt
filtered_all {X} P test (x ∷ xs) all = by_test (test x) (filtered_all P test xs all.1)
  where
    by_test : (b : Bool) → AllByRecursion P (filter test xs) → AllByRecursion P (if b then x ∷ filter test xs else filter test xs)
    by_test true later = (all.0, later)
    by_test false later = later

was_each : (P : Occurrence → Type 0) (p q : Past) → WasSo p q → Each P p → Each P q
was_each P booted q was each = subst (Each P) (sym was) each
was_each P (followed p step o) q (inl is) each = subst (Each P) (sym is) each
was_each P (followed p step o) q (inr was) each = was_each P p q was each.0

module _ (plan : Plan) (named : length plan.names ≡ length plan.deployment.troupes) (b : Behaviour) (lawful : IsModule b) (node number : ℕ) (troupe : Troupe)
    (of_troupe : IsOfTroupe plan.deployment number b.declared) (kept : MemberRecord) (t : Trace) (run : IsNodeRun plan.deployment b node number troupe t kept) where
  abbrev p : Past
  p = past_of plan.deployment b node number troupe kept t

  abbrev Well : Occurrence → Type 0
  Well o = IsWell plan named b.declared node number kept o

  abbrev place : Place
  place = (home_in plan.deployment node number troupe).place

  abbrev boot : List View
  boot = boot_views plan.deployment.troupes

  abbrev begins : Joiner
  begins = phase_at_boot (beginning_in troupe node)

  module _ (well : Each Well p) (rising : RisesSo plan named b node number troupe kept t) (events : ℕ) (all : events ≡ now t + 1) where
    -- ---- calls

    pub call_octets : (q : Past) (to : ℕ) (message : List ℕ) (purpose : Purpose) → CallIsDue place boot begins b.first kept q to message purpose → AreOctets message
    call_octets q to message (for.Ask name server) due =
        let ask = (asks_well plan named b lawful node number troupe of_troupe kept t run well rising events all due.number due.run name.ask due.ask due.run_is due.ask_is).0 in
        let header = header_then place boot begins b.first kept q name due.run due.ask due.view in
        subst AreOctets (sym due.message_is)
        (both_octets (bytes_of (call_fields (Ask header))) (spelling_of_all due.ask.arguments) (fields_octets (call_fields (Ask header)))
        (arguments_octets b.declared.imports due.ask.callee due.ask.procedure due.ask.arguments ask.takes))
    call_octets q to message (for.Ring request) due = subst AreOctets (sym due.1) (fields_octets (call_fields (Ring request)))
    call_octets q to message for.Fetch due = by_past q due
      where
        by_past : (q : Past) → IsForState place boot begins b.first kept q to message → AreOctets message
        by_past (followed q step (comes.Told request table)) due = subst AreOctets (sym due.0) (fields_octets (call_fields (Fetch number table.view.incarnation)))
        by_past booted due = absurd due
        by_past (followed q step (comes.Asked header body sender)) due = absurd due
        by_past (followed q step (comes.Fetched incarnation sender)) due = absurd due
        by_past (followed q step (comes.Replied name from reply)) due = absurd due
        by_past (followed q step (comes.IsStale name server from incarnation)) due = absurd due
        by_past (followed q step (comes.IsBefore name from)) due = absurd due
        by_past (followed q step (comes.Restored state count)) due = absurd due
        by_past (followed q step (comes.Declared other)) due = absurd due
        by_past (followed q step comes.Joins) due = absurd due

    -- ---- returns

    reply_octets : (run_ : RunRecord) → IsEnded plan b.declared events run_ ⊎ IsWaiting plan b.declared events run_ → AreOctets (reply_message (reply_of_run run_))
    reply_octets run_ is =
        both_octets (bytes_of (return_fields (says.Reply (unwrap_or run_.end [])))) (outcome_spelling (unwrap_or run_.outcome refusal)) (fields_octets (return_fields (says.Reply (unwrap_or run_.end []))))
        (by_end is)
      where
        by_end : IsEnded plan b.declared events run_ ⊎ IsWaiting plan b.declared events run_ → AreOctets (outcome_spelling (unwrap_or run_.outcome refusal))
        by_end (inl ended) =
            let shape = passes_some (λ (x : ProcedureShape). outcome_fits x ended.outcome) (procedure_numbered run_.procedure b.declared.procedures) ended.ends in
            subst (λ (o : Option Outcome). AreOctets (outcome_spelling (unwrap_or o refusal))) (sym ended.is_outcome) (outcome_octets shape.value ended.outcome shape.passes)
        by_end (inr waits) = subst (λ (o : Option Outcome). AreOctets (outcome_spelling (unwrap_or o refusal))) (sym waits.outcome) refusal_octets

    shows_fitting : (run_ : RunRecord) → IsEnded plan b.declared events run_ ⊎ IsWaiting plan b.declared events run_ → ShowsFitting b.declared.variables run_
    unfolding ShowsFitting
    shows_fitting run_ (inl ended) = λ state shown. subst (λ s. all_fit b.declared.variables s ≡ true) (same_Some ended.state state (sym ended.is_state ∙ shown)) ended.fits
    shows_fitting run_ (inr waits) = λ state shown. absurd (none_is_some (sym waits.state ∙ shown))

    began_fits : (q : Past) → Each Well q → all_fit b.declared.variables (began begins b.first q) ≡ true
    began_fits q each = by_snapshot (snapshot_fetched begins q) refl
      where
        by_snapshot : (o : Option (List ValueTree × ℕ)) → snapshot_fetched begins q ≡ o → all_fit b.declared.variables (option_map_or (λ (s : List ValueTree × ℕ). s.0) o b.first) ≡ true
        by_snapshot None none = lawful.first_is_state.fits
        by_snapshot (Some s) some = (snapshot_holds Well begins q s.0 s.1 each some).1

    pub return_octets : (q : Past) (caller : Caller) (message : List ℕ) → WasSo p q → ReturnIsDue place boot begins b.first kept p q caller message → AreOctets message
    return_octets q caller message was (inr request) =
        let all_shown = each_from (ShowsFitting b.declared.variables) kept.runs
        (λ n run_ at. shows_fitting run_ (run_is plan named b lawful node number troupe of_troupe kept t run well rising events all n run_ at)) in
        let count = count_after (first_of (phase begins q)) (length (runs_before kept q)) in
        subst AreOctets (sym request.message_is)
        (snapshot_octets b.declared.variables (state_after (began begins b.first q) (runs_before kept q)) count
        (latest_fits b.declared.variables (began begins b.first q) (runs_before kept q) (began_fits q (was_each Well p q was well))
        (filtered_all (ShowsFitting b.declared.variables) _ kept.runs all_shown))
        (omega arith))
    return_octets q caller message was (inl call) = by_case call.says
      where
        by_run : (o : Option RunRecord) → run_of kept (index_of number call.call.header) ≡ o
            → IsSomeAnd o (λ run_. (has_ended run_ q ≡ true) × (message ≡ reply_message (reply_of_run run_))) → AreOctets message
        by_run None at is = absurd is
        by_run (Some run_) at is =
            let place_of = found_at (index_of number call.call.header) run_ at in
            subst AreOctets (sym is.1) (reply_octets run_ (run_is plan named b lawful node number troupe of_troupe kept t run well rising events all place_of.0 run_ place_of.1))
          where
            found_at : (index : ℕ) (run_ : RunRecord) → run_of kept index ≡ Some run_ → (n : ℕ) × (slice_get kept.runs n ≡ Some run_)
            found_at index run_ at = by_test (nat_lt index kept.from) at
              where
                by_test : (low : Bool) → (if low then None else slice_get kept.runs (index - kept.from)) ≡ Some run_ → (n : ℕ) × (slice_get kept.runs n ≡ Some run_)
                by_test true e = absurd (none_is_some e)
                by_test false e = (index - kept.from, e)

        by_case : IsStale place boot begins b.first kept q call.call message ⊎ (IsBefore place boot begins b.first kept q call.call message ⊎ IsReply place boot begins b.first kept q call.call message)
            → AreOctets message
        by_case (inl stale) = subst AreOctets (sym stale.0) (fields_octets (return_fields (says.Stale (required_incarnation q))))
        by_case (inr (inl before)) = subst AreOctets (sym before.1) (fields_octets (return_fields (says.Before before.0)))
        by_case (inr (inr reply)) = by_run (run_of kept (index_of number call.call.header)) refl reply
