-- The record of a member in a node run has a count for each module in each clock that it shows, and few asks in each run.
use Rattle.std.specs.Prelude.{◌==◌, slice_get, slice_index, min, IsSomeAnd, option_map, option_and_then, if◌then◌else◌, unwrap_or}
use Rattle.std.proofs.Common.{◌≡◌, ℕ, suc, ◌+◌, ◌<◌, ◌≤◌, ◌⊎◌, inl, inr, Bool, true, false, List, [], ◌∷◌, ◌++◌, map, length, drop, take, All, Option, None, Some, refl, sym, ap, subst, ◌∙◌, append_assoc, length-append, length-set}
use Rattle.std.proofs.lemmas.Bool.{eqb-true, cases_lt}
use Rattle.std.proofs.lemmas.List.Elements.{All-nil, All-cons, All-head, All-tail}
use Rattle.std.proofs.lemmas.Option.{same_Some}
use Rattle.circus_limits.specs.Limits.{limit_of}
use Rattle.circus_value.specs.ValueTree.{ValueTree}
use Rattle.circus_value.specs.declared.caller.Caller.{Caller}
use Rattle.circus_value.specs.declared.outcome.Outcome.{Outcome}
use Rattle.circus_segment.specs.Segment.{reading}
use Rattle.circus_header.specs.declared.answer.Reply.{Reply}
use Rattle.circus_header.specs.declared.answer.ReturnHeader.{ReturnHeader}
use Rattle.circus_header.specs.declared.answer.ReturnHeader.TheVariants as says
use Rattle.circus_header.specs.declared.call.Call.{Call}
use Rattle.circus_header.specs.declared.call.Call.TheVariants.{Ask, Ring, Fetch}
use Rattle.circus_collate.specs.declared.deployment.Deployment.{Deployment}
use Rattle.circus_collate.specs.declared.deployment.Troupe.{Troupe}
use Rattle.circus_collate.specs.declared.view.View.{View}
use Rattle.circus_ring.specs.RingTable.{boot_views}
use Rattle.circus_ring.proofs.Booting.{length_boot}
use Rattle.circus_transfer.specs.declared.joiner.Joiner.{Joiner}
use Rattle.circus_model.specs.Behaviour.{Behaviour, IsModule}
use Rattle.circus_model.specs.Execution.{is_spent}
use Rattle.circus_model.specs.declared.signature.ProcedureShape.{ProcedureShape}
use Rattle.circus_model.specs.declared.signature.Signature.{Signature}
use Rattle.circus_record.specs.declared.record.AskRecord.{AskRecord}
use Rattle.circus_record.specs.declared.record.MemberRecord.{MemberRecord}
use Rattle.circus_record.specs.declared.record.RunRecord.{RunRecord}
use Rattle.circus_gather.specs.declared.held.HeldCall.{HeldCall}
use Rattle.circus_performing.specs.declared.start.RunStart.{RunStart}
use Rattle.circus_performing.specs.Performing.{clock_after, last_count}
use Rattle.circus_performing.specs.Record.{start_of}
use Rattle.circus_performing.proofs.Ends.{latest_more}
use Rattle.circus_performing.proofs.Records.{none_is_some}
use Rattle.circus_wire.specs.WireActs.{WireActs}
use Rattle.circus_wire.specs.declared.delivery.Heard.{Heard}
use Rattle.circus_wire.specs.declared.delivery.Heard.TheVariants.{Dropped, Taken, Called, Returned}
use Rattle.circus_member_rules.specs.declared.occurrence.AskName.{AskName}
use Rattle.circus_member_rules.specs.declared.occurrence.Occurrence.{Occurrence}
use Rattle.circus_member_rules.specs.declared.occurrence.Occurrence.TheVariants as occurs
use Rattle.circus_member_rules.specs.declared.occurrence.Purpose.{Purpose}
use Rattle.circus_member_rules.specs.declared.occurrence.Purpose.TheVariants as for
use Rattle.circus_member_rules.specs.declared.place.Place.{Place}
use Rattle.circus_member_rules.specs.Step.{start_by_call}
use Rattle.circus_member_theory.specs.First.{first_given}
use Rattle.circus_member_theory.specs.Living.{phase_at_boot}
use Rattle.circus_member_theory.specs.Past.{Past}
use Rattle.circus_member_theory.specs.Timely.{may_start, may_answer, ShowsAnswer, IsMain}
use Rattle.circus_member_theory.proofs.Accepting.Options.{before_some, seen_some}
use Rattle.circus_member_theory.proofs.Accepting.Taken.{ask_taken, fetch_taken, table_told}
use Rattle.circus_node.specs.Accepting.{recorded_ask, imported_procedure, taken_call, accepted_call, reply_by, said_by, answer_by}
use Rattle.circus_node.specs.Bodies.{outcome_at, restored_in}
use Rattle.circus_node.specs.Booting.{beginning_in, home_in}
use Rattle.circus_node.specs.Headers.{call_in, return_in}
use Rattle.circus_node.specs.Trace.{Trace, booted, stepped}
use Rattle.circus_node.specs.declared.event.Event.{Event}
use Rattle.circus_node.specs.declared.event.Event.TheVariants as comes
use Rattle.circus_world_theory.specs.Happened.{with_one}
use Rattle.circus_world_theory.specs.Histories.{beginning_of}
use Rattle.circus_headline_theory.specs.NodeRun.{occurrence_by_record, happens_by, past_of, runs_at_boot, state_at_activation, IsNodeRun}
use Rattle.circus_headline_theory.specs.Trace.{acts_of, heard_in}
use Rattle.circus_headline_theory.proofs.One.{at_front, take_front}
use Rattle.circus_dues.specs.WalkRecord.{HasReply, GoesToEnd, GoesToWait, RunsToEnd, RunsToWait, GoOn}
use Rattle.circus_dues.proofs.SoundFew.{HasFew, all_few}
use Rattle.circus_dues.proofs.WalkRecord.{record_goes}
use Rattle.circus_verdict.specs.Seen.Judging.{HasCounts, IsCounted}
use Rattle.circus_verdict.proofs.Possible.Pasts.{Each, run_started_by, ask_answered_by}

-- ---- what happens shows so many counts

abbrev pub Counts : ℕ → Occurrence → Type 0
Counts modules (occurs.Asked header body sender) = length header.clock ≡ modules
Counts modules (occurs.Fetched incarnation sender) = Unit {0}
Counts modules (occurs.Replied name from reply) = length reply.clock ≡ modules
Counts modules (occurs.IsStale name server from incarnation) = Unit {0}
Counts modules (occurs.IsBefore name from) = Unit {0}
Counts modules (occurs.Told request table) = Unit {0}
Counts modules (occurs.Restored state count) = Unit {0}
Counts modules (occurs.Declared node) = Unit {0}
Counts modules occurs.Joins = Unit {0}

module _ (d : Deployment) (s : Signature) (own : ℕ) (kept : MemberRecord) where
  abbrev CountsHere : Occurrence → Type 0
  CountsHere o = Counts (length d.troupes) o

  called_counts : (sender : Caller) (message : List ℕ) (o : Occurrence) → accepted_call d s own sender message ≡ Some o → CountsHere o
  called_counts sender message o is =
      let b = before_some (λ (r : Call × ℕ). taken_call d s own sender r.0 (drop r.1 message)) (call_in message) o is in
      by_call b.value.0 b.value.1 b.then
    where
      by_call : (c : Call) (at : ℕ) → taken_call d s own sender c (drop at message) ≡ Some o → CountsHere o
      by_call (Ask h) at e = (let t = ask_taken d s own sender h (drop at message) o e in subst CountsHere (sym t.is) t.order.clock)
      by_call (Ring request) at e = absurd (let clash : ◌≡◌ {A = Option Occurrence} None (Some o) = e in cc)
      by_call (Fetch troupe incarnation) at e = (let t = fetch_taken own sender troupe incarnation o e in subst CountsHere (sym t.is) tt)

  reply_counts : (name : AskName) (clock : List ℕ) (at : ℕ) (message : List ℕ) (reply : Reply) → reply_by d s (recorded_ask kept name) clock at message ≡ Some reply → length reply.clock ≡ length d.troupes
  reply_counts name clock at message reply is = by_test (length clock == length d.troupes) refl is
    where
      by_test : (t : Bool) → (length clock == length d.troupes) ≡ t
          → (if t
          then option_map (λ (outcome : Outcome). let r : Reply = record { clock = clock; outcome = outcome } in r)
          (option_and_then (λ (p : ProcedureShape). outcome_at p (limit_of d.format) at message) (option_and_then (imported_procedure s) (recorded_ask kept name)))
          else None)
          ≡ Some reply → length reply.clock ≡ length d.troupes
      by_test false t e = absurd (let clash : ◌≡◌ {A = Option Reply} None (Some reply) = e in cc)
      by_test true t e =
          let o = seen_some (λ (outcome : Outcome). let r : Reply = record { clock = clock; outcome = outcome } in r)
          (option_and_then (λ (p : ProcedureShape). outcome_at p (limit_of d.format) at message) (option_and_then (imported_procedure s) (recorded_ask kept name))) reply e in
          ap (λ (r : Reply). length r.clock) o.seen ∙ eqb-true (length clock) (length d.troupes) t

  answered_counts : (name : AskName) (server from : ℕ) (message : List ℕ) (o : Occurrence) → answer_by d s (recorded_ask kept name) name server from message ≡ Some o → CountsHere o
  answered_counts name server from message o is =
      let b = before_some (λ (read : ReturnHeader × ℕ). said_by d s (recorded_ask kept name) name server from read.0 read.1 message) (return_in message) o is in
      by_header b.value.0 b.value.1 b.then
    where
      by_header : (h : ReturnHeader) (at : ℕ) → said_by d s (recorded_ask kept name) name server from h at message ≡ Some o → CountsHere o
      by_header (says.Reply clock) at e =
          let r = seen_some (λ (reply : Reply). occurs.Replied name from reply) (reply_by d s (recorded_ask kept name) clock at message) o e in
          subst CountsHere (sym r.seen) (reply_counts name clock at message r.value r.is)
      by_header (says.Stale incarnation) at e = (let same : occurs.IsStale name server from incarnation ≡ o = cc in subst CountsHere same tt)
      by_header (says.Before index) at e = (let same : occurs.IsBefore name from ≡ o = cc in subst CountsHere same tt)
      by_header (says.Snapshot count) at e = absurd (let clash : ◌≡◌ {A = Option Occurrence} None (Some o) = e in cc)
      by_header says.Table at e = absurd (let clash : ◌≡◌ {A = Option Occurrence} None (Some o) = e in cc)

  heard_counts : (from : ℕ) (heard : Heard Purpose) (o : Occurrence) → occurrence_by_record d s own kept from heard ≡ Some o → CountsHere o
  heard_counts from Dropped o is = absurd (let clash : ◌≡◌ {A = Option Occurrence} None (Some o) = is in cc)
  heard_counts from Taken o is = absurd (let clash : ◌≡◌ {A = Option Occurrence} None (Some o) = is in cc)
  heard_counts from (Called sender message) o is = called_counts sender message o is
  heard_counts from (Returned number (for.Ask name server) message) o is = answered_counts name server from message o is
  heard_counts from (Returned number (for.Ring request) message) o is = (let t = table_told d request message o is in subst CountsHere (sym t.is) tt)
  heard_counts from (Returned number for.Fetch message) o is =
      let r = seen_some (λ (restored : List ValueTree × ℕ). occurs.Restored restored.0 restored.1) (restored_in s.variables s.limit message) o is in
      subst CountsHere (sym r.seen) tt

  event_counts : (node : ℕ) (acts : WireActs Purpose) (event : Event) (o : Occurrence) → happens_by d s node own kept acts event ≡ Some o → CountsHere o
  event_counts node acts (comes.Datagram from bytes) o is = heard_counts from (heard_in (beginning_of d node) acts from (reading bytes)) o is
  event_counts node acts comes.Tick o is = absurd (let clash : ◌≡◌ {A = Option Occurrence} None (Some o) = is in cc)
  event_counts node acts (comes.Down down) o is = (let same : occurs.Declared down ≡ o = cc in subst CountsHere same tt)
  event_counts node acts comes.Join o is = (let same : occurs.Joins ≡ o = cc in subst CountsHere same tt)

-- ---- of a member in a node run

module _ (d : Deployment) (b : Behaviour) (lawful : IsModule b) (node number : ℕ) (troupe : Troupe) (kept : MemberRecord) (t : Trace) (run : IsNodeRun d b node number troupe t kept) where
  abbrev modules : ℕ
  modules = length d.troupes

  abbrev place : Place
  place = (home_in d node number troupe).place

  abbrev boot : List View
  boot = boot_views d.troupes

  abbrev begins : Joiner
  begins = phase_at_boot (beginning_in troupe node)

  abbrev at_boot : ℕ
  at_boot = runs_at_boot d b node number troupe

  abbrev so_far : Trace → Past
  so_far u = past_of d b node number troupe kept u

  abbrev p : Past
  p = so_far t

  with_counts : (q : Past) (at : ℕ) (o : Option Occurrence) → Each (Counts modules) q → ((x : Occurrence) → o ≡ Some x → Counts modules x) → Each (Counts modules) (with_one q at o)
  with_counts q at None each one = each
  with_counts q at (Some o) each one = (each, one o refl)

  each_counts : (u : Trace) → Each (Counts modules) (so_far u)
  each_counts (booted made outputs) = tt
  each_counts (stepped u at event made outputs) =
      with_counts (so_far u) at (happens_by d b.declared node number kept (acts_of (beginning_of d node) u) event) (each_counts u)
      (event_counts d b.declared number kept node (acts_of (beginning_of d node) u) event)

  -- ---- a run

  module _ (place_of : ℕ) (run_ : RunRecord) (there : slice_get kept.runs place_of ≡ Some run_) where
    abbrev none_of : View → ℕ
    none_of view = 0

    zeros_many : (views : List View) → length (map none_of views) ≡ length views
    zeros_many [] = refl
    zeros_many (view ∷ views) = ap suc (zeros_many views)

    -- as it was entered

    by_main : IsMain number boot run_ → length run_.entry ≡ modules
    by_main main = ap (λ (x : RunStart). length x.clock) main.1 ∙ zeros_many boot ∙ length_boot d.troupes

    by_call : (given : HeldCall) → Counts modules (occurs.Asked given.header given.body given.sender) → start_of run_ ≡ start_by_call number b.declared.procedures given → length run_.entry ≡ modules
    by_call given came is =
        let clock = given.header.clock in
        ap (λ (x : RunStart). length x.clock) is ∙ length-set clock number (min (slice_index clock number + 1) last_count) ∙ came

    entry_counts : length run_.entry ≡ modules
    entry_counts = by_number (cases_lt place_of at_boot)
      where
        by_given : (o : Option (ℕ × HeldCall)) → first_given (may_start place boot begins kept place_of) p ≡ o
            → IsSomeAnd o (λ given. (run_.started ≡ given.0) × (start_of run_ ≡ start_by_call number b.declared.procedures given.1)) → length run_.entry ≡ modules
        by_given None none is = absurd is
        by_given (Some given) some is = by_call given.1 (run_started_by (Counts modules) place boot begins kept place_of p given (each_counts t) some).came is.1

        by_number : (place_of < at_boot) ⊎ (at_boot ≤ place_of) → length run_.entry ≡ modules
        by_number (inl low) = by_main (subst (λ (o : Option RunRecord). IsSomeAnd o (IsMain number boot)) there (run.timely.boots place_of low))
        by_number (inr enough) = by_given (first_given (may_start place boot begins kept place_of) p) refl (run.timely.starts place_of run_ enough there)

    -- by an answer to its ask of a number, at this clock

    answer_counts : (number_of : ℕ) (ask : AskRecord) (clock after : List ℕ) → slice_get run_.asks number_of ≡ Some ask → clock_after run_.entry (take number_of run_.asks) ≡ clock
        → length clock ≡ modules → ask.after ≡ Some after → (is_spent clock ≡ true → after ≡ clock) → length after ≡ modules
    answer_counts number_of ask clock after here clock_is counts after_is refused = by_spent (is_spent clock) refl
      where
        name : AskName
        name = record { run = kept.from + place_of; ask = number_of }

        by_given : (o : Option (ℕ × Reply)) → first_given (may_answer place boot begins name ask) p ≡ o → ShowsAnswer ask o → length after ≡ modules
        by_given None none is = absurd (none_is_some (sym is.2 ∙ after_is))
        by_given (Some given) some is =
            let said = ask_answered_by (Counts modules) place boot begins name ask p given (each_counts t) some in
            ap length (same_Some after given.1.clock (sym after_is ∙ is.2)) ∙ said.1

        by_spent : (spent : Bool) → is_spent clock ≡ spent → length after ≡ modules
        by_spent true spent = ap length (refused spent) ∙ counts
        by_spent false left =
            by_given (first_given (may_answer place boot begins name ask) p) refl (run.timely.answers place_of number_of run_ ask there here (ap is_spent clock_is ∙ left))

    abbrev Counted : AskRecord → Type 0
    Counted ask = HasCounts modules ask.after

    abbrev AreCounted : List AskRecord → Type 0
    AreCounted asks = All Counted asks × HasCounts modules run_.end

    shown : (o : Option (List ℕ)) (clock : List ℕ) → o ≡ Some clock → length clock ≡ modules → HasCounts modules o
    shown o clock is counts = subst (HasCounts modules) (sym is) counts

    not_shown : (o : Option (List ℕ)) → o ≡ None → HasCounts modules o
    not_shown o none = subst (HasCounts modules) (sym none) tt

    -- behind these asks, with the next one

    module _ (state : List ValueTree) (front : List AskRecord) (ask : AskRecord) (rest : List AskRecord) (are : run_.asks ≡ front ++ ask ∷ rest)
        (counts : length (clock_after run_.entry front) ≡ modules) (a : HasReply b state run_ (clock_after run_.entry front) ask) where
      behind : clock_after run_.entry (front ++ ask ∷ []) ≡ a.after
      behind = latest_more (λ (x : AskRecord). x.after) run_.entry front ask ∙ ap (λ x. unwrap_or x (clock_after run_.entry front)) a.after_is

      after_counts : length a.after ≡ modules
      after_counts =
          answer_counts (length front) ask (clock_after run_.entry front) a.after (ap (λ l. slice_get l (length front)) are ∙ at_front front ask rest)
          (ap (clock_after run_.entry) (ap (take (length front)) are ∙ take_front front (ask ∷ rest))) counts a.after_is (λ spent. (a.refused spent).1)

      counts_behind : length (clock_after run_.entry (front ++ ask ∷ [])) ≡ modules
      counts_behind = ap length behind ∙ after_counts

      are_behind : run_.asks ≡ (front ++ ask ∷ []) ++ rest
      are_behind = are ∙ sym (append_assoc front (ask ∷ []) rest)

    ends_counted : (state : List ValueTree) (replies : List Outcome) (front rest : List AskRecord) (step : ℕ) → run_.asks ≡ front ++ rest → length (clock_after run_.entry front) ≡ modules
        → GoesToEnd b state run_ replies (clock_after run_.entry front) step rest → AreCounted rest
    ends_counted state replies front [] step are counts goes = (All-nil Counted, shown run_.end (clock_after run_.entry front) goes.end_is counts)
    ends_counted state replies front (ask ∷ rest) step are counts goes =
        let a = goes.1.0 in
        let later =
        ends_counted state (replies ++ a.reply ∷ []) (front ++ ask ∷ []) rest a.answered (are_behind state front ask rest are counts a) (counts_behind state front ask rest are counts a)
        (subst (λ (clock : List ℕ). GoesToEnd b state run_ (replies ++ a.reply ∷ []) clock a.answered rest) (sym (behind state front ask rest are counts a)) goes.1.1) in
        (All-cons Counted ask rest (shown ask.after a.after a.after_is (after_counts state front ask rest are counts a)) later.0, later.1)

    waits_counted : (state : List ValueTree) (replies : List Outcome) (front rest : List AskRecord) (step : ℕ) → run_.asks ≡ front ++ rest → length (clock_after run_.entry front) ≡ modules
        → GoesToWait b state run_ replies (clock_after run_.entry front) step rest → AreCounted rest
    waits_counted state replies front [] step are counts goes = absurd goes
    waits_counted state replies front (ask ∷ rest) step are counts goes =
        elim goes.1 [
          | inl waits ↦ (All-cons Counted ask rest (not_shown ask.after waits.0.no_clock) (subst (All Counted) (sym waits.1) (All-nil Counted)), not_shown run_.end waits.0.no_end)
          | inr more ↦ (let a = more.0 in
              let later =
              waits_counted state (replies ++ a.reply ∷ []) (front ++ ask ∷ []) rest a.answered (are_behind state front ask rest are counts a) (counts_behind state front ask rest are counts a)
              (subst (λ (clock : List ℕ). GoesToWait b state run_ (replies ++ a.reply ∷ []) clock a.answered rest) (sym (behind state front ask rest are counts a)) more.1) in
              (All-cons Counted ask rest (shown ask.after a.after a.after_is (after_counts state front ask rest are counts a)) later.0, later.1))
        ]

    run_counted : (state : List ValueTree) → HasFew run_ → RunsToEnd b state run_ ⊎ RunsToWait b state run_ → IsCounted modules run_
    run_counted state few (inl ends) = (let c = ends_counted state [] [] run_.asks run_.started refl entry_counts ends.goes in record { few = few; after = c.0; end = c.1 })
    run_counted state few (inr waits) = (let c = waits_counted state [] [] run_.asks run_.started refl entry_counts waits.goes in record { few = few; after = c.0; end = c.1 })

  -- ---- all runs

  all_counted : (front rest : List RunRecord) (state : List ValueTree) → kept.runs ≡ front ++ rest → All HasFew rest → GoOn b kept (length front) state rest → All (IsCounted modules) rest
  all_counted front [] state are few goes = All-nil (IsCounted modules)
  all_counted front (run_ ∷ rest) state are few goes =
      elim goes [
        | inl more ↦ (let longer : length (front ++ run_ ∷ []) ≡ length front + 1 = length-append front (run_ ∷ []) in
            All-cons (IsCounted modules) run_ rest (run_counted (length front) run_ here state (All-head HasFew run_ rest few) (inl more.0))
            (all_counted (front ++ run_ ∷ []) rest (unwrap_or run_.state state) (are ∙ sym (append_assoc front (run_ ∷ []) rest)) (All-tail HasFew run_ rest few)
            (subst (λ k. GoOn b kept k (unwrap_or run_.state state) rest) (sym longer) more.1)))
        | inr last ↦ All-cons (IsCounted modules) run_ rest (run_counted (length front) run_ here state (All-head HasFew run_ rest few) (inr last.0))
            (subst (All (IsCounted modules)) (sym last.1) (All-nil (IsCounted modules)))
      ]
    where
      here : slice_get kept.runs (length front) ≡ Some run_
      here = ap (λ l. slice_get l (length front)) are ∙ at_front front run_ rest

  abbrev activated : List ValueTree
  activated = state_at_activation d b node number troupe kept t

  pub runs_counted : All (IsCounted modules) kept.runs
  runs_counted = all_counted [] kept.runs activated refl (all_few b lawful activated kept run.follows) (record_goes b activated kept run.follows)
