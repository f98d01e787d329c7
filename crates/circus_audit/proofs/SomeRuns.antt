-- What an active member did can be ended behind each of its lines, so that the lines of replies name its asks.
use Rattle.std.specs.List.{AllByRecursion, list_any}
use Rattle.std.specs.Option.{option_map_or}
use Rattle.std.proofs.Common.{◌≡◌, ◌∙◌, ℕ, zero, suc, ◌+◌, ◌-◌, ◌<◌, ◌≤◌, ◌^◌, ◌⊎◌, inl, inr, Bool, true, false, ◌&&◌, ◌||◌, nat_eq, nat_lt, nat_le, List, [], ◌∷◌, ◌++◌, length, slice_get, Option, Some, None, refl, sym, ap, subst, arith, length-append}
use Rattle.std.proofs.lemmas.Bool.{and_parts, eqb-true, leb-true, leb-false, ltb-true}
use Rattle.circus_value.specs.ValueTree.{ValueTree}
use Rattle.circus_model.specs.Lawful.{arguments_fit, outcome_fits, procedure_numbered, import_of, import_takes, import_answers}
use Rattle.circus_value.specs.Fits.{all_fit}
use Rattle.circus_model.specs.declared.signature.Import.{Import}
use Rattle.circus_model.specs.declared.signature.ProcedureShape.{ProcedureShape}
use Rattle.circus_model.specs.declared.signature.Signature.{Signature}
use Rattle.circus_collate.specs.declared.deployment.Troupe.{Troupe}
use Rattle.circus_record.specs.declared.record.RunRecord.{RunRecord}
use Rattle.circus_record.specs.declared.record.MemberRecord.{MemberRecord}
use Rattle.circus_performing.specs.Performing.{last_count}
use Rattle.circus_performing.specs.Record.{count_after}
use Rattle.circus_config.specs.declared.plan.Plan.{Plan}
use Rattle.circus_audit.specs.Possible.{IsAnswered, IsStarted}
use Rattle.circus_audit.specs.declared.noted.Differing.{Differing}
use Rattle.circus_audit.specs.declared.noted.Noted.{Noted}
use Rattle.circus_audit.specs.declared.performed.Current.{Current}
use Rattle.circus_audit.specs.declared.performed.Current.TheVariants.{Nothing, Run, Ask}
use Rattle.circus_audit.specs.declared.setting.Hosted.{Hosted}
use Rattle.circus_audit.specs.declared.stage.Stage.{Stage}
use Rattle.circus_audit.specs.declared.stage.Stage.TheVariants.{Runs, Done}
use Rattle.circus_audit.specs.Seen.Lines.{run_ended, answer_ask}
use Rattle.circus_audit.specs.Seen.Outlook.{can_run, has_procedures, any_asks, all_asked, some_import}
use Rattle.circus_audit.specs.Seen.Outlook as outlook
use Rattle.circus_audit.specs.Seen.Performing.{with_ask}
use Rattle.circus_audit.specs.Seen.Reading.{has_root, node_names}
use Rattle.circus_audit.proofs.GoingOn.{either_left, either_right}
use Rattle.circus_audit.proofs.NoRecord.{one_root, some_procedure}
use Rattle.circus_audit.proofs.SoundingPerforming.{run_now, IsNow}
use Rattle.circus_audit.proofs.CompletingPlans.{IsSmall, IsSpelled, takes_so, Ends}
use Rattle.circus_audit.proofs.CompletingRows.{Goes, goes_by, both_go}
use Rattle.circus_audit.proofs.CompletingPerforming.{made_of, after_of, with_asks, open_same, run_reads, ask_reads, asks_read, reply_reads, end_reads}
use Rattle.circus_audit.proofs.CompletingRuns.{active_record, idle_row_reads, waiting_reads}
use Rattle.circus_audit.proofs.SomeValues.{IsFound, CanPerform}
use Rattle.circus_audit.proofs.SomeAsks.{given_up, gives_up, no_calls, no_calls_clock, how_many, AllAnswer, then_answer, answered_last, Answerable, choose, open_ask, is_open_ask, HasAsks, asks_of}

-- ---- roots, procedures

root_of : (troupes : List Troupe) → has_root troupes ≡ true → (root : ℕ) × (option_map_or (λ (t : Troupe). t.root) (slice_get troupes root) false ≡ true)
root_of [] is = cc
root_of (t ∷ troupes) is = by_root t.root refl is (root_of troupes)
  where
    by_root : (b : Bool) → t.root ≡ b → (b || has_root troupes) ≡ true → (has_root troupes ≡ true → (root : ℕ) × (option_map_or (λ (x : Troupe). x.root) (slice_get troupes root) false ≡ true)) → (root : ℕ) × (option_map_or (λ (x : Troupe). x.root) (slice_get (t ∷ troupes) root) false ≡ true)
    by_root true here some later = (0, here)
    by_root false other some later = let n = later some in (suc n.0, n.1)

first_procedure : (all ps : List ProcedureShape) → AllByRecursion (IsFound all) ps → nat_le 1 (length ps) ≡ true → (p : ProcedureShape) × IsFound all p
first_procedure all [] found some = cc
first_procedure all (p ∷ ps) found some = (p, found.0)

-- where an import has a procedure, and no line names an ask, an ask can be made
no_names : (plan : Plan) (own : ℕ) (all imports : List Import) (place number : ℕ) → any_asks imports ≡ true → list_any (outlook.some_procedure (node_names plan) (length plan.names) own all [] place number) imports ≡ true
no_names plan own all [] place number is = is
no_names plan own all (i ∷ imports) place number is = by_first (has_procedures i) refl is (no_names plan own all imports place number)
  where
    passes : (ps : List ProcedureShape) → nat_le 1 (length ps) ≡ true → list_any (λ (p : ProcedureShape). true) ps ≡ true
    passes [] some = some
    passes (p ∷ ps) some = refl

    by_first : (b : Bool) → has_procedures i ≡ b → (b || any_asks imports) ≡ true → (any_asks imports ≡ true → list_any (outlook.some_procedure (node_names plan) (length plan.names) own all [] place number) imports ≡ true) → list_any (outlook.some_procedure (node_names plan) (length plan.names) own all [] place number) (i ∷ imports) ≡ true
    by_first true here some later = either_left (outlook.some_procedure (node_names plan) (length plan.names) own all [] place number i) (list_any (outlook.some_procedure (node_names plan) (length plan.names) own all [] place number) imports) (passes i.procedures here)
    by_first false none some later = either_right (outlook.some_procedure (node_names plan) (length plan.names) own all [] place number i) (list_any (outlook.some_procedure (node_names plan) (length plan.names) own all [] place number) imports) (later some)

pub none_answerable : (plan : Plan) (own : ℕ) (s : Signature) (expected : List Differing) → expected ≡ [] → any_asks s.imports ≡ true → Answerable plan own s expected
none_answerable plan own s expected none some place number = ap (λ e. some_import (node_names plan) (length plan.names) own s.imports e place number) none ∙ no_names plan own s.imports s.imports place number some

-- how many asks a run has that is performed
abbrev pub asks_in : Current → ℕ
asks_in Nothing = 0
asks_in (Run run) = length run.asks
asks_in (Ask run ask) = length run.asks + 1

-- a run can stand at a place, where the count is this
abbrev pub may_go : ℕ → ℕ → Signature → Bool
may_go count place s = can_run s && ((nat_lt place count || nat_eq count 4294967295) || (nat_eq place count && any_asks s.imports))

-- runs can be entered
abbrev pub CanEnter : Plan → Signature → Type 0
CanEnter plan s = (has_root plan.deployment.troupes ≡ true) × (can_run s ≡ true)

-- asks that lines name can come, where there are any
abbrev pub CanBeAsked : Plan → ℕ → Signature → List Differing → Type 0
CanBeAsked plan own s expected = (expected ≡ []) ⊎ (CanEnter plan s × Answerable plan own s expected)

module _ (plan : Plan) (own : ℕ) (s : Signature) (expected : List Differing) where
  -- the asks of runs, the first at a place, answer as lines say
  abbrev pub RunsAnswer : ℕ → List RunRecord → Type 0
  RunsAnswer place [] = Unit {0}
  RunsAnswer place (run ∷ runs) = AllAnswer plan own s expected place 0 run.asks × RunsAnswer (place + 1) runs

  -- and they have all asks that are named
  abbrev pub AreAsked : ℕ → List RunRecord → Type 0
  AreAsked place [] = Unit {0}
  AreAsked place (run ∷ runs) = (all_asked place (length run.asks) expected ≡ true) × AreAsked (place + 1) runs

  -- what is known of a run that is performed, behind others
  abbrev pub IsNowWell : ℕ → ℕ → List RunRecord → Current → Type 0
  IsNowWell from count runs Nothing = Unit {0}
  IsNowWell from count runs (Run run) = (may_go count (from + length runs) s ≡ true) × AllAnswer plan own s expected (from + length runs) 0 run.asks
  IsNowWell from count runs (Ask run ask) = (may_go count (from + length runs) s ≡ true) × AllAnswer plan own s expected (from + length runs) 0 (run.asks ++ ask ∷ [])

  pub answer_more : (place : ℕ) (runs : List RunRecord) (run : RunRecord) → RunsAnswer place runs → AllAnswer plan own s expected (place + length runs) 0 run.asks → RunsAnswer place (runs ++ run ∷ [])
  answer_more place [] run all one = let here : place + 0 ≡ place = omega arith in (subst (λ n. AllAnswer plan own s expected n 0 run.asks) here one, tt)
  answer_more place (r ∷ runs) run all one =
      let here : place + suc (length runs) ≡ place + 1 + length runs = omega arith in
      (all.0, answer_more (place + 1) runs run all.1 (subst (λ n. AllAnswer plan own s expected n 0 run.asks) here one))

  pub asked_more : (place : ℕ) (runs : List RunRecord) (run : RunRecord) → AreAsked place runs → all_asked (place + length runs) (length run.asks) expected ≡ true → AreAsked place (runs ++ run ∷ [])
  asked_more place [] run all one = let here : place + 0 ≡ place = omega arith in (subst (λ n. all_asked n (length run.asks) expected ≡ true) here one, tt)
  asked_more place (r ∷ runs) run all one =
      let here : place + suc (length runs) ≡ place + 1 + length runs = omega arith in
      (all.0, asked_more (place + 1) runs run all.1 (subst (λ n. all_asked n (length run.asks) expected ≡ true) here one))

  -- a record of which each named run is there, with each named ask
  pub record IsAnswering (kept : MemberRecord) : Type 0 where
    pub answer : RunsAnswer kept.from kept.runs
    pub asked : AreAsked kept.from kept.runs
    pub within : AllByRecursion (λ (d : Differing). (kept.from ≤ d.run) × (d.run < kept.from + length kept.runs)) expected

module _ (plan : Plan) (own : ℕ) (host : Hosted) (is_spelled : IsSpelled plan) (small : IsSmall (length plan.names) host.signature) (notes : List Noted) (short : length notes < 2 ^ 64) (some : 0 < length notes) (expected : List Differing) (few : AllByRecursion (λ (d : Differing). (d.run < 2 ^ 32) × (d.ask < 2 ^ 32)) expected) (can : CanPerform host.signature) (from since count : ℕ) where
  abbrev s : Signature
  s = host.signature

  abbrev stage : List RunRecord → Current → Stage
  stage runs current = Runs notes (record { from = from; since = since; count = count; runs = runs; current = current })

  -- the record can be ended
  pub record IsEndable (first : Stage) : Type 0 where
    pub kept : MemberRecord
    pub goes : Goes plan own (Some host) first (Done notes (Some kept) None)
    pub answering : IsAnswering plan own s expected kept

  pub behind : (first next : Stage) → Goes plan own (Some host) first next → IsEndable next → IsEndable first
  behind first next goes end = record {
    kept = end.kept;
    goes = both_go plan own (Some host) first next (Done notes (Some end.kept) None) goes end.goes;
    answering = end.answering;
  }

  abbrev pub Named : ℕ → Type 0
  Named end = AllByRecursion (λ (d : Differing). (from ≤ d.run) × (d.run < end)) expected

  -- ---- the last line

  idle_end : (runs : List RunRecord) → RunsAnswer plan own s expected from runs → AreAsked plan own s expected from runs → count ≡ count_after from (length runs) → Named (from + length runs) → IsEndable (stage runs Nothing)
  idle_end runs answer asked counted within = record {
    kept = active_record from since count runs can.state.0;
    goes = goes_by plan own (Some host) (stage runs Nothing) (Done notes (Some (active_record from since count runs can.state.0)) None) (idle_row_reads plan own host is_spelled small notes short from since count runs can.state.0 counted can.state.1);
    answering = record { answer = answer; asked = asked; within = within };
  }

  -- a run waits with its last ask
  wait_end : (runs : List RunRecord) (run : RunRecord) → run.outcome ≡ None → RunsAnswer plan own s expected from runs → AreAsked plan own s expected from runs → AllAnswer plan own s expected (from + length runs) 0 run.asks → length run.asks < 2 ^ 32 → from + length runs ≡ count → count ≤ last_count → Named (count + 1) → Answerable plan own s expected → IsEndable (stage runs (Run run))
  wait_end runs run none answer asked answers short_run is least within answerable =
      let place = from + length runs in
      let m = how_many place expected few in
      let small_many = m.few in
      let more = asks_of plan own s expected can (length notes) some answerable place (length run.asks) (m.many - (length run.asks + 1)) in
      let going = with_asks run more.asks in
      let size : length going.asks ≡ length run.asks + (m.many - (length run.asks + 1)) = omega (arith, length-append run.asks more.asks, more.count) in
      let c = choose plan own s expected can answerable place (length going.asks) in
      let ask = open_ask plan own s expected can (length notes) some place (length going.asks) c in
      let waiting = with_ask going ask in
      let one = asks_read plan own host is_spelled small notes short from since count runs run (length run.asks) more.asks refl more.answered (omega (arith, more.count, short_run, small_many)) in
      let two = ask_reads plan own host is_spelled small notes short from since count runs going ask (is_open_ask plan own s expected can (length notes) some place (length going.asks) c) (omega (arith, size, short_run, small_many)) in
      let three = waiting_reads plan own host is_spelled small notes short from since count runs going ask can.state.0 none (omega (arith, is, least)) (sym is) (omega (arith, size, short_run, small_many)) can.state.1 in
      let longer : length waiting.asks ≡ length going.asks + 1 = length-append going.asks (ask ∷ []) in
      let whole : length (runs ++ waiting ∷ []) ≡ length runs + 1 = length-append runs (waiting ∷ []) in
      let end : count + 1 ≡ from + length (runs ++ waiting ∷ []) = omega (arith, is, whole) in
      let both = then_answer plan own s expected place run.asks more.asks answers more.answer in
      let all = then_answer plan own s expected place going.asks (ask ∷ []) both (c.answers, tt) in
      let kept = active_record from since count (runs ++ waiting ∷ []) can.state.0 in
      let first = goes_by plan own (Some host) (stage runs (Run run)) (stage runs (Run going)) one in
      let second = goes_by plan own (Some host) (stage runs (Run going)) (stage runs (Ask going ask)) two in
      let third = goes_by plan own (Some host) (stage runs (Ask going ask)) (Done notes (Some kept) None) three in
      let lines = both_go plan own (Some host) (stage runs (Run run)) (stage runs (Run going)) (stage runs (Ask going ask)) first second in
      record {
        kept = kept;
        goes = both_go plan own (Some host) (stage runs (Run run)) (stage runs (Ask going ask)) (Done notes (Some kept) None) lines third;
        answering = record {
          answer = answer_more plan own s expected from runs waiting answer all;
          asked = asked_more plan own s expected from runs waiting asked (m.enough (length waiting.asks) (omega (arith, longer, size)));
          within = subst Named end within;
        };
      }

  -- ---- a run

  pub record IsAfterRun (runs : List RunRecord) (current : Current) : Type 0 where
    pub run : RunRecord
    pub goes : Goes plan own (Some host) (stage runs current) (stage (runs ++ run ∷ []) Nothing)
    pub answers : AllAnswer plan own s expected (from + length runs) 0 run.asks
    pub asked : all_asked (from + length runs) (length run.asks) expected ≡ true

  -- the asks that it lacks
  pub record HasEnough (place number : ℕ) : Type 0 where
    pub many : ℕ
    pub more : HasAsks plan own s expected can (length notes) some place number many
    pub few_asks : number + many ≤ 2 ^ 32
    pub enough : all_asked place (number + many) expected ≡ true

  lacking : CanBeAsked plan own s expected → (place number : ℕ) → number ≤ 2 ^ 32 → HasEnough place number
  lacking (inl none) place number small_number = record {
    many = 0;
    more = record { asks = []; count = refl; answered = tt; answer = tt };
    few_asks = omega (arith, small_number);
    enough = ap (all_asked place (number + 0)) none;
  }
  lacking (inr free) place number small_number =
      let m = how_many place expected few in
      let small_many = m.few in
      record {
        many = m.many - number;
        more = asks_of plan own s expected can (length notes) some free.1 place number (m.many - number);
        few_asks = omega (arith, small_number, small_many);
        enough = m.enough (number + (m.many - number)) (omega arith);
      }

  run_end : CanBeAsked plan own s expected → (runs : List RunRecord) (run : RunRecord) → arguments_fit s.procedures run.procedure run.arguments ≡ true → from + length runs ≤ last_count → AllAnswer plan own s expected (from + length runs) 0 run.asks → length run.asks ≤ 2 ^ 32 → IsAfterRun runs (Run run)
  run_end come runs run takes within answers short_run =
      let place = from + length runs in
      let e = lacking come place (length run.asks) short_run in
      let going = with_asks run e.more.asks in
      let counted = e.more.count in
      let t = takes_so s.procedures run.procedure run.arguments small.procedures takes in
      let ends : Ends s.procedures run.procedure given_up = record { shape = t.shape; is_shape = t.is_shape; can = (gives_up t.shape, omega arith) } in
      let one = asks_read plan own host is_spelled small notes short from since count runs run (length run.asks) e.more.asks refl e.more.answered (omega (arith, e.few_asks, counted)) in
      let two = end_reads plan own host is_spelled small notes short from since count runs going run.procedure (no_calls plan.names) 0 given_up can.state.0 refl ends can.state.1 some (no_calls_clock plan) within in
      let ended = run_ended going (after_of 0 (no_calls plan.names)) given_up can.state.0 in
      let size : length run.asks + e.many ≡ length going.asks = omega (arith, length-append run.asks e.more.asks, counted) in
      record {
        run = ended;
        goes = both_go plan own (Some host) (stage runs (Run run)) (stage runs (Run going)) (stage (runs ++ ended ∷ []) Nothing) (goes_by plan own (Some host) (stage runs (Run run)) (stage runs (Run going)) one) (goes_by plan own (Some host) (stage runs (Run going)) (stage (runs ++ ended ∷ []) Nothing) two);
        answers = then_answer plan own s expected place run.asks e.more.asks answers e.more.answer;
        asked = subst (λ n. all_asked place n expected ≡ true) size e.enough;
      }

  -- ---- a run begins

  pub record IsBegun (runs : List RunRecord) : Type 0 where
    pub run : RunRecord
    pub goes : Goes plan own (Some host) (stage runs Nothing) (stage runs (Run run))
    pub takes : arguments_fit s.procedures run.procedure run.arguments ≡ true
    pub none : run.asks ≡ []
    pub going : run.outcome ≡ None

  begins : CanEnter plan s → (runs : List RunRecord) → from + length runs ≤ last_count → IsBegun runs
  begins run_can runs within =
      let root = root_of plan.deployment.troupes run_can.0 in
      let p = first_procedure s.procedures s.procedures can.procedures run_can.1 in
      made root.0 root.1 p.0 p.1
    where
      made : (root : ℕ) → option_map_or (λ (t : Troupe). t.root) (slice_get plan.deployment.troupes root) false ≡ true → (p : ProcedureShape) → IsFound s.procedures p → IsBegun runs
      made root is_root p found =
          let run : RunRecord = record { path = []; root = root; procedure = p.number; arguments = found.2.0; entry = no_calls plan.names; asks = []; outcome = None; state = None; end = None; started = 0; ended = None } in
          let takes : arguments_fit s.procedures p.number found.2.0 ≡ true = ap (λ o. option_map_or (λ (x : ProcedureShape). all_fit x.arguments found.2.0) o false) found.1 ∙ found.2.1 in
          let started : IsStarted plan s (length notes) run = record { root = is_root; path = tt; takes = takes; clock = no_calls_clock plan; started = some } in
          record {
            run = run;
            goes = goes_by plan own (Some host) (stage runs Nothing) (stage runs (Run run)) (run_reads plan own host is_spelled small notes short from since count runs run started within);
            takes = takes;
            none = refl;
            going = refl;
          }

  begun_answers : (runs : List RunRecord) (b : IsBegun runs) → AllAnswer plan own s expected (from + length runs) 0 b.run.asks
  begun_answers runs b = subst (AllAnswer plan own s expected (from + length runs) 0) (sym b.none) tt

  -- ---- all runs

  module _ (least : from ≤ count) (most : count ≤ last_count) (come : CanBeAsked plan own s expected) (named : Named (count + 1)) where
    -- behind the last run that is counted
    last_end : CanBeAsked plan own s expected → (runs : List RunRecord) → from + length runs ≡ count → RunsAnswer plan own s expected from runs → AreAsked plan own s expected from runs → IsEndable (stage runs Nothing)
    last_end (inl none) runs is answer asked = idle_end runs answer asked (omega (arith, is, most)) (subst (λ ds. AllByRecursion (λ (d : Differing). (from ≤ d.run) × (d.run < from + length runs)) ds) (sym none) tt)
    last_end (inr free) runs is answer asked =
        let b = begins free.0 runs (omega (arith, is, most)) in
        behind (stage runs Nothing) (stage runs (Run b.run)) b.goes (wait_end runs b.run b.going answer asked (begun_answers runs b) (omega (arith, ap length b.none)) is most named free.1)

    runs_end : (left : ℕ) (runs : List RunRecord) → from + length runs + left ≡ count → (left ≡ 0) ⊎ CanEnter plan s → RunsAnswer plan own s expected from runs → AreAsked plan own s expected from runs → IsEndable (stage runs Nothing)
    runs_end zero runs is can_go answer asked = last_end come runs (omega (arith, is)) answer asked
    runs_end (suc left) runs is (inl zero_left) answer asked = absurd (omega (arith, zero_left))
    runs_end (suc left) runs is (inr run_can) answer asked =
        let within : from + length runs ≤ last_count = omega (arith, is, most) in
        let b = begins run_can runs within in
        let e = run_end come runs b.run b.takes within (begun_answers runs b) (omega (arith, ap length b.none)) in
        let next : from + length (runs ++ e.run ∷ []) + left ≡ count = omega (arith, is, length-append runs (e.run ∷ [])) in
        behind (stage runs Nothing) (stage runs (Run b.run)) b.goes (behind (stage runs (Run b.run)) (stage (runs ++ e.run ∷ []) Nothing) e.goes (runs_end left (runs ++ e.run ∷ []) next (inr run_can) (answer_more plan own s expected from runs e.run answer e.answers) (asked_more plan own s expected from runs e.run asked e.asked)))

    counted_end : (runs : List RunRecord) → from + length runs ≤ count → (from ≡ count) ⊎ CanEnter plan s → RunsAnswer plan own s expected from runs → AreAsked plan own s expected from runs → IsEndable (stage runs Nothing)
    counted_end runs counted can_go answer asked = runs_end (count - (from + length runs)) runs (omega (arith, counted)) (by_left can_go) answer asked
      where
        by_left : (from ≡ count) ⊎ CanEnter plan s → (count - (from + length runs) ≡ 0) ⊎ CanEnter plan s
        by_left (inl same) = inl (omega (arith, same))
        by_left (inr run_can) = inr run_can

    -- no run is performed: those that have ended are counted, or the count is the last one
    pub nothing_end : (runs : List RunRecord) → (from + length runs ≤ count) ⊎ ((count ≡ last_count) × (from + length runs ≤ last_count + 1)) → (from ≡ count) ⊎ CanEnter plan s → RunsAnswer plan own s expected from runs → AreAsked plan own s expected from runs → IsEndable (stage runs Nothing)
    nothing_end runs (inl counted) can_go answer asked = counted_end runs counted can_go answer asked
    nothing_end runs (inr last) can_go answer asked = by_size (nat_le (from + length runs) count) refl
      where
        by_size : (b : Bool) → nat_le (from + length runs) count ≡ b → IsEndable (stage runs Nothing)
        by_size true counted = counted_end runs (leb-true (from + length runs) count counted) can_go answer asked
        by_size false large =
            let more = leb-false (from + length runs) count large in
            let is = last.0 in
            let end : count + 1 ≡ from + length runs = omega (arith, more, is, last.1) in
            idle_end runs answer asked (omega (arith, is, end)) (subst Named end named)

    -- a run is performed
    pub run_endable : (runs : List RunRecord) (run : RunRecord) → run.outcome ≡ None → arguments_fit s.procedures run.procedure run.arguments ≡ true → from + length runs ≤ last_count → CanEnter plan s → may_go count (from + length runs) s ≡ true → length run.asks < 2 ^ 32 → RunsAnswer plan own s expected from runs → AreAsked plan own s expected from runs → AllAnswer plan own s expected (from + length runs) 0 run.asks → IsEndable (stage runs (Run run))
    run_endable runs run none takes within run_can may short_run answer asked answers = by_end (nat_lt (from + length runs) count) (nat_eq count 4294967295) refl refl (and_parts (can_run s) ((nat_lt (from + length runs) count || nat_eq count 4294967295) || (nat_eq (from + length runs) count && any_asks s.imports)) may).1
      where
        ends : (from + length runs < count) ⊎ (count ≡ last_count) → IsEndable (stage runs (Run run))
        ends counted =
            let e = run_end come runs run takes within answers (omega (arith, short_run)) in
            let size = length-append runs (e.run ∷ []) in
            behind (stage runs (Run run)) (stage (runs ++ e.run ∷ []) Nothing) e.goes (nothing_end (runs ++ e.run ∷ []) (by_count (e.run) size counted) (inr run_can) (answer_more plan own s expected from runs e.run answer e.answers) (asked_more plan own s expected from runs e.run asked e.asked))
          where
            by_count : (r : RunRecord) → length (runs ++ r ∷ []) ≡ length runs + 1 → (from + length runs < count) ⊎ (count ≡ last_count) → (from + length (runs ++ r ∷ []) ≤ count) ⊎ ((count ≡ last_count) × (from + length (runs ++ r ∷ []) ≤ last_count + 1))
            by_count r size (inl less) = inl (omega (arith, size, less))
            by_count r size (inr last) = inr (last, omega (arith, size, within))

        waits : (nat_eq (from + length runs) count && any_asks s.imports) ≡ true → IsEndable (stage runs (Run run))
        waits both =
            let parts = and_parts (nat_eq (from + length runs) count) (any_asks s.imports) both in
            wait_end runs run none answer asked answers short_run (eqb-true (from + length runs) count parts.0) most named (by_come come parts.1)
          where
            by_come : CanBeAsked plan own s expected → any_asks s.imports ≡ true → Answerable plan own s expected
            by_come (inl nothing) some_asks = none_answerable plan own s expected nothing some_asks
            by_come (inr free) some_asks = free.1

        by_end : (x y : Bool) → nat_lt (from + length runs) count ≡ x → nat_eq count 4294967295 ≡ y → ((x || y) || (nat_eq (from + length runs) count && any_asks s.imports)) ≡ true → IsEndable (stage runs (Run run))
        by_end true y one two is = ends (inl (ltb-true (from + length runs) count one))
        by_end false true one two is = ends (inr (eqb-true count 4294967295 two))
        by_end false false one two is = waits is

    -- ---- whatever is performed

    takes_answers : (imports : List Import) (callee number : ℕ) (arguments : List ValueTree) → import_takes imports callee number arguments ≡ true → import_answers imports callee number given_up ≡ true
    takes_answers imports callee number arguments takes = by_import (import_of callee imports) refl takes
      where
        by_procedure : (i : Import) (o : Option ProcedureShape) → option_map_or (λ (p : ProcedureShape). all_fit p.arguments arguments) o false ≡ true → option_map_or (λ (p : ProcedureShape). outcome_fits p given_up) o false ≡ true
        by_procedure i None fit = cc
        by_procedure i (Some p) fit = gives_up p

        by_import : (o : Option Import) → import_of callee imports ≡ o → option_map_or (λ (i : Import). arguments_fit i.procedures number arguments) o false ≡ true → option_map_or (λ (i : Import). option_map_or (λ (p : ProcedureShape). outcome_fits p given_up) (procedure_numbered number i.procedures) false) (import_of callee imports) false ≡ true
        by_import None is fit = cc
        by_import (Some i) is fit = ap (λ o. option_map_or (λ (x : Import). option_map_or (λ (p : ProcedureShape). outcome_fits p given_up) (procedure_numbered number x.procedures) false) o false) is ∙ by_procedure i (procedure_numbered number i.procedures) fit

    pub current_end : (c : Current) (runs : List RunRecord) → IsNow plan s (length notes) c → (from ≡ count) ⊎ CanEnter plan s → (from + length runs ≤ count) ⊎ ((count ≡ last_count) × (from + length runs ≤ last_count + 1)) → from + length (runs ++ run_now c) ≤ last_count + 1 → asks_in c < 2 ^ 32 → RunsAnswer plan own s expected from runs → AreAsked plan own s expected from runs → IsNowWell plan own s expected from count runs c → IsEndable (stage runs c)
    current_end Nothing runs now can_go counted few_runs short_run answer asked well = nothing_end runs counted can_go answer asked
    current_end (Run run) runs now can_go counted few_runs short_run answer asked well =
        run_endable runs run now.outcome now.began.takes (omega (arith, few_runs, length-append runs (run ∷ []))) (entered run now.began) well.0 short_run answer asked well.1
      where
        entered : (r : RunRecord) → IsStarted plan s (length notes) r → CanEnter plan s
        entered r is = (one_root plan.deployment.troupes r.root is.root, some_procedure s.procedures r.procedure r.arguments is.takes)
    current_end (Ask run ask) runs now can_go counted few_runs short_run answer asked well =
        let made = now.1.made in
        let within : from + length runs ≤ last_count = omega (arith, few_runs, length-append runs (with_ask run ask ∷ [])) in
        let reply = answer_ask ask (after_of 0 (no_calls plan.names)) given_up in
        let answered : IsAnswered plan s (length notes) reply = record {
          made = record { takes = made.takes; index = made.index; state = made.state; asked = made.asked };
          reply = given_up;
          after = no_calls plan.names;
          step = 0;
          is_reply = refl;
          is_after = refl;
          is_step = refl;
          answers = takes_answers s.imports ask.callee ask.procedure ask.arguments made.takes;
          clock = no_calls_clock plan;
          answered = some;
        } in
        let read = goes_by plan own (Some host) (stage runs (Ask run (made_of reply))) (stage runs (Run (with_ask run reply))) (reply_reads plan own host is_spelled small notes short from since count runs run reply answered (omega (arith, short_run))) in
        let goes = subst (λ a. Goes plan own (Some host) (stage runs (Ask run a)) (stage runs (Run (with_ask run reply)))) (open_same ask now.1.reply now.1.after now.1.answered) read in
        let can_enter : CanEnter plan s = (one_root plan.deployment.troupes run.root now.0.began.root, some_procedure s.procedures run.procedure run.arguments now.0.began.takes) in
        let shorter : length (run.asks ++ reply ∷ []) < 2 ^ 32 = omega (arith, short_run, length-append run.asks (reply ∷ [])) in
        behind (stage runs (Ask run ask)) (stage runs (Run (with_ask run reply))) goes (run_endable runs (with_ask run reply) now.0.outcome now.0.began.takes within can_enter well.0 shorter answer asked (answered_last plan own s expected (from + length runs) 0 run.asks ask reply refl refl well.1))
