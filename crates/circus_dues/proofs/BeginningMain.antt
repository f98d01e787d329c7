-- The MAIN of a root, entered at boot: its thread has calls left, and it makes its first ask or ends.
use Rattle.std.proofs.Common.{◌≡◌, ℕ, ◌+◌, ◌⊎◌, inl, inr, true, false, if◌then◌else◌, List, [], ◌∷◌, map, take, None, Some, refl, ap, subst, ◌∙◌, arith}
use Rattle.std.specs.Prelude.{fold, drop, nat_eq, nat_le, unwrap_or}
use Rattle.std.specs.Cmp.Lexicographic.{pointwise, bytes_decides}
use Rattle.std.proofs.lemmas.Bool.{and_parts, and_from, eqb-true, eq-eqb, lt-leb}
use Rattle.circus_limits.specs.Limits.{most_calls}
use Rattle.circus_value.specs.ValueEquality.{values_eq, values_eq_decides}
use Rattle.circus_collate.specs.declared.view.View.{View}
use Rattle.circus_model.specs.Execution.{is_spent}
use Rattle.circus_record.specs.declared.record.AskRecord.{AskRecord}
use Rattle.circus_record.specs.declared.record.MemberRecord.{MemberRecord}
use Rattle.circus_record.specs.declared.record.RunRecord.{RunRecord}
use Rattle.circus_performing.specs.declared.start.RunStart.{RunStart}
use Rattle.circus_performing.specs.Performing.{clock_after}
use Rattle.circus_performing.specs.Record.{start_of, count_after}
use Rattle.circus_member_rules.specs.Step.{main_start}
use Rattle.circus_member_theory.specs.Timely.{IsMain}
use Rattle.circus_dues.specs.Dues.{IsLawful}
use Rattle.circus_dues.specs.WalkRecord.{RunsToEnd, RunsToWait, GoOn, GoesToEnd, GoesToWait, state_asked}
use Rattle.circus_dues.specs.Seen.Owing.{next_of}
use Rattle.circus_dues.specs.Seen.Steps.{is_start, is_entered, next_ask}
use Rattle.circus_dues.proofs.SoundOwing.{start_is}
use Rattle.circus_dues.proofs.WalkRecord.{record_goes}

-- ---- how it is entered

start_so : (run : RunRecord) (start : RunStart) → start_of run ≡ start → is_start run start ≡ true
start_so run start is =
    and_from (nat_eq run.root start.root) _ (eq-eqb run.root start.root (ap (λ (s : RunStart). s.root) is))
    (and_from (pointwise nat_eq run.path start.path) _ ((bytes_decides run.path start.path).1 (ap (λ (s : RunStart). s.path) is))
    (and_from (nat_eq run.procedure start.procedure) _ (eq-eqb run.procedure start.procedure (ap (λ (s : RunStart). s.procedure) is))
    (and_from (values_eq run.arguments start.arguments) _ ((values_eq_decides run.arguments start.arguments).1 (ap (λ (s : RunStart). s.arguments) is))
    ((bytes_decides run.entry start.clock).1 (ap (λ (s : RunStart). s.clock) is)))))

pub main_is : (troupe : ℕ) (boot : List View) (run : RunRecord) → is_entered run 0 (main_start troupe boot) ≡ true → IsMain troupe boot run
main_is troupe boot run is =
    let both = and_parts (nat_eq run.started 0) (is_start run (main_start troupe boot)) is in
    (eqb-true run.started 0 both.0, start_is run (main_start troupe boot) both.1)

pub is_main : (troupe : ℕ) (boot : List View) (run : RunRecord) → IsMain troupe boot run → is_entered run 0 (main_start troupe boot) ≡ true
is_main troupe boot run is =
    and_from (nat_eq run.started 0) (is_start run (main_start troupe boot)) (eq-eqb run.started 0 is.0) (start_so run (main_start troupe boot) is.1)

-- ---- its thread

none_counted : (views : List View) → fold (λ a x. a + x) 0 (map (λ _. 0) views) ≡ 0
none_counted [] = refl
none_counted (view ∷ views) = none_counted views

pub calls_left : (troupe : ℕ) (boot : List View) (run : RunRecord) → IsMain troupe boot run → is_spent run.entry ≡ false
calls_left troupe boot run is =
    ap (λ (s : RunStart). is_spent s.clock) is.1 ∙ ap (λ n. nat_le most_calls n) (none_counted boot) ∙ lt-leb most_calls 0 (omega arith)

-- ---- it asks first, or asks nothing

pub asks_none : (run : RunRecord) → run.asks ≡ [] → next_of run 0 ≡ None
asks_none run are = ap (λ l. next_ask 0 (clock_after run.entry (take 0 l)) (drop 0 l)) are

pub asks_first : (run : RunRecord) (ask : AskRecord) (more : List AskRecord) → run.asks ≡ ask ∷ more → is_spent run.entry ≡ false → next_of run 0 ≡ Some 0
asks_first run ask more are left =
    ap (λ l. next_ask 0 (clock_after run.entry (take 0 l)) (drop 0 l)) are ∙ ap (λ b. if b then next_ask 1 (unwrap_or ask.after run.entry) more else Some 0) left

-- where it asks nothing it ends at once
pub ends_at_once : (kept : MemberRecord) → IsLawful kept → (run : RunRecord) (rest : List RunRecord) → kept.runs ≡ run ∷ rest → run.asks ≡ [] → run.ended ≡ Some run.started
ends_at_once kept lawful run rest are none =
    by_run (subst (GoOn lawful.behaves kept 0 lawful.from) are (record_goes lawful.behaves lawful.from kept lawful.is))
  where
    by_run : (RunsToEnd lawful.behaves lawful.from run × GoOn lawful.behaves kept 1 (unwrap_or run.state lawful.from) rest)
        ⊎ (RunsToWait lawful.behaves lawful.from run × (rest ≡ []) × (kept.count ≡ count_after kept.from 0) × (kept.state ≡ state_asked lawful.from run.asks))
        → run.ended ≡ Some run.started
    by_run (inl ends) = (subst (GoesToEnd lawful.behaves lawful.from run [] run.entry run.started) none (ends.0.goes)).ended_is
    by_run (inr waits) = absurd (subst (GoesToWait lawful.behaves lawful.from run [] run.entry run.started) none (waits.0.goes))
