-- The lines of all runs of an active member are read, and its last line.
use Rattle.std.specs.List.{AllByRecursion}
use Rattle.std.specs.Fmt.{decimal}
use Rattle.std.proofs.Common.{◌≡◌, ◌∙◌, ℕ, ◌+◌, ◌-◌, ◌<◌, ◌≤◌, ◌^◌, true, nat_eq, ◌⊎◌, inl, inr, List, [], ◌∷◌, ◌++◌, length, codes, Some, None, option_map, refl, sym, ap, subst, arith, append_assoc, append-nil, length-append, eq-eqb}
use Rattle.circus_value.specs.ValueTree.{ValueTree}
use Rattle.circus_value.specs.Fits.{all_fit}
use Rattle.circus_value.specs.Shown.{shown_list}
use Rattle.circus_model.specs.declared.signature.Signature.{Signature}
use Rattle.circus_transfer.specs.declared.joiner.Joiner.TheVariants as joiner
use Rattle.circus_record.specs.declared.record.AskRecord.{AskRecord}
use Rattle.circus_record.specs.declared.record.RunRecord.{RunRecord}
use Rattle.circus_record.specs.declared.record.MemberRecord.{MemberRecord}
use Rattle.circus_record.specs.Line.{line, end_line}
use Rattle.circus_record.specs.MemberText.{asks_lines, ended_line, run_lines, runs_lines, now_line}
use Rattle.circus_performing.specs.Performing.{last_count}
use Rattle.circus_performing.specs.Record.{count_after}
use Rattle.circus_config.specs.declared.plan.Plan.{Plan}
use Rattle.circus_audit.specs.Possible.{IsEnded, IsWaiting, IsActive}
use Rattle.circus_audit.specs.declared.performed.Current.{Current}
use Rattle.circus_audit.specs.declared.performed.Current.TheVariants.{Nothing, Run, Ask}
use Rattle.circus_audit.specs.declared.noted.Noted.{Noted}
use Rattle.circus_audit.specs.declared.setting.Hosted.{Hosted}
use Rattle.circus_audit.specs.declared.stage.Stage.{Stage}
use Rattle.circus_audit.specs.declared.stage.Stage.TheVariants.{Runs, Done}
use Rattle.circus_audit.specs.Seen.Answers.{from_some, only_if}
use Rattle.circus_audit.specs.Seen.Lines.{run_ended, idle_read, waiting_read}
use Rattle.circus_audit.specs.Seen.Performing.{finish_record, with_ask}
use Rattle.circus_audit.specs.Seen.Reading.{after_line, stage_after}
use Rattle.circus_audit.proofs.SoundingEvents.{spelled}
use Rattle.circus_audit.proofs.SoundingTexts.{entry_line, made_line, runs_more, going_text, asked_text_more}
use Rattle.circus_audit.proofs.SoundingPerforming.{now_ended, now_waiting}
use Rattle.circus_audit.proofs.OneLine.{clean_both, decimal_clean, list_clean}
use Rattle.circus_audit.proofs.CompletingLines.{idle_complete, waiting_complete}
use Rattle.circus_audit.proofs.CompletingPlans.{IsSmall, IsSpelled, ends_so}
use Rattle.circus_audit.proofs.CompletingRows.{Reads, none_read, one_read, both_read, text_read, to_read}
use Rattle.circus_audit.proofs.CompletingPerforming.{begun_of, made_of, after_of, with_asks, ended_same, waiting_same, open_same, idle_row, waiting_row, place_at, run_reads, ask_reads, asks_read, end_reads}

-- asks that are counted with four bytes
abbrev pub HasFewAsks : RunRecord → Type 0
HasFewAsks run = length run.asks < 2 ^ 32

abbrev pub active_record : ℕ → ℕ → ℕ → List RunRecord → List ValueTree → MemberRecord
active_record from since count runs state = record { phase = joiner.Active from; from = from; active_at = since; count = count; runs = runs; state = state }

module _ (plan : Plan) (own : ℕ) (host : Hosted) (is_spelled : IsSpelled plan) (small : IsSmall (length plan.names) host.signature) (notes : List Noted) (short : length notes < 2 ^ 64) (from since count : ℕ) where
  abbrev s : Signature
  s = host.signature

  -- so many runs have ended, and this is performed
  abbrev stage : List RunRecord → Current → Stage
  stage runs current = Runs notes (record { from = from; since = since; count = count; runs = runs; current = current })

  -- ---- whole runs

  ended_reads : (runs : List RunRecord) (run : RunRecord) → IsEnded plan s (length notes) run → HasFewAsks run → from + length runs ≤ last_count → Reads plan own (Some host) (stage runs Nothing) (run_lines (spelled plan) (from + length runs) run) (stage (runs ++ run ∷ []) Nothing)
  ended_reads runs run is few within =
      let place = from + length runs in
      let begun = begun_of run in
      let asked = with_asks begun run.asks in
      let entry = entry_line (spelled plan) place run in
      let asks = asks_lines (spelled plan) 0 run.asks in
      let end = end_line place (Some is.step) is.after is.outcome is.state in
      let ended = run_ended asked (after_of is.step is.after) is.outcome is.state in
      let ends = ends_so s.procedures run.procedure is.outcome small.procedures is.ends in
      let same = ended_same run is.outcome is.state is.after is.step is.is_outcome is.is_state is.is_after is.is_step in
      let one = run_reads plan own host is_spelled small notes short from since count runs run is.began within in
      let two = asks_read plan own host is_spelled small notes short from since count runs begun 0 run.asks refl is.asks (omega (arith, few)) in
      let three = end_reads plan own host is_spelled small notes short from since count runs asked run.procedure is.after is.step is.outcome is.state refl ends is.fits is.ended is.clock within in
      let both = both_read plan own (Some host) (stage runs Nothing) (stage runs (Run begun)) (stage runs (Run asked)) entry asks one two in
      let all = both_read plan own (Some host) (stage runs Nothing) (stage runs (Run asked)) (stage (runs ++ ended ∷ []) Nothing) (entry ++ asks) end both three in
      let text : (entry ++ asks) ++ end ≡ run_lines (spelled plan) place run = λ i. (entry ++ asks) ++ ended_line place (sym is.is_outcome i) (sym is.is_state i) (sym is.is_after i) (sym is.is_step i) in
      text_read plan own (Some host) (stage runs Nothing) (stage (runs ++ run ∷ []) Nothing) ((entry ++ asks) ++ end) (run_lines (spelled plan) place run) text (to_read plan own (Some host) (stage runs Nothing) (stage (runs ++ ended ∷ []) Nothing) (stage (runs ++ run ∷ []) Nothing) ((entry ++ asks) ++ end) (ap (λ r. stage (runs ++ r ∷ []) Nothing) same) all)

  pub runs_read : (done : List RunRecord) (place : ℕ) (runs : List RunRecord) → place ≡ from + length done → AllByRecursion (IsEnded plan s (length notes)) runs → AllByRecursion HasFewAsks runs → place + length runs ≤ last_count + 1 → Reads plan own (Some host) (stage done Nothing) (runs_lines (spelled plan) place runs) (stage (done ++ runs) Nothing)
  runs_read done place [] at all few within = to_read plan own (Some host) (stage done Nothing) (stage done Nothing) (stage (done ++ []) Nothing) [] (ap (λ rs. stage rs Nothing) (sym (append-nil done))) (none_read plan own (Some host) (stage done Nothing))
  runs_read done place (run ∷ runs) at all few within =
      let first = text_read plan own (Some host) (stage done Nothing) (stage (done ++ run ∷ []) Nothing) (run_lines (spelled plan) (from + length done) run) (run_lines (spelled plan) place run) (ap (λ k. run_lines (spelled plan) k run) (sym at)) (ended_reads done run all.0 few.0 (omega (arith, at, within))) in
      let next : place + 1 ≡ from + length (done ++ run ∷ []) = omega (arith, at, length-append done (run ∷ [])) in
      let later = runs_read (done ++ run ∷ []) (place + 1) runs next all.1 few.1 (omega (arith, within)) in
      let mid = stage (done ++ run ∷ []) Nothing in
      both_read plan own (Some host) (stage done Nothing) mid (stage (done ++ run ∷ runs) Nothing) (run_lines (spelled plan) place run) (runs_lines (spelled plan) (place + 1) runs) first (to_read plan own (Some host) mid (stage ((done ++ run ∷ []) ++ runs) Nothing) (stage (done ++ run ∷ runs) Nothing) (runs_lines (spelled plan) (place + 1) runs) (ap (λ rs. stage rs Nothing) (append_assoc done (run ∷ []) runs)) later)

  -- the last run, which waits
  waits_read : (runs : List RunRecord) (run : RunRecord) → (is : IsWaiting plan s (length notes) run) → HasFewAsks run → from + length runs ≤ last_count → Reads plan own (Some host) (stage runs Nothing) (run_lines (spelled plan) (from + length runs) run) (stage runs (Ask (with_asks (begun_of run) is.before) is.last))
  waits_read runs run is few within =
      let place = from + length runs in
      let begun = begun_of run in
      let asked = with_asks begun is.before in
      let entry = entry_line (spelled plan) place run in
      let asks = asks_lines (spelled plan) 0 is.before in
      let made = made_line (spelled plan) (length is.before) is.last in
      let count_is : length run.asks ≡ length is.before + 1 = ap length is.asks ∙ length-append is.before (is.last ∷ []) in
      let open_one = open_same is.last is.waits.reply is.waits.after is.waits.answered in
      let one = run_reads plan own host is_spelled small notes short from since count runs run is.began within in
      let two = asks_read plan own host is_spelled small notes short from since count runs begun 0 is.before refl is.answered (omega (arith, few, count_is)) in
      let three = ask_reads plan own host is_spelled small notes short from since count runs asked is.last is.waits.made (omega (arith, few, count_is)) in
      let both = both_read plan own (Some host) (stage runs Nothing) (stage runs (Run begun)) (stage runs (Run asked)) entry asks one two in
      let all = both_read plan own (Some host) (stage runs Nothing) (stage runs (Run asked)) (stage runs (Ask asked (made_of is.last))) (entry ++ asks) made both three in
      let same = waiting_same run (is.before ++ is.last ∷ []) is.asks is.outcome is.state is.after is.ended in
      let text : (entry ++ asks) ++ made ≡ run_lines (spelled plan) place run =
      ap (λ t. t ++ made) (sym (going_text (spelled plan) place asked refl)) ∙ sym (asked_text_more (spelled plan) place asked is.last refl is.waits.reply) ∙ ap (run_lines (spelled plan) place) same in
      text_read plan own (Some host) (stage runs Nothing) (stage runs (Ask asked is.last)) ((entry ++ asks) ++ made) (run_lines (spelled plan) place run) text (to_read plan own (Some host) (stage runs Nothing) (stage runs (Ask asked (made_of is.last))) (stage runs (Ask asked is.last)) ((entry ++ asks) ++ made) (ap (λ a. stage runs (Ask asked a)) open_one) all)

  -- ---- the last line

  -- of a member that is idle
  pub idle_row_reads : (runs : List RunRecord) (state : List ValueTree) → count ≡ count_after from (length runs) → all_fit s.variables state ≡ true → Reads plan own (Some host) (stage runs Nothing) (line (codes "now idle" ++ (codes " state " ++ shown_list state))) (Done notes (Some (active_record from since count runs state)) None)
  idle_row_reads runs state counted fits =
      let kept = active_record from since count runs state in
      let inner = codes " state " ++ shown_list state in
      let row = codes "now idle" ++ inner in
      let read : stage_after plan own (Some host) (stage runs Nothing) row ≡ Some (Done notes (Some kept) None) =
      ap (λ t. option_map (after_line notes) (only_if t (option_map (finish_record from since count runs) (idle_read s inner)))) (eq-eqb (count_after from (length runs)) count (sym counted))
      ∙ ap (λ r. option_map (after_line notes) (option_map (finish_record from since count runs) r)) (idle_complete s state fits) in
      one_read plan own (Some host) (stage runs Nothing) row (Done notes (Some kept) None) (clean_both (codes "now idle") inner refl (clean_both (codes " state ") (shown_list state) refl (list_clean state))) read

  idle_reads : (runs : List RunRecord) (state : List ValueTree) → AllByRecursion (IsEnded plan s (length notes)) runs → count ≡ count_after from (length runs) → all_fit s.variables state ≡ true → Reads plan own (Some host) (stage runs Nothing) (now_line (active_record from since count runs state)) (Done notes (Some (active_record from since count runs state)) None)
  idle_reads runs state all counted fits =
      let kept = active_record from since count runs state in
      let inner = codes " state " ++ shown_list state in
      let row = codes "now idle" ++ inner in
      let said : line row ≡ now_line kept =
      ap line (idle_row (codes "now ") (codes "idle") (codes " state ") (shown_list state)) ∙ ap (λ x. line (((codes "now " ++ x) ++ codes " state ") ++ shown_list state)) (sym (now_ended plan s (length notes) runs all)) in
      text_read plan own (Some host) (stage runs Nothing) (Done notes (Some kept) None) (line row) (now_line kept) said (idle_row_reads runs state counted fits)

  pub waiting_reads : (runs : List RunRecord) (run : RunRecord) (ask : AskRecord) (state : List ValueTree) → run.outcome ≡ None → from + length runs ≤ last_count → count ≡ from + length runs → length run.asks < 2 ^ 32 → all_fit s.variables state ≡ true → Reads plan own (Some host) (stage runs (Ask run ask)) (now_line (active_record from since count (runs ++ with_ask run ask ∷ []) state)) (Done notes (Some (active_record from since count (runs ++ with_ask run ask ∷ []) state)) None)
  waiting_reads runs run ask state none within counted few fits =
      let place = from + length runs in
      let all = runs ++ with_ask run ask ∷ [] in
      let kept = active_record from since count all state in
      let number = length run.asks in
      let inner = decimal number ++ (codes " state " ++ shown_list state) in
      let row = codes "now waiting ask " ++ inner in
      let read : stage_after plan own (Some host) (stage runs (Ask run ask)) row ≡ Some (Done notes (Some kept) None) =
      ap (λ r. option_map (after_line notes) (from_some r (λ p. only_if (nat_eq p count) (option_map (finish_record from since count all) (waiting_read s number inner))))) (place_at plan own host is_spelled small notes short from since count runs within)
      ∙ ap (λ t. option_map (after_line notes) (only_if t (option_map (finish_record from since count all) (waiting_read s number inner)))) (eq-eqb place count (sym counted))
      ∙ ap (λ r. option_map (after_line notes) (option_map (finish_record from since count all) r)) (waiting_complete s number state few fits) in
      let said : line row ≡ now_line kept =
      ap line (waiting_row (codes "now ") (codes "waiting ask ") (decimal number) (codes " state ") (shown_list state)) ∙ ap (λ x. line (((codes "now " ++ x) ++ codes " state ") ++ shown_list state)) (sym (now_waiting plan s (length notes) runs run ask none)) in
      text_read plan own (Some host) (stage runs (Ask run ask)) (Done notes (Some kept) None) (line row) (now_line kept) said (one_read plan own (Some host) (stage runs (Ask run ask)) row (Done notes (Some kept) None) (clean_both (codes "now waiting ask ") inner refl (clean_both (decimal number) (codes " state " ++ shown_list state) (decimal_clean number) (clean_both (codes " state ") (shown_list state) refl (list_clean state)))) read)

  -- ---- all of them

  few_front : (xs ys : List RunRecord) → AllByRecursion HasFewAsks (xs ++ ys) → AllByRecursion HasFewAsks xs × AllByRecursion HasFewAsks ys
  few_front [] ys all = (tt, all)
  few_front (x ∷ xs) ys all = let later = few_front xs ys all.1 in ((all.0, later.0), later.1)

  ended_whole : (runs : List RunRecord) (state : List ValueTree) → AllByRecursion (IsEnded plan s (length notes)) runs → AllByRecursion HasFewAsks runs → from + length runs ≤ last_count + 1 → count ≡ count_after from (length runs) → all_fit s.variables state ≡ true → Reads plan own (Some host) (stage [] Nothing) (runs_lines (spelled plan) from runs ++ now_line (active_record from since count runs state)) (Done notes (Some (active_record from since count runs state)) None)
  ended_whole runs state all few within counted fits =
      let kept = active_record from since count runs state in
      let here : from ≡ from + 0 = omega arith in
      both_read plan own (Some host) (stage [] Nothing) (stage runs Nothing) (Done notes (Some kept) None) (runs_lines (spelled plan) from runs) (now_line kept) (runs_read [] from runs here all few within) (idle_reads runs state all counted fits)

  waiting_whole : (runs : List RunRecord) (run : RunRecord) (state : List ValueTree) → AllByRecursion (IsEnded plan s (length notes)) runs → IsWaiting plan s (length notes) run → AllByRecursion HasFewAsks (runs ++ run ∷ []) → from + length (runs ++ run ∷ []) ≤ last_count + 1 → count ≡ count_after from (length runs) → all_fit s.variables state ≡ true → Reads plan own (Some host) (stage [] Nothing) (runs_lines (spelled plan) from (runs ++ run ∷ []) ++ now_line (active_record from since count (runs ++ run ∷ []) state)) (Done notes (Some (active_record from since count (runs ++ run ∷ []) state)) None)
  waiting_whole runs run state all is few within counted fits =
      let whole = runs ++ run ∷ [] in
      let kept = active_record from since count whole state in
      let asked = with_asks (begun_of run) is.before in
      let place = from + length runs in
      let here : from ≡ from + 0 = omega arith in
      let fewer = few_front runs (run ∷ []) few in
      let inside : place ≤ last_count = omega (arith, within, length-append runs (run ∷ [])) in
      let number : length is.before < 2 ^ 32 = omega (arith, fewer.1.0, ap length is.asks, length-append is.before (is.last ∷ [])) in
      let one = runs_read [] from runs here all fewer.0 (omega (arith, inside)) in
      let two = waits_read runs run is fewer.1.0 inside in
      let same = waiting_same run (is.before ++ is.last ∷ []) is.asks is.outcome is.state is.after is.ended in
      let last = waiting_reads runs asked is.last state refl inside (omega (arith, counted, inside)) number fits in
      let three = subst (λ r. Reads plan own (Some host) (stage runs (Ask asked is.last)) (now_line (active_record from since count (runs ++ r ∷ []) state)) (Done notes (Some (active_record from since count (runs ++ r ∷ []) state)) None)) same last in
      let both = both_read plan own (Some host) (stage [] Nothing) (stage runs Nothing) (stage runs (Ask asked is.last)) (runs_lines (spelled plan) from runs) (run_lines (spelled plan) place run) one two in
      let lines = text_read plan own (Some host) (stage [] Nothing) (stage runs (Ask asked is.last)) (runs_lines (spelled plan) from runs ++ run_lines (spelled plan) place run) (runs_lines (spelled plan) from whole) (sym (runs_more (spelled plan) from runs run)) both in
      both_read plan own (Some host) (stage [] Nothing) (stage runs (Ask asked is.last)) (Done notes (Some kept) None) (runs_lines (spelled plan) from whole) (now_line kept) lines three

  -- what an active member did, behind its first line
  pub active_read : (kept : MemberRecord) → IsActive plan s (length notes) from kept → kept.phase ≡ joiner.Active from → kept.active_at ≡ since → kept.count ≡ count → AllByRecursion HasFewAsks kept.runs → Reads plan own (Some host) (stage [] Nothing) (runs_lines (spelled plan) kept.from kept.runs ++ now_line kept) (Done notes (Some kept) None)
  active_read kept is phase since_is count_is few =
      let runs = is.runs in
      let are : active_record from since count kept.runs kept.state ≡ kept = λ i. record kept { phase = sym phase i; from = is.first i; active_at = sym since_is i; count = sym count_is i } in
      let inside : from + length kept.runs ≤ last_count + 1 = omega (arith, runs.few, is.first) in
      let counted : count ≡ count_after from (length runs.ended) = sym count_is ∙ runs.counted ∙ ap (λ n. count_after n (length runs.ended)) (sym is.first) in
      let goal = λ (k : MemberRecord). Reads plan own (Some host) (stage [] Nothing) (runs_lines (spelled plan) k.from k.runs ++ now_line k) (Done notes (Some k) None) in
      subst goal are (subst (λ rs. goal (active_record from since count rs kept.state)) (sym runs.are) (by_last runs.last runs.one (subst (λ rs. AllByRecursion HasFewAsks rs) runs.are few) (subst (λ (rs : List RunRecord). from + length rs ≤ last_count + 1) runs.are inside) counted))
    where
      by_last : (last : List RunRecord) → (last ≡ []) ⊎ ((run : RunRecord) × (last ≡ run ∷ []) × IsWaiting plan s (length notes) run) → AllByRecursion HasFewAsks (is.runs.ended ++ last) → from + length (is.runs.ended ++ last) ≤ last_count + 1 → count ≡ count_after from (length is.runs.ended) → Reads plan own (Some host) (stage [] Nothing) (runs_lines (spelled plan) from (is.runs.ended ++ last) ++ now_line (active_record from since count (is.runs.ended ++ last) kept.state)) (Done notes (Some (active_record from since count (is.runs.ended ++ last) kept.state)) None)
      by_last last (inl none) few_asks within counted =
          let whole : is.runs.ended ++ last ≡ is.runs.ended = ap (λ l. is.runs.ended ++ l) none ∙ append-nil is.runs.ended in
          subst (λ rs. Reads plan own (Some host) (stage [] Nothing) (runs_lines (spelled plan) from rs ++ now_line (active_record from since count rs kept.state)) (Done notes (Some (active_record from since count rs kept.state)) None)) (sym whole) (ended_whole is.runs.ended kept.state is.runs.each (few_front is.runs.ended last few_asks).0 (omega (arith, within, length-append is.runs.ended last)) counted is.state)
      by_last last (inr some) few_asks within counted =
          let whole : is.runs.ended ++ last ≡ is.runs.ended ++ some.0 ∷ [] = ap (λ l. is.runs.ended ++ l) some.1 in
          subst (λ rs. Reads plan own (Some host) (stage [] Nothing) (runs_lines (spelled plan) from rs ++ now_line (active_record from since count rs kept.state)) (Done notes (Some (active_record from since count rs kept.state)) None)) (sym whole) (waiting_whole is.runs.ended some.0 kept.state is.runs.each some.2 (subst (λ rs. AllByRecursion HasFewAsks rs) whole few_asks) (subst (λ (rs : List RunRecord). from + length rs ≤ last_count + 1) whole within) counted is.state)
