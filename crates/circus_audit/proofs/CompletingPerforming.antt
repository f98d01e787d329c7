-- The lines of what an active member did are read.
use Rattle.std.specs.List.{AllByRecursion}
use Rattle.std.specs.Fmt.{decimal}
use Rattle.std.proofs.Common.{◌≡◌, ◌∙◌, ℕ, ◌+◌, ◌-◌, ◌<◌, ◌≤◌, ◌^◌, true, cond, List, [], ◌∷◌, ◌++◌, length, codes, Some, None, option_map, refl, sym, ap, arith, append_assoc, append-nil, length-append, le-leb}
use Rattle.circus_value.specs.ValueTree.{ValueTree}
use Rattle.circus_value.specs.Fits.{all_fit}
use Rattle.circus_value.specs.Shown.{shown_list}
use Rattle.circus_value.specs.ThreadText.{clock_text, numbers_behind}
use Rattle.circus_value.specs.OutcomeText.{outcome_text}
use Rattle.circus_value.specs.declared.outcome.Outcome.{Outcome}
use Rattle.circus_model.specs.Lawful.{procedure_numbered}
use Rattle.circus_model.specs.declared.signature.Signature.{Signature}
use Rattle.circus_record.specs.declared.record.AskRecord.{AskRecord}
use Rattle.circus_record.specs.declared.record.RunRecord.{RunRecord}
use Rattle.circus_record.specs.Line.{line, reply_line, end_line}
use Rattle.circus_record.specs.MemberText.{answered_line, ask_lines, asks_lines}
use Rattle.circus_performing.specs.Performing.{last_count}
use Rattle.circus_config.specs.declared.plan.Plan.{Plan}
use Rattle.circus_audit.specs.Possible.{IsClock, IsAsk, IsAnswered, IsStarted}
use Rattle.circus_audit.specs.declared.member_line.Entered.{Entered}
use Rattle.circus_audit.specs.declared.member_line.Performs.{Performs}
use Rattle.circus_audit.specs.declared.member_line.Asked.{Asked}
use Rattle.circus_audit.specs.declared.member_line.After.{After}
use Rattle.circus_audit.specs.declared.performed.Current.{Current}
use Rattle.circus_audit.specs.declared.performed.Current.TheVariants.{Nothing, Run, Ask}
use Rattle.circus_audit.specs.declared.noted.Noted.{Noted}
use Rattle.circus_audit.specs.declared.setting.Hosted.{Hosted}
use Rattle.circus_audit.specs.declared.stage.Stage.{Stage}
use Rattle.circus_audit.specs.declared.stage.Stage.TheVariants.{Runs}
use Rattle.circus_audit.specs.Seen.Answers.{from_some}
use Rattle.circus_audit.specs.Seen.Names.{name_at}
use Rattle.circus_audit.specs.Seen.Lines.{run_begun, run_read, ask_made, answer_ask, run_ended, end_read}
use Rattle.circus_audit.specs.Seen.Performing.{place_behind, on_with, with_ask, with_ended}
use Rattle.circus_audit.specs.Seen.Reading.{after_line, stage_after}
use Rattle.circus_audit.proofs.SoundingEvents.{spelled}
use Rattle.circus_audit.proofs.SoundingRuns.{entered_text, performs_text}
use Rattle.circus_audit.proofs.SoundingAsks.{asked_text}
use Rattle.circus_audit.proofs.SoundingTexts.{entry_line, made_line}
use Rattle.circus_audit.proofs.OneLine.{is_clean, clean_both, decimal_clean, behind_clean, clock_clean, list_clean, outcome_clean}
use Rattle.circus_audit.proofs.CompletingNames.{name_clean}
use Rattle.circus_audit.proofs.CompletingLines.{run_complete, ask_complete, after_text, reply_complete, end_complete}
use Rattle.circus_audit.proofs.CompletingPlans.{IsSmall, IsSpelled, takes_so, wants_so, Ends, answers_so}
use Rattle.circus_audit.proofs.CompletingRows.{Reads, none_read, one_read, both_read, text_read, to_read}

-- ---- texts of lines, put together

run_row : (r a b c d e f g h i j k l : List ℕ) → r ++ (((a ++ (b ++ c)) ++ ((d ++ e) ++ f)) ++ ((g ++ h) ++ ((i ++ j) ++ (k ++ l)))) ≡ ((((r ++ a) ++ (b ++ c)) ++ d) ++ (e ++ f)) ++ (((((g ++ h) ++ i) ++ j) ++ k) ++ l)
run_row r a b c d e f g h i j k l = simp append_assoc

run_line_text : (x y n : List ℕ) → (x ++ y) ++ n ≡ x ++ (y ++ n)
run_line_text x y n = simp append_assoc

ask_row : (r a b c d e f g h i j k l m : List ℕ) → r ++ (((a ++ (b ++ c)) ++ ((d ++ e) ++ (f ++ g))) ++ ((h ++ i) ++ ((j ++ k) ++ (l ++ m)))) ≡ ((((((r ++ a) ++ (b ++ c)) ++ d) ++ e) ++ f) ++ g) ++ (((((h ++ i) ++ j) ++ k) ++ l) ++ m)
ask_row r a b c d e f g h i j k l m = simp append_assoc

reply_row : (r a b c d e f g : List ℕ) → r ++ (((a ++ (b ++ c)) ++ (d ++ e)) ++ (f ++ g)) ≡ (((((r ++ a) ++ (b ++ c)) ++ d) ++ e) ++ f) ++ g
reply_row r a b c d e f g = simp append_assoc

end_row : (r a b c d e f g h i : List ℕ) → r ++ (((a ++ (b ++ c)) ++ (d ++ e)) ++ ((f ++ g) ++ (h ++ i))) ≡ ((((r ++ a) ++ (b ++ c)) ++ d) ++ e) ++ (((f ++ g) ++ h) ++ i)
end_row r a b c d e f g h i = simp append_assoc

pub idle_row : (n i s x : List ℕ) → (n ++ i) ++ (s ++ x) ≡ ((n ++ i) ++ s) ++ x
idle_row n i s x = simp append_assoc

pub waiting_row : (n w d s x : List ℕ) → (n ++ w) ++ (d ++ (s ++ x)) ≡ ((n ++ (w ++ d)) ++ s) ++ x
waiting_row n w d s x = simp append_assoc

path_many : (path : List ℕ) → length path ≤ length (numbers_behind 46 path)
path_many [] = omega arith
path_many (n ∷ path) =
    let others = path_many path in
    omega (arith, others, length-append (decimal n) (numbers_behind 46 path))

-- ---- what is read first of a run, and of an ask

abbrev pub entered_of : RunRecord → Entered
entered_of run = record { started = run.started; root = run.root; path = run.path }

abbrev pub performs_of : RunRecord → Performs
performs_of run = record { procedure = run.procedure; entry = run.entry; arguments = run.arguments }

abbrev pub begun_of : RunRecord → RunRecord
begun_of run = run_begun (entered_of run) (performs_of run)

abbrev pub asked_of : AskRecord → Asked
asked_of ask = record { asked = ask.asked; callee = ask.callee; index = ask.index }

abbrev pub made_of : AskRecord → AskRecord
made_of ask = ask_made (asked_of ask) ask.procedure ask.arguments ask.state

abbrev pub after_of : ℕ → List ℕ → After
after_of step clock = record { step = step; clock = clock }

-- with these asks
abbrev pub with_asks : RunRecord → List AskRecord → RunRecord
with_asks run asks = record run { asks = run.asks ++ asks }

-- a run that has ended, from what was read of it
pub ended_same : (run : RunRecord) (outcome : Outcome) (state : List ValueTree) (after : List ℕ) (step : ℕ) → run.outcome ≡ Some outcome → run.state ≡ Some state → run.end ≡ Some after → run.ended ≡ Some step → run_ended (with_asks (begun_of run) run.asks) (after_of step after) outcome state ≡ run
ended_same run outcome state after step o s a e = λ i. record run { outcome = sym o i; state = sym s i; end = sym a i; ended = sym e i }

-- a run that waits
pub waiting_same : (run : RunRecord) (asks : List AskRecord) → run.asks ≡ asks → run.outcome ≡ None → run.state ≡ None → run.end ≡ None → run.ended ≡ None → with_asks (begun_of run) asks ≡ run
waiting_same run asks is o s a e = λ i. record run { asks = sym is i; outcome = sym o i; state = sym s i; end = sym a i; ended = sym e i }

-- an ask that was answered
answered_same : (ask : AskRecord) (reply : Outcome) (after : List ℕ) (step : ℕ) → ask.reply ≡ Some reply → ask.after ≡ Some after → ask.answered ≡ Some step → answer_ask (made_of ask) (after_of step after) reply ≡ ask
answered_same ask reply after step r a s = λ i. record ask { reply = sym r i; after = sym a i; answered = sym s i }

-- an open one
pub open_same : (ask : AskRecord) → ask.reply ≡ None → ask.after ≡ None → ask.answered ≡ None → made_of ask ≡ ask
open_same ask r a s = λ i. record ask { reply = sym r i; after = sym a i; answered = sym s i }

module _ (plan : Plan) (own : ℕ) (host : Hosted) (is_spelled : IsSpelled plan) (small : IsSmall (length plan.names) host.signature) (notes : List Noted) (short : length notes < 2 ^ 64) where
  abbrev doing : ℕ → ℕ → ℕ → List RunRecord → Current → Stage
  doing from since count runs current = Runs notes (record { from = from; since = since; count = count; runs = runs; current = current })

  abbrev s : Signature
  s = host.signature

  module _ (from since count : ℕ) where
    pub place_at : (runs : List RunRecord) → from + length runs ≤ last_count → place_behind from (length runs) ≡ Some (from + length runs)
    place_at runs few = ap (λ t. cond t (Some (from + length runs)) None) (le-leb (from + length runs) 4294967295 few)

    -- ---- a run begins

    run_clean : (place : ℕ) (run : RunRecord) → run.root < length plan.names → is_clean (entered_text plan.names place (entered_of run) ++ performs_text (performs_of run)) ≡ true
    run_clean place run within =
        let number = decimal place ++ (codes " step " ++ decimal run.started) in
        let path = (codes " path " ++ name_at plan.names run.root) ++ numbers_behind 46 run.path in
        let clock = codes " clock " ++ clock_text run.entry in
        let arguments = codes " arguments " ++ shown_list run.arguments in
        clean_both (number ++ path) (performs_text (performs_of run))
        (clean_both number path (clean_both (decimal place) (codes " step " ++ decimal run.started) (decimal_clean place) (clean_both (codes " step ") (decimal run.started) refl (decimal_clean run.started))) (clean_both (codes " path " ++ name_at plan.names run.root) (numbers_behind 46 run.path) (clean_both (codes " path ") (name_at plan.names run.root) refl (name_clean plan.names is_spelled.modules run.root within)) (behind_clean 46 run.path refl)))
        (clean_both (codes " procedure " ++ decimal run.procedure) (clock ++ arguments) (clean_both (codes " procedure ") (decimal run.procedure) refl (decimal_clean run.procedure)) (clean_both clock arguments (clean_both (codes " clock ") (clock_text run.entry) refl (clock_clean run.entry)) (clean_both (codes " arguments ") (shown_list run.arguments) refl (list_clean run.arguments))))

    run_text : (place : ℕ) (run : RunRecord) → line (codes "run " ++ (entered_text plan.names place (entered_of run) ++ performs_text (performs_of run))) ≡ entry_line (spelled plan) place run
    run_text place run =
        let head = (((codes "run " ++ decimal place) ++ (codes " step " ++ decimal run.started)) ++ codes " path ") ++ (name_at plan.names run.root ++ numbers_behind 46 run.path) in
        let rest = ((((codes " procedure " ++ decimal run.procedure) ++ codes " clock ") ++ clock_text run.entry) ++ codes " arguments ") ++ shown_list run.arguments in
        ap line (run_row (codes "run ") (decimal place) (codes " step ") (decimal run.started) (codes " path ") (name_at plan.names run.root) (numbers_behind 46 run.path) (codes " procedure ") (decimal run.procedure) (codes " clock ") (clock_text run.entry) (codes " arguments ") (shown_list run.arguments))
        ∙ run_line_text head rest (10 ∷ [])

    pub run_reads : (runs : List RunRecord) (run : RunRecord) → IsStarted plan s (length notes) run → from + length runs ≤ last_count → Reads plan own (Some host) (doing from since count runs Nothing) (entry_line (spelled plan) (from + length runs) run) (doing from since count runs (Run (begun_of run)))
    run_reads runs run is few =
        let place = from + length runs in
        let inner = entered_text plan.names place (entered_of run) ++ performs_text (performs_of run) in
        let row = codes "run " ++ inner in
        let root = is_spelled.roots run.root is.root in
        let takes = takes_so s.procedures run.procedure run.arguments small.procedures is.takes in
        let path = numbers_behind 46 run.path in
        let many : length run.path ≤ length row = omega (arith, path_many run.path, length-append (codes "run ") inner, length-append (entered_text plan.names place (entered_of run)) (performs_text (performs_of run)), length-append (decimal place ++ (codes " step " ++ decimal run.started)) ((codes " path " ++ name_at plan.names run.root) ++ path), length-append (codes " path " ++ name_at plan.names run.root) path) in
        let made = λ (r : RunRecord). on_with (record { from = from; since = since; count = count; runs = runs; current = Nothing }) (Run r) in
        let read : stage_after plan own (Some host) (doing from since count runs Nothing) row ≡ Some (doing from since count runs (Run (begun_of run))) =
        ap (λ r. option_map (after_line notes) (from_some r (λ p. option_map made (run_read plan.names plan.deployment s (length notes) (length row) p inner)))) (place_at runs few)
        ∙ ap (λ r. option_map (after_line notes) (option_map made r)) (run_complete plan.names plan.deployment s takes.shape (length notes) (length row) place is_spelled.modules (omega (arith, few)) short (entered_of run) (performs_of run) (is.started, (root, is.root), is.path) many (takes.few, is.clock, takes.is_shape, takes.fit)) in
        text_read plan own (Some host) (doing from since count runs Nothing) (doing from since count runs (Run (begun_of run))) (line row) (entry_line (spelled plan) place run) (run_text place run) (one_read plan own (Some host) (doing from since count runs Nothing) row (doing from since count runs (Run (begun_of run))) (clean_both (codes "run ") inner refl (run_clean place run root)) read)

    -- ---- asks

    pub ask_reads : (runs : List RunRecord) (run : RunRecord) (ask : AskRecord) → IsAsk plan s (length notes) ask → length run.asks < 2 ^ 32 → Reads plan own (Some host) (doing from since count runs (Run run)) (made_line (spelled plan) (length run.asks) ask) (doing from since count runs (Ask run (made_of ask)))
    ask_reads runs run ask is few =
        let number = length run.asks in
        let wants = wants_so (length plan.names) s.imports ask.callee ask.procedure ask.arguments small.imports is.takes in
        let head = asked_text plan.names number (asked_of ask) in
        let word = codes " procedure " ++ decimal ask.procedure in
        let arguments = codes " arguments " ++ shown_list ask.arguments in
        let state = codes " state " ++ shown_list ask.state in
        let inner = head ++ (word ++ (arguments ++ state)) in
        let row = codes "ask " ++ inner in
        let step = decimal number ++ (codes " step " ++ decimal ask.asked) in
        let callee = codes " to " ++ name_at plan.names ask.callee in
        let index = codes " index " ++ decimal ask.index in
        let clean = clean_both (codes "ask ") inner refl (clean_both head (word ++ (arguments ++ state)) (clean_both step (callee ++ index) (clean_both (decimal number) (codes " step " ++ decimal ask.asked) (decimal_clean number) (clean_both (codes " step ") (decimal ask.asked) refl (decimal_clean ask.asked))) (clean_both callee index (clean_both (codes " to ") (name_at plan.names ask.callee) refl (name_clean plan.names is_spelled.modules ask.callee wants.callee_few)) (clean_both (codes " index ") (decimal ask.index) refl (decimal_clean ask.index)))) (clean_both word (arguments ++ state) (clean_both (codes " procedure ") (decimal ask.procedure) refl (decimal_clean ask.procedure)) (clean_both arguments state (clean_both (codes " arguments ") (shown_list ask.arguments) refl (list_clean ask.arguments)) (clean_both (codes " state ") (shown_list ask.state) refl (list_clean ask.state))))) in
        let made = λ (a : AskRecord). on_with (record { from = from; since = since; count = count; runs = runs; current = Nothing }) (Ask run a) in
        let read : stage_after plan own (Some host) (doing from since count runs (Run run)) row ≡ Some (doing from since count runs (Ask run (made_of ask))) =
        ap (λ r. option_map (after_line notes) (option_map made r)) (ask_complete plan.names s (length notes) number (asked_of ask) wants.shape ask.procedure ask.arguments ask.state is_spelled.modules few short (is.asked, wants.callee_few, is.index) wants.few wants.is_shape wants.fit is.state) in
        let text = ap line (ask_row (codes "ask ") (decimal number) (codes " step ") (decimal ask.asked) (codes " to ") (name_at plan.names ask.callee) (codes " index ") (decimal ask.index) (codes " procedure ") (decimal ask.procedure) (codes " arguments ") (shown_list ask.arguments) (codes " state ") (shown_list ask.state)) ∙ run_line_text (((((codes "ask " ++ decimal number) ++ (codes " step " ++ decimal ask.asked)) ++ codes " to ") ++ name_at plan.names ask.callee ++ codes " index ") ++ decimal ask.index) (((((codes " procedure " ++ decimal ask.procedure) ++ codes " arguments ") ++ shown_list ask.arguments) ++ codes " state ") ++ shown_list ask.state) (10 ∷ []) in
        text_read plan own (Some host) (doing from since count runs (Run run)) (doing from since count runs (Ask run (made_of ask))) (line row) (made_line (spelled plan) number ask) text (one_read plan own (Some host) (doing from since count runs (Run run)) row (doing from since count runs (Ask run (made_of ask))) clean read)

    after_clean : (number step : ℕ) (clock : List ℕ) → is_clean (after_text number (after_of step clock)) ≡ true
    after_clean number step clock =
        clean_both (decimal number ++ (codes " step " ++ decimal step)) (codes " clock " ++ clock_text clock) (clean_both (decimal number) (codes " step " ++ decimal step) (decimal_clean number) (clean_both (codes " step ") (decimal step) refl (decimal_clean step))) (clean_both (codes " clock ") (clock_text clock) refl (clock_clean clock))

    pub reply_reads : (runs : List RunRecord) (run : RunRecord) (ask : AskRecord) → (is : IsAnswered plan s (length notes) ask) → length run.asks < 2 ^ 32 → Reads plan own (Some host) (doing from since count runs (Ask run (made_of ask))) (reply_line (length run.asks) (Some is.step) is.after is.reply) (doing from since count runs (Run (with_ask run ask)))
    reply_reads runs run ask is few =
        let number = length run.asks in
        let after = after_of is.step is.after in
        let answers = answers_so (length plan.names) s.imports ask.callee ask.procedure is.reply small.imports is.answers in
        let said = codes " " ++ outcome_text is.reply in
        let inner = after_text number after ++ said in
        let row = codes "reply " ++ inner in
        let clean = clean_both (codes "reply ") inner refl (clean_both (after_text number after) said (after_clean number is.step is.after) (clean_both (codes " ") (outcome_text is.reply) refl (outcome_clean is.reply))) in
        let made = λ (a : AskRecord). on_with (record { from = from; since = since; count = count; runs = runs; current = Nothing }) (Run (with_ask run a)) in
        let whole = answered_same ask is.reply is.after is.step is.is_reply is.is_after is.is_step in
        let read : stage_after plan own (Some host) (doing from since count runs (Ask run (made_of ask))) row ≡ Some (doing from since count runs (Run (with_ask run ask))) =
        ap (λ r. option_map (after_line notes) (option_map made r)) (reply_complete (length plan.names) s (length notes) number (made_of ask) after answers.shape is.reply few short (is.answered, is.clock.0, is.clock.1) answers.is_shape answers.can)
        ∙ ap (λ a. Some (doing from since count runs (Run (with_ask run a)))) whole in
        text_read plan own (Some host) (doing from since count runs (Ask run (made_of ask))) (doing from since count runs (Run (with_ask run ask))) (line row) (reply_line number (Some is.step) is.after is.reply) (ap line (reply_row (codes "reply ") (decimal number) (codes " step ") (decimal is.step) (codes " clock ") (clock_text is.after) (codes " ") (outcome_text is.reply))) (one_read plan own (Some host) (doing from since count runs (Ask run (made_of ask))) row (doing from since count runs (Run (with_ask run ask))) clean read)

    ask_text : (number : ℕ) (ask : AskRecord) → (is : IsAnswered plan s (length notes) ask) → ask_lines (spelled plan) number ask ≡ made_line (spelled plan) number ask ++ reply_line number (Some is.step) is.after is.reply
    ask_text number ask is = λ i. made_line (spelled plan) number ask ++ answered_line number (is.is_reply i) (is.is_after i) (is.is_step i)

    -- an ask and its reply
    answered_reads : (runs : List RunRecord) (run : RunRecord) (ask : AskRecord) → IsAnswered plan s (length notes) ask → length run.asks < 2 ^ 32 → Reads plan own (Some host) (doing from since count runs (Run run)) (ask_lines (spelled plan) (length run.asks) ask) (doing from since count runs (Run (with_ask run ask)))
    answered_reads runs run ask is few =
        let number = length run.asks in
        text_read plan own (Some host) (doing from since count runs (Run run)) (doing from since count runs (Run (with_ask run ask))) (made_line (spelled plan) number ask ++ reply_line number (Some is.step) is.after is.reply) (ask_lines (spelled plan) number ask) (sym (ask_text number ask is)) (both_read plan own (Some host) (doing from since count runs (Run run)) (doing from since count runs (Ask run (made_of ask))) (doing from since count runs (Run (with_ask run ask))) (made_line (spelled plan) number ask) (reply_line number (Some is.step) is.after is.reply) (ask_reads runs run ask is.made few) (reply_reads runs run ask is few))

    abbrev going : List RunRecord → RunRecord → List AskRecord → Stage
    going runs run asks = doing from since count runs (Run (with_asks run asks))

    pub asks_read : (runs : List RunRecord) (run : RunRecord) (number : ℕ) (asks : List AskRecord) → number ≡ length run.asks → AllByRecursion (IsAnswered plan s (length notes)) asks → number + length asks ≤ 2 ^ 32 → Reads plan own (Some host) (doing from since count runs (Run run)) (asks_lines (spelled plan) number asks) (going runs run asks)
    asks_read runs run number [] is all few = to_read plan own (Some host) (doing from since count runs (Run run)) (doing from since count runs (Run run)) (going runs run []) [] (ap (λ xs. doing from since count runs (Run (record run { asks = xs }))) (sym (append-nil run.asks))) (none_read plan own (Some host) (doing from since count runs (Run run)))
    asks_read runs run number (ask ∷ asks) is all few =
        let first = answered_reads runs run ask all.0 (omega (arith, is, few)) in
        let here = text_read plan own (Some host) (doing from since count runs (Run run)) (doing from since count runs (Run (with_ask run ask))) (ask_lines (spelled plan) (length run.asks) ask) (ask_lines (spelled plan) number ask) (ap (λ k. ask_lines (spelled plan) k ask) (sym is)) first in
        let longer : number + 1 ≡ length (run.asks ++ ask ∷ []) = omega (arith, is, length-append run.asks (ask ∷ [])) in
        let later = asks_read runs (with_ask run ask) (number + 1) asks longer all.1 (omega (arith, few)) in
        both_read plan own (Some host) (doing from since count runs (Run run)) (doing from since count runs (Run (with_ask run ask))) (going runs run (ask ∷ asks)) (ask_lines (spelled plan) number ask) (asks_lines (spelled plan) (number + 1) asks) here (to_read plan own (Some host) (doing from since count runs (Run (with_ask run ask))) (going runs (with_ask run ask) asks) (going runs run (ask ∷ asks)) (asks_lines (spelled plan) (number + 1) asks) (ap (λ xs. doing from since count runs (Run (record run { asks = xs }))) (append_assoc run.asks (ask ∷ []) asks)) later)

    -- ---- ends

    pub end_reads : (runs : List RunRecord) (run : RunRecord) (procedure : ℕ) (after : List ℕ) (step : ℕ) (outcome : Outcome) (state : List ValueTree) → run.procedure ≡ procedure → Ends s.procedures procedure outcome → all_fit s.variables state ≡ true → step < length notes → IsClock plan after → from + length runs ≤ last_count → Reads plan own (Some host) (doing from since count runs (Run run)) (end_line (from + length runs) (Some step) after outcome state) (doing from since count (runs ++ run_ended run (after_of step after) outcome state ∷ []) Nothing)
    end_reads runs run procedure after step outcome state named ends fits within clock few =
        let place = from + length runs in
        let at = after_of step after in
        let said = (codes " " ++ outcome_text outcome) ++ (codes " state " ++ shown_list state) in
        let inner = after_text place at ++ said in
        let row = codes "end " ++ inner in
        let next = doing from since count (runs ++ run_ended run at outcome state ∷ []) Nothing in
        let clean = clean_both (codes "end ") inner refl (clean_both (after_text place at) said (after_clean place step after) (clean_both (codes " " ++ outcome_text outcome) (codes " state " ++ shown_list state) (clean_both (codes " ") (outcome_text outcome) refl (outcome_clean outcome)) (clean_both (codes " state ") (shown_list state) refl (list_clean state)))) in
        let made = with_ended (record { from = from; since = since; count = count; runs = runs; current = Nothing }) in
        let shape = ap (λ n. procedure_numbered n s.procedures) named ∙ ends.is_shape in
        let read : stage_after plan own (Some host) (doing from since count runs (Run run)) row ≡ Some next =
        ap (λ r. option_map (after_line notes) (from_some r (λ p. option_map made (end_read (length plan.names) s (length notes) p run inner)))) (place_at runs few)
        ∙ ap (λ r. option_map (after_line notes) (option_map made r)) (end_complete (length plan.names) s (length notes) place run at ends.shape outcome state (omega (arith, few)) short (within, clock.0, clock.1) shape ends.can fits) in
        let text = ap line (end_row (codes "end ") (decimal place) (codes " step ") (decimal step) (codes " clock ") (clock_text after) (codes " ") (outcome_text outcome) (codes " state ") (shown_list state)) ∙ run_line_text ((((codes "end " ++ decimal place) ++ (codes " step " ++ decimal step)) ++ codes " clock ") ++ clock_text after) (((codes " " ++ outcome_text outcome) ++ codes " state ") ++ shown_list state) (10 ∷ []) in
        text_read plan own (Some host) (doing from since count runs (Run run)) next (line row) (end_line place (Some step) after outcome state) text (one_read plan own (Some host) (doing from since count runs (Run run)) row next clean read)
