-- The lines of a member with one more run, ask, reply or end.
use Rattle.std.proofs.Common.{◌≡◌, ◌∙◌, ℕ, ◌+◌, List, [], ◌∷◌, ◌++◌, length, Some, None, sym, ap, arith, append_assoc, append-nil}
use Rattle.circus_value.specs.ValueTree.{ValueTree}
use Rattle.circus_value.specs.declared.outcome.Outcome.{Outcome}
use Rattle.circus_record.specs.Line.{run_line, ask_line, reply_line, end_line}
use Rattle.circus_record.specs.Naming.{Names}
use Rattle.circus_record.specs.MemberText.{answered_line, ask_lines, asks_lines, ended_line, run_lines, runs_lines}
use Rattle.circus_record.specs.declared.record.AskRecord.{AskRecord}
use Rattle.circus_record.specs.declared.record.RunRecord.{RunRecord}
use Rattle.circus_audit.specs.declared.member_line.After.{After}
use Rattle.circus_audit.specs.Seen.Lines.{answer_ask, run_ended}
use Rattle.circus_audit.specs.Seen.Performing.{with_ask}

pub runs_more : (names : Names) (from : ℕ) (runs : List RunRecord) (run : RunRecord) → runs_lines names from (runs ++ run ∷ []) ≡ runs_lines names from runs ++ run_lines names (from + length runs) run
runs_more names from [] run =
    let here : from ≡ from + 0 = omega arith in
    append-nil (run_lines names from run) ∙ ap (λ n. run_lines names n run) here
runs_more names from (first ∷ runs) run =
    let here : from + 1 + length runs ≡ from + length (first ∷ runs) = omega arith in
    ap (λ x. run_lines names from first ++ x) (runs_more names (from + 1) runs run)
    ∙ sym (append_assoc (run_lines names from first) (runs_lines names (from + 1) runs) (run_lines names (from + 1 + length runs) run))
    ∙ ap (λ n. (run_lines names from first ++ runs_lines names (from + 1) runs) ++ run_lines names n run) here

asks_later : (names : Names) (number : ℕ) (asks : List AskRecord) (ask : AskRecord) → asks_lines names number (asks ++ ask ∷ []) ≡ asks_lines names number asks ++ ask_lines names (number + length asks) ask
asks_later names number [] ask =
    let here : number ≡ number + 0 = omega arith in
    append-nil (ask_lines names number ask) ∙ ap (λ n. ask_lines names n ask) here
asks_later names number (first ∷ asks) ask =
    let here : number + 1 + length asks ≡ number + length (first ∷ asks) = omega arith in
    ap (λ x. ask_lines names number first ++ x) (asks_later names (number + 1) asks ask)
    ∙ sym (append_assoc (ask_lines names number first) (asks_lines names (number + 1) asks) (ask_lines names (number + 1 + length asks) ask))
    ∙ ap (λ n. (ask_lines names number first ++ asks_lines names (number + 1) asks) ++ ask_lines names n ask) here

asks_more : (names : Names) (asks : List AskRecord) (ask : AskRecord) → asks_lines names 0 (asks ++ ask ∷ []) ≡ asks_lines names 0 asks ++ ask_lines names (length asks) ask
asks_more names asks ask =
    let here : 0 + length asks ≡ length asks = omega arith in
    asks_later names 0 asks ask ∙ ap (λ n. asks_lines names 0 asks ++ ask_lines names n ask) here

-- the entry of a run
abbrev pub entry_line : Names → ℕ → RunRecord → List ℕ
entry_line names place run = run_line place (Some run.started) (names.troupe run.root) run.path run.procedure run.entry run.arguments

-- ---- a run that hasn't ended

pub going_text : (names : Names) (place : ℕ) (run : RunRecord) → run.outcome ≡ None → run_lines names place run ≡ entry_line names place run ++ asks_lines names 0 run.asks
going_text names place run none =
    ap (λ o. (entry_line names place run ++ asks_lines names 0 run.asks) ++ ended_line place o run.state run.end run.ended) none
    ∙ append-nil (entry_line names place run ++ asks_lines names 0 run.asks)

with_ask_text : (names : Names) (place : ℕ) (run : RunRecord) (ask : AskRecord) → run.outcome ≡ None → run_lines names place (with_ask run ask) ≡ run_lines names place run ++ ask_lines names (length run.asks) ask
with_ask_text names place run ask none =
    going_text names place (with_ask run ask) none
    ∙ ap (λ x. entry_line names place run ++ x) (asks_more names run.asks ask)
    ∙ sym (append_assoc (entry_line names place run) (asks_lines names 0 run.asks) (ask_lines names (length run.asks) ask))
    ∙ ap (λ x. x ++ ask_lines names (length run.asks) ask) (sym (going_text names place run none))

-- the line of an ask
abbrev pub made_line : Names → ℕ → AskRecord → List ℕ
made_line names number ask = ask_line number (Some ask.asked) (names.troupe ask.callee) ask.index ask.procedure ask.arguments ask.state

open_text : (names : Names) (number : ℕ) (ask : AskRecord) → ask.reply ≡ None → ask_lines names number ask ≡ made_line names number ask
open_text names number ask none =
    ap (λ r. made_line names number ask ++ answered_line number r ask.after ask.answered) none ∙ append-nil (made_line names number ask)

-- with an ask behind the others
pub asked_text_more : (names : Names) (place : ℕ) (run : RunRecord) (ask : AskRecord) → run.outcome ≡ None → ask.reply ≡ None → run_lines names place (with_ask run ask) ≡ run_lines names place run ++ made_line names (length run.asks) ask
asked_text_more names place run ask none no_reply =
    with_ask_text names place run ask none ∙ ap (λ x. run_lines names place run ++ x) (open_text names (length run.asks) ask no_reply)

-- with the reply to the last ask
pub replied_text_more : (names : Names) (place : ℕ) (run : RunRecord) (ask : AskRecord) (after : After) (reply : Outcome) → run.outcome ≡ None → ask.reply ≡ None → run_lines names place (with_ask run (answer_ask ask after reply)) ≡ run_lines names place (with_ask run ask) ++ reply_line (length run.asks) (Some after.step) after.clock reply
replied_text_more names place run ask after reply none no_reply =
    with_ask_text names place run (answer_ask ask after reply) none
    ∙ sym (append_assoc (run_lines names place run) (made_line names (length run.asks) ask) (reply_line (length run.asks) (Some after.step) after.clock reply))
    ∙ ap (λ x. x ++ reply_line (length run.asks) (Some after.step) after.clock reply) (sym (asked_text_more names place run ask none no_reply))

-- with its end
pub ended_text_more : (names : Names) (place : ℕ) (run : RunRecord) (after : After) (outcome : Outcome) (state : List ValueTree) → run.outcome ≡ None → run_lines names place (run_ended run after outcome state) ≡ run_lines names place run ++ end_line place (Some after.step) after.clock outcome state
ended_text_more names place run after outcome state none =
    ap (λ x. x ++ end_line place (Some after.step) after.clock outcome state) (sym (going_text names place run none))
