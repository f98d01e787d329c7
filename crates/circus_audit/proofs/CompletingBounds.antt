-- A text has no more events, runs and asks than bytes.
use Rattle.std.specs.List.{AllByRecursion, flat_map}
use Rattle.std.proofs.Common.{◌≡◌, ℕ, ◌+◌, ◌<◌, ◌≤◌, ◌^◌, List, [], ◌∷◌, ◌++◌, length, codes, None, subst, arith, length-append}
use Rattle.std.specs.Fmt.{decimal}
use Rattle.circus_transfer.specs.declared.joiner.Joiner.TheVariants as joiner
use Rattle.circus_record.specs.declared.record.AskRecord.{AskRecord}
use Rattle.circus_record.specs.declared.record.RunRecord.{RunRecord}
use Rattle.circus_record.specs.declared.record.MemberRecord.{MemberRecord}
use Rattle.circus_record.specs.Line.{line}
use Rattle.circus_record.specs.Naming.{Names}
use Rattle.circus_record.specs.MemberText.{answered_line, ask_lines, asks_lines, ended_line, run_lines, runs_lines, now_line, status_text, phase_lines, member_lines}
use Rattle.circus_serve.specs.NodeText.{event_line, give_line, differ_line}
use Rattle.circus_audit.specs.RecordText.{Noted, what_came, stray_line, noted_lines, all_noted_lines}
use Rattle.circus_audit.proofs.SoundingTexts.{entry_line, made_line}
use Rattle.circus_audit.proofs.CompletingRuns.{HasFewAsks}

behind : (a b : List ℕ) → length b ≤ length (a ++ b)
behind a b = omega (arith, length-append a b)

before : (a b : List ℕ) → length a ≤ length (a ++ b)
before a b = omega (arith, length-append a b)

line_some : (text : List ℕ) → 1 ≤ length (line text)
line_some text = let one : length (line text) ≡ length text + 1 = length-append text (10 ∷ []) in omega (arith, one)

-- ---- events

noted_some : (names : Names) (number : ℕ) (n : Noted) → 1 ≤ length (noted_lines names number n)
noted_some names number n =
    let first = event_line number (what_came names n.given.event) in
    let gives = flat_map (give_line names) n.given.gives in
    let differ = flat_map (differ_line names) n.given.differences in
    let strays = flat_map stray_line n.strays in
    let one = line_some (codes "event " ++ decimal number ++ codes " " ++ what_came names n.given.event) in
    omega (arith, one, before first gives, before (first ++ gives) differ, before ((first ++ gives) ++ differ) strays)

pub noted_many : (names : Names) (number : ℕ) (notes : List Noted) → length notes ≤ length (all_noted_lines names number notes)
noted_many names number [] = omega arith
noted_many names number (n ∷ notes) =
    let one = noted_some names number n in
    let others = noted_many names (number + 1) notes in
    let both = length-append (noted_lines names number n) (all_noted_lines names (number + 1) notes) in
    omega (arith, one, others, both)

-- ---- asks

made_some : (names : Names) (number : ℕ) (ask : AskRecord) → 1 ≤ length (made_line names number ask)
made_some names number ask = omega arith

pub asks_many : (names : Names) (number : ℕ) (asks : List AskRecord) → length asks ≤ length (asks_lines names number asks)
asks_many names number [] = omega arith
asks_many names number (ask ∷ asks) =
    let one = made_some names number ask in
    let more = before (made_line names number ask) (answered_line number ask.reply ask.after ask.answered) in
    let others = asks_many names (number + 1) asks in
    let both = length-append (ask_lines names number ask) (asks_lines names (number + 1) asks) in
    omega (arith, one, more, others, both)

run_asks : (names : Names) (place : ℕ) (run : RunRecord) → length run.asks ≤ length (run_lines names place run)
run_asks names place run =
    let asks = asks_lines names 0 run.asks in
    let many = asks_many names 0 run.asks in
    omega (arith, many, behind (entry_line names place run) asks, before (entry_line names place run ++ asks) (ended_line place run.outcome run.state run.end run.ended))

pub runs_asks : (names : Names) (place : ℕ) (runs : List RunRecord) → length (runs_lines names place runs) < 2 ^ 32 → AllByRecursion HasFewAsks runs
runs_asks names place [] few = tt
runs_asks names place (run ∷ runs) few =
    let one = run_asks names place run in
    let both = length-append (run_lines names place run) (runs_lines names (place + 1) runs) in
    (omega (arith, one, both, few), runs_asks names (place + 1) runs (omega (arith, both, few)))

-- an active member's lines have those of its runs
pub member_asks : (names : Names) (node troupe : ℕ) (kept : MemberRecord) (from : ℕ) → kept.phase ≡ joiner.Active from → length (member_lines names node troupe None kept) < 2 ^ 32 → AllByRecursion HasFewAsks kept.runs
member_asks names node troupe kept from phase few =
    let head = codes "member " ++ names.node node ++ codes " " ++ names.troupe troupe ++ codes " " ++ status_text None in
    let active = line (codes " from " ++ decimal kept.from ++ codes " at " ++ decimal kept.active_at ++ codes " count " ++ decimal kept.count) in
    let runs = runs_lines names kept.from kept.runs in
    let fewer : length (head ++ ((active ++ runs) ++ now_line kept)) < 2 ^ 32 = subst (λ p. length (head ++ phase_lines names p kept) < 2 ^ 32) phase few in
    runs_asks names kept.from kept.runs (omega (arith, fewer, behind head ((active ++ runs) ++ now_line kept), before (active ++ runs) (now_line kept), behind active runs))
