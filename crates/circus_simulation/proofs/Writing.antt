-- The text of lines is made line by line.
use Rattle.std.proofs.Common.{◌≡◌, ℕ, ◌+◌, ◌<◌, List, [], ◌∷◌, ◌++◌, length, drop, get_or, sym, ap, ◌∙◌, append_assoc, add-one, drop-cons}
use Rattle.circus_schedule.specs.declared.line.Line.{Line}
use Rattle.circus_schedule.specs.declared.line.Line.TheVariants.{Deliver}
use Rattle.circus_schedule.specs.WrittenLine.{text_of}
use Rattle.circus_schedule.specs.TextLines.{newline}
use Rattle.circus_schedule.specs.ScheduleText.{line_written, lines_text}

-- where a line is added, those that are left go on behind it
pub line_added : (called : ℕ → List ℕ) (lines : List Line) (place : ℕ) (text next whole : List ℕ) → place < length lines
    → next ≡ text ++ (text_of (line_written called (get_or lines place (Deliver 0))) ++ newline ∷ [])
    → text ++ lines_text called (drop place lines) ≡ whole
    → next ++ lines_text called (drop (place + 1) lines) ≡ whole
line_added called lines place text next whole within added so_far =
    let line = get_or lines place (Deliver 0) in
    let one = text_of (line_written called line) in
    let rest = lines_text called (drop (place + 1) lines) in
    let split : drop place lines ≡ line ∷ drop (place + 1) lines = rw add-one (drop-cons lines place (Deliver 0) within) in
    ap (λ l. l ++ rest) added
    ∙ append_assoc text (one ++ newline ∷ []) rest
    ∙ ap (λ l. text ++ l) (append_assoc one (newline ∷ []) rest)
    ∙ ap (λ ls. text ++ lines_text called ls) (sym split)
    ∙ so_far
