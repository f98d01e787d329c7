-- What is written is read, and what is read is written so.
use Rattle.std.proofs.Common.{◌≡◌, ◌∙◌, ◌++◌, ◌⊎◌, ◌==◌, ℕ, Bool, cond, List, [], ◌∷◌, length, map, ap, refl, sym, subst, inl, inr, arith}
use Rattle.std.specs.List.{AllByRecursion, AllZip, onto_first}
use Rattle.std.proofs.lemmas.Bool.{cases_Bool, eqb-true}
use Rattle.std.proofs.lemmas.List.{append_assoc, append_cancel_right, length-append, length-map}
use Rattle.circus_schedule.specs.WrittenLine.{WrittenLine, text_of, IsWritten}
use Rattle.circus_schedule.specs.TextLines.{newline, lines_of}
use Rattle.circus_schedule.specs.Meaning.{Numbers, IsReadAs}
use Rattle.circus_schedule.specs.Answer.{AreReadAs}
use Rattle.circus_schedule.specs.ScheduleText.{schedule_text, IsWrittenAs, StandFor}
use Rattle.circus_schedule.specs.declared.line.Line.{Line}
use Rattle.circus_schedule.proofs.LineTexts.{lines_of-cut, lines_of-last}
use Rattle.circus_schedule.proofs.Spelled.{one_line, some_text}

-- lines, each with its newline
abbrev ended : List (List ℕ) → List ℕ
ended [] = []
ended (line ∷ lines) = line ++ newline ∷ ended lines

-- the text is these lines; the last newline may be missing
abbrev IsText : List ℕ → List (List ℕ) → Type 0
IsText text lines = (text ≡ ended lines) ⊎ (text ++ newline ∷ [] ≡ ended lines)

on_newline : (byte : ℕ) (text : List ℕ) (lines : List (List ℕ)) → byte ≡ newline → IsText text lines → IsText (byte ∷ text) ([] ∷ lines)
on_newline byte text lines is (inl whole) = inl (λ i. is i ∷ whole i)
on_newline byte text lines is (inr whole) = inr (λ i. is i ∷ whole i)

on_byte : (byte : ℕ) (text : List ℕ) (lines : List (List ℕ)) → IsText text lines → IsText (byte ∷ text) (onto_first byte lines)
on_byte byte text [] (inl whole) = inr (ap (λ (t : List ℕ). byte ∷ (t ++ newline ∷ [])) whole)
on_byte byte text [] (inr whole) = absurd (omega (arith, ap length whole, length-append text (newline ∷ [])))
on_byte byte text (line ∷ lines) (inl whole) = inl (ap (λ (t : List ℕ). byte ∷ t) whole)
on_byte byte text (line ∷ lines) (inr whole) = inr (ap (λ (t : List ℕ). byte ∷ t) whole)

-- the lines of a text make the text
rejoined : (text : List ℕ) → IsText text (lines_of text)
rejoined [] = inl refl
rejoined (byte ∷ text) =
    let P : Bool → Type 0 = λ t. IsText (byte ∷ text) (cond t ([] ∷ lines_of text) (onto_first byte (lines_of text))) in
    elim (cases_Bool (byte == newline)) [
      | inl is ↦ subst P (sym is) (on_newline byte text (lines_of text) (eqb-true byte newline is) (rejoined text))
      | inr is ↦ subst P (sym is) (on_byte byte text (lines_of text) (rejoined text))
    ]

ended-map : (written : List WrittenLine) → ended (map text_of written) ≡ schedule_text written
ended-map [] = refl
ended-map (line ∷ written) = ap (λ (t : List ℕ). text_of line ++ newline ∷ t) (ended-map written)

-- what lines that are read stand for
record AreWritten (numbers : Numbers) (texts : List (List ℕ)) (lines : List Line) : Type 0 where
  written : List WrittenLine
  spelled : map text_of written ≡ texts
  each : AllByRecursion IsWritten written
  stand : StandFor numbers written lines

written_lines : (numbers : Numbers) (texts : List (List ℕ)) (lines : List Line) → AllZip (IsReadAs numbers) texts lines → AreWritten numbers texts lines
written_lines numbers [] [] each = record { written = []; spelled = refl; each = tt; stand = tt }
written_lines numbers [] (l ∷ lines) each = absurd each
written_lines numbers (t ∷ texts) [] each = absurd each
written_lines numbers (t ∷ texts) (l ∷ lines) each =
    let more = written_lines numbers texts lines each.1 in
    record {
      written = each.0.0 ∷ more.written;
      spelled = λ i. sym each.0.1.spelled i ∷ more.spelled i;
      each = (each.0.1.written, more.each);
      stand = (each.0.2, more.stand);
    }

read_lines : (numbers : Numbers) (written : List WrittenLine) (lines : List Line) → AllByRecursion IsWritten written → StandFor numbers written lines → AllZip (IsReadAs numbers) (map text_of written) lines
read_lines numbers [] [] each stand = tt
read_lines numbers [] (l ∷ lines) each stand = absurd stand
read_lines numbers (w ∷ written) [] each stand = absurd stand
read_lines numbers (w ∷ written) (l ∷ lines) each stand =
    ((w, record { spelled = refl; written = each.0 }, stand.0), read_lines numbers written lines each.1 stand.1)

lines_of-ended : (written : List WrittenLine) → AllByRecursion IsWritten written → lines_of (schedule_text written) ≡ map text_of written
lines_of-ended [] each = refl
lines_of-ended (w ∷ written) each =
    lines_of-cut (text_of w) (schedule_text written) (one_line w each.0) ∙ ap (λ (l : List (List ℕ)). text_of w ∷ l) (lines_of-ended written each.1)

-- a newline ends each line
schedule_text-end : (line : WrittenLine) (lines : List WrittenLine) → (front : List ℕ) × (schedule_text (line ∷ lines) ≡ front ++ newline ∷ [])
schedule_text-end line [] = (text_of line, refl)
schedule_text-end line (next ∷ lines) =
    let more = schedule_text-end next lines in
    (text_of line ++ newline ∷ more.0, ap (λ (t : List ℕ). text_of line ++ newline ∷ t) more.1 ∙ sym (append_assoc (text_of line) (newline ∷ more.0) (newline ∷ [])))

lines_of-unended : (text : List ℕ) (written : List WrittenLine) → AllByRecursion IsWritten written → text ++ newline ∷ [] ≡ schedule_text written → lines_of text ≡ map text_of written
lines_of-unended text [] each whole = absurd (omega (arith, ap length whole, length-append text (newline ∷ [])))
lines_of-unended text (w ∷ []) each whole =
    ap lines_of (append_cancel_right text (text_of w) (newline ∷ []) whole) ∙ lines_of-last (text_of w) (some_text w) (one_line w each.0)
lines_of-unended text (w ∷ v ∷ written) each whole =
    let end = schedule_text-end v written in
    let joined = whole ∙ ap (λ (t : List ℕ). text_of w ++ newline ∷ t) end.1 ∙ sym (append_assoc (text_of w) (newline ∷ end.0) (newline ∷ [])) in
    ap lines_of (append_cancel_right text (text_of w ++ newline ∷ end.0) (newline ∷ []) joined)
    ∙ lines_of-cut (text_of w) end.0 (one_line w each.0)
    ∙ ap (λ (l : List (List ℕ)). text_of w ∷ l) (lines_of-unended end.0 (v ∷ written) each.1 (sym end.1))

lines_of-written : (text : List ℕ) (written : List WrittenLine) → AllByRecursion IsWritten written → (text ≡ schedule_text written) ⊎ (text ++ newline ∷ [] ≡ schedule_text written) → lines_of text ≡ map text_of written
lines_of-written text written each (inl whole) = ap lines_of whole ∙ lines_of-ended written each
lines_of-written text written each (inr whole) = lines_of-unended text written each whole

as_written : (text : List ℕ) (texts : List (List ℕ)) (written : List WrittenLine) → map text_of written ≡ texts → IsText text texts → (text ≡ schedule_text written) ⊎ (text ++ newline ∷ [] ≡ schedule_text written)
as_written text texts written spelled (inl whole) = inl (whole ∙ ap ended (sym spelled) ∙ ended-map written)
as_written text texts written spelled (inr whole) = inr (whole ∙ ap ended (sym spelled) ∙ ended-map written)

pub written_from_read : (numbers : Numbers) (text : List ℕ) (lines : List Line) → AreReadAs numbers (lines_of text) lines → (written : List WrittenLine) × IsWrittenAs text written × StandFor numbers written lines
written_from_read numbers text lines read =
    let found = written_lines numbers (lines_of text) lines read.each in (
      found.written,
      record {
        spelled = as_written text (lines_of text) found.written found.spelled (rejoined text);
        each = found.each;
        few = omega (arith, read.few, ap length found.spelled, length-map found.written text_of);
      },
      found.stand,
    )

pub read_from_written : (numbers : Numbers) (text : List ℕ) (lines : List Line) (written : List WrittenLine) → IsWrittenAs text written → StandFor numbers written lines → AreReadAs numbers (lines_of text) lines
read_from_written numbers text lines written is stand =
    let texts = lines_of-written text written is.each is.spelled in
    subst (λ (l : List (List ℕ)). AreReadAs numbers l lines) (sym texts) (record {
      each = read_lines numbers written lines is.each stand;
      few = omega (arith, is.few, length-map written text_of);
    })
