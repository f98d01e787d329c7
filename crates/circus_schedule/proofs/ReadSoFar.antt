-- Schedules that are read line by line: what was read so far, and what is left.
use Rattle.std.proofs.Common.{◌≡◌, ◌∙◌, ◌+◌, ◌≤◌, ◌++◌, ℕ, List, [], ◌∷◌, length, ap, sym, arith}
use Rattle.std.specs.List.{AllZip}
use Rattle.std.proofs.lemmas.List.{append_assoc, length_push}
use Rattle.circus_schedule.specs.TextLines.{lines_of}
use Rattle.circus_schedule.specs.Meaning.{Numbers, IsReadAs}
use Rattle.circus_schedule.specs.Answer.{most_lines, AreReadAs}
use Rattle.circus_schedule.specs.declared.line.Line.{Line}

-- so many lines were read, and the rest is left
pub record IsReadSoFar (numbers : Numbers) (text : List ℕ) (lines : List Line) (number : ℕ) (rest : List ℕ) : Type 0 where
  pub before : List (List ℕ)
  pub divided : lines_of text ≡ before ++ lines_of rest
  pub good : AreReadAs numbers before lines
  pub count : length before ≡ number

each_more : (numbers : Numbers) (texts : List (List ℕ)) (lines : List Line) (text : List ℕ) (line : Line) → AllZip (IsReadAs numbers) texts lines → IsReadAs numbers text line → AllZip (IsReadAs numbers) (texts ++ text ∷ []) (lines ++ line ∷ [])
each_more numbers [] [] text line each read = (read, tt)
each_more numbers [] (l ∷ lines) text line each read = absurd each
each_more numbers (t ∷ texts) [] text line each read = absurd each
each_more numbers (t ∷ texts) (l ∷ lines) text line each read = (each.0, each_more numbers texts lines text line each.1 read)

-- one more line
pub IsReadSoFar-more : (numbers : Numbers) (text : List ℕ) (lines : List Line) (number : ℕ) (rest first after : List ℕ) (line : Line) → IsReadSoFar numbers text lines number rest → lines_of rest ≡ first ∷ lines_of after → number + 1 ≤ most_lines → IsReadAs numbers first line
    → IsReadSoFar numbers text (lines ++ line ∷ []) (number + 1) after
IsReadSoFar-more numbers text lines number rest first after line so_far next few read = record {
  before = so_far.before ++ first ∷ [];
  divided = so_far.divided ∙ ap (λ (more : List (List ℕ)). so_far.before ++ more) next ∙ sym (append_assoc so_far.before (first ∷ []) (lines_of after));
  good = record {
    each = each_more numbers so_far.before lines first line so_far.good.each read;
    few = omega (arith, length_push so_far.before first, so_far.count);
  };
  count = length_push so_far.before first ∙ ap (λ (n : ℕ). n + 1) so_far.count;
}
