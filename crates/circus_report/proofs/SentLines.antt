-- The lines of what was sent, from a number on, one by one.
use Rattle.std.proofs.Common.{◌≡◌, ℕ, ◌+◌, ◌-◌, ◌<◌, ◌≤◌, Option, List, ◌++◌, length, take, drop, get_or, refl, sym, ap, subst, ◌∙◌, arith, length-drop}
use Rattle.std.proofs.lemmas.List.{take-append-drop, get_or-drop}
use Rattle.circus_record.specs.Naming.{Names}
use Rattle.circus_record.proofs.LinesMore.{all_append, item_more}
use Rattle.circus_world.specs.Sent.{Sent}
use Rattle.circus_report.specs.Report.{sent_line, sent_lines}
use Rattle.circus_report.specs.Writing.{WritesPart}
use Rattle.circus_report.proofs.ToldLemmas.{take-behind, WritesPart-longer}

module _ (names : Names) (from : ℕ) (all : List Sent) where
  -- the lines before a number
  abbrev pub lines_before : ℕ → List ℕ
  lines_before number = sent_lines names from (take (number - from) (drop from all))

  -- the next one
  pub lines_before-more : (number : ℕ) (sent : Sent) → from ≤ number → number < length all → sent ≡ get_or all number sent
      → lines_before (number + 1) ≡ lines_before number ++ sent_line names number sent
  lines_before-more number sent since below is =
      let here : from + (number - from) ≡ number = omega (arith, since) in
      let within : number - from < length (drop from all) = omega (arith, since, below, length-drop from all) in
      let next : number + 1 - from ≡ (number - from) + 1 = omega (arith, since) in
      let at : sent ≡ get_or (drop from all) (number - from) sent =
      is ∙ ap (λ k. get_or all k sent) (sym here) ∙ sym (get_or-drop from all (number - from) sent) in
      ap (λ k. sent_lines names from (take k (drop from all))) next
      ∙ item_more (sent_lines names) (sent_line names) (λ n. refl) (λ n x xs. refl) from (drop from all) (number - from) sent within at
      ∙ ap (λ k. lines_before number ++ sent_line names k sent) here

  -- all of them
  pub lines_before-all : lines_before (length all) ≡ sent_lines names from (drop from all)
  lines_before-all = ap (sent_lines names from) (take-behind all from)

  -- a part of the lines before a number is a part of all
  pub WritesPart-lines : (old new : Option (List ℕ)) (number : ℕ) → WritesPart old new (lines_before number) → WritesPart old new (sent_lines names from (drop from all))
  WritesPart-lines old new number w =
      let front = take (number - from) (drop from all) in
      let others = drop (number - from) (drop from all) in
      let split : sent_lines names from (front ++ others) ≡ sent_lines names from front ++ sent_lines names (from + length front) others =
      all_append (sent_lines names) (sent_line names) (λ n. refl) (λ n x xs. refl) from front others in
      let whole : sent_lines names from front ++ sent_lines names (from + length front) others ≡ sent_lines names from (drop from all) =
      sym split ∙ ap (sent_lines names from) (take-append-drop (number - from) (drop from all)) in
      subst (WritesPart old new) whole (WritesPart-longer old new (sent_lines names from front) (sent_lines names (from + length front) others) w)
