-- A record, one line behind another.
use Rattle.std.proofs.Common.{◌≡◌, ◌∙◌, ℕ, suc, ◌+◌, ◌<◌, nat_eq, Option, Some, None, option_map, List, [], ◌∷◌, length, take, drop, position, refl, ap, arith}
use Rattle.std.proofs.lemmas.List.Quantifiers.{position-Some}
use Rattle.circus_config.specs.declared.plan.Plan.{Plan}
use Rattle.circus_audit.specs.declared.given.Given.{Given}
use Rattle.circus_audit.specs.declared.setting.Hosted.{Hosted}
use Rattle.circus_audit.specs.declared.stage.Stage.{Stage}
use Rattle.circus_audit.specs.Seen.Answers.{from_some}
use Rattle.circus_audit.specs.Seen.Breaking.{all_lines}
use Rattle.circus_audit.specs.Seen.Reading.{beginning, own_read, hosted_by, stage_after, given_by, stage_behind, rest_read, lines_read, record_read}
use Rattle.circus_audit.proofs.Breaking.{first_line, no_line, none_passes}

-- the first line of several
pub line_first : (text : List ℕ) (i : ℕ) → position (λ b. nat_eq b 10) text ≡ Some i → (i < length text) × (all_lines text ≡ option_map (λ ls. take i text ∷ ls) (all_lines (drop (i + 1) text)))
line_first text i is =
    let at = position-Some (λ b. nat_eq b 10) text i 0 is in
    let here : suc i ≡ i + 1 = omega arith in
    (at.0, first_line text i at.0 at.1 at.2 ∙ ap (λ n. option_map (λ ls. take i text ∷ ls) (all_lines (drop n text))) here)

module _ (plan : Plan) (own : ℕ) (hosted : Option Hosted) where
  by_lines : (stage : Stage) (line : List ℕ) (r : Option (List (List ℕ))) → from_some (option_map (λ ls. line ∷ ls) r) (λ lines. from_some (stage_behind plan own hosted stage lines) (given_by plan own hosted)) ≡ from_some (stage_after plan own hosted stage line) (λ next. from_some r (λ lines. from_some (stage_behind plan own hosted next lines) (given_by plan own hosted)))
  by_lines stage line (Some ls) = by_stage (stage_after plan own hosted stage line)
    where
      by_stage : (next : Option Stage) → from_some (from_some next (λ s. stage_behind plan own hosted s ls)) (given_by plan own hosted) ≡ from_some next (λ s. from_some (stage_behind plan own hosted s ls) (given_by plan own hosted))
      by_stage (Some s) = refl
      by_stage None = refl
  by_lines stage line None = none_after (stage_after plan own hosted stage line)
    where
      none_after : (next : Option Stage) → ◌≡◌ {A = Option Given} None (from_some next (λ (s : Stage). None))
      none_after (Some s) = refl
      none_after None = refl

  -- by the first line of several
  pub rest_first : (stage : Stage) (text : List ℕ) (i : ℕ) → position (λ b. nat_eq b 10) text ≡ Some i → rest_read plan own hosted stage text ≡ from_some (stage_after plan own hosted stage (take i text)) (λ next. rest_read plan own hosted next (drop (i + 1) text))
  rest_first stage text i is =
      ap (λ r. from_some r (λ lines. from_some (stage_behind plan own hosted stage lines) (given_by plan own hosted))) (line_first text i is).1
      ∙ by_lines stage (take i text) (all_lines (drop (i + 1) text))

  -- where no line is left
  pub rest_end : (stage : Stage) (text : List ℕ) → text ≡ [] → rest_read plan own hosted stage text ≡ given_by plan own hosted stage
  rest_end stage text is = ap (rest_read plan own hosted stage) is

  -- where bytes are left
  pub rest_over : (stage : Stage) (text : List ℕ) → position (λ b. nat_eq b 10) text ≡ None → 0 < length text → rest_read plan own hosted stage text ≡ None
  rest_over stage text is some =
      ap (λ r. from_some r (λ lines. from_some (stage_behind plan own hosted stage lines) (given_by plan own hosted)))
      (no_line text some (none_passes (λ b. nat_eq b 10) text is))

  -- where a line isn't read
  pub rest_bad : (stage : Stage) (text : List ℕ) (i : ℕ) → position (λ b. nat_eq b 10) text ≡ Some i → stage_after plan own hosted stage (take i text) ≡ None → rest_read plan own hosted stage text ≡ None
  rest_bad stage text i is bad = rest_first stage text i is ∙ ap (λ r. from_some r (λ next. rest_read plan own hosted next (drop (i + 1) text))) bad

  -- and where it is
  pub rest_more : (stage next : Stage) (text : List ℕ) (i : ℕ) → position (λ b. nat_eq b 10) text ≡ Some i → stage_after plan own hosted stage (take i text) ≡ Some next → rest_read plan own hosted stage text ≡ rest_read plan own hosted next (drop (i + 1) text)
  rest_more stage next text i is read = rest_first stage text i is ∙ ap (λ r. from_some r (λ s. rest_read plan own hosted s (drop (i + 1) text))) read

-- the first line of a record, and those behind it
pub record_first : (plan : Plan) (text : List ℕ) (i own : ℕ) → position (λ b. nat_eq b 10) text ≡ Some i → own_read plan (take i text) ≡ Some own → record_read plan text ≡ rest_read plan own (hosted_by plan own) beginning (drop (i + 1) text)
record_first plan text i own is read = ap (λ r. from_some r (lines_read plan)) (line_first text i is).1 ∙ by_lines (all_lines (drop (i + 1) text))
  where
    by_lines : (r : Option (List (List ℕ))) → from_some (option_map (λ ls. take i text ∷ ls) r) (lines_read plan) ≡ from_some r (λ lines. from_some (stage_behind plan own (hosted_by plan own) beginning lines) (given_by plan own (hosted_by plan own)))
    by_lines (Some ls) = ap (λ o. from_some o (λ n. from_some (stage_behind plan n (hosted_by plan n) beginning ls) (given_by plan n (hosted_by plan n)))) read
    by_lines None = refl

-- a record whose first line is none
pub record_bad : (plan : Plan) (text : List ℕ) (i : ℕ) → position (λ b. nat_eq b 10) text ≡ Some i → own_read plan (take i text) ≡ None → record_read plan text ≡ None
record_bad plan text i is read = ap (λ r. from_some r (lines_read plan)) (line_first text i is).1 ∙ by_lines (all_lines (drop (i + 1) text))
  where
    by_lines : (r : Option (List (List ℕ))) → from_some (option_map (λ ls. take i text ∷ ls) r) (lines_read plan) ≡ None
    by_lines (Some ls) = ap (λ o. from_some o (λ n. from_some (stage_behind plan n (hosted_by plan n) beginning ls) (given_by plan n (hosted_by plan n)))) read
    by_lines None = refl

-- a text without lines is none
pub record_none : (plan : Plan) (text : List ℕ) → position (λ b. nat_eq b 10) text ≡ None → record_read plan text ≡ None
record_none plan [] is = refl
record_none plan (b ∷ text) is = ap (λ r. from_some r (lines_read plan)) (no_line (b ∷ text) (omega arith) (none_passes (λ c. nat_eq c 10) (b ∷ text) is))
