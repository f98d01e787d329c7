-- No record has the lines of a text up to its bad line.
use Rattle.std.specs.List.{AllByRecursion}
use Rattle.std.specs.Option.{option_to_list}
use Rattle.std.proofs.Common.{◌≡◌, ◌∙◌, ℕ, zero, suc, ◌+◌, ◌<◌, ◌≤◌, ◌⊎◌, Bool, true, false, cond, if◌then◌else◌, nat_eq, nat_le, inl, inr, List, [], ◌∷◌, ◌++◌, length, map, take, Option, Some, None, option_map, refl, sym, ap, subst, arith, append_assoc, length-append}
use Rattle.std.proofs.lemmas.Bool.{and_parts, leb-true, ne_eqb, eqb-true}
use Rattle.circus_record.specs.Line.{line}
use Rattle.circus_record.specs.declared.record.MemberRecord.{MemberRecord}
use Rattle.circus_config.specs.declared.plan.Plan.{Plan}
use Rattle.circus_audit.specs.declared.given.Given.{Given}
use Rattle.circus_audit.specs.declared.outlook.Outlook.{Outlook}
use Rattle.circus_audit.specs.declared.setting.Hosted.{Hosted}
use Rattle.circus_audit.specs.declared.stage.Stage.{Stage}
use Rattle.circus_audit.specs.TextPieces.{Piece, whole, rest, onto_first, pieces}
use Rattle.circus_audit.specs.Seen.Answers.{from_some}
use Rattle.circus_audit.specs.Seen.Breaking.{onto_line, all_lines}
use Rattle.circus_audit.specs.Seen.Outlook.{newest, goes_on, expected_then, lost_at, followed_by, line_lost, looks, bad_by, bad_among}
use Rattle.circus_audit.specs.Seen.Reading.{node_names, stage_after, given_by, stage_behind, rest_read}
use Rattle.circus_audit.proofs.Opening.{from_is}
use Rattle.circus_audit.proofs.OneLine.{is_clean}
use Rattle.circus_audit.proofs.SoundingRecord.{joined}
use Rattle.circus_audit.proofs.CompletingRows.{all_both}
use Rattle.circus_audit.proofs.GoingStages.{Tells, AreKnown, Leads, rows_lead, newest_told, goes_so}

-- ---- pieces

-- a line has no newline in it
abbrev pub IsRow : List ℕ → Type 0
IsRow row = AllByRecursion (λ b. nat_eq b 10 ≡ false) row

pub clean_is_row : (row : List ℕ) → is_clean row ≡ true → IsRow row
clean_is_row [] clean = tt
clean_is_row (b ∷ row) clean =
    let parts = and_parts (nat_le 32 b) (is_clean row) clean in
    let large = leb-true 32 b parts.0 in
    (ne_eqb b 10 (λ e. omega (arith, large, e)), clean_is_row row parts.1)

pub pieces_row : (row text : List ℕ) → IsRow row → pieces (line row ++ text) ≡ whole row ∷ pieces text
pieces_row [] text is = refl
pieces_row (b ∷ row) text is =
    ap (λ t. if t then whole [] ∷ pieces (line row ++ text) else onto_first b (pieces (line row ++ text))) is.0
    ∙ ap (onto_first b) (pieces_row row text is.1)

pub pieces_joined : (rows : List (List ℕ)) (text : List ℕ) → AllByRecursion (λ row. is_clean row ≡ true) rows → pieces (joined rows ++ text) ≡ map (λ row. whole row) rows ++ pieces text
pieces_joined [] text clean = refl
pieces_joined (row ∷ rows) text clean =
    ap pieces (append_assoc (line row) (joined rows) text)
    ∙ pieces_row row (joined rows ++ text) (clean_is_row row clean.0)
    ∙ ap (λ ps. whole row ∷ ps) (pieces_joined rows text clean.1)

-- the first line of a text, or its rest
abbrev pub HasFirst : List ℕ → Type 0
HasFirst text = ((row : List ℕ) × (later : List ℕ) × (text ≡ line row ++ later) × (pieces text ≡ whole row ∷ pieces later) × IsRow row) ⊎ (pieces text ≡ rest text ∷ [])

pub first_of : (text : List ℕ) → HasFirst text
first_of [] = inr refl
first_of (b ∷ text) = by_byte (nat_eq b 10) refl (first_of text)
  where
    by_byte : (t : Bool) → nat_eq b 10 ≡ t → HasFirst text → HasFirst (b ∷ text)
    by_byte true is later = inl ([], text, ap (λ c. c ∷ text) (eqb-true b 10 is), ap (λ t. if t then whole [] ∷ pieces text else onto_first b (pieces text)) is, tt)
    by_byte false is (inl found) = inl (b ∷ found.0, found.1, ap (λ t. b ∷ t) found.2, ap (λ t. if t then whole [] ∷ pieces text else onto_first b (pieces text)) is ∙ ap (onto_first b) found.3, (is, found.4))
    by_byte false is (inr none) = inr (ap (λ t. if t then whole [] ∷ pieces text else onto_first b (pieces text)) is ∙ ap (onto_first b) none)

-- ---- lines

onto_more : (b : ℕ) (row : List ℕ) (r : Option (List (List ℕ))) → from_some (option_map (λ ls. row ∷ ls) r) (onto_line b) ≡ option_map (λ ls. (b ∷ row) ∷ ls) r
onto_more b row (Some ls) = refl
onto_more b row None = refl

pub lines_row : (row text : List ℕ) → IsRow row → all_lines (line row ++ text) ≡ option_map (λ ls. row ∷ ls) (all_lines text)
lines_row [] text is = refl
lines_row (b ∷ row) text is =
    ap (λ t. cond t (option_map (λ (ls : List (List ℕ)). [] ∷ ls) (all_lines (line row ++ text))) (from_some (all_lines (line row ++ text)) (onto_line b))) is.0
    ∙ ap (λ r. from_some r (onto_line b)) (lines_row row text is.1)
    ∙ onto_more b row (all_lines text)

module _ (plan : Plan) (own : ℕ) (hosted : Option Hosted) where
  -- a line that is read in front of the others
  pub rest_behind : (stage next : Stage) (row text : List ℕ) → IsRow row → stage_after plan own hosted stage row ≡ Some next → rest_read plan own hosted stage (line row ++ text) ≡ rest_read plan own hosted next text
  rest_behind stage next row text is read =
      ap (λ r. from_some r (λ lines. from_some (stage_behind plan own hosted stage lines) (given_by plan own hosted))) (lines_row row text is)
      ∙ by_lines (all_lines text)
    where
      by_lines : (r : Option (List (List ℕ))) → from_some (option_map (λ ls. row ∷ ls) r) (λ lines. from_some (stage_behind plan own hosted stage lines) (given_by plan own hosted)) ≡ from_some r (λ lines. from_some (stage_behind plan own hosted next lines) (given_by plan own hosted))
      by_lines (Some ls) = ap (λ o. from_some (from_some o (λ n. stage_behind plan own hosted n ls)) (given_by plan own hosted)) read
      by_lines None = refl

  -- ---- where a line is lost it stays lost

  pub lost_kept : (ps : List Piece) (number : ℕ) (o : Outlook) (stage : Stage) (lost : ℕ) → o.lost ≡ Some lost → bad_among plan own hosted ps number o stage ≡ lost
  lost_kept [] number o stage lost is = ap (line_lost number) is
  lost_kept (rest text ∷ others) number o stage lost is = ap (line_lost number) is
  lost_kept (whole text ∷ others) number o stage lost is = by_next (stage_after plan own hosted stage text) (λ next. lost_kept others (number + 1) (looks plan own hosted next number o) next lost (still next))
    where
      still : (next : Stage) → (looks plan own hosted next number o).lost ≡ Some lost
      still next = ap (λ l. (followed_by (node_names plan) (length plan.names) own hosted next number o l).lost) is ∙ is

      by_next : (r : Option Stage) → ((next : Stage) → bad_among plan own hosted others (number + 1) (looks plan own hosted next number o) next ≡ lost) → bad_by plan own hosted (bad_among plan own hosted others) number o r ≡ lost
      by_next None later = ap (line_lost number) is
      by_next (Some next) later = later next

  pub bad_from : (ps : List Piece) (number : ℕ) (o : Outlook) (stage : Stage) → o.lost ≡ None → number ≤ bad_among plan own hosted ps number o stage
  bad_from [] number o stage none = let is = ap (line_lost number) none in omega (arith, is)
  bad_from (rest text ∷ others) number o stage none = let is = ap (line_lost number) none in omega (arith, is)
  bad_from (whole text ∷ others) number o stage none = by_next (stage_after plan own hosted stage text) (λ next. bad_from others (number + 1) (looks plan own hosted next number o) next)
    where
      looks_so : (next : Stage) → (looks plan own hosted next number o).lost ≡ lost_at (node_names plan) (length plan.names) own number (goes_on (node_names plan) (length plan.names) own hosted (expected_then (node_names plan) (length plan.names) own o next) next)
      looks_so next = ap (λ l. (followed_by (node_names plan) (length plan.names) own hosted next number o l).lost) none

      by_good : (next : Stage) (good : Bool) → (looks plan own hosted next number o).lost ≡ lost_at (node_names plan) (length plan.names) own number good → ((looks plan own hosted next number o).lost ≡ None → number + 1 ≤ bad_among plan own hosted others (number + 1) (looks plan own hosted next number o) next) → number ≤ bad_among plan own hosted others (number + 1) (looks plan own hosted next number o) next
      by_good next true is later = let more = later is in omega (arith, more)
      by_good next false is later = let same = lost_kept others (number + 1) (looks plan own hosted next number o) next number is in omega (arith, same)

      by_next : (r : Option Stage) → ((next : Stage) → (looks plan own hosted next number o).lost ≡ None → number + 1 ≤ bad_among plan own hosted others (number + 1) (looks plan own hosted next number o) next) → number ≤ bad_by plan own hosted (bad_among plan own hosted others) number o r
      by_next None later = let is = ap (line_lost number) none in omega (arith, is)
      by_next (Some next) later = by_good next (goes_on (node_names plan) (length plan.names) own hosted (expected_then (node_names plan) (length plan.names) own o next) next) (looks_so next) (later next)

  -- ---- along the lines of a record

  module _ (member : Option MemberRecord) (known : AreKnown plan own hosted member hosted member) (last : Stage) (leads : Leads plan own hosted member last) where
    -- what stands behind the lines that lead to a stage has no bad line among so many
    abbrev pub HasNoneBehind : List Piece → ℕ → Type 0
    HasNoneBehind tail slack = (j : ℕ) (text : List ℕ) (number : ℕ) (o : Outlook) → o.lost ≡ None → take j (pieces text) ≡ take j tail → rest_read plan own hosted last text ≡ None → length text < slack → number + j ≤ bad_among plan own hosted (pieces text) number o last

    -- behind a line by which the record goes on
    still_good : (next : Stage) (number : ℕ) (o : Outlook) → Leads plan own hosted member next → o.lost ≡ None → AllByRecursion (Tells plan own hosted member) o.expected → ((looks plan own hosted next number o).lost ≡ None) × AllByRecursion (Tells plan own hosted member) (looks plan own hosted next number o).expected
    still_good next number o leading none told =
        let expected = o.expected ++ option_to_list (newest next) in
        let all = all_both (Tells plan own hosted member) o.expected (option_to_list (newest next)) told (newest_told plan own hosted member next leading) in
        let good = goes_so plan own hosted member next leading known expected all in (
          ap (λ l. (followed_by (node_names plan) (length plan.names) own hosted next number o l).lost) none ∙ ap (lost_at (node_names plan) (length plan.names) own number) good,
          subst (λ l. AllByRecursion (Tells plan own hosted member) (followed_by (node_names plan) (length plan.names) own hosted next number o l).expected) (sym none) all,
        )

    pub none_among : (rows : List (List ℕ)) (k : ℕ) (text : List ℕ) (number : ℕ) (o : Outlook) (stage : Stage) (tail : List Piece) (slack : ℕ) → AllByRecursion (λ row. is_clean row ≡ true) rows → stage_behind plan own hosted stage rows ≡ Some last → o.lost ≡ None → AllByRecursion (Tells plan own hosted member) o.expected → take k (pieces text) ≡ take k (map (λ row. whole row) rows ++ tail) → rest_read plan own hosted stage text ≡ None → length text < length (joined rows) + slack → HasNoneBehind tail slack → number + k ≤ bad_among plan own hosted (pieces text) number o stage
    none_among [] k text number o stage tail slack clean reach none told same unread few end =
        let there : last ≡ stage = cc (reach) in
        subst (λ s. number + k ≤ bad_among plan own hosted (pieces text) number o s) there (end k text number o none same (subst (λ s. rest_read plan own hosted s text ≡ None) (sym there) unread) (omega (arith, few)))
    none_among (row ∷ rows) zero text number o stage tail slack clean reach none told same unread few end = let from = bad_from (pieces text) number o stage none in omega (arith, from)
    none_among (row ∷ rows) (suc k) text number o stage tail slack clean reach none told same unread few end = by_first (first_of text) (λ later o2 next reach2 none2 told2 same2 unread2 few2. none_among rows k later (number + 1) o2 next tail slack clean.1 reach2 none2 told2 same2 unread2 few2 end)
      where
        by_first : HasFirst text → ((later : List ℕ) (o2 : Outlook) (next : Stage) → stage_behind plan own hosted next rows ≡ Some last → o2.lost ≡ None → AllByRecursion (Tells plan own hosted member) o2.expected → take k (pieces later) ≡ take k (map (λ r. whole r) rows ++ tail) → rest_read plan own hosted next later ≡ None → length later < length (joined rows) + slack → number + 1 + k ≤ bad_among plan own hosted (pieces later) (number + 1) o2 next) → number + suc k ≤ bad_among plan own hosted (pieces text) number o stage
        by_first (inr only) go_on =
            let both : rest text ∷ take k [] ≡ whole row ∷ take k (map (λ r. whole r) rows ++ tail) = sym (ap (take (suc k)) only) ∙ same in
            cc (both)
        by_first (inl found) go_on =
            let both : whole found.0 ∷ take k (pieces found.1) ≡ whole row ∷ take k (map (λ r. whole r) rows ++ tail) = sym (ap (take (suc k)) found.3) ∙ same in
            let same_row : found.0 ≡ row = cc (both) in
            let others : take k (pieces found.1) ≡ take k (map (λ r. whole r) rows ++ tail) = cc (both) in
            let at = from_is (stage_after plan own hosted stage row) (λ next. stage_behind plan own hosted next rows) last reach in
            let next = at.0 in
            let leading = rows_lead plan own hosted member next rows last at.2 leads in
            let good = still_good next number o leading none told in
            let text_is : text ≡ line row ++ found.1 = found.2 ∙ ap (λ r. line r ++ found.1) same_row in
            let unread_next = sym (rest_behind stage next row found.1 (clean_is_row row clean.0) at.1) ∙ ap (rest_read plan own hosted stage) (sym text_is) ∙ unread in
            let size = ap length text_is ∙ length-append (line row) found.1 in
            let fewer : length found.1 < length (joined rows) + slack = omega (arith, few, size, length-append (line row) (joined rows)) in
            let later = go_on found.1 (looks plan own hosted next number o) next at.2 good.0 good.1 others unread_next fewer in
            let read : stage_after plan own hosted stage found.0 ≡ Some next = ap (stage_after plan own hosted stage) same_row ∙ at.1 in
            let here = ap (λ ps. bad_among plan own hosted ps number o stage) found.3 ∙ ap (bad_by plan own hosted (bad_among plan own hosted (pieces found.1)) number o) read in
            omega (arith, later, here)

    -- behind the last line of a record nothing stands
    pub none_behind : (given : Given) (slack : ℕ) → given_by plan own hosted last ≡ Some given → HasNoneBehind (rest [] ∷ []) slack
    none_behind given slack is zero text number o none same unread few = let from = bad_from (pieces text) number o last none in omega (arith, from)
    none_behind given slack is (suc j) text number o none same unread few = by_first (first_of text)
      where
        by_first : HasFirst text → number + suc j ≤ bad_among plan own hosted (pieces text) number o last
        by_first (inl found) =
            let both : whole found.0 ∷ take j (pieces found.1) ≡ rest [] ∷ take j [] = sym (ap (take (suc j)) found.3) ∙ same in
            cc (both)
        by_first (inr only) =
            let both : rest text ∷ take j [] ≡ rest [] ∷ take j [] = sym (ap (take (suc j)) only) ∙ same in
            let nothing : text ≡ [] = cc (both) in
            let there : given_by plan own hosted last ≡ None = sym (ap (rest_read plan own hosted last) nothing) ∙ unread in
            cc (there, is)
