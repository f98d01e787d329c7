-- No record at all begins with the lines of a text up to its bad line.
use Rattle.std.proofs.Common.{◌≡◌, ◌∙◌, ℕ, zero, suc, ◌+◌, ◌<◌, ◌⊎◌, inl, inr, List, [], ◌∷◌, ◌++◌, length, map, take, Some, None, refl, sym, ap, arith, length-append}
use Rattle.circus_record.specs.Line.{line}
use Rattle.circus_node.specs.Accepting.{troupe_at}
use Rattle.circus_config.specs.declared.plan.Plan.{Plan}
use Rattle.circus_audit.specs.declared.given.Given.{Given}
use Rattle.circus_audit.specs.RecordText.{IsRecordText}
use Rattle.circus_audit.specs.TextPieces.{whole, rest, pieces}
use Rattle.circus_audit.specs.Seen.Outlook.{nothing_expected, bad_by_own, bad_in, bad_line}
use Rattle.circus_audit.specs.Seen.Reading.{own_read, beginning, hosted_by, record_read}
use Rattle.circus_audit.proofs.SoundingRecord.{joined}
use Rattle.circus_audit.proofs.CompletingPlans.{IsSpelled}
use Rattle.circus_audit.proofs.CompletingRecord.{HasRows}
use Rattle.circus_audit.proofs.NoBadLine.{clean_is_row, HasFirst, first_of, pieces_joined, none_among}
use Rattle.circus_audit.proofs.NoRecord.{kept_known, first_read, one_at_least, none_has}
use Rattle.circus_audit.proofs.LongRecord.{enough, HasRowsSoFar}
use Rattle.circus_audit.proofs.LongRecords.{whole_or_part}

-- none whose lines lead further than the text
none_has_part : (plan : Plan) (given : Given) (text other : List ℕ) (bad : ℕ) → IsRecordText plan given other → HasRowsSoFar plan given other → length text < enough → record_read plan text ≡ None → bad_line plan text ≡ bad → take bad (pieces other) ≡ take bad (pieces text) → ⊥
none_has_part plan given text other zero is r short unread at same = let one = one_at_least plan (pieces text) in omega (arith, one, at)
none_has_part plan given text other (suc k) is r short unread at same = by_piece (first_of text) (ap pieces r.text_is ∙ pieces_joined (r.first ∷ r.rows) r.more r.clean)
  where
    by_piece : HasFirst text → pieces other ≡ whole r.first ∷ (map (λ row. whole row) r.rows ++ pieces r.more) → ⊥
    by_piece (inr only) there =
        let both : whole r.first ∷ take k (map (λ row. whole row) r.rows ++ pieces r.more) ≡ rest text ∷ take k [] = sym (ap (take (suc k)) there) ∙ same ∙ ap (take (suc k)) only in
        cc (both)
    by_piece (inl found) there =
        let both : whole r.first ∷ take k (map (λ row. whole row) r.rows ++ pieces r.more) ≡ whole found.0 ∷ take k (pieces found.1) = sym (ap (take (suc k)) there) ∙ same ∙ ap (take (suc k)) found.3 in
        let same_first : r.first ≡ found.0 = cc (both) in
        let others : take k (map (λ row. whole row) r.rows ++ pieces r.more) ≡ take k (pieces found.1) = cc (both) in
        let own = given.node in
        let hosted = hosted_by plan own in
        let known = kept_known plan own (length given.events) (troupe_at plan.deployment own) given.member given.views refl is.possible.kept in
        let text_is : text ≡ line r.first ++ found.1 = found.2 ∙ ap (λ f. line f ++ found.1) (sym same_first) in
        let behind = sym (first_read plan r.first found.1 own (clean_is_row r.first r.clean.0) r.own_is) ∙ ap (record_read plan) (sym text_is) ∙ unread in
        let large = r.large in
        let fewer : length found.1 < length (joined r.rows) + 0 = omega (arith, short, large, ap length text_is, length-append (line r.first) found.1) in
        let all = none_among plan own hosted given.member known r.last r.leads r.rows k found.1 2 nothing_expected beginning (pieces r.more) 0 r.clean.1 r.reach refl tt (sym others) behind fewer (λ j t number o none alike open_end less. absurd (omega (arith, less))) in
        let read : own_read plan found.0 ≡ Some own = ap (own_read plan) (sym same_first) ∙ r.own_is in
        let line_is = ap (bad_in plan) found.3 ∙ ap (bad_by_own plan (pieces found.1)) read in
        omega (arith, all, line_is, at)

pub none_at_all : (plan : Plan) (given : Given) (text other : List ℕ) (bad : ℕ) → IsSpelled plan → IsRecordText plan given other → length text < enough → record_read plan text ≡ None → bad_line plan text ≡ bad → take bad (pieces other) ≡ take bad (pieces text) → ⊥
none_at_all plan given text other bad is_spelled is short unread at same = by_rows (whole_or_part plan given other is_spelled is)
  where
    by_rows : HasRows plan given other ⊎ HasRowsSoFar plan given other → ⊥
    by_rows (inl r) = none_has plan given text other bad is r unread at same
    by_rows (inr r) = none_has_part plan given text other bad is r short unread at same
