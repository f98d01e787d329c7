-- No record begins with the lines of a text up to its bad line.
use Rattle.std.specs.List.{AllByRecursion}
use Rattle.std.specs.Option.{option_map_or}
use Rattle.std.specs.Prelude.{option_and_then}
use Rattle.std.proofs.Common.{◌≡◌, ◌∙◌, ℕ, zero, suc, ◌+◌, ◌-◌, ◌≤◌, ◌⊎◌, true, false, nat_eq, nat_le, inl, inr, List, [], ◌∷◌, ◌++◌, length, map, take, slice_get, Option, Some, None, option_map, refl, sym, ap, subst, arith, append-nil, le-leb}
use Rattle.circus_collate.specs.declared.deployment.Troupe.{Troupe}
use Rattle.circus_collate.specs.declared.view.View.{View}
use Rattle.circus_model.specs.Lawful.{arguments_fit, import_takes, import_of}
use Rattle.circus_model.specs.declared.signature.Import.{Import}
use Rattle.circus_model.specs.declared.signature.ProcedureShape.{ProcedureShape}
use Rattle.circus_model.specs.declared.signature.Signature.{Signature}
use Rattle.circus_value.specs.ValueTree.{ValueTree}
use Rattle.circus_transfer.specs.declared.joiner.Joiner.{Joiner}
use Rattle.circus_transfer.specs.declared.joiner.Joiner.TheVariants as joiner
use Rattle.circus_record.specs.declared.record.AskRecord.{AskRecord}
use Rattle.circus_record.specs.declared.record.RunRecord.{RunRecord}
use Rattle.circus_record.specs.declared.record.MemberRecord.{MemberRecord}
use Rattle.circus_record.specs.Line.{line}
use Rattle.circus_performing.specs.Performing.{last_count, before_any}
use Rattle.circus_node.specs.Accepting.{troupe_at}
use Rattle.circus_config.specs.declared.plan.Plan.{Plan}
use Rattle.circus_audit.specs.Possible.{declared_by, IsAnswered, IsStarted, IsEnded, IsWaiting, IsActive, IsMember, IsKept}
use Rattle.circus_audit.specs.RecordText.{IsRecordText}
use Rattle.circus_audit.specs.TextPieces.{Piece, whole, rest, pieces}
use Rattle.circus_audit.specs.declared.given.Given.{Given}
use Rattle.circus_audit.specs.declared.given.GivenEvent.{GivenEvent}
use Rattle.circus_audit.specs.declared.stage.Stage.TheVariants.{Done}
use Rattle.circus_audit.specs.Seen.Answers.{from_some}
use Rattle.circus_audit.specs.Seen.Breaking.{all_lines}
use Rattle.circus_audit.specs.Seen.Outlook.{can_run, has_procedures, any_asks, nothing_expected, bad_by_own, bad_in, bad_line}
use Rattle.circus_audit.specs.Seen.Reading.{has_root, own_read, beginning, given_by, stage_behind, rest_read, hosted_as, hosted_by, lines_read, record_read}
use Rattle.circus_audit.proofs.SoundingRecord.{joined}
use Rattle.circus_audit.proofs.CompletingRecord.{HasRows}
use Rattle.circus_audit.proofs.GoingOn.{either_left, either_right, get_all, IsKnown, one_passes}
use Rattle.circus_audit.proofs.GoingStages.{AreKnown, Leads, all_tell}
use Rattle.circus_audit.proofs.NoBadLine.{IsRow, clean_is_row, HasFirst, first_of, pieces_joined, lines_row, bad_from, none_among, none_behind}

-- ---- what is known of a record that may stand

pub some_procedure : (ps : List ProcedureShape) (number : ℕ) (arguments : List ValueTree) → arguments_fit ps number arguments ≡ true → nat_le 1 (length ps) ≡ true
some_procedure [] number arguments takes = cc
some_procedure (p ∷ ps) number arguments takes = le-leb 1 (length (p ∷ ps)) (omega arith)

pub one_root : (troupes : List Troupe) (root : ℕ) → option_map_or (λ (t : Troupe). t.root) (slice_get troupes root) false ≡ true → has_root troupes ≡ true
one_root [] root is = cc
one_root (t ∷ troupes) zero is = either_left t.root (has_root troupes) is
one_root (t ∷ troupes) (suc root) is = either_right t.root (has_root troupes) (one_root troupes root is)

some_import : (imports : List Import) (callee number : ℕ) (arguments : List ValueTree) → import_takes imports callee number arguments ≡ true → any_asks imports ≡ true
some_import imports callee number arguments takes = by_import (import_of callee imports) refl takes
  where
    by_import : (o : Option Import) → import_of callee imports ≡ o → option_map_or (λ (i : Import). arguments_fit i.procedures number arguments) o false ≡ true → any_asks imports ≡ true
    by_import None at read = cc
    by_import (Some i) at read = one_passes (λ (x : Import). nat_eq x.module callee) has_procedures imports i at (some_procedure i.procedures number arguments read)

module _ (plan : Plan) (own : ℕ) (s : Signature) (events : ℕ) (kept : MemberRecord) where
  answered_asks : (asks : List AskRecord) → AllByRecursion (IsAnswered plan s events) asks → AllByRecursion (λ (a : AskRecord). any_asks s.imports ≡ true) asks
  answered_asks [] all = tt
  answered_asks (a ∷ asks) all = (some_import s.imports a.callee a.procedure a.arguments all.0.made.takes, answered_asks asks all.1)

  -- a run of a procedure that a root entered, whose asks go to imports
  abbrev IsRunKnown : RunRecord → Type 0
  IsRunKnown run = ((can_run s ≡ true) × (has_root plan.deployment.troupes ≡ true)) × AllByRecursion (λ (a : AskRecord). any_asks s.imports ≡ true) run.asks

  started_known : (run : RunRecord) → IsStarted plan s events run → (can_run s ≡ true) × (has_root plan.deployment.troupes ≡ true)
  started_known run is = (some_procedure s.procedures run.procedure run.arguments is.takes, one_root plan.deployment.troupes run.root is.root)

  ended_known : (runs : List RunRecord) → AllByRecursion (IsEnded plan s events) runs → AllByRecursion IsRunKnown runs
  ended_known [] all = tt
  ended_known (run ∷ runs) all = ((started_known run all.0.began, answered_asks run.asks all.0.asks), ended_known runs all.1)

  more_all : {X : Type 0} (P : X → Type 0) (xs ys : List X) → AllByRecursion P xs → AllByRecursion P ys → AllByRecursion P (xs ++ ys)
  more_all P [] ys first second = second
  more_all P (x ∷ xs) ys first second = (first.0, more_all P xs ys first.1 second)

  waiting_known : (run : RunRecord) → IsWaiting plan s events run → IsRunKnown run
  waiting_known run is = (
    started_known run is.began,
    subst (AllByRecursion (λ (a : AskRecord). any_asks s.imports ≡ true)) (sym is.asks) (more_all (λ (a : AskRecord). any_asks s.imports ≡ true) is.before (is.last ∷ []) (answered_asks is.before is.answered) (some_import s.imports is.last.callee is.last.procedure is.last.arguments is.waits.made.takes, tt)),
  )

  known_by : kept.from ≤ last_count → kept.from + length kept.runs ≤ last_count + 1 → AllByRecursion IsRunKnown kept.runs → IsKnown plan own s kept
  known_by from few all = record {
    from_in = from;
    few = few;
    runs = λ i run at. (get_all IsRunKnown kept.runs i run all at).0.0;
    roots = λ i run at. (get_all IsRunKnown kept.runs i run all at).0.1;
    asks = λ i j run ask at got. get_all (λ (a : AskRecord). any_asks s.imports ≡ true) run.asks j ask (get_all IsRunKnown kept.runs i run all at).1 got;
  }

  runs_known : (from : ℕ) → IsActive plan s events from kept → AllByRecursion IsRunKnown kept.runs
  runs_known from is = subst (AllByRecursion IsRunKnown) (sym is.runs.are) (more_all IsRunKnown is.runs.ended is.runs.last (ended_known is.runs.ended is.runs.each) (by_last is.runs.last is.runs.one))
    where
      by_last : (last : List RunRecord) → (last ≡ []) ⊎ ((run : RunRecord) × (last ≡ run ∷ []) × IsWaiting plan s events run) → AllByRecursion IsRunKnown last
      by_last last (inl none) = subst (AllByRecursion IsRunKnown) (sym none) tt
      by_last last (inr one) = subst (AllByRecursion IsRunKnown) (sym one.1) (waiting_known one.0 one.2, tt)

  apart_known : (phase : Joiner) → kept ≡ before_any phase [] → IsKnown plan own s kept
  apart_known phase same =
      let from : kept.from ≡ 0 = ap (λ (k : MemberRecord). k.from) same in
      let runs : kept.runs ≡ [] = ap (λ (k : MemberRecord). k.runs) same in
      known_by (omega (arith, from)) (omega (arith, from, ap length runs)) (subst (AllByRecursion IsRunKnown) (sym runs) tt)

  member_known : (phase : Joiner) → IsMember plan s events kept phase → IsKnown plan own s kept
  member_known joiner.Outside same = apart_known joiner.Outside same
  member_known joiner.Asking same = apart_known joiner.Asking same
  member_known (joiner.Fetching incarnation) same = apart_known (joiner.Fetching 0) same
  member_known (joiner.Active from) is = known_by is.from is.runs.few (runs_known from is)

pub kept_known : (plan : Plan) (own events : ℕ) (troupe : Option ℕ) (member : Option MemberRecord) (views : Option (List View)) → troupe_at plan.deployment own ≡ troupe → IsKept plan events troupe member views → AreKnown plan own (hosted_by plan own) member (hosted_by plan own) member
kept_known plan own events (Some «module») (Some kept) None at is =
    let hosted_is : hosted_by plan own ≡ Some (hosted_as plan «module» is.0) = ap (option_and_then (λ m. option_map (hosted_as plan m) (declared_by plan m))) at ∙ ap (option_map (hosted_as plan «module»)) is.1 in
    subst (λ o. AreKnown plan own o (Some kept) o (Some kept)) (sym hosted_is) (member_known plan own is.0 events kept kept.phase is.2, refl)
kept_known plan own events None None (Some views) at is =
    let hosted_is : hosted_by plan own ≡ None = ap (option_and_then (λ m. option_map (hosted_as plan m) (declared_by plan m))) at in
    subst (λ o. AreKnown plan own o None o None) (sym hosted_is) tt
kept_known plan own events (Some «module») (Some kept) (Some views) at is = absurd is
kept_known plan own events (Some «module») None views at is = absurd is
kept_known plan own events None (Some kept) views at is = absurd is
kept_known plan own events None None None at is = absurd is

-- ---- the first line

-- a record behind its first line
pub first_read : (plan : Plan) (first text : List ℕ) (own : ℕ) → IsRow first → own_read plan first ≡ Some own → record_read plan (line first ++ text) ≡ rest_read plan own (hosted_by plan own) beginning text
first_read plan first text own row is =
    ap (λ r. from_some r (lines_read plan)) (lines_row first text row) ∙ by_lines (all_lines text)
  where
    by_lines : (r : Option (List (List ℕ))) → from_some (option_map (λ ls. first ∷ ls) r) (lines_read plan) ≡ from_some r (λ ls. from_some (stage_behind plan own (hosted_by plan own) beginning ls) (given_by plan own (hosted_by plan own)))
    by_lines (Some ls) = ap (λ o. from_some o (λ n. from_some (stage_behind plan n (hosted_by plan n) beginning ls) (given_by plan n (hosted_by plan n)))) is
    by_lines None = refl

pub one_at_least : (plan : Plan) (ps : List Piece) → 1 ≤ bad_in plan ps
one_at_least plan [] = omega arith
one_at_least plan (rest text ∷ others) = omega arith
one_at_least plan (whole text ∷ others) = by_own (own_read plan text)
  where
    by_own : (o : Option ℕ) → 1 ≤ bad_by_own plan others o
    by_own None = omega arith
    by_own (Some own) = let more = bad_from plan own (hosted_by plan own) others 2 nothing_expected beginning refl in omega (arith, more)

-- ---- no record

-- none whose lines lead to its end
pub none_has : (plan : Plan) (given : Given) (text other : List ℕ) (bad : ℕ) → IsRecordText plan given other → HasRows plan given other → record_read plan text ≡ None → bad_line plan text ≡ bad → take bad (pieces other) ≡ take bad (pieces text) → ⊥
none_has plan given text other zero is r unread at same = let one = one_at_least plan (pieces text) in omega (arith, one, at)
none_has plan given text other (suc k) is r unread at same = by_piece (first_of text) (ap pieces (r.text_is ∙ sym (append-nil (joined (r.first ∷ r.rows)))) ∙ pieces_joined (r.first ∷ r.rows) [] r.clean)
  where
    by_piece : HasFirst text → pieces other ≡ whole r.first ∷ (map (λ row. whole row) r.rows ++ rest [] ∷ []) → ⊥
    by_piece (inr only) there =
        let both : whole r.first ∷ take k (map (λ row. whole row) r.rows ++ rest [] ∷ []) ≡ rest text ∷ take k [] = sym (ap (take (suc k)) there) ∙ same ∙ ap (take (suc k)) only in
        cc (both)
    by_piece (inl found) there =
        let both : whole r.first ∷ take k (map (λ row. whole row) r.rows ++ rest [] ∷ []) ≡ whole found.0 ∷ take k (pieces found.1) = sym (ap (take (suc k)) there) ∙ same ∙ ap (take (suc k)) found.3 in
        let same_first : r.first ≡ found.0 = cc (both) in
        let others : take k (map (λ row. whole row) r.rows ++ rest [] ∷ []) ≡ take k (pieces found.1) = cc (both) in
        let own = given.node in
        let hosted = hosted_by plan own in
        let known = kept_known plan own (length given.events) (troupe_at plan.deployment own) given.member given.views refl is.possible.kept in
        let last = Done r.notes given.member given.views in
        let tell = all_tell plan own hosted given.member hosted given.member r.notes given.events r.events_are in
        let few_notes = r.few in
        let leads : Leads plan own hosted given.member last = record { is_kept = refl; tell = tell; short = omega (arith, few_notes) } in
        let text_is : text ≡ line r.first ++ found.1 = found.2 ∙ ap (λ f. line f ++ found.1) (sym same_first) in
        let behind = sym (first_read plan r.first found.1 own (clean_is_row r.first r.clean.0) r.own_is) ∙ ap (record_read plan) (sym text_is) ∙ unread in
        let given_last = ap (option_map (λ (events : List GivenEvent). record { node = own; events = events; member = given.member; views = given.views })) r.events_are in
        let slack = length found.1 + 1 in
        let all = none_among plan own hosted given.member known last leads r.rows k found.1 2 nothing_expected beginning (rest [] ∷ []) slack r.clean.1 r.reach refl tt (sym others) behind (omega arith) (none_behind plan own hosted given.member known last leads given slack given_last) in
        let read : own_read plan found.0 ≡ Some own = ap (own_read plan) (sym same_first) ∙ r.own_is in
        let line_is = ap (bad_in plan) found.3 ∙ ap (bad_by_own plan (pieces found.1)) read in
        omega (arith, all, line_is, at)
