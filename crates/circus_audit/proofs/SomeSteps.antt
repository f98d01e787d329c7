-- Behind each line that is read, and with which a record goes on, its stage rests well.
use Rattle.std.specs.List.{AllByRecursion, list_all, list_any}
use Rattle.std.specs.Option.{option_map_or, option_to_list}
use Rattle.std.proofs.Common.{◌≡◌, ◌∙◌, ℕ, ◌+◌, ◌-◌, ◌<◌, ◌≤◌, ◌^◌, ◌⊎◌, inl, inr, Bool, true, false, cond, not, ◌&&◌, ◌||◌, nat_eq, nat_lt, nat_le, List, [], ◌∷◌, ◌++◌, length, codes, bytes_eq, Option, Some, None, option_map, refl, sym, ap, subst, arith, append_assoc, append-nil, length-append, le-leb, ltb-false}
use Rattle.std.proofs.lemmas.Bool.{and_parts, eqb-true, eqb-false, leb-true, ltb-true}
use Rattle.circus_value.specs.ValueTree.{ValueTree}
use Rattle.circus_model.specs.declared.signature.Import.{Import}
use Rattle.circus_model.specs.declared.signature.ProcedureShape.{ProcedureShape}
use Rattle.circus_model.specs.declared.signature.Signature.{Signature}
use Rattle.circus_collate.specs.declared.view.View.{View}
use Rattle.circus_transfer.specs.declared.joiner.Joiner.TheVariants as joiner
use Rattle.circus_record.specs.declared.record.AskRecord.{AskRecord}
use Rattle.circus_record.specs.declared.record.RunRecord.{RunRecord}
use Rattle.circus_record.specs.declared.record.MemberRecord.{MemberRecord}
use Rattle.circus_performing.specs.Performing.{last_count}
use Rattle.circus_performing.specs.Record.{count_after}
use Rattle.circus_node.specs.Accepting.{troupe_at}
use Rattle.circus_config.specs.declared.plan.Plan.{Plan}
use Rattle.circus_value_text.specs.Reading.{behind_prefix}
use Rattle.circus_audit.specs.declared.noted.Differing.{Differing}
use Rattle.circus_audit.specs.declared.noted.Noted.{Noted}
use Rattle.circus_audit.specs.declared.noted.Kind.TheVariants.{Gives, Differences, Foreign}
use Rattle.circus_audit.specs.declared.noted.Happened.{Happened}
use Rattle.circus_audit.specs.declared.member_line.Phase.{Phase}
use Rattle.circus_audit.specs.declared.member_line.Phase.TheVariants.{Apart, Active}
use Rattle.circus_audit.specs.declared.performed.Current.{Current}
use Rattle.circus_audit.specs.declared.performed.Current.TheVariants.{Nothing, Run, Ask}
use Rattle.circus_audit.specs.declared.performed.Performed.{Performed}
use Rattle.circus_audit.specs.declared.performed.After.{After}
use Rattle.circus_audit.specs.declared.setting.Hosted.{Hosted}
use Rattle.circus_audit.specs.declared.stage.Stage.{Stage}
use Rattle.circus_audit.specs.declared.stage.Stage.TheVariants.{Events, Runs, Watching, Done}
use Rattle.circus_audit.specs.Seen.Answers.{from_some, or_else, only_if}
use Rattle.circus_audit.specs.Seen.Events.{event_read, give_read, differing_read, foreign_read}
use Rattle.circus_audit.specs.Seen.Happening.{all_noted, with_last, begin_event, differing_added, foreign_passed, event_added, give_added, happened_after, open_for}
use Rattle.circus_audit.specs.Seen.Names.{name_at}
use Rattle.circus_audit.specs.Seen.Lines.{phase_read, run_read, ask_read, reply_read, end_read, idle_read, waiting_read}
use Rattle.circus_audit.specs.Seen.Performing.{place_behind, on_with, finish_record, with_ask, with_ended, idles, waits, ask_begins, run_ends, run_goes_on, reply_comes, ask_goes_on, run_begins, next_read, performed_by, performed_after}
use Rattle.circus_audit.specs.Seen.Views.{view_read}
use Rattle.circus_audit.specs.Seen.Outlook.{can_run, names, is_within, all_within, all_asked, may_answer, answers_if, all_answer, some_procedure, some_import, newest_by, newest, suits, ended_well, rests_well, may_enter, may_have_ended, performs_well, performs, can_come, come_by, performs_by, goes_on}
use Rattle.circus_audit.specs.Seen.Reading.{has_root, node_names, record_apart, by_phase, after_line, with_views, who_read, member_if, ring_if, ring_at, noted_by, event_line_read, events_go_on, runs_go_on, views_go_on, stage_after}
use Rattle.circus_audit.proofs.Opening.{from_is, map_is, only_is, or_is}
use Rattle.circus_audit.proofs.SoundingLines.{run_sound, reply_sound, end_sound}
use Rattle.circus_audit.proofs.SoundingHappening.{HasLines, all_of}
use Rattle.circus_audit.proofs.SoundingPerforming.{last_is, place_is, run_now}
use Rattle.circus_audit.proofs.SoundingStages.{IsPhase, phase_sound, IsStage}
use Rattle.circus_audit.proofs.GoingBack.{open_last}
use Rattle.circus_audit.proofs.SomeAsks.{AllAnswer, then_answer, answered_last, Answerable}
use Rattle.circus_audit.proofs.SomeRuns.{CanEnter, CanBeAsked, RunsAnswer, answer_more, asked_more, IsNowWell}
use Rattle.circus_audit.proofs.SomeTold.{said}
use Rattle.circus_audit.proofs.SomeStages.{ComesBy, EndsWell, PerformsWell, RestsWell}

-- ---- what was said

said_more : (notes : List Noted) (n : Noted) → said (notes ++ n ∷ []) ≡ said notes ++ n.differing
said_more [] n = append-nil n.differing
said_more (x ∷ notes) n = ap (λ ds. x.differing ++ ds) (said_more notes n) ∙ sym (append_assoc x.differing (said notes) n.differing)

-- a line says what is new in it
abbrev SaysMore : Happened → Happened → Type 0
SaysMore h next = said (noted_by next) ≡ said (noted_by h) ++ option_to_list (newest_by next.kind next.last)

module _ (h : Happened) (earlier : List Noted) (n : Noted) (before : h.earlier ≡ earlier) (last : h.last ≡ Some n) where
  said_before : said (noted_by h) ≡ said earlier ++ n.differing
  said_before = (λ i. said (all_noted (before i) (last i))) ∙ said_more earlier n

  -- another last event, with the same lines of replies
  says_same : (m : Noted) → m.differing ≡ n.differing → said (earlier ++ m ∷ []) ≡ said (noted_by h) ++ []
  says_same m same = said_more earlier m ∙ ap (λ ds. said earlier ++ ds) same ∙ sym said_before ∙ sym (append-nil (said (noted_by h)))

  says_one : (m : Noted) (d : Differing) → m.differing ≡ n.differing ++ d ∷ [] → said (earlier ++ m ∷ []) ≡ said (noted_by h) ++ d ∷ []
  says_one m d one =
      said_more earlier m ∙ ap (λ ds. said earlier ++ ds) one ∙ sym (append_assoc (said earlier) n.differing (d ∷ [])) ∙ ap (λ ds. ds ++ d ∷ []) (sym said_before)

module _ (nodes : List (List ℕ)) (own : ℕ) (h : Happened) (next : Happened) where
  event_says : (text : List ℕ) → event_added nodes own h text ≡ Some next → SaysMore h next
  event_says text is =
      let earlier = all_noted h.earlier h.last in
      let made = map_is (begin_event earlier) (event_read nodes own (length earlier) text) next is in
      subst (SaysMore h) made.2 (said_more earlier (record { event = made.0; gives = []; differing = [] }))

  give_says : (text : List ℕ) → give_added nodes own h text ≡ Some next → SaysMore h next
  give_says text is =
      let opened = from_is (open_for Gives h) (λ r. option_map (λ give. with_last r.0 Gives (record { event = r.1.event; gives = r.1.gives ++ give ∷ []; differing = r.1.differing })) (give_read nodes own text)) next is in
      let r = opened.0 in
      let at = open_last (λ d. ⊥) Gives h r opened.1 in
      let made = map_is (λ give. with_last r.0 Gives (record { event = r.1.event; gives = r.1.gives ++ give ∷ []; differing = r.1.differing })) (give_read nodes own text) next opened.2 in
      subst (SaysMore h) made.2 (says_same h r.0 r.1 at.0 at.1 (record { event = r.1.event; gives = r.1.gives ++ made.0 ∷ []; differing = r.1.differing }) refl)

  differ_says : (text : List ℕ) → differing_added h text ≡ Some next → SaysMore h next
  differ_says text is =
      let opened = from_is (open_for Differences h) (λ r. option_map (λ d. with_last r.0 Differences (record { event = r.1.event; gives = r.1.gives; differing = r.1.differing ++ d ∷ [] })) (differing_read text)) next is in
      let r = opened.0 in
      let at = open_last (λ d. ⊥) Differences h r opened.1 in
      let made = map_is (λ d. with_last r.0 Differences (record { event = r.1.event; gives = r.1.gives; differing = r.1.differing ++ d ∷ [] })) (differing_read text) next opened.2 in
      let new = last_is r.1.differing made.0 in
      subst (SaysMore h) made.2 (says_one h r.0 r.1 at.0 at.1 (record { event = r.1.event; gives = r.1.gives; differing = r.1.differing ++ made.0 ∷ [] }) made.0 refl ∙ ap (λ o. said (noted_by h) ++ option_to_list o) (sym new))

  foreign_says : (text : List ℕ) → foreign_passed h text ≡ Some next → SaysMore h next
  foreign_says text is =
      let opened = from_is (open_for Foreign h) (λ r. option_map (λ stray. with_last r.0 Foreign r.1) (foreign_read text)) next is in
      let r = opened.0 in
      let at = open_last (λ d. ⊥) Foreign h r opened.1 in
      let made = map_is (λ stray. with_last r.0 Foreign r.1) (foreign_read text) next opened.2 in
      subst (SaysMore h) made.2 (says_same h r.0 r.1 at.0 at.1 r.1 refl)

  happened_says : (row : List ℕ) → happened_after nodes own h row ≡ Some next → SaysMore h next
  happened_says row is =
      elim (or_is (behind_prefix (codes "event ") row) (event_added nodes own h) (or_else (behind_prefix (codes "give ") row) (give_added nodes own h) (or_else (behind_prefix (codes "differ run ") row) (differing_added h) (from_some (behind_prefix (codes "foreign ") row) (foreign_passed h)))) next is) [
        | inl e ↦ event_says e.0 e.2
        | inr o ↦
            elim (or_is (behind_prefix (codes "give ") row) (give_added nodes own h) (or_else (behind_prefix (codes "differ run ") row) (differing_added h) (from_some (behind_prefix (codes "foreign ") row) (foreign_passed h))) next o.1) [
              | inl g ↦ give_says g.0 g.2
              | inr p ↦
                  elim (or_is (behind_prefix (codes "differ run ") row) (differing_added h) (from_some (behind_prefix (codes "foreign ") row) (foreign_passed h)) next p.1) [
                    | inl d ↦ differ_says d.0 d.2
                    | inr q ↦ foreign q.1
                  ]
            ]
      ]
    where
      foreign : from_some (behind_prefix (codes "foreign ") row) (foreign_passed h) ≡ Some next → SaysMore h next
      foreign read =
          let opened = from_is (behind_prefix (codes "foreign ") row) (foreign_passed h) next read in
          foreign_says opened.0 opened.2

-- ---- asks that can be made

and_true : (b : Bool) → (b && true) ≡ b
and_true true = refl
and_true false = refl

and_group : (a b c : Bool) → (a && (b && c)) ≡ ((a && b) && c)
and_group true b c = refl
and_group false b c = refl

all_then : {X : Type 0} (test : X → Bool) (xs : List X) (x : X) → list_all test (xs ++ x ∷ []) ≡ (list_all test xs && test x)
all_then test [] x = and_true (test x)
all_then test (y ∷ xs) x = ap (λ t. test y && t) (all_then test xs x) ∙ and_group (test y) (list_all test xs) (test x)

any_weaker : {X : Type 0} (f g : X → Bool) (xs : List X) → ((x : X) → f x ≡ true → g x ≡ true) → list_any f xs ≡ true → list_any g xs ≡ true
any_weaker f g [] weaker is = is
any_weaker f g (x ∷ xs) weaker is = by_first (f x) refl (g x) (weaker x) is (any_weaker f g xs weaker)
  where
    by_first : (a : Bool) → f x ≡ a → (b : Bool) → (f x ≡ true → b ≡ true) → (a || list_any f xs) ≡ true → (list_any f xs ≡ true → list_any g xs ≡ true) → (b || list_any g xs) ≡ true
    by_first true at b first some later = ap (λ t. t || list_any g xs) (first at)
    by_first false at true first some later = refl
    by_first false at false first some later = later some

module _ (plan : Plan) (own : ℕ) (s : Signature) (expected : List Differing) (d : Differing) where
  fewer_answer : (place number callee procedure : ℕ) → all_answer (node_names plan) (length plan.names) own s.imports (expected ++ d ∷ []) place number callee procedure ≡ true → all_answer (node_names plan) (length plan.names) own s.imports expected place number callee procedure ≡ true
  fewer_answer place number callee procedure is =
      let test = answers_if (node_names plan) (length plan.names) own s.imports place number callee procedure in
      (and_parts (list_all test expected) (test d) (sym (all_then test expected d) ∙ is)).0

  fewer_import : (place number : ℕ) → some_import (node_names plan) (length plan.names) own s.imports (expected ++ d ∷ []) place number ≡ true → some_import (node_names plan) (length plan.names) own s.imports expected place number ≡ true
  fewer_import place number is = any_weaker (some_procedure (node_names plan) (length plan.names) own s.imports (expected ++ d ∷ []) place number) (some_procedure (node_names plan) (length plan.names) own s.imports expected place number) s.imports (λ i. any_weaker (λ (p : ProcedureShape). all_answer (node_names plan) (length plan.names) own s.imports (expected ++ d ∷ []) place number i.module p.number) (λ (p : ProcedureShape). all_answer (node_names plan) (length plan.names) own s.imports expected place number i.module p.number) i.procedures (λ p. fewer_answer place number i.module p.number)) is

  -- a line that names another ask changes nothing
  elsewhere : (place number : ℕ) → names place number d ≡ false → (callee procedure : ℕ) → all_answer (node_names plan) (length plan.names) own s.imports (expected ++ d ∷ []) place number callee procedure ≡ all_answer (node_names plan) (length plan.names) own s.imports expected place number callee procedure
  elsewhere place number other callee procedure =
      let test = answers_if (node_names plan) (length plan.names) own s.imports place number callee procedure in
      all_then test expected d
      ∙ ap (λ t. list_all test expected && cond t (may_answer (node_names plan) (length plan.names) own s.imports callee procedure d) true) other
      ∙ and_true (list_all test expected)

  import_elsewhere : (place number : ℕ) → names place number d ≡ false → some_import (node_names plan) (length plan.names) own s.imports (expected ++ d ∷ []) place number ≡ some_import (node_names plan) (length plan.names) own s.imports expected place number
  import_elsewhere place number other = λ i. list_any (λ (x : Import). list_any (λ (p : ProcedureShape). elsewhere place number other x.module p.number i) x.procedures) s.imports

  -- with one line more all asks can still be made
  answerable_more : CanBeAsked plan own s expected → some_import (node_names plan) (length plan.names) own s.imports (expected ++ d ∷ []) d.run d.ask ≡ true → Answerable plan own s (expected ++ d ∷ [])
  answerable_more come here place number = by_names (nat_eq d.run place) (nat_eq d.ask number) refl refl
    where
      old : CanBeAsked plan own s expected → some_import (node_names plan) (length plan.names) own s.imports expected place number ≡ true
      old (inr free) = free.1 place number
      old (inl none) =
          ap (λ e. some_import (node_names plan) (length plan.names) own s.imports e place number) none
          ∙ sym (ap (λ e. some_import (node_names plan) (length plan.names) own s.imports e d.run d.ask) none)
          ∙ fewer_import d.run d.ask here

      by_names : (x y : Bool) → nat_eq d.run place ≡ x → nat_eq d.ask number ≡ y → some_import (node_names plan) (length plan.names) own s.imports (expected ++ d ∷ []) place number ≡ true
      by_names true true one two = (λ i. some_import (node_names plan) (length plan.names) own s.imports (expected ++ d ∷ []) (sym (eqb-true d.run place one) i) (sym (eqb-true d.ask number two) i)) ∙ here
      by_names true false one two = import_elsewhere place number ((λ i. one i && two i)) ∙ old come
      by_names false y one two = import_elsewhere place number (ap (λ t. t && nat_eq d.ask number) one) ∙ old come

or_false : (b : Bool) → (b || false) ≡ true → b ≡ true
or_false true is = refl
or_false false is = is

-- ---- lines

-- a run's place is a number of four bytes
place_so : (from runs : ℕ) → from + runs ≤ last_count → place_behind from runs ≡ Some (from + runs)
place_so from runs few = ap (λ t. cond t (Some (from + runs)) None) (le-leb (from + runs) 4294967295 few)

named_within : (from count : ℕ) (ds : List Differing) → all_within from count ds ≡ true → AllByRecursion (λ (d : Differing). (from ≤ d.run) × (d.run < count + 1)) ds
named_within from count [] is = tt
named_within from count (d ∷ ds) is =
    let parts = and_parts (is_within from count d) (all_within from count ds) is in
    (by_tests (nat_lt d.run from) (nat_lt count d.run) refl refl parts.0, named_within from count ds parts.1)
  where
    by_tests : (x y : Bool) → nat_lt d.run from ≡ x → nat_lt count d.run ≡ y → not (x || y) ≡ true → (from ≤ d.run) × (d.run < count + 1)
    by_tests true y one two inside = cc
    by_tests false true one two inside = cc
    by_tests false false one two inside =
        let low = ltb-false d.run from one in
        let high = ltb-false count d.run two in
        (omega (arith, low), omega (arith, high))

-- a member that performs no run may rest so, wherever it is
nothing_performs : (plan : Plan) (own : ℕ) (s : Signature) (expected : List Differing) (p : Performed) → performs (node_names plan) (length plan.names) own s expected (record p { current = Nothing }) ≡ rests_well s expected (record p { current = Nothing })
nothing_performs plan own s expected p = by_place (place_behind p.from (length p.runs))
  where
    by_place : (o : Option ℕ) → option_map_or (performs_well (node_names plan) (length plan.names) own s expected (record p { current = Nothing }) Nothing) o (rests_well s expected (record p { current = Nothing })) ≡ rests_well s expected (record p { current = Nothing })
    by_place None = refl
    by_place (Some place) = refl

module _ (plan : Plan) (own : ℕ) (hosted : Option Hosted) (expected : List Differing) where
  -- the stage rests well if the record goes on from it
  abbrev GoesWell : Stage → Type 0
  GoesWell next = goes_on (node_names plan) (length plan.names) own hosted (expected ++ option_to_list (newest next)) next ≡ true → RestsWell plan own hosted (expected ++ option_to_list (newest next)) next

  tells_none : (next : Stage) → newest next ≡ None → (goes_on (node_names plan) (length plan.names) own hosted expected next ≡ true → RestsWell plan own hosted expected next) → GoesWell next
  tells_none next none = subst (λ e. goes_on (node_names plan) (length plan.names) own hosted e next ≡ true → RestsWell plan own hosted e next) (sym (ap (λ o. expected ++ option_to_list o) none ∙ append-nil expected))

  -- ---- the Ringmaster

  views_well : (notes : List Noted) (views : List View) → length views ≤ length plan.names → expected ≡ said notes → expected ≡ [] → hosted ≡ None → GoesWell (with_views plan notes views)
  views_well notes views few is none apart = by_test (nat_eq (length views) (length plan.names)) refl
    where
      by_test : (b : Bool) → nat_eq (length views) (length plan.names) ≡ b → GoesWell (cond b (Done notes None (Some views)) (Watching notes views))
      by_test true all = tells_none (Done notes None (Some views)) refl (λ on. (is, subst (λ o. EndsWell plan own o None expected) (sym apart) none))
      by_test false more =
          let other = eqb-false (length views) (length plan.names) more in
          tells_none (Watching notes views) refl (λ on. (is, none, apart, less (length views) (length plan.names) few other))
        where
          less : (a b : ℕ) → a ≤ b → (a ≡ b → ⊥) → a < b
          less a b small other = by_less (nat_lt a b) refl
            where
              by_less : (t : Bool) → nat_lt a b ≡ t → a < b
              by_less true smaller = ltb-true a b smaller
              by_less false larger = let large = ltb-false a b larger in absurd (other (omega (arith, small, large)))

  -- ---- members

  module _ (host : Hosted) (at : hosted ≡ Some host) (rooted : host.rooted ≡ has_root plan.deployment.troupes) where
    abbrev s : Signature
    s = host.signature

    kept_well : (notes : List Noted) (kept : MemberRecord) → expected ≡ said notes → RunsAnswer plan own s expected kept.from kept.runs → GoesWell (Done notes (Some kept) None)
    kept_well notes kept is answer = tells_none (Done notes (Some kept) None) refl (λ on. (is, subst (λ o. EndsWell plan own o (Some kept) expected) (sym at) (answer, on)))

    -- where a member performs on, it performs well
    runs_well : (notes : List Noted) (p : Performed) → expected ≡ said notes → (performs (node_names plan) (length plan.names) own s expected p ≡ true → may_enter host p ≡ true → PerformsWell plan own host expected p) → GoesWell (Runs notes p)
    runs_well notes p is well = tells_none (Runs notes p) refl (λ on. (is, (host, at, by_both (subst (λ o. performs_by (node_names plan) (length plan.names) own o expected p ≡ true) at on))))
      where
        by_both : (may_enter host p && performs (node_names plan) (length plan.names) own s expected p) ≡ true → PerformsWell plan own host expected p
        by_both both =
            let parts = and_parts (may_enter host p) (performs (node_names plan) (length plan.names) own s expected p) both in
            well parts.1 parts.0

    -- behind the first line of a member
    begun_well : CanBeAsked plan own s expected → (notes : List Noted) (from since count : ℕ) → count < 2 ^ 32 → expected ≡ said notes → GoesWell (Runs notes (record { from = from; since = since; count = count; runs = []; current = Nothing }))
    begun_well come notes from since count few is =
        let p : Performed = record { from = from; since = since; count = count; runs = []; current = Nothing } in
        runs_well notes p is (λ good enter. by_suits enter (sym (nothing_performs plan own s expected p) ∙ good))
      where
        enters : (host.rooted || nat_eq from count) ≡ true → (nat_eq from count || can_run s) ≡ true → (from ≡ count) ⊎ CanEnter plan s
        enters first second = by_test (nat_eq from count) refl first second
          where
            by_test : (b : Bool) → nat_eq from count ≡ b → (host.rooted || b) ≡ true → (b || can_run s) ≡ true → (from ≡ count) ⊎ CanEnter plan s
            by_test true same one two = inl (eqb-true from count same)
            by_test false other one two = inr (sym rooted ∙ or_false host.rooted one, two)

        by_suits : (host.rooted || nat_eq from count) ≡ true → (nat_le from count && ((nat_eq from count || can_run s) && all_within from count expected)) ≡ true → PerformsWell plan own host expected (record { from = from; since = since; count = count; runs = []; current = Nothing })
        by_suits enter suit =
            let first = and_parts (nat_le from count) ((nat_eq from count || can_run s) && all_within from count expected) suit in
            let second = and_parts (nat_eq from count || can_run s) (all_within from count expected) first.1 in
            let least = leb-true from count first.0 in
            record {
              come = come;
              least = least;
              most = omega (arith, few);
              named = named_within from count expected second.1;
              enters = enters enter second.0;
              counted = inl (omega (arith, least));
              answer = tt;
              asked = tt;
              now = tt;
            }

    -- ---- what an active member does

    module _ (notes : List Noted) (short : length notes < 2 ^ 64) (is : expected ≡ said notes) where
      abbrev events : ℕ
      events = length notes

      -- with another run performed
      abbrev now_as : Performed → Current → Performed
      now_as p current = record p { current = current }

      with_now : (p : Performed) (c d : Current) → PerformsWell plan own host expected (now_as p c) → IsNowWell plan own s expected p.from p.count p.runs d → PerformsWell plan own host expected (now_as p d)
      with_now p c d w now = record {
        come = w.come;
        least = w.least;
        most = w.most;
        named = w.named;
        enters = w.enters;
        counted = w.counted;
        answer = w.answer;
        asked = w.asked;
        now = now;
      }

      -- by the place of the run
      at_place : (p : Performed) → p.from + length p.runs ≤ last_count → performs (node_names plan) (length plan.names) own s expected p ≡ true → performs_well (node_names plan) (length plan.names) own s expected p p.current (p.from + length p.runs) ≡ true
      at_place p few good = sym (ap (λ o. option_map_or (performs_well (node_names plan) (length plan.names) own s expected p p.current) o (rests_well s expected p)) (place_so p.from (length p.runs) few)) ∙ good

      abbrev LeadsWell : After → Type 0
      LeadsWell after = GoesWell (after_line notes after)

      last_well : (p : Performed) (runs : List RunRecord) (state : List ValueTree) → RunsAnswer plan own s expected p.from runs → LeadsWell (finish_record p.from p.since p.count runs state)
      last_well p runs state answer = kept_well notes (record { phase = joiner.Active p.from; from = p.from; active_at = p.since; count = p.count; runs = runs; state = state }) is answer

      run_well : (p : Performed) (run : RunRecord) → p.from + length p.runs ≤ last_count → run.asks ≡ [] → PerformsWell plan own host expected (now_as p Nothing) → LeadsWell (on_with p (Run run))
      run_well p run few none w =
          runs_well notes (now_as p (Run run)) is (λ good enter. with_now p Nothing (Run run) w (at_place (now_as p (Run run)) few good, subst (AllAnswer plan own s expected (p.from + length p.runs) 0) (sym none) tt))

      ask_well : (p : Performed) (run : RunRecord) (ask : AskRecord) → p.from + length p.runs ≤ last_count → PerformsWell plan own host expected (now_as p (Run run)) → LeadsWell (on_with p (Ask run ask))
      ask_well p run ask few w =
          runs_well notes (now_as p (Ask run ask)) is (λ good enter. with_now p (Run run) (Ask run ask) w (w.now.0, then_answer plan own s expected (p.from + length p.runs) run.asks (ask ∷ []) w.now.1 (at_place (now_as p (Ask run ask)) few good, tt)))

      reply_well : (p : Performed) (run : RunRecord) (ask replied : AskRecord) → ask.callee ≡ replied.callee → ask.procedure ≡ replied.procedure → PerformsWell plan own host expected (now_as p (Ask run ask)) → LeadsWell (on_with p (Run (with_ask run replied)))
      reply_well p run ask replied callee procedure w =
          runs_well notes (now_as p (Run (with_ask run replied))) is (λ good enter. with_now p (Ask run ask) (Run (with_ask run replied)) w (w.now.0, answered_last plan own s expected (p.from + length p.runs) 0 run.asks ask replied callee procedure w.now.1))

      -- behind an end
      abbrev ended_as : Performed → RunRecord → Performed
      ended_as p run = record p { runs = p.runs ++ run ∷ []; current = Nothing }

      has_ended : (p : Performed) (run : RunRecord) → p.from + length p.runs ≤ last_count → performs (node_names plan) (length plan.names) own s expected (ended_as p run) ≡ true → ((nat_lt (p.from + length p.runs) p.count || nat_eq p.count 4294967295) && all_asked (p.from + length p.runs) (length run.asks) expected) ≡ true
      has_ended p run few good =
          let last : length (p.runs ++ run ∷ []) - 1 ≡ length p.runs = omega (arith, length-append p.runs (run ∷ [])) in
          let place : place_behind p.from (length (p.runs ++ run ∷ []) - 1) ≡ Some (p.from + length p.runs) = ap (place_behind p.from) last ∙ place_so p.from (length p.runs) few in
          sym (
          nothing_performs plan own s expected (ended_as p run)
          ∙ ap (λ o. option_map_or (ended_well expected (ended_as p run)) o (suits s expected (ended_as p run))) (last_is p.runs run)
          ∙ ap (λ o. option_map_or (may_have_ended expected (ended_as p run) run) o true) place)
          ∙ good

      end_well : (p : Performed) (run ended : RunRecord) → p.from + length p.runs ≤ last_count → ended.asks ≡ run.asks → PerformsWell plan own host expected (now_as p (Run run)) → LeadsWell (with_ended p ended)
      end_well p run ended few same w = runs_well notes (ended_as p ended) is (λ good enter. made (has_ended p ended few good))
        where
          counts : (x y : Bool) → nat_lt (p.from + length p.runs) p.count ≡ x → nat_eq p.count 4294967295 ≡ y → (x || y) ≡ true → (p.from + length (p.runs ++ ended ∷ []) ≤ p.count) ⊎ ((p.count ≡ last_count) × (p.from + length (p.runs ++ ended ∷ []) ≤ last_count + 1))
          counts true y one two may = let less = ltb-true (p.from + length p.runs) p.count one in inl (omega (arith, less, length-append p.runs (ended ∷ [])))
          counts false true one two may = inr (eqb-true p.count 4294967295 two, omega (arith, few, length-append p.runs (ended ∷ [])))
          counts false false one two may = cc

          made : ((nat_lt (p.from + length p.runs) p.count || nat_eq p.count 4294967295) && all_asked (p.from + length p.runs) (length ended.asks) expected) ≡ true → PerformsWell plan own host expected (ended_as p ended)
          made both =
              let parts = and_parts (nat_lt (p.from + length p.runs) p.count || nat_eq p.count 4294967295) (all_asked (p.from + length p.runs) (length ended.asks) expected) both in
              record {
                come = w.come;
                least = w.least;
                most = w.most;
                named = w.named;
                enters = w.enters;
                counted = counts (nat_lt (p.from + length p.runs) p.count) (nat_eq p.count 4294967295) refl refl parts.0;
                answer = answer_more plan own s expected p.from p.runs ended w.answer (subst (AllAnswer plan own s expected (p.from + length p.runs) 0) (sym same) w.now.1);
                asked = asked_more plan own s expected p.from p.runs ended w.asked parts.1;
                now = tt;
              }

      -- ---- by any line

      next_step : (p : Performed) (row : List ℕ) (after : After) → next_read plan.names plan.deployment s events p row ≡ Some after → PerformsWell plan own host expected (now_as p Nothing) → LeadsWell after
      next_step p row after read w =
          elim (or_is (behind_prefix (codes "run ") row) (run_begins plan.names plan.deployment s events (length row) p) (from_some (behind_prefix (codes "now idle") row) (idles s p)) after read) [
            | inl r ↦ begins r.0 r.2
            | inr o ↦ idle o.1
          ]
        where
          begins : (inner : List ℕ) → run_begins plan.names plan.deployment s events (length row) p inner ≡ Some after → LeadsWell after
          begins inner so =
              let there = from_is (place_behind p.from (length p.runs)) (λ place. option_map (λ run. on_with p (Run run)) (run_read plan.names plan.deployment s events (length row) place inner)) after so in
              let made = map_is (λ run. on_with p (Run run)) (run_read plan.names plan.deployment s events (length row) there.0 inner) after there.2 in
              let r = run_sound plan.names plan.deployment s events (length row) there.0 inner made.0 short made.1 in
              subst LeadsWell made.2 (run_well p made.0 (place_is p.from (length p.runs) there.0 there.1).1 (ap (λ (x : RunRecord). x.asks) r.is_run) w)

          idle : from_some (behind_prefix (codes "now idle") row) (idles s p) ≡ Some after → LeadsWell after
          idle so =
              let opened = from_is (behind_prefix (codes "now idle") row) (idles s p) after so in
              let test = only_is (nat_eq (count_after p.from (length p.runs)) p.count) (option_map (finish_record p.from p.since p.count p.runs) (idle_read s opened.0)) after opened.2 in
              let made = map_is (finish_record p.from p.since p.count p.runs) (idle_read s opened.0) after test.1 in
              subst LeadsWell made.2 (last_well p p.runs made.0 w.answer)

      on_step : (p : Performed) (run : RunRecord) (row : List ℕ) (after : After) → p.from + length p.runs ≤ last_count → run_goes_on plan.names s events p run row ≡ Some after → PerformsWell plan own host expected (now_as p (Run run)) → LeadsWell after
      on_step p run row after few read w =
          elim (or_is (behind_prefix (codes "ask ") row) (ask_begins plan.names s events p run) (from_some (behind_prefix (codes "end ") row) (run_ends plan.names s events p run)) after read) [
            | inl r ↦ asks r.0 r.2
            | inr o ↦ ends o.1
          ]
        where
          asks : (inner : List ℕ) → ask_begins plan.names s events p run inner ≡ Some after → LeadsWell after
          asks inner so =
              let made = map_is (λ ask. on_with p (Ask run ask)) (ask_read plan.names s events (length run.asks) inner) after so in
              subst LeadsWell made.2 (ask_well p run made.0 few w)

          ends : from_some (behind_prefix (codes "end ") row) (run_ends plan.names s events p run) ≡ Some after → LeadsWell after
          ends so =
              let opened = from_is (behind_prefix (codes "end ") row) (run_ends plan.names s events p run) after so in
              let there = from_is (place_behind p.from (length p.runs)) (λ place. option_map (with_ended p) (end_read (length plan.names) s events place run opened.0)) after opened.2 in
              let made = map_is (with_ended p) (end_read (length plan.names) s events there.0 run opened.0) after there.2 in
              let r = end_sound (length plan.names) s events there.0 run opened.0 made.0 short made.1 in
              subst LeadsWell made.2 (end_well p run made.0 few (ap (λ (x : RunRecord). x.asks) r.is_ended) w)

      wait_step : (p : Performed) (run : RunRecord) (ask : AskRecord) (row : List ℕ) (after : After) → ask_goes_on plan.names s events p run ask row ≡ Some after → PerformsWell plan own host expected (now_as p (Ask run ask)) → LeadsWell after
      wait_step p run ask row after read w =
          elim (or_is (behind_prefix (codes "reply ") row) (reply_comes plan.names s events p run ask) (from_some (behind_prefix (codes "now waiting ask ") row) (waits s p run ask)) after read) [
            | inl r ↦ replies r.0 r.2
            | inr o ↦ waiting o.1
          ]
        where
          replies : (inner : List ℕ) → reply_comes plan.names s events p run ask inner ≡ Some after → LeadsWell after
          replies inner so =
              let made = map_is (λ replied. on_with p (Run (with_ask run replied))) (reply_read (length plan.names) s events (length run.asks) ask inner) after so in
              let r = reply_sound (length plan.names) s events (length run.asks) ask inner made.0 short made.1 in
              subst LeadsWell made.2 (reply_well p run ask made.0 (sym (ap (λ (x : AskRecord). x.callee) r.is_replied)) (sym (ap (λ (x : AskRecord). x.procedure) r.is_replied)) w)

          waiting : from_some (behind_prefix (codes "now waiting ask ") row) (waits s p run ask) ≡ Some after → LeadsWell after
          waiting so =
              let opened = from_is (behind_prefix (codes "now waiting ask ") row) (waits s p run ask) after so in
              let runs = p.runs ++ with_ask run ask ∷ [] in
              let there = from_is (place_behind p.from (length p.runs)) (λ place. only_if (nat_eq place p.count) (option_map (finish_record p.from p.since p.count runs) (waiting_read s (length run.asks) opened.0))) after opened.2 in
              let test = only_is (nat_eq there.0 p.count) (option_map (finish_record p.from p.since p.count runs) (waiting_read s (length run.asks) opened.0)) after there.2 in
              let made = map_is (finish_record p.from p.since p.count runs) (waiting_read s (length run.asks) opened.0) after test.1 in
              subst LeadsWell made.2 (last_well p runs made.0 (answer_more plan own s expected p.from p.runs (with_ask run ask) w.answer w.now.1))

      by_step : (p : Performed) (current : Current) (row : List ℕ) (after : After) → p.from + length (p.runs ++ run_now current) ≤ last_count + 1 → performed_by plan.names plan.deployment s events p current row ≡ Some after → PerformsWell plan own host expected (now_as p current) → LeadsWell after
      by_step p Nothing row after few read w = next_step p row after read w
      by_step p (Run run) row after few read w = on_step p run row after (omega (arith, few, length-append p.runs (run ∷ []))) read w
      by_step p (Ask run ask) row after few read w = wait_step p run ask row after read w

      performed_step : (p : Performed) (row : List ℕ) (after : After) → p.from + length (p.runs ++ run_now p.current) ≤ last_count + 1 → performed_after plan.names plan.deployment s events p row ≡ Some after → PerformsWell plan own host expected p → LeadsWell after
      performed_step p row after few read w = by_step (record p { current = Nothing }) p.current row after few read w

  -- ---- by any line

  module _ (rooted : (host : Hosted) → hosted ≡ Some host → host.rooted ≡ has_root plan.deployment.troupes) (apart : troupe_at plan.deployment own ≡ None → hosted ≡ None) where
    phase_well : (host : Hosted) → hosted ≡ Some host → CanBeAsked plan own host.signature expected → (notes : List Noted) (phase : Phase) → IsPhase (length notes) phase → expected ≡ said notes → GoesWell (by_phase notes phase)
    phase_well host at come notes (Apart phase) possible is = kept_well host at (rooted host at) notes (record_apart phase) is tt
    phase_well host at come notes (Active from since count) possible is = begun_well host at (rooted host at) come notes from since count possible.2 is

    member_step : (o : Option Hosted) (notes : List Noted) (inner : List ℕ) (next : Stage) → hosted ≡ o → length notes < 2 ^ 64 → ComesBy plan own o expected → expected ≡ said notes → member_if plan own notes o inner ≡ Some next → GoesWell next
    member_step None notes inner next at short come is read = cc
    member_step (Some host) notes inner next at short come is read =
        let who = from_is (who_read plan own host.«module» inner) (λ rest. option_map (by_phase notes) (phase_read (length notes) rest)) next read in
        let phase = map_is (by_phase notes) (phase_read (length notes) who.0) next who.2 in
        let p = phase_sound (length notes) who.0 phase.0 short phase.1 in
        subst GoesWell phase.2 (phase_well host at come notes phase.0 p.1 is)

    ring_step : (o : Option ℕ) (notes : List Noted) (inner : List ℕ) (next : Stage) → troupe_at plan.deployment own ≡ o → ComesBy plan own hosted expected → expected ≡ said notes → ring_if plan o notes inner ≡ Some next → GoesWell next
    ring_step (Some troupe) notes inner next none come is read = cc
    ring_step None notes inner next none come is read =
        let a = from_is (behind_prefix (name_at (node_names plan) 0) inner) (λ rest. only_if (bytes_eq rest (codes " live")) (Some (with_views plan notes []))) next read in
        let test = only_is (bytes_eq a.0 (codes " live")) (Some (with_views plan notes [])) next a.2 in
        let same : with_views plan notes [] ≡ next = cc (test.1) in
        let nobody = apart none in
        subst GoesWell same (views_well notes [] (omega arith) is (subst (λ o. ComesBy plan own o expected) nobody come) nobody)

    come_step : (o : Option Hosted) (d : Option Differing) → hosted ≡ o → ComesBy plan own o expected → come_by (node_names plan) (length plan.names) own o (expected ++ option_to_list d) d ≡ true → ComesBy plan own o (expected ++ option_to_list d)
    come_step o None at come on = subst (ComesBy plan own o) (sym (append-nil expected)) come
    come_step None (Some d) at come on = cc
    come_step (Some host) (Some d) at come on =
        let more = expected ++ d ∷ [] in
        let first = and_parts host.rooted (can_come (node_names plan) (length plan.names) own host.signature more d) on in
        let second = and_parts (can_run host.signature) (some_import (node_names plan) (length plan.names) own host.signature.imports more d.run d.ask) first.1 in
        inr ((sym (rooted host at) ∙ first.0, second.0), answerable_more plan own host.signature expected d come second.1)

    events_step : (h : Happened) (row text : List ℕ) (next : Stage) → HasLines plan own (noted_by h) text → RestsWell plan own hosted expected (Events h) → events_go_on plan own hosted h row ≡ Some next → GoesWell next
    events_step h row text next has well read =
        elim (or_is (behind_prefix (codes "member ") row) (member_if plan own (noted_by h) hosted) (or_else (behind_prefix (codes "ringmaster ") row) (ring_at plan own (noted_by h)) (event_line_read plan own h row)) next read) [
          | inl m ↦ member_step hosted (noted_by h) m.0 next refl short well.1 well.0 m.2
          | inr o ↦
              elim (or_is (behind_prefix (codes "ringmaster ") row) (ring_at plan own (noted_by h)) (event_line_read plan own h row) next o.1) [
                | inl r ↦ ring_step (troupe_at plan.deployment own) (noted_by h) r.0 next refl well.1 well.0 r.2
                | inr e ↦ event e.1
              ]
        ]
      where
        short : length (noted_by h) < 2 ^ 64
        short = let few = has.few in omega (arith, few)

        event : event_line_read plan own h row ≡ Some next → GoesWell next
        event so =
            let made = map_is (λ (n : Happened). Events n) (happened_after (node_names plan) own h row) next so in
            let says = happened_says (node_names plan) own h made.0 row made.1 in
            subst GoesWell made.2 (λ on. (ap (λ ds. ds ++ option_to_list (newest_by made.0.kind made.0.last)) well.0 ∙ sym says, come_step hosted (newest_by made.0.kind made.0.last) refl well.1 on))

    runs_step : (notes : List Noted) (p : Performed) (row text : List ℕ) (next : Stage) → IsStage plan own hosted (Runs notes p) text → RestsWell plan own hosted expected (Runs notes p) → runs_go_on plan hosted notes p row ≡ Some next → GoesWell next
    runs_step notes p row text next stands well is =
        let host = well.1.0 in
        let at = well.1.1 in
        let few = stands.events.few in
        let acts = stands.acts in
        let read : runs_go_on plan (Some host) notes p row ≡ Some next = subst (λ o. runs_go_on plan o notes p row ≡ Some next) at is in
        let made = map_is (after_line notes) (performed_after plan.names plan.deployment host.signature (length notes) p row) next read in
        subst GoesWell made.2 (performed_step host at (rooted host at) notes (omega (arith, few)) well.0 p row made.0 acts.few made.1 well.1.2)

    views_step : (notes : List Noted) (views : List View) (row : List ℕ) (next : Stage) → RestsWell plan own hosted expected (Watching notes views) → views_go_on plan notes views row ≡ Some next → GoesWell next
    views_step notes views row next well is =
        let read = view_read (node_names plan) (length views) (name_at plan.names (length views)) row in
        let test = only_is (nat_le (length views) 65535) (option_map (λ view. with_views plan notes (views ++ view ∷ [])) read) next is in
        let made = map_is (λ view. with_views plan notes (views ++ view ∷ [])) read next test.1 in
        let few = well.3 in
        subst GoesWell made.2 (views_well notes (views ++ made.0 ∷ []) (omega (arith, few, length-append views (made.0 ∷ []))) well.0 well.1 well.2)

    pub rests_step : (stage : Stage) (row text : List ℕ) (next : Stage) → IsStage plan own hosted stage text → RestsWell plan own hosted expected stage → stage_after plan own hosted stage row ≡ Some next → GoesWell next
    rests_step (Events h) row text next stands well is = events_step h row text next (all_of plan own h text stands) well is
    rests_step (Runs notes p) row text next stands well is = runs_step notes p row text next stands well is
    rests_step (Watching notes views) row text next stands well is = views_step notes views row next well is
    rests_step (Done notes kept views) row text next stands well is = cc
