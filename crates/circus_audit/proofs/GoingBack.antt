-- What is known, from its end, of each stage of a record that is read.
use Rattle.std.specs.List.{AllByRecursion}
use Rattle.std.proofs.Common.{◌≡◌, ◌∙◌, ℕ, ◌+◌, ◌-◌, ◌<◌, ◌≤◌, ◌^◌, ◌⊎◌, nat_eq, inl, inr, List, [], ◌∷◌, ◌++◌, length, codes, Some, option_map, refl, sym, ap, subst, arith, append_assoc, append-nil, length-append}
use Rattle.std.proofs.lemmas.Bool.{eqb-true}
use Rattle.circus_value.specs.ValueTree.{ValueTree}
use Rattle.circus_model.specs.declared.signature.Signature.{Signature}
use Rattle.circus_transfer.specs.declared.joiner.Joiner.TheVariants as joiner
use Rattle.circus_record.specs.declared.record.AskRecord.{AskRecord}
use Rattle.circus_record.specs.declared.record.RunRecord.{RunRecord}
use Rattle.circus_record.specs.declared.record.MemberRecord.{MemberRecord}
use Rattle.circus_performing.specs.Performing.{last_count}
use Rattle.circus_performing.specs.Record.{count_after}
use Rattle.circus_config.specs.declared.plan.Plan.{Plan}
use Rattle.circus_value_text.specs.Reading.{behind_prefix}
use Rattle.circus_audit.specs.declared.noted.Differing.{Differing}
use Rattle.circus_audit.specs.declared.noted.Noted.{Noted}
use Rattle.circus_audit.specs.declared.noted.Kind.{Kind}
use Rattle.circus_audit.specs.declared.noted.Kind.TheVariants.{Gives, Differences, Foreign}
use Rattle.circus_audit.specs.declared.noted.Happened.{Happened}
use Rattle.circus_audit.specs.declared.performed.Current.{Current}
use Rattle.circus_audit.specs.declared.performed.Current.TheVariants.{Nothing, Run, Ask}
use Rattle.circus_audit.specs.declared.performed.Performed.{Performed}
use Rattle.circus_audit.specs.declared.performed.After.{After}
use Rattle.circus_audit.specs.declared.performed.After.TheVariants.{On, Last}
use Rattle.circus_audit.specs.Seen.Answers.{from_some, or_else, only_if}
use Rattle.circus_audit.specs.Seen.Events.{event_read, give_read, differing_read, foreign_read}
use Rattle.circus_audit.specs.Seen.Happening.{all_noted, may_follow, open_for, with_last, begin_event, differing_added, foreign_passed, event_added, give_added, happened_after}
use Rattle.circus_audit.specs.Seen.Lines.{run_read, ask_read, reply_read, end_read, idle_read, waiting_read}
use Rattle.circus_audit.specs.Seen.Performing.{place_behind, on_with, finish_record, with_ask, with_ended, idles, waits, ask_begins, run_ends, run_goes_on, reply_comes, ask_goes_on, run_begins, next_read, performed_by, performed_after}
use Rattle.circus_audit.proofs.Opening.{from_is, map_is, only_is, or_is}
use Rattle.circus_audit.proofs.SoundingLines.{reply_sound, end_sound}
use Rattle.circus_audit.proofs.SoundingPerforming.{place_is, all_more}
use Rattle.circus_audit.proofs.GoingOn.{IsBefore}

-- ---- what happened

module _ (P : Differing → Type 0) where
  abbrev pub AllTell : List Noted → Type 0
  AllTell notes = AllByRecursion (λ (n : Noted). AllByRecursion P n.differing) notes

  tell_front : (xs ys : List Noted) → AllTell (xs ++ ys) → AllTell xs
  tell_front [] ys all = tt
  tell_front (x ∷ xs) ys all = (all.0, tell_front xs ys all.1)

  tell_last : (xs : List Noted) (n : Noted) → AllTell (xs ++ n ∷ []) → AllByRecursion P n.differing
  tell_last [] n all = all.0
  tell_last (x ∷ xs) n all = tell_last xs n all.1

  tell_more : (xs : List Noted) (n : Noted) → AllTell xs → AllByRecursion P n.differing → AllTell (xs ++ n ∷ [])
  tell_more xs n all one = all_more (λ (m : Noted). AllByRecursion P m.differing) xs n all one

  fewer : (ds : List Differing) (d : Differing) → AllByRecursion P (ds ++ d ∷ []) → AllByRecursion P ds
  fewer [] d all = tt
  fewer (x ∷ ds) d all = (all.0, fewer ds d all.1)

  -- where a line of a kind may stand, there is a last event
  pub open_last : (kind : Kind) (h : Happened) (r : List Noted × Noted) → open_for kind h ≡ Some r → (h.earlier ≡ r.0) × (h.last ≡ Some r.1)
  open_last kind h r is =
      let x = from_is h.last (λ noted. only_if (may_follow kind h.kind) (Some (h.earlier, noted))) r is in
      let test = only_is (may_follow kind h.kind) (Some (h.earlier, x.0)) r x.2 in
      let same : ◌≡◌ {A = List Noted × Noted} (h.earlier, x.0) r = cc (test.1) in
      (ap (λ (q : List Noted × Noted). q.0) same, x.1 ∙ ap (λ (q : List Noted × Noted). Some q.1) same)

  -- with another last event, whose lines tell more
  last_back : (h : Happened) (earlier : List Noted) (n m : Noted) → h.earlier ≡ earlier → h.last ≡ Some n → (AllByRecursion P m.differing → AllByRecursion P n.differing) → AllTell (earlier ++ m ∷ []) → AllTell (all_noted h.earlier h.last)
  last_back h earlier n m before last less all =
      let fewer_told = tell_more earlier n (tell_front earlier (m ∷ []) all) (less (tell_last earlier m all)) in
      subst (λ ns. AllTell (all_noted ns h.last)) (sym before) (subst (λ o. AllTell (all_noted earlier o)) (sym last) fewer_told)

  module _ (nodes : List (List ℕ)) (own : ℕ) where
    event_back : (h : Happened) (text : List ℕ) (next : Happened) → event_added nodes own h text ≡ Some next → AllTell (all_noted next.earlier next.last) → AllTell (all_noted h.earlier h.last)
    event_back h text next is all =
        let earlier = all_noted h.earlier h.last in
        let made = map_is (begin_event earlier) (event_read nodes own (length earlier) text) next is in
        let told = subst (λ (n : Happened). AllTell (all_noted n.earlier n.last)) (sym made.2) all in
        tell_front earlier (record { event = made.0; gives = []; differing = [] } ∷ []) told

    give_back : (h : Happened) (text : List ℕ) (next : Happened) → give_added nodes own h text ≡ Some next → AllTell (all_noted next.earlier next.last) → AllTell (all_noted h.earlier h.last)
    give_back h text next is all =
        let opened = from_is (open_for Gives h) (λ r. option_map (λ give. with_last r.0 Gives (record { event = r.1.event; gives = r.1.gives ++ give ∷ []; differing = r.1.differing })) (give_read nodes own text)) next is in
        let r = opened.0 in
        let at = open_last Gives h r opened.1 in
        let made = map_is (λ give. with_last r.0 Gives (record { event = r.1.event; gives = r.1.gives ++ give ∷ []; differing = r.1.differing })) (give_read nodes own text) next opened.2 in
        let told = subst (λ (n : Happened). AllTell (all_noted n.earlier n.last)) (sym made.2) all in
        last_back h r.0 r.1 (record { event = r.1.event; gives = r.1.gives ++ made.0 ∷ []; differing = r.1.differing }) at.0 at.1 (λ same. same) told

  differ_back : (h : Happened) (text : List ℕ) (next : Happened) → differing_added h text ≡ Some next → AllTell (all_noted next.earlier next.last) → AllTell (all_noted h.earlier h.last)
  differ_back h text next is all =
      let opened = from_is (open_for Differences h) (λ r. option_map (λ d. with_last r.0 Differences (record { event = r.1.event; gives = r.1.gives; differing = r.1.differing ++ d ∷ [] })) (differing_read text)) next is in
      let r = opened.0 in
      let at = open_last Differences h r opened.1 in
      let made = map_is (λ d. with_last r.0 Differences (record { event = r.1.event; gives = r.1.gives; differing = r.1.differing ++ d ∷ [] })) (differing_read text) next opened.2 in
      let told = subst (λ (n : Happened). AllTell (all_noted n.earlier n.last)) (sym made.2) all in
      last_back h r.0 r.1 (record { event = r.1.event; gives = r.1.gives; differing = r.1.differing ++ made.0 ∷ [] }) at.0 at.1 (fewer r.1.differing made.0) told

  foreign_back : (h : Happened) (text : List ℕ) (next : Happened) → foreign_passed h text ≡ Some next → AllTell (all_noted next.earlier next.last) → AllTell (all_noted h.earlier h.last)
  foreign_back h text next is all =
      let opened = from_is (open_for Foreign h) (λ r. option_map (λ stray. with_last r.0 Foreign r.1) (foreign_read text)) next is in
      let r = opened.0 in
      let at = open_last Foreign h r opened.1 in
      let made = map_is (λ stray. with_last r.0 Foreign r.1) (foreign_read text) next opened.2 in
      let told = subst (λ (n : Happened). AllTell (all_noted n.earlier n.last)) (sym made.2) all in
      last_back h r.0 r.1 r.1 at.0 at.1 (λ same. same) told

  pub happened_back : (nodes : List (List ℕ)) (own : ℕ) (h : Happened) (row : List ℕ) (next : Happened) → happened_after nodes own h row ≡ Some next → AllTell (all_noted next.earlier next.last) → AllTell (all_noted h.earlier h.last)
  happened_back nodes own h row next is all =
      elim (or_is (behind_prefix (codes "event ") row) (event_added nodes own h) (or_else (behind_prefix (codes "give ") row) (give_added nodes own h) (or_else (behind_prefix (codes "differ run ") row) (differing_added h) (from_some (behind_prefix (codes "foreign ") row) (foreign_passed h)))) next is) [
        | inl e ↦ event_back nodes own h e.0 next e.2 all
        | inr o ↦
            elim (or_is (behind_prefix (codes "give ") row) (give_added nodes own h) (or_else (behind_prefix (codes "differ run ") row) (differing_added h) (from_some (behind_prefix (codes "foreign ") row) (foreign_passed h))) next o.1) [
              | inl g ↦ give_back nodes own h g.0 next g.2 all
              | inr p ↦
                  elim (or_is (behind_prefix (codes "differ run ") row) (differing_added h) (from_some (behind_prefix (codes "foreign ") row) (foreign_passed h)) next p.1) [
                    | inl d ↦ differ_back h d.0 next d.2 all
                    | inr q ↦ foreign q.1
                  ]
            ]
      ]
    where
      foreign : from_some (behind_prefix (codes "foreign ") row) (foreign_passed h) ≡ Some next → AllTell (all_noted h.earlier h.last)
      foreign read =
          let opened = from_is (behind_prefix (codes "foreign ") row) (foreign_passed h) next read in
          foreign_back h opened.0 next opened.2 all

-- ---- an active member

module _ (plan : Plan) (own : ℕ) (s : Signature) (kept : MemberRecord) (events : ℕ) (short : events < 2 ^ 64) where
  abbrev pub IsBeforeAfter : After → Type 0
  IsBeforeAfter (On q) = IsBefore plan own s kept q
  IsBeforeAfter (Last k) = kept ≡ k

  after_len : (runs more : List RunRecord) (r : RunRecord) (n : ℕ) → kept.runs ≡ runs ++ r ∷ more → (length kept.runs ≡ n) ⊎ ((length kept.runs ≡ n + 1) × (kept.from + n ≤ last_count)) → length runs ≤ n
  after_len runs more r n are (inl all) = omega (arith, all, ap length are, length-append runs (r ∷ more))
  after_len runs more r n are (inr one) = let is = one.0 in omega (arith, is, ap length are, length-append runs (r ∷ more))

  -- before a run
  run_back : (p : Performed) (run : RunRecord) → IsBefore plan own s kept (record p { current = Run run }) → IsBefore plan own s kept (record p { current = Nothing })
  run_back p run b = record {
    from_is = b.from_is;
    count_is = b.count_is;
    ended = b.ended;
    counted = b.counted;
    many = b.many;
    on = (b.on.0 ∷ b.on.1, b.on.3, after_len p.runs b.on.1 b.on.0 b.ended b.on.3 b.many);
  }

  longer : (asks later : List AskRecord) (a : AskRecord) (all : List AskRecord) → all ≡ asks ++ a ∷ later → 1 ≤ length all
  longer asks later a all is = omega (arith, ap length is, length-append asks (a ∷ later))

  -- before an ask
  ask_back : (p : Performed) (run : RunRecord) (ask : AskRecord) → IsBefore plan own s kept (record p { current = Ask run ask }) → IsBefore plan own s kept (record p { current = Run run })
  ask_back p run ask b = record {
    from_is = b.from_is;
    count_is = b.count_is;
    ended = b.ended;
    counted = b.counted;
    many = b.many;
    on = (b.on.0, b.on.1, b.on.2 ∷ b.on.3, b.on.4, b.on.5, λ same. longer run.asks b.on.3 b.on.2 b.on.0.asks b.on.5);
  }

  -- before a reply
  reply_back : (p : Performed) (run : RunRecord) (ask replied : AskRecord) → replied.callee ≡ ask.callee → replied.procedure ≡ ask.procedure → IsBefore plan own s kept (record p { current = Run (with_ask run replied) }) → IsBefore plan own s kept (record p { current = Ask run ask })
  reply_back p run ask replied callee procedure b = record {
    from_is = b.from_is;
    count_is = b.count_is;
    ended = b.ended;
    counted = b.counted;
    many = b.many;
    on = (b.on.0, b.on.1, replied, b.on.2, b.on.3, b.on.4 ∙ append_assoc run.asks (replied ∷ []) b.on.2, callee, procedure);
  }

  -- before an end
  end_back : (p : Performed) (run ended : RunRecord) → ended.asks ≡ run.asks → IsBefore plan own s kept (record p { runs = p.runs ++ ended ∷ []; current = Nothing }) → IsBefore plan own s kept (record p { current = Run run })
  end_back p run ended same b = record {
    from_is = b.from_is;
    count_is = b.count_is;
    ended = b.ended;
    counted = b.counted;
    many = b.many;
    on = (ended, b.on.0, [], b.on.1 ∙ append_assoc p.runs (ended ∷ []) b.on.0, same ∙ sym (append-nil run.asks), λ at. absurd (omega (arith, at, b.on.2, length-append p.runs (ended ∷ []))));
  }

  -- before the last line
  idle_back : (p : Performed) → kept.from ≡ p.from → kept.count ≡ p.count → kept.runs ≡ p.runs → count_after p.from (length p.runs) ≡ p.count → IsBefore plan own s kept (record p { current = Nothing })
  idle_back p from count runs counted = record {
    from_is = from;
    count_is = count;
    ended = length p.runs;
    counted = count ∙ sym counted ∙ ap (λ n. count_after n (length p.runs)) (sym from);
    many = inl (ap length runs);
    on = ([], runs ∙ sym (append-nil p.runs), omega arith);
  }

  wait_back : (p : Performed) (run : RunRecord) (ask : AskRecord) → kept.from ≡ p.from → kept.count ≡ p.count → kept.runs ≡ p.runs ++ with_ask run ask ∷ [] → p.from + length p.runs ≡ p.count → p.from + length p.runs ≤ last_count → IsBefore plan own s kept (record p { current = Ask run ask })
  wait_back p run ask from count runs counted few = record {
    from_is = from;
    count_is = count;
    ended = length p.runs;
    counted = omega (arith, from, count, counted, few);
    many = inr (ap length runs ∙ length-append p.runs (with_ask run ask ∷ []), omega (arith, from, few));
    on = (with_ask run ask, [], ask, [], runs, refl, refl, refl);
  }

  -- ---- by any line

  finished_is : (from since count : ℕ) (runs : List RunRecord) (state : List ValueTree) (k : MemberRecord) → finish_record from since count runs state ≡ Last k → (k.from ≡ from) × (k.count ≡ count) × (k.runs ≡ runs)
  finished_is from since count runs state k is =
      let same : ◌≡◌ {A = MemberRecord} (record { phase = joiner.Active from; from = from; active_at = since; count = count; runs = runs; state = state }) k = cc in
      (sym (ap (λ (x : MemberRecord). x.from) same), sym (ap (λ (x : MemberRecord). x.count) same), sym (ap (λ (x : MemberRecord). x.runs) same))

  -- what stands at the end of a line
  as_last : (from since count : ℕ) (runs : List RunRecord) (state : List ValueTree) (after : After) → finish_record from since count runs state ≡ after → IsBeforeAfter after → (kept.from ≡ from) × (kept.count ≡ count) × (kept.runs ≡ runs)
  as_last from since count runs state (On q) is before = cc
  as_last from since count runs state (Last k) is before =
      let f = finished_is from since count runs state k is in
      (ap (λ (x : MemberRecord). x.from) before ∙ f.0, ap (λ (x : MemberRecord). x.count) before ∙ f.1, ap (λ (x : MemberRecord). x.runs) before ∙ f.2)

  next_back : (p : Performed) (row : List ℕ) (after : After) → next_read plan.names plan.deployment s events p row ≡ Some after → IsBeforeAfter after → IsBefore plan own s kept (record p { current = Nothing })
  next_back p row after is before =
      elim (or_is (behind_prefix (codes "run ") row) (run_begins plan.names plan.deployment s events (length row) p) (from_some (behind_prefix (codes "now idle") row) (idles s p)) after is) [
        | inl r ↦ runs r.0 r.2
        | inr o ↦ idle o.1
      ]
    where
      runs : (inner : List ℕ) → run_begins plan.names plan.deployment s events (length row) p inner ≡ Some after → IsBefore plan own s kept (record p { current = Nothing })
      runs inner read =
          let at = from_is (place_behind p.from (length p.runs)) (λ place. option_map (λ run. on_with p (Run run)) (run_read plan.names plan.deployment s events (length row) place inner)) after read in
          let made = map_is (λ run. on_with p (Run run)) (run_read plan.names plan.deployment s events (length row) at.0 inner) after at.2 in
          run_back p made.0 (subst IsBeforeAfter (sym made.2) before)

      idle : from_some (behind_prefix (codes "now idle") row) (idles s p) ≡ Some after → IsBefore plan own s kept (record p { current = Nothing })
      idle read =
          let opened = from_is (behind_prefix (codes "now idle") row) (idles s p) after read in
          let test = only_is (nat_eq (count_after p.from (length p.runs)) p.count) (option_map (finish_record p.from p.since p.count p.runs) (idle_read s opened.0)) after opened.2 in
          let made = map_is (finish_record p.from p.since p.count p.runs) (idle_read s opened.0) after test.1 in
          let last = as_last p.from p.since p.count p.runs made.0 after made.2 before in
          idle_back p last.0 last.1 last.2 (eqb-true (count_after p.from (length p.runs)) p.count test.0)

  on_back : (p : Performed) (run : RunRecord) (row : List ℕ) (after : After) → run_goes_on plan.names s events p run row ≡ Some after → IsBeforeAfter after → IsBefore plan own s kept (record p { current = Run run })
  on_back p run row after is before =
      elim (or_is (behind_prefix (codes "ask ") row) (ask_begins plan.names s events p run) (from_some (behind_prefix (codes "end ") row) (run_ends plan.names s events p run)) after is) [
        | inl r ↦ asks r.0 r.2
        | inr o ↦ ends o.1
      ]
    where
      asks : (inner : List ℕ) → ask_begins plan.names s events p run inner ≡ Some after → IsBefore plan own s kept (record p { current = Run run })
      asks inner read =
          let made = map_is (λ ask. on_with p (Ask run ask)) (ask_read plan.names s events (length run.asks) inner) after read in
          ask_back p run made.0 (subst IsBeforeAfter (sym made.2) before)

      ends : from_some (behind_prefix (codes "end ") row) (run_ends plan.names s events p run) ≡ Some after → IsBefore plan own s kept (record p { current = Run run })
      ends read =
          let opened = from_is (behind_prefix (codes "end ") row) (run_ends plan.names s events p run) after read in
          let at = from_is (place_behind p.from (length p.runs)) (λ place. option_map (with_ended p) (end_read (length plan.names) s events place run opened.0)) after opened.2 in
          let made = map_is (with_ended p) (end_read (length plan.names) s events at.0 run opened.0) after at.2 in
          let r = end_sound (length plan.names) s events at.0 run opened.0 made.0 short made.1 in
          end_back p run made.0 (ap (λ (x : RunRecord). x.asks) r.is_ended) (subst IsBeforeAfter (sym made.2) before)

  wait_on_back : (p : Performed) (run : RunRecord) (ask : AskRecord) (row : List ℕ) (after : After) → ask_goes_on plan.names s events p run ask row ≡ Some after → IsBeforeAfter after → IsBefore plan own s kept (record p { current = Ask run ask })
  wait_on_back p run ask row after is before =
      elim (or_is (behind_prefix (codes "reply ") row) (reply_comes plan.names s events p run ask) (from_some (behind_prefix (codes "now waiting ask ") row) (waits s p run ask)) after is) [
        | inl r ↦ replies r.0 r.2
        | inr o ↦ waiting o.1
      ]
    where
      replies : (inner : List ℕ) → reply_comes plan.names s events p run ask inner ≡ Some after → IsBefore plan own s kept (record p { current = Ask run ask })
      replies inner read =
          let made = map_is (λ replied. on_with p (Run (with_ask run replied))) (reply_read (length plan.names) s events (length run.asks) ask inner) after read in
          let r = reply_sound (length plan.names) s events (length run.asks) ask inner made.0 short made.1 in
          reply_back p run ask made.0 (ap (λ (x : AskRecord). x.callee) r.is_replied) (ap (λ (x : AskRecord). x.procedure) r.is_replied) (subst IsBeforeAfter (sym made.2) before)

      waiting : from_some (behind_prefix (codes "now waiting ask ") row) (waits s p run ask) ≡ Some after → IsBefore plan own s kept (record p { current = Ask run ask })
      waiting read =
          let opened = from_is (behind_prefix (codes "now waiting ask ") row) (waits s p run ask) after read in
          let at = from_is (place_behind p.from (length p.runs)) (λ place. only_if (nat_eq place p.count) (option_map (finish_record p.from p.since p.count (p.runs ++ with_ask run ask ∷ [])) (waiting_read s (length run.asks) opened.0))) after opened.2 in
          let test = only_is (nat_eq at.0 p.count) (option_map (finish_record p.from p.since p.count (p.runs ++ with_ask run ask ∷ [])) (waiting_read s (length run.asks) opened.0)) after at.2 in
          let made = map_is (finish_record p.from p.since p.count (p.runs ++ with_ask run ask ∷ [])) (waiting_read s (length run.asks) opened.0) after test.1 in
          let here = place_is p.from (length p.runs) at.0 at.1 in
          let last = as_last p.from p.since p.count (p.runs ++ with_ask run ask ∷ []) made.0 after made.2 before in
          wait_back p run ask last.0 last.1 last.2 (sym here.0 ∙ eqb-true at.0 p.count test.0) here.1

  by_back : (p : Performed) (current : Current) (row : List ℕ) (after : After) → performed_by plan.names plan.deployment s events p current row ≡ Some after → IsBeforeAfter after → IsBefore plan own s kept (record p { current = current })
  by_back p Nothing row after is before = next_back p row after is before
  by_back p (Run run) row after is before = on_back p run row after is before
  by_back p (Ask run ask) row after is before = wait_on_back p run ask row after is before

  pub performed_back : (p : Performed) (row : List ℕ) (after : After) → performed_after plan.names plan.deployment s events p row ≡ Some after → IsBeforeAfter after → IsBefore plan own s kept p
  performed_back p row after is before = by_back (record p { current = Nothing }) p.current row after is before
