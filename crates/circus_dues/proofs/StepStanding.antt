-- How runs stand in a step once its parts are done: the run that was under way went on, states were given, and others started.
use Rattle.std.proofs.Common.{◌≡◌, ℕ, suc, ◌+◌, ◌<◌, ◌≤◌, inl, inr, true, List, [], ◌∷◌, ◌++◌, length, map, drop, All, Option, None, Some, option_map, sym, ap, subst, ◌∙◌, arith, append_assoc, append-nil, length-append}
use Rattle.std.specs.Prelude.{slice_get, slice_index_or}
use Rattle.std.proofs.lemmas.List.Elements.{All-nil, All-cons, All-head, All-tail, All-weaker, All-append}
use Rattle.circus_value.specs.ValueTree.{ValueTree}
use Rattle.circus_value.specs.declared.caller.Caller.{Caller}
use Rattle.circus_collate.specs.declared.view.View.{View}
use Rattle.circus_transfer.specs.declared.joiner.Joiner.{Joiner}
use Rattle.circus_model.specs.declared.signature.ProcedureShape.{ProcedureShape}
use Rattle.circus_record.specs.declared.record.MemberRecord.{MemberRecord}
use Rattle.circus_record.specs.declared.record.RunRecord.{RunRecord}
use Rattle.circus_fanout.specs.Asking.{Asking}
use Rattle.circus_member_rules.specs.declared.place.Place.{Place}
use Rattle.circus_member_rules.specs.declared.occurrence.AskName.{AskName}
use Rattle.circus_member_rules.specs.declared.occurrence.Effect.{Effect}
use Rattle.circus_member_rules.specs.declared.occurrence.Occurrence.{Occurrence}
use Rattle.circus_member_theory.specs.Past.{Past, followed}
use Rattle.circus_member_theory.specs.Asks.{is_new, asks_of}
use Rattle.circus_member_theory.specs.Order.{made_by_run, snapshots_now}
use Rattle.circus_dues.specs.Calls.{request_in, ungiven}
use Rattle.circus_dues.specs.Dues.{StandsAt, HasComeTo}
use Rattle.circus_dues.specs.Walk.{IsBefore, IsNotBefore, IsLater, IsBy, EndForNext, AreStanding, StartOnward, AreAnsweredOnward, AreAnsweredInEach, made_by_each}
use Rattle.circus_dues.specs.declared.owing.Owing.{Owing}
use Rattle.circus_dues.specs.declared.walk.Walk.{Walk}
use Rattle.circus_dues.proofs.Stages.{IsAmid, WaitsNow, AllEnd, LastWaits, HaveStarted, new_of}
use Rattle.circus_dues.proofs.StepLists.{in_front, drop_front}
use Rattle.circus_dues.proofs.WalkRuns.{StartsLater, StartsNow, IsGoing, EndedBefore}
use Rattle.circus_dues.proofs.WalkStarts.{get_behind, all_at}
use Rattle.circus_dues.proofs.WalkWaiting.{EndedBy}

-- ---- runs that end in a step

abbrev pub EndsIn : ℕ → RunRecord → Type 0
EndsIn step run = run.ended ≡ Some step

ends_all : (step : ℕ) (runs : List RunRecord) → All (EndsIn step) runs → EndForNext step runs
ends_all step [] all = tt
ends_all step (run ∷ []) all = tt
ends_all step (run ∷ next ∷ runs) all = (All-head (EndsIn step) run (next ∷ runs) all, ends_all step (next ∷ runs) (All-tail (EndsIn step) run (next ∷ runs) all))

ends_but_last : (step : ℕ) (runs : List RunRecord) (last : RunRecord) → All (EndsIn step) runs → EndForNext step (runs ++ last ∷ [])
ends_but_last step [] last all = tt
ends_but_last step (run ∷ []) last all = (All-head (EndsIn step) run [] all, tt)
ends_but_last step (run ∷ next ∷ runs) last all =
    (All-head (EndsIn step) run (next ∷ runs) all, ends_but_last step (next ∷ runs) last (All-tail (EndsIn step) run (next ∷ runs) all))

pub ended_before : (step : ℕ) (run : RunRecord) → EndedBefore step run → EndedBy step run
ended_before step run = by_end run.ended
  where
    by_end : (o : Option ℕ) → IsBefore step o → IsBy step o
    by_end None below = below
    by_end (Some n) below = omega (arith, below)

pub ended_now : (step : ℕ) (run : RunRecord) → EndsIn step run → EndedBy step run
ended_now step run is = subst (IsBy step) (sym is) (omega arith)

goes_now : (step : ℕ) (run : RunRecord) → run.started < step → EndsIn step run → IsGoing step run
goes_now step run early is = (early, subst (IsNotBefore step) (sym is) (omega arith))

module _ (place : Place) (boot : List View) (begins : Joiner) (first : List ValueTree) (procedures : List ProcedureShape) (at_boot : ℕ) (kept : MemberRecord) (p : Past) (at : ℕ) (o : Occurrence) where
  abbrev q : Past
  q = followed p at o

  abbrev Amid : List (AskName × Asking) → Option ℕ → Owing → Type 0
  Amid new opened d = IsAmid place boot begins first procedures at_boot kept p at o new opened d

  abbrev made_by : ℕ → List RunRecord → List Effect
  made_by number runs = made_by_each place boot begins first kept q (kept.from + number) runs

  abbrev pub asked_by : ℕ → List RunRecord → List (AskName × Asking)
  asked_by number runs = asks_of place (is_new q) (kept.from + number) runs

  abbrev AnsweredInEach : ℕ → List RunRecord → Type 0
  AnsweredInEach number runs = AreAnsweredInEach place boot begins procedures at_boot kept q number runs

  -- ---- once the run that was under way has gone on

  -- none is under way: it was none, or it ends in the step
  pub record RestsThen (effects : List Effect) (e : Owing) : Type 0 where
    pub before : List RunRecord
    pub going : List RunRecord
    pub rest : List RunRecord
    pub are : kept.runs ≡ (before ++ going) ++ rest
    pub ended : All (EndedBefore at) before
    pub started : All (λ (run : RunRecord). run.started < at) going
    pub ends : All (EndsIn at) going
    pub at_most_one : length going ≤ 1
    pub next : All (λ (run : RunRecord). at ≤ run.started) rest
    pub timely : e.is_timely ≡ true
    pub requests : e.calls.requests ≡ map (λ (x : ℕ × Caller). x.1) (ungiven begins first kept p ++ request_in at o)
    pub walk : e.walk ≡ record { ended = length (before ++ going); asked = None }
    pub amid : Amid (asked_by (length before) going) None e
    pub answered : AnsweredInEach (length before) going
    pub made : effects ≡ made_by (length before) going

  -- or it waits
  pub record GoesThen (effects : List Effect) (e : Owing) : Type 0 where
    pub before : List RunRecord
    pub run : RunRecord
    pub rest : List RunRecord
    pub are : kept.runs ≡ before ++ run ∷ rest
    pub ended : All (EndedBefore at) before
    pub started : run.started < at
    pub timely : e.is_timely ≡ true
    pub requests : e.calls.requests ≡ map (λ (x : ℕ × Caller). x.1) (ungiven begins first kept p ++ request_in at o)
    pub waits : WaitsNow place boot begins first procedures at_boot kept p at o (length before) run (new_of place boot begins first procedures at_boot kept p at o (length before) run) e
    pub answered : AreAnsweredOnward place boot begins procedures at_boot kept q (length before) 0 run.entry run.asks
    pub made : effects ≡ made_by_run place boot begins first kept q (kept.from + length before) run

  -- ---- once all is done

  pub record HasPerformed (effects : List Effect) (e : Owing) : Type 0 where
    pub before : List RunRecord
    pub going : List RunRecord
    pub starting : List RunRecord
    pub later : List RunRecord
    pub so : AreStanding at kept.runs before going starting later
    pub starts : StartOnward place boot begins procedures at_boot kept q (length (before ++ going)) (starting ++ later)
    pub answered : AnsweredInEach (length before) (going ++ starting)
    pub made : effects ≡ (made_by (length before) going ++ snapshots_now place boot begins first kept q) ++ made_by_each place boot begins first kept q ((kept.from + length before) + length going) starting
    pub timely : e.is_timely ≡ true
    pub requests : e.calls.requests ≡ map (λ (x : ℕ × Caller). x.1) (ungiven begins first kept q)
    pub comes : HasComeTo kept q e.walk
    pub amid : Amid (asked_by (length before) going ++ asks_of place (is_new q) ((kept.from + length before) + length going) starting) (option_map (λ _. kept.from + e.walk.ended) e.walk.asked) e

  -- these have ended, and the next one stands so
  come_to : (xs ys : List RunRecord) → kept.runs ≡ xs ++ ys → All (EndedBy at) xs → (asked : Option ℕ) → StandsAt q (slice_get ys 0) asked → (w : Walk) → w ≡ record { ended = length xs; asked = asked } → HasComeTo kept q w
  come_to xs ys are ended asked stands w walk =
      let long = ap (λ (l : List RunRecord). length l) are ∙ length-append xs ys in
      record {
        few = omega (arith, ended_is, long);
        ended = λ number run below there. all_at (EndedBy at) xs number run ended (in_front xs ys number run (omega (arith, ended_is, below)) (ap (λ l. slice_get l number) (sym are) ∙ there));
        next = subst (λ a. StandsAt q (slice_get kept.runs w.ended) a) (sym (ap (λ (x : Walk). x.asked) walk)) (subst (λ r. StandsAt q r asked) (sym there_is) stands);
      }
    where
      ended_is : w.ended ≡ length xs
      ended_is = ap (λ (x : Walk). x.ended) walk

      behind : w.ended ≡ length xs + 0
      behind = omega (arith, ended_is)

      there_is : slice_get kept.runs w.ended ≡ slice_get ys 0
      there_is = ap (slice_get kept.runs) behind ∙ ap (λ l. slice_get l (length xs + 0)) are ∙ get_behind xs ys 0

  later_stands : (later : List RunRecord) → All (StartsLater at) later → StandsAt q (slice_get later 0) None
  later_stands [] all = tt
  later_stands (run ∷ later) all = All-head (StartsLater at) run later all

  -- as the walk stands the run is open
  opens_by : (new : List (AskName × Asking)) (e : Owing) (ended : ℕ) (asked : Option ℕ) → e.walk ≡ record { ended = ended; asked = asked } → Amid new (option_map (λ _. kept.from + ended) asked) e
      → Amid new (option_map (λ _. kept.from + e.walk.ended) e.walk.asked) e
  opens_by new e ended asked walk amid = subst (λ opened. Amid new opened e) (sym (ap (λ (w : Walk). option_map (λ _. kept.from + w.ended) w.asked) walk)) amid

  -- ---- where others start

  answered_both : (number : ℕ) (xs ys : List RunRecord) → AnsweredInEach number xs → AnsweredInEach (number + length xs) ys → AnsweredInEach number (xs ++ ys)
  answered_both number [] ys one other = let none : number + 0 ≡ number = omega arith in subst (λ n. AnsweredInEach n ys) none other
  answered_both number (x ∷ xs) ys one other =
      let same : number + length (x ∷ xs) ≡ suc number + length xs = omega arith in
      (one.0, answered_both (suc number) xs ys one.1 (subst (λ n. AnsweredInEach n ys) same other))

  module _ (gone : List Effect) (d : Owing) (r : RestsThen gone d) (given started : List Effect) (e f : Owing)
      (given_is : given ≡ snapshots_now place boot begins first kept q) (left : e.calls.requests ≡ map (λ (x : ℕ × Caller). x.1) (ungiven begins first kept q))
      (h : HaveStarted place boot begins first procedures at_boot kept p at o (length (r.before ++ r.going)) (asked_by (length r.before) r.going) e started f) where
    number_is : length (r.before ++ r.going) ≡ length r.before + length r.going
    number_is = length-append r.before r.going

    index_is : kept.from + length (r.before ++ r.going) ≡ (kept.from + length r.before) + length r.going
    index_is = let long = number_is in omega (arith, long)

    rest_is : r.rest ≡ h.starting ++ h.later
    rest_is = sym (drop_front (r.before ++ r.going) r.rest) ∙ ap (drop (length (r.before ++ r.going))) (sym r.are) ∙ h.are

    all_are : kept.runs ≡ (r.before ++ r.going) ++ (h.starting ++ h.later)
    all_are = r.are ∙ ap (λ l. (r.before ++ r.going) ++ l) rest_is

    front_ended : All (EndedBy at) (r.before ++ r.going)
    front_ended =
        All-append (EndedBy at) r.before r.going
        (All-weaker (EndedBefore at) (EndedBy at) (ended_before at) r.before r.ended)
        (All-weaker (EndsIn at) (EndedBy at) (ended_now at) r.going r.ends)

    abbrev new : List (AskName × Asking)
    new = asked_by (length r.before) r.going ++ asks_of place (is_new q) ((kept.from + length r.before) + length r.going) h.starting

    abbrev Amid_then : Type 0
    Amid_then = Amid new (option_map (λ _. kept.from + f.walk.ended) f.walk.asked) f

    -- what the walk and what is kept come to
    pub record EndsSo : Type 0 where
      pub for_next : EndForNext at (r.going ++ h.starting)
      pub comes : HasComeTo kept q f.walk
      pub amid : Amid_then

    amid_by : (ended : ℕ) (asked : Option ℕ) → f.walk ≡ record { ended = ended; asked = asked }
        → Amid (asked_by (length r.before) r.going ++ asks_of place (is_new q) (kept.from + length (r.before ++ r.going)) h.starting) (option_map (λ _. kept.from + ended) asked) f → Amid_then
    amid_by ended asked walk amid =
        opens_by new f ended asked walk (subst (λ i. Amid (asked_by (length r.before) r.going ++ asks_of place (is_new q) i h.starting) (option_map (λ _. kept.from + ended) asked) f) index_is amid)

    all_end : AllEnd place boot begins first procedures at_boot kept p at o (length (r.before ++ r.going)) h.starting
        (asked_by (length r.before) r.going ++ asks_of place (is_new q) (kept.from + length (r.before ++ r.going)) h.starting) f → EndsSo
    all_end a =
        record {
          for_next = ends_all at (r.going ++ h.starting) (All-append (EndsIn at) r.going h.starting r.ends a.end);
          comes = come_to ((r.before ++ r.going) ++ h.starting) h.later (all_are ∙ sym (append_assoc (r.before ++ r.going) h.starting h.later))
              (All-append (EndedBy at) (r.before ++ r.going) h.starting front_ended (All-weaker (EndsIn at) (EndedBy at) (ended_now at) h.starting a.end))
              None (later_stands h.later h.start_later) f.walk
              (a.walk ∙ ap (λ n. record { ended = n; asked = None }) (sym (length-append (r.before ++ r.going) h.starting)));
          amid = amid_by (length (r.before ++ r.going) + length h.starting) None a.walk a.amid;
        }

    last_waits : LastWaits place boot begins first procedures at_boot kept p at o (length (r.before ++ r.going)) h.starting
        (asked_by (length r.before) r.going ++ asks_of place (is_new q) (kept.from + length (r.before ++ r.going)) h.starting) f → EndsSo
    last_waits w =
        record {
          for_next = subst (EndForNext at) (append_assoc r.going w.front (w.last ∷ []) ∙ ap (λ l. r.going ++ l) (sym w.are))
              (ends_but_last at (r.going ++ w.front) w.last (All-append (EndsIn at) r.going w.front r.ends w.end));
          comes = come_to ((r.before ++ r.going) ++ w.front) (w.last ∷ h.later)
              (all_are
              ∙ ap (λ l. (r.before ++ r.going) ++ l) (ap (λ l. l ++ h.later) w.are ∙ append_assoc w.front (w.last ∷ []) h.later)
              ∙ sym (append_assoc (r.before ++ r.going) w.front (w.last ∷ h.later)))
              (All-append (EndedBy at) (r.before ++ r.going) w.front front_ended (All-weaker (EndsIn at) (EndedBy at) (ended_now at) w.front w.end))
              (Some w.waits.count) w.waits.stands f.walk
              (w.waits.walk ∙ ap (λ n. record { ended = n; asked = Some w.waits.count }) (sym (length-append (r.before ++ r.going) w.front)));
          amid = amid_by (length (r.before ++ r.going) + length w.front) (Some w.waits.count) w.waits.walk w.waits.amid;
        }

    ends_so : EndsSo
    ends_so = elim h.stands [ inl a ↦ all_end a | inr w ↦ last_waits w ]

    pub starts_performed : HasPerformed ((gone ++ given) ++ started) f
    starts_performed =
        record {
          before = r.before;
          going = r.going;
          starting = h.starting;
          later = h.later;
          so = record {
            are = all_are ∙ append_assoc r.before r.going (h.starting ++ h.later);
            ended = r.ended;
            go_on = λ k x below. goes_now at (slice_index_or r.going k x) (r.started k x below) (r.ends k x below);
            at_most_one = r.at_most_one;
            start_now = h.start_now;
            end_for_next = ends_so.for_next;
            start_later = h.start_later;
          };
          starts = h.starts;
          answered = answered_both (length r.before) r.going h.starting r.answered (subst (λ n. AnsweredInEach n h.starting) number_is h.answered);
          made = (λ j. (r.made j ++ given_is j) ++ h.made j)
              ∙ ap (λ i. (made_by (length r.before) r.going ++ snapshots_now place boot begins first kept q) ++ made_by_each place boot begins first kept q i h.starting) index_is;
          timely = h.timely;
          requests = h.requests ∙ left;
          comes = ends_so.comes;
          amid = ends_so.amid;
        }

  -- ---- where none does

  module _ (gone : List Effect) (d : Owing) (g : GoesThen gone d) (given : List Effect) (f : Owing)
      (given_is : given ≡ snapshots_now place boot begins first kept q) (left : f.calls.requests ≡ map (λ (x : ℕ × Caller). x.1) (ungiven begins first kept q)) (timely : f.is_timely ≡ true)
      (waits : WaitsNow place boot begins first procedures at_boot kept p at o (length g.before) g.run (new_of place boot begins first procedures at_boot kept p at o (length g.before) g.run) f)
      (starts : StartOnward place boot begins procedures at_boot kept q (suc (length g.before)) g.rest) (start_later : All (StartsLater at) g.rest) where
    longer : length (g.before ++ g.run ∷ []) ≡ suc (length g.before)
    longer = let long = length-append g.before (g.run ∷ []) in omega (arith, long)

    still : IsNotBefore at g.run.ended
    still = by_end g.run.ended waits.stands.1
      where
        by_end : (x : Option ℕ) → IsLater at x → IsNotBefore at x
        by_end None late = tt
        by_end (Some n) late = omega (arith, late)

    pub goes_performed : HasPerformed (gone ++ given) f
    goes_performed =
        record {
          before = g.before;
          going = g.run ∷ [];
          starting = [];
          later = g.rest;
          so = record {
            are = g.are;
            ended = g.ended;
            go_on = All-cons (IsGoing at) g.run [] (g.started, still) (All-nil (IsGoing at));
            at_most_one = omega arith;
            start_now = All-nil (StartsNow at);
            end_for_next = tt;
            start_later = start_later;
          };
          starts = subst (λ n. StartOnward place boot begins procedures at_boot kept q n g.rest) (sym longer) starts;
          answered = (g.answered, tt);
          made = (λ j. g.made j ++ given_is j)
              ∙ ap (λ l. l ++ snapshots_now place boot begins first kept q) (sym (append-nil (made_by_run place boot begins first kept q (kept.from + length g.before) g.run)))
              ∙ sym (append-nil (made_by (length g.before) (g.run ∷ []) ++ snapshots_now place boot begins first kept q));
          timely = timely;
          requests = left;
          comes = come_to g.before (g.run ∷ g.rest) g.are (All-weaker (EndedBefore at) (EndedBy at) (ended_before at) g.before g.ended) (Some waits.count) waits.stands f.walk waits.walk;
          amid = opens_by (asked_by (length g.before) (g.run ∷ []) ++ []) f (length g.before) (Some waits.count) waits.walk
              (subst (λ l. Amid l (Some (kept.from + length g.before)) f)
              (sym (append-nil (asked_by (length g.before) (g.run ∷ [])) ∙ append-nil (new_of place boot begins first procedures at_boot kept p at o (length g.before) g.run)))
              waits.amid);
        }
