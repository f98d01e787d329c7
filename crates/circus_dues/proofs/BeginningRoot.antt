-- What is owed at boot where the MAIN of a root is entered: it waits at its first ask, or ends.
use Rattle.std.proofs.Common.{◌≡◌, ℕ, zero, suc, ◌+◌, ◌<◌, ◌≤◌, Bool, true, false, true≢false, ◌&&◌, ◌||◌, not, if◌then◌else◌, List, [], ◌∷◌, ◌++◌, length, All, Option, None, Some, refl, sym, ap, subst, ◌∙◌, arith, append-nil}
use Rattle.std.specs.Prelude.{fold, slice_get, nat_eq, nat_le, unwrap_or, IsSomeAnd}
use Rattle.std.specs.Bool.{Decides}
use Rattle.std.specs.List.{flat_map}
use Rattle.std.specs.Option.{option_map_or}
use Rattle.std.proofs.lemmas.Bool.{and_parts, and_from, eqb-true, eq-eqb, ne_eqb, lt-leb, leb-false}
use Rattle.std.proofs.lemmas.List.Elements.{All-nil, All-cons, All-weaker}
use Rattle.std.proofs.lemmas.Option.{same_Some}
use Rattle.std.proofs.Math.Nat.{min-eq_left}
use Rattle.circus_value.specs.ValueTree.{ValueTree}
use Rattle.circus_collate.specs.declared.view.View.{View}
use Rattle.circus_transfer.specs.declared.joiner.Joiner.{Joiner}
use Rattle.circus_model.specs.Execution.{is_spent}
use Rattle.circus_model.specs.declared.signature.ProcedureShape.{ProcedureShape}
use Rattle.circus_record.specs.declared.record.AskRecord.{AskRecord}
use Rattle.circus_record.specs.declared.record.MemberRecord.{MemberRecord}
use Rattle.circus_record.specs.declared.record.RunRecord.{RunRecord}
use Rattle.circus_fanout.specs.Asking.{Asking, with_view}
use Rattle.circus_fanout.specs.Knowing as knowing
use Rattle.circus_performing.specs.Performing.{is_active}
use Rattle.circus_performing.specs.Record.{count_after}
use Rattle.circus_member_rules.specs.declared.place.Place.{Place}
use Rattle.circus_member_rules.specs.declared.occurrence.AskName.{AskName}
use Rattle.circus_member_rules.specs.declared.occurrence.Effect.{Effect}
use Rattle.circus_member_rules.specs.OpenAsks.{with_ask}
use Rattle.circus_member_theory.specs.Past.{booted}
use Rattle.circus_member_theory.specs.Asks.{as_made, asks_from, asks_of, is_new, knows, opened_one, first_calls, new_asks, open_asks}
use Rattle.circus_member_theory.specs.Returns.{first_of, run_of, has_ended}
use Rattle.circus_member_theory.specs.Timely.{IsMain, name_of}
use Rattle.circus_dues.specs.declared.owing.Owing.{Owing}
use Rattle.circus_dues.specs.Dues.{IsLawful, HasAsked, StandsAt, IsFounded, BeginsInTime, IsDuesOf, IsOwedAtBoot}
use Rattle.circus_dues.specs.Out.{KnowsAt}
use Rattle.circus_dues.specs.Walk.{IsLater, IsBy, IsNotBefore, AskOneByOne, IsRunInOrder, RunOneByOne, AreAnsweredOnward}
use Rattle.circus_dues.specs.Seen.Beginning.{is_founded, may_begin, unbegun, none_further}
use Rattle.circus_dues.specs.Seen.Owing.{untimely, begun, ended, ended_at, answers_of_ended, answers_at, ask_name, asking_at, asked, asked_at, calls_of_asked, calls_at, passed, made_by_pass}
use Rattle.circus_dues.specs.Seen.Parts.{CallsOut, with_opened}
use Rattle.circus_dues.specs.Seen.Steps.{is_by, is_in, runs_in_order}
use Rattle.circus_headline_theory.proofs.Owed.Entries.{none_from, none_of}
use Rattle.circus_dues.proofs.Beginning.{not_by_and_later, starts_later, answered_later, none_answers, timely_at_boot, all_later, none_yet, no_new_asks, late_run, next_is_late, number_of}
use Rattle.circus_dues.proofs.BeginningMain.{calls_left, asks_none, asks_first, ends_at_once}
use Rattle.circus_dues.proofs.CallsBooting as booting
use Rattle.circus_dues.proofs.CallsBooting.{kept_at_start, kept_at_end}
use Rattle.circus_dues.proofs.CallsPassing.{run_at}
use Rattle.circus_dues.proofs.OutCalls.{all_opened, first_calls_are}
use Rattle.circus_dues.proofs.OutKnown.{views_at_boot, knows_at_boot}
use Rattle.circus_dues.proofs.OutNew as new
use Rattle.circus_dues.proofs.SoundCalls.{opened_known}
use Rattle.circus_dues.proofs.Steps.{runs_are_so, so_are_runs}
use Rattle.circus_dues.proofs.WalkAnswers.{IsLateAsk, asks_behind}
use Rattle.circus_dues.proofs.WalkMade.{AreInOrder, each_in_order}
use Rattle.circus_dues.proofs.WalkRuns.{StartsLater, goes_on_by_ask}
use Rattle.circus_dues.proofs.WalkStarts.{IsLate, all_at, late_behind}

-- ---- it performs from its first call on

module _ (place : Place) (boot : List View) (begins : Joiner) (first : List ValueTree) (kept : MemberRecord) (procedures : List ProcedureShape) (at_boot : ℕ) where
  abbrev Founded : Type 0
  Founded = IsFounded place boot begins first kept procedures at_boot

  pub founded_is : is_founded begins kept ≡ true → is_active begins ≡ true → Founded
  founded_is is active =
      let both = and_parts (nat_eq kept.from (first_of begins)) (nat_eq kept.active_at 0)
      (subst (λ b. (not b || (nat_eq kept.from (first_of begins) && nat_eq kept.active_at 0)) ≡ true) active is) in
      record { from_is = eqb-true kept.from (first_of begins) both.0; since = eqb-true kept.active_at 0 both.1 }

  pub is_founded_so : (is_active begins ≡ true → Founded) → is_founded begins kept ≡ true
  is_founded_so so = by_active (is_active begins) so
    where
      by_active : (b : Bool) → (b ≡ true → Founded) → (not b || (nat_eq kept.from (first_of begins) && nat_eq kept.active_at 0)) ≡ true
      by_active true so =
          and_from (nat_eq kept.from (first_of begins)) (nat_eq kept.active_at 0) (eq-eqb kept.from (first_of begins) ((so refl).from_is)) (eq-eqb kept.active_at 0 ((so refl).since))
      by_active false so = refl

  -- what the record says by itself
  pub record MayBegin : Type 0 where
    pub order : RunOneByOne 0 kept.runs
    pub founded : is_active begins ≡ true → Founded

  pub may_begin_so : may_begin begins kept ≡ true → MayBegin
  may_begin_so is =
      let both = and_parts (runs_in_order 0 kept.runs) (is_founded begins kept) is in
      record { order = runs_are_so 0 kept.runs both.0; founded = founded_is both.1 }

  pub so_may_begin : BeginsInTime place boot begins first kept procedures at_boot → may_begin begins kept ≡ true
  so_may_begin t = and_from (runs_in_order 0 kept.runs) (is_founded begins kept) (so_are_runs 0 kept.runs t.order) (is_founded_so t.founded)

  -- an owing is as it should be, with what was made
  abbrev pub TellsSo : Owing → List Effect → Type 0
  TellsSo d effects =
      Decides d.is_timely (BeginsInTime place boot begins first kept procedures at_boot)
      × (d.is_timely ≡ true → IsOwedAtBoot place boot begins first kept procedures at_boot d effects)

-- ---- later than a step

is_later_of : (o : Option ℕ) → not (is_by o 0) ≡ true → IsLater 0 o
is_later_of None h = tt
is_later_of (Some n) h = leb-false n 0 (by_test (nat_le n 0) h)
  where
    by_test : (b : Bool) → not b ≡ true → b ≡ false
    by_test true h = absurd (true≢false (sym h))
    by_test false h = refl

later_is_so : (o : Option ℕ) → IsLater 0 o → not (is_by o 0) ≡ true
later_is_so None late = refl
later_is_so (Some n) late = ap not (lt-leb n 0 late)

not_ended : (o : Option ℕ) → IsLater 0 o → option_map_or (λ step. nat_le step 0) o false ≡ false
not_ended None late = refl
not_ended (Some n) late = lt-leb n 0 late

not_before_one : (o : Option ℕ) → IsLater 0 o → IsNotBefore 1 o
not_before_one None late = tt
not_before_one (Some n) late = omega (arith, late)

later_of_one : (o : Option ℕ) → IsNotBefore 1 o → IsLater 0 o
later_of_one None high = tt
later_of_one (Some n) high = omega (arith, high)

opened_asks : (place : Place) (boot : List View) (o : CallsOut) (name : AskName) (a : Asking) → (with_opened o name a).asks ≡ opened_one place boot o.known o.asks (name, a)
opened_asks place boot o name a = by_view (slice_get o.known.views a.header.server)
  where
    by_view : (v : Option View) → let x = option_map_or (λ (view : View). record o { asks = with_ask o.asks name (with_view view o.known.down a) }) v o in
        x.asks ≡ option_map_or (λ (view : View). with_ask o.asks name (with_view view o.known.down a)) v o.asks
    by_view None = refl
    by_view (Some view) = refl

-- ---- the MAIN, first of the runs

module _ (place : Place) (boot : List View) (begins : Joiner) (first : List ValueTree) (kept : MemberRecord) (procedures : List ProcedureShape) (lawful : IsLawful kept)
    (run : RunRecord) (rest : List RunRecord) (are : kept.runs ≡ run ∷ rest) (main : IsMain place.troupe boot run) where
  abbrev timely : Bool
  timely = may_begin begins kept

  -- as it is entered
  abbrev with_run : Owing
  with_run = begun kept (unbegun place boot begins first timely)

  abbrev Tells : Owing → List Effect → Type 0
  Tells d effects = TellsSo place boot begins first kept procedures 1 d effects

  abbrev number : ℕ
  number = count_after kept.from 0

  few : kept.from + 0 ≤ 4294967295
  few = let most = lawful.few in let long = ap (λ (l : List RunRecord). length l) are in omega (arith, most, long)

  number_is : number ≡ kept.from
  number_is = min-eq_left few ∙ (let same : kept.from + 0 ≡ kept.from = omega arith in same)

  run_there : run_of kept number ≡ Some run
  run_there = ap (run_of kept) (min-eq_left few) ∙ run_at kept 0 ∙ ap (λ l. slice_get l 0) are

  second : slice_get kept.runs 1 ≡ slice_get rest 0
  second = ap (λ l. slice_get l 1) are

  -- the order of its runs
  module _ (order : RunOneByOne 0 kept.runs) where
    so : RunOneByOne 0 (run ∷ rest)
    so = subst (RunOneByOne 0) are order

    rest_order : AreInOrder rest
    rest_order = each_in_order (unwrap_or run.ended run.started) rest so.3

    module _ (late : All (StartsLater 0) rest) where
      others : (n : ℕ) (r : RunRecord) → (n ≡ number → ⊥) → run_of kept n ≡ Some r → booting.IsLater r
      others n r other is = (let k = number_of kept n r is in by_number k.0 k.1 k.2)
        where
          by_number : (m : ℕ) → n ≡ kept.from + m → slice_get kept.runs m ≡ Some r → booting.IsLater r
          by_number zero same there = absurd (other (same ∙ sym (min-eq_left few)))
          by_number (suc m) same there =
              let at : slice_get rest m ≡ Some r = ap (λ l. slice_get l (suc m)) (sym are) ∙ there in
              late_run r (all_at IsRunInOrder rest m r rest_order at) (all_at (StartsLater 0) rest m r late at)

      begins_so : (is_active begins ≡ true → IsFounded place boot begins first kept procedures 1) → AreAnsweredOnward place boot begins procedures 1 kept booted 0 0 run.entry run.asks
          → BeginsInTime place boot begins first kept procedures 1
      begins_so founded answered =
          record {
            order = order;
            founded = founded;
            boots = λ n below. by_number n below;
            step = timely_at_boot place boot begins procedures 1 kept order (run ∷ []) rest are (omega arith) late (answered, tt);
          }
        where
          by_number : (n : ℕ) → n < 1 → IsSomeAnd (slice_get kept.runs n) (IsMain place.troupe boot)
          by_number zero below = subst (λ l. IsSomeAnd (slice_get l 0) (IsMain place.troupe boot)) (sym are) main
          by_number (suc n) below = absurd (omega (arith, below))

  -- ---- it asks nothing, and ends

  module _ (none : run.asks ≡ []) where
    abbrev with_end_of : Owing
    with_end_of = ended kept with_run run

    abbrev left_over : Bool
    left_over = option_map_or (λ (r : RunRecord). nat_le r.started 0) (slice_get kept.runs 1) false

    ends : run.ended ≡ Some 0
    ends = ends_at_once kept lawful run rest are none ∙ ap (λ n. Some n) main.0

    ended_by_boot : has_ended run booted ≡ true
    ended_by_boot = ap (λ o. option_map_or (λ step. nat_le step 0) o false) ends

    passes : passed place kept 0 with_run run 0 ≡ with_end_of
    passes =
        ap (λ o. option_map_or (asked_at place kept 0 with_run run) o (ended_at kept 0 with_run run)) (asks_none run none)
        ∙ ap (λ o. if is_in o 0 then ended kept with_run run else untimely with_run) ends

    makes_none : made_by_pass place kept 0 with_run run 0 ≡ []
    makes_none =
        ap (λ o. option_map_or (calls_at place kept with_run run) o (answers_at kept 0 with_run run)) (asks_none run none)
        ∙ ap (λ o. if is_in o 0 then answers_of_ended kept with_run run else []) ends

    module _ (order : RunOneByOne 0 kept.runs) (late : All (StartsLater 0) rest) where
      none_new : new_asks place boot kept booted ≡ []
      none_new =
          let P : RunRecord → Type 0 = λ r. All (λ (ask : AskRecord). is_new booted ask ≡ false) r.asks in
          none_of place (is_new booted) kept.from kept.runs
          (subst (All P) (sym are)
          (All-cons P run rest (subst (All (λ (ask : AskRecord). is_new booted ask ≡ false)) (sym none) (All-nil (λ (ask : AskRecord). is_new booted ask ≡ false)))
          (no_new_asks rest (rest_order order) late)))

      dues_ended : IsDuesOf place boot begins first kept booted (none_further kept with_end_of)
      dues_ended =
          record {
            known = knows_at_boot place boot begins kept;
            asks = sym (ap (fold (opened_one place boot (knows place boot booted)) []) none_new);
            calls = kept_at_end place.troupe begins kept number run run_there main.0 (others order late) ended_by_boot;
            requests = refl;
            phase_is = refl;
            began_is = refl;
            comes_to = record {
              few = (let long = ap (λ (l : List RunRecord). length l) are in omega (arith, long));
              ended = λ n r below there. by_number n r below there;
              next = subst (λ o. StandsAt booted o None) (sym second) (next_is_late rest late);
            };
          }
        where
          by_number : (n : ℕ) (r : RunRecord) → n < 1 → slice_get kept.runs n ≡ Some r → IsBy 0 r.ended
          by_number zero r below there =
              subst (λ (x : RunRecord). IsBy 0 x.ended) (same_Some run r (ap (λ l. slice_get l 0) (sym are) ∙ there)) (subst (IsBy 0) (sym ends) (omega arith))
          by_number (suc n) r below there = absurd (omega (arith, below))

    tells_ended : Tells (none_further kept with_end_of) []
    tells_ended = ((λ is. (owed is).in_time, λ t. so_timely t), λ is. owed is)
      where
        so_timely : BeginsInTime place boot begins first kept procedures 1 → (timely && not left_over) ≡ true
        so_timely t =
            and_from timely (not left_over) (so_may_begin place boot begins first kept procedures 1 t)
            (none_yet (slice_get kept.runs 1) (λ r there. starts_later place boot begins procedures 1 kept 1 r (t.step.starts 1 r (omega arith) there)))

        owed : (timely && not left_over) ≡ true → IsOwedAtBoot place boot begins first kept procedures 1 (none_further kept with_end_of) []
        owed is =
            let both = and_parts timely (not left_over) is in
            let may = may_begin_so place boot begins first kept procedures 1 both.0 in
            let behind = (so may.order).3 in
            let late = all_later (unwrap_or run.ended run.started) rest behind (subst (λ o. not (option_map_or (λ (r : RunRecord). nat_le r.started 0) o false) ≡ true) second both.1) in
            record {
              in_time = begins_so may.order late may.founded (subst (λ l. AreAnsweredOnward place boot begins procedures 1 kept booted 0 0 run.entry l) (sym none) tt);
              dues = dues_ended may.order late;
              made = sym (ap (flat_map (first_calls place boot (knows place boot booted))) (none_new may.order late));
            }

    pub tells_end : Tells (none_further kept (passed place kept 0 with_run run 0)) (made_by_pass place kept 0 with_run run 0)
    tells_end = subst (λ d. Tells (none_further kept d) (made_by_pass place kept 0 with_run run 0)) (sym passes) (subst (Tells (none_further kept with_end_of)) (sym makes_none) tells_ended)

  -- ---- it asks

  module _ (ask : AskRecord) (more : List AskRecord) (asks_are : run.asks ≡ ask ∷ more) where
    abbrev with_asked : Owing
    with_asked = asked place kept 0 with_run run 0 ask

    abbrev calls_made : List Effect
    calls_made = calls_of_asked place kept with_run run 0 ask

    left : is_spent run.entry ≡ false
    left = calls_left place.troupe boot run main

    there : slice_get run.asks 0 ≡ Some ask
    there = ap (λ l. slice_get l 0) asks_are

    passes_on : passed place kept 0 with_run run 0 ≡ with_asked
    passes_on =
        ap (λ o. option_map_or (asked_at place kept 0 with_run run) o (ended_at kept 0 with_run run)) (asks_first run ask more asks_are left)
        ∙ ap (λ o. option_map_or (asked place kept 0 with_run run 0) o with_run) there

    makes_calls : made_by_pass place kept 0 with_run run 0 ≡ calls_made
    makes_calls =
        ap (λ o. option_map_or (calls_at place kept with_run run) o (answers_at kept 0 with_run run)) (asks_first run ask more asks_are left)
        ∙ ap (λ o. option_map_or (calls_of_asked place kept with_run run 0) o []) there

    -- as it is made
    abbrev made_as : ℕ → AskName × Asking
    made_as index = as_made place index run.root run.path 0 run.entry ask

    abbrev out : CallsOut
    out = record { known = knowing.at_boot boot; asks = [] }

    abbrev name : AskName
    name = ask_name kept with_run 0

    abbrev asking : Asking
    asking = asking_at place kept with_run run 0 ask

    module _ (order : RunOneByOne 0 kept.runs) (unanswered : IsLater 0 ask.answered) where
      asks_so : AskOneByOne run.started (ask ∷ more)
      asks_so = subst (AskOneByOne run.started) asks_are ((so order).1.asks_so)

      asked_now : ask.asked ≡ 0
      asked_now = asks_so.0 ∙ main.0

      more_late : All (IsLateAsk 0) more
      more_late = asks_behind 0 run.started ask more asks_so unanswered

      goes_on : IsLater 0 run.ended
      goes_on = later_of_one run.ended (goes_on_by_ask 1 run [] ask more ((so order).1) asks_are (not_before_one ask.answered unanswered))

      rest_late : All (StartsLater 0) rest
      rest_late = All-weaker (IsLate 0) (StartsLater 0) (λ r l. l.started_later) rest (late_behind 0 0 run rest (so order) goes_on)

      new_is : new_asks place boot kept booted ≡ made_as kept.from ∷ []
      new_is =
          ap (asks_of place (is_new booted) kept.from) are
          ∙ (λ j. of_run j ++ none_of place (is_new booted) (kept.from + 1) rest (no_new_asks rest (rest_order order) rest_late) j)
        where
          none_more : All (λ (a : AskRecord). is_new booted a ≡ false) more
          none_more =
              All-weaker (IsLateAsk 0) (λ (a : AskRecord). is_new booted a ≡ false) (λ a l. ne_eqb a.asked 0 (λ at. (let above = l.asked_later in absurd (omega (arith, above, at))))) more more_late

          of_run : asks_from place (is_new booted) kept.from run.root run.path 0 run.entry run.asks ≡ made_as kept.from ∷ []
          of_run =
              ap (asks_from place (is_new booted) kept.from run.root run.path 0 run.entry) asks_are
              ∙ new.passed place (is_new booted) kept.from run.root run.path 0 run.entry ask more
              (and_from (is_new booted ask) (not (is_spent run.entry)) (eq-eqb ask.asked 0 asked_now) (ap not left))
              ∙ ap (λ l. made_as kept.from ∷ l) (none_from place (is_new booted) kept.from run.root run.path (0 + 1) (unwrap_or ask.after run.entry) more none_more)

      open_is : (with_opened out name asking).asks ≡ open_asks place boot kept booted
      open_is =
          opened_asks place boot out name asking
          ∙ ap (λ n. opened_one place boot (knowing.at_boot boot) [] (made_as n)) number_is
          ∙ sym (all_opened place boot booted (knowing.at_boot boot) (views_at_boot boot) [] (made_as kept.from ∷ []))
          ∙ sym (ap (fold (opened_one place boot (knows place boot booted)) []) new_is)

      calls_are : calls_made ≡ flat_map (first_calls place boot (knows place boot booted)) (new_asks place boot kept booted)
      calls_are =
          ap (λ n. first_calls place boot (knowing.at_boot boot) (made_as n)) number_is
          ∙ sym (first_calls_are place boot booted (knowing.at_boot boot) (views_at_boot boot) (made_as kept.from))
          ∙ sym (append-nil (first_calls place boot (knows place boot booted) (made_as kept.from)))
          ∙ sym (ap (flat_map (first_calls place boot (knows place boot booted))) new_is)

      has_asked : HasAsked booted run 1
      has_asked =
          record {
            some = omega arith;
            made = λ n a below at. by_first n a below at;
            later = λ n a enough at. by_more n a enough at;
            waits = subst (λ o. IsSomeAnd o (λ (a : AskRecord). IsLater 0 a.answered)) (sym there) unanswered;
            calls_left = left;
          }
        where
          by_first : (n : ℕ) (a : AskRecord) → n < 1 → slice_get run.asks n ≡ Some a → a.asked ≤ 0
          by_first zero a below at = (let now : ask.asked ≡ 0 = asked_now in subst (λ (x : AskRecord). x.asked ≤ 0) (same_Some ask a (sym there ∙ at)) (omega (arith, now)))
          by_first (suc n) a below at = absurd (omega (arith, below))

          by_more : (n : ℕ) (a : AskRecord) → 1 ≤ n → slice_get run.asks n ≡ Some a → 0 < a.asked
          by_more zero a enough at = absurd (omega (arith, enough))
          by_more (suc n) a enough at = (all_at (IsLateAsk 0) more n a more_late (ap (λ l. slice_get l (suc n)) (sym asks_are) ∙ at)).asked_later

      dues_asked : IsDuesOf place boot begins first kept booted with_asked
      dues_asked =
          record {
            known = subst (KnowsAt place boot begins kept booted) (sym (opened_known out name asking)) (knows_at_boot place boot begins kept);
            asks = open_is;
            calls = kept_at_start place.troupe begins kept number run run_there main.0 (others order rest_late) (not_ended run.ended goes_on);
            requests = refl;
            phase_is = refl;
            began_is = refl;
            comes_to = record {
              few = omega arith;
              ended = λ n r below at. absurd (omega (arith, below));
              next = subst (λ o. StandsAt booted o (Some 1)) (sym (ap (λ l. slice_get l 0) are)) ((let started = main.0 in omega (arith, started)), goes_on, has_asked);
            };
          }

      in_time_asked : (is_active begins ≡ true → IsFounded place boot begins first kept procedures 1) → BeginsInTime place boot begins first kept procedures 1
      in_time_asked founded =
          begins_so order rest_late founded
          (subst (λ l. AreAnsweredOnward place boot begins procedures 1 kept booted 0 0 run.entry l) (sym asks_are) (
            λ _. none_answers place boot begins procedures 1 kept (name_of place boot begins procedures 1 kept booted 0 0) ask unanswered,
            λ by. absurd (not_by_and_later 0 ask.answered by unanswered),
          ))

    tells_asked : Tells with_asked calls_made
    tells_asked = ((λ is. (owed is).in_time, λ t. so_timely t), λ is. owed is)
      where
        so_timely : BeginsInTime place boot begins first kept procedures 1 → (timely && not (is_by ask.answered 0)) ≡ true
        so_timely t =
            and_from timely (not (is_by ask.answered 0)) (so_may_begin place boot begins first kept procedures 1 t)
            (later_is_so ask.answered
            (answered_later place boot begins procedures 1 kept (name_of place boot begins procedures 1 kept booted 0 0) ask
            (t.step.answers 0 0 run ask (ap (λ l. slice_get l 0) are) there left)))

        owed : (timely && not (is_by ask.answered 0)) ≡ true → IsOwedAtBoot place boot begins first kept procedures 1 with_asked calls_made
        owed is =
            let both = and_parts timely (not (is_by ask.answered 0)) is in
            let may = may_begin_so place boot begins first kept procedures 1 both.0 in
            let unanswered = is_later_of ask.answered both.1 in
            record { in_time = in_time_asked may.order unanswered may.founded; dues = dues_asked may.order unanswered; made = calls_are may.order unanswered }

    pub tells_ask : Tells (none_further kept (passed place kept 0 with_run run 0)) (made_by_pass place kept 0 with_run run 0)
    tells_ask = subst (λ d. Tells (none_further kept d) (made_by_pass place kept 0 with_run run 0)) (sym passes_on) (subst (Tells with_asked) (sym makes_calls) tells_asked)

  -- ---- either

  pub tells_main : Tells (none_further kept (passed place kept 0 with_run run 0)) (made_by_pass place kept 0 with_run run 0)
  tells_main = by_asks run.asks refl
    where
      by_asks : (asks : List AskRecord) → run.asks ≡ asks → Tells (none_further kept (passed place kept 0 with_run run 0)) (made_by_pass place kept 0 with_run run 0)
      by_asks [] is = tells_end is
      by_asks (ask ∷ more) is = tells_ask ask more is
