-- What a member does by its record, part by part of a step, leaves it such that it may go on.
use Rattle.std.specs.Prelude.{nat_le, slice_get, option_map, option_and_then, IfSome}
use Rattle.std.specs.Option.{option_map_or}
use Rattle.std.specs.Cmp.Lexicographic.{bytes_decides}
use Rattle.std.proofs.Common.{◌≡◌, ℕ, zero, suc, ◌+◌, ◌-◌, ◌≤◌, Bool, true, false, if◌then◌else◌, List, [], ◌∷◌, ◌++◌, filter, length, Option, None, Some, refl, sym, ap, subst, ◌∙◌, arith}
use Rattle.std.proofs.lemmas.Bool.{and_parts, eqb-true, leb-true}
use Rattle.std.proofs.Math.Nat.{min-eq_left}
use Rattle.std.proofs.lemmas.Option.{slice_get_within}
use Rattle.circus_limits.specs.Limits.{most_asks}
use Rattle.circus_value.specs.Fits.{all_fit}
use Rattle.circus_value.specs.ValueTree.{ValueTree}
use Rattle.circus_value.specs.ValueEquality.{values_eq_decides}
use Rattle.circus_header.specs.declared.answer.Reply.{Reply}
use Rattle.circus_collate.specs.declared.view.View.{View}
use Rattle.circus_transfer.specs.Joining.{after_join}
use Rattle.circus_transfer.specs.declared.joiner.Joiner.{Joiner}
use Rattle.circus_model.specs.declared.signature.Signature.{Signature}
use Rattle.circus_record.specs.declared.record.AskRecord.{AskRecord}
use Rattle.circus_record.specs.declared.record.RunRecord.{RunRecord}
use Rattle.circus_record.specs.declared.record.MemberRecord.{MemberRecord}
use Rattle.circus_gather.specs.Gathering.{Gathered, answer_to, with_call, with_required, with_first, with_start, reply_of, call_to_start}
use Rattle.circus_gather.specs.declared.held.HeldCall.{HeldCall}
use Rattle.circus_fanout.specs.Knowing.{want_view, note_down, note_lookup}
use Rattle.circus_fanout.specs.Asking.{Asking, with_reply, with_before, with_view}
use Rattle.circus_performing.specs.declared.start.RunStart.{RunStart}
use Rattle.circus_performing.specs.Performing.{is_active, is_fetching, last_count}
use Rattle.circus_performing.specs.Record.{start_of}
use Rattle.circus_member_rules.specs.declared.place.Place.{Place}
use Rattle.circus_member_rules.specs.declared.occurrence.AskName.{AskName}
use Rattle.circus_member_rules.specs.declared.occurrence.Occurrence.{Occurrence}
use Rattle.circus_member_rules.specs.declared.occurrence.Occurrence.TheVariants as comes
use Rattle.circus_member_rules.specs.OpenAsks.{with_ask, with_asking, is_waiting}
use Rattle.circus_member_rules.specs.Rules.{wanted_by_call, after_stale, stays_open, ringmaster}
use Rattle.circus_member_rules.specs.Step.{start_by_call, main_start, reply_of_run}
use Rattle.circus_member_rules.specs.Happening.{IsHome, IsThread}
use Rattle.circus_member_rules.proofs.Held.{called_same}
use Rattle.circus_member_rules.proofs.Homes.{declared_views}
use Rattle.circus_member_rules.proofs.Named.{All-opened}
use Rattle.circus_member_theory.specs.Returns.{first_of}
use Rattle.circus_dues.specs.declared.owing.Owing.{Owing}
use Rattle.circus_dues.specs.Seen.Parts.{CallsIn, CallsOut, IsAskOf, MayCallFor, with_table, with_opened}
use Rattle.circus_dues.specs.Seen.Beginning.{unbegun}
use Rattle.circus_dues.specs.Seen.Steps.{is_in, is_start, is_entered}
use Rattle.circus_dues.specs.Seen.Owing.{CanCome, MayPerform, HasFewAsked, Underway, behind, restored, activated, phase_by_table, index, ask_name, begun, ended, ended_at, untimely, underway, value_of, agrees, asking_at, asked, asked_at, next_of, passed, gone_on_with, gone_on, given_states, state_of, is_idle, entered, may_enter, next_start, none_starts, entered_all, left_of, started_runs, waiting, concluded}
use Rattle.circus_dues.specs.Seen.Sound.{IsSayable, IsSayableRun, MayGoOn, IsPassed, IsUnderway, MayGoOnOwing, IsSoundOwing}
use Rattle.circus_dues.proofs.Calling.{still_changed, still_closed, stale_header, may_by_table, may_with_asks}
use Rattle.circus_dues.proofs.SoundHeaders.{IsThreadOf, called_thread, main_thread, entered_thread}
use Rattle.circus_dues.proofs.SoundRecord.{end_is_reply, run_is_sayable, state_behind}
use Rattle.circus_dues.proofs.SoundCalls.{may_with_requests, may_with_call, may_with_required, may_with_first, may_with_start, may_with_end, may_with_out, may_with_wanted, may_with_client, may_start_by, table_as_many, opened_known, still_passed, may_at_boot}
use Rattle.circus_dues.proofs.SoundSteps.{may_be_sent, may_perform}

-- ---- tests and options

-- what holds of what an option gives, or of what there is without it
by_option : {A B : Type 0} (P : B → Type 0) (f : A → B) (o : Option A) (other : B) → P other → ((x : A) → o ≡ Some x → P (f x)) → P (option_map_or f o other)
by_option P f None other without with = without
by_option P f (Some x) other without with = with x refl

by_test : {A : Type 0} (P : A → Type 0) (test : Bool) (x y : A) → (test ≡ true → P x) → P y → P (if test then x else y)
by_test P true x y is isnt = is refl
by_test P false x y is isnt = isnt

mapped : {A B : Type 0} (f : A → B) (o : Option A) (y : B) → option_map f o ≡ Some y → (x : A) × (o ≡ Some x) × (f x ≡ y)
mapped f None y is = cc
mapped f (Some x) y is = (x, refl, some_inj is)
  where
    some_inj : Some (f x) ≡ Some y → f x ≡ y
    some_inj same = cc

chosen : {A B : Type 0} (f : A → Option B) (o : Option A) (y : B) → option_and_then f o ≡ Some y → (x : A) × (o ≡ Some x) × (f x ≡ Some y)
chosen f None y is = cc
chosen f (Some x) y is = (x, refl, is)

-- ---- a run is entered

-- one that the record says to be entered so
pub start_is : (run : RunRecord) (start : RunStart) → is_start run start ≡ true → start_of run ≡ start
start_is run start is =
    let root = and_parts _ _ is in
    let path = and_parts _ _ root.1 in
    let procedure = and_parts _ _ path.1 in
    let rest = and_parts _ _ procedure.1 in
    λ j. record {
      root = eqb-true run.root start.root root.0 j;
      path = (bytes_decides run.path start.path).0 path.0 j;
      procedure = eqb-true run.procedure start.procedure procedure.0 j;
      arguments = (values_eq_decides run.arguments start.arguments).0 rest.0 j;
      clock = (bytes_decides run.entry start.clock).0 rest.1 j;
    }

-- one that ends in a step has ended
ends_in : (step : Option ℕ) (at : ℕ) → is_in step at ≡ true → (n : ℕ) × (step ≡ Some n)
ends_in None at is = absurd (let clash : false ≡ true = is in cc)
ends_in (Some n) at is = (n, refl)

-- the run that is under way is the one behind those that have ended
underway_is : (kept : MemberRecord) (d : Owing) (u : Underway) → underway kept d ≡ Some u → (slice_get kept.runs d.walk.ended ≡ Some u.run) × (d.walk.asked ≡ Some u.asked)
underway_is kept d u is =
    let run = chosen _ (slice_get kept.runs d.walk.ended) u is in
    let asked = chosen _ d.walk.asked u run.2 in
    let ask = mapped _ (slice_get run.0.asks (asked.0 - 1)) u asked.2 in
    (run.1 ∙ ap (λ (x : Underway). Some x.run) ask.2, asked.1 ∙ ap (λ (x : Underway). Some x.asked) ask.2)

module _ (declared : Signature) (place : Place) (views : List View) (home : IsHome declared place views) (kept : MemberRecord) (sayable : IsSayable declared (length views) kept) where
  abbrev modules : ℕ
  modules = length views

  abbrev GoesOn : Owing → Type 0
  GoesOn d = MayGoOnOwing declared place modules kept d

  abbrev IsOn : Gathered → ℕ → Option ℕ → Type 0
  IsOn g ended asked = IfSome asked (IsUnderway place modules kept g ended)

  -- with the same replies a run that is under way stays so
  stays_on : (g later : Gathered) (ended : ℕ) (asked : Option ℕ) → later.replies ≡ g.replies → IsOn g ended asked → IsOn later ended asked
  stays_on g later ended None same on = tt
  stays_on g later ended (Some n) same on =
      record { few = on.few; passed = still_passed place modules kept g later ended same on.passed }

  -- the walk and the state stay
  goes_with : (d : Owing) (o : CallsOut) (c : CallsIn) (phase : Joiner) (timely : Bool) → c.gathered.replies ≡ d.calls.gathered.replies
      → MayGoOn declared place modules o c → GoesOn d → GoesOn (record d { out = o; calls = c; phase = phase; is_timely = timely })
  goes_with d o c phase timely same goes h =
      record { goes = goes; began = h.began; there = h.there; underway = stays_on d.calls.gathered c.gathered d.walk.ended d.walk.asked same h.underway }

  goes_untimely : (d : Owing) (timely : Bool) → GoesOn d → GoesOn (record d { is_timely = timely })
  goes_untimely d timely h = record { goes = h.goes; began = h.began; there = h.there; underway = h.underway }

  -- ---- at boot

  pub goes_at_boot : (begins : Joiner) (first : List ValueTree) (timely : Bool) → all_fit declared.variables first ≡ true → GoesOn (unbegun place views begins first timely)
  goes_at_boot begins first timely fits =
      record { goes = may_at_boot declared place modules views (first_of begins) refl home; began = fits; there = omega arith; underway = tt }

  -- ---- what comes

  goes_activated : (at : ℕ) (state : List ValueTree) (count : ℕ) (d : Owing) → CanCome declared place.troupe modules (comes.Restored state count) → GoesOn d → GoesOn (restored kept at state count d)
  goes_activated at state count d can h =
      by_test GoesOn (is_fetching d.phase) (activated kept at state count d) d
      (λ _. record {
        goes = may_with_first declared place modules d.out d.calls h.goes count;
        began = can.fits;
        there = h.there;
        underway = stays_on d.calls.gathered (with_first d.calls.gathered count) d.walk.ended d.walk.asked refl h.underway;
      })
      h

  pub goes_behind : (at : ℕ) (o : Occurrence) (d : Owing) → CanCome declared place.troupe modules o → GoesOn d → GoesOn (behind kept at o d)
  goes_behind at (comes.Asked header body sender) d can h =
      let added = answer_to d.calls.gathered header in
      let call : HeldCall = record { header = header; body = body; sender = sender } in
      let out : CallsOut = record d.out { known = wanted_by_call added header d.out.known } in
      goes_with d out (record d.calls { gathered = with_call d.calls.gathered call }) d.phase d.is_timely (called_same d.calls.gathered call).1
      (may_with_call declared place modules out d.calls (may_with_client declared place modules d.out d.calls h.goes added header) call can) h
  goes_behind at (comes.Fetched incarnation sender) d can h =
      goes_with d d.out (record { gathered = with_required d.calls.gathered incarnation; requests = d.calls.requests ++ sender ∷ [] }) d.phase d.is_timely refl
      (may_with_required declared place modules d.out d.calls h.goes incarnation (d.calls.requests ++ sender ∷ [])) h
  goes_behind at (comes.Replied name from reply) d can h =
      let out : CallsOut = record d.out { asks = with_asking name (with_reply from reply) d.out.asks } in
      goes_with d out d.calls d.phase d.is_timely refl
      (may_with_out declared place modules d.out d.calls h.goes out refl
      (still_changed d.out d.out d.out.known out.asks name (with_reply from reply) refl refl refl (λ a. refl) place h.goes.out)) h
  goes_behind at (comes.IsStale name server from incarnation) d can h =
      let k = d.out.known in
      let out : CallsOut = record { known = want_view k server incarnation; asks = with_asking name (after_stale k from incarnation) d.out.asks } in
      goes_with d out d.calls d.phase d.is_timely refl
      (may_with_out declared place modules d.out d.calls h.goes out refl
      (still_changed d.out d.out out.known out.asks name (after_stale k from incarnation) refl refl refl (stale_header k from incarnation) place h.goes.out)) h
  goes_behind at (comes.IsBefore name from) d can h =
      let out : CallsOut = record d.out { asks = with_asking name (with_before from) d.out.asks } in
      goes_with d out d.calls d.phase d.is_timely refl
      (may_with_out declared place modules d.out d.calls h.goes out refl
      (still_changed d.out d.out d.out.known out.asks name (with_before from) refl refl refl (λ a. refl) place h.goes.out)) h
  goes_behind at (comes.Told request table) d can h =
      goes_with d (with_table d.out request table.view) d.calls (phase_by_table request table d.phase) d.is_timely refl
      (may_with_out declared place modules d.out d.calls h.goes (with_table d.out request table.view) (table_as_many d.out request table.view)
      (may_by_table place d.out request table.view can h.goes.out)) h
  goes_behind at (comes.Restored state count) d can h = goes_activated at state count d can h
  goes_behind at (comes.Declared node) d can h =
      goes_with d (record d.out { known = note_down d.out.known node }) d.calls d.phase d.is_timely refl
      (may_with_wanted declared place modules d.out d.calls h.goes (note_down d.out.known node) (declared_views d.out.known node)) h
  goes_behind at comes.Joins d can h = goes_with d d.out d.calls (after_join d.phase) d.is_timely refl h.goes h

  -- ---- states are given, and asks closed

  pub goes_given : (d : Owing) → GoesOn d → GoesOn (given_states d)
  goes_given d h =
      by_test GoesOn (is_idle d) (record d { calls = record d.calls { requests = [] } }) d
      (λ _. goes_with d d.out (record d.calls { requests = [] }) d.phase d.is_timely refl (may_with_requests declared place modules d.out d.calls h.goes []) h)
      h

  pub goes_concluded : (d : Owing) → GoesOn d → GoesOn (concluded kept d)
  goes_concluded d h =
      let keep = stays_open d.out.known (is_waiting (waiting kept d)) in
      let out : CallsOut = record { known = note_lookup d.out.known ringmaster; asks = filter keep d.out.asks } in
      goes_with d out d.calls d.phase d.is_timely refl
      (may_with_out declared place modules d.out d.calls h.goes out refl
      (still_closed d.out d.out out.known out.asks keep refl refl refl place h.goes.out)) h

  -- ---- a run asks on, or ends

  opened_may : (o : CallsOut) (name : AskName) (a : Asking) → IsAskOf place.troupe a → MayCallFor place o → MayCallFor place (with_opened o name a)
  opened_may o name a is may = by_option (MayCallFor place) _ (slice_get o.known.views a.header.server) o may (λ view there.
      may_with_asks place o (with_ask o.asks name (with_view view o.known.down a))
      (All-opened (IsAskOf place.troupe) o.asks name (with_view view o.known.down a) (record { asked = is.asked; client = is.client }) may.asks) may)

  module _ (at : ℕ) (d : Owing) (run : RunRecord) (there : slice_get kept.runs d.walk.ended ≡ Some run) (on : IsPassed place modules kept d.calls.gathered d.walk.ended) (h : GoesOn d) where
    says : IsSayableRun declared modules run
    says = run_is_sayable declared modules kept sayable d.walk.ended run there

    goes_asked : (number : ℕ) (ask : AskRecord) → slice_get run.asks number ≡ Some ask → GoesOn (asked place kept at d run number ask)
    goes_asked number ask this =
        let a = asking_at place kept d run number ask in
        let sent = may_be_sent declared place views home run (on.thread run there) says number ask this in
        let name = ask_name kept d number in
        let low = slice_get_within run.asks number ask this in
        let most = says.few in
        record {
          goes =
              may_with_out declared place modules d.out d.calls h.goes (with_opened d.out name a) (ap (λ k. length k.views) (opened_known d.out name a))
              (opened_may d.out name a (record { asked = sent.asked (index kept d); client = refl }) h.goes.out);
          began = h.began;
          there = h.there;
          underway = record { few = omega (arith, low, most); passed = on };
        }

    goes_ended : GoesOn (ended_at kept at d run)
    goes_ended =
        by_test GoesOn (is_in run.ended at) (ended kept d run) (untimely d) (λ is.
        let step = ends_in run.ended at is in
        let own = home.own in
        let low = slice_get_within kept.runs d.walk.ended run there in
        record {
          goes =
              may_with_end declared place modules d.out d.calls h.goes (index kept d) (reply_of_run run)
              (end_is_reply declared modules run step.0 (omega (arith, own)) home.few says step.1);
          began = h.began;
          there = omega (arith, low);
          underway = tt;
        })
        (goes_untimely d false h)

    pub goes_passed : (from : ℕ) → GoesOn (passed place kept at d run from)
    goes_passed from =
        by_option GoesOn (asked_at place kept at d run) (next_of run from) (ended_at kept at d run) goes_ended (λ number _.
        by_option GoesOn (asked place kept at d run number) (slice_get run.asks number) d h (goes_asked number))

  -- ---- the open ask is answered

  pub goes_gone_on : (at : ℕ) (d : Owing) → GoesOn d → GoesOn (gone_on place kept at d)
  goes_gone_on at d h =
      by_option GoesOn (gone_on_with place kept at d) (underway kept d) d h (λ u is.
      let these = underway_is kept d u is in
      let on : IsUnderway place modules kept d.calls.gathered d.walk.ended u.asked = subst (IsOn d.calls.gathered d.walk.ended) these.1 h.underway in
      let given = value_of kept d (u.asked - 1) in
      by_test GoesOn (agrees at u.ask given) (option_map_or (λ _. passed place kept at d u.run u.asked) given d) (untimely d)
      (λ _. by_option GoesOn (λ (_ : Reply). passed place kept at d u.run u.asked) given d h (λ _ _. goes_passed at d u.run these.0 on.passed h u.asked))
      (goes_untimely d false h))

  -- ---- runs start

  -- so a run may be entered, its index having no reply
  pub record MayEnter (d : Owing) (start : RunStart) : Type 0 where
    pub thread : IsThreadOf place.troupe modules start
    pub fresh : reply_of d.calls.gathered (index kept d) ≡ None

  -- at boot it may be as the MAIN of a root
  pub main_may_enter : (d : Owing) → d.calls.gathered.replies ≡ [] → MayEnter d (main_start place.troupe views)
  main_may_enter d none =
      record {
        thread = main_thread declared place views home;
        fresh = ap (λ (rs : List (ℕ × Reply)). reply_of (record d.calls.gathered { replies = rs }) (index kept d)) none;
      }

  entered_passed : (d : Owing) (start : RunStart) (run : RunRecord) (at : ℕ) → MayEnter d start → slice_get kept.runs d.walk.ended ≡ Some run → is_entered run at start ≡ true
      → IsPassed place modules kept d.calls.gathered d.walk.ended
  entered_passed d start run at may there is =
      record {
        thread = λ other this. subst (λ (r : RunRecord). IsThread modules r.root r.path r.entry place.troupe) (same other this)
            (entered_thread place.troupe modules run start (start_is run start (and_parts _ _ is).1) may.thread);
        fresh = may.fresh;
      }
    where
      same : (other : RunRecord) → slice_get kept.runs d.walk.ended ≡ Some other → run ≡ other
      same other this = let is : Some run ≡ Some other = sym there ∙ this in cc

  -- what a run does may be sent, where it is entered so
  pub entered_performs : (d : Owing) (start : RunStart) (run : RunRecord) (at : ℕ) → MayEnter d start → slice_get kept.runs d.walk.ended ≡ Some run → is_entered run at start ≡ true → MayPerform place.troupe run
  entered_performs d start run at may there is =
      may_perform declared place views home run ((entered_passed d start run at may there is).thread run there) (run_is_sayable declared modules kept sayable d.walk.ended run there)

  goes_begun : (d : Owing) → GoesOn d → GoesOn (begun kept d)
  goes_begun d h =
      goes_with d d.out (record d.calls { gathered = with_start d.calls.gathered (index kept d) }) d.phase d.is_timely refl
      (may_with_start declared place modules d.out d.calls h.goes (index kept d)) h

  pub goes_entered : (at : ℕ) (d : Owing) (start : RunStart) → MayEnter d start → GoesOn d → GoesOn (entered place kept at d start)
  goes_entered at d start may h =
      by_option GoesOn _ (slice_get kept.runs d.walk.ended) (untimely d) (goes_untimely d false h) (λ run there.
      by_test GoesOn (is_entered run at start) (passed place kept at (begun kept d) run 0) (untimely d)
      (λ is.
      let on = entered_passed d start run at may there is in
      goes_passed at (begun kept d) run there (record { thread = on.thread; fresh = on.fresh }) (goes_begun d h) 0)
      (goes_untimely d false h))

  -- by the call that the collator gives
  abbrev number_of : Owing → ℕ
  number_of d = kept.from + d.walk.ended

  abbrev given_to_start : Owing → Option HeldCall
  given_to_start d = call_to_start d.calls.gathered d.out.known.views d.out.known.down place.calls (number_of d)

  pub next_may_enter : (d : Owing) (start : RunStart) → GoesOn d → next_start place kept declared.procedures d ≡ Some start → MayEnter d start
  next_may_enter d start h is = by_count (nat_le (number_of d) last_count) refl is
    where
      by_count : (b : Bool) → nat_le (number_of d) last_count ≡ b
          → (if b then option_map (start_by_call place.troupe declared.procedures) (given_to_start d) else None) ≡ Some start → MayEnter d start
      by_count false above none = cc
      by_count true within some =
          let call = mapped (start_by_call place.troupe declared.procedures) (given_to_start d) start some in
          let may = may_start_by declared place modules d.out d.calls h.goes d.out.known.views d.out.known.down place.calls (number_of d) call.0 call.1 in
          record {
            thread = subst (IsThreadOf place.troupe modules) call.2 (called_thread declared place.troupe modules call.0 may.can);
            fresh = subst (λ i. reply_of d.calls.gathered i ≡ None) (sym (min-eq_left (leb-true (number_of d) last_count within))) may.fresh;
          }

  goes_none : (at : ℕ) (d : Owing) → GoesOn d → GoesOn (none_starts kept at d)
  goes_none at d h = goes_untimely d _ h

  goes_all : (at left : ℕ) (d : Owing) → GoesOn d → GoesOn (entered_all place kept at declared.procedures left d)
  unfolding entered_all
  goes_all at zero d h = h
  goes_all at (suc left) d h =
      by_test GoesOn (may_enter d) _ d
      (λ _. by_option GoesOn _ (next_start place kept declared.procedures d) (none_starts kept at d) (goes_none at d h) (λ start is.
      goes_all at left (entered place kept at d start) (goes_entered at d start (next_may_enter d start h is) h)))
      h

  pub goes_started : (at : ℕ) (d : Owing) → GoesOn d → GoesOn (started_runs place kept at declared.procedures d)
  goes_started at d h =
      by_test GoesOn (is_active d.phase) (entered_all place kept at declared.procedures (left_of kept d) d) (none_starts kept at d)
      (λ _. goes_all at (left_of kept d) d h) (goes_none at d h)

  -- ---- what the code asks for

  -- the state of a member that performs no run is one of its module
  pub state_fits : (d : Owing) → GoesOn d → all_fit declared.variables (state_of kept d) ≡ true
  state_fits d h = state_behind declared modules kept sayable d.began d.walk.ended h.began

  -- what the run that is under way does may be sent, and its index has no reply
  pub underway_performs : (d : Owing) (asked : ℕ) (run : RunRecord) → GoesOn d → d.walk.asked ≡ Some asked → slice_get kept.runs d.walk.ended ≡ Some run → MayPerform place.troupe run
  underway_performs d asked run h is there =
      let on : IsUnderway place modules kept d.calls.gathered d.walk.ended asked = subst (IsOn d.calls.gathered d.walk.ended) is h.underway in
      may_perform declared place views home run (on.passed.thread run there) (run_is_sayable declared modules kept sayable d.walk.ended run there)

  pub underway_fresh : (d : Owing) (asked : ℕ) → GoesOn d → d.walk.asked ≡ Some asked → reply_of d.calls.gathered (index kept d) ≡ None
  underway_fresh d asked h is =
      let on : IsUnderway place modules kept d.calls.gathered d.walk.ended asked = subst (IsOn d.calls.gathered d.walk.ended) is h.underway in
      on.passed.fresh

  pub few_asked : (d : Owing) → GoesOn d → HasFewAsked d.walk
  few_asked d h = by_asked d.walk.asked h.underway
    where
      by_asked : (o : Option ℕ) → IsOn d.calls.gathered d.walk.ended o → IfSome o (λ asked. asked ≤ most_asks)
      by_asked None on = tt
      by_asked (Some n) on = on.few

-- ---- at boot

pub sound_at_boot : (declared : Signature) (place : Place) (views : List View) (home : IsHome declared place views) (kept : MemberRecord) (sayable : IsSayable declared (length views) kept)
    → (begins : Joiner) (first : List ValueTree) (timely : Bool) → all_fit declared.variables first ≡ true
    → IsSoundOwing declared place kept (unbegun place views begins first timely)
sound_at_boot declared place views home kept sayable begins first timely fits =
    record { boot = views; home = home; sayable = sayable; may = goes_at_boot declared place views home kept sayable begins first timely fits }

-- where the MAIN of a root is entered
pub sound_as_root : (declared : Signature) (place : Place) (views : List View) (home : IsHome declared place views) (kept : MemberRecord) (sayable : IsSayable declared (length views) kept)
    → (begins : Joiner) (first : List ValueTree) (timely : Bool) → all_fit declared.variables first ≡ true
    → IsSoundOwing declared place kept (entered place kept 0 (unbegun place views begins first timely) (main_start place.troupe views))
sound_as_root declared place views home kept sayable begins first timely fits =
    let d = unbegun place views begins first timely in
    record {
      boot = views;
      home = home;
      sayable = sayable;
      may =
          goes_entered declared place views home kept sayable 0 d (main_start place.troupe views) (main_may_enter declared place views home kept sayable d refl)
          (goes_at_boot declared place views home kept sayable begins first timely fits);
    }

-- whether it is in time or not
pub sound_timely : (declared : Signature) (place : Place) (kept : MemberRecord) (d : Owing) (timely : Bool) → IsSoundOwing declared place kept d → IsSoundOwing declared place kept (record d { is_timely = timely })
sound_timely declared place kept d timely s =
    record { boot = s.boot; home = s.home; sayable = s.sayable; may = goes_untimely declared place s.boot s.home kept s.sayable d timely s.may }
