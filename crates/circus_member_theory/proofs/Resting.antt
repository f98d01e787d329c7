-- A step of a member comes to rest, and so does its boot.
use Rattle.std.proofs.Common.{◌≡◌, ℕ, zero, suc, ◌<◌, Bool, true, false, if◌then◌else◌, List, [], ◌++◌, length, Option, Some, None, refl, sym, ap, subst, ◌∙◌, arith}
use Rattle.std.specs.Prelude.{slice_get}
use Rattle.std.specs.List.{IsDistinct}
use Rattle.std.specs.Option.{option_map_or}
use Rattle.std.proofs.lemmas.List.{length-map}
use Rattle.std.proofs.lemmas.List.Elements.{All-nil, All-weaker}
use Rattle.circus_value.specs.ValueTree.{ValueTree}
use Rattle.circus_value.specs.declared.outcome.Outcome.{Outcome}
use Rattle.circus_header.specs.declared.answer.Reply.{Reply}
use Rattle.circus_collate.specs.declared.view.View.{View}
use Rattle.circus_transfer.specs.declared.joiner.Joiner.{Joiner}
use Rattle.circus_model.specs.declared.signature.Signature.{Signature}
use Rattle.circus_model.specs.NextTurn.{NextTurn}
use Rattle.circus_model.specs.Behaviour.{Behaviour, IsModule}
use Rattle.circus_record.specs.declared.record.AskRecord.{AskRecord}
use Rattle.circus_record.specs.declared.record.RunRecord.{RunRecord}
use Rattle.circus_gather.specs.declared.held.HeldCall.{HeldCall}
use Rattle.circus_fanout.specs.Knowing.{Knowing}
use Rattle.circus_gather.specs.Gathering.{answer_to, with_start, with_first}
use Rattle.circus_gather.specs.Gathering as gathering
use Rattle.circus_fanout.specs.Asking.{Asking}
use Rattle.circus_performing.specs.declared.start.RunStart.{RunStart}
use Rattle.circus_performing.specs.Performing.{Performing, open_ask, last_of, is_fetching, made_active}
use Rattle.circus_performing.specs.Performing as performing
use Rattle.circus_performing.specs.Acts.{as_founder, as_spare}
use Rattle.circus_performing.specs.Record.{behaviour, IsRecord}
use Rattle.circus_performing.proofs.Records.{acts_keep}
use Rattle.circus_member_rules.specs.declared.place.Place.{Place}
use Rattle.circus_member_rules.specs.declared.place.Beginning.{Beginning}
use Rattle.circus_member_rules.specs.declared.place.Beginning.TheVariants.{Founder, Spare}
use Rattle.circus_member_rules.specs.declared.occurrence.AskName.{AskName}
use Rattle.circus_member_rules.specs.declared.occurrence.Occurrence.{Occurrence}
use Rattle.circus_member_rules.specs.declared.occurrence.Occurrence.TheVariants as comes
use Rattle.circus_member_rules.specs.Callable.{IsReply}
use Rattle.circus_member_rules.specs.Rules.{is_settled, stays_open, active_call, before_answers, snapshots_owed}
use Rattle.circus_member_rules.specs.MemberState.{MemberState, Doing, add_effects}
use Rattle.circus_member_rules.specs.Step.{name_of_last, asking_begun, is_idle, start_by_call, main_start, answered_by_ring, with_record, opened_by_view, opened_ask, ended_run, after_turns, value_of_open, given_states, next_start, answered_by, answered_open, enter_run_of, start_runs, execute, keep_ask_open, look_up, step_member, handle, waits, performer_at_boot, before_any, starts_at_boot, boot_member}
use Rattle.circus_member_rules.specs.GoneOn.{HasGoneOn}
use Rattle.circus_member_rules.specs.Happening.{IsHome, CanHappen}
use Rattle.circus_member_rules.specs.Seen.Sound.{IsHeld, IsOpenAsk, AreNamed, IsSound, MayStart, IsRested}
use Rattle.circus_member_rules.proofs.Homes.{told_as_many, ring_views, called_views, declared_views}
use Rattle.circus_member_rules.proofs.Handled.{sound_asked, sound_fetched, sound_replied, sound_before, sound_stale, sound_told, sound_declared, sound_joins, sound_restored}
use Rattle.circus_member_rules.proofs.Starting.{IsSoundNow, sound_entered, sound_executed}
use Rattle.circus_member_rules.proofs.Resting.{rested}
use Rattle.circus_member_rules.proofs.Unsettled.{entered_left}
use Rattle.circus_member_rules.proofs.Done.{executed_done, still_done}
use Rattle.circus_member_theory.specs.Ranges.{InRange}

-- ---- what stays in a step

-- the module and the place, and how many views are known
pub record IsSame {M : Type 0} (m n : MemberState M) : Type 0 where
  pub hosted : n.performing.hosted ≡ m.performing.hosted
  pub place : n.place ≡ m.place
  pub views : length n.known.views ≡ length m.known.views

-- and what is known, as it goes on
pub record Stays {M : Type 0} (m n : MemberState M) : Type 0 where
  pub hosted : n.performing.hosted ≡ m.performing.hosted
  pub place : n.place ≡ m.place
  pub known : n.known ≡ m.known

-- behind a step of one member another is left: it is at rest, has gone on as far as it can, and stayed where it was
pub record HasRested {M : Type 0} (b : Behaviour) (m n : MemberState M) : Type 0 where
  pub rested : IsRested b n
  pub gone_on : HasGoneOn n
  pub hosted : n.performing.hosted ≡ m.performing.hosted
  pub place : n.place ≡ m.place
  pub views : length n.known.views ≡ length m.known.views

-- a member at boot is at rest at its place, with the module and the views that it was given
pub record HasBooted {M : Type 0} (b : Behaviour) (at : Place) (boot : List View) (given : M) (n : MemberState M) : Type 0 where
  pub rested : IsRested b n
  pub hosted : n.performing.hosted ≡ given
  pub place : n.place ≡ at
  pub views : n.known.views ≡ boot

module _ {M : Type 0} where
  itself : (m : MemberState M) → Stays m m
  itself m = record { hosted = refl; place = refl; known = refl }

  stays_then : (m n o : MemberState M) → Stays m n → Stays n o → Stays m o
  stays_then m n o h g = record { hosted = g.hosted ∙ h.hosted; place = g.place ∙ h.place; known = g.known ∙ h.known }

  pub same_handled : (now : ℕ) (o : Occurrence) (m : MemberState M) → IsSame m (handle now o m).member
  same_handled now (comes.Asked header body sender) m = record { hosted = refl; place = refl; views = ap length (called_views (answer_to m.gathered header) header m.known) }
  same_handled now (comes.Fetched incarnation sender) m = record { hosted = refl; place = refl; views = refl }
  same_handled now (comes.Replied name from reply) m = record { hosted = refl; place = refl; views = refl }
  same_handled now (comes.IsStale name server from incarnation) m = record { hosted = refl; place = refl; views = refl }
  same_handled now (comes.IsBefore name from) m = record { hosted = refl; place = refl; views = refl }
  same_handled now (comes.Told request table) m =
      record {
        hosted = refl;
        place = refl;
        views = told_as_many (answered_by_ring m.known request table.view.troupe) table.view ∙ ap length
            (ring_views m.known request table.view.troupe);
      }
  same_handled now (comes.Restored state count) m = by_test (is_fetching m.performing.kept.phase)
    where
      by_test : (t : Bool) → let d : Doing M = if t then record {
        member = record m { performing = made_active now state count m.performing; gathered = with_first m.gathered count };
        effects = active_call m.place m.known count ++ before_answers m.gathered count;
      } else record { member = m; effects = [] } in IsSame m d.member
      by_test true = record { hosted = refl; place = refl; views = refl }
      by_test false = record { hosted = refl; place = refl; views = refl }
  same_handled now (comes.Declared node) m = record { hosted = refl; place = refl; views = ap length (declared_views m.known node) }
  same_handled now comes.Joins m = record { hosted = refl; place = refl; views = refl }

  pub stays_after_turns : (d : Doing M) → Stays d.member (after_turns d).member
  stays_after_turns d = by_run (last_of d.member.performing.kept.runs)
    where
      by_view : (run : RunRecord) (ask : AskRecord) (o : Option View) → let e : Doing M =
          option_map_or (opened_by_view d (name_of_last d.member.performing.kept) (asking_begun d.member.place d.member.performing.kept run ask)) o d in Stays d.member e.member
      by_view run ask None = record { hosted = refl; place = refl; known = refl }
      by_view run ask (Some view) = record { hosted = refl; place = refl; known = refl }

      by_ask : (run : RunRecord) (o : Option AskRecord) → let e : Doing M = option_map_or (opened_ask d run) o (ended_run d run) in Stays d.member e.member
      by_ask run None = record { hosted = refl; place = refl; known = refl }
      by_ask run (Some ask) = by_view run ask (slice_get d.member.known.views ask.callee)

      by_run : (o : Option RunRecord) → let e : Doing M =
          option_map_or (λ (run : RunRecord). option_map_or (opened_ask d run) (open_ask d.member.performing.kept) (ended_run d run)) o d in Stays d.member e.member
      by_run None = record { hosted = refl; place = refl; known = refl }
      by_run (Some run) = by_ask run (open_ask d.member.performing.kept)

  stays_given : (d : Doing M) → Stays d.member (given_states d).member
  stays_given d = by_test (is_idle d.member.performing.kept)
    where
      by_test : (t : Bool) → let e = if t then add_effects (record d { member = record d.member { requests = [] } })
          (snapshots_owed d.member.performing.kept d.member.requests) else d in Stays d.member e.member
      by_test true = record { hosted = refl; place = refl; known = refl }
      by_test false = record { hosted = refl; place = refl; known = refl }

-- ---- at boot

none_named : AreNamed []
unfolding IsDistinct
none_named = tt

module _ {M : Type 0} (declared : M → Signature) (turn : M → List ValueTree → ℕ → List ValueTree → List Outcome → NextTurn) (first : M → List ValueTree)
    (lawful : (hosted : M) → IsModule (behaviour declared turn first hosted)) where
  abbrev now : M → Behaviour
  now hosted = behaviour declared turn first hosted

  -- ---- what stays as a member goes on

  pub stays_entered : (step : ℕ) (d : Doing M) (start : RunStart) → Stays d.member (enter_run_of turn step d start).member
  stays_entered step d start =
      let p = d.member.performing in
      let e : Doing M = with_record (record d { member = record d.member { gathered = with_start d.member.gathered p.kept.count } })
      (performing.enter_run (turn p.hosted) step start p.kept) in
      let s = stays_after_turns e in
      record { hosted = s.hosted; place = s.place; known = s.known }

  stays_answered : (step : ℕ) (d : Doing M) → Stays d.member (answered_open turn step d).member
  stays_answered step d = by_value (value_of_open d.member)
    where
      by_value : (o : Option Reply) → let e = option_map_or (answered_by turn step d) o d in Stays d.member e.member
      by_value None = itself d.member
      by_value (Some reply) =
          let p = d.member.performing in
          let e : Doing M = with_record d (performing.answer_open_ask (turn p.hosted) p.began step reply.outcome reply.clock p.kept) in
          let s = stays_after_turns e in
          record { hosted = s.hosted; place = s.place; known = s.known }

  stays_starting : (step left : ℕ) (d : Doing M) → Stays d.member (start_runs declared turn step left d).member
  unfolding start_runs
  stays_starting step zero d = stays_given d
  stays_starting step (suc left) d = by_call (stays_starting step left) (next_start (given_states d).member)
    where
      by_call : ((f : Doing M) → Stays f.member (start_runs declared turn step left f).member) → (o : Option HeldCall) → let e = given_states d in let f =
          option_map_or (λ call. start_runs declared turn step left
          (enter_run_of turn step e (start_by_call e.member.place.troupe (declared e.member.performing.hosted).procedures call))) o e in Stays d.member f.member
      by_call rest None = stays_given d
      by_call rest (Some call) =
          let e = given_states d in
          let start = start_by_call e.member.place.troupe (declared e.member.performing.hosted).procedures call in
          let f = enter_run_of turn step e start in
          stays_then d.member f.member (start_runs declared turn step left f).member
          (stays_then d.member e.member f.member (stays_given d) (stays_entered step e start)) (rest f)

  stays_executed : (step : ℕ) (d : Doing M) → Stays d.member (execute declared turn step d).member
  stays_executed step d =
      let e = answered_open turn step d in
      stays_then d.member e.member (execute declared turn step d).member (stays_answered step d) (stays_starting step (length e.member.gathered.held) e)

  pub same_stepped : (step : ℕ) (o : Occurrence) (m : MemberState M) → IsSame m (step_member declared turn step o m).member
  same_stepped step o m =
      let h = handle step o m in
      let before = same_handled step o m in
      let s = stays_executed step h in
      record { hosted = s.hosted ∙ before.hosted; place = s.place ∙ before.place; views = ap (λ (k : Knowing). length k.views) s.known ∙ before.views }

  -- ---- a step

  sound_handled : (at : ℕ) (o : Occurrence) (m : MemberState M) → IsSound (now m.performing.hosted) m → CanHappen (declared m.performing.hosted) m o → InRange o
      → IsSound (now m.performing.hosted) (handle at o m).member
  sound_handled at (comes.Asked header body sender) m h can within = sound_asked (now m.performing.hosted) m header body sender can h
  sound_handled at (comes.Fetched incarnation sender) m h can within = sound_fetched (now m.performing.hosted) m incarnation sender h
  sound_handled at (comes.Replied name from reply) m h can within = sound_replied (now m.performing.hosted) m name from reply can h
  sound_handled at (comes.IsStale name server from incarnation) m h can within = sound_stale (now m.performing.hosted) m name server from incarnation h
  sound_handled at (comes.IsBefore name from) m h can within = sound_before (now m.performing.hosted) m name from h
  sound_handled at (comes.Told request table) m h can within = sound_told (now m.performing.hosted) (lawful m.performing.hosted) m request table can h
  sound_handled at (comes.Restored state count) m h can within = sound_restored (now m.performing.hosted) (lawful m.performing.hosted) m at state count can within h
  sound_handled at (comes.Declared node) m h can within = sound_declared (now m.performing.hosted) (lawful m.performing.hosted) m node h
  sound_handled at comes.Joins m h can within = sound_joins (now m.performing.hosted) (lawful m.performing.hosted) m h

  pub sound_once_handled : (at : ℕ) (o : Occurrence) (m : MemberState M) → IsSound (now m.performing.hosted) m → CanHappen (declared m.performing.hosted) m o → InRange o
      → IsSoundNow declared turn first lawful (handle at o m).member
  sound_once_handled at o m h can within =
      let d = handle at o m in
      subst (λ x. IsSound (now x) d.member) (sym (same_handled at o m).hosted) (sound_handled at o m h can within)

  pub step_rests : (at : ℕ) (o : Occurrence) (m : MemberState M) → IsRested (now m.performing.hosted) m → CanHappen (declared m.performing.hosted) m o → InRange o
      → HasRested (now m.performing.hosted) m (step_member declared turn at o m).member
  step_rests at o m rest can within =
      let h = handle at o m in
      let d = execute declared turn at h in
      let before = sound_once_handled at o m rest.sound can within in
      let sound = sound_executed declared turn first lawful at h before in
      let same = same_stepped at o m in
      record {
        rested = subst (λ x. IsRested (now x) (look_up (keep_ask_open d)).member) same.hosted (rested (now d.member.performing.hosted) d sound);
        gone_on = still_done d (executed_done declared turn first lawful at h before);
        hosted = same.hosted;
        place = same.place;
        views = same.views;
      }

  -- ---- boot

  module _ (place : Place) (views : List View) (hosted : M) (home : IsHome (declared hosted) place views) where
    -- one that has performed nothing is sound
    sound_before_any : (phase : Joiner) → IsRecord (now hosted) (first hosted) (performing.before_any phase (first hosted)) → let p : Performing M =
        record { hosted = hosted; began = first hosted; kept = performing.before_any phase (first hosted) } in IsSound (now hosted) (before_any declared turn place views p)
    sound_before_any phase kept =
        record {
          home = home;
          own = refl;
          held = All-nil (IsHeld (declared hosted) place.troupe (length views) (gathering.before_any place.troupe 0));
          replies = All-nil (λ (r : ℕ × Reply). IsReply r.1);
          asks = All-nil (λ (e : AskName × Asking). IsOpenAsk (declared hosted) place.troupe (length views) e.1);
          names = none_named;
          run = tt;
          running = tt;
          kept = kept;
        }

    abbrev pub at_boot : Beginning → MemberState M
    at_boot beginning = before_any declared turn place views (performer_at_boot first beginning hosted)

    pub sound_at_boot : (beginning : Beginning) → IsSoundNow declared turn first lawful (at_boot beginning)
    sound_at_boot Founder = sound_before_any (performing.founder hosted (first hosted)).kept.phase (acts_keep (now hosted) as_founder (lawful hosted) tt)
    sound_at_boot Spare = sound_before_any (performing.spare hosted (first hosted)).kept.phase (acts_keep (now hosted) as_spare (lawful hosted) tt)

    -- a founder of a root may enter its MAIN
    pub may_begin : (beginning : Beginning) → starts_at_boot declared turn beginning hosted ≡ true
        → MayStart (declared (at_boot beginning).performing.hosted) (at_boot beginning) (main_start place.troupe views)
    may_begin Founder is =
        record {
          can = record { active = refl; idle = refl; fit = home.main is; within = omega arith };
          thread = record { begins = home.own; numbers = All-nil (λ n. n < 65535); short = omega (arith, home.own); counts = length-map views (λ (v : View). 0) };
          fresh = refl;
        }
    may_begin Spare is = cc

    at_rest_before : (beginning : Beginning) → IsRested (now (at_boot beginning).performing.hosted) (at_boot beginning)
    at_rest_before beginning =
        record {
          sound = sound_at_boot beginning;
          closed = All-nil (λ (e : AskName × Asking). stays_open (at_boot beginning).known (waits (at_boot beginning).performing.kept) e ≡ true);
        }

    at_rest_entered : (beginning : Beginning) → starts_at_boot declared turn beginning hosted ≡ true → let d : Doing M =
        record { member = at_boot beginning; effects = [] } in let e = enter_run_of turn 0 d (main_start place.troupe views) in IsRested (now e.member.performing.hosted) e.member
    at_rest_entered beginning is =
        let d : Doing M = record { member = at_boot beginning; effects = [] } in
        let start = main_start place.troupe views in
        let e = enter_run_of turn 0 d start in
        let none : AskName → Bool = λ _. false in
        let left = entered_left none declared turn 0 d start (All-nil (λ (x : AskName × Asking). none x.0 ≡ false → is_settled (at_boot beginning).known x.1 ≡ false)) in
        record {
          sound = sound_entered declared turn first lawful 0 d start (sound_at_boot beginning) (may_begin beginning is);
          closed = All-weaker (λ (x : AskName × Asking). false ≡ false → stays_open e.member.known (waits e.member.performing.kept) x ≡ true)
              (λ (x : AskName × Asking). stays_open e.member.known (waits e.member.performing.kept) x ≡ true) (λ x h. h refl) e.member.asks left.stay;
        }

    at_boot_hosts : (beginning : Beginning) → (at_boot beginning).performing.hosted ≡ hosted
    at_boot_hosts Founder = refl
    at_boot_hosts Spare = refl

    rests_at_boot : (beginning : Beginning) → HasBooted (now hosted) place views hosted (boot_member declared turn first place views beginning hosted).member
    rests_at_boot beginning = by_test (starts_at_boot declared turn beginning hosted) refl
      where
        by_test : (t : Bool) → starts_at_boot declared turn beginning hosted ≡ t → let d : Doing M = record { member = at_boot beginning; effects = [] } in let e =
            if t then enter_run_of turn 0 d (main_start place.troupe views) else d in HasBooted (now hosted) place views hosted e.member
        by_test false is =
            record {
              rested = subst (λ x. IsRested (now x) (at_boot beginning)) (at_boot_hosts beginning) (at_rest_before beginning);
              hosted = at_boot_hosts beginning;
              place = refl;
              views = refl;
            }
        by_test true is =
            let d : Doing M = record { member = at_boot beginning; effects = [] } in
            let e = enter_run_of turn 0 d (main_start place.troupe views) in
            let same = stays_entered 0 d (main_start place.troupe views) in
            let hosts = same.hosted ∙ at_boot_hosts beginning in
            record {
              rested = subst (λ x. IsRested (now x) e.member) hosts (at_rest_entered beginning is);
              hosted = hosts;
              place = same.place;
              views = ap (λ (k : Knowing). k.views) same.known;
            }

  pub boot_rests : (place : Place) (views : List View) (beginning : Beginning) (hosted : M) → IsHome (declared hosted) place views
      → HasBooted (now hosted) place views hosted (boot_member declared turn first place views beginning hosted).member
  boot_rests place views beginning hosted home = rests_at_boot place views hosted home beginning
