-- A whole step: it refuses the record, or all that was made and kept in it is what the record owes.
use Rattle.std.proofs.Common.{◌≡◌, ℕ, suc, ◌+◌, ◌<◌, ◌≤◌, ◌⊎◌, inl, inr, Bool, true, false, true≢false, List, [], ◌∷◌, ◌++◌, length, map, drop, All, Option, None, Some, option_map, refl, sym, ap, subst, ◌∙◌, arith, append_assoc, append-nil, length-append}
use Rattle.std.specs.Prelude.{slice_get, IfSome, IsSomeAnd}
use Rattle.std.specs.Bool.{Decides}
use Rattle.std.proofs.lemmas.Bool.{cases_lt}
use Rattle.circus_value.specs.ValueTree.{ValueTree}
use Rattle.circus_value.specs.declared.caller.Caller.{Caller}
use Rattle.circus_collate.specs.declared.view.View.{View}
use Rattle.circus_transfer.specs.declared.joiner.Joiner.{Joiner}
use Rattle.circus_model.specs.declared.signature.Signature.{Signature}
use Rattle.circus_record.specs.declared.record.MemberRecord.{MemberRecord}
use Rattle.circus_record.specs.declared.record.RunRecord.{RunRecord}
use Rattle.circus_fanout.specs.Asking.{Asking}
use Rattle.circus_performing.specs.Performing.{is_active}
use Rattle.circus_member_rules.specs.declared.place.Place.{Place}
use Rattle.circus_member_rules.specs.declared.occurrence.AskName.{AskName}
use Rattle.circus_member_rules.specs.declared.occurrence.Effect.{Effect}
use Rattle.circus_member_rules.specs.declared.occurrence.Occurrence.{Occurrence}
use Rattle.circus_member_rules.specs.Rules as rules
use Rattle.circus_member_theory.specs.Past.{Past, Rises, followed, now, phase}
use Rattle.circus_member_theory.specs.Asks.{new_asks}
use Rattle.circus_member_theory.specs.Order.{snapshots_now, made_in_step}
use Rattle.circus_member_theory.specs.Returns.{first_of}
use Rattle.circus_member_theory.specs.Timely.{IsMain}
use Rattle.circus_dues.specs.Calls.{IsOutside, NoneBetween, ungiven}
use Rattle.circus_dues.specs.Dues.{IsActivatedSo, GoesOnInTime, IsOwed, IsInTimeSoFar, TellsStep}
use Rattle.circus_dues.specs.Walk.{IsLater, IsNotBefore, StartOnward}
use Rattle.circus_dues.specs.Seen.Owing.{behind, made_at_once, gone_on, made_going_on, given_states, states_given, started_runs, made_starting_runs, concluded, told_by}
use Rattle.circus_dues.specs.declared.owing.Owing.{Owing}
use Rattle.circus_dues.specs.declared.walk.Walk.{Walk}
use Rattle.circus_headline_theory.proofs.One.{at_front}
use Rattle.circus_dues.proofs.CallsPassing.{run_at}
use Rattle.circus_dues.proofs.Stages.{IsGoingOn, IsAmid, IsRefused, Refuses, WaitsNow, HaveStarted, new_of}
use Rattle.circus_dues.proofs.StepAnswered.{NotBefore, WaitsStill, none_answered}
use Rattle.circus_dues.proofs.StepClosing.{amid_given, given_at_rest, none_given, looked_up, closes}
use Rattle.circus_dues.proofs.StepComing.{came_amid, came_requests, came_made, came_told, came_timely, came_first}
use Rattle.circus_dues.proofs.StepComingBehind as coming
use Rattle.circus_dues.proofs.StepGoingBetween.{IsStartedBetween, IsAnsweredBetween, not_between, refused_between}
use Rattle.circus_dues.proofs.StepGoingStill.{give_timely, give_walk, give_untimely, goes_none, go_untimely, answered_between}
use Rattle.circus_dues.proofs.StepGone.{few_then, passed_then, next_then, gone}
use Rattle.circus_dues.proofs.StepLists.{drop_front}
use Rattle.circus_dues.proofs.StepReached.{IsAtRest, IsUnderWay, stands_so, WaitsAt, waits_at}
use Rattle.circus_dues.proofs.StepStanding.{asked_by, RestsThen, GoesThen, HasPerformed, starts_performed, goes_performed}
use Rattle.circus_dues.proofs.StepStarting.{starts}
use Rattle.circus_dues.proofs.StepStartingNone.{start_untimely, starts_between, starts_none}
use Rattle.circus_dues.proofs.StepActive.{still_active}
use Rattle.circus_dues.proofs.WalkMade.{each_in_order, executed_by_standing, new_by_standing}
use Rattle.circus_dues.proofs.WalkStep.{step_by_standing}

module _ (boot : List View) (begins : Joiner) (first : List ValueTree) (at_boot : ℕ) (p : Past) (at : ℕ) (o : Occurrence) (rises : Rises p) (later : now p < at)
    (place : Place) (signature : Signature) (kept : MemberRecord) (d : Owing) (so : IsInTimeSoFar boot begins first at_boot p (record { place = place; signature = signature; kept = kept; owing = d })) where
  abbrev q : Past
  q = followed p at o

  abbrev come : Owing
  come = behind kept at o d

  abbrev went : Owing
  went = gone_on place kept at come

  abbrev gave : Owing
  gave = given_states went

  abbrev started : Owing
  started = started_runs place kept at signature.procedures gave

  -- what is kept at the end of the step, and what was made in it
  abbrev pub done : Owing
  done = concluded kept started

  abbrev pub made : List Effect
  made =
      (((made_at_once place o d ++ made_going_on place kept at come) ++ states_given kept went) ++ made_starting_runs place kept at signature.procedures gave)
      ++ rules.lookups started.out.known

  abbrev Refused : Type 0
  Refused = Refuses place boot begins first signature.procedures at_boot kept p at o

  abbrev Tells : Type 0
  Tells = TellsStep boot begins first at_boot p at o (record { place = place; signature = signature; kept = kept; owing = done }) made (told_by o d)

  -- ---- it isn't in time

  refused_tells : started.is_timely ≡ false → Refused → Tells
  refused_tells untimely refused = ((λ timely. absurd (true≢false (sym timely ∙ untimely)), λ g. absurd (refused g)), λ timely. absurd (true≢false (sym timely ∙ untimely)))

  went_untimely : went.is_timely ≡ false → started.is_timely ≡ false
  went_untimely untimely = start_untimely place kept at signature.procedures gave (give_untimely went untimely)

  came_walk : come.walk ≡ d.walk
  came_walk = coming.walk_then kept at d o

  -- the next run was started between
  started_between : IsStartedBetween kept p at d.walk → started.is_timely ≡ false
  started_between x =
      let same = goes_none place kept at come (ap (λ (w : Walk). w.asked) came_walk ∙ x.none) in
      starts_between place kept at signature.procedures d.walk.ended x.run gave
      (give_walk went ∙ ap (λ (e : Owing). e.walk) same.0 ∙ came_walk ∙ (λ j. record { ended = d.walk.ended; asked = x.none j })) x.there x.before

  -- or the ask that waits was answered
  answered_early : IsAnsweredBetween kept p at d.walk → started.is_timely ≡ false
  answered_early x =
      went_untimely
      (answered_between place kept at d.walk.ended x.count x.run x.ask x.step come x.there (came_walk ∙ (λ j. record { ended = d.walk.ended; asked = x.asked j })) x.here x.answered x.before)

  between_tells : IsStartedBetween kept p at d.walk ⊎ IsAnsweredBetween kept p at d.walk → Tells
  between_tells either = refused_tells (elim either [ inl x ↦ started_between x | inr x ↦ answered_early x ]) (refused_between kept p at d.walk place boot begins first signature.procedures at_boot o either)

  -- ---- nothing came between

  module _ (between : NoneBetween kept (now p) at) where
    going : IsGoingOn place boot begins at_boot kept p at
    going = record { rises = rises; later = later; lawful = so.lawful; order = so.order; boots = so.boots; between = between }

    abbrev Amid : List (AskName × Asking) → Option ℕ → Owing → Type 0
    Amid new index e = IsAmid place boot begins first signature.procedures at_boot kept p at o new index e

    abbrev Activated : Type 0
    Activated = IsActivatedSo place boot begins first kept signature.procedures at_boot p at o

    abbrev IsRefusedThen : Owing → Type 0
    IsRefusedThen e = IsRefused place boot begins first signature.procedures at_boot kept p at o e

    timely_if : Decides come.is_timely Activated
    timely_if = came_timely place boot begins first signature.procedures at_boot kept p at o going d so.dues so.timely

    came_untimely_tells : come.is_timely ≡ false → Tells
    came_untimely_tells untimely =
        refused_tells (went_untimely (go_untimely place kept at come untimely)) (λ g. true≢false (sym (timely_if.1 g.activated) ∙ untimely))

    -- the ask that waits was answered before the step, or wasn't
    waits_or_not : IsAnsweredBetween kept p at d.walk ⊎ WaitsStill kept p at so.order d.walk so.dues.comes_to between
    waits_or_not = by_stand (stands_so kept p so.order d.walk so.dues.comes_to)
      where
        by_answer : (u : IsUnderWay kept p so.order d.walk) (w : WaitsAt kept p so.order d.walk so.dues.comes_to u) → (x : Option ℕ) → w.ask.answered ≡ x → IsLater (now p) x → IsAnsweredBetween kept p at d.walk ⊎ NotBefore at w.ask
        by_answer u w None is late = inr (subst (IsNotBefore at) (sym is) tt)
        by_answer u w (Some n) is late = by_order (cases_lt n at)
          where
            by_order : (n < at) ⊎ (at ≤ n) → IsAnsweredBetween kept p at d.walk ⊎ NotBefore at w.ask
            by_order (inl low) =
                inl (record {
                  count = u.count;
                  run = u.run;
                  ask = w.ask;
                  step = n;
                  asked = u.some;
                  there = u.there;
                  here = w.here;
                  calls_left = u.has_asked.calls_left;
                  answered = is;
                  later = late;
                  before = low;
                })
            by_order (inr high) = inr (subst (IsNotBefore at) (sym is) high)

        by_stand : IsAtRest kept p so.order d.walk ⊎ IsUnderWay kept p so.order d.walk → IsAnsweredBetween kept p at d.walk ⊎ WaitsStill kept p at so.order d.walk so.dues.comes_to between
        by_stand (inl r) = inr (inl r)
        by_stand (inr u) =
            let w = waits_at kept p so.order d.walk so.dues.comes_to u in
            elim (by_answer u w w.ask.answered refl w.waits) [ inl x ↦ inl x | inr late ↦ inr (inr (u, late)) ]

    -- ---- what came is in time

    module _ (timely : come.is_timely ≡ true) where
      activated : Activated
      activated = timely_if.0 timely

      from_is : is_active (phase begins q) ≡ true → kept.from ≡ first_of (phase begins q)
      from_is = came_first place boot begins first signature.procedures at_boot kept p at o going d so.dues so.from_is activated

      abbrev Performed : List Effect → Owing → Type 0
      Performed effects e = HasPerformed place boot begins first signature.procedures at_boot kept p at o effects e

      abbrev performed : List Effect
      performed = (made_going_on place kept at come ++ states_given kept went) ++ made_starting_runs place kept at signature.procedures gave

      abbrev Outcome : Type 0
      Outcome = Performed performed started ⊎ IsRefusedThen started

      -- runs that were entered at boot started before
      enough : (number : ℕ) → ((m : ℕ) (run : RunRecord) → number ≤ m → slice_get kept.runs m ≡ Some run → at ≤ run.started) → at_boot ≤ number
      enough number next = elim (cases_lt number at_boot) [
        | inl low ↦ absurd (by_run (slice_get kept.runs number) refl (so.boots number low))
        | inr up ↦ up
      ]
        where
          by_run : (x : Option RunRecord) → slice_get kept.runs number ≡ x → IsSomeAnd x (IsMain place.troupe boot) → ⊥
          by_run None there main = main
          by_run (Some run) there main = (let from = next number run (omega arith) there in let zero_so = main.0 in omega (arith, from, zero_so, later))

      -- no run is under way: states are given, and others start
      rests : RestsThen place boot begins first signature.procedures at_boot kept p at o (made_going_on place kept at come) went → Outcome
      rests r = by_stage stage
        where
          number : ℕ
          number = length (r.before ++ r.going)

          few : number ≤ length kept.runs
          few = few_then place boot begins first signature.procedures at_boot kept p at o going (made_going_on place kept at come) went r

          next : (m : ℕ) (run : RunRecord) → number ≤ m → slice_get kept.runs m ≡ Some run → at ≤ run.started
          next = next_then place boot begins first signature.procedures at_boot kept p at o going (made_going_on place kept at come) went r

          by_next : (x : Option RunRecord) → slice_get kept.runs number ≡ x → IfSome x (λ (run : RunRecord). at ≤ run.started)
          by_next None there = tt
          by_next (Some run) there = next number run (omega arith) there

          given : (states_given kept went ≡ snapshots_now place boot begins first kept q) × (gave.calls.requests ≡ map (λ (x : ℕ × Caller). x.1) (ungiven begins first kept q))
          given =
              given_at_rest place boot begins first kept p at o rises later so.order went r.requests r.amid.phase_is r.amid.began_is number r.walk few
              (passed_then place boot begins first signature.procedures at_boot kept p at o going (made_going_on place kept at come) went r) next from_is

          stage : HaveStarted place boot begins first signature.procedures at_boot kept p at o number (asked_by place boot begins first signature.procedures at_boot kept p at o (length r.before) r.going) gave (made_starting_runs place kept at signature.procedures gave) started ⊎ IsRefusedThen started
          stage =
              starts place boot begins first signature.procedures at_boot kept p at o going (asked_by place boot begins first signature.procedures at_boot kept p at o (length r.before) r.going) gave (give_timely went ∙ r.timely) number (give_walk went ∙ r.walk) few (enough number next)
              (λ m run below there. (passed_then place boot begins first signature.procedures at_boot kept p at o going (made_going_on place kept at come) went r m run below there).1)
              (by_next (slice_get kept.runs number) refl)
              (amid_given place boot begins first signature.procedures at_boot kept p at o (asked_by place boot begins first signature.procedures at_boot kept p at o (length r.before) r.going) None went r.amid)
              from_is

          by_stage : HaveStarted place boot begins first signature.procedures at_boot kept p at o number (asked_by place boot begins first signature.procedures at_boot kept p at o (length r.before) r.going) gave (made_starting_runs place kept at signature.procedures gave) started ⊎ IsRefusedThen started → Outcome
          by_stage (inl h) =
              inl (starts_performed place boot begins first signature.procedures at_boot kept p at o (made_going_on place kept at come) went r (states_given kept went)
              (made_starting_runs place kept at signature.procedures gave) gave started given.0 given.1 h)
          by_stage (inr refused) = inr refused

      -- one waits: no states are given, and none starts
      goes : GoesThen place boot begins first signature.procedures at_boot kept p at o (made_going_on place kept at come) went → Outcome
      goes g =
          inl
          (subst (λ e. Performed performed e) (sym none.0)
          (subst (λ l. Performed l gave) (sym (ap (λ l. (made_going_on place kept at come ++ states_given kept went) ++ l) none.1 ∙ append-nil (made_going_on place kept at come ++ states_given kept went)))
          (goes_performed place boot begins first signature.procedures at_boot kept p at o (made_going_on place kept at come) went g (states_given kept went) gave given.0 given.1 (give_timely went ∙ g.timely)
          waits (subst (λ l. StartOnward place boot begins signature.procedures at_boot kept q (suc (length g.before)) l) rest_is none.2) (subst (All (λ (r : RunRecord). at < r.started)) rest_is none.3))))
        where
          there : slice_get kept.runs (length g.before) ≡ Some g.run
          there = ap (λ l. slice_get l (length g.before)) g.are ∙ at_front g.before g.run g.rest

          active : is_active (phase begins q) ≡ true
          active = still_active begins p at o (so.active (length g.before) g.run there (started_by (between (kept.from + length g.before) g.run (run_at kept (length g.before) ∙ there)).0))
            where
              started_by : IsOutside (now p) at g.run.started → g.run.started ≤ now p
              started_by (inl early) = early
              started_by (inr high) = (let early = g.started in absurd (omega (arith, early, high)))

          given : (states_given kept went ≡ snapshots_now place boot begins first kept q) × (gave.calls.requests ≡ map (λ (x : ℕ × Caller). x.1) (ungiven begins first kept q))
          given =
              none_given place boot begins first kept p at o rises later so.order went g.requests g.waits.amid.phase_is g.waits.amid.began_is (length g.before) g.waits.count g.waits.walk g.run there g.started g.waits.stands.1

          waits : WaitsNow place boot begins first signature.procedures at_boot kept p at o (length g.before) g.run (new_of place boot begins first signature.procedures at_boot kept p at o (length g.before) g.run) gave
          waits =
              record {
                count = g.waits.count;
                walk = give_walk went ∙ g.waits.walk;
                stands = g.waits.stands;
                amid = amid_given place boot begins first signature.procedures at_boot kept p at o (new_of place boot begins first signature.procedures at_boot kept p at o (length g.before) g.run)
                    (Some (kept.from + length g.before)) went g.waits.amid;
              }

          none : (started ≡ gave) × (made_starting_runs place kept at signature.procedures gave ≡ [])
              × StartOnward place boot begins signature.procedures at_boot kept q (suc (length g.before)) (drop (suc (length g.before)) kept.runs)
              × All (λ (r : RunRecord). at < r.started) (drop (suc (length g.before)) kept.runs)
          none = starts_none place boot begins signature.procedures at_boot kept p at o going (length g.before) g.run g.waits.count gave waits.walk there g.waits.stands.1 active waits.amid.phase_is

          rest_is : drop (suc (length g.before)) kept.runs ≡ g.rest
          rest_is =
              let longer : length (g.before ++ g.run ∷ []) ≡ suc (length g.before) = (let long = length-append g.before (g.run ∷ []) in omega (arith, long)) in
              ap (λ n. drop n kept.runs) (sym longer)
              ∙ ap (drop (length (g.before ++ g.run ∷ []))) (g.are ∙ sym (append_assoc g.before (g.run ∷ []) g.rest))
              ∙ drop_front (g.before ++ g.run ∷ []) g.rest

      outcome : Outcome
      outcome =
          elim (gone place boot begins first signature.procedures at_boot kept p at o going d.walk so.dues.comes_to so.keeps_open come came_walk timely
          (came_requests place boot begins first signature.procedures at_boot kept p at o going d so.dues)
          (came_amid place boot begins first signature.procedures at_boot kept p at o going d so.dues)) [
            | inl r ↦ rests r
            | inr (inl g) ↦ goes g
            | inr (inr refused) ↦ inr (record { untimely = went_untimely refused.untimely; refuses = refused.refuses })
          ]

      -- ---- all is in time

      module _ (still : WaitsStill kept p at so.order d.walk so.dues.comes_to between) (h : Performed performed started) where
        in_time : GoesOnInTime place boot begins first kept signature.procedures at_boot p at o
        in_time =
            record {
              none_between = between;
              none_answered = λ number place_of run ask there here left. none_answered kept p at so.order d.walk so.dues.comes_to between still number place_of run ask there here;
              activated = activated;
              step = step_by_standing place boot begins signature.procedures at_boot kept q so.order h.before h.going h.starting h.later h.so h.starts h.answered;
            }

        abbrev opened : Option ℕ
        opened = option_map (λ _. kept.from + started.walk.ended) started.walk.asked

        amid : Amid (new_asks place boot kept q) opened started
        amid = subst (λ l. Amid l opened started) (sym (new_by_standing place boot begins first kept q h.before h.going h.starting h.later h.so (each_in_order 0 kept.runs so.order))) h.amid

        made_so : made ≡ made_in_step place boot begins first kept p q
        made_so =
            ap (λ l. l ++ rules.lookups started.out.known)
            (ap (λ l. l ++ made_starting_runs place kept at signature.procedures gave) (append_assoc (made_at_once place o d) (made_going_on place kept at come) (states_given kept went))
            ∙ append_assoc (made_at_once place o d) (made_going_on place kept at come ++ states_given kept went) (made_starting_runs place kept at signature.procedures gave))
            ∙ (λ j. (came_made place boot begins first signature.procedures at_boot kept p at o going d so.dues j
            ++ (h.made ∙ sym (executed_by_standing place boot begins first kept q h.before h.going h.starting h.later h.so (each_in_order 0 kept.runs so.order))) j)
            ++ looked_up place boot begins first kept p at o rises later so.order signature.procedures at_boot so.lawful.few between started h.comes opened amid refl j)

        owed : IsOwed place boot begins first kept signature.procedures at_boot p at o done made (told_by o d)
        owed =
            record {
              in_time = in_time;
              dues = closes place boot begins first kept p at o rises later so.order signature.procedures at_boot so.lawful.few between started h.comes opened amid refl h.requests;
              made = made_so;
              tells = came_told place boot begins first signature.procedures at_boot kept p at o going d so.dues;
            }

        performed_tells : Tells
        performed_tells = ((λ _. in_time, λ _. h.timely), λ _. owed)

      timely_tells : WaitsStill kept p at so.order d.walk so.dues.comes_to between → Tells
      timely_tells still = elim outcome [ inl h ↦ performed_tells still h | inr refused ↦ refused_tells refused.untimely refused.refuses ]

    by_timely : WaitsStill kept p at so.order d.walk so.dues.comes_to between → (b : Bool) → come.is_timely ≡ b → Tells
    by_timely still true is = timely_tells is still
    by_timely still false is = came_untimely_tells is

    none_between_tells : Tells
    none_between_tells = elim waits_or_not [ inl x ↦ between_tells (inr x) | inr still ↦ by_timely still come.is_timely refl ]

  -- so far as it was in time, a step tells whether it still is, and then makes what is owed
  pub tells_step : Tells
  tells_step = elim (not_between kept p at d.walk so.order so.dues.comes_to) [ inl between ↦ none_between_tells between | inr either ↦ between_tells either ]
