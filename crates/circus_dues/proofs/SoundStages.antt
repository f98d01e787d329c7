-- A member that may go on with what it owes may after each part of a step, and each part asks for no more.
use Rattle.std.specs.Prelude.{slice_get, IfSome}
use Rattle.std.proofs.Common.{◌≡◌, ℕ, ◌≤◌, true, Option, None, Some, length, refl, sym, subst, ◌∙◌}
use Rattle.circus_value.specs.Fits.{all_fit}
use Rattle.circus_model.specs.declared.signature.Signature.{Signature}
use Rattle.circus_record.specs.declared.record.RunRecord.{RunRecord}
use Rattle.circus_record.specs.declared.record.MemberRecord.{MemberRecord}
use Rattle.circus_gather.specs.Gathering.{reply_of}
use Rattle.circus_performing.specs.declared.start.RunStart.{RunStart}
use Rattle.circus_member_rules.specs.declared.place.Place.{Place}
use Rattle.circus_member_rules.specs.declared.occurrence.Occurrence.{Occurrence}
use Rattle.circus_dues.specs.declared.owing.Owing.{Owing}
use Rattle.circus_dues.specs.Seen.Owing.{CanCome, MayOwe, MayPerform, HasFewAsked, behind, index, state_of, gone_on, given_states, entered, next_start, started_runs, stepped}
use Rattle.circus_dues.specs.Seen.Steps.{is_entered}
use Rattle.circus_dues.specs.Seen.Sound.{IsSoundOwing, MayGoOnOwing}
use Rattle.circus_dues.proofs.SoundSteps.{may_owe}
use Rattle.circus_dues.proofs.SoundOwing as sound

module _ (declared : Signature) (place : Place) (kept : MemberRecord) where
  abbrev Sound : Owing → Type 0
  Sound d = IsSoundOwing declared place kept d

  -- ---- one part after the other

  still : (d e : Owing) → (s : Sound d) → MayGoOnOwing declared place (length s.boot) kept e → Sound e
  still d e s may = record { boot = s.boot; home = s.home; sayable = s.sayable; may = may }

  module _ (d : Owing) (s : Sound d) where
    pub sound_behind : (at : ℕ) (o : Occurrence) → CanCome declared place.troupe (length d.out.known.views) o → Sound (behind kept at o d)
    sound_behind at o can =
        still d (behind kept at o d) s
        (sound.goes_behind declared place s.boot s.home kept s.sayable at o d (subst (λ n. CanCome declared place.troupe n o) s.may.goes.many can) s.may)

    pub sound_gone : (at : ℕ) → Sound (gone_on place kept at d)
    sound_gone at = still d (gone_on place kept at d) s (sound.goes_gone_on declared place s.boot s.home kept s.sayable at d s.may)

    pub sound_given : Sound (given_states d)
    sound_given = still d (given_states d) s (sound.goes_given declared place s.boot s.home kept s.sayable d s.may)

    pub sound_entered : (at : ℕ) (start : RunStart) → next_start place kept declared.procedures d ≡ Some start → Sound (entered place kept at d start)
    sound_entered at start next =
        still d (entered place kept at d start) s
        (sound.goes_entered declared place s.boot s.home kept s.sayable at d start (sound.next_may_enter declared place s.boot s.home kept s.sayable d start s.may next) s.may)

    pub sound_started : (at : ℕ) → Sound (started_runs place kept at declared.procedures d)
    sound_started at = still d (started_runs place kept at declared.procedures d) s (sound.goes_started declared place s.boot s.home kept s.sayable at d s.may)

    -- ---- what the code asks for

    pub sound_owes : MayOwe place d
    sound_owes = may_owe declared place (length s.boot) d s.may.goes

    pub sound_few : HasFewAsked d.walk
    sound_few = sound.few_asked declared place s.boot s.home kept s.sayable d s.may

    pub sound_state : all_fit declared.variables (state_of kept d) ≡ true
    sound_state = sound.state_fits declared place s.boot s.home kept s.sayable d s.may

    pub sound_there : d.walk.ended ≤ length kept.runs
    sound_there = s.may.there

    -- what the run that is under way does may be sent, and its index has no reply
    pub sound_performs : IfSome d.walk.asked (λ _. IfSome (slice_get kept.runs d.walk.ended) (MayPerform place.troupe))
    sound_performs = by_asked d.walk.asked refl
      where
        by_run : (count : ℕ) → d.walk.asked ≡ Some count → (o : Option RunRecord) → slice_get kept.runs d.walk.ended ≡ o → IfSome o (MayPerform place.troupe)
        by_run count is None none = tt
        by_run count is (Some run) there = sound.underway_performs declared place s.boot s.home kept s.sayable d count run s.may is there

        by_asked : (o : Option ℕ) → d.walk.asked ≡ o → IfSome o (λ _. IfSome (slice_get kept.runs d.walk.ended) (MayPerform place.troupe))
        by_asked None none = tt
        by_asked (Some count) is = by_run count is (slice_get kept.runs d.walk.ended) refl

    pub sound_fresh : IfSome d.walk.asked (λ _. reply_of d.calls.gathered (index kept d) ≡ None)
    sound_fresh = by_asked d.walk.asked refl
      where
        by_asked : (o : Option ℕ) → d.walk.asked ≡ o → IfSome o (λ _. reply_of d.calls.gathered (index kept d) ≡ None)
        by_asked None none = tt
        by_asked (Some count) is = sound.underway_fresh declared place s.boot s.home kept s.sayable d count s.may is

    -- so it is of the run that is entered by the call that the collator gives
    module _ (start : RunStart) (next : next_start place kept declared.procedures d ≡ Some start) where
      may : sound.MayEnter declared place s.boot s.home kept s.sayable d start
      may = sound.next_may_enter declared place s.boot s.home kept s.sayable d start s.may next

      pub sound_enters : (at : ℕ) → IfSome (slice_get kept.runs d.walk.ended) (λ run. is_entered run at start ≡ true → MayPerform place.troupe run)
      sound_enters at = by_run (slice_get kept.runs d.walk.ended) refl
        where
          by_run : (o : Option RunRecord) → slice_get kept.runs d.walk.ended ≡ o → IfSome o (λ run. is_entered run at start ≡ true → MayPerform place.troupe run)
          by_run None none = tt
          by_run (Some run) there = sound.entered_performs declared place s.boot s.home kept s.sayable d start run at may there

      pub sound_next : reply_of d.calls.gathered (index kept d) ≡ None
      sound_next = may.fresh

  -- ---- a whole step

  module _ (d : Owing) (s : Sound d) (at : ℕ) (o : Occurrence) (can : CanCome declared place.troupe (length d.out.known.views) o) where
    goes_step : MayGoOnOwing declared place (length s.boot) kept (stepped place kept at declared.procedures o d)
    goes_step =
        let d1 = behind kept at o d in
        let d2 = gone_on place kept at d1 in
        let d3 = given_states d2 in
        let d4 = started_runs place kept at declared.procedures d3 in
        sound.goes_concluded declared place s.boot s.home kept s.sayable d4
        (sound.goes_started declared place s.boot s.home kept s.sayable at d3
        (sound.goes_given declared place s.boot s.home kept s.sayable d2
        (sound.goes_gone_on declared place s.boot s.home kept s.sayable at d1
        (sound.goes_behind declared place s.boot s.home kept s.sayable at o d (subst (λ n. CanCome declared place.troupe n o) s.may.goes.many can) s.may))))

    pub sound_step : Sound (stepped place kept at declared.procedures o d)
    sound_step = still d (stepped place kept at declared.procedures o d) s goes_step

    -- it knows the views of as many troupes as before
    pub views_step : length (stepped place kept at declared.procedures o d).out.known.views ≡ length d.out.known.views
    views_step = goes_step.goes.many ∙ sym s.may.goes.many
