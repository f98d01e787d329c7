-- What the code asks for where the MAIN of a root is entered at boot, and what stays known then.
use Rattle.std.proofs.Common.{◌≡◌, ℕ, Bool, true, false, ◌&&◌, if◌then◌else◌, List, length, Option, None, Some, refl, sym, ap, subst, ◌∙◌}
use Rattle.std.specs.Prelude.{slice_get, is_none, IfSome}
use Rattle.std.specs.Option.{option_map_or}
use Rattle.circus_value.specs.Fits.{all_fit}
use Rattle.circus_value.specs.ValueTree.{ValueTree}
use Rattle.circus_collate.specs.declared.view.View.{View}
use Rattle.circus_transfer.specs.declared.joiner.Joiner.{Joiner}
use Rattle.circus_model.specs.declared.signature.Signature.{Signature}
use Rattle.circus_record.specs.declared.record.AskRecord.{AskRecord}
use Rattle.circus_record.specs.declared.record.MemberRecord.{MemberRecord}
use Rattle.circus_record.specs.declared.record.RunRecord.{RunRecord}
use Rattle.circus_gather.specs.Gathering.{reply_of}
use Rattle.circus_performing.specs.declared.start.RunStart.{RunStart}
use Rattle.circus_performing.specs.Performing.{is_active}
use Rattle.circus_member_rules.specs.declared.place.Place.{Place}
use Rattle.circus_member_rules.specs.Happening.{IsHome}
use Rattle.circus_member_rules.specs.Step.{main_start}
use Rattle.circus_dues.specs.declared.owing.Owing.{Owing}
use Rattle.circus_dues.specs.Seen.Beginning.{may_begin, unbegun, none_further, with_main, begun_at_boot}
use Rattle.circus_dues.specs.Seen.Owing.{MayOwe, MayPerform, index, ask_name, asking_at, begun, ended, ended_at, untimely, asked, asked_at, next_of, passed, entered, none_starts}
use Rattle.circus_dues.specs.Seen.Sound.{IsSayable}
use Rattle.circus_dues.specs.Seen.Steps.{is_in, is_entered}
use Rattle.circus_dues.proofs.SoundCalls.{opened_known}
use Rattle.circus_dues.proofs.SoundOwing as sound
use Rattle.circus_dues.proofs.SoundSteps.{may_owe}

-- ---- a run may be entered

pub record MayEnterBy (place : Place) (kept : MemberRecord) (d : Owing) (start : RunStart) : Type 0 where
  pub owes : MayOwe place d
  pub performs : IfSome (slice_get kept.runs d.walk.ended) (λ run. is_entered run 0 start ≡ true → MayPerform place.troupe run)
  pub fresh : reply_of d.calls.gathered (index kept d) ≡ None

-- so may the MAIN of a root, before any run
pub main_enters : (declared : Signature) (place : Place) (boot : List View) → IsHome declared place boot → (kept : MemberRecord) → IsSayable declared (length boot) kept
    → (begins : Joiner) (first : List ValueTree) (timely : Bool) → all_fit declared.variables first ≡ true
    → (d : Owing) (start : RunStart) → d ≡ unbegun place boot begins first timely → start ≡ main_start place.troupe boot → MayEnterBy place kept d start
main_enters declared place boot home kept sayable begins first timely fits d start d_is start_is =
    subst (λ s. MayEnterBy place kept d s) (sym start_is) (subst (λ o. MayEnterBy place kept o main) (sym d_is) by_main)
  where
    main : RunStart
    main = main_start place.troupe boot

    before : Owing
    before = unbegun place boot begins first timely

    by_main : MayEnterBy place kept before main
    by_main =
        let may = sound.main_may_enter declared place boot home kept sayable before refl in
        let goes = sound.goes_at_boot declared place boot home kept sayable begins first timely fits in
        record {
          owes = may_owe declared place (length boot) before goes.goes;
          performs = by_run may (slice_get kept.runs 0) refl;
          fresh = may.fresh;
        }
      where
        by_run : sound.MayEnter declared place boot home kept sayable before main → (o : Option RunRecord) → slice_get kept.runs 0 ≡ o
            → IfSome o (λ run. is_entered run 0 main ≡ true → MayPerform place.troupe run)
        by_run may None none = tt
        by_run may (Some run) there = sound.entered_performs declared place boot home kept sayable before main run 0 may there

-- ---- what is known stays so

module _ (place : Place) (kept : MemberRecord) where
  known_asked : (d : Owing) (run : RunRecord) (number : ℕ) → (asked_at place kept 0 d run number).out.known ≡ d.out.known
  known_asked d run number = by_ask (slice_get run.asks number)
    where
      by_ask : (o : Option AskRecord) → let x : Owing = option_map_or (asked place kept 0 d run number) o d in x.out.known ≡ d.out.known
      by_ask None = refl
      by_ask (Some ask) = opened_known d.out (ask_name kept d number) (asking_at place kept d run number ask)

  known_ended : (d : Owing) (run : RunRecord) → (ended_at kept 0 d run).out.known ≡ d.out.known
  known_ended d run = by_test (is_in run.ended 0)
    where
      by_test : (b : Bool) → let x : Owing = if b then ended kept d run else untimely d in x.out.known ≡ d.out.known
      by_test true = refl
      by_test false = refl

  known_passed : (d : Owing) (run : RunRecord) (from : ℕ) → (passed place kept 0 d run from).out.known ≡ d.out.known
  known_passed d run from = by_next (next_of run from)
    where
      by_next : (o : Option ℕ) → let x : Owing = option_map_or (asked_at place kept 0 d run) o (ended_at kept 0 d run) in x.out.known ≡ d.out.known
      by_next None = known_ended d run
      by_next (Some number) = known_asked d run number

  known_entered : (d : Owing) (start : RunStart) → (entered place kept 0 d start).out.known ≡ d.out.known
  known_entered d start = by_run (slice_get kept.runs d.walk.ended)
    where
      by_test : (run : RunRecord) (b : Bool) → let x : Owing = if b then passed place kept 0 (begun kept d) run 0 else untimely d in x.out.known ≡ d.out.known
      by_test run true = known_passed (begun kept d) run 0
      by_test run false = refl

      by_run : (o : Option RunRecord)
          → let x : Owing = option_map_or (λ (run : RunRecord). if is_entered run 0 start then passed place kept 0 (begun kept d) run 0 else untimely d) o (untimely d) in x.out.known ≡ d.out.known
      by_run None = refl
      by_run (Some run) = by_test run (is_entered run 0 start)

-- so as many views are known as at boot
pub views_begun : (place : Place) (root : Bool) (boot : List View) (begins : Joiner) (first : List ValueTree) (kept : MemberRecord)
    → length (begun_at_boot place root boot begins first kept).out.known.views ≡ length boot
views_begun place root boot begins first kept =
    further (with_main place root boot begins first kept)
    ∙ by_test (root && is_active begins)
  where
    before : Owing
    before = unbegun place boot begins first (may_begin begins kept)

    by_test : (b : Bool) → let x : Owing = if b then entered place kept 0 before (main_start place.troupe boot) else before in length x.out.known.views ≡ length boot
    by_test true = ap (λ k. length k.views) (known_entered place kept before (main_start place.troupe boot))
    by_test false = refl

    further : (d : Owing) → length (none_further kept d).out.known.views ≡ length d.out.known.views
    further d = by_rest (is_none d.walk.asked)
      where
        by_rest : (b : Bool) → let x : Owing = if b then none_starts kept 0 d else d in length x.out.known.views ≡ length d.out.known.views
        by_rest true = refl
        by_rest false = refl
