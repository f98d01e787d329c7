-- At boot a record is in time where it says so, what is owed then is kept and made, and a member may go on with it.
use Rattle.std.proofs.Common.{◌≡◌, Bool, true, false, ◌&&◌, not, if◌then◌else◌, List, [], ◌∷◌, length, All, Option, None, Some, refl, sym, ap, subst, ◌∙◌, arith}
use Rattle.std.specs.Prelude.{fold, slice_get, nat_le, is_none, IsSomeAnd}
use Rattle.std.specs.List.{flat_map}
use Rattle.std.specs.Option.{option_map_or}
use Rattle.std.proofs.lemmas.Bool.{true≢false, and_parts, and_from}
use Rattle.std.proofs.lemmas.Option.{same_Some}
use Rattle.circus_value.specs.Fits.{all_fit}
use Rattle.circus_value.specs.ValueTree.{ValueTree}
use Rattle.circus_collate.specs.declared.view.View.{View}
use Rattle.circus_transfer.specs.declared.joiner.Joiner.{Joiner}
use Rattle.circus_model.specs.declared.signature.ProcedureShape.{ProcedureShape}
use Rattle.circus_model.specs.declared.signature.Signature.{Signature}
use Rattle.circus_record.specs.declared.record.MemberRecord.{MemberRecord}
use Rattle.circus_record.specs.declared.record.RunRecord.{RunRecord}
use Rattle.circus_performing.specs.Performing.{is_active}
use Rattle.circus_member_rules.specs.declared.place.Place.{Place}
use Rattle.circus_member_rules.specs.declared.occurrence.Effect.{Effect}
use Rattle.circus_member_rules.specs.Happening.{IsHome}
use Rattle.circus_member_rules.specs.Step.{main_start}
use Rattle.circus_member_theory.specs.Past.{booted}
use Rattle.circus_member_theory.specs.Asks.{is_new, knows, opened_one, first_calls, new_asks}
use Rattle.circus_member_theory.specs.Timely.{IsMain}
use Rattle.circus_dues.specs.declared.owing.Owing.{Owing}
use Rattle.circus_dues.specs.Dues.{IsLawful, BeginsInTime, IsDuesOf, IsOwedAtBoot, TellsAtBoot}
use Rattle.circus_dues.specs.Walk.{IsRunInOrder, RunOneByOne}
use Rattle.circus_dues.specs.Seen.Beginning.{may_begin, unbegun, none_further, with_main, begun_at_boot, made_at_boot}
use Rattle.circus_dues.specs.Seen.Owing.{untimely, begun, none_starts, entered, made_entering, passed, made_by_pass}
use Rattle.circus_dues.specs.Seen.Sound.{IsSayable, IsSoundOwing}
use Rattle.circus_dues.specs.Seen.Steps.{is_entered}
use Rattle.circus_headline_theory.proofs.One.{none_is_some}
use Rattle.circus_headline_theory.proofs.Owed.Entries.{none_of}
use Rattle.circus_dues.proofs.Beginning.{starts_later, timely_at_boot, all_later, none_yet, no_new_asks, late_run, next_is_late, number_of}
use Rattle.circus_dues.proofs.BeginningMain.{main_is, is_main}
use Rattle.circus_dues.proofs.BeginningRoot.{TellsSo, may_begin_so, so_may_begin, tells_main}
use Rattle.circus_dues.proofs.CallsBooting.{kept_at_boot}
use Rattle.circus_dues.proofs.OutKnown.{knows_at_boot}
use Rattle.circus_dues.proofs.SoundOwing.{sound_at_boot, sound_as_root, sound_timely}
use Rattle.circus_dues.proofs.WalkMade.{AreInOrder, each_in_order}
use Rattle.circus_dues.proofs.WalkRuns.{StartsLater}
use Rattle.circus_dues.proofs.WalkStarts.{all_at}

-- the first run, and those behind it
first_of_all : (runs : List RunRecord) (run : RunRecord) → slice_get runs 0 ≡ Some run → (rest : List RunRecord) × (runs ≡ run ∷ rest)
first_of_all [] run is = absurd (none_is_some None run refl is)
first_of_all (x ∷ rest) run is = (rest, ap (λ r. r ∷ rest) (same_Some x run is))

module _ (place : Place) (boot : List View) (begins : Joiner) (first : List ValueTree) (kept : MemberRecord) (procedures : List ProcedureShape) where
  abbrev timely : Bool
  timely = may_begin begins kept

  abbrev at_first : Owing
  at_first = unbegun place boot begins first timely

  -- ---- no run is entered

  abbrev first_now : Bool
  first_now = option_map_or (λ (run : RunRecord). nat_le run.started 0) (slice_get kept.runs 0) false

  module _ (order : RunOneByOne 0 kept.runs) (late : All (StartsLater 0) kept.runs) where
    in_order : AreInOrder kept.runs
    in_order = each_in_order 0 kept.runs order

    none_new : new_asks place boot kept booted ≡ []
    none_new = none_of place (is_new booted) kept.from kept.runs (no_new_asks kept.runs in_order late)

    dues_none : IsDuesOf place boot begins first kept booted (none_further kept at_first)
    dues_none =
        record {
          known = knows_at_boot place boot begins kept;
          asks = sym (ap (fold (opened_one place boot (knows place boot booted)) []) none_new);
          calls = kept_at_boot place.troupe begins kept
              (λ n run is.
              let k = number_of kept n run is in
              late_run run (all_at IsRunInOrder kept.runs k.0 run in_order k.2) (all_at (StartsLater 0) kept.runs k.0 run late k.2));
          requests = refl;
          phase_is = refl;
          began_is = refl;
          comes_to = record {
            few = omega arith;
            ended = λ n run below there. absurd (omega (arith, below));
            next = next_is_late kept.runs late;
          };
        }

  tells_none : TellsSo place boot begins first kept procedures 0 (none_further kept at_first) []
  tells_none = ((λ is. (owed is).in_time, λ t. so_timely t), λ is. owed is)
    where
      so_timely : BeginsInTime place boot begins first kept procedures 0 → (timely && not first_now) ≡ true
      so_timely t =
          and_from timely (not first_now) (so_may_begin place boot begins first kept procedures 0 t)
          (none_yet (slice_get kept.runs 0) (λ run there. starts_later place boot begins procedures 0 kept 0 run (t.step.starts 0 run (omega arith) there)))

      owed : (timely && not first_now) ≡ true → IsOwedAtBoot place boot begins first kept procedures 0 (none_further kept at_first) []
      owed is =
          let both = and_parts timely (not first_now) is in
          let may = may_begin_so place boot begins first kept procedures 0 both.0 in
          let late = all_later 0 kept.runs may.order both.1 in
          record {
            in_time = record {
              order = may.order;
              founded = may.founded;
              boots = λ number below. absurd (omega (arith, below));
              step = timely_at_boot place boot begins procedures 0 kept may.order [] kept.runs refl (omega arith) late tt;
            };
            dues = dues_none may.order late;
            made = sym (ap (flat_map (first_calls place boot (knows place boot booted))) (none_new may.order late));
          }

  -- ---- the MAIN of a root is

  module _ (lawful : IsLawful kept) where
    abbrev Tells : Owing → List Effect → Type 0
    Tells d effects = TellsSo place boot begins first kept procedures 1 d effects

    -- the record has no such run
    refused : ((run : RunRecord) → slice_get kept.runs 0 ≡ Some run → IsMain place.troupe boot run → ⊥) → Tells (none_further kept (untimely at_first)) []
    refused other =
        ((λ is. absurd (true≢false (sym is)), λ t. absurd (by_run (slice_get kept.runs 0) refl (t.boots 0 (omega arith)))), λ is. absurd (true≢false (sym is)))
      where
        by_run : (o : Option RunRecord) → slice_get kept.runs 0 ≡ o → IsSomeAnd o (IsMain place.troupe boot) → ⊥
        by_run None is so = so
        by_run (Some run) is so = other run is so

    tells_entered : Tells (none_further kept (entered place kept 0 at_first (main_start place.troupe boot))) (made_entering place kept 0 at_first (main_start place.troupe boot))
    tells_entered = by_run (slice_get kept.runs 0) refl
      where
        entered_run : RunRecord → Bool → Owing
        entered_run run is = if is then passed place kept 0 (begun kept at_first) run 0 else untimely at_first

        made_of_run : RunRecord → Bool → List Effect
        made_of_run run is = if is then made_by_pass place kept 0 (begun kept at_first) run 0 else []

        by_test : (run : RunRecord) → slice_get kept.runs 0 ≡ Some run → (b : Bool) → is_entered run 0 (main_start place.troupe boot) ≡ b
            → Tells (none_further kept (entered_run run b)) (made_of_run run b)
        by_test run there true is =
            let behind = first_of_all kept.runs run there in
            tells_main place boot begins first kept procedures lawful run behind.0 behind.1 (main_is place.troupe boot run is)
        by_test run there false isnt =
            refused
            (λ other this main.
            let same : run ≡ other = same_Some run other (sym there ∙ this) in
            true≢false (sym (is_main place.troupe boot run (subst (IsMain place.troupe boot) (sym same) main)) ∙ isnt))

        by_run : (o : Option RunRecord) → slice_get kept.runs 0 ≡ o
            → Tells (none_further kept (option_map_or (λ (run : RunRecord). entered_run run (is_entered run 0 (main_start place.troupe boot))) o (untimely at_first)))
            (option_map_or (λ (run : RunRecord). made_of_run run (is_entered run 0 (main_start place.troupe boot))) o [])
        by_run None none = refused (λ run there main. none_is_some (slice_get kept.runs 0) run none there)
        by_run (Some run) there = by_test run there (is_entered run 0 (main_start place.troupe boot)) refl

-- what is begun tells what it should
pub begins_so : (place : Place) (declared : Signature) (boot : List View) (begins : Joiner) (first : List ValueTree) (kept : MemberRecord)
    → TellsAtBoot boot begins first (if declared.root && is_active begins then 1 else 0)
    (record { place = place; signature = declared; kept = kept; owing = begun_at_boot place declared.root boot begins first kept })
    (made_at_boot place declared.root boot begins first kept)
begins_so place declared boot begins first kept lawful = by_test (declared.root && is_active begins)
  where
    begun_first : Owing
    begun_first = unbegun place boot begins first (may_begin begins kept)

    by_test : (b : Bool) → TellsSo place boot begins first kept declared.procedures (if b then 1 else 0)
        (none_further kept (if b then entered place kept 0 begun_first (main_start place.troupe boot) else begun_first))
        (if b then made_entering place kept 0 begun_first (main_start place.troupe boot) else [])
    by_test true = tells_entered place boot begins first kept declared.procedures lawful
    by_test false = tells_none place boot begins first kept declared.procedures

-- and a member may go on with it
pub sound_begun : (declared : Signature) (place : Place) (boot : List View) → IsHome declared place boot → (kept : MemberRecord) → IsSayable declared (length boot) kept
    → (begins : Joiner) (first : List ValueTree) → all_fit declared.variables first ≡ true
    → IsSoundOwing declared place kept (begun_at_boot place declared.root boot begins first kept)
sound_begun declared place boot home kept sayable begins first fits = further (with_main place declared.root boot begins first kept) (by_test (declared.root && is_active begins))
  where
    begun_first : Owing
    begun_first = unbegun place boot begins first (may_begin begins kept)

    by_test : (b : Bool) → IsSoundOwing declared place kept (if b then entered place kept 0 begun_first (main_start place.troupe boot) else begun_first)
    by_test true = sound_as_root declared place boot home kept sayable begins first (may_begin begins kept) fits
    by_test false = sound_at_boot declared place boot home kept sayable begins first (may_begin begins kept) fits

    further : (d : Owing) → IsSoundOwing declared place kept d → IsSoundOwing declared place kept (none_further kept d)
    further d s = by_rest (is_none d.walk.asked)
      where
        by_rest : (b : Bool) → IsSoundOwing declared place kept (if b then none_starts kept 0 d else d)
        by_rest true = sound_timely declared place kept d (none_starts kept 0 d).is_timely s
        by_rest false = s
