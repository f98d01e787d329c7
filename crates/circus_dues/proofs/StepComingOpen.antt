-- The run that is open, where a record has come so far: that which is under way.
use Rattle.std.proofs.Common.{◌≡◌, ℕ, ◌+◌, ◌<◌, true, false, true≢false, List, Option, Some, None, refl, sym, ap, subst, ◌∙◌}
use Rattle.std.specs.Prelude.{slice_get, nat_le, IfSome, option_map}
use Rattle.std.specs.Option.{option_map_or}
use Rattle.std.proofs.lemmas.Bool.{le-leb, lt-leb, eq-eqb, eqb-true}
use Rattle.circus_value.specs.ValueTree.{ValueTree}
use Rattle.circus_collate.specs.declared.view.View.{View}
use Rattle.circus_transfer.specs.declared.joiner.Joiner.{Joiner}
use Rattle.circus_record.specs.declared.record.MemberRecord.{MemberRecord}
use Rattle.circus_record.specs.declared.record.RunRecord.{RunRecord}
use Rattle.circus_member_rules.specs.declared.place.Place.{Place}
use Rattle.circus_member_theory.specs.Past.{Past, now}
use Rattle.circus_member_theory.specs.Returns.{has_ended}
use Rattle.circus_dues.specs.Calls.{is_index, is_open}
use Rattle.circus_dues.specs.Dues.{StandsAt, HasComeTo, IsDuesOf}
use Rattle.circus_dues.specs.Walk.{RunOneByOne, IsBy, IsLater}
use Rattle.circus_dues.specs.declared.owing.Owing.{Owing}
use Rattle.circus_dues.specs.declared.walk.Walk.{Walk}
use Rattle.circus_dues.proofs.CallsOpen.{opens_alone, none_opens, rests_before}
use Rattle.circus_dues.proofs.OneByOne.{alone_of}

-- a run that has ended by a step
pub ended_so : (p : Past) (run : RunRecord) → IsBy (now p) run.ended → has_ended run p ≡ true
ended_so p run = by_end run.ended
  where
    by_end : (o : Option ℕ) → IsBy (now p) o → option_map_or (λ step. nat_le step (now p)) o false ≡ true
    by_end None by = absurd by
    by_end (Some step) by = le-leb step (now p) by

-- or goes on behind it
goes_so : (p : Past) (run : RunRecord) → IsLater (now p) run.ended → has_ended run p ≡ false
goes_so p run = by_end run.ended
  where
    by_end : (o : Option ℕ) → IsLater (now p) o → option_map_or (λ step. nat_le step (now p)) o false ≡ false
    by_end None later = refl
    by_end (Some step) later = lt-leb step (now p) later

-- the index is said by which it is
same_index : (one other : Option ℕ) → ((n : ℕ) → is_index one n ≡ is_index other n) → one ≡ other
same_index None None same = refl
same_index None (Some y) same = absurd (true≢false (sym (eq-eqb y y refl) ∙ sym (same y)))
same_index (Some x) None same = absurd (true≢false (sym (eq-eqb x x refl) ∙ same x))
same_index (Some x) (Some y) same = ap (λ n. Some n) (eqb-true x y (sym (same x) ∙ eq-eqb x x refl))

module _ (kept : MemberRecord) (p : Past) (order : RunOneByOne 0 kept.runs) (walk : Walk) (h : HasComeTo kept p walk) where
  abbrev k : ℕ
  k = walk.ended

  ended_before : (m : ℕ) (run : RunRecord) → m < k → slice_get kept.runs m ≡ Some run → has_ended run p ≡ true
  ended_before m run below is = ended_so p run (h.ended m run below is)

  -- the next one hasn't started
  abbrev IsNotYet : Option RunRecord → Type 0
  IsNotYet next = IfSome next (λ run. now p < run.started)

  none_is : IsNotYet (slice_get kept.runs k) → (n : ℕ) → is_index None n ≡ is_open kept p n
  none_is later = none_opens kept (alone_of kept order) p (rests_before kept (alone_of kept order) p k ended_before later)

  index_is : (next : Option RunRecord) (asked : Option ℕ) → slice_get kept.runs k ≡ next → StandsAt p next asked → (n : ℕ) → is_index (option_map (λ _. kept.from + k) asked) n ≡ is_open kept p n
  index_is None None there stands = none_is (subst IsNotYet (sym there) stands)
  index_is None (Some count) there stands = absurd stands
  index_is (Some run) None there stands = none_is (subst IsNotYet (sym there) stands)
  index_is (Some run) (Some count) there stands = opens_alone kept (alone_of kept order) p k run there stands.0 (goes_so p run stands.1)

module _ (place : Place) (boot : List View) (begins : Joiner) (first : List ValueTree) (kept : MemberRecord) (p : Past) (d : Owing) (h : IsDuesOf place boot begins first kept p d) where
  pub open_of : RunOneByOne 0 kept.runs → d.calls.gathered.open_run ≡ option_map (λ _. kept.from + d.walk.ended) d.walk.asked
  open_of order =
      same_index d.calls.gathered.open_run (option_map (λ _. kept.from + d.walk.ended) d.walk.asked)
      (λ n. h.calls.opens n ∙ sym (index_is kept p order d.walk h.comes_to (slice_get kept.runs d.walk.ended) d.walk.asked refl h.comes_to.next n))
