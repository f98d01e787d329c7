-- A step of a true member, to which a true thing happens, leaves it true and makes what is true; and so does its boot.
use Rattle.std.proofs.Common.{◌≡◌, ℕ, Bool, true, false, if◌then◌else◌, List, [], ◌∷◌, map, length, All, refl, sym, ap, subst, ◌∙◌, arith}
use Rattle.std.specs.Prelude.{slice_get}
use Rattle.std.proofs.lemmas.List.Elements.{All-nil, All-append, All-map, All-filter}
use Rattle.circus_value.specs.ValueTree.{ValueTree}
use Rattle.circus_value.specs.declared.outcome.Outcome.{Outcome}
use Rattle.circus_value.specs.declared.caller.Caller.{Caller}
use Rattle.circus_collate.specs.declared.view.View.{View}
use Rattle.circus_transfer.specs.declared.joiner.Joiner.TheVariants.{Active}
use Rattle.circus_model.specs.declared.signature.Signature.{Signature}
use Rattle.circus_model.specs.declared.history.Run.{Run}
use Rattle.circus_model.specs.NextTurn.{NextTurn}
use Rattle.circus_model.specs.Behaviour.{Behaviour, IsModule}
use Rattle.circus_model.specs.Agree.{IsAt, IsRoot, AreModules, Agree}
use Rattle.circus_model.specs.Execution.{history_of}
use Rattle.circus_fanout.specs.Knowing as knowing
use Rattle.circus_gather.specs.declared.held.HeldCall.{HeldCall}
use Rattle.circus_fanout.specs.Asking.{Asking}
use Rattle.circus_performing.specs.Record.{behaviour}
use Rattle.circus_member_rules.specs.declared.occurrence.AskName.{AskName}
use Rattle.circus_member_rules.specs.declared.occurrence.Occurrence.{Occurrence}
use Rattle.circus_member_rules.specs.declared.occurrence.Occurrence.TheVariants as comes
use Rattle.circus_member_rules.specs.declared.place.Place.{Place}
use Rattle.circus_member_rules.specs.declared.place.Beginning.{Beginning}
use Rattle.circus_member_rules.specs.declared.place.Beginning.TheVariants.{Founder, Spare}
use Rattle.circus_member_rules.specs.Rules.{ringmaster, stays_open, lookup_call, lookups}
use Rattle.circus_member_rules.specs.MemberState.{MemberState, Doing}
use Rattle.circus_member_rules.specs.Step.{waits, main_start, handle, enter_run_of, execute, keep_ask_open, look_up, step_member, starts_at_boot, boot_member}
use Rattle.circus_member_rules.specs.Happening.{IsHome, CanHappen}
use Rattle.circus_member_rules.specs.Seen.Sound.{IsRested}
use Rattle.circus_member_theory.proofs.Histories.{runs_are_few, main_run}
use Rattle.circus_member_theory.proofs.Standing.{founder_stands}
use Rattle.circus_member_rules.specs.Proper.{AreProper}
use Rattle.circus_member_theory.specs.Truth.{IsLong, IsTrueAsking, IsCalled, IsTrueKept, IsFetch, IsTrueMember, IsTrueOccurrence, IsTrueEffect}
use Rattle.circus_member_theory.proofs.Kept.{KeepsTrue}
use Rattle.circus_member_theory.proofs.Handled.{true_handled}
use Rattle.circus_member_theory.proofs.Going.{IsNext, GoesTrue, goes_entered, goes_executed}
use Rattle.circus_member_theory.specs.Ranges.{InRange}
use Rattle.circus_member_theory.proofs.Resting.{same_handled, same_stepped, sound_once_handled, stays_entered, at_boot, sound_at_boot, may_begin}

-- ---- the end of a step

module _ (history : List (List Run)) (troupe : ℕ) (first : List ValueTree) (Called : Caller → List ℕ → Type 0) {M : Type 0} (d : Doing M)
    (keeps : KeepsTrue history troupe first Called d) where
  true_closed : KeepsTrue history troupe first Called (keep_ask_open d)
  true_closed =
      let m = d.member in
      let h = keeps.member in
      record {
        member = record {
          own = h.own;
          stands = h.stands;
          began = h.began;
          asks = All-filter (stays_open m.known (waits m.performing.kept)) (λ (e : AskName × Asking). IsTrueAsking history troupe first Called e.0 e.1) m.asks h.asks;
          held = h.held;
          replies = h.replies;
          requests = h.requests;
          views = h.views;
        };
        effects = keeps.effects;
      }

  true_looked_up : KeepsTrue history troupe first Called (look_up d)
  true_looked_up =
      let h = keeps.member in
      record {
        member = record { own = h.own; stands = h.stands; began = h.began; asks = h.asks; held = h.held; replies = h.replies; requests = h.requests; views = h.views };
        effects = All-append (IsTrueEffect history troupe first Called) d.effects (lookups d.member.known) keeps.effects
            (All-map (IsTrueEffect history troupe first Called) lookup_call (knowing.lookups d.member.known ringmaster) (λ _ _ _. refl));
      }

-- ---- at boot

zeros : {X Y : Type 0} (xs : List X) (ys : List Y) → length xs ≡ length ys → map {B = ℕ} (λ (_ : X). 0) xs ≡ map {B = ℕ} (λ (_ : Y). 0) ys
zeros [] [] same = refl
zeros [] (y ∷ ys) same = absurd (omega (arith, same))
zeros (x ∷ xs) [] same = absurd (omega (arith, same))
zeros (x ∷ xs) (y ∷ ys) same = ap (λ (ns : List ℕ). 0 ∷ ns) (zeros xs ys (omega (arith, same)))

module _ (program : List Behaviour) (agree : Agree program) (are : AreModules program) where
  -- a true state has a count that has room
  pub in_range : {M : Type 0} (troupe : ℕ) (first : List ValueTree) (Called : Caller → List ℕ → Type 0) (m : MemberState M) (o : Occurrence)
      → IsTrueOccurrence (history_of program) troupe first Called m o → InRange o
  in_range troupe first Called m (comes.Asked header body sender) is = tt
  in_range troupe first Called m (comes.Fetched incarnation sender) is = tt
  in_range troupe first Called m (comes.Replied name from reply) is = tt
  in_range troupe first Called m (comes.IsStale name server from incarnation) is = tt
  in_range troupe first Called m (comes.IsBefore name from) is = tt
  in_range troupe first Called m (comes.Told request table) is = tt
  in_range troupe first Called m (comes.Restored state count) is =
      let few = runs_are_few program agree are troupe in
      let within = is.within in
      omega (arith, few, within)
  in_range troupe first Called m (comes.Declared node) is = tt
  in_range troupe first Called m comes.Joins is = tt

module _ {M : Type 0} (declared : M → Signature) (turn : M → List ValueTree → ℕ → List ValueTree → List Outcome → NextTurn) (first : M → List ValueTree)
    (lawful : (hosted : M) → IsModule (behaviour declared turn first hosted)) (program : List Behaviour) (agree : Agree program) (are : AreModules program)
    (proper : AreProper program) (troupe : ℕ) (Called : Caller → List ℕ → Type 0) where
  abbrev now : M → Behaviour
  now hosted = behaviour declared turn first hosted

  pub step_keeps_true : (at : ℕ) (o : Occurrence) (m : MemberState M) → IsAt program troupe (now m.performing.hosted) → IsRested (now m.performing.hosted) m
      → CanHappen (declared m.performing.hosted) m o → IsTrueMember (history_of program) troupe (first m.performing.hosted) Called m
      → IsTrueOccurrence (history_of program) troupe (first m.performing.hosted) Called m o
      → KeepsTrue (history_of program) troupe (first m.performing.hosted) Called (step_member declared turn at o m)
  step_keeps_true at o m there rest can h is =
      let history = history_of program in
      let hosted = m.performing.hosted in
      let b = now hosted in
      let e = handle at o m in
      let same = sym (same_handled at o m).hosted in
      let begins : GoesTrue declared turn first lawful program agree are proper troupe Called e =
      record {
        there = subst (λ x. IsAt program troupe (now x)) same there;
        sound = sound_once_handled declared turn first lawful at o m rest.sound can (in_range program agree are troupe (first hosted) Called m o is);
        keeps = subst (λ x. KeepsTrue history troupe (first x) Called e) same (true_handled program agree are proper troupe b there Called m rest.sound h at o can is);
      } in
      let g = goes_executed declared turn first lawful program agree are proper troupe Called at e begins in
      let d = execute declared turn at e in
      let own = first d.member.performing.hosted in
      subst (λ x. KeepsTrue history troupe (first x) Called (step_member declared turn at o m)) (same_stepped declared turn first lawful at o m).hosted
      (true_looked_up history troupe own Called (keep_ask_open d) (true_closed history troupe own Called d g.keeps))

  -- ---- boot

  module _ (place : Place) (views : List View) (hosted : M) (own : place.troupe ≡ troupe) (home : IsHome (declared hosted) place views)
      (there : IsAt program troupe (now hosted)) (all : length views ≡ length program) (long : All (λ (v : View). IsLong v.incarnation) views) where
    abbrev begun : Beginning → Doing M
    begun beginning = record { member = at_boot declared turn first lawful place views hosted home beginning; effects = [] }

    true_before_any : (beginning : Beginning) → IsTrueMember (history_of program) troupe (first hosted) Called (begun beginning).member
    true_before_any Founder =
        record {
          own = own;
          stands = λ _. founder_stands program agree are troupe (now hosted) there (Active 0);
          began = λ _. refl;
          asks = All-nil (λ (e : AskName × Asking). IsTrueAsking (history_of program) troupe (first hosted) Called e.0 e.1);
          held = All-nil (λ (c : HeldCall). IsCalled (history_of program) troupe (first hosted) Called c.sender c.header c.body);
          replies = All-nil (IsTrueKept (history_of program) troupe (first hosted) Called);
          requests = All-nil (IsFetch (history_of program) troupe (first hosted) Called);
          views = long;
        }
    true_before_any Spare =
        record {
          own = own;
          stands = λ active. cc;
          began = λ active. cc;
          asks = All-nil (λ (e : AskName × Asking). IsTrueAsking (history_of program) troupe (first hosted) Called e.0 e.1);
          held = All-nil (λ (c : HeldCall). IsCalled (history_of program) troupe (first hosted) Called c.sender c.header c.body);
          replies = All-nil (IsTrueKept (history_of program) troupe (first hosted) Called);
          requests = All-nil (IsFetch (history_of program) troupe (first hosted) Called);
          views = long;
        }

    true_begun : (beginning : Beginning) → KeepsTrue (history_of program) troupe (first hosted) Called (begun beginning)
    true_begun beginning = record { member = true_before_any beginning; effects = All-nil (IsTrueEffect (history_of program) troupe (first hosted) Called) }

    goes_begun : (beginning : Beginning) → GoesTrue declared turn first lawful program agree are proper troupe Called (begun beginning)
    goes_begun Founder = record { there = there; sound = sound_at_boot declared turn first lawful place views hosted home Founder; keeps = true_begun Founder }
    goes_begun Spare = record { there = there; sound = sound_at_boot declared turn first lawful place views hosted home Spare; keeps = true_begun Spare }

    -- a founder of a root enters the MAIN of the history
    true_main : (beginning : Beginning) → starts_at_boot declared turn beginning hosted ≡ true → let e =
        enter_run_of turn 0 (begun beginning) (main_start place.troupe views) in KeepsTrue (history_of program) troupe (first hosted) Called e
    true_main Founder is =
        let d = begun Founder in
        let g = goes_begun Founder in
        let start = main_start place.troupe views in
        let root : IsRoot program troupe = record { behaviour = now hosted; there = there; root = is } in
        let main = main_run program agree are troupe root in
        let next : IsNext program agree are proper troupe (now hosted) g.there Called d.member g.sound g.keeps.member start =
        record {
          run = main.0;
          run_is = ap (λ (runs : List Run). slice_get runs 0) main.1;
          root = own ∙ sym main.2;
          path = sym main.3;
          procedure = sym main.4;
          arguments = sym main.5;
          clock = zeros views program all ∙ sym main.6;
        } in
        let e = enter_run_of turn 0 d start in
        let goes = goes_entered declared turn first lawful program agree are proper troupe Called 0 d start g
        (may_begin declared turn first lawful place views hosted home Founder is) next in
        let stays = stays_entered declared turn first lawful 0 d start in
        subst (λ x. KeepsTrue (history_of program) troupe (first x) Called e) stays.hosted goes.keeps
    true_main Spare is = cc

    true_at_boot : (beginning : Beginning) → KeepsTrue (history_of program) troupe (first hosted) Called (boot_member declared turn first place views beginning hosted)
    true_at_boot beginning = by_test (starts_at_boot declared turn beginning hosted) refl
      where
        by_test : (t : Bool) → starts_at_boot declared turn beginning hosted ≡ t → let e =
            if t then enter_run_of turn 0 (begun beginning) (main_start place.troupe views) else begun beginning in KeepsTrue (history_of program) troupe (first hosted) Called e
        by_test false is = true_begun beginning
        by_test true is = true_main beginning is

  pub boot_keeps_true : (place : Place) (views : List View) (beginning : Beginning) (hosted : M) → place.troupe ≡ troupe → IsHome (declared hosted) place views
      → IsAt program troupe (now hosted) → length views ≡ length program → All (λ (v : View). IsLong v.incarnation) views
      → KeepsTrue (history_of program) troupe (first hosted) Called (boot_member declared turn first place views beginning hosted)
  boot_keeps_true place views beginning hosted own home there all long = true_at_boot place views hosted own home there all long beginning
