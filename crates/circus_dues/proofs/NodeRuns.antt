-- A trace and a record are a run of a node exactly where they are one step by step.
use Rattle.std.proofs.Common.{◌≡◌, ℕ, ◌<◌, List, [], ◌∷◌, ◌++◌, map, Option, None, Some, refl, sym, ap, ◌∙◌, arith, append-nil}
use Rattle.circus_collate.specs.declared.deployment.Deployment.{Deployment}
use Rattle.circus_collate.specs.declared.deployment.Troupe.{Troupe}
use Rattle.circus_model.specs.Behaviour.{Behaviour}
use Rattle.circus_record.specs.declared.record.MemberRecord.{MemberRecord}
use Rattle.circus_member_rules.specs.declared.occurrence.Difference.{Difference}
use Rattle.circus_member_rules.specs.declared.occurrence.Occurrence.{Occurrence}
use Rattle.circus_node.specs.Trace.{Trace, booted, stepped}
use Rattle.circus_member_theory.specs.Differences.{differences, differences_now}
use Rattle.circus_member_theory.specs.Past as past
use Rattle.circus_member_theory.specs.Past.{Past}
use Rattle.circus_member_theory.specs.Timely.{IsTimely}
use Rattle.circus_world_theory.specs.Happened.{with_one}
use Rattle.circus_headline_theory.specs.NodeRun.{state_at_activation, IsOrderedFor, IsOrdered, IsNodeRun}
use Rattle.circus_headline_theory.specs.Owed.Living.{told_in}
use Rattle.circus_headline_theory.specs.Owed.OrderedMakes.{made_at_boot, BeginsRight}
use Rattle.circus_headline_theory.specs.Trace.{told_of, now, Rises, ComesFromOthers}
use Rattle.circus_headline_theory.proofs.OneRun.{lived_rises, first_owed}
use Rattle.circus_headline_theory.proofs.Owed.OrderedMakes.{requests_by_order, calls_by_order, returns_by_order}
use Rattle.circus_headline_theory.proofs.Owed.OrderedStarts.{starts_in_order}
use Rattle.circus_dues.specs.NodeRuns.{here, known, begins, at_boot, lived, happens, IsTimelyAt, TellsFor, IsTimelyFor, StepsSo, GoesSo, IsEvaluated}
use Rattle.circus_dues.specs.Walk.{Always}
use Rattle.circus_dues.proofs.NodeRunsCallers.{calls_are_distinct}
use Rattle.circus_dues.proofs.WalkTimely.{in_time_of, steps_in_time, within_in_time, timely_by_steps}

-- ---- lists of steps

module _ {X : Type 0} where
  abbrev in_step : ℕ → List X → List (ℕ × X)
  in_step step xs = map (λ (x : X). (step, x)) xs

  -- each comes before a step
  abbrev AreBefore : ℕ → List (ℕ × X) → Type 0
  AreBefore step [] = Unit {0}
  AreBefore step (x ∷ xs) = (x.0 < step) × AreBefore step xs

  before-append : (step : ℕ) (xs ys : List (ℕ × X)) → AreBefore step xs → AreBefore step ys → AreBefore step (xs ++ ys)
  before-append step [] ys one other = other
  before-append step (x ∷ xs) ys one other = (one.0, before-append step xs ys one.1 other)

  before_in : (low step : ℕ) → low < step → (xs : List X) → AreBefore step (in_step low xs)
  before_in low step less [] = tt
  before_in low step less (x ∷ xs) = (less, before_in low step less xs)

  first_step : ℕ → List (ℕ × X) → ℕ
  first_step step [] = step
  first_step step (x ∷ xs) = x.0

  first_or : ℕ × X → List (ℕ × X) → ℕ × X
  first_or other [] = other
  first_or other (x ∷ xs) = x

  rest_of : List (ℕ × X) → List (ℕ × X)
  rest_of [] = []
  rest_of (x ∷ xs) = xs

  without_steps : List (ℕ × X) → List X
  without_steps [] = []
  without_steps (x ∷ xs) = x.1 ∷ without_steps xs

  without_step : (step : ℕ) (xs : List X) → without_steps (in_step step xs) ≡ xs
  unfolding without_steps
  without_step step [] = refl
  without_step step (x ∷ xs) = ap (λ l. x ∷ l) (without_step step xs)

  starts_with : (step : ℕ) (xs : List X) → first_step step (in_step step xs) ≡ step
  unfolding first_step
  starts_with step [] = refl
  starts_with step (x ∷ xs) = refl

  same_parts : (step : ℕ) (xs ys : List (ℕ × X)) (new others : List X) → AreBefore step xs → AreBefore step ys → xs ++ in_step step new ≡ ys ++ in_step step others → (xs ≡ ys) × (new ≡ others)
  unfolding first_step first_or rest_of without_steps
  same_parts step [] [] new others one other same = (refl, sym (without_step step new) ∙ ap without_steps same ∙ without_step step others)
  same_parts step [] (y ∷ ys) new others one other same =
      let at : step ≡ y.0 = sym (starts_with step new) ∙ ap (first_step step) same in
      let low = other.0 in
      absurd (omega (arith, at, low))
  same_parts step (x ∷ xs) [] new others one other same =
      let at : x.0 ≡ step = ap (first_step step) same ∙ starts_with step others in
      let low = one.0 in
      absurd (omega (arith, at, low))
  same_parts step (x ∷ xs) (y ∷ ys) new others one other same =
      let first : x ≡ y = ap (first_or x) same in
      let rest = same_parts step xs ys new others one.1 other.1 (ap rest_of same) in
      ((λ j. first j ∷ rest.0 j), rest.1)

-- ---- a trace, step by step

module _ (d : Deployment) (b : Behaviour) (node number : ℕ) (troupe : Troupe) (kept : MemberRecord) where
  abbrev lives : Trace → Past
  lives t = lived d b node number troupe kept t

  abbrev GoesBy : Trace → Type 0
  GoesBy t = GoesSo d b node number troupe kept t

  abbrev IsInTime : Past → Type 0
  IsInTime p = IsTimelyAt d b node number troupe kept p

  -- all differences of a past
  abbrev differ : Past → List (ℕ × Difference)
  differ p = differences (here d b node number troupe kept) (known d b node number troupe kept) kept p

  -- ---- from its steps

  ordered_by : (t : Trace) → GoesBy t → IsOrdered d b node number troupe kept t
  ordered_by (booted made outputs) goes = tt
  ordered_by (stepped t at event made outputs) goes = (ordered_by t goes.0, goes.1.made_so)

  begins_by : (t : Trace) → GoesBy t → BeginsRight (here d b node number troupe kept) (known d b node number troupe kept) kept (made_at_boot t)
  begins_by (booted made outputs) goes = goes.made_so
  begins_by (stepped t at event made outputs) goes = begins_by t goes.0

  pub timely_by : (t : Trace) → GoesBy t → Always IsInTime (lives t)
  timely_by (booted made outputs) goes = goes.timely
  timely_by (stepped t at event made outputs) goes = by_one (timely_by t goes.0) (happens d b node number troupe kept t event) goes.1.timely
    where
      by_one : Always IsInTime (lives t) → (o : Option Occurrence) → IsTimelyFor d b node number troupe kept (lives t) at o → Always IsInTime (with_one (lives t) at o)
      by_one before None now_so = before
      by_one before (Some o) now_so = (before, now_so)

  told_by : (t : Trace) → GoesBy t → told_of t ≡ differ (lives t)
  told_by (booted made outputs) goes = ap (told_in 0) goes.told_so
  told_by (stepped t at event made outputs) goes = by_one (told_by t goes.0) (happens d b node number troupe kept t event) goes.1.told_so
    where
      by_one : told_of t ≡ differ (lives t) → (o : Option Occurrence) → TellsFor d b node number troupe kept (lives t) at outputs.differences o
          → told_of t ++ told_in at outputs.differences ≡ differ (with_one (lives t) at o)
      by_one before None none = ap (λ l. told_of t ++ told_in at l) none ∙ append-nil (told_of t) ∙ before
      by_one before (Some o) so = (λ j. before j ++ told_in at (so j))

  pub evaluated_runs : (t : Trace) → Rises t → ComesFromOthers d node t → IsEvaluated d b node number troupe kept t → IsNodeRun d b node number troupe t kept
  evaluated_runs t rises others e =
      record {
        timely = timely;
        from_first = e.ends.from_first;
        follows = e.follows;
        makes = record {
          returned = returns_by_order d b node number troupe kept t ordered right rises (calls_are_distinct d b node number troupe kept t others);
          requested = requests_by_order d b node number troupe kept t ordered right;
          asked = calls_by_order d b node number troupe kept t ordered right (starts_in_order d b node number troupe (lives t) (state_at_activation d b node number troupe kept t) kept timely e.follows);
          differed = told_by t e.goes;
        };
        ordered = ordered;
        sends = e.sends;
      }
    where
      ordered : IsOrdered d b node number troupe kept t
      ordered = ordered_by t e.goes

      right : BeginsRight (here d b node number troupe kept) (known d b node number troupe kept) kept (made_at_boot t)
      right = begins_by t e.goes

      timely : IsTimely (here d b node number troupe kept) (known d b node number troupe kept) (begins d b node number troupe kept) b.declared.procedures (at_boot d b node number troupe kept) kept (lives t)
      timely =
          timely_by_steps (here d b node number troupe kept) (known d b node number troupe kept) (begins d b node number troupe kept) b.declared.procedures (at_boot d b node number troupe kept) kept (lives t)
          (lived_rises d b node number troupe kept t rises) e.ends.boots e.ends.phase_is e.ends.active (timely_by t e.goes) e.ends.within

  -- ---- and back

  told_before : (t : Trace) → Rises t → (step : ℕ) → now t < step → AreBefore step (told_of t)
  told_before (booted made outputs) rises step low = before_in 0 step low outputs.differences
  told_before (stepped t at event made outputs) rises step low =
      before-append step (told_of t) (told_in at outputs.differences) (told_before t rises.0 step (let later = rises.1 in omega (arith, later, low))) (before_in at step low outputs.differences)

  differ_before : (p : Past) → past.Rises p → (step : ℕ) → past.now p < step → AreBefore step (differ p)
  differ_before past.booted rises step low = tt
  differ_before (past.followed p at o) rises step low =
      let new = differences_now (here d b node number troupe kept) (known d b node number troupe kept) kept (past.followed p at o) in
      before-append step (differ p) (in_step at new) (differ_before p rises.0 step (let later = rises.1 in omega (arith, later, low))) (before_in at step low new)

  pub lived_before : (t : Trace) → Rises t → (step : ℕ) → now t < step → past.now (lives t) < step
  lived_before (booted made outputs) rises step low = low
  lived_before (stepped t at event made outputs) rises step low =
      by_one (lived_before t rises.0 step (let later = rises.1 in omega (arith, later, low))) (happens d b node number troupe kept t event)
    where
      by_one : past.now (lives t) < step → (o : Option Occurrence) → past.now (with_one (lives t) at o) < step
      by_one before None = before
      by_one before (Some o) = low

  goes_by : (t : Trace) → Rises t → BeginsRight (here d b node number troupe kept) (known d b node number troupe kept) kept (made_at_boot t) → IsOrdered d b node number troupe kept t → told_of t ≡ differ (lives t)
      → Always IsInTime (lives t) → GoesBy t
  unfolding without_steps
  goes_by (booted made outputs) rises right ordered told all =
      record { made_so = right; told_so = sym (without_step 0 outputs.differences) ∙ ap without_steps told; timely = all }
  goes_by (stepped t at event made outputs) rises right ordered told all = by_one (goes_by t rises.0 right ordered.0) (happens d b node number troupe kept t event) ordered.1 told all
    where
      told_earlier : AreBefore at (told_of t)
      told_earlier = told_before t rises.0 at rises.1

      differ_earlier : AreBefore at (differ (lives t))
      differ_earlier =
          differ_before (lives t) (lived_rises d b node number troupe kept t rises.0) at (lived_before t rises.0 at rises.1)

      by_one : (told_of t ≡ differ (lives t) → Always IsInTime (lives t) → GoesBy t) → (o : Option Occurrence) → IsOrderedFor d b node number troupe kept (lives t) at made o
          → told_of t ++ told_in at outputs.differences ≡ differ (with_one (lives t) at o) → Always IsInTime (with_one (lives t) at o) → GoesBy t × StepsSo d b node number troupe kept (lives t) at made outputs.differences o
      by_one before None so same in_time =
          let parts = same_parts at (told_of t) (differ (lives t)) outputs.differences [] told_earlier differ_earlier (same ∙ sym (append-nil (differ (lives t)))) in
          (before parts.0 in_time, record { made_so = so; told_so = parts.1; timely = tt })
      by_one before (Some o) so same in_time =
          let new = differences_now (here d b node number troupe kept) (known d b node number troupe kept) kept (past.followed (lives t) at o) in
          let parts = same_parts at (told_of t) (differ (lives t)) outputs.differences new told_earlier differ_earlier same in
          (before parts.0 in_time.0, record { made_so = so; told_so = parts.1; timely = in_time.1 })

  pub runs_evaluate : (t : Trace) → Rises t → IsNodeRun d b node number troupe t kept → IsEvaluated d b node number troupe kept t
  runs_evaluate t rises run =
      let rising = lived_rises d b node number troupe kept t rises in
      let in_time = in_time_of (here d b node number troupe kept) (known d b node number troupe kept) (begins d b node number troupe kept) b.declared.procedures (at_boot d b node number troupe kept) kept (lives t) run.timely in
      record {
        goes = goes_by t rises (first_owed d b node number troupe t kept run rises) run.ordered run.makes.differed
            (steps_in_time (here d b node number troupe kept) (known d b node number troupe kept) (begins d b node number troupe kept) b.declared.procedures (at_boot d b node number troupe kept) kept (lives t) rising in_time);
        ends = record {
          boots = run.timely.boots;
          within = within_in_time (here d b node number troupe kept) (known d b node number troupe kept) (begins d b node number troupe kept) b.declared.procedures (at_boot d b node number troupe kept) kept (lives t) rising in_time;
          phase_is = run.timely.phase_is;
          active = run.timely.active;
          from_first = run.from_first;
        };
        follows = run.follows;
        sends = run.sends;
      }
