-- What comes of a part of the language is what comes of the whole.
use Rattle.std.proofs.Common.{◌≡◌, ℕ, zero, suc, ◌+◌, ◌<◌, ◌≤◌, List, [], ◌∷◌, ◌++◌, length, get_or, drop, take, Some, None, slice_get, Result, Ok, Err, IsErr, IsErrAnd, refl, sym, ap, ◌∙◌, arith}
use Rattle.std.proofs.lemmas.List.{drop_more, drop_all, take_more}
use Rattle.std.proofs.lemmas.Option.{slice_get_within}
use Rattle.circus_value.specs.ValueTree.{ValueTree}
use Rattle.circus_value.specs.declared.outcome.Outcome.{Outcome}
use Rattle.circus_model.specs.declared.language_error.LanguageError.{LanguageError}
use Rattle.circus_checked.specs.declared.expression.CheckedPlace.{CheckedPlace}
use Rattle.circus_evaluate.specs.Got.{Got, Raising, got_of}
use Rattle.circus_machine.specs.Storing.{store_at, stored_over}
use Rattle.circus_machine.specs.Meaning.{Going, Flow, goes_on, then_does, fails, value_or_end, with_variables, assign_value, fill_places}
use Rattle.circus_machine.specs.Seen.Changing.{Changed}
use Rattle.circus_machine.specs.Seen.Running.{going_of, Keeps, Does, nothing}
use Rattle.circus_evaluate.specs.declared.got.NoValue.{NoValue}
use Rattle.circus_evaluate.specs.declared.got.NoValue.TheVariants.{Raises, NoMemory}
use Rattle.circus_machine.specs.declared.store.Variables.{Variables}
use Rattle.circus_machine.specs.declared.execution.Execution.{Execution}
use Rattle.circus_evaluate.proofs.Alike.{some_same, handed_on}

pub then_goes : {X Y : Type 0} (f : Flow X) (x : X) (g : X → Flow Y) → f ≡ goes_on x → then_does f g ≡ g x
then_goes f x g is = ap (λ r. then_does r g) is

pub then_fails : {X Y : Type 0} (f : Flow X) (e : LanguageError) (v : List ValueTree) (g : X → Flow Y) → f ≡ fails e v → then_does f g ≡ fails e v
then_fails f e v g is = ap (λ r. then_does r g) is

module _ (limit states : ℕ) where
  pub assigned_goes : (p : CheckedPlace) (change : ValueTree → Raising ValueTree) (c : Going) (vs : List ValueTree) → store_at limit states c.variables p change ≡ Ok vs → assign_value limit states p change c ≡ goes_on (with_variables c vs)
  assigned_goes p change c vs is = ap (λ r. then_does (value_or_end r c) (λ variables. goes_on (with_variables c variables))) is

  pub assigned_fails : (p : CheckedPlace) (change : ValueTree → Raising ValueTree) (c : Going) (e : LanguageError) → store_at limit states c.variables p change ≡ Err e → assign_value limit states p change c ≡ fails e c.variables
  assigned_fails p change c e is = ap (λ r. then_does (value_or_end r c) (λ variables. goes_on (with_variables c variables))) is

  pub filled_none : (ps : List CheckedPlace) (c : Going) → fill_places limit states ps [] c ≡ goes_on c
  filled_none [] c = refl
  filled_none (p ∷ ps) c = refl

get_is : {X : Type 0} (xs : List X) (i : ℕ) (x : X) → slice_get xs i ≡ Some x → get_or xs i x ≡ x
get_is [] i x is = cc
get_is (y ∷ xs) zero x is = some_same y x is
get_is (y ∷ xs) (suc i) x is = get_is xs i x is

none_past : {X : Type 0} (xs : List X) (i : ℕ) → slice_get xs i ≡ None → length xs ≤ i
none_past [] i none = omega arith
none_past (y ∷ xs) zero none = cc
none_past (y ∷ xs) (suc i) none = omega (arith, none_past xs i none)

drop_get : {X : Type 0} (xs : List X) (i : ℕ) (x : X) → slice_get xs i ≡ Some x → drop i xs ≡ x ∷ drop (i + 1) xs
drop_get xs i x is = drop_more xs i x (slice_get_within xs i x is) ∙ ap (λ y. y ∷ drop (i + 1) xs) (get_is xs i x is)

pub drop_past : {X : Type 0} (xs : List X) (i : ℕ) → slice_get xs i ≡ None → drop i xs ≡ []
drop_past xs i none = drop_all i xs (none_past xs i none)

-- the first so many and one more
pub take_get : (xs : List ValueTree) (i : ℕ) (x : ValueTree) (done more : List ValueTree) → slice_get xs i ≡ Some x → done ≡ take i xs → more ≡ done ++ x ∷ [] → more ≡ take (i + 1) xs
take_get xs i x done more is so_far grown =
    grown ∙ ap (λ ys. ys ++ x ∷ []) so_far ∙ ap (λ y. take i xs ++ y ∷ []) (sym (get_is xs i x is)) ∙ sym (take_more xs i x (slice_get_within xs i x is))

-- the first place that is left is filled
pub filled_step : (limit states : ℕ) (ps : List CheckedPlace) (ts : List ValueTree) (i : ℕ) (p : CheckedPlace) (t : ValueTree) (g : Got) (c : Going) → i < length ps → p ≡ get_or ps i p → slice_get ts i ≡ Some t → g ≡ got_of t
    → fill_places limit states (drop i ps) (drop i ts) c ≡ then_does (assign_value limit states p (stored_over g) c) (fill_places limit states (drop (i + 1) ps) (drop (i + 1) ts))
filled_step limit states ps ts i p t g c few is there same =
    ap (λ qs. fill_places limit states qs (drop i ts) c) (drop_more ps i p few ∙ ap (λ q. q ∷ drop (i + 1) ps) (sym is))
    ∙ ap (λ us. fill_places limit states (p ∷ drop (i + 1) ps) us c) (drop_get ts i t there)
    ∙ ap (λ x. then_does (assign_value limit states p (stored_over x) c) (fill_places limit states (drop (i + 1) ps) (drop (i + 1) ts))) (sym same)

-- ---- what was done

keeps_more : (old mid new : Execution) → Keeps old mid → Keeps mid new → Keeps old new
keeps_more old mid new first second = record { states = second.states ∙ first.states; sized = second.sized }

-- a part that does from a later execution on what another one does
pub does_from : {A X : Type 0} (view : A → Going → X) (part rest : Going → Flow X) (result : Result A NoValue) (old mid new : Execution) → Keeps old mid → ((replies : List Outcome) → part (going_of old replies) ≡ rest (going_of mid replies))
    → Does view rest result mid new → Does view part result old new
does_from view part rest (Ok a) old mid new kept same done = (keeps_more old mid new kept done.0, λ replies. same replies ∙ done.1 replies)
does_from view part rest (Err (Raises error)) old mid new kept same done = (done.0 ∙ kept.states, λ replies. same replies ∙ done.1 replies)
does_from view part rest (Err NoMemory) old mid new kept same done = tt

-- what stopped the first part stops both
pub does_not : {A B X Y : Type 0} (view : A → Going → X) (other : B → Going → Y) (part : Going → Flow X) (more : X → Flow Y) (e : NoValue) (old new : Execution) → Does view part (Err e) old new → Does other (λ c. then_does (part c) more) (Err e) old new
does_not view other part more (Raises error) old new done = (done.0, λ replies. then_fails (part (going_of old replies)) error new.variables.values more (done.1 replies))
does_not view other part more NoMemory old new done = tt

pub stops : {A X : Type 0} (view : A → Going → X) (part : Going → Flow X) (r : Result A NoValue) (e : NoValue) (old new : Execution) → IsErr r × IsErrAnd r (λ f. f ≡ e) → Does view part (Err e) old new → Does view part r old new
stops view part r e old new p done = rw (handed_on r e p) done

-- a change of the variables is an assignment
pub change_does : (limit : ℕ) (result : Result (Unit {0}) NoValue) (e : Execution) (after : Variables) (p : CheckedPlace) (change : ValueTree → Raising ValueTree)
    → Changed result (store_at limit e.variables.states e.variables.values p change) e.variables after → Does nothing (assign_value limit e.variables.states p change) result e (record { variables = after; steps = e.steps; asks = e.asks })
change_does limit (Ok done) e after p change changed =
    (record { states = changed.1.0; sized = changed.1.1 }, λ replies. assigned_goes limit e.variables.states p change (going_of e replies) after.values changed.0)
change_does limit (Err (Raises error)) e after p change changed = (
  ap (λ (v : Variables). v.states) changed.1,
  λ replies. assigned_fails limit e.variables.states p change (going_of e replies) error changed.0 ∙ ap (λ (v : Variables). fails error v.values) (sym changed.1),
)
change_does limit (Err NoMemory) e after p change changed = tt
