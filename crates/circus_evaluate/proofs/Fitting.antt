-- Parts of values that fit their shapes.
use Rattle.std.proofs.Common.{◌≡◌, ℕ, ℤ, zero, suc, pos, negsuc, Bool, true, false, ◌==◌, nat_lt, nat_le, cond, if◌then◌else◌, IsTrue, IfOk, List, [], ◌∷◌, Some, Ok, Err, ok_or, slice_get, slice_set, refl, sym, ap, subst, ◌∙◌}
use Rattle.circus_evaluate.proofs.Alike.{some_same}
use Rattle.std.proofs.lemmas.Bool.{and_parts, and_from, eqb-true}
use Rattle.circus_value.specs.ValueTree.{ValueTree, ValueTrees, value_trees}
use Rattle.circus_value.specs.ValueTree as value
use Rattle.circus_value.specs.ShapeTree.{ShapeTree, FieldTrees, ArmTrees, no_fields, more_fields, no_arms, more_arms}
use Rattle.circus_value.specs.ShapeTree as shape
use Rattle.circus_value.specs.Fits.{fits, fields_fit, arm_fits, every, count_of}
use Rattle.circus_model.specs.declared.language_error.LanguageError.{LanguageError}
use Rattle.circus_model.specs.declared.language_error.LanguageError.TheVariants.{Index, WrongChoice}
use Rattle.circus_checked.specs.Sorts.{field_in, arm_in}
use Rattle.circus_evaluate.specs.Got.{Raising, and_then}
use Rattle.circus_evaluate.specs.Parts.{Step, field, arm, item, list_of, item_under, part_by, part_at, with_item, with_part_by, with_part, put_inside}

-- ---- what is given, where nothing is raised

pub then_ok : {A B : Type 0} (P : A → Type 0) (Q : B → Type 0) (r : Raising A) (f : A → Raising B) → IfOk r P → ((a : A) → P a → IfOk (f a) Q) → IfOk (and_then r f) Q
then_ok P Q (Ok a) f given so = so a given
then_ok P Q (Err e) f given so = tt

-- of whatever is given
pub then_any : {A B : Type 0} (Q : B → Type 0) (r : Raising A) (f : A → Raising B) → ((a : A) → IfOk (f a) Q) → IfOk (and_then r f) Q
then_any Q (Ok a) f so = so a
then_any Q (Err e) f so = tt

pub if_ok : {A : Type 0} (P : A → Type 0) (b : Bool) (a : A) (e : LanguageError) → (b ≡ true → P a) → IfOk (if b then Ok a else Err e) P
if_ok P true a e so = so refl
if_ok P false a e so = tt

-- ---- fs, arms and items

trees_of_list : (ts : ValueTrees) → value_trees (list_of ts) ≡ ts
trees_of_list value.none = refl
trees_of_list (value.more t ts) = ap (value.more t) (trees_of_list ts)

field_there : (fs : FieldTrees) (ts : ValueTrees) (n : ℕ) (s : ShapeTree) (e : LanguageError) → field_in fs n ≡ Some s → IsTrue (fields_fit fs ts) → IfOk (ok_or (slice_get (list_of ts) n) e) (λ t. IsTrue (fits s t))
field_there no_fields ts n s e is fit = cc
field_there (more_fields name r fs) value.none n s e is fit = cc
field_there (more_fields name r fs) (value.more t ts) zero s e is fit = subst (λ x. IsTrue (fits x t)) (some_same r s is) (and_parts (fits r t) (fields_fit fs ts) fit).0
field_there (more_fields name r fs) (value.more t ts) (suc n) s e is fit = field_there fs ts n s e is (and_parts (fits r t) (fields_fit fs ts) fit).1

field_put : (fs : FieldTrees) (ts : ValueTrees) (n : ℕ) (s : ShapeTree) (t : ValueTree) → field_in fs n ≡ Some s → IsTrue (fields_fit fs ts) → IsTrue (fits s t) → IsTrue (fields_fit fs (value_trees (slice_set (list_of ts) n t)))
field_put no_fields ts n s t is fit new = cc
field_put (more_fields name r fs) value.none n s t is fit new = cc
field_put (more_fields name r fs) (value.more u ts) zero s t is fit new =
    and_from (fits r t) (fields_fit fs (value_trees (list_of ts))) (subst (λ x. IsTrue (fits x t)) (sym (some_same r s is)) new)
    (subst (λ us. IsTrue (fields_fit fs us)) (sym (trees_of_list ts)) (and_parts (fits r u) (fields_fit fs ts) fit).1)
field_put (more_fields name r fs) (value.more u ts) (suc n) s t is fit new =
    and_from (fits r u) (fields_fit fs (value_trees (slice_set (list_of ts) n t))) (and_parts (fits r u) (fields_fit fs ts) fit).0
    (field_put fs ts n s t is (and_parts (fits r u) (fields_fit fs ts) fit).1 new)

-- the chosen arm, or the one that is searched on
arm_by : (b : Bool) (r s : ShapeTree) (arms : ArmTrees) (n : ℕ) (t : ValueTree) → (if b then Some r else arm_in arms n) ≡ Some s → (arm_in arms n ≡ Some s → IsTrue (arm_fits arms n t) → IsTrue (fits s t)) → IsTrue (cond b (fits r t) (arm_fits arms n t)) → IsTrue (fits s t)
arm_by true r s arms n t is rest fit = subst (λ x. IsTrue (fits x t)) (some_same r s is) fit
arm_by false r s arms n t is rest fit = rest is fit

pub arm_there : (arms : ArmTrees) (n : ℕ) (s : ShapeTree) (t : ValueTree) → arm_in arms n ≡ Some s → IsTrue (arm_fits arms n t) → IsTrue (fits s t)
arm_there no_arms n s t is fit = cc
arm_there (more_arms name number r arms) n s t is fit = arm_by (n == number) r s arms n t is (arm_there arms n s t) fit

arm_put_by : (b : Bool) (r s : ShapeTree) (arms : ArmTrees) (n : ℕ) (t : ValueTree) → (if b then Some r else arm_in arms n) ≡ Some s → (arm_in arms n ≡ Some s → IsTrue (fits s t) → IsTrue (arm_fits arms n t)) → IsTrue (fits s t) → IsTrue (cond b (fits r t) (arm_fits arms n t))
arm_put_by true r s arms n t is rest fit = subst (λ x. IsTrue (fits x t)) (sym (some_same r s is)) fit
arm_put_by false r s arms n t is rest fit = rest is fit

pub arm_put : (arms : ArmTrees) (n : ℕ) (s : ShapeTree) (t : ValueTree) → arm_in arms n ≡ Some s → IsTrue (fits s t) → IsTrue (arm_fits arms n t)
arm_put no_arms n s t is fit = cc
arm_put (more_arms name number r arms) n s t is fit = arm_put_by (n == number) r s arms n t is (arm_put arms n s t) fit

module _ (p : ValueTree → Bool) where
  nth_there : (ts : ValueTrees) (n : ℕ) → IsTrue (every p ts) → IfOk (ok_or (slice_get (list_of ts) n) Index) (λ t. IsTrue (p t))
  nth_there value.none n fit = tt
  nth_there (value.more t ts) zero fit = (and_parts (p t) (every p ts) fit).0
  nth_there (value.more t ts) (suc n) fit = nth_there ts n (and_parts (p t) (every p ts) fit).1

  pub item_there : (z : ℤ) (ts : ValueTrees) → IsTrue (every p ts) → IfOk (item_under z ts) (λ t. IsTrue (p t))
  item_there (pos n) ts fit = nth_there ts n fit
  item_there (negsuc n) ts fit = tt

  nth_put : (ts : ValueTrees) (n : ℕ) (t : ValueTree) → IsTrue (every p ts) → IsTrue (p t) → IsTrue (every p (value_trees (slice_set (list_of ts) n t)))
  nth_put value.none n t fit new = refl
  nth_put (value.more u ts) zero t fit new = and_from (p t) (every p (value_trees (list_of ts))) new (subst (λ us. IsTrue (every p us)) (sym (trees_of_list ts)) (and_parts (p u) (every p ts) fit).1)
  nth_put (value.more u ts) (suc n) t fit new =
      and_from (p u) (every p (value_trees (slice_set (list_of ts) n t))) (and_parts (p u) (every p ts) fit).0 (nth_put ts n t (and_parts (p u) (every p ts) fit).1 new)

  pub item_put : (z : ℤ) (ts : ValueTrees) (t : ValueTree) → IsTrue (every p ts) → IsTrue (p t) → IsTrue (every p (with_item z t ts))
  item_put (pos n) ts t fit new = nth_put ts n t fit new
  item_put (negsuc n) ts t fit new = fit

nth_count : (ts : ValueTrees) (n : ℕ) (t : ValueTree) → count_of (value_trees (slice_set (list_of ts) n t)) ≡ count_of ts
nth_count value.none n t = refl
nth_count (value.more u ts) zero t = ap (λ us. suc (count_of us)) (trees_of_list ts)
nth_count (value.more u ts) (suc n) t = ap (λ k. suc k) (nth_count ts n t)

item_count : (z : ℤ) (ts : ValueTrees) (t : ValueTree) → count_of (with_item z t ts) ≡ count_of ts
item_count (pos n) ts t = nth_count ts n t
item_count (negsuc n) ts t = refl

-- ---- steps

-- a step leads from a value of a shape to one of another shape
pub data StepTo : Step → ShapeTree → ShapeTree → Type 0 where
  to_field : (n : ℕ) (fs : FieldTrees) (s : ShapeTree) → field_in fs n ≡ Some s → StepTo (field n) (shape.«record» fs) s
  to_arm : (n : ℕ) (arms : ArmTrees) (s : ShapeTree) → arm_in arms n ≡ Some s → StepTo (arm n) (shape.choice arms) s
  to_item_of_array : (z : ℤ) (len : ℕ) (element : ShapeTree) → StepTo (item z) (shape.array len element) element
  to_item_of_sequence : (z : ℤ) (bound : ℕ) (element : ShapeTree) → StepTo (item z) (shape.sequence bound element) element

-- where the number of the chosen arm is this one or another
arm_part : (b : Bool) (m n : ℕ) (arms : ArmTrees) (s : ShapeTree) (t : ValueTree) → (m == n) ≡ b → arm_in arms n ≡ Some s → IsTrue (arm_fits arms m t) → IfOk (if b then Ok t else Err WrongChoice) (λ u. IsTrue (fits s u))
arm_part true m n arms s t same is fit = arm_there arms n s t is (subst (λ k. IsTrue (arm_fits arms k t)) (eqb-true m n same) fit)
arm_part false m n arms s t same is fit = tt

field_part : (fs : FieldTrees) (n : ℕ) (s : ShapeTree) (t : ValueTree) → field_in fs n ≡ Some s → IsTrue (fits (shape.«record» fs) t) → IfOk (part_by (field n) t) (λ v. IsTrue (fits s v))
field_part fs n s (value.«record» ts) is fit = field_there fs ts n s WrongChoice is fit
field_part fs n s _ is fit = cc

choice_part : (arms : ArmTrees) (n : ℕ) (s : ShapeTree) (t : ValueTree) → arm_in arms n ≡ Some s → IsTrue (fits (shape.choice arms) t) → IfOk (part_by (arm n) t) (λ v. IsTrue (fits s v))
choice_part arms n s (value.choice m t) is fit = arm_part (m == n) m n arms s t refl is (and_parts (nat_lt m 65536) (arm_fits arms m t) fit).1
choice_part arms n s _ is fit = cc

array_part : (z : ℤ) (len : ℕ) (element : ShapeTree) (t : ValueTree) → IsTrue (fits (shape.array len element) t) → IfOk (part_by (item z) t) (λ v. IsTrue (fits element v))
array_part z len element (value.array ts) fit = item_there (fits element) z ts (and_parts (count_of ts == len) (every (fits element) ts) fit).1
array_part z len element _ fit = cc

sequence_part : (z : ℤ) (bound : ℕ) (element : ShapeTree) (t : ValueTree) → IsTrue (fits (shape.sequence bound element) t) → IfOk (part_by (item z) t) (λ v. IsTrue (fits element v))
sequence_part z bound element (value.sequence ts) fit = item_there (fits element) z ts (and_parts (nat_le (count_of ts) bound) (every (fits element) ts) fit).1
sequence_part z bound element _ fit = cc

pub part_fits : (step : Step) (s u : ShapeTree) (t : ValueTree) → StepTo step s u → IsTrue (fits s t) → IfOk (part_by step t) (λ v. IsTrue (fits u v))
part_fits _ _ _ t (to_field n fs s is) fit = field_part fs n s t is fit
part_fits _ _ _ t (to_arm n arms s is) fit = choice_part arms n s t is fit
part_fits _ _ _ t (to_item_of_array z len element) fit = array_part z len element t fit
part_fits _ _ _ t (to_item_of_sequence z bound element) fit = sequence_part z bound element t fit

-- ---- another part

field_with : (fs : FieldTrees) (n : ℕ) (s : ShapeTree) (t v : ValueTree) → field_in fs n ≡ Some s → IsTrue (fits (shape.«record» fs) t) → IsTrue (fits s v) → IsTrue (fits (shape.«record» fs) (with_part_by (field n) v t))
field_with fs n s (value.«record» ts) v is fit new = field_put fs ts n s v is fit new
field_with fs n s _ v is fit new = cc

arm_same : (b : Bool) (t u : ValueTree) → (if b then Ok t else Err WrongChoice) ≡ Ok u → b ≡ true
arm_same true t u is = refl
arm_same false t u is = cc

choice_with : (arms : ArmTrees) (n : ℕ) (s : ShapeTree) (t u v : ValueTree) → arm_in arms n ≡ Some s → part_by (arm n) t ≡ Ok u → IsTrue (fits (shape.choice arms) t) → IsTrue (fits s v) → IsTrue (fits (shape.choice arms) (with_part_by (arm n) v t))
choice_with arms n s (value.choice m t) u v is there fit new =
    and_from (nat_lt m 65536) (arm_fits arms m v) (and_parts (nat_lt m 65536) (arm_fits arms m t) fit).0
    (subst (λ k. IsTrue (arm_fits arms k v)) (sym (eqb-true m n (arm_same (m == n) t u there))) (arm_put arms n s v is new))
choice_with arms n s _ u v is there fit new = cc

array_with : (z : ℤ) (len : ℕ) (element : ShapeTree) (t v : ValueTree) → IsTrue (fits (shape.array len element) t) → IsTrue (fits element v) → IsTrue (fits (shape.array len element) (with_part_by (item z) v t))
array_with z len element (value.array ts) v fit new =
    and_from (count_of (with_item z v ts) == len) (every (fits element) (with_item z v ts)) (ap (λ k. k == len) (item_count z ts v) ∙ (and_parts (count_of ts == len) (every (fits element) ts) fit).0)
    (item_put (fits element) z ts v (and_parts (count_of ts == len) (every (fits element) ts) fit).1 new)
array_with z len element _ v fit new = cc

sequence_with : (z : ℤ) (bound : ℕ) (element : ShapeTree) (t v : ValueTree) → IsTrue (fits (shape.sequence bound element) t) → IsTrue (fits element v) → IsTrue (fits (shape.sequence bound element) (with_part_by (item z) v t))
sequence_with z bound element (value.sequence ts) v fit new =
    and_from (nat_le (count_of (with_item z v ts)) bound) (every (fits element) (with_item z v ts)) (ap (λ k. nat_le k bound) (item_count z ts v) ∙ (and_parts (nat_le (count_of ts) bound) (every (fits element) ts) fit).0)
    (item_put (fits element) z ts v (and_parts (nat_le (count_of ts) bound) (every (fits element) ts) fit).1 new)
sequence_with z bound element _ v fit new = cc

-- where the step leads somewhere, the value still fits with another part there
with_fits : (step : Step) (s u : ShapeTree) (t old v : ValueTree) → StepTo step s u → part_by step t ≡ Ok old → IsTrue (fits s t) → IsTrue (fits u v) → IsTrue (fits s (with_part_by step v t))
with_fits _ _ _ t old v (to_field n fs s is) there fit new = field_with fs n s t v is fit new
with_fits _ _ _ t old v (to_arm n arms s is) there fit new = choice_with arms n s t old v is there fit new
with_fits _ _ _ t old v (to_item_of_array z len element) there fit new = array_with z len element t v fit new
with_fits _ _ _ t old v (to_item_of_sequence z bound element) there fit new = sequence_with z bound element t v fit new

-- several steps lead from a value of a shape to one of another shape
pub data StepsTo : List Step → ShapeTree → ShapeTree → Type 0 where
  no_steps : (s : ShapeTree) → StepsTo [] s s
  more_steps : (step : Step) (steps : List Step) (s t u : ShapeTree) → StepTo step s t → StepsTo steps t u → StepsTo (step ∷ steps) s u

pub steps_fit : (steps : List Step) (s u : ShapeTree) (t : ValueTree) → StepsTo steps s u → IsTrue (fits s t) → IfOk (part_at steps t) (λ v. IsTrue (fits u v))
steps_fit _ _ _ t (no_steps s) fit = fit
steps_fit _ _ _ t (more_steps step steps s r u to more) fit =
    then_ok (λ v. IsTrue (fits r v)) (λ v. IsTrue (fits u v)) (part_by step t) (part_at steps) (part_fits step s r t to fit) (λ v first. steps_fit steps r u v more first)

-- where the first step leads
put_by : (step : Step) (s r : ShapeTree) (t : ValueTree) (more : ValueTree → ValueTree) (p : Raising ValueTree) → part_by step t ≡ p → StepTo step s r → IsTrue (fits s t) → IfOk p (λ v. IsTrue (fits r v)) → ((v : ValueTree) → IsTrue (fits r v) → IsTrue (fits r (more v)))
    → IsTrue (fits s (put_inside p t (λ inner. with_part_by step (more inner) t)))
put_by step s r t more (Ok inner) there to fit first so = with_fits step s r t inner (more inner) to there fit (so inner first)
put_by step s r t more (Err e) there to fit first so = fit

pub put_fits : (steps : List Step) (s u : ShapeTree) (t new : ValueTree) → StepsTo steps s u → IsTrue (fits s t) → IsTrue (fits u new) → IsTrue (fits s (with_part steps new t))
put_fits _ _ _ t new (no_steps s) fit fits_new = fits_new
put_fits _ _ _ t new (more_steps step steps s r u to more) fit fits_new =
    put_by step s r t (with_part steps new) (part_by step t) refl to fit (part_fits step s r t to fit) (λ v first. put_fits steps r u v new more first fits_new)
