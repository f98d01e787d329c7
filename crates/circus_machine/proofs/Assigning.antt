-- What is stored keeps the variables' shapes, and the state within the limit.
use Rattle.std.proofs.Common.{◌≡◌, ℕ, ℤ, zero, suc, ◌≤◌, Bool, true, false, not, ◌&&◌, ◌||◌, nat_lt, nat_le, IsTrue, IfOk, List, [], ◌∷◌, ◌++◌, take, Some, ok_or, slice_get, slice_set, refl, sym, ap, subst, arith}
use Rattle.std.proofs.lemmas.Bool.{and_parts, and_from, ltb-true, ltb-false, leb-true, le-leb}
use Rattle.std.proofs.lemmas.List.{take-set-le}
use Rattle.circus_value.specs.ValueTree.{ValueTree, ValueTrees, value_trees}
use Rattle.circus_value.specs.ValueTree as value
use Rattle.circus_value.specs.ShapeTree.{ShapeTree}
use Rattle.circus_value.specs.ShapeTree as shape
use Rattle.circus_value.specs.ExternalSize.{external_size, size_of_values}
use Rattle.circus_value.specs.Fits.{fits, every, count_of}
use Rattle.circus_model.specs.declared.language_error.LanguageError.TheVariants.{TooLong, WrongChoice}
use Rattle.circus_checked.specs.declared.kinds.NumberKind.{NumberKind}
use Rattle.circus_checked.specs.declared.kinds.NumberKind.TheVariants as kind
use Rattle.circus_checked.specs.declared.expression.CheckedPlace.{CheckedPlace}
use Rattle.circus_checked.specs.ExpressionTree.{suffix_trees}
use Rattle.circus_checked.specs.Sorts.{sort_of, kind_of, shape_of, Holds, at}
use Rattle.circus_evaluate.specs.Got.{Got, number, whole, Raising, and_then, as_kind, number_of}
use Rattle.circus_evaluate.specs.Parts.{list_of, part_at, with_part}
use Rattle.circus_evaluate.specs.Evaluating.{steps_of}
use Rattle.circus_machine.specs.Storing.{stored_over, as_item, with_more, appended_over, replace_variable, store_at}
use Rattle.circus_evaluate.specs.Typed.{IsGot, Hold}
use Rattle.circus_machine.specs.Typed.{AreWell}
use Rattle.circus_evaluate.proofs.Alike.{some_same}
use Rattle.circus_evaluate.proofs.Fitting.{then_ok, then_any, if_ok, StepsTo, steps_fit, put_fits}
use Rattle.circus_evaluate.proofs.Sound.{kind_fits, value_fits, hold_get, steps_are}

hold_set : (shapes : List ShapeTree) (values : List ValueTree) (n : ℕ) (s : ShapeTree) (t : ValueTree) → Hold shapes values → slice_get shapes n ≡ Some s → IsTrue (fits s t) → Hold shapes (slice_set values n t)
hold_set [] values n s t hold is fit = cc
hold_set (r ∷ shapes) [] n s t hold is fit = absurd hold
hold_set (r ∷ shapes) (u ∷ values) zero s t hold is fit = (subst (λ x. IsTrue (fits x t)) (sym (some_same r s is)) fit, hold.1)
hold_set (r ∷ shapes) (u ∷ values) (suc n) s t hold is fit = (hold.0, hold_set shapes values n s t hold.1 is fit)

module _ (limit states : ℕ) (shapes : List ShapeTree) where
  state_within : (b : Bool) (variables : List ValueTree) (n : ℕ) (t : ValueTree) → nat_lt n states ≡ b → (not b || nat_le (size_of_values (take states (slice_set variables n t))) limit) ≡ true → size_of_values (take states variables) ≤ limit
      → size_of_values (take states (slice_set variables n t)) ≤ limit
  state_within true variables n t inside small within = leb-true _ limit small
  state_within false variables n t outside small within = subst (λ ts. size_of_values ts ≤ limit) (sym (take-set-le states variables n t (ltb-false n states outside))) within

  kept_well : (variables : List ValueTree) (n : ℕ) (s : ShapeTree) (t : ValueTree) → AreWell limit states shapes variables → slice_get shapes n ≡ Some s → IsTrue (fits s t) → IfOk (replace_variable limit states variables n t) (AreWell limit states shapes)
  kept_well variables n s t well is fit =
      let within = nat_le (size_of_values (take states (slice_set variables n t))) limit in
      if_ok (AreWell limit states shapes) (nat_le (external_size t) limit && (not (nat_lt n states) || within)) (slice_set variables n t) TooLong
      (λ holds. record { hold = hold_set shapes variables n s t well.hold is fit; within = state_within (nat_lt n states) variables n t refl (and_parts (nat_le (external_size t) limit) (not (nat_lt n states) || within) holds).1 well.within })

  -- where what is made of an old value fits
  pub stored_well : (variables : List ValueTree) (place : CheckedPlace) (u : ShapeTree) (change : ValueTree → Raising ValueTree) → Holds shapes place u → AreWell limit states shapes variables → ((old : ValueTree) → IsTrue (fits u old) → IfOk (change old) (λ t. IsTrue (fits u t)))
      → IfOk (store_at limit states variables place change) (AreWell limit states shapes)
  stored_well variables _ _ change (at place t u is leads) well so =
      then_ok (λ steps. StepsTo steps t u) (AreWell limit states shapes) (steps_of limit variables (suffix_trees place.suffixes))
      (λ steps. and_then (ok_or (slice_get variables place.variable) WrongChoice) (λ v. and_then (part_at steps v) (λ old. and_then (change old) (λ new. replace_variable limit states variables place.variable (with_part steps new v)))))
      (steps_are limit shapes variables well.hold (suffix_trees place.suffixes) t u leads)
      (λ steps to.
      then_ok (λ v. IsTrue (fits t v)) (AreWell limit states shapes) (ok_or (slice_get variables place.variable) WrongChoice)
      (λ v. and_then (part_at steps v) (λ old. and_then (change old) (λ new. replace_variable limit states variables place.variable (with_part steps new v)))) (hold_get shapes variables place.variable t WrongChoice well.hold is)
      (λ v fit.
      then_ok (λ old. IsTrue (fits u old)) (AreWell limit states shapes) (part_at steps v) (λ old. and_then (change old) (λ new. replace_variable limit states variables place.variable (with_part steps new v))) (steps_fit steps t u v to fit)
      (λ old old_fits.
      then_ok (λ new. IsTrue (fits u new)) (AreWell limit states shapes) (change old) (λ new. replace_variable limit states variables place.variable (with_part steps new v)) (so old old_fits)
      (λ new new_fits. kept_well variables place.variable t (with_part steps new v) well is (put_fits steps t u v new to fit new_fits)))))

-- ---- what is made of an old value

over_number : (u : ShapeTree) (z : ℤ) (old : ValueTree) → IsGot (sort_of u) (number z) → IsTrue (fits u old) → IfOk (stored_over (number z) old) (λ t. IsTrue (fits u t))
over_number shape.cardinal z (value.cardinal n) is fit = kind_fits kind.Cardinal z
over_number shape.cardinal z _ is fit = cc
over_number shape.long_cardinal z (value.long_cardinal n) is fit = kind_fits kind.LongCardinal z
over_number shape.long_cardinal z _ is fit = cc
over_number shape.integer z (value.integer y) is fit = kind_fits kind.Integer z
over_number shape.integer z _ is fit = cc
over_number shape.long_integer z (value.long_integer y) is fit = kind_fits kind.LongInteger z
over_number shape.long_integer z _ is fit = cc
over_number shape.boolean z old is fit = absurd is
over_number shape.text z old is fit = absurd is
over_number (shape.enumeration labels) z old is fit = absurd is
over_number (shape.array len element) z old is fit = absurd is
over_number (shape.sequence bound element) z old is fit = absurd is
over_number (shape.«record» fs) z old is fit = absurd is
over_number (shape.choice arms) z old is fit = absurd is

whole_fits : (u : ShapeTree) (t : ValueTree) → IsGot (sort_of u) (whole t) → IsTrue (fits u t)
whole_fits shape.cardinal t is = absurd is
whole_fits shape.long_cardinal t is = absurd is
whole_fits shape.integer t is = absurd is
whole_fits shape.long_integer t is = absurd is
whole_fits shape.boolean t is = is
whole_fits shape.text t is = is
whole_fits (shape.enumeration labels) t is = is
whole_fits (shape.array len element) t is = is
whole_fits (shape.sequence bound element) t is = is
whole_fits (shape.«record» fs) t is = is
whole_fits (shape.choice arms) t is = is

pub over_fits : (u : ShapeTree) (x : Got) (old : ValueTree) → IsGot (sort_of u) x → IsTrue (fits u old) → IfOk (stored_over x old) (λ t. IsTrue (fits u t))
over_fits u (number z) old is fit = over_number u z old is fit
over_fits u (whole t) old is fit = whole_fits u t is

-- ---- an item more

kind_item : (k : NumberKind) (x : Got) → IfOk (and_then (number_of x) (as_kind k)) (λ t. IsTrue (fits (shape_of k) t))
kind_item k x = then_any (λ t. IsTrue (fits (shape_of k) t)) (number_of x) (as_kind k) (kind_fits k)

item_fits : (s : ShapeTree) (x : Got) → IsGot (sort_of s) x → IfOk (as_item (kind_of s) x) (λ t. IsTrue (fits s t))
item_fits shape.cardinal x is = kind_item kind.Cardinal x
item_fits shape.long_cardinal x is = kind_item kind.LongCardinal x
item_fits shape.integer x is = kind_item kind.Integer x
item_fits shape.long_integer x is = kind_item kind.LongInteger x
item_fits shape.boolean x is = value_fits shape.boolean x is
item_fits shape.text x is = value_fits shape.text x is
item_fits (shape.enumeration labels) x is = value_fits (shape.enumeration labels) x is
item_fits (shape.array len element) x is = value_fits (shape.array len element) x is
item_fits (shape.sequence bound element) x is = value_fits (shape.sequence bound element) x is
item_fits (shape.«record» fs) x is = value_fits (shape.«record» fs) x is
item_fits (shape.choice arms) x is = value_fits (shape.choice arms) x is

last_count : (ts : ValueTrees) (t : ValueTree) → count_of (value_trees (list_of ts ++ t ∷ [])) ≡ suc (count_of ts)
last_count value.none t = refl
last_count (value.more u ts) t = ap (λ n. suc n) (last_count ts t)

last_passes : (p : ValueTree → Bool) (ts : ValueTrees) (t : ValueTree) → IsTrue (every p ts) → IsTrue (p t) → IsTrue (every p (value_trees (list_of ts ++ t ∷ [])))
last_passes p value.none t all new = and_from (p t) true new refl
last_passes p (value.more u ts) t all new =
    and_from (p u) (every p (value_trees (list_of ts ++ t ∷ []))) (and_parts (p u) (every p ts) all).0 (last_passes p ts t (and_parts (p u) (every p ts) all).1 new)

more_fits : (bound : ℕ) (s : ShapeTree) (t old : ValueTree) → IsTrue (fits s t) → IsTrue (fits (shape.sequence bound s) old) → IfOk (with_more bound t old) (λ v. IsTrue (fits (shape.sequence bound s) v))
more_fits bound s t (value.sequence ts) new fit =
    let all = value_trees (list_of ts ++ t ∷ []) in
    if_ok (λ v. IsTrue (fits (shape.sequence bound s) v)) (nat_lt (count_of ts) bound) (value.sequence all) TooLong
    (λ few. and_from (nat_le (count_of all) bound) (every (fits s) all) (le-leb (count_of all) bound (omega (arith, last_count ts t, ltb-true (count_of ts) bound few))) (last_passes (fits s) ts t (and_parts (nat_le (count_of ts) bound) (every (fits s) ts) fit).1 new))
more_fits bound s t _ new fit = cc

pub append_fits : (bound : ℕ) (s : ShapeTree) (x : Got) (old : ValueTree) → IsGot (sort_of s) x → IsTrue (fits (shape.sequence bound s) old) → IfOk (appended_over bound (kind_of s) x old) (λ v. IsTrue (fits (shape.sequence bound s) v))
append_fits bound s x old is fit =
    then_ok (λ t. IsTrue (fits s t)) (λ v. IsTrue (fits (shape.sequence bound s) v)) (as_item (kind_of s) x) (λ t. with_more bound t old) (item_fits s x is) (λ t new. more_fits bound s t old new fit)
