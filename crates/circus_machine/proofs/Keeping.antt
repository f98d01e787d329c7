-- When a new value of a variable is kept, and what the sizes are then.
use Rattle.std.proofs.Common.{◌≡◌, ℕ, zero, suc, ◌+◌, ◌<◌, ◌≤◌, min, Bool, true, false, not, ◌&&◌, ◌||◌, nat_lt, nat_le, if◌then◌else◌, List, [], ◌∷◌, All, length, map, take, Some, Result, Ok, Err, IsErr, IsErrAnd, ok_or, slice_get, slice_set, slice_index_or, inl, inr, refl, sym, ap, subst, ◌∙◌, arith}
use Rattle.std.proofs.Math.Nat.{min-le_left, min-eq_left, min-eq_right}
use Rattle.std.proofs.lemmas.Bool.{le-leb, lt-leb, lt-ltb, ltb-true}
use Rattle.std.proofs.lemmas.Bool.Decides.{leb_tells}
use Rattle.std.proofs.lemmas.List.{map-set, take-set-le, length-map}
use Rattle.std.proofs.lemmas.Option.{slice_get_within}
use Rattle.std.proofs.lemmas.List.Elements.{All-set}
use Rattle.circus_value.specs.ValueTree.{ValueTree}
use Rattle.circus_value.specs.ExternalSize.{external_size, size_of_values}
use Rattle.circus_model.specs.declared.language_error.LanguageError.{LanguageError}
use Rattle.circus_model.specs.declared.language_error.LanguageError.TheVariants.{TooLong, WrongChoice}
use Rattle.circus_checked.specs.declared.expression.CheckedPlace.{CheckedPlace}
use Rattle.circus_checked.specs.ExpressionTree.{suffix_trees}
use Rattle.circus_evaluate.specs.Got.{Raising, and_then}
use Rattle.circus_evaluate.specs.Parts.{Step, part_at, with_part}
use Rattle.circus_evaluate.specs.Evaluating.{steps_of}
use Rattle.circus_machine.specs.Storing.{replace_variable, store_at}
use Rattle.circus_machine.specs.Seen.Changing.{AreSized, Resized, Changed}
use Rattle.circus_evaluate.specs.Putting.{put_over, with_put_item, item_put, grows_by, shrinks_by}
use Rattle.circus_evaluate.specs.declared.part.Put.{Put}
use Rattle.circus_evaluate.specs.declared.part.Put.TheVariants.{Whole, More}
use Rattle.circus_machine.specs.declared.store.Sizes.{Sizes}
use Rattle.circus_evaluate.specs.declared.got.NoValue.{NoValue}
use Rattle.circus_evaluate.specs.declared.got.NoValue.TheVariants.{Raises}
use Rattle.circus_machine.specs.declared.store.Variables.{Variables}
use Rattle.circus_evaluate.proofs.Alike.{some_same, handed_on}
use Rattle.circus_evaluate.proofs.PartSizes.{state_size, found, part_within, put_is, put_size}

-- ---- what is kept

kept_by : (small inside within : Bool) (values : List ValueTree) → small ≡ true → (inside ≡ true → within ≡ true)
    → (if small && (not inside || within) then Ok values else Err TooLong) ≡ Ok values
kept_by true true within values small state = ap (λ b. if b then Ok values else Err TooLong) (state refl)
kept_by true false within values small state = refl
kept_by false inside within values small state = cc

state_too_great_by : (small inside within : Bool) (values : List ValueTree) → inside ≡ true → within ≡ false
    → (if small && (not inside || within) then Ok values else Err TooLong) ≡ Err TooLong
state_too_great_by true true true values there great = cc
state_too_great_by true true false values there great = refl
state_too_great_by true false within values there great = cc
state_too_great_by false inside within values there great = refl

module _ (limit states : ℕ) (values : List ValueTree) (n : ℕ) (w : ValueTree) where
  is_kept : external_size w ≤ limit → (n < states → size_of_values (take states (slice_set values n w)) ≤ limit) → replace_variable limit states values n w ≡ Ok (slice_set values n w)
  is_kept small within =
      kept_by (nat_le (external_size w) limit) (nat_lt n states) (nat_le (size_of_values (take states (slice_set values n w))) limit) (slice_set values n w)
      (le-leb (external_size w) limit small) (λ inside. le-leb (size_of_values (take states (slice_set values n w))) limit (within (ltb-true n states inside)))

  state_is_too_great : n < states → limit < size_of_values (take states (slice_set values n w)) → replace_variable limit states values n w ≡ Err TooLong
  state_is_too_great inside great =
      state_too_great_by (nat_le (external_size w) limit) (nat_lt n states) (nat_le (size_of_values (take states (slice_set values n w))) limit) (slice_set values n w)
      (lt-ltb n states inside) (lt-leb (size_of_values (take states (slice_set values n w))) limit great)

-- ---- sizes

mapped : (ts : List ValueTree) (n : ℕ) (t : ValueTree) → slice_get ts n ≡ Some t → slice_index_or (map external_size ts) n 0 ≡ external_size t
mapped [] n t is = cc
mapped (u ∷ ts) zero t is = let same : u ≡ t = cc in ap external_size same
mapped (u ∷ ts) (suc n) t is = mapped ts n t is

pub size_there : (ts : List ValueTree) (n : ℕ) (t : ValueTree) (sizes : List ℕ) → sizes ≡ map external_size ts → slice_get ts n ≡ Some t → slice_index_or sizes n 0 ≡ external_size t
size_there ts n t sizes are is = ap (λ xs. slice_index_or xs n 0) are ∙ mapped ts n t is

-- a number that is cut at another one
module _ (most g grows : ℕ) (is : grows ≡ min g most) where
  at_most : grows ≤ g
  at_most = subst (λ n. n ≤ g) (sym is) (min-le_left g most)

  exact : grows < most → grows ≡ g
  exact few = elim (leb_tells g most) [
    | inl p ↦ is ∙ min-eq_left p.1
    | inr p ↦ absurd (omega (arith, few, is, min-eq_right {n = most} {m = g} (omega (arith, p.1))))
  ]

module _ (limit most : ℕ) (v : Variables) (index grows g shrinks : ℕ) (t w : ValueTree) (sized : AreSized v) (cut : grows ≡ min g most) (there : slice_get v.values index ≡ Some t)
    (same : external_size w + shrinks ≡ external_size t + g) where
  pub state_too_great : index < v.states → limit + shrinks < v.state_size + grows → replace_variable limit v.states v.values index w ≡ Err TooLong
  state_too_great inside great =
      state_is_too_great limit v.states v.values index w inside (omega (arith, great, sized.state, state_size v.values index v.states t w inside there, at_most most g grows cut, same))

  module _ (size : ℕ) (is : size + shrinks ≡ slice_index_or v.sizes index 0 + grows) (small : size ≤ limit) (few : limit + shrinks < most) (short : limit < 4294967296) where
    grows_so : grows ≡ g
    grows_so = exact most g grows cut (omega (arith, is, small, few))

    size_is : external_size w ≡ size
    size_is = omega (arith, is, grows_so, size_there v.values index t v.sizes sized.each there, same)

    sizes_are : slice_set v.sizes index size ≡ map external_size (slice_set v.values index w)
    sizes_are = ap (λ xs. slice_set xs index size) sized.each ∙ ap (slice_set (map external_size v.values) index) (sym size_is) ∙ sym (map-set external_size v.values index w)

    all_small : All (λ n. n < 4294967296) (slice_set v.sizes index size)
    all_small = All-set (λ n. n < 4294967296) v.sizes index size (omega (arith, small, short)) sized.small

    pub state_kept : (state : ℕ) → index < v.states → state + shrinks ≡ v.state_size + grows → state ≤ limit
        → (replace_variable limit v.states v.values index w ≡ Ok (slice_set v.values index w)) × AreSized (record { values = slice_set v.values index w; states = v.states; sizes = slice_set v.sizes index size; state_size = state })
    state_kept state inside was within =
        let state_is : state ≡ size_of_values (take v.states (slice_set v.values index w)) = omega (arith, was, sized.state, state_size v.values index v.states t w inside there, grows_so, same) in (
          is_kept limit v.states v.values index w (omega (arith, size_is, small)) (λ _. omega (arith, state_is, within)),
          record { each = sizes_are; state = state_is; small = all_small; small_state = omega (arith, within, short) },
        )

    pub other_kept : v.states ≤ index
        → (replace_variable limit v.states v.values index w ≡ Ok (slice_set v.values index w)) × AreSized (record { values = slice_set v.values index w; states = v.states; sizes = slice_set v.sizes index size; state_size = v.state_size })
    other_kept outside = (
      is_kept limit v.states v.values index w (omega (arith, size_is, small)) (λ inside. absurd (omega (arith, inside, outside))),
      record { each = sizes_are; state = sized.state ∙ ap size_of_values (sym (take-set-le v.states v.values index w outside)); small = all_small; small_state = sized.small_state },
    )

-- ---- what is stored

module _ (limit states : ℕ) (values : List ValueTree) (place : CheckedPlace) (index : ℕ) (change : ValueTree → Raising ValueTree) (steps : List Step) (t old new : ValueTree)
    (at : index ≡ place.variable) (are : steps_of limit values (suffix_trees place.suffixes) ≡ Ok steps) (there : ok_or (slice_get values index) WrongChoice ≡ Ok t) (part : part_at steps t ≡ Ok old) (made : change old ≡ Ok new) where
  -- by the value that is made
  pub stored_is : store_at limit states values place change ≡ replace_variable limit states values index (with_part steps new t)
  stored_is =
      ap (λ i. and_then (steps_of limit values (suffix_trees place.suffixes)) (λ ss. and_then (ok_or (slice_get values i) WrongChoice) (λ u. and_then (part_at ss u) (λ o. and_then (change o) (λ n. replace_variable limit states values i (with_part ss n u)))))) (sym at)
      ∙ ap (λ r. and_then r (λ ss. and_then (ok_or (slice_get values index) WrongChoice) (λ u. and_then (part_at ss u) (λ o. and_then (change o) (λ n. replace_variable limit states values index (with_part ss n u)))))) are
      ∙ ap (λ r. and_then r (λ u. and_then (part_at steps u) (λ o. and_then (change o) (λ n. replace_variable limit states values index (with_part steps n u))))) there
      ∙ ap (λ r. and_then r (λ o. and_then (change o) (λ n. replace_variable limit states values index (with_part steps n t)))) part
      ∙ ap (λ r. and_then r (λ n. replace_variable limit states values index (with_part steps n t))) made

pub small_variable : (v : Variables) (index : ℕ) (t : ValueTree) → AreSized v → slice_get v.values index ≡ Some t → external_size t < 4294967296
small_variable v index t sized there =
    subst (λ n. n < 4294967296) (size_there v.values index t v.sizes sized.each there)
    (sized.small index 0 (omega (arith, slice_get_within v.values index t there, ap length sized.each, length-map v.values external_size)))

-- ---- what is put

shrinks_less : (put : Put) (old : ValueTree) → shrinks_by put old ≤ external_size old
shrinks_less (Whole value) old = omega arith
shrinks_less (More value) old = omega arith

module _ (limit most : ℕ) (v : Variables) (index : ℕ) (change : ValueTree → Raising ValueTree) (steps : List Step) (t old : ValueTree) (put : Put) (sized : AreSized v)
    (there : ok_or (slice_get v.values index) WrongChoice ≡ Ok t) (part : part_at steps t ≡ Ok old) (made : change old ≡ Ok (put_over put old))
    (grown : external_size (put_over put old) + shrinks_by put old ≡ external_size old + grows_by put) (great : 4294967296 ≤ most) where
  stands : slice_get v.values index ≡ Some t
  stands = found (slice_get v.values index) WrongChoice t there

  pub variable_within : index < length v.values
  variable_within = slice_get_within v.values index t stands

  small_part : shrinks_by put old ≤ external_size t
  small_part = omega (arith, shrinks_less put old, part_within steps t old part)

  module _ (shrinks : ℕ) (cut : shrinks ≡ min (shrinks_by put old) most) where
    shrinks_so : shrinks ≡ shrinks_by put old
    shrinks_so = cut ∙ min-eq_left (omega (arith, small_part, small_variable v index t sized stands, great))

    pub shrinks_within : (u : ValueTree) → slice_get v.values index ≡ Some u → shrinks ≤ external_size u
    shrinks_within u is = let same : t ≡ u = some_same t u (sym stands ∙ is) in omega (arith, shrinks_so, small_part, ap external_size same)

    module _ (grows : ℕ) (by : grows ≡ min (grows_by put) most) (r : Result Sizes LanguageError)
        (resized : (g : ℕ) (u w : ValueTree) → grows ≡ min g most → slice_get v.values index ≡ Some u → external_size w + shrinks ≡ external_size u + g → Resized limit v index w r) where
      pub resized_whole : Resized limit v index (with_part steps (put_over put old) t) r
      resized_whole = resized (grows_by put) t (with_part steps (put_over put old) t) by stands (omega (arith, put_size steps put t old part grown, shrinks_so))

    pub put_there : with_put_item steps put index v.values ≡ slice_set v.values index (with_part steps (put_over put old) t)
    put_there = ap (item_put steps put index v.values) stands ∙ ap (slice_set v.values index) (put_is steps put t old part)

-- an error was raised that is meant
pub raised : (r : Result (Unit {0}) NoValue) (meant : Raising (List ValueTree)) (v : Variables) (e : LanguageError) → IsErr r × IsErrAnd r (λ f. f ≡ Raises e) → meant ≡ Err e → Changed r meant v v
raised r meant v e p same = rw (handed_on r (Raises e) p) (same, refl)

pub too_great : (r : Result Sizes LanguageError) (limit : ℕ) (v : Variables) (index : ℕ) (w : ValueTree) (e : LanguageError) → IsErr r × IsErrAnd r (λ f. f ≡ e) → e ≡ TooLong → replace_variable limit v.states v.values index w ≡ Err TooLong → Resized limit v index w r
too_great r limit v index w e p long is = rw (handed_on r e p, long) is

-- what is true of the value that is there
pub part_of_state : (ts : List ValueTree) (n states shrinks : ℕ) → n < length ts → n < states → ((t : ValueTree) → slice_get ts n ≡ Some t → shrinks ≤ external_size t) → shrinks ≤ size_of_values (take states ts)
part_of_state [] n states shrinks there few each = absurd (omega (arith, there))
part_of_state (t ∷ ts) n zero shrinks there few each = absurd (omega (arith, few))
part_of_state (t ∷ ts) zero (suc states) shrinks there few each = omega (arith, each t refl)
part_of_state (t ∷ ts) (suc n) (suc states) shrinks there few each = omega (arith, part_of_state ts n states shrinks (omega (arith, there)) (omega (arith, few)) each)
