-- Whole types: what is found with sizes that stop above their limits, and what has no fault.
use Rattle.std.proofs.Common.{◌≡◌, ℕ, ◌+◌, ◌*◌, ◌<◌, ◌≤◌, ◌⊎◌, inl, inr, Bool, true, false, ◌&&◌, not, min, List, [], ◌++◌, ◌∙◌, sym, ap, arith, Option, None}
use Rattle.std.specs.Prelude.{nat_lt, ◌||◌}
use Rattle.std.proofs.lemmas.Bool.{cases_lt, lt-ltb, le-ltb, ltb-false, or_parts}
use Rattle.circus_value.specs.ShapeTree.{ShapeTree}
use Rattle.circus_syntax.specs.declared.named.TypeName.{TypeName}
use Rattle.circus_syntax.specs.Spelling.{IsType, most_levels}
use Rattle.circus_syntax.specs.TypeTree.{TypeTree, type_place}
use Rattle.circus_fault.specs.declared.fault.Fault.{Fault}
use Rattle.circus_fault.specs.Least.{faults_if, is_clean}
use Rattle.circus_fault.proofs.Items.{none_in}
use Rattle.circus_type.specs.declared.cause.TypeCause.{TypeCause}
use Rattle.circus_type.specs.declared.cause.TypeCause.TheVariants.{TooLarge}
use Rattle.circus_type.specs.declared.measuring.Measure.{Measure}
use Rattle.circus_type.specs.Limits.{most_parts, most_zero_bytes}
use Rattle.circus_type.specs.Written.{levels, parts, zero_size}
use Rattle.circus_type.specs.Meaning.{shape_of_type}
use Rattle.circus_type.specs.Scale.{is_large, written_out}
use Rattle.circus_type.specs.Inside.{inside}
use Rattle.circus_type.specs.Whole.{is_place, whole_faults}
use Rattle.circus_type.specs.Obeys.{ObeysInside, ObeysWhole}
use Rattle.circus_type.specs.Seen.Measured.{measure_of, measure_of_type, more_parts, is_over, cut_off}
use Rattle.circus_type.proofs.Sizes.{stopped_times, measured_is}
use Rattle.circus_fault.proofs.NoFaults.{no_fault}
use Rattle.circus_type.proofs.InsideObeys.{inside_obeys}

-- a number is above a limit where it is so once it is cut off there
pub above_cut : (limit n : ℕ) → nat_lt limit (min n (1 + limit)) ≡ nat_lt limit n
above_cut limit n = by_order (cases_lt limit n)
  where
    by_order : (limit < n) ⊎ (n ≤ limit) → nat_lt limit (min n (1 + limit)) ≡ nat_lt limit n
    by_order (inl over) = lt-ltb limit (min n (1 + limit)) (omega arith) ∙ sym (lt-ltb limit n over)
    by_order (inr within) = le-ltb limit (min n (1 + limit)) (omega arith) ∙ sym (le-ltb limit n within)

pub over_cut : (so_far : ℕ) (s : ShapeTree) → is_over (min so_far (1 + most_parts)) (measure_of s) ≡ is_large so_far s
over_cut so_far s = λ i. above_cut most_zero_bytes (zero_size s) i || above_cut most_levels (levels s) i || above_cut most_parts so_far i

parts_cut : (so_far n : ℕ) (s : ShapeTree) → more_parts (min so_far (1 + most_parts)) n (measure_of s) ≡ min (so_far + n * parts s) (1 + most_parts)
parts_cut so_far n s = omega (arith, stopped_times 16385 n (parts s))

-- the sizes of these forms
abbrev pub sizes_of : (TypeName → ShapeTree) → TypeName → Measure
sizes_of forms n = measure_of (forms n)

-- the parts with those of so many more types
pub with_type : (forms : TypeName → ShapeTree) (so_far n : ℕ) (t : TypeTree) → more_parts (min so_far (1 + most_parts)) n (measure_of_type (sizes_of forms) t) ≡ min (so_far + n * parts (shape_of_type forms t)) (1 + most_parts)
with_type forms so_far n t = ap (more_parts (min so_far (1 + most_parts)) n) (measured_is forms t) ∙ parts_cut so_far n (shape_of_type forms t)

-- what is tested where there is no other fault
pub tested : (a b : Bool) → a ≡ true → (a && true && b) ≡ false → b ≡ false
tested true b is holds = holds
tested false b is holds = absurd (cc)

pub clean_none : {C : Type 0} (fs : List (Fault C)) → fs ≡ [] → is_clean fs ≡ true
clean_none fs none = ap is_clean none

record IsSmall (counted : ℕ) (s : ShapeTree) : Type 0 where
  zeros : zero_size s ≤ most_zero_bytes
  levels : levels s ≤ most_levels
  parts : counted ≤ most_parts

not_large : (counted : ℕ) (s : ShapeTree) → is_large counted s ≡ false → IsSmall counted s
not_large counted s is =
    let (two, few) = or_parts (nat_lt most_zero_bytes (zero_size s) || nat_lt most_levels (levels s)) (nat_lt most_parts counted) is in
    let (small, shallow) = or_parts (nat_lt most_zero_bytes (zero_size s)) (nat_lt most_levels (levels s)) two in
    record { zeros = ltb-false most_zero_bytes (zero_size s) small; levels = ltb-false most_levels (levels s) shallow; parts = ltb-false most_parts counted few }

module _ {C : Type 0} (embed : TypeCause → C) (unknown : TypeName → Option ℕ) (form : TypeName → ShapeTree) where
  pub whole_cut : (within : Option ℕ) (so_far n : ℕ) (t : TypeTree) → whole_faults embed cut_off unknown (sizes_of form) within (min so_far (1 + most_parts)) n t ≡ whole_faults embed written_out unknown form within so_far n t
  whole_cut within so_far n t =
      let s = shape_of_type form t in
      let over = (λ i. is_over (with_type form so_far n t i) (measured_is form t i)) ∙ over_cut (so_far + n * parts s) s in
      ap (λ b. inside embed unknown t ++ faults_if (is_clean (inside embed unknown t) && not (is_place (type_place t) within) && b) (type_place t) (embed TooLarge)) over

  -- where the names that are known stand for shapes in which no rule is broken, a whole type that so many names share
  pub whole_obeys : (known : (n : TypeName) → unknown n ≡ None → ObeysInside (form n)) (before n : ℕ) (t : TypeTree) → IsType t → whole_faults embed written_out unknown form None before n t ≡ []
      → (inside embed unknown t ≡ []) × ObeysWhole (shape_of_type form t) × (before + n * parts (shape_of_type form t) ≤ most_parts)
  whole_obeys known before n t good clean =
      let (none, large) = none_in (inside embed unknown t) _ clean in
      let fits = tested (is_clean (inside embed unknown t)) _ (clean_none (inside embed unknown t) none) (no_fault _ _ _ large) in
      let small = not_large (before + n * parts (shape_of_type form t)) (shape_of_type form t) fits in
      (none, record { inside = inside_obeys embed unknown form known t good none; small = small.zeros; shallow = small.levels }, small.parts)
