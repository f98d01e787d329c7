-- Variables in which nothing is wrong.
use Rattle.std.proofs.Common.{◌≡◌, ℕ, ◌+◌, ◌*◌, ◌≤◌, Bool, true, false, ◌&&◌, List, [], ◌∷◌, ◌++◌, length, refl, ◌∙◌, ap, arith, Option, None}
use Rattle.std.specs.List.{AllByRecursion}
use Rattle.std.specs.Prelude.{nat_lt, ◌||◌}
use Rattle.std.proofs.lemmas.Bool.{ltb-false, or_parts}
use Rattle.std.proofs.lemmas.List.{length-map}
use Rattle.std.proofs.lemmas.List.Sums.{sum_by-cons}
use Rattle.circus_value.specs.ShapeTree.{ShapeTree, FieldTree}
use Rattle.circus_syntax.specs.declared.named.TypeName.{TypeName}
use Rattle.circus_syntax.specs.Spelling.{IsEach, most_levels}
use Rattle.circus_syntax.specs.TypeTree.{TypeTree}
use Rattle.circus_fault.specs.Least.{is_clean}
use Rattle.circus_fault.proofs.Items.{none_in}
use Rattle.circus_type.specs.Distinct.{AreDistinct}
use Rattle.circus_type.specs.Inside.{also_name, repeated_name, inside}
use Rattle.circus_type.specs.Limits.{most_parts, most_zero_bytes}
use Rattle.circus_type.specs.Meaning.{shape_of_type}
use Rattle.circus_type.specs.Obeys.{ObeysInside, ObeysWhole}
use Rattle.circus_type.specs.Scale.{Scale, written_out}
use Rattle.circus_type.specs.Together.{shapes_of, names_of, parts_of, zero_size_of}
use Rattle.circus_type.specs.Whole.{whole_faults}
use Rattle.circus_type.specs.Written.{levels, parts, zero_size}
use Rattle.circus_fault.proofs.NoFaults.{no_fault}
use Rattle.circus_type.proofs.NoFaults.{names_apart}
use Rattle.circus_type.proofs.InsideInRange.{in_range}
use Rattle.circus_type.proofs.WholeTypes.{tested, whole_obeys, clean_none}
use Rattle.circus_resolve.specs.Causes.{of_type}
use Rattle.circus_resolve.specs.Faults.{Faults}
use Rattle.circus_lang.specs.ModuleTree.{ModuleTree, VariableTree}
use Rattle.circus_lang.specs.WrittenModule.{IsVariable}
use Rattle.circus_check.specs.InRange.{AreVariablesInRange}
use Rattle.circus_check.proofs.Interfaces.{as_many_parts}
use Rattle.circus_check.specs.Faults.{variables_faults, variables_parts, plain_faults, fields_of, state_faults}

pub both_none : (xs ys : Faults) → xs ≡ [] → ys ≡ [] → xs ++ ys ≡ []
both_none xs ys a b = ap (λ zs. zs ++ ys) a ∙ b

-- what its parts come to
pub parts_counted : (forms : TypeName → ShapeTree) (before : ℕ) (vs : List VariableTree) → variables_parts written_out forms before vs ≡ before + parts_of (shapes_of (fields_of forms vs))
parts_counted forms before [] = omega arith
parts_counted forms before (v ∷ vs) =
    omega (arith, parts_counted forms (before + 1 * parts (shape_of_type forms v.shape)) vs, sum_by-cons parts (shape_of_type forms v.shape) (shapes_of (fields_of forms vs)))

-- as many fields as variables
pub many_fields : (forms : TypeName → ShapeTree) (vs : List VariableTree) → length (fields_of forms vs) ≡ length vs
many_fields forms vs = length-map vs (λ (v : VariableTree). record { name = v.name.name; shape = shape_of_type forms v.shape })

-- there are no more of them than of their parts
pub as_many_variables : (forms : TypeName → ShapeTree) (before : ℕ) (vs : List VariableTree) → before + length vs ≤ variables_parts written_out forms before vs
as_many_variables forms before vs =
    let fields = fields_of forms vs in
    omega (
      arith,
      parts_counted forms before vs,
      as_many_parts (shapes_of fields),
      length-map fields (λ (f : FieldTree). f.shape),
      many_fields forms vs,
    )

-- variables without a fault have no number that is out of range
pub variables_in_range : {S : Type 0} (scale : Scale S) (unknown : TypeName → Option ℕ) (sizes : TypeName → S) (before : ℕ) (earlier : List ℕ → Bool) (vs : List VariableTree) → variables_faults scale unknown sizes before earlier vs ≡ [] → AreVariablesInRange vs
variables_in_range scale unknown sizes before earlier [] none = tt
variables_in_range scale unknown sizes before earlier (v ∷ vs) none =
    let repeated = repeated_name of_type earlier v.name in
    let faults = whole_faults of_type scale unknown sizes None before 1 v.shape in
    let (front, rest) = none_in (repeated ++ faults) _ none in (
      in_range of_type unknown v.shape (none_in (inside of_type unknown v.shape) _ (none_in repeated faults front).1).0,
      variables_in_range scale unknown sizes (scale.parts_with before 1 (scale.of_type sizes v.shape)) (also_name v.name.name earlier) vs rest,
    )

module _ (unknown : TypeName → Option ℕ) (forms : TypeName → ShapeTree) where
  whole_few : (before : ℕ) (t : TypeTree) → whole_faults of_type written_out unknown forms None before 1 t ≡ [] → before + 1 * parts (shape_of_type forms t) ≤ most_parts
  whole_few before t clean =
      let s = shape_of_type forms t in
      let counted = before + 1 * parts s in
      let (none, large) = none_in (inside of_type unknown t) _ clean in
      let fits = tested (is_clean (inside of_type unknown t)) _ (clean_none (inside of_type unknown t) none) (no_fault _ _ _ large) in
      ltb-false most_parts counted (or_parts (nat_lt most_zero_bytes (zero_size s) || nat_lt most_levels (levels s)) (nat_lt most_parts counted) fits).1

  -- variables without a fault have few parts, and are no more than these
  pub variables_few : (before : ℕ) (earlier : List ℕ → Bool) (vs : List VariableTree) → variables_faults written_out unknown forms before earlier vs ≡ [] → before ≤ most_parts → variables_parts written_out forms before vs ≤ most_parts
  variables_few before earlier [] none few = few
  variables_few before earlier (v ∷ vs) none few =
      let repeated = repeated_name of_type earlier v.name in
      let faults = whole_faults of_type written_out unknown forms None before 1 v.shape in
      let (front, rest) = none_in (repeated ++ faults) _ none in
      variables_few (before + 1 * parts (shape_of_type forms v.shape)) (also_name v.name.name earlier) vs rest (whole_few before v.shape (none_in repeated faults front).1)

  -- variables behind earlier names and so many parts
  pub record AreClean (before : ℕ) (earlier : List ℕ → Bool) (vs : List VariableTree) : Type 0 where
    pub fresh : AllByRecursion (λ n. earlier n ≡ false) (names_of (fields_of forms vs))
    pub distinct : AreDistinct (names_of (fields_of forms vs))
    pub whole : AllByRecursion ObeysWhole (shapes_of (fields_of forms vs))
    pub plain : plain_faults unknown earlier vs ≡ []
    pub few : before ≤ most_parts → variables_parts written_out forms before vs ≤ most_parts

  pub are_clean : ((n : TypeName) → unknown n ≡ None → ObeysInside (forms n)) → (before : ℕ) (earlier : List ℕ → Bool) (vs : List VariableTree) → IsEach IsVariable vs
      → variables_faults written_out unknown forms before earlier vs ≡ [] → AreClean before earlier vs
  are_clean known before earlier [] good none = record { fresh = tt; distinct = tt; whole = tt; plain = refl; few = λ h. h }
  are_clean known before earlier (v ∷ vs) good none =
      let repeated = repeated_name of_type earlier v.name in
      let faults = whole_faults of_type written_out unknown forms None before 1 v.shape in
      let (front, rest) = none_in (repeated ++ faults) _ none in
      let (own, whole) = none_in repeated faults front in
      let (none_inside, obeys, small) = whole_obeys of_type unknown forms known before 1 v.shape good.0.1 whole in
      let others = are_clean known (before + 1 * parts (shape_of_type forms v.shape)) (also_name v.name.name earlier) vs good.1 rest in
      let (early, apart) = names_apart earlier v.name.name (names_of (fields_of forms vs)) others.fresh in
      record {
        fresh = (no_fault _ _ _ own, early);
        distinct = (apart, others.distinct);
        whole = (obeys, others.whole);
        plain = both_none (repeated ++ inside of_type unknown v.shape) _ (both_none repeated (inside of_type unknown v.shape) own none_inside) others.plain;
        few = λ h. others.few small;
      }

  not_both : (a b : Bool) → a ≡ true → (a && b) ≡ false → b ≡ false
  not_both true b is holds = holds
  not_both false b is holds = absurd (cc)

  -- the zero value of a state
  pub state_small : (earlier : List ℕ → Bool) (m : ModuleTree) → plain_faults unknown earlier m.variables ≡ [] → state_faults unknown forms earlier m ≡ [] → zero_size_of (fields_of forms m.variables) ≤ most_zero_bytes
  state_small earlier m plain none =
      ltb-false most_zero_bytes (zero_size_of (fields_of forms m.variables)) (not_both (is_clean (plain_faults unknown earlier m.variables)) _ (clean_none _ plain) (no_fault _ _ _ none))
