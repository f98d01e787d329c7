-- Interfaces that obey the rules: their types and the arguments of their procedures.
use Rattle.std.proofs.Common.{◌≡◌, ℕ, ◌+◌, ◌≤◌, List, [], ◌∷◌, ◌++◌, length, map, ap, arith, ◌⊎◌, inl, inr}
use Rattle.std.specs.Prelude.{Contains}
use Rattle.std.specs.List.{AllByRecursion, flat_map}
use Rattle.std.proofs.lemmas.List.{length-map}
use Rattle.std.proofs.lemmas.List.Sums.{sum_by-cons, sum_by-append}
use Rattle.circus_value.specs.ShapeTree.{ShapeTree, FieldTree, boolean, cardinal, long_cardinal, integer, long_integer, text, enumeration, array, sequence, «record», choice}
use Rattle.circus_value.specs.ShapeOf.{tree_of}
use Rattle.circus_fault.proofs.Items.{of_each}
use Rattle.circus_type.specs.Distinct.{AreDistinct}
use Rattle.circus_type.specs.Limits.{most_parts}
use Rattle.circus_type.specs.Obeys.{ObeysInside, ObeysWhole}
use Rattle.circus_type.specs.Together.{shapes_of, names_of, parts_of}
use Rattle.circus_type.specs.Written.{parts}
use Rattle.circus_idl.specs.declared.interface.DeclaredType.{DeclaredType}
use Rattle.circus_idl.specs.declared.interface.DeclaredError.{DeclaredError}
use Rattle.circus_idl.specs.declared.interface.Procedure.{Procedure}
use Rattle.circus_idl.specs.declared.interface.Interface.{Interface}
use Rattle.circus_idl.specs.Obeys.{Obeys}
use Rattle.circus_idl.specs.Whole.{whole_types}
use Rattle.circus_idl.proofs.ObeysParts.{parts_obey}
use Rattle.circus_check.proofs.Declared.{contains_cases}
use Rattle.circus_check.proofs.InOrder.{procedure_names}

-- a shape in which no rule is broken, of no more parts than there may be
pub record Fits (s : ShapeTree) : Type 0 where
  pub inside : ObeysInside s
  pub few : parts s ≤ most_parts

-- of shapes that obey, where their parts together are so few
pub all_fit : (ss : List ShapeTree) → AllByRecursion ObeysWhole ss → parts_of ss ≤ most_parts → AllByRecursion Fits ss
all_fit [] whole few = tt
all_fit (s ∷ ss) whole few =
    let sum = sum_by-cons parts s ss in
    (record { inside = whole.0.inside; few = omega (arith, sum, few) }, all_fit ss whole.1 (omega (arith, sum, few)))

-- each shape has a part
some_part : (s : ShapeTree) → 1 ≤ parts s
some_part boolean = omega arith
some_part cardinal = omega arith
some_part long_cardinal = omega arith
some_part integer = omega arith
some_part long_integer = omega arith
some_part text = omega arith
some_part (enumeration labels) = omega arith
some_part (array _ s) = omega arith
some_part (sequence _ s) = omega arith
some_part («record» fs) = omega arith
some_part (choice arms) = omega arith

pub as_many_parts : (ss : List ShapeTree) → length ss ≤ parts_of ss
as_many_parts [] = omega arith
as_many_parts (s ∷ ss) = omega (arith, sum_by-cons parts s ss, some_part s, as_many_parts ss)

mapped_within : {X : Type 0} (f : X → ShapeTree) (xs : List X) (x : X) → Contains xs x → parts (f x) ≤ parts_of (map f xs)
mapped_within f [] x (k, below, is) = absurd (omega arith)
mapped_within {X} f (y ∷ ys) x there = by (contains_cases y ys x there) (λ later. mapped_within f ys x later)
  where
    by : (y ≡ x) ⊎ Contains ys x → (Contains ys x → parts (f x) ≤ parts_of (map f ys)) → parts (f x) ≤ parts_of (map f (y ∷ ys))
    by (inl same) others = omega (arith, ap (λ (z : X). parts (f z)) same, sum_by-cons parts (f y) (map f ys))
    by (inr later) others = omega (arith, others later, sum_by-cons parts (f y) (map f ys))

flat_within : {X : Type 0} (f : X → List ShapeTree) (xs : List X) (x : X) → Contains xs x → parts_of (f x) ≤ parts_of (flat_map f xs)
flat_within f [] x (k, below, is) = absurd (omega arith)
flat_within {X} f (y ∷ ys) x there = by (contains_cases y ys x there) (λ later. flat_within f ys x later)
  where
    by : (y ≡ x) ⊎ Contains ys x → (Contains ys x → parts_of (f x) ≤ parts_of (flat_map f ys)) → parts_of (f x) ≤ parts_of (f y ++ flat_map f ys)
    by (inl same) others = omega (arith, ap (λ (z : X). parts_of (f z)) same, sum_by-append parts (f y) (flat_map f ys))
    by (inr later) others = omega (arith, others later, sum_by-append parts (f y) (flat_map f ys))

-- the three kinds of whole types
three : (i : Interface) → parts_of (whole_types i) ≡ parts_of (map (λ (t : DeclaredType). tree_of t.shape) i.types)
    + parts_of (flat_map (λ (e : DeclaredError). shapes_of e.arguments) i.errors) + parts_of (flat_map (λ (p : Procedure). shapes_of p.arguments ++ shapes_of p.results) i.procedures)
three i =
    let types = map (λ (t : DeclaredType). tree_of t.shape) i.types in
    let errors = flat_map (λ (e : DeclaredError). shapes_of e.arguments) i.errors in
    let procedures = flat_map (λ (p : Procedure). shapes_of p.arguments ++ shapes_of p.results) i.procedures in
    omega (arith, sum_by-append parts (types ++ errors) procedures, sum_by-append parts types errors)

pub type_fits : (i : Interface) → Obeys i → (t : DeclaredType) → Contains i.types t → Fits (tree_of t.shape)
type_fits i obeys t there = record {
  inside = (of_each _ i.types t (parts_obey i obeys).types there).whole.inside;
  few = omega (arith, three i, obeys.parts, mapped_within (λ (d : DeclaredType). tree_of d.shape) i.types t there);
}

-- the arguments of a procedure
pub record ArgumentsObey (fields : List FieldTree) : Type 0 where
  pub names : AreDistinct (names_of fields)
  pub fit : AllByRecursion Fits (shapes_of fields)
  pub few : length fields ≤ most_parts

pub no_arguments : ArgumentsObey []
no_arguments = record { names = tt; fit = tt; few = omega arith }

pub arguments_obey : (i : Interface) → Obeys i → (p : Procedure) → Contains i.procedures p → ArgumentsObey p.arguments
arguments_obey i obeys p there =
    let own = (of_each _ i.procedures p (parts_obey i obeys).procedures there).arguments in
    let within = flat_within (λ (q : Procedure). shapes_of q.arguments ++ shapes_of q.results) i.procedures p there in
    let few : parts_of (shapes_of p.arguments) ≤ most_parts = omega (arith, three i, obeys.parts, within, sum_by-append parts (shapes_of p.arguments) (shapes_of p.results)) in
    record { names = own.names.distinct; fit = all_fit (shapes_of p.arguments) own.whole few; few = omega (arith, few, as_many_parts (shapes_of p.arguments), length-map p.arguments (λ (f : FieldTree). f.shape)) }

distinct_behind : (xs ys : List (List ℕ)) → AreDistinct (xs ++ ys) → AreDistinct ys
distinct_behind [] ys distinct = distinct
distinct_behind (x ∷ xs) ys distinct = distinct_behind xs ys distinct.1

pub procedures_distinct : (i : Interface) → Obeys i → AreDistinct (procedure_names i.procedures)
procedures_distinct i obeys = distinct_behind (map (λ t. t.name) i.types ++ map (λ e. e.name) i.errors) (procedure_names i.procedures) obeys.names
