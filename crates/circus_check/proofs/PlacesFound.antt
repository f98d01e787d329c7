-- The shapes of variables by their places.
use Rattle.std.proofs.Common.{◌≡◌, ℕ, suc, ◌+◌, ◌<◌, Bool, true, false, cond, List, ◌++◌, length, sym, ◌∙◌, ap, arith, length-append, Option, Some, None, ◌⊎◌, inl, inr}
use Rattle.std.specs.Prelude.{bytes_eq, slice_get}
use Rattle.std.proofs.lemmas.List.{map-append, length-map}
use Rattle.std.proofs.lemmas.Option.{same_Some, slice_get-map, slice_get_within}
use Rattle.circus_value.specs.ShapeTree.{ShapeTree, FieldTree, FieldTrees, field_trees, no_fields, more_fields}
use Rattle.circus_value.proofs.PartLemmas.{slice_get-append_left, slice_get-append_right}
use Rattle.circus_type.specs.Together.{shapes_of}
use Rattle.circus_resolve.specs.Faults.{field_at, field_count}
use Rattle.circus_resolve.specs.Scope.{Variable}
use Rattle.circus_resolve.proofs.Shapes.{field_at_is, field_count_is}
use Rattle.circus_idl.specs.Meaning.{standing_for}
use Rattle.circus_check.specs.Scope.{variables_behind, places_behind, variables_of}

-- a variable that stands at a place among fields, behind so many others
pub record StandsAt (n : ℕ) (fs : FieldTrees) (v : Variable) : Type 0 where
  pub place : ℕ
  pub there : field_at fs place ≡ Some v.shape
  pub at : v.place ≡ n + place

pub variable_stands : (n : ℕ) (fs : FieldTrees) (earlier : List ℕ → Option Variable) (name : List ℕ) (v : Variable) → variables_behind n fs earlier name ≡ Some v → (earlier name ≡ Some v) ⊎ StandsAt n fs v
variable_stands n no_fields earlier name v is = inl is
variable_stands n (more_fields field s fs) earlier name v is = by (variable_stands (n + 1) fs (standing_for field (Some (record { place = n; shape = s })) earlier) name v is)
  where
    own : Variable
    own = record { place = n; shape = s }

    here : (b : Bool) → cond b (Some own) (earlier name) ≡ Some v → (earlier name ≡ Some v) ⊎ StandsAt n (more_fields field s fs) v
    here true same =
        let e : own ≡ v = same_Some own v same in
        let none : n ≡ n + 0 = omega arith in
        inr (record { place = 0; there = ap (λ (x : Variable). Some x.shape) e; at = sym (ap (λ (x : Variable). x.place) e) ∙ none })
    here false before = inl before

    by : (standing_for field (Some own) earlier name ≡ Some v) ⊎ StandsAt (n + 1) fs v → (earlier name ≡ Some v) ⊎ StandsAt n (more_fields field s fs) v
    by (inl same) = here (bytes_eq field name) same
    by (inr further) =
        let e : n + 1 + further.place ≡ n + suc further.place = omega arith in
        inr (record { place = suc further.place; there = further.there; at = further.at ∙ e })

pub places_counted : (n : ℕ) (fs : FieldTrees) → places_behind n fs ≡ n + field_count fs
places_counted n no_fields = omega arith
places_counted n (more_fields _ _ fs) = omega (arith, places_counted (n + 1) fs)

shape_there : (fields : List FieldTree) (k : ℕ) → slice_get (shapes_of fields) k ≡ field_at (field_trees fields) k
shape_there fields k = slice_get-map (λ (f : FieldTree). f.shape) fields k ∙ field_at_is fields k

-- the shapes of a state, arguments and locals
abbrev pub shapes_together : List FieldTree → List FieldTree → List FieldTree → List ShapeTree
shapes_together state arguments locals = shapes_of state ++ shapes_of arguments ++ shapes_of locals

pub together : (state arguments locals : List FieldTree) → shapes_of (state ++ arguments ++ locals) ≡ shapes_together state arguments locals
together state arguments locals =
    map-append (λ (f : FieldTree). f.shape) (state ++ arguments) locals ∙ ap (λ ss. ss ++ shapes_of locals) (map-append (λ (f : FieldTree). f.shape) state arguments)

-- a variable's place leads to its shape
pub place_found : (state arguments locals : List FieldTree) (name : List ℕ) (v : Variable)
    → variables_of (field_trees state) (field_trees arguments) (field_trees locals) name ≡ Some v → slice_get (shapes_together state arguments locals) v.place ≡ Some v.shape
place_found state arguments locals name v is = by_locals (variable_stands (places_behind (places_behind 0 (field_trees state)) (field_trees arguments)) (field_trees locals) _ name v is)
  where
    s : List ShapeTree
    s = shapes_of state

    a : List ShapeTree
    a = shapes_of arguments

    l : List ShapeTree
    l = shapes_of locals

    lengths : (length s ≡ length state) × (length a ≡ length arguments) × (length l ≡ length locals)
    lengths = (length-map state (λ (f : FieldTree). f.shape), length-map arguments (λ (f : FieldTree). f.shape), length-map locals (λ (f : FieldTree). f.shape))

    behind_state : places_behind 0 (field_trees state) ≡ length state
    behind_state = omega (arith, places_counted 0 (field_trees state), field_count_is state)

    behind_arguments : places_behind (places_behind 0 (field_trees state)) (field_trees arguments) ≡ length state + length arguments
    behind_arguments = omega (arith, places_counted (places_behind 0 (field_trees state)) (field_trees arguments), field_count_is arguments, behind_state)

    in_state : StandsAt 0 (field_trees state) v → slice_get (s ++ a ++ l) v.place ≡ Some v.shape
    in_state stands =
        let k = stands.place in
        let there : slice_get s k ≡ Some v.shape = shape_there state k ∙ stands.there in
        let within : k < length s = slice_get_within s k v.shape there in
        let at : v.place ≡ k = omega (arith, stands.at) in
        ap (slice_get (s ++ a ++ l)) at ∙ slice_get-append_left (s ++ a) l k (omega (arith, within, length-append s a)) ∙ slice_get-append_left s a k within ∙ there

    in_arguments : StandsAt (places_behind 0 (field_trees state)) (field_trees arguments) v → slice_get (s ++ a ++ l) v.place ≡ Some v.shape
    in_arguments stands =
        let k = stands.place in
        let there : slice_get a k ≡ Some v.shape = shape_there arguments k ∙ stands.there in
        let within : k < length a = slice_get_within a k v.shape there in
        let at : v.place ≡ length s + k = omega (arith, stands.at, lengths.0, behind_state) in
        ap (slice_get (s ++ a ++ l)) at ∙ slice_get-append_left (s ++ a) l (length s + k) (omega (arith, within, length-append s a)) ∙ slice_get-append_right s a k ∙ there

    in_locals : StandsAt (places_behind (places_behind 0 (field_trees state)) (field_trees arguments)) (field_trees locals) v → slice_get (s ++ a ++ l) v.place ≡ Some v.shape
    in_locals stands =
        let k = stands.place in
        let there : slice_get l k ≡ Some v.shape = shape_there locals k ∙ stands.there in
        let within : k < length l = slice_get_within l k v.shape there in
        let at : v.place ≡ length (s ++ a) + k = omega (arith, stands.at, lengths.0, lengths.1, behind_arguments, length-append s a) in
        ap (slice_get (s ++ a ++ l)) at ∙ slice_get-append_right (s ++ a) l k ∙ there

    by_state : (None ≡ Some v) ⊎ StandsAt 0 (field_trees state) v → slice_get (s ++ a ++ l) v.place ≡ Some v.shape
    by_state (inl none) = absurd (cc)
    by_state (inr stands) = in_state stands

    by_arguments : (variables_behind 0 (field_trees state) (λ _. None) name ≡ Some v) ⊎ StandsAt (places_behind 0 (field_trees state)) (field_trees arguments) v → slice_get (s ++ a ++ l) v.place ≡ Some v.shape
    by_arguments (inl earlier) = by_state (variable_stands 0 (field_trees state) (λ _. None) name v earlier)
    by_arguments (inr stands) = in_arguments stands

    by_locals : (variables_behind (places_behind 0 (field_trees state)) (field_trees arguments) (variables_behind 0 (field_trees state) (λ _. None)) name ≡ Some v)
        ⊎ StandsAt (places_behind (places_behind 0 (field_trees state)) (field_trees arguments)) (field_trees locals) v → slice_get (s ++ a ++ l) v.place ≡ Some v.shape
    by_locals (inl earlier) = by_arguments (variable_stands (places_behind 0 (field_trees state)) (field_trees arguments) (variables_behind 0 (field_trees state) (λ _. None)) name v earlier)
    by_locals (inr stands) = in_locals stands
