-- The names of a state, of arguments and of locals, no two of which are the same.
use Rattle.std.proofs.Common.{◌≡◌, ◌≢◌, ℕ, Bool, false, List, [], ◌∷◌, ◌++◌, sym, ◌∙◌, ap, subst, arith, Some, ◌⊎◌, inl, inr}
use Rattle.std.specs.Prelude.{bytes_eq, Contains}
use Rattle.std.specs.List.{AllByRecursion}
use Rattle.std.proofs.lemmas.Bool.{or_parts}
use Rattle.std.proofs.lemmas.List.{map-append}
use Rattle.std.proofs.lemmas.List.Elements.{Contains-append_cases}
use Rattle.circus_syntax.specs.declared.named.TypeName.{TypeName}
use Rattle.circus_syntax.proofs.Tokens.{bytes_eq-refl}
use Rattle.circus_value.specs.ShapeTree.{ShapeTree, FieldTree, field_trees}
use Rattle.circus_fault.proofs.Items.{contains_first, contains_later, of_each}
use Rattle.circus_type.specs.Distinct.{AreDistinct}
use Rattle.circus_type.specs.Inside.{no_name, also_name}
use Rattle.circus_type.specs.Together.{names_of}
use Rattle.circus_type.proofs.Items.{all_appended}
use Rattle.circus_idl.specs.declared.interface.Procedure.{Procedure}
use Rattle.circus_idl.specs.declared.interface.Interface.{Interface}
use Rattle.circus_lang.specs.ModuleTree.{VariableTree}
use Rattle.circus_check.specs.Faults.{also_fields, also_variables, also_parameters, parameters_of, fields_of}
use Rattle.circus_check.proofs.Declared.{contains_cases}

all_of : {X : Type 0} (P : X → Type 0) (xs : List X) → ((x : X) → Contains xs x → P x) → AllByRecursion P xs
all_of P [] each = tt
all_of P (x ∷ xs) each = (each x (contains_first x xs), all_of P xs (λ y there. each y (contains_later x xs y there)))

pub distinct_together : (xs ys : List (List ℕ)) → AreDistinct xs → AreDistinct ys → ((x y : List ℕ) → Contains xs x → Contains ys y → x ≢ y) → AreDistinct (xs ++ ys)
distinct_together [] ys own others apart = others
distinct_together (x ∷ xs) ys own others apart =
    (all_appended (λ y. x ≢ y) xs ys own.0 (all_of (λ y. x ≢ y) ys (λ y there. apart x y (contains_first x xs) there)), distinct_together xs ys own.1 others (λ z y there among. apart z y (contains_later x xs z there) among))

differs : (a b : List ℕ) → bytes_eq a b ≡ false → a ≢ b
differs a b other same = absurd (let is = ap (λ (x : List ℕ). bytes_eq x b) same ∙ bytes_eq-refl b in cc)

-- names that stand for nothing in these
not_fields : (fs : List FieldTree) (earlier : List ℕ → Bool) (n : List ℕ) → also_fields (field_trees fs) earlier n ≡ false → AllByRecursion (λ a. a ≢ n) (names_of fs) × (earlier n ≡ false)
not_fields [] earlier n none = (tt, none)
not_fields (f ∷ fs) earlier n none =
    let (others, own) = not_fields fs (also_name f.name earlier) n none in
    let (other, before) = or_parts (bytes_eq f.name n) (earlier n) own in
    ((differs f.name n other, others), before)

not_variables : (forms : TypeName → ShapeTree) (vs : List VariableTree) (earlier : List ℕ → Bool) (n : List ℕ) → also_variables vs earlier n ≡ false → AllByRecursion (λ a. a ≢ n) (names_of (fields_of forms vs)) × (earlier n ≡ false)
not_variables forms [] earlier n none = (tt, none)
not_variables forms (v ∷ vs) earlier n none =
    let (others, own) = not_variables forms vs (also_name v.name.name earlier) n none in
    let (other, before) = or_parts (bytes_eq v.name.name n) (earlier n) own in
    ((differs v.name.name n other, others), before)

not_parameters : (ps : List Procedure) (earlier : List ℕ → Bool) (n : List ℕ) → also_parameters ps earlier n ≡ false → (earlier n ≡ false) × ((p : Procedure) → Contains ps p → AllByRecursion (λ a. a ≢ n) (names_of p.arguments))
not_parameters [] earlier n none = (none, λ p (k, below, is). absurd (omega arith))
not_parameters (p ∷ ps) earlier n none =
    let (own, later) = not_parameters ps (also_fields (field_trees p.arguments) earlier) n none in
    let (others, before) = not_fields p.arguments earlier n own in
    (before, λ q there. by others later q (contains_cases p ps q there))
  where
    by : AllByRecursion (λ a. a ≢ n) (names_of p.arguments) → ((q : Procedure) → Contains ps q → AllByRecursion (λ a. a ≢ n) (names_of q.arguments))
        → (q : Procedure) → (p ≡ q) ⊎ Contains ps q → AllByRecursion (λ a. a ≢ n) (names_of q.arguments)
    by own later q (inl same) = subst (λ (r : Procedure). AllByRecursion (λ a. a ≢ n) (names_of r.arguments)) same own
    by own later q (inr there) = later q there

-- a state that is fresh behind the parameters of an interface, and the arguments of one of its procedures
pub state_apart : (i : Interface) (p : Procedure) (state : List FieldTree) → Contains i.procedures p → AllByRecursion (λ n. parameters_of (Some i) n ≡ false) (names_of state)
    → (x y : List ℕ) → Contains (names_of state) x → Contains (names_of p.arguments) y → x ≢ y
state_apart i p state there fresh x y in_state in_arguments same =
    let none = of_each (λ n. parameters_of (Some i) n ≡ false) (names_of state) x fresh in_state in
    let others = (not_parameters i.procedures no_name x none).1 p there in
    of_each (λ a. a ≢ x) (names_of p.arguments) y others in_arguments (sym same)

-- locals that are fresh behind arguments and a state
pub all_apart : (forms : TypeName → ShapeTree) (vs : List VariableTree) (arguments locals : List FieldTree) → AreDistinct (names_of (fields_of forms vs)) → AreDistinct (names_of arguments) → AreDistinct (names_of locals)
    → ((x y : List ℕ) → Contains (names_of (fields_of forms vs)) x → Contains (names_of arguments) y → x ≢ y)
    → AllByRecursion (λ n. also_fields (field_trees arguments) (also_variables vs no_name) n ≡ false) (names_of locals) → AreDistinct (names_of (fields_of forms vs ++ arguments ++ locals))
all_apart forms vs arguments locals d_state d_arguments d_locals apart fresh =
    let state = fields_of forms vs in
    let two = distinct_together (names_of state) (names_of arguments) d_state d_arguments apart in
    let joined = map-append (λ (f : FieldTree). f.name) state arguments in
    subst AreDistinct (sym (map-append (λ (f : FieldTree). f.name) (state ++ arguments) locals))
    (distinct_together (names_of (state ++ arguments)) (names_of locals) (subst AreDistinct (sym joined) two) d_locals
    (λ x y before there. other x y (Contains-append_cases (names_of state) (names_of arguments) x (subst (λ ns. Contains ns x) joined before)) there))
  where
    other : (x y : List ℕ) → Contains (names_of (fields_of forms vs)) x ⊎ Contains (names_of arguments) x → Contains (names_of locals) y → x ≢ y
    other x y (inl in_state) there =
        let none = of_each (λ n. also_fields (field_trees arguments) (also_variables vs no_name) n ≡ false) (names_of locals) y fresh there in
        of_each (λ a. a ≢ y) (names_of (fields_of forms vs)) x (not_variables forms vs no_name y (not_fields arguments (also_variables vs no_name) y none).1).0 in_state
    other x y (inr in_arguments) there =
        let none = of_each (λ n. also_fields (field_trees arguments) (also_variables vs no_name) n ≡ false) (names_of locals) y fresh there in
        of_each (λ a. a ≢ y) (names_of arguments) x (not_fields arguments (also_variables vs no_name) y none).0 in_arguments
