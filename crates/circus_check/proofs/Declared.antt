-- What names of types, procedures and errors lead back to in an interface.
use Rattle.std.proofs.Common.{◌≡◌, ◌≢◌, ℕ, zero, suc, Bool, true, false, cond, List, [], ◌∷◌, refl, sym, ◌∙◌, ap, subst, arith, Option, Some, ◌⊎◌, inl, inr}
use Rattle.std.specs.Prelude.{bytes_eq, ◌==◌, ◌||◌, Contains}
use Rattle.std.specs.List.{AllByRecursion}
use Rattle.std.proofs.lemmas.Bool.{eqb-true}
use Rattle.std.proofs.lemmas.Option.{same_Some}
use Rattle.circus_syntax.proofs.Tokens.{bytes_eq-refl}
use Rattle.circus_value.specs.ShapeTree.{ShapeTree}
use Rattle.circus_value.specs.ShapeOf.{tree_of}
use Rattle.circus_value.specs.Among.{is_among}
use Rattle.circus_fault.proofs.Items.{contains_first, contains_later}
use Rattle.circus_type.specs.Distinct.{AreDistinct}
use Rattle.circus_resolve.specs.Scope.{Standing, a_type, unsaid}
use Rattle.circus_body.specs.Context.{Reported, Offered}
use Rattle.circus_idl.specs.Meaning.{standing_for}
use Rattle.circus_idl.specs.declared.interface.DeclaredType.{DeclaredType}
use Rattle.circus_idl.specs.declared.interface.DeclaredError.{DeclaredError}
use Rattle.circus_idl.specs.declared.interface.Procedure.{Procedure}
use Rattle.circus_idl.specs.declared.interface.Interface.{Interface}
use Rattle.circus_check.specs.Scope.{types_behind, errors_behind, error_of, offered_by, offered_behind}
use Rattle.circus_check.proofs.InOrder.{procedure_names, other_name}

pub contains_cases : {X : Type 0} (x : X) (xs : List X) (y : X) → Contains (x ∷ xs) y → (x ≡ y) ⊎ Contains xs y
contains_cases x xs y (zero, below, is) = inl is
contains_cases x xs y (suc k, below, is) = inr (k, omega arith, is)

either : {A : Type 0} (b : Bool) (x y z : A) → cond b x y ≡ z → ((b ≡ true) × (x ≡ z)) ⊎ (y ≡ z)
either true x y z is = inl (refl, is)
either false x y z is = inr is

-- ---- types

pub type_declared : (ts : List DeclaredType) (earlier : List ℕ → Standing) (name : List ℕ) (s : ShapeTree) → types_behind ts earlier name ≡ a_type s → (earlier name ≡ a_type s) ⊎ ((t : DeclaredType) × Contains ts t × (tree_of t.shape ≡ s))
type_declared [] earlier name s is = inl is
type_declared (t ∷ ts) earlier name s is = by (type_declared ts (standing_for t.name (a_type (tree_of t.shape)) earlier) name s is)
  where
    Found : Type 0
    Found = (earlier name ≡ a_type s) ⊎ ((d : DeclaredType) × Contains (t ∷ ts) d × (tree_of d.shape ≡ s))

    here : ((bytes_eq t.name name ≡ true) × (a_type (tree_of t.shape) ≡ a_type s)) ⊎ (earlier name ≡ a_type s) → Found
    here (inl own) = inr (t, contains_first t ts, (let is : a_type (tree_of t.shape) ≡ a_type s = own.1 in cc))
    here (inr before) = inl before

    by : (standing_for t.name (a_type (tree_of t.shape)) earlier name ≡ a_type s) ⊎ ((d : DeclaredType) × Contains ts d × (tree_of d.shape ≡ s)) → Found
    by (inl own) = here (either (bytes_eq t.name name) (a_type (tree_of t.shape)) (earlier name) (a_type s) own)
    by (inr (d, there, same)) = inr (d, contains_later t ts d there, same)

-- nothing is unsaid where nothing was
pub types_said : (ts : List DeclaredType) (earlier : List ℕ → Standing) (name : List ℕ) → earlier name ≢ unsaid → types_behind ts earlier name ≢ unsaid
types_said [] earlier name said = said
types_said (t ∷ ts) earlier name said = types_said ts (standing_for t.name (a_type (tree_of t.shape)) earlier) name (by (bytes_eq t.name name))
  where
    by : (b : Bool) → cond b (a_type (tree_of t.shape)) (earlier name) ≢ unsaid
    by true is = absurd (cc)
    by false is = said is

-- ---- procedures

pub procedure_declared : (i : Interface) (ps : List Procedure) (earlier : List ℕ → Option Offered) (name : List ℕ) (o : Offered) → offered_behind i ps earlier name ≡ Some o → (earlier name ≡ Some o) ⊎ ((p : Procedure) × Contains ps p × (offered_by i p ≡ o))
procedure_declared i [] earlier name o is = inl is
procedure_declared i (p ∷ ps) earlier name o is = by (procedure_declared i ps (standing_for p.name (Some (offered_by i p)) earlier) name o is)
  where
    Found : Type 0
    Found = (earlier name ≡ Some o) ⊎ ((q : Procedure) × Contains (p ∷ ps) q × (offered_by i q ≡ o))

    here : ((bytes_eq p.name name ≡ true) × (Some (offered_by i p) ≡ Some o)) ⊎ (earlier name ≡ Some o) → Found
    here (inl own) = inr (p, contains_first p ps, same_Some (offered_by i p) o own.1)
    here (inr before) = inl before

    by : (standing_for p.name (Some (offered_by i p)) earlier name ≡ Some o) ⊎ ((q : Procedure) × Contains ps q × (offered_by i q ≡ o)) → Found
    by (inl own) = here (either (bytes_eq p.name name) (Some (offered_by i p)) (earlier name) (Some o) own)
    by (inr (q, there, same)) = inr (q, contains_later p ps q there, same)

-- procedures of other names don't hide it
unhidden : (i : Interface) (ps : List Procedure) (earlier : List ℕ → Option Offered) (name : List ℕ) → AllByRecursion (λ n. name ≢ n) (procedure_names ps) → offered_behind i ps earlier name ≡ earlier name
unhidden i [] earlier name others = refl
unhidden i (p ∷ ps) earlier name others =
    unhidden i ps (standing_for p.name (Some (offered_by i p)) earlier) name others.1
    ∙ ap (λ b. cond b (Some (offered_by i p)) (earlier name)) (other_name p.name name (λ same. others.0 (sym same)))

pub offered_is : (i : Interface) (ps : List Procedure) (earlier : List ℕ → Option Offered) (p : Procedure) → AreDistinct (procedure_names ps) → Contains ps p → offered_behind i ps earlier p.name ≡ Some (offered_by i p)
offered_is i [] earlier p distinct (k, below, is) = absurd (omega arith)
offered_is i (q ∷ ps) earlier p distinct there = by (contains_cases q ps p there) (λ later. offered_is i ps (standing_for q.name (Some (offered_by i q)) earlier) p distinct.1 later)
  where
    first : offered_behind i ps (standing_for q.name (Some (offered_by i q)) earlier) q.name ≡ Some (offered_by i q)
    first =
        unhidden i ps (standing_for q.name (Some (offered_by i q)) earlier) q.name distinct.0
        ∙ ap (λ b. cond b (Some (offered_by i q)) (earlier q.name)) (bytes_eq-refl q.name)

    by : (q ≡ p) ⊎ Contains ps p → (Contains ps p → offered_behind i ps (standing_for q.name (Some (offered_by i q)) earlier) p.name ≡ Some (offered_by i p)) → offered_behind i ps (standing_for q.name (Some (offered_by i q)) earlier) p.name ≡ Some (offered_by i p)
    by (inl same) others = subst (λ (x : Procedure). offered_behind i ps (standing_for q.name (Some (offered_by i q)) earlier) x.name ≡ Some (offered_by i x)) same first
    by (inr later) others = others later

-- ---- errors

pub among : (numbers : List ℕ) (n : ℕ) → is_among numbers n ≡ true → Contains numbers n
among [] n is = absurd (cc)
among (m ∷ ms) n is = by (m == n) refl is (λ any. among ms n any)
  where
    by : (b : Bool) → (m == n) ≡ b → (b || is_among ms n) ≡ true → (is_among ms n ≡ true → Contains ms n) → Contains (m ∷ ms) n
    by true same any others = subst (Contains (m ∷ ms)) (eqb-true m n same) (contains_first m ms)
    by false other any others = contains_later m ms n (others any)

pub error_declared : (numbers : List ℕ) (es : List DeclaredError) (earlier : List ℕ → Option Reported) (name : List ℕ) (r : Reported) → errors_behind numbers es earlier name ≡ Some r
    → (earlier name ≡ Some r) ⊎ ((e : DeclaredError) × Contains es e × Contains numbers e.number × (error_of e ≡ r))
error_declared numbers [] earlier name r is = inl is
error_declared numbers (e ∷ es) earlier name r is = by (error_declared numbers es (cond (is_among numbers e.number) (standing_for e.name (Some (error_of e)) earlier) earlier) name r is)
  where
    Found : Type 0
    Found = (earlier name ≡ Some r) ⊎ ((d : DeclaredError) × Contains (e ∷ es) d × Contains numbers d.number × (error_of d ≡ r))

    here : (b : Bool) → is_among numbers e.number ≡ b → cond b (standing_for e.name (Some (error_of e)) earlier) earlier name ≡ Some r → Found
    here true is_there own = named (either (bytes_eq e.name name) (Some (error_of e)) (earlier name) (Some r) own)
      where
        named : ((bytes_eq e.name name ≡ true) × (Some (error_of e) ≡ Some r)) ⊎ (earlier name ≡ Some r) → Found
        named (inl same) = inr (e, contains_first e es, among numbers e.number is_there, same_Some (error_of e) r same.1)
        named (inr before) = inl before
    here false is_there own = inl own

    by : (cond (is_among numbers e.number) (standing_for e.name (Some (error_of e)) earlier) earlier name ≡ Some r) ⊎ ((d : DeclaredError) × Contains es d × Contains numbers d.number × (error_of d ≡ r)) → Found
    by (inl own) = here (is_among numbers e.number) refl own
    by (inr (d, there, reported, same)) = inr (d, contains_later e es d there, reported, same)
