-- A draft with one more type.
use Rattle.std.proofs.Common.{◌≡◌, ℕ, false, cond, List, [], ◌∷◌, ◌++◌, Option, Some, None, is_some, refl, ◌∙◌, ap, map}
use Rattle.std.specs.Prelude.{IfNone}
use Rattle.std.proofs.lemmas.List.{map-append}
use Rattle.circus_syntax.proofs.Tokens.{bytes_eq-refl}
use Rattle.circus_value.specs.ShapeTree.{ShapeTree}
use Rattle.circus_value.specs.ShapeOf.{tree_of}
use Rattle.circus_fault.specs.declared.fault.Fault.{Fault}
use Rattle.circus_fault.specs.Least.{least_from}
use Rattle.circus_fault.proofs.LeastIs.{never_lost}
use Rattle.circus_idl.specs.declared.fault.Cause.{Cause}
use Rattle.circus_idl.specs.Rank.{rank_of}
use Rattle.circus_type.specs.declared.measuring.Measure.{Measure}
use Rattle.circus_idl.specs.declared.interface.DeclaredType.{DeclaredType}
use Rattle.circus_idl.specs.Meaning.{standing_for}
use Rattle.circus_idl.specs.Means.{named_shape, Meant, and_then, declared_meant, declarations_meant, forms_behind, errors_behind}
use Rattle.circus_idl.specs.Faults.{Before, behind}
use Rattle.circus_type.specs.Seen.Measured.{cut_off}
use Rattle.circus_syntax.specs.InterfaceTree.{DeclaredTree, a_type, an_error, a_procedure}
use Rattle.std.proofs.Common.{append_assoc}

-- nothing is kept
pub none_from : (o : Option (Fault Cause)) → is_some o ≡ false → o ≡ None
none_from None is = refl
none_from (Some f) is = absurd (cc)

pub holds_of_none : (o : Option (Fault Cause)) (P : Type 0) → o ≡ None → IfNone o P → P
holds_of_none None P is holds = holds
holds_of_none (Some f) P is holds = absurd (cc)

pub holds_anyway : (o : Option (Fault Cause)) (P : Type 0) → P → IfNone o P
holds_anyway None P holds = holds
holds_anyway (Some f) P holds = tt

-- a name stands for what it was given
pub standing_here : {A : Type 0} (name : List ℕ) (a : A) (earlier : List ℕ → A) → standing_for name a earlier name ≡ a
standing_here name a earlier = ap (λ b. cond b a (earlier name)) (bytes_eq-refl name)

pub types_more : (types : List DeclaredType) (t : DeclaredType) (name : List ℕ) (s : ShapeTree) → t.name ≡ name → tree_of t.shape ≡ s → map named_shape (types ++ t ∷ []) ≡ map named_shape types ++ record { name = name; shape = s } ∷ []
types_more types t name s named shaped =
    map-append named_shape types (t ∷ []) ∙ (λ i. map named_shape types ++ record { name = named i; shape = shaped i } ∷ [])

-- where nothing is kept
pub by_none : (o : Option (Fault Cause)) (P : Type 0) → (o ≡ None → P) → IfNone o P
by_none None P holds = holds refl
by_none (Some f) P holds = tt

-- nothing is kept only where nothing was
pub none_before : (best : Option (Fault Cause)) (fs : List (Fault Cause)) → least_from rank_of best fs ≡ None → best ≡ None
none_before None fs is = refl
none_before (Some f) fs is = absurd (never_lost rank_of f fs is)

pub and_then_assoc : (m o p : Meant) → and_then (and_then m o) p ≡ and_then m (and_then o p)
and_then_assoc m o p = λ i. record {
  types = append_assoc m.types o.types p.types i;
  errors = append_assoc m.errors o.errors p.errors i;
  procedures = append_assoc m.procedures o.procedures p.procedures i;
}

pub behind_errors : (before : Before Measure) (d : DeclaredTree) → (behind cut_off before d).errors ≡ errors_behind before.errors d
behind_errors before (a_type name t) = refl
behind_errors before (an_error e) = refl
behind_errors before (a_procedure p) = refl

-- what the declarations behind this one mean
pub meant_step : (form form' : List ℕ → ShapeTree) (before before' : Before Measure) (d : DeclaredTree) (ds : List DeclaredTree) (old new whole : Meant) → form' ≡ forms_behind form d → before' ≡ behind cut_off before d → new ≡ and_then old (declared_meant form before.errors d) → and_then old (declarations_meant form before.errors (d ∷ ds)) ≡ whole → and_then new (declarations_meant form' before'.errors ds) ≡ whole
meant_step form form' before before' d ds old new whole formed behind_is one rest =
    ap (λ f. and_then new (declarations_meant f before'.errors ds)) formed
    ∙ ap (λ e. and_then new (declarations_meant (forms_behind form d) e ds)) (ap (λ (b : Before Measure). b.errors) behind_is ∙ behind_errors before d)
    ∙ ap (λ m. and_then m (declarations_meant (forms_behind form d) (errors_behind before.errors d) ds)) one
    ∙ and_then_assoc old (declared_meant form before.errors d) (declarations_meant (forms_behind form d) (errors_behind before.errors d) ds)
    ∙ rest
