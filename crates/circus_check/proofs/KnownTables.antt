-- The tables of an interface after one more entry.
use Rattle.std.proofs.Common.{◌≡◌, ℕ, ◌+◌, ◌<◌, Bool, true, false, cond, List, [], ◌∷◌, ◌++◌, length, length-append, refl, sym, ◌∙◌, ap, subst, arith, Option, Some, None, ◌⊎◌, inl, inr}
use Rattle.std.specs.Prelude.{bytes_eq, slice_get}
use Rattle.std.proofs.lemmas.Bool.{cases_order}
use Rattle.std.proofs.lemmas.Option.{same_Some, slice_get_past}
use Rattle.circus_value.proofs.PartLemmas.{slice_get-append_left, slice_get-append_right}
use Rattle.circus_value.specs.ShapeTree.{ShapeTree}
use Rattle.circus_value.specs.ShapeOf.{tree_of}
use Rattle.circus_type.specs.declared.measuring.Measure.{Measure}
use Rattle.circus_type.specs.Seen.Measured.{measure_of}
use Rattle.circus_resolve.specs.Scope.{Standing, a_type}
use Rattle.circus_idl.specs.Meaning.{standing_for}
use Rattle.circus_body.specs.Context.{Offered}
use Rattle.circus_idl.specs.declared.interface.DeclaredType.{DeclaredType}
use Rattle.circus_idl.specs.declared.interface.Procedure.{Procedure}
use Rattle.circus_idl.specs.declared.interface.Interface.{Interface}
use Rattle.circus_check.specs.declared.known.Known.{Known}
use Rattle.circus_check.specs.Seen.Known.{TellsInterface}
use Rattle.circus_check.specs.Scope.{types_behind, shape_or, offered_by, offered_behind}

-- the sizes stay those of the types
pub sizes_more : (bs : List ℕ) (s : ShapeTree) (size : Measure) (types types' : List ℕ → Standing) (sizes sizes' : List ℕ → Measure) → size ≡ measure_of s
    → types' ≡ standing_for bs (a_type s) types → sizes' ≡ standing_for bs size sizes → sizes ≡ (λ (name : List ℕ). measure_of (shape_or (types name))) → sizes' ≡ (λ (name : List ℕ). measure_of (shape_or (types' name)))
sizes_more bs s size types types' sizes sizes' size_is types_are sizes_are before =
    sizes_are ∙ (λ i name. cond (bytes_eq bs name) (size_is i) (before i name)) ∙ (λ i name. more (bytes_eq bs name) (types name) i) ∙ (λ i name. measure_of (shape_or (sym types_are i name)))
  where
    more : (b : Bool) (x : Standing) → cond b (measure_of s) (measure_of (shape_or x)) ≡ measure_of (shape_or (cond b (a_type s) x))
    more true x = refl
    more false x = refl

-- one type more
pub types_step : (t : DeclaredType) (ts : List DeclaredType) (earlier later : List ℕ → Standing) (whole : List ℕ → Standing) → later ≡ standing_for t.name (a_type (tree_of t.shape)) earlier
    → types_behind (t ∷ ts) earlier ≡ whole → types_behind ts later ≡ whole
types_step t ts earlier later whole is before = ap (types_behind ts) is ∙ before

-- one procedure more
pub offers_step : (i : Interface) (p : Procedure) (ps : List Procedure) (earlier later : List ℕ → Option Offered) (whole : List ℕ → Option Offered) (o : Offered) → o ≡ offered_by i p → later ≡ standing_for p.name (Some o) earlier
    → offered_behind i (p ∷ ps) earlier ≡ whole → offered_behind i ps later ≡ whole
offers_step i p ps earlier later whole o o_is is before = ap (offered_behind i ps) (is ∙ ap (λ x. standing_for p.name (Some x) earlier) o_is) ∙ before

-- the tables of one interface more
pub told_more : (known : List Known) (k : Known) (interfaces : List Interface) (i : Interface) → slice_get interfaces (length known) ≡ Some i → TellsInterface k i
    → ((n : ℕ) (t : Known) (j : Interface) → slice_get known n ≡ Some t → slice_get interfaces n ≡ Some j → TellsInterface t j)
    → (n : ℕ) (t : Known) (j : Interface) → slice_get (known ++ k ∷ []) n ≡ Some t → slice_get interfaces n ≡ Some j → TellsInterface t j
told_more known k interfaces i there tells each n t j is at = by (cases_order n (length known))
  where
    by : (n ≡ length known) ⊎ ((n < length known) ⊎ (length known < n)) → TellsInterface t j
    by (inl e) =
        let last : n ≡ length known + 0 = omega (arith, e) in
        let table : k ≡ t = same_Some k t (sym (slice_get-append_right known (k ∷ []) 0) ∙ ap (slice_get (known ++ k ∷ [])) (sym last) ∙ is) in
        let interface : i ≡ j = same_Some i j (sym there ∙ ap (slice_get interfaces) (sym e) ∙ at) in
        subst (λ x. TellsInterface x j) table (subst (TellsInterface k) interface tells)
    by (inr (inl below)) = each n t j (sym (slice_get-append_left known (k ∷ []) n below) ∙ is) at
    by (inr (inr above)) =
        let past = slice_get_past (known ++ k ∷ []) n (omega (arith, above, length-append known (k ∷ []))) in
        absurd (let none : None ≡ Some t = sym past ∙ is in cc)
