-- Whose declarations are to come behind a trace.
use Rattle.std.proofs.Common.{ℕ, ◌≡◌, ◌∙◌, inl, inr, Bool, true, false, if◌then◌else◌, List, [], ◌∷◌, Option, None, Some, refl, sym, ap, eq-eqb}
use Rattle.std.specs.Prelude.{◌==◌, option_and_then}
use Rattle.std.proofs.lemmas.Bool.{eqb-true}
use Rattle.std.proofs.lemmas.Option.{same_Some}
use Rattle.circus_node.specs.Trace.{Trace, booted, stepped}
use Rattle.circus_node.specs.declared.event.Event.{Event}
use Rattle.circus_node.specs.declared.event.Event.TheVariants as comes
use Rattle.circus_dues.specs.NodeRuns.{BeginsWith}
use Rattle.circus_verdict.specs.Audited.{Awaits}
use Rattle.circus_verdict.specs.Seen.Living.{behind, unless_due, awaited_by, awaited_in}

-- where these are to come, they are found
pub awaited_alone : (t : Trace) (nodes : List ℕ) → Awaits t nodes → awaited_in t ≡ Some nodes
awaited_alone (booted made outputs) nodes is = ap Some (sym is)
awaited_alone (stepped t at (comes.Down node) made outputs) nodes is =
    ap (option_and_then (behind node)) (awaited_alone t (node ∷ nodes) is)
    ∙ ap (λ (b : Bool). if b then Some nodes else None) (eq-eqb node node refl)
awaited_alone (stepped t at (comes.Datagram from bytes) made outputs) nodes is =
    ap (option_and_then (unless_due outputs.suspects)) (awaited_alone t [] is.0) ∙ ap Some (sym is.1)
awaited_alone (stepped t at comes.Tick made outputs) nodes is =
    ap (option_and_then (unless_due outputs.suspects)) (awaited_alone t [] is.0) ∙ ap Some (sym is.1)
awaited_alone (stepped t at comes.Join made outputs) nodes is =
    ap (option_and_then (unless_due outputs.suspects)) (awaited_alone t [] is.0) ∙ ap Some (sym is.1)

behind_is : (node : ℕ) (o : Option (List ℕ)) (nodes : List ℕ) → option_and_then (behind node) o ≡ Some nodes → o ≡ Some (node ∷ nodes)
behind_is node None nodes is = cc
behind_is node (Some []) nodes is = cc
behind_is node (Some (next ∷ others)) nodes is = by_test (next == node) refl is
  where
    by_test : (b : Bool) → (next == node) ≡ b → (if b then Some others else None) ≡ Some nodes → Some (next ∷ others) ≡ Some (node ∷ nodes)
    by_test true same found = (let one = eqb-true next node same in let rest = same_Some others nodes found in λ j. Some (one j ∷ rest j))
    by_test false same found = cc

unless_is : (suspects : List ℕ) (o : Option (List ℕ)) (nodes : List ℕ) → option_and_then (unless_due suspects) o ≡ Some nodes → (o ≡ Some []) × (nodes ≡ suspects)
unless_is suspects None nodes is = cc
unless_is suspects (Some []) nodes is = (refl, sym (same_Some suspects nodes is))
unless_is suspects (Some (next ∷ others)) nodes is = cc

-- and those that are found are to come
pub awaited_so : (t : Trace) (nodes : List ℕ) → awaited_in t ≡ Some nodes → Awaits t nodes
awaited_so (booted made outputs) nodes is = sym (same_Some outputs.suspects nodes is)
awaited_so (stepped t at (comes.Down node) made outputs) nodes is = awaited_so t (node ∷ nodes) (behind_is node (awaited_in t) nodes is)
awaited_so (stepped t at (comes.Datagram from bytes) made outputs) nodes is =
    let parts = unless_is outputs.suspects (awaited_in t) nodes is in (awaited_so t [] parts.0, parts.1)
awaited_so (stepped t at comes.Tick made outputs) nodes is =
    let parts = unless_is outputs.suspects (awaited_in t) nodes is in (awaited_so t [] parts.0, parts.1)
awaited_so (stepped t at comes.Join made outputs) nodes is =
    let parts = unless_is outputs.suspects (awaited_in t) nodes is in (awaited_so t [] parts.0, parts.1)

-- where one that was due did not come, or another one did, none are to come later either
none_later : (event : Event) (suspects : List ℕ) (o : Option (List ℕ)) → o ≡ None → option_and_then (awaited_by event suspects) o ≡ None
none_later event suspects o none = ap (option_and_then (awaited_by event suspects)) none

pub some_before : (t u : Trace) → BeginsWith t u → (nodes : List ℕ) → awaited_in t ≡ Some nodes → awaited_in u ≡ None → ⊥
some_before t u began nodes some none = absurd (let clash : ◌≡◌ {A = Option (List ℕ)} (Some nodes) None = sym some ∙ none_grown t u began none in cc)
  where
    none_grown : (t u : Trace) → BeginsWith t u → awaited_in u ≡ None → awaited_in t ≡ None
    none_grown (booted made outputs) u same none = ap awaited_in (sym same) ∙ none
    none_grown (stepped t at event made outputs) u (inl same) none = ap awaited_in (sym same) ∙ none
    none_grown (stepped t at event made outputs) u (inr began) none = none_later event outputs.suspects (awaited_in t) (none_grown t u began none)
