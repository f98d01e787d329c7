-- Each node of a world that has booted has booted by itself.
use Rattle.std.proofs.Common.{◌≡◌, ℕ, suc, ◌+◌, ◌⊎◌, inl, inr, List, [], ◌∷◌, ◌++◌, length, map, Option, None, Some, Ok, Err, refl, sym, ap, subst, ◌∙◌, arith, add-zero, zero-add}
use Rattle.std.specs.Prelude.{slice_get, false}
use Rattle.std.proofs.lemmas.List.{length-append}
use Rattle.std.proofs.lemmas.Option.{none-some}
use Rattle.circus_value.specs.ValueTree.{ValueTree}
use Rattle.circus_value.specs.declared.outcome.Outcome.{Outcome}
use Rattle.circus_collate.specs.declared.deployment.Deployment.{Deployment}
use Rattle.circus_model.specs.NextTurn.{NextTurn}
use Rattle.circus_model.specs.declared.signature.Signature.{Signature}
use Rattle.circus_node.specs.declared.event.Outputs.{Outputs}
use Rattle.circus_node.specs.Booting.{boot_node}
use Rattle.circus_node.specs.NodeState.{NodeState}
use Rattle.circus_node.specs.Step as node_step
use Rattle.circus_world.specs.WorldState.{WorldState, Standing}
use Rattle.circus_world.specs.Course as course
use Rattle.circus_world.specs.Course.{Stepped}
use Rattle.circus_world.specs.Boot.{before_any, joined_by, then_others, all_booted}
use Rattle.circus_world.proofs.SlotLemmas.{get_push}

module _ {M : Type 0} (declared : M → Signature) (turn : M → List ValueTree → ℕ → List ValueTree → List Outcome → NextTurn) (first : M → List ValueTree)
    (d : Deployment) (hosted : List (Option M)) where
  -- with what it hosts
  pub record HasBooted (node : ℕ) (n : NodeState M) : Type 0 where
    pub own : Option M
    pub own_is : slice_get hosted node ≡ Some own
    pub outputs : Outputs
    pub booted_is : boot_node declared turn first d own node ≡ Ok (n, outputs)

  -- with the deployment, so has each node
  pub record SoFar (w : WorldState M) : Type 0 where
    pub deployment : w.deployment ≡ d
    pub nodes : (node : ℕ) (s : Standing M) → slice_get w.nodes node ≡ Some s → HasBooted node s.node

  one_more : (w : WorldState M) (own : Option M) (ended : NodeState M × Outputs) → SoFar w → slice_get hosted (length w.nodes) ≡ Some own
      → boot_node declared turn first w.deployment own (length w.nodes) ≡ Ok ended
      → SoFar (record w {
        nodes = w.nodes ++ record { node = ended.0; crashed = None; joins = false } ∷ [];
        sent = w.sent ++ map (course.sent_by 0 (length w.nodes)) ended.1.gives;
      })
  one_more w own ended so_far at ends =
      record {
        deployment = so_far.deployment;
        nodes = λ node s found. by_place node s (get_push w.nodes node (record { node = ended.0; crashed = None; joins = false }) s found);
      }
    where
      last : HasBooted (length w.nodes) ended.0
      last = record { own = own; own_is = at; outputs = ended.1; booted_is = ap (λ x. boot_node declared turn first x own (length w.nodes)) (sym so_far.deployment) ∙ ends }

      by_place : (node : ℕ) (s : Standing M) → ((node ≡ length w.nodes) × (s ≡ record { node = ended.0; crashed = None; joins = false })) ⊎ (slice_get w.nodes node ≡ Some s)
          → HasBooted node s.node
      by_place node s (inl here) =
          subst (λ k. HasBooted k s.node) (sym here.0) (subst (λ (v : Standing M). HasBooted (length w.nodes) v.node) (sym here.1) last)
      by_place node s (inr there) = so_far.nodes node s there

  abbrev LeaveSoFar : List (Option M) → Type 0
  LeaveSoFar others = (w last : WorldState M) → SoFar w
      → ((place : ℕ) (own : Option M) → slice_get others place ≡ Some own → slice_get hosted (length w.nodes + place) ≡ Some own)
      → all_booted declared turn first others w ≡ Ok last → SoFar last

  next_so_far : (own : Option M) (others : List (Option M)) → LeaveSoFar others → LeaveSoFar (own ∷ others)
  next_so_far own others leave w last so_far are_there is = by_end (boot_node declared turn first w.deployment own (length w.nodes)) refl is
    where
      by_end : (e : node_step.Ended M) → boot_node declared turn first w.deployment own (length w.nodes) ≡ e
          → then_others (all_booted declared turn first others) (joined_by w e) ≡ Ok last → SoFar last
      by_end (Err peer) ends is = absurd (let clash : ◌≡◌ {A = Stepped M} (Err (length w.nodes, peer)) (Ok last) = is in cc)
      by_end (Ok ended) ends is =
          let s : Standing M = record { node = ended.0; crashed = None; joins = false } in
          let longer : length (w.nodes ++ s ∷ []) ≡ length w.nodes + 1 = length-append w.nodes (s ∷ []) in
          leave _ last
          (one_more w own ended so_far (ap (slice_get hosted) (sym (add-zero (length w.nodes))) ∙ are_there 0 own refl) ends)
          (λ place other found.
          let same : length (w.nodes ++ s ∷ []) + place ≡ length w.nodes + suc place = omega (arith, longer) in
          ap (slice_get hosted) same ∙ are_there (suc place) other found)
          is

  all_so_far : (others : List (Option M)) → LeaveSoFar others
  all_so_far [] = λ w last so_far are_there is. let same : w ≡ last = cc in subst (λ (v : WorldState M). SoFar v) same so_far
  all_so_far (own ∷ others) = next_so_far own others (all_so_far others)

  pub all_have_booted : (modules : List M) (w : WorldState M) → all_booted declared turn first hosted (before_any d modules) ≡ Ok w → SoFar w
  all_have_booted modules w is =
      all_so_far hosted (before_any d modules) w
      (record { deployment = refl; nodes = λ node s at. absurd (none-some s at) })
      (λ place own found. ap (slice_get hosted) (zero-add place) ∙ found) is
