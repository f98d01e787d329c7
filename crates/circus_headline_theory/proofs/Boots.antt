-- Each node of a world has booted by itself, and what it sent by then is what it gave at boot.
use Rattle.std.proofs.Common.{◌≡◌, ◌≢◌, ℕ, zero, suc, ◌+◌, ◌≤◌, ◌⊎◌, inl, inr, false, List, [], ◌∷◌, ◌++◌, length, map, Option, None, Some, Ok, Err, refl, sym, ap, subst, ◌∙◌, arith, add-zero, zero-add, append-nil}
use Rattle.std.specs.Prelude.{slice_get}
use Rattle.std.proofs.lemmas.Bool.Decides.{eqb_tells}
use Rattle.std.proofs.lemmas.List.{length-append}
use Rattle.std.proofs.lemmas.List.Elements.{filter-append}
use Rattle.std.proofs.lemmas.Option.{none-some, same_Some, slice_get_within}
use Rattle.circus_value.specs.ValueTree.{ValueTree}
use Rattle.circus_value.specs.declared.outcome.Outcome.{Outcome}
use Rattle.circus_collate.specs.declared.deployment.Deployment.{Deployment}
use Rattle.circus_model.specs.NextTurn.{NextTurn}
use Rattle.circus_model.specs.declared.signature.Signature.{Signature}
use Rattle.circus_node.specs.Booting.{boot_node}
use Rattle.circus_node.specs.NodeState.{NodeState}
use Rattle.circus_node.specs.Step as node_step
use Rattle.circus_node.specs.declared.event.Outputs.{Outputs}
use Rattle.circus_world.specs.Boot.{before_any, joined_by, then_others, all_booted}
use Rattle.circus_world.specs.Course.{Stepped, sent_by}
use Rattle.circus_world.specs.WorldState.{WorldState, Standing}
use Rattle.circus_headline_theory.specs.Sendings.{is_from, sent_from}
use Rattle.circus_headline_theory.proofs.Walks.{all_from, none_from}

-- ---- lists

pub get_first : {X : Type 0} (xs ys : List X) (i : ℕ) (x : X) → slice_get xs i ≡ Some x → slice_get (xs ++ ys) i ≡ Some x
get_first [] ys i x at = absurd (none-some x at)
get_first (y ∷ xs) ys zero x at = at
get_first (y ∷ xs) ys (suc i) x at = get_first xs ys i x at

get_last : {X : Type 0} (xs : List X) (x : X) → slice_get (xs ++ x ∷ []) (length xs) ≡ Some x
get_last [] x = refl
get_last (y ∷ xs) x = get_last xs x

module _ {M : Type 0} (declared : M → Signature) (turn : M → List ValueTree → ℕ → List ValueTree → List Outcome → NextTurn) (first : M → List ValueTree)
    (d : Deployment) (hosted : List (Option M)) (node : ℕ) where
  abbrev fresh : NodeState M → Standing M
  fresh n = record { node = n; crashed = None; joins = false }

  -- the node has booted, with what it hosts
  record HasBooted (w : WorldState M) : Type 0 where
    own : Option M
    own_is : slice_get hosted node ≡ Some own
    begun : NodeState M
    outputs : Outputs
    boots : boot_node declared turn first d own node ≡ Ok (begun, outputs)
    there : slice_get w.nodes node ≡ Some (fresh begun)
    sent_is : sent_from node w.sent ≡ map (sent_by 0 node) outputs.gives

  -- or its turn comes yet
  record IsToBoot (w : WorldState M) : Type 0 where
    later : length w.nodes ≤ node
    none : sent_from node w.sent ≡ []

  record SoFar (w : WorldState M) : Type 0 where
    deployment : w.deployment ≡ d
    steps : w.steps ≡ 0
    so : IsToBoot w ⊎ HasBooted w

  module _ (w : WorldState M) (own : Option M) (ended : NodeState M × Outputs) (so_far : SoFar w) (at : slice_get hosted (length w.nodes) ≡ Some own)
      (ends : boot_node declared turn first w.deployment own (length w.nodes) ≡ Ok ended) where
    abbrev then_ : WorldState M
    then_ = record w { nodes = w.nodes ++ fresh ended.0 ∷ []; sent = w.sent ++ map (sent_by 0 (length w.nodes)) ended.1.gives }

    sent_then : sent_from node then_.sent ≡ sent_from node w.sent ++ sent_from node (map (sent_by 0 (length w.nodes)) ended.1.gives)
    sent_then = filter-append (is_from node) w.sent (map (sent_by 0 (length w.nodes)) ended.1.gives)

    nothing_more : length w.nodes ≢ node → sent_from node then_.sent ≡ sent_from node w.sent
    nothing_more differ = sent_then ∙ ap (λ l. sent_from node w.sent ++ l) (none_from 0 (length w.nodes) node ended.1.gives differ) ∙ append-nil (sent_from node w.sent)

    still_booted : HasBooted w → HasBooted then_
    still_booted b =
        let within = slice_get_within w.nodes node (fresh b.begun) b.there in
        record {
          own = b.own;
          own_is = b.own_is;
          begun = b.begun;
          outputs = b.outputs;
          boots = b.boots;
          there = get_first w.nodes (fresh ended.0 ∷ []) node (fresh b.begun) b.there;
          sent_is = nothing_more (λ same. omega (arith, within, same)) ∙ b.sent_is;
        }

    boots_now : IsToBoot w → length w.nodes ≡ node → HasBooted then_
    boots_now left same = record {
      own = own;
      own_is = ap (slice_get hosted) (sym same) ∙ at;
      begun = ended.0;
      outputs = ended.1;
      boots = ap (λ k. boot_node declared turn first d own k) (sym same) ∙ ap (λ x. boot_node declared turn first x own (length w.nodes)) (sym so_far.deployment) ∙ ends;
      there = ap (slice_get (w.nodes ++ fresh ended.0 ∷ [])) (sym same) ∙ get_last w.nodes (fresh ended.0);
      sent_is = sent_then ∙ ap (λ l. l ++ sent_from node (map (sent_by 0 (length w.nodes)) ended.1.gives)) left.none
          ∙ ap (λ k. sent_from node (map (sent_by 0 k) ended.1.gives)) same ∙ all_from 0 node ended.1.gives;
    }

    still_left : IsToBoot w → length w.nodes ≢ node → IsToBoot then_
    still_left left differ = record {
      later = (let low = left.later in let one = length-append w.nodes (fresh ended.0 ∷ []) in omega (arith, low, one, differ));
      none = nothing_more differ ∙ left.none;
    }

    one_more : SoFar then_
    one_more = record {
      deployment = so_far.deployment;
      steps = so_far.steps;
      so = elim so_far.so [
        | inl left ↦ elim (eqb_tells (length w.nodes) node) [
          | inl same ↦ inr (boots_now left same.1)
          | inr differ ↦ inl (still_left left differ.1)
        ]
        | inr has ↦ inr (still_booted has)
      ];
    }

  abbrev LeaveSoFar : List (Option M) → Type 0
  LeaveSoFar others = (w last : WorldState M) → SoFar w
      → ((place : ℕ) (own : Option M) → slice_get others place ≡ Some own → slice_get hosted (length w.nodes + place) ≡ Some own)
      → all_booted declared turn first others w ≡ Ok last → SoFar last

  next_so_far : (own : Option M) (others : List (Option M)) → LeaveSoFar others → LeaveSoFar (own ∷ others)
  next_so_far own others leave w last so_far are_there is = by_end (boot_node declared turn first w.deployment own (length w.nodes)) refl is
    where
      by_end : (e : node_step.Ended M) → boot_node declared turn first w.deployment own (length w.nodes) ≡ e
          → then_others (all_booted declared turn first others) (joined_by w e) ≡ Ok last → SoFar last
      by_end (Err peer) ends is = absurd (let clash : ◌≡◌ {A = Stepped M} (Err (length w.nodes, peer)) (Ok last) = is in cc)
      by_end (Ok ended) ends is =
          let longer : length (w.nodes ++ fresh ended.0 ∷ []) ≡ length w.nodes + 1 = length-append w.nodes (fresh ended.0 ∷ []) in
          leave _ last
          (one_more w own ended so_far (ap (slice_get hosted) (sym (add-zero (length w.nodes))) ∙ are_there 0 own refl) ends)
          (λ place other found.
          let same : length (w.nodes ++ fresh ended.0 ∷ []) + place ≡ length w.nodes + suc place = omega (arith, longer) in
          ap (slice_get hosted) same ∙ are_there (suc place) other found)
          is

  all_so_far : (others : List (Option M)) → LeaveSoFar others
  all_so_far [] = λ w last so_far are_there is. let same : w ≡ last = cc in subst (λ (v : WorldState M). SoFar v) same so_far
  all_so_far (own ∷ others) = next_so_far own others (all_so_far others)

  -- the node of a world that has booted
  pub record IsBegun (own : Option M) (w : WorldState M) (s : Standing M) : Type 0 where
    pub steps : w.steps ≡ 0
    pub outputs : Outputs
    pub boots : boot_node declared turn first d own node ≡ Ok (s.node, outputs)
    pub sent_is : sent_from node w.sent ≡ map (sent_by 0 node) outputs.gives
    pub live : s.crashed ≡ None
    pub no_join : s.joins ≡ false

  pub has_begun : (modules : List M) (own : Option M) (w : WorldState M) (s : Standing M) → all_booted declared turn first hosted (before_any d modules) ≡ Ok w
      → slice_get hosted node ≡ Some own → slice_get w.nodes node ≡ Some s → IsBegun own w s
  has_begun modules own w s is hosts_it at = by_case so_far.so
    where
      so_far : SoFar w
      so_far =
          all_so_far hosted (before_any d modules) w (record { deployment = refl; steps = refl; so = inl (record { later = omega arith; none = refl }) })
          (λ place other found. ap (slice_get hosted) (zero-add place) ∙ found) is

      by_case : IsToBoot w ⊎ HasBooted w → IsBegun own w s
      by_case (inl left) = (let low = left.later in let within = slice_get_within w.nodes node s at in absurd (omega (arith, low, within)))
      by_case (inr b) =
          let same : fresh b.begun ≡ s = same_Some _ _ (sym b.there ∙ at) in
          let same_own : b.own ≡ own = same_Some _ _ (sym b.own_is ∙ hosts_it) in
          subst (λ (x : Standing M). IsBegun own w x) same
          (subst (λ (o : Option M). IsBegun o w (fresh b.begun)) same_own
          (record { steps = so_far.steps; outputs = b.outputs; boots = b.boots; sent_is = b.sent_is; live = refl; no_join = refl }))
