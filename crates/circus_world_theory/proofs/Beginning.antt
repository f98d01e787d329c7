-- What is true of the nodes of a world that has booted.
use Rattle.std.proofs.Common.{◌≡◌, ℕ, ◌+◌, ◌<◌, List, [], ◌∷◌, length, map, All, Option, None, Some, Ok, refl, sym, ap, subst, ◌∙◌, arith}
use Rattle.std.specs.Prelude.{slice_get, option_map, option_and_then}
use Rattle.std.specs.Option.{option_map_or}
use Rattle.std.proofs.lemmas.List.{length-map}
use Rattle.std.proofs.lemmas.List.Elements.{All-nil, All-cons, All-weaker}
use Rattle.std.proofs.lemmas.Option.{none-some, same_Some, slice_get-map}
use Rattle.circus_value.specs.ValueTree.{ValueTree}
use Rattle.circus_value.specs.declared.caller.Caller.{Caller}
use Rattle.circus_value.specs.declared.outcome.Outcome.{Outcome}
use Rattle.circus_collate.specs.Deployment.{IsDeployment}
use Rattle.circus_collate.specs.declared.view.View.{View}
use Rattle.circus_collate.specs.declared.deployment.Deployment.{Deployment}
use Rattle.circus_collate.specs.declared.deployment.Host.{Host}
use Rattle.circus_collate.specs.declared.deployment.Troupe.{Troupe}
use Rattle.circus_ring.specs.RingTable.{boot_views, boot_views_from}
use Rattle.circus_ring.proofs.Booting.{length_boot}
use Rattle.circus_model.specs.NextTurn.{NextTurn}
use Rattle.circus_model.specs.Behaviour.{Behaviour, IsModule}
use Rattle.circus_model.specs.Agree.{IsAt, AreModules, Agree}
use Rattle.circus_model.specs.Execution.{history_of}
use Rattle.circus_model.specs.declared.signature.Signature.{Signature}
use Rattle.circus_performing.specs.Record.{behaviour}
use Rattle.circus_wire.specs.WireActs.{WireActs, begun}
use Rattle.circus_member_rules.specs.declared.occurrence.Purpose.{Purpose}
use Rattle.circus_member_rules.specs.declared.occurrence.Effect.{Effect}
use Rattle.circus_member_rules.specs.declared.occurrence.Effect.TheVariants as made
use Rattle.circus_member_rules.specs.Step as member_step
use Rattle.circus_member_rules.specs.Seen.Sound.{IsRested}
use Rattle.circus_node.specs.Accepting.{troupe_at}
use Rattle.circus_node.specs.declared.event.Outputs.{Outputs}
use Rattle.circus_node.specs.Booting.{AreOfTroupes, IsHosted, home_in, home_of, made_at_boot, member_at_boot, boot_node, fresh_wire}
use Rattle.circus_node.specs.NodeState.{NodeState}
use Rattle.circus_node.specs.Making.{Made}
use Rattle.circus_node.proofs.BootLemmas.{is_home}
use Rattle.circus_world.specs.WorldState.{WorldState}
use Rattle.circus_world.specs.Boot.{before_any, all_booted, AreHosted}
use Rattle.circus_world.proofs.SlotLemmas.{get_there}
use Rattle.circus_world_theory.specs.NodeActs.{with_all, acts_at_boot}
use Rattle.circus_member_rules.specs.Proper.{AreProper}
use Rattle.circus_member_theory.specs.Truth.{IsLong, IsTrueMember, IsTrueEffect, IsTrueCallFor, IsTrueReturn}
use Rattle.circus_member_theory.proofs.Resting.{boot_rests}
use Rattle.circus_member_theory.proofs.Step.{boot_keeps_true}
use Rattle.circus_world_theory.proofs.Booted.{all_have_booted}
use Rattle.circus_world_theory.proofs.Handing.{IsMade, boot_said}
use Rattle.circus_world_theory.proofs.Saying.{AllSaid}
use Rattle.circus_world_theory.proofs.Stepping.{CalledAt, SaysTrue, NodesTrue, EndsTrue, concluded_ends}
use Rattle.circus_world_theory.proofs.True.{first_at, CallSo, ReturnSo, EffectSo, MakesTrue}

-- ---- the views at boot

views_long : (t : ℕ) (troupes : List Troupe) → All (λ (v : View). IsLong v.incarnation) (boot_views_from t troupes)
views_long t [] = All-nil (λ (v : View). IsLong v.incarnation)
views_long t (troupe ∷ troupes) = All-cons (λ (v : View). IsLong v.incarnation) _ (boot_views_from (t + 1) troupes) (omega arith) (views_long (t + 1) troupes)

-- a troupe of a node is one of the troupes
troupe_below : (d : Deployment) (node troupe : ℕ) → IsDeployment d → troupe_at d node ≡ Some troupe → troupe < length d.troupes
troupe_below d node troupe good is = by_host (slice_get d.nodes node) refl is
  where
    by_host : (o : Option Host) → slice_get d.nodes node ≡ o → option_and_then (λ (h : Host). h.module) o ≡ Some troupe → troupe < length d.troupes
    by_host None at found = absurd (let clash : ◌≡◌ {A = Option ℕ} None (Some troupe) = found in cc)
    by_host (Some h) at found = (good.nodes node h at).hosted troupe found

module _ {M : Type 0} (declared : M → Signature) (turn : M → List ValueTree → ℕ → List ValueTree → List Outcome → NextTurn) (first : M → List ValueTree)
    (lawful : (hosted : M) → IsModule (behaviour declared turn first hosted)) (modules : List M)
    (agree : Agree (map (behaviour declared turn first) modules)) (are : AreModules (map (behaviour declared turn first) modules))
    (proper : AreProper (map (behaviour declared turn first) modules))
    (d : Deployment) (good : IsDeployment d) (fit : AreOfTroupes d (map declared modules)) where
  abbrev program : List Behaviour
  program = map (behaviour declared turn first) modules

  -- ---- a node

  module _ (Called : Caller → List ℕ → Type 0) (node : ℕ) where
    abbrev Makes : Option ℕ → Made M → Type 0
    Makes own made = MakesTrue declared turn first program d Called own made

    -- a member of a troupe that hosts a module which does what the troupe's does
    module _ (number : ℕ) (hosted : M) (one : Troupe) (hosts : troupe_at d node ≡ Some number) (there : slice_get d.troupes number ≡ Some one)
        (at : IsAt program number (behaviour declared turn first hosted)) where
      home_is : home_of d node ≡ Some (home_in d node number one)
      home_is = ap (option_and_then (λ n. option_map (home_in d node n) (slice_get d.troupes n))) hosts ∙ ap (option_map (home_in d node number)) there

      same_first : first hosted ≡ first_at program number
      same_first = ap (λ (o : Option Behaviour). option_map_or (λ (b : Behaviour). b.first) o []) (sym at)

      declared_there : slice_get (map declared modules) number ≡ Some (declared hosted)
      declared_there = by_module (slice_get modules number) refl
        where
          seen : (o : Option M) → slice_get modules number ≡ o → option_map (behaviour declared turn first) o ≡ Some (behaviour declared turn first hosted)
          seen o found = sym (slice_get-map (behaviour declared turn first) modules number ∙ ap (option_map (behaviour declared turn first)) found) ∙ at

          by_module : (o : Option M) → slice_get modules number ≡ o → slice_get (map declared modules) number ≡ Some (declared hosted)
          by_module None found = absurd (none-some (behaviour declared turn first hosted) (seen None found))
          by_module (Some m) found =
              slice_get-map declared modules number ∙ ap (option_map declared) found ∙ ap (λ (b : Behaviour). Some b.declared) (same_Some _ _ (seen (Some m) found))

      effect_so : (e : Effect) → IsTrueEffect (history_of program) number (first hosted) Called e → EffectSo program Called (Some number) e
      effect_so (made.Call to message purpose) is = subst (λ f. IsTrueCallFor (history_of program) number f Called purpose message) same_first is
      effect_so (made.Answer caller message) is = subst (λ f. IsTrueReturn (history_of program) number f Called caller message) same_first is

      member_true : Makes (Some number) (member_at_boot declared turn first d (home_in d node number one) hosted)
      member_true =
          let home = home_in d node number one in
          let views = boot_views d.troupes in
          let boot_node = member_step.boot_member declared turn first home.place views home.beginning hosted in
          let stands = is_home d node home (declared hosted) good home_is (fit.each number (declared hosted) declared_there) in
          let many = length_boot d.troupes in
          let rests = boot_rests declared turn first lawful home.place views home.beginning hosted stands in
          let keeps = boot_keeps_true declared turn first lawful program agree are proper number Called home.place views home.beginning hosted refl stands at
          (many ∙ sym fit.one_each ∙ length-map modules declared ∙ sym (length-map modules (behaviour declared turn first))) (views_long 0 d.troupes) in
          record {
            acting = record {
              at = subst (λ (h : M). IsAt program number (behaviour declared turn first h)) (sym rests.hosted) at;
              rested = subst (λ (h : M). IsRested (behaviour declared turn first h) boot_node.member) (sym rests.hosted) rests.rested;
              of = record { views = ap (λ (vs : List View). length vs) rests.views ∙ many };
              is = subst (λ (h : M). IsTrueMember (history_of program) number (first h) Called boot_node.member) (sym rests.hosted) keeps.member;
            };
            effects = All-weaker (IsTrueEffect (history_of program) number (first hosted) Called) (EffectSo program Called (Some number)) effect_so boot_node.effects keeps.effects;
            differences = refl;
          }

    -- a node of a troupe
    by_hosted : (number : ℕ) (own : Option M) → troupe_at d node ≡ Some number → option_map (behaviour declared turn first) own ≡ slice_get program number
        → Makes (Some number) (made_at_boot declared turn first d (home_of d node) own)
    by_hosted number None hosts is =
        absurd (
        let below : number < length d.troupes = troupe_below d node number good hosts in
        let there = get_there program number (omega (arith, below, fit.one_each, length-map modules declared, length-map modules (behaviour declared turn first))) in
        none-some there.0 (is ∙ there.1))
    by_hosted number (Some hosted) hosts is =
        let one = get_there d.troupes number (troupe_below d node number good hosts) in
        subst (λ h. Makes (Some number) (made_at_boot declared turn first d h (Some hosted))) (sym (home_is number hosted one.0 hosts one.1 (sym is)))
        (member_true number hosted one.0 hosts one.1 (sym is))

    by_troupe : (own : Option M) (o : Option ℕ) → troupe_at d node ≡ o
        → option_map (behaviour declared turn first) own ≡ option_map (behaviour declared turn first) (option_and_then (slice_get modules) o)
        → Makes o (made_at_boot declared turn first d (home_of d node) own)
    by_troupe own None hosts is =
        subst (λ h. Makes None (made_at_boot declared turn first d h own))
        (sym (ap (option_and_then (λ n. option_map (home_in d node n) (slice_get d.troupes n))) hosts))
        (record { acting = tt; effects = All-nil (EffectSo program Called None); differences = refl })
    by_troupe own (Some number) hosts is = by_hosted number own hosts (is ∙ sym (slice_get-map (behaviour declared turn first) modules number))

    made_true : (own : Option M) → IsHosted declared turn first d modules node own → Makes (troupe_at d node) (made_at_boot declared turn first d (home_of d node) own)
    made_true own hosts = by_troupe own (troupe_at d node) refl hosts

    booted_true : (own : Option M) (ended : NodeState M × Outputs) → IsHosted declared turn first d modules node own → boot_node declared turn first d own node ≡ Ok ended
        → EndsTrue declared turn first program d Called (troupe_at d node) (made_at_boot declared turn first d (home_of d node) own).came.effects ended
    booted_true own ended hosts is =
        let m = made_at_boot declared turn first d (home_of d node) own in
        concluded_ends declared turn first program d Called (troupe_at d node) (record { deployment = d; wire = fresh_wire d node; acting = m.acting; dropped = 0 }) [] m ended
        (made_true own hosts) refl is

  -- ---- all of them

  module _ (hosted : List (Option M)) (hosts : AreHosted declared turn first d modules hosted) where
    abbrev own_of : ℕ → Option M
    own_of node = option_and_then (λ own. own) (slice_get hosted node)

    abbrev at_boot : ℕ → WireActs Purpose
    at_boot node = with_all begun (acts_at_boot declared turn first d (own_of node) node)

    effect_made : (Called : Caller → List ℕ → Type 0) (own : Option ℕ) (e : Effect) → EffectSo program Called own e
        → IsMade (CallSo program Called own) (ReturnSo program Called own) e
    effect_made Called own (made.Call to message purpose) so = so
    effect_made Called own (made.Answer caller message) so = so

    says : (node : ℕ) (own : Option M) → All (EffectSo program (CalledAt d at_boot node) (troupe_at d node)) (made_at_boot declared turn first d (home_of d node) own).came.effects
        → AllSaid (CallSo program (CalledAt d at_boot node) (troupe_at d node)) (ReturnSo program (CalledAt d at_boot node) (troupe_at d node))
        (with_all begun (acts_at_boot declared turn first d own node))
    says node own so =
        let Called = CalledAt d at_boot node in
        let OfCall = CallSo program Called (troupe_at d node) in
        let OfReturn = ReturnSo program Called (troupe_at d node) in
        let effects = (made_at_boot declared turn first d (home_of d node) own).came.effects in
        boot_said OfCall OfReturn begun (fresh_wire d node) effects tt
        (All-weaker (EffectSo program Called (troupe_at d node)) (IsMade OfCall OfReturn) (effect_made Called (troupe_at d node)) effects so)

    nothing_made : (node : ℕ) → (made_at_boot declared turn first d (home_of d node) None).came.effects ≡ []
    nothing_made node = elim (home_of d node) as (λ h. (made_at_boot declared turn first d h None).came.effects ≡ []) [ None ↦ refl | Some there ↦ refl ]

    boot_says : (node : ℕ) → SaysTrue program d at_boot node
    boot_says node = by_own (slice_get hosted node) refl
      where
        by_own : (o : Option (Option M)) → slice_get hosted node ≡ o → SaysTrue program d at_boot node
        by_own None at =
            let Called = CalledAt d at_boot node in
            subst (λ (o : Option (Option M)). AllSaid (CallSo program Called (troupe_at d node)) (ReturnSo program Called (troupe_at d node))
            (with_all begun (acts_at_boot declared turn first d (option_and_then (λ own. own) o) node))) (sym at)
            (says node None
            (subst (λ (l : List Effect). All (EffectSo program Called (troupe_at d node)) l) (sym (nothing_made node)) (All-nil (EffectSo program Called (troupe_at d node)))))
        by_own (Some own) at =
            let Called = CalledAt d at_boot node in
            subst (λ (o : Option (Option M)). AllSaid (CallSo program Called (troupe_at d node)) (ReturnSo program Called (troupe_at d node))
            (with_all begun (acts_at_boot declared turn first d (option_and_then (λ own. own) o) node))) (sym at)
            (says node own (made_true Called node own (hosts.each node own at)).effects)

    pub boot_true : (w : WorldState M) → all_booted declared turn first hosted (before_any d modules) ≡ Ok w → NodesTrue declared turn first program d at_boot w
    boot_true w is =
        let so_far = all_have_booted declared turn first d hosted modules w is in
        record {
          deployment = so_far.deployment;
          nodes = λ node s at.
              let b = so_far.nodes node s at in
              (booted_true (CalledAt d at_boot node) node b.own (s.node, b.outputs) (hosts.each node b.own b.own_is) b.booted_is).acting;
          said = boot_says;
        }
