-- The messages of a world of behaviours are true, as those of modules that behave so are, and no replies differ in it.
use Rattle.std.proofs.Common.{◌≡◌, ℕ, ◌+◌, List, [], map, Option, None, Some, Ok, Err, refl, sym, ap, subst, ◌∙◌}
use Rattle.std.specs.Prelude.{slice_get, option_map}
use Rattle.std.proofs.lemmas.Option.{none-some, same_Some, slice_get-map}
use Rattle.circus_collate.specs.declared.deployment.Deployment.{Deployment}
use Rattle.circus_model.specs.Behaviour.{Behaviour}
use Rattle.circus_wire.specs.WireActs.{WireActs}
use Rattle.circus_member_rules.specs.declared.occurrence.Purpose.{Purpose}
use Rattle.circus_node.specs.declared.event.Event.{Event}
use Rattle.circus_node.specs.declared.event.Outputs.{Outputs}
use Rattle.circus_node.specs.NodeState.{NodeState}
use Rattle.circus_node.specs.Step as node_step
use Rattle.circus_schedule.specs.declared.line.Line.{Line}
use Rattle.circus_node.specs.Alike.{declared_of, turn_of, first_of, node_as, ended_as}
use Rattle.circus_node.proofs.NodesAlike.{node_stepped_as}
use Rattle.circus_world.specs.WorldState.{WorldState, Standing}
use Rattle.circus_world.specs.Alike.{standing_as}
use Rattle.circus_world_theory.specs.Histories.{comes_by, acts_of}
use Rattle.circus_world_theory.specs.Worlds.{IsPlainWorldOf}
use Rattle.circus_world_theory.specs.Agreeing.{AsksAreTrue, ReturnsAreTrue, OthersCiteNothing, NoneDiffer}
use Rattle.circus_world_theory.proofs.ActsAlike.{acts_as, comes_as}
use Rattle.circus_world_theory.proofs.Lawful as lawful
use Rattle.circus_world_theory.proofs.Lawful.{Lawful}
use Rattle.circus_world_theory.proofs.Theorem.{asks_are_true, returns_are_true, others_cite_nothing, none_differ}

-- ---- replies

differ_as : (end : node_step.Ended Lawful) (ended : NodeState Behaviour × Outputs)
    → ((e : NodeState Lawful × Outputs) → end ≡ Ok e → e.1.differences ≡ [])
    → ended_as lawful.declared lawful.turn lawful.first end ≡ Ok ended → ended.1.differences ≡ []
differ_as (Ok e) ended none is =
    let same : ◌≡◌ {A = NodeState Behaviour × Outputs} (node_as lawful.declared lawful.turn lawful.first e.0, e.1) ended = cc in
    ap (λ (x : NodeState Behaviour × Outputs). x.1.differences) (sym same) ∙ none e refl
differ_as (Err node) ended none is = absurd (let clash : ◌≡◌ {A = node_step.Ended Behaviour} (Err node) (Ok ended) = is in cc)

seen_none_differ : (w : WorldState Lawful) → NoneDiffer lawful.declared lawful.turn w → NoneDiffer declared_of turn_of (lawful.seen w)
seen_none_differ w none = λ line node event s ended came at stepped_is.
    by_node line node event s ended (sym (comes_as lawful.declared lawful.turn lawful.first line w) ∙ came) (slice_get w.nodes node) refl
    (sym (slice_get-map (standing_as lawful.declared lawful.turn lawful.first) w.nodes node) ∙ at) stepped_is
  where
    by_node : (line : Line) (node : ℕ) (event : Event) (s : Standing Behaviour) (ended : NodeState Behaviour × Outputs) → comes_by line w ≡ Some (node, event)
        → (o : Option (Standing Lawful)) → slice_get w.nodes node ≡ o → option_map (standing_as lawful.declared lawful.turn lawful.first) o ≡ Some s
        → node_step.step_node declared_of turn_of (w.steps + 1) event s.node ≡ Ok ended → ended.1.differences ≡ []
    by_node line node event s ended came None there at stepped_is = absurd (none-some s at)
    by_node line node event s ended came (Some t) there at stepped_is =
        let same : standing_as lawful.declared lawful.turn lawful.first t ≡ s = same_Some _ _ at in
        differ_as (node_step.step_node lawful.declared lawful.turn (w.steps + 1) event t.node) ended
        (λ e is. none line node event t e came there is)
        (node_stepped_as lawful.declared lawful.turn lawful.first (w.steps + 1) event t.node
        ∙ ap (λ (v : Standing Behaviour). node_step.step_node declared_of turn_of (w.steps + 1) event v.node) same ∙ stepped_is)

-- ---- a world of behaviours

module _ (d : Deployment) (program : List Behaviour) (hosted : List (Option Behaviour)) (lines : List Line) (booted last : WorldState Behaviour)
    (world : IsPlainWorldOf d program hosted lines booted last) where
  abbrev modules : List Lawful
  modules = lawful.modules d program hosted lines booted last world

  abbrev hosts : List (Option Lawful)
  hosts = lawful.own_hosted d program hosted lines booted last world

  modules_are : map lawful.one modules ≡ program
  modules_are = lawful.modules_are d program hosted lines booted last world

  abbrev begun : WorldState Lawful
  begun = (lawful.boots d program hosted lines booted last world).world

  -- what has happened at the pairs is what has happened at those of the modules
  pub acts_are : (λ node. acts_of lawful.declared lawful.turn lawful.first d hosts lines begun node)
      ≡ acts_of declared_of turn_of first_of d hosted lines booted
  acts_are = λ i node.
      (sym (acts_as lawful.declared lawful.turn lawful.first node d hosts lines begun)
      ∙ ap (λ (l : List (Option Behaviour)). acts_of declared_of turn_of first_of d l lines (lawful.seen begun) node)
      (lawful.hosted_are d program hosted lines booted last world)
      ∙ ap (λ (w : WorldState Behaviour). acts_of declared_of turn_of first_of d hosted lines w node)
      (lawful.boots d program hosted lines booted last world).same) i

  pub plain_asks_are_true : AsksAreTrue program d (acts_of declared_of turn_of first_of d hosted lines booted)
  plain_asks_are_true =
      subst (λ (l : List Behaviour). AsksAreTrue l d (acts_of declared_of turn_of first_of d hosted lines booted)) modules_are
      (subst (λ (acts : ℕ → WireActs Purpose). AsksAreTrue (map lawful.one modules) d acts) acts_are
      (asks_are_true lawful.declared lawful.turn lawful.first lawful.all_lawful d modules hosts lines begun
      (lawful.leads d program hosted lines booted last world).world (lawful.lawful_world d program hosted lines booted last world)))

  pub plain_returns_are_true : ReturnsAreTrue program d (acts_of declared_of turn_of first_of d hosted lines booted)
  plain_returns_are_true =
      subst (λ (l : List Behaviour). ReturnsAreTrue l d (acts_of declared_of turn_of first_of d hosted lines booted)) modules_are
      (subst (λ (acts : ℕ → WireActs Purpose). ReturnsAreTrue (map lawful.one modules) d acts) acts_are
      (returns_are_true lawful.declared lawful.turn lawful.first lawful.all_lawful d modules hosts lines begun
      (lawful.leads d program hosted lines booted last world).world (lawful.lawful_world d program hosted lines booted last world)))

  pub plain_others_cite_nothing : OthersCiteNothing d (acts_of declared_of turn_of first_of d hosted lines booted)
  plain_others_cite_nothing =
      subst (λ (acts : ℕ → WireActs Purpose). OthersCiteNothing d acts) acts_are
      (others_cite_nothing lawful.declared lawful.turn lawful.first lawful.all_lawful d modules hosts lines begun
      (lawful.leads d program hosted lines booted last world).world (lawful.lawful_world d program hosted lines booted last world))

  pub plain_none_differ : NoneDiffer declared_of turn_of last
  plain_none_differ =
      let leads = lawful.leads d program hosted lines booted last world in
      subst (λ (w : WorldState Behaviour). NoneDiffer declared_of turn_of w) leads.same
      (seen_none_differ leads.world
      (none_differ lawful.declared lawful.turn lawful.first lawful.all_lawful d modules hosts lines begun leads.world
      (lawful.lawful_world d program hosted lines booted last world)))
