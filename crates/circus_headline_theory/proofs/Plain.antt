-- The headline is kept in every world of behaviours that keep to the laws of modules and agree.
use Rattle.std.proofs.Common.{◌≡◌, List, [], ◌∷◌, map, Option, refl, sym, ap, subst, ◌∙◌}
use Rattle.std.specs.Prelude.{slice_get}
use Rattle.std.specs.Option.{option_map_or}
use Rattle.circus_collate.specs.declared.deployment.Deployment.{Deployment}
use Rattle.circus_collate.specs.declared.view.View.{View}
use Rattle.circus_model.specs.Behaviour.{Behaviour}
use Rattle.circus_node.specs.NodeState.{Acting, member, ringmaster, ring_views}
use Rattle.circus_schedule.specs.declared.line.Line.{Line}
use Rattle.circus_node.specs.Alike.{acting_as}
use Rattle.circus_world.specs.Alike.{standing_as}
use Rattle.circus_world.specs.WorldState.{WorldState, Standing}
use Rattle.circus_world_theory.specs.Worlds.{IsPlainWorldOf}
use Rattle.circus_world_theory.proofs.Lawful as lawful
use Rattle.circus_world_theory.proofs.Lawful.{Lawful, acting_recorded}
use Rattle.circus_headline_theory.specs.Facts.{Facts, NodeFacts, node_facts, ring_facts, facts_of}
use Rattle.circus_headline_theory.specs.Headline.{Headline}
use Rattle.circus_headline_theory.proofs.Headlines.{AreNodeRuns, keeps_headline}

-- ---- the facts of a world whose modules are seen as behaviours

abbrev one : Standing Lawful → Standing Behaviour
one s = standing_as lawful.declared lawful.turn lawful.first s

node_same : (s : Standing Lawful) → node_facts (one s) ≡ node_facts s
node_same s = ap (λ m. let n : NodeFacts = record { member = m; crashed = s.crashed } in n) (acting_recorded s.node.acting)

nodes_same : (nodes : List (Standing Lawful)) → map node_facts (map one nodes) ≡ map node_facts nodes
nodes_same [] = refl
nodes_same (s ∷ nodes) = (λ i. node_same s i ∷ nodes_same nodes i)

ring_same : (a : Acting Lawful) → ring_views (acting_as lawful.declared lawful.turn lawful.first a) ≡ ring_views a
ring_same (member m) = refl
ring_same (ringmaster kept) = refl

views_same : (nodes : List (Standing Lawful)) → option_map_or ring_facts (slice_get (map one nodes) 0) [] ≡ option_map_or ring_facts (slice_get nodes 0) []
views_same [] = refl
views_same (s ∷ nodes) = ap (λ (o : Option (List View)). option_map_or (λ views. views) o []) (ring_same s.node.acting)

facts_same : (w : WorldState Lawful) → facts_of (lawful.seen w) ≡ facts_of w
facts_same w = (λ i. record { sent = w.sent; nodes = nodes_same w.nodes i; views = views_same w.nodes i })

-- ---- a world of behaviours

pub plain_worlds_keep : AreNodeRuns lawful.declared lawful.turn lawful.first → (d : Deployment) (program : List Behaviour) (hosted : List (Option Behaviour)) (lines : List Line)
    (begun last : WorldState Behaviour) → IsPlainWorldOf d program hosted lines begun last → Headline d program lines (facts_of last)
plain_worlds_keep are_runs d program hosted lines begun last world =
    let modules = lawful.modules d program hosted lines begun last world in
    let boots = lawful.boots d program hosted lines begun last world in
    let leads = lawful.leads d program hosted lines begun last world in
    subst (λ (l : List Behaviour). Headline d l lines (facts_of last)) (lawful.modules_are d program hosted lines begun last world)
    (subst (λ (f : Facts). Headline d (map lawful.one modules) lines f) (sym (facts_same leads.world) ∙ ap (λ (w : WorldState Behaviour). facts_of w) leads.same)
    (keeps_headline lawful.declared lawful.turn lawful.first lawful.all_lawful are_runs d modules (lawful.own_hosted d program hosted lines begun last world) lines boots.world leads.world
    (lawful.lawful_world d program hosted lines begun last world)))
