-- From boot on nothing that a node of a world makes is dropped at its border.
use Rattle.std.proofs.Common.{◌≡◌, ℕ, ◌<◌, List, [], length, map, Option, Some, Ok, refl, sym, subst}
use Rattle.std.specs.Prelude.{slice_get, option_map, option_and_then}
use Rattle.std.proofs.lemmas.Option.{slice_get_within}
use Rattle.circus_value.specs.ValueTree.{ValueTree}
use Rattle.circus_value.specs.declared.outcome.Outcome.{Outcome}
use Rattle.circus_collate.specs.Deployment.{IsDeployment}
use Rattle.circus_collate.specs.declared.deployment.Deployment.{Deployment}
use Rattle.circus_model.specs.NextTurn.{NextTurn}
use Rattle.circus_model.specs.declared.signature.Signature.{Signature}
use Rattle.circus_model.specs.Behaviour.{IsModule}
use Rattle.circus_performing.specs.Record.{behaviour}
use Rattle.circus_wire.specs.WireActs.{WireActs, begun}
use Rattle.circus_member_rules.specs.declared.occurrence.Purpose.{Purpose}
use Rattle.circus_node.specs.Booting.{AreOfTroupes, CanBoot}
use Rattle.circus_node.proofs.TroupeLemmas.{hosted_can_boot}
use Rattle.circus_schedule.specs.declared.line.Line.{Line}
use Rattle.circus_world.specs.WorldState.{WorldState}
use Rattle.circus_world.specs.Boot.{before_any, all_booted, AreHosted}
use Rattle.circus_world.specs.Lines.{Lead}
use Rattle.circus_world_theory.specs.NodeActs.{with_all, acts_at_boot}
use Rattle.circus_world_theory.proofs.Boots.{world_stands}
use Rattle.circus_world_theory.proofs.Booted.{all_have_booted}
use Rattle.circus_world_theory.proofs.Border.Boots.{BootHands, boot_hands, boot_at_border}
use Rattle.circus_world_theory.proofs.Border.Steps.{IsAtBorder}
use Rattle.circus_world_theory.proofs.Border.Worlds.{AreAtBorder, TakesLines, LinesAtBorder, lines_at_border}

module _ {M : Type 0} (declared : M → Signature) (turn : M → List ValueTree → ℕ → List ValueTree → List Outcome → NextTurn) (first : M → List ValueTree)
    (lawful : (hosted : M) → IsModule (behaviour declared turn first hosted)) (d : Deployment) (is : IsDeployment d)
    (modules : List M) (hosted : List (Option M)) (are : AreOfTroupes d (map declared modules)) (hosts : AreHosted declared turn first d modules hosted) where
  -- what has happened at the pairs of a node at boot
  abbrev pub at_boot : ℕ → WireActs Purpose
  at_boot node = with_all begun (acts_at_boot declared turn first d (option_and_then (λ own. own) (slice_get hosted node)) node)

  can_boot : (node : ℕ) (own : Option M) → slice_get hosted node ≡ Some own → CanBoot d node (option_map declared own)
  can_boot node own found = hosted_can_boot declared turn first d modules node own is are (subst (λ n. node < n) hosts.one_each (slice_get_within hosted node own found)) (hosts.each node own found)

  -- nothing that a node makes at boot is dropped
  pub boots_hand : (node : ℕ) (within : node < length d.nodes) (own : Option M) → slice_get hosted node ≡ Some own → BootHands declared turn first lawful d is node within own
  boots_hand node within own found = boot_hands declared turn first lawful d is node within own (can_boot node own found)

  -- each node of a world that has booted is at its border
  pub boot_world : (w : WorldState M) → all_booted declared turn first hosted (before_any d modules) ≡ Ok w → AreAtBorder declared turn first lawful d is at_boot w
  boot_world w goes node s at =
      let b = (all_have_booted declared turn first d hosted modules w goes).nodes node s at in
      let within = subst (λ n. node < n) hosts.one_each (slice_get_within hosted node b.own b.own_is) in
      subst (λ (o : Option (Option M)). IsAtBorder declared turn first lawful d is node
      (with_all begun (acts_at_boot declared turn first d (option_and_then (λ (x : Option M). x) o) node)) s.node) (sym b.own_is)
      (boot_at_border declared turn first lawful d is node within b.own (s.node, b.outputs) (can_boot node b.own b.own_is) b.booted_is)

  -- and so it is along lines, by none of which anything that is made is dropped
  pub world_at_border : (lines : List Line) (w last : WorldState M) → all_booted declared turn first hosted (before_any d modules) ≡ Ok w
      → TakesLines declared turn first lawful d is lines w → Lead declared turn lines w last
      → LinesAtBorder declared turn first lawful d is at_boot lines w last
  world_at_border lines w last goes takes lead =
      lines_at_border declared turn first lawful d is at_boot lines w last
      (world_stands declared turn first d hosted modules [] w w is are hosts goes refl) (boot_world w goes) takes lead
