-- Each node of a world hands over what it makes.
use Rattle.std.proofs.Common.{◌≡◌, ℕ, ◌+◌, ◌<◌, ◌==◌, Bool, true, false, List, [], ◌∷◌, ◌++◌, map, length, Option, None, Some, refl, sym, ap, ◌∙◌}
use Rattle.std.specs.Prelude.{slice_get, option_and_then, if◌then◌else◌}
use Rattle.std.specs.Option.{option_map_or}
use Rattle.std.proofs.lemmas.Bool.{eqb-true}
use Rattle.circus_value.specs.ValueTree.{ValueTree}
use Rattle.circus_value.specs.declared.outcome.Outcome.{Outcome}
use Rattle.circus_collate.specs.Deployment.{IsDeployment}
use Rattle.circus_collate.specs.declared.deployment.Deployment.{Deployment}
use Rattle.circus_model.specs.Behaviour.{IsModule}
use Rattle.circus_model.specs.NextTurn.{NextTurn}
use Rattle.circus_model.specs.declared.signature.Signature.{Signature}
use Rattle.circus_performing.specs.Record.{behaviour}
use Rattle.circus_wire.specs.WireActs.{WireActs}
use Rattle.circus_member_rules.specs.declared.occurrence.Effect.{Effect}
use Rattle.circus_member_rules.specs.declared.occurrence.Purpose.{Purpose}
use Rattle.circus_node.specs.declared.event.Event.{Event}
use Rattle.circus_schedule.specs.declared.line.Line.{Line}
use Rattle.circus_world.specs.WorldState.{WorldState, Standing}
use Rattle.circus_world.specs.Lines.{Lead}
use Rattle.circus_world_theory.specs.Histories.{comes_by, with_line}
use Rattle.circus_world_theory.specs.NodeActs.{acts_at_boot}
use Rattle.circus_node.specs.Trace.{effects_in, effects_at_boot}
use Rattle.circus_world_theory.specs.Worlds.{IsWorldOf}
use Rattle.circus_world_theory.specs.Made.{act_of}
use Rattle.circus_world_theory.proofs.Border.BootWorlds.{at_boot}
use Rattle.circus_world_theory.proofs.Border.Whole.{nothing_is_dropped, boots_hand_all}
use Rattle.circus_world_theory.proofs.Border.Worlds.{HandsLine, HandsLines}
use Rattle.circus_headline_theory.specs.Owed.Living.{made_in}
use Rattle.circus_headline_theory.specs.Owed.Makes.{handed_in, as_handed, by_line, makes_then, hands_then, then_along, makes_along, hands_along, made_of, handed_of}

handed_as : (at : ℕ) (effects : List Effect) → handed_in at (map act_of effects) ≡ map as_handed (made_in at effects)
handed_as at [] = refl
handed_as at (e ∷ effects) = ap (λ l. (at, act_of e) ∷ l) (handed_as at effects)

handed-append : (xs ys : List (ℕ × Effect)) → map as_handed (xs ++ ys) ≡ map as_handed xs ++ map as_handed ys
handed-append [] ys = refl
handed-append (x ∷ xs) ys = ap (λ l. as_handed x ∷ l) (handed-append xs ys)

module _ {M : Type 0} (declared : M → Signature) (turn : M → List ValueTree → ℕ → List ValueTree → List Outcome → NextTurn) (first : M → List ValueTree)
    (lawful : (hosted : M) → IsModule (behaviour declared turn first hosted)) (d : Deployment) (good : IsDeployment d) (node : ℕ) where
  line_hands : (acts : ℕ → WireActs Purpose) (line : Line) (w : WorldState M) → HandsLine declared turn first lawful d good acts line w
      → by_line declared turn node (hands_then declared turn node) line w ≡ map as_handed (by_line declared turn node (makes_then declared turn node) line w)
  line_hands acts line w hands = by_came (comes_by line w) refl
    where
      by_standing : (came : ℕ × Event) → comes_by line w ≡ Some came → came.0 ≡ node → (o : Option (Standing M)) → slice_get w.nodes node ≡ o
          → option_map_or (λ (s : Standing M). hands_then declared turn node (w.steps + 1) came.1 s.node) o []
          ≡ map as_handed (option_map_or (λ (s : Standing M). makes_then declared turn node (w.steps + 1) came.1 s.node) o [])
      by_standing came is here None at = refl
      by_standing came is here (Some s) at =
          let all = (hands came.0 came.1 s is (ap (slice_get w.nodes) here ∙ at)).all in
          ap (handed_in (w.steps + 1)) all ∙ handed_as (w.steps + 1) (effects_in declared turn (w.steps + 1) came.1 s.node)

      by_node : (came : ℕ × Event) → comes_by line w ≡ Some came → (b : Bool) → (came.0 == node) ≡ b
          → (if b then option_map_or (λ (s : Standing M). hands_then declared turn node (w.steps + 1) came.1 s.node) (slice_get w.nodes node) [] else [])
          ≡ map as_handed (if b then option_map_or (λ (s : Standing M). makes_then declared turn node (w.steps + 1) came.1 s.node) (slice_get w.nodes node) [] else [])
      by_node came is true here = by_standing came is (eqb-true came.0 node here) (slice_get w.nodes node) refl
      by_node came is false other = refl

      by_came : (o : Option (ℕ × Event)) → comes_by line w ≡ o
          → option_map_or (λ (x : ℕ × Event). if x.0 == node then option_map_or (λ (s : Standing M). hands_then declared turn node (w.steps + 1) x.1 s.node) (slice_get w.nodes node) [] else []) o []
          ≡ map as_handed (option_map_or (λ (x : ℕ × Event). if x.0 == node then option_map_or (λ (s : Standing M). makes_then declared turn node (w.steps + 1) x.1 s.node) (slice_get w.nodes node) [] else []) o [])
      by_came None is = refl
      by_came (Some came) is = by_node came is (came.0 == node) refl

  lines_hand : (acts : ℕ → WireActs Purpose) (lines : List Line) (w last : WorldState M) → HandsLines declared turn first lawful d good acts lines w → Lead declared turn lines w last
      → hands_along declared turn node lines w ≡ map as_handed (makes_along declared turn node lines w)
  lines_hand acts [] w last hands lead = refl
  lines_hand acts (line ∷ lines) w last hands lead =
      let next : WorldState M = lead.0 in
      let e = lead.1.stepped_is in
      let rest = lines_hand (λ x. with_line declared turn x (acts x) line w) lines next last (hands.1 next e) lead.2 in
      let makes_now = by_line declared turn node (makes_then declared turn node) line w in
      (λ j. then_along (line_hands acts line w hands.0 j) (hands_along declared turn node lines) (e j))
      ∙ ap (λ l. map as_handed makes_now ++ l) rest
      ∙ sym (handed-append makes_now (makes_along declared turn node lines next))
      ∙ (λ j. map as_handed (then_along makes_now (makes_along declared turn node lines) (sym e j)))

module _ {M : Type 0} (declared : M → Signature) (turn : M → List ValueTree → ℕ → List ValueTree → List Outcome → NextTurn) (first : M → List ValueTree)
    (lawful : (hosted : M) → IsModule (behaviour declared turn first hosted)) where
  pub worlds_hand_over : (d : Deployment) (modules : List M) (hosted : List (Option M)) (lines : List Line) (begun last : WorldState M)
      → IsWorldOf declared turn first d modules hosted lines begun last → (node : ℕ) → node < length d.nodes → (own : Option M) → slice_get hosted node ≡ Some own
      → handed_of declared turn node first d hosted lines begun ≡ map as_handed (made_of declared turn node first d hosted lines begun)
  worlds_hand_over d modules hosted lines begun last world node within own found =
      let b = boots_hand_all declared turn first lawful d modules hosted lines begun last world node within own found in
      let own_is : option_and_then (λ (o : Option M). o) (slice_get hosted node) ≡ own = ap (option_and_then (λ (o : Option M). o)) found in
      let boots = b.all ∙ ap (λ o. map act_of (effects_at_boot declared turn first d o node)) (sym own_is) in
      let l = lines_hand declared turn first lawful d world.deployment node
      (at_boot declared turn first lawful d world.deployment modules hosted world.troupes world.hosts) lines begun last
      (nothing_is_dropped declared turn first lawful d modules hosted lines begun last world).hands world.leads in
      let at_boot_made = effects_at_boot declared turn first d (option_and_then (λ (o : Option M). o) (slice_get hosted node)) node in
      (λ j. handed_in 0 (acts_at_boot declared turn first d (own_is j) node) ++ l j)
      ∙ ap (λ acts. handed_in 0 acts ++ map as_handed (makes_along declared turn node lines begun)) boots
      ∙ ap (λ acts. acts ++ map as_handed (makes_along declared turn node lines begun)) (handed_as 0 at_boot_made)
      ∙ sym (handed-append (made_in 0 at_boot_made) (makes_along declared turn node lines begun))
