-- A picture by what it is put of.
use Rattle.std.proofs.Common.{◌≡◌, ℕ, List, ◌++◌, length, map, Option, ap, ◌∙◌}
use Rattle.circus_collate.specs.declared.deployment.Host.{Host}
use Rattle.circus_idl.specs.declared.interface.Procedure.{Procedure}
use Rattle.circus_record.specs.Naming.{Names}
use Rattle.circus_schedule.specs.declared.line.Line.{Line}
use Rattle.circus_world.specs.Sent.{Sent}
use Rattle.circus_world.specs.WorldState.{WorldState, Standing}
use Rattle.circus_picture.specs.Row.{width}
use Rattle.circus_picture.specs.Deeds.{deeds_of}
use Rattle.circus_picture.specs.Rows.{Scene, left_below, left_rows}
use Rattle.circus_picture.specs.Picture.{beginning, middle, scene_in, picture_text}

module _ {M : Type 0} (names : Names) (procedures : List (List Procedure)) (w : WorldState M) where
  -- the scene of a world, part by part
  pub scene-is : (own : Names) (told : List (List Procedure)) (wide : ℕ) (crashes : List (Option ℕ)) (sent : List Sent)
      → own ≡ names → told ≡ procedures → wide ≡ width w.deployment.nodes → crashes ≡ map (λ (s : Standing M). s.crashed) w.nodes → sent ≡ w.sent
      → ◌≡◌ {A = Scene} (record { names = own; procedures = told; width = wide; crashes = crashes; sent = sent }) (scene_in names procedures w)
  scene-is own told wide crashes sent named declared widths crashed all =
      ap {B = Scene} (λ (x : Names). record { names = x; procedures = told; width = wide; crashes = crashes; sent = sent }) named
      ∙ ap {B = Scene} (λ (x : List (List Procedure)). record { names = names; procedures = x; width = wide; crashes = crashes; sent = sent }) declared
      ∙ ap {B = Scene} (λ (x : ℕ). record { names = names; procedures = procedures; width = x; crashes = crashes; sent = sent }) widths
      ∙ ap {B = Scene} (λ (x : List (Option ℕ)). record { names = names; procedures = procedures; width = width w.deployment.nodes; crashes = x; sent = sent }) crashed
      ∙ ap {B = Scene} (λ (x : List Sent). record { names = names; procedures = procedures; width = width w.deployment.nodes; crashes = map (λ (s : Standing M). s.crashed) w.nodes; sent = x }) all

  -- the picture, by the scene, the nodes and what is left
  pub picture-is : (lines : List Line) (scene : Scene) (hosts : List Host) (left : List ℕ)
      → scene ≡ scene_in names procedures w → hosts ≡ w.deployment.nodes → left ≡ left_below lines (length w.sent)
      → beginning hosts ++ middle scene (deeds_of 0 w.nodes) lines ++ left_rows scene (length lines) left ≡ picture_text names procedures lines w
  picture-is lines scene hosts left drawn nodes never =
      let deeds = deeds_of 0 w.nodes in
      ap (λ (s : Scene). beginning hosts ++ middle s deeds lines ++ left_rows s (length lines) left) drawn
      ∙ ap (λ (h : List Host). beginning h ++ middle (scene_in names procedures w) deeds lines ++ left_rows (scene_in names procedures w) (length lines) left) nodes
      ∙ ap (λ (l : List ℕ). beginning w.deployment.nodes ++ middle (scene_in names procedures w) deeds lines ++ left_rows (scene_in names procedures w) (length lines) l) never
