-- The picture of a run.
use Rattle.std.specs.Prelude.{ℕ, ◌+◌, List, [], ◌∷◌, ◌++◌, length, map, codes, None, slice_get, Option}
use Rattle.std.specs.Option.{option_map_or}
use Rattle.std.specs.List.{flat_map}
use Rattle.circus_collate.specs.declared.deployment.Host.{Host}
use Rattle.circus_idl.specs.declared.interface.Procedure.{Procedure}
use Rattle.circus_idl.specs.declared.interface.Interface.{Interface}
use Rattle.circus_check.specs.declared.checked.ResolvedModule.{ResolvedModule}
use Rattle.circus_config.specs.declared.plan.Plan.{Plan}
use Rattle.circus_record.specs.Line.{line}
use Rattle.circus_record.specs.Naming.{Names}
use Rattle.circus_schedule.specs.declared.line.Line.{Line}
use Rattle.circus_world.specs.WorldState.{WorldState, Standing}
use Rattle.circus_picture.specs.Row.{width, names_field, row}
use Rattle.circus_picture.specs.Deeds.{Deed, deeds_of, deeds_in}
use Rattle.circus_picture.specs.Rows.{Scene, line_row, deed_row, left_below, left_rows}

-- ---- procedures of a program

-- those of an interface, if there is one
abbrev pub procedures_of : List Interface → Option ℕ → List Procedure
procedures_of interfaces interface =
    option_map_or (λ number. option_map_or (λ (i : Interface). i.procedures) (slice_get interfaces number) []) interface []

-- those of each module, as its interface declares them; a root has none
abbrev pub procedures_in : Plan → List (List Procedure)
procedures_in plan = map (λ (m : ResolvedModule). procedures_of plan.checked.interfaces m.interface) plan.checked.modules

-- ---- the whole

abbrev pub first_line : List ℕ
first_line = line (codes "circus picture 1")

-- the nodes in their columns
abbrev pub names_row : List Host → List ℕ
names_row hosts = row None (names_field (width hosts) hosts) []

-- what members did in a step
abbrev pub deed_rows : Scene → List Deed → ℕ → List ℕ
deed_rows scene deeds step = flat_map (deed_row scene) (deeds_in step deeds)

-- a line, and what members did in its step
abbrev pub step_rows : Scene → List Deed → ℕ → Line → List ℕ
step_rows scene deeds step line = line_row scene step line ++ deed_rows scene deeds step

-- lines, the first of which is this step
abbrev pub steps_rows : Scene → List Deed → ℕ → List Line → List ℕ
steps_rows scene deeds step [] = []
steps_rows scene deeds step (line ∷ others) = step_rows scene deeds step line ++ steps_rows scene deeds (step + 1) others

-- the first line and the names
abbrev pub beginning : List Host → List ℕ
beginning hosts = first_line ++ names_row hosts

-- what members did at boot, and lines, the first of which is step 1
abbrev pub middle : Scene → List Deed → List Line → List ℕ
middle scene deeds lines = deed_rows scene deeds 0 ++ steps_rows scene deeds 1 lines

module _ {M : Type 0} where
  -- a world in which lines were stepped
  abbrev pub scene_in : Names → List (List Procedure) → WorldState M → Scene
  scene_in names procedures w =
      record {
        names = names;
        procedures = procedures;
        width = width w.deployment.nodes;
        crashes = map (λ (s : Standing M). s.crashed) w.nodes;
        sent = w.sent;
      }

  -- the picture of the lines that led to a world, from boot on, by the names and the procedures of its modules
  abbrev pub picture_text : Names → List (List Procedure) → List Line → WorldState M → List ℕ
  picture_text names procedures lines w =
      let scene = scene_in names procedures w in
      let deeds = deeds_of 0 w.nodes in
      beginning w.deployment.nodes ++ middle scene deeds lines ++ left_rows scene (length lines) (left_below lines (length w.sent))
