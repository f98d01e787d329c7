-- What rows are drawn by, as the code has it.
use Rattle.std.specs.Prelude.{ℕ, ◌≡◌, ◌<◌, List, Bool, Some, slice_get}
use Rattle.circus_record.specs.Naming.{Names}
use Rattle.circus_schedule.specs.declared.line.Line.{Line}
use Rattle.circus_picture.specs.declared.rows.Scene as drawn
use Rattle.circus_picture.specs.Rows.{Scene, is_delivered}

-- by the names of what has them
abbrev pub scene_of : {N : Type 0} → (N → Names) → drawn.Scene N → Scene
scene_of named s =
    record {
      names = named s.names.now;
      procedures = s.procedures.now;
      width = s.columns.now.width;
      crashes = s.columns.now.crashes;
      sent = s.sent.now;
    }

-- of each of so many datagrams it is marked whether a line delivers it
abbrev pub AreMarked : ℕ → List Line → List Bool → Type 0
AreMarked count lines marks = (number : ℕ) → number < count → slice_get marks number ≡ Some (is_delivered lines number)
