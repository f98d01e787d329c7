use Rattle.std.proofs.Common.{ℕ, List, ◌++◌, take, map}
use Rattle.circus_picture.specs.Deeds.{Deed, deeds_of_runs}
use Rattle.circus_picture.specs.Seen.Kept.{AreKept}
use Rattle.circus_picture.proofs.deeds.note_runs.Given as goal

-- the deeds of the runs before this one are added
abbrev pub invariant-loop-later : goal.invariant-loop-later
invariant-loop-later l =
    (count : ℕ) (before : List Deed) → AreKept count before (map (λ own. own.items) l.fn.steps.items)
    → AreKept count (before ++ deeds_of_runs l.node l.first (take l.later l.runs)) (map (λ own. own.items) l.steps.items)
