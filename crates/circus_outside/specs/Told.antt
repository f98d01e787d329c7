-- What the world outside tells, where it tells anything.
use Rattle.std.specs.Prelude.{Option, Some, None, List, ◌++◌}

-- what is told once these items have come at its end; where nothing is told, nothing
abbrev pub told_more : {A : Type 0} → Option (List A) → List A → Option (List A)
told_more None items = None
told_more (Some told) items = Some (told ++ items)
