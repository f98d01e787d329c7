-- The fields of a return message's header, and which returns there are.
use Rattle.std.specs.Prelude.{◌≤◌, Bool, true, false, List, [], ◌∷◌, length, map}
use Rattle.circus_limits.specs.Limits.{most_modules}
use Rattle.circus_header.specs.Field.{Field, word, long}
use Rattle.circus_header.specs.CallFields.{IsIncarnation}
use Rattle.circus_header.specs.declared.answer.ReturnHeader.{ReturnHeader}
use Rattle.circus_header.specs.declared.answer.ReturnHeader.TheVariants.{Reply, Stale, Before, Snapshot, Table}

-- the kind of return, and its fields
abbrev pub return_fields : ReturnHeader → List Field
return_fields (Reply clock) = word 0 ∷ word (length clock) ∷ map long clock
return_fields (Stale incarnation) = word 1 ∷ long incarnation ∷ []
return_fields (Before first) = word 2 ∷ long first ∷ []
return_fields (Snapshot count) = word 3 ∷ long count ∷ []
return_fields Table = word 4 ∷ []

-- a return whose fields are in their ranges
abbrev pub IsReturn : ReturnHeader → Type 0
IsReturn (Reply clock) = (1 ≤ length clock) × (length clock ≤ most_modules)
IsReturn (Stale incarnation) = IsIncarnation incarnation
IsReturn (Before first) = Unit {0}
IsReturn (Snapshot count) = Unit {0}
IsReturn Table = Unit {0}

-- an outcome, a state or a view stands behind the header, or nothing
abbrev pub has_rest : ReturnHeader → Bool
has_rest (Reply clock) = true
has_rest (Stale incarnation) = false
has_rest (Before first) = false
has_rest (Snapshot count) = true
has_rest Table = true
