-- What a fetch leaves.
use Rattle.std.specs.Prelude.{◌≡◌, ℕ, Option, Result, Ok, Err, List, [], ◌∷◌}
use Rattle.circus_outside.specs.Faults.{Rose}
use Rattle.circus_outside.specs.Told.{told_more}
use Rattle.circus_outside.specs.declared.shelf.ShelfFault.{ShelfFault}
use Rattle.circus_outside.specs.declared.shelf.ShelfFault.TheVariants.{NoMemory, Failed}

-- the count rises in a failed call, and in no other
abbrev pub ShelfCounts : {A : Type 0} → Result A ShelfFault → ℕ → ℕ → Type 0
ShelfCounts (Ok answer) old new = new ≡ old
ShelfCounts (Err NoMemory) old new = new ≡ old
ShelfCounts (Err Failed) old new = Rose old new

-- the names told after a fetch: this one too, unless it found no memory
abbrev pub names_after : {A : Type 0} → Result A ShelfFault → Option (List (List ℕ)) → List ℕ → Option (List (List ℕ))
names_after (Ok answer) names name = told_more names (name ∷ [])
names_after (Err NoMemory) names name = names
names_after (Err Failed) names name = told_more names (name ∷ [])
