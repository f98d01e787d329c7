-- What a link was asked for and given in a call, where it tells.
use Rattle.std.specs.Prelude.{ℕ, ◌≡◌, List, Option}
use Rattle.circus_outside.specs.Told.{told_more}
use Rattle.circus_outside.specs.Link.{Taken}

-- what a link tells: the ports that it was bound to, what each take answered, and what it was given, and to which ports
pub record Tells : Type 0 where
  pub bound : Option (List ℕ)
  pub taken : Option (List Taken)
  pub given : Option (List (ℕ × List ℕ))

abbrev pub tells_of : Option (List ℕ) → Option (List Taken) → Option (List (ℕ × List ℕ)) → Tells
tells_of bound taken given = record { bound = bound; taken = taken; given = given }

-- what it was asked for in a call
pub record Asked : Type 0 where
  pub bound : List ℕ
  pub taken : List Taken
  pub given : List (ℕ × List ℕ)

-- this and nothing else
abbrev pub IsAsked : Tells → Tells → Asked → Type 0
IsAsked old new asked =
    (new.bound ≡ told_more old.bound asked.bound)
    × (new.taken ≡ told_more old.taken asked.taken)
    × (new.given ≡ told_more old.given asked.given)
