-- What is read of a whole line.
use Rattle.std.specs.Prelude.{◌≡◌, ℕ, Bool, true, false, cond, List, Result, Ok, Err, Option, Some, None}
use Rattle.circus_value_text.specs.declared.unread.Unread.{Unread}
use Rattle.circus_value_text.specs.declared.unread.Unread.TheVariants as unread
use Rattle.circus_value_text.specs.Reading.{Read, is_empty}

-- what follows from what was read, and from what stands behind it
abbrev pub then_read : {A B : Type 0} → Read A → (A → List ℕ → Option B) → Option B
then_read (Some r) f = f r.0 r.1
then_read None f = None

-- what follows from something
abbrev pub from_some : {A B : Type 0} → Option A → (A → Option B) → Option B
from_some (Some a) f = f a
from_some None f = None

-- what stands behind a mark, or else something else
abbrev pub or_else : {B : Type 0} → Option (List ℕ) → (List ℕ → Option B) → Option B → Option B
or_else (Some inner) f other = f inner
or_else None f other = other

-- what was read, where nothing stands behind it
abbrev pub whole : {A : Type 0} → Read A → Option A
whole (Some r) = cond (is_empty r.1) (Some r.0) None
whole None = None

-- something, where a condition holds
abbrev pub only_if : {B : Type 0} → Bool → Option B → Option B
only_if b answer = cond b answer None

-- nothing stands behind a place, or something does
abbrev pub Ends : List ℕ → Result (Unit {0}) Unread → Type 0
Ends rest (Ok done) = is_empty rest ≡ true
Ends rest (Err unread.Unlike) = is_empty rest ≡ false
Ends rest (Err unread.NoMemory) = ⊥
