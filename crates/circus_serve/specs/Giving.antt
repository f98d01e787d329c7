-- What a link was given by a part of the code, which neither binds it nor takes from it.
use Rattle.std.specs.Prelude.{◌≡◌, ℕ, List, [], ◌++◌, Result, Ok, Err}
use Rattle.circus_outside.specs.declared.link.LinkFault.{LinkFault}
use Rattle.circus_outside.specs.declared.link.LinkFault.TheVariants as link
use Rattle.circus_serve.specs.Outside.{Tells, Asked, IsAsked}

-- it was given this alone
abbrev pub gives_alone : List (ℕ × List ℕ) → Asked
gives_alone given = record { bound = []; taken = []; given = given }

-- of what was to be given this part was given
pub record IsPart (old new : Tells) (whole : List (ℕ × List ℕ)) : Type 0 where
  pub given : List (ℕ × List ℕ)
  pub rest : List (ℕ × List ℕ)
  pub is : whole ≡ given ++ rest
  pub link : IsAsked old new (gives_alone given)

-- a part was given that lacks something
abbrev pub HasLacked : Tells → Tells → List (ℕ × List ℕ) → Type 0
HasLacked old new whole = (part : IsPart old new whole) × (part.rest ≡ [] → ⊥)

-- all was given in a row of calls, or a part
abbrev pub AreGiven : {A : Type 0} → Tells → Tells → List (ℕ × List ℕ) → Result A LinkFault → Type 0
AreGiven old new whole (Ok answer) = IsAsked old new (gives_alone whole)
AreGiven old new whole (Err link.Failed) = HasLacked old new whole
AreGiven old new whole (Err link.NoMemory) = IsPart old new whole
