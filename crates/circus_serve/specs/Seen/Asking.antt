-- What a link was given by a part of the code that serves, which neither binds it nor takes from it.
use Rattle.std.specs.Prelude.{ℕ, List, Result, Ok, Err}
use Rattle.circus_serve.specs.Outside.{Tells, IsAsked}
use Rattle.circus_serve.specs.Giving.{gives_alone, IsPart, HasLacked}
use Rattle.circus_serve.specs.declared.fault.ServeFault.{ServeFault}
use Rattle.circus_serve.specs.declared.fault.ServeFault.TheVariants as fault

-- all was given in a row of calls, behind which the node may have had no number left, or a part
abbrev pub HasGiven : {A : Type 0} → Tells → Tells → List (ℕ × List ℕ) → Result A ServeFault → Type 0
HasGiven old new whole (Ok answer) = IsAsked old new (gives_alone whole)
HasGiven old new whole (Err (fault.Spent node)) = IsAsked old new (gives_alone whole)
HasGiven old new whole (Err fault.LinkFailed) = HasLacked old new whole
HasGiven old new whole (Err fault.NoMemory) = IsPart old new whole
