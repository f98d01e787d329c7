-- What the calls of a link leave.
use Rattle.std.specs.Prelude.{◌≡◌, ◌≤◌, ℕ, Option, Result, Ok, Err, List, [], ◌∷◌, length}
use Rattle.circus_outside.specs.Limits.{longest_datagram}
use Rattle.circus_outside.specs.Faults.{Rose}
use Rattle.circus_outside.specs.Told.{told_more}
use Rattle.circus_outside.specs.declared.link.LinkFault.{LinkFault}
use Rattle.circus_outside.specs.declared.link.LinkFault.TheVariants.{NoMemory, Failed}
use Rattle.circus_outside.specs.declared.link.TakenFrom.{TakenFrom}
use Rattle.circus_outside.specs.declared.link.TakenFrom.TheVariants.{From, Nothing}

-- what a take answered: a datagram from a port, that none came, or that the link failed
pub data Taken : Type 0 where
  datagram : ℕ → List ℕ → Taken
  nothing : Taken
  failed : Taken

-- the answer of a take that didn't fail
abbrev pub taken_of : TakenFrom → Taken
taken_of (From port bytes) = datagram port bytes
taken_of Nothing = nothing

-- the count rises in a failed call, and in no other
abbrev pub LinkCounts : {A : Type 0} → Result A LinkFault → ℕ → ℕ → Type 0
LinkCounts (Ok answer) old new = new ≡ old
LinkCounts (Err NoMemory) old new = new ≡ old
LinkCounts (Err Failed) old new = Rose old new

-- a datagram has at most 2,048 bytes
abbrev pub IsCut : TakenFrom → Type 0
IsCut (From port bytes) = length bytes ≤ longest_datagram
IsCut Nothing = Unit {0}

-- the ports told after a bind: this one too, unless it found no memory
abbrev pub ports_after : {A : Type 0} → Result A LinkFault → Option (List ℕ) → ℕ → Option (List ℕ)
ports_after (Ok answer) ports port = told_more ports (port ∷ [])
ports_after (Err NoMemory) ports port = ports
ports_after (Err Failed) ports port = told_more ports (port ∷ [])

-- the answers told after a take: this one too, unless it found no memory
abbrev pub takes_after : Result TakenFrom LinkFault → Option (List Taken) → Option (List Taken)
takes_after (Ok answer) takes = told_more takes (taken_of answer ∷ [])
takes_after (Err NoMemory) takes = takes
takes_after (Err Failed) takes = told_more takes (failed ∷ [])

-- the datagrams told after a give: this one too, where it was sent
abbrev pub given_after : {A : Type 0} → Result A LinkFault → Option (List (ℕ × List ℕ)) → ℕ → List ℕ → Option (List (ℕ × List ℕ))
given_after (Ok answer) given port bytes = told_more given ((port, bytes) ∷ [])
given_after (Err fault) given port bytes = given
