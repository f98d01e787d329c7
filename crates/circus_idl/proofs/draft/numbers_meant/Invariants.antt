use Rattle.std.proofs.Common.{◌≡◌, ◌++◌, drop}
use Rattle.circus_fault.specs.Seen.Tables.{known_of}
use Rattle.circus_idl.specs.Means.{numbers_meant}
use Rattle.circus_idl.proofs.draft.numbers_meant.Given as goal

-- the numbers that are left follow those that are written
abbrev pub invariant-loop-name : goal.invariant-loop-name
invariant-loop-name l = l.numbers ++ numbers_meant (known_of l.errors) (drop l.name-index l.names) ≡ numbers_meant (known_of l.errors) l.names
