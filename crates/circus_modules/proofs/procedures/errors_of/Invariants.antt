use Rattle.std.proofs.Common.{◌≡◌, ◌++◌, drop}
use Rattle.circus_modules.specs.InterfaceSignatures.{errors_numbered}
use Rattle.circus_modules.proofs.procedures.errors_of.Given as goal

-- the errors that are left follow those so far
abbrev pub invariant-loop-number : goal.invariant-loop-number
invariant-loop-number l = l.shapes ++ errors_numbered l.errors.errors.now (drop l.number-index l.numbers) ≡ errors_numbered l.errors.errors.now l.numbers
