use Rattle.std.proofs.Common.{drop}
use Rattle.circus_fault.specs.Seen.Tables.{known_of}
use Rattle.circus_idl.specs.declared.interface.Interface.{Interface}
use Rattle.circus_check.proofs.FirstOfName.{Tells}
use Rattle.circus_check.proofs.naming.interface_numbers.Given as goal

abbrev pub invariant-loop-number : goal.invariant-loop-number
invariant-loop-number l = Tells (λ (i : Interface). i.name) (known_of l.numbers) l.number (drop l.number l.interfaces) l.interfaces
