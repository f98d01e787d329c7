use Rattle.std.proofs.Common.{drop}
use Rattle.circus_fault.specs.Seen.Tables.{known_of}
use Rattle.circus_idl.specs.declared.interface.Procedure.{Procedure}
use Rattle.circus_check.proofs.FirstOfName.{Tells}
use Rattle.circus_check.proofs.procedures.places.Given as goal

abbrev pub invariant-loop-place : goal.invariant-loop-place
invariant-loop-place l = Tells (λ (p : Procedure). p.name) (known_of l.places) l.place (drop l.place l.procedures) l.procedures
