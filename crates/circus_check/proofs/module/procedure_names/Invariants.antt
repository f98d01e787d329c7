use Rattle.std.proofs.Common.{◌≡◌, ℕ, List, ◌||◌, drop, map}
use Rattle.circus_fault.specs.Seen.Tables.{holds_name}
use Rattle.circus_lang.specs.ModuleTree.{procedure_of}
use Rattle.circus_check.specs.Faults.{has_procedure}
use Rattle.circus_check.proofs.module.procedure_names.Given as goal

-- the names so far and those that are left
abbrev pub invariant-loop-procedure : goal.invariant-loop-procedure
invariant-loop-procedure l = (name : List ℕ) → (holds_name l.names name || has_procedure (map procedure_of (drop l.procedure-index l.procedures)) name) ≡ has_procedure (map procedure_of l.procedures) name
