use Rattle.std.proofs.Common.{◌≡◌, ℕ, List, Some, option_map, take}
use Rattle.circus_check.specs.Naming.{Import}
use Rattle.circus_check.specs.Scope.{import_named}
use Rattle.circus_check.specs.Seen.Programs.{modules_in, types_in, types_now}
use Rattle.circus_check.specs.Seen.Scoped.{interface_in, known_in}
use Rattle.circus_check.proofs.surroundings.imported_types.Given as goal

-- the types of the imports so far
abbrev pub invariant-loop-name : goal.invariant-loop-name
invariant-loop-name l =
    (name : List ℕ) → types_in l.imported name ≡ option_map (λ (i : Import). types_now (known_in (interface_in l.own.types (Some name)))) (import_named (modules_in l.program) l.own.number (take l.name-index l.name-items) name)
