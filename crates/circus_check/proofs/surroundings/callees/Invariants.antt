use Rattle.std.proofs.Common.{◌≡◌, ℕ, List, take, nat_cmp}
use Rattle.std.specs.Cmp.Lexicographic.{slice_cmp}
use Rattle.std.specs.BTreeMap.{get_by}
use Rattle.circus_body.specs.Seen.Named.{called_or}
use Rattle.circus_check.specs.Scope.{import_named, called_by}
use Rattle.circus_check.specs.Seen.Programs.{modules_in, interfaces_in}
use Rattle.circus_check.proofs.surroundings.callees.Given as goal

-- the imports so far
abbrev pub invariant-loop-name : goal.invariant-loop-name
invariant-loop-name l =
    (name : List ℕ) → called_or (get_by (λ k. slice_cmp nat_cmp name k.now) l.callees)
    ≡ called_by (interfaces_in l.program) (modules_in l.program) (import_named (modules_in l.program) l.own.number (take l.name-index l.name-items) name)
