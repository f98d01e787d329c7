use Rattle.std.proofs.Common.{ℕ, List, take, nat_cmp}
use Rattle.std.specs.Cmp.Lexicographic.{slice_cmp}
use Rattle.std.specs.BTreeMap.{get_by}
use Rattle.circus_check.specs.Scope.{import_named}
use Rattle.circus_check.specs.Seen.Programs.{modules_in, interfaces_in, IsImported}
use Rattle.circus_check.proofs.module.Program.all_imported.Given as goal

-- the imports so far
abbrev pub invariant-loop-name : goal.invariant-loop-name
invariant-loop-name l =
    (name : List ℕ) → IsImported (interfaces_in l.self) (modules_in l.self) (import_named (modules_in l.self) l.importing (take l.name-index l.imports) name) (get_by (λ k. slice_cmp nat_cmp name k.now) l.imported)
