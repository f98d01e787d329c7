use Rattle.std.proofs.Common.{ℕ, ◌+◌, List, Option, take, subst}
use denote.Ref.{Bor}
use Rattle.circus_check.specs.declared.known.Known.{Known}
use Rattle.circus_check.specs.Naming.{Import}
use Rattle.circus_check.specs.Seen.Programs.{modules_in, interfaces_in, IsImported}
use Rattle.circus_check.proofs.Tables.{Puts}
use Rattle.circus_check.proofs.Importing.{take_next, imports_put}
use Rattle.circus_check.proofs.module.Program.all_imported.Goals as goal

pub loop-name-preserved : goal.loop-name-preserved
loop-name-preserved c =
    let modules = modules_in c.args.self.now in
    let interfaces = interfaces_in c.args.self.now in
    let ns = c.args.imports.now in
    let i = c.loop-name.name-index in
    let n = c.name-item.result in
    let m = c.loop-name.imported in
    let m' = c.insert.new.self in
    let P : List ℕ → Option Import → Option (Option (Bor Known)) → Type 0 = λ name e v. IsImported interfaces modules e v in
    let puts : Puts n.name m m' c.imported_interface.result = subst (λ b. Puts b m m' c.imported_interface.result) c.as_slice.ensures c.in_ok-insert.ensures.updates in
    imports_put P modules c.args.importing (take i ns) (take (i + 1) ns) n m m' c.imported_interface.result (take_next ns i n c.loop-name-test.true c.name-item.is) puts c.imported_interface.ensures c.loop-name.invariant
