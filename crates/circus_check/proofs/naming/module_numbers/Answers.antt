use Rattle.std.proofs.Common.{ℕ, ◌+◌, List, map, drop, subst}
use Rattle.circus_fault.specs.Seen.Tables.{known_of}
use Rattle.circus_type.proofs.Dropped.{drop_more}
use Rattle.circus_lang.specs.ModuleTree.{ModuleTree, module_of}
use Rattle.circus_check.proofs.FirstOfName.{Tells, more}
use Rattle.circus_check.proofs.naming.module_numbers.Goals as goal

pub loop-number-preserved : goal.loop-number-preserved
loop-number-preserved c =
    let named : ModuleTree → List ℕ = λ m. m.name.name in
    let ms = c.args.modules.now in
    let i = c.loop-number.number in
    let m = c.index-modules-number.result in
    let left = drop_more ms i m c.loop-number-test.true c.index-modules-number.is in
    more named (known_of c.loop-number.numbers) (known_of c.first_place.new.names) i (module_of m) (map module_of (drop (i + 1) ms)) (map module_of ms)
    c.in_ok-first_place.ensures (subst (λ rest. Tells named (known_of c.loop-number.numbers) i (map module_of rest) (map module_of ms)) left c.loop-number.invariant)
