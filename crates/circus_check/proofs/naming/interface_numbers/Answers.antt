use Rattle.std.proofs.Common.{ℕ, ◌+◌, List, drop, subst}
use Rattle.circus_fault.specs.Seen.Tables.{known_of}
use Rattle.circus_type.proofs.Dropped.{drop_more}
use Rattle.circus_idl.specs.declared.interface.Interface.{Interface}
use Rattle.circus_check.proofs.FirstOfName.{Tells, more}
use Rattle.circus_check.proofs.naming.interface_numbers.Goals as goal

pub loop-number-preserved : goal.loop-number-preserved
loop-number-preserved c =
    let named : Interface → List ℕ = λ i. i.name in
    let xs = c.args.interfaces.now in
    let i = c.loop-number.number in
    let x = c.index-interfaces-number.result in
    let left = drop_more xs i x c.loop-number-test.true c.index-interfaces-number.is in
    more named (known_of c.loop-number.numbers) (known_of c.first_place.new.names) i x (drop (i + 1) xs) xs
    c.in_ok-first_place.ensures (subst (λ rest. Tells named (known_of c.loop-number.numbers) i rest xs) left c.loop-number.invariant)
