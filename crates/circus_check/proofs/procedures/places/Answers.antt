use Rattle.std.proofs.Common.{ℕ, ◌+◌, List, drop, subst}
use Rattle.circus_fault.specs.Seen.Tables.{known_of}
use Rattle.circus_type.proofs.Dropped.{drop_more}
use Rattle.circus_idl.specs.declared.interface.Procedure.{Procedure}
use Rattle.circus_check.proofs.FirstOfName.{Tells, more}
use Rattle.circus_check.proofs.procedures.places.Goals as goal

pub loop-place-preserved : goal.loop-place-preserved
loop-place-preserved c =
    let named : Procedure → List ℕ = λ p. p.name in
    let xs = c.in-Some.procedures.now in
    let i = c.loop-place.place in
    let x = c.index-procedures-place.result in
    let left = drop_more xs i x c.loop-place-test.true c.index-procedures-place.is in
    more named (known_of c.loop-place.places) (known_of c.first_place.new.names) i x (drop (i + 1) xs) xs
    c.in_ok-first_place.ensures (subst (λ rest. Tells named (known_of c.loop-place.places) i rest xs) left c.loop-place.invariant)
