use Rattle.std.proofs.Common.{◌++◌, ◌∷◌, [], ◌∙◌, ap, sym}
use Rattle.std.proofs.lemmas.List.{append-nil}
use Rattle.circus_check.specs.Seen.Tables.{those_there}
use Rattle.circus_check.proofs.BodiesPlaced.{there_append}
use Rattle.circus_check.proofs.procedures.bodies.Goals as goal

-- an empty place adds nothing
pub loop-slot-preserved : goal.loop-slot-preserved
loop-slot-preserved c =
    let places = c.loop-slot.yielded in
    c.loop-slot.invariant
    ∙ sym (there_append places (c.in-Some.slot ∷ []) ∙ ap (λ o. those_there places ++ those_there (o ∷ [])) c.in-None-slot.is ∙ append-nil (those_there places))
