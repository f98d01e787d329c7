use Rattle.std.proofs.Common.{◌≡◌, ℕ, List, ◌⊎◌, inl, inr, subst}
use Rattle.circus_place.specs.declared.place_fault.PlaceCause.{PlaceCause}
use Rattle.circus_place.specs.declared.place_fault.PlaceFault.{PlaceFault}
use Rattle.circus_place.specs.declared.place_fault.PlaceFault.TheVariants.{Refused, NoMemory}
use Rattle.circus_place.specs.ReadAs.{IsRefused}
use Rattle.circus_commands.proofs.placed.end_of_placing.Goals as goal

is_refused : (text : List ℕ) (fault : PlaceFault) (number : ℕ) (cause : PlaceCause) → fault ≡ Refused number cause → (fault ≡ NoMemory) ⊎ IsRefused text fault → IsRefused text (Refused number cause)
is_refused text fault number cause is (inl none) = absurd (cc)
is_refused text fault number cause is (inr refused) = subst (λ f. IsRefused text f) is refused

pub returns-in_ok-refused-in-Err-Refused-clause-ending : goal.returns-in_ok-refused-in-Err-Refused-clause-ending
returns-in_ok-refused-in-Err-Refused-clause-ending c =
    let refused = is_refused c.args.text.now c.in-Err-Refused.field-0 c.in-Err-Refused.number c.in-Err-Refused.cause c.in-Err-Refused.field-0-is c.in-Err-Refused.ensures.err in
    inr (c.in-Err-Refused.number, c.in-Err-Refused.cause, refused, c.in_ok-refused-in-Err-Refused.ensures.ending)
