use Rattle.circus_value.specs.ShapeTree.{sequence}
use Rattle.circus_machine.specs.Storing.{stored_over, appended_over}
use Rattle.circus_checked.specs.Sorts.{kind_of}
use Rattle.circus_machine.proofs.Assigning.{stored_well, over_fits, append_fits}
use Rattle.circus_machine.proofs.laws.stored_values_keep_shapes.Goals as goal

pub returns-clause-assigned : goal.returns-clause-assigned
returns-clause-assigned c = λ limit states shapes variables place s x well holds is. stored_well limit states shapes variables place s (stored_over x) holds well (λ old fit. over_fits s x old is fit)

pub returns-clause-appended : goal.returns-clause-appended
returns-clause-appended c = λ limit states shapes variables place bound s x well holds is.
    stored_well limit states shapes variables place (sequence bound s) (appended_over bound (kind_of s) x) holds well (λ old fit. append_fits bound s x old is fit)
