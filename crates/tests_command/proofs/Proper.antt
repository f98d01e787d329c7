-- The shapes and numbers of a tally are proper.
use Rattle.std.proofs.Common.{◌≡◌, ◌<◌, true, [], ◌∷◌, refl, arith}
use Rattle.circus_fault.proofs.Items.{of_each}
use Rattle.circus_external.specs.Refusal.{are_proper}
use Rattle.circus_transfer.specs.Snapshot.{fields_of}
use Rattle.circus_model.specs.LanguageError.{number_of}
use Rattle.circus_model.specs.declared.language_error.LanguageError.TheVariants.{Range}
use Rattle.circus_model.specs.declared.signature.ErrorShape.{ErrorShape}
use Rattle.circus_machine.specs.Tally.{add, tally_signature}
use Rattle.circus_member_rules.specs.Proper.{IsProperProcedure, IsProperModule}

add_proper : IsProperProcedure add
add_proper = record {
  number = omega arith;
  arguments = refl;
  results = refl;
  errors = λ e among. of_each (λ (x : ErrorShape). are_proper (fields_of x.arguments) ≡ true) [] e tt among;
  numbers = λ e among. of_each (λ (x : ErrorShape). x.number < number_of Range) [] e tt among;
}

pub tally_proper : IsProperModule tally_signature
tally_proper = record {
  variables = refl;
  procedures = λ p among. of_each IsProperProcedure (add ∷ []) p (add_proper, tt) among;
}
