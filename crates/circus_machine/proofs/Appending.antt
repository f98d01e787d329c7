-- A sequence with an item more.
use Rattle.std.proofs.Common.{◌≡◌, ℕ, ◌+◌, ◌<◌, ◌≤◌, nat_lt, if◌then◌else◌, List, [], ◌∷◌, ◌++◌, length, Option, Ok, Err, ap, ◌∙◌, arith}
use Rattle.std.proofs.lemmas.Bool.{lt-ltb, le-ltb}
use Rattle.circus_value.specs.ValueTree.{ValueTree, sequence, value_trees}
use Rattle.circus_value.specs.ExternalSize.{external_size, size_of_values}
use Rattle.circus_model.specs.declared.language_error.LanguageError.TheVariants.{TooLong}
use Rattle.circus_checked.specs.declared.kinds.NumberKind.{NumberKind}
use Rattle.circus_evaluate.specs.Got.{Got, and_then}
use Rattle.circus_machine.specs.Storing.{as_item, with_more, appended_over}
use Rattle.circus_evaluate.specs.Putting.{with_last}
use Rattle.circus_evaluate.proofs.Items.{count_of_trees, list_of_trees}

size_append : (ts : List ValueTree) (t : ValueTree) → size_of_values (ts ++ t ∷ []) ≡ size_of_values ts + external_size t
size_append [] t = omega arith
size_append (u ∷ ts) t = omega (arith, size_append ts t)

module _ (t : ValueTree) (ts : List ValueTree) where
  pub last_size : external_size (with_last t (sequence (value_trees ts))) ≡ external_size (sequence (value_trees ts)) + external_size t
  last_size = omega (arith, ap (λ us. size_of_values (us ++ t ∷ [])) (list_of_trees ts), size_append ts t)

  module _ (bound : ℕ) (kind : Option NumberKind) (x : Got) where
    pub appended_fits : as_item kind x ≡ Ok t → length ts < bound → appended_over bound kind x (sequence (value_trees ts)) ≡ Ok (with_last t (sequence (value_trees ts)))
    appended_fits item few =
        ap (λ r. and_then r (λ u. with_more bound u (sequence (value_trees ts)))) item
        ∙ ap (λ b. if b then Ok (with_last t (sequence (value_trees ts))) else Err TooLong) (ap (λ n. nat_lt n bound) (count_of_trees ts) ∙ lt-ltb (length ts) bound few)

    pub appended_full : as_item kind x ≡ Ok t → bound ≤ length ts → appended_over bound kind x (sequence (value_trees ts)) ≡ Err TooLong
    appended_full item many =
        ap (λ r. and_then r (λ u. with_more bound u (sequence (value_trees ts)))) item
        ∙ ap (λ b. if b then Ok (with_last t (sequence (value_trees ts))) else Err TooLong) (ap (λ n. nat_lt n bound) (count_of_trees ts) ∙ le-ltb (length ts) bound many)
