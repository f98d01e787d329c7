-- What putting into an item makes of the whole.
use Rattle.std.proofs.Common.{◌≡◌, ℕ, ℤ, pos, negsuc, List, ◌∷◌, Option, Some, None, ok_or, slice_get, slice_set, refl, ap, sym, ◌∙◌}
use Rattle.std.proofs.lemmas.List.{set-set}
use Rattle.circus_value.specs.ValueTree.{ValueTree, array, sequence, «record», value_trees}
use Rattle.circus_model.specs.declared.language_error.LanguageError.{LanguageError}
use Rattle.circus_model.specs.declared.language_error.LanguageError.TheVariants.{Index, WrongChoice}
use Rattle.circus_evaluate.specs.Parts.{Step, field, item, put_inside}
use Rattle.circus_evaluate.specs.Putting.{with_put, with_put_item, item_put}
use Rattle.circus_evaluate.specs.Seen.Subscripts.{with_put_under}
use Rattle.circus_evaluate.specs.declared.part.Put.{Put}
use Rattle.circus_evaluate.proofs.Items.{list_of_trees}

-- by the item that is there, if one is
within : (form : List ValueTree → ValueTree) (ss : List Step) (what : Put) (n : ℕ) (ts : List ValueTree) (missing : LanguageError) (o : Option ValueTree)
    → form (item_put ss what n ts o) ≡ put_inside (ok_or o missing) (form ts) (λ inner. form (slice_set ts n (with_put ss what inner)))
within form ss what n ts missing None = refl
within form ss what n ts missing (Some t) = refl

module _ (ss : List Step) (what : Put) (n : ℕ) (ts : List ValueTree) where
  pub record_put : «record» (value_trees (with_put_item ss what n ts)) ≡ with_put (field n ∷ ss) what («record» (value_trees ts))
  record_put =
      rw (list_of_trees ts) (within (λ us. «record» (value_trees us)) ss what n ts WrongChoice (slice_get ts n))

  pub array_put : array (value_trees (with_put_item ss what n ts)) ≡ with_put (item (pos n) ∷ ss) what (array (value_trees ts))
  array_put = rw (list_of_trees ts) (within (λ us. array (value_trees us)) ss what n ts Index (slice_get ts n))

  pub sequence_put : sequence (value_trees (with_put_item ss what n ts)) ≡ with_put (item (pos n) ∷ ss) what (sequence (value_trees ts))
  sequence_put = rw (list_of_trees ts) (within (λ us. sequence (value_trees us)) ss what n ts Index (slice_get ts n))

pub array_put_under : (ss : List Step) (what : Put) (z : ℤ) (ts : List ValueTree) → array (value_trees (with_put_under ss what z ts)) ≡ with_put (item z ∷ ss) what (array (value_trees ts))
array_put_under ss what (pos n) ts = array_put ss what n ts
array_put_under ss what (negsuc n) ts = refl

pub sequence_put_under : (ss : List Step) (what : Put) (z : ℤ) (ts : List ValueTree) → sequence (value_trees (with_put_under ss what z ts)) ≡ with_put (item z ∷ ss) what (sequence (value_trees ts))
sequence_put_under ss what (pos n) ts = sequence_put ss what n ts
sequence_put_under ss what (negsuc n) ts = refl

-- an item that was taken out for a while
pub taken_out : (ss : List Step) (what : Put) (n : ℕ) (ts before after : List ValueTree) (other old new : ValueTree) → slice_get ts n ≡ Some old → before ≡ slice_set ts n other → new ≡ with_put ss what old → after ≡ slice_set before n new
    → after ≡ with_put_item ss what n ts
taken_out ss what n ts before after other old new is out done back =
    back ∙ ap (λ us. slice_set us n new) out ∙ set-set ts n other new ∙ ap (λ t. slice_set ts n t) done ∙ ap (item_put ss what n ts) (sym is)
