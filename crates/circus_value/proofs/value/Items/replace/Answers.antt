use Rattle.std.proofs.Common.{◌≡◌, ◌+◌, Some, length, map, slice_get, slice_set, refl, sym, ap, subst, ◌∙◌}
use Rattle.std.proofs.lemmas.Option.{slice_get_read}
use Rattle.circus_value.specs.ValueOf.{tree_of}
use Rattle.circus_value.specs.ExternalSize.{external_size, size_of_values}
use Rattle.circus_value.specs.Seen.SharedItems.{IsSizeOf}
use Rattle.circus_value.proofs.SizeLemmas.{size_within, size_changed}
use Rattle.circus_value.proofs.value.Items.replace.Goals as goal

pub returns-clause-size : goal.returns-clause-size
returns-clause-size c =
    let vs = c.args.self.now.values.items in
    let i = c.args.place in
    let old = c.replace-old.result in
    let new = c.args.item in
    let s = external_size (tree_of old) in
    let at : slice_get vs i ≡ Some old =
    subst (λ v. slice_get vs i ≡ Some v) (sym c.replace-old.ensures.value) (slice_get_read vs (length vs) i c.index_mut.result.now refl c.requires.place c.index_mut.ensures.value) in
    let is : c.deref.result.now ≡ slice_set vs i new = c.deref.ensures.value ∙ ap (slice_set vs i) c.replace-old.ensures.after in
    subst (λ us. IsSizeOf us c.size_after-self.result) c.deref.ensures.value
    (c.size_after-self.ensures (size_of_values (map tree_of vs)) s (external_size (tree_of new)) c.requires.sized c.external_size.ensures c.external_size-grows.ensures (size_within vs i old at) (ap (λ us. size_of_values (map tree_of us) + s) is ∙ size_changed vs i old new at))
