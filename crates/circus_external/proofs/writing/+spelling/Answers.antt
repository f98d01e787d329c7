use Rattle.std.proofs.Common.{◌≡◌, ◌++◌, OnOk, sym, ap, ◌∙◌, subst, arith, append_assoc}
use Rattle.circus_value.specs.ValueOf as values
use Rattle.circus_value.specs.ValueTree.{value_trees}
use Rattle.circus_value.specs.Seen.ValueWeight.{weights}
use Rattle.circus_value.proofs.FitLemmas.{weight-item, count_of-value_trees}
use Rattle.circus_external.specs.Octets.{word}
use Rattle.circus_external.specs.Spelling.{spelling, spelling_of_all}
use Rattle.circus_external.proofs.writing.+spelling.Goals as goal

pub spell_all-spell-requires : goal.spell_all-spell-requires
spell_all-spell-requires t c =
    let light = weight-item c.as_slice-value-items.result.now c.loop-value.value-index c.value-item.result c.loop-value-test.true c.value-item.is in
    (omega (arith, light, ap (λ ts. weights (value_trees ts)) c.as_slice-value-items.ensures, c.decreases), tt)

pub spell-returns-in_ok-spell_count-in-Sequence : goal.spell-returns-in_ok-spell_count-in-Sequence
spell-returns-in_ok-spell_count-in-Sequence t c =
    let items = c.in-Sequence.items in
    let before = c.args.out.now in
    let count : c.len.result ≡ _ = c.len.ensures ∙ sym (count_of-value_trees items) in
    let all = ap (λ out. out ++ spelling_of_all items) c.in_ok-spell_count-in-Sequence.ensures ∙ append_assoc before (word c.len.result) (spelling_of_all items)
    ∙ ap (λ n. before ++ (word n ++ spelling_of_all items)) count ∙ ap (λ v. before ++ spelling (values.tree_of v)) (sym c.in-Sequence.is) in
    subst (λ bytes. OnOk c.spell_all.result (c.spell_all.new.out ≡ bytes)) all c.spell_all.ensures
