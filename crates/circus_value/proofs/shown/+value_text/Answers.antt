use Rattle.std.proofs.Common.{◌∙◌, ◌++◌, ap, append_assoc, arith, codes, string_bytes}
use Rattle.circus_value.specs.Shown.{text_of_value}
use Rattle.circus_value.specs.ValueOf.{tree_of}
use Rattle.circus_value.proofs.ShownMore.{other_added}
use Rattle.circus_value.proofs.ItemFalls.{later_falls}
use Rattle.circus_value.proofs.shown.+value_text.Goals as goal

pub append_items-append_value-requires-in-loop-item : goal.append_items-append_value-requires-in-loop-item
append_items-append_value-requires-in-loop-item t c =
    let lighter = later_falls _ _ c.in-Some.others.now c.in-Some.first.now c.loop-item.item-index c.item-item.result c.as_slice.ensures c.in-Some.ensures.cases.0 c.loop-item-test.true in
    (rw c.item-item.is (omega (arith, c.decreases, lighter)), tt)

pub append_items-loop-item-preserved : goal.append_items-loop-item-preserved
append_items-loop-item-preserved t c =
    let text = string_bytes c.loop-item.text in
    let shown = text_of_value (tree_of c.item-item.result) in
    let added = c.in_ok-append_value-2.ensures ∙ ap (λ l. l ++ shown) c.in_ok-push_str.ensures.bytes ∙ append_assoc text (codes ", ") shown in
    other_added (string_bytes c.append_value.new.text) text (string_bytes c.append_value-in-loop-item.new.text)
    c.in-Some.others.now c.loop-item.item-index c.item-item.result c.loop-item-test.true c.item-item.is c.loop-item.invariant added
