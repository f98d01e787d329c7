use Rattle.std.proofs.Common.{◌≡◌, ◌+◌, ◌∷◌, [], ◌++◌, length, List, ap, sym, ◌∙◌}
use Rattle.circus_exchange.specs.Seen.Numbered.{map_of_row}
use Rattle.circus_exchange.proofs.Numbering.{seen_moved}
use Rattle.circus_exchange.proofs.series.gather.Goals as goal

pub loop-row-preserved : goal.loop-row-preserved
loop-row-preserved g c =
    let row = c.loop-row.row.items in
    let others = c.remove.new.self.entries in
    let same = c.deref.ensures.value ∙ c.reserve.ensures.items in
    let at : c.in-Some.number ≡ c.args.first + length row = c.in-Some.ensures ∙ ap (λ xs. c.args.first + length xs) same in
    ap (λ xs. map_of_row c.args.first xs others) (c.push_reserved.ensures.items ∙ ap (λ xs. xs ++ c.in-Some-remove.value ∷ []) c.reserve.ensures.items)
    ∙ seen_moved c.args.first row _ _ c.in-Some.number c.in-Some-remove.value at (sym c.remove.ensures.value ∙ c.in-Some-remove.is) c.remove.ensures.updates.0
    ∙ c.loop-row.invariant
