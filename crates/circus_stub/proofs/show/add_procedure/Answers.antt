use Rattle.std.proofs.Common.{◌++◌, ◌∙◌, ap}
use Rattle.std.specs.Prelude.{codes}
use Rattle.std.specs.Fmt.{decimal}
use Rattle.circus_value.specs.ShapeTree.{field_trees}
use Rattle.circus_stub.specs.StubsText.{field_words, reports_line}
use Rattle.circus_stub.proofs.ShowLemmas.{both}
use Rattle.circus_stub.proofs.show.add_procedure.Goals as goal

pub add_line-requires : goal.add_line-requires
add_line-requires c = (field_trees c.args.procedure.now.arguments, c.as_slice.ensures ∙ ap (λ s. s.arguments) c.requires)

pub add_line-requires-2 : goal.add_line-requires-2
add_line-requires-2 c = (field_trees c.args.procedure.now.results, c.as_slice-2.ensures ∙ ap (λ s. s.results) c.requires)

pub returns : goal.returns
returns c =
    let t = c.args.text.now in
    let p = c.args.procedure.now in
    let named = codes "procedure " ++ p.name ++ codes " " ++ decimal p.number in
    let call = codes "call" ++ field_words (field_trees p.arguments) ++ codes "\n" in
    let return = codes "return" ++ field_words (field_trees p.results) ++ codes "\n" in
    let first = both t _ _ named (codes "\n") (rw c.from-number.ensures at c.in_ok-add_named.ensures) c.in_ok-append.ensures.ok in
    let second = both t _ _ (named ++ codes "\n") call first (c.in_ok-add_line.ensures (field_trees p.arguments) (c.as_slice.ensures ∙ ap (λ s. s.arguments) c.requires)) in
    let third = both t _ _ (named ++ codes "\n" ++ call) return second (c.in_ok-add_line-2.ensures (field_trees p.results) (c.as_slice-2.ensures ∙ ap (λ s. s.results) c.requires)) in
    both t _ _ (named ++ codes "\n" ++ call ++ return) (reports_line p.reports) third (rw (c.as_slice-3.ensures ∙ ap (λ s. s.reports) c.requires) at c.in_ok-add_reports.ensures)
