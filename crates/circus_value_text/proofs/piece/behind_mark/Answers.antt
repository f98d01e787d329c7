use Rattle.std.proofs.Common.{◌∙◌, Some, length, drop, sym, ap, arith, drop-drop, length-drop, true≢false}
use Rattle.std.proofs.lemmas.Bool.Decides.{Decides-eqb}
use Rattle.std.proofs.lemmas.Slice.Eq.{starts_is}
use Rattle.circus_value_text.proofs.PieceLemmas.{passed_where, passed_nowhere}
use Rattle.circus_value_text.proofs.piece.behind_mark.Goals as goal

pub returns-then-starts_with : goal.returns-then-starts_with
returns-then-starts_with c =
    let text = drop c.args.at c.args.text.now in
    let mark = c.args.mark.now in
    let starts = starts_is Decides-eqb text mark c.starts_with.result (rw c.rest_at.ensures at c.starts_with.ensures.value) in (
      (let within = rw c.rest_at.ensures at c.starts_with.ensures.bound c.if-starts_with.true in let left = length-drop c.args.at c.args.text.now in omega (arith, within, left)),
      passed_where mark text (drop (length mark) text) (starts.0 c.if-starts_with.true) ∙ ap (λ rest. Some rest) (drop-drop (length mark) c.args.at c.args.text.now),
    )

pub returns-else-starts_with : goal.returns-else-starts_with
returns-else-starts_with c =
    let text = drop c.args.at c.args.text.now in
    let mark = c.args.mark.now in
    let starts = starts_is Decides-eqb text mark c.starts_with.result (rw c.rest_at.ensures at c.starts_with.ensures.value) in
    passed_nowhere mark text (λ rest same. true≢false (sym (starts.1 rest same) ∙ c.if-starts_with.false))
