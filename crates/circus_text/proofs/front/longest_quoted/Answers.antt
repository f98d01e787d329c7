use Rattle.std.proofs.Common.{length-drop, drop, arith}
use Rattle.std.proofs.lemmas.List.{take_rest}
use Rattle.std.proofs.lemmas.List.Sums.{prefix_len-le-length}
use Rattle.circus_text.specs.Form.{is_inside}
use Rattle.circus_text.proofs.Fronts.{longest_string, no_string}
use Rattle.circus_text.proofs.front.longest_quoted.Goals as goal
use Rattle.circus_text.proofs.front.longest_quoted.Goals.{else-end-text-via-then-end-text+else-text-end-eq-QUOTE, else-end-text-via-else-end-text}

-- what stands before the closing quote is within the text
pub overflow_add-end : goal.overflow_add-end
overflow_add-end c =
    let len = rw take_rest at c.inside_len-end.ensures in
    omega (arith, prefix_len-le-length is_inside (drop 1 c.args.text.now), length-drop 1 c.args.text.now, len)

pub returns-then-text-end-eq-QUOTE : goal.returns-then-text-end-eq-QUOTE
returns-then-text-end-eq-QUOTE c =
    let len = rw take_rest at c.inside_len-end.ensures in
    longest_string c.args.text.now c.requires c.inside_len-end.result len c.if-end-text.true c.if-text-end-eq-QUOTE.true

pub returns-else-end-text : goal.returns-else-end-text
returns-else-end-text c =
    let len = rw take_rest at c.inside_len-end.ensures in
    no_string c.args.text.now c.requires c.inside_len-end.result len (λ within closing. elim c.else-end-text.branch [
      | else-end-text-via-then-end-text+else-text-end-eq-QUOTE w ↦ w.if-text-end-eq-QUOTE.false closing
      | else-end-text-via-else-end-text w ↦ omega arith
    ])
