use Rattle.std.proofs.Common.{length-drop, not, drop, sym, ◌∙◌, arith, ◌==◌}
use Rattle.std.proofs.lemmas.Bool.{false≢true}
use Rattle.std.proofs.lemmas.List.{take_rest}
use Rattle.std.proofs.lemmas.List.Sums.{prefix_len-le-length}
use Rattle.circus_text.specs.ByteClass.{newline}
use Rattle.circus_text.proofs.Fronts.{longest_comment, longest_double, longest_single}
use Rattle.circus_text.proofs.front.longest_mark.Goals as goal
use Rattle.circus_text.proofs.front.longest_mark.Goals.{else-text-eq45-via-then-text-eq45+else-text-eq45-2, else-text-eq45-via-else-text-eq45}

-- the rest of the line is within the text
pub overflow_add-result : goal.overflow_add-result
overflow_add-result c =
    let len = rw take_rest at c.line_len.ensures in
    omega (arith, prefix_len-le-length (λ b. not (b == newline)) (drop 2 c.args.text.now), length-drop 2 c.args.text.now, len)

pub returns-then-text-eq45-2 : goal.returns-then-text-eq45-2
returns-then-text-eq45-2 c =
    let len = rw take_rest at c.line_len.ensures in
    rw len (longest_comment c.args.text.now (omega arith) c.if-text-eq45.true c.if-text-eq45-2.true)

pub returns-then-is_double_sign : goal.returns-then-is_double_sign
returns-then-is_double_sign c = longest_double c.args.text.now c.requires (omega arith) (c.is_double_sign.ensures.0 c.if-is_double_sign.true)

pub returns-else-is_double_sign : goal.returns-else-is_double_sign
returns-else-is_double_sign c = longest_single c.args.text.now c.requires
    (λ long first second. elim c.else-text-eq45.branch [
      | else-text-eq45-via-then-text-eq45+else-text-eq45-2 w ↦ w.if-text-eq45-2.false second
      | else-text-eq45-via-else-text-eq45 w ↦ w.if-text-eq45.false first
    ])
    (λ long among. false≢true (sym c.if-is_double_sign.false ∙ c.is_double_sign.ensures.1 among))
