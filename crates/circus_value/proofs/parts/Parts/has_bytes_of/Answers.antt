use Rattle.std.proofs.Common.{◌+◌, ◌&&◌, drop, nat_eq, sym, ap, ◌∙◌, arith}
use Rattle.std.specs.Cmp.Lexicographic.{pointwise}
use Rattle.circus_value.proofs.PointwiseLemmas.{pointwise_from, pointwise_past, from_not}
use Rattle.circus_value.proofs.parts.Parts.has_bytes_of.Goals as goal

pub returns-then-ne : goal.returns-then-ne
returns-then-ne c =
    let xs = c.args.self.now in
    let ys = c.args.other.now in
    let i = c.loop-at.at in
    let step = pointwise_from nat_eq xs ys i (omega arith) (omega arith) in
    let test = from_not (sym c.ne.ensures ∙ c.if-ne.true) in
    let rest = pointwise nat_eq (drop (i + 1) xs) (drop (i + 1) ys) in
    sym (sym c.loop-at.invariant ∙ step ∙ ap (λ b. b && rest) (rw (c.byte.ensures, c.byte-in-loop-at.ensures) at test))

pub loop-at-preserved : goal.loop-at-preserved
loop-at-preserved c =
    let xs = c.args.self.now in
    let ys = c.args.other.now in
    let i = c.loop-at.at in
    let step = pointwise_from nat_eq xs ys i (omega arith) (omega arith) in
    let test = from_not (sym c.ne.ensures ∙ c.if-ne.false) in
    let rest = pointwise nat_eq (drop (i + 1) xs) (drop (i + 1) ys) in
    sym (step ∙ ap (λ b. b && rest) (rw (c.byte.ensures, c.byte-in-loop-at.ensures) at test)) ∙ c.loop-at.invariant

pub returns : goal.returns
returns c =
    sym (sym c.loop-at.invariant ∙ pointwise_past nat_eq c.args.self.now c.args.other.now c.loop-at.at (omega arith) (omega arith))
