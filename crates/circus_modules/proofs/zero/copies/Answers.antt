use Rattle.std.proofs.Common.{◌≡◌, ap, ◌∙◌, arith}
use Rattle.std.specs.Prelude.{replicate}
use Rattle.circus_value.specs.ValueOf.{tree_of}
use Rattle.circus_modules.proofs.zero.copies.Goals as goal

pub returns : goal.returns
returns c =
    let all : c.loop-copy._copy ≡ c.args.count = omega (arith, c.loop-copy.auto._copy-end, c.loop-copy-test.false) in
    c.loop-copy.invariant.made ∙ ap (λ v. replicate c.loop-copy._copy (tree_of v)) c.loop-copy.invariant.same ∙ ap (λ n. replicate n (tree_of c.args.value)) all
