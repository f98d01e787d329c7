use Rattle.std.proofs.Common.{◌≤◌, ℕ, List, Option, length, sym, subst, arith}
use Rattle.std.proofs.lemmas.Grind.{common_steps}
use Rattle.std.specs.Prelude.{IfSome}
use Rattle.circus_outside.proofs.Answerable.{IfSome-contents_in}
use Rattle.circus_outside.proofs.sure_shelf.SureShelf.answer.Goals as goal

pub returns-in-Some-clause-size : goal.returns-in-Some-clause-size
returns-in-Some-clause-size c =
    let P : Option (List ℕ) → Type 0 = λ found. IfSome found (λ bytes. length bytes ≤ 16777216) in
    let within : length c.in-Some.contents.now ≤ 16777216 = subst P (sym c.in-Some.ensures) (IfSome-contents_in _ _ c.self.invariant) in
    grind (arith, common_steps)
