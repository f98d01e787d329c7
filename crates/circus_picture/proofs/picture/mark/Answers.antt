use Rattle.std.proofs.Common.{Bool, List, [], ◌∷◌, ◌++◌, sym, subst, arith}
use Rattle.circus_schedule.specs.declared.line.Line.TheVariants.{Deliver}
use Rattle.circus_picture.specs.Seen.Drawing.{AreMarked}
use Rattle.circus_picture.proofs.MarkLemmas.{marked-more, marked-late}
use Rattle.circus_picture.proofs.picture.mark.Goals as goal

pub returns-then-number-len : goal.returns-then-number-len
returns-then-number-len c = λ count before marked.
    subst (λ (l : List Bool). AreMarked count (before ++ Deliver c.args.number ∷ []) l) (sym c.set.ensures)
    (marked-more count before c.args.number c.args.marks.now (omega (arith, c.if-number-len.true, c.len.ensures)) marked)

pub returns-else-number-len : goal.returns-else-number-len
returns-else-number-len c = λ count before marked.
    marked-late count before c.args.number c.args.marks.now (omega (arith, c.if-number-len.false, c.len.ensures)) marked
