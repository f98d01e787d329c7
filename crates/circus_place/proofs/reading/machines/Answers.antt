use Rattle.std.proofs.Common.{sym, ◌∙◌, ap}
use Rattle.std.specs.Prelude.{codes}
use Rattle.circus_syntax.specs.Placed.{is_lexeme, word}
use Rattle.circus_syntax.proofs.Loops.{goes_on, goes_step, shorter}
use Rattle.circus_place.specs.Seen.Reading.{machine}
use Rattle.circus_place.proofs.Parts.{shrinks_machine}
use Rattle.circus_place.proofs.reading.machines.Goals as goal

pub loop-machines-smaller : goal.loop-machines-smaller
loop-machines-smaller c =
    shorter (is_lexeme (word (codes "MACHINE"))) machine shrinks_machine c.loop-machines.reader c.machine.new.reader c.in_ok-machine.field-0 (sym c.sees_word.ensures ∙ c.loop-machines-test.true) c.in_ok-machine.ensures

pub loop-machines-preserved : goal.loop-machines-preserved
loop-machines-preserved c =
    c.loop-machines.invariant
    ∙ goes_step (is_lexeme (word (codes "MACHINE"))) machine shrinks_machine c.loop-machines.machines c.loop-machines.reader c.machine.new.reader c.in_ok-machine.field-0 (sym c.sees_word.ensures ∙ c.loop-machines-test.true) c.in_ok-machine.ensures
    ∙ ap (λ ms. goes_on (is_lexeme (word (codes "MACHINE"))) machine ms c.machine.new.reader) (sym c.in_ok-push.ensures.ok)
