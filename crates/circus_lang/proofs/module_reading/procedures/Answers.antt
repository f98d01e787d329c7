use Rattle.std.proofs.Common.{[], ◌∷◌, map, sym, ◌∙◌, ap}
use Rattle.std.specs.Prelude.{codes}
use Rattle.std.proofs.lemmas.List.{map-append}
use Rattle.circus_syntax.specs.Spelling.{most_levels}
use Rattle.circus_statement.specs.StatementReading.{is_word}
use Rattle.circus_statement.proofs.Steps.{go_step, go_end, go_shorter}
use Rattle.circus_lang.specs.ModuleTree.{procedure_of}
use Rattle.circus_lang.specs.ModuleReading.{procedure}
use Rattle.circus_lang.specs.ModuleStanding.{procedure_stands_for}
use Rattle.circus_lang.proofs.Modules.{shrinks_procedure}
use Rattle.circus_lang.proofs.Steps.{procedures_begin}
use Rattle.circus_lang.proofs.module_reading.procedures.Goals as goal

pub loop-procedures-init : goal.loop-procedures-init
loop-procedures-init c = procedures_begin most_levels c.args.reader.now (map procedure_of c.new-procedures.result) (ap (map procedure_of) c.new-procedures.ensures)

pub loop-procedures-smaller : goal.loop-procedures-smaller
loop-procedures-smaller c =
    go_shorter procedure_stands_for (is_word (codes "PROCEDURE")) (procedure most_levels) (shrinks_procedure most_levels) c.loop-procedures.reader c.procedure.new.reader (procedure_of c.in_ok-procedure.field-0)
    (sym c.sees_word.ensures ∙ c.loop-procedures-test.true) c.in_ok-procedure.ensures

pub loop-procedures-preserved : goal.loop-procedures-preserved
loop-procedures-preserved c =
    go_step procedure_stands_for (is_word (codes "PROCEDURE")) (procedure most_levels) (shrinks_procedure most_levels) _ (map procedure_of c.loop-procedures.procedures) (map procedure_of c.push.new.self) c.loop-procedures.reader c.procedure.new.reader
    (procedure_of c.in_ok-procedure.field-0) c.loop-procedures.invariant (sym c.sees_word.ensures ∙ c.loop-procedures-test.true) c.in_ok-procedure.ensures
    (ap (map procedure_of) c.in_ok-push.ensures.ok ∙ map-append procedure_of c.loop-procedures.procedures (c.in_ok-procedure.field-0 ∷ []))

pub returns : goal.returns
returns c =
    go_end procedure_stands_for (is_word (codes "PROCEDURE")) (procedure most_levels) _ (map procedure_of c.loop-procedures.procedures) c.loop-procedures.reader c.loop-procedures.invariant (sym c.sees_word.ensures ∙ c.loop-procedures-test.false)
