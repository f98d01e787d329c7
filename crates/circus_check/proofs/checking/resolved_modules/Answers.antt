use Rattle.std.proofs.Common.{arith}
use Rattle.std.proofs.lemmas.List.{length-map}
use Rattle.circus_lang.specs.ModuleTree.{module_of}
use Rattle.circus_check.proofs.Progressing.{all_done, one_skipped}
use Rattle.circus_check.proofs.checking.resolved_modules.Goals as goal
use Rattle.circus_check.proofs.checking.resolved_modules.Goals.{then-number-le-MOST_MODULES+in_ok-add_module, else-number-le-MOST_MODULES}

pub returns-clause-found : goal.returns-clause-found
returns-clause-found c = (all_done c.args.program.now c.loop-number.progress c.loop-number.number c.loop-number.invariant (omega (arith, length-map c.args.program.now.naming.now.modules.now module_of))).0

pub returns-clause-shared : goal.returns-clause-shared
returns-clause-shared c = (all_done c.args.program.now c.loop-number.progress c.loop-number.number c.loop-number.invariant (omega (arith, length-map c.args.program.now.naming.now.modules.now module_of))).1

pub loop-number-preserved : goal.loop-number-preserved
loop-number-preserved c = elim c.if-number-le-MOST_MODULES.branch [
  | then-number-le-MOST_MODULES+in_ok-add_module w ↦ rw w.progress-is w.in_ok-add_module.ensures
  | else-number-le-MOST_MODULES w ↦ rw w.progress-is (one_skipped c.args.program.now c.loop-number.progress c.loop-number.number c.loop-number.invariant (omega (arith, w.if-number-le-MOST_MODULES.false)))
]
