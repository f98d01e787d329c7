use Rattle.circus_audit.proofs.ModuleNames.{names_of, words_of}
use Rattle.tests_audit.proofs.lines.bad_line_of.Goals as goal

pub read_record-requires-clause-names : goal.read_record-requires-clause-names
read_record-requires-clause-names c = names_of c.as_bytes.result.now c.in_ok-plan.plan c.in_ok-plan.ensures.ok

pub read_record-requires-clause-words : goal.read_record-requires-clause-words
read_record-requires-clause-words c = words_of c.as_bytes.result.now c.in_ok-plan.plan c.in_ok-plan.ensures.ok
