use Rattle.circus_audit.proofs.Plans.{few_nodes, few_names}
use Rattle.circus_audit.proofs.Looking.{answers}
use Rattle.circus_audit.proofs.SoundingRecord.{read_ok}
use Rattle.circus_audit.proofs.SomeRecord.{bad_in_text}
use Rattle.circus_audit.proofs.record.read_record.Goals as goal

pub read_lines-requires-clause-nodes : goal.read_lines-requires-clause-nodes
read_lines-requires-clause-nodes c = few_nodes c.args.plan.now c.requires.plan

pub read_lines-requires-clause-modules : goal.read_lines-requires-clause-modules
read_lines-requires-clause-modules c = few_names c.args.plan.now c.requires.plan c.requires.names

pub returns-clause-given : goal.returns-clause-given
returns-clause-given c = read_ok c.args.plan.now c.args.bytes.now c.read_lines.result c.read_lines.ensures.read

pub returns-clause-answer : goal.returns-clause-answer
returns-clause-answer c = answers c.args.plan.now c.args.bytes.now c.read_lines.result c.read_lines.ensures.read c.read_lines.ensures.bad

pub returns-clause-bad : goal.returns-clause-bad
returns-clause-bad c =
    let answer = answers c.args.plan.now c.args.bytes.now c.read_lines.result c.read_lines.ensures.read c.read_lines.ensures.bad in
    bad_in_text c.args.plan.now c.args.bytes.now c.read_lines.result c.requires.plan c.requires.names c.requires.words c.requires.short answer
