use Rattle.circus_config.proofs.Ascii.{err_told}
use Rattle.circus_config.proofs.PlanIs.{ok_plan}
use Rattle.circus_config.proofs.read.read_program.Goals as goal

pub returns-clause-plan : goal.returns-clause-plan
returns-clause-plan c = ok_plan c.args.bytes.now c.read_lexed.result c.read_lexed.ensures.ok

pub returns-clause-told : goal.returns-clause-told
returns-clause-told c = err_told c.args.bytes.now c.read_lexed.result c.read_lexed.ensures.err
