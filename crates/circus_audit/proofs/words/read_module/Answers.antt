use Rattle.std.proofs.Common.{sym}
use Rattle.circus_audit.proofs.Naming.{named_found, named_missing}
use Rattle.circus_audit.proofs.words.read_module.Goals as goal

pub returns-in-Some : goal.returns-in-Some
returns-in-Some c =
    named_found c.args.modules.now c.args.text.now c.rest_at-rest.result.now c.args.at c.name_length-len.result c.in-Some.«module» c.rest_at-rest.ensures c.name_length-len.ensures.value c.name_length-len.ensures.within c.requires.at (sym c.in-Some.ensures)

pub returns-in-None : goal.returns-in-None
returns-in-None c =
    named_missing c.args.modules.now c.args.text.now c.rest_at-rest.result.now c.args.at c.name_length-len.result c.rest_at-rest.ensures c.name_length-len.ensures.value (sym c.in-None.ensures)
