use Rattle.circus_commands.proofs.Told.{told_as, refused_as}
use Rattle.circus_commands.proofs.refused.plan_of.Goals as goal

pub end_of_refused-requires : goal.end_of_refused-requires
end_of_refused-requires c = told_as c.in-Err-Refused.field-0 c.in-Err-Refused.number c.in-Err-Refused.cause c.in-Err-Refused.field-0-is c.in-Err-Refused.ensures.told

pub returns-in_ok-end_of_refused-in-Err-Refused-clause-refused : goal.returns-in_ok-end_of_refused-in-Err-Refused-clause-refused
returns-in_ok-end_of_refused-in-Err-Refused-clause-refused c =
    let refused = refused_as c.args.bytes.now c.in-Err-Refused.field-0 c.in-Err-Refused.number c.in-Err-Refused.cause c.in-Err-Refused.field-0-is c.in-Err-Refused.ensures.err in
    (c.in-Err-Refused.number, c.in-Err-Refused.cause, refused, c.in_ok-end_of_refused-in-Err-Refused.ensures.ending)
