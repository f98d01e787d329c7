use Rattle.std.proofs.Common.{sym, subst}
use Rattle.circus_member_rules.specs.Callable.{MayAnswer}
use Rattle.circus_member_rules.proofs.Returns.{may_answer}
use Rattle.circus_member_rules.proofs.calls_in.take_call.Goals as goal

pub at_once-requires : goal.at_once-requires
at_once-requires c =
    subst MayAnswer (sym c.in_ok-add.ensures.answer) (may_answer c.args.gather.now c.args.header c.requires)
