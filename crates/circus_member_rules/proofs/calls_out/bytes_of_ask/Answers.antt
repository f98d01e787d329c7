use Rattle.circus_member_rules.proofs.Calls.{may_ask}
use Rattle.circus_member_rules.proofs.calls_out.bytes_of_ask.Goals as goal

pub ask_bytes-requires : goal.ask_bytes-requires
ask_bytes-requires c =
    may_ask c.args.known.now c.args.fanout.now c.args.send c.header-header.result.now c.incarnation_of-own.result c.header-header.ensures c.incarnation_of-own.ensures c.requires.may c.requires.view
