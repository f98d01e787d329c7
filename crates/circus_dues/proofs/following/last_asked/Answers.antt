use Rattle.std.proofs.Common.{sym}
use Rattle.circus_dues.proofs.FollowingLemmas.{asked_last}
use Rattle.circus_dues.proofs.following.last_asked.Goals as goal

pub returns-in-Some : goal.returns-in-Some
returns-in-Some c = sym (asked_last c.args.before.now c.args.asks.now c.in-Some.ask.now (sym c.in-Some.ensures.value))
