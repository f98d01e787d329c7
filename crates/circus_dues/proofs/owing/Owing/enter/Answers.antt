use Rattle.std.proofs.Common.{sym, subst}
use Rattle.circus_dues.specs.Seen.Parts.{CallsIn}
use Rattle.circus_member_rules.specs.Callable.{AreReplies}
use Rattle.circus_dues.proofs.owing.Owing.enter.Goals as goal

pub pass-requires-clause-may : goal.pass-requires-clause-may
pass-requires-clause-may c =
    record {
      may = c.requires.may.may;
      replies = subst (λ (x : CallsIn). AreReplies x.gathered.replies) (sym c.start.ensures) c.requires.may.replies;
    }
