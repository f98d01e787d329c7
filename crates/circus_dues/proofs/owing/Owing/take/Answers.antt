use Rattle.std.proofs.Common.{sym, subst}
use Rattle.circus_member_rules.specs.Callable.{AreReplies}
use Rattle.circus_dues.specs.declared.owing.Owing.{Owing}
use Rattle.circus_dues.proofs.owing.Owing.take.Goals as goal

pub take-requires : goal.take-requires
take-requires c = subst (λ (d : Owing). AreReplies d.calls.gathered.replies) (sym c.self.view_is) c.requires.may.replies
