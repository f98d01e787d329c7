use Rattle.std.proofs.Common.{sym, subst}
use Rattle.circus_member_rules.specs.Callable.{AreReplies}
use Rattle.circus_member.proofs.doing.Doing.handle_call.Goals as goal

pub take_call-requires : goal.take_call-requires
take_call-requires g c = subst (λ d. AreReplies d.member.gathered.replies) (sym c.self.view_is) c.requires
