use Rattle.std.proofs.Common.{sym, subst}
use Rattle.circus_member_rules.specs.Callable.{AreReplies}
use Rattle.circus_dues.specs.Seen.Parts.{CallsIn}
use Rattle.circus_dues.proofs.calls.CallsIn.take.Goals as goal

pub take_call-requires : goal.take_call-requires
take_call-requires c = subst (λ (x : CallsIn). AreReplies x.gathered.replies) (sym c.self.view_is) c.requires
