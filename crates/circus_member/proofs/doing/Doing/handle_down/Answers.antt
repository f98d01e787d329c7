use Rattle.std.proofs.Common.{sym, subst}
use Rattle.circus_member_rules.specs.Callable.{AreHosts}
use Rattle.circus_member.proofs.doing.Doing.handle_down.Goals as goal

pub tell_gone-requires : goal.tell_gone-requires
tell_gone-requires g c = subst (λ d. AreHosts d.member.place) (sym c.self.view_is) c.requires
