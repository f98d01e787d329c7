use Rattle.std.proofs.Common.{refl}
use Rattle.circus_member.proofs.doing.Doing.into_box.Goals as goal

pub same-self : goal.same-self
same-self g c = refl
