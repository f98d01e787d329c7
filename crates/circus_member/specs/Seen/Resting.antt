-- A member between steps.
use Rattle.std.specs.Prelude.{◌≡◌, []}
use Rattle.circus_model.specs.Behaviour.{Behaviour}
use Rattle.circus_member_rules.specs.MemberState.{Doing}
use Rattle.circus_member_rules.specs.Seen.Sound.{IsRested}

-- it rests, as its module behaves, and has made nothing that isn't given away
pub record IsResting {M : Type 0} (behaves : M → Behaviour) (d : Doing M) : Type 0 where
  pub rested : IsRested (behaves d.member.performing.hosted) d.member
  pub made : d.effects ≡ []
