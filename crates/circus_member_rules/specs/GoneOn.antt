-- What holds of a member at boot and behind a step: it has gone on as far as it can.
use Rattle.std.specs.Prelude.{◌≡◌, None}
use Rattle.circus_member_rules.specs.MemberState.{MemberState}
use Rattle.circus_member_rules.specs.Step.{value_of_open, next_start}

-- the ask that waits has no value, and no call that is held may start
pub record HasGoneOn {M : Type 0} (m : MemberState M) : Type 0 where
  pub no_value : value_of_open m ≡ None
  pub none_starts : next_start m ≡ None
