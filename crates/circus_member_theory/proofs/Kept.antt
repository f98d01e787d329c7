-- What is true of a member on its way through a step, and of what it has made.
use Rattle.std.specs.Prelude.{ℕ, List, All}
use Rattle.circus_value.specs.ValueTree.{ValueTree}
use Rattle.circus_value.specs.declared.caller.Caller.{Caller}
use Rattle.circus_model.specs.declared.history.Run.{Run}
use Rattle.circus_member_rules.specs.MemberState.{Doing}
use Rattle.circus_member_theory.specs.Truth.{IsTrueMember, IsTrueEffect}

-- the member is a true one, and so are its effects
pub record KeepsTrue (history : List (List Run)) (troupe : ℕ) (first : List ValueTree) (Called : Caller → List ℕ → Type 0) {M : Type 0} (d : Doing M) : Type 0 where
  pub member : IsTrueMember history troupe first Called d.member
  pub effects : All (IsTrueEffect history troupe first Called) d.effects
