-- A member, as a state.
use Rattle.std.specs.Prelude.{List, ◌++◌}
use Rattle.circus_value.specs.declared.caller.Caller.{Caller}
use Rattle.circus_fanout.specs.Knowing.{Knowing}
use Rattle.circus_gather.specs.Gathering.{Gathered}
use Rattle.circus_fanout.specs.Asking.{Asking}
use Rattle.circus_performing.specs.Performing.{Performing}
use Rattle.circus_member_rules.specs.declared.place.Place.{Place}
use Rattle.circus_member_rules.specs.declared.occurrence.AskName.{AskName}
use Rattle.circus_member_rules.specs.declared.occurrence.Effect.{Effect}

pub record MemberState (M : Type 0) : Type 0 where
  pub place : Place
  -- the views, the nodes that are down, and what is wanted
  pub known : Knowing
  -- the calls that came in: those that are held, and the replies that are kept
  pub gathered : Gathered
  -- its module and its record
  pub performing : Performing M
  -- the asks that aren't closed, by name, in the order of asking
  pub asks : List (AskName × Asking)
  -- who asked for its state and waits, in order of arrival
  pub requests : List Caller

-- a step so far: what the member is, and what it has made
pub record Doing (M : Type 0) : Type 0 where
  pub member : MemberState M
  pub effects : List Effect

module _ {M : Type 0} where
  abbrev pub add_effects : Doing M → List Effect → Doing M
  add_effects d more = record d { effects = d.effects ++ more }

  -- what was made before stands in front
  abbrev pub behind : Doing M → Doing M → Doing M
  behind before d = record d { effects = before.effects ++ d.effects }
