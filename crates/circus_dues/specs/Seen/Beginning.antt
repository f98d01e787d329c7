-- What a member owes at boot, as its record is begun.
use Rattle.std.specs.Prelude.{Bool, not, ◌&&◌, ◌||◌, nat_eq, is_none, if◌then◌else◌, List, [], None}
use Rattle.circus_value.specs.ValueTree.{ValueTree}
use Rattle.circus_collate.specs.declared.view.View.{View}
use Rattle.circus_transfer.specs.declared.joiner.Joiner.{Joiner}
use Rattle.circus_record.specs.declared.record.MemberRecord.{MemberRecord}
use Rattle.circus_gather.specs.Gathering.{before_any}
use Rattle.circus_fanout.specs.Knowing.{at_boot}
use Rattle.circus_performing.specs.Performing.{is_active}
use Rattle.circus_member_rules.specs.declared.place.Place.{Place}
use Rattle.circus_member_rules.specs.declared.occurrence.Effect.{Effect}
use Rattle.circus_member_rules.specs.Step.{main_start}
use Rattle.circus_member_theory.specs.Returns.{first_of}
use Rattle.circus_dues.specs.declared.owing.Owing.{Owing}
use Rattle.circus_dues.specs.Seen.Owing.{none_starts, entered, made_entering}
use Rattle.circus_dues.specs.Seen.Steps.{runs_in_order}

-- one that is active at boot performs from its first call on, since then
abbrev pub is_founded : Joiner → MemberRecord → Bool
is_founded begins kept = not (is_active begins) || (nat_eq kept.from (first_of begins) && nat_eq kept.active_at 0)

-- a record may be in time, as far as it says by itself
abbrev pub may_begin : Joiner → MemberRecord → Bool
may_begin begins kept = runs_in_order 0 kept.runs && is_founded begins kept

-- before any run, with these views, in this phase and with this state
abbrev pub unbegun : Place → List View → Joiner → List ValueTree → Bool → Owing
unbegun place boot begins first is_timely =
    record {
      out = record { known = at_boot boot; asks = [] };
      calls = record { gathered = before_any place.troupe (first_of begins); requests = [] };
      phase = begins;
      began = first;
      walk = record { ended = 0; asked = None };
      is_timely = is_timely;
    }

-- no further run starts at boot, where none is under way
abbrev pub none_further : MemberRecord → Owing → Owing
none_further kept d = if is_none d.walk.asked then none_starts kept 0 d else d

-- of a member that stands here, a root or not, with these views, in this phase and with this state, by its record in the end
module _ (place : Place) (root : Bool) (boot : List View) (begins : Joiner) (first : List ValueTree) (kept : MemberRecord) where
  abbrev pub at_first : Owing
  at_first = unbegun place boot begins first (may_begin begins kept)

  -- the MAIN of a root that is active is entered
  abbrev pub with_main : Owing
  with_main = if root && is_active begins then entered place kept 0 at_first (main_start place.troupe boot) else at_first

  abbrev pub begun_at_boot : Owing
  begun_at_boot = none_further kept with_main

  abbrev pub made_at_boot : List Effect
  made_at_boot = if root && is_active begins then made_entering place kept 0 at_first (main_start place.troupe boot) else []
