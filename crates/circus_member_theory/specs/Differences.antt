-- The differences that a watchdog tells: a reply to an open ask is another value than the first one
-- that came to it.
use Rattle.std.specs.Prelude.{ℕ, Bool, true, false, ◌&&◌, if◌then◌else◌, List, [], ◌∷◌, ◌++◌, map, is_some, slice_get, Option, option_and_then}
use Rattle.std.specs.Option.{option_map_or}
use Rattle.circus_header.specs.declared.answer.Reply.{Reply}
use Rattle.circus_header.specs.ReplyEquality.{reply_eq}
use Rattle.circus_collate.specs.declared.giving.Said.{Said}
use Rattle.circus_collate.specs.declared.kind.Kind.{Kind}
use Rattle.circus_collate.specs.declared.kind.Kind.TheVariants.{First, Majority, Unanimous, AtLeast, Watchdog}
use Rattle.circus_collate.specs.declared.view.View.{View}
use Rattle.circus_record.specs.declared.record.AskRecord.{AskRecord}
use Rattle.circus_record.specs.declared.record.MemberRecord.{MemberRecord}
use Rattle.circus_record.specs.declared.record.RunRecord.{RunRecord}
use Rattle.circus_member_rules.specs.declared.place.Place.{Place}
use Rattle.circus_member_rules.specs.declared.occurrence.AskName.{AskName}
use Rattle.circus_member_rules.specs.declared.occurrence.Difference.{Difference}
use Rattle.circus_member_rules.specs.declared.occurrence.Occurrence.TheVariants as comes
use Rattle.circus_member_rules.specs.OpenAsks.{asking_of}
use Rattle.circus_member_theory.specs.Past.{Past, booted, followed, replies_to}
use Rattle.circus_member_theory.specs.Returns.{run_of}
use Rattle.circus_member_theory.specs.Asks.{open_asks}

-- a troupe with this collator of replies is told of differences
abbrev pub watches : Kind → Bool
watches First = false
watches Majority = false
watches Unanimous = false
watches (AtLeast number) = false
watches Watchdog = true

-- the ask of a name in a record
abbrev pub ask_named : MemberRecord → AskName → Option AskRecord
ask_named kept name =
    option_and_then (λ (run : RunRecord). slice_get run.asks name.ask) (run_of kept name.run)

-- a reply that comes from a node to the ask of a name is another value than the first one to it
abbrev pub difference_from : AskName → ℕ → Reply → Said Reply → List Difference
difference_from name from reply first =
    if reply_eq first.value reply
    then []
    else record {
      run = name.run;
      ask = name.ask;
      first = first.node;
      first_reply = first.value;
      second = from;
      second_reply = reply;
    } ∷ []

-- of a member that stands here, with these views at boot, by its record in the end
module _ (place : Place) (boot : List View) (kept : MemberRecord) where
  -- the ask of a name is open at the end of a past
  abbrev pub is_open : Past → AskName → Bool
  is_open p name = is_some (asking_of (open_asks place boot kept p) name)

  -- the first reply that came to it by then
  abbrev pub first_reply : Past → AskName → Option (Said Reply)
  first_reply p name =
      option_and_then (λ (ask : AskRecord). slice_get (replies_to ask.asked name p) 0)
      (ask_named kept name)

  -- what is told of what came last: of a reply to an ask that was open before
  abbrev pub differences_now : Past → List Difference
  differences_now (followed p step (comes.Replied name from reply)) =
      if watches place.replies && is_open p name
      then option_map_or (difference_from name from reply) (first_reply p name) []
      else []
  differences_now _ = []

  -- all differences, each with its step
  abbrev pub differences : Past → List (ℕ × Difference)
  differences booted = []
  differences (followed p step o) =
      differences p
      ++ map (λ (d : Difference). (step, d)) (differences_now (followed p step o))
