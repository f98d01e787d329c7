-- Replies that differ, by the asks of a member.
use Rattle.std.specs.Prelude.{ℕ, ◌-◌, Bool, true, false, nat_le, cond, List, [], ◌∷◌, ◌++◌, codes, slice_get, option_map, Option, Some, None}
use Rattle.circus_model.specs.declared.signature.Import.{Import}
use Rattle.circus_model.specs.declared.signature.ProcedureShape.{ProcedureShape}
use Rattle.circus_record.specs.declared.record.AskRecord.{AskRecord}
use Rattle.circus_record.specs.declared.record.RunRecord.{RunRecord}
use Rattle.circus_record.specs.declared.record.MemberRecord.{MemberRecord}
use Rattle.circus_member_rules.specs.declared.occurrence.Difference.{Difference}
use Rattle.circus_value_text.specs.Reading.{Read, and_then}
use Rattle.circus_audit.specs.declared.given.GivenEvent.{GivenEvent}
use Rattle.circus_audit.specs.declared.noted.Noted.{Noted}
use Rattle.circus_audit.specs.declared.noted.Differing.{Differing}
use Rattle.circus_audit.specs.declared.differing.Replied.{Replied}
use Rattle.circus_audit.specs.Seen.Answers.{from_some, whole, only_if}
use Rattle.circus_audit.specs.Seen.Events.{other_behind}
use Rattle.circus_audit.specs.Seen.Lines.{clock_behind}
use Rattle.circus_audit.specs.Seen.Values.{outcome_behind, procedure_of_import}

-- what each gives, where each gives something
abbrev pub each_read : {A B : Type 0} → (A → Option B) → List A → Option (List B)
each_read f [] = Some []
each_read f (a ∷ others) = from_some (f a) (λ b. option_map (λ bs. b ∷ bs) (each_read f others))

-- these in front of the others
abbrev pub each_before : {B : Type 0} → List B → Option (List B) → Option (List B)
each_before done r = option_map (λ bs. done ++ bs) r

-- which ask of which run this is
abbrev pub ask_named : MemberRecord → ℕ → ℕ → Option AskRecord
ask_named kept run ask =
    only_if (nat_le kept.from run) (from_some (slice_get kept.runs (run - kept.from)) (λ (r : RunRecord). slice_get r.asks ask))

abbrev pub event_with : Noted → List Difference → GivenEvent
event_with noted ds = record { event = noted.event; gives = noted.gives; differences = ds }

abbrev pub nothing_differs : List Differing → Bool
nothing_differs [] = true
nothing_differs (_ ∷ _) = false

abbrev pub difference_of : Differing → Replied → Replied → Difference
difference_of d first second = record {
  run = d.run;
  ask = d.ask;
  first = first.node;
  first_reply = first.reply;
  second = second.node;
  second_reply = second.reply;
}

module _ (nodes : List (List ℕ)) (modules own : ℕ) where
  -- a reply of another node
  abbrev pub replied_read : ProcedureShape → List ℕ → Read Replied
  replied_read p text =
      and_then (other_behind (codes " ") nodes own text) (λ node a. and_then (clock_behind modules a) (λ clock b. and_then (outcome_behind p b)
      (λ outcome rest. Some (record { node = node; reply = record { clock = clock; outcome = outcome } }, rest))))

  abbrev pub replies_parts : Differing → ProcedureShape → Read Difference
  replies_parts d p =
      and_then (replied_read p d.replies) (λ first rest. and_then (replied_read p rest) (λ second later. Some (difference_of d first second, later)))

  -- two replies
  abbrev pub replies_read : Differing → ProcedureShape → Option Difference
  replies_read d p = whole (replies_parts d p)

  abbrev pub by_procedure : Differing → Option ProcedureShape → Option Difference
  by_procedure d None = None
  by_procedure d (Some p) = replies_read d p

  abbrev pub by_ask : List Import → Differing → Option AskRecord → Option Difference
  by_ask imports d None = None
  by_ask imports d (Some ask) = by_procedure d (procedure_of_import imports ask.callee ask.procedure)

  -- those to an ask of a member, by the imports of its module
  abbrev pub difference_read : List Import → MemberRecord → Differing → Option Difference
  difference_read imports kept d = by_ask imports d (ask_named kept d.run d.ask)

  abbrev pub event_of : List Import → MemberRecord → Noted → Option GivenEvent
  event_of imports kept noted =
      option_map (event_with noted) (each_read (difference_read imports kept) noted.differing)

  -- the events of a node that hosts a member
  abbrev pub events_of : List Import → MemberRecord → List Noted → Option (List GivenEvent)
  events_of imports kept all = each_read (event_of imports kept) all

-- an event of a node that hosts none, in which no replies differ
abbrev pub event_apart : Noted → Option GivenEvent
event_apart noted = cond (nothing_differs noted.differing) (Some (event_with noted [])) None

abbrev pub events_apart : List Noted → Option (List GivenEvent)
events_apart all = each_read event_apart all
