-- A record, line by line.
use Rattle.std.specs.Prelude.{ℕ, ◌==◌, nat_le, cond, Bool, List, [], ◌∷◌, ◌++◌, length, map, codes, bytes_eq, option_map, option_and_then, Option, Some, None}
use Rattle.std.specs.List.{list_any}
use Rattle.circus_collate.specs.declared.deployment.Troupe.{Troupe}
use Rattle.circus_collate.specs.declared.view.View.{View}
use Rattle.circus_model.specs.declared.signature.Signature.{Signature}
use Rattle.circus_transfer.specs.declared.joiner.Joiner.{Joiner}
use Rattle.circus_record.specs.declared.record.MemberRecord.{MemberRecord}
use Rattle.circus_record.specs.Naming.{host_name}
use Rattle.circus_performing.specs.Performing.{before_any}
use Rattle.circus_node.specs.Accepting.{troupe_at}
use Rattle.circus_config.specs.declared.plan.Plan.{Plan}
use Rattle.circus_value_text.specs.declared.unread.Unread.{Unread}
use Rattle.circus_value_text.specs.declared.unread.Unread.TheVariants as unread
use Rattle.circus_audit.specs.declared.fault.RecordFault.{RecordFault}
use Rattle.circus_audit.specs.declared.fault.RecordFault.TheVariants.{BadLine, NoMemory}
use Rattle.circus_value_text.specs.Reading.{behind, behind_prefix}
use Rattle.circus_audit.specs.Possible.{declared_by}
use Rattle.circus_audit.specs.declared.given.GivenEvent.{GivenEvent}
use Rattle.circus_audit.specs.declared.given.Given.{Given}
use Rattle.circus_audit.specs.declared.noted.Noted.{Noted}
use Rattle.circus_audit.specs.declared.noted.Kind.TheVariants.{Foreign}
use Rattle.circus_audit.specs.declared.noted.Happened.{Happened}
use Rattle.circus_audit.specs.declared.member_line.Phase.{Phase}
use Rattle.circus_audit.specs.declared.member_line.Phase.TheVariants.{Apart, Active}
use Rattle.circus_audit.specs.declared.performed.Performed.{Performed}
use Rattle.circus_audit.specs.declared.performed.Current.TheVariants.{Nothing}
use Rattle.circus_audit.specs.declared.performed.After.{After}
use Rattle.circus_audit.specs.declared.performed.After.TheVariants.{On, Last}
use Rattle.circus_audit.specs.declared.setting.Hosted.{Hosted}
use Rattle.circus_audit.specs.declared.stage.Stage.{Stage}
use Rattle.circus_audit.specs.declared.stage.Stage.TheVariants.{Events, Runs, Watching, Done}
use Rattle.circus_audit.specs.Seen.Answers.{from_some, or_else, whole, only_if}
use Rattle.circus_audit.specs.Seen.Breaking.{all_lines}
use Rattle.circus_audit.specs.Seen.Names.{number_of_name, name_at}
use Rattle.circus_audit.specs.Seen.Happening.{all_noted, happened_after}
use Rattle.circus_audit.specs.Seen.Lines.{phase_read}
use Rattle.circus_audit.specs.Seen.Performing.{performed_after}
use Rattle.circus_audit.specs.Seen.Differing.{events_of, events_apart}
use Rattle.circus_audit.specs.Seen.Views.{view_read}

-- ---- names

abbrev pub node_names : Plan → List (List ℕ)
node_names plan = map host_name plan.deployment.nodes

-- the node of the first line
abbrev pub own_read : Plan → List ℕ → Option ℕ
own_read plan line = whole (behind (behind_prefix (codes "circus node 1 ") line) (number_of_name (node_names plan)))

-- ---- stages

abbrev pub nothing_happened : Happened
nothing_happened = record { earlier = []; last = None; kind = Foreign }

-- behind the first line
abbrev pub beginning : Stage
beginning = Events nothing_happened

abbrev pub fault_at : ℕ → Unread → RecordFault
fault_at line unread.Unlike = BadLine line
fault_at line unread.NoMemory = NoMemory

-- a member that isn't active
abbrev pub record_apart : Joiner → MemberRecord
record_apart phase = before_any phase []

abbrev pub by_phase : List Noted → Phase → Stage
by_phase noted (Apart joiner) = Done noted (Some (record_apart joiner)) None
by_phase noted (Active from since count) =
    Runs noted (record { from = from; since = since; count = count; runs = []; current = Nothing })

abbrev pub after_line : List Noted → After → Stage
after_line noted (On p) = Runs noted p
after_line noted (Last kept) = Done noted (Some kept) None

abbrev pub with_views : Plan → List Noted → List View → Stage
with_views plan noted views = cond (length views == length plan.names) (Done noted None (Some views)) (Watching noted views)

-- who a member of a module is, and that it is live
abbrev pub who_read : Plan → ℕ → ℕ → List ℕ → Option (List ℕ)
who_read plan own «module» text =
    from_some (behind_prefix (name_at (node_names plan) own) text) (λ a. from_some (behind_prefix (codes " ") a)
    (λ b. from_some (behind_prefix (name_at plan.names «module») b) (behind_prefix (codes " live "))))

abbrev pub member_begins : Plan → ℕ → List Noted → Hosted → List ℕ → Option Stage
member_begins plan own noted host text =
    from_some (who_read plan own host.«module» text) (λ rest. option_map (by_phase noted) (phase_read (length noted) rest))

abbrev pub member_if : Plan → ℕ → List Noted → Option Hosted → List ℕ → Option Stage
member_if plan own noted None text = None
member_if plan own noted (Some host) text = member_begins plan own noted host text

-- the Ringmaster's line, which is live
abbrev pub ring_begins : Plan → List Noted → List ℕ → Option Stage
ring_begins plan noted text =
    from_some (behind_prefix (name_at (node_names plan) 0) text) (λ rest. only_if (bytes_eq rest (codes " live")) (Some (with_views plan noted [])))

-- nodes that host no member have the Ringmaster
abbrev pub ring_if : Plan → Option ℕ → List Noted → List ℕ → Option Stage
ring_if plan None noted text = ring_begins plan noted text
ring_if plan (Some _) noted text = None

abbrev pub ring_at : Plan → ℕ → List Noted → List ℕ → Option Stage
ring_at plan own noted text = ring_if plan (troupe_at plan.deployment own) noted text

-- all events that happened
abbrev pub noted_by : Happened → List Noted
noted_by h = all_noted h.earlier h.last

abbrev pub event_line_read : Plan → ℕ → Happened → List ℕ → Option Stage
event_line_read plan own h line = option_map (λ next. Events next) (happened_after (node_names plan) own h line)

-- by a line behind the first one, and before those of a member or of views
abbrev pub events_go_on : Plan → ℕ → Option Hosted → Happened → List ℕ → Option Stage
events_go_on plan own hosted h line =
    or_else (behind_prefix (codes "member ") line) (member_if plan own (noted_by h) hosted)
    (or_else (behind_prefix (codes "ringmaster ") line) (ring_at plan own (noted_by h))
    (event_line_read plan own h line))

abbrev pub runs_go_on : Plan → Option Hosted → List Noted → Performed → List ℕ → Option Stage
runs_go_on plan None noted p line = None
runs_go_on plan (Some host) noted p line =
    option_map (after_line noted) (performed_after plan.names plan.deployment host.signature (length noted) p line)

abbrev pub views_go_on : Plan → List Noted → List View → List ℕ → Option Stage
views_go_on plan noted views line =
    only_if (nat_le (length views) 65535) (option_map (λ view. with_views plan noted (views ++ view ∷ []))
    (view_read (node_names plan) (length views) (name_at plan.names (length views)) line))

-- the events, by the record of the member, where there is one
abbrev pub events_by : Plan → ℕ → Option Hosted → Option MemberRecord → List Noted → Option (List GivenEvent)
events_by plan own None None noted = events_apart noted
events_by plan own None (Some kept) noted = None
events_by plan own (Some host) None noted = None
events_by plan own (Some host) (Some kept) noted =
    events_of (node_names plan) (length plan.names) own host.signature.imports kept noted

module _ (plan : Plan) (own : ℕ) (hosted : Option Hosted) where
  -- by one more line
  abbrev pub stage_after : Stage → List ℕ → Option Stage
  stage_after (Events h) line = events_go_on plan own hosted h line
  stage_after (Runs noted p) line = runs_go_on plan hosted noted p line
  stage_after (Watching noted views) line = views_go_on plan noted views line
  stage_after (Done noted kept views) line = None

  -- what the lines said, where they may end
  abbrev pub given_by : Stage → Option Given
  given_by (Events h) = None
  given_by (Runs noted p) = None
  given_by (Watching noted views) = None
  given_by (Done noted kept views) =
      option_map (λ events. record { node = own; events = events; member = kept; views = views }) (events_by plan own hosted kept noted)

  abbrev pub stage_behind : Stage → List (List ℕ) → Option Stage
  stage_behind stage [] = Some stage
  stage_behind stage (line ∷ lines) = from_some (stage_after stage line) (λ next. stage_behind next lines)

  -- what a text says that goes on behind a stage
  abbrev pub rest_read : Stage → List ℕ → Option Given
  rest_read stage text = from_some (all_lines text) (λ lines. from_some (stage_behind stage lines) given_by)

-- ---- the whole

-- some module is a root, from which runs are entered
abbrev pub has_root : List Troupe → Bool
has_root troupes = list_any (λ (t : Troupe). t.root) troupes

abbrev pub hosted_as : Plan → ℕ → Signature → Hosted
hosted_as plan «module» s = record { «module» = «module»; signature = s; rooted = has_root plan.deployment.troupes }

-- what the node's module declares, where it hosts a member
abbrev pub hosted_by : Plan → ℕ → Option Hosted
hosted_by plan own = option_and_then (λ «module». option_map (hosted_as plan «module») (declared_by plan «module»)) (troupe_at plan.deployment own)

abbrev pub lines_read : Plan → List (List ℕ) → Option Given
lines_read plan [] = None
lines_read plan (first ∷ lines) =
    from_some (own_read plan first)
    (λ own. from_some (stage_behind plan own (hosted_by plan own) beginning lines) (given_by plan own (hosted_by plan own)))

abbrev pub record_read : Plan → List ℕ → Option Given
record_read plan text = from_some (all_lines text) (lines_read plan)
