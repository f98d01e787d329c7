-- The text of a node's record, in which datagrams from ports that are no other node's stand between events.
use Rattle.std.specs.Prelude.{◌≡◌, ℕ, ◌+◌, ◌<◌, ◌^◌, List, [], ◌∷◌, ◌++◌, codes, map, Option, Some, None}
use Rattle.std.specs.List.{AllByRecursion, flat_map}
use Rattle.std.specs.Option.{option_map_or}
use Rattle.circus_collate.specs.declared.deployment.Deployment.{Deployment}
use Rattle.circus_record.specs.Line.{line}
use Rattle.circus_record.specs.Naming.{Names, names_of}
use Rattle.circus_record.specs.MemberText.{member_lines}
use Rattle.circus_report.specs.ViewLines.{ringmaster_line, views_lines}
use Rattle.circus_node.specs.Accepting.{troupe_at}
use Rattle.circus_node.specs.declared.event.Event.{Event}
use Rattle.circus_serve.specs.NodeText.{event_text, event_line, give_line, differ_line, foreign_line}
use Rattle.circus_config.specs.declared.plan.Plan.{Plan}
use Rattle.circus_audit.specs.declared.given.GivenEvent.{GivenEvent}
use Rattle.circus_audit.specs.declared.given.Given.{Given}
use Rattle.circus_audit.specs.Possible.{AreBytes, IsPossible}

-- a datagram from a port that is no other node's
pub record Stray : Type 0 where
  pub port : ℕ
  pub bytes : List ℕ

-- an event, and the strays behind it
pub record Noted : Type 0 where
  pub given : GivenEvent
  pub strays : List Stray

abbrev pub what_came : Names → Option Event → List ℕ
what_came names None = codes "boot"
what_came names (Some event) = event_text names event

abbrev pub stray_line : Stray → List ℕ
stray_line stray = foreign_line stray.port stray.bytes

abbrev pub noted_lines : Names → ℕ → Noted → List ℕ
noted_lines names number noted =
    event_line number (what_came names noted.given.event)
    ++ flat_map (give_line names) noted.given.gives
    ++ flat_map (differ_line names) noted.given.differences
    ++ flat_map stray_line noted.strays

-- events, the first having this number
abbrev pub all_noted_lines : Names → ℕ → List Noted → List ℕ
all_noted_lines names number [] = []
all_noted_lines names number (noted ∷ others) = noted_lines names number noted ++ all_noted_lines names (number + 1) others

-- the lines of the member, or those of the Ringmaster and its views
abbrev pub kept_lines : Names → Deployment → Given → List ℕ
kept_lines names d given =
    option_map_or
    (λ troupe. option_map_or (member_lines names given.node troupe None) given.member [])
    (troupe_at d given.node)
    (ringmaster_line names None ++ option_map_or (views_lines names) given.views [])

abbrev pub record_text : Names → Deployment → List Noted → Given → List ℕ
record_text names d noted given =
    line (codes "circus node 1 " ++ names.node given.node) ++ all_noted_lines names 0 noted ++ kept_lines names d given

abbrev pub IsStray : Stray → Type 0
IsStray stray = (stray.port < 2 ^ 16) × AreBytes stray.bytes

-- the text is one of a record of a node of the program, which says this
pub record IsRecordText (plan : Plan) (given : Given) (text : List ℕ) : Type 0 where
  pub possible : IsPossible plan given
  pub noted : List Noted
  pub events : map (λ (n : Noted). n.given) noted ≡ given.events
  pub strays : AllByRecursion (λ (n : Noted). AllByRecursion IsStray n.strays) noted
  pub is_text : text ≡ record_text (names_of plan.deployment.nodes plan.names) plan.deployment noted given
