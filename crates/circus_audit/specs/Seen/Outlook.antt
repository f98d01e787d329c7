-- Whether a record can go on behind its lines, and the first line behind which none can.
use Rattle.std.specs.Prelude.{ℕ, ◌+◌, ◌-◌, ◌==◌, ◌&&◌, ◌||◌, not, nat_le, nat_lt, cond, Bool, true, false, List, [], ◌∷◌, ◌++◌, length, slice_get, is_some, option_and_then, Option, Some, None}
use Rattle.std.specs.List.{list_all, list_any}
use Rattle.std.specs.Option.{option_map_or, option_to_list}
use Rattle.circus_model.specs.declared.signature.Import.{Import}
use Rattle.circus_model.specs.declared.signature.ProcedureShape.{ProcedureShape}
use Rattle.circus_model.specs.declared.signature.Signature.{Signature}
use Rattle.circus_record.specs.declared.record.RunRecord.{RunRecord}
use Rattle.circus_record.specs.declared.record.MemberRecord.{MemberRecord}
use Rattle.circus_config.specs.declared.plan.Plan.{Plan}
use Rattle.circus_audit.specs.declared.noted.Noted.{Noted}
use Rattle.circus_audit.specs.declared.noted.Differing.{Differing}
use Rattle.circus_audit.specs.declared.noted.Kind.{Kind}
use Rattle.circus_audit.specs.declared.noted.Kind.TheVariants.{Gives, Differences, Foreign}
use Rattle.circus_audit.specs.declared.performed.Current.{Current}
use Rattle.circus_audit.specs.declared.performed.Current.TheVariants.{Nothing, Run, Ask}
use Rattle.circus_audit.specs.declared.performed.Performed.{Performed}
use Rattle.circus_audit.specs.declared.setting.Hosted.{Hosted}
use Rattle.circus_audit.specs.declared.stage.Stage.{Stage}
use Rattle.circus_audit.specs.declared.stage.Stage.TheVariants.{Events, Runs, Watching, Done}
use Rattle.circus_audit.specs.declared.outlook.Outlook.{Outlook}
use Rattle.circus_audit.specs.TextPieces.{Piece, pieces}
use Rattle.circus_audit.specs.TextPieces as piece
use Rattle.circus_audit.specs.Seen.Differing.{ask_named, by_procedure}
use Rattle.circus_audit.specs.Seen.Performing.{place_behind}
use Rattle.circus_audit.specs.Seen.Reading.{node_names, own_read, hosted_by, beginning, stage_after}
use Rattle.circus_audit.specs.Seen.Values.{procedure_of_import}

-- ---- what a module can do

abbrev pub can_run : Signature → Bool
can_run s = nat_le 1 (length s.procedures)

abbrev pub has_procedures : Import → Bool
has_procedures i = nat_le 1 (length i.procedures)

abbrev pub any_asks : List Import → Bool
any_asks imports = list_any has_procedures imports

-- the run at a place can end, by the count
abbrev pub may_end : Performed → ℕ → Bool
may_end p place = nat_lt place p.count || (p.count == 4294967295)

-- it can stand there: it ends, or it waits
abbrev pub may_run : Performed → ℕ → Signature → Bool
may_run p place s = can_run s && (may_end p place || ((place == p.count) && any_asks s.imports))

-- ---- which asks lines of replies name

abbrev pub names : ℕ → ℕ → Differing → Bool
names run ask d = (d.run == run) && (d.ask == ask)

abbrev pub is_within : ℕ → ℕ → Differing → Bool
is_within from count d = not (nat_lt d.run from || nat_lt count d.run)

abbrev pub all_within : ℕ → ℕ → List Differing → Bool
all_within from count ds = list_all (is_within from count) ds

-- an ask of a run is one of so many
abbrev pub is_asked : ℕ → ℕ → Differing → Bool
is_asked run asks d = not ((d.run == run) && nat_le asks d.ask)

abbrev pub all_asked : ℕ → ℕ → List Differing → Bool
all_asked run asks ds = list_all (is_asked run asks) ds

abbrev pub is_named : MemberRecord → Differing → Bool
is_named kept d = is_some (ask_named kept d.run d.ask)

abbrev pub all_named : MemberRecord → List Differing → Bool
all_named kept ds = list_all (is_named kept) ds

-- ---- which procedures can answer as lines say

module _ (nodes : List (List ℕ)) (modules own : ℕ) (imports : List Import) where
  abbrev pub may_answer : ℕ → ℕ → Differing → Bool
  may_answer callee number d = is_some (by_procedure nodes modules own d (procedure_of_import imports callee number))

  -- a line that names an ask
  abbrev pub answers_if : ℕ → ℕ → ℕ → ℕ → Differing → Bool
  answers_if run ask callee number d = cond (names run ask d) (may_answer callee number d) true

  -- each of them
  abbrev pub all_answer : List Differing → ℕ → ℕ → ℕ → ℕ → Bool
  all_answer expected run ask callee number = list_all (answers_if run ask callee number) expected

  abbrev pub some_procedure : List Differing → ℕ → ℕ → Import → Bool
  some_procedure expected run ask i = list_any (λ (p : ProcedureShape). all_answer expected run ask i.module p.number) i.procedures

  abbrev pub some_import : List Differing → ℕ → ℕ → Bool
  some_import expected run ask = list_any (some_procedure expected run ask) imports

-- ---- behind a line

-- the line of replies that was read last
abbrev pub last_of : List Differing → Option Differing
last_of ds = slice_get ds (length ds - 1)

abbrev pub newest_by : Kind → Option Noted → Option Differing
newest_by Gives last = None
newest_by Differences last = option_and_then (λ (n : Noted). last_of n.differing) last
newest_by Foreign last = None

abbrev pub newest : Stage → Option Differing
newest (Events h) = newest_by h.kind h.last
newest (Runs noted p) = None
newest (Watching noted views) = None
newest (Done noted kept views) = None

-- a member with these counts may have the runs that are expected
abbrev pub suits : Signature → List Differing → Performed → Bool
suits s expected p = nat_le p.from p.count && (((p.from == p.count) || can_run s) && all_within p.from p.count expected)

-- the last run has ended, and its asks are read
abbrev pub may_have_ended : List Differing → Performed → RunRecord → ℕ → Bool
may_have_ended expected p run place = may_end p place && all_asked place (length run.asks) expected

abbrev pub ended_well : List Differing → Performed → RunRecord → Bool
ended_well expected p run = option_map_or (may_have_ended expected p run) (place_behind p.from (length p.runs - 1)) true

abbrev pub rests_well : Signature → List Differing → Performed → Bool
rests_well s expected p = option_map_or (ended_well expected p) (slice_get p.runs (length p.runs - 1)) (suits s expected p)

-- runs can be entered, or none has to be
abbrev pub may_enter : Hosted → Performed → Bool
may_enter host p = host.rooted || (p.from == p.count)

module _ (nodes : List (List ℕ)) (modules own : ℕ) where
  abbrev pub performs_well : Signature → List Differing → Performed → Current → ℕ → Bool
  performs_well s expected p Nothing place = rests_well s expected p
  performs_well s expected p (Run run) place = may_run p place s
  performs_well s expected p (Ask run ask) place = all_answer nodes modules own s.imports expected place (length run.asks) ask.callee ask.procedure

  abbrev pub performs : Signature → List Differing → Performed → Bool
  performs s expected p = option_map_or (performs_well s expected p p.current) (place_behind p.from (length p.runs)) (rests_well s expected p)

  -- an ask that a line of replies names can come, and be answered as the lines say
  abbrev pub can_come : Signature → List Differing → Differing → Bool
  can_come s expected d = can_run s && some_import nodes modules own s.imports expected d.run d.ask

  abbrev pub come_by : Option Hosted → List Differing → Option Differing → Bool
  come_by hosted expected None = true
  come_by None expected (Some d) = false
  come_by (Some host) expected (Some d) = host.rooted && can_come host.signature expected d

  abbrev pub performs_by : Option Hosted → List Differing → Performed → Bool
  performs_by None expected p = true
  performs_by (Some host) expected p = may_enter host p && performs host.signature expected p

  abbrev pub named_by : List Differing → Option MemberRecord → Bool
  named_by expected None = true
  named_by expected (Some kept) = all_named kept expected

  -- a record goes on from a stage
  abbrev pub goes_on : Option Hosted → List Differing → Stage → Bool
  goes_on hosted expected (Events h) = come_by hosted expected (newest_by h.kind h.last)
  goes_on hosted expected (Runs noted p) = performs_by hosted expected p
  goes_on hosted expected (Watching noted views) = true
  goes_on hosted expected (Done noted kept views) = named_by expected kept

  abbrev pub expected_then : Outlook → Stage → List Differing
  expected_then o stage = o.expected ++ option_to_list (newest stage)

  abbrev pub lost_at : ℕ → Bool → Option ℕ
  lost_at line true = None
  lost_at line false = Some line

  abbrev pub followed_by : Option Hosted → Stage → ℕ → Outlook → Option ℕ → Outlook
  followed_by hosted stage line o None =
      record { expected = expected_then o stage; lost = lost_at line (goes_on hosted (expected_then o stage) stage) }
  followed_by hosted stage line o (Some lost) = o

  -- behind the line of a number, by which a record has come to a stage
  abbrev pub follow_line : Option Hosted → Stage → ℕ → Outlook → Outlook
  follow_line hosted stage line o = followed_by hosted stage line o o.lost

abbrev pub nothing_expected : Outlook
nothing_expected = record { expected = []; lost = None }

-- the first bad line, where the line of a number isn't read
abbrev pub line_lost : ℕ → Option ℕ → ℕ
line_lost line None = line
line_lost line (Some lost) = lost

-- ---- line by line

module _ (plan : Plan) (own : ℕ) (hosted : Option Hosted) where
  abbrev pub looks : Stage → ℕ → Outlook → Outlook
  looks stage line o = follow_line (node_names plan) (length plan.names) own hosted stage line o

  -- the first bad line of a text that isn't read, from this line on
  abbrev pub bad_by : (ℕ → Outlook → Stage → ℕ) → ℕ → Outlook → Option Stage → ℕ
  bad_by goes_on line o None = line_lost line o.lost
  bad_by goes_on line o (Some stage) = goes_on (line + 1) (looks stage line o) stage

  abbrev pub bad_among : List Piece → ℕ → Outlook → Stage → ℕ
  bad_among [] line o stage = line_lost line o.lost
  bad_among (piece.whole text ∷ others) line o stage = bad_by (bad_among others) line o (stage_after plan own hosted stage text)
  bad_among (piece.rest text ∷ others) line o stage = line_lost line o.lost

  abbrev pub bad_behind : List ℕ → ℕ → Outlook → Stage → ℕ
  bad_behind text line o stage = bad_among (pieces text) line o stage

abbrev pub bad_by_own : Plan → List Piece → Option ℕ → ℕ
bad_by_own plan others None = 1
bad_by_own plan others (Some own) = bad_among plan own (hosted_by plan own) others 2 nothing_expected beginning

abbrev pub bad_in : Plan → List Piece → ℕ
bad_in plan [] = 1
bad_in plan (piece.whole text ∷ others) = bad_by_own plan others (own_read plan text)
bad_in plan (piece.rest text ∷ others) = 1

-- the first line of a text with which no record goes on
abbrev pub bad_line : Plan → List ℕ → ℕ
bad_line plan text = bad_in plan (pieces text)
