-- What of a record can be written into messages, and what is kept of a past with which a member may go on.
use Rattle.std.specs.Prelude.{◌≡◌, ℕ, ◌<◌, ◌≤◌, ◌^◌, true, false, List, All, length, None, Some, IfSome, slice_get}
use Rattle.std.specs.List.{AllByRecursion}
use Rattle.std.specs.Option.{option_map_or}
use Rattle.circus_limits.specs.Limits.{most_asks}
use Rattle.circus_value.specs.Fits.{all_fit}
use Rattle.circus_value.specs.declared.outcome.Outcome.{Outcome}
use Rattle.circus_collate.specs.declared.view.View.{View}
use Rattle.circus_model.specs.declared.signature.Signature.{Signature}
use Rattle.circus_model.specs.Lawful.{procedure_numbered, outcome_fits, import_takes, import_answers}
use Rattle.circus_record.specs.declared.record.AskRecord.{AskRecord}
use Rattle.circus_record.specs.declared.record.RunRecord.{RunRecord}
use Rattle.circus_record.specs.declared.record.MemberRecord.{MemberRecord}
use Rattle.circus_gather.specs.Gathering.{Gathered, reply_of}
use Rattle.circus_performing.specs.Record.{count_after}
use Rattle.circus_member_rules.specs.declared.place.Place.{Place}
use Rattle.circus_member_rules.specs.Callable.{AreReplies}
use Rattle.circus_member_rules.specs.Happening.{IsHome, IsThread}
use Rattle.circus_member_rules.specs.Seen.Sound.{AreHeld}
use Rattle.circus_dues.specs.declared.owing.Owing.{Owing}
use Rattle.circus_dues.specs.Seen.Parts.{CallsIn, CallsOut, MayCallFor}

-- ---- a record

-- a count for each of so many modules
abbrev pub IsClockOf : ℕ → List ℕ → Type 0
IsClockOf modules clock = (length clock ≡ modules) × AllByRecursion (λ n. n < 2 ^ 32) clock

-- by what its module declares, in a program of so many modules
module _ (declared : Signature) (modules : ℕ) where
  -- an import takes what is asked; where it was answered the reply is one that it may give, at a clock of the program
  pub record IsSayableAsk (ask : AskRecord) : Type 0 where
    pub takes : import_takes declared.imports ask.callee ask.procedure ask.arguments ≡ true
    pub reply : IfSome ask.reply (λ outcome. import_answers declared.imports ask.callee ask.procedure outcome ≡ true)
    pub after : IfSome ask.after (IsClockOf modules)

  -- a run ended as its procedure may, at a clock of the program
  pub record HasSayableEnd (run : RunRecord) : Type 0 where
    pub outcome : Outcome
    pub clock : List ℕ
    pub is_outcome : run.outcome ≡ Some outcome
    pub is_end : run.end ≡ Some clock
    pub fits : option_map_or (λ p. outcome_fits p outcome) (procedure_numbered run.procedure declared.procedures) false ≡ true
    pub counts : IsClockOf modules clock

  -- a run made no more asks than one may, and if it has ended left a state of its module
  pub record IsSayableRun (run : RunRecord) : Type 0 where
    pub few : length run.asks ≤ most_asks
    pub asks : All IsSayableAsk run.asks
    pub state : IfSome run.state (λ state. all_fit declared.variables state ≡ true)
    pub end : IfSome run.ended (λ step. HasSayableEnd run)

  abbrev pub IsSayable : MemberRecord → Type 0
  IsSayable kept = All IsSayableRun kept.runs

-- ---- what is kept of a past

-- a member that stands here may send the calls of its open asks, perform the calls that it holds and send the replies that it keeps
pub record MayGoOn (declared : Signature) (place : Place) (modules : ℕ) (o : CallsOut) (c : CallsIn) : Type 0 where
  pub out : MayCallFor place o
  pub many : length o.known.views ≡ modules
  pub own : c.gathered.module ≡ place.troupe
  pub held : AreHeld declared place.troupe modules c.gathered
  pub replies : AreReplies c.gathered.replies

-- the run behind so many is under way: its thread has come to this module, and its index has no reply
pub record IsPassed (place : Place) (modules : ℕ) (kept : MemberRecord) (g : Gathered) (ended : ℕ) : Type 0 where
  pub thread : (run : RunRecord) → slice_get kept.runs ended ≡ Some run → IsThread modules run.root run.path run.entry place.troupe
  pub fresh : reply_of g (count_after kept.from ended) ≡ None

-- a run that is under way has made so many asks, no more than one may
pub record IsUnderway (place : Place) (modules : ℕ) (kept : MemberRecord) (g : Gathered) (ended asked : ℕ) : Type 0 where
  pub few : asked ≤ most_asks
  pub passed : IsPassed place modules kept g ended

-- a member may go on with what it owes by this record
pub record MayGoOnOwing (declared : Signature) (place : Place) (modules : ℕ) (kept : MemberRecord) (d : Owing) : Type 0 where
  pub goes : MayGoOn declared place modules d.out d.calls
  pub began : all_fit declared.variables d.began ≡ true
  pub there : d.walk.ended ≤ length kept.runs
  pub underway : IfSome d.walk.asked (IsUnderway place modules kept d.calls.gathered d.walk.ended)

-- so may one that stands here, whose module declares this, and whose record may say what it says
pub record IsSoundOwing (declared : Signature) (place : Place) (kept : MemberRecord) (d : Owing) : Type 0 where
  pub boot : List View
  pub home : IsHome declared place boot
  pub sayable : IsSayable declared (length boot) kept
  pub may : MayGoOnOwing declared place (length boot) kept d
