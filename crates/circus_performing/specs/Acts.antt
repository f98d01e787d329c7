-- What can happen to a member's record, in order, and what it is then.
use Rattle.std.specs.Prelude.{ℕ, ◌≡◌, ◌≤◌, true, List, None, Some}
use Rattle.circus_value.specs.ValueTree.{ValueTree}
use Rattle.circus_value.specs.ExternalSize.{size_of_values}
use Rattle.circus_value.specs.declared.outcome.Outcome.{Outcome}
use Rattle.circus_collate.specs.declared.table.Table.{Table}
use Rattle.circus_model.specs.declared.signature.Signature.{Signature}
use Rattle.circus_limits.specs.Limits.{most_bytes}
use Rattle.circus_model.specs.Lawful.{IsState, arguments_fit, import_answers}
use Rattle.circus_model.specs.Behaviour.{Behaviour}
use Rattle.circus_record.specs.declared.record.AskRecord.{AskRecord}
use Rattle.circus_record.specs.declared.record.MemberRecord.{MemberRecord}
use Rattle.circus_performing.specs.declared.start.RunStart.{RunStart}
use Rattle.circus_performing.specs.Performing.{Performing, founder, spare, told_to_join, taken_in, activate, enter_run, answer_open_ask, open_ask, is_active, last_count}

-- a member is told to join; the Ringmaster answers its Join; a snapshot comes, in a step; a run is entered in a step;
-- the open ask is answered, with the clock after it, in a step
pub data Act : Type 0 where
  Joins : Act
  Tabled : (table : Table) → Act
  Activates : (step : ℕ) → (state : List ValueTree) → (count : ℕ) → Act
  Enters : (step : ℕ) → (start : RunStart) → Act
  Answers : (step : ℕ) → (reply : Outcome) → (clock : List ℕ) → Act

-- oldest first
pub data Acts : Type 0 where
  as_founder : Acts
  as_spare : Acts
  more : Acts → Act → Acts

-- the member after an act
abbrev pub after : Behaviour → Act → Performing Behaviour → Performing Behaviour
after b Joins p = record p { kept = told_to_join p.kept }
after b (Tabled table) p = record p { kept = taken_in table p.kept }
after b (Activates step state count) p = activate step state count p
after b (Enters step start) p = record p { kept = enter_run b.turn step start p.kept }
after b (Answers step reply clock) p = record p { kept = answer_open_ask b.turn p.began step reply clock p.kept }

abbrev pub performed_by : Behaviour → Acts → Performing Behaviour
performed_by b as_founder = founder b b.first
performed_by b as_spare = spare b b.first
performed_by b (more acts act) = after b act (performed_by b acts)

-- ---- what a call asks for

-- a run may be entered: the member is active, performs none, and declares the procedure, whose arguments fit
pub record CanEnter (signature : Signature) (start : RunStart) (kept : MemberRecord) : Type 0 where
  pub active : is_active kept.phase ≡ true
  pub idle : open_ask kept ≡ None
  pub fit : arguments_fit signature.procedures start.procedure start.arguments ≡ true
  pub within : size_of_values start.arguments ≤ most_bytes

-- the open ask may be answered so
pub record CanAnswer (signature : Signature) (reply : Outcome) (kept : MemberRecord) : Type 0 where
  pub ask : AskRecord
  pub is_open : open_ask kept ≡ Some ask
  pub fits : import_answers signature.imports ask.callee ask.procedure reply ≡ true

-- the act may happen to the record
abbrev pub CanHappen : Behaviour → Act → MemberRecord → Type 0
CanHappen b Joins kept = Unit {0}
CanHappen b (Tabled table) kept = Unit {0}
CanHappen b (Activates step state count) kept = IsState b.declared state × (count ≤ last_count)
CanHappen b (Enters step start) kept = CanEnter b.declared start kept
CanHappen b (Answers step reply clock) kept = CanAnswer b.declared reply kept

-- each act may happen where it does
abbrev pub AreLawful : Behaviour → Acts → Type 0
AreLawful b as_founder = Unit {0}
AreLawful b as_spare = Unit {0}
AreLawful b (more acts act) = AreLawful b acts × CanHappen b act (performed_by b acts).kept
