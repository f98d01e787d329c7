-- How the run of a call is entered: as the call says, at a clock that counts it.
use Rattle.std.specs.Prelude.{◌≡◌, ◌≢◌, ℕ, ◌+◌, ◌≤◌, min, true, List, ◌++◌, length, Some, IsSomeAnd, slice_get, slice_index}
use Rattle.circus_value.specs.Parts.{AreOctets}
use Rattle.circus_value.specs.ValueTree.{ValueTree}
use Rattle.circus_value.specs.Fits.{all_fit}
use Rattle.circus_external.specs.Spelling.{spelling_of_all}
use Rattle.circus_collate.specs.declared.view.View.{View}
use Rattle.circus_transfer.specs.declared.joiner.Joiner.{Joiner}
use Rattle.circus_record.specs.declared.record.MemberRecord.{MemberRecord}
use Rattle.circus_record.specs.declared.record.RunRecord.{RunRecord}
use Rattle.circus_model.specs.Lawful.{procedure_numbered}
use Rattle.circus_model.specs.declared.signature.ProcedureShape.{ProcedureShape}
use Rattle.circus_gather.specs.declared.held.HeldCall.{HeldCall}
use Rattle.circus_performing.specs.declared.start.RunStart.{RunStart}
use Rattle.circus_performing.specs.Performing.{last_count}
use Rattle.circus_performing.specs.Record.{start_of}
use Rattle.circus_member_rules.specs.declared.place.Place.{Place}
use Rattle.circus_member_theory.specs.First.{first_given}
use Rattle.circus_member_theory.specs.Past.{Past}
use Rattle.circus_member_theory.specs.Timely.{may_start}

-- bytes begin with the spelling of arguments that fit the procedure
pub record IsUnpacked (bytes : List ℕ) (arguments : List ValueTree) (p : ProcedureShape)
    : Type 0 where
  pub fit : all_fit p.arguments arguments ≡ true
  pub spelled : AreOctets bytes
      → (rest : List ℕ) × (bytes ≡ spelling_of_all arguments ++ rest)

-- a clock is the one before with the entry of this troupe one greater; the greatest one stays
pub record IsCounted (troupe : ℕ) (before entered : List ℕ) : Type 0 where
  pub long : length entered ≡ length before
  pub own : slice_index entered troupe ≡ min (slice_index before troupe + 1) last_count
  pub others : (other : ℕ) → other ≢ troupe
      → slice_index entered other ≡ slice_index before other

-- a run of a member of this troupe, which declares these procedures, is entered by a call
pub record IsStartOf (troupe : ℕ) (procedures : List ProcedureShape) (call : HeldCall)
    (start : RunStart) : Type 0 where
  pub root : start.root ≡ call.header.root
  pub path : start.path ≡ call.header.path
  pub procedure : start.procedure ≡ call.header.procedure
  pub arguments : IsSomeAnd (procedure_numbered call.header.procedure procedures)
      (IsUnpacked call.body start.arguments)
  pub clock : IsCounted troupe call.header.clock start.clock

-- of a member that stands here, with these views and in this phase at boot, which declares these
-- procedures: each run of its record but for those that were entered at boot, so many, is entered
-- by the call that was given for it
module _ (place : Place) (boot : List View) (begins : Joiner) (procedures : List ProcedureShape)
    (at_boot : ℕ) (kept : MemberRecord) (p : Past) where
  abbrev pub AreEnteredByCalls : Type 0
  AreEnteredByCalls =
      (number : ℕ) (run : RunRecord) → at_boot ≤ number
      → slice_get kept.runs number ≡ Some run
      → IsSomeAnd (first_given (may_start place boot begins kept number) p)
      (λ given. IsStartOf place.troupe procedures given.1 (start_of run))
