-- What a call answers: which status comes when, and what is written at each.
use Rattle.std.specs.Prelude.{ℕ, ◌≡◌, ◌⊎◌, IsTrue}
use Rattle.circus_outside.specs.Faults.{Rose}
use Rattle.circus_outside.specs.Sink.{HasGivenOn}
use Rattle.circus_commands.specs.declared.status.Status.{Status}
use Rattle.circus_commands.specs.declared.status.Status.TheVariants.{Done, BadSchedule, ShelfFault, SinkFault, LinkFault, NoMemory, Spent}
use Rattle.circus_commands.specs.Status.{code_of, is_end}
use Rattle.circus_program.specs.Agreeing.{WritesAgreed, WritesAgreedSoFar}
use Rattle.circus_program.specs.Promise.{WritesKept, WritesKeptSoFar}
use Rattle.circus_program.specs.Replayed.{WritesReplayed}
use Rattle.circus_program.specs.Answer.{AsksOnly, WritesEnd, WritesLack, WritesPartOfText}
use Rattle.circus_program.specs.Told.{Change, Told}

-- a count rose in the call
abbrev pub HasRisen : Change ℕ → Type 0
HasRisen count = Rose count.before count.after

-- the writing broke off: the sink failed, or there was no memory
abbrev pub IsBrokenOff : Status → Type 0
IsBrokenOff status = (status ≡ SinkFault) ⊎ (status ≡ NoMemory)

-- a replay ended at a line
abbrev pub IsCutShort : Status → Type 0
IsCutShort status = (status ≡ BadSchedule) ⊎ (status ≡ Spent)

module _ (told : Told) where
  -- the text of the end that is due, with this status, was written
  abbrev pub EndIsWritten : Status → Type 0
  EndIsWritten status =
      WritesEnd told.contents told.words told.carried.before told.carried.after
      told.written.before told.written.after status

  -- the name of the file that is not there was written
  abbrev pub LackIsWritten : Type 0
  LackIsWritten =
      WritesLack told.contents told.words told.fetched.after told.written.before told.written.after

  -- a part of the text that is due was written, or nothing
  abbrev pub PartIsWritten : Type 0
  PartIsWritten =
      WritesPartOfText told.contents told.words told.carried.before told.carried.after
      told.fetched.after (HasRisen told.shelf_faults) told.written.before told.written.after

  pub record Answers (status : Status) : Type 0 where
    -- the shelf was asked for no other names than those of files in the words, in their order
    pub asked : AsksOnly told.fetched.before told.fetched.after told.words
    -- the call came to its end, which is written in full
    pub ended : IsTrue (is_end status) → EndIsWritten status
    -- a file is not there
    pub lacked : status ≡ ShelfFault → LackIsWritten × HasRisen told.shelf_faults
    -- the link failed
    pub unlinked : status ≡ LinkFault → HasRisen told.link_faults
    -- the sink failed
    pub unwritten : status ≡ SinkFault → HasRisen told.sink_faults
    pub broken_off : IsBrokenOff status → PartIsWritten
    -- else the sink has given on all that it took
    pub given_on : (IsBrokenOff status → ⊥) → HasGivenOn told.gathered
    -- what is promised is kept of the world of which is written, where a program is simulated
    pub kept : status ≡ Done → WritesKept told.contents told.words told.written.before told.written.after
    -- and of the world that the lines lead to before one at which a replay ends
    pub kept_so_far : IsCutShort status
        → WritesKeptSoFar told.contents told.words told.written.before told.written.after
    -- a replay under the lines that are written comes to the world of the sample
    pub replayed : status ≡ Done → WritesReplayed told.contents told.words told.written.before told.written.after
    -- each node was a node run and the copies agree, in what is written of records
    pub agree : status ≡ Done → WritesAgreed told.contents told.words told.written.before told.written.after
    pub agree_so_far : IsCutShort status
        → WritesAgreedSoFar told.contents told.words told.written.before told.written.after

  -- the number that the call answers is that of such a status
  abbrev pub IsAnswered : ℕ → Type 0
  IsAnswered code = (status : Status) × (code ≡ code_of status) × Answers status
