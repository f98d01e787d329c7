-- When a record is lawful, said run by run: each begins in the state behind the ones before, and goes on ask by ask with the replies so far.
use Rattle.std.specs.Prelude.{◌≡◌, ℕ, ◌+◌, ◌⊎◌, true, false, List, [], ◌∷◌, ◌++◌, slice_index, None, Some, unwrap_or}
use Rattle.circus_value.specs.ValueTree.{ValueTree}
use Rattle.circus_value.specs.declared.outcome.Outcome.{Outcome}
use Rattle.circus_model.specs.Behaviour.{Behaviour}
use Rattle.circus_model.specs.Execution.{is_spent}
use Rattle.circus_model.specs.Lawful.{IsState, CanStart, import_answers}
use Rattle.circus_model.specs.NextTurn.{asks, ends}
use Rattle.circus_record.specs.declared.record.AskRecord.{AskRecord}
use Rattle.circus_record.specs.declared.record.MemberRecord.{MemberRecord}
use Rattle.circus_record.specs.declared.record.RunRecord.{RunRecord}
use Rattle.circus_performing.specs.Performing.{refusal}
use Rattle.circus_performing.specs.Record.{start_of, turns, count_after}

-- ---- a run, in this state at its beginning

module _ (b : Behaviour) (state : List ValueTree) (run : RunRecord) where
  -- an ask is the turn on these replies, made at this clock and in this step
  pub record IsTurnOf (replies : List Outcome) (clock : List ℕ) (step : ℕ) (ask : AskRecord) : Type 0 where
    pub turn : turns b state (start_of run) replies ≡ asks ask.callee ask.procedure ask.arguments ask.state
    pub index : ask.index ≡ slice_index clock ask.callee
    pub asked : ask.asked ≡ step

  -- it was answered as its callee may answer; where the thread had made all its calls, at once, by the error for that and with the clock as
  -- it was
  pub record HasReply (clock : List ℕ) (ask : AskRecord) : Type 0 where
    pub reply : Outcome
    pub after : List ℕ
    pub answered : ℕ
    pub reply_is : ask.reply ≡ Some reply
    pub after_is : ask.after ≡ Some after
    pub answered_is : ask.answered ≡ Some answered
    pub fits : import_answers b.declared.imports ask.callee ask.procedure reply ≡ true
    pub refused : is_spent clock ≡ true → (reply ≡ refusal) × (after ≡ clock) × (answered ≡ ask.asked)

  -- it waits, and its thread has calls left; the run has no end
  pub record StillWaits (clock : List ℕ) (ask : AskRecord) : Type 0 where
    pub no_reply : ask.reply ≡ None
    pub no_clock : ask.after ≡ None
    pub not_answered : ask.answered ≡ None
    pub calls_left : is_spent clock ≡ false
    pub no_outcome : run.outcome ≡ None
    pub no_state : run.state ≡ None
    pub no_end : run.end ≡ None
    pub not_ended : run.ended ≡ None

  -- the run ends with the turn on these replies
  pub record EndsWith (replies : List Outcome) (clock : List ℕ) (step : ℕ) : Type 0 where
    pub outcome : Outcome
    pub after : List ValueTree
    pub turn : turns b state (start_of run) replies ≡ ends outcome after
    pub outcome_is : run.outcome ≡ Some outcome
    pub state_is : run.state ≡ Some after
    pub end_is : run.end ≡ Some clock
    pub ended_is : run.ended ≡ Some step

  -- from these replies on it makes these asks, each of which is answered, and ends
  abbrev pub GoesToEnd : List Outcome → List ℕ → ℕ → List AskRecord → Type 0
  GoesToEnd replies clock step [] = EndsWith replies clock step
  GoesToEnd replies clock step (ask ∷ rest) =
      IsTurnOf replies clock step ask
      × ((a : HasReply clock ask) × GoesToEnd (replies ++ a.reply ∷ []) a.after a.answered rest)

  -- or makes these, the last of which waits
  abbrev pub GoesToWait : List Outcome → List ℕ → ℕ → List AskRecord → Type 0
  GoesToWait replies clock step [] = ⊥
  GoesToWait replies clock step (ask ∷ rest) =
      IsTurnOf replies clock step ask
      × ((StillWaits clock ask × (rest ≡ []))
      ⊎ ((a : HasReply clock ask) × GoesToWait (replies ++ a.reply ∷ []) a.after a.answered rest))

  -- or the one or the other
  abbrev pub GoesOn : List Outcome → List ℕ → ℕ → List AskRecord → Type 0
  GoesOn replies clock step [] = EndsWith replies clock step
  GoesOn replies clock step (ask ∷ rest) =
      IsTurnOf replies clock step ask
      × ((StillWaits clock ask × (rest ≡ []))
      ⊎ ((a : HasReply clock ask) × GoesOn (replies ++ a.reply ∷ []) a.after a.answered rest))

  pub record RunsToEnd : Type 0 where
    pub may_start : CanStart b.declared state run.procedure run.arguments
    pub goes : GoesToEnd [] run.entry run.started run.asks

  pub record RunsToWait : Type 0 where
    pub may_start : CanStart b.declared state run.procedure run.arguments
    pub goes : GoesToWait [] run.entry run.started run.asks

-- ---- all runs

-- the state in which the last ask was made
abbrev pub state_asked : List ValueTree → List AskRecord → List ValueTree
state_asked before [] = before
state_asked before (ask ∷ rest) = state_asked ask.state rest

module _ (b : Behaviour) (kept : MemberRecord) where
  -- behind so many runs, and in this state: each of these ends, but for the last, which may wait; count and state of the record are those
  -- behind them
  abbrev pub GoOn : ℕ → List ValueTree → List RunRecord → Type 0
  GoOn number state [] =
      (kept.count ≡ count_after kept.from number) × (kept.state ≡ state) × IsState b.declared kept.state
  GoOn number state (run ∷ runs) =
      (RunsToEnd b state run × GoOn (number + 1) (unwrap_or run.state state) runs)
      ⊎ (RunsToWait b state run × (runs ≡ []) × (kept.count ≡ count_after kept.from number)
      × (kept.state ≡ state_asked state run.asks))
