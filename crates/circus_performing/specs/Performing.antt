-- What each call does to a member's record.
use Rattle.std.specs.Prelude.{ℕ, zero, suc, ◌+◌, ◌-◌, Bool, true, false, cond, min, List, [], ◌∷◌, ◌++◌, length, take, fold, slice_get, slice_index, Option, None, Some, is_none, unwrap_or, option_and_then}
use Rattle.std.specs.List.{filter_map}
use Rattle.std.specs.Option.{option_map_or}
use Rattle.circus_value.specs.ValueTree.{ValueTree}
use Rattle.circus_value.specs.declared.outcome.Outcome.{Outcome}
use Rattle.circus_value.specs.declared.outcome.Outcome.TheVariants.{Raised}
use Rattle.circus_collate.specs.declared.table.Table.{Table}
use Rattle.circus_transfer.specs.declared.joiner.Joiner.{Joiner}
use Rattle.circus_transfer.specs.declared.joiner.Joiner.TheVariants.{Outside, Asking, Fetching, Active}
use Rattle.circus_transfer.specs.Joining.{after_join, after_table}
use Rattle.circus_model.specs.LanguageError.{number_of}
use Rattle.circus_model.specs.declared.language_error.LanguageError.TheVariants.{ThreadSpent}
use Rattle.circus_limits.specs.Limits.{most_asks}
use Rattle.circus_model.specs.NextTurn.{NextTurn, asks, ends}
use Rattle.circus_model.specs.Execution.{is_spent}
use Rattle.circus_record.specs.declared.record.AskRecord.{AskRecord}
use Rattle.circus_record.specs.declared.record.RunRecord.{RunRecord}
use Rattle.circus_record.specs.declared.record.MemberRecord.{MemberRecord}
use Rattle.circus_performing.specs.declared.start.RunStart.{RunStart}

-- a member: the module that it hosts, the state with which it became active, and its record
pub record Performing (M : Type 0) : Type 0 where
  pub hosted : M
  pub began : List ValueTree
  pub kept : MemberRecord

-- ---- what a record shows

-- what the last of these that shows something shows, and this where none does
abbrev pub latest_shown : {A B : Type 0} → (A → Option B) → B → List A → B
latest_shown shown first xs = fold (λ before x. unwrap_or (shown x) before) first xs

-- a run's clock behind these asks: the one after the last that was answered, at first that at its entry
abbrev pub clock_after : List ℕ → List AskRecord → List ℕ
clock_after entry made = latest_shown (λ (a : AskRecord). a.after) entry made

-- the step in which a run went on last: that of the last answer, at first that of its start
abbrev pub step_after : ℕ → List AskRecord → ℕ
step_after started made = latest_shown (λ (a : AskRecord). a.answered) started made

-- the state after runs: that after the last one that has ended, at first the one with which the member became active
abbrev pub state_after : List ValueTree → List RunRecord → List ValueTree
state_after began runs = latest_shown (λ (r : RunRecord). r.state) began runs

-- the replies that asks had
abbrev pub replies_of : List AskRecord → List Outcome
replies_of made = filter_map (λ (a : AskRecord). a.reply) made

-- the last of a list, and those before it
abbrev pub last_of : {A : Type 0} → List A → Option A
last_of xs = slice_get xs (length xs - 1)

abbrev pub front_of : {A : Type 0} → List A → List A
front_of xs = take (length xs - 1) xs

-- the ask that has no reply
abbrev pub unless_replied : AskRecord → Option AskRecord
unless_replied ask = cond (is_none ask.reply) (Some ask) None

-- the one for which the member waits
abbrev pub open_ask : MemberRecord → Option AskRecord
open_ask kept = option_and_then (λ (r : RunRecord). option_and_then unless_replied (last_of r.asks)) (last_of kept.runs)

abbrev pub is_active : Joiner → Bool
is_active Outside = false
is_active Asking = false
is_active (Fetching incarnation) = false
is_active (Active first) = true

-- ---- at boot

-- a record in which nothing was performed
abbrev pub before_any : Joiner → List ValueTree → MemberRecord
before_any phase first = record { phase = phase; from = 0; active_at = 0; count = 0; runs = []; state = first }

-- a founder is active, and performs all calls
abbrev pub founder : {M : Type 0} → M → List ValueTree → Performing M
founder hosted first = record { hosted = hosted; began = first; kept = before_any (Active 0) first }

abbrev pub spare : {M : Type 0} → M → List ValueTree → Performing M
spare hosted first = record { hosted = hosted; began = first; kept = before_any Outside first }

-- ---- on the way into the troupe

abbrev pub told_to_join : MemberRecord → MemberRecord
told_to_join kept = record kept { phase = after_join kept.phase }

-- the Ringmaster has answered its Join
abbrev pub taken_in : Table → MemberRecord → MemberRecord
taken_in table kept = record kept { phase = after_table table kept.phase }

abbrev pub is_fetching : Joiner → Bool
is_fetching Outside = false
is_fetching Asking = false
is_fetching (Fetching incarnation) = true
is_fetching (Active first) = false

-- a member has a state, with a count, in a step; one that fetches a state takes it
abbrev pub active_record : ℕ → List ValueTree → ℕ → MemberRecord → MemberRecord
active_record step state count kept = record { phase = Active count; from = count; active_at = step; count = count; runs = kept.runs; state = state }

abbrev pub made_active : {M : Type 0} → ℕ → List ValueTree → ℕ → Performing M → Performing M
made_active step state count p = record { hosted = p.hosted; began = state; kept = active_record step state count p.kept }

abbrev pub activate : {M : Type 0} → ℕ → List ValueTree → ℕ → Performing M → Performing M
activate step state count p = cond (is_fetching p.kept.phase) (made_active step state count p) p

-- ---- a run

-- it is entered in a step
abbrev pub begin_run : ℕ → RunStart → RunRecord
begin_run step start =
    record {
      path = start.path;
      root = start.root;
      procedure = start.procedure;
      arguments = start.arguments;
      entry = start.clock;
      asks = [];
      outcome = None;
      state = None;
      end = None;
      started = step;
      ended = None;
    }

-- an ask that is made in a step, at a clock; its index is the callee's count
abbrev pub made_ask : ℕ → List ℕ → ℕ → ℕ → List ValueTree → List ValueTree → AskRecord
made_ask step clock callee procedure arguments state =
    record {
      callee = callee;
      index = slice_index clock callee;
      procedure = procedure;
      arguments = arguments;
      state = state;
      reply = None;
      after = None;
      asked = step;
      answered = None;
    }

-- with its reply, and the clock after it
abbrev pub answered_ask : ℕ → Outcome → List ℕ → AskRecord → AskRecord
answered_ask step reply clock ask = record ask { reply = Some reply; after = Some clock; answered = Some step }

-- the reply of a thread that has made all its calls
abbrev pub refusal : Outcome
refusal = Raised (number_of ThreadSpent) []

-- the run has made one ask more
abbrev pub with_ask : RunRecord → AskRecord → RunRecord
with_ask run ask = record run { asks = run.asks ++ ask ∷ [] }

-- or one that was refused: its thread has made all its calls
abbrev pub with_refusal : ℕ → ℕ → ℕ → List ValueTree → List ValueTree → RunRecord → RunRecord
with_refusal step callee procedure arguments state run =
    let clock = clock_after run.entry run.asks in
    with_ask run (answered_ask step refusal clock (made_ask step clock callee procedure arguments state))

-- it ends in a step
abbrev pub ended_run : ℕ → Outcome → List ValueTree → RunRecord → RunRecord
ended_run step outcome state run =
    record run { outcome = Some outcome; state = Some state; end = Some (clock_after run.entry run.asks); ended = Some step }

-- after this turn: it ends, or asks, and goes on where the ask is refused
abbrev pub turn_run : ℕ → (RunRecord → RunRecord) → RunRecord → NextTurn → RunRecord
turn_run step go_on run (ends outcome state) = ended_run step outcome state run
turn_run step go_on run (asks callee procedure arguments state) =
    let clock = clock_after run.entry run.asks in
    cond (is_spent clock) (go_on (with_refusal step callee procedure arguments state run))
    (with_ask run (made_ask step clock callee procedure arguments state))

-- it goes on in a step as far as it can, with at most so many turns, which are those on the replies so far
unfoldable pub gone_on : ℕ → (List Outcome → NextTurn) → ℕ → RunRecord → RunRecord
gone_on step turn zero run = run
gone_on step turn (suc left) run = turn_run step (gone_on step turn left) run (turn (replies_of run.asks))

-- ---- runs in the record

-- counts stay where they would be above the greatest
abbrev pub last_count : ℕ
last_count = 4294967295

-- one call more, if it was performed
abbrev pub next_count : Option Outcome → ℕ → ℕ
next_count None count = count
next_count (Some outcome) count = min (count + 1) last_count

-- the member's state by its last run: that after it, or that of its last ask
abbrev pub state_by : RunRecord → List ValueTree
state_by run = unwrap_or run.state (latest_shown (λ (a : AskRecord). Some a.state) [] run.asks)

-- the record with a run behind the others
abbrev pub with_run : MemberRecord → RunRecord → MemberRecord
with_run kept run = record kept { runs = kept.runs ++ run ∷ []; count = next_count run.outcome kept.count; state = state_by run }

-- each ask of an execution is a turn, and its end is one
abbrev pub most_turns : ℕ
most_turns = most_asks + 1

-- a run is entered in a step; `turn` is that of the module
abbrev pub enter_run : (List ValueTree → ℕ → List ValueTree → List Outcome → NextTurn) → ℕ → RunStart → MemberRecord → MemberRecord
enter_run turn step start kept =
    with_run kept (gone_on step (turn kept.state start.procedure start.arguments) most_turns (begin_run step start))

-- the last ask of a run has a reply, with the clock after it
abbrev pub with_reply : ℕ → Outcome → List ℕ → RunRecord → RunRecord
with_reply step reply clock run =
    option_map_or (λ (a : AskRecord). record run { asks = front_of run.asks ++ answered_ask step reply clock a ∷ [] }) (last_of run.asks) run

-- the open ask is answered in a step, and its run goes on; the state at the run's beginning is that after the runs before it
abbrev pub answer_open_ask : (List ValueTree → ℕ → List ValueTree → List Outcome → NextTurn) → List ValueTree → ℕ → Outcome → List ℕ → MemberRecord → MemberRecord
answer_open_ask turn began step reply clock kept =
    option_map_or
    (λ (r : RunRecord).
    let before = front_of kept.runs in
    with_run (record kept { runs = before })
    (gone_on step (turn (state_after began before) r.procedure r.arguments) most_turns (with_reply step reply clock r)))
    (last_of kept.runs)
    kept
