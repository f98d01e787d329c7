-- The lines of a member, by its module.
use Rattle.std.specs.Prelude.{ℕ, ◌==◌, ◌-◌, nat_lt, cond, List, [], length, codes, bytes_eq, Option, Some, None}
use Rattle.circus_value.specs.ValueTree.{ValueTree}
use Rattle.circus_value.specs.declared.outcome.Outcome.{Outcome}
use Rattle.circus_model.specs.Lawful.{procedure_numbered}
use Rattle.circus_model.specs.declared.signature.Signature.{Signature}
use Rattle.circus_transfer.specs.declared.joiner.Joiner.TheVariants.{Outside, Asking, Fetching}
use Rattle.circus_collate.specs.declared.deployment.Deployment.{Deployment}
use Rattle.circus_record.specs.declared.record.AskRecord.{AskRecord}
use Rattle.circus_record.specs.declared.record.RunRecord.{RunRecord}
use Rattle.circus_node.specs.Accepting.{is_root}
use Rattle.circus_value_text.specs.Reading.{Read, and_then, behind, behind_prefix, number_read}
use Rattle.circus_value_text.specs.WordReading.{counts_read, asks_read}
use Rattle.circus_audit.specs.declared.member_line.Phase.{Phase}
use Rattle.circus_audit.specs.declared.member_line.Phase.TheVariants.{Apart, Active}
use Rattle.circus_audit.specs.declared.member_line.Entered.{Entered}
use Rattle.circus_audit.specs.declared.member_line.Performs.{Performs}
use Rattle.circus_audit.specs.declared.member_line.Asked.{Asked}
use Rattle.circus_audit.specs.declared.member_line.After.{After}
use Rattle.circus_audit.specs.Seen.Answers.{then_read, whole, only_if}
use Rattle.circus_audit.specs.Seen.Names.{number_of_name}
use Rattle.circus_audit.specs.Seen.Values.{values_behind, outcome_behind, by_shape, procedure_of_import}

-- a number of four bytes behind a mark
abbrev pub long_behind : List ℕ → List ℕ → Read ℕ
long_behind mark text = behind (behind_prefix mark text) (number_read 4294967295)

-- a number of two bytes behind a mark
abbrev pub word_behind : List ℕ → List ℕ → Read ℕ
word_behind mark text = behind (behind_prefix mark text) (number_read 65535)

-- a name behind a mark
abbrev pub name_behind : List ℕ → List (List ℕ) → List ℕ → Read ℕ
name_behind mark names text = behind (behind_prefix mark text) (number_of_name names)

-- what stands behind this number
abbrev pub behind_this : ℕ → List ℕ → Option (List ℕ)
behind_this number text = then_read (number_read 4294967295 text) (λ n rest. only_if (n == number) (Some rest))

-- a step of so many events
abbrev pub step_read : ℕ → List ℕ → Read ℕ
step_read events text = cond (nat_lt 0 events) (number_read (events - 1) text) None

-- a step behind a mark
abbrev pub step_behind : List ℕ → ℕ → List ℕ → Read ℕ
step_behind mark events text = behind (behind_prefix mark text) (step_read events)

-- this number, and a step
abbrev pub numbered_step : ℕ → ℕ → List ℕ → Read ℕ
numbered_step number events text = behind (behind_this number text) (step_behind (codes " step ") events)

-- a clock of so many counts
abbrev pub clock_behind : ℕ → List ℕ → Read (List ℕ)
clock_behind modules text = behind (behind_prefix (codes " clock ") text) (counts_read modules [])

abbrev pub state_read : Signature → List ℕ → Read (List ValueTree)
state_read s text = values_behind (codes " state ") s.variables text

-- ---- phases

abbrev pub active_read : ℕ → List ℕ → Read Phase
active_read events text =
    and_then (long_behind (codes "from ") text) (λ from a. and_then (step_behind (codes " at ") events a)
    (λ since b. and_then (long_behind (codes " count ") b) (λ count rest. Some (Active from since count, rest))))

abbrev pub active_line : ℕ → List ℕ → Option Phase
active_line events text = whole (active_read events text)

-- the phase of a member of whose node there were so many events
abbrev pub phase_read : ℕ → List ℕ → Option Phase
phase_read events text =
    cond (bytes_eq text (codes "outside")) (Some (Apart Outside))
    (cond (bytes_eq text (codes "asking")) (Some (Apart Asking))
    (cond (bytes_eq text (codes "fetching")) (Some (Apart (Fetching 0))) (active_line events text)))

-- ---- runs

abbrev pub root_read : List (List ℕ) → Deployment → List ℕ → Read ℕ
root_read modules d text =
    and_then (name_behind (codes " path ") modules text) (λ root rest. cond (is_root d root) (Some (root, rest)) None)

-- where the run at this place was entered, on a line of so many bytes
abbrev pub entered_read : List (List ℕ) → Deployment → ℕ → ℕ → ℕ → List ℕ → Read Entered
entered_read modules d events most place text =
    and_then (numbered_step place events text) (λ started a. and_then (root_read modules d a) (λ root b. and_then (asks_read most b)
    (λ path rest. Some (record { started = started; root = root; path = path }, rest))))

abbrev pub arguments_read : Signature → ℕ → List ℕ → List ℕ → Read Performs
arguments_read s procedure entry text =
    by_shape (procedure_numbered procedure s.procedures) (λ p. and_then (values_behind (codes " arguments ") p.arguments text)
    (λ arguments rest. Some (record { procedure = procedure; entry = entry; arguments = arguments }, rest)))

-- what it performs
abbrev pub performs_read : List (List ℕ) → Signature → List ℕ → Read Performs
performs_read modules s text =
    and_then (word_behind (codes " procedure ") text) (λ procedure a. and_then (clock_behind (length modules) a)
    (λ entry rest. arguments_read s procedure entry rest))

abbrev pub run_begun : Entered → Performs → RunRecord
run_begun e p = record {
  path = e.path;
  root = e.root;
  procedure = p.procedure;
  arguments = p.arguments;
  entry = p.entry;
  asks = [];
  outcome = None;
  state = None;
  end = None;
  started = e.started;
  ended = None;
}

abbrev pub run_parts : List (List ℕ) → Deployment → Signature → ℕ → ℕ → ℕ → List ℕ → Read RunRecord
run_parts modules d s events most place text =
    and_then (entered_read modules d events most place text) (λ e rest. and_then (performs_read modules s rest)
    (λ p later. Some (run_begun e p, later)))

-- the run at this place, on a line of so many bytes
abbrev pub run_read : List (List ℕ) → Deployment → Signature → ℕ → ℕ → ℕ → List ℕ → Option RunRecord
run_read modules d s events most place text = whole (run_parts modules d s events most place text)

-- ---- asks

-- whom the ask with this number asks
abbrev pub asked_read : List (List ℕ) → ℕ → ℕ → List ℕ → Read Asked
asked_read modules events number text =
    and_then (numbered_step number events text) (λ asked a. and_then (name_behind (codes " to ") modules a)
    (λ callee b. and_then (long_behind (codes " index ") b)
    (λ index rest. Some (record { asked = asked; callee = callee; index = index }, rest))))

abbrev pub ask_made : Asked → ℕ → List ValueTree → List ValueTree → AskRecord
ask_made a procedure arguments state = record {
  callee = a.callee;
  index = a.index;
  procedure = procedure;
  arguments = arguments;
  state = state;
  reply = None;
  after = None;
  asked = a.asked;
  answered = None;
}

-- what it asks for
abbrev pub wanted_read : Signature → Asked → ℕ → List ℕ → Read AskRecord
wanted_read s a procedure text =
    by_shape (procedure_of_import s.imports a.callee procedure) (λ p. and_then (values_behind (codes " arguments ") p.arguments text)
    (λ arguments rest. and_then (state_read s rest) (λ state later. Some (ask_made a procedure arguments state, later))))

abbrev pub ask_parts : List (List ℕ) → Signature → ℕ → ℕ → List ℕ → Read AskRecord
ask_parts modules s events number text =
    and_then (asked_read modules events number text) (λ a rest. and_then (word_behind (codes " procedure ") rest)
    (λ procedure later. wanted_read s a procedure later))

-- the ask with this number
abbrev pub ask_read : List (List ℕ) → Signature → ℕ → ℕ → List ℕ → Option AskRecord
ask_read modules s events number text = whole (ask_parts modules s events number text)

-- the step and the clock of a reply or an end
abbrev pub after_read : ℕ → ℕ → ℕ → List ℕ → Read After
after_read modules events number text =
    and_then (numbered_step number events text) (λ step a. and_then (clock_behind modules a)
    (λ clock rest. Some (record { step = step; clock = clock }, rest)))

abbrev pub answer_ask : AskRecord → After → Outcome → AskRecord
answer_ask ask after reply = record ask { reply = Some reply; after = Some after.clock; answered = Some after.step }

abbrev pub reply_by : Signature → AskRecord → After → List ℕ → Read AskRecord
reply_by s ask after text =
    by_shape (procedure_of_import s.imports ask.callee ask.procedure) (λ p. and_then (outcome_behind p text)
    (λ reply rest. Some (answer_ask ask after reply, rest)))

abbrev pub reply_parts : ℕ → Signature → ℕ → ℕ → AskRecord → List ℕ → Read AskRecord
reply_parts modules s events number ask text =
    and_then (after_read modules events number text) (λ after rest. reply_by s ask after rest)

-- the reply to it
abbrev pub reply_read : ℕ → Signature → ℕ → ℕ → AskRecord → List ℕ → Option AskRecord
reply_read modules s events number ask text = whole (reply_parts modules s events number ask text)

-- ---- ends

abbrev pub run_ended : RunRecord → After → Outcome → List ValueTree → RunRecord
run_ended run after outcome state =
    record run { outcome = Some outcome; state = Some state; end = Some after.clock; ended = Some after.step }

abbrev pub end_by : Signature → RunRecord → After → List ℕ → Read RunRecord
end_by s run after text =
    by_shape (procedure_numbered run.procedure s.procedures) (λ p. and_then (outcome_behind p text)
    (λ outcome a. and_then (state_read s a) (λ state rest. Some (run_ended run after outcome state, rest))))

abbrev pub end_parts : ℕ → Signature → ℕ → ℕ → RunRecord → List ℕ → Read RunRecord
end_parts modules s events place run text = and_then (after_read modules events place text) (λ after rest. end_by s run after rest)

-- the end of the run at this place
abbrev pub end_read : ℕ → Signature → ℕ → ℕ → RunRecord → List ℕ → Option RunRecord
end_read modules s events place run text = whole (end_parts modules s events place run text)

-- ---- the last line

abbrev pub idle_read : Signature → List ℕ → Option (List ValueTree)
idle_read s text = whole (state_read s text)

abbrev pub waiting_read : Signature → ℕ → List ℕ → Option (List ValueTree)
waiting_read s number text = whole (behind (behind_this number text) (state_read s))
