-- What is looked up in a record along a walk: clocks and headers of asks, what shows in a step, and the order of its steps.
use Rattle.std.specs.Prelude.{ℕ, suc, Bool, true, false, ◌&&◌, nat_eq, nat_le, if◌then◌else◌, List, [], ◌∷◌, ◌++◌, take, Option, None, Some, is_some, unwrap_or}
use Rattle.std.specs.List.{list_all}
use Rattle.std.specs.Option.{option_map_or}
use Rattle.std.specs.Cmp.Lexicographic.{pointwise}
use Rattle.circus_value.specs.ValueEquality.{values_eq}
use Rattle.circus_value.specs.OutcomeEquality.{outcome_eq}
use Rattle.circus_header.specs.declared.answer.Reply.{Reply}
use Rattle.circus_header.specs.declared.call.CallHeader.{CallHeader}
use Rattle.circus_model.specs.Execution.{is_spent}
use Rattle.circus_record.specs.declared.record.AskRecord.{AskRecord}
use Rattle.circus_record.specs.declared.record.RunRecord.{RunRecord}
use Rattle.circus_performing.specs.declared.start.RunStart.{RunStart}
use Rattle.circus_performing.specs.Performing.{clock_after, step_after}

-- ---- asks

-- the clock at which the ask of a number is made
abbrev pub clock_at : RunRecord → ℕ → List ℕ
clock_at run number = clock_after run.entry (take number run.asks)

-- what its calls say, but for the views that they name
abbrev pub header_of : ℕ → ℕ → RunRecord → ℕ → AskRecord → CallHeader
header_of troupe index run number ask =
    record {
      root = run.root;
      path = run.path ++ number ∷ [];
      client = troupe;
      client_incarnation = 0;
      client_index = index;
      server = ask.callee;
      server_incarnation = 0;
      procedure = ask.procedure;
      clock = clock_at run number;
    }

-- of asks from this number on, the first made at this clock, the first one for which the thread has calls left
abbrev pub next_ask : ℕ → List ℕ → List AskRecord → Option ℕ
next_ask number clock [] = None
next_ask number clock (ask ∷ asks) =
    if is_spent clock then next_ask (suc number) (unwrap_or ask.after clock) asks else Some number

-- ---- what shows

-- a step is not behind another
abbrev pub is_by : Option ℕ → ℕ → Bool
is_by step at = option_map_or (λ n. nat_le n at) step false

-- it is that one
abbrev pub is_in : Option ℕ → ℕ → Bool
is_in step at = option_map_or (λ n. nat_eq n at) step false

-- an ask shows that it was answered so in a step
abbrev pub shows_answer : AskRecord → ℕ → Reply → Bool
shows_answer ask at reply =
    option_map_or (λ n. nat_eq n at) ask.answered false
    && (option_map_or (λ o. outcome_eq o reply.outcome) ask.reply false
    && option_map_or (λ c. pointwise nat_eq c reply.clock) ask.after false)

-- a run was entered so
abbrev pub is_start : RunRecord → RunStart → Bool
is_start run start =
    nat_eq run.root start.root
    && (pointwise nat_eq run.path start.path
    && (nat_eq run.procedure start.procedure
    && (values_eq run.arguments start.arguments && pointwise nat_eq run.entry start.clock)))

abbrev pub is_entered : RunRecord → ℕ → RunStart → Bool
is_entered run at start = nat_eq run.started at && is_start run start

-- ---- order

abbrev pub is_nil : {A : Type 0} → List A → Bool
is_nil [] = true
is_nil (x ∷ xs) = false

-- from this step on each ask is made in the step in which the one before it was answered, and answered then or later; behind one that
-- waits there is none
abbrev pub asks_in_order : ℕ → List AskRecord → Bool
asks_in_order step [] = true
asks_in_order step (ask ∷ asks) =
    nat_eq ask.asked step
    && (option_map_or (λ n. nat_le step n && asks_in_order n asks) ask.answered (is_nil asks))

abbrev pub are_answered : List AskRecord → Bool
are_answered asks = list_all (λ (ask : AskRecord). is_some ask.answered) asks

-- a run that has ended did so in the step of its last answer, all its asks being answered
abbrev pub ends_in_order : RunRecord → Bool
ends_in_order run =
    option_map_or
    (λ n. nat_eq n (step_after run.started run.asks)
    && are_answered run.asks)
    run.ended true

abbrev pub run_in_order : RunRecord → Bool
run_in_order run = asks_in_order run.started run.asks && ends_in_order run

-- from this step on each run starts once the one before it has ended; behind one that goes on there is none
abbrev pub runs_in_order : ℕ → List RunRecord → Bool
runs_in_order step [] = true
runs_in_order step (run ∷ runs) =
    nat_le step run.started
    && (run_in_order run
    && option_map_or (λ n. runs_in_order n runs) run.ended (is_nil runs))
