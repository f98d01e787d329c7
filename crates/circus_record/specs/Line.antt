-- The lines of runs and asks, with the step in which each came or without it.
use Rattle.std.specs.Prelude.{ℕ, List, [], ◌∷◌, ◌++◌, Option, Some, None, codes}
use Rattle.std.specs.Fmt.{decimal}
use Rattle.circus_value.specs.ValueTree.{ValueTree}
use Rattle.circus_value.specs.Shown.{shown_list}
use Rattle.circus_value.specs.ThreadText.{clock_text, path_text}
use Rattle.circus_value.specs.OutcomeText.{outcome_text}
use Rattle.circus_value.specs.declared.outcome.Outcome.{Outcome}

-- a line with its newline
abbrev pub line : List ℕ → List ℕ
line text = text ++ 10 ∷ []

-- the step, where it is told
abbrev pub step_text : Option ℕ → List ℕ
step_text None = []
step_text (Some step) = codes " step " ++ decimal step

-- where a run is entered, and on which path
abbrev pub run_head : ℕ → Option ℕ → List ℕ → List ℕ → List ℕ
run_head place step root path = codes "run " ++ decimal place ++ step_text step ++ codes " path " ++ path_text root path

-- what is performed
abbrev pub run_rest : ℕ → List ℕ → List ValueTree → List ℕ
run_rest procedure clock arguments =
    line (codes " procedure " ++ decimal procedure ++ codes " clock " ++ clock_text clock ++ codes " arguments " ++ shown_list arguments)

-- the entry of the run at this place, by its root's name, path, procedure, clock and arguments
abbrev pub run_line : ℕ → Option ℕ → List ℕ → List ℕ → ℕ → List ℕ → List ValueTree → List ℕ
run_line place step root path procedure clock arguments = run_head place step root path ++ run_rest procedure clock arguments

-- whom an ask asks
abbrev pub ask_head : ℕ → Option ℕ → List ℕ → ℕ → List ℕ
ask_head number step callee index = codes "ask " ++ decimal number ++ step_text step ++ codes " to " ++ callee ++ codes " index " ++ decimal index

-- what it asks for
abbrev pub ask_rest : ℕ → List ValueTree → List ValueTree → List ℕ
ask_rest procedure arguments state =
    line (codes " procedure " ++ decimal procedure ++ codes " arguments " ++ shown_list arguments ++ codes " state " ++ shown_list state)

-- the ask with this number in its run, by its callee's name, index, procedure, arguments and the caller's state
abbrev pub ask_line : ℕ → Option ℕ → List ℕ → ℕ → ℕ → List ValueTree → List ValueTree → List ℕ
ask_line number step callee index procedure arguments state = ask_head number step callee index ++ ask_rest procedure arguments state

-- the reply to the ask with this number, by the clock after it
abbrev pub reply_line : ℕ → Option ℕ → List ℕ → Outcome → List ℕ
reply_line number step clock reply =
    line (codes "reply " ++ decimal number ++ step_text step ++ codes " clock " ++ clock_text clock ++ codes " " ++ outcome_text reply)

-- where a run has ended
abbrev pub end_head : ℕ → Option ℕ → List ℕ → List ℕ
end_head place step clock = codes "end " ++ decimal place ++ step_text step ++ codes " clock " ++ clock_text clock

-- how it has ended
abbrev pub end_rest : Outcome → List ValueTree → List ℕ
end_rest outcome state = line (codes " " ++ outcome_text outcome ++ codes " state " ++ shown_list state)

-- the end of the run at this place, by its clock, its outcome and the state after it
abbrev pub end_line : ℕ → Option ℕ → List ℕ → Outcome → List ValueTree → List ℕ
end_line place step clock outcome state = end_head place step clock ++ end_rest outcome state
