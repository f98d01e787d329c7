-- The lines of a history: the runs of each module with their asks, in module order.
use Rattle.std.specs.Prelude.{ℕ, ◌+◌, List, [], ◌∷◌, ◌++◌, length, None, codes}
use Rattle.std.specs.Fmt.{decimal}
use Rattle.circus_model.specs.declared.history.Ask.{Ask}
use Rattle.circus_model.specs.declared.history.Run.{Run}
use Rattle.circus_record.specs.Line.{line, run_line, ask_line, reply_line, end_line}
use Rattle.circus_record.specs.Naming.{Names}

-- an ask with its reply
abbrev pub ask_lines : Names → ℕ → Ask → List ℕ
ask_lines names number ask =
    ask_line number None (names.troupe ask.callee) ask.index ask.procedure ask.arguments ask.state ++ reply_line number None ask.after ask.reply

-- asks with their replies, the first having this number
abbrev pub asks_lines : Names → ℕ → List Ask → List ℕ
asks_lines names number [] = []
asks_lines names number (ask ∷ others) = ask_lines names number ask ++ asks_lines names (number + 1) others

-- the entry of a run
abbrev pub entry_line : Names → ℕ → Run → List ℕ
entry_line names place run = run_line place None (names.troupe run.root) run.path run.procedure run.entry run.arguments

-- the end of a run
abbrev pub ending_line : ℕ → Run → List ℕ
ending_line place run = end_line place None run.end run.outcome run.state

-- a run with its asks
abbrev pub run_lines : Names → ℕ → Run → List ℕ
run_lines names place run = entry_line names place run ++ asks_lines names 0 run.asks ++ ending_line place run

-- runs, the first having this place
abbrev pub runs_lines : Names → ℕ → List Run → List ℕ
runs_lines names place [] = []
runs_lines names place (run ∷ others) = run_lines names place run ++ runs_lines names (place + 1) others

-- the name of a module, and how many runs it has
abbrev pub heading : List ℕ → ℕ → List ℕ
heading name count = line (codes "module " ++ name ++ codes " count " ++ decimal count)

-- a module with its runs
abbrev pub module_lines : Names → ℕ → List Run → List ℕ
module_lines names number runs = heading (names.troupe number) (length runs) ++ runs_lines names 0 runs

-- modules, the first having this number
abbrev pub modules_lines : Names → ℕ → List (List Run) → List ℕ
modules_lines names number [] = []
modules_lines names number (runs ∷ others) = module_lines names number runs ++ modules_lines names (number + 1) others

-- the whole text
abbrev pub history_text : Names → List (List Run) → List ℕ
history_text names history = line (codes "circus history 1") ++ modules_lines names 0 history
