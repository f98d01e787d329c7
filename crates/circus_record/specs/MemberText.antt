-- The lines of a member: what it is, its runs with their asks, and what it does now.
use Rattle.std.specs.Prelude.{◌≡◌, ℕ, ◌+◌, ◌-◌, Option, Some, None, List, [], ◌∷◌, ◌++◌, length, codes, slice_get}
use Rattle.std.specs.Option.{option_map_or}
use Rattle.std.specs.Fmt.{decimal}
use Rattle.circus_value.specs.ValueTree.{ValueTree}
use Rattle.circus_value.specs.Shown.{shown_list}
use Rattle.circus_value.specs.declared.outcome.Outcome.{Outcome}
use Rattle.circus_collate.specs.declared.deployment.Host.{Host}
use Rattle.circus_collate.specs.declared.deployment.Deployment.{Deployment}
use Rattle.circus_transfer.specs.declared.joiner.Joiner.{Joiner}
use Rattle.circus_transfer.specs.declared.joiner.Joiner.TheVariants.{Outside, Asking, Fetching, Active}
use Rattle.circus_record.specs.declared.record.AskRecord.{AskRecord}
use Rattle.circus_record.specs.declared.record.RunRecord.{RunRecord}
use Rattle.circus_record.specs.declared.record.MemberRecord.{MemberRecord}
use Rattle.circus_record.specs.Line.{line, run_line, ask_line, reply_line, end_line}
use Rattle.circus_record.specs.Naming.{Names}

-- live, or the step of the crash
abbrev pub status_text : Option ℕ → List ℕ
status_text None = codes "live"
status_text (Some step) = codes "crashed " ++ decimal step

-- the reply to an ask that was answered
abbrev pub answered_line : ℕ → Option Outcome → Option (List ℕ) → Option ℕ → List ℕ
answered_line number (Some reply) (Some after) answered = reply_line number answered after reply
answered_line number (Some _) None _ = []
answered_line number None _ _ = []

-- an ask with its reply
abbrev pub ask_lines : Names → ℕ → AskRecord → List ℕ
ask_lines names number ask =
    ask_line number (Some ask.asked) (names.troupe ask.callee) ask.index ask.procedure ask.arguments ask.state
    ++ answered_line number ask.reply ask.after ask.answered

-- asks with their replies, the first having this number
abbrev pub asks_lines : Names → ℕ → List AskRecord → List ℕ
asks_lines names number [] = []
asks_lines names number (ask ∷ others) = ask_lines names number ask ++ asks_lines names (number + 1) others

-- the end of a run that has ended
abbrev pub ended_line : ℕ → Option Outcome → Option (List ValueTree) → Option (List ℕ) → Option ℕ → List ℕ
ended_line place (Some outcome) (Some state) (Some end) ended = end_line place ended end outcome state
ended_line place (Some _) (Some _) None _ = []
ended_line place (Some _) None _ _ = []
ended_line place None _ _ _ = []

-- a run with its asks
abbrev pub run_lines : Names → ℕ → RunRecord → List ℕ
run_lines names place run =
    run_line place (Some run.started) (names.troupe run.root) run.path run.procedure run.entry run.arguments
    ++ asks_lines names 0 run.asks ++ ended_line place run.outcome run.state run.end run.ended

-- runs, the first having this place
abbrev pub runs_lines : Names → ℕ → List RunRecord → List ℕ
runs_lines names place [] = []
runs_lines names place (run ∷ others) = run_lines names place run ++ runs_lines names (place + 1) others

-- what the last run waits for, if it hasn't ended
abbrev pub waiting_text : Option Outcome → List AskRecord → List ℕ
waiting_text (Some _) asks = codes "idle"
waiting_text None asks = codes "waiting ask " ++ decimal (length asks - 1)

-- what a member does now
abbrev pub now_text : List RunRecord → List ℕ
now_text runs = option_map_or (λ run. waiting_text run.outcome run.asks) (slice_get runs (length runs - 1)) (codes "idle")

-- a member's last line
abbrev pub now_line : MemberRecord → List ℕ
now_line kept = line (codes "now " ++ now_text kept.runs ++ codes " state " ++ shown_list kept.state)

-- what stands behind a member's name and status, by its phase
abbrev pub phase_lines : Names → Joiner → MemberRecord → List ℕ
phase_lines names Outside kept = line (codes " outside")
phase_lines names Asking kept = line (codes " asking")
phase_lines names (Fetching _) kept = line (codes " fetching")
phase_lines names (Active _) kept =
    line (codes " from " ++ decimal kept.from ++ codes " at " ++ decimal kept.active_at ++ codes " count " ++ decimal kept.count)
    ++ runs_lines names kept.from kept.runs ++ now_line kept

-- a member, by its node, its module and the step in which the node crashed
abbrev pub member_lines : Names → ℕ → ℕ → Option ℕ → MemberRecord → List ℕ
member_lines names node troupe crashed kept =
    codes "member " ++ names.node node ++ codes " " ++ names.troupe troupe ++ codes " " ++ status_text crashed ++ phase_lines names kept.phase kept

-- the node hosts a member
pub record IsHosted (d : Deployment) (node : ℕ) : Type 0 where
  pub host : Host
  pub is_host : slice_get d.nodes node ≡ Some host
  pub troupe : ℕ
  pub is_troupe : host.module ≡ Some troupe
