-- What the code's step says, as plain data.
use Rattle.std.specs.Prelude.{ℕ, ◌≡◌, ◌⊎◌, ◌<◌, Option, List, [], ◌∷◌, length, All, IsAscii, IsTrue}
use Rattle.circus_outside.specs.Faults.{Rose}
use Rattle.circus_serve.specs.Outside.{Tells}
use Rattle.circus_node_command.specs.NodeEnds.{IsEndOfServing}
use Rattle.circus_program.specs.declared.answer.Step.{Step}
use Rattle.circus_program.specs.declared.answer.Step.TheVariants.{Finish, Lack, History, Replay, Serve}
use Rattle.circus_commands.specs.declared.status.Status.{Status}
use Rattle.circus_commands.specs.declared.status.Status.TheVariants.{ShelfFault, NoMemory}
use Rattle.circus_commands.specs.Status.{is_end}
use Rattle.circus_commands.specs.Ending.{Ending}
use Rattle.circus_commands.specs.Seen.Ending.{ending_of}
use Rattle.circus_commands.specs.Seen.Upshot.{end_of_performance}
use Rattle.circus_config.specs.declared.plan.Plan.{Plan}
use Rattle.circus_config.specs.Program.{IsProgramOf, IsPlan}
use Rattle.circus_program.specs.declared.second.Second.{Second}
use Rattle.circus_program.specs.Answer.{Due, fetch, finish, serve, IsDueOfRefused, IsDueOfSecond, IsDueOfTwo, IsDueOfFile, AreFetchedOf, WasLast, shelf_fault}
use Rattle.circus_program.specs.Seen.Put.{IsPutEnd}
use Rattle.circus_program.specs.Seen.Ready.{end_of_ready, IsReady}

-- the end, or the file that was due
abbrev pub due_of : Step → Due
due_of (Finish ending) = finish (ending_of ending)
due_of (Lack name) = fetch name.now
due_of (History performance) = finish (end_of_performance performance)
due_of (Replay ready) = finish (end_of_ready ready)
due_of (Serve plan node turns) = serve plan node turns

-- what it writes, and the status where all of it is taken; a node that is served by what the link tells
abbrev pub IsWrittenOf : Tells → Tells → Step → Ending → Type 0
IsWrittenOf before after (Finish ending) written = (written ≡ ending_of ending) × (after ≡ before)
IsWrittenOf before after (Lack name) written = (written ≡ record { status = ShelfFault; text = shelf_fault name.now }) × (after ≡ before)
IsWrittenOf before after (History performance) written = (written ≡ end_of_performance performance) × (after ≡ before)
IsWrittenOf before after (Replay ready) written = (written ≡ end_of_ready ready) × (after ≡ before)
IsWrittenOf before after (Serve plan node turns) written = IsEndOfServing plan node turns before after written

-- what a step comes to was put, or there was no memory for it
abbrev pub IsPutStep : Tells → Tells → Step → Option (List ℕ) → Option (List ℕ) → ℕ → ℕ → Status → Type 0
IsPutStep before after step old new faults count result =
    ((ending : Ending) × IsWrittenOf before after step ending × IsPutEnd ending old new faults count result) ⊎ ((result ≡ NoMemory) × (new ≡ old))

-- it serves a node
abbrev pub IsServing : Step → Type 0
IsServing (Finish ending) = ⊥
IsServing (Lack name) = ⊥
IsServing (History performance) = ⊥
IsServing (Replay ready) = ⊥
IsServing (Serve plan node turns) = Unit {0}

-- a node of a plan that was read of a file
pub record CanBeServed (plan : Plan) (node : ℕ) : Type 0 where
  pub plan_is : IsPlan plan
  pub within : node < length plan.deployment.nodes

-- an end has the status of one, a history has names of modules, a replay may begin, and a node may be served
abbrev pub Stands : Step → Type 0
Stands (Finish ending) = IsTrue (is_end ending.status)
Stands (Lack name) = Unit {0}
Stands (History performance) = All IsAscii performance.names
Stands (Replay ready) = IsReady ready
Stands (Serve plan node turns) = CanBeServed plan node

-- it lacks no file
abbrev pub LacksNone : Step → Type 0
LacksNone (Finish ending) = Unit {0}
LacksNone (Lack name) = ⊥
LacksNone (History performance) = Unit {0}
LacksNone (Replay ready) = Unit {0}
LacksNone (Serve plan node turns) = Unit {0}

-- a file that the shelf doesn't give was asked for last, and the count of faults rose
abbrev pub IsLackNoted : Option (List (List ℕ)) → ℕ → ℕ → Step → Type 0
IsLackNoted fetched old new (Finish ending) = Unit {0}
IsLackNoted fetched old new (History performance) = Unit {0}
IsLackNoted fetched old new (Replay ready) = Unit {0}
IsLackNoted fetched old new (Serve plan node turns) = Unit {0}
IsLackNoted fetched old new (Lack name) = Rose old new × WasLast fetched name.now

-- what is due behind a program, which means this plan, once these more files are fetched
abbrev pub IsDueBehind : Second → Plan → List ℕ → List (List ℕ) → Due → Type 0
IsDueBehind second plan file [] due = due ≡ fetch file
IsDueBehind second plan file (bytes ∷ []) due = IsDueOfSecond second plan bytes due
IsDueBehind second plan file (_ ∷ _ ∷ _) due = ⊥

-- a step that is due behind the program
pub record IsStepBehind (shelf : Option (List ℕ → Option (List ℕ))) (second : Second) (plan : Plan) (file : List ℕ) (due : Due) : Type 0 where
  pub files : List (List ℕ)
  pub fetched : AreFetchedOf shelf (file ∷ []) files
  pub is_due : IsDueBehind second plan file files due

-- a step that is due behind the first of two files
abbrev pub IsStepOfProgram : Option (List ℕ → Option (List ℕ)) → Second → List ℕ → List ℕ → Due → Type 0
IsStepOfProgram shelf second program file due =
    ((plan : Plan) × IsProgramOf program plan × IsStepBehind shelf second plan file due) ⊎ IsDueOfRefused program due

-- a step that is due of a program and a second file
pub record IsStepOfTwo (shelf : Option (List ℕ → Option (List ℕ))) (second : Second) (program file : List ℕ) (due : Due) : Type 0 where
  pub files : List (List ℕ)
  pub fetched : AreFetchedOf shelf (program ∷ file ∷ []) files
  pub is_due : IsDueOfTwo second program file files due

-- a step that is due of a command of one file, where this is due of its bytes
pub record IsStepOfFile (shelf : Option (List ℕ → Option (List ℕ))) (name : List ℕ) (IsNext : List ℕ → Due → Type 0) (due : Due) : Type 0 where
  pub files : List (List ℕ)
  pub fetched : AreFetchedOf shelf (name ∷ []) files
  pub is_due : IsDueOfFile name IsNext files due
