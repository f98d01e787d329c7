-- What the top call answers.
use Rattle.std.specs.Prelude.{ℕ, ◌≡◌, ◌⊎◌, Option, Some, List, [], ◌∷◌, ◌++◌, codes, IfSome}
use Rattle.circus_outside.specs.Told.{told_more}
use Rattle.circus_commands.specs.declared.status.Status.{Status}
use Rattle.circus_commands.specs.declared.status.Status.TheVariants.{BadCommandLine}
use Rattle.circus_program.specs.Form.{CommandForm, stubs, run, replay, picture, node, sample, draw, settle, place, audit, IsOfForm, IsOfNoForm, files_of}
use Rattle.circus_commands.specs.Ending.{Ending}
use Rattle.circus_program.specs.declared.shown.Shown.TheVariants.{Report, Picture}
use Rattle.circus_program.specs.declared.second.Second.{Second}
use Rattle.circus_program.specs.declared.second.Second.TheVariants.{Schedule, NodeRecord}
use Rattle.circus_program.specs.Replay.{IsEndOfReplay}
use Rattle.circus_program.specs.Audit.{IsEndOfAudit}
use Rattle.circus_config.specs.declared.plan.Plan.{Plan}
use Rattle.circus_config.specs.Program.{IsProgramOf}
use Rattle.circus_report.specs.Writing.{Writes, WritesPart}
use Rattle.circus_commands.specs.declared.one_file.OneFile.{OneFile}
use Rattle.circus_commands.specs.declared.one_file.OneFile.TheVariants.{Stubs, Run, Place}
use Rattle.circus_commands.specs.Refusal.{IsGood, IsEndOfRefused}
use Rattle.circus_commands.specs.OneFile.{IsEndOf}
use Rattle.circus_record.specs.Line.{line}
use Rattle.circus_serve.specs.Outside.{Tells}
use Rattle.circus_simulation.specs.Sample.{sample_of}
use Rattle.circus_simulation.specs.Schedule.{schedule_of}
use Rattle.circus_simulation.specs.Settle.{settle_of}
use Rattle.circus_node_command.specs.Named.{IsNamed, no_node}
use Rattle.circus_node_command.specs.NodeEnds.{IsEndOfServing}

-- what is due next: the contents of a file, the end, or to serve a node of a plan for so many takes
pub data Due : Type 0 where
  fetch : List ℕ → Due
  finish : Ending → Due
  serve : Plan → ℕ → ℕ → Due

-- the words are of no form
abbrev pub bad_command_line : Due
bad_command_line = finish (record { status = BadCommandLine; text = line (codes "circus: bad command line") })

-- what is due of a file that is no program
abbrev pub IsDueOfRefused : List ℕ → Due → Type 0
IsDueOfRefused program due = (ending : Ending) × IsEndOfRefused program ending × (due ≡ finish ending)

-- the bytes of a second file come to this end: a schedule of which this is shown, or a record
abbrev pub IsEndOfSecond : Second → Plan → List ℕ → Ending → Type 0
IsEndOfSecond (Schedule shown) plan bytes ending = IsEndOfReplay shown plan bytes ending
IsEndOfSecond NodeRecord plan bytes ending = IsEndOfAudit plan bytes ending

-- what is due once a program and its second file are fetched
abbrev pub IsDueOfSecond : Second → Plan → List ℕ → Due → Type 0
IsDueOfSecond second plan bytes due = (ending : Ending) × IsEndOfSecond second plan bytes ending × (due ≡ finish ending)

-- what is due of a program and a second file, whose bytes so far are these
abbrev pub IsDueOfTwo : Second → List ℕ → List ℕ → List (List ℕ) → Due → Type 0
IsDueOfTwo second program file [] due = due ≡ fetch program
IsDueOfTwo second program file (bytes ∷ []) due = (IsGood bytes × (due ≡ fetch file)) ⊎ IsDueOfRefused bytes due
IsDueOfTwo second program file (bytes ∷ more ∷ []) due = (plan : Plan) × IsProgramOf bytes plan × IsDueOfSecond second plan more due
IsDueOfTwo second program file (_ ∷ _ ∷ _ ∷ _) due = ⊥

-- what is due of a command of one file, whose bytes so far are these, where this is due of its bytes
abbrev pub IsDueOfFile : List ℕ → (List ℕ → Due → Type 0) → List (List ℕ) → Due → Type 0
IsDueOfFile name IsNext [] due = due ≡ fetch name
IsDueOfFile name IsNext (bytes ∷ []) due = IsNext bytes due
IsDueOfFile name IsNext (_ ∷ _ ∷ _) due = ⊥

-- what is due of bytes that come to an end
abbrev pub IsDueOfEnd : OneFile → List ℕ → Due → Type 0
IsDueOfEnd command bytes due = (ending : Ending) × IsEndOf command bytes ending × (due ≡ finish ending)

-- what is due of the bytes of a program, where this is due of its plan
abbrev pub IsDueOfProgram : (Plan → Due → Type 0) → List ℕ → Due → Type 0
IsDueOfProgram IsNext bytes due = ((plan : Plan) × IsProgramOf bytes plan × IsNext plan due) ⊎ IsDueOfRefused bytes due

-- what is due of a sample of a plan
abbrev pub IsDueOfSample : ℕ → ℕ → Plan → Due → Type 0
IsDueOfSample seed steps plan due = due ≡ finish (sample_of plan seed steps)

-- what is due of the lines of a sample of a plan
abbrev pub IsDueOfLines : ℕ → ℕ → Plan → Due → Type 0
IsDueOfLines seed steps plan due = due ≡ finish (schedule_of plan seed steps)

-- what is due of a plan of which so many datagrams at most are delivered
abbrev pub IsDueOfSettle : ℕ → Plan → Due → Type 0
IsDueOfSettle deliveries plan due = due ≡ finish (settle_of plan deliveries)

-- what is due of a node of a plan, by its name
abbrev pub IsDueOfNode : List ℕ → ℕ → Plan → Due → Type 0
IsDueOfNode name turns plan due =
    ((number : ℕ) × IsNamed plan.deployment name number × (due ≡ serve plan number turns))
    ⊎ (((number : ℕ) → IsNamed plan.deployment name number → ⊥) × (due ≡ finish (no_node name)))

-- what is due of a form, once these of its files are fetched, in order
abbrev pub IsDueOfForm : CommandForm → List (List ℕ) → Due → Type 0
IsDueOfForm (replay program schedule) files due = IsDueOfTwo (Schedule Report) program schedule files due
IsDueOfForm (picture program schedule) files due = IsDueOfTwo (Schedule Picture) program schedule files due
IsDueOfForm (stubs program) files due = IsDueOfFile program (IsDueOfEnd Stubs) files due
IsDueOfForm (run program) files due = IsDueOfFile program (IsDueOfEnd Run) files due
IsDueOfForm (node program name turns) files due = IsDueOfFile program (IsDueOfProgram (IsDueOfNode name turns)) files due
IsDueOfForm (sample program seed steps) files due = IsDueOfFile program (IsDueOfProgram (IsDueOfSample seed steps)) files due
IsDueOfForm (draw program seed steps) files due = IsDueOfFile program (IsDueOfProgram (IsDueOfLines seed steps)) files due
IsDueOfForm (settle program deliveries) files due = IsDueOfFile program (IsDueOfProgram (IsDueOfSettle deliveries)) files due
IsDueOfForm (place placing) files due = IsDueOfFile placing (IsDueOfEnd Place) files due
IsDueOfForm (audit program «record») files due = IsDueOfTwo NodeRecord program «record» files due

-- the files are those that the shelf has under the first of the names
abbrev pub AreContents : (List ℕ → Option (List ℕ)) → List (List ℕ) → List (List ℕ) → Type 0
AreContents contents names [] = Unit {0}
AreContents contents [] (_ ∷ _) = ⊥
AreContents contents (name ∷ names) (file ∷ files) = (contents name ≡ Some file) × AreContents contents names files

-- where the shelf tells, the files are what it has under the first of the names
abbrev pub AreFetchedOf : Option (List ℕ → Option (List ℕ)) → List (List ℕ) → List (List ℕ) → Type 0
AreFetchedOf shelf names files = IfSome shelf (λ contents. AreContents contents names files)

-- a form that the words have, and what is due of it once some of its files are fetched
pub record IsDueOfSome (shelf : Option (List ℕ → Option (List ℕ))) (words : List (List ℕ)) (due : Due) : Type 0 where
  pub form : CommandForm
  pub of_form : IsOfForm words form
  pub files : List (List ℕ)
  pub fetched : AreFetchedOf shelf (files_of form) files
  pub is_due : IsDueOfForm form files due

-- what is due of words, over a shelf that tells its contents or doesn't
abbrev pub IsDue : Option (List ℕ → Option (List ℕ)) → List (List ℕ) → Due → Type 0
IsDue shelf words due = IsDueOfSome shelf words due ⊎ (IsOfNoForm words × (due ≡ bad_command_line))

-- the words ask for a node
abbrev pub AsksForNode : List (List ℕ) → Type 0
AsksForNode words = (program name : List ℕ) × (turns : ℕ) × IsOfForm words (node program name turns)

-- the call came to the end that is due, with this status: of a node that was served, by what the link tells
abbrev pub Finishes : Option (List ℕ → Option (List ℕ)) → List (List ℕ) → Tells → Tells → Status → List ℕ → Type 0
Finishes shelf words old new status text =
    (IsDue shelf words (finish (record { status = status; text = text })) × (new ≡ old))
    ⊎ ((plan : Plan) × (number turns : ℕ) × IsDue shelf words (serve plan number turns) × IsEndOfServing plan number turns old new (record { status = status; text = text }))

-- the call came to a fetch that failed, of this name
abbrev pub Lacks : Option (List ℕ → Option (List ℕ)) → List (List ℕ) → List ℕ → Type 0
Lacks shelf words name = IsDue shelf words (fetch name)

-- what is written of a fetch that failed
abbrev pub shelf_fault : List ℕ → List ℕ
shelf_fault name = line (codes "shelf fault: " ++ name)

-- where the shelf tells, the name was asked for last
abbrev pub WasLast : Option (List (List ℕ)) → List ℕ → Type 0
WasLast asked name = IfSome asked (λ names. (before : List (List ℕ)) × (names ≡ before ++ name ∷ []))

-- the text is one that is due in full: of an end, or of a fetch that failed, which was asked for last and with
-- which the shelf's count of faults rose
abbrev pub IsText : Option (List ℕ → Option (List ℕ)) → List (List ℕ) → Tells → Tells → Option (List (List ℕ)) → Type 0 → List ℕ → Type 0
IsText shelf words before after fetched ShelfRose text =
    ((status : Status) × Finishes shelf words before after status text)
    ⊎ ((name : List ℕ) × Lacks shelf words name × WasLast fetched name × ShelfRose × (text ≡ shelf_fault name))

-- a part of a text that is due was written, or nothing
abbrev pub WritesPartOfText : Option (List ℕ → Option (List ℕ)) → List (List ℕ) → Tells → Tells → Option (List (List ℕ)) → Type 0 → Option (List ℕ) → Option (List ℕ) → Type 0
WritesPartOfText shelf words before after fetched ShelfRose old new =
    ((text : List ℕ) × IsText shelf words before after fetched ShelfRose text × WritesPart old new text) ⊎ (new ≡ old)

-- the text of the end that is due with this status was written
abbrev pub WritesEnd : Option (List ℕ → Option (List ℕ)) → List (List ℕ) → Tells → Tells → Option (List ℕ) → Option (List ℕ) → Status → Type 0
WritesEnd shelf words before after old new status = (text : List ℕ) × Finishes shelf words before after status text × Writes old new text

-- the name of the file that was due, and was asked for last, was written
abbrev pub WritesLack : Option (List ℕ → Option (List ℕ)) → List (List ℕ) → Option (List (List ℕ)) → Option (List ℕ) → Option (List ℕ) → Type 0
WritesLack shelf words fetched old new =
    (name : List ℕ) × Lacks shelf words name × WasLast fetched name × Writes old new (shelf_fault name)

-- the names asked for in the call are the first of these
pub record AsksFirstOf (old new : Option (List (List ℕ))) (names : List (List ℕ)) : Type 0 where
  pub asked : List (List ℕ)
  pub rest : List (List ℕ)
  pub whole : names ≡ asked ++ rest
  pub noted : new ≡ told_more old asked

-- a form that the words have, of whose files the first were asked for
pub record AsksOfForm (old new : Option (List (List ℕ))) (words : List (List ℕ)) : Type 0 where
  pub form : CommandForm
  pub of_form : IsOfForm words form
  pub asks : AsksFirstOf old new (files_of form)

-- the names asked for in the call are the first of those that the words give, and none where they are of no form
abbrev pub AsksOnly : Option (List (List ℕ)) → Option (List (List ℕ)) → List (List ℕ) → Type 0
AsksOnly old new words = AsksOfForm old new words ⊎ (IsOfNoForm words × (new ≡ old))
