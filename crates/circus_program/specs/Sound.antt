-- Words of which nothing is amiss: their files are there, a program is one, a schedule is legal, a placing has a choice, a record is a
-- true one.
use Rattle.std.specs.Prelude.{ℕ, ◌≡◌, ◌⊎◌, Option, Some, List, Ok}
use Rattle.circus_model.specs.Behaviour.{Behaviour}
use Rattle.circus_schedule.specs.declared.line.Line.{Line}
use Rattle.circus_schedule.specs.Meaning.{numbers_of}
use Rattle.circus_schedule.specs.Answer.{IsAnswer}
use Rattle.circus_world.specs.WorldState.{WorldState}
use Rattle.circus_config.specs.declared.plan.Plan.{Plan}
use Rattle.circus_config.specs.Program.{IsProgramOf}
use Rattle.circus_simulation.specs.Booted.{boot_world}
use Rattle.circus_node_command.specs.Named.{IsNamed}
use Rattle.circus_commands.specs.declared.status.Status.TheVariants.{Done, Spent}
use Rattle.circus_commands.specs.Placed.{HasChoice}
use Rattle.circus_program.specs.Form.{CommandForm, stubs, run, replay, picture, node, sample, draw, settle, place, audit, IsOfForm}
use Rattle.circus_program.specs.Audit.{IsTrueRecord}
use Rattle.circus_program.specs.Answer.{Due, fetch, finish, serve}
use Rattle.circus_program.specs.Last.{EndsWith, HasRefused, HasLeft, IsSpent}

module _ (contents : List ℕ → Option (List ℕ)) where
  -- a file of this name is a program that means a plan
  pub record MeansPlan (program : List ℕ) (plan : Plan) : Type 0 where
    pub bytes : List ℕ
    pub there : contents program ≡ Some bytes
    pub good : IsProgramOf bytes plan

  -- one is a schedule, each of whose lines may be stepped once those before it were
  pub record IsLegal (plan : Plan) (schedule : List ℕ) : Type 0 where
    pub text : List ℕ
    pub there : contents schedule ≡ Some text
    pub lines : List Line
    pub read : IsAnswer (numbers_of plan.deployment.nodes) text (Ok lines)
    pub legal : (w : WorldState Behaviour) → boot_world plan ≡ Ok w → HasRefused lines w → ⊥

  -- one is a true record of a node
  pub record HasTrueRecord (plan : Plan) («record» : List ℕ) : Type 0 where
    pub text : List ℕ
    pub there : contents «record» ≡ Some text
    pub is : IsTrueRecord plan text

  -- nothing is amiss
  abbrev pub IsSound : CommandForm → Type 0
  IsSound (stubs program) = (plan : Plan) × MeansPlan program plan
  IsSound (run program) = (plan : Plan) × MeansPlan program plan
  IsSound (replay program schedule) = (plan : Plan) × MeansPlan program plan × IsLegal plan schedule
  IsSound (picture program schedule) = (plan : Plan) × MeansPlan program plan × IsLegal plan schedule
  IsSound (node program name turns) = (plan : Plan) × MeansPlan program plan × ((number : ℕ) × IsNamed plan.deployment name number)
  IsSound (sample program seed steps) = (plan : Plan) × MeansPlan program plan
  IsSound (draw program seed steps) = (plan : Plan) × MeansPlan program plan
  IsSound (settle program deliveries) = (plan : Plan) × MeansPlan program plan × (HasLeft plan deliveries → ⊥)
  IsSound (place placing) = (bytes : List ℕ) × (contents placing ≡ Some bytes) × HasChoice bytes
  IsSound (audit program «record») = (plan : Plan) × MeansPlan program plan × HasTrueRecord plan «record»

  abbrev pub AreSound : List (List ℕ) → Type 0
  AreSound words = (form : CommandForm) × IsOfForm words form × IsSound form

  -- the words ask for a placing, whose file has this
  abbrev pub AskToPlace : List (List ℕ) → (List ℕ → Type 0) → Type 0
  AskToPlace words Has = (placing bytes : List ℕ) × IsOfForm words (place placing) × (contents placing ≡ Some bytes) × Has bytes

-- a node is to be served
abbrev pub IsServing : Due → Type 0
IsServing (fetch name) = ⊥
IsServing (finish ending) = ⊥
IsServing (serve plan number turns) = Unit {0}

-- it is done, or a node has no number left for another one, or a node is to be served
abbrev pub ComesWell : Due → Type 0
ComesWell due = EndsWith Done due ⊎ (EndsWith Spent due ⊎ IsServing due)

-- nothing is amiss with the words, a number is left to every node, and no node is to be served
pub record IsDone (contents : List ℕ → Option (List ℕ)) (words : List (List ℕ)) (due : Due) : Type 0 where
  pub sound : AreSound contents words
  pub unspent : IsSpent contents words → ⊥
  pub no_node : IsServing due → ⊥
