-- What is known of a program that was read: the lines of a sample of it are short.
use Rattle.std.specs.Prelude.{ℕ, ◌≡◌, Option, Some, List, IfSome}
use Rattle.circus_config.specs.declared.plan.Plan.{Plan}
use Rattle.circus_config.specs.Program.{IsProgramOf}
use Rattle.circus_program.specs.declared.answer.Command.{Command}
use Rattle.circus_program.specs.declared.answer.Command.TheVariants.{End, OfPlan}
use Rattle.circus_program.specs.declared.answer.Task.{Task}
use Rattle.circus_program.specs.declared.answer.Task.TheVariants.{Sample, Lines, Settle, Node}
use Rattle.circus_program.specs.Last.{IsLines}
use Rattle.circus_program.specs.Replayed.{AreShort}

-- what is known of a plan once this was done with it
abbrev pub IsKnownOf : Task → Plan → Type 0
IsKnownOf (Lines seed steps) plan = AreShort plan seed steps
IsKnownOf (Sample seed steps) plan = Unit {0}
IsKnownOf (Settle deliveries) plan = Unit {0}
IsKnownOf (Node name turns) plan = Unit {0}

-- of each plan that the bytes mean
abbrev pub AreKnownOf : Task → List ℕ → Type 0
AreKnownOf task bytes = (plan : Plan) → IsProgramOf bytes plan → IsKnownOf task plan

-- where the command reads them as a program
abbrev pub AreKnownBy : Command → List ℕ → Type 0
AreKnownBy (End _) bytes = Unit {0}
AreKnownBy (OfPlan task) bytes = AreKnownOf task bytes

-- this holds of what the shelf has under the name, where it tells its contents
abbrev pub OfContents : Option (List ℕ → Option (List ℕ)) → (List ℕ → Type 0) → List ℕ → Type 0
OfContents shelf Of name = IfSome shelf (λ contents. (bytes : List ℕ) → contents name ≡ Some bytes → Of bytes)

-- lines that words ask for are short
abbrev pub AreShortLines : (List ℕ → Option (List ℕ)) → List (List ℕ) → Type 0
AreShortLines contents words = (plan : Plan) (seed steps : ℕ) → IsLines contents words plan seed steps → AreShort plan seed steps

-- where the shelf tells its contents
abbrev pub ShortLinesOf : Option (List ℕ → Option (List ℕ)) → List (List ℕ) → Type 0
ShortLinesOf shelf words = IfSome shelf (λ contents. AreShortLines contents words)
