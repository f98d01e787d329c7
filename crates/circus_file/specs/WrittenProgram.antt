-- The grammar of program files: what their tokens are, in their order, and which trees they have.
use Rattle.std.specs.Prelude.{ℕ, List, [], ◌∷◌, ◌++◌, codes}
use Rattle.circus_syntax.specs.InterfaceTree.{InterfaceTree}
use Rattle.circus_syntax.specs.Placed.{word, digits, Due, due}
use Rattle.circus_syntax.specs.Spelling.{each, spelling, IsEach, IsGrammatical}
use Rattle.circus_statement.specs.WrittenStatement.{semicolon}
use Rattle.circus_lang.specs.WrittenModule.{WrittenModule, spelling_module, IsModule}
use Rattle.circus_troupe.specs.declared.deployment_text.DeploymentText.{DeploymentText}
use Rattle.circus_troupe.specs.DeploymentSpelling.{spelling_deployment, IsDeploymentText}
use Rattle.circus_file.specs.declared.program_text.Format.{Format}
use Rattle.circus_file.specs.declared.program_text.Format.TheVariants.{One, Two}

-- a program whose modules are of some kind
pub record ProgramOf (M : Type 0) : Type 0 where
  pub format : Format
  pub interfaces : List InterfaceTree
  pub modules : List M
  pub deployment : DeploymentText

abbrev pub WrittenProgram : Type 0
WrittenProgram = ProgramOf WrittenModule

-- "1" | "2"
abbrev pub format_digits : Format → List ℕ
format_digits One = codes "1"
format_digits Two = codes "2"

-- "CIRCUS" ("1" | "2") ";"
abbrev pub spelling_heading : Format → List Due
spelling_heading f = due (word (codes "CIRCUS")) ∷ due (digits (format_digits f)) ∷ semicolon ∷ []

-- program = "CIRCUS" ("1" | "2") ";" {interface} {module} ringmaster {troupe}
abbrev pub spelling_program : WrittenProgram → List Due
spelling_program p = spelling_heading p.format ++ (each spelling p.interfaces ++ (each spelling_module p.modules ++ spelling_deployment p.deployment))

-- its interfaces, its modules and its deployment are such
abbrev pub IsProgram : WrittenProgram → Type 0
IsProgram p = IsEach IsGrammatical p.interfaces × IsEach IsModule p.modules × IsDeploymentText p.deployment
