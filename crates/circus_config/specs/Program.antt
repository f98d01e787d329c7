-- *Program*: which program a file is, and else the line and the cause of its refusal. Three passes are made, and the first one
-- with a fault decides: tokens; reading, with the rules of interfaces; checking of modules and deployment.
use Rattle.std.specs.Prelude.{◌≡◌, ◌⊎◌, ℕ, ◌<◌, ◌≤◌, Bool, true, false, List, [], ◌∷◌, ◌++◌, length, map, All, IsAscii, Err, Option, Some, None, slice_get}
use Rattle.std.specs.List.{AllByRecursion, flat_map}
use Rattle.circus_text.specs.declared.token.Token.{Token}
use Rattle.circus_text.specs.declared.lex_fault.LexFault.{LexFault}
use Rattle.circus_text.specs.declared.lex_fault.LexFault.TheVariants as lexical
use Rattle.circus_text.specs.Form.{longest_text}
use Rattle.circus_text.specs.Division.{AreTokensOf, IsAnswer}
use Rattle.circus_text.specs.Lines.{line_of}
use Rattle.circus_syntax.specs.declared.stopping.Stop.{Stop}
use Rattle.circus_syntax.specs.declared.stopping.StopCause.{StopCause}
use Rattle.circus_syntax.specs.declared.stopping.StopCause.TheVariants.{Unexpected, TooDeep}
use Rattle.circus_syntax.specs.InterfaceTree.{InterfaceTree}
use Rattle.circus_syntax.specs.Placed.{Placed, AreWithin}
use Rattle.circus_syntax.specs.Read.{placed_from}
use Rattle.circus_syntax.specs.Reader.{place_in}
use Rattle.circus_syntax.specs.Spelling.{most_levels}
use Rattle.circus_syntax.specs.Standing.{Standing, apart, standings_of_interface}
use Rattle.circus_syntax.specs.Filling.{AllBehind, as_further}
use Rattle.circus_expression.specs.Ending.{Are, IsUnexpected, IsTooDeep, IsFilledIn}
use Rattle.circus_fault.specs.declared.fault.Fault.{Fault}
use Rattle.circus_fault.specs.Least.{least_from}
use Rattle.circus_idl.specs.declared.interface.Interface.{Interface}
use Rattle.circus_idl.specs.Faults.{Cut, cut_of}
use Rattle.circus_idl.specs.Means.{Means}
use Rattle.circus_idl.specs.Obeys.{Obeys}
use Rattle.circus_file.specs.declared.program_text.Format.{Format}
use Rattle.circus_file.specs.declared.program_text.Format.TheVariants.{One, Two}
use Rattle.circus_file.specs.WrittenProgram.{WrittenProgram, spelling_heading, spelling_program, IsProgram}
use Rattle.circus_file.specs.ProgramTree.{ProgramTree, program_stands_for}
use Rattle.circus_check.specs.Meaning.{ModuleMeant, modules_meant}
use Rattle.circus_check.specs.Resolved.{module_as}
use Rattle.circus_check.specs.WellFormed.{AreWellFormed}
use Rattle.circus_collate.specs.Deployment.{IsDeployment}
use Rattle.circus_collate.specs.declared.deployment.Troupe.{Troupe}
use Rattle.circus_deployment.specs.Meaning.{deployment_meant}
use Rattle.circus_config.specs.declared.plan.Plan.{Plan}
use Rattle.circus_config.specs.declared.program_fault.ProgramCause.{ProgramCause}
use Rattle.circus_config.specs.declared.program_fault.ProgramCause.TheVariants.{BadCharacter, OpenString, LongNumber, TooLarge}
use Rattle.circus_config.specs.declared.program_fault.ProgramFault.{ProgramFault}
use Rattle.circus_config.specs.declared.program_fault.ProgramFault.TheVariants.{Refused, NoMemory}
use Rattle.circus_config.specs.Rank.{rank_of}
use Rattle.circus_config.specs.Told.{module_names}
use Rattle.circus_config.specs.Reading.{read_faults}
use Rattle.circus_config.specs.Checking.{checked_faults}

-- the number that messages of the format have
abbrev pub format_number : Format → ℕ
format_number One = 1
format_number Two = 2

-- each interface is what its tree means
abbrev pub EachMeans : List InterfaceTree → List Interface → Type 0
EachMeans [] [] = Unit {0}
EachMeans [] (i ∷ is) = ⊥
EachMeans (t ∷ ts) [] = ⊥
EachMeans (t ∷ ts) (i ∷ is) = Means t i × EachMeans ts is

-- the tokens of a text
abbrev pub placed_tokens : List ℕ → List Token → List Placed
placed_tokens text ts = placed_from text ts 0

-- ---- programs

-- the text is a file whose tokens have this tree, which stands within the levels, and the interfaces in it obey their rules
-- and mean these
pub record IsFile (text : List ℕ) (tree : ProgramTree) (interfaces : List Interface) : Type 0 where
  pub short : length text ≤ longest_text
  pub found : List Token
  pub tokens : AreTokensOf text found
  pub written : WrittenProgram
  pub spelled : Are spelling_program IsProgram (placed_tokens text found) written
  pub within : AreWithin most_levels (spelling_program written)
  pub stands : tree ≡ program_stands_for written
  pub faultless : read_faults None tree.interfaces ≡ []
  pub means : EachMeans tree.interfaces interfaces

-- the text is a program: a file in which no rule is broken. It means this plan
pub record IsProgramOf (text : List ℕ) (plan : Plan) : Type 0 where
  pub tree : ProgramTree
  pub file : IsFile text tree plan.checked.interfaces
  pub faultless : checked_faults plan.checked.interfaces tree.modules (length text) tree.deployment ≡ []
  pub modules : map module_as plan.checked.modules ≡ modules_meant plan.checked.interfaces tree.modules 0 tree.modules
  pub names : plan.names ≡ module_names tree.modules
  pub deployment : plan.deployment ≡ deployment_meant tree.modules (format_number tree.format) tree.deployment

-- there is a troupe for each module, a root exactly where the module is one
abbrev pub HaveTheirRoots : Plan → Type 0
HaveTheirRoots plan = map (λ (t : Troupe). t.root) plan.deployment.troupes ≡ map (λ (m : ModuleMeant). m.root) (map module_as plan.checked.modules)

-- the interfaces, the modules and the deployment of a plan obey their rules as a whole, and what is named is ASCII
pub record IsPlan (plan : Plan) : Type 0 where
  pub obey : AllByRecursion Obeys plan.checked.interfaces
  pub well_formed : AreWellFormed plan.checked.interfaces (map module_as plan.checked.modules)
  pub deployed : IsDeployment plan.deployment
  pub roots : HaveTheirRoots plan
  pub named : All IsAscii plan.names

-- two plans say the same: deployments, names, interfaces and modules are equal
pub record SaysSame (plan other : Plan) : Type 0 where
  pub deployment : plan.deployment ≡ other.deployment
  pub names : plan.names ≡ other.names
  pub interfaces : plan.checked.interfaces ≡ other.checked.interfaces
  pub modules : map module_as plan.checked.modules ≡ map module_as other.checked.modules

-- ---- refusals

-- no program goes on with the next token, or only such as have too many levels
abbrev pub IsStopOf : StopCause → List Placed → List Placed → Type 0
IsStopOf Unexpected ts left = IsUnexpected spelling_program IsProgram ts left
IsStopOf TooDeep ts left = IsTooDeep spelling_program IsProgram most_levels ts left

-- whether each token of a program, up to the end of its interfaces, is one that would be filled in there
abbrev pub as_format : Format → List Bool
as_format One = true ∷ true ∷ true ∷ []
as_format Two = true ∷ false ∷ true ∷ []

abbrev pub as_interfaces : WrittenProgram → List Bool
as_interfaces w = as_format w.format ++ flat_map as_further w.interfaces

-- where each token of a program, up to the end of its interfaces, stands
abbrev pub standings_in : WrittenProgram → List Standing
standings_in w = apart (spelling_heading w.format) ++ flat_map standings_of_interface w.interfaces

-- what a stop cuts that came before a token which stands so: its whole type and its list; behind the interfaces nothing
abbrev pub cut_at : Option Standing → Cut
cut_at None = record { within = None; list = None }
cut_at (Some m) = record { within = m.within; list = m.list }

-- reading stopped: what was written is a program that the tokens begin up to there, and what its interfaces have besides is
-- filled in. The stop is marked with what it cuts
pub record IsStoppedIn (ts : List Placed) (end : ℕ) (stop : Stop) (w : WrittenProgram) : Type 0 where
  pub left : List Placed
  pub filled : IsFilledIn spelling_program IsProgram most_levels ts left stop.place w
  pub interfaces : AllBehind filled.read (as_interfaces w)
  pub cut : cut_of (Some stop) ≡ cut_at (slice_get (standings_in w) (length filled.read))
  pub place : stop.place ≡ place_in left end
  pub cause : IsStopOf stop.cause ts left

-- what was written is the program that the tokens are, or reading stopped in it
abbrev pub IsReadOf : List Placed → ℕ → Option Stop → WrittenProgram → Type 0
IsReadOf ts end None w = Are spelling_program IsProgram ts w × AreWithin most_levels (spelling_program w)
IsReadOf ts end (Some s) w = IsStoppedIn ts end s w

-- the answer to faults: the line and the cause of the least of them
abbrev pub IsAnswerTo : List ℕ → List (Fault ProgramCause) → ProgramFault → Type 0
IsAnswerTo text faults answer =
    (fault : Fault ProgramCause) × (least_from rank_of None faults ≡ Some fault) × (answer ≡ Refused (line_of text fault.place) fault.cause)

-- the pass that reads finds a fault
pub record IsMisread (text : List ℕ) (found : List Token) (answer : ProgramFault) : Type 0 where
  pub written : WrittenProgram
  pub stop : Option Stop
  pub read_of : IsReadOf (placed_tokens text found) (length text) stop written
  pub given : IsAnswerTo text (read_faults stop written.interfaces) answer

-- the pass that checks finds a fault
pub record IsUnchecked (text : List ℕ) (answer : ProgramFault) : Type 0 where
  pub tree : ProgramTree
  pub interfaces : List Interface
  pub file : IsFile text tree interfaces
  pub given : IsAnswerTo text (checked_faults interfaces tree.modules (length text) tree.deployment) answer

-- the answer that a fault of the tokens gives
abbrev pub lexical_answer : List ℕ → LexFault → ProgramFault
lexical_answer text (lexical.BadCharacter place) = Refused (line_of text place) BadCharacter
lexical_answer text (lexical.OpenString place) = Refused (line_of text place) OpenString
lexical_answer text (lexical.LongNumber place) = Refused (line_of text place) LongNumber
lexical_answer text lexical.NoMemory = NoMemory

-- the text is too long, its tokens have a fault, reading it finds one, or checking it does
abbrev pub IsRefused : List ℕ → ProgramFault → Type 0
IsRefused text answer =
    ((longest_text < length text) × (answer ≡ Refused 1 TooLarge))
    ⊎ (((length text ≤ longest_text) × ((fault : LexFault) × IsAnswer text (Err fault) × (answer ≡ lexical_answer text fault)))
    ⊎ (((length text ≤ longest_text) × ((found : List Token) × AreTokensOf text found × IsMisread text found answer))
    ⊎ IsUnchecked text answer))
