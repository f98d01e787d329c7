-- The grammar of modules: what their tokens are, in their order, and which trees they have. Each production is named in front
-- of what it spells.
use Rattle.std.specs.Prelude.{ℕ, List, [], ◌∷◌, ◌++◌, codes}
use Rattle.circus_syntax.specs.declared.named.Named.{Named}
use Rattle.circus_syntax.specs.Placed.{word, sign, Due, due, due_at, due_name}
use Rattle.circus_syntax.specs.Spelling.{each, spelling_names, spelling_type, IsName, IsType, IsEach}
use Rattle.circus_statement.specs.WrittenStatement.{WrittenStatement, semicolon, ending, spelling_listed, AreListed}
use Rattle.circus_lang.specs.ModuleTree.{VariableTree, BodyOf, ProcedureOf}

abbrev pub WrittenBody : Type 0
WrittenBody = BodyOf WrittenStatement

abbrev pub WrittenProcedure : Type 0
WrittenProcedure = ProcedureOf WrittenStatement

pub data WrittenModule : Type 0 where
  -- its name, its interface, its imports, its variables and its procedures
  serving : Named → Named → List Named → List VariableTree → List WrittenProcedure → WrittenModule
  -- its name, its imports, its variables, the place of MAIN, and what stands behind
  root : Named → List Named → List VariableTree → ℕ → WrittenBody → WrittenModule

-- imports = ["IMPORTS" names]
abbrev pub spelling_imports : List Named → List Due
spelling_imports [] = []
spelling_imports (n ∷ ns) = due (word (codes "IMPORTS")) ∷ spelling_names (n ∷ ns)

-- imports ";" "BEGIN"
abbrev pub spelling_heading : List Named → List Due
spelling_heading ns = spelling_imports ns ++ semicolon ∷ due (word (codes "BEGIN")) ∷ []

-- variable = "VAR" name ":" type ";"
abbrev pub spelling_variable : VariableTree → List Due
spelling_variable v = due (word (codes "VAR")) ∷ due_name v.name ∷ due (sign (codes ":")) ∷ (spelling_type v.shape ++ semicolon ∷ [])

-- body = {variable} "BEGIN" {statement} "END" ";"
abbrev pub spelling_body : WrittenBody → List Due
spelling_body b = each spelling_variable b.variables ++ (spelling_listed (codes "BEGIN") b.statements ++ ending)

-- "PROCEDURE" name body
abbrev pub spelling_procedure : WrittenProcedure → List Due
spelling_procedure p = due (word (codes "PROCEDURE")) ∷ due_name p.name ∷ spelling_body p.body

-- "MAIN" body
abbrev pub spelling_main : ℕ → WrittenBody → List Due
spelling_main at b = due_at (word (codes "MAIN")) at ∷ spelling_body b

-- "END" "."
abbrev pub module_closing : List Due
module_closing = due (word (codes "END")) ∷ due (sign (codes ".")) ∷ []

abbrev pub spelling_module : WrittenModule → List Due
-- "MODULE" name "IMPLEMENTS" name imports ";" "BEGIN" {variable} {"PROCEDURE" name body} "END" "."
spelling_module (serving n i ns vs ps) =
    due (word (codes "MODULE")) ∷ due_name n ∷ due (word (codes "IMPLEMENTS")) ∷ due_name i
    ∷ (spelling_heading ns ++ (each spelling_variable vs ++ (each spelling_procedure ps ++ module_closing)))
-- "ROOT" name imports ";" "BEGIN" {variable} "MAIN" body "END" "."
spelling_module (root n ns vs at b) =
    due (word (codes "ROOT")) ∷ due_name n ∷ (spelling_heading ns ++ (each spelling_variable vs ++ (spelling_main at b ++ module_closing)))

abbrev pub IsVariable : VariableTree → Type 0
IsVariable v = IsName v.name × IsType v.shape

abbrev pub IsBody : WrittenBody → Type 0
IsBody b = IsEach IsVariable b.variables × AreListed b.statements

abbrev pub IsProcedure : WrittenProcedure → Type 0
IsProcedure p = IsName p.name × IsBody p.body

-- its names are names, and its types and statements are such
abbrev pub IsModule : WrittenModule → Type 0
IsModule (serving n i ns vs ps) = IsName n × IsName i × IsEach IsName ns × IsEach IsVariable vs × IsEach IsProcedure ps
IsModule (root n ns vs at b) = IsName n × IsEach IsName ns × IsEach IsVariable vs × IsBody b
