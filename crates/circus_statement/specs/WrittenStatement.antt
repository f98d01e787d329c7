-- The grammar of statements: what their tokens are, in their order, and which trees they have. Each production is named in
-- front of what it spells.
use Rattle.std.specs.Prelude.{◌≡◌, ℕ, List, [], ◌∷◌, ◌++◌, Option, Some, None, codes}
use Rattle.circus_syntax.specs.declared.named.Named.{Named}
use Rattle.circus_syntax.specs.Placed.{word, sign, Due, due, due_at, due_name, open_level}
use Rattle.circus_syntax.specs.Spelling.{with_commas, if_written, IsName, IfWritten, IsEach}
use Rattle.circus_expression.specs.Written.{Written, WrittenPlace, spelling, spelling_place, spelling_list, IsWritten, IsPlace}
use Rattle.circus_statement.specs.StatementTree.{StatementOf, StatementsOf, HandlersOf, IntoOf, CallOf, HandledOf, assign, only_then, then_else, while, append, call, return, raise, no_statements, more_statements, no_handlers, more_handlers}

abbrev pub WrittenStatement : Type 0
WrittenStatement = StatementOf Written WrittenPlace

abbrev pub WrittenStatements : Type 0
WrittenStatements = StatementsOf Written WrittenPlace

abbrev pub WrittenHandlers : Type 0
WrittenHandlers = HandlersOf Written WrittenPlace

-- a handler by itself
pub record WrittenHandler : Type 0 where
  pub handled : HandledOf WrittenPlace
  pub statements : List WrittenStatement

abbrev pub written_statements : List WrittenStatement → WrittenStatements
written_statements [] = no_statements
written_statements (s ∷ ss) = more_statements s (written_statements ss)

abbrev pub written_handlers : List WrittenHandler → WrittenHandlers
written_handlers [] = no_handlers
written_handlers (h ∷ hs) = more_handlers h.handled (written_statements h.statements) (written_handlers hs)

abbrev pub semicolon : Due
semicolon = due (sign (codes ";"))

-- "END" ";"
abbrev pub ending : List Due
ending = due (word (codes "END")) ∷ semicolon ∷ []

-- "[" [place {"," place}] "]"
abbrev pub spelling_places : List WrittenPlace → List Due
spelling_places ps = due (sign (codes "[")) ∷ (with_commas spelling_place ps ++ due (sign (codes "]")) ∷ [])

-- "INTO" "[" [places] "]"
abbrev pub spelling_into : IntoOf WrittenPlace → List Due
spelling_into i = due_at (word (codes "INTO")) i.at ∷ spelling_places i.places

-- name ["[" [places] "]"] | "OTHER"
abbrev pub spelling_caught : ℕ → Option Named → Option (List WrittenPlace) → List Due
spelling_caught at None places = due_at (word (codes "OTHER")) at ∷ []
spelling_caught at (Some n) places = due_name n ∷ if_written spelling_places places

abbrev pub spelling_handled : HandledOf WrittenPlace → List Due
spelling_handled h = spelling_caught h.at h.error h.places

-- "CALL" name "." name list ["INTO" "[" [places] "]"]
abbrev pub spelling_call : ℕ → CallOf Written WrittenPlace → List Due
spelling_call at c =
    due_at (word (codes "CALL")) at ∷ due_name c.«module» ∷ due (sign (codes ".")) ∷ due_name c.procedure
    ∷ (spelling_list c.arguments ++ if_written spelling_into c.into)

-- The tokens, and the levels at each of them: a list of statements is one, from the word that opens it on.
abbrev mutual
  pub spelling_statement : WrittenStatement → List Due
  -- place ":=" expression ";"
  spelling_statement (assign at p e) = spelling_place p ++ due (sign (codes ":=")) ∷ (spelling e ++ semicolon ∷ [])
  -- "IF" expression "THEN" {statement} "END" ";"
  spelling_statement (only_then at e ss) = due_at (word (codes "IF")) at ∷ (spelling e ++ (open_level (due (word (codes "THEN")) ∷ spelling_statements ss) ++ ending))
  -- "IF" expression "THEN" {statement} "ELSE" {statement} "END" ";"
  spelling_statement (then_else at e ss os) =
      due_at (word (codes "IF")) at ∷ (spelling e ++ (open_level (due (word (codes "THEN")) ∷ spelling_statements ss) ++ (open_level (due (word (codes "ELSE")) ∷ spelling_statements os) ++ ending)))
  -- "WHILE" expression "DO" {statement} "END" ";"
  spelling_statement (while at e ss) = due_at (word (codes "WHILE")) at ∷ (spelling e ++ (open_level (due (word (codes "DO")) ∷ spelling_statements ss) ++ ending))
  -- "APPEND" expression "TO" place ";"
  spelling_statement (append at e p) =
      due_at (word (codes "APPEND")) at ∷ (spelling e ++ due (word (codes "TO")) ∷ (spelling_place p ++ semicolon ∷ []))
  -- "CALL" name "." name list ["INTO" "[" [places] "]"] {handler} ";"
  spelling_statement (call at c hs) = spelling_call at c ++ (spelling_handlers hs ++ semicolon ∷ [])
  -- "RETURN" list ";"
  spelling_statement (return at es) = due_at (word (codes "RETURN")) at ∷ (spelling_list es ++ semicolon ∷ [])
  -- "RAISE" name list ";"
  spelling_statement (raise at n es) = due_at (word (codes "RAISE")) at ∷ due_name n ∷ (spelling_list es ++ semicolon ∷ [])

  pub spelling_statements : WrittenStatements → List Due
  spelling_statements no_statements = []
  spelling_statements (more_statements s ss) = spelling_statement s ++ spelling_statements ss

  -- {"ON" (name ["[" [places] "]"] | "OTHER") "BEGIN" {statement} "END"}
  pub spelling_handlers : WrittenHandlers → List Due
  spelling_handlers no_handlers = []
  spelling_handlers (more_handlers h ss hs) =
      due (word (codes "ON")) ∷ (spelling_handled h ++ (open_level (due (word (codes "BEGIN")) ∷ spelling_statements ss) ++ due (word (codes "END")) ∷ spelling_handlers hs))

-- a word and the list of statements that it opens
abbrev pub spelling_listed : List ℕ → List WrittenStatement → List Due
spelling_listed lead ss = open_level (due (word lead) ∷ spelling_statements (written_statements ss))

abbrev pub ArePlaces : List WrittenPlace → Type 0
ArePlaces ps = IsEach IsPlace ps

abbrev pub AreIn : IntoOf WrittenPlace → Type 0
AreIn i = ArePlaces i.places

-- a handler of an error stands where its name does, and one of every other error has no places
abbrev pub IsCaught : ℕ → Option Named → Option (List WrittenPlace) → Type 0
IsCaught at None places = places ≡ None
IsCaught at (Some n) places = (at ≡ n.at) × IsName n × IfWritten ArePlaces places

abbrev pub IsCall : CallOf Written WrittenPlace → Type 0
IsCall c = IsName c.«module» × IsName c.procedure × IsEach IsWritten c.arguments × IfWritten AreIn c.into

-- its names are names, its expressions and places are such, and an assignment stands where its place does
abbrev mutual
  pub IsStatement : WrittenStatement → Type 0
  IsStatement (assign at p e) = (at ≡ p.name.at) × IsPlace p × IsWritten e
  IsStatement (only_then at e ss) = IsWritten e × AreStatements ss
  IsStatement (then_else at e ss os) = IsWritten e × AreStatements ss × AreStatements os
  IsStatement (while at e ss) = IsWritten e × AreStatements ss
  IsStatement (append at e p) = IsWritten e × IsPlace p
  IsStatement (call at c hs) = IsCall c × AreHandlers hs
  IsStatement (return at es) = IsEach IsWritten es
  IsStatement (raise at n es) = IsName n × IsEach IsWritten es

  pub AreStatements : WrittenStatements → Type 0
  AreStatements no_statements = Unit {0}
  AreStatements (more_statements s ss) = IsStatement s × AreStatements ss

  pub AreHandlers : WrittenHandlers → Type 0
  AreHandlers no_handlers = Unit {0}
  AreHandlers (more_handlers h ss hs) = IsCaught h.at h.error h.places × AreStatements ss × AreHandlers hs

abbrev pub AreListed : List WrittenStatement → Type 0
AreListed ss = AreStatements (written_statements ss)
