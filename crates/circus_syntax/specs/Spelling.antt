-- The grammar: what the tokens of an interface are, in their order, and which trees it has.
use Rattle.std.specs.Prelude.{◌≡◌, ℕ, ◌+◌, ◌≤◌, max, false, List, [], ◌∷◌, ◌++◌, Option, Some, None, codes}
use Rattle.circus_text.specs.declared.token.TokenKind.TheVariants.{Word, Quoted}
use Rattle.circus_text.specs.Form.{greatest_number}
use Rattle.circus_text.specs.Token.{IsSpelling}
use Rattle.circus_syntax.specs.declared.named.Named.{Named}
use Rattle.circus_syntax.specs.declared.named.Numeral.{Numeral}
use Rattle.circus_syntax.specs.declared.named.TypeName.{TypeName}
use Rattle.circus_syntax.specs.declared.named.LabelText.{LabelText}
use Rattle.circus_syntax.specs.declared.interface_text.FieldsText.{FieldsText}
use Rattle.circus_syntax.specs.Reserved.{is_reserved}
use Rattle.circus_syntax.specs.TypeTree.{TypeTree, GroupTrees, ArmTrees, boolean, cardinal, long_cardinal, integer, long_integer, text, enumeration, array, sequence, «record», choice, called, no_groups, more_groups, no_arms, more_arms, group_trees}
use Rattle.circus_syntax.specs.InterfaceTree.{DeclaredTree, a_type, an_error, a_procedure, InterfaceTree}
use Rattle.circus_syntax.specs.Placed.{Placed, word, sign, in_quotes, Due, due, due_at, due_name, due_number, open_level, AreDue}

-- items one behind the other
abbrev pub each : {A : Type 0} → (A → List Due) → List A → List Due
each spell [] = []
each spell (x ∷ xs) = spell x ++ each spell xs

abbrev pub comma : Due
comma = due (sign (codes ","))

-- items with commas between them
abbrev pub with_commas : {A : Type 0} → (A → List Due) → List A → List Due
with_commas spell [] = []
with_commas spell (x ∷ xs) = spell x ++ each (λ y. comma ∷ spell y) xs

-- what may be left out
abbrev pub if_written : {A : Type 0} → (A → List Due) → Option A → List Due
if_written spell None = []
if_written spell (Some x) = spell x

abbrev pub spelling_name : Named → List Due
spelling_name n = due_name n ∷ []

abbrev pub spelling_number : Numeral → List Due
spelling_number n = due_number n ∷ []

abbrev pub spelling_names : List Named → List Due
spelling_names ns = with_commas spelling_name ns

abbrev pub spelling_label : LabelText → List Due
spelling_label l = due_name l.name ∷ due (sign (codes "(")) ∷ due_number l.number ∷ due (sign (codes ")")) ∷ []

abbrev pub spelling_module : Option Named → List Due
spelling_module None = []
spelling_module (Some m) = due_name m ∷ due (sign (codes ".")) ∷ []

abbrev pub spelling_type_name : TypeName → List Due
spelling_type_name t = spelling_module t.«module» ++ due_name t.name ∷ []

abbrev mutual
  pub spelling_type : TypeTree → List Due
  spelling_type (boolean at) = due_at (word (codes "BOOLEAN")) at ∷ []
  spelling_type (cardinal at) = due_at (word (codes "CARDINAL")) at ∷ []
  spelling_type (long_cardinal at) = due_at (word (codes "LONG")) at ∷ due (word (codes "CARDINAL")) ∷ []
  spelling_type (integer at) = due_at (word (codes "INTEGER")) at ∷ []
  spelling_type (long_integer at) = due_at (word (codes "LONG")) at ∷ due (word (codes "INTEGER")) ∷ []
  spelling_type (text at) = due_at (word (codes "STRING")) at ∷ []
  spelling_type (enumeration at ls) =
      due_at (sign (codes "{")) at ∷ (with_commas spelling_label ls ++ due (sign (codes "}")) ∷ [])
  spelling_type (array at n t) =
      open_level (due_at (word (codes "ARRAY")) at ∷ due_number n ∷ due (word (codes "OF")) ∷ spelling_type t)
  spelling_type (sequence at bound t) =
      open_level (due_at (word (codes "SEQUENCE")) at ∷ (if_written spelling_number bound ++ due (word (codes "OF")) ∷ spelling_type t))
  spelling_type («record» at gs) =
      open_level (due_at (word (codes "RECORD")) at ∷ due (sign (codes "[")) ∷ (spelling_groups gs ++ due (sign (codes "]")) ∷ []))
  spelling_type (choice at rest) =
      open_level (due_at (word (codes "CHOICE")) at ∷ due (word (codes "OF")) ∷ due (sign (codes "{")) ∷ (spelling_arms rest ++ due (sign (codes "}")) ∷ []))
  spelling_type (called at name) = spelling_type_name name

  pub spelling_groups : GroupTrees → List Due
  spelling_groups no_groups = []
  spelling_groups (more_groups ns t gs) =
      (spelling_names ns ++ due (sign (codes ":")) ∷ spelling_type t) ++ spelling_more_groups gs

  pub spelling_more_groups : GroupTrees → List Due
  spelling_more_groups no_groups = []
  spelling_more_groups (more_groups ns t gs) =
      comma ∷ ((spelling_names ns ++ due (sign (codes ":")) ∷ spelling_type t) ++ spelling_more_groups gs)

  pub spelling_arms : ArmTrees → List Due
  spelling_arms no_arms = []
  spelling_arms (more_arms n k t rest) =
      (due_name n ∷ due (sign (codes "(")) ∷ due_number k ∷ due (sign (codes ")")) ∷ due (sign (codes "=>")) ∷ spelling_type t)
      ++ spelling_more_arms rest

  pub spelling_more_arms : ArmTrees → List Due
  spelling_more_arms no_arms = []
  spelling_more_arms (more_arms n k t rest) =
      comma ∷ ((due_name n ∷ due (sign (codes "(")) ∷ due_number k ∷ due (sign (codes ")")) ∷ due (sign (codes "=>")) ∷ spelling_type t)
      ++ spelling_more_arms rest)

abbrev pub spelling_fields : FieldsText → List Due
spelling_fields f =
    due_at (sign (codes "[")) f.at ∷ (spelling_groups (group_trees f.groups) ++ due (sign (codes "]")) ∷ [])

abbrev pub spelling_results : FieldsText → List Due
spelling_results f = due (word (codes "RETURNS")) ∷ spelling_fields f

abbrev pub spelling_reports : List Named → List Due
spelling_reports ns =
    due (word (codes "REPORTS")) ∷ due (sign (codes "[")) ∷ (spelling_names ns ++ due (sign (codes "]")) ∷ [])

-- the number at the end of a declaration
abbrev pub spelling_numbered : Numeral → List Due
spelling_numbered n = due (sign (codes "=")) ∷ due_number n ∷ due (sign (codes ";")) ∷ []

abbrev pub spelling_declared : DeclaredTree → List Due
spelling_declared (a_type n t) =
    due_name n ∷ due (sign (codes ":")) ∷ due (word (codes "TYPE")) ∷ due (sign (codes "=")) ∷ (spelling_type t ++ due (sign (codes ";")) ∷ [])
spelling_declared (an_error e) =
    due_name e.name ∷ due (sign (codes ":")) ∷ due (word (codes "ERROR")) ∷ (if_written spelling_fields e.arguments ++ spelling_numbered e.number)
spelling_declared (a_procedure p) =
    due_name p.name ∷ due (sign (codes ":")) ∷ due (word (codes "PROCEDURE")) ∷ (if_written spelling_fields p.arguments
    ++ (if_written spelling_results p.results ++ (if_written spelling_reports p.reports ++ spelling_numbered p.number)))

abbrev pub spelling : InterfaceTree → List Due
spelling tree =
    (due_name tree.name ∷ due (sign (codes ":")) ∷ due (word (codes "PROGRAM")) ∷ due_number tree.number ∷ due (word (codes "VERSION"))
    ∷ due_number tree.version ∷ due (sign (codes "=")) ∷ due (word (codes "BEGIN")) ∷ [])
    ++ (each spelling_declared tree.declared ++ due (word (codes "END")) ∷ due (sign (codes ".")) ∷ [])

-- each of the items is such a one
abbrev pub IsEach : {A : Type 0} → (A → Type 0) → List A → Type 0
IsEach P [] = Unit {0}
IsEach P (x ∷ xs) = P x × IsEach P xs

-- so is each, and there is at least one
abbrev pub IsListed : {A : Type 0} → (A → Type 0) → List A → Type 0
IsListed P [] = ⊥
IsListed P (x ∷ xs) = P x × IsEach P xs

abbrev pub IfWritten : {A : Type 0} → (A → Type 0) → Option A → Type 0
IfWritten P None = Unit {0}
IfWritten P (Some x) = P x

-- a word that isn't reserved
abbrev pub IsName : Named → Type 0
IsName n = IsSpelling Word n.name × (is_reserved n.name ≡ false)

abbrev pub IsNumeral : Numeral → Type 0
IsNumeral n = n.value ≤ greatest_number

-- what may stand between two quotes
abbrev pub IsText : List ℕ → Type 0
IsText content = IsSpelling Quoted (in_quotes content)

abbrev pub IsLabel : LabelText → Type 0
IsLabel l = IsName l.name × IsNumeral l.number

-- the name's first place is that of its type
abbrev pub IsTypeNameAt : ℕ → Option Named → Named → Type 0
IsTypeNameAt at None n = IsName n × (at ≡ n.at)
IsTypeNameAt at (Some m) n = IsName m × IsName n × (at ≡ m.at)

abbrev mutual
  pub IsType : TypeTree → Type 0
  IsType (boolean at) = Unit {0}
  IsType (cardinal at) = Unit {0}
  IsType (long_cardinal at) = Unit {0}
  IsType (integer at) = Unit {0}
  IsType (long_integer at) = Unit {0}
  IsType (text at) = Unit {0}
  IsType (enumeration at ls) = IsListed IsLabel ls
  IsType (array at n t) = IsNumeral n × IsType t
  IsType (sequence at bound t) = IfWritten IsNumeral bound × IsType t
  IsType («record» at gs) = AreGroups gs
  IsType (choice at no_arms) = ⊥
  IsType (choice at (more_arms n k t rest)) = IsName n × IsNumeral k × IsType t × AreArms rest
  IsType (called at name) = IsTypeNameAt at name.«module» name.name

  pub AreGroups : GroupTrees → Type 0
  AreGroups no_groups = Unit {0}
  AreGroups (more_groups ns t gs) = IsListed IsName ns × IsType t × AreGroups gs

  pub AreArms : ArmTrees → Type 0
  AreArms no_arms = Unit {0}
  AreArms (more_arms n k t rest) = IsName n × IsNumeral k × IsType t × AreArms rest

-- how many ARRAY, SEQUENCE, RECORD and CHOICE stand in one another at most
abbrev mutual
  pub levels : TypeTree → ℕ
  levels (boolean at) = 0
  levels (cardinal at) = 0
  levels (long_cardinal at) = 0
  levels (integer at) = 0
  levels (long_integer at) = 0
  levels (text at) = 0
  levels (enumeration at ls) = 0
  levels (array at n t) = 1 + levels t
  levels (sequence at bound t) = 1 + levels t
  levels («record» at gs) = 1 + group_levels gs
  levels (choice at rest) = 1 + arm_levels rest
  levels (called at name) = 0

  pub group_levels : GroupTrees → ℕ
  group_levels no_groups = 0
  group_levels (more_groups ns t gs) = max (levels t) (group_levels gs)

  pub arm_levels : ArmTrees → ℕ
  arm_levels no_arms = 0
  arm_levels (more_arms n k t rest) = max (levels t) (arm_levels rest)

abbrev pub AreFields : FieldsText → Type 0
AreFields f = AreGroups (group_trees f.groups)

abbrev pub field_levels : Option FieldsText → ℕ
field_levels None = 0
field_levels (Some f) = group_levels (group_trees f.groups)

abbrev pub IsDeclared : DeclaredTree → Type 0
IsDeclared (a_type n t) = IsName n × IsType t
IsDeclared (an_error e) = IsName e.name × IfWritten AreFields e.arguments × IsNumeral e.number
IsDeclared (a_procedure p) =
    IsName p.name × IfWritten AreFields p.arguments × IfWritten AreFields p.results
    × IfWritten (IsListed IsName) p.reports × IsNumeral p.number

abbrev pub declared_levels : DeclaredTree → ℕ
declared_levels (a_type n t) = levels t
declared_levels (an_error e) = field_levels e.arguments
declared_levels (a_procedure p) = max (field_levels p.arguments) (field_levels p.results)

-- the names of a tree are names, its numbers are not too great, and its places agree
abbrev pub IsGrammatical : InterfaceTree → Type 0
IsGrammatical tree = IsName tree.name × IsNumeral tree.number × IsNumeral tree.version × IsEach IsDeclared tree.declared

-- no type has more levels than this
abbrev pub IsWithin : ℕ → InterfaceTree → Type 0
IsWithin limit tree = IsEach (λ d. declared_levels d ≤ limit) tree.declared

-- the most levels that a type may have
abbrev pub most_levels : ℕ
most_levels = 64

-- the tokens are this interface
pub record IsInterface (ts : List Placed) (tree : InterfaceTree) : Type 0 where
  pub grammatical : IsGrammatical tree
  pub spelled : AreDue (spelling tree) ts

-- the tokens can go on to an interface
abbrev pub Begins : List Placed → Type 0
Begins ts = (tree : InterfaceTree) × (more : List Placed) × IsInterface (ts ++ more) tree

-- they can go on to one that has no more levels than a type may have
abbrev pub BeginsWithin : List Placed → Type 0
BeginsWithin ts = (tree : InterfaceTree) × (more : List Placed) × IsInterface (ts ++ more) tree × IsWithin most_levels tree
