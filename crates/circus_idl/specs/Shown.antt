-- The tokens that show an interface.
use Rattle.std.specs.Prelude.{ℕ, Bool, ◌==◌, List, [], ◌∷◌, ◌++◌, cond, codes}
use Rattle.std.specs.List.{flat_map}
use Rattle.circus_text.specs.Token.{Lexeme}
use Rattle.circus_syntax.specs.Placed.{word, sign}
use Rattle.circus_value.specs.declared.shape.Label.{Label}
use Rattle.circus_value.specs.ShapeTree.{ShapeTree, FieldTrees, ArmTrees, FieldTree, ArmTree, field_trees, arm_trees, boolean, cardinal, long_cardinal, integer, long_integer, text, enumeration, array, sequence, «record», choice, no_fields, more_fields, no_arms, more_arms}
use Rattle.circus_value.specs.ShapeOf.{tree_of}
use Rattle.circus_idl.specs.declared.interface.DeclaredType.{DeclaredType}
use Rattle.circus_idl.specs.declared.interface.DeclaredError.{DeclaredError}
use Rattle.circus_idl.specs.declared.interface.Procedure.{Procedure}
use Rattle.circus_idl.specs.declared.interface.Interface.{Interface}
use Rattle.circus_idl.specs.Lexemes.{number}

-- what stands between brackets of this kind
abbrev pub bracketed_lexemes : List ℕ → List Lexeme → List ℕ → List Lexeme
bracketed_lexemes opening inside closing = sign opening ∷ inside ++ sign closing ∷ []

-- name ( number )
abbrev pub label_lexemes : List ℕ → ℕ → List Lexeme
label_lexemes name n = word name ∷ sign (codes "(") ∷ number n ∷ sign (codes ")") ∷ []

-- labels that follow another
abbrev pub later_labels : List Label → List Lexeme
later_labels labels = flat_map (λ l. sign (codes ",") ∷ label_lexemes l.name l.number) labels

-- labels with a comma between two
abbrev pub labels_lexemes : List Label → List Lexeme
labels_lexemes [] = []
labels_lexemes (l ∷ labels) = label_lexemes l.name l.number ++ later_labels labels

-- number OF type
abbrev pub items_lexemes : ℕ → List Lexeme → List Lexeme
items_lexemes n inner = number n ∷ word (codes "OF") ∷ inner

-- name : type
abbrev pub field_lexemes : List ℕ → List Lexeme → List Lexeme
field_lexemes name inner = word name ∷ sign (codes ":") ∷ inner

-- label => type
abbrev pub arm_lexemes : List ℕ → ℕ → List Lexeme → List Lexeme
arm_lexemes name n inner = label_lexemes name n ++ sign (codes "=>") ∷ inner

abbrev mutual
  -- a type
  pub type_lexemes : ShapeTree → List Lexeme
  type_lexemes boolean = word (codes "BOOLEAN") ∷ []
  type_lexemes cardinal = word (codes "CARDINAL") ∷ []
  type_lexemes long_cardinal = word (codes "LONG") ∷ word (codes "CARDINAL") ∷ []
  type_lexemes integer = word (codes "INTEGER") ∷ []
  type_lexemes long_integer = word (codes "LONG") ∷ word (codes "INTEGER") ∷ []
  type_lexemes text = word (codes "STRING") ∷ []
  type_lexemes (enumeration labels) = bracketed_lexemes (codes "{") (labels_lexemes labels) (codes "}")
  type_lexemes (array n s) = word (codes "ARRAY") ∷ items_lexemes n (type_lexemes s)
  type_lexemes (sequence n s) = word (codes "SEQUENCE") ∷ items_lexemes n (type_lexemes s)
  type_lexemes («record» fs) = word (codes "RECORD") ∷ bracketed_lexemes (codes "[") (fields_inside fs) (codes "]")
  type_lexemes (choice arms) =
      word (codes "CHOICE") ∷ word (codes "OF") ∷ bracketed_lexemes (codes "{") (arms_inside arms) (codes "}")

  -- fields with a comma between two
  pub fields_inside : FieldTrees → List Lexeme
  fields_inside no_fields = []
  fields_inside (more_fields name s fs) = field_lexemes name (type_lexemes s) ++ later_fields fs

  -- fields that follow another
  pub later_fields : FieldTrees → List Lexeme
  later_fields no_fields = []
  later_fields (more_fields name s fs) = sign (codes ",") ∷ field_lexemes name (type_lexemes s) ++ later_fields fs

  -- arms with a comma between two
  pub arms_inside : ArmTrees → List Lexeme
  arms_inside no_arms = []
  arms_inside (more_arms name n s arms) = arm_lexemes name n (type_lexemes s) ++ later_arms arms

  -- arms that follow another
  pub later_arms : ArmTrees → List Lexeme
  later_arms no_arms = []
  later_arms (more_arms name n s arms) = sign (codes ",") ∷ arm_lexemes name n (type_lexemes s) ++ later_arms arms

-- fields in brackets
abbrev pub fields_lexemes : List FieldTree → List Lexeme
fields_lexemes fields = bracketed_lexemes (codes "[") (fields_inside (field_trees fields)) (codes "]")

-- arms in braces
abbrev pub arms_lexemes : List ArmTree → List Lexeme
arms_lexemes arms = bracketed_lexemes (codes "{") (arms_inside (arm_trees arms)) (codes "}")

-- fields in brackets, and nothing where there are none
abbrev pub optional_fields : List FieldTree → List Lexeme
optional_fields [] = []
optional_fields (f ∷ fs) = fields_lexemes (f ∷ fs)

-- RETURNS and fields, and nothing where there are none
abbrev pub results_lexemes : List FieldTree → List Lexeme
results_lexemes [] = []
results_lexemes (f ∷ fs) = word (codes "RETURNS") ∷ fields_lexemes (f ∷ fs)

-- the error has this number
abbrev pub has_number : ℕ → DeclaredError → Bool
has_number n e = e.number == n

-- the name of the first error of this number
abbrev pub error_name : List DeclaredError → ℕ → List ℕ
error_name [] n = []
error_name (e ∷ errors) n = cond (has_number n e) e.name (error_name errors n)

-- names of errors that follow another
abbrev pub later_names : List DeclaredError → List ℕ → List Lexeme
later_names errors numbers = flat_map (λ n. sign (codes ",") ∷ word (error_name errors n) ∷ []) numbers

-- names of errors with a comma between two
abbrev pub names_inside : List DeclaredError → List ℕ → List Lexeme
names_inside errors [] = []
names_inside errors (n ∷ numbers) = word (error_name errors n) ∷ later_names errors numbers

-- the names of errors in brackets
abbrev pub names_lexemes : List DeclaredError → List ℕ → List Lexeme
names_lexemes errors numbers = bracketed_lexemes (codes "[") (names_inside errors numbers) (codes "]")

-- REPORTS and the names of the errors, and nothing where there are none
abbrev pub reports_lexemes : List DeclaredError → List ℕ → List Lexeme
reports_lexemes errors [] = []
reports_lexemes errors (n ∷ numbers) = word (codes "REPORTS") ∷ names_lexemes errors (n ∷ numbers)

-- = number ;
abbrev pub number_lexemes : ℕ → List Lexeme
number_lexemes n = sign (codes "=") ∷ number n ∷ sign (codes ";") ∷ []

-- name : kind of what is declared
abbrev pub head_lexemes : List ℕ → List ℕ → List Lexeme
head_lexemes name kind = word name ∷ sign (codes ":") ∷ word kind ∷ []

abbrev pub declared_type : DeclaredType → List Lexeme
declared_type t =
    head_lexemes t.name (codes "TYPE") ++ sign (codes "=") ∷ type_lexemes (tree_of t.shape) ++ sign (codes ";") ∷ []

abbrev pub declared_error : DeclaredError → List Lexeme
declared_error e = head_lexemes e.name (codes "ERROR") ++ optional_fields e.arguments ++ number_lexemes e.number

-- what a procedure takes, gives and reports
unfoldable pub signature_lexemes : List DeclaredError → Procedure → List Lexeme
signature_lexemes errors p =
    optional_fields p.arguments ++ results_lexemes p.results ++ reports_lexemes errors p.reports

abbrev pub declared_procedure : List DeclaredError → Procedure → List Lexeme
declared_procedure errors p =
    head_lexemes p.name (codes "PROCEDURE") ++ signature_lexemes errors p ++ number_lexemes p.number

-- what an interface declares: types, errors, procedures
abbrev pub declared_lexemes : Interface → List Lexeme
declared_lexemes i =
    flat_map declared_type i.types ++ flat_map declared_error i.errors
    ++ flat_map (declared_procedure i.errors) i.procedures

-- what stands behind its name up to what it declares
abbrev pub heading : Interface → List Lexeme
heading i =
    sign (codes ":") ∷ word (codes "PROGRAM") ∷ number i.number ∷ word (codes "VERSION") ∷ number i.version
    ∷ sign (codes "=") ∷ word (codes "BEGIN") ∷ []

-- an interface
abbrev pub lexemes : Interface → List Lexeme
lexemes i = word i.name ∷ heading i ++ declared_lexemes i ++ word (codes "END") ∷ sign (codes ".") ∷ []
