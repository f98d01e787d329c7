-- The text of stubs. Each word of an operation stands behind a space.
use Rattle.std.specs.Prelude.{ℕ, List, [], ◌∷◌, ◌++◌, codes}
use Rattle.std.specs.List.{flat_map}
use Rattle.std.specs.Fmt.{decimal}
use Rattle.circus_value.specs.ThreadText.{numbers_behind}
use Rattle.circus_value.specs.ShapeTree.{ShapeTree, FieldTrees, ArmTrees, boolean, cardinal, long_cardinal, integer, long_integer, text, enumeration, array, sequence, «record», choice, no_fields, more_fields, no_arms, more_arms, field_trees}
use Rattle.circus_idl.specs.declared.interface.Interface.{Interface}
use Rattle.circus_idl.specs.declared.interface.Procedure.{Procedure}
use Rattle.circus_idl.specs.declared.interface.DeclaredError.{DeclaredError}
use Rattle.circus_stub.specs.Flat.{label_numbers, field_count, arm_count}

-- a number, and words in parentheses
abbrev pub part_words : ℕ → List ℕ → List ℕ
part_words n words = codes " " ++ decimal n ++ codes " (" ++ words ++ codes " )"

abbrev mutual
  -- the words of a shape's operations
  pub shape_words : ShapeTree → List ℕ
  shape_words boolean = codes " boolean"
  shape_words cardinal = codes " cardinal"
  shape_words long_cardinal = codes " long-cardinal"
  shape_words integer = codes " integer"
  shape_words long_integer = codes " long-integer"
  shape_words text = codes " string"
  shape_words (enumeration labels) = codes " enumeration (" ++ numbers_behind 32 (label_numbers labels) ++ codes " )"
  shape_words (array len element) = codes " array" ++ part_words len (shape_words element)
  shape_words (sequence bound element) = codes " sequence" ++ part_words bound (shape_words element)
  shape_words («record» fields) = codes " record" ++ part_words (field_count fields) (field_words fields)
  shape_words (choice arms) = codes " choice" ++ part_words (arm_count arms) (arm_words arms)

  -- of fields, one after another
  pub field_words : FieldTrees → List ℕ
  field_words no_fields = []
  field_words (more_fields _ shape fields) = shape_words shape ++ field_words fields

  -- of arms, one after another
  pub arm_words : ArmTrees → List ℕ
  arm_words no_arms = []
  arm_words (more_arms _ number shape arms) = codes " arm" ++ part_words number (shape_words shape) ++ arm_words arms

-- an interface's name, number and version
abbrev pub interface_line : Interface → List ℕ
interface_line i =
    codes "interface " ++ i.name ++ codes " " ++ decimal i.number ++ codes " version " ++ decimal i.version ++ codes "\n"

-- an error and its values
abbrev pub error_line : DeclaredError → List ℕ
error_line e = codes "error " ++ e.name ++ codes " " ++ decimal e.number ++ field_words (field_trees e.arguments) ++ codes "\n"

-- the errors that are reported, where there are any
abbrev pub reports_line : List ℕ → List ℕ
reports_line [] = []
reports_line (n ∷ numbers) = codes "reports" ++ numbers_behind 32 (n ∷ numbers) ++ codes "\n"

-- a procedure, its call, its return and what it reports
abbrev pub procedure_lines : Procedure → List ℕ
procedure_lines p =
    codes "procedure " ++ p.name ++ codes " " ++ decimal p.number ++ codes "\n"
    ++ (codes "call" ++ field_words (field_trees p.arguments) ++ codes "\n")
    ++ (codes "return" ++ field_words (field_trees p.results) ++ codes "\n")
    ++ reports_line p.reports

-- an interface, its errors and its procedures
abbrev pub stubs_text : Interface → List ℕ
stubs_text i =
    interface_line i ++ flat_map error_line i.errors ++ flat_map procedure_lines i.procedures
