-- The productions of the grammar, as they read.
use Rattle.std.specs.Prelude.{ℕ, Bool, true, false, if◌then◌else◌, List, [], ◌∷◌, Option, Some, None, ◌⊎◌, codes}
use Rattle.std.proofs.Common.{zero, suc, inl, inr}
use Rattle.circus_text.specs.Form.{number_value}
use Rattle.circus_text.specs.Token.{Lexeme, content_of}
use Rattle.circus_syntax.specs.declared.named.Named.{Named}
use Rattle.circus_syntax.specs.declared.named.Numeral.{Numeral}
use Rattle.circus_syntax.specs.declared.named.TypeName.{TypeName}
use Rattle.circus_syntax.specs.declared.named.LabelText.{LabelText}
use Rattle.circus_syntax.specs.declared.interface_text.FieldsText.{FieldsText}
use Rattle.circus_syntax.specs.declared.stopping.Stop.{Stop}
use Rattle.circus_syntax.specs.declared.stopping.StopCause.TheVariants.{TooDeep}
use Rattle.circus_syntax.specs.declared.reading.TypeStart.{TypeStart}
use Rattle.circus_syntax.specs.declared.reading.TypeStart.TheVariants as begins
use Rattle.circus_syntax.specs.TypeTree.{TypeTree, GroupTree, ArmTree, boolean, cardinal, long_cardinal, integer, long_integer, text, enumeration, array, sequence, «record», choice, called, group_trees, arm_trees}
use Rattle.circus_syntax.specs.InterfaceTree.{DeclaredTree, a_type, an_error, a_procedure, InterfaceTree}
use Rattle.circus_syntax.specs.Placed.{Placed, word, sign, is_lexeme, is_name, is_number, is_text}
use Rattle.circus_syntax.specs.Reader.{Reader, token, nothing, both, map_read, choose_by, either, optional, repeat_while, mark_stops, stop_reading}

-- this word or sign
unfoldable pub expect_token : Lexeme → Reader → Unit {0} × Reader
expect_token l = token (is_lexeme l) (λ t. tt) (λ at. tt)

-- this word or sign, with its place
unfoldable pub fixed_at : Lexeme → Reader → ℕ × Reader
fixed_at l = token (is_lexeme l) (λ t. t.start) (λ at. at)

abbrev pub named_of : Placed → Named
named_of t = record { name = t.bytes; at = t.start }

abbrev pub numeral_of : Placed → Numeral
numeral_of t = record { value = number_value t.bytes; at = t.start }

-- what fills in for a name, a number and a type
abbrev pub filled_name : ℕ → Named
filled_name at = record { name = codes "x"; at = at }

abbrev pub filled_numeral : ℕ → Numeral
filled_numeral at = record { value = 0; at = at }

unfoldable pub name : Reader → Named × Reader
name = token is_name named_of filled_name

unfoldable pub number : Reader → Numeral × Reader
number = token is_number numeral_of filled_numeral

-- a string's content and its place
unfoldable pub quoted_text : Reader → (List ℕ × ℕ) × Reader
quoted_text = token is_text (λ t. (content_of t.bytes, t.start)) (λ at. ([], at))

unfoldable pub number_if_any : Reader → Option Numeral × Reader
number_if_any = optional is_number number

-- a sign and what stands behind it
abbrev pub behind : {A : Type 0} → Lexeme → (Reader → A × Reader) → Reader → A × Reader
behind l p = map_read (λ x. x.1) (both (expect_token l) p)

-- items with commas between them
abbrev pub comma_list : {A : Type 0} → (Reader → A × Reader) → Reader → List A × Reader
comma_list item =
    map_read (λ x. x.0 ∷ x.1) (both item (repeat_while (is_lexeme (sign (codes ","))) (behind (sign (codes ",")) item)))

unfoldable pub names : Reader → List Named × Reader
names = comma_list name

abbrev pub label_of : Named × (Unit {0} × (Numeral × Unit {0})) → LabelText
label_of x = record { name = x.0; number = x.1.1.0 }

unfoldable pub label : Reader → LabelText × Reader
label = map_read label_of (both name (both (expect_token (sign (codes "("))) (both number (expect_token (sign (codes ")"))))))

unfoldable pub labels : Reader → List LabelText × Reader
labels = comma_list label

abbrev pub type_name : Named → Option Named → TypeName
type_name first None = record { «module» = None; name = first }
type_name first (Some second) = record { «module» = Some first; name = second }

unfoldable pub name_of_type : Reader → TypeName × Reader
name_of_type =
    map_read (λ x. type_name x.0 x.1) (both name (optional (is_lexeme (sign (codes "."))) (behind (sign (codes ".")) name)))

-- what a type begins with
abbrev pub type_start : Option Placed → TypeStart
type_start None = begins.Other
type_start (Some t) =
    if is_lexeme (word (codes "CARDINAL")) t then begins.Cardinal
    else (if is_lexeme (word (codes "INTEGER")) t then begins.Integer
    else (if is_lexeme (word (codes "LONG")) t then begins.Long
    else (if is_lexeme (word (codes "STRING")) t then begins.Text
    else (if is_lexeme (sign (codes "{")) t then begins.Labels
    else (if is_lexeme (word (codes "ARRAY")) t then begins.Array
    else (if is_lexeme (word (codes "SEQUENCE")) t then begins.Sequence
    else (if is_lexeme (word (codes "RECORD")) t then begins.Record
    else (if is_lexeme (word (codes "CHOICE")) t then begins.Choice
    else (if is_name t then begins.Name
    else begins.Other)))))))))

unfoldable pub start_of_type : Option Placed → TypeStart
start_of_type = type_start

-- LONG CARDINAL or LONG INTEGER
abbrev pub long_of : ℕ × Bool → TypeTree
long_of x = if x.1 then long_integer x.0 else long_cardinal x.0

unfoldable pub is_long_integer : Reader → Bool × Reader
is_long_integer =
    either (is_lexeme (word (codes "INTEGER"))) (map_read (λ x. true) (expect_token (word (codes "INTEGER"))))
    (map_read (λ x. false) (expect_token (word (codes "CARDINAL"))))

unfoldable pub long : Reader → TypeTree × Reader
long = map_read long_of (both (fixed_at (word (codes "LONG"))) is_long_integer)

-- the place of the first of its names
abbrev pub type_name_place : Option Named → Named → ℕ
type_name_place None n = n.at
type_name_place (Some m) n = m.at

abbrev pub called_of : TypeName → TypeTree
called_of name = called (type_name_place name.«module» name.name) name

-- a type that has no other in it
unfoldable pub simple_type : TypeStart → Reader → TypeTree × Reader
simple_type begins.Cardinal = map_read cardinal (fixed_at (word (codes "CARDINAL")))
simple_type begins.Integer = map_read integer (fixed_at (word (codes "INTEGER")))
simple_type begins.Long = long
simple_type begins.Text = map_read text (fixed_at (word (codes "STRING")))
simple_type begins.Labels =
    map_read (λ x. enumeration x.0 x.1.0) (both (fixed_at (sign (codes "{"))) (both labels (expect_token (sign (codes "}")))))
simple_type begins.Name = map_read called_of name_of_type
simple_type _ = map_read boolean (fixed_at (word (codes "BOOLEAN")))

-- a type that would be a level too many
unfoldable pub too_deep : Reader → TypeTree × Reader
too_deep = stop_reading TooDeep boolean

-- names and the type that they share
abbrev pub group : (Reader → TypeTree × Reader) → Reader → GroupTree × Reader
group inner = map_read (λ x. record { names = x.0; shape = x.1.1 }) (both names (both (expect_token (sign (codes ":"))) inner))

abbrev pub groups_with : (Reader → TypeTree × Reader) → Reader → List GroupTree × Reader
groups_with inner = either (is_lexeme (sign (codes "]"))) (nothing []) (comma_list (group inner))

abbrev pub arm_of_parts : Named × (Unit {0} × (Numeral × (Unit {0} × (Unit {0} × TypeTree)))) → ArmTree
arm_of_parts x = record { name = x.0; number = x.1.1.0; shape = x.1.1.1.1.1 }

abbrev pub arm : (Reader → TypeTree × Reader) → Reader → ArmTree × Reader
arm inner =
    map_read arm_of_parts
    (both name (both (expect_token (sign (codes "("))) (both number (both (expect_token (sign (codes ")"))) (both (expect_token (sign (codes "=>"))) inner)))))

-- a type that has others in it
abbrev pub array_with : (Reader → TypeTree × Reader) → Reader → TypeTree × Reader
array_with inner =
    map_read (λ x. array x.0 x.1.0 x.1.1.1)
    (both (fixed_at (word (codes "ARRAY"))) (both number (both (expect_token (word (codes "OF"))) inner)))

abbrev pub sequence_with : (Reader → TypeTree × Reader) → Reader → TypeTree × Reader
sequence_with inner =
    map_read (λ x. sequence x.0 x.1.0 x.1.1.1)
    (both (fixed_at (word (codes "SEQUENCE"))) (both (optional is_number number) (both (expect_token (word (codes "OF"))) inner)))

abbrev pub record_with : (Reader → TypeTree × Reader) → Reader → TypeTree × Reader
record_with inner =
    map_read (λ x. «record» x.0 (group_trees x.1.1.0))
    (both (fixed_at (word (codes "RECORD"))) (both (expect_token (sign (codes "["))) (both (groups_with inner) (expect_token (sign (codes "]"))))))

abbrev pub choice_with : (Reader → TypeTree × Reader) → Reader → TypeTree × Reader
choice_with inner =
    map_read (λ x. choice x.0 (arm_trees x.1.1.1.0))
    (both (fixed_at (word (codes "CHOICE"))) (both (expect_token (word (codes "OF"))) (both (expect_token (sign (codes "{"))) (both (comma_list (arm inner)) (expect_token (sign (codes "}")))))))

-- a type, its parts read by inner
abbrev pub type_with : (Reader → TypeTree × Reader) → TypeStart → Reader → TypeTree × Reader
type_with inner begins.Array = array_with inner
type_with inner begins.Sequence = sequence_with inner
type_with inner begins.Record = record_with inner
type_with inner begins.Choice = choice_with inner
type_with inner other = simple_type other

-- a type where no level is left
abbrev pub flat_type : TypeStart → Reader → TypeTree × Reader
flat_type begins.Array = too_deep
flat_type begins.Sequence = too_deep
flat_type begins.Record = too_deep
flat_type begins.Choice = too_deep
flat_type other = simple_type other

abbrev pub stop_in_type : ℕ → Stop → Stop
stop_in_type at s = record { place = s.place; cause = s.cause; within = Some at; list = s.list }

-- a type of at most so many levels
unfoldable pub type : ℕ → Reader → TypeTree × Reader
type zero = mark_stops stop_in_type (choose_by start_of_type flat_type)
type (suc levels) = mark_stops stop_in_type (choose_by start_of_type (type_with (type levels)))

-- what begins a type with others in it
abbrev pub nests : TypeStart → Bool
nests begins.Array = true
nests begins.Sequence = true
nests begins.Record = true
nests begins.Choice = true
nests _ = false

-- the ways to read a type of at most so many levels
abbrev pub type_within : ℕ → TypeStart → Reader → TypeTree × Reader
type_within zero = flat_type
type_within (suc levels) = type_with (type levels)

-- a type, but for the mark of its stop
unfoldable pub unmarked_type : ℕ → Reader → TypeTree × Reader
unmarked_type levels = choose_by start_of_type (type_within levels)

-- parts of types, their types with at most so many levels
unfoldable pub array_type : ℕ → Reader → TypeTree × Reader
array_type levels = array_with (type levels)

unfoldable pub sequence_type : ℕ → Reader → TypeTree × Reader
sequence_type levels = sequence_with (type levels)

unfoldable pub record_type : ℕ → Reader → TypeTree × Reader
record_type levels = record_with (type levels)

unfoldable pub choice_type : ℕ → Reader → TypeTree × Reader
choice_type levels = choice_with (type levels)

unfoldable pub group_of_type : ℕ → Reader → GroupTree × Reader
group_of_type levels = group (type levels)

unfoldable pub arm_of_type : ℕ → Reader → ArmTree × Reader
arm_of_type levels = arm (type levels)

unfoldable pub arms : ℕ → Reader → List ArmTree × Reader
arms levels = comma_list (arm_of_type levels)

unfoldable pub groups : ℕ → Reader → List GroupTree × Reader
groups levels = groups_with (type levels)

abbrev pub stop_in_list : ℕ → Stop → Stop
stop_in_list at s = record { place = s.place; cause = s.cause; within = s.within; list = Some at }

-- a list of fields
unfoldable pub fields : ℕ → Reader → FieldsText × Reader
fields levels =
    mark_stops stop_in_list
    (map_read (λ x. record { at = x.0; groups = x.1.0 })
    (both (fixed_at (sign (codes "["))) (both (groups levels) (expect_token (sign (codes "]"))))))

-- the arguments, the results and the errors, where they are written
unfoldable pub arguments : ℕ → Reader → Option FieldsText × Reader
arguments levels = optional (is_lexeme (sign (codes "["))) (fields levels)

unfoldable pub results : ℕ → Reader → Option FieldsText × Reader
results levels = optional (is_lexeme (word (codes "RETURNS"))) (behind (word (codes "RETURNS")) (fields levels))

unfoldable pub error_names : Reader → List Named × Reader
error_names =
    map_read (λ x. x.1.1.0)
    (both (expect_token (word (codes "REPORTS"))) (both (expect_token (sign (codes "["))) (both names (expect_token (sign (codes "]"))))))

unfoldable pub reports : Reader → Option (List Named) × Reader
reports = optional (is_lexeme (word (codes "REPORTS"))) error_names

-- the number at the end of a declaration
unfoldable pub number_at_end : Reader → Numeral × Reader
number_at_end =
    map_read (λ x. x.1.0) (both (expect_token (sign (codes "="))) (both number (expect_token (sign (codes ";")))))

-- what stands behind the name and the colon of a declaration
unfoldable pub a_type_behind : ℕ → Reader → TypeTree × Reader
a_type_behind levels =
    map_read (λ x. x.1.1.0)
    (both (expect_token (word (codes "TYPE"))) (both (expect_token (sign (codes "="))) (both (type levels) (expect_token (sign (codes ";"))))))

unfoldable pub an_error_behind : ℕ → Reader → (Option FieldsText × Numeral) × Reader
an_error_behind levels = map_read (λ x. x.1) (both (expect_token (word (codes "ERROR"))) (both (arguments levels) number_at_end))

unfoldable pub a_procedure_behind : ℕ → Reader → (Option FieldsText × (Option FieldsText × (Option (List Named) × Numeral))) × Reader
a_procedure_behind levels =
    map_read (λ x. x.1)
    (both (expect_token (word (codes "PROCEDURE"))) (both (arguments levels) (both (results levels) (both reports number_at_end))))

-- what is declared: a type, an error or a procedure
abbrev pub Parts : Type 0
Parts = TypeTree ⊎ ((Option FieldsText × Numeral) ⊎ (Option FieldsText × (Option FieldsText × (Option (List Named) × Numeral))))

abbrev pub declared_of_parts : Named → Parts → DeclaredTree
declared_of_parts name (inl t) = a_type name t
declared_of_parts name (inr (inl x)) = an_error (record { name = name; arguments = x.0; number = x.1 })
declared_of_parts name (inr (inr x)) =
    a_procedure (record { name = name; arguments = x.0; results = x.1.0; reports = x.1.1.0; number = x.1.1.1 })

-- which of them the next token begins
pub data Declaring : Type 0 where
  of_type : Declaring
  of_error : Declaring
  of_procedure : Declaring

abbrev pub declared_start : Option Placed → Declaring
declared_start None = of_type
declared_start (Some t) =
    if is_lexeme (word (codes "ERROR")) t then of_error
    else (if is_lexeme (word (codes "PROCEDURE")) t then of_procedure
    else of_type)

abbrev pub parts_behind : ℕ → Declaring → Reader → Parts × Reader
parts_behind levels of_type = map_read (λ t. inl t) (a_type_behind levels)
parts_behind levels of_error = map_read (λ x. inr (inl x)) (an_error_behind levels)
parts_behind levels of_procedure = map_read (λ x. inr (inr x)) (a_procedure_behind levels)

unfoldable pub one_declaration : ℕ → Reader → DeclaredTree × Reader
one_declaration levels =
    map_read (λ x. declared_of_parts x.0 x.1.1)
    (both name (both (expect_token (sign (codes ":"))) (choose_by declared_start (parts_behind levels))))

-- the name and the numbers of an interface
unfoldable pub heading : Reader → (Named × (Numeral × Numeral)) × Reader
heading =
    map_read (λ x. (x.0, (x.1.1.1.0, x.1.1.1.1.1.0)))
    (both name (both (expect_token (sign (codes ":"))) (both (expect_token (word (codes "PROGRAM"))) (both number
    (both (expect_token (word (codes "VERSION"))) (both number (both (expect_token (sign (codes "="))) (expect_token (word (codes "BEGIN"))))))))))

unfoldable pub declarations : ℕ → Reader → List DeclaredTree × Reader
declarations levels = repeat_while is_name (one_declaration levels)

abbrev pub interface_of_parts : (Named × (Numeral × Numeral)) × (List DeclaredTree × (Unit {0} × Unit {0})) → InterfaceTree
interface_of_parts x = record { name = x.0.0; number = x.0.1.0; version = x.0.1.1; declared = x.1.0 }

unfoldable pub interface : ℕ → Reader → InterfaceTree × Reader
interface levels =
    map_read interface_of_parts
    (both heading (both (declarations levels) (both (expect_token (word (codes "END"))) (expect_token (sign (codes "."))))))
