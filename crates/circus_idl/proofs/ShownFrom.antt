-- The rest of a list whose front is shown.
use Rattle.std.proofs.Common.{ℕ, List, zero, suc}
use Rattle.circus_text.specs.Token.{Lexeme}
use Rattle.circus_value.specs.ShapeTree.{FieldTrees, ArmTrees}
use Rattle.circus_idl.specs.Shown.{fields_inside, later_fields, arms_inside, later_arms, names_inside, later_names}
use Rattle.circus_idl.specs.declared.interface.DeclaredError.{DeclaredError}

-- the fields from a place on
abbrev pub fields_from : ℕ → FieldTrees → List Lexeme
fields_from zero fs = fields_inside fs
fields_from (suc _) fs = later_fields fs

-- the arms from a place on
abbrev pub arms_from : ℕ → ArmTrees → List Lexeme
arms_from zero arms = arms_inside arms
arms_from (suc _) arms = later_arms arms

-- the names of errors from a place on
abbrev pub names_from : ℕ → List DeclaredError → List ℕ → List Lexeme
names_from zero errors numbers = names_inside errors numbers
names_from (suc _) errors numbers = later_names errors numbers
