-- The faults of modules, every one at the place where it stands.
use Rattle.std.specs.Prelude.{ℕ, suc, Bool, true, false, ◌&&◌, ◌==◌, not, nat_lt, cond, bytes_eq, List, [], ◌∷◌, ◌++◌, map, take, Option, Some, None, is_none, is_some, option_map}
use Rattle.std.specs.List.{list_any}
use Rattle.circus_value.specs.ShapeTree.{ShapeTree, FieldTree, FieldTrees, field_trees, no_fields, more_fields}
use Rattle.circus_syntax.specs.declared.named.Named.{Named}
use Rattle.circus_syntax.specs.declared.named.TypeName.{TypeName}
use Rattle.circus_fault.specs.Least.{faults_if, is_clean}
use Rattle.circus_statement.specs.StatementTree.{StatementTree, statement_trees}
use Rattle.circus_type.specs.Inside.{no_name, also_name, repeated_name, inside}
use Rattle.circus_type.specs.Limits.{most_zero_bytes}
use Rattle.circus_type.specs.Meaning.{shape_of_type}
use Rattle.circus_type.specs.Scale.{Scale, written_out}
use Rattle.circus_type.specs.Together.{zero_size_of}
use Rattle.circus_type.specs.Whole.{whole_faults}
use Rattle.circus_resolve.specs.declared.cause.CheckCause.TheVariants.{Unknown, Repeated, TooLarge, Unfinished, Forward, Missing, TooMany}
use Rattle.circus_resolve.specs.declared.cause.CheckCause.TheVariants as cause
use Rattle.circus_resolve.specs.Faults.{Faults}
use Rattle.circus_resolve.specs.Scope.{Standing}
use Rattle.circus_body.specs.Context.{Offered, Context}
use Rattle.circus_body.specs.Ending.{all_end}
use Rattle.circus_body.specs.Faults.{all_faults}
use Rattle.circus_idl.specs.declared.interface.Procedure.{Procedure}
use Rattle.circus_idl.specs.declared.interface.Interface.{Interface}
use Rattle.circus_lang.specs.ModuleTree.{ModuleTree, VariableTree, ProcedureOf}
use Rattle.circus_limits.specs.Limits.{most_modules}
use Rattle.circus_resolve.specs.Causes.{of_type}
use Rattle.circus_check.specs.Naming.{Import, good, forward, no_module, interface_called, module_named, import_of}
use Rattle.circus_check.specs.Reach.{shared_at}
use Rattle.circus_check.specs.Scope.{type_named, place_unknown, shape_or, variables_of, offered_here, main_offered, implemented_by, context_of}

-- ---- the head of a module

-- a name that an earlier module has
abbrev pub is_later : Option ℕ → ℕ → Bool
is_later None i = false
is_later (Some first) i = nat_lt first i

-- a module that isn't the first of its name, one too many, and a root that is the second to reach a module
abbrev pub name_faults : List ModuleTree → ℕ → ModuleTree → Faults
name_faults modules i m =
    faults_if (is_later (module_named modules m.name.name) i) m.name.at Repeated
    ++ faults_if (i == most_modules) m.name.at TooMany
    ++ faults_if (is_some (shared_at modules i)) m.name.at cause.Shared

abbrev pub interface_faults : List Interface → Option Named → Faults
interface_faults interfaces None = []
interface_faults interfaces (Some name) = faults_if (is_none (interface_called interfaces name)) name.at Unknown

abbrev pub import_fault : Import → Named → Faults
import_fault (good k) name = []
import_fault forward name = faults_if true name.at Forward
import_fault no_module name = faults_if true name.at Unknown

abbrev pub imports_faults : List ModuleTree → ℕ → List Named → Faults
imports_faults modules i [] = []
imports_faults modules i (n ∷ ns) = import_fault (import_of modules i n) n ++ imports_faults modules i ns

-- a module has a procedure of this name
abbrev pub has_procedure : List (ProcedureOf StatementTree) → List ℕ → Bool
has_procedure procedures name = list_any (λ (p : ProcedureOf StatementTree). bytes_eq p.name.name name) procedures

-- the first procedure of an interface, in its order, that a module lacks
abbrev pub lacking_of : List Procedure → List (ProcedureOf StatementTree) → Option Procedure
lacking_of [] procedures = None
lacking_of (p ∷ ps) procedures = cond (has_procedure procedures p.name) (lacking_of ps procedures) (Some p)

abbrev pub first_missing : Option Interface → List (ProcedureOf StatementTree) → Option Procedure
first_missing None procedures = None
first_missing (Some i) procedures = lacking_of i.procedures procedures

abbrev pub missing_faults : Option Interface → ModuleTree → Faults
missing_faults i m = faults_if (is_some (first_missing i m.procedures)) m.name.at Missing

-- ---- variables

-- names that stand before those of variables
abbrev pub also_fields : FieldTrees → (List ℕ → Bool) → List ℕ → Bool
also_fields no_fields earlier = earlier
also_fields (more_fields name _ fs) earlier = also_fields fs (also_name name earlier)

abbrev pub also_variables : List VariableTree → (List ℕ → Bool) → List ℕ → Bool
also_variables [] earlier = earlier
also_variables (v ∷ vs) earlier = also_variables vs (also_name v.name.name earlier)

-- the parameters of all procedures of an interface
abbrev pub also_parameters : List Procedure → (List ℕ → Bool) → List ℕ → Bool
also_parameters [] earlier = earlier
also_parameters (p ∷ ps) earlier = also_parameters ps (also_fields (field_trees p.arguments) earlier)

abbrev pub parameters_of : Option Interface → List ℕ → Bool
parameters_of None = no_name
parameters_of (Some i) = also_parameters i.procedures no_name

-- what names of types come to, in some scale, where this is the place of what is unknown in one
module _ {S : Type 0} (scale : Scale S) (unknown_place : TypeName → Option ℕ) (sizes : TypeName → S) where
  -- variables behind so many parts and earlier names, each a whole type
  abbrev pub variables_faults : ℕ → (List ℕ → Bool) → List VariableTree → Faults
  variables_faults parts earlier [] = []
  variables_faults parts earlier (v ∷ vs) =
      repeated_name of_type earlier v.name ++ whole_faults of_type scale unknown_place sizes None parts 1 v.shape
      ++ variables_faults (scale.parts_with parts 1 (scale.of_type sizes v.shape)) (also_name v.name.name earlier) vs

-- the parts behind them
abbrev pub variables_parts : {S : Type 0} → Scale S → (TypeName → S) → ℕ → List VariableTree → ℕ
variables_parts scale sizes parts [] = parts
variables_parts scale sizes parts (v ∷ vs) = variables_parts scale sizes (scale.parts_with parts 1 (scale.of_type sizes v.shape)) vs

-- the faults of variables but for those of size
abbrev pub plain_faults : (TypeName → Option ℕ) → (List ℕ → Bool) → List VariableTree → Faults
plain_faults unknown_place earlier [] = []
plain_faults unknown_place earlier (v ∷ vs) =
    repeated_name of_type earlier v.name ++ inside of_type unknown_place v.shape ++ plain_faults unknown_place (also_name v.name.name earlier) vs

-- variables as fields, their types written out
abbrev pub fields_of : (TypeName → ShapeTree) → List VariableTree → List FieldTree
fields_of forms vs = map (λ (v : VariableTree). record { name = v.name.name; shape = shape_of_type forms v.shape }) vs

-- the zero value of a state, at the module's name, where no other fault stands in the state
abbrev pub state_faults : (TypeName → Option ℕ) → (TypeName → ShapeTree) → (List ℕ → Bool) → ModuleTree → Faults
state_faults unknown_place forms earlier m =
    faults_if (is_clean (plain_faults unknown_place earlier m.variables) && nat_lt most_zero_bytes (zero_size_of (fields_of forms m.variables))) m.name.at TooLarge

-- ---- procedures

abbrev pub arguments_of : Option Offered → FieldTrees
arguments_of None = no_fields
arguments_of (Some o) = o.arguments

-- what a body gives and reports
abbrev pub own_of : Option Offered → Offered
own_of None = main_offered
own_of (Some o) = o

-- the faults of statements, which aren't looked into behind a fault: what is wrong in them stands behind that fault, so the
-- least is the same (`Plain`)
abbrev pub unless_behind : Faults → Faults → Faults
unless_behind [] own = own
unless_behind (_ ∷ _) own = []

module _ (interfaces : List Interface) (modules : List ModuleTree) (i : ℕ) (m : ModuleTree) where
  abbrev pub interface : Option Interface
  interface = implemented_by interfaces m.interface

  -- what the name of a type stands for, and what is unknown in it
  abbrev pub standing_of : TypeName → Standing
  standing_of t = type_named interfaces modules i m (option_map (λ (n : Named). n.name) t.«module») t.name.name

  abbrev pub unknown_place : TypeName → Option ℕ
  unknown_place t = place_unknown (standing_of t) t

  abbrev pub forms : TypeName → ShapeTree
  forms t = shape_or (standing_of t)

  -- what a procedure offers
  abbrev pub offer_of : ProcedureOf StatementTree → Option Offered
  offer_of p = offered_here interface p.name.name

  abbrev pub context : ProcedureOf StatementTree → Context
  context p =
      context_of interfaces modules i m
      (variables_of (field_trees (fields_of forms m.variables)) (arguments_of (offer_of p)) (field_trees (fields_of forms p.body.variables)))
      (own_of (offer_of p))

  abbrev pub body_faults : ProcedureOf StatementTree → Faults
  body_faults p = all_faults (context p) (statement_trees p.body.statements)

  -- a procedure behind so many parts and earlier procedures, its statements aside
  abbrev pub procedure_faults : ℕ → (List ℕ → Bool) → ProcedureOf StatementTree → Faults
  procedure_faults parts earlier p =
      faults_if (is_none (offer_of p)) p.name.at Unknown ++ repeated_name of_type earlier p.name
      ++ faults_if (not (all_end (statement_trees p.body.statements))) p.name.at Unfinished
      ++ variables_faults written_out unknown_place forms parts (also_fields (arguments_of (offer_of p)) (also_variables m.variables no_name)) p.body.variables

  -- its statements too
  abbrev pub whole_procedure : Faults → ℕ → (List ℕ → Bool) → ProcedureOf StatementTree → Faults
  whole_procedure found parts earlier p = procedure_faults parts earlier p ++ unless_behind (found ++ procedure_faults parts earlier p) (body_faults p)

  -- procedures in order, behind what is found before them
  abbrev pub procedures_faults : Faults → ℕ → (List ℕ → Bool) → List (ProcedureOf StatementTree) → Faults
  procedures_faults found parts earlier [] = []
  procedures_faults found parts earlier (p ∷ ps) =
      whole_procedure found parts earlier p
      ++ procedures_faults (found ++ whole_procedure found parts earlier p) (variables_parts written_out forms parts p.body.variables) (also_name p.name.name earlier) ps

  -- a module but for its procedures
  abbrev pub head_faults : Faults
  head_faults =
      name_faults modules i m ++ interface_faults interfaces m.interface ++ imports_faults modules i m.imports ++ missing_faults interface m
      ++ variables_faults written_out unknown_place forms 0 (parameters_of interface) m.variables
      ++ state_faults unknown_place forms (parameters_of interface) m

  abbrev pub module_faults : Faults → Faults
  module_faults found =
      head_faults ++ procedures_faults (found ++ head_faults) (variables_parts written_out forms 0 m.variables) no_name m.procedures

module _ (interfaces : List Interface) (modules : List ModuleTree) where
  -- modules from a number on, behind what is found before them
  abbrev pub modules_faults : Faults → ℕ → List ModuleTree → Faults
  modules_faults found i [] = []
  modules_faults found i (m ∷ ms) =
      module_faults interfaces modules i m found ++ modules_faults (found ++ module_faults interfaces modules i m found) (suc i) ms

  -- all modules up to the first that is one too many
  abbrev pub faults : Faults
  faults = modules_faults [] 0 (take (suc most_modules) modules)
