-- What the bodies of a module share, in tables that are built once for it.
use Rattle.std.specs.Prelude.{◌≡◌, ◌≤◌, ℕ, ◌+◌, List, Option, Some, None, min, length, unwrap_or, option_map}
use Rattle.std.specs.Option.{option_or}
use Rattle.std.specs.Ordering.{nat_cmp}
use Rattle.std.specs.Cmp.Lexicographic.{slice_cmp}
use Rattle.std.specs.BTreeMap.{get_by}
use Rattle.std.specs.Borrow.{Bor}
use Rattle.circus_value.specs.ShapeTree.{FieldTrees, field_trees, no_fields, more_fields}
use Rattle.circus_type.specs.Limits.{most_parts}
use Rattle.circus_resolve.specs.Scope.{Variable}
use Rattle.circus_resolve.specs.Seen.Scoped.{variable_in, type_named}
use Rattle.circus_body.specs.declared.context.Offered.{Offered}
use Rattle.circus_body.specs.declared.context.OfferedProcedures.{OfferedProcedures}
use Rattle.circus_body.specs.Context.{Context}
use Rattle.circus_body.specs.Seen.Named.{called_or, offered_as}
use Rattle.circus_idl.specs.Meaning.{standing_for}
use Rattle.circus_idl.specs.declared.interface.Procedure.{Procedure}
use Rattle.circus_lang.specs.ModuleTree.{module_of}
use Rattle.circus_check.specs.declared.known.Known.{Known}
use Rattle.circus_check.specs.declared.module.Program.{Program}
use Rattle.circus_check.specs.declared.module.Own.{Own}
use Rattle.circus_check.specs.declared.surroundings.Surroundings.{Surroundings}
use Rattle.circus_check.specs.Naming.{Import, good}
use Rattle.circus_check.specs.Scope.{places_behind, import_named, called_by}
use Rattle.circus_check.specs.Scope as scope
use Rattle.circus_check.specs.Seen.Programs.{modules_in, interfaces_in, place_named}

-- variables behind others, whose places stop at the greatest word
abbrev pub variables_kept : ℕ → FieldTrees → (List ℕ → Option Variable) → List ℕ → Option Variable
variables_kept n no_fields earlier = earlier
variables_kept n (more_fields name s fs) earlier = variables_kept (n + 1) fs (standing_for name (Some (record { place = min n 65535; shape = s })) earlier)

-- so many variables of a state, which are among so many parts
abbrev pub AreFew : ℕ → ℕ → Type 0
AreFew variables parts = (variables ≤ parts) × (parts ≤ most_parts)

-- the tables of a module whose state has these variables
pub record IsAround (p : Program) (own : Own) (state : FieldTrees) (around : Surroundings) : Type 0 where
  pub variables : variable_in around.scope.state ≡ variables_kept 0 state (λ _. None)
  pub places : around.places ≡ min (places_behind 0 state) 65535
  pub types : (m : Option (List ℕ)) (name : List ℕ) → type_named around.scope m name ≡ scope.type_named (interfaces_in p) (modules_in p) own.number (module_of own.text.now) m name
  pub called : (name : List ℕ) → called_or (get_by (λ k. slice_cmp nat_cmp name k.now) around.callees)
      ≡ called_by (interfaces_in p) (modules_in p) (import_named (modules_in p) own.number own.text.now.imports name)

-- the arguments and locals of a body, behind the state
abbrev pub own_variables : ℕ → FieldTrees → FieldTrees → List ℕ → Option Variable
own_variables places arguments locals = variables_kept (places_behind places arguments) locals (variables_kept places arguments (λ _. None))

-- what a body of a procedure may name with these locals
abbrev pub context_around : Surroundings → Offered → FieldTrees → Context
context_around around own locals = record {
  scope = record {
    variable = λ name. option_or (own_variables around.places (field_trees own.arguments.now) locals name) (variable_in around.scope.state name);
    type_named = type_named around.scope;
  };
  called = λ name. called_or (get_by (λ k. slice_cmp nat_cmp name k.now) around.callees);
  own = offered_as own;
}

-- the place of a procedure among those of an interface, and without one where it is written
abbrev pub place_for : Option (List Procedure) → List ℕ → ℕ → ℕ
place_for None name written = written
place_for (Some ps) name written = unwrap_or (place_named (Some ps) name) 0

-- how many bodies a module has
abbrev pub count_for : Option (List Procedure) → ℕ → ℕ
count_for None written = written
count_for (Some ps) written = length ps

-- the number of an import, and 0 where it isn't a good one
abbrev pub number_or : Import → ℕ
number_or (good k) = k
number_or _ = 0

-- the procedures of an interface that may be unknown
abbrev pub procedures_now : Option (Bor Known) → Option OfferedProcedures
procedures_now known = option_map (λ (k : Bor Known). k.now.procedures) known
