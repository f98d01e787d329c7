-- What the bodies of a module share says what the rules say of them.
use Rattle.std.proofs.Common.{◌≡◌, ℕ, ◌+◌, ◌≤◌, Bool, true, false, cond, min, length, List, [], Option, Some, None, refl, sym, ◌∙◌, ap, arith, nat_cmp}
use Rattle.std.specs.Prelude.{bytes_eq, option_map}
use Rattle.std.specs.Option.{option_or}
use Rattle.std.specs.Cmp.Lexicographic.{slice_cmp}
use Rattle.std.specs.BTreeMap.{BTreeMap, get_by, is_at}
use Rattle.std.specs.Map.{lookup}
use denote.Ref.{Bor}
use Rattle.circus_value.specs.ShapeTree.{ShapeTree, FieldTree, FieldTrees, no_fields, more_fields, field_trees}
use Rattle.circus_resolve.specs.declared.scope.Variable.{Variable as Entry}
use Rattle.circus_resolve.specs.Scope.{Variable}
use Rattle.circus_resolve.specs.declared.scope.Scope.{Scope as Table}
use Rattle.circus_resolve.specs.Seen.Scoped.{variable_in, variable_as, type_named}
use Rattle.circus_body.specs.declared.context.Offered.{Offered}
use Rattle.circus_body.specs.Seen.Named.{called_or, offered_as}
use Rattle.circus_idl.specs.Meaning.{standing_for}
use Rattle.circus_statement.specs.StatementTree.{StatementTree}
use Rattle.circus_lang.specs.ModuleTree.{ProcedureOf, module_of}
use Rattle.circus_check.specs.declared.module.Program.{Program}
use Rattle.circus_check.specs.declared.module.Own.{Own}
use Rattle.circus_check.specs.declared.surroundings.Surroundings.{Surroundings}
use Rattle.circus_check.specs.Scope.{variables_behind, places_behind, variables_of, context_of}
use Rattle.circus_check.specs.Faults.{fields_of, arguments_of, own_of, context}
use Rattle.circus_check.specs.Faults as faults
use Rattle.circus_check.specs.Seen.Programs.{IsOwn, modules_in, interfaces_in}
use Rattle.circus_check.specs.Seen.Scoped.{form_in}
use Rattle.circus_check.specs.Seen.Contexts.{context_with}
use Rattle.circus_check.specs.Seen.Surroundings.{variables_kept, own_variables, context_around, IsAround}
use Rattle.circus_check.proofs.OwnTables.{forms_are}
use Rattle.circus_check.proofs.Tables.{same_variables, same_places}
use Rattle.circus_check.proofs.CleanVariables.{many_fields}
use Rattle.circus_check.proofs.PlacesFound.{places_counted}
use Rattle.circus_resolve.proofs.Shapes.{field_count_is}

-- what one table says, where it says something, and else another
abbrev pub over : (List ℕ → Option Variable) → (List ℕ → Option Variable) → List ℕ → Option Variable
over own earlier name = option_or (own name) (earlier name)

standing_over : (name : List ℕ) (v : Variable) (own earlier : List ℕ → Option Variable) → standing_for name (Some v) (over own earlier) ≡ over (standing_for name (Some v) own) earlier
standing_over name v own earlier = λ i other. each (bytes_eq name other) (own other) (earlier other) i
  where
    each : (b : Bool) (o e : Option Variable) → cond b (Some v) (option_or o e) ≡ option_or (cond b (Some v) o) e
    each true o e = refl
    each false o e = refl

variables_over : (n : ℕ) (fs : FieldTrees) (own earlier : List ℕ → Option Variable) → variables_kept n fs (over own earlier) ≡ over (variables_kept n fs own) earlier
variables_over n no_fields own earlier = refl
variables_over n (more_fields name s fs) own earlier =
    let v : Variable = record { place = min n 65535; shape = s } in
    ap (variables_kept (n + 1) fs) (standing_over name v own earlier) ∙ variables_over (n + 1) fs (standing_for name (Some v) own) earlier

-- a place that stops at the greatest word gives the same variables
same_own : (n k : ℕ) → min n 65535 ≡ min k 65535 → (arguments locals : FieldTrees) → own_variables n arguments locals ≡ own_variables k arguments locals
same_own n k is arguments locals =
    same_variables (places_behind n arguments) (places_behind k arguments) (same_places n k is arguments) locals (variables_kept n arguments (λ _. None))
    ∙ ap (variables_kept (places_behind k arguments) locals) (same_variables n k is arguments (λ _. None))

-- the places of few variables don't stop
kept_as : (n : ℕ) (fs : FieldTrees) (earlier : List ℕ → Option Variable) → places_behind n fs ≤ 65535 → variables_kept n fs earlier ≡ variables_behind n fs earlier
kept_as n no_fields earlier few = refl
kept_as n (more_fields name s fs) earlier few =
    let low : min n 65535 ≡ n = omega (arith, few, places_counted (n + 1) fs) in
    ap (λ p. variables_kept (n + 1) fs (standing_for name (Some (record { place = p; shape = s })) earlier)) low
    ∙ kept_as (n + 1) fs (standing_for name (Some (record { place = n; shape = s })) earlier) few

-- the variables of a body behind those of the state
pub variables_are : (state arguments locals : FieldTrees) (p : ℕ) (table : List ℕ → Option Variable) → p ≡ min (places_behind 0 state) 65535 → table ≡ variables_kept 0 state (λ _. None)
    → places_behind (places_behind (places_behind 0 state) arguments) locals ≤ 65535 → over (own_variables p arguments locals) table ≡ variables_of state arguments locals
variables_are state arguments locals p table places is few =
    let n = places_behind 0 state in
    let k = places_behind n arguments in
    let none : List ℕ → Option Variable = λ _. None in
    let behind_arguments : k ≤ 65535 = omega (arith, few, places_counted k locals) in
    let behind_state : n ≤ 65535 = omega (arith, behind_arguments, places_counted n arguments) in
    (λ i. over (same_own p n (omega (arith, places)) arguments locals i) (is i))
    ∙ sym (variables_over k locals (variables_kept n arguments none) (variables_kept 0 state none))
    ∙ ap (variables_kept k locals) (sym (variables_over n arguments none (variables_kept 0 state none)))
    ∙ kept_as k locals (variables_kept n arguments (variables_kept 0 state none)) few
    ∙ ap (variables_behind k locals) (kept_as n arguments (variables_kept 0 state none) behind_arguments ∙ ap (variables_behind n arguments) (kept_as 0 state none behind_state))

-- a table after one more field
pub put_step : (p p' : ℕ) (name : List ℕ) (s : ShapeTree) (rest : FieldTrees) (old new whole : List ℕ → Option Variable) → p ≤ 65535 → p' ≡ min (p + 1) 65535
    → new ≡ standing_for name (Some (record { place = p; shape = s })) old → variables_kept p (more_fields name s rest) old ≡ whole → variables_kept p' rest new ≡ whole
put_step p p' name s rest old new whole small next added before =
    let place : min p 65535 ≡ p = omega arith in
    let behind : ℕ → List ℕ → Option Variable = λ n. standing_for name (Some (record { place = n; shape = s })) old in
    same_variables p' (p + 1) (omega arith) rest new
    ∙ ap (variables_kept (p + 1) rest) (added ∙ ap behind (sym place))
    ∙ before

pub put_places : (p p' : ℕ) (name : List ℕ) (s : ShapeTree) (rest : FieldTrees) (whole : ℕ) → p' ≡ min (p + 1) 65535 → min (places_behind p (more_fields name s rest)) 65535 ≡ whole → min (places_behind p' rest) 65535 ≡ whole
put_places p p' name s rest whole next before = same_places p' (p + 1) (omega arith) rest ∙ before

-- a table without entries
pub no_variables : (table : BTreeMap (Bor (List ℕ)) Entry) → table.entries ≡ [] → variable_in table ≡ (λ name. None)
no_variables table empty = λ i name. option_map variable_as (lookup (is_at (λ (k : Bor (List ℕ)). slice_cmp nat_cmp name k.now)) (empty i))

-- the table of the arguments and locals of a body
pub own_are : (p q : ℕ) (arguments locals : FieldTrees) (first second : List ℕ → Option Variable) (none : List ℕ → Option Variable) → none ≡ (λ name. None)
    → first ≡ variables_kept p arguments none → q ≡ min (places_behind p arguments) 65535 → second ≡ variables_kept q locals first → second ≡ own_variables p arguments locals
own_are p q arguments locals first second none nothing put_first places put_second =
    put_second ∙ same_variables q (places_behind p arguments) (omega (arith, places)) locals first
    ∙ ap (variables_kept (places_behind p arguments) locals) (put_first ∙ ap (variables_kept p arguments) nothing)

-- the tables of a body say what its surroundings and its own variables say
pub context_are : (scope : Table) (around : Surroundings) (own : Offered) (locals : FieldTrees) → variable_in scope.variables ≡ own_variables around.places (field_trees own.arguments.now) locals → scope.outer.now ≡ around.scope
    → context_with scope around.callees own ≡ context_around around own locals
context_are scope around own locals variables outer = λ i. record {
  scope = record { variable = λ name. option_or (variables i name) (variable_in (outer i).state name); type_named = type_named (outer i) };
  called = λ name. called_or (get_by (λ k. slice_cmp nat_cmp name k.now) around.callees);
  own = offered_as own;
}

-- what a body may name is what the rules say
pub context_is : (p : Program) (own : Own) (state : FieldTrees) (around : Surroundings) (offered : Offered) (locals : FieldTrees) → IsAround p own state around
    → places_behind (places_behind (places_behind 0 state) (field_trees offered.arguments.now)) locals ≤ 65535
    → context_around around offered locals ≡ context_of (interfaces_in p) (modules_in p) own.number (module_of own.text.now) (variables_of state (field_trees offered.arguments.now) locals) (offered_as offered)
context_is p own state around offered locals is few =
    let arguments = field_trees offered.arguments.now in
    let variables = variables_are state arguments locals around.places (variable_in around.scope.state) is.places is.variables few in
    λ i. record {
      scope = record { variable = variables i; type_named = λ m name. is.types m name i };
      called = λ name. is.called name i;
      own = offered_as offered;
    }

-- what the body of a procedure may name
pub body_context : (p : Program) (own : Own) (around : Surroundings) (offered : Offered) (locals : List FieldTree) (procedure : ProcedureOf StatementTree) → IsOwn p own
    → IsAround p own (field_trees (fields_of (form_in own.types) (module_of own.text.now).variables)) around
    → Some (offered_as offered) ≡ faults.offer_of (interfaces_in p) (modules_in p) own.number (module_of own.text.now) procedure
    → locals ≡ fields_of (form_in own.types) procedure.body.variables
    → length (module_of own.text.now).variables + length offered.arguments.now + length procedure.body.variables ≤ 65535
    → context_around around offered (field_trees locals) ≡ context (interfaces_in p) (modules_in p) own.number (module_of own.text.now) procedure
body_context p own around offered locals procedure is_own is offers written few =
    let m = module_of own.text.now in
    let forms = forms_are p own is_own in
    let local : locals ≡ fields_of (faults.forms (interfaces_in p) (modules_in p) own.number m) procedure.body.variables = written ∙ ap (λ f. fields_of f procedure.body.variables) forms in
    let state = fields_of (form_in own.types) m.variables in
    let n = places_behind 0 (field_trees state) in
    let k = places_behind n (field_trees offered.arguments.now) in
    let places : places_behind k (field_trees locals) ≤ 65535 =
    omega (
      arith,
      few,
      places_counted 0 (field_trees state),
      places_counted n (field_trees offered.arguments.now),
      places_counted k (field_trees locals),
      field_count_is state,
      field_count_is offered.arguments.now,
      field_count_is locals,
      many_fields (form_in own.types) m.variables,
      ap length written,
      many_fields (form_in own.types) procedure.body.variables,
    ) in
    context_is p own (field_trees state) around offered (field_trees locals) is places
    ∙ (λ i. context_of (interfaces_in p) (modules_in p) own.number m (variables_of (field_trees (fields_of (forms i) m.variables)) (arguments_of (offers i)) (field_trees (local i))) (own_of (offers i)))
