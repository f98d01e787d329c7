-- Procedures in order: what is found behind what, and what there is where nothing is found.
use Rattle.std.proofs.Common.{◌≡◌, ℕ, ◌+◌, ◌≤◌, Bool, true, false, cond, min, List, [], ◌∷◌, ◌++◌, Option, Some, None, is_none, refl, sym, ◌∙◌, ap, subst, arith, ◌⊎◌, inl, inr}
use Rattle.std.specs.Prelude.{bytes_eq, ◌||◌, IfNone, Contains}
use Rattle.std.specs.List.{AllByRecursion, position_from}
use Rattle.circus_syntax.specs.declared.named.Named.{Named}
use Rattle.circus_statement.specs.StatementTree.{StatementTree}
use Rattle.circus_fault.specs.declared.fault.Fault.{Fault}
use Rattle.circus_fault.specs.Least.{least_from}
use Rattle.circus_fault.proofs.Items.{none_in}
use Rattle.circus_fault.proofs.LeastIs.{no_least, never_lost}
use Rattle.circus_fault.proofs.LeastMore.{least_then, least_step}
use Rattle.circus_fault.proofs.NoFaults.{no_fault}
use Rattle.circus_type.specs.Inside.{no_name, also_name}
use Rattle.circus_type.specs.Limits.{most_parts}
use Rattle.circus_type.specs.Scale.{written_out}
use Rattle.circus_resolve.specs.declared.cause.CheckCause.{CheckCause}
use Rattle.circus_resolve.specs.Causes.{rank}
use Rattle.circus_resolve.specs.Faults.{Faults}
use Rattle.circus_body.specs.Context.{Offered}
use Rattle.circus_idl.specs.declared.interface.Procedure.{Procedure}
use Rattle.circus_idl.specs.declared.interface.Interface.{Interface}
use Rattle.circus_idl.specs.Meaning.{standing_for}
use Rattle.circus_idl.specs.Obeys.{Obeys}
use Rattle.circus_lang.specs.ModuleTree.{ModuleTree, VariableTree, ProcedureOf}
use Rattle.circus_syntax.specs.declared.named.TypeName.{TypeName}
use Rattle.circus_value.specs.ShapeTree.{ShapeTree}
use Rattle.circus_resolve.specs.Faults.{field_count}
use Rattle.circus_resolve.proofs.Shapes.{field_count_is}
use Rattle.std.proofs.lemmas.Option.{same_Some}
use Rattle.circus_check.specs.Seen.Surroundings.{AreFew}
use Rattle.circus_check.specs.Naming.{interface_called}
use Rattle.circus_check.specs.Scope.{main_offered, offered_behind, offered_by, offered_in, offered_here, implemented_by}
use Rattle.circus_check.specs.InRange.{AreVariablesInRange}
use Rattle.circus_check.specs.Faults.{also_fields, also_variables, arguments_of, unknown_place, has_procedure, forms, offer_of, variables_parts, procedure_faults, body_faults, unless_behind, whole_procedure, procedures_faults}
use Rattle.circus_check.specs.Meaning.{in_interface_order}
use Rattle.circus_check.specs.Seen.Programs.{order_of}
use Rattle.circus_check.specs.Seen.Tables.{unless_kept}
use Rattle.circus_check.proofs.BodiesPlaced.{AreApart, IsThere, in_place}
use Rattle.circus_check.proofs.Declared.{procedure_declared}
use Rattle.circus_check.proofs.Interfaces.{arguments_obey, procedures_distinct}
use Rattle.circus_check.proofs.CleanVariables.{as_many_variables, variables_in_range, variables_few}
use Rattle.circus_check.proofs.Standings.{called_obeys}

-- what is kept was found
pub kept_none : (fs : Faults) (best : Option (Fault CheckCause)) → least_from rank best fs ≡ None → best ≡ None
kept_none fs None is = refl
kept_none fs (Some f) is = absurd (never_lost rank f fs is)

pub found_none : (fs : Faults) (best new : Option (Fault CheckCause)) → new ≡ least_from rank best fs → new ≡ None → fs ≡ []
found_none fs best new found none =
    let is = sym found ∙ none in
    no_least rank fs (ap (λ b. least_from rank b fs) (sym (kept_none fs best is)) ∙ is)

-- a fault is kept where one was found
kept_is : (fs : Faults) (kept : Option (Fault CheckCause)) (own : Faults) → kept ≡ least_from rank None fs → unless_kept kept own ≡ unless_behind fs own
kept_is [] kept own is = ap (λ k. unless_kept k own) is
kept_is (f ∷ fs) None own is = absurd (never_lost rank f fs (sym is))
kept_is (f ∷ fs) (Some g) own is = refl

module _ (interfaces : List Interface) (modules : List ModuleTree) (i : ℕ) (m : ModuleTree) where
  -- a procedure whose body is looked into or not
  pub whole_found : (found : Faults) (before : ℕ) (names : List ℕ → Bool) (p : ProcedureOf StatementTree) (best mid new : Option (Fault CheckCause)) → best ≡ least_from rank None found
      → mid ≡ least_from rank best (procedure_faults interfaces modules i m before names p)
      → new ≡ least_from rank mid (unless_kept mid (body_faults interfaces modules i m p)) → new ≡ least_from rank best (whole_procedure interfaces modules i m found before names p)
  whole_found found before names p best mid new first is then =
      let h = procedure_faults interfaces modules i m before names p in
      let b = body_faults interfaces modules i m p in
      least_then rank best mid new h (unless_kept mid b) is then
      ∙ ap (λ fs. least_from rank best (h ++ fs)) (kept_is (found ++ h) mid b (least_then rank None best mid found h first is))

  -- one that offers nothing
  pub whole_none : (found : Faults) (before : ℕ) (names : List ℕ → Bool) (p : ProcedureOf StatementTree) (best new : Option (Fault CheckCause)) → best ≡ least_from rank None found
      → new ≡ least_from rank best (procedure_faults interfaces modules i m before names p) → (new ≡ None → ⊥) → new ≡ least_from rank best (whole_procedure interfaces modules i m found before names p)
  whole_none found before names p best None first is some = absurd (some refl)
  whole_none found before names p best (Some f) first is some = whole_found found before names p best (Some f) (Some f) first is refl

  -- where nothing is found in it a procedure is offered, and is the first of its name
  offered_clean : (before : ℕ) (names : List ℕ → Bool) (p : ProcedureOf StatementTree) → procedure_faults interfaces modules i m before names p ≡ [] → is_none (offer_of interfaces modules i m p) ≡ false
  offered_clean before names p clean =
      no_fault _ _ _ (none_in _ _ (none_in _ _ (none_in _ _ clean).0).0).0

  new_clean : (before : ℕ) (names : List ℕ → Bool) (p : ProcedureOf StatementTree) → procedure_faults interfaces modules i m before names p ≡ [] → names p.name.name ≡ false
  new_clean before names p clean =
      no_fault _ _ _ (none_in _ _ (none_in _ _ (none_in _ _ clean).0).0).1

  -- and its variables have no number that is out of range
  pub locals_in_range : (before : ℕ) (names : List ℕ → Bool) (p : ProcedureOf StatementTree) → procedure_faults interfaces modules i m before names p ≡ [] → AreVariablesInRange p.body.variables
  locals_in_range before names p clean =
      variables_in_range written_out (unknown_place interfaces modules i m) (forms interfaces modules i m) before (also_fields (arguments_of (offer_of interfaces modules i m p)) (also_variables m.variables no_name)) p.body.variables (none_in _ _ clean).1

  -- and with them there are few parts
  pub locals_few : (before : ℕ) (names : List ℕ → Bool) (p : ProcedureOf StatementTree) → procedure_faults interfaces modules i m before names p ≡ [] → before ≤ most_parts → variables_parts written_out (forms interfaces modules i m) before p.body.variables ≤ most_parts
  locals_few before names p clean few =
      variables_few (unknown_place interfaces modules i m) (forms interfaces modules i m) before (also_fields (arguments_of (offer_of interfaces modules i m p)) (also_variables m.variables no_name)) p.body.variables (none_in _ _ clean).1 few

  -- one that offers nothing has a fault
  pub nothing_offered : (before : ℕ) (names : List ℕ → Bool) (p : ProcedureOf StatementTree) (best new : Option (Fault CheckCause)) → new ≡ least_from rank best (procedure_faults interfaces modules i m before names p)
      → offer_of interfaces modules i m p ≡ None → new ≡ None → ⊥
  nothing_offered before names p best new is nothing none =
      let offers = offered_clean before names p (found_none (procedure_faults interfaces modules i m before names p) best new is none) in
      let gone : is_none (offer_of interfaces modules i m p) ≡ true = ap is_none nothing in
      cc

main_few : (o : Offered) → Some main_offered ≡ Some o → field_count o.arguments ≤ most_parts
main_few o is = subst (λ (x : Offered). field_count x.arguments ≤ most_parts) (same_Some main_offered o is) (omega arith)

-- ---- procedures of an interface

offered_none : (i : Interface) (ps : List Procedure) (n : ℕ) (name : List ℕ) (earlier : List ℕ → Option Offered) → position_from (λ (p : Procedure). bytes_eq p.name name) n ps ≡ None → offered_behind i ps earlier name ≡ earlier name
offered_none i [] n name earlier is = refl
offered_none i (p ∷ ps) n name earlier is = by_test (λ none. offered_none i ps (n + 1) name (standing_for p.name (Some (offered_by i p)) earlier) none) (bytes_eq p.name name) refl is
  where
    by_test : (position_from (λ (q : Procedure). bytes_eq q.name name) (n + 1) ps ≡ None → offered_behind i ps (standing_for p.name (Some (offered_by i p)) earlier) name ≡ standing_for p.name (Some (offered_by i p)) earlier name) → (b : Bool) → bytes_eq p.name name ≡ b → cond b (Some n) (position_from (λ (q : Procedure). bytes_eq q.name name) (n + 1) ps) ≡ None → offered_behind i (p ∷ ps) earlier name ≡ earlier name
    by_test rest true same is = absurd (cc)
    by_test rest false same is = rest is ∙ ap (λ b. cond b (Some (offered_by i p)) (earlier name)) same

pub there_is : (interface : Option Interface) (name : List ℕ) → is_none (offered_here interface name) ≡ false → IsThere (order_of interface) name
there_is None name is = tt
there_is (Some i) name is = by_place (position_from (λ (p : Procedure). bytes_eq p.name name) 0 i.procedures) refl
  where
    by_place : (o : Option ℕ) → position_from (λ (p : Procedure). bytes_eq p.name name) 0 i.procedures ≡ o → IsThere (Some i.procedures) name
    by_place None none = absurd (let gone : is_none (offered_in i name) ≡ true = ap is_none (offered_none i i.procedures 0 name (λ _. None) none) in cc)
    by_place (Some k) some = (k, some)

-- the procedures in the order of an interface
pub in_place_is : (interface : Option Interface) (ps : List (ProcedureOf StatementTree)) → in_place (order_of interface) ps ≡ in_interface_order interface ps
in_place_is None ps = refl
in_place_is (Some i) ps = refl

pub apart_is : (interfaces : List Interface) (name : Option Named) → AllByRecursion Obeys interfaces → AreApart (order_of (implemented_by interfaces name))
apart_is interfaces None obey = tt
apart_is interfaces (Some name) obey = by_interface (interface_called interfaces name) refl
  where
    by_interface : (o : Option Interface) → interface_called interfaces name ≡ o → AreApart (order_of o)
    by_interface None is = tt
    by_interface (Some i) is = procedures_distinct i (called_obeys interfaces obey name i is)

-- ---- one procedure more

-- some faults and some parts stand before the procedures that are left, which with them have all faults
pub record IsFound (interfaces : List Interface) (modules : List ModuleTree) (i : ℕ) (m : ModuleTree) (best : Option (Fault CheckCause)) (parts : ℕ) (names : List ℕ → Bool) (rest : List (ProcedureOf StatementTree)) (whole : Option (Fault CheckCause)) : Type 0 where
  pub found : Faults
  pub before : ℕ
  pub best_is : best ≡ least_from rank None found
  pub parts_are : parts ≡ min before (1 + most_parts)
  pub left : least_from rank best (procedures_faults interfaces modules i m found before names rest) ≡ whole

pub found_more : (interfaces : List Interface) (modules : List ModuleTree) (i : ℕ) (m : ModuleTree) (best new whole : Option (Fault CheckCause)) (parts parts' : ℕ) (names names' : List ℕ → Bool) (p : ProcedureOf StatementTree) (rest : List (ProcedureOf StatementTree))
    → IsFound interfaces modules i m best parts names (p ∷ rest) whole
    → ((found : Faults) (before : ℕ) → best ≡ least_from rank None found → parts ≡ min before (1 + most_parts) → new ≡ least_from rank best (whole_procedure interfaces modules i m found before names p))
    → ((before : ℕ) → parts ≡ min before (1 + most_parts) → parts' ≡ min (variables_parts written_out (forms interfaces modules i m) before p.body.variables) (1 + most_parts))
    → names' ≡ also_name p.name.name names
    → IsFound interfaces modules i m new parts' names' rest whole
found_more interfaces modules i m best new whole parts parts' names names' p rest is finds counts added =
    let w = whole_procedure interfaces modules i m is.found is.before names p in
    let after = variables_parts written_out (forms interfaces modules i m) is.before p.body.variables in
    let new_is = finds is.found is.before is.best_is is.parts_are in
    record {
      found = is.found ++ w;
      before = after;
      best_is = least_then rank None best new is.found w is.best_is new_is;
      parts_are = counts is.before is.parts_are;
      left = ap (λ ns. least_from rank new (procedures_faults interfaces modules i m (is.found ++ w) after ns rest)) added
          ∙ least_step rank new best whole w (procedures_faults interfaces modules i m (is.found ++ w) after (also_name p.name.name names) rest) new_is is.left;
    }

-- any fault that is kept was found
some_found : (best : Option (Fault CheckCause)) → (found : Faults) × (best ≡ least_from rank None found)
some_found None = ([], refl)
some_found (Some f) = (f ∷ [], refl)

-- a procedure behind which no fault is kept
pub record IsClean (interfaces : List Interface) (modules : List ModuleTree) (i : ℕ) (m : ModuleTree) (best : Option (Fault CheckCause)) (parts : ℕ) (names : List ℕ → Bool) (p : ProcedureOf StatementTree) : Type 0 where
  pub nothing : best ≡ None
  pub offers : is_none (offer_of interfaces modules i m p) ≡ false
  pub new : names p.name.name ≡ false
  pub few : parts ≤ most_parts → variables_parts written_out (forms interfaces modules i m) parts p.body.variables ≤ most_parts

pub clean_is : (interfaces : List Interface) (modules : List ModuleTree) (i : ℕ) (m : ModuleTree) (best after : Option (Fault CheckCause)) (parts : ℕ) (names : List ℕ → Bool) (p : ProcedureOf StatementTree) → parts ≤ 1 + most_parts
    → ((found : Faults) (before : ℕ) → best ≡ least_from rank None found → parts ≡ min before (1 + most_parts) → after ≡ least_from rank best (whole_procedure interfaces modules i m found before names p))
    → after ≡ None → IsClean interfaces modules i m best parts names p
clean_is interfaces modules i m best after parts names p small finds none =
    let (found, is) = some_found best in
    let full : parts ≡ min parts (1 + most_parts) = omega arith in
    let whole = found_none (whole_procedure interfaces modules i m found parts names p) best after (finds found parts is full) none in
    let clean = (none_in (procedure_faults interfaces modules i m parts names p) _ whole).0 in
    record {
      nothing = kept_none (whole_procedure interfaces modules i m found parts names p) best (sym (finds found parts is full) ∙ none);
      offers = offered_clean interfaces modules i m parts names p clean;
      new = new_clean interfaces modules i m parts names p clean;
      few = locals_few interfaces modules i m parts names p clean;
    }

-- its variables stand among the parts
pub few_more : (forms : TypeName → ShapeTree) (state parts parts' : ℕ) (vs : List VariableTree) → AreFew state parts → variables_parts written_out forms parts vs ≤ most_parts → parts' ≡ min (variables_parts written_out forms parts vs) (1 + most_parts) → AreFew state parts'
few_more forms state parts parts' vs are few is = (omega (arith, are.0, few, is, as_many_variables forms parts vs), omega (arith, few, is))

-- what is offered takes few arguments
pub offered_few : (interfaces : List Interface) → AllByRecursion Obeys interfaces → (interface : Option Named) (name : List ℕ) (o : Offered) → offered_here (implemented_by interfaces interface) name ≡ Some o → field_count o.arguments ≤ most_parts
offered_few interfaces obey None name o is = main_few o is
offered_few interfaces obey (Some i) name o is = by_interface (interface_called interfaces i) refl is
  where
    among : (k : Interface) → Obeys k → (None ≡ Some o) ⊎ ((p : Procedure) × Contains k.procedures p × (offered_by k p ≡ o)) → field_count o.arguments ≤ most_parts
    among k obeys (inl none) = absurd (cc)
    among k obeys (inr (p, there, same)) = subst (λ (x : Offered). field_count x.arguments ≤ most_parts) same (omega (arith, (arguments_obey k obeys p there).few, field_count_is p.arguments))

    by_interface : (k : Option Interface) → interface_called interfaces i ≡ k → offered_here k name ≡ Some o → field_count o.arguments ≤ most_parts
    by_interface None called is = main_few o is
    by_interface (Some k) called is = among k (called_obeys interfaces obey i k called) (procedure_declared k k.procedures (λ _. None) name o is)

-- the names of procedures with one more
pub has_more : (ps : List (ProcedureOf StatementTree)) (p : ProcedureOf StatementTree) (name : List ℕ) → has_procedure (ps ++ p ∷ []) name ≡ (bytes_eq p.name.name name || has_procedure ps name)
has_more [] p name = refl
has_more (q ∷ ps) p name = by_tests (bytes_eq q.name.name name) (bytes_eq p.name.name name) (has_more ps p name)
  where
    by_tests : (b c : Bool) → has_procedure (ps ++ p ∷ []) name ≡ (c || has_procedure ps name) → (b || has_procedure (ps ++ p ∷ []) name) ≡ (c || (b || has_procedure ps name))
    by_tests true true is = refl
    by_tests true false is = refl
    by_tests false c is = is

-- what holds where there is none
pub of_none : {X : Type 0} (o : Option X) (P : Type 0) → IfNone o P → o ≡ None → P
of_none None P holds is = holds
of_none (Some x) P holds is = absurd (cc)

pub if_none : {X P : Type 0} (o : Option X) → P → IfNone o P
if_none None holds = holds
if_none (Some x) holds = tt

pub if_none_by : {X P : Type 0} (o : Option X) → (o ≡ None → P) → IfNone o P
if_none_by None holds = holds refl
if_none_by (Some x) holds = tt

pub if_lost : {X : Type 0} (P : Type 0) (o : Option X) → (o ≡ None → ⊥) → IfNone o P
if_lost P None lost = absurd (lost refl)
if_lost P (Some x) lost = tt

-- no procedure is left
pub found_end : (interfaces : List Interface) (modules : List ModuleTree) (i : ℕ) (m : ModuleTree) (best whole : Option (Fault CheckCause)) (parts : ℕ) (names : List ℕ → Bool) (rest : List (ProcedureOf StatementTree)) → IsFound interfaces modules i m best parts names rest whole → rest ≡ [] → best ≡ whole
found_end interfaces modules i m best whole parts names rest is none =
    ap (λ ps. least_from rank best (procedures_faults interfaces modules i m is.found is.before names ps)) (sym none) ∙ is.left
