-- What is wrong in a body stands behind all that is wrong before it.
use Rattle.std.proofs.Common.{◌≡◌, ℕ, zero, suc, ◌≤◌, Bool, List, [], ◌∷◌, ◌++◌, map, take, Option, Some, None, ◌⊎◌, inl, inr, sym, subst, arith, codes}
use Rattle.std.specs.List.{AllByRecursion}
use Rattle.std.specs.Prelude.{◌==◌, ◌&&◌, not, nat_lt, is_none, is_some, All, AllPairs}
use Rattle.circus_value.specs.ShapeTree.{ShapeTree}
use Rattle.circus_syntax.specs.declared.named.Named.{Named}
use Rattle.circus_syntax.specs.declared.named.TypeName.{TypeName}
use Rattle.circus_syntax.specs.TypeTree.{type_place}
use Rattle.circus_text.specs.Token.{IsTokenIn, IsBefore}
use Rattle.circus_syntax.specs.Placed.{Due, word, sign, due, due_at, due_name}
use Rattle.circus_syntax.specs.Spelling.{each, spelling_names, spelling_type, IsEach}
use Rattle.circus_statement.specs.StatementTree.{StatementTree, statement_trees}
use Rattle.circus_statement.specs.WrittenStatement.{semicolon, ending, spelling_statements, written_statements, spelling_listed}
use Rattle.circus_lang.specs.ModuleTree.{ModuleTree, VariableTree, ProcedureOf}
use Rattle.circus_lang.specs.ModuleStanding.{body_stands_for, procedure_stands_for, main_at, main_stands_for, module_stands_for}
use Rattle.circus_lang.specs.WrittenModule.{WrittenBody, WrittenProcedure, WrittenModule, serving, root, spelling_imports, spelling_heading, spelling_variable, spelling_body, spelling_procedure, spelling_main, module_closing, spelling_module, IsVariable, IsBody, IsProcedure, IsModule}
use Rattle.circus_fault.specs.Least.{faults_if, is_clean}
use Rattle.circus_fault.proofs.Items.{of_each}
use Rattle.circus_type.specs.Inside.{no_name, also_name, repeated_name, inside}
use Rattle.circus_type.specs.Limits.{most_zero_bytes}
use Rattle.circus_type.specs.Scale.{written_out}
use Rattle.circus_type.specs.Together.{zero_size_of}
use Rattle.circus_type.specs.Whole.{is_place, whole_faults}
use Rattle.circus_type.specs.declared.cause.TypeCause.TheVariants as type_cause
use Rattle.circus_resolve.specs.declared.cause.CheckCause.TheVariants.{Unknown, Repeated, TooLarge, Unfinished, Forward, Missing, TooMany}
use Rattle.circus_resolve.specs.declared.cause.CheckCause.TheVariants as cause
use Rattle.circus_resolve.specs.Causes.{of_type}
use Rattle.circus_resolve.specs.Faults.{Faults, place_of_type}
use Rattle.circus_resolve.specs.Scope.{Standing, a_type, no_module, no_type, unsaid}
use Rattle.circus_body.specs.Ending.{all_end}
use Rattle.circus_idl.specs.declared.interface.Interface.{Interface}
use Rattle.circus_body.proofs.Rising.{Rise, rising_in, below, split, front, back, behind, unopened, Lies, first, lies_wider}
use Rattle.circus_body.proofs.InText.{AreIn, joined, one, wider}
use Rattle.circus_body.proofs.TypesInText.{named, all_named, type_in, type_begins}
use Rattle.circus_body.proofs.StatementsInText.{listed_in}
use Rattle.circus_limits.specs.Limits.{most_modules}
use Rattle.circus_check.specs.Naming.{Import, good, forward, interface_called, module_named, import_of}
use Rattle.circus_check.specs.Naming as naming
use Rattle.circus_check.specs.Reach.{shared_at}
use Rattle.circus_check.specs.Scope.{place_unknown}
use Rattle.circus_check.specs.Faults.{is_later, name_faults, interface_faults, import_fault, imports_faults, first_missing, missing_faults, also_fields, also_variables, parameters_of, variables_faults, variables_parts, plain_faults, fields_of, state_faults, arguments_of, interface, standing_of, unknown_place, forms, offer_of, context, body_faults, procedure_faults, head_faults}
use Rattle.circus_check.specs.Plain.{AreBefore, procedures_all, module_all, ProceduresInOrder, IsInOrder, ModulesInOrder, AreInOrder}
use Rattle.circus_check.specs.TextOrder.{AreModulesOf}

-- ---- variables

by_standing : (s : Standing) (t : TypeName) (at : ℕ) → place_unknown s t ≡ Some at → (at ≡ place_of_type t) ⊎ (at ≡ t.name.at)
by_standing (a_type _) t at is = absurd (cc)
by_standing no_module t at is = inl (cc)
by_standing no_type t at is = inr (cc)
by_standing unsaid t at is = absurd (cc)

module _ (of_name : TypeName → Option ℕ) (told : (t : TypeName) (at : ℕ) → of_name t ≡ Some at → (at ≡ place_of_type t) ⊎ (at ≡ t.name.at)) (sizes : TypeName → ShapeTree) where
  one_variable : (low high parts : ℕ) (earlier : List ℕ → Bool) (v : VariableTree) → IsVariable v → Rise low high (spelling_variable v)
      → AreIn low high (repeated_name of_type earlier v.name ++ whole_faults of_type written_out of_name sizes None parts 1 v.shape)
  one_variable low high parts earlier v well rise =
      let ds = spelling_type v.shape ++ semicolon ∷ [] in
      let name = behind low high (due (word (codes "VAR"))) (due_name v.name ∷ due (sign (codes ":")) ∷ ds) rise in
      let shape = front low high (spelling_type v.shape) (semicolon ∷ [])
      (behind low high (due (sign (codes ":"))) ds (behind low high (due_name v.name) (due (sign (codes ":")) ∷ ds) name)) in
      let parts_then = written_out.parts_with parts 1 (written_out.of_type sizes v.shape) in
      let over = is_clean (inside of_type of_name v.shape) && not (is_place (type_place v.shape) None) && written_out.is_over parts_then (written_out.of_type sizes v.shape) in
      joined low high (repeated_name of_type earlier v.name) (whole_faults of_type written_out of_name sizes None parts 1 v.shape)
      (one low high (earlier v.name.name) v.name.at (of_type type_cause.Repeated) (named low high v.name (due (sign (codes ":")) ∷ ds) name))
      (joined low high (inside of_type of_name v.shape) (faults_if over (type_place v.shape) (of_type type_cause.TooLarge))
      (type_in of_name told low high v.shape well.1 shape) (one low high over (type_place v.shape) (of_type type_cause.TooLarge) (type_begins of_name told low high v.shape well.1 shape)))

  variables_in : (low high parts : ℕ) (earlier : List ℕ → Bool) (vs : List VariableTree) → IsEach IsVariable vs → Rise low high (each spelling_variable vs) → AreIn low high (variables_faults written_out of_name sizes parts earlier vs)
  variables_in low high parts earlier [] well rise = tt
  variables_in low high parts earlier (v ∷ vs) well rise =
      let parts_then = written_out.parts_with parts 1 (written_out.of_type sizes v.shape) in
      joined low high (repeated_name of_type earlier v.name ++ whole_faults of_type written_out of_name sizes None parts 1 v.shape)
      (variables_faults written_out of_name sizes parts_then (also_name v.name.name earlier) vs)
      (one_variable low high parts earlier v well.0 (front low high (spelling_variable v) (each spelling_variable vs) rise))
      (variables_in low high parts_then (also_name v.name.name earlier) vs well.1 (back low high (spelling_variable v) (each spelling_variable vs) rise))

all_wider : (low high more : ℕ) (ns : List Named) → high ≤ more → AllByRecursion (λ (n : Named). Lies low high n.at) ns → AllByRecursion (λ (n : Named). Lies low more n.at) ns
all_wider low high more [] over all = tt
all_wider low high more (n ∷ ns) over all = (lies_wider low high low more n.at (omega arith) over all.0, all_wider low high more ns over all.1)

-- what stands before a place is before what stands from there on
before : (low mid high : ℕ) (a b : Faults) → AreIn low mid a → AreIn mid high b → AreBefore a b
before low mid high a b first second f g in_first in_second =
    let one = of_each (λ x. Lies low mid x.place) a f first in_first in
    let other = of_each (λ x. Lies mid high x.place) b g second in_second in
    omega (arith, one.below, other.from)

module _ (interfaces : List Interface) (modules : List ModuleTree) where
  module _ (i : ℕ) (m : ModuleTree) where
    told : (t : TypeName) (at : ℕ) → unknown_place interfaces modules i m t ≡ Some at → (at ≡ place_of_type t) ⊎ (at ≡ t.name.at)
    told t at is = by_standing (standing_of interfaces modules i m t) t at is

    -- ---- procedures

    -- where the statements of a body begin, and what is wrong before them and in them
    record Cut (low high parts : ℕ) (earlier : List ℕ → Bool) (p : ProcedureOf StatementTree) : Type 0 where
      at : ℕ
      over : low ≤ at
      under : at ≤ high
      head : AreIn low at (procedure_faults interfaces modules i m parts earlier p)
      body : AreIn at high (body_faults interfaces modules i m p)

    procedure_cut : (low mid high parts : ℕ) (earlier : List ℕ → Bool) (n : Named) (b : WrittenBody) → low ≤ mid → Lies low mid n.at → IsBody b → Rise mid high (spelling_body b)
        → Cut low high parts earlier (record { name = n; body = body_stands_for b })
    procedure_cut low mid high parts earlier n b up lies well rise =
        let p : ProcedureOf StatementTree = record { name = n; body = body_stands_for b } in
        let block = spelling_listed (codes "BEGIN") b.statements ++ ending in
        let s = split mid high (each spelling_variable b.variables) block rise in
        let over = below mid s.mid (each spelling_variable b.variables) s.front in
        let name = lies_wider low mid low s.mid n.at (omega arith) over lies in
        let statements = unopened s.mid high (due (word (codes "BEGIN")) ∷ spelling_statements (written_statements b.statements))
        (front s.mid high (spelling_listed (codes "BEGIN") b.statements) ending s.back) in
        let names = also_fields (arguments_of (offer_of interfaces modules i m p)) (also_variables m.variables no_name) in
        let variables = variables_faults written_out (unknown_place interfaces modules i m) (forms interfaces modules i m) parts names b.variables in
        let is_unknown = is_none (offer_of interfaces modules i m p) in
        let goes_on = not (all_end (statement_trees p.body.statements)) in
        record {
          at = s.mid;
          over = omega (arith, up, over);
          under = below s.mid high block s.back;
          head = joined low s.mid ((faults_if is_unknown n.at Unknown ++ repeated_name of_type earlier n) ++ faults_if goes_on n.at Unfinished) variables
              (joined low s.mid (faults_if is_unknown n.at Unknown ++ repeated_name of_type earlier n) (faults_if goes_on n.at Unfinished)
              (joined low s.mid (faults_if is_unknown n.at Unknown) (repeated_name of_type earlier n)
              (one low s.mid is_unknown n.at Unknown name) (one low s.mid (earlier n.name) n.at (of_type type_cause.Repeated) name))
              (one low s.mid goes_on n.at Unfinished name))
              (wider mid s.mid low s.mid variables up (omega arith)
              (variables_in (unknown_place interfaces modules i m) told (forms interfaces modules i m) mid s.mid parts names b.variables well.0 s.front));
          body = listed_in (context interfaces modules i m p) s.mid high b.statements well.1
              (behind s.mid high (due (word (codes "BEGIN"))) (spelling_statements (written_statements b.statements)) statements);
        }

    -- procedures are in order behind what was found before, and all that is wrong in them stands there
    record Ordered (low high : ℕ) (found : Faults) (parts : ℕ) (earlier : List ℕ → Bool) (ps : List (ProcedureOf StatementTree)) : Type 0 where
      order : ProceduresInOrder interfaces modules i m found parts earlier ps
      within : AreIn low high (procedures_all interfaces modules i m parts earlier ps)

    one_more : (low mid high : ℕ) (found : Faults) (parts : ℕ) (earlier : List ℕ → Bool) (p : ProcedureOf StatementTree) (ps : List (ProcedureOf StatementTree))
        → low ≤ mid → mid ≤ high → AreIn 0 low found → Cut low mid parts earlier p
        → Ordered mid high (found ++ (procedure_faults interfaces modules i m parts earlier p ++ body_faults interfaces modules i m p))
        (variables_parts written_out (forms interfaces modules i m) parts p.body.variables) (also_name p.name.name earlier) ps
        → Ordered low high found parts earlier (p ∷ ps)
    one_more low mid high found parts earlier p ps up over before_it cut others =
        let head = procedure_faults interfaces modules i m parts earlier p in
        let body = body_faults interfaces modules i m p in
        let later = procedures_all interfaces modules i m (variables_parts written_out (forms interfaces modules i m) parts p.body.variables) (also_name p.name.name earlier) ps in
        record {
          order = (
            before 0 cut.at mid (found ++ head) body
                (joined 0 cut.at found head (wider 0 low 0 cut.at found (omega arith) cut.over before_it) (wider low cut.at 0 cut.at head (omega arith) (omega arith) cut.head)) cut.body,
            others.order,
          );
          within = joined low high (head ++ body) later
              (joined low high head body (wider low cut.at low high head (omega arith) (omega (arith, cut.under, over)) cut.head) (wider cut.at mid low high body cut.over over cut.body))
              (wider mid high low high later up (omega arith) others.within);
        }

    found_then : (low mid parts : ℕ) (earlier : List ℕ → Bool) (p : ProcedureOf StatementTree) (found : Faults) → low ≤ mid → AreIn 0 low found → Cut low mid parts earlier p
        → AreIn 0 mid (found ++ (procedure_faults interfaces modules i m parts earlier p ++ body_faults interfaces modules i m p))
    found_then low mid parts earlier p found up before_it cut =
        let head = procedure_faults interfaces modules i m parts earlier p in
        let body = body_faults interfaces modules i m p in
        joined 0 mid found (head ++ body) (wider 0 low 0 mid found (omega arith) up before_it)
        (joined 0 mid head body (wider low cut.at 0 mid head (omega arith) cut.under cut.head) (wider cut.at mid 0 mid body (omega arith) (omega arith) cut.body))

    procedures_in : (low high : ℕ) (found : Faults) (parts : ℕ) (earlier : List ℕ → Bool) (ps : List WrittenProcedure) → IsEach IsProcedure ps → AreIn 0 low found → Rise low high (each spelling_procedure ps)
        → Ordered low high found parts earlier (map procedure_stands_for ps)
    procedures_in low high found parts earlier [] well before_it rise = record { order = tt; within = tt }
    procedures_in low high found parts earlier (p ∷ ps) well before_it rise =
        let tree = procedure_stands_for p in
        let s = split low high (spelling_procedure p) (each spelling_procedure ps) rise in
        let up = below low s.mid (spelling_procedure p) s.front in
        let t = split low s.mid (due_name p.name ∷ []) (spelling_body p.body) (behind low s.mid (due (word (codes "PROCEDURE"))) (due_name p.name ∷ spelling_body p.body) s.front) in
        let cut = procedure_cut low t.mid s.mid parts earlier p.name p.body (below low t.mid (due_name p.name ∷ []) t.front) (named low t.mid p.name [] t.front) well.0.1 t.back in
        one_more low s.mid high found parts earlier tree (map procedure_stands_for ps) up (below s.mid high (each spelling_procedure ps) s.back) before_it cut
        (procedures_in s.mid high (found ++ (procedure_faults interfaces modules i m parts earlier tree ++ body_faults interfaces modules i m tree))
        (variables_parts written_out (forms interfaces modules i m) parts tree.body.variables) (also_name p.name.name earlier) ps well.1 (found_then low s.mid parts earlier tree found up before_it cut) s.back)

    main_in : (low high : ℕ) (found : Faults) (parts : ℕ) (earlier : List ℕ → Bool) (at : ℕ) (b : WrittenBody) → IsBody b → AreIn 0 low found → Rise low high (spelling_main at b)
        → Ordered low high found parts earlier (main_stands_for (at, b) ∷ [])
    main_in low high found parts earlier at b well before_it rise =
        let main = due_at (word (codes "MAIN")) at in
        let t = split low high (main ∷ []) (spelling_body b) rise in
        let cut = procedure_cut low t.mid high parts earlier (main_at at) b (below low t.mid (main ∷ []) t.front) (first low t.mid main [] at (λ p is. is) t.front) well t.back in
        one_more low high high found parts earlier (main_stands_for (at, b)) [] (below low high (spelling_main at b) rise) (omega arith) before_it cut (record { order = tt; within = tt })

    -- ---- the head of a module

    import_in : (low high : ℕ) (k : Import) (n : Named) → Lies low high n.at → AreIn low high (import_fault k n)
    import_in low high (good k) n lies = tt
    import_in low high forward n lies = (lies, tt)
    import_in low high naming.no_module n lies = (lies, tt)

    imports_in : (low high : ℕ) (ns : List Named) → AllByRecursion (λ (n : Named). Lies low high n.at) ns → AreIn low high (imports_faults modules i ns)
    imports_in low high [] all = tt
    imports_in low high (n ∷ ns) all =
        joined low high (import_fault (import_of modules i n) n) (imports_faults modules i ns) (import_in low high (import_of modules i n) n all.0) (imports_in low high ns all.1)

    listed_imports : (low high : ℕ) (ns : List Named) (ds : List Due) → Rise low high (spelling_imports ns ++ ds) → AllByRecursion (λ (n : Named). Lies low high n.at) ns
    listed_imports low high [] ds rise = tt
    listed_imports low high (n ∷ ns) ds rise =
        all_named low high (n ∷ ns) (front low high (spelling_names (n ∷ ns)) ds (behind low high (due (word (codes "IMPORTS"))) (spelling_names (n ∷ ns) ++ ds) rise))

    -- its name, its interface, its imports and its variables stand there
    record Headed (low high : ℕ) : Type 0 where
      name : Lies low high m.name.at
      of_interface : AreIn low high (interface_faults interfaces m.interface)
      imports : AllByRecursion (λ (n : Named). Lies low high n.at) m.imports
      variables : AreIn low high (variables_faults written_out (unknown_place interfaces modules i m) (forms interfaces modules i m) 0 (parameters_of (interface interfaces modules i m)) m.variables)

    head_in : (low high : ℕ) → Headed low high → AreIn low high (head_faults interfaces modules i m)
    head_in low high h =
        let own = interface interfaces modules i m in
        let at = m.name.at in
        let repeated = faults_if (is_later (module_named modules m.name.name) i) at Repeated in
        let many = faults_if (i == most_modules) at TooMany in
        let shared = faults_if (is_some (shared_at modules i)) at cause.Shared in
        let names = name_faults modules i m in
        let of_interface = interface_faults interfaces m.interface in
        let imports = imports_faults modules i m.imports in
        let missing = missing_faults own m in
        let variables = variables_faults written_out (unknown_place interfaces modules i m) (forms interfaces modules i m) 0 (parameters_of own) m.variables in
        let state = state_faults (unknown_place interfaces modules i m) (forms interfaces modules i m) (parameters_of own) m in
        let names_in = joined low high (repeated ++ many) shared
        (joined low high repeated many (one low high (is_later (module_named modules m.name.name) i) at Repeated h.name) (one low high (i == most_modules) at TooMany h.name))
        (one low high (is_some (shared_at modules i)) at cause.Shared h.name) in
        let is_large = is_clean (plain_faults (unknown_place interfaces modules i m) (parameters_of own) m.variables) && nat_lt most_zero_bytes (zero_size_of (fields_of (forms interfaces modules i m) m.variables)) in
        joined low high ((((names ++ of_interface) ++ imports) ++ missing) ++ variables) state
        (joined low high (((names ++ of_interface) ++ imports) ++ missing) variables
        (joined low high ((names ++ of_interface) ++ imports) missing
        (joined low high (names ++ of_interface) imports (joined low high names of_interface names_in h.of_interface) (imports_in low high m.imports h.imports))
        (one low high (is_some (first_missing own m.procedures)) at Missing h.name))
        h.variables)
        (one low high is_large at TooLarge h.name)

    -- ---- a module

    record Whole (low high : ℕ) (found : Faults) : Type 0 where
      order : IsInOrder interfaces modules i m found
      within : AreIn low high (module_all interfaces modules i m)

    whole : (low mid high : ℕ) (found : Faults) → low ≤ mid → mid ≤ high → AreIn 0 low found → Headed low mid
        → ((before_it : Faults) → AreIn 0 mid before_it → Ordered mid high before_it (variables_parts written_out (forms interfaces modules i m) 0 m.variables) no_name m.procedures)
        → Whole low high found
    whole low mid high found up over before_it headed procedures =
        let head = head_faults interfaces modules i m in
        let head_there = head_in low mid headed in
        let ordered = procedures (found ++ head) (joined 0 mid found head (wider 0 low 0 mid found (omega arith) up before_it) (wider low mid 0 mid head (omega arith) (omega arith) head_there)) in
        record {
          order = ordered.order;
          within = joined low high head (procedures_all interfaces modules i m (variables_parts written_out (forms interfaces modules i m) 0 m.variables) no_name m.procedures)
              (wider low mid low high head (omega arith) over head_there) (wider mid high low high _ up (omega arith) ordered.within);
        }

  -- the interface of a module, and its imports, stand behind its name
  module_in : (low high : ℕ) (found : Faults) (i : ℕ) (w : WrittenModule) → IsModule w → AreIn 0 low found → Rise low high (spelling_module w) → Whole i (module_stands_for w) low high found
  module_in low high found i (serving n interface_name ns vs ps) (name_good, interface_good, imports_good, variables_good, procedures_good) before_it rise =
      let m = module_stands_for (serving n interface_name ns vs ps) in
      let variables = each spelling_variable vs in
      let procedures = each spelling_procedure ps in
      let named_so = due (word (codes "IMPLEMENTS")) ∷ due_name interface_name ∷ spelling_heading ns in
      let begun = due (word (codes "MODULE")) ∷ due_name n ∷ named_so in
      let s = split low high begun (variables ++ (procedures ++ module_closing)) rise in
      let t = split s.mid high variables (procedures ++ module_closing) s.back in
      let u = split t.mid high procedures module_closing t.back in
      let over = below s.mid t.mid variables t.front in
      let up : low ≤ t.mid = omega (arith, below low s.mid begun s.front, over) in
      let ends = below u.mid high module_closing u.back in
      let name = behind low s.mid (due (word (codes "MODULE"))) (due_name n ∷ named_so) s.front in
      let of_interface = behind low s.mid (due (word (codes "IMPLEMENTS"))) (due_name interface_name ∷ spelling_heading ns) (behind low s.mid (due_name n) named_so name) in
      let imports = behind low s.mid (due_name interface_name) (spelling_heading ns) of_interface in
      whole i m low t.mid high found up (omega (arith, below t.mid u.mid procedures u.front, ends)) before_it
      (record {
        name = lies_wider low s.mid low t.mid n.at (omega arith) over (named low s.mid n named_so name);
        of_interface = one low t.mid (is_none (interface_called interfaces interface_name)) interface_name.at Unknown
            (lies_wider low s.mid low t.mid interface_name.at (omega arith) over (named low s.mid interface_name (spelling_heading ns) of_interface));
        imports = all_wider low s.mid t.mid ns over (listed_imports i m low s.mid ns (semicolon ∷ due (word (codes "BEGIN")) ∷ []) imports);
        variables = wider s.mid t.mid low t.mid _ (below low s.mid begun s.front) (omega arith)
            (variables_in (unknown_place interfaces modules i m) (told i m) (forms interfaces modules i m) s.mid t.mid 0 (parameters_of (interface interfaces modules i m)) vs variables_good t.front);
      })
      (λ earlier there. (
      let ordered = procedures_in i m t.mid u.mid earlier (variables_parts written_out (forms interfaces modules i m) 0 vs) no_name ps procedures_good there u.front in
      record { order = ordered.order; within = wider t.mid u.mid t.mid high _ (omega arith) ends ordered.within }))
  module_in low high found i (root n ns vs at b) (name_good, imports_good, variables_good, body_good) before_it rise =
      let m = module_stands_for (root n ns vs at b) in
      let variables = each spelling_variable vs in
      let main = spelling_main at b in
      let begun = due (word (codes "ROOT")) ∷ due_name n ∷ spelling_heading ns in
      let s = split low high begun (variables ++ (main ++ module_closing)) rise in
      let t = split s.mid high variables (main ++ module_closing) s.back in
      let over = below s.mid t.mid variables t.front in
      let up : low ≤ t.mid = omega (arith, below low s.mid begun s.front, over) in
      let name = behind low s.mid (due (word (codes "ROOT"))) (due_name n ∷ spelling_heading ns) s.front in
      let imports = behind low s.mid (due_name n) (spelling_heading ns) name in
      let body = front t.mid high main module_closing t.back in
      whole i m low t.mid high found up (below t.mid high main body) before_it
      (record {
        name = lies_wider low s.mid low t.mid n.at (omega arith) over (named low s.mid n (spelling_heading ns) name);
        of_interface = tt;
        imports = all_wider low s.mid t.mid ns over (listed_imports i m low s.mid ns (semicolon ∷ due (word (codes "BEGIN")) ∷ []) imports);
        variables = wider s.mid t.mid low t.mid _ (below low s.mid begun s.front) (omega arith)
            (variables_in (unknown_place interfaces modules i m) (told i m) (forms interfaces modules i m) s.mid t.mid 0 (parameters_of (interface interfaces modules i m)) vs variables_good t.front);
      })
      (λ earlier there. main_in i m t.mid high earlier (variables_parts written_out (forms interfaces modules i m) 0 vs) no_name at b body_good there body)

  modules_in : (k i low high : ℕ) (found : Faults) (ws : List WrittenModule) → IsEach IsModule ws → AreIn 0 low found → Rise low high (each spelling_module ws)
      → ModulesInOrder interfaces modules found i (take k (map module_stands_for ws))
  modules_in zero i low high found [] well before_it rise = tt
  modules_in zero i low high found (w ∷ ws) well before_it rise = tt
  modules_in (suc k) i low high found [] well before_it rise = tt
  modules_in (suc k) i low high found (w ∷ ws) well before_it rise =
      let s = split low high (spelling_module w) (each spelling_module ws) rise in
      let up = below low s.mid (spelling_module w) s.front in
      let it = module_in low s.mid found i w well.0 before_it s.front in
      let all = module_all interfaces modules i (module_stands_for w) in (
        it.order,
        modules_in k (suc i) s.mid high (found ++ all) ws well.1
            (joined 0 s.mid found all (wider 0 low 0 s.mid found (omega arith) up before_it) (wider low s.mid 0 s.mid all (omega arith) (omega arith) it.within)) s.back,
      )

pub in_order : (interfaces : List Interface) (modules : List ModuleTree) (text : List ℕ) (are : AreModulesOf text modules) → All (IsTokenIn text) are.found × AllPairs IsBefore are.found → AreInOrder interfaces modules
in_order interfaces modules text are lie =
    let own = each spelling_module are.written in
    let (high, rise) = rising_in text (are.before ++ (own ++ are.after)) are.found lie.0 lie.1 are.spelled in
    let rest = back 0 high are.before (own ++ are.after) rise in
    subst (λ ms. ModulesInOrder interfaces modules [] 0 (take (suc most_modules) ms)) (sym are.stand)
    (modules_in interfaces modules (suc most_modules) 0 0 high [] are.written are.good tt (front 0 high own are.after rest))
