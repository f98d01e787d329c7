-- What the modules and nodes of a plan are called, and which numbers its modules declare.
use Rattle.std.specs.List.{AllByRecursion, list_all}
use Rattle.std.specs.Char.{is_ascii_alphanumeric}
use Rattle.std.specs.Option.{option_map_or}
use Rattle.std.specs.Prelude.{slice_get, AllPairs, slice_index_or, find, option_to_list, unwrap_or}
use Rattle.std.proofs.Common.{◌≡◌, ◌≢◌, ◌∙◌, ℕ, zero, suc, ◌+◌, ◌<◌, ◌≤◌, ◌^◌, Bool, true, false, cond, ◌||◌, nat_eq, nat_le, List, [], ◌∷◌, ◌++◌, length, map, Option, Some, None, option_map, option_and_then, refl, sym, ap, subst, arith}
use Rattle.std.proofs.lemmas.Bool.{eqb-true, leb-true, and_parts}
use Rattle.std.proofs.lemmas.List.{length-map}
use Rattle.circus_limits.specs.Limits.{limit_of}
use Rattle.circus_text.specs.Form.{IsWord}
use Rattle.circus_value.specs.ValueTree.{ValueTree}
use Rattle.circus_value.specs.Fits.{all_fit}
use Rattle.circus_value.specs.declared.outcome.Outcome.{Outcome}
use Rattle.circus_value.specs.declared.outcome.Outcome.TheVariants.{Returned, Raised}
use Rattle.circus_idl.specs.declared.interface.DeclaredError.{DeclaredError}
use Rattle.circus_idl.specs.declared.interface.Procedure.{Procedure}
use Rattle.circus_idl.specs.declared.interface.Interface.{Interface}
use Rattle.circus_idl.specs.Shown.{has_number}
use Rattle.circus_idl.specs.Obeys.{Obeys, ObeysError, ObeysProcedure}
use Rattle.circus_model.specs.Lawful.{procedure_numbered, import_of, arguments_fit, outcome_fits, is_reported, is_raised_by_language, import_takes, import_answers}
use Rattle.circus_model.specs.declared.signature.ErrorShape.{ErrorShape}
use Rattle.circus_model.specs.declared.signature.Import.{Import}
use Rattle.circus_model.specs.declared.signature.ProcedureShape.{ProcedureShape}
use Rattle.circus_model.specs.declared.signature.Signature.{Signature}
use Rattle.circus_collate.specs.declared.deployment.Host.{Host}
use Rattle.circus_collate.specs.declared.deployment.Troupe.{Troupe}
use Rattle.circus_record.specs.Naming.{host_name}
use Rattle.circus_type.specs.Distinct.{AreDistinct}
use Rattle.circus_check.specs.Meaning.{ModuleMeant}
use Rattle.circus_check.specs.Resolved.{module_as}
use Rattle.circus_modules.specs.InterfaceSignatures.{error_of, error_numbered, errors_numbered, procedure_of}
use Rattle.circus_modules.specs.Signatures.{procedures_if, procedures_offered, interface_numbers, signature_of}
use Rattle.circus_modules.specs.Signatures as signatures
use Rattle.circus_node.specs.Accepting.{is_root}
use Rattle.circus_config.specs.declared.plan.Plan.{Plan}
use Rattle.circus_config.specs.Program.{IsPlan}
use Rattle.circus_audit.specs.Possible.{declared_by}
use Rattle.circus_audit.specs.Seen.Reading.{node_names}
use Rattle.circus_audit.specs.Seen.Values.{procedure_of_import}
use Rattle.circus_audit.proofs.Plans.{few_names}
use Rattle.circus_audit.proofs.Completing.{AreNames}
use Rattle.circus_audit.proofs.CompletingNames.{word_letters, host_letters, Differ, are_names}
use Rattle.circus_audit.proofs.CompletingOutcomes.{CanEnd}

-- ---- names

differ_later : (h : Host) (hs : List Host) → ((j : ℕ) (d : Host) → j < length hs → h.name ≢ (slice_index_or hs j d).name) → AllByRecursion (λ (o : List ℕ). h.name ≢ o) (map host_name hs)
differ_later h [] all = tt
differ_later h (x ∷ xs) all = (all 0 x (omega arith), differ_later h xs (λ j d within. all (suc j) d (omega (arith, within))))

hosts_differ : (hs : List Host) → AllPairs (λ (a b : Host). a.name ≢ b.name) hs → Differ (map host_name hs)
hosts_differ [] pairs = tt
hosts_differ (h ∷ hs) pairs = (
  differ_later h hs (λ j d within. pairs 0 (suc j) d (omega arith) (omega (arith, within))),
  hosts_differ hs (λ i j d less within. pairs (suc i) (suc j) d (omega (arith, less)) (omega (arith, within))),
)

hosts_letters : (hs : List Host) → ((n : ℕ) (h : Host) → slice_get hs n ≡ Some h → list_all is_ascii_alphanumeric h.name ≡ true) → AllByRecursion (λ (name : List ℕ). list_all is_ascii_alphanumeric name ≡ true) (map host_name hs)
hosts_letters [] all = tt
hosts_letters (h ∷ hs) all = (all 0 h refl, hosts_letters hs (λ n x is. all (suc n) x is))

pub nodes_named : (plan : Plan) → IsPlan plan → AreNames (node_names plan)
nodes_named plan is = are_names (node_names plan) (hosts_letters plan.deployment.nodes (λ n h at. host_letters h.name (is.deployed.nodes n h at).name)) (hosts_differ plan.deployment.nodes is.deployed.names_differ)

words_letters : (names : List (List ℕ)) → AllByRecursion IsWord names → AllByRecursion (λ (name : List ℕ). list_all is_ascii_alphanumeric name ≡ true) names
words_letters [] all = tt
words_letters (name ∷ names) all = (word_letters name all.0, words_letters names all.1)

distinct_differ : (names : List (List ℕ)) → AreDistinct names → Differ names
distinct_differ [] differ = tt
distinct_differ (name ∷ names) differ = (differ.0, distinct_differ names differ.1)

pub modules_named : (plan : Plan) → IsPlan plan → plan.names ≡ map (λ (m : ModuleMeant). m.name) (map module_as plan.checked.modules) → AllByRecursion IsWord plan.names → AreNames plan.names
modules_named plan is named words = are_names plan.names (words_letters plan.names words) (subst Differ (sym named) (distinct_differ (map (λ (m : ModuleMeant). m.name) (map module_as plan.checked.modules)) is.well_formed.names))

-- ---- numbers of two bytes

-- the number of an error that the procedure may report
abbrev pub AreSmall : ProcedureShape → Type 0
AreSmall p = AllByRecursion (λ (e : ErrorShape). e.number < 2 ^ 16) p.errors

abbrev pub IsSmallProcedure : ProcedureShape → Type 0
IsSmallProcedure p = (p.number < 2 ^ 16) × AreSmall p

abbrev pub AreSmallProcedures : List ProcedureShape → Type 0
AreSmallProcedures ps = AllByRecursion IsSmallProcedure ps

pub found_all : {X : Type 0} (P : X → Type 0) (test : X → Bool) (xs : List X) (x : X) → AllByRecursion P xs → find test xs ≡ Some x → P x × (test x ≡ true)
found_all P test [] x all is = cc
found_all P test (y ∷ ys) x all is = by_test (test y) refl (λ read. found_all P test ys x all.1 read) is
  where
    by_test : (b : Bool) → test y ≡ b → (find test ys ≡ Some x → P x × (test x ≡ true)) → cond b (Some y) (find test ys) ≡ Some x → P x × (test x ≡ true)
    by_test true passes later read =
        let same : y ≡ x = cc in
        (subst P same all.0, ap test (sym same) ∙ passes)
    by_test false fails later read = later read

joined_all : {X : Type 0} (P : X → Type 0) (xs ys : List X) → AllByRecursion P xs → AllByRecursion P ys → AllByRecursion P (xs ++ ys)
joined_all P [] ys first second = second
joined_all P (x ∷ xs) ys first second = (first.0, joined_all P xs ys first.1 second)

one_error : (declared : List DeclaredError) (n : ℕ) → AllByRecursion ObeysError declared → AllByRecursion (λ (e : ErrorShape). e.number < 2 ^ 16) (error_numbered declared n)
one_error declared n obey = by_found (find (has_number n) declared) refl
  where
    by_found : (o : Option DeclaredError) → find (has_number n) declared ≡ o → AllByRecursion (λ (e : ErrorShape). e.number < 2 ^ 16) (map error_of (option_to_list o))
    by_found (Some e) is =
        let range = (found_all ObeysError (has_number n) declared e obey is).0.in_range in
        (omega (arith, range), tt)
    by_found None is = tt

all_errors : (declared : List DeclaredError) (ns : List ℕ) → AllByRecursion ObeysError declared → AllByRecursion (λ (e : ErrorShape). e.number < 2 ^ 16) (errors_numbered declared ns)
all_errors declared [] obey = tt
all_errors declared (n ∷ ns) obey = joined_all (λ (e : ErrorShape). e.number < 2 ^ 16) (error_numbered declared n) (errors_numbered declared ns) (one_error declared n obey) (all_errors declared ns obey)

procedures_small : (i : Interface) (ps : List Procedure) → AllByRecursion ObeysError i.errors → AllByRecursion (ObeysProcedure i.errors) ps → AreSmallProcedures (map (procedure_of i.errors) ps)
procedures_small i [] errors all = tt
procedures_small i (p ∷ ps) errors all =
    let range = all.0.in_range in
    ((omega (arith, range), all_errors i.errors p.reports errors), procedures_small i ps errors all.1)

pub some_interface : (interfaces : List Interface) (n : ℕ) (i : Interface) → AllByRecursion Obeys interfaces → slice_get interfaces n ≡ Some i → Obeys i
some_interface [] n i all is = cc
some_interface (x ∷ xs) zero i all is = let same : x ≡ i = cc in subst Obeys same all.0
some_interface (x ∷ xs) (suc n) i all is = some_interface xs n i all.1 is

offered_small : (interfaces : List Interface) (o : Option ℕ) → AllByRecursion Obeys interfaces → AreSmallProcedures (procedures_offered interfaces o)
offered_small interfaces None obey = ((omega arith, tt), tt)
offered_small interfaces (Some n) obey = by_interface (slice_get interfaces n) refl
  where
    by_interface : (o : Option Interface) → slice_get interfaces n ≡ o → AreSmallProcedures (procedures_if o)
    by_interface (Some i) is = let obeys = some_interface interfaces n i obey is in procedures_small i i.procedures obeys.errors obeys.procedures
    by_interface None is = tt

-- ---- signatures

-- an import of a program of so many modules
abbrev pub IsSmallImport : ℕ → Import → Type 0
IsSmallImport modules i = (i.module < modules) × AreSmallProcedures i.procedures

-- what a module declares
pub record IsSmall (modules : ℕ) (s : Signature) : Type 0 where
  pub procedures : AreSmallProcedures s.procedures
  pub imports : AllByRecursion (IsSmallImport modules) s.imports

imports_small : (interfaces : List Interface) (numbers : List (Option ℕ)) (modules : ℕ) (ks : List ℕ) → AllByRecursion Obeys interfaces → AllByRecursion (λ (k : ℕ). k < modules) ks → AllByRecursion (IsSmallImport modules) (map (signatures.import_of interfaces numbers) ks)
imports_small interfaces numbers modules [] obey few = tt
imports_small interfaces numbers modules (k ∷ ks) obey few = ((few.0, offered_small interfaces (unwrap_or (slice_get numbers k) None) obey), imports_small interfaces numbers modules ks obey few.1)

at_within : {X : Type 0} (xs : List X) (n : ℕ) (x : X) → slice_get xs n ≡ Some x → n < length xs
at_within [] n x is = cc
at_within (y ∷ ys) zero x is = omega arith
at_within (y ∷ ys) (suc n) x is = let less = at_within ys n x is in omega (arith, less)

weaker : {X : Type 0} (P Q : X → Type 0) (xs : List X) → ((x : X) → P x → Q x) → AllByRecursion P xs → AllByRecursion Q xs
weaker P Q [] f all = tt
weaker P Q (x ∷ xs) f all = (f x all.0, weaker P Q xs f all.1)

pub many_modules : (plan : Plan) → plan.names ≡ map (λ (m : ModuleMeant). m.name) (map module_as plan.checked.modules) → length plan.names ≡ length (map module_as plan.checked.modules)
many_modules plan named = ap length named ∙ length-map (map module_as plan.checked.modules) (λ (m : ModuleMeant). m.name)

pub declared_small : (plan : Plan) (number : ℕ) (s : Signature) → IsPlan plan → plan.names ≡ map (λ (m : ModuleMeant). m.name) (map module_as plan.checked.modules) → declared_by plan number ≡ Some s → IsSmall (length plan.names) s
declared_small plan number s is named declared = by_module (slice_get (map module_as plan.checked.modules) number) refl declared
  where
    by_module : (o : Option ModuleMeant) → slice_get (map module_as plan.checked.modules) number ≡ o → option_map (signature_of (limit_of plan.deployment.format) plan.checked.interfaces (interface_numbers (map module_as plan.checked.modules))) o ≡ Some s → IsSmall (length plan.names) s
    by_module None at read = cc
    by_module (Some m) at read =
        let modules = map module_as plan.checked.modules in
        let made : signature_of (limit_of plan.deployment.format) plan.checked.interfaces (interface_numbers modules) m ≡ s = cc in
        let well = is.well_formed.each number m at in
        let within = at_within modules number m at in
        let count = many_modules plan named in
        subst (IsSmall (length plan.names)) made (record {
          procedures = offered_small plan.checked.interfaces m.interface is.obey;
          imports = imports_small plan.checked.interfaces (interface_numbers modules) (length plan.names) m.imports is.obey (weaker (λ (k : ℕ). (k < number) × (other : ModuleMeant) × (slice_get modules k ≡ Some other) × (other.root ≡ false)) (λ (k : ℕ). k < length plan.names) m.imports (λ k good. let less = good.0 in omega (arith, less, within, count)) well.imports);
        })

pub declared_within : (plan : Plan) (number : ℕ) (s : Signature) → plan.names ≡ map (λ (m : ModuleMeant). m.name) (map module_as plan.checked.modules) → declared_by plan number ≡ Some s → number < length plan.names
declared_within plan number s named declared = by_module (slice_get (map module_as plan.checked.modules) number) refl declared
  where
    by_module : (o : Option ModuleMeant) → slice_get (map module_as plan.checked.modules) number ≡ o → option_map (signature_of (limit_of plan.deployment.format) plan.checked.interfaces (interface_numbers (map module_as plan.checked.modules))) o ≡ Some s → number < length plan.names
    by_module None at read = cc
    by_module (Some m) at read =
        let within = at_within (map module_as plan.checked.modules) number m at in
        let count = many_modules plan named in
        omega (arith, within, count)

-- ---- roots

pub root_within : (plan : Plan) (root : ℕ) → IsPlan plan → plan.names ≡ map (λ (m : ModuleMeant). m.name) (map module_as plan.checked.modules) → is_root plan.deployment root ≡ true → root < length plan.names
root_within plan root is named are = by_troupe (slice_get plan.deployment.troupes root) refl are
  where
    by_troupe : (o : Option Troupe) → slice_get plan.deployment.troupes root ≡ o → option_map_or (λ (t : Troupe). t.root) o false ≡ true → root < length plan.names
    by_troupe None at read = cc
    by_troupe (Some t) at read =
        let within = at_within plan.deployment.troupes root t at in
        let count = many_modules plan named in
        let troupes : length plan.deployment.troupes ≡ length (map module_as plan.checked.modules) = sym (length-map plan.deployment.troupes (λ (x : Troupe). x.root)) ∙ ap length is.roots ∙ length-map (map module_as plan.checked.modules) (λ (m : ModuleMeant). m.root) in
        omega (arith, within, count, troupes)

-- ---- what is found of them

pub found_procedure : (ps : List ProcedureShape) (number : ℕ) (p : ProcedureShape) → AreSmallProcedures ps → procedure_numbered number ps ≡ Some p → (number < 2 ^ 16) × AreSmall p
found_procedure ps number p small is =
    let found = found_all IsSmallProcedure (λ (q : ProcedureShape). nat_eq q.number number) ps p small is in
    let same = eqb-true p.number number found.1 in
    let own = found.0.0 in
    (omega (arith, own, same), found.0.1)

pub found_import : (modules : ℕ) (imports : List Import) (callee : ℕ) (i : Import) → AllByRecursion (IsSmallImport modules) imports → import_of callee imports ≡ Some i → (callee < modules) × AreSmallProcedures i.procedures
found_import modules imports callee i small is =
    let found = found_all (IsSmallImport modules) (λ (x : Import). nat_eq x.module callee) imports i small is in
    let same = eqb-true i.module callee found.1 in
    let own = found.0.0 in
    (omega (arith, own, same), found.0.1)

language_small : (number : ℕ) (values : List ValueTree) → is_raised_by_language number values ≡ true → number < 2 ^ 16
language_small number [] is =
    let parts = and_parts (nat_le 60001 number) (nat_le number 60009) is in
    let few = leb-true number 60009 parts.1 in
    omega (arith, few)
language_small number (v ∷ vs) is = cc

reported_small : (errors : List ErrorShape) (number : ℕ) (values : List ValueTree) → AllByRecursion (λ (e : ErrorShape). e.number < 2 ^ 16) errors → is_reported errors number values ≡ true → number < 2 ^ 16
reported_small errors number values small is = by_error (find (λ (e : ErrorShape). nat_eq e.number number) errors) refl is
  where
    by_error : (o : Option ErrorShape) → find (λ (e : ErrorShape). nat_eq e.number number) errors ≡ o → option_map_or (λ (e : ErrorShape). all_fit e.arguments values) o false ≡ true → number < 2 ^ 16
    by_error None at read = cc
    by_error (Some e) at read =
        let found = found_all (λ (x : ErrorShape). x.number < 2 ^ 16) (λ (x : ErrorShape). nat_eq x.number number) errors e small at in
        let same = eqb-true e.number number found.1 in
        let own = found.0 in
        omega (arith, own, same)

-- a procedure ends with an error of two bytes
pub can_end : (p : ProcedureShape) (o : Outcome) → AreSmall p → outcome_fits p o ≡ true → CanEnd p o
can_end p (Returned results) small fits = (fits, tt)
can_end p (Raised number values) small fits = (fits, by_sort (is_reported p.errors number values) refl fits)
  where
    by_sort : (b : Bool) → is_reported p.errors number values ≡ b → (b || is_raised_by_language number values) ≡ true → number < 2 ^ 16
    by_sort true is read = reported_small p.errors number values small is
    by_sort false is read = language_small number values read

-- a procedure that ends so
pub record Ends (ps : List ProcedureShape) (number : ℕ) (o : Outcome) : Type 0 where
  pub shape : ProcedureShape
  pub is_shape : procedure_numbered number ps ≡ Some shape
  pub can : CanEnd shape o

pub ends_so : (ps : List ProcedureShape) (number : ℕ) (o : Outcome) → AreSmallProcedures ps → option_map_or (λ (p : ProcedureShape). outcome_fits p o) (procedure_numbered number ps) false ≡ true → Ends ps number o
ends_so ps number o small is = by_found (procedure_numbered number ps) refl is
  where
    by_found : (r : Option ProcedureShape) → procedure_numbered number ps ≡ r → option_map_or (λ (p : ProcedureShape). outcome_fits p o) r false ≡ true → Ends ps number o
    by_found None at read = cc
    by_found (Some p) at read = record { shape = p; is_shape = at; can = can_end p o (found_procedure ps number p small at).1 read }

-- a procedure that takes these arguments
pub record Takes (ps : List ProcedureShape) (number : ℕ) (arguments : List ValueTree) : Type 0 where
  pub few : number < 2 ^ 16
  pub shape : ProcedureShape
  pub is_shape : procedure_numbered number ps ≡ Some shape
  pub fit : all_fit shape.arguments arguments ≡ true

pub takes_so : (ps : List ProcedureShape) (number : ℕ) (arguments : List ValueTree) → AreSmallProcedures ps → arguments_fit ps number arguments ≡ true → Takes ps number arguments
takes_so ps number arguments small is = by_found (procedure_numbered number ps) refl is
  where
    by_found : (r : Option ProcedureShape) → procedure_numbered number ps ≡ r → option_map_or (λ (p : ProcedureShape). all_fit p.arguments arguments) r false ≡ true → Takes ps number arguments
    by_found None at read = cc
    by_found (Some p) at read = record { few = (found_procedure ps number p small at).0; shape = p; is_shape = at; fit = read }

-- an import's procedure
pub record Wants (modules : ℕ) (imports : List Import) (callee number : ℕ) (arguments : List ValueTree) : Type 0 where
  pub callee_few : callee < modules
  pub few : number < 2 ^ 16
  pub shape : ProcedureShape
  pub is_shape : procedure_of_import imports callee number ≡ Some shape
  pub fit : all_fit shape.arguments arguments ≡ true

pub wants_so : (modules : ℕ) (imports : List Import) (callee number : ℕ) (arguments : List ValueTree) → AllByRecursion (IsSmallImport modules) imports → import_takes imports callee number arguments ≡ true → Wants modules imports callee number arguments
wants_so modules imports callee number arguments small is = by_found (import_of callee imports) refl is
  where
    by_found : (r : Option Import) → import_of callee imports ≡ r → option_map_or (λ (i : Import). arguments_fit i.procedures number arguments) r false ≡ true → Wants modules imports callee number arguments
    by_found None at read = cc
    by_found (Some i) at read =
        let found = found_import modules imports callee i small at in
        let takes = takes_so i.procedures number arguments found.1 read in
        record {
          callee_few = found.0;
          few = takes.few;
          shape = takes.shape;
          is_shape = ap (option_and_then (λ (x : Import). procedure_numbered number x.procedures)) at ∙ takes.is_shape;
          fit = takes.fit;
        }

-- an import's procedure answers so
pub record Answers (imports : List Import) (callee number : ℕ) (o : Outcome) : Type 0 where
  pub shape : ProcedureShape
  pub is_shape : procedure_of_import imports callee number ≡ Some shape
  pub can : CanEnd shape o

pub answers_so : (modules : ℕ) (imports : List Import) (callee number : ℕ) (o : Outcome) → AllByRecursion (IsSmallImport modules) imports → import_answers imports callee number o ≡ true → Answers imports callee number o
answers_so modules imports callee number o small is = by_found (import_of callee imports) refl is
  where
    by_found : (r : Option Import) → import_of callee imports ≡ r → option_map_or (λ (i : Import). option_map_or (λ (p : ProcedureShape). outcome_fits p o) (procedure_numbered number i.procedures) false) r false ≡ true → Answers imports callee number o
    by_found None at read = cc
    by_found (Some i) at read =
        let found = found_import modules imports callee i small at in
        let ends = ends_so i.procedures number o found.1 read in
        record { shape = ends.shape; is_shape = ap (option_and_then (λ (x : Import). procedure_numbered number x.procedures)) at ∙ ends.is_shape; can = ends.can }

-- ---- a plan whose records are read

pub record IsSpelled (plan : Plan) : Type 0 where
  pub nodes : AreNames (node_names plan)
  pub modules : AreNames plan.names
  pub few : length plan.names ≤ 2 ^ 16
  pub roots : (root : ℕ) → is_root plan.deployment root ≡ true → root < length plan.names
  pub hosted : (number : ℕ) (s : Signature) → declared_by plan number ≡ Some s → number < length plan.names
  pub declared : (number : ℕ) (s : Signature) → declared_by plan number ≡ Some s → IsSmall (length plan.names) s

pub plan_spelled : (plan : Plan) → IsPlan plan → plan.names ≡ map (λ (m : ModuleMeant). m.name) (map module_as plan.checked.modules) → AllByRecursion IsWord plan.names → IsSpelled plan
plan_spelled plan is named words = record {
  nodes = nodes_named plan is;
  modules = modules_named plan is named words;
  few = few_names plan is named;
  roots = λ root are. root_within plan root is named are;
  hosted = λ number s declared. declared_within plan number s named declared;
  declared = λ number s declared. declared_small plan number s is named declared;
}
