-- The tree of an interface that obeys the rules is one of the grammar, and none of its types is too deep.
use Rattle.std.proofs.Common.{ℕ, ◌≤◌, List, [], ◌∷◌, ◌++◌, sym, subst, arith}
use Rattle.std.specs.List.{AllByRecursion}
use Rattle.circus_text.specs.Token.{Lexeme}
use Rattle.circus_value.specs.ShapeTree.{FieldTree, field_trees}
use Rattle.circus_value.specs.ShapeOf.{tree_of}
use Rattle.circus_syntax.specs.InterfaceTree.{DeclaredTree}
use Rattle.circus_syntax.specs.TypeTree.{group_trees}
use Rattle.circus_syntax.specs.Spelling as spelling
use Rattle.circus_syntax.specs.Spelling.{IsEach, IsListed, IfWritten, AreGroups, AreFields, IsDeclared, declared_levels, group_levels, field_levels, IsGrammatical, IsWithin, most_levels}
use Rattle.circus_idl.specs.declared.interface.DeclaredType.{DeclaredType}
use Rattle.circus_idl.specs.declared.interface.DeclaredError.{DeclaredError}
use Rattle.circus_idl.specs.declared.interface.Procedure.{Procedure}
use Rattle.circus_idl.specs.declared.interface.Interface.{Interface}
use Rattle.circus_idl.specs.Shown.{type_lexemes, declared_type, declared_error, declared_procedure}
use Rattle.circus_type.specs.Together.{shapes_of}
use Rattle.circus_type.specs.Obeys.{IsName, ObeysWhole}
use Rattle.circus_idl.specs.Obeys.{Obeys}
use Rattle.circus_idl.proofs.Places.{next, past}
use Rattle.circus_idl.proofs.PlainRules.{type_is, fields_are, levels_are}
use Rattle.circus_type.proofs.InsideObeys.{field_names_are}
use Rattle.circus_idl.proofs.ObeysParts.{AreReports, TypeObeys, FieldsObey, ErrorObeys, ProcedureObeys, PartsObey, fields_obey, error_named}
use Rattle.circus_idl.proofs.PlainDeclared.{behind_head, behind_arguments, group_list_at, group_list_is, fields_at, names_at, reports_at, declared_type_at, declared_error_at, declared_procedure_at, all_at, types_at, errors_at, declared_at, at_declared, interface_at}

fields_grammatical : (fs : List FieldTree) (ps : List ℕ) → FieldsObey fs → IfWritten AreFields (fields_at fs ps)
fields_grammatical [] ps obey = tt
fields_grammatical (f ∷ fs) ps obey =
    subst AreGroups (sym (group_list_is (f ∷ fs) (next ps)))
    (fields_are (field_trees (f ∷ fs)) (next ps) (subst (AllByRecursion IsName) (sym (field_names_are (f ∷ fs))) obey.names.named) (fields_obey (f ∷ fs) obey.whole))

groups_shallow : (fs : List FieldTree) (ps : List ℕ) → AllByRecursion ObeysWhole (shapes_of fs) → group_levels (group_trees (group_list_at fs ps)) ≤ 64
groups_shallow [] ps whole = omega arith
groups_shallow (f ∷ fs) ps whole =
    let shallow = whole.0.shallow in
    omega (arith, levels_are f.shape, groups_shallow fs (next (past (type_lexemes f.shape) (next (next ps)))) whole.1)

fields_shallow : (fs : List FieldTree) (ps : List ℕ) → FieldsObey fs → field_levels (fields_at fs ps) ≤ 64
fields_shallow [] ps obey = omega arith
fields_shallow (f ∷ fs) ps obey = groups_shallow (f ∷ fs) (next ps) obey.whole

names_grammatical : (errors : List DeclaredError) (ns ps : List ℕ) → AllByRecursion ErrorObeys errors → AreReports errors ns → IsEach spelling.IsName (names_at errors ns ps)
names_grammatical errors [] ps obey contained = tt
names_grammatical errors (n ∷ ns) ps obey contained = (error_named errors n obey contained.0, names_grammatical errors ns _ obey contained.1)

reports_grammatical : (errors : List DeclaredError) (ns ps : List ℕ) → AllByRecursion ErrorObeys errors → AreReports errors ns → IfWritten (IsListed spelling.IsName) (reports_at errors ns ps)
reports_grammatical errors [] ps obey contained = tt
reports_grammatical errors (n ∷ ns) ps obey contained = names_grammatical errors (n ∷ ns) (next (next ps)) obey contained

-- a declaration of the grammar that isn't too deep
abbrev IsSound : DeclaredTree → Type 0
IsSound d = IsDeclared d × (declared_levels d ≤ 64)

type_sound : (t : DeclaredType) (ps : List ℕ) → TypeObeys t → IsSound (declared_type_at t ps)
type_sound t ps obeys = (
  (obeys.named, type_is (tree_of t.shape) _ obeys.whole.inside),
  let shallow = obeys.whole.shallow in omega (arith, levels_are (tree_of t.shape)),
)

error_sound : (e : DeclaredError) (ps : List ℕ) → ErrorObeys e → IsSound (declared_error_at e ps)
error_sound e ps obeys = (
  (obeys.named, fields_grammatical e.arguments _ obeys.arguments, let fits = obeys.in_range in omega arith),
  fields_shallow e.arguments _ obeys.arguments,
)

procedure_sound : (errors : List DeclaredError) → AllByRecursion ErrorObeys errors → (p : Procedure) (ps : List ℕ) → ProcedureObeys errors p → IsSound (declared_procedure_at errors p ps)
procedure_sound errors obey p ps obeys = (
  (
    obeys.named,
    fields_grammatical p.arguments _ obeys.arguments,
    fields_grammatical p.results _ obeys.results,
    reports_grammatical errors p.reports _ obey obeys.reports,
    let fits = obeys.in_range in omega arith,
  ),
  omega (arith, fields_shallow p.arguments (behind_head ps) obeys.arguments, fields_shallow p.results (next (behind_arguments p ps)) obeys.results),
)

each_then : {A : Type 0} (P : A → Type 0) (xs ys : List A) → IsEach P xs → IsEach P ys → IsEach P (xs ++ ys)
each_then P [] ys front back = back
each_then P (x ∷ xs) ys front back = (front.0, each_then P xs ys front.1 back)

each_part : {A : Type 0} (P Q : A → Type 0) → ((x : A) → P x → Q x) → (xs : List A) → IsEach P xs → IsEach Q xs
each_part P Q part [] all = tt
each_part P Q part (x ∷ xs) all = (part x all.0, each_part P Q part xs all.1)

all_sound : {A : Type 0} (at : A → List ℕ → DeclaredTree) (shown : A → List Lexeme) (P : A → Type 0) → ((x : A) (ps : List ℕ) → P x → IsSound (at x ps)) → (xs : List A) (ps : List ℕ) → AllByRecursion P xs → IsEach IsSound (all_at at shown xs ps)
all_sound at shown P one [] ps all = tt
all_sound at shown P one (x ∷ xs) ps all = (one x ps all.0, all_sound at shown P one xs _ all.1)

declared_sound : (i : Interface) (ps : List ℕ) → PartsObey i → IsEach IsSound (declared_at i ps)
declared_sound i ps obey =
    each_then IsSound (types_at i.types ps) _ (all_sound declared_type_at declared_type TypeObeys type_sound i.types ps obey.types)
    (each_then IsSound (errors_at i.errors _) _ (all_sound declared_error_at declared_error ErrorObeys error_sound i.errors _ obey.errors)
    (all_sound (declared_procedure_at i.errors) (declared_procedure i.errors) (ProcedureObeys i.errors) (procedure_sound i.errors obey.errors) i.procedures _ obey.procedures))

-- the tree is one of the grammar
pub interface_grammatical : (i : Interface) (ps : List ℕ) → Obeys i → PartsObey i → IsGrammatical (interface_at i ps)
interface_grammatical i ps obeys obey = (
  obeys.named,
  let fits = obeys.number in omega arith,
  let fits = obeys.version in omega arith,
  each_part IsSound IsDeclared (λ d sound. sound.0) _ (declared_sound i (at_declared ps) obey),
)

-- none of its types is too deep
pub interface_within : (i : Interface) (ps : List ℕ) → PartsObey i → IsWithin most_levels (interface_at i ps)
interface_within i ps obey = each_part IsSound (λ d. declared_levels d ≤ 64) (λ d sound. sound.1) _ (declared_sound i (at_declared ps) obey)
