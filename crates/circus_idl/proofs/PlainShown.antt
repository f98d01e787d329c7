-- What is shown of an interface that obeys the rules are tokens that are due for its tree.
use Rattle.std.proofs.Common.{◌≡◌, ℕ, ◌≤◌, List, [], ◌∷◌, ◌++◌, refl, sym, ◌∙◌, ap, subst, arith, append_assoc, ◌⊎◌}
use Rattle.std.specs.Prelude.{codes}
use Rattle.std.specs.List.{AllByRecursion, flat_map}
use Rattle.circus_text.specs.declared.token.TokenKind.TheVariants.{Word, Sign}
use Rattle.circus_text.specs.Token.{Lexeme, IsSpelling}
use Rattle.circus_value.specs.declared.shape.Label.{Label}
use Rattle.circus_value.specs.ShapeTree.{ShapeTree, FieldTrees, ArmTrees, FieldTree, field_trees, boolean, cardinal, long_cardinal, integer, long_integer, text, enumeration, array, sequence, «record», choice, no_fields, more_fields, no_arms, more_arms}
use Rattle.circus_value.specs.ShapeOf.{tree_of}
use Rattle.circus_syntax.specs.InterfaceTree.{DeclaredTree}
use Rattle.circus_syntax.specs.Placed.{Due, due, due_name}
use Rattle.circus_syntax.specs.Spelling.{comma, each, with_commas, if_written, spelling, spelling_label, spelling_name, spelling_type, spelling_groups, spelling_more_groups, spelling_arms, spelling_more_arms, spelling_fields, spelling_results, spelling_reports, spelling_numbered, spelling_declared}
use Rattle.circus_idl.specs.declared.interface.DeclaredType.{DeclaredType}
use Rattle.circus_idl.specs.declared.interface.DeclaredError.{DeclaredError}
use Rattle.circus_idl.specs.declared.interface.Procedure.{Procedure}
use Rattle.circus_idl.specs.declared.interface.Interface.{Interface}
use Rattle.circus_syntax.specs.Placed.{word, sign}
use Rattle.circus_idl.specs.Shown.{label_lexemes, labels_lexemes, later_labels, type_lexemes, fields_inside, later_fields, arms_inside, later_arms, fields_lexemes, optional_fields, results_lexemes, later_names, reports_lexemes, number_lexemes, head_lexemes, declared_type, declared_error, declared_procedure, signature_lexemes, declared_lexemes, lexemes}
use Rattle.circus_type.specs.Obeys.{IsName, ObeysInside, ObeyFields, ObeyArmTypes, field_names, arm_names, arm_numbers}
use Rattle.circus_idl.specs.Obeys.{Obeys}
use Rattle.circus_idl.proofs.Places.{here, next, past, named_at, numeral_at, AreShown, none, shown_then, level_shown, name_then, number_then, fixed_then, first_then, a_word, a_sign}
use Rattle.circus_idl.proofs.PlainTypes.{label_at, labels_at, type_at, groups_at, arms_at, by_arm, short_number}
use Rattle.circus_type.proofs.InsideObeys.{field_names_are}
use Rattle.circus_idl.proofs.ObeysParts.{AreReports, TypeObeys, FieldsObey, ErrorObeys, ProcedureObeys, PartsObey, fields_obey, error_named}
use Rattle.circus_idl.proofs.PlainDeclared.{group_list_at, group_list_is, fields_at, names_at, reports_at, behind_head, declared_type_at, declared_error_at, declared_procedure_at, all_at, declared_at, at_declared, interface_at}

a_comma : IsSpelling Sign (codes ",")
a_comma = a_sign (codes ",") refl

a_colon : IsSpelling Sign (codes ":")
a_colon = a_sign (codes ":") refl

-- OF and a type
of_then : {ps : List ℕ} {ds : List Due} {ls : List Lexeme} → AreShown ds ls (next ps) → AreShown (due (word (codes "OF")) ∷ ds) (word (codes "OF") ∷ ls) ps
of_then rest = fixed_then (a_word (codes "OF") (refl, refl) refl) rest

label_shown : (l : Label) (ps : List ℕ) → IsName l.name → l.number ≤ 65535 → AreShown (spelling_label (label_at l ps)) (label_lexemes l.name l.number) ps
label_shown l ps named fits =
    name_then named (fixed_then (a_sign (codes "(") refl) (number_then (short_number l.number fits) (fixed_then (a_sign (codes ")") refl) none)))

later_labels_shown : (ls : List Label) (ps : List ℕ) → AllByRecursion (λ (l : Label). IsName l.name) ls → AllByRecursion (λ (l : Label). l.number ≤ 65535) ls → AreShown (each (λ l. comma ∷ spelling_label l) (labels_at ls (next ps))) (later_labels ls) ps
later_labels_shown [] ps named fit = none
later_labels_shown (l ∷ ls) ps named fit =
    fixed_then a_comma (shown_then (label_shown l (next ps) named.0 fit.0) (later_labels_shown ls _ named.1 fit.1))

labels_shown : (ls : List Label) (ps : List ℕ) → AllByRecursion (λ (l : Label). IsName l.name) ls → AllByRecursion (λ (l : Label). l.number ≤ 65535) ls → AreShown (with_commas spelling_label (labels_at ls ps)) (labels_lexemes ls) ps
labels_shown [] ps named fit = none
labels_shown (l ∷ ls) ps named fit = shown_then (label_shown l ps named.0 fit.0) (later_labels_shown ls _ named.1 fit.1)

record_word : IsSpelling Word (codes "RECORD")
record_word = a_word (codes "RECORD") (refl, refl) refl

-- brackets behind what they enclose
bracket_closes : {ps : List ℕ} → AreShown (due (sign (codes "]")) ∷ []) (sign (codes "]") ∷ []) ps
bracket_closes = fixed_then (a_sign (codes "]") refl) none

brace_closes : {ps : List ℕ} → AreShown (due (sign (codes "}")) ∷ []) (sign (codes "}") ∷ []) ps
brace_closes = fixed_then (a_sign (codes "}") refl) none

-- the type of an arm
arm_shown : (s : ShapeTree) (ps : List ℕ) → (s ≡ «record» no_fields) ⊎ ObeysInside s → (ObeysInside s → AreShown (spelling_type (type_at s ps)) (type_lexemes s) ps) → AreShown (spelling_type (type_at s ps)) (type_lexemes s) ps
arm_shown s ps obeys shown =
    by_arm (λ t. AreShown (spelling_type (type_at t ps)) (type_lexemes t) ps) s obeys (level_shown (first_then record_word (fixed_then (a_sign (codes "[") refl) bracket_closes))) shown

mutual
  type_shown : (s : ShapeTree) (ps : List ℕ) → ObeysInside s → AreShown (spelling_type (type_at s ps)) (type_lexemes s) ps
  type_shown boolean ps obeys = first_then (a_word (codes "BOOLEAN") (refl, refl) refl) none
  type_shown cardinal ps obeys = first_then (a_word (codes "CARDINAL") (refl, refl) refl) none
  type_shown long_cardinal ps obeys = first_then (a_word (codes "LONG") (refl, refl) refl) (fixed_then (a_word (codes "CARDINAL") (refl, refl) refl) none)
  type_shown integer ps obeys = first_then (a_word (codes "INTEGER") (refl, refl) refl) none
  type_shown long_integer ps obeys = first_then (a_word (codes "LONG") (refl, refl) refl) (fixed_then (a_word (codes "INTEGER") (refl, refl) refl) none)
  type_shown text ps obeys = first_then (a_word (codes "STRING") (refl, refl) refl) none
  type_shown (enumeration labels) ps obeys =
      first_then (a_sign (codes "{") refl) (shown_then (labels_shown labels (next ps) obeys.named obeys.in_range) brace_closes)
  type_shown (array n s) ps obeys =
      level_shown (first_then (a_word (codes "ARRAY") (refl, refl) refl) (number_then (short_number n obeys.1) (of_then (type_shown s _ obeys.2))))
  type_shown (sequence n s) ps obeys =
      level_shown (first_then (a_word (codes "SEQUENCE") (refl, refl) refl) (number_then (short_number n obeys.0) (of_then (type_shown s _ obeys.1))))
  type_shown («record» fs) ps obeys =
      level_shown (first_then record_word (fixed_then (a_sign (codes "[") refl) (shown_then (fields_shown fs _ obeys.1.named obeys.2) bracket_closes)))
  type_shown (choice arms) ps obeys =
      level_shown (first_then (a_word (codes "CHOICE") (refl, refl) refl)
      (of_then (fixed_then (a_sign (codes "{") refl) (shown_then (arms_shown arms _ obeys.0.named obeys.0.in_range obeys.1) brace_closes))))

  fields_shown : (fs : FieldTrees) (ps : List ℕ) → AllByRecursion IsName (field_names fs) → ObeyFields fs → AreShown (spelling_groups (groups_at fs ps)) (fields_inside fs) ps
  fields_shown no_fields ps named obey = none
  fields_shown (more_fields name s fs) ps named obey =
      name_then named.0 (fixed_then a_colon (shown_then (type_shown s _ obey.0) (later_fields_shown fs _ named.1 obey.1)))

  later_fields_shown : (fs : FieldTrees) (ps : List ℕ) → AllByRecursion IsName (field_names fs) → ObeyFields fs → AreShown (spelling_more_groups (groups_at fs (next ps))) (later_fields fs) ps
  later_fields_shown no_fields ps named obey = none
  later_fields_shown (more_fields name s fs) ps named obey =
      fixed_then a_comma (name_then named.0 (fixed_then a_colon (shown_then (type_shown s _ obey.0) (later_fields_shown fs _ named.1 obey.1))))

  arms_shown : (arms : ArmTrees) (ps : List ℕ) → AllByRecursion IsName (arm_names arms) → AllByRecursion (λ n. n ≤ 65535) (arm_numbers arms) → ObeyArmTypes arms → AreShown (spelling_arms (arms_at arms ps)) (arms_inside arms) ps
  arms_shown no_arms ps named fit obey = none
  arms_shown (more_arms name n s arms) ps named fit obey =
      shown_then (label_shown (record { name = name; number = n }) ps named.0 fit.0)
      (fixed_then (a_sign (codes "=>") (4, omega arith, refl)) (shown_then (arm_shown s _ obey.0 (type_shown s _)) (later_arms_shown arms _ named.1 fit.1 obey.1)))

  later_arms_shown : (arms : ArmTrees) (ps : List ℕ) → AllByRecursion IsName (arm_names arms) → AllByRecursion (λ n. n ≤ 65535) (arm_numbers arms) → ObeyArmTypes arms → AreShown (spelling_more_arms (arms_at arms (next ps))) (later_arms arms) ps
  later_arms_shown no_arms ps named fit obey = none
  later_arms_shown (more_arms name n s arms) ps named fit obey =
      fixed_then a_comma (shown_then (label_shown (record { name = name; number = n }) (next ps) named.0 fit.0)
      (fixed_then (a_sign (codes "=>") (4, omega arith, refl)) (shown_then (arm_shown s _ obey.0 (type_shown s _)) (later_arms_shown arms _ named.1 fit.1 obey.1))))

fields_text_shown : (fs : List FieldTree) (ps : List ℕ) → FieldsObey fs → AreShown (spelling_fields (record { at = here ps; groups = group_list_at fs (next ps) })) (fields_lexemes fs) ps
fields_text_shown fs ps obey =
    first_then (a_sign (codes "[") refl) (shown_then
    (subst (λ gs. AreShown (spelling_groups gs) (fields_inside (field_trees fs)) (next ps)) (sym (group_list_is fs (next ps)))
    (fields_shown (field_trees fs) (next ps) (subst (AllByRecursion IsName) (sym (field_names_are fs)) obey.names.named) (fields_obey fs obey.whole)))
    bracket_closes)

optional_shown : (fs : List FieldTree) (ps : List ℕ) → FieldsObey fs → AreShown (if_written spelling_fields (fields_at fs ps)) (optional_fields fs) ps
optional_shown [] ps obey = none
optional_shown (f ∷ fs) ps obey = fields_text_shown (f ∷ fs) ps obey

results_shown : (fs : List FieldTree) (ps : List ℕ) → FieldsObey fs → AreShown (if_written spelling_results (fields_at fs (next ps))) (results_lexemes fs) ps
results_shown [] ps obey = none
results_shown (f ∷ fs) ps obey = fixed_then (a_word (codes "RETURNS") (refl, refl) refl) (fields_text_shown (f ∷ fs) (next ps) obey)

later_names_shown : (errors : List DeclaredError) (ns ps : List ℕ) → AllByRecursion ErrorObeys errors → AreReports errors ns → AreShown (each (λ n. comma ∷ spelling_name n) (names_at errors ns (next ps))) (later_names errors ns) ps
later_names_shown errors [] ps obey contained = none
later_names_shown errors (n ∷ ns) ps obey contained =
    fixed_then a_comma (name_then (error_named errors n obey contained.0) (later_names_shown errors ns _ obey contained.1))

reports_shown : (errors : List DeclaredError) (ns ps : List ℕ) → AllByRecursion ErrorObeys errors → AreReports errors ns → AreShown (if_written spelling_reports (reports_at errors ns ps)) (reports_lexemes errors ns) ps
reports_shown errors [] ps obey contained = none
reports_shown errors (n ∷ ns) ps obey contained =
    fixed_then (a_word (codes "REPORTS") (refl, refl) refl) (fixed_then (a_sign (codes "[") refl)
    (name_then (error_named errors n obey contained.0) (shown_then (later_names_shown errors ns _ obey contained.1) bracket_closes)))

-- the number at the end of a declaration
numbered_shown : (n : ℕ) (ps : List ℕ) → n ≤ 65535 → AreShown (spelling_numbered (numeral_at n (next ps))) (number_lexemes n) ps
numbered_shown n ps fits =
    fixed_then (a_sign (codes "=") refl) (number_then (short_number n fits) (fixed_then (a_sign (codes ";") refl) none))

-- the name of a declaration and its kind
head_shown : {name kind ps : List ℕ} {ds : List Due} {ls : List Lexeme} → IsName name → IsSpelling Word kind → AreShown ds ls (behind_head ps)
    → AreShown (due_name (named_at name ps) ∷ due (sign (codes ":")) ∷ due (word kind) ∷ ds) (head_lexemes name kind ++ ls) ps
head_shown named spelled rest = name_then named (fixed_then a_colon (fixed_then spelled rest))

declared_type_shown : (t : DeclaredType) (ps : List ℕ) → TypeObeys t → AreShown (spelling_declared (declared_type_at t ps)) (declared_type t) ps
declared_type_shown t ps obeys =
    head_shown obeys.named (a_word (codes "TYPE") (refl, refl) refl)
    (fixed_then (a_sign (codes "=") refl) (shown_then (type_shown (tree_of t.shape) _ obeys.whole.inside) (fixed_then (a_sign (codes ";") refl) none)))

declared_error_shown : (e : DeclaredError) (ps : List ℕ) → ErrorObeys e → AreShown (spelling_declared (declared_error_at e ps)) (declared_error e) ps
declared_error_shown e ps obeys =
    head_shown obeys.named (a_word (codes "ERROR") (refl, refl) refl)
    (shown_then (optional_shown e.arguments _ obeys.arguments) (numbered_shown e.number _ (let fits = obeys.in_range in omega arith)))

-- three parts together before a fourth
three_before : {ds : List Due} (a b c d : List Lexeme) {ps : List ℕ} → AreShown ds (a ++ (b ++ (c ++ d))) ps → AreShown ds (((a ++ b) ++ c) ++ d) ps
three_before {ds} a b c d {ps} = subst (λ ls. AreShown ds ls ps) (sym (append_assoc (a ++ b) c d ∙ append_assoc a b (c ++ d)))

declared_procedure_shown : (errors : List DeclaredError) → AllByRecursion ErrorObeys errors → (p : Procedure) (ps : List ℕ) → ProcedureObeys errors p → AreShown (spelling_declared (declared_procedure_at errors p ps)) (declared_procedure errors p) ps
unfolding signature_lexemes
declared_procedure_shown errors obey p ps obeys =
    head_shown obeys.named (a_word (codes "PROCEDURE") (refl, refl) refl)
    (three_before (optional_fields p.arguments) (results_lexemes p.results) (reports_lexemes errors p.reports) (number_lexemes p.number)
    (shown_then (optional_shown p.arguments _ obeys.arguments)
    (shown_then (results_shown p.results _ obeys.results)
    (shown_then (reports_shown errors p.reports _ obey obeys.reports) (numbered_shown p.number _ obeys.in_range)))))

each-append : {A : Type 0} (spell : A → List Due) (xs ys : List A) → each spell (xs ++ ys) ≡ each spell xs ++ each spell ys
each-append spell [] ys = refl
each-append spell (x ∷ xs) ys = ap (λ ds. spell x ++ ds) (each-append spell xs ys) ∙ sym (append_assoc (spell x) (each spell xs) (each spell ys))

all_shown : {A : Type 0} (at : A → List ℕ → DeclaredTree) (shown : A → List Lexeme) (P : A → Type 0)
    → ((x : A) (ps : List ℕ) → P x → AreShown (spelling_declared (at x ps)) (shown x) ps)
    → (xs : List A) (ps : List ℕ) → AllByRecursion P xs → AreShown (each spelling_declared (all_at at shown xs ps)) (flat_map shown xs) ps
all_shown at shown P one [] ps all = none
all_shown at shown P one (x ∷ xs) ps all = shown_then (one x ps all.0) (all_shown at shown P one xs _ all.1)

-- declarations, and others behind them
declared_then : (ds es : List DeclaredTree) (ls ms : List Lexeme) (ps : List ℕ) → AreShown (each spelling_declared ds) ls ps → AreShown (each spelling_declared es) ms (past ls ps) → AreShown (each spelling_declared (ds ++ es)) (ls ++ ms) ps
declared_then ds es ls ms ps front back =
    subst (λ us. AreShown us (ls ++ ms) ps) (sym (each-append spelling_declared ds es)) (shown_then front back)

declared_shown : (i : Interface) (ps : List ℕ) → PartsObey i → AreShown (each spelling_declared (declared_at i ps)) (declared_lexemes i) ps
declared_shown i ps obey =
    let types = flat_map declared_type i.types in
    let errors = flat_map declared_error i.errors in
    let procedures = flat_map (declared_procedure i.errors) i.procedures in
    subst (λ ls. AreShown (each spelling_declared (declared_at i ps)) ls ps) (sym (append_assoc types errors procedures))
    (declared_then _ _ types _ ps (all_shown declared_type_at declared_type TypeObeys declared_type_shown i.types ps obey.types)
    (declared_then _ _ errors procedures _ (all_shown declared_error_at declared_error ErrorObeys declared_error_shown i.errors _ obey.errors)
    (all_shown (declared_procedure_at i.errors) (declared_procedure i.errors) (ProcedureObeys i.errors) (declared_procedure_shown i.errors obey.errors) i.procedures _ obey.procedures)))

-- all of an interface
pub interface_shown : (i : Interface) (ps : List ℕ) → Obeys i → PartsObey i → AreShown (spelling (interface_at i ps)) (lexemes i) ps
interface_shown i ps obeys obey =
    name_then obeys.named (fixed_then a_colon (fixed_then (a_word (codes "PROGRAM") (refl, refl) refl)
    (number_then (let fits = obeys.number in omega arith) (fixed_then (a_word (codes "VERSION") (refl, refl) refl)
    (number_then (short_number i.version obeys.version) (fixed_then (a_sign (codes "=") refl) (fixed_then (a_word (codes "BEGIN") (refl, refl) refl)
    (shown_then (declared_shown i (at_declared ps) obey) (fixed_then (a_word (codes "END") (refl, refl) refl) (fixed_then (a_sign (codes ".") refl) none))))))))))
