-- Interfaces and their levels: what is read of one with more levels, and where it stops with fewer.
use Rattle.std.proofs.Common.{ℕ, ◌<◌, ◌≤◌, List, [], ◌∷◌, ◌++◌, refl, arith, inl, inr}
use Rattle.std.specs.Prelude.{Bool, Option, Some, None, codes}
use Rattle.std.proofs.Math.Nat.{max-le}
use Rattle.circus_syntax.specs.declared.interface_text.FieldsText.{FieldsText}
use Rattle.circus_syntax.specs.TypeTree.{group_trees}
use Rattle.circus_syntax.specs.InterfaceTree.{DeclaredTree, a_type, an_error, a_procedure, InterfaceTree}
use Rattle.circus_syntax.specs.Placed.{Placed, is_lexeme, is_name, word, sign, Due, due, due_number, AreWithin}
use Rattle.circus_syntax.specs.Reader.{Reader, optional}
use Rattle.circus_syntax.specs.Reading.{name, stop_in_list, fields, arguments, results, error_names, reports, number_at_end, a_type_behind, an_error_behind, a_procedure_behind, declared_of_parts, Declaring, of_type, of_error, of_procedure, declared_start, parts_behind, one_declaration, heading, declarations, interface_of_parts, interface}
use Rattle.circus_syntax.specs.Spelling.{each, if_written, spelling_type, spelling_groups, spelling_fields, spelling_results, spelling_reports, spelling_numbered, spelling_declared, spelling, IsEach, field_levels, declared_levels, IsGrammatical, IsWithin}
use Rattle.circus_syntax.proofs.Opened.{within_front, within_back}
use Rattle.circus_syntax.proofs.Sound.{Sound, sound_nothing, sound_both, sound_cased}
use Rattle.circus_syntax.proofs.Repeats.{Shrinks, sound_optional}
use Rattle.circus_syntax.proofs.Complete.{Any, Opens}
use Rattle.circus_syntax.proofs.Tokens.{sound_fixed, sound_number, shrinks_both, shrinks_name, opens_name}
use Rattle.circus_syntax.proofs.Interfaces.{spelling_type_part, spelling_error_parts, spelling_procedure_parts, spelling_parts, spelling_heading, declared_spelled, sound_fields, sound_results, sound_reported, sound_parts, sound_declared, shrinks_declared, sound_declarations, sound_interface, complete_interface}
use Rattle.circus_syntax.proofs.Widens.{Widens, calm_of}
use Rattle.circus_syntax.proofs.Levels.{Levels, levels_at, levels_nothing, levels_both, levels_mapped, levels_cased, levels_either, levels_marked, levels_repeated, widens_of_levels}
use Rattle.circus_syntax.proofs.Lawful.{Lawful, lawful_fixed, lawful_fixed_at, lawful_name, lawful_number, complete_good, sound_good}
use Rattle.circus_syntax.proofs.TypeLevels.{type_shallow, groups_shallow, lawful_names, levels_type, levels_groups}

levels_optional : {A : Type 0} (test : Placed → Bool) (n : ℕ) {p q : Reader → A × Reader} {spell : A → List Due} {Good Better : A → Type 0} → Sound p spell Good → Sound q spell Better → Levels n p q spell
    → Levels n (optional test p) (optional test q) (if_written spell)
levels_optional test n {spell = spell} S S' L =
    levels_either test n (levels_at test n (levels_mapped n (λ x. Some x) (if_written spell) (λ x. refl) L))
    (levels_nothing n None refl (sound_nothing None (if_written spell) (λ x. Unit {0}) tt refl)) (calm_of (sound_optional test S)) (calm_of (sound_optional test S'))

levels_fields : (n m : ℕ) → n < m → Levels n (fields n) (fields m) spelling_fields
unfolding fields
levels_fields n m less =
    levels_marked n stop_in_list (λ at s. refl) (calm_of (sound_fields n)) (calm_of (sound_fields m))
    (levels_mapped n (λ x. record { at = x.0; groups = x.1.0 }) spelling_fields (λ x. refl)
    (levels_both n (lawful_fixed_at n (sign (codes "["))).levels (levels_both n (levels_groups n m less) (lawful_fixed n (sign (codes "]"))).levels)))

levels_arguments : (n m : ℕ) → n < m → Levels n (arguments n) (arguments m) (if_written spelling_fields)
unfolding arguments
levels_arguments n m less = levels_optional (is_lexeme (sign (codes "["))) n (sound_fields n) (sound_fields m) (levels_fields n m less)

levels_results : (n m : ℕ) → n < m → Levels n (results n) (results m) (if_written spelling_results)
unfolding results
levels_results n m less =
    levels_either (is_lexeme (word (codes "RETURNS"))) n
    (levels_at (is_lexeme (word (codes "RETURNS"))) n
    (levels_mapped n (λ x. Some x) (if_written spelling_results) (λ x. refl)
    (levels_mapped n (λ x. x.1) spelling_results (λ x. refl) (levels_both n (lawful_fixed n (word (codes "RETURNS"))).levels (levels_fields n m less)))))
    (levels_nothing n None refl (sound_nothing None (if_written spelling_results) (λ x. Unit {0}) tt refl)) (calm_of (sound_results n)) (calm_of (sound_results m))

levels_reports : (n : ℕ) → Levels n reports reports (if_written spelling_reports)
unfolding reports error_names
levels_reports n =
    levels_optional (is_lexeme (word (codes "REPORTS"))) n sound_reported sound_reported
    (levels_mapped n (λ x. x.1.1.0) spelling_reports (λ x. refl)
    (levels_both n (lawful_fixed n (word (codes "REPORTS"))).levels (levels_both n (lawful_fixed n (sign (codes "["))).levels (levels_both n (lawful_names n).levels (lawful_fixed n (sign (codes "]"))).levels))))

levels_numbered : (n : ℕ) → Levels n number_at_end number_at_end spelling_numbered
unfolding number_at_end
levels_numbered n =
    levels_mapped n (λ x. x.1.0) spelling_numbered (λ x. refl)
    (levels_both n (lawful_fixed n (sign (codes "="))).levels (levels_both n (lawful_number n).levels (lawful_fixed n (sign (codes ";"))).levels))

levels_parts : (n m : ℕ) → n < m → (k : Declaring) → Levels n (parts_behind n k) (parts_behind m k) spelling_parts
unfolding a_type_behind an_error_behind a_procedure_behind
levels_parts n m less of_type =
    levels_mapped n (λ t. inl t) spelling_parts (λ t. refl)
    (levels_mapped n (λ x. x.1.1.0) spelling_type_part (λ x. refl)
    (levels_both n (lawful_fixed n (word (codes "TYPE"))).levels (levels_both n (lawful_fixed n (sign (codes "="))).levels (levels_both n (levels_type n m less) (lawful_fixed n (sign (codes ";"))).levels))))
levels_parts n m less of_error =
    levels_mapped n (λ x. inr (inl x)) spelling_parts (λ x. refl)
    (levels_mapped n (λ x. x.1) spelling_error_parts (λ x. refl)
    (levels_both n (lawful_fixed n (word (codes "ERROR"))).levels (levels_both n (levels_arguments n m less) (levels_numbered n))))
levels_parts n m less of_procedure =
    levels_mapped n (λ x. inr (inr x)) spelling_parts (λ x. refl)
    (levels_mapped n (λ x. x.1) spelling_procedure_parts (λ x. refl)
    (levels_both n (lawful_fixed n (word (codes "PROCEDURE"))).levels
    (levels_both n (levels_arguments n m less) (levels_both n (levels_results n m less) (levels_both n (levels_reports n) (levels_numbered n))))))

levels_declared : (n m : ℕ) → n < m → Levels n (one_declaration n) (one_declaration m) spelling_declared
unfolding one_declaration
levels_declared n m less =
    levels_mapped n (λ x. declared_of_parts x.0 x.1.1) spelling_declared declared_spelled
    (levels_both n (lawful_name n).levels (levels_both n (lawful_fixed n (sign (codes ":"))).levels
    (levels_cased declared_start n (parts_behind n) (parts_behind m) (calm_of (sound_cased declared_start (parts_behind n) (sound_parts n))) (calm_of (sound_cased declared_start (parts_behind m) (sound_parts m)))
    (levels_parts n m less of_type).filled (λ k ts e is. (levels_parts n m less k).reaches ts e))))

levels_declarations : (n m : ℕ) → n < m → Levels n (declarations n) (declarations m) (each spelling_declared)
unfolding declarations
levels_declarations n m less =
    levels_repeated is_name n (shrinks_declared n) (shrinks_declared m) (sound_declared n) (sound_declared m) (levels_at is_name n (levels_declared n m less))

levels_heading : (n : ℕ) → Levels n heading heading spelling_heading
unfolding heading
levels_heading n =
    levels_mapped n (λ x. (x.0, (x.1.1.1.0, x.1.1.1.1.1.0))) spelling_heading (λ x. refl)
    (levels_both n (lawful_name n).levels (levels_both n (lawful_fixed n (sign (codes ":"))).levels (levels_both n (lawful_fixed n (word (codes "PROGRAM"))).levels (levels_both n (lawful_number n).levels
    (levels_both n (lawful_fixed n (word (codes "VERSION"))).levels (levels_both n (lawful_number n).levels
    (levels_both n (lawful_fixed n (sign (codes "="))).levels (lawful_fixed n (word (codes "BEGIN"))).levels)))))))

levels_interface : (n m : ℕ) → n < m → Levels n (interface n) (interface m) spelling
unfolding interface
levels_interface n m less =
    levels_mapped n interface_of_parts spelling (λ x. refl)
    (levels_both n (levels_heading n) (levels_both n (levels_declarations n m less) (levels_both n (lawful_fixed n (word (codes "END"))).levels (lawful_fixed n (sign (codes "."))).levels)))

pub widens_interface : (n m : ℕ) → n < m → Widens (interface n) (interface m)
widens_interface n m less = widens_of_levels n (levels_interface n m less)

-- What stands no deeper has no more levels.

fields_shallow : (n : ℕ) (o : Option FieldsText) → AreWithin n (if_written spelling_fields o) → field_levels o ≤ n
fields_shallow n None within = omega arith
fields_shallow n (Some f) within = groups_shallow n (group_trees f.groups) (within_front n (spelling_groups (group_trees f.groups)) (due (sign (codes "]")) ∷ []) within.1)

results_shallow : (n : ℕ) (o : Option FieldsText) → AreWithin n (if_written spelling_results o) → field_levels o ≤ n
results_shallow n None within = omega arith
results_shallow n (Some f) within = fields_shallow n (Some f) within.1

declared_shallow : (n : ℕ) (d : DeclaredTree) → AreWithin n (spelling_declared d) → declared_levels d ≤ n
declared_shallow n (a_type k t) within = type_shallow n t (within_front n (spelling_type t) (due (sign (codes ";")) ∷ []) within.1.1.1.1)
declared_shallow n (an_error e) within = fields_shallow n e.arguments (within_front n (if_written spelling_fields e.arguments) (spelling_numbered e.number) within.1.1.1)
declared_shallow n (a_procedure p) within =
    let last = if_written spelling_reports p.reports ++ spelling_numbered p.number in
    let behind_arguments = within_back n (if_written spelling_fields p.arguments) (if_written spelling_results p.results ++ last) within.1.1.1 in
    max-le (fields_shallow n p.arguments (within_front n (if_written spelling_fields p.arguments) (if_written spelling_results p.results ++ last) within.1.1.1))
    (results_shallow n p.results (within_front n (if_written spelling_results p.results) last behind_arguments))

each_shallow : (n : ℕ) (ds : List DeclaredTree) → AreWithin n (each spelling_declared ds) → IsEach (λ d. declared_levels d ≤ n) ds
each_shallow n [] within = tt
each_shallow n (d ∷ ds) within = (declared_shallow n d (within_front n (spelling_declared d) (each spelling_declared ds) within), each_shallow n ds (within_back n (spelling_declared d) (each spelling_declared ds) within))

interface_shallow : (n : ℕ) (tree : InterfaceTree) → AreWithin n (spelling tree) → IsWithin n tree
interface_shallow n tree within = each_shallow n tree.declared (within_front n (each spelling_declared tree.declared) (due (word (codes "END")) ∷ due (sign (codes ".")) ∷ []) within.1.1.1.1.1.1.1.1)

pub lawful_interface : (n m : ℕ) → n < m → Lawful n (interface n) (interface m) spelling IsGrammatical Any
lawful_interface n m less = record {
  narrow = sound_good IsGrammatical (λ t g. g.0) (sound_interface n);
  wide = sound_good IsGrammatical (λ t g. g.0) (sound_interface m);
  complete = complete_good (λ t. IsGrammatical t × AreWithin n (spelling t)) (λ t g. (g.0, interface_shallow n t g.1)) (complete_interface n);
  levels = levels_interface n m less;
}

-- An interface begins with a name, and takes it.

shrinks_heading : Shrinks is_name heading
unfolding heading
shrinks_heading r hit =
    shrinks_both is_name name _ shrinks_name
    (sound_both (sound_fixed (sign (codes ":"))) (sound_both (sound_fixed (word (codes "PROGRAM"))) (sound_both sound_number (sound_both (sound_fixed (word (codes "VERSION")))
    (sound_both sound_number (sound_both (sound_fixed (sign (codes "="))) (sound_fixed (word (codes "BEGIN"))))))))) r hit

pub shrinks_interface : (n : ℕ) → Shrinks is_name (interface n)
unfolding interface
shrinks_interface n r hit =
    shrinks_both is_name heading _ shrinks_heading (sound_both (sound_declarations n) (sound_both (sound_fixed (word (codes "END"))) (sound_fixed (sign (codes "."))))) r hit

pub interface_opens : Opens spelling IsGrammatical is_name
interface_opens tree ts rest g d =
    opens_name tree.name
    (due (sign (codes ":")) ∷ due (word (codes "PROGRAM")) ∷ due_number tree.number ∷ due (word (codes "VERSION")) ∷ due_number tree.version ∷ due (sign (codes "=")) ∷ due (word (codes "BEGIN"))
    ∷ (each spelling_declared tree.declared ++ due (word (codes "END")) ∷ due (sign (codes ".")) ∷ [])) ts rest g.0 d
