-- What is read of an interface, step by step.
use Rattle.std.proofs.Common.{◌≡◌, ℕ, Bool, true, false, List, [], refl, ◌∙◌, ap, inl, inr}
use Rattle.std.specs.Prelude.{Option, Some, None, codes, if◌then◌else◌}
use Rattle.circus_syntax.specs.declared.named.Named.{Named}
use Rattle.circus_syntax.specs.declared.named.Numeral.{Numeral}
use Rattle.circus_syntax.specs.declared.interface_text.FieldsText.{FieldsText}
use Rattle.circus_syntax.specs.TypeTree.{TypeTree, GroupTree}
use Rattle.circus_syntax.specs.InterfaceTree.{DeclaredTree, a_type, an_error, a_procedure}
use Rattle.circus_syntax.specs.Placed.{Placed, is_lexeme, is_name, word, sign}
use Rattle.circus_syntax.specs.Reader.{Reader, place, passes, next, sees, both, map_read, choose_by, mark_stops}
use Rattle.circus_syntax.specs.Reading.{expect_token, fixed_at, name, number, behind, names, type, groups, stop_in_list, fields, arguments, results, error_names, reports, number_at_end, a_type_behind, an_error_behind, a_procedure_behind, Parts, declared_of_parts, Declaring, of_type, of_error, of_procedure, declared_start, parts_behind, one_declaration, heading, declarations, interface_of_parts, interface}
use Rattle.circus_syntax.proofs.Sound.{both_is}
use Rattle.circus_syntax.proofs.ByWord.{fixed_at_is, optional_some, optional_none}
use Rattle.circus_syntax.proofs.Loops.{goes_on}

pub numbered_is : (r s t u : Reader) (k : Numeral) → expect_token (sign (codes "=")) r ≡ (tt, s) → number s ≡ (k, t) → expect_token (sign (codes ";")) t ≡ (tt, u) → number_at_end r ≡ (k, u)
unfolding number_at_end
numbered_is r s t u k first second last =
    ap (λ x. (x.0.1.0, x.1)) (both_is (expect_token (sign (codes "="))) (both number (expect_token (sign (codes ";")))) r s u tt (k, tt) first (both_is number (expect_token (sign (codes ";"))) s t u k tt second last))

pub reported_is : (r s t u v : Reader) (ns : List Named) → expect_token (word (codes "REPORTS")) r ≡ (tt, s) → expect_token (sign (codes "[")) s ≡ (tt, t) → names t ≡ (ns, u) → expect_token (sign (codes "]")) u ≡ (tt, v) → error_names r ≡ (ns, v)
unfolding error_names
reported_is r s t u v ns first second third last =
    ap (λ x. (x.0.1.1.0, x.1))
    (both_is (expect_token (word (codes "REPORTS"))) (both (expect_token (sign (codes "["))) (both names (expect_token (sign (codes "]"))))) r s v tt (tt, (ns, tt)) first
    (both_is (expect_token (sign (codes "["))) (both names (expect_token (sign (codes "]")))) s t v tt (ns, tt) second
    (both_is names (expect_token (sign (codes "]"))) t u v ns tt third last)))

pub reports_some : (r s : Reader) (ns : List Named) (b : Bool) → b ≡ sees (is_lexeme (word (codes "REPORTS"))) r → b ≡ true → error_names r ≡ (ns, s) → reports r ≡ (Some ns, s)
unfolding reports
reports_some r s ns b seen hit is = optional_some (is_lexeme (word (codes "REPORTS"))) error_names r s ns b seen hit is

pub reports_none : (r : Reader) (b : Bool) → b ≡ sees (is_lexeme (word (codes "REPORTS"))) r → b ≡ false → reports r ≡ (None, r)
unfolding reports
reports_none r b seen missed = optional_none (is_lexeme (word (codes "REPORTS"))) error_names r b seen missed

pub declared_type_is : (n : ℕ) (r s t u v : Reader) (e : TypeTree) → expect_token (word (codes "TYPE")) r ≡ (tt, s) → expect_token (sign (codes "=")) s ≡ (tt, t) → type n t ≡ (e, u) → expect_token (sign (codes ";")) u ≡ (tt, v) → a_type_behind n r ≡ (e, v)
unfolding a_type_behind
declared_type_is n r s t u v e first second third last =
    ap (λ x. (x.0.1.1.0, x.1))
    (both_is (expect_token (word (codes "TYPE"))) (both (expect_token (sign (codes "="))) (both (type n) (expect_token (sign (codes ";"))))) r s v tt (tt, (e, tt)) first
    (both_is (expect_token (sign (codes "="))) (both (type n) (expect_token (sign (codes ";")))) s t v tt (e, tt) second
    (both_is (type n) (expect_token (sign (codes ";"))) t u v e tt third last)))

-- fields, but for the mark of their stop
abbrev pub unmarked_fields : ℕ → Reader → FieldsText × Reader
unmarked_fields n =
    map_read (λ x. record { at = x.0; groups = x.1.0 })
    (both (fixed_at (sign (codes "["))) (both (groups n) (expect_token (sign (codes "]")))))

pub fields_are : (n : ℕ) (r : Reader) → fields n r ≡ mark_stops stop_in_list (unmarked_fields n) r
unfolding fields
fields_are n r = refl

pub unmarked_fields_are : (n : ℕ) (r s t u : Reader) (gs : List GroupTree) → expect_token (sign (codes "[")) r ≡ (tt, s) → groups n s ≡ (gs, t) → expect_token (sign (codes "]")) t ≡ (tt, u)
    → unmarked_fields n r ≡ (record { at = place r; groups = gs }, u)
unmarked_fields_are n r s t u gs first second last =
    ap (λ x. (record { at = x.0.0; groups = x.0.1.0 }, x.1))
    (both_is (fixed_at (sign (codes "["))) (both (groups n) (expect_token (sign (codes "]")))) r s u (place r) (gs, tt) (fixed_at_is (sign (codes "[")) r s first)
    (both_is (groups n) (expect_token (sign (codes "]"))) s t u gs tt second last))

pub arguments_some : (n : ℕ) (r s : Reader) (f : FieldsText) (b : Bool) → b ≡ sees (is_lexeme (sign (codes "["))) r → b ≡ true → fields n r ≡ (f, s) → arguments n r ≡ (Some f, s)
unfolding arguments
arguments_some n r s f b seen hit is = optional_some (is_lexeme (sign (codes "["))) (fields n) r s f b seen hit is

pub arguments_none : (n : ℕ) (r : Reader) (b : Bool) → b ≡ sees (is_lexeme (sign (codes "["))) r → b ≡ false → arguments n r ≡ (None, r)
unfolding arguments
arguments_none n r b seen missed = optional_none (is_lexeme (sign (codes "["))) (fields n) r b seen missed

pub results_some : (n : ℕ) (r s t : Reader) (f : FieldsText) (b : Bool) → b ≡ sees (is_lexeme (word (codes "RETURNS"))) r → b ≡ true → expect_token (word (codes "RETURNS")) r ≡ (tt, s) → fields n s ≡ (f, t) → results n r ≡ (Some f, t)
unfolding results
results_some n r s t f b seen hit first last =
    optional_some (is_lexeme (word (codes "RETURNS"))) (behind (word (codes "RETURNS")) (fields n)) r t f b seen hit
    (ap (λ y. (y.0.1, y.1)) (both_is (expect_token (word (codes "RETURNS"))) (fields n) r s t tt f first last))

pub results_none : (n : ℕ) (r : Reader) (b : Bool) → b ≡ sees (is_lexeme (word (codes "RETURNS"))) r → b ≡ false → results n r ≡ (None, r)
unfolding results
results_none n r b seen missed = optional_none (is_lexeme (word (codes "RETURNS"))) (behind (word (codes "RETURNS")) (fields n)) r b seen missed

pub error_is : (n : ℕ) (r s t u : Reader) (a : Option FieldsText) (k : Numeral) → expect_token (word (codes "ERROR")) r ≡ (tt, s) → arguments n s ≡ (a, t) → number_at_end t ≡ (k, u) → an_error_behind n r ≡ ((a, k), u)
unfolding an_error_behind
error_is n r s t u a k first second last =
    ap (λ x. (x.0.1, x.1)) (both_is (expect_token (word (codes "ERROR"))) (both (arguments n) number_at_end) r s u tt (a, k) first (both_is (arguments n) number_at_end s t u a k second last))

pub procedure_is : (n : ℕ) (r s t u v w : Reader) (a f : Option FieldsText) (e : Option (List Named)) (k : Numeral) → expect_token (word (codes "PROCEDURE")) r ≡ (tt, s) → arguments n s ≡ (a, t) → results n t ≡ (f, u) → reports u ≡ (e, v) → number_at_end v ≡ (k, w)
    → a_procedure_behind n r ≡ ((a, (f, (e, k))), w)
unfolding a_procedure_behind
procedure_is n r s t u v w a f e k first second third fourth last =
    ap (λ x. (x.0.1, x.1))
    (both_is (expect_token (word (codes "PROCEDURE"))) (both (arguments n) (both (results n) (both reports number_at_end))) r s w tt (a, (f, (e, k))) first
    (both_is (arguments n) (both (results n) (both reports number_at_end)) s t w a (f, (e, k)) second
    (both_is (results n) (both reports number_at_end) t u w f (e, k) third
    (both_is reports number_at_end u v w e k fourth last))))

declared_by_sight : (o : Option Placed) → declared_start o ≡
    (if passes (is_lexeme (word (codes "ERROR"))) o then of_error
    else (if passes (is_lexeme (word (codes "PROCEDURE"))) o then of_procedure
    else of_type))
declared_by_sight None = refl
declared_by_sight (Some t) = refl

-- a declaration by its name and what stands behind it
declared_is : (n : ℕ) (r s t u : Reader) (m : Named) (k : Declaring) (x : Parts) → name r ≡ (m, s) → expect_token (sign (codes ":")) s ≡ (tt, t) → declared_start (next t) ≡ k → parts_behind n k t ≡ (x, u)
    → one_declaration n r ≡ (declared_of_parts m x, u)
unfolding one_declaration
declared_is n r s t u m k x first second start last =
    ap (λ y. (declared_of_parts y.0.0 y.0.1.1, y.1))
    (both_is name (both (expect_token (sign (codes ":"))) (choose_by declared_start (parts_behind n))) r s u m (tt, x) first
    (both_is (expect_token (sign (codes ":"))) (choose_by declared_start (parts_behind n)) s t u tt x second
    (ap (λ j. parts_behind n j t) start ∙ last)))

pub declared_error_is : (n : ℕ) (r s t u : Reader) (m : Named) (b : Bool) (x : Option FieldsText × Numeral) → name r ≡ (m, s) → expect_token (sign (codes ":")) s ≡ (tt, t)
    → b ≡ sees (is_lexeme (word (codes "ERROR"))) t → b ≡ true → an_error_behind n t ≡ (x, u)
    → one_declaration n r ≡ (an_error (record { name = m; arguments = x.0; number = x.1 }), u)
declared_error_is n r s t u m b x first second seen hit last =
    declared_is n r s t u m of_error (inr (inl x)) first second (declared_by_sight (next t) ∙ rw (← seen, hit) refl) (ap (λ y. (inr (inl y.0), y.1)) last)

pub declared_procedure_is : (n : ℕ) (r s t u : Reader) (m : Named) (b c : Bool) (x : Option FieldsText × (Option FieldsText × (Option (List Named) × Numeral))) → name r ≡ (m, s) → expect_token (sign (codes ":")) s ≡ (tt, t)
    → b ≡ sees (is_lexeme (word (codes "ERROR"))) t → b ≡ false → c ≡ sees (is_lexeme (word (codes "PROCEDURE"))) t → c ≡ true → a_procedure_behind n t ≡ (x, u)
    → one_declaration n r ≡ (a_procedure (record { name = m; arguments = x.0; results = x.1.0; reports = x.1.1.0; number = x.1.1.1 }), u)
declared_procedure_is n r s t u m b c x first second seen missed sight hit last =
    declared_is n r s t u m of_procedure (inr (inr x)) first second (declared_by_sight (next t) ∙ rw (← seen, missed, ← sight, hit) refl) (ap (λ y. (inr (inr y.0), y.1)) last)

pub declared_shape_is : (n : ℕ) (r s t u : Reader) (m : Named) (b c : Bool) (x : TypeTree) → name r ≡ (m, s) → expect_token (sign (codes ":")) s ≡ (tt, t)
    → b ≡ sees (is_lexeme (word (codes "ERROR"))) t → b ≡ false → c ≡ sees (is_lexeme (word (codes "PROCEDURE"))) t → c ≡ false → a_type_behind n t ≡ (x, u)
    → one_declaration n r ≡ (a_type m x, u)
declared_shape_is n r s t u m b c x first second seen missed sight lost last =
    declared_is n r s t u m of_type (inl x) first second (declared_by_sight (next t) ∙ rw (← seen, missed, ← sight, lost) refl) (ap (λ y. (inl y.0, y.1)) last)

pub heading_is : (r s t u v w x y z : Reader) (m : Named) (k l : Numeral) → name r ≡ (m, s) → expect_token (sign (codes ":")) s ≡ (tt, t) → expect_token (word (codes "PROGRAM")) t ≡ (tt, u) → number u ≡ (k, v)
    → expect_token (word (codes "VERSION")) v ≡ (tt, w) → number w ≡ (l, x) → expect_token (sign (codes "=")) x ≡ (tt, y) → expect_token (word (codes "BEGIN")) y ≡ (tt, z) → heading r ≡ ((m, (k, l)), z)
unfolding heading
heading_is r s t u v w x y z m k l a b c d e f g h = rw (a, b, c, d, e, f, g, h) refl

pub declarations_are : (n : ℕ) (r : Reader) → declarations n r ≡ goes_on is_name (one_declaration n) [] r
unfolding declarations
declarations_are n r = refl

pub interface_is : (n : ℕ) (r s t u v : Reader) (h : Named × (Numeral × Numeral)) (ds : List DeclaredTree) → heading r ≡ (h, s) → declarations n s ≡ (ds, t) → expect_token (word (codes "END")) t ≡ (tt, u) → expect_token (sign (codes ".")) u ≡ (tt, v)
    → interface n r ≡ (record { name = h.0; number = h.1.0; version = h.1.1; declared = ds }, v)
unfolding interface
interface_is n r s t u v h ds first second third last =
    ap (λ y. (interface_of_parts y.0, y.1))
    (both_is heading (both (declarations n) (both (expect_token (word (codes "END"))) (expect_token (sign (codes "."))))) r s v h (ds, (tt, tt)) first
    (both_is (declarations n) (both (expect_token (word (codes "END"))) (expect_token (sign (codes ".")))) s t v ds (tt, tt) second
    (both_is (expect_token (word (codes "END"))) (expect_token (sign (codes "."))) t u v tt tt third last)))
