-- Interfaces: where reading stops in one, what stands behind the tokens that were read is filled in.
use Rattle.std.proofs.Common.{◌≡◌, ℕ, Bool, true, false, List, [], ◌∷◌, ◌++◌, refl, sym, ◌∙◌, subst, inl, inr}
use Rattle.std.specs.Prelude.{Some, None, codes, if◌then◌else◌}
use Rattle.std.proofs.lemmas.List.{append_cancel_right}
use Rattle.circus_syntax.specs.declared.named.Named.{Named}
use Rattle.std.specs.List.{flat_map}
use Rattle.circus_syntax.specs.declared.interface_text.FieldsText.{FieldsText}
use Rattle.circus_syntax.specs.declared.stopping.Stop.{Stop}
use Rattle.circus_syntax.specs.InterfaceTree.{InterfaceTree}
use Rattle.circus_syntax.specs.Placed.{Placed, first, is_lexeme, is_name, word, sign}
use Rattle.circus_syntax.specs.Reader.{passes, both}
use Rattle.circus_syntax.specs.Reading.{expect_token, names, stop_in_list, fields, groups, arguments, results, error_names, reports, number_at_end, a_type_behind, an_error_behind, a_procedure_behind, declared_of_parts, Declaring, of_type, of_error, of_procedure, declared_start, parts_behind, one_declaration, heading, declarations, interface_of_parts, interface, number}
use Rattle.circus_syntax.proofs.Sound.{reader}
use Rattle.circus_syntax.proofs.Types.{sound_type}
use Rattle.circus_syntax.proofs.Interfaces.{shrinks_declared}
use Rattle.circus_syntax.specs.Filling.{AllBehind, as_names, as_fields, as_arguments, as_results, as_reports, as_numbered, as_declared, as_name, as_interface, as_further}
use Rattle.circus_syntax.proofs.Twice.{twice_repeated}
use Rattle.circus_syntax.proofs.TwiceTypes.{twice_type}
use Rattle.circus_syntax.proofs.TwiceInterfaces.{as_parts, declared_so, as_numbers, twice_parts, twice_declared, never_declared}
use Rattle.circus_syntax.proofs.Fills.{Fills, FillsAt, Of, at_then, at_mapped, at_fixed, at_fixed_at, at_name, at_behind, at_marked, fills_both, fills_mapped, fills_fixed, fills_fixed_at, fills_name, fills_number, fills_cased, fills_marked, fills_repeated, fills_optional, still_fixed, still_behind}
use Rattle.circus_syntax.proofs.FillTypes.{fills_names, fills_type, fills_closed}

fills_fields : (n : ℕ) → Fills (fields n) (λ f. true ∷ as_fields f)
unfolding fields groups
fills_fields n =
    fills_marked stop_in_list
    (fills_mapped (λ x. record { at = x.0; groups = x.1.0 }) (λ (f : FieldsText). true ∷ as_fields f) (λ x. refl) (fills_both (fills_fixed_at (sign (codes "["))) (fills_closed n (sound_type n) (twice_type 0 n) (fills_type n))))

fields_at : (n : ℕ) (ts : List Placed) → passes (is_lexeme (sign (codes "["))) (first ts) ≡ true → FillsAt (fields n) (λ f. false ∷ as_fields f) ts
unfolding fields groups
fields_at n ts hit =
    at_marked stop_in_list ts
    (at_mapped (λ x. record { at = x.0; groups = x.1.0 }) (λ (f : FieldsText). false ∷ as_fields f) (λ x. refl) ts
    (at_then (fills_fixed_at (sign (codes "["))).stays ts (at_fixed_at false (sign (codes "[")) ts hit) (fills_closed n (sound_type n) (twice_type 0 n) (fills_type n))))

fills_arguments : (n : ℕ) → Fills (arguments n) as_arguments
unfolding arguments
fills_arguments n = fills_optional (is_lexeme (sign (codes "["))) as_arguments refl (λ x. refl) (fills_fields n).stays (fields_at n)

fills_results : (n : ℕ) → Fills (results n) as_results
unfolding results
fills_results n =
    fills_optional (is_lexeme (word (codes "RETURNS"))) as_results refl (λ x. refl) (still_behind (word (codes "RETURNS")) (fills_fields n).stays)
    (λ ts hit. at_behind false (word (codes "RETURNS")) ts hit (fills_fields n))

abbrev as_reported : List Named → List Bool
as_reported ns = as_names ns ++ true ∷ []

fills_reported : Fills (both (expect_token (sign (codes "["))) (both names (expect_token (sign (codes "]"))))) (λ x. true ∷ as_reported x.1.0)
fills_reported = fills_both (fills_fixed (sign (codes "["))) (fills_both fills_names (fills_fixed (sign (codes "]"))))

fills_reports : Fills reports as_reports
unfolding reports error_names
fills_reports =
    fills_optional (is_lexeme (word (codes "REPORTS"))) as_reports refl (λ x. refl)
    (fills_mapped (λ x. x.1.1.0) (λ ns. true ∷ true ∷ as_reported ns) (λ x. refl) (fills_both (fills_fixed (word (codes "REPORTS"))) fills_reported)).stays
    (λ ts hit. at_mapped (λ x. x.1.1.0) (λ ns. false ∷ true ∷ as_reported ns) (λ x. refl) ts (at_then (still_fixed (word (codes "REPORTS"))) ts (at_fixed false (word (codes "REPORTS")) ts hit) fills_reported))

fills_numbered : Fills number_at_end as_numbered
unfolding number_at_end
fills_numbered = fills_mapped (λ x. x.1.0) as_numbered (λ x. refl) (fills_both (fills_fixed (sign (codes "="))) (fills_both fills_number (fills_fixed (sign (codes ";")))))

-- ---- declarations

abbrev DeclaredBy : Declaring → Bool → Bool → Type 0
DeclaredBy of_type a b = Unit {0}
DeclaredBy of_error a b = a ≡ true
DeclaredBy of_procedure a b = b ≡ true

declared_by : (a b : Bool) → DeclaredBy (if a then of_error else (if b then of_procedure else of_type)) a b
declared_by true b = refl
declared_by false true = refl
declared_by false false = tt

abbrev Declares : Declaring → List Placed → Type 0
Declares of_type ts = Unit {0}
Declares of_error ts = passes (is_lexeme (word (codes "ERROR"))) (first ts) ≡ true
Declares of_procedure ts = passes (is_lexeme (word (codes "PROCEDURE"))) (first ts) ≡ true

as_declares : (k : Declaring) (t : Placed) (ts : List Placed) → DeclaredBy k (is_lexeme (word (codes "ERROR")) t) (is_lexeme (word (codes "PROCEDURE")) t) → Declares k (t ∷ ts)
as_declares of_type t ts is = tt
as_declares of_error t ts is = is
as_declares of_procedure t ts is = is

declares : (ts : List Placed) → Declares (declared_start (first ts)) ts
declares [] = tt
declares (t ∷ ts) = as_declares (declared_start (Some t)) t ts (declared_by (is_lexeme (word (codes "ERROR")) t) (is_lexeme (word (codes "PROCEDURE")) t))

fills_type_parts : (n : ℕ) → Fills (parts_behind n of_type) as_parts
unfolding a_type_behind
fills_type_parts n =
    fills_mapped (λ t. inl t) as_parts (λ t. refl)
    (fills_mapped (λ x. x.1.1.0) (λ t. as_parts (inl t)) (λ x. refl)
    (fills_both (fills_fixed (word (codes "TYPE"))) (fills_both (fills_fixed (sign (codes "="))) (fills_both (fills_type n) (fills_fixed (sign (codes ";")))))))

parts_at : (n : ℕ) (k : Declaring) (ts : List Placed) → Declares k ts → FillsAt (parts_behind n k) as_parts ts
unfolding an_error_behind a_procedure_behind
parts_at n of_type ts hit = (fills_type_parts n).runs ts
parts_at n of_error ts hit =
    at_mapped (λ x. inr (inl x)) as_parts (λ x. refl) ts
    (at_mapped (λ x. x.1) (λ x. as_parts (inr (inl x))) (λ x. refl) ts
    (at_then (still_fixed (word (codes "ERROR"))) ts (at_fixed false (word (codes "ERROR")) ts hit) (fills_both (fills_arguments n) fills_numbered)))
parts_at n of_procedure ts hit =
    at_mapped (λ x. inr (inr x)) as_parts (λ x. refl) ts
    (at_mapped (λ x. x.1) (λ x. as_parts (inr (inr x))) (λ x. refl) ts
    (at_then (still_fixed (word (codes "PROCEDURE"))) ts (at_fixed false (word (codes "PROCEDURE")) ts hit) (fills_both (fills_arguments n) (fills_both (fills_results n) (fills_both fills_reports fills_numbered)))))

declared_at : (n : ℕ) (ts : List Placed) → passes is_name (first ts) ≡ true → FillsAt (one_declaration n) as_declared ts
unfolding one_declaration
declared_at n ts hit =
    at_mapped (λ x. declared_of_parts x.0 x.1.1) as_declared (λ x. declared_so x.0 x.1.1) ts
    (at_then fills_name.stays ts (at_name false ts hit)
    (fills_both (fills_fixed (sign (codes ":")))
    (fills_cased declared_start (parts_behind n) (λ k. (twice_parts 0 n k).stays) (fills_type_parts n).stopped (λ us. parts_at n (declared_start (first us)) us (declares us)))))

fills_numbers : Fills (both (expect_token (sign (codes ":"))) (both (expect_token (word (codes "PROGRAM"))) (both number (both (expect_token (word (codes "VERSION"))) (both number (both (expect_token (sign (codes "="))) (expect_token (word (codes "BEGIN")))))))))
    (λ x. as_numbers (x.1.1.0, x.1.1.1.1.0))
fills_numbers =
    fills_both (fills_fixed (sign (codes ":"))) (fills_both (fills_fixed (word (codes "PROGRAM"))) (fills_both fills_number
    (fills_both (fills_fixed (word (codes "VERSION"))) (fills_both fills_number (fills_both (fills_fixed (sign (codes "="))) (fills_fixed (word (codes "BEGIN"))))))))

fills_heading : Fills heading (λ x. as_name x.0 ++ as_numbers x.1)
unfolding heading
fills_heading = fills_mapped (λ x. (x.0, (x.1.1.1.0, x.1.1.1.1.1.0))) (λ x. as_name x.0 ++ as_numbers x.1) (λ x. refl) (fills_both fills_name fills_numbers)

heading_at : (ts : List Placed) → passes is_name (first ts) ≡ true → FillsAt heading (λ x. false ∷ as_numbers x.1) ts
unfolding heading
heading_at ts hit = at_mapped (λ x. (x.0, (x.1.1.1.0, x.1.1.1.1.1.0))) (λ x. false ∷ as_numbers x.1) (λ x. refl) ts (at_then fills_name.stays ts (at_name false ts hit) fills_numbers)

fills_body : (n : ℕ) → Fills (both (declarations n) (both (expect_token (word (codes "END"))) (expect_token (sign (codes "."))))) (λ x. flat_map as_declared x.0 ++ true ∷ true ∷ [])
unfolding declarations
fills_body n =
    fills_both (fills_repeated is_name (shrinks_declared n) (twice_declared 0 n).stays (twice_repeated 0 is_name (shrinks_declared n) never_declared (twice_declared 0 n)).stays (declared_at n))
    (fills_both (fills_fixed (word (codes "END"))) (fills_fixed (sign (codes "."))))

pub fills_interface : (n : ℕ) → Fills (interface n) as_interface
unfolding interface
fills_interface n = fills_mapped interface_of_parts as_interface (λ x. refl) (fills_both fills_heading (fills_body n))

pub interface_at : (n : ℕ) (ts : List Placed) → passes is_name (first ts) ≡ true → FillsAt (interface n) as_further ts
unfolding interface
interface_at n ts hit = at_mapped interface_of_parts as_further (λ x. refl) ts (at_then fills_heading.stays ts (heading_at ts hit) (fills_body n))

-- what was not read is filled in
pub interface_filled : (n : ℕ) (ts read left : List Placed) (tree : InterfaceTree) (s : Stop) (e : ℕ) → interface n (reader None ts e) ≡ (tree, reader (Some s) left e) → ts ≡ read ++ left → AllBehind read (as_interface tree)
interface_filled n ts read left tree s e is whole =
    let (taken, parts, filled) : Of as_interface ts (tree, reader (Some s) left e) = subst (Of as_interface ts) is (((fills_interface n).runs ts).run e) in
    subst (λ l. AllBehind l (as_interface tree)) (append_cancel_right taken read left (sym parts ∙ whole)) filled
