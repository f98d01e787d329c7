-- Interfaces at tokens that are the same up to a place.
use Rattle.std.proofs.Common.{◌≡◌, ℕ, Bool, true, false, List, [], ◌∷◌, ◌++◌, refl, inl, inr}
use Rattle.std.specs.Prelude.{None, codes}
use Rattle.circus_syntax.specs.declared.named.Named.{Named}
use Rattle.circus_syntax.specs.declared.named.Numeral.{Numeral}
use Rattle.circus_syntax.specs.declared.interface_text.FieldsText.{FieldsText}
use Rattle.circus_syntax.specs.TypeTree.{boolean}
use Rattle.circus_syntax.specs.InterfaceTree.{DeclaredTree, a_type, an_error, a_procedure, InterfaceTree}
use Rattle.circus_syntax.specs.Placed.{is_lexeme, is_name, word, sign}
use Rattle.std.specs.List.{flat_map}
use Rattle.circus_syntax.specs.Reader.{both}
use Rattle.circus_syntax.specs.Reading.{filled_name, filled_numeral, stop_in_list, fields, groups, arguments, results, error_names, reports, number_at_end, a_type_behind, an_error_behind, a_procedure_behind, Parts, declared_of_parts, Declaring, of_type, of_error, of_procedure, declared_start, parts_behind, one_declaration, heading, declarations, interface_of_parts, interface, name, expect_token}
use Rattle.circus_syntax.proofs.Types.{sound_type}
use Rattle.circus_syntax.proofs.Interfaces.{shrinks_declared}
use Rattle.circus_syntax.specs.Filling.{AllSo, as_name, as_number, as_names, as_type, as_fields, as_arguments, as_results, as_reports, as_numbered, as_declared, as_interface, as_further}
use Rattle.circus_syntax.proofs.Twice.{Twice, twice_both, twice_mapped, twice_never, twice_cased, twice_marked, twice_repeated, twice_fixed, twice_fixed_at, twice_name, twice_number, twice_behind, twice_optional}
use Rattle.circus_syntax.proofs.TwiceTypes.{unlike, filled_group, twice_names, twice_other_name, twice_closed_groups, twice_type}

abbrev pub filled_fields : ℕ → FieldsText
filled_fields P = record { at = P; groups = filled_group P ∷ [] }

-- a list of fields, whose bracket is filled in or not
pub twice_fields : (P n : ℕ) (flag : Bool) → Twice P (fields n) (λ f. flag ∷ as_fields f) (filled_fields P)
unfolding fields groups
twice_fields P n flag =
    twice_marked P stop_in_list
    (twice_mapped P (λ x. record { at = x.0; groups = x.1.0 }) (λ (f : FieldsText). flag ∷ as_fields f) (λ x. refl)
    (twice_both P (twice_fixed_at P flag (sign (codes "["))) (twice_closed_groups P n (sound_type n) (twice_type P n))))

pub twice_arguments : (P n : ℕ) → Twice P (arguments n) as_arguments None
unfolding arguments
twice_arguments P n = twice_optional P (is_lexeme (sign (codes "["))) as_arguments refl (λ x. refl) (λ x filled. unlike filled.0) (twice_fields P n false)

twice_results : (P n : ℕ) → Twice P (results n) as_results None
unfolding results
twice_results P n = twice_optional P (is_lexeme (word (codes "RETURNS"))) as_results refl (λ x. refl) (λ x filled. unlike filled.0) (twice_behind P false (word (codes "RETURNS")) (twice_fields P n true))

twice_reports : (P : ℕ) → Twice P reports as_reports None
unfolding reports error_names
twice_reports P =
    twice_optional P (is_lexeme (word (codes "REPORTS"))) as_reports refl (λ x. refl) (λ x filled. unlike filled.0)
    (twice_mapped P (λ x. x.1.1.0) (λ ns. false ∷ true ∷ (as_names ns ++ true ∷ [])) (λ x. refl)
    (twice_both P (twice_fixed P false (word (codes "REPORTS"))) (twice_both P (twice_fixed P true (sign (codes "["))) (twice_both P (twice_names P) (twice_fixed P true (sign (codes "]")))))))

pub twice_numbered : (P : ℕ) → Twice P number_at_end as_numbered (filled_numeral P)
unfolding number_at_end
twice_numbered P =
    twice_mapped P (λ x. x.1.0) as_numbered (λ x. refl) (twice_both P (twice_fixed P true (sign (codes "="))) (twice_both P (twice_number P) (twice_fixed P true (sign (codes ";")))))

-- what stands behind the name and the colon of a declaration
abbrev pub as_parts : Parts → List Bool
as_parts (inl t) = true ∷ true ∷ (as_type t ++ true ∷ [])
as_parts (inr (inl x)) = false ∷ (as_arguments x.0 ++ as_numbered x.1)
as_parts (inr (inr x)) = false ∷ (as_arguments x.0 ++ (as_results x.1.0 ++ (as_reports x.1.1.0 ++ as_numbered x.1.1.1)))

pub twice_parts : (P n : ℕ) (k : Declaring) → Twice P (parts_behind n k) as_parts (inl (boolean P))
unfolding a_type_behind an_error_behind a_procedure_behind
twice_parts P n of_type =
    twice_mapped P (λ t. inl t) as_parts (λ t. refl)
    (twice_mapped P (λ x. x.1.1.0) (λ t. as_parts (inl t)) (λ x. refl)
    (twice_both P (twice_fixed P true (word (codes "TYPE"))) (twice_both P (twice_fixed P true (sign (codes "="))) (twice_both P (twice_type P n) (twice_fixed P true (sign (codes ";")))))))
twice_parts P n of_error =
    twice_never P (λ x. inr (inl x)) as_parts (inl (boolean P)) (λ t. refl) (λ x filled. unlike filled.0)
    (twice_mapped P (λ x. x.1) (λ x. as_parts (inr (inl x))) (λ x. refl)
    (twice_both P (twice_fixed P false (word (codes "ERROR"))) (twice_both P (twice_arguments P n) (twice_numbered P))))
twice_parts P n of_procedure =
    twice_never P (λ x. inr (inr x)) as_parts (inl (boolean P)) (λ t. refl) (λ x filled. unlike filled.0)
    (twice_mapped P (λ x. x.1) (λ x. as_parts (inr (inr x))) (λ x. refl)
    (twice_both P (twice_fixed P false (word (codes "PROCEDURE"))) (twice_both P (twice_arguments P n) (twice_both P (twice_results P n) (twice_both P (twice_reports P) (twice_numbered P))))))

pub declared_so : (n : Named) (x : Parts) → as_declared (declared_of_parts n x) ≡ false ∷ true ∷ as_parts x
declared_so n (inl t) = refl
declared_so n (inr (inl x)) = refl
declared_so n (inr (inr x)) = refl

pub never_declared : (d : DeclaredTree) → AllSo (as_declared d) → ⊥
never_declared (a_type n t) filled = unlike filled.0
never_declared (an_error e) filled = unlike filled.0
never_declared (a_procedure p) filled = unlike filled.0

pub twice_declared : (P n : ℕ) → Twice P (one_declaration n) as_declared (declared_of_parts (filled_name P) (inl (boolean P)))
unfolding one_declaration
twice_declared P n =
    twice_mapped P (λ x. declared_of_parts x.0 x.1.1) as_declared (λ x. declared_so x.0 x.1.1)
    (twice_both P (twice_other_name P) (twice_both P (twice_fixed P true (sign (codes ":"))) (twice_cased P declared_start (parts_behind n) (twice_parts P n))))

-- behind the name in a heading
abbrev pub as_numbers : Numeral × Numeral → List Bool
as_numbers x = true ∷ true ∷ (as_number x.0 ++ true ∷ (as_number x.1 ++ true ∷ true ∷ []))

module _ (P : ℕ) (as_its_name : Named → List Bool) (N : Twice P name as_its_name (filled_name P)) where
  twice_heading : Twice P heading (λ x. as_its_name x.0 ++ as_numbers x.1) (filled_name P, (filled_numeral P, filled_numeral P))
  unfolding heading
  twice_heading =
      twice_mapped P (λ x. (x.0, (x.1.1.1.0, x.1.1.1.1.1.0))) (λ x. as_its_name x.0 ++ as_numbers x.1) (λ x. refl)
      (twice_both P N (twice_both P (twice_fixed P true (sign (codes ":"))) (twice_both P (twice_fixed P true (word (codes "PROGRAM"))) (twice_both P (twice_number P)
      (twice_both P (twice_fixed P true (word (codes "VERSION"))) (twice_both P (twice_number P) (twice_both P (twice_fixed P true (sign (codes "="))) (twice_fixed P true (word (codes "BEGIN"))))))))))

  twice_parts_of : (n : ℕ) → Twice P (both heading (both (declarations n) (both (expect_token (word (codes "END"))) (expect_token (sign (codes "."))))))
      (λ x. (as_its_name x.0.0 ++ as_numbers x.0.1) ++ (flat_map as_declared x.1.0 ++ true ∷ true ∷ [])) ((filled_name P, (filled_numeral P, filled_numeral P)), ([], (tt, tt)))
  unfolding declarations
  twice_parts_of n =
      twice_both P twice_heading
      (twice_both P (twice_repeated P is_name (shrinks_declared n) never_declared (twice_declared P n)) (twice_both P (twice_fixed P true (word (codes "END"))) (twice_fixed P true (sign (codes ".")))))

pub filled_interface : ℕ → InterfaceTree
filled_interface P = interface_of_parts ((filled_name P, (filled_numeral P, filled_numeral P)), ([], (tt, tt)))

pub twice_interface : (P n : ℕ) → Twice P (interface n) as_interface (filled_interface P)
unfolding interface filled_interface
twice_interface P n = twice_mapped P interface_of_parts as_interface (λ x. refl) (twice_parts_of P as_name (twice_name P) n)

pub twice_further : (P n : ℕ) → Twice P (interface n) as_further (filled_interface P)
unfolding interface filled_interface
twice_further P n = twice_mapped P interface_of_parts as_further (λ x. refl) (twice_parts_of P (λ m. false ∷ []) (twice_other_name P) n)
