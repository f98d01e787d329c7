-- Interfaces: a stop is marked with the whole type and the list of fields in which the first token stands that was not read.
use Rattle.std.proofs.Common.{◌≡◌, ℕ, zero, suc, List, [], ◌∷◌, ◌++◌, length, refl, sym, ap, subst, arith, inl, inr, length-append}
use Rattle.std.specs.Prelude.{Some, None, codes, slice_get}
use Rattle.std.specs.List.{flat_map}
use Rattle.circus_text.specs.Token.{Lexeme}
use Rattle.circus_syntax.specs.declared.named.Named.{Named}
use Rattle.circus_syntax.specs.declared.interface_text.FieldsText.{FieldsText}
use Rattle.circus_syntax.specs.declared.stopping.Stop.{Stop}
use Rattle.circus_syntax.specs.TypeTree.{GroupTree, group_trees}
use Rattle.circus_syntax.specs.InterfaceTree.{InterfaceTree}
use Rattle.circus_syntax.specs.Placed.{Placed, is_lexeme, is_name, word, sign, due}
use Rattle.circus_syntax.specs.Reading.{expect_token, group, groups, type, stop_in_list, fields, arguments, results, error_names, reports, number_at_end, a_type_behind, an_error_behind, a_procedure_behind, Parts, declared_of_parts, Declaring, of_type, of_error, of_procedure, declared_start, parts_behind, one_declaration, heading, declarations, interface_of_parts, interface}
use Rattle.circus_syntax.specs.Spelling.{comma, if_written, spelling_reports, spelling_numbered}
use Rattle.circus_syntax.specs.Standing.{Standing, outside, in_list, apart, standing_type, standing_group, standing_more_groups, standing_groups, standing_fields, standing_arguments, standing_results, standing_declared, standings_of_interface}
use Rattle.circus_syntax.proofs.Sound.{reader}
use Rattle.circus_syntax.proofs.Tokens.{comma_sign, is_comma}
use Rattle.circus_syntax.proofs.Interfaces.{spelling_heading}
use Rattle.circus_syntax.proofs.Cuts.{At, Cut, Cuts, cuts_nothing, cuts_both, cuts_mapped, cuts_cased, cuts_either, cuts_repeated, cuts_marked, Apart, apart_both, apart_mapped, apart_optional}
use Rattle.circus_syntax.proofs.CutTypes.{Exactly, cuts_fixed, cuts_fixed_at, cuts_name, cuts_number, cuts_names, here_fixed, cuts_type}

-- outside of types and lists
fixed_out : (l : Lexeme) → Apart Exactly (expect_token l) (λ x. due l ∷ [])
fixed_out = cuts_fixed Exactly (λ at. (refl, refl))

cuts_group : (n : ℕ) → Cuts Exactly (group (type n)) (λ g. standing_group g.names g.shape)
cuts_group n =
    cuts_mapped Exactly (λ x. record { names = x.0; shape = x.1.1 }) (λ g. standing_group g.names g.shape) (λ x. refl)
    (cuts_both Exactly (cuts_names Exactly (λ at. (refl, refl))).cuts (cuts_both Exactly (fixed_out (sign (codes ":"))).cuts (cuts_type n)))

-- a group behind a comma
abbrev another : GroupTree → List Standing
another g = apart (comma ∷ []) ++ standing_group g.names g.shape

more_are : (gs : List GroupTree) → standing_more_groups (group_trees gs) ≡ flat_map another gs
more_are [] = refl
more_are (g ∷ gs) = ap (λ l. another g ++ l) (more_are gs)

cuts_groups : (n : ℕ) → Cuts Exactly (groups n) (λ gs. standing_groups (group_trees gs))
unfolding groups
cuts_groups n =
    cuts_either Exactly (is_lexeme (sign (codes "]")))
    (cuts_nothing Exactly [] (λ gs. standing_groups (group_trees gs)) refl)
    (cuts_mapped Exactly (λ x. x.0 ∷ x.1) (λ gs. standing_groups (group_trees gs)) (λ x. ap (λ l. standing_group x.0.names x.0.shape ++ l) (more_are x.1))
    (cuts_both Exactly (cuts_group n)
    (cuts_repeated Exactly is_comma (cuts_mapped Exactly (λ x. x.1) another (λ x. refl) (cuts_both Exactly (fixed_out comma_sign).cuts (cuts_group n))))))

cuts_fields : (n : ℕ) → Cuts Exactly (fields n) standing_fields
unfolding fields
cuts_fields n =
    cuts_marked Exactly Exactly stop_in_list in_list (λ (f : FieldsText). f.at) (λ at m s is. (is.0, refl)) (here_fixed (sign (codes "[")))
    (cuts_mapped Exactly (λ x. record { at = x.0; groups = x.1.0 }) bare (λ x. refl)
    (cuts_both Exactly (cuts_fixed_at Exactly (λ at. (refl, refl)) (sign (codes "["))).cuts (cuts_both Exactly (cuts_groups n) (fixed_out (sign (codes "]"))).cuts)))
  where
    -- but for the list
    bare : FieldsText → List Standing
    bare f = apart (due (sign (codes "[")) ∷ []) ++ (standing_groups (group_trees f.groups) ++ apart (due (sign (codes "]")) ∷ []))

cuts_arguments : (n : ℕ) → Cuts Exactly (arguments n) standing_arguments
unfolding arguments
cuts_arguments n =
    cuts_either Exactly (is_lexeme (sign (codes "["))) (cuts_mapped Exactly (λ f. Some f) standing_arguments (λ f. refl) (cuts_fields n)) (cuts_nothing Exactly None standing_arguments refl)

cuts_results : (n : ℕ) → Cuts Exactly (results n) standing_results
unfolding results
cuts_results n =
    cuts_either Exactly (is_lexeme (word (codes "RETURNS")))
    (cuts_mapped Exactly (λ f. Some f) standing_results (λ f. refl)
    (cuts_mapped Exactly (λ x. x.1) (λ f. apart (due (word (codes "RETURNS")) ∷ []) ++ standing_fields f) (λ x. refl) (cuts_both Exactly (fixed_out (word (codes "RETURNS"))).cuts (cuts_fields n))))
    (cuts_nothing Exactly None standing_results refl)

cuts_reports : Apart Exactly reports (if_written spelling_reports)
unfolding reports error_names
cuts_reports =
    apart_optional Exactly (is_lexeme (word (codes "REPORTS")))
    (apart_mapped Exactly (λ x. x.1.1.0) spelling_reports (λ x. refl)
    (apart_both Exactly (fixed_out (word (codes "REPORTS"))) (apart_both Exactly (fixed_out (sign (codes "["))) (apart_both Exactly (cuts_names Exactly (λ at. (refl, refl))) (fixed_out (sign (codes "]")))))))

cuts_numbered : Apart Exactly number_at_end spelling_numbered
unfolding number_at_end
cuts_numbered =
    apart_mapped Exactly (λ x. x.1.0) spelling_numbered (λ x. refl)
    (apart_both Exactly (fixed_out (sign (codes "="))) (apart_both Exactly (cuts_number Exactly (λ at. (refl, refl))) (fixed_out (sign (codes ";")))))

-- what stands behind the name and the colon of a declaration
abbrev standing_parts : Parts → List Standing
standing_parts (inl t) = apart (due (word (codes "TYPE")) ∷ due (sign (codes "=")) ∷ []) ++ (standing_type t ++ apart (due (sign (codes ";")) ∷ []))
standing_parts (inr (inl x)) = apart (due (word (codes "ERROR")) ∷ []) ++ (standing_arguments x.0 ++ apart (spelling_numbered x.1))
standing_parts (inr (inr x)) =
    apart (due (word (codes "PROCEDURE")) ∷ []) ++ (standing_arguments x.0 ++ (standing_results x.1.0 ++ (apart (if_written spelling_reports x.1.1.0) ++ apart (spelling_numbered x.1.1.1))))

cuts_parts : (n : ℕ) (k : Declaring) → Cuts Exactly (parts_behind n k) standing_parts
unfolding a_type_behind an_error_behind a_procedure_behind
cuts_parts n of_type =
    cuts_mapped Exactly (λ t. inl t) standing_parts (λ t. refl)
    (cuts_mapped Exactly (λ x. x.1.1.0) (λ t. standing_parts (inl t)) (λ x. refl)
    (cuts_both Exactly (fixed_out (word (codes "TYPE"))).cuts (cuts_both Exactly (fixed_out (sign (codes "="))).cuts (cuts_both Exactly (cuts_type n) (fixed_out (sign (codes ";"))).cuts))))
cuts_parts n of_error =
    cuts_mapped Exactly (λ x. inr (inl x)) standing_parts (λ x. refl)
    (cuts_mapped Exactly (λ x. x.1) (λ x. standing_parts (inr (inl x))) (λ x. refl)
    (cuts_both Exactly (fixed_out (word (codes "ERROR"))).cuts (cuts_both Exactly (cuts_arguments n) cuts_numbered.cuts)))
cuts_parts n of_procedure =
    cuts_mapped Exactly (λ x. inr (inr x)) standing_parts (λ x. refl)
    (cuts_mapped Exactly (λ x. x.1) (λ x. standing_parts (inr (inr x))) (λ x. refl)
    (cuts_both Exactly (fixed_out (word (codes "PROCEDURE"))).cuts (cuts_both Exactly (cuts_arguments n) (cuts_both Exactly (cuts_results n) (cuts_both Exactly cuts_reports.cuts cuts_numbered.cuts)))))

declared_parts : (n : Named) (x : Parts) → standing_declared (declared_of_parts n x) ≡ outside ∷ outside ∷ standing_parts x
declared_parts n (inl t) = refl
declared_parts n (inr (inl x)) = refl
declared_parts n (inr (inr x)) = refl

cuts_declared : (n : ℕ) → Cuts Exactly (one_declaration n) standing_declared
unfolding one_declaration
cuts_declared n =
    cuts_mapped Exactly (λ x. declared_of_parts x.0 x.1.1) standing_declared (λ x. declared_parts x.0 x.1.1)
    (cuts_both Exactly (cuts_name Exactly (λ at. (refl, refl))).cuts (cuts_both Exactly (fixed_out (sign (codes ":"))).cuts (cuts_cased Exactly declared_start (parts_behind n) (cuts_parts n))))

cuts_heading : Apart Exactly heading spelling_heading
unfolding heading
cuts_heading =
    let a_name = cuts_name Exactly (λ at. (refl, refl)) in
    let a_number = cuts_number Exactly (λ at. (refl, refl)) in
    apart_mapped Exactly (λ x. (x.0, (x.1.1.1.0, x.1.1.1.1.1.0))) spelling_heading (λ x. refl)
    (apart_both Exactly a_name (apart_both Exactly (fixed_out (sign (codes ":"))) (apart_both Exactly (fixed_out (word (codes "PROGRAM"))) (apart_both Exactly a_number
    (apart_both Exactly (fixed_out (word (codes "VERSION"))) (apart_both Exactly a_number (apart_both Exactly (fixed_out (sign (codes "="))) (fixed_out (word (codes "BEGIN"))))))))))

cuts_interface : (n : ℕ) → Cuts Exactly (interface n) standings_of_interface
unfolding interface declarations
cuts_interface n =
    cuts_mapped Exactly interface_of_parts standings_of_interface (λ x. refl)
    (cuts_both Exactly cuts_heading.cuts (cuts_both Exactly (cuts_repeated Exactly is_name (cuts_declared n)) (cuts_both Exactly (fixed_out (word (codes "END"))).cuts (fixed_out (sign (codes "."))).cuts)))

at_place : (ms : List Standing) (k : ℕ) (s : Stop) → At Exactly ms k s → slice_get ms k ≡ Some (record { within = s.within; list = s.list })
at_place [] k s at = absurd at
at_place (m ∷ ms) zero s at = λ i. Some (record { within = sym at.0 i; list = sym at.1 i })
at_place (m ∷ ms) (suc k) s at = at_place ms k s at

-- the mark of a stop that came behind these tokens
pub cut_interface : (n : ℕ) (ts taken left : List Placed) (tree : InterfaceTree) (s : Stop) (e : ℕ) → interface n (reader None ts e) ≡ (tree, reader (Some s) left e) → ts ≡ taken ++ left
    → slice_get (standings_of_interface tree) (length taken) ≡ Some (record { within = s.within; list = s.list })
cut_interface n ts taken left tree s e is whole =
    let (ends, (k, few, at)) : Cut Exactly standings_of_interface (length ts) e (tree, reader (Some s) left e) = subst (Cut Exactly standings_of_interface (length ts) e) is ((cuts_interface n).cut ts e) in
    let count : k ≡ length taken = omega (arith, few, ap length whole, length-append taken left) in
    subst (λ j. slice_get (standings_of_interface tree) j ≡ Some (record { within = s.within; list = s.list })) count (at_place (standings_of_interface tree) k s at)
