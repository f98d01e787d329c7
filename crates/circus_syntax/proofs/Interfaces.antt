-- Interfaces: what is read is spelled, and what is spelled is read.
use Rattle.std.proofs.Common.{◌≡◌, ℕ, ◌≤◌, Bool, false, List, [], ◌∷◌, ◌++◌, refl, ◌∙◌, ap, arith, inl, inr}
use Rattle.std.specs.Prelude.{Option, Some, None, codes}
use Rattle.std.proofs.Math.Nat.{le-max_left, le-max_right, max-le}
use Rattle.circus_text.specs.declared.token.TokenKind.TheVariants.{Word, Sign}
use Rattle.circus_text.specs.Token.{Lexeme}
use Rattle.circus_syntax.specs.declared.named.Named.{Named}
use Rattle.circus_syntax.specs.declared.named.Numeral.{Numeral}
use Rattle.circus_syntax.specs.declared.interface_text.FieldsText.{FieldsText}
use Rattle.circus_syntax.specs.Reserved.{is_reserved, reserved_words}
use Rattle.circus_syntax.specs.TypeTree.{TypeTree, group_trees}
use Rattle.circus_syntax.specs.InterfaceTree.{DeclaredTree, a_type, an_error, a_procedure, InterfaceTree}
use Rattle.circus_syntax.specs.Placed.{Placed, first, is_lexeme, is_name, word, sign, Due, due, due_name, due_number, AreDue}
use Rattle.circus_syntax.specs.Reader.{passes, both, choose_by}
use Rattle.circus_syntax.specs.Reading.{expect_token, name, stop_in_list, fields, arguments, results, error_names, reports, number_at_end, a_type_behind, an_error_behind, a_procedure_behind, Parts, declared_of_parts, Declaring, of_type, of_error, of_procedure, declared_start, parts_behind, one_declaration, heading, declarations, interface_of_parts, interface}
use Rattle.circus_syntax.specs.Spelling.{each, if_written, spelling_names, spelling_type, spelling_groups, spelling_fields, spelling_results, spelling_reports, spelling_numbered, spelling_declared, spelling, IsEach, IsListed, IfWritten, IsName, IsNumeral, AreFields, field_levels, IsDeclared, declared_levels, IsGrammatical, IsWithin}
use Rattle.circus_syntax.proofs.Sound.{Sound, reader, sound_mapped, sound_both, sound_cased}
use Rattle.circus_syntax.proofs.Repeats.{Shrinks, sound_repeated, sound_marked, sound_optional}
use Rattle.circus_syntax.proofs.Complete.{Complete, Any, Opens, complete_both, complete_then, complete_mapped, complete_marked, complete_optional, complete_repeated, complete_weaker, cased_is}
use Rattle.circus_syntax.proofs.Tokens.{sound_fixed, sound_fixed_at, sound_name, sound_number, sound_behind, complete_fixed, complete_fixed_at, complete_name, complete_number, complete_behind, shrinks_both, shrinks_name, opens_due, opens_due_at, opens_name, is_comma}
use Rattle.circus_syntax.proofs.Types.{IsTypeWithin, AreGroupsWithin, sound_names, sound_type, sound_groups}
use Rattle.circus_syntax.proofs.TypesRead.{clash, is_dot, complete_names, complete_type, complete_groups}

abbrev pub AreFieldsWithin : ℕ → FieldsText → Type 0
AreFieldsWithin n f = AreGroupsWithin n f.groups

pub sound_fields : (n : ℕ) → Sound (fields n) spelling_fields (AreFieldsWithin n)
unfolding fields
sound_fields n =
    sound_marked stop_in_list (λ at s. refl)
    (sound_mapped (λ x. record { at = x.0; groups = x.1.0 }) spelling_fields (AreFieldsWithin n) (λ x. refl) (λ x g. g.1.0)
    (sound_both (sound_fixed_at (sign (codes "["))) (sound_both (sound_groups n) (sound_fixed (sign (codes "]"))))))

pub sound_arguments : (n : ℕ) → Sound (arguments n) (if_written spelling_fields) (IfWritten (AreFieldsWithin n))
unfolding arguments
sound_arguments n = sound_optional (is_lexeme (sign (codes "["))) (sound_fields n)

pub sound_results : (n : ℕ) → Sound (results n) (if_written spelling_results) (IfWritten (AreFieldsWithin n))
unfolding results
sound_results n = sound_optional (is_lexeme (word (codes "RETURNS"))) (sound_behind (word (codes "RETURNS")) (sound_fields n))

pub sound_reported : Sound error_names spelling_reports (IsListed IsName)
unfolding error_names
sound_reported =
    sound_mapped (λ x. x.1.1.0) spelling_reports (IsListed IsName) (λ x. refl) (λ x g. g.1.1.0)
    (sound_both (sound_fixed (word (codes "REPORTS"))) (sound_both (sound_fixed (sign (codes "["))) (sound_both sound_names (sound_fixed (sign (codes "]"))))))

pub sound_reports : Sound reports (if_written spelling_reports) (IfWritten (IsListed IsName))
unfolding reports
sound_reports = sound_optional (is_lexeme (word (codes "REPORTS"))) sound_reported

pub sound_numbered : Sound number_at_end spelling_numbered IsNumeral
unfolding number_at_end
sound_numbered =
    sound_mapped (λ x. x.1.0) spelling_numbered IsNumeral (λ x. refl) (λ x g. g.1.0)
    (sound_both (sound_fixed (sign (codes "="))) (sound_both sound_number (sound_fixed (sign (codes ";")))))

-- what stands behind the name and the colon of a declaration
abbrev pub ErrorParts : Type 0
ErrorParts = Option FieldsText × Numeral

abbrev pub ProcedureParts : Type 0
ProcedureParts = Option FieldsText × (Option FieldsText × (Option (List Named) × Numeral))

abbrev pub spelling_type_part : TypeTree → List Due
spelling_type_part t = due (word (codes "TYPE")) ∷ due (sign (codes "=")) ∷ (spelling_type t ++ due (sign (codes ";")) ∷ [])

abbrev pub spelling_error_parts : ErrorParts → List Due
spelling_error_parts x = due (word (codes "ERROR")) ∷ (if_written spelling_fields x.0 ++ spelling_numbered x.1)

abbrev pub spelling_procedure_parts : ProcedureParts → List Due
spelling_procedure_parts x =
    due (word (codes "PROCEDURE")) ∷ (if_written spelling_fields x.0 ++ (if_written spelling_results x.1.0 ++ (if_written spelling_reports x.1.1.0 ++ spelling_numbered x.1.1.1)))

abbrev pub AreErrorParts : ℕ → ErrorParts → Type 0
AreErrorParts n x = IfWritten (AreFieldsWithin n) x.0 × IsNumeral x.1

abbrev pub AreProcedureParts : ℕ → ProcedureParts → Type 0
AreProcedureParts n x = IfWritten (AreFieldsWithin n) x.0 × (IfWritten (AreFieldsWithin n) x.1.0 × (IfWritten (IsListed IsName) x.1.1.0 × IsNumeral x.1.1.1))

abbrev pub spelling_parts : Parts → List Due
spelling_parts (inl t) = spelling_type_part t
spelling_parts (inr (inl x)) = spelling_error_parts x
spelling_parts (inr (inr x)) = spelling_procedure_parts x

abbrev pub AreParts : ℕ → Parts → Type 0
AreParts n (inl t) = IsTypeWithin n t
AreParts n (inr (inl x)) = AreErrorParts n x
AreParts n (inr (inr x)) = AreProcedureParts n x

pub sound_type_behind : (n : ℕ) → Sound (a_type_behind n) spelling_type_part (IsTypeWithin n)
unfolding a_type_behind
sound_type_behind n =
    sound_mapped (λ x. x.1.1.0) spelling_type_part (IsTypeWithin n) (λ x. refl) (λ x g. g.1.1.0)
    (sound_both (sound_fixed (word (codes "TYPE"))) (sound_both (sound_fixed (sign (codes "="))) (sound_both (sound_type n) (sound_fixed (sign (codes ";"))))))

pub sound_error_behind : (n : ℕ) → Sound (an_error_behind n) spelling_error_parts (AreErrorParts n)
unfolding an_error_behind
sound_error_behind n =
    sound_mapped (λ x. x.1) spelling_error_parts (AreErrorParts n) (λ x. refl) (λ x g. g.1)
    (sound_both (sound_fixed (word (codes "ERROR"))) (sound_both (sound_arguments n) sound_numbered))

pub sound_procedure_behind : (n : ℕ) → Sound (a_procedure_behind n) spelling_procedure_parts (AreProcedureParts n)
unfolding a_procedure_behind
sound_procedure_behind n =
    sound_mapped (λ x. x.1) spelling_procedure_parts (AreProcedureParts n) (λ x. refl) (λ x g. g.1)
    (sound_both (sound_fixed (word (codes "PROCEDURE"))) (sound_both (sound_arguments n) (sound_both (sound_results n) (sound_both sound_reports sound_numbered))))

pub sound_parts : (n : ℕ) (k : Declaring) → Sound (parts_behind n k) spelling_parts (AreParts n)
sound_parts n of_type = sound_mapped (λ t. inl t) spelling_parts (AreParts n) (λ t. refl) (λ t g. g) (sound_type_behind n)
sound_parts n of_error = sound_mapped (λ x. inr (inl x)) spelling_parts (AreParts n) (λ x. refl) (λ x g. g) (sound_error_behind n)
sound_parts n of_procedure = sound_mapped (λ x. inr (inr x)) spelling_parts (AreParts n) (λ x. refl) (λ x g. g) (sound_procedure_behind n)

abbrev pub IsDeclaredWithin : ℕ → DeclaredTree → Type 0
IsDeclaredWithin n d = IsDeclared d × (declared_levels d ≤ n)

pub declared_spelled : (x : Named × (Unit {0} × Parts)) → spelling_declared (declared_of_parts x.0 x.1.1) ≡ due_name x.0 ∷ due (sign (codes ":")) ∷ spelling_parts x.1.1
declared_spelled x = by_parts x.1.1
  where
    by_parts : (y : Parts) → spelling_declared (declared_of_parts x.0 y) ≡ due_name x.0 ∷ due (sign (codes ":")) ∷ spelling_parts y
    by_parts (inl t) = refl
    by_parts (inr (inl y)) = refl
    by_parts (inr (inr y)) = refl

fields_good : (n : ℕ) (o : Option FieldsText) → IfWritten (AreFieldsWithin n) o → IfWritten AreFields o × (field_levels o ≤ n)
fields_good n None g = (tt, omega arith)
fields_good n (Some f) g = g

fields_back : (n : ℕ) (o : Option FieldsText) → IfWritten AreFields o → field_levels o ≤ n → IfWritten (AreFieldsWithin n) o
fields_back n None g few = tt
fields_back n (Some f) g few = (g, few)

declared_good : (n : ℕ) (x : Named × (Unit {0} × Parts)) → IsName x.0 × (Unit {0} × AreParts n x.1.1) → IsDeclaredWithin n (declared_of_parts x.0 x.1.1)
declared_good n x g = by_parts x.1.1 g.1.1
  where
    by_parts : (y : Parts) → AreParts n y → IsDeclaredWithin n (declared_of_parts x.0 y)
    by_parts (inl t) h = ((g.0, h.0), h.1)
    by_parts (inr (inl y)) h = let f = fields_good n y.0 h.0 in ((g.0, f.0, h.1), f.1)
    by_parts (inr (inr y)) h =
        let a = fields_good n y.0 h.0 in
        let r = fields_good n y.1.0 h.1.0 in
        ((g.0, a.0, r.0, h.1.1.0, h.1.1.1), max-le a.1 r.1)

pub sound_declared : (n : ℕ) → Sound (one_declaration n) spelling_declared (IsDeclaredWithin n)
unfolding one_declaration
sound_declared n =
    sound_mapped (λ x. declared_of_parts x.0 x.1.1) spelling_declared (IsDeclaredWithin n) declared_spelled (declared_good n)
    (sound_both sound_name (sound_both (sound_fixed (sign (codes ":"))) (sound_cased declared_start (parts_behind n) (sound_parts n))))

abbrev pub spelling_heading : Named × (Numeral × Numeral) → List Due
spelling_heading x =
    due_name x.0 ∷ due (sign (codes ":")) ∷ due (word (codes "PROGRAM")) ∷ due_number x.1.0 ∷ due (word (codes "VERSION"))
    ∷ due_number x.1.1 ∷ due (sign (codes "=")) ∷ due (word (codes "BEGIN")) ∷ []

abbrev pub IsHeading : Named × (Numeral × Numeral) → Type 0
IsHeading x = IsName x.0 × (IsNumeral x.1.0 × IsNumeral x.1.1)

pub sound_heading : Sound heading spelling_heading IsHeading
unfolding heading
sound_heading =
    sound_mapped (λ x. (x.0, (x.1.1.1.0, x.1.1.1.1.1.0))) spelling_heading IsHeading (λ x. refl) (λ x g. (g.0, (g.1.1.1.0, g.1.1.1.1.1.0)))
    (sound_both sound_name (sound_both (sound_fixed (sign (codes ":"))) (sound_both (sound_fixed (word (codes "PROGRAM"))) (sound_both sound_number
    (sound_both (sound_fixed (word (codes "VERSION"))) (sound_both sound_number (sound_both (sound_fixed (sign (codes "="))) (sound_fixed (word (codes "BEGIN"))))))))))

pub shrinks_declared : (n : ℕ) → Shrinks is_name (one_declaration n)
unfolding one_declaration
shrinks_declared n r hit =
    shrinks_both is_name name (both (expect_token (sign (codes ":"))) (choose_by declared_start (parts_behind n))) shrinks_name
    (sound_both (sound_fixed (sign (codes ":"))) (sound_cased declared_start (parts_behind n) (sound_parts n))) r hit

pub sound_declarations : (n : ℕ) → Sound (declarations n) (each spelling_declared) (IsEach (IsDeclaredWithin n))
unfolding declarations
sound_declarations n = sound_repeated is_name (shrinks_declared n) (sound_declared n)

abbrev pub IsInterfaceWithin : ℕ → InterfaceTree → Type 0
IsInterfaceWithin n tree = IsGrammatical tree × IsWithin n tree

each_parts : (n : ℕ) (ds : List DeclaredTree) → IsEach (IsDeclaredWithin n) ds → IsEach IsDeclared ds × IsEach (λ d. declared_levels d ≤ n) ds
each_parts n [] g = (tt, tt)
each_parts n (d ∷ ds) g = let more = each_parts n ds g.1 in ((g.0.0, more.0), (g.0.1, more.1))

each_whole : (n : ℕ) (ds : List DeclaredTree) → IsEach IsDeclared ds → IsEach (λ d. declared_levels d ≤ n) ds → IsEach (IsDeclaredWithin n) ds
each_whole n [] g h = tt
each_whole n (d ∷ ds) g h = ((g.0, h.0), each_whole n ds g.1 h.1)

pub sound_interface : (n : ℕ) → Sound (interface n) spelling (IsInterfaceWithin n)
unfolding interface
sound_interface n =
    sound_mapped interface_of_parts spelling (IsInterfaceWithin n) (λ x. refl)
    (λ x g. let declared_parts = each_parts n x.1.0 g.1.0 in ((g.0.0, g.0.1.0, g.0.1.1, declared_parts.0), declared_parts.1))
    (sound_both sound_heading (sound_both (sound_declarations n) (sound_both (sound_fixed (word (codes "END"))) (sound_fixed (sign (codes "."))))))

-- What is spelled is read.

complete_fields : (n : ℕ) → Complete (fields n) spelling_fields (AreFieldsWithin n) Any
unfolding fields
complete_fields n =
    complete_marked stop_in_list
    (complete_mapped (λ x. record { at = x.0; groups = x.1.0 }) spelling_fields (AreFieldsWithin n) (λ x. refl) (λ f g. ((f.at, (f.groups, tt)), refl, (tt, (g, tt))))
    (complete_then (complete_fixed_at (sign (codes "["))) (complete_both (complete_groups n) (complete_fixed (sign (codes "]")))
    (λ x us rest g d stays. (clash (sign (codes "]")) [] us rest is_dot (λ s. refl) d, clash (sign (codes "]")) [] us rest is_comma (λ s. refl) d, opens_due (sign (codes "]")) [] us rest d)))))

-- what the next token isn't
abbrev IsNot : Lexeme → Option Placed → Type 0
IsNot l o = passes (is_lexeme l) o ≡ false

complete_arguments : (n : ℕ) → Complete (arguments n) (if_written spelling_fields) (IfWritten (AreFieldsWithin n)) (IsNot (sign (codes "[")))
unfolding arguments
complete_arguments n =
    complete_weaker (IsNot (sign (codes "["))) (λ o h. (tt, h))
    (complete_optional (is_lexeme (sign (codes "["))) (complete_fields n)
    (λ f ts rest g d. opens_due_at (sign (codes "[")) f.at (spelling_groups (group_trees f.groups) ++ due (sign (codes "]")) ∷ []) ts rest d))

complete_results : (n : ℕ) → Complete (results n) (if_written spelling_results) (IfWritten (AreFieldsWithin n)) (IsNot (word (codes "RETURNS")))
unfolding results
complete_results n =
    complete_weaker (IsNot (word (codes "RETURNS"))) (λ o h. (tt, h))
    (complete_optional (is_lexeme (word (codes "RETURNS"))) (complete_behind (word (codes "RETURNS")) (complete_fields n))
    (λ f ts rest g d. opens_due (word (codes "RETURNS")) (spelling_fields f) ts rest d))

complete_reported : Complete error_names spelling_reports (IsListed IsName) Any
unfolding error_names
complete_reported =
    complete_mapped (λ x. x.1.1.0) spelling_reports (IsListed IsName) (λ x. refl) (λ ns g. ((tt, (tt, (ns, tt))), refl, (tt, (tt, (g, tt)))))
    (complete_then (complete_fixed (word (codes "REPORTS"))) (complete_then (complete_fixed (sign (codes "["))) (complete_both complete_names (complete_fixed (sign (codes "]")))
    (λ x us rest g d stays. clash (sign (codes "]")) [] us rest is_comma (λ s. refl) d))))

complete_reports : Complete reports (if_written spelling_reports) (IfWritten (IsListed IsName)) (IsNot (word (codes "REPORTS")))
unfolding reports
complete_reports =
    complete_weaker (IsNot (word (codes "REPORTS"))) (λ o h. (tt, h))
    (complete_optional (is_lexeme (word (codes "REPORTS"))) complete_reported
    (λ ns ts rest g d. opens_due (word (codes "REPORTS")) (due (sign (codes "[")) ∷ (spelling_names ns ++ due (sign (codes "]")) ∷ [])) ts rest d))

complete_numbered : Complete number_at_end spelling_numbered IsNumeral Any
unfolding number_at_end
complete_numbered =
    complete_mapped (λ x. x.1.0) spelling_numbered IsNumeral (λ x. refl) (λ n g. ((tt, (n, tt)), refl, (tt, (g, tt))))
    (complete_then (complete_fixed (sign (codes "="))) (complete_then complete_number (complete_fixed (sign (codes ";")))))

complete_type_behind : (n : ℕ) → Complete (a_type_behind n) spelling_type_part (IsTypeWithin n) Any
unfolding a_type_behind
complete_type_behind n =
    complete_mapped (λ x. x.1.1.0) spelling_type_part (IsTypeWithin n) (λ x. refl) (λ t g. ((tt, (tt, (t, tt))), refl, (tt, (tt, (g, tt)))))
    (complete_then (complete_fixed (word (codes "TYPE"))) (complete_then (complete_fixed (sign (codes "="))) (complete_both (complete_type n) (complete_fixed (sign (codes ";")))
    (λ x us rest g d stays. clash (sign (codes ";")) [] us rest is_dot (λ s. refl) d))))

-- what the number at the end of a declaration begins with
numbered_clash : (k : Numeral) (us rest : List Placed) (test : Placed → Bool) → ((s : ℕ) → test (record { kind = Sign; bytes = codes "="; start = s }) ≡ false)
    → AreDue (spelling_numbered k) us → passes test (first (us ++ rest)) ≡ false
numbered_clash k us rest test fails d = clash (sign (codes "=")) (due_number k ∷ due (sign (codes ";")) ∷ []) us rest test fails d

complete_error_behind : (n : ℕ) → Complete (an_error_behind n) spelling_error_parts (AreErrorParts n) Any
unfolding an_error_behind
complete_error_behind n =
    complete_mapped (λ x. x.1) spelling_error_parts (AreErrorParts n) (λ x. refl) (λ x g. ((tt, x), refl, (tt, g)))
    (complete_then (complete_fixed (word (codes "ERROR"))) (complete_both (complete_arguments n) complete_numbered
    (λ k us rest g d stays. numbered_clash k us rest (is_lexeme (sign (codes "["))) (λ s. refl) d)))

-- REPORTS or the number
reports_clash : (o : Option (List Named)) (k : Numeral) (us rest : List Placed) (test : Placed → Bool)
    → ((s : ℕ) → test (record { kind = Sign; bytes = codes "="; start = s }) ≡ false) → ((s : ℕ) → test (record { kind = Word; bytes = codes "REPORTS"; start = s }) ≡ false)
    → AreDue (if_written spelling_reports o ++ spelling_numbered k) us → passes test (first (us ++ rest)) ≡ false
reports_clash None k us rest test equals_fails reports_fails d = numbered_clash k us rest test equals_fails d
reports_clash (Some ns) k us rest test equals_fails reports_fails d =
    clash (word (codes "REPORTS")) ((due (sign (codes "[")) ∷ (spelling_names ns ++ due (sign (codes "]")) ∷ [])) ++ spelling_numbered k) us rest test reports_fails d

results_clash : (f : Option FieldsText) (o : Option (List Named)) (k : Numeral) (us rest : List Placed)
    → AreDue (if_written spelling_results f ++ (if_written spelling_reports o ++ spelling_numbered k)) us → IsNot (sign (codes "[")) (first (us ++ rest))
results_clash None o k us rest d = reports_clash o k us rest (is_lexeme (sign (codes "["))) (λ s. refl) (λ s. refl) d
results_clash (Some f) o k us rest d =
    clash (word (codes "RETURNS")) (spelling_fields f ++ (if_written spelling_reports o ++ spelling_numbered k)) us rest (is_lexeme (sign (codes "["))) (λ s. refl) d

complete_procedure_behind : (n : ℕ) → Complete (a_procedure_behind n) spelling_procedure_parts (AreProcedureParts n) Any
unfolding a_procedure_behind
complete_procedure_behind n =
    complete_mapped (λ x. x.1) spelling_procedure_parts (AreProcedureParts n) (λ x. refl) (λ x g. ((tt, x), refl, (tt, g)))
    (complete_then (complete_fixed (word (codes "PROCEDURE")))
    (complete_both (complete_arguments n)
    (complete_both (complete_results n)
    (complete_both complete_reports complete_numbered
    (λ k us rest g d stays. numbered_clash k us rest (is_lexeme (word (codes "REPORTS"))) (λ s. refl) d))
    (λ x us rest g d stays. reports_clash x.0 x.1 us rest (is_lexeme (word (codes "RETURNS"))) (λ s. refl) (λ s. refl) d))
    (λ x us rest g d stays. results_clash x.0 x.1.0 x.1.1 us rest d)))

declared_begins : (w : List ℕ) (k : Declaring) (ds : List Due) (ts rest : List Placed)
    → ((s : ℕ) → declared_start (Some (record { kind = Word; bytes = w; start = s })) ≡ k)
    → AreDue (due (word w) ∷ ds) ts → declared_start (first (ts ++ rest)) ≡ k
declared_begins w k ds [] rest is d = absurd d
declared_begins w k ds (t ∷ ts) rest is d = (λ i. declared_start (Some (record { kind = d.0.0 i; bytes = d.0.1 i; start = t.start }))) ∙ is t.start

complete_parts : (n : ℕ) → Complete (choose_by declared_start (parts_behind n)) spelling_parts (AreParts n) Any
complete_parts n = record { reads = reads }
  where
    reads : (x : Parts) (ts rest : List Placed) (e : ℕ) → AreParts n x → AreDue (spelling_parts x) ts → Unit {0} → choose_by declared_start (parts_behind n) (reader None (ts ++ rest) e) ≡ (x, reader None rest e)
    reads (inl t) ts rest e g d stays =
        cased_is declared_start (parts_behind n) of_type (ts ++ rest) e (inl t, reader None rest e)
        (declared_begins (codes "TYPE") of_type (due (sign (codes "=")) ∷ (spelling_type t ++ due (sign (codes ";")) ∷ [])) ts rest (λ s. refl) d)
        (ap (λ y. (inl y.0, y.1)) ((complete_type_behind n).reads t ts rest e g d tt))
    reads (inr (inl x)) ts rest e g d stays =
        cased_is declared_start (parts_behind n) of_error (ts ++ rest) e (inr (inl x), reader None rest e)
        (declared_begins (codes "ERROR") of_error (if_written spelling_fields x.0 ++ spelling_numbered x.1) ts rest (λ s. refl) d)
        (ap (λ y. (inr (inl y.0), y.1)) ((complete_error_behind n).reads x ts rest e g d tt))
    reads (inr (inr x)) ts rest e g d stays =
        cased_is declared_start (parts_behind n) of_procedure (ts ++ rest) e (inr (inr x), reader None rest e)
        (declared_begins (codes "PROCEDURE") of_procedure (if_written spelling_fields x.0 ++ (if_written spelling_results x.1.0 ++ (if_written spelling_reports x.1.1.0 ++ spelling_numbered x.1.1.1))) ts rest (λ s. refl) d)
        (ap (λ y. (inr (inr y.0), y.1)) ((complete_procedure_behind n).reads x ts rest e g d tt))

declared_back : (n : ℕ) (d : DeclaredTree) → IsDeclaredWithin n d
    → (x : Named × (Unit {0} × Parts)) × (declared_of_parts x.0 x.1.1 ≡ d) × (IsName x.0 × (Unit {0} × AreParts n x.1.1))
declared_back n (a_type m t) g = ((m, (tt, inl t)), refl, (g.0.0, (tt, (g.0.1, g.1))))
declared_back n (an_error e) g =
    ((e.name, (tt, inr (inl (e.arguments, e.number)))), refl, (g.0.0, (tt, (fields_back n e.arguments g.0.1 g.1, g.0.2))))
declared_back n (a_procedure p) g = (
  (p.name, (tt, inr (inr (p.arguments, (p.results, (p.reports, p.number)))))),
  refl,
  (
    g.0.0,
    (
      tt,
      (
        fields_back n p.arguments g.0.1 (omega (arith, g.1, le-max_left (field_levels p.arguments) (field_levels p.results))),
        (
          fields_back n p.results g.0.2 (omega (arith, g.1, le-max_right (field_levels p.arguments) (field_levels p.results))),
          (g.0.3, g.0.4),
        ),
      ),
    ),
  ),
)

complete_declared : (n : ℕ) → Complete (one_declaration n) spelling_declared (IsDeclaredWithin n) Any
unfolding one_declaration
complete_declared n =
    complete_mapped (λ x. declared_of_parts x.0 x.1.1) spelling_declared (IsDeclaredWithin n) declared_spelled (declared_back n)
    (complete_then complete_name (complete_then (complete_fixed (sign (codes ":"))) (complete_parts n)))

complete_heading : Complete heading spelling_heading IsHeading Any
unfolding heading
complete_heading =
    complete_mapped (λ x. (x.0, (x.1.1.1.0, x.1.1.1.1.1.0))) spelling_heading IsHeading (λ x. refl)
    (λ h g. ((h.0, (tt, (tt, (h.1.0, (tt, (h.1.1, (tt, tt))))))), refl, (g.0, (tt, (tt, (g.1.0, (tt, (g.1.1, (tt, tt)))))))))
    (complete_then complete_name (complete_then (complete_fixed (sign (codes ":"))) (complete_then (complete_fixed (word (codes "PROGRAM"))) (complete_then complete_number
    (complete_then (complete_fixed (word (codes "VERSION"))) (complete_then complete_number (complete_then (complete_fixed (sign (codes "="))) (complete_fixed (word (codes "BEGIN"))))))))))

declared_opens : (n : ℕ) → Opens spelling_declared (IsDeclaredWithin n) is_name
declared_opens n (a_type m t) ts rest g d = opens_name m (due (sign (codes ":")) ∷ spelling_type_part t) ts rest g.0.0 d
declared_opens n (an_error e) ts rest g d = opens_name e.name (due (sign (codes ":")) ∷ spelling_error_parts (e.arguments, e.number)) ts rest g.0.0 d
declared_opens n (a_procedure p) ts rest g d =
    opens_name p.name (due (sign (codes ":")) ∷ spelling_procedure_parts (p.arguments, (p.results, (p.reports, p.number)))) ts rest g.0.0 d

abbrev NotName : Option Placed → Type 0
NotName o = passes is_name o ≡ false

complete_declarations : (n : ℕ) → Complete (declarations n) (each spelling_declared) (IsEach (IsDeclaredWithin n)) NotName
unfolding declarations
complete_declarations n =
    complete_weaker NotName (λ o h. (tt, h))
    (complete_repeated is_name (shrinks_declared n) (complete_declared n) (declared_opens n) (λ o h. tt))

end_is_no_name : (s : ℕ) → is_name (record { kind = Word; bytes = codes "END"; start = s }) ≡ false
unfolding is_reserved reserved_words
end_is_no_name s = refl

pub complete_interface : (n : ℕ) → Complete (interface n) spelling (IsInterfaceWithin n) Any
unfolding interface
complete_interface n =
    complete_mapped interface_of_parts spelling (IsInterfaceWithin n) (λ x. refl)
    (λ tree g. (
      ((tree.name, (tree.number, tree.version)), (tree.declared, (tt, tt))),
      refl,
      ((g.0.0, (g.0.1, g.0.2)), (each_whole n tree.declared g.0.3 g.1, (tt, tt))),
    ))
    (complete_then complete_heading (complete_both (complete_declarations n) (complete_then (complete_fixed (word (codes "END"))) (complete_fixed (sign (codes "."))))
    (λ x us rest g d stays. clash (word (codes "END")) (due (sign (codes ".")) ∷ []) us rest is_name end_is_no_name d)))
