-- The texts of outcomes that fit are read.
use Rattle.std.specs.Fmt.{digits, digits_onto, digit_glyph}
use Rattle.std.specs.Fmt.{decimal}
use Rattle.std.specs.Option.{option_map_or}
use Rattle.std.proofs.Common.{◌≡◌, ◌∙◌, ℕ, pos, negsuc, zero, suc, ◌+◌, ◌/◌, ◌%◌, ◌<◌, ◌≤◌, ◌^◌, Bool, true, false, cond, not, ◌||◌, nat_eq, nat_lt, List, [], ◌∷◌, ◌++◌, codes, Option, Some, None, refl, ap, arith, append_assoc}
use Rattle.std.proofs.lemmas.Bool.{ne_eqb, ltb-true, ltb-false}
use Rattle.circus_value.specs.ValueTree.{ValueTree, value_trees}
use Rattle.circus_value.specs.ValueTree as V
use Rattle.circus_value.specs.Fits.{all_fit}
use Rattle.circus_value.specs.Shown.{text_of_value, shown_others, shown_list}
use Rattle.circus_value.specs.OutcomeText.{outcome_text}
use Rattle.circus_value.specs.declared.outcome.Outcome.{Outcome}
use Rattle.circus_value.specs.declared.outcome.Outcome.TheVariants.{Returned, Raised}
use Rattle.circus_model.specs.LanguageError.{is_language_error}
use Rattle.circus_model.specs.Lawful.{outcome_fits, is_reported}
use Rattle.circus_model.specs.declared.signature.ErrorShape.{ErrorShape}
use Rattle.circus_model.specs.declared.signature.ProcedureShape.{ProcedureShape}
use Rattle.circus_value_text.specs.Reading.{and_then, seen_as, behind_prefix, behind}
use Rattle.circus_value_text.proofs.Marks.{passed_front}
use Rattle.circus_value_text.proofs.Numbers.{number_complete}
use Rattle.circus_audit.specs.Seen.Values.{reported_read, error_numbered, error_if, error_read, raised_read, outcome_if, outcome_read, outcome_behind}
use Rattle.circus_audit.proofs.Completing.{parts, Completes, behind_complete}
use Rattle.circus_audit.proofs.CompletingValues.{values_complete}

-- ---- what values begin with

-- some byte stands in front, and no closing bracket
abbrev opens : List ℕ → Bool
opens [] = false
opens (b ∷ text) = not (nat_eq b 93)

opens_more : (xs ys : List ℕ) → opens xs ≡ true → opens (xs ++ ys) ≡ true
opens_more [] ys is = cc
opens_more (x ∷ xs) ys is = is

glyph_opens : (d : ℕ) (text : List ℕ) → opens (digit_glyph false d ∷ text) ≡ true
glyph_opens d text = by_test (nat_lt d 10) refl
  where
    by_test : (b : Bool) → nat_lt d 10 ≡ b → opens (cond b (48 + d) (87 + d) ∷ text) ≡ true
    by_test true less = let small : d < 10 = ltb-true d 10 less in ap not (ne_eqb (48 + d) 93 (λ e. omega (arith, e, small)))
    by_test false less = let large : 10 ≤ d = ltb-false d 10 less in ap not (ne_eqb (87 + d) 93 (λ e. omega (arith, e, large)))

onto_opens : (k n : ℕ) (acc : List ℕ) → opens acc ≡ true → opens (digits_onto k 10 false n acc) ≡ true
onto_opens zero n acc is = is
onto_opens (suc k) n acc is = by_test (nat_eq (n / 10) 0) (onto_opens k (n / 10) (digit_glyph false (n % 10) ∷ acc) (glyph_opens (n % 10) acc))
  where
    by_test : (b : Bool) → opens (digits_onto k 10 false (n / 10) (digit_glyph false (n % 10) ∷ acc)) ≡ true → opens (cond b (digit_glyph false (n % 10) ∷ acc) (digits_onto k 10 false (n / 10) (digit_glyph false (n % 10) ∷ acc))) ≡ true
    by_test true later = glyph_opens (n % 10) acc
    by_test false later = later

decimal_opens : (n : ℕ) → opens (decimal n) ≡ true
unfolding digits
decimal_opens n = by_test (nat_eq (n / 10) 0)
  where
    by_test : (b : Bool) → opens (cond b (digit_glyph false (n % 10) ∷ []) (digits_onto 63 10 false (n / 10) (digit_glyph false (n % 10) ∷ []))) ≡ true
    by_test true = glyph_opens (n % 10) []
    by_test false = onto_opens 63 (n / 10) (digit_glyph false (n % 10) ∷ []) (glyph_opens (n % 10) [])

shown_opens : (t : ValueTree) → opens (text_of_value t) ≡ true
shown_opens (V.boolean true) = refl
shown_opens (V.boolean false) = refl
shown_opens (V.cardinal n) = decimal_opens n
shown_opens (V.long_cardinal n) = decimal_opens n
shown_opens (V.integer (pos n)) = decimal_opens n
shown_opens (V.integer (negsuc n)) = refl
shown_opens (V.long_integer (pos n)) = decimal_opens n
shown_opens (V.long_integer (negsuc n)) = refl
shown_opens (V.text bytes) = refl
shown_opens (V.enumeration n) = refl
shown_opens (V.array items) = refl
shown_opens (V.sequence items) = refl
shown_opens (V.«record» items) = refl
shown_opens (V.choice n t) = opens_more (decimal n) (40 ∷ (text_of_value t ++ 41 ∷ [])) (decimal_opens n)

no_bracket : (text : List ℕ) → opens text ≡ true → behind_prefix (93 ∷ []) text ≡ None
no_bracket [] is = cc
no_bracket (b ∷ text) is = by_test (nat_eq b 93) is
  where
    by_test : (same : Bool) → not same ≡ true → cond same (Some text) None ≡ None
    by_test true other = cc
    by_test false other = refl

-- a list of values that isn't empty has no brackets alone
some_values : (t : ValueTree) (ts : List ValueTree) (rest : List ℕ) → behind_prefix (codes "[]") (shown_list (t ∷ ts) ++ rest) ≡ None
some_values t ts rest =
    let us = value_trees ts in
    no_bracket (((text_of_value t ++ shown_others us) ++ 93 ∷ []) ++ rest) (opens_more ((text_of_value t ++ shown_others us) ++ 93 ∷ []) rest (opens_more (text_of_value t ++ shown_others us) (93 ∷ []) (opens_more (text_of_value t) (shown_others us) (shown_opens t))))

-- ---- errors

left_of : (a b : Bool) → (a || b) ≡ true → b ≡ false → a ≡ true
left_of true b either off = refl
left_of false b either off = cc

reported_complete : (number : ℕ) (values : List ValueTree) (rest : List ℕ) (e : Option ErrorShape) → option_map_or (λ (x : ErrorShape). all_fit x.arguments values) e false ≡ true → parts rest ≡ true → reported_read number (shown_list values ++ rest) e ≡ Some (Raised number values, rest)
reported_complete number values rest (Some e) fit ends = ap (seen_as (λ vs. Raised number vs)) (values_complete e.arguments values rest fit ends)
reported_complete number values rest None fit ends = cc

error_complete : (p : ProcedureShape) (number : ℕ) (values : List ValueTree) (rest : List ℕ) → outcome_fits p (Raised number values) ≡ true → parts rest ≡ true → error_read p.errors number (shown_list values ++ rest) ≡ Some (Raised number values, rest)
error_complete p number [] rest fit ends = by_language (is_language_error number) refl
  where
    by_language : (b : Bool) → is_language_error number ≡ b → error_read p.errors number (shown_list [] ++ rest) ≡ Some (Raised number [], rest)
    by_language true is = ap (λ b. error_if p.errors number (shown_list [] ++ rest) (cond b (behind_prefix (codes "[]") (shown_list [] ++ rest)) None)) is
    by_language false is =
        ap (λ b. error_if p.errors number (shown_list [] ++ rest) (cond b (behind_prefix (codes "[]") (shown_list [] ++ rest)) None)) is
        ∙ reported_complete number [] rest (error_numbered p.errors number) (left_of (is_reported p.errors number []) (is_language_error number) fit is) ends
error_complete p number (v ∷ vs) rest fit ends =
    let text = shown_list (v ∷ vs) ++ rest in
    bare (is_language_error number)
    ∙ reported_complete number (v ∷ vs) rest (error_numbered p.errors number) (left_of (is_reported p.errors number (v ∷ vs)) false fit refl) ends
  where
    bare : (b : Bool) → error_if p.errors number (shown_list (v ∷ vs) ++ rest) (cond b (behind_prefix (codes "[]") (shown_list (v ∷ vs) ++ rest)) None) ≡ reported_read number (shown_list (v ∷ vs) ++ rest) (error_numbered p.errors number)
    bare true = ap (error_if p.errors number (shown_list (v ∷ vs) ++ rest)) (some_values v vs rest)
    bare false = refl

-- ---- outcomes

-- the number of an error is one of two bytes
abbrev pub IsSmallError : Outcome → Type 0
IsSmallError (Returned results) = Unit {0}
IsSmallError (Raised number values) = number < 2 ^ 16

abbrev pub CanEnd : ProcedureShape → Outcome → Type 0
CanEnd p o = (outcome_fits p o ≡ true) × IsSmallError o

raised_text : (r n s v rest : List ℕ) → (((r ++ n) ++ s) ++ v) ++ rest ≡ r ++ (n ++ (s ++ (v ++ rest)))
raised_text r n s v rest = simp append_assoc

pub outcome_complete : (p : ProcedureShape) → Completes (outcome_read p) outcome_text (CanEnd p)
outcome_complete p (Returned results) rest can ends =
    ap (outcome_read p) (append_assoc (codes "returned ") (shown_list results) rest)
    ∙ ap (outcome_if p (codes "returned " ++ (shown_list results ++ rest))) (passed_front (codes "returned ") (shown_list results ++ rest))
    ∙ ap (seen_as (λ rs. Returned rs)) (values_complete p.results results rest can.0 ends)
outcome_complete p (Raised number values) rest can ends =
    let behind_number = codes " " ++ (shown_list values ++ rest) in
    let inner = decimal number ++ behind_number in
    let small : number < 2 ^ 16 = can.1 in
    let go_on = λ (n : ℕ) (later : List ℕ). behind (behind_prefix (codes " ") later) (error_read p.errors n) in
    ap (outcome_read p) (raised_text (codes "raised ") (decimal number) (codes " ") (shown_list values) rest)
    ∙ ap (λ r. behind r (raised_read p.errors)) (passed_front (codes "raised ") inner)
    ∙ ap (λ r. and_then r go_on) (number_complete 65535 number behind_number (omega (arith, small)) (omega arith) refl)
    ∙ ap (λ r. behind r (error_read p.errors number)) (passed_front (codes " ") (shown_list values ++ rest))
    ∙ error_complete p number values rest can.0 ends

pub outcome_behind_complete : (p : ProcedureShape) → Completes (outcome_behind p) (λ o. codes " " ++ outcome_text o) (CanEnd p)
outcome_behind_complete p = behind_complete (codes " ") (outcome_read p) outcome_text (CanEnd p) (outcome_complete p)
