-- Words, signs, names and numbers, and lists with commas.
use Rattle.std.proofs.Common.{◌≡◌, ℕ, ◌-◌, ◌<◌, Bool, true, false, not, List, [], ◌∷◌, ◌++◌, length, take, refl, ◌∙◌, sym, ap, subst, arith, length-append}
use Rattle.std.specs.Prelude.{Option, Some, None, codes, bytes_eq}
use Rattle.std.proofs.lemmas.Bool.{and_parts, not-true, ltb-false}
use Rattle.std.proofs.Math.Seq.{take-append_seam}
use Rattle.std.proofs.lemmas.Slice.Eq.{bytes_eq-Decides}
use Rattle.circus_text.specs.declared.token.TokenKind.{TokenKind}
use Rattle.circus_text.specs.declared.token.TokenKind.TheVariants.{Word, Number, Quoted, Sign}
use Rattle.circus_text.specs.ByteClass.{quote}
use Rattle.circus_text.specs.Token.{Lexeme, IsSpelling, content_of}
use Rattle.circus_syntax.specs.declared.named.Named.{Named}
use Rattle.circus_syntax.specs.declared.named.Numeral.{Numeral}
use Rattle.circus_syntax.specs.Reserved.{is_reserved, reserved_words}
use Rattle.circus_syntax.specs.Placed.{Placed, first, same_kind, is_lexeme, is_name, is_number, is_text, in_quotes, sign, Due, due, due_at, due_name, due_number, due_text, AreDue}
use Rattle.circus_syntax.specs.Reader.{Reader, passes, next_of, token, token_in, both}
use Rattle.circus_syntax.specs.Reading.{expect_token, fixed_at, name, number, quoted_text, named_of, numeral_of, filled_name, filled_numeral, behind, comma_list}
use Rattle.circus_syntax.specs.Spelling.{with_commas, comma, spelling_name, spelling_number, IsEach, IsListed, IsName, IsNumeral, IsText}
use Rattle.circus_syntax.proofs.Sound.{Sound, sound_token, sound_mapped, sound_both}
use Rattle.circus_syntax.proofs.Repeats.{Shrinks, never_longer, sound_repeated}
use Rattle.circus_syntax.proofs.Complete.{Complete, Any, Opens, complete_token, complete_both, complete_then, complete_mapped, complete_repeated, stays_behind}

pub same_kind-is : (a b : TokenKind) → same_kind a b ≡ true → a ≡ b
same_kind-is Word Word h = refl
same_kind-is Number Number h = refl
same_kind-is Quoted Quoted h = refl
same_kind-is Sign Sign h = refl
same_kind-is _ _ h = cc

pub same_kind-refl : (a : TokenKind) → same_kind a a ≡ true
same_kind-refl Word = refl
same_kind-refl Number = refl
same_kind-refl Quoted = refl
same_kind-refl Sign = refl

pub bytes_eq-refl : (w : List ℕ) → bytes_eq w w ≡ true
bytes_eq-refl w = (bytes_eq-Decides w w).1 refl

pub lexeme_is : (l : Lexeme) (t : Placed) → is_lexeme l t ≡ true → (t.kind ≡ l.kind) × (t.bytes ≡ l.bytes)
lexeme_is l t hit =
    let (kind, bytes) = and_parts (same_kind t.kind l.kind) (bytes_eq t.bytes l.bytes) hit in
    (same_kind-is t.kind l.kind kind, (bytes_eq-Decides t.bytes l.bytes).0 bytes)

pub is_lexeme_of : (l : Lexeme) (t : Placed) → t.kind ≡ l.kind → t.bytes ≡ l.bytes → is_lexeme l t ≡ true
is_lexeme_of l t kind bytes = rw (kind, bytes, same_kind-refl l.kind) (bytes_eq-refl l.bytes)

-- the due first token passes
pub opens_due : (l : Lexeme) (ds : List Due) (ts rest : List Placed) → AreDue (due l ∷ ds) ts → passes (is_lexeme l) (first (ts ++ rest)) ≡ true
opens_due l ds [] rest d = absurd d
opens_due l ds (t ∷ ts) rest d = is_lexeme_of l t d.0.0 d.0.1

pub opens_due_at : (l : Lexeme) (at : ℕ) (ds : List Due) (ts rest : List Placed) → AreDue (due_at l at ∷ ds) ts → passes (is_lexeme l) (first (ts ++ rest)) ≡ true
opens_due_at l at ds [] rest d = absurd d
opens_due_at l at ds (t ∷ ts) rest d = is_lexeme_of l t d.0.0 d.0.1

abbrev pub spelling_fixed : Lexeme → Unit {0} → List Due
spelling_fixed l u = due l ∷ []

abbrev pub spelling_fixed_at : Lexeme → ℕ → List Due
spelling_fixed_at l at = due_at l at ∷ []

abbrev pub Always : {A : Type 0} → A → Type 0
Always a = Unit {0}

pub sound_fixed : (l : Lexeme) → Sound (expect_token l) (spelling_fixed l) Always
unfolding expect_token
sound_fixed l =
    sound_token (is_lexeme l) (λ t. tt) (λ at. tt) (spelling_fixed l) Always
    (λ t hit fine. (tt, (lexeme_is l t hit, tt)))
    (λ at. (tt, record { kind = l.kind; bytes = l.bytes; start = at }, refl, ((refl, refl), tt)))

pub sound_fixed_at : (l : Lexeme) → Sound (fixed_at l) (spelling_fixed_at l) Always
unfolding fixed_at
sound_fixed_at l =
    sound_token (is_lexeme l) (λ t. t.start) (λ at. at) (spelling_fixed_at l) Always
    (λ t hit fine. let (kind, bytes) = lexeme_is l t hit in (tt, ((kind, bytes, refl), tt)))
    (λ at. (tt, record { kind = l.kind; bytes = l.bytes; start = at }, refl, ((refl, refl, refl), tt)))

name_parts : (t : Placed) → is_name t ≡ true → (t.kind ≡ Word) × (is_reserved t.bytes ≡ false)
name_parts t hit =
    let (kind, free) = and_parts (same_kind t.kind Word) (not (is_reserved t.bytes)) hit in
    (same_kind-is t.kind Word kind, not-true (is_reserved t.bytes) free)

x_is_free : is_reserved (codes "x") ≡ false
unfolding is_reserved reserved_words
x_is_free = refl

x_is_word : IsSpelling Word (codes "x")
x_is_word = record { formed = (refl, refl); no_bad_byte = refl; no_long_number = refl }

pub sound_name : Sound name spelling_name IsName
unfolding name
sound_name =
    sound_token is_name named_of filled_name spelling_name IsName
    (λ t hit fine.
    let (kind, free) = name_parts t hit in
    ((subst (λ k. IsSpelling k t.bytes) kind fine, free), ((kind, refl, refl), tt)))
    (λ at. ((x_is_word, x_is_free), record { kind = Word; bytes = codes "x"; start = at }, refl, ((refl, refl, refl), tt)))

zero_is_number : IsSpelling Number (codes "0")
zero_is_number = record { formed = (omega arith, refl); no_bad_byte = refl; no_long_number = refl }

pub sound_number : Sound number spelling_number IsNumeral
unfolding number
sound_number =
    sound_token is_number numeral_of filled_numeral spelling_number IsNumeral
    (λ t hit fine.
    let kind = same_kind-is t.kind Number hit in
    let spelled = subst (λ k. IsSpelling k t.bytes) kind fine in
    (ltb-false _ _ spelled.no_long_number, ((kind, spelled, refl, refl), tt)))
    (λ at. (omega arith, record { kind = Number; bytes = codes "0"; start = at }, refl, ((refl, zero_is_number, refl, refl), tt)))

pub complete_fixed : (l : Lexeme) → Complete (expect_token l) (spelling_fixed l) Always Any
unfolding expect_token
complete_fixed l = complete_token (is_lexeme l) (λ t. tt) (λ at. tt) (spelling_fixed l) Always back
  where
    back : (a : Unit {0}) (ts : List Placed) → Unit {0} → AreDue (due l ∷ []) ts → (t : Placed) × (ts ≡ t ∷ []) × (is_lexeme l t ≡ true) × (tt ≡ a)
    back a [] good d = absurd d
    back a (t ∷ []) good d = (t, refl, is_lexeme_of l t d.0.0 d.0.1, refl)
    back a (t ∷ u ∷ ts) good d = absurd d.1

pub complete_fixed_at : (l : Lexeme) → Complete (fixed_at l) (spelling_fixed_at l) Always Any
unfolding fixed_at
complete_fixed_at l = complete_token (is_lexeme l) (λ t. t.start) (λ at. at) (spelling_fixed_at l) Always back
  where
    back : (a : ℕ) (ts : List Placed) → Unit {0} → AreDue (due_at l a ∷ []) ts → (t : Placed) × (ts ≡ t ∷ []) × (is_lexeme l t ≡ true) × (t.start ≡ a)
    back a [] good d = absurd d
    back a (t ∷ []) good d = (t, refl, is_lexeme_of l t d.0.0 d.0.1, d.0.2)
    back a (t ∷ u ∷ ts) good d = absurd d.1

pub is_name_of : (t : Placed) → t.kind ≡ Word → is_reserved t.bytes ≡ false → is_name t ≡ true
is_name_of t kind free = rw (kind, free) refl

-- the due name passes
pub opens_name : (n : Named) (ds : List Due) (ts rest : List Placed) → IsName n → AreDue (due_name n ∷ ds) ts → passes is_name (first (ts ++ rest)) ≡ true
opens_name n ds [] rest good d = absurd d
opens_name n ds (t ∷ ts) rest good d = is_name_of t d.0.0 (ap is_reserved d.0.1 ∙ good.1)

pub complete_name : Complete name spelling_name IsName Any
unfolding name
complete_name = complete_token is_name named_of filled_name spelling_name IsName back
  where
    back : (a : Named) (ts : List Placed) → IsName a → AreDue (due_name a ∷ []) ts → (t : Placed) × (ts ≡ t ∷ []) × (is_name t ≡ true) × (named_of t ≡ a)
    back a [] good d = absurd d
    back a (t ∷ []) good d = (t, refl, is_name_of t d.0.0 (ap is_reserved d.0.1 ∙ good.1), λ i. record { name = d.0.1 i; at = d.0.2 i })
    back a (t ∷ u ∷ ts) good d = absurd d.1

pub opens_number : (n : Numeral) (ds : List Due) (ts rest : List Placed) → AreDue (due_number n ∷ ds) ts → passes is_number (first (ts ++ rest)) ≡ true
opens_number n ds [] rest d = absurd d
opens_number n ds (t ∷ ts) rest d = rw d.0.0 refl

pub complete_number : Complete number spelling_number IsNumeral Any
unfolding number
complete_number = complete_token is_number numeral_of filled_numeral spelling_number IsNumeral back
  where
    back : (a : Numeral) (ts : List Placed) → IsNumeral a → AreDue (due_number a ∷ []) ts → (t : Placed) × (ts ≡ t ∷ []) × (is_number t ≡ true) × (numeral_of t ≡ a)
    back a [] good d = absurd d
    back a (t ∷ []) good d = (t, refl, rw d.0.0 refl, λ i. record { value = d.0.2 i; at = d.0.3 i })
    back a (t ∷ u ∷ ts) good d = absurd d.1

-- Strings.

abbrev pub spelling_quoted : List ℕ × ℕ → List Due
spelling_quoted x = due_text x.0 x.1 ∷ []

abbrev pub IsQuotedText : List ℕ × ℕ → Type 0
IsQuotedText x = IsText x.0

content_in : (content : List ℕ) → content_of (in_quotes content) ≡ content
content_in content =
    let long : length (in_quotes content) - 1 - 1 ≡ length content = omega (arith, length-append content (quote ∷ [])) in
    ap (λ n. take n (content ++ quote ∷ [])) long ∙ take-append_seam content (quote ∷ [])

quoted_is : (t : Placed) → IsSpelling Quoted t.bytes → t.bytes ≡ in_quotes (content_of t.bytes)
quoted_is t spelled =
    let (content, is, inside) = spelled.formed in
    is ∙ ap in_quotes (sym (ap content_of is ∙ content_in content))

no_text : IsText []
no_text = record { formed = ([], refl, refl); no_bad_byte = refl; no_long_number = refl }

pub sound_quoted : Sound quoted_text spelling_quoted IsQuotedText
unfolding quoted_text
sound_quoted =
    sound_token is_text (λ t. (content_of t.bytes, t.start)) (λ at. ([], at)) spelling_quoted IsQuotedText
    (λ t hit fine.
    let kind = same_kind-is t.kind Quoted hit in
    let spelled = subst (λ k. IsSpelling k t.bytes) kind fine in
    (subst (IsSpelling Quoted) (quoted_is t spelled) spelled, ((kind, quoted_is t spelled, refl), tt)))
    (λ at. (no_text, record { kind = Quoted; bytes = in_quotes []; start = at }, refl, ((refl, refl, refl), tt)))

pub complete_quoted : Complete quoted_text spelling_quoted IsQuotedText Any
unfolding quoted_text
complete_quoted = complete_token is_text (λ t. (content_of t.bytes, t.start)) (λ at. ([], at)) spelling_quoted IsQuotedText back
  where
    back : (a : List ℕ × ℕ) (ts : List Placed) → IsQuotedText a → AreDue (due_text a.0 a.1 ∷ []) ts → (t : Placed) × (ts ≡ t ∷ []) × (is_text t ≡ true) × ((content_of t.bytes, t.start) ≡ a)
    back a [] good d = absurd d
    back a (t ∷ []) good d = (t, refl, rw d.0.0 refl, λ i. ((ap content_of d.0.1 ∙ content_in a.0) i, d.0.2 i))
    back a (t ∷ u ∷ ts) good d = absurd d.1

-- Which productions take a token.

pub shrinks_token : {A : Type 0} (test : Placed → Bool) (read : Placed → A) (fill : ℕ → A) → Shrinks test (token test read fill)
shrinks_token test read fill r hit = by_parts r.stop r.rest hit
  where
    by_parts : (stop : Option _) (ts : List Placed) → passes test (next_of stop ts) ≡ true → length (token_in test read fill stop ts r.end).1.rest < length ts
    by_parts (Some s) ts h = cc
    by_parts None [] h = cc
    by_parts None (t ∷ ts) h = rw h (omega arith)

pub shrinks_fixed : (l : Lexeme) → Shrinks (is_lexeme l) (expect_token l)
unfolding expect_token
shrinks_fixed l = shrinks_token (is_lexeme l) (λ t. tt) (λ at. tt)

pub shrinks_at : (l : Lexeme) → Shrinks (is_lexeme l) (fixed_at l)
unfolding fixed_at
shrinks_at l = shrinks_token (is_lexeme l) (λ t. t.start) (λ at. at)

pub shrinks_name : Shrinks is_name name
unfolding name
shrinks_name = shrinks_token is_name named_of filled_name

pub shrinks_both : {A B : Type 0} (test : Placed → Bool) (p : Reader → A × Reader) (q : Reader → B × Reader) {spell : B → List Due} {Good : B → Type 0}
    → Shrinks test p → Sound q spell Good → Shrinks test (both p q)
shrinks_both test p q shrinks sound r hit = omega (arith, shrinks r hit, never_longer sound (p r).1)

-- Items behind a sign, and with commas between them.

abbrev pub comma_sign : Lexeme
comma_sign = sign (codes ",")

abbrev pub is_comma : Placed → Bool
is_comma = is_lexeme comma_sign

pub sound_behind : {A : Type 0} (l : Lexeme) {p : Reader → A × Reader} {spell : A → List Due} {Good : A → Type 0} → Sound p spell Good → Sound (behind l p) (λ x. due l ∷ spell x) Good
sound_behind l {spell = spell} {Good = Good} P = sound_mapped (λ x. x.1) (λ x. due l ∷ spell x) Good (λ x. refl) (λ x g. g.1) (sound_both (sound_fixed l) P)

pub complete_behind : {A : Type 0} (l : Lexeme) {p : Reader → A × Reader} {spell : A → List Due} {Good : A → Type 0} {Stays : Option Placed → Type 0}
    → Complete p spell Good Stays → Complete (behind l p) (λ x. due l ∷ spell x) Good Stays
complete_behind l {spell = spell} {Good = Good} P =
    complete_mapped (λ x. x.1) (λ x. due l ∷ spell x) Good (λ x. refl) (λ b g. ((tt, b), refl, (tt, g))) (complete_then (complete_fixed l) P)

pub shrinks_behind : {A : Type 0} (l : Lexeme) {p : Reader → A × Reader} {spell : A → List Due} {Good : A → Type 0} → Sound p spell Good → Shrinks (is_lexeme l) (behind l p)
shrinks_behind l {p = p} P r hit = shrinks_both (is_lexeme l) (expect_token l) p (shrinks_fixed l) P r hit

pub sound_listed : {A : Type 0} {item : Reader → A × Reader} {spell : A → List Due} {Good : A → Type 0} → Sound item spell Good → Sound (comma_list item) (with_commas spell) (IsListed Good)
sound_listed {spell = spell} {Good = Good} P =
    sound_mapped (λ x. x.0 ∷ x.1) (with_commas spell) (IsListed Good) (λ x. refl) (λ x g. g)
    (sound_both P (sound_repeated is_comma (shrinks_behind comma_sign P) (sound_behind comma_sign P)))

listed_back : {A : Type 0} (Good : A → Type 0) (xs : List A) → IsListed Good xs → (x : A × List A) × (x.0 ∷ x.1 ≡ xs) × (Good x.0 × IsEach Good x.1)
listed_back Good [] g = absurd g
listed_back Good (x ∷ xs) g = ((x, xs), refl, g)

pub complete_listed : {A : Type 0} {item : Reader → A × Reader} {spell : A → List Due} {Good : A → Type 0} {Stays : Option Placed → Type 0}
    → Sound item spell Good → Complete item spell Good Stays → ((o : Option Placed) → passes is_comma o ≡ true → Stays o)
    → Complete (comma_list item) (with_commas spell) (IsListed Good) (λ o. Stays o × (passes is_comma o ≡ false))
complete_listed {spell = spell} {Good = Good} {Stays = Stays} P C follows =
    complete_mapped (λ x. x.0 ∷ x.1) (with_commas spell) (IsListed Good) (λ x. refl) (listed_back Good)
    (complete_both C (complete_repeated is_comma (shrinks_behind comma_sign P) (complete_behind comma_sign C) opens follows)
    (λ xs ts rest good d stays. stays_behind is_comma (λ x. comma ∷ spell x) Good Stays opens follows xs ts rest good d stays.0))
  where
    opens : Opens (λ x. comma ∷ spell x) Good is_comma
    opens a ts rest good d = opens_due comma_sign (spell a) ts rest d
