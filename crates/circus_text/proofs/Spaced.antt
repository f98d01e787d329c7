-- What is written with one space between two tokens divides into these tokens and the spaces.
use Rattle.std.proofs.Common.{◌≡◌, ℕ, ◌+◌, ◌≤◌, Bool, true, false, cond, List, [], ◌∷◌, ◌++◌, length, drop, refl, sym, ◌∙◌, ap, subst, arith, append_assoc, length-append, inl, inr}
use Rattle.std.specs.Prelude.{map}
use Rattle.std.specs.List.{prefix_len, list_all}
use Rattle.std.proofs.lemmas.List.{append-nil, map-append}
use Rattle.circus_text.specs.declared.byte_class.ByteClass.TheVariants.{Quote, Space}
use Rattle.circus_text.specs.declared.token.Token.{Token}
use Rattle.circus_text.specs.declared.token.TokenKind.{TokenKind}
use Rattle.circus_text.specs.declared.token.TokenKind.TheVariants.{Word, Number, Quoted, Sign}
use Rattle.circus_text.specs.declared.front.Form.{Form}
use Rattle.circus_text.specs.declared.front.Form.TheVariants as form
use Rattle.circus_text.specs.Form.{HasForm, IsSign}
use Rattle.circus_text.specs.Front.{IsFirst, Piece, BeginsWith, IsNext}
use Rattle.circus_text.specs.Token.{Lexeme, lexeme_of, lexemes_of, text_with_spaces, IsSpelling, AreSpelled}
use Rattle.circus_text.specs.Division.{bytes_of_pieces, EachIsNext, token_of, tokens_from, AreTokensOf}
use Rattle.circus_text.proofs.TokensLie.{bytes_of_piece}
use Rattle.circus_text.proofs.Fronts.{opener, opener_is, first_of, first_append, letter_form, digit_form, space_form, mark_form, in_word, in_number, in_spacing, word_passes, prefix_bound, inside_is, sign_short, double_sign_byte, dashes, sign_no_dashes}

-- the end of the text or a space
abbrev IsEnd : List ℕ → Type 0
IsEnd [] = Unit {0}
IsEnd (b ∷ bs) = b ≡ 32

prefix_ends : (p : ℕ → Bool) (w rest : List ℕ) → p 32 ≡ false → IsEnd rest → prefix_len p (w ++ rest) ≤ length w
prefix_ends p [] [] fails end = omega arith
prefix_ends p [] (b ∷ bs) fails end = rw (end, fails) (omega arith)
prefix_ends p (x ∷ w) rest fails end =
    let more = prefix_ends p w rest fails end in
    elim (p x) as (λ t. cond t (1 + prefix_len p (w ++ rest)) 0 ≤ length (x ∷ w)) [ true ↦ omega arith | false ↦ omega arith ]

sign_ends : (w rest v after : List ℕ) → IsSign w → IsEnd rest → IsSign v → w ++ rest ≡ v ++ after → length v ≤ length w
sign_ends [] rest v after sign end other e = absurd sign
sign_ends (b ∷ []) rest [] after sign end other e = omega arith
sign_ends (b ∷ []) rest (c ∷ []) after sign end other e = omega arith
sign_ends (b ∷ []) rest (c ∷ d ∷ ds) after sign end other e =
    let space : d ≡ 32 = subst IsEnd (ap (drop 1) e) end in
    absurd (double_sign_byte c d ds other space)
sign_ends (b ∷ c ∷ bs) rest v after sign end other e = omega (arith, sign_short v other)

-- neither two dashes nor the front of a comment stand at a sign with its end
sign_no_comment : (w rest : List ℕ) (q : Piece) → IsSign w → IsEnd rest → BeginsWith (w ++ rest) q → q.form ≡ form.Comment → ⊥
sign_no_comment [] rest q sign end begins comment = sign
sign_no_comment (b ∷ []) [] q sign end begins comment = omega (arith, (dashes (b ∷ []) q begins comment).0)
sign_no_comment (b ∷ []) (c ∷ cs) q sign end begins comment = omega (arith, (dashes (b ∷ c ∷ cs) q begins comment).2, end)
sign_no_comment (b ∷ c ∷ bs) rest q sign end begins comment =
    let found = dashes (b ∷ c ∷ bs ++ rest) q begins comment in
    sign_no_dashes b c bs sign found.1 found.2

-- a token before a space or the end is the longest
lexeme_longest : (kind : TokenKind) (w rest : List ℕ) → HasForm (form.Token kind) w → IsEnd rest → (q : Piece) → BeginsWith (w ++ rest) q → length q.bytes ≤ length w
lexeme_longest kind w rest formed end q begins = longest kind formed (opener_is (w ++ rest) (opener (form.Token kind)) q (first_append _ w rest (first_of (form.Token kind) w formed)) begins)
  where
    longest : (kind : TokenKind) → HasForm (form.Token kind) w → opener q.form ≡ opener (form.Token kind) → length q.bytes ≤ length w
    longest Word formed class =
        let (after, same) = begins.front in
        omega (arith, prefix_ends in_word w rest refl end, prefix_bound in_word (w ++ rest) q.bytes after same (word_passes q.bytes (subst (λ f. HasForm f q.bytes) (letter_form q.form class) begins.formed)))
    longest Number formed class =
        let (after, same) = begins.front in
        omega (arith, prefix_ends in_number w rest refl end, prefix_bound in_number (w ++ rest) q.bytes after same (subst (λ f. HasForm f q.bytes) (digit_form q.form class) begins.formed).1)
    longest Quoted formed class =
        let first = first_append Quote w rest (first_of (form.Token Quoted) w formed) in
        omega (arith, inside_is (w ++ rest) first q begins, inside_is (w ++ rest) first (record { form = form.Token Quoted; bytes = w }) (record { front = (rest, refl); formed = formed }))
    longest Sign formed class =
        let (after, same) = begins.front in
        elim (mark_form q.form class) [
          | inl sign ↦ sign_ends w rest q.bytes after formed end (subst (λ f. HasForm f q.bytes) sign begins.formed) same
          | inr comment ↦ absurd (sign_no_comment w rest q formed end begins comment)
        ]

abbrev token_piece : Lexeme → Piece
token_piece l = record { form = form.Token l.kind; bytes = l.bytes }

abbrev space_piece : Piece
space_piece = record { form = form.Spacing; bytes = 32 ∷ [] }

lexeme_next : (l : Lexeme) (rest : List ℕ) → IsSpelling l.kind l.bytes → IsEnd rest → IsNext (l.bytes ++ rest) (token_piece l)
lexeme_next l rest spelled end = record {
  longest = record { begins = record { front = (rest, refl); formed = spelled.formed }; longest = lexeme_longest l.kind l.bytes rest spelled.formed end };
  no_bad_byte = spelled.no_bad_byte;
  no_long_number = spelled.no_long_number;
}

-- a token is no space
kind_is_no_space : (kind : TokenKind) (w rest : List ℕ) → HasForm (form.Token kind) w → prefix_len in_spacing (w ++ rest) ≡ 0
kind_is_no_space kind w rest formed = none kind (w ++ rest) (first_append _ w rest (first_of (form.Token kind) w formed))
  where
    none : (kind : TokenKind) (text : List ℕ) → IsFirst (opener (form.Token kind)) text → prefix_len in_spacing text ≡ 0
    none kind [] first = absurd first
    none Word (b ∷ bs) first = rw first refl
    none Number (b ∷ bs) first = rw first refl
    none Quoted (b ∷ bs) first = rw first refl
    none Sign (b ∷ bs) first = rw first refl

space_next : (l : Lexeme) (rest : List ℕ) → IsSpelling l.kind l.bytes → IsNext (32 ∷ (l.bytes ++ rest)) space_piece
space_next l rest spelled = record {
  longest = record {
    begins = record { front = (l.bytes ++ rest, refl); formed = (omega arith, refl) };
    longest = λ q begins.
        let (after, same) = begins.front in
        let passes : list_all in_spacing q.bytes ≡ true = (subst (λ f. HasForm f q.bytes) (space_form q.form (opener_is (32 ∷ (l.bytes ++ rest)) Space q refl begins)) begins.formed).1 in
        omega (arith, prefix_bound in_spacing (32 ∷ (l.bytes ++ rest)) q.bytes after same passes, kind_is_no_space l.kind l.bytes rest spelled.formed);
  };
  no_bad_byte = refl;
  no_long_number = refl;
}

-- the pieces of a spaced text
abbrev spaced_pieces : List Lexeme → List Piece
spaced_pieces [] = []
spaced_pieces (l ∷ []) = token_piece l ∷ []
spaced_pieces (l ∷ m ∷ ls) = token_piece l ∷ space_piece ∷ spaced_pieces (m ∷ ls)

joined-spaced_pieces : (ls : List Lexeme) → bytes_of_pieces (spaced_pieces ls) ≡ text_with_spaces ls
joined-spaced_pieces [] = refl
joined-spaced_pieces (l ∷ []) = append-nil l.bytes
joined-spaced_pieces (l ∷ m ∷ ls) = ap (λ s. l.bytes ++ 32 ∷ s) (joined-spaced_pieces (m ∷ ls))

-- a spaced text begins with its first lexeme
after_first : (l : Lexeme) (ls : List Lexeme) → (rest : List ℕ) × (bytes_of_pieces (spaced_pieces (l ∷ ls)) ≡ l.bytes ++ rest)
after_first l [] = ([], refl)
after_first l (m ∷ ls) = (32 ∷ bytes_of_pieces (spaced_pieces (m ∷ ls)), refl)

each_spaced : (ls : List Lexeme) → AreSpelled ls → EachIsNext (spaced_pieces ls) []
each_spaced [] spelled = tt
each_spaced (l ∷ []) spelled = (subst (λ t. IsNext t (token_piece l)) (sym (append-nil (l.bytes ++ []))) (lexeme_next l [] spelled.0 tt), tt)
each_spaced (l ∷ m ∷ ls) spelled =
    let tail = bytes_of_pieces (spaced_pieces (m ∷ ls)) in
    let (rest, same) = after_first m ls in (
      subst (λ t. IsNext t (token_piece l)) (sym (append-nil (l.bytes ++ 32 ∷ tail))) (lexeme_next l (32 ∷ tail) spelled.0 refl),
      (subst (λ t. IsNext (32 ∷ t) space_piece) (sym (append-nil tail ∙ same)) (space_next m rest spelled.1.0), each_spaced (m ∷ ls) spelled.1),
    )

-- the lexemes of pieces
abbrev lexeme_in : Form → List ℕ → List Lexeme
lexeme_in (form.Token kind) w = record { kind = kind; bytes = w } ∷ []
lexeme_in form.Spacing w = []
lexeme_in form.Comment w = []

abbrev lexemes_in : List Piece → List Lexeme
lexemes_in [] = []
lexemes_in (p ∷ ps) = lexeme_in p.form p.bytes ++ lexemes_in ps

lexemes_in-spaced_pieces : (ls : List Lexeme) → lexemes_in (spaced_pieces ls) ≡ ls
lexemes_in-spaced_pieces [] = refl
lexemes_in-spaced_pieces (l ∷ []) = refl
lexemes_in-spaced_pieces (l ∷ m ∷ ls) = ap (λ s. l ∷ s) (lexemes_in-spaced_pieces (m ∷ ls))

lexeme_here : (front w after text : List ℕ) (f : Form) → text ≡ front ++ (w ++ after) → map (lexeme_of text) (token_of (length front) f (length w)) ≡ lexeme_in f w
lexeme_here front w after text (form.Token kind) same =
    λ i. record { kind = kind; bytes = bytes_of_piece front w after text kind same i } ∷ []
lexeme_here front w after text form.Spacing same = refl
lexeme_here front w after text form.Comment same = refl

-- the tokens of pieces have their lexemes
lexemes_from : (front text : List ℕ) (ps : List Piece) (rest : List ℕ) → text ≡ front ++ (bytes_of_pieces ps ++ rest) → map (lexeme_of text) (tokens_from (length front) ps) ≡ lexemes_in ps
lexemes_from front text [] rest same = refl
lexemes_from front text (p ∷ ps) rest same =
    let here : text ≡ front ++ (p.bytes ++ (bytes_of_pieces ps ++ rest)) = same ∙ ap (λ l. front ++ l) (append_assoc p.bytes (bytes_of_pieces ps) rest) in
    let behind : text ≡ (front ++ p.bytes) ++ (bytes_of_pieces ps ++ rest) = here ∙ sym (append_assoc front p.bytes (bytes_of_pieces ps ++ rest)) in
    let tail = subst (λ n. map (lexeme_of text) (tokens_from n ps) ≡ lexemes_in ps) (length-append front p.bytes) (lexemes_from (front ++ p.bytes) text ps rest behind) in
    map-append (lexeme_of text) (token_of (length front) p.form (length p.bytes)) (tokens_from (length front + length p.bytes) ps)
    ∙ (λ i. lexeme_here front p.bytes (bytes_of_pieces ps ++ rest) text p.form here i ++ tail i)

-- A spaced text has the tokens that it was made of.
pub spaced_read : (ls : List Lexeme) → AreSpelled ls → (ts : List Token) × AreTokensOf (text_with_spaces ls) ts × (lexemes_of (text_with_spaces ls) ts ≡ ls)
spaced_read ls spelled =
    let whole : text_with_spaces ls ≡ bytes_of_pieces (spaced_pieces ls) ++ [] = sym (append-nil (bytes_of_pieces (spaced_pieces ls)) ∙ joined-spaced_pieces ls) in (
      tokens_from 0 (spaced_pieces ls),
      (spaced_pieces ls, record { whole = whole; each = each_spaced ls spelled }, refl),
      lexemes_from [] (text_with_spaces ls) (spaced_pieces ls) [] whole ∙ lexemes_in-spaced_pieces ls,
    )
