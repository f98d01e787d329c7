-- The tokens of a text lie in it, each spelled as its kind, one behind another.
use Rattle.std.proofs.Common.{◌≡◌, ℕ, ◌+◌, ◌-◌, ◌≤◌, List, [], ◌∷◌, ◌++◌, length, take, drop, refl, sym, ◌∙◌, ap, subst, arith, append_assoc, length-append}
use Rattle.std.specs.Prelude.{All, AllPairs}
use Rattle.std.proofs.lemmas.List.{take_at, drop_at}
use Rattle.std.proofs.lemmas.List.Elements.{All-nil, All-cons, All-append, All-weaker}
use Rattle.std.proofs.lemmas.List.Kept.{AllPairs-cons}
use Rattle.circus_text.specs.declared.token.Token.{Token}
use Rattle.circus_text.specs.declared.token.TokenKind.{TokenKind}
use Rattle.circus_text.specs.declared.front.Form.{Form}
use Rattle.circus_text.specs.declared.front.Form.TheVariants as form
use Rattle.circus_text.specs.Front.{Piece, IsNext}
use Rattle.circus_text.specs.Token.{bytes_of, IsTokenIn, IsSpelling, IsBefore}
use Rattle.circus_text.specs.Division.{bytes_of_pieces, EachIsNext, token_of, tokens_from, AreTokensOf}
use Rattle.circus_text.proofs.Fronts.{form_length}

-- the bytes of a token are those of its piece
pub bytes_of_piece : (front w after text : List ℕ) (kind : TokenKind) → text ≡ front ++ (w ++ after) → bytes_of text (record { kind = kind; start = length front; end = length front + length w }) ≡ w
bytes_of_piece front w after text kind same =
    ap (take (length front + length w - length front)) (ap (drop (length front)) same ∙ drop_at front (w ++ after) (length front) refl) ∙ take_at w after (length front + length w - length front) (omega arith)

-- the token that a good piece is
token_in : (front w after text : List ℕ) (kind : TokenKind) → text ≡ front ++ (w ++ after) → IsSpelling kind w → IsTokenIn text (record { kind = kind; start = length front; end = length front + length w })
token_in front w after text kind same spelled =
    record {
      lies = record {
        not_empty = omega (arith, form_length (form.Token kind) w spelled.formed);
        inside = omega (arith, ap length same, length-append front (w ++ after), length-append w after);
      };
      spelled = subst (IsSpelling kind) (sym (bytes_of_piece front w after text kind same)) spelled;
    }

piece_in : (front w after text : List ℕ) (f : Form) → text ≡ front ++ (w ++ after) → IsNext (w ++ after) (record { form = f; bytes = w }) → All (IsTokenIn text) (token_of (length front) f (length w))
piece_in front w after text (form.Token kind) same next =
    All-cons (IsTokenIn text) _ [] (token_in front w after text kind same (record { formed = next.longest.begins.formed; no_bad_byte = next.no_bad_byte; no_long_number = next.no_long_number })) (All-nil (IsTokenIn text))
piece_in front w after text form.Spacing same next = All-nil (IsTokenIn text)
piece_in front w after text form.Comment same next = All-nil (IsTokenIn text)

pieces_in : (front text : List ℕ) (ps : List Piece) (rest : List ℕ) → text ≡ front ++ (bytes_of_pieces ps ++ rest) → EachIsNext ps rest → All (IsTokenIn text) (tokens_from (length front) ps)
pieces_in front text [] rest same each = All-nil (IsTokenIn text)
pieces_in front text (p ∷ ps) rest same each =
    let group = append_assoc p.bytes (bytes_of_pieces ps) rest in
    let here : text ≡ front ++ (p.bytes ++ (bytes_of_pieces ps ++ rest)) = same ∙ ap (λ l. front ++ l) group in
    let behind : text ≡ (front ++ p.bytes) ++ (bytes_of_pieces ps ++ rest) = here ∙ sym (append_assoc front p.bytes (bytes_of_pieces ps ++ rest)) in
    All-append (IsTokenIn text) (token_of (length front) p.form (length p.bytes)) (tokens_from (length front + length p.bytes) ps)
    (piece_in front p.bytes (bytes_of_pieces ps ++ rest) text p.form here (subst (λ t. IsNext t p) group each.0))
    (subst (λ n. All (IsTokenIn text) (tokens_from n ps)) (length-append front p.bytes) (pieces_in (front ++ p.bytes) text ps rest behind each.1))

-- Each of the tokens is in the text.
pub tokens_in : (text : List ℕ) (ts : List Token) → AreTokensOf text ts → All (IsTokenIn text) ts
tokens_in text ts (ps, divides, same) = subst (All (IsTokenIn text)) (sym same) (pieces_in [] text ps [] divides.whole divides.each)

-- no token among pieces from a place on begins before it
abbrev BeginsFrom : ℕ → Token → Type 0
BeginsFrom at t = at ≤ t.start

begin_from : (at : ℕ) (ps : List Piece) → All (BeginsFrom at) (tokens_from at ps)
begin_from at [] = All-nil (BeginsFrom at)
begin_from at (p ∷ ps) =
    All-append (BeginsFrom at) (token_of at p.form (length p.bytes)) (tokens_from (at + length p.bytes) ps)
    (first p.form)
    (All-weaker (BeginsFrom (at + length p.bytes)) (BeginsFrom at) (λ t from. omega arith) _ (begin_from (at + length p.bytes) ps))
  where
    first : (f : Form) → All (BeginsFrom at) (token_of at f (length p.bytes))
    first (form.Token kind) = All-cons (BeginsFrom at) _ [] (omega arith) (All-nil (BeginsFrom at))
    first form.Spacing = All-nil (BeginsFrom at)
    first form.Comment = All-nil (BeginsFrom at)

pairs_behind : (at len : ℕ) (f : Form) (ps : List Piece) → AllPairs IsBefore (tokens_from (at + len) ps) → AllPairs IsBefore (token_of at f len ++ tokens_from (at + len) ps)
pairs_behind at len (form.Token kind) ps pairs = AllPairs-cons IsBefore _ (tokens_from (at + len) ps) (begin_from (at + len) ps) pairs
pairs_behind at len form.Spacing ps pairs = pairs
pairs_behind at len form.Comment ps pairs = pairs

pairs_from : (at : ℕ) (ps : List Piece) → AllPairs IsBefore (tokens_from at ps)
pairs_from at [] = λ i j d lt within. absurd (omega arith)
pairs_from at (p ∷ ps) = pairs_behind at (length p.bytes) p.form ps (pairs_from (at + length p.bytes) ps)

-- Each of the tokens ends before the later ones.
pub tokens_in_order : (text : List ℕ) (ts : List Token) → AreTokensOf text ts → AllPairs IsBefore ts
tokens_in_order text ts (ps, divides, same) = subst (AllPairs IsBefore) (sym same) (pairs_from 0 ps)
