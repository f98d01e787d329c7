-- What the loop over a text keeps.
use Rattle.std.proofs.Common.{◌≡◌, ℕ, ◌+◌, ◌≤◌, List, [], ◌∷◌, ◌++◌, length, drop, sym, ◌∙◌, ap, subst, arith, append_assoc, length-append}
use Rattle.std.proofs.lemmas.List.{append-nil, take-append-drop, length-take-le, drop-drop}
use Rattle.circus_text.specs.declared.token.Token.{Token}
use Rattle.circus_text.specs.declared.front.Form.{Form}
use Rattle.circus_text.specs.Front.{Piece, IsNext, piece}
use Rattle.circus_text.specs.Division.{bytes_of_pieces, EachIsNext, DividesTo, token_of, tokens_from}

-- the text up to a place is pieces, of which these are the tokens
pub record ReadTo (text : List ℕ) (at : ℕ) (found : List Token) : Type 0 where
  pub pieces : List Piece
  pub divides : DividesTo text pieces (drop at text)
  pub place : at ≡ length (bytes_of_pieces pieces)
  pub tokens : found ≡ tokens_from 0 pieces
  pub within : at ≤ length text

joined_push : (ps : List Piece) (p : Piece) (after : List ℕ) → bytes_of_pieces (ps ++ p ∷ []) ++ after ≡ bytes_of_pieces ps ++ (p.bytes ++ after)
joined_push [] p after = ap (λ l. l ++ after) (append-nil p.bytes)
joined_push (q ∷ ps) p after = append_assoc q.bytes (bytes_of_pieces (ps ++ p ∷ [])) after ∙ ap (λ l. q.bytes ++ l) (joined_push ps p after) ∙ sym (append_assoc q.bytes (bytes_of_pieces ps) (p.bytes ++ after))

length_joined_push : (ps : List Piece) (p : Piece) → length (bytes_of_pieces (ps ++ p ∷ [])) ≡ length (bytes_of_pieces ps) + length p.bytes
length_joined_push ps p = ap length (sym (append-nil (bytes_of_pieces (ps ++ p ∷ []))) ∙ joined_push ps p [] ∙ ap (λ l. bytes_of_pieces ps ++ l) (append-nil p.bytes)) ∙ length-append (bytes_of_pieces ps) p.bytes

each_push : (ps : List Piece) (p : Piece) (after : List ℕ) → EachIsNext ps (p.bytes ++ after) → IsNext (p.bytes ++ after) p → EachIsNext (ps ++ p ∷ []) after
each_push [] p after each next = (subst (λ t. IsNext t p) (sym (joined_push [] p after)) next, tt)
each_push (q ∷ ps) p after each next = (subst (λ t. IsNext t q) (sym (joined_push (q ∷ ps) p after)) each.0, each_push ps p after each.1 next)

tokens_push : (at : ℕ) (ps : List Piece) (p : Piece) → tokens_from at (ps ++ p ∷ []) ≡ tokens_from at ps ++ token_of (at + length (bytes_of_pieces ps)) p.form (length p.bytes)
tokens_push at [] p = append-nil (token_of at p.form (length p.bytes)) ∙ ap (λ n. token_of n p.form (length p.bytes)) (omega arith)
tokens_push at (q ∷ ps) p =
    let place : at + length q.bytes + length (bytes_of_pieces ps) ≡ at + length (bytes_of_pieces (q ∷ ps)) = omega (arith, length-append q.bytes (bytes_of_pieces ps)) in
    ap (λ l. token_of at q.form (length q.bytes) ++ l) (tokens_push (at + length q.bytes) ps p ∙ ap (λ n. tokens_from (at + length q.bytes) ps ++ token_of n p.form (length p.bytes)) place)
    ∙ sym (append_assoc (token_of at q.form (length q.bytes)) (tokens_from (at + length q.bytes) ps) (token_of (at + length (bytes_of_pieces (q ∷ ps))) p.form (length p.bytes)))

-- one piece more
pub read_more : (text : List ℕ) (at len : ℕ) (found : List Token) (f : Form) → ReadTo text at found → len ≤ length (drop at text) → IsNext (drop at text) (piece (drop at text) f len) → ReadTo text (at + len) (found ++ token_of at f len)
read_more text at len found f read fits next =
    let p = piece (drop at text) f len in
    let split : p.bytes ++ drop (at + len) text ≡ drop at text = ap (λ l. p.bytes ++ l) (sym (drop-drop len at text)) ∙ take-append-drop len (drop at text) in
    let size : length p.bytes ≡ len = length-take-le len (drop at text) fits in
    record {
      pieces = read.pieces ++ p ∷ [];
      divides = record {
        whole = read.divides.whole ∙ ap (λ l. bytes_of_pieces read.pieces ++ l) (sym split) ∙ sym (joined_push read.pieces p (drop (at + len) text));
        each = each_push read.pieces p (drop (at + len) text) (subst (EachIsNext read.pieces) (sym split) read.divides.each) (subst (λ t. IsNext t p) (sym split) next);
      };
      place = omega (arith, read.place, size, length_joined_push read.pieces p);
      tokens = (λ i. read.tokens i ++ token_of (read.place i) f (sym size i)) ∙ sym (tokens_push 0 read.pieces p ∙ ap (λ n. tokens_from 0 read.pieces ++ token_of n f (length p.bytes)) (omega arith));
      within = omega (arith, ap length read.divides.whole, length-append (bytes_of_pieces read.pieces) (drop at text), read.place, fits);
    }
