-- Bytes have one answer, where the spellings of any two admitted values go on alike.
use Rattle.std.proofs.Common.{◌≡◌, ◌≢◌, inl, inr, ℕ, ◌+◌, ◌%◌, ◌<◌, Bool, true, List, [], ◌∷◌, ◌++◌, length, refl, sym, ap, ◌∙◌, subst, arith, append_assoc, append-nil, length-append}
use Rattle.circus_external.specs.Spelling.{Piece, number, content, pad, piece_bytes, bytes_of_pieces}
use Rattle.circus_external.specs.Answer.{Answer, found, short, not_a_value, bad_pad}
use Rattle.circus_external.specs.Refusal.{GoesOn, IsAnswer}
use Rattle.circus_external.proofs.Alike.{SameForm, Alike, append_same, form_size, piece_same, walk, Together}

-- no piece that could stand here in an admitted value stands here
abbrev Halts : {X : Type 0} (admits : X → Bool) (pieces_of : X → List Piece) (end : Type 0) → List Piece → List Piece → List ℕ → Type 0
Halts admits pieces_of end done tail rest =
    (next : Piece) (others : List Piece) (behind : List ℕ) → Alike end tail (next ∷ others) → rest ≡ piece_bytes next ++ behind → GoesOn admits pieces_of done next → ⊥

short_halts : {X : Type 0} (admits : X → Bool) (pieces_of : X → List Piece) (end : Type 0) (done others : List Piece) (u : Piece) (rest : List ℕ) → length rest < length (piece_bytes u) → Halts admits pieces_of end done (u ∷ others) rest
short_halts admits pieces_of end done others u rest missing next o behind alike is goes =
    omega (arith, form_size u next alike.0, ap length is, length-append (piece_bytes next) behind, missing)

number_halts : {X : Type 0} (admits : X → Bool) (pieces_of : X → List Piece) (end : Type 0) (done others : List Piece) (a digits rest : List ℕ) → length digits ≡ length a → (GoesOn admits pieces_of done (number digits) → ⊥) → Halts admits pieces_of end done (number a ∷ others) (digits ++ rest)
number_halts admits pieces_of end done others a digits rest size refused (number b) o behind alike is goes =
    let same = append_same digits b rest behind (size ∙ alike.0) is in
    refused (subst (λ d. GoesOn admits pieces_of done (number d)) (sym same.0) goes)
number_halts admits pieces_of end done others a digits rest size refused (content b) o behind alike is goes = absurd alike.0

pad_odd : (n : ℕ) → n % 2 ≡ 1 → pad n ≡ 0 ∷ []
pad_odd n odd = rw odd refl

pad_halts : {X : Type 0} (admits : X → Bool) (pieces_of : X → List Piece) (end : Type 0) (done others : List Piece) (a string rest : List ℕ) (last : ℕ) → length a % 2 ≡ 1 → length string ≡ length a → last ≢ 0 → Halts admits pieces_of end done (content a ∷ others) (string ++ (last ∷ rest))
pad_halts admits pieces_of end done others a string rest last odd size not_zero (content b) o behind alike is goes =
    let same = append_same string b (last ∷ rest) (pad (length b) ++ behind) (size ∙ alike.0) (is ∙ append_assoc b (pad (length b)) behind) in
    let zero_pad : pad (length b) ≡ 0 ∷ [] = pad_odd (length b) (ap (λ n. n % 2) (sym alike.0) ∙ odd) in
    let front : last ∷ rest ≡ 0 ∷ behind = same.1 ∙ ap (λ p. p ++ behind) zero_pad in
    not_zero (cc)
pad_halts admits pieces_of end done others a string rest last odd size not_zero (number b) o behind alike is goes = absurd alike.0

end_halts : {X : Type 0} (admits : X → Bool) (pieces_of : X → List Piece) (end : Type 0) (done : List Piece) (rest : List ℕ) → Halts admits pieces_of end done [] rest
end_halts admits pieces_of end done rest next others behind alike is goes = alike

-- where an answer stops: at a value's piece, or at its end
pub record Stop {X : Type 0} (admits : X → Bool) (pieces_of : X → List Piece) (bytes : List ℕ) : Type 0 where
  pub value : X
  pub done : List Piece
  pub tail : List Piece
  pub rest : List ℕ
  pub admitted : admits value ≡ true
  pub pieces : pieces_of value ≡ done ++ tail
  pub whole : bytes ≡ bytes_of_pieces done ++ rest

met : {X : Type 0} (admits : X → Bool) (pieces_of : X → List Piece) (bytes : List ℕ) (a b : Stop admits pieces_of bytes) (end : Type 0)
    → Alike end (pieces_of a.value) (pieces_of b.value) → Halts admits pieces_of end a.done a.tail a.rest → Halts admits pieces_of end b.done b.tail b.rest
    → Together end a.done a.tail b.done b.tail a.rest b.rest
met admits pieces_of bytes a b end alike halts halts' =
    let along = subst (λ ps. Alike end ps (b.done ++ b.tail)) a.pieces (subst (λ ps. Alike end (pieces_of a.value) ps) b.pieces alike) in
    elim (walk end a.done a.tail b.done b.tail a.rest b.rest along (sym a.whole ∙ b.whole)) [
      | inl t ↦ t
      | inr both ↦ elim both [
        | inl h ↦ absurd (halts h.next (h.others ++ b.tail) (bytes_of_pieces h.others ++ b.rest) h.alike h.bytes (record {
          value = b.value;
          admitted = b.admitted;
          others = h.others ++ b.tail;
          pieces = b.pieces ∙ ap (λ ps. ps ++ b.tail) h.further ∙ append_assoc a.done (h.next ∷ h.others) b.tail;
        }))
        | inr h ↦ absurd (halts' h.next (h.others ++ a.tail) (bytes_of_pieces h.others ++ a.rest) h.alike h.bytes (record {
          value = a.value;
          admitted = a.admitted;
          others = h.others ++ a.tail;
          pieces = a.pieces ∙ ap (λ ps. ps ++ a.tail) h.further ∙ append_assoc b.done (h.next ∷ h.others) a.tail;
        }))
      ]
    ]

-- ---- where each answer stops

abbrev stop_of : {X : Type 0} (admits : X → Bool) (pieces_of : X → List Piece) (at : ℕ) (bytes : List ℕ) (a : Answer X) → IsAnswer admits pieces_of at bytes a → Stop admits pieces_of bytes
stop_of admits pieces_of at bytes (found v next rest) is =
    record { value = v; done = pieces_of v; tail = []; rest = rest; admitted = is.2.admitted; pieces = sym (append-nil (pieces_of v)); whole = is.2.whole }
stop_of admits pieces_of at bytes (short place) is = let s = is.2 in
    record { value = s.goes_on.value; done = s.done; tail = s.next ∷ s.goes_on.others; rest = s.rest; admitted = s.goes_on.admitted; pieces = s.goes_on.pieces; whole = s.whole }
stop_of admits pieces_of at bytes (not_a_value place) is = let s = is.2 in
    record { value = s.goes_on.value; done = s.done; tail = number s.next ∷ s.goes_on.others; rest = s.digits ++ s.rest; admitted = s.goes_on.admitted; pieces = s.goes_on.pieces; whole = s.whole }
stop_of admits pieces_of at bytes (bad_pad place) is = let s = is.2 in
    record { value = s.goes_on.value; done = s.done; tail = content s.next ∷ s.goes_on.others; rest = s.string ++ (s.last ∷ s.rest); admitted = s.goes_on.admitted; pieces = s.goes_on.pieces; whole = s.whole }

halts_of : {X : Type 0} (admits : X → Bool) (pieces_of : X → List Piece) (at : ℕ) (bytes : List ℕ) (end : Type 0) (a : Answer X) (is : IsAnswer admits pieces_of at bytes a) → let s = stop_of admits pieces_of at bytes a is in Halts admits pieces_of end s.done s.tail s.rest
halts_of admits pieces_of at bytes end (found v next rest) is = end_halts admits pieces_of end (pieces_of v) rest
halts_of admits pieces_of at bytes end (short place) is = let s = is.2 in short_halts admits pieces_of end s.done s.goes_on.others s.next s.rest s.missing
halts_of admits pieces_of at bytes end (not_a_value place) is = let s = is.2 in number_halts admits pieces_of end s.done s.goes_on.others s.next s.digits s.rest s.size s.refused
halts_of admits pieces_of at bytes end (bad_pad place) is = let s = is.2 in pad_halts admits pieces_of end s.done s.goes_on.others s.next s.string s.rest s.last s.odd s.size s.not_zero

same_place : (at o o' p p' : ℕ) → p ≡ at + o → p' ≡ at + o' → o ≡ o' → p ≡ p'
same_place at o o' p p' is is' same = omega arith

abbrev Meets : {X : Type 0} (admits : X → Bool) (pieces_of : X → List Piece) (at : ℕ) (bytes : List ℕ) (a b : Answer X) → IsAnswer admits pieces_of at bytes a → IsAnswer admits pieces_of at bytes b → Type 0
Meets admits pieces_of at bytes a b is js =
    let s = stop_of admits pieces_of at bytes a is in
    let t = stop_of admits pieces_of at bytes b js in
    Together (s.value ≡ t.value) s.done s.tail t.done t.tail s.rest t.rest

piece_missing : (u : Piece) (digits rest rest' next : List ℕ) → length rest < length (piece_bytes u) → SameForm u (number next) → rest ≡ digits ++ rest' → length digits ≡ length next → ⊥
piece_missing u digits rest rest' next missing form bytes size =
    omega (arith, form_size u (number next) form, ap length bytes, length-append digits rest', missing, size)

pad_missing : (u : Piece) (string rest rest' next : List ℕ) (last : ℕ) → length rest < length (piece_bytes u) → SameForm u (content next) → rest ≡ string ++ (last ∷ rest') → length string ≡ length next → length next % 2 ≡ 1 → ⊥
pad_missing u string rest rest' next last missing form bytes size odd =
    omega (arith, form_size u (content next) form, ap length bytes, length-append string (last ∷ rest'), length-append next (pad (length next)), ap length (pad_odd (length next) odd), missing, size)

form_sym : (u v : Piece) → SameForm u v → SameForm v u
form_sym (number a) (number b) same = sym same
form_sym (content a) (content b) same = sym same
form_sym (number a) (content b) same = absurd same
form_sym (content a) (number b) same = absurd same

agree : {X : Type 0} (admits : X → Bool) (pieces_of : X → List Piece) (at : ℕ) (bytes : List ℕ) (a b : Answer X) (is : IsAnswer admits pieces_of at bytes a) (js : IsAnswer admits pieces_of at bytes b) → Meets admits pieces_of at bytes a b is js → a ≡ b
agree admits pieces_of at bytes (found v next rest) (found w next' rest') is js m =
    let there : next ≡ next' = same_place at is.0 js.0 next next' is.1 js.1 (is.2.offset_is ∙ ap (λ d. length (bytes_of_pieces d)) m.same ∙ sym js.2.offset_is) in
    (λ i. found (m.alike i) (there i) (m.bytes i))
agree admits pieces_of at bytes (short p) (short q) is js m =
    ap short (same_place at is.0 js.0 p q is.1 js.1 (is.2.offset_is ∙ ap (λ d. length (bytes_of_pieces d)) m.same ∙ sym js.2.offset_is))
agree admits pieces_of at bytes (not_a_value p) (not_a_value q) is js m =
    ap not_a_value (same_place at is.0 js.0 p q is.1 js.1 (is.2.offset_is ∙ ap (λ d. length (bytes_of_pieces d)) m.same ∙ sym js.2.offset_is))
agree admits pieces_of at bytes (bad_pad p) (bad_pad q) is js m =
    let strings : length is.2.string ≡ length js.2.string = is.2.size ∙ m.alike.0 ∙ sym js.2.size in
    ap bad_pad (same_place at is.0 js.0 p q is.1 js.1 (is.2.offset_is ∙ (λ i. length (bytes_of_pieces (m.same i)) + strings i) ∙ sym js.2.offset_is))
agree admits pieces_of at bytes (found v next rest) (short q) is js m = absurd m.alike
agree admits pieces_of at bytes (found v next rest) (not_a_value q) is js m = absurd m.alike
agree admits pieces_of at bytes (found v next rest) (bad_pad q) is js m = absurd m.alike
agree admits pieces_of at bytes (short p) (found w next' rest') is js m = absurd m.alike
agree admits pieces_of at bytes (not_a_value p) (found w next' rest') is js m = absurd m.alike
agree admits pieces_of at bytes (bad_pad p) (found w next' rest') is js m = absurd m.alike
agree admits pieces_of at bytes (short p) (not_a_value q) is js m =
    absurd (piece_missing is.2.next js.2.digits is.2.rest js.2.rest js.2.next is.2.missing m.alike.0 m.bytes js.2.size)
agree admits pieces_of at bytes (short p) (bad_pad q) is js m =
    absurd (pad_missing is.2.next js.2.string is.2.rest js.2.rest js.2.next js.2.last is.2.missing m.alike.0 m.bytes js.2.size js.2.odd)
agree admits pieces_of at bytes (not_a_value p) (short q) is js m =
    absurd (piece_missing js.2.next is.2.digits js.2.rest is.2.rest is.2.next js.2.missing (form_sym (number is.2.next) js.2.next m.alike.0) (sym m.bytes) is.2.size)
agree admits pieces_of at bytes (bad_pad p) (short q) is js m =
    absurd (pad_missing js.2.next is.2.string js.2.rest is.2.rest is.2.next is.2.last js.2.missing (form_sym (content is.2.next) js.2.next m.alike.0) (sym m.bytes) is.2.size is.2.odd)
agree admits pieces_of at bytes (not_a_value p) (bad_pad q) is js m = absurd m.alike.0
agree admits pieces_of at bytes (bad_pad p) (not_a_value q) is js m = absurd m.alike.0

pub one_answer : {X : Type 0} (admits : X → Bool) (pieces_of : X → List Piece) → ((x y : X) → admits x ≡ true → admits y ≡ true → Alike (x ≡ y) (pieces_of x) (pieces_of y))
    → (at : ℕ) (bytes : List ℕ) (a b : Answer X) → IsAnswer admits pieces_of at bytes a → IsAnswer admits pieces_of at bytes b → a ≡ b
one_answer admits pieces_of each at bytes a b is js =
    let s = stop_of admits pieces_of at bytes a is in
    let t = stop_of admits pieces_of at bytes b js in
    agree admits pieces_of at bytes a b is js
    (met admits pieces_of bytes s t (s.value ≡ t.value) (each s.value t.value s.admitted t.admitted) (halts_of admits pieces_of at bytes (s.value ≡ t.value) a is) (halts_of admits pieces_of at bytes (s.value ≡ t.value) b js))

-- ---- no spelling begins another

pub begins_alone : (end : Type 0) (us vs : List Piece) (x y : List ℕ) → Alike end us vs → bytes_of_pieces us ++ x ≡ bytes_of_pieces vs ++ y → end × (x ≡ y)
begins_alone end [] [] x y alike same = (alike, same)
begins_alone end (u ∷ us) (v ∷ vs) x y alike same =
    let first = piece_same u v (bytes_of_pieces us ++ x) (bytes_of_pieces vs ++ y) alike.0 (sym (append_assoc (piece_bytes u) (bytes_of_pieces us) x) ∙ same ∙ append_assoc (piece_bytes v) (bytes_of_pieces vs) y) in
    begins_alone end us vs x y (alike.1 first.0) first.1
begins_alone end [] (v ∷ vs) x y alike same = absurd alike
begins_alone end (u ∷ us) [] x y alike same = absurd alike
