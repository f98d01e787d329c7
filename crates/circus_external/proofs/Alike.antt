-- Piece by piece, the spellings of two values of a shape go on alike for as long as they are equal.
use Rattle.std.proofs.Common.{◌≡◌, ◌⊎◌, inl, inr, ℕ, List, [], ◌∷◌, ◌++◌, length, refl, sym, ap, ◌∙◌, arith, append_assoc, length-append}
use Rattle.circus_external.specs.Spelling.{Piece, number, content, pad, piece_bytes, bytes_of_pieces}

-- two pieces of one kind and size
abbrev pub SameForm : Piece → Piece → Type 0
SameForm (number a) (number b) = length a ≡ length b
SameForm (content a) (content b) = length a ≡ length b
SameForm (number a) (content b) = ⊥
SameForm (content a) (number b) = ⊥

-- the first pieces have one form, and if they are equal so it is with those behind; where both end, this holds
abbrev pub Alike : Type 0 → List Piece → List Piece → Type 0
Alike end [] [] = end
Alike end (u ∷ us) (v ∷ vs) = SameForm u v × (u ≡ v → Alike end us vs)
Alike end [] (v ∷ vs) = ⊥
Alike end (u ∷ us) [] = ⊥

pub alike_weaker : (end end' : Type 0) (us vs : List Piece) → (end → end') → Alike end us vs → Alike end' us vs
alike_weaker end end' [] [] f alike = f alike
alike_weaker end end' (u ∷ us) (v ∷ vs) f alike = (alike.0, λ same. alike_weaker end end' us vs f (alike.1 same))
alike_weaker end end' [] (v ∷ vs) f alike = absurd alike
alike_weaker end end' (u ∷ us) [] f alike = absurd alike

pub alike_then : (end end' : Type 0) (us vs us' vs' : List Piece) → Alike end us vs → (end → Alike end' us' vs') → Alike end' (us ++ us') (vs ++ vs')
alike_then end end' [] [] us' vs' alike f = f alike
alike_then end end' (u ∷ us) (v ∷ vs) us' vs' alike f = (alike.0, λ same. alike_then end end' us vs us' vs' (alike.1 same) f)
alike_then end end' [] (v ∷ vs) us' vs' alike f = absurd alike
alike_then end end' (u ∷ us) [] us' vs' alike f = absurd alike

-- ---- bytes

pub append_same : (a b x y : List ℕ) → length a ≡ length b → a ++ x ≡ b ++ y → (a ≡ b) × (x ≡ y)
append_same [] [] x y size same = (refl, same)
append_same (p ∷ a) (q ∷ b) x y size same =
    let first : p ≡ q = cc in
    let others : a ++ x ≡ b ++ y = cc in
    let rest = append_same a b x y (omega arith) others in
    (λ i. first i ∷ rest.0 i, rest.1)
append_same [] (q ∷ b) x y size same = absurd (omega arith)
append_same (p ∷ a) [] x y size same = absurd (omega arith)

pub form_size : (u v : Piece) → SameForm u v → length (piece_bytes u) ≡ length (piece_bytes v)
form_size (number a) (number b) same = same
form_size (content a) (content b) same =
    omega (arith, length-append a (pad (length a)), length-append b (pad (length b)), ap (λ n. length (pad n)) same, same)
form_size (number a) (content b) same = absurd same
form_size (content a) (number b) same = absurd same

-- pieces of one form that begin the same bytes are equal
pub piece_same : (u v : Piece) (x y : List ℕ) → SameForm u v → piece_bytes u ++ x ≡ piece_bytes v ++ y → (u ≡ v) × (x ≡ y)
piece_same (number a) (number b) x y form same = let p = append_same a b x y form same in (ap number p.0, p.1)
piece_same (content a) (content b) x y form same =
    let p = append_same a b (pad (length a) ++ x) (pad (length b) ++ y) form (sym (append_assoc a (pad (length a)) x) ∙ same ∙ append_assoc b (pad (length b)) y) in
    let q = append_same (pad (length a)) (pad (length b)) x y (ap (λ n. length (pad n)) form) p.1 in
    (ap content p.0, q.1)
piece_same (number a) (content b) x y form same = absurd form
piece_same (content a) (number b) x y form same = absurd form

pub joined-append : (us vs : List Piece) → bytes_of_pieces (us ++ vs) ≡ bytes_of_pieces us ++ bytes_of_pieces vs
joined-append [] vs = refl
joined-append (u ∷ us) vs = ap (λ l. piece_bytes u ++ l) (joined-append us vs) ∙ sym (append_assoc (piece_bytes u) (bytes_of_pieces us) (bytes_of_pieces vs))

-- ---- two lists of pieces that go on alike

-- both are cut alike
pub alike_split : (end : Type 0) (us vs us' vs' : List Piece) → Alike end us vs → us ++ us' ≡ vs ++ vs' → end × (us ≡ vs) × (us' ≡ vs')
alike_split end [] [] us' vs' alike same = (alike, refl, same)
alike_split end (u ∷ us) (v ∷ vs) us' vs' alike same =
    let first : u ≡ v = cc in
    let others : us ++ us' ≡ vs ++ vs' = cc in
    let rest = alike_split end us vs us' vs' (alike.1 first) others in
    (rest.0, λ i. first i ∷ rest.1 i, rest.2)
alike_split end [] (v ∷ vs) us' vs' alike same = absurd alike
alike_split end (u ∷ us) [] us' vs' alike same = absurd alike

-- a piece behind what the first has stands in the second already
pub alike_reach : (end : Type 0) (done others vs behind others' : List Piece) (u w : Piece) → Alike end (done ++ (u ∷ others)) vs → vs ++ behind ≡ done ++ (w ∷ others') → (o : List Piece) × (vs ≡ done ++ (w ∷ o))
alike_reach end [] others [] behind others' u w alike same = absurd alike
alike_reach end [] others (v ∷ vs) behind others' u w alike same =
    let first : v ≡ w = cc in
    (vs, λ i. first i ∷ vs)
alike_reach end (d ∷ done) others [] behind others' u w alike same = absurd alike
alike_reach end (d ∷ done) others (v ∷ vs) behind others' u w alike same =
    let first : v ≡ d = cc in
    let rest : vs ++ behind ≡ done ++ (w ∷ others') = cc in
    let reached = alike_reach end done others vs behind others' u w (alike.1 (sym first)) rest in
    (reached.0, λ i. first i ∷ reached.1 i)

-- the second goes on where the first stops
pub record Ahead (end : Type 0) (done tail done' tail' : List Piece) (rest rest' : List ℕ) : Type 0 where
  pub next : Piece
  pub others : List Piece
  pub further : done' ≡ done ++ (next ∷ others)
  pub bytes : rest ≡ piece_bytes next ++ (bytes_of_pieces others ++ rest')
  pub alike : Alike end tail (next ∷ (others ++ tail'))

-- both stop at one place
pub record Together (end : Type 0) (done tail done' tail' : List Piece) (rest rest' : List ℕ) : Type 0 where
  pub same : done ≡ done'
  pub bytes : rest ≡ rest'
  pub alike : Alike end tail tail'

pub alike_sym : (end : Type 0) (us vs : List Piece) → Alike end us vs → Alike end vs us
alike_sym end [] [] alike = alike
alike_sym end (number a ∷ us) (number b ∷ vs) alike = (sym alike.0, λ same. alike_sym end us vs (alike.1 (sym same)))
alike_sym end (content a ∷ us) (content b ∷ vs) alike = (sym alike.0, λ same. alike_sym end us vs (alike.1 (sym same)))
alike_sym end (number a ∷ us) (content b ∷ vs) alike = absurd alike.0
alike_sym end (content a ∷ us) (number b ∷ vs) alike = absurd alike.0
alike_sym end [] (v ∷ vs) alike = absurd alike
alike_sym end (u ∷ us) [] alike = absurd alike

pub walk : (end : Type 0) (done tail done' tail' : List Piece) (rest rest' : List ℕ) → Alike end (done ++ tail) (done' ++ tail') → bytes_of_pieces done ++ rest ≡ bytes_of_pieces done' ++ rest' → Together end done tail done' tail' rest rest' ⊎ (Ahead end done tail done' tail' rest rest' ⊎ Ahead end done' tail' done tail rest' rest)
walk end [] tail [] tail' rest rest' alike bytes = inl (record { same = refl; bytes = bytes; alike = alike })
walk end [] tail (v ∷ done') tail' rest rest' alike bytes =
    inr (inl (record { next = v; others = done'; further = refl; bytes = bytes ∙ append_assoc (piece_bytes v) (bytes_of_pieces done') rest'; alike = alike }))
walk end (u ∷ done) tail [] tail' rest rest' alike bytes =
    inr (inr (record { next = u; others = done; further = refl; bytes = sym bytes ∙ append_assoc (piece_bytes u) (bytes_of_pieces done) rest; alike = alike_sym end (u ∷ (done ++ tail)) tail' alike }))
walk end (u ∷ done) tail (v ∷ done') tail' rest rest' alike bytes =
    let first = piece_same u v (bytes_of_pieces done ++ rest) (bytes_of_pieces done' ++ rest') alike.0 (sym (append_assoc (piece_bytes u) (bytes_of_pieces done) rest) ∙ bytes ∙ append_assoc (piece_bytes v) (bytes_of_pieces done') rest') in
    elim (walk end done tail done' tail' rest rest' (alike.1 first.0) first.1) [
      | inl t ↦ inl (record { same = λ i. first.0 i ∷ t.same i; bytes = t.bytes; alike = t.alike })
      | inr both ↦ elim both [
        | inl a ↦ inr (inl (record { next = a.next; others = a.others; further = λ i. sym first.0 i ∷ a.further i; bytes = a.bytes; alike = a.alike }))
        | inr a ↦ inr (inr (record { next = a.next; others = a.others; further = λ i. first.0 i ∷ a.further i; bytes = a.bytes; alike = a.alike }))
      ]
    ]
