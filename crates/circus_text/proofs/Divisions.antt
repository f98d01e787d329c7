-- A text has one answer: it divides in one way, and ends with its last piece or with one fault.
use Rattle.std.proofs.Common.{◌≡◌, ℕ, ◌+◌, ◌<◌, true, false, List, [], ◌∷◌, ◌++◌, length, take, Some, None, Result, Ok, Err, refl, sym, ◌∙◌, ap, subst, arith, append_assoc, inl, inr}
use Rattle.std.proofs.Math.Nat.{le_antisymm}
use Rattle.std.proofs.lemmas.Bool.{false≢true}
use Rattle.std.proofs.lemmas.List.{append_cancel_left, take_at}
use Rattle.circus_text.specs.declared.token.Token.{Token}
use Rattle.circus_text.specs.declared.token.TokenKind.TheVariants.{Word, Number, Quoted, Sign}
use Rattle.circus_text.specs.declared.front.Form.{Form}
use Rattle.circus_text.specs.declared.front.Form.TheVariants as form
use Rattle.circus_text.specs.declared.lex_fault.LexFault.{LexFault}
use Rattle.circus_text.specs.declared.lex_fault.LexFault.TheVariants as fault
use Rattle.circus_text.specs.Form.{HasForm, bad_place, is_long_number}
use Rattle.circus_text.specs.Front.{Piece, BeginsWith, IsLongest, IsNext, IsBadCharacter, IsOpenString, IsLongNumber}
use Rattle.circus_text.specs.Division.{bytes_of_pieces, EachIsNext, DividesTo, tokens_from, IsAnswer}
use Rattle.circus_text.proofs.Fronts.{form_length, form_one}

-- two fronts of one text that are of one length are equal
same_front : (text v w a b : List ℕ) → text ≡ v ++ a → text ≡ w ++ b → length v ≡ length w → v ≡ w
same_front text v w a b e f same =
    sym (take_at v a (length v) refl) ∙ ap (take (length v)) (sym e ∙ f) ∙ take_at w b (length v) (sym same)

-- One piece is the longest.
longest_one : (text : List ℕ) (p q : Piece) → IsLongest text p → IsLongest text q → p ≡ q
longest_one text p q lp lq =
    let (a, e) = lp.begins.front in
    let (b, f) = lq.begins.front in
    let same : p.bytes ≡ q.bytes = same_front text p.bytes q.bytes a b e f (le_antisymm (lq.longest p lp.begins) (lp.longest q lq.begins)) in
    let forms : p.form ≡ q.form = form_one p.form q.form p.bytes lp.begins.formed (subst (HasForm q.form) (sym same) lq.begins.formed) in
    λ i. record { form = forms i; bytes = same i }

-- no piece goes on from here
abbrev IsStuck : List ℕ → Type 0
IsStuck rest = (p : Piece) → IsNext rest p → ⊥

nothing_in_nil : (p : Piece) → BeginsWith [] p → ⊥
nothing_in_nil p begins =
    let (after, e) = begins.front in
    absurd (empty p.bytes after e (form_length p.form p.bytes begins.formed))
  where
    empty : (w after : List ℕ) → [] ≡ w ++ after → 0 < length w → ⊥
    empty [] after e some = omega arith
    empty (b ∷ bs) after e some = cc

stuck_nil : IsStuck []
stuck_nil p next = nothing_in_nil p next.longest.begins

stuck_bad : (rest : List ℕ) (i : ℕ) → IsBadCharacter rest i → IsStuck rest
stuck_bad rest i (inl (q, longest, bad)) p next =
    let none : None ≡ Some i = sym next.no_bad_byte ∙ subst (λ x. bad_place x.form x.bytes ≡ Some i) (longest_one rest q p longest next.longest) bad in
    cc
stuck_bad rest i (inr (nothing, some, no_quote, place)) p next = nothing p next.longest.begins

stuck_open : (rest : List ℕ) (i : ℕ) → IsOpenString rest i → IsStuck rest
stuck_open rest i (nothing, quote, place) p next = nothing p next.longest.begins

stuck_long : (rest : List ℕ) (i : ℕ) → IsLongNumber rest i → IsStuck rest
stuck_long rest i (q, longest, long, place) p next =
    false≢true (sym next.no_long_number ∙ subst (λ x. is_long_number x.form x.bytes ≡ true) (longest_one rest q p longest next.longest) long)

-- A text divides in one way up to where no piece goes on.
division_one : (ps qs : List Piece) (r s : List ℕ) → bytes_of_pieces ps ++ r ≡ bytes_of_pieces qs ++ s → EachIsNext ps r → EachIsNext qs s → IsStuck r → IsStuck s → (ps ≡ qs) × (r ≡ s)
division_one [] [] r s e each_p each_q stuck_r stuck_s = (refl, e)
division_one [] (q ∷ qs) r s e each_p each_q stuck_r stuck_s = absurd (stuck_r q (subst (λ t. IsNext t q) (sym e) each_q.0))
division_one (p ∷ ps) [] r s e each_p each_q stuck_r stuck_s = absurd (stuck_s p (subst (λ t. IsNext t p) e each_p.0))
division_one (p ∷ ps) (q ∷ qs) r s e each_p each_q stuck_r stuck_s =
    let next : IsNext (bytes_of_pieces (p ∷ ps) ++ r) q = subst (λ t. IsNext t q) (sym e) each_q.0 in
    let same = longest_one (bytes_of_pieces (p ∷ ps) ++ r) p q each_p.0.longest next.longest in
    let rests : p.bytes ++ (bytes_of_pieces ps ++ r) ≡ p.bytes ++ (bytes_of_pieces qs ++ s) =
    sym (append_assoc p.bytes (bytes_of_pieces ps) r) ∙ e ∙ append_assoc q.bytes (bytes_of_pieces qs) s ∙ ap (λ (x : Piece). x.bytes ++ (bytes_of_pieces qs ++ s)) (sym same) in
    let tail = division_one ps qs r s (append_cancel_left p.bytes _ _ rests) each_p.1 each_q.1 stuck_r stuck_s in
    (λ i. same i ∷ tail.0 i, tail.1)

-- what an answer says of the rest at which the pieces end
abbrev EndsWith : List Piece → List ℕ → Result (List Token) LexFault → Type 0
EndsWith ps rest (Ok ts) = (rest ≡ []) × (ts ≡ tokens_from 0 ps)
EndsWith ps rest (Err (fault.BadCharacter place)) = (i : ℕ) × IsBadCharacter rest i × (place ≡ length (bytes_of_pieces ps) + i)
EndsWith ps rest (Err (fault.OpenString place)) = (i : ℕ) × IsOpenString rest i × (place ≡ length (bytes_of_pieces ps) + i)
EndsWith ps rest (Err (fault.LongNumber place)) = (i : ℕ) × IsLongNumber rest i × (place ≡ length (bytes_of_pieces ps) + i)
EndsWith ps rest (Err fault.NoMemory) = ⊥

record Ends (text : List ℕ) (answer : Result (List Token) LexFault) : Type 0 where
  pieces : List Piece
  rest : List ℕ
  divides : DividesTo text pieces rest
  ends : EndsWith pieces rest answer

ends_from : (text : List ℕ) (answer : Result (List Token) LexFault) → IsAnswer text answer → Ends text answer
ends_from text (Ok ts) (ps, divides, same) = record { pieces = ps; rest = []; divides = divides; ends = (refl, same) }
ends_from text (Err (fault.BadCharacter place)) (ps, rest, i, divides, is, same) = record { pieces = ps; rest = rest; divides = divides; ends = (i, is, same) }
ends_from text (Err (fault.OpenString place)) (ps, rest, i, divides, is, same) = record { pieces = ps; rest = rest; divides = divides; ends = (i, is, same) }
ends_from text (Err (fault.LongNumber place)) (ps, rest, i, divides, is, same) = record { pieces = ps; rest = rest; divides = divides; ends = (i, is, same) }
ends_from text (Err fault.NoMemory) none = absurd none

stuck_end : (ps : List Piece) (rest : List ℕ) (answer : Result (List Token) LexFault) → EndsWith ps rest answer → IsStuck rest
stuck_end ps rest (Ok ts) (nil, same) = subst IsStuck (sym nil) stuck_nil
stuck_end ps rest (Err (fault.BadCharacter place)) (i, is, same) = stuck_bad rest i is
stuck_end ps rest (Err (fault.OpenString place)) (i, is, same) = stuck_open rest i is
stuck_end ps rest (Err (fault.LongNumber place)) (i, is, same) = stuck_long rest i is
stuck_end ps rest (Err fault.NoMemory) none = absurd none

-- a rest has one fault at most, at one place
bad_one : (rest : List ℕ) (i j : ℕ) → IsBadCharacter rest i → IsBadCharacter rest j → i ≡ j
bad_one rest i j (inl (p, lp, bp)) (inl (q, lq, bq)) =
    let same : Some i ≡ Some j = sym (subst (λ x. bad_place x.form x.bytes ≡ Some i) (longest_one rest p q lp lq) bp) ∙ bq in
    cc
bad_one rest i j (inl (p, lp, bp)) (inr (nothing, some, no_quote, place)) = absurd (nothing p lp.begins)
bad_one rest i j (inr (nothing, some, no_quote, place)) (inl (q, lq, bq)) = absurd (nothing q lq.begins)
bad_one rest i j (inr (_, _, _, pi)) (inr (_, _, _, pj)) = pi ∙ sym pj

bad_not_open : (rest : List ℕ) (i j : ℕ) → IsBadCharacter rest i → IsOpenString rest j → ⊥
bad_not_open rest i j (inl (p, lp, bp)) (nothing, quote, place) = nothing p lp.begins
bad_not_open rest i j (inr (_, some, no_quote, _)) (nothing, quote, place) = no_quote quote

long_has_no_bad : (f : Form) (w : List ℕ) → is_long_number f w ≡ true → bad_place f w ≡ None
long_has_no_bad (form.Token Word) w long = cc
long_has_no_bad (form.Token Number) w long = refl
long_has_no_bad (form.Token Quoted) w long = cc
long_has_no_bad (form.Token Sign) w long = refl
long_has_no_bad form.Spacing w long = refl
long_has_no_bad form.Comment w long = cc

bad_not_long : (rest : List ℕ) (i j : ℕ) → IsBadCharacter rest i → IsLongNumber rest j → ⊥
bad_not_long rest i j (inl (p, lp, bp)) (q, lq, long, place) =
    let none : None ≡ Some i = sym (long_has_no_bad q.form q.bytes long) ∙ subst (λ x. bad_place x.form x.bytes ≡ Some i) (longest_one rest p q lp lq) bp in
    let no : false ≡ true = cc in
    false≢true no
bad_not_long rest i j (inr (nothing, some, no_quote, place)) (q, lq, long, _) = nothing q lq.begins

open_not_long : (rest : List ℕ) (i j : ℕ) → IsOpenString rest i → IsLongNumber rest j → ⊥
open_not_long rest i j (nothing, quote, place) (q, lq, long, _) = nothing q lq.begins

nil_not_bad : (i : ℕ) → IsBadCharacter [] i → ⊥
nil_not_bad i (inl (p, lp, bp)) = nothing_in_nil p lp.begins
nil_not_bad i (inr (nothing, some, no_quote, place)) = omega arith

nil_not_open : (i : ℕ) → IsOpenString [] i → ⊥
nil_not_open i (nothing, quote, place) = quote

nil_not_long : (i : ℕ) → IsLongNumber [] i → ⊥
nil_not_long i (p, lp, long, place) = nothing_in_nil p lp.begins

end_one : (ps : List Piece) (rest : List ℕ) (a b : Result (List Token) LexFault) → EndsWith ps rest a → EndsWith ps rest b → a ≡ b
end_one ps rest (Ok ts) (Ok us) (_, e) (_, f) = ap Ok (e ∙ sym f)
end_one ps rest (Ok ts) (Err (fault.BadCharacter k)) (nil, _) (j, b, _) = absurd (nil_not_bad j (subst (λ r. IsBadCharacter r j) nil b))
end_one ps rest (Ok ts) (Err (fault.OpenString k)) (nil, _) (j, b, _) = absurd (nil_not_open j (subst (λ r. IsOpenString r j) nil b))
end_one ps rest (Ok ts) (Err (fault.LongNumber k)) (nil, _) (j, b, _) = absurd (nil_not_long j (subst (λ r. IsLongNumber r j) nil b))
end_one ps rest (Ok ts) (Err fault.NoMemory) a b = absurd b
end_one ps rest (Err (fault.BadCharacter k)) (Ok us) (i, a, _) (nil, _) = absurd (nil_not_bad i (subst (λ r. IsBadCharacter r i) nil a))
end_one ps rest (Err (fault.BadCharacter k)) (Err (fault.BadCharacter l)) (i, a, e) (j, b, f) = ap (λ n. Err (fault.BadCharacter n)) (e ∙ ap (λ n. length (bytes_of_pieces ps) + n) (bad_one rest i j a b) ∙ sym f)
end_one ps rest (Err (fault.BadCharacter k)) (Err (fault.OpenString l)) (i, a, e) (j, b, f) = absurd (bad_not_open rest i j a b)
end_one ps rest (Err (fault.BadCharacter k)) (Err (fault.LongNumber l)) (i, a, e) (j, b, f) = absurd (bad_not_long rest i j a b)
end_one ps rest (Err (fault.BadCharacter k)) (Err fault.NoMemory) a b = absurd b
end_one ps rest (Err (fault.OpenString k)) (Ok us) (i, a, _) (nil, _) = absurd (nil_not_open i (subst (λ r. IsOpenString r i) nil a))
end_one ps rest (Err (fault.OpenString k)) (Err (fault.BadCharacter l)) (i, a, e) (j, b, f) = absurd (bad_not_open rest j i b a)
end_one ps rest (Err (fault.OpenString k)) (Err (fault.OpenString l)) (i, (_, _, a), e) (j, (_, _, b), f) = ap (λ n. Err (fault.OpenString n)) (e ∙ ap (λ n. length (bytes_of_pieces ps) + n) (a ∙ sym b) ∙ sym f)
end_one ps rest (Err (fault.OpenString k)) (Err (fault.LongNumber l)) (i, a, e) (j, b, f) = absurd (open_not_long rest i j a b)
end_one ps rest (Err (fault.OpenString k)) (Err fault.NoMemory) a b = absurd b
end_one ps rest (Err (fault.LongNumber k)) (Ok us) (i, a, _) (nil, _) = absurd (nil_not_long i (subst (λ r. IsLongNumber r i) nil a))
end_one ps rest (Err (fault.LongNumber k)) (Err (fault.BadCharacter l)) (i, a, e) (j, b, f) = absurd (bad_not_long rest j i b a)
end_one ps rest (Err (fault.LongNumber k)) (Err (fault.OpenString l)) (i, a, e) (j, b, f) = absurd (open_not_long rest j i b a)
end_one ps rest (Err (fault.LongNumber k)) (Err (fault.LongNumber l)) (i, (_, _, _, a), e) (j, (_, _, _, b), f) = ap (λ n. Err (fault.LongNumber n)) (e ∙ ap (λ n. length (bytes_of_pieces ps) + n) (a ∙ sym b) ∙ sym f)
end_one ps rest (Err (fault.LongNumber k)) (Err fault.NoMemory) a b = absurd b
end_one ps rest (Err fault.NoMemory) b a none = absurd a

-- A text has one answer.
pub answer_one : (text : List ℕ) (a b : Result (List Token) LexFault) → IsAnswer text a → IsAnswer text b → a ≡ b
answer_one text a b is_a is_b =
    let x = ends_from text a is_a in
    let y = ends_from text b is_b in
    let same = division_one x.pieces y.pieces x.rest y.rest (sym x.divides.whole ∙ y.divides.whole) x.divides.each y.divides.each (stuck_end x.pieces x.rest a x.ends) (stuck_end y.pieces y.rest b y.ends) in
    end_one x.pieces x.rest a b x.ends (subst (λ r. EndsWith x.pieces r b) (sym same.1) (subst (λ ps. EndsWith ps y.rest b) (sym same.0) y.ends))
