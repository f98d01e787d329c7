-- What a production reads of a text from a token on.
use Rattle.std.proofs.Common.{◌≡◌, ℕ, ◌≤◌, List, length, drop, sym, ◌∙◌, ap, subst, arith, length-drop}
use Rattle.std.specs.Prelude.{Option, Some, None}
use Rattle.std.proofs.lemmas.List.{length-map}
use Rattle.circus_text.specs.declared.token.Token.{Token}
use Rattle.circus_syntax.specs.declared.stopping.Stop.{Stop}
use Rattle.circus_syntax.specs.Placed.{placed_of, Due}
use Rattle.circus_syntax.specs.Read.{placed_from}
use Rattle.circus_syntax.specs.Reader.{Reader, map_read}
use Rattle.circus_syntax.proofs.Sound.{Sound, reader, ran_is}
use Rattle.circus_syntax.proofs.Repeats.{never_longer}

end_kept : {A : Type 0} {p : Reader → A × Reader} {spell : A → List Due} {Good : A → Type 0} → Sound p spell Good → (r : Reader) → (p r).1.end ≡ r.end
end_kept {A} {p} S r = by_stop r.stop
  where
    by_stop : (stop : Option Stop) → (p (reader stop r.rest r.end)).1.end ≡ r.end
    by_stop None = ap (λ (x : A × Reader). x.1.end) (ran_is (S.runs r.rest r.end))
    by_stop (Some s) = ap (λ (x : A × Reader). x.1.end) ((S.fills s r.end).stays r.rest)

-- no more tokens are left than there are in the text
pub left_few : {A B : Type 0} {p : Reader → A × Reader} {spell : A → List Due} {Good : A → Type 0} → Sound p spell Good → (f : A → B) (text : List ℕ) (ts : List Token) (at : ℕ) (r s : Reader) (b : B)
    → r ≡ reader None (placed_from text ts at) (length text) → map_read f p r ≡ (b, s) → length s.rest ≤ length ts
left_few {A} {B} {p} S f text ts at r s b r_is is =
    let few = subst (λ (x : B × Reader). length x.1.rest ≤ length r.rest) is (never_longer S r) in
    let many = ap (λ (q : Reader). length q.rest) r_is in
    omega (arith, few, many, length-map (drop at ts) (placed_of text), length-drop at ts)

-- what is read is read at these tokens, and the reader behind it is at the end of the same text
pub answer_is : {A B : Type 0} {p : Reader → A × Reader} {spell : A → List Due} {Good : A → Type 0} → Sound p spell Good → (f : A → B) (text : List ℕ) (ts : List Token) (at : ℕ) (r s : Reader) (b : B) (stop : Option Stop)
    → r ≡ reader None (placed_from text ts at) (length text) → map_read f p r ≡ (b, s) → stop ≡ s.stop
    → map_read f p (reader None (placed_from text ts at) (length text)) ≡ (b, reader stop s.rest (length text))
answer_is {A} {B} {p} S f text ts at r s b stop r_is is stop_is =
    let end_is : s.end ≡ length text = ap (λ (x : B × Reader). x.1.end) (sym is) ∙ end_kept S r ∙ ap (λ (q : Reader). q.end) r_is in
    ap (map_read f p) (sym r_is) ∙ is ∙ (λ i. (b, reader (sym stop_is i) s.rest (end_is i)))
