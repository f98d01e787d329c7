-- Conditions, as they are read step by step.
use Rattle.std.proofs.Common.{◌≡◌, ℕ, zero, suc, Bool, true, false, List, [], ◌∷◌, refl, sym, ◌∙◌, ap}
use Rattle.circus_text.specs.Token.{Lexeme}
use Rattle.circus_syntax.specs.declared.stopping.StopCause.TheVariants.{TooDeep}
use Rattle.circus_syntax.specs.Placed.{is_lexeme}
use Rattle.circus_syntax.specs.Reader.{Reader, next, sees, stopped_by}
use Rattle.circus_syntax.specs.Reading.{expect_token}
use Rattle.circus_syntax.proofs.Sound.{both_is}
use Rattle.circus_place.specs.Written.{Written}
use Rattle.circus_place.specs.Written as written
use Rattle.circus_place.specs.declared.start.AloneStart.{AloneStart}
use Rattle.circus_place.specs.Grammar.{or_word, and_word}
use Rattle.circus_place.specs.Seen.Reading.{no_deeper, alone_start, alone_by, parts_behind, join_chain, chain, negation, further_and, further_or, conjunct, condition, group_behind_not, group_or_relation, with_further, with_further_and, with_further_or}

chained_none : (operator : Lexeme) (part : Reader → Written × Reader) (further : Reader → List Written × Reader) (r : Reader) (b : Bool) → b ≡ sees (is_lexeme operator) r → b ≡ false → parts_behind operator part further r ≡ ([], r)
chained_none operator part further r b seen missed = rw (← seen, missed) refl

chained_some : (operator : Lexeme) (part : Reader → Written × Reader) (further : Reader → List Written × Reader) (r s t : Reader) (v : Written) (b : Bool) → b ≡ sees (is_lexeme operator) r → b ≡ true → expect_token operator r ≡ (tt, s) → part s ≡ (v, t)
    → parts_behind operator part further r ≡ (v ∷ (further t).0, (further t).1)
chained_some operator part further r s t v b seen hit first second =
    rw (← seen, hit) (ap (λ (x : Written × Reader). (x.0 ∷ (further x.1).0, (further x.1).1)) (ap (λ (y : (Unit {0} × Written) × Reader). (y.0.1, y.1)) (both_is (expect_token operator) part r s t tt v first second)))

chain_none : (join : Written → Written → Written) (operator : Lexeme) (part : Reader → Written × Reader) (further : Reader → List Written × Reader) (r s : Reader) (w : Written) (b : Bool) → part r ≡ (w, s) → b ≡ sees (is_lexeme operator) s → b ≡ false
    → chain join operator part further r ≡ (w, s)
chain_none join operator part further r s w b is seen missed =
    ap (λ x. (join_chain join x.0 (parts_behind operator part further x.1).0, (parts_behind operator part further x.1).1)) is
    ∙ ap (λ x. (join_chain join w x.0, x.1)) (chained_none operator part further s b seen missed)

chain_some : (join : Written → Written → Written) (operator : Lexeme) (part : Reader → Written × Reader) (further : Reader → List Written × Reader) (r s t u : Reader) (w v : Written) (b : Bool) (x : Written × Reader) → part r ≡ (w, s) → b ≡ sees (is_lexeme operator) s → b ≡ true
    → expect_token operator s ≡ (tt, t) → part t ≡ (v, u) → with_further join further (join w v) u ≡ x → chain join operator part further r ≡ x
chain_some join operator part further r s t u w v b x is seen hit first second last =
    ap (λ y. (join_chain join y.0 (parts_behind operator part further y.1).0, (parts_behind operator part further y.1).1)) is
    ∙ ap (λ y. (join_chain join w y.0, y.1)) (chained_some operator part further s t u v b seen hit first second) ∙ last

further_more : (join : Written → Written → Written) (operator : Lexeme) (part : Reader → Written × Reader) (further : Reader → List Written × Reader) (r s t : Reader) (left v : Written) (b : Bool) (x : Written × Reader) → b ≡ sees (is_lexeme operator) r → b ≡ true
    → expect_token operator r ≡ (tt, s) → part s ≡ (v, t) → with_further join further (join left v) t ≡ x → with_further join (parts_behind operator part further) left r ≡ x
further_more join operator part further r s t left v b x seen hit first second last =
    ap (λ y. (join_chain join left y.0, y.1)) (chained_some operator part further r s t v b seen hit first second) ∙ last

-- AND

pub conjunct_one : (n : ℕ) (r s : Reader) (w : Written) (b : Bool) → negation n r ≡ (w, s) → b ≡ sees (is_lexeme and_word) s → b ≡ false → conjunct n r ≡ (w, s)
unfolding conjunct
conjunct_one n r s w b is seen missed = chain_none written.and and_word (negation n) (further_and n) r s w b is seen missed

pub conjunct_more : (n : ℕ) (r s t u : Reader) (w v : Written) (b : Bool) (x : Written × Reader) → negation n r ≡ (w, s) → b ≡ sees (is_lexeme and_word) s → b ≡ true → expect_token and_word s ≡ (tt, t) → negation n t ≡ (v, u)
    → with_further_and n (written.and w v) u ≡ x → conjunct n r ≡ x
unfolding conjunct
conjunct_more n r s t u w v b x is seen hit first second last = chain_some written.and and_word (negation n) (further_and n) r s t u w v b x is seen hit first second last

pub further_and_none : (n : ℕ) (left : Written) (r : Reader) (b : Bool) → b ≡ sees (is_lexeme and_word) r → b ≡ false → with_further_and n left r ≡ (left, r)
unfolding further_and
further_and_none zero left r b seen missed = rw (← seen, missed) refl
further_and_none (suc n) left r b seen missed = ap (λ x. (join_chain written.and left x.0, x.1)) (chained_none and_word (negation n) (further_and n) r b seen missed)

pub further_and_deep : (n : ℕ) (left : Written) (r : Reader) (b : Bool) → n ≡ 0 → b ≡ sees (is_lexeme and_word) r → b ≡ true → with_further_and n left r ≡ (left, stopped_by TooDeep r.stop r.rest r.end)
unfolding further_and no_deeper
further_and_deep n left r b none seen hit = ap (λ m. with_further_and m left r) none ∙ rw (← seen, hit) refl

pub further_and_more : (n m : ℕ) (r s t : Reader) (left v : Written) (b : Bool) (x : Written × Reader) → n ≡ suc m → b ≡ sees (is_lexeme and_word) r → b ≡ true → expect_token and_word r ≡ (tt, s) → negation m s ≡ (v, t)
    → with_further_and m (written.and left v) t ≡ x → with_further_and n left r ≡ x
unfolding further_and
further_and_more n m r s t left v b x some seen hit first second last =
    ap (λ k. with_further_and k left r) some ∙ further_more written.and and_word (negation m) (further_and m) r s t left v b x seen hit first second last

-- OR

pub condition_one : (n : ℕ) (r s : Reader) (w : Written) (b : Bool) → conjunct n r ≡ (w, s) → b ≡ sees (is_lexeme or_word) s → b ≡ false → condition n r ≡ (w, s)
unfolding condition
condition_one n r s w b is seen missed = chain_none written.or or_word (conjunct n) (further_or n) r s w b is seen missed

pub condition_more : (n : ℕ) (r s t u : Reader) (w v : Written) (b : Bool) (x : Written × Reader) → conjunct n r ≡ (w, s) → b ≡ sees (is_lexeme or_word) s → b ≡ true → expect_token or_word s ≡ (tt, t) → conjunct n t ≡ (v, u)
    → with_further_or n (written.or w v) u ≡ x → condition n r ≡ x
unfolding condition
condition_more n r s t u w v b x is seen hit first second last = chain_some written.or or_word (conjunct n) (further_or n) r s t u w v b x is seen hit first second last

pub further_or_none : (n : ℕ) (left : Written) (r : Reader) (b : Bool) → b ≡ sees (is_lexeme or_word) r → b ≡ false → with_further_or n left r ≡ (left, r)
unfolding further_or conjunct
further_or_none zero left r b seen missed = rw (← seen, missed) refl
further_or_none (suc n) left r b seen missed = ap (λ x. (join_chain written.or left x.0, x.1)) (chained_none or_word (conjunct n) (further_or n) r b seen missed)

pub further_or_deep : (n : ℕ) (left : Written) (r : Reader) (b : Bool) → n ≡ 0 → b ≡ sees (is_lexeme or_word) r → b ≡ true → with_further_or n left r ≡ (left, stopped_by TooDeep r.stop r.rest r.end)
unfolding further_or no_deeper
further_or_deep n left r b none seen hit = ap (λ m. with_further_or m left r) none ∙ rw (← seen, hit) refl

pub further_or_more : (n m : ℕ) (r s t : Reader) (left v : Written) (b : Bool) (x : Written × Reader) → n ≡ suc m → b ≡ sees (is_lexeme or_word) r → b ≡ true → expect_token or_word r ≡ (tt, s) → conjunct m s ≡ (v, t)
    → with_further_or m (written.or left v) t ≡ x → with_further_or n left r ≡ x
unfolding further_or conjunct
further_or_more n m r s t left v b x some seen hit first second last =
    ap (λ k. with_further_or k left r) some ∙ further_more written.or or_word (conjunct m) (further_or m) r s t left v b x seen hit first second last

-- What stands by itself.

pub negated_is : (n : ℕ) (r : Reader) (k l : AloneStart) → k ≡ alone_start (next r) → k ≡ l → negation n r ≡ alone_by (group_behind_not n) (group_or_relation n) l r
unfolding negation condition conjunct
negated_is zero r k l is same = ap (λ m. alone_by (group_behind_not 0) (group_or_relation 0) m r) (sym is ∙ same)
negated_is (suc n) r k l is same = ap (λ m. alone_by (group_behind_not (suc n)) (group_or_relation (suc n)) m r) (sym is ∙ same)
