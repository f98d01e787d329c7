-- Of a grammar whose trees end by themselves: no tree begins another one, and none ends in front of a stop.
use Rattle.std.proofs.Common.{◌≡◌, ℕ, ◌+◌, suc, ◌<◌, List, [], ◌∷◌, ◌++◌, length, refl, sym, ◌∙◌, ap, arith, append-nil, length-append}
use Rattle.std.specs.Prelude.{Some, None}
use Rattle.circus_syntax.specs.declared.stopping.Stop.{Stop}
use Rattle.circus_syntax.specs.declared.stopping.StopCause.{StopCause}
use Rattle.circus_syntax.specs.declared.stopping.StopCause.TheVariants.{Unexpected, TooDeep}
use Rattle.circus_syntax.specs.Placed.{Placed, Due, AreWithin}
use Rattle.circus_syntax.specs.Reader.{Reader}
use Rattle.circus_syntax.proofs.Opened.{within_more}
use Rattle.circus_syntax.proofs.Sound.{reader}
use Rattle.circus_syntax.proofs.Complete.{Any}
use Rattle.circus_expression.specs.Ending.{Are}
use Rattle.circus_expression.proofs.Ends.{AllLawful, enough, reads, deeper_of, no_stop}

pub one_tree : {A : Type 0} {p : ℕ → Reader → A × Reader} {spell : A → List Due} {Good : A → Type 0} → AllLawful p spell Good Any
    → (own more : List Placed) (a b : A) → Are spell Good own a → Are spell Good (own ++ more) b → (more ≡ []) × (a ≡ b)
one_tree {A} {p} {spell} L own more a b a_is b_is =
    let (j, within_a) = enough (spell a) in
    let (k, within_b) = enough (spell b) in
    let m = j + k in
    let short : p m (reader None (own ++ more) 0) ≡ (a, reader None more 0) = reads L m own more a 0 a_is (within_more j m (omega arith) (spell a) within_a) tt in
    let long : p m (reader None ((own ++ more) ++ []) 0) ≡ (b, reader None [] 0) = reads L m (own ++ more) [] b 0 b_is (within_more k m (omega arith) (spell b) within_b) tt in
    let same : (a, reader None more 0) ≡ (b, reader None [] 0) = sym short ∙ ap (λ l. p m (reader None l 0)) (sym (append-nil (own ++ more))) ∙ long in
    (ap (λ (x : A × Reader). x.1.rest) same, ap (λ (x : A × Reader). x.0) same)

none_at : {A : Type 0} {p : ℕ → Reader → A × Reader} {spell : A → List Due} {Good : A → Type 0} → AllLawful p spell Good Any
    → (n m : ℕ) (above : suc n < m) (ts left : List Placed) (a : A) (s : Stop) (e : ℕ) → p n (reader None ts e) ≡ (a, reader (Some s) left e)
    → (own more : List Placed) (b : A) → ts ≡ own ++ (more ++ left) → Are spell Good own b → AreWithin m (spell b) → ⊥
none_at {A} {p} L n m above ts left a s e is own more b whole b_is within = by_cause s.cause refl
  where
    there : p m (reader None ts e) ≡ (b, reader None (more ++ left) e)
    there = ap (λ l. p m (reader None l e)) whole ∙ reads L m own (more ++ left) b e b_is within tt

    by_cause : (cause : StopCause) → s.cause ≡ cause → ⊥
    by_cause Unexpected cause_is =
        no_stop (b, reader None (more ++ left) e) (a, reader (Some s) left e) s refl refl (sym there ∙ deeper_of L n m above ts left a s e Unexpected cause_is is)
    by_cause TooDeep cause_is =
        let (t, c, further) = (deeper_of L n m above ts left a s e TooDeep cause_is is).0 in
        let longer : left ≡ t ∷ (c ++ (more ++ left)) = further ∙ ap (λ (x : A × Reader). t ∷ (c ++ x.1.rest)) there in
        omega (arith, ap length longer, length-append c (more ++ left), length-append more left)

-- no tree ends in front of what is left where reading stopped
pub none_ends : {A : Type 0} {p : ℕ → Reader → A × Reader} {spell : A → List Due} {Good : A → Type 0} → AllLawful p spell Good Any
    → (n : ℕ) (ts left : List Placed) (a : A) (s : Stop) (e : ℕ) → p n (reader None ts e) ≡ (a, reader (Some s) left e)
    → (own more : List Placed) (b : A) → ts ≡ own ++ (more ++ left) → Are spell Good own b → ⊥
none_ends {spell = spell} L n ts left a s e is own more b whole b_is =
    let (k, within) = enough (spell b) in
    none_at L n (k + n + 2) (omega arith) ts left a s e is own more b whole b_is (within_more k (k + n + 2) (omega arith) (spell b) within)
