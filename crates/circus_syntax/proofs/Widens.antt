-- With more levels a production answers the same, but where a type was a level too deep: there it reads on.
use Rattle.std.proofs.Common.{◌≡◌, ℕ, List, [], ◌∷◌, ◌++◌, refl, sym, ◌∙◌, ap, subst, append_assoc}
use Rattle.std.specs.Prelude.{Option, Some, None}
use Rattle.circus_syntax.specs.declared.stopping.Stop.{Stop}
use Rattle.circus_syntax.specs.declared.stopping.StopCause.{StopCause}
use Rattle.circus_syntax.specs.declared.stopping.StopCause.TheVariants.{Unexpected, TooDeep}
use Rattle.circus_syntax.specs.Placed.{Placed, Due}
use Rattle.circus_syntax.specs.Reader.{Reader, both, map_read}
use Rattle.circus_syntax.proofs.Sound.{Sound, reader, ran_is, both_is}

-- y has taken the token at which x stopped
abbrev pub Further : {A : Type 0} → A × Reader → A × Reader → Type 0
Further x y = (t : Placed) × (c : List Placed) × (x.1.rest ≡ t ∷ (c ++ y.1.rest))

abbrev pub WiderBy : {A : Type 0} → StopCause → A × Reader → A × Reader → Type 0
WiderBy Unexpected x y = y ≡ x
WiderBy TooDeep x y = Further x y

abbrev pub Wider : {A : Type 0} → Option Stop → A × Reader → A × Reader → Type 0
Wider None x y = y ≡ x
Wider (Some s) x y = WiderBy s.cause x y

pub record Widens {A : Type 0} (p q : Reader → A × Reader) : Type 0 where
  pub filled : (s : Stop) (ts : List Placed) (e : ℕ) → q (reader (Some s) ts e) ≡ p (reader (Some s) ts e)
  pub wider : (ts : List Placed) (e : ℕ) → Wider (p (reader None ts e)).1.stop (p (reader None ts e)) (q (reader None ts e))

-- what a production leaves is the end of what there was
pub suffix : {A : Type 0} {p : Reader → A × Reader} {spell : A → List Due} {Good : A → Type 0} → Sound p spell Good → (r : Reader) → (c : List Placed) × (r.rest ≡ c ++ (p r).1.rest)
suffix {A = A} {p = p} P r = by_stop r.stop
  where
    by_stop : (stop : Option Stop) → (c : List Placed) × (r.rest ≡ c ++ (p (reader stop r.rest r.end)).1.rest)
    by_stop None =
        let R = P.runs r.rest r.end in
        (R.taken, subst (λ (x : A × Reader). r.rest ≡ R.taken ++ x.1.rest) (sym (ran_is R)) R.whole)
    by_stop (Some s) =
        let F = P.fills s r.end in
        ([], subst (λ (x : A × Reader). r.rest ≡ x.1.rest) (sym (F.stays r.rest)) refl)

-- a production that a stop keeps from reading, and that leaves an end of what there was
pub record Calm {A : Type 0} (p : Reader → A × Reader) : Type 0 where
  pub fill : Stop → ℕ → A
  pub stays : (s : Stop) (e : ℕ) (ts : List Placed) → p (reader (Some s) ts e) ≡ (fill s e, reader (Some s) ts e)
  pub leaves : (r : Reader) → (c : List Placed) × (r.rest ≡ c ++ (p r).1.rest)

pub calm_of : {A : Type 0} {p : Reader → A × Reader} {spell : A → List Due} {Good : A → Type 0} → Sound p spell Good → Calm p
calm_of P = record { fill = λ s e. (P.fills s e).tree; stays = λ s e ts. (P.fills s e).stays ts; leaves = suffix P }

pub calm_both : {A B : Type 0} {p : Reader → A × Reader} {q : Reader → B × Reader} → Calm p → Calm q → Calm (both p q)
calm_both {p = p} {q = q} P Q = record {
  fill = λ s e. (P.fill s e, Q.fill s e);
  stays = λ s e ts. both_is p q _ _ _ (P.fill s e) (Q.fill s e) (P.stays s e ts) (Q.stays s e ts);
  leaves = λ r.
      let (c, front) = P.leaves r in
      let (d, back) = Q.leaves (p r).1 in
      (c ++ d, front ∙ ap (λ l. c ++ l) back ∙ sym (append_assoc c d (q (p r).1).1.rest));
}

pub calm_mapped : {A B : Type 0} (f : A → B) {p : Reader → A × Reader} → Calm p → Calm (map_read f p)
calm_mapped f P = record {
  fill = λ s e. f (P.fill s e);
  stays = λ s e ts. ap (λ z. (f z.0, z.1)) (P.stays s e ts);
  leaves = P.leaves;
}
