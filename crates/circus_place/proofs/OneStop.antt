-- Reading stops in one place, for one cause.
use Rattle.std.proofs.Common.{◌≡◌, ◌⊎◌, inl, inr, List, [], ◌∷◌, ◌++◌, refl, sym, ◌∙◌, subst, append_assoc}
use Rattle.std.proofs.lemmas.List.{append_cancel_right}
use Rattle.circus_syntax.specs.declared.stopping.StopCause.{StopCause}
use Rattle.circus_syntax.specs.declared.stopping.StopCause.TheVariants.{Unexpected, TooDeep}
use Rattle.circus_syntax.specs.Placed.{Placed}
use Rattle.circus_place.specs.Grammar.{IsPlacing, BeginsWithin}
use Rattle.circus_place.specs.Stopping.{IsUnexpected, IsTooDeep}
use Rattle.circus_place.specs.ReadAs.{IsStopOf}

-- what both kinds of stops say
record Stops (ts left : List Placed) : Type 0 where
  read : List Placed
  whole : ts ≡ read ++ left
  begun : BeginsWithin read
  none_within : (t : Placed) (rest : List Placed) → left ≡ t ∷ rest → BeginsWithin (read ++ t ∷ []) → ⊥

same_first : (t u : Placed) (ts us : List Placed) → t ∷ ts ≡ u ∷ us → t ≡ u
same_first t u ts us is = cc

same_rest : (t u : Placed) (ts us : List Placed) → t ∷ ts ≡ u ∷ us → ts ≡ us
same_rest t u ts us is = cc

stops : (c : StopCause) (ts left : List Placed) → IsStopOf c ts left → Stops ts left
stops Unexpected ts left u = record {
  read = u.read;
  whole = u.whole;
  begun = u.begun;
  none_within = λ t rest is begun. let (tree, more, placing, within) = begun in u.none_on t rest is (tree, more, placing);
}
stops TooDeep ts left d = record {
  read = d.read;
  whole = d.whole;
  begun = d.begun;
  none_within = λ t rest is begun. d.none_within (subst (λ (u : Placed). BeginsWithin (d.read ++ u ∷ [])) (same_first t d.next rest d.rest (sym is ∙ d.next_is)) begun);
}

-- what begins with more tokens begins with fewer
begins_before : (read : List Placed) (t : Placed) (more : List Placed) → BeginsWithin (read ++ t ∷ more) → BeginsWithin (read ++ t ∷ [])
begins_before read t more (tree, rest, placing, within) =
    (tree, more ++ rest, subst (λ l. IsPlacing l tree) (append_assoc read (t ∷ more) rest ∙ sym (append_assoc read (t ∷ []) (more ++ rest))) placing, within)

-- of two beginnings one goes on where the other ends
abbrev Further : (a b l r : List Placed) → Type 0
Further a b l r = (t : Placed) × (more : List Placed) × (l ≡ t ∷ (more ++ r)) × (b ≡ a ++ t ∷ more)

further_by : (t u : Placed) (a b l r : List Placed) → t ≡ u → Further a b l r → Further (t ∷ a) (u ∷ b) l r
further_by t u a b l r same (v, more, left_is, is) = (v, more, left_is, λ i. sym same i ∷ is i)

compared : (a b l r : List Placed) → a ++ l ≡ b ++ r → (l ≡ r) ⊎ (Further a b l r ⊎ Further b a r l)
compared [] [] l r is = inl is
compared [] (t ∷ b) l r is = inr (inl (t, b, is, refl))
compared (t ∷ a) [] l r is = inr (inr (t, a, sym is, refl))
compared (t ∷ a) (u ∷ b) l r is = by_rest (same_first t u (a ++ l) (b ++ r) is) (compared a b l r (same_rest t u (a ++ l) (b ++ r) is))
  where
    by_rest : t ≡ u → (l ≡ r) ⊎ (Further a b l r ⊎ Further b a r l) → (l ≡ r) ⊎ (Further (t ∷ a) (u ∷ b) l r ⊎ Further (u ∷ b) (t ∷ a) r l)
    by_rest same (inl left) = inl left
    by_rest same (inr (inl on)) = inr (inl (further_by t u a b l r same on))
    by_rest same (inr (inr on)) = inr (inr (further_by u t b a r l (sym same) on))

-- none reads further than the other
not_further : (ts left right : List Placed) (S : Stops ts left) (T : Stops ts right) → Further S.read T.read left right → ⊥
not_further ts left right S T (t, more, left_is, is) = S.none_within t (more ++ right) left_is (begins_before S.read t more (subst BeginsWithin is T.begun))

same_left : (ts left right : List Placed) → Stops ts left → Stops ts right → left ≡ right
same_left ts left right S T = by_parts (compared S.read T.read left right (sym S.whole ∙ T.whole))
  where
    by_parts : (left ≡ right) ⊎ (Further S.read T.read left right ⊎ Further T.read S.read right left) → left ≡ right
    by_parts (inl same) = same
    by_parts (inr (inl on)) = absurd (not_further ts left right S T on)
    by_parts (inr (inr on)) = absurd (not_further ts right left T S on)

pub one_left : (c d : StopCause) (ts left right : List Placed) → IsStopOf c ts left → IsStopOf d ts right → left ≡ right
one_left c d ts left right one other = same_left ts left right (stops c ts left one) (stops d ts right other)

-- no token is both unexpected and too deep
not_both : (ts left : List Placed) → IsUnexpected ts left → IsTooDeep ts left → ⊥
not_both ts left u d =
    let reads : d.read ≡ u.read = append_cancel_right d.read u.read left (sym d.whole ∙ u.whole) in
    let (tree, more, placing) = d.goes_on in
    u.none_on d.next d.rest d.next_is (tree, more, subst (λ l. IsPlacing ((l ++ d.next ∷ []) ++ more) tree) reads placing)

pub one_cause : (c d : StopCause) (ts left : List Placed) → IsStopOf c ts left → IsStopOf d ts left → c ≡ d
one_cause Unexpected Unexpected ts left one other = refl
one_cause Unexpected TooDeep ts left one other = absurd (not_both ts left one other)
one_cause TooDeep Unexpected ts left one other = absurd (not_both ts left other one)
one_cause TooDeep TooDeep ts left one other = refl
