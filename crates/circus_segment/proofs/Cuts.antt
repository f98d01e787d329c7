-- Cutting messages, and their datagrams one after another.
use Rattle.std.proofs.Common.{◌≡◌, ℕ, ◌+◌, ◌-◌, inl, inr, List, [], ◌∷◌, ◌++◌, length, take, drop, refl, sym, ap, ◌∙◌, add-one, append_assoc, length-drop, arith}
use Rattle.std.specs.Prelude.{min}
use Rattle.std.proofs.lemmas.Bool.{cases_lt}
use Rattle.std.proofs.lemmas.List.{take_min, append-nil}
use Rattle.std.proofs.Math.ListN.{drop_of_length-le}
use Rattle.circus_segment.specs.Segment.{spelling}
use Rattle.circus_segment.specs.Cut.{Outgoing, segment_of, first_datagrams}

clamped_drop : (m : List ℕ) (a : ℕ) → drop (min (length m) a) m ≡ drop a m
clamped_drop m a = elim (cases_lt a (length m)) [
  | inl below ↦ (let e : min (length m) a ≡ a = omega arith in ap (λ k. drop k m) e)
  | inr past ↦ drop_of_length-le m (omega arith) ∙ sym (drop_of_length-le m past)
]

clamped : (m : List ℕ) (a n : ℕ) → take (min (length m) (min (length m) a + n) - min (length m) a) (drop (min (length m) a) m) ≡ take n (drop a m)
clamped m a n =
    let rest : List ℕ = drop (min (length m) a) m in
    let len : length rest ≡ length m - min (length m) a = length-drop (min (length m) a) m in
    let cut : min (length m) (min (length m) a + n) - min (length m) a ≡ min n (length rest) = omega (arith, len) in
    ap (λ k. take k rest) cut ∙ take_min n rest ∙ ap (take n) (clamped_drop m a)

-- a part between bounds that are cut at the end
pub clamped_part : (m : List ℕ) (a n start end : ℕ) → start ≡ min (length m) a → end ≡ min (length m) (start + n) → take (end - start) (drop start m) ≡ take n (drop a m)
clamped_part m a n start end s e = rw (e, s) (clamped m a n)

-- one datagram more
one_more : (m : Outgoing) (n : ℕ) → first_datagrams m (n + 1) ≡ first_datagrams m n ++ spelling (segment_of m 0 (n + 1)) ∷ []
unfolding first_datagrams
one_more m n = rw add-one refl

pub none_yet : (m : Outgoing) (sent : List (List ℕ)) → sent ≡ sent ++ first_datagrams m 0
unfolding first_datagrams
none_yet m sent = sym (append-nil sent)

pub sent_more : (m : Outgoing) (sent old new : List (List ℕ)) (bytes : List ℕ) (n : ℕ) → old ≡ sent ++ first_datagrams m n → bytes ≡ spelling (segment_of m 0 (n + 1)) → new ≡ old ++ bytes ∷ [] → new ≡ sent ++ first_datagrams m (n + 1)
sent_more m sent old new bytes n before is after =
    after ∙ ap (λ d. d ++ bytes ∷ []) before ∙ ap (λ b. (sent ++ first_datagrams m n) ++ b ∷ []) is
    ∙ append_assoc sent (first_datagrams m n) (spelling (segment_of m 0 (n + 1)) ∷ []) ∙ ap (λ d. sent ++ d) (sym (one_more m n))
