-- A message that is cut joins to itself.
use Rattle.std.proofs.Common.{◌≡◌, ℕ, zero, suc, ◌+◌, ◌-◌, ◌*◌, ◌≤◌, Bool, true, false, ◌&&◌, eqb, List, [], ◌∷◌, ◌++◌, length, take, drop, Option, None, Some, refl, sym, ap, subst, ◌∙◌, arith}
use Rattle.std.specs.Prelude.{unwrap_or, is_some}
use Rattle.std.proofs.lemmas.Bool.{eqb-true}
use Rattle.circus_segment.specs.Segment.{Piece, has_data}
use Rattle.circus_segment.specs.Cut.{segment_count, part_at}
use Rattle.circus_exchange.specs.Inbox.{front, data_up_to}
use Rattle.circus_pair.specs.Taken.{is_of, first_of, total_in, first_part, data_in, is_there, count_in, is_reached, has_arrived, message_in, AreTaken, AreOf}
use Rattle.circus_pair.proofs.Arrivals.{front_passes}

take_none : (k : ℕ) → ◌≡◌ {A = List ℕ} (take k []) []
take_none zero = refl
take_none (suc k) = refl

-- a front, and what stands behind it
take_more : (n k : ℕ) (xs : List ℕ) → take n xs ++ take k (drop n xs) ≡ take (n + k) xs
take_more zero k xs = (let e : 0 + k ≡ k = omega arith in ap (λ m. take m xs) (sym e))
take_more (suc n) k [] = take_none k ∙ sym (take_none (suc n + k))
take_more (suc n) k (x ∷ xs) = (let e : suc n + k ≡ suc (n + k) = omega arith in ap (λ r. x ∷ r) (take_more n k xs) ∙ ap (λ m. take m (x ∷ xs)) (sym e))

joined_front : (message : List ℕ) (n : ℕ) → data_up_to (part_at message) n ≡ take (1024 * n) message
unfolding part_at
joined_front message zero = refl
joined_front message (suc n) =
    let before : 1024 * (suc n - 1) ≡ 1024 * n = omega arith in
    let after : 1024 * n + 1024 ≡ 1024 * suc n = omega arith in
    ap (λ d. d ++ take 1024 (drop (1024 * (suc n - 1)) message)) (joined_front message n)
    ∙ ap (λ k. take (1024 * n) message ++ take 1024 (drop k message)) before
    ∙ take_more (1024 * n) 1024 message
    ∙ ap (λ k. take k message) after

take_all : (n : ℕ) (xs : List ℕ) → length xs ≤ n → take n xs ≡ xs
take_all zero [] h = refl
take_all (suc n) [] h = refl
take_all zero (x ∷ xs) h = absurd (omega arith)
take_all (suc n) (x ∷ xs) h = ap (λ r. x ∷ r) (take_all n xs (omega arith))

-- the segments of a message join to it
pub parts_join : (message : List ℕ) → data_up_to (part_at message) (segment_count message) ≡ message
parts_join message = joined_front message (segment_count message) ∙ take_all (1024 * segment_count message) message (omega arith)

-- ---- where all segments are those of one message

total_cases : (o : Option ℕ) (b : Bool) (x n total : ℕ) → (o ≡ Some total → total ≡ n) → (b ≡ true → x ≡ n) → first_of o b x ≡ Some total → total ≡ n
total_cases None true x n total h k e = (let same : x ≡ total = cc in sym same ∙ k refl)
total_cases None false x n total h k e = absurd cc
total_cases (Some t) b x n total h k e = h e

total_of_sent : (ts : List Piece) (kind call total : ℕ) (message : List ℕ) → AreOf kind call message ts → total_in ts kind call ≡ Some total → total ≡ segment_count message
unfolding total_in
total_of_sent [] kind call total message of_it e = absurd cc
total_of_sent (s ∷ ts) kind call total message of_it e =
    total_cases (total_in ts kind call) (is_of kind call s) s.total (segment_count message) total
    (total_of_sent ts kind call total message of_it.1) (λ h. (of_it.0 h).total) e

both_true : (a b : Bool) → (a && b) ≡ true → (a ≡ true) × (b ≡ true)
both_true true b h = (refl, h)
both_true false b h = absurd cc

part_cases : (o : Option (List ℕ)) (b : Bool) (x part want : List ℕ) → (o ≡ Some part → part ≡ want) → (b ≡ true → x ≡ want) → first_part o b x ≡ Some part → part ≡ want
part_cases None true x part want h k e = (let same : x ≡ part = cc in sym same ∙ k refl)
part_cases None false x part want h k e = absurd cc
part_cases (Some p) b x part want h k e = h e

data_of_sent : (ts : List Piece) (kind call number : ℕ) (message part : List ℕ) → AreOf kind call message ts → data_in ts kind call number ≡ Some part → part ≡ part_at message number
unfolding data_in
data_of_sent [] kind call number message part of_it e = absurd cc
data_of_sent (s ∷ ts) kind call number message part of_it e =
    part_cases (data_in ts kind call number) (is_of kind call s && (has_data s && eqb s.number number)) s.part part (part_at message number)
    (data_of_sent ts kind call number message part of_it.1)
    (λ h. let outer = both_true (is_of kind call s) _ h in let inner = both_true (has_data s) _ outer.1 in
    (of_it.0 outer.0).part inner.0 ∙ ap (part_at message) (eqb-true s.number number inner.1))
    e

present : (o : Option (List ℕ)) (want : List ℕ) → ((part : List ℕ) → o ≡ Some part → part ≡ want) → is_some o ≡ true → unwrap_or o [] ≡ want
present None want h e = absurd cc
present (Some p) want h e = h p refl

joined_alike : (f g : ℕ → List ℕ) (m : ℕ) → ((k : ℕ) → 1 ≤ k → k ≤ m → f k ≡ g k) → data_up_to f m ≡ data_up_to g m
joined_alike f g zero h = refl
joined_alike f g (suc m) h =
    let here : f (suc m) ≡ g (suc m) = h (suc m) (omega arith) (omega arith) in
    ap (λ d. d ++ f (suc m)) (joined_alike f g m (λ k one le. h k one (omega arith))) ∙ ap (λ d. data_up_to g m ++ d) here

reached_total : (o : Option ℕ) (c : ℕ → ℕ) (n : ℕ) → ((t : ℕ) → o ≡ Some t → t ≡ n) → is_reached o c ≡ true → (o ≡ Some n) × (c n ≡ n)
reached_total None c n h e = absurd cc
reached_total (Some t) c n h e = (let same : t ≡ n = h t refl in (ap (λ (k : ℕ). Some k) same, subst (λ k. c k ≡ k) same (eqb-true (c t) t e)))

-- a message arrives as it was sent
pub arrives_as_sent : (ts : List Piece) (kind call : ℕ) (message : List ℕ) → AreTaken ts → AreOf kind call message ts → has_arrived ts kind call ≡ true → (total_in ts kind call ≡ Some (segment_count message)) × (message_in ts kind call (segment_count message) ≡ message)
unfolding has_arrived count_in is_there message_in
arrives_as_sent ts kind call message taken of_it arrived =
    let n = segment_count message in
    let reached = reached_total (total_in ts kind call) (count_in ts kind call) n (λ t e. total_of_sent ts kind call t message of_it e) arrived in (
      reached.0,
      joined_alike _ (part_at message) n (λ k one le. present (data_in ts kind call k) (part_at message k) (λ part e. data_of_sent ts kind call k message part of_it e)
          (front_passes (λ j. is_some (data_in ts kind call j)) n k one (let whole : front (λ j. is_some (data_in ts kind call j)) n ≡ n = reached.1 in omega arith)))
          ∙ parts_join message,
    )
