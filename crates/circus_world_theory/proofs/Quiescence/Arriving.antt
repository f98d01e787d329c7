-- A message all of whose segments were taken has arrived.
use Rattle.std.proofs.Common.{◌≡◌, ℕ, zero, suc, ◌<◌, ◌≤◌, Bool, true, false, cond, ◌&&◌, eqb, List, [], ◌∷◌, Option, None, Some, refl, sym, ap, subst, ◌∙◌, arith, eq-eqb}
use Rattle.std.specs.Prelude.{is_some, slice_get}
use Rattle.circus_segment.specs.Segment.{Piece, has_data}
use Rattle.circus_segment.specs.Cut.{segment_count}
use Rattle.circus_exchange.specs.Inbox.{front}
use Rattle.circus_pair.specs.Taken.{is_of, first_of, total_in, first_part, data_in, is_there, count_in, is_reached, has_arrived, AreOf}
use Rattle.circus_world_theory.proofs.Quiescence.Joint.{total_of_sent}

-- a segment with that number of a message is among those that were taken
pub record HasPart (ts : List Piece) (kind call number : ℕ) : Type 0 where
  pub piece : Piece
  pub place : ℕ
  pub there : slice_get ts place ≡ Some piece
  pub of_it : is_of kind call piece ≡ true
  pub full : has_data piece ≡ true
  pub number_is : piece.number ≡ number

same_piece : (a b : Piece) → ◌≡◌ {A = Option Piece} (Some a) (Some b) → a ≡ b
same_piece a b h = cc

no_piece : (b : Piece) → ◌≡◌ {A = Option Piece} None (Some b) → ⊥
no_piece b h = cc

part_new : (o : Option (List ℕ)) (b : Bool) (x : List ℕ) → b ≡ true → is_some (first_part o b x) ≡ true
part_new None true x h = refl
part_new None false x h = absurd cc
part_new (Some y) b x h = refl

part_stays : (o : Option (List ℕ)) (b : Bool) (x : List ℕ) → is_some o ≡ true → is_some (first_part o b x) ≡ true
part_stays None b x h = absurd cc
part_stays (Some y) b x h = refl

total_new : (o : Option ℕ) (b : Bool) (x : ℕ) → b ≡ true → is_some (first_of o b x) ≡ true
total_new None true x h = refl
total_new None false x h = absurd cc
total_new (Some y) b x h = refl

total_stays : (o : Option ℕ) (b : Bool) (x : ℕ) → is_some o ≡ true → is_some (first_of o b x) ≡ true
total_stays None b x h = absurd cc
total_stays (Some y) b x h = refl

all_three : (a b c : Bool) → a ≡ true → b ≡ true → c ≡ true → (a && (b && c)) ≡ true
all_three a b c f g h = ap (λ x. x && (b && c)) f ∙ ap (λ x. x && c) g ∙ h

data_there : (ts : List Piece) (place : ℕ) (s : Piece) (kind call : ℕ) → slice_get ts place ≡ Some s → is_of kind call s ≡ true → has_data s ≡ true → is_some (data_in ts kind call s.number) ≡ true
unfolding data_in
data_there [] place s kind call there of_it full = absurd (no_piece s there)
data_there (x ∷ ts) zero s kind call there of_it full =
    let same = same_piece x s there in
    part_new (data_in ts kind call s.number) (is_of kind call x && (has_data x && eqb x.number s.number)) x.part
    (subst (λ y. (is_of kind call y && (has_data y && eqb y.number s.number)) ≡ true) (sym same) (all_three _ _ _ of_it full (eq-eqb s.number s.number refl)))
data_there (x ∷ ts) (suc place) s kind call there of_it full =
    part_stays (data_in ts kind call s.number) (is_of kind call x && (has_data x && eqb x.number s.number)) x.part (data_there ts place s kind call there of_it full)

total_there : (ts : List Piece) (place : ℕ) (s : Piece) (kind call : ℕ) → slice_get ts place ≡ Some s → is_of kind call s ≡ true → is_some (total_in ts kind call) ≡ true
unfolding total_in
total_there [] place s kind call there of_it = absurd (no_piece s there)
total_there (x ∷ ts) zero s kind call there of_it =
    let same = same_piece x s there in
    total_new (total_in ts kind call) (is_of kind call x) x.total (ap (is_of kind call) same ∙ of_it)
total_there (x ∷ ts) (suc place) s kind call there of_it = total_stays (total_in ts kind call) (is_of kind call x) x.total (total_there ts place s kind call there of_it)

-- where all numbers pass, the front is the last
front_all : (f : ℕ → Bool) (m : ℕ) → ((k : ℕ) → 0 < k → k ≤ m → f k ≡ true) → front f m ≡ m
front_all f zero h = refl
front_all f (suc m) h =
    let before = front_all f m (λ k some le. h k some (omega arith)) in
    ap (λ b. cond (b && f (suc m)) (suc m) (front f m)) (eq-eqb (front f m) m before) ∙ ap (λ b. cond b (suc m) (front f m)) (h (suc m) (omega arith) (omega arith))

some_total : (o : Option ℕ) → is_some o ≡ true → (t : ℕ) × (o ≡ Some t)
some_total None h = absurd cc
some_total (Some t) h = (t, refl)

pub all_arrived : (ts : List Piece) (kind call : ℕ) (m : List ℕ) → 0 < segment_count m → AreOf kind call m ts → ((k : ℕ) → 0 < k → k ≤ segment_count m → HasPart ts kind call k) → has_arrived ts kind call ≡ true
unfolding has_arrived count_in is_there
all_arrived ts kind call m some of_it parts =
    let one = parts 1 (omega arith) (omega (arith, some)) in
    let total = some_total (total_in ts kind call) (total_there ts one.place one.piece kind call one.there one.of_it) in
    let count : total.0 ≡ segment_count m = total_of_sent ts kind call total.0 m of_it total.1 in
    let whole : front (λ j. is_some (data_in ts kind call j)) total.0 ≡ total.0 =
    front_all (λ j. is_some (data_in ts kind call j)) total.0 (λ k low high. (
    let part = parts k low (omega (arith, high, count)) in
    subst (λ n. is_some (data_in ts kind call n) ≡ true) part.number_is (data_there ts part.place part.piece kind call part.there part.of_it part.full))) in
    ap (λ o. is_reached o (count_in ts kind call)) total.1 ∙ eq-eqb (front (λ j. is_some (data_in ts kind call j)) total.0) total.0 whole
