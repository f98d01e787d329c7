-- What was handed over and taken stays so.
use Rattle.std.proofs.Common.{◌≡◌, ℕ, zero, suc, ◌+◌, ◌≤◌, Bool, true, false, cond, ◌&&◌, eqb, List, ◌∷◌, Option, None, Some, refl, sym, subst, inl, inr, arith, eq-eqb}
use Rattle.std.specs.Prelude.{is_some}
use Rattle.std.proofs.lemmas.Bool.{eqb-true}
use Rattle.std.proofs.lemmas.Bool.Decides.{eqb_tells}
use Rattle.circus_exchange.specs.declared.exchange.Exchange.{Exchange}
use Rattle.circus_segment.specs.Segment.{Piece, has_data}
use Rattle.circus_exchange.specs.Inbox.{front}
use Rattle.circus_exchange.specs.Exchange.{takes}
use Rattle.circus_pair.specs.Taken.{is_of, first_of, total_in, first_part, data_in, is_there, count_in, is_reached, has_arrived}
use Rattle.circus_pair.specs.Acts.{Act, Call, Return, Came, Acts, more, with_taken}
use Rattle.circus_pair.specs.Handed.{calls_made, call_at, return_at}
use Rattle.circus_pair.specs.TwoEnds.{handed_over}
use Rattle.circus_pair.proofs.Handing.{Hands}

-- ---- the front

within : (b : Bool) (x y n : ℕ) → x ≤ n → y ≤ n → cond b x y ≤ n
within true x y n f g = f
within false x y n f g = g

above : (b : Bool) (x y n : ℕ) → n ≤ x → n ≤ y → n ≤ cond b x y
above true x y n f g = f
above false x y n f g = g

pub front_le : (f : ℕ → Bool) (m : ℕ) → front f m ≤ m
front_le f zero = omega arith
front_le f (suc m) = (let before : front f m ≤ m = front_le f m in within (eqb (front f m) m && f (suc m)) (suc m) (front f m) (suc m) (omega arith) (omega arith))

both_whole : (p q : Bool) (a b m : ℕ) → a ≤ b → b ≤ m → (p ≡ true → q ≡ true) → cond p (suc m) a ≤ cond q (suc m) b
both_whole true q a b m le most h = rw (h refl) (omega arith)
both_whole false q a b m le most h = above q (suc m) b a (omega arith) le

front_step : (p q : Bool) (a b m : ℕ) → a ≤ b → a ≤ m → b ≤ m → (p ≡ true → q ≡ true) → cond (eqb a m && p) (suc m) a ≤ cond (eqb b m && q) (suc m) b
front_step p q a b m le low most h = elim (eqb_tells a m) [
  | inl same ↦ (let at : a ≡ m = same.1 in let here : eqb b m ≡ true = eq-eqb b m (omega arith) in rw (same.0, here) (both_whole p q a b m le most h))
  | inr differ ↦ rw differ.0 (above (eqb b m && q) (suc m) b a (omega arith) le)
]

front_grows : (f g : ℕ → Bool) (m : ℕ) → ((k : ℕ) → f k ≡ true → g k ≡ true) → front f m ≤ front g m
front_grows f g zero h = omega arith
front_grows f g (suc m) h = front_step (f (suc m)) (g (suc m)) (front f m) (front g m) m (front_grows f g m h) (front_le f m) (front_le g m) (h (suc m))

-- ---- what stays when acts and taken segments are added

pub record Grows (first : ℕ) (acts more_acts : Acts) (ts more_ts : List Piece) : Type 0 where
  pub handed : (kind call : ℕ) (m : List ℕ) → handed_over first acts kind call ≡ Some m → handed_over first more_acts kind call ≡ Some m
  pub totals : (kind call total : ℕ) → total_in ts kind call ≡ Some total → total_in more_ts kind call ≡ Some total
  pub counts : (kind call total : ℕ) → count_in ts kind call total ≤ count_in more_ts kind call total

pub count_le : (ts : List Piece) (kind call total : ℕ) → count_in ts kind call total ≤ total
unfolding count_in
count_le ts kind call total = front_le (is_there ts kind call) total

reached_grows : (o p : Option ℕ) (c d : ℕ → ℕ) → ((t : ℕ) → o ≡ Some t → p ≡ Some t) → ((t : ℕ) → c t ≤ d t) → ((t : ℕ) → d t ≤ t) → is_reached o c ≡ true → is_reached p d ≡ true
reached_grows None p c d same le most h = absurd cc
reached_grows (Some t) p c d same le most h =
    let whole : c t ≡ t = eqb-true (c t) t h in let low : c t ≤ d t = le t in let high : d t ≤ t = most t in
    subst (λ o. is_reached o d ≡ true) (sym (same t refl)) (eq-eqb (d t) t (omega arith))

-- a message that has arrived has arrived later on
pub arrived_grows : (first : ℕ) (acts more_acts : Acts) (ts more_ts : List Piece) → Grows first acts more_acts ts more_ts → (kind call : ℕ) → has_arrived ts kind call ≡ true → has_arrived more_ts kind call ≡ true
unfolding has_arrived
arrived_grows first acts more_acts ts more_ts grows kind call h =
    reached_grows (total_in ts kind call) (total_in more_ts kind call) (count_in ts kind call) (count_in more_ts kind call) (grows.totals kind call) (grows.counts kind call) (count_le more_ts kind call) h

-- ---- one segment more

first_stays : (o : Option ℕ) (b : Bool) (x t : ℕ) → o ≡ Some t → first_of o b x ≡ Some t
first_stays None b x t h = absurd cc
first_stays (Some y) b x t h = h

total_stays : (s : Piece) (ts : List Piece) (kind call t : ℕ) → total_in ts kind call ≡ Some t → total_in (s ∷ ts) kind call ≡ Some t
unfolding total_in
total_stays s ts kind call t h = first_stays (total_in ts kind call) (is_of kind call s) s.total t h

part_stays : (o : Option (List ℕ)) (b : Bool) (x : List ℕ) → is_some o ≡ true → is_some (first_part o b x) ≡ true
part_stays None b x h = absurd cc
part_stays (Some y) b x h = refl

count_stays : (s : Piece) (ts : List Piece) (kind call total : ℕ) → count_in ts kind call total ≤ count_in (s ∷ ts) kind call total
unfolding count_in is_there data_in
count_stays s ts kind call total = front_grows _ _ total (λ k h. part_stays (data_in ts kind call k) (is_of kind call s && (has_data s && eqb s.number k)) s.part h)

totals_stay : (b : Bool) (s : Piece) (ts : List Piece) (kind call t : ℕ) → total_in ts kind call ≡ Some t → total_in (cond b (s ∷ ts) ts) kind call ≡ Some t
totals_stay true s ts kind call t h = total_stays s ts kind call t h
totals_stay false s ts kind call t h = h

counts_stay : (b : Bool) (s : Piece) (ts : List Piece) (kind call total : ℕ) → count_in ts kind call total ≤ count_in (cond b (s ∷ ts) ts) kind call total
counts_stay true s ts kind call total = count_stays s ts kind call total
counts_stay false s ts kind call total = omega arith

-- ---- one act more

either_kind : (b : Bool) (x y v w : Option (List ℕ)) (m : List ℕ) → (x ≡ Some m → v ≡ Some m) → (y ≡ Some m → w ≡ Some m) → cond b x y ≡ Some m → cond b v w ≡ Some m
either_kind true x y v w m f g h = f h
either_kind false x y v w m f g h = g h

message_stays : (b : Bool) (message : List ℕ) (o : Option (List ℕ)) (m : List ℕ) → (b ≡ true → o ≡ None) → o ≡ Some m → cond b (Some message) o ≡ Some m
message_stays true message o m none h = (let n : o ≡ None = none refl in absurd cc)
message_stays false message o m none h = h

-- the return of an act is the first one to its call
abbrev pub IsFirst : Acts → Act → Type 0
IsFirst acts (Return call message) = return_at acts call ≡ None
IsFirst acts act = Unit {0}

still : (first : ℕ) (acts more_acts : Acts) (ts : List Piece) → ((kind call : ℕ) (m : List ℕ) → handed_over first acts kind call ≡ Some m → handed_over first more_acts kind call ≡ Some m) → Grows first acts more_acts ts ts
still first acts more_acts ts handed = record { handed = handed; totals = λ kind call t h. h; counts = λ kind call t. omega arith }

pub grows_act : (first : ℕ) (acts : Acts) (ts : List Piece) (e : Exchange) (act : Act) → Hands first acts ts e → IsFirst acts act → Grows first acts (more acts act) ts (with_taken e act ts)
unfolding call_at return_at
grows_act first acts ts e (Call message) hands once = still first acts _ ts (λ kind call m h.
    either_kind (eqb kind 0) _ _ _ _ m
    (message_stays (eqb call (first + calls_made acts)) message (call_at first acts call) m (λ same. (let at : call ≡ first + calls_made acts = eqb-true call (first + calls_made acts) same in let n : e.next ≡ first + calls_made acts = hands.next in hands.later call (omega arith))))
    (λ is. is) h)
grows_act first acts ts e (Return returned message) hands once = still first acts _ ts (λ kind call m h.
    either_kind (eqb kind 0) _ _ _ _ m (λ is. is)
    (message_stays (eqb call returned) message (return_at acts call) m (λ same. subst (λ q. return_at acts q ≡ None) (sym (eqb-true call returned same)) once)) h)
grows_act first acts ts e (Came s) hands once = record {
  handed = λ kind call m h. either_kind (eqb kind 0) _ _ _ _ m (λ is. is) (λ is. is) h;
  totals = totals_stay (takes e s) s ts;
  counts = counts_stay (takes e s) s ts;
}
grows_act first acts ts e act hands once = still first acts _ ts (λ kind call m h. either_kind (eqb kind 0) _ _ _ _ m (λ is. is) (λ is. is) h)
