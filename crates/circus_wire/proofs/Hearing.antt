-- What arrives by a segment, and which purposes are kept then.
use Rattle.std.proofs.Common.{◌≡◌, ℕ, ◌+◌, Bool, true, false, cond, not, ◌&&◌, eqb, List, ◌∷◌, Option, None, refl, sym, ap, subst, ◌∙◌, inl, inr, arith}
use Rattle.std.specs.Cmp.{nat_cmp_total}
use Rattle.std.specs.Ordering.{nat_cmp}
use Rattle.std.specs.FinMap.{FinMap, get, remove, get-remove}
use Rattle.std.proofs.lemmas.Bool.{eqb-true}
use Rattle.std.proofs.lemmas.Bool.Decides.{eqb_tells}
use Rattle.circus_segment.specs.Segment.{Piece, IsSegment, is_acknowledgement}
use Rattle.circus_exchange.specs.declared.taken.Arrived.{Arrived}
use Rattle.circus_exchange.specs.declared.taken.Arrived.TheVariants.{Nothing, ArrivedCall, ArrivedReturn}
use Rattle.circus_exchange.specs.Exchange.{start, takes, arrived_after}
use Rattle.circus_exchange.proofs.Ties.{nat_ties}
use Rattle.circus_pair.specs.Taken.{is_of, has_arrived, message_in}
use Rattle.circus_pair.specs.Acts.{Came, Acts, more, end_after, taken_by, arrives_by, arrival_by}
use Rattle.circus_pair.specs.Handed.{calls_made, call_at}
use Rattle.circus_pair.specs.Lawful.{AreLawful}
use Rattle.circus_pair.specs.Sending.{takes_after}
use Rattle.circus_pair.specs.Standing.{arrival_after}
use Rattle.circus_pair.proofs.Arrivals.{arrived_other}
use Rattle.circus_pair.proofs.Dialogue.{both_true, not_true, no_arrival, dropped}
use Rattle.circus_pair.proofs.Keeping.{stands_lawful, hands_lawful, kept_after, none_arrived}
use Rattle.circus_pair.proofs.OneEnd.{arrived_stays}
use Rattle.circus_pair.proofs.Outputs.{taken_is}
use Rattle.circus_pair.proofs.Standing.{arrival_is}
use Rattle.circus_pair.proofs.Taking.{return_is}
use Rattle.circus_wire.specs.Wire.{drop_purpose, hear_arrival, told_return}

-- the return to a call that was not made has not arrived
pub unmade_unreturned : (first format : ℕ) (acts : Acts) (call : ℕ) → AreLawful first format acts → call_at first acts call ≡ None → has_arrived (taken_by (start first format) acts) 1 call ≡ false
unmade_unreturned first format acts call lawful none =
    none_arrived (taken_by (start first format) acts) call ((kept_after first format acts lawful).no_call call none)

-- nor has that to the next one
pub next_unreturned : (first format : ℕ) (acts : Acts) (call : ℕ) → AreLawful first format acts → call ≡ first + calls_made acts → has_arrived (taken_by (start first format) acts) 1 call ≡ false
next_unreturned first format acts call lawful at =
    let hands = hands_lawful first format acts lawful in
    let next : (end_after (start first format) acts).next ≡ first + calls_made acts = hands.next in
    unmade_unreturned first format acts call lawful (hands.later call (omega arith))

other_kind : (s : Piece) (n : ℕ) → eqb s.kind 0 ≡ true → is_of 1 n s ≡ false
other_kind s n call = (let kind : s.kind ≡ 0 = eqb-true s.kind 0 call in ap (λ k. eqb k 1 && (eqb s.call n && not (is_acknowledgement s))) kind)

other_call : (s : Piece) (n : ℕ) → eqb n s.call ≡ false → is_of 1 n s ≡ false
other_call s n differ = not_here (eqb s.kind 1) (eqb s.call n) (not (is_acknowledgement s)) (turned n s.call differ)
  where
    turned : (a b : ℕ) → eqb a b ≡ false → eqb b a ≡ false
    turned a b h = grind arith

    not_here : (a b c : Bool) → b ≡ false → (a && (b && c)) ≡ false
    not_here true true c h = absurd cc
    not_here true false c h = refl
    not_here false b c h = refl

module _ {P : Type 0} where
  same_purpose : (o : Option P) (a b : Bool) → a ≡ b → cond a None o ≡ cond b None o
  same_purpose o a b e = ap (λ x. cond x None o) e

  -- after a segment that was taken
  taken_purposes : (s : Piece) (ts : List Piece) (kept : FinMap nat_cmp P) (o : ℕ → Option P) → IsSegment s → (has_arrived ts s.kind s.call ≡ true → has_arrived (s ∷ ts) s.kind s.call ≡ true) → ((n : ℕ) → get kept n ≡ cond (has_arrived ts 1 n) None (o n)) → (n : ℕ) → get (drop_purpose (arrival_by ts s) kept) n ≡ cond (has_arrived (s ∷ ts) 1 n) None (o n)
  taken_purposes s ts kept o segment up given n =
      let m = message_in (s ∷ ts) s.kind s.call s.total in
      let wanted : Option P = cond (has_arrived (s ∷ ts) 1 n) None (o n) in
      elim (arrives_by ts s) as (λ b. arrives_by ts s ≡ b → get (drop_purpose (cond b (cond (eqb s.kind 0) (ArrivedCall s.call m) (ArrivedReturn s.call m)) Nothing) kept) n ≡ wanted) [
        | false ↦ λ none. given n ∙ same_purpose (o n) _ _ (no_arrival s ts up none 1 n)
        | true ↦ λ whole. elim (eqb s.kind 0) as (λ k. eqb s.kind 0 ≡ k → get (drop_purpose (cond k (ArrivedCall s.call m) (ArrivedReturn s.call m)) kept) n ≡ wanted) [
          | true ↦ λ call. given n ∙ same_purpose (o n) _ _ (sym (arrived_other s ts 1 n (other_kind s n call)))
          | false ↦ λ return_. returned whole return_
        ] refl
      ] refl
    where
      returned : arrives_by ts s ≡ true → eqb s.kind 0 ≡ false → get (remove kept s.call) n ≡ cond (has_arrived (s ∷ ts) 1 n) None (o n)
      returned whole return_ =
          let one : s.kind ≡ 1 = return_is s segment return_ in
          let now : has_arrived (s ∷ ts) s.kind s.call ≡ true = (both_true (has_arrived (s ∷ ts) s.kind s.call) _ (both_true (not (is_acknowledgement s)) _ whole).1).0 in
          get-remove nat_cmp_total kept s.call n
          ∙ ap (λ b. cond b None (get kept n)) (nat_ties n s.call)
          ∙ elim (eqb_tells n s.call) [
            | inl same ↦ ap (λ b. cond b None (get kept n)) same.0
                ∙ same_purpose (o n) true _ (sym (subst (λ k. has_arrived (s ∷ ts) k n ≡ true) one (subst (λ q. has_arrived (s ∷ ts) s.kind q ≡ true) (sym same.1) now)))
            | inr differ ↦ ap (λ b. cond b None (get kept n)) differ.0
                ∙ given n
                ∙ same_purpose (o n) _ _ (sym (arrived_other s ts 1 n (other_call s n differ.0)))
          ]

  -- the purposes that are kept after a segment came are those of calls whose return has not arrived
  pub came_purposes : (first format : ℕ) (acts : Acts) (s : Piece) (kept : FinMap nat_cmp P) (o : ℕ → Option P) → AreLawful first format (more acts (Came s)) → ((n : ℕ) → get kept n ≡ cond (has_arrived (taken_by (start first format) acts) 1 n) None (o n)) → (n : ℕ) → get (drop_purpose (arrived_after (end_after (start first format) acts) s) kept) n ≡ cond (has_arrived (taken_by (start first format) (more acts (Came s))) 1 n) None (o n)
  came_purposes first format acts s kept o lawful given n =
      let e = end_after (start first format) acts in
      let ts = taken_by (start first format) acts in
      elim (takes e s) as (λ b. takes e s ≡ b → (has_arrived ts s.kind s.call ≡ true → has_arrived (cond b (s ∷ ts) ts) s.kind s.call ≡ true) → get (drop_purpose (arrived_after e s) kept) n ≡ cond (has_arrived (cond b (s ∷ ts) ts) 1 n) None (o n)) [
        | true ↦ λ h up. ap (λ a. get (drop_purpose a kept) n) (arrival_is ts e s (stands_lawful first format acts lawful.0) lawful.1 h) ∙ taken_purposes s ts kept o lawful.1 up given n
        | false ↦ λ h up. ap (λ a. get (drop_purpose a kept) n) (dropped e s h) ∙ given n
      ] refl (arrived_stays first format acts (Came s) s.kind s.call lawful)

  -- ---- what is told of it

  same_told : (n : ℕ) (m : List ℕ) (x y : Option P) → x ≡ y → told_return n m x ≡ told_return n m y
  same_told n m x y e = ap (told_return n m) e

  pub told_alike : (f g : ℕ → Option P) (node : ℕ) (arrived : Arrived) → ((n : ℕ) (m : List ℕ) → arrived ≡ ArrivedReturn n m → f n ≡ g n) → hear_arrival f node arrived ≡ hear_arrival g node arrived
  told_alike f g node Nothing h = refl
  told_alike f g node (ArrivedCall n m) h = refl
  told_alike f g node (ArrivedReturn n m) h = same_told n m (f n) (g n) (h n m refl)

came_return : (a k : Bool) (q n : ℕ) (x m : List ℕ) → cond a (cond k (ArrivedCall q x) (ArrivedReturn q x)) Nothing ≡ ArrivedReturn n m → (a ≡ true) × (k ≡ false) × (q ≡ n)
came_return true true q n x m h = absurd cc
came_return true false q n x m h = (refl, refl, cc)
came_return false k q n x m h = absurd cc

taken_return : (t : Bool) (a : Arrived) (n : ℕ) (m : List ℕ) → cond t a Nothing ≡ ArrivedReturn n m → (t ≡ true) × (a ≡ ArrivedReturn n m)
taken_return true a n m h = (refl, h)
taken_return false a n m h = absurd cc

-- a return that arrives had not arrived before
pub unreturned_before : (first format : ℕ) (acts : Acts) (s : Piece) (n : ℕ) (m : List ℕ) → IsSegment s → arrival_after (start first format) acts s ≡ ArrivedReturn n m → has_arrived (taken_by (start first format) acts) 1 n ≡ false
unreturned_before first format acts s n m segment h =
    let e = start first format in
    let ts = taken_by e acts in
    let parts = came_return (arrives_by ts s) (eqb s.kind 0) s.call n (message_in (s ∷ ts) s.kind s.call s.total) m (taken_return (takes_after e acts s) (arrival_by ts s) n m h).1 in
    let whole = both_true (has_arrived (s ∷ ts) s.kind s.call) _ (both_true (not (is_acknowledgement s)) _ parts.0).1 in
    subst (λ q. has_arrived ts 1 q ≡ false) parts.2 (subst (λ k. has_arrived ts k s.call ≡ false) (return_is s segment parts.1) (not_true _ whole.1))

-- and has then
pub returned_now : (first format : ℕ) (acts : Acts) (s : Piece) (n : ℕ) (m : List ℕ) → AreLawful first format acts → IsSegment s → arrival_after (start first format) acts s ≡ ArrivedReturn n m → has_arrived (taken_by (start first format) (more acts (Came s))) 1 n ≡ true
returned_now first format acts s n m lawful segment h =
    let e = start first format in
    let ts = taken_by e acts in
    let taken = taken_return (takes_after e acts s) (arrival_by ts s) n m h in
    let parts = came_return (arrives_by ts s) (eqb s.kind 0) s.call n (message_in (s ∷ ts) s.kind s.call s.total) m taken.1 in
    let whole = both_true (has_arrived (s ∷ ts) s.kind s.call) _ (both_true (not (is_acknowledgement s)) _ parts.0).1 in
    ap (λ b. has_arrived (cond b (s ∷ ts) ts) 1 n) (taken_is first format acts s lawful segment ∙ taken.0)
    ∙ subst (λ q. has_arrived (s ∷ ts) 1 q ≡ true) parts.2 (subst (λ k. has_arrived (s ∷ ts) k s.call ≡ true) (return_is s segment parts.1) whole.0)
