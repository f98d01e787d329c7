-- How many segments of a message are there without a gap, and what is joined.
use Rattle.std.proofs.Common.{◌≡◌, ◌≢◌, ℕ, zero, suc, ◌+◌, ◌≤◌, ◌⊎◌, inl, inr, Bool, true, false, cond, not, ◌&&◌, ◌||◌, eqb, Option, None, List, [], ◌++◌, refl, sym, ap, subst, ◌∙◌, add-one, arith}
use Rattle.std.proofs.lemmas.Bool.{cases_lt, eq-eqb, ne_eqb}
use Rattle.std.specs.Prelude.{nat_le, is_some, unwrap_or}
use Rattle.std.specs.Ordering.{nat_cmp}
use Rattle.std.specs.Cmp.{nat_cmp_total}
use Rattle.std.specs.FinMap.{FinMap, get, insert, remove, nat_cmp-IsAntisymmetric}
use Rattle.circus_exchange.specs.declared.progress.Progress.{Progress}
use Rattle.circus_segment.specs.Segment.{Piece, has_data}
use Rattle.circus_exchange.proofs.Finite.{put_back}
use Rattle.circus_exchange.specs.Inbox.{Arriving, part_of, with_part, is_there, front, progress_so_far, has, is_new, has_with, count_with, completes, data_with, data_up_to, parts_with, add_segment}

-- the numbers 1 to a pass
abbrev pub PassTo : (ℕ → Bool) → ℕ → Type 0
PassTo passes a = (k : ℕ) → 1 ≤ k → k ≤ a → passes k ≡ true

-- where all pass, none is missing
pub front_all : (passes : ℕ → Bool) (m : ℕ) → PassTo passes m → front passes m ≡ m
front_all passes zero h = refl
front_all passes (suc m) h =
    let before : front passes m ≡ m = front_all passes m (λ k low high. h k low (omega arith)) in
    let here : passes (suc m) ≡ true = h (suc m) (omega arith) (omega arith) in
    rw (before, here) (grind arith)

last : (b : Bool) (m a : ℕ) → cond (b && false) (suc m) a ≡ a
last true m a = refl
last false m a = refl

front_stays : (passes : ℕ → Bool) (a m : ℕ) → front passes a ≡ a → passes (suc a) ≡ false → a ≤ m → front passes m ≡ a
front_stays passes a zero whole gap le = (let e : a ≡ 0 = omega arith in subst (λ k. front passes k ≡ a) e whole)
front_stays passes a (suc m) whole gap le = elim (cases_lt a (suc m)) [
  | inl below ↦ elim (cases_lt a m) [
    | inl less ↦ (let before : front passes m ≡ a = front_stays passes a m whole gap (omega arith) in let differ : eqb a m ≡ false = ne_eqb a m (λ e. absurd (omega arith)) in rw (before, differ) refl)
    | inr same ↦ (let e : m ≡ a = omega arith in let here : passes (suc m) ≡ false = ap (λ k. passes (suc k)) e ∙ gap in let before : front passes m ≡ a = ap (front passes) e ∙ whole in rw (here, before) (last (eqb a m) m a))
  ]
  | inr end ↦ (let e : a ≡ suc m = omega arith in subst (λ k. front passes k ≡ a) e whole)
]

-- where numbers to a pass, and the next one is past the end or doesn't, a is how many do
pub front_is : (passes : ℕ → Bool) (m a : ℕ) → a ≤ m → PassTo passes a → ((a ≡ m) ⊎ (passes (a + 1) ≡ false)) → front passes m ≡ a
front_is passes m a le h end = elim end [
  | inl e ↦ ap (front passes) (sym e) ∙ front_all passes a h
  | inr gap ↦ front_stays passes a m (front_all passes a h) (rw (← add-one) gap) le
]

new_parts : (full low there : Bool) → (full && not (low || there)) ≡ true → (low ≡ false) × (there ≡ false)
new_parts full low there h = grind arith

-- ---- a segment that comes, of a message of which this much is known

pub is_new_is : (box : Arriving) (s : Piece) (p : Progress) (o : Option (FinMap nat_cmp (List ℕ))) → p ≡ progress_so_far box s → o ≡ get box.parts s.call → (has_data s && not (is_there p o s.number)) ≡ is_new box s
unfolding is_new has
is_new_is box s p o is parts = ap (λ (q : Progress). has_data s && not (is_there q o s.number)) is ∙ ap (λ x. has_data s && not (is_there (progress_so_far box s) x s.number)) parts

pub count_of_new : (box : Arriving) (s : Piece) (p : Progress) (o : Option (FinMap nat_cmp (List ℕ))) → p ≡ progress_so_far box s → o ≡ get box.parts s.call → is_new box s ≡ true → front (λ number. is_there p o number || eqb number s.number) s.total ≡ count_with box s
unfolding count_with has_with has
count_of_new box s p o is parts new =
    ap (λ (q : Progress). front (λ number. is_there q o number || eqb number s.number) s.total) is
    ∙ ap (λ x. front (λ number. is_there (progress_so_far box s) x number || eqb number s.number) s.total) parts
    ∙ sym (ap (λ b. cond b (front (λ number. is_there (progress_so_far box s) (get box.parts s.call) number || eqb number s.number) s.total) (progress_so_far box s).count) new)

pub count_of_old : (box : Arriving) (s : Piece) (p : Progress) → p ≡ progress_so_far box s → is_new box s ≡ false → p.count ≡ count_with box s
unfolding count_with
count_of_old box s p is old = rw old (ap (λ (q : Progress). q.count) is)

pub completes_is : (box : Arriving) (s : Piece) (new : Bool) (count : ℕ) → new ≡ is_new box s → count ≡ count_with box s → (new && eqb count s.total) ≡ completes box s
unfolding completes
completes_is box s new count is counted = ap (λ b. b && eqb count s.total) is ∙ ap (λ n. is_new box s && eqb n s.total) counted

-- with new data a message had less than that number
pub new_low : (p : Progress) (o : Option (FinMap nat_cmp (List ℕ))) (s : Piece) → (has_data s && not (is_there p o s.number)) ≡ true → s.number ≤ s.total → p.count ≤ s.total
new_low p o s new within = (let low : nat_le s.number p.count ≡ false = (new_parts _ _ _ new).0 in grind arith)

-- the numbers up to the count are there
pub there_at_first : (p : Progress) (o : Option (FinMap nat_cmp (List ℕ))) (number : ℕ) → PassTo (λ k. is_there p o k || eqb k number) p.count
there_at_first p o number k one le = grind arith

-- ---- a segment that is added

pub parts_old : (box : Arriving) (s : Piece) → is_new box s ≡ false → parts_with box s ≡ box.parts
unfolding parts_with
parts_old box s old = rw old refl

pub parts_whole : (box : Arriving) (s : Piece) → is_new box s ≡ true → count_with box s ≡ s.total → parts_with box s ≡ remove box.parts s.call
unfolding parts_with
parts_whole box s new whole = rw (new, eq-eqb (count_with box s) s.total whole) refl

pub parts_part : (box : Arriving) (s : Piece) → is_new box s ≡ true → count_with box s ≢ s.total → parts_with box s ≡ with_part box.parts s.call s.number s.part
unfolding parts_with
parts_part box s new open_ = rw (new, ne_eqb (count_with box s) s.total open_) refl

pub added_is : (box : Arriving) (s : Piece) (count : ℕ) (noted : FinMap nat_cmp Progress) (parts : FinMap nat_cmp (FinMap nat_cmp (List ℕ))) → count ≡ count_with box s → noted ≡ insert box.progress s.call (record { total = s.total; count = count }) → parts ≡ parts_with box s → ◌≡◌ {A = Arriving} (record { progress = noted; parts = parts }) (add_segment box s)
unfolding add_segment
added_is box s count noted parts is note part =
    ap (λ (m : FinMap nat_cmp Progress). record { progress = m; parts = parts }) note
    ∙ ap (λ (n : ℕ). record { progress = insert box.progress s.call (record { total = s.total; count = n }); parts = parts }) is
    ∙ ap (λ (m : FinMap nat_cmp (FinMap nat_cmp (List ℕ))). record { progress = insert box.progress s.call (record { total = s.total; count = count_with box s }); parts = m }) part

-- a part that was put and given up again leaves all as it was
pub undone : (parts kept taken : FinMap nat_cmp (FinMap nat_cmp (List ℕ))) (call number : ℕ) (part : List ℕ) → get parts call ≡ None → kept ≡ with_part parts call number part → taken ≡ remove kept call → taken ≡ parts
undone parts kept taken call number part free put out =
    out ∙ ap (λ (m : FinMap nat_cmp (FinMap nat_cmp (List ℕ))). remove m call) put
    ∙ put_back nat_cmp nat_cmp_total nat_cmp-IsAntisymmetric parts call _ (ap is_some free)

-- ---- a message that is joined

pub data_is : (box : Arriving) (s : Piece) (o : Option (FinMap nat_cmp (List ℕ))) (number : ℕ) → o ≡ get box.parts s.call → cond (eqb number s.number) s.part (unwrap_or (part_of o number) []) ≡ data_with box s number
unfolding data_with
data_is box s o number is = ap (λ x. cond (eqb number s.number) s.part (unwrap_or (part_of x number) [])) is

pub joined_more : (f : ℕ → List ℕ) (n : ℕ) (message data_ : List ℕ) → message ≡ data_up_to f n → data_ ≡ f (n + 1) → message ++ data_ ≡ data_up_to f (n + 1)
joined_more f n message data_ before here = rw (before, here, add-one) refl
