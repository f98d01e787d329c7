-- What an inbox keeps is what the segments say that were added to it.
use Rattle.std.proofs.Common.{◌≡◌, ℕ, zero, suc, ◌<◌, ◌≤◌, inl, inr, Bool, true, false, cond, not, ◌&&◌, ◌||◌, eqb, List, [], ◌∷◌, ◌++◌, Option, None, Some, refl, sym, ap, subst, ◌∙◌, arith}
use Rattle.std.specs.Prelude.{is_some, unwrap_or, nat_le}
use Rattle.std.specs.Cmp.{nat_cmp_total}
use Rattle.std.specs.Ordering.{nat_cmp}
use Rattle.std.specs.FinMap.{FinMap, get, empty, insert, remove, get-empty, get-insert, get-remove}
use Rattle.std.proofs.lemmas.Bool.{cases_lt, ne_eqb, eqb-true}
use Rattle.std.proofs.lemmas.Bool.Decides.{eqb_tells}
use Rattle.circus_exchange.specs.declared.progress.Progress.{Progress}
use Rattle.circus_exchange.specs.Inbox.{Arriving}
use Rattle.circus_segment.specs.Segment.{Piece, is_acknowledgement, has_data}
use Rattle.circus_exchange.specs.Inbox.{part_of, with_part, front, data_up_to, progress_so_far, has, is_new, has_with, count_with, completes, data_with, parts_with, add_segment}
use Rattle.circus_pair.specs.Taken.{is_of, first_of, total_in, first_part, data_in, is_there, count_in, is_reached, has_arrived, message_in, IsTotal, MayFollow}
use Rattle.circus_exchange.proofs.Ties.{equal, nat_ties}

-- ---- how far a message has come, on numbers alone

-- numbers up to the front pass
pub front_passes : (passes : ℕ → Bool) (m k : ℕ) → 1 ≤ k → k ≤ front passes m → passes k ≡ true
front_passes passes zero k one le = absurd (omega arith)
front_passes passes (suc m) k one le =
    elim (passes (suc m)) as (λ b. passes (suc m) ≡ b → k ≤ cond (eqb (front passes m) m && b) (suc m) (front passes m) → passes k ≡ true) [
      | true ↦ λ here below. elim (eqb_tells (front passes m) m) [
        | inl whole ↦ (let end : k ≤ suc m = subst (λ b. k ≤ cond (b && true) (suc m) (front passes m)) whole.0 below in
            elim (cases_lt k (suc m)) [
              | inl less ↦ front_passes passes m k one (omega arith)
              | inr last ↦ (let same : k ≡ suc m = omega arith in ap passes same ∙ here)
            ])
        | inr part ↦ (let end : k ≤ front passes m = subst (λ b. k ≤ cond (b && true) (suc m) (front passes m)) part.0 below in front_passes passes m k one end)
      ]
      | false ↦ λ here below. front_passes passes m k one (still (eqb (front passes m) m) _ _ _ below)
    ] refl le
  where
    still : (b : Bool) (a c n : ℕ) → n ≤ cond (b && false) a c → n ≤ c
    still true a c n h = h
    still false a c n h = h

-- what passes alike has the same front
pub front_alike : (f g : ℕ → Bool) (m : ℕ) → ((k : ℕ) → 1 ≤ k → k ≤ m → f k ≡ g k) → front f m ≡ front g m
front_alike f g zero h = refl
front_alike f g (suc m) h =
    let before : front f m ≡ front g m = front_alike f g m (λ k one le. h k one (omega arith)) in
    let here : f (suc m) ≡ g (suc m) = h (suc m) (omega arith) (omega arith) in
    ap (λ (n : ℕ). cond (eqb n m && f (suc m)) (suc m) n) before ∙ ap (λ b. cond (eqb (front g m) m && b) (suc m) (front g m)) here

-- where nothing passes the front is 0
pub front_none : (f : ℕ → Bool) (m : ℕ) → ((k : ℕ) → f k ≡ false) → front f m ≡ 0
front_none f zero h = refl
front_none f (suc m) h = ap (λ b. cond (eqb (front f m) m && b) (suc m) (front f m)) (h (suc m)) ∙ past (eqb (front f m) m) (suc m) (front f m) ∙ front_none f m h
  where
    past : (b : Bool) (a c : ℕ) → cond (b && false) a c ≡ c
    past true a c = refl
    past false a c = refl

-- ---- what one segment more says

first_of_none : (o : Option ℕ) (x : ℕ) → first_of o false x ≡ o
first_of_none None x = refl
first_of_none (Some t) x = refl

first_part_none : (o : Option (List ℕ)) (x : List ℕ) → first_part o false x ≡ o
first_part_none None x = refl
first_part_none (Some p) x = refl

-- a segment of another message says nothing of this one
pub total_other : (s : Piece) (ts : List Piece) (kind call : ℕ) → is_of kind call s ≡ false → total_in (s ∷ ts) kind call ≡ total_in ts kind call
unfolding total_in
total_other s ts kind call other = ap (λ b. first_of (total_in ts kind call) b s.total) other ∙ first_of_none (total_in ts kind call) s.total

data_other : (s : Piece) (ts : List Piece) (kind call number : ℕ) → is_of kind call s ≡ false → data_in (s ∷ ts) kind call number ≡ data_in ts kind call number
unfolding data_in
data_other s ts kind call number other = ap (λ b. first_part (data_in ts kind call number) (b && (has_data s && eqb s.number number)) s.part) other ∙ first_part_none (data_in ts kind call number) s.part

count_other : (s : Piece) (ts : List Piece) (kind call total : ℕ) → is_of kind call s ≡ false → count_in (s ∷ ts) kind call total ≡ count_in ts kind call total
unfolding count_in is_there
count_other s ts kind call total other = front_alike _ _ total (λ k one le. ap is_some (data_other s ts kind call k other))

reached_alike : (o : Option ℕ) (f g : ℕ → ℕ) → ((t : ℕ) → f t ≡ g t) → is_reached o f ≡ is_reached o g
reached_alike None f g h = refl
reached_alike (Some t) f g h = ap (λ n. eqb n t) (h t)

pub arrived_other : (s : Piece) (ts : List Piece) (kind call : ℕ) → is_of kind call s ≡ false → has_arrived (s ∷ ts) kind call ≡ has_arrived ts kind call
unfolding has_arrived
arrived_other s ts kind call other =
    ap (λ o. is_reached o (count_in (s ∷ ts) kind call)) (total_other s ts kind call other)
    ∙ reached_alike (total_in ts kind call) _ _ (λ t. count_other s ts kind call t other)

of_itself : (s : Piece) → is_acknowledgement s ≡ false → is_of s.kind s.call s ≡ true
of_itself s data_segment = rw (equal s.kind, equal s.call, data_segment) refl

total_first : (o : Option ℕ) (t : ℕ) → IsTotal o t → first_of o true t ≡ Some t
total_first None t h = refl
total_first (Some x) t h = ap (λ (n : ℕ). Some n) h

-- a segment's message has its total
pub total_here : (s : Piece) (ts : List Piece) → MayFollow ts s → is_acknowledgement s ≡ false → total_in (s ∷ ts) s.kind s.call ≡ Some s.total
unfolding total_in
total_here s ts may plain = ap (λ b. first_of (total_in ts s.kind s.call) b s.total) (of_itself s plain) ∙ total_first (total_in ts s.kind s.call) s.total (may.total (ap not plain))

no_first : (o : Option ℕ) (b : Bool) (x : ℕ) → first_of o b x ≡ None → (o ≡ None) × (b ≡ false)
no_first None true x h = absurd cc
no_first None false x h = (refl, refl)
no_first (Some t) b x h = absurd cc

-- where no segment came there is no data
no_data : (ts : List Piece) (kind call number : ℕ) → total_in ts kind call ≡ None → data_in ts kind call number ≡ None
unfolding total_in data_in
no_data [] kind call number h = refl
no_data (s ∷ ts) kind call number h =
    let parts = no_first (total_in ts kind call) (is_of kind call s) s.total h in
    ap (λ b. first_part (data_in ts kind call number) (b && (has_data s && eqb s.number number)) s.part) parts.1
    ∙ first_part_none (data_in ts kind call number) s.part ∙ no_data ts kind call number parts.0

none_count : (ts : List Piece) (kind call total : ℕ) → total_in ts kind call ≡ None → count_in ts kind call total ≡ 0
unfolding count_in is_there
none_count ts kind call total h = front_none _ total (λ k. ap is_some (no_data ts kind call k h))

some_first : (o : Option (List ℕ)) (b : Bool) (x : List ℕ) → is_some (first_part o b x) ≡ (is_some o || b)
some_first None true x = refl
some_first None false x = refl
some_first (Some p) b x = refl

-- with a segment one number more may be there
there_more : (s : Piece) (ts : List Piece) (number : ℕ) → is_acknowledgement s ≡ false → is_there (s ∷ ts) s.kind s.call number ≡ (is_there ts s.kind s.call number || (has_data s && eqb s.number number))
unfolding is_there data_in
there_more s ts number plain =
    some_first (data_in ts s.kind s.call number) (is_of s.kind s.call s && (has_data s && eqb s.number number)) s.part
    ∙ ap (λ b. is_some (data_in ts s.kind s.call number) || (b && (has_data s && eqb s.number number))) (of_itself s plain)

-- ---- what an inbox keeps

abbrev pub told : Option ℕ → (ℕ → ℕ) → Option Progress
told None count_to = None
told (Some total) count_to = Some (record { total = total; count = count_to total })

-- of each message its total and its front, and its data while it is not whole
pub record Keeps (kind : ℕ) (ts : List Piece) (box : Arriving) : Type 0 where
  pub progress : (call : ℕ) → get box.progress call ≡ told (total_in ts kind call) (count_in ts kind call)
  pub parts : (call number : ℕ) → part_of (get box.parts call) number ≡ cond (has_arrived ts kind call) None (data_in ts kind call number)

unwrapped : (o : Option ℕ) (c : ℕ → ℕ) (t : ℕ) → IsTotal o t → (o ≡ None → c t ≡ 0) → unwrap_or (told o c) (record { total = t; count = 0 }) ≡ record { total = t; count = c t }
unwrapped None c t h none = ap (λ (n : ℕ). record { total = t; count = n }) (sym (none refl))
unwrapped (Some x) c t h none = ap (λ (n : ℕ). record { total = n; count = c n }) h

pub known_is : (s : Piece) (ts : List Piece) (box : Arriving) → Keeps s.kind ts box → MayFollow ts s → is_acknowledgement s ≡ false → progress_so_far box s ≡ record { total = s.total; count = count_in ts s.kind s.call s.total }
unfolding progress_so_far
known_is s ts box keeps may plain =
    ap (λ o. unwrap_or o (record { total = s.total; count = 0 })) (keeps.progress s.call)
    ∙ unwrapped (total_in ts s.kind s.call) (count_in ts s.kind s.call) s.total (may.total (ap not plain)) (none_count ts s.kind s.call s.total)

whole_count : (o : Option ℕ) (c : ℕ → ℕ) (t : ℕ) → IsTotal o t → is_reached o c ≡ true → c t ≡ t
whole_count None c t h e = absurd cc
whole_count (Some x) c t h e = subst (λ n. c n ≡ n) h (eqb-true (c x) x e)

-- a message that has arrived has its front at its total
pub arrived_count : (s : Piece) (ts : List Piece) → MayFollow ts s → is_acknowledgement s ≡ false → has_arrived ts s.kind s.call ≡ true → count_in ts s.kind s.call s.total ≡ s.total
unfolding has_arrived
arrived_count s ts may plain e = whole_count (total_in ts s.kind s.call) (count_in ts s.kind s.call) s.total (may.total (ap not plain)) e

has_cases : (low arrived : Bool) (o : Option (List ℕ)) → (low ≡ true → is_some o ≡ true) → (arrived ≡ true → low ≡ true) → (low || is_some (cond arrived None o)) ≡ is_some o
has_cases true arrived o there whole = sym (there refl)
has_cases false true o there whole = absurd (let h : false ≡ true = whole refl in cc)
has_cases false false o there whole = refl

-- the data of a number is there in the inbox where it is there among the segments
pub has_is : (s : Piece) (ts : List Piece) (box : Arriving) → Keeps s.kind ts box → MayFollow ts s → is_acknowledgement s ≡ false → (number : ℕ) → 1 ≤ number → number ≤ s.total → has box s number ≡ is_there ts s.kind s.call number
unfolding has is_there count_in
has_is s ts box keeps may plain number one le =
    let count = count_in ts s.kind s.call s.total in
    ap (λ (p : Progress). nat_le number p.count || is_some (part_of (get box.parts s.call) number)) (known_is s ts box keeps may plain)
    ∙ ap (λ o. nat_le number count || is_some o) (keeps.parts s.call number)
    ∙ has_cases (nat_le number count) (has_arrived ts s.kind s.call) (data_in ts s.kind s.call number)
    (λ low. front_passes (is_there ts s.kind s.call) s.total number one (below number count low))
    (λ whole. let all : count ≡ s.total = arrived_count s ts may plain whole in above number count (omega arith))
  where
    below : (a b : ℕ) → nat_le a b ≡ true → a ≤ b
    below a b h = grind arith

    above : (a b : ℕ) → a ≤ b → nat_le a b ≡ true
    above a b h = grind arith

-- a segment is new where it has data that was not there
pub new_is : (s : Piece) (ts : List Piece) (box : Arriving) → Keeps s.kind ts box → MayFollow ts s → is_acknowledgement s ≡ false → is_new box s ≡ (has_data s && not (is_there ts s.kind s.call s.number))
unfolding is_new
new_is s ts box keeps may plain =
    elim (has_data s) as (λ b. has_data s ≡ b → (b && not (has box s s.number)) ≡ (b && not (is_there ts s.kind s.call s.number))) [
      | true ↦ λ full. ap not (has_is s ts box keeps may plain s.number (may.numbered full) may.within)
      | false ↦ λ empty_. refl
    ] refl

same_number : (a b : ℕ) → eqb a b ≡ eqb b a
same_number a b = elim (eqb_tells a b) [
  | inl same ↦ (let h : a ≡ b = same.1 in ap (λ (x : ℕ). eqb x b) h ∙ ap (λ (x : ℕ). eqb b x) (sym h))
  | inr differ ↦ differ.0 ∙ sym (ne_eqb b a (λ e. differ.1 (sym e)))
]

new_cases : (full there : Bool) → (full && not there) ≡ true → (full ≡ true) × (there ≡ false)
new_cases true true h = absurd cc
new_cases true false h = (refl, refl)
new_cases false there h = absurd cc

old_cases : (full here there : Bool) → (full ≡ true → here ≡ true → there ≡ true) → (there || (full && here)) ≡ there
old_cases full here true h = refl
old_cases true true false h = sym (h refl refl)
old_cases true false false h = refl
old_cases false here false h = refl

old_there : (full there : Bool) → (full && not there) ≡ false → full ≡ true → there ≡ true
old_there true true h full = refl
old_there true false h full = absurd cc
old_there false there h full = absurd cc

-- a segment that is not new changes nothing of what is there
there_old : (s : Piece) (ts : List Piece) (number : ℕ) → is_acknowledgement s ≡ false → (has_data s && not (is_there ts s.kind s.call s.number)) ≡ false → is_there (s ∷ ts) s.kind s.call number ≡ is_there ts s.kind s.call number
there_old s ts number plain old =
    there_more s ts number plain
    ∙ old_cases (has_data s) (eqb s.number number) (is_there ts s.kind s.call number) (λ full here.
    let same : s.number ≡ number = eqb-true s.number number here in
    subst (λ n. is_there ts s.kind s.call n ≡ true) same (old_there (has_data s) _ old full))

-- the count is that of all segments
pub count_is : (s : Piece) (ts : List Piece) (box : Arriving) → Keeps s.kind ts box → MayFollow ts s → is_acknowledgement s ≡ false → count_with box s ≡ count_in (s ∷ ts) s.kind s.call s.total
unfolding count_with count_in has_with
count_is s ts box keeps may plain =
    let new = new_is s ts box keeps may plain in
    elim (is_new box s) as (λ b. is_new box s ≡ b → cond b (front (has_with box s) s.total) (progress_so_far box s).count ≡ front (is_there (s ∷ ts) s.kind s.call) s.total) [
      | true ↦ λ yes_. (
          let cases = new_cases (has_data s) _ (sym new ∙ yes_) in
          front_alike _ _ s.total (λ k one le.
          ap (λ b. b || eqb k s.number) (has_is s ts box keeps may plain k one le)
          ∙ ap (λ b. is_there ts s.kind s.call k || b) (same_number k s.number)
          ∙ ap (λ b. is_there ts s.kind s.call k || (b && eqb s.number k)) (sym cases.0)
          ∙ sym (there_more s ts k plain)))
      | false ↦ λ no_. (
          ap (λ (p : Progress). p.count) (known_is s ts box keeps may plain)
          ∙ front_alike _ _ s.total (λ k one le. sym (there_old s ts k plain (sym new ∙ no_))))
    ] refl

arrives_at : (s : Piece) (ts : List Piece) → MayFollow ts s → is_acknowledgement s ≡ false → has_arrived (s ∷ ts) s.kind s.call ≡ eqb (count_in (s ∷ ts) s.kind s.call s.total) s.total
unfolding has_arrived
arrives_at s ts may plain = ap (λ o. is_reached o (count_in (s ∷ ts) s.kind s.call)) (total_here s ts may plain)

not_before : (s : Piece) (ts : List Piece) → MayFollow ts s → is_acknowledgement s ≡ false → has_data s ≡ true → is_there ts s.kind s.call s.number ≡ false → has_arrived ts s.kind s.call ≡ false
unfolding count_in
not_before s ts may plain full absent =
    elim (has_arrived ts s.kind s.call) as (λ b. has_arrived ts s.kind s.call ≡ b → b ≡ false) [
      | true ↦ λ whole. (
          let all : front (is_there ts s.kind s.call) s.total ≡ s.total = arrived_count s ts may plain whole in
          let there : is_there ts s.kind s.call s.number ≡ true = front_passes (is_there ts s.kind s.call) s.total s.number (may.numbered full) (let le : s.number ≤ s.total = may.within in omega arith) in
          absurd (let no_ : false ≡ true = sym absent ∙ there in cc))
      | false ↦ λ part. refl
    ] refl

told_reached : (o : Option ℕ) (c : ℕ → ℕ) (t : ℕ) → IsTotal o t → 0 < t → (o ≡ None → c t ≡ 0) → eqb (c t) t ≡ is_reached o c
told_reached None c t h some none = ne_eqb (c t) t (λ e. let z : c t ≡ 0 = none refl in absurd (omega arith))
told_reached (Some x) c t h some none = ap (λ n. eqb (c n) n) (sym h)

old_arrival : (s : Piece) (ts : List Piece) → MayFollow ts s → is_acknowledgement s ≡ false → (has_data s && not (is_there ts s.kind s.call s.number)) ≡ false → has_arrived (s ∷ ts) s.kind s.call ≡ has_arrived ts s.kind s.call
unfolding has_arrived count_in
old_arrival s ts may plain old =
    arrives_at s ts may plain
    ∙ ap (λ n. eqb n s.total) (front_alike _ _ s.total (λ k one le. there_old s ts k plain old))
    ∙ told_reached (total_in ts s.kind s.call) (count_in ts s.kind s.call) s.total (may.total (ap not plain)) may.some (none_count ts s.kind s.call s.total)

-- what has arrived stays so
pub arrived_stays : (s : Piece) (ts : List Piece) → MayFollow ts s → is_acknowledgement s ≡ false → has_arrived ts s.kind s.call ≡ true → has_arrived (s ∷ ts) s.kind s.call ≡ true
arrived_stays s ts may plain whole =
    elim (has_data s && not (is_there ts s.kind s.call s.number)) as (λ b. (has_data s && not (is_there ts s.kind s.call s.number)) ≡ b → has_arrived (s ∷ ts) s.kind s.call ≡ true) [
      | true ↦ λ new. (let cases = new_cases (has_data s) _ new in absurd (let no_ : true ≡ false = sym whole ∙ not_before s ts may plain cases.0 cases.1 in cc))
      | false ↦ λ old. old_arrival s ts may plain old ∙ whole
    ] refl

apart : (b : Bool) → false ≡ (b && not b)
apart true = refl
apart false = refl

-- a segment completes its message exactly where the message arrives by it
pub completes_is : (s : Piece) (ts : List Piece) (box : Arriving) → Keeps s.kind ts box → MayFollow ts s → is_acknowledgement s ≡ false → completes box s ≡ (has_arrived (s ∷ ts) s.kind s.call && not (has_arrived ts s.kind s.call))
unfolding completes
completes_is s ts box keeps may plain =
    let new = new_is s ts box keeps may plain in
    elim (is_new box s) as (λ b. is_new box s ≡ b → (b && eqb (count_with box s) s.total) ≡ (has_arrived (s ∷ ts) s.kind s.call && not (has_arrived ts s.kind s.call))) [
      | true ↦ λ yes_. (
          let cases = new_cases (has_data s) _ (sym new ∙ yes_) in
          let before : has_arrived ts s.kind s.call ≡ false = not_before s ts may plain cases.0 cases.1 in
          ap (λ n. eqb n s.total) (count_is s ts box keeps may plain) ∙ sym (arrives_at s ts may plain)
          ∙ keep (has_arrived (s ∷ ts) s.kind s.call) ∙ ap (λ b. has_arrived (s ∷ ts) s.kind s.call && not b) (sym before))
      | false ↦ λ no_. apart (has_arrived ts s.kind s.call) ∙ ap (λ b. b && not (has_arrived ts s.kind s.call)) (sym (old_arrival s ts may plain (sym new ∙ no_)))
    ] refl
  where
    keep : (b : Bool) → b ≡ (b && true)
    keep true = refl
    keep false = refl

none_first : (o : Option (List ℕ)) (x : List ℕ) → is_some o ≡ false → first_part o true x ≡ Some x
none_first None x h = refl
none_first (Some p) x h = absurd cc

-- the data of a number with a new segment
data_new : (s : Piece) (ts : List Piece) (number : ℕ) → is_acknowledgement s ≡ false → has_data s ≡ true → is_there ts s.kind s.call s.number ≡ false → data_in (s ∷ ts) s.kind s.call number ≡ cond (eqb number s.number) (Some s.part) (data_in ts s.kind s.call number)
unfolding data_in is_there
data_new s ts number plain full absent =
    ap (λ b. first_part (data_in ts s.kind s.call number) (b && (has_data s && eqb s.number number)) s.part) (of_itself s plain)
    ∙ ap (λ b. first_part (data_in ts s.kind s.call number) (b && eqb s.number number) s.part) full
    ∙ ap (λ b. first_part (data_in ts s.kind s.call number) b s.part) (same_number s.number number)
    ∙ elim (eqb_tells number s.number) [
      | inl same ↦ (let e : number ≡ s.number = same.1 in
          ap (λ b. first_part (data_in ts s.kind s.call number) b s.part) same.0
          ∙ none_first (data_in ts s.kind s.call number) s.part (ap (λ n. is_some (data_in ts s.kind s.call n)) e ∙ absent)
          ∙ ap (λ b. cond b (Some s.part) (data_in ts s.kind s.call number)) (sym same.0))
      | inr differ ↦
          ap (λ b. first_part (data_in ts s.kind s.call number) b s.part) differ.0
          ∙ first_part_none (data_in ts s.kind s.call number) s.part
          ∙ ap (λ b. cond b (Some s.part) (data_in ts s.kind s.call number)) (sym differ.0)
    ]

-- a segment that is not new changes no data
data_old : (s : Piece) (ts : List Piece) (number : ℕ) → is_acknowledgement s ≡ false → (has_data s && not (is_there ts s.kind s.call s.number)) ≡ false → data_in (s ∷ ts) s.kind s.call number ≡ data_in ts s.kind s.call number
unfolding data_in is_there
data_old s ts number plain old =
    ap (λ b. first_part (data_in ts s.kind s.call number) (b && (has_data s && eqb s.number number)) s.part) (of_itself s plain)
    ∙ elim (has_data s) as (λ b. has_data s ≡ b → first_part (data_in ts s.kind s.call number) (b && eqb s.number number) s.part ≡ data_in ts s.kind s.call number) [
      | false ↦ λ empty_. first_part_none (data_in ts s.kind s.call number) s.part
      | true ↦ λ full. elim (eqb_tells s.number number) [
        | inl same ↦ (let e : s.number ≡ number = same.1 in
            let there : is_some (data_in ts s.kind s.call number) ≡ true = subst (λ n. is_some (data_in ts s.kind s.call n) ≡ true) e (old_there (has_data s) _ old full) in
            kept_first (data_in ts s.kind s.call number) (eqb s.number number) s.part there)
        | inr differ ↦ ap (λ b. first_part (data_in ts s.kind s.call number) b s.part) differ.0 ∙ first_part_none (data_in ts s.kind s.call number) s.part
      ]
    ] refl
  where
    kept_first : (o : Option (List ℕ)) (b : Bool) (x : List ℕ) → is_some o ≡ true → first_part o b x ≡ o
    kept_first None b x h = absurd cc
    kept_first (Some p) b x h = refl

joined_alike : (f g : ℕ → List ℕ) (m : ℕ) → ((k : ℕ) → f k ≡ g k) → data_up_to f m ≡ data_up_to g m
joined_alike f g zero h = refl
joined_alike f g (suc m) h = ap (λ d. d ++ f (suc m)) (joined_alike f g m h) ∙ ap (λ d. data_up_to g m ++ d) (h (suc m))

chosen : (b : Bool) (x : List ℕ) (o : Option (List ℕ)) → unwrap_or (cond b (Some x) o) [] ≡ cond b x (unwrap_or o [])
chosen true x o = refl
chosen false x o = refl

-- the message that a segment completes is the joined data of its segments
pub message_is : (s : Piece) (ts : List Piece) (box : Arriving) → Keeps s.kind ts box → MayFollow ts s → is_acknowledgement s ≡ false → is_new box s ≡ true → data_up_to (data_with box s) s.total ≡ message_in (s ∷ ts) s.kind s.call s.total
unfolding message_in data_with
message_is s ts box keeps may plain yes_ =
    let cases = new_cases (has_data s) _ (sym (new_is s ts box keeps may plain) ∙ yes_) in
    joined_alike _ _ s.total (λ k.
    ap (λ o. cond (eqb k s.number) s.part (unwrap_or o [])) (keeps.parts s.call k ∙ ap (λ b. cond b None (data_in ts s.kind s.call k)) (not_before s ts may plain cases.0 cases.1))
    ∙ sym (ap (λ o. unwrap_or o []) (data_new s ts k plain cases.0 cases.1) ∙ chosen (eqb k s.number) s.part (data_in ts s.kind s.call k)))

-- ---- one segment more

unwrapped_part : (o : Option (FinMap nat_cmp (List ℕ))) (j : ℕ) → get (unwrap_or o empty) j ≡ part_of o j
unwrapped_part None j = get-empty nat_cmp j
unwrapped_part (Some parts) j = refl

get_put : (parts : FinMap nat_cmp (FinMap nat_cmp (List ℕ))) (n k : ℕ) (v : List ℕ) (q j : ℕ) → part_of (get (with_part parts n k v) q) j ≡ cond (eqb q n && eqb j k) (Some v) (part_of (get parts q) j)
get_put parts n k v q j =
    ap (λ o. part_of o j) (get-insert nat_cmp_total parts n (insert (unwrap_or (get parts n) empty) k v) q
    ∙ ap (λ b. cond b (Some (insert (unwrap_or (get parts n) empty) k v)) (get parts q)) (nat_ties q n))
    ∙ elim (eqb_tells q n) [
      | inl same ↦
          ap (λ b. part_of (cond b (Some (insert (unwrap_or (get parts n) empty) k v)) (get parts q)) j) same.0
          ∙ get-insert nat_cmp_total (unwrap_or (get parts n) empty) k v j
          ∙ ap (λ b. cond b (Some v) (get (unwrap_or (get parts n) empty) j)) (nat_ties j k)
          ∙ ap (cond (eqb j k) (Some v)) (unwrapped_part (get parts n) j ∙ ap (λ m. part_of (get parts m) j) (sym same.1))
          ∙ sym (ap (λ b. cond (b && eqb j k) (Some v) (part_of (get parts q) j)) same.0)
      | inr differ ↦
          ap (λ b. part_of (cond b (Some (insert (unwrap_or (get parts n) empty) k v)) (get parts q)) j) differ.0
          ∙ sym (ap (λ b. cond (b && eqb j k) (Some v) (part_of (get parts q) j)) differ.0)
    ]

-- other calls keep their parts
without : (parts : FinMap nat_cmp (FinMap nat_cmp (List ℕ))) (n q j : ℕ) → part_of (get (remove parts n) q) j ≡ cond (eqb q n) None (part_of (get parts q) j)
without parts n q j =
    ap (λ o. part_of o j) (get-remove nat_cmp_total parts n q ∙ ap (λ b. cond b None (get parts q)) (nat_ties q n))
    ∙ taken_out (eqb q n) (get parts q)
  where
    taken_out : (b : Bool) (o : Option (FinMap nat_cmp (List ℕ))) → part_of (cond b None o) j ≡ cond b None (part_of o j)
    taken_out true o = refl
    taken_out false o = refl

told_alike : (o : Option ℕ) (f g : ℕ → ℕ) → ((t : ℕ) → f t ≡ g t) → told o f ≡ told o g
told_alike None f g h = refl
told_alike (Some t) f g h = ap (λ (n : ℕ). Some (record { total = t; count = n })) (h t)

told_other : (s : Piece) (ts : List Piece) (kind call : ℕ) → is_of kind call s ≡ false → told (total_in ts kind call) (count_in ts kind call) ≡ told (total_in (s ∷ ts) kind call) (count_in (s ∷ ts) kind call)
told_other s ts kind call other =
    told_alike (total_in ts kind call) _ _ (λ t. sym (count_other s ts kind call t other))
    ∙ ap (λ o. told o (count_in (s ∷ ts) kind call)) (sym (total_other s ts kind call other))

parts_other : (s : Piece) (ts : List Piece) (kind call j : ℕ) → is_of kind call s ≡ false → cond (has_arrived ts kind call) None (data_in ts kind call j) ≡ cond (has_arrived (s ∷ ts) kind call) None (data_in (s ∷ ts) kind call j)
parts_other s ts kind call j other =
    ap (λ b. cond b None (data_in ts kind call j)) (sym (arrived_other s ts kind call other))
    ∙ ap (λ d. cond (has_arrived (s ∷ ts) kind call) None d) (sym (data_other s ts kind call j other))

-- a segment of another kind, or an acknowledgement, leaves an inbox as it is
pub keeps_other : (s : Piece) (ts : List Piece) (kind : ℕ) (box : Arriving) → ((call : ℕ) → is_of kind call s ≡ false) → Keeps kind ts box → Keeps kind (s ∷ ts) box
keeps_other s ts kind box other keeps = record {
  progress = λ call. keeps.progress call ∙ told_other s ts kind call (other call);
  parts = λ call j. keeps.parts call j ∙ parts_other s ts kind call j (other call);
}

-- an inbox in which nothing has come
pub keeps_nothing : (kind : ℕ) (box : Arriving) → box.progress ≡ empty → box.parts ≡ empty → Keeps kind [] box
unfolding total_in data_in has_arrived
keeps_nothing kind box progress parts = record {
  progress = λ call. ap (λ (m : FinMap nat_cmp Progress). get m call) progress ∙ get-empty nat_cmp call;
  parts = λ call j. ap (λ (m : FinMap nat_cmp (FinMap nat_cmp (List ℕ))). part_of (get m call) j) parts ∙ ap (λ (o : Option (FinMap nat_cmp (List ℕ))). part_of o j) (get-empty nat_cmp call);
}

another : (s : Piece) (call : ℕ) → (call ≡ s.call → ⊥) → is_of s.kind call s ≡ false
another s call differ = rw (equal s.kind, ne_eqb s.call call (λ e. differ (sym e))) refl

progress_more : (s : Piece) (ts : List Piece) (box : Arriving) → Keeps s.kind ts box → MayFollow ts s → is_acknowledgement s ≡ false → (call : ℕ) → get (add_segment box s).progress call ≡ told (total_in (s ∷ ts) s.kind call) (count_in (s ∷ ts) s.kind call)
unfolding add_segment
progress_more s ts box keeps may plain call =
    get-insert nat_cmp_total box.progress s.call (record { total = s.total; count = count_with box s }) call
    ∙ ap (λ b. cond b (Some (record { total = s.total; count = count_with box s })) (get box.progress call)) (nat_ties call s.call)
    ∙ elim (eqb_tells call s.call) [
      | inl same ↦ (let e : s.call ≡ call = sym same.1 in
          ap (λ b. cond b (Some (record { total = s.total; count = count_with box s })) (get box.progress call)) same.0
          ∙ ap (λ (n : ℕ). Some (record { total = s.total; count = n })) (count_is s ts box keeps may plain)
          ∙ ap (λ o. told o (count_in (s ∷ ts) s.kind s.call)) (sym (total_here s ts may plain))
          ∙ ap (λ q. told (total_in (s ∷ ts) s.kind q) (count_in (s ∷ ts) s.kind q)) e)
      | inr differ ↦
          ap (λ b. cond b (Some (record { total = s.total; count = count_with box s })) (get box.progress call)) differ.0
          ∙ keeps.progress call ∙ told_other s ts s.kind call (another s call differ.1)
    ]

parts_elsewhere : (s : Piece) (box : Arriving) (q j : ℕ) → eqb q s.call ≡ false → part_of (get (parts_with box s) q) j ≡ part_of (get box.parts q) j
unfolding parts_with
parts_elsewhere s box q j other =
    elim (is_new box s) as (λ b. part_of (get (cond b (cond (eqb (count_with box s) s.total) (remove box.parts s.call) (with_part box.parts s.call s.number s.part)) box.parts) q) j ≡ part_of (get box.parts q) j) [
      | true ↦ elim (eqb (count_with box s) s.total) as (λ b. part_of (get (cond b (remove box.parts s.call) (with_part box.parts s.call s.number s.part)) q) j ≡ part_of (get box.parts q) j) [
        | true ↦ without box.parts s.call q j ∙ ap (λ b. cond b None (part_of (get box.parts q) j)) other
        | false ↦ get_put box.parts s.call s.number s.part q j ∙ ap (λ b. cond (b && eqb j s.number) (Some s.part) (part_of (get box.parts q) j)) other
      ]
      | false ↦ refl
    ]

parts_here : (s : Piece) (ts : List Piece) (box : Arriving) → Keeps s.kind ts box → MayFollow ts s → is_acknowledgement s ≡ false → (j : ℕ) → part_of (get (parts_with box s) s.call) j ≡ cond (has_arrived (s ∷ ts) s.kind s.call) None (data_in (s ∷ ts) s.kind s.call j)
unfolding parts_with
parts_here s ts box keeps may plain j =
    let new = new_is s ts box keeps may plain in
    let whole : has_arrived (s ∷ ts) s.kind s.call ≡ eqb (count_with box s) s.total = arrives_at s ts may plain ∙ ap (λ n. eqb n s.total) (sym (count_is s ts box keeps may plain)) in
    elim (is_new box s) as (λ b. is_new box s ≡ b → part_of (get (cond b (cond (eqb (count_with box s) s.total) (remove box.parts s.call) (with_part box.parts s.call s.number s.part)) box.parts) s.call) j ≡ cond (has_arrived (s ∷ ts) s.kind s.call) None (data_in (s ∷ ts) s.kind s.call j)) [
      | true ↦ λ is_so. (
          let cases = new_cases (has_data s) _ (sym new ∙ is_so) in
          let before : (k : ℕ) → part_of (get box.parts s.call) k ≡ data_in ts s.kind s.call k = λ k. keeps.parts s.call k ∙ ap (λ b. cond b None (data_in ts s.kind s.call k)) (not_before s ts may plain cases.0 cases.1) in
          elim (eqb (count_with box s) s.total) as (λ b. eqb (count_with box s) s.total ≡ b → part_of (get (cond b (remove box.parts s.call) (with_part box.parts s.call s.number s.part)) s.call) j ≡ cond (has_arrived (s ∷ ts) s.kind s.call) None (data_in (s ∷ ts) s.kind s.call j)) [
            | true ↦ λ end. without box.parts s.call s.call j ∙ ap (λ b. cond b None (part_of (get box.parts s.call) j)) (equal s.call) ∙ ap (λ b. cond b None (data_in (s ∷ ts) s.kind s.call j)) (sym (whole ∙ end))
            | false ↦ λ open_. (
                get_put box.parts s.call s.number s.part s.call j
                ∙ ap (λ b. cond (b && eqb j s.number) (Some s.part) (part_of (get box.parts s.call) j)) (equal s.call)
                ∙ ap (λ d. cond (eqb j s.number) (Some s.part) d) (before j)
                ∙ sym (data_new s ts j plain cases.0 cases.1)
                ∙ ap (λ b. cond b None (data_in (s ∷ ts) s.kind s.call j)) (sym (whole ∙ open_)))
          ] refl)
      | false ↦ λ is_not. (
          keeps.parts s.call j
          ∙ ap (λ b. cond b None (data_in ts s.kind s.call j)) (sym (old_arrival s ts may plain (sym new ∙ is_not)))
          ∙ ap (λ d. cond (has_arrived (s ∷ ts) s.kind s.call) None d) (sym (data_old s ts j plain (sym new ∙ is_not))))
    ] refl

-- an inbox keeps what one segment more says
pub keeps_more : (s : Piece) (ts : List Piece) (box : Arriving) → Keeps s.kind ts box → MayFollow ts s → is_acknowledgement s ≡ false → Keeps s.kind (s ∷ ts) (add_segment box s)
unfolding add_segment
keeps_more s ts box keeps may plain = record {
  progress = progress_more s ts box keeps may plain;
  parts = λ call j. elim (eqb_tells call s.call) [
    | inl same ↦ subst (λ q. part_of (get (parts_with box s) q) j ≡ cond (has_arrived (s ∷ ts) s.kind q) None (data_in (s ∷ ts) s.kind q j)) (sym same.1) (parts_here s ts box keeps may plain j)
    | inr differ ↦ parts_elsewhere s box call j differ.0 ∙ keeps.parts call j ∙ parts_other s ts s.kind call j (another s call differ.1)
  ];
}
