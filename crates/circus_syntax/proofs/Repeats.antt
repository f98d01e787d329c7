-- Items that are read for as long as the next token begins one.
use Rattle.std.proofs.Common.{◌≡◌, ℕ, zero, suc, ◌<◌, ◌≤◌, Bool, true, false, List, [], ◌∷◌, ◌++◌, length, refl, sym, ◌∙◌, ap, subst, arith, length-append}
use Rattle.std.specs.Prelude.{Option, Some, None, option_map}
use Rattle.circus_syntax.specs.declared.stopping.Stop.{Stop}
use Rattle.circus_syntax.specs.Placed.{Placed, first, Due}
use Rattle.circus_syntax.specs.Stopping.{StandAt}
use Rattle.circus_syntax.specs.Reader.{Reader, place_in, passes, sees, next_of, either, either_case, optional, repeat, repeat_while, mark_stops, marked_in}
use Rattle.circus_syntax.specs.Spelling.{each, if_written, IsEach, IfWritten}
use Rattle.circus_syntax.proofs.Sound.{Sound, Ran, Fills, EndsAt, reader, ran_is, ran_both, ran_mapped, ran_like, sound_cased, sound_mapped, sound_nothing, first_append, place_first}

-- where the test is passed the item takes a token at least
abbrev pub Shrinks : {A : Type 0} → (Placed → Bool) → (Reader → A × Reader) → Type 0
Shrinks test item = (r : Reader) → sees test r ≡ true → length (item r).1.rest < length r.rest

pub sees_none : (test : Placed → Bool) (r : Reader) → length r.rest ≤ 0 → sees test r ≡ false
sees_none test r short = by_parts r.stop r.rest short
  where
    by_parts : (stop : Option Stop) (ts : List Placed) → length ts ≤ 0 → passes test (next_of stop ts) ≡ false
    by_parts (Some s) ts h = refl
    by_parts None [] h = refl
    by_parts None (t ∷ ts) h = absurd (omega arith)

repeat_sees : {A : Type 0} (test : Placed → Bool) (item : Reader → A × Reader) (n : ℕ) (r : Reader) → sees test r ≡ true
    → repeat test item (suc n) r ≡ ((item r).0 ∷ (repeat test item n (item r).1).0, (repeat test item n (item r).1).1)
repeat_sees test item n r hit = rw hit refl

repeat_none : {A : Type 0} (test : Placed → Bool) (item : Reader → A × Reader) (n : ℕ) (r : Reader) → sees test r ≡ false → repeat test item n r ≡ ([], r)
repeat_none test item zero r missed = refl
repeat_none test item (suc n) r missed = rw missed refl

enough_step : {A : Type 0} (test : Placed → Bool) (item : Reader → A × Reader) → Shrinks test item → (n m : ℕ) (r : Reader)
    → ((s : Reader) → length s.rest < length r.rest → repeat test item n s ≡ repeat test item m s)
    → (b : Bool) → sees test r ≡ b → repeat test item (suc n) r ≡ repeat test item (suc m) r
enough_step test item shrinks n m r less true hit =
    let same = less (item r).1 (shrinks r hit) in
    repeat_sees test item n r hit ∙ (λ i. ((item r).0 ∷ (same i).0, (same i).1)) ∙ sym (repeat_sees test item m r hit)
enough_step test item shrinks n m r less false missed = repeat_none test item (suc n) r missed ∙ sym (repeat_none test item (suc m) r missed)

-- how often it may repeat doesn't matter from the number of the tokens left on
enough : {A : Type 0} (test : Placed → Bool) (item : Reader → A × Reader) → Shrinks test item → (n m : ℕ) (r : Reader)
    → length r.rest ≤ n → length r.rest ≤ m → repeat test item n r ≡ repeat test item m r
enough test item shrinks zero m r a b = sym (repeat_none test item m r (sees_none test r a))
enough test item shrinks (suc n) zero r a b = repeat_none test item (suc n) r (sees_none test r b)
enough test item shrinks (suc n) (suc m) r a b =
    enough_step test item shrinks n m r (λ s less. enough test item shrinks n m s (omega arith) (omega arith)) (sees test r) refl

pub repeated_sees : {A : Type 0} (test : Placed → Bool) (item : Reader → A × Reader) → Shrinks test item → (r : Reader) → sees test r ≡ true
    → repeat_while test item r ≡ ((item r).0 ∷ (repeat_while test item (item r).1).0, (repeat_while test item (item r).1).1)
repeated_sees test item shrinks r hit =
    let shorter : length (item r).1.rest < length r.rest = shrinks r hit in
    let same = enough test item shrinks (length r.rest) (length (item r).1.rest) (item r).1 (omega arith) (omega arith) in
    enough test item shrinks (length r.rest) (suc (length r.rest)) r (omega arith) (omega arith)
    ∙ repeat_sees test item (length r.rest) r hit ∙ (λ i. ((item r).0 ∷ (same i).0, (same i).1))

pub repeated_none : {A : Type 0} (test : Placed → Bool) (item : Reader → A × Reader) (r : Reader) → sees test r ≡ false → repeat_while test item r ≡ ([], r)
repeated_none test item r missed = repeat_none test item (length r.rest) r missed

-- a production leaves no more tokens than there were
pub never_longer : {A : Type 0} {p : Reader → A × Reader} {spell : A → List Due} {Good : A → Type 0} → Sound p spell Good → (r : Reader) → length (p r).1.rest ≤ length r.rest
never_longer {A = A} {p = p} P r = by_stop r.stop
  where
    by_stop : (stop : Option Stop) → length (p (reader stop r.rest r.end)).1.rest ≤ length r.rest
    by_stop None =
        let R = P.runs r.rest r.end in
        subst (λ (x : A × Reader). length x.1.rest ≤ length r.rest) (sym (ran_is R))
        (omega (arith, ap length R.whole, length-append R.taken R.left))
    by_stop (Some s) =
        let F = P.fills s r.end in
        subst (λ (x : A × Reader). length x.1.rest ≤ length r.rest) (sym (F.stays r.rest)) (omega arith)

ran_none : {A : Type 0} (test : Placed → Bool) (item : Reader → A × Reader) (spell : A → List Due) (Good : A → Type 0) (ts : List Placed) (e : ℕ)
    → passes test (first ts) ≡ false → Ran (repeat_while test item) (each spell) (IsEach Good) ts e
ran_none test item spell Good ts e missed = record {
  tree = [];
  taken = [];
  left = ts;
  stop = None;
  more = [];
  whole = refl;
  same = λ rest f. repeated_none test item (reader None rest e) (ap (passes test) f ∙ missed);
  ended = refl;
  good = λ a. tt;
  due = λ a. tt;
}

fills_repeated : {A : Type 0} (test : Placed → Bool) (item : Reader → A × Reader) (spell : A → List Due) (Good : A → Type 0) (s : Stop) (e : ℕ)
    → Fills (repeat_while test item) (each spell) (IsEach Good) s e
fills_repeated test item spell Good s e = record {
  tree = [];
  more = [];
  stays = λ ts. repeated_none test item (reader (Some s) ts e) refl;
  good = tt;
  due = tt;
  there = tt;
}

ran_step : {A : Type 0} (test : Placed → Bool) (item : Reader → A × Reader) (spell : A → List Due) (Good : A → Type 0) → Shrinks test item → Sound item spell Good
    → (ts : List Placed) (e : ℕ) → ((us : List Placed) → length us < length ts → Ran (repeat_while test item) (each spell) (IsEach Good) us e)
    → (b : Bool) → passes test (first ts) ≡ b → Ran (repeat_while test item) (each spell) (IsEach Good) ts e
ran_step test item spell Good shrinks sound ts e less false missed = ran_none test item spell Good ts e missed
ran_step {A = A} test item spell Good shrinks sound ts e less true hit =
    let P = sound.runs ts e in
    let shorter = subst (λ (x : A × Reader). length x.1.rest < length ts) (ran_is P) (shrinks (reader None ts e) hit) in
    ran_like (repeat_while test item)
    (λ us same. repeated_sees test item shrinks (reader None us e) (ap (passes test) same ∙ hit))
    (ran_mapped (λ x. x.0 ∷ x.1) (each spell) (IsEach Good) (λ x. refl) (λ x g. g)
    (ran_both P (λ s. fills_repeated test item spell Good s e) (less P.left shorter)))

ran_repeated : {A : Type 0} (test : Placed → Bool) (item : Reader → A × Reader) (spell : A → List Due) (Good : A → Type 0) → Shrinks test item → Sound item spell Good
    → (n : ℕ) (ts : List Placed) (e : ℕ) → length ts ≤ n → Ran (repeat_while test item) (each spell) (IsEach Good) ts e
ran_repeated test item spell Good shrinks sound zero ts e h = ran_none test item spell Good ts e (sees_none test (reader None ts e) h)
ran_repeated test item spell Good shrinks sound (suc n) ts e h =
    ran_step test item spell Good shrinks sound ts e (λ us less. ran_repeated test item spell Good shrinks sound n us e (omega arith)) (passes test (first ts)) refl

pub sound_repeated : {A : Type 0} (test : Placed → Bool) {item : Reader → A × Reader} {spell : A → List Due} {Good : A → Type 0} → Shrinks test item → Sound item spell Good
    → Sound (repeat_while test item) (each spell) (IsEach Good)
sound_repeated test {item = item} {spell = spell} {Good = Good} shrinks sound = record {
  fills = λ s e. fills_repeated test item spell Good s e;
  runs = λ ts e. ran_repeated test item spell Good shrinks sound (length ts) ts e (omega arith);
}

-- Marks of a stop, which keep its place.

ended_marked : (mark : ℕ → Stop → Stop) → ((at : ℕ) (s : Stop) → (mark at s).place ≡ s.place) → (at : ℕ) (stop : Option Stop) (left : List Placed) (e : ℕ) (more : List Placed)
    → EndsAt stop left e more → EndsAt (option_map (mark at) stop) left e more
ended_marked mark keeps at None left e more ended = ended
ended_marked mark keeps at (Some s) left e more ended =
    (keeps at s ∙ ended.0, subst (λ place. StandAt place more) (sym (keeps at s)) ended.1)

pub sound_marked : {A : Type 0} (mark : ℕ → Stop → Stop) {p : Reader → A × Reader} {spell : A → List Due} {Good : A → Type 0}
    → ((at : ℕ) (s : Stop) → (mark at s).place ≡ s.place) → Sound p spell Good → Sound (mark_stops mark p) spell Good
sound_marked mark {p = p} {spell = spell} {Good = Good} keeps P = record {
  fills = λ s e. let F = P.fills s e in record { tree = F.tree; more = F.more; stays = F.stays; good = F.good; due = F.due; there = F.there };
  runs = runs;
}
  where
    runs : (ts : List Placed) (e : ℕ) → Ran (mark_stops mark p) spell Good ts e
    runs ts e =
        let R = P.runs ts e in
        record {
          tree = R.tree;
          taken = R.taken;
          left = R.left;
          stop = option_map (mark (place_in ts e)) R.stop;
          more = R.more;
          whole = R.whole;
          same = λ rest f.
              let here = place_first (R.taken ++ rest) ts e (first_append R.taken rest R.left f ∙ ap first (sym R.whole)) in
              λ i. marked_in mark None (here i) (R.same rest f i);
          ended = ended_marked mark keeps (place_in ts e) R.stop R.left e R.more R.ended;
          good = R.good;
          due = R.due;
        }

-- One or the other.

pub sound_either : {A : Type 0} (test : Placed → Bool) {p q : Reader → A × Reader} {spell : A → List Due} {Good : A → Type 0} → Sound p spell Good → Sound q spell Good → Sound (either test p q) spell Good
sound_either test {p = p} {q = q} {spell = spell} {Good = Good} P Q = sound_cased (passes test) (either_case p q) each_sound
  where
    each_sound : (b : Bool) → Sound (either_case p q b) spell Good
    each_sound true = P
    each_sound false = Q

pub sound_optional : {A : Type 0} (test : Placed → Bool) {p : Reader → A × Reader} {spell : A → List Due} {Good : A → Type 0} → Sound p spell Good → Sound (optional test p) (if_written spell) (IfWritten Good)
sound_optional test {spell = spell} {Good = Good} P =
    sound_either test
    (sound_mapped (λ x. Some x) (if_written spell) (IfWritten Good) (λ x. refl) (λ x g. g) P)
    (sound_nothing None (if_written spell) (IfWritten Good) tt refl)
