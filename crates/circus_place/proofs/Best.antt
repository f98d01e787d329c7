-- What remains when all choices were offered is the best of them.
use Rattle.std.proofs.Common.{◌≡◌, ◌≢◌, ℕ, zero, suc, ◌<◌, ◌≤◌, ◌⊎◌, inl, inr, Bool, true, false, cond, List, [], ◌∷◌, ◌++◌, length, refl, sym, ◌∙◌, ap, subst, arith, append_assoc, append-nil, eq-eqb}
use Rattle.std.specs.Prelude.{◌==◌, ◌&&◌, ◌||◌, nat_lt, Option, Some, None, All}
use Rattle.std.proofs.Math.Bool.{and-false, or-true}
use Rattle.std.proofs.lemmas.Bool.{cases_lt}
use Rattle.std.proofs.lemmas.Bool.{and_parts, eqb-true, ltb-true, ltb-false, lt-ltb, le-ltb, true≢false, false_from_ne_true}
use Rattle.std.proofs.lemmas.List.Elements.{All-nil, All-cons, All-head, All-tail}
use Rattle.circus_place.specs.Choice.{is_before}
use Rattle.circus_place.specs.declared.choice.Placement.{Placement}
use Rattle.circus_place.specs.declared.test.Test.{Test}
use Rattle.circus_place.specs.Seen.Test.{passes}
use Rattle.circus_value.specs.Among.{is_among}
use Rattle.circus_place.specs.Seen.Search.{flag_count, improves, better_of, in_turn, AreApart, best_from}
use Rattle.circus_place.proofs.Skipped.{apart_push}

-- The order of lists.

before_step : (x : ℕ) (xs ys : List ℕ) → is_before xs ys ≡ true → is_before (x ∷ xs) (x ∷ ys) ≡ true
before_step x xs ys before = (λ i. le-ltb x x (omega arith) i || eq-eqb x x refl i && before i)

before_at : (ms : List ℕ) (k m : ℕ) (xs ys : List ℕ) → k < m → is_before ((ms ++ k ∷ []) ++ xs) ((ms ++ m ∷ []) ++ ys) ≡ true
before_at [] k m xs ys less = ap (λ b. b || (k == m) && is_before xs ys) (lt-ltb k m less)
before_at (x ∷ ms) k m xs ys less = before_step x ((ms ++ k ∷ []) ++ xs) ((ms ++ m ∷ []) ++ ys) (before_at ms k m xs ys less)

other_eqb : (x y : ℕ) → x ≢ y → x == y ≡ false
other_eqb x y other = false_from_ne_true (x == y) (λ same. other (eqb-true x y same))

not_before_itself : (xs : List ℕ) → is_before xs xs ≡ false
not_before_itself [] = refl
not_before_itself (x ∷ xs) = (λ i. le-ltb x x (omega arith) i || (x == x) && not_before_itself xs i) ∙ and-false (x == x)

-- of two lists one at most is before the other
before_once : (xs ys : List ℕ) → is_before xs ys ≡ true → is_before ys xs ≡ false
before_once [] [] before = absurd (true≢false (sym before))
before_once [] (y ∷ ys) before = refl
before_once (x ∷ xs) [] before = absurd (true≢false (sym before))
before_once (x ∷ xs) (y ∷ ys) before = by_first (nat_lt x y) refl before (before_once xs ys)
  where
    by_first : (b : Bool) → nat_lt x y ≡ b → (b || (x == y) && is_before xs ys) ≡ true → (is_before xs ys ≡ true → is_before ys xs ≡ false) → (nat_lt y x || (y == x) && is_before ys xs) ≡ false
    by_first true less so later =
        let above : x < y = ltb-true x y less in
        λ i. le-ltb y x (omega arith) i || other_eqb y x (omega arith) i && is_before ys xs
    by_first false less so later =
        let (same, before') = and_parts (x == y) (is_before xs ys) so in
        let equal = eqb-true x y same in
        (λ i. le-ltb y x (omega arith) i || (y == x) && later before' i) ∙ and-false (y == x)

-- The best of the choices that were seen.

pub record IsChampion (t : Test) (present : List Bool) (Seen : List ℕ → Type 0) (x : Placement) : Type 0 where
  pub seen : Seen x.members
  pub satisfies : passes t x.members ≡ true
  pub counted : x.kept ≡ flag_count present x.members
  pub most : (c : List ℕ) → Seen c → passes t c ≡ true → flag_count present c ≤ x.kept
  pub first : (c : List ℕ) → Seen c → passes t c ≡ true → flag_count present c ≡ x.kept → is_before c x.members ≡ false

abbrev pub Champion : Test → List Bool → (List ℕ → Type 0) → Option Placement → Type 0
Champion t present Seen None = (c : List ℕ) → Seen c → passes t c ≡ true → ⊥
Champion t present Seen (Some x) = IsChampion t present Seen x

champion_same : (t : Test) (present : List Bool) (Seen Also : List ℕ → Type 0) (best : Option Placement) → ((c : List ℕ) → Seen c → Also c) → ((c : List ℕ) → Also c → Seen c) → Champion t present Seen best → Champion t present Also best
champion_same t present Seen Also None there back champion = λ c also passed. champion c (back c also) passed
champion_same t present Seen Also (Some x) there back champion = record {
  seen = there x.members champion.seen;
  satisfies = champion.satisfies;
  counted = champion.counted;
  most = λ c also passed. champion.most c (back c also) passed;
  first = λ c also passed same. champion.first c (back c also) passed same;
}

-- all that was seen is before what begins with these machines
abbrev AllBefore : (List ℕ → Type 0) → List ℕ → Type 0
AllBefore Seen ms = (s more : List ℕ) → Seen s → is_before s (ms ++ more) ≡ true

-- one more choice
abbrev Besides : (List ℕ → Type 0) → List ℕ → List ℕ → Type 0
Besides Seen ms c = Seen c ⊎ (c ≡ ms)

offered_is : (t : Test) (present : List Bool) (Seen : List ℕ → Type 0) (ms : List ℕ) (best : Option Placement) (passed improved : Bool) → passes t ms ≡ passed → improves (flag_count present ms) best ≡ improved
    → ((s : List ℕ) → Seen s → is_before s ms ≡ true) → Champion t present Seen best
    → Champion t present (Besides Seen ms) (cond (passed && improved) (Some (record { members = ms; kept = flag_count present ms })) best)
offered_is t present Seen ms None false improved fails more before champion = λ c seen passed. failed c seen passed
  where
    failed : (c : List ℕ) → Besides Seen ms c → passes t c ≡ true → ⊥
    failed c (inl seen) passed = champion c seen passed
    failed c (inr same) passed = true≢false (sym passed ∙ ap (passes t) same ∙ fails)
offered_is t present Seen ms (Some x) false improved fails more before champion = record {
  seen = inl champion.seen;
  satisfies = champion.satisfies;
  counted = champion.counted;
  most = most;
  first = first;
}
  where
    most : (c : List ℕ) → Besides Seen ms c → passes t c ≡ true → flag_count present c ≤ x.kept
    most c (inl seen) passed = champion.most c seen passed
    most c (inr same) passed = absurd (true≢false (sym passed ∙ ap (passes t) same ∙ fails))

    first : (c : List ℕ) → Besides Seen ms c → passes t c ≡ true → flag_count present c ≡ x.kept → is_before c x.members ≡ false
    first c (inl seen) passed equal = champion.first c seen passed equal
    first c (inr same) passed equal = absurd (true≢false (sym passed ∙ ap (passes t) same ∙ fails))
offered_is t present Seen ms None true false holds more before champion = absurd (true≢false more)
offered_is t present Seen ms None true true holds more before champion = record {
  seen = inr refl;
  satisfies = holds;
  counted = refl;
  most = most;
  first = first;
}
  where
    most : (c : List ℕ) → Besides Seen ms c → passes t c ≡ true → flag_count present c ≤ flag_count present ms
    most c (inl seen) passed = absurd (champion c seen passed)
    most c (inr same) passed = omega (arith, ap (flag_count present) same)

    first : (c : List ℕ) → Besides Seen ms c → passes t c ≡ true → flag_count present c ≡ flag_count present ms → is_before c ms ≡ false
    first c (inl seen) passed equal = absurd (champion c seen passed)
    first c (inr same) passed equal = ap (λ l. is_before l ms) same ∙ not_before_itself ms
offered_is t present Seen ms (Some x) true false holds more before champion = record {
  seen = inl champion.seen;
  satisfies = champion.satisfies;
  counted = champion.counted;
  most = most;
  first = first;
}
  where
    most : (c : List ℕ) → Besides Seen ms c → passes t c ≡ true → flag_count present c ≤ x.kept
    most c (inl seen) passed = champion.most c seen passed
    most c (inr same) passed = omega (arith, ap (flag_count present) same, ltb-false x.kept (flag_count present ms) more)

    first : (c : List ℕ) → Besides Seen ms c → passes t c ≡ true → flag_count present c ≡ x.kept → is_before c x.members ≡ false
    first c (inl seen) passed equal = champion.first c seen passed equal
    first c (inr same) passed equal = ap (λ l. is_before l x.members) same ∙ before_once x.members ms (before x.members champion.seen)
offered_is t present Seen ms (Some x) true true holds more before champion = record {
  seen = inr refl;
  satisfies = holds;
  counted = refl;
  most = most;
  first = first;
}
  where
    above : x.kept < flag_count present ms
    above = ltb-true x.kept (flag_count present ms) more

    most : (c : List ℕ) → Besides Seen ms c → passes t c ≡ true → flag_count present c ≤ flag_count present ms
    most c (inl seen) passed = omega (arith, above, champion.most c seen passed)
    most c (inr same) passed = omega (arith, ap (flag_count present) same)

    first : (c : List ℕ) → Besides Seen ms c → passes t c ≡ true → flag_count present c ≡ flag_count present ms → is_before c ms ≡ false
    first c (inl seen) passed equal = absurd (omega (arith, above, champion.most c seen passed, equal))
    first c (inr same) passed equal = ap (λ l. is_before l ms) same ∙ not_before_itself ms

-- What the choices are that are gone through.

-- a choice that begins with these machines and has so many more, each below n and none twice
pub record Extends (n left : ℕ) (ms c : List ℕ) : Type 0 where
  pub more : List ℕ
  pub is : c ≡ ms ++ more
  pub len : length more ≡ left
  pub below : All (λ m. m < n) more
  pub apart : AreApart c

abbrev pub And : (List ℕ → Type 0) → (List ℕ → Type 0) → List ℕ → Type 0
And Seen Also c = Seen c ⊎ Also c

-- those that begin with these machines and then one of the first of all
abbrev Turned : ℕ → ℕ → List ℕ → ℕ → List ℕ → Type 0
Turned n left ms m c = (k : ℕ) × (k < m) × Extends n left (ms ++ k ∷ []) c

none_more : (l : List ℕ) → length l ≡ 0 → l ≡ []
none_more [] none = refl
none_more (x ∷ xs) none = absurd (omega arith)

-- no machine behind these is one of them
repeated : (ms more : List ℕ) (m : ℕ) → is_among ms m ≡ true → AreApart ((ms ++ m ∷ []) ++ more) → ⊥
repeated [] more m among apart = true≢false (sym among)
repeated (x ∷ xs) more m among apart = by_first (x == m) refl among apart.0 (λ later. repeated xs more m later apart.1)
  where
    in_middle : (ys : List ℕ) → is_among ((ys ++ x ∷ []) ++ more) x ≡ true
    in_middle [] = ap (λ b. b || is_among more x) (eq-eqb x x refl)
    in_middle (y ∷ ys) = ap (λ b. (y == x) || b) (in_middle ys) ∙ or-true (y == x)

    by_first : (b : Bool) → x == m ≡ b → (b || is_among xs m) ≡ true → is_among ((xs ++ m ∷ []) ++ more) x ≡ false → (is_among xs m ≡ true → ⊥) → ⊥
    by_first true same so free later = true≢false (sym (in_middle xs) ∙ ap (λ k. is_among ((xs ++ k ∷ []) ++ more) x) (eqb-true x m same) ∙ free)
    by_first false other so free later = later so

-- one that goes on with a machine goes on
wider : (n left : ℕ) (ms c : List ℕ) (k : ℕ) → k < n → Extends n left (ms ++ k ∷ []) c → Extends n (suc left) ms c
wider n left ms c k low e = record {
  more = k ∷ e.more;
  is = e.is ∙ append_assoc ms (k ∷ []) e.more;
  len = omega (arith, e.len);
  below = All-cons (λ m. m < n) k e.more low e.below;
  apart = e.apart;
}

-- one that goes on does so with some machine
narrower : (n left : ℕ) (ms c more : List ℕ) → c ≡ ms ++ more → length more ≡ suc left → All (λ m. m < n) more → AreApart c → Turned n left ms n c
narrower n left ms c [] is len below apart = absurd (omega arith)
narrower n left ms c (k ∷ more) is len below apart = (
  k,
  All-head (λ m. m < n) k more below,
  record { more = more; is = is ∙ sym (append_assoc ms (k ∷ []) more); len = omega arith; below = All-tail (λ m. m < n) k more below; apart = apart },
)

-- Each machine has its turn.

-- what holds after a machine had its turn
abbrev Turn : Test → List Bool → ℕ → ℕ → List ℕ → Type 1
Turn t present n left ms = (Seen : List ℕ → Type 0) (best : Option Placement) → AreApart ms → AllBefore Seen ms → Champion t present Seen best → Champion t present (And Seen (Extends n left ms)) (best_from t present n left ms best)

before_turn : (Seen : List ℕ → Type 0) (n left : ℕ) (ms : List ℕ) (m : ℕ) → AllBefore Seen ms → AllBefore (And Seen (Turned n left ms m)) (ms ++ m ∷ [])
before_turn Seen n left ms m before s more (inl seen) = ap (is_before s) (append_assoc ms (m ∷ []) more) ∙ before s (m ∷ more) seen
before_turn Seen n left ms m before s more (inr (k, low, e)) = ap (λ l. is_before l ((ms ++ m ∷ []) ++ more)) e.is ∙ before_at ms k m e.more more low

-- the turn of a machine that is none of these, and of one that is
one_turn : (t : Test) (present : List Bool) (n left : ℕ) (ms : List ℕ) (Seen : List ℕ → Type 0) (m : ℕ) (so_far : Option Placement) (b : Bool) → is_among ms m ≡ b → Turn t present n left (ms ++ m ∷ []) → AreApart ms → AllBefore Seen ms
    → Champion t present (And Seen (Turned n left ms m)) so_far → Champion t present (And Seen (Turned n left ms (suc m))) (cond b so_far (best_from t present n left (ms ++ m ∷ []) so_far))
one_turn t present n left ms Seen m so_far true among turn apart before champion =
    champion_same t present (And Seen (Turned n left ms m)) (And Seen (Turned n left ms (suc m))) so_far there back champion
  where
    there : (c : List ℕ) → And Seen (Turned n left ms m) c → And Seen (Turned n left ms (suc m)) c
    there c (inl seen) = inl seen
    there c (inr (k, low, e)) = inr (k, omega arith, e)

    back : (c : List ℕ) → And Seen (Turned n left ms (suc m)) c → And Seen (Turned n left ms m) c
    back c (inl seen) = inl seen
    back c (inr (k, low, e)) = by_order (cases_lt k m)
      where
        by_order : (k < m) ⊎ (m ≤ k) → And Seen (Turned n left ms m) c
        by_order (inl less) = inr (k, less, e)
        by_order (inr above) =
            let same : k ≡ m = omega (arith, low, above) in
            absurd (repeated ms e.more m among (subst (λ (j : ℕ). AreApart ((ms ++ j ∷ []) ++ e.more)) same (subst AreApart e.is e.apart)))
one_turn t present n left ms Seen m so_far false new turn apart before champion =
    champion_same t present (And (And Seen (Turned n left ms m)) (Extends n left (ms ++ m ∷ []))) (And Seen (Turned n left ms (suc m))) (best_from t present n left (ms ++ m ∷ []) so_far) there back
    (turn (And Seen (Turned n left ms m)) so_far (apart_push ms m apart new) (before_turn Seen n left ms m before) champion)
  where
    there : (c : List ℕ) → And (And Seen (Turned n left ms m)) (Extends n left (ms ++ m ∷ [])) c → And Seen (Turned n left ms (suc m)) c
    there c (inl (inl seen)) = inl seen
    there c (inl (inr (k, low, e))) = inr (k, omega arith, e)
    there c (inr e) = inr (m, omega arith, e)

    back : (c : List ℕ) → And Seen (Turned n left ms (suc m)) c → And (And Seen (Turned n left ms m)) (Extends n left (ms ++ m ∷ [])) c
    back c (inl seen) = inl (inl seen)
    back c (inr (k, low, e)) = by_order (cases_lt k m)
      where
        by_order : (k < m) ⊎ (m ≤ k) → And (And Seen (Turned n left ms m)) (Extends n left (ms ++ m ∷ [])) c
        by_order (inl less) = inl (inr (k, less, e))
        by_order (inr above) =
            let same : k ≡ m = omega (arith, low, above) in
            inr (subst (λ (j : ℕ). Extends n left (ms ++ j ∷ []) c) same e)

turns_is : (t : Test) (present : List Bool) (n left : ℕ) (ms : List ℕ) (Seen : List ℕ → Type 0) (best : Option Placement) → ((m : ℕ) → Turn t present n left (ms ++ m ∷ [])) → AreApart ms → AllBefore Seen ms → Champion t present Seen best
    → (m : ℕ) → Champion t present (And Seen (Turned n left ms m)) (in_turn (λ k b. cond (is_among ms k) b (best_from t present n left (ms ++ k ∷ []) b)) m best)
turns_is t present n left ms Seen best turn apart before champion zero =
    champion_same t present Seen (And Seen (Turned n left ms zero)) best (λ c seen. inl seen) back champion
  where
    back : (c : List ℕ) → And Seen (Turned n left ms zero) c → Seen c
    back c (inl seen) = seen
    back c (inr (k, low, e)) = absurd (omega arith)
turns_is t present n left ms Seen best turn apart before champion (suc m) =
    one_turn t present n left ms Seen m (in_turn (λ k b. cond (is_among ms k) b (best_from t present n left (ms ++ k ∷ []) b)) m best) (is_among ms m) refl (turn m) apart before
    (turns_is t present n left ms Seen best turn apart before champion m)

-- when all machines had their turn
all_turned : (t : Test) (present : List Bool) (n left : ℕ) (ms : List ℕ) → ((m : ℕ) → Turn t present n left (ms ++ m ∷ [])) → Turn t present n (suc left) ms
unfolding best_from
all_turned t present n left ms turn Seen best apart before champion =
    champion_same t present (And Seen (Turned n left ms n)) (And Seen (Extends n (suc left) ms)) (best_from t present n (suc left) ms best) there back
    (turns_is t present n left ms Seen best turn apart before champion n)
  where
    there : (c : List ℕ) → And Seen (Turned n left ms n) c → And Seen (Extends n (suc left) ms) c
    there c (inl seen) = inl seen
    there c (inr (k, low, e)) = inr (wider n left ms c k low e)

    back : (c : List ℕ) → And Seen (Extends n (suc left) ms) c → And Seen (Turned n left ms n) c
    back c (inl seen) = inl seen
    back c (inr e) = inr (narrower n left ms c e.more e.is e.len e.below e.apart)

last_offered : (t : Test) (present : List Bool) (n : ℕ) (ms : List ℕ) → Turn t present n zero ms
unfolding best_from
last_offered t present n ms Seen best apart before champion =
    champion_same t present (Besides Seen ms) (And Seen (Extends n zero ms)) (better_of t present ms best) there back
    (offered_is t present Seen ms best (passes t ms) (improves (flag_count present ms) best) refl refl (λ s seen. ap (is_before s) (sym (append-nil ms)) ∙ before s [] seen) champion)
  where
    there : (c : List ℕ) → Besides Seen ms c → And Seen (Extends n zero ms) c
    there c (inl seen) = inl seen
    there c (inr same) = inr (record { more = []; is = same ∙ sym (append-nil ms); len = refl; below = All-nil (λ m. m < n); apart = subst AreApart (sym same) apart })

    back : (c : List ℕ) → And Seen (Extends n zero ms) c → Besides Seen ms c
    back c (inl seen) = inl seen
    back c (inr e) = inr (e.is ∙ ap (λ l. ms ++ l) (none_more e.more e.len) ∙ append-nil ms)

-- the best of the choices that begin with some machines, and of what was seen before
pub best_is : (t : Test) (present : List Bool) (n left : ℕ) (ms : List ℕ) → Turn t present n left ms
best_is t present n zero ms = last_offered t present n ms
best_is t present n (suc left) ms = all_turned t present n left ms (λ m. best_is t present n left (ms ++ m ∷ []))
