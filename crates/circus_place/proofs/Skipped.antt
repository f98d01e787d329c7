-- Choices that are left out are none that would become the best.
use Rattle.std.proofs.Common.{◌≡◌, ℕ, zero, suc, ◌+◌, ◌≤◌, Bool, true, false, cond, List, [], ◌∷◌, ◌++◌, length, refl, sym, ◌∙◌, ap, subst, arith, append_assoc, append-nil, length-append, eq-eqb}
use Rattle.std.specs.Prelude.{◌==◌, ◌&&◌, ◌||◌, min, Option, Some, None}
use Rattle.std.proofs.Math.Bool.{and-false, or-false, or_assoc}
use Rattle.std.proofs.Math.Nat.{le-min, min-le_right}
use Rattle.std.proofs.lemmas.Bool.{ltb-false, le-ltb, or_parts, eqb-true, true≢false, not-false}
use Rattle.std.proofs.lemmas.List.Sums.{count_by-le-length, sum_by-append}
use Rattle.circus_place.specs.declared.choice.Placement.{Placement}
use Rattle.circus_place.specs.declared.test.Test.{Test}
use Rattle.circus_place.specs.Seen.Table.{flag_at}
use Rattle.circus_place.specs.Seen.Test.{passes, value_so_far, is_known_false, IsTestOf}
use Rattle.circus_value.specs.Among.{is_among}
use Rattle.circus_place.specs.Seen.Search.{flag_count, improves, better_of, in_turn, AreApart, best_from}
use Rattle.circus_place.proofs.Known.{known_is, known_all}

eq_sym : (m n : ℕ) → m == n ≡ false → n == m ≡ false
eq_sym m n other = by_answer (n == m) refl
  where
    by_answer : (b : Bool) → n == m ≡ b → n == m ≡ false
    by_answer true same = absurd (true≢false (sym (eq-eqb m n (sym (eqb-true n m same))) ∙ other))
    by_answer false is = is

among-push : (ms : List ℕ) (m n : ℕ) → is_among (ms ++ m ∷ []) n ≡ is_among ms n || (m == n)
among-push [] m n = or-false (m == n)
among-push (x ∷ xs) m n = ap (λ b. (x == n) || b) (among-push xs m n) ∙ sym (or_assoc (x == n) (is_among xs n) (m == n))

pub apart_push : (ms : List ℕ) (m : ℕ) → AreApart ms → is_among ms m ≡ false → AreApart (ms ++ m ∷ [])
apart_push [] m apart new = (refl, tt)
apart_push (x ∷ xs) m apart new =
    let (other, later) = or_parts (x == m) (is_among xs m) new in
    (among-push xs m x ∙ (λ i. apart.0 i || eq_sym x m other i), apart_push xs m apart.1 later)

in_turn_stays : (turn : ℕ → Option Placement → Option Placement) (n : ℕ) (best : Option Placement) → ((m : ℕ) → turn m best ≡ best) → in_turn turn n best ≡ best
in_turn_stays turn zero best stays = refl
in_turn_stays turn (suc n) best stays = ap (turn n) (in_turn_stays turn n best stays) ∙ stays n

best_stays : (t : Test) (present : List Bool) (n left : ℕ) (ms : List ℕ) (best : Option Placement) → AreApart ms
    → ((more : List ℕ) → length more ≡ left → AreApart (ms ++ more) → better_of t present (ms ++ more) best ≡ best) → best_from t present n left ms best ≡ best
unfolding best_from
best_stays t present n zero ms best apart stays =
    ap (λ l. better_of t present l best) (sym (append-nil ms)) ∙ stays [] refl (subst AreApart (sym (append-nil ms)) apart)
best_stays t present n (suc left) ms best apart stays =
    in_turn_stays (λ m b. cond (is_among ms m) b (best_from t present n left (ms ++ m ∷ []) b)) n best
    (λ m. skip m (is_among ms m) refl (λ new. best_stays t present n left (ms ++ m ∷ []) best (apart_push ms m apart new)
    (λ more whole later.
    let same = append_assoc ms (m ∷ []) more in
    ap (λ l. better_of t present l best) same ∙ stays (m ∷ more) (omega arith) (subst AreApart same later))))
  where
    skip : (m : ℕ) (b : Bool) → is_among ms m ≡ b → (is_among ms m ≡ false → best_from t present n left (ms ++ m ∷ []) best ≡ best) → cond b best (best_from t present n left (ms ++ m ∷ []) best) ≡ best
    skip m true is same = refl
    skip m false is same = same is

known_false : (o : Option Bool) → is_known_false o ≡ true → o ≡ Some false
known_false (Some true) is = cc
known_false (Some false) is = refl
known_false None is = cc

-- the condition fails, whoever the others are
pub refuted : (t : Test) (present : List Bool) (n left members : ℕ) (ms : List ℕ) (best : Option Placement) → IsTestOf members t → length ms + left ≡ members → AreApart ms → is_known_false (value_so_far t ms) ≡ true
    → best_from t present n left ms best ≡ best
refuted t present n left members ms best of whole apart fails =
    best_stays t present n left ms best apart
    (λ more len later. ap (λ b. cond (b && improves (flag_count present (ms ++ more)) best) (Some (record { members = ms ++ more; kept = flag_count present (ms ++ more) })) best)
    (known_is t members ms more of (omega (arith, length-append ms more)) false (known_false (value_so_far t ms) fails)))

improves_less : (k l : ℕ) (best : Option Placement) → k ≤ l → improves l best ≡ false → improves k best ≡ false
improves_less k l None le is = cc
improves_less k l (Some best) le is = le-ltb best.kept k (omega (arith, ltb-false best.kept l is))

-- no more can be kept than by the best so far
pub bounded : (t : Test) (present : List Bool) (n left most : ℕ) (ms : List ℕ) (best : Option Placement) → AreApart ms → ((choice : List ℕ) → AreApart choice → flag_count present choice ≤ most)
    → improves (min most (flag_count present ms + left)) best ≡ false → best_from t present n left ms best ≡ best
bounded t present n left most ms best apart few full =
    best_stays t present n left ms best apart
    (λ more len later.
    let less : flag_count present (ms ++ more) ≤ min most (flag_count present ms + left) =
    le-min (few (ms ++ more) later) (omega (arith, sum_by-append (λ m. cond (flag_at present m) 1 0) ms more, count_by-le-length (flag_at present) more)) in
    ap (λ b. cond (passes t (ms ++ more) && b) (Some (record { members = ms ++ more; kept = flag_count present (ms ++ more) })) best) (improves_less _ _ best less full)
    ∙ ap (λ b. cond b (Some (record { members = ms ++ more; kept = flag_count present (ms ++ more) })) best) (and-false (passes t (ms ++ more))))

-- a whole choice that doesn't fail and keeps more is the best
pub taken : (t : Test) (present : List Bool) (n left members most : ℕ) (ms : List ℕ) (best : Option Placement) → IsTestOf members t → length ms ≡ members → left ≡ 0 → is_known_false (value_so_far t ms) ≡ false
    → improves (min most (flag_count present ms + left)) best ≡ true → best_from t present n left ms best ≡ Some (record { members = ms; kept = flag_count present ms })
unfolding best_from
taken t present n left members most ms best of whole none fails more =
    ap (λ l. best_from t present n l ms best) none
    ∙ (λ i. cond (holds i && improved i) (Some (record { members = ms; kept = flag_count present ms })) best)
  where
    holds : passes t ms ≡ true
    holds = not-false (passes t ms) (ap is_known_false (sym (known_all t ms (subst (λ m. IsTestOf m t) (sym whole) of))) ∙ fails)

    improved : improves (flag_count present ms) best ≡ true
    improved = by_answer (improves (flag_count present ms) best) refl
      where
        by_answer : (b : Bool) → improves (flag_count present ms) best ≡ b → improves (flag_count present ms) best ≡ true
        by_answer true is = is
        by_answer false is = absurd (true≢false (sym more ∙ improves_less (min most (flag_count present ms + left)) (flag_count present ms) best (omega (arith, min-le_right most (flag_count present ms + left))) is))

-- where members are lacking each machine has its turn
pub turns : (t : Test) (present : List Bool) (n left rest : ℕ) (ms : List ℕ) (best : Option Placement) → left ≡ suc rest
    → best_from t present n left ms best ≡ in_turn (λ m b. cond (is_among ms m) b (best_from t present n rest (ms ++ m ∷ []) b)) n best
unfolding best_from
turns t present n left rest ms best some = ap (λ l. best_from t present n l ms best) some

-- one more machine counts by its flag
pub one_flagged : (present : List Bool) (ms more : List ℕ) (m kept flag : ℕ) → kept ≡ flag_count present ms → flag ≡ cond (flag_at present m) 1 0 → more ≡ ms ++ m ∷ [] → kept + flag ≡ flag_count present more
one_flagged present ms more m kept flag counted flag_is more_is =
    omega (arith, counted, flag_is, ap (flag_count present) more_is, sum_by-append (λ k. cond (flag_at present k) 1 0) ms (m ∷ []))
