-- What the search finds is the best choice.
use Rattle.std.proofs.Common.{◌≡◌, ◌≢◌, ℕ, zero, suc, ◌+◌, ◌<◌, ◌≤◌, ◌⊎◌, inl, inr, Bool, true, false, cond, List, [], ◌∷◌, length, get_or, refl, sym, ◌∙◌, ap, subst, arith}
use Rattle.std.specs.Prelude.{◌==◌, ◌||◌, Option, Some, None, IfSome, IfNone, unwrap_or, All, AllPairs, count_by}
use Rattle.std.specs.List.{list_any}
use Rattle.std.proofs.lemmas.Bool.{or_parts, eqb-true, eq-eqb, true≢false, false_from_ne_true, cases_lt}
use Rattle.std.proofs.lemmas.List.Sums.{sum_by-cons}
use Rattle.std.proofs.lemmas.List.Elements.{All-head, All-tail}
use Rattle.std.proofs.lemmas.Option.{slice_get_past}
use Rattle.circus_place.specs.declared.placing.Machine.{Machine}
use Rattle.circus_place.specs.declared.placing.Placing.{Placing}
use Rattle.circus_place.specs.ConditionTree.{tree_of}
use Rattle.circus_place.specs.Value.{does_hold}
use Rattle.circus_place.specs.Choice.{IsChoice, Satisfies, kept_by, IsBest}
use Rattle.circus_place.specs.declared.choice.Placement.{Placement}
use Rattle.circus_place.specs.declared.test.Test.{Test}
use Rattle.circus_place.specs.Seen.Table.{AreTablesOf, flag_at}
use Rattle.circus_place.specs.declared.attributes.Attributes.{Attributes}
use Rattle.circus_place.specs.Seen.Test.{passes, ArePlaced}
use Rattle.circus_value.specs.Among.{is_among}
use Rattle.circus_place.specs.Seen.Search.{flag_count, AreApart, best_from}
use Rattle.circus_place.proofs.Best.{Champion, IsChampion, Extends, And, best_is}

-- Distinct numbers.

unlike_any : (ms : List ℕ) (m : ℕ) → ((k d : ℕ) → k < length ms → m ≢ get_or ms k d) → is_among ms m ≡ false
unlike_any [] m other = refl
unlike_any (x ∷ xs) m other =
    let first : x == m ≡ false = false_from_ne_true (x == m) (λ same. other 0 0 (omega arith) (sym (eqb-true x m same))) in
    λ i. first i || unlike_any xs m (λ k d low. other (suc k) d (omega arith)) i

apart_of : (ms : List ℕ) → AllPairs (λ m n. m ≢ n) ms → AreApart ms
apart_of [] pairs = tt
apart_of (m ∷ ms) pairs = (unlike_any ms m (λ k d low. pairs 0 (suc k) d (omega arith) (omega arith)), apart_of ms (λ i j d less low. pairs (suc i) (suc j) d (omega arith) (omega arith)))

unlike_each : (ms : List ℕ) (m k d : ℕ) → is_among ms m ≡ false → k < length ms → m ≢ get_or ms k d
unlike_each [] m k d free low = absurd (omega arith)
unlike_each (x ∷ xs) m zero d free low = λ same. true≢false (sym (eq-eqb x m (sym same)) ∙ (or_parts (x == m) (is_among xs m) free).0)
unlike_each (x ∷ xs) m (suc k) d free low = unlike_each xs m k d (or_parts (x == m) (is_among xs m) free).1 (omega arith)

pairs_of : (ms : List ℕ) → AreApart ms → AllPairs (λ m n. m ≢ n) ms
pairs_of [] apart i j d less low = absurd (omega arith)
pairs_of (m ∷ ms) apart zero zero d less low = absurd (omega arith)
pairs_of (m ∷ ms) apart zero (suc j) d less low = unlike_each ms m j d apart.0 (omega arith)
pairs_of (m ∷ ms) apart (suc i) zero d less low = absurd (omega arith)
pairs_of (m ∷ ms) apart (suc i) (suc j) d less low = pairs_of ms apart.1 i j d (omega arith) (omega arith)

-- How many are kept.

abbrev number : Bool → ℕ
number b = cond b 1 0

-- one more number counts by the test
counts : (test : ℕ → Bool) (m : ℕ) (ms : List ℕ) → count_by test (m ∷ ms) ≡ cond (test m) 1 0 + count_by test ms
counts test m ms = sum_by-cons (λ k. cond (test k) 1 0) m ms

counts_none : (p : ℕ) (ms : List ℕ) → is_among ms p ≡ false → count_by (λ m. m == p) ms ≡ 0
counts_none p [] free = refl
counts_none p (x ∷ xs) free =
    let (other, later) = or_parts (x == p) (is_among xs p) free in
    counts (λ m. m == p) x xs ∙ (λ i. cond (other i) 1 0 + counts_none p xs later i)

counts_once : (p : ℕ) (ms : List ℕ) → AreApart ms → count_by (λ m. m == p) ms ≤ 1
counts_once p [] apart = omega arith
counts_once p (m ∷ ms) apart = by_answer (m == p) refl (counts_once p ms apart.1)
  where
    by_answer : (b : Bool) → m == p ≡ b → count_by (λ k. k == p) ms ≤ 1 → count_by (λ k. k == p) (m ∷ ms) ≤ 1
    by_answer true same later = omega (arith, counts (λ k. k == p) m ms, ap number same, counts_none p ms (subst (λ k. is_among ms k ≡ false) (eqb-true m p same) apart.0))
    by_answer false other later = omega (arith, counts (λ k. k == p) m ms, ap number other, later)

either_one : (a b : Bool) → cond (a || b) 1 0 ≤ cond a 1 0 + cond b 1 0
either_one true true = omega arith
either_one true false = omega arith
either_one false true = omega arith
either_one false false = omega arith

either_counts : (f g : ℕ → Bool) (ms : List ℕ) → count_by (λ m. f m || g m) ms ≤ count_by f ms + count_by g ms
either_counts f g [] = omega arith
either_counts f g (m ∷ ms) = omega (arith, either_counts f g ms, either_one (f m) (g m), counts (λ k. f k || g k) m ms, counts f m ms, counts g m ms)

-- no more numbers than there are can be among these
few_among : (ps ms : List ℕ) → AreApart ms → count_by (λ m. list_any (λ n. m == n) ps) ms ≤ length ps
few_among [] ms apart = none ms
  where
    none : (ks : List ℕ) → count_by (λ m. false) ks ≤ 0
    none [] = omega arith
    none (k ∷ ks) = omega (arith, counts (λ m. false) k ks, none ks)
few_among (p ∷ ps) ms apart = omega (arith, either_counts (λ m. m == p) (λ m. list_any (λ n. m == n) ps) ms, counts_once p ms apart, few_among ps ms apart)

flag_past : (present : List Bool) (m : ℕ) → length present ≤ m → flag_at present m ≡ false
flag_past present m past = ap (λ (o : Option Bool). unwrap_or o false) (slice_get_past present m past)

fewer_flags : (present : List Bool) (among : ℕ → Bool) (n : ℕ) (ms : List ℕ) → length present ≡ n → ((m : ℕ) → m < n → flag_at present m ≡ among m) → flag_count present ms ≤ count_by among ms
fewer_flags present among n [] len flags = omega arith
fewer_flags present among n (m ∷ ms) len flags = omega (arith, counts (flag_at present) m ms, counts among m ms, fewer_flags present among n ms len flags, one (cases_lt m n))
  where
    one : (m < n) ⊎ (n ≤ m) → cond (flag_at present m) 1 0 ≤ cond (among m) 1 0
    one (inl low) = omega (arith, ap number (flags m low))
    one (inr past) = omega (arith, ap number (flag_past present m (omega (arith, len, past))))

same_flags : (present : List Bool) (among : ℕ → Bool) (n : ℕ) (ms : List ℕ) → ((m : ℕ) → m < n → flag_at present m ≡ among m) → All (λ m. m < n) ms → flag_count present ms ≡ count_by among ms
same_flags present among n [] flags below = refl
same_flags present among n (m ∷ ms) flags below =
    counts (flag_at present) m ms ∙ (λ i. cond (flags m (All-head (λ k. k < n) m ms below) i) 1 0 + same_flags present among n ms flags (All-tail (λ k. k < n) m ms below) i) ∙ sym (counts among m ms)

-- the machines of a placing at which a member is present
abbrev pub is_present : Placing → ℕ → Bool
is_present p m = list_any (λ n. m == n) p.present

pub most_kept : (p : Placing) (present : List Bool) → length present ≡ length p.machines → ((m : ℕ) → m < length p.machines → flag_at present m ≡ is_present p m)
    → (choice : List ℕ) → AreApart choice → flag_count present choice ≤ length p.present
most_kept p present len flags choice apart = omega (arith, fewer_flags present (is_present p) (length p.machines) choice len flags, few_among p.present choice apart)

-- Choices.

extends_choice : (p : Placing) (c : List ℕ) → IsChoice p c → Extends (length p.machines) p.members [] c
extends_choice p c is = record { more = c; is = refl; len = is.whole; below = is.machines; apart = apart_of c is.distinct }

choice_extends : (p : Placing) (c : List ℕ) → Extends (length p.machines) p.members [] c → IsChoice p c
choice_extends p c e = record {
  whole = ap length e.is ∙ e.len;
  machines = subst (All (λ m. m < length p.machines)) (sym e.is) e.below;
  distinct = pairs_of c e.apart;
}

abbrev pub Nothing : List ℕ → Type 0
Nothing c = ⊥

-- what a test and flags must be for a placing
pub record AreFor (p : Placing) (t : Test) (present : List Bool) : Type 0 where
  pub test : (choice : List ℕ) → ArePlaced p.members (length p.machines) choice → passes t choice ≡ does_hold p.machines choice (tree_of p.condition)
  pub flags : (m : ℕ) → m < length p.machines → flag_at present m ≡ is_present p m

-- a test and flags that were made for a placing are for it
pub are_for : (p : Placing) (t : Test) (present : List Bool) (tables : List Attributes) (members : ℕ) → AreTablesOf p.machines tables → members ≡ p.members
    → ((machines : List Machine) (choice : List ℕ) → AreTablesOf machines tables → ArePlaced members (length machines) choice → passes t choice ≡ does_hold machines choice (tree_of p.condition))
    → ((m : ℕ) → m < length p.machines → flag_at present m ≡ is_present p m) → AreFor p t present
are_for p t present tables members are members_are same flags = record {
  test = λ choice placed. same p.machines choice are (placed.0 ∙ sym members_are, placed.1);
  flags = flags;
}

-- the best of all choices
pub found_is : (p : Placing) (t : Test) (present : List Bool) → AreFor p t present → (best : Option Placement) (n left : ℕ) (ms : List ℕ) → n ≡ length p.machines → left ≡ p.members → ms ≡ [] → best ≡ best_from t present n left ms None
    → Champion t present (And Nothing (Extends (length p.machines) p.members [])) best
found_is p t present are best n left ms n_is left_is none is =
    subst (Champion t present (And Nothing (Extends (length p.machines) p.members []))) (sym (is ∙ (λ i. best_from t present (n_is i) (left_is i) (none i) None)))
    (best_is t present (length p.machines) p.members [] Nothing None tt (λ s more seen. absurd seen) (λ c seen passed. seen))

placed : (p : Placing) (c : List ℕ) → IsChoice p c → ArePlaced p.members (length p.machines) c
placed p c is = (is.whole, is.machines)

kept_is : (p : Placing) (t : Test) (present : List Bool) → AreFor p t present → (c : List ℕ) → IsChoice p c → flag_count present c ≡ kept_by p c
kept_is p t present are c is = same_flags present (is_present p) (length p.machines) c are.flags is.machines

champion_choice : (p : Placing) (c : List ℕ) → And Nothing (Extends (length p.machines) p.members []) c → IsChoice p c
champion_choice p c (inl none) = absurd none
champion_choice p c (inr e) = choice_extends p c e

champion_kept : (p : Placing) (t : Test) (present : List Bool) → AreFor p t present → (x : Placement) → IsChampion t present (And Nothing (Extends (length p.machines) p.members [])) x → x.kept ≡ kept_by p x.members
champion_kept p t present are x champion = champion.counted ∙ kept_is p t present are x.members (champion_choice p x.members champion.seen)

champion_best : (p : Placing) (t : Test) (present : List Bool) → AreFor p t present → (x : Placement) → IsChampion t present (And Nothing (Extends (length p.machines) p.members [])) x → IsBest p x.members
champion_best p t present are x champion =
    let is : IsChoice p x.members = champion_choice p x.members champion.seen in
    let kept : x.kept ≡ kept_by p x.members = champion_kept p t present are x champion in
    record {
      is_choice = is;
      satisfies = sym (are.test x.members (placed p x.members is)) ∙ champion.satisfies;
      most = λ c choice satisfied.
          omega (arith, champion.most c (inr (extends_choice p c choice)) (are.test c (placed p c choice) ∙ satisfied), kept_is p t present are c choice, kept);
      first = λ c choice satisfied same.
          champion.first c (inr (extends_choice p c choice)) (are.test c (placed p c choice) ∙ satisfied) (kept_is p t present are c choice ∙ same ∙ sym kept);
    }

champion_none : (p : Placing) (t : Test) (present : List Bool) → AreFor p t present → Champion t present (And Nothing (Extends (length p.machines) p.members [])) None → (c : List ℕ) → IsChoice p c → Satisfies p c → ⊥
champion_none p t present are champion c choice satisfied = champion c (inr (extends_choice p c choice)) (are.test c (placed p c choice) ∙ satisfied)

pub found_best : (p : Placing) (t : Test) (present : List Bool) → AreFor p t present → (best : Option Placement) → Champion t present (And Nothing (Extends (length p.machines) p.members [])) best → IfSome best (λ x. IsBest p x.members)
found_best p t present are None champion = tt
found_best p t present are (Some x) champion = champion_best p t present are x champion

pub found_kept : (p : Placing) (t : Test) (present : List Bool) → AreFor p t present → (best : Option Placement) → Champion t present (And Nothing (Extends (length p.machines) p.members [])) best → IfSome best (λ x. x.kept ≡ kept_by p x.members)
found_kept p t present are None champion = tt
found_kept p t present are (Some x) champion = champion_kept p t present are x champion

pub found_none : (p : Placing) (t : Test) (present : List Bool) → AreFor p t present → (best : Option Placement) → Champion t present (And Nothing (Extends (length p.machines) p.members [])) best
    → IfNone best ((c : List ℕ) → IsChoice p c → Satisfies p c → ⊥)
found_none p t present are None champion = champion_none p t present are champion
found_none p t present are (Some x) champion = tt
