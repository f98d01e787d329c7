-- What is known of a test when the first members are placed.
use Rattle.std.proofs.Common.{◌≡◌, ℕ, zero, suc, Bool, true, false, cond, List, [], ◌∷◌, ◌++◌, length, refl, sym, ◌∙◌, ap, arith, eq-eqb, append-nil, length-append, ◌≤◌}
use Rattle.std.specs.Prelude.{Option, Some, None, option_map, slice_get, slice_index, ◌&&◌, ◌||◌, not, nat_eq}
use Rattle.std.specs.List.{list_any}
use Rattle.std.proofs.Math.Bool.{or-true, and-false}
use Rattle.std.proofs.lemmas.Bool.{and_parts, not-true, true≢false, eqb-true}
use Rattle.std.proofs.lemmas.Option.{slice_get-get_or}
use Rattle.circus_place.specs.declared.relation.Relation.{Relation}
use Rattle.circus_place.specs.declared.test.Test.{Test, Or', And', Not', Related, Differ}
use Rattle.circus_place.specs.Seen.Table.{flag_at, relates}
use Rattle.circus_place.specs.Seen.Test.{differs, passes, known_or, known_and, known_related, value_so_far, IsTestOf}

-- what is known is so
abbrev Tells : Option Bool → Bool → Type 0
Tells value_so_far b = (c : Bool) → value_so_far ≡ Some c → b ≡ c

tells_or : (k l : Option Bool) (b d : Bool) → Tells k b → Tells l d → Tells (known_or k l) (b || d)
tells_or (Some true) l b d left right c is = ap (λ x. x || d) (left true refl) ∙ cc
tells_or (Some false) l b d left right c is = ap (λ x. x || d) (left false refl) ∙ right c is
tells_or None (Some true) b d left right c is = ap (λ x. b || x) (right true refl) ∙ or-true b ∙ cc
tells_or None (Some false) b d left right c is = cc
tells_or None None b d left right c is = cc

tells_and : (k l : Option Bool) (b d : Bool) → Tells k b → Tells l d → Tells (known_and k l) (b && d)
tells_and (Some false) l b d left right c is = ap (λ x. x && d) (left false refl) ∙ cc
tells_and (Some true) l b d left right c is = ap (λ x. x && d) (left true refl) ∙ right c is
tells_and None (Some false) b d left right c is = ap (λ x. b && x) (right false refl) ∙ and-false b ∙ cc
tells_and None (Some true) b d left right c is = cc
tells_and None None b d left right c is = cc

tells_not : (k : Option Bool) (b : Bool) → Tells k b → Tells (option_map not k) (not b)
tells_not None b inner c is = cc
tells_not (Some d) b inner c is = ap not (inner d refl) ∙ cc

-- the first machines stay
kept_at : (ms more : List ℕ) (i m : ℕ) → slice_get ms i ≡ Some m → slice_index (ms ++ more) i ≡ m
kept_at [] more i m is = cc
kept_at (x ∷ xs) more zero m is = cc
kept_at (x ∷ xs) more (suc i) m is = kept_at xs more i m is

tells_related : (r : Relation) (ms more : List ℕ) (i j : ℕ) (o p : Option ℕ) → slice_get ms i ≡ o → slice_get ms j ≡ p → Tells (known_related r o p) (relates r (slice_index (ms ++ more) i) (slice_index (ms ++ more) j))
tells_related r ms more i j (Some m) (Some n) first second c is =
    (λ k. relates r (kept_at ms more i m first k) (kept_at ms more j n second k)) ∙ cc
tells_related r ms more i j (Some m) None first second c is = cc
tells_related r ms more i j None p first second c is = cc

or_none : (a b c : Bool) → (b ≡ false → c ≡ false) → (a || b) ≡ false → (a || c) ≡ false
or_none true b c later none = none
or_none false b c later none = later none

any_sooner : (test : ℕ → Bool) (ms more : List ℕ) → list_any test (ms ++ more) ≡ false → list_any test ms ≡ false
any_sooner test [] more none = refl
any_sooner test (m ∷ ms) more none = or_none (test m) (list_any test (ms ++ more)) (list_any test ms) (any_sooner test ms more) none

-- machines that differ from later ones too differ
differ_sooner : (has : List Bool) (same : Relation) (ms more : List ℕ) → differs has same (ms ++ more) ≡ true → differs has same ms ≡ true
differ_sooner has same [] more d = refl
differ_sooner has same (m ∷ ms) more d =
    let (front, others) = and_parts (flag_at has m && not (list_any (relates same m) (ms ++ more))) (differs has same (ms ++ more)) d in
    let (there, unlike) = and_parts (flag_at has m) (not (list_any (relates same m) (ms ++ more))) front in
    let none = any_sooner (relates same m) ms more (not-true (list_any (relates same m) (ms ++ more)) unlike) in
    let later = differ_sooner has same ms more others in
    λ i. (there i && not (none i)) && later i

tells_differ : (has : List Bool) (same : Relation) (ms more : List ℕ) (members : ℕ) → length (ms ++ more) ≡ members → (b e : Bool) → differs has same ms ≡ b → nat_eq (length ms) members ≡ e
    → Tells (cond b (cond e (Some true) None) (Some false)) (differs has same (ms ++ more))
tells_differ has same ms more members whole true true differ all c is =
    let none : more ≡ [] = no_more more (omega (arith, length-append ms more, eqb-true (length ms) members all)) in
    ap (λ l. differs has same (ms ++ l)) none ∙ ap (differs has same) (append-nil ms) ∙ differ ∙ cc
  where
    no_more : (l : List ℕ) → length l ≤ 0 → l ≡ []
    no_more [] few = refl
    no_more (x ∷ xs) few = absurd (omega arith)
tells_differ has same ms more members whole true false differ some c is = cc
tells_differ has same ms more members whole false e differ all c is = by_answer (differs has same (ms ++ more)) refl
  where
    by_answer : (d : Bool) → differs has same (ms ++ more) ≡ d → differs has same (ms ++ more) ≡ c
    by_answer true later = absurd (true≢false (sym (differ_sooner has same ms more later) ∙ differ))
    by_answer false later = later ∙ cc

-- what is known of the first members is so of each choice that begins with them
pub known_is : (t : Test) (members : ℕ) (ms more : List ℕ) → IsTestOf members t → length (ms ++ more) ≡ members → (b : Bool) → value_so_far t ms ≡ Some b → passes t (ms ++ more) ≡ b
known_is (Or' p l q r) members ms more of whole = tells_or (value_so_far l ms) (value_so_far r ms) (passes l (ms ++ more)) (passes r (ms ++ more)) (known_is l members ms more of.0 whole) (known_is r members ms more of.1 whole)
known_is (And' p l q r) members ms more of whole = tells_and (value_so_far l ms) (value_so_far r ms) (passes l (ms ++ more)) (passes r (ms ++ more)) (known_is l members ms more of.0 whole) (known_is r members ms more of.1 whole)
known_is (Not' p t) members ms more of whole = tells_not (value_so_far t ms) (passes t (ms ++ more)) (known_is t members ms more of whole)
known_is (Related i j r) members ms more of whole = tells_related r ms more i j (slice_get ms i) (slice_get ms j) refl refl
known_is (Differ all has same) members ms more of whole = tells_differ has same ms more all (whole ∙ sym of) (differs has same ms) (nat_eq (length ms) all) refl refl

-- of all members it is known
pub known_all : (t : Test) (ms : List ℕ) → IsTestOf (length ms) t → value_so_far t ms ≡ Some (passes t ms)
known_all (Or' p l q r) ms of = (λ i. known_or (known_all l ms of.0 i) (known_all r ms of.1 i)) ∙ both_known (passes l ms) (passes r ms)
  where
    both_known : (b d : Bool) → known_or (Some b) (Some d) ≡ Some (b || d)
    both_known true d = refl
    both_known false d = refl
known_all (And' p l q r) ms of = (λ i. known_and (known_all l ms of.0 i) (known_all r ms of.1 i)) ∙ both_known (passes l ms) (passes r ms)
  where
    both_known : (b d : Bool) → known_and (Some b) (Some d) ≡ Some (b && d)
    both_known true d = refl
    both_known false d = refl
known_all (Not' p t) ms of = ap (option_map not) (known_all t ms of)
known_all (Related i j r) ms of = λ k. known_related r (slice_get-get_or ms i 0 of.0 k) (slice_get-get_or ms j 0 of.1 k)
known_all (Differ all has same) ms of =
    ap (λ b. cond (differs has same ms) (cond b (Some true) None) (Some false)) (eq-eqb (length ms) all (sym of)) ∙ by_answer (differs has same ms)
  where
    by_answer : (b : Bool) → cond b (Some true) (Some false) ≡ Some b
    by_answer true = refl
    by_answer false = refl
