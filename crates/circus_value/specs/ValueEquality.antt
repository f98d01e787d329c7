-- Which values are equal: those whose trees are.
use Rattle.std.specs.Prelude.{◌≡◌, Bool, true, false, ◌&&◌, ◌==◌, nat_eq, List, [], ◌∷◌}
use Rattle.std.specs.Bool.{Decides, beq}
use Rattle.std.specs.Ordering.{int_eq}
use Rattle.std.specs.Cmp.{IsEquivalence, IsPartialEquivalence, partial_equiv_from_equiv, both_ways}
use Rattle.std.specs.Cmp.Lexicographic.{pointwise, bytes_decides}
use Rattle.std.proofs.Common.{sym, ap, refl}
use Rattle.std.proofs.lemmas.Bool.{false≢true}
use Rattle.std.proofs.lemmas.Bool.Decides.{Decides-and, Decides-eqb, Decides-int_eq}
use Rattle.circus_value.specs.ValueTree.{ValueTree, ValueTrees, boolean, cardinal, long_cardinal, integer, long_integer, text, enumeration, array, sequence, «record», choice, none, more, value_trees}

abbrev mutual
  pub value_eq : ValueTree → ValueTree → Bool
  value_eq (boolean a) (boolean b) = beq a b
  value_eq (cardinal m) (cardinal n) = m == n
  value_eq (long_cardinal m) (long_cardinal n) = m == n
  value_eq (integer m) (integer n) = int_eq m n
  value_eq (long_integer m) (long_integer n) = int_eq m n
  value_eq (text a) (text b) = pointwise nat_eq a b
  value_eq (enumeration m) (enumeration n) = m == n
  value_eq (array a) (array b) = items_eq a b
  value_eq (sequence a) (sequence b) = items_eq a b
  value_eq («record» a) («record» b) = items_eq a b
  value_eq (choice m a) (choice n b) = (m == n) && value_eq a b
  value_eq _ _ = false

  -- as many items, each equal to the one at its place
  pub items_eq : ValueTrees → ValueTrees → Bool
  items_eq none none = true
  items_eq (more t ts) (more u us) = value_eq t u && items_eq ts us
  items_eq _ _ = false

-- lists of values
abbrev pub values_eq : List ValueTree → List ValueTree → Bool
values_eq ts us = items_eq (value_trees ts) (value_trees us)

-- ---- equal is the same

beq_decides : (a b : Bool) → Decides (beq a b) (a ≡ b)
beq_decides true true = (λ _. refl, λ _. refl)
beq_decides true false = (λ e. sym e, λ e. sym e)
beq_decides false true = (λ e. e, λ e. e)
beq_decides false false = (λ _. refl, λ _. refl)

-- what a part decides, the whole does
pub under : {A B : Type 0} {x y : A} (test : Bool) (f : A → B) → (f x ≡ f y → x ≡ y) → Decides test (x ≡ y) → Decides test (f x ≡ f y)
under test f back d = (λ e. ap f (d.0 e), λ e. d.1 (back e))

pub apart : {A : Type 0} {x y : A} → (x ≡ y → ⊥) → Decides false (x ≡ y)
apart differs = (λ e. absurd (false≢true e), λ e. absurd (differs e))

-- what two parts decide, the whole does
pub both : {A B C : Type 0} {a b : A} {x y : B} (p q : Bool) (f : A → B → C) → (f a x ≡ f b y → (a ≡ b) × (x ≡ y)) → Decides p (a ≡ b) → Decides q (x ≡ y) → Decides (p && q) (f a x ≡ f b y)
both p q f back d e =
    let parts = Decides-and p q d e in
    (λ h. let (one, other) = parts.0 h in λ i. f (one i) (other i), λ h. parts.1 (back h))

mutual
  pub value_eq_decides : (t u : ValueTree) → Decides (value_eq t u) (t ≡ u)
  value_eq_decides (boolean a) (boolean b) = under (beq a b) boolean (λ e. cc) (beq_decides a b)
  value_eq_decides (cardinal m) (cardinal n) = under (m == n) cardinal (λ e. cc) (Decides-eqb m n)
  value_eq_decides (long_cardinal m) (long_cardinal n) = under (m == n) long_cardinal (λ e. cc) (Decides-eqb m n)
  value_eq_decides (integer m) (integer n) = under (int_eq m n) integer (λ e. cc) (Decides-int_eq m n)
  value_eq_decides (long_integer m) (long_integer n) = under (int_eq m n) long_integer (λ e. cc) (Decides-int_eq m n)
  value_eq_decides (text a) (text b) = under (pointwise nat_eq a b) text (λ e. cc) (bytes_decides a b)
  value_eq_decides (enumeration m) (enumeration n) = under (m == n) enumeration (λ e. cc) (Decides-eqb m n)
  value_eq_decides (array a) (array b) = under (items_eq a b) array (λ e. cc) (items_eq_decides a b)
  value_eq_decides (sequence a) (sequence b) = under (items_eq a b) sequence (λ e. cc) (items_eq_decides a b)
  value_eq_decides («record» a) («record» b) = under (items_eq a b) «record» (λ e. cc) (items_eq_decides a b)
  value_eq_decides (choice m a) (choice n b) = both (m == n) (value_eq a b) choice (λ e. (cc, cc)) (Decides-eqb m n) (value_eq_decides a b)
  value_eq_decides _ _ = apart (λ e. cc)

  pub items_eq_decides : (ts us : ValueTrees) → Decides (items_eq ts us) (ts ≡ us)
  items_eq_decides none none = (λ _. refl, λ _. refl)
  items_eq_decides (more t ts) (more u us) = both (value_eq t u) (items_eq ts us) more (λ e. (cc, cc)) (value_eq_decides t u) (items_eq_decides ts us)
  items_eq_decides _ _ = apart (λ e. cc)

pub value_trees-injective : (ts us : List ValueTree) → value_trees ts ≡ value_trees us → ts ≡ us
value_trees-injective [] [] e = refl
value_trees-injective [] (u ∷ us) e = cc
value_trees-injective (t ∷ ts) [] e = cc
value_trees-injective (t ∷ ts) (u ∷ us) e =
    let here : t ≡ u = cc in
    let rest : value_trees ts ≡ value_trees us = cc in
    λ i. here i ∷ value_trees-injective ts us rest i

pub values_eq_decides : (ts us : List ValueTree) → Decides (values_eq ts us) (ts ≡ us)
values_eq_decides ts us =
    let d = items_eq_decides (value_trees ts) (value_trees us) in
    (λ e. value_trees-injective ts us (d.0 e), λ e. d.1 (ap value_trees e))

-- ---- a test that decides equality is an equivalence

module _ {K : Type 0} (test : K → K → Bool) (decides : (x y : K) → Decides (test x y) (x ≡ y)) where
  pub equivalence_from_decides : IsEquivalence test
  equivalence_from_decides = record {
    refl = λ x. (decides x x).1 refl;
    symm = λ x y. both_ways (test x y) (test y x) (λ e. (decides y x).1 (sym ((decides x y).0 e))) (λ e. (decides x y).1 (sym ((decides y x).0 e)));
    congr = λ x y z e. ap (λ w. test w z) ((decides x y).0 e);
  }

pub value_eq_equiv : IsEquivalence value_eq
value_eq_equiv = equivalence_from_decides value_eq value_eq_decides

pub value_eq_per : IsPartialEquivalence value_eq
value_eq_per = partial_equiv_from_equiv value_eq_equiv

pub values_eq_equiv : IsEquivalence values_eq
values_eq_equiv = equivalence_from_decides values_eq values_eq_decides

pub values_eq_per : IsPartialEquivalence values_eq
values_eq_per = partial_equiv_from_equiv values_eq_equiv
