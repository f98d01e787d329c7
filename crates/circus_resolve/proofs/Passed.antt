-- What follows where no fault stands.
use Rattle.std.proofs.Common.{◌≡◌, ℕ, suc, ◌+◌, ◌<◌, Bool, true, false, ◌&&◌, ◌||◌, ◌==◌, nat_lt, cond, if◌then◌else◌, IsTrue, List, [], ◌∷◌, Option, Some, None, bytes_eq, refl, sym, ap, subst, ◌∙◌, arith}
use Rattle.std.specs.Prelude.{is_none}
use Rattle.std.specs.List.{AllByRecursion, list_any}
use Rattle.std.proofs.lemmas.Bool.{false≢true}
use Rattle.std.proofs.lemmas.Bool.Decides.{Decides-eqb, nat_tests}
use Rattle.circus_value.specs.declared.shape.Label.{Label}
use Rattle.circus_value.specs.ShapeTree.{FieldTrees, ArmTrees, no_fields, more_fields, no_arms, more_arms}
use Rattle.circus_value.specs.ShapeTree as shape
use Rattle.circus_value.specs.ValueTree as value
use Rattle.circus_value.specs.Fits.{is_labelled}
use Rattle.circus_checked.specs.Sorts.{Sort, a_number, of, a_truth, field_in, arm_in}
use Rattle.circus_fault.specs.Least.{faults_if}
use Rattle.circus_resolve.specs.declared.cause.CheckCause.{CheckCause}
use Rattle.circus_resolve.specs.Passing.{sort_eq, is_number, is_truth, is_text}
use Rattle.circus_resolve.specs.Faults.{faults_unless}
use Rattle.circus_resolve.specs.Named.{FieldFound, ArmFound, label_named, field_from, arm_named}
use Rattle.circus_resolve.specs.Regular.{IsRegular, AreRegular, HasRegular, HasNone}
use Rattle.circus_resolve.proofs.Deciding.{shapes_decide}

-- no fault where it isn't one
pub no_fault : (b : Bool) (at : ℕ) (cause : CheckCause) → faults_if b at cause ≡ [] → b ≡ false
no_fault true at cause none = absurd (cc)
no_fault false at cause none = refl

pub passed : (b : Bool) (at : ℕ) → faults_unless b at ≡ [] → b ≡ true
passed true at none = refl
passed false at none = absurd (cc)

-- a sort that passes
pub number_is : (s : Sort) → is_number s ≡ true → s ≡ a_number
number_is a_number is = refl
number_is (of s) is = absurd (false≢true is)

pub truth_is : (s : Sort) → is_truth s ≡ true → s ≡ a_truth
truth_is a_number is = absurd (false≢true is)
truth_is (of shape.boolean) is = refl
truth_is (of _) is = absurd (false≢true is)

pub text_is : (s : Sort) → is_text s ≡ true → s ≡ of shape.text
text_is a_number is = absurd (false≢true is)
text_is (of shape.text) is = refl
text_is (of _) is = absurd (false≢true is)

pub same_sort : (s t : Sort) → sort_eq s t ≡ true → s ≡ t
same_sort a_number a_number is = refl
same_sort a_number (of t) is = absurd (false≢true is)
same_sort (of s) a_number is = absurd (false≢true is)
same_sort (of s) (of t) is = ap of ((shapes_decide s t).0 is)

-- what is found by its name
pub some_found : {A : Type 0} (o : Option A) → is_none o ≡ false → (x : A) × (o ≡ Some x)
some_found None is = absurd (false≢true (sym is))
some_found (Some x) is = (x, refl)

or_true : (b : Bool) → (b || true) ≡ true
or_true true = refl
or_true false = refl

below_is : (n m : ℕ) → n < m → nat_lt n m ≡ true
below_is n m below = grind (arith, nat_tests)

-- a label has its number
pub label_fits : (labels : List Label) (name : List ℕ) (n : ℕ) → AllByRecursion (λ (l : Label). l.number < 65536) labels → label_named labels name ≡ Some n → (n < 65536) × (list_any (λ (l : Label). l.number == n) labels ≡ true)
label_fits [] name n all is = absurd (cc)
label_fits (l ∷ ls) name n all is = by_name (λ later. label_fits ls name n all.1 later) (bytes_eq l.name name) is
  where
    by_name : (label_named ls name ≡ Some n → (n < 65536) × (list_any (λ (m : Label). m.number == n) ls ≡ true))
        → (b : Bool) → cond b (Some l.number) (label_named ls name) ≡ Some n → (n < 65536) × (list_any (λ (m : Label). m.number == n) (l ∷ ls) ≡ true)
    by_name others true found =
        let same : l.number ≡ n = cc in
        (subst (λ k. k < 65536) same all.0, ap (λ b. b || list_any (λ (m : Label). m.number == n) ls) ((Decides-eqb l.number n).1 same))
    by_name others false found =
        let (below, there) = others found in
        (below, ap (λ b. (l.number == n) || b) there ∙ or_true (l.number == n))

pub label_is : (labels : List Label) (name : List ℕ) (n : ℕ) → AllByRecursion (λ (l : Label). l.number < 65536) labels → label_named labels name ≡ Some n → IsTrue (is_labelled labels (value.enumeration n))
label_is labels name n all is =
    let (below, there) = label_fits labels name n all is in
    ap (λ b. b && list_any (λ (l : Label). l.number == n) labels) (below_is n 65536 below) ∙ there

-- a field has its place
pub record FieldIs (before : ℕ) (fs : FieldTrees) (f : FieldFound) : Type 0 where
  pub place : ℕ
  pub at : f.place ≡ before + place
  pub there : field_in fs place ≡ Some f.shape
  pub regular : IsRegular f.shape

pub field_is : (before : ℕ) (fs : FieldTrees) (name : List ℕ) (f : FieldFound) → AreRegular fs → field_from before fs name ≡ Some f → FieldIs before fs f
field_is before no_fields name f all is = absurd (cc)
field_is before (more_fields n s fs) name f all is = by_name (λ later. field_is (suc before) fs name f all.1 later) (bytes_eq n name) is
  where
    by_name : (field_from (suc before) fs name ≡ Some f → FieldIs (suc before) fs f)
        → (b : Bool) → cond b (Some (record { place = before; shape = s })) (field_from (suc before) fs name) ≡ Some f → FieldIs before (more_fields n s fs) f
    by_name others true found =
        let same : record { place = before; shape = s } ≡ f = cc in
        record {
          place = 0;
          at = omega (arith, ap (λ (x : FieldFound). x.place) same);
          there = ap (λ (x : FieldFound). Some x.shape) same;
          regular = subst (λ (x : FieldFound). IsRegular x.shape) same all.0;
        }
    by_name others false found =
        let later = others found in
        record { place = suc later.place; at = omega (arith, later.at); there = later.there; regular = later.regular }

-- an arm has its number
none_has : (n : ℕ) (arms : ArmTrees) (name : List ℕ) (a : ArmFound) → HasNone n arms → arm_named arms name ≡ Some a → n ≡ a.number → ⊥
none_has n no_arms name a none is same = cc
none_has n (more_arms m k s arms) name a none is same = by_name (λ later. none_has n arms name a none.1 later same) (bytes_eq m name) is
  where
    by_name : (arm_named arms name ≡ Some a → ⊥) → (b : Bool) → cond b (Some (record { number = k; shape = s })) (arm_named arms name) ≡ Some a → ⊥
    by_name others true found = let here : record { number = k; shape = s } ≡ a = cc in none.0 (same ∙ sym (ap (λ (x : ArmFound). x.number) here))
    by_name others false found = others found

another : (m n : ℕ) → (n ≡ m → ⊥) → (m == n) ≡ false
another m n differs = by_test (m == n) refl
  where
    by_test : (b : Bool) → (m == n) ≡ b → b ≡ false
    by_test true is = absurd (differs (sym ((Decides-eqb m n).0 is)))
    by_test false is = refl

pub record ArmIs (arms : ArmTrees) (a : ArmFound) : Type 0 where
  pub below : a.number < 65536
  pub there : arm_in arms a.number ≡ Some a.shape
  pub regular : IsRegular a.shape

pub arm_is : (arms : ArmTrees) (name : List ℕ) (a : ArmFound) → HasRegular arms → arm_named arms name ≡ Some a → ArmIs arms a
arm_is no_arms name a all is = absurd (cc)
arm_is (more_arms m n s arms) name a all is = by_name (λ later. arm_is arms name a all.others later) (bytes_eq m name) is
  where
    by_name : (arm_named arms name ≡ Some a → ArmIs arms a) → (b : Bool) → cond b (Some (record { number = n; shape = s })) (arm_named arms name) ≡ Some a → ArmIs (more_arms m n s arms) a
    by_name others true found =
        let here : record { number = n; shape = s } ≡ a = cc in
        record {
          below = subst (λ (x : ArmFound). x.number < 65536) here all.below;
          there = ap (λ b. if b then Some s else arm_in arms a.number) ((Decides-eqb a.number n).1 (sym (ap (λ (x : ArmFound). x.number) here))) ∙ ap (λ (x : ArmFound). Some x.shape) here;
          regular = subst (λ (x : ArmFound). IsRegular x.shape) here all.own;
        }
    by_name others false found =
        let later = others found in
        record {
          below = later.below;
          there = ap (λ b. if b then Some s else arm_in arms a.number) (another a.number n (λ same. none_has n arms name a all.distinct found same)) ∙ later.there;
          regular = later.regular;
        }
