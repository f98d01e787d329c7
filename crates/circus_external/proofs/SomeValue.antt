-- A value for each proper shape.
use Rattle.std.proofs.Common.{◌≡◌, ◌⊎◌, inl, inr, ℕ, zero, suc, ◌<◌, Bool, true, false, cond, ◌&&◌, ◌||◌, nat_eq, nat_lt, List, [], ◌∷◌, refl, ap, ◌∙◌, arith}
use Rattle.std.specs.Prelude.{pos}
use Rattle.std.specs.List.{list_any}
use Rattle.std.proofs.lemmas.Bool.{ltb-true, eq-eqb, le-leb, lt-ltb}
use Rattle.circus_value.specs.ValueTree.{ValueTree, ValueTrees, none, more, value_trees}
use Rattle.circus_value.specs.ValueTree as V
use Rattle.circus_value.specs.ShapeTree.{ShapeTree, FieldTrees, ArmTrees, no_fields, more_fields, no_arms, more_arms}
use Rattle.circus_value.specs.ShapeTree as S
use Rattle.circus_value.specs.declared.shape.Label.{Label}
use Rattle.circus_value.specs.Fits.{fits, fields_fit, arm_fits, every, count_of}
use Rattle.circus_external.specs.Spelling.{fields_admit}
use Rattle.circus_external.specs.Refusal.{is_proper, are_proper, arms_are_proper, has_arm}
use Rattle.circus_external.proofs.ShapesAlike.{and_both}

or_either : (a b : Bool) → (a || b) ≡ true → (a ≡ true) ⊎ (b ≡ true)
or_either true b h = inl refl
or_either false b h = inr h

or_second : (a b : Bool) → b ≡ true → (a || b) ≡ true
or_second true b h = refl
or_second false b h = h

-- the number of a label
pub some_label : (labels : List Label) → list_any (λ (l : Label). nat_lt l.number 65536) labels ≡ true → (n : ℕ) × (n < 65536) × (list_any (λ (l : Label). nat_eq l.number n) labels ≡ true)
some_label [] proper = cc
some_label (l ∷ labels) proper =
    elim (or_either (nat_lt l.number 65536) (list_any (λ (k : Label). nat_lt k.number 65536) labels) proper) [
      | inl here ↦ (l.number, ltb-true l.number 65536 here, ap (λ b. b || list_any (λ (k : Label). nat_eq k.number l.number) labels) (eq-eqb l.number l.number refl))
      | inr later ↦ let r = some_label labels later in (r.0, r.1, or_second (nat_eq l.number r.0) _ r.2)
    ]

-- the arms have one with the number
abbrev pub names : ArmTrees → ℕ → Bool
names no_arms n = false
names (more_arms _ number _ arms) n = cond (nat_eq n number) true (names arms n)

pub some_arm : (arms : ArmTrees) → has_arm arms ≡ true → (n : ℕ) × (n < 65536) × (names arms n ≡ true)
some_arm no_arms proper = cc
some_arm (more_arms name m s arms) proper =
    elim (or_either (nat_lt m 65536) (has_arm arms) proper) [
      | inl here ↦ (m, ltb-true m 65536 here, ap (λ b. cond b true (names arms m)) (eq-eqb m m refl))
      | inr later ↦ let r = some_arm arms later in (r.0, r.1, kept (nat_eq r.0 m) (names arms r.0) r.2)
    ]
  where
    kept : (b c : Bool) → c ≡ true → cond b true c ≡ true
    kept true c h = refl
    kept false c h = h

-- the same value so many times
abbrev pub copies : ℕ → ValueTree → List ValueTree
copies zero t = []
copies (suc n) t = t ∷ copies n t

-- so many values that pass
abbrev pub items_admit : (ValueTree → Bool) → ℕ → List ValueTree → Bool
items_admit p n ts = nat_eq (count_of (value_trees ts)) n && every p (value_trees ts)

copies_count : (n : ℕ) (t : ValueTree) → count_of (value_trees (copies n t)) ≡ n
copies_count zero t = refl
copies_count (suc n) t = ap suc (copies_count n t)

copies_pass : (p : ValueTree → Bool) (n : ℕ) (t : ValueTree) → p t ≡ true → every p (value_trees (copies n t)) ≡ true
copies_pass p zero t is = refl
copies_pass p (suc n) t is = ap (λ b. b && every p (value_trees (copies n t))) is ∙ copies_pass p n t is

pub copies_admitted : (p : ValueTree → Bool) (n : ℕ) (t : ValueTree) → p t ≡ true → items_admit p n (copies n t) ≡ true
copies_admitted p n t is =
    ap (λ b. b && every p (value_trees (copies n t))) (eq-eqb (count_of (value_trees (copies n t))) n (copies_count n t)) ∙ copies_pass p n t is

mutual
  pub some_value : (s : ShapeTree) → is_proper s ≡ true → (t : ValueTree) × (fits s t ≡ true)
  some_value S.boolean proper = (V.boolean true, refl)
  some_value S.cardinal proper = (V.cardinal 0, refl)
  some_value S.long_cardinal proper = (V.long_cardinal 0, refl)
  some_value S.integer proper = (V.integer (pos 0), refl)
  some_value S.long_integer proper = (V.long_integer (pos 0), refl)
  some_value S.text proper = (V.text [], refl)
  some_value (S.enumeration labels) proper =
      let r = some_label labels proper in
      (V.enumeration r.0, ap (λ b. b && list_any (λ (l : Label). nat_eq l.number r.0) labels) (lt-ltb r.0 65536 r.1) ∙ r.2)
  some_value (S.array len s) proper =
      let r = some_value s proper in
      (V.array (value_trees (copies len r.0)), copies_admitted (fits s) len r.0 r.1)
  some_value (S.sequence bound s) proper = (V.sequence none, ap (λ b. b && true) (le-leb 0 bound (omega arith)))
  some_value (S.«record» fs) proper =
      let r = some_values fs proper in
      (V.«record» (value_trees r.0), r.1)
  some_value (S.choice arms) proper =
      let p = and_both (has_arm arms) (arms_are_proper arms) proper in
      let a = some_arm arms p.0 in
      let r = some_chosen arms a.0 p.1 a.2 in
      (V.choice a.0 r.0, ap (λ b. b && arm_fits arms a.0 r.0) (lt-ltb a.0 65536 a.1) ∙ r.1)

  pub some_values : (fs : FieldTrees) → are_proper fs ≡ true → (ts : List ValueTree) × (fields_admit fs ts ≡ true)
  some_values no_fields proper = ([], refl)
  some_values (more_fields n s fs) proper =
      let p = and_both (is_proper s) (are_proper fs) proper in
      let r = some_value s p.0 in
      let rs = some_values fs p.1 in
      (r.0 ∷ rs.0, ap (λ b. b && fields_fit fs (value_trees rs.0)) r.1 ∙ rs.1)

  pub some_chosen : (arms : ArmTrees) (n : ℕ) → arms_are_proper arms ≡ true → names arms n ≡ true → (t : ValueTree) × (arm_fits arms n t ≡ true)
  some_chosen no_arms n proper named = cc
  some_chosen (more_arms name m s arms) n proper named =
      let p = and_both (is_proper s) (arms_are_proper arms) proper in
      elim (nat_eq n m) as (λ b. cond b true (names arms n) ≡ true → (t : ValueTree) × (cond b (fits s t) (arm_fits arms n t) ≡ true)) [
        | true ↦ λ x. some_value s p.0
        | false ↦ λ x. some_chosen arms n p.1 x
      ] named
