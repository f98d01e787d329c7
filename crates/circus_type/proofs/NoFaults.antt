-- What holds where no fault is found.
use Rattle.std.proofs.Common.{◌≡◌, ◌≢◌, ℕ, ◌≤◌, Bool, true, false, ◌||◌, List, [], ◌∷◌, ◌++◌, refl, sym, ◌∙◌, ap, map, bytes_eq}
use Rattle.std.specs.Prelude.{◌==◌}
use Rattle.std.specs.List.{AllByRecursion}
use Rattle.std.proofs.lemmas.Bool.{ltb-false, or_parts, eq-eqb}
use Rattle.circus_syntax.proofs.Tokens.{bytes_eq-refl}
use Rattle.circus_value.specs.declared.shape.Label.{Label}
use Rattle.circus_syntax.specs.declared.named.Named.{Named}
use Rattle.circus_syntax.specs.declared.named.Numeral.{Numeral}
use Rattle.circus_syntax.specs.declared.named.LabelText.{LabelText}
use Rattle.circus_fault.specs.Known.{also_number}
use Rattle.circus_fault.proofs.Items.{none_in}
use Rattle.circus_fault.proofs.NoFaults.{no_fault}
use Rattle.circus_type.specs.declared.cause.TypeCause.{TypeCause}
use Rattle.circus_type.specs.Inside.{also_name, repeated_name, repeated_number, repeated_names, above, label_faults, labels_faults}
use Rattle.circus_type.specs.Meaning.{label_meant}
use Rattle.circus_type.specs.Distinct.{AreDistinct}

-- Of items none of which stands among those before them, where this one stands before them too.
module _ {X : Type 0} (same : X → X → Bool) (itself : (x : X) → same x x ≡ true) where
  differs : (x y : X) → same x y ≡ false → x ≢ y
  differs x y other equal =
      let is : same x y ≡ true = ap (same x) (sym equal) ∙ itself x in
      cc

  apart : (earlier : X → Bool) (x : X) (ys : List X) → AllByRecursion (λ y. (same x y || earlier y) ≡ false) ys → AllByRecursion (λ y. earlier y ≡ false) ys × AllByRecursion (λ y. x ≢ y) ys
  apart earlier x [] all = (tt, tt)
  apart earlier x (y ∷ ys) all =
      let (other, fresh) = or_parts (same x y) (earlier y) all.0 in
      let (fresh_ones, others) = apart earlier x ys all.1 in
      ((fresh, fresh_ones), (differs x y other, others))

-- names none of which is this one
pub names_apart : (earlier : List ℕ → Bool) (name : List ℕ) (others : List (List ℕ)) → AllByRecursion (λ n. also_name name earlier n ≡ false) others → AllByRecursion (λ n. earlier n ≡ false) others × AllByRecursion (λ n. name ≢ n) others
names_apart earlier name others all = apart bytes_eq bytes_eq-refl earlier name others all

-- numbers none of which is this one
pub numbers_apart : (earlier : ℕ → Bool) (number : ℕ) (others : List ℕ) → AllByRecursion (λ n. also_number number earlier n ≡ false) others → AllByRecursion (λ n. earlier n ≡ false) others × AllByRecursion (λ n. number ≢ n) others
numbers_apart earlier number others all = apart (λ n m. n == m) (λ n. eq-eqb n n refl) earlier number others all

-- labels without a fault
pub record AreLabels (names : List ℕ → Bool) (numbers : ℕ → Bool) (labels : List Label) : Type 0 where
  pub fresh_names : AllByRecursion (λ n. names n ≡ false) (map (λ (l : Label). l.name) labels)
  pub distinct_names : AreDistinct (map (λ (l : Label). l.name) labels)
  pub fresh_numbers : AllByRecursion (λ n. numbers n ≡ false) (map (λ (l : Label). l.number) labels)
  pub distinct_numbers : AreDistinct (map (λ (l : Label). l.number) labels)
  pub in_range : AllByRecursion (λ (l : Label). l.number ≤ 65535) labels

module _ {C : Type 0} (embed : TypeCause → C) where
  pub within : (limit : ℕ) (n : Numeral) → above embed limit n ≡ [] → n.value ≤ limit
  within limit n is = ltb-false limit n.value (no_fault _ _ _ is)

  -- names that no fault repeats
  pub distinct_names : (earlier : List ℕ → Bool) (ns : List Named) → repeated_names embed earlier ns ≡ []
      → AllByRecursion (λ n. earlier n ≡ false) (map (λ (n : Named). n.name) ns) × AreDistinct (map (λ (n : Named). n.name) ns)
  distinct_names earlier [] is = (tt, tt)
  distinct_names earlier (n ∷ ns) is =
      let (first, rest) = none_in (repeated_name embed earlier n) (repeated_names embed (also_name n.name earlier) ns) is in
      let (fresh, distinct) = distinct_names (also_name n.name earlier) ns rest in
      let (others, apart) = names_apart earlier n.name _ fresh in
      ((no_fault _ _ _ first, others), (apart, distinct))

  pub labels_clean : (names : List ℕ → Bool) (numbers : ℕ → Bool) (ls : List LabelText) → labels_faults embed names numbers ls ≡ [] → AreLabels names numbers (map label_meant ls)
  labels_clean names numbers [] is = record { fresh_names = tt; distinct_names = tt; fresh_numbers = tt; distinct_numbers = tt; in_range = tt }
  labels_clean names numbers (l ∷ ls) is =
      let (own, rest) = none_in (label_faults embed names numbers l.name l.number) (labels_faults embed (also_name l.name.name names) (also_number l.number.value numbers) ls) is in
      let (repeated, high) = none_in (repeated_name embed names l.name ++ repeated_number embed numbers l.number) (above embed 65535 l.number) own in
      let (name, number) = none_in (repeated_name embed names l.name) (repeated_number embed numbers l.number) repeated in
      let small = within 65535 l.number high in
      let others = labels_clean (also_name l.name.name names) (also_number l.number.value numbers) ls rest in
      let (fresh_names, other_names) = names_apart names l.name.name _ others.fresh_names in
      let (fresh_numbers, other_numbers) = numbers_apart numbers l.number.value _ others.fresh_numbers in
      record {
        fresh_names = (no_fault _ _ _ name, fresh_names);
        distinct_names = (other_names, others.distinct_names);
        fresh_numbers = (no_fault _ _ _ number, fresh_numbers);
        distinct_numbers = (other_numbers, others.distinct_numbers);
        in_range = (small, others.in_range);
      }
