-- The tree of a shape that obeys the rules is one of the grammar, is as deep as the shape, and has no fault inside.
use Rattle.std.proofs.Common.{◌≡◌, ℕ, ◌+◌, ◌<◌, ◌≤◌, Bool, true, false, cond, List, [], ◌∷◌, ◌++◌, length, refl, ◌∙◌, ap, ap₂, arith, bytes_eq, ne_eqb, max}
use Rattle.std.specs.Prelude.{◌≢◌, map}
use Rattle.std.specs.List.{AllByRecursion}
use Rattle.std.proofs.lemmas.Bool.Decides.{nat_tests}
use Rattle.std.proofs.lemmas.Grind.{common_steps}
use Rattle.std.proofs.lemmas.Slice.Eq.{bytes_eq-Decides}
use Rattle.circus_value.specs.declared.shape.Label.{Label}
use Rattle.circus_value.specs.ShapeTree as shape
use Rattle.circus_value.specs.ShapeTree.{ShapeTree, FieldTrees, no_fields, more_fields}
use Rattle.circus_syntax.specs.declared.named.Named.{Named}
use Rattle.circus_syntax.specs.declared.named.Numeral.{Numeral}
use Rattle.circus_syntax.specs.TypeTree.{choice}
use Rattle.circus_syntax.specs.Spelling as spelling
use Rattle.circus_syntax.specs.Spelling.{IsEach, IsListed, IsLabel, IsType, AreGroups, AreArms}
use Rattle.circus_fault.specs.declared.fault.Fault.{Fault}
use Rattle.circus_fault.specs.Least.{faults_if}
use Rattle.circus_fault.specs.Known.{no_number, also_number}
use Rattle.circus_idl.specs.declared.fault.Cause.{Cause}
use Rattle.circus_type.specs.Written.{levels, field_levels, arm_levels}
use Rattle.circus_type.specs.Distinct.{AreDistinct}
use Rattle.circus_type.specs.Inside.{no_name, also_name, label_faults, labels_faults, group_names, arm_labels, is_bare, is_empty_record, length_faults, inside_arms}
use Rattle.circus_idl.specs.Inside.{repeated_names, above, inside_faults, inside_groups, unknown_in}
use Rattle.circus_idl.specs.OfTypes.{of_type}
use Rattle.circus_type.specs.Obeys.{IsName, ObeysInside, ObeyFields, ObeyArmTypes, ObeyLabels, field_names, arm_names, arm_numbers}
use Rattle.circus_idl.proofs.Places.{here}
use Rattle.circus_idl.proofs.PlainTypes.{labels_at, type_at, groups_at, arms_at, by_arm, short_number}

-- none of these stands among earlier ones
abbrev pub AreNew : {X : Type 0} → (X → Bool) → List X → Type 0
AreNew earlier xs = AllByRecursion (λ x. earlier x ≡ false) xs

pub bytes_differ : (a b : List ℕ) → a ≢ b → bytes_eq a b ≡ false
bytes_differ a b differ = grind (arith, common_steps, bytes_eq-Decides a b)

-- names that differ from one more are new behind it
pub names_new : (name : List ℕ) (names : List (List ℕ)) (earlier : List ℕ → Bool) → AllByRecursion (λ n. name ≢ n) names → AreNew earlier names → AreNew (also_name name earlier) names
names_new name [] earlier differ new = tt
names_new name (n ∷ ns) earlier differ new = (rw (bytes_differ name n differ.0, new.0) refl, names_new name ns earlier differ.1 new.1)

pub numbers_new : (number : ℕ) (numbers : List ℕ) (earlier : ℕ → Bool) → AllByRecursion (λ n. number ≢ n) numbers → AreNew earlier numbers → AreNew (also_number number earlier) numbers
numbers_new number [] earlier differ new = tt
numbers_new number (n ∷ ns) earlier differ new = (rw (ne_eqb number n differ.0, new.0) refl, numbers_new number ns earlier differ.1 new.1)

pub none_new : {X : Type 0} (xs : List X) → AreNew (λ x. false) xs
none_new [] = tt
none_new (x ∷ xs) = (refl, none_new xs)

pub no_fault : (b : Bool) (place : ℕ) (cause : Cause) → b ≡ false → faults_if b place cause ≡ []
no_fault b place cause is = rw is refl

pub none_then : (fs gs : List (Fault Cause)) → fs ≡ [] → gs ≡ [] → fs ++ gs ≡ []
none_then fs gs f g = ap (λ l. l ++ gs) f ∙ g

pub not_above : (limit : ℕ) (n : Numeral) → n.value ≤ limit → above limit n ≡ []
not_above limit n fits = no_fault _ _ _ (grind (arith, nat_tests))

label_clean : (names : List ℕ → Bool) (numbers : ℕ → Bool) (name : Named) (n : Numeral) → names name.name ≡ false → numbers n.value ≡ false → n.value ≤ 65535 → label_faults of_type names numbers name n ≡ []
label_clean names numbers name n new_name new_number fits =
    none_then _ _ (none_then _ _ (no_fault _ _ _ new_name) (no_fault _ _ _ new_number)) (not_above 65535 n fits)

labels_clean : (ls : List Label) (ps : List ℕ) (names : List ℕ → Bool) (numbers : ℕ → Bool)
    → AreNew names (map (λ (l : Label). l.name) ls) → AreDistinct (map (λ (l : Label). l.name) ls)
    → AreNew numbers (map (λ (l : Label). l.number) ls) → AreDistinct (map (λ (l : Label). l.number) ls)
    → AllByRecursion (λ (l : Label). l.number ≤ 65535) ls → labels_faults of_type names numbers (labels_at ls ps) ≡ []
labels_clean [] ps names numbers new distinct new_numbers distinct_numbers fit = refl
labels_clean (l ∷ ls) ps names numbers new distinct new_numbers distinct_numbers fit =
    none_then _ _ (label_clean names numbers _ _ new.0 new_numbers.0 fit.0)
    (labels_clean ls _ (also_name l.name names) (also_number l.number numbers) (names_new l.name _ names distinct.0 new.1) distinct.1
    (numbers_new l.number _ numbers distinct_numbers.0 new_numbers.1) distinct_numbers.1 fit.1)

arm_labels_clean : (arms : shape.ArmTrees) (ps : List ℕ) (names : List ℕ → Bool) (numbers : ℕ → Bool)
    → AreNew names (arm_names arms) → AreDistinct (arm_names arms) → AreNew numbers (arm_numbers arms) → AreDistinct (arm_numbers arms)
    → AllByRecursion (λ n. n ≤ 65535) (arm_numbers arms) → labels_faults of_type names numbers (arm_labels (arms_at arms ps)) ≡ []
arm_labels_clean shape.no_arms ps names numbers new distinct new_numbers distinct_numbers fit = refl
arm_labels_clean (shape.more_arms name n s arms) ps names numbers new distinct new_numbers distinct_numbers fit =
    none_then _ _ (label_clean names numbers _ _ new.0 new_numbers.0 fit.0)
    (arm_labels_clean arms _ (also_name name names) (also_number n numbers) (names_new name _ names distinct.0 new.1) distinct.1
    (numbers_new n _ numbers distinct_numbers.0 new_numbers.1) distinct_numbers.1 fit.1)

-- names of fields that are new and distinct aren't repeated
pub field_names_clean : (fs : FieldTrees) (ps : List ℕ) (earlier : List ℕ → Bool) → AreNew earlier (field_names fs) → AreDistinct (field_names fs) → repeated_names earlier (group_names (groups_at fs ps)) ≡ []
field_names_clean no_fields ps earlier new distinct = refl
field_names_clean (more_fields name s fs) ps earlier new distinct =
    none_then _ _ (no_fault _ _ _ new.0) (field_names_clean fs _ (also_name name earlier) (names_new name _ earlier distinct.0 new.1) distinct.1)

some_fields : (fs : FieldTrees) (ps : List ℕ) → 0 < length (field_names fs) → is_bare (groups_at fs ps) ≡ false
some_fields no_fields ps some = absurd (omega arith)
some_fields (more_fields name s fs) ps some = refl

either_none : (b : Bool) (fs : List (Fault Cause)) → fs ≡ [] → cond b [] fs ≡ []
either_none true fs none = refl
either_none false fs none = none

length_clean : (n : Numeral) → 1 ≤ n.value → n.value ≤ 65535 → length_faults of_type n ≡ []
length_clean n some fits = no_fault _ _ _ (grind (arith, nat_tests))

-- no fault stands inside of the tree
mutual
  pub inside_clean : (s : ShapeTree) (ps : List ℕ) (is_known : List ℕ → Bool) → ObeysInside s → inside_faults is_known (type_at s ps) ≡ []
  inside_clean shape.boolean ps is_known obeys = refl
  inside_clean shape.cardinal ps is_known obeys = refl
  inside_clean shape.long_cardinal ps is_known obeys = refl
  inside_clean shape.integer ps is_known obeys = refl
  inside_clean shape.long_integer ps is_known obeys = refl
  inside_clean shape.text ps is_known obeys = refl
  inside_clean (shape.enumeration labels) ps is_known obeys =
      labels_clean labels _ no_name no_number (none_new _) obeys.names (none_new _) obeys.numbers obeys.in_range
  inside_clean (shape.array n s) ps is_known obeys = none_then _ _ (length_clean _ obeys.0 obeys.1) (inside_clean s _ is_known obeys.2)
  inside_clean (shape.sequence n s) ps is_known obeys = none_then _ _ (not_above 65535 _ obeys.0) (inside_clean s _ is_known obeys.1)
  inside_clean (shape.«record» fs) ps is_known obeys =
      none_then _ _ (none_then _ _ (no_fault _ _ _ (some_fields fs _ obeys.0)) (field_names_clean fs _ no_name (none_new _) obeys.1.distinct))
      (inside_groups_clean fs _ is_known obeys.2)
  inside_clean (shape.choice arms) ps is_known obeys =
      none_then _ _ (arm_labels_clean arms _ no_name no_number (none_new _) obeys.0.distinct_names (none_new _) obeys.0.distinct_numbers obeys.0.in_range)
      (inside_arms_clean arms _ is_known obeys.1)

  inside_groups_clean : (fs : FieldTrees) (ps : List ℕ) (is_known : List ℕ → Bool) → ObeyFields fs → inside_groups is_known (groups_at fs ps) ≡ []
  inside_groups_clean no_fields ps is_known obey = refl
  inside_groups_clean (more_fields name s fs) ps is_known obey = none_then _ _ (inside_clean s _ is_known obey.0) (inside_groups_clean fs _ is_known obey.1)

  inside_arms_clean : (arms : shape.ArmTrees) (ps : List ℕ) (is_known : List ℕ → Bool) → ObeyArmTypes arms → inside_arms of_type (unknown_in is_known) (arms_at arms ps) ≡ []
  inside_arms_clean shape.no_arms ps is_known obey = refl
  inside_arms_clean (shape.more_arms name n s arms) ps is_known obey =
      none_then _ _
      (by_arm (λ t. (qs : List ℕ) → cond (is_empty_record (type_at t qs)) [] (inside_faults is_known (type_at t qs)) ≡ []) s obey.0 (λ qs. refl)
      (λ obeys qs. either_none _ _ (inside_clean s qs is_known obeys)) _)
      (inside_arms_clean arms _ is_known obey.1)

labels_are : (ls : List Label) (ps : List ℕ) → AllByRecursion (λ (l : Label). IsName l.name) ls → AllByRecursion (λ (l : Label). l.number ≤ 65535) ls → IsEach IsLabel (labels_at ls ps)
labels_are [] ps named fit = tt
labels_are (l ∷ ls) ps named fit = ((named.0, short_number l.number fit.0), labels_are ls _ named.1 fit.1)

labels_listed : (ls : List Label) (ps : List ℕ) → ObeyLabels ls → IsListed IsLabel (labels_at ls ps)
labels_listed [] ps obey = absurd (omega (arith, obey.some))
labels_listed (l ∷ ls) ps obey = labels_are (l ∷ ls) ps obey.named obey.in_range

some_arms : (at : ℕ) (arms : shape.ArmTrees) (ps : List ℕ) → 0 < length (arm_names arms) → AreArms (arms_at arms ps) → IsType (choice at (arms_at arms ps))
some_arms at shape.no_arms ps some are = absurd (omega arith)
some_arms at (shape.more_arms name n s arms) ps some are = are

-- the tree is a type of the grammar
mutual
  pub type_is : (s : ShapeTree) (ps : List ℕ) → ObeysInside s → IsType (type_at s ps)
  type_is shape.boolean ps obeys = tt
  type_is shape.cardinal ps obeys = tt
  type_is shape.long_cardinal ps obeys = tt
  type_is shape.integer ps obeys = tt
  type_is shape.long_integer ps obeys = tt
  type_is shape.text ps obeys = tt
  type_is (shape.enumeration labels) ps obeys = labels_listed labels _ obeys
  type_is (shape.array n s) ps obeys = (short_number n obeys.1, type_is s _ obeys.2)
  type_is (shape.sequence n s) ps obeys = (short_number n obeys.0, type_is s _ obeys.1)
  type_is (shape.«record» fs) ps obeys = fields_are fs _ obeys.1.named obeys.2
  type_is (shape.choice arms) ps obeys = some_arms (here ps) arms _ obeys.0.some (arms_are arms _ obeys.0.named obeys.0.in_range obeys.1)

  pub fields_are : (fs : FieldTrees) (ps : List ℕ) → AllByRecursion IsName (field_names fs) → ObeyFields fs → AreGroups (groups_at fs ps)
  fields_are no_fields ps named obey = tt
  fields_are (more_fields name s fs) ps named obey = ((named.0, tt), type_is s _ obey.0, fields_are fs _ named.1 obey.1)

  arms_are : (arms : shape.ArmTrees) (ps : List ℕ) → AllByRecursion IsName (arm_names arms) → AllByRecursion (λ n. n ≤ 65535) (arm_numbers arms) → ObeyArmTypes arms → AreArms (arms_at arms ps)
  arms_are shape.no_arms ps named fit obey = tt
  arms_are (shape.more_arms name n s arms) ps named fit obey = (
    named.0,
    short_number n fit.0,
    by_arm (λ t. (qs : List ℕ) → IsType (type_at t qs)) s obey.0 (λ qs. tt) (λ obeys qs. type_is s qs obeys) _,
    arms_are arms _ named.1 fit.1 obey.1,
  )

-- the tree is as deep as the shape
mutual
  pub levels_are : (s : ShapeTree) (ps : List ℕ) → spelling.levels (type_at s ps) ≡ levels s
  levels_are shape.boolean ps = refl
  levels_are shape.cardinal ps = refl
  levels_are shape.long_cardinal ps = refl
  levels_are shape.integer ps = refl
  levels_are shape.long_integer ps = refl
  levels_are shape.text ps = refl
  levels_are (shape.enumeration labels) ps = refl
  levels_are (shape.array n s) ps = ap (λ l. 1 + l) (levels_are s _)
  levels_are (shape.sequence n s) ps = ap (λ l. 1 + l) (levels_are s _)
  levels_are (shape.«record» fs) ps = ap (λ l. 1 + l) (field_levels_are fs _)
  levels_are (shape.choice arms) ps = ap (λ l. 1 + l) (arm_levels_are arms _)

  field_levels_are : (fs : FieldTrees) (ps : List ℕ) → spelling.group_levels (groups_at fs ps) ≡ field_levels fs
  field_levels_are no_fields ps = refl
  field_levels_are (more_fields name s fs) ps = ap₂ max (levels_are s _) (field_levels_are fs _)

  arm_levels_are : (arms : shape.ArmTrees) (ps : List ℕ) → spelling.arm_levels (arms_at arms ps) ≡ arm_levels arms
  arm_levels_are shape.no_arms ps = refl
  arm_levels_are (shape.more_arms name n s arms) ps = ap₂ max (levels_are s _) (arm_levels_are arms _)
