-- The faults of types stand in their text.
use Rattle.std.proofs.Common.{◌≡◌, ℕ, Bool, true, false, cond, List, [], ◌∷◌, ◌++◌, Option, Some, None, ◌⊎◌, inl, inr, refl, sym, subst, codes}
use Rattle.std.specs.List.{AllByRecursion}
use Rattle.circus_syntax.specs.declared.named.Named.{Named}
use Rattle.circus_syntax.specs.declared.named.Numeral.{Numeral}
use Rattle.circus_syntax.specs.declared.named.TypeName.{TypeName}
use Rattle.circus_syntax.specs.declared.named.LabelText.{LabelText}
use Rattle.circus_syntax.specs.TypeTree.{TypeTree, GroupTrees, ArmTrees, boolean, cardinal, long_cardinal, integer, long_integer, text, enumeration, array, sequence, «record», choice, called, no_groups, more_groups, no_arms, more_arms, type_place}
use Rattle.circus_syntax.specs.Placed.{Due, word, sign, due, due_at, due_name, due_number}
use Rattle.circus_syntax.specs.Spelling.{comma, each, with_commas, if_written, spelling_name, spelling_names, spelling_number, spelling_label, spelling_module, spelling_type, spelling_groups, spelling_more_groups, spelling_arms, spelling_more_arms, IsType, AreGroups, AreArms, IsTypeNameAt}
use Rattle.circus_type.specs.Inside.{repeated_name, repeated_number, above, repeated_names, label_faults, labels_faults, length_faults, bound_faults, unknown_faults, is_bare, is_empty_record, group_names, arm_labels, no_name, also_name, inside, inside_groups, inside_arms}
use Rattle.circus_fault.specs.Least.{faults_if}
use Rattle.circus_fault.specs.Known.{no_number, also_number}
use Rattle.circus_type.specs.Limits.{greatest_word}
use Rattle.circus_type.specs.declared.cause.TypeCause.TheVariants as cause
use Rattle.std.specs.Prelude.{nat_lt, ◌==◌, ◌||◌}
use Rattle.circus_resolve.specs.Causes.{of_type}
use Rattle.circus_resolve.specs.Faults.{Faults, first_of, place_of_type}
use Rattle.circus_body.proofs.Rising.{Rise, front, back, behind, unopened, Lies, first}
use Rattle.circus_body.proofs.InText.{AreIn, joined, one}

-- ---- names and numbers

pub named : (low high : ℕ) (n : Named) (ds : List Due) → Rise low high (due_name n ∷ ds) → Lies low high n.at
named low high n ds rise = first low high (due_name n) ds n.at (λ at is. is) rise

pub numbered : (low high : ℕ) (n : Numeral) (ds : List Due) → Rise low high (due_number n ∷ ds) → Lies low high n.at
numbered low high n ds rise = first low high (due_number n) ds n.at (λ at is. is) rise

abbrev AreNamed : ℕ → ℕ → List Named → Type 0
AreNamed low high ns = AllByRecursion (λ (n : Named). Lies low high n.at) ns

more_named : (low high : ℕ) (ns : List Named) → Rise low high (each (λ n. comma ∷ spelling_name n) ns) → AreNamed low high ns
more_named low high [] rise = tt
more_named low high (n ∷ ns) rise =
    let own = behind low high comma (spelling_name n) (front low high (comma ∷ spelling_name n) (each (λ m. comma ∷ spelling_name m) ns) rise) in
    (named low high n [] own, more_named low high ns (back low high (comma ∷ spelling_name n) (each (λ m. comma ∷ spelling_name m) ns) rise))

pub all_named : (low high : ℕ) (ns : List Named) → Rise low high (spelling_names ns) → AreNamed low high ns
all_named low high [] rise = tt
all_named low high (n ∷ ns) rise =
    (named low high n (each (λ m. comma ∷ spelling_name m) ns) rise, more_named low high ns (back low high (spelling_name n) (each (λ m. comma ∷ spelling_name m) ns) rise))

appended_named : (low high : ℕ) (ns ms : List Named) → AreNamed low high ns → AreNamed low high ms → AreNamed low high (ns ++ ms)
appended_named low high [] ms all others = others
appended_named low high (n ∷ ns) ms all others = (all.0, appended_named low high ns ms all.1 others)

repeated_in : (low high : ℕ) (earlier : List ℕ → Bool) (ns : List Named) → AreNamed low high ns → AreIn low high (repeated_names of_type earlier ns)
repeated_in low high earlier [] all = tt
repeated_in low high earlier (n ∷ ns) all =
    joined low high (repeated_name of_type earlier n) (repeated_names of_type (also_name n.name earlier) ns)
    (one low high (earlier n.name) n.at (of_type cause.Repeated) all.0) (repeated_in low high (also_name n.name earlier) ns all.1)

-- ---- labels

abbrev AreLabelled : ℕ → ℕ → List LabelText → Type 0
AreLabelled low high ls = AllByRecursion (λ (l : LabelText). Lies low high l.name.at × Lies low high l.number.at) ls

labelled : (low high : ℕ) (n : Named) (k : Numeral) (ds : List Due) → Rise low high (due_name n ∷ due (sign (codes "(")) ∷ due_number k ∷ ds) → Lies low high n.at × Lies low high k.at
labelled low high n k ds rise =
    let number = behind low high (due (sign (codes "("))) (due_number k ∷ ds) (behind low high (due_name n) (due (sign (codes "(")) ∷ due_number k ∷ ds) rise) in
    (named low high n (due (sign (codes "(")) ∷ due_number k ∷ ds) rise, numbered low high k ds number)

more_labelled : (low high : ℕ) (ls : List LabelText) → Rise low high (each (λ l. comma ∷ spelling_label l) ls) → AreLabelled low high ls
more_labelled low high [] rise = tt
more_labelled low high (l ∷ ls) rise =
    let own = behind low high comma (spelling_label l) (front low high (comma ∷ spelling_label l) (each (λ m. comma ∷ spelling_label m) ls) rise) in
    (labelled low high l.name l.number (due (sign (codes ")")) ∷ []) own, more_labelled low high ls (back low high (comma ∷ spelling_label l) (each (λ m. comma ∷ spelling_label m) ls) rise))

all_labelled : (low high : ℕ) (ls : List LabelText) → Rise low high (with_commas spelling_label ls) → AreLabelled low high ls
all_labelled low high [] rise = tt
all_labelled low high (l ∷ ls) rise = (
  labelled low high l.name l.number (due (sign (codes ")")) ∷ []) (front low high (spelling_label l) (each (λ m. comma ∷ spelling_label m) ls) rise),
  more_labelled low high ls (back low high (spelling_label l) (each (λ m. comma ∷ spelling_label m) ls) rise),
)

labels_in : (low high : ℕ) (names : List ℕ → Bool) (numbers : ℕ → Bool) (ls : List LabelText) → AreLabelled low high ls → AreIn low high (labels_faults of_type names numbers ls)
labels_in low high names numbers [] all = tt
labels_in low high names numbers (l ∷ ls) all =
    let name = one low high (names l.name.name) l.name.at (of_type cause.Repeated) all.0.0 in
    let number = one low high (numbers l.number.value) l.number.at (of_type cause.Repeated) all.0.1 in
    let over = one low high (nat_lt greatest_word l.number.value) l.number.at (of_type cause.OutOfRange) all.0.1 in
    joined low high (label_faults of_type names numbers l.name l.number) (labels_faults of_type (also_name l.name.name names) (also_number l.number.value numbers) ls)
    (joined low high (repeated_name of_type names l.name ++ repeated_number of_type numbers l.number) (above of_type greatest_word l.number)
    (joined low high (repeated_name of_type names l.name) (repeated_number of_type numbers l.number) name number) over)
    (labels_in low high (also_name l.name.name names) (also_number l.number.value numbers) ls all.1)

-- ---- names of types

-- the places of a type's name: that of its first byte, and that of what stands behind the point
pub record TypeNamed (low high : ℕ) (m : Option Named) (n : Named) : Type 0 where
  pub first : Lies low high (first_of m n)
  pub name : Lies low high n.at

pub type_named : (low high : ℕ) (m : Option Named) (n : Named) (ds : List Due) → Rise low high (spelling_module m ++ due_name n ∷ ds) → TypeNamed low high m n
type_named low high None n ds rise = record { first = named low high n ds rise; name = named low high n ds rise }
type_named low high (Some m) n ds rise =
    let name = behind low high (due (sign (codes "."))) (due_name n ∷ ds) (behind low high (due_name m) (due (sign (codes ".")) ∷ due_name n ∷ ds) rise) in
    record { first = named low high m (due (sign (codes ".")) ∷ due_name n ∷ ds) rise; name = named low high n ds name }

-- ---- types

module _ (unknown : TypeName → Option ℕ) (told : (t : TypeName) (at : ℕ) → unknown t ≡ Some at → (at ≡ place_of_type t) ⊎ (at ≡ t.name.at)) where
  unknown_in : (low high : ℕ) (t : TypeName) (o : Option ℕ) → unknown t ≡ o → TypeNamed low high t.«module» t.name → AreIn low high (unknown_faults of_type o)
  unknown_in low high t None is places = tt
  unknown_in low high t (Some at) is places = (by (told t at is), tt)
    where
      by : (at ≡ place_of_type t) ⊎ (at ≡ t.name.at) → Lies low high at
      by (inl same) = subst (Lies low high) (sym same) places.first
      by (inr same) = subst (Lies low high) (sym same) places.name

  length_in : (low high : ℕ) (n : Numeral) → Lies low high n.at → AreIn low high (length_faults of_type n)
  length_in low high n lies = one low high ((n.value == 0) || nat_lt greatest_word n.value) n.at (of_type cause.OutOfRange) lies

  bound_in : (low high : ℕ) (bound : Option Numeral) (ds : List Due) → Rise low high (if_written spelling_number bound ++ ds) → AreIn low high (bound_faults of_type bound)
  bound_in low high None ds rise = tt
  bound_in low high (Some n) ds rise = one low high (nat_lt greatest_word n.value) n.at (of_type cause.OutOfRange) (numbered low high n ds rise)

  called_at : (low high at : ℕ) (m : Option Named) (n : Named) → IsTypeNameAt at m n → TypeNamed low high m n → Lies low high at
  called_at low high at None n good places = subst (Lies low high) (sym good.1) places.name
  called_at low high at (Some m) n (module_good, name_good, same) places = subst (Lies low high) (sym same) places.first

  -- a type begins in its text
  pub type_begins : (low high : ℕ) (t : TypeTree) → IsType t → Rise low high (spelling_type t) → Lies low high (type_place t)
  type_begins low high (boolean at) good rise = first low high (due_at (word (codes "BOOLEAN")) at) [] at (λ p is. is) rise
  type_begins low high (cardinal at) good rise = first low high (due_at (word (codes "CARDINAL")) at) [] at (λ p is. is) rise
  type_begins low high (long_cardinal at) good rise = first low high (due_at (word (codes "LONG")) at) (due (word (codes "CARDINAL")) ∷ []) at (λ p is. is) rise
  type_begins low high (integer at) good rise = first low high (due_at (word (codes "INTEGER")) at) [] at (λ p is. is) rise
  type_begins low high (long_integer at) good rise = first low high (due_at (word (codes "LONG")) at) (due (word (codes "INTEGER")) ∷ []) at (λ p is. is) rise
  type_begins low high (text at) good rise = first low high (due_at (word (codes "STRING")) at) [] at (λ p is. is) rise
  type_begins low high (enumeration at ls) good rise =
      first low high (due_at (sign (codes "{")) at) (with_commas spelling_label ls ++ due (sign (codes "}")) ∷ []) at (λ p is. is) rise
  type_begins low high (array at n t) good rise =
      let ds = due_number n ∷ due (word (codes "OF")) ∷ spelling_type t in
      first low high (due_at (word (codes "ARRAY")) at) ds at (λ p is. is) (unopened low high (due_at (word (codes "ARRAY")) at ∷ ds) rise)
  type_begins low high (sequence at bound t) good rise =
      let ds = if_written spelling_number bound ++ due (word (codes "OF")) ∷ spelling_type t in
      first low high (due_at (word (codes "SEQUENCE")) at) ds at (λ p is. is) (unopened low high (due_at (word (codes "SEQUENCE")) at ∷ ds) rise)
  type_begins low high («record» at gs) good rise =
      let ds = due (sign (codes "[")) ∷ (spelling_groups gs ++ due (sign (codes "]")) ∷ []) in
      first low high (due_at (word (codes "RECORD")) at) ds at (λ p is. is) (unopened low high (due_at (word (codes "RECORD")) at ∷ ds) rise)
  type_begins low high (choice at rest) good rise =
      let ds = due (word (codes "OF")) ∷ due (sign (codes "{")) ∷ (spelling_arms rest ++ due (sign (codes "}")) ∷ []) in
      first low high (due_at (word (codes "CHOICE")) at) ds at (λ p is. is) (unopened low high (due_at (word (codes "CHOICE")) at ∷ ds) rise)
  type_begins low high (called at name) good rise = called_at low high at name.«module» name.name good (type_named low high name.«module» name.name [] rise)

  unless_bare : (low high : ℕ) (b : Bool) (found : Faults) → AreIn low high found → AreIn low high (cond b [] found)
  unless_bare low high true found all = tt
  unless_bare low high false found all = all

  -- a type behind names, or behind the name and the number of an arm
  group_type : (low high : ℕ) (ns : List Named) (t : TypeTree) → Rise low high (spelling_names ns ++ due (sign (codes ":")) ∷ spelling_type t) → Rise low high (spelling_type t)
  group_type low high ns t rise = behind low high (due (sign (codes ":"))) (spelling_type t) (back low high (spelling_names ns) (due (sign (codes ":")) ∷ spelling_type t) rise)

  group_named : (low high : ℕ) (ns : List Named) (t : TypeTree) → Rise low high (spelling_names ns ++ due (sign (codes ":")) ∷ spelling_type t) → AreNamed low high ns
  group_named low high ns t rise = all_named low high ns (front low high (spelling_names ns) (due (sign (codes ":")) ∷ spelling_type t) rise)

  abbrev spelling_arm : Named → Numeral → TypeTree → List Due
  spelling_arm n k t = due_name n ∷ due (sign (codes "(")) ∷ due_number k ∷ due (sign (codes ")")) ∷ due (sign (codes "=>")) ∷ spelling_type t

  arm_type : (low high : ℕ) (n : Named) (k : Numeral) (t : TypeTree) → Rise low high (spelling_arm n k t) → Rise low high (spelling_type t)
  arm_type low high n k t rise =
      let shape = due (sign (codes "=>")) ∷ spelling_type t in
      let number = due_number k ∷ due (sign (codes ")")) ∷ shape in
      behind low high (due (sign (codes "=>"))) (spelling_type t) (behind low high (due (sign (codes ")"))) shape (behind low high (due_number k) (due (sign (codes ")")) ∷ shape)
      (behind low high (due (sign (codes "("))) number (behind low high (due_name n) (due (sign (codes "(")) ∷ number) rise))))

  arm_labelled : (low high : ℕ) (n : Named) (k : Numeral) (t : TypeTree) → Rise low high (spelling_arm n k t) → Lies low high n.at × Lies low high k.at
  arm_labelled low high n k t rise = labelled low high n k (due (sign (codes ")")) ∷ due (sign (codes "=>")) ∷ spelling_type t) rise

  mutual
    pub type_in : (low high : ℕ) (t : TypeTree) → IsType t → Rise low high (spelling_type t) → AreIn low high (inside of_type unknown t)
    type_in low high (boolean at) good rise = tt
    type_in low high (cardinal at) good rise = tt
    type_in low high (long_cardinal at) good rise = tt
    type_in low high (integer at) good rise = tt
    type_in low high (long_integer at) good rise = tt
    type_in low high (text at) good rise = tt
    type_in low high (enumeration at ls) good rise =
        let own = behind low high (due_at (sign (codes "{")) at) (with_commas spelling_label ls ++ due (sign (codes "}")) ∷ []) rise in
        labels_in low high no_name no_number ls (all_labelled low high ls (front low high (with_commas spelling_label ls) (due (sign (codes "}")) ∷ []) own))
    type_in low high (array at n t) good rise =
        let own = behind low high (due_at (word (codes "ARRAY")) at) (due_number n ∷ due (word (codes "OF")) ∷ spelling_type t)
        (unopened low high (due_at (word (codes "ARRAY")) at ∷ due_number n ∷ due (word (codes "OF")) ∷ spelling_type t) rise) in
        let element = behind low high (due (word (codes "OF"))) (spelling_type t) (behind low high (due_number n) (due (word (codes "OF")) ∷ spelling_type t) own) in
        joined low high (length_faults of_type n) (inside of_type unknown t)
        (length_in low high n (numbered low high n (due (word (codes "OF")) ∷ spelling_type t) own)) (type_in low high t good.1 element)
    type_in low high (sequence at bound t) good rise =
        let written = if_written spelling_number bound in
        let own = behind low high (due_at (word (codes "SEQUENCE")) at) (written ++ due (word (codes "OF")) ∷ spelling_type t)
        (unopened low high (due_at (word (codes "SEQUENCE")) at ∷ (written ++ due (word (codes "OF")) ∷ spelling_type t)) rise) in
        let element = behind low high (due (word (codes "OF"))) (spelling_type t) (back low high written (due (word (codes "OF")) ∷ spelling_type t) own) in
        joined low high (bound_faults of_type bound) (inside of_type unknown t)
        (bound_in low high bound (due (word (codes "OF")) ∷ spelling_type t) own) (type_in low high t good.1 element)
    type_in low high («record» at gs) good rise =
        let ds = due (sign (codes "[")) ∷ (spelling_groups gs ++ due (sign (codes "]")) ∷ []) in
        let all = unopened low high (due_at (word (codes "RECORD")) at ∷ ds) rise in
        let own = behind low high (due (sign (codes "["))) (spelling_groups gs ++ due (sign (codes "]")) ∷ []) (behind low high (due_at (word (codes "RECORD")) at) ds all) in
        let groups = front low high (spelling_groups gs) (due (sign (codes "]")) ∷ []) own in
        let (names, types) = groups_in low high gs good groups in
        joined low high (faults_if (is_bare gs) at (of_type cause.OutOfRange) ++ repeated_names of_type no_name (group_names gs)) (inside_groups of_type unknown gs)
        (joined low high (faults_if (is_bare gs) at (of_type cause.OutOfRange)) (repeated_names of_type no_name (group_names gs))
        (one low high (is_bare gs) at (of_type cause.OutOfRange) (first low high (due_at (word (codes "RECORD")) at) ds at (λ p is. is) all))
        (repeated_in low high no_name (group_names gs) names))
        types
    type_in low high (choice at no_arms) good rise = absurd good
    type_in low high (choice at (more_arms n k t rest)) (name_good, number_good, type_good, others_good) rise =
        let arms = more_arms n k t rest in
        let ds = due (word (codes "OF")) ∷ due (sign (codes "{")) ∷ (spelling_arms arms ++ due (sign (codes "}")) ∷ []) in
        let all = behind low high (due_at (word (codes "CHOICE")) at) ds (unopened low high (due_at (word (codes "CHOICE")) at ∷ ds) rise) in
        let own = behind low high (due (sign (codes "{"))) (spelling_arms arms ++ due (sign (codes "}")) ∷ [])
        (behind low high (due (word (codes "OF"))) (due (sign (codes "{")) ∷ (spelling_arms arms ++ due (sign (codes "}")) ∷ [])) all) in
        let listed = front low high (spelling_arms arms) (due (sign (codes "}")) ∷ []) own in
        let arm = front low high (spelling_arm n k t) (spelling_more_arms rest) listed in
        let (labels, more_types) = more_arms_in low high rest others_good (back low high (spelling_arm n k t) (spelling_more_arms rest) listed) in
        joined low high (labels_faults of_type no_name no_number (arm_labels arms)) (inside_arms of_type unknown arms)
        (labels_in low high no_name no_number (arm_labels arms) (arm_labelled low high n k t arm, labels))
        (joined low high (cond (is_empty_record t) [] (inside of_type unknown t)) (inside_arms of_type unknown rest)
        (unless_bare low high (is_empty_record t) (inside of_type unknown t) (type_in low high t type_good (arm_type low high n k t arm))) more_types)
    type_in low high (called at name) good rise = unknown_in low high name (unknown name) refl (type_named low high name.«module» name.name [] rise)

    groups_in : (low high : ℕ) (gs : GroupTrees) → AreGroups gs → Rise low high (spelling_groups gs) → AreNamed low high (group_names gs) × AreIn low high (inside_groups of_type unknown gs)
    groups_in low high no_groups good rise = (tt, tt)
    groups_in low high (more_groups ns t gs) (names_good, type_good, others_good) rise =
        let own = front low high (spelling_names ns ++ due (sign (codes ":")) ∷ spelling_type t) (spelling_more_groups gs) rise in
        let types = type_in low high t type_good (group_type low high ns t own) in
        let (more_names, more_types) = more_groups_in low high gs others_good (back low high (spelling_names ns ++ due (sign (codes ":")) ∷ spelling_type t) (spelling_more_groups gs) rise) in
        (appended_named low high ns (group_names gs) (group_named low high ns t own) more_names, joined low high (inside of_type unknown t) (inside_groups of_type unknown gs) types more_types)

    more_groups_in : (low high : ℕ) (gs : GroupTrees) → AreGroups gs → Rise low high (spelling_more_groups gs) → AreNamed low high (group_names gs) × AreIn low high (inside_groups of_type unknown gs)
    more_groups_in low high no_groups good rise = (tt, tt)
    more_groups_in low high (more_groups ns t gs) (names_good, type_good, others_good) rise =
        let all = behind low high comma ((spelling_names ns ++ due (sign (codes ":")) ∷ spelling_type t) ++ spelling_more_groups gs) rise in
        let own = front low high (spelling_names ns ++ due (sign (codes ":")) ∷ spelling_type t) (spelling_more_groups gs) all in
        let types = type_in low high t type_good (group_type low high ns t own) in
        let (more_names, more_types) = more_groups_in low high gs others_good (back low high (spelling_names ns ++ due (sign (codes ":")) ∷ spelling_type t) (spelling_more_groups gs) all) in
        (appended_named low high ns (group_names gs) (group_named low high ns t own) more_names, joined low high (inside of_type unknown t) (inside_groups of_type unknown gs) types more_types)

    more_arms_in : (low high : ℕ) (arms : ArmTrees) → AreArms arms → Rise low high (spelling_more_arms arms) → AreLabelled low high (arm_labels arms) × AreIn low high (inside_arms of_type unknown arms)
    more_arms_in low high no_arms good rise = (tt, tt)
    more_arms_in low high (more_arms n k t rest) (name_good, number_good, type_good, others_good) rise =
        let all = behind low high comma (spelling_arm n k t ++ spelling_more_arms rest) rise in
        let arm = front low high (spelling_arm n k t) (spelling_more_arms rest) all in
        let types = unless_bare low high (is_empty_record t) (inside of_type unknown t) (type_in low high t type_good (arm_type low high n k t arm)) in
        let (labels, more_types) = more_arms_in low high rest others_good (back low high (spelling_arm n k t) (spelling_more_arms rest) all) in
        ((arm_labelled low high n k t arm, labels), joined low high (cond (is_empty_record t) [] (inside of_type unknown t)) (inside_arms of_type unknown rest) types more_types)
