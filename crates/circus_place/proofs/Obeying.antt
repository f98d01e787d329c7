-- A placing without a fault obeys the rules, and its numbers are none too great.
use Rattle.std.proofs.Common.{◌≡◌, ◌≢◌, ℕ, ◌+◌, ◌<◌, ◌≤◌, false, List, [], ◌∷◌, ◌++◌, length, map, refl, sym, ◌∙◌, ap, subst, arith, Option, Some, None}
use Rattle.std.specs.Prelude.{◌==◌, is_none, min, unwrap_or, All, AllPairs}
use Rattle.std.specs.List.{AllByRecursion}
use Rattle.std.proofs.lemmas.Bool.{eq-eqb}
use Rattle.std.proofs.lemmas.List.{length-map}
use Rattle.std.proofs.lemmas.List.Elements.{All-from_recursion}
use Rattle.std.proofs.lemmas.List.Kept.{AllPairs-cons}
use Rattle.circus_syntax.specs.declared.named.Named.{Named}
use Rattle.circus_place.specs.declared.placing.Attribute.{Attribute}
use Rattle.circus_place.specs.declared.placing.Machine.{Machine}
use Rattle.circus_place.specs.declared.placing.Placing.{Placing}
use Rattle.circus_place.specs.ConditionTree.{tree_of}
use Rattle.circus_place.specs.ConditionTree as tree
use Rattle.circus_place.specs.Obeys.{most_machines, most_members, IsOfMember, AreOfMembers, Obeys}
use Rattle.circus_fault.specs.Least.{faults_if, out_of}
use Rattle.circus_fault.specs.Known.{Known, nobody, add_name}
use Rattle.circus_fault.proofs.Items.{none_in}
use Rattle.circus_fault.proofs.KnownNames.{IsFresh, apart, Numbered, all_numbered}
use Rattle.circus_fault.proofs.NoFaults.{no_fault, in_range}
use Rattle.circus_place.specs.declared.place_fault.PlaceCause.TheVariants.{OutOfRange}
use Rattle.circus_place.specs.declared.text.AttributeText.{AttributeText}
use Rattle.circus_place.specs.declared.text.MachineText.{MachineText}
use Rattle.circus_place.specs.declared.text.OperandText.{OperandText}
use Rattle.circus_place.specs.declared.text.OperandText.TheVariants as operand
use Rattle.circus_place.specs.Written.{Written, or, and, not, group, differ, compare, holds, PlacingTree}
use Rattle.circus_place.specs.Faults.{repeat_faults, repeated_names, attribute_names, machine_faults, machines_faults, numbers_of, operand_faults, condition_faults, unknown_names, present_faults, placing_faults}
use Rattle.circus_place.specs.Means.{attribute_meant, machine_meant, operand_meant, condition_meant, present_meant, Means}
use Rattle.circus_place.specs.Seen.Cut.{operand_cut, condition_cut, name_cut, present_cut}

-- Names that no fault repeats.

-- what is known of no name
no_pairs : {X : Type 0} (R : X → X → Type 0) → AllPairs R []
no_pairs R i j d less low = absurd (omega (arith, low))

attributes_apart : (known : Known) (attributes : List AttributeText) → repeated_names known (attribute_names attributes) ≡ []
    → AllByRecursion (λ (a : Attribute). IsFresh known a.name) (map attribute_meant attributes) × AllPairs (λ (a b : Attribute). a.name ≢ b.name) (map attribute_meant attributes)
attributes_apart known [] none = (tt, no_pairs (λ (a b : Attribute). a.name ≢ b.name))
attributes_apart known (a ∷ more) none =
    let (own, rest) = none_in (repeat_faults known a.name) (repeated_names (add_name a.name.name 0 known) (attribute_names more)) none in
    let (fresh, pairs) = attributes_apart (add_name a.name.name 0 known) more rest in
    let (fresh_ones, others) = apart (λ (b : Attribute). b.name) known a.name.name 0 (map attribute_meant more) fresh in (
      (no_fault _ _ _ own, fresh_ones),
      AllPairs-cons (λ (a b : Attribute). a.name ≢ b.name) (attribute_meant a) (map attribute_meant more) (All-from_recursion (λ (b : Attribute). a.name.name ≢ b.name) (map attribute_meant more) others) pairs,
    )

-- Machines.

abbrev OwnNames : Machine → Type 0
OwnNames m = AllPairs (λ (a b : Attribute). a.name ≢ b.name) m.attributes

record AreMachines (known : Known) (number : ℕ) (machines : List Machine) : Type 0 where
  fresh : AllByRecursion (λ (m : Machine). IsFresh known m.name) machines
  pairs : AllPairs (λ (m n : Machine). m.name ≢ n.name) machines
  own : AllByRecursion OwnNames machines
  few : number ≤ most_machines → number + length machines ≤ most_machines

machines_good : (known : Known) (number : ℕ) (ms : List MachineText) → machines_faults known number ms ≡ [] → AreMachines known number (map machine_meant ms)
machines_good known number [] none = record { fresh = tt; pairs = no_pairs (λ (m n : Machine). m.name ≢ n.name); own = tt; few = λ low. omega (arith, low) }
machines_good known number (m ∷ ms) none =
    let (first, rest) = none_in (machine_faults known number m) (machines_faults (add_name m.name.name number known) (number + 1) ms) none in
    let (name_and_number, attributes) = none_in (repeat_faults known m.name ++ faults_if (number == most_machines) m.name.at _) (repeated_names nobody (attribute_names m.attributes)) first in
    let (name, many) = none_in (repeat_faults known m.name) (faults_if (number == most_machines) m.name.at _) name_and_number in
    let others = machines_good (add_name m.name.name number known) (number + 1) ms rest in
    let (fresh_ones, apart_ones) = apart (λ (n : Machine). n.name) known m.name.name number (map machine_meant ms) others.fresh in
    record {
      fresh = (no_fault _ _ _ name, fresh_ones);
      pairs = AllPairs-cons (λ (m n : Machine). m.name ≢ n.name) (machine_meant m) (map machine_meant ms) (All-from_recursion (λ (n : Machine). m.name.name ≢ n.name) (map machine_meant ms) apart_ones) others.pairs;
      own = ((attributes_apart nobody m.attributes attributes).1, others.own);
      few = λ low.
          let another : number ≢ most_machines = λ same. let is = eq-eqb number most_machines same in let never = no_fault _ _ _ many in absurd (cc) in
          omega (arith, others.few (omega (arith, low, another)));
    }

-- The numbers of machines.

-- Which machines members are present on.

number_is : (o : Option ℕ) → is_none o ≡ false → o ≡ Some (unwrap_or o 0)
number_is None none = absurd (cc)
number_is (Some n) none = refl

abbrev number_of : Known → Named → ℕ
number_of known n = unwrap_or (known n.name) 0

names_below : (known : Known) (count : ℕ) (names : List Named) → Numbered known count → unknown_names known names ≡ [] → AllByRecursion (λ m. m < count) (map (number_of known) names)
names_below known count [] N none = tt
names_below known count (n ∷ ns) N none =
    let (own, rest) = none_in (faults_if (is_none (known n.name)) n.at _) (unknown_names known ns) none in
    (N.below n.name (number_of known n) (number_is (known n.name) (no_fault _ _ _ own)), names_below known count ns N rest)

names_cut : (known : Known) (count : ℕ) (names : List Named) → count ≤ most_machines → Numbered known count → unknown_names known names ≡ [] → map (name_cut known) names ≡ map (number_of known) names
names_cut known count [] low N none = refl
names_cut known count (n ∷ ns) low N none =
    let (own, rest) = none_in (faults_if (is_none (known n.name)) n.at _) (unknown_names known ns) none in
    let small = N.below n.name (number_of known n) (number_is (known n.name) (no_fault _ _ _ own)) in
    let same : name_cut known n ≡ number_of known n = omega (arith, small, low) in
    λ i. same i ∷ names_cut known count ns low N rest i

names_fresh : (known : Known) (names : List Named) → repeated_names known names ≡ [] → AllByRecursion (λ (n : Named). IsFresh known n.name) names
names_fresh known [] none = tt
names_fresh known (n ∷ ns) none =
    let (own, rest) = none_in (repeat_faults known n) (repeated_names (add_name n.name 0 known) ns) none in
    (no_fault _ _ _ own, (apart (λ (m : Named). m.name) known n.name 0 ns (names_fresh (add_name n.name 0 known) ns rest)).0)

-- names that are unlike have unlike numbers
others_apart : (known : Known) (count : ℕ) (n : Named) (ns : List Named) → Numbered known count → known n.name ≡ Some (number_of known n) → unknown_names known ns ≡ [] → AllByRecursion (λ (m : Named). n.name ≢ m.name) ns
    → AllByRecursion (λ k. number_of known n ≢ k) (map (number_of known) ns)
others_apart known count n [] N is none others = tt
others_apart known count n (m ∷ ns) N is none others =
    let (own, rest) = none_in (faults_if (is_none (known m.name)) m.at _) (unknown_names known ns) none in (
      λ same. others.0 (N.single n.name m.name (number_of known n) is (number_is (known m.name) (no_fault _ _ _ own) ∙ ap (λ k. Some k) (sym same))),
      others_apart known count n ns N is rest others.1,
    )

names_apart : (known before : Known) (count : ℕ) (names : List Named) → Numbered known count → unknown_names known names ≡ [] → repeated_names before names ≡ [] → AllPairs (λ m n. m ≢ n) (map (number_of known) names)
names_apart known before count [] N none once = no_pairs (λ m n. m ≢ n)
names_apart known before count (n ∷ ns) N none once =
    let (own, rest) = none_in (faults_if (is_none (known n.name)) n.at _) (unknown_names known ns) none in
    let (first, later) = none_in (repeat_faults before n) (repeated_names (add_name n.name 0 before) ns) once in
    let others = (apart (λ (m : Named). m.name) before n.name 0 ns (names_fresh (add_name n.name 0 before) ns later)).1 in
    AllPairs-cons (λ m n. m ≢ n) (number_of known n) (map (number_of known) ns)
    (All-from_recursion (λ k. number_of known n ≢ k) (map (number_of known) ns) (others_apart known count n ns N (number_is (known n.name) (no_fault _ _ _ own)) rest others))
    (names_apart known (add_name n.name 0 before) count ns N rest later)

record ArePresent (known : Known) (count : ℕ) (numbers cut : List ℕ) : Type 0 where
  below : All (λ m. m < count) numbers
  pairs : AllPairs (λ m n. m ≢ n) numbers
  same : cut ≡ numbers

present_good : (known : Known) (count : ℕ) (names : Option (List Named)) → count ≤ most_machines → Numbered known count → present_faults known names ≡ [] → ArePresent known count (present_meant known names) (present_cut known names)
present_good known count None low N none = record { below = All-from_recursion (λ m. m < count) [] tt; pairs = no_pairs (λ m n. m ≢ n); same = refl }
present_good known count (Some names) low N none =
    let (known_ones, once) = none_in (unknown_names known names) (repeated_names nobody names) none in
    record {
      below = All-from_recursion (λ m. m < count) (map (number_of known) names) (names_below known count names N known_ones);
      pairs = names_apart known nobody count names N known_ones once;
      same = names_cut known count names low N known_ones;
    }

-- Members and conditions.

operand_good : (members : ℕ) (a : OperandText) → operand_faults members a ≡ [] → IsOfMember members (operand_meant a)
operand_good members (operand.Attribute m name) none = in_range OutOfRange members m none
operand_good members (operand.Fixed c) none = tt

condition_good : (members : ℕ) (w : Written) → condition_faults members w ≡ [] → AreOfMembers members (condition_meant w)
condition_good members (or a b) none = let (left, right) = none_in (condition_faults members a) (condition_faults members b) none in (condition_good members a left, condition_good members b right)
condition_good members (and a b) none = let (left, right) = none_in (condition_faults members a) (condition_faults members b) none in (condition_good members a left, condition_good members b right)
condition_good members (not a) none = condition_good members a none
condition_good members (group a) none = condition_good members a none
condition_good members (differ name) none = tt
condition_good members (compare c a b) none = let (left, right) = none_in (operand_faults members a) (operand_faults members b) none in (operand_good members a left, operand_good members b right)
condition_good members (holds a) none = operand_good members a none

operand_same : (members : ℕ) (a : OperandText) → members ≤ most_members → operand_faults members a ≡ [] → operand_cut a ≡ operand_meant a
operand_same members (operand.Attribute m name) few none =
    let same : min m.value most_members ≡ m.value = omega (arith, (in_range OutOfRange members m none).1, few) in
    ap (λ k. operand_meant (operand.Attribute (record { value = k; at = m.at }) name)) same
operand_same members (operand.Fixed c) few none = refl

condition_same : (members : ℕ) (w : Written) → members ≤ most_members → condition_faults members w ≡ [] → condition_cut w ≡ condition_meant w
condition_same members (or a b) few none =
    let (left, right) = none_in (condition_faults members a) (condition_faults members b) none in λ i. tree.or (condition_same members a few left i) (condition_same members b few right i)
condition_same members (and a b) few none =
    let (left, right) = none_in (condition_faults members a) (condition_faults members b) none in λ i. tree.and (condition_same members a few left i) (condition_same members b few right i)
condition_same members (not a) few none = ap (λ t. tree.not t) (condition_same members a few none)
condition_same members (group a) few none = condition_same members a few none
condition_same members (differ name) few none = refl
condition_same members (compare c a b) few none =
    let (left, right) = none_in (operand_faults members a) (operand_faults members b) none in λ i. tree.compare c (operand_same members a few left i) (operand_same members b few right i)
condition_same members (holds a) few none = ap (λ x. tree.holds x) (operand_same members a few none)

-- The whole.

record IsGood (p : PlacingTree) : Type 0 where
  machines : AreMachines nobody 0 (map machine_meant p.machines)
  members : (0 < p.members.value) × (p.members.value ≤ most_members)
  condition : condition_faults p.members.value p.condition ≡ []
  present : ArePresent (numbers_of p.machines) (length p.machines) (present_meant (numbers_of p.machines) p.present) (present_cut (numbers_of p.machines) p.present)

few_machines : (p : PlacingTree) → AreMachines nobody 0 (map machine_meant p.machines) → length p.machines ≤ most_machines
few_machines p M = omega (arith, M.few (omega arith), length-map p.machines machine_meant)

is_good : (p : PlacingTree) → placing_faults p ≡ [] → IsGood p
is_good p none =
    let numbers = numbers_of p.machines in
    let (three, present) = none_in (machines_faults nobody 0 p.machines ++ out_of OutOfRange most_members p.members ++ condition_faults p.members.value p.condition) (present_faults numbers p.present) none in
    let (two, condition) = none_in (machines_faults nobody 0 p.machines ++ out_of OutOfRange most_members p.members) (condition_faults p.members.value p.condition) three in
    let (machines, members) = none_in (machines_faults nobody 0 p.machines) (out_of OutOfRange most_members p.members) two in
    let M = machines_good nobody 0 p.machines machines in
    record {
      machines = M;
      members = in_range OutOfRange most_members p.members members;
      condition = condition;
      present = present_good numbers (length p.machines) p.present (few_machines p M) (all_numbered (λ (m : MachineText). m.name.name) p.machines) present;
    }

-- what is made of a placing without a fault, each number cut off, is what it means
pub means_of : (p : PlacingTree) (placing : Placing) → placing_faults p ≡ [] → placing.machines ≡ map machine_meant p.machines → placing.members ≡ min p.members.value most_members
    → tree_of placing.condition ≡ condition_cut p.condition → placing.present ≡ present_cut (numbers_of p.machines) p.present → Means p placing
means_of p placing none machines members condition present =
    let G = is_good p none in
    record {
      machines = machines;
      members = omega (arith, members, G.members.1);
      condition = condition ∙ condition_same p.members.value p.condition G.members.1 G.condition;
      present = present ∙ G.present.same;
    }

pub meant_obeys : (p : PlacingTree) (placing : Placing) → placing_faults p ≡ [] → Means p placing → Obeys placing
meant_obeys p placing none M =
    let G = is_good p none in
    let count : length placing.machines ≡ length p.machines = ap length M.machines ∙ length-map p.machines machine_meant in
    record {
      few_machines = omega (arith, count, few_machines p G.machines);
      machine_names = subst (AllPairs (λ (m n : Machine). m.name ≢ n.name)) (sym M.machines) G.machines.pairs;
      attribute_names = subst (All OwnNames) (sym M.machines) (All-from_recursion OwnNames (map machine_meant p.machines) G.machines.own);
      some_members = omega (arith, M.members, G.members.0);
      few_members = omega (arith, M.members, G.members.1);
      operands = subst (AreOfMembers placing.members) (sym M.condition) (subst (λ k. AreOfMembers k (condition_meant p.condition)) (sym M.members) (condition_good p.members.value p.condition G.condition));
      present_machines = subst (All (λ m. m < length placing.machines)) (sym M.present) (subst (λ k. All (λ m. m < k) (present_meant (numbers_of p.machines) p.present)) (sym count) G.present.below);
      present_once = subst (AllPairs (λ m n. m ≢ n)) (sym M.present) G.present.pairs;
    }
