-- Where words are equal, what they spell is equal.
use Rattle.std.proofs.Common.{◌≡◌, ℕ, ◌+◌, Bool, List, [], ◌∷◌, ◌++◌, Option, None, Some, IsSome, IfSome, refl, sym, ap, ◌∙◌, arith, append_assoc}
use Rattle.std.specs.Bool.{Decides}
use Rattle.std.proofs.lemmas.Bool.{false≢true}
use Rattle.circus_value.specs.declared.shape.Label.{Label}
use Rattle.circus_value.specs.ShapeOf.{fields_in, arms_in}
use Rattle.circus_value.specs.ShapeTree.{ShapeTree, FieldTrees, ArmTrees, FieldTree, ArmTree, field_trees, arm_trees, boolean, cardinal, long_cardinal, integer, long_integer, text, enumeration, array, sequence, «record», choice, no_fields, more_fields, no_arms, more_arms}
use Rattle.circus_value.specs.Seen.ShapeWords.{AreWords, name_words, label_words, shape_words, field_words, arm_words}
use Rattle.circus_value.proofs.ShapeBack.{fields_back, arms_back}

-- behind words joined as one, those of the first part and the others
joined : (us vs r xs ys q : List ℕ) → (us ++ vs) ++ r ≡ (xs ++ ys) ++ q → us ++ (vs ++ r) ≡ xs ++ (ys ++ q)
joined us vs r xs ys q e = sym (append_assoc us vs r) ∙ e ∙ append_assoc xs ys q

-- words with others behind them tell what they spell and the others
names_read : (ms ns r q : List ℕ) → name_words ms ++ r ≡ name_words ns ++ q → (ms ≡ ns) × (r ≡ q)
names_read [] [] r q e = (refl, cc)
names_read [] (n ∷ ns) r q e = let differ : 0 ≡ n + 1 = cc in absurd (omega (arith, differ))
names_read (m ∷ ms) [] r q e = let differ : m + 1 ≡ 0 = cc in absurd (omega (arith, differ))
names_read (m ∷ ms) (n ∷ ns) r q e =
    let first : m + 1 ≡ n + 1 = cc in
    let same : m ≡ n = omega (arith, first) in
    let later = names_read ms ns r q cc in
    ((λ i. same i ∷ later.0 i), later.1)

labels_read : (ls ms : List Label) (r q : List ℕ) → label_words ls ++ r ≡ label_words ms ++ q → (ls ≡ ms) × (r ≡ q)
labels_read [] [] r q e = (refl, cc)
labels_read [] (m ∷ ms) r q e = absurd cc
labels_read (l ∷ ls) [] r q e = absurd cc
labels_read (l ∷ ls) (m ∷ ms) r q e =
    let name = names_read l.name m.name (l.number ∷ (label_words ls ++ r)) (m.number ∷ (label_words ms ++ q))
    (joined (name_words l.name) (l.number ∷ label_words ls) r (name_words m.name) (m.number ∷ label_words ms) q cc) in
    let behind = name.1 in
    let number : l.number ≡ m.number = cc in
    let later = labels_read ls ms r q cc in
    ((λ i. record { name = name.0 i; number = number i } ∷ later.0 i), later.1)

mutual
  shapes_read : (s t : ShapeTree) (r q : List ℕ) → shape_words s ++ r ≡ shape_words t ++ q → (s ≡ t) × (r ≡ q)
  shapes_read boolean boolean r q e = (refl, cc)
  shapes_read cardinal cardinal r q e = (refl, cc)
  shapes_read long_cardinal long_cardinal r q e = (refl, cc)
  shapes_read integer integer r q e = (refl, cc)
  shapes_read long_integer long_integer r q e = (refl, cc)
  shapes_read text text r q e = (refl, cc)
  shapes_read (enumeration ls) (enumeration ms) r q e = let read = labels_read ls ms r q cc in (ap enumeration read.0, read.1)
  shapes_read (array n s) (array m t) r q e =
      let length : n ≡ m = cc in
      let read = shapes_read s t r q cc in
      ((λ i. array (length i) (read.0 i)), read.1)
  shapes_read (sequence n s) (sequence m t) r q e =
      let bound : n ≡ m = cc in
      let read = shapes_read s t r q cc in
      ((λ i. sequence (bound i) (read.0 i)), read.1)
  shapes_read («record» fs) («record» gs) r q e = let read = fields_read fs gs r q cc in (ap «record» read.0, read.1)
  shapes_read (choice xs) (choice ys) r q e = let read = arms_read xs ys r q cc in (ap choice read.0, read.1)
  shapes_read _ _ r q e = absurd cc

  fields_read : (fs gs : FieldTrees) (r q : List ℕ) → field_words fs ++ r ≡ field_words gs ++ q → (fs ≡ gs) × (r ≡ q)
  fields_read no_fields no_fields r q e = (refl, cc)
  fields_read (more_fields n s fs) (more_fields m t gs) r q e =
      let name = names_read n m ((shape_words s ++ field_words fs) ++ r) ((shape_words t ++ field_words gs) ++ q)
      (joined (name_words n) (shape_words s ++ field_words fs) r (name_words m) (shape_words t ++ field_words gs) q cc) in
      let shape = shapes_read s t (field_words fs ++ r) (field_words gs ++ q) (joined (shape_words s) (field_words fs) r (shape_words t) (field_words gs) q name.1) in
      let later = fields_read fs gs r q shape.1 in
      ((λ i. more_fields (name.0 i) (shape.0 i) (later.0 i)), later.1)
  fields_read _ _ r q e = absurd cc

  arms_read : (xs ys : ArmTrees) (r q : List ℕ) → arm_words xs ++ r ≡ arm_words ys ++ q → (xs ≡ ys) × (r ≡ q)
  arms_read no_arms no_arms r q e = (refl, cc)
  arms_read (more_arms n a s xs) (more_arms m b t ys) r q e =
      let name = names_read n m (a ∷ ((shape_words s ++ arm_words xs) ++ r)) (b ∷ ((shape_words t ++ arm_words ys) ++ q))
      (joined (name_words n) (a ∷ (shape_words s ++ arm_words xs)) r (name_words m) (b ∷ (shape_words t ++ arm_words ys)) q cc) in
      let behind = name.1 in
      let number : a ≡ b = cc in
      let shape = shapes_read s t (arm_words xs ++ r) (arm_words ys ++ q) (joined (shape_words s) (arm_words xs) r (shape_words t) (arm_words ys) q cc) in
      let later = arms_read xs ys r q shape.1 in
      ((λ i. more_arms (name.0 i) (number i) (shape.0 i) (later.0 i)), later.1)
  arms_read _ _ r q e = absurd cc

-- words alone
pub labels_told : (ls ms : List Label) → label_words ls ≡ label_words ms → ls ≡ ms
labels_told ls ms e = (labels_read ls ms [] [] (ap (λ ws. ws ++ []) e)).0

pub fields_told : (fs gs : List FieldTree) → field_words (field_trees fs) ≡ field_words (field_trees gs) → fs ≡ gs
fields_told fs gs e =
    sym (fields_back fs) ∙ ap fields_in (fields_read (field_trees fs) (field_trees gs) [] [] (ap (λ ws. ws ++ []) e)).0 ∙ fields_back gs

pub arms_told : (xs ys : List ArmTree) → arm_words (arm_trees xs) ≡ arm_words (arm_trees ys) → xs ≡ ys
arms_told xs ys e =
    sym (arms_back xs) ∙ ap arms_in (arms_read (arm_trees xs) (arm_trees ys) [] [] (ap (λ ws. ws ++ []) e)).0 ∙ arms_back ys

-- what decides whether the words that are kept are equal decides it of what they spell
list_told : {X : Type 0} (spelled : X → List ℕ) → ((x y : X) → spelled x ≡ spelled y → x ≡ y) → (x y : X) (ws vs : Option (List ℕ)) (like : Bool)
    → AreWords (spelled x) ws → AreWords (spelled y) vs → IsSome ws → IsSome vs → Decides like (ws ≡ vs) → Decides like (x ≡ y)
list_told spelled told x y (Some ws) (Some vs) like own others kept too decides = (
  λ e. let same : Some ws ≡ Some vs = decides.0 e in
      let equal : ws ≡ vs = cc in
      told x y (sym own ∙ equal ∙ others),
  λ e. decides.1 (ap Some (own ∙ ap spelled e ∙ sym others)),
)
list_told spelled told x y (Some ws) None like own others kept too decides = absurd (false≢true too)
list_told spelled told x y None vs like own others kept too decides = absurd (false≢true kept)

pub lists_told : {X : Type 0} (spelled : X → List ℕ) → ((x y : X) → spelled x ≡ spelled y → x ≡ y) → (x y : X) (ws vs : Option (List ℕ)) (like : Option Bool)
    → AreWords (spelled x) ws → AreWords (spelled y) vs → IfSome like (λ _. IsSome ws) → IfSome like (λ _. IsSome vs)
    → IfSome like (λ same. Decides same (ws ≡ vs)) → IfSome like (λ same. Decides same (x ≡ y))
lists_told spelled told x y ws vs None own others kept too decides = tt
lists_told spelled told x y ws vs (Some like) own others kept too decides = list_told spelled told x y ws vs like own others kept too decides
