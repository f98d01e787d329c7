-- What stands at a place, by the operation there.
use Rattle.std.proofs.Common.{◌≡◌, ℕ, suc, zero, ◌+◌, ◌<◌, ◌≤◌, Some, List, [], ◌∷◌, ◌++◌, length, get_or, drop, cond, refl, sym, ap, ◌∙◌, subst, arith, append_assoc}
use Rattle.std.specs.Option.{unwrap_or}
use Rattle.std.proofs.Math.Seq.{drop-append_seam}
use Rattle.std.proofs.lemmas.List.{drop-drop}
use Rattle.std.proofs.lemmas.Bool.{eq-eqb, ne_eqb}
use Rattle.circus_value.specs.declared.shape.Label.{Label}
use Rattle.circus_value.specs.ShapeTree.{ShapeTree, FieldTrees, ArmTrees, boolean, cardinal, long_cardinal, integer, long_integer, text, enumeration, array, sequence, «record», choice, no_fields, more_fields, no_arms, more_arms}
use Rattle.circus_stub.specs.declared.operation.Operation.{Operation}
use Rattle.circus_stub.specs.declared.operation.Operation.TheVariants as operation
use Rattle.circus_stub.specs.Flat.{operations_in, label_numbers, field_count, arm_count, flat, flat_fields, flat_arms, part_end}
use Rattle.circus_stub.specs.Seen.Standing.{Stands, FieldsStand, ArmsStand, first_arm}
use Rattle.circus_stub.proofs.FlatLemmas.{length-flat}

-- ---- lists from a place on

pub within_at : {A : Type 0} (xs : List A) (i : ℕ) (x : A) (tail : List A) → drop i xs ≡ x ∷ tail → i < length xs
within_at [] zero x tail is = cc
within_at [] (suc i) x tail is = cc
within_at (y ∷ xs) zero x tail is = omega arith
within_at (y ∷ xs) (suc i) x tail is = omega (arith, within_at xs i x tail is)

pub first_at : {A : Type 0} (xs : List A) (i : ℕ) (x d : A) (tail : List A) → drop i xs ≡ x ∷ tail → get_or xs i d ≡ x
first_at [] zero x d tail is = cc
first_at [] (suc i) x d tail is = cc
first_at (y ∷ xs) zero x d tail is = cc
first_at (y ∷ xs) (suc i) x d tail is = first_at xs i x d tail is

others_at : {A : Type 0} (xs : List A) (i : ℕ) (x : A) (tail : List A) → drop i xs ≡ x ∷ tail → drop (suc i) xs ≡ tail
others_at [] zero x tail is = cc
others_at [] (suc i) x tail is = cc
others_at (y ∷ xs) zero x tail is = cc
others_at (y ∷ xs) (suc i) x tail is = others_at xs i x tail is

pub behind_at : {A : Type 0} (xs : List A) (i : ℕ) (x : A) (tail : List A) → drop i xs ≡ x ∷ tail → drop (i + 1) xs ≡ tail
behind_at xs i x tail is = let next : i + 1 ≡ suc i = omega arith in ap (λ k. drop k xs) next ∙ others_at xs i x tail is

pub drop_behind : {A : Type 0} (xs : List A) (i n : ℕ) (front tail : List A) → length front ≡ n → drop i xs ≡ front ++ tail → drop (i + n) xs ≡ tail
drop_behind xs i n front tail long is =
    sym (drop-drop n i xs) ∙ ap (drop n) is ∙ ap (λ k. drop k (front ++ tail)) (sym long) ∙ drop-append_seam front tail

-- ---- the first operation of a shape

abbrev pub head_of : List Operation → Operation
head_of [] = operation.Boolean
head_of (x ∷ xs) = x

abbrev pub tail_of : List Operation → List Operation
tail_of [] = []
tail_of (x ∷ xs) = xs

abbrev pub first : ShapeTree → ℕ → Operation
first s p = head_of (flat s p)

abbrev pub parts : ShapeTree → ℕ → List Operation
parts s p = tail_of (flat s p)

pub flat-split : (s : ShapeTree) (p : ℕ) → flat s p ≡ first s p ∷ parts s p
flat-split boolean p = refl
flat-split cardinal p = refl
flat-split long_cardinal p = refl
flat-split integer p = refl
flat-split long_integer p = refl
flat-split text p = refl
flat-split (enumeration _) p = refl
flat-split (array _ _) p = refl
flat-split (sequence _ _) p = refl
flat-split («record» _) p = refl
flat-split (choice _) p = refl

pub one_operation : (s : ShapeTree) → 1 ≤ operations_in s
one_operation boolean = omega arith
one_operation cardinal = omega arith
one_operation long_cardinal = omega arith
one_operation integer = omega arith
one_operation long_integer = omega arith
one_operation text = omega arith
one_operation (enumeration _) = omega arith
one_operation (array _ _) = omega arith
one_operation (sequence _ _) = omega arith
one_operation («record» _) = omega arith
one_operation (choice _) = omega arith

-- where its operations end
pub end_behind : (s : ShapeTree) (p : ℕ) → unwrap_or (part_end (first s p)) (p + 1) ≡ p + operations_in s
end_behind boolean p = refl
end_behind cardinal p = refl
end_behind long_cardinal p = refl
end_behind integer p = refl
end_behind long_integer p = refl
end_behind text p = refl
end_behind (enumeration _) p = refl
end_behind (array _ _) p = omega arith
end_behind (sequence _ _) p = omega arith
end_behind («record» _) p = omega arith
end_behind (choice _) p = omega arith

pub stands_at : (ops : List Operation) (p : ℕ) (s : ShapeTree) (rest : List Operation) → drop p ops ≡ flat s p ++ rest → Stands ops p s
stands_at ops p s rest is =
    record {
      within = within_at ops p (first s p) (parts s p ++ rest) (is ∙ ap (λ xs. xs ++ rest) (flat-split s p));
      rest = rest;
      stands = is;
    }

pub first_stands : (ops : List Operation) (p : ℕ) (d : Operation) (s : ShapeTree) → Stands ops p s → get_or ops p d ≡ first s p
first_stands ops p d s st =
    first_at ops p (first s p) d (parts s p ++ st.rest) (st.stands ∙ ap (λ xs. xs ++ st.rest) (flat-split s p))

pub parts_stand : (ops : List Operation) (p : ℕ) (s : ShapeTree) (st : Stands ops p s) → drop (p + 1) ops ≡ parts s p ++ st.rest
parts_stand ops p s st =
    behind_at ops p (first s p) (parts s p ++ st.rest) (st.stands ∙ ap (λ xs. xs ++ st.rest) (flat-split s p))

-- ---- what stands at a place, by the operation there

-- the shape whose first operation it is, and where its parts stand
abbrev pub StandsAs : List Operation → ℕ → Operation → ShapeTree → Type 0
StandsAs ops p operation.Boolean s = s ≡ boolean
StandsAs ops p operation.Cardinal s = s ≡ cardinal
StandsAs ops p operation.LongCardinal s = s ≡ long_cardinal
StandsAs ops p operation.Integer s = s ≡ integer
StandsAs ops p operation.LongInteger s = s ≡ long_integer
StandsAs ops p operation.Text s = s ≡ text
StandsAs ops p (operation.Enumeration numbers) s = (labels : List Label) × (s ≡ enumeration labels) × (numbers ≡ label_numbers labels)
StandsAs ops p (operation.Array n end) s = (e : ShapeTree) × (s ≡ array n e) × Stands ops (p + 1) e
StandsAs ops p (operation.Sequence n end) s = (e : ShapeTree) × (s ≡ sequence n e) × Stands ops (p + 1) e
StandsAs ops p (operation.Record n end) s = (fs : FieldTrees) × (s ≡ «record» fs) × FieldsStand ops (p + 1) end fs × (n ≡ field_count fs)
StandsAs ops p (operation.Choice n end) s = (arms : ArmTrees) × (s ≡ choice arms) × ArmsStand ops (p + 1) end arms × (n ≡ arm_count arms)
StandsAs ops p (operation.Arm n end) s = ⊥

stands_first : (ops : List Operation) (p : ℕ) (s : ShapeTree) → Stands ops p s → StandsAs ops p (first s p) s
stands_first ops p boolean st = refl
stands_first ops p cardinal st = refl
stands_first ops p long_cardinal st = refl
stands_first ops p integer st = refl
stands_first ops p long_integer st = refl
stands_first ops p text st = refl
stands_first ops p (enumeration labels) st = (labels, refl, refl)
stands_first ops p (array n e) st = (e, refl, stands_at ops (p + 1) e st.rest (parts_stand ops p (array n e) st))
stands_first ops p (sequence n e) st = (e, refl, stands_at ops (p + 1) e st.rest (parts_stand ops p (sequence n e) st))
stands_first ops p («record» fs) st = (fs, refl, record { rest = st.rest; stands = parts_stand ops p («record» fs) st; ends = refl }, refl)
stands_first ops p (choice arms) st = (arms, refl, record { rest = st.rest; stands = parts_stand ops p (choice arms) st; ends = refl }, refl)

pub stands_as : {ops : List Operation} {p : ℕ} {s : ShapeTree} {here o : Operation} → Stands ops p s → here ≡ get_or ops p here → here ≡ o → StandsAs ops p o s
stands_as {ops} {p} {s} {here} {o} st is same =
    subst (λ x. StandsAs ops p x s) (sym (is ∙ first_stands ops p here s st) ∙ same) (stands_first ops p s st)

-- ---- one field and the others

pub record FieldsFirst (ops : List Operation) (p end : ℕ) (fields : FieldTrees) : Type 0 where
  pub name : List ℕ
  pub shape : ShapeTree
  pub others : FieldTrees
  pub is : fields ≡ more_fields name shape others
  pub stand : Stands ops p shape
  pub later : FieldsStand ops (p + operations_in shape) end others

pub fields_first : {ops : List Operation} {p end : ℕ} (fields : FieldTrees) → p < end → FieldsStand ops p end fields → FieldsFirst ops p end fields
fields_first no_fields before st = absurd (omega (arith, st.ends))
fields_first {ops} {p} {end} (more_fields name s fs) before st =
    let split : drop p ops ≡ flat s p ++ (flat_fields fs (p + operations_in s) ++ st.rest) =
    st.stands ∙ append_assoc (flat s p) (flat_fields fs (p + operations_in s)) st.rest in
    record {
      name = name;
      shape = s;
      others = fs;
      is = refl;
      stand = stands_at ops p s (flat_fields fs (p + operations_in s) ++ st.rest) split;
      later = record {
        rest = st.rest;
        stands = drop_behind ops p (operations_in s) (flat s p) (flat_fields fs (p + operations_in s) ++ st.rest) (length-flat s p) split;
        ends = omega (arith, st.ends);
      };
    }

pub fields_last : {ops : List Operation} {p end : ℕ} (fields : FieldTrees) → end ≤ p → FieldsStand ops p end fields → fields ≡ no_fields
fields_last no_fields past st = refl
fields_last (more_fields name s fs) past st = absurd (omega (arith, st.ends, one_operation s))

-- ---- one arm and the others

pub record ArmsFirst (ops : List Operation) (p end : ℕ) (arms : ArmTrees) : Type 0 where
  pub name : List ℕ
  pub number : ℕ
  pub shape : ShapeTree
  pub others : ArmTrees
  pub is : arms ≡ more_arms name number shape others
  pub within : p < length ops
  pub head : (d : Operation) → get_or ops p d ≡ operation.Arm number (p + 1 + operations_in shape)
  pub stand : Stands ops (p + 1) shape
  pub later : ArmsStand ops (p + 1 + operations_in shape) end others

pub arms_first : {ops : List Operation} {p end : ℕ} (arms : ArmTrees) → p < end → ArmsStand ops p end arms → ArmsFirst ops p end arms
arms_first no_arms before st = absurd (omega (arith, st.ends))
arms_first {ops} {p} {end} (more_arms name n s arms) before st =
    let behind = p + 1 + operations_in s in
    let tail = (flat s (p + 1) ++ flat_arms arms behind) ++ st.rest in
    let split : drop (p + 1) ops ≡ flat s (p + 1) ++ (flat_arms arms behind ++ st.rest) =
    behind_at ops p (operation.Arm n behind) tail st.stands ∙ append_assoc (flat s (p + 1)) (flat_arms arms behind) st.rest in
    record {
      name = name;
      number = n;
      shape = s;
      others = arms;
      is = refl;
      within = within_at ops p (operation.Arm n behind) tail st.stands;
      head = λ d. first_at ops p (operation.Arm n behind) d tail st.stands;
      stand = stands_at ops (p + 1) s (flat_arms arms behind ++ st.rest) split;
      later = record {
        rest = st.rest;
        stands = drop_behind ops (p + 1) (operations_in s) (flat s (p + 1)) (flat_arms arms behind ++ st.rest) (length-flat s (p + 1)) split;
        ends = omega (arith, st.ends);
      };
    }

pub arms_last : {ops : List Operation} {p end : ℕ} (arms : ArmTrees) → end ≤ p → ArmsStand ops p end arms → arms ≡ no_arms
arms_last no_arms past st = refl
arms_last (more_arms name n s arms) past st = absurd (omega (arith, st.ends))

-- ---- an arm by the operation at its place

pub record ArmAt (ops : List Operation) (p end n behind : ℕ) (arms : ArmTrees) : Type 0 where
  pub name : List ℕ
  pub shape : ShapeTree
  pub others : ArmTrees
  pub is : arms ≡ more_arms name n shape others
  pub further : p < behind
  pub stand : Stands ops (p + 1) shape
  pub later : ArmsStand ops behind end others

pub arm_at : {ops : List Operation} {p end n behind : ℕ} {arms : ArmTrees} {here : Operation} → p < end → ArmsStand ops p end arms → here ≡ get_or ops p here → here ≡ operation.Arm n behind → ArmAt ops p end n behind arms
arm_at {ops} {p} {end} {n} {behind} {arms} {here} before st is same =
    let f = arms_first arms before st in
    let heads = sym same ∙ is ∙ f.head here in
    let number : f.number ≡ n = cc in
    let next : p + 1 + operations_in f.shape ≡ behind = cc in
    record {
      name = f.name;
      shape = f.shape;
      others = f.others;
      is = f.is ∙ ap (λ k. more_arms f.name k f.shape f.others) number;
      further = omega arith;
      stand = f.stand;
      later = subst (λ k. ArmsStand ops k end f.others) next f.later;
    }

-- it has the number that is wanted
pub arm_found : (arms others : ArmTrees) (name : List ℕ) (n wanted : ℕ) (shape : ShapeTree) → arms ≡ more_arms name n shape others → n ≡ wanted → first_arm arms wanted ≡ Some shape
arm_found arms others name n wanted shape is same =
    ap (λ xs. first_arm xs wanted) is ∙ ap (λ b. cond b (Some shape) (first_arm others wanted)) (eq-eqb wanted n (sym same))

-- it has another number
pub arm_passed : (arms others : ArmTrees) (name : List ℕ) (n wanted : ℕ) (shape : ShapeTree) → arms ≡ more_arms name n shape others → (n ≡ wanted → ⊥) → first_arm arms wanted ≡ first_arm others wanted
arm_passed arms others name n wanted shape is other =
    ap (λ xs. first_arm xs wanted) is ∙ ap (λ b. cond b (Some shape) (first_arm others wanted)) (ne_eqb wanted n (λ same. other (sym same)))
