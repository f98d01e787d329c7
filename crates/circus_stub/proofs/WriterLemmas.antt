-- Writing one value behind another, by what stands among the operations.
use Rattle.std.proofs.Common.{◌≡◌, ℕ, zero, suc, ◌+◌, ◌<◌, ◌≤◌, Bool, true, false, cond, nat_eq, nat_lt, nat_le, Some, None, List, [], ◌∷◌, ◌++◌, length, map, get_or, drop, sym, ap, ◌∙◌, subst, arith, append_assoc}
use Rattle.std.proofs.lemmas.List.{drop_more}
use Rattle.std.proofs.lemmas.Bool.{leb-true}
use Rattle.circus_value.specs.declared.value.Value.{Value}
use Rattle.circus_value.specs.ValueOf.{tree_of}
use Rattle.circus_value.specs.ValueTree.{ValueTree, value_trees, sequence, choice}
use Rattle.circus_value.specs.ShapeTree.{ShapeTree, FieldTrees, ArmTrees, no_fields, more_fields, no_arms, more_arms}
use Rattle.circus_value.specs.Fits.{fits, count_of, every, is_sequence, fields_fit, arm_fits, is_choice}
use Rattle.circus_value.proofs.FitLemmas.{count_of-value_trees}
use Rattle.circus_external.specs.Spelling.{pieces, pieces_of_all, spelling, spelling_of_all, fields_admit}
use Rattle.circus_external.proofs.Alike.{joined-append}
use Rattle.circus_external.proofs.ShapesAlike.{and_both}
use Rattle.circus_stub.specs.declared.operation.Operation.{Operation}
use Rattle.circus_stub.specs.Flat.{operations_in, operations_in_fields}
use Rattle.circus_stub.specs.Seen.Standing.{Stands, FieldsStand, first_arm}
use Rattle.circus_stub.proofs.StandLemmas.{fields_first, one_operation}

-- ---- items

pub item_passes : (p : ValueTree → Bool) (vs : List Value) (i : ℕ) (v : Value) → i < length vs → v ≡ get_or vs i v → every p (value_trees (map tree_of vs)) ≡ true → p (tree_of v) ≡ true
item_passes p [] i v few is all = absurd (omega arith)
item_passes p (w ∷ vs) zero v few is all =
    ap (λ x. p (tree_of x)) is ∙ (and_both (p (tree_of w)) (every p (value_trees (map tree_of vs))) all).0
item_passes p (w ∷ vs) (suc i) v few is all =
    item_passes p vs i v (omega arith) is (and_both (p (tree_of w)) (every p (value_trees (map tree_of vs))) all).1

-- ---- what is written

-- the bytes so far and those of the values that are left
pub written_more : (vs : List Value) (i : ℕ) (v : Value) (before now whole : List ℕ) → i < length vs → v ≡ get_or vs i v → now ≡ before ++ spelling (tree_of v) → before ++ spelling_of_all (map tree_of (drop i vs)) ≡ whole → now ++ spelling_of_all (map tree_of (drop (i + 1) vs)) ≡ whole
written_more vs i v before now whole few is is_now all =
    let t = tree_of v in
    let ts = map tree_of (drop (i + 1) vs) in
    let items : drop i vs ≡ v ∷ drop (i + 1) vs = drop_more vs i v few ∙ ap (λ x. x ∷ drop (i + 1) vs) (sym is) in
    ap (λ xs. xs ++ spelling_of_all ts) is_now ∙ append_assoc before (spelling t) (spelling_of_all ts)
    ∙ ap (λ xs. before ++ xs) (sym (joined-append (pieces t) (pieces_of_all ts)))
    ∙ ap (λ xs. before ++ spelling_of_all (map tree_of xs)) (sym items) ∙ all

-- ---- fields

some_operations : (left : FieldTrees) (t : ValueTree) (ts : List ValueTree) → fields_admit left (t ∷ ts) ≡ true → 1 ≤ operations_in_fields left
some_operations no_fields t ts all = absurd cc
some_operations (more_fields name s others) t ts all = omega (arith, one_operation s)

-- the first of the fields that are left is that of the next value
pub record FieldsGo (ops : List Operation) (p end : ℕ) (t : ValueTree) (ts : List ValueTree) : Type 0 where
  pub shape : ShapeTree
  pub others : FieldTrees
  pub before : p < end
  pub stand : Stands ops p shape
  pub admitted : fits shape t ≡ true
  pub later : FieldsStand ops (p + operations_in shape) end others
  pub rest : fields_admit others ts ≡ true

pub fields_go : (ops : List Operation) (p end : ℕ) (left : FieldTrees) (vs : List Value) (i : ℕ) (v : Value) → i < length vs → v ≡ get_or vs i v → FieldsStand ops p end left → fields_admit left (map tree_of (drop i vs)) ≡ true → FieldsGo ops p end (tree_of v) (map tree_of (drop (i + 1) vs))
fields_go ops p end left vs i v few is st all =
    let t = tree_of v in
    let ts = map tree_of (drop (i + 1) vs) in
    let items : drop i vs ≡ v ∷ drop (i + 1) vs = drop_more vs i v few ∙ ap (λ x. x ∷ drop (i + 1) vs) (sym is) in
    let admits : fields_admit left (t ∷ ts) ≡ true = ap (λ xs. fields_admit left (map tree_of xs)) (sym items) ∙ all in
    let before : p < end = omega (arith, st.ends, some_operations left t ts admits) in
    let first = fields_first left before st in
    let both = and_both (fits first.shape t) (fields_fit first.others (value_trees ts)) (subst (λ fs. fields_admit fs (t ∷ ts) ≡ true) first.is admits) in
    record {
      shape = first.shape;
      others = first.others;
      before = before;
      stand = first.stand;
      admitted = both.0;
      later = first.later;
      rest = both.1;
    }

-- ---- arms

first_arm_fits : (arms : ArmTrees) (n : ℕ) (t : ValueTree) (s : ShapeTree) → first_arm arms n ≡ Some s → arm_fits arms n t ≡ true → fits s t ≡ true
first_arm_fits no_arms n t s is fit = cc
first_arm_fits (more_arms _ number shape arms) n t s is fit =
    elim (nat_eq n number) as (λ b. cond b (Some shape) (first_arm arms n) ≡ Some s → cond b (fits shape t) (arm_fits arms n t) ≡ true → fits s t ≡ true) [
      | true ↦ λ same x. let found_shape : shape ≡ s = cc in ap (λ u. fits u t) (sym found_shape) ∙ x
      | false ↦ first_arm_fits arms n t s
    ] is fit

no_arm_fits : (arms : ArmTrees) (n : ℕ) (t : ValueTree) → first_arm arms n ≡ None → arm_fits arms n t ≡ true → ⊥
no_arm_fits no_arms n t is fit = cc
no_arm_fits (more_arms _ number shape arms) n t is fit =
    elim (nat_eq n number) as (λ b. cond b (Some shape) (first_arm arms n) ≡ None → cond b (fits shape t) (arm_fits arms n t) ≡ true → ⊥) [
      | true ↦ λ same x. cc
      | false ↦ no_arm_fits arms n t
    ] is fit

pub chosen_fits : (arms : ArmTrees) (n : ℕ) (t : ValueTree) (s : ShapeTree) → first_arm arms n ≡ Some s → is_choice (arm_fits arms) (choice n t) ≡ true → fits s t ≡ true
chosen_fits arms n t s is fit = first_arm_fits arms n t s is (and_both (nat_lt n 65536) (arm_fits arms n t) fit).1

pub chosen_exists : (arms : ArmTrees) (n : ℕ) (t : ValueTree) → first_arm arms n ≡ None → is_choice (arm_fits arms) (choice n t) ≡ true → ⊥
chosen_exists arms n t is fit = no_arm_fits arms n t is (and_both (nat_lt n 65536) (arm_fits arms n t) fit).1

-- ---- kinds

pub sequence_bounded : (bound : ℕ) (p : ValueTree → Bool) (ts : List ValueTree) → is_sequence bound p (sequence (value_trees ts)) ≡ true → length ts ≤ bound
sequence_bounded bound p ts fit =
    omega (arith, leb-true (count_of (value_trees ts)) bound (and_both (nat_le (count_of (value_trees ts)) bound) (every p (value_trees ts)) fit).0, count_of-value_trees ts)

-- a shape and a value, seen as others
pub same_fits : (s r : ShapeTree) (t u : ValueTree) → s ≡ r → t ≡ u → fits s t ≡ true → fits r u ≡ true
same_fits s r t u shapes trees fit = (λ i. fits (sym shapes i) (sym trees i)) ∙ fit
