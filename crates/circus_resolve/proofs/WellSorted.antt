-- What is resolved without a fault is well formed.
use Rattle.std.proofs.Common.{◌≡◌, ℕ, zero, suc, ◌+◌, ◌≤◌, Bool, true, false, not, ◌==◌, nat_lt, List, [], ◌∷◌, ◌++◌, Option, Some, None, refl, sym, ap, subst, ◌∙◌, arith}
use Rattle.std.specs.Prelude.{is_none, option_map, unwrap_or, cond}
use Rattle.std.proofs.lemmas.Bool.{false≢true}
use Rattle.std.proofs.lemmas.Bool.Decides.{Decides-eqb, nat_tests}
use Rattle.circus_value.specs.ShapeTree.{ShapeTree, FieldTrees, ArmTrees, no_fields, more_fields}
use Rattle.circus_value.specs.ShapeTree as shape
use Rattle.circus_syntax.specs.declared.named.Named.{Named}
use Rattle.circus_syntax.specs.declared.named.TypeName.{TypeName}
use Rattle.circus_expression.specs.ExpressionTree.{ExpressionTree, KindTree, ExpressionTrees, SuffixTrees, PlaceTree}
use Rattle.circus_expression.specs.ExpressionTree as e
use Rattle.circus_expression.specs.declared.operator.Operator.{Operator}
use Rattle.circus_expression.specs.declared.operator.Operator.TheVariants as operator
use Rattle.circus_checked.specs.declared.kinds.NumberKind.TheVariants as kind
use Rattle.circus_checked.specs.declared.kinds.Order.TheVariants as order
use Rattle.circus_checked.specs.declared.kinds.Calculation.TheVariants as calculation
use Rattle.circus_checked.specs.declared.kinds.Form.TheVariants as form
use Rattle.circus_checked.specs.ExpressionTree as c
use Rattle.circus_checked.specs.Sorts.{Sort, a_number, of, a_truth, sort_of, arm_in, count_of, Has, EachHas, FieldsHave, Leads}
use Rattle.circus_checked.specs.Sorts as h
use Rattle.circus_fault.specs.Least.{faults_if}
use Rattle.circus_fault.proofs.Items.{none_in}
use Rattle.circus_resolve.specs.declared.cause.CheckCause.TheVariants.{Unknown, Mistyped}
use Rattle.circus_resolve.specs.Scope.{Scope, Variable, Standing, a_type, no_module, no_type, unsaid, standing_of}
use Rattle.circus_resolve.specs.Passing.{is_number, is_truth, is_text, has_length, goes_into}
use Rattle.circus_resolve.specs.Named.{FieldFound, ArmFound, label_named, field_named, arm_named, is_bare}
use Rattle.circus_resolve.specs.Faults as f
use Rattle.circus_resolve.specs.Faults.{Slots, alike, for_fields, wanted_faults, operand_faults, given_by, arm_faults, label_faults, empty_arm_faults, filled_faults, filled_arm_faults, filled_label_faults, count, field_count, count_faults, slots_for, field_at, standing_faults, type_faults, shape_of_standing, type_shape, field_faults, field_shape, element_for, item_faults, shape_led_to, unless_faulty, place_of, variable_shape, variable_faults, sort, kind_sort, suffix_faults, expression_faults, kind_faults, each_faults}
use Rattle.circus_resolve.specs.Meaning.{join_operands, convert_to, arm_number, arm_shape, shape_in, label_meant, field_place, field_meant, meant, kind_meant, each_meant, suffixes_meant}
use Rattle.circus_resolve.specs.Meaning as m
use Rattle.circus_resolve.specs.Regular.{IsRegular, HasRegular, IsWhole, IsOfBytes, KindIsOfBytes, AreOfBytes, SuffixesAreOfBytes}
use Rattle.circus_resolve.proofs.Passed.{no_fault, passed, number_is, truth_is, text_is, same_sort, some_found, label_is, field_is, arm_is}

-- what an expression gives is known, and regular
abbrev IsRegularSort : Sort → Type 0
IsRegularSort a_number = Unit {0}
IsRegularSort (of s) = IsRegular s

regular_sort : (s : ShapeTree) → IsRegular s → IsRegularSort (sort_of s)
regular_sort shape.boolean all = tt
regular_sort shape.cardinal all = tt
regular_sort shape.long_cardinal all = tt
regular_sort shape.integer all = tt
regular_sort shape.long_integer all = tt
regular_sort shape.text all = tt
regular_sort (shape.enumeration labels) all = all
regular_sort (shape.array n s) all = all
regular_sort (shape.sequence n s) all = all
regular_sort (shape.«record» fs) all = all
regular_sort (shape.choice arms) all = all

module _ (variables : List ShapeTree) where
  -- ---- a value as it is stored

  stored_has : (s : ShapeTree) (a : c.ExpressionTree) → Has variables a (sort_of s) → Has variables (convert_to (Some s) a) (of s)
  stored_has shape.boolean a has = has
  stored_has shape.cardinal a has = h.convert kind.Cardinal a has
  stored_has shape.long_cardinal a has = h.convert kind.LongCardinal a has
  stored_has shape.integer a has = h.convert kind.Integer a has
  stored_has shape.long_integer a has = h.convert kind.LongInteger a has
  stored_has shape.text a has = has
  stored_has (shape.enumeration labels) a has = has
  stored_has (shape.array n s) a has = has
  stored_has (shape.sequence n s) a has = has
  stored_has (shape.«record» fs) a has = has
  stored_has (shape.choice arms) a has = has

  goes : (s : ShapeTree) (a : c.ExpressionTree) (given : Sort) (at : ℕ) → wanted_faults (goes_into s) (Some given) at ≡ [] → Has variables a given → Has variables (convert_to (Some s) a) (of s)
  goes s a given at none has =
      stored_has s a (subst (Has variables a) (sym (same_sort (sort_of s) given (passed (goes_into s given) at none))) has)

  -- ---- operators

  pub truth_has : (a : c.ExpressionTree) (s : Sort) (at : ℕ) → wanted_faults is_truth (Some s) at ≡ [] → Has variables a s → Has variables a a_truth
  truth_has a s at none has = subst (Has variables a) (truth_is s (passed (is_truth s) at none)) has

  number_has : (a : c.ExpressionTree) (s : Sort) (at : ℕ) → wanted_faults is_number (Some s) at ≡ [] → Has variables a s → Has variables a a_number
  number_has a s at none has = subst (Has variables a) (number_is s (passed (is_number s) at none)) has

  text_has : (a : c.ExpressionTree) (s : Sort) (at : ℕ) → wanted_faults is_text (Some s) at ≡ [] → Has variables a s → Has variables a (of shape.text)
  text_has a s at none has = subst (Has variables a) (text_is s (passed (is_text s) at none)) has

  module _ (a b : c.ExpressionTree) (s t : Sort) (p q : ℕ) (has : Has variables a s) (other : Has variables b t) where
    truths : wanted_faults is_truth (Some s) p ++ wanted_faults is_truth (Some t) q ≡ [] → Has variables a a_truth × Has variables b a_truth
    truths none = let (x, y) = none_in (wanted_faults is_truth (Some s) p) (wanted_faults is_truth (Some t) q) none in (truth_has a s p x has, truth_has b t q y other)

    numbers : wanted_faults is_number (Some s) p ++ wanted_faults is_number (Some t) q ≡ [] → Has variables a a_number × Has variables b a_number
    numbers none = let (x, y) = none_in (wanted_faults is_number (Some s) p) (wanted_faults is_number (Some t) q) none in (number_has a s p x has, number_has b t q y other)

    texts : wanted_faults is_text (Some s) p ++ wanted_faults is_text (Some t) q ≡ [] → Has variables a (of shape.text) × Has variables b (of shape.text)
    texts none = let (x, y) = none_in (wanted_faults is_text (Some s) p) (wanted_faults is_text (Some t) q) none in (text_has a s p x has, text_has b t q y other)

    alikes : f.wanted_alike (Some s) (Some t) p ≡ [] → Has variables (c.equal a b) a_truth
    alikes none = h.equal a b t (subst (Has variables a) (same_sort s t (passed _ p none)) has) other

    joined_has : (op : Operator) → operand_faults op (Some s) p (Some t) q ≡ [] → Has variables (join_operands op a b) (given_by op)
    joined_has operator.Or none = let (x, y) = truths none in h.either a b x y
    joined_has operator.And none = let (x, y) = truths none in h.both a b x y
    joined_has operator.Equal none = alikes none
    joined_has operator.Unequal none = h.negation (c.equal a b) (alikes none)
    joined_has operator.Less none = let (x, y) = numbers none in h.compare order.Less a b x y
    joined_has operator.AtMost none = let (x, y) = numbers none in h.compare order.AtMost a b x y
    joined_has operator.Greater none = let (x, y) = numbers none in h.compare order.Greater a b x y
    joined_has operator.AtLeast none = let (x, y) = numbers none in h.compare order.AtLeast a b x y
    joined_has operator.Plus none = let (x, y) = numbers none in h.calculate calculation.Plus a b x y
    joined_has operator.Minus none = let (x, y) = numbers none in h.calculate calculation.Minus a b x y
    joined_has operator.Times none = let (x, y) = numbers none in h.calculate calculation.Times a b x y
    joined_has operator.Div none = let (x, y) = numbers none in h.calculate calculation.Div a b x y
    joined_has operator.Mod none = let (x, y) = numbers none in h.calculate calculation.Mod a b x y
    joined_has operator.Join none = let (x, y) = texts none in h.join a b x y

  given_regular : (op : Operator) → IsRegularSort (given_by op)
  given_regular operator.Or = tt
  given_regular operator.And = tt
  given_regular operator.Equal = tt
  given_regular operator.Unequal = tt
  given_regular operator.Less = tt
  given_regular operator.AtMost = tt
  given_regular operator.Greater = tt
  given_regular operator.AtLeast = tt
  given_regular operator.Plus = tt
  given_regular operator.Minus = tt
  given_regular operator.Times = tt
  given_regular operator.Div = tt
  given_regular operator.Mod = tt
  given_regular operator.Join = tt

  -- ---- IS and LENGTH

  arm_has : (a : c.ExpressionTree) (s : Sort) (at : ℕ) (name : Named) → IsRegularSort s → arm_faults (Some s) at name ≡ [] → Has variables a s
      → Has variables (c.is_arm (arm_number (m.arm_in (shape_in (Some s)) name.name)) a) a_truth
  arm_has a a_number at name all none has = absurd (cc)
  arm_has a (of (shape.choice arms)) at name all none has =
      let (x, is) = some_found (arm_named arms name.name) (no_fault (is_none (arm_named arms name.name)) name.at Unknown none) in
      let found = arm_is arms name.name x all is in
      subst (λ o. Has variables (c.is_arm (arm_number o) a) a_truth) (sym is) (h.is_arm x.number a arms x.shape found.there has)
  arm_has a (of _) at name all none has = absurd (cc)

  length_has : (a : c.ExpressionTree) (s : Sort) → has_length s ≡ true → Has variables a s → Has variables (c.length_of a) a_number
  length_has a a_number is has = absurd (false≢true is)
  length_has a (of shape.text) is has = h.length_of_text a has
  length_has a (of (shape.sequence bound element)) is has = h.length_of_sequence a bound element has
  length_has a (of _) is has = absurd (false≢true is)

  -- ---- T#name and T#name(e)

  bare_is : (s : ShapeTree) → is_bare s ≡ true → s ≡ shape.«record» no_fields
  bare_is (shape.«record» no_fields) is = refl
  bare_is _ is = absurd (false≢true is)

  empty_has : (arms : ArmTrees) (at : ℕ) (name : Named) (o : Option ArmFound) → arm_named arms name.name ≡ o → HasRegular arms → empty_arm_faults o at name ≡ []
      → Has variables (c.arm (arm_number o) (c.items form.Record c.no_expressions)) (of (shape.choice arms))
  empty_has arms at name None is all none = absurd (cc)
  empty_has arms at name (Some x) is all none =
      let found = arm_is arms name.name x all is in
      let bare = bare_is x.shape (passed (is_bare x.shape) at none) in
      h.arm x.number (c.items form.Record c.no_expressions) arms (shape.«record» no_fields) found.below (found.there ∙ ap Some bare) (h.of_fields c.no_expressions no_fields h.no_values)

  label_has : (s : ShapeTree) (at : ℕ) (name : Named) → IsRegular s → label_faults (Some s) at name ≡ [] → Has variables (label_meant (Some s) name.name) (sort_of s)
  label_has (shape.enumeration labels) at name all none =
      let (n, is) = some_found (label_named labels name.name) (no_fault (is_none (label_named labels name.name)) name.at Unknown none) in
      subst (λ o. Has variables (c.label (unwrap_or o 0)) (of (shape.enumeration labels))) (sym is) (h.label n labels (label_is labels name.name n all is))
  label_has (shape.choice arms) at name all none = empty_has arms at name (arm_named arms name.name) refl all none
  label_has _ at name all none = absurd (cc)

  filled_arm_has : (arms : ArmTrees) (at : ℕ) (name : Named) (o : Option ArmFound) (a : c.ExpressionTree) (s : Sort) (value_at : ℕ) → arm_named arms name.name ≡ o → HasRegular arms
      → filled_arm_faults o at name (Some s) value_at ≡ [] → Has variables a s → Has variables (c.arm (arm_number o) (convert_to (arm_shape o) a)) (of (shape.choice arms))
  filled_arm_has arms at name None a s value_at is all none has = absurd (cc)
  filled_arm_has arms at name (Some x) a s value_at is all none has = by_bare (is_bare x.shape) none
    where
      by_bare : (b : Bool) → cond b (faults_if true at Mistyped) (wanted_faults (goes_into x.shape) (Some s) value_at) ≡ [] → Has variables (c.arm x.number (convert_to (Some x.shape) a)) (of (shape.choice arms))
      by_bare true faulty = absurd (cc)
      by_bare false fits =
          let found = arm_is arms name.name x all is in
          h.arm x.number (convert_to (Some x.shape) a) arms x.shape found.below found.there (goes x.shape a s value_at fits has)

  filled_has : (t : ShapeTree) (at : ℕ) (name : Named) (a : c.ExpressionTree) (s : Sort) (value_at : ℕ) → IsRegular t → filled_faults (Some t) at name (Some s) value_at ≡ [] → Has variables a s
      → Has variables (c.arm (arm_number (m.arm_in (Some t) name.name)) (convert_to (arm_shape (m.arm_in (Some t) name.name)) a)) (sort_of t)
  filled_has (shape.enumeration labels) at name a s value_at all none has = by_label (label_named labels name.name) none
    where
      by_label : (o : Option ℕ) → filled_label_faults o at name ≡ [] → Has variables (c.arm 0 a) (of (shape.enumeration labels))
      by_label None faulty = absurd (cc)
      by_label (Some _) faulty = absurd (cc)
  filled_has (shape.choice arms) at name a s value_at all none has = filled_arm_has arms at name (arm_named arms name.name) a s value_at refl all none has
  filled_has _ at name a s value_at all none has = absurd (cc)

  -- ---- fields from a place on

  abbrev pub behind : ℕ → FieldTrees → FieldTrees
  behind zero fs = fs
  behind (suc n) no_fields = no_fields
  behind (suc n) (more_fields _ _ fs) = behind n fs

  pub at_place : (all : FieldTrees) (n : ℕ) (name : List ℕ) (s : ShapeTree) (rest : FieldTrees) → behind n all ≡ more_fields name s rest → (field_at all n ≡ Some s) × (behind (suc n) all ≡ rest)
  at_place no_fields zero name s rest is = absurd (cc)
  at_place no_fields (suc n) name s rest is = absurd (cc)
  at_place (more_fields m t fs) zero name s rest is = (let same : t ≡ s = cc in ap Some same, let same : fs ≡ rest = cc in same)
  at_place (more_fields m t fs) (suc n) name s rest is = at_place fs n name s rest is

  -- ---- as many items

  counted : (slots : Slots) (n : ℕ) (es : ExpressionTrees) (scope : Scope) → count_of (c.expression_trees (each_meant scope slots n es)) ≡ count es
  counted slots n e.no_expressions scope = refl
  counted slots n (e.more_expressions a es) scope = ap suc (counted slots (n + 1) es scope)

  equal_counts : (n len at : ℕ) → faults_if (not (n == len)) at Mistyped ≡ [] → n ≡ len
  equal_counts n len at none = (Decides-eqb n len).0 (passed (n == len) at none)

  at_most : (bound n at : ℕ) → faults_if (nat_lt bound n) at Mistyped ≡ [] → n ≤ bound
  at_most bound n at none = let is : nat_lt bound n ≡ false = no_fault (nat_lt bound n) at Mistyped none in grind (arith, nat_tests)

  -- ---- suffixes

  field_well : (first : ℕ) (t : ShapeTree) (name : Named) → IsRegular t → field_faults first (Some t) name ≡ []
      → (u : ShapeTree) × (field_shape (Some t) name.name ≡ Some u)
      × ((ss : List c.SuffixTree) (w : ShapeTree) → Leads variables (c.suffix_trees ss) u w → Leads variables (c.suffix_trees (field_meant (Some t) name.name ∷ ss)) t w) × IsRegular u
  field_well first (shape.«record» fs) name all none =
      let (x, is) = some_found (field_named fs name.name) (no_fault (is_none (field_named fs name.name)) name.at Unknown none) in
      let found = field_is 0 fs name.name x all.1 is in
      let at : x.place ≡ found.place = omega (arith, found.at) in
      let place : field_place (field_named fs name.name) ≡ found.place = ap field_place is ∙ at in (
        x.shape,
        ap (option_map (λ (f : FieldFound). f.shape)) is,
        (λ ss w leads. subst (λ n. Leads variables (c.in_field n (c.suffix_trees ss)) (shape.«record» fs) w) (sym place) (h.to_field found.place (c.suffix_trees ss) fs x.shape w found.there leads)),
        found.regular,
      )
  field_well first (shape.choice arms) name all none =
      let (x, is) = some_found (arm_named arms name.name) (no_fault (is_none (arm_named arms name.name)) name.at Unknown none) in
      let found = arm_is arms name.name x all is in (
        x.shape,
        ap (option_map (λ (a : ArmFound). a.shape)) is,
        (λ ss w leads. subst (λ o. Leads variables (c.in_arm (arm_number o) (c.suffix_trees ss)) (shape.choice arms) w) (sym is) (h.to_arm x.number (c.suffix_trees ss) arms x.shape w found.there leads)),
        found.regular,
      )
  field_well first _ name all none = absurd (cc)

  element_well : (first : ℕ) (t : ShapeTree) (a : c.ExpressionTree) → Has variables a a_number → IsRegular t → item_faults first (Some t) ≡ []
      → (u : ShapeTree) × (element_for (Some t) ≡ Some u)
      × ((ss : List c.SuffixTree) (w : ShapeTree) → Leads variables (c.suffix_trees ss) u w → Leads variables (c.suffix_trees (c.subscript a ∷ ss)) t w) × IsRegular u
  element_well first (shape.array n s) a has all none = (s, refl, (λ ss w leads. h.to_item_of_array a (c.suffix_trees ss) n s w has leads), all)
  element_well first (shape.sequence n s) a has all none = (s, refl, (λ ss w leads. h.to_item_of_sequence a (c.suffix_trees ss) n s w has leads), all)
  element_well first _ a has all none = absurd (cc)

  module _ (scope : Scope) (whole : IsWhole variables scope) where
    -- ---- names of types

    type_known : (t : TypeName) → type_faults scope t ≡ [] → (s : ShapeTree) × (type_shape scope t ≡ Some s) × IsRegular s
    type_known t none = by_standing (standing_of scope t) refl none
      where
        by_standing : (st : Standing) → standing_of scope t ≡ st → standing_faults st t ≡ [] → (s : ShapeTree) × (type_shape scope t ≡ Some s) × IsRegular s
        by_standing (a_type s) is clean = (s, ap shape_of_standing is, whole.types _ _ s is)
        by_standing no_module is faulty = absurd (cc)
        by_standing no_type is faulty = absurd (cc)
        by_standing unsaid is clean = absurd (whole.said _ _ is)

    -- ---- what an expression without a fault gives

    abbrev Well : ExpressionTree → Type 0
    Well a = (s : Sort) × (sort scope a ≡ Some s) × Has variables (meant scope a) s × IsRegularSort s

    abbrev WellKind : KindTree → Type 0
    WellKind k = (s : Sort) × (kind_sort scope k ≡ Some s) × Has variables (kind_meant scope k) s × IsRegularSort s

    abbrev Led : ShapeTree → SuffixTrees → Type 0
    Led t ss = (u : ShapeTree) × (shape_led_to (Some t) ss ≡ Some u) × Leads variables (c.suffix_trees (suffixes_meant scope (Some t) ss)) t u × IsRegular u

    items_has : (u : ShapeTree) (at : ℕ) (es : ExpressionTrees) → count_faults (Some u) at (count es) ≡ [] → each_faults scope (slots_for (Some u)) 0 es ≡ []
        → ((s : ShapeTree) → each_faults scope (alike (Some s)) 0 es ≡ [] → EachHas variables (c.expression_trees (each_meant scope (alike (Some s)) 0 es)) s)
        → ((fs : FieldTrees) → each_faults scope (for_fields fs) 0 es ≡ [] → count es ≡ field_count fs → FieldsHave variables (c.expression_trees (each_meant scope (for_fields fs) 0 es)) fs)
        → Has variables (c.items (m.form_of (Some u)) (c.expression_trees (each_meant scope (slots_for (Some u)) 0 es))) (sort_of u)
    items_has (shape.array len s) at es counts none each fields =
        let many = equal_counts (count es) len at counts in
        let trees = c.expression_trees (each_meant scope (alike (Some s)) 0 es) in
        subst (λ n. Has variables (c.items form.Array trees) (of (shape.array n s))) (counted (alike (Some s)) 0 es scope ∙ many) (h.array trees s (each s none))
    items_has (shape.sequence bound s) at es counts none each fields =
        let few = at_most bound (count es) at counts in
        let trees = c.expression_trees (each_meant scope (alike (Some s)) 0 es) in
        h.sequence trees bound s (omega (arith, few, counted (alike (Some s)) 0 es scope)) (each s none)
    items_has (shape.«record» fs) at es counts none each fields =
        h.of_fields (c.expression_trees (each_meant scope (for_fields fs) 0 es)) fs (fields fs none (equal_counts (count es) (field_count fs) at counts))
    items_has _ at es counts none each fields = absurd (cc)

    mutual
      well : (a : ExpressionTree) → IsOfBytes a → expression_faults scope a ≡ [] → Well a
      well (e.expression at k) bytes none = well_kind k bytes none

      well_kind : (k : KindTree) → KindIsOfBytes k → kind_faults scope k ≡ [] → WellKind k
      well_kind (e.binary op a b) bytes none =
          let (both, own) = none_in (expression_faults scope a ++ expression_faults scope b) (operand_faults op (sort scope a) (place_of a) (sort scope b) (place_of b)) none in
          let (left, right) = none_in (expression_faults scope a) (expression_faults scope b) both in
          let (s, s_is, s_has, s_all) = well a bytes.0 left in
          let (t, t_is, t_has, t_all) = well b bytes.1 right in (
            given_by op,
            refl,
            joined_has (meant scope a) (meant scope b) s t (place_of a) (place_of b) s_has t_has op
                ((λ i. operand_faults op (sym s_is i) (place_of a) (sym t_is i) (place_of b)) ∙ own),
            given_regular op,
          )
      well_kind (e.negation a) bytes none =
          let (inside, own) = none_in (expression_faults scope a) (wanted_faults is_truth (sort scope a) (place_of a)) none in
          let (s, s_is, s_has, s_all) = well a bytes inside in
          (a_truth, refl, h.negation (meant scope a) (truth_has (meant scope a) s (place_of a) (ap (λ o. wanted_faults is_truth o (place_of a)) (sym s_is) ∙ own) s_has), tt)
      well_kind (e.minus a) bytes none =
          let (inside, own) = none_in (expression_faults scope a) (wanted_faults is_number (sort scope a) (place_of a)) none in
          let (s, s_is, s_has, s_all) = well a bytes inside in
          (a_number, refl, h.minus (meant scope a) (number_has (meant scope a) s (place_of a) (ap (λ o. wanted_faults is_number o (place_of a)) (sym s_is) ∙ own) s_has), tt)
      well_kind (e.is_arm a name) bytes none =
          let (inside, own) = none_in (expression_faults scope a) (arm_faults (sort scope a) (place_of a) name) none in
          let (s, s_is, s_has, s_all) = well a bytes inside in (
            a_truth,
            refl,
            subst (λ o. Has variables (c.is_arm (arm_number (m.arm_in (shape_in o) name.name)) (meant scope a)) a_truth) (sym s_is)
                (arm_has (meant scope a) s (place_of a) name s_all (ap (λ o. arm_faults o (place_of a) name) (sym s_is) ∙ own) s_has),
            tt,
          )
      well_kind (e.number n) bytes none = (a_number, refl, h.number n, tt)
      well_kind (e.text bs) bytes none = (of shape.text, refl, h.text bs bytes, tt)
      well_kind (e.truth b) bytes none = (a_truth, refl, h.truth b, tt)
      well_kind (e.length_of a) bytes none =
          let (inside, own) = none_in (expression_faults scope a) (wanted_faults has_length (sort scope a) (place_of a)) none in
          let (s, s_is, s_has, s_all) = well a bytes inside in
          (a_number, refl, length_has (meant scope a) s (passed (has_length s) (place_of a) (ap (λ o. wanted_faults has_length o (place_of a)) (sym s_is) ∙ own)) s_has, tt)
      well_kind (e.label t name) bytes none =
          let (known, own) = none_in (type_faults scope t) (label_faults (type_shape scope t) (f.place_of_type t) name) none in
          let (u, u_is, all) = type_known t known in (
            sort_of u,
            ap (option_map sort_of) u_is,
            subst (λ o. Has variables (label_meant o name.name) (sort_of u)) (sym u_is)
                (label_has u (f.place_of_type t) name all (ap (λ o. label_faults o (f.place_of_type t) name) (sym u_is) ∙ own)),
            regular_sort u all,
          )
      well_kind (e.arm t name a) bytes none =
          let (both, own) = none_in (type_faults scope t ++ expression_faults scope a) (filled_faults (type_shape scope t) (f.place_of_type t) name (sort scope a) (place_of a)) none in
          let (known, inside) = none_in (type_faults scope t) (expression_faults scope a) both in
          let (u, u_is, all) = type_known t known in
          let (s, s_is, s_has, s_all) = well a bytes inside in (
            sort_of u,
            ap (option_map sort_of) u_is,
            subst (λ o. Has variables (c.arm (arm_number (m.arm_in o name.name)) (convert_to (arm_shape (m.arm_in o name.name)) (meant scope a))) (sort_of u)) (sym u_is)
                (filled_has u (f.place_of_type t) name (meant scope a) s (place_of a) all ((λ i. filled_faults (sym u_is i) (f.place_of_type t) name (sym s_is i) (place_of a)) ∙ own) s_has),
            regular_sort u all,
          )
      well_kind (e.items t es) bytes none =
          let (both, each) = none_in (type_faults scope t ++ count_faults (type_shape scope t) (f.place_of_type t) (count es)) (each_faults scope (slots_for (type_shape scope t)) 0 es) none in
          let (known, counts) = none_in (type_faults scope t) (count_faults (type_shape scope t) (f.place_of_type t) (count es)) both in
          let (u, u_is, all) = type_known t known in (
            sort_of u,
            ap (option_map sort_of) u_is,
            subst (λ o. Has variables (c.items (m.form_of o) (c.expression_trees (each_meant scope (slots_for o) 0 es))) (sort_of u)) (sym u_is)
                (items_has u (f.place_of_type t) es (ap (λ o. count_faults o (f.place_of_type t) (count es)) (sym u_is) ∙ counts) (ap (λ o. each_faults scope (slots_for o) 0 es) (sym u_is) ∙ each)
                (λ s clean. each_has s 0 es bytes clean) (λ fs clean same. fields_have fs 0 fs refl es bytes clean same)),
            regular_sort u all,
          )
      well_kind (e.read name ss) bytes none =
          let (known, inside) = none_in (variable_faults scope name) (suffix_faults scope name.at (variable_shape scope name) ss) none in
          let (v, v_is) = some_found (scope.variable name.name) (no_fault (is_none (scope.variable name.name)) name.at Unknown known) in
          let shape_is : variable_shape scope name ≡ Some v.shape = ap (option_map (λ (x : Variable). x.shape)) v_is in
          let (u, led_is, leads, all) = led_well name.at v.shape ss (whole.regular name.name v v_is) bytes (ap (λ o. suffix_faults scope name.at o ss) (sym shape_is) ∙ inside) in (
            sort_of u,
            (λ i. option_map sort_of (unless_faulty (none i) (shape_led_to (shape_is i) ss))) ∙ ap (option_map sort_of) led_is,
            subst (λ o. Has variables (c.read (m.variable_place o) (c.suffix_trees (suffixes_meant scope (option_map (λ (x : Variable). x.shape) o) ss))) (sort_of u)) (sym v_is)
                (h.read v.place (c.suffix_trees (suffixes_meant scope (Some v.shape) ss)) v.shape u (whole.found name.name v v_is) leads),
            regular_sort u all,
          )

      each_has : (s : ShapeTree) (n : ℕ) (es : ExpressionTrees) → AreOfBytes es → each_faults scope (alike (Some s)) n es ≡ [] → EachHas variables (c.expression_trees (each_meant scope (alike (Some s)) n es)) s
      each_has s n e.no_expressions bytes none = h.no_items s
      each_has s n (e.more_expressions a es) bytes none =
          let (front, rest) = none_in (expression_faults scope a ++ wanted_faults (goes_into s) (sort scope a) (place_of a)) (each_faults scope (alike (Some s)) (n + 1) es) none in
          let (inside, own) = none_in (expression_faults scope a) (wanted_faults (goes_into s) (sort scope a) (place_of a)) front in
          let (t, t_is, t_has, t_all) = well a bytes.0 inside in
          h.more_items (convert_to (Some s) (meant scope a)) (c.expression_trees (each_meant scope (alike (Some s)) (n + 1) es)) s
          (goes s (meant scope a) t (place_of a) (ap (λ o. wanted_faults (goes_into s) o (place_of a)) (sym t_is) ∙ own) t_has) (each_has s (n + 1) es bytes.1 rest)

      fields_have : (all : FieldTrees) (n : ℕ) (fs : FieldTrees) → behind n all ≡ fs → (es : ExpressionTrees) → AreOfBytes es → each_faults scope (for_fields all) n es ≡ [] → count es ≡ field_count fs
          → FieldsHave variables (c.expression_trees (each_meant scope (for_fields all) n es)) fs
      fields_have all n no_fields is e.no_expressions bytes none same = h.no_values
      fields_have all n (more_fields name s fs) is e.no_expressions bytes none same = absurd (omega (arith, same))
      fields_have all n no_fields is (e.more_expressions a es) bytes none same = absurd (omega (arith, same))
      fields_have all n (more_fields name s fs) is (e.more_expressions a es) bytes none same =
          let (here, next) = at_place all n name s fs is in
          let one : n + 1 ≡ suc n = omega arith in
          let (front, rest) = none_in (expression_faults scope a ++ f.wanted_for (field_at all n) (sort scope a) (place_of a)) (each_faults scope (for_fields all) (n + 1) es) none in
          let (inside, own) = none_in (expression_faults scope a) (f.wanted_for (field_at all n) (sort scope a) (place_of a)) front in
          let (t, t_is, t_has, t_all) = well a bytes.0 inside in
          h.more_values (convert_to (field_at all n) (meant scope a)) (c.expression_trees (each_meant scope (for_fields all) (n + 1) es)) name s fs
          (subst (λ o. Has variables (convert_to o (meant scope a)) (of s)) (sym here)
          (goes s (meant scope a) t (place_of a) ((λ i. f.wanted_for (sym here i) (sym t_is i) (place_of a)) ∙ own) t_has))
          (fields_have all (n + 1) fs (ap (λ k. behind k all) one ∙ next) es bytes.1 rest (omega (arith, same)))

      led_well : (first : ℕ) (t : ShapeTree) (ss : SuffixTrees) → IsRegular t → SuffixesAreOfBytes ss → suffix_faults scope first (Some t) ss ≡ [] → Led t ss
      led_well first t e.no_suffixes all bytes none = (t, refl, h.here t, all)
      led_well first t (e.more_fields name ss) all bytes none =
          let (own, rest) = none_in (field_faults first (Some t) name) (suffix_faults scope first (field_shape (Some t) name.name) ss) none in
          let (u, u_is, step, u_all) = field_well first t name all own in
          let (w, w_is, leads, w_all) = led_well first u ss u_all bytes (ap (λ o. suffix_faults scope first o ss) (sym u_is) ∙ rest) in (
            w,
            ap (λ o. shape_led_to o ss) u_is ∙ w_is,
            subst (λ o. Leads variables (c.suffix_trees (field_meant (Some t) name.name ∷ suffixes_meant scope o ss)) t w) (sym u_is) (step (suffixes_meant scope (Some u) ss) w leads),
            w_all,
          )
      led_well first t (e.more_subscripts a ss) all bytes none =
          let (front, rest) = none_in (item_faults first (Some t) ++ expression_faults scope a ++ wanted_faults is_number (sort scope a) (place_of a)) (suffix_faults scope first (element_for (Some t)) ss) none in
          let (more, wants) = none_in (item_faults first (Some t) ++ expression_faults scope a) (wanted_faults is_number (sort scope a) (place_of a)) front in
          let (own, inside) = none_in (item_faults first (Some t)) (expression_faults scope a) more in
          let (s, s_is, s_has, s_all) = well a bytes.0 inside in
          let counts = number_has (meant scope a) s (place_of a) (ap (λ o. wanted_faults is_number o (place_of a)) (sym s_is) ∙ wants) s_has in
          let (u, u_is, step, u_all) = element_well first t (meant scope a) counts all own in
          let (w, w_is, leads, w_all) = led_well first u ss u_all bytes.1 (ap (λ o. suffix_faults scope first o ss) (sym u_is) ∙ rest) in (
            w,
            ap (λ o. shape_led_to o ss) u_is ∙ w_is,
            subst (λ o. Leads variables (c.suffix_trees (c.subscript (meant scope a) ∷ suffixes_meant scope o ss)) t w) (sym u_is) (step (suffixes_meant scope (Some u) ss) w leads),
            w_all,
          )

  -- what has no fault gives something, and is well formed
  pub well_sorted : (scope : Scope) → IsWhole variables scope → (a : ExpressionTree) → IsOfBytes a → expression_faults scope a ≡ [] → (s : Sort) × (sort scope a ≡ Some s) × Has variables (meant scope a) s
  well_sorted scope whole a bytes none = let (s, is, has, all) = well scope whole a bytes none in (s, is, has)

  -- as many as there are fields are their values
  pub well_counted : (scope : Scope) → IsWhole variables scope → (fs : FieldTrees) (es : ExpressionTrees) → AreOfBytes es → each_faults scope (for_fields fs) 0 es ≡ [] → count es ≡ field_count fs
      → FieldsHave variables (c.expression_trees (each_meant scope (for_fields fs) 0 es)) fs
  well_counted scope whole fs es bytes none same = fields_have scope whole fs 0 fs refl es bytes none same

  -- a place holds what is said of it
  pub place_well : (scope : Scope) → IsWhole variables scope → (p : PlaceTree) → SuffixesAreOfBytes (e.suffix_trees p.suffixes) → f.place_faults scope p ≡ []
      → (u : ShapeTree) × (f.place_shape scope p ≡ Some u) × h.Holds variables (m.place_meant scope p) u
  place_well scope whole p bytes none =
      let ss = e.suffix_trees p.suffixes in
      let (known, inside) = none_in (variable_faults scope p.name) (suffix_faults scope p.name.at (variable_shape scope p.name) ss) none in
      let (v, v_is) = some_found (scope.variable p.name.name) (no_fault (is_none (scope.variable p.name.name)) p.name.at Unknown known) in
      let shape_is : variable_shape scope p.name ≡ Some v.shape = ap (option_map (λ (x : Variable). x.shape)) v_is in
      let (u, led_is, leads, all) = led_well scope whole p.name.at v.shape ss (whole.regular p.name.name v v_is) bytes (ap (λ o. suffix_faults scope p.name.at o ss) (sym shape_is) ∙ inside) in (
        u,
        (λ i. unless_faulty (none i) (shape_led_to (shape_is i) ss)) ∙ led_is,
        subst (λ o. h.Holds variables (record { variable = m.variable_place o; suffixes = suffixes_meant scope (option_map (λ (x : Variable). x.shape) o) ss }) u) (sym v_is)
            (h.at (record { variable = v.place; suffixes = suffixes_meant scope (Some v.shape) ss }) v.shape u (whole.found p.name.name v v_is) leads),
      )
