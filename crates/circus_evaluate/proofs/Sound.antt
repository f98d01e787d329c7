-- An expression gives what its sort says, and places lead to what their shapes say.
use Rattle.std.proofs.Common.{◌≡◌, ℕ, ℤ, zero, suc, pos, negsuc, ◌+ℤ◌, ◌-ℤ◌, ◌*ℤ◌, int_div, int_rem, neg_ℤ, Bool, true, false, ◌==◌, not, nat_lt, nat_le, if◌then◌else◌, IsTrue, IfOk, List, [], ◌∷◌, ◌++◌, length, Some, Ok, Err, ok_or, slice_get, refl, ap, subst, ◌∙◌, arith}
use Rattle.std.specs.List.{list_all}
use Rattle.std.specs.Bool.{beq}
use Rattle.std.specs.Ordering.{int_eq}
use Rattle.circus_evaluate.proofs.Alike.{some_same}
use Rattle.std.proofs.lemmas.Bool.{and_parts, and_from, eq-eqb, le-leb, lt-ltb}
use Rattle.circus_value.specs.ValueTree.{ValueTree, value_trees}
use Rattle.circus_value.specs.ValueTree as value
use Rattle.circus_value.specs.ShapeTree.{ShapeTree, FieldTrees}
use Rattle.circus_value.specs.ShapeTree as shape
use Rattle.circus_value.specs.ExternalSize.{external_size}
use Rattle.circus_value.specs.Fits.{fits, fields_fit, arm_fits, every, is_signed_below}
use Rattle.circus_value.specs.Fits as fitting
use Rattle.circus_model.specs.declared.language_error.LanguageError.{LanguageError}
use Rattle.circus_model.specs.declared.language_error.LanguageError.TheVariants.{Range, Zero, TooLong, WrongChoice}
use Rattle.circus_checked.specs.declared.kinds.NumberKind.{NumberKind}
use Rattle.circus_checked.specs.declared.kinds.NumberKind.TheVariants as kind
use Rattle.circus_checked.specs.declared.kinds.Calculation.{Calculation}
use Rattle.circus_checked.specs.declared.kinds.Calculation.TheVariants as by
use Rattle.circus_checked.specs.declared.kinds.Form.TheVariants as form
use Rattle.circus_checked.specs.ExpressionTree.{ExpressionTree, ExpressionTrees, SuffixTrees}
use Rattle.circus_checked.specs.Sorts.{Sort, a_number, of, a_truth, sort_of, shape_of, count_of, Has, EachHas, FieldsHave, Leads}
use Rattle.circus_checked.specs.Sorts as has
use Rattle.circus_evaluate.specs.Got.{Got, number, whole, Raising, and_then, number_or_overflow, as_kind, got_of, truth_of, number_of, value_of, bytes_of, unless_large, made_text, is_equal}
use Rattle.circus_evaluate.specs.Parts.{field, arm, item, part_by}
use Rattle.circus_evaluate.specs.Evaluating.{truth, is_ordered, calculation, stands_at, length_given, value_of_form, of_numbers, unless_decided, evaluate, evaluate_all, read_part, steps_of}
use Rattle.circus_evaluate.specs.Typed.{IsGot, Hold}
use Rattle.circus_evaluate.proofs.Items.{count_of_trees}
use Rattle.circus_evaluate.proofs.Fitting.{then_ok, then_any, if_ok, arm_put, to_field, to_arm, to_item_of_array, to_item_of_sequence, part_fits, StepsTo, no_steps, more_steps}

-- ---- numbers

calculated_is : (z : ℤ) → IfOk (number_or_overflow z) (IsGot a_number)
calculated_is z = if_ok (IsGot a_number) (is_signed_below 9223372036854775808 z) (number z) Range (λ _. tt)

unless_zero : (b : Bool) (z : ℤ) → IfOk (if b then Err Zero else number_or_overflow z) (IsGot a_number)
unless_zero true z = tt
unless_zero false z = calculated_is z

calculation_is : (o : Calculation) (y z : ℤ) → IfOk (calculation o y z) (IsGot a_number)
calculation_is by.Plus y z = calculated_is (y +ℤ z)
calculation_is by.Minus y z = calculated_is (y -ℤ z)
calculation_is by.Times y z = calculated_is (y *ℤ z)
calculation_is by.Div y z = unless_zero (int_eq z (pos 0)) (int_div y z)
calculation_is by.Mod y z = unless_zero (int_eq z (pos 0)) (int_rem y z)

of_numbers_is : (s : Sort) (a b : Raising Got) (f : ℤ → ℤ → Raising Got) → ((y z : ℤ) → IfOk (f y z) (IsGot s)) → IfOk (of_numbers a b f) (IsGot s)
of_numbers_is s a b f so = then_any (IsGot s) (and_then a number_of) (λ y. and_then (and_then b number_of) (f y)) (λ y. then_any (IsGot s) (and_then b number_of) (f y) (so y))

pub kind_fits : (k : NumberKind) (z : ℤ) → IfOk (as_kind k z) (λ t. IsTrue (fits (shape_of k) t))
kind_fits kind.Cardinal (pos n) = if_ok (λ t. IsTrue (fits shape.cardinal t)) (nat_lt n 65536) (value.cardinal n) Range (λ is. is)
kind_fits kind.Cardinal (negsuc n) = tt
kind_fits kind.LongCardinal (pos n) = if_ok (λ t. IsTrue (fits shape.long_cardinal t)) (nat_lt n 4294967296) (value.long_cardinal n) Range (λ is. is)
kind_fits kind.LongCardinal (negsuc n) = tt
kind_fits kind.Integer z = if_ok (λ t. IsTrue (fits shape.integer t)) (is_signed_below 32768 z) (value.integer z) Range (λ is. is)
kind_fits kind.LongInteger z = if_ok (λ t. IsTrue (fits shape.long_integer t)) (is_signed_below 2147483648 z) (value.long_integer z) Range (λ is. is)

-- ---- other values

decided_by : (b d : Bool) (r : Raising Got) → IfOk (if b then Ok (truth d) else and_then r (λ y. Ok (truth (truth_of y)))) (IsGot a_truth)
decided_by true d r = refl
decided_by false d r = then_any (IsGot a_truth) r (λ y. Ok (truth (truth_of y))) (λ y. refl)

decided_is : (d : Bool) (a b : Raising Got) → IfOk (unless_decided d a b) (IsGot a_truth)
decided_is d a b = then_any (IsGot a_truth) a (λ x. if beq d (truth_of x) then Ok (truth d) else and_then b (λ y. Ok (truth (truth_of y)))) (λ x. decided_by (beq d (truth_of x)) d b)

made_is : (limit : ℕ) (s : ShapeTree) (t : ValueTree) → IsTrue (fits s t) → IfOk (unless_large limit t) (IsGot (of s))
made_is limit s t fit = if_ok (IsGot (of s)) (nat_le (external_size t) limit) (whole t) TooLong (λ _. fit)

text_by : (limit : ℕ) (bytes : List ℕ) (b : Bool) → nat_lt (length bytes) 65536 ≡ b → IsTrue (list_all (λ x. nat_lt x 256) bytes) → IfOk (if b then unless_large limit (value.text bytes) else Err TooLong) (IsGot (of shape.text))
text_by limit bytes true short are = made_is limit shape.text (value.text bytes) (and_from (nat_lt (length bytes) 65536) (list_all (λ x. nat_lt x 256) bytes) short are)
text_by limit bytes false long are = tt

text_is : (limit : ℕ) (bytes : List ℕ) → IsTrue (list_all (λ x. nat_lt x 256) bytes) → IfOk (made_text limit bytes) (IsGot (of shape.text))
text_is limit bytes are = text_by limit bytes (nat_lt (length bytes) 65536) refl are

bytes_are : (x : Got) → IsGot (of shape.text) x → IfOk (bytes_of x) (λ bytes. IsTrue (list_all (λ b. nat_lt b 256) bytes))
bytes_are (number z) is = tt
bytes_are (whole (value.text bytes)) is = (and_parts (nat_lt (length bytes) 65536) (list_all (λ b. nat_lt b 256) bytes) is).1
bytes_are (whole _) is = tt

joined_bytes : (xs ys : List ℕ) → IsTrue (list_all (λ b. nat_lt b 256) xs) → IsTrue (list_all (λ b. nat_lt b 256) ys) → IsTrue (list_all (λ b. nat_lt b 256) (xs ++ ys))
joined_bytes [] ys first second = second
joined_bytes (x ∷ xs) ys first second =
    let (one, others) = and_parts (nat_lt x 256) (list_all (λ b. nat_lt b 256) xs) first in
    and_from (nat_lt x 256) (list_all (λ b. nat_lt b 256) (xs ++ ys)) one (joined_bytes xs ys others second)

pub value_fits : (s : ShapeTree) (x : Got) → IsGot (of s) x → IfOk (value_of x) (λ t. IsTrue (fits s t))
value_fits s (number z) is = tt
value_fits s (whole t) is = is

-- the value that is given
pub value_given : (s : ShapeTree) (r : Raising Got) → IfOk r (IsGot (of s)) → IfOk (and_then r value_of) (λ t. IsTrue (fits s t))
value_given s r given = then_ok (IsGot (of s)) (λ t. IsTrue (fits s t)) r value_of given (value_fits s)

length_is : (x : Got) → IfOk (length_given x) (IsGot a_number)
length_is (number z) = tt
length_is (whole (value.text bytes)) = calculated_is (pos (length bytes))
length_is (whole (value.sequence ts)) = calculated_is (pos (fitting.count_of ts))
length_is (whole _) = tt

-- what reading a value gives
pub got_is : (s : ShapeTree) (t : ValueTree) → IsTrue (fits s t) → IsGot (sort_of s) (got_of t)
got_is shape.boolean (value.boolean b) fit = refl
got_is shape.boolean _ fit = cc
got_is shape.cardinal (value.cardinal n) fit = tt
got_is shape.cardinal _ fit = cc
got_is shape.long_cardinal (value.long_cardinal n) fit = tt
got_is shape.long_cardinal _ fit = cc
got_is shape.integer (value.integer z) fit = tt
got_is shape.integer _ fit = cc
got_is shape.long_integer (value.long_integer z) fit = tt
got_is shape.long_integer _ fit = cc
got_is shape.text (value.text bytes) fit = fit
got_is shape.text _ fit = cc
got_is (shape.enumeration labels) (value.enumeration n) fit = fit
got_is (shape.enumeration labels) _ fit = cc
got_is (shape.array len element) (value.array ts) fit = fit
got_is (shape.array len element) _ fit = cc
got_is (shape.sequence bound element) (value.sequence ts) fit = fit
got_is (shape.sequence bound element) _ fit = cc
got_is (shape.«record» fs) (value.«record» ts) fit = fit
got_is (shape.«record» fs) _ fit = cc
got_is (shape.choice arms) (value.choice n t) fit = fit
got_is (shape.choice arms) _ fit = cc

-- ---- variables

pub hold_get : (shapes : List ShapeTree) (values : List ValueTree) (n : ℕ) (s : ShapeTree) (e : LanguageError) → Hold shapes values → slice_get shapes n ≡ Some s → IfOk (ok_or (slice_get values n) e) (λ t. IsTrue (fits s t))
hold_get [] values n s e hold is = cc
hold_get (r ∷ shapes) [] n s e hold is = absurd hold
hold_get (r ∷ shapes) (t ∷ values) zero s e hold is = subst (λ x. IsTrue (fits x t)) (some_same r s is) hold.0
hold_get (r ∷ shapes) (t ∷ values) (suc n) s e hold is = hold_get shapes values n s e hold.1 is

-- ---- expressions

-- items of one shape, so many
abbrev AreItems : ShapeTree → ℕ → List ValueTree → Type 0
AreItems s n ts = IsTrue (every (fits s) (value_trees ts)) × (length ts ≡ n)

module _ (limit : ℕ) (shapes : List ShapeTree) (variables : List ValueTree) (hold : Hold shapes variables) where
  mutual
    pub gives : (a : ExpressionTree) (s : Sort) → Has shapes a s → IfOk (evaluate limit variables a) (IsGot s)
    gives _ _ (has.either a b x y) = decided_is true (evaluate limit variables a) (evaluate limit variables b)
    gives _ _ (has.both a b x y) = decided_is false (evaluate limit variables a) (evaluate limit variables b)
    gives _ _ (has.negation a x) = then_any (IsGot a_truth) (evaluate limit variables a) (λ g. Ok (truth (not (truth_of g)))) (λ g. refl)
    gives _ _ (has.equal a b s x y) =
        then_any (IsGot a_truth) (evaluate limit variables a) (λ g. and_then (evaluate limit variables b) (λ h. Ok (truth (is_equal g h))))
        (λ g. then_any (IsGot a_truth) (evaluate limit variables b) (λ h. Ok (truth (is_equal g h))) (λ h. refl))
    gives _ _ (has.compare o a b x y) = of_numbers_is a_truth (evaluate limit variables a) (evaluate limit variables b) (λ y z. Ok (truth (is_ordered o y z))) (λ y z. refl)
    gives _ _ (has.calculate o a b x y) = of_numbers_is a_number (evaluate limit variables a) (evaluate limit variables b) (calculation o) (calculation_is o)
    gives _ _ (has.minus a x) = then_any (IsGot a_number) (and_then (evaluate limit variables a) number_of) (λ z. number_or_overflow (neg_ℤ z)) (λ z. calculated_is (neg_ℤ z))
    gives _ _ (has.join a b x y) =
        then_ok (λ xs. IsTrue (list_all (λ n. nat_lt n 256) xs)) (IsGot (of shape.text)) (and_then (evaluate limit variables a) bytes_of) (λ xs. and_then (and_then (evaluate limit variables b) bytes_of) (λ ys. made_text limit (xs ++ ys)))
        (then_ok (IsGot (of shape.text)) (λ xs. IsTrue (list_all (λ n. nat_lt n 256) xs)) (evaluate limit variables a) bytes_of (gives a (of shape.text) x) bytes_are)
        (λ xs first.
        then_ok (λ ys. IsTrue (list_all (λ n. nat_lt n 256) ys)) (IsGot (of shape.text)) (and_then (evaluate limit variables b) bytes_of) (λ ys. made_text limit (xs ++ ys))
        (then_ok (IsGot (of shape.text)) (λ ys. IsTrue (list_all (λ n. nat_lt n 256) ys)) (evaluate limit variables b) bytes_of (gives b (of shape.text) y) bytes_are)
        (λ ys second. text_is limit (xs ++ ys) (joined_bytes xs ys first second)))
    gives _ _ (has.is_arm n a arms t is x) = then_any (IsGot a_truth) (evaluate limit variables a) (λ g. Ok (truth (stands_at n g))) (λ g. refl)
    gives _ _ (has.number n) = calculated_is (pos n)
    gives _ _ (has.text bytes are) = text_is limit bytes are
    gives _ _ (has.truth b) = refl
    gives _ _ (has.length_of_text a x) = then_any (IsGot a_number) (evaluate limit variables a) length_given length_is
    gives _ _ (has.length_of_sequence a bound element x) = then_any (IsGot a_number) (evaluate limit variables a) length_given length_is
    gives _ _ (has.label n labels is) = is
    gives _ _ (has.arm n a arms t small is x) =
        then_ok (λ u. IsTrue (fits t u)) (IsGot (of (shape.choice arms))) (and_then (evaluate limit variables a) value_of) (λ u. unless_large limit (value.choice n u)) (value_given t (evaluate limit variables a) (gives a (of t) x))
        (λ u fit. made_is limit (shape.choice arms) (value.choice n u) (and_from (nat_lt n 65536) (arm_fits arms n u) (lt-ltb n 65536 small) (arm_put arms n t u is fit)))
    gives _ _ (has.array es element x) =
        then_ok (AreItems element (count_of es)) (IsGot (of (shape.array (count_of es) element))) (evaluate_all limit variables es) (λ ts. unless_large limit (value_of_form form.Array ts)) (each_gives es element x)
        (λ ts are.
        made_is limit (shape.array (count_of es) element) (value.array (value_trees ts))
        (and_from (fitting.count_of (value_trees ts) == count_of es) (every (fits element) (value_trees ts)) (eq-eqb (fitting.count_of (value_trees ts)) (count_of es) (count_of_trees ts ∙ are.1)) are.0))
    gives _ _ (has.sequence es bound element few x) =
        then_ok (AreItems element (count_of es)) (IsGot (of (shape.sequence bound element))) (evaluate_all limit variables es) (λ ts. unless_large limit (value_of_form form.Sequence ts)) (each_gives es element x)
        (λ ts are.
        made_is limit (shape.sequence bound element) (value.sequence (value_trees ts))
        (and_from (nat_le (fitting.count_of (value_trees ts)) bound) (every (fits element) (value_trees ts)) (le-leb (fitting.count_of (value_trees ts)) bound (omega (arith, count_of_trees ts, are.1, few))) are.0))
    gives _ _ (has.of_fields es fs x) =
        then_ok (λ ts. IsTrue (fields_fit fs (value_trees ts))) (IsGot (of (shape.«record» fs))) (evaluate_all limit variables es) (λ ts. unless_large limit (value_of_form form.Record ts)) (fields_give es fs x)
        (λ ts fit. made_is limit (shape.«record» fs) (value.«record» (value_trees ts)) fit)
    gives _ _ (has.convert k a x) =
        then_ok (λ t. IsTrue (fits (shape_of k) t)) (IsGot (of (shape_of k))) (and_then (and_then (evaluate limit variables a) number_of) (as_kind k)) (λ t. Ok (whole t))
        (then_any (λ t. IsTrue (fits (shape_of k) t)) (and_then (evaluate limit variables a) number_of) (as_kind k) (kind_fits k)) (λ t fit. fit)
    gives _ _ (has.read n ss t u is x) =
        then_ok (λ v. IsTrue (fits u v)) (IsGot (sort_of u)) (and_then (ok_or (slice_get variables n) WrongChoice) (read_part limit variables ss)) (λ v. Ok (got_of v))
        (then_ok (λ v. IsTrue (fits t v)) (λ v. IsTrue (fits u v)) (ok_or (slice_get variables n) WrongChoice) (read_part limit variables ss) (hold_get shapes variables n t WrongChoice hold is) (λ v fit. reads ss t u v x fit))
        (λ v fit. got_is u v fit)

    each_gives : (es : ExpressionTrees) (s : ShapeTree) → EachHas shapes es s → IfOk (evaluate_all limit variables es) (AreItems s (count_of es))
    each_gives _ _ (has.no_items s) = (refl, refl)
    each_gives _ _ (has.more_items a es s x more) =
        then_ok (λ t. IsTrue (fits s t)) (AreItems s (suc (count_of es))) (and_then (evaluate limit variables a) value_of) (λ t. and_then (evaluate_all limit variables es) (λ ts. Ok (t ∷ ts))) (value_given s (evaluate limit variables a) (gives a (of s) x))
        (λ t fit.
        then_ok (AreItems s (count_of es)) (AreItems s (suc (count_of es))) (evaluate_all limit variables es) (λ ts. Ok (t ∷ ts)) (each_gives es s more)
        (λ ts are. (and_from (fits s t) (every (fits s) (value_trees ts)) fit are.0, ap (λ n. suc n) are.1)))

    fields_give : (es : ExpressionTrees) (fs : FieldTrees) → FieldsHave shapes es fs → IfOk (evaluate_all limit variables es) (λ ts. IsTrue (fields_fit fs (value_trees ts)))
    fields_give _ _ has.no_values = refl
    fields_give _ _ (has.more_values a es name s fs x more) =
        then_ok (λ t. IsTrue (fits s t)) (λ ts. IsTrue (fields_fit (shape.more_fields name s fs) (value_trees ts))) (and_then (evaluate limit variables a) value_of) (λ t. and_then (evaluate_all limit variables es) (λ ts. Ok (t ∷ ts))) (value_given s (evaluate limit variables a) (gives a (of s) x))
        (λ t fit.
        then_ok (λ ts. IsTrue (fields_fit fs (value_trees ts))) (λ ts. IsTrue (fields_fit (shape.more_fields name s fs) (value_trees ts))) (evaluate_all limit variables es) (λ ts. Ok (t ∷ ts)) (fields_give es fs more)
        (λ ts are. and_from (fits s t) (fields_fit fs (value_trees ts)) fit are))

    reads : (ss : SuffixTrees) (s u : ShapeTree) (t : ValueTree) → Leads shapes ss s u → IsTrue (fits s t) → IfOk (read_part limit variables ss t) (λ v. IsTrue (fits u v))
    reads _ _ _ t (has.here s) fit = fit
    reads _ _ _ t (has.to_field n ss fs s u is more) fit =
        then_ok (λ v. IsTrue (fits s v)) (λ v. IsTrue (fits u v)) (part_by (field n) t) (read_part limit variables ss) (part_fits (field n) (shape.«record» fs) s t (to_field n fs s is) fit) (λ v first. reads ss s u v more first)
    reads _ _ _ t (has.to_arm n ss arms s u is more) fit =
        then_ok (λ v. IsTrue (fits s v)) (λ v. IsTrue (fits u v)) (part_by (arm n) t) (read_part limit variables ss) (part_fits (arm n) (shape.choice arms) s t (to_arm n arms s is) fit) (λ v first. reads ss s u v more first)
    reads _ _ _ t (has.to_item_of_array a ss len element u x more) fit =
        then_any (λ v. IsTrue (fits u v)) (and_then (evaluate limit variables a) number_of) (λ z. and_then (part_by (item z) t) (read_part limit variables ss))
        (λ z. then_ok (λ v. IsTrue (fits element v)) (λ v. IsTrue (fits u v)) (part_by (item z) t) (read_part limit variables ss) (part_fits (item z) (shape.array len element) element t (to_item_of_array z len element) fit) (λ v first. reads ss element u v more first))
    reads _ _ _ t (has.to_item_of_sequence a ss bound element u x more) fit =
        then_any (λ v. IsTrue (fits u v)) (and_then (evaluate limit variables a) number_of) (λ z. and_then (part_by (item z) t) (read_part limit variables ss))
        (λ z. then_ok (λ v. IsTrue (fits element v)) (λ v. IsTrue (fits u v)) (part_by (item z) t) (read_part limit variables ss) (part_fits (item z) (shape.sequence bound element) element t (to_item_of_sequence z bound element) fit) (λ v first. reads ss element u v more first))

  -- the steps that suffixes are
  pub steps_are : (ss : SuffixTrees) (s u : ShapeTree) → Leads shapes ss s u → IfOk (steps_of limit variables ss) (λ steps. StepsTo steps s u)
  steps_are _ _ _ (has.here s) = no_steps s
  steps_are _ _ _ (has.to_field n ss fs s u is more) =
      then_ok (λ steps. StepsTo steps s u) (λ steps. StepsTo steps (shape.«record» fs) u) (steps_of limit variables ss) (λ steps. Ok (field n ∷ steps)) (steps_are ss s u more) (λ steps to. more_steps (field n) steps (shape.«record» fs) s u (to_field n fs s is) to)
  steps_are _ _ _ (has.to_arm n ss arms s u is more) =
      then_ok (λ steps. StepsTo steps s u) (λ steps. StepsTo steps (shape.choice arms) u) (steps_of limit variables ss) (λ steps. Ok (arm n ∷ steps)) (steps_are ss s u more) (λ steps to. more_steps (arm n) steps (shape.choice arms) s u (to_arm n arms s is) to)
  steps_are _ _ _ (has.to_item_of_array a ss len element u x more) =
      then_any (λ steps. StepsTo steps (shape.array len element) u) (and_then (evaluate limit variables a) number_of) (λ z. and_then (steps_of limit variables ss) (λ steps. Ok (item z ∷ steps)))
      (λ z. then_ok (λ steps. StepsTo steps element u) (λ steps. StepsTo steps (shape.array len element) u) (steps_of limit variables ss) (λ steps. Ok (item z ∷ steps)) (steps_are ss element u more) (λ steps to. more_steps (item z) steps (shape.array len element) element u (to_item_of_array z len element) to))
  steps_are _ _ _ (has.to_item_of_sequence a ss bound element u x more) =
      then_any (λ steps. StepsTo steps (shape.sequence bound element) u) (and_then (evaluate limit variables a) number_of) (λ z. and_then (steps_of limit variables ss) (λ steps. Ok (item z ∷ steps)))
      (λ z. then_ok (λ steps. StepsTo steps element u) (λ steps. StepsTo steps (shape.sequence bound element) u) (steps_of limit variables ss) (λ steps. Ok (item z ∷ steps)) (steps_are ss element u more) (λ steps to. more_steps (item z) steps (shape.sequence bound element) element u (to_item_of_sequence z bound element) to))
