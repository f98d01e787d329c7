-- Which expressions are well formed, by the shapes of the variables: what each gives, and where places lead.
use Rattle.std.specs.Prelude.{◌≡◌, ℕ, zero, suc, ◌<◌, ◌≤◌, Bool, ◌==◌, nat_lt, if◌then◌else◌, IsTrue, List, Option, Some, None, slice_get}
use Rattle.std.specs.List.{list_all}
use Rattle.circus_value.specs.ShapeTree.{ShapeTree, FieldTrees, ArmTrees, no_fields, more_fields, no_arms, more_arms}
use Rattle.circus_value.specs.ShapeTree as shape
use Rattle.circus_value.specs.ValueTree as value
use Rattle.circus_value.specs.Fits.{is_labelled}
use Rattle.circus_value.specs.declared.shape.Label.{Label}
use Rattle.circus_checked.specs.declared.kinds.NumberKind.{NumberKind}
use Rattle.circus_checked.specs.declared.kinds.NumberKind.TheVariants as kind
use Rattle.circus_checked.specs.declared.kinds.Order.{Order}
use Rattle.circus_checked.specs.declared.kinds.Calculation.{Calculation}
use Rattle.circus_checked.specs.declared.kinds.Form.TheVariants as form
use Rattle.circus_checked.specs.declared.expression.CheckedPlace.{CheckedPlace}
use Rattle.circus_checked.specs.ExpressionTree.{ExpressionTree, ExpressionTrees, SuffixTrees, no_expressions, more_expressions, no_suffixes, in_field, in_arm, in_item, suffix_trees}
use Rattle.circus_checked.specs.ExpressionTree as e

-- what an expression gives: a number, which has no kind until it is stored, or a value of a shape
pub data Sort : Type 0 where
  a_number : Sort
  of : ShapeTree → Sort

abbrev pub a_truth : Sort
a_truth = of shape.boolean

-- what reading a variable of a shape gives
abbrev pub sort_of : ShapeTree → Sort
sort_of shape.cardinal = a_number
sort_of shape.long_cardinal = a_number
sort_of shape.integer = a_number
sort_of shape.long_integer = a_number
sort_of shape.boolean = of shape.boolean
sort_of shape.text = of shape.text
sort_of (shape.enumeration labels) = of (shape.enumeration labels)
sort_of (shape.array len element) = of (shape.array len element)
sort_of (shape.sequence bound element) = of (shape.sequence bound element)
sort_of (shape.«record» fields) = of (shape.«record» fields)
sort_of (shape.choice arms) = of (shape.choice arms)

-- the kind of the numbers of a shape
abbrev pub kind_of : ShapeTree → Option NumberKind
kind_of shape.cardinal = Some kind.Cardinal
kind_of shape.long_cardinal = Some kind.LongCardinal
kind_of shape.integer = Some kind.Integer
kind_of shape.long_integer = Some kind.LongInteger
kind_of _ = None

-- and the other way round
abbrev pub shape_of : NumberKind → ShapeTree
shape_of kind.Cardinal = shape.cardinal
shape_of kind.LongCardinal = shape.long_cardinal
shape_of kind.Integer = shape.integer
shape_of kind.LongInteger = shape.long_integer

-- the shape of the field at a place
abbrev pub field_in : FieldTrees → ℕ → Option ShapeTree
field_in no_fields n = None
field_in (more_fields name shape fs) zero = Some shape
field_in (more_fields name shape fs) (suc n) = field_in fs n

-- the shape of the first arm with a number
abbrev pub arm_in : ArmTrees → ℕ → Option ShapeTree
arm_in no_arms n = None
arm_in (more_arms name number shape others) n = if n == number then Some shape else arm_in others n

-- how many
abbrev pub count_of : ExpressionTrees → ℕ
count_of no_expressions = 0
count_of (more_expressions a es) = suc (count_of es)

module _ (variables : List ShapeTree) where
  mutual
    -- an expression gives this
    pub data Has : ExpressionTree → Sort → Type 0 where
      either : (a b : ExpressionTree) → Has a a_truth → Has b a_truth → Has (e.either a b) a_truth
      both : (a b : ExpressionTree) → Has a a_truth → Has b a_truth → Has (e.both a b) a_truth
      negation : (a : ExpressionTree) → Has a a_truth → Has (e.negation a) a_truth
      equal : (a b : ExpressionTree) (s : Sort) → Has a s → Has b s → Has (e.equal a b) a_truth
      compare : (o : Order) (a b : ExpressionTree) → Has a a_number → Has b a_number → Has (e.compare o a b) a_truth
      calculate : (o : Calculation) (a b : ExpressionTree) → Has a a_number → Has b a_number → Has (e.calculate o a b) a_number
      minus : (a : ExpressionTree) → Has a a_number → Has (e.minus a) a_number
      join : (a b : ExpressionTree) → Has a (of shape.text) → Has b (of shape.text) → Has (e.join a b) (of shape.text)
      is_arm : (n : ℕ) (a : ExpressionTree) (arms : ArmTrees) (t : ShapeTree) → arm_in arms n ≡ Some t → Has a (of (shape.choice arms)) → Has (e.is_arm n a) a_truth
      number : (n : ℕ) → Has (e.number n) a_number
      text : (bytes : List ℕ) → IsTrue (list_all (λ b. nat_lt b 256) bytes) → Has (e.text bytes) (of shape.text)
      truth : (b : Bool) → Has (e.truth b) a_truth
      length_of_text : (a : ExpressionTree) → Has a (of shape.text) → Has (e.length_of a) a_number
      length_of_sequence : (a : ExpressionTree) (bound : ℕ) (element : ShapeTree) → Has a (of (shape.sequence bound element)) → Has (e.length_of a) a_number
      label : (n : ℕ) (labels : List Label) → IsTrue (is_labelled labels (value.enumeration n)) → Has (e.label n) (of (shape.enumeration labels))
      arm : (n : ℕ) (a : ExpressionTree) (arms : ArmTrees) (t : ShapeTree) → n < 65536 → arm_in arms n ≡ Some t → Has a (of t) → Has (e.arm n a) (of (shape.choice arms))
      array : (es : ExpressionTrees) (element : ShapeTree) → EachHas es element → Has (e.items form.Array es) (of (shape.array (count_of es) element))
      sequence : (es : ExpressionTrees) (bound : ℕ) (element : ShapeTree) → count_of es ≤ bound → EachHas es element → Has (e.items form.Sequence es) (of (shape.sequence bound element))
      of_fields : (es : ExpressionTrees) (fields : FieldTrees) → FieldsHave es fields → Has (e.items form.Record es) (of (shape.«record» fields))
      convert : (k : NumberKind) (a : ExpressionTree) → Has a a_number → Has (e.convert k a) (of (shape_of k))
      read : (n : ℕ) (ss : SuffixTrees) (t u : ShapeTree) → slice_get variables n ≡ Some t → Leads ss t u → Has (e.read n ss) (sort_of u)

    -- each of them gives a value of this shape
    pub data EachHas : ExpressionTrees → ShapeTree → Type 0 where
      no_items : (t : ShapeTree) → EachHas no_expressions t
      more_items : (a : ExpressionTree) (es : ExpressionTrees) (t : ShapeTree) → Has a (of t) → EachHas es t → EachHas (more_expressions a es) t

    -- they give the values of these fields
    pub data FieldsHave : ExpressionTrees → FieldTrees → Type 0 where
      no_values : FieldsHave no_expressions no_fields
      more_values : (a : ExpressionTree) (es : ExpressionTrees) (name : List ℕ) (t : ShapeTree) (fields : FieldTrees) → Has a (of t) → FieldsHave es fields → FieldsHave (more_expressions a es) (more_fields name t fields)

    -- suffixes lead from a value of a shape to one of another shape
    pub data Leads : SuffixTrees → ShapeTree → ShapeTree → Type 0 where
      here : (t : ShapeTree) → Leads no_suffixes t t
      to_field : (n : ℕ) (ss : SuffixTrees) (fields : FieldTrees) (t u : ShapeTree) → field_in fields n ≡ Some t → Leads ss t u → Leads (in_field n ss) (shape.«record» fields) u
      to_arm : (n : ℕ) (ss : SuffixTrees) (arms : ArmTrees) (t u : ShapeTree) → arm_in arms n ≡ Some t → Leads ss t u → Leads (in_arm n ss) (shape.choice arms) u
      to_item_of_array : (a : ExpressionTree) (ss : SuffixTrees) (len : ℕ) (element u : ShapeTree) → Has a a_number → Leads ss element u → Leads (in_item a ss) (shape.array len element) u
      to_item_of_sequence : (a : ExpressionTree) (ss : SuffixTrees) (bound : ℕ) (element u : ShapeTree) → Has a a_number → Leads ss element u → Leads (in_item a ss) (shape.sequence bound element) u

  -- a place holds values of this shape
  pub data Holds : CheckedPlace → ShapeTree → Type 0 where
    at : (place : CheckedPlace) (t u : ShapeTree) → slice_get variables place.variable ≡ Some t → Leads (suffix_trees place.suffixes) t u → Holds place u
