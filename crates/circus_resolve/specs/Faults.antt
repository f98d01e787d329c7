-- The faults of expressions and places, every one at the place where it stands. What depends on something unknown has no sort and
-- no shape, and nothing more is said of it.
use Rattle.std.specs.Prelude.{ℕ, zero, suc, ◌+◌, Bool, true, false, not, ◌==◌, nat_lt, cond, List, [], ◌∷◌, ◌++◌, Option, Some, None, is_none, option_map}
use Rattle.circus_value.specs.ShapeTree.{ShapeTree, FieldTrees, boolean, text, enumeration, array, sequence, «record», choice, no_fields, more_fields}
use Rattle.circus_syntax.specs.declared.named.Named.{Named}
use Rattle.circus_syntax.specs.declared.named.TypeName.{TypeName}
use Rattle.circus_expression.specs.ExpressionTree.{ExpressionTree, KindTree, ExpressionTrees, SuffixTrees, PlaceTree, suffix_trees}
use Rattle.circus_expression.specs.ExpressionTree as e
use Rattle.circus_expression.specs.declared.operator.Operator.{Operator}
use Rattle.circus_expression.specs.declared.operator.Operator.TheVariants as operator
use Rattle.circus_fault.specs.declared.fault.Fault.{Fault}
use Rattle.circus_fault.specs.Least.{faults_if}
use Rattle.circus_resolve.specs.declared.cause.CheckCause.{CheckCause}
use Rattle.circus_resolve.specs.declared.cause.CheckCause.TheVariants.{Unknown, Mistyped}
use Rattle.circus_resolve.specs.Scope.{Scope, Variable, Standing, a_type, no_module, no_type, unsaid, standing_of}
use Rattle.circus_checked.specs.Sorts.{Sort, a_number, of, sort_of}
use Rattle.circus_resolve.specs.Passing.{sort_eq, is_number, is_truth, is_text, has_length, goes_into}
use Rattle.circus_resolve.specs.Named.{label_named, FieldFound, field_named, ArmFound, arm_named, is_bare, element_of}

abbrev pub Faults : Type 0
Faults = List (Fault CheckCause)

-- ---- names of types

-- the first byte of a type's name
abbrev pub first_of : Option Named → Named → ℕ
first_of None name = name.at
first_of (Some m) name = m.at

abbrev pub place_of_type : TypeName → ℕ
place_of_type t = first_of t.«module» t.name

abbrev pub standing_faults : Standing → TypeName → Faults
standing_faults (a_type _) t = []
standing_faults no_module t = faults_if true (place_of_type t) Unknown
standing_faults no_type t = faults_if true t.name.at Unknown
standing_faults unsaid t = []

abbrev pub type_faults : Scope → TypeName → Faults
type_faults scope t = standing_faults (standing_of scope t) t

abbrev pub shape_of_standing : Standing → Option ShapeTree
shape_of_standing (a_type s) = Some s
shape_of_standing _ = None

-- the shape that the name stands for
abbrev pub type_shape : Scope → TypeName → Option ShapeTree
type_shape scope t = shape_of_standing (standing_of scope t)

-- ---- sorts where they are wanted

-- what stands at the place has to pass
abbrev pub faults_unless : Bool → ℕ → Faults
faults_unless passes at = faults_if (not passes) at Mistyped

-- a sort that passes is wanted there
abbrev pub wanted_faults : (Sort → Bool) → Option Sort → ℕ → Faults
wanted_faults passes None at = []
wanted_faults passes (Some s) at = faults_unless (passes s) at

-- a value is wanted that goes where the shape is
abbrev pub wanted_for : Option ShapeTree → Option Sort → ℕ → Faults
wanted_for None s at = []
wanted_for (Some shape) s at = wanted_faults (goes_into shape) s at

-- two of one sort are wanted
abbrev pub wanted_alike : Option Sort → Option Sort → ℕ → Faults
wanted_alike (Some s) (Some t) at = faults_unless (sort_eq s t) at
wanted_alike _ _ at = []

-- what an operator wants of its two operands
abbrev pub operand_faults : Operator → Option Sort → ℕ → Option Sort → ℕ → Faults
operand_faults operator.Or s at t other = wanted_faults is_truth s at ++ wanted_faults is_truth t other
operand_faults operator.And s at t other = wanted_faults is_truth s at ++ wanted_faults is_truth t other
operand_faults operator.Equal s at t other = wanted_alike s t at
operand_faults operator.Unequal s at t other = wanted_alike s t at
operand_faults operator.Join s at t other = wanted_faults is_text s at ++ wanted_faults is_text t other
operand_faults _ s at t other = wanted_faults is_number s at ++ wanted_faults is_number t other

-- what it gives
abbrev pub given_by : Operator → Sort
given_by operator.Plus = a_number
given_by operator.Minus = a_number
given_by operator.Times = a_number
given_by operator.Div = a_number
given_by operator.Mod = a_number
given_by operator.Join = of text
given_by _ = of boolean

-- IS: a choice, and one of its arms
abbrev pub arm_faults : Option Sort → ℕ → Named → Faults
arm_faults None at name = []
arm_faults (Some (of (choice arms))) at name = faults_if (is_none (arm_named arms name.name)) name.at Unknown
arm_faults (Some _) at name = faults_if true at Mistyped

-- ---- T#name and T#name(e), where the name of T stands at a place

-- an arm without a value is that of RECORD []
abbrev pub empty_arm_faults : Option ArmFound → ℕ → Named → Faults
empty_arm_faults None at name = faults_if true name.at Unknown
empty_arm_faults (Some a) at name = faults_if (not (is_bare a.shape)) at Mistyped

abbrev pub label_faults : Option ShapeTree → ℕ → Named → Faults
label_faults None at name = []
label_faults (Some (enumeration labels)) at name = faults_if (is_none (label_named labels name.name)) name.at Unknown
label_faults (Some (choice arms)) at name = empty_arm_faults (arm_named arms name.name) at name
label_faults (Some _) at name = faults_if true at Mistyped

-- an enumerator has no value
abbrev pub filled_label_faults : Option ℕ → ℕ → Named → Faults
filled_label_faults None at name = faults_if true name.at Unknown
filled_label_faults (Some _) at name = faults_if true at Mistyped

abbrev pub filled_arm_faults : Option ArmFound → ℕ → Named → Option Sort → ℕ → Faults
filled_arm_faults None at name s value_at = faults_if true name.at Unknown
filled_arm_faults (Some a) at name s value_at = cond (is_bare a.shape) (faults_if true at Mistyped) (wanted_faults (goes_into a.shape) s value_at)

abbrev pub filled_faults : Option ShapeTree → ℕ → Named → Option Sort → ℕ → Faults
filled_faults None at name s value_at = []
filled_faults (Some (enumeration labels)) at name s value_at = filled_label_faults (label_named labels name.name) at name
filled_faults (Some (choice arms)) at name s value_at = filled_arm_faults (arm_named arms name.name) at name s value_at
filled_faults (Some _) at name s value_at = faults_if true at Mistyped

-- ---- T#[..]

abbrev pub count : ExpressionTrees → ℕ
count e.no_expressions = zero
count (e.more_expressions _ es) = suc (count es)

abbrev pub field_count : FieldTrees → ℕ
field_count no_fields = zero
field_count (more_fields _ _ fs) = suc (field_count fs)

-- as many items as the type asks for
abbrev pub count_faults : Option ShapeTree → ℕ → ℕ → Faults
count_faults None at n = []
count_faults (Some (array len _)) at n = faults_if (not (n == len)) at Mistyped
count_faults (Some (sequence bound _)) at n = faults_if (nat_lt bound n) at Mistyped
count_faults (Some («record» fs)) at n = faults_if (not (n == field_count fs)) at Mistyped
count_faults (Some _) at n = faults_if true at Mistyped

-- what is wanted of items: all of one shape, where it is known, or one for each field
pub data Slots : Type 0 where
  alike : Option ShapeTree → Slots
  for_fields : FieldTrees → Slots

abbrev pub slots_for : Option ShapeTree → Slots
slots_for (Some («record» fs)) = for_fields fs
slots_for (Some (array _ s)) = alike (Some s)
slots_for (Some (sequence _ s)) = alike (Some s)
slots_for _ = alike None

-- the shape of the field at a place
abbrev pub field_at : FieldTrees → ℕ → Option ShapeTree
field_at no_fields n = None
field_at (more_fields _ s fs) zero = Some s
field_at (more_fields _ s fs) (suc n) = field_at fs n

-- the shape that is wanted of the item at a place
abbrev pub slot_at : Slots → ℕ → Option ShapeTree
slot_at (alike s) n = s
slot_at (for_fields fs) n = field_at fs n

-- ---- places

-- a field of a record or an arm of a choice, where the first byte of the place is given
abbrev pub field_faults : ℕ → Option ShapeTree → Named → Faults
field_faults first None name = []
field_faults first (Some («record» fs)) name = faults_if (is_none (field_named fs name.name)) name.at Unknown
field_faults first (Some (choice arms)) name = faults_if (is_none (arm_named arms name.name)) name.at Unknown
field_faults first (Some _) name = faults_if true first Mistyped

-- what it leads to
abbrev pub field_shape : Option ShapeTree → List ℕ → Option ShapeTree
field_shape (Some («record» fs)) name = option_map (λ (f : FieldFound). f.shape) (field_named fs name)
field_shape (Some (choice arms)) name = option_map (λ (a : ArmFound). a.shape) (arm_named arms name)
field_shape _ name = None

-- the shape of the items of an array or a sequence
abbrev pub element_for : Option ShapeTree → Option ShapeTree
element_for None = None
element_for (Some s) = element_of s

-- a subscript stands behind one of these
abbrev pub item_faults : ℕ → Option ShapeTree → Faults
item_faults first None = []
item_faults first (Some s) = faults_if (is_none (element_of s)) first Mistyped

-- where suffixes lead
abbrev pub shape_led_to : Option ShapeTree → SuffixTrees → Option ShapeTree
shape_led_to s e.no_suffixes = s
shape_led_to s (e.more_fields name ss) = shape_led_to (field_shape s name.name) ss
shape_led_to s (e.more_subscripts _ ss) = shape_led_to (element_for s) ss

-- a shape where no fault stands before it
abbrev pub unless_faulty : Faults → Option ShapeTree → Option ShapeTree
unless_faulty [] s = s
unless_faulty (_ ∷ _) s = None

-- the first byte of an expression
abbrev pub place_of : ExpressionTree → ℕ
place_of (e.expression at _) = at

module _ (scope : Scope) where
  abbrev pub variable_shape : Named → Option ShapeTree
  variable_shape name = option_map (λ (v : Variable). v.shape) (scope.variable name.name)

  abbrev pub variable_faults : Named → Faults
  variable_faults name = faults_if (is_none (scope.variable name.name)) name.at Unknown

  abbrev mutual
    -- what an expression gives, by its form; none where it depends on something unknown
    pub sort : ExpressionTree → Option Sort
    sort (e.expression _ kind) = kind_sort kind

    pub kind_sort : KindTree → Option Sort
    kind_sort (e.binary op _ _) = Some (given_by op)
    kind_sort (e.negation _) = Some (of boolean)
    kind_sort (e.minus _) = Some a_number
    kind_sort (e.is_arm _ _) = Some (of boolean)
    kind_sort (e.number _) = Some a_number
    kind_sort (e.text _) = Some (of text)
    kind_sort (e.truth _) = Some (of boolean)
    kind_sort (e.length_of _) = Some a_number
    kind_sort (e.label t _) = option_map sort_of (type_shape scope t)
    kind_sort (e.arm t _ _) = option_map sort_of (type_shape scope t)
    kind_sort (e.items t _) = option_map sort_of (type_shape scope t)
    kind_sort (e.read name ss) =
        option_map sort_of (unless_faulty (variable_faults name ++ suffix_faults name.at (variable_shape name) ss) (shape_led_to (variable_shape name) ss))

    -- of suffixes behind what has a shape
    pub suffix_faults : ℕ → Option ShapeTree → SuffixTrees → Faults
    suffix_faults first s e.no_suffixes = []
    suffix_faults first s (e.more_fields name ss) = field_faults first s name ++ suffix_faults first (field_shape s name.name) ss
    suffix_faults first s (e.more_subscripts subscript ss) =
        item_faults first s ++ expression_faults subscript ++ wanted_faults is_number (sort subscript) (place_of subscript)
        ++ suffix_faults first (element_for s) ss

    pub expression_faults : ExpressionTree → Faults
    expression_faults (e.expression _ kind) = kind_faults kind

    pub kind_faults : KindTree → Faults
    kind_faults (e.binary op a b) =
        expression_faults a ++ expression_faults b ++ operand_faults op (sort a) (place_of a) (sort b) (place_of b)
    kind_faults (e.negation a) = expression_faults a ++ wanted_faults is_truth (sort a) (place_of a)
    kind_faults (e.minus a) = expression_faults a ++ wanted_faults is_number (sort a) (place_of a)
    kind_faults (e.is_arm a name) = expression_faults a ++ arm_faults (sort a) (place_of a) name
    kind_faults (e.number _) = []
    kind_faults (e.text _) = []
    kind_faults (e.truth _) = []
    kind_faults (e.length_of a) = expression_faults a ++ wanted_faults has_length (sort a) (place_of a)
    kind_faults (e.label t name) = type_faults scope t ++ label_faults (type_shape scope t) (place_of_type t) name
    kind_faults (e.arm t name a) =
        type_faults scope t ++ expression_faults a ++ filled_faults (type_shape scope t) (place_of_type t) name (sort a) (place_of a)
    kind_faults (e.items t es) =
        type_faults scope t ++ count_faults (type_shape scope t) (place_of_type t) (count es) ++ each_faults (slots_for (type_shape scope t)) 0 es
    kind_faults (e.read name ss) = variable_faults name ++ suffix_faults name.at (variable_shape name) ss

    -- of items from a place on
    pub each_faults : Slots → ℕ → ExpressionTrees → Faults
    each_faults slots n e.no_expressions = []
    each_faults slots n (e.more_expressions a es) =
        expression_faults a ++ wanted_for (slot_at slots n) (sort a) (place_of a) ++ each_faults slots (n + 1) es

  -- of a place by itself
  abbrev pub place_faults : PlaceTree → Faults
  place_faults p = variable_faults p.name ++ suffix_faults p.name.at (variable_shape p.name) (suffix_trees p.suffixes)

  -- what it holds, where no fault stands in it
  abbrev pub place_shape : PlaceTree → Option ShapeTree
  place_shape p = unless_faulty (place_faults p) (shape_led_to (variable_shape p.name) (suffix_trees p.suffixes))
