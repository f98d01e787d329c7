-- What expressions and places mean: trees without names, in which each number that is stored as one of a kind is converted to it.
-- Where something is unknown the tree stands for nothing.
use Rattle.std.specs.Prelude.{ℕ, ◌+◌, Option, Some, None, List, [], ◌∷◌, unwrap_or}
use Rattle.circus_value.specs.ShapeTree.{ShapeTree, enumeration, array, sequence, «record», choice}
use Rattle.circus_expression.specs.ExpressionTree.{ExpressionTree, KindTree, ExpressionTrees, SuffixTrees, PlaceTree, suffix_trees}
use Rattle.circus_expression.specs.ExpressionTree as e
use Rattle.circus_expression.specs.declared.operator.Operator.{Operator}
use Rattle.circus_expression.specs.declared.operator.Operator.TheVariants as operator
use Rattle.circus_checked.specs.declared.kinds.NumberKind.{NumberKind}
use Rattle.circus_checked.specs.declared.kinds.Order.TheVariants as order
use Rattle.circus_checked.specs.declared.kinds.Calculation.TheVariants as calculation
use Rattle.circus_checked.specs.declared.kinds.Form.{Form}
use Rattle.circus_checked.specs.declared.kinds.Form.TheVariants as form
use Rattle.circus_checked.specs.ExpressionTree as c
use Rattle.circus_checked.specs.declared.expression.CheckedPlace.{CheckedPlace}
use Rattle.circus_resolve.specs.Scope.{Scope, Variable}
use Rattle.circus_checked.specs.Sorts.{Sort, of, kind_of}
use Rattle.circus_resolve.specs.Named.{label_named, FieldFound, field_named, ArmFound, arm_named}
use Rattle.circus_resolve.specs.Faults.{Slots, slots_for, slot_at, type_shape, element_for, field_shape, variable_shape, sort}

-- two operands with an operator between them
abbrev pub join_operands : Operator → c.ExpressionTree → c.ExpressionTree → c.ExpressionTree
join_operands operator.Or a b = c.either a b
join_operands operator.And a b = c.both a b
join_operands operator.Equal a b = c.equal a b
join_operands operator.Unequal a b = c.negation (c.equal a b)
join_operands operator.Less a b = c.compare order.Less a b
join_operands operator.AtMost a b = c.compare order.AtMost a b
join_operands operator.Greater a b = c.compare order.Greater a b
join_operands operator.AtLeast a b = c.compare order.AtLeast a b
join_operands operator.Plus a b = c.calculate calculation.Plus a b
join_operands operator.Minus a b = c.calculate calculation.Minus a b
join_operands operator.Times a b = c.calculate calculation.Times a b
join_operands operator.Div a b = c.calculate calculation.Div a b
join_operands operator.Mod a b = c.calculate calculation.Mod a b
join_operands operator.Join a b = c.join a b

-- a number as one of a kind, and everything else as it is
abbrev pub convert_number : Option NumberKind → c.ExpressionTree → c.ExpressionTree
convert_number None a = a
convert_number (Some k) a = c.convert k a

-- a value as it is stored where the shape is
abbrev pub convert_to : Option ShapeTree → c.ExpressionTree → c.ExpressionTree
convert_to None a = a
convert_to (Some s) a = convert_number (kind_of s) a

abbrev pub arm_number : Option ArmFound → ℕ
arm_number None = 0
arm_number (Some a) = a.number

abbrev pub arm_shape : Option ArmFound → Option ShapeTree
arm_shape None = None
arm_shape (Some a) = Some a.shape

-- the arm of this name
abbrev pub arm_in : Option ShapeTree → List ℕ → Option ArmFound
arm_in (Some (choice arms)) name = arm_named arms name
arm_in _ name = None

abbrev pub shape_in : Option Sort → Option ShapeTree
shape_in (Some (of s)) = Some s
shape_in _ = None

-- T#name
abbrev pub label_meant : Option ShapeTree → List ℕ → c.ExpressionTree
label_meant (Some (enumeration labels)) name = c.label (unwrap_or (label_named labels name) 0)
label_meant (Some (choice arms)) name = c.arm (arm_number (arm_named arms name)) (c.items form.Record c.no_expressions)
label_meant _ name = c.label 0

-- what is made of items
abbrev pub form_of : Option ShapeTree → Form
form_of (Some (array _ _)) = form.Array
form_of (Some (sequence _ _)) = form.Sequence
form_of _ = form.Record

-- the place of a field
abbrev pub field_place : Option FieldFound → ℕ
field_place None = 0
field_place (Some f) = f.place

-- a field of a record, or an arm of a choice
abbrev pub field_meant : Option ShapeTree → List ℕ → c.SuffixTree
field_meant (Some («record» fs)) name = c.field (field_place (field_named fs name))
field_meant (Some (choice arms)) name = c.arm_of (arm_number (arm_named arms name))
field_meant _ name = c.field 0

-- the place of a variable
abbrev pub variable_place : Option Variable → ℕ
variable_place None = 0
variable_place (Some v) = v.place

module _ (scope : Scope) where
  abbrev mutual
    pub meant : ExpressionTree → c.ExpressionTree
    meant (e.expression _ kind) = kind_meant kind

    pub kind_meant : KindTree → c.ExpressionTree
    kind_meant (e.binary op a b) = join_operands op (meant a) (meant b)
    kind_meant (e.negation a) = c.negation (meant a)
    kind_meant (e.minus a) = c.minus (meant a)
    kind_meant (e.is_arm a name) = c.is_arm (arm_number (arm_in (shape_in (sort scope a)) name.name)) (meant a)
    kind_meant (e.number n) = c.number n
    kind_meant (e.text bytes) = c.text bytes
    kind_meant (e.truth b) = c.truth b
    kind_meant (e.length_of a) = c.length_of (meant a)
    kind_meant (e.label t name) = label_meant (type_shape scope t) name.name
    kind_meant (e.arm t name a) =
        c.arm (arm_number (arm_in (type_shape scope t) name.name)) (convert_to (arm_shape (arm_in (type_shape scope t) name.name)) (meant a))
    kind_meant (e.items t es) = c.items (form_of (type_shape scope t)) (c.expression_trees (each_meant (slots_for (type_shape scope t)) 0 es))
    kind_meant (e.read name ss) = c.read (variable_place (scope.variable name.name)) (c.suffix_trees (suffixes_meant (variable_shape scope name) ss))

    -- items from a place on
    pub each_meant : Slots → ℕ → ExpressionTrees → List c.ExpressionTree
    each_meant slots n e.no_expressions = []
    each_meant slots n (e.more_expressions a es) = convert_to (slot_at slots n) (meant a) ∷ each_meant slots (n + 1) es

    pub suffixes_meant : Option ShapeTree → SuffixTrees → List c.SuffixTree
    suffixes_meant s e.no_suffixes = []
    suffixes_meant s (e.more_fields name ss) = field_meant s name.name ∷ suffixes_meant (field_shape s name.name) ss
    suffixes_meant s (e.more_subscripts a ss) = c.subscript (meant a) ∷ suffixes_meant (element_for s) ss

  -- a place by itself
  abbrev pub place_meant : PlaceTree → CheckedPlace
  place_meant p = record {
    variable = variable_place (scope.variable p.name.name);
    suffixes = suffixes_meant (variable_shape scope p.name) (suffix_trees p.suffixes);
  }
