-- Shapes, scopes and expressions as every program has them, once it is read.
use Rattle.std.specs.Prelude.{◌≡◌, ◌≢◌, ℕ, ◌<◌, ◌≤◌, IsTrue, nat_lt, List, Option, Some, slice_get}
use Rattle.std.specs.List.{AllByRecursion, list_all}
use Rattle.circus_value.specs.declared.shape.Label.{Label}
use Rattle.circus_value.specs.ShapeTree.{ShapeTree, FieldTrees, ArmTrees, text, enumeration, array, sequence, «record», choice, no_fields, more_fields, no_arms, more_arms}
use Rattle.circus_expression.specs.ExpressionTree.{ExpressionTree, KindTree, ExpressionTrees, SuffixTrees}
use Rattle.circus_expression.specs.ExpressionTree as e
use Rattle.circus_resolve.specs.Scope.{Scope, Variable, unsaid, a_type}
use Rattle.circus_resolve.specs.Faults.{field_count}

-- no arm has this number
abbrev pub HasNone : ℕ → ArmTrees → Type 0
HasNone n no_arms = Unit {0}
HasNone n (more_arms _ m _ arms) = (n ≢ m) × HasNone n arms

-- of an arm: its number is a word, and no later arm's; its shape, and the later ones
pub record Arm (Below Distinct Own Others : Type 0) : Type 0 where
  pub below : Below
  pub distinct : Distinct
  pub own : Own
  pub others : Others

abbrev mutual
  -- numbers are words, those of arms are distinct, and the place of a field is a word
  pub IsRegular : ShapeTree → Type 0
  IsRegular (enumeration labels) = AllByRecursion (λ (l : Label). l.number < 65536) labels
  IsRegular (array _ s) = IsRegular s
  IsRegular (sequence _ s) = IsRegular s
  IsRegular («record» fs) = (field_count fs ≤ 65536) × AreRegular fs
  IsRegular (choice arms) = HasRegular arms
  IsRegular _ = Unit {0}

  pub AreRegular : FieldTrees → Type 0
  AreRegular no_fields = Unit {0}
  AreRegular (more_fields _ s fs) = IsRegular s × AreRegular fs

  pub HasRegular : ArmTrees → Type 0
  HasRegular no_arms = Unit {0}
  HasRegular (more_arms _ n s arms) = Arm (n < 65536) (HasNone n arms) (IsRegular s) (HasRegular arms)

-- a scope over the shapes of the variables, in which the types of each module that is imported are known
pub record IsWhole (variables : List ShapeTree) (scope : Scope) : Type 0 where
  pub found : (name : List ℕ) (v : Variable) → scope.variable name ≡ Some v → slice_get variables v.place ≡ Some v.shape
  pub regular : (name : List ℕ) (v : Variable) → scope.variable name ≡ Some v → IsRegular v.shape
  pub said : (m : Option (List ℕ)) (name : List ℕ) → scope.type_named m name ≢ unsaid
  pub types : (m : Option (List ℕ)) (name : List ℕ) (s : ShapeTree) → scope.type_named m name ≡ a_type s → IsRegular s

abbrev mutual
  -- the texts in it are of bytes
  pub IsOfBytes : ExpressionTree → Type 0
  IsOfBytes (e.expression _ kind) = KindIsOfBytes kind

  pub KindIsOfBytes : KindTree → Type 0
  KindIsOfBytes (e.binary _ a b) = IsOfBytes a × IsOfBytes b
  KindIsOfBytes (e.negation a) = IsOfBytes a
  KindIsOfBytes (e.minus a) = IsOfBytes a
  KindIsOfBytes (e.is_arm a _) = IsOfBytes a
  KindIsOfBytes (e.number _) = Unit {0}
  KindIsOfBytes (e.text bytes) = IsTrue (list_all (λ b. nat_lt b 256) bytes)
  KindIsOfBytes (e.truth _) = Unit {0}
  KindIsOfBytes (e.length_of a) = IsOfBytes a
  KindIsOfBytes (e.label _ _) = Unit {0}
  KindIsOfBytes (e.arm _ _ a) = IsOfBytes a
  KindIsOfBytes (e.items _ es) = AreOfBytes es
  KindIsOfBytes (e.read _ ss) = SuffixesAreOfBytes ss

  pub AreOfBytes : ExpressionTrees → Type 0
  AreOfBytes e.no_expressions = Unit {0}
  AreOfBytes (e.more_expressions a es) = IsOfBytes a × AreOfBytes es

  pub SuffixesAreOfBytes : SuffixTrees → Type 0
  SuffixesAreOfBytes e.no_suffixes = Unit {0}
  SuffixesAreOfBytes (e.more_fields _ ss) = SuffixesAreOfBytes ss
  SuffixesAreOfBytes (e.more_subscripts a ss) = IsOfBytes a × SuffixesAreOfBytes ss
