-- The grammar: what the tokens of a placing are, in their order, and which trees it has.
use Rattle.std.specs.Prelude.{◌≡◌, ℕ, false, List, [], ◌∷◌, ◌++◌, codes, if◌then◌else◌, Bool}
use Rattle.std.proofs.Common.{zero, suc}
use Rattle.circus_text.specs.declared.token.TokenKind.TheVariants.{Word}
use Rattle.circus_text.specs.Token.{IsSpelling, Lexeme}
use Rattle.circus_syntax.specs.declared.named.Named.{Named}
use Rattle.circus_syntax.specs.Placed.{Placed, word, sign, digits, Due, due, due_name, due_number, due_text, open_level, AreWithin, AreDue}
use Rattle.circus_syntax.specs.Spelling.{each, with_commas, if_written, spelling_names, IsEach, IsListed, IfWritten, IsNumeral, IsText}
use Rattle.circus_place.specs.declared.condition.Comparison.{Comparison}
use Rattle.circus_place.specs.declared.condition.Comparison.TheVariants as by
use Rattle.circus_place.specs.declared.text.ConstantText.{ConstantText}
use Rattle.circus_place.specs.declared.text.ConstantText.TheVariants as constant
use Rattle.circus_place.specs.declared.text.AttributeText.{AttributeText}
use Rattle.circus_place.specs.declared.text.MachineText.{MachineText}
use Rattle.circus_place.specs.declared.text.OperandText.{OperandText}
use Rattle.circus_place.specs.declared.text.OperandText.TheVariants as operand
use Rattle.circus_place.specs.Words.{is_placing_word}
use Rattle.circus_place.specs.Written.{Written, or, and, not, group, differ, compare, holds, PlacingTree}

abbrev pub truth_word : Bool → Lexeme
truth_word b = if b then word (codes "TRUE") else word (codes "FALSE")

abbrev pub spelling_constant : ConstantText → List Due
spelling_constant (constant.Number n) = due_number n ∷ []
spelling_constant (constant.Text content at) = due_text content at ∷ []
spelling_constant (constant.Truth b) = due (truth_word b) ∷ []

abbrev pub spelling_attribute : AttributeText → List Due
spelling_attribute a = due_name a.name ∷ due (sign (codes "=")) ∷ spelling_constant a.constant

abbrev pub spelling_machine : MachineText → List Due
spelling_machine m =
    due (word (codes "MACHINE")) ∷ due_name m.name ∷ due (sign (codes "["))
    ∷ (with_commas spelling_attribute m.attributes ++ due (sign (codes "]")) ∷ due (sign (codes ";")) ∷ [])

abbrev pub spelling_operand : OperandText → List Due
spelling_operand (operand.Attribute member name) = due_number member ∷ due (sign (codes ".")) ∷ due_name name ∷ []
spelling_operand (operand.Fixed c) = spelling_constant c

abbrev pub sign_of : Comparison → Lexeme
sign_of by.Equal = sign (codes "=")
sign_of by.Unequal = sign (codes "<>")
sign_of by.Less = sign (codes "<")
sign_of by.AtMost = sign (codes "<=")
sign_of by.Greater = sign (codes ">")
sign_of by.AtLeast = sign (codes ">=")

abbrev pub or_word : Lexeme
or_word = word (codes "OR")

abbrev pub and_word : Lexeme
and_word = word (codes "AND")

-- the operators of a chain
abbrev pub ors : Written → ℕ
ors (or a b) = suc (ors a)
ors _ = 0

abbrev pub ands : Written → ℕ
ands (and a b) = suc (ands a)
ands _ = 0

-- so many levels, with all that stands in them
abbrev pub opened_times : ℕ → List Due → List Due
opened_times zero ds = ds
opened_times (suc n) ds = opened_times n (open_level ds)

-- a NOT and a group open a level; so does each operator of a chain but the first, from there to the chain's end
abbrev pub spelling_condition : Written → List Due
spelling_condition (or a b) = spelling_condition a ++ opened_times (ors a) (due or_word ∷ spelling_condition b)
spelling_condition (and a b) = spelling_condition a ++ opened_times (ands a) (due and_word ∷ spelling_condition b)
spelling_condition (not a) = open_level (due (word (codes "NOT")) ∷ spelling_condition a)
spelling_condition (group a) = open_level (due (sign (codes "(")) ∷ (spelling_condition a ++ due (sign (codes ")")) ∷ []))
spelling_condition (differ name) = due (word (codes "ALL")) ∷ due (word (codes "DIFFER")) ∷ due_name name ∷ []
spelling_condition (compare c a b) = spelling_operand a ++ due (sign_of c) ∷ spelling_operand b
spelling_condition (holds a) = spelling_operand a

abbrev pub spelling_present : List Named → List Due
spelling_present names = due (word (codes "PRESENT")) ∷ (spelling_names names ++ due (sign (codes ";")) ∷ [])

abbrev pub spelling : PlacingTree → List Due
spelling p =
    due (word (codes "PLACE")) ∷ due (digits (codes "1")) ∷ due (sign (codes ";")) ∷ (each spelling_machine p.machines
    ++ due (word (codes "MEMBERS")) ∷ due_number p.members ∷ due (word (codes "WHERE")) ∷ (spelling_condition p.condition
    ++ due (sign (codes ";")) ∷ if_written spelling_present p.present))

-- a word that isn't one of the placing's own
abbrev pub IsOwnName : Named → Type 0
IsOwnName n = IsSpelling Word n.name × (is_placing_word n.name ≡ false)

abbrev pub IsConstant : ConstantText → Type 0
IsConstant (constant.Number n) = IsNumeral n
IsConstant (constant.Text content at) = IsText content
IsConstant (constant.Truth b) = Unit {0}

abbrev pub IsAttribute : AttributeText → Type 0
IsAttribute a = IsOwnName a.name × IsConstant a.constant

abbrev pub IsMachine : MachineText → Type 0
IsMachine m = IsOwnName m.name × IsEach IsAttribute m.attributes

abbrev pub IsOperand : OperandText → Type 0
IsOperand (operand.Attribute member name) = IsNumeral member × IsOwnName name
IsOperand (operand.Fixed c) = IsConstant c

-- conditions by how tightly they are joined: parts of an OR, of an AND, and what stands by itself
abbrev mutual
  pub IsCondition : Written → Type 0
  IsCondition (or a b) = IsCondition a × IsConjunct b
  IsCondition (and a b) = IsConjunct a × IsNegated b
  IsCondition (not a) = IsNegated a
  IsCondition (group a) = IsCondition a
  IsCondition (differ name) = IsOwnName name
  IsCondition (compare c a b) = IsOperand a × IsOperand b
  IsCondition (holds a) = IsOperand a

  pub IsConjunct : Written → Type 0
  IsConjunct (or a b) = ⊥
  IsConjunct (and a b) = IsConjunct a × IsNegated b
  IsConjunct (not a) = IsNegated a
  IsConjunct (group a) = IsCondition a
  IsConjunct (differ name) = IsOwnName name
  IsConjunct (compare c a b) = IsOperand a × IsOperand b
  IsConjunct (holds a) = IsOperand a

  pub IsNegated : Written → Type 0
  IsNegated (or a b) = ⊥
  IsNegated (and a b) = ⊥
  IsNegated (not a) = IsNegated a
  IsNegated (group a) = IsCondition a
  IsNegated (differ name) = IsOwnName name
  IsNegated (compare c a b) = IsOperand a × IsOperand b
  IsNegated (holds a) = IsOperand a

-- the names of a tree are names, its numbers are not too great, and its conditions are joined as they are written
abbrev pub IsGrammatical : PlacingTree → Type 0
IsGrammatical p =
    IsEach IsMachine p.machines × IsNumeral p.members × IsCondition p.condition × IfWritten (IsListed IsOwnName) p.present

-- the most levels that a condition may have
abbrev pub most_levels : ℕ
most_levels = 64

-- no token stands deeper than this
abbrev pub IsWithin : ℕ → PlacingTree → Type 0
IsWithin limit p = AreWithin limit (spelling p)

-- the tokens are this placing
pub record IsPlacing (ts : List Placed) (tree : PlacingTree) : Type 0 where
  pub grammatical : IsGrammatical tree
  pub spelled : AreDue (spelling tree) ts

-- the tokens can go on to a placing
abbrev pub Begins : List Placed → Type 0
Begins ts = (tree : PlacingTree) × (more : List Placed) × IsPlacing (ts ++ more) tree

-- they can go on to one that has no more levels than a condition may have
abbrev pub BeginsWithin : List Placed → Type 0
BeginsWithin ts = (tree : PlacingTree) × (more : List Placed) × IsPlacing (ts ++ more) tree × IsWithin most_levels tree
