-- The grammar of expressions and places. An expression as it is written has its parentheses, and the operands and
-- the suffixes of a chain in a row. Each production is named in front of what it spells.
use Rattle.std.specs.Prelude.{ℕ, ◌≤◌, Bool, true, false, List, [], ◌∷◌, ◌++◌, codes}
use Rattle.circus_text.specs.Token.{Lexeme}
use Rattle.circus_syntax.specs.declared.named.Named.{Named}
use Rattle.circus_syntax.specs.declared.named.Numeral.{Numeral}
use Rattle.circus_syntax.specs.declared.named.TypeName.{TypeName}
use Rattle.circus_syntax.specs.Placed.{word, sign, Due, due, due_at, due_name, due_number, due_text, open_level}
use Rattle.circus_syntax.specs.Spelling.{comma, spelling_type_name, IsName, IsNumeral, IsText, IfWritten}
use Rattle.circus_expression.specs.declared.operator.Operator.{Operator}
use Rattle.circus_expression.specs.declared.operator.Chain.{Chain}
use Rattle.circus_expression.specs.declared.operator.Chain.TheVariants as of
use Rattle.circus_expression.specs.Operators.{lexeme_of, Joins, Compares}

mutual
  pub data Written : Type 0 where
    chain : Chain → Written → Links → Written
    negation : ℕ → Written → Written
    comparison : Written → Operator → Written → Written
    is_arm : Written → Named → Written
    minus : ℕ → Written → Written
    number : Numeral → Written
    text : List ℕ → ℕ → Written
    truth : Bool → ℕ → Written
    parentheses : ℕ → Written → Written
    length_of : ℕ → Written → Written
    label : TypeName → Named → Written
    arm : TypeName → Named → Written → Written
    items : TypeName → WrittenList → Written
    place : Named → WrittenSuffixes → Written

  -- operators, each with the operand behind it
  pub data Links : Type 0 where
    no_links : Links
    link : Operator → Written → Links → Links

  -- expressions in a row
  pub data WrittenList : Type 0 where
    no_items : WrittenList
    more_items : Written → WrittenList → WrittenList

  -- fields and subscripts in a row
  pub data WrittenSuffixes : Type 0 where
    no_suffixes : WrittenSuffixes
    field : Named → WrittenSuffixes → WrittenSuffixes
    subscript : Written → WrittenSuffixes → WrittenSuffixes

-- a variable, or a part of one
pub record WrittenPlace : Type 0 where
  pub name : Named
  pub suffixes : WrittenSuffixes

abbrev pub written_list : List Written → WrittenList
written_list [] = no_items
written_list (w ∷ ws) = more_items w (written_list ws)

abbrev pub truth_lexeme : Bool → Lexeme
truth_lexeme true = word (codes "TRUE")
truth_lexeme false = word (codes "FALSE")

-- The tokens, and the levels at each of them. What is opened is a level. The first operator of a chain and the first
-- suffix of a place open none; each further one does, up to the chain's end.
abbrev mutual
  pub spelling : Written → List Due
  -- conjunct {"OR" conjunct}, negated {"AND" negated}, term {("+" | "-" | "&") term}, factor {("*" | "DIV" | "MOD") factor}
  spelling (chain c w ls) = spelling w ++ spelling_links ls
  -- "NOT" negated
  spelling (negation at w) = open_level (due_at (word (codes "NOT")) at ∷ spelling w)
  -- sum ("=" | "<>" | "<" | "<=" | ">" | ">=") sum
  spelling (comparison a o b) = spelling a ++ due (lexeme_of o) ∷ spelling b
  -- sum "IS" name
  spelling (is_arm a n) = spelling a ++ due (word (codes "IS")) ∷ due_name n ∷ []
  -- "-" factor
  spelling (minus at w) = open_level (due_at (sign (codes "-")) at ∷ spelling w)
  spelling (number n) = due_number n ∷ []
  spelling (text content at) = due_text content at ∷ []
  spelling (truth b at) = due_at (truth_lexeme b) at ∷ []
  -- "(" expression ")"
  spelling (parentheses at w) = open_level (due_at (sign (codes "(")) at ∷ (spelling w ++ due (sign (codes ")")) ∷ []))
  -- "LENGTH" "(" expression ")"
  spelling (length_of at w) = open_level (due_at (word (codes "LENGTH")) at ∷ open_level (due (sign (codes "(")) ∷ (spelling w ++ due (sign (codes ")")) ∷ [])))
  -- name ["." name] "#" (name ["(" expression ")"] | list)
  spelling (label t n) = spelling_type_name t ++ due (sign (codes "#")) ∷ due_name n ∷ []
  spelling (arm t n w) = spelling_type_name t ++ due (sign (codes "#")) ∷ due_name n ∷ open_level (due (sign (codes "(")) ∷ (spelling w ++ due (sign (codes ")")) ∷ []))
  spelling (items t ws) = spelling_type_name t ++ due (sign (codes "#")) ∷ open_level (due (sign (codes "[")) ∷ (spelling_items ws ++ due (sign (codes "]")) ∷ []))
  spelling (place n ss) = due_name n ∷ spelling_suffixes ss

  pub spelling_links : Links → List Due
  spelling_links no_links = []
  spelling_links (link o w ls) = due (lexeme_of o) ∷ (spelling w ++ open_level (spelling_links ls))

  -- [expression {"," expression}]
  pub spelling_items : WrittenList → List Due
  spelling_items no_items = []
  spelling_items (more_items w ws) = spelling w ++ spelling_more_items ws

  pub spelling_more_items : WrittenList → List Due
  spelling_more_items no_items = []
  spelling_more_items (more_items w ws) = comma ∷ (spelling w ++ spelling_more_items ws)

  -- {"." name | "[" expression "]"}
  pub spelling_suffixes : WrittenSuffixes → List Due
  spelling_suffixes no_suffixes = []
  spelling_suffixes (field n ss) = due (sign (codes ".")) ∷ due_name n ∷ open_level (spelling_suffixes ss)
  spelling_suffixes (subscript w ss) =
      open_level (due (sign (codes "[")) ∷ (spelling w ++ due (sign (codes "]")) ∷ [])) ++ open_level (spelling_suffixes ss)

-- "(" expression ")"
abbrev pub spelling_argument : Written → List Due
spelling_argument w = open_level (due (sign (codes "(")) ∷ (spelling w ++ due (sign (codes ")")) ∷ []))

-- list = "[" [expression {"," expression}] "]"
abbrev pub spelling_list : List Written → List Due
spelling_list ws = open_level (due (sign (codes "[")) ∷ (spelling_items (written_list ws) ++ due (sign (codes "]")) ∷ []))

-- place = name {"." name | "[" expression "]"}
abbrev pub spelling_place : WrittenPlace → List Due
spelling_place p = due_name p.name ∷ spelling_suffixes p.suffixes

-- The productions, from the loosest to the tightest: what is of one of them is of those in front of it too.

abbrev pub expression : ℕ
expression = 0

abbrev pub conjunct : ℕ
conjunct = 1

abbrev pub negation_level : ℕ
negation_level = 2

abbrev pub relation : ℕ
relation = 3

abbrev pub sum : ℕ
sum = 4

abbrev pub term : ℕ
term = 5

abbrev pub factor : ℕ
factor = 6

abbrev pub primary : ℕ
primary = 7

abbrev pub production_of_chain : Chain → ℕ
production_of_chain of.Expression = expression
production_of_chain of.Conjunct = conjunct
production_of_chain of.Sum = sum
production_of_chain of.Term = term

-- the production of a chain's operands
abbrev pub operand_of : Chain → ℕ
operand_of of.Expression = conjunct
operand_of of.Conjunct = negation_level
operand_of of.Sum = term
operand_of of.Term = factor

abbrev pub production_of : Written → ℕ
production_of (chain c w ls) = production_of_chain c
production_of (negation at w) = negation_level
production_of (comparison a o b) = relation
production_of (is_arm a n) = relation
production_of (minus at w) = factor
production_of _ = primary

abbrev pub IsTypeName : TypeName → Type 0
IsTypeName t = IfWritten IsName t.«module» × IsName t.name

-- the operands of an expression are of the productions that they must be of, its names are names, and its numbers not
-- too great
abbrev mutual
  pub IsWritten : Written → Type 0
  IsWritten (chain c w no_links) = ⊥
  IsWritten (chain c w (link o v ls)) = (operand_of c ≤ production_of w) × IsWritten w × AreLinks c (link o v ls)
  IsWritten (negation at w) = (negation_level ≤ production_of w) × IsWritten w
  IsWritten (comparison a o b) =
      (sum ≤ production_of a) × IsWritten a × Compares o × (sum ≤ production_of b) × IsWritten b
  IsWritten (is_arm a n) = (sum ≤ production_of a) × IsWritten a × IsName n
  IsWritten (minus at w) = (factor ≤ production_of w) × IsWritten w
  IsWritten (number n) = IsNumeral n
  IsWritten (text content at) = IsText content
  IsWritten (truth b at) = Unit {0}
  IsWritten (parentheses at w) = IsWritten w
  IsWritten (length_of at w) = IsWritten w
  IsWritten (label t n) = IsTypeName t × IsName n
  IsWritten (arm t n w) = IsTypeName t × IsName n × IsWritten w
  IsWritten (items t ws) = IsTypeName t × AreWritten ws
  IsWritten (place n ss) = IsName n × AreSuffixes ss

  pub AreLinks : Chain → Links → Type 0
  AreLinks c no_links = Unit {0}
  AreLinks c (link o w ls) = Joins c o × (operand_of c ≤ production_of w) × IsWritten w × AreLinks c ls

  pub AreWritten : WrittenList → Type 0
  AreWritten no_items = Unit {0}
  AreWritten (more_items w ws) = IsWritten w × AreWritten ws

  pub AreSuffixes : WrittenSuffixes → Type 0
  AreSuffixes no_suffixes = Unit {0}
  AreSuffixes (field n ss) = IsName n × AreSuffixes ss
  AreSuffixes (subscript w ss) = IsWritten w × AreSuffixes ss

abbrev pub IsPlace : WrittenPlace → Type 0
IsPlace p = IsName p.name × AreSuffixes p.suffixes
