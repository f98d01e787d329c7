-- What tokens are by a grammar, and where reading them stops: each by the spelling of its trees and by which trees are good.
use Rattle.std.specs.Prelude.{◌≡◌, ℕ, false, List, [], ◌∷◌, ◌++◌, Option, codes}
use Rattle.circus_syntax.specs.Placed.{Placed, word, is_lexeme, Due, AreDue, StandWithin}
use Rattle.circus_syntax.specs.Reader.{passes}
use Rattle.circus_syntax.specs.Stopping.{StandAt}
use Rattle.circus_expression.specs.declared.operator.Chain.{Chain}
use Rattle.circus_expression.specs.Operators.{is_operator, operators, comparisons}
use Rattle.circus_expression.specs.ExpressionReading.{is_dot, is_bracket, is_parenthesis, is_hash}

-- the tokens are this tree
pub record Are {A : Type 0} (spell : A → List Due) (Good : A → Type 0) (ts : List Placed) (a : A) : Type 0 where
  pub good : Good a
  pub spelled : AreDue (spell a) ts

-- the tokens can go on to a tree
abbrev pub Begin : {A : Type 0} → (A → List Due) → (A → Type 0) → List Placed → Type 0
Begin {A} spell Good ts = (a : A) × (more : List Placed) × Are spell Good (ts ++ more) a

-- the tokens in front of what is left begin a tree, and none goes on with the next one; at the end they aren't one
pub record IsUnexpected {A : Type 0} (spell : A → List Due) (Good : A → Type 0) (ts left : List Placed) : Type 0 where
  pub read : List Placed
  pub whole : ts ≡ read ++ left
  pub begun : Begin spell Good read
  pub none_on : (t : Placed) (rest : List Placed) → left ≡ t ∷ rest → Begin spell Good (read ++ t ∷ []) → ⊥
  pub none_ends : left ≡ [] → (a : A) → Are spell Good read a → ⊥

-- the tokens in front of what is left begin a tree with the next one too, and in each such tree that one stands too deep
pub record IsTooDeep {A : Type 0} (spell : A → List Due) (Good : A → Type 0) (levels : ℕ) (ts left : List Placed) : Type 0 where
  pub read : List Placed
  pub next : Placed
  pub rest : List Placed
  pub whole : ts ≡ read ++ left
  pub next_is : left ≡ next ∷ rest
  pub goes_on : Begin spell Good (read ++ next ∷ [])
  pub deeper : (a : A) (more : List Placed) → Are spell Good (read ++ next ∷ more) a → StandWithin levels (spell a) (read ++ next ∷ []) → ⊥

-- the tree is one that the tokens in front of what is left begin; they stand within the levels, and what the tree has
-- besides them stands at this place
pub record IsFilledIn {A : Type 0} (spell : A → List Due) (Good : A → Type 0) (levels : ℕ) (ts left : List Placed) (at : ℕ) (a : A) : Type 0 where
  pub read : List Placed
  pub more : List Placed
  pub whole : ts ≡ read ++ left
  pub are : Are spell Good (read ++ more) a
  pub within : StandWithin levels (spell a) read
  pub there : StandAt at more

-- no expression goes on with this token
abbrev pub Ends : Option Placed → Type 0
Ends o =
    ((c : Chain) → passes (is_operator (operators c)) o ≡ false) × (passes (is_operator comparisons) o ≡ false)
    × (passes (is_lexeme (word (codes "IS"))) o ≡ false) × (passes is_dot o ≡ false) × (passes is_bracket o ≡ false)
    × (passes is_parenthesis o ≡ false) × (passes is_hash o ≡ false)
