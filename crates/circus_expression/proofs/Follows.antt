-- Operators, and what may follow an expression of each production.
use Rattle.std.proofs.Common.{◌≡◌, ℕ, suc, ◌<◌, ◌≤◌, Bool, true, false, List, [], ◌∷◌, ◌++◌, refl, ◌∙◌, ap, arith}
use Rattle.std.specs.Prelude.{Option, Some, None, codes, if◌then◌else◌, is_some, unwrap_or}
use Rattle.circus_text.specs.Token.{Lexeme}
use Rattle.circus_syntax.specs.Placed.{Placed, first, word, sign, is_lexeme, Due, due, AreDue}
use Rattle.circus_syntax.specs.Reader.{passes}
use Rattle.circus_syntax.specs.Spelling.{IsEach}
use Rattle.circus_syntax.proofs.Sound.{sound_token}
use Rattle.circus_syntax.proofs.Complete.{Any, complete_token}
use Rattle.circus_syntax.proofs.Tokens.{lexeme_is, is_comma, shrinks_token}
use Rattle.circus_syntax.proofs.Repeats.{Shrinks}
use Rattle.circus_syntax.proofs.Lawful.{Lawful, lawful_token}
use Rattle.circus_expression.specs.declared.operator.Operator.{Operator}
use Rattle.circus_expression.specs.declared.operator.Operator.TheVariants as op
use Rattle.circus_expression.specs.declared.operator.Chain.{Chain}
use Rattle.circus_expression.specs.declared.operator.Chain.TheVariants as of
use Rattle.circus_expression.specs.Operators.{lexeme_of, operators, comparisons, operator_in, is_operator, Joins, Compares}
use Rattle.circus_expression.specs.Written.{production_of_chain}
use Rattle.circus_expression.specs.ExpressionReading.{operator_of, first_operator, joint, joins, compares, is_dot, is_bracket, is_parenthesis, is_hash, is_suffix}

-- the token of a lexeme that stands here
abbrev pub at : Lexeme → ℕ → Placed
at l s = record { kind = l.kind; bytes = l.bytes; start = s }

-- a token that is this lexeme
pub along : {X : Type 0} (f : Placed → X) (l : Lexeme) (t : Placed) → is_lexeme l t ≡ true → f t ≡ f (at l t.start)
along f l t hit = let (kind, bytes) = lexeme_is l t hit in λ i. f (record { kind = kind i; bytes = bytes i; start = t.start })

-- which operator is read is one of these, and the token is its lexeme
one_of : (os : List Operator) (default : Operator) (P : Operator → Type 0) (t : Placed) → IsEach P os → is_operator os t ≡ true
    → P (unwrap_or (operator_in os t) default) × (is_lexeme (lexeme_of (unwrap_or (operator_in os t) default)) t ≡ true)
one_of [] default P t each hit = absurd cc
one_of (o ∷ os) default P t each hit = by_test (is_lexeme (lexeme_of o) t) refl hit (one_of os default P t each.1)
  where
    by_test : (b : Bool) → is_lexeme (lexeme_of o) t ≡ b → is_some (if b then Some o else operator_in os t) ≡ true
        → (is_operator os t ≡ true → P (unwrap_or (operator_in os t) default) × (is_lexeme (lexeme_of (unwrap_or (operator_in os t) default)) t ≡ true))
        → let p : Option Operator = if b then Some o else operator_in os t in P (unwrap_or p default) × (is_lexeme (lexeme_of (unwrap_or p default)) t ≡ true)
    by_test true is some later = (each.0, is)
    by_test false is some later = later some

each_joins : (c : Chain) → IsEach (Joins c) (operators c)
each_joins of.Expression = (tt, tt)
each_joins of.Conjunct = (tt, tt)
each_joins of.Sum = (tt, (tt, (tt, tt)))
each_joins of.Term = (tt, (tt, (tt, tt)))

each_compares : IsEach Compares comparisons
each_compares = (tt, (tt, (tt, (tt, (tt, (tt, tt))))))

reads_joint : (c : Chain) (o : Operator) → Joins c o → (s : ℕ) → operator_in (operators c) (at (lexeme_of o) s) ≡ Some o
reads_joint of.Expression op.Or j s = refl
reads_joint of.Conjunct op.And j s = refl
reads_joint of.Sum op.Plus j s = refl
reads_joint of.Sum op.Minus j s = refl
reads_joint of.Sum op.Join j s = refl
reads_joint of.Term op.Times j s = refl
reads_joint of.Term op.Div j s = refl
reads_joint of.Term op.Mod j s = refl
reads_joint _ _ j s = absurd j

reads_comparison : (o : Operator) → Compares o → (s : ℕ) → operator_in comparisons (at (lexeme_of o) s) ≡ Some o
reads_comparison op.Equal j s = refl
reads_comparison op.Unequal j s = refl
reads_comparison op.Less j s = refl
reads_comparison op.AtMost j s = refl
reads_comparison op.Greater j s = refl
reads_comparison op.AtLeast j s = refl
reads_comparison _ j s = absurd j

abbrev pub spelling_operator : Operator → List Due
spelling_operator o = due (lexeme_of o) ∷ []

lawful_operator : (n : ℕ) (os : List Operator) (default : Operator) (Is : Operator → Type 0) → IsEach Is os → Is default → ((o : Operator) → Is o → (s : ℕ) → operator_in os (at (lexeme_of o) s) ≡ Some o)
    → Lawful n (operator_of os default) (operator_of os default) spelling_operator Is Any
lawful_operator n os default Is each is_default reads =
    lawful_token n (is_operator os) (λ t. unwrap_or (operator_in os t) default) (λ s. default) (λ o. (_, refl, refl))
    (sound_token (is_operator os) (λ t. unwrap_or (operator_in os t) default) (λ s. default) spelling_operator Is
    (λ t hit fine. let (is, lexeme) = one_of os default Is t each hit in (is, (lexeme_is (lexeme_of (unwrap_or (operator_in os t) default)) t lexeme, tt)))
    (λ s. (is_default, at (lexeme_of default) s, refl, ((refl, refl), tt))))
    (complete_token (is_operator os) (λ t. unwrap_or (operator_in os t) default) (λ s. default) spelling_operator Is back)
  where
    back : (o : Operator) (ts : List Placed) → Is o → AreDue (due (lexeme_of o) ∷ []) ts
        → (t : Placed) × (ts ≡ t ∷ []) × (is_operator os t ≡ true) × (unwrap_or (operator_in os t) default ≡ o)
    back o [] is d = absurd d
    back o (t ∷ []) is d =
        let found : operator_in os t ≡ Some o = (λ i. operator_in os (record { kind = d.0.0 i; bytes = d.0.1 i; start = t.start })) ∙ reads o is t.start in
        (t, refl, ap is_some found, ap (λ p. unwrap_or p default) found)
    back o (t ∷ u ∷ ts) is d = absurd d.1

pub first_joins : (c : Chain) → Joins c (first_operator c)
first_joins of.Expression = tt
first_joins of.Conjunct = tt
first_joins of.Sum = tt
first_joins of.Term = tt

pub lawful_joint : (n : ℕ) (c : Chain) → Lawful n (joint c) (joint c) spelling_operator (Joins c) Any
unfolding joint
lawful_joint n c = lawful_operator n (operators c) (first_operator c) (Joins c) (each_joins c) (first_joins c) (reads_joint c)

pub lawful_compares : (n : ℕ) → Lawful n compares compares spelling_operator Compares Any
unfolding compares
lawful_compares n = lawful_operator n comparisons op.Equal Compares each_compares tt reads_comparison

pub shrinks_joint : (c : Chain) → Shrinks (joins c) (joint c)
unfolding joint
shrinks_joint c = shrinks_token (is_operator (operators c)) (λ t. unwrap_or (operator_in (operators c) t) (first_operator c)) (λ s. first_operator c)

-- the due operator passes
pub opens_joint : (c : Chain) (o : Operator) (ds : List Due) (ts rest : List Placed) → Joins c o → AreDue (due (lexeme_of o) ∷ ds) ts → passes (joins c) (first (ts ++ rest)) ≡ true
opens_joint c o ds [] rest j d = absurd d
opens_joint c o ds (t ∷ ts) rest j d =
    ap is_some ((λ i. operator_in (operators c) (record { kind = d.0.0 i; bytes = d.0.1 i; start = t.start })) ∙ reads_joint c o j t.start)

-- How tightly a token binds to what stands in front of it, and 0 where it doesn't go on it.

abbrev pub grip_of : Placed → ℕ
grip_of t =
    if is_lexeme (word (codes "OR")) t then 1
    else (if is_lexeme (word (codes "AND")) t then 2
    else (if is_operator comparisons t then 4
    else (if is_lexeme (word (codes "IS")) t then 4
    else (if is_operator (operators of.Sum) t then 5
    else (if is_operator (operators of.Term) t then 6
    else (if is_dot t then 8
    else (if is_bracket t then 8
    else (if is_parenthesis t then 8
    else (if is_hash t then 8
    else 0)))))))))

abbrev pub grip : Option Placed → ℕ
grip None = 0
grip (Some t) = grip_of t

-- what binds no more tightly
abbrev pub Stays : ℕ → Option Placed → Type 0
Stays k o = grip o ≤ k

pub grip_joint : (c : Chain) (o : Operator) → Joins c o → (s : ℕ) → grip_of (at (lexeme_of o) s) ≡ suc (production_of_chain c)
grip_joint of.Expression op.Or j s = refl
grip_joint of.Conjunct op.And j s = refl
grip_joint of.Sum op.Plus j s = refl
grip_joint of.Sum op.Minus j s = refl
grip_joint of.Sum op.Join j s = refl
grip_joint of.Term op.Times j s = refl
grip_joint of.Term op.Div j s = refl
grip_joint of.Term op.Mod j s = refl
grip_joint _ _ j s = absurd j

pub grip_comparison : (o : Operator) → Compares o → (s : ℕ) → grip_of (at (lexeme_of o) s) ≡ 4
grip_comparison op.Equal j s = refl
grip_comparison op.Unequal j s = refl
grip_comparison op.Less j s = refl
grip_comparison op.AtMost j s = refl
grip_comparison op.Greater j s = refl
grip_comparison op.AtLeast j s = refl
grip_comparison _ j s = absurd j

-- the due token binds as its lexeme does
pub grip_due : (l : Lexeme) (g : ℕ) (ds : List Due) (ts rest : List Placed) → ((s : ℕ) → grip_of (at l s) ≡ g) → AreDue (due l ∷ ds) ts → grip (first (ts ++ rest)) ≡ g
grip_due l g ds [] rest is d = absurd d
grip_due l g ds (t ∷ ts) rest is d = (λ i. grip_of (record { kind = d.0.0 i; bytes = d.0.1 i; start = t.start })) ∙ is t.start

-- the token goes on the chain, so it binds as its operators do
pub joins_grip : (c : Chain) (o : Option Placed) → passes (joins c) o ≡ true → grip o ≡ suc (production_of_chain c)
joins_grip c None hit = absurd cc
joins_grip c (Some t) hit =
    let (j, lexeme) = one_of (operators c) (first_operator c) (Joins c) t (each_joins c) hit in
    along grip_of (lexeme_of (unwrap_or (operator_in (operators c) t) (first_operator c))) t lexeme
    ∙ grip_joint c (unwrap_or (operator_in (operators c) t) (first_operator c)) j t.start

compares_grip : (o : Option Placed) → passes (is_operator comparisons) o ≡ true → grip o ≡ 4
compares_grip None hit = absurd cc
compares_grip (Some t) hit =
    let (j, lexeme) = one_of comparisons op.Equal Compares t each_compares hit in
    along grip_of (lexeme_of (unwrap_or (operator_in comparisons t) op.Equal)) t lexeme ∙ grip_comparison (unwrap_or (operator_in comparisons t) op.Equal) j t.start

lexeme_grip : (l : Lexeme) (g : ℕ) → ((s : ℕ) → grip_of (at l s) ≡ g) → (o : Option Placed) → passes (is_lexeme l) o ≡ true → grip o ≡ g
lexeme_grip l g is None hit = absurd cc
lexeme_grip l g is (Some t) hit = along grip_of l t hit ∙ is t.start

-- a test that only tokens with another grip pass fails
missed : (test : Placed → Bool) (g k : ℕ) (o : Option Placed) → k < g → (passes test o ≡ true → grip o ≡ g) → Stays k o → passes test o ≡ false
missed test g k o above passing stays = by_test (passes test o) refl
  where
    by_test : (b : Bool) → passes test o ≡ b → b ≡ false
    by_test false is = refl
    by_test true is = absurd (let same = passing is in omega arith)

pub joins_missed : (c : Chain) (o : Option Placed) → Stays (production_of_chain c) o → passes (joins c) o ≡ false
joins_missed c o stays = missed (joins c) (suc (production_of_chain c)) (production_of_chain c) o (omega arith) (joins_grip c o) stays

pub compares_missed : (k : ℕ) (o : Option Placed) → k < 4 → Stays k o → passes (is_operator comparisons) o ≡ false
compares_missed k o above stays = missed (is_operator comparisons) 4 k o above (compares_grip o) stays

pub is_missed : (k : ℕ) (o : Option Placed) → k < 4 → Stays k o → passes (is_lexeme (word (codes "IS"))) o ≡ false
is_missed k o above stays = missed (is_lexeme (word (codes "IS"))) 4 k o above (lexeme_grip (word (codes "IS")) 4 (λ s. refl) o) stays

pub dot_missed : (k : ℕ) (o : Option Placed) → k < 8 → Stays k o → passes is_dot o ≡ false
dot_missed k o above stays = missed is_dot 8 k o above (lexeme_grip (sign (codes ".")) 8 (λ s. refl) o) stays

pub bracket_missed : (k : ℕ) (o : Option Placed) → k < 8 → Stays k o → passes is_bracket o ≡ false
bracket_missed k o above stays = missed is_bracket 8 k o above (lexeme_grip (sign (codes "[")) 8 (λ s. refl) o) stays

pub parenthesis_missed : (k : ℕ) (o : Option Placed) → k < 8 → Stays k o → passes is_parenthesis o ≡ false
parenthesis_missed k o above stays = missed is_parenthesis 8 k o above (lexeme_grip (sign (codes "(")) 8 (λ s. refl) o) stays

pub hash_missed : (k : ℕ) (o : Option Placed) → k < 8 → Stays k o → passes is_hash o ≡ false
hash_missed k o above stays = missed is_hash 8 k o above (lexeme_grip (sign (codes "#")) 8 (λ s. refl) o) stays

pub suffix_missed : (k : ℕ) (o : Option Placed) → k < 8 → Stays k o → passes is_suffix o ≡ false
suffix_missed k None above stays = refl
suffix_missed k (Some t) above stays = rw (dot_missed k (Some t) above stays, bracket_missed k (Some t) above stays) refl

-- a comma binds to nothing
pub comma_stays : (k : ℕ) (o : Option Placed) → passes is_comma o ≡ true → Stays k o
comma_stays k o hit = let none = lexeme_grip (sign (codes ",")) 0 (λ s. refl) o hit in omega arith
