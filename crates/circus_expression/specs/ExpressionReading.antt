-- The productions of expressions and places, as they read.
use Rattle.std.specs.Prelude.{ℕ, Bool, true, false, ◌||◌, List, [], Option, Some, None, unwrap_or, codes, if◌then◌else◌}
use Rattle.std.proofs.Common.{zero, suc}
use Rattle.circus_syntax.specs.declared.named.Named.{Named}
use Rattle.circus_syntax.specs.declared.named.TypeName.{TypeName}
use Rattle.circus_syntax.specs.declared.stopping.StopCause.TheVariants.{Unexpected, TooDeep}
use Rattle.circus_syntax.specs.Placed.{Placed, word, sign, is_lexeme, is_number, is_text}
use Rattle.circus_syntax.specs.Reader.{Reader, token, stop_reading, nothing, both, map_read, choose_by, either, optional}
use Rattle.circus_syntax.specs.Reading as reading
use Rattle.circus_syntax.specs.Reading.{expect_token, fixed_at, name, quoted_text, filled_name, behind, comma_list, type_name}
use Rattle.circus_expression.specs.declared.operator.Operator.{Operator}
use Rattle.circus_expression.specs.declared.operator.Operator.TheVariants as op
use Rattle.circus_expression.specs.declared.operator.Chain.{Chain}
use Rattle.circus_expression.specs.declared.operator.Chain.TheVariants as of
use Rattle.circus_expression.specs.declared.starts.PrimaryStart.{PrimaryStart}
use Rattle.circus_expression.specs.declared.starts.PrimaryStart.TheVariants as begins
use Rattle.circus_expression.specs.Operators.{operators, comparisons, operator_in, is_operator}
use Rattle.circus_expression.specs.Written.{Written, Links, WrittenSuffixes, WrittenPlace, written_list, chain, negation, comparison, is_arm, minus, number, text, truth, parentheses, length_of, label, arm, items, place, no_links, link, no_suffixes, field, subscript}

-- what fills in for an expression
abbrev pub filler : ℕ → Written
filler at = place (filled_name at) no_suffixes

-- one of these operators, the first of which fills in
abbrev pub operator_of : List Operator → Operator → Reader → Operator × Reader
operator_of os default = token (is_operator os) (λ t. unwrap_or (operator_in os t) default) (λ at. default)

abbrev pub first_operator : Chain → Operator
first_operator of.Expression = op.Or
first_operator of.Conjunct = op.And
first_operator of.Sum = op.Plus
first_operator of.Term = op.Times

unfoldable pub joint : Chain → Reader → Operator × Reader
joint c = operator_of (operators c) (first_operator c)

abbrev pub joins : Chain → Placed → Bool
joins c = is_operator (operators c)

-- What opens levels, each from the token on that opens it. How far they read is said below.
pub record Openers : Type 0 where
  pub negation : Reader → Written × Reader
  pub minus : Reader → Written × Reader
  pub parentheses : Reader → Written × Reader
  pub length : Reader → Written × Reader
  pub argument : Reader → Written × Reader
  pub subscript : Reader → Written × Reader
  pub list : Reader → List Written × Reader
  pub links : Chain → Reader → Links × Reader
  pub suffixes : Reader → WrittenSuffixes × Reader

-- p where the test is passed, else the token is missing
abbrev pub expect_where : {A : Type 0} → (Placed → Bool) → (ℕ → A) → (Reader → A × Reader) → Reader → A × Reader
expect_where test default p = either test p (stop_reading Unexpected default)

-- Places.

abbrev pub is_dot : Placed → Bool
is_dot = is_lexeme (sign (codes "."))

abbrev pub is_bracket : Placed → Bool
is_bracket = is_lexeme (sign (codes "["))

abbrev pub is_parenthesis : Placed → Bool
is_parenthesis = is_lexeme (sign (codes "("))

abbrev pub is_hash : Placed → Bool
is_hash = is_lexeme (sign (codes "#"))

abbrev pub is_suffix : Placed → Bool
is_suffix t = is_dot t || is_bracket t

-- the suffixes that follow another one
abbrev pub further_suffixes : Openers → Reader → WrittenSuffixes × Reader
further_suffixes o = either is_suffix o.suffixes (nothing no_suffixes)

-- a suffix and those that follow it
abbrev pub suffixes_with : Openers → Reader → WrittenSuffixes × Reader
suffixes_with o =
    either is_bracket (map_read (λ x. subscript x.0 x.1) (both o.subscript (further_suffixes o)))
    (map_read (λ x. field x.0 x.1) (both (behind (sign (codes ".")) name) (further_suffixes o)))

abbrev pub any_suffixes : Openers → Reader → WrittenSuffixes × Reader
any_suffixes o = either is_suffix (suffixes_with o) (nothing no_suffixes)

abbrev pub place_with : Openers → Reader → WrittenPlace × Reader
place_with o = map_read (λ x. record { name = x.0; suffixes = x.1 }) (both name (any_suffixes o))

-- Primaries.

-- what stands behind the hash of a type's name
pub data Built : Type 0 where
  labelled : Named → Option Written → Built
  listing : List Written → Built

abbrev pub built_with : Openers → Reader → Built × Reader
built_with o =
    behind (sign (codes "#"))
    (either is_bracket (map_read listing o.list) (map_read (λ x. labelled x.0 x.1) (both name (optional is_parenthesis o.argument))))

-- what stands behind a name: what is built of the type that it names, by itself or with a second name, or suffixes
pub data Behind : Type 0 where
  builds : Option Named → Built → Behind
  goes_on : WrittenSuffixes → Behind

abbrev pub construction : TypeName → Built → Written
construction t (labelled k None) = label t k
construction t (labelled k (Some w)) = arm t k w
construction t (listing ws) = items t (written_list ws)

abbrev pub name_with_tail : Named → Behind → Written
name_with_tail n (builds m b) = construction (type_name n m) b
name_with_tail n (goes_on ss) = place n ss

-- behind a dot and a name
pub data Second : Type 0 where
  built_of_both : Built → Second
  follows : WrittenSuffixes → Second

abbrev pub second : Named → Second → Behind
second n (built_of_both b) = builds (Some n) b
second n (follows ss) = goes_on (field n ss)

abbrev pub second_with : Openers → Reader → Behind × Reader
second_with o =
    map_read (λ x. second x.0 x.1)
    (both (behind (sign (codes ".")) name) (either is_hash (map_read built_of_both (built_with o)) (map_read follows (further_suffixes o))))

-- which of its ways goes on behind a name
pub data Following : Type 0 where
  by_hash : Following
  by_dot : Following
  by_neither : Following

abbrev pub following_of : Option Placed → Following
following_of None = by_neither
following_of (Some t) = if is_hash t then by_hash else (if is_dot t then by_dot else by_neither)

abbrev pub behind_name : Openers → Following → Reader → Behind × Reader
behind_name o by_hash = map_read (builds None) (built_with o)
behind_name o by_dot = second_with o
behind_name o by_neither = map_read goes_on (any_suffixes o)

abbrev pub named_with : Openers → Reader → Written × Reader
named_with o = map_read (λ x. name_with_tail x.0 x.1) (both name (choose_by following_of (behind_name o)))

-- what a primary begins with
abbrev pub primary_start : Option Placed → PrimaryStart
primary_start None = begins.Name
primary_start (Some t) =
    if is_number t then begins.Number
    else (if is_text t then begins.Text
    else (if is_lexeme (word (codes "TRUE")) t then begins.True
    else (if is_lexeme (word (codes "FALSE")) t then begins.False
    else (if is_parenthesis t then begins.Parenthesis
    else (if is_lexeme (word (codes "LENGTH")) t then begins.Length
    else begins.Name)))))

unfoldable pub start_of_primary : Option Placed → PrimaryStart
start_of_primary = primary_start

abbrev pub primary_by : Openers → PrimaryStart → Reader → Written × Reader
primary_by o begins.Number = map_read number reading.number
primary_by o begins.Text = map_read (λ x. text x.0 x.1) quoted_text
primary_by o begins.True = map_read (truth true) (fixed_at (word (codes "TRUE")))
primary_by o begins.False = map_read (truth false) (fixed_at (word (codes "FALSE")))
primary_by o begins.Parenthesis = o.parentheses
primary_by o begins.Length = o.length
primary_by o begins.Name = named_with o

abbrev pub primary_with : Openers → Reader → Written × Reader
primary_with o = choose_by start_of_primary (primary_by o)

-- The productions above.

abbrev pub is_minus : Placed → Bool
is_minus = is_lexeme (sign (codes "-"))

abbrev pub factor_with : Openers → Reader → Written × Reader
factor_with o = either is_minus o.minus (primary_with o)

-- an operator, its operand, and those that follow it
abbrev pub links_with : Chain → (Reader → Written × Reader) → Openers → Reader → Links × Reader
links_with c operand o =
    map_read (λ x. link x.0 x.1.0 x.1.1) (both (joint c) (both operand (either (joins c) (o.links c) (nothing no_links))))

abbrev pub chain_of : Chain → Written → Links → Written
chain_of c w no_links = w
chain_of c w (link o v ls) = chain c w (link o v ls)

abbrev pub chain_with : Chain → (Reader → Written × Reader) → Openers → Reader → Written × Reader
chain_with c operand o =
    map_read (λ x. chain_of c x.0 x.1) (both operand (either (joins c) (links_with c operand o) (nothing no_links)))

abbrev pub sum_with : Openers → Reader → Written × Reader
sum_with o = chain_with of.Sum (chain_with of.Term (factor_with o) o) o

-- what stands behind the first sum of a relation
pub data Related : Type 0 where
  alone : Related
  compared : Operator → Written → Related
  arm_named : Named → Related

abbrev pub with_relation : Written → Related → Written
with_relation w alone = w
with_relation w (compared o v) = comparison w o v
with_relation w (arm_named n) = is_arm w n

pub data Relating : Type 0 where
  comparing : Relating
  naming : Relating
  ending : Relating

abbrev pub relating_of : Option Placed → Relating
relating_of None = ending
relating_of (Some t) =
    if is_lexeme (word (codes "IS")) t then naming else (if is_operator comparisons t then comparing else ending)

unfoldable pub compares : Reader → Operator × Reader
compares = operator_of comparisons op.Equal

abbrev pub related_by : Openers → Relating → Reader → Related × Reader
related_by o comparing = map_read (λ x. compared x.0 x.1) (both compares (sum_with o))
related_by o naming = map_read arm_named (behind (word (codes "IS")) name)
related_by o ending = nothing alone

abbrev pub relation_with : Openers → Reader → Written × Reader
relation_with o = map_read (λ x. with_relation x.0 x.1) (both (sum_with o) (choose_by relating_of (related_by o)))

abbrev pub is_not : Placed → Bool
is_not = is_lexeme (word (codes "NOT"))

abbrev pub negated_with : Openers → Reader → Written × Reader
negated_with o = either is_not o.negation (relation_with o)

-- the operands of a chain
abbrev pub operand_with : Openers → Chain → Reader → Written × Reader
operand_with o of.Expression = chain_with of.Conjunct (negated_with o) o
operand_with o of.Conjunct = negated_with o
operand_with o of.Sum = chain_with of.Term (factor_with o) o
operand_with o of.Term = factor_with o

abbrev pub expression_with : Openers → Reader → Written × Reader
expression_with o = chain_with of.Expression (operand_with o of.Expression) o

-- expression, and expressions with commas between them, in brackets
abbrev pub in_parentheses : {A : Type 0} → (Reader → A × Reader) → Reader → A × Reader
in_parentheses p = map_read (λ x. x.1.0) (both (expect_token (sign (codes "("))) (both p (expect_token (sign (codes ")")))))

abbrev pub in_brackets : {A : Type 0} → (Reader → A × Reader) → Reader → A × Reader
in_brackets p = map_read (λ x. x.1.0) (both (expect_token (sign (codes "["))) (both p (expect_token (sign (codes "]")))))

abbrev pub items_with : Openers → Reader → List Written × Reader
items_with o = either (is_lexeme (sign (codes "]"))) (nothing []) (comma_list (expression_with o))

-- what opens a level where what stands in it may open these
abbrev pub openers_within : Openers → Openers
openers_within o = record {
  negation = map_read (λ x. negation x.0 x.1) (both (fixed_at (word (codes "NOT"))) (negated_with o));
  minus = map_read (λ x. minus x.0 x.1) (both (fixed_at (sign (codes "-"))) (factor_with o));
  parentheses =
      map_read (λ x. parentheses x.0 x.1.0) (both (fixed_at (sign (codes "("))) (both (expression_with o) (expect_token (sign (codes ")")))));
  length = map_read (λ x. length_of x.0 x.1) (both (fixed_at (word (codes "LENGTH"))) (expect_where is_parenthesis filler o.argument));
  argument = in_parentheses (expression_with o);
  subscript = in_brackets (expression_with o);
  list = in_brackets (items_with o);
  links = λ c. links_with c (operand_with o c) o;
  suffixes = suffixes_with o;
}

abbrev pub no_further : Chain → Reader → Links × Reader
no_further c = stop_reading TooDeep (λ at. link (first_operator c) (filler at) no_links)

-- where no level is left
abbrev pub none_left : Openers
none_left = record {
  negation = stop_reading TooDeep filler;
  minus = stop_reading TooDeep filler;
  parentheses = stop_reading TooDeep filler;
  length = stop_reading TooDeep filler;
  argument = stop_reading TooDeep filler;
  subscript = stop_reading TooDeep filler;
  list = stop_reading TooDeep (λ at. []);
  links = no_further;
  suffixes = stop_reading TooDeep (λ at. field (filled_name at) no_suffixes);
}

-- what may be opened where so many levels are left
unfoldable pub openers : ℕ → Openers
openers zero = none_left
openers (suc levels) = openers_within (openers levels)

-- The productions where so many levels are left.

unfoldable pub read_chain : ℕ → Chain → Reader → Written × Reader
read_chain levels c = chain_with c (operand_with (openers levels) c) (openers levels)

unfoldable pub operand : ℕ → Chain → Reader → Written × Reader
operand levels c = operand_with (openers levels) c

unfoldable pub links : ℕ → Chain → Reader → Links × Reader
links levels c = links_with c (operand_with (openers levels) c) (openers levels)

-- the operators behind another one
unfoldable pub further_links : ℕ → Chain → Reader → Links × Reader
further_links levels = (openers levels).links

unfoldable pub minus_operand : ℕ → Reader → Written × Reader
minus_operand levels = negated_with (openers levels)

unfoldable pub relation : ℕ → Reader → Written × Reader
relation levels = relation_with (openers levels)

-- what stands behind the first sum of a relation
unfoldable pub related_within : ℕ → Reader → Related × Reader
related_within levels = choose_by relating_of (related_by (openers levels))

unfoldable pub factor : ℕ → Reader → Written × Reader
factor levels = factor_with (openers levels)

unfoldable pub primary : ℕ → Reader → Written × Reader
primary levels = primary_with (openers levels)

unfoldable pub named_primary : ℕ → Reader → Written × Reader
named_primary levels = named_with (openers levels)

unfoldable pub length_primary : ℕ → Reader → Written × Reader
length_primary levels = (openers levels).length

-- what stands in the parentheses behind LENGTH
unfoldable pub required_argument : ℕ → Reader → Written × Reader
required_argument levels = expect_where is_parenthesis filler (openers levels).argument

-- what stands behind a name and a dot
unfoldable pub tail_behind_dot : ℕ → Reader → Behind × Reader
tail_behind_dot levels = second_with (openers levels)

unfoldable pub argument : ℕ → Reader → Written × Reader
argument levels = (openers levels).argument

unfoldable pub read_subscript : ℕ → Reader → Written × Reader
read_subscript levels = (openers levels).subscript

unfoldable pub list : ℕ → Reader → List Written × Reader
list levels = (openers levels).list

-- what stands in brackets with commas between
unfoldable pub items_within : ℕ → Reader → List Written × Reader
items_within levels = items_with (openers levels)

unfoldable pub suffixes : ℕ → Reader → WrittenSuffixes × Reader
suffixes levels = suffixes_with (openers levels)

unfoldable pub any : ℕ → Reader → WrittenSuffixes × Reader
any levels = any_suffixes (openers levels)

unfoldable pub further : ℕ → Reader → WrittenSuffixes × Reader
further levels = further_suffixes (openers levels)

unfoldable pub built_behind : ℕ → Reader → Built × Reader
built_behind levels = built_with (openers levels)

unfoldable pub read_place : ℕ → Reader → WrittenPlace × Reader
read_place levels = place_with (openers levels)
