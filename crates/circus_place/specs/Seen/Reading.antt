-- The productions of the grammar, as they read.
use Rattle.std.specs.Prelude.{ℕ, Bool, true, false, ◌&&◌, not, if◌then◌else◌, List, [], ◌∷◌, Option, Some, None, codes}
use Rattle.std.proofs.Common.{zero, suc}
use Rattle.circus_text.specs.declared.token.TokenKind.TheVariants.{Word}
use Rattle.circus_text.specs.Token.{Lexeme}
use Rattle.circus_syntax.specs.declared.named.Named.{Named}
use Rattle.circus_syntax.specs.declared.named.Numeral.{Numeral}
use Rattle.circus_syntax.specs.declared.stopping.Stop.{Stop}
use Rattle.circus_syntax.specs.declared.stopping.StopCause.TheVariants.{Unexpected, TooDeep}
use Rattle.circus_syntax.specs.Placed.{Placed, word, sign, digits, same_kind, is_lexeme, is_text}
use Rattle.circus_syntax.specs.Reader.{Reader, open_at, token, nothing, both, map_read, choose_by, either, optional, repeat_while, stop_reading, stopped_by}
use Rattle.circus_syntax.specs.Reading.{expect_token, number, quoted_text, behind, comma_list, named_of, filled_name}
use Rattle.circus_place.specs.declared.condition.Comparison.{Comparison}
use Rattle.circus_place.specs.declared.condition.Comparison.TheVariants as by
use Rattle.circus_place.specs.declared.text.ConstantText.{ConstantText}
use Rattle.circus_place.specs.declared.text.ConstantText.TheVariants as constant
use Rattle.circus_place.specs.declared.text.AttributeText.{AttributeText}
use Rattle.circus_place.specs.declared.text.MachineText.{MachineText}
use Rattle.circus_place.specs.declared.text.OperandText.{OperandText}
use Rattle.circus_place.specs.declared.text.OperandText.TheVariants as operand
use Rattle.circus_place.specs.declared.start.ValueStart.{ValueStart}
use Rattle.circus_place.specs.declared.start.ValueStart.TheVariants as value
use Rattle.circus_place.specs.declared.start.AloneStart.{AloneStart}
use Rattle.circus_place.specs.declared.start.AloneStart.TheVariants as begins
use Rattle.circus_place.specs.Words.{is_placing_word}
use Rattle.circus_place.specs.Written.{Written, PlacingTree}
use Rattle.circus_place.specs.Written as written
use Rattle.circus_place.specs.Grammar.{truth_word, sign_of, or_word, and_word}

abbrev pub is_own_name : Placed → Bool
is_own_name t = same_kind t.kind Word && not (is_placing_word t.bytes)

unfoldable pub own_name : Reader → Named × Reader
own_name = token is_own_name named_of filled_name

unfoldable pub own_names : Reader → List Named × Reader
own_names = comma_list own_name

-- which value the next token begins
abbrev pub value_of : Option Placed → ValueStart
value_of None = value.Number
value_of (Some t) =
    if is_text t then value.Text
    else (if is_lexeme (word (codes "TRUE")) t then value.True
    else (if is_lexeme (word (codes "FALSE")) t then value.False
    else value.Number))

unfoldable pub value_start : Option Placed → ValueStart
value_start = value_of

abbrev pub constant_by : ValueStart → Reader → ConstantText × Reader
constant_by value.Number = map_read (λ n. constant.Number n) number
constant_by value.Text = map_read (λ x. constant.Text x.0 x.1) quoted_text
constant_by value.True = map_read (λ x. constant.Truth true) (expect_token (truth_word true))
constant_by value.False = map_read (λ x. constant.Truth false) (expect_token (truth_word false))

unfoldable pub a_constant : Reader → ConstantText × Reader
a_constant = choose_by value_start constant_by

unfoldable pub attribute : Reader → AttributeText × Reader
attribute = map_read (λ x. record { name = x.0; constant = x.1.1 }) (both own_name (both (expect_token (sign (codes "="))) a_constant))

unfoldable pub attributes : Reader → List AttributeText × Reader
attributes = either is_own_name (comma_list attribute) (nothing [])

unfoldable pub machine : Reader → MachineText × Reader
machine =
    map_read (λ x. record { name = x.1.0; attributes = x.1.1.1.0 })
    (both (expect_token (word (codes "MACHINE"))) (both own_name (both (expect_token (sign (codes "["))) (both attributes (both (expect_token (sign (codes "]"))) (expect_token (sign (codes ";"))))))))

unfoldable pub machines : Reader → List MachineText × Reader
machines = repeat_while (is_lexeme (word (codes "MACHINE"))) machine

-- a number with what may stand behind it
abbrev pub number_operand : Numeral → Option Named → OperandText
number_operand n None = operand.Fixed (constant.Number n)
number_operand n (Some name) = operand.Attribute n name

unfoldable pub number_or_attribute : Reader → OperandText × Reader
number_or_attribute =
    map_read (λ x. number_operand x.0 x.1) (both number (optional (is_lexeme (sign (codes "."))) (behind (sign (codes ".")) own_name)))

abbrev pub operand_by : ValueStart → Reader → OperandText × Reader
operand_by value.Number = number_or_attribute
operand_by other = map_read (λ c. operand.Fixed c) (constant_by other)

unfoldable pub an_operand : Reader → OperandText × Reader
an_operand = choose_by value_start operand_by

-- which comparison the next token is
abbrev pub comparison_of : Option Placed → Option Comparison
comparison_of None = None
comparison_of (Some t) =
    if is_lexeme (sign (codes "=")) t then Some by.Equal
    else (if is_lexeme (sign (codes "<>")) t then Some by.Unequal
    else (if is_lexeme (sign (codes "<")) t then Some by.Less
    else (if is_lexeme (sign (codes "<=")) t then Some by.AtMost
    else (if is_lexeme (sign (codes ">")) t then Some by.Greater
    else (if is_lexeme (sign (codes ">=")) t then Some by.AtLeast
    else None)))))

unfoldable pub seen_comparison : Option Placed → Option Comparison
seen_comparison = comparison_of

abbrev pub compared_by : Option Comparison → Reader → Option (Comparison × OperandText) × Reader
compared_by None = nothing None
compared_by (Some c) = map_read (λ x. Some (c, x)) (behind (sign_of c) an_operand)

-- a comparison and its right side, if there is one
unfoldable pub rest_of_relation : Reader → Option (Comparison × OperandText) × Reader
rest_of_relation = choose_by seen_comparison compared_by

abbrev pub relation_from : OperandText → Option (Comparison × OperandText) → Written
relation_from a None = written.holds a
relation_from a (Some x) = written.compare x.0 a x.1

unfoldable pub relation : Reader → Written × Reader
relation = map_read (λ x. relation_from x.0 x.1) (both an_operand rest_of_relation)

unfoldable pub differ_test : Reader → Written × Reader
differ_test = map_read (λ x. written.differ x.1.1) (both (expect_token (word (codes "ALL"))) (both (expect_token (word (codes "DIFFER"))) own_name))

-- what fills in for a condition
abbrev pub filled_condition : ℕ → Written
filled_condition at = written.holds (operand.Fixed (constant.Number (record { value = 0; at = at })))

-- a level too many: for a condition, for further parts of a chain
unfoldable pub too_deep : Reader → Written × Reader
too_deep = stop_reading TooDeep filled_condition

unfoldable pub no_deeper : Reader → List Written × Reader
no_deeper = stop_reading TooDeep (λ at. [])

-- what the next token begins, where a condition stands by itself
abbrev pub alone_of : Option Placed → AloneStart
alone_of None = begins.Relation
alone_of (Some t) =
    if is_lexeme (word (codes "NOT")) t then begins.Not
    else (if is_lexeme (sign (codes "(")) t then begins.Group
    else (if is_lexeme (word (codes "ALL")) t then begins.Differ
    else begins.Relation))

unfoldable pub alone_start : Option Placed → AloneStart
alone_start = alone_of

-- what stands by itself, where a NOT and a group read so
abbrev pub alone_by : (Reader → Written × Reader) → (Reader → Written × Reader) → AloneStart → Reader → Written × Reader
alone_by group_behind_not group_or_relation begins.Not = group_behind_not
alone_by group_behind_not group_or_relation begins.Group = group_or_relation
alone_by group_behind_not group_or_relation begins.Differ = differ_test
alone_by group_behind_not group_or_relation begins.Relation = relation

-- parts behind an operator
abbrev pub parts_behind : Lexeme → (Reader → Written × Reader) → (Reader → List Written × Reader) → Reader → List Written × Reader
parts_behind operator part further =
    either (is_lexeme operator) (map_read (λ x. x.0 ∷ x.1) (both (behind operator part) further)) (nothing [])

-- a chain leans to the left
abbrev pub join_chain : (Written → Written → Written) → Written → List Written → Written
join_chain join first [] = first
join_chain join first (x ∷ xs) = join_chain join (join first x) xs

abbrev pub chain : (Written → Written → Written) → Lexeme → (Reader → Written × Reader) → (Reader → List Written × Reader) → Reader → Written × Reader
chain join operator part further = map_read (λ x. join_chain join x.0 x.1) (both part (parts_behind operator part further))

-- a group, of which the parts are read so
abbrev pub grouped_with : (Reader → Written × Reader) → Reader → Written × Reader
grouped_with inner = map_read (λ x. written.group x.0) (behind (sign (codes "(")) (both inner (expect_token (sign (codes ")")))))

abbrev pub denied_with : (Reader → Written × Reader) → Reader → Written × Reader
denied_with inner = map_read (λ x. written.not x) (behind (word (codes "NOT")) inner)

-- with so many levels left: what stands by itself, and the parts behind the further operators of a chain
unfoldable mutual
  pub negation : ℕ → Reader → Written × Reader
  negation zero = choose_by alone_start (alone_by too_deep too_deep)
  negation (suc n) =
      choose_by alone_start
      (alone_by (denied_with (negation n))
      (grouped_with (chain written.or or_word (chain written.and and_word (negation n) (further_and n)) (further_or n))))

  pub further_and : ℕ → Reader → List Written × Reader
  further_and zero = either (is_lexeme and_word) no_deeper (nothing [])
  further_and (suc n) = parts_behind and_word (negation n) (further_and n)

  pub further_or : ℕ → Reader → List Written × Reader
  further_or zero = either (is_lexeme or_word) no_deeper (nothing [])
  further_or (suc n) = parts_behind or_word (chain written.and and_word (negation n) (further_and n)) (further_or n)

unfoldable pub conjunct : ℕ → Reader → Written × Reader
conjunct n = chain written.and and_word (negation n) (further_and n)

unfoldable pub condition : ℕ → Reader → Written × Reader
condition n = chain written.or or_word (conjunct n) (further_or n)

-- what a NOT and an opening parenthesis begin
abbrev pub group_behind_not : ℕ → Reader → Written × Reader
group_behind_not zero = too_deep
group_behind_not (suc n) = denied_with (negation n)

abbrev pub group_or_relation : ℕ → Reader → Written × Reader
group_or_relation zero = too_deep
group_or_relation (suc n) = grouped_with (condition n)

-- a chain with its further parts
abbrev pub with_further : (Written → Written → Written) → (Reader → List Written × Reader) → Written → Reader → Written × Reader
with_further join further left r = (join_chain join left (further r).0, (further r).1)

abbrev pub with_further_and : ℕ → Written → Reader → Written × Reader
with_further_and n = with_further written.and (further_and n)

abbrev pub with_further_or : ℕ → Written → Reader → Written × Reader
with_further_or n = with_further written.or (further_or n)

unfoldable pub names_present : Reader → List Named × Reader
names_present = map_read (λ x. x.1.0) (both (expect_token (word (codes "PRESENT"))) (both own_names (expect_token (sign (codes ";")))))

unfoldable pub present_if_any : Reader → Option (List Named) × Reader
present_if_any = optional (is_lexeme (word (codes "PRESENT"))) names_present

-- there is no token more
abbrev pub ended_by : Option Stop → List Placed → ℕ → Reader
ended_by (Some s) ts end = record { rest = ts; end = end; stop = Some s }
ended_by None [] end = open_at [] end
ended_by None (t ∷ ts) end = stopped_by Unexpected None (t ∷ ts) end

unfoldable pub text_end : Reader → Unit {0} × Reader
text_end r = (tt, ended_by r.stop r.rest r.end)

unfoldable pub heading : Reader → Unit {0} × Reader
heading = map_read (λ x. tt) (both (expect_token (word (codes "PLACE"))) (both (expect_token (digits (codes "1"))) (expect_token (sign (codes ";")))))

unfoldable pub member_count : Reader → Numeral × Reader
member_count = map_read (λ x. x.1.0) (both (expect_token (word (codes "MEMBERS"))) (both number (expect_token (word (codes "WHERE")))))

abbrev pub placing_of_parts : Unit {0} × (List MachineText × (Numeral × (Written × (Unit {0} × (Option (List Named) × Unit {0}))))) → PlacingTree
placing_of_parts x = record { machines = x.1.0; members = x.1.1.0; condition = x.1.1.1.0; present = x.1.1.1.1.1.0 }

unfoldable pub placing : ℕ → Reader → PlacingTree × Reader
placing n =
    map_read placing_of_parts
    (both heading (both machines (both member_count (both (condition n) (both (expect_token (sign (codes ";"))) (both present_if_any text_end))))))
