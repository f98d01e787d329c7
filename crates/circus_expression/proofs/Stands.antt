-- What is read stands for its tree, step by step.
use Rattle.std.proofs.Common.{◌≡◌, ℕ, zero, suc, ◌<◌, Bool, true, false, List, [], ◌∷◌, ◌++◌, length, map, refl, sym, ◌∙◌, ap, subst, append_assoc, append-nil}
use Rattle.std.specs.Prelude.{Option, Some, None, codes, if◌then◌else◌, is_some, unwrap_or, Result, Ok, Err, OnOk}
use Rattle.circus_text.specs.Token.{Lexeme}
use Rattle.circus_syntax.specs.declared.named.Named.{Named}
use Rattle.circus_syntax.specs.declared.named.Numeral.{Numeral}
use Rattle.circus_syntax.specs.declared.named.TypeName.{TypeName}
use Rattle.circus_syntax.specs.declared.stopping.Stop.{Stop}
use Rattle.circus_syntax.specs.declared.stopping.StopCause.{StopCause}
use Rattle.circus_syntax.specs.declared.stopping.StopCause.TheVariants.{Unexpected, TooDeep}
use Rattle.circus_syntax.specs.Placed.{Placed, word, sign, is_lexeme, is_number}
use Rattle.circus_syntax.specs.Reader.{Reader, place, place_of, next, next_of, passes, sees, token_in, skipped_by, stopped_by, stop_reading, nothing, both, map_read, choose_by, either, either_case, optional, repeat_while}
use Rattle.circus_syntax.specs.Reading.{expect_token, fixed_at, name, quoted_text, filled_name, filled_numeral, numeral_of, behind, comma_list, type_name}
use Rattle.circus_syntax.specs.Reading as reading
use Rattle.circus_syntax.proofs.ByWord.{fixed_at_is, name_place}
use Rattle.circus_syntax.proofs.Tokens.{comma_sign, is_comma, shrinks_behind}
use Rattle.circus_syntax.proofs.Repeats.{Shrinks, repeated_sees, repeated_none}
use Rattle.circus_expression.specs.declared.operator.Operator.{Operator}
use Rattle.circus_expression.specs.declared.operator.Chain.{Chain}
use Rattle.circus_expression.specs.declared.operator.Chain.TheVariants as of
use Rattle.circus_expression.specs.declared.starts.PrimaryStart.{PrimaryStart}
use Rattle.circus_expression.specs.declared.starts.PrimaryStart.TheVariants as begins
use Rattle.circus_expression.specs.ExpressionTree.{ExpressionTree, KindTree, SuffixTree, PlaceTree, expression, expression_trees, suffix_trees}
use Rattle.circus_expression.specs.ExpressionTree as tree
use Rattle.circus_expression.specs.Operators.{operators, comparisons, operator_in, is_operator, next_operator}
use Rattle.circus_expression.specs.Written.{Written, Links, written_list, no_links, link, no_suffixes}
use Rattle.circus_expression.specs.ExpressionReading.{filler, operator_of, first_operator, joint, joins, is_dot, is_bracket, is_parenthesis, is_hash, is_suffix, is_minus, is_not, suffixes_with, further_suffixes, Built, labelled, listing, built_with, Behind, construction, name_with_tail, Second, built_of_both, follows, second, Following, by_hash, by_dot, by_neither, following_of, behind_name, start_of_primary, primary_by, chain_of, Related, alone, compared, arm_named, with_relation, Relating, comparing, naming, ending, relating_of, compares, related_by, relation_with, expression_with, openers_within, none_left, openers, no_further, read_chain, operand, links, further_links, minus_operand, relation, related_within, factor, primary, length_primary, required_argument, named_primary, tail_behind_dot, argument, read_subscript, list, items_within, suffixes, any, further, built_behind, read_place}
use Rattle.circus_expression.specs.Standing.{place_of_tree, join_with, beginning, type_place, stands_for, lean_left, stand_for, suffixes_stand_for, place_stands_for, related_tree, show_as}
use Rattle.circus_expression.proofs.Openers.{sound_openers, sound_expression}

-- how high a chain stands among the functions that call one another
abbrev pub rank_of : Chain → ℕ
rank_of of.Term = 9
rank_of of.Sum = 12
rank_of of.Conjunct = 19
rank_of of.Expression = 22

-- In general.

pub either_hit : {A : Type 0} (test : Placed → Bool) (p q : Reader → A × Reader) (r : Reader) (b : Bool) → b ≡ sees test r → b ≡ true → either test p q r ≡ p r
either_hit test p q r b seen hit = ap (λ c. either_case p q c r) (sym seen ∙ hit)

pub either_missed : {A : Type 0} (test : Placed → Bool) (p q : Reader → A × Reader) (r : Reader) (b : Bool) → b ≡ sees test r → b ≡ false → either test p q r ≡ q r
either_missed test p q r b seen missed = ap (λ c. either_case p q c r) (sym seen ∙ missed)

pub behind_shown : {A X : Type 0} (g : A → X) (l : Lexeme) (p : Reader → A × Reader) (r s t : Reader) (x : X) → expect_token l r ≡ (tt, s) → show_as g (p s) ≡ (x, t) → show_as g (behind l p r) ≡ (x, t)
behind_shown g l p r s t x first second = ap (λ (z : Unit {0} × Reader). show_as g (p z.1)) first ∙ second

behind_plain : {A : Type 0} (l : Lexeme) (p : Reader → A × Reader) (r s t : Reader) (x : A) → expect_token l r ≡ (tt, s) → p s ≡ (x, t) → behind l p r ≡ (x, t)
behind_plain l p r s t x first second = behind_shown (λ a. a) l p r s t x first (ap (λ y. (y.0, y.1)) second)

number_tested : (b : Bool) (t : Placed) (x y : Reader) → let P : Numeral × Reader = if b then (numeral_of t, x) else (filled_numeral t.start, y) in P.0.at ≡ t.start
number_tested true t x y = refl
number_tested false t x y = refl

-- a number stands where it was read
number_place : (r s : Reader) (m : Numeral) → reading.number r ≡ (m, s) → m.at ≡ place r
unfolding reading.number
number_place r s m is = ap (λ (x : Numeral × Reader). x.0.at) (sym is) ∙ by_parts r.stop r.rest
  where
    by_parts : (stop : Option Stop) (ts : List Placed) → (token_in is_number numeral_of filled_numeral stop ts r.end).0.at ≡ place_of stop ts r.end
    by_parts (Some stop) ts = refl
    by_parts None [] = refl
    by_parts None (t ∷ ts) = number_tested (is_number t) t _ _

-- where reading stopped, x is read
name_stopped : (cause : StopCause) (r : Reader) → name (stopped_by cause r.stop r.rest r.end) ≡ (filled_name (place r), stopped_by cause r.stop r.rest r.end)
unfolding name
name_stopped cause r = by_stop r.stop
  where
    by_stop : (stop : Option Stop) → name (stopped_by cause stop r.rest r.end) ≡ (filled_name (place_of stop r.rest r.end), stopped_by cause stop r.rest r.end)
    by_stop (Some s) = refl
    by_stop None = refl

pub name_behind_stop : (cause : StopCause) (r s t : Reader) (m : Named) → s ≡ stopped_by cause r.stop r.rest r.end → name s ≡ (m, t)
    → let Filled : Named × Reader = (filled_name (place r), stopped_by cause r.stop r.rest r.end) in Filled ≡ (m, t)
name_behind_stop cause r s t m s_is is = sym (name_stopped cause r) ∙ ap name (sym s_is) ∙ is

pub stopped_is : (cause : StopCause) (r s t : Reader) (m : Named) (ss : List SuffixTree) → s ≡ stopped_by cause r.stop r.rest r.end → name s ≡ (m, t) → ss ≡ []
    → show_as stands_for (stop_reading cause filler r) ≡ (expression m.at (tree.read m (suffix_trees ss)), t)
stopped_is cause r s t m ss s_is is none =
    ap (λ (z : Named × Reader). (expression z.0.at (tree.read z.0 tree.no_suffixes), z.1)) (name_behind_stop cause r s t m s_is is)
    ∙ ap (λ l. (expression m.at (tree.read m (suffix_trees l)), t)) (sym none)

-- what fills in begins here
pub stopped_here : (cause : StopCause) (r s : Reader) (at : ℕ) (k : KindTree) → show_as stands_for (stop_reading cause filler r) ≡ (expression at k, s) → show_as stands_for (stop_reading cause filler r) ≡ (expression (place r) k, s)
stopped_here cause r s at k is = is ∙ ap (λ i. (expression i k, s)) (sym (ap (λ (z : ExpressionTree × Reader). place_of_tree z.0) is))

pub on_ok : {T E : Type 0} (o : Result T E) (P Q : Type 0) → (P → Q) → OnOk o P → OnOk o Q
on_ok (Ok x) P Q weaker h = weaker h
on_ok (Err e) P Q weaker h = h

-- Operators.

joint_seen : (os : List Operator) (o : Option Placed) (j : Option Operator) → j ≡ next_operator os o → is_some j ≡ passes (is_operator os) o
joint_seen os None j is = ap is_some is
joint_seen os (Some t) j is = ap is_some is

operator_is : (os : List Operator) (default j : Operator) (r : Reader) → next_operator os (next r) ≡ Some j → operator_of os default r ≡ (j, skipped_by r.stop r.rest r.end)
operator_is os default j r is = by_parts r.stop r.rest is
  where
    by_seen : (o : Option Operator) (x y : Reader) → o ≡ Some j → let P : Operator × Reader = if is_some o then (unwrap_or o default, x) else (default, y) in P ≡ (j, x)
    by_seen None x y h = cc
    by_seen (Some k) x y h = let same : k ≡ j = cc in ap (λ i. (i, x)) same

    by_parts : (stop : Option Stop) (ts : List Placed) → next_operator os (next_of stop ts) ≡ Some j
        → token_in (is_operator os) (λ t. unwrap_or (operator_in os t) default) (λ at. default) stop ts r.end ≡ (j, skipped_by stop ts r.end)
    by_parts (Some s) ts h = cc
    by_parts None [] h = cc
    by_parts None (t ∷ ts) h = by_seen (operator_in os t) _ _ h

joint_is : (c : Chain) (j : Operator) (r : Reader) → next_operator (operators c) (next r) ≡ Some j → joint c r ≡ (j, skipped_by r.stop r.rest r.end)
unfolding joint
joint_is c j r is = operator_is (operators c) (first_operator c) j r is

-- Chains.

chain_stands : (c : Chain) (w : Written) (ls : Links) → stands_for (chain_of c w ls) ≡ lean_left (stands_for w) ls
chain_stands c w no_links = refl
chain_stands c w (link o v ls) = refl

abbrev links_if_any : ℕ → Chain → Reader → Links × Reader
links_if_any n c = either (joins c) (links n c) (nothing no_links)

chain_is : (n : ℕ) (c : Chain) (r s t : Reader) (e x : ExpressionTree) → show_as stands_for (operand n c r) ≡ (e, s) → show_as (lean_left e) (links_if_any n c s) ≡ (x, t) → show_as stands_for (read_chain n c r) ≡ (x, t)
unfolding read_chain operand links
chain_is n c r s t e x first second =
    ap (λ y. (y, (links_if_any n c (operand n c r).1).1)) (chain_stands c (operand n c r).0 (links_if_any n c (operand n c r).1).0)
    ∙ ap (λ (z : ExpressionTree × Reader). (lean_left z.0 (links_if_any n c z.1).0, (links_if_any n c z.1).1)) first
    ∙ second

pub chain_alone : (n : ℕ) (c : Chain) (r s : Reader) (e : ExpressionTree) (j : Option Operator) → show_as stands_for (operand n c r) ≡ (e, s) → j ≡ next_operator (operators c) (next s) → j ≡ None
    → show_as stands_for (read_chain n c r) ≡ (e, s)
chain_alone n c r s e j first seen none =
    chain_is n c r s s e e first
    (ap (show_as (lean_left e)) (either_missed (joins c) (links n c) (nothing no_links) s (is_some j) (joint_seen (operators c) (next s) j seen) (ap is_some none)))

pub chain_linked : (n : ℕ) (c : Chain) (r s t : Reader) (e x : ExpressionTree) (j : Option Operator) (k : Operator) → show_as stands_for (operand n c r) ≡ (e, s) → j ≡ next_operator (operators c) (next s) → j ≡ Some k
    → show_as (lean_left e) (links n c s) ≡ (x, t) → show_as stands_for (read_chain n c r) ≡ (x, t)
chain_linked n c r s t e x j k first seen some last =
    chain_is n c r s t e x first
    (ap (show_as (lean_left e)) (either_hit (joins c) (links n c) (nothing no_links) s (is_some j) (joint_seen (operators c) (next s) j seen) (ap is_some some)) ∙ last)

abbrev further_if_any : ℕ → Chain → Reader → Links × Reader
further_if_any n c = either (joins c) (further_links n c) (nothing no_links)

links_is : (n : ℕ) (c : Chain) (r s t u : Reader) (left e x : ExpressionTree) (j : Operator) → next_operator (operators c) (next r) ≡ Some j → s ≡ skipped_by r.stop r.rest r.end
    → show_as stands_for (operand n c s) ≡ (e, t) → show_as (lean_left (join_with j left e)) (further_if_any n c t) ≡ (x, u) → show_as (lean_left left) (links n c r) ≡ (x, u)
unfolding links further_links operand
links_is n c r s t u left e x j seen behind_it second last =
    ap (λ (z : Operator × Reader). (lean_left (join_with z.0 left (stands_for (operand n c z.1).0)) (further_if_any n c (operand n c z.1).1).0, (further_if_any n c (operand n c z.1).1).1))
    (joint_is c j r seen ∙ ap (λ q. (j, q)) (sym behind_it))
    ∙ ap (λ (z : ExpressionTree × Reader). (lean_left (join_with j left z.0) (further_if_any n c z.1).0, (further_if_any n c z.1).1)) second
    ∙ last

pub links_end : (n : ℕ) (c : Chain) (r s t : Reader) (left e both : ExpressionTree) (j : Operator) (o : Option Operator) → next_operator (operators c) (next r) ≡ Some j → s ≡ skipped_by r.stop r.rest r.end
    → show_as stands_for (operand n c s) ≡ (e, t) → both ≡ join_with j left e → o ≡ next_operator (operators c) (next t) → o ≡ None → show_as (lean_left left) (links n c r) ≡ (both, t)
links_end n c r s t left e both j o seen behind_it second both_is further none =
    links_is n c r s t t left e (join_with j left e) j seen behind_it second
    (ap (show_as (lean_left (join_with j left e))) (either_missed (joins c) (further_links n c) (nothing no_links) t (is_some o) (joint_seen (operators c) (next t) o further) (ap is_some none)))
    ∙ ap (λ x. (x, t)) (sym both_is)

pub links_go_on : (n : ℕ) (c : Chain) (r s t u : Reader) (left e both x : ExpressionTree) (j k : Operator) (o : Option Operator) → next_operator (operators c) (next r) ≡ Some j → s ≡ skipped_by r.stop r.rest r.end
    → show_as stands_for (operand n c s) ≡ (e, t) → both ≡ join_with j left e → o ≡ next_operator (operators c) (next t) → o ≡ Some k → show_as (lean_left both) (further_links n c t) ≡ (x, u)
    → show_as (lean_left left) (links n c r) ≡ (x, u)
links_go_on n c r s t u left e both x j k o seen behind_it second both_is further some last =
    links_is n c r s t u left e x j seen behind_it second
    (ap (show_as (lean_left (join_with j left e))) (either_hit (joins c) (further_links n c) (nothing no_links) t (is_some o) (joint_seen (operators c) (next t) o further) (ap is_some some))
    ∙ ap (λ y. show_as (lean_left y) (further_links n c t)) (sym both_is) ∙ last)

pub further_links_deep : (n : ℕ) (c : Chain) (r : Reader) → n ≡ 0 → further_links n c r ≡ no_further c r
unfolding further_links openers
further_links_deep n c r none = ap (λ k. further_links k c r) none

pub further_links_more : (n m : ℕ) (c : Chain) (r : Reader) → n ≡ suc m → further_links n c r ≡ links m c r
unfolding further_links openers links
further_links_more n m c r more = ap (λ k. further_links k c r) more

pub stop_linked_is : (c : Chain) (r s : Reader) (left missing both : ExpressionTree) → show_as stands_for (stop_reading TooDeep filler r) ≡ (missing, s) → both ≡ join_with (first_operator c) left missing
    → show_as (lean_left left) (no_further c r) ≡ (both, s)
stop_linked_is c r s left missing both is both_is =
    ap (λ (z : ExpressionTree × Reader). (join_with (first_operator c) left z.0, z.1)) is ∙ ap (λ x. (x, s)) (sym both_is)

pub operand_expression : (n : ℕ) (r : Reader) → operand n of.Expression r ≡ read_chain n of.Conjunct r
unfolding operand read_chain
operand_expression n r = refl

pub operand_conjunct : (n : ℕ) (r : Reader) → operand n of.Conjunct r ≡ minus_operand n r
unfolding operand minus_operand
operand_conjunct n r = refl

pub operand_sum : (n : ℕ) (r : Reader) → operand n of.Sum r ≡ read_chain n of.Term r
unfolding operand read_chain
operand_sum n r = refl

pub operand_term : (n : ℕ) (r : Reader) → operand n of.Term r ≡ factor n r
unfolding operand factor
operand_term n r = refl

-- NOT and the minus sign.

pub negated_missed : (n : ℕ) (r : Reader) (b : Bool) → b ≡ sees is_not r → b ≡ false → minus_operand n r ≡ relation n r
unfolding minus_operand relation
negated_missed n r b seen missed = either_missed is_not (openers n).negation (relation_with (openers n)) r b seen missed

pub negated_deep : (n : ℕ) (r : Reader) (b : Bool) → n ≡ 0 → b ≡ sees is_not r → b ≡ true → minus_operand n r ≡ stop_reading TooDeep filler r
unfolding minus_operand openers
negated_deep n r b none seen hit = ap (λ k. minus_operand k r) none ∙ either_hit is_not (stop_reading TooDeep filler) (relation_with none_left) r b seen hit

pub negated_is : (n m : ℕ) (r s t : Reader) (e : ExpressionTree) (b : Bool) → n ≡ suc m → b ≡ sees is_not r → b ≡ true → expect_token (word (codes "NOT")) r ≡ (tt, s) → show_as stands_for (minus_operand m s) ≡ (e, t)
    → show_as stands_for (minus_operand n r) ≡ (expression (place r) (tree.negation e), t)
unfolding minus_operand openers
negated_is n m r s t e b more seen hit first second =
    ap (λ k. show_as stands_for (minus_operand k r)) more
    ∙ ap (show_as stands_for) (either_hit is_not (openers_within (openers m)).negation (relation_with (openers_within (openers m))) r b seen hit)
    ∙ ap (λ (z : ℕ × Reader). (expression z.0 (tree.negation (stands_for (minus_operand m z.1).0)), (minus_operand m z.1).1)) (fixed_at_is (word (codes "NOT")) r s first)
    ∙ ap (λ (z : ExpressionTree × Reader). (expression (place r) (tree.negation z.0), z.1)) second

pub factor_missed : (n : ℕ) (r : Reader) (b : Bool) → b ≡ sees is_minus r → b ≡ false → factor n r ≡ primary n r
unfolding factor primary
factor_missed n r b seen missed = either_missed is_minus (openers n).minus (choose_by start_of_primary (primary_by (openers n))) r b seen missed

pub factor_deep : (n : ℕ) (r : Reader) (b : Bool) → n ≡ 0 → b ≡ sees is_minus r → b ≡ true → factor n r ≡ stop_reading TooDeep filler r
unfolding factor openers
factor_deep n r b none seen hit = ap (λ k. factor k r) none ∙ either_hit is_minus (stop_reading TooDeep filler) (choose_by start_of_primary (primary_by none_left)) r b seen hit

pub factor_is : (n m : ℕ) (r s t : Reader) (e : ExpressionTree) (b : Bool) → n ≡ suc m → b ≡ sees is_minus r → b ≡ true → expect_token (sign (codes "-")) r ≡ (tt, s) → show_as stands_for (factor m s) ≡ (e, t)
    → show_as stands_for (factor n r) ≡ (expression (place r) (tree.minus e), t)
unfolding factor openers
factor_is n m r s t e b more seen hit first second =
    ap (λ k. show_as stands_for (factor k r)) more
    ∙ ap (show_as stands_for) (either_hit is_minus (openers_within (openers m)).minus (choose_by start_of_primary (primary_by (openers_within (openers m)))) r b seen hit)
    ∙ ap (λ (z : ℕ × Reader). (expression z.0 (tree.minus (stands_for (factor m z.1).0)), (factor m z.1).1)) (fixed_at_is (sign (codes "-")) r s first)
    ∙ ap (λ (z : ExpressionTree × Reader). (expression (place r) (tree.minus z.0), z.1)) second

-- Relations.

related_stands : (w : Written) (y : Related) → stands_for (with_relation w y) ≡ related_tree (stands_for w) y
related_stands w alone = refl
related_stands w (compared o v) = refl
related_stands w (arm_named m) = refl

pub relation_is : (n : ℕ) (r s t : Reader) (a x : ExpressionTree) → show_as stands_for (read_chain n of.Sum r) ≡ (a, s) → show_as (related_tree a) (related_within n s) ≡ (x, t) → show_as stands_for (relation n r) ≡ (x, t)
unfolding relation read_chain related_within
relation_is n r s t a x first second =
    ap (λ y. (y, (related_within n (read_chain n of.Sum r).1).1)) (related_stands (read_chain n of.Sum r).0 (related_within n (read_chain n of.Sum r).1).0)
    ∙ ap (λ (z : ExpressionTree × Reader). (related_tree z.0 (related_within n z.1).0, (related_within n z.1).1)) first
    ∙ second

relating_by_sight : (o : Option Placed) → relating_of o ≡ (if passes (is_lexeme (word (codes "IS"))) o then naming else (if passes (is_operator comparisons) o then comparing else ending))
relating_by_sight None = refl
relating_by_sight (Some t) = refl

relating_is : (o : Option Placed) (b d : Bool) (k : Relating) → b ≡ passes (is_lexeme (word (codes "IS"))) o → d ≡ passes (is_operator comparisons) o → (if b then naming else (if d then comparing else ending)) ≡ k → relating_of o ≡ k
relating_is o b d k named_seen seen is = relating_by_sight o ∙ (λ i. if sym named_seen i then naming else (if sym seen i then comparing else ending)) ∙ is

compares_is : (j : Operator) (r : Reader) → next_operator comparisons (next r) ≡ Some j → compares r ≡ (j, skipped_by r.stop r.rest r.end)
unfolding compares
compares_is j r is = operator_is comparisons _ j r is

pub related_named : (n : ℕ) (r u : Reader) (a x : ExpressionTree) (b : Bool) → b ≡ sees (is_lexeme (word (codes "IS"))) r → b ≡ true
    → show_as (λ m. expression (place_of_tree a) (tree.is_arm a m)) (behind (word (codes "IS")) name r) ≡ (x, u) → show_as (related_tree a) (related_within n r) ≡ (x, u)
unfolding related_within
related_named n r u a x b named_seen hit last =
    ap (λ y. show_as (related_tree a) (related_by (openers n) y r)) (relating_is (next r) b (passes (is_operator comparisons) (next r)) naming named_seen refl (ap (λ i. if i then naming else (if passes (is_operator comparisons) (next r) then comparing else ending)) hit))
    ∙ last

pub related_compared : (n : ℕ) (r u : Reader) (a x : ExpressionTree) (b : Bool) (j : Option Operator) (k : Operator) → b ≡ sees (is_lexeme (word (codes "IS"))) r → b ≡ false → j ≡ next_operator comparisons (next r) → j ≡ Some k
    → show_as (λ w. join_with k a (stands_for w)) (read_chain n of.Sum (skipped_by r.stop r.rest r.end)) ≡ (x, u) → show_as (related_tree a) (related_within n r) ≡ (x, u)
unfolding related_within read_chain
related_compared n r u a x b j k named_seen missed seen some last =
    ap (λ y. show_as (related_tree a) (related_by (openers n) y r)) (relating_is (next r) b (is_some j) comparing named_seen (joint_seen comparisons (next r) j seen) (λ i. if missed i then naming else (if is_some (some i) then comparing else ending)))
    ∙ ap (λ (z : Operator × Reader). (join_with z.0 a (stands_for (read_chain n of.Sum z.1).0), (read_chain n of.Sum z.1).1)) (compares_is k r (sym seen ∙ some))
    ∙ last

pub related_alone : (n : ℕ) (r : Reader) (a : ExpressionTree) (b : Bool) (j : Option Operator) → b ≡ sees (is_lexeme (word (codes "IS"))) r → b ≡ false → j ≡ next_operator comparisons (next r) → j ≡ None
    → show_as (related_tree a) (related_within n r) ≡ (a, r)
unfolding related_within
related_alone n r a b j named_seen missed seen none =
    ap (λ y. show_as (related_tree a) (related_by (openers n) y r)) (relating_is (next r) b (is_some j) ending named_seen (joint_seen comparisons (next r) j seen) (λ i. if missed i then naming else (if is_some (none i) then comparing else ending)))

pub compared_is : (n : ℕ) (r s t : Reader) (left l right both : ExpressionTree) (j : Operator) → s ≡ skipped_by r.stop r.rest r.end → show_as stands_for (read_chain n of.Sum s) ≡ (right, t) → l ≡ left
    → both ≡ expression (place_of_tree left) (tree.binary j l right) → show_as (λ w. join_with j left (stands_for w)) (read_chain n of.Sum (skipped_by r.stop r.rest r.end)) ≡ (both, t)
compared_is n r s t left l right both j s_is second l_is both_is =
    ap (λ q. show_as (λ w. join_with j left (stands_for w)) (read_chain n of.Sum q)) (sym s_is)
    ∙ ap (λ (z : ExpressionTree × Reader). (join_with j left z.0, z.1)) second
    ∙ ap (λ e. (e, t)) (ap (λ y. expression (place_of_tree left) (tree.binary j y right)) (sym l_is) ∙ sym both_is)

pub arm_test_is : (r s t : Reader) (left l : ExpressionTree) (m : Named) → expect_token (word (codes "IS")) r ≡ (tt, s) → name s ≡ (m, t) → l ≡ left
    → show_as (λ arm. expression (place_of_tree left) (tree.is_arm left arm)) (behind (word (codes "IS")) name r) ≡ (expression (place_of_tree left) (tree.is_arm l m), t)
arm_test_is r s t left l m first second l_is =
    behind_shown (λ arm. expression (place_of_tree left) (tree.is_arm left arm)) (word (codes "IS")) name r s t (expression (place_of_tree left) (tree.is_arm left m)) first
    (ap (λ (z : Named × Reader). (expression (place_of_tree left) (tree.is_arm left z.0), z.1)) second)
    ∙ ap (λ y. (expression (place_of_tree left) (tree.is_arm y m), t)) (sym l_is)

-- Primaries.

primary_case : (n : ℕ) (r : Reader) (k j : PrimaryStart) → k ≡ start_of_primary (next r) → k ≡ j → primary n r ≡ primary_by (openers n) j r
unfolding primary
primary_case n r k j seen is = ap (λ i. primary_by (openers n) i r) (sym seen ∙ is)

pub primary_number : (n : ℕ) (r s : Reader) (m : Numeral) (k : PrimaryStart) → k ≡ start_of_primary (next r) → k ≡ begins.Number → reading.number r ≡ (m, s)
    → show_as stands_for (primary n r) ≡ (expression (place r) (tree.number m.value), s)
primary_number n r s m k seen is last =
    ap (show_as stands_for) (primary_case n r k begins.Number seen is)
    ∙ ap (λ (z : Numeral × Reader). (expression z.0.at (tree.number z.0.value), z.1)) last
    ∙ ap (λ i. (expression i (tree.number m.value), s)) (number_place r s m last)

pub primary_text : (n : ℕ) (r s : Reader) (content : List ℕ) (k : PrimaryStart) → k ≡ start_of_primary (next r) → k ≡ begins.Text → quoted_text r ≡ ((content, place r), s)
    → show_as stands_for (primary n r) ≡ (expression (place r) (tree.text content), s)
primary_text n r s content k seen is last =
    ap (show_as stands_for) (primary_case n r k begins.Text seen is)
    ∙ ap (λ (z : (List ℕ × ℕ) × Reader). (expression z.0.1 (tree.text z.0.0), z.1)) last

pub primary_true : (n : ℕ) (r s : Reader) (k : PrimaryStart) → k ≡ start_of_primary (next r) → k ≡ begins.True → expect_token (word (codes "TRUE")) r ≡ (tt, s)
    → show_as stands_for (primary n r) ≡ (expression (place r) (tree.truth true), s)
primary_true n r s k seen is last =
    ap (show_as stands_for) (primary_case n r k begins.True seen is)
    ∙ ap (λ (z : ℕ × Reader). (expression z.0 (tree.truth true), z.1)) (fixed_at_is (word (codes "TRUE")) r s last)

pub primary_false : (n : ℕ) (r s : Reader) (k : PrimaryStart) → k ≡ start_of_primary (next r) → k ≡ begins.False → expect_token (word (codes "FALSE")) r ≡ (tt, s)
    → show_as stands_for (primary n r) ≡ (expression (place r) (tree.truth false), s)
primary_false n r s k seen is last =
    ap (show_as stands_for) (primary_case n r k begins.False seen is)
    ∙ ap (λ (z : ℕ × Reader). (expression z.0 (tree.truth false), z.1)) (fixed_at_is (word (codes "FALSE")) r s last)

pub primary_parenthesis : (n : ℕ) (r s : Reader) (e : ExpressionTree) (k : PrimaryStart) → k ≡ start_of_primary (next r) → k ≡ begins.Parenthesis → show_as stands_for (argument n r) ≡ (e, s)
    → show_as stands_for (primary n r) ≡ (beginning (place r) e, s)
unfolding argument openers
primary_parenthesis n r s e k seen is last =
    ap (show_as stands_for) (primary_case n r k begins.Parenthesis seen is)
    ∙ by_levels n
    ∙ ap (λ (z : ExpressionTree × Reader). (beginning (place r) z.0, z.1)) last
  where
    by_levels : (i : ℕ) → show_as stands_for ((openers i).parentheses r) ≡ (beginning (place r) (stands_for (argument i r).0), (argument i r).1)
    by_levels zero = refl
    by_levels (suc i) =
        ap (λ (z : ℕ × Reader). (beginning z.0 (stands_for (expression_with (openers i) z.1).0), (expect_token (sign (codes ")")) (expression_with (openers i) z.1).1).1))
        (fixed_at_is (sign (codes "(")) r (expect_token (sign (codes "(")) r).1 refl)

pub primary_length : (n : ℕ) (r : Reader) (k : PrimaryStart) → k ≡ start_of_primary (next r) → k ≡ begins.Length → primary n r ≡ length_primary n r
unfolding length_primary
primary_length n r k seen is = primary_case n r k begins.Length seen is

pub primary_named : (n : ℕ) (r : Reader) (k : PrimaryStart) → k ≡ start_of_primary (next r) → k ≡ begins.Name → primary n r ≡ named_primary n r
unfolding named_primary
primary_named n r k seen is = primary_case n r k begins.Name seen is

pub length_deep : (n : ℕ) (r : Reader) → n ≡ 0 → length_primary n r ≡ stop_reading TooDeep filler r
unfolding length_primary openers
length_deep n r none = ap (λ k. length_primary k r) none

pub length_is : (n m : ℕ) (r s t : Reader) (e : ExpressionTree) → n ≡ suc m → expect_token (word (codes "LENGTH")) r ≡ (tt, s) → show_as stands_for (required_argument m s) ≡ (e, t)
    → show_as stands_for (length_primary n r) ≡ (expression (place r) (tree.length_of e), t)
unfolding length_primary required_argument openers
length_is n m r s t e more first second =
    ap (λ k. show_as stands_for (length_primary k r)) more
    ∙ ap (λ (z : ℕ × Reader). (expression z.0 (tree.length_of (stands_for (required_argument m z.1).0)), (required_argument m z.1).1)) (fixed_at_is (word (codes "LENGTH")) r s first)
    ∙ ap (λ (z : ExpressionTree × Reader). (expression (place r) (tree.length_of z.0), z.1)) second

pub required_seen : (n : ℕ) (r : Reader) (b : Bool) → b ≡ sees is_parenthesis r → b ≡ true → required_argument n r ≡ argument n r
unfolding required_argument argument
required_seen n r b seen hit = either_hit is_parenthesis (openers n).argument (stop_reading Unexpected filler) r b seen hit

pub required_missed : (n : ℕ) (r : Reader) (b : Bool) → b ≡ sees is_parenthesis r → b ≡ false → required_argument n r ≡ stop_reading Unexpected filler r
unfolding required_argument
required_missed n r b seen missed = either_missed is_parenthesis (openers n).argument (stop_reading Unexpected filler) r b seen missed

pub argument_deep : (n : ℕ) (r : Reader) → n ≡ 0 → argument n r ≡ stop_reading TooDeep filler r
unfolding argument openers
argument_deep n r none = ap (λ k. argument k r) none

pub argument_is : (n m : ℕ) (r s t u : Reader) (e : ExpressionTree) → n ≡ suc m → expect_token (sign (codes "(")) r ≡ (tt, s) → show_as stands_for (read_chain m of.Expression s) ≡ (e, t) → expect_token (sign (codes ")")) t ≡ (tt, u)
    → show_as stands_for (argument n r) ≡ (e, u)
unfolding argument openers read_chain
argument_is n m r s t u e more first second third =
    ap (λ k. show_as stands_for (argument k r)) more
    ∙ ap (λ (z : Unit {0} × Reader). (stands_for (read_chain m of.Expression z.1).0, (expect_token (sign (codes ")")) (read_chain m of.Expression z.1).1).1)) first
    ∙ ap (λ (z : ExpressionTree × Reader). (z.0, (expect_token (sign (codes ")")) z.1).1)) second
    ∙ ap (λ (z : Unit {0} × Reader). (e, z.1)) third

pub subscript_deep : (n : ℕ) (r : Reader) → n ≡ 0 → read_subscript n r ≡ stop_reading TooDeep filler r
unfolding read_subscript openers
subscript_deep n r none = ap (λ k. read_subscript k r) none

pub subscript_is : (n m : ℕ) (r s t u : Reader) (e : ExpressionTree) → n ≡ suc m → expect_token (sign (codes "[")) r ≡ (tt, s) → show_as stands_for (read_chain m of.Expression s) ≡ (e, t) → expect_token (sign (codes "]")) t ≡ (tt, u)
    → show_as stands_for (read_subscript n r) ≡ (e, u)
unfolding read_subscript openers read_chain
subscript_is n m r s t u e more first second third =
    ap (λ k. show_as stands_for (read_subscript k r)) more
    ∙ ap (λ (z : Unit {0} × Reader). (stands_for (read_chain m of.Expression z.1).0, (expect_token (sign (codes "]")) (read_chain m of.Expression z.1).1).1)) first
    ∙ ap (λ (z : ExpressionTree × Reader). (z.0, (expect_token (sign (codes "]")) z.1).1)) second
    ∙ ap (λ (z : Unit {0} × Reader). (e, z.1)) third

-- Names and what stands behind them.

abbrev pub behind_on : ℕ → Reader → Behind × Reader
behind_on n = choose_by following_of (behind_name (openers n))

pub named_is : (n : ℕ) (r s t : Reader) (m : Named) (k : KindTree) → name r ≡ (m, s) → show_as (λ b. stands_for (name_with_tail m b)) (behind_on n s) ≡ (expression m.at k, t)
    → show_as stands_for (named_primary n r) ≡ (expression (place r) k, t)
unfolding named_primary
named_is n r s t m k first second =
    ap (λ (z : Named × Reader). (stands_for (name_with_tail z.0 (behind_on n z.1).0), (behind_on n z.1).1)) first ∙ second
    ∙ ap (λ i. (expression i k, t)) (name_place r s m first)

following_by_sight : (o : Option Placed) → following_of o ≡ (if passes is_hash o then by_hash else (if passes is_dot o then by_dot else by_neither))
following_by_sight None = refl
following_by_sight (Some t) = refl

following_is : (o : Option Placed) (b d : Bool) (k : Following) → b ≡ passes is_hash o → d ≡ passes is_dot o → (if b then by_hash else (if d then by_dot else by_neither)) ≡ k → following_of o ≡ k
following_is o b d k seen sight is = following_by_sight o ∙ (λ i. if sym seen i then by_hash else (if sym sight i then by_dot else by_neither)) ∙ is

pub behind_hash : (n : ℕ) (m : Named) (r t : Reader) (x : ExpressionTree) (b : Bool) → b ≡ sees is_hash r → b ≡ true
    → show_as (λ made. stands_for (construction (record { «module» = None; name = m }) made)) (built_behind n r) ≡ (x, t) → show_as (λ y. stands_for (name_with_tail m y)) (behind_on n r) ≡ (x, t)
unfolding built_behind
behind_hash n m r t x b seen hit last =
    ap (λ k. show_as (λ y. stands_for (name_with_tail m y)) (behind_name (openers n) k r)) (following_is (next r) b (passes is_dot (next r)) by_hash seen refl (ap (λ i. if i then by_hash else (if passes is_dot (next r) then by_dot else by_neither)) hit)) ∙ last

pub behind_dot : (n : ℕ) (m : Named) (r t : Reader) (x : ExpressionTree) (b d : Bool) → b ≡ sees is_hash r → b ≡ false → d ≡ sees is_dot r → d ≡ true
    → show_as (λ y. stands_for (name_with_tail m y)) (tail_behind_dot n r) ≡ (x, t) → show_as (λ y. stands_for (name_with_tail m y)) (behind_on n r) ≡ (x, t)
unfolding tail_behind_dot
behind_dot n m r t x b d seen missed sight hit last =
    ap (λ k. show_as (λ y. stands_for (name_with_tail m y)) (behind_name (openers n) k r)) (following_is (next r) b d by_dot seen sight (λ i. if missed i then by_hash else (if hit i then by_dot else by_neither))) ∙ last

pub behind_neither : (n : ℕ) (m : Named) (r t : Reader) (ss : List SuffixTree) (b d : Bool) → b ≡ sees is_hash r → b ≡ false → d ≡ sees is_dot r → d ≡ false
    → show_as suffixes_stand_for (any n r) ≡ (ss, t) → show_as (λ y. stands_for (name_with_tail m y)) (behind_on n r) ≡ (expression m.at (tree.read m (suffix_trees ss)), t)
unfolding any
behind_neither n m r t ss b d seen missed sight lost last =
    ap (λ k. show_as (λ y. stands_for (name_with_tail m y)) (behind_name (openers n) k r)) (following_is (next r) b d by_neither seen sight (λ i. if missed i then by_hash else (if lost i then by_dot else by_neither)))
    ∙ ap (λ (z : List SuffixTree × Reader). (expression m.at (tree.read m (suffix_trees z.0)), z.1)) last

abbrev second_by : ℕ → Reader → Second × Reader
second_by n = either is_hash (map_read built_of_both (built_with (openers n))) (map_read follows (further_suffixes (openers n)))

dotted_is : (n : ℕ) (m k : Named) (r s t u : Reader) (x : ExpressionTree) → expect_token (sign (codes ".")) r ≡ (tt, s) → name s ≡ (k, t) → show_as (λ y. stands_for (name_with_tail m (second k y))) (second_by n t) ≡ (x, u)
    → show_as (λ y. stands_for (name_with_tail m y)) (tail_behind_dot n r) ≡ (x, u)
unfolding tail_behind_dot
dotted_is n m k r s t u x first next_name last =
    ap (λ (z : Named × Reader). (stands_for (name_with_tail m (second z.0 (second_by n z.1).0)), (second_by n z.1).1)) (behind_plain (sign (codes ".")) name r s t k first next_name)
    ∙ last

pub dotted_hash : (n : ℕ) (m k : Named) (r s t u : Reader) (x : ExpressionTree) (b : Bool) → expect_token (sign (codes ".")) r ≡ (tt, s) → name s ≡ (k, t) → b ≡ sees is_hash t → b ≡ true
    → show_as (λ made. stands_for (construction (record { «module» = Some m; name = k }) made)) (built_behind n t) ≡ (x, u) → show_as (λ y. stands_for (name_with_tail m y)) (tail_behind_dot n r) ≡ (x, u)
unfolding built_behind
dotted_hash n m k r s t u x b first next_name seen hit last =
    dotted_is n m k r s t u x first next_name
    (ap (show_as (λ y. stands_for (name_with_tail m (second k y)))) (either_hit is_hash (map_read built_of_both (built_with (openers n))) (map_read follows (further_suffixes (openers n))) t b seen hit) ∙ last)

pub dotted_more : (n : ℕ) (m k : Named) (r s t u : Reader) (one ss : List SuffixTree) (b : Bool) → expect_token (sign (codes ".")) r ≡ (tt, s) → name s ≡ (k, t) → b ≡ sees is_hash t → b ≡ false → one ≡ tree.field k ∷ []
    → show_as (λ y. one ++ suffixes_stand_for y) (further n t) ≡ (ss, u) → show_as (λ y. stands_for (name_with_tail m y)) (tail_behind_dot n r) ≡ (expression m.at (tree.read m (suffix_trees ss)), u)
unfolding further
dotted_more n m k r s t u one ss b first next_name seen missed one_is last =
    dotted_is n m k r s t u (expression m.at (tree.read m (suffix_trees ss))) first next_name
    (ap (show_as (λ y. stands_for (name_with_tail m (second k y)))) (either_missed is_hash (map_read built_of_both (built_with (openers n))) (map_read follows (further_suffixes (openers n))) t b seen missed)
    ∙ ap (λ (z : List SuffixTree × Reader). (expression m.at (tree.read m (suffix_trees z.0)), z.1))
    (ap (λ l. show_as (λ y. l ++ suffixes_stand_for y) (further n t)) (sym one_is) ∙ last))

stand_listed : (ws : List Written) → stand_for (written_list ws) ≡ map stands_for ws
stand_listed [] = refl
stand_listed (w ∷ ws) = ap (λ l. stands_for w ∷ l) (stand_listed ws)

abbrev made_by : ℕ → Reader → Built × Reader
made_by n =
    either is_bracket (map_read listing (openers n).list)
    (map_read (λ x. labelled x.0 x.1) (both name (optional is_parenthesis (openers n).argument)))

built_is : (n : ℕ) (t : TypeName) (r s u : Reader) (x : ExpressionTree) → expect_token (sign (codes "#")) r ≡ (tt, s) → show_as (λ made. stands_for (construction t made)) (made_by n s) ≡ (x, u)
    → show_as (λ made. stands_for (construction t made)) (built_behind n r) ≡ (x, u)
unfolding built_behind
built_is n t r s u x first last = behind_shown (λ made. stands_for (construction t made)) (sign (codes "#")) (made_by n) r s u x first last

pub built_items : (n : ℕ) (of_type : TypeName) (r s u : Reader) (es : List ExpressionTree) (b : Bool) → expect_token (sign (codes "#")) r ≡ (tt, s) → b ≡ sees is_bracket s → b ≡ true
    → show_as (map stands_for) (list n s) ≡ (es, u) → show_as (λ made. stands_for (construction of_type made)) (built_behind n r) ≡ (expression (type_place of_type) (tree.items of_type (expression_trees es)), u)
unfolding list
built_items n of_type r s u es b first seen hit last =
    built_is n of_type r s u (expression (type_place of_type) (tree.items of_type (expression_trees es))) first
    (ap (show_as (λ made. stands_for (construction of_type made)))
    (either_hit is_bracket (map_read listing (openers n).list) (map_read (λ x. labelled x.0 x.1) (both name (optional is_parenthesis (openers n).argument))) s b seen hit)
    ∙ ap (λ l. (expression (type_place of_type) (tree.items of_type (expression_trees l)), (list n s).1)) (stand_listed (list n s).0)
    ∙ ap (λ (z : List ExpressionTree × Reader). (expression (type_place of_type) (tree.items of_type (expression_trees z.0)), z.1)) last)

abbrev labelled_by : ℕ → Reader → Option Written × Reader
labelled_by n = optional is_parenthesis (openers n).argument

labelled_is : (n : ℕ) (of_type : TypeName) (r s t u : Reader) (k : Named) (x : ExpressionTree) (b : Bool) → expect_token (sign (codes "#")) r ≡ (tt, s) → b ≡ sees is_bracket s → b ≡ false → name s ≡ (k, t)
    → show_as (λ v. stands_for (construction of_type (labelled k v))) (labelled_by n t) ≡ (x, u) → show_as (λ made. stands_for (construction of_type made)) (built_behind n r) ≡ (x, u)
labelled_is n of_type r s t u k x b first seen missed second last =
    built_is n of_type r s u x first
    (ap (show_as (λ made. stands_for (construction of_type made)))
    (either_missed is_bracket (map_read listing (openers n).list) (map_read (λ y. labelled y.0 y.1) (both name (labelled_by n))) s b seen missed)
    ∙ ap (λ (z : Named × Reader). (stands_for (construction of_type (labelled z.0 (labelled_by n z.1).0)), (labelled_by n z.1).1)) second
    ∙ last)

pub built_label : (n : ℕ) (of_type : TypeName) (r s t : Reader) (k : Named) (b d : Bool) → expect_token (sign (codes "#")) r ≡ (tt, s) → b ≡ sees is_bracket s → b ≡ false → name s ≡ (k, t)
    → d ≡ sees is_parenthesis t → d ≡ false → show_as (λ made. stands_for (construction of_type made)) (built_behind n r) ≡ (expression (type_place of_type) (tree.label of_type k), t)
built_label n of_type r s t k b d first seen missed second sight lost =
    labelled_is n of_type r s t t k (expression (type_place of_type) (tree.label of_type k)) b first seen missed second
    (ap (show_as (λ v. stands_for (construction of_type (labelled k v)))) (either_missed is_parenthesis (map_read (λ y. Some y) (openers n).argument) (nothing None) t d sight lost))

pub built_arm : (n : ℕ) (of_type : TypeName) (r s t u : Reader) (k : Named) (e : ExpressionTree) (b d : Bool) → expect_token (sign (codes "#")) r ≡ (tt, s) → b ≡ sees is_bracket s → b ≡ false → name s ≡ (k, t)
    → d ≡ sees is_parenthesis t → d ≡ true → show_as stands_for (argument n t) ≡ (e, u) → show_as (λ made. stands_for (construction of_type made)) (built_behind n r) ≡ (expression (type_place of_type) (tree.arm of_type k e), u)
unfolding argument
built_arm n of_type r s t u k e b d first seen missed second sight hit last =
    labelled_is n of_type r s t u k (expression (type_place of_type) (tree.arm of_type k e)) b first seen missed second
    (ap (show_as (λ v. stands_for (construction of_type (labelled k v)))) (either_hit is_parenthesis (map_read (λ y. Some y) (openers n).argument) (nothing None) t d sight hit)
    ∙ ap (λ (z : ExpressionTree × Reader). (expression (type_place of_type) (tree.arm of_type k z.0), z.1)) last)

-- Places and their suffixes.

pub place_is : (n : ℕ) (r s t : Reader) (m : Named) (ss : List SuffixTree) → name r ≡ (m, s) → show_as suffixes_stand_for (any n s) ≡ (ss, t)
    → show_as place_stands_for (read_place n r) ≡ (record { name = m; suffixes = ss }, t)
unfolding read_place any
place_is n r s t m ss first second =
    ap (λ (z : Named × Reader). (place_stands_for (record { name = z.0; suffixes = (any n z.1).0 }), (any n z.1).1)) first
    ∙ ap (λ (z : List SuffixTree × Reader). (record { name = m; suffixes = z.0 }, z.1)) second

pub any_none : (n : ℕ) (r : Reader) (ss : List SuffixTree) (b : Bool) → b ≡ sees is_suffix r → b ≡ false → ss ≡ [] → show_as suffixes_stand_for (any n r) ≡ (ss, r)
unfolding any
any_none n r ss b seen missed none =
    ap (show_as suffixes_stand_for) (either_missed is_suffix (suffixes_with (openers n)) (nothing no_suffixes) r b seen missed) ∙ ap (λ l. (l, r)) (sym none)

pub any_some : (n : ℕ) (r s : Reader) (none ss : List SuffixTree) (b : Bool) → b ≡ sees is_suffix r → b ≡ true → none ≡ [] → show_as (λ y. none ++ suffixes_stand_for y) (suffixes n r) ≡ (ss, s)
    → show_as suffixes_stand_for (any n r) ≡ (ss, s)
unfolding any suffixes
any_some n r s none ss b seen hit empty last =
    ap (show_as suffixes_stand_for) (either_hit is_suffix (suffixes_with (openers n)) (nothing no_suffixes) r b seen hit)
    ∙ ap (λ l. show_as (λ y. l ++ suffixes_stand_for y) (suffixes n r)) (sym empty) ∙ last

pub suffixes_subscript : (n : ℕ) (r s t : Reader) (done more all : List SuffixTree) (e : ExpressionTree) (b : Bool) → b ≡ sees is_bracket r → b ≡ true → show_as stands_for (read_subscript n r) ≡ (e, s)
    → more ≡ done ++ tree.subscript e ∷ [] → show_as (λ y. more ++ suffixes_stand_for y) (further n s) ≡ (all, t) → show_as (λ y. done ++ suffixes_stand_for y) (suffixes n r) ≡ (all, t)
unfolding suffixes read_subscript further
suffixes_subscript n r s t done more all e b seen hit first more_is last =
    ap (show_as (λ y. done ++ suffixes_stand_for y)) (either_hit is_bracket _ _ r b seen hit)
    ∙ ap (λ (z : ExpressionTree × Reader). (done ++ tree.subscript z.0 ∷ suffixes_stand_for (further n z.1).0, (further n z.1).1)) first
    ∙ ap (λ l. (l, (further n s).1)) (sym (append_assoc done (tree.subscript e ∷ []) (suffixes_stand_for (further n s).0)))
    ∙ ap (λ l. show_as (λ y. l ++ suffixes_stand_for y) (further n s)) (sym more_is) ∙ last

pub suffixes_field : (n : ℕ) (r s t u : Reader) (done more all : List SuffixTree) (m : Named) (b : Bool) → b ≡ sees is_bracket r → b ≡ false → expect_token (sign (codes ".")) r ≡ (tt, s) → name s ≡ (m, t)
    → more ≡ done ++ tree.field m ∷ [] → show_as (λ y. more ++ suffixes_stand_for y) (further n t) ≡ (all, u) → show_as (λ y. done ++ suffixes_stand_for y) (suffixes n r) ≡ (all, u)
unfolding suffixes further
suffixes_field n r s t u done more all m b seen missed first second more_is last =
    ap (show_as (λ y. done ++ suffixes_stand_for y)) (either_missed is_bracket _ _ r b seen missed)
    ∙ ap (λ (z : Named × Reader). (done ++ tree.field z.0 ∷ suffixes_stand_for (further n z.1).0, (further n z.1).1)) (behind_plain (sign (codes ".")) name r s t m first second)
    ∙ ap (λ l. (l, (further n t).1)) (sym (append_assoc done (tree.field m ∷ []) (suffixes_stand_for (further n t).0)))
    ∙ ap (λ l. show_as (λ y. l ++ suffixes_stand_for y) (further n t)) (sym more_is) ∙ last

pub further_none : (n : ℕ) (r : Reader) (done : List SuffixTree) (b : Bool) → b ≡ sees is_suffix r → b ≡ false → show_as (λ y. done ++ suffixes_stand_for y) (further n r) ≡ (done, r)
unfolding further
further_none n r done b seen missed =
    ap (show_as (λ y. done ++ suffixes_stand_for y)) (either_missed is_suffix (openers n).suffixes (nothing no_suffixes) r b seen missed) ∙ ap (λ l. (l, r)) (append-nil done)

pub further_deep : (n : ℕ) (r s t : Reader) (done more : List SuffixTree) (m : Named) (b : Bool) → n ≡ 0 → b ≡ sees is_suffix r → b ≡ true → s ≡ stopped_by TooDeep r.stop r.rest r.end → name s ≡ (m, t)
    → more ≡ done ++ tree.field m ∷ [] → show_as (λ y. done ++ suffixes_stand_for y) (further n r) ≡ (more, t)
unfolding further openers
further_deep n r s t done more m b none seen hit s_is is more_is =
    ap (λ k. show_as (λ y. done ++ suffixes_stand_for y) (further k r)) none
    ∙ ap (show_as (λ y. done ++ suffixes_stand_for y)) (either_hit is_suffix none_left.suffixes (nothing no_suffixes) r b seen hit)
    ∙ ap (λ (z : Named × Reader). (done ++ tree.field z.0 ∷ [], z.1)) (name_behind_stop TooDeep r s t m s_is is)
    ∙ ap (λ l. (l, t)) (sym more_is)

pub further_more : (n m : ℕ) (r : Reader) (done : List SuffixTree) (x : List SuffixTree × Reader) (b : Bool) → n ≡ suc m → b ≡ sees is_suffix r → b ≡ true
    → show_as (λ y. done ++ suffixes_stand_for y) (suffixes m r) ≡ x → show_as (λ y. done ++ suffixes_stand_for y) (further n r) ≡ x
unfolding further openers suffixes
further_more n m r done x b more seen hit last =
    ap (λ k. show_as (λ y. done ++ suffixes_stand_for y) (further k r)) more
    ∙ ap (show_as (λ y. done ++ suffixes_stand_for y)) (either_hit is_suffix (openers_within (openers m)).suffixes (nothing no_suffixes) r b seen hit)
    ∙ last

-- Lists.

pub list_deep : (n : ℕ) (r s : Reader) (es : List ExpressionTree) → n ≡ 0 → s ≡ stopped_by TooDeep r.stop r.rest r.end → es ≡ [] → show_as (map stands_for) (list n r) ≡ (es, s)
unfolding list openers
list_deep n r s es none s_is empty = ap (λ k. show_as (map stands_for) (list k r)) none ∙ (λ i. (sym empty i, sym s_is i))

pub list_is : (n m : ℕ) (r s t u : Reader) (es : List ExpressionTree) → n ≡ suc m → expect_token (sign (codes "[")) r ≡ (tt, s) → show_as (map stands_for) (items_within m s) ≡ (es, t) → expect_token (sign (codes "]")) t ≡ (tt, u)
    → show_as (map stands_for) (list n r) ≡ (es, u)
unfolding list openers items_within
list_is n m r s t u es more first second third =
    ap (λ k. show_as (map stands_for) (list k r)) more
    ∙ ap (λ (z : Unit {0} × Reader). (map stands_for (items_within m z.1).0, (expect_token (sign (codes "]")) (items_within m z.1).1).1)) first
    ∙ ap (λ (z : List ExpressionTree × Reader). (z.0, (expect_token (sign (codes "]")) z.1).1)) second
    ∙ ap (λ (z : Unit {0} × Reader). (es, z.1)) third

abbrev item_by : ℕ → Reader → Written × Reader
item_by n = behind comma_sign (read_chain n of.Expression)

-- the items so far and those that follow
abbrev pub items_go_on : ℕ → List ExpressionTree → Reader → List ExpressionTree × Reader
items_go_on n done r = (done ++ map stands_for (repeat_while is_comma (item_by n) r).0, (repeat_while is_comma (item_by n) r).1)

shrinks_item : (n : ℕ) → Shrinks is_comma (item_by n)
unfolding read_chain
shrinks_item n = shrinks_behind comma_sign (sound_expression (sound_openers n))

pub items_none : (n : ℕ) (r : Reader) (es : List ExpressionTree) (b : Bool) → b ≡ sees (is_lexeme (sign (codes "]"))) r → b ≡ true → es ≡ [] → show_as (map stands_for) (items_within n r) ≡ (es, r)
unfolding items_within
items_none n r es b seen hit empty =
    ap (show_as (map stands_for)) (either_hit (is_lexeme (sign (codes "]"))) (nothing []) (comma_list (expression_with (openers n))) r b seen hit) ∙ ap (λ l. (l, r)) (sym empty)

pub items_some : (n : ℕ) (r s : Reader) (e : ExpressionTree) (none more : List ExpressionTree) (b : Bool) → b ≡ sees (is_lexeme (sign (codes "]"))) r → b ≡ false → show_as stands_for (read_chain n of.Expression r) ≡ (e, s)
    → none ≡ [] → more ≡ none ++ e ∷ [] → show_as (map stands_for) (items_within n r) ≡ items_go_on n more s
unfolding items_within read_chain
items_some n r s e none more b seen missed is empty more_is =
    ap (show_as (map stands_for)) (either_missed (is_lexeme (sign (codes "]"))) (nothing []) (comma_list (expression_with (openers n))) r b seen missed)
    ∙ ap (λ (z : ExpressionTree × Reader). (z.0 ∷ map stands_for (repeat_while is_comma (item_by n) z.1).0, (repeat_while is_comma (item_by n) z.1).1)) is
    ∙ ap (λ l. items_go_on n l s) (sym (more_is ∙ ap (λ l. l ++ e ∷ []) empty))

pub items_step : (n : ℕ) (all : List ExpressionTree × Reader) (r s t : Reader) (e : ExpressionTree) (done more : List ExpressionTree) (b : Bool) → all ≡ items_go_on n done r → b ≡ sees is_comma r → b ≡ true
    → expect_token comma_sign r ≡ (tt, s) → show_as stands_for (read_chain n of.Expression s) ≡ (e, t) → more ≡ done ++ e ∷ [] → all ≡ items_go_on n more t
items_step n all r s t e done more b so_far seen hit first second more_is =
    so_far
    ∙ ap (λ (y : List Written × Reader). (done ++ map stands_for y.0, y.1)) (repeated_sees is_comma (item_by n) (shrinks_item n) r (sym seen ∙ hit))
    ∙ ap (λ (z : ExpressionTree × Reader). (done ++ z.0 ∷ map stands_for (repeat_while is_comma (item_by n) z.1).0, (repeat_while is_comma (item_by n) z.1).1))
    (behind_shown stands_for comma_sign (read_chain n of.Expression) r s t e first second)
    ∙ ap (λ l. (l, (repeat_while is_comma (item_by n) t).1)) (sym (append_assoc done (e ∷ []) (map stands_for (repeat_while is_comma (item_by n) t).0)))
    ∙ ap (λ l. items_go_on n l t) (sym more_is)

pub items_shorter : (n : ℕ) (r s t : Reader) (e : ExpressionTree) (b : Bool) → b ≡ sees is_comma r → b ≡ true → expect_token comma_sign r ≡ (tt, s) → show_as stands_for (read_chain n of.Expression s) ≡ (e, t)
    → length t.rest < length r.rest
items_shorter n r s t e b seen hit first second =
    subst (λ (u : Reader). length u.rest < length r.rest) (ap (λ (z : ExpressionTree × Reader). z.1) (behind_shown stands_for comma_sign (read_chain n of.Expression) r s t e first second))
    (shrinks_item n r (sym seen ∙ hit))

pub items_end : (n : ℕ) (all : List ExpressionTree × Reader) (r : Reader) (done : List ExpressionTree) (b : Bool) → all ≡ items_go_on n done r → b ≡ sees is_comma r → b ≡ false → all ≡ (done, r)
items_end n all r done b so_far seen missed =
    so_far ∙ ap (λ (y : List Written × Reader). (done ++ map stands_for y.0, y.1)) (repeated_none is_comma (item_by n) r (sym seen ∙ missed)) ∙ ap (λ l. (l, r)) (append-nil done)
