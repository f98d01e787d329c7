-- What opens levels, at each number of levels: expressions and places are read soundly, completely and no deeper.
use Rattle.std.proofs.Common.{◌≡◌, ℕ, zero, suc, ◌<◌, ◌≤◌, Bool, true, false, ◌||◌, List, [], ◌∷◌, ◌++◌, length, refl, sym, ◌∙◌, ap, subst, arith, append_assoc}
use Rattle.std.specs.Prelude.{Option, Some, None, codes}
use Rattle.circus_text.specs.declared.token.TokenKind.TheVariants.{Word}
use Rattle.circus_text.specs.Token.{Lexeme, IsSpelling}
use Rattle.circus_syntax.specs.declared.stopping.StopCause.{StopCause}
use Rattle.circus_syntax.specs.declared.stopping.StopCause.TheVariants.{Unexpected, TooDeep}
use Rattle.circus_syntax.specs.Reserved.{is_reserved, reserved_words}
use Rattle.circus_syntax.specs.Placed.{Placed, first, word, sign, is_lexeme, Due, due, due_name, open_level, AreWithin, AreDue}
use Rattle.circus_syntax.specs.Reader.{Reader, passes, next, stop_reading, nothing, both, map_read, either, either_case}
use Rattle.circus_syntax.specs.Reading.{expect_token, fixed_at, name, filled_name, behind, comma_list}
use Rattle.circus_syntax.specs.Spelling.{each, with_commas, comma, IsListed, IsEach}
use Rattle.circus_syntax.proofs.Opened.{StandsDeeper}
use Rattle.circus_syntax.proofs.Sound.{Sound, reader, AreDue-split, AreDue-none, sound_nothing, sound_mapped, sound_both, sound_opened, sound_cased}
use Rattle.circus_syntax.proofs.Repeats.{Shrinks, sound_either, sound_optional}
use Rattle.circus_syntax.proofs.Complete.{Any, Opens}
use Rattle.circus_syntax.proofs.Tokens.{sound_fixed, sound_fixed_at, sound_name, sound_number, sound_quoted, sound_behind, sound_listed, is_comma, opens_due, shrinks_both, shrinks_at, shrinks_fixed, shrinks_behind}
use Rattle.circus_syntax.proofs.Levels.{levels_at, levels_nothing, levels_too_deep}
use Rattle.circus_syntax.proofs.Widens.{calm_of}
use Rattle.circus_syntax.proofs.Lawful.{Lawful, Branch, branch_of, lawful_at, lawful_weaker, lawful_fixed, lawful_fixed_at, lawful_both, lawful_then, lawful_mapped, lawful_opened, sound_stopped, without_level, lawful_too_deep, lawful_cased, lawful_required, lawful_listed, sound_good}
use Rattle.circus_expression.specs.declared.operator.Chain.{Chain}
use Rattle.circus_expression.specs.declared.operator.Chain.TheVariants as of
use Rattle.circus_expression.specs.declared.starts.PrimaryStart.{PrimaryStart}
use Rattle.circus_expression.specs.declared.starts.PrimaryStart.TheVariants as begins
use Rattle.circus_expression.specs.Operators.{lexeme_of}
use Rattle.circus_expression.specs.Written.{Written, Links, WrittenSuffixes, written_list, chain, negation, comparison, is_arm, minus, number, text, truth, parentheses, length_of, label, arm, items, place, no_links, link, no_suffixes, field, subscript, spelling, spelling_links, spelling_argument, spelling_list, spelling_items, spelling_more_items, spelling_suffixes, production_of_chain, operand_of, IsWritten, AreLinks, AreSuffixes}
use Rattle.circus_expression.specs.ExpressionReading.{filler, first_operator, joint, joins, Openers, expect_where, is_bracket, is_parenthesis, is_hash, is_suffix, further_suffixes, suffixes_with, any_suffixes, is_dot, listing, labelled, built_with, builds, goes_on, built_of_both, follows, second, second_with, Following, by_hash, by_dot, by_neither, following_of, behind_name, name_with_tail, named_with, start_of_primary, primary_by, is_minus, factor_with, links_with, chain_of, chain_with, sum_with, alone, compared, arm_named, with_relation, Relating, comparing, naming, ending, relating_of, related_by, relation_with, is_not, negated_with, operand_with, expression_with, in_brackets, items_with, openers_within, none_left, openers}
use Rattle.circus_expression.proofs.Follows.{first_joins, lawful_joint, lawful_compares, shrinks_joint, Stays, grip_of, grip_due, comma_stays, along, at}
use Rattle.circus_expression.proofs.Productions.{IsOf, AreSome, AreSomeSuffixes, AreAll, spelling_subscript, Opened, LawfulOpeners, is_length, IsNegation, IsMinus, IsParenthesized, IsLength, some_suffixes, spelling_made, spelling_built, IsBuilt, spelling_second, IsSecond, spelling_behind, IsBehind, behind_good, second_spelled, second_kept, named_spelled, named_kept, named_good, some_links, chain_spelled, chain_kept, spelling_related, IsRelated, related_spelled, related_kept, clash_at, name_no_sign, no_lead, lawful_suffixes, lawful_factor, lawful_negated, lawful_operand, lawful_links, lawful_expression}

-- What is sound.

pub record SoundOpeners (o : Openers) : Type 0 where
  pub negation : Sound o.negation spelling (IsOf 2)
  pub minus : Sound o.minus spelling (IsOf 6)
  pub parentheses : Sound o.parentheses spelling (IsOf 7)
  pub length : Sound o.length spelling (IsOf 7)
  pub argument : Sound o.argument spelling_argument IsWritten
  pub subscript : Sound o.subscript spelling_subscript IsWritten
  pub list : Sound o.list spelling_list AreAll
  pub links : (c : Chain) → Sound (o.links c) (λ ls. open_level (spelling_links ls)) (AreSome c)
  pub suffixes : Sound o.suffixes (λ ss. open_level (spelling_suffixes ss)) AreSomeSuffixes

sound_further : {o : Openers} → SoundOpeners o → Sound (further_suffixes o) (λ ss. open_level (spelling_suffixes ss)) AreSuffixes
sound_further S = sound_either is_suffix (sound_good AreSuffixes some_suffixes S.suffixes) (sound_nothing no_suffixes (λ ss. open_level (spelling_suffixes ss)) AreSuffixes tt refl)

sound_suffixes : {o : Openers} → SoundOpeners o → Sound (suffixes_with o) spelling_suffixes AreSomeSuffixes
sound_suffixes S =
    sound_either is_bracket
    (sound_mapped (λ x. subscript x.0 x.1) spelling_suffixes AreSomeSuffixes (λ x. refl) (λ x g. g) (sound_both S.subscript (sound_further S)))
    (sound_mapped (λ x. field x.0 x.1) spelling_suffixes AreSomeSuffixes (λ x. refl) (λ x g. g) (sound_both (sound_behind (sign (codes ".")) sound_name) (sound_further S)))

pub sound_any_suffixes : {o : Openers} → SoundOpeners o → Sound (any_suffixes o) spelling_suffixes AreSuffixes
sound_any_suffixes S = sound_either is_suffix (sound_good AreSuffixes some_suffixes (sound_suffixes S)) (sound_nothing no_suffixes spelling_suffixes AreSuffixes tt refl)

sound_built : {o : Openers} → SoundOpeners o → Sound (built_with o) spelling_built IsBuilt
sound_built S =
    sound_behind (sign (codes "#"))
    (sound_either is_bracket (sound_mapped listing spelling_made IsBuilt (λ x. refl) (λ x g. g) S.list)
    (sound_mapped (λ x. labelled x.0 x.1) spelling_made IsBuilt (λ x. refl) (λ x g. g) (sound_both sound_name (sound_optional is_parenthesis S.argument))))

sound_second : {o : Openers} → SoundOpeners o → Sound (second_with o) spelling_behind IsBehind
sound_second S =
    sound_mapped (λ x. second x.0 x.1) spelling_behind IsBehind second_spelled (λ x g. behind_good by_dot (second x.0 x.1) (second_kept x g))
    (sound_both (sound_behind (sign (codes ".")) sound_name)
    (sound_either is_hash (sound_mapped built_of_both spelling_second IsSecond (λ x. refl) (λ x g. g) (sound_built S)) (sound_mapped follows spelling_second IsSecond (λ x. refl) (λ x g. g) (sound_further S))))

sound_behind_name : {o : Openers} → SoundOpeners o → (k : Following) → Sound (behind_name o k) spelling_behind IsBehind
sound_behind_name S by_hash = sound_mapped (builds None) spelling_behind IsBehind (λ x. refl) (λ x g. (tt, g)) (sound_built S)
sound_behind_name S by_dot = sound_second S
sound_behind_name S by_neither = sound_mapped goes_on spelling_behind IsBehind (λ x. refl) (λ x g. g) (sound_any_suffixes S)

sound_named : {o : Openers} → SoundOpeners o → Sound (named_with o) spelling (IsOf 7)
sound_named {o} S =
    sound_mapped (λ x. name_with_tail x.0 x.1) spelling (IsOf 7) named_spelled (λ x g. named_good (name_with_tail x.0 x.1) (named_kept x g))
    (sound_both sound_name (sound_cased following_of (behind_name o) (sound_behind_name S)))

sound_primary_by : {o : Openers} → SoundOpeners o → (k : PrimaryStart) → Sound (primary_by o k) spelling (IsOf 7)
sound_primary_by S begins.Number = sound_mapped number spelling (IsOf 7) (λ x. refl) (λ x g. (omega arith, g)) sound_number
sound_primary_by S begins.Text = sound_mapped (λ x. text x.0 x.1) spelling (IsOf 7) (λ x. refl) (λ x g. (omega arith, g)) sound_quoted
sound_primary_by S begins.True = sound_mapped (truth true) spelling (IsOf 7) (λ x. refl) (λ x g. (omega arith, tt)) (sound_fixed_at (word (codes "TRUE")))
sound_primary_by S begins.False = sound_mapped (truth false) spelling (IsOf 7) (λ x. refl) (λ x g. (omega arith, tt)) (sound_fixed_at (word (codes "FALSE")))
sound_primary_by S begins.Parenthesis = S.parentheses
sound_primary_by S begins.Length = S.length
sound_primary_by S begins.Name = sound_named S

sound_factor : {o : Openers} → SoundOpeners o → Sound (factor_with o) spelling (IsOf 6)
sound_factor {o} S =
    sound_either is_minus S.minus (sound_good (IsOf 6) (λ w g. (omega (arith, g.0), g.1)) (sound_cased start_of_primary (primary_by o) (sound_primary_by S)))

sound_links : (c : Chain) {p : Reader → Written × Reader} {o : Openers} → SoundOpeners o → Sound p spelling (IsOf (operand_of c)) → Sound (links_with c p o) spelling_links (AreSome c)
sound_links c S P =
    sound_mapped (λ x. link x.0 x.1.0 x.1.1) spelling_links (AreSome c) (λ x. refl) (λ x g. (g.0, g.1.0.0, g.1.0.1, g.1.1))
    (sound_both (lawful_joint 0 c).narrow
    (sound_both P (sound_either (joins c) (sound_good (AreLinks c) (some_links c) (S.links c)) (sound_nothing no_links (λ ls. open_level (spelling_links ls)) (AreLinks c) tt refl))))

sound_chain : (c : Chain) {p : Reader → Written × Reader} {o : Openers} → SoundOpeners o → Sound p spelling (IsOf (operand_of c)) → Sound (chain_with c p o) spelling (IsOf (production_of_chain c))
sound_chain c S P =
    sound_mapped (λ x. chain_of c x.0 x.1) spelling (IsOf (production_of_chain c)) (chain_spelled c) (chain_kept c)
    (sound_both P (sound_either (joins c) (sound_good (AreLinks c) (some_links c) (sound_links c S P)) (sound_nothing no_links spelling_links (AreLinks c) tt refl)))

sound_sum : {o : Openers} → SoundOpeners o → Sound (sum_with o) spelling (IsOf 4)
sound_sum S = sound_chain of.Sum S (sound_chain of.Term S (sound_factor S))

sound_related_by : {o : Openers} → SoundOpeners o → (k : Relating) → Sound (related_by o k) spelling_related IsRelated
sound_related_by S comparing = sound_mapped (λ x. compared x.0 x.1) spelling_related IsRelated (λ x. refl) (λ x g. g) (sound_both (lawful_compares 0).narrow (sound_sum S))
sound_related_by S naming = sound_mapped arm_named spelling_related IsRelated (λ x. refl) (λ x g. g) (sound_behind (word (codes "IS")) sound_name)
sound_related_by S ending = sound_nothing alone spelling_related IsRelated tt refl

sound_relation : {o : Openers} → SoundOpeners o → Sound (relation_with o) spelling (IsOf 3)
sound_relation {o} S =
    sound_mapped (λ x. with_relation x.0 x.1) spelling (IsOf 3) related_spelled related_kept (sound_both (sound_sum S) (sound_cased relating_of (related_by o) (sound_related_by S)))

sound_negated : {o : Openers} → SoundOpeners o → Sound (negated_with o) spelling (IsOf 2)
sound_negated S = sound_either is_not S.negation (sound_good (IsOf 2) (λ w g. (omega (arith, g.0), g.1)) (sound_relation S))

sound_operand : {o : Openers} → SoundOpeners o → (c : Chain) → Sound (operand_with o c) spelling (IsOf (operand_of c))
sound_operand S of.Expression = sound_chain of.Conjunct S (sound_negated S)
sound_operand S of.Conjunct = sound_negated S
sound_operand S of.Sum = sound_chain of.Term S (sound_factor S)
sound_operand S of.Term = sound_factor S

pub sound_expression : {o : Openers} → SoundOpeners o → Sound (expression_with o) spelling IsWritten
sound_expression S = sound_good IsWritten (λ w g. g.1) (sound_chain of.Expression S (sound_operand S of.Expression))

-- Lists.

abbrev spelling_each : List Written → List Due
spelling_each ws = spelling_items (written_list ws)

more_items_spelled : (ws : List Written) → spelling_more_items (written_list ws) ≡ each (λ w. comma ∷ spelling w) ws
more_items_spelled [] = refl
more_items_spelled (w ∷ ws) = ap (λ l. comma ∷ (spelling w ++ l)) (more_items_spelled ws)

items_spelled : (ws : List Written) → spelling_each ws ≡ with_commas spelling ws
items_spelled [] = refl
items_spelled (w ∷ ws) = ap (λ l. spelling w ++ l) (more_items_spelled ws)

pub all_each : (ws : List Written) → AreAll ws → IsEach IsWritten ws
all_each [] good = tt
all_each (w ∷ ws) good = (good.0, all_each ws good.1)

pub each_all : (ws : List Written) → IsEach IsWritten ws → AreAll ws
each_all [] good = tt
each_all (w ∷ ws) good = (good.0, each_all ws good.1)

listed_all : (ws : List Written) → IsListed IsWritten ws → AreAll ws
listed_all [] good = absurd good
listed_all (w ∷ ws) good = each_all (w ∷ ws) good

sound_items : {o : Openers} → SoundOpeners o → Sound (items_with o) spelling_each AreAll
sound_items S =
    sound_either (is_lexeme (sign (codes "]"))) (sound_nothing [] spelling_each AreAll tt refl)
    (sound_mapped (λ ws. ws) spelling_each AreAll items_spelled listed_all (sound_listed (sound_expression S)))

-- What fills in.

x_is_free : is_reserved (codes "x") ≡ false
unfolding is_reserved reserved_words
x_is_free = refl

x_is_word : IsSpelling Word (codes "x")
x_is_word = record { formed = (refl, refl); no_bad_byte = refl; no_long_number = refl }

abbrev x_at : ℕ → Placed
x_at p = record { kind = Word; bytes = codes "x"; start = p }

filled_good : (p : ℕ) → IsWritten (filler p)
filled_good p = ((x_is_word, x_is_free), tt)

sound_filled : (cause : StopCause) (k : ℕ) → k ≤ 7 → Sound (stop_reading cause filler) spelling (IsOf k)
sound_filled cause k few = sound_stopped cause filler spelling (IsOf k) (λ p. ((omega arith, filled_good p), x_at p ∷ [], (refl, tt), ((refl, refl, refl), tt)))

sound_filled_argument : (cause : StopCause) → Sound (stop_reading cause filler) spelling_argument IsWritten
sound_filled_argument cause =
    sound_stopped cause filler spelling_argument IsWritten
    (λ p. (filled_good p, at (sign (codes "(")) p ∷ x_at p ∷ at (sign (codes ")")) p ∷ [], (refl, (refl, (refl, tt))), ((refl, refl), ((refl, refl, refl), ((refl, refl), tt)))))

sound_filled_subscript : (cause : StopCause) → Sound (stop_reading cause filler) spelling_subscript IsWritten
sound_filled_subscript cause =
    sound_stopped cause filler spelling_subscript IsWritten
    (λ p. (filled_good p, at (sign (codes "[")) p ∷ x_at p ∷ at (sign (codes "]")) p ∷ [], (refl, (refl, (refl, tt))), ((refl, refl), ((refl, refl, refl), ((refl, refl), tt)))))

pub sound_filled_list : (cause : StopCause) → Sound (stop_reading cause (λ p. [])) spelling_list AreAll
sound_filled_list cause =
    sound_stopped cause (λ p. []) spelling_list AreAll (λ p. (tt, at (sign (codes "[")) p ∷ at (sign (codes "]")) p ∷ [], (refl, (refl, tt)), ((refl, refl), ((refl, refl), tt))))

sound_filled_links : (cause : StopCause) (c : Chain) → Sound (stop_reading cause (λ p. link (first_operator c) (filler p) no_links)) (λ ls. open_level (spelling_links ls)) (AreSome c)
sound_filled_links cause c =
    sound_stopped cause (λ p. link (first_operator c) (filler p) no_links) (λ ls. open_level (spelling_links ls)) (AreSome c)
    (λ p. ((first_joins c, operand_few c, filled_good p, tt), at (lexeme_of (first_operator c)) p ∷ x_at p ∷ [], (refl, (refl, tt)), ((refl, refl), ((refl, refl, refl), tt))))
  where
    operand_few : (c : Chain) → operand_of c ≤ 7
    operand_few of.Expression = omega arith
    operand_few of.Conjunct = omega arith
    operand_few of.Sum = omega arith
    operand_few of.Term = omega arith

sound_filled_suffixes : (cause : StopCause) → Sound (stop_reading cause (λ p. field (filled_name p) no_suffixes)) (λ ss. open_level (spelling_suffixes ss)) AreSomeSuffixes
sound_filled_suffixes cause =
    sound_stopped cause (λ p. field (filled_name p) no_suffixes) (λ ss. open_level (spelling_suffixes ss)) AreSomeSuffixes
    (λ p. (((x_is_word, x_is_free), tt), at (sign (codes ".")) p ∷ x_at p ∷ [], (refl, (refl, tt)), ((refl, refl), ((refl, refl, refl), tt))))

sound_opening : {o : Openers} → SoundOpeners o → SoundOpeners (openers_within o)
sound_opening {o} S = record {
  negation =
      sound_mapped (λ x. negation x.0 x.1) spelling (IsOf 2) (λ x. refl) (λ x g. (omega arith, g.1)) (sound_opened (sound_both (sound_fixed_at (word (codes "NOT"))) (sound_negated S)));
  minus = sound_mapped (λ x. minus x.0 x.1) spelling (IsOf 6) (λ x. refl) (λ x g. (omega arith, g.1)) (sound_opened (sound_both (sound_fixed_at (sign (codes "-"))) (sound_factor S)));
  parentheses =
      sound_mapped (λ x. parentheses x.0 x.1.0) spelling (IsOf 7) (λ x. refl) (λ x g. (omega arith, g.1.0))
      (sound_opened (sound_both (sound_fixed_at (sign (codes "("))) (sound_both (sound_expression S) (sound_fixed (sign (codes ")"))))));
  length =
      sound_mapped (λ x. length_of x.0 x.1) spelling (IsOf 7) (λ x. refl) (λ x g. (omega arith, g.1))
      (sound_opened (sound_both (sound_fixed_at (word (codes "LENGTH"))) (sound_either is_parenthesis S.argument (sound_filled_argument Unexpected))));
  argument =
      sound_mapped (λ x. x.1.0) spelling_argument IsWritten (λ x. refl) (λ x g. g.1.0)
      (sound_opened (sound_both (sound_fixed (sign (codes "("))) (sound_both (sound_expression S) (sound_fixed (sign (codes ")"))))));
  subscript =
      sound_mapped (λ x. x.1.0) spelling_subscript IsWritten (λ x. refl) (λ x g. g.1.0)
      (sound_opened (sound_both (sound_fixed (sign (codes "["))) (sound_both (sound_expression S) (sound_fixed (sign (codes "]"))))));
  list =
      sound_mapped (λ x. x.1.0) spelling_list AreAll (λ x. refl) (λ x g. g.1.0)
      (sound_opened (sound_both (sound_fixed (sign (codes "["))) (sound_both (sound_items S) (sound_fixed (sign (codes "]"))))));
  links = λ c. sound_opened (sound_links c S (sound_operand S c));
  suffixes = sound_opened (sound_suffixes S);
}

sound_none_left : SoundOpeners none_left
sound_none_left = record {
  negation = sound_filled TooDeep 2 (omega arith);
  minus = sound_filled TooDeep 6 (omega arith);
  parentheses = sound_filled TooDeep 7 (omega arith);
  length = sound_filled TooDeep 7 (omega arith);
  argument = sound_filled_argument TooDeep;
  subscript = sound_filled_subscript TooDeep;
  list = sound_filled_list TooDeep;
  links = sound_filled_links TooDeep;
  suffixes = sound_filled_suffixes TooDeep;
}

pub sound_openers : (n : ℕ) → SoundOpeners (openers n)
unfolding openers
sound_openers zero = sound_none_left
sound_openers (suc n) = sound_opening (sound_openers n)

-- What is lawful, with a level more.

opened_of : (test : Placed → Bool) (k n : ℕ) {p q : Reader → Written × Reader} {Is : Written → Type 0} (Good : Written → Type 0) → ((w : Written) → Is w → Good w)
    → Lawful n p q spelling Is (Stays k) → Opened test k n p q Good Is
opened_of test k n Good good L = record { narrow = sound_good Good good L.narrow; wide = sound_good Good good L.wide; complete = L.complete; levels = levels_at test n L.levels }

any_stays : {A : Type 0} (k n : ℕ) {p q : Reader → A × Reader} {spell : A → List Due} {Good : A → Type 0} → Lawful n p q spell Good Any → Lawful n p q spell Good (Stays k)
any_stays k n L = lawful_weaker n (Stays k) (λ t stays. tt) L

negation_back : (w : Written) → IsNegation w → (x : ℕ × Written) × (negation x.0 x.1 ≡ w) × (Unit {0} × IsOf 2 x.1)
negation_back (negation p w) is = ((p, w), refl, (tt, is))
negation_back _ is = absurd is

minus_back : (w : Written) → IsMinus w → (x : ℕ × Written) × (minus x.0 x.1 ≡ w) × (Unit {0} × IsOf 6 x.1)
minus_back (minus p w) is = ((p, w), refl, (tt, is))
minus_back _ is = absurd is

parenthesized_back : (w : Written) → IsParenthesized w → (x : ℕ × (Written × Unit {0})) × (parentheses x.0 x.1.0 ≡ w) × (Unit {0} × (IsWritten x.1.0 × Unit {0}))
parenthesized_back (parentheses p w) is = ((p, (w, tt)), refl, (tt, (is, tt)))
parenthesized_back _ is = absurd is

length_back : (w : Written) → IsLength w → (x : ℕ × Written) × (length_of x.0 x.1 ≡ w) × (Unit {0} × IsWritten x.1)
length_back (length_of p w) is = ((p, w), refl, (tt, is))
length_back _ is = absurd is

negation_good : (w : Written) → IsNegation w → IsOf 2 w
negation_good (negation p w) is = (omega arith, is)
negation_good _ is = absurd is

minus_good : (w : Written) → IsMinus w → IsOf 6 w
minus_good (minus p w) is = (omega arith, is)
minus_good _ is = absurd is

parenthesized_good : (w : Written) → IsParenthesized w → IsOf 7 w
parenthesized_good (parentheses p w) is = (omega arith, is)
parenthesized_good _ is = absurd is

length_good : (w : Written) → IsLength w → IsOf 7 w
length_good (length_of p w) is = (omega arith, is)
length_good _ is = absurd is

-- a closing sign ends an expression
closes : (l : Lexeme) → ((s : ℕ) → grip_of (at l s) ≡ 0) → (u : Unit {0}) (ts rest : List Placed) → AreDue (due l ∷ []) ts → Stays 0 (first (ts ++ rest))
closes l none u ts rest d = let binds = grip_due l 0 [] ts rest none d in omega arith

-- an expression in signs
lawful_enclosed : (n : ℕ) (before after : Lexeme) → ((s : ℕ) → grip_of (at after s) ≡ 0) → {o o' : Openers} → LawfulOpeners n o o'
    → Lawful n (both (expect_token before) (both (expression_with o) (expect_token after))) (both (expect_token before) (both (expression_with o') (expect_token after)))
    (λ x. due before ∷ (spelling x.1.0 ++ due after ∷ [])) (λ x. Unit {0} × (IsWritten x.1.0 × Unit {0})) Any
lawful_enclosed n before after none L =
    lawful_then n (lawful_fixed n before) (lawful_both n (lawful_expression n L) (lawful_fixed n after) (λ u ts rest g d stays. closes after none u ts rest d))

abbrev is_closing : Placed → Bool
is_closing = is_lexeme (sign (codes "]"))

closing_starts : (s : ℕ) → start_of_primary (Some (at (sign (codes "]")) s)) ≡ begins.Name
unfolding start_of_primary
closing_starts s = refl

-- no expression begins with a closing bracket
no_closing : (w : Written) (ts rest : List Placed) → IsWritten w → AreDue (spelling w) ts → passes is_closing (first (ts ++ rest)) ≡ false
no_closing (chain c w no_links) ts rest good d = absurd good
no_closing (chain c w (link o v ls)) ts rest good d =
    let (us, vs, same, front, back) = AreDue-split (spelling w) (spelling_links (link o v ls)) ts d in
    subst (λ (l : List Placed). passes is_closing (first l) ≡ false) (sym (ap (λ l. l ++ rest) same ∙ append_assoc us vs rest)) (no_closing w us (vs ++ rest) good.1 front)
no_closing (negation p w) ts rest good d = clash_at (word (codes "NOT")) p (open_level (spelling w)) ts rest is_closing (λ s. refl) d
no_closing (comparison a o b) ts rest good d =
    let (us, vs, same, front, back) = AreDue-split (spelling a) (due (lexeme_of o) ∷ spelling b) ts d in
    subst (λ (l : List Placed). passes is_closing (first l) ≡ false) (sym (ap (λ l. l ++ rest) same ∙ append_assoc us vs rest)) (no_closing a us (vs ++ rest) good.1 front)
no_closing (is_arm a m) ts rest good d =
    let (us, vs, same, front, back) = AreDue-split (spelling a) (due (word (codes "IS")) ∷ due_name m ∷ []) ts d in
    subst (λ (l : List Placed). passes is_closing (first l) ≡ false) (sym (ap (λ l. l ++ rest) same ∙ append_assoc us vs rest)) (no_closing a us (vs ++ rest) good.1 front)
no_closing (minus p w) ts rest good d = clash_at (sign (codes "-")) p (open_level (spelling w)) ts rest is_closing (λ s. refl) d
no_closing (number m) ts rest good d = no_lead (sign (codes "]")) closing_starts (name_no_sign (codes "]")) (number m) ts rest (omega arith, good) d
no_closing (text t p) ts rest good d = no_lead (sign (codes "]")) closing_starts (name_no_sign (codes "]")) (text t p) ts rest (omega arith, good) d
no_closing (truth b p) ts rest good d = no_lead (sign (codes "]")) closing_starts (name_no_sign (codes "]")) (truth b p) ts rest (omega arith, good) d
no_closing (parentheses p w) ts rest good d = no_lead (sign (codes "]")) closing_starts (name_no_sign (codes "]")) (parentheses p w) ts rest (omega arith, good) d
no_closing (length_of p w) ts rest good d = no_lead (sign (codes "]")) closing_starts (name_no_sign (codes "]")) (length_of p w) ts rest (omega arith, good) d
no_closing (label t m) ts rest good d = no_lead (sign (codes "]")) closing_starts (name_no_sign (codes "]")) (label t m) ts rest (omega arith, good) d
no_closing (arm t m w) ts rest good d = no_lead (sign (codes "]")) closing_starts (name_no_sign (codes "]")) (arm t m w) ts rest (omega arith, good) d
no_closing (items t ws) ts rest good d = no_lead (sign (codes "]")) closing_starts (name_no_sign (codes "]")) (items t ws) ts rest (omega arith, good) d
no_closing (place m ss) ts rest good d = no_lead (sign (codes "]")) closing_starts (name_no_sign (codes "]")) (place m ss) ts rest (omega arith, good) d

abbrev Closed : Option Placed → Type 0
Closed o = passes is_closing o ≡ true

closed_stays : (o : Option Placed) → Closed o → Stays 0 o
closed_stays None hit = absurd cc
closed_stays (Some t) hit = let none = along grip_of (sign (codes "]")) t hit in omega arith

closed_no_comma : (o : Option Placed) → Closed o → passes is_comma o ≡ false
closed_no_comma None hit = absurd cc
closed_no_comma (Some t) hit = along is_comma (sign (codes "]")) t hit

abbrev ItemsAre : Bool → List Written → Type 0
ItemsAre true [] = Unit {0}
ItemsAre true (w ∷ ws) = ⊥
ItemsAre false [] = ⊥
ItemsAre false (w ∷ ws) = AreAll (w ∷ ws)

items_good : (b : Bool) (ws : List Written) → ItemsAre b ws → AreAll ws
items_good true [] is = tt
items_good true (w ∷ ws) is = absurd is
items_good false [] is = absurd is
items_good false (w ∷ ws) is = is

listed_good : (ws : List Written) → IsListed IsWritten ws → ItemsAre false ws
listed_good [] good = absurd good
listed_good (w ∷ ws) good = each_all (w ∷ ws) good

items_back : (ws : List Written) → ItemsAre false ws → (x : List Written) × (x ≡ ws) × IsListed IsWritten x
items_back [] is = absurd is
items_back (w ∷ ws) is = (w ∷ ws, refl, all_each (w ∷ ws) is)

abbrev items_by : Openers → Bool → Reader → List Written × Reader
items_by o = either_case (nothing []) (comma_list (expression_with o))

lawful_items : (n : ℕ) {o o' : Openers} → LawfulOpeners n o o' → Lawful n (items_with o) (items_with o') spelling_each AreAll Closed
lawful_items n {o} {o'} L = lawful_cased (passes is_closing) n (items_by o) (items_by o') ItemsAre branches lists.levels.filled items_begin
  where
    lists : Lawful n (comma_list (expression_with o)) (comma_list (expression_with o')) spelling_each (ItemsAre false) Closed
    lists =
        lawful_weaker n Closed (λ t closed. (closed_stays t closed, closed_no_comma t closed))
        (lawful_mapped n (λ ws. ws) spelling_each (ItemsAre false) items_spelled listed_good items_back (lawful_listed n (comma_stays 0) (lawful_expression n L)))

    none : Sound (nothing []) spelling_each AreAll
    none = sound_nothing [] spelling_each AreAll tt refl

    ends : (ws : List Written) (ts rest : List Placed) (e : ℕ) → ItemsAre true ws × AreWithin n (spelling_each ws) → AreDue (spelling_each ws) ts → Closed (first rest)
        → nothing [] (reader None (ts ++ rest) e) ≡ (ws, reader None rest e)
    ends [] ts rest e good d closed = subst (λ (us : List Placed). nothing {A = List Written} [] (reader None (us ++ rest) e) ≡ ([], reader None rest e)) (sym (AreDue-none ts d)) refl
    ends (w ∷ ws) ts rest e good d closed = absurd good.0

    branches : (b : Bool) → Branch (passes is_closing) b n (items_by o b) (items_by o' b) spelling_each AreAll (ItemsAre b) Closed
    branches true = record { narrow = none; wide = none; complete = record { reads = ends }; reaches = λ ts e is. (levels_nothing n [] refl none).reaches ts e }
    branches false = branch_of (passes is_closing) false n AreAll (items_good false) lists

    items_begin : (ws : List Written) (ts rest : List Placed) → AreAll ws → AreDue (spelling_each ws) ts → Closed (first rest) → (b : Bool) × (passes is_closing (first (ts ++ rest)) ≡ b) × ItemsAre b ws
    items_begin [] ts rest good d closed = (true, subst (λ (us : List Placed). passes is_closing (first (us ++ rest)) ≡ true) (sym (AreDue-none ts d)) closed, tt)
    items_begin (w ∷ ws) ts rest good d closed =
        let (us, vs, same, front, back) = AreDue-split (spelling w) (spelling_more_items (written_list ws)) ts d in (
          false,
          subst (λ (l : List Placed). passes is_closing (first l) ≡ false) (sym (ap (λ l. l ++ rest) same ∙ append_assoc us vs rest)) (no_closing w us (vs ++ rest) good.0 front),
          good,
        )

open_argument : Opens spelling_argument IsWritten is_parenthesis
open_argument w ts rest good d = opens_due (sign (codes "(")) (open_level (spelling w ++ due (sign (codes ")")) ∷ [])) ts rest d

lawful_opening : (n : ℕ) {o o' : Openers} → LawfulOpeners n o o' → LawfulOpeners (suc n) (openers_within o) (openers_within o')
lawful_opening n {o} {o'} L = record {
  negation =
      opened_of is_not 2 (suc n) (IsOf 2) negation_good
      (lawful_mapped (suc n) (λ x. negation x.0 x.1) spelling IsNegation (λ x. refl) (λ x g. g.1) negation_back
      (lawful_opened n (lawful_then n (lawful_fixed_at n (word (codes "NOT"))) (lawful_negated n L))));
  minus =
      opened_of is_minus 6 (suc n) (IsOf 6) minus_good
      (lawful_mapped (suc n) (λ x. minus x.0 x.1) spelling IsMinus (λ x. refl) (λ x g. g.1) minus_back
      (lawful_opened n (lawful_then n (lawful_fixed_at n (sign (codes "-"))) (lawful_factor n L))));
  parentheses =
      opened_of is_parenthesis 7 (suc n) (IsOf 7) parenthesized_good
      (any_stays 7 (suc n)
      (lawful_mapped (suc n) (λ x. parentheses x.0 x.1.0) spelling IsParenthesized (λ x. refl) (λ x g. g.1.0) parenthesized_back
      (lawful_opened n
      (lawful_then n (lawful_fixed_at n (sign (codes "(")))
      (lawful_both n (lawful_expression n L) (lawful_fixed n (sign (codes ")"))) (λ u ts rest g d stays. closes (sign (codes ")")) (λ s. refl) u ts rest d))))));
  length =
      opened_of is_length 7 (suc n) (IsOf 7) length_good
      (any_stays 7 (suc n)
      (lawful_mapped (suc n) (λ x. length_of x.0 x.1) spelling IsLength (λ x. refl) (λ x g. g.1) length_back
      (lawful_opened n
      (lawful_then n (lawful_fixed_at n (word (codes "LENGTH"))) (lawful_required is_parenthesis n filler open_argument (sound_filled_argument Unexpected) L.argument)))));
  argument =
      lawful_at is_parenthesis (suc n)
      (lawful_mapped (suc n) (λ x. x.1.0) spelling_argument IsWritten (λ x. refl) (λ x g. g.1.0) (λ w g. ((tt, (w, tt)), refl, (tt, (g, tt))))
      (lawful_opened n (lawful_enclosed n (sign (codes "(")) (sign (codes ")")) (λ s. refl) L)));
  subscript =
      lawful_at is_bracket (suc n)
      (lawful_mapped (suc n) (λ x. x.1.0) spelling_subscript IsWritten (λ x. refl) (λ x g. g.1.0) (λ w g. ((tt, (w, tt)), refl, (tt, (g, tt))))
      (lawful_opened n (lawful_enclosed n (sign (codes "[")) (sign (codes "]")) (λ s. refl) L)));
  list =
      lawful_at is_bracket (suc n)
      (lawful_mapped (suc n) (λ x. x.1.0) spelling_list AreAll (λ x. refl) (λ x g. g.1.0) (λ w g. ((tt, (w, tt)), refl, (tt, (g, tt))))
      (lawful_opened n
      (lawful_then n (lawful_fixed n (sign (codes "[")))
      (lawful_both n (lawful_items n L) (lawful_fixed n (sign (codes "]"))) (λ u ts rest g d stays. opens_due (sign (codes "]")) [] ts rest d)))));
  links = λ c. lawful_at (joins c) (suc n) (lawful_opened n (lawful_links n c L (lawful_operand n L c)));
  suffixes = lawful_at is_suffix (suc n) (lawful_opened n (lawful_suffixes n L));
}

-- Where no level is left.

opened_too_deep : (test : Placed → Bool) (k : ℕ) {q : Reader → Written × Reader} {Good Is : Written → Type 0} → Sound (stop_reading TooDeep filler) spelling Good → Sound q spelling Good → Shrinks test q
    → ((r : Reader) → StandsDeeper 0 (spelling (q r).0) []) → ((w : Written) → Is w → StandsDeeper 0 (spelling w) []) → Opened test k 0 (stop_reading TooDeep filler) q Good Is
opened_too_deep test k S S' shrinks answers deep = record {
  narrow = S;
  wide = S';
  complete = record { reads = λ w ts rest e good d stays. absurd (without_level (spelling w) (deep w good.0) good.1) };
  levels = levels_too_deep test filler S (calm_of S') shrinks answers;
}

negation_deep : (w : Written) → IsNegation w → StandsDeeper 0 (spelling w) []
negation_deep (negation p w) is = omega arith
negation_deep _ is = absurd is

minus_deep : (w : Written) → IsMinus w → StandsDeeper 0 (spelling w) []
minus_deep (minus p w) is = omega arith
minus_deep _ is = absurd is

parenthesized_deep : (w : Written) → IsParenthesized w → StandsDeeper 0 (spelling w) []
parenthesized_deep (parentheses p w) is = omega arith
parenthesized_deep _ is = absurd is

length_deep : (w : Written) → IsLength w → StandsDeeper 0 (spelling w) []
length_deep (length_of p w) is = omega arith
length_deep _ is = absurd is

links_deep : (c : Chain) (ls : Links) → AreSome c ls → StandsDeeper 0 (open_level (spelling_links ls)) []
links_deep c no_links good = absurd good
links_deep c (link o w ls) good = omega arith

suffixes_deep : (ss : WrittenSuffixes) → AreSomeSuffixes ss → StandsDeeper 0 (open_level (spelling_suffixes ss)) []
suffixes_deep no_suffixes good = absurd good
suffixes_deep (field n ss) good = omega arith
suffixes_deep (subscript w ss) good = omega arith

-- suffixes of which a subscript may open its level
suffixes_answer : (o : Openers) (r : Reader) → StandsDeeper 0 (open_level (spelling_suffixes (suffixes_with o r).0)) []
suffixes_answer o r = by_test (passes is_bracket (next r))
  where
    by_test : (b : Bool) → StandsDeeper 0 (open_level (spelling_suffixes (either_case (map_read (λ x. subscript x.0 x.1) (both o.subscript (further_suffixes o))) (map_read (λ x. field x.0 x.1) (both (behind (sign (codes ".")) name) (further_suffixes o))) b r).0)) []
    by_test true = omega arith
    by_test false = omega arith

suffix_of : (o : Option Placed) → passes is_suffix o ≡ true → passes is_bracket o ≡ false → passes is_dot o ≡ true
suffix_of None hit missed = absurd cc
suffix_of (Some t) hit missed = by_tests (is_dot t) (is_bracket t) hit missed
  where
    by_tests : (a b : Bool) → a || b ≡ true → b ≡ false → a ≡ true
    by_tests true b hit missed = refl
    by_tests false true hit missed = absurd cc
    by_tests false false hit missed = absurd cc

shrinks_suffixes : {o : Openers} → SoundOpeners (openers_within o) → SoundOpeners o → Shrinks is_suffix (suffixes_with (openers_within o))
shrinks_suffixes {o} S inner r hit = by_test (passes is_bracket (next r)) refl
  where
    by_test : (b : Bool) → passes is_bracket (next r) ≡ b
        → length (either_case (map_read (λ x. subscript x.0 x.1) (both (openers_within o).subscript (further_suffixes (openers_within o)))) (map_read (λ x. field x.0 x.1) (both (behind (sign (codes ".")) name) (further_suffixes (openers_within o)))) b r).1.rest < length r.rest
    by_test true is =
        shrinks_both is_bracket (in_brackets (expression_with o)) (further_suffixes (openers_within o))
        (λ s h. shrinks_both is_bracket (expect_token (sign (codes "["))) (both (expression_with o) (expect_token (sign (codes "]")))) (shrinks_fixed (sign (codes "["))) (sound_both (sound_expression inner) (sound_fixed (sign (codes "]")))) s h)
        (sound_further S) r is
    by_test false is =
        shrinks_both is_dot (behind (sign (codes ".")) name) (further_suffixes (openers_within o)) (shrinks_behind (sign (codes ".")) sound_name) (sound_further S) r (suffix_of (next r) hit is)

lawful_none_left : {o : Openers} → SoundOpeners o → LawfulOpeners 0 none_left (openers_within (openers_within o))
lawful_none_left {o} inner = record {
  negation =
      opened_too_deep is_not 2 N.negation S.negation (λ r hit. shrinks_both is_not (fixed_at (word (codes "NOT"))) (negated_with (openers_within o)) (shrinks_at (word (codes "NOT"))) (sound_negated I) r hit)
      (λ r. omega arith) negation_deep;
  minus =
      opened_too_deep is_minus 6 N.minus S.minus (λ r hit. shrinks_both is_minus (fixed_at (sign (codes "-"))) (factor_with (openers_within o)) (shrinks_at (sign (codes "-"))) (sound_factor I) r hit)
      (λ r. omega arith) minus_deep;
  parentheses =
      opened_too_deep is_parenthesis 7 N.parentheses S.parentheses
      (λ r hit. shrinks_both is_parenthesis (fixed_at (sign (codes "("))) (both (expression_with (openers_within o)) (expect_token (sign (codes ")")))) (shrinks_at (sign (codes "("))) (sound_both (sound_expression I) (sound_fixed (sign (codes ")")))) r hit)
      (λ r. omega arith) parenthesized_deep;
  length =
      opened_too_deep is_length 7 N.length S.length
      (λ r hit. shrinks_both is_length (fixed_at (word (codes "LENGTH"))) (expect_where is_parenthesis filler (openers_within o).argument) (shrinks_at (word (codes "LENGTH")))
      (sound_either is_parenthesis I.argument (sound_filled_argument Unexpected)) r hit)
      (λ r. omega arith) length_deep;
  argument =
      lawful_too_deep is_parenthesis filler N.argument S.argument
      (λ r hit. shrinks_both is_parenthesis (expect_token (sign (codes "("))) (both (expression_with (openers_within o)) (expect_token (sign (codes ")")))) (shrinks_fixed (sign (codes "("))) (sound_both (sound_expression I) (sound_fixed (sign (codes ")")))) r hit)
      (λ r. omega arith) (λ w g. omega arith);
  subscript =
      lawful_too_deep is_bracket filler N.subscript S.subscript
      (λ r hit. shrinks_both is_bracket (expect_token (sign (codes "["))) (both (expression_with (openers_within o)) (expect_token (sign (codes "]")))) (shrinks_fixed (sign (codes "["))) (sound_both (sound_expression I) (sound_fixed (sign (codes "]")))) r hit)
      (λ r. omega arith) (λ w g. omega arith);
  list =
      lawful_too_deep is_bracket (λ p. []) N.list S.list
      (λ r hit. shrinks_both is_bracket (expect_token (sign (codes "["))) (both (items_with (openers_within o)) (expect_token (sign (codes "]")))) (shrinks_fixed (sign (codes "["))) (sound_both (sound_items I) (sound_fixed (sign (codes "]")))) r hit)
      (λ r. omega arith) (λ w g. omega arith);
  links = λ c.
      lawful_too_deep (joins c) (λ p. link (first_operator c) (filler p) no_links) (N.links c) (S.links c)
      (λ r hit. shrinks_both (joins c) (joint c) (both (operand_with (openers_within o) c) (either (joins c) ((openers_within o).links c) (nothing no_links))) (shrinks_joint c)
      (sound_both (sound_operand I c) (sound_either (joins c) (sound_good (AreLinks c) (some_links c) (I.links c)) (sound_nothing no_links (λ ls. open_level (spelling_links ls)) (AreLinks c) tt refl))) r hit)
      (λ r. omega arith) (links_deep c);
  suffixes =
      lawful_too_deep is_suffix (λ p. field (filled_name p) no_suffixes) N.suffixes S.suffixes (shrinks_suffixes I inner) (suffixes_answer (openers_within o)) suffixes_deep;
}
  where
    N : SoundOpeners none_left
    N = sound_none_left

    I : SoundOpeners (openers_within o)
    I = sound_opening inner

    S : SoundOpeners (openers_within (openers_within o))
    S = sound_opening (sound_opening inner)

-- two levels more are enough for each token
pub lawful_openers : (n m : ℕ) → suc n < m → LawfulOpeners n (openers n) (openers m)
unfolding openers
lawful_openers n zero less = absurd (omega arith)
lawful_openers n (suc zero) less = absurd (omega arith)
lawful_openers zero (suc (suc m)) less = lawful_none_left (sound_openers m)
lawful_openers (suc n) (suc (suc m)) less = lawful_opening n (lawful_openers n (suc m) (omega arith))
