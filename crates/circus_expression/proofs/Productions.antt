-- Expressions and places: what is read is spelled, what is spelled is read, and no deeper than there are levels.
use Rattle.std.proofs.Common.{◌≡◌, ℕ, suc, ◌≤◌, Bool, true, false, ◌&&◌, List, [], ◌∷◌, ◌++◌, refl, sym, ◌∙◌, ap, subst, arith, ◌⊎◌, inl, inr, append-nil, append_assoc}
use Rattle.std.specs.Prelude.{Option, Some, None, codes, bytes_eq, not, if◌then◌else◌}
use Rattle.std.proofs.lemmas.Bool.{and_parts, not-true, false_from_ne_true}
use Rattle.std.proofs.lemmas.Slice.Eq.{bytes_eq-Decides}
use Rattle.circus_text.specs.declared.token.TokenKind.{TokenKind}
use Rattle.circus_text.specs.declared.token.TokenKind.TheVariants.{Word, Number, Quoted, Sign}
use Rattle.circus_text.specs.Token.{Lexeme}
use Rattle.circus_syntax.specs.declared.named.Named.{Named}
use Rattle.circus_syntax.specs.declared.named.Numeral.{Numeral}
use Rattle.circus_syntax.specs.declared.named.TypeName.{TypeName}
use Rattle.circus_syntax.specs.declared.stopping.Stop.{Stop}
use Rattle.circus_syntax.specs.Placed.{Placed, first, same_kind, word, sign, is_lexeme, is_name, is_number, Due, due, due_at, due_name, due_text, open_level, AreWithin, AreDue}
use Rattle.circus_syntax.specs.Reserved.{is_reserved, reserved_words}
use Rattle.circus_syntax.specs.Reader.{Reader, passes, nothing, both, map_read, choose_by, either_case, optional}
use Rattle.circus_syntax.specs.Reading.{name, behind, type_name}
use Rattle.circus_syntax.specs.Spelling.{if_written, spelling_name, IsName, IsNumeral, IsText, IfWritten}
use Rattle.circus_syntax.proofs.Opened.{opened_due}
use Rattle.circus_syntax.proofs.Sound.{Sound, reader, AreDue-split, AreDue-none, sound_nothing}
use Rattle.circus_syntax.proofs.Complete.{Complete, Any, Opens, complete_weaker}
use Rattle.circus_syntax.proofs.Tokens.{opens_due, opens_due_at, opens_name, opens_number}
use Rattle.circus_syntax.proofs.TypesRead.{clash}
use Rattle.circus_syntax.proofs.Levels.{LevelsAt, levels_nothing}
use Rattle.circus_syntax.proofs.Lawful.{Lawful, LawfulAt, Branch, branch_of, branch_at, complete_good, lawful_at, lawful_weaker, lawful_fixed_at, lawful_name, lawful_number, lawful_quoted, lawful_both, lawful_then, lawful_at_both, lawful_mapped, lawful_at_mapped, lawful_cased, lawful_rest, lawful_optional, lawful_behind, sound_good}
use Rattle.circus_expression.specs.declared.operator.Operator.{Operator}
use Rattle.circus_expression.specs.declared.operator.Operator.TheVariants as op
use Rattle.circus_expression.specs.declared.operator.Chain.{Chain}
use Rattle.circus_expression.specs.declared.operator.Chain.TheVariants as of
use Rattle.circus_expression.specs.declared.starts.PrimaryStart.{PrimaryStart}
use Rattle.circus_expression.specs.declared.starts.PrimaryStart.TheVariants as begins
use Rattle.circus_expression.specs.Operators.{lexeme_of, comparisons, is_operator, Joins, Compares}
use Rattle.circus_expression.specs.Written.{Written, Links, WrittenList, WrittenSuffixes, written_list, chain, negation, comparison, is_arm, minus, number, text, truth, parentheses, length_of, label, arm, items, place, no_links, link, no_items, more_items, no_suffixes, field, subscript, spelling, spelling_links, spelling_argument, spelling_list, spelling_items, spelling_suffixes, spelling_place, production_of_chain, operand_of, production_of, IsTypeName, IsWritten, AreLinks, AreWritten, AreSuffixes, IsPlace}
use Rattle.circus_expression.specs.ExpressionReading.{joins, Openers, is_dot, is_bracket, is_parenthesis, is_hash, is_suffix, further_suffixes, suffixes_with, any_suffixes, place_with, Built, labelled, listing, built_with, Behind, builds, goes_on, name_with_tail, Second, built_of_both, follows, second, second_with, Following, by_hash, by_dot, by_neither, following_of, behind_name, named_with, start_of_primary, primary_by, primary_with, is_minus, factor_with, links_with, chain_of, chain_with, sum_with, Related, alone, compared, arm_named, with_relation, Relating, comparing, naming, ending, relating_of, compares, related_by, relation_with, is_not, negated_with, operand_with, expression_with}
use Rattle.circus_expression.proofs.Follows.{lawful_joint, lawful_compares, opens_joint, Stays, at, along, grip_joint, grip_comparison, grip_due, joins_missed, compares_missed, is_missed, dot_missed, parenthesis_missed, hash_missed, suffix_missed}

-- an expression of this production
abbrev pub IsOf : ℕ → Written → Type 0
IsOf k w = (k ≤ production_of w) × IsWritten w

abbrev pub AreSome : Chain → Links → Type 0
AreSome c no_links = ⊥
AreSome c (link o w ls) = AreLinks c (link o w ls)

abbrev pub AreSomeSuffixes : WrittenSuffixes → Type 0
AreSomeSuffixes no_suffixes = ⊥
AreSomeSuffixes (field n ss) = AreSuffixes (field n ss)
AreSomeSuffixes (subscript w ss) = AreSuffixes (subscript w ss)

abbrev pub AreAll : List Written → Type 0
AreAll ws = AreWritten (written_list ws)

abbrev pub spelling_subscript : Written → List Due
spelling_subscript w = open_level (due (sign (codes "[")) ∷ (spelling w ++ due (sign (codes "]")) ∷ []))

-- What opens a level, and is one of the ways to read something.

pub record Opened (test : Placed → Bool) (k n : ℕ) (p q : Reader → Written × Reader) (Good Is : Written → Type 0) : Type 0 where
  pub narrow : Sound p spelling Good
  pub wide : Sound q spelling Good
  pub complete : Complete p spelling (λ w. Is w × AreWithin n (spelling w)) (Stays k)
  pub levels : LevelsAt test n p q spelling

opened_branch : {K : Type 0} (class : Option Placed → K) (c : K) (test : Placed → Bool) (k n : ℕ) {p q : Reader → Written × Reader} {Good Is : Written → Type 0}
    → ((ts : List Placed) → class (first ts) ≡ c → passes test (first ts) ≡ true) → Opened test k n p q Good Is → Branch class c n p q spelling Good Is (Stays k)
opened_branch class c test k n begins O = record {
  narrow = O.narrow;
  wide = O.wide;
  complete = O.complete;
  reaches = λ ts e is. O.levels.reaches ts e (begins ts is);
}

abbrev pub IsNegation : Written → Type 0
IsNegation (negation at w) = IsOf 2 w
IsNegation _ = ⊥

abbrev pub IsMinus : Written → Type 0
IsMinus (minus at w) = IsOf 6 w
IsMinus _ = ⊥

abbrev pub IsParenthesized : Written → Type 0
IsParenthesized (parentheses at w) = IsWritten w
IsParenthesized _ = ⊥

abbrev pub IsLength : Written → Type 0
IsLength (length_of at w) = IsWritten w
IsLength _ = ⊥

abbrev pub is_length : Placed → Bool
is_length = is_lexeme (word (codes "LENGTH"))

pub record LawfulOpeners (n : ℕ) (o o' : Openers) : Type 0 where
  pub negation : Opened is_not 2 n o.negation o'.negation (IsOf 2) IsNegation
  pub minus : Opened is_minus 6 n o.minus o'.minus (IsOf 6) IsMinus
  pub parentheses : Opened is_parenthesis 7 n o.parentheses o'.parentheses (IsOf 7) IsParenthesized
  pub length : Opened is_length 7 n o.length o'.length (IsOf 7) IsLength
  pub argument : LawfulAt is_parenthesis n o.argument o'.argument spelling_argument IsWritten Any
  pub subscript : LawfulAt is_bracket n o.subscript o'.subscript spelling_subscript IsWritten Any
  pub list : LawfulAt is_bracket n o.list o'.list spelling_list AreAll Any
  pub links : (c : Chain) → LawfulAt (joins c) n (o.links c) (o'.links c) (λ ls. open_level (spelling_links ls)) (AreSome c) (Stays (production_of_chain c))
  pub suffixes : LawfulAt is_suffix n o.suffixes o'.suffixes (λ ss. open_level (spelling_suffixes ss)) AreSomeSuffixes (Stays 7)

-- Places.

pub some_suffixes : (ss : WrittenSuffixes) → AreSomeSuffixes ss → AreSuffixes ss
some_suffixes no_suffixes good = absurd good
some_suffixes (field n ss) good = good
some_suffixes (subscript w ss) good = good

suffixes_parts : (ss : WrittenSuffixes) → AreSuffixes ss → (ss ≡ no_suffixes) ⊎ AreSomeSuffixes ss
suffixes_parts no_suffixes good = inl refl
suffixes_parts (field n ss) good = inr good
suffixes_parts (subscript w ss) good = inr good

suffix_due : (l : Lexeme) (ds : List Due) (ts rest : List Placed) → ((s : ℕ) → is_suffix (at l s) ≡ true) → AreDue (due l ∷ ds) ts → passes is_suffix (first (ts ++ rest)) ≡ true
suffix_due l ds [] rest is d = absurd d
suffix_due l ds (t ∷ ts) rest is d = (λ i. is_suffix (record { kind = d.0.0 i; bytes = d.0.1 i; start = t.start })) ∙ is t.start

open_suffixes : Opens spelling_suffixes AreSomeSuffixes is_suffix
open_suffixes no_suffixes ts rest good d = absurd good
open_suffixes (field n ss) ts rest good d = suffix_due (sign (codes ".")) (due_name n ∷ open_level (spelling_suffixes ss)) ts rest (λ s. refl) d
open_suffixes (subscript w ss) ts rest good d =
    suffix_due (sign (codes "[")) (open_level (spelling w ++ due (sign (codes "]")) ∷ []) ++ open_level (spelling_suffixes ss)) ts rest (λ s. refl) d

open_deeper_suffixes : Opens (λ ss. open_level (spelling_suffixes ss)) AreSomeSuffixes is_suffix
open_deeper_suffixes no_suffixes ts rest good d = absurd good
open_deeper_suffixes (field n ss) ts rest good d = suffix_due (sign (codes ".")) (open_level (due_name n ∷ open_level (spelling_suffixes ss))) ts rest (λ s. refl) d
open_deeper_suffixes (subscript w ss) ts rest good d =
    suffix_due (sign (codes "[")) (open_level (open_level (spelling w ++ due (sign (codes "]")) ∷ []) ++ open_level (spelling_suffixes ss))) ts rest (λ s. refl) d

lawful_further : (n : ℕ) {o o' : Openers} → LawfulOpeners n o o' → Lawful n (further_suffixes o) (further_suffixes o') (λ ss. open_level (spelling_suffixes ss)) AreSuffixes (Stays 7)
lawful_further n L =
    lawful_weaker n (Stays 7) (λ t stays. (stays, suffix_missed 7 t (omega arith) stays))
    (lawful_rest is_suffix n no_suffixes AreSuffixes refl tt some_suffixes suffixes_parts open_deeper_suffixes L.suffixes)

abbrev pub SuffixIs : Bool → WrittenSuffixes → Type 0
SuffixIs true (subscript w ss) = IsWritten w × AreSuffixes ss
SuffixIs false (field n ss) = IsName n × AreSuffixes ss
SuffixIs _ _ = ⊥

pub suffix_good : (b : Bool) (ss : WrittenSuffixes) → SuffixIs b ss → AreSomeSuffixes ss
suffix_good true (subscript w ss) is = is
suffix_good false (field n ss) is = is
suffix_good true no_suffixes is = absurd is
suffix_good true (field n ss) is = absurd is
suffix_good false no_suffixes is = absurd is
suffix_good false (subscript w ss) is = absurd is

subscript_back : (ss : WrittenSuffixes) → SuffixIs true ss → (x : Written × WrittenSuffixes) × (subscript x.0 x.1 ≡ ss) × (IsWritten x.0 × AreSuffixes x.1)
subscript_back no_suffixes is = absurd is
subscript_back (field n ss) is = absurd is
subscript_back (subscript w ss) is = ((w, ss), refl, is)

field_back : (ss : WrittenSuffixes) → SuffixIs false ss → (x : Named × WrittenSuffixes) × (field x.0 x.1 ≡ ss) × (IsName x.0 × AreSuffixes x.1)
field_back no_suffixes is = absurd is
field_back (field n ss) is = ((n, ss), refl, is)
field_back (subscript w ss) is = absurd is

pub lawful_suffixes : (n : ℕ) {o o' : Openers} → LawfulOpeners n o o' → Lawful n (suffixes_with o) (suffixes_with o') spelling_suffixes AreSomeSuffixes (Stays 7)
lawful_suffixes n {o} {o'} L =
    lawful_cased (passes is_bracket) n
    (either_case (map_read (λ x. subscript x.0 x.1) (both o.subscript (further_suffixes o))) (map_read (λ x. field x.0 x.1) (both (behind (sign (codes ".")) name) (further_suffixes o))))
    (either_case (map_read (λ x. subscript x.0 x.1) (both o'.subscript (further_suffixes o'))) (map_read (λ x. field x.0 x.1) (both (behind (sign (codes ".")) name) (further_suffixes o'))))
    SuffixIs branches fields.levels.filled begins
  where
    fields : Lawful n (map_read (λ x. field x.0 x.1) (both (behind (sign (codes ".")) name) (further_suffixes o))) (map_read (λ x. field x.0 x.1) (both (behind (sign (codes ".")) name) (further_suffixes o')))
        spelling_suffixes (SuffixIs false) (Stays 7)
    fields =
        lawful_mapped n (λ x. field x.0 x.1) spelling_suffixes (SuffixIs false) (λ x. refl) (λ x g. g) field_back
        (lawful_then n (lawful_behind n (sign (codes ".")) (lawful_name n)) (lawful_further n L))

    subscripts : LawfulAt is_bracket n (map_read (λ x. subscript x.0 x.1) (both o.subscript (further_suffixes o))) (map_read (λ x. subscript x.0 x.1) (both o'.subscript (further_suffixes o')))
        spelling_suffixes (SuffixIs true) (Stays 7)
    subscripts =
        lawful_at_mapped is_bracket n (λ x. subscript x.0 x.1) spelling_suffixes (SuffixIs true) (λ x. refl) (λ x g. g) subscript_back
        (lawful_at_both is_bracket n L.subscript (lawful_further n L) (λ ss ts rest g d stays. tt))

    branches : (b : Bool) → Branch (passes is_bracket) b n
        (either_case (map_read (λ x. subscript x.0 x.1) (both o.subscript (further_suffixes o))) (map_read (λ x. field x.0 x.1) (both (behind (sign (codes ".")) name) (further_suffixes o))) b)
        (either_case (map_read (λ x. subscript x.0 x.1) (both o'.subscript (further_suffixes o'))) (map_read (λ x. field x.0 x.1) (both (behind (sign (codes ".")) name) (further_suffixes o'))) b)
        spelling_suffixes AreSomeSuffixes (SuffixIs b) (Stays 7)
    branches true = branch_at (passes is_bracket) true is_bracket n AreSomeSuffixes (suffix_good true) (λ ts is. is) subscripts
    branches false = branch_of (passes is_bracket) false n AreSomeSuffixes (suffix_good false) fields

    begins : (ss : WrittenSuffixes) (ts rest : List Placed) → AreSomeSuffixes ss → AreDue (spelling_suffixes ss) ts → Stays 7 (first rest) → (b : Bool) × (passes is_bracket (first (ts ++ rest)) ≡ b) × SuffixIs b ss
    begins no_suffixes ts rest good d stays = absurd good
    begins (field n ss) ts rest good d stays = (false, clash (sign (codes ".")) (due_name n ∷ open_level (spelling_suffixes ss)) ts rest is_bracket (λ s. refl) d, good)
    begins (subscript w ss) ts rest good d stays =
        (true, opens_due (sign (codes "[")) (open_level (spelling w ++ due (sign (codes "]")) ∷ []) ++ open_level (spelling_suffixes ss)) ts rest d, good)

lawful_any_suffixes : (n : ℕ) {o o' : Openers} → LawfulOpeners n o o' → Lawful n (any_suffixes o) (any_suffixes o') spelling_suffixes AreSuffixes (Stays 7)
lawful_any_suffixes n L =
    lawful_weaker n (Stays 7) (λ t stays. (stays, suffix_missed 7 t (omega arith) stays))
    (lawful_rest is_suffix n no_suffixes AreSuffixes refl tt some_suffixes suffixes_parts open_suffixes (lawful_at is_suffix n (lawful_suffixes n L)))

pub lawful_place : (n : ℕ) {o o' : Openers} → LawfulOpeners n o o' → Lawful n (place_with o) (place_with o') spelling_place IsPlace (Stays 7)
lawful_place n L =
    lawful_mapped n (λ x. record { name = x.0; suffixes = x.1 }) spelling_place IsPlace (λ x. refl) (λ x g. g) (λ p g. ((p.name, p.suffixes), refl, g))
    (lawful_then n (lawful_name n) (lawful_any_suffixes n L))

-- What is built of a type.

at_weaker : {A : Type 0} (test : Placed → Bool) (k n : ℕ) {p q : Reader → A × Reader} {spell : A → List Due} {Good : A → Type 0} → LawfulAt test n p q spell Good Any → LawfulAt test n p q spell Good (Stays k)
at_weaker test k n L = record { narrow = L.narrow; wide = L.wide; complete = complete_weaker (Stays k) (λ t stays. tt) L.complete; levels = L.levels }

-- a name is no sign
pub name_no_sign : (w : List ℕ) (o : Option Placed) → passes is_name o ≡ true → passes (is_lexeme (sign w)) o ≡ false
name_no_sign w None hit = refl
name_no_sign w (Some t) hit = by_kind t.kind _ _ hit
  where
    by_kind : (k : TokenKind) (a b : Bool) → same_kind k Word && a ≡ true → same_kind k Sign && b ≡ false
    by_kind Word a b h = refl
    by_kind Number a b h = refl
    by_kind Quoted a b h = refl
    by_kind Sign a b h = absurd cc

-- what stands behind the hash
abbrev pub spelling_made : Built → List Due
spelling_made (labelled k v) = due_name k ∷ if_written spelling_argument v
spelling_made (listing ws) = spelling_list ws

abbrev pub spelling_built : Built → List Due
spelling_built b = due (sign (codes "#")) ∷ spelling_made b

abbrev pub IsBuilt : Built → Type 0
IsBuilt (labelled k v) = IsName k × IfWritten IsWritten v
IsBuilt (listing ws) = AreAll ws

abbrev pub MadeIs : Bool → Built → Type 0
MadeIs true (listing ws) = AreAll ws
MadeIs false (labelled k v) = IsName k × IfWritten IsWritten v
MadeIs _ _ = ⊥

pub made_good : (b : Bool) (x : Built) → MadeIs b x → IsBuilt x
made_good true (listing ws) is = is
made_good false (labelled k v) is = is
made_good true (labelled k v) is = absurd is
made_good false (listing ws) is = absurd is

listing_back : (x : Built) → MadeIs true x → (ws : List Written) × (listing ws ≡ x) × AreAll ws
listing_back (listing ws) is = (ws, refl, is)
listing_back (labelled k v) is = absurd is

labelled_back : (x : Built) → MadeIs false x → (y : Named × Option Written) × (labelled y.0 y.1 ≡ x) × (IsName y.0 × IfWritten IsWritten y.1)
labelled_back (labelled k v) is = ((k, v), refl, is)
labelled_back (listing ws) is = absurd is

open_argument : Opens spelling_argument IsWritten is_parenthesis
open_argument w ts rest good d = opens_due (sign (codes "(")) (open_level (spelling w ++ due (sign (codes ")")) ∷ [])) ts rest d

abbrev pub made_with : Openers → Bool → Reader → Built × Reader
made_with o = either_case (map_read listing o.list) (map_read (λ x. labelled x.0 x.1) (both name (optional is_parenthesis o.argument)))

lawful_made : (n : ℕ) {o o' : Openers} → LawfulOpeners n o o' → Lawful n (choose_by (passes is_bracket) (made_with o)) (choose_by (passes is_bracket) (made_with o')) spelling_made IsBuilt (Stays 7)
lawful_made n {o} {o'} L = lawful_cased (passes is_bracket) n (made_with o) (made_with o') MadeIs branches labels.levels.filled begins
  where
    labels : Lawful n (map_read (λ x. labelled x.0 x.1) (both name (optional is_parenthesis o.argument))) (map_read (λ x. labelled x.0 x.1) (both name (optional is_parenthesis o'.argument))) spelling_made (MadeIs false) (Stays 7)
    labels =
        lawful_mapped n (λ x. labelled x.0 x.1) spelling_made (MadeIs false) (λ x. refl) (λ x g. g) labelled_back
        (lawful_then n (lawful_name n)
        (lawful_weaker n (Stays 7) (λ t stays. (tt, parenthesis_missed 7 t (omega arith) stays)) (lawful_optional is_parenthesis n open_argument L.argument)))

    lists : LawfulAt is_bracket n (map_read listing o.list) (map_read listing o'.list) spelling_made (MadeIs true) (Stays 7)
    lists = at_weaker is_bracket 7 n (lawful_at_mapped is_bracket n listing spelling_made (MadeIs true) (λ x. refl) (λ x g. g) listing_back L.list)

    branches : (b : Bool) → Branch (passes is_bracket) b n (made_with o b) (made_with o' b) spelling_made IsBuilt (MadeIs b) (Stays 7)
    branches true = branch_at (passes is_bracket) true is_bracket n IsBuilt (made_good true) (λ ts is. is) lists
    branches false = branch_of (passes is_bracket) false n IsBuilt (made_good false) labels

    begins : (x : Built) (ts rest : List Placed) → IsBuilt x → AreDue (spelling_made x) ts → Stays 7 (first rest) → (b : Bool) × (passes is_bracket (first (ts ++ rest)) ≡ b) × MadeIs b x
    begins (labelled k v) ts rest good d stays =
        (false, name_no_sign (codes "[") (first (ts ++ rest)) (opens_name k (if_written spelling_argument v) ts rest good.0 d), good)
    begins (listing ws) ts rest good d stays =
        (true, opens_due (sign (codes "[")) (open_level (spelling_items (written_list ws) ++ due (sign (codes "]")) ∷ [])) ts rest d, good)

lawful_built : (n : ℕ) {o o' : Openers} → LawfulOpeners n o o' → Lawful n (built_with o) (built_with o') spelling_built IsBuilt (Stays 7)
lawful_built n L = lawful_behind n (sign (codes "#")) (lawful_made n L)

-- What stands behind a name.

abbrev pub spelling_second : Second → List Due
spelling_second (built_of_both b) = spelling_built b
spelling_second (follows ss) = open_level (spelling_suffixes ss)

abbrev pub IsSecond : Second → Type 0
IsSecond (built_of_both b) = IsBuilt b
IsSecond (follows ss) = AreSuffixes ss

abbrev pub SecondIs : Bool → Second → Type 0
SecondIs true (built_of_both b) = IsBuilt b
SecondIs false (follows ss) = AreSuffixes ss
SecondIs _ _ = ⊥

pub second_good : (b : Bool) (x : Second) → SecondIs b x → IsSecond x
second_good true (built_of_both y) is = is
second_good false (follows ss) is = is
second_good true (follows ss) is = absurd is
second_good false (built_of_both y) is = absurd is

both_back : (x : Second) → SecondIs true x → (b : Built) × (built_of_both b ≡ x) × IsBuilt b
both_back (built_of_both b) is = (b, refl, is)
both_back (follows ss) is = absurd is

follows_back : (x : Second) → SecondIs false x → (ss : WrittenSuffixes) × (follows ss ≡ x) × AreSuffixes ss
follows_back (follows ss) is = (ss, refl, is)
follows_back (built_of_both b) is = absurd is

abbrev pub second_by : Openers → Bool → Reader → Second × Reader
second_by o = either_case (map_read built_of_both (built_with o)) (map_read follows (further_suffixes o))

-- the tokens of the suffixes, or what stands behind them, are no hash
suffixes_no_hash : (ss : WrittenSuffixes) (ts rest : List Placed) → AreDue (open_level (spelling_suffixes ss)) ts → Stays 7 (first rest) → passes is_hash (first (ts ++ rest)) ≡ false
suffixes_no_hash no_suffixes ts rest d stays =
    subst (λ (us : List Placed). passes is_hash (first (us ++ rest)) ≡ false) (sym (AreDue-none ts d)) (hash_missed 7 (first rest) (omega arith) stays)
suffixes_no_hash (field n ss) ts rest d stays = clash (sign (codes ".")) (open_level (due_name n ∷ open_level (spelling_suffixes ss))) ts rest is_hash (λ s. refl) d
suffixes_no_hash (subscript w ss) ts rest d stays =
    clash (sign (codes "[")) (open_level (open_level (spelling w ++ due (sign (codes "]")) ∷ []) ++ open_level (spelling_suffixes ss))) ts rest is_hash (λ s. refl) d

lawful_second_by : (n : ℕ) {o o' : Openers} → LawfulOpeners n o o' → Lawful n (choose_by (passes is_hash) (second_by o)) (choose_by (passes is_hash) (second_by o')) spelling_second IsSecond (Stays 7)
lawful_second_by n {o} {o'} L = lawful_cased (passes is_hash) n (second_by o) (second_by o') SecondIs branches suffixes.levels.filled begins
  where
    suffixes : Lawful n (map_read follows (further_suffixes o)) (map_read follows (further_suffixes o')) spelling_second (SecondIs false) (Stays 7)
    suffixes = lawful_mapped n follows spelling_second (SecondIs false) (λ x. refl) (λ x g. g) follows_back (lawful_further n L)

    builts : Lawful n (map_read built_of_both (built_with o)) (map_read built_of_both (built_with o')) spelling_second (SecondIs true) (Stays 7)
    builts = lawful_mapped n built_of_both spelling_second (SecondIs true) (λ x. refl) (λ x g. g) both_back (lawful_built n L)

    branches : (b : Bool) → Branch (passes is_hash) b n (second_by o b) (second_by o' b) spelling_second IsSecond (SecondIs b) (Stays 7)
    branches true = branch_of (passes is_hash) true n IsSecond (second_good true) builts
    branches false = branch_of (passes is_hash) false n IsSecond (second_good false) suffixes

    begins : (x : Second) (ts rest : List Placed) → IsSecond x → AreDue (spelling_second x) ts → Stays 7 (first rest) → (b : Bool) × (passes is_hash (first (ts ++ rest)) ≡ b) × SecondIs b x
    begins (built_of_both b) ts rest good d stays = (true, opens_due (sign (codes "#")) (spelling_made b) ts rest d, good)
    begins (follows ss) ts rest good d stays = (false, suffixes_no_hash ss ts rest d stays, good)

abbrev pub spelling_behind : Behind → List Due
spelling_behind (builds None b) = spelling_built b
spelling_behind (builds (Some m) b) = due (sign (codes ".")) ∷ due_name m ∷ spelling_built b
spelling_behind (goes_on ss) = spelling_suffixes ss

abbrev pub IsBehind : Behind → Type 0
IsBehind (builds m b) = IfWritten IsName m × IsBuilt b
IsBehind (goes_on ss) = AreSuffixes ss

abbrev pub BehindIs : Following → Behind → Type 0
BehindIs by_hash (builds None b) = IsBuilt b
BehindIs by_dot (builds (Some m) b) = IsName m × IsBuilt b
BehindIs by_dot (goes_on (field n ss)) = IsName n × AreSuffixes ss
BehindIs by_neither (goes_on ss) = AreSuffixes ss
BehindIs _ _ = ⊥

pub behind_good : (k : Following) (x : Behind) → BehindIs k x → IsBehind x
behind_good by_hash (builds None b) is = (tt, is)
behind_good by_dot (builds (Some m) b) is = is
behind_good by_dot (goes_on (field n ss)) is = is
behind_good by_neither (goes_on ss) is = is
behind_good by_hash (builds (Some m) b) is = absurd is
behind_good by_hash (goes_on ss) is = absurd is
behind_good by_dot (builds None b) is = absurd is
behind_good by_dot (goes_on no_suffixes) is = absurd is
behind_good by_dot (goes_on (subscript w ss)) is = absurd is
behind_good by_neither (builds m b) is = absurd is

hash_back : (x : Behind) → BehindIs by_hash x → (b : Built) × (builds None b ≡ x) × IsBuilt b
hash_back (builds None b) is = (b, refl, is)
hash_back (builds (Some m) b) is = absurd is
hash_back (goes_on ss) is = absurd is

dot_back : (x : Behind) → BehindIs by_dot x → (y : Named × Second) × (second y.0 y.1 ≡ x) × (IsName y.0 × IsSecond y.1)
dot_back (builds (Some m) b) is = ((m, built_of_both b), refl, is)
dot_back (goes_on (field n ss)) is = ((n, follows ss), refl, is)
dot_back (builds None b) is = absurd is
dot_back (goes_on no_suffixes) is = absurd is
dot_back (goes_on (subscript w ss)) is = absurd is

neither_back : (x : Behind) → BehindIs by_neither x → (ss : WrittenSuffixes) × (goes_on ss ≡ x) × AreSuffixes ss
neither_back (goes_on ss) is = (ss, refl, is)
neither_back (builds m b) is = absurd is

pub second_spelled : (y : Named × Second) → spelling_behind (second y.0 y.1) ≡ (due (sign (codes ".")) ∷ spelling_name y.0) ++ spelling_second y.1
second_spelled y = by_second y.1
  where
    by_second : (x : Second) → spelling_behind (second y.0 x) ≡ (due (sign (codes ".")) ∷ spelling_name y.0) ++ spelling_second x
    by_second (built_of_both b) = refl
    by_second (follows ss) = refl

pub second_kept : (y : Named × Second) → IsName y.0 × IsSecond y.1 → BehindIs by_dot (second y.0 y.1)
second_kept y g = by_second y.1 g.1
  where
    by_second : (x : Second) → IsSecond x → BehindIs by_dot (second y.0 x)
    by_second (built_of_both b) h = (g.0, h)
    by_second (follows ss) h = (g.0, h)

following_due : (l : Lexeme) (k : Following) (ds : List Due) (ts rest : List Placed) → ((s : ℕ) → following_of (Some (at l s)) ≡ k) → AreDue (due l ∷ ds) ts → following_of (first (ts ++ rest)) ≡ k
following_due l k ds [] rest is d = absurd d
following_due l k ds (t ∷ ts) rest is d = (λ i. following_of (Some (record { kind = d.0.0 i; bytes = d.0.1 i; start = t.start }))) ∙ is t.start

following_neither : (o : Option Placed) → passes is_hash o ≡ false → passes is_dot o ≡ false → following_of o ≡ by_neither
following_neither None hash dot = refl
following_neither (Some t) hash dot = rw (hash, dot) refl

lawful_behind_name : (n : ℕ) {o o' : Openers} → LawfulOpeners n o o' → Lawful n (choose_by following_of (behind_name o)) (choose_by following_of (behind_name o')) spelling_behind IsBehind (Stays 7)
lawful_behind_name n {o} {o'} L = lawful_cased following_of n (behind_name o) (behind_name o') BehindIs branches neither.levels.filled begins
  where
    hash : Lawful n (map_read (builds None) (built_with o)) (map_read (builds None) (built_with o')) spelling_behind (BehindIs by_hash) (Stays 7)
    hash = lawful_mapped n (builds None) spelling_behind (BehindIs by_hash) (λ x. refl) (λ x g. g) hash_back (lawful_built n L)

    dot : Lawful n (second_with o) (second_with o') spelling_behind (BehindIs by_dot) (Stays 7)
    dot =
        lawful_mapped n (λ x. second x.0 x.1) spelling_behind (BehindIs by_dot) second_spelled second_kept dot_back
        (lawful_then n (lawful_behind n (sign (codes ".")) (lawful_name n)) (lawful_second_by n L))

    neither : Lawful n (map_read goes_on (any_suffixes o)) (map_read goes_on (any_suffixes o')) spelling_behind (BehindIs by_neither) (Stays 7)
    neither = lawful_mapped n goes_on spelling_behind (BehindIs by_neither) (λ x. refl) (λ x g. g) neither_back (lawful_any_suffixes n L)

    branches : (k : Following) → Branch following_of k n (behind_name o k) (behind_name o' k) spelling_behind IsBehind (BehindIs k) (Stays 7)
    branches by_hash = branch_of following_of by_hash n IsBehind (behind_good by_hash) hash
    branches by_dot = branch_of following_of by_dot n IsBehind (behind_good by_dot) dot
    branches by_neither = branch_of following_of by_neither n IsBehind (behind_good by_neither) neither

    begins : (x : Behind) (ts rest : List Placed) → IsBehind x → AreDue (spelling_behind x) ts → Stays 7 (first rest) → (k : Following) × (following_of (first (ts ++ rest)) ≡ k) × BehindIs k x
    begins (builds None b) ts rest good d stays = (by_hash, following_due (sign (codes "#")) by_hash (spelling_made b) ts rest (λ s. refl) d, good.1)
    begins (builds (Some m) b) ts rest good d stays = (by_dot, following_due (sign (codes ".")) by_dot (due_name m ∷ spelling_built b) ts rest (λ s. refl) d, good)
    begins (goes_on no_suffixes) ts rest good d stays = (
      by_neither,
      subst (λ (us : List Placed). following_of (first (us ++ rest)) ≡ by_neither) (sym (AreDue-none ts d))
          (following_neither (first rest) (hash_missed 7 (first rest) (omega arith) stays) (dot_missed 7 (first rest) (omega arith) stays)),
      good,
    )
    begins (goes_on (field m ss)) ts rest good d stays = (by_dot, following_due (sign (codes ".")) by_dot (due_name m ∷ open_level (spelling_suffixes ss)) ts rest (λ s. refl) d, good)
    begins (goes_on (subscript w ss)) ts rest good d stays =
        (by_neither, following_due (sign (codes "[")) by_neither (open_level (spelling w ++ due (sign (codes "]")) ∷ []) ++ open_level (spelling_suffixes ss)) ts rest (λ s. refl) d, good)

-- Primaries.

abbrev pub IsNamed : Written → Type 0
IsNamed (label t n) = IsWritten (label t n)
IsNamed (arm t n w) = IsWritten (arm t n w)
IsNamed (items t ws) = IsWritten (items t ws)
IsNamed (place n ss) = IsWritten (place n ss)
IsNamed _ = ⊥

pub named_spelled : (x : Named × Behind) → spelling (name_with_tail x.0 x.1) ≡ spelling_name x.0 ++ spelling_behind x.1
named_spelled x = by_behind x.1
  where
    by_behind : (b : Behind) → spelling (name_with_tail x.0 b) ≡ spelling_name x.0 ++ spelling_behind b
    by_behind (builds None (labelled k None)) = refl
    by_behind (builds None (labelled k (Some w))) = refl
    by_behind (builds None (listing ws)) = refl
    by_behind (builds (Some m) (labelled k None)) = refl
    by_behind (builds (Some m) (labelled k (Some w))) = refl
    by_behind (builds (Some m) (listing ws)) = refl
    by_behind (goes_on ss) = refl

pub named_kept : (x : Named × Behind) → IsName x.0 × IsBehind x.1 → IsNamed (name_with_tail x.0 x.1)
named_kept x g = by_behind x.1 g.1
  where
    by_behind : (b : Behind) → IsBehind b → IsNamed (name_with_tail x.0 b)
    by_behind (builds None (labelled k None)) h = ((tt, g.0), h.1.0)
    by_behind (builds None (labelled k (Some w))) h = ((tt, g.0), h.1.0, h.1.1)
    by_behind (builds None (listing ws)) h = ((tt, g.0), h.1)
    by_behind (builds (Some m) (labelled k None)) h = ((g.0, h.0), h.1.0)
    by_behind (builds (Some m) (labelled k (Some w))) h = ((g.0, h.0), h.1.0, h.1.1)
    by_behind (builds (Some m) (listing ws)) h = ((g.0, h.0), h.1)
    by_behind (goes_on ss) h = (g.0, h)

-- the list that this one was made of
list_of : WrittenList → List Written
list_of no_items = []
list_of (more_items w ws) = w ∷ list_of ws

list_is : (ws : WrittenList) → written_list (list_of ws) ≡ ws
unfolding list_of
list_is no_items = refl
list_is (more_items w ws) = ap (more_items w) (list_is ws)

-- a type's name by its parts
type_parts : (B : TypeName → Written) (P : Named → Option Named → Written) → ((n : Named) (m : Option Named) → P n m ≡ B (type_name n m)) → (t : TypeName) → IsTypeName t
    → (n : Named) × (m : Option Named) × (P n m ≡ B t) × IsName n × IfWritten IsName m
type_parts B P is t good = by_parts t.«module» t.name good
  where
    by_parts : (m : Option Named) (n : Named) → IfWritten IsName m × IsName n
        → (k : Named) × (j : Option Named) × (P k j ≡ B (record { «module» = m; name = n })) × IsName k × IfWritten IsName j
    by_parts None n g = (n, None, is n None, g.1, tt)
    by_parts (Some m) n g = (m, Some n, is m (Some n), g.0, g.1)

named_back : (w : Written) → IsNamed w → (x : Named × Behind) × (name_with_tail x.0 x.1 ≡ w) × (IsName x.0 × IsBehind x.1)
named_back (label t k) good =
    let (n, m, is, first_named, second_named) = type_parts (λ u. label u k) (λ n m. name_with_tail n (builds m (labelled k None))) (λ n m. refl) t good.0 in
    ((n, builds m (labelled k None)), is, (first_named, (second_named, (good.1, tt))))
named_back (arm t k w) good =
    let (n, m, is, first_named, second_named) = type_parts (λ u. arm u k w) (λ n m. name_with_tail n (builds m (labelled k (Some w)))) (λ n m. refl) t good.0 in
    ((n, builds m (labelled k (Some w))), is, (first_named, (second_named, (good.1, good.2))))
named_back (items t ws) good =
    let (n, m, is, first_named, second_named) = type_parts (λ u. items u ws) (λ n m. name_with_tail n (builds m (listing (list_of ws)))) (λ n m. ap (items (type_name n m)) (list_is ws)) t good.0 in
    ((n, builds m (listing (list_of ws))), is, (first_named, (second_named, subst AreWritten (sym (list_is ws)) good.1)))
named_back (place n ss) good = ((n, goes_on ss), refl, good)
named_back (chain c w ls) good = absurd good
named_back (negation p w) good = absurd good
named_back (comparison a o b) good = absurd good
named_back (is_arm a n) good = absurd good
named_back (minus p w) good = absurd good
named_back (number n) good = absurd good
named_back (text c p) good = absurd good
named_back (truth b p) good = absurd good
named_back (parentheses p w) good = absurd good
named_back (length_of p w) good = absurd good

lawful_named : (n : ℕ) {o o' : Openers} → LawfulOpeners n o o' → Lawful n (named_with o) (named_with o') spelling IsNamed (Stays 7)
lawful_named n L = lawful_mapped n (λ x. name_with_tail x.0 x.1) spelling IsNamed named_spelled named_kept named_back (lawful_then n (lawful_name n) (lawful_behind_name n L))

abbrev pub PrimaryIs : PrimaryStart → Written → Type 0
PrimaryIs begins.Number (number n) = IsNumeral n
PrimaryIs begins.Text (text content p) = IsText content
PrimaryIs begins.True (truth true p) = Unit {0}
PrimaryIs begins.False (truth false p) = Unit {0}
PrimaryIs begins.Parenthesis w = IsParenthesized w
PrimaryIs begins.Length w = IsLength w
PrimaryIs begins.Name w = IsNamed w
PrimaryIs _ _ = ⊥

-- the token that begins what opens a level here
abbrev Begun : PrimaryStart → Placed → Type 0
Begun begins.Parenthesis t = is_parenthesis t ≡ true
Begun begins.Length t = is_length t ≡ true
Begun _ t = Unit {0}

begun_if : (t : Placed) (test : Bool) (k other : PrimaryStart) → (test ≡ true → Begun k t) → Begun other t → Begun (if test then k else other) t
begun_if t test k other here there = by_test test refl
  where
    by_test : (b : Bool) → test ≡ b → Begun (if b then k else other) t
    by_test true hit = here hit
    by_test false missed = there

begun : (t : Placed) → Begun (start_of_primary (Some t)) t
unfolding start_of_primary
begun t =
    begun_if t (is_number t) begins.Number _ (λ h. tt)
    (begun_if t _ begins.Text _ (λ h. tt)
    (begun_if t (is_lexeme (word (codes "TRUE")) t) begins.True _ (λ h. tt)
    (begun_if t (is_lexeme (word (codes "FALSE")) t) begins.False _ (λ h. tt)
    (begun_if t (is_parenthesis t) begins.Parenthesis _ (λ h. h)
    (begun_if t (is_length t) begins.Length begins.Name (λ h. h) tt)))))

no_primary : start_of_primary None ≡ begins.Name
unfolding start_of_primary
no_primary = refl

begun_parenthesis : (ts : List Placed) → start_of_primary (first ts) ≡ begins.Parenthesis → passes is_parenthesis (first ts) ≡ true
begun_parenthesis [] is = absurd (cc no_primary)
begun_parenthesis (t ∷ ts) is = subst (λ (k : PrimaryStart). Begun k t) is (begun t)

begun_length : (ts : List Placed) → start_of_primary (first ts) ≡ begins.Length → passes is_length (first ts) ≡ true
begun_length [] is = absurd (cc no_primary)
begun_length (t ∷ ts) is = subst (λ (k : PrimaryStart). Begun k t) is (begun t)

pub number_good : (w : Written) → PrimaryIs begins.Number w → IsOf 7 w
number_good (number n) is = (omega arith, is)
number_good _ is = absurd is

pub text_good : (w : Written) → PrimaryIs begins.Text w → IsOf 7 w
text_good (text content p) is = (omega arith, is)
text_good _ is = absurd is

pub true_good : (w : Written) → PrimaryIs begins.True w → IsOf 7 w
true_good (truth true p) is = (omega arith, tt)
true_good (truth false p) is = absurd is
true_good _ is = absurd is

pub false_good : (w : Written) → PrimaryIs begins.False w → IsOf 7 w
false_good (truth false p) is = (omega arith, tt)
false_good (truth true p) is = absurd is
false_good _ is = absurd is

pub named_good : (w : Written) → IsNamed w → IsOf 7 w
named_good (label t n) is = (omega arith, is)
named_good (arm t n w) is = (omega arith, is)
named_good (items t ws) is = (omega arith, is)
named_good (place n ss) is = (omega arith, is)
named_good _ is = absurd is

number_back : (w : Written) → PrimaryIs begins.Number w → (n : Numeral) × (number n ≡ w) × IsNumeral n
number_back (number n) is = (n, refl, is)
number_back _ is = absurd is

text_back : (w : Written) → PrimaryIs begins.Text w → (x : List ℕ × ℕ) × (text x.0 x.1 ≡ w) × IsText x.0
text_back (text content p) is = ((content, p), refl, is)
text_back _ is = absurd is

true_back : (w : Written) → PrimaryIs begins.True w → (p : ℕ) × (truth true p ≡ w) × Unit {0}
true_back (truth true p) is = (p, refl, tt)
true_back (truth false p) is = absurd is
true_back _ is = absurd is

false_back : (w : Written) → PrimaryIs begins.False w → (p : ℕ) × (truth false p ≡ w) × Unit {0}
false_back (truth false p) is = (p, refl, tt)
false_back (truth true p) is = absurd is
false_back _ is = absurd is

lawful_stays : {A : Type 0} (k n : ℕ) {p q : Reader → A × Reader} {spell : A → List Due} {Good : A → Type 0} → Lawful n p q spell Good Any → Lawful n p q spell Good (Stays k)
lawful_stays k n L = lawful_weaker n (Stays k) (λ t stays. tt) L

start_due : (l : Lexeme) (k : PrimaryStart) (p : ℕ) (ds : List Due) (ts rest : List Placed) → ((s : ℕ) → start_of_primary (Some (at l s)) ≡ k) → AreDue (due_at l p ∷ ds) ts → start_of_primary (first (ts ++ rest)) ≡ k
start_due l k p ds [] rest is d = absurd d
start_due l k p ds (t ∷ ts) rest is d = (λ i. start_of_primary (Some (record { kind = d.0.0 i; bytes = d.0.1 i; start = t.start }))) ∙ is t.start

true_starts : (s : ℕ) → start_of_primary (Some (at (word (codes "TRUE")) s)) ≡ begins.True
unfolding start_of_primary
true_starts s = refl

false_starts : (s : ℕ) → start_of_primary (Some (at (word (codes "FALSE")) s)) ≡ begins.False
unfolding start_of_primary
false_starts s = refl

parenthesis_starts : (s : ℕ) → start_of_primary (Some (at (sign (codes "(")) s)) ≡ begins.Parenthesis
unfolding start_of_primary
parenthesis_starts s = refl

length_starts : (s : ℕ) → start_of_primary (Some (at (word (codes "LENGTH")) s)) ≡ begins.Length
unfolding start_of_primary
length_starts s = refl

start_number : (o : Option Placed) → passes is_number o ≡ true → start_of_primary o ≡ begins.Number
unfolding start_of_primary
start_number None hit = absurd cc
start_number (Some t) hit = rw hit refl

start_text : (content : List ℕ) (p : ℕ) (ts rest : List Placed) → AreDue (due_text content p ∷ []) ts → start_of_primary (first (ts ++ rest)) ≡ begins.Text
unfolding start_of_primary
start_text content p [] rest d = absurd d
start_text content p (t ∷ ts) rest d = rw d.0.0 refl

not_reserved : (b w : List ℕ) → is_reserved b ≡ false → is_reserved w ≡ true → bytes_eq b w ≡ false
not_reserved b w free taken = false_from_ne_true (bytes_eq b w) (λ same. let is : b ≡ w = (bytes_eq-Decides b w).0 same in cc (ap is_reserved is))

reserved_starts : (is_reserved (codes "TRUE") ≡ true) × (is_reserved (codes "FALSE") ≡ true) × (is_reserved (codes "LENGTH") ≡ true)
unfolding is_reserved reserved_words
reserved_starts = (refl, refl, refl)

name_starts : (b : List ℕ) (s : ℕ) → is_reserved b ≡ false → start_of_primary (Some (record { kind = Word; bytes = b; start = s })) ≡ begins.Name
unfolding start_of_primary
name_starts b s free =
    rw (not_reserved b (codes "TRUE") free reserved_starts.0, not_reserved b (codes "FALSE") free reserved_starts.1, not_reserved b (codes "LENGTH") free reserved_starts.2) refl

start_name : (n : Named) (ds : List Due) (ts rest : List Placed) → IsName n → AreDue (due_name n ∷ ds) ts → start_of_primary (first (ts ++ rest)) ≡ begins.Name
start_name n ds [] rest good d = absurd d
start_name n ds (t ∷ ts) rest good d = (λ i. start_of_primary (Some (record { kind = d.0.0 i; bytes = d.0.1 i; start = t.start }))) ∙ name_starts n.name t.start good.1

start_named : (w : Written) (ts rest : List Placed) → IsNamed w → AreDue (spelling w) ts → start_of_primary (first (ts ++ rest)) ≡ begins.Name
start_named w ts rest good d =
    let (x, is, fine) = named_back w good in
    start_name x.0 (spelling_behind x.1) ts rest fine.0 (subst (λ ds. AreDue ds ts) (sym (ap spelling is) ∙ named_spelled x) d)

primary_begins : (w : Written) (ts rest : List Placed) → IsOf 7 w → AreDue (spelling w) ts → (k : PrimaryStart) × (start_of_primary (first (ts ++ rest)) ≡ k) × PrimaryIs k w
primary_begins (number m) ts rest good d = (begins.Number, start_number (first (ts ++ rest)) (opens_number m [] ts rest d), good.1)
primary_begins (text content p) ts rest good d = (begins.Text, start_text content p ts rest d, good.1)
primary_begins (truth true p) ts rest good d = (begins.True, start_due (word (codes "TRUE")) begins.True p [] ts rest true_starts d, tt)
primary_begins (truth false p) ts rest good d = (begins.False, start_due (word (codes "FALSE")) begins.False p [] ts rest false_starts d, tt)
primary_begins (parentheses p w) ts rest good d =
    (begins.Parenthesis, start_due (sign (codes "(")) begins.Parenthesis p (open_level (spelling w ++ due (sign (codes ")")) ∷ [])) ts rest parenthesis_starts d, good.1)
primary_begins (length_of p w) ts rest good d = (begins.Length, start_due (word (codes "LENGTH")) begins.Length p (open_level (spelling_argument w)) ts rest length_starts d, good.1)
primary_begins (label t m) ts rest good d = (begins.Name, start_named (label t m) ts rest good.1 d, good.1)
primary_begins (arm t m w) ts rest good d = (begins.Name, start_named (arm t m w) ts rest good.1 d, good.1)
primary_begins (items t ws) ts rest good d = (begins.Name, start_named (items t ws) ts rest good.1 d, good.1)
primary_begins (place m ss) ts rest good d = (begins.Name, start_named (place m ss) ts rest good.1 d, good.1)
primary_begins (chain of.Expression w ls) ts rest good d = absurd (omega (arith, good.0))
primary_begins (chain of.Conjunct w ls) ts rest good d = absurd (omega (arith, good.0))
primary_begins (chain of.Sum w ls) ts rest good d = absurd (omega (arith, good.0))
primary_begins (chain of.Term w ls) ts rest good d = absurd (omega (arith, good.0))
primary_begins (negation p w) ts rest good d = absurd (omega (arith, good.0))
primary_begins (comparison a j b) ts rest good d = absurd (omega (arith, good.0))
primary_begins (is_arm a m) ts rest good d = absurd (omega (arith, good.0))
primary_begins (minus p w) ts rest good d = absurd (omega (arith, good.0))

lawful_primary : (n : ℕ) {o o' : Openers} → LawfulOpeners n o o' → Lawful n (primary_with o) (primary_with o') spelling (IsOf 7) (Stays 7)
lawful_primary n {o} {o'} L = lawful_cased start_of_primary n (primary_by o) (primary_by o') PrimaryIs branches filled_same (λ w ts rest good d stays. primary_begins w ts rest good d)
  where
    branches : (k : PrimaryStart) → Branch start_of_primary k n (primary_by o k) (primary_by o' k) spelling (IsOf 7) (PrimaryIs k) (Stays 7)
    branches begins.Number =
        branch_of start_of_primary begins.Number n (IsOf 7) number_good
        (lawful_stays 7 n (lawful_mapped n number spelling (PrimaryIs begins.Number) (λ x. refl) (λ x g. g) number_back (lawful_number n)))
    branches begins.Text =
        branch_of start_of_primary begins.Text n (IsOf 7) text_good
        (lawful_stays 7 n (lawful_mapped n (λ x. text x.0 x.1) spelling (PrimaryIs begins.Text) (λ x. refl) (λ x g. g) text_back (lawful_quoted n)))
    branches begins.True =
        branch_of start_of_primary begins.True n (IsOf 7) true_good
        (lawful_stays 7 n (lawful_mapped n (truth true) spelling (PrimaryIs begins.True) (λ x. refl) (λ x g. tt) true_back (lawful_fixed_at n (word (codes "TRUE")))))
    branches begins.False =
        branch_of start_of_primary begins.False n (IsOf 7) false_good
        (lawful_stays 7 n (lawful_mapped n (truth false) spelling (PrimaryIs begins.False) (λ x. refl) (λ x g. tt) false_back (lawful_fixed_at n (word (codes "FALSE")))))
    branches begins.Parenthesis = opened_branch start_of_primary begins.Parenthesis is_parenthesis 7 n begun_parenthesis L.parentheses
    branches begins.Length = opened_branch start_of_primary begins.Length is_length 7 n begun_length L.length
    branches begins.Name = branch_of start_of_primary begins.Name n (IsOf 7) named_good (lawful_named n L)

    filled_same : (s : Stop) (ts : List Placed) (e : ℕ) → primary_by o' (start_of_primary None) (reader (Some s) ts e) ≡ primary_by o (start_of_primary None) (reader (Some s) ts e)
    filled_same s ts e = subst (λ (k : PrimaryStart). primary_by o' k (reader (Some s) ts e) ≡ primary_by o k (reader (Some s) ts e)) (sym no_primary) ((lawful_named n L).levels.filled s ts e)

-- Factors.

pub clash_at : (l : Lexeme) (p : ℕ) (ds : List Due) (ts rest : List Placed) (test : Placed → Bool) → ((s : ℕ) → test (at l s) ≡ false) → AreDue (due_at l p ∷ ds) ts → passes test (first (ts ++ rest)) ≡ false
clash_at l p ds [] rest test fails d = absurd d
clash_at l p ds (t ∷ ts) rest test fails d = (λ i. test (record { kind = d.0.0 i; bytes = d.0.1 i; start = t.start })) ∙ fails t.start

-- a name is no reserved word
pub name_no_word : (w : List ℕ) → is_reserved w ≡ true → (o : Option Placed) → passes is_name o ≡ true → passes (is_lexeme (word w)) o ≡ false
name_no_word w taken None hit = refl
name_no_word w taken (Some t) hit =
    let (kind, free) = and_parts (same_kind t.kind Word) (not (is_reserved t.bytes)) hit in
    rw (kind, not_reserved t.bytes w (not-true (is_reserved t.bytes) free) taken) refl

minus_starts : (s : ℕ) → start_of_primary (Some (at (sign (codes "-")) s)) ≡ begins.Name
unfolding start_of_primary
minus_starts s = refl

not_starts : (s : ℕ) → start_of_primary (Some (at (word (codes "NOT")) s)) ≡ begins.Name
unfolding start_of_primary
not_starts s = refl

-- a token with which no primary begins but, by its start, a name
pub no_lead : (l : Lexeme) → ((s : ℕ) → start_of_primary (Some (at l s)) ≡ begins.Name) → ((o : Option Placed) → passes is_name o ≡ true → passes (is_lexeme l) o ≡ false)
    → (w : Written) (ts rest : List Placed) → IsOf 7 w → AreDue (spelling w) ts → passes (is_lexeme l) (first (ts ++ rest)) ≡ false
no_lead l starts no_name w ts rest good d = let (k, is, such) = primary_begins w ts rest good d in by_start k is such
  where
    o : Option Placed
    o = first (ts ++ rest)

    by_test : (b : Bool) → passes (is_lexeme l) (first (ts ++ rest)) ≡ b → (passes (is_lexeme l) (first (ts ++ rest)) ≡ true → ⊥) → b ≡ false
    by_test false is never = refl
    by_test true is never = absurd (never is)

    as_name : (p : Option Placed) → passes (is_lexeme l) p ≡ true → start_of_primary p ≡ begins.Name
    as_name None hit = absurd cc
    as_name (Some t) hit = along (λ u. start_of_primary (Some u)) l t hit ∙ starts t.start

    by_start : (k : PrimaryStart) → start_of_primary (first (ts ++ rest)) ≡ k → PrimaryIs k w → passes (is_lexeme l) (first (ts ++ rest)) ≡ false
    by_start begins.Name is such =
        let (x, same, fine) = named_back w such in
        no_name (first (ts ++ rest)) (opens_name x.0 (spelling_behind x.1) ts rest fine.0 (subst (λ ds. AreDue ds ts) (sym (ap spelling same) ∙ named_spelled x) d))
    by_start begins.Number is such = by_test _ refl (λ hit. let other = as_name (first (ts ++ rest)) hit in cc)
    by_start begins.Text is such = by_test _ refl (λ hit. let other = as_name (first (ts ++ rest)) hit in cc)
    by_start begins.True is such = by_test _ refl (λ hit. let other = as_name (first (ts ++ rest)) hit in cc)
    by_start begins.False is such = by_test _ refl (λ hit. let other = as_name (first (ts ++ rest)) hit in cc)
    by_start begins.Parenthesis is such = by_test _ refl (λ hit. let other = as_name (first (ts ++ rest)) hit in cc)
    by_start begins.Length is such = by_test _ refl (λ hit. let other = as_name (first (ts ++ rest)) hit in cc)

abbrev FactorIs : Bool → Written → Type 0
FactorIs true w = IsMinus w
FactorIs false w = IsOf 7 w

pub lawful_factor : (n : ℕ) {o o' : Openers} → LawfulOpeners n o o' → Lawful n (factor_with o) (factor_with o') spelling (IsOf 6) (Stays 6)
lawful_factor n {o} {o'} L =
    lawful_cased (passes is_minus) n (either_case o.minus (primary_with o)) (either_case o'.minus (primary_with o')) FactorIs branches (lawful_primary n L).levels.filled factor_begins
  where
    branches : (b : Bool) → Branch (passes is_minus) b n (either_case o.minus (primary_with o) b) (either_case o'.minus (primary_with o') b) spelling (IsOf 6) (FactorIs b) (Stays 6)
    branches true = opened_branch (passes is_minus) true is_minus 6 n (λ ts is. is) L.minus
    branches false =
        branch_of (passes is_minus) false n (IsOf 6) (λ w is. (omega (arith, is.0), is.1))
        (lawful_weaker n (Stays 6) (λ t stays. omega arith) (lawful_primary n L))

    factor_begins : (w : Written) (ts rest : List Placed) → IsOf 6 w → AreDue (spelling w) ts → Stays 6 (first rest) → (b : Bool) × (passes is_minus (first (ts ++ rest)) ≡ b) × FactorIs b w
    factor_begins (minus p w) ts rest good d stays = (true, opens_due_at (sign (codes "-")) p (open_level (spelling w)) ts rest d, good.1)
    factor_begins (number m) ts rest good d stays = (false, no_lead (sign (codes "-")) minus_starts (name_no_sign (codes "-")) (number m) ts rest (omega arith, good.1) d, (omega arith, good.1))
    factor_begins (text c p) ts rest good d stays = (false, no_lead (sign (codes "-")) minus_starts (name_no_sign (codes "-")) (text c p) ts rest (omega arith, good.1) d, (omega arith, good.1))
    factor_begins (truth b p) ts rest good d stays = (false, no_lead (sign (codes "-")) minus_starts (name_no_sign (codes "-")) (truth b p) ts rest (omega arith, good.1) d, (omega arith, good.1))
    factor_begins (parentheses p w) ts rest good d stays = (false, no_lead (sign (codes "-")) minus_starts (name_no_sign (codes "-")) (parentheses p w) ts rest (omega arith, good.1) d, (omega arith, good.1))
    factor_begins (length_of p w) ts rest good d stays = (false, no_lead (sign (codes "-")) minus_starts (name_no_sign (codes "-")) (length_of p w) ts rest (omega arith, good.1) d, (omega arith, good.1))
    factor_begins (label t m) ts rest good d stays = (false, no_lead (sign (codes "-")) minus_starts (name_no_sign (codes "-")) (label t m) ts rest (omega arith, good.1) d, (omega arith, good.1))
    factor_begins (arm t m w) ts rest good d stays = (false, no_lead (sign (codes "-")) minus_starts (name_no_sign (codes "-")) (arm t m w) ts rest (omega arith, good.1) d, (omega arith, good.1))
    factor_begins (items t ws) ts rest good d stays = (false, no_lead (sign (codes "-")) minus_starts (name_no_sign (codes "-")) (items t ws) ts rest (omega arith, good.1) d, (omega arith, good.1))
    factor_begins (place m ss) ts rest good d stays = (false, no_lead (sign (codes "-")) minus_starts (name_no_sign (codes "-")) (place m ss) ts rest (omega arith, good.1) d, (omega arith, good.1))
    factor_begins (chain of.Expression w ls) ts rest good d stays = absurd (omega (arith, good.0))
    factor_begins (chain of.Conjunct w ls) ts rest good d stays = absurd (omega (arith, good.0))
    factor_begins (chain of.Sum w ls) ts rest good d stays = absurd (omega (arith, good.0))
    factor_begins (chain of.Term w ls) ts rest good d stays = absurd (omega (arith, good.0))
    factor_begins (negation p w) ts rest good d stays = absurd (omega (arith, good.0))
    factor_begins (comparison a j b) ts rest good d stays = absurd (omega (arith, good.0))
    factor_begins (is_arm a m) ts rest good d stays = absurd (omega (arith, good.0))

-- Chains.

links_parts : (c : Chain) (ls : Links) → AreLinks c ls → (ls ≡ no_links) ⊎ AreSome c ls
links_parts c no_links good = inl refl
links_parts c (link o w ls) good = inr good

pub some_links : (c : Chain) (ls : Links) → AreSome c ls → AreLinks c ls
some_links c no_links good = absurd good
some_links c (link o w ls) good = good

link_back : (c : Chain) (ls : Links) → AreSome c ls → (x : Operator × (Written × Links)) × (link x.0 x.1.0 x.1.1 ≡ ls) × (Joins c x.0 × (IsOf (operand_of c) x.1.0 × AreLinks c x.1.1))
link_back c no_links good = absurd good
link_back c (link o w ls) good = ((o, (w, ls)), refl, (good.0, ((good.1, good.2), good.3)))

open_links : (c : Chain) → Opens spelling_links (AreSome c) (joins c)
open_links c no_links ts rest good d = absurd good
open_links c (link o w ls) ts rest good d = opens_joint c o (spelling w ++ open_level (spelling_links ls)) ts rest good.0 d

open_deeper_links : (c : Chain) → Opens (λ ls. open_level (spelling_links ls)) (AreSome c) (joins c)
open_deeper_links c no_links ts rest good d = absurd good
open_deeper_links c (link o w ls) ts rest good d = opens_joint c o (open_level (spelling w ++ open_level (spelling_links ls))) ts rest good.0 d

operand_above : (c : Chain) → operand_of c ≡ suc (production_of_chain c)
operand_above of.Expression = refl
operand_above of.Conjunct = refl
operand_above of.Sum = refl
operand_above of.Term = refl

-- links, or what follows them, don't go on an operand
links_stay : (c : Chain) (ls : Links) (ts rest : List Placed) → AreLinks c ls → AreDue (spelling_links ls) ts → Stays (production_of_chain c) (first rest) → Stays (operand_of c) (first (ts ++ rest))
links_stay c no_links ts rest good d stays =
    subst (λ (us : List Placed). Stays (operand_of c) (first (us ++ rest))) (sym (AreDue-none ts d)) (omega (arith, operand_above c))
links_stay c (link o w ls) ts rest good d stays =
    let binds = grip_due (lexeme_of o) (suc (production_of_chain c)) (spelling w ++ open_level (spelling_links ls)) ts rest (grip_joint c o good.0) d in
    omega (arith, operand_above c)

deeper_links_stay : (c : Chain) (ls : Links) (ts rest : List Placed) → AreLinks c ls → AreDue (open_level (spelling_links ls)) ts → Stays (production_of_chain c) (first rest) → Stays (operand_of c) (first (ts ++ rest))
deeper_links_stay c ls ts rest good d stays = links_stay c ls ts rest good (opened_due (spelling_links ls) ts d) stays

pub lawful_links : (n : ℕ) (c : Chain) {p q : Reader → Written × Reader} {o o' : Openers} → LawfulOpeners n o o' → Lawful n p q spelling (IsOf (operand_of c)) (Stays (operand_of c))
    → Lawful n (links_with c p o) (links_with c q o') spelling_links (AreSome c) (Stays (production_of_chain c))
lawful_links n c L P =
    lawful_mapped n (λ x. link x.0 x.1.0 x.1.1) spelling_links (AreSome c) (λ x. refl) (λ x g. (g.0, g.1.0.0, g.1.0.1, g.1.1)) (link_back c)
    (lawful_then n (lawful_joint n c)
    (lawful_both n P
    (lawful_weaker n (Stays (production_of_chain c)) (λ t stays. (stays, joins_missed c t stays))
    (lawful_rest (joins c) n no_links (AreLinks c) refl tt (some_links c) (links_parts c) (open_deeper_links c) (L.links c)))
    (λ ls ts rest good d stays. deeper_links_stay c ls ts rest good d stays)))

pub chain_spelled : (c : Chain) (x : Written × Links) → spelling (chain_of c x.0 x.1) ≡ spelling x.0 ++ spelling_links x.1
chain_spelled c x = by_links x.1
  where
    by_links : (ls : Links) → spelling (chain_of c x.0 ls) ≡ spelling x.0 ++ spelling_links ls
    by_links no_links = sym (append-nil (spelling x.0))
    by_links (link o v ls) = refl

pub chain_kept : (c : Chain) (x : Written × Links) → IsOf (operand_of c) x.0 × AreLinks c x.1 → IsOf (production_of_chain c) (chain_of c x.0 x.1)
chain_kept c x g = by_links x.1 g.1
  where
    by_links : (ls : Links) → AreLinks c ls → IsOf (production_of_chain c) (chain_of c x.0 ls)
    by_links no_links h = (omega (arith, g.0.0, operand_above c), g.0.1)
    by_links (link o v ls) h = (omega arith, (g.0.0, g.0.1, h))

-- two chains are one, or what is of the second is of the first one's operands
same_chain : (c e : Chain) → (e ≡ c) ⊎ (production_of_chain c ≤ production_of_chain e → operand_of c ≤ production_of_chain e)
same_chain of.Expression of.Expression = inl refl
same_chain of.Conjunct of.Conjunct = inl refl
same_chain of.Sum of.Sum = inl refl
same_chain of.Term of.Term = inl refl
same_chain of.Expression of.Conjunct = inr (λ h. omega arith)
same_chain of.Expression of.Sum = inr (λ h. omega arith)
same_chain of.Expression of.Term = inr (λ h. omega arith)
same_chain of.Conjunct of.Expression = inr (λ h. omega arith)
same_chain of.Conjunct of.Sum = inr (λ h. omega arith)
same_chain of.Conjunct of.Term = inr (λ h. omega arith)
same_chain of.Sum of.Expression = inr (λ h. omega arith)
same_chain of.Sum of.Conjunct = inr (λ h. omega arith)
same_chain of.Sum of.Term = inr (λ h. omega arith)
same_chain of.Term of.Expression = inr (λ h. omega arith)
same_chain of.Term of.Conjunct = inr (λ h. omega arith)
same_chain of.Term of.Sum = inr (λ h. omega arith)

-- no chain is of these productions
between : (c : Chain) (k : ℕ) → (k ≡ 2) ⊎ ((k ≡ 3) ⊎ ((k ≡ 6) ⊎ (k ≡ 7))) → production_of_chain c ≤ k → operand_of c ≤ k
between of.Expression k is above = elim is [ inl a ↦ omega arith | inr b ↦ elim b [ inl a ↦ omega arith | inr b ↦ elim b [ inl a ↦ omega arith | inr a ↦ omega arith ] ] ]
between of.Conjunct k is above = elim is [ inl a ↦ omega arith | inr b ↦ elim b [ inl a ↦ omega arith | inr b ↦ elim b [ inl a ↦ omega arith | inr a ↦ omega arith ] ] ]
between of.Sum k is above = elim is [ inl a ↦ omega arith | inr b ↦ elim b [ inl a ↦ omega arith | inr b ↦ elim b [ inl a ↦ omega arith | inr a ↦ omega arith ] ] ]
between of.Term k is above = elim is [ inl a ↦ omega arith | inr b ↦ elim b [ inl a ↦ omega arith | inr b ↦ elim b [ inl a ↦ omega arith | inr a ↦ omega arith ] ] ]

abbrev ChainBack : Chain → Written → Type 0
ChainBack c a = (x : Written × Links) × (chain_of c x.0 x.1 ≡ a) × (IsOf (operand_of c) x.0 × AreLinks c x.1)

-- an operand by itself
by_itself : (c : Chain) (a : Written) → operand_of c ≤ production_of a → IsWritten a → ChainBack c a
by_itself c a above good = ((a, no_links), refl, ((above, good), tt))

of_its_own : (c : Chain) (w : Written) (ls : Links) → IsWritten (chain c w ls) → ChainBack c (chain c w ls)
of_its_own c w no_links good = absurd good
of_its_own c w (link o v ls) good = ((w, link o v ls), refl, ((good.0, good.1), good.2))

chain_back : (c : Chain) (a : Written) → IsOf (production_of_chain c) a → ChainBack c a
chain_back c (chain e w ls) good =
    elim (same_chain c e) [
      | inl same ↦ subst (λ (f : Chain). IsWritten (chain f w ls) → ChainBack c (chain f w ls)) (sym same) (of_its_own c w ls) good.1
      | inr above ↦ by_itself c (chain e w ls) (above good.0) good.1
    ]
chain_back c (negation p w) good = by_itself c (negation p w) (between c 2 (inl refl) good.0) good.1
chain_back c (comparison a o b) good = by_itself c (comparison a o b) (between c 3 (inr (inl refl)) good.0) good.1
chain_back c (is_arm a m) good = by_itself c (is_arm a m) (between c 3 (inr (inl refl)) good.0) good.1
chain_back c (minus p w) good = by_itself c (minus p w) (between c 6 (inr (inr (inl refl))) good.0) good.1
chain_back c (number m) good = by_itself c (number m) (between c 7 (inr (inr (inr refl))) good.0) good.1
chain_back c (text t p) good = by_itself c (text t p) (between c 7 (inr (inr (inr refl))) good.0) good.1
chain_back c (truth b p) good = by_itself c (truth b p) (between c 7 (inr (inr (inr refl))) good.0) good.1
chain_back c (parentheses p w) good = by_itself c (parentheses p w) (between c 7 (inr (inr (inr refl))) good.0) good.1
chain_back c (length_of p w) good = by_itself c (length_of p w) (between c 7 (inr (inr (inr refl))) good.0) good.1
chain_back c (label t m) good = by_itself c (label t m) (between c 7 (inr (inr (inr refl))) good.0) good.1
chain_back c (arm t m w) good = by_itself c (arm t m w) (between c 7 (inr (inr (inr refl))) good.0) good.1
chain_back c (items t ws) good = by_itself c (items t ws) (between c 7 (inr (inr (inr refl))) good.0) good.1
chain_back c (place m ss) good = by_itself c (place m ss) (between c 7 (inr (inr (inr refl))) good.0) good.1

lawful_chain : (n : ℕ) (c : Chain) {p q : Reader → Written × Reader} {o o' : Openers} → LawfulOpeners n o o' → Lawful n p q spelling (IsOf (operand_of c)) (Stays (operand_of c))
    → Lawful n (chain_with c p o) (chain_with c q o') spelling (IsOf (production_of_chain c)) (Stays (production_of_chain c))
lawful_chain n c L P =
    lawful_mapped n (λ x. chain_of c x.0 x.1) spelling (IsOf (production_of_chain c)) (chain_spelled c) (chain_kept c) (chain_back c)
    (lawful_both n P
    (lawful_weaker n (Stays (production_of_chain c)) (λ t stays. (stays, joins_missed c t stays))
    (lawful_rest (joins c) n no_links (AreLinks c) refl tt (some_links c) (links_parts c) (open_links c) (lawful_at (joins c) n (lawful_links n c L P))))
    (links_stay c))

-- Relations.

abbrev pub spelling_related : Related → List Due
spelling_related alone = []
spelling_related (compared o w) = due (lexeme_of o) ∷ spelling w
spelling_related (arm_named n) = due (word (codes "IS")) ∷ due_name n ∷ []

abbrev pub IsRelated : Related → Type 0
IsRelated alone = Unit {0}
IsRelated (compared o w) = Compares o × IsOf 4 w
IsRelated (arm_named n) = IsName n

abbrev pub RelatedIs : Relating → Related → Type 0
RelatedIs comparing (compared o w) = Compares o × IsOf 4 w
RelatedIs naming (arm_named n) = IsName n
RelatedIs ending alone = Unit {0}
RelatedIs _ _ = ⊥

pub related_good : (k : Relating) (x : Related) → RelatedIs k x → IsRelated x
related_good comparing (compared o w) is = is
related_good naming (arm_named n) is = is
related_good ending alone is = tt
related_good comparing alone is = absurd is
related_good comparing (arm_named n) is = absurd is
related_good naming alone is = absurd is
related_good naming (compared o w) is = absurd is
related_good ending (compared o w) is = absurd is
related_good ending (arm_named n) is = absurd is

compared_back : (x : Related) → RelatedIs comparing x → (y : Operator × Written) × (compared y.0 y.1 ≡ x) × (Compares y.0 × IsOf 4 y.1)
compared_back (compared o w) is = ((o, w), refl, is)
compared_back alone is = absurd is
compared_back (arm_named n) is = absurd is

arm_back : (x : Related) → RelatedIs naming x → (n : Named) × (arm_named n ≡ x) × IsName n
arm_back (arm_named n) is = (n, refl, is)
arm_back alone is = absurd is
arm_back (compared o w) is = absurd is

relating_comparison : (o : Operator) → Compares o → (s : ℕ) → relating_of (Some (at (lexeme_of o) s)) ≡ comparing
relating_comparison op.Equal j s = refl
relating_comparison op.Unequal j s = refl
relating_comparison op.Less j s = refl
relating_comparison op.AtMost j s = refl
relating_comparison op.Greater j s = refl
relating_comparison op.AtLeast j s = refl
relating_comparison _ j s = absurd j

relating_due : (l : Lexeme) (k : Relating) (ds : List Due) (ts rest : List Placed) → ((s : ℕ) → relating_of (Some (at l s)) ≡ k) → AreDue (due l ∷ ds) ts → relating_of (first (ts ++ rest)) ≡ k
relating_due l k ds [] rest is d = absurd d
relating_due l k ds (t ∷ ts) rest is d = (λ i. relating_of (Some (record { kind = d.0.0 i; bytes = d.0.1 i; start = t.start }))) ∙ is t.start

relating_ends : (o : Option Placed) → passes (is_operator comparisons) o ≡ false → passes (is_lexeme (word (codes "IS"))) o ≡ false → relating_of o ≡ ending
relating_ends None compares is = refl
relating_ends (Some t) compares is = rw (compares, is) refl

lawful_sum : (n : ℕ) {o o' : Openers} → LawfulOpeners n o o' → Lawful n (sum_with o) (sum_with o') spelling (IsOf 4) (Stays 4)
lawful_sum n L = lawful_chain n of.Sum L (lawful_chain n of.Term L (lawful_factor n L))

lawful_related : (n : ℕ) {o o' : Openers} → LawfulOpeners n o o' → Lawful n (choose_by relating_of (related_by o)) (choose_by relating_of (related_by o')) spelling_related IsRelated (Stays 3)
lawful_related n {o} {o'} L = lawful_cased relating_of n (related_by o) (related_by o') RelatedIs branches (λ s ts e. refl) begins
  where
    branches : (k : Relating) → Branch relating_of k n (related_by o k) (related_by o' k) spelling_related IsRelated (RelatedIs k) (Stays 3)
    branches comparing =
        branch_of relating_of comparing n IsRelated (related_good comparing)
        (lawful_weaker n (Stays 3) (λ t stays. omega arith)
        (lawful_mapped n (λ x. compared x.0 x.1) spelling_related (RelatedIs comparing) (λ x. refl) (λ x g. g) compared_back (lawful_then n (lawful_compares n) (lawful_sum n L))))
    branches naming =
        branch_of relating_of naming n IsRelated (related_good naming)
        (lawful_stays 3 n (lawful_mapped n arm_named spelling_related (RelatedIs naming) (λ x. refl) (λ x g. g) arm_back (lawful_behind n (word (codes "IS")) (lawful_name n))))
    branches ending = record {
      narrow = sound_nothing alone spelling_related IsRelated tt refl;
      wide = sound_nothing alone spelling_related IsRelated tt refl;
      complete = record { reads = ends };
      reaches = λ ts e is. (levels_nothing n alone refl (sound_nothing alone spelling_related IsRelated tt refl)).reaches ts e;
    }
      where
        ends : (x : Related) (ts rest : List Placed) (e : ℕ) → RelatedIs ending x × AreWithin n (spelling_related x) → AreDue (spelling_related x) ts → Stays 3 (first rest)
            → nothing alone (reader None (ts ++ rest) e) ≡ (x, reader None rest e)
        ends alone ts rest e good d stays =
            subst (λ (us : List Placed). nothing alone (reader None (us ++ rest) e) ≡ (alone, reader None rest e)) (sym (AreDue-none ts d)) refl
        ends (compared o w) ts rest e good d stays = absurd good.0
        ends (arm_named m) ts rest e good d stays = absurd good.0

    begins : (x : Related) (ts rest : List Placed) → IsRelated x → AreDue (spelling_related x) ts → Stays 3 (first rest) → (k : Relating) × (relating_of (first (ts ++ rest)) ≡ k) × RelatedIs k x
    begins alone ts rest good d stays = (
      ending,
      subst (λ (us : List Placed). relating_of (first (us ++ rest)) ≡ ending) (sym (AreDue-none ts d))
          (relating_ends (first rest) (compares_missed 3 (first rest) (omega arith) stays) (is_missed 3 (first rest) (omega arith) stays)),
      tt,
    )
    begins (compared o w) ts rest good d stays = (comparing, relating_due (lexeme_of o) comparing (spelling w) ts rest (relating_comparison o good.0) d, good)
    begins (arm_named m) ts rest good d stays = (naming, relating_due (word (codes "IS")) naming (due_name m ∷ []) ts rest (λ s. refl) d, good)

pub related_spelled : (x : Written × Related) → spelling (with_relation x.0 x.1) ≡ spelling x.0 ++ spelling_related x.1
related_spelled x = by_related x.1
  where
    by_related : (y : Related) → spelling (with_relation x.0 y) ≡ spelling x.0 ++ spelling_related y
    by_related alone = sym (append-nil (spelling x.0))
    by_related (compared o w) = refl
    by_related (arm_named n) = refl

pub related_kept : (x : Written × Related) → IsOf 4 x.0 × IsRelated x.1 → IsOf 3 (with_relation x.0 x.1)
related_kept x g = by_related x.1 g.1
  where
    by_related : (y : Related) → IsRelated y → IsOf 3 (with_relation x.0 y)
    by_related alone h = (omega (arith, g.0.0), g.0.1)
    by_related (compared o w) h = (omega arith, (g.0.0, g.0.1, h.0, h.1.0, h.1.1))
    by_related (arm_named n) h = (omega arith, (g.0.0, g.0.1, h))

abbrev RelationBack : Written → Type 0
RelationBack a = (x : Written × Related) × (with_relation x.0 x.1 ≡ a) × (IsOf 4 x.0 × IsRelated x.1)

no_relation : (a : Written) → 4 ≤ production_of a → IsWritten a → RelationBack a
no_relation a above good = ((a, alone), refl, ((above, good), tt))

related_back : (a : Written) → IsOf 3 a → RelationBack a
related_back (comparison a o b) good = ((a, compared o b), refl, ((good.1.0, good.1.1), (good.1.2, (good.1.3, good.1.4))))
related_back (is_arm a m) good = ((a, arm_named m), refl, ((good.1.0, good.1.1), good.1.2))
related_back (chain of.Expression w ls) good = absurd (omega (arith, good.0))
related_back (chain of.Conjunct w ls) good = absurd (omega (arith, good.0))
related_back (chain of.Sum w ls) good = no_relation (chain of.Sum w ls) (omega arith) good.1
related_back (chain of.Term w ls) good = no_relation (chain of.Term w ls) (omega arith) good.1
related_back (negation p w) good = absurd (omega (arith, good.0))
related_back (minus p w) good = no_relation (minus p w) (omega arith) good.1
related_back (number m) good = no_relation (number m) (omega arith) good.1
related_back (text t p) good = no_relation (text t p) (omega arith) good.1
related_back (truth b p) good = no_relation (truth b p) (omega arith) good.1
related_back (parentheses p w) good = no_relation (parentheses p w) (omega arith) good.1
related_back (length_of p w) good = no_relation (length_of p w) (omega arith) good.1
related_back (label t m) good = no_relation (label t m) (omega arith) good.1
related_back (arm t m w) good = no_relation (arm t m w) (omega arith) good.1
related_back (items t ws) good = no_relation (items t ws) (omega arith) good.1
related_back (place m ss) good = no_relation (place m ss) (omega arith) good.1

-- what stands behind the first sum, or behind the relation, doesn't go on a sum
related_stays : (y : Related) (ts rest : List Placed) → IsRelated y → AreDue (spelling_related y) ts → Stays 3 (first rest) → Stays 4 (first (ts ++ rest))
related_stays alone ts rest good d stays = subst (λ (us : List Placed). Stays 4 (first (us ++ rest))) (sym (AreDue-none ts d)) (omega arith)
related_stays (compared o w) ts rest good d stays = let binds = grip_due (lexeme_of o) 4 (spelling w) ts rest (grip_comparison o good.0) d in omega arith
related_stays (arm_named n) ts rest good d stays = let binds = grip_due (word (codes "IS")) 4 (due_name n ∷ []) ts rest (λ s. refl) d in omega arith

lawful_relation : (n : ℕ) {o o' : Openers} → LawfulOpeners n o o' → Lawful n (relation_with o) (relation_with o') spelling (IsOf 3) (Stays 3)
lawful_relation n L =
    lawful_mapped n (λ x. with_relation x.0 x.1) spelling (IsOf 3) related_spelled related_kept related_back (lawful_both n (lawful_sum n L) (lawful_related n L) related_stays)

-- Negations.

not_reserved_word : is_reserved (codes "NOT") ≡ true
unfolding is_reserved reserved_words
not_reserved_word = refl

not_is_no_name : (o : Option Placed) → passes is_name o ≡ true → passes is_not o ≡ false
not_is_no_name o hit = name_no_word (codes "NOT") not_reserved_word o hit

-- no relation begins with NOT
no_not : (w : Written) (ts rest : List Placed) → IsOf 3 w → AreDue (spelling w) ts → passes is_not (first (ts ++ rest)) ≡ false
no_not (chain of.Expression w ls) ts rest good d = absurd (omega (arith, good.0))
no_not (chain of.Conjunct w ls) ts rest good d = absurd (omega (arith, good.0))
no_not (chain of.Sum w no_links) ts rest good d = absurd good.1
no_not (chain of.Sum w (link o v ls)) ts rest good d =
    let (us, vs, same, front, back) = AreDue-split (spelling w) (spelling_links (link o v ls)) ts d in
    subst (λ (l : List Placed). passes is_not (first l) ≡ false) (sym (ap (λ l. l ++ rest) same ∙ append_assoc us vs rest))
    (no_not w us (vs ++ rest) (omega (arith, good.1.0), good.1.1) front)
no_not (chain of.Term w no_links) ts rest good d = absurd good.1
no_not (chain of.Term w (link o v ls)) ts rest good d =
    let (us, vs, same, front, back) = AreDue-split (spelling w) (spelling_links (link o v ls)) ts d in
    subst (λ (l : List Placed). passes is_not (first l) ≡ false) (sym (ap (λ l. l ++ rest) same ∙ append_assoc us vs rest))
    (no_not w us (vs ++ rest) (omega (arith, good.1.0), good.1.1) front)
no_not (negation p w) ts rest good d = absurd (omega (arith, good.0))
no_not (comparison a o b) ts rest good d =
    let (us, vs, same, front, back) = AreDue-split (spelling a) (due (lexeme_of o) ∷ spelling b) ts d in
    subst (λ (l : List Placed). passes is_not (first l) ≡ false) (sym (ap (λ l. l ++ rest) same ∙ append_assoc us vs rest))
    (no_not a us (vs ++ rest) (omega (arith, good.1.0), good.1.1) front)
no_not (is_arm a m) ts rest good d =
    let (us, vs, same, front, back) = AreDue-split (spelling a) (due (word (codes "IS")) ∷ due_name m ∷ []) ts d in
    subst (λ (l : List Placed). passes is_not (first l) ≡ false) (sym (ap (λ l. l ++ rest) same ∙ append_assoc us vs rest))
    (no_not a us (vs ++ rest) (omega (arith, good.1.0), good.1.1) front)
no_not (minus p w) ts rest good d = clash_at (sign (codes "-")) p (open_level (spelling w)) ts rest is_not (λ s. refl) d
no_not (number m) ts rest good d = no_lead (word (codes "NOT")) not_starts not_is_no_name (number m) ts rest (omega arith, good.1) d
no_not (text t p) ts rest good d = no_lead (word (codes "NOT")) not_starts not_is_no_name (text t p) ts rest (omega arith, good.1) d
no_not (truth b p) ts rest good d = no_lead (word (codes "NOT")) not_starts not_is_no_name (truth b p) ts rest (omega arith, good.1) d
no_not (parentheses p w) ts rest good d = no_lead (word (codes "NOT")) not_starts not_is_no_name (parentheses p w) ts rest (omega arith, good.1) d
no_not (length_of p w) ts rest good d = no_lead (word (codes "NOT")) not_starts not_is_no_name (length_of p w) ts rest (omega arith, good.1) d
no_not (label t m) ts rest good d = no_lead (word (codes "NOT")) not_starts not_is_no_name (label t m) ts rest (omega arith, good.1) d
no_not (arm t m w) ts rest good d = no_lead (word (codes "NOT")) not_starts not_is_no_name (arm t m w) ts rest (omega arith, good.1) d
no_not (items t ws) ts rest good d = no_lead (word (codes "NOT")) not_starts not_is_no_name (items t ws) ts rest (omega arith, good.1) d
no_not (place m ss) ts rest good d = no_lead (word (codes "NOT")) not_starts not_is_no_name (place m ss) ts rest (omega arith, good.1) d

abbrev NegatedIs : Bool → Written → Type 0
NegatedIs true w = IsNegation w
NegatedIs false w = IsOf 3 w

pub lawful_negated : (n : ℕ) {o o' : Openers} → LawfulOpeners n o o' → Lawful n (negated_with o) (negated_with o') spelling (IsOf 2) (Stays 2)
lawful_negated n {o} {o'} L =
    lawful_cased (passes is_not) n (either_case o.negation (relation_with o)) (either_case o'.negation (relation_with o')) NegatedIs branches (lawful_relation n L).levels.filled negated_begins
  where
    branches : (b : Bool) → Branch (passes is_not) b n (either_case o.negation (relation_with o) b) (either_case o'.negation (relation_with o') b) spelling (IsOf 2) (NegatedIs b) (Stays 2)
    branches true = opened_branch (passes is_not) true is_not 2 n (λ ts is. is) L.negation
    branches false =
        branch_of (passes is_not) false n (IsOf 2) (λ w is. (omega (arith, is.0), is.1))
        (lawful_weaker n (Stays 2) (λ t stays. omega arith) (lawful_relation n L))

    as_relation : (w : Written) (ts rest : List Placed) → 3 ≤ production_of w → IsWritten w → AreDue (spelling w) ts → (b : Bool) × (passes is_not (first (ts ++ rest)) ≡ b) × NegatedIs b w
    as_relation w ts rest above good d = (false, no_not w ts rest (above, good) d, (above, good))

    negated_begins : (w : Written) (ts rest : List Placed) → IsOf 2 w → AreDue (spelling w) ts → Stays 2 (first rest) → (b : Bool) × (passes is_not (first (ts ++ rest)) ≡ b) × NegatedIs b w
    negated_begins (negation p w) ts rest good d stays = (true, opens_due_at (word (codes "NOT")) p (open_level (spelling w)) ts rest d, good.1)
    negated_begins (chain of.Expression w ls) ts rest good d stays = absurd (omega (arith, good.0))
    negated_begins (chain of.Conjunct w ls) ts rest good d stays = absurd (omega (arith, good.0))
    negated_begins (chain of.Sum w ls) ts rest good d stays = as_relation (chain of.Sum w ls) ts rest (omega arith) good.1 d
    negated_begins (chain of.Term w ls) ts rest good d stays = as_relation (chain of.Term w ls) ts rest (omega arith) good.1 d
    negated_begins (comparison a o b) ts rest good d stays = as_relation (comparison a o b) ts rest (omega arith) good.1 d
    negated_begins (is_arm a m) ts rest good d stays = as_relation (is_arm a m) ts rest (omega arith) good.1 d
    negated_begins (minus p w) ts rest good d stays = as_relation (minus p w) ts rest (omega arith) good.1 d
    negated_begins (number m) ts rest good d stays = as_relation (number m) ts rest (omega arith) good.1 d
    negated_begins (text t p) ts rest good d stays = as_relation (text t p) ts rest (omega arith) good.1 d
    negated_begins (truth b p) ts rest good d stays = as_relation (truth b p) ts rest (omega arith) good.1 d
    negated_begins (parentheses p w) ts rest good d stays = as_relation (parentheses p w) ts rest (omega arith) good.1 d
    negated_begins (length_of p w) ts rest good d stays = as_relation (length_of p w) ts rest (omega arith) good.1 d
    negated_begins (label t m) ts rest good d stays = as_relation (label t m) ts rest (omega arith) good.1 d
    negated_begins (arm t m w) ts rest good d stays = as_relation (arm t m w) ts rest (omega arith) good.1 d
    negated_begins (items t ws) ts rest good d stays = as_relation (items t ws) ts rest (omega arith) good.1 d
    negated_begins (place m ss) ts rest good d stays = as_relation (place m ss) ts rest (omega arith) good.1 d

-- Expressions.

pub lawful_operand : (n : ℕ) {o o' : Openers} → LawfulOpeners n o o' → (c : Chain) → Lawful n (operand_with o c) (operand_with o' c) spelling (IsOf (operand_of c)) (Stays (operand_of c))
lawful_operand n L of.Expression = lawful_chain n of.Conjunct L (lawful_negated n L)
lawful_operand n L of.Conjunct = lawful_negated n L
lawful_operand n L of.Sum = lawful_chain n of.Term L (lawful_factor n L)
lawful_operand n L of.Term = lawful_factor n L

pub lawful_expression : (n : ℕ) {o o' : Openers} → LawfulOpeners n o o' → Lawful n (expression_with o) (expression_with o') spelling IsWritten (Stays 0)
lawful_expression n L =
    let all = lawful_chain n of.Expression L (lawful_operand n L of.Expression) in
    record {
      narrow = sound_good IsWritten (λ w g. g.1) all.narrow;
      wide = sound_good IsWritten (λ w g. g.1) all.wide;
      complete = complete_good (λ w. IsWritten w × AreWithin n (spelling w)) (λ w g. ((omega arith, g.0), g.1)) all.complete;
      levels = all.levels;
    }
