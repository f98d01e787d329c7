-- Conditions: what is read is spelled, what is spelled is read, and no level too many is.
use Rattle.std.proofs.Common.{◌≡◌, ℕ, zero, suc, ◌<◌, Bool, true, false, List, [], ◌∷◌, ◌++◌, refl, sym, ◌∙◌, ap, subst, arith, append_assoc, append-nil}
use Rattle.std.specs.Prelude.{Option, Some, None, codes, if◌then◌else◌}
use Rattle.circus_text.specs.declared.token.TokenKind.TheVariants.{Number}
use Rattle.circus_text.specs.Token.{Lexeme, IsSpelling}
use Rattle.circus_syntax.specs.declared.named.Named.{Named}
use Rattle.circus_syntax.specs.declared.stopping.StopCause.TheVariants.{TooDeep}
use Rattle.circus_syntax.specs.Placed.{Placed, first, word, sign, is_lexeme, Due, due, due_name, deeper, open_level, AreWithin, AreDue}
use Rattle.circus_syntax.specs.Reader.{Reader, passes, next, nothing, choose_by, either, either_case}
use Rattle.circus_syntax.specs.Reading.{behind}
use Rattle.circus_syntax.specs.Spelling.{IsEach, IsListed, IfWritten}
use Rattle.circus_syntax.proofs.Opened.{StandsDeeper, opened_due}
use Rattle.circus_syntax.proofs.Sound.{Sound, reader, AreDue-none, sound_nothing, sound_both, sound_mapped, sound_opened, sound_cased}
use Rattle.circus_syntax.proofs.Repeats.{Shrinks, sound_either}
use Rattle.circus_syntax.proofs.Complete.{cased_is}
use Rattle.circus_syntax.proofs.Tokens.{sound_fixed, sound_behind, shrinks_both, shrinks_behind, opens_due}
use Rattle.circus_syntax.proofs.TypesRead.{is_dot}
use Rattle.circus_syntax.proofs.Widens.{calm_of}
use Rattle.circus_syntax.proofs.Levels.{levels_either, levels_nothing, levels_too_deep}
use Rattle.circus_syntax.proofs.Lawful.{Lawful, Branch, lawful_at, lawful_weaker, lawful_fixed, lawful_both, lawful_mapped, lawful_opened, lawful_behind, lawful_rest, lawful_cased, branch_of, sound_good, sound_stopped}
use Rattle.circus_place.specs.declared.condition.Comparison.{Comparison}
use Rattle.circus_place.specs.declared.text.ConstantText.TheVariants as constant
use Rattle.circus_place.specs.declared.text.OperandText.{OperandText}
use Rattle.circus_place.specs.declared.text.OperandText.TheVariants as operand
use Rattle.circus_place.specs.declared.start.AloneStart.{AloneStart}
use Rattle.circus_place.specs.declared.start.AloneStart.TheVariants as begins
use Rattle.circus_place.specs.Written.{Written, or, and, not, group, differ, compare, holds}
use Rattle.circus_place.specs.Grammar.{truth_word, spelling_operand, sign_of, or_word, and_word, ors, ands, opened_times, spelling_condition, IsCondition, IsConjunct, IsNegated, IsOperand}
use Rattle.circus_place.specs.Seen.Reading.{seen_comparison, relation_from, relation, differ_test, filled_condition, too_deep, no_deeper, alone_start, alone_by, parts_behind, join_chain, chain, grouped_with, denied_with, negation, further_and, further_or, conjunct, condition}
use Rattle.circus_place.proofs.Parts.{each_listed, listed_each, Calms, IsCompared, IsRelated, IsDiffering, lawful_relation, lawful_differing}
use Rattle.circus_place.proofs.Ways.{due_is, number_is, text_is, seen_is, Image, lawful_image, sound_read, lawful_read, branch_too_deep}

-- What stands by itself stands in a chain, and what stands in a chain of ANDs in one of ORs.

conjunct_of : (w : Written) → IsNegated w → IsConjunct w
conjunct_of (or a b) g = g
conjunct_of (and a b) g = absurd g
conjunct_of (not a) g = g
conjunct_of (group a) g = g
conjunct_of (differ name) g = g
conjunct_of (compare c a b) g = g
conjunct_of (holds a) g = g

condition_of : (w : Written) → IsConjunct w → IsCondition w
condition_of (or a b) g = absurd g
condition_of (and a b) g = g
condition_of (not a) g = g
condition_of (group a) g = g
condition_of (differ name) g = g
condition_of (compare c a b) g = g
condition_of (holds a) g = g

-- The parts of a chain behind the first, each with its operator, and each a level deeper than the one before.

abbrev pub spelling_part : Lexeme → Written → List Due
spelling_part operator w = due operator ∷ spelling_condition w

abbrev pub spelling_parts : Lexeme → List Written → List Due
spelling_parts operator [] = []
spelling_parts operator (x ∷ xs) = spelling_part operator x ++ open_level (spelling_parts operator xs)

opened_append : (ds es : List Due) → open_level (ds ++ es) ≡ open_level ds ++ open_level es
opened_append [] es = refl
opened_append (d ∷ ds) es = ap (λ l. deeper d ∷ l) (opened_append ds es)

times_append : (n : ℕ) (ds es : List Due) → opened_times n (ds ++ es) ≡ opened_times n ds ++ opened_times n es
times_append zero ds es = refl
times_append (suc n) ds es = ap (opened_times n) (opened_append ds es) ∙ times_append n (open_level ds) (open_level es)

times_none : (n : ℕ) → opened_times n [] ≡ []
times_none zero = refl
times_none (suc n) = times_none n

-- a chain that goes on: so many operators stand before the part
more_spelled : (n : ℕ) (before : List Due) (operator : Lexeme) (x : Written) (xs : List Written)
    → (before ++ opened_times n (spelling_part operator x)) ++ opened_times (suc n) (spelling_parts operator xs) ≡ before ++ opened_times n (spelling_parts operator (x ∷ xs))
more_spelled n before operator x xs =
    append_assoc before (opened_times n (spelling_part operator x)) (opened_times (suc n) (spelling_parts operator xs))
    ∙ ap (λ l. before ++ l) (sym (times_append n (spelling_part operator x) (open_level (spelling_parts operator xs))))

and_spelled : (w : Written) (xs : List Written) → spelling_condition (join_chain and w xs) ≡ spelling_condition w ++ opened_times (ands w) (spelling_parts and_word xs)
and_spelled w [] = sym (ap (λ l. spelling_condition w ++ l) (times_none (ands w)) ∙ append-nil (spelling_condition w))
and_spelled w (x ∷ xs) = and_spelled (and w x) xs ∙ more_spelled (ands w) (spelling_condition w) and_word x xs

or_spelled : (w : Written) (xs : List Written) → spelling_condition (join_chain or w xs) ≡ spelling_condition w ++ opened_times (ors w) (spelling_parts or_word xs)
or_spelled w [] = sym (ap (λ l. spelling_condition w ++ l) (times_none (ors w)) ∙ append-nil (spelling_condition w))
or_spelled w (x ∷ xs) = or_spelled (or w x) xs ∙ more_spelled (ors w) (spelling_condition w) or_word x xs

pub and_chain : (w : Written) (xs : List Written) → ands w ≡ 0 → spelling_condition (join_chain and w xs) ≡ spelling_condition w ++ spelling_parts and_word xs
and_chain w xs none = subst (λ n. spelling_condition (join_chain and w xs) ≡ spelling_condition w ++ opened_times n (spelling_parts and_word xs)) none (and_spelled w xs)

pub or_chain : (w : Written) (xs : List Written) → ors w ≡ 0 → spelling_condition (join_chain or w xs) ≡ spelling_condition w ++ spelling_parts or_word xs
or_chain w xs none = subst (λ n. spelling_condition (join_chain or w xs) ≡ spelling_condition w ++ opened_times n (spelling_parts or_word xs)) none (or_spelled w xs)

-- a chain and its parts
and_good : (w : Written) (xs : List Written) → IsConjunct w → IsEach IsNegated xs → IsConjunct (join_chain and w xs)
and_good w [] g f = g
and_good w (x ∷ xs) g f = and_good (and w x) xs (g, f.0) f.1

or_good : (w : Written) (xs : List Written) → IsCondition w → IsEach IsConjunct xs → IsCondition (join_chain or w xs)
or_good w [] g f = g
or_good w (x ∷ xs) g f = or_good (or w x) xs (g, f.0) f.1

each_more : (Good : Written → Type 0) (xs : List Written) (x : Written) → IsEach Good xs → Good x → IsEach Good (xs ++ x ∷ [])
each_more Good [] x f g = (g, tt)
each_more Good (y ∷ ys) x f g = (f.0, each_more Good ys x f.1 g)

joined_more : (join : Written → Written → Written) (w : Written) (xs : List Written) (x : Written) → join_chain join w (xs ++ x ∷ []) ≡ join (join_chain join w xs) x
joined_more join w [] x = refl
joined_more join w (y ∷ ys) x = joined_more join (join w y) ys x

abbrev AndParts : Written → Type 0
AndParts w = (x : Written × List Written) × (join_chain and x.0 x.1 ≡ w) × (IsNegated x.0 × IsEach IsNegated x.1) × (spelling_condition (join_chain and x.0 x.1) ≡ spelling_condition x.0 ++ spelling_parts and_word x.1)

no_ands : (w : Written) → IsNegated w → ands w ≡ 0
no_ands (or a b) g = refl
no_ands (and a b) g = absurd g
no_ands (not a) g = refl
no_ands (group a) g = refl
no_ands (differ name) g = refl
no_ands (compare c a b) g = refl
no_ands (holds a) g = refl

no_ors : (w : Written) → IsConjunct w → ors w ≡ 0
no_ors (or a b) g = absurd g
no_ors (and a b) g = refl
no_ors (not a) g = refl
no_ors (group a) g = refl
no_ors (differ name) g = refl
no_ors (compare c a b) g = refl
no_ors (holds a) g = refl

and_single : (w : Written) → IsNegated w → AndParts w
and_single w g = ((w, []), refl, (g, tt), sym (append-nil (spelling_condition w)))

and_parts_of : (w : Written) → IsConjunct w → AndParts w
and_parts_of (or a b) g = absurd g
and_parts_of (and a b) g =
    let (x, is, good, spelled) = and_parts_of a g.0 in
    ((x.0, x.1 ++ b ∷ []), joined_more and x.0 x.1 b ∙ ap (λ c. and c b) is, (good.0, each_more IsNegated x.1 b good.1 g.1), and_chain x.0 (x.1 ++ b ∷ []) (no_ands x.0 good.0))
and_parts_of (not a) g = and_single (not a) g
and_parts_of (group a) g = and_single (group a) g
and_parts_of (differ name) g = and_single (differ name) g
and_parts_of (compare c a b) g = and_single (compare c a b) g
and_parts_of (holds a) g = and_single (holds a) g

abbrev OrParts : Written → Type 0
OrParts w = (x : Written × List Written) × (join_chain or x.0 x.1 ≡ w) × (IsConjunct x.0 × IsEach IsConjunct x.1) × (spelling_condition (join_chain or x.0 x.1) ≡ spelling_condition x.0 ++ spelling_parts or_word x.1)

or_single : (w : Written) → IsConjunct w → OrParts w
or_single w g = ((w, []), refl, (g, tt), sym (append-nil (spelling_condition w)))

or_parts_of : (w : Written) → IsCondition w → OrParts w
or_parts_of (or a b) g =
    let (x, is, good, spelled) = or_parts_of a g.0 in
    ((x.0, x.1 ++ b ∷ []), joined_more or x.0 x.1 b ∙ ap (λ c. or c b) is, (good.0, each_more IsConjunct x.1 b good.1 g.1), or_chain x.0 (x.1 ++ b ∷ []) (no_ors x.0 good.0))
or_parts_of (and a b) g = or_single (and a b) g
or_parts_of (not a) g = or_single (not a) g
or_parts_of (group a) g = or_single (group a) g
or_parts_of (differ name) g = or_single (differ name) g
or_parts_of (compare c a b) g = or_single (compare c a b) g
or_parts_of (holds a) g = or_single (holds a) g

-- What is read by itself is no chain.

abbrev Single : Written → Type 0
Single w = (ors w ≡ 0) × (ands w ≡ 0)

single_relation : (a : OperandText) (o : Option (Comparison × OperandText)) → Single (relation_from a o)
single_relation a None = (refl, refl)
single_relation a (Some x) = (refl, refl)

single_by : (denied grouped : Reader → Written × Reader) (k : AloneStart) (r : Reader) → Single (denied r).0 → Single (grouped r).0 → Single (alone_by denied grouped k r).0
unfolding relation differ_test
single_by denied grouped begins.Not r d g = d
single_by denied grouped begins.Group r d g = g
single_by denied grouped begins.Differ r d g = (refl, refl)
single_by denied grouped begins.Relation r d g = single_relation _ _

pub single_negated : (n : ℕ) (r : Reader) → Single (negation n r).0
unfolding negation too_deep
single_negated zero r = single_by _ _ (alone_start (next r)) r (refl, refl) (refl, refl)
single_negated (suc n) r = single_by _ _ (alone_start (next r)) r (refl, refl) (refl, refl)

single_joined : (w : Written) (xs : List Written) → ors w ≡ 0 → ors (join_chain and w xs) ≡ 0
single_joined w [] none = none
single_joined w (x ∷ xs) none = single_joined (and w x) xs refl

pub single_conjunct : (n : ℕ) (r : Reader) → ors (conjunct n r).0 ≡ 0
unfolding conjunct
single_conjunct n r = single_joined (negation n r).0 (parts_behind and_word (negation n) (further_and n) (negation n r).1).0 (single_negated n r).0

-- What is read is spelled.

abbrev spelling_further : Lexeme → List Written → List Due
spelling_further operator xs = open_level (spelling_parts operator xs)

sound_chained : (operator : Lexeme) {Good : Written → Type 0} {part : Reader → Written × Reader} {further : Reader → List Written × Reader} → Sound part spelling_condition Good
    → Sound further (spelling_further operator) (IsEach Good) → Sound (parts_behind operator part further) (spelling_parts operator) (IsEach Good)
sound_chained operator {Good} P F =
    sound_either (is_lexeme operator)
    (sound_mapped (λ x. x.0 ∷ x.1) (spelling_parts operator) (IsEach Good) (λ x. refl) (λ x g. g) (sound_both (sound_behind operator P) F))
    (sound_nothing [] (spelling_parts operator) (IsEach Good) tt refl)

sound_ands : {part : Reader → Written × Reader} {further : Reader → List Written × Reader} → ((r : Reader) → ands (part r).0 ≡ 0) → Sound part spelling_condition IsNegated
    → Sound further (spelling_further and_word) (IsEach IsNegated) → Sound (chain and and_word part further) spelling_condition IsConjunct
sound_ands single P F =
    sound_read (λ x. join_chain and x.0 x.1) spelling_condition IsConjunct (λ r. and_chain _ _ (single r)) (λ x g. and_good x.0 x.1 (conjunct_of x.0 g.0) g.1) (sound_both P (sound_chained and_word P F))

sound_ors : {part : Reader → Written × Reader} {further : Reader → List Written × Reader} → ((r : Reader) → ors (part r).0 ≡ 0) → Sound part spelling_condition IsConjunct
    → Sound further (spelling_further or_word) (IsEach IsConjunct) → Sound (chain or or_word part further) spelling_condition IsCondition
sound_ors single P F =
    sound_read (λ x. join_chain or x.0 x.1) spelling_condition IsCondition (λ r. or_chain _ _ (single r)) (λ x g. or_good x.0 x.1 (condition_of x.0 g.0) g.1) (sound_both P (sound_chained or_word P F))

sound_no_deeper : (operator : Lexeme) (Good : Written → Type 0) → Sound no_deeper (spelling_further operator) (IsEach Good)
unfolding no_deeper
sound_no_deeper operator Good = sound_stopped TooDeep (λ at. []) (spelling_further operator) (IsEach Good) (λ at. (tt, [], tt, tt))

sound_no_further : (operator : Lexeme) (Good : Written → Type 0) → Sound (either (is_lexeme operator) no_deeper (nothing [])) (spelling_further operator) (IsEach Good)
sound_no_further operator Good = sound_either (is_lexeme operator) (sound_no_deeper operator Good) (sound_nothing [] (spelling_further operator) (IsEach Good) tt refl)

abbrev zero_token : ℕ → Placed
zero_token at = record { kind = Number; bytes = codes "0"; start = at }

zero_is_number : IsSpelling Number (codes "0")
zero_is_number = record { formed = (omega arith, refl); no_bad_byte = refl; no_long_number = refl }

sound_too_deep : Sound too_deep spelling_condition IsNegated
unfolding too_deep
sound_too_deep = sound_stopped TooDeep filled_condition spelling_condition IsNegated (λ at. (omega arith, zero_token at ∷ [], (refl, tt), ((refl, zero_is_number, refl, refl), tt)))

sound_denied : {inner : Reader → Written × Reader} → Sound inner spelling_condition IsNegated → Sound (denied_with inner) spelling_condition IsNegated
sound_denied P = sound_mapped (λ w. not w) spelling_condition IsNegated (λ w. refl) (λ w g. g) (sound_opened (sound_behind (word (codes "NOT")) P))

sound_grouped : {inner : Reader → Written × Reader} → Sound inner spelling_condition IsCondition → Sound (grouped_with inner) spelling_condition IsNegated
sound_grouped P =
    sound_mapped (λ x. group x.0) spelling_condition IsNegated (λ x. refl) (λ x g. g.0)
    (sound_opened (sound_behind (sign (codes "(")) (sound_both P (sound_fixed (sign (codes ")"))))))

-- what stands by itself, by what it begins with
abbrev IsNegatedBy : AloneStart → Written → Type 0
IsNegatedBy begins.Not = Image not IsNegated
IsNegatedBy begins.Group = Image (λ (x : Written × Unit {0}). group x.0) (λ x. IsCondition x.0 × Unit {0})
IsNegatedBy begins.Differ = Image (λ (x : Unit {0} × (Unit {0} × Named)). differ x.1.1) IsDiffering
IsNegatedBy begins.Relation = Image (λ (x : OperandText × Option (Comparison × OperandText)). relation_from x.0 x.1) IsRelated

related_good : (a : OperandText) (o : Option (Comparison × OperandText)) → IsOperand a → IfWritten IsCompared o → IsNegated (relation_from a o)
related_good a None g h = g
related_good a (Some x) g h = (g, h)

good_negated : (k : AloneStart) (w : Written) → IsNegatedBy k w → IsNegated w
good_negated begins.Not w (x, is, g) = subst IsNegated is g
good_negated begins.Group w (x, is, g) = subst IsNegated is g.0
good_negated begins.Differ w (x, is, g) = subst IsNegated is g.1.1
good_negated begins.Relation w (x, is, g) = subst IsNegated is (related_good x.0 x.1 g.0 g.1)

sound_alone : {denied grouped : Reader → Written × Reader} → Sound denied spelling_condition IsNegated → Sound grouped spelling_condition IsNegated → Sound (choose_by alone_start (alone_by denied grouped)) spelling_condition IsNegated
sound_alone {denied} {grouped} D G = sound_cased alone_start (alone_by denied grouped) by_start
  where
    by_start : (k : AloneStart) → Sound (alone_by denied grouped k) spelling_condition IsNegated
    by_start begins.Not = D
    by_start begins.Group = G
    by_start begins.Differ = sound_good IsNegated (good_negated begins.Differ) (lawful_differing 0).narrow
    by_start begins.Relation = sound_good IsNegated (good_negated begins.Relation) (lawful_relation 0).narrow

mutual
  unfolding negation further_and further_or conjunct

  sound_negated : (n : ℕ) → Sound (negation n) spelling_condition IsNegated
  sound_negated zero = sound_alone sound_too_deep sound_too_deep
  sound_negated (suc n) = sound_alone (sound_denied (sound_negated n)) (sound_grouped (sound_ors (single_conjunct n) (sound_ands (λ r. (single_negated n r).1) (sound_negated n) (sound_further_and n)) (sound_further_or n)))

  sound_further_and : (n : ℕ) → Sound (further_and n) (spelling_further and_word) (IsEach IsNegated)
  sound_further_and zero = sound_no_further and_word IsNegated
  sound_further_and (suc n) = sound_opened (sound_chained and_word (sound_negated n) (sound_further_and n))

  sound_further_or : (n : ℕ) → Sound (further_or n) (spelling_further or_word) (IsEach IsConjunct)
  sound_further_or zero = sound_no_further or_word IsConjunct
  sound_further_or (suc n) = sound_opened (sound_chained or_word (sound_ands (λ r. (single_negated n r).1) (sound_negated n) (sound_further_and n)) (sound_further_or n))

-- And what is spelled is read, where no level too many is opened.

shrinks_denied : {inner : Reader → Written × Reader} → Sound inner spelling_condition IsNegated → Shrinks (is_lexeme (word (codes "NOT"))) (denied_with inner)
shrinks_denied P r hit = shrinks_behind (word (codes "NOT")) P r hit

shrinks_grouped : {inner : Reader → Written × Reader} → Sound inner spelling_condition IsCondition → Shrinks (is_lexeme (sign (codes "("))) (grouped_with inner)
shrinks_grouped P r hit = shrinks_behind (sign (codes "(")) (sound_both P (sound_fixed (sign (codes ")")))) r hit

not_begins : (ts : List Placed) → alone_start (first ts) ≡ begins.Not → passes (is_lexeme (word (codes "NOT"))) (first ts) ≡ true
unfolding alone_start
not_begins [] is = absurd (cc)
not_begins (t ∷ ts) is = by_case (is_lexeme (word (codes "NOT")) t) (is_lexeme (sign (codes "(")) t) (is_lexeme (word (codes "ALL")) t) is
  where
    by_case : (b c d : Bool) → (if b then begins.Not else (if c then begins.Group else (if d then begins.Differ else begins.Relation))) ≡ begins.Not → b ≡ true
    by_case true c d is = refl
    by_case false true d is = absurd (cc)
    by_case false false true is = absurd (cc)
    by_case false false false is = absurd (cc)

group_begins : (ts : List Placed) → alone_start (first ts) ≡ begins.Group → passes (is_lexeme (sign (codes "("))) (first ts) ≡ true
unfolding alone_start
group_begins [] is = absurd (cc)
group_begins (t ∷ ts) is = by_case (is_lexeme (word (codes "NOT")) t) (is_lexeme (sign (codes "(")) t) (is_lexeme (word (codes "ALL")) t) is
  where
    by_case : (b c d : Bool) → (if b then begins.Not else (if c then begins.Group else (if d then begins.Differ else begins.Relation))) ≡ begins.Group → c ≡ true
    by_case true c d is = absurd (cc)
    by_case false true d is = refl
    by_case false false true is = absurd (cc)
    by_case false false false is = absurd (cc)

-- The parts of a chain.

-- what ends a chain of ANDs, and one of ORs
abbrev pub EndsAnd : Option Placed → Type 0
EndsAnd o = Calms o × (passes (is_lexeme and_word) o ≡ false)

abbrev pub EndsOr : Option Placed → Type 0
EndsOr o = EndsAnd o × (passes (is_lexeme or_word) o ≡ false)

and_follows : (o : Option Placed) → passes (is_lexeme and_word) o ≡ true → Calms o
unfolding seen_comparison
and_follows o hit = (seen_is (passes is_dot) false and_word (λ s. refl) o hit, seen_is seen_comparison None and_word (λ s. refl) o hit)

or_follows : (o : Option Placed) → passes (is_lexeme or_word) o ≡ true → EndsAnd o
unfolding seen_comparison
or_follows o hit = (
  (seen_is (passes is_dot) false or_word (λ s. refl) o hit, seen_is seen_comparison None or_word (λ s. refl) o hit),
  seen_is (passes (is_lexeme and_word)) false or_word (λ s. refl) o hit,
)

-- the operator of the next part ends the part before
parts_link : (operator : Lexeme) (Stays : Option Placed → Type 0) → ((o : Option Placed) → passes (is_lexeme operator) o ≡ true → Stays o)
    → (xs : List Written) (ts rest : List Placed) → AreDue (spelling_parts operator xs) ts → Stays (first rest) → Stays (first (ts ++ rest))
parts_link operator Stays follows [] ts rest d stays = subst (λ (us : List Placed). Stays (first (us ++ rest))) (sym (AreDue-none ts d)) stays
parts_link operator Stays follows (x ∷ xs) ts rest d stays = follows (first (ts ++ rest)) (opens_due operator (spelling_condition x ++ open_level (spelling_parts operator xs)) ts rest d)

lawful_chained : (n : ℕ) (operator : Lexeme) {Good : Written → Type 0} {Stays : Option Placed → Type 0} {part part' : Reader → Written × Reader} {further further' : Reader → List Written × Reader}
    → ((o : Option Placed) → passes (is_lexeme operator) o ≡ true → Stays o) → Lawful n part part' spelling_condition Good Stays
    → Lawful n further further' (spelling_further operator) (IsEach Good) (λ o. Stays o × (passes (is_lexeme operator) o ≡ false))
    → Lawful n (parts_behind operator part further) (parts_behind operator part' further') (spelling_parts operator) (IsEach Good) (λ o. Stays o × (passes (is_lexeme operator) o ≡ false))
lawful_chained n operator {Good} {Stays} follows P F =
    lawful_weaker n (λ o. Stays o × (passes (is_lexeme operator) o ≡ false)) (λ o h. (h, h.1))
    (lawful_rest (is_lexeme operator) n [] (IsEach Good) refl tt (listed_each Good) (each_listed Good) opens
    (lawful_at (is_lexeme operator) n
    (lawful_mapped n (λ x. x.0 ∷ x.1) (spelling_parts operator) (IsListed Good) (λ x. refl) (λ x g. g) back
    (lawful_both n (lawful_behind n operator P) F (λ xs ts rest g d h. parts_link operator Stays follows xs ts rest (opened_due (spelling_parts operator xs) ts d) h.0)))))
  where
    back : (xs : List Written) → IsListed Good xs → (x : Written × List Written) × (x.0 ∷ x.1 ≡ xs) × (Good x.0 × IsEach Good x.1)
    back [] g = absurd g
    back (x ∷ xs) g = ((x, xs), refl, g)

    opens : (xs : List Written) (ts rest : List Placed) → IsListed Good xs → AreDue (spelling_parts operator xs) ts → passes (is_lexeme operator) (first (ts ++ rest)) ≡ true
    opens [] ts rest g d = absurd g
    opens (x ∷ xs) ts rest g d = opens_due operator (spelling_condition x ++ open_level (spelling_parts operator xs)) ts rest d

-- where no level is left
lawful_no_further : (operator : Lexeme) {Good : Written → Type 0} {Stays : Option Placed → Type 0} {part : Reader → Written × Reader} {further : Reader → List Written × Reader} → Sound part spelling_condition Good
    → Sound further (spelling_further operator) (IsEach Good)
    → Lawful 0 (either (is_lexeme operator) no_deeper (nothing [])) (parts_behind operator part further) (spelling_further operator) (IsEach Good) (λ o. Stays o × (passes (is_lexeme operator) o ≡ false))
unfolding no_deeper
lawful_no_further operator {Good} {Stays} {part} {further} P F = record {
  narrow = sound_no_further operator Good;
  wide = sound_opened (sound_chained operator P F);
  complete = record { reads = reads };
  levels =
      levels_either (is_lexeme operator) 0
      (levels_too_deep (is_lexeme operator) (λ at. []) (sound_no_deeper operator Good)
      (calm_of (sound_mapped (λ x. x.0 ∷ x.1) (spelling_parts operator) (IsEach Good) (λ x. refl) (λ x g. g) (sound_both (sound_behind operator P) F)))
      (λ r hit. shrinks_both (is_lexeme operator) (behind operator part) further (shrinks_behind operator P) F r hit) (λ r. omega arith))
      (levels_nothing 0 [] refl (sound_nothing [] (spelling_further operator) (IsEach Good) tt refl))
      (calm_of (sound_no_further operator Good)) (calm_of (sound_opened (sound_chained operator P F)));
}
  where
    reads : (xs : List Written) (ts rest : List Placed) (e : ℕ) → IsEach Good xs × AreWithin 0 (spelling_further operator xs) → AreDue (spelling_further operator xs) ts → Stays (first rest) × (passes (is_lexeme operator) (first rest) ≡ false)
        → either (is_lexeme operator) no_deeper (nothing []) (reader None (ts ++ rest) e) ≡ (xs, reader None rest e)
    reads [] ts rest e good d h =
        subst (λ (us : List Placed). either (is_lexeme operator) no_deeper (nothing []) (reader None (us ++ rest) e) ≡ ([], reader None rest e)) (sym (AreDue-none ts d))
        (cased_is (passes (is_lexeme operator)) (either_case no_deeper (nothing [])) false rest e ([], reader None rest e) h.1 refl)
    reads (x ∷ xs) ts rest e good d h = absurd (omega (arith, good.1.0))

-- What stands by itself.

operand_is : (a : OperandText) (ds : List Due) (ts rest : List Placed) → AreDue (spelling_operand a ++ ds) ts → alone_start (first (ts ++ rest)) ≡ begins.Relation
unfolding alone_start
operand_is (operand.Attribute m name) ds ts rest d = number_is alone_start begins.Relation m (due (sign (codes ".")) ∷ due_name name ∷ ds) ts rest (λ w s. refl) d
operand_is (operand.Fixed (constant.Number n)) ds ts rest d = number_is alone_start begins.Relation n ds ts rest (λ w s. refl) d
operand_is (operand.Fixed (constant.Text content at)) ds ts rest d = text_is alone_start begins.Relation content at ds ts rest (λ w s. refl) d
operand_is (operand.Fixed (constant.Truth true)) ds ts rest d = due_is alone_start begins.Relation (truth_word true) ds ts rest (λ s. refl) d
operand_is (operand.Fixed (constant.Truth false)) ds ts rest d = due_is alone_start begins.Relation (truth_word false) ds ts rest (λ s. refl) d

alone_begins : (w : Written) (ts rest : List Placed) → IsNegated w → AreDue (spelling_condition w) ts → (k : AloneStart) × (alone_start (first (ts ++ rest)) ≡ k) × IsNegatedBy k w
unfolding alone_start
alone_begins (or a b) ts rest g d = absurd g
alone_begins (and a b) ts rest g d = absurd g
alone_begins (not a) ts rest g d =
    (begins.Not, due_is alone_start begins.Not (word (codes "NOT")) (spelling_condition a) ts rest (λ s. refl) (opened_due (due (word (codes "NOT")) ∷ spelling_condition a) ts d), (a, refl, g))
alone_begins (group a) ts rest g d =
    let inside = spelling_condition a ++ due (sign (codes ")")) ∷ [] in
    (begins.Group, due_is alone_start begins.Group (sign (codes "(")) inside ts rest (λ s. refl) (opened_due (due (sign (codes "(")) ∷ inside) ts d), ((a, tt), refl, (g, tt)))
alone_begins (differ name) ts rest g d =
    (begins.Differ, due_is alone_start begins.Differ (word (codes "ALL")) (due (word (codes "DIFFER")) ∷ due_name name ∷ []) ts rest (λ s. refl) d, ((tt, (tt, name)), refl, (tt, (tt, g))))
alone_begins (compare c a b) ts rest g d = (begins.Relation, operand_is a (due (sign_of c) ∷ spelling_operand b) ts rest d, ((a, Some (c, b)), refl, (g.0, g.1)))
alone_begins (holds a) ts rest g d = (begins.Relation, operand_is a [] ts rest (subst (λ ds. AreDue ds ts) (sym (append-nil (spelling_operand a))) d), ((a, None), refl, (g, tt)))

lawful_alone : (n : ℕ) {denied denied' grouped grouped' : Reader → Written × Reader} → Branch alone_start begins.Not n denied denied' spelling_condition IsNegated (IsNegatedBy begins.Not) Calms
    → Branch alone_start begins.Group n grouped grouped' spelling_condition IsNegated (IsNegatedBy begins.Group) Calms
    → Lawful n (choose_by alone_start (alone_by denied grouped)) (choose_by alone_start (alone_by denied' grouped')) spelling_condition IsNegated Calms
unfolding alone_start
lawful_alone n {denied} {denied'} {grouped} {grouped'} D G =
    lawful_cased alone_start n (alone_by denied grouped) (alone_by denied' grouped') IsNegatedBy branches (λ s ts e. refl) (λ w ts rest g d stays. alone_begins w ts rest g d)
  where
    branches : (k : AloneStart) → Branch alone_start k n (alone_by denied grouped k) (alone_by denied' grouped' k) spelling_condition IsNegated (IsNegatedBy k) Calms
    branches begins.Not = D
    branches begins.Group = G
    branches begins.Differ = branch_of alone_start begins.Differ n IsNegated (good_negated begins.Differ) (lawful_differing n)
    branches begins.Relation = branch_of alone_start begins.Relation n IsNegated (good_negated begins.Relation) (lawful_relation n)

lawful_denied : (n : ℕ) {inner inner' : Reader → Written × Reader} → Lawful n inner inner' spelling_condition IsNegated Calms
    → Branch alone_start begins.Not (suc n) (denied_with inner) (denied_with inner') spelling_condition IsNegated (IsNegatedBy begins.Not) Calms
lawful_denied n P =
    branch_of alone_start begins.Not (suc n) IsNegated (good_negated begins.Not)
    (lawful_image (suc n) (λ w. not w) spelling_condition (λ w. refl) (lawful_opened n (lawful_behind n (word (codes "NOT")) P)))

closing : (u : Unit {0}) (ts rest : List Placed) → AreDue (due (sign (codes ")")) ∷ []) ts → EndsOr (first (ts ++ rest))
unfolding seen_comparison
closing u ts rest d = (
  (
    (due_is (passes is_dot) false (sign (codes ")")) [] ts rest (λ s. refl) d, due_is seen_comparison None (sign (codes ")")) [] ts rest (λ s. refl) d),
    due_is (passes (is_lexeme and_word)) false (sign (codes ")")) [] ts rest (λ s. refl) d,
  ),
  due_is (passes (is_lexeme or_word)) false (sign (codes ")")) [] ts rest (λ s. refl) d,
)

lawful_grouped : (n : ℕ) {inner inner' : Reader → Written × Reader} → Lawful n inner inner' spelling_condition IsCondition EndsOr
    → Branch alone_start begins.Group (suc n) (grouped_with inner) (grouped_with inner') spelling_condition IsNegated (IsNegatedBy begins.Group) Calms
lawful_grouped n P =
    branch_of alone_start begins.Group (suc n) IsNegated (good_negated begins.Group)
    (lawful_weaker (suc n) Calms (λ o h. tt)
    (lawful_image (suc n) (λ x. group x.0) spelling_condition (λ x. refl)
    (lawful_opened n (lawful_behind n (sign (codes "(")) (lawful_both n P (lawful_fixed n (sign (codes ")"))) (λ u ts rest g d h. closing u ts rest d))))))

-- where no level is left
denied_too_deep : {inner : Reader → Written × Reader} → Sound inner spelling_condition IsNegated
    → Branch alone_start begins.Not 0 too_deep (denied_with inner) spelling_condition IsNegated (IsNegatedBy begins.Not) Calms
unfolding too_deep
denied_too_deep P =
    branch_too_deep alone_start begins.Not (is_lexeme (word (codes "NOT"))) filled_condition sound_too_deep (sound_denied P) (shrinks_denied P) (λ r. omega arith)
    (λ w is. subst (λ v. StandsDeeper 0 (spelling_condition v) []) is.1 (omega arith)) not_begins

grouped_too_deep : {inner : Reader → Written × Reader} → Sound inner spelling_condition IsCondition
    → Branch alone_start begins.Group 0 too_deep (grouped_with inner) spelling_condition IsNegated (IsNegatedBy begins.Group) Calms
unfolding too_deep
grouped_too_deep P =
    branch_too_deep alone_start begins.Group (is_lexeme (sign (codes "("))) filled_condition sound_too_deep (sound_grouped P) (shrinks_grouped P) (λ r. omega arith)
    (λ w is. subst (λ v. StandsDeeper 0 (spelling_condition v) []) is.1 (omega arith)) group_begins

-- Chains.

lawful_ands : (n : ℕ) {part part' : Reader → Written × Reader} {further further' : Reader → List Written × Reader} → ((r : Reader) → ands (part r).0 ≡ 0) → ((r : Reader) → ands (part' r).0 ≡ 0)
    → Lawful n part part' spelling_condition IsNegated Calms → Lawful n further further' (spelling_further and_word) (IsEach IsNegated) EndsAnd
    → Lawful n (chain and and_word part further) (chain and and_word part' further') spelling_condition IsConjunct EndsAnd
lawful_ands n single single' P F =
    lawful_read n (λ x. join_chain and x.0 x.1) spelling_condition IsConjunct (λ r. and_chain _ _ (single r)) (λ r. and_chain _ _ (single' r)) (λ x g. and_good x.0 x.1 (conjunct_of x.0 g.0) g.1) and_parts_of
    (lawful_both n P (lawful_chained n and_word and_follows P F) (λ xs ts rest g d h. parts_link and_word Calms and_follows xs ts rest d h.0))

lawful_ors : (n : ℕ) {part part' : Reader → Written × Reader} {further further' : Reader → List Written × Reader} → ((r : Reader) → ors (part r).0 ≡ 0) → ((r : Reader) → ors (part' r).0 ≡ 0)
    → Lawful n part part' spelling_condition IsConjunct EndsAnd → Lawful n further further' (spelling_further or_word) (IsEach IsConjunct) EndsOr
    → Lawful n (chain or or_word part further) (chain or or_word part' further') spelling_condition IsCondition EndsOr
lawful_ors n single single' P F =
    lawful_read n (λ x. join_chain or x.0 x.1) spelling_condition IsCondition (λ r. or_chain _ _ (single r)) (λ r. or_chain _ _ (single' r)) (λ x g. or_good x.0 x.1 (condition_of x.0 g.0) g.1) or_parts_of
    (lawful_both n P (lawful_chained n or_word or_follows P F) (λ xs ts rest g d h. parts_link or_word EndsAnd or_follows xs ts rest d h.0))

mutual
  unfolding negation further_and further_or conjunct

  lawful_negated : (n m : ℕ) → n < m → Lawful n (negation n) (negation m) spelling_condition IsNegated Calms
  lawful_negated n zero less = absurd (omega (arith, less))
  lawful_negated zero (suc m) less =
      lawful_alone 0 (denied_too_deep (sound_negated m))
      (grouped_too_deep (sound_ors (single_conjunct m) (sound_ands (λ r. (single_negated m r).1) (sound_negated m) (sound_further_and m)) (sound_further_or m)))
  lawful_negated (suc n) (suc m) less =
      let fewer : n < m = omega (arith, less) in
      lawful_alone (suc n) (lawful_denied n (lawful_negated n m fewer))
      (lawful_grouped n (lawful_ors n (single_conjunct n) (single_conjunct m) (lawful_ands n (λ r. (single_negated n r).1) (λ r. (single_negated m r).1) (lawful_negated n m fewer) (lawful_further_and n m fewer)) (lawful_further_or n m fewer)))

  lawful_further_and : (n m : ℕ) → n < m → Lawful n (further_and n) (further_and m) (spelling_further and_word) (IsEach IsNegated) EndsAnd
  lawful_further_and n zero less = absurd (omega (arith, less))
  lawful_further_and zero (suc m) less = lawful_no_further and_word (sound_negated m) (sound_further_and m)
  lawful_further_and (suc n) (suc m) less =
      let fewer : n < m = omega (arith, less) in
      lawful_opened n (lawful_chained n and_word and_follows (lawful_negated n m fewer) (lawful_further_and n m fewer))

  lawful_further_or : (n m : ℕ) → n < m → Lawful n (further_or n) (further_or m) (spelling_further or_word) (IsEach IsConjunct) EndsOr
  lawful_further_or n zero less = absurd (omega (arith, less))
  lawful_further_or zero (suc m) less =
      lawful_no_further or_word (sound_ands (λ r. (single_negated m r).1) (sound_negated m) (sound_further_and m)) (sound_further_or m)
  lawful_further_or (suc n) (suc m) less =
      let fewer : n < m = omega (arith, less) in
      lawful_opened n (lawful_chained n or_word or_follows (lawful_ands n (λ r. (single_negated n r).1) (λ r. (single_negated m r).1) (lawful_negated n m fewer) (lawful_further_and n m fewer)) (lawful_further_or n m fewer))

pub lawful_condition : (n m : ℕ) → n < m → Lawful n (condition n) (condition m) spelling_condition IsCondition EndsOr
unfolding condition conjunct
lawful_condition n m less =
    lawful_ors n (single_conjunct n) (single_conjunct m)
    (lawful_ands n (λ r. (single_negated n r).1) (λ r. (single_negated m r).1) (lawful_negated n m less) (lawful_further_and n m less)) (lawful_further_or n m less)
