-- Conditions: where reading stops in one, what stands behind the tokens that were read is filled in.
use Rattle.std.proofs.Common.{◌≡◌, ℕ, zero, suc, Bool, true, false, List, [], ◌∷◌, refl}
use Rattle.std.specs.Prelude.{codes, if◌then◌else◌}
use Rattle.circus_text.specs.Token.{Lexeme}
use Rattle.circus_syntax.specs.declared.stopping.StopCause.TheVariants.{TooDeep}
use Rattle.circus_syntax.specs.Placed.{Placed, first, word, sign, is_lexeme}
use Rattle.circus_syntax.specs.Reader.{Reader, nothing, choose_by, either, passes}
use Rattle.circus_syntax.proofs.Twice.{still_both, still_mapped}
use Rattle.circus_syntax.proofs.Fills.{Fills, FillsAt, at_then, at_mapped, at_behind, fills_both, fills_mapped, fills_fixed, fills_either, fills_nothing, fills_stopped, fills_cased, still_behind}
use Rattle.circus_place.specs.declared.start.AloneStart.{AloneStart}
use Rattle.circus_place.specs.declared.start.AloneStart.TheVariants as begins
use Rattle.circus_place.specs.Written.{Written, or, and, not, group}
use Rattle.circus_place.specs.Grammar.{or_word, and_word}
use Rattle.circus_place.specs.Filling.{as_condition}
use Rattle.circus_place.specs.Seen.Reading.{filled_condition, too_deep, no_deeper, alone_start, alone_by, parts_behind, join_chain, chain, grouped_with, denied_with, negation, further_and, further_or, conjunct, condition}
use Rattle.circus_place.proofs.TwiceConditions.{TwiceCondition, as_parts, and_so, or_so, twice_alone_by, twice_too_deep, twice_denied, twice_grouped, twice_ands, twice_ors, twice_negated, twice_further_and, twice_further_or}
use Rattle.circus_place.proofs.FillParts.{fills_relation, differing_at}

fills_too_deep : Fills too_deep as_condition
unfolding too_deep
fills_too_deep = fills_stopped TooDeep filled_condition as_condition (λ at. (refl, tt))

-- The parts of a chain.

fills_no_further : (operator : Lexeme) → Fills (either (is_lexeme operator) no_deeper (nothing [])) as_parts
unfolding no_deeper
fills_no_further operator =
    let stops = fills_stopped TooDeep (λ at. []) as_parts (λ at. tt) in
    fills_either (is_lexeme operator) stops.stays (λ ts hit. stops.runs ts) (fills_nothing [] as_parts refl)

fills_parts : (operator : Lexeme) {part : Reader → Written × Reader} {further : Reader → List Written × Reader} → Fills part as_condition → Fills further as_parts → Fills (parts_behind operator part further) as_parts
fills_parts operator T F =
    fills_either (is_lexeme operator) (still_mapped (λ x. x.0 ∷ x.1) (still_both (still_behind operator T.stays) F.stays))
    (λ ts hit. at_mapped (λ x. x.0 ∷ x.1) as_parts (λ x. refl) ts (at_then (still_behind operator T.stays) ts (at_behind false operator ts hit T) F))
    (fills_nothing [] as_parts refl)

fills_ands : {part : Reader → Written × Reader} {further : Reader → List Written × Reader} → Fills part as_condition → Fills further as_parts → Fills (chain and and_word part further) as_condition
fills_ands T F = fills_mapped (λ x. join_chain and x.0 x.1) as_condition (λ x. and_so x.0 x.1) (fills_both T (fills_parts and_word T F))

fills_ors : {part : Reader → Written × Reader} {further : Reader → List Written × Reader} → Fills part as_condition → Fills further as_parts → Fills (chain or or_word part further) as_condition
fills_ors T F = fills_mapped (λ x. join_chain or x.0 x.1) as_condition (λ x. or_so x.0 x.1) (fills_both T (fills_parts or_word T F))

-- What stands by itself.

-- the token that it begins with
abbrev AloneBegun : AloneStart → List Placed → Type 0
AloneBegun begins.Not ts = passes (is_lexeme (word (codes "NOT"))) (first ts) ≡ true
AloneBegun begins.Group ts = passes (is_lexeme (sign (codes "("))) (first ts) ≡ true
AloneBegun begins.Differ ts = passes (is_lexeme (word (codes "ALL"))) (first ts) ≡ true
AloneBegun begins.Relation ts = Unit {0}

alone_begun : (ts : List Placed) → AloneBegun (alone_start (first ts)) ts
unfolding alone_start
alone_begun [] = tt
alone_begun (t ∷ ts) = by_tests (is_lexeme (word (codes "NOT")) t) (is_lexeme (sign (codes "(")) t) (is_lexeme (word (codes "ALL")) t) refl refl refl
  where
    by_tests : (a b c : Bool) → is_lexeme (word (codes "NOT")) t ≡ a → is_lexeme (sign (codes "(")) t ≡ b → is_lexeme (word (codes "ALL")) t ≡ c
        → AloneBegun (if a then begins.Not else (if b then begins.Group else (if c then begins.Differ else begins.Relation))) (t ∷ ts)
    by_tests true b c is_a is_b is_c = is_a
    by_tests false true c is_a is_b is_c = is_b
    by_tests false false true is_a is_b is_c = is_c
    by_tests false false false is_a is_b is_c = tt

module _ {denied grouped : Reader → Written × Reader} (D : TwiceCondition 0 denied) (G : TwiceCondition 0 grouped)
    (denied_at : (ts : List Placed) → passes (is_lexeme (word (codes "NOT"))) (first ts) ≡ true → FillsAt denied as_condition ts)
    (grouped_at : (ts : List Placed) → passes (is_lexeme (sign (codes "("))) (first ts) ≡ true → FillsAt grouped as_condition ts) where
  alone_at : (k : AloneStart) (ts : List Placed) → AloneBegun k ts → FillsAt (alone_by denied grouped k) as_condition ts
  alone_at begins.Not ts hit = denied_at ts hit
  alone_at begins.Group ts hit = grouped_at ts hit
  alone_at begins.Differ ts hit = differing_at ts hit
  alone_at begins.Relation ts hit = fills_relation.runs ts

  fills_alone : Fills (choose_by alone_start (alone_by denied grouped)) as_condition
  unfolding alone_start
  fills_alone = fills_cased alone_start (alone_by denied grouped) (λ k. (twice_alone_by 0 D G k).stays) fills_relation.stopped (λ ts. alone_at (alone_start (first ts)) ts (alone_begun ts))

denied_at : {inner : Reader → Written × Reader} → Fills inner as_condition → (ts : List Placed) → passes (is_lexeme (word (codes "NOT"))) (first ts) ≡ true → FillsAt (denied_with inner) as_condition ts
denied_at T ts hit = at_mapped (λ w. not w) as_condition (λ w. refl) ts (at_behind false (word (codes "NOT")) ts hit T)

grouped_at : {inner : Reader → Written × Reader} → Fills inner as_condition → (ts : List Placed) → passes (is_lexeme (sign (codes "("))) (first ts) ≡ true → FillsAt (grouped_with inner) as_condition ts
grouped_at T ts hit = at_mapped (λ x. group x.0) as_condition (λ x. refl) ts (at_behind false (sign (codes "(")) ts hit (fills_both T (fills_fixed (sign (codes ")")))))

mutual
  unfolding negation further_and further_or conjunct

  fills_negated : (n : ℕ) → Fills (negation n) as_condition
  fills_negated zero = fills_alone (twice_too_deep 0) (twice_too_deep 0) (λ ts hit. fills_too_deep.runs ts) (λ ts hit. fills_too_deep.runs ts)
  fills_negated (suc n) =
      fills_alone (twice_denied 0 (twice_negated 0 n)) (twice_grouped 0 (twice_ors 0 (twice_ands 0 (twice_negated 0 n) (twice_further_and 0 n)) (twice_further_or 0 n)))
      (denied_at (fills_negated n)) (grouped_at (fills_ors (fills_ands (fills_negated n) (fills_further_and n)) (fills_further_or n)))

  fills_further_and : (n : ℕ) → Fills (further_and n) as_parts
  fills_further_and zero = fills_no_further and_word
  fills_further_and (suc n) = fills_parts and_word (fills_negated n) (fills_further_and n)

  fills_further_or : (n : ℕ) → Fills (further_or n) as_parts
  fills_further_or zero = fills_no_further or_word
  fills_further_or (suc n) = fills_parts or_word (fills_ands (fills_negated n) (fills_further_and n)) (fills_further_or n)

pub fills_condition : (n : ℕ) → Fills (condition n) as_condition
unfolding condition conjunct
fills_condition n = fills_ors (fills_ands (fills_negated n) (fills_further_and n)) (fills_further_or n)
