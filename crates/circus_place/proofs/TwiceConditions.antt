-- Conditions at tokens that are the same up to a place.
use Rattle.std.proofs.Common.{◌≡◌, ℕ, zero, suc, Bool, true, false, List, [], ◌∷◌, ◌++◌, refl, sym, ◌∙◌, append_assoc, append-nil}
use Rattle.std.specs.Prelude.{codes}
use Rattle.std.specs.List.{flat_map}
use Rattle.circus_text.specs.Token.{Lexeme}
use Rattle.circus_syntax.specs.declared.stopping.StopCause.TheVariants.{TooDeep}
use Rattle.circus_syntax.specs.Placed.{word, sign, is_lexeme}
use Rattle.circus_syntax.specs.Reader.{Reader, nothing, choose_by, either}
use Rattle.circus_syntax.proofs.Twice.{Twice, twice_both, twice_mapped, twice_never, twice_cased, twice_either, twice_nothing, twice_stopped, twice_fixed, twice_behind}
use Rattle.circus_syntax.proofs.TwiceTypes.{unlike}
use Rattle.circus_place.specs.declared.start.AloneStart.{AloneStart}
use Rattle.circus_place.specs.declared.start.AloneStart.TheVariants as begins
use Rattle.circus_place.specs.Written.{Written, or, and, not, group}
use Rattle.circus_place.specs.Grammar.{or_word, and_word}
use Rattle.circus_place.specs.Filling.{as_condition}
use Rattle.circus_place.specs.Seen.Reading.{filled_condition, too_deep, no_deeper, alone_start, alone_by, parts_behind, join_chain, chain, grouped_with, denied_with, negation, further_and, further_or, conjunct, condition}
use Rattle.circus_place.proofs.TwiceParts.{twice_relation, twice_differing}

-- the parts of a chain behind the first
abbrev pub as_parts : List Written → List Bool
as_parts xs = flat_map (λ x. false ∷ as_condition x) xs

pub and_so : (w : Written) (xs : List Written) → as_condition (join_chain and w xs) ≡ as_condition w ++ as_parts xs
and_so w [] = sym (append-nil (as_condition w))
and_so w (x ∷ xs) = and_so (and w x) xs ∙ append_assoc (as_condition w) (false ∷ as_condition x) (as_parts xs)

pub or_so : (w : Written) (xs : List Written) → as_condition (join_chain or w xs) ≡ as_condition w ++ as_parts xs
or_so w [] = sym (append-nil (as_condition w))
or_so w (x ∷ xs) = or_so (or w x) xs ∙ append_assoc (as_condition w) (false ∷ as_condition x) (as_parts xs)

abbrev pub TwiceCondition : ℕ → (Reader → Written × Reader) → Type 0
TwiceCondition P p = Twice P p as_condition (filled_condition P)

abbrev pub TwiceFurther : ℕ → (Reader → List Written × Reader) → Type 0
TwiceFurther P p = Twice P p as_parts []

pub twice_too_deep : (P : ℕ) → TwiceCondition P too_deep
unfolding too_deep
twice_too_deep P = twice_stopped P TooDeep filled_condition as_condition (filled_condition P)

twice_no_further : (P : ℕ) (operator : Lexeme) → TwiceFurther P (either (is_lexeme operator) no_deeper (nothing []))
unfolding no_deeper
twice_no_further P operator = twice_either P (is_lexeme operator) (twice_stopped P TooDeep (λ at. []) as_parts []) (twice_nothing P [] as_parts refl)

twice_parts : (P : ℕ) (operator : Lexeme) {part : Reader → Written × Reader} {further : Reader → List Written × Reader} → TwiceCondition P part → TwiceFurther P further → TwiceFurther P (parts_behind operator part further)
twice_parts P operator T F =
    twice_either P (is_lexeme operator) (twice_never P (λ x. x.0 ∷ x.1) as_parts [] (λ x. refl) (λ x filled. unlike filled.0) (twice_both P (twice_behind P false operator T) F))
    (twice_nothing P [] as_parts refl)

pub twice_ands : (P : ℕ) {part : Reader → Written × Reader} {further : Reader → List Written × Reader} → TwiceCondition P part → TwiceFurther P further → TwiceCondition P (chain and and_word part further)
twice_ands P T F = twice_mapped P (λ x. join_chain and x.0 x.1) as_condition (λ x. and_so x.0 x.1) (twice_both P T (twice_parts P and_word T F))

pub twice_ors : (P : ℕ) {part : Reader → Written × Reader} {further : Reader → List Written × Reader} → TwiceCondition P part → TwiceFurther P further → TwiceCondition P (chain or or_word part further)
twice_ors P T F = twice_mapped P (λ x. join_chain or x.0 x.1) as_condition (λ x. or_so x.0 x.1) (twice_both P T (twice_parts P or_word T F))

pub twice_denied : (P : ℕ) {inner : Reader → Written × Reader} → TwiceCondition P inner → TwiceCondition P (denied_with inner)
twice_denied P T = twice_never P (λ w. not w) as_condition (filled_condition P) (λ w. refl) (λ w filled. unlike filled.0) (twice_behind P false (word (codes "NOT")) T)

pub twice_grouped : (P : ℕ) {inner : Reader → Written × Reader} → TwiceCondition P inner → TwiceCondition P (grouped_with inner)
twice_grouped P T =
    twice_never P (λ x. group x.0) as_condition (filled_condition P) (λ x. refl) (λ x filled. unlike filled.0)
    (twice_behind P false (sign (codes "(")) (twice_both P T (twice_fixed P true (sign (codes ")")))))

pub twice_alone_by : (P : ℕ) {denied grouped : Reader → Written × Reader} → TwiceCondition P denied → TwiceCondition P grouped → (k : AloneStart) → TwiceCondition P (alone_by denied grouped k)
twice_alone_by P D G begins.Not = D
twice_alone_by P D G begins.Group = G
twice_alone_by P D G begins.Differ = twice_differing P
twice_alone_by P D G begins.Relation = twice_relation P

twice_alone : (P : ℕ) {denied grouped : Reader → Written × Reader} → TwiceCondition P denied → TwiceCondition P grouped → TwiceCondition P (choose_by alone_start (alone_by denied grouped))
twice_alone P {denied} {grouped} D G = twice_cased P alone_start (alone_by denied grouped) (twice_alone_by P D G)

mutual
  unfolding negation further_and further_or conjunct

  pub twice_negated : (P n : ℕ) → TwiceCondition P (negation n)
  twice_negated P zero = twice_alone P (twice_too_deep P) (twice_too_deep P)
  twice_negated P (suc n) =
      twice_alone P (twice_denied P (twice_negated P n)) (twice_grouped P (twice_ors P (twice_ands P (twice_negated P n) (twice_further_and P n)) (twice_further_or P n)))

  pub twice_further_and : (P n : ℕ) → TwiceFurther P (further_and n)
  twice_further_and P zero = twice_no_further P and_word
  twice_further_and P (suc n) = twice_parts P and_word (twice_negated P n) (twice_further_and P n)

  pub twice_further_or : (P n : ℕ) → TwiceFurther P (further_or n)
  twice_further_or P zero = twice_no_further P or_word
  twice_further_or P (suc n) = twice_parts P or_word (twice_ands P (twice_negated P n) (twice_further_and P n)) (twice_further_or P n)

pub twice_condition : (P n : ℕ) → TwiceCondition P (condition n)
unfolding condition conjunct
twice_condition P n = twice_ors P (twice_ands P (twice_negated P n) (twice_further_and P n)) (twice_further_or P n)
