-- The steps that suffixes are, one after the other.
use Rattle.std.proofs.Common.{◌≡◌, ℕ, ◌+◌, ◌<◌, List, [], ◌∷◌, ◌++◌, length, map, get_or, drop, Ok, Err, refl, sym, ap, ◌∙◌, append_assoc}
use Rattle.std.proofs.lemmas.List.{drop_more, map-append}
use Rattle.circus_value.specs.ValueTree.{ValueTree}
use Rattle.circus_model.specs.declared.language_error.LanguageError.{LanguageError}
use Rattle.circus_checked.specs.ExpressionTree.{SuffixTree, field, arm_of, subscript, suffix_trees}
use Rattle.circus_checked.specs.ExpressionOf.{suffix_of}
use Rattle.circus_checked.specs.declared.expression.CheckedSuffix.{CheckedSuffix}
use Rattle.circus_evaluate.specs.Got.{Raising, and_then, number_of}
use Rattle.circus_evaluate.specs.Parts.{Step, item}
use Rattle.circus_evaluate.specs.Evaluating.{evaluate, steps_of}
use Rattle.circus_evaluate.specs.Steps.{step_as}
use Rattle.circus_evaluate.specs.Seen.Suffixes.{step_of}
use Rattle.circus_evaluate.specs.declared.part.Step as declared

assoc : {A B C : Type 0} (r : Raising A) (f : A → Raising B) (g : B → Raising C) → and_then (and_then r f) g ≡ and_then r (λ a. and_then (f a) g)
assoc (Ok a) f g = refl
assoc (Err e) f g = refl

module _ (limit : ℕ) (variables : List ValueTree) where
  -- the steps of a suffix and of those behind it
  first_step : (s : SuffixTree) (ss : List SuffixTree) → steps_of limit variables (suffix_trees (s ∷ ss)) ≡ and_then (step_of limit variables s) (λ step. and_then (steps_of limit variables (suffix_trees ss)) (λ steps. Ok (step ∷ steps)))
  first_step (field n) ss = refl
  first_step (arm_of n) ss = refl
  first_step (subscript e) ss = sym (assoc (and_then (evaluate limit variables e) number_of) (λ z. Ok (item z)) (λ step. and_then (steps_of limit variables (suffix_trees ss)) (λ steps. Ok (step ∷ steps))))

  again : (done : List declared.Step) (step : declared.Step) (r : Raising (List Step)) → and_then r (λ steps. Ok (map step_as (done ++ step ∷ []) ++ steps)) ≡ and_then (and_then r (λ steps. Ok (step_as step ∷ steps))) (λ steps. Ok (map step_as done ++ steps))
  again done step (Ok steps) = ap (λ xs. Ok xs) (ap (λ xs. xs ++ steps) (map-append step_as done (step ∷ [])) ∙ append_assoc (map step_as done) (step_as step ∷ []) steps)
  again done step (Err e) = refl

  module _ (ss : List CheckedSuffix) (i : ℕ) (s : CheckedSuffix) (done : List declared.Step) (meant : Raising (List Step)) (few : i < length ss) (is : s ≡ get_or ss i s) where
    front : steps_of limit variables (suffix_trees (map suffix_of (drop i ss)))
        ≡ and_then (step_of limit variables (suffix_of s)) (λ step. and_then (steps_of limit variables (suffix_trees (map suffix_of (drop (i + 1) ss)))) (λ steps. Ok (step ∷ steps)))
    front =
        ap (λ xs. steps_of limit variables (suffix_trees (map suffix_of xs))) (drop_more ss i s few ∙ ap (λ y. y ∷ drop (i + 1) ss) (sym is))
        ∙ first_step (suffix_of s) (map suffix_of (drop (i + 1) ss))

    -- where one isn't given
    pub steps_fail : (e : LanguageError) → step_of limit variables (suffix_of s) ≡ Err e
        → and_then (steps_of limit variables (suffix_trees (map suffix_of (drop i ss)))) (λ steps. Ok (map step_as done ++ steps)) ≡ meant → meant ≡ Err e
    steps_fail e err all =
        sym all ∙ ap (λ r. and_then r (λ steps. Ok (map step_as done ++ steps))) (front ∙ ap (λ r. and_then r (λ step. and_then (steps_of limit variables (suffix_trees (map suffix_of (drop (i + 1) ss)))) (λ steps. Ok (step ∷ steps)))) err)

    -- where one is
    pub steps_more : (step : declared.Step) (more : List declared.Step) → step_of limit variables (suffix_of s) ≡ Ok (step_as step) → more ≡ done ++ step ∷ []
        → and_then (steps_of limit variables (suffix_trees (map suffix_of (drop i ss)))) (λ steps. Ok (map step_as done ++ steps)) ≡ meant
        → and_then (steps_of limit variables (suffix_trees (map suffix_of (drop (i + 1) ss)))) (λ steps. Ok (map step_as more ++ steps)) ≡ meant
    steps_more step more ok grown all =
        let rest = steps_of limit variables (suffix_trees (map suffix_of (drop (i + 1) ss))) in
        ap (λ xs. and_then rest (λ steps. Ok (map step_as xs ++ steps))) grown ∙ again done step rest
        ∙ sym (ap (λ r. and_then r (λ steps. Ok (map step_as done ++ steps))) (front ∙ ap (λ r. and_then r (λ x. and_then rest (λ steps. Ok (x ∷ steps)))) ok)) ∙ all
