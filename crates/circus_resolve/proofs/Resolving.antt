-- Items and suffixes one by one.
use Rattle.std.proofs.Common.{◌≡◌, ℕ, suc, ◌+◌, ◌<◌, List, [], ◌∷◌, ◌++◌, Option, length, get_or, drop, map, refl, sym, ap, ◌∙◌, append_assoc}
use Rattle.circus_value.specs.ShapeTree.{ShapeTree}
use Rattle.circus_expression.specs.declared.expression.Expression.{Expression}
use Rattle.circus_expression.specs.declared.expression.Suffix.{Suffix}
use Rattle.circus_expression.specs.ExpressionTree.{ExpressionTree, SuffixTree, field, subscript, expression_trees, suffix_trees}
use Rattle.circus_expression.specs.ExpressionOf.{tree_of, suffix_of}
use Rattle.circus_checked.specs.ExpressionTree as c
use Rattle.circus_resolve.specs.declared.findings.Findings.{Findings}
use Rattle.circus_resolve.specs.Scope.{Scope}
use Rattle.circus_resolve.specs.Faults.{Slots, slot_at, each_faults, suffix_faults, shape_led_to, count, expression_faults, wanted_for, sort}
use Rattle.circus_resolve.specs.Meaning.{each_meant, suffixes_meant, convert_to, meant}
use Rattle.circus_resolve.specs.Seen.Found.{with_faults}
use Rattle.circus_resolve.specs.Seen.Steps.{step_faults, step_shape, step_meant}
use Rattle.circus_resolve.proofs.Finding.{found_more}
use Rattle.circus_resolve.proofs.Shapes.{from_place}

pub count_is : (es : List ExpressionTree) → length es ≡ count (expression_trees es)
count_is [] = refl
count_is (e ∷ es) = ap suc (count_is es)

-- a list that is extended by what comes first of the rest
pub extended : {X : Type 0} (xs ys : List X) (x : X) → (xs ++ x ∷ []) ++ ys ≡ xs ++ x ∷ ys
extended xs ys x = append_assoc xs (x ∷ []) ys

module _ (scope : Scope) where
  -- the faults of an item and of those behind it
  pub each_step : (slots : Slots) (n : ℕ) (f g : Findings) (es : List Expression) (i : ℕ) (e : Expression) (s : Option ShapeTree)
      → i < length es → e ≡ get_or es i e → s ≡ slot_at slots n
      → g ≡ with_faults f (expression_faults scope (tree_of e) ++ wanted_for s (sort scope (tree_of e)) e.at)
      → with_faults g (each_faults scope slots (n + 1) (expression_trees (map tree_of (drop (i + 1) es))))
      ≡ with_faults f (each_faults scope slots n (expression_trees (map tree_of (drop i es))))
  each_step slots n f g es i e s below is wants finds =
      let rest = each_faults scope slots (n + 1) (expression_trees (map tree_of (drop (i + 1) es))) in
      let own = expression_faults scope (tree_of e) in
      let value = λ (w : Option ShapeTree). wanted_for w (sort scope (tree_of e)) e.at in
      ap (λ h. with_faults h rest) finds ∙ found_more f (own ++ value s) rest
      ∙ ap (λ w. with_faults f (own ++ value w ++ rest)) wants
      ∙ ap (λ xs. with_faults f (each_faults scope slots n (expression_trees (map tree_of xs)))) (sym (from_place es i e below is))

  -- what an item means, and those behind it
  pub each_meant_step : (slots : Slots) (n : ℕ) (made made' : List c.ExpressionTree) (es : List Expression) (i : ℕ) (e : Expression) (s : Option ShapeTree) (t : c.ExpressionTree)
      → i < length es → e ≡ get_or es i e → s ≡ slot_at slots n → t ≡ convert_to s (meant scope (tree_of e)) → made' ≡ made ++ t ∷ []
      → made' ++ each_meant scope slots (n + 1) (expression_trees (map tree_of (drop (i + 1) es)))
      ≡ made ++ each_meant scope slots n (expression_trees (map tree_of (drop i es)))
  each_meant_step slots n made made' es i e s t below is wants means adds =
      let rest = each_meant scope slots (n + 1) (expression_trees (map tree_of (drop (i + 1) es))) in
      ap (λ xs. xs ++ rest) adds ∙ extended made rest t
      ∙ ap (λ x. made ++ x ∷ rest) (means ∙ ap (λ w. convert_to w (meant scope (tree_of e))) wants)
      ∙ ap (λ xs. made ++ each_meant scope slots n (expression_trees (map tree_of xs))) (sym (from_place es i e below is))

  -- a suffix and those behind it
  one_more : (first : ℕ) (s : Option ShapeTree) (t : SuffixTree) (ts : List SuffixTree)
      → step_faults scope first s t ++ suffix_faults scope first (step_shape s t) (suffix_trees ts) ≡ suffix_faults scope first s (suffix_trees (t ∷ ts))
  one_more first s (field name) ts = refl
  one_more first s (subscript e) ts = refl

  leads_on : (s : Option ShapeTree) (t : SuffixTree) (ts : List SuffixTree) → shape_led_to (step_shape s t) (suffix_trees ts) ≡ shape_led_to s (suffix_trees (t ∷ ts))
  leads_on s (field name) ts = refl
  leads_on s (subscript e) ts = refl

  means_on : (s : Option ShapeTree) (t : SuffixTree) (ts : List SuffixTree)
      → step_meant scope s t ∷ suffixes_meant scope (step_shape s t) (suffix_trees ts) ≡ suffixes_meant scope s (suffix_trees (t ∷ ts))
  means_on s (field name) ts = refl
  means_on s (subscript e) ts = refl

  module _ (ss : List Suffix) (i : ℕ) (t : Suffix) (below : i < length ss) (is : t ≡ get_or ss i t) (s s' : Option ShapeTree) (leads : s' ≡ step_shape s (suffix_of t)) where
    abbrev later : List SuffixTree
    later = map suffix_of (drop (i + 1) ss)

    pub suffix_step : (first : ℕ) (f g : Findings) → g ≡ with_faults f (step_faults scope first s (suffix_of t))
        → with_faults g (suffix_faults scope first s' (suffix_trees (map suffix_of (drop (i + 1) ss))))
        ≡ with_faults f (suffix_faults scope first s (suffix_trees (map suffix_of (drop i ss))))
    suffix_step first f g finds =
        ap (λ h. with_faults h (suffix_faults scope first s' (suffix_trees later))) finds
        ∙ ap (λ w. with_faults (with_faults f (step_faults scope first s (suffix_of t))) (suffix_faults scope first w (suffix_trees later))) leads
        ∙ found_more f (step_faults scope first s (suffix_of t)) (suffix_faults scope first (step_shape s (suffix_of t)) (suffix_trees later))
        ∙ ap (with_faults f) (one_more first s (suffix_of t) later)
        ∙ ap (λ xs. with_faults f (suffix_faults scope first s (suffix_trees (map suffix_of xs)))) (sym (from_place ss i t below is))

    pub led_step : shape_led_to s' (suffix_trees (map suffix_of (drop (i + 1) ss))) ≡ shape_led_to s (suffix_trees (map suffix_of (drop i ss)))
    led_step =
        ap (λ w. shape_led_to w (suffix_trees later)) leads ∙ leads_on s (suffix_of t) later
        ∙ ap (λ xs. shape_led_to s (suffix_trees (map suffix_of xs))) (sym (from_place ss i t below is))

    pub meant_step : (made made' : List c.SuffixTree) (u : c.SuffixTree) → u ≡ step_meant scope s (suffix_of t) → made' ≡ made ++ u ∷ []
        → made' ++ suffixes_meant scope s' (suffix_trees (map suffix_of (drop (i + 1) ss)))
        ≡ made ++ suffixes_meant scope s (suffix_trees (map suffix_of (drop i ss)))
    meant_step made made' u means adds =
        ap (λ xs. xs ++ suffixes_meant scope s' (suffix_trees later)) adds ∙ extended made (suffixes_meant scope s' (suffix_trees later)) u
        ∙ ap (λ w. made ++ u ∷ suffixes_meant scope w (suffix_trees later)) leads
        ∙ ap (λ x. made ++ x ∷ suffixes_meant scope (step_shape s (suffix_of t)) (suffix_trees later)) means
        ∙ ap (λ xs. made ++ xs) (means_on s (suffix_of t) later)
        ∙ ap (λ xs. made ++ suffixes_meant scope s (suffix_trees (map suffix_of xs))) (sym (from_place ss i t below is))
