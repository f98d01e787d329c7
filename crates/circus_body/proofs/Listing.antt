-- Statements, handlers and places one by one.
use Rattle.std.specs.Prelude.{◌&&◌, ◌-◌, Some, option_map, is_none, nat_lt, slice_get}
use Rattle.std.proofs.Math.Bool.{and-false, and-true}
use Rattle.std.proofs.lemmas.Bool.Decides.{nat_tests}
use Rattle.std.proofs.Common.{◌≡◌, ℕ, zero, suc, ◌+◌, ◌<◌, true, false, List, [], ◌∷◌, ◌++◌, Option, length, get_or, drop, map, sym, ap, ◌∙◌, append_assoc, arith}
use Rattle.circus_value.specs.ShapeTree.{ShapeTree}
use Rattle.circus_expression.specs.declared.expression.PlaceText.{PlaceText}
use Rattle.circus_expression.specs.ExpressionTree.{PlaceTree}
use Rattle.circus_expression.specs.ExpressionOf.{place_of}
use Rattle.circus_statement.specs.declared.statement.Statement.{Statement}
use Rattle.circus_statement.specs.declared.statement.Handler.{Handler}
use Rattle.circus_statement.specs.StatementTree.{HandledOf, statement_trees, handler_trees}
use Rattle.circus_statement.specs.StatementOf.{tree_of, handler_of}
use Rattle.circus_statement.specs.Seen.StatementWeight.{weight, list_weight, handlers_weight}
use Rattle.circus_checked.specs.StatementTree as c
use Rattle.circus_checked.specs.declared.expression.CheckedPlace.{CheckedPlace}
use Rattle.circus_fault.specs.Least.{faults_if}
use Rattle.circus_resolve.specs.declared.cause.CheckCause.TheVariants.{Mistyped}
use Rattle.circus_resolve.specs.declared.findings.Findings.{Findings}
use Rattle.circus_checked.specs.Sorts.{sort_of}
use Rattle.circus_resolve.specs.Faults.{Slots, slot_at, place_faults, place_shape, wanted_alike}
use Rattle.circus_resolve.specs.Meaning.{place_meant}
use Rattle.circus_resolve.specs.Seen.Found.{with_faults}
use Rattle.circus_resolve.proofs.Finding.{found_more}
use Rattle.circus_resolve.proofs.Shapes.{from_place}
use Rattle.circus_body.specs.Context.{Offered, Context}
use Rattle.circus_body.specs.Faults.{faults, all_faults, handlers_faults, handled_faults, last_faults, places_faults}
use Rattle.circus_body.specs.Meaning.{does, all_do, all_handle}
use Rattle.circus_body.specs.Ending.{ends, all_end}
use Rattle.circus_body.specs.Seen.Parts.{one_handler_faults, one_handler_meant}

-- ---- a part is lighter than the list that has it

pub weight_of_statement : (ss : List Statement) (i : ℕ) (s : Statement) → i < length ss → s ≡ get_or ss i s → weight (tree_of s) < list_weight (statement_trees (map tree_of ss))
weight_of_statement [] i s few is = absurd (omega arith)
weight_of_statement (r ∷ ss) zero s few is = omega (arith, ap (λ x. weight (tree_of x)) is)
weight_of_statement (r ∷ ss) (suc i) s few is = omega (arith, weight_of_statement ss i s (omega arith) is)

pub weight_of_handler : (hs : List Handler) (i : ℕ) (h : Handler) → i < length hs → h ≡ get_or hs i h → list_weight (statement_trees h.statements) + 1 < handlers_weight (handler_trees (map handler_of hs))
weight_of_handler [] i h few is = absurd (omega arith)
weight_of_handler (g ∷ hs) zero h few is = omega (arith, ap (λ (x : Handler). list_weight (statement_trees x.statements)) is)
weight_of_handler (g ∷ hs) (suc i) h few is = omega (arith, weight_of_handler hs i h (omega arith) is)

-- ---- the last of a list decides how it ends

pub weight_at : (ss : List Statement) (n : ℕ) (s : Statement) → Some s ≡ slice_get ss n → weight (tree_of s) < list_weight (statement_trees (map tree_of ss))
weight_at [] n s is = absurd (cc)
weight_at (r ∷ ss) zero s is = let same : s ≡ r = cc in omega (arith, ap (λ x. weight (tree_of x)) same)
weight_at (r ∷ ss) (suc n) s is = omega (arith, weight_at ss n s is)

ends_at : (ss : List Statement) (n : ℕ) (s : Statement) → suc n ≡ length ss → Some s ≡ slice_get ss n → ends (tree_of s) ≡ all_end (statement_trees (map tree_of ss))
ends_at [] n s many is = absurd (omega (arith, many))
ends_at (r ∷ []) zero s many is = let same : s ≡ r = cc in ap (λ x. ends (tree_of x)) same
ends_at (r ∷ []) (suc n) s many is = absurd (omega (arith, many))
ends_at (r ∷ q ∷ ss) zero s many is = absurd (omega (arith, many))
ends_at (r ∷ q ∷ ss) (suc n) s many is = ends_at (q ∷ ss) n s (omega (arith, many)) is

pub last_ends : (ss : List Statement) (s : Statement) → Some s ≡ slice_get ss (length ss - 1) → ends (tree_of s) ≡ all_end (statement_trees (map tree_of ss))
last_ends [] s is = absurd (cc)
last_ends (r ∷ ss) s is = ends_at (r ∷ ss) (length (r ∷ ss) - 1) s (omega arith) is

-- ---- what is found, and what is meant, one more at a time

extended : {X : Type 0} (xs ys : List X) (x : X) → (xs ++ x ∷ []) ++ ys ≡ xs ++ x ∷ ys
extended xs ys x = append_assoc xs (x ∷ []) ys

module _ (context : Context) where
  pub statement_step : (f g : Findings) (ss : List Statement) (i : ℕ) (s : Statement) → i < length ss → s ≡ get_or ss i s → g ≡ with_faults f (faults context (tree_of s))
      → with_faults g (all_faults context (statement_trees (map tree_of (drop (i + 1) ss)))) ≡ with_faults f (all_faults context (statement_trees (map tree_of (drop i ss))))
  statement_step f g ss i s below is finds =
      let rest = all_faults context (statement_trees (map tree_of (drop (i + 1) ss))) in
      ap (λ h. with_faults h rest) finds ∙ found_more f (faults context (tree_of s)) rest
      ∙ ap (λ xs. with_faults f (all_faults context (statement_trees (map tree_of xs)))) (sym (from_place ss i s below is))

  pub does_step : (made made' : List c.StatementTree) (ss : List Statement) (i : ℕ) (s : Statement) (t : c.StatementTree) → i < length ss → s ≡ get_or ss i s
      → t ≡ does context (tree_of s) → made' ≡ made ++ t ∷ []
      → made' ++ all_do context (statement_trees (map tree_of (drop (i + 1) ss))) ≡ made ++ all_do context (statement_trees (map tree_of (drop i ss)))
  does_step made made' ss i s t below is means adds =
      let rest = all_do context (statement_trees (map tree_of (drop (i + 1) ss))) in
      ap (λ xs. xs ++ rest) adds ∙ extended made rest t ∙ ap (λ x. made ++ x ∷ rest) means
      ∙ ap (λ xs. made ++ all_do context (statement_trees (map tree_of xs))) (sym (from_place ss i s below is))

  pub place_step : (slots : Slots) (n : ℕ) (f g : Findings) (ps : List PlaceText) (i : ℕ) (p : PlaceText) (s : Option ShapeTree) → i < length ps → p ≡ get_or ps i p → s ≡ slot_at slots n
      → g ≡ with_faults f (place_faults context.scope (place_of p) ++ wanted_alike (option_map sort_of s) (option_map sort_of (place_shape context.scope (place_of p))) p.name.at)
      → with_faults g (places_faults context slots (n + 1) (map place_of (drop (i + 1) ps))) ≡ with_faults f (places_faults context slots n (map place_of (drop i ps)))
  place_step slots n f g ps i p s below is wants finds =
      let rest = places_faults context slots (n + 1) (map place_of (drop (i + 1) ps)) in
      let own = place_faults context.scope (place_of p) in
      let value = λ (w : Option ShapeTree). wanted_alike (option_map sort_of w) (option_map sort_of (place_shape context.scope (place_of p))) p.name.at in
      ap (λ h. with_faults h rest) finds ∙ found_more f (own ++ value s) rest ∙ ap (λ w. with_faults f (own ++ value w ++ rest)) wants
      ∙ ap (λ xs. with_faults f (places_faults context slots n (map place_of xs))) (sym (from_place ps i p below is))

  pub place_meant_step : (made made' : List CheckedPlace) (ps : List PlaceText) (i : ℕ) (p : PlaceText) (t : CheckedPlace) → i < length ps → p ≡ get_or ps i p
      → t ≡ place_meant context.scope (place_of p) → made' ≡ made ++ t ∷ []
      → made' ++ map (place_meant context.scope) (map place_of (drop (i + 1) ps)) ≡ made ++ map (place_meant context.scope) (map place_of (drop i ps))
  place_meant_step made made' ps i p t below is means adds =
      let rest = map (place_meant context.scope) (map place_of (drop (i + 1) ps)) in
      ap (λ xs. xs ++ rest) adds ∙ extended made rest t ∙ ap (λ x. made ++ x ∷ rest) means
      ∙ ap (λ xs. made ++ map (place_meant context.scope) (map place_of xs)) (sym (from_place ps i p below is))

-- ---- handlers

-- whether others stand behind a place
none_behind : (n : ℕ) → nat_lt n 0 ≡ false
none_behind n = grind (arith, nat_tests)

some_behind : (m : ℕ) → nat_lt 0 (suc m) ≡ true
some_behind m = grind (arith, nat_tests)

behind_both : (n m : ℕ) → nat_lt (suc n) (suc m) ≡ nat_lt n m
behind_both n m = grind (arith, nat_tests)

-- OTHER stands last
pub last_is : (h : HandledOf PlaceTree) (hs : List Handler) (n : ℕ)
    → last_faults h (handler_trees (map handler_of (drop n hs))) ≡ faults_if (is_none h.error && nat_lt n (length hs)) h.at Mistyped
last_is h [] zero = ap (λ b. faults_if b h.at Mistyped) (sym (and-false (is_none h.error)) ∙ ap (λ b. is_none h.error && b) (sym (none_behind zero)))
last_is h [] (suc n) = ap (λ b. faults_if b h.at Mistyped) (sym (and-false (is_none h.error)) ∙ ap (λ b. is_none h.error && b) (sym (none_behind (suc n))))
last_is h (g ∷ hs) zero = ap (λ b. faults_if b h.at Mistyped) (sym (and-true (is_none h.error)) ∙ ap (λ b. is_none h.error && b) (sym (some_behind (length hs))))
last_is h (g ∷ hs) (suc n) = last_is h hs n ∙ ap (λ b. faults_if (is_none h.error && b) h.at Mistyped) (sym (behind_both n (length hs)))

module _ (context : Context) (o : Option Offered) where
  pub handler_step : (f mid g : Findings) (hs : List Handler) (i : ℕ) (h : Handler) → i < length hs → h ≡ get_or hs i h
      → mid ≡ with_faults f (faults_if (is_none h.error && nat_lt (i + 1) (length hs)) h.at Mistyped) → g ≡ with_faults mid (one_handler_faults context o (handler_of h))
      → with_faults g (handlers_faults context o (handler_trees (map handler_of (drop (i + 1) hs)))) ≡ with_faults f (handlers_faults context o (handler_trees (map handler_of (drop i hs))))
  handler_step f mid g hs i h below is last finds =
      let rest = handlers_faults context o (handler_trees (map handler_of (drop (i + 1) hs))) in
      let own = last_faults (handler_of h).handled (handler_trees (map handler_of (drop (i + 1) hs))) in
      let handled = handled_faults context o h.at h.error (handler_of h).handled.places in
      let all = all_faults context (statement_trees h.statements) in
      ap (λ w. with_faults w rest) (finds ∙ ap (λ w. with_faults w (handled ++ all)) (last ∙ ap (with_faults f) (sym (last_is (handler_of h).handled hs (i + 1)))) ∙ found_more f own (handled ++ all))
      ∙ found_more f (own ++ (handled ++ all)) rest
      ∙ ap (λ w. with_faults f (w ++ rest)) (sym (append_assoc own handled all))
      ∙ ap (λ xs. with_faults f (handlers_faults context o (handler_trees (map handler_of xs)))) (sym (from_place hs i h below is))

  pub handle_step : (made made' : List c.HandlerTree) (hs : List Handler) (i : ℕ) (h : Handler) (t : c.HandlerTree) → i < length hs → h ≡ get_or hs i h
      → t ≡ one_handler_meant context o (handler_of h) → made' ≡ made ++ t ∷ []
      → made' ++ all_handle context o (handler_trees (map handler_of (drop (i + 1) hs))) ≡ made ++ all_handle context o (handler_trees (map handler_of (drop i hs)))
  handle_step made made' hs i h t below is means adds =
      let rest = all_handle context o (handler_trees (map handler_of (drop (i + 1) hs))) in
      ap (λ xs. xs ++ rest) adds ∙ extended made rest t ∙ ap (λ x. made ++ x ∷ rest) means
      ∙ ap (λ xs. made ++ all_handle context o (handler_trees (map handler_of xs))) (sym (from_place hs i h below is))
