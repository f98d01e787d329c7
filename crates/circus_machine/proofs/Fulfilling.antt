-- Values that well formed lists of expressions give, as signatures have them.
use Rattle.std.proofs.Common.{◌≡◌, ℕ, suc, ◌≤◌, false, nat_le, IsTrue, IfOk, List, [], ◌∷◌, ◌++◌, length, take, Ok, refl, sym, ap, subst, ◌∙◌}
use Rattle.std.specs.Option.{option_map_or}
use Rattle.std.proofs.lemmas.Bool.{and_parts, and_from, leb-true}
use Rattle.circus_value.specs.ShapeTree.{ShapeTree}
use Rattle.circus_value.specs.ShapeOf.{tree_of}
use Rattle.circus_value.specs.ValueTree.{ValueTree}
use Rattle.circus_value.specs.Fits.{fits, all_fit}
use Rattle.circus_value.specs.ExternalSize.{size_of_values}
use Rattle.circus_value.specs.declared.shape.Shape.{Shape}
use Rattle.circus_value.specs.declared.outcome.Outcome.{Outcome}
use Rattle.circus_model.specs.Lawful.{procedure_numbered, arguments_fit, is_reported, is_raised_by_language, outcome_fits, import_takes, import_answers}
use Rattle.circus_model.specs.declared.language_error.LanguageError.TheVariants.{TooLong}
use Rattle.circus_model.specs.declared.signature.ErrorShape.{ErrorShape}
use Rattle.circus_model.specs.declared.signature.Import.{Import}
use Rattle.circus_model.specs.declared.signature.ProcedureShape.{ProcedureShape}
use Rattle.circus_checked.specs.ExpressionTree.{ExpressionTree, expression_trees}
use Rattle.circus_checked.specs.Sorts.{of}
use Rattle.circus_checked.specs.WellTyped.{EachGives, no_values, more_values}
use Rattle.circus_evaluate.specs.Got.{and_then, value_of}
use Rattle.circus_evaluate.specs.Evaluating.{evaluate, evaluate_all}
use Rattle.circus_machine.specs.Meaning.{leave_together}
use Rattle.circus_evaluate.specs.Typed.{Hold}
use Rattle.circus_machine.specs.Modules.{trees, IsImported, SignatureRaises}
use Rattle.circus_evaluate.proofs.Alike.{some_same}
use Rattle.circus_evaluate.proofs.Fitting.{then_ok, if_ok}
use Rattle.circus_evaluate.proofs.Sound.{value_given, gives}

-- ---- values of the shapes of a list

pub hold_fit : (shapes : List Shape) (ts : List ValueTree) → Hold (trees shapes) ts → IsTrue (all_fit shapes ts)
hold_fit [] [] hold = refl
hold_fit [] (t ∷ ts) hold = absurd hold
hold_fit (s ∷ shapes) [] hold = absurd hold
hold_fit (s ∷ shapes) (t ∷ ts) hold = and_from (fits (tree_of s) t) (all_fit shapes ts) hold.0 (hold_fit shapes ts hold.1)

pub fit_hold : (shapes : List Shape) (ts : List ValueTree) → IsTrue (all_fit shapes ts) → Hold (trees shapes) ts
fit_hold [] [] fit = tt
fit_hold [] (t ∷ ts) fit = cc
fit_hold (s ∷ shapes) [] fit = cc
fit_hold (s ∷ shapes) (t ∷ ts) fit = ((and_parts (fits (tree_of s) t) (all_fit shapes ts) fit).0, fit_hold shapes ts (and_parts (fits (tree_of s) t) (all_fit shapes ts) fit).1)

pub hold_length : (shapes : List Shape) (ts : List ValueTree) → IsTrue (all_fit shapes ts) → length ts ≡ length shapes
hold_length [] [] fit = refl
hold_length [] (t ∷ ts) fit = cc
hold_length (s ∷ shapes) [] fit = cc
hold_length (s ∷ shapes) (t ∷ ts) fit = ap (λ n. suc n) (hold_length shapes ts (and_parts (fits (tree_of s) t) (all_fit shapes ts) fit).1)

pub hold_both : (one other : List ShapeTree) (ts us : List ValueTree) → Hold one ts → Hold other us → Hold (one ++ other) (ts ++ us)
hold_both [] other [] us hold more = more
hold_both [] other (t ∷ ts) us hold more = absurd hold
hold_both (s ∷ one) other [] us hold more = absurd hold
hold_both (s ∷ one) other (t ∷ ts) us hold more = (hold.0, hold_both one other ts us hold.1 more)

-- the first ones, where more follow
pub hold_front : (shapes : List Shape) (more : List ShapeTree) (ts : List ValueTree) → Hold (trees shapes ++ more) ts → IsTrue (all_fit shapes (take (length shapes) ts))
hold_front [] more ts hold = refl
hold_front (s ∷ shapes) more [] hold = absurd hold
hold_front (s ∷ shapes) more (t ∷ ts) hold = and_from (fits (tree_of s) t) (all_fit shapes (take (length shapes) ts)) hold.0 (hold_front shapes more ts hold.1)

-- ---- expressions

module _ (limit : ℕ) (shapes : List ShapeTree) (variables : List ValueTree) (hold : Hold shapes variables) where
  each_given : (es : List ExpressionTree) (given : List ShapeTree) → EachGives shapes es given → IfOk (evaluate_all limit variables (expression_trees es)) (Hold given)
  each_given _ _ no_values = tt
  each_given _ _ (more_values e es s given has more) =
      then_ok (λ t. IsTrue (fits s t)) (Hold (s ∷ given)) (and_then (evaluate limit variables e) value_of) (λ t. and_then (evaluate_all limit variables (expression_trees es)) (λ ts. Ok (t ∷ ts)))
      (value_given s (evaluate limit variables e) (gives limit shapes variables hold e (of s) has))
      (λ t fit. then_ok (Hold given) (Hold (s ∷ given)) (evaluate_all limit variables (expression_trees es)) (λ ts. Ok (t ∷ ts)) (each_given es given more) (λ ts holds. (fit, holds)))

  -- values that leave together
  pub leaving_given : (states : ℕ) (es : List ExpressionTree) (given : List ShapeTree) → EachGives shapes es given → IfOk (leave_together limit states es variables) (λ ts. Hold given ts × (size_of_values ts ≤ limit))
  leaving_given states es given each =
      then_ok (Hold given) (λ ts. Hold given ts × (size_of_values ts ≤ limit)) (evaluate_all limit variables (expression_trees es)) _ (each_given es given each)
      (λ ts holds. if_ok (λ ts. Hold given ts × (size_of_values ts ≤ limit)) (nat_le (size_of_values ts) limit) ts TooLong (λ small. (holds, leb-true (size_of_values ts) limit small)))

-- ---- imported procedures and reported errors

pub imported_takes : (imports : List Import) (callee procedure : ℕ) (p : ProcedureShape) (arguments : List ValueTree) → IsImported imports callee procedure p → IsTrue (all_fit p.arguments arguments) → IsTrue (import_takes imports callee procedure arguments)
imported_takes imports callee procedure p arguments is fit =
    ap (λ i. option_map_or (λ i. arguments_fit i.procedures procedure arguments) i false) is.named ∙ ap (λ o. option_map_or (λ p. all_fit p.arguments arguments) o false) is.numbered ∙ fit

pub imported_answers : (imports : List Import) (callee procedure : ℕ) (p : ProcedureShape) (reply : Outcome) → IsImported imports callee procedure p → IsTrue (import_answers imports callee procedure reply) → IsTrue (outcome_fits p reply)
imported_answers imports callee procedure p reply is answers =
    sym
    (ap (λ i. option_map_or (λ i. option_map_or (λ p. outcome_fits p reply) (procedure_numbered procedure i.procedures) false) i false) is.named
    ∙ ap (λ o. option_map_or (λ p. outcome_fits p reply) o false) is.numbered)
    ∙ answers

-- an import has one procedure of a number
pub same_imported : (imports : List Import) (callee procedure : ℕ) (p q : ProcedureShape) → IsImported imports callee procedure p → IsImported imports callee procedure q → p ≡ q
same_imported imports callee procedure p q one other =
    some_same p q (sym one.numbered ∙ ap (λ i. procedure_numbered procedure i.procedures) (some_same one.import other.import (sym one.named ∙ other.named)) ∙ other.numbered)

pub raises_reported : (errors : List ErrorShape) (number : ℕ) (shapes : List ShapeTree) (ts : List ValueTree) → SignatureRaises errors number shapes → Hold shapes ts → IsTrue (is_reported errors number ts)
raises_reported errors number shapes ts raises hold =
    ap (λ e. option_map_or (λ e. all_fit e.arguments ts) e false) raises.numbered ∙ hold_fit raises.error.arguments ts (subst (λ ss. Hold ss ts) (sym raises.has) hold)

pub reported_holds : (errors : List ErrorShape) (number : ℕ) (shapes : List ShapeTree) (ts : List ValueTree) → SignatureRaises errors number shapes → IsTrue (is_reported errors number ts) → Hold shapes ts
reported_holds errors number shapes ts raises reported =
    subst (λ ss. Hold ss ts) raises.has (fit_hold raises.error.arguments ts (sym (ap (λ e. option_map_or (λ e. all_fit e.arguments ts) e false) raises.numbered) ∙ reported))

-- an error of the language has no values
pub language_alone : (number : ℕ) (ts : List ValueTree) → IsTrue (is_raised_by_language number ts) → ts ≡ []
language_alone number [] is = refl
language_alone number (t ∷ ts) is = cc
