-- What a part of an execution does, whatever replies are to come.
use Rattle.std.proofs.Common.{◌≡◌, ℕ, zero, suc, ◌<◌, ◌≤◌, IsTrue, IfOk, List, [], ◌∷◌, Ok, Err, refl, ap, ◌∙◌, arith}
use Rattle.std.proofs.lemmas.Bool.{or_right}
use Rattle.circus_value.specs.ShapeTree.{ShapeTree}
use Rattle.circus_value.specs.ValueTree.{ValueTree}
use Rattle.circus_value.specs.ExternalSize.{size_of_values}
use Rattle.circus_value.specs.declared.outcome.Outcome.{Outcome}
use Rattle.circus_value.specs.declared.outcome.Outcome.TheVariants.{Raised}
use Rattle.circus_model.specs.Lawful.{outcome_fits, is_reported, values_of, import_takes, import_answers}
use Rattle.circus_model.specs.LanguageError.{number_of, is_language_error}
use Rattle.circus_limits.specs.Limits.{most_asks}
use Rattle.circus_model.specs.declared.language_error.LanguageError.{LanguageError}
use Rattle.circus_model.specs.declared.language_error.LanguageError.TheVariants.{Range, Index, Zero, TooLong, StepLimit, CallLimit, ThreadSpent, WrongChoice, Unhandled}
use Rattle.circus_model.specs.declared.signature.ProcedureShape.{ProcedureShape}
use Rattle.circus_model.specs.declared.signature.Signature.{Signature}
use Rattle.circus_evaluate.specs.Got.{Raising}
use Rattle.circus_machine.specs.Meaning.{Going, Flow, goes_on, ends, asks, then_does, value_or_end, fails, count_step}
use Rattle.circus_machine.specs.Typed.{AreWell}

-- an execution with these variables, steps and asks, and the replies that are left
abbrev pub going_with : List ValueTree → ℕ → ℕ → List Outcome → Going
going_with variables steps asked replies = record { variables = variables; steps = steps; replies = replies; asks = asked }

is_of_language : (error : LanguageError) → IsTrue (is_language_error (number_of error))
is_of_language Range = refl
is_of_language Index = refl
is_of_language Zero = refl
is_of_language TooLong = refl
is_of_language StepLimit = refl
is_of_language CallLimit = refl
is_of_language ThreadSpent = refl
is_of_language WrongChoice = refl
is_of_language Unhandled = refl

-- an execution of this procedure, with variables of these shapes, of which the first so many are the module's state
module _ (signature : Signature) (p : ProcedureShape) (shapes : List ShapeTree) (states : ℕ) where
  abbrev pub Well : List ValueTree → Type 0
  Well variables = AreWell signature.limit states shapes variables

  -- an end that the procedure may have
  pub record Ending (outcome : Outcome) (variables : List ValueTree) : Type 0 where
    pub fits : IsTrue (outcome_fits p outcome)
    pub within : size_of_values (values_of outcome) ≤ signature.limit
    pub well : Well variables

  pub raised_ends : (error : ℕ) (variables : List ValueTree) → IsTrue (is_language_error error) → Well variables → Ending (Raised error []) variables
  raised_ends error variables is well = record { fits = or_right (is_reported p.errors error []) (is_language_error error) is; within = omega arith; well = well }

  pub fails_ends : (error : LanguageError) (variables : List ValueTree) → Well variables → Ending (Raised (number_of error) []) variables
  fails_ends error variables well = raised_ends (number_of error) variables (is_of_language error) well

  -- what it does once so many asks were made: it goes on with something, ends, or asks, and goes on so with each reply that fits
  module _ {A X : Type 0} (make : A → Going → X) (Q : A → Type 0) where
    pub data Behaves : ℕ → (List Outcome → Flow X) → Type 0 where
      on : (n : ℕ) (f : List Outcome → Flow X) (a : A) (variables : List ValueTree) (steps : ℕ) → Q a → Well variables → ((replies : List Outcome) → f replies ≡ goes_on (make a (going_with variables steps n replies))) → Behaves n f
      over : (n : ℕ) (f : List Outcome → Flow X) (outcome : Outcome) (variables : List ValueTree) → Ending outcome variables → ((replies : List Outcome) → f replies ≡ ends outcome variables) → Behaves n f
      asking : (n : ℕ) (f : List Outcome → Flow X) (callee procedure : ℕ) (arguments : List ValueTree) (c : Going) → n < most_asks → IsTrue (import_takes signature.imports callee procedure arguments) → size_of_values arguments ≤ signature.limit → Well c.variables
          → f [] ≡ asks callee procedure arguments c → ((reply : Outcome) → IsTrue (import_answers signature.imports callee procedure reply) → Behaves (suc n) (λ replies. f (reply ∷ replies))) → Behaves n f

    -- of a part that does the same
    pub alike : (n : ℕ) (f g : List Outcome → Flow X) → ((replies : List Outcome) → f replies ≡ g replies) → Behaves n g → Behaves n f
    alike _ f _ same (on n g a variables steps q well is) = on n f a variables steps q well (λ replies. same replies ∙ is replies)
    alike _ f _ same (over n g outcome variables ending is) = over n f outcome variables ending (λ replies. same replies ∙ is replies)
    alike _ f _ same (asking n g callee procedure arguments c few fit within well is more) =
        asking n f callee procedure arguments c few fit within well (same [] ∙ is)
        (λ reply fits. alike (suc n) (λ replies. f (reply ∷ replies)) (λ replies. g (reply ∷ replies)) (λ replies. same (reply ∷ replies)) (more reply fits))

    pub failing : (n : ℕ) (error : LanguageError) (variables : List ValueTree) → Well variables → Behaves n (λ replies. fails error variables)
    failing n error variables well = over n (λ replies. fails error variables) (Raised (number_of error) []) variables (fails_ends error variables well) (λ replies. refl)

    -- a value is got, or an error raised in its place
    pub raised : {B : Type 0} (P : B → Type 0) (n : ℕ) (r : Raising B) (variables : List ValueTree) (steps : ℕ) (g : B → List Outcome → Flow X) → IfOk r P → Well variables → ((b : B) → P b → Behaves n (g b))
        → Behaves n (λ replies. then_does (value_or_end r (going_with variables steps n replies)) (λ b. g b replies))
    raised P n (Ok b) variables steps g got well each = each b got
    raised P n (Err error) variables steps g got well each = failing n error variables well

    -- a step is taken
    pub in_step : (n : ℕ) (variables : List ValueTree) (steps : ℕ) (g : Going → Flow X) → Well variables → ((left : ℕ) → Behaves n (λ replies. g (going_with variables left n replies)))
        → Behaves n (λ replies. then_does (count_step (going_with variables steps n replies)) g)
    in_step n variables zero g well each = failing n StepLimit variables well
    in_step n variables (suc left) g well each = each left

  -- one part behind another
  module _ {A X B Y : Type 0} (make : A → Going → X) (Q : A → Type 0) (make' : B → Going → Y) (R : B → Type 0) (g : X → Flow Y) where
    pub behind : (n : ℕ) (f : List Outcome → Flow X) → Behaves make Q n f → ((m : ℕ) (a : A) (variables : List ValueTree) (steps : ℕ) → Q a → Well variables → Behaves make' R m (λ replies. g (make a (going_with variables steps m replies))))
        → Behaves make' R n (λ replies. then_does (f replies) g)
    behind _ _ (on n f a variables steps q well is) each =
        alike make' R n (λ replies. then_does (f replies) g) (λ replies. g (make a (going_with variables steps n replies))) (λ replies. ap (λ x. then_does x g) (is replies)) (each n a variables steps q well)
    behind _ _ (over n f outcome variables ending is) each = over n (λ replies. then_does (f replies) g) outcome variables ending (λ replies. ap (λ x. then_does x g) (is replies))
    behind _ _ (asking n f callee procedure arguments c few fit within well is more) each =
        asking n (λ replies. then_does (f replies) g) callee procedure arguments c few fit within well (ap (λ x. then_does x g) is)
        (λ reply fits. behind (suc n) (λ replies. f (reply ∷ replies)) (more reply fits) each)
