-- Flows, one behind another, and the steps that they leave.
use Rattle.std.proofs.Common.{◌≡◌, ℕ, zero, suc, ◌≤◌, Bool, true, false, List, [], ◌∷◌, Ok, Err, nat_lt, if◌then◌else◌, refl, arith}
use Rattle.circus_value.specs.ValueTree.{ValueTree}
use Rattle.circus_value.specs.declared.outcome.Outcome.{Outcome}
use Rattle.circus_value.specs.declared.outcome.Outcome.TheVariants.{Returned, Raised}
use Rattle.circus_checked.specs.declared.expression.CheckedPlace.{CheckedPlace}
use Rattle.circus_checked.specs.ExpressionTree.{ExpressionTree}
use Rattle.circus_checked.specs.StatementTree.{StatementTree, StatementTrees, HandlerTrees, assign, branch, repeat, append, call, give, raise, no_statements, more_statements, no_handlers, more_handlers}
use Rattle.circus_limits.specs.Limits.{most_asks}
use Rattle.circus_model.specs.LanguageError.{is_language_error}
use Rattle.circus_evaluate.specs.Got.{Got, Raising, got_of, truth_of}
use Rattle.circus_evaluate.specs.Evaluating.{evaluate}
use Rattle.circus_machine.specs.Storing.{stored_over, appended_over, store_at}
use Rattle.circus_machine.specs.Meaning.{Going, Flow, goes_on, ends, asks, then_does, value_or_end, step_of, count_step, with_variables, leave_together, assign_value, fill_places, test_condition, left_with, takes, make_call, turns, after_reply, raise_again, catches, does, does_all, handled}

pub assoc : {X Y Z : Type 0} (f : Flow X) (g : X → Flow Y) (h : Y → Flow Z) → then_does (then_does f g) h ≡ then_does f (λ x. then_does (g x) h)
assoc (goes_on x) g h = refl
assoc (ends outcome variables) g h = refl
assoc (asks callee procedure arguments c) g h = refl

-- where it goes on, so many steps are left at most
abbrev pub Leaves : {X : Type 0} → (X → ℕ) → ℕ → Flow X → Type 0
Leaves steps n (goes_on x) = steps x ≤ n
Leaves steps n (ends outcome variables) = Unit {0}
Leaves steps n (asks callee procedure arguments c) = Unit {0}

abbrev pub left : Going → ℕ
left c = c.steps

pub leaves_fewer : {X : Type 0} (steps : X → ℕ) (m n : ℕ) (f : Flow X) → m ≤ n → Leaves steps m f → Leaves steps n f
leaves_fewer steps m n (goes_on x) fewer some = omega (arith, fewer, some)
leaves_fewer steps m n (ends outcome variables) fewer some = tt
leaves_fewer steps m n (asks callee procedure arguments c) fewer some = tt

pub leaves_then : {X Y : Type 0} (s : X → ℕ) (t : Y → ℕ) (n : ℕ) (f : Flow X) (g : X → Flow Y) → Leaves s n f → ((x : X) → Leaves t (s x) (g x)) → Leaves t n (then_does f g)
leaves_then s t n (goes_on x) g first second = leaves_fewer t (s x) n (g x) first (second x)
leaves_then s t n (ends outcome variables) g first second = tt
leaves_then s t n (asks callee procedure arguments c) g first second = tt

-- what was left
pub leaves_is : {X : Type 0} (s : X → ℕ) (n : ℕ) (f : Flow X) (x : X) → f ≡ goes_on x → Leaves s n f → s x ≤ n
leaves_is s n f x is some = rw is at some

-- a step takes one
pub stepped_less : (n : ℕ) (c : Going) → Leaves (λ d. suc d.steps) n (step_of n c)
stepped_less zero c = tt
stepped_less (suc n) c = omega arith

pub one_less : (c : Going) → Leaves (λ d. suc d.steps) c.steps (count_step c)
one_less c = stepped_less c.steps c

weaker : {X : Type 0} (s : X → ℕ) (n : ℕ) (f : Flow X) → Leaves (λ x. suc (s x)) n f → Leaves s n f
weaker s n (goes_on x) some = omega (arith, some)
weaker s n (ends outcome variables) some = tt
weaker s n (asks callee procedure arguments c) some = tt

step_leaves : (c : Going) → Leaves left c.steps (count_step c)
step_leaves c = weaker left c.steps (count_step c) (one_less c)

reflexive : (n : ℕ) → n ≤ n
reflexive n = omega arith

module _ {A X : Type 0} (s : X → ℕ) (n : ℕ) (c : Going) (g : A → Flow X) where
  pub raising_leaves : (r : Raising A) → ((a : A) → Leaves s n (g a)) → Leaves s n (then_does (value_or_end r c) g)
  raising_leaves (Ok a) each = each a
  raising_leaves (Err error) each = tt

module _ (limit states : ℕ) where
  assigned_leaves : (p : CheckedPlace) (change : ValueTree → Raising ValueTree) (c : Going) → Leaves left c.steps (assign_value limit states p change c)
  assigned_leaves p change c =
      raising_leaves left c.steps c (λ variables. goes_on (with_variables c variables)) (store_at limit states c.variables p change) (λ variables. reflexive c.steps)

  pub filled_leaves : (ps : List CheckedPlace) (ts : List ValueTree) (c : Going) → Leaves left c.steps (fill_places limit states ps ts c)
  filled_leaves [] ts c = omega arith
  filled_leaves (p ∷ ps) [] c = omega arith
  filled_leaves (p ∷ ps) (t ∷ ts) c =
      leaves_then left left c.steps (assign_value limit states p (stored_over (got_of t)) c) (fill_places limit states ps ts) (assigned_leaves p (stored_over (got_of t)) c) (filled_leaves ps ts)

  pub tested_less : (e : ExpressionTree) (c : Going) → Leaves (λ x. suc x.1.steps) c.steps (test_condition limit states e c)
  tested_less e c =
      leaves_then (λ d. suc d.steps) (λ x. suc x.1.steps) c.steps (count_step c) _ (one_less c)
      (λ d. raising_leaves {A = Got} {X = Bool × Going} (λ x. suc x.1.steps) (suc d.steps) d (λ x. goes_on (truth_of x, d)) (evaluate limit d.variables e) (λ x. reflexive (suc d.steps)))

  pub left_with_leaves : (es : List ExpressionTree) (c : Going) → Leaves (λ x. x.1.steps) c.steps (left_with limit states es c)
  left_with_leaves es c =
      leaves_then left (λ x. x.1.steps) c.steps (count_step c) _ (step_leaves c)
      (λ d. raising_leaves {A = List ValueTree} {X = List ValueTree × Going} (λ x. x.1.steps) d.steps d (λ ts. goes_on (ts, d)) (leave_together limit states es d.variables) (λ ts. reflexive d.steps))

  takes_leaves : (callee procedure : ℕ) (arguments : List ValueTree) (replies : List Outcome) (c : Going) → Leaves (λ x. x.1.steps) c.steps (takes callee procedure arguments replies c)
  takes_leaves callee procedure arguments [] c = tt
  takes_leaves callee procedure arguments (reply ∷ replies) c = omega arith

  by_test : {X : Type 0} (s : X → ℕ) (n : ℕ) (b : Bool) (f g : Flow X) → Leaves s n f → Leaves s n g → Leaves s n (if b then f else g)
  by_test s n true f g p q = p
  by_test s n false f g p q = q

  pub called_leaves : (callee procedure : ℕ) (es : List ExpressionTree) (c : Going) → Leaves (λ x. x.1.steps) c.steps (make_call limit states callee procedure es c)
  called_leaves callee procedure es c =
      leaves_then (λ x. x.1.steps) (λ x. x.1.steps) c.steps (left_with limit states es c) _ (left_with_leaves es c)
      (λ x. by_test (λ y. y.1.steps) x.1.steps (nat_lt x.1.asks most_asks) _ _ (takes_leaves callee procedure x.0 x.1.replies x.1) tt)

  turns_leave : (n : ℕ) (e : ExpressionTree) (body : Going → Flow Going) (c : Going) → ((d : Going) → Leaves left d.steps (body d)) → Leaves left c.steps (turns limit states n e body c)
  turns_leave zero e body c each = tt
  turns_leave (suc n) e body c each =
      leaves_then (λ x. x.1.steps) left c.steps (test_condition limit states e c) _ (weaker (λ x. x.1.steps) c.steps (test_condition limit states e c) (tested_less e c))
      (λ x. by_test left x.1.steps x.0 _ _ (leaves_then left left x.1.steps (body x.1) (turns limit states n e body) (each x.1) (λ d. turns_leave n e body d each)) (omega arith))

  unhandled_leaves : (error : ℕ) (variables : List ValueTree) (n : ℕ) → Leaves left n (raise_again error variables)
  unhandled_leaves error variables n = by_test left n (is_language_error error) _ _ tt tt

  answered_leaves : (places : List CheckedPlace) (h : ℕ → List ValueTree → Going → Flow Going) → ((error : ℕ) (values : List ValueTree) (c : Going) → Leaves left c.steps (h error values c)) → (reply : Outcome) (c : Going)
      → Leaves left c.steps (after_reply limit states places h reply c)
  answered_leaves places h each (Returned results) c = filled_leaves places results c
  answered_leaves places h each (Raised error values) c = each error values c

  mutual
    pub does_leaves : (s : StatementTree) (c : Going) → Leaves left c.steps (does limit states s c)
    does_leaves (assign p e) c =
        leaves_then left left c.steps (count_step c) _ (step_leaves c) (λ d. raising_leaves {A = Got} {X = Going} left d.steps d (λ x. assign_value limit states p (stored_over x) d) (evaluate limit d.variables e) (λ x. assigned_leaves p (stored_over x) d))
    does_leaves (append e p bound k) c =
        leaves_then left left c.steps (count_step c) _ (step_leaves c) (λ d. raising_leaves {A = Got} {X = Going} left d.steps d (λ x. assign_value limit states p (appended_over bound k x) d) (evaluate limit d.variables e) (λ x. assigned_leaves p (appended_over bound k x) d))
    does_leaves (branch e ss others) c =
        leaves_then (λ x. x.1.steps) left c.steps (test_condition limit states e c) _ (weaker (λ x. x.1.steps) c.steps (test_condition limit states e c) (tested_less e c))
        (λ x. by_test left x.1.steps x.0 _ _ (does_all_leaves ss x.1) (does_all_leaves others x.1))
    does_leaves (repeat e body) c = turns_leave (suc c.steps) e (does_all limit states body) c (does_all_leaves body)
    does_leaves (call callee procedure es places handlers) c =
        leaves_then (λ x. x.1.steps) left c.steps (make_call limit states callee procedure es c) _ (called_leaves callee procedure es c)
        (λ x. answered_leaves places (handled limit states handlers) (handled_leaves handlers) x.0 x.1)
    does_leaves (give es) c = leaves_then (λ x. x.1.steps) left c.steps (left_with limit states es c) _ (left_with_leaves es c) (λ x. tt)
    does_leaves (raise error es) c = leaves_then (λ x. x.1.steps) left c.steps (left_with limit states es c) _ (left_with_leaves es c) (λ x. tt)

    pub does_all_leaves : (ss : StatementTrees) (c : Going) → Leaves left c.steps (does_all limit states ss c)
    does_all_leaves no_statements c = omega arith
    does_all_leaves (more_statements s ss) c = leaves_then left left c.steps (does limit states s c) (does_all limit states ss) (does_leaves s c) (does_all_leaves ss)

    handled_leaves : (hs : HandlerTrees) (error : ℕ) (values : List ValueTree) (c : Going) → Leaves left c.steps (handled limit states hs error values c)
    handled_leaves no_handlers error values c = unhandled_leaves error c.variables c.steps
    handled_leaves (more_handlers e places ss hs) error values c =
        by_test left c.steps (catches e error) _ _
        (leaves_then left left c.steps (fill_places limit states places values c) (does_all limit states ss) (filled_leaves places values c) (does_all_leaves ss))
        (handled_leaves hs error values c)
