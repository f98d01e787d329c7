-- Well formed statements ask what is imported with values that fit, end as their procedure may, and keep the variables' shapes.
use Rattle.std.proofs.Common.{◌≡◌, ℕ, zero, suc, ◌≤◌, inl, inr, Bool, true, false, ◌==◌, nat_lt, if◌then◌else◌, IsTrue, IfOk, List, [], ◌∷◌, refl, sym, ap, subst, arith}
use Rattle.std.proofs.lemmas.Bool.{or_left, or_cases, ltb-true, eqb-true}
use Rattle.circus_value.specs.ShapeTree.{ShapeTree}
use Rattle.circus_value.specs.ShapeTree as shape
use Rattle.circus_value.specs.ValueTree.{ValueTree}
use Rattle.circus_value.specs.Fits.{fits}
use Rattle.circus_value.specs.ExternalSize.{size_of_values}
use Rattle.circus_value.specs.declared.outcome.Outcome.{Outcome}
use Rattle.circus_value.specs.declared.outcome.Outcome.TheVariants.{Returned, Raised}
use Rattle.circus_model.specs.Lawful.{outcome_fits, is_reported, is_raised_by_language}
use Rattle.circus_model.specs.LanguageError.{is_language_error}
use Rattle.circus_limits.specs.Limits.{most_asks}
use Rattle.circus_model.specs.declared.language_error.LanguageError.TheVariants.{StepLimit, CallLimit, Unhandled}
use Rattle.circus_model.specs.declared.signature.ProcedureShape.{ProcedureShape}
use Rattle.circus_model.specs.declared.signature.Signature.{Signature}
use Rattle.circus_checked.specs.declared.expression.CheckedPlace.{CheckedPlace}
use Rattle.circus_checked.specs.ExpressionTree.{ExpressionTree}
use Rattle.circus_checked.specs.StatementTree.{StatementTree, StatementTrees, HandlerTrees}
use Rattle.circus_checked.specs.Sorts.{a_truth, sort_of, kind_of, Has, Holds}
use Rattle.circus_checked.specs.WellTyped.{EachGives, EachTakes, Take, IsTyped, AreTyped, AreHandlers}
use Rattle.circus_checked.specs.WellTyped as w
use Rattle.circus_evaluate.specs.Got.{Got, Raising, got_of, truth_of}
use Rattle.circus_evaluate.specs.Evaluating.{evaluate}
use Rattle.circus_machine.specs.Storing.{stored_over, appended_over, store_at}
use Rattle.circus_machine.specs.Meaning.{Going, Flow, goes_on, ends, then_does, value_or_end, leave_together, assign_value, stores, fill_places, test_condition, left_with, takes, make_call, turns, after_reply, does, does_all, handled}
use Rattle.circus_evaluate.specs.Typed.{IsGot, Hold}
use Rattle.circus_machine.specs.Modules.{trees, IsImported, SignatureTakes, SignatureRaises, SignatureReports}
use Rattle.circus_evaluate.proofs.Sound.{gives, got_is}
use Rattle.circus_machine.proofs.Assigning.{stored_well, over_fits, append_fits}
use Rattle.circus_machine.proofs.Fulfilling.{hold_fit, fit_hold, leaving_given, imported_takes, imported_answers, same_imported, raises_reported, reported_holds, language_alone}
use Rattle.circus_machine.proofs.Behaving.{going_with, Well, raised_ends, Behaves, on, over, asking, failing, raised, in_step, behind}

-- an execution that goes on, and one that goes on with something
abbrev alone : Unit {0} → Going → Going
alone _ c = c

abbrev nothing : Unit {0} → Type 0
nothing _ = Unit {0}

abbrev beside : {A : Type 0} → A → Going → A × Going
beside a c = (a, c)

module _ (signature : Signature) (p : ProcedureShape) (shapes : List ShapeTree) (states : ℕ) where
  abbrev limit : ℕ
  limit = signature.limit

  -- a part that gives nothing
  abbrev pub Goes : ℕ → (List Outcome → Flow Going) → Type 0
  Goes n f = Behaves signature p shapes states alone nothing n f

  goes : (n : ℕ) (variables : List ValueTree) (steps : ℕ) → Well signature p shapes states variables → Goes n (λ replies. goes_on (going_with variables steps n replies))
  goes n variables steps well = on n (λ replies. goes_on (going_with variables steps n replies)) tt variables steps tt well (λ replies. refl)

  -- ---- what is stored

  assigned_goes : (n : ℕ) (place : CheckedPlace) (u : ShapeTree) (change : ValueTree → Raising ValueTree) (variables : List ValueTree) (steps : ℕ) → Holds shapes place u → ((old : ValueTree) → IsTrue (fits u old) → IfOk (change old) (λ new. IsTrue (fits u new)))
      → Well signature p shapes states variables → Goes n (λ replies. assign_value limit states place change (going_with variables steps n replies))
  assigned_goes n place u change variables steps holds so well =
      raised signature p shapes states alone nothing (Well signature p shapes states) n (store_at limit states variables place change) variables steps (λ after replies. goes_on (going_with after steps n replies))
      (stored_well limit states shapes variables place u change holds well so) well (λ after still. goes n after steps still)

  stores_goes : (n : ℕ) (place : CheckedPlace) (u s : ShapeTree) (change : Got → ValueTree → Raising ValueTree) (e : ExpressionTree) (variables : List ValueTree) (steps : ℕ) → Holds shapes place u → Has shapes e (sort_of s)
      → ((x : Got) (old : ValueTree) → IsGot (sort_of s) x → IsTrue (fits u old) → IfOk (change x old) (λ new. IsTrue (fits u new))) → Well signature p shapes states variables → Goes n (λ replies. stores limit states place change e (going_with variables steps n replies))
  stores_goes n place u s change e variables steps holds has so well =
      in_step signature p shapes states alone nothing n variables steps (λ d. then_does (value_or_end (evaluate limit d.variables e) d) (λ x. assign_value limit states place (change x) d)) well
      (λ left.
      raised signature p shapes states alone nothing (IsGot (sort_of s)) n (evaluate limit variables e) variables left (λ x replies. assign_value limit states place (change x) (going_with variables left n replies))
      (gives limit shapes variables well.hold e (sort_of s) has) well (λ x is. assigned_goes n place u (change x) variables left holds (λ old fit. so x old is fit) well))

  -- values go where they are taken
  filled_goes : (n : ℕ) (places : List CheckedPlace) (given : List ShapeTree) (ts : List ValueTree) (variables : List ValueTree) (steps : ℕ) → EachTakes shapes places given → Hold given ts → Well signature p shapes states variables
      → Goes n (λ replies. fill_places limit states places ts (going_with variables steps n replies))
  filled_goes n _ _ ts variables steps w.no_places hold well = goes n variables steps well
  filled_goes n _ _ [] variables steps (w.more_places place places t s given holds same rest) hold well = absurd hold
  filled_goes n _ _ (u ∷ ts) variables steps (w.more_places place places t s given holds same rest) hold well =
      behind signature p shapes states alone nothing alone nothing (fill_places limit states places ts) n (λ replies. assign_value limit states place (stored_over (got_of u)) (going_with variables steps n replies))
      (assigned_goes n place t (stored_over (got_of u)) variables steps holds (λ old fit. over_fits t (got_of u) old (subst (λ x. IsGot x (got_of u)) (sym same) (got_is s u hold.0)) fit) well)
      (λ m _ after left _ still. filled_goes m places given ts after left rest hold.1 still)

  take_goes : (n : ℕ) (places : List CheckedPlace) (given : List ShapeTree) (ts : List ValueTree) (variables : List ValueTree) (steps : ℕ) → Take shapes places given → Hold given ts → Well signature p shapes states variables
      → Goes n (λ replies. fill_places limit states places ts (going_with variables steps n replies))
  take_goes n _ _ ts variables steps (w.dropped given) hold well = goes n variables steps well
  take_goes n _ _ ts variables steps (w.taken places given each) hold well = filled_goes n places given ts variables steps each hold well

  -- where there are no values nothing is stored
  none_goes : (n : ℕ) (places : List CheckedPlace) (variables : List ValueTree) (steps : ℕ) → Well signature p shapes states variables → Goes n (λ replies. fill_places limit states places [] (going_with variables steps n replies))
  none_goes n [] variables steps well = goes n variables steps well
  none_goes n (place ∷ places) variables steps well = goes n variables steps well

  -- ---- conditions, values that leave, and calls

  tested_goes : (n : ℕ) (e : ExpressionTree) (variables : List ValueTree) (steps : ℕ) → Has shapes e a_truth → Well signature p shapes states variables
      → Behaves signature p shapes states (beside {A = Bool}) (λ _. Unit {0}) n (λ replies. test_condition limit states e (going_with variables steps n replies))
  tested_goes n e variables steps has well =
      in_step signature p shapes states (beside {A = Bool}) (λ _. Unit {0}) n variables steps (λ d. then_does (value_or_end (evaluate limit d.variables e) d) (λ x. goes_on (truth_of x, d))) well
      (λ left.
      raised signature p shapes states (beside {A = Bool}) (λ _. Unit {0}) (IsGot a_truth) n (evaluate limit variables e) variables left (λ x replies. goes_on (truth_of x, going_with variables left n replies))
      (gives limit shapes variables well.hold e a_truth has) well (λ x is. on n (λ replies. goes_on (truth_of x, going_with variables left n replies)) (truth_of x) variables left tt well (λ replies. refl)))

  abbrev Leave : List ShapeTree → List ValueTree → Type 0
  Leave given ts = Hold given ts × (size_of_values ts ≤ limit)

  left_goes : (n : ℕ) (es : List ExpressionTree) (given : List ShapeTree) (variables : List ValueTree) (steps : ℕ) → EachGives shapes es given → Well signature p shapes states variables
      → Behaves signature p shapes states (beside {A = List ValueTree}) (Leave given) n (λ replies. left_with limit states es (going_with variables steps n replies))
  left_goes n es given variables steps each well =
      in_step signature p shapes states (beside {A = List ValueTree}) (Leave given) n variables steps (λ d. then_does (value_or_end (leave_together limit states es d.variables) d) (λ ts. goes_on (ts, d))) well
      (λ left.
      raised signature p shapes states (beside {A = List ValueTree}) (Leave given) (Leave given) n (leave_together limit states es variables) variables left (λ ts replies. goes_on (ts, going_with variables left n replies))
      (leaving_given limit shapes variables well.hold states es given each) well (λ ts leave. on n (λ replies. goes_on (ts, going_with variables left n replies)) ts variables left leave well (λ replies. refl)))

  module _ (callee procedure : ℕ) (q : ProcedureShape) (imported : IsImported signature.imports callee procedure q) where
    abbrev Replies : Outcome → Type 0
    Replies reply = IsTrue (outcome_fits q reply)

    -- the ask, while one is left
    takes_goes : (few : Bool) (n : ℕ) (ts : List ValueTree) (variables : List ValueTree) (steps : ℕ) → nat_lt n most_asks ≡ few → Leave (trees q.arguments) ts → Well signature p shapes states variables
        → Behaves signature p shapes states (beside {A = Outcome}) Replies n (λ replies. if few then takes callee procedure ts replies (going_with variables steps n replies) else ends (Raised 60006 []) variables)
    takes_goes true n ts variables steps few leave well =
        asking n (λ replies. takes callee procedure ts replies (going_with variables steps n replies)) callee procedure ts (going_with variables steps n []) (ltb-true n most_asks few)
        (imported_takes signature.imports callee procedure q ts imported (hold_fit q.arguments ts leave.0)) leave.1 well refl
        (λ reply fits.
        on (suc n) (λ replies. takes callee procedure ts (reply ∷ replies) (going_with variables steps n (reply ∷ replies))) reply variables steps (imported_answers signature.imports callee procedure q reply imported fits) well
        (λ replies. ap (λ m. goes_on (reply, going_with variables steps m replies)) (omega arith)))
    takes_goes false n ts variables steps few leave well = failing signature p shapes states (beside {A = Outcome}) Replies n CallLimit variables well

    called_goes : (n : ℕ) (es : List ExpressionTree) (variables : List ValueTree) (steps : ℕ) → EachGives shapes es (trees q.arguments) → Well signature p shapes states variables
        → Behaves signature p shapes states (beside {A = Outcome}) Replies n (λ replies. make_call limit states callee procedure es (going_with variables steps n replies))
    called_goes n es variables steps each well =
        behind signature p shapes states (beside {A = List ValueTree}) (Leave (trees q.arguments)) (beside {A = Outcome}) Replies
        (λ x. if nat_lt x.1.asks most_asks then takes callee procedure x.0 x.1.replies x.1 else ends (Raised 60006 []) x.1.variables) n (λ replies. left_with limit states es (going_with variables steps n replies))
        (left_goes n es (trees q.arguments) variables steps each well) (λ m ts after left leave still. takes_goes (nat_lt m most_asks) m ts after left refl leave still)

  -- ---- statements

  by_truth : (b : Bool) (n : ℕ) (f g : List Outcome → Flow Going) → Goes n f → Goes n g → Goes n (λ replies. if b then f replies else g replies)
  by_truth true n f g first second = first
  by_truth false n f g first second = second

  -- a part of the execution, from wherever it begins
  abbrev Safe : (Going → Flow Going) → Type 0
  Safe part = (n : ℕ) (variables : List ValueTree) (steps : ℕ) → Well signature p shapes states variables → Goes n (λ replies. part (going_with variables steps n replies))

  turns_goes : (most : ℕ) (e : ExpressionTree) (body : Going → Flow Going) → Has shapes e a_truth → Safe body → Safe (turns limit states most e body)
  turns_goes zero e body has safe n variables steps well = failing signature p shapes states alone nothing n StepLimit variables well
  turns_goes (suc most) e body has safe n variables steps well =
      behind signature p shapes states (beside {A = Bool}) (λ _. Unit {0}) alone nothing (λ x. if x.0 then then_does (body x.1) (turns limit states most e body) else goes_on x.1) n (λ replies. test_condition limit states e (going_with variables steps n replies))
      (tested_goes n e variables steps has well)
      (λ m b after left _ still.
      by_truth b m (λ replies. then_does (body (going_with after left m replies)) (turns limit states most e body)) (λ replies. goes_on (going_with after left m replies))
      (behind signature p shapes states alone nothing alone nothing (turns limit states most e body) m (λ replies. body (going_with after left m replies)) (safe m after left still) (λ k _ last fewer _ well'. turns_goes most e body has safe k last fewer well'))
      (goes m after left still))

  unhandled_goes : (is : Bool) (error n : ℕ) (variables : List ValueTree) → is_language_error error ≡ is → Well signature p shapes states variables → Goes n (λ replies. if is then ends (Raised error []) variables else ends (Raised 60009 []) variables)
  unhandled_goes true error n variables is well = over n (λ replies. ends (Raised error []) variables) (Raised error []) variables (raised_ends signature p shapes states error variables is well) (λ replies. refl)
  unhandled_goes false error n variables is well = failing signature p shapes states alone nothing n Unhandled variables well

  -- the values of an error that a handler names
  module _ (callee procedure number : ℕ) (q : ProcedureShape) (imported : IsImported signature.imports callee procedure q) (given : List ShapeTree) (reports : SignatureReports signature.imports callee procedure number given) where
    raises_same : SignatureRaises q.errors number given
    raises_same = subst (λ r. SignatureRaises r.errors number given) (same_imported signature.imports callee procedure reports.shape q reports.imported imported) reports.raises

    named_goes : (places : List CheckedPlace) (ts : List ValueTree) → Take shapes places given → IsTrue (outcome_fits q (Raised number ts)) → Safe (fill_places limit states places ts)
    named_goes places ts take fits n variables steps well =
        elim (or_cases (is_reported q.errors number ts) (is_raised_by_language number ts) fits) [
          | inl reported ↦ take_goes n places given ts variables steps take (reported_holds q.errors number given ts raises_same reported) well
          | inr language ↦ subst (λ us. Goes n (λ replies. fill_places limit states places us (going_with variables steps n replies))) (sym (language_alone number ts language)) (none_goes n places variables steps well)
        ]

  abbrev Typed : StatementTree → Type 0
  Typed s = IsTyped shapes (SignatureTakes signature.imports) (SignatureReports signature.imports) (trees p.results) (SignatureRaises p.errors) s

  abbrev AllTyped : StatementTrees → Type 0
  AllTyped ss = AreTyped shapes (SignatureTakes signature.imports) (SignatureReports signature.imports) (trees p.results) (SignatureRaises p.errors) ss

  abbrev HandlersTyped : ℕ → ℕ → HandlerTrees → Type 0
  HandlersTyped callee procedure hs = AreHandlers shapes (SignatureTakes signature.imports) (SignatureReports signature.imports) (trees p.results) (SignatureRaises p.errors) callee procedure hs

  -- errors with these values are handled
  abbrev Handles : ProcedureShape → (ℕ → List ValueTree → Going → Flow Going) → Type 0
  Handles q handle = (error : ℕ) (ts : List ValueTree) → IsTrue (outcome_fits q (Raised error ts)) → Safe (handle error ts)

  answered_goes : (q : ProcedureShape) (places : List CheckedPlace) (handle : ℕ → List ValueTree → Going → Flow Going) → Take shapes places (trees q.results) → Handles q handle → (reply : Outcome) → IsTrue (outcome_fits q reply) → Safe (after_reply limit states places handle reply)
  answered_goes q places handle take each (Returned ts) fits n variables steps well = take_goes n places (trees q.results) ts variables steps take (fit_hold q.results ts fits) well
  answered_goes q places handle take each (Raised error ts) fits n variables steps well = each error ts fits n variables steps well

  call_goes : (callee procedure : ℕ) (es : List ExpressionTree) (places : List CheckedPlace) (handlers : HandlerTrees) (arguments results : List ShapeTree) → SignatureTakes signature.imports callee procedure arguments results → EachGives shapes es arguments → Take shapes places results
      → ((q : ProcedureShape) → IsImported signature.imports callee procedure q → Handles q (handled limit states handlers))
      → Safe (λ c. then_does (make_call limit states callee procedure es c) (λ x. after_reply limit states places (handled limit states handlers) x.0 x.1))
  call_goes callee procedure es places handlers arguments results takes each take handles n variables steps well =
      let q = takes.shape in
      behind signature p shapes states (beside {A = Outcome}) (λ reply. IsTrue (outcome_fits q reply)) alone nothing (λ x. after_reply limit states places (handled limit states handlers) x.0 x.1) n
      (λ replies. make_call limit states callee procedure es (going_with variables steps n replies))
      (called_goes callee procedure q takes.imported n es variables steps (subst (EachGives shapes es) (sym takes.takes) each) well)
      (λ m reply after left fits still. answered_goes q places (handled limit states handlers) (subst (Take shapes places) (sym takes.gives) take) (handles q takes.imported) reply fits m after left still)

  -- the handler of an error, or the ones behind it
  handler_goes : (is : Bool) (places : List CheckedPlace) (ss : StatementTrees) (ts : List ValueTree) (others : Going → Flow Going) → (is ≡ true → Safe (fill_places limit states places ts)) → Safe (does_all limit states ss) → Safe others
      → Safe (λ c. if is then then_does (fill_places limit states places ts c) (does_all limit states ss) else others c)
  handler_goes true places ss ts others fills body rest n variables steps well =
      behind signature p shapes states alone nothing alone nothing (does_all limit states ss) n (λ replies. fill_places limit states places ts (going_with variables steps n replies)) (fills refl n variables steps well) (λ m _ after left _ still. body m after left still)
  handler_goes false places ss ts others fills body rest n variables steps well = rest n variables steps well

  mutual
    does_safe : (s : StatementTree) → Typed s → Safe (does limit states s)
    does_safe _ (w.assign place e t holds has) n variables steps well =
        stores_goes n place t t stored_over e variables steps holds has (λ x old is fit. over_fits t x old is fit) well
    does_safe _ (w.append e place bound t holds has) n variables steps well =
        stores_goes n place (shape.sequence bound t) t (appended_over bound (kind_of t)) e variables steps holds has (λ x old is fit. append_fits bound t x old is fit) well
    does_safe _ (w.branch e ss others has first second) n variables steps well =
        behind signature p shapes states (beside {A = Bool}) (λ _. Unit {0}) alone nothing (λ x. if x.0 then does_all limit states ss x.1 else does_all limit states others x.1) n (λ replies. test_condition limit states e (going_with variables steps n replies))
        (tested_goes n e variables steps has well)
        (λ m b after left _ still.
        by_truth b m (λ replies. does_all limit states ss (going_with after left m replies)) (λ replies. does_all limit states others (going_with after left m replies))
        (does_all_safe ss first m after left still) (does_all_safe others second m after left still))
    does_safe _ (w.repeat e body has each) n variables steps well = turns_goes (suc steps) e (does_all limit states body) has (does_all_safe body each) n variables steps well
    does_safe _ (w.call callee procedure es places handlers arguments results takes each take handles) n variables steps well =
        call_goes callee procedure es places handlers arguments results takes each take (λ q imported. handled_safe callee procedure handlers handles q imported) n variables steps well
    does_safe _ (w.give es each) n variables steps well =
        behind signature p shapes states (beside {A = List ValueTree}) (Leave (trees p.results)) alone nothing (λ x. ends (Returned x.0) x.1.variables) n (λ replies. left_with limit states es (going_with variables steps n replies))
        (left_goes n es (trees p.results) variables steps each well)
        (λ m ts after left leave still. over m (λ replies. ends (Returned ts) after) (Returned ts) after (record { fits = hold_fit p.results ts leave.0; within = leave.1; well = still }) (λ replies. refl))
    does_safe _ (w.raise number es values raises each) n variables steps well =
        behind signature p shapes states (beside {A = List ValueTree}) (Leave values) alone nothing (λ x. ends (Raised number x.0) x.1.variables) n (λ replies. left_with limit states es (going_with variables steps n replies))
        (left_goes n es values variables steps each well)
        (λ m ts after left leave still.
        over m (λ replies. ends (Raised number ts) after) (Raised number ts) after
        (record { fits = or_left (is_reported p.errors number ts) (is_raised_by_language number ts) (raises_reported p.errors number values ts raises leave.0); within = leave.1; well = still }) (λ replies. refl))

    pub does_all_safe : (ss : StatementTrees) → AllTyped ss → Safe (does_all limit states ss)
    does_all_safe _ w.none n variables steps well = goes n variables steps well
    does_all_safe _ (w.more s ss one rest) n variables steps well =
        behind signature p shapes states alone nothing alone nothing (does_all limit states ss) n (λ replies. does limit states s (going_with variables steps n replies)) (does_safe s one n variables steps well)
        (λ m _ after left _ still. does_all_safe ss rest m after left still)

    handled_safe : (callee procedure : ℕ) (hs : HandlerTrees) → HandlersTyped callee procedure hs → (q : ProcedureShape) → IsImported signature.imports callee procedure q → Handles q (handled limit states hs)
    handled_safe _ _ _ (w.nothing callee procedure) q imported error ts fits n variables steps well = unhandled_goes (is_language_error error) error n variables refl well
    handled_safe _ _ _ (w.other callee procedure ss hs body rest) q imported error ts fits n variables steps well =
        behind signature p shapes states alone nothing alone nothing (does_all limit states ss) n (λ replies. fill_places limit states [] ts (going_with variables steps n replies)) (goes n variables steps well) (λ m _ after left _ still. does_all_safe ss body m after left still)
    handled_safe _ _ _ (w.named callee procedure number places ss hs values reports take body rest) q imported error ts fits n variables steps well =
        handler_goes (number == error) places ss ts (handled limit states hs error ts)
        (λ same. named_goes callee procedure number q imported values reports places ts take (subst (λ e. IsTrue (outcome_fits q (Raised e ts))) (sym (eqb-true number error same)) fits))
        (does_all_safe ss body) (handled_safe callee procedure hs rest q imported error ts fits) n variables steps well
