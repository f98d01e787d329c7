-- Statements that are well formed stay so where procedures take, report and raise more.
use Rattle.std.proofs.Common.{ℕ, List}
use Rattle.circus_value.specs.ShapeTree.{ShapeTree}
use Rattle.circus_checked.specs.StatementTree.{StatementTree, StatementTrees, HandlerTrees}
use Rattle.circus_checked.specs.WellTyped as w
use Rattle.circus_checked.specs.WellTyped.{IsTyped, AreTyped, AreHandlers}

module _ (variables : List ShapeTree) (Takes Takes' : ℕ → ℕ → List ShapeTree → List ShapeTree → Type 0) (Reports Reports' : ℕ → ℕ → ℕ → List ShapeTree → Type 0) (results : List ShapeTree) (Raises Raises' : ℕ → List ShapeTree → Type 0)
    (takes : (callee procedure : ℕ) (arguments gives : List ShapeTree) → Takes callee procedure arguments gives → Takes' callee procedure arguments gives)
    (reports : (callee procedure number : ℕ) (values : List ShapeTree) → Reports callee procedure number values → Reports' callee procedure number values)
    (raises : (number : ℕ) (values : List ShapeTree) → Raises number values → Raises' number values) where
  mutual
    pub typed_more : (s : StatementTree) → IsTyped variables Takes Reports results Raises s → IsTyped variables Takes' Reports' results Raises' s
    typed_more _ (w.assign p e t holds has) = w.assign p e t holds has
    typed_more _ (w.append e p bound t holds has) = w.append e p bound t holds has
    typed_more _ (w.branch e ss others tested own else) = w.branch e ss others tested (all_typed_more ss own) (all_typed_more others else)
    typed_more _ (w.repeat e body tested own) = w.repeat e body tested (all_typed_more body own)
    typed_more _ (w.call callee procedure es into handlers arguments gives known each takes_in handled) =
        w.call callee procedure es into handlers arguments gives (takes callee procedure arguments gives known) each takes_in (handlers_more callee procedure handlers handled)
    typed_more _ (w.give es each) = w.give es each
    typed_more _ (w.raise number es values known each) = w.raise number es values (raises number values known) each

    pub all_typed_more : (ss : StatementTrees) → AreTyped variables Takes Reports results Raises ss → AreTyped variables Takes' Reports' results Raises' ss
    all_typed_more _ w.none = w.none
    all_typed_more _ (w.more s ss own others) = w.more s ss (typed_more s own) (all_typed_more ss others)

    handlers_more : (callee procedure : ℕ) (hs : HandlerTrees) → AreHandlers variables Takes Reports results Raises callee procedure hs → AreHandlers variables Takes' Reports' results Raises' callee procedure hs
    handlers_more _ _ _ (w.nothing callee procedure) = w.nothing callee procedure
    handlers_more _ _ _ (w.other callee procedure ss hs own others) = w.other callee procedure ss hs (all_typed_more ss own) (handlers_more callee procedure hs others)
    handlers_more _ _ _ (w.named callee procedure number places ss hs values known takes_in own others) =
        w.named callee procedure number places ss hs values (reports callee procedure number values known) takes_in (all_typed_more ss own) (handlers_more callee procedure hs others)
