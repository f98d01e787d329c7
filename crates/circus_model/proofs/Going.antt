-- What every step of an execution keeps holds of it as a whole.
use Rattle.std.proofs.Common.{◌≡◌, ℕ, zero, suc, ◌+◌, ◌<◌, Bool, true, false, cond, List, [], ◌∷◌, ◌++◌, length, get_or, Option, refl, ap, arith, length-append}
use Rattle.std.specs.Option.{option_map_or}
use Rattle.circus_value.specs.ValueTree.{ValueTree}
use Rattle.circus_model.specs.LanguageError.{number_of}
use Rattle.circus_model.specs.declared.language_error.LanguageError.TheVariants.{ThreadSpent}
use Rattle.circus_value.specs.declared.outcome.Outcome.{Outcome}
use Rattle.circus_value.specs.declared.outcome.Outcome.TheVariants.{Raised}
use Rattle.circus_model.specs.declared.history.Ask.{Ask}
use Rattle.circus_limits.specs.Limits.{most_asks}
use Rattle.circus_model.specs.NextTurn.{NextTurn, asks, ends}
use Rattle.circus_model.specs.Behaviour.{Behaviour}
use Rattle.circus_model.specs.Agree.{IsAt, AreModules, Agree}
use Rattle.circus_model.specs.Execution.{Thread, Order, Performed, store_state, count_call, reply_to_ask, is_spent, next_order, ask_of, replies_of, never, run_after_turn, performed_on, record_run, turns_of, perform}
use Rattle.circus_model.specs.Seen.Ready.{IsThread, IsOrder}
use Rattle.circus_model.proofs.Turning.{turns, IsUnderWay, Fits, IsCalling, IsEnding, IsPerformed, calling, ending, begins, goes_on, ends_so, refusal_fits, stored_thread, counted_thread}

-- what a thread that is spent answers
abbrev pub refusal : Thread → Performed
refusal t = record { thread = t; outcome = Raised (number_of ThreadSpent) [] }

-- the turns of an order are those of its module
pub turns_are : (program : List Behaviour) (o : Order) (b : Behaviour) (t : Thread) → IsAt program o.callee b → turns_of program t o ≡ turns b o t
turns_are program o b t there =
    ap (λ (x : Option Behaviour). λ (replies : List Outcome). option_map_or (λ (d : Behaviour). d.turn (get_or t.store o.callee []) o.procedure o.arguments replies) x (ends never [])) there

module _ (program : List Behaviour) (agree : Agree program) (lawful : AreModules program) (Entered : Order → Behaviour → Thread → Type 0) (Open : Order → Behaviour → Thread → List Ask → Thread → Type 0) (Left : Order → Behaviour → Thread → Performed → Type 0) where
  -- what is kept by the beginning of a run, by an ask that is refused, by the beginning of a call and its return, and by the end
  pub record IsKept : Type 0 where
    pub begin : (o : Order) (b : Behaviour) (t : Thread) → IsUnderWay program o b t [] t → Entered o b t → Open o b t [] t
    pub refuse : (o : Order) (b : Behaviour) (t u : Thread) (made : List Ask) (c q : ℕ) (a v : List ValueTree) → IsUnderWay program o b t made u → turns b o t (replies_of made) ≡ asks c q a v → IsCalling program o b made c q a v → is_spent u.clock ≡ true → Open o b t made u → let before = store_state u o.callee v in Open o b t (made ++ ask_of (next_order o made c q a) v before (refusal before) ∷ []) before
    pub call : (o : Order) (b : Behaviour) (t u : Thread) (made : List Ask) (c q : ℕ) (a v : List ValueTree) (d : Behaviour) → IsUnderWay program o b t made u → turns b o t (replies_of made) ≡ asks c q a v → IsCalling program o b made c q a v → IsAt program c d → is_spent u.clock ≡ false → Open o b t made u → Entered (next_order o made c q a) d (count_call (store_state u o.callee v) c)
    pub reply : (o : Order) (b : Behaviour) (t u : Thread) (made : List Ask) (c q : ℕ) (a v : List ValueTree) (d : Behaviour) (p : Performed) → IsUnderWay program o b t made u → turns b o t (replies_of made) ≡ asks c q a v → IsCalling program o b made c q a v → IsAt program c d → is_spent u.clock ≡ false → Open o b t made u → Left (next_order o made c q a) d (count_call (store_state u o.callee v) c) p → IsPerformed program d q p → let before = store_state u o.callee v in Open o b t (made ++ ask_of (next_order o made c q a) v before p ∷ []) p.thread
    pub end : (o : Order) (b : Behaviour) (t u : Thread) (made : List Ask) (outcome : Outcome) (v : List ValueTree) → IsUnderWay program o b t made u → turns b o t (replies_of made) ≡ ends outcome v → IsEnding b o outcome v → Open o b t made u → Left o b t (record_run o t (record { thread = store_state u o.callee v; made = made; outcome = outcome }))

  -- a call that nests so deep at most leaves what it should
  abbrev Calls : ℕ → Type 0
  Calls depth = (t : Thread) (o : Order) (b : Behaviour) → o.callee < depth → IsThread program t → IsOrder program o → IsAt program o.callee b → Entered o b t → Left o b t (perform program depth t o) × IsPerformed program b o.procedure (perform program depth t o)

  module _ (kept : IsKept) (depth : ℕ) (calls : Calls depth) (o : Order) (b : Behaviour) (t : Thread) (below : o.callee < suc depth) where
    -- after an ask
    abbrev Asked : List Ask → Thread → ℕ → ℕ → List ValueTree → List ValueTree → Performed → Type 0
    Asked made u c q a v p =
        let before = store_state u o.callee v in
        Open o b t (made ++ ask_of (next_order o made c q a) v before p ∷ []) p.thread × IsUnderWay program o b t (made ++ ask_of (next_order o made c q a) v before p ∷ []) p.thread

    pub asked : (u : Thread) (made : List Ask) (c q : ℕ) (a v : List ValueTree) → IsUnderWay program o b t made u → turns b o t (replies_of made) ≡ asks c q a v → IsCalling program o b made c q a v → Open o b t made u → Asked made u c q a v (reply_to_ask (perform program depth) (store_state u o.callee v) (next_order o made c q a))
    unfolding reply_to_ask
    asked u made c q a v h is call holds = by_clock (is_spent u.clock) refl
      where
        before : Thread
        before = store_state u o.callee v

        stands : IsThread program before
        stands = stored_thread program u o.callee b v h.thread h.there call.state

        goes : (p : Performed) → IsThread program p.thread → Fits call.callee q p.outcome → IsUnderWay program o b t (made ++ ask_of (next_order o made c q a) v before p ∷ []) p.thread
        goes p thread fits =
            goes_on program agree lawful o b t u p.thread made c q a v (ask_of (next_order o made c q a) v before p) h is call.few thread (call.answers p.outcome fits)

        by_clock : (s : Bool) → is_spent u.clock ≡ s → Asked made u c q a v (cond s (refusal before) (perform program depth (count_call before c) (next_order o made c q a)))
        by_clock true spent = (
          kept.refuse o b t u made c q a v h is call spent holds,
          goes (refusal before) stands (refusal_fits call.callee q call.declared.0 call.declared.1),
        )
        by_clock false unspent =
            let entered = kept.call o b t u made c q a v call.callee h is call call.there unspent holds in
            let left = calls (count_call before c) (next_order o made c q a) call.callee (omega (arith, call.earlier, below)) (counted_thread program before c stands) call.order call.there entered in (
              kept.reply o b t u made c q a v call.callee _ h is call call.there unspent holds left.0 left.1,
              goes _ left.1.thread left.1.fits,
            )

    -- from its asks so far to its end
    goes_to_end : (left : ℕ) (u : Thread) (made : List Ask) → left + length made ≡ most_asks + 1 → IsUnderWay program o b t made u → Open o b t made u → let p = record_run o t (performed_on (perform program depth) o (turns b o t) left made u) in Left o b t p × IsPerformed program b o.procedure p
    unfolding performed_on
    goes_to_end zero u made count h holds = absurd (omega (arith, h.few))
    goes_to_end (suc left) u made count h holds =
        by_turn (goes_to_end left) (turns b o t (replies_of made)) refl
      where
        by_turn : ((w : Thread) (more : List Ask) → left + length more ≡ most_asks + 1 → IsUnderWay program o b t more w → Open o b t more w → let p = record_run o t (performed_on (perform program depth) o (turns b o t) left more w) in Left o b t p × IsPerformed program b o.procedure p) → (next : NextTurn) → turns b o t (replies_of made) ≡ next → let p = record_run o t (run_after_turn (perform program depth) o (performed_on (perform program depth) o (turns b o t) left) made u next) in Left o b t p × IsPerformed program b o.procedure p
        by_turn rest (ends outcome v) is =
            let so = ending program agree lawful o b t u made outcome v h is in (
              kept.end o b t u made outcome v h is so holds,
              ends_so program agree lawful o b t u made outcome v h so,
            )
        by_turn rest (asks c q a v) is =
            let call = calling program agree lawful o b t u made c q a v h is in
            let on = asked u made c q a v h is call holds in
            let p = reply_to_ask (perform program depth) (store_state u o.callee v) (next_order o made c q a) in
            rest p.thread _ (rw (length-append made _) (omega (arith, count))) on.1 on.0

  pub perform_leaves : IsKept → (depth : ℕ) → Calls depth
  unfolding perform
  perform_leaves kept zero t o b below thread order there entered = absurd (omega (arith, below))
  perform_leaves kept (suc depth) t o b below thread order there entered =
      let way = begins program agree lawful o b t thread order there in
      rw (turns_are program o b t there) (goes_to_end kept depth (perform_leaves kept depth) o b t below (most_asks + 1) t [] refl way (kept.begin o b t way entered))
