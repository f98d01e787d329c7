-- A run of the history that a member performs, as far as it has come.
use Rattle.std.proofs.Common.{◌≡◌, ℕ, zero, suc, ◌+◌, ◌<◌, ◌≤◌, Bool, true, false, cond, List, [], ◌∷◌, ◌++◌, length, take, Some, None, ◌⊎◌, inl, inr, refl, ap, sym, subst, ◌∙◌, arith, length-append}
use Rattle.std.specs.Prelude.{slice_get, slice_index}
use Rattle.std.proofs.Math.Seq.{take-length}
use Rattle.std.proofs.lemmas.Bool.{cases_lt}
use Rattle.std.proofs.lemmas.Option.{same_Some, slice_get_within}
use Rattle.circus_value.specs.declared.outcome.Outcome.{Outcome}
use Rattle.circus_model.specs.declared.history.Ask.{Ask}
use Rattle.circus_model.specs.declared.history.Run.{Run}
use Rattle.circus_model.specs.NextTurn.{NextTurn, asks, ends}
use Rattle.circus_model.specs.Behaviour.{Behaviour}
use Rattle.circus_model.specs.Agree.{IsAt, AreModules, Agree}
use Rattle.circus_model.specs.Execution as E
use Rattle.circus_model.specs.Execution.{is_spent, history_of}
use Rattle.circus_model.specs.History.{run_at, state_after, current_clock, clock_before, IsAnswered}
use Rattle.circus_model.proofs.Lookups.{within}
use Rattle.circus_model.proofs.Logging.{and_some}
use Rattle.circus_record.specs.declared.record.AskRecord.{AskRecord}
use Rattle.circus_record.specs.declared.record.RunRecord.{RunRecord}
use Rattle.circus_performing.specs.Performing as P
use Rattle.circus_performing.specs.Performing.{clock_after, made_ask, answered_ask, refusal, with_ask, with_refusal, ended_run, turn_run, gone_on}
use Rattle.circus_member_theory.specs.Stands.{IsAnsweredSo, WaitsFor, AreAnsweredSo, IsEnteredSo, IsPerformed, IsUnderWay}
use Rattle.circus_member_theory.proofs.Histories.{known, run_follows, asking, ask_is_answered}

-- ---- asks that were answered as in the history

replies_same : (made : List Ask) (kept : List AskRecord) → AreAnsweredSo made kept → P.replies_of kept ≡ E.replies_of made
replies_same [] [] h = refl
replies_same [] (a ∷ kept) h = absurd h
replies_same (ask ∷ made) [] h = absurd h
replies_same (ask ∷ made) (a ∷ kept) h =
    rw h.0.reply (ap (λ (rest : List Outcome). ask.reply ∷ rest) (replies_same made kept h.1))

clock_same : (entry : List ℕ) (made : List Ask) (kept : List AskRecord) → AreAnsweredSo made kept → clock_after entry kept ≡ current_clock entry made
clock_same entry [] [] h = refl
clock_same entry [] (a ∷ kept) h = absurd h
clock_same entry (ask ∷ made) [] h = absurd h
clock_same entry (ask ∷ made) (a ∷ kept) h = rw h.0.after (clock_same ask.after made kept h.1)

answered_more : (made : List Ask) (kept : List AskRecord) (ask : Ask) (a : AskRecord) → AreAnsweredSo made kept → IsAnsweredSo ask a → AreAnsweredSo (made ++ ask ∷ []) (kept ++ a ∷ [])
answered_more [] [] ask a h is = (is, tt)
answered_more [] (b ∷ kept) ask a h is = absurd h
answered_more (other ∷ made) [] ask a h is = absurd h
answered_more (other ∷ made) (b ∷ kept) ask a h is = (h.0, answered_more made kept ask a h.1 is)

-- a front with what stands behind it
front_with : {X : Type 0} (xs : List X) (n : ℕ) (x : X) → slice_get xs n ≡ Some x → take (suc n) xs ≡ take n xs ++ x ∷ []
front_with [] n x h = cc
front_with (y ∷ xs) zero x h = ap (λ z. z ∷ []) (same_Some y x h)
front_with {X = X} (y ∷ xs) (suc n) x h = ap (λ (rest : List X). y ∷ rest) (front_with xs n x h)

-- ---- a run so far

-- it was entered as that of the history, its asks are the first ones, each answered, and it has no end yet
pub record IsSoFar (run : Run) (kept : RunRecord) : Type 0 where
  pub entered : IsEnteredSo run kept
  pub few : length kept.asks ≤ length run.asks
  pub answered : AreAnsweredSo (take (length kept.asks) run.asks) kept.asks
  pub no_outcome : kept.outcome ≡ None
  pub no_state : kept.state ≡ None
  pub no_end : kept.end ≡ None

-- it waits for the reply to an ask, with calls left
pub record IsAtAsk (run : Run) (kept : RunRecord) : Type 0 where
  pub waiting : AskRecord
  pub under_way : IsUnderWay run kept waiting
  pub calls_left : is_spent (clock_before run (length under_way.made)) ≡ false

-- it went on as far as it can: it has ended, or waits
abbrev pub IsGone : Run → RunRecord → Type 0
IsGone run kept = IsPerformed run kept ⊎ IsAtAsk run kept

-- one that was just entered
pub entered_so_far : (run : Run) (kept : RunRecord) → IsEnteredSo run kept → kept.asks ≡ [] → kept.outcome ≡ None → kept.state ≡ None → kept.end ≡ None → IsSoFar run kept
entered_so_far run kept entered none no_outcome no_state no_end =
    record {
      entered = entered;
      few = rw none (omega arith);
      answered = rw none tt;
      no_outcome = no_outcome;
      no_state = no_state;
      no_end = no_end;
    }

-- with other asks it was entered so
entered_with : (run : Run) (kept : RunRecord) (made : List AskRecord) → IsEnteredSo run kept → IsEnteredSo run (record kept { asks = made })
entered_with run kept made h =
    record { root = h.root; path = h.path; procedure = h.procedure; arguments = h.arguments; entry = h.entry }

-- with one ask more that was answered
pub so_far_with : (run : Run) (kept : RunRecord) (made : List AskRecord) (ask : Ask) (a : AskRecord) → IsEnteredSo run kept → AreAnsweredSo (take (length made) run.asks) made
    → slice_get run.asks (length made) ≡ Some ask → IsAnsweredSo ask a → kept.outcome ≡ None → kept.state ≡ None → kept.end ≡ None → IsSoFar run (record kept { asks = made ++ a ∷ [] })
so_far_with run kept made ask a entered answered ask_is is no_outcome no_state no_end =
    let longer : length (made ++ a ∷ []) ≡ suc (length made) = omega (arith, length-append made (a ∷ [])) in
    let front : take (length (made ++ a ∷ [])) run.asks ≡ take (length made) run.asks ++ ask ∷ [] = ap (λ n. take n run.asks) longer ∙ front_with run.asks (length made) ask ask_is in
    record {
      entered = entered_with run kept (made ++ a ∷ []) entered;
      few = omega (arith, longer, slice_get_within run.asks (length made) ask ask_is);
      answered = subst (λ (xs : List Ask). AreAnsweredSo xs (made ++ a ∷ [])) (sym front) (answered_more (take (length made) run.asks) made ask a answered is);
      no_outcome = no_outcome;
      no_state = no_state;
      no_end = no_end;
    }

-- its clock is that of the run
pub clock_is : (run : Run) (kept : RunRecord) (made : List AskRecord) → IsEnteredSo run kept → AreAnsweredSo (take (length made) run.asks) made
    → clock_after kept.entry made ≡ clock_before run (length made)
clock_is run kept made entered answered =
    clock_same kept.entry (take (length made) run.asks) made answered ∙ ap (λ entry. current_clock entry (take (length made) run.asks)) entered.entry

module _ (program : List Behaviour) (agree : Agree program) (are : AreModules program) (place : ℕ) (b : Behaviour) (at : IsAt program place b) (index : ℕ) (run : Run)
    (run_is : run_at (history_of program) place index ≡ Some run) (step : ℕ) where
  -- the turns of the run
  abbrev turn : List Outcome → NextTurn
  turn = b.turn (state_after (history_of program) place b.first index) run.procedure run.arguments

  -- with all its asks it ends
  ends_so : (kept : RunRecord) → IsSoFar run kept → length kept.asks ≡ length run.asks
      → turn (P.replies_of kept.asks) ≡ ends run.outcome run.state × IsPerformed run (ended_run step run.outcome run.state kept)
  ends_so kept so all =
      let front : take (length kept.asks) run.asks ≡ run.asks = ap (λ n. take n run.asks) all ∙ take-length run.asks in
      let answered : AreAnsweredSo run.asks kept.asks = subst (λ (xs : List Ask). AreAnsweredSo xs kept.asks) front so.answered in
      let grows = (known program agree are place index run run_is).1.grows in
      let e = so.entered in (
        ap turn (replies_same run.asks kept.asks answered) ∙ (run_follows program agree are place b at index run run_is).ends_so,
        record {
          entered = record { root = e.root; path = e.path; procedure = e.procedure; arguments = e.arguments; entry = e.entry };
          asks = answered;
          outcome = refl;
          state = refl;
          end = ap Some (clock_same kept.entry run.asks kept.asks answered ∙ ap (λ entry. current_clock entry run.asks) e.entry ∙ sym grows.end);
        },
      )

  -- else it makes the next one
  module _ (kept : RunRecord) (so : IsSoFar run kept) (ask : Ask) (ask_is : slice_get run.asks (length kept.asks) ≡ Some ask) where
    asks_so : turn (P.replies_of kept.asks) ≡ asks ask.callee ask.procedure ask.arguments ask.state
    asks_so =
        ap turn (replies_same (take (length kept.asks) run.asks) kept.asks so.answered) ∙ asking program agree are place b at index (length kept.asks) run ask run_is ask_is

    answer : IsAnswered (history_of program) run.root (run.path ++ length kept.asks ∷ []) (clock_before run (length kept.asks)) ask
    answer = ask_is_answered program agree are place b at index (length kept.asks) run ask run_is ask_is

    clock : clock_after kept.entry kept.asks ≡ clock_before run (length kept.asks)
    clock = clock_is run kept kept.asks so.entered so.answered

    -- the ask that it makes
    abbrev next_ask : AskRecord
    next_ask = made_ask step (clock_after kept.entry kept.asks) ask.callee ask.procedure ask.arguments ask.state

    index_so : next_ask.index ≡ ask.index
    index_so = ap (λ c. slice_index c ask.callee) clock ∙ sym answer.index

    -- where the thread is spent, it is refused as in the history
    refused_so : is_spent (clock_after kept.entry kept.asks) ≡ true → IsSoFar run (with_refusal step ask.callee ask.procedure ask.arguments ask.state kept)
    refused_so spent =
        let refused = answer.refused (ap is_spent (sym clock) ∙ spent) in
        so_far_with run kept kept.asks ask (answered_ask step refusal (clock_after kept.entry kept.asks) next_ask) so.entered so.answered ask_is
        (record {
          asks = record { callee = refl; index = index_so; procedure = refl; arguments = refl; state = refl };
          reply = ap Some (sym refused.reply);
          after = ap Some (clock ∙ sym refused.after);
        })
        so.no_outcome so.no_state so.no_end

    waits_so : is_spent (clock_after kept.entry kept.asks) ≡ false → IsAtAsk run (with_ask kept next_ask)
    waits_so unspent =
        record {
          waiting = next_ask;
          under_way = record {
            made = kept.asks;
            asks = refl;
            entered = entered_with run kept (kept.asks ++ next_ask ∷ []) so.entered;
            answered = so.answered;
            next = and_some (slice_get run.asks (length kept.asks)) (λ a. WaitsFor a next_ask) ask ask_is (record {
              asks = record { callee = refl; index = index_so; procedure = refl; arguments = refl; state = refl };
              reply = refl;
              after = refl;
            });
            no_outcome = so.no_outcome;
            no_state = so.no_state;
            no_end = so.no_end;
          };
          calls_left = ap is_spent (sym clock) ∙ unspent;
        }

  -- it goes on as far as it can, where turns are left for all asks and the end
  pub gone_on_so : (left : ℕ) (kept : RunRecord) → IsSoFar run kept → length run.asks < length kept.asks + left → IsGone run (gone_on step turn left kept)
  unfolding gone_on
  gone_on_so zero kept so enough = absurd (omega (arith, so.few, enough))
  gone_on_so (suc left) kept so enough = by_place (gone_on_so left) (cases_lt (length kept.asks) (length run.asks))
    where
      Rest : Type 0
      Rest = (later : RunRecord) → IsSoFar run later → length run.asks < length later.asks + left → IsGone run (gone_on step turn left later)

      by_clock : Rest → (ask : Ask) → slice_get run.asks (length kept.asks) ≡ Some ask → (s : Bool) → is_spent (clock_after kept.entry kept.asks) ≡ s
          → IsGone run (cond s (gone_on step turn left (with_refusal step ask.callee ask.procedure ask.arguments ask.state kept)) (with_ask kept (made_ask step (clock_after kept.entry kept.asks) ask.callee ask.procedure ask.arguments ask.state)))
      by_clock rest ask ask_is true spent =
          let more = answered_ask step refusal (clock_after kept.entry kept.asks) (made_ask step (clock_after kept.entry kept.asks) ask.callee ask.procedure ask.arguments ask.state) in
          rest (with_refusal step ask.callee ask.procedure ask.arguments ask.state kept) (refused_so kept so ask ask_is spent) (omega (arith, length-append kept.asks (more ∷ []), enough))
      by_clock rest ask ask_is false unspent = inr (waits_so kept so ask ask_is unspent)

      by_place : Rest → (length kept.asks < length run.asks) ⊎ (length run.asks ≤ length kept.asks) → IsGone run (turn_run step (gone_on step turn left) kept (turn (P.replies_of kept.asks)))
      by_place rest (inl more) =
          let ask = within run.asks (length kept.asks) more in
          subst (λ (next : NextTurn). IsGone run (turn_run step (gone_on step turn left) kept next)) (sym (asks_so kept so ask.0 ask.1))
          (by_clock rest ask.0 ask.1 (is_spent (clock_after kept.entry kept.asks)) refl)
      by_place rest (inr all) =
          let end = ends_so kept so (omega (arith, all, so.few)) in
          subst (λ (next : NextTurn). IsGone run (turn_run step (gone_on step turn left) kept next)) (sym end.0) (inl end.1)
