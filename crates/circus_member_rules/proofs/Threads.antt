-- A run's thread stays what it is as the run goes on.
use Rattle.std.proofs.Common.{◌≡◌, ℕ, zero, suc, ◌+◌, ◌<◌, Bool, true, false, cond, List, All, length, refl, sym, subst, ap, ◌∙◌}
use Rattle.circus_limits.specs.Limits.{most_asks}
use Rattle.std.specs.Prelude.{unwrap_or}
use Rattle.circus_value.specs.ValueTree.{ValueTree}
use Rattle.circus_value.specs.declared.outcome.Outcome.{Outcome}
use Rattle.circus_model.specs.NextTurn.{NextTurn, asks, ends}
use Rattle.circus_model.specs.Execution.{is_spent}
use Rattle.circus_record.specs.declared.record.AskRecord.{AskRecord}
use Rattle.circus_record.specs.declared.record.RunRecord.{RunRecord}
use Rattle.circus_performing.specs.Performing.{clock_after, replies_of, made_ask, answered_ask, refusal, with_ask, with_refusal, turn_run, gone_on}
use Rattle.circus_performing.proofs.Ends.{latest_more}
use Rattle.circus_member_rules.specs.Seen.Sound.{IsRunOf}

-- two runs are of one thread, which has come to one place
pub record IsOfThread (run later : RunRecord) : Type 0 where
  pub root : later.root ≡ run.root
  pub path : later.path ≡ run.path
  pub entry : later.entry ≡ run.entry
  pub now : clock_after later.entry later.asks ≡ clock_after run.entry run.asks

same_thread : (run : RunRecord) → IsOfThread run run
same_thread run = record { root = refl; path = refl; entry = refl; now = refl }

then_thread : (run later last : RunRecord) → IsOfThread run later → IsOfThread later last → IsOfThread run last
then_thread run later last h g =
    record { root = g.root ∙ h.root; path = g.path ∙ h.path; entry = g.entry ∙ h.entry; now = g.now ∙ h.now }

-- one more ask, with a clock after it or none, leaves the clock as it is
asked_thread : (run : RunRecord) (ask : AskRecord) → unwrap_or ask.after (clock_after run.entry run.asks) ≡ clock_after run.entry run.asks → IsOfThread run (with_ask run ask)
asked_thread run ask same =
    record { root = refl; path = refl; entry = refl; now = latest_more (λ (a : AskRecord). a.after) run.entry run.asks ask ∙ same }

module _ (step : ℕ) (turn : List Outcome → NextTurn) where
  pub gone_thread : (left : ℕ) (run : RunRecord) → IsOfThread run (gone_on step turn left run)
  unfolding gone_on
  gone_thread zero run = same_thread run
  gone_thread (suc left) run = by_turn (gone_thread left) (turn (replies_of run.asks))
    where
      by_clock : ((r : RunRecord) → IsOfThread r (gone_on step turn left r)) → (callee procedure : ℕ) (arguments state : List ValueTree) (spent : Bool) → IsOfThread run (cond spent (gone_on step turn left (with_refusal step callee procedure arguments state run)) (with_ask run (made_ask step (clock_after run.entry run.asks) callee procedure arguments state)))
      by_clock rest callee procedure arguments state true =
          let clock = clock_after run.entry run.asks in
          let later = with_refusal step callee procedure arguments state run in
          then_thread run later (gone_on step turn left later) (asked_thread run (answered_ask step refusal clock (made_ask step clock callee procedure arguments state)) refl) (rest later)
      by_clock rest callee procedure arguments state false =
          asked_thread run (made_ask step (clock_after run.entry run.asks) callee procedure arguments state) refl

      by_turn : ((r : RunRecord) → IsOfThread r (gone_on step turn left r)) → (next : NextTurn) → IsOfThread run (turn_run step (gone_on step turn left) run next)
      by_turn rest (ends outcome state) = record { root = refl; path = refl; entry = refl; now = refl }
      by_turn rest (asks callee procedure arguments state) = by_clock rest callee procedure arguments state (is_spent (clock_after run.entry run.asks))

-- so it has its ranges
pub still_of : (troupe modules : ℕ) (run later : RunRecord) → IsOfThread run later → IsRunOf troupe modules run → IsRunOf troupe modules later
still_of troupe modules run later same of =
    record {
      thread = record {
        begins = subst (λ n. n < modules) (sym same.root) of.thread.begins;
        numbers = subst (λ ns. All (λ n. n < most_asks) ns) (sym same.path) of.thread.numbers;
        short = subst (λ ns. length ns + troupe < modules) (sym same.path) of.thread.short;
        counts = ap length same.entry ∙ of.thread.counts;
      };
      now = ap length same.now ∙ of.now;
    }
