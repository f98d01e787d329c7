-- What a turn of a run that is under way comes to.
use Rattle.std.proofs.Common.{◌≡◌, ℕ, zero, suc, ◌+◌, ◌<◌, Bool, true, false, cond, List, [], ◌∷◌, ◌++◌, length, Some, None, ◌⊎◌, inl, inr, refl, sym, subst, ap, ◌∙◌, arith, length-append}
use Rattle.std.specs.Prelude.{◌||◌}
use Rattle.std.specs.Option.{option_map_or}
use Rattle.circus_value.specs.ValueTree.{ValueTree}
use Rattle.circus_value.specs.Fits.{all_fit}
use Rattle.circus_value.specs.declared.outcome.Outcome.{Outcome}
use Rattle.circus_model.specs.declared.signature.Import.{Import}
use Rattle.circus_model.specs.declared.signature.ProcedureShape.{ProcedureShape}
use Rattle.circus_limits.specs.Limits.{most_asks}
use Rattle.circus_model.specs.NextTurn.{NextTurn, asks, ends}
use Rattle.circus_model.specs.Lawful.{IsLawful, ReplyFits, import_of, procedure_numbered, import_takes, import_answers, is_reported}
use Rattle.circus_model.specs.Behaviour.{Behaviour, IsModule}
use Rattle.circus_model.specs.Execution.{is_spent}
use Rattle.circus_model.proofs.Turning.{some_true, fits_more}
use Rattle.circus_record.specs.declared.record.AskRecord.{AskRecord}
use Rattle.circus_record.specs.declared.record.RunRecord.{RunRecord}
use Rattle.circus_performing.specs.declared.start.RunStart.{RunStart}
use Rattle.circus_performing.specs.Performing.{clock_after, replies_of, refusal, made_ask, answered_ask, with_ask, with_refusal, ended_run, turn_run, gone_on, most_turns}
use Rattle.circus_performing.specs.Record.{start_of, turns, IsMade, IsAnswered, HasMade, HasEnded, IsOpen}
use Rattle.circus_performing.specs.Seen.UnderWay.{IsUnderWay}
use Rattle.circus_performing.proofs.Ends.{latest_more, replies_more, earlier_or_added}

-- an ask of an import may be refused
pub refusal_fits : (b : Behaviour) (callee procedure : ℕ) (arguments : List ValueTree) → import_takes b.declared.imports callee procedure arguments ≡ true → import_answers b.declared.imports callee procedure refusal ≡ true
refusal_fits b callee procedure arguments takes =
    let i = some_true (λ (i : Import). option_map_or (λ (p : ProcedureShape). all_fit p.arguments arguments) (procedure_numbered procedure i.procedures) false) (import_of callee b.declared.imports) takes in
    let p = some_true (λ (p : ProcedureShape). all_fit p.arguments arguments) (procedure_numbered procedure i.value.procedures) i.passes in
    rw i.there (rw p.there (or_true (is_reported p.value.errors 60007 [])))
  where
    or_true : (x : Bool) → (x || true) ≡ true
    or_true true = refl
    or_true false = refl

module _ (b : Behaviour) (state : List ValueTree) where
  -- an ask more was answered
  pub made_more : (start : RunStart) (started : ℕ) (made : List AskRecord) (ask : AskRecord) → HasMade b state start started made → IsMade b state start started made ask → IsAnswered b start made ask → HasMade b state start started (made ++ ask ∷ [])
  made_more start started made ask h is answered =
      let fits : ReplyFits b.declared.imports (turns b state start (replies_of made)) answered.reply = rw is.turn answered.fits in
      record {
        may_start = h.may_start;
        replies_fit = rw (replies_more made ask answered.reply answered.reply_is) (fits_more b.declared.imports (turns b state start) [] (replies_of made) answered.reply h.replies_fit fits);
        asks_so = λ number a at.
            elim (earlier_or_added made ask number a at) [
              | inl early ↦ rw early.before (h.asks_so number a early.there)
              | inr added ↦ rw (added.before, ← added.same) (is, answered)
            ];
      }

  module _ (lawful : IsModule b) where
    -- a turn is lawful
    pub turn_is_lawful : (start : RunStart) (started : ℕ) (made : List AskRecord) (next : NextTurn) → HasMade b state start started made → turns b state start (replies_of made) ≡ next → IsLawful b.declared start.procedure (length (replies_of made)) next
    turn_is_lawful start started made next h is =
        rw is at (lawful.turns_are_lawful state start.procedure start.arguments (replies_of made) h.may_start h.replies_fit)

    module _ (step : ℕ) where
      -- a run that ends
      pub ends_so : (run : RunRecord) (outcome : Outcome) (after : List ValueTree) → IsUnderWay b state step run → turns b state (start_of run) (replies_of run.asks) ≡ ends outcome after → HasEnded b state (ended_run step outcome after run)
      ends_so run outcome after h is =
          record {
            outcome = outcome;
            after = after;
            made = h.made;
            turn = is;
            outcome_is = refl;
            state_is = refl;
            end_is = refl;
            ended_is = ap Some (sym h.now);
          }

      -- the ask that a run makes
      abbrev pub made_so : (run : RunRecord) (callee procedure : ℕ) (arguments asked : List ValueTree) → IsUnderWay b state step run → turns b state (start_of run) (replies_of run.asks) ≡ asks callee procedure arguments asked → IsMade b state (start_of run) run.started run.asks (made_ask step (clock_after run.entry run.asks) callee procedure arguments asked)
      made_so run callee procedure arguments asked h is = record { turn = is; index = refl; asked = sym h.now }

      -- a run that waits
      abbrev pub waits_so : (run : RunRecord) (callee procedure : ℕ) (arguments asked : List ValueTree) → IsUnderWay b state step run → turns b state (start_of run) (replies_of run.asks) ≡ asks callee procedure arguments asked → is_spent (clock_after run.entry run.asks) ≡ false → IsOpen b state (with_ask run (made_ask step (clock_after run.entry run.asks) callee procedure arguments asked))
      waits_so run callee procedure arguments asked h is left =
          record {
            before = run.asks;
            ask = made_ask step (clock_after run.entry run.asks) callee procedure arguments asked;
            asks_are = refl;
            made = h.made;
            asking = made_so run callee procedure arguments asked h is;
            waits = record { no_reply = refl; no_clock = refl; not_answered = refl; calls_left = left };
            no_outcome = h.no_outcome;
            no_state = h.no_state;
            no_end = h.no_end;
            not_ended = h.not_ended;
          }

      -- a run goes on with a reply that came in this step
      pub goes_on : (run : RunRecord) (before : List AskRecord) (ask : AskRecord) (reply : Outcome) (clock : List ℕ) → HasMade b state (start_of run) run.started before → IsMade b state (start_of run) run.started before ask → length (replies_of before) < most_asks → import_answers b.declared.imports ask.callee ask.procedure reply ≡ true → (is_spent (clock_after run.entry before) ≡ true → (reply ≡ refusal) × (clock ≡ clock_after run.entry before) × (step ≡ ask.asked)) → run.outcome ≡ None → run.state ≡ None → run.end ≡ None → run.ended ≡ None → IsUnderWay b state step (record run { asks = before ++ answered_ask step reply clock ask ∷ [] })
      goes_on run before ask reply clock made is few fits refused no_outcome no_state no_end not_ended =
          let done = answered_ask step reply clock ask in
          let answered : IsAnswered b (start_of run) before done = record { reply = reply; after = clock; answered = step; reply_is = refl; after_is = refl; answered_is = refl; fits = fits; refused = refused } in
          let so : IsMade b state (start_of run) run.started before done = record { turn = is.turn; index = is.index; asked = is.asked } in
          record {
            made = made_more (start_of run) run.started before done made so answered;
            few = rw (replies_more before done reply refl) (omega (arith, length-append (replies_of before) (reply ∷ []), few));
            now = latest_more (λ (a : AskRecord). a.answered) run.started before done;
            no_outcome = no_outcome;
            no_state = no_state;
            no_end = no_end;
            not_ended = not_ended;
          }

      -- it goes on where its ask is refused
      pub refused_so : (run : RunRecord) (callee procedure : ℕ) (arguments asked : List ValueTree) → IsUnderWay b state step run → turns b state (start_of run) (replies_of run.asks) ≡ asks callee procedure arguments asked → is_spent (clock_after run.entry run.asks) ≡ true → IsUnderWay b state step (with_refusal step callee procedure arguments asked run)
      refused_so run callee procedure arguments asked h is spent =
          let law = turn_is_lawful (start_of run) run.started run.asks (asks callee procedure arguments asked) h.made is in
          let ask = made_ask step (clock_after run.entry run.asks) callee procedure arguments asked in
          goes_on run run.asks ask refusal (clock_after run.entry run.asks) h.made (made_so run callee procedure arguments asked h is) law.0.few (refusal_fits b callee procedure arguments law.0.fit) (λ _. (refl, refl, refl)) h.no_outcome h.no_state h.no_end h.not_ended

      -- one reply more
      pub refused_replies : (run : RunRecord) (callee procedure : ℕ) (arguments asked : List ValueTree) → replies_of (with_refusal step callee procedure arguments asked run).asks ≡ replies_of run.asks ++ refusal ∷ []
      refused_replies run callee procedure arguments asked =
          replies_more run.asks (answered_ask step refusal (clock_after run.entry run.asks) (made_ask step (clock_after run.entry run.asks) callee procedure arguments asked)) refusal refl

      -- one turn of a run that goes on
      pub gone_once : (left : ℕ) (run : RunRecord) → gone_on step (turns b state (start_of run)) (suc left) run ≡ turn_run step (gone_on step (turns b state (start_of run)) left) run (turns b state (start_of run) (replies_of run.asks))
      unfolding gone_on
      gone_once left run = refl

      -- a run has gone on as far as it can
      abbrev pub Rests : RunRecord → Type 0
      Rests run = HasEnded b state run ⊎ IsOpen b state run

      -- where turns are left for all asks
      pub comes_to_rest : (left : ℕ) (run : RunRecord) → most_asks < left + length (replies_of run.asks) → IsUnderWay b state step run → Rests (gone_on step (turns b state (start_of run)) left run)
      comes_to_rest zero run enough h = absurd (omega (arith, h.few, enough))
      comes_to_rest (suc left) run enough h =
          subst Rests (sym (gone_once left run)) (by_turn (comes_to_rest left) (turns b state (start_of run) (replies_of run.asks)) refl)
        where
          by_clock : ((later : RunRecord) → most_asks < left + length (replies_of later.asks) → IsUnderWay b state step later → Rests (gone_on step (turns b state (start_of later)) left later)) → (callee procedure : ℕ) (arguments asked : List ValueTree) → turns b state (start_of run) (replies_of run.asks) ≡ asks callee procedure arguments asked → (s : Bool) → is_spent (clock_after run.entry run.asks) ≡ s → Rests (cond s (gone_on step (turns b state (start_of run)) left (with_refusal step callee procedure arguments asked run)) (with_ask run (made_ask step (clock_after run.entry run.asks) callee procedure arguments asked)))
          by_clock rest callee procedure arguments asked is true spent =
              rest (with_refusal step callee procedure arguments asked run) (rw (refused_replies run callee procedure arguments asked) (omega (arith, length-append (replies_of run.asks) (refusal ∷ []), enough))) (refused_so run callee procedure arguments asked h is spent)
          by_clock rest callee procedure arguments asked is false unspent = inr (waits_so run callee procedure arguments asked h is unspent)

          by_turn : ((later : RunRecord) → most_asks < left + length (replies_of later.asks) → IsUnderWay b state step later → Rests (gone_on step (turns b state (start_of later)) left later)) → (next : NextTurn) → turns b state (start_of run) (replies_of run.asks) ≡ next → Rests (turn_run step (gone_on step (turns b state (start_of run)) left) run next)
          by_turn rest (ends outcome after) is = inl (ends_so run outcome after h is)
          by_turn rest (asks callee procedure arguments asked) is = by_clock rest callee procedure arguments asked is (is_spent (clock_after run.entry run.asks)) refl

      -- with more turns left it comes to the same
      pub same_rest : (left more : ℕ) (run : RunRecord) → most_asks < left + length (replies_of run.asks) → most_asks < more + length (replies_of run.asks) → IsUnderWay b state step run → gone_on step (turns b state (start_of run)) left run ≡ gone_on step (turns b state (start_of run)) more run
      same_rest zero more run enough others h = absurd (omega (arith, h.few, enough))
      same_rest (suc left) zero run enough others h = absurd (omega (arith, h.few, others))
      same_rest (suc left) (suc more) run enough others h =
          gone_once left run ∙ by_turn (same_rest left more) (turns b state (start_of run) (replies_of run.asks)) refl ∙ sym (gone_once more run)
        where
          by_clock : ((later : RunRecord) → most_asks < left + length (replies_of later.asks) → most_asks < more + length (replies_of later.asks) → IsUnderWay b state step later → gone_on step (turns b state (start_of later)) left later ≡ gone_on step (turns b state (start_of later)) more later) → (callee procedure : ℕ) (arguments asked : List ValueTree) → turns b state (start_of run) (replies_of run.asks) ≡ asks callee procedure arguments asked → (s : Bool) → is_spent (clock_after run.entry run.asks) ≡ s → cond s (gone_on step (turns b state (start_of run)) left (with_refusal step callee procedure arguments asked run)) (with_ask run (made_ask step (clock_after run.entry run.asks) callee procedure arguments asked)) ≡ cond s (gone_on step (turns b state (start_of run)) more (with_refusal step callee procedure arguments asked run)) (with_ask run (made_ask step (clock_after run.entry run.asks) callee procedure arguments asked))
          by_clock rest callee procedure arguments asked is true spent =
              let one_more = refused_replies run callee procedure arguments asked in
              let longer : length (replies_of run.asks ++ refusal ∷ []) ≡ length (replies_of run.asks) + 1 = length-append (replies_of run.asks) (refusal ∷ []) in
              rest (with_refusal step callee procedure arguments asked run) (rw one_more (omega (arith, longer, enough))) (rw one_more (omega (arith, longer, others))) (refused_so run callee procedure arguments asked h is spent)
          by_clock rest callee procedure arguments asked is false unspent = refl

          by_turn : ((later : RunRecord) → most_asks < left + length (replies_of later.asks) → most_asks < more + length (replies_of later.asks) → IsUnderWay b state step later → gone_on step (turns b state (start_of later)) left later ≡ gone_on step (turns b state (start_of later)) more later) → (next : NextTurn) → turns b state (start_of run) (replies_of run.asks) ≡ next → turn_run step (gone_on step (turns b state (start_of run)) left) run next ≡ turn_run step (gone_on step (turns b state (start_of run)) more) run next
          by_turn rest (ends outcome after) is = refl
          by_turn rest (asks callee procedure arguments asked) is = by_clock rest callee procedure arguments asked is (is_spent (clock_after run.entry run.asks)) refl

      -- ---- with turns for all asks

      -- a run that ends
      pub gone_to_end : (run : RunRecord) (outcome : Outcome) (after : List ValueTree) → turns b state (start_of run) (replies_of run.asks) ≡ ends outcome after → gone_on step (turns b state (start_of run)) most_turns run ≡ ended_run step outcome after run
      gone_to_end run outcome after is =
          gone_once most_asks run ∙ ap (turn_run step (gone_on step (turns b state (start_of run)) most_asks) run) is

      -- one that waits
      pub gone_to_ask : (run : RunRecord) (callee procedure : ℕ) (arguments asked : List ValueTree) → turns b state (start_of run) (replies_of run.asks) ≡ asks callee procedure arguments asked → is_spent (clock_after run.entry run.asks) ≡ false → gone_on step (turns b state (start_of run)) most_turns run ≡ with_ask run (made_ask step (clock_after run.entry run.asks) callee procedure arguments asked)
      gone_to_ask run callee procedure arguments asked is unspent =
          let on = gone_on step (turns b state (start_of run)) most_asks in
          gone_once most_asks run ∙ ap (turn_run step on run) is
          ∙ ap (λ s. cond s (on (with_refusal step callee procedure arguments asked run)) (with_ask run (made_ask step (clock_after run.entry run.asks) callee procedure arguments asked))) unspent

      -- one whose ask is refused
      pub gone_past_refusal : (run : RunRecord) (callee procedure : ℕ) (arguments asked : List ValueTree) → IsUnderWay b state step run → turns b state (start_of run) (replies_of run.asks) ≡ asks callee procedure arguments asked → is_spent (clock_after run.entry run.asks) ≡ true → gone_on step (turns b state (start_of run)) most_turns run ≡ gone_on step (turns b state (start_of run)) most_turns (with_refusal step callee procedure arguments asked run)
      gone_past_refusal run callee procedure arguments asked h is spent =
          let on = gone_on step (turns b state (start_of run)) most_asks in
          let one_more = refused_replies run callee procedure arguments asked in
          let longer : length (replies_of run.asks ++ refusal ∷ []) ≡ length (replies_of run.asks) + 1 = length-append (replies_of run.asks) (refusal ∷ []) in
          gone_once most_asks run ∙ ap (turn_run step on run) is
          ∙ ap (λ s. cond s (on (with_refusal step callee procedure arguments asked run)) (with_ask run (made_ask step (clock_after run.entry run.asks) callee procedure arguments asked))) spent
          ∙ same_rest most_asks most_turns (with_refusal step callee procedure arguments asked run) (rw one_more (omega (arith, longer))) (rw one_more (omega (arith, longer))) (refused_so run callee procedure arguments asked h is spent)
