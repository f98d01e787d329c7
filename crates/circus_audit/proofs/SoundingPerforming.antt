-- The lines of an active member that are read are those of what it did so far.
use Rattle.std.specs.List.{AllByRecursion}
use Rattle.std.specs.Option.{option_map_or}
use Rattle.std.specs.Fmt.{decimal}
use Rattle.std.proofs.Common.{◌≡◌, ◌∙◌, ℕ, suc, ◌+◌, ◌-◌, ◌<◌, ◌≤◌, ◌^◌, Bool, true, false, cond, nat_eq, nat_le, inl, inr, List, [], ◌∷◌, ◌++◌, length, slice_get, codes, Some, None, option_map, refl, sym, ap, subst, arith, append_assoc, append-nil, length-append}
use Rattle.std.proofs.lemmas.Bool.{eqb-true, leb-true}
use Rattle.circus_value.specs.ValueTree.{ValueTree}
use Rattle.circus_value.specs.Shown.{shown_list}
use Rattle.circus_model.specs.Lawful.{outcome_fits}
use Rattle.circus_model.specs.declared.signature.ProcedureShape.{ProcedureShape}
use Rattle.circus_model.specs.declared.signature.Signature.{Signature}
use Rattle.circus_transfer.specs.declared.joiner.Joiner.TheVariants as joiner
use Rattle.circus_record.specs.declared.record.AskRecord.{AskRecord}
use Rattle.circus_record.specs.declared.record.RunRecord.{RunRecord}
use Rattle.circus_record.specs.declared.record.MemberRecord.{MemberRecord}
use Rattle.circus_record.specs.Line.{line, reply_line, end_line}
use Rattle.circus_record.specs.MemberText.{run_lines, runs_lines, waiting_text, now_text, now_line}
use Rattle.circus_performing.specs.Performing.{last_count}
use Rattle.circus_performing.specs.Record.{count_after}
use Rattle.circus_config.specs.declared.plan.Plan.{Plan}
use Rattle.circus_value_text.specs.Reading.{behind_prefix}
use Rattle.circus_value_text.proofs.Marks.{passed_stands}
use Rattle.circus_audit.specs.Possible.{IsAnswered, IsOpen, IsStarted, IsEnded, IsActive}
use Rattle.circus_audit.specs.declared.performed.Current.{Current}
use Rattle.circus_audit.specs.declared.performed.Current.TheVariants.{Nothing, Run, Ask}
use Rattle.circus_audit.specs.declared.performed.Performed.{Performed}
use Rattle.circus_audit.specs.declared.performed.After.{After}
use Rattle.circus_audit.specs.declared.performed.After.TheVariants.{On, Last}
use Rattle.circus_audit.specs.Seen.Answers.{from_some, only_if}
use Rattle.circus_audit.specs.Seen.Lines.{run_begun, run_read, ask_read, reply_read, end_read, idle_read, waiting_read}
use Rattle.circus_audit.specs.Seen.Performing.{place_behind, on_with, finish_record, with_ask, with_ended, idles, waits, ask_begins, run_ends, run_goes_on, reply_comes, ask_goes_on, run_begins, next_read, performed_by, performed_after}
use Rattle.circus_audit.proofs.Opening.{from_is, map_is, only_is, or_is}
use Rattle.circus_audit.proofs.SoundingEvents.{spelled}
use Rattle.circus_audit.proofs.SoundingLines.{IsRunLine, run_sound, ask_sound, reply_sound, end_sound, idle_sound, waiting_sound}
use Rattle.circus_audit.proofs.SoundingTexts.{runs_more, entry_line, made_line, asked_text_more, replied_text_more, ended_text_more}

-- ---- lists

pub all_more : {X : Type 0} (P : X → Type 0) (xs : List X) (x : X) → AllByRecursion P xs → P x → AllByRecursion P (xs ++ x ∷ [])
all_more P [] x all one = (one, tt)
all_more P (first ∷ xs) x all one = (all.0, all_more P xs x all.1 one)

pub last_is : {X : Type 0} (xs : List X) (x : X) → slice_get (xs ++ x ∷ []) (length (xs ++ x ∷ []) - 1) ≡ Some x
last_is xs x =
    let here : length (xs ++ x ∷ []) - 1 ≡ length xs = omega (arith, length-append xs (x ∷ [])) in
    ap (slice_get (xs ++ x ∷ [])) here ∙ at_end xs x
  where
    at_end : {X : Type 0} (ys : List X) (y : X) → slice_get (ys ++ y ∷ []) (length ys) ≡ Some y
    at_end [] y = refl
    at_end (first ∷ ys) y = at_end ys y

pub place_is : (from runs place : ℕ) → place_behind from runs ≡ Some place → (place ≡ from + runs) × (from + runs ≤ last_count)
place_is from runs place is = by_test (nat_le (from + runs) 4294967295) refl is
  where
    by_test : (b : Bool) → nat_le (from + runs) 4294967295 ≡ b → cond b (Some (from + runs)) None ≡ Some place → (place ≡ from + runs) × (from + runs ≤ last_count)
    by_test true few is = let same : from + runs ≡ place = cc in (sym same, leb-true (from + runs) 4294967295 few)
    by_test false few is = cc

idle_text : (n i s x e : List ℕ) → ((n ++ i) ++ (s ++ x)) ++ e ≡ (((n ++ i) ++ s) ++ x) ++ e
idle_text n i s x e = simp append_assoc

waiting_line_text : (n w d s x e : List ℕ) → ((n ++ w) ++ (d ++ (s ++ x))) ++ e ≡ (((n ++ (w ++ d)) ++ s) ++ x) ++ e
waiting_line_text n w d s x e = simp append_assoc

-- what is performed, as a run
abbrev pub run_now : Current → List RunRecord
run_now Nothing = []
run_now (Run run) = run ∷ []
run_now (Ask run ask) = with_ask run ask ∷ []

module _ (plan : Plan) (s : Signature) (events : ℕ) where
  -- a run that was entered, and all whose asks were answered
  pub record IsGoing (run : RunRecord) : Type 0 where
    pub began : IsStarted plan s events run
    pub asked : AllByRecursion (IsAnswered plan s events) run.asks
    pub outcome : run.outcome ≡ None
    pub state : run.state ≡ None
    pub after : run.end ≡ None
    pub ended : run.ended ≡ None

  abbrev pub IsNow : Current → Type 0
  IsNow Nothing = Unit {0}
  IsNow (Run run) = IsGoing run
  IsNow (Ask run ask) = IsGoing run × IsOpen plan s events ask

  -- these are the lines of what it did so far
  pub record Acts (from since : ℕ) (runs : List RunRecord) (current : Current) (text : List ℕ) : Type 0 where
    pub first : from ≤ last_count
    pub active_at : since < events
    pub ended : AllByRecursion (IsEnded plan s events) runs
    pub now : IsNow current
    pub few : from + length (runs ++ run_now current) ≤ last_count + 1
    pub text_is : text ≡ runs_lines (spelled plan) from (runs ++ run_now current)

  -- and these are all of them
  pub record HasActed (from since count : ℕ) (kept : MemberRecord) (text : List ℕ) : Type 0 where
    pub phase : kept.phase ≡ joiner.Active from
    pub from_is : kept.from ≡ from
    pub since_is : kept.active_at ≡ since
    pub count_is : kept.count ≡ count
    pub active : IsActive plan s events from kept
    pub text_is : text ≡ runs_lines (spelled plan) kept.from kept.runs ++ now_line kept

  abbrev pub Follows : Performed → After → List ℕ → Type 0
  Follows p (On q) text = Acts q.from q.since q.runs q.current text × (q.from ≡ p.from) × (q.since ≡ p.since) × (q.count ≡ p.count)
  Follows p (Last kept) text = HasActed p.from p.since p.count kept text

  -- ---- what a member that performs no run does now

  pub now_ended : (runs : List RunRecord) → AllByRecursion (IsEnded plan s events) runs → now_text runs ≡ codes "idle"
  now_ended [] all = refl
  now_ended (run ∷ []) all = ap (λ o. waiting_text o run.asks) all.0.is_outcome
  now_ended (run ∷ other ∷ runs) all =
      let here : length (run ∷ other ∷ runs) - 1 ≡ suc (length (other ∷ runs) - 1) = omega arith in
      ap (λ n. option_map_or (λ (r : RunRecord). waiting_text r.outcome r.asks) (slice_get (run ∷ other ∷ runs) n) (codes "idle")) here ∙ now_ended (other ∷ runs) all.1

  pub now_waiting : (runs : List RunRecord) (run : RunRecord) (ask : AskRecord) → run.outcome ≡ None → now_text (runs ++ with_ask run ask ∷ []) ≡ codes "waiting ask " ++ decimal (length run.asks)
  now_waiting runs run ask none =
      let number : length (run.asks ++ ask ∷ []) - 1 ≡ length run.asks = omega (arith, length-append run.asks (ask ∷ [])) in
      ap (λ o. option_map_or (λ (r : RunRecord). waiting_text r.outcome r.asks) o (codes "idle")) (last_is runs (with_ask run ask))
      ∙ ap (λ o. waiting_text o (run.asks ++ ask ∷ [])) none
      ∙ ap (λ n. codes "waiting ask " ++ decimal n) number

  -- ---- where no run is performed

  few_more : (from : ℕ) (runs : List RunRecord) (run : RunRecord) → from + length runs ≤ last_count → from + length (runs ++ run ∷ []) ≤ last_count + 1
  few_more from runs run few = omega (arith, few, length-append runs (run ∷ []))

  begun_going : (run : RunRecord) (place : ℕ) (text : List ℕ) → IsRunLine plan.names plan.deployment s events place text run → IsGoing run
  begun_going run place text r = subst IsGoing (sym r.is_run) (record {
    began = record {
      root = r.is_entered.1.1;
      path = r.is_entered.2;
      takes = r.can_perform.2;
      clock = r.can_perform.1;
      started = r.is_entered.0;
    };
    asked = tt;
    outcome = refl;
    state = refl;
    after = refl;
    ended = refl;
  })

  begun_text : (run : RunRecord) (place : ℕ) (text : List ℕ) → IsRunLine plan.names plan.deployment s events place text run → line (codes "run " ++ text) ≡ run_lines (spelled plan) place run
  begun_text run place text r =
      r.text_is ∙ sym (append-nil (entry_line (spelled plan) place (run_begun r.entered r.performs))) ∙ sym (append-nil (entry_line (spelled plan) place (run_begun r.entered r.performs) ++ [])) ∙ ap (run_lines (spelled plan) place) (sym r.is_run)

  -- ---- one more line

  -- a member that performs nothing has the lines of its runs
  ended_text : (from since : ℕ) (runs : List RunRecord) (text : List ℕ) → Acts from since runs Nothing text → text ≡ runs_lines (spelled plan) from runs
  ended_text from since runs text acts = acts.text_is ∙ ap (runs_lines (spelled plan) from) (append-nil runs)

  run_step : (p : Performed) (most place : ℕ) (inner text : List ℕ) (run : RunRecord) → events < 2 ^ 64 → Acts p.from p.since p.runs Nothing text → place_behind p.from (length p.runs) ≡ Some place → run_read plan.names plan.deployment s events most place inner ≡ Some run → Acts p.from p.since p.runs (Run run) (text ++ line (codes "run " ++ inner))
  run_step p most place inner text run short acts at read =
      let r = run_sound plan.names plan.deployment s events most place inner run short read in
      let here = place_is p.from (length p.runs) place at in
      let before = ended_text p.from p.since p.runs text acts in
      let added = begun_text run place inner r ∙ ap (λ n. run_lines (spelled plan) n run) here.0 in
      record {
        first = acts.first;
        active_at = acts.active_at;
        ended = acts.ended;
        now = begun_going run place inner r;
        few = few_more p.from p.runs run here.1;
        text_is = (λ i. before i ++ added i) ∙ sym (runs_more (spelled plan) p.from p.runs run);
      }

  -- the last run, with more of its lines
  last_run_text : (from : ℕ) (runs : List RunRecord) (run later : RunRecord) (more : List ℕ) → run_lines (spelled plan) (from + length runs) later ≡ run_lines (spelled plan) (from + length runs) run ++ more → runs_lines (spelled plan) from (runs ++ later ∷ []) ≡ runs_lines (spelled plan) from (runs ++ run ∷ []) ++ more
  last_run_text from runs run later more is =
      runs_more (spelled plan) from runs later ∙ ap (λ x. runs_lines (spelled plan) from runs ++ x) is
      ∙ sym (append_assoc (runs_lines (spelled plan) from runs) (run_lines (spelled plan) (from + length runs) run) more)
      ∙ ap (λ x. x ++ more) (sym (runs_more (spelled plan) from runs run))

  few_same : (from : ℕ) (runs : List RunRecord) (run later : RunRecord) → from + length (runs ++ run ∷ []) ≤ last_count + 1 → from + length (runs ++ later ∷ []) ≤ last_count + 1
  few_same from runs run later few = omega (arith, few, length-append runs (run ∷ []), length-append runs (later ∷ []))

  ask_step : (p : Performed) (run : RunRecord) (inner text : List ℕ) (ask : AskRecord) → events < 2 ^ 64 → Acts p.from p.since p.runs (Run run) text → ask_read plan.names s events (length run.asks) inner ≡ Some ask → Acts p.from p.since p.runs (Ask run ask) (text ++ line (codes "ask " ++ inner))
  ask_step p run inner text ask short acts read =
      let a = ask_sound plan.names s events (length run.asks) inner ask short read in
      let open_one : IsOpen plan s events ask = subst (IsOpen plan s events) (sym a.is_ask) (record {
        made = record { takes = a.takes; index = a.is_asked.2; state = a.fits; asked = a.is_asked.0 };
        reply = refl;
        after = refl;
        answered = refl;
      }) in
      let added = a.text_is ∙ ap (made_line (spelled plan) (length run.asks)) (sym a.is_ask) in
      let more = asked_text_more (spelled plan) (p.from + length p.runs) run ask acts.now.outcome open_one.reply in
      record {
        first = acts.first;
        active_at = acts.active_at;
        ended = acts.ended;
        now = (acts.now, open_one);
        few = few_same p.from p.runs run (with_ask run ask) acts.few;
        text_is = (λ i. acts.text_is i ++ added i) ∙ sym (last_run_text p.from p.runs run (with_ask run ask) (made_line (spelled plan) (length run.asks) ask) more);
      }

  reply_step : (p : Performed) (run : RunRecord) (ask : AskRecord) (inner text : List ℕ) (replied : AskRecord) → events < 2 ^ 64 → Acts p.from p.since p.runs (Ask run ask) text → reply_read (length plan.names) s events (length run.asks) ask inner ≡ Some replied → Acts p.from p.since p.runs (Run (with_ask run replied)) (text ++ line (codes "reply " ++ inner))
  reply_step p run ask inner text replied short acts read =
      let r = reply_sound (length plan.names) s events (length run.asks) ask inner replied short read in
      let going = acts.now.0 in
      let made = acts.now.1.made in
      let replied_one : IsAnswered plan s events replied = subst (IsAnswered plan s events) (sym r.is_replied) (record {
        made = record { takes = made.takes; index = made.index; state = made.state; asked = made.asked };
        reply = r.reply;
        after = r.after.clock;
        step = r.after.step;
        is_reply = refl;
        is_after = refl;
        is_step = refl;
        answers = r.answers;
        clock = (r.is_after.1, r.is_after.2);
        answered = r.is_after.0;
      }) in
      let more = ap (λ a. run_lines (spelled plan) (p.from + length p.runs) (with_ask run a)) r.is_replied ∙ replied_text_more (spelled plan) (p.from + length p.runs) run ask r.after r.reply going.outcome acts.now.1.reply in
      record {
        first = acts.first;
        active_at = acts.active_at;
        ended = acts.ended;
        now = record {
          began = record {
            root = going.began.root;
            path = going.began.path;
            takes = going.began.takes;
            clock = going.began.clock;
            started = going.began.started;
          };
          asked = all_more (IsAnswered plan s events) run.asks replied going.asked replied_one;
          outcome = going.outcome;
          state = going.state;
          after = going.after;
          ended = going.ended;
        };
        few = few_same p.from p.runs (with_ask run ask) (with_ask run replied) acts.few;
        text_is = (λ i. acts.text_is i ++ r.text_is i) ∙ sym (last_run_text p.from p.runs (with_ask run ask) (with_ask run replied) (reply_line (length run.asks) (Some r.after.step) r.after.clock r.reply) more);
      }

  end_step : (p : Performed) (run : RunRecord) (place : ℕ) (inner text : List ℕ) (ended : RunRecord) → events < 2 ^ 64 → Acts p.from p.since p.runs (Run run) text → place_behind p.from (length p.runs) ≡ Some place → end_read (length plan.names) s events place run inner ≡ Some ended → Acts p.from p.since (p.runs ++ ended ∷ []) Nothing (text ++ line (codes "end " ++ inner))
  end_step p run place inner text ended short acts at read =
      let r = end_sound (length plan.names) s events place run inner ended short read in
      let here = place_is p.from (length p.runs) place at in
      let going = acts.now in
      let ended_one : IsEnded plan s events ended = subst (IsEnded plan s events) (sym r.is_ended) (record {
        began = record {
          root = going.began.root;
          path = going.began.path;
          takes = going.began.takes;
          clock = going.began.clock;
          started = going.began.started;
        };
        asks = going.asked;
        outcome = r.outcome;
        state = r.state;
        after = r.after.clock;
        step = r.after.step;
        is_outcome = refl;
        is_state = refl;
        is_after = refl;
        is_step = refl;
        ends = ap (λ o. option_map_or (λ (x : ProcedureShape). outcome_fits x r.outcome) o false) r.is_shape ∙ r.ends;
        fits = r.fits;
        clock = (r.is_after.1, r.is_after.2);
        ended = r.is_after.0;
      }) in
      let more = ap (run_lines (spelled plan) (p.from + length p.runs)) r.is_ended ∙ ended_text_more (spelled plan) (p.from + length p.runs) run r.after r.outcome r.state going.outcome in
      let added = r.text_is ∙ ap (λ n. end_line n (Some r.after.step) r.after.clock r.outcome r.state) here.0 in
      record {
        first = acts.first;
        active_at = acts.active_at;
        ended = all_more (IsEnded plan s events) p.runs ended acts.ended ended_one;
        now = tt;
        few = omega (arith, acts.few, length-append p.runs (run ∷ []), length-append p.runs (ended ∷ []), length-append (p.runs ++ ended ∷ []) []);
        text_is = (λ i. acts.text_is i ++ added i) ∙ sym (last_run_text p.from p.runs run ended (end_line (p.from + length p.runs) (Some r.after.step) r.after.clock r.outcome r.state) more) ∙ ap (runs_lines (spelled plan) p.from) (sym (append-nil (p.runs ++ ended ∷ [])));
      }

  idle_step : (p : Performed) (inner text : List ℕ) (state : List ValueTree) (kept : MemberRecord) → Acts p.from p.since p.runs Nothing text → count_after p.from (length p.runs) ≡ p.count → idle_read s inner ≡ Some state → finish_record p.from p.since p.count p.runs state ≡ Last kept → HasActed p.from p.since p.count kept (text ++ line (codes "now idle" ++ inner))
  idle_step p inner text state kept acts counted read is =
      let i = idle_sound s inner state read in
      let before = ended_text p.from p.since p.runs text acts in
      let said = ap (λ x. line (codes "now idle" ++ x)) i.0 ∙ idle_text (codes "now ") (codes "idle") (codes " state ") (shown_list state) (10 ∷ []) ∙ ap (λ x. line (((codes "now " ++ x) ++ codes " state ") ++ shown_list state)) (sym (now_ended p.runs acts.ended)) in
      let same : ◌≡◌ {A = MemberRecord} (record { phase = joiner.Active p.from; from = p.from; active_at = p.since; count = p.count; runs = p.runs; state = state }) kept = cc in
      subst (λ (k : MemberRecord). HasActed p.from p.since p.count k (text ++ line (codes "now idle" ++ inner))) same (record {
        phase = refl;
        from_is = refl;
        since_is = refl;
        count_is = refl;
        active = record {
          first = refl;
          from = acts.first;
          active_at = acts.active_at;
          runs = record {
            ended = p.runs;
            last = [];
            are = sym (append-nil p.runs);
            each = acts.ended;
            one = inl refl;
            counted = sym counted;
            few = subst (λ (rs : List RunRecord). p.from + length rs ≤ last_count + 1) (append-nil p.runs) acts.few;
          };
          state = i.1;
        };
        text_is = λ j. before j ++ said j;
      })

  wait_step : (p : Performed) (run : RunRecord) (ask : AskRecord) (place : ℕ) (inner text : List ℕ) (state : List ValueTree) (kept : MemberRecord) → Acts p.from p.since p.runs (Ask run ask) text → place_behind p.from (length p.runs) ≡ Some place → place ≡ p.count → waiting_read s (length run.asks) inner ≡ Some state → finish_record p.from p.since p.count (p.runs ++ with_ask run ask ∷ []) state ≡ Last kept → HasActed p.from p.since p.count kept (text ++ line (codes "now waiting ask " ++ inner))
  wait_step p run ask place inner text state kept acts at counted read is =
      let w = waiting_sound s (length run.asks) inner state read in
      let here = place_is p.from (length p.runs) place at in
      let going = acts.now.0 in
      let said = ap (λ x. line (codes "now waiting ask " ++ x)) w.0 ∙ waiting_line_text (codes "now ") (codes "waiting ask ") (decimal (length run.asks)) (codes " state ") (shown_list state) (10 ∷ []) ∙ ap (λ x. line (((codes "now " ++ x) ++ codes " state ") ++ shown_list state)) (sym (now_waiting p.runs run ask going.outcome)) in
      let same : ◌≡◌ {A = MemberRecord} (record { phase = joiner.Active p.from; from = p.from; active_at = p.since; count = p.count; runs = p.runs ++ with_ask run ask ∷ []; state = state }) kept = cc in
      subst (λ (k : MemberRecord). HasActed p.from p.since p.count k (text ++ line (codes "now waiting ask " ++ inner))) same (record {
        phase = refl;
        from_is = refl;
        since_is = refl;
        count_is = refl;
        active = record {
          first = refl;
          from = acts.first;
          active_at = acts.active_at;
          runs = record {
            ended = p.runs;
            last = with_ask run ask ∷ [];
            are = refl;
            each = acts.ended;
            one = inr (
              with_ask run ask,
              refl,
              record {
                began = record {
                  root = going.began.root;
                  path = going.began.path;
                  takes = going.began.takes;
                  clock = going.began.clock;
                  started = going.began.started;
                };
                before = run.asks;
                last = ask;
                asks = refl;
                answered = going.asked;
                waits = acts.now.1;
                outcome = going.outcome;
                state = going.state;
                after = going.after;
                ended = going.ended;
              },
            );
            counted = omega (arith, here.0, here.1, counted);
            few = acts.few;
          };
          state = w.1;
        };
        text_is = λ j. acts.text_is j ++ said j;
      })

  -- ---- by any line

  row_is : (mark row inner text : List ℕ) → behind_prefix mark row ≡ Some inner → text ++ line (mark ++ inner) ≡ text ++ line row
  row_is mark row inner text is = ap (λ x. text ++ line x) (sym (passed_stands mark row inner is))

  next_sound : (p : Performed) (row text : List ℕ) (after : After) → events < 2 ^ 64 → next_read plan.names plan.deployment s events p row ≡ Some after → Acts p.from p.since p.runs Nothing text → Follows p after (text ++ line row)
  next_sound p row text after short is acts =
      elim (or_is (behind_prefix (codes "run ") row) (run_begins plan.names plan.deployment s events (length row) p) (from_some (behind_prefix (codes "now idle") row) (idles s p)) after is) [
        | inl r ↦ runs r.0 r.1 r.2
        | inr o ↦ idle o.1
      ]
    where
      runs : (inner : List ℕ) → behind_prefix (codes "run ") row ≡ Some inner → run_begins plan.names plan.deployment s events (length row) p inner ≡ Some after → Follows p after (text ++ line row)
      runs inner mark read =
          let at = from_is (place_behind p.from (length p.runs)) (λ place. option_map (λ run. on_with p (Run run)) (run_read plan.names plan.deployment s events (length row) place inner)) after read in
          let made = map_is (λ run. on_with p (Run run)) (run_read plan.names plan.deployment s events (length row) at.0 inner) after at.2 in
          let step = run_step p (length row) at.0 inner text made.0 short acts at.1 made.1 in
          subst (λ a. Follows p a (text ++ line row)) made.2 (subst (Acts p.from p.since p.runs (Run made.0)) (row_is (codes "run ") row inner text mark) step, refl, refl, refl)

      idle : from_some (behind_prefix (codes "now idle") row) (idles s p) ≡ Some after → Follows p after (text ++ line row)
      idle read =
          let opened = from_is (behind_prefix (codes "now idle") row) (idles s p) after read in
          let test = only_is (nat_eq (count_after p.from (length p.runs)) p.count) (option_map (finish_record p.from p.since p.count p.runs) (idle_read s opened.0)) after opened.2 in
          let made = map_is (finish_record p.from p.since p.count p.runs) (idle_read s opened.0) after test.1 in
          let step = idle_step p opened.0 text made.0 (record { phase = joiner.Active p.from; from = p.from; active_at = p.since; count = p.count; runs = p.runs; state = made.0 }) acts (eqb-true (count_after p.from (length p.runs)) p.count test.0) made.1 refl in
          subst (λ a. Follows p a (text ++ line row)) made.2 (subst (HasActed p.from p.since p.count (record { phase = joiner.Active p.from; from = p.from; active_at = p.since; count = p.count; runs = p.runs; state = made.0 })) (row_is (codes "now idle") row opened.0 text opened.1) step)

  run_sound_on : (p : Performed) (run : RunRecord) (row text : List ℕ) (after : After) → events < 2 ^ 64 → run_goes_on plan.names s events p run row ≡ Some after → Acts p.from p.since p.runs (Run run) text → Follows p after (text ++ line row)
  run_sound_on p run row text after short is acts =
      elim (or_is (behind_prefix (codes "ask ") row) (ask_begins plan.names s events p run) (from_some (behind_prefix (codes "end ") row) (run_ends plan.names s events p run)) after is) [
        | inl r ↦ asks r.0 r.1 r.2
        | inr o ↦ ends o.1
      ]
    where
      asks : (inner : List ℕ) → behind_prefix (codes "ask ") row ≡ Some inner → ask_begins plan.names s events p run inner ≡ Some after → Follows p after (text ++ line row)
      asks inner mark read =
          let made = map_is (λ ask. on_with p (Ask run ask)) (ask_read plan.names s events (length run.asks) inner) after read in
          let step = ask_step p run inner text made.0 short acts made.1 in
          subst (λ a. Follows p a (text ++ line row)) made.2 (subst (Acts p.from p.since p.runs (Ask run made.0)) (row_is (codes "ask ") row inner text mark) step, refl, refl, refl)

      ends : from_some (behind_prefix (codes "end ") row) (run_ends plan.names s events p run) ≡ Some after → Follows p after (text ++ line row)
      ends read =
          let opened = from_is (behind_prefix (codes "end ") row) (run_ends plan.names s events p run) after read in
          let at = from_is (place_behind p.from (length p.runs)) (λ place. option_map (with_ended p) (end_read (length plan.names) s events place run opened.0)) after opened.2 in
          let made = map_is (with_ended p) (end_read (length plan.names) s events at.0 run opened.0) after at.2 in
          let step = end_step p run at.0 opened.0 text made.0 short acts at.1 made.1 in
          subst (λ a. Follows p a (text ++ line row)) made.2 (subst (Acts p.from p.since (p.runs ++ made.0 ∷ []) Nothing) (row_is (codes "end ") row opened.0 text opened.1) step, refl, refl, refl)

  ask_sound_on : (p : Performed) (run : RunRecord) (ask : AskRecord) (row text : List ℕ) (after : After) → events < 2 ^ 64 → ask_goes_on plan.names s events p run ask row ≡ Some after → Acts p.from p.since p.runs (Ask run ask) text → Follows p after (text ++ line row)
  ask_sound_on p run ask row text after short is acts =
      elim (or_is (behind_prefix (codes "reply ") row) (reply_comes plan.names s events p run ask) (from_some (behind_prefix (codes "now waiting ask ") row) (waits s p run ask)) after is) [
        | inl r ↦ replies r.0 r.1 r.2
        | inr o ↦ waiting o.1
      ]
    where
      replies : (inner : List ℕ) → behind_prefix (codes "reply ") row ≡ Some inner → reply_comes plan.names s events p run ask inner ≡ Some after → Follows p after (text ++ line row)
      replies inner mark read =
          let made = map_is (λ replied. on_with p (Run (with_ask run replied))) (reply_read (length plan.names) s events (length run.asks) ask inner) after read in
          let step = reply_step p run ask inner text made.0 short acts made.1 in
          subst (λ a. Follows p a (text ++ line row)) made.2 (subst (Acts p.from p.since p.runs (Run (with_ask run made.0))) (row_is (codes "reply ") row inner text mark) step, refl, refl, refl)

      waiting : from_some (behind_prefix (codes "now waiting ask ") row) (waits s p run ask) ≡ Some after → Follows p after (text ++ line row)
      waiting read =
          let opened = from_is (behind_prefix (codes "now waiting ask ") row) (waits s p run ask) after read in
          let at = from_is (place_behind p.from (length p.runs)) (λ place. only_if (nat_eq place p.count) (option_map (finish_record p.from p.since p.count (p.runs ++ with_ask run ask ∷ [])) (waiting_read s (length run.asks) opened.0))) after opened.2 in
          let test = only_is (nat_eq at.0 p.count) (option_map (finish_record p.from p.since p.count (p.runs ++ with_ask run ask ∷ [])) (waiting_read s (length run.asks) opened.0)) after at.2 in
          let made = map_is (finish_record p.from p.since p.count (p.runs ++ with_ask run ask ∷ [])) (waiting_read s (length run.asks) opened.0) after test.1 in
          let step = wait_step p run ask at.0 opened.0 text made.0 (record { phase = joiner.Active p.from; from = p.from; active_at = p.since; count = p.count; runs = p.runs ++ with_ask run ask ∷ []; state = made.0 }) acts at.1 (eqb-true at.0 p.count test.0) made.1 refl in
          subst (λ a. Follows p a (text ++ line row)) made.2 (subst (HasActed p.from p.since p.count (record { phase = joiner.Active p.from; from = p.from; active_at = p.since; count = p.count; runs = p.runs ++ with_ask run ask ∷ []; state = made.0 })) (row_is (codes "now waiting ask ") row opened.0 text opened.1) step)

  by_sound : (p : Performed) (current : Current) (row text : List ℕ) (after : After) → events < 2 ^ 64 → performed_by plan.names plan.deployment s events p current row ≡ Some after → Acts p.from p.since p.runs current text → Follows p after (text ++ line row)
  by_sound p Nothing row text after short is acts = next_sound p row text after short is acts
  by_sound p (Run run) row text after short is acts = run_sound_on p run row text after short is acts
  by_sound p (Ask run ask) row text after short is acts = ask_sound_on p run ask row text after short is acts

  -- a line that is read is the next one of what the member did
  pub performed_sound : (p : Performed) (row text : List ℕ) (after : After) → events < 2 ^ 64 → performed_after plan.names plan.deployment s events p row ≡ Some after → Acts p.from p.since p.runs p.current text → Follows p after (text ++ line row)
  performed_sound p row text after short is acts = by_follow after (by_sound (record p { current = Nothing }) p.current row text after short is acts)
    where
      by_follow : (a : After) → Follows (record p { current = Nothing }) a (text ++ line row) → Follows p a (text ++ line row)
      by_follow (On q) follows = follows
      by_follow (Last kept) follows = follows
