-- A run passes on from an ask in a step: it asks again, and waits, or ends.
use Rattle.std.proofs.Common.{◌≡◌, ℕ, ◌+◌, ◌<◌, ◌≤◌, inl, inr, Bool, true, false, ◌&&◌, not, if◌then◌else◌, List, [], ◌∷◌, ◌++◌, length, take, drop, Option, None, Some, refl, sym, ap, subst, ◌∙◌, arith, append-nil}
use Rattle.std.specs.Prelude.{fold, slice_get, nat_le, IsSomeAnd}
use Rattle.std.specs.List.{flat_map}
use Rattle.std.specs.Option.{option_map_or}
use Rattle.std.proofs.Math.Bool.{and-false}
use Rattle.std.proofs.Math.Nat.{min-eq_left}
use Rattle.std.proofs.Math.Seq.{drop-append_seam}
use Rattle.std.proofs.lemmas.Bool.{eq-eqb}
use Rattle.std.proofs.lemmas.List.Sums.{fold-append}
use Rattle.std.proofs.lemmas.Option.{slice_get_within}
use Rattle.circus_value.specs.ValueTree.{ValueTree}
use Rattle.circus_header.specs.declared.answer.Reply.{Reply}
use Rattle.circus_collate.specs.declared.view.View.{View}
use Rattle.circus_transfer.specs.declared.joiner.Joiner.{Joiner}
use Rattle.circus_model.specs.Execution.{is_spent}
use Rattle.circus_model.specs.declared.signature.ProcedureShape.{ProcedureShape}
use Rattle.circus_record.specs.declared.record.AskRecord.{AskRecord}
use Rattle.circus_record.specs.declared.record.MemberRecord.{MemberRecord}
use Rattle.circus_record.specs.declared.record.RunRecord.{RunRecord}
use Rattle.circus_gather.specs.Gathering.{with_end, is_of_index, answered_by_end}
use Rattle.circus_fanout.specs.Asking.{Asking, with_view}
use Rattle.circus_performing.specs.Performing.{clock_after, step_after}
use Rattle.circus_performing.specs.Record.{count_after}
use Rattle.circus_member_rules.specs.declared.place.Place.{Place}
use Rattle.circus_member_rules.specs.declared.occurrence.AskName.{AskName}
use Rattle.circus_member_rules.specs.declared.occurrence.Effect.{Effect}
use Rattle.circus_member_rules.specs.declared.occurrence.Occurrence.{Occurrence}
use Rattle.circus_member_rules.specs.Messages.{reply_message}
use Rattle.circus_member_rules.specs.OpenAsks.{with_ask}
use Rattle.circus_member_rules.specs.Rules.{answers}
use Rattle.circus_member_rules.specs.Step.{reply_of_run}
use Rattle.circus_member_theory.specs.Past.{Past, followed}
use Rattle.circus_member_theory.specs.Asks.{is_new, as_made, asks_from, knows, opened_one, first_calls}
use Rattle.circus_member_theory.specs.Order.{returns_now, is_answered_by_end, made_by_run}
use Rattle.circus_member_theory.specs.Timely.{ShowsAnswer, collated_reply, may_answer, name_of}
use Rattle.circus_headline_theory.proofs.One.{take_front}
use Rattle.circus_dues.specs.Calls.{IsKeptAmid, ends_among}
use Rattle.circus_dues.specs.Dues.{GoesOnInTime}
use Rattle.circus_dues.specs.Out.{KnowsAmid}
use Rattle.circus_dues.specs.Walk.{IsBy, IsLater, IsNotBefore, AskOneByOne, IsRunInOrder, IsAnsweredInStep, AreAnsweredOnward}
use Rattle.circus_dues.specs.declared.owing.Owing.{Owing}
use Rattle.circus_dues.specs.Seen.Owing.{index, ask_name, asking_at, asked, calls_of_asked, asked_at, calls_at, ended, ended_at, answers_of_ended, answers_at, next_of, untimely, passed, made_by_pass}
use Rattle.circus_dues.specs.Seen.Parts.{CallsOut, with_opened}
use Rattle.circus_dues.specs.Seen.Steps.{is_by, is_in, next_ask}
use Rattle.circus_dues.proofs.CallsPassing.{passed_returns, passed_amid, no_returns}
use Rattle.circus_dues.proofs.OutCalls.{first_calls_are}
use Rattle.circus_dues.proofs.OutOpen.{none_at_once}
use Rattle.circus_dues.proofs.SoundCalls.{opened_known}
use Rattle.circus_dues.proofs.Stages.{IsGoingOn, IsAmid, GoesOrIsRefused, asks_then}
use Rattle.circus_dues.proofs.StepPassingAsks.{is_by_of, not_by_of, never_both, by_then, not_in, HasPassed, passed_more, passed_to_end, ask_there, clock_there, next_there, new_there, late_end, asked_there}
use Rattle.circus_dues.proofs.WalkMade.{each_in_order}
use Rattle.circus_dues.proofs.WalkStarts.{all_at, by_or_later}

-- ---- an ask is opened as the rules open one

opened_asks : (place : Place) (boot : List View) (o : CallsOut) (name : AskName) (a : Asking) → (with_opened o name a).asks ≡ opened_one place boot o.known o.asks (name, a)
opened_asks place boot o name a = by_view (slice_get o.known.views a.header.server)
  where
    by_view : (v : Option View) → let x = option_map_or (λ (view : View). record o { asks = with_ask o.asks name (with_view view o.known.down a) }) v o in
        x.asks ≡ option_map_or (λ (view : View). with_ask o.asks name (with_view view o.known.down a)) v o.asks
    by_view None = refl
    by_view (Some view) = refl

-- ---- what isn't in time stays so

pub pass_untimely : (place : Place) (kept : MemberRecord) (at : ℕ) (d : Owing) (run : RunRecord) (from : ℕ) → d.is_timely ≡ false → (passed place kept at d run from).is_timely ≡ false
pass_untimely place kept at d run from is = by_next (next_of run from)
  where
    by_ask : (number : ℕ) (o : Option AskRecord) → let e = option_map_or (asked place kept at d run number) o d in e.is_timely ≡ false
    by_ask number None = is
    by_ask number (Some ask) = ap (λ b. b && not (is_by ask.answered at)) is

    by_end : (b : Bool) → let e = if b then ended kept d run else untimely d in e.is_timely ≡ false
    by_end true = is
    by_end false = refl

    by_next : (o : Option ℕ) → let e = option_map_or (asked_at place kept at d run) o (ended_at kept at d run) in e.is_timely ≡ false
    by_next None = by_end (is_in run.ended at)
    by_next (Some number) = by_ask number (slice_get run.asks number)

-- ---- a run passes on

module _ (place : Place) (boot : List View) (begins : Joiner) (first : List ValueTree) (procedures : List ProcedureShape) (at_boot : ℕ) (kept : MemberRecord) (p : Past) (at : ℕ) (o : Occurrence)
    (going : IsGoingOn place boot begins at_boot kept p at)
    (number : ℕ) (run : RunRecord) (there : slice_get kept.runs number ≡ Some run) where
  abbrev q : Past
  q = followed p at o

  module _ (started : run.started ≤ at) (from : ℕ) (before : List (AskName × Asking)) (d : Owing) (timely : d.is_timely ≡ true) (walk : d.walk.ended ≡ number)
      (amid : IsAmid place boot begins first procedures at_boot kept p at o before (Some (kept.from + number)) d) where
    abbrev GoesSo : List Effect → Owing → Type 0
    GoesSo effects e = GoesOrIsRefused place boot begins first procedures at_boot kept p at o number run before d effects e

    abbrev HasCome : List AskRecord → List AskRecord → Type 0
    HasCome front rest = HasPassed place boot begins procedures at_boot kept q number run from front rest

    abbrev new_asks : List (AskName × Asking)
    new_asks = asks_from place (is_new q) (kept.from + number) run.root run.path 0 run.entry run.asks

    abbrev open_then : List (AskName × Asking)
    open_then = asks_then place boot begins first procedures at_boot kept p at o

    index_is : index kept d ≡ kept.from + number
    index_is =
        let few = going.lawful.few in
        let within = slice_get_within kept.runs number run there in
        ap (count_after kept.from) walk ∙ min-eq_left (omega (arith, few, within))

    calls_amid : IsKeptAmid place.troupe begins kept p at o (ends_among kept at number) d.calls.gathered
    calls_amid = subst (λ n. IsKeptAmid place.troupe begins kept p at o (ends_among kept at n) d.calls.gathered) walk amid.calls

    -- ---- to its end

    module _ (front : List AskRecord) (s : HasCome front []) where
      ends : run.ended ≡ Some at
      ends = passed_to_end place boot begins procedures at_boot kept q number run from going.lawful there front s

      none_new : asks_from place (is_new q) (kept.from + number) run.root run.path 0 run.entry run.asks ≡ []
      none_new = ap (asks_from place (is_new q) (kept.from + number) run.root run.path 0 run.entry) (s.are ∙ append-nil front) ∙ s.none_new

      in_step : is_in run.ended at ≡ true
      in_step = ap (λ n. is_in n at) ends ∙ eq-eqb at at refl

      ended_amid : IsAmid place boot begins first procedures at_boot kept p at o (before ++ new_asks) None (ended kept d run)
      ended_amid =
          record {
            known = amid.known;
            asks = amid.asks ∙ ap (fold (opened_one place boot d.out.known) open_then) (sym (ap (λ l. before ++ l) none_new ∙ append-nil before));
            calls = subst (λ n. IsKeptAmid place.troupe begins kept p at o (ends_among kept at (n + 1)) (with_end d.calls.gathered (index kept d) (reply_of_run run))) (sym walk)
                (subst (λ n. IsKeptAmid place.troupe begins kept p at o (ends_among kept at (number + 1)) (with_end d.calls.gathered n (reply_of_run run))) (sym index_is)
                (passed_amid place boot begins first kept p at o going.rises going.later number d.calls.gathered calls_amid run there ends));
            opens = refl;
            phase_is = amid.phase_is;
            began_is = amid.began_is;
          }

      returned : answers_of_ended kept d run ≡ made_by_run place boot begins first kept q (kept.from + number) run
      returned =
          ap (λ n. answers (reply_message (reply_of_run run)) (answered_by_end d.calls.gathered n)) index_is
          ∙ sym (passed_returns place boot begins first kept p at o going.rises going.later number d.calls.gathered calls_amid run there ends)
          ∙ ap
          (λ l. flat_map (first_calls place boot (knows place boot q)) l
          ++ returns_now place boot begins first kept q (λ e. is_answered_by_end place boot begins first kept q e && is_of_index place.troupe (kept.from + number) e.1))
          (sym none_new)

      has_ended : GoesSo (answers_of_ended kept d run) (ended kept d run)
      has_ended =
          inl (record {
            timely = timely;
            answered = s.joined tt;
            made = returned;
            requests = refl;
            stands = inl (record { ends = ends; walk = λ j. record { ended = walk j + 1; asked = None }; amid = ended_amid });
          })

      passes_to_end : GoesSo (made_by_pass place kept at d run from) (passed place kept at d run from)
      passes_to_end =
          subst (λ effects. GoesSo effects (passed place kept at d run from))
          (sym (ap (λ n. option_map_or (calls_at place kept d run) n (answers_at kept at d run)) s.next ∙ ap (λ b. if b then answers_of_ended kept d run else []) in_step))
          (subst (GoesSo (answers_of_ended kept d run))
          (sym (ap (λ n. option_map_or (asked_at place kept at d run) n (ended_at kept at d run)) s.next ∙ ap (λ b. if b then ended kept d run else untimely d) in_step)) has_ended)

    -- ---- to its next ask

    module _ (front : List AskRecord) (ask : AskRecord) (rest : List AskRecord) (s : HasCome front (ask ∷ rest)) (left : is_spent (clock_after run.entry front) ≡ false) where
      abbrev asking : Asking
      asking = asking_at place kept d run (length front) ask

      abbrev made_as : AskName × Asking
      made_as = as_made place (kept.from + number) run.root run.path (length front) (clock_after run.entry front) ask

      there_is : slice_get run.asks (length front) ≡ Some ask
      there_is = ask_there place boot begins procedures at_boot kept q number run from front ask rest s left

      clock_is : clock_after run.entry (take (length front) run.asks) ≡ clock_after run.entry front
      clock_is = clock_there place boot begins procedures at_boot kept q number run from front ask rest s left

      next_is : next_of run from ≡ Some (length front)
      next_is = next_there place boot begins procedures at_boot kept q number run from front ask rest s left

      -- in the step in which it is made it gets no answer
      none_given : (n : AskName) → may_answer place boot begins n ask q ≡ None
      none_given n = by_test (nat_le ask.asked at)
        where
          by_test : (b : Bool) → (if b then collated_reply place boot begins n ask q else None) ≡ None
          by_test true = (let at_now : ask.asked ≡ at = s.so.0 in let low : at ≤ ask.asked = omega (arith, at_now) in none_at_once place boot begins q n ask (going.rises, going.later) low)
          by_test false = refl

      -- the record says that it got one
      module _ (by : IsBy at ask.answered) where
        refuses : GoesOnInTime place boot begins first kept procedures at_boot p at o → ⊥
        refuses on =
            let n = name_of place boot begins procedures at_boot kept q number (length front) in
            let step = on.step.answers number (length front) run ask there there_is (ap is_spent clock_is ∙ left) in
            subst (λ r. IsSomeAnd r (λ (reply : Reply). ShowsAnswer ask (Some (at, reply)))) (none_given n) (step.answered_now (by_then at ask.answered by s.so.1))

        is_refused : GoesSo (calls_of_asked place kept d run (length front) ask) (asked place kept at d run (length front) ask)
        is_refused = inr (record { untimely = ap (λ b. d.is_timely && not b) (is_by_of at ask.answered by) ∙ and-false d.is_timely; refuses = refuses })

      -- or that it doesn't
      module _ (late : IsLater at ask.answered) where
        order : IsRunInOrder run
        order = all_at IsRunInOrder kept.runs number run (each_in_order 0 kept.runs going.order) there

        ends_later : IsLater at run.ended
        ends_later = late_end place boot begins procedures at_boot kept q number run from front ask rest s left late order

        new_is : asks_from place (is_new q) (kept.from + number) run.root run.path 0 run.entry run.asks ≡ made_as ∷ []
        new_is = new_there place boot begins procedures at_boot kept q number run from front ask rest s left late

        made_is : ◌≡◌ {A = AskName × Asking} (ask_name kept d (length front), asking) made_as
        made_is = λ j. as_made place (index_is j) run.root run.path (length front) (clock_is j) ask

        called : calls_of_asked place kept d run (length front) ask ≡ made_by_run place boot begins first kept q (kept.from + number) run
        called =
            ap (first_calls place boot d.out.known) made_is
            ∙ sym (first_calls_are place boot q d.out.known amid.known.seen made_as)
            ∙ sym (append-nil (first_calls place boot (knows place boot q) made_as))
            ∙ ap (flat_map (first_calls place boot (knows place boot q))) (sym new_is)
            ∙ sym (append-nil (flat_map (first_calls place boot (knows place boot q)) new_asks))
            ∙ ap (λ l. flat_map (first_calls place boot (knows place boot q)) new_asks ++ l)
            (sym (no_returns place boot begins first kept p at o going.rises going.later number d.calls.gathered calls_amid run there (not_in at run.ended ends_later)))

        asked_amid : IsAmid place boot begins first procedures at_boot kept p at o (before ++ new_asks) (Some (kept.from + number)) (asked place kept at d run (length front) ask)
        asked_amid =
            record {
              known = subst (KnowsAmid place boot begins kept q) (sym (opened_known d.out (ask_name kept d (length front)) asking)) amid.known;
              asks = opened_asks place boot d.out (ask_name kept d (length front)) asking
                  ∙ (λ j. opened_one place boot d.out.known (amid.asks j) (made_is j))
                  ∙ sym (fold-append (opened_one place boot d.out.known) open_then before (made_as ∷ []))
                  ∙ (λ j. fold (opened_one place boot (sym (opened_known d.out (ask_name kept d (length front)) asking) j)) open_then (before ++ sym new_is j));
              calls = amid.calls;
              opens = amid.opens;
              phase_is = amid.phase_is;
              began_is = amid.began_is;
            }

        has_asked : GoesSo (calls_of_asked place kept d run (length front) ask) (asked place kept at d run (length front) ask)
        has_asked =
            inl (record {
              timely = λ j. timely j && not (not_by_of at ask.answered late j);
              answered = s.joined (λ _. waits, λ by. absurd (never_both at ask.answered by late));
              made = called;
              requests = refl;
              stands = inr (record {
                count = length front + 1;
                walk = λ j. record { ended = walk j; asked = Some (length front + 1) };
                stands = (started, ends_later, asked_there place boot begins procedures at_boot kept q number run from front ask rest s left late order);
                amid = asked_amid;
              });
            })
          where
            waits : IsAnsweredInStep place boot begins procedures at_boot kept q (name_of place boot begins procedures at_boot kept q number (length front)) ask
            waits =
                record {
                  answered_now = λ is. absurd (let above : at < at = subst (IsLater at) is late in omega (arith, above));
                  not_yet = λ _. none_given (name_of place boot begins procedures at_boot kept q number (length front));
                }

      passes_to_ask : GoesSo (made_by_pass place kept at d run from) (passed place kept at d run from)
      passes_to_ask =
          subst (λ effects. GoesSo effects (passed place kept at d run from))
          (sym (ap (λ n. option_map_or (calls_at place kept d run) n (answers_at kept at d run)) next_is ∙ ap (λ a. option_map_or (calls_of_asked place kept d run (length front)) a []) there_is))
          (subst (GoesSo (calls_of_asked place kept d run (length front) ask))
          (sym (ap (λ n. option_map_or (asked_at place kept at d run) n (ended_at kept at d run)) next_is ∙ ap (λ a. option_map_or (asked place kept at d run (length front)) a d) there_is))
          (elim (by_or_later at ask.answered) [ inl by ↦ is_refused by | inr late ↦ has_asked late ]))

    -- ---- over the asks that are refused

    passes_on : (front rest : List AskRecord) → HasCome front rest → GoesSo (made_by_pass place kept at d run from) (passed place kept at d run from)
    passes_on front [] s = passes_to_end front s
    passes_on front (ask ∷ rest) s = by_clock (λ more. passes_on (front ++ ask ∷ []) rest more) (is_spent (clock_after run.entry front)) refl
      where
        by_clock : (HasCome (front ++ ask ∷ []) rest → GoesSo (made_by_pass place kept at d run from) (passed place kept at d run from))
            → (b : Bool) → is_spent (clock_after run.entry front) ≡ b → GoesSo (made_by_pass place kept at d run from) (passed place kept at d run from)
        by_clock onward true spent = onward (passed_more place boot begins procedures at_boot kept q number run from going.lawful there front ask rest s spent)
        by_clock onward false left = passes_to_ask front ask rest s left

  -- from the first ask behind these, in the step in which the run went on last
  pub passes : (started : run.started ≤ at) → (not_ended : IsNotBefore at run.ended)
      → (old rest : List AskRecord) → (are : run.asks ≡ old ++ rest) → (from_now : AskOneByOne at rest) → (on_now : step_after run.started old ≡ at)
      → (none_new : asks_from place (is_new q) (kept.from + number) run.root run.path 0 run.entry old ≡ [])
      → (joined : AreAnsweredOnward place boot begins procedures at_boot kept q number (length old) (clock_after run.entry old) rest
      → AreAnsweredOnward place boot begins procedures at_boot kept q number 0 run.entry run.asks)
      → (before : List (AskName × Asking)) (d : Owing) → (timely : d.is_timely ≡ true) → (walk : d.walk.ended ≡ number)
      → (amid : IsAmid place boot begins first procedures at_boot kept p at o before (Some (kept.from + number)) d)
      → GoesOrIsRefused place boot begins first procedures at_boot kept p at o number run before d (made_by_pass place kept at d run (length old)) (passed place kept at d run (length old))
  passes started not_ended old rest are from_now on_now none_new joined before d timely walk amid =
      passes_on started (length old) before d timely walk amid old rest
      (record { are = are; next = next_behind; so = from_now; on_now = on_now; none_new = none_new; joined = joined })
    where
      front_is : take (length old) run.asks ≡ old
      front_is = ap (take (length old)) are ∙ take_front old rest

      rest_is : drop (length old) run.asks ≡ rest
      rest_is = ap (drop (length old)) are ∙ drop-append_seam old rest

      next_behind : next_of run (length old) ≡ next_ask (length old) (clock_after run.entry old) rest
      next_behind = λ j. next_ask (length old) (clock_after run.entry (front_is j)) (rest_is j)
