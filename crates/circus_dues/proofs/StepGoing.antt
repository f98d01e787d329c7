-- The run that is under way goes on in a step where its open ask is answered in it, or still waits.
use Rattle.std.proofs.Common.{◌≡◌, ℕ, suc, ◌+◌, ◌-◌, ◌<◌, ◌≤◌, inl, inr, Bool, true, false, ◌&&◌, if◌then◌else◌, List, [], ◌∷◌, ◌++◌, length, take, All, Option, None, Some, refl, sym, ap, subst, ◌∙◌, arith, append_assoc, length-append}
use Rattle.std.specs.Prelude.{slice_get, nat_eq, is_some, unwrap_or, option_and_then, IsSomeAnd}
use Rattle.std.specs.List.{flat_map}
use Rattle.std.specs.Option.{option_map_or}
use Rattle.std.proofs.lemmas.Bool.{le-leb, ne_eqb}
use Rattle.std.proofs.lemmas.List.Elements.{All-nil, All-cons, All-append, All-weaker}
use Rattle.std.proofs.lemmas.Option.{slice_get_within}
use Rattle.circus_value.specs.ValueTree.{ValueTree}
use Rattle.circus_header.specs.declared.answer.Reply.{Reply}
use Rattle.circus_collate.specs.declared.view.View.{View}
use Rattle.circus_transfer.specs.declared.joiner.Joiner.{Joiner}
use Rattle.circus_model.specs.Execution.{is_spent}
use Rattle.circus_model.specs.declared.signature.ProcedureShape.{ProcedureShape}
use Rattle.circus_record.specs.declared.record.AskRecord.{AskRecord}
use Rattle.circus_record.specs.declared.record.MemberRecord.{MemberRecord}
use Rattle.circus_record.specs.declared.record.RunRecord.{RunRecord}
use Rattle.circus_fanout.specs.Asking.{Asking}
use Rattle.circus_performing.specs.Performing.{clock_after, step_after}
use Rattle.circus_performing.proofs.Ends.{latest_more}
use Rattle.circus_member_rules.specs.declared.place.Place.{Place}
use Rattle.circus_member_rules.specs.declared.occurrence.AskName.{AskName}
use Rattle.circus_member_rules.specs.declared.occurrence.Effect.{Effect}
use Rattle.circus_member_rules.specs.declared.occurrence.Occurrence.{Occurrence}
use Rattle.circus_member_rules.specs.OpenAsks.{asking_of}
use Rattle.circus_member_rules.specs.Rules.{value_of_ask}
use Rattle.circus_member_theory.specs.Past.{Past, followed, now}
use Rattle.circus_member_theory.specs.Asks.{is_new, asks_from, knows, first_calls, open_asks}
use Rattle.circus_member_theory.specs.Differences.{ask_named}
use Rattle.circus_member_theory.specs.Order.{made_by_run, is_answered_by_end, returns_now}
use Rattle.circus_member_theory.specs.Timely.{ShowsAnswer, collated_reply, may_answer}
use Rattle.circus_gather.specs.Gathering.{is_of_index}
use Rattle.circus_dues.specs.Calls.{IsKeptAmid, ends_among}
use Rattle.circus_dues.specs.Dues.{StandsAt, HasAsked, KeepsOpen}
use Rattle.circus_dues.specs.Walk.{IsLater, IsBy, IsNotBefore, AskOneByOne, IsRunInOrder, AreAnsweredOnward}
use Rattle.circus_dues.specs.declared.owing.Owing.{Owing}
use Rattle.circus_dues.specs.declared.walk.Walk.{Walk}
use Rattle.circus_dues.specs.Seen.Owing.{agrees, untimely, index, value_of, passed, made_by_pass, gone_on_with, made_going_on_with, gone_on, made_going_on}
use Rattle.circus_headline_theory.proofs.One.{at_front}
use Rattle.circus_headline_theory.proofs.Owed.Entries.{none_from}
use Rattle.circus_dues.proofs.CallsPassing.{run_at, ends_in, no_returns}
use Rattle.circus_dues.proofs.OutCounts.{counts_of}
use Rattle.circus_dues.proofs.OutOpen.{is_open}
use Rattle.circus_dues.proofs.OutValue.{IsKeptOpen, value_then}
use Rattle.circus_dues.proofs.Stages.{IsGoingOn, IsAmid, new_of, HasGone, GoesOrIsRefused}
use Rattle.circus_dues.proofs.StepGoingAsks.{IsPlaced, placed, order_behind, IsOldAsk, old_asks, shown_so}
use Rattle.circus_dues.proofs.StepGoingInTime.{later_so, waits_in_time, answered_in_time, refused}
use Rattle.circus_dues.proofs.StepGoingStill.{under, underway_at}
use Rattle.circus_dues.proofs.StepPassing.{passes}
use Rattle.circus_dues.proofs.WalkAnswers.{IsLateAsk, asks_behind, AnsweredBefore}
use Rattle.circus_dues.proofs.WalkMade.{each_in_order}
use Rattle.circus_dues.proofs.WalkRuns.{goes_on_by_ask}
use Rattle.circus_dues.proofs.WalkStarts.{get_behind, all_at}
use Rattle.circus_dues.proofs.WalkStep.{from_open}

never : (step : ℕ) (o : Option ℕ) → IsBy step o → IsLater step o → ⊥
never step None by later = by
never step (Some n) by later = omega (arith, by, later)

module _ (place : Place) (boot : List View) (begins : Joiner) (first : List ValueTree) (procedures : List ProcedureShape) (at_boot : ℕ) (kept : MemberRecord) (p : Past) (at : ℕ) (o : Occurrence)
    (going : IsGoingOn place boot begins at_boot kept p at) where
  abbrev q : Past
  q = followed p at o

  abbrev AreAnswered : ℕ → ℕ → List ℕ → List AskRecord → Type 0
  AreAnswered number place_of clock asks = AreAnsweredOnward place boot begins procedures at_boot kept q number place_of clock asks

  abbrev Amid : List (AskName × Asking) → Option ℕ → Owing → Type 0
  Amid new one d = IsAmid place boot begins first procedures at_boot kept p at o new one d

  abbrev Goes : ℕ → RunRecord → List (AskName × Asking) → Owing → List Effect → Owing → Type 0
  Goes number run before d effects e = GoesOrIsRefused place boot begins first procedures at_boot kept p at o number run before d effects e

  -- ---- its open ask

  module _ (number : ℕ) (run : RunRecord) (there : slice_get kept.runs number ≡ Some run) (front : List AskRecord) (ask : AskRecord) (rest : List AskRecord) (are : run.asks ≡ front ++ ask ∷ rest)
      (asked_by : ask.asked ≤ now p) (late : IsLater (now p) ask.answered) (left : is_spent (clock_after run.entry (take (length front) run.asks)) ≡ false) where
    abbrev name : AskName
    name = record { run = kept.from + number; ask = length front }

    abbrev given : Option Reply
    given = collated_reply place boot begins name ask q

    run_so : IsRunInOrder run
    run_so = all_at IsRunInOrder kept.runs number run (each_in_order 0 kept.runs going.order) there

    whole_order : AskOneByOne run.started (front ++ ask ∷ rest)
    whole_order = subst (AskOneByOne run.started) are run_so.asks_so

    order : AskOneByOne (step_after run.started front) (ask ∷ rest)
    order = order_behind run.started front (ask ∷ rest) whole_order

    asked_before : ask.asked < at
    asked_before = (let low = going.later in omega (arith, low, asked_by))

    old : All (IsOldAsk at) front
    old = old_asks at run.started front ask rest whole_order asked_before

    here : slice_get run.asks (length front) ≡ Some ask
    here = ap (λ l. slice_get l (length front)) are ∙ at_front front ask rest

    named : ask_named kept name ≡ Some ask
    named = ap (option_and_then (λ (r : RunRecord). slice_get r.asks (length front))) (run_at kept number ∙ there) ∙ here

    may_is : may_answer place boot begins name ask q ≡ given
    may_is = ap (λ b. if b then given else None) (le-leb ask.asked at (omega (arith, asked_before)))

    -- ---- the walk along the run

    whole : AreAnswered number (length front) (clock_after run.entry front) (ask ∷ rest) → AreAnswered number 0 run.entry run.asks
    whole walk =
        from_open place boot begins procedures at_boot kept q going.order number run front (ask ∷ rest) (step_after run.started front) are
        (All-weaker (IsOldAsk at) (AnsweredBefore at) (λ a h. h.answered_before) front old) order walk

    abbrev IsNotNew : AskRecord → Type 0
    IsNotNew a = is_new q a ≡ false

    old_not_new : All IsNotNew front
    old_not_new = All-weaker (IsOldAsk at) IsNotNew (λ a h. (let low = h.asked_before in ne_eqb a.asked at (λ is. absurd (omega (arith, is, low))))) front old

    not_new : IsNotNew ask
    not_new = ne_eqb ask.asked at (λ is. absurd (omega (arith, is, asked_before)))

    -- ---- of what is kept

    module _ (count : ℕ) (count_is : count ≡ length front + 1) (d : Owing) (timely : d.is_timely ≡ true) (walk : d.walk ≡ record { ended = number; asked = Some count })
        (stands : StandsAt p (Some run) (Some count)) (amid : Amid [] (Some (kept.from + number)) d) where
      ended_is : d.walk.ended ≡ number
      ended_is = ap (λ (w : Walk). w.ended) walk

      place_is : count - 1 ≡ length front
      place_is = omega (arith, count_is)

      started_by : run.started ≤ at
      started_by = (let by = stands.0 in let step = going.later in omega (arith, by, step))

      -- ---- it still waits

      module _ (later : IsLater at ask.answered) where
        behind : All (IsLateAsk at) rest
        behind = asks_behind at (step_after run.started front) ask rest order later

        none_new : new_of place boot begins first procedures at_boot kept p at o number run ≡ []
        none_new =
            none_from place (is_new q) (kept.from + number) run.root run.path 0 run.entry run.asks
            (subst (All IsNotNew) (sym are)
            (All-append IsNotNew front (ask ∷ rest) old_not_new
            (All-cons IsNotNew ask rest not_new
            (All-weaker (IsLateAsk at) IsNotNew (λ a l. (let high = l.asked_later in ne_eqb a.asked at (λ is. absurd (omega (arith, is, high))))) rest behind))))

        ends_later : IsLater at run.ended
        ends_later = by_end run.ended (goes_on_by_ask (suc at) run front ask rest run_so are (by_answer ask.answered later))
          where
            by_answer : (x : Option ℕ) → IsLater at x → IsNotBefore (suc at) x
            by_answer None high = tt
            by_answer (Some n) high = omega (arith, high)

            by_end : (x : Option ℕ) → IsNotBefore (suc at) x → IsLater at x
            by_end None high = tt
            by_end (Some n) high = omega (arith, high)

        not_ended : ends_in at run ≡ false
        not_ended = by_end run.ended ends_later
          where
            by_end : (x : Option ℕ) → IsLater at x → option_map_or (nat_eq at) x false ≡ false
            by_end None high = refl
            by_end (Some n) high = ne_eqb at n (λ is. absurd (omega (arith, is, high)))

        made_none : made_by_run place boot begins first kept q (kept.from + number) run ≡ []
        made_none = λ j. flat_map (first_calls place boot (knows place boot q)) (none_new j) ++ none_returned j
          where
            none_returned : returns_now place boot begins first kept q (λ e. is_answered_by_end place boot begins first kept q e && is_of_index place.troupe (kept.from + number) e.1) ≡ []
            none_returned =
                no_returns place boot begins first kept p at o going.rises going.later number d.calls.gathered
                (subst (λ n. IsKeptAmid place.troupe begins kept p at o (ends_among kept at n) d.calls.gathered) ended_is amid.calls) run there not_ended

        has_asked : HasAsked q run count
        has_asked =
            record {
              some = stands.2.some;
              made = λ n a low is. (let by = stands.2.made n a low is in let step = going.later in omega (arith, by, step));
              later = behind_later;
              waits = subst (λ x. IsSomeAnd x (λ (a : AskRecord). IsLater at a.answered)) (sym (ap (slice_get run.asks) place_is ∙ here)) later;
              calls_left = stands.2.calls_left;
            }
          where
            behind_later : (n : ℕ) (a : AskRecord) → count ≤ n → slice_get run.asks n ≡ Some a → at < a.asked
            behind_later n a high is =
                let m = n - count in
                let long = length-append front (ask ∷ []) in
                let same : length (front ++ ask ∷ []) + m ≡ n = omega (arith, high, long, count_is) in
                let all : run.asks ≡ (front ++ ask ∷ []) ++ rest = are ∙ sym (append_assoc front (ask ∷ []) rest) in
                (all_at (IsLateAsk at) rest m a behind (sym (get_behind (front ++ ask ∷ []) rest m) ∙ ap (slice_get ((front ++ ask ∷ []) ++ rest)) same ∙ ap (λ l. slice_get l n) (sym all) ∙ is)).asked_later

        waits_now : given ≡ None → HasGone place boot begins first procedures at_boot kept p at o number run [] d [] d
        waits_now none =
            record {
              timely = timely;
              answered = whole (λ _. waits_in_time place boot begins first procedures at_boot kept p at o number (length front) run ask (may_is ∙ none) later, λ by. absurd (never at ask.answered by later));
              made = sym made_none;
              requests = refl;
              stands = inr (
                  record {
                    count = count;
                    walk = walk;
                    stands = (started_by, ends_later, has_asked);
                    amid = subst (λ l. Amid l (Some (kept.from + number)) d) (sym none_new) amid;
                  }
                  );
            }

      -- ---- it is answered in the step

      module _ (reply : Reply) (some : given ≡ Some reply) (shown : ShowsAnswer ask (Some (at, reply))) where
        joined : AreAnswered number (length (front ++ ask ∷ [])) (clock_after run.entry (front ++ ask ∷ [])) rest → AreAnswered number 0 run.entry run.asks
        joined onward =
            whole (
              λ _. answered_in_time place boot begins first procedures at_boot kept p at o number (length front) run ask reply (may_is ∙ some) shown,
              λ _. subst (λ n. AreAnswered number n (unwrap_or ask.after (clock_after run.entry front)) rest) longer
                  (subst (λ c. AreAnswered number (length (front ++ ask ∷ [])) c rest) (latest_more (λ (a : AskRecord). a.after) run.entry front ask) onward),
            )
          where
            longer : length (front ++ ask ∷ []) ≡ suc (length front)
            longer = (let long = length-append front (ask ∷ []) in omega (arith, long))

        from_now : AskOneByOne at rest
        from_now = subst (λ x. AskOneByOne (unwrap_or x (step_after run.started front)) rest) shown.0 order.3

        on_now : step_after run.started (front ++ ask ∷ []) ≡ at
        on_now = latest_more (λ (a : AskRecord). a.answered) run.started front ask ∙ ap (λ x. unwrap_or x (step_after run.started front)) shown.0

        not_before : IsNotBefore at run.ended
        not_before = goes_on_by_ask at run front ask rest run_so are (subst (IsNotBefore at) (sym shown.0) (omega arith))

        none_before : asks_from place (is_new q) (kept.from + number) run.root run.path 0 run.entry (front ++ ask ∷ []) ≡ []
        none_before =
            none_from place (is_new q) (kept.from + number) run.root run.path 0 run.entry (front ++ ask ∷ [])
            (All-append IsNotNew front (ask ∷ []) old_not_new (All-cons IsNotNew ask [] not_new (All-nil IsNotNew)))

        passes_on : Goes number run [] d (made_by_pass place kept at d run count) (passed place kept at d run count)
        passes_on =
            subst (λ n. Goes number run [] d (made_by_pass place kept at d run n) (passed place kept at d run n)) longer
            (passes place boot begins first procedures at_boot kept p at o going number run there started_by not_before (front ++ ask ∷ []) rest (are ∙ sym (append_assoc front (ask ∷ []) rest)) from_now on_now none_before joined
            [] d timely ended_is amid)
          where
            longer : length (front ++ ask ∷ []) ≡ count
            longer = (let long = length-append front (ask ∷ []) in omega (arith, long, count_is))

      -- ---- by what is given

      abbrev By : Option Reply → Bool → Type 0
      By x b =
          Goes number run [] d (if b then option_map_or (λ _. made_by_pass place kept at d run count) x [] else [])
          (if b then option_map_or (λ _. passed place kept at d run count) x d else untimely d)

      goes_by : (x : Option Reply) → given ≡ x → (b : Bool) → agrees at ask x ≡ b → By x b
      goes_by x is false says = inr (record { untimely = refl; refuses = refused place boot begins first procedures at_boot kept p at o number (length front) run ask there here late left x (may_is ∙ is) says })
      goes_by None is true says = inl (waits_now (later_so at ask.answered says) is)
      goes_by (Some reply) is true says = passes_on reply is (shown_so ask at reply says)

      index_is : index kept d ≡ kept.from + number
      index_is = (let few = going.lawful.few in let within = slice_get_within kept.runs number run there in let ended = ended_is in omega (arith, few, within, ended))

      -- the value of the ask, where it is open
      value_is : IsKeptOpen place boot kept p name ask → value_of kept d (count - 1) ≡ given
      value_is is_kept =
          (λ j. option_and_then (value_of_ask d.out.known) (asking_of (amid.asks j) (record { run = index_is j; ask = place_is j })))
          ∙ value_then place boot kept begins first (counts_of going.lawful.behaves going.lawful.from kept going.lawful.is) p going.rises at going.later o d.out.known amid.known.seen name ask named is_kept

      goes_there : IsKeptOpen place boot kept p name ask → Goes number run [] d (made_going_on_with place kept at d (under run count ask)) (gone_on_with place kept at d (under run count ask))
      goes_there is_kept = subst (λ x. By x (agrees at ask x)) (sym (value_is is_kept)) (goes_by given refl (agrees at ask given) refl)

  -- ---- as its walk stands

  pub goes : (number count : ℕ) (run : RunRecord) (d : Owing) → slice_get kept.runs number ≡ Some run → d.walk ≡ record { ended = number; asked = Some count } → StandsAt p (Some run) (Some count)
      → KeepsOpen boot begins first at_boot place kept p d.walk → d.is_timely ≡ true → Amid [] (Some (kept.from + number)) d
      → Goes number run [] d (made_going_on place kept at d) (gone_on place kept at d)
  goes number count run d there walk stands keeps timely amid = by_ask (slice_get run.asks (count - 1)) refl stands.2.waits
    where
      at_walk : (ask : AskRecord) → slice_get run.asks (count - 1) ≡ Some ask → is_some (slice_get boot ask.callee) ≡ true → is_open (open_asks place boot kept p) (record { run = kept.from + number; ask = count - 1 }) ≡ true
      at_walk ask here known = subst (λ w. KeepsOpen boot begins first at_boot place kept p w) walk keeps run count ask there refl here known

      by_place : (ask : AskRecord) → slice_get run.asks (count - 1) ≡ Some ask → IsLater (now p) ask.answered → IsPlaced run.asks (count - 1) ask → Goes number run [] d (made_going_on place kept at d) (gone_on place kept at d)
      by_place ask here late s =
          let some = stands.2.some in
          let long = s.long in
          subst (λ u. Goes number run [] d (option_map_or (made_going_on_with place kept at d) u []) (option_map_or (gone_on_with place kept at d) u d)) (sym (underway_at kept d number run count ask there walk here))
          (goes_there number run there s.front ask s.rest s.are (stands.2.made (count - 1) ask (omega (arith, some)) here) late
          (subst (λ n. is_spent (clock_after run.entry (take n run.asks)) ≡ false) (sym long) stands.2.calls_left)
          count (omega (arith, some, long)) d timely walk stands amid
          (λ known. subst (λ n. is_open (open_asks place boot kept p) (record { run = kept.from + number; ask = n }) ≡ true) (sym long) (at_walk ask here known)))

      by_ask : (x : Option AskRecord) → slice_get run.asks (count - 1) ≡ x → IsSomeAnd x (λ (ask : AskRecord). IsLater (now p) ask.answered) → Goes number run [] d (made_going_on place kept at d) (gone_on place kept at d)
      by_ask None here waits = absurd waits
      by_ask (Some ask) here waits = by_place ask here waits (placed run.asks (count - 1) ask here)
