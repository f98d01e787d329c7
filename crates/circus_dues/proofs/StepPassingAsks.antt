-- A thread that has made all its calls is refused each ask as it is made: a run passes on over such asks, in the same step.
use Rattle.std.proofs.Common.{◌≡◌, ℕ, zero, suc, ◌+◌, ◌-◌, ◌<◌, ◌≤◌, ◌⊎◌, inl, inr, true, false, ◌&&◌, not, if◌then◌else◌, List, [], ◌∷◌, ◌++◌, length, take, All, Option, None, Some, refl, sym, ap, subst, ◌∙◌, arith, append_assoc, append-nil, length-append}
use Rattle.std.specs.Prelude.{drop, slice_get, nat_eq, unwrap_or, IsSomeAnd}
use Rattle.std.specs.Option.{option_map_or}
use Rattle.std.proofs.Math.Bool.{and-false}
use Rattle.std.proofs.lemmas.Bool.{true≢false, eq-eqb, ne_eqb, le-leb, lt-leb}
use Rattle.std.proofs.lemmas.List.Elements.{All-nil, All-cons, All-push, All-weaker}
use Rattle.std.proofs.lemmas.Option.{same_Some, slice_get_within}
use Rattle.circus_value.specs.ValueTree.{ValueTree}
use Rattle.circus_collate.specs.declared.view.View.{View}
use Rattle.circus_transfer.specs.declared.joiner.Joiner.{Joiner}
use Rattle.circus_model.specs.Execution.{is_spent}
use Rattle.circus_model.specs.declared.signature.ProcedureShape.{ProcedureShape}
use Rattle.circus_record.specs.declared.record.AskRecord.{AskRecord}
use Rattle.circus_record.specs.declared.record.MemberRecord.{MemberRecord}
use Rattle.circus_record.specs.declared.record.RunRecord.{RunRecord}
use Rattle.circus_fanout.specs.Asking.{Asking}
use Rattle.circus_performing.specs.Performing.{clock_after, step_after, state_after}
use Rattle.circus_performing.specs.Record.{start_of, IsAnswered, IsWaiting}
use Rattle.circus_performing.proofs.Ends.{latest_more}
use Rattle.circus_member_rules.specs.declared.place.Place.{Place}
use Rattle.circus_member_rules.specs.declared.occurrence.AskName.{AskName}
use Rattle.circus_member_theory.specs.Past.{Past, now}
use Rattle.circus_member_theory.specs.Asks.{is_new, as_made, asks_from}
use Rattle.circus_headline_theory.proofs.One.{at_front, take_front, no_more, RunIs, ask_is, run_is}
use Rattle.circus_headline_theory.proofs.Owed.Entries.{none_from}
use Rattle.circus_dues.specs.Dues.{IsLawful, HasAsked}
use Rattle.circus_dues.specs.Walk.{IsBy, IsLater, IsNotBefore, AskOneByOne, IsRunInOrder, AreAnsweredOnward}
use Rattle.circus_dues.specs.Seen.Owing.{next_of}
use Rattle.circus_dues.specs.Seen.Steps.{is_by, next_ask}
use Rattle.circus_dues.proofs.OutNew.{passed_over, passed}
use Rattle.circus_dues.proofs.WalkAnswers.{IsLateAsk, asks_behind}
use Rattle.circus_dues.proofs.WalkNew.{from_both}
use Rattle.circus_dues.proofs.WalkRuns.{goes_on_by_ask}
use Rattle.circus_dues.proofs.WalkStarts.{all_at}
use Rattle.circus_dues.proofs.WalkStep.{IsBehind, front_or_behind}

-- ---- lists

-- with what stands before and behind it
parted : {X : Type 0} (xs : List X) (n : ℕ) (x : X) → slice_get xs n ≡ Some x → xs ≡ take n xs ++ x ∷ drop (suc n) xs
parted {X} [] n x is = absurd (let clash : ◌≡◌ {A = Option X} None (Some x) = is in cc)
parted (y ∷ xs) zero x is = ap (λ z. z ∷ xs) (same_Some y x is)
parted (y ∷ xs) (suc n) x is = ap (λ l. y ∷ l) (parted xs n x is)

has_last : {X : Type 0} (xs : List X) (x : X) → xs ++ x ∷ [] ≡ [] → ⊥
has_last [] x is = no_more x [] is
has_last (y ∷ xs) x is = no_more y (xs ++ x ∷ []) is

-- ---- answers by a step

pub is_by_of : (at : ℕ) (o : Option ℕ) → IsBy at o → is_by o at ≡ true
is_by_of at None by = absurd by
is_by_of at (Some n) by = le-leb n at by

pub not_by_of : (at : ℕ) (o : Option ℕ) → IsLater at o → is_by o at ≡ false
not_by_of at None late = refl
not_by_of at (Some n) late = lt-leb n at late

pub never_both : (at : ℕ) (o : Option ℕ) → IsBy at o → IsLater at o → ⊥
never_both at None by late = by
never_both at (Some n) by late = omega (arith, by, late)

-- one that was answered by the step in which it was made was answered in it
pub by_then : (at : ℕ) (o : Option ℕ) → IsBy at o → at ≤ unwrap_or o at → o ≡ Some at
by_then at None by low = absurd by
by_then at (Some n) by low = (let same : n ≡ at = omega (arith, by, low) in ap (λ k. Some k) same)

pub not_in : (at : ℕ) (o : Option ℕ) → IsLater at o → option_map_or (nat_eq at) o false ≡ false
not_in at None late = refl
not_in at (Some n) late = ne_eqb at n (λ is. absurd (omega (arith, is, late)))

-- ---- asks that were made by a step

abbrev pub IsAskedBy : ℕ → AskRecord → Type 0
IsAskedBy step ask = ask.asked ≤ step

rises_over : (from : ℕ) (front rest : List AskRecord) → AskOneByOne from (front ++ rest) → from ≤ step_after from front
rises_over from [] rest so = omega arith
rises_over from (ask ∷ front) rest so = (let on = so.1 in let more = rises_over (unwrap_or ask.answered from) front rest so.3 in omega (arith, on, more))

asked_by : (from last : ℕ) (front rest : List AskRecord) → AskOneByOne from (front ++ rest) → step_after from front ≤ last → All (IsAskedBy last) front
asked_by from last [] rest so low = All-nil (IsAskedBy last)
asked_by from last (ask ∷ front) rest so low =
    let asked = so.0 in
    let on = so.1 in
    let more = rises_over (unwrap_or ask.answered from) front rest so.3 in
    All-cons (IsAskedBy last) ask front (omega (arith, asked, on, more, low)) (asked_by (unwrap_or ask.answered from) last front rest so.3 low)

-- ---- a run of a lawful record

-- an ask was refused as it was made, by a thread with this clock
pub record IsRefusedAt (clock : List ℕ) (ask : AskRecord) : Type 0 where
  pub after_is : ask.after ≡ Some clock
  pub answered_is : ask.answered ≡ Some ask.asked

-- the last of these asks of a run waits
record LastIsOpen (run : RunRecord) (asks : List AskRecord) : Type 0 where
  before : List AskRecord
  ask : AskRecord
  are : asks ≡ before ++ ask ∷ []
  asked : ask.asked ≡ step_after run.started before
  not_answered : ask.answered ≡ None
  calls_left : is_spent (clock_after run.entry before) ≡ false

module _ (kept : MemberRecord) (lawful : IsLawful kept) (number : ℕ) (run : RunRecord) (there : slice_get kept.runs number ≡ Some run) where
  abbrev state : List ValueTree
  state = state_after lawful.from (take number kept.runs)

  is_so : RunIs lawful.behaves state run
  is_so = run_is lawful.behaves lawful.from kept lawful.is (take number kept.runs) (drop (suc number) kept.runs) run (parted kept.runs number run there)

  refused_at : (front : List AskRecord) (ask : AskRecord) (rest : List AskRecord) → run.asks ≡ front ++ ask ∷ rest → is_spent (clock_after run.entry front) ≡ true
      → IsRefusedAt (clock_after run.entry front) ask
  refused_at front ask rest are spent = by_next (ask_is lawful.behaves state run is_so front ask rest are).next
    where
      by_next : IsAnswered lawful.behaves (start_of run) front ask ⊎ (IsWaiting (start_of run) front ask × (rest ≡ [])) → IsRefusedAt (clock_after run.entry front) ask
      by_next (inl a) = (let so = a.refused spent in record { after_is = a.after_is ∙ ap (λ c. Some c) so.1; answered_is = a.answered_is ∙ ap (λ n. Some n) so.2 })
      by_next (inr w) = absurd (true≢false (sym spent ∙ w.0.calls_left))

  ended_or_waits : (asks : List AskRecord) → run.asks ≡ asks → (run.ended ≡ Some (step_after run.started asks)) ⊎ LastIsOpen run asks
  ended_or_waits asks are = by_run is_so
    where
      by_run : RunIs lawful.behaves state run → (run.ended ≡ Some (step_after run.started asks)) ⊎ LastIsOpen run asks
      by_run (inl e) = inl (e.ended_is ∙ ap (λ l. Some (step_after run.started l)) are)
      by_run (inr o) =
          inr (record { before = o.before; ask = o.ask; are = sym are ∙ o.asks_are; asked = o.asking.asked; not_answered = o.waits.not_answered; calls_left = o.waits.calls_left })

-- ---- a run that passes on from the ask of a number

module _ (place : Place) (boot : List View) (begins : Joiner) (procedures : List ProcedureShape) (at_boot : ℕ) (kept : MemberRecord) (p : Past) (number : ℕ) (run : RunRecord) (from : ℕ) where
  -- those of its asks that are made in the last step of a past
  abbrev new_among : List AskRecord → List (AskName × Asking)
  new_among asks = asks_from place (is_new p) (kept.from + number) run.root run.path 0 run.entry asks

  -- in that step it has come to these asks: those before have made no call in it
  pub record HasPassed (front rest : List AskRecord) : Type 0 where
    pub are : run.asks ≡ front ++ rest
    pub next : next_of run from ≡ next_ask (length front) (clock_after run.entry front) rest
    pub so : AskOneByOne (now p) rest
    pub on_now : step_after run.started front ≡ now p
    pub none_new : asks_from place (is_new p) (kept.from + number) run.root run.path 0 run.entry front ≡ []
    pub joined : AreAnsweredOnward place boot begins procedures at_boot kept p number (length front) (clock_after run.entry front) rest
        → AreAnsweredOnward place boot begins procedures at_boot kept p number 0 run.entry run.asks

  module _ (lawful : IsLawful kept) (there : slice_get kept.runs number ≡ Some run) where
    -- it passes over an ask that is refused
    pub passed_more : (front : List AskRecord) (ask : AskRecord) (rest : List AskRecord) → HasPassed front (ask ∷ rest) → is_spent (clock_after run.entry front) ≡ true → HasPassed (front ++ ask ∷ []) rest
    passed_more front ask rest s spent =
        record {
          are = s.are ∙ sym (append_assoc front (ask ∷ []) rest);
          next = s.next
              ∙ ap (λ b. if b then next_ask (suc (length front)) (unwrap_or ask.after (clock_after run.entry front)) rest else Some (length front)) spent
              ∙ (λ j. next_ask (sym longer j) (sym clock_on j) rest);
          so = subst (λ n. AskOneByOne n rest) (ap (λ o. unwrap_or o (now p)) refused.answered_is ∙ s.so.0) s.so.3;
          on_now = latest_more (λ (a : AskRecord). a.answered) run.started front ask ∙ ap (λ o. unwrap_or o (step_after run.started front)) refused.answered_is ∙ s.so.0;
          none_new = from_both place (is_new p) (kept.from + number) run.root run.path 0 run.entry front (ask ∷ [])
              ∙ (λ j. s.none_new j ++ passed_over place (is_new p) (kept.from + number) run.root run.path (0 + length front) (clock_after run.entry front) ask [] makes_none j);
          joined = λ walk. s.joined (λ left. absurd (true≢false (sym spent ∙ left)), λ _. onward walk);
        }
      where
        refused : IsRefusedAt (clock_after run.entry front) ask
        refused = refused_at kept lawful number run there front ask rest s.are spent

        longer : length (front ++ ask ∷ []) ≡ suc (length front)
        longer = let long = length-append front (ask ∷ []) in omega (arith, long)

        clock_on : clock_after run.entry (front ++ ask ∷ []) ≡ unwrap_or ask.after (clock_after run.entry front)
        clock_on = latest_more (λ (a : AskRecord). a.after) run.entry front ask

        makes_none : (is_new p ask && not (is_spent (clock_after run.entry front))) ≡ false
        makes_none = ap (λ b. is_new p ask && not b) spent ∙ and-false (is_new p ask)

        onward : AreAnsweredOnward place boot begins procedures at_boot kept p number (length (front ++ ask ∷ [])) (clock_after run.entry (front ++ ask ∷ [])) rest
            → AreAnsweredOnward place boot begins procedures at_boot kept p number (suc (length front)) (unwrap_or ask.after (clock_after run.entry front)) rest
        onward walk =
            subst (λ c. AreAnsweredOnward place boot begins procedures at_boot kept p number (suc (length front)) c rest) clock_on
            (subst (λ n. AreAnsweredOnward place boot begins procedures at_boot kept p number n (clock_after run.entry (front ++ ask ∷ [])) rest) longer walk)

    -- where there is no other it ends
    pub passed_to_end : (front : List AskRecord) → HasPassed front [] → run.ended ≡ Some (now p)
    passed_to_end front s = by_end (ended_or_waits kept lawful number run there front (s.are ∙ append-nil front))
      where
        none_waits : LastIsOpen run front → ⊥
        none_waits w =
            has_last (new_among w.before) (as_made place (kept.from + number) run.root run.path (0 + length w.before) (clock_after run.entry w.before) w.ask)
            (sym (ap new_among w.are
            ∙ from_both place (is_new p) (kept.from + number) run.root run.path 0 run.entry w.before (w.ask ∷ [])
            ∙ ap (λ l. new_among w.before ++ l) (passed place (is_new p) (kept.from + number) run.root run.path (0 + length w.before) (clock_after run.entry w.before) w.ask [] made))
            ∙ s.none_new)
          where
            at_step : step_after run.started front ≡ step_after run.started w.before
            at_step =
                ap (step_after run.started) w.are
                ∙ latest_more (λ (a : AskRecord). a.answered) run.started w.before w.ask
                ∙ ap (λ o. unwrap_or o (step_after run.started w.before)) w.not_answered

            made : (is_new p w.ask && not (is_spent (clock_after run.entry w.before))) ≡ true
            made = λ j. eq-eqb w.ask.asked (now p) (w.asked ∙ sym at_step ∙ s.on_now) j && not (w.calls_left j)

        by_end : (run.ended ≡ Some (step_after run.started front)) ⊎ LastIsOpen run front → run.ended ≡ Some (now p)
        by_end (inl is) = is ∙ ap (λ n. Some n) s.on_now
        by_end (inr w) = absurd (none_waits w)

  -- it asks, and isn't answered by then
  module _ (front : List AskRecord) (ask : AskRecord) (rest : List AskRecord) (s : HasPassed front (ask ∷ rest)) (left : is_spent (clock_after run.entry front) ≡ false) where
    pub ask_there : slice_get run.asks (length front) ≡ Some ask
    ask_there = ap (λ l. slice_get l (length front)) s.are ∙ at_front front ask rest

    pub clock_there : clock_after run.entry (take (length front) run.asks) ≡ clock_after run.entry front
    clock_there = ap (λ l. clock_after run.entry (take (length front) l)) s.are ∙ ap (clock_after run.entry) (take_front front (ask ∷ rest))

    pub next_there : next_of run from ≡ Some (length front)
    next_there = s.next ∙ ap (λ b. if b then next_ask (suc (length front)) (unwrap_or ask.after (clock_after run.entry front)) rest else Some (length front)) left

    module _ (late : IsLater (now p) ask.answered) where
      late_rest : All (IsLateAsk (now p)) rest
      late_rest = asks_behind (now p) (now p) ask rest s.so late

      -- it is the one new ask
      pub new_there : asks_from place (is_new p) (kept.from + number) run.root run.path 0 run.entry run.asks
          ≡ as_made place (kept.from + number) run.root run.path (length front) (clock_after run.entry front) ask ∷ []
      new_there =
          ap new_among s.are
          ∙ from_both place (is_new p) (kept.from + number) run.root run.path 0 run.entry front (ask ∷ rest)
          ∙ (λ j. s.none_new j ++ asks_from place (is_new p) (kept.from + number) run.root run.path (same j) (clock_after run.entry front) (ask ∷ rest))
          ∙ passed place (is_new p) (kept.from + number) run.root run.path (length front) (clock_after run.entry front) ask rest made
          ∙ ap (λ l. as_made place (kept.from + number) run.root run.path (length front) (clock_after run.entry front) ask ∷ l)
          (none_from place (is_new p) (kept.from + number) run.root run.path (length front + 1) (unwrap_or ask.after (clock_after run.entry front)) rest none)
        where
          same : 0 + length front ≡ length front
          same = omega arith

          made : (is_new p ask && not (is_spent (clock_after run.entry front))) ≡ true
          made = λ j. eq-eqb ask.asked (now p) s.so.0 j && not (left j)

          none : All (λ (a : AskRecord). is_new p a ≡ false) rest
          none =
              All-weaker (IsLateAsk (now p)) (λ (a : AskRecord). is_new p a ≡ false)
              (λ a l. ne_eqb a.asked (now p) (λ at. (let high = l.asked_later in absurd (omega (arith, high, at))))) rest late_rest

      module _ (order : IsRunInOrder run) where
        -- the run ends later
        pub late_end : IsLater (now p) run.ended
        late_end = is_later run.ended (goes_on_by_ask (suc (now p)) run front ask rest order s.are (is_not_before ask.answered late))
          where
            is_not_before : (o : Option ℕ) → IsLater (now p) o → IsNotBefore (suc (now p)) o
            is_not_before None l = tt
            is_not_before (Some n) l = omega (arith, l)

            is_later : (o : Option ℕ) → IsNotBefore (suc (now p)) o → IsLater (now p) o
            is_later None l = tt
            is_later (Some n) l = omega (arith, l)

        -- it waits at the ask
        pub asked_there : HasAsked p run (length front + 1)
        asked_there =
            record {
              some = omega arith;
              made = λ k a low at. by_place k a low (placed k a at);
              later = λ k a high at. behind_place k a high (placed k a at);
              waits = subst (λ k. IsSomeAnd (slice_get run.asks k) (λ (a : AskRecord). IsLater (now p) a.answered)) (sym less)
                  (subst (λ o. IsSomeAnd o (λ (a : AskRecord). IsLater (now p) a.answered)) (sym ask_there) late);
              calls_left = ap (λ k. is_spent (clock_after run.entry (take k run.asks))) less ∙ ap is_spent clock_there ∙ left;
            }
          where
            less : (length front + 1) - 1 ≡ length front
            less = omega arith

            long : length (front ++ ask ∷ []) ≡ length front + 1
            long = length-append front (ask ∷ [])

            made_before : All (IsAskedBy (now p)) (front ++ ask ∷ [])
            made_before =
                let asked = s.so.0 in
                let on = s.on_now in
                All-push (IsAskedBy (now p)) front ask
                (asked_by run.started (now p) front (ask ∷ rest) (subst (AskOneByOne run.started) s.are order.asks_so) (omega (arith, on))) (omega (arith, asked))

            placed : (k : ℕ) (a : AskRecord) → slice_get run.asks k ≡ Some a → (slice_get (front ++ ask ∷ []) k ≡ Some a) ⊎ IsBehind (front ++ ask ∷ []) rest k a
            placed k a at = front_or_behind (front ++ ask ∷ []) rest k a (ap (λ l. slice_get l k) (sym (s.are ∙ sym (append_assoc front (ask ∷ []) rest))) ∙ at)

            by_place : (k : ℕ) (a : AskRecord) → k < length front + 1 → (slice_get (front ++ ask ∷ []) k ≡ Some a) ⊎ IsBehind (front ++ ask ∷ []) rest k a → a.asked ≤ now p
            by_place k a low (inl at) = all_at (IsAskedBy (now p)) (front ++ ask ∷ []) k a made_before at
            by_place k a low (inr b) = (let is = b.number_is in absurd (omega (arith, is, low, long)))

            behind_place : (k : ℕ) (a : AskRecord) → length front + 1 ≤ k → (slice_get (front ++ ask ∷ []) k ≡ Some a) ⊎ IsBehind (front ++ ask ∷ []) rest k a → now p < a.asked
            behind_place k a high (inl at) = (let within = slice_get_within (front ++ ask ∷ []) k a at in absurd (omega (arith, within, high, long)))
            behind_place k a high (inr b) = (all_at (IsLateAsk (now p)) rest b.place a late_rest b.there).asked_later
