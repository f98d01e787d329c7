-- Before a run of a record starts in a step: the call by which the next one may is given by what is kept, and where none is given none starts.
use Rattle.std.proofs.Common.{◌≡◌, ℕ, zero, suc, ◌+◌, ◌<◌, ◌≤◌, inl, inr, Bool, true, false, ◌&&◌, not, if◌then◌else◌, List, [], length, All, Option, None, Some, refl, sym, ap, subst, ◌∙◌, arith, append-nil}
use Rattle.std.specs.Prelude.{drop, slice_get, nat_eq, nat_le, option_map, IfSome, IsSomeAnd}
use Rattle.std.specs.Option.{option_map_or}
use Rattle.std.proofs.lemmas.Bool.{cases_lt, le-leb, lt-leb, le-ltb}
use Rattle.std.proofs.lemmas.List.Elements.{All-nil, All-cons}
use Rattle.circus_value.specs.ValueTree.{ValueTree}
use Rattle.circus_collate.specs.declared.view.View.{View}
use Rattle.circus_transfer.specs.declared.joiner.Joiner.{Joiner}
use Rattle.circus_model.specs.declared.signature.ProcedureShape.{ProcedureShape}
use Rattle.circus_record.specs.declared.record.MemberRecord.{MemberRecord}
use Rattle.circus_record.specs.declared.record.RunRecord.{RunRecord}
use Rattle.circus_gather.specs.Gathering.{reply_of, call_to_start}
use Rattle.circus_gather.specs.declared.held.HeldCall.{HeldCall}
use Rattle.circus_fanout.specs.Asking.{Asking}
use Rattle.circus_performing.specs.Performing.{is_active, last_count}
use Rattle.circus_performing.specs.Record.{start_of}
use Rattle.circus_member_rules.specs.declared.place.Place.{Place}
use Rattle.circus_member_rules.specs.declared.occurrence.AskName.{AskName}
use Rattle.circus_member_rules.specs.declared.occurrence.Effect.{Effect}
use Rattle.circus_member_rules.specs.declared.occurrence.Occurrence.{Occurrence}
use Rattle.circus_member_rules.specs.Step.{start_by_call}
use Rattle.circus_member_theory.specs.Past.{Past, followed, now, phase}
use Rattle.circus_member_theory.specs.Returns.{first_of, run_of}
use Rattle.circus_member_theory.specs.Returns as returns
use Rattle.circus_member_theory.specs.Timely.{collated_call, has_ended, is_free_for, may_start}
use Rattle.circus_dues.specs.Calls.{ends_among}
use Rattle.circus_dues.specs.Walk.{IsBy, IsNotBefore, StartOnward}
use Rattle.circus_dues.specs.declared.owing.Owing.{Owing}
use Rattle.circus_dues.specs.declared.walk.Walk.{Walk}
use Rattle.circus_dues.specs.Seen.Owing as owing
use Rattle.circus_dues.specs.Seen.Owing.{next_start, none_starts}
use Rattle.circus_dues.proofs.CallsPassing.{run_at}
use Rattle.circus_dues.proofs.CallsStarting.{fresh_amid, starts_by}
use Rattle.circus_dues.proofs.StepStartingOrder.{drop_there, drop_past, past_of, not_both, rest_of, not_before, later_end, all_later}
use Rattle.circus_dues.proofs.Stages.{IsGoingOn, IsAmid, Refuses, IsRefused, HaveStarted, StartOrAreRefused}

-- before the run of a number, none being under way
abbrev pub between : ℕ → Walk
between number = record { ended = number; asked = None }

module _ (place : Place) (boot : List View) (begins : Joiner) (first : List ValueTree) (procedures : List ProcedureShape) (at_boot : ℕ) (kept : MemberRecord) (p : Past) (at : ℕ) (o : Occurrence) where
  -- all runs below a number have ended, and that of the number has not started before
  pub record StandsBefore (number : ℕ) (before : List (AskName × Asking)) (d : Owing) : Type 0 where
    pub timely : d.is_timely ≡ true
    pub walk : d.walk ≡ between number
    pub few : number ≤ length kept.runs
    pub enough : at_boot ≤ number
    pub ended : (m : ℕ) (run : RunRecord) → m < number → slice_get kept.runs m ≡ Some run → IsBy at run.ended
    pub next : IfSome (slice_get kept.runs number) (λ (run : RunRecord). at ≤ run.started)
    pub amid : IsAmid place boot begins first procedures at_boot kept p at o before None d

module _ (place : Place) (boot : List View) (begins : Joiner) (first : List ValueTree) (procedures : List ProcedureShape) (at_boot : ℕ) (kept : MemberRecord) (p : Past) (at : ℕ) (o : Occurrence)
    (going : IsGoingOn place boot begins at_boot kept p at) where
  abbrev q : Past
  q = followed p at o

  abbrev Amid : List (AskName × Asking) → Option ℕ → Owing → Type 0
  Amid = IsAmid place boot begins first procedures at_boot kept p at o

  abbrev Before : ℕ → List (AskName × Asking) → Owing → Type 0
  Before = StandsBefore place boot begins first procedures at_boot kept p at o

  abbrev Started : ℕ → List (AskName × Asking) → Owing → List Effect → Owing → Type 0
  Started = HaveStarted place boot begins first procedures at_boot kept p at o

  abbrev StartedOrRefused : ℕ → List (AskName × Asking) → Owing → List Effect → Owing → Type 0
  StartedOrRefused = StartOrAreRefused place boot begins first procedures at_boot kept p at o

  -- the call by which the run of a number may start
  abbrev given : ℕ → Option HeldCall
  given number = may_start place boot begins kept number q

  -- ---- none is given

  -- whether the record says that the next one started
  says_so : (number : ℕ) (d : Owing) → d.walk.ended ≡ number → owing.starts_by kept d at ≡ option_map_or (λ (run : RunRecord). nat_le run.started at) (slice_get kept.runs number) false
  says_so number d same = ap (λ n. option_map_or (λ (run : RunRecord). nat_le run.started at) (slice_get kept.runs n) false) same

  nothing_starts : (number : ℕ) (before : List (AskName × Asking)) (d : Owing) → Before number before d
      → option_map_or (λ (run : RunRecord). nat_le run.started at) (slice_get kept.runs number) false ≡ false
      → All (λ (run : RunRecord). at < run.started) (drop number kept.runs) → StartOnward place boot begins procedures at_boot kept q number (drop number kept.runs)
      → Started number before d [] (none_starts kept at d)
  nothing_starts number before d s none later onward =
      record {
        starting = [];
        later = drop number kept.runs;
        are = refl;
        timely = ap (λ b. b && not (owing.starts_by kept d at)) s.timely ∙ ap not (says_so number d (ap (λ (w : Walk). w.ended) s.walk) ∙ none);
        start_now = All-nil (λ (run : RunRecord). run.started ≡ at);
        start_later = later;
        starts = onward;
        answered = tt;
        made = refl;
        requests = refl;
        stands = inl (record {
          end = All-nil (λ (run : RunRecord). run.ended ≡ Some at);
          walk = s.walk ∙ ap between still;
          amid = subst (λ l. Amid l None (none_starts kept at d)) (sym (append-nil before)) as_it_was;
        });
      }
    where
      still : number ≡ number + 0
      still = omega arith

      as_it_was : Amid before None (none_starts kept at d)
      as_it_was = (let a = s.amid in record { known = a.known; asks = a.asks; calls = a.calls; opens = a.opens; phase_is = a.phase_is; began_is = a.began_is })

  pub none_given : (number : ℕ) (before : List (AskName × Asking)) (d : Owing) → Before number before d → given number ≡ None → StartedOrRefused number before d [] (none_starts kept at d)
  none_given number before d s none = by_slot (slice_get kept.runs number) refl s.next
    where
      says : option_map_or (λ (run : RunRecord). nat_le run.started at) (slice_get kept.runs number) false ≡ true → Refuses place boot begins first procedures at_boot kept p at o → IsRefused place boot begins first procedures at_boot kept p at o (none_starts kept at d)
      says so refuses =
          record {
            untimely = ap (λ b. b && not (owing.starts_by kept d at)) s.timely ∙ ap not (says_so number d (ap (λ (w : Walk). w.ended) s.walk) ∙ so);
            refuses = refuses;
          }

      by_slot : (slot : Option RunRecord) → slice_get kept.runs number ≡ slot → IfSome slot (λ (run : RunRecord). at ≤ run.started) → StartedOrRefused number before d [] (none_starts kept at d)
      by_slot None is low =
          let past = drop_past kept.runs number is in
          inl (nothing_starts number before d s (ap (λ r. option_map_or (λ (run : RunRecord). nat_le run.started at) r false) is)
          (subst (All (λ (run : RunRecord). at < run.started)) (sym past) (All-nil (λ (run : RunRecord). at < run.started)))
          (subst (StartOnward place boot begins procedures at_boot kept q number) (sym past) none))
      by_slot (Some run) is low =
          elim (cases_lt at run.started) [
            | inl late ↦
                let later = later_end kept going.order number run is at late in
                inl (nothing_starts number before d s (ap (λ r. option_map_or (λ (run : RunRecord). nat_le run.started at) r false) is ∙ lt-leb run.started at late)
                (subst (All (λ (run : RunRecord). at < run.started)) (sym (drop_there kept.runs number run is))
                (All-cons (λ (run : RunRecord). at < run.started) run (rest_of kept going.order number run is) late (all_later kept going.order number run is at later)))
                (subst (StartOnward place boot begins procedures at_boot kept q number) (sym (drop_there kept.runs number run is))
                (record { starts_now = λ same. absurd (omega (arith, late, same)); not_yet = λ _. none }, λ early. absurd (not_both at run.ended later early))))
            | inr early ↦
                inr (says (ap (λ r. option_map_or (λ (run : RunRecord). nat_le run.started at) r false) is ∙ le-leb run.started at early)
                (λ g.
                let same : run.started ≡ at = omega (arith, low, early) in
                subst (λ c. IsSomeAnd c (λ (call : HeldCall). start_of run ≡ start_by_call place.troupe procedures call)) none ((g.step.starts number run s.enough is).starts_now same)))
          ]

  -- ---- what is given

  all_free : (number : ℕ) → number ≤ length kept.runs → ((m : ℕ) (run : RunRecord) → m < number → slice_get kept.runs m ≡ Some run → IsBy at run.ended) → is_free_for place boot begins kept number q ≡ true
  all_free zero few ended = refl
  all_free (suc m) few ended = by_slot (slice_get kept.runs m) refl
    where
      by_end : (n : Option ℕ) → IsBy at n → option_map_or (λ step. nat_le step at) n false ≡ true
      by_end None early = absurd early
      by_end (Some n) early = le-leb n at early

      by_slot : (slot : Option RunRecord) → slice_get kept.runs m ≡ slot → option_map_or (λ run. has_ended place boot begins run q) (slice_get kept.runs m) false ≡ true
      by_slot None is = absurd (let past = past_of kept.runs m is in omega (arith, few, past))
      by_slot (Some run) is = ap (λ r. option_map_or (λ run. has_ended place boot begins run q) r false) is ∙ by_end run.ended (ended m run (omega arith) is)

  map_where : {X Y : Type 0} (f : X → Y) (b : Bool) (x : Option X) → (if b then option_map f x else None) ≡ option_map f (if b then x else None)
  map_where f true x = refl
  map_where f false x = refl

  -- none is to a member that isn't active
  pub none_inactive : (number : ℕ) → is_active (phase begins q) ≡ false → given number ≡ None
  none_inactive number inactive =
      ap (λ b. if b && is_free_for place boot begins kept number q && nat_le (kept.from + number) last_count then collated_call place boot begins (kept.from + number) q else None) inactive

  module _ (active : is_active (phase begins q) ≡ true) (from_is : kept.from ≡ first_of (phase begins q)) where
    module _ (number : ℕ) (before : List (AskName × Asking)) (d : Owing) (s : Before number before d) where
      same : d.walk.ended ≡ number
      same = ap (λ (w : Walk). w.ended) s.walk

      given_is : given number ≡ (if nat_le (kept.from + number) last_count then collated_call place boot begins (kept.from + number) q else None)
      given_is =
          ap (λ b. if b && is_free_for place boot begins kept number q && nat_le (kept.from + number) last_count then collated_call place boot begins (kept.from + number) q else None) active
          ∙ ap (λ b. if b && nat_le (kept.from + number) last_count then collated_call place boot begins (kept.from + number) q else None) (all_free number s.few s.ended)

      fresh : reply_of d.calls.gathered (kept.from + number) ≡ None
      fresh = fresh_amid place.troupe begins kept p at o (ends_among kept at d.walk.ended) d.calls.gathered s.amid.calls (kept.from + number) not_done goes
        where
          not_done : ends_among kept at d.walk.ended (kept.from + number) ≡ false
          not_done =
              ap (λ b. b && option_map_or (λ (run : RunRecord). option_map_or (nat_eq at) run.ended false) (run_of kept (kept.from + number)) false)
              (le-ltb (kept.from + number) (kept.from + d.walk.ended) (omega (arith, same)))

          by_end : (n : Option ℕ) → IsNotBefore at n → option_map_or (λ step. nat_le step (now p)) n false ≡ false
          by_end None high = refl
          by_end (Some n) high = (let later = going.later in lt-leb n (now p) (omega (arith, high, later)))

          goes : (run : RunRecord) → run_of kept (kept.from + number) ≡ Some run → returns.has_ended run p ≡ false
          goes run is =
              let there = sym (run_at kept number) ∙ is in
              by_end run.ended (not_before kept going.order number run there at (subst (λ r. IfSome r (λ (run : RunRecord). at ≤ run.started)) there s.next))

      call_is : call_to_start d.calls.gathered d.out.known.views d.out.known.down place.calls (kept.from + number) ≡ collated_call place boot begins (kept.from + number) q
      call_is =
          let seen = s.amid.known.seen in
          let first_is = s.amid.calls.from in
          (λ j. call_to_start d.calls.gathered (seen.views j) (seen.down j) place.calls (kept.from + number))
          ∙ starts_by place boot begins kept p at o going.rises going.later (ends_among kept at d.walk.ended) d.calls.gathered s.amid.calls (kept.from + number) fresh (omega (arith, first_is, from_is))

      -- the next start is by the call that is given
      pub next_is : next_start place kept procedures d ≡ option_map (start_by_call place.troupe procedures) (given number)
      next_is =
          let by_call = option_map (start_by_call place.troupe procedures) in
          ap (λ n. if nat_le (kept.from + n) last_count then by_call (call_to_start d.calls.gathered d.out.known.views d.out.known.down place.calls (kept.from + n)) else None) same
          ∙ ap (λ c. if nat_le (kept.from + number) last_count then by_call c else None) call_is
          ∙ map_where (start_by_call place.troupe procedures) (nat_le (kept.from + number) last_count) (collated_call place boot begins (kept.from + number) q)
          ∙ ap by_call (sym given_is)
