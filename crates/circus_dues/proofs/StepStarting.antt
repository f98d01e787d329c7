-- The next runs of a record start in a step, one behind the other, as the collator gives calls for them: all that do end in it, but for the last.
use Rattle.std.proofs.Common.{◌≡◌, ℕ, zero, suc, ◌+◌, ◌<◌, ◌≤◌, ◌⊎◌, inl, inr, Bool, true, false, true≢false, ◌&&◌, if◌then◌else◌, List, [], ◌++◌, length, Option, None, Some, refl, sym, ap, subst, ◌∙◌, arith}
use Rattle.std.specs.Prelude.{slice_get, is_none, option_map, IfSome, IsSomeAnd}
use Rattle.std.specs.Option.{option_map_or}
use Rattle.std.proofs.lemmas.Bool.{cases_lt}
use Rattle.std.proofs.lemmas.Option.{slice_get_within}
use Rattle.circus_value.specs.ValueTree.{ValueTree}
use Rattle.circus_collate.specs.declared.view.View.{View}
use Rattle.circus_transfer.specs.declared.joiner.Joiner.{Joiner}
use Rattle.circus_model.specs.declared.signature.ProcedureShape.{ProcedureShape}
use Rattle.circus_record.specs.declared.record.MemberRecord.{MemberRecord}
use Rattle.circus_record.specs.declared.record.RunRecord.{RunRecord}
use Rattle.circus_gather.specs.declared.held.HeldCall.{HeldCall}
use Rattle.circus_fanout.specs.Asking.{Asking}
use Rattle.circus_performing.specs.declared.start.RunStart.{RunStart}
use Rattle.circus_performing.specs.Performing.{is_active}
use Rattle.circus_performing.specs.Record.{start_of}
use Rattle.circus_member_rules.specs.declared.place.Place.{Place}
use Rattle.circus_member_rules.specs.declared.occurrence.AskName.{AskName}
use Rattle.circus_member_rules.specs.declared.occurrence.Effect.{Effect}
use Rattle.circus_member_rules.specs.declared.occurrence.Occurrence.{Occurrence}
use Rattle.circus_member_rules.specs.Step.{start_by_call}
use Rattle.circus_member_theory.specs.Past.{Past, followed, phase}
use Rattle.circus_member_theory.specs.Returns.{first_of}
use Rattle.circus_member_theory.specs.Timely.{may_start}
use Rattle.circus_dues.specs.Walk.{IsBy, AskOneByOne}
use Rattle.circus_dues.specs.declared.owing.Owing.{Owing}
use Rattle.circus_dues.specs.declared.walk.Walk.{Walk}
use Rattle.circus_dues.specs.Seen.Owing.{untimely, may_enter, left_of, begun, passed, made_by_pass, entered, made_entering, none_starts, entered_all, made_entering_all, started_runs, made_starting_runs}
use Rattle.circus_dues.specs.Seen.Steps.{is_entered}
use Rattle.circus_headline_theory.proofs.One.{none_is_some}
use Rattle.circus_dues.proofs.Entering.{and_false, none_entered, none_made, none_starting, none_made_starting, all_started, all_made, one_entered, one_made}
use Rattle.circus_dues.proofs.StepPassing.{passes}
use Rattle.circus_dues.proofs.StepStartingNext.{StandsBefore, none_given, none_inactive, next_is}
use Rattle.circus_dues.proofs.StepStartingOne.{amid_begun, last_waits, others_start, stands_next}
use Rattle.circus_dues.proofs.StepStartingOrder.{past_of, entered_so, so_entered, order_at, not_before}
use Rattle.circus_dues.proofs.Stages.{IsGoingOn, IsAmid, Refuses, IsRefused, EndsNow, WaitsNow, GoesOrIsRefused, StartOrAreRefused, new_of}

module _ (place : Place) (boot : List View) (begins : Joiner) (first : List ValueTree) (procedures : List ProcedureShape) (at_boot : ℕ) (kept : MemberRecord) (p : Past) (at : ℕ) (o : Occurrence)
    (going : IsGoingOn place boot begins at_boot kept p at) where
  abbrev q : Past
  q = followed p at o

  abbrev Before : ℕ → List (AskName × Asking) → Owing → Type 0
  Before = StandsBefore place boot begins first procedures at_boot kept p at o

  abbrev Refused : Owing → Type 0
  Refused = IsRefused place boot begins first procedures at_boot kept p at o

  abbrev StartedOrRefused : ℕ → List (AskName × Asking) → Owing → List Effect → Owing → Type 0
  StartedOrRefused = StartOrAreRefused place boot begins first procedures at_boot kept p at o

  abbrev new : ℕ → RunRecord → List (AskName × Asking)
  new = new_of place boot begins first procedures at_boot kept p at o

  -- the call by which the run of a number may start
  abbrev given : ℕ → Option HeldCall
  given number = may_start place boot begins kept number q

  -- what is made, and kept, as runs start
  abbrev made_on : Owing → List Effect
  made_on d = made_entering_all place kept at procedures (left_of kept d) d

  abbrev kept_on : Owing → Owing
  kept_on d = entered_all place kept at procedures (left_of kept d) d

  -- those behind a run start, or are refused
  abbrev Onward : ℕ → Type 0
  Onward number = (before : List (AskName × Asking)) (d : Owing) → Before number before d → StartedOrRefused number before d (made_on d) (kept_on d)

  -- the same, said of what is equal
  moved : (number : ℕ) (before : List (AskName × Asking)) (d : Owing) (made other : List Effect) (e f : Owing) → made ≡ other → e ≡ f → StartedOrRefused number before d made e → StartedOrRefused number before d other f
  moved number before d made other e f same so is = subst (λ l. StartedOrRefused number before d l f) same (subst (StartedOrRefused number before d made) so is)

  -- one that is refused stays so
  stays_refused : (number : ℕ) (before : List (AskName × Asking)) (d : Owing) (made : List Effect) (e : Owing) → Refused e → StartedOrRefused number before d made (kept_on e)
  stays_refused number before d made e r = inr (subst Refused (sym (none_entered place kept at procedures (left_of kept e) e (ap (λ b. b && is_none e.walk.asked) r.untimely))) r)

  module _ (active : is_active (phase begins q) ≡ true) (from_is : kept.from ≡ first_of (phase begins q)) where
    module _ (number : ℕ) (before : List (AskName × Asking)) (d : Owing) (s : Before number before d) where
      same : d.walk.ended ≡ number
      same = ap (λ (w : Walk). w.ended) s.walk

      may : may_enter d ≡ true
      may = ap (λ b. b && is_none d.walk.asked) s.timely ∙ ap (λ (w : Walk). is_none w.asked) s.walk

      -- what is entered, by the run that is there
      entered_is : (start : RunStart) (slot : Option RunRecord) → slice_get kept.runs number ≡ slot
          → entered place kept at d start ≡ option_map_or (λ (run : RunRecord). if is_entered run at start then passed place kept at (begun kept d) run 0 else untimely d) slot (untimely d)
      entered_is start slot is =
          let by_run : RunRecord → Owing = λ run. if is_entered run at start then passed place kept at (begun kept d) run 0 else untimely d in
          ap (λ n. option_map_or by_run (slice_get kept.runs n) (untimely d)) same ∙ ap (λ r. option_map_or by_run r (untimely d)) is

      made_is : (start : RunStart) (run : RunRecord) → slice_get kept.runs number ≡ Some run → is_entered run at start ≡ true
          → made_entering place kept at d start ≡ made_by_pass place kept at (begun kept d) run 0
      made_is start run is test =
          let by_run : RunRecord → List Effect = λ run. if is_entered run at start then made_by_pass place kept at (begun kept d) run 0 else [] in
          ap (λ n. option_map_or by_run (slice_get kept.runs n) []) same ∙ ap (λ r. option_map_or by_run r []) is ∙ ap (λ b. if b then made_by_pass place kept at (begun kept d) run 0 else []) test

      -- a call is given, and there is no run that was entered by it in the step
      refused_entry : (start : RunStart) → entered place kept at d start ≡ untimely d → Refuses place boot begins first procedures at_boot kept p at o
          → StartedOrRefused number before d (made_entering place kept at d start ++ made_on (entered place kept at d start)) (kept_on (entered place kept at d start))
      refused_entry start is refuses =
          stays_refused number before d (made_entering place kept at d start ++ made_on (entered place kept at d start)) (entered place kept at d start)
          (record { untimely = ap (λ (x : Owing). x.is_timely) is; refuses = refuses })

      -- it goes on from its first ask
      goes_on : (run : RunRecord) (there : slice_get kept.runs number ≡ Some run) (call : HeldCall) → given number ≡ Some call → run.started ≡ at → start_of run ≡ start_by_call place.troupe procedures call
          → Onward (suc number)
          → (effects : List Effect) (e : Owing) → GoesOrIsRefused place boot begins first procedures at_boot kept p at o number run before (begun kept d) effects e
          → StartedOrRefused number before d (effects ++ made_on e) (kept_on e)
      goes_on run there call gives started so onward effects e (inr r) = stays_refused number before d (effects ++ made_on e) e r
      goes_on run there call gives started so onward effects e (inl h) = by_end h.stands
        where
          by_others : run.ended ≡ Some at → StartedOrRefused (suc number) (before ++ new number run) e (made_on e) (kept_on e) → StartedOrRefused number before d (effects ++ made_on e) (kept_on e)
          by_others ends (inl k) = inl (others_start place boot begins first procedures at_boot kept p at o going number run there call gives started so before d effects e h (kept_on e) (made_on e) ends k)
          by_others ends (inr r) = inr r

          by_end : EndsNow place boot begins first procedures at_boot kept p at o number run (before ++ new number run) e ⊎ WaitsNow place boot begins first procedures at_boot kept p at o number run (before ++ new number run) e
              → StartedOrRefused number before d (effects ++ made_on e) (kept_on e)
          by_end (inl n) = by_others n.ends (onward (before ++ new number run) e (stands_next place boot begins first procedures at_boot kept p at o going number run there call gives started so before d effects e h s n))
          by_end (inr w) =
              let stop = ap (λ (x : Walk). e.is_timely && is_none x.asked) w.walk ∙ and_false e.is_timely in
              moved number before d (effects ++ []) (effects ++ made_on e) e (kept_on e) (ap (λ l. effects ++ l) (sym (none_made place kept at procedures (left_of kept e) e stop)))
              (sym (none_entered place kept at procedures (left_of kept e) e stop)) (inl (last_waits place boot begins first procedures at_boot kept p at o going number run there call gives started so before d effects e h w))

      -- one is entered by a call that is given
      by_call : ((run : RunRecord) → slice_get kept.runs number ≡ Some run → Onward (suc number))
          → (call : HeldCall) → given number ≡ Some call → (slot : Option RunRecord) → slice_get kept.runs number ≡ slot → IfSome slot (λ (run : RunRecord). at ≤ run.started)
          → let start = start_by_call place.troupe procedures call in
          StartedOrRefused number before d (made_entering place kept at d start ++ made_on (entered place kept at d start)) (kept_on (entered place kept at d start))
      by_call onward call gives None is low =
          refused_entry (start_by_call place.troupe procedures call) (entered_is (start_by_call place.troupe procedures call) None is)
          (λ g.
          let few = s.few in
          let enough = s.enough in
          let past = past_of kept.runs number is in
          let last : number ≡ length kept.runs = omega (arith, few, past) in
          none_is_some (given number) call (ap given last ∙ g.step.no_more (omega (arith, few, enough))) gives)
      by_call onward call gives (Some run) is low = by_test (is_entered run at (start_by_call place.troupe procedures call)) refl
        where
          start : RunStart
          start = start_by_call place.troupe procedures call

          by_test : (b : Bool) → is_entered run at start ≡ b → StartedOrRefused number before d (made_entering place kept at d start ++ made_on (entered place kept at d start)) (kept_on (entered place kept at d start))
          by_test false other =
              refused_entry start (entered_is start (Some run) is ∙ ap (λ b. if b then passed place kept at (begun kept d) run 0 else untimely d) other)
              (λ g.
              let then_so = g.step.starts number run s.enough is in
              elim (cases_lt at run.started) [
                | inl late ↦ none_is_some (given number) call (then_so.not_yet late) gives
                | inr early ↦
                    let now_so : run.started ≡ at = omega (arith, low, early) in
                    true≢false
                    (sym (so_entered run at start now_so (subst (λ c. IsSomeAnd c (λ (call : HeldCall). start_of run ≡ start_by_call place.troupe procedures call)) gives (then_so.starts_now now_so)))
                    ∙ other)
              ])
          by_test true test =
              let so = entered_so run at start test in
              let e = passed place kept at (begun kept d) run 0 in
              let e_is = entered_is start (Some run) is ∙ ap (λ b. if b then e else untimely d) test in
              moved number before d (made_by_pass place kept at (begun kept d) run 0 ++ made_on e) (made_entering place kept at d start ++ made_on (entered place kept at d start)) (kept_on e) (kept_on (entered place kept at d start))
              (λ j. sym (made_is start run is test) j ++ made_on (sym e_is j)) (ap kept_on (sym e_is))
              (goes_on run is call gives so.0 so.1 (onward run is) (made_by_pass place kept at (begun kept d) run 0) e
              (passes place boot begins first procedures at_boot kept p at o going number run is (let now_so = so.0 in omega (arith, now_so)) (not_before kept going.order number run is at low) [] run.asks refl
              (subst (λ n. AskOneByOne n run.asks) so.0 (order_at kept going.order number run is).1.1.asks_so) so.0 refl (λ a. a) before (begun kept d) s.timely same (amid_begun place boot begins first procedures at_boot kept p at o going number run before d is same s.amid)))

      -- one starts, and those behind it, or none
      one : ((run : RunRecord) → slice_get kept.runs number ≡ Some run → Onward (suc number))
          → StartedOrRefused number before d (made_on d) (kept_on d)
      one onward = by_given (given number) refl
        where
          by_given : (c : Option HeldCall) → given number ≡ c → StartedOrRefused number before d (made_on d) (kept_on d)
          by_given None none =
              let next = next_is place boot begins first procedures at_boot kept p at o going active from_is number before d s ∙ ap (option_map (start_by_call place.troupe procedures)) none in
              moved number before d [] (made_on d) (none_starts kept at d) (kept_on d) (sym (none_made_starting place kept at procedures d may next)) (sym (none_starting place kept at procedures d may next))
              (none_given place boot begins first procedures at_boot kept p at o going number before d s none)
          by_given (Some call) gives =
              let start = start_by_call place.troupe procedures call in
              let e = entered place kept at d start in
              let next = next_is place boot begins first procedures at_boot kept p at o going active from_is number before d s ∙ ap (option_map (start_by_call place.troupe procedures)) gives in
              moved number before d (made_entering place kept at d start ++ made_on e) (made_on d) (kept_on e) (kept_on d) (sym (one_made place kept at procedures d start may next)) (sym (one_entered place kept at procedures d start may next))
              (by_call onward call gives (slice_get kept.runs number) refl s.next)

    -- one behind the other, as many as are left
    each : (more number : ℕ) → length kept.runs ≤ number + more → Onward number
    each zero number long before d s = one number before d s (λ run there. absurd (let below = slice_get_within kept.runs number run there in omega (arith, long, below)))
    each (suc more) number long before d s = one number before d s (λ run there. each more (suc number) (omega (arith, long)))

  -- ---- those that start

  pub starts : (before : List (AskName × Asking)) (d : Owing) → d.is_timely ≡ true → (number : ℕ) → d.walk ≡ record { ended = number; asked = None } → number ≤ length kept.runs → at_boot ≤ number
      → ((m : ℕ) (run : RunRecord) → m < number → slice_get kept.runs m ≡ Some run → IsBy at run.ended) → IfSome (slice_get kept.runs number) (λ (run : RunRecord). at ≤ run.started)
      → IsAmid place boot begins first procedures at_boot kept p at o before None d → (is_active (phase begins q) ≡ true → kept.from ≡ first_of (phase begins q))
      → StartOrAreRefused place boot begins first procedures at_boot kept p at o number before d (made_starting_runs place kept at procedures d) (started_runs place kept at procedures d)
  starts before d timely number walk few enough ended next amid from_is = by_active (is_active (phase begins q)) refl
    where
      s : Before number before d
      s = record { timely = timely; walk = walk; few = few; enough = enough; ended = ended; next = next; amid = amid }

      by_active : (b : Bool) → is_active (phase begins q) ≡ b → StartedOrRefused number before d (made_starting_runs place kept at procedures d) (started_runs place kept at procedures d)
      by_active true is =
          let active = ap is_active amid.phase_is ∙ is in
          moved number before d (made_on d) (made_starting_runs place kept at procedures d) (kept_on d) (started_runs place kept at procedures d) (sym (all_made place kept at procedures d active)) (sym (all_started place kept at procedures d active))
          (each is (from_is is) (length kept.runs) number (omega arith) before d s)
      by_active false is =
          let inactive = ap is_active amid.phase_is ∙ is in
          moved number before d [] (made_starting_runs place kept at procedures d) (none_starts kept at d) (started_runs place kept at procedures d)
          (sym (ap (λ b. if b then made_on d else []) inactive)) (sym (ap (λ b. if b then kept_on d else none_starts kept at d) inactive))
          (none_given place boot begins first procedures at_boot kept p at o going number before d s (none_inactive place boot begins first procedures at_boot kept p at o going number is))
