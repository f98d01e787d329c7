-- The record of the member of a node run may stand in a record of the node.
use Rattle.std.specs.List.{AllByRecursion}
use Rattle.std.specs.Prelude.{slice_get, slice_set, slice_index, min, IsSomeAnd, if◌then◌else◌}
use Rattle.std.proofs.Common.{◌≡◌, ℕ, zero, suc, ◌+◌, ◌<◌, ◌≤◌, ◌^◌, ◌⊎◌, inl, inr, Bool, true, false, List, [], ◌∷◌, map, length, Option, None, Some, refl, sym, ap, subst, ◌∙◌, arith, append-nil, length-set}
use Rattle.std.proofs.lemmas.Bool.{cases_lt}
use Rattle.std.proofs.lemmas.Option.{same_Some}
use Rattle.circus_limits.specs.Limits.{most_asks}
use Rattle.circus_value.specs.Fits.{all_fit}
use Rattle.circus_value.specs.ValueTree.{ValueTree}
use Rattle.circus_header.specs.declared.answer.Reply.{Reply}
use Rattle.circus_collate.specs.declared.deployment.Troupe.{Troupe}
use Rattle.circus_collate.specs.declared.view.View.{View}
use Rattle.circus_ring.specs.RingTable.{boot_views}
use Rattle.circus_ring.proofs.Booting.{length_boot}
use Rattle.circus_transfer.specs.declared.joiner.Joiner.{Joiner}
use Rattle.circus_transfer.specs.declared.joiner.Joiner.TheVariants.{Outside, Active}
use Rattle.circus_model.specs.Behaviour.{Behaviour, IsModule}
use Rattle.circus_model.proofs.Lookups.{grown, old_or_added, at_end, within}
use Rattle.circus_config.specs.declared.plan.Plan.{Plan}
use Rattle.circus_record.specs.declared.record.AskRecord.{AskRecord}
use Rattle.circus_record.specs.declared.record.MemberRecord.{MemberRecord}
use Rattle.circus_record.specs.declared.record.RunRecord.{RunRecord}
use Rattle.circus_gather.specs.declared.held.HeldCall.{HeldCall}
use Rattle.circus_performing.specs.declared.start.RunStart.{RunStart}
use Rattle.circus_performing.specs.Performing.{is_active, state_after, last_count}
use Rattle.circus_performing.specs.Record.{start_of, IsOpen, IsIdle, IsPerforming}
use Rattle.circus_performing.specs.Record as records
use Rattle.circus_performing.proofs.Records.{none_is_some}
use Rattle.circus_member_rules.specs.declared.place.Beginning.{Beginning}
use Rattle.circus_member_rules.specs.declared.place.Beginning.TheVariants.{Founder, Spare}
use Rattle.circus_member_rules.specs.declared.place.Place.{Place}
use Rattle.circus_member_rules.specs.declared.occurrence.AskName.{AskName}
use Rattle.circus_member_rules.specs.declared.occurrence.Occurrence.{Occurrence}
use Rattle.circus_member_rules.specs.declared.occurrence.Occurrence.TheVariants as comes
use Rattle.circus_member_rules.specs.Step.{start_by_call}
use Rattle.circus_node.specs.Accepting.{is_root}
use Rattle.circus_node.specs.Booting.{beginning_in, home_in, IsOfTroupe}
use Rattle.circus_node.specs.Trace.{Trace}
use Rattle.circus_member_theory.specs.First.{first_given}
use Rattle.circus_member_theory.specs.Past.{Past, snapshot_fetched}
use Rattle.circus_member_theory.specs.Living.{phase_at_boot}
use Rattle.circus_member_theory.specs.Timely.{may_start, may_answer, ShowsAnswer, IsMain}
use Rattle.circus_headline_theory.specs.NodeRun.{past_of, state_at_activation, runs_at_boot, IsNodeRun}
use Rattle.circus_headline_theory.specs.Trace.{now}
use Rattle.circus_headline_theory.proofs.One.{none_given}
use Rattle.circus_headline_theory.proofs.Owed.Arriving.{first_low}
use Rattle.circus_audit.specs.Possible.{AreLongs, IsClock, IsStep, IsAsk, IsEnded, IsWaiting, AreRuns, IsActive}
use Rattle.circus_verdict.proofs.Possible.Activation.{active_as, IsActiveFrom, active_from}
use Rattle.circus_verdict.proofs.Possible.Hearing.{RisesSo}
use Rattle.circus_verdict.proofs.Possible.Occurring.{IsWell}
use Rattle.circus_verdict.proofs.Possible.Pasts.{Each, snapshot_holds, given_at, run_started_by, ask_answered_by}
use Rattle.circus_verdict.proofs.Possible.Performed.{StartsWell, ShowsWell, ShowWell, each_from, has_ended, is_waiting, waiting_state, asks_ended, asks_open}

-- ---- clocks

longs_set : (clock : List ℕ) (k n : ℕ) → n < 2 ^ 32 → AreLongs clock → AreLongs (slice_set clock k n)
longs_set [] k n low are = tt
longs_set (m ∷ clock) zero n low are = (low, are.1)
longs_set (m ∷ clock) (suc k) n low are = (are.0, longs_set clock k n low are.1)

abbrev none_of : View → ℕ
none_of view = 0

zeros_long : (views : List View) → AreLongs (map none_of views)
zeros_long [] = tt
zeros_long (view ∷ views) = (omega arith, zeros_long views)

zeros_many : (views : List View) → length (map none_of views) ≡ length views
zeros_many [] = refl
zeros_many (view ∷ views) = ap suc (zeros_many views)

module _ (plan : Plan) (named : length plan.names ≡ length plan.deployment.troupes) (b : Behaviour) (lawful : IsModule b) (node number : ℕ) (troupe : Troupe)
    (of_troupe : IsOfTroupe plan.deployment number b.declared) (kept : MemberRecord) (t : Trace) (run : IsNodeRun plan.deployment b node number troupe t kept) where
  abbrev p : Past
  p = past_of plan.deployment b node number troupe kept t

  abbrev Well : Occurrence → Type 0
  Well o = IsWell plan named b.declared node number kept o

  abbrev place : Place
  place = (home_in plan.deployment node number troupe).place

  abbrev boot : List View
  boot = boot_views plan.deployment.troupes

  abbrev begins : Joiner
  begins = phase_at_boot (beginning_in troupe node)

  abbrev at_boot : ℕ
  at_boot = runs_at_boot plan.deployment b node number troupe

  module _ (well : Each Well p) (rising : RisesSo plan named b node number troupe kept t) (events : ℕ) (all : events ≡ now t + 1) where
    -- what was given first came in the step of an event
    in_time : {A : Type 0} (gives : Past → Option A) (given : ℕ × A) (step : ℕ) → first_given gives p ≡ Some given → step ≡ given.0 → IsStep plan b.declared events step
    in_time gives given step some is =
        let low = first_low gives p rising.rises given some in
        let before = rising.before in
        omega (arith, low, before, all, is)

    -- ---- how a run was started

    by_main : (run_ : RunRecord) → b.declared.root ≡ true → IsMain number boot run_ → StartsWell plan b lawful events run_
    by_main run_ root main =
        record {
          root = ap (λ (s : RunStart). is_root plan.deployment s.root) main.1 ∙ sym of_troupe.root ∙ root;
          path = subst (AllByRecursion (λ n. n < 2 ^ 16)) (sym (ap (λ (s : RunStart). s.path) main.1)) tt;
          clock =
              subst (IsClock plan) (sym (ap (λ (s : RunStart). s.clock) main.1))
              (zeros_many boot ∙ length_boot plan.deployment.troupes ∙ sym named, zeros_long boot);
          started = (let at = main.0 in omega (arith, at, all));
        }

    by_call : (run_ : RunRecord) (given : ℕ × HeldCall) → Well (comes.Asked given.1.header given.1.body given.1.sender) → IsStep plan b.declared events run_.started
        → start_of run_ ≡ start_by_call number b.declared.procedures given.1 → StartsWell plan b lawful events run_
    by_call run_ given came step is =
        let clock = given.1.header.clock in
        record {
          root = ap (λ (s : RunStart). is_root plan.deployment s.root) is ∙ came.root;
          path = subst (AllByRecursion (λ n. n < 2 ^ 16)) (sym (ap (λ (s : RunStart). s.path) is)) came.path;
          clock =
              subst (IsClock plan) (sym (ap (λ (s : RunStart). s.clock) is))
              (length-set clock number (min (slice_index clock number + 1) last_count) ∙ came.clock.0, longs_set clock number (min (slice_index clock number + 1) last_count) (omega arith) came.clock.1);
          started = step;
        }

    root_at_boot : (n : ℕ) → n < at_boot → (b.declared.root ≡ true) × (n ≡ 0) × (is_active begins ≡ true)
    root_at_boot n low = by_tests (is_active begins) refl b.declared.root refl low
      where
        by_tests : (active : Bool) → is_active begins ≡ active → (root : Bool) → b.declared.root ≡ root → n < (if active then (if root then 1 else 0) else 0)
            → (b.declared.root ≡ true) × (n ≡ 0) × (is_active begins ≡ true)
        by_tests true active true root less = (root, omega (arith, less), active)
        by_tests true active false root less = absurd (omega (arith, less))
        by_tests false active root is less = absurd (omega (arith, less))

    -- ---- from which call on the member is active

    pub record BeginsWell : Type 0 where
      pub from : kept.from ≤ last_count
      pub active_at : IsStep plan b.declared events kept.active_at

    from_boot : first_given (snapshot_fetched begins) p ≡ None → BeginsWell
    from_boot none =
        let both = run.from_first none in
        let from = both.0 in
        let at = both.1 in
        record { from = omega (arith, from); active_at = omega (arith, at, all) }

    begins_well : BeginsWell
    begins_well = by_given (is_active begins) refl (first_given (snapshot_fetched begins) p) refl
      where
        by_given : (active : Bool) → is_active begins ≡ active → (o : Option (ℕ × (List ValueTree × ℕ))) → first_given (snapshot_fetched begins) p ≡ o → BeginsWell
        by_given true active o is = from_boot (none_given begins active p)
        by_given false active None none = from_boot none
        by_given false active (Some g) some =
            let a = run.timely.active active g.0 g.1.0 g.1.1 some in
            let at = given_at Well (snapshot_fetched begins) p g well some in
            let few : g.1.1 ≤ last_count = (snapshot_holds Well begins at.at g.1.0 g.1.1 at.each at.is).0 in
            let from = a.1 in
            record { from = omega (arith, few, from); active_at = in_time (snapshot_fetched begins) g kept.active_at some a.0 }

    is_first : (since : ℕ) → kept.phase ≡ Active since → since ≡ kept.from
    is_first since phase_is = by_cause (active_from begins since p (sym run.timely.phase_is ∙ phase_is))
      where
        by_beginning : (x : Beginning) → phase_at_boot x ≡ Active since → since ≡ 0
        by_beginning Founder is = active_as since 0 (sym is)
        by_beginning Spare is = absurd (let clash : ◌≡◌ {A = Joiner} Outside (Active since) = is in cc)

        by_active : (step : ℕ) (state : List ValueTree) → first_given (snapshot_fetched begins) p ≡ Some (step, (state, since)) → (active : Bool) → is_active begins ≡ active → since ≡ kept.from
        by_active step state some true active = absurd (none_is_some (sym (none_given begins active p) ∙ some))
        by_active step state some false active = sym (run.timely.active active step state since some).1

        by_cause : IsActiveFrom begins since p → since ≡ kept.from
        by_cause (inl is) =
            by_beginning (beginning_in troupe node) is ∙ sym (run.from_first (none_given begins (ap is_active is) p)).0
        by_cause (inr is) = by_active is.0 is.1 is.2 (is_active begins) refl

    -- ---- the runs

    pub record RunsWell (n : ℕ) (run_ : RunRecord) : Type 0 where
      pub starts : StartsWell plan b lawful events run_
      pub few : kept.from + n ≤ last_count

    starts_well : (n : ℕ) (run_ : RunRecord) → slice_get kept.runs n ≡ Some run_ → RunsWell n run_
    starts_well n run_ at = by_number (cases_lt n at_boot)
      where
        at_first : n < at_boot → RunsWell n run_
        at_first low =
            let r = root_at_boot n low in
            let main : IsMain number boot run_ = subst (λ (o : Option RunRecord). IsSomeAnd o (IsMain number boot)) at (run.timely.boots n low) in
            let from = begins_well.from in
            let zero_is = r.1 in
            record { starts = by_main run_ r.0 main; few = omega (arith, from, zero_is) }

        by_given : (o : Option (ℕ × HeldCall)) → first_given (may_start place boot begins kept n) p ≡ o
            → IsSomeAnd o (λ given. (run_.started ≡ given.0) × (start_of run_ ≡ start_by_call number b.declared.procedures given.1)) → RunsWell n run_
        by_given None none is = absurd is
        by_given (Some given) some is =
            let s = run_started_by Well place boot begins kept n p given well some in
            record { starts = by_call run_ given s.came (in_time (may_start place boot begins kept n) given run_.started some is.0) is.1; few = s.few }

        by_number : (n < at_boot) ⊎ (at_boot ≤ n) → RunsWell n run_
        by_number (inl low) = at_first low
        by_number (inr enough) = by_given (first_given (may_start place boot begins kept n) p) refl (run.timely.starts n run_ enough at)

    shows_well : (n : ℕ) (run_ : RunRecord) → slice_get kept.runs n ≡ Some run_ → ShowWell plan b lawful events run_ run_.asks
    shows_well n run_ at k ask there left =
        by_given (first_given (may_answer place boot begins name ask) p) refl (run.timely.answers n k run_ ask at there left)
      where
        name : AskName
        name = record { run = kept.from + n; ask = k }

        by_given : (o : Option (ℕ × Reply)) → first_given (may_answer place boot begins name ask) p ≡ o → ShowsAnswer ask o → ShowsWell plan b lawful events ask
        by_given None none is =
            record { clock = λ after shown. absurd (none_is_some (sym is.2 ∙ shown)); step = λ answered shown. absurd (none_is_some (sym is.0 ∙ shown)) }
        by_given (Some given) some is =
            let said = ask_answered_by Well place boot begins name ask p given well some in
            record {
              clock = λ after shown. subst (IsClock plan) (same_Some given.1.clock after (sym is.2 ∙ shown)) said.1.clock;
              step = λ answered shown. in_time (may_answer place boot begins name ask) given answered some (sym (same_Some given.0 answered (sym is.0 ∙ shown)));
            }

    ended_well : (state : List ValueTree) (n : ℕ) (run_ : RunRecord) → slice_get kept.runs n ≡ Some run_ → records.HasEnded b state run_ → IsEnded plan b.declared events run_
    ended_well state n run_ at is = has_ended plan b lawful events state run_ (starts_well n run_ at).starts is (shows_well n run_ at)

    pub few_runs : kept.from + length kept.runs ≤ last_count + 1
    few_runs = by_length (length kept.runs) refl
      where
        by_length : (n : ℕ) → length kept.runs ≡ n → kept.from + n ≤ last_count + 1
        by_length zero is = (let from = begins_well.from in omega (arith, from))
        by_length (suc n) is =
            let last = within kept.runs n (omega (arith, is)) in
            let few = (starts_well n last.0 last.1).few in
            omega (arith, few)

    abbrev began : List ValueTree
    began = state_at_activation plan.deployment b node number troupe kept t

    idle_runs : IsIdle b began kept → AreRuns plan b.declared events kept.from kept.count kept.runs
    idle_runs idle =
        record {
          ended = kept.runs;
          last = [];
          are = sym (append-nil kept.runs);
          each = each_from (IsEnded plan b.declared events) kept.runs (λ n run_ at. ended_well _ n run_ at (idle.runs n run_ at));
          one = inl refl;
          counted = idle.count;
          few = few_runs;
        }

    module _ (performs : IsPerforming b began kept) where
      waiting_at : slice_get kept.runs (length performs.before) ≡ Some performs.run
      waiting_at = ap (λ l. slice_get l (length performs.before)) performs.runs_are ∙ at_end performs.before performs.run

      waits_well : IsWaiting plan b.declared events performs.run
      waits_well =
          is_waiting plan b lawful events (state_after began performs.before) performs.run (starts_well (length performs.before) performs.run waiting_at).starts performs.waiting
          (shows_well (length performs.before) performs.run waiting_at)

      performing_runs : AreRuns plan b.declared events kept.from kept.count kept.runs
      performing_runs =
          record {
            ended = performs.before;
            last = performs.run ∷ [];
            are = performs.runs_are;
            each =
                each_from (IsEnded plan b.declared events) performs.before
                (λ n run_ at. ended_well _ n run_ (ap (λ l. slice_get l n) performs.runs_are ∙ grown performs.before (performs.run ∷ []) n run_ at) (performs.runs n run_ at));
            one = inr (performs.run, refl, waits_well);
            counted = performs.count;
            few = few_runs;
          }

      performing_state : all_fit b.declared.variables kept.state ≡ true
      performing_state =
          ap (all_fit b.declared.variables) performs.state
          ∙ waiting_state plan b lawful events (state_after began performs.before) performs.run (starts_well (length performs.before) performs.run waiting_at).starts performs.waiting
          (shows_well (length performs.before) performs.run waiting_at)

    pub is_active_member : (since : ℕ) → kept.phase ≡ Active since → IsActive plan b.declared events since kept
    is_active_member since phase_is =
        record {
          first = is_first since phase_is;
          from = begins_well.from;
          active_at = begins_well.active_at;
          runs = elim run.follows.now [ inl idle ↦ idle_runs idle | inr performs ↦ performing_runs performs ];
          state = elim run.follows.now [ inl idle ↦ idle.is_state.fits | inr performs ↦ performing_state performs ];
        }

    -- an ask of it, which has a number that a line may have
    pub asks_well : (n : ℕ) (run_ : RunRecord) (k : ℕ) (ask : AskRecord) → slice_get kept.runs n ≡ Some run_ → slice_get run_.asks k ≡ Some ask → IsAsk plan b.declared events ask × (k < most_asks)
    asks_well n run_ k ask at there = by_record run.follows.now
      where
        at_open : (performs : IsPerforming b began kept) → (slice_get performs.before n ≡ Some run_) ⊎ ((n ≡ length performs.before) × (performs.run ≡ run_)) → IsAsk plan b.declared events ask × (k < most_asks)
        at_open performs (inl old) =
            asks_ended plan b lawful events _ run_ (starts_well n run_ at).starts (performs.runs n run_ old) (shows_well n run_ at) k ask there
        at_open performs (inr added) =
            asks_open plan b lawful events (state_after began performs.before) run_ (starts_well n run_ at).starts
            (subst (IsOpen b (state_after began performs.before)) added.1 performs.waiting) (shows_well n run_ at) k ask there

        by_record : IsIdle b began kept ⊎ IsPerforming b began kept → IsAsk plan b.declared events ask × (k < most_asks)
        by_record (inl idle) = asks_ended plan b lawful events _ run_ (starts_well n run_ at).starts (idle.runs n run_ at) (shows_well n run_ at) k ask there
        by_record (inr performs) = at_open performs (old_or_added performs.before performs.run n run_ (ap (λ l. slice_get l n) (sym performs.runs_are) ∙ at))

    -- each run has ended or waits
    pub run_is : (n : ℕ) (run_ : RunRecord) → slice_get kept.runs n ≡ Some run_ → IsEnded plan b.declared events run_ ⊎ IsWaiting plan b.declared events run_
    run_is n run_ at = by_record run.follows.now
      where
        at_open : (performs : IsPerforming b began kept) → (slice_get performs.before n ≡ Some run_) ⊎ ((n ≡ length performs.before) × (performs.run ≡ run_))
            → IsEnded plan b.declared events run_ ⊎ IsWaiting plan b.declared events run_
        at_open performs (inl old) = inl (ended_well _ n run_ at (performs.runs n run_ old))
        at_open performs (inr added) = inr (subst (IsWaiting plan b.declared events) added.1 (waits_well performs))

        by_record : IsIdle b began kept ⊎ IsPerforming b began kept → IsEnded plan b.declared events run_ ⊎ IsWaiting plan b.declared events run_
        by_record (inl idle) = inl (ended_well _ n run_ at (idle.runs n run_ at))
        by_record (inr performs) = at_open performs (old_or_added performs.before performs.run n run_ (ap (λ l. slice_get l n) (sym performs.runs_are) ∙ at))
