-- A step of a member's node, as its record is evaluated: either a trace goes on by it, or no run begins with the events.
use Rattle.std.specs.Prelude.{option_and_then}
use Rattle.std.proofs.Common.{◌≡◌, ℕ, ◌+◌, ◌<◌, ◌≤◌, inl, inr, Bool, true, false, if◌then◌else◌, List, [], ◌∷◌, ◌++◌, length, All, Option, None, Some, refl, sym, ap, subst, ◌∙◌, arith, append_assoc, length-append}
use Rattle.std.proofs.lemmas.List.Elements.{All-nil}
use Rattle.std.proofs.lemmas.Option.{same_Some}
use Rattle.circus_value.specs.ValueTree.{ValueTree}
use Rattle.circus_collate.specs.declared.deployment.Deployment.{Deployment}
use Rattle.circus_collate.specs.declared.deployment.Troupe.{Troupe}
use Rattle.circus_model.specs.Behaviour.{Behaviour}
use Rattle.circus_record.specs.declared.record.MemberRecord.{MemberRecord}
use Rattle.circus_exchange.specs.Limits.{never_used}
use Rattle.circus_wire.specs.WireActs.{WireActs, made_to}
use Rattle.circus_wire.specs.declared.delivery.Heard.{Heard}
use Rattle.circus_member_rules.specs.declared.occurrence.Difference.{Difference}
use Rattle.circus_member_rules.specs.declared.occurrence.Effect.{Effect}
use Rattle.circus_member_rules.specs.declared.occurrence.Occurrence.{Occurrence}
use Rattle.circus_member_rules.specs.declared.occurrence.Occurrence.TheVariants as occurs
use Rattle.circus_member_rules.specs.declared.occurrence.Purpose.{Purpose}
use Rattle.circus_member_theory.specs.First.{at_end, or_else, first_given}
use Rattle.circus_member_theory.specs.Made.{at_most_one}
use Rattle.circus_performing.specs.Performing.{is_fetching}
use Rattle.circus_member_theory.specs.Past.{Past, booted, followed, phase, snapshot_fetched}
use Rattle.circus_member_theory.specs.Past as past
use Rattle.circus_node.specs.Trace as trace
use Rattle.circus_node.specs.Trace.{Trace}
use Rattle.circus_node.specs.declared.event.Event.{Event}
use Rattle.circus_node.specs.declared.event.Event.TheVariants as comes
use Rattle.circus_node.specs.declared.event.Outputs.{Outputs}
use Rattle.circus_world_theory.specs.Happened.{with_one}
use Rattle.circus_world_theory.specs.Histories.{beginning_of}
use Rattle.circus_world_theory.specs.NodeActs.{with_all, came_by}
use Rattle.circus_headline_theory.specs.NodeRun.{occurrence_by_record}
use Rattle.circus_headline_theory.specs.Peers.{GoesToPeer}
use Rattle.circus_headline_theory.specs.ServedRun.{IsNumbered}
use Rattle.circus_headline_theory.specs.Trace.{acts_in_step, acts_of, gives_for_all, now, SendsWhatIsOwed}
use Rattle.circus_headline_theory.proofs.OneRun.{lived_rises}
use Rattle.circus_headline_theory.proofs.Sends.{made_behind}
use Rattle.circus_audit.specs.declared.given.GivenEvent.{GivenEvent}
use Rattle.circus_dues.specs.Dues.{DuesState, IsInTimeSoFar, IsLawful, IsActivatedSo, IsOwed, TellsStep}
use Rattle.circus_dues.specs.NodeRuns.{BeginsWith, StepsSo, at_boot, begins, happens, here, known}
use Rattle.circus_dues.specs.Seen.Sound.{IsSayable}
use Rattle.circus_dues.proofs.NodeRuns.{lived_before}
use Rattle.circus_dues.proofs.NodeRunsOnce.{goes_before, sends_before}
use Rattle.circus_dues.proofs.ReachPeers.{step_to_peers}
use Rattle.circus_dues.proofs.StepStill.{still_in_time}
use Rattle.circus_verdict.specs.Audited.{events_in}
use Rattle.circus_verdict.specs.declared.station.Came.{Came}
use Rattle.circus_verdict.specs.declared.station.Pairs.{Pairs}
use Rattle.circus_verdict.specs.Seen.Living.{awaited_by, ComesSo, happening, Owes, dues_of, IsMemberAt, through, IsActiveSo, IsEvaluatedIn, IsRunSo, AreRefused, HasLived}
use Rattle.circus_verdict.specs.Seen.Station.{StandFor, heard_of, IsOwed as CameAsOwed, IsToldOf, IsToldRightly}
use Rattle.circus_verdict.proofs.Auditing.{rises}
use Rattle.circus_verdict.proofs.Awaiting.{awaited_alone, some_before}
use Rattle.circus_verdict.proofs.Beginnings.{HasGoneOn, next_by_events}
use Rattle.circus_verdict.proofs.Timely.{goes_on_timely}

-- ---- of a trace

-- as many events as steps, with boot
pub count_events : (t : Trace) → IsNumbered t → length (events_in t) ≡ now t + 1
count_events (trace.booted made outputs) numbered = refl
count_events (trace.stepped t at event made outputs) numbered =
    let e : GivenEvent = record { event = Some event; gives = outputs.gives; differences = outputs.differences } in
    let before = count_events t numbered.0 in
    let one = length-append (events_in t) (e ∷ []) in
    let is = numbered.1 in
    omega (arith, before, one, is)

module _ (d : Deployment) (node : ℕ) where
  -- as it began no more calls were handed over
  pub fewer_before : (t u : Trace) → BeginsWith t u → (to : ℕ) → made_to to (acts_of (beginning_of d node) u) ≤ made_to to (acts_of (beginning_of d node) t)
  fewer_before (trace.booted made outputs) u same to =
      (let is = ap (λ (x : Trace). made_to to (acts_of (beginning_of d node) x)) same in omega (arith, is))
  fewer_before (trace.stepped t at event made outputs) u (inl same) to =
      (let is = ap (λ (x : Trace). made_to to (acts_of (beginning_of d node) x)) same in omega (arith, is))
  fewer_before (trace.stepped t at event made outputs) u (inr began) to =
      let before = fewer_before t u began to in
      let more : made_to to (acts_of (beginning_of d node) t) ≤ made_to to (acts_of (beginning_of d node) (trace.stepped t at event made outputs)) =
      made_behind to (acts_of (beginning_of d node) t) (acts_in_step (beginning_of d node) (acts_of (beginning_of d node) t) (came_by event) made) in
      omega (arith, before, more)

-- ---- the first state that comes

module _ {A : Type 0} (gives : Past → Option A) where
  none_at_end : (q : Past) (x : Option A) → at_end q x ≡ None → x ≡ None
  none_at_end q None is = refl
  none_at_end q (Some a) is = absurd (let clash : ◌≡◌ {A = Option (ℕ × A)} (Some (past.now q, a)) None = is in cc)

  pub none_last : (p : Past) → first_given gives p ≡ None → gives p ≡ None
  unfolding first_given
  none_last booted is = none_at_end booted (gives booted) is
  none_last (followed p at o) is = by_first (first_given gives p) is
    where
      by_first : (f : Option (ℕ × A)) → or_else f (at_end (followed p at o) (gives (followed p at o))) ≡ None → gives (followed p at o) ≡ None
      by_first None none = none_at_end (followed p at o) (gives (followed p at o)) none
      by_first (Some given) none = absurd (let clash : ◌≡◌ {A = Option (ℕ × A)} (Some given) None = none in cc)

  none_given : (q : Past) (x : Option A) (given : ℕ × A) → x ≡ None → at_end q x ≡ Some given → ⊥
  none_given q None given none is = absurd (let clash : ◌≡◌ {A = Option (ℕ × A)} None (Some given) = is in cc)
  none_given q (Some a) given none is = absurd (let clash : ◌≡◌ {A = Option A} (Some a) None = none in cc)

-- ---- a member

module _ (d : Deployment) (b : Behaviour) (node number : ℕ) (troupe : Troupe) (kept : MemberRecord) where
  -- what happens is by what is heard
  pub happens_as : (u : Trace) (event : Event) (heard : Heard Purpose) → heard ≡ heard_of d node (acts_of (beginning_of d node) u) event
      → happening d b.declared number kept event heard ≡ happens d b node number troupe kept u event
  happens_as u (comes.Datagram from bytes) heard is = ap (occurrence_by_record d b.declared number kept from) is
  happens_as u comes.Tick heard is = refl
  happens_as u (comes.Down other) heard is = refl
  happens_as u comes.Join heard is = refl

  -- a spare that takes a state takes that with which the record begins
  module _ (p : Past) (at : ℕ) (active : IsActiveSo d b node number troupe kept p) where
    abbrev fetched : Past → Option (List ValueTree × ℕ)
    fetched = snapshot_fetched (begins d b node number troupe kept)

    abbrev Activates : Occurrence → Type 0
    Activates o =
        IsActivatedSo (here d b node number troupe kept) (known d b node number troupe kept) (begins d b node number troupe kept) b.first kept b.declared.procedures (at_boot d b node number troupe kept) p at o

    abbrev IsThat : Option (ℕ × (List ValueTree × ℕ)) → Type 0
    IsThat f = (step : ℕ) (state : List ValueTree) (count : ℕ) → f ≡ Some (step, (state, count)) → (kept.active_at ≡ step) × (kept.from ≡ count)

    -- it is the first
    now_first : first_given fetched p ≡ None → (o : Occurrence) → Activates o → IsThat (at_end (followed p at o) (fetched (followed p at o)))
    now_first none (occurs.Restored state count) activates = by_test (is_fetching (phase (begins d b node number troupe kept) p)) activates
      where
        by_test : (t : Bool) → (t ≡ true → (kept.active_at ≡ at) × (kept.from ≡ count)) → IsThat (at_end (followed p at (occurs.Restored state count)) (if t then Some (state, count) else fetched p))
        by_test true so step held n is =
            let same : ◌≡◌ {A = ℕ × (List ValueTree × ℕ)} (at, (state, count)) (step, (held, n)) = same_Some (at, (state, count)) (step, (held, n)) is in
            ((so refl).0 ∙ ap (λ (g : ℕ × (List ValueTree × ℕ)). g.0) same, (so refl).1 ∙ ap (λ (g : ℕ × (List ValueTree × ℕ)). g.1.1) same)
        by_test false so step held n is = absurd (none_given fetched (followed p at (occurs.Restored state count)) (fetched p) (step, (held, n)) (none_last fetched p none) is)
    now_first none (occurs.Asked header body sender) activates = λ step state count is.
        absurd (none_given fetched (followed p at (occurs.Asked header body sender)) (fetched p) (step, (state, count)) (none_last fetched p none) is)
    now_first none (occurs.Fetched incarnation sender) activates = λ step state count is.
        absurd (none_given fetched (followed p at (occurs.Fetched incarnation sender)) (fetched p) (step, (state, count)) (none_last fetched p none) is)
    now_first none (occurs.Replied name from reply) activates = λ step state count is.
        absurd (none_given fetched (followed p at (occurs.Replied name from reply)) (fetched p) (step, (state, count)) (none_last fetched p none) is)
    now_first none (occurs.IsStale name server from incarnation) activates = λ step state count is.
        absurd (none_given fetched (followed p at (occurs.IsStale name server from incarnation)) (fetched p) (step, (state, count)) (none_last fetched p none) is)
    now_first none (occurs.IsBefore name from) activates = λ step state count is.
        absurd (none_given fetched (followed p at (occurs.IsBefore name from)) (fetched p) (step, (state, count)) (none_last fetched p none) is)
    now_first none (occurs.Told request table) activates = λ step state count is.
        absurd (none_given fetched (followed p at (occurs.Told request table)) (fetched p) (step, (state, count)) (none_last fetched p none) is)
    now_first none (occurs.Declared other) activates = λ step state count is.
        absurd (none_given fetched (followed p at (occurs.Declared other)) (fetched p) (step, (state, count)) (none_last fetched p none) is)
    now_first none occurs.Joins activates = λ step state count is.
        absurd (none_given fetched (followed p at occurs.Joins) (fetched p) (step, (state, count)) (none_last fetched p none) is)

    pub active_on : (o : Occurrence) → Activates o → IsActiveSo d b node number troupe kept (followed p at o)
    unfolding first_given
    active_on o activates spare = by_first (first_given fetched p) refl
      where
        by_first : (f : Option (ℕ × (List ValueTree × ℕ))) → first_given fetched p ≡ f → IsThat (or_else f (at_end (followed p at o) (fetched (followed p at o))))
        by_first None none = now_first none o activates
        by_first (Some given) some = λ step state count is. active spare step state count (some ∙ is)

  module _ (member : IsMemberAt d b node number troupe) where
    abbrev acts : Trace → WireActs Purpose
    acts t = acts_of (beginning_of d node) t

    abbrev Lives : List GivenEvent → Pairs → DuesState → List ℕ → Type 0
    Lives = HasLived d b node number troupe kept

    abbrev standing : DuesState → DuesState
    standing dues = dues_of (here d b node number troupe kept) b.declared kept dues.owing

    -- the record of a run is lawful
    pub lawful_by : kept.from + length kept.runs ≤ 4294967296 → (t : Trace) → IsEvaluatedIn d b node number troupe kept t → IsLawful kept
    lawful_by few t e = record { behaves = b; lawful = member.lawful; from = _; is = e.follows; few = few }

    -- what is known of a step: what came at the pairs, what happened by it, and what the member made
    pub record IsStepBehind (events : List GivenEvent) (pairs : Pairs) (dues : DuesState) (awaited : List ℕ) (told : GivenEvent) (at : ℕ) (event : Event) (came : Came) (still : Pairs) (o : Option Occurrence)
        (new : DuesState) (made : List Effect) (differs : Option Difference) : Type 0 where
      pub is_event : told.event ≡ Some event
      pub comes_so : ComesSo d node event
      pub at_is : at ≡ length events
      pub few : kept.from + length kept.runs ≤ 4294967296
      pub modules : ℕ
      pub sayable : IsSayable b.declared modules kept
      pub lives : IsLawful kept → Lives events pairs dues awaited
      pub owed : (a : WireActs Purpose) → StandFor d node a pairs → CameAsOwed d node a event came
      pub stand : (a : WireActs Purpose) → StandFor d node a pairs → StandFor d node (with_all a (came_by event)) still
      pub happens_is : o ≡ happening d b.declared number kept event came.heard
      pub owes : (p : Past) → past.Rises p → past.now p < at → IsInTimeSoFar (known d b node number troupe kept) (begins d b node number troupe kept) b.first (at_boot d b node number troupe kept) p dues
          → Owes (known d b node number troupe kept) (begins d b node number troupe kept) b.first (at_boot d b node number troupe kept) p at o dues new made differs
      pub old_are : dues ≡ standing dues
      pub new_are : new ≡ standing new

    module _ (events : List GivenEvent) (pairs : Pairs) (dues : DuesState) (awaited : List ℕ) (told : GivenEvent) (at : ℕ) (event : Event) (came : Came) (still : Pairs) (o : Option Occurrence)
        (new : DuesState) (made : List Effect) (differs : Option Difference) (s : IsStepBehind events pairs dues awaited told at event came still o new made differs) where
      -- ---- behind a trace

      module _ (h : Lives events pairs dues awaited) where
        abbrev u : Trace
        u = h.lived

        abbrev p : Past
        p = through d b node number troupe kept u

        abbrev OwesBy : Option Occurrence → Type 0
        OwesBy x = Owes (known d b node number troupe kept) (begins d b node number troupe kept) b.first (at_boot d b node number troupe kept) p at x dues new made differs

        abbrev IsOwedFor : Occurrence → Type 0
        IsOwedFor x =
            IsOwed (here d b node number troupe kept) (known d b node number troupe kept) (begins d b node number troupe kept) b.first kept b.declared.procedures (at_boot d b node number troupe kept) p at x
            new.owing made differs

        at_next : at ≡ now u + 1
        at_next = s.at_is ∙ ap length (sym h.events_are) ∙ count_events u h.numbered

        rising : past.Rises p
        rising = lived_rises d b node number troupe kept u (rises u h.numbered)

        later : past.now p < at
        later = lived_before d b node number troupe kept u (rises u h.numbered) at (let is = at_next in omega (arith, is))

        happens_now : o ≡ happens d b node number troupe kept u event
        happens_now = s.happens_is ∙ happens_as u event came.heard (s.owed (acts u) h.stand).heard

        owes_now : OwesBy o
        owes_now = s.owes p rising later h.in_time

        tells_standing : (x : Occurrence) → OwesBy (Some x)
            → TellsStep (known d b node number troupe kept) (begins d b node number troupe kept) b.first (at_boot d b node number troupe kept) p at x (standing new) made differs
        tells_standing x tells =
            subst (λ (n : DuesState). TellsStep (known d b node number troupe kept) (begins d b node number troupe kept) b.first (at_boot d b node number troupe kept) p at x n made differs) s.new_are tells

        owed_for : new.owing.is_timely ≡ true → (x : Occurrence) → OwesBy (Some x) → IsOwedFor x
        owed_for timely x tells = (tells_standing x tells).1 timely

        -- what is made goes to other nodes
        pub goes_to_peers : new.owing.is_timely ≡ true → All (GoesToPeer (beginning_of d node)) made
        goes_to_peers timely = by_one o refl owes_now
          where
            by_one : (x : Option Occurrence) → o ≡ x → OwesBy x → All (GoesToPeer (beginning_of d node)) made
            by_one None is owes = subst (All (GoesToPeer (beginning_of d node))) (sym owes.none_made) (All-nil (GoesToPeer (beginning_of d node)))
            by_one (Some x) is owes =
                subst (All (GoesToPeer (beginning_of d node))) (sym (owed_for timely x owes).made)
                (step_to_peers d b node number troupe kept member.good member.hosts member.fits s.modules s.sayable u at event x (sym happens_now ∙ is))

        -- and the trace goes on by it, where the record tells of it rightly
        module _ (timely : new.owing.is_timely ≡ true) (last : Pairs) (next : List ℕ) (right : IsToldRightly d node (acts u) (came_by event) made (at_most_one differs) told last)
            (due : awaited_by event came.suspects awaited ≡ Some next) where
          abbrev sent : Outputs
          sent = record { gives = told.gives; suspects = came.suspects; differences = told.differences }

          steps_so : (x : Option Occurrence) → OwesBy x → StepsSo d b node number troupe kept p at made told.differences x
          steps_so None owes = record { made_so = owes.none_made; told_so = right.is.differences ∙ ap at_most_one owes.none_differs; timely = tt }
          steps_so (Some x) owes =
              let i = owed_for timely x owes in
              record { made_so = i.made; told_so = right.is.differences ∙ i.tells; timely = i.in_time.step }

          active_now : (x : Option Occurrence) → OwesBy x → IsActiveSo d b node number troupe kept (with_one p at x)
          active_now None owes = h.active
          active_now (Some x) owes = active_on p at h.active x (owed_for timely x owes).in_time.activated

          in_time_now : (x : Option Occurrence) → OwesBy x
              → IsInTimeSoFar (known d b node number troupe kept) (begins d b node number troupe kept) b.first (at_boot d b node number troupe kept) (with_one p at x) new
          in_time_now None owes =
              subst (IsInTimeSoFar (known d b node number troupe kept) (begins d b node number troupe kept) b.first (at_boot d b node number troupe kept) p) (sym owes.same) h.in_time
          in_time_now (Some x) owes =
              still_in_time (known d b node number troupe kept) (begins d b node number troupe kept) b.first (at_boot d b node number troupe kept) p at x dues new made differs h.in_time rising later
              (ap (λ (n : DuesState). n.place) s.new_are ∙ sym (ap (λ (n : DuesState). n.place) s.old_are))
              (ap (λ (n : DuesState). n.signature) s.new_are ∙ sym (ap (λ (n : DuesState). n.signature) s.old_are))
              (ap (λ (n : DuesState). n.kept) s.new_are ∙ sym (ap (λ (n : DuesState). n.kept) s.old_are)) timely (owes.1 timely)

          pub lives_on : Lives (events ++ told ∷ []) last new next
          lives_on =
              record {
                lived = trace.stepped u at event made sent;
                events_are = (λ j. h.events_are j ++ record { event = sym s.is_event j; gives = told.gives; differences = told.differences } ∷ []);
                numbered = (h.numbered, at_next);
                others = (h.others, s.comes_so.other, s.comes_so.octets);
                awaited_is = ap (option_and_then (awaited_by event came.suspects)) h.awaited_is ∙ due;
                numbers = right.is.numbers;
                goes = (h.goes, subst (StepsSo d b node number troupe kept p at made told.differences) happens_now (steps_so o owes_now));
                sends = (h.sends, right.is.gives, (s.owed (acts u) h.stand).suspects);
                stand = right.stand;
                founded = h.founded;
                active = subst (λ x. IsActiveSo d b node number troupe kept (with_one p at x)) happens_now (active_now o owes_now);
                in_time =
                    subst
                    (λ x. IsInTimeSoFar (known d b node number troupe kept) (begins d b node number troupe kept) b.first (at_boot d b node number troupe kept) (with_one p at x) new)
                    happens_now (in_time_now o owes_now);
              }

        -- ---- beside a run that begins with the same events

        module _ (t : Trace) (run : IsRunSo d b node number troupe kept t) (g : HasGoneOn t u told) where
          event_is : g.event ≡ event
          event_is = same_Some g.event event (sym (ap (λ (e : GivenEvent). e.event) g.next_is) ∙ s.is_event)

          began : BeginsWith t (trace.stepped u at event g.made g.outputs)
          began =
              subst (λ (e : Event). BeginsWith t (trace.stepped u at e g.made g.outputs)) event_is
              (subst (λ n. BeginsWith t (trace.stepped u n g.event g.made g.outputs)) (sym at_next) g.began)

          steps : StepsSo d b node number troupe kept p at g.made g.outputs.differences (happens d b node number troupe kept u event)
          steps = (goes_before d b node number troupe kept t (trace.stepped u at event g.made g.outputs) began run.evaluated.goes).1

          sends : SendsWhatIsOwed (beginning_of d node) (trace.stepped u at event g.made g.outputs)
          sends = sends_before (beginning_of d node) t (trace.stepped u at event g.made g.outputs) began run.evaluated.sends

          -- the record goes on in time
          never_untimely : new.owing.is_timely ≡ false → ⊥
          never_untimely untimely = by_one o refl owes_now
            where
              by_one : (x : Option Occurrence) → o ≡ x → OwesBy x → ⊥
              by_one None is owes =
                  absurd (let clash : false ≡ true = sym untimely ∙ ap (λ (n : DuesState). n.owing.is_timely) owes.same ∙ h.in_time.timely in cc)
              by_one (Some x) is owes =
                  let in_time = goes_on_timely d b node number troupe kept t u at event g.made g.outputs x run.numbered run.evaluated began (sym happens_now ∙ is) in
                  absurd (let clash : false ≡ true = sym untimely ∙ (tells_standing x owes).0.1 in_time in cc)

          -- what was made in it is the same
          made_same : new.owing.is_timely ≡ true → (g.made ≡ made) × (g.outputs.differences ≡ at_most_one differs)
          made_same timely = by_one o owes_now (subst (StepsSo d b node number troupe kept p at g.made g.outputs.differences) (sym happens_now) steps)
            where
              by_one : (x : Option Occurrence) → OwesBy x → StepsSo d b node number troupe kept p at g.made g.outputs.differences x → (g.made ≡ made) × (g.outputs.differences ≡ at_most_one differs)
              by_one None owes so = (so.made_so ∙ sym owes.none_made, so.told_so ∙ sym (ap at_most_one owes.none_differs))
              by_one (Some x) owes so =
                  let i = owed_for timely x owes in
                  (so.made_so ∙ sym i.made, so.told_so ∙ sym i.tells)

          -- and the record tells of it rightly
          told_of_it : new.owing.is_timely ≡ true → IsToldOf d node (acts u) (came_by event) made (at_most_one differs) told
          told_of_it timely =
              let same = made_same timely in
              record {
                numbers = λ to.
                    subst (λ l. made_to to (with_all (acts u) (acts_in_step (beginning_of d node) (acts u) (came_by event) l)) ≤ never_used) same.0
                    (let few = run.numbers to in
                    let less : made_to to (with_all (acts u) (acts_in_step (beginning_of d node) (acts u) (came_by event) g.made)) ≤ made_to to (acts t) =
                    fewer_before d node t (trace.stepped u at event g.made g.outputs) began to in
                    omega (arith, few, less));
                gives =
                    ap (λ (e : GivenEvent). e.gives) g.next_is ∙ sends.1
                    ∙ ap (λ l. gives_for_all (beginning_of d node) (acts u) (acts_in_step (beginning_of d node) (acts u) (came_by event) l)) same.0;
                differences = ap (λ (e : GivenEvent). e.differences) g.next_is ∙ same.1;
              }

          -- and the event is due
          never_undue : awaited_by event came.suspects awaited ≡ None → ⊥
          never_undue undue =
              some_before t (trace.stepped u at event g.made g.outputs) began [] (awaited_alone t [] run.declares)
              (ap (option_and_then (awaited_by event g.outputs.suspects)) h.awaited_is
              ∙ ap (λ l. awaited_by event l awaited) (sends.2 ∙ sym (s.owed (acts u) h.stand).suspects) ∙ undue)

      -- ---- no run begins with the events

      refused : ((h : Lives events pairs dues awaited) (t : Trace) (run : IsRunSo d b node number troupe kept t) → HasGoneOn t h.lived told → ⊥) → AreRefused d b node number troupe kept (events ++ told ∷ [])
      refused never t rest run same =
          let h = s.lives (lawful_by s.few t run.evaluated) in
          never h t run
          (next_by_events d b node number troupe kept t h.lived run.numbered h.numbered run.evaluated.goes run.evaluated.sends h.goes h.sends told rest
          (same ∙ append_assoc events (told ∷ []) rest ∙ ap (λ l. l ++ told ∷ rest) (sym h.events_are)))

      pub refused_untimely : new.owing.is_timely ≡ false → AreRefused d b node number troupe kept (events ++ told ∷ [])
      refused_untimely untimely = refused (λ h t run g. never_untimely h t run g untimely)

      pub refused_untold : new.owing.is_timely ≡ true
          → ((h : Lives events pairs dues awaited) → All (GoesToPeer (beginning_of d node)) made → IsToldOf d node (acts h.lived) (came_by event) made (at_most_one differs) told → ⊥)
          → AreRefused d b node number troupe kept (events ++ told ∷ [])
      refused_untold timely never = refused (λ h t run g. never h (goes_to_peers h timely) (told_of_it h t run g timely))

      pub refused_undue : awaited_by event came.suspects awaited ≡ None → AreRefused d b node number troupe kept (events ++ told ∷ [])
      refused_undue undue = refused (λ h t run g. never_undue h t run g undue)
