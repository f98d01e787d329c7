-- A member over everything that happens to it: what it is, what it has made, and what holds of it.
use Rattle.std.proofs.Common.{◌≡◌, ℕ, true, List, [], inl, refl, sym, subst, ◌∙◌, arith}
use Rattle.circus_value.specs.ValueTree.{ValueTree}
use Rattle.circus_value.specs.declared.outcome.Outcome.{Outcome}
use Rattle.circus_collate.specs.declared.view.View.{View}
use Rattle.circus_model.specs.declared.signature.Signature.{Signature}
use Rattle.circus_model.specs.NextTurn.{NextTurn}
use Rattle.circus_model.specs.Behaviour.{IsModule}
use Rattle.circus_performing.specs.Record.{behaviour}
use Rattle.circus_member_rules.specs.declared.place.Place.{Place}
use Rattle.circus_member_rules.specs.declared.place.Beginning.{Beginning}
use Rattle.circus_member_rules.specs.declared.place.Beginning.TheVariants.{Founder, Spare}
use Rattle.circus_member_rules.specs.declared.occurrence.Occurrence.{Occurrence}
use Rattle.circus_member_rules.specs.Happening.{IsHome, CanHappen}
use Rattle.circus_member_rules.specs.MemberState.{MemberState, Doing}
use Rattle.circus_member_rules.specs.Step.{is_idle, handle, execute}
use Rattle.circus_member_rules.proofs.Resting.{rested}
use Rattle.circus_member_rules.proofs.Starting.{IsSoundNow, sound_executed}
use Rattle.circus_member_theory.proofs.Resting.{sound_once_handled, at_boot}
use Rattle.circus_member_theory.specs.Past.{Past, booted, followed, now, Rises}
use Rattle.circus_headline_theory.proofs.Owed.Booting.{sound_booted, booted_keeps}
use Rattle.circus_headline_theory.specs.Owed.Living.{boots}
use Rattle.circus_member_theory.specs.Living.{phase_at_boot, after, MayLive}
use Rattle.circus_headline_theory.proofs.Owed.Coming.{Knows, knows_same, knew, Carries, carries}
use Rattle.circus_headline_theory.proofs.Owed.Going.{Keeps, executed_keeps, executed_given}
use Rattle.circus_headline_theory.proofs.Owed.Grown.{AreGrown, grown_same, grown_keeps, IsGrown}
use Rattle.circus_headline_theory.proofs.Owed.Links.{IsLinked, linked_keeps, IsLinkedIn, RunsIn}
use Rattle.circus_headline_theory.proofs.Owed.Stays.{IsSame, is_same, stays_keeps, Stays}
use Rattle.circus_headline_theory.proofs.Owed.Status.{AreWithin, within_grown}

module _ {M : Type 0} (declared : M → Signature) (turn : M → List ValueTree → ℕ → List ValueTree → List Outcome → NextTurn) (first : M → List ValueTree) (lawful : (hosted : M) → IsModule (behaviour declared turn first hosted)) (place : Place) (views : List View) (beginning : Beginning) (hosted : M) where
  -- what it is behind a past
  abbrev pub life : Past → MemberState M
  life p = after declared turn first place views beginning hosted p

  abbrev pub boot : Doing M
  boot = boots declared turn first place views beginning hosted

  abbrev pub Lives : Past → Type 0
  Lives p = MayLive declared turn first place views beginning hosted p

  pub rises : (p : Past) → Lives p → Rises p
  rises booted may = tt
  rises (followed p at o) may = (rises p may.0, may.1)

  -- ---- what holds of the member at the end of a past

  pub record IsKnown (p : Past) (m : MemberState M) : Type 0 where
    pub sound : IsSoundNow declared turn first lawful m
    pub hosts : m.performing.hosted ≡ hosted
    pub stands : m.place ≡ place
    pub knows : Knows (phase_at_boot beginning) (first hosted) p m
    pub linked : IsLinked m.gathered m.performing.kept
    pub within : AreWithin (now p) m.performing.kept.runs
    pub given : is_idle m.performing.kept ≡ true → m.requests ≡ []

  -- what is done in a step, before and behind the execution
  abbrev pub handles : Past → ℕ → Occurrence → Doing M
  handles p at o = handle at o (life p)

  abbrev pub executes : Past → ℕ → Occurrence → Doing M
  executes p at o = execute declared turn at (handles p at o)

  -- what a step makes of a member
  pub record IsStepped (p : Past) (at : ℕ) (o : Occurrence) : Type 0 where
    pub sound : IsSoundNow declared turn first lawful (handles p at o).member
    pub carried : Carries (life p) (handles p at o)
    pub knows : Knows (phase_at_boot beginning) (first hosted) (followed p at o) (handles p at o).member
    pub same : IsSame (handles p at o).member (executes p at o).member
    pub grown : AreGrown at (life p).performing.kept.runs (executes p at o).member.performing.kept.runs

  module _ (home : IsHome (declared hosted) place views) where
    known_before : (b : Beginning) → Knows (phase_at_boot b) (first hosted) booted (at_boot declared turn first lawful place views hosted home b)
    known_before Founder = record { requires = refl; phase_is = refl; from = refl; start = refl; state_is = refl }
    known_before Spare = record { requires = refl; phase_is = refl; from = refl; start = refl; state_is = refl }

    linked_before : (b : Beginning) → let m = at_boot declared turn first lawful place views hosted home b in IsLinked m.gathered m.performing.kept
    linked_before Founder = inl (record { no_ask = refl; rests = record { start = omega arith; few = omega arith; none_open = refl; replies = refl } })
    linked_before Spare = inl (record { no_ask = refl; rests = record { start = omega arith; few = omega arith; none_open = refl; replies = refl } })

    before_is : (b : Beginning) → let m = at_boot declared turn first lawful place views hosted home b in (m.performing.hosted ≡ hosted) × (m.place ≡ place) × (m.performing.kept.runs ≡ [])
    before_is Founder = (refl, refl, refl)
    before_is Spare = (refl, refl, refl)

    none_keeps : Keeps declared turn first lawful 0 (λ d. d.member.requests ≡ []) (λ d. d.member.requests ≡ [])
    none_keeps =
        record {
          gives = λ d sound idle h. refl;
          enters = λ d start sound may none h. h;
          answers = λ d reply sound value h. h;
          opens = λ d run ask view turned at is there h. h;
          ends = λ d run turned at none h. h;
        }

    none_before : (b : Beginning) → (at_boot declared turn first lawful place views hosted home b).requests ≡ []
    none_before Founder = refl
    none_before Spare = refl

    -- nobody has asked for its state at boot
    pub none_at_boot : boot.member.requests ≡ []
    none_at_boot = booted_keeps declared turn first lawful place views hosted home (λ d. d.member.requests ≡ []) (λ d. d.member.requests ≡ []) none_keeps beginning (none_before beginning)

    known_at_boot : IsKnown booted boot.member
    known_at_boot =
        let m = at_boot declared turn first lawful place views hosted home beginning in
        let same = booted_keeps declared turn first lawful place views hosted home (Stays declared turn first lawful 0 m) (Stays declared turn first lawful 0 m) (stays_keeps declared turn first lawful 0 m) beginning (is_same m) in
        let is = before_is beginning in
        let grown = booted_keeps declared turn first lawful place views hosted home (IsGrown declared turn first lawful 0 []) (IsGrown declared turn first lawful 0 []) (grown_keeps declared turn first lawful 0 []) beginning
        (subst (λ runs. AreGrown 0 [] runs) (sym is.2) (grown_same 0 [])) in
        record {
          sound = sound_booted declared turn first lawful place views hosted home beginning;
          hosts = same.hosted ∙ is.0;
          stands = same.place ∙ is.1;
          knows = knows_same (phase_at_boot beginning) (first hosted) booted m boot.member same (known_before beginning);
          linked = booted_keeps declared turn first lawful place views hosted home (IsLinkedIn declared turn first lawful 0) (RunsIn declared turn first lawful 0) (linked_keeps declared turn first lawful 0) beginning (linked_before beginning);
          within = within_grown 0 0 [] boot.member.performing.kept.runs (omega arith) grown (λ n. tt);
          given = λ idle. none_at_boot;
        }

    pub step_is : (p : Past) (at : ℕ) (o : Occurrence) → Lives (followed p at o) → IsKnown p (life p) → IsStepped p at o
    step_is p at o may h =
        let m = life p in
        let d = handles p at o in
        let can = subst (λ x. CanHappen (declared x) m o) (sym h.hosts) may.2 in
        let sound = sound_once_handled declared turn first lawful at o m h.sound can may.3 in
        let carried = carries (behaviour declared turn first m.performing.hosted) m at h.sound h.linked o may.3 in
        record {
          sound = sound;
          carried = carried;
          knows = knew (phase_at_boot beginning) (first hosted) p m h.knows at o;
          same = executed_keeps declared turn first lawful at (Stays declared turn first lawful at d.member) (Stays declared turn first lawful at d.member) (stays_keeps declared turn first lawful at d.member) d sound (is_same d.member);
          grown = executed_keeps declared turn first lawful at (IsGrown declared turn first lawful at m.performing.kept.runs) (IsGrown declared turn first lawful at m.performing.kept.runs) (grown_keeps declared turn first lawful at m.performing.kept.runs) d sound
              (subst (AreGrown at m.performing.kept.runs) (sym carried.runs) (grown_same at m.performing.kept.runs));
        }

    known_stepped : (p : Past) (at : ℕ) (o : Occurrence) → Lives (followed p at o) → IsKnown p (life p) → IsStepped p at o → IsKnown (followed p at o) (life (followed p at o))
    known_stepped p at o may h s =
        let m = life p in
        let d = handles p at o in
        let e = executes p at o in
        let before = may.1 in
        let knows = knows_same (phase_at_boot beginning) (first hosted) (followed p at o) d.member e.member s.same s.knows in
        record {
          sound = (rested (behaviour declared turn first e.member.performing.hosted) e (sound_executed declared turn first lawful at d s.sound)).sound;
          hosts = s.same.hosted ∙ s.carried.hosted ∙ h.hosts;
          stands = s.same.place ∙ s.carried.place ∙ h.stands;
          knows = record { requires = knows.requires; phase_is = knows.phase_is; from = knows.from; start = knows.start; state_is = knows.state_is };
          linked = executed_keeps declared turn first lawful at (IsLinkedIn declared turn first lawful at) (RunsIn declared turn first lawful at) (linked_keeps declared turn first lawful at) d s.sound s.carried.linked;
          within = within_grown (now p) at m.performing.kept.runs e.member.performing.kept.runs (omega (arith, before)) s.grown h.within;
          given = executed_given declared turn first lawful at d;
        }

    pub known : (p : Past) → Lives p → IsKnown p (life p)
    known booted may = known_at_boot
    known (followed p at o) may = let h = known p may.0 in known_stepped p at o may h (step_is p at o may h)
