-- A member that took no state performs from the first call on.
use Rattle.std.proofs.Common.{◌≡◌, ℕ, Bool, true, false, if◌then◌else◌, List, [], ◌++◌, Option, Some, None, refl, sym, ap, ◌∙◌}
use Rattle.circus_value.specs.ValueTree.{ValueTree}
use Rattle.circus_value.specs.declared.outcome.Outcome.{Outcome}
use Rattle.circus_header.specs.declared.answer.Reply.{Reply}
use Rattle.circus_collate.specs.declared.view.View.{View}
use Rattle.circus_transfer.specs.declared.joiner.Joiner.{Joiner}
use Rattle.circus_model.specs.Behaviour.{IsModule}
use Rattle.circus_model.specs.NextTurn.{NextTurn}
use Rattle.circus_model.specs.declared.signature.Signature.{Signature}
use Rattle.circus_record.specs.declared.record.MemberRecord.{MemberRecord}
use Rattle.circus_gather.specs.Gathering.{with_first}
use Rattle.circus_performing.specs.Performing.{is_fetching, made_active, taken_in}
use Rattle.circus_performing.specs.Record.{behaviour}
use Rattle.circus_performing.proofs.Records.{answered_is}
use Rattle.circus_member_rules.specs.Rules.{active_call, before_answers}
use Rattle.circus_member_rules.specs.declared.place.Beginning.{Beginning}
use Rattle.circus_member_rules.specs.declared.place.Beginning.TheVariants.{Founder, Spare}
use Rattle.circus_member_rules.specs.declared.place.Place.{Place}
use Rattle.circus_member_rules.specs.declared.occurrence.Occurrence.{Occurrence}
use Rattle.circus_member_rules.specs.declared.occurrence.Occurrence.TheVariants as comes
use Rattle.circus_member_rules.specs.Happening.{IsHome}
use Rattle.circus_member_rules.specs.MemberState.{MemberState, Doing}
use Rattle.circus_member_rules.specs.Step.{is_join, handle}
use Rattle.circus_member_rules.proofs.Entering.{HasValue, with_answered}
use Rattle.circus_member_rules.proofs.Starting.{IsSoundNow}
use Rattle.circus_member_rules.proofs.Writing.{one_is_performing}
use Rattle.circus_member_theory.proofs.Resting.{at_boot}
use Rattle.circus_member_theory.specs.Past.{Past, booted, followed, phase, snapshot_fetched}
use Rattle.circus_member_theory.specs.First.{or_else, first_given}
use Rattle.circus_member_theory.specs.Living.{MayLive, after, kept_after, phase_at_boot}
use Rattle.circus_member_theory.proofs.Timely.Firsts.{first_is, none_now}
use Rattle.circus_headline_theory.proofs.Owed.Booting.{booted_keeps}
use Rattle.circus_headline_theory.proofs.Owed.Going.{behaves, Keeps, executed_keeps}
use Rattle.circus_headline_theory.proofs.Owed.Lives.{step_is, known}

-- it performs from the first call on, since boot
abbrev pub IsFromFirst : MemberRecord → Type 0
IsFromFirst kept = (kept.from ≡ 0) × (kept.active_at ≡ 0)

none_before : {A : Type 0} (before last : Option (ℕ × A)) → or_else before last ≡ None → before ≡ None
none_before None last is = refl
none_before (Some given) last is = cc

-- ---- what comes

module _ {M : Type 0} (at : ℕ) (m : MemberState M) where
  -- but for a state that is taken
  handled_first : (o : Occurrence) → ((state : List ValueTree) (count : ℕ) → o ≡ comes.Restored state count → is_fetching m.performing.kept.phase ≡ false) → IsFromFirst m.performing.kept
      → IsFromFirst (handle at o m).member.performing.kept
  handled_first (comes.Asked header body sender) none h = h
  handled_first (comes.Fetched incarnation sender) none h = h
  handled_first (comes.Replied name from reply) none h = h
  handled_first (comes.IsStale name server from incarnation) none h = h
  handled_first (comes.IsBefore name from) none h = h
  handled_first (comes.Told request table) none h = by_test (is_join request)
    where
      by_test : (t : Bool) → IsFromFirst (if t then taken_in table m.performing.kept else m.performing.kept)
      by_test true = h
      by_test false = h
  handled_first (comes.Restored state count) none h = by_test (is_fetching m.performing.kept.phase) (none state count refl)
    where
      by_test : (t : Bool) → t ≡ false
          → let d : Doing M = if t then record { member = record m { performing = made_active at state count m.performing; gathered = with_first m.gathered count }; effects = active_call m.place m.known count ++ before_answers m.gathered count } else record { member = m; effects = [] }
          in IsFromFirst d.member.performing.kept
      by_test true is = cc
      by_test false is = h
  handled_first (comes.Declared node) none h = h
  handled_first comes.Joins none h = h

-- ---- a step

module _ {M : Type 0} (declared : M → Signature) (turn : M → List ValueTree → ℕ → List ValueTree → List Outcome → NextTurn) (first : M → List ValueTree) (lawful : (hosted : M) → IsModule (behaviour declared turn first hosted)) where
  module _ (step : ℕ) where
    abbrev IsFirstIn : Doing M → Type 0
    IsFirstIn d = IsFromFirst d.member.performing.kept

    answers : (d : Doing M) (reply : Reply) → IsSoundNow declared turn first lawful d.member → HasValue (behaves declared turn first lawful d) d.member reply → IsFirstIn d
        → IsFirstIn (record d { member = with_answered (behaves declared turn first lawful d) (lawful d.member.performing.hosted) d.member step reply })
    answers d reply sound value h =
        let b = behaves declared turn first lawful d in
        let law = lawful d.member.performing.hosted in
        let kept = d.member.performing.kept in
        let began = d.member.performing.began in
        let p = one_is_performing b began kept sound.kept value.ask value.is_open in
        let is = answered_is b law began kept p step reply.outcome reply.clock in
        (ap (λ (x : MemberRecord). x.from) is ∙ h.0, ap (λ (x : MemberRecord). x.active_at) is ∙ h.1)

    first_keeps : Keeps declared turn first lawful step IsFirstIn IsFirstIn
    first_keeps =
        record {
          gives = λ d sound idle h. h;
          enters = λ d start sound may none h. h;
          answers = answers;
          opens = λ d run ask view turned at is there h. h;
          ends = λ d run turned at none h. h;
        }

  module _ (place : Place) (views : List View) (beginning : Beginning) (hosted : M) (home : IsHome (declared hosted) place views) where
    abbrev begins : Joiner
    begins = phase_at_boot beginning

    before_any : (x : Beginning) → IsFromFirst (at_boot declared turn first lawful place views hosted home x).performing.kept
    before_any Founder = (refl, refl)
    before_any Spare = (refl, refl)

    pub from_first : (p : Past) → MayLive declared turn first place views beginning hosted p → first_given (snapshot_fetched begins) p ≡ None → IsFromFirst (kept_after declared turn first place views beginning hosted p)
    from_first booted may none = booted_keeps declared turn first lawful place views hosted home (IsFirstIn 0) (IsFirstIn 0) (first_keeps 0) beginning (before_any beginning)
    from_first (followed p at o) may none =
        let m = after declared turn first place views beginning hosted p in
        let before : first_given (snapshot_fetched begins) p ≡ None = none_before _ _ (sym (first_is (snapshot_fetched begins) (followed p at o)) ∙ none) in
        let k = known declared turn first lawful place views beginning hosted home p may.0 in
        let s = step_is declared turn first lawful place views beginning hosted home p at o may k in
        executed_keeps declared turn first lawful at (IsFirstIn at) (IsFirstIn at) (first_keeps at) (handle at o m) s.sound
        (handled_first at m o (λ state count is. ap is_fetching k.knows.phase_is ∙ not_fetching state count is (none_now (snapshot_fetched begins) (followed p at o) none)) (from_first p may.0 before))
      where
        not_fetching : (state : List ValueTree) (count : ℕ) → o ≡ comes.Restored state count → snapshot_fetched begins (followed p at o) ≡ None → is_fetching (phase begins p) ≡ false
        not_fetching state count is nothing = by_test (is_fetching (phase begins p)) (ap (λ x. snapshot_fetched begins (followed p at x)) (sym is) ∙ nothing)
          where
            by_test : (t : Bool) → (if t then Some (state, count) else snapshot_fetched begins p) ≡ None → t ≡ false
            by_test true clash = absurd (let same : ◌≡◌ {A = Option (List ValueTree × ℕ)} (Some (state, count)) None = clash in cc)
            by_test false clash = refl
