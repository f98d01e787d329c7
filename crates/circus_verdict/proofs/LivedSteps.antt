-- A member's node that lives through the events of a record: what is known of boot, of each step and of the end.
use Rattle.std.specs.Prelude.{◌&&◌, if◌then◌else◌, IfSome, IsSomeAnd}
use Rattle.std.proofs.Common.{◌≡◌, ℕ, ◌+◌, ◌<◌, ◌≤◌, Bool, true, false, List, [], ◌++◌, length, Option, None, Some, refl, sym, ap, subst, ◌∙◌, append_assoc, append-nil}
use Rattle.std.specs.Bool.{Decides}
use Rattle.circus_value.specs.ValueTree.{ValueTree}
use Rattle.circus_collate.specs.declared.deployment.Deployment.{Deployment}
use Rattle.circus_collate.specs.declared.deployment.Troupe.{Troupe}
use Rattle.circus_collate.specs.declared.view.View.{View}
use Rattle.circus_ring.specs.RingTable.{boot_views}
use Rattle.circus_transfer.specs.declared.joiner.Joiner.{Joiner}
use Rattle.circus_model.specs.Behaviour.{Behaviour}
use Rattle.circus_model.specs.declared.signature.Signature.{Signature}
use Rattle.circus_record.specs.declared.record.MemberRecord.{MemberRecord}
use Rattle.circus_performing.specs.Performing.{is_active}
use Rattle.circus_performing.specs.Record.{IsRecord}
use Rattle.circus_wire.specs.WireActs.{WireActs}
use Rattle.circus_member_rules.specs.declared.occurrence.Difference.{Difference}
use Rattle.circus_member_rules.specs.declared.occurrence.Effect.{Effect}
use Rattle.circus_member_rules.specs.declared.occurrence.Occurrence.{Occurrence}
use Rattle.circus_member_rules.specs.declared.occurrence.Purpose.{Purpose}
use Rattle.circus_member_rules.specs.declared.place.Place.{Place}
use Rattle.circus_member_theory.specs.Living.{phase_at_boot}
use Rattle.circus_member_theory.specs.Past.{Past, Rises, now}
use Rattle.circus_node.specs.declared.home.Home.{Home}
use Rattle.circus_node.specs.declared.event.Event.{Event}
use Rattle.circus_world_theory.specs.NodeActs.{with_all, came_by}
use Rattle.circus_audit.specs.declared.given.GivenEvent.{GivenEvent}
use Rattle.circus_dues.specs.Dues.{DuesState, HasAllCome, IsInTimeSoFar, TellsAtBoot}
use Rattle.circus_dues.specs.NodeRuns.{at_boot, begins, here, known}
use Rattle.circus_dues.specs.Seen.Owing.{CanCome}
use Rattle.circus_dues.specs.Seen.Sound.{IsSayable, IsSoundOwing}
use Rattle.circus_verdict.specs.declared.living.Lived.{Lived}
use Rattle.circus_verdict.specs.declared.station.Came.{Came}
use Rattle.circus_verdict.specs.declared.station.Pairs.{Pairs}
use Rattle.circus_verdict.specs.Seen.Living.{ComesSo, HasCome, happening, Owes, phase_told, dues_of, IsOf, IsReady, AreRefused, LivesThrough, EndsSo, HaveNoRun}
use Rattle.circus_verdict.specs.Seen.Station.{StandFor, IsOwed}
use Rattle.circus_verdict.proofs.Booting.{IsBootOf, entered_as}
use Rattle.circus_verdict.proofs.Ending.{IsEndOf, ends_with, none_following}
use Rattle.circus_verdict.proofs.Stepping.{IsStepBehind}

-- ---- what is kept of a member that stands here

module _ (home : Home) (declared : Signature) (kept : MemberRecord) where
  pub dues_on : (old new : DuesState) → old ≡ dues_of home.place declared kept old.owing → (new.place ≡ old.place) × (new.signature ≡ old.signature) × (new.kept ≡ old.kept)
      → new ≡ dues_of home.place declared kept new.owing
  dues_on old new is stands =
      λ j.
      dues_of ((stands.0 ∙ ap (λ (n : DuesState). n.place) is) j) ((stands.1 ∙ ap (λ (n : DuesState). n.signature) is) j) ((stands.2 ∙ ap (λ (n : DuesState). n.kept) is) j) new.owing

  pub sound_of : (dues : DuesState) → dues ≡ dues_of home.place declared kept dues.owing → IsSoundOwing dues.signature dues.place dues.kept dues.owing → IsSoundOwing declared home.place kept dues.owing
  sound_of dues is = subst (λ (n : DuesState). IsSoundOwing n.signature n.place n.kept dues.owing) is

  pub sound_for : (dues : DuesState) → dues ≡ dues_of home.place declared kept dues.owing → IsSoundOwing declared home.place kept dues.owing → IsSoundOwing dues.signature dues.place dues.kept dues.owing
  sound_for dues is = subst (λ (n : DuesState). IsSoundOwing n.signature n.place n.kept dues.owing) (sym is)

  -- what may come to it
  pub can_come : (dues : DuesState) → dues ≡ dues_of home.place declared kept dues.owing → (modules : ℕ) → length dues.owing.out.known.views ≡ modules → (o : Option Occurrence)
      → IfSome o (CanCome declared home.place.troupe modules) → IfSome o (CanCome dues.signature dues.place.troupe (length dues.owing.out.known.views))
  can_come dues is modules many o can =
      subst (λ n. IfSome o (CanCome dues.signature dues.place.troupe n)) (sym many) (subst (λ (n : DuesState). IfSome o (CanCome n.signature n.place.troupe modules)) (sym is) can)

-- ---- a member of a troupe

module _ (d : Deployment) (home : Home) (declared : Signature) (kept : MemberRecord) (b : Behaviour) (node number : ℕ) (troupe : Troupe) (of : IsOf d home declared b node number troupe) where
  at_home : home.place ≡ here d b node number troupe kept
  at_home = ap (λ (h : Home). h.place) of.home_is

  pub node_is : home.place.node ≡ node
  node_is = ap (λ (p : Place). p.node) at_home

  own_is : home.place.troupe ≡ number
  own_is = ap (λ (p : Place). p.troupe) at_home

  begins_is : phase_at_boot home.beginning ≡ begins d b node number troupe kept
  begins_is = ap (λ (h : Home). phase_at_boot h.beginning) of.home_is

  pub dues_here : (dues : DuesState) → dues ≡ dues_of home.place declared kept dues.owing → dues ≡ dues_of (here d b node number troupe kept) b.declared kept dues.owing
  dues_here dues is = is ∙ (λ j. dues_of (at_home j) (of.declares j) kept dues.owing)

  -- ---- boot

  pub boot_of : (boot : GivenEvent) (dues : DuesState) (made : List Effect) (views : List View) (phase : Joiner) (first : List ValueTree) → boot.event ≡ None → kept.from + length kept.runs ≤ 4294967296
      → IsSayable declared (length d.troupes) kept → views ≡ boot_views d.troupes → phase ≡ phase_at_boot home.beginning → first ≡ b.first
      → TellsAtBoot views phase first (if declared.root && is_active phase then 1 else 0) dues made → (dues.place ≡ home.place) × (dues.signature ≡ declared) × (dues.kept ≡ kept)
      → IsBootOf d b node number troupe kept of.at boot dues made
  boot_of boot dues made views phase first is_boot few sayable views_are phase_is first_is tells stands =
      record {
        is_boot = is_boot;
        few = few;
        modules = length d.troupes;
        sayable = subst (λ (s : Signature). IsSayable s (length d.troupes) kept) of.declares sayable;
        tells =
            subst (λ n. TellsAtBoot (known d b node number troupe kept) (begins d b node number troupe kept) b.first n dues made) (entered_as b.declared.root (is_active (begins d b node number troupe kept)))
            (subst (λ (v : List View). TellsAtBoot v (begins d b node number troupe kept) b.first (if b.declared.root && is_active (begins d b node number troupe kept) then 1 else 0) dues made) views_are
            (subst (λ (x : Joiner). TellsAtBoot views x b.first (if b.declared.root && is_active x then 1 else 0) dues made) (phase_is ∙ begins_is)
            (subst (λ (s : Signature). TellsAtBoot views phase b.first (if s.root && is_active phase then 1 else 0) dues made) of.declares
            (subst (λ (f : List ValueTree). TellsAtBoot views phase f (if declared.root && is_active phase then 1 else 0) dues made) first_is tells))));
        dues_are = dues_here dues (λ j. dues_of (stands.0 j) (stands.1 j) (stands.2 j) dues.owing);
      }

  -- ---- a step

  pub step_of : (l : Lived) (events : List GivenEvent) → IsReady d home declared kept l → LivesThrough d b node number troupe kept events (Some l)
      → (told : GivenEvent) (at : ℕ) (event : Event) (came : Came) (still : Pairs) (o : Option Occurrence) (new : DuesState) (made : List Effect) (differs : Option Difference)
      → told.event ≡ Some event → HasCome d home.place.node told → at ≡ length events
      → ((program : Deployment) (n : ℕ) (a : WireActs Purpose) → StandFor program n a l.pairs → ComesSo program n event → IsOwed program n a event came)
      → ((program : Deployment) (n : ℕ) (a : WireActs Purpose) → StandFor program n a l.pairs → ComesSo program n event → StandFor program n (with_all a (came_by event)) still)
      → o ≡ happening d declared home.place.troupe kept event came.heard
      → ((boot : List View) (phase : Joiner) (first : List ValueTree) (entered : ℕ) (p : Past) → Rises p → now p < at → IsInTimeSoFar boot phase first entered p l.dues → Owes boot phase first entered p at o l.dues new made differs)
      → new ≡ dues_of home.place declared kept new.owing
      → IsStepBehind d b node number troupe kept of.at events l.pairs l.dues l.awaited told at event came still o new made differs
  step_of l events ready lives told at event came still o new made differs is come at_is owed stand happens owes new_are =
      let so : ComesSo d node event = subst (λ (x : Option Event). IsSomeAnd x (ComesSo d node)) is (subst (λ n. HasCome d n told) node_is come) in
      record {
        is_event = is;
        comes_so = so;
        at_is = at_is;
        few = ready.few;
        modules = length ready.sound.boot;
        sayable = subst (λ (s : Signature). IsSayable s (length ready.sound.boot) kept) of.declares ready.sound.sayable;
        lives = lives;
        owed = λ a stands. owed d node a stands so;
        stand = λ a stands. stand d node a stands so;
        happens_is = happens ∙ (λ j. happening d (of.declares j) (own_is j) kept event came.heard);
        owes = owes (known d b node number troupe kept) (begins d b node number troupe kept) b.first (at_boot d b node number troupe kept);
        old_are = dues_here l.dues ready.dues_are;
        new_are = dues_here new new_are;
      }

  -- ---- the end

  pub end_of : (l : Lived) (events : List GivenEvent) → IsReady d home declared kept l → LivesThrough d b node number troupe kept events (Some l)
      → (is_active kept.phase ≡ false → (kept.from ≡ 0) × (kept.active_at ≡ 0)) → IsEndOf d b node number troupe kept of.at events l.pairs l.dues l.awaited
  end_of l events ready lives apart = record { few = ready.few; apart = apart; lives = lives; dues_are = dues_here l.dues ready.dues_are }

  pub ends_by : (l : Lived) (events : List GivenEvent) → IsReady d home declared kept l → LivesThrough d b node number troupe kept events (Some l)
      → (is_active kept.phase ≡ false → (kept.from ≡ 0) × (kept.active_at ≡ 0)) → l.awaited ≡ [] → kept.phase ≡ phase_told l.dues.owing.phase
      → ((boot : List View) (phase : Joiner) (first : List ValueTree) (entered : ℕ) (p : Past) → Rises p → IsInTimeSoFar boot phase first entered p l.dues → HasAllCome boot phase first entered p l.dues)
      → (follows : Bool) → Decides follows (IsRecord b l.dues.owing.began kept) → EndsSo d b node number troupe kept events l.dues.owing.began follows
  ends_by l events ready lives apart waits told all true decides =
      ends_with d b node number troupe kept of.at events l.pairs l.dues l.awaited (end_of l events ready lives apart) waits (decides.0 refl) told
      (all (known d b node number troupe kept) (begins d b node number troupe kept) b.first (at_boot d b node number troupe kept))
  ends_by l events ready lives apart waits told all false decides =
      none_following d b node number troupe kept of.at events l.pairs l.dues l.awaited (end_of l events ready lives apart) (λ is. absurd (let clash : false ≡ true = decides.1 is in cc))

-- ---- no run begins with events, so none does with more, or has them

module _ (d : Deployment) (b : Behaviour) (node number : ℕ) (troupe : Troupe) (kept : MemberRecord) where
  pub refused_more : (events rest : List GivenEvent) → AreRefused d b node number troupe kept events → AreRefused d b node number troupe kept (events ++ rest)
  refused_more events rest refused t after run same = refused t (rest ++ after) run (same ∙ append_assoc events rest after)

  pub none_of_refused : (events : List GivenEvent) → AreRefused d b node number troupe kept events → HaveNoRun d b node number troupe kept events
  none_of_refused events refused t run same told = refused t [] run (same ∙ sym (append-nil events))
