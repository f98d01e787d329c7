-- What may stand in a record of a program may come to the node.
use Rattle.std.proofs.Common.{ℕ, zero, suc, ◌≡◌, ◌≤◌, ◌+◌, List, [], ◌∷◌, length, All, Option, None, Some, sym, ap, ◌∙◌, subst, arith}
use Rattle.std.specs.Prelude.{slice_get}
use Rattle.std.proofs.lemmas.Option.{same_Some}
use Rattle.std.specs.List.{AllByRecursion}
use Rattle.std.proofs.lemmas.List.Elements.{All-from_recursion}
use Rattle.circus_value.specs.Parts.{AreOctets}
use Rattle.circus_collate.specs.declared.view.View.{View}
use Rattle.circus_transfer.specs.declared.joiner.Joiner.{Joiner}
use Rattle.circus_transfer.specs.declared.joiner.Joiner.TheVariants.{Outside, Asking, Fetching, Active}
use Rattle.circus_model.specs.Behaviour.{Behaviour}
use Rattle.circus_model.specs.declared.signature.Signature.{Signature}
use Rattle.circus_record.specs.declared.record.MemberRecord.{MemberRecord}
use Rattle.circus_node.specs.Accepting.{troupe_at}
use Rattle.circus_config.specs.declared.plan.Plan.{Plan}
use Rattle.circus_node.specs.declared.event.Event.{Event}
use Rattle.circus_node.specs.declared.event.Event.TheVariants as comes
use Rattle.circus_audit.specs.Possible.{AreBytes, CanCome, CanHappen, IsMember, IsKept, IsPossible, declared_by}
use Rattle.circus_audit.specs.declared.given.Given.{Given}
use Rattle.circus_audit.specs.declared.given.GivenEvent.{GivenEvent}
use Rattle.circus_plan_modules.specs.Loaded.{behaviours_in}
use Rattle.circus_dues.specs.Seen.Sound.{IsSayable}
use Rattle.circus_verdict.specs.Seen.Judging.{FewRuns, IsCounted, MaySay}
use Rattle.circus_verdict.specs.Seen.Living.{ComesSo, MayCome}
use Rattle.circus_verdict.proofs.Possible.Sayable.{member_is_sayable}
use Rattle.circus_verdict.proofs.Possible.Whole.{declares_so}

octets : (bytes : List ℕ) → AreBytes bytes → AreOctets bytes
octets [] are k = omega arith
octets (x ∷ bytes) are zero = are.0
octets (x ∷ bytes) are (suc k) = octets bytes are.1 k

module _ (plan : Plan) (given : Given) where
  event_may : (event : Event) → CanCome plan given.node (Some event) → ComesSo plan.deployment given.node event
  event_may (comes.Datagram from bytes) can = record { other = (can.0.1, can.0.0); octets = octets bytes can.1 }
  event_may comes.Tick can = record { other = tt; octets = tt }
  event_may (comes.Down down) can = record { other = (can.1, can.0); octets = tt }
  event_may comes.Join can = record { other = tt; octets = tt }

  all_may : (events : List GivenEvent) → AllByRecursion (CanHappen plan given) events → AllByRecursion (MayCome plan.deployment given.node) events
  all_may [] can = tt
  all_may (e ∷ events) can = (λ event is. event_may event (subst (CanCome plan given.node) is can.0.event), all_may events can.1)

  pub they_may : IsPossible plan given → All (MayCome plan.deployment given.node) given.events
  they_may possible = All-from_recursion (MayCome plan.deployment given.node) given.events (all_may given.events possible.events)

  by_phase : (s : Signature) (events : ℕ) (kept : MemberRecord) (p : Joiner) → IsMember plan s events kept p → kept.from + length kept.runs ≤ 4294967296
  by_phase s events kept Outside is = (let none : kept.from + length kept.runs ≡ 0 = ap (λ (k : MemberRecord). k.from + length k.runs) is in omega (arith, none))
  by_phase s events kept Asking is = (let none : kept.from + length kept.runs ≡ 0 = ap (λ (k : MemberRecord). k.from + length k.runs) is in omega (arith, none))
  by_phase s events kept (Fetching incarnation) is = (let none : kept.from + length kept.runs ≡ 0 = ap (λ (k : MemberRecord). k.from + length k.runs) is in omega (arith, none))
  by_phase s events kept (Active since) is = (let few = is.runs.few in omega (arith, few))

  few_of : (events : ℕ) (hosted : Option ℕ) (member : Option MemberRecord) (views : Option (List View)) → IsKept plan events hosted member views → FewRuns member
  few_of events hosted None views is = tt
  few_of events (Some number) (Some kept) None is = by_phase is.0 events kept kept.phase is.2
  few_of events (Some number) (Some kept) (Some views) is = absurd is
  few_of events None (Some kept) views is = absurd is

  pub few_runs : IsPossible plan given → FewRuns given.member
  few_runs possible = few_of (length given.events) (troupe_at plan.deployment given.node) given.member given.views possible.kept

  -- ---- a member

  says_so : (number : ℕ) (b : Behaviour) (hosted : Option ℕ) (member : Option MemberRecord) (views : Option (List View)) → IsKept plan (length given.events) hosted member views → hosted ≡ Some number
      → slice_get (behaviours_in plan) number ≡ Some b → (kept : MemberRecord) → member ≡ Some kept → (modules : ℕ) → All (IsCounted modules) kept.runs → IsSayable b.declared modules kept
  says_so number b (Some own) (Some said) None is at there kept same modules counts =
      let own_is : own ≡ number = same_Some own number at in
      let kept_is : said ≡ kept = same_Some said kept same in
      let declared : is.0 ≡ b.declared = same_Some is.0 b.declared (sym is.1 ∙ ap (declared_by plan) own_is ∙ declares_so plan number b there) in
      subst (λ (s : Signature). IsSayable s modules kept) declared
      (member_is_sayable plan is.0 (length given.events) modules kept kept.phase counts (subst (λ (k : MemberRecord). IsMember plan is.0 (length given.events) k k.phase) kept_is is.2))
  says_so number b (Some own) (Some said) (Some views) is at there kept same modules counts = absurd is
  says_so number b (Some own) None views is at there kept same modules counts =
      absurd (let clash : ◌≡◌ {A = Option MemberRecord} None (Some kept) = same in cc)
  says_so number b None member views is at there kept same modules counts = absurd (let clash : ◌≡◌ {A = Option ℕ} None (Some number) = at in cc)

  pub may_say : IsPossible plan given → MaySay plan.deployment (behaviours_in plan) given
  may_say possible number b kept at there member_is counts =
      says_so number b (troupe_at plan.deployment given.node) given.member given.views possible.kept at there kept member_is (length plan.deployment.troupes) counts
