-- What is said of the record of a node that hosts a member, by the module that stands in its place.
use Rattle.std.specs.Prelude.{slice_get}
use Rattle.std.proofs.Common.{◌≡◌, ℕ, ◌+◌, ◌<◌, ◌≤◌, Bool, true, false, List, [], length, map, get_or, All, None, Some, sym, ap, subst, ◌∙◌, arith}
use Rattle.std.proofs.lemmas.List.Elements.{All-nil}
use Rattle.circus_value.specs.ValueTree.{ValueTree}
use Rattle.circus_value.specs.declared.outcome.Outcome.{Outcome}
use Rattle.circus_collate.specs.Deployment.{IsDeployment}
use Rattle.circus_collate.specs.declared.deployment.Deployment.{Deployment}
use Rattle.circus_collate.specs.declared.deployment.Troupe.{Troupe}
use Rattle.circus_ring.specs.RingTable.{boot_views}
use Rattle.circus_model.specs.Behaviour.{Behaviour, behaviours, IsModule}
use Rattle.circus_model.specs.NextTurn.{NextTurn}
use Rattle.circus_model.specs.declared.signature.Signature.{Signature}
use Rattle.circus_record.specs.declared.record.MemberRecord.{MemberRecord}
use Rattle.circus_performing.specs.Performing.{before_any, is_active}
use Rattle.circus_performing.specs.Record.{behaviour}
use Rattle.circus_member_rules.specs.Happening.{IsHome}
use Rattle.circus_node.specs.Booting.{home_of, AreOfTroupes}
use Rattle.circus_node.specs.declared.home.Home.{Home}
use Rattle.circus_world.specs.Legal.{is_spare}
use Rattle.circus_audit.specs.declared.given.Given.{Given}
use Rattle.circus_audit.specs.declared.given.GivenEvent.{GivenEvent}
use Rattle.circus_dues.specs.Seen.Sound.{IsSayable, IsSayableRun}
use Rattle.circus_verdict.specs.Audited.{JoinsSo, IsAudited}
use Rattle.circus_verdict.specs.Verdict.{StandsWhereActive}
use Rattle.circus_verdict.specs.Seen.Judging.{HasRunSo, IsCounted, MaySay, whole_record}
use Rattle.circus_verdict.specs.Seen.Living.{IsMemberAt, IsOf, HasRunThrough, HaveNoRun}
use Rattle.circus_verdict.proofs.Evaluated as evaluated
use Rattle.circus_verdict.proofs.Hosted as hosted

-- ---- the record that is lived through

module _ (said nothing : MemberRecord) (start : List ValueTree) (nothing_is : nothing ≡ before_any said.phase start) where
  pub whole_few : (active : Bool) → said.from + length said.runs ≤ 4294967296 → (whole_record active said nothing).from + length (whole_record active said nothing).runs ≤ 4294967296
  whole_few true few = few
  whole_few false few = (let none : nothing.from + length nothing.runs ≡ 0 = ap (λ (k : MemberRecord). k.from + length k.runs) nothing_is in omega (arith, none))

  pub whole_sayable : (active : Bool) (s : Signature) (modules : ℕ) → IsSayable s modules said → IsSayable s modules (whole_record active said nothing)
  whole_sayable true s modules sayable = sayable
  whole_sayable false s modules sayable = subst (IsSayable s modules) (sym nothing_is) (All-nil (IsSayableRun s modules))

  pub whole_apart : (active : Bool) → active ≡ is_active said.phase → is_active (whole_record active said nothing).phase ≡ false → ((whole_record active said nothing).from ≡ 0) × ((whole_record active said nothing).active_at ≡ 0)
  whole_apart true is apart = absurd (let clash : true ≡ false = is ∙ apart in cc)
  whole_apart false is apart = (ap (λ (k : MemberRecord). k.from) nothing_is, ap (λ (k : MemberRecord). k.active_at) nothing_is)

-- ---- what is said of it

module _ {M : Type 0} (declared : M → Signature) (turn : M → List ValueTree → ℕ → List ValueTree → List Outcome → NextTurn) (first : M → List ValueTree) (lawful : (m : M) → IsModule (behaviour declared turn first m))
    (d : Deployment) (modules : List M) (given : Given) (home : Home) (good : IsDeployment d) (fit : AreOfTroupes d (map declared modules)) (within : given.node < length d.nodes) (is : home_of d given.node ≡ Some home) where
  pub place_within : (place : ℕ) → place ≡ home.place.troupe → place < length modules
  place_within place same = (let few = hosted.troupe_within declared turn first lawful d modules given.node home good fit within is in omega (arith, few, same))

  module _ (place : ℕ) (m : M) (place_is : place ≡ home.place.troupe) (m_is : m ≡ get_or modules place m) where
    abbrev program : List Behaviour
    program = behaviours declared turn first modules

    abbrev pub does : Behaviour
    does = behaviour declared turn first m

    there : slice_get modules home.place.troupe ≡ Some m
    there = hosted.there_is declared turn first lawful d modules given.node home good fit within is place m place_is m_is

    abbrev pub number : ℕ
    number = (hosted.s declared turn first lawful d modules given.node home good fit within is).number

    abbrev pub troupe : Troupe
    troupe = (hosted.s declared turn first lawful d modules given.node home good fit within is).troupe

    at_home : IsHome (declared m) home.place (boot_views d.troupes)
    at_home = hosted.hosted_home declared turn first lawful d modules given.node home good fit within is m there

    pub home_there : (s : Signature) → s ≡ declared m → IsHome s home.place (boot_views d.troupes)
    home_there s same = subst (λ (x : Signature). IsHome x home.place (boot_views d.troupes)) (sym same) at_home

    at : IsMemberAt d does given.node number troupe
    at = hosted.hosted_at declared turn first lawful d modules given.node home good fit within is m there

    is_hosted : slice_get program number ≡ Some does
    is_hosted = hosted.hosted_is declared turn first lawful d modules given.node home good fit within is m there

    pub of_it : (s : Signature) → s ≡ declared m → IsOf d home s does given.node number troupe
    of_it s same = (let o = hosted.hosted_of declared turn first lawful d modules given.node home good fit within is m there in record { at = o.at; home_is = o.home_is; declares = same })

    pub sayable_there : MaySay d program given → (said : MemberRecord) → given.member ≡ Some said → All (IsCounted (length d.troupes)) said.runs → (s : Signature) → s ≡ declared m → IsSayable s (length d.troupes) said
    sayable_there may said member_is counted s same =
        subst (λ (x : Signature). IsSayable x (length d.troupes) said) (sym same) (may number does said at.hosts is_hosted member_is counted)

    module _ (events : List GivenEvent) (are : given.events ≡ events) where
      pub not_said : given.member ≡ None → IsAudited d program given → ⊥
      not_said = evaluated.none_said d program given does number troupe at is_hosted events are

      module _ (said : MemberRecord) (member_is : given.member ≡ Some said) where
        pub not_counted : (All (IsCounted (length d.troupes)) said.runs → ⊥) → IsAudited d program given → ⊥
        not_counted = evaluated.not_counted d program given does number troupe at is_hosted events are said member_is

        module _ (active : Bool) (active_is : active ≡ is_active said.phase) where
          pub says_more : ((active ≡ false → said ≡ before_any said.phase []) → ⊥) → IsAudited d program given → ⊥
          says_more more a = by_active active active_is more
            where
              by_active : (x : Bool) → x ≡ is_active said.phase → ((x ≡ false → said ≡ before_any said.phase []) → ⊥) → ⊥
              by_active true is never = never (λ no. absurd (let clash : true ≡ false = no in cc))
              by_active false is never = evaluated.says_more d program given does number troupe at is_hosted events are said member_is (sym is) (λ alone. never (λ no. alone)) a

          module _ (nothing : MemberRecord) (nothing_is : nothing ≡ before_any said.phase (first m)) where
            pub no_run : HaveNoRun d does given.node number troupe (whole_record active said nothing) events → IsAudited d program given → ⊥
            no_run none = by_active active active_is none
              where
                by_active : (x : Bool) → x ≡ is_active said.phase → HaveNoRun d does given.node number troupe (whole_record x said nothing) events → IsAudited d program given → ⊥
                by_active true is none = evaluated.none_active d program given does number troupe at is_hosted events are said member_is (sym is) none
                by_active false is none =
                    evaluated.none_apart d program given does number troupe at is_hosted events are said member_is (sym is)
                    (subst (λ (k : MemberRecord). HaveNoRun d does given.node number troupe k events) nothing_is none)

            pub run_apart : active ≡ false → (active ≡ false → said ≡ before_any said.phase []) → JoinsSo (is_spare d given.node) given.events → (begun : List ValueTree)
                → HasRunThrough d does given.node number troupe (whole_record active said nothing) events begun → IsAudited d program given × StandsWhereActive d program given
            run_apart inactive alone joins begun r =
                evaluated.ran_apart d program given does number troupe at is_hosted events are said member_is (sym active_is ∙ inactive) (alone inactive) joins begun
                (subst (λ (k : MemberRecord). HasRunThrough d does given.node number troupe k events begun) nothing_is
                (subst (λ x. HasRunThrough d does given.node number troupe (whole_record x said nothing) events begun) inactive r))

            pub run_active : active ≡ true → JoinsSo (is_spare d given.node) given.events → (begun : List ValueTree) → HasRunThrough d does given.node number troupe (whole_record active said nothing) events begun
                → HasRunSo d program given said begun
            run_active on joins begun r =
                evaluated.ran_active d program given does number troupe at is_hosted events are said (sym active_is ∙ on) joins begun
                (subst (λ x. HasRunThrough d does given.node number troupe (whole_record x said nothing) events begun) on r)
