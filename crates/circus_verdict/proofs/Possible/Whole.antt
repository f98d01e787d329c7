-- What a node run says may stand in a record of the node.
use Rattle.std.specs.List.{AllByRecursion}
use Rattle.std.specs.Option.{option_map_or}
use Rattle.std.specs.Prelude.{slice_get, option_map}
use Rattle.std.proofs.Common.{◌≡◌, ℕ, suc, ◌+◌, ◌-◌, ◌<◌, false, List, [], ◌∷◌, map, length, Option, None, Some, refl, sym, ap, subst, ◌∙◌, arith, length-append}
use Rattle.circus_limits.specs.Limits.{limit_of}
use Rattle.circus_value.specs.Parts.{AreOctets}
use Rattle.circus_collate.specs.declared.deployment.Troupe.{Troupe}
use Rattle.circus_ring.specs.RingTable.{boot_views}
use Rattle.circus_transfer.specs.declared.joiner.Joiner.{Joiner}
use Rattle.circus_transfer.specs.declared.joiner.Joiner.TheVariants.{Outside, Asking, Fetching, Active}
use Rattle.circus_model.specs.Agree.{IsAt}
use Rattle.circus_model.specs.Behaviour.{Behaviour, IsModule}
use Rattle.circus_check.specs.Resolved.{module_as}
use Rattle.circus_modules.specs.Behaviours.{behaviour_of}
use Rattle.circus_modules.specs.Signatures.{signature_of, interface_numbers}
use Rattle.circus_config.specs.declared.plan.Plan.{Plan}
use Rattle.circus_plan_modules.specs.Loaded.{behaviours_in}
use Rattle.circus_plan_modules.proofs.Places.{of_map}
use Rattle.circus_record.specs.declared.record.MemberRecord.{MemberRecord}
use Rattle.circus_performing.specs.Performing.{is_active}
use Rattle.circus_performing.proofs.Records.{none_is_some}
use Rattle.circus_member_rules.specs.declared.occurrence.Difference.{Difference}
use Rattle.circus_member_rules.specs.declared.occurrence.Occurrence.{Occurrence}
use Rattle.circus_member_theory.specs.Past.{Past}
use Rattle.circus_node.specs.Accepting.{troupe_at}
use Rattle.circus_node.specs.Booting.{home_in, IsOfTroupe}
use Rattle.circus_node.specs.Trace as trace
use Rattle.circus_node.specs.Trace.{Trace}
use Rattle.circus_node.specs.declared.event.Event.{Event}
use Rattle.circus_node.specs.declared.event.Event.TheVariants as comes
use Rattle.circus_world_theory.specs.NodeLives.{IsOfBytes}
use Rattle.circus_headline_theory.specs.Datagrams.Lives.{IsOfOther}
use Rattle.circus_headline_theory.specs.NodeRun.{past_of, IsNodeRun}
use Rattle.circus_headline_theory.specs.Owed.Living.{told_in}
use Rattle.circus_headline_theory.specs.ServedRun.{IsNumbered}
use Rattle.circus_headline_theory.specs.Trace.{now, ComesFromOthers, told_of}
use Rattle.circus_audit.specs.Possible.{AreBytes, CanCome, CanBeGiven, IsMember, IsKept, CanDiffer, CanHappen, IsPossible, declared_by}
use Rattle.circus_audit.specs.declared.given.Given.{Given}
use Rattle.circus_audit.specs.declared.given.GivenEvent.{GivenEvent}
use Rattle.circus_verdict.specs.Audited.{events_in, said_in, said_of}
use Rattle.circus_verdict.proofs.Auditing.{rises}
use Rattle.circus_verdict.proofs.Possible.Differing.{all_both, all_parts, all_unmapped, DiffersWell, all_differ_well, IsOfRecord, of_record, replies_to_it, run_number}
use Rattle.circus_verdict.proofs.Possible.Hearing.{HearsOctets, all_well, rises_so, RisesSo}
use Rattle.circus_verdict.proofs.Possible.Members.{is_active_member, few_runs, asks_well}
use Rattle.circus_verdict.proofs.Possible.Occurring.{IsWell}
use Rattle.circus_verdict.proofs.Possible.Pasts.{Each}

-- ---- bytes

pub bytes_of_octets : (bytes : List ℕ) → AreOctets bytes → AreBytes bytes
bytes_of_octets [] octets = tt
bytes_of_octets (x ∷ bytes) octets = (let low = octets 0 in omega (arith, low), bytes_of_octets bytes (λ k. octets (suc k)))

-- ---- events

pub length_is : (t : Trace) → IsNumbered t → length (events_in t) ≡ now t + 1
length_is (trace.booted made outputs) numbered = refl
length_is (trace.stepped t at event made outputs) numbered =
    let before = length_is t numbered.0 in
    let at_is = numbered.1 in
    length-append (events_in t) (record { event = Some event; gives = outputs.gives; differences = outputs.differences } ∷ []) ∙ omega (arith, before, at_is)

-- what a node gives goes to others, and is bytes
abbrev pub GivesWell : Plan → ℕ → Trace → Type 0
GivesWell plan node (trace.booted made outputs) = AllByRecursion (CanBeGiven plan node) outputs.gives
GivesWell plan node (trace.stepped t at event made outputs) = GivesWell plan node t × AllByRecursion (CanBeGiven plan node) outputs.gives

module _ (plan : Plan) (node : ℕ) (hosted : Option ℕ) (member : Option MemberRecord) where
  abbrev Differs : Difference → Type 0
  Differs d = CanDiffer plan node hosted member d

  abbrev DiffersIn : ℕ × Difference → Type 0
  DiffersIn e = Differs e.1

  pub record HappensWell (e : GivenEvent) : Type 0 where
    pub event : CanCome plan node e.event
    pub gives : AllByRecursion (CanBeGiven plan node) e.gives
    pub differences : AllByRecursion Differs e.differences

  came_well : (event : Event) → IsOfOther plan.deployment node event → IsOfBytes event → CanCome plan node (Some event)
  came_well (comes.Datagram from bytes) other octets = ((other.1, other.0), bytes_of_octets bytes octets)
  came_well comes.Tick other octets = tt
  came_well (comes.Down down) other octets = (other.1, other.0)
  came_well comes.Join other octets = tt

  pub events_well : (t : Trace) → ComesFromOthers plan.deployment node t → GivesWell plan node t → AllByRecursion DiffersIn (told_of t) → AllByRecursion HappensWell (events_in t)
  events_well (trace.booted made outputs) others gives told =
      (record { event = tt; gives = gives; differences = all_unmapped DiffersIn (λ (d : Difference). (0, d)) outputs.differences told }, tt)
  events_well (trace.stepped t at event made outputs) others gives told =
      let parts = all_parts DiffersIn (told_of t) (told_in at outputs.differences) told in
      all_both HappensWell (events_in t) (record { event = Some event; gives = outputs.gives; differences = outputs.differences } ∷ [])
      (events_well t others.0 gives.0 parts.0) (
        record {
          event = came_well event others.1 others.2;
          gives = gives.1;
          differences = all_unmapped DiffersIn (λ (d : Difference). (at, d)) outputs.differences parts.1;
        },
        tt,
      )

pub happens_so : (plan : Plan) (given : Given) (events : List GivenEvent)
    → AllByRecursion (HappensWell plan given.node (troupe_at plan.deployment given.node) given.member) events → AllByRecursion (CanHappen plan given) events
happens_so plan given [] all = tt
happens_so plan given (e ∷ events) all =
    (record { event = all.0.event; gives = all.0.gives; differences = all.0.differences }, happens_so plan given events all.1)

-- ---- what the module of a number declares

pub declares_so : (plan : Plan) (number : ℕ) (b : Behaviour) → IsAt (behaviours_in plan) number b → declared_by plan number ≡ Some b.declared
declares_so plan number b at =
    let limit = limit_of plan.deployment.format in
    let modules = map module_as plan.checked.modules in
    let numbers = interface_numbers modules in
    let o = of_map (behaviour_of limit plan.checked.interfaces numbers) modules number b at in
    ap (option_map (signature_of limit plan.checked.interfaces numbers)) o.there ∙ ap (λ (x : Behaviour). Some x.declared) (sym o.is)

-- ---- a member

module _ (plan : Plan) (named : length plan.names ≡ length plan.deployment.troupes) (b : Behaviour) (lawful : IsModule b) (node number : ℕ) (troupe : Troupe)
    (of_troupe : IsOfTroupe plan.deployment number b.declared) (hosts : troupe_at plan.deployment node ≡ Some number) (at : IsAt (behaviours_in plan) number b)
    (kept : MemberRecord) (t : Trace) (run : IsNodeRun plan.deployment b node number troupe t kept) (numbered : IsNumbered t)
    (others : ComesFromOthers plan.deployment node t) (octets : HearsOctets plan.deployment node t) where
  abbrev p : Past
  p = past_of plan.deployment b node number troupe kept t

  abbrev Well : Occurrence → Type 0
  Well o = IsWell plan named b.declared node number kept o

  well : Each Well p
  well = all_well plan named b node number troupe kept t others octets

  rising : RisesSo plan named b node number troupe kept t
  rising = rises_so plan named b node number troupe kept t (rises t numbered)

  abbrev events : ℕ
  events = length (events_in t)

  -- what is said of it
  is_member : (phase : Joiner) → kept.phase ≡ phase → IsMember plan b.declared events (said_in phase kept) (said_in phase kept).phase
  is_member Outside is = refl
  is_member Asking is = refl
  is_member (Fetching incarnation) is = refl
  is_member (Active first) is =
      subst (IsMember plan b.declared events kept) (sym is)
      (is_active_member plan named b lawful node number troupe of_troupe kept t run well rising events (length_is t numbered) first is)

  pub kept_well : IsKept plan events (troupe_at plan.deployment node) (Some (said_of kept)) None
  kept_well =
      subst (λ (o : Option ℕ). IsKept plan events o (Some (said_of kept)) None) (sym hosts) (b.declared, declares_so plan number b at, is_member kept.phase refl)

  -- the differences that it told
  differs_so : (d : Difference) → DiffersWell plan named b.declared node number kept d → CanDiffer plan node (troupe_at plan.deployment node) (Some (said_of kept)) d
  differs_so d is = by_phase kept.phase refl
    where
      of : IsOfRecord plan named b.declared node number kept d is.ask
      of = of_record plan named b.declared node number kept d is.ask is.there

      inactive : (phase : Joiner) → kept.phase ≡ phase → is_active phase ≡ false → CanDiffer plan node (troupe_at plan.deployment node) (Some (said_in phase kept)) d
      inactive phase is_phase apart =
          absurd (none_is_some (sym (ap (λ l. slice_get l (d.run - kept.from)) (run.follows.inactive (ap is_active is_phase ∙ apart))) ∙ of.named_so.is_run))

      by_phase : (phase : Joiner) → kept.phase ≡ phase → CanDiffer plan node (troupe_at plan.deployment node) (Some (said_in phase kept)) d
      by_phase Outside is_phase = inactive Outside is_phase refl
      by_phase Asking is_phase = inactive Asking is_phase refl
      by_phase (Fetching incarnation) is_phase = inactive (Fetching incarnation) is_phase refl
      by_phase (Active first) is_phase =
          let few = (asks_well plan named b lawful node number troupe of_troupe kept t run well rising events (length_is t numbered) (d.run - kept.from) of.named_so.run d.ask is.ask of.named_so.is_run
          of.named_so.is_ask).1 in
          record {
            s = b.declared;
            declared = ap (λ (o : Option ℕ). option_map_or (declared_by plan) o None) hosts ∙ declares_so plan number b at;
            kept = kept;
            is_kept = refl;
            ask = is.ask;
            named = of.named_so;
            run = run_number plan named b.declared node number kept d is.ask of.named_so (few_runs plan named b lawful node number troupe of_troupe kept t run well rising events (length_is t numbered));
            number = omega (arith, few);
            first = replies_to_it plan named b.declared node number kept d is.ask d.first d.first_reply of is.first;
            second = replies_to_it plan named b.declared node number kept d is.ask d.second d.second_reply of is.second;
          }

  all_differ : (ds : List (ℕ × Difference)) → AllByRecursion (λ (e : ℕ × Difference). DiffersWell plan named b.declared node number kept e.1) ds
      → AllByRecursion (λ (e : ℕ × Difference). CanDiffer plan node (troupe_at plan.deployment node) (Some (said_of kept)) e.1) ds
  all_differ [] all = tt
  all_differ (e ∷ ds) all = (differs_so e.1 all.0, all_differ ds all.1)

  pub told_well : AllByRecursion (λ (e : ℕ × Difference). CanDiffer plan node (troupe_at plan.deployment node) (Some (said_of kept)) e.1) (told_of t)
  told_well =
      subst (AllByRecursion (λ (e : ℕ × Difference). CanDiffer plan node (troupe_at plan.deployment node) (Some (said_of kept)) e.1)) (sym run.makes.differed)
      (all_differ _
      (all_differ_well plan named b.declared node number kept (home_in plan.deployment node number troupe).place (boot_views plan.deployment.troupes) p well))

  -- the whole
  pub member_possible : node < length plan.deployment.nodes → GivesWell plan node t
      → IsPossible plan (record { node = node; events = events_in t; member = Some (said_of kept); views = None })
  member_possible within gives =
      let given : Given = record { node = node; events = events_in t; member = Some (said_of kept); views = None } in
      record {
        node = within;
        events = happens_so plan given (events_in t) (events_well plan node (troupe_at plan.deployment node) (Some (said_of kept)) t others gives told_well);
        kept = kept_well;
      }
