-- Where lines deliver datagrams alone, each member of the last world is calm.
use Rattle.std.proofs.Common.{◌≡◌, inl, inr, ℕ, ◌+◌, ◌<◌, ◌≤◌, true, List, [], ◌∷◌, length, map, All, Option, None, Some, refl, sym, ap, subst, ◌∙◌}
use Rattle.std.specs.Prelude.{slice_get, flat_map, option_map, option_and_then, if◌then◌else◌}
use Rattle.std.proofs.lemmas.List.Elements.{All-head, All-weaker}
use Rattle.std.proofs.lemmas.Option.{none-some, same_Some, slice_get_within}
use Rattle.circus_value.specs.ValueTree.{ValueTree}
use Rattle.circus_value.specs.declared.caller.Caller.{Caller}
use Rattle.circus_value.specs.declared.outcome.Outcome.{Outcome}
use Rattle.circus_value.specs.Among.{is_among}
use Rattle.circus_header.specs.declared.call.CallHeader.{CallHeader}
use Rattle.circus_collate.specs.declared.deployment.Deployment.{Deployment}
use Rattle.circus_collate.specs.declared.deployment.Troupe.{Troupe}
use Rattle.circus_ring.specs.RingTable.{Kept, boot_views}
use Rattle.circus_model.specs.NextTurn.{NextTurn}
use Rattle.circus_model.specs.Behaviour.{Behaviour, IsModule, behaviours}
use Rattle.circus_model.specs.declared.signature.Signature.{Signature}
use Rattle.circus_model.proofs.Threads.{are_modules}
use Rattle.circus_gather.specs.declared.held.HeldCall.{HeldCall}
use Rattle.circus_performing.specs.Performing.{last_count}
use Rattle.circus_performing.specs.Record.{behaviour}
use Rattle.circus_pair.specs.Taken.{total_in, has_arrived}
use Rattle.circus_pair.specs.Acts.{none_yet}
use Rattle.circus_pair.specs.Handed.{calls_made as made_}
use Rattle.circus_wire.specs.WireActs.{WireActs, begun, purpose_of}
use Rattle.circus_wire.specs.WireStanding.{pair_of}
use Rattle.circus_member_rules.specs.declared.occurrence.Effect.{Effect}
use Rattle.circus_member_rules.specs.declared.occurrence.Effect.TheVariants as made
use Rattle.circus_member_rules.specs.declared.occurrence.Purpose.{Purpose}
use Rattle.circus_member_rules.specs.declared.occurrence.Purpose.TheVariants as for
use Rattle.circus_member_rules.specs.declared.place.Beginning.TheVariants.{Founder, Spare}
use Rattle.circus_member_rules.specs.declared.place.Place.{Place}
use Rattle.circus_member_theory.proofs.Resting.{boot_rests}
use Rattle.circus_member_rules.specs.Happening.{IsHome}
use Rattle.circus_member_rules.specs.MemberState.{MemberState, Doing}
use Rattle.circus_member_rules.specs.Step as member_step
use Rattle.circus_node.specs.Accepting.{troupe_at, is_root}
use Rattle.circus_node.specs.NodeState.{Acting, member, ringmaster}
use Rattle.circus_node.specs.Making.{Made}
use Rattle.circus_node.specs.Booting.{CanBoot, IsOfTroupe, home_in, home_of, member_at_boot, made_at_boot, fresh_wire}
use Rattle.circus_node.proofs.BootLemmas.{is_home}
use Rattle.circus_node.proofs.TroupeLemmas.{hosted_can_boot}
use Rattle.circus_schedule.specs.declared.line.Line.{Line}
use Rattle.circus_world.specs.WorldState.{WorldState, Standing}
use Rattle.circus_world.proofs.SlotLemmas.{get_there, all_at}
use Rattle.circus_world_theory.specs.Histories.{beginning_of, acts_of}
use Rattle.circus_world_theory.specs.NodeActs.{with_all, handed_by}
use Rattle.circus_world_theory.specs.Worlds.{IsWorldOf}
use Rattle.circus_world_theory.proofs.Proper.{fits, are_proper}
use Rattle.circus_world_theory.proofs.Handing.{IsMade, boot_said}
use Rattle.circus_world_theory.proofs.Saying.{AllSaid}
use Rattle.circus_world_theory.proofs.Stepping.{CalledAt, NodesTrue}
use Rattle.circus_world_theory.proofs.True.{IsTrueAt, ActsTrue}
use Rattle.circus_world_theory.specs.Made.{act_of}
use Rattle.circus_world_theory.proofs.Border.Hosting.{IsOtherOf}
use Rattle.circus_world_theory.proofs.Border.Whole.{nothing_is_dropped, boots_hand_all}
use Rattle.circus_world_theory.specs.Quiet.{IsDelivery}
use Rattle.circus_world_theory.proofs.Quiescence.Acts.{made_purpose, purpose_from, purpose_next, handed_arrived}
use Rattle.circus_world_theory.proofs.Quiescence.Booting.{few_runs, BootsQuietly, boots_quietly}
use Rattle.circus_world_theory.proofs.Quiescence.Calm.{Arrived, IsCalm}
use Rattle.circus_world_theory.proofs.Quiescence.CalmSteps.{AnyCall, EarlyReturn, NodesCalm, delivered_calm, lead_hands}
use Rattle.circus_world_theory.proofs.Quiescence.Founders.{boot_others}
use Rattle.circus_world_theory.proofs.Quiescence.Course.{own_of, at_boot, boot_live}
use Rattle.circus_world_theory.proofs.Quiescence.Quietly.{first_views}
use Rattle.circus_world_theory.proofs.Quiescence.QuietNodes.{NodesQuiet, delivered_true, delivered_quiet}
use Rattle.circus_world_theory.proofs.Quiescence.QuietWorlds.{one_each, true_at_boot, quiet_at_boot, began, boots_at}
use Rattle.circus_world_theory.proofs.Quiescence.Staying.{EffectSo}

nothing_arrived : (kind k : ℕ) → has_arrived [] kind k ≡ true → ⊥
unfolding has_arrived total_in
nothing_arrived kind k is = cc

-- nothing has come yet
abbrev Nobody : Caller → CallHeader → List ℕ → Type 0
Nobody caller header body = ⊥

none_held : (held : List HeldCall) → All (λ (c : HeldCall). Nobody c.sender c.header c.body) held → held ≡ []
none_held [] all = refl
none_held (c ∷ held) all = absurd (All-head (λ (x : HeldCall). Nobody x.sender x.header x.body) c held all)

module _ {M : Type 0} (declared : M → Signature) (turn : M → List ValueTree → ℕ → List ValueTree → List Outcome → NextTurn) (first : M → List ValueTree)
    (lawful : (hosted : M) → IsModule (behaviour declared turn first hosted))
    (d : Deployment) (modules : List M) (hosted : List (Option M)) (lines : List Line) (booted last : WorldState M)
    (world : IsWorldOf declared turn first d modules hosted lines booted last) where
  abbrev pub program : List Behaviour
  program = behaviours declared turn first modules

  abbrev pub many : length program ≡ length d.troupes
  many = one_each declared turn first lawful d modules hosted lines booted last world

  abbrev pub Calm : (ℕ → WireActs Purpose) → WorldState M → Type 0
  Calm acts w = NodesCalm declared turn first lawful program world.agree (are_modules declared turn first modules lawful) (are_proper declared turn first d modules world.troupes) d world.deployment many (fits declared turn first d modules world.troupes) acts w

  abbrev pub Quiet : (ℕ → WireActs Purpose) → WorldState M → Type 0
  Quiet acts w = NodesQuiet declared turn first lawful program world.agree (are_modules declared turn first modules lawful) (are_proper declared turn first d modules world.troupes) d world.deployment many acts w

  abbrev begins : ℕ → WireActs Purpose
  begins = at_boot declared turn first d hosted

  -- ---- at boot

  -- a node boots with a member
  record BootsAs (node : ℕ) (own : Option M) : Type 0 where
    number : ℕ
    one : Troupe
    module_ : M
    own_is : own ≡ Some module_
    hosts : troupe_at d node ≡ Some number
    there : slice_get d.troupes number ≡ Some one
    made_is : made_at_boot declared turn first d (home_of d node) own ≡ member_at_boot declared turn first d (home_in d node number one) module_

  no_member : (kept : Kept) (m : MemberState M) → ◌≡◌ {A = Acting M} (ringmaster kept) (member m) → ⊥
  no_member kept m is = cc

  boots_as : (node : ℕ) (own : Option M) (m : MemberState M) → (made_at_boot declared turn first d (home_of d node) own).acting ≡ member m → BootsAs node own
  boots_as node own m acting = by_number (troupe_at d node) refl acting
    where
      by_own : (number : ℕ) (one : Troupe) → troupe_at d node ≡ Some number → slice_get d.troupes number ≡ Some one → (o : Option M) → own ≡ o → (made_at_boot declared turn first d (Some (home_in d node number one)) o).acting ≡ member m → BootsAs node own
      by_own number one hosts there None is acts = absurd (no_member _ m acts)
      by_own number one hosts there (Some module_) is acts = record {
        number = number;
        one = one;
        module_ = module_;
        own_is = is;
        hosts = hosts;
        there = there;
        made_is =
            ap (λ h. made_at_boot declared turn first d h own) (ap (option_and_then (λ n. option_map (home_in d node n) (slice_get d.troupes n))) hosts ∙ ap (option_map (home_in d node number)) there)
            ∙ ap (made_at_boot declared turn first d (Some (home_in d node number one))) is;
      }

      by_troupe : (number : ℕ) → troupe_at d node ≡ Some number → (t : Option Troupe) → slice_get d.troupes number ≡ t → (made_at_boot declared turn first d (option_map (home_in d node number) t) own).acting ≡ member m → BootsAs node own
      by_troupe number hosts None there acts = absurd (no_member _ m acts)
      by_troupe number hosts (Some one) there acts = by_own number one hosts there own refl acts

      by_number : (o : Option ℕ) → troupe_at d node ≡ o → (made_at_boot declared turn first d (option_and_then (λ n. option_map (home_in d node n) (slice_get d.troupes n)) o) own).acting ≡ member m → BootsAs node own
      by_number None hosts acts = absurd (no_member _ m acts)
      by_number (Some number) hosts acts = by_troupe number hosts (slice_get d.troupes number) refl acts

  module _ (node : ℕ) (s : Standing M) (m : MemberState M) (at : slice_get booted.nodes node ≡ Some s) (acting : s.node.acting ≡ member m) where
    abbrev own : Option M
    own = own_of declared turn first d hosted node

    acts_so : (made_at_boot declared turn first d (home_of d node) own).acting ≡ member m
    acts_so = sym (boots_at declared turn first lawful d modules hosted lines booted last world node s at).acting ∙ acting

    as_ : BootsAs node own
    as_ = boots_as node own m acts_so

    abbrev boot_doing : Doing M
    boot_doing = member_step.boot_member declared turn first (home_in d node as_.number as_.one).place (boot_views d.troupes) (home_in d node as_.number as_.one).beginning as_.module_

    same_member : (x y : MemberState M) → ◌≡◌ {A = Acting M} (member x) (member y) → x ≡ y
    same_member x y is = cc

    member_is : boot_doing.member ≡ m
    member_is = same_member boot_doing.member m (sym (ap (λ (x : Made M). x.acting) as_.made_is) ∙ acts_so)

    effects_are : (made_at_boot declared turn first d (home_of d node) own).came.effects ≡ boot_doing.effects
    effects_are = ap (λ (x : Made M). x.came.effects) as_.made_is

    below : node < length hosted
    below = subst (λ k. node < k) (sym world.hosts.one_each) (subst (λ k. node < k) (began declared turn first lawful d modules hosted lines booted last world).all (slice_get_within booted.nodes node s at))

    can : CanBoot d node (option_map declared own)
    can =
        let host = get_there hosted node below in
        let own_is : own ≡ host.0 = ap (option_and_then (λ (o : Option M). o)) host.1 in
        subst (λ (o : Option M). CanBoot d node (option_map declared o)) (sym own_is)
        (hosted_can_boot declared turn first d modules node host.0 world.deployment world.troupes (subst (λ k. node < k) world.hosts.one_each below) (world.hosts.each node host.0 host.1))

    of_troupe : IsOfTroupe d as_.number (declared as_.module_)
    of_troupe = can.fits as_.number (declared as_.module_) as_.hosts (ap (option_map declared) as_.own_is)

    true_there : IsTrueAt declared turn first program d (CalledAt d begins node) as_.number m
    true_there =
        subst (λ o. ActsTrue declared turn first program d (CalledAt d begins node) o (member m)) as_.hosts
        (subst (λ a. ActsTrue declared turn first program d (CalledAt d begins node) (troupe_at d node) a) acting ((true_at_boot declared turn first lawful d modules hosted lines booted last world).nodes node s at))

    few : length m.performing.kept.runs ≤ last_count
    few = few_runs program world.agree (are_modules declared turn first modules lawful) as_.number (first m.performing.hosted) m.performing.kept true_there.rested.sound.kept.inactive true_there.is.stands

    home : IsHome (declared as_.module_) (home_in d node as_.number as_.one).place (boot_views d.troupes)
    home = is_home d node (home_in d node as_.number as_.one) (declared as_.module_) world.deployment
        (ap (option_and_then (λ n. option_map (home_in d node n) (slice_get d.troupes n))) as_.hosts ∙ ap (option_map (home_in d node as_.number)) as_.there) of_troupe

    boots : BootsQuietly declared turn first lawful Nobody (home_in d node as_.number as_.one).place (boot_views d.troupes) (first_views 0 d.troupes) as_.module_ home (home_in d node as_.number as_.one).beginning boot_doing
    boots = boots_quietly declared turn first lawful Nobody (home_in d node as_.number as_.one).place (boot_views d.troupes) (first_views 0 d.troupes) as_.module_ home (home_in d node as_.number as_.one).beginning
        (subst (λ (x : MemberState M). length x.performing.kept.runs ≤ last_count) (sym member_is) few)

    -- all that it makes is handed over
    begins_are : begins node ≡ with_all begun (map act_of boot_doing.effects)
    begins_are =
        let host = get_there hosted node below in
        let own_is : own ≡ host.0 = ap (option_and_then (λ (o : Option M). o)) host.1 in
        let h = boots_hand_all declared turn first lawful d modules hosted lines booted last world node (subst (λ k. node < k) world.hosts.one_each below) host.0 host.1 in
        ap (λ (o : Option M). with_all begun (flat_map (handed_by (fresh_wire d node)) (made_at_boot declared turn first d (home_of d node) o).came.effects)) own_is
        ∙ ap (λ l. with_all begun l) h.all
        ∙ ap (λ (o : Option M). with_all begun (map act_of (made_at_boot declared turn first d (home_of d node) o).came.effects)) (sym own_is)
        ∙ ap (λ es. with_all begun (map act_of es)) effects_are

    none_arrived : (other kind k : ℕ) → Arrived (beginning_of d node) (with_all begun (map act_of boot_doing.effects)) other kind k → ⊥
    none_arrived other kind k arrived =
        let before : has_arrived [] kind k ≡ true = sym (handed_arrived (beginning_of d node) begun boot_doing.effects other kind k) ∙ arrived in
        nothing_arrived kind k before

    -- each other node is called once at most
    next_at : (other k callee index number : ℕ) → purpose_of (pair_of (beginning_of d node)) other (with_all begun (map act_of boot_doing.effects)) k ≡ Some (for.Ask (record { run = index; ask = number }) callee) → k ≡ 0 + made_ none_yet
    next_at other k callee index number p = elim (purpose_next (beginning_of d node) begun boot_doing.effects other k (for.Ask (record { run = index; ask = number }) callee) (boots.once (boot_others d world.deployment)) p) [
      | inl old ↦ absurd (none-some (for.Ask (record { run = index; ask = number }) callee) old)
      | inr new ↦ new
    ]

    booted_calm : IsCalm (beginning_of d node) (boot_views d.troupes) (λ other. IsOtherOf d node other) (with_all begun (map act_of boot_doing.effects)) boot_doing.member
    booted_calm = record {
      made = λ index number callee r view other there entry.
          let c = boots.recorded index number callee r view other there entry in
          made_purpose (beginning_of d node) begun boot_doing.effects c.place other c.message (for.Ask (record { run = index; ask = number }) callee) c.there;
      named = λ other k index number callee p. elim (purpose_from (beginning_of d node) begun boot_doing.effects other k (for.Ask (record { run = index; ask = number }) callee) p) [
        | inl old ↦ absurd (none-some (for.Ask (record { run = index; ask = number }) callee) old)
        | inr new ↦ (all_at (EffectSo (boot_views d.troupes) as_.number Nobody boot_doing.member.performing.kept) boot_doing.effects new.0 (made.Call other new.1 (for.Ask (record { run = index; ask = number }) callee)) boots.effects new.2).1
      ];
      once = λ other k j index number callee asked p r. next_at other k callee index number p ∙ sym (next_at other j asked index number r);
      waits = λ c peer arrived. absurd (none_arrived c.node 0 c.number arrived);
      said = λ other k index number callee asked peer arrived p o asking there. absurd (none_arrived other 1 k arrived);
      gone = inr (record { held = none_held boot_doing.member.gathered.held boots.quiet.held; said = boots.silent });
    }

    none_answered : (Called : Caller → List ℕ → Type 0) (troupe count : ℕ) (e : Effect) → EffectSo (boot_views d.troupes) as_.number Nobody boot_doing.member.performing.kept e → IsMade AnyCall (EarlyReturn Called troupe count) e
    none_answered Called troupe count (made.Call to message purpose) so = tt
    none_answered Called troupe count (made.Answer caller message) so = absurd so.is

    calm_there : IsCalm (beginning_of d node) (boot_views d.troupes) (λ other. IsOtherOf d node other) (begins node) m
    calm_there = subst (λ a. IsCalm (beginning_of d node) (boot_views d.troupes) (λ other. IsOtherOf d node other) a m) (sym begins_are)
        (subst (λ y. IsCalm (beginning_of d node) (boot_views d.troupes) (λ other. IsOtherOf d node other) (with_all begun (map act_of boot_doing.effects)) y) member_is booted_calm)

    early_there : (troupe : ℕ) → AllSaid AnyCall (EarlyReturn (CalledAt d begins node) troupe m.performing.kept.count) (begins node)
    early_there troupe =
        boot_said AnyCall (EarlyReturn (CalledAt d begins node) troupe m.performing.kept.count) begun (fresh_wire d node) (made_at_boot declared turn first d (home_of d node) own).came.effects tt
        (subst (λ es. All (IsMade AnyCall (EarlyReturn (CalledAt d begins node) troupe m.performing.kept.count)) es) (sym effects_are)
        (All-weaker (EffectSo (boot_views d.troupes) as_.number Nobody boot_doing.member.performing.kept) (IsMade AnyCall (EarlyReturn (CalledAt d begins node) troupe m.performing.kept.count))
        (none_answered (CalledAt d begins node) troupe m.performing.kept.count) boot_doing.effects boots.effects))

    begun_there : (troupe : ℕ) (t : Troupe) → troupe_at d node ≡ Some troupe → slice_get d.troupes troupe ≡ Some t → is_among t.founders node ≡ true → is_root d troupe ≡ true → 0 < length m.performing.kept.runs
    begun_there troupe t hosts there founder root =
        let one : troupe ≡ as_.number = same_Some troupe as_.number (sym hosts ∙ as_.hosts) in
        let same : t ≡ as_.one = same_Some t as_.one (sym there ∙ ap (slice_get d.troupes) one ∙ as_.there) in
        let begins_so : (home_in d node as_.number as_.one).beginning ≡ Founder = ap (λ b. if b then Founder else Spare) (ap (λ (x : Troupe). is_among x.founders node) (sym same) ∙ founder) in
        let rooted : (declared as_.module_).root ≡ true = of_troupe.root ∙ ap (is_root d) (sym one) ∙ root in
        let starts : member_step.starts_at_boot declared turn (home_in d node as_.number as_.one).beginning as_.module_ ≡ true = ap (λ x. member_step.starts_at_boot declared turn x as_.module_) begins_so ∙ rooted in
        subst (λ (x : MemberState M). 0 < length x.performing.kept.runs) member_is (boots.begun starts)

    placed_there : (troupe : ℕ) (t : Troupe) → troupe_at d node ≡ Some troupe → slice_get d.troupes troupe ≡ Some t → (m.place.calls ≡ t.calls) × (m.place.replies ≡ t.replies)
    placed_there troupe t hosts there =
        let one : troupe ≡ as_.number = same_Some troupe as_.number (sym hosts ∙ as_.hosts) in
        let same : t ≡ as_.one = same_Some t as_.one (sym there ∙ ap (slice_get d.troupes) one ∙ as_.there) in
        let is : m.place ≡ (home_in d node as_.number as_.one).place = ap (λ (x : MemberState M). x.place) (sym member_is)
        ∙ (boot_rests declared turn first lawful (home_in d node as_.number as_.one).place (boot_views d.troupes) (home_in d node as_.number as_.one).beginning as_.module_ home).place in
        (ap (λ (y : Place). y.calls) is ∙ ap (λ (x : Troupe). x.calls) (sym same), ap (λ (y : Place). y.replies) is ∙ ap (λ (x : Troupe). x.replies) (sym same))

  calm_at_boot : Calm begins booted
  calm_at_boot = record {
    calm = λ node s m at acting. calm_there node s m at acting;
    early = λ node troupe s m at acting hosts. early_there node s m at acting troupe;
    begun = λ node troupe t s m at acting hosts there founder root. begun_there node s m at acting troupe t hosts there founder root;
    placed = λ node troupe t s m at acting hosts there. placed_there node s m at acting troupe t hosts there;
  }

  -- ---- at last

  module _ (deliveries : All IsDelivery lines) where
    abbrev pub acts : ℕ → WireActs Purpose
    acts = acts_of declared turn first d hosted lines booted

    abbrev pub Holds : (ℕ → WireActs Purpose) → WorldState M → Type 0
    Holds a w = NodesTrue declared turn first program d a w × Quiet a w × Calm a w

    pub holds_at_last : Holds acts last
    holds_at_last =
        lead_hands declared turn first lawful program world.agree (are_modules declared turn first modules lawful) (are_proper declared turn first d modules world.troupes) d world.deployment many (fits declared turn first d modules world.troupes) (λ a w. Holds a w)
        (λ number a new w next stands delivers handed i. (
          delivered_true declared turn first lawful program world.agree (are_modules declared turn first modules lawful) (are_proper declared turn first d modules world.troupes) d world.deployment many number a new w next stands delivers i.0 i.1,
          delivered_quiet declared turn first lawful program world.agree (are_modules declared turn first modules lawful) (are_proper declared turn first d modules world.troupes) d world.deployment many number a new w next stands delivers i.0 i.1,
          delivered_calm declared turn first lawful program world.agree (are_modules declared turn first modules lawful) (are_proper declared turn first d modules world.troupes) d world.deployment many (fits declared turn first d modules world.troupes) number a new w next stands delivers i.0 i.1 i.2 handed,
        ))
        lines begins booted last deliveries (began declared turn first lawful d modules hosted lines booted last world) (boot_live declared turn first d hosted modules booted world.boots)
        (nothing_is_dropped declared turn first lawful d modules hosted lines booted last world).hands
        (true_at_boot declared turn first lawful d modules hosted lines booted last world, quiet_at_boot declared turn first lawful d modules hosted lines booted last world, calm_at_boot) world.leads
