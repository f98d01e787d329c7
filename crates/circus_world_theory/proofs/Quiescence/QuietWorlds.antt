-- Worlds to which deliveries lead from boot: members stay as they booted, and make asks and replies alone.
use Rattle.std.proofs.Common.{◌≡◌, inr, ℕ, ◌<◌, ◌≤◌, List, [], length, All, Option, None, Some, refl, sym, ap, subst, ◌∙◌}
use Rattle.std.specs.Prelude.{slice_get, option_map, option_and_then}
use Rattle.std.specs.Option.{option_map_or}
use Rattle.std.proofs.lemmas.List.{length-map}
use Rattle.std.proofs.lemmas.List.Elements.{All-nil, All-weaker}
use Rattle.std.proofs.lemmas.Option.{none-some, same_Some, slice_get_within}
use Rattle.circus_value.specs.ValueTree.{ValueTree}
use Rattle.circus_value.specs.declared.caller.Caller.{Caller}
use Rattle.circus_value.specs.declared.outcome.Outcome.{Outcome}
use Rattle.circus_collate.specs.declared.deployment.Deployment.{Deployment}
use Rattle.circus_collate.specs.declared.deployment.Troupe.{Troupe}
use Rattle.circus_ring.specs.RingTable.{boot_views}
use Rattle.circus_transfer.specs.declared.joiner.Joiner.{Joiner}
use Rattle.circus_transfer.specs.declared.joiner.Joiner.TheVariants.{Outside}
use Rattle.circus_model.specs.NextTurn.{NextTurn}
use Rattle.circus_model.specs.Behaviour.{Behaviour, IsModule, behaviours}
use Rattle.circus_model.specs.Execution.{history_of}
use Rattle.circus_model.specs.declared.signature.Signature.{Signature}
use Rattle.circus_model.proofs.Threads.{are_modules}
use Rattle.circus_performing.specs.Performing.{last_count}
use Rattle.circus_performing.specs.Record.{behaviour}
use Rattle.circus_wire.specs.WireActs.{WireActs, begun}
use Rattle.circus_member_rules.specs.Messages.{fetch_message}
use Rattle.circus_member_rules.specs.declared.occurrence.AskName.{AskName}
use Rattle.circus_member_rules.specs.declared.occurrence.Purpose.{Purpose}
use Rattle.circus_member_rules.specs.declared.occurrence.Purpose.TheVariants as for
use Rattle.circus_member_rules.specs.Happening.{IsHome}
use Rattle.circus_member_rules.specs.Step as member_step
use Rattle.circus_node.specs.Accepting.{troupe_at}
use Rattle.circus_member_theory.proofs.Accepting.Calls.{ask_no_fetch}
use Rattle.circus_node.specs.NodeState.{NodeState, Acting, member}
use Rattle.circus_node.specs.Making.{Made}
use Rattle.circus_node.specs.Sending.{sent, all_handed}
use Rattle.circus_node.specs.Booting.{CanBoot, beginning_in, home_in, home_of, member_at_boot, ring_at_boot, made_at_boot, fresh_wire}
use Rattle.circus_node.proofs.BootLemmas.{is_home}
use Rattle.circus_node.proofs.TroupeLemmas.{hosted_can_boot}
use Rattle.circus_schedule.specs.declared.line.Line.{Line}
use Rattle.circus_world.specs.WorldState.{WorldState, Standing}
use Rattle.circus_world.proofs.SlotLemmas.{get_there}
use Rattle.circus_world_theory.specs.Histories.{beginning_of, acts_of}
use Rattle.circus_world_theory.proofs.Worlds.{Stands}
use Rattle.circus_member_theory.specs.Truth.{IsReplyMessage}
use Rattle.circus_world_theory.specs.Agreeing.{IsTrueReplyTo, HasCalled}
use Rattle.circus_world_theory.specs.Worlds.{IsWorldOf}
use Rattle.circus_world_theory.proofs.Proper.{are_proper}
use Rattle.circus_world_theory.proofs.Beginning.{boot_true}
use Rattle.circus_world_theory.proofs.Handing.{IsMade, boot_said}
use Rattle.circus_world_theory.proofs.Saying.{AllSaid, call_said, purpose_said, return_said}
use Rattle.circus_world_theory.proofs.Stepping.{CalledAt, NodesTrue}
use Rattle.circus_world_theory.proofs.True.{CallSo, ReturnSo, ActsTrue}
use Rattle.circus_world_theory.specs.Quiet.{IsDelivery}
use Rattle.circus_world_theory.specs.Still.{phase_of, phase_at, IsStill, AllStill, CallsAreAsks, ReturnsAreReplies}
use Rattle.circus_world_theory.proofs.Quiescence.Booting.{few_runs, boots_quietly}
use Rattle.circus_world_theory.proofs.Quiescence.Course.{own_of, at_boot, world_boots, boot_live, boot_stands, lead_keeps}
use Rattle.circus_world_theory.proofs.Quiescence.Quietly.{QuietCall, QuietReturn, first_views, made_quietly, low_ask, true_reply, HasCame, MakesQuiet}
use Rattle.circus_world_theory.proofs.Quiescence.QuietNodes.{NodeQuiet, NodesQuiet, acting_sent, delivered_true, delivered_quiet}
use Rattle.circus_world_theory.proofs.Quiescence.Staying.{EffectSo}
use Rattle.circus_world_theory.proofs.Quiescence.Stepping.{IsQuiet}

module _ {M : Type 0} (declared : M → Signature) (turn : M → List ValueTree → ℕ → List ValueTree → List Outcome → NextTurn) (first : M → List ValueTree)
    (lawful : (hosted : M) → IsModule (behaviour declared turn first hosted))
    (d : Deployment) (modules : List M) (hosted : List (Option M)) (lines : List Line) (booted last : WorldState M)
    (world : IsWorldOf declared turn first d modules hosted lines booted last) where
  abbrev program : List Behaviour
  program = behaviours declared turn first modules

  pub one_each : length program ≡ length d.troupes
  one_each = length-map modules (behaviour declared turn first) ∙ sym (length-map modules declared) ∙ world.troupes.one_each

  abbrev Quiet : (ℕ → WireActs Purpose) → WorldState M → Type 0
  Quiet acts w = NodesQuiet declared turn first lawful program world.agree (are_modules declared turn first modules lawful) (are_proper declared turn first d modules world.troupes) d world.deployment one_each acts w

  abbrev QuietAt : (Caller → List ℕ → Type 0) → ℕ → Option ℕ → Acting M → Type 0
  QuietAt Called node own a = NodeQuiet declared turn first lawful program world.agree (are_modules declared turn first modules lawful) (are_proper declared turn first d modules world.troupes) d world.deployment one_each Called node own a

  abbrev begins : ℕ → WireActs Purpose
  begins = at_boot declared turn first d hosted

  pub true_at_boot : NodesTrue declared turn first program d begins booted
  true_at_boot = boot_true declared turn first lawful modules world.agree (are_modules declared turn first modules lawful) (are_proper declared turn first d modules world.troupes) d world.deployment world.troupes hosted world.hosts booted world.boots

  -- ---- at boot

  module _ (Called : Caller → List ℕ → Type 0) (node : ℕ) where
    abbrev Makes : Option ℕ → Made M → Type 0
    Makes own x = MakesQuiet declared turn first lawful program world.agree (are_modules declared turn first modules lawful) (are_proper declared turn first d modules world.troupes) d Called (phase_at d node) own x

    ring_makes : (own : Option ℕ) → Makes own (ring_at_boot declared turn first d)
    ring_makes None = record { acting = tt; effects = All-nil (IsMade QuietCall QuietReturn) }
    ring_makes (Some troupe) = record { acting = tt; effects = All-nil (IsMade QuietCall QuietReturn) }

    member_makes : (number : ℕ) (one : Troupe) (own : M) → troupe_at d node ≡ Some number → slice_get d.troupes number ≡ Some one → CanBoot d node (option_map declared (Some own))
        → ActsTrue declared turn first program d Called (Some number) (member_at_boot declared turn first d (home_in d node number one) own).acting
        → Makes (Some number) (member_at_boot declared turn first d (home_in d node number one) own)
    member_makes number one own hosts there can truth =
        let home = home_in d node number one in
        let home_is : home_of d node ≡ Some (home_in d node number one) =
        ap (option_and_then (λ n. option_map (home_in d node n) (slice_get d.troupes n))) hosts ∙ ap (option_map (home_in d node number)) there in
        let stands : IsHome (declared own) (home_in d node number one).place (boot_views d.troupes) = is_home d node (home_in d node number one) (declared own) world.deployment home_is (can.fits number (declared own) hosts refl) in
        let n = (member_step.boot_member declared turn first (home_in d node number one).place (boot_views d.troupes) (home_in d node number one).beginning own) in
        let few : length n.member.performing.kept.runs ≤ last_count =
        few_runs program world.agree (are_modules declared turn first modules lawful) number (first n.member.performing.hosted) n.member.performing.kept truth.rested.sound.kept.inactive truth.is.stands in
        let b = boots_quietly declared turn first lawful (HasCame declared turn first lawful program world.agree (are_modules declared turn first modules lawful) (are_proper declared turn first d modules world.troupes) d Called)
        (home_in d node number one).place (boot_views d.troupes) (first_views 0 d.troupes) own stands (home_in d node number one).beginning few in
        let phase : phase_at d node ≡ phase_of (beginning_in one node) =
        ap (λ (o : Option ℕ). option_map_or (λ (t : Troupe). phase_of (beginning_in t node)) (option_and_then (slice_get d.troupes) o) Outside) hosts
        ∙ ap (λ (o : Option Troupe). option_map_or (λ (t : Troupe). phase_of (beginning_in t node)) o Outside) there in
        record {
          acting = subst (λ (p : Joiner). IsQuiet (boot_views d.troupes) number p (HasCame declared turn first lawful program world.agree (are_modules declared turn first modules lawful) (are_proper declared turn first d modules world.troupes) d Called) n.member) (sym phase) b.quiet;
          effects = All-weaker (EffectSo (boot_views d.troupes) number (HasCame declared turn first lawful program world.agree (are_modules declared turn first modules lawful) (are_proper declared turn first d modules world.troupes) d Called) n.member.performing.kept) (IsMade QuietCall QuietReturn)
              (made_quietly (boot_views d.troupes) number (HasCame declared turn first lawful program world.agree (are_modules declared turn first modules lawful) (are_proper declared turn first d modules world.troupes) d Called) n.member.performing.kept) n.effects b.effects;
        }

    by_own : (number : ℕ) (one : Troupe) (own : Option M) → troupe_at d node ≡ Some number → slice_get d.troupes number ≡ Some one → CanBoot d node (option_map declared own)
        → ActsTrue declared turn first program d Called (Some number) (made_at_boot declared turn first d (Some (home_in d node number one)) own).acting
        → Makes (Some number) (made_at_boot declared turn first d (Some (home_in d node number one)) own)
    by_own number one None hosts there can truth = ring_makes (Some number)
    by_own number one (Some own) hosts there can truth = member_makes number one own hosts there can truth

    by_troupe : (number : ℕ) (own : Option M) (t : Option Troupe) → troupe_at d node ≡ Some number → slice_get d.troupes number ≡ t → CanBoot d node (option_map declared own)
        → ActsTrue declared turn first program d Called (Some number) (made_at_boot declared turn first d (option_map (home_in d node number) t) own).acting
        → Makes (Some number) (made_at_boot declared turn first d (option_map (home_in d node number) t) own)
    by_troupe number own None hosts there can truth = ring_makes (Some number)
    by_troupe number own (Some one) hosts there can truth = by_own number one own hosts there can truth

    by_number : (own : Option M) (o : Option ℕ) → troupe_at d node ≡ o → CanBoot d node (option_map declared own)
        → ActsTrue declared turn first program d Called o (made_at_boot declared turn first d (option_and_then (λ n. option_map (home_in d node n) (slice_get d.troupes n)) o) own).acting
        → Makes o (made_at_boot declared turn first d (option_and_then (λ n. option_map (home_in d node n) (slice_get d.troupes n)) o) own)
    by_number own None hosts can truth = ring_makes None
    by_number own (Some number) hosts can truth = by_troupe number own (slice_get d.troupes number) hosts refl can truth

    made_at_boot_quietly : (own : Option M) → CanBoot d node (option_map declared own) → ActsTrue declared turn first program d Called (troupe_at d node) (made_at_boot declared turn first d (home_of d node) own).acting
        → Makes (troupe_at d node) (made_at_boot declared turn first d (home_of d node) own)
    made_at_boot_quietly own can truth = by_number own (troupe_at d node) refl can truth

  pub began : Stands d begins booted
  began = boot_stands declared turn first d hosted modules booted world.deployment world.troupes world.hosts world.boots

  -- a node that boots, and what it has become
  pub record Boots (node : ℕ) (s : Standing M) : Type 0 where
    pub makes : MakesQuiet declared turn first lawful program world.agree (are_modules declared turn first modules lawful) (are_proper declared turn first d modules world.troupes) d (CalledAt d begins node) (phase_at d node) (troupe_at d node)
        (made_at_boot declared turn first d (home_of d node) (own_of declared turn first d hosted node))
    pub acting : s.node.acting ≡ (made_at_boot declared turn first d (home_of d node) (own_of declared turn first d hosted node)).acting

  pub boots_at : (node : ℕ) (s : Standing M) → slice_get booted.nodes node ≡ Some s → Boots node s
  boots_at node s at =
      let b = world_boots declared turn first d hosted modules booted world.boots node s at in
      let own = own_of declared turn first d hosted node in
      let m = made_at_boot declared turn first d (home_of d node) own in
      let n : NodeState M = record { deployment = d; wire = fresh_wire d node; acting = m.acting; dropped = 0 } in
      let same : s.node.acting ≡ m.acting = ap (λ (t : Standing M). t.node.acting) b.is
      ∙ acting_sent declared turn first lawful program world.agree (are_modules declared turn first modules lawful) (are_proper declared turn first d modules world.troupes) d world.deployment one_each n m (all_handed (sent n.wire []) m.came.effects) b.ended b.ends in
      let below : node < length hosted = subst (λ k. node < k) (sym world.hosts.one_each) (subst (λ k. node < k) began.all (slice_get_within booted.nodes node s at)) in
      let host = get_there hosted node below in
      let own_is : own ≡ host.0 = ap (option_and_then (λ (o : Option M). o)) host.1 in
      let can : CanBoot d node (option_map declared own) = subst (λ (o : Option M). CanBoot d node (option_map declared o)) (sym own_is)
      (hosted_can_boot declared turn first d modules node host.0 world.deployment world.troupes (subst (λ k. node < k) world.hosts.one_each below) (world.hosts.each node host.0 host.1)) in
      record {
        makes = made_at_boot_quietly (CalledAt d begins node) node own can (subst (λ (a : Acting M). ActsTrue declared turn first program d (CalledAt d begins node) (troupe_at d node) a) same (true_at_boot.nodes node s at));
        acting = same;
      }

  nothing_made : (node : ℕ) → (made_at_boot declared turn first d (home_of d node) None).came.effects ≡ []
  nothing_made node = elim (home_of d node) as (λ h. (made_at_boot declared turn first d h None).came.effects ≡ []) [ None ↦ refl | Some there ↦ refl ]

  pub quiet_at_boot : Quiet begins booted
  quiet_at_boot = record { nodes = each_node; said = each_said }
    where
      each_node : (node : ℕ) (s : Standing M) → slice_get booted.nodes node ≡ Some s → QuietAt (CalledAt d begins node) node (troupe_at d node) s.node.acting
      each_node node s at = (let b = boots_at node s at in subst (λ (a : Acting M). QuietAt (CalledAt d begins node) node (troupe_at d node) a) (sym b.acting) b.makes.acting)

      says : (node : ℕ) → All (IsMade QuietCall QuietReturn) (made_at_boot declared turn first d (home_of d node) (own_of declared turn first d hosted node)).came.effects → AllSaid QuietCall QuietReturn (begins node)
      says node so = boot_said QuietCall QuietReturn begun (fresh_wire d node) (made_at_boot declared turn first d (home_of d node) (own_of declared turn first d hosted node)).came.effects tt so

      each_said : (node : ℕ) → AllSaid QuietCall QuietReturn (begins node)
      each_said node = by_place (slice_get booted.nodes node) refl
        where
          by_place : (o : Option (Standing M)) → slice_get booted.nodes node ≡ o → AllSaid QuietCall QuietReturn (begins node)
          by_place (Some s) at = says node (boots_at node s at).makes.effects
          by_place None at = by_host (slice_get hosted node) refl
            where
              by_host : (o : Option (Option M)) → slice_get hosted node ≡ o → AllSaid QuietCall QuietReturn (begins node)
              by_host None there =
                  says node (subst (λ (o : Option (Option M)). All (IsMade QuietCall QuietReturn) (made_at_boot declared turn first d (home_of d node) (option_and_then (λ own. own) o)).came.effects) (sym there)
                  (subst (λ l. All (IsMade QuietCall QuietReturn) l) (sym (nothing_made node)) (All-nil (IsMade QuietCall QuietReturn))))
              by_host (Some own) there =
                  let below : node < length booted.nodes = subst (λ k. node < k) (sym began.all) (subst (λ k. node < k) world.hosts.one_each (slice_get_within hosted node own there)) in
                  let s = get_there booted.nodes node below in
                  absurd (none-some s.0 (sym at ∙ s.1))

  -- ---- deliveries

  module _ (deliveries : All IsDelivery lines) where
    abbrev pub acts : ℕ → WireActs Purpose
    acts = acts_of declared turn first d hosted lines booted

    so_at_last : NodesTrue declared turn first program d acts last × Quiet acts last
    so_at_last =
        lead_keeps declared turn d (λ a w. NodesTrue declared turn first program d a w × Quiet a w)
        (λ number a new w next stands after delivers i. (
          delivered_true declared turn first lawful program world.agree (are_modules declared turn first modules lawful) (are_proper declared turn first d modules world.troupes) d world.deployment one_each number a new w next stands delivers i.0 i.1,
          delivered_quiet declared turn first lawful program world.agree (are_modules declared turn first modules lawful) (are_proper declared turn first d modules world.troupes) d world.deployment one_each number a new w next stands delivers i.0 i.1,
        ))
        lines begins booted last deliveries began (boot_live declared turn first d hosted modules booted world.boots) (true_at_boot, quiet_at_boot) world.leads

    pub all_still : AllStill d last
    all_still node s m at is = by_own (troupe_at d node) (subst (λ (a : Acting M). QuietAt (CalledAt d acts node) node (troupe_at d node) a) is (so_at_last.1.nodes node s at))
      where
        by_own : (own : Option ℕ) → QuietAt (CalledAt d acts node) node own (member m) → IsStill d node m
        by_own None q = absurd q
        by_own (Some troupe) q = record { phase = q.phase_is; views = q.views; down = q.down; required = q.required; requests = q.requests }

    pub calls_are_asks : CallsAreAsks d acts
    calls_are_asks node other number purpose is =
        let q = purpose_said QuietCall QuietReturn (beginning_of d node) (acts node) other number purpose (so_at_last.1.said node) is in
        by_purpose q.message purpose (subst (λ p. QuietCall p q.message) (same_Some q.purpose purpose (sym q.purpose_is ∙ is)) q.so)
      where
        by_purpose : (message : List ℕ) (p : Purpose) → QuietCall p message → (name : AskName) × (server : ℕ) × (p ≡ for.Ask name server)
        by_purpose message (for.Ask name server) so = (name, server, refl)
        by_purpose message (for.Ring request) so = absurd so
        by_purpose message for.Fetch so = absurd so

    pub returns_are_replies : ReturnsAreReplies program d acts
    returns_are_replies node other number message is = by_own (troupe_at d node) refl (return_said (CallSo program Called (troupe_at d node)) (ReturnSo program Called (troupe_at d node)) (beginning_of d node) (acts node) other number message (so_at_last.0.said node) is)
      where
        Called : Caller → List ℕ → Type 0
        Called = CalledAt d acts node

        caller : Caller
        caller = record { node = other; number = number }

        quiet : QuietReturn caller message
        quiet = return_said QuietCall QuietReturn (beginning_of d node) (acts node) other number message (so_at_last.1.said node) is

        -- the call was no state request
        no_fetch : (troupe n : ℕ) → CalledAt d acts node caller (fetch_message troupe n) → ⊥
        no_fetch troupe n called =
            let Theirs = CalledAt d acts other in
            let c = call_said (CallSo program Theirs (troupe_at d other)) (ReturnSo program Theirs (troupe_at d other)) (beginning_of d other) (acts other) node number (fetch_message troupe n) (so_at_last.0.said other) called in
            let q = call_said QuietCall QuietReturn (beginning_of d other) (acts other) node number (fetch_message troupe n) (so_at_last.1.said other) called in
            let same : c.message ≡ fetch_message troupe n = same_Some c.message (fetch_message troupe n) (sym c.message_is ∙ called) in
            let also : q.message ≡ c.message = same_Some q.message c.message (sym q.message_is ∙ c.message_is) in
            let purposes : q.purpose ≡ c.purpose = same_Some q.purpose c.purpose (sym q.purpose_is ∙ c.purpose_is) in
            let low = low_ask program Theirs (troupe_at d other) c.purpose c.message c.so (subst (λ p. QuietCall p c.message) purposes (subst (λ m. QuietCall q.purpose m) also q.so)) in
            ask_no_fetch low.header low.body troupe n low.header_is (sym low.message_is ∙ same)

        by_own : (own : Option ℕ) → troupe_at d node ≡ own → ReturnSo program (CalledAt d acts node) own caller message
            → (troupe : ℕ) × (troupe_at d node ≡ Some troupe) × (call : List ℕ) × HasCalled d acts other node number call × IsTrueReplyTo (history_of program) troupe call message
        by_own None hosts so = absurd (no_fetch_reply (true_reply program (λ _ _. ⊥) 0 [] caller message (λ n f. f) (inr (inr so)) quiet))
          where
            no_fetch_reply : IsReplyMessage (history_of program) 0 [] (λ _ _. ⊥) caller message → ⊥
            no_fetch_reply r = r.called.called
        by_own (Some troupe) hosts so =
            let r = true_reply program (CalledAt d acts node) troupe _ caller message (no_fetch troupe) so quiet in (
              troupe,
              hosts,
              _,
              r.called.called,
              record {
                header = r.header;
                body = r.body;
                call_is = refl;
                server = r.called.server;
                true_call = r.called.true_call;
                reply = r.reply;
                reply_is = r.header_is;
                message_is = r.message_is;
                is = r.true_reply;
              },
            )
