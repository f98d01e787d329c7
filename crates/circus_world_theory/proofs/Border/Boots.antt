-- A node at its border at boot: all that it makes then is handed to its pairs.
use Rattle.std.proofs.Common.{◌≡◌, ℕ, ◌<◌, true, not, List, [], length, map, Option, Some, None, Ok, refl, sym, ap, subst, ◌∙◌, arith}
use Rattle.std.specs.Prelude.{slice_get, option_map, option_and_then}
use Rattle.std.specs.List.{flat_map}
use Rattle.std.proofs.lemmas.List.Elements.{All-nil, All-weaker}
use Rattle.circus_value.specs.Among.{is_among}
use Rattle.circus_value.specs.ValueTree.{ValueTree}
use Rattle.circus_value.specs.declared.caller.Caller.{Caller}
use Rattle.circus_value.specs.declared.outcome.Outcome.{Outcome}
use Rattle.circus_limits.specs.Limits.{limit_of}
use Rattle.circus_collate.specs.Deployment.{IsDeployment}
use Rattle.circus_collate.specs.declared.deployment.Deployment.{Deployment}
use Rattle.circus_collate.specs.declared.deployment.Troupe.{Troupe}
use Rattle.circus_ring.specs.RingTable.{boot_views}
use Rattle.circus_fanout.specs.Knowing.{Knowing}
use Rattle.circus_model.specs.declared.signature.Signature.{Signature}
use Rattle.circus_model.specs.NextTurn.{NextTurn}
use Rattle.circus_model.specs.Behaviour.{IsModule}
use Rattle.circus_performing.specs.Record.{behaviour}
use Rattle.circus_wire.specs.Wire.{WireState, Beginning, is_up}
use Rattle.circus_wire.specs.WireActs.{begun as none_yet}
use Rattle.circus_wire.specs.WireStanding.{WireStands}
use Rattle.circus_wire.proofs.Histories.{knows_up}
use Rattle.circus_wire.proofs.Standing.{stands_begun}
use Rattle.circus_member_rules.specs.declared.occurrence.Purpose.{Purpose}
use Rattle.circus_member_rules.specs.Happening.{IsHome}
use Rattle.circus_member_rules.specs.Step as member_step
use Rattle.circus_node.specs.Accepting.{troupe_at}
use Rattle.circus_node.specs.declared.event.Outputs.{Outputs}
use Rattle.circus_node.specs.NodeState.{NodeState}
use Rattle.circus_node.specs.Making.{Made}
use Rattle.circus_node.specs.Booting.{home_in, home_of, IsOfTroupe, CanBoot, fresh_wire, member_at_boot, ring_at_boot, made_at_boot, boot_node}
use Rattle.circus_node.proofs.BootLemmas.{is_home}
use Rattle.circus_node.proofs.ViewLemmas.{booted_knows}
use Rattle.circus_world_theory.specs.NodeActs.{with_all, handed_by, acts_at_boot}
use Rattle.circus_world_theory.specs.Histories.{beginning_of}
use Rattle.circus_world_theory.proofs.Border.Booting.{booted_sound}
use Rattle.circus_world_theory.proofs.Border.Reaching.{Reaches, boot_reaches}
use Rattle.circus_world_theory.proofs.Border.Sizing.{SaysBriefly, boot_is_sized}
use Rattle.circus_world_theory.proofs.Border.Waiting.{waiting_at, boot_answers}
use Rattle.circus_world_theory.proofs.Border.Hosting.{Hosts, IsOtherOf, may_be_called, boot_views_are}
use Rattle.circus_world_theory.proofs.Border.Handing.{GoesUp, AreReturns, AreAwaited, all_returned, left_awaited}
use Rattle.circus_world_theory.proofs.Border.Handing as handing
use Rattle.circus_world_theory.proofs.Border.Members.{UpAs, goes_up}
use Rattle.circus_world_theory.proofs.Border.Nodes.{AtBorder, IsMadeAt, still_at}
use Rattle.circus_world_theory.proofs.Border.Steps.{concluded_is, IsAtBorder}
use Rattle.circus_world_theory.specs.Made.{act_of}

module _ {M : Type 0} (declared : M → Signature) (turn : M → List ValueTree → ℕ → List ValueTree → List Outcome → NextTurn) (first : M → List ValueTree)
    (lawful : (hosted : M) → IsModule (behaviour declared turn first hosted)) (d : Deployment) (is : IsDeployment d) (own : ℕ) (within : own < length d.nodes) where
  abbrev begins : Beginning
  begins = beginning_of d own

  abbrev fresh : WireState Purpose
  fresh = fresh_wire d own

  fresh_stands : WireStands fresh begins none_yet
  fresh_stands = stands_begun begins fresh within refl

  -- each other node is up
  fresh_up : (node : ℕ) → IsOtherOf d own node → is_up fresh node ≡ true
  fresh_up node other = knows_up fresh begins none_yet node fresh_stands (other.1, (let many = fresh_stands.nodes in let below = other.0 in omega (arith, many, below)))

  ring_made : IsMadeAt declared turn first lawful d is own fresh none_yet (ring_at_boot declared turn first d)
  ring_made = record { up = All-nil (GoesUp fresh); brief = All-nil (SaysBriefly (limit_of d.format)); returns = tt; acting = record { deployment = is; requests = []; kept_is = refl } }

  member_made : (number : ℕ) (troupe : Troupe) (hosted : M) → troupe_at d own ≡ Some number → slice_get d.troupes number ≡ Some troupe → IsOfTroupe d number (declared hosted)
      → IsMadeAt declared turn first lawful d is own fresh none_yet (member_at_boot declared turn first d (home_in d own number troupe) hosted)
  member_made number troupe hosted hosts there of =
      let home = home_in d own number troupe in
      let views = boot_views d.troupes in
      let e = member_step.boot_member declared turn first home.place views home.beginning hosted in
      let at : home_of d own ≡ Some home = ap (λ o. option_and_then (λ n. option_map (home_in d own n) (slice_get d.troupes n)) o) hosts ∙ ap (option_map (home_in d own number)) there in
      let stands_ : IsHome (declared hosted) home.place views = is_home d own home (declared hosted) is at of in
      let reaches = boot_reaches (Hosts d) (IsOtherOf d own) home.place
      (may_be_called d is own home.place refl hosts) declared turn first lawful views home.beginning hosted stands_ (boot_views_are d is) in
      let sized = boot_is_sized (limit_of d.format) declared turn first lawful home.place views home.beginning hosted stands_ of.limit in
      let down : e.member.known.down ≡ [] = ap (λ (k : Knowing). k.down) (booted_knows declared turn first home.place views home.beginning hosted) in
      let up : UpAs declared turn first lawful d is own fresh e.member.known.down = λ node other. fresh_up node other ∙ ap (λ l. not (is_among l node)) (sym down) in
      let left : Caller → ℕ = λ c. waiting_at c e.member in
      let awaited : AreAwaited begins left none_yet e.effects = λ c. (let none = boot_answers c declared turn first lawful home.place views home.beginning hosted stands_ in omega (arith, none)) in
      record {
        up = All-weaker (Reaches e.member.known.down (IsOtherOf d own)) (GoesUp fresh) (goes_up declared turn first lawful d is own fresh e.member.known.down up) e.effects reaches.effects;
        brief = sized.effects;
        returns = all_returned begins left none_yet e.effects awaited;
        acting = record {
          place = home.place;
          at_own = refl;
          own_hosts = hosts;
          sound = booted_sound declared turn first lawful home.place views hosted stands_ home.beginning;
          reaching = record { at = reaches.at; views = reaches.views; asks = reaches.asks; effects = All-nil (Reaches e.member.known.down (IsOtherOf d own)) };
          sized = record { limit = sized.limit; asks = sized.asks; replies = sized.replies; effects = All-nil (SaysBriefly (limit_of d.format)) };
          up = up;
          waits = λ c. (let most = left_awaited begins left none_yet e.effects awaited c in omega (arith, most));
        };
      }

  -- what is made at boot
  boot_made : (hosted : Option M) → CanBoot d own (option_map declared hosted)
      → IsMadeAt declared turn first lawful d is own fresh none_yet (made_at_boot declared turn first d (home_of d own) hosted)
  boot_made hosted can = by_number (troupe_at d own) refl
    where
      by_hosted : (number : ℕ) (troupe : Troupe) → troupe_at d own ≡ Some number → slice_get d.troupes number ≡ Some troupe → (o : Option M) → hosted ≡ o
          → IsMadeAt declared turn first lawful d is own fresh none_yet (made_at_boot declared turn first d (Some (home_in d own number troupe)) o)
      by_hosted number troupe hosts there None none = ring_made
      by_hosted number troupe hosts there (Some m) some = member_made number troupe m hosts there (can.fits number (declared m) hosts (ap (option_map declared) some))

      by_troupe : (number : ℕ) → troupe_at d own ≡ Some number → (o : Option Troupe) → slice_get d.troupes number ≡ o
          → IsMadeAt declared turn first lawful d is own fresh none_yet (made_at_boot declared turn first d (option_map (home_in d own number) o) hosted)
      by_troupe number hosts None none = ring_made
      by_troupe number hosts (Some troupe) there = by_hosted number troupe hosts there hosted refl

      by_number : (o : Option ℕ) → troupe_at d own ≡ o
          → IsMadeAt declared turn first lawful d is own fresh none_yet (made_at_boot declared turn first d (option_and_then (λ number. option_map (home_in d own number) (slice_get d.troupes number)) o) hosted)
      by_number None none = ring_made
      by_number (Some number) some = by_troupe number some (slice_get d.troupes number) refl

  -- nothing that a node makes at boot is dropped
  pub record BootHands (hosted : Option M) : Type 0 where
    pub all : let effects = (made_at_boot declared turn first d (home_of d own) hosted).came.effects in flat_map (handed_by fresh) effects ≡ map act_of effects
    pub returns : AreReturns begins none_yet (made_at_boot declared turn first d (home_of d own) hosted).came.effects

  pub boot_hands : (hosted : Option M) → CanBoot d own (option_map declared hosted) → BootHands hosted
  boot_hands hosted can =
      let h = boot_made hosted can in
      record { all = handing.all_handed fresh is.format (made_at_boot declared turn first d (home_of d own) hosted).came.effects h.up h.brief; returns = h.returns }

  -- and it is at its border then
  pub boot_at_border : (hosted : Option M) (r : NodeState M × Outputs) → CanBoot d own (option_map declared hosted) → boot_node declared turn first d hosted own ≡ Ok r
      → IsAtBorder declared turn first lawful d is own (with_all none_yet (acts_at_boot declared turn first d hosted own)) r.0
  boot_at_border hosted r can ends =
      let m : Made M = made_at_boot declared turn first d (home_of d own) hosted in
      let h = boot_made hosted can in
      let now : NodeState M = record { deployment = d; wire = fresh; acting = m.acting; dropped = 0 } in
      let c = concluded_is now [] m r ends in
      let last = with_all none_yet (map act_of m.came.effects) in
      record {
        deployment = c.deployment;
        acting =
            subst (λ l. AtBorder declared turn first lawful d is own r.0.wire (with_all none_yet l) r.0.acting) (sym (boot_hands hosted can).all)
            (subst (AtBorder declared turn first lawful d is own r.0.wire last) (sym c.acting)
            (still_at declared turn first lawful d is own fresh r.0.wire last last m.acting (λ node other. c.up node) (λ c_ awaits. awaits) h.acting));
      }
