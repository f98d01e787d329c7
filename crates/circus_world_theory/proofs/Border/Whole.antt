-- In each world of modules that agree nothing that a node makes is dropped at its border.
use Rattle.std.proofs.Common.{◌≡◌, ℕ, ◌<◌, List, [], ◌∷◌, ◌++◌, ◌+◌, length, Option, Some, None, refl, sym, subst, ◌∙◌}
use Rattle.std.specs.Prelude.{slice_get}
use Rattle.std.proofs.lemmas.List.{length-map}
use Rattle.circus_value.specs.ValueTree.{ValueTree}
use Rattle.circus_value.specs.declared.caller.Caller.{Caller}
use Rattle.circus_value.specs.declared.outcome.Outcome.{Outcome}
use Rattle.circus_segment.specs.Segment.{reading}
use Rattle.circus_collate.specs.Deployment.{IsDeployment}
use Rattle.circus_collate.specs.declared.deployment.Deployment.{Deployment}
use Rattle.circus_model.specs.NextTurn.{NextTurn}
use Rattle.circus_model.specs.Behaviour.{Behaviour, IsModule, behaviours}
use Rattle.circus_model.specs.Agree.{AreModules, Agree}
use Rattle.circus_model.specs.declared.signature.Signature.{Signature}
use Rattle.circus_model.proofs.Threads.{are_modules}
use Rattle.circus_performing.specs.Record.{behaviour}
use Rattle.circus_wire.specs.declared.delivery.Heard.{Heard}
use Rattle.circus_wire.specs.Wire.{heard_from}
use Rattle.circus_wire.specs.WireActs.{WireActs}
use Rattle.circus_member_rules.specs.declared.occurrence.Purpose.{Purpose}
use Rattle.circus_member_rules.specs.MemberState.{MemberState}
use Rattle.circus_node.specs.Accepting.{troupe_at}
use Rattle.circus_node.specs.declared.event.Event.{Event}
use Rattle.circus_node.specs.declared.event.Event.TheVariants as comes
use Rattle.circus_node.specs.NodeState.{Acting, member, ringmaster}
use Rattle.circus_schedule.specs.declared.line.Line.{Line}
use Rattle.circus_world.specs.WorldState.{WorldState, Standing}
use Rattle.circus_world.specs.Lines.{Lead}
use Rattle.circus_world_theory.specs.Histories.{acts_of, comes_by, with_line}
use Rattle.circus_world_theory.proofs.Boots.{world_stands}
use Rattle.circus_world_theory.proofs.Worlds.{Stands}
use Rattle.circus_member_rules.specs.Proper.{AreProper}
use Rattle.circus_member_theory.proofs.Step.{in_range}
use Rattle.circus_world_theory.specs.Worlds.{IsWorldOf}
use Rattle.circus_world_theory.proofs.Proper.{are_proper}
use Rattle.circus_world_theory.proofs.Along.{line_talks, line_true}
use Rattle.circus_world_theory.proofs.Beginning.{boot_true}
use Rattle.circus_world_theory.proofs.Making.{MayHaveModule, HeardSo, heard_accepts}
use Rattle.circus_world_theory.proofs.Stepping.{CalledAt, ComesTruly, NodesTrue, has_module, heard_so, same_world}
use Rattle.circus_world_theory.proofs.Theorem.{truly_comes}
use Rattle.circus_world_theory.proofs.True.{IsTrueAt, ActsTrue}
use Rattle.circus_world_theory.proofs.Border.Nodes.{TakesRightly}
use Rattle.circus_world_theory.proofs.Border.Steps.{MayTake, IsHandedWhole}
use Rattle.circus_world_theory.proofs.Border.Worlds.{TakesLine, TakesLines, HandsLines, LinesAtBorder, hands_at}
use Rattle.circus_world_theory.proofs.Border.BootWorlds.{at_boot, boots_hand, world_at_border}
use Rattle.circus_world_theory.proofs.Border.Boots.{BootHands}

module _ {M : Type 0} (declared : M → Signature) (turn : M → List ValueTree → ℕ → List ValueTree → List Outcome → NextTurn) (first : M → List ValueTree)
    (lawful : (hosted : M) → IsModule (behaviour declared turn first hosted))
    (program : List Behaviour) (agree : Agree program) (are : AreModules program) (proper : AreProper program) (d : Deployment) (good : IsDeployment d)
    (all : length program ≡ length d.troupes) where
  -- ---- what a member accepts of what truly comes can happen to it

  module _ (node from : ℕ) (Called Theirs : Caller → List ℕ → Type 0) where
    member_takes : (troupe : ℕ) (m : MemberState M) → IsTrueAt declared turn first program d Called troupe m → (server : Option ℕ) (h : Heard Purpose) → troupe < 32
        → MayHaveModule program server → HeardSo program Called Theirs (Some troupe) server h
        → TakesRightly declared turn first lawful d good node from h (member m)
    member_takes troupe m so_far server h own has so = λ o is.
        let happens = heard_accepts declared turn first program d Called troupe m so_far agree are proper from server Theirs h own has so o is in
        (happens.0, in_range program agree are troupe (first m.performing.hosted) Called m o happens.1)

    node_takes : (own server : Option ℕ) (h : Heard Purpose) (a : Acting M) → MayHaveModule program own → MayHaveModule program server
        → HeardSo program Called Theirs own server h
        → ActsTrue declared turn first program d Called own a → TakesRightly declared turn first lawful d good node from h a
    node_takes (Some troupe) server h (member m) own has so acts = member_takes troupe m acts server h own.few has so
    node_takes (Some troupe) server h (ringmaster kept) own has so acts = absurd acts
    node_takes None server h (member m) own has so acts = absurd acts
    node_takes None server h (ringmaster kept) own has so acts = tt

  -- ---- along lines

  module _ (acts : ℕ → WireActs Purpose) (w : WorldState M) (stands : Stands d acts w) (so_far : NodesTrue declared turn first program d acts w) where
    event_takes : (node : ℕ) (event : Event) (s : Standing M) → slice_get w.nodes node ≡ Some s → ComesTruly d acts node event s.node
        → MayTake declared turn first lawful d good node event s.node
    event_takes node (comes.Datagram from bytes) s at truly =
        node_takes node from (CalledAt d acts node) (CalledAt d acts from) (troupe_at d node) (troupe_at d from) (heard_from s.node.wire from (reading bytes)) s.node.acting
        (has_module program d node good all) (has_module program d from good all)
        (heard_so program d acts so_far.said node from (heard_from s.node.wire from (reading bytes)) truly) (so_far.nodes node s at)
    event_takes node comes.Tick s at truly = tt
    event_takes node (comes.Down other) s at truly = tt
    event_takes node comes.Join s at truly = tt

    line_takes : (line : Line) → TakesLine declared turn first lawful d good line w
    line_takes line = λ node event s comes_it at. event_takes node event s at (truly_comes d acts w stands line node event s comes_it at)

  lines_take : (acts : ℕ → WireActs Purpose) (lines : List Line) (w last : WorldState M) → Stands d acts w → NodesTrue declared turn first program d acts w
      → Lead declared turn lines w last
      → TakesLines declared turn first lawful d good lines w
  lines_take acts [] w last stands so_far lead = tt
  lines_take acts (line ∷ lines) w last stands so_far lead =
      let next : WorldState M = lead.0 in
      let rest = lines_take (λ node. with_line declared turn node (acts node) line w) lines next last
      (line_talks declared turn d acts line w next stands lead.1)
      (line_true declared turn first lawful program agree are proper d good all acts w next stands so_far line lead.1) lead.2 in
      (line_takes acts w stands so_far line, λ other goes. subst (TakesLines declared turn first lawful d good lines) (same_world next other (sym lead.1.stepped_is ∙ goes)) rest)

-- ---- a world

module _ {M : Type 0} (declared : M → Signature) (turn : M → List ValueTree → ℕ → List ValueTree → List Outcome → NextTurn) (first : M → List ValueTree)
    (lawful : (hosted : M) → IsModule (behaviour declared turn first hosted)) (d : Deployment) (modules : List M) (hosted : List (Option M)) (lines : List Line) (booted last : WorldState M)
    (world : IsWorldOf declared turn first d modules hosted lines booted last) where
  -- by none of the lines anything that a node makes is dropped at its border
  pub nothing_is_dropped : LinesAtBorder declared turn first lawful d world.deployment (at_boot declared turn first lawful d world.deployment modules hosted world.troupes world.hosts) lines booted last
  nothing_is_dropped =
      let program = behaviours declared turn first modules in
      let are = are_modules declared turn first modules lawful in
      let one_each : length program ≡ length d.troupes = length-map modules (behaviour declared turn first) ∙ sym (length-map modules declared) ∙ world.troupes.one_each in
      world_at_border declared turn first lawful d world.deployment modules hosted world.troupes world.hosts lines booted last world.boots
      (lines_take declared turn first lawful program world.agree are (are_proper declared turn first d modules world.troupes) d world.deployment one_each
      (at_boot declared turn first lawful d world.deployment modules hosted world.troupes world.hosts) lines booted last
      (world_stands declared turn first d hosted modules [] booted booted world.deployment world.troupes world.hosts world.boots refl)
      (boot_true declared turn first lawful modules world.agree are (are_proper declared turn first d modules world.troupes) d world.deployment world.troupes hosted world.hosts booted world.boots)
      world.leads)
      world.leads

  -- so in each step all that the node makes is handed to its pairs, and each return as one
  pub steps_hand_all : (before : List Line) (line : Line) (behind : List Line) (v : WorldState M) → lines ≡ before ++ line ∷ behind → Lead declared turn before booted v
      → (node : ℕ) (event : Event) (s : Standing M) → comes_by line v ≡ Some (node, event) → slice_get v.nodes node ≡ Some s
      → IsHandedWhole declared turn first lawful d world.deployment node (acts_of declared turn first d hosted before booted node) (v.steps + 1) event s.node
  steps_hand_all before line behind v split lead =
      let acts = at_boot declared turn first lawful d world.deployment modules hosted world.troupes world.hosts in
      hands_at declared turn first lawful d world.deployment acts before line behind booted v
      (subst (λ ls. HandsLines declared turn first lawful d world.deployment acts ls booted) split nothing_is_dropped.hands) lead

  -- and likewise at boot
  pub boots_hand_all : (node : ℕ) (within : node < length d.nodes) (own : Option M) → slice_get hosted node ≡ Some own
      → BootHands declared turn first lawful d world.deployment node within own
  boots_hand_all node within own found = boots_hand declared turn first lawful d world.deployment modules hosted world.troupes world.hosts node within own found
