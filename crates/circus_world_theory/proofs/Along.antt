-- What is true of the nodes of a world stays true along lines.
use Rattle.std.proofs.Common.{◌≡◌, ◌≢◌, ℕ, ◌+◌, ◌<◌, inl, inr, Bool, true, false, List, [], ◌∷◌, length, set, Option, None, Some, Ok, refl, sym, ap, subst, ◌∙◌, ltb-true, eq-eqb}
use Rattle.std.specs.Prelude.{slice_get, is_none, nat_lt, option_and_then, if◌then◌else◌}
use Rattle.std.specs.Option.{option_map_or}
use Rattle.std.proofs.lemmas.Bool.{ne_eqb}
use Rattle.circus_value.specs.ValueTree.{ValueTree}
use Rattle.circus_value.specs.declared.outcome.Outcome.{Outcome}
use Rattle.circus_segment.specs.Segment.{reading}
use Rattle.circus_collate.specs.Deployment.{IsDeployment}
use Rattle.circus_collate.specs.declared.deployment.Deployment.{Deployment}
use Rattle.circus_model.specs.NextTurn.{NextTurn}
use Rattle.circus_model.specs.Behaviour.{Behaviour, IsModule}
use Rattle.circus_model.specs.Agree.{AreModules, Agree}
use Rattle.circus_model.specs.declared.signature.Signature.{Signature}
use Rattle.circus_performing.specs.Record.{behaviour}
use Rattle.circus_wire.specs.declared.delivery.Heard.{Heard}
use Rattle.circus_wire.specs.declared.delivery.Heard.TheVariants as heard
use Rattle.circus_wire.specs.Wire.{heard_from}
use Rattle.circus_wire.specs.WireActs.{WireActs}
use Rattle.circus_member_rules.specs.declared.occurrence.Purpose.{Purpose}
use Rattle.circus_node.specs.Accepting.{troupe_at}
use Rattle.circus_node.specs.declared.event.Event.{Event}
use Rattle.circus_node.specs.declared.event.Event.TheVariants as comes
use Rattle.circus_node.specs.NodeState.{NodeState}
use Rattle.circus_schedule.specs.declared.line.Line.{Line}
use Rattle.circus_schedule.specs.declared.line.Line.TheVariants.{Deliver, Tick, Crash, Down, Join}
use Rattle.circus_world.specs.Sent.{Sent}
use Rattle.circus_world.specs.declared.cause.LineCause.{LineCause}
use Rattle.circus_world.specs.declared.cause.LineCause.TheVariants.{NoDatagram}
use Rattle.circus_world.specs.WorldState.{WorldState, Standing, is_live}
use Rattle.circus_world.specs.Course.{Stepped, note_at, pass_step, crash_node, told_to_join, comes_to, step_line}
use Rattle.circus_world.specs.Lines.{Leads, Lead}
use Rattle.circus_world.proofs.ComeLemmas.{delivered_at}
use Rattle.circus_world.proofs.SlotLemmas.{get_set, get_there}
use Rattle.circus_world_theory.specs.Histories.{delivery, comes_by, with_step, with_line, with_lines, with_others}
use Rattle.circus_world_theory.specs.NodeActs.{with_all, acts_in}
use Rattle.circus_world_theory.proofs.Lines.{lead_stands}
use Rattle.circus_world_theory.proofs.Messages.{call_handed, return_handed}
use Rattle.circus_world_theory.proofs.Worlds.{Stands, get_same}
use Rattle.circus_member_rules.specs.Proper.{AreProper}
use Rattle.circus_world_theory.proofs.Stepping.{CalledAt, HeardAt, ComesTruly, NodesTrue, same_world, comes_true}
use Rattle.circus_world_theory.proofs.True.{ActsTrue}

-- ---- lines that may be stepped

module _ {M : Type 0} where
  pub noted_at : (note : Standing M → Standing M) (node : ℕ) (w : WorldState M) (s : Standing M) → slice_get w.nodes node ≡ Some s
      → slice_get (note_at note node w).nodes node ≡ Some (note s)
  noted_at note node w s at =
      ap (λ (o : Option (Standing M)). slice_get (option_map_or (λ t. set w.nodes node (note t)) o w.nodes) node) at ∙ get_same w.nodes node (note s) s at

  pub live_there : (o : Option (Standing M)) → option_map_or (λ (s : Standing M). is_none s.crashed) o false ≡ true → (s : Standing M) × (o ≡ Some s)
  live_there None live = absurd (let clash : false ≡ true = live in cc)
  live_there (Some s) live = (s, refl)

pub below_sent : (below : Bool) (number most : ℕ) → (if below then None else Some (NoDatagram number most)) ≡ None → below ≡ true
below_sent true number most legal = refl
below_sent false number most legal = absurd (let clash : ◌≡◌ {A = Option LineCause} (Some (NoDatagram number most)) None = legal in cc)

-- ---- what a datagram brings was handed over

module _ {M : Type 0} (d : Deployment) (acts : ℕ → WireActs Purpose) (w : WorldState M) (stands : Stands d acts w)
    (number : ℕ) (sent : Sent) (s : Standing M) (there : slice_get w.sent number ≡ Some sent) (at : slice_get w.nodes sent.to ≡ Some s) where
  pub heard_at : HeardAt d acts sent.to sent.from (heard_from s.node.wire sent.from (reading sent.bytes))
  heard_at = by_heard (heard_from s.node.wire sent.from (reading sent.bytes)) refl
    where
      by_heard : (h : Heard Purpose) → heard_from s.node.wire sent.from (reading sent.bytes) ≡ h → HeardAt d acts sent.to sent.from h
      by_heard heard.Dropped is = tt
      by_heard heard.Taken is = tt
      by_heard (heard.Called sender message) is = call_handed d acts w stands number sent s there at sender message is
      by_heard (heard.Returned call purpose message) is = return_handed d acts w stands number sent s there at call purpose message is

module _ {M : Type 0} (declared : M → Signature) (turn : M → List ValueTree → ℕ → List ValueTree → List Outcome → NextTurn) where
  -- ---- what a line adds at the pairs of a node

  module _ (line : Line) (w : WorldState M) where
    pub nothing_by : comes_by line w ≡ None → (node : ℕ) (acts : WireActs Purpose) → acts ≡ with_line declared turn node acts line w
    nothing_by none node acts = sym (ap (λ o. option_map_or (with_step declared turn node acts w) o acts) none)

    module _ (node : ℕ) (event : Event) (comes_it : comes_by line w ≡ Some (node, event)) where
      pub here_by : (s : Standing M) → slice_get w.nodes node ≡ Some s → (acts : WireActs Purpose)
          → with_line declared turn node acts line w ≡ with_all acts (acts_in declared turn (w.steps + 1) event s.node)
      here_by s at acts =
          let all : Standing M → WireActs Purpose = λ t. with_all acts (acts_in declared turn (w.steps + 1) event t.node) in
          ap (λ o. option_map_or (with_step declared turn node acts w) o acts) comes_it
          ∙ ap (λ b. if b then option_map_or all (slice_get w.nodes node) acts else acts) (eq-eqb node node refl)
          ∙ ap (λ (o : Option (Standing M)). option_map_or all o acts) at

      pub elsewhere_by : (other : ℕ) → other ≢ node → (acts : WireActs Purpose) → with_line declared turn other acts line w ≡ acts
      elsewhere_by other differs acts =
          ap (λ o. option_map_or (with_step declared turn other acts w) o acts) comes_it
          ∙ ap (λ b. if b then option_map_or (λ (s : Standing M). with_all acts (acts_in declared turn (w.steps + 1) event s.node)) (slice_get w.nodes other) acts else acts)
          (ne_eqb node other (λ same. differs (sym same)))

  -- ---- one line

  -- after a line each two nodes talk
  pub line_talks : (d : Deployment) (acts : ℕ → WireActs Purpose) (line : Line) (w next : WorldState M) → Stands d acts w → Leads declared turn line w next
      → Stands d (λ node. with_line declared turn node (acts node) line w) next
  line_talks d acts line w next stands leads =
      subst (λ (f : ℕ → WireActs Purpose). Stands d f next)
      (λ i node. with_others (λ v. with_line declared turn node (acts node) line w) (acts node) (leads.stepped_is i))
      (lead_stands declared turn d acts (line ∷ []) w next stands (next, leads, refl))

module _ {M : Type 0} (declared : M → Signature) (turn : M → List ValueTree → ℕ → List ValueTree → List Outcome → NextTurn) (first : M → List ValueTree)
    (program : List Behaviour) (d : Deployment) where
  -- ---- something is noted of a node

  passed_true : (acts : ℕ → WireActs Purpose) (w : WorldState M) → NodesTrue declared turn first program d acts w → NodesTrue declared turn first program d acts (pass_step w)
  passed_true acts w so_far = record { deployment = so_far.deployment; nodes = so_far.nodes; said = so_far.said }

  noted_true : (acts : ℕ → WireActs Purpose) (note : Standing M → Standing M) (node : ℕ) (w : WorldState M) → ((s : Standing M) → (note s).node ≡ s.node)
      → NodesTrue declared turn first program d acts w → NodesTrue declared turn first program d acts (note_at note node w)
  noted_true acts note node w same so_far = record {
    deployment = so_far.deployment;
    nodes = λ x t found. by_node x t (slice_get w.nodes node) refl found;
    said = so_far.said;
  }
    where
      by_node : (x : ℕ) (t : Standing M) (o : Option (Standing M)) → slice_get w.nodes node ≡ o → slice_get (option_map_or (λ s. set w.nodes node (note s)) o w.nodes) x ≡ Some t
          → ActsTrue declared turn first program d (CalledAt d acts x) (troupe_at d x) t.node.acting
      by_node x t None at found = so_far.nodes x t found
      by_node x t (Some s) at found = elim (get_set w.nodes node x (note s) t found) [
        | inl here ↦
            subst (λ k. ActsTrue declared turn first program d (CalledAt d acts k) (troupe_at d k) t.node.acting) (sym here.0)
            (subst (λ (v : Standing M). ActsTrue declared turn first program d (CalledAt d acts node) (troupe_at d node) v.node.acting) (sym here.1)
            (subst (λ (n : NodeState M). ActsTrue declared turn first program d (CalledAt d acts node) (troupe_at d node) n.acting) (sym (same s)) (so_far.nodes node s at)))
        | inr there ↦ so_far.nodes x t there
      ]

  true_so : (acts : ℕ → WireActs Purpose) (a b : WorldState M) → ◌≡◌ {A = Stepped M} (Ok a) (Ok b) → NodesTrue declared turn first program d acts a
      → NodesTrue declared turn first program d acts b
  true_so acts a b is so_far = subst (λ (w : WorldState M). NodesTrue declared turn first program d acts w) (same_world a b is) so_far

module _ {M : Type 0} (declared : M → Signature) (turn : M → List ValueTree → ℕ → List ValueTree → List Outcome → NextTurn) (first : M → List ValueTree)
    (lawful : (hosted : M) → IsModule (behaviour declared turn first hosted))
    (program : List Behaviour) (agree : Agree program) (are : AreModules program) (proper : AreProper program) (d : Deployment) (good : IsDeployment d)
    (all : length program ≡ length d.troupes) where
  module _ (acts : ℕ → WireActs Purpose) (w next : WorldState M) (stands : Stands d acts w) (so_far : NodesTrue declared turn first program d acts w) where
    abbrev behind : Line → ℕ → WireActs Purpose
    behind line node = with_line declared turn node (acts node) line w

    abbrev IsTrue : (ℕ → WireActs Purpose) → Type 0
    IsTrue f = NodesTrue declared turn first program d f next

    deployed : (node : ℕ) (s : Standing M) → slice_get w.nodes node ≡ Some s → s.node.deployment ≡ d
    deployed node s at = (stands.sound.nodes node s at).deployment ∙ so_far.deployment

    -- nothing comes to a node
    unmoved : (line : Line) → comes_by line w ≡ None → IsTrue acts → IsTrue (behind line)
    unmoved line none is = subst (λ (f : ℕ → WireActs Purpose). IsTrue f) (λ i node. nothing_by declared turn line w none node (acts node) i) is

    -- something comes to one
    moved : (line : Line) (node : ℕ) (event : Event) (s : Standing M) → comes_by line w ≡ Some (node, event) → slice_get w.nodes node ≡ Some s → ComesTruly d acts node event s.node
        → comes_to declared turn node event w ≡ Ok next → IsTrue (behind line)
    moved line node event s comes_it at truly is =
        comes_true declared turn first lawful program agree are proper d good all acts w so_far node s at (deployed node s at) event truly (behind line)
        (here_by declared turn line w node event comes_it s at (acts node))
        (λ other differs. elsewhere_by declared turn line w node event comes_it other differs (acts other)) next is

    delivered_true : (number : ℕ) (sent : Sent) (live : Bool) → slice_get w.sent number ≡ Some sent → is_live w sent.to ≡ live
        → step_line declared turn (Deliver number) w ≡ Ok next → IsTrue (behind (Deliver number))
    delivered_true number sent true there live is =
        let s = live_there (slice_get w.nodes sent.to) live in
        moved (Deliver number) sent.to (comes.Datagram sent.from sent.bytes) s.0
        (ap (option_and_then (delivery w)) there ∙ ap (λ b. if b then Some (sent.to, comes.Datagram sent.from sent.bytes) else None) live) s.1
        (heard_at d acts w stands number sent s.0 there s.1)
        (sym (delivered_at declared turn w number sent true there live) ∙ is)
    delivered_true number sent false there live is =
        unmoved (Deliver number) (ap (option_and_then (delivery w)) there ∙ ap (λ b. if b then Some (sent.to, comes.Datagram sent.from sent.bytes) else None) live)
        (true_so declared turn first program d acts (pass_step w) next (sym (delivered_at declared turn w number sent false there live) ∙ is) (passed_true declared turn first program d acts w so_far))

    pub line_true : (line : Line) → Leads declared turn line w next → IsTrue (behind line)
    line_true (Deliver number) leads =
        let below : number < length w.sent = ltb-true number (length w.sent) (below_sent (nat_lt number (length w.sent)) number (length w.sent) leads.legal) in
        let found = get_there w.sent number below in
        delivered_true number found.0 (is_live w found.0.to) found.1 refl leads.stepped_is
    line_true (Tick node) leads =
        let s = get_there w.nodes node leads.named in
        moved (Tick node) node comes.Tick s.0 refl s.1 tt leads.stepped_is
    line_true (Crash node) leads =
        unmoved (Crash node) refl
        (true_so declared turn first program d acts (crash_node node w) next leads.stepped_is
        (passed_true declared turn first program d acts _ (noted_true declared turn first program d acts (λ s. record s { crashed = Some (w.steps + 1) }) node w (λ s. refl) so_far)))
    line_true (Down node told) leads =
        let s = get_there w.nodes told leads.named.1 in
        moved (Down node told) told (comes.Down node) s.0 refl s.1 tt leads.stepped_is
    line_true (Join node) leads =
        let s = get_there w.nodes node leads.named in
        let note : Standing M → Standing M = λ t. record t { joins = true } in
        comes_true declared turn first lawful program agree are proper d good all acts (told_to_join node w) (noted_true declared turn first program d acts note node w (λ t. refl) so_far)
        node (note s.0) (noted_at note node w s.0 s.1) (deployed node s.0 s.1) comes.Join tt (behind (Join node))
        (here_by declared turn (Join node) w node comes.Join refl s.0 s.1 (acts node))
        (λ other differs. elsewhere_by declared turn (Join node) w node comes.Join refl other differs (acts other))
        next leads.stepped_is

  -- ---- lines

  pub lead_true : (acts : ℕ → WireActs Purpose) (lines : List Line) (w last : WorldState M) → Stands d acts w → NodesTrue declared turn first program d acts w
      → Lead declared turn lines w last
      → NodesTrue declared turn first program d (λ node. with_lines declared turn node (acts node) lines w) last
  lead_true acts [] w last stands so_far lead = subst (λ (v : WorldState M). NodesTrue declared turn first program d acts v) (sym lead) so_far
  lead_true acts (line ∷ lines) w last stands so_far lead =
      let next : WorldState M = lead.0 in
      let behind_it : ℕ → WireActs Purpose = λ node. with_line declared turn node (acts node) line w in
      subst (λ (f : ℕ → WireActs Purpose). NodesTrue declared turn first program d f last)
      (λ i node. with_others (with_lines declared turn node (behind_it node) lines) (acts node) (sym lead.1.stepped_is i))
      (lead_true behind_it lines next last (line_talks declared turn d acts line w next stands lead.1) (line_true acts w next stands so_far line lead.1) lead.2)
