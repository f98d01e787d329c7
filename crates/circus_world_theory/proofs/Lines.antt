-- What is true of a world and of what has happened at the pairs of its nodes stays true along lines.
use Rattle.std.proofs.Common.{◌≡◌, ◌≢◌, ℕ, ◌+◌, ◌<◌, Bool, true, false, List, [], ◌∷◌, length, set, inl, inr, Option, None, Some, Ok, refl, sym, ap, subst, ◌∙◌, ltb-true, eq-eqb}
use Rattle.std.specs.Prelude.{slice_get, is_none, nat_lt, option_and_then, if◌then◌else◌}
use Rattle.std.specs.Option.{option_map_or}
use Rattle.std.proofs.lemmas.Bool.{ne_eqb}
use Rattle.circus_value.specs.ValueTree.{ValueTree}
use Rattle.circus_value.specs.declared.outcome.Outcome.{Outcome}
use Rattle.circus_collate.specs.declared.deployment.Deployment.{Deployment}
use Rattle.circus_model.specs.NextTurn.{NextTurn}
use Rattle.circus_model.specs.declared.signature.Signature.{Signature}
use Rattle.circus_wire.specs.WireActs.{WireActs}
use Rattle.circus_wire.specs.WireStanding.{WireStands}
use Rattle.circus_member_rules.specs.declared.occurrence.Purpose.{Purpose}
use Rattle.circus_node.specs.declared.event.Event.{Event}
use Rattle.circus_node.specs.declared.event.Event.TheVariants as comes
use Rattle.circus_node.specs.NodeState.{NodeState}
use Rattle.circus_schedule.specs.declared.line.Line.{Line}
use Rattle.circus_schedule.specs.declared.line.Line.TheVariants.{Deliver, Tick, Crash, Down, Join}
use Rattle.circus_world.specs.Sent.{Sent}
use Rattle.circus_world.specs.declared.cause.LineCause.{LineCause}
use Rattle.circus_world.specs.declared.cause.LineCause.TheVariants.{NoDatagram}
use Rattle.circus_world.specs.WorldState.{WorldState, Standing, is_live}
use Rattle.circus_world.specs.Course.{Stepped, note_at, pass_step, crash_node, told_to_join, comes_to, step_line}
use Rattle.circus_world.specs.Lines.{Leads, Lead}
use Rattle.circus_world.proofs.ComeLemmas.{datagram_may_come, delivered_at, down_differs}
use Rattle.circus_world.proofs.SlotLemmas.{get_set, get_there, all_at}
use Rattle.circus_world.proofs.SoundLemmas.{noted_sound, noted_length, passed_sound}
use Rattle.circus_world_theory.specs.Histories.{beginning_of, delivery, comes_by, with_step, with_line, with_lines, with_others}
use Rattle.circus_world_theory.specs.NodeActs.{with_all, acts_in}
use Rattle.circus_world_theory.proofs.Worlds.{Stands, IsGiven, IsReal, get_same, comes_stand}

-- ---- something is noted of a node

module _ {M : Type 0} where
  noted_at : (note : Standing M → Standing M) (node : ℕ) (w : WorldState M) (s : Standing M) → slice_get w.nodes node ≡ Some s → slice_get (note_at note node w).nodes node ≡ Some (note s)
  noted_at note node w s at =
      ap (λ (o : Option (Standing M)). slice_get (option_map_or (λ t. set w.nodes node (note t)) o w.nodes) node) at ∙ get_same w.nodes node (note s) s at

  noted_stands : (d : Deployment) (acts : ℕ → WireActs Purpose) (note : Standing M → Standing M) (node : ℕ) (w : WorldState M) → ((s : Standing M) → (note s).node ≡ s.node)
      → Stands d acts w → Stands d acts (note_at note node w)
  noted_stands d acts note node w same so_far = record {
    known = so_far.known;
    sound = noted_sound note node w same so_far.sound;
    all = noted_length note node w ∙ so_far.all;
    stands = λ x t found. by_node x t (slice_get w.nodes node) refl found;
    sent = so_far.sent;
    talks = so_far.talks;
  }
    where
      by_node : (x : ℕ) (t : Standing M) (o : Option (Standing M)) → slice_get w.nodes node ≡ o → slice_get (option_map_or (λ s. set w.nodes node (note s)) o w.nodes) x ≡ Some t
          → WireStands t.node.wire (beginning_of d x) (acts x)
      by_node x t None at found = so_far.stands x t found
      by_node x t (Some s) at found = elim (get_set w.nodes node x (note s) t found) [
        | inl here ↦
            subst (λ k. WireStands t.node.wire (beginning_of d k) (acts k)) (sym here.0)
            (subst (λ (v : Standing M). WireStands v.node.wire (beginning_of d node) (acts node)) (sym here.1)
            (subst (λ (n : NodeState M). WireStands n.wire (beginning_of d node) (acts node)) (sym (same s)) (so_far.stands node s at)))
        | inr there ↦ so_far.stands x t there
      ]

  passed_stands : (d : Deployment) (acts : ℕ → WireActs Purpose) (w : WorldState M) → Stands d acts w → Stands d acts (pass_step w)
  passed_stands d acts w so_far = record {
    known = so_far.known;
    sound = passed_sound w so_far.sound;
    all = so_far.all;
    stands = so_far.stands;
    sent = so_far.sent;
    talks = so_far.talks;
  }

  stands_so : (d : Deployment) (acts : ℕ → WireActs Purpose) (a b : WorldState M) → ◌≡◌ {A = Stepped M} (Ok a) (Ok b) → Stands d acts a → Stands d acts b
  stands_so d acts a b is stands = (let same : a ≡ b = cc in subst (λ (w : WorldState M). Stands d acts w) same stands)

  live_there : (o : Option (Standing M)) → option_map_or (λ (s : Standing M). is_none s.crashed) o false ≡ true → (s : Standing M) × (o ≡ Some s)
  live_there None live = absurd (let clash : false ≡ true = live in cc)
  live_there (Some s) live = (s, refl)

below_sent : (below : Bool) (number most : ℕ) → (if below then None else Some (NoDatagram number most)) ≡ None → below ≡ true
below_sent true number most legal = refl
below_sent false number most legal = absurd (let clash : ◌≡◌ {A = Option LineCause} (Some (NoDatagram number most)) None = legal in cc)

module _ {M : Type 0} (declared : M → Signature) (turn : M → List ValueTree → ℕ → List ValueTree → List Outcome → NextTurn) where
  -- ---- what a line adds at the pairs of a node

  module _ (line : Line) (w : WorldState M) where
    nothing_by : comes_by line w ≡ None → (node : ℕ) (acts : WireActs Purpose) → acts ≡ with_line declared turn node acts line w
    nothing_by none node acts = sym (ap (λ o. option_map_or (with_step declared turn node acts w) o acts) none)

    module _ (node : ℕ) (event : Event) (comes_it : comes_by line w ≡ Some (node, event)) where
      here_by : (s : Standing M) → slice_get w.nodes node ≡ Some s → (acts : WireActs Purpose)
          → with_line declared turn node acts line w ≡ with_all acts (acts_in declared turn (w.steps + 1) event s.node)
      here_by s at acts =
          let all : Standing M → WireActs Purpose = λ t. with_all acts (acts_in declared turn (w.steps + 1) event t.node) in
          ap (λ o. option_map_or (with_step declared turn node acts w) o acts) comes_it
          ∙ ap (λ b. if b then option_map_or all (slice_get w.nodes node) acts else acts) (eq-eqb node node refl)
          ∙ ap (λ (o : Option (Standing M)). option_map_or all o acts) at

      elsewhere_by : (other : ℕ) → other ≢ node → (acts : WireActs Purpose) → with_line declared turn other acts line w ≡ acts
      elsewhere_by other differs acts =
          ap (λ o. option_map_or (with_step declared turn other acts w) o acts) comes_it
          ∙ ap (λ b. if b then option_map_or (λ (s : Standing M). with_all acts (acts_in declared turn (w.steps + 1) event s.node)) (slice_get w.nodes other) acts else acts)
          (ne_eqb node other (λ same. differs (sym same)))

  -- ---- a line

  module _ (d : Deployment) (acts : ℕ → WireActs Purpose) (w next : WorldState M) (so_far : Stands d acts w) where
    -- what has happened behind it
    abbrev behind : Line → ℕ → WireActs Purpose
    behind line node = with_line declared turn node (acts node) line w

    in_deployment : (node : ℕ) → node < length w.nodes → node < length d.nodes
    in_deployment node below = subst (λ k. node < k) so_far.all below

    -- nothing comes to a node
    unmoved : (line : Line) → comes_by line w ≡ None → Stands d acts next → Stands d (behind line) next
    unmoved line none stands = subst (λ (f : ℕ → WireActs Purpose). Stands d f next) (λ i node. nothing_by line w none node (acts node) i) stands

    -- something comes to one
    moved : (line : Line) (node : ℕ) (event : Event) (s : Standing M) → comes_by line w ≡ Some (node, event) → slice_get w.nodes node ≡ Some s → IsReal d acts node event
        → comes_to declared turn node event w ≡ Ok next → Stands d (behind line) next
    moved line node event s comes_it at real is =
        comes_stand declared turn d acts (behind line) w so_far node event s at real
        (here_by line w node event comes_it s at (acts node)) (λ other differs. elsewhere_by line w node event comes_it other differs (acts other)) next is

    delivered_stands : (number : ℕ) (sent : Sent) (live : Bool) → slice_get w.sent number ≡ Some sent → is_live w sent.to ≡ live
        → step_line declared turn (Deliver number) w ≡ Ok next → Stands d (behind (Deliver number)) next
    delivered_stands number sent true there live is =
        let s = live_there (slice_get w.nodes sent.to) live in
        let may = datagram_may_come w number sent so_far.sound there in
        moved (Deliver number) sent.to (comes.Datagram sent.from sent.bytes) s.0
        (ap (option_and_then (delivery w)) there ∙ ap (λ b. if b then Some (sent.to, comes.Datagram sent.from sent.bytes) else None) live) s.1
        (in_deployment sent.from may.0, may.1, all_at (IsGiven d acts) w.sent number sent so_far.sent there)
        (sym (delivered_at declared turn w number sent true there live) ∙ is)
    delivered_stands number sent false there live is =
        unmoved (Deliver number) (ap (option_and_then (delivery w)) there ∙ ap (λ b. if b then Some (sent.to, comes.Datagram sent.from sent.bytes) else None) live)
        (stands_so d acts (pass_step w) next (sym (delivered_at declared turn w number sent false there live) ∙ is) (passed_stands d acts w so_far))

    line_stands : (line : Line) → Leads declared turn line w next → Stands d (behind line) next
    line_stands (Deliver number) leads =
        let below : number < length w.sent = ltb-true number (length w.sent) (below_sent (nat_lt number (length w.sent)) number (length w.sent) leads.legal) in
        let found = get_there w.sent number below in
        delivered_stands number found.0 (is_live w found.0.to) found.1 refl leads.stepped_is
    line_stands (Tick node) leads =
        let s = get_there w.nodes node leads.named in
        moved (Tick node) node comes.Tick s.0 refl s.1 tt leads.stepped_is
    line_stands (Crash node) leads =
        unmoved (Crash node) refl
        (stands_so d acts (crash_node node w) next leads.stepped_is
        (passed_stands d acts _ (noted_stands d acts (λ s. record s { crashed = Some (w.steps + 1) }) node w (λ s. refl) so_far)))
    line_stands (Down node told) leads =
        let s = get_there w.nodes told leads.named.1 in
        moved (Down node told) told (comes.Down node) s.0 refl s.1 (in_deployment node leads.named.0, down_differs w node told leads.legal) leads.stepped_is
    line_stands (Join node) leads =
        let s = get_there w.nodes node leads.named in
        let note : Standing M → Standing M = λ t. record t { joins = true } in
        comes_stand declared turn d acts (behind (Join node)) (told_to_join node w) (noted_stands d acts note node w (λ t. refl) so_far) node comes.Join (note s.0)
        (noted_at note node w s.0 s.1) tt
        (here_by (Join node) w node comes.Join refl s.0 s.1 (acts node)) (λ other differs. elsewhere_by (Join node) w node comes.Join refl other differs (acts other))
        next leads.stepped_is

  -- ---- lines

  pub lead_stands : (d : Deployment) (acts : ℕ → WireActs Purpose) (lines : List Line) (w last : WorldState M) → Stands d acts w → Lead declared turn lines w last
      → Stands d (λ node. with_lines declared turn node (acts node) lines w) last
  lead_stands d acts [] w last so_far lead = subst (λ (v : WorldState M). Stands d acts v) (sym lead) so_far
  lead_stands d acts (line ∷ lines) w last so_far lead =
      let next : WorldState M = lead.0 in
      let behind_it : ℕ → WireActs Purpose = λ node. with_line declared turn node (acts node) line w in
      subst (λ (f : ℕ → WireActs Purpose). Stands d f last)
      (λ i node. with_others (with_lines declared turn node (behind_it node) lines) (acts node) (sym lead.1.stepped_is i))
      (lead_stands d behind_it lines next last (line_stands d acts w next so_far line lead.1) lead.2)
