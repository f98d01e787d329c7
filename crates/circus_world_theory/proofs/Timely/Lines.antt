-- A member of a node lives what comes to the node along lines of a world.
use Rattle.std.proofs.Common.{◌≡◌, ◌≢◌, ℕ, ◌+◌, ◌<◌, ◌≤◌, inl, inr, Bool, true, false, List, [], ◌∷◌, length, set, Option, None, Some, Ok, Err, refl, sym, ap, subst, ◌∙◌, arith, ltb-true, eq-eqb}
use Rattle.std.specs.Prelude.{slice_get, nat_lt, option_and_then, if◌then◌else◌}
use Rattle.std.specs.Option.{option_map_or}
use Rattle.std.proofs.lemmas.Bool.{ne_eqb}
use Rattle.std.proofs.lemmas.Bool.Decides.{eqb_tells}
use Rattle.std.proofs.lemmas.Option.{same_Some}
use Rattle.circus_value.specs.ValueTree.{ValueTree}
use Rattle.circus_value.specs.declared.outcome.Outcome.{Outcome}
use Rattle.circus_collate.specs.Deployment.{IsDeployment}
use Rattle.circus_collate.specs.declared.deployment.Deployment.{Deployment}
use Rattle.circus_collate.specs.declared.deployment.Troupe.{Troupe}
use Rattle.circus_model.specs.NextTurn.{NextTurn}
use Rattle.circus_model.specs.Behaviour.{Behaviour, IsModule}
use Rattle.circus_model.specs.Agree.{AreModules, Agree}
use Rattle.circus_model.specs.declared.signature.Signature.{Signature}
use Rattle.circus_performing.specs.Record.{behaviour}
use Rattle.circus_wire.specs.WireActs.{WireActs}
use Rattle.circus_member_rules.specs.declared.occurrence.Occurrence.{Occurrence}
use Rattle.circus_member_rules.specs.declared.occurrence.Occurrence.TheVariants as occurs
use Rattle.circus_member_rules.specs.declared.occurrence.Purpose.{Purpose}
use Rattle.circus_node.specs.declared.event.Event.{Event}
use Rattle.circus_node.specs.declared.event.Event.TheVariants as comes
use Rattle.circus_node.specs.declared.event.Outputs.{Outputs}
use Rattle.circus_node.specs.NodeState.{Acting, member, ringmaster, NodeState}
use Rattle.circus_node.specs.Step as node_step
use Rattle.circus_schedule.specs.declared.line.Line.{Line}
use Rattle.circus_schedule.specs.declared.line.Line.TheVariants.{Deliver, Tick, Crash, Down, Join}
use Rattle.circus_world.specs.Sent.{Sent}
use Rattle.circus_world.specs.WorldState.{WorldState, Standing, is_live}
use Rattle.circus_world.specs.Course.{Stepped, note_at, pass_step, told_to_join, comes_to, conclude_step, step_line}
use Rattle.circus_world.specs.Lines.{Leads, Lead}
use Rattle.circus_world.proofs.ComeLemmas.{delivered_at}
use Rattle.circus_world.proofs.SlotLemmas.{get_set, get_there}
use Rattle.circus_world_theory.specs.Histories.{delivery, comes_by}
use Rattle.circus_world_theory.specs.Histories as talks
use Rattle.circus_world_theory.proofs.Lines.{lead_stands}
use Rattle.circus_world_theory.proofs.Worlds.{Stands, get_same}
use Rattle.circus_member_theory.specs.Past.{Past, now}
use Rattle.circus_member_rules.specs.Proper.{AreProper}
use Rattle.circus_world_theory.proofs.Along.{noted_at, live_there, below_sent, heard_at, lead_true}
use Rattle.circus_world_theory.proofs.Stepping.{same_world, comes_is, ComesTruly, NodesTrue}
use Rattle.circus_world_theory.specs.Happened.{of_member, happens_by, with_one, with_others, with_step, with_line, with_lines}
use Rattle.circus_world_theory.proofs.Timely.Heard.{comes_may}
use Rattle.circus_world_theory.proofs.Timely.Lives.{MayHappen, NodeLives, node_lives_on}
use Rattle.circus_world_theory.proofs.Timely.Callers.{Numbers}
use Rattle.circus_world_theory.proofs.Timely.Nodes.{ends_by, numbers_on}

-- where a past ends once something has happened in a step, if anything did
pub now_one : (p : Past) (step : ℕ) (o : Option Occurrence) → now p ≤ step → now (with_one p step o) ≤ step
now_one p step None before = before
now_one p step (Some o) before = omega arith

-- ---- what a line adds to a past

module _ {M : Type 0} (declared : M → Signature) (node : ℕ) (p : Past) (line : Line) (w : WorldState M) where
  pub nothing_by : comes_by line w ≡ None → with_line declared node p line w ≡ p
  nothing_by none = ap (λ o. option_map_or (with_step declared node p w) o p) none

  module _ (other : ℕ) (event : Event) (comes_it : comes_by line w ≡ Some (other, event)) where
    abbrev one_more : Standing M → Past
    one_more s = with_one p (w.steps + 1) (happens_by declared event s.node)

    pub here_by : (s : Standing M) → slice_get w.nodes other ≡ Some s → other ≡ node → with_line declared node p line w ≡ one_more s
    here_by s at same =
        ap (λ o. option_map_or (with_step declared node p w) o p) comes_it
        ∙ ap (λ b. if b then option_map_or one_more (slice_get w.nodes node) p else p) (eq-eqb other node same)
        ∙ ap (λ (o : Option (Standing M)). option_map_or one_more o p) (ap (slice_get w.nodes) (sym same) ∙ at)

    pub elsewhere_by : other ≢ node → with_line declared node p line w ≡ p
    elsewhere_by differs =
        ap (λ o. option_map_or (with_step declared node p w) o p) comes_it
        ∙ ap (λ b. if b then option_map_or one_more (slice_get w.nodes node) p else p) (ne_eqb other node differs)

module _ {M : Type 0} (declared : M → Signature) (turn : M → List ValueTree → ℕ → List ValueTree → List Outcome → NextTurn) (first : M → List ValueTree)
    (lawful : (hosted : M) → IsModule (behaviour declared turn first hosted)) (d : Deployment) (node number : ℕ) (troupe : Troupe) (own : M) where
  -- the member of a node of a world lives this past, which ends by now
  pub record LivesIn (p : Past) (w : WorldState M) : Type 0 where
    pub lives : (s : Standing M) → slice_get w.nodes node ≡ Some s → NodeLives declared turn first lawful d node number troupe own p s.node.acting
    pub numbers : (s : Standing M) → slice_get w.nodes node ≡ Some s → Numbers s.node.wire p
    pub before : now p ≤ w.steps

  abbrev IsAlive : Past → NodeState M → Type 0
  IsAlive p n = NodeLives declared turn first lawful d node number troupe own p n.acting

  -- ---- something comes to a node

  module _ (p q : Past) (v : WorldState M) (other : ℕ) (event : Event) (s : Standing M) (at : slice_get v.nodes other ≡ Some s)
      (may : MayHappen declared s.node.acting (happens_by declared event s.node))
      (here : other ≡ node → q ≡ with_one p (v.steps + 1) (happens_by declared event s.node)) (elsewhere : other ≢ node → q ≡ p) (h : LivesIn p v) where
    step_lives : (ended : NodeState M × Outputs) → node_step.step_node declared turn (v.steps + 1) event s.node ≡ Ok ended → (next : WorldState M)
        → next.nodes ≡ set v.nodes other (record s { node = ended.0 }) → next.steps ≡ v.steps + 1 → LivesIn q next
    step_lives ended ends next nodes steps = elim (eqb_tells other node) [
      | inl same ↦
          let same_past = here same.1 in
          let e = ends_by declared turn (v.steps + 1) event s.node ended ends in
          let before = h.before in
          let later : now p < v.steps + 1 = omega (arith, before) in
          let there : slice_get v.nodes node ≡ Some s = ap (slice_get v.nodes) (sym same.1) ∙ at in
          let goes : IsAlive q ended.0 =
          subst (λ (x : Past). IsAlive x ended.0) (sym same_past)
          (subst (NodeLives declared turn first lawful d node number troupe own (with_one p (v.steps + 1) (happens_by declared event s.node))) (sym e.acting)
          (node_lives_on declared turn first lawful d node number troupe own p (v.steps + 1) later event s.node (h.lives s there) may)) in
          let numbers : Numbers ended.0.wire q =
          subst (λ (x : Past). Numbers ended.0.wire x) (sym same_past) (numbers_on declared turn p (v.steps + 1) event s.node ended e (h.numbers s there)) in
          record {
            lives = λ t found. is_set (λ (n : NodeState M). IsAlive q n) same.1 t found goes;
            numbers = λ t found. is_set (λ (n : NodeState M). Numbers n.wire q) same.1 t found numbers;
            before = subst (λ (x : Past). now x ≤ next.steps) (sym same_past)
                (subst (λ k. now (with_one p (v.steps + 1) (happens_by declared event s.node)) ≤ k) (sym steps)
                (now_one p (v.steps + 1) (happens_by declared event s.node) (omega (arith, before))));
          }
      | inr differ ↦
          let same_past = elsewhere differ.1 in
          let before = h.before in
          record {
            lives = λ t found. subst (λ (x : Past). IsAlive x t.node) (sym same_past) (h.lives t (is_left differ.1 t found));
            numbers = λ t found. subst (λ (x : Past). Numbers t.node.wire x) (sym same_past) (h.numbers t (is_left differ.1 t found));
            before = subst (λ (x : Past). now x ≤ next.steps) (sym same_past) (omega (arith, before, steps));
          }
    ]
      where
        is_set : (P : NodeState M → Type 0) → other ≡ node → (t : Standing M) → slice_get next.nodes node ≡ Some t → P ended.0 → P t.node
        is_set P same t found holds =
            let set_there : slice_get next.nodes node ≡ Some (record s { node = ended.0 }) =
            ap (λ (l : List (Standing M)). slice_get l node) nodes ∙ ap (slice_get (set v.nodes other (record s { node = ended.0 }))) (sym same)
            ∙ get_same v.nodes other (record s { node = ended.0 }) s at in
            subst (λ (x : Standing M). P x.node) (same_Some _ t (sym set_there ∙ found)) holds

        is_left : other ≢ node → (t : Standing M) → slice_get next.nodes node ≡ Some t → slice_get v.nodes node ≡ Some t
        is_left differs t found =
            elim (get_set v.nodes other node (record s { node = ended.0 }) t (ap (λ (l : List (Standing M)). slice_get l node) (sym nodes) ∙ found)) [
              | inl slot ↦ absurd (differs (sym slot.0))
              | inr there ↦ there
            ]

    comes_lives : (next : WorldState M) → comes_to declared turn other event v ≡ Ok next → LivesIn q next
    comes_lives next is = by_end (node_step.step_node declared turn (v.steps + 1) event s.node) refl
      where
        by_end : (e : node_step.Ended M) → node_step.step_node declared turn (v.steps + 1) event s.node ≡ e → LivesIn q next
        by_end (Ok ended) ends =
            let same = same_world _ next (sym (comes_is declared turn v other event s at ∙ ap (conclude_step other s v) ends) ∙ is) in
            step_lives ended ends next (ap (λ (x : WorldState M). x.nodes) (sym same)) (ap (λ (x : WorldState M). x.steps) (sym same))
        by_end (Err peer) ends = absurd (let clash : ◌≡◌ {A = Stepped M} (Err (other, peer)) (Ok next) = sym (comes_is declared turn v other event s at ∙ ap (conclude_step other s v) ends) ∙ is in cc)

  -- ---- something is noted of a node

  noted_lives : (p : Past) (note : Standing M → Standing M) (other : ℕ) (w : WorldState M) → ((s : Standing M) → (note s).node ≡ s.node) → LivesIn p w
      → LivesIn p (note_at note other w)
  noted_lives p note other w same h =
      record {
        lives = λ t found. by_node (λ (n : NodeState M). IsAlive p n) h.lives t (slice_get w.nodes other) refl found;
        numbers = λ t found. by_node (λ (n : NodeState M). Numbers n.wire p) h.numbers t (slice_get w.nodes other) refl found;
        before = h.before;
      }
    where
      by_node : (P : NodeState M → Type 0) → ((s : Standing M) → slice_get w.nodes node ≡ Some s → P s.node) → (t : Standing M) (o : Option (Standing M)) → slice_get w.nodes other ≡ o
          → slice_get (option_map_or (λ s. set w.nodes other (note s)) o w.nodes) node ≡ Some t → P t.node
      by_node P holds t None at found = holds t found
      by_node P holds t (Some s) at found = elim (get_set w.nodes other node (note s) t found) [
        | inl here ↦
            subst (λ (x : Standing M). P x.node) (sym here.1)
            (subst (λ (n : NodeState M). P n) (sym (same s)) (holds s (ap (slice_get w.nodes) here.0 ∙ at)))
        | inr there ↦ holds t there
      ]

  passed_lives : (p : Past) (w : WorldState M) → LivesIn p w → LivesIn p (pass_step w)
  passed_lives p w h = record { lives = h.lives; numbers = h.numbers; before = (let before = h.before in omega (arith, before)) }

module _ {M : Type 0} (declared : M → Signature) (turn : M → List ValueTree → ℕ → List ValueTree → List Outcome → NextTurn) (first : M → List ValueTree)
    (lawful : (hosted : M) → IsModule (behaviour declared turn first hosted))
    (program : List Behaviour) (agree : Agree program) (are : AreModules program) (proper : AreProper program) (d : Deployment) (good : IsDeployment d)
    (all : length program ≡ length d.troupes) (node number : ℕ) (troupe : Troupe) (own : M) where
  abbrev Lives : Past → WorldState M → Type 0
  Lives p w = LivesIn declared turn first lawful d node number troupe own p w

  -- ---- one line

  module _ (acts : ℕ → WireActs Purpose) (p : Past) (w next : WorldState M) (stands : Stands d acts w) (so_far : NodesTrue declared turn first program d acts w)
      (h : Lives p w) where
    abbrev behind : Line → Past
    behind line = with_line declared node p line w

    -- nothing comes to a node
    unmoved : (line : Line) → comes_by line w ≡ None → Lives p next → Lives (behind line) next
    unmoved line none is = subst (λ (x : Past). Lives x next) (sym (nothing_by declared node p line w none)) is

    -- something comes to one
    moved : (line : Line) (other : ℕ) (event : Event) (s : Standing M) → comes_by line w ≡ Some (other, event) → slice_get w.nodes other ≡ Some s
        → ComesTruly d acts other event s.node
        → comes_to declared turn other event w ≡ Ok next → Lives (behind line) next
    moved line other event s comes_it at truly is =
        comes_lives declared turn first lawful d node number troupe own p (behind line) w other event s at
        (comes_may declared turn first program agree are proper d good all acts so_far.said other event s.node
        ((stands.sound.nodes other s at).deployment ∙ so_far.deployment) truly
        (so_far.nodes other s at))
        (here_by declared node p line w other event comes_it s at) (elsewhere_by declared node p line w other event comes_it) h next is

    delivered_lives : (place : ℕ) (sent : Sent) (live : Bool) → slice_get w.sent place ≡ Some sent → is_live w sent.to ≡ live
        → step_line declared turn (Deliver place) w ≡ Ok next → Lives (behind (Deliver place)) next
    delivered_lives place sent true there live is =
        let s = live_there (slice_get w.nodes sent.to) live in
        moved (Deliver place) sent.to (comes.Datagram sent.from sent.bytes) s.0
        (ap (option_and_then (delivery w)) there ∙ ap (λ b. if b then Some (sent.to, comes.Datagram sent.from sent.bytes) else None) live) s.1
        (heard_at d acts w stands place sent s.0 there s.1)
        (sym (delivered_at declared turn w place sent true there live) ∙ is)
    delivered_lives place sent false there live is =
        unmoved (Deliver place) (ap (option_and_then (delivery w)) there ∙ ap (λ b. if b then Some (sent.to, comes.Datagram sent.from sent.bytes) else None) live)
        (subst (λ (v : WorldState M). Lives p v) (same_world _ next (sym (delivered_at declared turn w place sent false there live) ∙ is))
        (passed_lives declared turn first lawful d node number troupe own p w h))

    pub line_lives : (line : Line) → Leads declared turn line w next → Lives (behind line) next
    line_lives (Deliver place) leads =
        let below : place < length w.sent = ltb-true place (length w.sent) (below_sent (nat_lt place (length w.sent)) place (length w.sent) leads.legal) in
        let found = get_there w.sent place below in
        delivered_lives place found.0 (is_live w found.0.to) found.1 refl leads.stepped_is
    line_lives (Tick other) leads =
        let s = get_there w.nodes other leads.named in
        moved (Tick other) other comes.Tick s.0 refl s.1 tt leads.stepped_is
    line_lives (Crash other) leads =
        unmoved (Crash other) refl
        (subst (λ (v : WorldState M). Lives p v) (same_world _ next leads.stepped_is)
        (passed_lives declared turn first lawful d node number troupe own p _
        (noted_lives declared turn first lawful d node number troupe own p (λ s. record s { crashed = Some (w.steps + 1) }) other w (λ s. refl) h)))
    line_lives (Down other told) leads =
        let s = get_there w.nodes told leads.named.1 in
        moved (Down other told) told (comes.Down other) s.0 refl s.1 tt leads.stepped_is
    line_lives (Join other) leads =
        let s = get_there w.nodes other leads.named in
        let note : Standing M → Standing M = λ t. record t { joins = true } in
        comes_lives declared turn first lawful d node number troupe own p (behind (Join other)) (told_to_join other w) other comes.Join (note s.0) (noted_at note other w s.0 s.1)
        (joins_may s.0.node.acting)
        (here_by declared node p (Join other) w other comes.Join refl s.0 s.1) (elsewhere_by declared node p (Join other) w other comes.Join refl)
        (noted_lives declared turn first lawful d node number troupe own p note other w (λ t. refl) h) next leads.stepped_is
      where
        joins_may : (a : Acting M) → MayHappen declared a (of_member (λ m. Some occurs.Joins) a)
        joins_may (member m) = (tt, tt)
        joins_may (ringmaster kept) = tt

  -- ---- lines

  pub lead_lives : (acts : ℕ → WireActs Purpose) (p : Past) (lines : List Line) (w last : WorldState M) → Stands d acts w
      → NodesTrue declared turn first program d acts w → Lives p w
      → Lead declared turn lines w last → Lives (with_lines declared turn node p lines w) last
  lead_lives acts p [] w last stands so_far h lead = subst (λ (v : WorldState M). Lives p v) (sym lead) h
  lead_lives acts p (line ∷ lines) w last stands so_far h lead =
      let next : WorldState M = lead.0 in
      let q = with_line declared node p line w in
      let one : Lead declared turn (line ∷ []) w next = (next, lead.1, refl) in
      let behind_it : ℕ → WireActs Purpose = λ x. talks.with_lines declared turn x (acts x) (line ∷ []) w in
      subst (λ (e : Stepped M). Lives (with_others (with_lines declared turn node q lines) p e) last) (sym lead.1.stepped_is)
      (lead_lives behind_it q lines next last (lead_stands declared turn d acts (line ∷ []) w next stands one)
      (lead_true declared turn first lawful program agree are proper d good all acts (line ∷ []) w next stands so_far one)
      (line_lives acts p w next stands so_far h line lead.1) lead.2)
