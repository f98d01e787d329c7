-- A node of a world goes on, line by line.
use Rattle.std.proofs.Common.{◌≡◌, ◌≢◌, ℕ, ◌+◌, ◌<◌, ◌≤◌, ◌⊎◌, inl, inr, Bool, true, false, List, [], ◌∷◌, length, set, Option, None, Some, Ok, Err, refl, sym, ap, subst, ◌∙◌, arith, ltb-true}
use Rattle.std.specs.Prelude.{slice_get, nat_lt, option_and_then, if◌then◌else◌}
use Rattle.std.specs.Option.{option_map_or}
use Rattle.std.proofs.lemmas.Bool.Decides.{eqb_tells}
use Rattle.std.proofs.lemmas.Option.{same_Some, slice_get_within}
use Rattle.circus_value.specs.ValueTree.{ValueTree}
use Rattle.circus_value.specs.declared.outcome.Outcome.{Outcome}
use Rattle.circus_collate.specs.Deployment.{IsDeployment}
use Rattle.circus_collate.specs.declared.deployment.Deployment.{Deployment}
use Rattle.circus_collate.specs.declared.deployment.Troupe.{Troupe}
use Rattle.circus_model.specs.NextTurn.{NextTurn}
use Rattle.circus_model.specs.Behaviour.{Behaviour, IsModule}
use Rattle.circus_model.specs.Agree.{AreModules, Agree}
use Rattle.circus_model.specs.declared.signature.Signature.{Signature}
use Rattle.circus_performing.specs.Record.{behaviour}
use Rattle.circus_wire.specs.WireActs.{WireActs}
use Rattle.circus_member_rules.specs.declared.occurrence.Purpose.{Purpose}
use Rattle.circus_node.specs.declared.event.Event.{Event}
use Rattle.circus_node.specs.declared.event.Event.TheVariants as comes
use Rattle.circus_node.specs.declared.event.Outputs.{Outputs}
use Rattle.circus_node.specs.NodeState.{NodeState}
use Rattle.circus_node.specs.Step as node_step
use Rattle.circus_schedule.specs.declared.line.Line.{Line}
use Rattle.circus_schedule.specs.declared.line.Line.TheVariants.{Deliver, Tick, Crash, Down, Join}
use Rattle.circus_world.specs.Sent.{Sent}
use Rattle.circus_world.specs.WorldState.{WorldState, Standing, is_live}
use Rattle.circus_world.specs.Course.{Stepped, note_at, pass_step, told_to_join, comes_to, conclude_step}
use Rattle.circus_world.specs.Lines.{Leads, Lead}
use Rattle.circus_world.proofs.ComeLemmas.{datagram_may_come, delivered_at, down_differs}
use Rattle.circus_world.proofs.SlotLemmas.{get_set, get_there, all_at}
use Rattle.circus_world_theory.specs.Histories.{delivery, comes_by}
use Rattle.circus_world_theory.specs.Histories as talks
use Rattle.circus_world_theory.specs.NodeActs.{with_all, acts_in}
use Rattle.circus_world_theory.proofs.Steps.{IsRead}
use Rattle.circus_world_theory.proofs.Worlds.{Stands, IsGiven, IsReal, get_same, is_read}
use Rattle.circus_member_theory.specs.Past.{Past, now}
use Rattle.circus_member_rules.specs.Proper.{AreProper}
use Rattle.circus_world_theory.proofs.Along as along
use Rattle.circus_world_theory.proofs.Along.{noted_at, live_there, below_sent, heard_at, line_talks, line_true}
use Rattle.circus_world_theory.proofs.Stepping.{same_world, comes_is, ComesTruly, NodesTrue}
use Rattle.circus_world_theory.specs.Happened.{happens_by, with_one, with_line, with_lines, with_others}
use Rattle.circus_world_theory.proofs.Timely.Heard.{comes_may}
use Rattle.circus_world_theory.proofs.Timely.Lines as pasts
use Rattle.circus_world_theory.proofs.Timely.Lines.{now_one}
use Rattle.circus_world_theory.proofs.Timely.Lives.{MayHappen}
use Rattle.circus_headline_theory.specs.Datagrams.Lives.{IsOfOther}
use Rattle.circus_headline_theory.proofs.Datagrams.Course.{Goes, goes_on}

-- what comes from another node of a world
pub of_other : (d : Deployment) (acts : ℕ → WireActs Purpose) (node : ℕ) (event : Event) → IsReal d acts node event → IsOfOther d node event
of_other d acts node (comes.Datagram from bytes) real = (real.1, real.0)
of_other d acts node comes.Tick real = tt
of_other d acts node (comes.Down other) real = (real.1, real.0)
of_other d acts node comes.Join real = tt

module _ {M : Type 0} (declared : M → Signature) (turn : M → List ValueTree → ℕ → List ValueTree → List Outcome → NextTurn) (first : M → List ValueTree)
    (lawful : (hosted : M) → IsModule (behaviour declared turn first hosted)) (d : Deployment) (good : IsDeployment d) (node number : ℕ) (troupe : Troupe) (own : M) where
  -- the node of a world goes on with this past, which ends by now, and these acts
  pub record GoesIn (p : Past) (acts : WireActs Purpose) (w : WorldState M) : Type 0 where
    pub goes : (s : Standing M) → slice_get w.nodes node ≡ Some s → Goes declared turn first lawful d good node number troupe own p acts s.node
    pub before : now p ≤ w.steps

  abbrev IsGoing : Past → WireActs Purpose → NodeState M → Type 0
  IsGoing p acts n = Goes declared turn first lawful d good node number troupe own p acts n

  -- ---- something comes to a node

  module _ (p q : Past) (acts next_acts : WireActs Purpose) (v : WorldState M) (other : ℕ) (event : Event) (s : Standing M) (at : slice_get v.nodes other ≡ Some s)
      (may : MayHappen declared s.node.acting (happens_by declared event s.node)) (far : IsOfOther d other event) (read : IsRead event)
      (here : other ≡ node → (q ≡ with_one p (v.steps + 1) (happens_by declared event s.node)) × (next_acts ≡ with_all acts (acts_in declared turn (v.steps + 1) event s.node)))
      (elsewhere : other ≢ node → (q ≡ p) × (next_acts ≡ acts)) (h : GoesIn p acts v) where
    by_slot : (ended : NodeState M × Outputs) (t : Standing M) → ((node ≡ other) × (t ≡ record s { node = ended.0 })) ⊎ (slice_get v.nodes node ≡ Some t) → other ≢ node → IsGoing p acts t.node
    by_slot ended t (inl slot) differs = absurd (differs (sym slot.0))
    by_slot ended t (inr there) differs = h.goes t there

    step_goes : (ended : NodeState M × Outputs) → node_step.step_node declared turn (v.steps + 1) event s.node ≡ Ok ended → (next : WorldState M)
        → next.nodes ≡ set v.nodes other (record s { node = ended.0 }) → next.steps ≡ v.steps + 1 → GoesIn q next_acts next
    step_goes ended ends next nodes steps = elim (eqb_tells other node) [
      | inl same ↦
          let is = here same.1 in
          let before = h.before in
          let later : now p < v.steps + 1 = omega (arith, before) in
          let goes : IsGoing p acts s.node = h.goes s (ap (slice_get v.nodes) (sym same.1) ∙ at) in
          let on_ = goes_on declared turn first lawful d good node number troupe own p acts s.node (v.steps + 1) event ended later goes (subst (λ k. IsOfOther d k event) same.1 far) read may ends in
          let goes_then : IsGoing q next_acts ended.0 =
          subst (λ (x : Past). IsGoing x next_acts ended.0) (sym is.0)
          (subst (λ a. IsGoing (with_one p (v.steps + 1) (happens_by declared event s.node)) a ended.0) (sym is.1) on_) in
          record {
            goes = λ t found.
                let set_there : slice_get next.nodes node ≡ Some (record s { node = ended.0 }) =
                ap (λ (l : List (Standing M)). slice_get l node) nodes ∙ ap (slice_get (set v.nodes other (record s { node = ended.0 }))) (sym same.1)
                ∙ get_same v.nodes other (record s { node = ended.0 }) s at in
                subst (λ (x : Standing M). IsGoing q next_acts x.node) (same_Some _ t (sym set_there ∙ found)) goes_then;
            before = subst (λ (x : Past). now x ≤ next.steps) (sym is.0)
                (subst (λ k. now (with_one p (v.steps + 1) (happens_by declared event s.node)) ≤ k) (sym steps)
                (now_one p (v.steps + 1) (happens_by declared event s.node) (omega (arith, before))));
          }
      | inr differ ↦
          let is = elsewhere differ.1 in
          let before = h.before in
          record {
            goes = λ t found. subst (λ (x : Past). IsGoing x next_acts t.node) (sym is.0)
                (subst (λ a. IsGoing p a t.node) (sym is.1)
                (by_slot ended t (get_set v.nodes other node (record s { node = ended.0 }) t (ap (λ (l : List (Standing M)). slice_get l node) (sym nodes) ∙ found)) differ.1));
            before = subst (λ (x : Past). now x ≤ next.steps) (sym is.0) (omega (arith, before, steps));
          }
    ]

    comes_goes : (next : WorldState M) → comes_to declared turn other event v ≡ Ok next → GoesIn q next_acts next
    comes_goes next is = by_end (node_step.step_node declared turn (v.steps + 1) event s.node) refl
      where
        by_end : (e : node_step.Ended M) → node_step.step_node declared turn (v.steps + 1) event s.node ≡ e → GoesIn q next_acts next
        by_end (Ok ended) ends =
            let same = same_world _ next (sym (comes_is declared turn v other event s at ∙ ap (conclude_step other s v) ends) ∙ is) in
            step_goes ended ends next (ap (λ (x : WorldState M). x.nodes) (sym same)) (ap (λ (x : WorldState M). x.steps) (sym same))
        by_end (Err peer) ends = absurd (let clash : ◌≡◌ {A = Stepped M} (Err (other, peer)) (Ok next) = sym (comes_is declared turn v other event s at ∙ ap (conclude_step other s v) ends) ∙ is in cc)

  -- ---- something is noted of a node

  noted_goes : (p : Past) (acts : WireActs Purpose) (note : Standing M → Standing M) (other : ℕ) (w : WorldState M) → ((s : Standing M) → (note s).node ≡ s.node) → GoesIn p acts w
      → GoesIn p acts (note_at note other w)
  noted_goes p acts note other w same h = record { goes = λ t found. by_node t (slice_get w.nodes other) refl found; before = h.before }
    where
      by_node : (t : Standing M) (o : Option (Standing M)) → slice_get w.nodes other ≡ o
          → slice_get (option_map_or (λ s. set w.nodes other (note s)) o w.nodes) node ≡ Some t → IsGoing p acts t.node
      by_node t None at found = h.goes t found
      by_node t (Some s) at found = elim (get_set w.nodes other node (note s) t found) [
        | inl here ↦
            subst (λ (x : Standing M). IsGoing p acts x.node) (sym here.1)
            (subst (λ (n : NodeState M). IsGoing p acts n) (sym (same s)) (h.goes s (ap (slice_get w.nodes) here.0 ∙ at)))
        | inr there ↦ h.goes t there
      ]

  passed_goes : (p : Past) (acts : WireActs Purpose) (w : WorldState M) → GoesIn p acts w → GoesIn p acts (pass_step w)
  passed_goes p acts w h = record { goes = h.goes; before = (let before = h.before in omega (arith, before)) }

module _ {M : Type 0} (declared : M → Signature) (turn : M → List ValueTree → ℕ → List ValueTree → List Outcome → NextTurn) (first : M → List ValueTree)
    (lawful : (hosted : M) → IsModule (behaviour declared turn first hosted))
    (program : List Behaviour) (agree : Agree program) (are : AreModules program) (proper : AreProper program) (d : Deployment) (good : IsDeployment d)
    (all : length program ≡ length d.troupes) (node number : ℕ) (troupe : Troupe) (own : M) where
  abbrev GoesHere : Past → WireActs Purpose → WorldState M → Type 0
  GoesHere p acts w = GoesIn declared turn first lawful d good node number troupe own p acts w

  -- ---- one line

  module _ (acts : ℕ → WireActs Purpose) (p : Past) (w next : WorldState M) (stands : Stands d acts w) (so_far : NodesTrue declared turn first program d acts w) where
    abbrev past_then : Line → Past
    past_then line = with_line declared node p line w

    abbrev acts_then : Line → WireActs Purpose
    acts_then line = talks.with_line declared turn node (acts node) line w

    -- what comes to a node by a line may happen to it
    pub record ComesWell (other : ℕ) (event : Event) (s : Standing M) : Type 0 where
      pub far : IsOfOther d other event
      pub read : IsRead event
      pub may : MayHappen declared s.node.acting (happens_by declared event s.node)

    comes_well : (other : ℕ) (event : Event) (s : Standing M) → slice_get w.nodes other ≡ Some s → IsReal d acts other event → ComesTruly d acts other event s.node → ComesWell other event s
    comes_well other event s at real truly =
        record {
          far = of_other d acts other event real;
          read = is_read d acts w stands other event (subst (λ k. other < k) stands.all (slice_get_within w.nodes other s at)) real;
          may = comes_may declared turn first program agree are proper d good all acts so_far.said other event s.node ((stands.sound.nodes other s at).deployment ∙ so_far.deployment) truly (so_far.nodes other s at);
        }

    in_deployment : (x : ℕ) → x < length w.nodes → x < length d.nodes
    in_deployment x below = subst (λ k. x < k) stands.all below

    real_datagram : (place : ℕ) (sent : Sent) → slice_get w.sent place ≡ Some sent → IsReal d acts sent.to (comes.Datagram sent.from sent.bytes)
    real_datagram place sent there =
        let may = datagram_may_come w place sent stands.sound there in
        (in_deployment sent.from may.0, may.1, all_at (IsGiven d acts) w.sent place sent stands.sent there)

    delivered_by : (place : ℕ) (sent : Sent) (live : Bool) → slice_get w.sent place ≡ Some sent → is_live w sent.to ≡ live
        → comes_by (Deliver place) w ≡ (if live then Some (sent.to, comes.Datagram sent.from sent.bytes) else None)
    delivered_by place sent live there is =
        ap (option_and_then (delivery w)) there ∙ ap (λ b. if b then Some (sent.to, comes.Datagram sent.from sent.bytes) else None) is

    -- so does all that comes by a line
    pub comes_so : (line : Line) → Leads declared turn line w next → (other : ℕ) (event : Event) (s : Standing M) → comes_by line w ≡ Some (other, event) → slice_get w.nodes other ≡ Some s
        → ComesWell other event s
    comes_so (Deliver place) leads other event s comes_it at = by_live found.0 found.1 (is_live w found.0.to) refl
      where
        found : (sent : Sent) × (slice_get w.sent place ≡ Some sent)
        found = get_there w.sent place (ltb-true place (length w.sent) (below_sent (nat_lt place (length w.sent)) place (length w.sent) leads.legal))

        Well : ℕ × Event → Type 0
        Well e = (t : Standing M) → slice_get w.nodes e.0 ≡ Some t → ComesWell e.0 e.1 t

        by_live : (sent : Sent) → slice_get w.sent place ≡ Some sent → (live : Bool) → is_live w sent.to ≡ live → ComesWell other event s
        by_live sent there true live =
            let same : ◌≡◌ {A = ℕ × Event} (sent.to, comes.Datagram sent.from sent.bytes) (other, event) = same_Some _ _ (sym (delivered_by place sent true there live) ∙ comes_it) in
            subst Well same (λ t found. comes_well sent.to (comes.Datagram sent.from sent.bytes) t found (real_datagram place sent there) (heard_at d acts w stands place sent t there found)) s at
        by_live sent there false live = absurd (let clash : ◌≡◌ {A = Option (ℕ × Event)} None (Some (other, event)) = sym (delivered_by place sent false there live) ∙ comes_it in cc)
    comes_so (Tick x) leads other event s comes_it at =
        let same : ◌≡◌ {A = ℕ × Event} (x, comes.Tick) (other, event) = same_Some _ _ comes_it in
        subst (λ (e : ℕ × Event). (t : Standing M) → slice_get w.nodes e.0 ≡ Some t → ComesWell e.0 e.1 t) same (λ t found. comes_well x comes.Tick t found tt tt) s at
    comes_so (Crash x) leads other event s comes_it at = absurd (let clash : ◌≡◌ {A = Option (ℕ × Event)} None (Some (other, event)) = comes_it in cc)
    comes_so (Down x told) leads other event s comes_it at =
        let same : ◌≡◌ {A = ℕ × Event} (told, comes.Down x) (other, event) = same_Some _ _ comes_it in
        subst (λ (e : ℕ × Event). (t : Standing M) → slice_get w.nodes e.0 ≡ Some t → ComesWell e.0 e.1 t) same
        (λ t found. comes_well told (comes.Down x) t found (in_deployment x leads.named.0, down_differs w x told leads.legal) tt) s at
    comes_so (Join x) leads other event s comes_it at =
        let same : ◌≡◌ {A = ℕ × Event} (x, comes.Join) (other, event) = same_Some _ _ comes_it in
        subst (λ (e : ℕ × Event). (t : Standing M) → slice_get w.nodes e.0 ≡ Some t → ComesWell e.0 e.1 t) same (λ t found. comes_well x comes.Join t found tt tt) s at

    module _ (h : GoesHere p (acts node) w) where
      -- nothing comes to a node
      unmoved : (line : Line) → comes_by line w ≡ None → GoesHere p (acts node) next → GoesHere (past_then line) (acts_then line) next
      unmoved line none is =
          subst (λ (x : Past). GoesHere x (acts_then line) next) (sym (pasts.nothing_by declared node p line w none))
          (subst (λ a. GoesHere p a next) (along.nothing_by declared turn line w none node (acts node)) is)

      here_then : (line : Line) (other : ℕ) (event : Event) (s : Standing M) → comes_by line w ≡ Some (other, event) → slice_get w.nodes other ≡ Some s → other ≡ node
          → (past_then line ≡ with_one p (w.steps + 1) (happens_by declared event s.node)) × (acts_then line ≡ with_all (acts node) (acts_in declared turn (w.steps + 1) event s.node))
      here_then line other event s comes_it at same = (
        pasts.here_by declared node p line w other event comes_it s at same,
        subst (λ k. talks.with_line declared turn k (acts node) line w ≡ with_all (acts node) (acts_in declared turn (w.steps + 1) event s.node)) same
            (along.here_by declared turn line w other event comes_it s at (acts node)),
      )

      elsewhere_then : (line : Line) (other : ℕ) (event : Event) → comes_by line w ≡ Some (other, event) → other ≢ node → (past_then line ≡ p) × (acts_then line ≡ acts node)
      elsewhere_then line other event comes_it differs = (
        pasts.elsewhere_by declared node p line w other event comes_it differs,
        along.elsewhere_by declared turn line w other event comes_it node (λ same. differs (sym same)) (acts node),
      )

      -- something comes to one
      moved : (line : Line) (other : ℕ) (event : Event) (s : Standing M) → comes_by line w ≡ Some (other, event) → slice_get w.nodes other ≡ Some s → ComesWell other event s
          → comes_to declared turn other event w ≡ Ok next → GoesHere (past_then line) (acts_then line) next
      moved line other event s comes_it at well is =
          comes_goes declared turn first lawful d good node number troupe own p (past_then line) (acts node) (acts_then line) w other event s at well.may well.far well.read
          (here_then line other event s comes_it at) (elsewhere_then line other event comes_it) h next is

      line_goes : (line : Line) → Leads declared turn line w next → GoesHere (past_then line) (acts_then line) next
      line_goes (Deliver place) leads = by_live found.0 found.1 (is_live w found.0.to) refl
        where
          found : (sent : Sent) × (slice_get w.sent place ≡ Some sent)
          found = get_there w.sent place (ltb-true place (length w.sent) (below_sent (nat_lt place (length w.sent)) place (length w.sent) leads.legal))

          by_live : (sent : Sent) → slice_get w.sent place ≡ Some sent → (live : Bool) → is_live w sent.to ≡ live → GoesHere (past_then (Deliver place)) (acts_then (Deliver place)) next
          by_live sent there true live =
              let s = live_there (slice_get w.nodes sent.to) live in
              let comes_it = delivered_by place sent true there live in
              moved (Deliver place) sent.to (comes.Datagram sent.from sent.bytes) s.0 comes_it s.1 (comes_so (Deliver place) leads sent.to (comes.Datagram sent.from sent.bytes) s.0 comes_it s.1)
              (sym (delivered_at declared turn w place sent true there live) ∙ leads.stepped_is)
          by_live sent there false live =
              unmoved (Deliver place) (delivered_by place sent false there live)
              (subst (λ (v : WorldState M). GoesHere p (acts node) v) (same_world _ next (sym (delivered_at declared turn w place sent false there live) ∙ leads.stepped_is))
              (passed_goes declared turn first lawful d good node number troupe own p (acts node) w h))
      line_goes (Tick other) leads =
          let s = get_there w.nodes other leads.named in
          moved (Tick other) other comes.Tick s.0 refl s.1 (comes_so (Tick other) leads other comes.Tick s.0 refl s.1) leads.stepped_is
      line_goes (Crash other) leads =
          unmoved (Crash other) refl
          (subst (λ (v : WorldState M). GoesHere p (acts node) v) (same_world _ next leads.stepped_is)
          (passed_goes declared turn first lawful d good node number troupe own p (acts node) _
          (noted_goes declared turn first lawful d good node number troupe own p (acts node) (λ s. record s { crashed = Some (w.steps + 1) }) other w (λ s. refl) h)))
      line_goes (Down other told) leads =
          let s = get_there w.nodes told leads.named.1 in
          moved (Down other told) told (comes.Down other) s.0 refl s.1 (comes_so (Down other told) leads told (comes.Down other) s.0 refl s.1) leads.stepped_is
      line_goes (Join other) leads =
          let s = get_there w.nodes other leads.named in
          let well = comes_so (Join other) leads other comes.Join s.0 refl s.1 in
          let note : Standing M → Standing M = λ t. record t { joins = true } in
          comes_goes declared turn first lawful d good node number troupe own p (past_then (Join other)) (acts node) (acts_then (Join other)) (told_to_join other w) other comes.Join (note s.0) (noted_at note other w s.0 s.1)
          well.may well.far well.read
          (here_then (Join other) other comes.Join s.0 refl s.1) (elsewhere_then (Join other) other comes.Join refl)
          (noted_goes declared turn first lawful d good node number troupe own p (acts node) note other w (λ t. refl) h) next leads.stepped_is

  -- ---- lines

  pub lead_goes : (acts : ℕ → WireActs Purpose) (p : Past) (lines : List Line) (w last : WorldState M) → Stands d acts w → NodesTrue declared turn first program d acts w → GoesHere p (acts node) w
      → Lead declared turn lines w last → GoesHere (with_lines declared turn node p lines w) (talks.with_lines declared turn node (acts node) lines w) last
  lead_goes acts p [] w last stands so_far h lead = subst (λ (v : WorldState M). GoesHere p (acts node) v) (sym lead) h
  lead_goes acts p (line ∷ lines) w last stands so_far h lead =
      let next : WorldState M = lead.0 in
      let q = with_line declared node p line w in
      let one : Lead declared turn (line ∷ []) w next = (next, lead.1, refl) in
      let behind_it : ℕ → WireActs Purpose = λ x. talks.with_line declared turn x (acts x) line w in
      subst
      (λ (e : Stepped M). GoesHere (with_others (with_lines declared turn node q lines) p e) (talks.with_others (talks.with_lines declared turn node (behind_it node) lines) (acts node) e) last)
      (sym lead.1.stepped_is)
      (lead_goes behind_it q lines next last (line_talks declared turn d acts line w next stands lead.1)
      (line_true declared turn first lawful program agree are proper d good all acts w next stands so_far line lead.1)
      (line_goes acts p w next stands so_far h line lead.1) lead.2)
