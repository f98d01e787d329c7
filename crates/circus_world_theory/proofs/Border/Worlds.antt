-- In a world nothing that a node makes is dropped at its border, whichever lines lead to it.
use Rattle.std.proofs.Common.{◌≡◌, ◌≢◌, ℕ, ◌+◌, ◌<◌, ◌⊎◌, Bool, true, false, inl, inr, if◌then◌else◌, List, [], ◌∷◌, ◌++◌, length, map, set, Option, Some, None, Ok, Err, refl, sym, ap, subst, ◌∙◌, ltb-true, eqb}
use Rattle.std.specs.Prelude.{slice_get, nat_lt, option_and_then}
use Rattle.std.specs.Option.{option_map_or}
use Rattle.std.proofs.lemmas.Bool.Decides.{eqb_tells}
use Rattle.std.proofs.lemmas.Option.{same_Some, slice_get_within}
use Rattle.circus_value.specs.ValueTree.{ValueTree}
use Rattle.circus_value.specs.declared.outcome.Outcome.{Outcome}
use Rattle.circus_collate.specs.Deployment.{IsDeployment}
use Rattle.circus_collate.specs.declared.deployment.Deployment.{Deployment}
use Rattle.circus_model.specs.declared.signature.Signature.{Signature}
use Rattle.circus_model.specs.NextTurn.{NextTurn}
use Rattle.circus_model.specs.Behaviour.{IsModule}
use Rattle.circus_performing.specs.Record.{behaviour}
use Rattle.circus_wire.specs.WireActs.{WireActs}
use Rattle.circus_wire.specs.WireStanding.{WireStands}
use Rattle.circus_member_rules.specs.declared.occurrence.Purpose.{Purpose}
use Rattle.circus_node.specs.declared.event.Event.{Event}
use Rattle.circus_node.specs.declared.event.Event.TheVariants as comes
use Rattle.circus_node.specs.declared.event.Outputs.{Outputs}
use Rattle.circus_node.specs.NodeState.{NodeState}
use Rattle.circus_node.specs.Step as node_step
use Rattle.circus_schedule.specs.declared.line.Line.{Line}
use Rattle.circus_schedule.specs.declared.line.Line.TheVariants.{Deliver, Tick, Crash, Down, Join}
use Rattle.circus_world.specs.Sent.{Sent}
use Rattle.circus_world.specs.WorldState.{WorldState, Standing, is_live}
use Rattle.circus_world.specs.Course as course
use Rattle.circus_world.specs.Course.{Stepped, note_at, pass_step, crash_node, told_to_join, conclude_step, comes_to, step_line}
use Rattle.circus_world.specs.Lines.{Leads, Lead}
use Rattle.circus_world.proofs.ComeLemmas.{datagram_may_come, delivered_at, down_differs}
use Rattle.circus_world.proofs.SlotLemmas.{get_set, get_there, all_at}
use Rattle.circus_world_theory.specs.Histories.{beginning_of, delivery, comes_by, with_line, with_lines, with_others}
use Rattle.circus_world_theory.specs.NodeActs.{with_all, acts_in}
use Rattle.circus_world_theory.proofs.Steps.{IsRead}
use Rattle.circus_world_theory.proofs.Worlds.{Stands, IsGiven, IsReal, is_other, came_sent, get_same}
use Rattle.circus_world_theory.proofs.Along.{noted_at, live_there, below_sent, nothing_by, here_by, elsewhere_by, line_talks}
use Rattle.circus_world_theory.proofs.Stepping.{same_world, comes_is}
use Rattle.circus_world_theory.proofs.Border.Steps.{IsAtBorder, MayTake, IsHandedWhole, step_at_border}

module _ {M : Type 0} (declared : M → Signature) (turn : M → List ValueTree → ℕ → List ValueTree → List Outcome → NextTurn) (first : M → List ValueTree)
    (lawful : (hosted : M) → IsModule (behaviour declared turn first hosted)) (d : Deployment) (is : IsDeployment d) where
  -- each node is at its border, where these acts have happened
  abbrev pub AreAtBorder : (ℕ → WireActs Purpose) → WorldState M → Type 0
  AreAtBorder acts w = (node : ℕ) (s : Standing M) → slice_get w.nodes node ≡ Some s → IsAtBorder declared turn first lawful d is node (acts node) s.node

  -- what a node accepts of what comes to it by a line can happen to it
  abbrev pub TakesLine : Line → WorldState M → Type 0
  TakesLine line w = (node : ℕ) (event : Event) (s : Standing M) → comes_by line w ≡ Some (node, event) → slice_get w.nodes node ≡ Some s → MayTake declared turn first lawful d is node event s.node

  -- nothing that a node makes by a line is dropped
  abbrev pub HandsLine : (ℕ → WireActs Purpose) → Line → WorldState M → Type 0
  HandsLine acts line w = (node : ℕ) (event : Event) (s : Standing M) → comes_by line w ≡ Some (node, event) → slice_get w.nodes node ≡ Some s
      → IsHandedWhole declared turn first lawful d is node (acts node) (w.steps + 1) event s.node

  -- ---- something comes to a node

  module _ (acts : ℕ → WireActs Purpose) (w : WorldState M) (node : ℕ) (event : Event) (s : Standing M) (at : slice_get w.nodes node ≡ Some s)
      (stands : WireStands s.node.wire (beginning_of d node) (acts node))
      (can : node_step.CanCome s.node event) (read : IsRead event) (takes : MayTake declared turn first lawful d is node event s.node) (borders : AreAtBorder acts w)
      (next : WorldState M) (goes : comes_to declared turn node event w ≡ Ok next) where
    -- what it makes is handed over, and each node is at its border then
    comes_at_border : (new : ℕ → WireActs Purpose) → new node ≡ with_all (acts node) (acts_in declared turn (w.steps + 1) event s.node)
        → ((other : ℕ) → other ≢ node → new other ≡ acts other)
        → IsHandedWhole declared turn first lawful d is node (acts node) (w.steps + 1) event s.node × AreAtBorder new next
    comes_at_border new here elsewhere = by_end (node_step.step_node declared turn (w.steps + 1) event s.node) refl
      where
        by_end : (e : node_step.Ended M) → node_step.step_node declared turn (w.steps + 1) event s.node ≡ e
            → IsHandedWhole declared turn first lawful d is node (acts node) (w.steps + 1) event s.node × AreAtBorder new next
        by_end (Ok ended) ends =
            let steps = step_at_border declared turn first lawful d is node (acts node) (w.steps + 1) event s.node ended stands can read takes (borders node s at) ends in
            let after : WorldState M = record w {
              nodes = set w.nodes node (record s { node = ended.0 });
              sent = w.sent ++ map (course.sent_by (w.steps + 1) node) ended.1.gives;
              steps = w.steps + 1;
            } in
            let same : after ≡ next = same_world after next (sym (comes_is declared turn w node event s at ∙ ap (conclude_step node s w) ends) ∙ goes) in
            (steps.handed, subst (AreAtBorder new) same (λ x t found. by_node ended steps.behind x t found (eqb_tells x node)))
          where
            by_node : (ended : NodeState M × Outputs)
                → IsAtBorder declared turn first lawful d is node (with_all (acts node) (acts_in declared turn (w.steps + 1) event s.node)) ended.0
                → (x : ℕ) (t : Standing M) → slice_get (set w.nodes node (record s { node = ended.0 })) x ≡ Some t
                → ((eqb x node ≡ true) × (x ≡ node)) ⊎ ((eqb x node ≡ false) × (x ≢ node)) → IsAtBorder declared turn first lawful d is x (new x) t.node
            by_node ended behind x t found (inl same) =
                let is_ : record s { node = ended.0 } ≡ t =
                same_Some _ t (sym (get_same w.nodes node (record s { node = ended.0 }) s at) ∙ ap (slice_get (set w.nodes node (record s { node = ended.0 }))) (sym same.1) ∙ found) in
                subst (λ k. IsAtBorder declared turn first lawful d is k (new k) t.node) (sym same.1)
                (subst (λ (v : Standing M). IsAtBorder declared turn first lawful d is node (new node) v.node) is_
                (subst (λ a. IsAtBorder declared turn first lawful d is node a ended.0) (sym here) behind))
            by_node ended behind x t found (inr differs) =
                subst (λ a. IsAtBorder declared turn first lawful d is x a t.node) (sym (elsewhere x differs.1))
                (borders x t (elim (get_set w.nodes node x (record s { node = ended.0 }) t found) [ inl same ↦ absurd (differs.1 same.0) | inr there ↦ there ]))
        by_end (Err peer) ends = absurd (let clash : ◌≡◌ {A = Stepped M} (Err (node, peer)) (Ok next) = sym (comes_is declared turn w node event s at ∙ ap (conclude_step node s w) ends) ∙ goes in cc)

  -- ---- something is noted of a node

  noted_border : (acts : ℕ → WireActs Purpose) (note : Standing M → Standing M) (node : ℕ) (w : WorldState M) → ((s : Standing M) → (note s).node ≡ s.node) → AreAtBorder acts w
      → AreAtBorder acts (note_at note node w)
  noted_border acts note node w same borders x t found = by_node (slice_get w.nodes node) refl found
    where
      by_node : (o : Option (Standing M)) → slice_get w.nodes node ≡ o → slice_get (option_map_or (λ s. set w.nodes node (note s)) o w.nodes) x ≡ Some t
          → IsAtBorder declared turn first lawful d is x (acts x) t.node
      by_node None at found = borders x t found
      by_node (Some s) at found = elim (get_set w.nodes node x (note s) t found) [
        | inl here ↦
            subst (λ k. IsAtBorder declared turn first lawful d is k (acts k) t.node) (sym here.0)
            (subst (λ (v : Standing M). IsAtBorder declared turn first lawful d is node (acts node) v.node) (sym here.1)
            (subst (IsAtBorder declared turn first lawful d is node (acts node)) (sym (same s)) (borders node s at)))
        | inr there ↦ borders x t there
      ]

  -- ---- a line

  -- nothing that is made by a line is dropped, and each node is at its border behind it
  pub record LineAtBorder (acts : ℕ → WireActs Purpose) (line : Line) (w next : WorldState M) : Type 0 where
    pub hands : HandsLine acts line w
    pub behind : AreAtBorder (λ node. with_line declared turn node (acts node) line w) next

  module _ (acts : ℕ → WireActs Purpose) (w next : WorldState M) (so_far : Stands d acts w) (borders : AreAtBorder acts w) where
    in_deployment : (node : ℕ) → node < length w.nodes → node < length d.nodes
    in_deployment node below = subst (λ k. node < k) so_far.all below

    can_come : (node : ℕ) (event : Event) (s : Standing M) → slice_get w.nodes node ≡ Some s → IsReal d acts node event → node_step.CanCome s.node event
    can_come node (comes.Datagram from bytes) s at real = is_other d node from s.node.wire (acts node) (so_far.stands node s at) real.0 real.1
    can_come node comes.Tick s at real = tt
    can_come node (comes.Down other) s at real = is_other d node other s.node.wire (acts node) (so_far.stands node s at) real.0 real.1
    can_come node comes.Join s at real = tt

    is_read : (node : ℕ) (event : Event) → node < length d.nodes → IsReal d acts node event → IsRead event
    is_read node (comes.Datagram from bytes) below real = λ s read. (came_sent d acts w so_far from node bytes s real.0 below real.1 real.2 read).0
    is_read node comes.Tick below real = tt
    is_read node (comes.Down other) below real = tt
    is_read node comes.Join below real = tt

    -- nothing comes to a node
    unmoved : (line : Line) → comes_by line w ≡ None → AreAtBorder acts next → LineAtBorder acts line w next
    unmoved line none border =
        record {
          hands = λ node event s comes_it at. absurd (none_comes (sym none ∙ comes_it));
          behind = subst (λ (f : ℕ → WireActs Purpose). AreAtBorder f next) (λ i node. nothing_by declared turn line w none node (acts node) i) border;
        }
      where
        none_comes : {node : ℕ} {event : Event} → ◌≡◌ {A = Option (ℕ × Event)} None (Some (node, event)) → ⊥
        none_comes clash = cc

    -- something comes to one, which stands so there, or did before something was noted of it
    module _ (line : Line) (node : ℕ) (event : Event) (comes_it : comes_by line w ≡ Some (node, event)) where
      -- the one that comes is this
      handed_line : (s : Standing M) → slice_get w.nodes node ≡ Some s → IsHandedWhole declared turn first lawful d is node (acts node) (w.steps + 1) event s.node
          → HandsLine acts line w
      handed_line s at handed other happens t comes_other at_other =
          let one : ◌≡◌ {A = Option (ℕ × Event)} (Some (node, event)) (Some (other, happens)) = sym comes_it ∙ comes_other in
          let same : ◌≡◌ {A = ℕ × Event} (node, event) (other, happens) = same_Some (node, event) (other, happens) one in
          by_same other happens same t at_other
        where
          by_same : (other : ℕ) (happens : Event) → ◌≡◌ {A = ℕ × Event} (node, event) (other, happens) → (t : Standing M) → slice_get w.nodes other ≡ Some t
              → IsHandedWhole declared turn first lawful d is other (acts other) (w.steps + 1) happens t.node
          by_same other happens same =
              subst (λ (x : ℕ × Event). (t : Standing M) → slice_get w.nodes x.0 ≡ Some t → IsHandedWhole declared turn first lawful d is x.0 (acts x.0) (w.steps + 1) x.1 t.node) same
              (λ t at_t. subst (λ (v : Standing M). IsHandedWhole declared turn first lawful d is node (acts node) (w.steps + 1) event v.node) (same_Some s t (sym at ∙ at_t)) handed)

      moved : (s : Standing M) → slice_get w.nodes node ≡ Some s → IsReal d acts node event → TakesLine line w → comes_to declared turn node event w ≡ Ok next
          → LineAtBorder acts line w next
      moved s at real takes goes =
          let below = subst (λ k. node < k) so_far.all (slice_get_within w.nodes node s at) in
          let both = comes_at_border acts w node event s at (so_far.stands node s at) (can_come node event s at real) (is_read node event below real) (takes node event s comes_it at) borders next goes
          (λ x. with_line declared turn x (acts x) line w) (here_by declared turn line w node event comes_it s at (acts node))
          (λ other differs. elsewhere_by declared turn line w node event comes_it other differs (acts other)) in
          record { hands = handed_line s at both.0; behind = both.1 }

    still_border : (v : WorldState M) → ◌≡◌ {A = Stepped M} (Ok v) (Ok next) → AreAtBorder acts v → AreAtBorder acts next
    still_border v same border = subst (AreAtBorder acts) (same_world v next same) border

    delivered_border : (number : ℕ) (sent : Sent) (live : Bool) → slice_get w.sent number ≡ Some sent → is_live w sent.to ≡ live → TakesLine (Deliver number) w
        → step_line declared turn (Deliver number) w ≡ Ok next → LineAtBorder acts (Deliver number) w next
    delivered_border number sent true there live takes goes =
        let s = live_there (slice_get w.nodes sent.to) live in
        let may = datagram_may_come w number sent so_far.sound there in
        moved (Deliver number) sent.to (comes.Datagram sent.from sent.bytes)
        (ap (option_and_then (delivery w)) there ∙ ap (λ b. if b then Some (sent.to, comes.Datagram sent.from sent.bytes) else None) live) s.0 s.1
        (in_deployment sent.from may.0, may.1, all_at (IsGiven d acts) w.sent number sent so_far.sent there) takes
        (sym (delivered_at declared turn w number sent true there live) ∙ goes)
    delivered_border number sent false there live takes goes =
        unmoved (Deliver number) (ap (option_and_then (delivery w)) there ∙ ap (λ b. if b then Some (sent.to, comes.Datagram sent.from sent.bytes) else None) live)
        (still_border (pass_step w) (sym (delivered_at declared turn w number sent false there live) ∙ goes) borders)

    pub line_at_border : (line : Line) → TakesLine line w → Leads declared turn line w next → LineAtBorder acts line w next
    line_at_border (Deliver number) takes leads =
        let below : number < length w.sent = ltb-true number (length w.sent) (below_sent (nat_lt number (length w.sent)) number (length w.sent) leads.legal) in
        let found = get_there w.sent number below in
        delivered_border number found.0 (is_live w found.0.to) found.1 refl takes leads.stepped_is
    line_at_border (Tick node) takes leads =
        let s = get_there w.nodes node leads.named in
        moved (Tick node) node comes.Tick refl s.0 s.1 tt takes leads.stepped_is
    line_at_border (Crash node) takes leads =
        unmoved (Crash node) refl (still_border (crash_node node w) leads.stepped_is (noted_border acts (λ s. record s { crashed = Some (w.steps + 1) }) node w (λ s. refl) borders))
    line_at_border (Down node told) takes leads =
        let s = get_there w.nodes told leads.named.1 in
        moved (Down node told) told (comes.Down node) refl s.0 s.1 (in_deployment node leads.named.0, down_differs w node told leads.legal) takes leads.stepped_is
    line_at_border (Join node) takes leads =
        let s = get_there w.nodes node leads.named in
        let note : Standing M → Standing M = λ t. record t { joins = true } in
        let both = comes_at_border acts (told_to_join node w) node comes.Join (note s.0) (noted_at note node w s.0 s.1) (so_far.stands node s.0 s.1) tt tt tt
        (noted_border acts note node w (λ t. refl) borders) next leads.stepped_is
        (λ x. with_line declared turn x (acts x) (Join node) w) (here_by declared turn (Join node) w node comes.Join refl s.0 s.1 (acts node))
        (λ other differs. elsewhere_by declared turn (Join node) w node comes.Join refl other differs (acts other)) in
        record { hands = handed_line (Join node) node comes.Join refl s.0 s.1 both.0; behind = both.1 }

  -- ---- lines

  -- what comes by each of the lines may be taken
  abbrev pub TakesLines : List Line → WorldState M → Type 0
  TakesLines [] w = Unit {0}
  TakesLines (line ∷ lines) w = TakesLine line w × ((next : WorldState M) → step_line declared turn line w ≡ Ok next → TakesLines lines next)

  -- nothing that a node makes by any of them is dropped
  abbrev pub HandsLines : (ℕ → WireActs Purpose) → List Line → WorldState M → Type 0
  HandsLines acts [] w = Unit {0}
  HandsLines acts (line ∷ lines) w =
      HandsLine acts line w × ((next : WorldState M) → step_line declared turn line w ≡ Ok next → HandsLines (λ node. with_line declared turn node (acts node) line w) lines next)

  pub record LinesAtBorder (acts : ℕ → WireActs Purpose) (lines : List Line) (w last : WorldState M) : Type 0 where
    pub hands : HandsLines acts lines w
    pub behind : AreAtBorder (λ node. with_lines declared turn node (acts node) lines w) last

  pub lines_at_border : (acts : ℕ → WireActs Purpose) (lines : List Line) (w last : WorldState M) → Stands d acts w → AreAtBorder acts w → TakesLines lines w
      → Lead declared turn lines w last → LinesAtBorder acts lines w last
  lines_at_border acts [] w last so_far borders takes lead = record { hands = tt; behind = subst (AreAtBorder acts) (sym lead) borders }
  lines_at_border acts (line ∷ lines) w last so_far borders takes lead =
      let next : WorldState M = lead.0 in
      let one = line_at_border acts w next so_far borders line takes.0 lead.1 in
      let behind_it : ℕ → WireActs Purpose = λ node. with_line declared turn node (acts node) line w in
      let rest = lines_at_border behind_it lines next last (line_talks declared turn d acts line w next so_far lead.1) one.behind (takes.1 next lead.1.stepped_is) lead.2 in
      record {
        hands = (one.hands, λ other goes. subst (HandsLines behind_it lines) (same_world next other (sym lead.1.stepped_is ∙ goes)) rest.hands);
        behind = subst (λ (f : ℕ → WireActs Purpose). AreAtBorder f last)
            (λ i node. with_others (with_lines declared turn node (behind_it node) lines) (acts node) (sym lead.1.stepped_is i)) rest.behind;
      }

  -- so nothing is dropped by any one of them
  pub hands_at : (acts : ℕ → WireActs Purpose) (before : List Line) (line : Line) (behind : List Line) (w v : WorldState M) → HandsLines acts (before ++ line ∷ behind) w
      → Lead declared turn before w v
      → HandsLine (λ node. with_lines declared turn node (acts node) before w) line v
  hands_at acts [] line behind w v hands lead = subst (HandsLine acts line) (sym lead) hands.0
  hands_at acts (one ∷ before) line behind w v hands lead =
      let next : WorldState M = lead.0 in
      let behind_it : ℕ → WireActs Purpose = λ node. with_line declared turn node (acts node) one w in
      subst (λ (f : ℕ → WireActs Purpose). HandsLine f line v)
      (λ i node. with_others (with_lines declared turn node (behind_it node) before) (acts node) (sym lead.1.stepped_is i))
      (hands_at behind_it before line behind next v (hands.1 next lead.1.stepped_is) lead.2)
