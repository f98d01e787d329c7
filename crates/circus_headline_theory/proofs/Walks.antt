-- What a line is to a node of a world: nothing comes to it, or something does.
use Rattle.std.proofs.Common.{◌≡◌, ◌≢◌, ℕ, zero, suc, ◌+◌, ◌<◌, ◌⊎◌, inl, inr, Bool, true, false, List, [], ◌∷◌, ◌++◌, length, map, set, All, Option, None, Some, Ok, Err, refl, sym, ap, subst, ◌∙◌, ltb-true, eq-eqb, append-nil}
use Rattle.std.specs.Prelude.{◌||◌, slice_get, is_none, is_some, nat_lt, option_and_then, if◌then◌else◌, ◌==◌}
use Rattle.std.specs.Option.{option_map_or}
use Rattle.std.proofs.lemmas.Bool.{ne_eqb}
use Rattle.std.proofs.lemmas.Bool.Decides.{eqb_tells}
use Rattle.std.proofs.lemmas.List.Elements.{filter-append}
use Rattle.std.proofs.lemmas.Option.{same_Some}
use Rattle.circus_value.specs.Parts.{AreOctets}
use Rattle.circus_value.specs.ValueTree.{ValueTree}
use Rattle.circus_value.specs.declared.outcome.Outcome.{Outcome}
use Rattle.circus_collate.specs.declared.deployment.Deployment.{Deployment}
use Rattle.circus_model.specs.NextTurn.{NextTurn}
use Rattle.circus_model.specs.declared.signature.Signature.{Signature}
use Rattle.circus_wire.specs.WireActs.{WireActs}
use Rattle.circus_member_rules.specs.declared.occurrence.Purpose.{Purpose}
use Rattle.circus_node.specs.NodeState.{NodeState}
use Rattle.circus_node.specs.Step as node_step
use Rattle.circus_node.specs.declared.event.Event.{Event}
use Rattle.circus_node.specs.declared.event.Event.TheVariants as comes
use Rattle.circus_node.specs.declared.event.Give.{Give}
use Rattle.circus_node.specs.declared.event.Outputs.{Outputs}
use Rattle.circus_schedule.specs.declared.line.Line.{Line}
use Rattle.circus_schedule.specs.declared.line.Line.TheVariants.{Deliver, Tick, Crash, Down, Join}
use Rattle.circus_world.specs.declared.cause.LineCause.{LineCause}
use Rattle.circus_world.specs.declared.cause.LineCause.TheVariants.{NotLive, NotCrashed, NotSpare}
use Rattle.circus_world.specs.Sent.{Sent}
use Rattle.circus_world.specs.WorldState.{WorldState, Standing, is_live, has_crashed}
use Rattle.circus_world.specs.Legal.{unless_told, is_spare}
use Rattle.circus_world.specs.Course.{Stepped, sent_by, note_at, pass_step, told_to_join, conclude_step, comes_to, step_line}
use Rattle.circus_world.specs.Lines.{Leads}
use Rattle.circus_world.proofs.ComeLemmas.{live_then, datagram_may_come, delivered_at, down_differs}
use Rattle.circus_world.proofs.SlotLemmas.{get_there, all_at}
use Rattle.circus_world_theory.specs.Histories.{delivery, comes_by}
use Rattle.circus_world_theory.proofs.Worlds.{Stands, get_same}
use Rattle.circus_world_theory.proofs.Along.{noted_at, live_there, below_sent}
use Rattle.circus_world_theory.proofs.Stepping.{same_world, comes_is}
use Rattle.circus_world_theory.specs.NodeLives.{Events, IsOfBytes}
use Rattle.circus_headline_theory.specs.Owed.Makes.{by_line}
use Rattle.circus_headline_theory.specs.Datagrams.Lives.{IsOfOther}
use Rattle.circus_headline_theory.specs.Coming.{comes_then}
use Rattle.circus_headline_theory.specs.Events.{event_of_sent, event_for, is_crash_of, is_join_of}
use Rattle.circus_headline_theory.specs.Sendings.{is_from, sent_from}

-- ---- lists

pub get_left : {X : Type 0} (xs : List X) (i j : ℕ) (v x : X) → j ≢ i → slice_get xs j ≡ Some x → slice_get (set xs i v) j ≡ Some x
get_left [] i j v x differ at = at
get_left (y ∷ xs) zero zero v x differ at = absurd (differ refl)
get_left (y ∷ xs) zero (suc j) v x differ at = at
get_left (y ∷ xs) (suc i) zero v x differ at = at
get_left (y ∷ xs) (suc i) (suc j) v x differ at = get_left xs i j v x (λ same. differ (ap suc same)) at

-- of what a node sends in a step all is from it, and nothing from another one
pub all_from : (step node : ℕ) (gives : List Give) → sent_from node (map (sent_by step node) gives) ≡ map (sent_by step node) gives
all_from step node [] = refl
all_from step node (give ∷ gives) =
    ap (λ b. if b then sent_by step node give ∷ sent_from node (map (sent_by step node) gives) else sent_from node (map (sent_by step node) gives)) (eq-eqb node node refl)
    ∙ ap (λ l. sent_by step node give ∷ l) (all_from step node gives)

pub none_from : (step other node : ℕ) (gives : List Give) → other ≢ node → sent_from node (map (sent_by step other) gives) ≡ []
none_from step other node [] differ = refl
none_from step other node (give ∷ gives) differ =
    ap (λ b. if b then sent_by step other give ∷ sent_from node (map (sent_by step other) gives) else sent_from node (map (sent_by step other) gives)) (ne_eqb other node differ)
    ∙ none_from step other node gives differ

-- ---- who is live

none_crashed : (o : Option ℕ) → is_none o ≡ true → o ≡ None
none_crashed None is = refl
none_crashed (Some step) is = absurd (let clash : false ≡ true = is in cc)

pub told_live : (crashed live : Bool) (node told : ℕ) → (if crashed then (if live then None else Some (NotLive told)) else Some (NotCrashed node)) ≡ None → live ≡ true
told_live true live node told legal = live_then live told legal
told_live false live node told legal = absurd (let clash : ◌≡◌ {A = Option LineCause} (Some (NotCrashed node)) None = legal in cc)

join_live : (spare live : Bool) (node : ℕ) (told : Option LineCause) → (if spare then (if live then told else Some (NotLive node)) else Some (NotSpare node)) ≡ None → live ≡ true
join_live true true node told legal = refl
join_live true false node told legal = absurd (let clash : ◌≡◌ {A = Option LineCause} (Some (NotLive node)) None = legal in cc)
join_live false live node told legal = absurd (let clash : ◌≡◌ {A = Option LineCause} (Some (NotSpare node)) None = legal in cc)

module _ {M : Type 0} where
  pub live_at : (w : WorldState M) (node : ℕ) (s : Standing M) → slice_get w.nodes node ≡ Some s → is_live w node ≡ true → s.crashed ≡ None
  live_at w node s at live =
      none_crashed s.crashed (sym (ap (λ (o : Option (Standing M)). option_map_or (λ (t : Standing M). is_none t.crashed) o false) at) ∙ live)

  lost_at : (w : WorldState M) (node : ℕ) (s : Standing M) → slice_get w.nodes node ≡ Some s → is_live w node ≡ false → s.crashed ≡ None → ⊥
  lost_at w node s at lost none =
      let live : is_live w node ≡ true = ap (λ (o : Option (Standing M)). option_map_or (λ (t : Standing M). is_none t.crashed) o false) at ∙ ap is_none none in
      let clash : false ≡ true = sym lost ∙ live in cc

module _ {M : Type 0} (declared : M → Signature) (turn : M → List ValueTree → ℕ → List ValueTree → List Outcome → NextTurn) where
  -- something has come to a node of a world
  record HasCome (v next : WorldState M) (other : ℕ) (event : Event) (u : Standing M) : Type 0 where
    ended : NodeState M × Outputs
    ends : node_step.step_node declared turn (v.steps + 1) event u.node ≡ Ok ended
    nodes_are : next.nodes ≡ set v.nodes other (record u { node = ended.0 })
    sent_are : next.sent ≡ v.sent ++ map (sent_by (v.steps + 1) other) ended.1.gives
    steps_are : next.steps ≡ v.steps + 1

  has_come : (v next : WorldState M) (other : ℕ) (event : Event) (u : Standing M) → slice_get v.nodes other ≡ Some u → comes_to declared turn other event v ≡ Ok next
      → HasCome v next other event u
  has_come v next other event u at is = by_end (node_step.step_node declared turn (v.steps + 1) event u.node) refl
    where
      by_end : (e : node_step.Ended M) → node_step.step_node declared turn (v.steps + 1) event u.node ≡ e → HasCome v next other event u
      by_end (Ok ended) ends =
          let same = same_world _ next (sym (comes_is declared turn v other event u at ∙ ap (conclude_step other u v) ends) ∙ is) in
          record {
            ended = ended;
            ends = ends;
            nodes_are = ap (λ (x : WorldState M). x.nodes) (sym same);
            sent_are = ap (λ (x : WorldState M). x.sent) (sym same);
            steps_are = ap (λ (x : WorldState M). x.steps) (sym same);
          }
      by_end (Err peer) ends = absurd (let clash : ◌≡◌ {A = Stepped M} (Err (other, peer)) (Ok next) = sym (comes_is declared turn v other event u at ∙ ap (conclude_step other u v) ends) ∙ is in cc)

  module _ (d : Deployment) (node : ℕ) where
    -- nothing comes to the node by the line
    pub record IsStill (line : Line) (w next : WorldState M) (s : Standing M) : Type 0 where
      pub after : Standing M
      pub there : slice_get next.nodes node ≡ Some after
      pub node_is : after.node ≡ s.node
      pub steps_is : next.steps ≡ w.steps + 1
      pub none : by_line declared turn node (comes_then declared turn node) line w ≡ []
      pub sent_is : sent_from node next.sent ≡ sent_from node w.sent
      pub lives : s.crashed ≡ None → is_crash_of node line ≡ false → (after.crashed ≡ None) × (event_for node w.sent line ≡ None)
      pub stays : is_some s.crashed ≡ true → after.crashed ≡ s.crashed
      pub crashes : is_crash_of node line ≡ true → after.crashed ≡ Some (w.steps + 1)
      pub joins : after.joins ≡ (is_join_of node line || s.joins)

    -- this comes to it, and the node, which hasn't crashed, makes a step
    pub record HasMoved (line : Line) (w next : WorldState M) (s : Standing M) : Type 0 where
      pub event : Event
      pub ended : NodeState M × Outputs
      pub ends : node_step.step_node declared turn (w.steps + 1) event s.node ≡ Ok ended
      pub after : Standing M
      pub there : slice_get next.nodes node ≡ Some after
      pub node_is : after.node ≡ ended.0
      pub steps_is : next.steps ≡ w.steps + 1
      pub one : by_line declared turn node (comes_then declared turn node) line w ≡ (w.steps + 1, event) ∷ []
      pub sent_is : sent_from node next.sent ≡ sent_from node w.sent ++ map (sent_by (w.steps + 1) node) ended.1.gives
      pub live : s.crashed ≡ None
      pub lives : after.crashed ≡ None
      pub joins : after.joins ≡ (is_join_of node line || s.joins)
      pub no_crash : is_crash_of node line ≡ false
      pub event_is : event_for node w.sent line ≡ Some event
      pub octets : IsOfBytes event
      pub far : IsOfOther d node event

    abbrev pub Walks : Line → WorldState M → WorldState M → Standing M → Type 0
    Walks line w next s = IsStill line w next s ⊎ HasMoved line w next s

    -- ---- what comes

    abbrev of_came : WorldState M → ℕ × Event → Events
    of_came w came = if came.0 == node then option_map_or (λ (t : Standing M). (w.steps + 1, came.1) ∷ []) (slice_get w.nodes node) [] else []

    nothing_by : (line : Line) (w : WorldState M) → comes_by line w ≡ None → by_line declared turn node (comes_then declared turn node) line w ≡ []
    nothing_by line w none = ap (λ o. option_map_or (of_came w) o []) none

    here_by : (line : Line) (w : WorldState M) (other : ℕ) (event : Event) (s : Standing M) → comes_by line w ≡ Some (other, event) → slice_get w.nodes node ≡ Some s → other ≡ node
        → by_line declared turn node (comes_then declared turn node) line w ≡ (w.steps + 1, event) ∷ []
    here_by line w other event s comes_it at same =
        ap (λ o. option_map_or (of_came w) o []) comes_it
        ∙ ap (λ b. if b then option_map_or (λ (t : Standing M). (w.steps + 1, event) ∷ []) (slice_get w.nodes node) [] else []) (eq-eqb other node same)
        ∙ ap (λ (o : Option (Standing M)). option_map_or (λ (t : Standing M). (w.steps + 1, event) ∷ []) o []) at

    elsewhere_by : (line : Line) (w : WorldState M) (other : ℕ) (event : Event) → comes_by line w ≡ Some (other, event) → other ≢ node
        → by_line declared turn node (comes_then declared turn node) line w ≡ []
    elsewhere_by line w other event comes_it differ =
        ap (λ o. option_map_or (of_came w) o []) comes_it
        ∙ ap (λ b. if b then option_map_or (λ (t : Standing M). (w.steps + 1, event) ∷ []) (slice_get w.nodes node) [] else []) (ne_eqb other node differ)

    -- something comes to a node of the world, of which something may have been noted first
    module _ (line : Line) (w v next : WorldState M) (other : ℕ) (event : Event) (s t u : Standing M) (sent_same : v.sent ≡ w.sent) (steps_same : v.steps ≡ w.steps)
        (at_other : slice_get v.nodes other ≡ Some u) (at : slice_get w.nodes node ≡ Some s) (at_then : slice_get v.nodes node ≡ Some t)
        (node_same : t.node ≡ s.node) (crashed_same : t.crashed ≡ s.crashed) (joins_same : t.joins ≡ (is_join_of node line || s.joins)) (comes_it : comes_by line w ≡ Some (other, event)) (no_crash : is_crash_of node line ≡ false)
        (live : is_live w other ≡ true) (event_here : other ≡ node → event_for node w.sent line ≡ Some event) (event_elsewhere : other ≢ node → event_for node w.sent line ≡ None)
        (octets : IsOfBytes event) (far : IsOfOther d other event) (is : comes_to declared turn other event v ≡ Ok next) where
      h : HasCome v next other event u
      h = has_come v next other event u at_other is

      steps_then : next.steps ≡ w.steps + 1
      steps_then = h.steps_are ∙ ap (λ k. k + 1) steps_same

      sent_then : sent_from node next.sent ≡ sent_from node w.sent ++ sent_from node (map (sent_by (w.steps + 1) other) h.ended.1.gives)
      sent_then =
          ap (λ (l : List Sent). sent_from node l) h.sent_are
          ∙ filter-append (is_from node) v.sent (map (sent_by (v.steps + 1) other) h.ended.1.gives)
          ∙ ap (λ (l : List Sent). sent_from node l ++ sent_from node (map (sent_by (v.steps + 1) other) h.ended.1.gives)) sent_same
          ∙ ap (λ k. sent_from node w.sent ++ sent_from node (map (sent_by (k + 1) other) h.ended.1.gives)) steps_same

      elsewhere : other ≢ node → IsStill line w next s
      elsewhere differ = record {
        after = t;
        there = ap (λ (l : List (Standing M)). slice_get l node) h.nodes_are ∙ get_left v.nodes other node (record u { node = h.ended.0 }) t (λ same. differ (sym same)) at_then;
        node_is = node_same;
        steps_is = steps_then;
        none = elsewhere_by line w other event comes_it differ;
        sent_is = sent_then ∙ ap (λ l. sent_from node w.sent ++ l) (none_from (w.steps + 1) other node h.ended.1.gives differ) ∙ append-nil (sent_from node w.sent);
        lives = λ alive none. (crashed_same ∙ alive, event_elsewhere differ);
        stays = λ gone. crashed_same;
        crashes = λ crash. absurd (let clash : false ≡ true = sym no_crash ∙ crash in cc);
        joins = joins_same;
      }

      here : other ≡ node → HasMoved line w next s
      here same =
          let u_is : u ≡ t = same_Some _ _ (sym at_other ∙ ap (slice_get v.nodes) same ∙ at_then) in
          let alive : s.crashed ≡ None = live_at w node s at (ap (λ k. is_live w k) (sym same) ∙ live) in
          record {
            event = event;
            ended = h.ended;
            ends = ap (λ (n : NodeState M). node_step.step_node declared turn (w.steps + 1) event n) (sym (ap (λ (x : Standing M). x.node) u_is ∙ node_same))
                ∙ ap (λ k. node_step.step_node declared turn (k + 1) event u.node) (sym steps_same) ∙ h.ends;
            after = record u { node = h.ended.0 };
            there = ap (λ (l : List (Standing M)). slice_get l node) h.nodes_are ∙ ap (slice_get (set v.nodes other (record u { node = h.ended.0 }))) (sym same)
                ∙ get_same v.nodes other (record u { node = h.ended.0 }) u at_other;
            node_is = refl;
            steps_is = steps_then;
            one = here_by line w other event s comes_it at same;
            sent_is = sent_then ∙ ap (λ l. sent_from node w.sent ++ l) (ap (λ k. sent_from node (map (sent_by (w.steps + 1) k) h.ended.1.gives)) same ∙ all_from (w.steps + 1) node h.ended.1.gives);
            live = alive;
            lives = ap (λ (x : Standing M). x.crashed) u_is ∙ crashed_same ∙ alive;
            joins = ap (λ (x : Standing M). x.joins) u_is ∙ joins_same;
            no_crash = no_crash;
            event_is = event_here same;
            octets = octets;
            far = subst (λ k. IsOfOther d k event) same far;
          }

      walks : Walks line w next s
      walks = elim (eqb_tells other node) [ inl same ↦ inr (here same.1) | inr differ ↦ inl (elsewhere differ.1) ]

    -- nothing comes to any node, and something is noted of one
    unmoved : (line : Line) (w next : WorldState M) (s t : Standing M) → slice_get next.nodes node ≡ Some t → t.node ≡ s.node → next.steps ≡ w.steps + 1 → next.sent ≡ w.sent
        → comes_by line w ≡ None → (s.crashed ≡ None → is_crash_of node line ≡ false → (t.crashed ≡ None) × (event_for node w.sent line ≡ None))
        → (is_some s.crashed ≡ true → t.crashed ≡ s.crashed) → (is_crash_of node line ≡ true → t.crashed ≡ Some (w.steps + 1)) → t.joins ≡ (is_join_of node line || s.joins) → IsStill line w next s
    unmoved line w next s t there node_is steps_is sent_is none lives stays crashes joins = record {
      after = t;
      there = there;
      node_is = node_is;
      steps_is = steps_is;
      none = nothing_by line w none;
      sent_is = ap (λ (l : List Sent). sent_from node l) sent_is;
      lives = lives;
      stays = stays;
      crashes = crashes;
      joins = joins;
    }

    -- ---- a line

    module _ (acts : ℕ → WireActs Purpose) (w next : WorldState M) (stands : Stands d acts w) (all_octets : All (λ (x : Sent). AreOctets x.bytes) w.sent)
        (s : Standing M) (at : slice_get w.nodes node ≡ Some s) where
      in_deployment : (x : ℕ) → x < length w.nodes → x < length d.nodes
      in_deployment x below = subst (λ k. x < k) stands.all below

      if_here : (other : ℕ) (e : Event) → other ≡ node → (if other == node then Some e else None) ≡ Some e
      if_here other e same = ap (λ b. if b then Some e else None) (eq-eqb other node same)

      if_elsewhere : (other : ℕ) (e : Event) → other ≢ node → (if other == node then Some e else None) ≡ None
      if_elsewhere other e differ = ap (λ b. if b then Some e else None) (ne_eqb other node differ)

      delivered : (place : ℕ) (sent : Sent) (live : Bool) → slice_get w.sent place ≡ Some sent → is_live w sent.to ≡ live → step_line declared turn (Deliver place) w ≡ Ok next
          → Walks (Deliver place) w next s
      delivered place sent true there live is =
          let u = live_there (slice_get w.nodes sent.to) live in
          let may = datagram_may_come w place sent stands.sound there in
          let e : Event = comes.Datagram sent.from sent.bytes in
          walks (Deliver place) w w next sent.to e s s u.0 refl refl u.1 at at refl refl refl
          (ap (option_and_then (delivery w)) there ∙ ap (λ b. if b then Some (sent.to, e) else None) live) refl live
          (λ same. ap (option_and_then (event_of_sent node)) there ∙ if_here sent.to e same)
          (λ differ. ap (option_and_then (event_of_sent node)) there ∙ if_elsewhere sent.to e differ)
          (all_at (λ (x : Sent). AreOctets x.bytes) w.sent place sent all_octets there) (may.1, in_deployment sent.from may.0)
          (sym (delivered_at declared turn w place sent true there live) ∙ is)
      delivered place sent false there lost is =
          let e : Event = comes.Datagram sent.from sent.bytes in
          let same = same_world (pass_step w) next (sym (delivered_at declared turn w place sent false there lost) ∙ is) in
          inl (unmoved (Deliver place) w next s s (ap (λ (x : WorldState M). slice_get x.nodes node) (sym same) ∙ at) refl (ap (λ (x : WorldState M). x.steps) (sym same)) (ap (λ (x : WorldState M). x.sent) (sym same))
          (ap (option_and_then (delivery w)) there ∙ ap (λ b. if b then Some (sent.to, e) else None) lost)
          (λ alive none. (alive, ap (option_and_then (event_of_sent node)) there ∙ if_elsewhere sent.to e (λ to_it. lost_at w node s at (ap (λ k. is_live w k) (sym to_it) ∙ lost) alive)))
          (λ gone. refl) (λ crash. absurd (let clash : false ≡ true = crash in cc)) refl)

      crashed_here : (other : ℕ) → step_line declared turn (Crash other) w ≡ Ok next → other ≡ node → is_live w other ≡ true → IsStill (Crash other) w next s
      crashed_here other is same live =
          let alive : s.crashed ≡ None = live_at w node s at (ap (λ k. is_live w k) (sym same) ∙ live) in
          let note : Standing M → Standing M = λ x. record x { crashed = Some (w.steps + 1) } in
          let world_is = same_world (pass_step (note_at note other w)) next is in
          unmoved (Crash other) w next s (note s)
          (ap (λ (x : WorldState M). slice_get x.nodes node) (sym world_is) ∙ ap (λ k. slice_get (note_at note k w).nodes node) same ∙ noted_at note node w s at)
          refl (ap (λ (x : WorldState M). x.steps) (sym world_is)) (ap (λ (x : WorldState M). x.sent) (sym world_is)) refl
          (λ alive none. absurd (let clash : false ≡ true = sym none ∙ eq-eqb other node same in cc))
          (λ gone. absurd (let clash : false ≡ true = sym (ap is_some alive) ∙ gone in cc)) (λ crash. refl) refl

      crashed_elsewhere : (other : ℕ) → step_line declared turn (Crash other) w ≡ Ok next → other ≢ node → other < length w.nodes → IsStill (Crash other) w next s
      crashed_elsewhere other is differ below =
          let note : Standing M → Standing M = λ x. record x { crashed = Some (w.steps + 1) } in
          let world_is = same_world (pass_step (note_at note other w)) next is in
          let u = get_there w.nodes other below in
          unmoved (Crash other) w next s s
          (ap (λ (x : WorldState M). slice_get x.nodes node) (sym world_is)
          ∙ ap (λ (o : Option (Standing M)). slice_get (option_map_or (λ x. set w.nodes other (note x)) o w.nodes) node) u.1
          ∙ get_left w.nodes other node (note u.0) s (λ same. differ (sym same)) at)
          refl (ap (λ (x : WorldState M). x.steps) (sym world_is)) (ap (λ (x : WorldState M). x.sent) (sym world_is)) refl
          (λ alive none. (alive, refl)) (λ gone. refl) (λ crash. absurd (let clash : false ≡ true = sym (ne_eqb other node differ) ∙ crash in cc)) refl

      -- where the node stands once another one or it was told to join
      record IsTold (other : ℕ) : Type 0 where
        t : Standing M
        there : slice_get (told_to_join other w).nodes node ≡ Some t
        node_is : t.node ≡ s.node
        crashed_is : t.crashed ≡ s.crashed
        joins_is : t.joins ≡ ((other == node) || s.joins)

      is_told : (other : ℕ) (u : Standing M) → slice_get w.nodes other ≡ Some u → IsTold other
      is_told other u at_other = elim (eqb_tells other node) [
        | inl same ↦ record {
          t = note s;
          there = ap (λ k. slice_get (note_at note k w).nodes node) same.1 ∙ noted_at note node w s at;
          node_is = refl;
          crashed_is = refl;
          joins_is = sym (ap (λ b. b || s.joins) (eq-eqb other node same.1));
        }
        | inr differ ↦ record {
          t = s;
          there = ap (λ (o : Option (Standing M)). slice_get (option_map_or (λ x. set w.nodes other (note x)) o w.nodes) node) at_other
              ∙ get_left w.nodes other node (note u) s (λ same. differ.1 (sym same)) at;
          node_is = refl;
          crashed_is = refl;
          joins_is = sym (ap (λ b. b || s.joins) (ne_eqb other node differ.1));
        }
      ]
        where
          note : Standing M → Standing M
          note x = record x { joins = true }

      pub line_walks : (line : Line) → Leads declared turn line w next → Walks line w next s
      line_walks (Deliver place) leads =
          let found = get_there w.sent place (ltb-true place (length w.sent) (below_sent (nat_lt place (length w.sent)) place (length w.sent) leads.legal)) in
          delivered place found.0 (is_live w found.0.to) found.1 refl leads.stepped_is
      line_walks (Tick other) leads =
          let u = get_there w.nodes other leads.named in
          walks (Tick other) w w next other comes.Tick s s u.0 refl refl u.1 at at refl refl refl refl refl (live_then (is_live w other) other leads.legal)
          (if_here other comes.Tick) (if_elsewhere other comes.Tick) tt tt leads.stepped_is
      line_walks (Crash other) leads = elim (eqb_tells other node) [
        | inl same ↦ inl (crashed_here other leads.stepped_is same.1 (live_then (is_live w other) other leads.legal))
        | inr differ ↦ inl (crashed_elsewhere other leads.stepped_is differ.1 leads.named)
      ]
      line_walks (Down other told) leads =
          let u = get_there w.nodes told leads.named.1 in
          walks (Down other told) w w next told (comes.Down other) s s u.0 refl refl u.1 at at refl refl refl refl refl (told_live (has_crashed w other) (is_live w told) other told leads.legal)
          (if_here told (comes.Down other)) (if_elsewhere told (comes.Down other)) tt (down_differs w other told leads.legal, in_deployment other leads.named.0) leads.stepped_is
      line_walks (Join other) leads =
          let u = get_there w.nodes other leads.named in
          let note : Standing M → Standing M = λ x. record x { joins = true } in
          let told = is_told other u.0 u.1 in
          walks (Join other) w (told_to_join other w) next other comes.Join s told.t (note u.0) refl refl (noted_at note other w u.0 u.1) at told.there told.node_is told.crashed_is told.joins_is refl refl
          (join_live (is_spare w.deployment other) (is_live w other) other (unless_told w other) leads.legal)
          (if_here other comes.Join) (if_elsewhere other comes.Join) tt tt leads.stepped_is
