-- Worlds that deliveries lead to from boot: what holds there, where each delivery keeps it.
use Rattle.std.proofs.Common.{◌≡◌, ◌≢◌, ◌⊎◌, ℕ, zero, suc, ◌+◌, ◌<◌, ◌≤◌, inl, inr, Bool, true, false, List, [], ◌∷◌, ◌++◌, length, map, set, All, Option, None, Some, Ok, Err, refl, sym, ap, subst, ◌∙◌, arith, ltb-true, eq-eqb, zero-add, add-zero}
use Rattle.std.specs.Prelude.{slice_get, is_none, nat_lt, option_map, option_and_then, if◌then◌else◌}
use Rattle.std.specs.Option.{option_map_or}
use Rattle.std.proofs.lemmas.Bool.{ne_eqb}
use Rattle.std.proofs.lemmas.List.{length-append, length-map}
use Rattle.std.proofs.lemmas.List.Elements.{All-head, All-tail}
use Rattle.std.proofs.lemmas.Option.{none-some, same_Some, slice_get-map}
use Rattle.circus_value.specs.ValueTree.{ValueTree}
use Rattle.circus_value.specs.declared.outcome.Outcome.{Outcome}
use Rattle.circus_collate.specs.Deployment.{IsDeployment}
use Rattle.circus_collate.specs.declared.deployment.Deployment.{Deployment}
use Rattle.circus_model.specs.NextTurn.{NextTurn}
use Rattle.circus_model.specs.declared.signature.Signature.{Signature}
use Rattle.circus_wire.specs.WireActs.{WireActs, begun}
use Rattle.circus_member_rules.specs.declared.occurrence.Purpose.{Purpose}
use Rattle.circus_node.specs.declared.event.Event.{Event}
use Rattle.circus_node.specs.declared.event.Event.TheVariants as comes
use Rattle.circus_node.specs.declared.event.Give.{Give}
use Rattle.circus_node.specs.declared.event.Outputs.{Outputs}
use Rattle.circus_node.specs.Sending.{give_to}
use Rattle.circus_node.specs.NodeState.{NodeState}
use Rattle.circus_node.specs.Booting.{AreOfTroupes, boot_node}
use Rattle.circus_node.specs.Step as node_step
use Rattle.circus_schedule.specs.declared.line.Line.{Line}
use Rattle.circus_schedule.specs.declared.line.Line.TheVariants.{Deliver, Tick, Crash, Down, Join}
use Rattle.circus_world.specs.Sent.{Sent}
use Rattle.circus_world.specs.declared.cause.LineCause.{LineCause}
use Rattle.circus_world.specs.declared.cause.LineCause.TheVariants.{NoDatagram}
use Rattle.circus_world.specs.WorldState.{WorldState, Standing, is_live}
use Rattle.circus_world.specs.Course as course
use Rattle.circus_world.specs.Course.{Stepped, conclude_step, step_line}
use Rattle.circus_world.specs.Boot.{before_any, joined_by, then_others, all_booted, AreHosted}
use Rattle.circus_world.specs.Lines.{Leads, Lead}
use Rattle.circus_world.proofs.ComeLemmas.{datagram_may_come, goes_there, delivered_at}
use Rattle.circus_world.proofs.SlotLemmas.{get_set, get_push, get_there}
use Rattle.circus_world_theory.specs.Histories.{delivery, comes_by, with_step, with_line, with_lines, with_others}
use Rattle.circus_world_theory.specs.NodeActs.{with_all, acts_in, acts_at_boot}
use Rattle.circus_world_theory.proofs.Boots.{world_stands}
use Rattle.circus_world_theory.proofs.Lines.{lead_stands}
use Rattle.circus_world_theory.proofs.Worlds.{Stands}
use Rattle.circus_world_theory.specs.Enough.{total}
use Rattle.circus_world_theory.proofs.Quiescence.Amounts.{is_data}
use Rattle.circus_world_theory.proofs.Quiescence.Answering.{data_in, boot_but}
use Rattle.circus_world_theory.proofs.Quiescence.Sums.{one, weigh, weigh-append}
use Rattle.circus_world_theory.specs.Quiet.{IsDelivery}
use Rattle.circus_world_theory.proofs.Quiescence.Giving.{IsGive}

module _ {M : Type 0} where
  -- no node has crashed
  abbrev pub AllLive : WorldState M → Type 0
  AllLive w = (node : ℕ) (s : Standing M) → slice_get w.nodes node ≡ Some s → s.crashed ≡ None

  -- a node after a step of its own
  abbrev pub after_step : WorldState M → ℕ → Standing M → NodeState M × Outputs → WorldState M
  after_step w node s ended = record w {
    nodes = set w.nodes node (record s { node = ended.0 });
    sent = w.sent ++ map (course.sent_by (w.steps + 1) node) ended.1.gives;
    steps = w.steps + 1;
  }

  same_world : (a b : WorldState M) → ◌≡◌ {A = Stepped M} (Ok a) (Ok b) → a ≡ b
  same_world a b is = cc

  no_world : (peer : ℕ × ℕ) (b : WorldState M) → ◌≡◌ {A = Stepped M} (Err peer) (Ok b) → ⊥
  no_world peer b is = cc

below_sent : (below : Bool) (number most : ℕ) → (if below then None else Some (NoDatagram number most)) ≡ None → below ≡ true
below_sent true number most legal = refl
below_sent false number most legal = absurd (let clash : ◌≡◌ {A = Option LineCause} (Some (NoDatagram number most)) None = legal in cc)

-- ---- a delivery

module _ {M : Type 0} (declared : M → Signature) (turn : M → List ValueTree → ℕ → List ValueTree → List Outcome → NextTurn) (d : Deployment) where
  -- the datagram of a number comes to its node, which makes a step
  pub record Delivers (number : ℕ) (acts new : ℕ → WireActs Purpose) (w next : WorldState M) : Type 0 where
    pub sent : Sent
    pub there : slice_get w.sent number ≡ Some sent
    pub from_below : sent.from < length d.nodes
    pub to_below : sent.to < length d.nodes
    pub others : sent.from ≢ sent.to
    pub node : Standing M
    pub at : slice_get w.nodes sent.to ≡ Some node
    pub ended : NodeState M × Outputs
    pub ends : node_step.step_node declared turn (w.steps + 1) (comes.Datagram sent.from sent.bytes) node.node ≡ Ok ended
    pub next_is : next ≡ after_step w sent.to node ended
    pub comes_it : comes_by (Deliver number) w ≡ Some (sent.to, comes.Datagram sent.from sent.bytes)
    pub here : new sent.to ≡ with_all (acts sent.to) (acts_in declared turn (w.steps + 1) (comes.Datagram sent.from sent.bytes) node.node)
    pub elsewhere : (other : ℕ) → other ≢ sent.to → new other ≡ acts other

  module _ (acts : ℕ → WireActs Purpose) (w next : WorldState M) (so_far : Stands d acts w) (live : AllLive w) where
    in_deployment : (node : ℕ) → node < length w.nodes → node < length d.nodes
    in_deployment node below = subst (λ k. node < k) so_far.all below

    pub line_delivers : (number : ℕ) → Leads declared turn (Deliver number) w next → Delivers number acts (λ node. with_line declared turn node (acts node) (Deliver number) w) w next
    line_delivers number leads = by_end (node_step.step_node declared turn (w.steps + 1) event s.node) refl
      where
        below : number < length w.sent
        below = ltb-true number (length w.sent) (below_sent (nat_lt number (length w.sent)) number (length w.sent) leads.legal)

        sent : Sent
        sent = (get_there w.sent number below).0

        there : slice_get w.sent number ≡ Some sent
        there = (get_there w.sent number below).1

        may : (sent.from < length w.nodes) × (sent.from ≢ sent.to)
        may = datagram_may_come w number sent so_far.sound there

        to_below : sent.to < length w.nodes
        to_below = goes_there w number sent so_far.sound there

        s : Standing M
        s = (get_there w.nodes sent.to to_below).0

        at : slice_get w.nodes sent.to ≡ Some s
        at = (get_there w.nodes sent.to to_below).1

        event : Event
        event = comes.Datagram sent.from sent.bytes

        is_up : is_live w sent.to ≡ true
        is_up = ap (λ (o : Option (Standing M)). option_map_or (λ (t : Standing M). is_none t.crashed) o false) at ∙ ap (λ (o : Option ℕ). is_none o) (live sent.to s at)

        comes_it : comes_by (Deliver number) w ≡ Some (sent.to, event)
        comes_it = ap (option_and_then (delivery w)) there ∙ ap (λ b. if b then Some (sent.to, event) else None) is_up

        here : with_line declared turn sent.to (acts sent.to) (Deliver number) w ≡ with_all (acts sent.to) (acts_in declared turn (w.steps + 1) event s.node)
        here =
            let all : Standing M → WireActs Purpose = λ t. with_all (acts sent.to) (acts_in declared turn (w.steps + 1) event t.node) in
            ap (λ o. option_map_or (with_step declared turn sent.to (acts sent.to) w) o (acts sent.to)) comes_it
            ∙ ap (λ b. if b then option_map_or all (slice_get w.nodes sent.to) (acts sent.to) else acts sent.to) (eq-eqb sent.to sent.to refl)
            ∙ ap (λ (o : Option (Standing M)). option_map_or all o (acts sent.to)) at

        elsewhere : (other : ℕ) → other ≢ sent.to → with_line declared turn other (acts other) (Deliver number) w ≡ acts other
        elsewhere other differs =
            ap (λ o. option_map_or (with_step declared turn other (acts other) w) o (acts other)) comes_it
            ∙ ap (λ b. if b then option_map_or (λ (t : Standing M). with_all (acts other) (acts_in declared turn (w.steps + 1) event t.node)) (slice_get w.nodes other) (acts other) else acts other)
            (ne_eqb sent.to other (λ same. differs (sym same)))

        comes_is : step_line declared turn (Deliver number) w ≡ conclude_step sent.to s w (node_step.step_node declared turn (w.steps + 1) event s.node)
        comes_is =
            delivered_at declared turn w number sent true there is_up
            ∙ ap (λ (o : Option (Standing M)). option_map_or (λ (t : Standing M). conclude_step sent.to t w (node_step.step_node declared turn (w.steps + 1) event t.node)) o (Ok w)) at

        by_end : (e : node_step.Ended M) → node_step.step_node declared turn (w.steps + 1) event s.node ≡ e → Delivers number acts (λ node. with_line declared turn node (acts node) (Deliver number) w) w next
        by_end (Err peer) ends = absurd (no_world (sent.to, peer) next (sym (comes_is ∙ ap (conclude_step sent.to s w) ends) ∙ leads.stepped_is))
        by_end (Ok ended) ends = record {
          sent = sent;
          there = there;
          from_below = in_deployment sent.from may.0;
          to_below = in_deployment sent.to to_below;
          others = may.1;
          node = s;
          at = at;
          ended = ended;
          ends = ends;
          next_is = same_world next (after_step w sent.to s ended) (sym leads.stepped_is ∙ comes_is ∙ ap (conclude_step sent.to s w) ends);
          comes_it = comes_it;
          here = here;
          elsewhere = elsewhere;
        }

  -- ---- deliveries

  pub still_live : (number : ℕ) (acts new : ℕ → WireActs Purpose) (w next : WorldState M) → Delivers number acts new w next → AllLive w → AllLive next
  still_live number acts new w next delivers live node s at =
      elim (get_set w.nodes delivers.sent.to node (record delivers.node { node = delivers.ended.0 }) s (ap (λ (v : WorldState M). slice_get v.nodes node) (sym delivers.next_is) ∙ at)) [
        | inl same ↦ ap (λ (t : Standing M). t.crashed) same.1 ∙ live delivers.sent.to delivers.node delivers.at
        | inr there ↦ live node s there
      ]

  pub line_stands : (number : ℕ) (acts : ℕ → WireActs Purpose) (w next : WorldState M) → Stands d acts w → Leads declared turn (Deliver number) w next → Stands d (λ node. with_line declared turn node (acts node) (Deliver number) w) next
  line_stands number acts w next so_far leads =
      subst (λ (f : ℕ → WireActs Purpose). Stands d f next)
      (λ i node. with_others (with_lines declared turn node (with_line declared turn node (acts node) (Deliver number) w) []) (acts node) (leads.stepped_is i))
      (lead_stands declared turn d acts (Deliver number ∷ []) w next so_far (next, leads, refl))

  -- what each delivery keeps
  abbrev pub IsKept : ((ℕ → WireActs Purpose) → WorldState M → Type 0) → Type 0
  IsKept I = (number : ℕ) (acts new : ℕ → WireActs Purpose) (w next : WorldState M) → Stands d acts w → Stands d new next → Delivers number acts new w next → I acts w → I new next

  module _ (I : (ℕ → WireActs Purpose) → WorldState M → Type 0) (kept : IsKept I) where
    pub lead_keeps : (lines : List Line) (acts : ℕ → WireActs Purpose) (w last : WorldState M) → All IsDelivery lines → Stands d acts w → AllLive w → I acts w → Lead declared turn lines w last
        → I (λ node. with_lines declared turn node (acts node) lines w) last
    lead_keeps [] acts w last are so_far live holds lead = subst (λ (v : WorldState M). I acts v) (sym lead) holds
    lead_keeps (Deliver number ∷ lines) acts w last are so_far live holds lead =
        let next : WorldState M = lead.0 in
        let new : ℕ → WireActs Purpose = λ node. with_line declared turn node (acts node) (Deliver number) w in
        let delivers = line_delivers acts w next so_far live number lead.1 in
        let stands = line_stands number acts w next so_far lead.1 in
        subst (λ (f : ℕ → WireActs Purpose). I f last)
        (λ i node. with_others (with_lines declared turn node (new node) lines) (acts node) (sym lead.1.stepped_is i))
        (lead_keeps lines new next last (All-tail IsDelivery (Deliver number) lines are) stands (still_live number acts new w next delivers live) (kept number acts new w next so_far stands delivers holds) lead.2)
    lead_keeps (Tick node ∷ lines) acts w last are so_far live holds lead = absurd (All-head IsDelivery (Tick node) lines are)
    lead_keeps (Crash node ∷ lines) acts w last are so_far live holds lead = absurd (All-head IsDelivery (Crash node) lines are)
    lead_keeps (Down node told ∷ lines) acts w last are so_far live holds lead = absurd (All-head IsDelivery (Down node told) lines are)
    lead_keeps (Join node ∷ lines) acts w last are so_far live holds lead = absurd (All-head IsDelivery (Join node) lines are)

    -- what the delivery of a number makes true
    module _ (number : ℕ) (makes : (acts new : ℕ → WireActs Purpose) (w next : WorldState M) → Stands d acts w → Stands d new next → Delivers number acts new w next → I new next) where
      pub lead_makes : (lines : List Line) (place : ℕ) (acts : ℕ → WireActs Purpose) (w last : WorldState M) → slice_get lines place ≡ Some (Deliver number) → All IsDelivery lines → Stands d acts w → AllLive w
          → Lead declared turn lines w last → I (λ node. with_lines declared turn node (acts node) lines w) last
      lead_makes [] place acts w last at are so_far live lead = absurd (let clash : ◌≡◌ {A = Option Line} None (Some (Deliver number)) = at in cc)
      lead_makes (Deliver other ∷ lines) zero acts w last at are so_far live lead =
          let same : other ≡ number = same_number other (same_Some (Deliver other) (Deliver number) at) in
          let next : WorldState M = lead.0 in
          let new : ℕ → WireActs Purpose = λ node. with_line declared turn node (acts node) (Deliver other) w in
          let delivers = line_delivers acts w next so_far live other lead.1 in
          let stands = line_stands other acts w next so_far lead.1 in
          subst (λ (f : ℕ → WireActs Purpose). I f last)
          (λ i node. with_others (with_lines declared turn node (new node) lines) (acts node) (sym lead.1.stepped_is i))
          (lead_keeps lines new next last (All-tail IsDelivery (Deliver other) lines are) stands (still_live other acts new w next delivers live)
          (makes acts new w next so_far stands (subst (λ n. Delivers n acts new w next) same delivers)) lead.2)
        where
          same_number : (n : ℕ) → ◌≡◌ {A = Line} (Deliver n) (Deliver number) → n ≡ number
          same_number n is = cc
      lead_makes (Deliver other ∷ lines) (suc place) acts w last at are so_far live lead =
          let next : WorldState M = lead.0 in
          let new : ℕ → WireActs Purpose = λ node. with_line declared turn node (acts node) (Deliver other) w in
          let delivers = line_delivers acts w next so_far live other lead.1 in
          let stands = line_stands other acts w next so_far lead.1 in
          subst (λ (f : ℕ → WireActs Purpose). I f last)
          (λ i node. with_others (with_lines declared turn node (new node) lines) (acts node) (sym lead.1.stepped_is i))
          (lead_makes lines place new next last at (All-tail IsDelivery (Deliver other) lines are) stands (still_live other acts new w next delivers live) lead.2)
      lead_makes (Tick node ∷ lines) place acts w last at are so_far live lead = absurd (All-head IsDelivery (Tick node) lines are)
      lead_makes (Crash node ∷ lines) place acts w last at are so_far live lead = absurd (All-head IsDelivery (Crash node) lines are)
      lead_makes (Down node told ∷ lines) place acts w last at are so_far live lead = absurd (All-head IsDelivery (Down node told) lines are)
      lead_makes (Join node ∷ lines) place acts w last at are so_far live lead = absurd (All-head IsDelivery (Join node) lines are)

-- ---- what was sent

-- a datagram from one node to another was sent
pub record Posted {M : Type 0} (w : WorldState M) (from to : ℕ) (bytes : List ℕ) : Type 0 where
  pub number : ℕ
  pub sent : Sent
  pub there : slice_get w.sent number ≡ Some sent
  pub from_is : sent.from ≡ from
  pub to_is : sent.to ≡ to
  pub bytes_are : sent.bytes ≡ bytes

pub get_front : {X : Type 0} (xs ys : List X) (i : ℕ) (x : X) → slice_get xs i ≡ Some x → slice_get (xs ++ ys) i ≡ Some x
get_front [] ys i x at = absurd (none-some x at)
get_front (y ∷ xs) ys zero x at = at
get_front (y ∷ xs) ys (suc i) x at = get_front xs ys i x at

pub get_back : {X : Type 0} (xs ys : List X) (i : ℕ) (x : X) → slice_get ys i ≡ Some x → (j : ℕ) × (slice_get (xs ++ ys) j ≡ Some x)
get_back [] ys i x at = (i, at)
get_back (y ∷ xs) ys i x at = (let rest = get_back xs ys i x at in (suc rest.0, rest.1))

-- what a node gives in a step is sent
pub given_posted : {M : Type 0} (w : WorldState M) (before : List Sent) (step from to : ℕ) (gives : List Give) (bytes : List ℕ) → w.sent ≡ before ++ map (course.sent_by step from) gives → IsGive gives to bytes → Posted w from to bytes
given_posted w before step from to gives bytes is give =
    let there = get_back before (map (course.sent_by step from) gives) give.place (course.sent_by step from (give_to to bytes))
    (slice_get-map (course.sent_by step from) gives give.place ∙ ap (option_map (course.sent_by step from)) give.there) in
    record {
      number = there.0;
      sent = course.sent_by step from (give_to to bytes);
      there = ap (λ (l : List Sent). slice_get l there.0) is ∙ there.1;
      from_is = refl;
      to_is = refl;
      bytes_are = refl;
    }

pub posted_later : {M : Type 0} (w next : WorldState M) (more : List Sent) (from to : ℕ) (bytes : List ℕ) → next.sent ≡ w.sent ++ more → Posted w from to bytes → Posted next from to bytes
posted_later w next more from to bytes is posted = record {
  number = posted.number;
  sent = posted.sent;
  there = ap (λ (l : List Sent). slice_get l posted.number) is ∙ get_front w.sent more posted.number posted.sent posted.there;
  from_is = posted.from_is;
  to_is = posted.to_is;
  bytes_are = posted.bytes_are;
}

-- ---- how much was sent

-- how many datagrams with data were sent
abbrev pub sent_data : List Sent → ℕ
sent_data sent = weigh (λ (s : Sent). one (is_data s.bytes)) sent

data_of_gives : (step node : ℕ) (gives : List Give) → sent_data (map (course.sent_by step node) gives) ≡ data_in gives
data_of_gives step node [] = refl
data_of_gives step node (g ∷ gives) = (let rest = data_of_gives step node gives in omega (arith, rest))

-- in a step more by what a node gives in it
pub sent_more : (before : List Sent) (step node : ℕ) (gives : List Give)
    → (sent_data (before ++ map (course.sent_by step node) gives) ≡ sent_data before + data_in gives)
    × (length (before ++ map (course.sent_by step node) gives) ≡ length before + length gives)
sent_more before step node gives =
    let both = weigh-append (λ (s : Sent). one (is_data s.bytes)) before (map (course.sent_by step node) gives) in
    let here = data_of_gives step node gives in
    let long = length-append before (map (course.sent_by step node) gives) in
    let long_here = length-map gives (course.sent_by step node) in
    (omega (arith, both, here), omega (arith, long, long_here))

-- of what a node gives at boot
abbrev pub data_of_end : {M : Type 0} → node_step.Ended M → ℕ
data_of_end (Ok ended) = data_in ended.1.gives
data_of_end (Err peer) = 0

-- ---- at boot

module _ {M : Type 0} (declared : M → Signature) (turn : M → List ValueTree → ℕ → List ValueTree → List Outcome → NextTurn) (first : M → List ValueTree) (d : Deployment) (hosted : List (Option M)) where
  abbrev pub own_of : ℕ → Option M
  own_of node = option_and_then (λ own. own) (slice_get hosted node)

  -- what has happened at the pairs of a node
  abbrev pub at_boot : ℕ → WireActs Purpose
  at_boot node = with_all begun (acts_at_boot declared turn first d (own_of node) node)

  -- a node has booted so, and what it gave was sent
  pub record BootsAt (w : WorldState M) (node : ℕ) (s : Standing M) : Type 0 where
    pub ended : NodeState M × Outputs
    pub ends : boot_node declared turn first d (own_of node) node ≡ Ok ended
    pub is : s ≡ record { node = ended.0; crashed = None; joins = false }
    pub posted : (to : ℕ) (bytes : List ℕ) → IsGive ended.1.gives to bytes → Posted w node to bytes

  record SoFar (w : WorldState M) : Type 0 where
    deployment : w.deployment ≡ d
    boots : (node : ℕ) (s : Standing M) → slice_get w.nodes node ≡ Some s → BootsAt w node s
    counted : sent_data w.sent ≡ total (length w.nodes) (λ node. data_of_end (boot_node declared turn first d (own_of node) node))
    few : length w.sent ≤ sent_data w.sent

  one_more : (w : WorldState M) (own : Option M) (ended : NodeState M × Outputs) → SoFar w → slice_get hosted (length w.nodes) ≡ Some own → boot_node declared turn first w.deployment own (length w.nodes) ≡ Ok ended
      → SoFar (record w {
        nodes = w.nodes ++ record { node = ended.0; crashed = None; joins = false } ∷ [];
        sent = w.sent ++ map (course.sent_by 0 (length w.nodes)) ended.1.gives;
      })
  one_more w own ended so_far at ends = record {
    deployment = so_far.deployment;
    boots = λ node s found. by_place node s (get_push w.nodes node (record { node = ended.0; crashed = None; joins = false }) s found);
    counted =
        let more = (sent_more w.sent 0 (length w.nodes) ended.1.gives).0 in
        let longer : length (w.nodes ++ record { node = ended.0; crashed = None; joins = false } ∷ []) ≡ suc (length w.nodes) = (let long = length-append w.nodes (record { node = ended.0; crashed = None; joins = false } ∷ []) in omega (arith, long)) in
        let here : data_of_end (boot_node declared turn first d (own_of (length w.nodes)) (length w.nodes)) ≡ data_in ended.1.gives = ap data_of_end now.ends in
        let before = so_far.counted in
        let whole = ap (λ n. total n (λ node. data_of_end (boot_node declared turn first d (own_of node) node))) longer in
        omega (arith, more, here, before, whole);
    few =
        let more = sent_more w.sent 0 (length w.nodes) ended.1.gives in
        let here = boot_but declared turn first w.deployment own (length w.nodes) ended ends in
        let before = so_far.few in
        let data_ = more.0 in
        let long = more.1 in
        omega (arith, data_, long, here, before);
  }
    where
      next : WorldState M
      next = record w {
        nodes = w.nodes ++ record { node = ended.0; crashed = None; joins = false } ∷ [];
        sent = w.sent ++ map (course.sent_by 0 (length w.nodes)) ended.1.gives;
      }

      now : BootsAt next (length w.nodes) (record { node = ended.0; crashed = None; joins = false })
      now = record {
        ended = ended;
        ends = ap (λ (o : Option (Option M)). boot_node declared turn first d (option_and_then (λ (x : Option M). x) o) (length w.nodes)) at ∙ ap (λ x. boot_node declared turn first x own (length w.nodes)) (sym so_far.deployment) ∙ ends;
        is = refl;
        posted = λ to bytes give. given_posted next w.sent 0 (length w.nodes) to ended.1.gives bytes refl give;
      }

      by_place : (node : ℕ) (s : Standing M) → ((node ≡ length w.nodes) × (s ≡ record { node = ended.0; crashed = None; joins = false })) ⊎ (slice_get w.nodes node ≡ Some s) → BootsAt next node s
      by_place node s (inl here) = subst (λ k. BootsAt next k s) (sym here.0) (subst (λ (v : Standing M). BootsAt next (length w.nodes) v) (sym here.1) now)
      by_place node s (inr there) =
          let old = so_far.boots node s there in
          record { ended = old.ended; ends = old.ends; is = old.is; posted = λ to bytes give. posted_later w next (map (course.sent_by 0 (length w.nodes)) ended.1.gives) node to bytes refl (old.posted to bytes give) }

  -- where those that are left boot, so do they
  abbrev LeaveSoFar : List (Option M) → Type 0
  LeaveSoFar others = (w last : WorldState M) → SoFar w
      → ((place : ℕ) (own : Option M) → slice_get others place ≡ Some own → slice_get hosted (length w.nodes + place) ≡ Some own)
      → all_booted declared turn first others w ≡ Ok last → SoFar last

  next_so_far : (own : Option M) (others : List (Option M)) → LeaveSoFar others → LeaveSoFar (own ∷ others)
  next_so_far own others leave w last so_far hosts is = by_end (boot_node declared turn first w.deployment own (length w.nodes)) refl is
    where
      by_end : (e : node_step.Ended M) → boot_node declared turn first w.deployment own (length w.nodes) ≡ e → then_others (all_booted declared turn first others) (joined_by w e) ≡ Ok last → SoFar last
      by_end (Err peer) ends is = absurd (no_world (length w.nodes, peer) last is)
      by_end (Ok ended) ends is =
          let s : Standing M = record { node = ended.0; crashed = None; joins = false } in
          let longer : length (w.nodes ++ s ∷ []) ≡ length w.nodes + 1 = length-append w.nodes (s ∷ []) in
          leave _ last
          (one_more w own ended so_far (ap (slice_get hosted) (sym (add-zero (length w.nodes))) ∙ hosts 0 own refl) ends)
          (λ place other found.
          let same : length (w.nodes ++ s ∷ []) + place ≡ length w.nodes + suc place = omega (arith, longer) in
          ap (slice_get hosted) same ∙ hosts (suc place) other found)
          is

  all_so_far : (others : List (Option M)) → LeaveSoFar others
  all_so_far [] = λ w last so_far hosts is. subst (λ (v : WorldState M). SoFar v) (same_world w last is) so_far
  all_so_far (own ∷ others) = next_so_far own others (all_so_far others)

  pub world_boots : (modules : List M) (w : WorldState M) → all_booted declared turn first hosted (before_any d modules) ≡ Ok w → (node : ℕ) (s : Standing M) → slice_get w.nodes node ≡ Some s → BootsAt w node s
  world_boots modules w is =
      (all_so_far hosted (before_any d modules) w (record { deployment = refl; boots = λ node s at. absurd (none-some s at); counted = refl; few = omega arith }) (λ place own found. ap (slice_get hosted) (zero-add place) ∙ found) is).boots

  pub boot_counts : (modules : List M) (w : WorldState M) → all_booted declared turn first hosted (before_any d modules) ≡ Ok w
      → (sent_data w.sent ≡ total (length w.nodes) (λ node. data_of_end (boot_node declared turn first d (own_of node) node))) × (length w.sent ≤ sent_data w.sent)
  boot_counts modules w is =
      let so_far = all_so_far hosted (before_any d modules) w (record { deployment = refl; boots = λ node s at. absurd (none-some s at); counted = refl; few = omega arith }) (λ place own found. ap (slice_get hosted) (zero-add place) ∙ found) is in
      (so_far.counted, so_far.few)

  pub boot_live : (modules : List M) (w : WorldState M) → all_booted declared turn first hosted (before_any d modules) ≡ Ok w → AllLive w
  boot_live modules w is node s at = ap (λ (t : Standing M). t.crashed) (world_boots modules w is node s at).is

  pub boot_stands : (modules : List M) (w : WorldState M) → IsDeployment d → AreOfTroupes d (map declared modules) → AreHosted declared turn first d modules hosted → all_booted declared turn first hosted (before_any d modules) ≡ Ok w → Stands d at_boot w
  boot_stands modules w good are hosts is = world_stands declared turn first d hosted modules [] w w good are hosts is refl
