-- A node that goes on, step by step: what has happened at its pairs was made by its member, and stands as the member knows it.
use Rattle.std.proofs.Common.{◌≡◌, ℕ, ◌<◌, inl, inr, Bool, true, false, cond, if◌then◌else◌, ◌&&◌, ◌||◌, eqb, List, [], ◌∷◌, ◌++◌, Option, None, Some, Result, Ok, Err, refl, sym, ap, subst, ◌∙◌, arith}
use Rattle.std.specs.List.{flat_map}
use Rattle.std.specs.Option.{option_map_or}
use Rattle.circus_value.specs.Among.{is_among}
use Rattle.circus_value.specs.ValueTree.{ValueTree}
use Rattle.circus_value.specs.declared.outcome.Outcome.{Outcome}
use Rattle.circus_segment.specs.Segment.{Piece, reading}
use Rattle.circus_segment.specs.declared.fault.SegmentFault.{SegmentFault}
use Rattle.circus_collate.specs.Deployment.{IsDeployment}
use Rattle.circus_collate.specs.declared.deployment.Deployment.{Deployment}
use Rattle.circus_collate.specs.declared.deployment.Troupe.{Troupe}
use Rattle.circus_collate.specs.declared.view.View.{View}
use Rattle.circus_ring.specs.RingTable.{boot_views}
use Rattle.circus_model.specs.NextTurn.{NextTurn}
use Rattle.circus_model.specs.Behaviour.{IsModule}
use Rattle.circus_model.specs.declared.signature.Signature.{Signature}
use Rattle.circus_performing.specs.Record.{behaviour}
use Rattle.circus_pair.specs.Acts as pairs
use Rattle.circus_pair.specs.Lawful.{is_stopped_after}
use Rattle.circus_pair.specs.TwoEnds.{with_act}
use Rattle.circus_wire.specs.Wire.{WireState, Beginning, heard_from, is_up}
use Rattle.circus_wire.specs.WireActs.{WireActs, begun, followed_by, CallTo, AnswerTo, acts_at, awaits_after}
use Rattle.circus_wire.specs.WireStanding.{WireStands, pair_of}
use Rattle.circus_wire.specs.declared.delivery.Heard.{Heard}
use Rattle.circus_wire.specs.declared.delivery.Heard.TheVariants.{Dropped, Taken, Called, Returned}
use Rattle.circus_member_rules.specs.declared.place.Beginning as beginnings
use Rattle.circus_member_rules.specs.declared.place.Place.{Place}
use Rattle.circus_fanout.specs.Knowing.{Knowing}
use Rattle.circus_member_rules.specs.declared.occurrence.Effect.{Effect}
use Rattle.circus_member_rules.specs.declared.occurrence.Effect.TheVariants as made
use Rattle.circus_member_rules.specs.declared.occurrence.Occurrence.{Occurrence}
use Rattle.circus_member_rules.specs.declared.occurrence.Occurrence.TheVariants as occurs
use Rattle.circus_member_rules.specs.declared.occurrence.Purpose.{Purpose}
use Rattle.circus_member_rules.specs.MemberState.{MemberState}
use Rattle.circus_member_rules.specs.Step as member_step
use Rattle.circus_node.specs.Accepting.{occurrence_of_heard}
use Rattle.circus_node.specs.Booting.{beginning_in, home_in}
use Rattle.circus_node.specs.NodeState.{Acting, member, ringmaster, NodeState}
use Rattle.circus_node.specs.Making.{happens, refuse, hears}
use Rattle.circus_node.specs.Sending.{is_sendable}
use Rattle.circus_node.specs.Step as node_step
use Rattle.circus_node.specs.Step.{CanCome}
use Rattle.circus_node.specs.declared.event.Event.{Event}
use Rattle.circus_node.specs.declared.event.Event.TheVariants as comes
use Rattle.circus_node.specs.declared.event.Outputs.{Outputs}
use Rattle.circus_world_theory.specs.Histories.{beginning_of}
use Rattle.circus_world_theory.specs.NodeActs.{with_all, came_by, acts_of_datagram, handed_by, wire_behind, acts_in}
use Rattle.circus_node.specs.Trace.{effects_in}
use Rattle.circus_world_theory.proofs.Given.{GivesSo, with_both}
use Rattle.circus_world_theory.proofs.Steps.{IsRead, step_gives}
use Rattle.circus_world_theory.specs.Made.{act_of}
use Rattle.circus_world_theory.proofs.Border.Makers.{IsIn, in_both, IsAmong, among_all, no_event, in_effects}
use Rattle.circus_world_theory.proofs.Border.Telling.{IsTakenOf, accepted_is}
use Rattle.circus_world_theory.proofs.Border.Members.{declared_among}
use Rattle.circus_member_theory.specs.Past.{Past, followed, now, nodes_declared_down}
use Rattle.circus_headline_theory.specs.Owed.Living.{made_in, made_by}
use Rattle.circus_member_theory.specs.Living.{after}
use Rattle.circus_world_theory.specs.Happened.{happens_by, with_one}
use Rattle.circus_world_theory.proofs.Timely.Lives as lives
use Rattle.circus_world_theory.proofs.Timely.Lives.{MayHappen, Lives, node_lives_on}
use Rattle.circus_world_theory.proofs.Timely.Callers.{Numbers}
use Rattle.circus_world_theory.proofs.Timely.Nodes.{ends_by, numbers_on}
use Rattle.circus_headline_theory.specs.Datagrams.Lives.{IsOfOther, is_tick}
use Rattle.circus_headline_theory.proofs.Datagrams.AtPairs.{other_by, IsSent, sent_brings}
use Rattle.circus_headline_theory.proofs.Datagrams.Membership.{in_first, in_second, mapped_in}

-- ---- who is down

stopped_handed : (b : Beginning) (y : ℕ) (w : WireState Purpose) (effects : List Effect) (acts : WireActs Purpose)
    → is_stopped_after (acts_at (pair_of b) y (with_all acts (flat_map (handed_by w) effects))) ≡ is_stopped_after (acts_at (pair_of b) y acts)
stopped_handed b y w [] acts = refl
stopped_handed b y w (made.Call to message purpose ∷ effects) acts = by_test (is_up w to && is_sendable w.format message) (λ x. stopped_handed b y w effects x)
  where
    by_node : (t : Bool) → is_stopped_after (with_act (acts_at (pair_of b) y acts) (cond t (Some (pairs.Call message)) None)) ≡ is_stopped_after (acts_at (pair_of b) y acts)
    by_node true = refl
    by_node false = refl

    by_test : (t : Bool) → ((x : WireActs Purpose) → is_stopped_after (acts_at (pair_of b) y (with_all x (flat_map (handed_by w) effects))) ≡ is_stopped_after (acts_at (pair_of b) y x))
        → is_stopped_after (acts_at (pair_of b) y (with_all acts ((if t then CallTo to message purpose ∷ [] else []) ++ flat_map (handed_by w) effects))) ≡ is_stopped_after (acts_at (pair_of b) y acts)
    by_test true rest = rest (followed_by acts (CallTo to message purpose)) ∙ by_node (eqb to y)
    by_test false rest = rest acts
stopped_handed b y w (made.Answer caller message ∷ effects) acts = by_test (is_sendable w.format message) (λ x. stopped_handed b y w effects x)
  where
    by_node : (t : Bool) → is_stopped_after (with_act (acts_at (pair_of b) y acts) (cond t (Some (pairs.Return caller.number message)) None)) ≡ is_stopped_after (acts_at (pair_of b) y acts)
    by_node true = refl
    by_node false = refl

    by_test : (t : Bool) → ((x : WireActs Purpose) → is_stopped_after (acts_at (pair_of b) y (with_all x (flat_map (handed_by w) effects))) ≡ is_stopped_after (acts_at (pair_of b) y x))
        → is_stopped_after (acts_at (pair_of b) y (with_all acts ((if t then AnswerTo caller message ∷ [] else []) ++ flat_map (handed_by w) effects))) ≡ is_stopped_after (acts_at (pair_of b) y acts)
    by_test true rest = rest (followed_by acts (AnswerTo caller message)) ∙ by_node (eqb caller.node y && awaits_after (pair_of b) (acts_at (pair_of b) y acts) caller.number)
    by_test false rest = rest acts

-- whether an event declares a node down
abbrev pub declares : Event → ℕ → Bool
declares (comes.Down other) y = eqb other y
declares (comes.Datagram from bytes) y = false
declares comes.Tick y = false
declares comes.Join y = false

stopped_came : (b : Beginning) (y : ℕ) (event : Event) (acts : WireActs Purpose)
    → is_stopped_after (acts_at (pair_of b) y (with_all acts (came_by event))) ≡ (declares event y || is_stopped_after (acts_at (pair_of b) y acts))
stopped_came b y (comes.Datagram from bytes) acts = by_segment (reading bytes)
  where
    by_node : (s : Piece) (t : Bool) → is_stopped_after (with_act (acts_at (pair_of b) y acts) (cond t (Some (pairs.Came s)) None)) ≡ is_stopped_after (acts_at (pair_of b) y acts)
    by_node s true = refl
    by_node s false = refl

    by_segment : (r : Result Piece SegmentFault) → is_stopped_after (acts_at (pair_of b) y (with_all acts (acts_of_datagram from r))) ≡ is_stopped_after (acts_at (pair_of b) y acts)
    by_segment (Ok s) = by_node s (eqb from y)
    by_segment (Err fault) = refl
stopped_came b y comes.Tick acts = by_test (is_stopped_after (acts_at (pair_of b) y acts))
  where
    by_test : (t : Bool) → is_stopped_after (with_act (acts_at (pair_of b) y acts) (cond t None (Some pairs.Tick))) ≡ is_stopped_after (acts_at (pair_of b) y acts)
    by_test true = refl
    by_test false = refl
stopped_came b y (comes.Down other) acts = by_test (eqb other y)
  where
    by_test : (t : Bool) → is_stopped_after (with_act (acts_at (pair_of b) y acts) (cond t (Some pairs.Stop) None)) ≡ (t || is_stopped_after (acts_at (pair_of b) y acts))
    by_test true = refl
    by_test false = refl
stopped_came b y comes.Join acts = refl

-- what is accepted of a message declares nobody down
not_declared : (d : Deployment) (h : Heard Purpose) (o : Occurrence) → IsTakenOf d h o → (p : Past) (step : ℕ) → nodes_declared_down (followed p step o) ≡ nodes_declared_down p
not_declared d h (occurs.Declared other) taken p step =
    absurd (let clash : ◌≡◌ {A = List ℕ} (other ∷ []) [] = taken.knows (record { views = []; down = []; wants = [] }) in cc)
not_declared d h (occurs.Asked header body sender) taken p step = refl
not_declared d h (occurs.Fetched incarnation sender) taken p step = refl
not_declared d h (occurs.Replied name from reply) taken p step = refl
not_declared d h (occurs.IsStale name server from incarnation) taken p step = refl
not_declared d h (occurs.IsBefore name from) taken p step = refl
not_declared d h (occurs.Told request table) taken p step = refl
not_declared d h (occurs.Restored state count) taken p step = refl
not_declared d h occurs.Joins taken p step = refl

among_down : (p : Past) (step other y : ℕ) → is_among (nodes_declared_down (followed p step (occurs.Declared other))) y ≡ (eqb other y || is_among (nodes_declared_down p) y)
among_down p step other y = by_test (is_among (nodes_declared_down p) other) refl
  where
    k : Knowing
    k = record { views = []; down = nodes_declared_down p; wants = [] }

    by_test : (t : Bool) → is_among (nodes_declared_down p) other ≡ t → is_among (if t then nodes_declared_down p else nodes_declared_down p ++ other ∷ []) y ≡ (eqb other y || is_among (nodes_declared_down p) y)
    by_test true is = ap (λ (x : Bool). is_among (if x then k else record k { down = k.down ++ other ∷ [] }).down y) (sym is) ∙ declared_among k other y
    by_test false is = ap (λ (x : Bool). is_among (if x then k else record k { down = k.down ++ other ∷ [] }).down y) (sym is) ∙ declared_among k other y

-- ---- what is made

module _ {M : Type 0} (declared : M → Signature) (turn : M → List ValueTree → ℕ → List ValueTree → List Outcome → NextTurn) (first : M → List ValueTree)
    (lawful : (hosted : M) → IsModule (behaviour declared turn first hosted)) (d : Deployment) (good : IsDeployment d) (node number : ℕ) (troupe : Troupe) (own : M) where
  abbrev pub b : Beginning
  b = beginning_of d node

  abbrev pub place : Place
  place = (home_in d node number troupe).place

  abbrev pub views : List View
  views = boot_views d.troupes

  abbrev pub beginning : beginnings.Beginning
  beginning = beginning_in troupe node

  abbrev pub IsAlive : Past → Acting M → Type 0
  IsAlive p a = lives.NodeLives declared turn first lawful d node number troupe own p a

  abbrev pub all_made : Past → List (ℕ × Effect)
  all_made p = made_by declared turn first place views beginning own p

  -- what a member makes in a step is among what it has made then
  module _ (p : Past) (step : ℕ) where
    happened_made : (m : MemberState M) → Lives declared turn first lawful d node number troupe own p m → (o : Occurrence) (e : Effect) → IsIn (member_step.step_member declared turn step o m).effects e
        → IsIn (all_made (followed p step o)) (step, e)
    happened_made m l o e at =
        let same = ap (λ (x : MemberState M). (member_step.step_member declared turn step o x).effects) l.is in
        in_second (all_made p) (made_in step (member_step.step_member declared turn step o (after declared turn first place views beginning own p)).effects) (step, e)
        (mapped_in (λ (x : Effect). (step, x)) _ e (subst (λ l. IsIn l e) same at))

    maybe_made : (m : MemberState M) → Lives declared turn first lawful d node number troupe own p m → (o : Option Occurrence) (e : Effect)
        → IsIn (option_map_or (happens declared turn step m) o (refuse (member m))).came.effects e → IsIn (all_made (with_one p step o)) (step, e)
    maybe_made m l None e at = absurd at
    maybe_made m l (Some o) e at = happened_made m l o e at

    heard_made : (dep : Deployment) (from : ℕ) (m : MemberState M) → Lives declared turn first lawful d node number troupe own p m → (h : Heard Purpose) (e : Effect)
        → IsIn (hears declared turn dep step from h (member m)).came.effects e → IsIn (all_made (with_one p step (occurrence_of_heard dep (declared m.performing.hosted) m from h))) (step, e)
    heard_made dep from m l Dropped e at = absurd at
    heard_made dep from m l Taken e at = absurd at
    heard_made dep from m l (Called sender message) e at = maybe_made m l (occurrence_of_heard dep (declared m.performing.hosted) m from (Called sender message)) e at
    heard_made dep from m l (Returned call purpose message) e at = maybe_made m l (occurrence_of_heard dep (declared m.performing.hosted) m from (Returned call purpose message)) e at

    made_then : (event : Event) (n : NodeState M) → IsAlive p n.acting → (e : Effect) → IsIn (effects_in declared turn step event n) e
        → IsIn (all_made (with_one p step (happens_by declared event n))) (step, e)
    made_then event n alive e at = by_acting event n.acting alive at
      where
        by_acting : (ev : Event) (a : Acting M) → IsAlive p a → IsIn (effects_in declared turn step ev (record n { acting = a })) e
            → IsIn (all_made (with_one p step (happens_by declared ev (record n { acting = a })))) (step, e)
        by_acting (comes.Datagram from bytes) (member m) l at = heard_made n.deployment from m l (heard_from n.wire from (reading bytes)) e at
        by_acting comes.Tick (member m) l at = absurd at
        by_acting (comes.Down other) (member m) l at = happened_made m l (occurs.Declared other) e at
        by_acting comes.Join (member m) l at = happened_made m l occurs.Joins e at
        by_acting ev (ringmaster kept) l at = absurd l

  -- ---- the node

  pub record Goes (p : Past) (acts : WireActs Purpose) (n : NodeState M) : Type 0 where
    pub deployment : n.deployment ≡ d
    pub lives : IsAlive p n.acting
    pub stands : WireStands n.wire b acts
    pub made : (e : Effect) → IsAmong acts (act_of e) → (t : ℕ) × IsIn (all_made p) (t, e)
    pub numbers : Numbers n.wire p
    pub downs : (y : ℕ) → is_stopped_after (acts_at (pair_of b) y acts) ≡ is_among (nodes_declared_down p) y

  -- it takes a step by what comes from another node
  module _ (p : Past) (acts : WireActs Purpose) (n : NodeState M) (step : ℕ) (event : Event) (ended : NodeState M × Outputs) (later : now p < step) (goes : Goes p acts n)
      (other : IsOfOther d node event) (read : IsRead event) (may : MayHappen declared n.acting (happens_by declared event n)) (ends : node_step.step_node declared turn step event n ≡ Ok ended) where
    abbrev pub next_acts : WireActs Purpose
    next_acts = with_all acts (acts_in declared turn step event n)

    abbrev pub next_past : Past
    next_past = with_one p step (happens_by declared event n)

    can_come : CanCome n event
    can_come = by_event event other
      where
        by_event : (ev : Event) → IsOfOther d node ev → CanCome n ev
        by_event (comes.Datagram from bytes) is = other_by b acts n.wire from goes.stands is
        by_event comes.Tick is = tt
        by_event (comes.Down nodes_declared_down) is = other_by b acts n.wire nodes_declared_down goes.stands is
        by_event comes.Join is = tt

    pub gives : GivesSo b (IsSent b good.format (is_tick event)) next_acts ended
    gives = step_gives declared turn b (IsSent b good.format (is_tick event)) (omega arith) acts step event n ended (sent_brings b good.format acts event) goes.stands can_come read ends

    made_next : (e : Effect) → IsAmong next_acts (act_of e) → (t : ℕ) × IsIn (all_made next_past) (t, e)
    made_next e among = elim (among_all acts (acts_in declared turn step event n) (act_of e) among) [
      | inl before ↦ (let was = goes.made e before in (was.0, still (happens_by declared event n) was.0 was.1))
      | inr behind ↦ elim (in_both (came_by event) (flat_map (handed_by (wire_behind event n)) (effects_in declared turn step event n)) (act_of e) behind) [
        | inl came ↦ absurd (no_event event e came)
        | inr handed ↦ (step, made_then p step event n goes.lives e (in_effects (wire_behind event n) (effects_in declared turn step event n) e handed))
      ]
    ]
      where
        still : (o : Option Occurrence) (t : ℕ) → IsIn (all_made p) (t, e) → IsIn (all_made (with_one p step o)) (t, e)
        still None t at = at
        still (Some o) t at = in_first (all_made p) _ (t, e) at

  -- ---- who is down

  downs_in : (p : Past) (n : NodeState M) (step : ℕ) (ev : Event) (a : Acting M) (y : ℕ) → n.deployment ≡ d → IsAlive p a
      → is_among (nodes_declared_down (with_one p step (happens_by declared ev (record n { acting = a })))) y ≡ (declares ev y || is_among (nodes_declared_down p) y)
  downs_in p n step (comes.Datagram from bytes) (member m) y same alive = by_accepted (occurrence_of_heard n.deployment (declared m.performing.hosted) m from h) refl
    where
      h : Heard Purpose
      h = heard_from n.wire from (reading bytes)

      by_accepted : (o : Option Occurrence) → occurrence_of_heard n.deployment (declared m.performing.hosted) m from h ≡ o → is_among (nodes_declared_down (with_one p step o)) y ≡ is_among (nodes_declared_down p) y
      by_accepted None is = refl
      by_accepted (Some o) is =
          let taken = accepted_is d good (declared m.performing.hosted) m from h o (ap (λ (x : Deployment). occurrence_of_heard x (declared m.performing.hosted) m from h) (sym same) ∙ is) in
          ap (λ l. is_among l y) (not_declared d h o taken p step)
  downs_in p n step comes.Tick (member m) y same alive = refl
  downs_in p n step (comes.Down other) (member m) y same alive = among_down p step other y
  downs_in p n step comes.Join (member m) y same alive = refl
  downs_in p n step ev (ringmaster kept) y same alive = absurd alive

  pub downs_next : (p : Past) (acts : WireActs Purpose) (n : NodeState M) (step : ℕ) (event : Event) → Goes p acts n → (y : ℕ)
      → is_stopped_after (acts_at (pair_of b) y (with_all acts (acts_in declared turn step event n))) ≡ is_among (nodes_declared_down (with_one p step (happens_by declared event n))) y
  downs_next p acts n step event goes y =
      ap (λ a. is_stopped_after (acts_at (pair_of b) y a)) (with_both acts (came_by event) (flat_map (handed_by (wire_behind event n)) (effects_in declared turn step event n)))
      ∙ stopped_handed b y (wire_behind event n) (effects_in declared turn step event n) (with_all acts (came_by event))
      ∙ stopped_came b y event acts ∙ ap (λ t. declares event y || t) (goes.downs y) ∙ sym (downs_in p n step event n.acting y goes.deployment goes.lives)

  pub downs_boot : (w : WireState Purpose) (effects : List Effect) (y : ℕ) → is_stopped_after (acts_at (pair_of b) y (with_all begun (flat_map (handed_by w) effects))) ≡ false
  downs_boot w effects y = stopped_handed b y w effects begun

  -- ---- a step

  pub goes_on : (p : Past) (acts : WireActs Purpose) (n : NodeState M) (step : ℕ) (event : Event) (ended : NodeState M × Outputs) → now p < step → Goes p acts n → IsOfOther d node event → IsRead event
      → MayHappen declared n.acting (happens_by declared event n) → node_step.step_node declared turn step event n ≡ Ok ended
      → Goes (with_one p step (happens_by declared event n)) (with_all acts (acts_in declared turn step event n)) ended.0
  goes_on p acts n step event ended later goes other read may ends =
      let e = ends_by declared turn step event n ended ends in
      let g = gives p acts n step event ended later goes other read may ends in
      record {
        deployment = e.deployment ∙ goes.deployment;
        lives = subst (IsAlive (with_one p step (happens_by declared event n))) (sym e.acting)
            (node_lives_on declared turn first lawful d node number troupe own p step later event n goes.lives may);
        stands = g.stands;
        made = made_next p acts n step event ended later goes other read may ends;
        numbers = numbers_on declared turn p step event n ended e goes.numbers;
        downs = downs_next p acts n step event goes;
      }
