-- A node that goes on, step by step, leaves a trace by which one knows what happened to it and to its pairs.
use Rattle.std.proofs.Common.{◌≡◌, ℕ, ◌<◌, ◌≤◌, List, [], ◌∷◌, ◌++◌, map, length, Option, None, Some, Ok, Err, refl, sym, ap, subst, ◌∙◌, arith, append-nil}
use Rattle.std.specs.Prelude.{slice_get, option_map, option_and_then}
use Rattle.std.proofs.lemmas.List.{append_cancel_left}
use Rattle.std.proofs.lemmas.List.Elements.{All-nil}
use Rattle.std.proofs.lemmas.Option.{same_Some}
use Rattle.circus_value.specs.ValueTree.{ValueTree}
use Rattle.circus_value.specs.declared.outcome.Outcome.{Outcome}
use Rattle.circus_segment.specs.Segment.{reading}
use Rattle.circus_collate.specs.Deployment.{IsDeployment}
use Rattle.circus_collate.specs.declared.deployment.Deployment.{Deployment}
use Rattle.circus_collate.specs.declared.deployment.Troupe.{Troupe}
use Rattle.circus_collate.specs.declared.view.View.{View}
use Rattle.circus_ring.specs.RingTable.{boot_views}
use Rattle.circus_transfer.specs.declared.joiner.Joiner.{Joiner}
use Rattle.circus_model.specs.Behaviour.{Behaviour, IsModule}
use Rattle.circus_model.specs.NextTurn.{NextTurn}
use Rattle.circus_model.specs.declared.signature.Signature.{Signature}
use Rattle.circus_record.specs.declared.record.MemberRecord.{MemberRecord}
use Rattle.circus_performing.specs.Record.{behaviour}
use Rattle.circus_exchange.specs.Limits.{never_used}
use Rattle.circus_wire.specs.Wire as wire
use Rattle.circus_wire.specs.Wire.{heard_from}
use Rattle.circus_wire.specs.WireActs as pairs
use Rattle.circus_wire.specs.WireActs.{WireActs, made_to}
use Rattle.circus_wire.proofs.Standing.{stands_begun}
use Rattle.circus_member_rules.specs.declared.place.Beginning.{Beginning}
use Rattle.circus_member_rules.specs.declared.place.Place.{Place}
use Rattle.circus_member_rules.specs.declared.occurrence.AskName.{AskName}
use Rattle.circus_member_rules.specs.declared.occurrence.Effect.{Effect}
use Rattle.circus_member_rules.specs.declared.occurrence.Effect.TheVariants as effect
use Rattle.circus_member_rules.specs.declared.occurrence.Occurrence.{Occurrence}
use Rattle.circus_member_rules.specs.declared.occurrence.Occurrence.TheVariants as occurs
use Rattle.circus_member_rules.specs.declared.occurrence.Purpose.{Purpose}
use Rattle.circus_member_rules.specs.Happening.{IsHome, CanHappen}
use Rattle.circus_member_rules.specs.MemberState.{MemberState}
use Rattle.circus_member_rules.specs.Step as member_step
use Rattle.circus_node.specs.Accepting as accepting
use Rattle.circus_node.specs.Accepting.{troupe_at, imported_procedure, recorded_ask, called_by}
use Rattle.circus_node.specs.Booting.{beginning_in, home_in, home_of, made_at_boot, fresh_wire}
use Rattle.circus_node.specs.Booting as booting
use Rattle.circus_node.specs.NodeState.{Acting, member, ringmaster, NodeState}
use Rattle.circus_node.specs.Step as node_step
use Rattle.circus_node.specs.Step.{CanCome}
use Rattle.circus_node.specs.declared.event.Event.{Event}
use Rattle.circus_node.specs.declared.event.Event.TheVariants as comes
use Rattle.circus_node.specs.declared.event.Outputs.{Outputs}
use Rattle.circus_world_theory.specs.Histories.{beginning_of}
use Rattle.circus_world_theory.specs.NodeActs.{with_all, came_by, wire_behind, acts_in, acts_at_boot}
use Rattle.circus_node.specs.Trace.{effects_in, effects_at_boot, Trace}
use Rattle.circus_world_theory.proofs.Steps.{IsRead}
use Rattle.circus_world_theory.proofs.Border.Going.{begun as with_nothing}
use Rattle.circus_world_theory.proofs.Border.Hosting.{Hosts, IsOtherOf, boot_views_are, may_be_called}
use Rattle.circus_world_theory.proofs.Border.Reaching.{Reaches, AllReach, TellsOf, MayBeCalled, IsReaching, step_reaches, boot_reaches}
use Rattle.circus_world_theory.proofs.Border.Telling.{accepted_is}
use Rattle.circus_member_theory.specs.Past.{Past, booted, followed, now}
use Rattle.circus_member_theory.specs.Living.{MayLive, after, kept_after, phase_at_boot}
use Rattle.circus_member_theory.specs.Made.{AreDistinct}
use Rattle.circus_headline_theory.specs.Owed.Living.{made_in, told_in, made_by, told_by, makes_in}
use Rattle.circus_headline_theory.specs.Owed.Makes.{differences_in}
use Rattle.circus_headline_theory.proofs.Owed.Lives.{IsKnown, known}
use Rattle.circus_world_theory.specs.Happened.{happens_by, with_one}
use Rattle.circus_world_theory.specs.NodeLives.{IsOfBytes}
use Rattle.circus_world_theory.proofs.Timely.Lives.{NodeLives, MayHappen, acting_by, lives_at_boot, node_lives_on}
use Rattle.circus_world_theory.proofs.Timely.Nodes.{EndsBy, ends_by, numbers_on, may_happen}
use Rattle.circus_world_theory.proofs.Timely.Wires.{AllGather, ticked_gathers, stopped_gathers, datagram_gathers}
use Rattle.circus_headline_theory.proofs.Owed.Making.{concluded_tells, step_tells, Grows, grows}
use Rattle.circus_headline_theory.proofs.Owed.Nodes.{boot_made}
use Rattle.circus_headline_theory.specs.Datagrams.Lives.{IsOfOther, boot_acts}
use Rattle.circus_headline_theory.proofs.Datagrams.AtPairs.{other_by}
use Rattle.circus_headline_theory.proofs.Datagrams.Course.{Goes, goes_on}
use Rattle.circus_headline_theory.proofs.Datagrams.Theorem.{is_read, has_booted}
use Rattle.circus_node.specs.Trace as trace
use Rattle.circus_headline_theory.specs.Trace.{made_of, told_of, acts_of, acts_in_step, gives_for_all, suspects_in, heard_in, SendsWhatIsOwed}
use Rattle.circus_headline_theory.specs.Numbers.{HasNumbers}
use Rattle.circus_headline_theory.specs.NodeRun as node_run
use Rattle.circus_headline_theory.specs.NodeRun.{past_of, IsOrderedFor, IsOrdered}
use Rattle.circus_headline_theory.proofs.Accepting.{heard_as, IsRecorded, answers_record, accepted_as, called_is, made_is_recorded}
use Rattle.circus_headline_theory.proofs.Asks.{imported_recorded}
use Rattle.circus_headline_theory.proofs.Growing.{SaysAs, says_on, says_then, in_order_as}
use Rattle.circus_headline_theory.proofs.Handing.{handed_as}
use Rattle.circus_headline_theory.specs.Peers.{ComeOfPeers}
use Rattle.circus_headline_theory.proofs.Sends.{Sends, behind_stands, step_sends, step_spends, boot_sends, boot_spends}

-- ---- what was made in a step, without the step

made_of_them : (at : ℕ) (effects : List Effect) → map (λ (e : ℕ × Effect). e.1) (made_in at effects) ≡ effects
made_of_them at [] = refl
made_of_them at (e ∷ effects) = ap (λ l. e ∷ l) (made_of_them at effects)

same_made : (at : ℕ) (one other : List Effect) → made_in at one ≡ made_in at other → one ≡ other
same_made at one other is = sym (made_of_them at one) ∙ ap (map (λ (e : ℕ × Effect). e.1)) is ∙ made_of_them at other

module _ {M : Type 0} (declared : M → Signature) (turn : M → List ValueTree → ℕ → List ValueTree → List Outcome → NextTurn) (first : M → List ValueTree)
    (lawful : (hosted : M) → IsModule (behaviour declared turn first hosted)) (d : Deployment) (good : IsDeployment d) (node number : ℕ) (troupe : Troupe) (own : M)
    (hosts : troupe_at d node ≡ Some number) (home : IsHome (declared own) (home_in d node number troupe).place (boot_views d.troupes)) where
  abbrev b : wire.Beginning
  b = beginning_of d node

  abbrev behaves : Behaviour
  behaves = behaviour declared turn first own

  abbrev place : Place
  place = (home_in d node number troupe).place

  abbrev views : List View
  views = boot_views d.troupes

  abbrev beginning : Beginning
  beginning = beginning_in troupe node

  abbrev begins : Joiner
  begins = phase_at_boot beginning

  abbrev life : Past → MemberState M
  life p = after declared turn first place views beginning own p

  abbrev pub kept_at : Past → MemberRecord
  kept_at p = kept_after declared turn first place views beginning own p

  abbrev May : Past → Type 0
  May p = MayLive declared turn first place views beginning own p

  abbrev IsAlive : Past → Acting M → Type 0
  IsAlive p a = NodeLives declared turn first lawful d node number troupe own p a

  abbrev pub Says : Past → MemberRecord → Type 0
  Says p kept = SaysAs place views begins (first own) p (kept_at p) kept

  pub may_call : MayBeCalled (Hosts d) (IsOtherOf d node) place
  may_call = may_be_called d good node place refl hosts

  abbrev Calls : Past → Type 0
  Calls p = IsReaching (Hosts d) (IsOtherOf d node) place may_call (with_nothing (life p))

  -- a member that is alive is the one behind its past
  pub is_life : (p : Past) (a : Acting M) → IsAlive p a → a ≡ member (life p)
  is_life p (member m) l = ap member l.is
  is_life p (ringmaster kept) l = absurd l

  pub may_live : (p : Past) (a : Acting M) → IsAlive p a → May p
  may_live p (member m) l = l.may
  may_live p (ringmaster kept) l = absurd l

  -- what is made of an occurrence, if there is one
  abbrev effects_then : Past → ℕ → Option Occurrence → List Effect
  effects_then p at None = []
  effects_then p at (Some o) = makes_in declared turn first place views beginning own p at o

  -- a trace that tells what happened to the member, and what that made and told
  pub record Leaves (t : Trace) (p : Past) : Type 0 where
    pub sends : SendsWhatIsOwed (beginning_of d node) t
    -- by a record that has grown since
    pub past_is : (kept : MemberRecord) → Says p kept → past_of d behaves node number troupe kept t ≡ p
    pub ordered : (kept : MemberRecord) → Says p kept → IsOrdered d behaves node number troupe kept t
    pub makes : made_of t ≡ made_by declared turn first place views beginning own p
    pub tells : told_of t ≡ told_by declared turn first place views beginning own p

  -- a node with this trace, behind what happened to its member and at its pairs
  pub record Follows (t : Trace) (p : Past) (acts : WireActs Purpose) (n : NodeState M) : Type 0 where
    pub goes : Goes declared turn first lawful d good node number troupe own p acts n
    pub gathers : AllGather n.wire
    pub of_peers : ComeOfPeers b acts
    pub calls : Calls p
    pub acts_are : acts_of b t ≡ acts
    pub leaves : Leaves t p

  -- ---- what is accepted tells of nodes of its troupe

  tells_of : (n : NodeState M) → n.deployment ≡ d → (event : Event) (a : Acting M) (o : Occurrence) → happens_by declared event (record n { acting = a }) ≡ Some o → TellsOf (Hosts d) o
  tells_of n same (comes.Datagram from bytes) (member m) o is =
      let h = heard_from n.wire from (reading bytes) in
      (accepted_is d good (declared m.performing.hosted) m from h o (ap (λ (x : Deployment). accepting.occurrence_of_heard x (declared m.performing.hosted) m from h) (sym same) ∙ is)).tells
  tells_of n same comes.Tick (member m) o is = absurd (let clash : ◌≡◌ {A = Option Occurrence} None (Some o) = is in cc)
  tells_of n same (comes.Down other) (member m) o is = subst (TellsOf (Hosts d)) (same_Some (occurs.Declared other) o is) tt
  tells_of n same comes.Join (member m) o is = subst (TellsOf (Hosts d)) (same_Some occurs.Joins o is) tt
  tells_of n same event (ringmaster kept) o is = absurd (let clash : ◌≡◌ {A = Option Occurrence} None (Some o) = is in cc)

  -- ---- a step

  module _ (t : Trace) (p : Past) (acts : WireActs Purpose) (n : NodeState M) (f : Follows t p acts n) (step : ℕ) (event : Event) (later : now p < step)
      (octets : IsOfBytes event) (other : IsOfOther d node event) where
    abbrev happened : Option Occurrence
    happened = happens_by declared event n

    abbrev pub made : List Effect
    made = effects_in declared turn step event n

    abbrev next_acts : WireActs Purpose
    next_acts = with_all acts (acts_in declared turn step event n)

    abbrev pub next_past : Past
    next_past = with_one p step happened

    abbrev pub next_acting : Acting M
    next_acting = acting_by declared turn step event n

    may_come : MayHappen declared n.acting happened
    may_come = may_happen declared turn first lawful d node number troupe own p event n octets (record { deployment = f.goes.deployment; gathers = f.gathers; lives = f.goes.lives })

    pub lives_next : IsAlive next_past next_acting
    lives_next = node_lives_on declared turn first lawful d node number troupe own p step later event n f.goes.lives may_come

    may_now : May p
    may_now = may_live p n.acting f.goes.lives

    may_next : May next_past
    may_next = may_live next_past next_acting lives_next

    known_now : IsKnown declared turn first lawful place views beginning own p (life p)
    known_now = known declared turn first lawful place views beginning own home p may_now

    grown : Grows declared turn first lawful d node number troupe own p step event n
    grown = grows declared turn first lawful d node number troupe own p step event n f.goes.lives

    -- no call comes twice
    pub distinct_next : AreDistinct next_past
    distinct_next = (numbers_on declared turn p step event n (behind, none) ends_as f.goes.numbers).distinct
      where
        behind : NodeState M
        behind = record n { wire = wire_behind event n; acting = next_acting }

        none : Outputs
        none = record { gives = []; suspects = []; differences = [] }

        gathers_as : (e : Event) → IsOfBytes e → AllGather n.wire → AllGather (wire_behind e n)
        gathers_as (comes.Datagram from bytes) bytes_are g = datagram_gathers n.wire from bytes bytes_are g
        gathers_as comes.Tick bytes_are g = ticked_gathers n.wire g
        gathers_as (comes.Down down) bytes_are g = stopped_gathers n.wire down g
        gathers_as comes.Join bytes_are g = g

        ends_as : EndsBy declared turn step event n (behind, none)
        ends_as = record { deployment = refl; acting = refl; gathers = gathers_as event; keeps = λ caller has. has }

    can_come : CanCome n event
    can_come = by_event event other
      where
        by_event : (e : Event) → IsOfOther d node e → CanCome n e
        by_event (comes.Datagram from bytes) is = other_by b acts n.wire from f.goes.stands is
        by_event comes.Tick is = tt
        by_event (comes.Down down) is = other_by b acts n.wire down f.goes.stands is
        by_event comes.Join is = tt

    -- what is made is what the member makes of it
    made_is : made ≡ effects_then p step happened
    made_is = by_occurrence happened grown.makes
      where
        all : List (ℕ × Effect)
        all = made_by declared turn first place views beginning own p

        by_occurrence : (o : Option Occurrence) → all ++ made_in step made ≡ made_by declared turn first place views beginning own (with_one p step o) → made ≡ effects_then p step o
        by_occurrence None is = same_made step made [] (append_cancel_left all (made_in step made) [] (is ∙ sym (append-nil all)))
        by_occurrence (Some o) is = same_made step made (effects_then p step (Some o)) (append_cancel_left all (made_in step made) (made_in step (effects_then p step (Some o))) is)

    -- whom it calls are other nodes
    record CallsThen (o : Option Occurrence) : Type 0 where
      down : List ℕ
      effects : AllReach down (IsOtherOf d node) (effects_then p step o)
      calls : Calls (with_one p step o)

    calls_then : (o : Option Occurrence) → ((x : Occurrence) → o ≡ Some x → TellsOf (Hosts d) x) → May (with_one p step o) → CallsThen o
    calls_then None tells may = record { down = []; effects = All-nil (Reaches [] (IsOtherOf d node)); calls = f.calls }
    calls_then (Some o) tells may =
        let can = subst (λ (h : M). CanHappen (declared h) (life p) o) (sym known_now.hosts) may.2 in
        let r = step_reaches (Hosts d) (IsOtherOf d node) place may_call declared turn first lawful step o (life p) can may.3 (tells o refl) known_now.sound f.calls in
        let down = (life (followed p step o)).known.down in
        record {
          down = down;
          effects = r.effects;
          calls = record { at = r.at; views = r.views; asks = r.asks; effects = All-nil (Reaches down (IsOtherOf d node)) };
        }

    calls_next : CallsThen happened
    calls_next = calls_then happened (λ x is. tells_of n f.goes.deployment event n.acting x is) may_next

    -- ---- at the pairs

    same_acts : acts_in_step b acts (came_by event) made ≡ acts_in declared turn step event n
    same_acts =
        ap (λ l. came_by event ++ l)
        (handed_as d node (with_all acts (came_by event)) (wire_behind event n) (behind_stands b acts event n f.goes.stands f.of_peers can_come (is_read event octets)) calls_next.down
        made (subst (AllReach calls_next.down (IsOtherOf d node)) (sym made_is) calls_next.effects))

    acts_by_trace : acts_in_step b (acts_of b t) (came_by event) made ≡ acts_in declared turn step event n
    acts_by_trace = ap (λ a. acts_in_step b a (came_by event) made) f.acts_are ∙ same_acts

    -- what has happened at the pairs, by the trace
    acts_then : with_all (acts_of b t) (acts_in_step b (acts_of b t) (came_by event) made) ≡ next_acts
    acts_then = λ j. with_all (f.acts_are j) (acts_by_trace j)

    -- ---- what happened, by a record that has grown since

    says_before : (kept : MemberRecord) (o : Option Occurrence) → May (with_one p step o) → Says (with_one p step o) kept → Says p kept
    says_before kept None may says = says
    says_before kept (Some o) may says =
        says_on place views begins (first own) p (followed p step o) (kept_at p) (kept_at (followed p step o)) kept (omega (arith, later))
        (says_then declared turn first lawful place views beginning own home p step o may) says

    module _ (kept : MemberRecord) (says : Says p kept) where
      happens_as : (a : Acting M) → IsAlive p a → node_run.happens_by d (declared own) node number kept acts event ≡ happens_by declared event (record n { acting = a })
      happens_as (ringmaster ring) l = absurd l
      happens_as (member m) l = by_event event other (is_read event octets)
        where
          named : (name : AskName) → IsRecorded (kept_at p) name → option_and_then (imported_procedure (declared own)) (called_by m name) ≡ option_and_then (imported_procedure (declared own)) (recorded_ask kept name)
          named name is =
              ap (λ (x : MemberState M). option_and_then (imported_procedure (declared own)) (called_by x name)) l.is ∙ called_is declared turn first lawful place views beginning own home p may_now (declared own) name is.0 is.1
              ∙ sym (imported_recorded (declared own) kept name is.0 (says.recorded_so name is.0 is.1))

          troupe_is : m.place.troupe ≡ number
          troupe_is = ap (λ (x : MemberState M). x.place.troupe) l.is ∙ ap (λ (x : Place). x.troupe) known_now.stands

          by_event : (e : Event) → IsOfOther d node e → IsRead e → node_run.happens_by d (declared own) node number kept acts e ≡ happens_by declared e (record n { acting = member m })
          by_event (comes.Datagram from bytes) is read =
              let h = heard_in b acts from (reading bytes) in
              let same : h ≡ heard_from n.wire from (reading bytes) = heard_as b acts n.wire from (reading bytes) (other_by b acts n.wire from f.goes.stands is) f.goes.stands read in
              let answers = answers_record (kept_at p) b acts from
              (λ purpose message among. let was = f.goes.made (effect.Call from message purpose) among in
              made_is_recorded declared turn first lawful place views beginning own home p may_now from message purpose was.0 was.1) (reading bytes) in
              sym (accepted_as d (declared own) m number (kept_at p) kept troupe_is from named h answers)
              ∙ (λ j. accepting.occurrence_of_heard (sym f.goes.deployment j) (declared (sym l.hosts j)) m from (same j))
          by_event comes.Tick is read = refl
          by_event (comes.Down down) is read = refl
          by_event comes.Join is read = refl

      happened_by_trace : node_run.happens_by d (declared own) node number kept (acts_of b t) event ≡ happened
      happened_by_trace = ap (λ a. node_run.happens_by d (declared own) node number kept a event) f.acts_are ∙ happens_as n.acting f.goes.lives

      past_by_trace : with_one (past_of d behaves node number troupe kept t) step (node_run.happens_by d (declared own) node number kept (acts_of b t) event) ≡ next_past
      past_by_trace = λ j. with_one (f.leaves.past_is kept says j) step (happened_by_trace j)

      ordered_then : (o : Option Occurrence) → May (with_one p step o) → Says (with_one p step o) kept → made ≡ effects_then p step o → IsOrderedFor d behaves node number troupe kept p step made o
      ordered_then None may now_says is = is
      ordered_then (Some o) may now_says is =
          subst (λ l. IsOrderedFor d behaves node number troupe kept p step l (Some o)) (sym is) (in_order_as declared turn first lawful place views beginning own home p step o may kept now_says)

      ordered_by_trace : Says next_past kept → IsOrderedFor d behaves node number troupe kept (past_of d behaves node number troupe kept t) step made (node_run.happens_by d (declared own) node number kept (acts_of b t) event)
      ordered_by_trace now_says =
          subst (λ x. IsOrderedFor d behaves node number troupe kept x step made (node_run.happens_by d (declared own) node number kept (acts_of b t) event)) (sym (f.leaves.past_is kept says))
          (subst (IsOrderedFor d behaves node number troupe kept p step made) (sym happened_by_trace) (ordered_then happened may_next now_says made_is))

    -- a step that gives what is owed in it
    pub record GivesSo (outputs : Outputs) : Type 0 where
      pub gives : outputs.gives ≡ gives_for_all b (acts_of b t) (acts_in_step b (acts_of b t) (came_by event) made)
      pub suspects : outputs.suspects ≡ suspects_in b (acts_of b t) event
      pub differences : outputs.differences ≡ differences_in declared turn step event n

    pub leaves_on : (outputs : Outputs) → GivesSo outputs → Leaves (trace.stepped t step event made outputs) next_past
    leaves_on outputs given = record {
      sends = (f.leaves.sends, given.gives, given.suspects);
      past_is = λ kept says. past_by_trace kept (says_before kept happened may_next says);
      ordered = λ kept says. (let before = says_before kept happened may_next says in (f.leaves.ordered kept before, ordered_by_trace kept before says));
      makes = ap (λ l. l ++ made_in step made) f.leaves.makes ∙ grown.makes;
      tells = (λ j. f.leaves.tells j ++ told_in step (given.differences j)) ∙ grown.tells;
    }

    module _ (ended : NodeState M × Outputs) (ends : node_step.step_node declared turn step event n ≡ Ok ended) where
      s : Sends b next_acts (gives_for_all b acts (acts_in declared turn step event n)) (suspects_in b acts event) ended
      s = step_sends declared turn b (omega arith) acts step event n ended f.goes.stands f.of_peers can_come (is_read event octets) ends

      given_by_trace : GivesSo ended.1
      given_by_trace = record {
        gives = s.gives_are ∙ (λ j. gives_for_all b (sym f.acts_are j) (sym acts_by_trace j));
        suspects = s.suspects_are ∙ ap (λ a. suspects_in b a event) (sym f.acts_are);
        differences = step_tells declared turn step event n ended ends;
      }

      pub follows_on : Follows (trace.stepped t step event made ended.1) next_past next_acts ended.0
      follows_on = record {
        goes = goes_on declared turn first lawful d good node number troupe own p acts n step event ended later f.goes other (is_read event octets) may_come ends;
        gathers = (ends_by declared turn step event n ended ends).gathers octets f.gathers;
        of_peers = s.of_peers;
        calls = calls_next.calls;
        acts_are = acts_then;
        leaves = leaves_on ended.1 given_by_trace;
      }

    -- where no number is left in the step, more calls stand in a trace with it than there are numbers
    pub spends_on : (outputs : Outputs) (peer : ℕ) → node_step.step_node declared turn step event n ≡ Err peer → HasNumbers d node (trace.stepped t step event made outputs) → ⊥
    spends_on outputs peer ends numbers =
        let spent = step_spends declared turn b (omega arith) acts step event n peer f.goes.stands f.of_peers can_come (is_read event octets) ends in
        let few = subst (λ x. made_to peer x ≤ never_used) acts_then (numbers peer) in
        omega (arith, spent, few)

  -- ---- boot

  module _ (within : node < length d.nodes) (there : slice_get d.troupes number ≡ Some troupe) where
    abbrev pub made_first : List Effect
    made_first = effects_at_boot declared turn first d (Some own) node

    home_is : home_of d node ≡ Some (home_in d node number troupe)
    home_is = ap (option_and_then (λ n. option_map (home_in d node n) (slice_get d.troupes n))) hosts ∙ ap (option_map (home_in d node number)) there

    pub lives_first : IsAlive booted (made_at_boot declared turn first d (home_of d node) (Some own)).acting
    lives_first = subst (λ h. IsAlive booted (made_at_boot declared turn first d h (Some own)).acting) (sym home_is) (lives_at_boot declared turn first lawful d node number troupe own home)

    reaches_first : IsReaching (Hosts d) (IsOtherOf d node) place may_call (member_step.boot_member declared turn first place views beginning own)
    reaches_first = boot_reaches (Hosts d) (IsOtherOf d node) place may_call declared turn first lawful views beginning own home (boot_views_are d good)

    acts_first : acts_in_step b pairs.begun [] made_first ≡ acts_at_boot declared turn first d (Some own) node
    acts_first =
        handed_as d node pairs.begun (fresh_wire d node) (stands_begun b (fresh_wire d node) within refl) (life booted).known.down made_first
        (subst (λ x. AllReach (life booted).known.down (IsOtherOf d node) (made_at_boot declared turn first d x (Some own)).came.effects) (sym home_is) reaches_first.effects)

    -- one that gives at boot what is owed then
    pub record GivesFirst (outputs : Outputs) : Type 0 where
      pub gives : outputs.gives ≡ gives_for_all b pairs.begun (acts_in_step b pairs.begun [] made_first)
      pub suspects : outputs.suspects ≡ []
      pub differences : outputs.differences ≡ []

    pub leaves_first : (outputs : Outputs) → GivesFirst outputs → Leaves (trace.booted made_first outputs) booted
    leaves_first outputs given = record {
      sends = (given.gives, given.suspects);
      past_is = λ kept says. refl;
      ordered = λ kept says. tt;
      makes = boot_made declared turn first lawful d node number troupe own hosts there;
      tells = ap (told_in 0) given.differences;
    }

    pub follows_at_boot : (begun_ : NodeState M) (outputs : Outputs) → booting.boot_node declared turn first d (Some own) node ≡ Ok (begun_, outputs)
        → Follows (trace.booted made_first outputs) booted (boot_acts declared turn first d own node) begun_
    follows_at_boot begun_ outputs is =
        let h = has_booted declared turn first lawful d good node number troupe own begun_ outputs within hosts there home is in
        let s = boot_sends declared turn first d (Some own) node (begun_, outputs) within is in
        let r = reaches_first in
        record {
          goes = h.goes;
          gathers = h.gathers;
          of_peers = s.of_peers;
          calls = record { at = r.at; views = r.views; asks = r.asks; effects = All-nil (Reaches (life booted).known.down (IsOtherOf d node)) };
          acts_are = ap (with_all pairs.begun) acts_first;
          leaves = leaves_first outputs (record { gives = s.gives_are ∙ ap (gives_for_all b pairs.begun) (sym acts_first); suspects = s.suspects_are; differences = tells_none });
        }
      where
        none_first : (made_at_boot declared turn first d (home_of d node) (Some own)).came.differences ≡ []
        none_first = ap (λ h. (made_at_boot declared turn first d h (Some own)).came.differences) home_is

        tells_none : outputs.differences ≡ []
        tells_none =
            concluded_tells (record { deployment = d; wire = fresh_wire d node; acting = (made_at_boot declared turn first d (home_of d node) (Some own)).acting; dropped = 0 }) []
            (made_at_boot declared turn first d (home_of d node) (Some own)) (begun_, outputs) is
            ∙ none_first

    -- where no number is left at boot
    pub spends_first : (outputs : Outputs) (peer : ℕ) → booting.boot_node declared turn first d (Some own) node ≡ Err peer → HasNumbers d node (trace.booted made_first outputs) → ⊥
    spends_first outputs peer ends numbers =
        let spent = boot_spends declared turn first d (Some own) node peer within ends in
        let few = subst (λ x. made_to peer (with_all pairs.begun x) ≤ never_used) acts_first (numbers peer) in
        omega (arith, spent, few)
