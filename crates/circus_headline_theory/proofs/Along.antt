-- A node of a world goes along lines: what comes to it, what it sends, and what the lines give to it.
use Rattle.std.proofs.Common.{◌≡◌, ℕ, ◌+◌, ◌≤◌, inl, inr, Bool, true, false, List, [], ◌∷◌, ◌++◌, length, map, All, None, Some, refl, sym, ap, subst, ◌∙◌, arith, ltb-true, append_assoc, append-nil}
use Rattle.std.specs.Prelude.{◌||◌, slice_get, is_some, nat_lt, option_and_then, if◌then◌else◌}
use Rattle.std.proofs.lemmas.List.{map-append}
use Rattle.std.proofs.lemmas.List.Elements.{All-nil, All-cons, All-head, All-tail}
use Rattle.std.proofs.lemmas.Option.{same_Some}
use Rattle.circus_value.specs.Parts.{AreOctets}
use Rattle.circus_value.specs.ValueTree.{ValueTree}
use Rattle.circus_value.specs.declared.outcome.Outcome.{Outcome}
use Rattle.circus_collate.specs.declared.deployment.Deployment.{Deployment}
use Rattle.circus_model.specs.NextTurn.{NextTurn}
use Rattle.circus_model.specs.declared.signature.Signature.{Signature}
use Rattle.circus_wire.specs.WireActs.{WireActs}
use Rattle.circus_member_rules.specs.declared.occurrence.Purpose.{Purpose}
use Rattle.circus_node.specs.NodeState.{NodeState}
use Rattle.circus_node.specs.Step as node_step
use Rattle.circus_node.specs.declared.event.Event.{Event}
use Rattle.circus_node.specs.declared.event.Give.{Give}
use Rattle.circus_node.specs.declared.event.Outputs.{Outputs}
use Rattle.circus_schedule.specs.declared.line.Line.{Line}
use Rattle.circus_schedule.specs.declared.line.Line.TheVariants.{Deliver, Tick, Crash, Down, Join}
use Rattle.circus_world.specs.Course.{sent_by}
use Rattle.circus_world.specs.Lines.{Leads, Lead}
use Rattle.circus_world.specs.WorldState.{WorldState, Standing}
use Rattle.circus_world.specs.Sent.{Sent}
use Rattle.circus_world.proofs.LineLemmas.{sent_stays}
use Rattle.circus_world.proofs.SlotLemmas.{get_there}
use Rattle.circus_world_theory.specs.Histories as talks
use Rattle.circus_node.specs.Trace.{effects_in, Trace}
use Rattle.circus_world_theory.proofs.Worlds.{Stands}
use Rattle.circus_world_theory.proofs.Along.{below_sent, line_talks}
use Rattle.circus_world_theory.specs.NodeLives.{Events, Rising, Comes}
use Rattle.circus_headline_theory.specs.Owed.Makes.{then_along}
use Rattle.circus_headline_theory.specs.Datagrams.Lives.{IsOfOther}
use Rattle.circus_node.specs.Trace as trace
use Rattle.circus_headline_theory.specs.Trace.{events_of}
use Rattle.circus_headline_theory.specs.Lived.{then_on, with_events}
use Rattle.circus_headline_theory.specs.Coming.{events_along, AreOfOthers}
use Rattle.circus_headline_theory.specs.Events.{event_of_sent, event_for, is_crash_of, is_join_of, in_step, events_behind, crash_behind, joins_in}
use Rattle.circus_headline_theory.specs.Sendings.{given_in, given_of, as_sent, SentWhatWasGiven}
use Rattle.circus_headline_theory.proofs.Boots.{get_first}
use Rattle.circus_headline_theory.proofs.Walks.{IsStill, HasMoved, Walks, line_walks}

-- ---- lists

all_first : {X : Type 0} (P : X → Type 0) (xs ys : List X) → All P (xs ++ ys) → All P xs
all_first P [] ys all = All-nil P
all_first P (x ∷ xs) ys all = All-cons P x xs (All-head P x (xs ++ ys) all) (all_first P xs ys (All-tail P x (xs ++ ys) all))

pub as_given : (at node : ℕ) (gives : List Give) → map (as_sent node) (given_in at gives) ≡ map (sent_by at node) gives
as_given at node [] = refl
as_given at node (give ∷ gives) = ap (λ l. sent_by at node give ∷ l) (as_given at node gives)

either_way : (one others before : Bool) → (others || (one || before)) ≡ ((one || others) || before)
either_way true true before = refl
either_way true false before = refl
either_way false others before = refl

rising_from : (low high : ℕ) (events : Events) → low ≤ high → Rising high events → Rising low events
rising_from low high [] le rising = tt
rising_from low high (next ∷ events) le rising = (let first = rising.0 in omega (arith, le, first), rising.1)

module _ {M : Type 0} (declared : M → Signature) (turn : M → List ValueTree → ℕ → List ValueTree → List Outcome → NextTurn) where
  -- a trace that goes on has the events that came
  pub events_with : (t : Trace) (events : Events) (n last : NodeState M) → Comes declared turn events n last → events_of (with_events declared turn t events n) ≡ events_of t ++ events
  events_with t [] n last come = sym (append-nil (events_of t))
  events_with t (next ∷ events) n last come =
      let grown = trace.stepped t next.0 next.1 (effects_in declared turn next.0 next.1 n) in
      ap (λ (e : node_step.Ended M). events_of (then_on (λ g a. with_events declared turn g events a) t grown e)) come.2
      ∙ events_with (grown come.0.1) events come.0.0 last come.3
      ∙ append_assoc (events_of t) (next ∷ []) events

  module _ (d : Deployment) (node : ℕ) where
    abbrev along : List Line → WorldState M → Events
    along lines w = events_along declared turn node lines w

    -- events come to a node and lead to this
    pub record LivesBy (steps : ℕ) (events : Events) (n last : NodeState M) : Type 0 where
      pub rising : Rising steps events
      pub comes : Comes declared turn events n last
      pub others : AreOfOthers d node events

    pub earlier : (low high : ℕ) (events : Events) (n last : NodeState M) → low ≤ high → LivesBy high events n last → LivesBy low events n last
    earlier low high events n last le l = record { rising = rising_from low high events le l.rising; comes = l.comes; others = l.others }

    -- what the lines that are left are to the node
    pub record GoesAlong (lines : List Line) (w last : WorldState M) (s t : Standing M) : Type 0 where
      pub lives : LivesBy w.steps (along lines w) s.node t.node
      pub sends : (x : Trace) → SentWhatWasGiven node w.sent x → SentWhatWasGiven node last.sent (with_events declared turn x (along lines w) s.node)
      pub live : s.crashed ≡ None → along lines w ≡ events_behind node last.sent w.steps lines
      pub gone : is_some s.crashed ≡ true → along lines w ≡ []
      -- it crashes where the lines say so
      pub crashes : s.crashed ≡ None → t.crashed ≡ crash_behind node w.steps lines
      pub stays : is_some s.crashed ≡ true → t.crashed ≡ s.crashed
      -- and is told to join where they say so
      pub joins : t.joins ≡ (joins_in node lines || s.joins)

    -- what a line gives depends on no later datagram
    event_later : (line : Line) (w next : WorldState M) → Leads declared turn line w next → (sent more : List Sent) → sent ≡ w.sent ++ more
        → event_for node sent line ≡ event_for node w.sent line
    event_later (Deliver place) w next leads sent more is =
        let found = get_there w.sent place (ltb-true place (length w.sent) (below_sent (nat_lt place (length w.sent)) place (length w.sent) leads.legal)) in
        ap (option_and_then (event_of_sent node)) (ap (λ (l : List Sent). slice_get l place) is ∙ get_first w.sent more place found.0 found.1 ∙ sym found.1)
    event_later (Tick other) w next leads sent more is = refl
    event_later (Crash other) w next leads sent more is = refl
    event_later (Down other told) w next leads sent more is = refl
    event_later (Join other) w next leads sent more is = refl

    module _ (line : Line) (lines : List Line) (w next last : WorldState M) (s t : Standing M) (leads : Leads declared turn line w next)
        (event_same : event_for node last.sent line ≡ event_for node w.sent line) where
      abbrev behind : Events
      behind = events_behind node last.sent (w.steps + 1) lines

      still_along : (still : IsStill declared turn d node line w next s) → GoesAlong lines next last still.after t → GoesAlong (line ∷ lines) w last s t
      still_along still r =
          record {
            lives = subst (λ es. LivesBy w.steps es s.node t.node) (sym same)
                (subst (λ n. LivesBy w.steps (along lines next) n t.node) still.node_is
                (earlier w.steps next.steps (along lines next) still.after.node t.node (let one = still.steps_is in omega (arith, one)) r.lives));
            sends = λ x is.
                subst (λ es. SentWhatWasGiven node last.sent (with_events declared turn x es s.node)) (sym same)
                (subst (λ n. SentWhatWasGiven node last.sent (with_events declared turn x (along lines next) n)) still.node_is (r.sends x (still.sent_is ∙ is)));
            live = λ alive. same ∙ by_crash (is_crash_of node line) refl alive;
            gone = λ dead. same ∙ r.gone (ap is_some (still.stays dead) ∙ dead);
            crashes = λ alive. crash_by (is_crash_of node line) refl alive;
            stays = λ dead. r.stays (ap is_some (still.stays dead) ∙ dead) ∙ still.stays dead;
            joins = r.joins ∙ ap (λ b. joins_in node lines || b) still.joins ∙ either_way (is_join_of node line) (joins_in node lines) s.joins;
          }
        where
          same : along (line ∷ lines) w ≡ along lines next
          same = (λ i. then_along (still.none i) (along lines) (leads.stepped_is i))

          by_crash : (b : Bool) → is_crash_of node line ≡ b → s.crashed ≡ None
              → along lines next ≡ (if b then [] else in_step (w.steps + 1) (event_for node last.sent line) ++ behind)
          by_crash true crash alive = r.gone (ap is_some (still.crashes crash))
          by_crash false calm alive =
              let l = still.lives alive calm in
              r.live l.0 ∙ ap (λ k. events_behind node last.sent k lines) still.steps_is
              ∙ sym (ap (λ o. in_step (w.steps + 1) o ++ behind) (event_same ∙ l.1))

          crash_by : (b : Bool) → is_crash_of node line ≡ b → s.crashed ≡ None → t.crashed ≡ (if b then Some (w.steps + 1) else crash_behind node (w.steps + 1) lines)
          crash_by true crash alive = r.stays (ap is_some (still.crashes crash)) ∙ still.crashes crash
          crash_by false calm alive = r.crashes (still.lives alive calm).0 ∙ ap (λ k. crash_behind node k lines) still.steps_is

      moved_along : (moved : HasMoved declared turn d node line w next s) → GoesAlong lines next last moved.after t → GoesAlong (line ∷ lines) w last s t
      moved_along moved r =
          record {
            lives = subst (λ es. LivesBy w.steps es s.node t.node) (sym same)
                (record {
                  rising = (omega arith, subst (λ k. Rising k (along lines next)) moved.steps_is r.lives.rising);
                  comes = (moved.ended, moved.octets, moved.ends, subst (λ n. Comes declared turn (along lines next) n t.node) moved.node_is r.lives.comes);
                  others = All-cons (λ (e : ℕ × Event). IsOfOther d node e.1) (w.steps + 1, moved.event) (along lines next) moved.far r.lives.others;
                });
            sends = λ x is.
                subst (λ es. SentWhatWasGiven node last.sent (with_events declared turn x es s.node)) (sym same)
                (subst (λ (e : node_step.Ended M). SentWhatWasGiven node last.sent (then_on (λ g a. with_events declared turn g (along lines next) a) x (grown x) e)) (sym moved.ends)
                (subst (λ n. SentWhatWasGiven node last.sent (with_events declared turn (grown x moved.ended.1) (along lines next) n)) moved.node_is
                (r.sends (grown x moved.ended.1) (sent_now x is))));
            live = λ alive.
                same ∙ ap (λ es. (w.steps + 1, moved.event) ∷ es) (r.live moved.lives ∙ ap (λ k. events_behind node last.sent k lines) moved.steps_is)
                ∙ sym (ap (λ b. if b then [] else in_step (w.steps + 1) (event_for node last.sent line) ++ behind) moved.no_crash
                ∙ ap (λ o. in_step (w.steps + 1) o ++ behind) (event_same ∙ moved.event_is));
            gone = λ dead. absurd (let clash : false ≡ true = sym (ap is_some moved.live) ∙ dead in cc);
            crashes = λ alive.
                r.crashes moved.lives ∙ ap (λ k. crash_behind node k lines) moved.steps_is
                ∙ sym (ap (λ b. if b then Some (w.steps + 1) else crash_behind node (w.steps + 1) lines) moved.no_crash);
            stays = λ dead. absurd (let clash : false ≡ true = sym (ap is_some moved.live) ∙ dead in cc);
            joins = r.joins ∙ ap (λ b. joins_in node lines || b) moved.joins ∙ either_way (is_join_of node line) (joins_in node lines) s.joins;
          }
        where
          same : along (line ∷ lines) w ≡ (w.steps + 1, moved.event) ∷ along lines next
          same = (λ i. then_along (moved.one i) (along lines) (leads.stepped_is i))

          grown : Trace → Outputs → Trace
          grown x = trace.stepped x (w.steps + 1) moved.event (effects_in declared turn (w.steps + 1) moved.event s.node)

          sent_now : (x : Trace) → SentWhatWasGiven node w.sent x → SentWhatWasGiven node next.sent (grown x moved.ended.1)
          sent_now x is =
              moved.sent_is
              ∙ ap (λ l. l ++ map (sent_by (w.steps + 1) node) moved.ended.1.gives) is
              ∙ ap (λ l. map (as_sent node) (given_of x) ++ l) (sym (as_given (w.steps + 1) node moved.ended.1.gives))
              ∙ sym (map-append (as_sent node) (given_of x) (given_in (w.steps + 1) moved.ended.1.gives))

    pub goes_along : (acts : ℕ → WireActs Purpose) (lines : List Line) (w last : WorldState M) (s t : Standing M) → Stands d acts w
        → All (λ (x : Sent). AreOctets x.bytes) last.sent → slice_get w.nodes node ≡ Some s → slice_get last.nodes node ≡ Some t → Lead declared turn lines w last
        → GoesAlong lines w last s t
    goes_along acts [] w last s t stands octets at at_last lead =
        let same : t ≡ s = same_Some _ _ (sym at_last ∙ ap (λ (v : WorldState M). slice_get v.nodes node) lead ∙ at) in
        record {
          lives = record { rising = tt; comes = ap (λ (x : Standing M). x.node) same; others = All-nil (λ (e : ℕ × Event). IsOfOther d node e.1) };
          sends = λ x is. subst (λ (v : WorldState M). SentWhatWasGiven node v.sent x) (sym lead) is;
          live = λ alive. refl;
          gone = λ dead. refl;
          crashes = λ alive. ap (λ (x : Standing M). x.crashed) same ∙ alive;
          stays = λ dead. ap (λ (x : Standing M). x.crashed) same;
          joins = ap (λ (x : Standing M). x.joins) same;
        }
    goes_along acts (line ∷ lines) w last s t stands octets at at_last lead =
        by_walk
        (λ u there. goes_along (λ x. talks.with_line declared turn x (acts x) line w) lines next last u t (line_talks declared turn d acts line w next stands leads) octets there at_last lead.2)
        (line_walks declared turn d node acts w next stands octets_now s at line leads)
      where
        next : WorldState M
        next = lead.0

        leads : Leads declared turn line w next
        leads = lead.1

        more : (more : List Sent) × (last.sent ≡ w.sent ++ more)
        more = sent_stays declared turn (line ∷ lines) w last lead

        octets_now : All (λ (x : Sent). AreOctets x.bytes) w.sent
        octets_now = all_first (λ (x : Sent). AreOctets x.bytes) w.sent more.0 (subst (All (λ (x : Sent). AreOctets x.bytes)) more.1 octets)

        event_same : event_for node last.sent line ≡ event_for node w.sent line
        event_same = event_later line w next leads last.sent more.0 more.1

        by_walk : ((u : Standing M) → slice_get next.nodes node ≡ Some u → GoesAlong lines next last u t) → Walks declared turn d node line w next s → GoesAlong (line ∷ lines) w last s t
        by_walk rest (inl still) = still_along line lines w next last s t leads event_same still (rest still.after still.there)
        by_walk rest (inr moved) = moved_along line lines w next last s t leads event_same moved (rest moved.after moved.there)
