-- In every world of lawful modules that agree the headline is kept.
use Rattle.std.proofs.Common.{◌≡◌, ℕ, ◌<◌, List, [], length, Option, None, Some, Ok, refl, sym, ap, subst, ◌∙◌}
use Rattle.std.specs.Prelude.{slice_get, is_some, option_map, option_and_then}
use Rattle.std.specs.Option.{option_map_or}
use Rattle.std.proofs.lemmas.Option.{none-some, same_Some, slice_get-map, slice_get_within}
use Rattle.std.proofs.lemmas.List.{length-map}
use Rattle.circus_value.specs.ValueTree.{ValueTree}
use Rattle.circus_value.specs.declared.outcome.Outcome.{Outcome}
use Rattle.circus_collate.specs.declared.deployment.Deployment.{Deployment}
use Rattle.circus_collate.specs.declared.deployment.Host.{Host}
use Rattle.circus_collate.specs.declared.deployment.Troupe.{Troupe}
use Rattle.circus_collate.specs.declared.view.View.{View}
use Rattle.circus_model.specs.Agree.{IsAt}
use Rattle.circus_model.specs.Behaviour.{Behaviour, IsModule, behaviours}
use Rattle.circus_model.specs.NextTurn.{NextTurn}
use Rattle.circus_model.specs.declared.signature.Signature.{Signature}
use Rattle.circus_record.specs.declared.record.MemberRecord.{MemberRecord}
use Rattle.circus_performing.specs.Record.{behaviour}
use Rattle.circus_node.specs.Accepting.{troupe_at}
use Rattle.circus_node.specs.NodeState.{Acting, member, ringmaster, NodeState, member_record}
use Rattle.circus_schedule.specs.declared.line.Line.{Line}
use Rattle.circus_world.specs.WorldState.{WorldState, Standing}
use Rattle.circus_world.specs.Answers.{IsBooted}
use Rattle.circus_world.proofs.LineLemmas.{steps_rise, go_between}
use Rattle.circus_world.proofs.SlotLemmas.{get_there}
use Rattle.circus_world_theory.specs.Histories.{acts_of}
use Rattle.circus_world_theory.specs.Worlds.{IsWorldOf}
use Rattle.circus_world_theory.proofs.Stepping.{CalledAt}
use Rattle.circus_world_theory.proofs.Theorem.{nodes_true, records_stand}
use Rattle.circus_world_theory.proofs.True.{ActsTrue}
use Rattle.circus_world_theory.specs.NodeLives.{Events, IsLife}
use Rattle.circus_node.specs.Trace.{effects_at_boot, booted}
use Rattle.circus_headline_theory.specs.Facts.{NodeFacts, node_facts, ring_facts, facts_of}
use Rattle.circus_headline_theory.specs.NodeRun.{IsNodeRun}
use Rattle.circus_headline_theory.specs.Lived.{trace_behind}
use Rattle.circus_headline_theory.specs.Coming.{events_along, AreOfOthers}
use Rattle.circus_headline_theory.specs.Headline.{HasRun, HasRingRun, IsShown, Headline}
use Rattle.circus_headline_theory.specs.RingRun.{IsRingRun}
use Rattle.circus_headline_theory.proofs.Legality.{are_legal}
use Rattle.circus_headline_theory.proofs.Ring.{rings_at_boot, rings_with, ring_run}
use Rattle.circus_headline_theory.proofs.Worlds.{can, begins, lives, crash_is, trace_of, trace_events, trace_sent, stands, is_here}

module _ {M : Type 0} (declared : M → Signature) (turn : M → List ValueTree → ℕ → List ValueTree → List Outcome → NextTurn) (first : M → List ValueTree) where
  -- each node that lives is a node run
  abbrev pub AreNodeRuns : Type 0
  AreNodeRuns =
      (d : Deployment) (own : M) (node number : ℕ) (troupe : Troupe) (events : Events) (begun last : NodeState M) (kept : MemberRecord)
      → (life : IsLife declared turn first d own node events begun last) → AreOfOthers d node events
      → troupe_at d node ≡ Some number → slice_get d.troupes number ≡ Some troupe → member_record last.acting ≡ Some kept
      → IsNodeRun d (behaviour declared turn first own) node number troupe (trace_behind declared turn first d own node life.outputs events begun) kept

-- what is shown of a node is shown of one that stands there
record ShowsOne {M : Type 0} (w : WorldState M) (node : ℕ) (n : NodeFacts) : Type 0 where
  s : Standing M
  there : slice_get w.nodes node ≡ Some s
  same : node_facts s ≡ n

shows_one : {M : Type 0} (w : WorldState M) (node : ℕ) (n : NodeFacts) → slice_get (facts_of w).nodes node ≡ Some n → ShowsOne w node n
shows_one {M} w node n at = by_option (slice_get w.nodes node) refl (sym (slice_get-map node_facts w.nodes node) ∙ at)
  where
    by_option : (o : Option (Standing M)) → slice_get w.nodes node ≡ o → option_map node_facts o ≡ Some n → ShowsOne w node n
    by_option None there is = absurd (none-some n is)
    by_option (Some s) there is = record { s = s; there = there; same = same_Some _ _ is }

module _ {M : Type 0} (declared : M → Signature) (turn : M → List ValueTree → ℕ → List ValueTree → List Outcome → NextTurn) (first : M → List ValueTree)
    (lawful : (hosted : M) → IsModule (behaviour declared turn first hosted)) (are_runs : AreNodeRuns declared turn first)
    (d : Deployment) (modules : List M) (hosted : List (Option M)) (lines : List Line)
    (begun last : WorldState M) (world : IsWorldOf declared turn first d modules hosted lines begun last) where
  abbrev program : List Behaviour
  program = behaviours declared turn first modules

  -- ---- members

  -- what the node of a troupe hosts does what the module of the troupe does
  record DoesSo (node : ℕ) (b : Behaviour) : Type 0 where
    own : M
    own_is : slice_get hosted node ≡ Some (Some own)
    same : behaviour declared turn first own ≡ b

  does_so : (node number : ℕ) (b : Behaviour) (own : Option M) → troupe_at d node ≡ Some number → IsAt program number b → slice_get hosted node ≡ Some own → DoesSo node b
  does_so node number b own is_at at found = by_own own found (world.hosts.each node own found ∙ module_is)
    where
      module_is : option_map (behaviour declared turn first) (option_and_then (slice_get modules) (troupe_at d node)) ≡ Some b
      module_is =
          ap (λ o. option_map (behaviour declared turn first) (option_and_then (slice_get modules) o)) is_at
          ∙ sym (slice_get-map (behaviour declared turn first) modules number) ∙ at

      by_own : (o : Option M) → slice_get hosted node ≡ Some o → option_map (behaviour declared turn first) o ≡ Some b → DoesSo node b
      by_own None there is = absurd (none-some b is)
      by_own (Some own) there is = record { own = own; own_is = there; same = same_Some _ _ is }

  has_run : (node number : ℕ) (troupe : Troupe) (b : Behaviour) (n : NodeFacts) (kept : MemberRecord) → slice_get (facts_of last).nodes node ≡ Some n → n.member ≡ Some kept
      → troupe_at d node ≡ Some number → slice_get d.troupes number ≡ Some troupe → IsAt program number b → HasRun d b node number troupe lines last.sent kept
  has_run node number troupe b n kept at kept_is is_at there at_program =
      let shown = shows_one last node n at in
      let s = shown.s in
      let within : node < length d.nodes = subst (λ k. node < k) (stands declared turn first lawful d modules hosted lines begun last world).all (slice_get_within last.nodes node s shown.there) in
      let here = is_here declared turn first lawful d modules hosted lines begun last world node within in
      let does = does_so node number b here.own is_at at_program here.own_is in
      let own = does.own in
      let before = here.before in
      let w_begins = begins declared turn first lawful d modules hosted lines begun last world node (Some own) before s does.own_is here.before_is shown.there in
      let w_lives = lives declared turn first lawful d modules hosted lines begun last world node (Some own) before s does.own_is here.before_is shown.there in
      let life : IsLife declared turn first d own node (events_along declared turn node lines begun) before.node s.node = record {
        can = can declared turn first lawful d modules hosted lines begun last world node (Some own) before s does.own_is here.before_is shown.there;
        outputs = w_begins.outputs;
        boots = w_begins.boots;
        rising = w_lives.rising;
        comes = w_lives.comes;
      } in
      let made = effects_at_boot declared turn first d (Some own) node in
      record {
        trace = trace_of declared turn first lawful d modules hosted lines begun last world node (Some own) before s does.own_is here.before_is shown.there made;
        lived = record {
          events_are = trace_events declared turn first lawful d modules hosted lines begun last world node (Some own) before s does.own_is here.before_is shown.there made;
          sent_is = trace_sent declared turn first lawful d modules hosted lines begun last world node (Some own) before s does.own_is here.before_is shown.there made;
        };
        is = subst (λ (x : Behaviour). IsNodeRun d x node number troupe (trace_behind declared turn first d own node w_begins.outputs (events_along declared turn node lines begun) before.node) kept) does.same
            (are_runs d own node number troupe (events_along declared turn node lines begun) before.node s.node kept life w_lives.others is_at there
            (ap (λ (x : NodeFacts). x.member) shown.same ∙ kept_is));
      }

  -- ---- the Ringmaster

  none_there : (own : Option M) → troupe_at d 0 ≡ None → slice_get hosted 0 ≡ Some own → own ≡ None
  none_there own none found =
      by_own own (world.hosts.each 0 own found ∙ ap (λ o. option_map (behaviour declared turn first) (option_and_then (slice_get modules) o)) none)
    where
      by_own : (o : Option M) → option_map (behaviour declared turn first) o ≡ None → o ≡ None
      by_own None is = refl
      by_own (Some own) is = absurd (none-some (behaviour declared turn first own) (sym is))

  has_ring_run : HasRingRun d lines last.sent (facts_of last).views
  has_ring_run =
      let within : 0 < length d.nodes = world.deployment.some_nodes in
      let host = get_there d.nodes 0 within in
      let no_troupe : troupe_at d 0 ≡ None = ap (option_and_then (λ (h : Host). h.module)) host.1 ∙ (world.deployment.nodes 0 host.0 host.1).ringmaster.1 refl in
      let here = is_here declared turn first lawful d modules hosted lines begun last world 0 within in
      let after = here.after in
      let before = here.before in
      let hosts_it : slice_get hosted 0 ≡ Some None = here.own_is ∙ ap (λ (o : Option M). Some o) (none_there here.own no_troupe here.own_is) in
      let w_begins = begins declared turn first lawful d modules hosted lines begun last world 0 None before after hosts_it here.before_is here.after_is in
      let w_lives = lives declared turn first lawful d modules hosted lines begun last world 0 None before after hosts_it here.before_is here.after_is in
      let t = trace_of declared turn first lawful d modules hosted lines begun last world 0 None before after hosts_it here.before_is here.after_is [] in
      let rings = rings_with declared turn d 0 (booted [] w_begins.outputs) (events_along declared turn 0 lines begun) before.node after.node
      (rings_at_boot declared turn d 0 first before.node w_begins.outputs within w_begins.boots) w_lives.others w_lives.comes in
      record {
        trace = t;
        lived = record {
          events_are = trace_events declared turn first lawful d modules hosted lines begun last world 0 None before after hosts_it here.before_is here.after_is [];
          sent_is = trace_sent declared turn first lawful d modules hosted lines begun last world 0 None before after hosts_it here.before_is here.after_is [];
        };
        is = subst (λ (views : List View). IsRingRun d 0 t views) (sym (ap (λ (o : Option (Standing M)). option_map_or ring_facts o []) here.after_is))
            (ring_run declared turn d 0 t after.node rings);
      }

  -- ---- each node

  same_host : (node : ℕ) (o : Option ℕ) (a : Acting M) → ActsTrue declared turn first program d (CalledAt d (acts_of declared turn first d hosted lines begun) node) o a
      → is_some (member_record a) ≡ is_some o
  same_host node (Some troupe) (member m) so = refl
  same_host node (Some troupe) (ringmaster kept) so = absurd so
  same_host node None (member m) so = absurd so
  same_host node None (ringmaster kept) so = refl

  is_shown : (node : ℕ) → node < length d.nodes → IsShown d lines (facts_of last) node
  is_shown node within =
      let here = is_here declared turn first lawful d modules hosted lines begun last world node within in
      record {
        shown = node_facts here.after;
        there = slice_get-map node_facts last.nodes node ∙ ap (option_map node_facts) here.after_is;
        crashed_is = crash_is declared turn first lawful d modules hosted lines begun last world node here.own here.before here.after here.own_is here.before_is here.after_is;
        hosts = same_host node (troupe_at d node) here.after.node.acting
            ((nodes_true declared turn first lawful d modules hosted lines begun last world).nodes node here.after here.after_is);
      }

  has_booted : IsBooted declared turn first d modules (Ok begun)
  has_booted = (hosted, world.hosts, world.boots)

  -- ---- all of it

  pub keeps_headline : Headline d program lines (facts_of last)
  keeps_headline = record {
    legal = are_legal declared turn first lawful d modules hosted begun lines last world;
    modules = length-map modules (behaviour declared turn first) ∙ sym (length-map modules declared) ∙ world.troupes.one_each;
    all = length-map last.nodes node_facts ∙ (stands declared turn first lawful d modules hosted lines begun last world).all;
    nodes = is_shown;
    between = go_between declared turn first d modules lines begun last world.deployment world.troupes has_booted world.leads;
    in_order = (steps_rise declared turn first d modules lines begun last has_booted world.leads).order;
    runs = has_run;
    stand = λ node troupe n b kept at kept_is is_at at_program active.
        let shown = shows_one last node n at in
        records_stand declared turn first lawful d modules hosted lines begun last world node troupe shown.s kept b shown.there
        (ap (λ (x : NodeFacts). x.member) shown.same ∙ kept_is) is_at at_program active;
    views = has_ring_run;
  }
