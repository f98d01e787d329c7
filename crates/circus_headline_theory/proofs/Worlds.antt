-- Each node of a world lives by itself through what comes to it, and sends what it gives.
use Rattle.std.proofs.Common.{◌≡◌, Bool, true, false, ℕ, ◌<◌, List, [], length, Option, None, Some, refl, sym, ap, subst, ◌∙◌, arith}
use Rattle.std.specs.Prelude.{◌||◌, slice_get, option_map}
use Rattle.std.proofs.lemmas.Option.{slice_get_within}
use Rattle.circus_value.specs.ValueTree.{ValueTree}
use Rattle.circus_value.specs.declared.outcome.Outcome.{Outcome}
use Rattle.circus_collate.specs.declared.deployment.Deployment.{Deployment}
use Rattle.circus_model.specs.Behaviour.{IsModule}
use Rattle.circus_model.specs.NextTurn.{NextTurn}
use Rattle.circus_model.specs.declared.signature.Signature.{Signature}
use Rattle.circus_performing.specs.Record.{behaviour}
use Rattle.circus_member_rules.specs.declared.occurrence.Effect.{Effect}
use Rattle.circus_node.specs.Booting.{CanBoot}
use Rattle.circus_node.specs.NodeState.{NodeState}
use Rattle.circus_node.specs.declared.event.Outputs.{Outputs}
use Rattle.circus_node.proofs.TroupeLemmas.{hosted_can_boot}
use Rattle.circus_schedule.specs.declared.line.Line.{Line}
use Rattle.circus_world.specs.WorldState.{WorldState, Standing}
use Rattle.circus_world_theory.specs.Histories.{acts_of}
use Rattle.circus_world.proofs.SlotLemmas.{get_there}
use Rattle.circus_world_theory.proofs.Boots.{world_stands}
use Rattle.circus_world_theory.proofs.Worlds.{Stands}
use Rattle.circus_world_theory.specs.Worlds.{IsWorldOf}
use Rattle.circus_world_theory.proofs.Stepping.{same_ended}
use Rattle.circus_world_theory.specs.NodeLives.{Events}
use Rattle.circus_headline_theory.specs.Trace.{events_of}
use Rattle.circus_node.specs.Trace.{Trace, booted}
use Rattle.circus_headline_theory.specs.Lived.{with_events}
use Rattle.circus_headline_theory.specs.Coming.{events_along, AreOfOthers, Lives, NodesLive, NodesSendWhatTheyGive, NodesGetWhatLinesGive}
use Rattle.circus_headline_theory.specs.Events.{events_behind, events_for, crash_behind, crash_in, joins_in}
use Rattle.circus_headline_theory.specs.Sendings.{SentWhatWasGiven}
use Rattle.circus_headline_theory.proofs.Along.{as_given, events_with, LivesBy, earlier, GoesAlong, goes_along}
use Rattle.circus_headline_theory.proofs.Boots.{IsBegun, has_begun}
use Rattle.circus_headline_theory.proofs.Octets.{all_octets}

or_false : (b : Bool) → (b || false) ≡ b
or_false true = refl
or_false false = refl

module _ {M : Type 0} (declared : M → Signature) (turn : M → List ValueTree → ℕ → List ValueTree → List Outcome → NextTurn) (first : M → List ValueTree)
    (lawful : (hosted : M) → IsModule (behaviour declared turn first hosted)) (d : Deployment) (modules : List M) (hosted : List (Option M)) (lines : List Line)
    (begun last : WorldState M) (world : IsWorldOf declared turn first d modules hosted lines begun last) where
  -- a node with what it hosts, as it booted and as it is in the last world
  module _ (node : ℕ) (own : Option M) (before after : Standing M) (hosts_it : slice_get hosted node ≡ Some own) (at : slice_get begun.nodes node ≡ Some before)
      (at_last : slice_get last.nodes node ≡ Some after) where
    pub can : CanBoot d node (option_map declared own)
    can = hosted_can_boot declared turn first d modules node own world.deployment world.troupes
        (subst (λ n. node < n) world.hosts.one_each (slice_get_within hosted node own hosts_it)) (world.hosts.each node own hosts_it)

    pub begins : IsBegun declared turn first d hosted node own begun before
    begins = has_begun declared turn first d hosted node modules own begun before world.boots hosts_it at

    goes : GoesAlong declared turn d node lines begun last before after
    goes =
        goes_along declared turn d node (acts_of declared turn first d hosted [] begun) lines begun last before after
        (world_stands declared turn first d hosted modules [] begun begun world.deployment world.troupes world.hosts world.boots refl)
        (all_octets declared turn first lawful d modules hosted lines begun last world) at at_last world.leads

    abbrev events : Events
    events = events_along declared turn node lines begun

    pub lives : LivesBy declared turn d node 0 events before.node after.node
    lives = earlier declared turn d node 0 begun.steps events before.node after.node (omega arith) goes.lives

    -- what the lines give to the node came to it
    pub events_are : events ≡ events_for node last.sent lines
    events_are = goes.live begins.live ∙ ap (λ k. events_behind node last.sent k lines) begins.steps

    -- and it crashed as they say
    pub crash_is : after.crashed ≡ crash_in node lines
    crash_is = goes.crashes begins.live ∙ ap (λ k. crash_behind node k lines) begins.steps

    pub joins_are : after.joins ≡ joins_in node lines
    joins_are = goes.joins ∙ ap (λ b. joins_in node lines || b) begins.no_join ∙ or_false (joins_in node lines)

    -- its trace, which made this at boot
    abbrev pub trace_of : List Effect → Trace
    trace_of made = with_events declared turn (booted made begins.outputs) events before.node

    pub trace_events : (made : List Effect) → events_of (trace_of made) ≡ events_for node last.sent lines
    trace_events made = events_with declared turn (booted made begins.outputs) events before.node after.node lives.comes ∙ events_are

    pub trace_sent : (made : List Effect) → SentWhatWasGiven node last.sent (trace_of made)
    trace_sent made = goes.sends (booted made begins.outputs) (begins.sent_is ∙ sym (as_given 0 node begins.outputs.gives))

  -- ---- each node

  pub stands_at_boot : Stands d (acts_of declared turn first d hosted [] begun) begun
  stands_at_boot = world_stands declared turn first d hosted modules [] begun begun world.deployment world.troupes world.hosts world.boots refl

  pub stands : Stands d (acts_of declared turn first d hosted lines begun) last
  stands = world_stands declared turn first d hosted modules lines begun last world.deployment world.troupes world.hosts world.boots world.leads

  -- each is there, with what it hosts
  pub record IsHere (node : ℕ) : Type 0 where
    pub own : Option M
    pub own_is : slice_get hosted node ≡ Some own
    pub before : Standing M
    pub before_is : slice_get begun.nodes node ≡ Some before
    pub after : Standing M
    pub after_is : slice_get last.nodes node ≡ Some after

  pub is_here : (node : ℕ) → node < length d.nodes → IsHere node
  is_here node within =
      let h = get_there hosted node (subst (λ k. node < k) (sym world.hosts.one_each) within) in
      let s = get_there begun.nodes node (subst (λ k. node < k) (sym stands_at_boot.all) within) in
      let t = get_there last.nodes node (subst (λ k. node < k) (sym stands.all) within) in
      record { own = h.0; own_is = h.1; before = s.0; before_is = s.1; after = t.0; after_is = t.1 }

  pub nodes_get_what_lines_give : NodesGetWhatLinesGive declared turn d lines begun last
  nodes_get_what_lines_give = λ node within. let h = is_here node within in events_are node h.own h.before h.after h.own_is h.before_is h.after_is

  pub nodes_send_what_they_give : NodesSendWhatTheyGive declared turn first d hosted lines begun last
  nodes_send_what_they_give = λ node own before after made outputs hosts_it at at_last boots.
      let b = begins node own before after hosts_it at at_last in
      let same : (before.node, b.outputs) ≡ (before.node, outputs) = same_ended (before.node, b.outputs) (before.node, outputs) (sym b.boots ∙ boots) in
      subst (λ (e : NodeState M × Outputs). SentWhatWasGiven node last.sent (with_events declared turn (booted made e.1) (events_along declared turn node lines begun) before.node)) same
      (trace_sent node own before after hosts_it at at_last made)

  pub nodes_live : NodesLive declared turn first d hosted lines begun last
  nodes_live = λ node own before after hosts_it at at_last. by_own node own before after hosts_it at at_last
    where
      by_own : (node : ℕ) (own : Option M) (before after : Standing M) → slice_get hosted node ≡ Some own → slice_get begun.nodes node ≡ Some before
          → slice_get last.nodes node ≡ Some after
          → Lives declared turn first d node own (events_along declared turn node lines begun) before.node after.node
          × AreOfOthers d node (events_along declared turn node lines begun)
      by_own node (Some own) before after hosts_it at at_last =
          let b = begins node (Some own) before after hosts_it at at_last in
          let l = lives node (Some own) before after hosts_it at at_last in
          (record { can = can node (Some own) before after hosts_it at at_last; outputs = b.outputs; boots = b.boots; rising = l.rising; comes = l.comes }, l.others)
      by_own node None before after hosts_it at at_last =
          let b = begins node None before after hosts_it at at_last in
          let l = lives node None before after hosts_it at at_last in
          (record { can = can node None before after hosts_it at at_last; outputs = b.outputs; boots = b.boots; rising = l.rising; comes = l.comes }, l.others)
