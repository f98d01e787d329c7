-- What is true of a world that has booted, and so of each that lines lead to.
use Rattle.std.proofs.Common.{◌≡◌, ◌≢◌, ℕ, suc, ◌+◌, ◌<◌, ◌⊎◌, inl, inr, false, List, [], ◌∷◌, ◌++◌, length, map, All, Option, None, Some, Ok, Err, refl, sym, ap, subst, ◌∙◌, arith, add-zero, zero-add}
use Rattle.std.specs.Prelude.{slice_get, option_and_then}
use Rattle.std.proofs.lemmas.List.{length-append}
use Rattle.std.proofs.lemmas.List.Elements.{All-nil, All-append, All-map}
use Rattle.std.proofs.lemmas.Option.{none-some}
use Rattle.circus_value.specs.ValueTree.{ValueTree}
use Rattle.circus_value.specs.declared.outcome.Outcome.{Outcome}
use Rattle.circus_collate.specs.Deployment.{IsDeployment}
use Rattle.circus_collate.specs.declared.deployment.Deployment.{Deployment}
use Rattle.circus_model.specs.NextTurn.{NextTurn}
use Rattle.circus_model.specs.declared.signature.Signature.{Signature}
use Rattle.circus_exchange.specs.Exchange.{start}
use Rattle.circus_pair.specs.Acts.{none_yet}
use Rattle.circus_pair.specs.Lawful.{AreLawful}
use Rattle.circus_pair.specs.TwoEnds.{sent_by}
use Rattle.circus_wire.specs.WireActs.{WireAct, WireActs, begun}
use Rattle.circus_wire.specs.WireStanding.{WireStands}
use Rattle.circus_member_rules.specs.declared.occurrence.Purpose.{Purpose}
use Rattle.circus_member_rules.specs.declared.occurrence.Effect.{Effect}
use Rattle.circus_node.specs.declared.event.Outputs.{Outputs}
use Rattle.circus_node.specs.Booting.{AreOfTroupes, boot_node, fresh_wire, home_of, made_at_boot}
use Rattle.circus_node.specs.NodeState.{NodeState}
use Rattle.circus_node.specs.Step as node_step
use Rattle.circus_schedule.specs.declared.line.Line.{Line}
use Rattle.circus_world.specs.WorldState.{WorldState, Standing}
use Rattle.circus_world.specs.Course as course
use Rattle.circus_world.specs.Course.{Stepped}
use Rattle.circus_world.specs.Boot.{before_any, joined_by, then_others, all_booted, AreHosted}
use Rattle.circus_world.specs.Lines.{Lead}
use Rattle.circus_world.proofs.SlotLemmas.{get_push, get_there}
use Rattle.circus_world.proofs.SoundLemmas.{booted_sound}
use Rattle.circus_world_theory.specs.Histories.{beginning_of, acts_of}
use Rattle.circus_world_theory.specs.NodeActs.{with_all, acts_at_boot}
use Rattle.circus_world_theory.proofs.Given.{HaveGiven, Gives, given_carries}
use Rattle.circus_world_theory.proofs.Lines.{lead_stands}
use Rattle.circus_world_theory.proofs.Steps.{boot_gives}
use Rattle.circus_world_theory.proofs.Talks.{Talks, talks_back, none_said, acts_on, all_handed_sent}
use Rattle.circus_world_theory.proofs.Worlds.{Stands, IsGiven, at_pair, lawful_at}

module _ {M : Type 0} (declared : M → Signature) (turn : M → List ValueTree → ℕ → List ValueTree → List Outcome → NextTurn) (first : M → List ValueTree) (d : Deployment) (hosted : List (Option M)) where
  -- what happens at the pairs of a node at boot
  abbrev own_of : ℕ → Option M
  own_of node = option_and_then (λ own. own) (slice_get hosted node)

  abbrev boot_acts : ℕ → List (WireAct Purpose)
  boot_acts node = acts_at_boot declared turn first d (own_of node) node

  abbrev at_boot : ℕ → WireActs Purpose
  at_boot node = with_all begun (boot_acts node)

  -- the nodes that have booted so far, and what they sent
  record SoFar (w : WorldState M) : Type 0 where
    deployment : w.deployment ≡ d
    stands : (node : ℕ) (s : Standing M) → slice_get w.nodes node ≡ Some s → WireStands s.node.wire (beginning_of d node) (at_boot node)
    sent : All (IsGiven d at_boot) w.sent

  one_more : (w : WorldState M) (own : Option M) (ended : NodeState M × Outputs) → SoFar w → length w.nodes < length d.nodes → slice_get hosted (length w.nodes) ≡ Some own
      → boot_node declared turn first w.deployment own (length w.nodes) ≡ Ok ended
      → SoFar (record w {
        nodes = w.nodes ++ record { node = ended.0; crashed = None; joins = false } ∷ [];
        sent = w.sent ++ map (course.sent_by 0 (length w.nodes)) ended.1.gives;
      })
  one_more w own ended so_far within at ends =
      record {
        deployment = so_far.deployment;
        stands = λ node s found. by_place node s (get_push w.nodes node (record { node = ended.0; crashed = None; joins = false }) s found);
        sent = All-append (IsGiven d at_boot) w.sent (map (course.sent_by 0 (length w.nodes)) ended.1.gives) so_far.sent
            (All-map (IsGiven d at_boot) (course.sent_by 0 (length w.nodes)) ended.1.gives gives.given);
      }
    where
      gives : Gives (beginning_of d (length w.nodes)) (at_boot (length w.nodes)) ended
      gives =
          subst (λ (o : Option (Option M)). Gives (beginning_of d (length w.nodes)) (with_all begun (acts_at_boot declared turn first d (option_and_then (λ (x : Option M). x) o) (length w.nodes))) ended) (sym at)
          (boot_gives declared turn first d own (length w.nodes) (HaveGiven (beginning_of d (length w.nodes))) ended within (given_carries (beginning_of d (length w.nodes))) (ap (λ x. boot_node declared turn first x own (length w.nodes)) (sym so_far.deployment) ∙ ends))

      by_place : (node : ℕ) (s : Standing M) → ((node ≡ length w.nodes) × (s ≡ record { node = ended.0; crashed = None; joins = false })) ⊎ (slice_get w.nodes node ≡ Some s)
          → WireStands s.node.wire (beginning_of d node) (at_boot node)
      by_place node s (inl here) =
          subst (λ k. WireStands s.node.wire (beginning_of d k) (at_boot k)) (sym here.0)
          (subst (λ (v : Standing M). WireStands v.node.wire (beginning_of d (length w.nodes)) (at_boot (length w.nodes))) (sym here.1) gives.stands)
      by_place node s (inr there) = so_far.stands node s there

  -- where those that are left boot, so do they
  abbrev LeaveSoFar : List (Option M) → Type 0
  LeaveSoFar others = (w last : WorldState M) → SoFar w → length w.nodes + length others ≡ length d.nodes
      → ((place : ℕ) (own : Option M) → slice_get others place ≡ Some own → slice_get hosted (length w.nodes + place) ≡ Some own)
      → all_booted declared turn first others w ≡ Ok last → SoFar last

  next_so_far : (own : Option M) (others : List (Option M)) → LeaveSoFar others → LeaveSoFar (own ∷ others)
  next_so_far own others leave w last so_far all hosts is = by_end (boot_node declared turn first w.deployment own (length w.nodes)) refl is
    where
      by_end : (e : node_step.Ended M) → boot_node declared turn first w.deployment own (length w.nodes) ≡ e
          → then_others (all_booted declared turn first others) (joined_by w e) ≡ Ok last → SoFar last
      by_end (Err peer) ends is = absurd (let clash : ◌≡◌ {A = Stepped M} (Err (length w.nodes, peer)) (Ok last) = is in cc)
      by_end (Ok ended) ends is =
          let s : Standing M = record { node = ended.0; crashed = None; joins = false } in
          let longer : length (w.nodes ++ s ∷ []) ≡ length w.nodes + 1 = length-append w.nodes (s ∷ []) in
          leave _ last
          (one_more w own ended so_far (omega (arith, all)) (ap (slice_get hosted) (sym (add-zero (length w.nodes))) ∙ hosts 0 own refl) ends)
          (omega (arith, longer, all))
          (λ place other found.
          let same : length (w.nodes ++ s ∷ []) + place ≡ length w.nodes + suc place = omega (arith, longer) in
          ap (slice_get hosted) same ∙ hosts (suc place) other found)
          is

  all_so_far : (others : List (Option M)) → LeaveSoFar others
  all_so_far [] = λ w last so_far all hosts is. let same : w ≡ last = cc in subst (λ (v : WorldState M). SoFar v) same so_far
  all_so_far (own ∷ others) = next_so_far own others (all_so_far others)

  -- ---- each two nodes talk

  boot_lawful : (w : WorldState M) → SoFar w → length w.nodes ≡ length d.nodes → (node other : ℕ) → node < length d.nodes → other < length d.nodes → node ≢ other
      → AreLawful 0 d.format (at_pair d at_boot node other)
  boot_lawful w so_far all node other node_below other_below differ =
      let s = get_there w.nodes node (subst (λ k. node < k) (sym all) node_below) in
      lawful_at d node other s.0.node.wire (at_boot node) (so_far.stands node s.0 s.1) other_below (λ same. differ (sym same))

  boot_talks : (w : WorldState M) → SoFar w → length w.nodes ≡ length d.nodes → (node other : ℕ) → node < length d.nodes → other < length d.nodes → node ≢ other
      → Talks d.format (at_pair d at_boot node other) (at_pair d at_boot other node)
  boot_talks w so_far all node other node_below other_below differ =
      let e = start 0 d.format in
      let effects : ℕ → List Effect = λ x. (made_at_boot declared turn first d (home_of d x) (own_of x)).came.effects in
      let ours = acts_on d.format other begun (boot_acts node) none_yet (boot_lawful w so_far all node other node_below other_below differ)
      (all_handed_sent (sent_by e none_yet) other (fresh_wire d node) (effects node)) (none_said d.format) in
      let theirs = acts_on d.format node begun (boot_acts other) (at_pair d at_boot node other) (boot_lawful w so_far all other node other_below node_below (λ same. differ (sym same)))
      (all_handed_sent (sent_by e (at_pair d at_boot node other)) node (fresh_wire d other) (effects other)) (talks_back d.format (at_pair d at_boot node other) none_yet ours) in
      talks_back d.format (at_pair d at_boot other node) (at_pair d at_boot node other) theirs

  -- ---- a world that lines lead to

  boot_stands : (modules : List M) (w : WorldState M) → IsDeployment d → AreOfTroupes d (map declared modules) → AreHosted declared turn first d modules hosted
      → all_booted declared turn first hosted (before_any d modules) ≡ Ok w → Stands d at_boot w
  boot_stands modules w good are hosts is =
      let sound = booted_sound declared turn first d modules hosted w good are hosts is in
      let so_far = all_so_far hosted (before_any d modules) w
      (record {
        deployment = refl;
        stands = λ node s at. absurd (none-some s at);
        sent = All-nil (IsGiven d at_boot);
      })
      (omega (arith, hosts.one_each)) (λ place own found. ap (slice_get hosted) (zero-add place) ∙ found) is in
      let all : length w.nodes ≡ length d.nodes = sound.all ∙ ap (λ (x : Deployment). length x.nodes) so_far.deployment in
      record {
        known = good.format;
        sound = sound;
        all = all;
        stands = so_far.stands;
        sent = so_far.sent;
        talks = boot_talks w so_far all;
      }

  pub world_stands : (modules : List M) (lines : List Line) (w last : WorldState M) → IsDeployment d → AreOfTroupes d (map declared modules) → AreHosted declared turn first d modules hosted
      → all_booted declared turn first hosted (before_any d modules) ≡ Ok w → Lead declared turn lines w last → Stands d (acts_of declared turn first d hosted lines w) last
  world_stands modules lines w last good are hosts is lead = lead_stands declared turn d at_boot lines w last (boot_stands modules w good are hosts is) lead
