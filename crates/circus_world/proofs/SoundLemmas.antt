-- What stays true of a world as it boots and steps.
use Rattle.std.proofs.Common.{◌≡◌, ℕ, suc, ◌+◌, ◌-◌, ◌<◌, ◌≤◌, ◌⊎◌, inl, inr, Bool, true, false, List, [], ◌∷◌, ◌++◌, length, map, set, All, Option, None, Some, Ok, Err, refl, sym, subst, ◌∙◌, arith, add-zero, zero-add}
use Rattle.std.specs.Prelude.{slice_get, if◌then◌else◌}
use Rattle.std.specs.Option.{option_map_or}
use Rattle.std.proofs.lemmas.List.{length-set, length-append}
use Rattle.std.proofs.lemmas.List.Elements.{All-nil, All-append, All-map, All-weaker}
use Rattle.std.proofs.lemmas.Option.{slice_get_within}
use Rattle.circus_value.specs.ValueTree.{ValueTree}
use Rattle.circus_value.specs.declared.outcome.Outcome.{Outcome}
use Rattle.circus_collate.specs.Deployment.{IsDeployment}
use Rattle.circus_collate.specs.declared.deployment.Deployment.{Deployment}
use Rattle.circus_model.specs.NextTurn.{NextTurn}
use Rattle.circus_model.specs.declared.signature.Signature.{Signature}
use Rattle.circus_wire.specs.Wire.{IsOther}
use Rattle.circus_node.specs.declared.event.Event.{Event}
use Rattle.circus_node.specs.declared.event.Event.TheVariants as comes
use Rattle.circus_node.specs.declared.event.Give.{Give}
use Rattle.circus_node.specs.declared.event.Outputs.{Outputs}
use Rattle.circus_node.specs.NodeState.{NodeState}
use Rattle.circus_node.specs.Node.{IsNodeOf, GoToOthers}
use Rattle.circus_node.specs.Booting.{AreOfTroupes, IsHosted, boot_node}
use Rattle.circus_node.specs.Step as node_step
use Rattle.circus_node.proofs.NodeLemmas.{Boots, stepped_stays, booted_boots}
use Rattle.circus_node.proofs.TroupeLemmas.{hosted_can_boot}
use Rattle.circus_schedule.specs.declared.line.Line.{Line}
use Rattle.circus_schedule.specs.declared.line.Line.TheVariants.{Deliver, Tick, Crash, Down, Join}
use Rattle.circus_world.specs.Sent.{Sent}
use Rattle.circus_world.specs.WorldState.{WorldState, Standing, is_live}
use Rattle.circus_world.specs.Course.{sent_by, Stepped, note_at, pass_step, crash_node, told_to_join, conclude_step, comes_to, deliver_sent, step_line}
use Rattle.circus_world.specs.Boot.{before_any, joined_by, then_others, all_booted, AreHosted}
use Rattle.circus_world.specs.Lines.{IsBetween}
use Rattle.circus_world.specs.Seen.Sound.{IsSound}
use Rattle.circus_world.proofs.SlotLemmas.{get_set, get_push}

module _ {M : Type 0} where
  -- ---- what was sent

  -- what a node gives goes from it to other ones
  between : (d : Deployment) (at node : ℕ) (n : NodeState M) (gives : List Give) → IsNodeOf d node n → node < length d.nodes → GoToOthers n gives
      → All (IsBetween (length d.nodes)) (map (sent_by at node) gives)
  between d at node n gives is within others =
      All-map (IsBetween (length d.nodes)) (sent_by at node) gives
      (All-weaker (λ (give : Give). IsOther n.wire give.to) (λ give. IsBetween (length d.nodes) (sent_by at node give)) goes gives others)
    where
      goes : (give : Give) → IsOther n.wire give.to → IsBetween (length d.nodes) (sent_by at node give)
      goes give other =
          let most : give.to ≤ length d.nodes - 1 = subst (λ k. give.to ≤ k) is.pairs other.1 in
          record {
            from = within;
            to = omega (arith, most, within);
            others = λ same. other.0 (sym same ∙ sym is.own);
          }

  -- ---- a step

  -- a node becomes another one of its number
  node_sound : (w : WorldState M) (node : ℕ) (s : Standing M) → IsSound w → IsNodeOf w.deployment node s.node → IsSound (record w { nodes = set w.nodes node s })
  node_sound w node s sound is =
      record {
        deployment = sound.deployment;
        all = length-set w.nodes node s ∙ sound.all;
        nodes = λ j t found. by_place j t (get_set w.nodes node j s t found);
        sent = sound.sent;
      }
    where
      by_place : (j : ℕ) (t : Standing M) → ((j ≡ node) × (t ≡ s)) ⊎ (slice_get w.nodes j ≡ Some t) → IsNodeOf w.deployment j t.node
      by_place j t (inl here) = subst (λ k. IsNodeOf w.deployment k t.node) (sym here.0) (subst (λ (x : Standing M). IsNodeOf w.deployment node x.node) (sym here.1) is)
      by_place j t (inr there) = sound.nodes j t there

  -- more is sent, in a step
  sent_sound : (w : WorldState M) (more : List Sent) (steps : ℕ) → IsSound w → All (IsBetween (length w.deployment.nodes)) more
      → IsSound (record w { sent = w.sent ++ more; steps = steps })
  sent_sound w more steps sound all =
      record {
        deployment = sound.deployment;
        all = sound.all;
        nodes = sound.nodes;
        sent = All-append (IsBetween (length w.deployment.nodes)) w.sent more sound.sent all;
      }

  pub passed_sound : (w : WorldState M) → IsSound w → IsSound (pass_step w)
  passed_sound w sound = record { deployment = sound.deployment; all = sound.all; nodes = sound.nodes; sent = sound.sent }

  pub noted_length : (note : Standing M → Standing M) (node : ℕ) (w : WorldState M) → length (note_at note node w).nodes ≡ length w.nodes
  noted_length note node w = by_node (slice_get w.nodes node)
    where
      by_node : (o : Option (Standing M)) → length (option_map_or (λ s. set w.nodes node (note s)) o w.nodes) ≡ length w.nodes
      by_node None = refl
      by_node (Some s) = length-set w.nodes node (note s)

  pub noted_sound : (note : Standing M → Standing M) (node : ℕ) (w : WorldState M) → ((s : Standing M) → (note s).node ≡ s.node) → IsSound w → IsSound (note_at note node w)
  noted_sound note node w same sound = by_node (slice_get w.nodes node) refl
    where
      by_node : (o : Option (Standing M)) → slice_get w.nodes node ≡ o → IsSound (record w { nodes = option_map_or (λ s. set w.nodes node (note s)) o w.nodes })
      by_node None at = sound
      by_node (Some s) at = node_sound w node (note s) sound (subst (λ (n : NodeState M). IsNodeOf w.deployment node n) (sym (same s)) (sound.nodes node s at))

  sound_so : (a b : WorldState M) → ◌≡◌ {A = Stepped M} (Ok a) (Ok b) → IsSound a → IsSound b
  sound_so a b is sound = let same : a ≡ b = cc in subst (λ (w : WorldState M). IsSound w) same sound

module _ {M : Type 0} (declared : M → Signature) (turn : M → List ValueTree → ℕ → List ValueTree → List Outcome → NextTurn) where
  pub comes_sound : (node : ℕ) (event : Event) (w next : WorldState M) → IsSound w → comes_to declared turn node event w ≡ Ok next → IsSound next
  comes_sound node event w next sound is = by_node (slice_get w.nodes node) refl is
    where
      by_end : (s : Standing M) (e : node_step.Ended M) → slice_get w.nodes node ≡ Some s → node_step.step_node declared turn (w.steps + 1) event s.node ≡ e
          → conclude_step node s w e ≡ Ok next → IsSound next
      by_end s (Err peer) at ends is = absurd (let clash : ◌≡◌ {A = Stepped M} (Err (node, peer)) (Ok next) = is in cc)
      by_end s (Ok ended) at ends is =
          let stays = stepped_stays declared turn (w.steps + 1) event s.node ended ends in
          let within : node < length w.deployment.nodes = subst (λ k. node < k) sound.all (slice_get_within w.nodes node s at) in
          let of : IsNodeOf w.deployment node ended.0 = stays.node w.deployment node (sound.nodes node s at) in
          sound_so _ next is
          (sent_sound (record w { nodes = set w.nodes node (record s { node = ended.0 }) }) (map (sent_by (w.steps + 1) node) ended.1.gives) (w.steps + 1)
          (node_sound w node (record s { node = ended.0 }) sound of) (between w.deployment (w.steps + 1) node ended.0 ended.1.gives of within stays.others))

      by_node : (o : Option (Standing M)) → slice_get w.nodes node ≡ o
          → option_map_or (λ (s : Standing M). conclude_step node s w (node_step.step_node declared turn (w.steps + 1) event s.node)) o (Ok w) ≡ Ok next → IsSound next
      by_node None at is = sound_so w next is sound
      by_node (Some s) at is = by_end s (node_step.step_node declared turn (w.steps + 1) event s.node) at refl is

  pub step_sound : (line : Line) (w next : WorldState M) → IsSound w → step_line declared turn line w ≡ Ok next → IsSound next
  step_sound (Deliver number) w next sound is = by_sent (slice_get w.sent number) is
    where
      by_live : (sent : Sent) (live : Bool) → (if live then comes_to declared turn sent.to (comes.Datagram sent.from sent.bytes) w else Ok (pass_step w)) ≡ Ok next → IsSound next
      by_live sent true is = comes_sound sent.to (comes.Datagram sent.from sent.bytes) w next sound is
      by_live sent false is = sound_so (pass_step w) next is (passed_sound w sound)

      by_sent : (o : Option Sent) → option_map_or (λ sent. deliver_sent declared turn sent w) o (Ok w) ≡ Ok next → IsSound next
      by_sent None is = sound_so w next is sound
      by_sent (Some sent) is = by_live sent (is_live w sent.to) is
  step_sound (Tick node) w next sound is = comes_sound node comes.Tick w next sound is
  step_sound (Crash node) w next sound is =
      sound_so (crash_node node w) next is (passed_sound _ (noted_sound (λ s. record s { crashed = Some (w.steps + 1) }) node w (λ s. refl) sound))
  step_sound (Down node told) w next sound is = comes_sound told (comes.Down node) w next sound is
  step_sound (Join node) w next sound is =
      comes_sound node comes.Join (told_to_join node w) next (noted_sound (λ s. record s { joins = true }) node w (λ s. refl) sound) is

  -- ---- boot

  -- the nodes that have booted so far, and what they sent
  record SoFar (w : WorldState M) : Type 0 where
    nodes : (node : ℕ) (s : Standing M) → slice_get w.nodes node ≡ Some s → IsNodeOf w.deployment node s.node
    sent : All (IsBetween (length w.deployment.nodes)) w.sent

  module _ (first : M → List ValueTree) where
    one_more : (w : WorldState M) (own : Option M) (ended : NodeState M × Outputs) → SoFar w → IsDeployment w.deployment → AreOfTroupes w.deployment (map declared w.modules)
        → length w.nodes < length w.deployment.nodes → IsHosted declared turn first w.deployment w.modules (length w.nodes) own
        → boot_node declared turn first w.deployment own (length w.nodes) ≡ Ok ended
        → SoFar (record w {
          nodes = w.nodes ++ record { node = ended.0; crashed = None; joins = false } ∷ [];
          sent = w.sent ++ map (sent_by 0 (length w.nodes)) ended.1.gives;
        })
    one_more w own ended so_far good are within hosts ends =
        record {
          nodes = λ node s found. by_place node s (get_push w.nodes node (record { node = ended.0; crashed = None; joins = false }) s found);
          sent = All-append (IsBetween (length w.deployment.nodes)) w.sent (map (sent_by 0 (length w.nodes)) ended.1.gives) so_far.sent
              (between w.deployment 0 (length w.nodes) ended.0 ended.1.gives boots.node within boots.others);
        }
      where
        boots : Boots declared turn first w.deployment (length w.nodes) ended
        boots = booted_boots declared turn first w.deployment own (length w.nodes) ended (hosted_can_boot declared turn first w.deployment w.modules (length w.nodes) own good are within hosts) ends

        by_place : (node : ℕ) (s : Standing M)
            → ((node ≡ length w.nodes) × (s ≡ record { node = ended.0; crashed = None; joins = false })) ⊎ (slice_get w.nodes node ≡ Some s)
            → IsNodeOf w.deployment node s.node
        by_place node s (inl here) =
            subst (λ k. IsNodeOf w.deployment k s.node) (sym here.0) (subst (λ (x : Standing M). IsNodeOf w.deployment (length w.nodes) x.node) (sym here.1) boots.node)
        by_place node s (inr there) = so_far.nodes node s there

    -- where those that are left boot, a sound world is left
    abbrev LeaveSound : List (Option M) → Type 0
    LeaveSound hosted = (w last : WorldState M) → SoFar w → IsDeployment w.deployment → AreOfTroupes w.deployment (map declared w.modules)
        → length w.nodes + length hosted ≡ length w.deployment.nodes
        → ((place : ℕ) (own : Option M) → slice_get hosted place ≡ Some own → IsHosted declared turn first w.deployment w.modules (length w.nodes + place) own)
        → all_booted declared turn first hosted w ≡ Ok last → IsSound last

    next_sound : (own : Option M) (others : List (Option M)) → LeaveSound others → LeaveSound (own ∷ others)
    next_sound own others leave w last so_far good are all hosts is = by_end (boot_node declared turn first w.deployment own (length w.nodes)) refl is
      where
        within : length w.nodes < length w.deployment.nodes
        within = omega (arith, all)

        hosts_it : IsHosted declared turn first w.deployment w.modules (length w.nodes) own
        hosts_it = subst (λ k. IsHosted declared turn first w.deployment w.modules k own) (add-zero (length w.nodes)) (hosts 0 own refl)

        by_end : (e : node_step.Ended M) → boot_node declared turn first w.deployment own (length w.nodes) ≡ e
            → then_others (all_booted declared turn first others) (joined_by w e) ≡ Ok last → IsSound last
        by_end (Err peer) ends is = absurd (let clash : ◌≡◌ {A = Stepped M} (Err (length w.nodes, peer)) (Ok last) = is in cc)
        by_end (Ok ended) ends is =
            let s : Standing M = record { node = ended.0; crashed = None; joins = false } in
            let more : length (w.nodes ++ s ∷ []) ≡ length w.nodes + 1 = length-append w.nodes (s ∷ []) in
            leave _ last (one_more w own ended so_far good are within hosts_it ends) good are (omega (arith, more, all))
            (λ place other found.
            let same : length w.nodes + suc place ≡ length (w.nodes ++ s ∷ []) + place = omega (arith, more) in
            subst (λ k. IsHosted declared turn first w.deployment w.modules k other) same (hosts (suc place) other found))
            is

    all_sound : (hosted : List (Option M)) → LeaveSound hosted
    all_sound [] = λ w last so_far good are all hosts is.
        sound_so w last is (record { deployment = good; all = omega (arith, all); nodes = so_far.nodes; sent = so_far.sent })
    all_sound (own ∷ others) = next_sound own others (all_sound others)

    pub booted_sound : (d : Deployment) (modules : List M) (hosted : List (Option M)) (last : WorldState M) → IsDeployment d → AreOfTroupes d (map declared modules)
        → AreHosted declared turn first d modules hosted → all_booted declared turn first hosted (before_any d modules) ≡ Ok last → IsSound last
    booted_sound d modules hosted last good are hosts is =
        all_sound hosted (before_any d modules) last
        (record {
          nodes = λ node s at. absurd (let clash : ◌≡◌ {A = Option (Standing M)} None (Some s) = at in cc);
          sent = All-nil (IsBetween (length d.nodes));
        })
        good are (omega (arith, hosts.one_each))
        (λ place own found. subst (λ k. IsHosted declared turn first d modules k own) (sym (zero-add place)) (hosts.each place own found)) is
