-- What holds of a world that lines led to.
use Rattle.std.proofs.Common.{◌≡◌, ℕ, ◌+◌, ◌<◌, ◌≤◌, Bool, true, false, List, [], ◌∷◌, ◌++◌, length, map, All, Option, None, Some, Ok, Err, refl, sym, ap, subst, ◌∙◌, arith, append_assoc, add-zero, ltb-true}
use Rattle.std.specs.Prelude.{AllPairs, slice_get, is_none, nat_lt, if◌then◌else◌}
use Rattle.std.specs.Option.{option_map_or}
use Rattle.std.proofs.lemmas.List.{append-nil}
use Rattle.std.proofs.lemmas.List.Elements.{All-nil, All-append, All-map, All-weaker, All-head, All-tail, All-push}
use Rattle.std.proofs.lemmas.List.Quantifiers.{all_pairs_push}
use Rattle.circus_value.specs.ValueTree.{ValueTree}
use Rattle.circus_value.specs.declared.outcome.Outcome.{Outcome}
use Rattle.circus_collate.specs.Deployment.{IsDeployment}
use Rattle.circus_collate.specs.declared.deployment.Deployment.{Deployment}
use Rattle.circus_model.specs.NextTurn.{NextTurn}
use Rattle.circus_model.specs.declared.signature.Signature.{Signature}
use Rattle.circus_node.specs.declared.event.Event.{Event}
use Rattle.circus_node.specs.declared.event.Event.TheVariants as comes
use Rattle.circus_node.specs.Booting.{AreOfTroupes, boot_node}
use Rattle.circus_node.specs.Step as node_step
use Rattle.circus_schedule.specs.declared.line.Line.{Line}
use Rattle.circus_schedule.specs.declared.line.Line.TheVariants.{Deliver, Tick, Crash, Down, Join}
use Rattle.circus_world.specs.declared.cause.LineCause.{LineCause}
use Rattle.circus_world.specs.declared.cause.LineCause.TheVariants.{NoDatagram}
use Rattle.circus_world.specs.Sent.{Sent}
use Rattle.circus_world.specs.WorldState.{WorldState, Standing, is_live}
use Rattle.circus_world.specs.Course.{sent_by, Stepped, pass_step, crash_node, told_to_join, conclude_step, comes_to, deliver_sent}
use Rattle.circus_world.specs.Boot.{before_any, joined_by, then_others, all_booted}
use Rattle.circus_world.specs.Answers.{IsBooted}
use Rattle.circus_world.specs.Lines.{IsBetween, Leads, Lead}
use Rattle.circus_world.specs.Seen.Sound.{IsSound}
use Rattle.circus_world.proofs.SlotLemmas.{get_there}
use Rattle.circus_world.proofs.SoundLemmas.{noted_length, booted_sound, step_sound}

below_sent : (below : Bool) (number most : ℕ) → (if below then None else Some (NoDatagram number most)) ≡ None → below ≡ true
below_sent true number most legal = refl
below_sent false number most legal = absurd (let clash : ◌≡◌ {A = Option LineCause} (Some (NoDatagram number most)) None = legal in cc)

-- what is sent in a step comes behind what was sent before
behind : (step : ℕ) (sent more : List Sent) → All (λ (s : Sent). s.step ≤ step) sent → AllPairs (λ (a b : Sent). a.step ≤ b.step) sent
    → All (λ (s : Sent). s.step ≡ step) more → All (λ (s : Sent). s.step ≤ step) (sent ++ more) × AllPairs (λ (a b : Sent). a.step ≤ b.step) (sent ++ more)
behind step sent [] past order now = (subst (All (λ (s : Sent). s.step ≤ step)) (sym (append-nil sent)) past, subst (AllPairs (λ (a b : Sent). a.step ≤ b.step)) (sym (append-nil sent)) order)
behind step sent (s ∷ more) past order now =
    let at : s.step ≡ step = All-head (λ (s : Sent). s.step ≡ step) s more now in
    let rest = behind step (sent ++ s ∷ []) more (All-push (λ (s : Sent). s.step ≤ step) sent s past (omega (arith, at)))
    (all_pairs_push (λ (a b : Sent). a.step ≤ b.step) sent s order (λ k d below. omega (arith, at, past k d below))) (All-tail (λ (s : Sent). s.step ≡ step) s more now) in
    let whole : (sent ++ s ∷ []) ++ more ≡ sent ++ s ∷ more = append_assoc sent (s ∷ []) more in
    (subst (All (λ (s : Sent). s.step ≤ step)) whole rest.0, subst (AllPairs (λ (a b : Sent). a.step ≤ b.step)) whole rest.1)

module _ {M : Type 0} where
  -- ---- a step

  -- a step counts, and what is sent in it is added
  record Adds (w next : WorldState M) : Type 0 where
    more : List Sent
    sent_is : next.sent ≡ w.sent ++ more
    steps_is : next.steps ≡ w.steps + 1
    deployment_is : next.deployment ≡ w.deployment
    now : All (λ (s : Sent). s.step ≡ w.steps + 1) more

  -- nothing is sent in it
  adds_none : (w next : WorldState M) → next.sent ≡ w.sent → next.steps ≡ w.steps + 1 → next.deployment ≡ w.deployment → Adds w next
  adds_none w next sent steps deployment =
      record { more = []; sent_is = sent ∙ sym (append-nil w.sent); steps_is = steps; deployment_is = deployment; now = All-nil (λ (s : Sent). s.step ≡ w.steps + 1) }

  adds_so : (w a b : WorldState M) → ◌≡◌ {A = Stepped M} (Ok a) (Ok b) → Adds w a → Adds w b
  adds_so w a b is adds = let same : a ≡ b = cc in subst (λ (next : WorldState M). Adds w next) same adds

  live_there : (o : Option (Standing M)) → option_map_or (λ (s : Standing M). is_none s.crashed) o false ≡ true → (s : Standing M) × (o ≡ Some s)
  live_there None live = absurd (let clash : false ≡ true = live in cc)
  live_there (Some s) live = (s, refl)

  -- ---- the order of what was sent

  -- each datagram has its step, and none an earlier one than those before it
  pub record Rising (w : WorldState M) : Type 0 where
    pub past : All (λ (s : Sent). s.step ≤ w.steps) w.sent
    pub order : AllPairs (λ (a b : Sent). a.step ≤ b.step) w.sent

  still_rises : (w next : WorldState M) → Rising w → Adds w next → Rising next
  still_rises w next rising adds =
      let whole = behind (w.steps + 1) w.sent adds.more
      (All-weaker (λ (s : Sent). s.step ≤ w.steps) (λ (s : Sent). s.step ≤ w.steps + 1) (λ s most. omega (arith, most)) w.sent rising.past) rising.order adds.now in
      record {
        past = subst (λ (k : ℕ). All (λ (s : Sent). s.step ≤ k) next.sent) (sym adds.steps_is)
            (subst (All (λ (s : Sent). s.step ≤ w.steps + 1)) (sym adds.sent_is) whole.0);
        order = subst (AllPairs (λ (a b : Sent). a.step ≤ b.step)) (sym adds.sent_is) whole.1;
      }

  -- all that was sent was sent in step 0, the last
  record AtBoot (d : Deployment) (w : WorldState M) : Type 0 where
    deployment_is : w.deployment ≡ d
    steps_is : w.steps ≡ 0
    first : All (λ (s : Sent). s.step ≡ 0) w.sent

  at_boot_rises : (d : Deployment) (w : WorldState M) → AtBoot d w → Rising w
  at_boot_rises d w at =
      let whole = behind 0 [] w.sent (All-nil (λ (s : Sent). s.step ≤ 0)) (λ i j d before below. absurd (omega (arith, below))) at.first in
      record { past = subst (λ (k : ℕ). All (λ (s : Sent). s.step ≤ k) w.sent) (sym at.steps_is) whole.0; order = whole.1 }

module _ {M : Type 0} (declared : M → Signature) (turn : M → List ValueTree → ℕ → List ValueTree → List Outcome → NextTurn) where
  there_adds : (node : ℕ) (event : Event) (w next : WorldState M) (s : Standing M) → slice_get w.nodes node ≡ Some s → comes_to declared turn node event w ≡ Ok next → Adds w next
  there_adds node event w next s at is =
      by_end (node_step.step_node declared turn (w.steps + 1) event s.node)
      (sym (ap (λ (o : Option (Standing M)). option_map_or (λ (t : Standing M). conclude_step node t w (node_step.step_node declared turn (w.steps + 1) event t.node)) o (Ok w)) at) ∙ is)
    where
      by_end : (e : node_step.Ended M) → conclude_step node s w e ≡ Ok next → Adds w next
      by_end (Err peer) is = absurd (let clash : ◌≡◌ {A = Stepped M} (Err (node, peer)) (Ok next) = is in cc)
      by_end (Ok ended) is =
          adds_so w _ next is
          (record {
            more = map (sent_by (w.steps + 1) node) ended.1.gives;
            sent_is = refl;
            steps_is = refl;
            deployment_is = refl;
            now = All-map (λ (s : Sent). s.step ≡ w.steps + 1) (sent_by (w.steps + 1) node) ended.1.gives (λ i d below. refl);
          })

  comes_adds : (node : ℕ) (event : Event) (w next : WorldState M) → node < length w.nodes → comes_to declared turn node event w ≡ Ok next → Adds w next
  comes_adds node event w next below is =
      let found = get_there w.nodes node below in
      there_adds node event w next found.0 found.1 is

  delivery_adds : (sent : Sent) (w next : WorldState M) → deliver_sent declared turn sent w ≡ Ok next → Adds w next
  delivery_adds sent w next is = by_live (is_live w sent.to) refl is
    where
      by_live : (live : Bool) → is_live w sent.to ≡ live → (if live then comes_to declared turn sent.to (comes.Datagram sent.from sent.bytes) w else Ok (pass_step w)) ≡ Ok next → Adds w next
      by_live false live is = adds_so w (pass_step w) next is (adds_none w (pass_step w) refl refl refl)
      by_live true live is =
          let there = live_there (slice_get w.nodes sent.to) live in
          there_adds sent.to (comes.Datagram sent.from sent.bytes) w next there.0 there.1 is

  line_adds : (line : Line) (w next : WorldState M) → Leads declared turn line w next → Adds w next
  line_adds (Deliver number) w next leads =
      let below : number < length w.sent = ltb-true number (length w.sent) (below_sent (nat_lt number (length w.sent)) number (length w.sent) leads.legal) in
      let found = get_there w.sent number below in
      delivery_adds found.0 w next (sym (ap (λ (o : Option Sent). option_map_or (λ sent. deliver_sent declared turn sent w) o (Ok w)) found.1) ∙ leads.stepped_is)
  line_adds (Tick node) w next leads = comes_adds node comes.Tick w next leads.named leads.stepped_is
  line_adds (Crash node) w next leads = adds_so w (crash_node node w) next leads.stepped_is (adds_none w (crash_node node w) refl refl refl)
  line_adds (Down node told) w next leads = comes_adds told (comes.Down node) w next leads.named.1 leads.stepped_is
  line_adds (Join node) w next leads =
      let told : WorldState M = told_to_join node w in
      let below : node < length told.nodes = omega (arith, noted_length (λ s. record s { joins = true }) node w, leads.named) in
      let adds = comes_adds node comes.Join told next below leads.stepped_is in
      record { more = adds.more; sent_is = adds.sent_is; steps_is = adds.steps_is; deployment_is = adds.deployment_is; now = adds.now }

  -- ---- lines

  pub sent_stays : (lines : List Line) (w last : WorldState M) → Lead declared turn lines w last → (more : List Sent) × (last.sent ≡ w.sent ++ more)
  sent_stays [] w last lead = ([], ap (λ (v : WorldState M). v.sent) lead ∙ sym (append-nil w.sent))
  sent_stays (line ∷ lines) w last lead =
      let first = line_adds line w lead.0 lead.1 in
      let others = sent_stays lines lead.0 last lead.2 in
      (first.more ++ others.0, others.1 ∙ ap (λ l. l ++ others.0) first.sent_is ∙ append_assoc w.sent first.more others.0)

  steps_count : (lines : List Line) (w last : WorldState M) → Lead declared turn lines w last → last.steps ≡ w.steps + length lines
  steps_count [] w last lead = ap (λ (v : WorldState M). v.steps) lead ∙ sym (add-zero w.steps)
  steps_count (line ∷ lines) w last lead =
      omega (arith, (line_adds line w lead.0 lead.1).steps_is, steps_count lines lead.0 last lead.2)

  pub deployment_stays : (lines : List Line) (w last : WorldState M) → Lead declared turn lines w last → last.deployment ≡ w.deployment
  deployment_stays [] w last lead = ap (λ (v : WorldState M). v.deployment) lead
  deployment_stays (line ∷ lines) w last lead = deployment_stays lines lead.0 last lead.2 ∙ (line_adds line w lead.0 lead.1).deployment_is

  rises : (lines : List Line) (w last : WorldState M) → Rising w → Lead declared turn lines w last → Rising last
  rises [] w last rising lead = subst (λ (v : WorldState M). Rising v) (sym lead) rising
  rises (line ∷ lines) w last rising lead = rises lines lead.0 last (still_rises w lead.0 rising (line_adds line w lead.0 lead.1)) lead.2

  lead_sound : (lines : List Line) (w last : WorldState M) → IsSound w → Lead declared turn lines w last → IsSound last
  lead_sound [] w last sound lead = subst (λ (v : WorldState M). IsSound v) (sym lead) sound
  lead_sound (line ∷ lines) w last sound lead = lead_sound lines lead.0 last (step_sound declared turn line w lead.0 sound lead.1.stepped_is) lead.2

module _ {M : Type 0} (declared : M → Signature) (turn : M → List ValueTree → ℕ → List ValueTree → List Outcome → NextTurn) (first : M → List ValueTree) where
  -- ---- boot

  abbrev LeaveBoot : Deployment → List (Option M) → Type 0
  LeaveBoot d hosted = (w last : WorldState M) → AtBoot d w → all_booted declared turn first hosted w ≡ Ok last → AtBoot d last

  next_at_boot : (d : Deployment) (own : Option M) (others : List (Option M)) → LeaveBoot d others → LeaveBoot d (own ∷ others)
  next_at_boot d own others leave w last at is = by_end (boot_node declared turn first w.deployment own (length w.nodes)) is
    where
      by_end : (e : node_step.Ended M) → then_others (all_booted declared turn first others) (joined_by w e) ≡ Ok last → AtBoot d last
      by_end (Err peer) is = absurd (let clash : ◌≡◌ {A = Stepped M} (Err (length w.nodes, peer)) (Ok last) = is in cc)
      by_end (Ok ended) is =
          leave _ last
          (record {
            deployment_is = at.deployment_is;
            steps_is = at.steps_is;
            first = All-append (λ (s : Sent). s.step ≡ 0) w.sent (map (sent_by 0 (length w.nodes)) ended.1.gives) at.first
                (All-map (λ (s : Sent). s.step ≡ 0) (sent_by 0 (length w.nodes)) ended.1.gives (λ i d below. refl));
          })
          is

  all_at_boot : (d : Deployment) (hosted : List (Option M)) → LeaveBoot d hosted
  all_at_boot d [] = λ w last at is. let same : w ≡ last = cc in subst (λ (v : WorldState M). AtBoot d v) same at
  all_at_boot d (own ∷ others) = next_at_boot d own others (all_at_boot d others)

  booted_at_boot : (d : Deployment) (modules : List M) (w : WorldState M) → IsBooted declared turn first d modules (Ok w) → AtBoot d w
  booted_at_boot d modules w is =
      all_at_boot d is.0 (before_any d modules) w (record { deployment_is = refl; steps_is = refl; first = All-nil (λ (s : Sent). s.step ≡ 0) }) is.2

  -- ---- lines behind a boot

  pub steps_counted : (d : Deployment) (modules : List M) (lines : List Line) (w last : WorldState M) → IsBooted declared turn first d modules (Ok w)
      → Lead declared turn lines w last → last.steps ≡ length lines
  steps_counted d modules lines w last is lead =
      omega (arith, steps_count declared turn lines w last lead, (booted_at_boot d modules w is).steps_is)

  pub steps_rise : (d : Deployment) (modules : List M) (lines : List Line) (w last : WorldState M) → IsBooted declared turn first d modules (Ok w)
      → Lead declared turn lines w last → Rising last
  steps_rise d modules lines w last is lead = rises declared turn lines w last (at_boot_rises d w (booted_at_boot d modules w is)) lead

  pub go_between : (d : Deployment) (modules : List M) (lines : List Line) (w last : WorldState M) → IsDeployment d → AreOfTroupes d (map declared modules)
      → IsBooted declared turn first d modules (Ok w) → Lead declared turn lines w last → All (IsBetween (length d.nodes)) last.sent
  go_between d modules lines w last good are is lead =
      let sound = lead_sound declared turn lines w last (booted_sound declared turn first d modules is.0 w good are is.1 is.2) lead in
      let same : last.deployment ≡ d = deployment_stays declared turn lines w last lead ∙ (booted_at_boot d modules w is).deployment_is in
      subst (λ (e : Deployment). All (IsBetween (length e.nodes)) last.sent) same sound.sent
