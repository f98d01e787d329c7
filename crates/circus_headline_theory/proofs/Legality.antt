-- Lines that were stepped are legal, by what is shown of the world to which they lead.
use Rattle.std.proofs.Common.{◌≡◌, ℕ, ◌<◌, ◌≤◌, Bool, true, false, List, [], ◌∷◌, ◌++◌, length, Option, None, Some, Ok, refl, sym, ap, subst, ◌∙◌, ltb-true}
use Rattle.std.specs.Prelude.{slice_get, is_some, nat_lt, IsSomeAnd, if◌then◌else◌}
use Rattle.std.specs.Option.{option_map_or}
use Rattle.circus_value.specs.ValueTree.{ValueTree}
use Rattle.circus_value.specs.declared.outcome.Outcome.{Outcome}
use Rattle.circus_collate.specs.declared.deployment.Deployment.{Deployment}
use Rattle.circus_model.specs.Behaviour.{IsModule}
use Rattle.circus_model.specs.NextTurn.{NextTurn}
use Rattle.circus_model.specs.declared.signature.Signature.{Signature}
use Rattle.circus_performing.specs.Record.{behaviour}
use Rattle.circus_schedule.specs.declared.line.Line.{Line}
use Rattle.circus_schedule.specs.declared.line.Line.TheVariants.{Deliver, Tick, Crash, Down, Join}
use Rattle.circus_world.specs.Answers.{IsBooted}
use Rattle.circus_world.specs.Legal.{is_spare}
use Rattle.circus_world.specs.Lines.{Leads, Lead}
use Rattle.circus_world.specs.WorldState.{WorldState, Standing, is_live, has_crashed, has_joined}
use Rattle.circus_world.specs.declared.cause.LineCause.{LineCause}
use Rattle.circus_world.specs.declared.cause.LineCause.TheVariants.{NotLive, NotCrashed, NotSpare, AlreadyJoined}
use Rattle.circus_world.specs.Sent.{Sent}
use Rattle.circus_world.proofs.ComeLemmas.{live_then}
use Rattle.circus_world.proofs.LineLemmas.{sent_stays, steps_counted, steps_rise}
use Rattle.circus_world.proofs.SlotLemmas.{get_there, all_at}
use Rattle.circus_world_theory.specs.Worlds.{IsWorldOf}
use Rattle.circus_world_theory.proofs.Along.{below_sent}
use Rattle.circus_world_theory.proofs.Theorem.{nodes_true}
use Rattle.circus_headline_theory.specs.Events.{crash_in, joins_in}
use Rattle.circus_headline_theory.specs.Legality.{IsUp, MayStand, AreLegal}
use Rattle.circus_headline_theory.proofs.Boots.{get_first}
use Rattle.circus_headline_theory.proofs.Walks.{live_at, told_live}
use Rattle.circus_headline_theory.proofs.Worlds.{stands, crash_is, joins_are, is_here}

-- ---- why lines may be stepped

crashed_then : (crashed : Bool) (node : ℕ) (o : Option LineCause) → (if crashed then o else Some (NotCrashed node)) ≡ None → crashed ≡ true
crashed_then true node o legal = refl
crashed_then false node o legal = absurd (let clash : ◌≡◌ {A = Option LineCause} (Some (NotCrashed node)) None = legal in cc)

may_join : (spare live joined : Bool) (node : ℕ)
    → (if spare then (if live then (if joined then Some (AlreadyJoined node) else None) else Some (NotLive node)) else Some (NotSpare node)) ≡ None
    → (spare ≡ true) × (live ≡ true) × (joined ≡ false)
may_join true true false node legal = (refl, refl, refl)
may_join true true true node legal = absurd (let clash : ◌≡◌ {A = Option LineCause} (Some (AlreadyJoined node)) None = legal in cc)
may_join true false joined node legal = absurd (let clash : ◌≡◌ {A = Option LineCause} (Some (NotLive node)) None = legal in cc)
may_join false live joined node legal = absurd (let clash : ◌≡◌ {A = Option LineCause} (Some (NotSpare node)) None = legal in cc)

module _ {M : Type 0} (declared : M → Signature) (turn : M → List ValueTree → ℕ → List ValueTree → List Outcome → NextTurn) where
  -- a line among those that lead on
  record IsLed (before behind : List Line) (line : Line) (w last : WorldState M) : Type 0 where
    world : WorldState M
    next : WorldState M
    lead : Lead declared turn before w world
    leads : Leads declared turn line world next
    rest : Lead declared turn (line ∷ behind) world last

  led : (before behind : List Line) (line : Line) (w last : WorldState M) → Lead declared turn (before ++ line ∷ behind) w last → IsLed before behind line w last
  led [] behind line w last lead = record { world = w; next = lead.0; lead = refl; leads = lead.1; rest = lead }
  led (first ∷ before) behind line w last lead =
      let r = led before behind line lead.0 last lead.2 in
      record { world = r.world; next = r.next; lead = (lead.0, lead.1, r.lead); leads = r.leads; rest = r.rest }

module _ {M : Type 0} (declared : M → Signature) (turn : M → List ValueTree → ℕ → List ValueTree → List Outcome → NextTurn) (first : M → List ValueTree)
    (lawful : (hosted : M) → IsModule (behaviour declared turn first hosted)) (d : Deployment) (modules : List M) (hosted : List (Option M)) (begun : WorldState M) where
  -- behind lines that led to a world
  module _ (before : List Line) (w : WorldState M) (world : IsWorldOf declared turn first d modules hosted before begun w) where
    in_program : (node : ℕ) → node < length w.nodes → node < length d.nodes
    in_program node below = subst (λ k. node < k) (stands declared turn first lawful d modules hosted before begun w world).all below

    is_up : (node : ℕ) → node < length w.nodes → is_live w node ≡ true → IsUp d before node
    is_up node below live =
        let h = is_here declared turn first lawful d modules hosted before begun w world node (in_program node below) in (
          in_program node below,
          sym (crash_is declared turn first lawful d modules hosted before begun w world node h.own h.before h.after h.own_is h.before_is h.after_is)
              ∙ live_at w node h.after h.after_is live,
        )

    is_gone : (node : ℕ) → node < length w.nodes → has_crashed w node ≡ true → is_some (crash_in node before) ≡ true
    is_gone node below gone =
        let h = is_here declared turn first lawful d modules hosted before begun w world node (in_program node below) in
        sym (ap is_some (crash_is declared turn first lawful d modules hosted before begun w world node h.own h.before h.after h.own_is h.before_is h.after_is))
        ∙ sym (ap (λ (o : Option (Standing M)). option_map_or (λ (s : Standing M). is_some s.crashed) o false) h.after_is) ∙ gone

    has_not_joined : (node : ℕ) → node < length w.nodes → has_joined w node ≡ false → joins_in node before ≡ false
    has_not_joined node below none =
        let h = is_here declared turn first lawful d modules hosted before begun w world node (in_program node below) in
        sym (joins_are declared turn first lawful d modules hosted before begun w world node h.own h.before h.after h.own_is h.before_is h.after_is)
        ∙ sym (ap (λ (o : Option (Standing M)). option_map_or (λ (s : Standing M). s.joins) o false) h.after_is) ∙ none

    has_booted : IsBooted declared turn first d modules (Ok begun)
    has_booted = (hosted, world.hosts, world.boots)

    may_stand : (sent more : List Sent) → sent ≡ w.sent ++ more → (line : Line) (next : WorldState M) → Leads declared turn line w next → MayStand d sent before line
    may_stand sent more is (Deliver place) next leads =
        let found = get_there w.sent place (ltb-true place (length w.sent) (below_sent (nat_lt place (length w.sent)) place (length w.sent) leads.legal)) in
        let past = all_at (λ (s : Sent). s.step ≤ w.steps) w.sent place found.0 (steps_rise declared turn first d modules before begun w has_booted world.leads).past found.1 in
        subst (λ (o : Option Sent). IsSomeAnd o (λ s. s.step ≤ length before)) (sym (ap (λ (l : List Sent). slice_get l place) is ∙ get_first w.sent more place found.0 found.1))
        (subst (λ k. found.0.step ≤ k) (steps_counted declared turn first d modules before begun w has_booted world.leads) past)
    may_stand sent more is (Tick node) next leads = is_up node leads.named (live_then (is_live w node) node leads.legal)
    may_stand sent more is (Crash node) next leads = is_up node leads.named (live_then (is_live w node) node leads.legal)
    may_stand sent more is (Down node told) next leads = (
      is_gone node leads.named.0 (crashed_then (has_crashed w node) node (if is_live w told then None else Some (NotLive told)) leads.legal),
      is_up told leads.named.1 (told_live (has_crashed w node) (is_live w told) node told leads.legal),
    )
    may_stand sent more is (Join node) next leads =
        let may = may_join (is_spare w.deployment node) (is_live w node) (has_joined w node) node leads.legal in (
          ap (λ x. is_spare x node) (sym (nodes_true declared turn first lawful d modules hosted before begun w world).deployment) ∙ may.0,
          is_up node leads.named may.1,
          has_not_joined node leads.named may.2,
        )

  pub are_legal : (lines : List Line) (last : WorldState M) → IsWorldOf declared turn first d modules hosted lines begun last → AreLegal d last.sent lines
  are_legal lines last world = λ before behind line lines_are.
      let l = led declared turn before behind line begun last (subst (λ x. Lead declared turn x begun last) lines_are world.leads) in
      let then_ : IsWorldOf declared turn first d modules hosted before begun l.world = record {
        deployment = world.deployment;
        troupes = world.troupes;
        agree = world.agree;
        hosts = world.hosts;
        boots = world.boots;
        leads = l.lead;
      } in
      let more = sent_stays declared turn (line ∷ behind) l.world last l.rest in
      may_stand before l.world then_ last.sent more.0 more.1 line l.next l.leads
