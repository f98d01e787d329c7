-- A node that is served lives through events that a record of it may have, and each declaration and join that is due comes.
use Rattle.std.specs.Prelude.{option_map, option_and_then}
use Rattle.std.specs.List.{AllByRecursion, list_any}
use Rattle.std.specs.Option.{option_map_or}
use Rattle.std.proofs.Common.{◌≡◌, ℕ, ◌+◌, ◌<◌, Bool, true, false, not, ◌&&◌, ◌||◌, if◌then◌else◌, List, [], ◌∷◌, ◌++◌, length, All, Option, None, Some, Ok, Err, refl, sym, ap, subst, ◌∙◌, arith, eq-eqb}
use Rattle.std.proofs.lemmas.List.Elements.{All-head, All-tail, All-weaker}
use Rattle.circus_value.specs.ValueTree.{ValueTree}
use Rattle.circus_value.specs.declared.outcome.Outcome.{Outcome}
use Rattle.circus_collate.specs.declared.deployment.Deployment.{Deployment}
use Rattle.circus_model.specs.NextTurn.{NextTurn}
use Rattle.circus_model.specs.declared.signature.Signature.{Signature}
use Rattle.circus_outside.specs.declared.link.TakenFrom.{TakenFrom}
use Rattle.circus_outside.specs.declared.link.TakenFrom.TheVariants.{From, Nothing}
use Rattle.circus_wire.specs.Wire.{IsOther}
use Rattle.circus_member_rules.specs.declared.occurrence.Effect.{Effect}
use Rattle.circus_node.specs.declared.event.Event.{Event}
use Rattle.circus_node.specs.declared.event.Event.TheVariants.{Datagram, Tick, Down, Join}
use Rattle.circus_node.specs.declared.event.Give.{Give}
use Rattle.circus_node.specs.declared.event.Outputs.{Outputs}
use Rattle.circus_node.specs.Booting.{CanBoot, home_of, made_at_boot, fresh_wire}
use Rattle.circus_node.specs.Booting as booting
use Rattle.circus_node.specs.Making.{Made}
use Rattle.circus_node.specs.Node.{IsNodeOf}
use Rattle.circus_node.specs.NodeState.{NodeState}
use Rattle.circus_node.specs.Sending.{Sending, sent, spent, all_handed}
use Rattle.circus_node.specs.Step as step
use Rattle.circus_node.specs.Trace as trace
use Rattle.circus_node.specs.Trace.{Trace, StandsFor, effects_in, effects_at_boot}
use Rattle.circus_node.proofs.NodeLemmas.{boot_is_of, step_is_of}
use Rattle.circus_serve.specs.declared.happening.Happening.{Happening}
use Rattle.circus_serve.specs.declared.happening.Happening.TheVariants.{Booted, Stepped, Foreign}
use Rattle.circus_serve.specs.Happened.{peer_at}
use Rattle.circus_serve.specs.Serving.{Served, Progress, on, spent as no_number, and_then, conclude_event, suspects_in, with_foreign, at_boot, event_comes, suspects_by, all_declared, comes, take_comes, all_took, begin_serving, serve_takes}
use Rattle.circus_serve.proofs.EventLemmas.{peer_is_other}
use Rattle.circus_serve.proofs.SuspectLemmas.{suspects_others}
use Rattle.circus_world_theory.specs.NodeLives.{IsOfBytes}
use Rattle.circus_world_theory.proofs.Stepping.{same_ended}
use Rattle.circus_headline_theory.specs.Datagrams.Lives.{IsOfOther}
use Rattle.circus_headline_theory.specs.Trace.{now, ComesFromOthers}
use Rattle.circus_headline_theory.proofs.Served.{own_push, own_foreign, other_of}
use Rattle.circus_headline_theory.specs.ServedRun.{own_happenings, shown_of, IsNumbered}
use Rattle.circus_audit.specs.declared.given.GivenEvent.{GivenEvent}
use Rattle.circus_verdict.specs.Audited.{is_join, events_in}
use Rattle.circus_verdict.specs.Seen.Living.{awaited_by, awaited_in}
use Rattle.circus_verdict.specs.Seen.Shape.{joins, is_second, joins_so}
use Rattle.circus_verdict.proofs.Possible.Differing.{all_both}
use Rattle.circus_verdict.proofs.Possible.Whole.{bytes_of_octets}
use Rattle.circus_program.specs.Accepted.{IsFromPort}
use Rattle.circus_program.proofs.Accepting.Noting.{IsOfPort}

-- ---- what happened

-- the first thing that happened is its boot
pub record BeginsWithBoot (happened : List Happening) : Type 0 where
  pub gives : List Give
  pub later : List Happening
  pub is : happened ≡ Booted gives ∷ later

boot_on : (happened : List Happening) (next : Happening) → BeginsWithBoot happened → BeginsWithBoot (happened ++ next ∷ [])
boot_on happened next b = record { gives = b.gives; later = b.later ++ next ∷ []; is = ap (λ l. l ++ next ∷ []) b.is }

-- ---- joins

-- boot, and then events among which joins stand where they may
pub record JoinsWell (spare : Bool) (t : Trace) : Type 0 where
  pub boot : GivenEvent
  pub later : List GivenEvent
  pub are : events_in t ≡ boot ∷ later
  pub none : boot.event ≡ None
  pub joins : joins_so spare later ≡ true

any_on : (later : List GivenEvent) (e : GivenEvent) → joins e ≡ false → list_any joins (later ++ e ∷ []) ≡ list_any joins later
any_on [] e none = ap (λ b. b || false) none
any_on (x ∷ later) e none = ap (λ b. joins x || b) (any_on later e none)

joins_more : (spare : Bool) (later : List GivenEvent) (e : GivenEvent) → joins e ≡ false → joins_so spare later ≡ true → joins_so spare (later ++ e ∷ []) ≡ true
joins_more true [] e none is = absurd (let clash : false ≡ true = is in cc)
joins_more false [] e none is = ap (λ b. not b && true) none
joins_more spare (second ∷ others) e none is = ap (λ b. is_second spare second && not b) (any_on others e none) ∙ is

joins_on : (spare : Bool) (t : Trace) (at : ℕ) (event : Event) (made : List Effect) (outputs : Outputs) → is_join (Some event) ≡ false → JoinsWell spare t
    → JoinsWell spare (trace.stepped t at event made outputs)
joins_on spare t at event made outputs other w =
    let e : GivenEvent = record { event = Some event; gives = outputs.gives; differences = outputs.differences } in
    record { boot = w.boot; later = w.later ++ e ∷ []; are = ap (λ l. l ++ e ∷ []) w.are; none = w.none; joins = joins_more spare w.later e other w.joins }

-- a node that has booted
abbrev IsBoot : Trace → Type 0
IsBoot (trace.booted made outputs) = Unit {0}
IsBoot (trace.stepped t at event made outputs) = ⊥

boot_joins : (t : Trace) → IsBoot t → JoinsWell false t
boot_joins (trace.booted made outputs) is =
    record { boot = record { event = None; gives = outputs.gives; differences = outputs.differences }; later = []; are = refl; none = refl; joins = refl }
boot_joins (trace.stepped t at event made outputs) is = absurd is

spare_joins : (t : Trace) (at : ℕ) (made : List Effect) (outputs : Outputs) → IsBoot t → JoinsWell true (trace.stepped t at Join made outputs)
spare_joins (trace.booted boot_made boot) at made outputs is =
    record {
      boot = record { event = None; gives = boot.gives; differences = boot.differences };
      later = record { event = Some Join; gives = outputs.gives; differences = outputs.differences } ∷ [];
      are = refl;
      none = refl;
      joins = refl;
    }
spare_joins (trace.stepped t k event more before) at made outputs is = absurd is

-- ---- boot

module _ {M : Type 0} (declared : M → Signature) (turn : M → List ValueTree → ℕ → List ValueTree → List Outcome → NextTurn) (first : M → List ValueTree) (d : Deployment) (hosted : Option M)
    (node : ℕ) where
  none_made : (own : Option M) → (made_at_boot declared turn first d (home_of d node) own).came.differences ≡ []
  none_made None = elim (home_of d node) as (λ h. (made_at_boot declared turn first d h None).came.differences ≡ []) [ None ↦ refl | (Some home) ↦ refl ]
  none_made (Some own) = elim (home_of d node) as (λ h. (made_at_boot declared turn first d h (Some own)).came.differences ≡ []) [ None ↦ refl | (Some home) ↦ refl ]

  pub boots_quietly : (n : NodeState M) (outputs : Outputs) → booting.boot_node declared turn first d hosted node ≡ Ok (n, outputs) → (outputs.suspects ≡ []) × (outputs.differences ≡ [])
  boots_quietly n outputs is = by_sending (all_handed (sent (fresh_wire d node) []) made.came.effects) is
    where
      made : Made M
      made = made_at_boot declared turn first d (home_of d node) hosted

      by_sending : (s : Sending) → step.end_step (record { deployment = d; wire = fresh_wire d node; acting = made.acting; dropped = 0 }) made.came s ≡ Ok (n, outputs)
          → (outputs.suspects ≡ []) × (outputs.differences ≡ [])
      by_sending (sent w given) e =
          let q = subst (λ (r : NodeState M × Outputs). (r.1.suspects ≡ []) × (r.1.differences ≡ made.came.differences)) (same_ended _ (n, outputs) e) (refl, refl) in
          (q.0, q.1 ∙ none_made hosted)
      by_sending (spent peer) e = absurd (let clash : ◌≡◌ {A = step.Ended M} (Err peer) (Ok (n, outputs)) = e in cc)

  -- ---- on the way

  module _ (can : CanBoot d node (option_map declared hosted)) where
    some : 0 < length d.nodes
    some = (let within = can.within in omega (arith, within))

    -- so far the node stands for a trace that shows what happened, in which joins are so, and these declarations are due
    pub record Reached (J : Trace → Type 0) (due : List ℕ) (s : Served M) : Type 0 where
      pub lived : Trace
      pub stands : StandsFor declared turn first d hosted node lived s.node
      pub others : ComesFromOthers d node lived
      pub numbered : IsNumbered lived
      pub next_is : s.next ≡ now lived + 1
      pub shows : own_happenings s.happened ≡ shown_of lived
      pub of : IsNodeOf d node s.node
      pub joins : J lived
      pub awaited : awaited_in lived ≡ Some due
      pub begins : BeginsWithBoot s.happened
      pub ports : AllByRecursion IsOfPort s.happened

    abbrev GoesOn : (Trace → Type 0) → Progress M → Type 0
    GoesOn J (on s) = Reached J [] s
    GoesOn J (no_number peer happened) = Unit {0}

    goes_then : (J K : Trace → Type 0) (next : Served M → Progress M) → ((s : Served M) → Reached J [] s → GoesOn K (next s)) → (progress : Progress M) → GoesOn J progress
        → GoesOn K (and_then next progress)
    goes_then J K next each (on s) so_far = each s so_far
    goes_then J K next each (no_number peer happened) so_far = tt

    -- an event has ended
    behind_event : (J K : Trace → Type 0) (due next : List ℕ) (event : Event) (s : Served M) → Reached J due s → IsOfOther d node event → IsOfBytes event
        → ((t : Trace) (made : List Effect) (outputs : Outputs) → J t → K (trace.stepped t s.next event made outputs))
        → (ended : NodeState M × Outputs) → awaited_by event ended.1.suspects due ≡ Some next → step.step_node declared turn s.next event s.node ≡ Ok ended
        → Reached K next (record { node = ended.0; next = s.next + 1; happened = s.happened ++ Stepped event ended.1.gives ended.1.differences ∷ [] })
    behind_event J K due next event s r other octets joins_then ended awaits is =
        record {
          lived = trace.stepped r.lived s.next event (effects_in declared turn s.next event s.node) ended.1;
          stands = (s.node, r.stands, is, refl);
          others = (r.others, other, octets);
          numbered = (r.numbered, r.next_is);
          next_is = refl;
          shows = own_push s.happened event ended.1.gives ended.1.differences ∙ ap (λ l. l ++ Stepped event ended.1.gives ended.1.differences ∷ []) r.shows;
          of = step_is_of declared turn (Ok ended) s.next event s.node is d node r.of;
          joins = joins_then r.lived (effects_in declared turn s.next event s.node) ended.1 r.joins;
          awaited = ap (option_and_then (awaited_by event ended.1.suspects)) r.awaited ∙ awaits;
          begins = boot_on s.happened (Stepped event ended.1.gives ended.1.differences) r.begins;
          ports = all_both IsOfPort s.happened (Stepped event ended.1.gives ended.1.differences ∷ []) r.ports (tt, tt);
        }

    -- the nodes that are suspected are declared
    goes_declared : (J : Trace → Type 0)
        → ((t : Trace) (at x : ℕ) (made : List Effect) (outputs : Outputs) → J t → J (trace.stepped t at (Down x) made outputs))
        → (nodes : List ℕ) (s : Served M) → Reached J nodes s → All (λ (x : ℕ). IsOfOther d node (Down x)) nodes → GoesOn J (all_declared declared turn nodes s)
    unfolding event_comes
    goes_declared J still [] s r all = r
    goes_declared J still (x ∷ others) s r all =
        by_end (λ t reached. goes_declared J still others t reached (All-tail (λ (y : ℕ). IsOfOther d node (Down y)) x others all)) (step.step_node declared turn s.next (Down x) s.node) refl
      where
        by_end : ((t : Served M) → Reached J others t → GoesOn J (all_declared declared turn others t)) → (end : step.Ended M) → step.step_node declared turn s.next (Down x) s.node ≡ end → GoesOn J (and_then (all_declared declared turn others) (conclude_event (Down x) s end))
        by_end later (Ok ended) is =
            later _
            (behind_event J J (x ∷ others) others (Down x) s r (All-head (λ (y : ℕ). IsOfOther d node (Down y)) x others all) tt (λ t made outputs so. still t s.next x made outputs so) ended
            (ap (λ b. if b then Some others else None) (eq-eqb x x refl)) is)
        by_end later (Err peer) is = tt

    all_of_others : (n : NodeState M) → IsNodeOf d node n → (nodes : List ℕ) → All (IsOther n.wire) nodes → All (λ (x : ℕ). IsOfOther d node (Down x)) nodes
    all_of_others n of nodes all = All-weaker (IsOther n.wire) (λ (x : ℕ). IsOfOther d node (Down x)) (λ x is. other_of d node x n some of is) nodes all

    goes_comes : (J K : Trace → Type 0) (event : Event) (s : Served M) → Reached J [] s → IsOfOther d node event → IsOfBytes event
        → ((suspects : List ℕ) → awaited_by event suspects [] ≡ Some suspects)
        → ((t : Trace) (made : List Effect) (outputs : Outputs) → J t → K (trace.stepped t s.next event made outputs))
        → ((t : Trace) (at x : ℕ) (made : List Effect) (outputs : Outputs) → K t → K (trace.stepped t at (Down x) made outputs))
        → GoesOn K (comes declared turn event s)
    unfolding event_comes suspects_by
    goes_comes J K event s r other octets awaits joins_then still =
        by_end (step.step_node declared turn s.next event s.node) refl
        (all_of_others s.node r.of (suspects_by declared turn event s) (suspects_others declared turn d node event s s.node (suspects_by declared turn event s) r.of r.of refl))
      where
        by_end : (end : step.Ended M) → step.step_node declared turn s.next event s.node ≡ end → All (λ (x : ℕ). IsOfOther d node (Down x)) (suspects_in (step.step_node declared turn s.next event s.node))
            → GoesOn K (and_then (all_declared declared turn (suspects_in end)) (conclude_event event s end))
        by_end (Ok ended) is all =
            goes_declared K still ended.1.suspects _ (behind_event J K [] ended.1.suspects event s r other octets joins_then ended (awaits ended.1.suspects) is)
            (subst (λ e. All (λ (x : ℕ). IsOfOther d node (Down x)) (suspects_in e)) is all)
        by_end (Err peer) is all = tt

    module _ (spare : Bool) where
      abbrev J : Trace → Type 0
      J t = JoinsWell spare t

      still_joins : (t : Trace) (at x : ℕ) (made : List Effect) (outputs : Outputs) → J t → J (trace.stepped t at (Down x) made outputs)
      still_joins t at x made outputs so = joins_on spare t at (Down x) made outputs refl so

      goes_foreign : (port : ℕ) (bytes : List ℕ) (s : Served M) → IsOfPort (Foreign port bytes) → Reached J [] s → Reached J [] (with_foreign port bytes s)
      goes_foreign port bytes s of_port r = record {
        lived = r.lived;
        stands = r.stands;
        others = r.others;
        numbered = r.numbered;
        next_is = r.next_is;
        shows = own_foreign s.happened port bytes ∙ r.shows;
        of = r.of;
        joins = r.joins;
        awaited = r.awaited;
        begins = boot_on s.happened (Foreign port bytes) r.begins;
        ports = all_both IsOfPort s.happened (Foreign port bytes ∷ []) r.ports (of_port, tt);
      }

      goes_took : (taken : TakenFrom) (s : Served M) → Reached J [] s → IsFromPort taken → GoesOn J (take_comes declared turn d node taken s)
      goes_took (From port bytes) s r octets = by_peer (peer_at d node port) refl
        where
          by_peer : (peer : Option ℕ) → peer_at d node port ≡ peer → GoesOn J (option_map_or (λ from. comes declared turn (Datagram from bytes) s) peer (on (with_foreign port bytes s)))
          by_peer None is = goes_foreign port bytes s (octets.0, bytes_of_octets bytes octets.1) r
          by_peer (Some from) is =
              goes_comes J J (Datagram from bytes) s r (other_of d node from s.node some r.of (peer_is_other d node port from s.node r.of is)) octets.1 (λ suspects. refl)
              (λ t made outputs so. joins_on spare t s.next (Datagram from bytes) made outputs refl so) still_joins
      goes_took Nothing s r octets =
          goes_comes J J Tick s r tt tt (λ suspects. refl) (λ t made outputs so. joins_on spare t s.next Tick made outputs refl so) still_joins

      goes_all : (takes : List TakenFrom) (s : Served M) → Reached J [] s → All IsFromPort takes → GoesOn J (all_took declared turn d node takes s)
      goes_all [] s r all = r
      goes_all (taken ∷ others) s r all =
          goes_then J J (all_took declared turn d node others) (λ t reached. goes_all others t reached (All-tail IsFromPort taken others all))
          (take_comes declared turn d node taken s) (goes_took taken s r (All-head IsFromPort taken others all))

    -- ---- from boot on

    module _ (begun : NodeState M) (outputs : Outputs) (boots : booting.boot_node declared turn first d hosted node ≡ Ok (begun, outputs)) where
      goes_boot : Reached IsBoot [] (at_boot begun outputs.gives)
      goes_boot = record {
        lived = trace.booted (effects_at_boot declared turn first d hosted node) outputs;
        stands = (boots, refl);
        others = tt;
        numbered = tt;
        next_is = refl;
        shows = refl;
        of = boot_is_of declared turn first (Ok (begun, outputs)) d hosted node can boots;
        joins = tt;
        awaited = ap Some (boots_quietly begun outputs boots).0;
        begins = record { gives = outputs.gives; later = []; is = refl };
        ports = (tt, tt);
      }

      -- a spare is told to join, and no other node is
      abbrev pub BeginsSo : Bool → Type 0
      BeginsSo true = begin_serving declared turn begun outputs.gives ≡ comes declared turn Join (at_boot begun outputs.gives)
      BeginsSo false = begin_serving declared turn begun outputs.gives ≡ on (at_boot begun outputs.gives)

      goes_begun : (spare : Bool) → BeginsSo spare → GoesOn (JoinsWell spare) (begin_serving declared turn begun outputs.gives)
      goes_begun true is =
          subst (GoesOn (JoinsWell true)) (sym is)
          (goes_comes IsBoot (JoinsWell true) Join (at_boot begun outputs.gives) goes_boot tt tt (λ suspects. refl) (λ t made outs so. spare_joins t 1 made outs so) (still_joins true))
      goes_begun false is =
          let r = goes_boot in
          subst (GoesOn (JoinsWell false)) (sym is)
          (record {
            lived = r.lived;
            stands = r.stands;
            others = r.others;
            numbered = r.numbered;
            next_is = r.next_is;
            shows = r.shows;
            of = r.of;
            joins = boot_joins r.lived r.joins;
            awaited = r.awaited;
            begins = r.begins;
            ports = r.ports;
          })

      pub reached : (spare : Bool) → BeginsSo spare → (takes : List TakenFrom) → All IsFromPort takes → (last : Served M) → serve_takes declared turn d node begun outputs.gives takes ≡ on last
          → Reached (JoinsWell spare) [] last
      reached spare is takes octets last served =
          subst (GoesOn (JoinsWell spare)) served
          (goes_then (JoinsWell spare) (JoinsWell spare) (all_took declared turn d node takes) (λ s r. goes_all spare takes s r octets) (begin_serving declared turn begun outputs.gives) (goes_begun spare is))
