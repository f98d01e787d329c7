-- What happened to a node that is served is a plain run of it.
use Rattle.std.proofs.Common.{◌≡◌, ℕ, ◌+◌, Bool, true, false, if◌then◌else◌, List, [], ◌∷◌, ◌++◌, Option, None, Some, Ok, Err, refl, sym, ap, subst, ◌∙◌, arith}
use Rattle.std.specs.Option.{option_map_or}
use Rattle.circus_value.specs.ValueTree.{ValueTree}
use Rattle.circus_value.specs.declared.outcome.Outcome.{Outcome}
use Rattle.circus_collate.specs.declared.deployment.Deployment.{Deployment}
use Rattle.circus_model.specs.NextTurn.{NextTurn}
use Rattle.circus_model.specs.declared.signature.Signature.{Signature}
use Rattle.circus_outside.specs.declared.link.TakenFrom.{TakenFrom}
use Rattle.circus_outside.specs.declared.link.TakenFrom.TheVariants.{From, Nothing}
use Rattle.circus_node.specs.declared.event.Event.{Event}
use Rattle.circus_node.specs.declared.event.Event.TheVariants.{Datagram, Tick, Down, Join}
use Rattle.circus_node.specs.declared.event.Give.{Give}
use Rattle.circus_node.specs.declared.event.Outputs.{Outputs}
use Rattle.circus_node.specs.NodeState.{NodeState}
use Rattle.circus_node.specs.Step as step
use Rattle.circus_serve.specs.declared.happening.Happening.{Happening}
use Rattle.circus_serve.specs.declared.happening.Happening.TheVariants.{Booted, Stepped, Foreign}
use Rattle.circus_serve.specs.Happened.{peer_at}
use Rattle.circus_serve.specs.Serving.{Served, Progress, on, spent, and_then, conclude_event, with_foreign, is_spare, at_boot, event_comes, suspects_by, all_declared, comes, take_comes, all_took, begin_serving, serve_takes}
use Rattle.circus_serve.specs.Running.{Lead, IsRun}

-- how many events happened
abbrev events_in : List Happening → ℕ
events_in [] = 0
events_in (Booted gives ∷ others) = events_in others
events_in (Stepped event gives differences ∷ others) = events_in others + 1
events_in (Foreign port bytes ∷ others) = events_in others

events_push : (xs : List Happening) (event : Event) (gives : List Give) (differences : _) → events_in (xs ++ Stepped event gives differences ∷ []) ≡ events_in xs + 1
events_push [] event gives differences = refl
events_push (Booted g ∷ others) event gives differences = events_push others event gives differences
events_push (Stepped e g ds ∷ others) event gives differences = ap (λ n. n + 1) (events_push others event gives differences)
events_push (Foreign port bytes ∷ others) event gives differences = events_push others event gives differences

events_foreign : (xs : List Happening) (port : ℕ) (bytes : List ℕ) → events_in (xs ++ Foreign port bytes ∷ []) ≡ events_in xs
events_foreign [] port bytes = refl
events_foreign (Booted g ∷ others) port bytes = events_foreign others port bytes
events_foreign (Stepped e g ds ∷ others) port bytes = ap (λ n. n + 1) (events_foreign others port bytes)
events_foreign (Foreign p b ∷ others) port bytes = events_foreign others port bytes

module _ {M : Type 0} (declared : M → Signature) (turn : M → List ValueTree → ℕ → List ValueTree → List Outcome → NextTurn) where
  lead_push : (xs : List Happening) (number : ℕ) (n mid last : NodeState M) (event : Event) (outputs : Outputs) → Lead declared turn number xs n mid
      → step.step_node declared turn (number + events_in xs) event mid ≡ Ok (last, outputs)
      → Lead declared turn number (xs ++ Stepped event outputs.gives outputs.differences ∷ []) n last
  lead_push [] number n mid last event outputs led is =
      (last, (record { outputs = outputs; is = subst (λ m. step.step_node declared turn number event m ≡ Ok (last, outputs)) led (subst (λ k. step.step_node declared turn k event mid ≡ Ok (last, outputs)) (omega arith) is); gives_are = refl; differences_are = refl }), refl)
  lead_push (Booted gives ∷ others) number n mid last event outputs led is = absurd led
  lead_push (Stepped e gives differences ∷ others) number n mid last event outputs led is =
      (led.0, led.1, lead_push others (number + 1) led.0 mid last event outputs led.2 (subst (λ k. step.step_node declared turn k event mid ≡ Ok (last, outputs)) (omega arith) is))
  lead_push (Foreign port bytes ∷ others) number n mid last event outputs led is = lead_push others number n mid last event outputs led is

  lead_foreign : (xs : List Happening) (number : ℕ) (n last : NodeState M) (port : ℕ) (bytes : List ℕ) → Lead declared turn number xs n last
      → Lead declared turn number (xs ++ Foreign port bytes ∷ []) n last
  lead_foreign [] number n last port bytes led = led
  lead_foreign (Booted gives ∷ others) number n last port bytes led = absurd led
  lead_foreign (Stepped e gives differences ∷ others) number n last port bytes led = (led.0, led.1, lead_foreign others (number + 1) led.0 last port bytes led.2)
  lead_foreign (Foreign p b ∷ others) number n last port bytes led = lead_foreign others number n last port bytes led

  module _ (d : Deployment) (own : ℕ) (booted : NodeState M) (gives : List Give) where
    -- so far it is a run, and the next event has the next number
    record HasRun (s : Served M) : Type 0 where
      run : IsRun declared turn booted gives s.happened s.node
      number : s.next ≡ 1 + events_in run.later

    abbrev RunsOn : Progress M → Type 0
    RunsOn progress = (t : Served M) → progress ≡ on t → HasRun t

    on_same : (s t : Served M) → on s ≡ on t → s ≡ t
    on_same s t is = cc

    runs_on : (s : Served M) → HasRun s → RunsOn (on s)
    runs_on s run t is = subst HasRun (on_same s t is) run

    runs_then : (next : Served M → Progress M) → ((s : Served M) → HasRun s → RunsOn (next s)) → (progress : Progress M) → RunsOn progress → RunsOn (and_then next progress)
    runs_then next each (on s) so_far t is = each s (so_far s refl) t is
    runs_then next each (spent node happened) so_far t is = absurd cc

    runs_event : (event : Event) (s : Served M) → HasRun s → RunsOn (event_comes declared turn event s)
    unfolding event_comes
    runs_event event s run = by_end (step.step_node declared turn s.next event s.node) refl
      where
        by_end : (end : step.Ended M) → step.step_node declared turn s.next event s.node ≡ end → RunsOn (conclude_event event s end)
        by_end (Ok ended) is t same =
            let outputs : Outputs = ended.1 in
            let later = run.run.later in
            runs_on (record { node = ended.0; next = s.next + 1; happened = s.happened ++ Stepped event outputs.gives outputs.differences ∷ [] })
            (record {
              run = record {
                later = later ++ Stepped event outputs.gives outputs.differences ∷ [];
                whole = ap (λ xs. xs ++ Stepped event outputs.gives outputs.differences ∷ []) run.run.whole;
                lead = lead_push later 1 booted s.node ended.0 event outputs run.run.lead (subst (λ k. step.step_node declared turn k event s.node ≡ Ok ended) run.number is);
              };
              number = omega (arith, run.number, events_push later event outputs.gives outputs.differences);
            })
            t same
        by_end (Err node) is t same = absurd cc

    runs_declared : (nodes : List ℕ) (s : Served M) → HasRun s → RunsOn (all_declared declared turn nodes s)
    runs_declared [] s run = runs_on s run
    runs_declared (node ∷ others) s run = runs_then (all_declared declared turn others) (runs_declared others) (event_comes declared turn (Down node) s) (runs_event (Down node) s run)

    runs_comes : (event : Event) (s : Served M) → HasRun s → RunsOn (comes declared turn event s)
    runs_comes event s run =
        runs_then (all_declared declared turn (suspects_by declared turn event s)) (runs_declared (suspects_by declared turn event s)) (event_comes declared turn event s) (runs_event event s run)

    runs_foreign : (port : ℕ) (bytes : List ℕ) (s : Served M) → HasRun s → HasRun (with_foreign port bytes s)
    runs_foreign port bytes s run =
        record {
          run = record {
            later = run.run.later ++ Foreign port bytes ∷ [];
            whole = ap (λ xs. xs ++ Foreign port bytes ∷ []) run.run.whole;
            lead = lead_foreign run.run.later 1 booted s.node port bytes run.run.lead;
          };
          number = run.number ∙ ap (λ n. 1 + n) (sym (events_foreign run.run.later port bytes));
        }

    runs_took : (taken : TakenFrom) (s : Served M) → HasRun s → RunsOn (take_comes declared turn d own taken s)
    runs_took (From port bytes) s run = by_peer (peer_at d own port)
      where
        by_peer : (peer : Option ℕ) → RunsOn (option_map_or (λ from. comes declared turn (Datagram from bytes) s) peer (on (with_foreign port bytes s)))
        by_peer None = runs_on (with_foreign port bytes s) (runs_foreign port bytes s run)
        by_peer (Some from) = runs_comes (Datagram from bytes) s run
    runs_took Nothing s run = runs_comes Tick s run

    runs_all : (takes : List TakenFrom) (s : Served M) → HasRun s → RunsOn (all_took declared turn d own takes s)
    runs_all [] s run = runs_on s run
    runs_all (taken ∷ others) s run = runs_then (all_took declared turn d own others) (runs_all others) (take_comes declared turn d own taken s) (runs_took taken s run)

    runs_boot : HasRun (at_boot booted gives)
    runs_boot = record { run = record { later = []; whole = refl; lead = refl }; number = refl }

    runs_begun : RunsOn (begin_serving declared turn booted gives)
    runs_begun = by_spare (is_spare booted)
      where
        by_spare : (b : Bool) → RunsOn (if b then comes declared turn Join (at_boot booted gives) else on (at_boot booted gives))
        by_spare true = runs_comes Join (at_boot booted gives) runs_boot
        by_spare false = runs_on (at_boot booted gives) runs_boot

    pub run_of_all : (takes : List TakenFrom) (last : Served M) → serve_takes declared turn d own booted gives takes ≡ on last → IsRun declared turn booted gives last.happened last.node
    run_of_all takes last is =
        (runs_then (all_took declared turn d own takes) (runs_all takes) (begin_serving declared turn booted gives) runs_begun last is).run
