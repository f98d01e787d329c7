-- A node that is served stands for a trace that shows what happened to it.
use Rattle.std.proofs.Common.{◌≡◌, ℕ, ◌+◌, ◌<◌, Bool, true, false, if◌then◌else◌, List, [], ◌∷◌, ◌++◌, length, All, Option, None, Some, Ok, Err, refl, sym, ap, subst, ◌∙◌, arith}
use Rattle.std.specs.Prelude.{slice_get, IsSome}
use Rattle.std.specs.Option.{option_map_or}
use Rattle.std.proofs.lemmas.List.Elements.{All-head, All-tail, All-weaker}
use Rattle.circus_value.specs.ValueTree.{ValueTree}
use Rattle.circus_value.specs.declared.outcome.Outcome.{Outcome}
use Rattle.circus_collate.specs.declared.deployment.Deployment.{Deployment}
use Rattle.circus_collate.specs.declared.deployment.Troupe.{Troupe}
use Rattle.circus_model.specs.Behaviour.{IsModule}
use Rattle.circus_model.specs.NextTurn.{NextTurn}
use Rattle.circus_model.specs.declared.signature.Signature.{Signature}
use Rattle.circus_outside.specs.declared.link.TakenFrom.{TakenFrom}
use Rattle.circus_outside.specs.declared.link.TakenFrom.TheVariants.{From, Nothing}
use Rattle.circus_record.specs.declared.record.MemberRecord.{MemberRecord}
use Rattle.circus_performing.specs.Record.{behaviour}
use Rattle.circus_wire.specs.Wire.{IsOther}
use Rattle.circus_node.specs.Accepting.{troupe_at}
use Rattle.circus_member_rules.specs.declared.occurrence.Difference.{Difference}
use Rattle.circus_node.specs.declared.event.Event.{Event}
use Rattle.circus_node.specs.declared.event.Event.TheVariants.{Datagram, Tick, Down, Join}
use Rattle.circus_node.specs.declared.event.Give.{Give}
use Rattle.circus_node.specs.declared.event.Outputs.{Outputs}
use Rattle.circus_node.specs.Booting.{CanBoot}
use Rattle.circus_node.specs.Booting as booting
use Rattle.circus_node.specs.Node.{IsNodeOf}
use Rattle.circus_node.specs.NodeState.{NodeState, member_record}
use Rattle.circus_node.specs.Step as step
use Rattle.circus_node.specs.Trace as trace
use Rattle.circus_node.specs.Trace.{Trace, StandsFor, effects_in, effects_at_boot}
use Rattle.circus_node.proofs.NodeLemmas.{boot_is_of, step_is_of}
use Rattle.circus_serve.specs.declared.happening.Happening.{Happening}
use Rattle.circus_serve.specs.declared.happening.Happening.TheVariants.{Booted, Stepped, Foreign}
use Rattle.circus_serve.specs.Happened.{peer_at}
use Rattle.circus_serve.specs.Serving.{Served, Progress, on, spent, happened_by, and_then, conclude_event, with_foreign, is_spare, at_boot, event_comes, suspects_by, all_declared, comes, take_comes, all_took, begin_serving, serve_takes}
use Rattle.circus_serve.proofs.EventLemmas.{peer_is_other}
use Rattle.circus_serve.proofs.SuspectLemmas.{suspects_others}
use Rattle.circus_world_theory.specs.NodeLives.{IsOfBytes}
use Rattle.circus_headline_theory.specs.Datagrams.Lives.{IsOfOther}
use Rattle.circus_headline_theory.specs.Trace.{now, Rises, ComesFromOthers}
use Rattle.circus_headline_theory.proofs.Stood.{is_run_of_core}
use Rattle.circus_headline_theory.specs.ServedRun.{IsOfOctets, own_happenings, shown_of, IsNumbered, IsServedRun, IsServedSoFar}

-- ---- what happened

pub own_push : (xs : List Happening) (event : Event) (gives : List Give) (differences : List Difference)
    → own_happenings (xs ++ Stepped event gives differences ∷ []) ≡ own_happenings xs ++ Stepped event gives differences ∷ []
own_push [] event gives differences = refl
own_push (Booted g ∷ others) event gives differences = ap (λ l. Booted g ∷ l) (own_push others event gives differences)
own_push (Stepped e g ds ∷ others) event gives differences = ap (λ l. Stepped e g ds ∷ l) (own_push others event gives differences)
own_push (Foreign p b ∷ others) event gives differences = own_push others event gives differences

pub own_foreign : (xs : List Happening) (port : ℕ) (bytes : List ℕ) → own_happenings (xs ++ Foreign port bytes ∷ []) ≡ own_happenings xs
own_foreign [] port bytes = refl
own_foreign (Booted g ∷ others) port bytes = ap (λ l. Booted g ∷ l) (own_foreign others port bytes)
own_foreign (Stepped e g ds ∷ others) port bytes = ap (λ l. Stepped e g ds ∷ l) (own_foreign others port bytes)
own_foreign (Foreign p b ∷ others) port bytes = own_foreign others port bytes

-- another one for a node of a program is another one of the program
pub other_of : {M : Type 0} (d : Deployment) (node other : ℕ) (n : NodeState M) → 0 < length d.nodes → IsNodeOf d node n → IsOther n.wire other → (other ≡ node → ⊥) × (other < length d.nodes)
other_of d node other n some of is = (λ same. is.0 (same ∙ sym of.own), omega (arith, some, is.1, of.pairs))

module _ {M : Type 0} (declared : M → Signature) (turn : M → List ValueTree → ℕ → List ValueTree → List Outcome → NextTurn) (first : M → List ValueTree)
    (d : Deployment) (own : M) (node : ℕ) (can : CanBoot d node (Some (declared own))) where
  some : 0 < length d.nodes
  some = omega (arith, can.within)

  -- so far the node stands for a trace that shows what happened, and its next event has the next number
  record Reached (s : Served M) : Type 0 where
    lived : Trace
    stands : StandsFor declared turn first d (Some own) node lived s.node
    rises : Rises lived
    others : ComesFromOthers d node lived
    numbered : IsNumbered lived
    next_is : s.next ≡ now lived + 1
    shows : own_happenings s.happened ≡ shown_of lived
    of : IsNodeOf d node s.node

  -- this has happened at a node that stands so
  record HasReached (happened : List Happening) : Type 0 where
    pub last : Served M
    pub reached : Reached last
    pub same : last.happened ≡ happened

  abbrev GoesOn : Progress M → Type 0
  GoesOn (on s) = Reached s
  GoesOn (spent peer happened) = HasReached happened

  goes_then : (next : Served M → Progress M) → ((s : Served M) → Reached s → GoesOn (next s)) → (progress : Progress M) → GoesOn progress → GoesOn (and_then next progress)
  goes_then next each (on s) so_far = each s so_far
  goes_then next each (spent peer happened) so_far = so_far

  -- as far as it came
  reached_so_far : (progress : Progress M) → GoesOn progress → HasReached (happened_by progress)
  reached_so_far (on s) r = record { last = s; reached = r; same = refl }
  reached_so_far (spent peer happened) r = r

  goes_event : (event : Event) (s : Served M) → Reached s → IsOfOther d node event → IsOfBytes event → GoesOn (event_comes declared turn event s)
  unfolding event_comes
  goes_event event s r other octets = by_end (step.step_node declared turn s.next event s.node) refl
    where
      by_end : (end : step.Ended M) → step.step_node declared turn s.next event s.node ≡ end → GoesOn (conclude_event event s end)
      by_end (Ok ended) is =
          record {
            lived = trace.stepped r.lived s.next event (effects_in declared turn s.next event s.node) ended.1;
            stands = (s.node, r.stands, is, refl);
            rises = (r.rises, omega (arith, r.next_is));
            others = (r.others, other, octets);
            numbered = (r.numbered, r.next_is);
            next_is = refl;
            shows = own_push s.happened event ended.1.gives ended.1.differences ∙ ap (λ l. l ++ Stepped event ended.1.gives ended.1.differences ∷ []) r.shows;
            of = step_is_of declared turn (Ok ended) s.next event s.node is d node r.of;
          }
      by_end (Err peer) is = record { last = s; reached = r; same = refl }

  -- the nodes that are suspected are other ones of the program
  goes_declared : (nodes : List ℕ) (s : Served M) → Reached s → All (λ (x : ℕ). IsOfOther d node (Down x)) nodes → GoesOn (all_declared declared turn nodes s)
  goes_declared [] s r all = r
  goes_declared (x ∷ others) s r all =
      goes_then (all_declared declared turn others) (λ t reached. goes_declared others t reached (All-tail (λ (x : ℕ). IsOfOther d node (Down x)) x others all))
      (event_comes declared turn (Down x) s) (goes_event (Down x) s r (All-head (λ (x : ℕ). IsOfOther d node (Down x)) x others all) tt)

  all_of_others : (n : NodeState M) → IsNodeOf d node n → (nodes : List ℕ) → All (IsOther n.wire) nodes → All (λ (x : ℕ). IsOfOther d node (Down x)) nodes
  all_of_others n of nodes all = All-weaker (IsOther n.wire) (λ (x : ℕ). IsOfOther d node (Down x)) (λ x is. other_of d node x n some of is) nodes all

  goes_comes : (event : Event) (s : Served M) → Reached s → IsOfOther d node event → IsOfBytes event → GoesOn (comes declared turn event s)
  goes_comes event s r other octets =
      goes_then (all_declared declared turn (suspects_by declared turn event s))
      (λ t reached. goes_declared (suspects_by declared turn event s) t reached
      (all_of_others s.node r.of (suspects_by declared turn event s) (suspects_others declared turn d node event s s.node (suspects_by declared turn event s) r.of r.of refl)))
      (event_comes declared turn event s) (goes_event event s r other octets)

  goes_foreign : (port : ℕ) (bytes : List ℕ) (s : Served M) → Reached s → Reached (with_foreign port bytes s)
  goes_foreign port bytes s r = record {
    lived = r.lived;
    stands = r.stands;
    rises = r.rises;
    others = r.others;
    numbered = r.numbered;
    next_is = r.next_is;
    shows = own_foreign s.happened port bytes ∙ r.shows;
    of = r.of;
  }

  goes_took : (taken : TakenFrom) (s : Served M) → Reached s → IsOfOctets taken → GoesOn (take_comes declared turn d node taken s)
  goes_took (From port bytes) s r octets = by_peer (peer_at d node port) refl
    where
      by_peer : (peer : Option ℕ) → peer_at d node port ≡ peer → GoesOn (option_map_or (λ from. comes declared turn (Datagram from bytes) s) peer (on (with_foreign port bytes s)))
      by_peer None is = goes_foreign port bytes s r
      by_peer (Some from) is = goes_comes (Datagram from bytes) s r (other_of d node from s.node some r.of (peer_is_other d node port from s.node r.of is)) octets
  goes_took Nothing s r octets = goes_comes Tick s r tt tt

  goes_all : (takes : List TakenFrom) (s : Served M) → Reached s → All IsOfOctets takes → GoesOn (all_took declared turn d node takes s)
  goes_all [] s r all = r
  goes_all (taken ∷ others) s r all =
      goes_then (all_took declared turn d node others) (λ t reached. goes_all others t reached (All-tail IsOfOctets taken others all))
      (take_comes declared turn d node taken s) (goes_took taken s r (All-head IsOfOctets taken others all))

  module _ (begun_ : NodeState M) (outputs : Outputs) (boots : booting.boot_node declared turn first d (Some own) node ≡ Ok (begun_, outputs)) where
    goes_boot : Reached (at_boot begun_ outputs.gives)
    goes_boot = record {
      lived = trace.booted (effects_at_boot declared turn first d (Some own) node) outputs;
      stands = (boots, refl);
      rises = tt;
      others = tt;
      numbered = tt;
      next_is = refl;
      shows = refl;
      of = boot_is_of declared turn first (Ok (begun_, outputs)) d (Some own) node can boots;
    }

    goes_begun : GoesOn (begin_serving declared turn begun_ outputs.gives)
    goes_begun = by_spare (is_spare begun_)
      where
        by_spare : (b : Bool) → GoesOn (if b then comes declared turn Join (at_boot begun_ outputs.gives) else on (at_boot begun_ outputs.gives))
        by_spare true = goes_comes Join (at_boot begun_ outputs.gives) goes_boot tt tt
        by_spare false = goes_boot

    reached_all : (takes : List TakenFrom) → All IsOfOctets takes → GoesOn (serve_takes declared turn d node begun_ outputs.gives takes)
    reached_all takes octets = goes_then (all_took declared turn d node takes) (λ s r. goes_all takes s r octets) (begin_serving declared turn begun_ outputs.gives) goes_begun

module _ {M : Type 0} (declared : M → Signature) (turn : M → List ValueTree → ℕ → List ValueTree → List Outcome → NextTurn) (first : M → List ValueTree)
    (d : Deployment) (own : M) (node : ℕ) where
  module _ (lawful : (m : M) → IsModule (behaviour declared turn first m)) (number : ℕ) (troupe : Troupe) (can : CanBoot d node (Some (declared own))) (hosts : troupe_at d node ≡ Some number)
      (there : slice_get d.troupes number ≡ Some troupe) where
    is_served_run : (s : Served M) → Reached declared turn first d own node can s → (kept : MemberRecord) → member_record s.node.acting ≡ Some kept
        → IsServedRun d (behaviour declared turn first own) node number troupe s.happened kept
    is_served_run s r kept at =
        record {
          lived = r.lived;
          shows = r.shows;
          numbered = r.numbered;
          is = (is_run_of_core declared turn first d own node lawful can number troupe hosts there r.lived s.node kept r.stands r.rises r.others at).run;
        }

    module _ (begun_ : NodeState M) (outputs : Outputs) (takes : List TakenFrom) (boots : booting.boot_node declared turn first d (Some own) node ≡ Ok (begun_, outputs))
        (octets : All IsOfOctets takes) where
      reached : GoesOn declared turn first d own node can (serve_takes declared turn d node begun_ outputs.gives takes)
      reached = reached_all declared turn first d own node can begun_ outputs boots takes octets

      pub served_is_a_node_run : (last : Served M) (kept : MemberRecord) → serve_takes declared turn d node begun_ outputs.gives takes ≡ on last → member_record last.node.acting ≡ Some kept
          → IsServedRun d (behaviour declared turn first own) node number troupe last.happened kept
      served_is_a_node_run last kept is at = is_served_run last (subst (GoesOn declared turn first d own node can) is reached) kept at

      pub served_so_far : IsServedSoFar d (behaviour declared turn first own) node number troupe (happened_by (serve_takes declared turn d node begun_ outputs.gives takes))
      served_so_far = by_record (member_record so_far.last.node.acting) refl (so_far.reached.of.member (subst (λ (o : Option ℕ). IsSome o) (sym hosts) refl))
        where
          so_far : HasReached declared turn first d own node can (happened_by (serve_takes declared turn d node begun_ outputs.gives takes))
          so_far = reached_so_far declared turn first d own node can (serve_takes declared turn d node begun_ outputs.gives takes) reached

          by_record : (o : Option MemberRecord) → member_record so_far.last.node.acting ≡ o → IsSome o
              → IsServedSoFar d (behaviour declared turn first own) node number troupe (happened_by (serve_takes declared turn d node begun_ outputs.gives takes))
          by_record (Some kept) at some =
              record {
                kept = kept;
                is = subst (λ happened. IsServedRun d (behaviour declared turn first own) node number troupe happened kept) so_far.same (is_served_run so_far.last so_far.reached kept at);
              }
          by_record None at some = absurd cc
