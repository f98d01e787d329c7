-- The takes by which something happened are those that were made.
use Rattle.std.proofs.Common.{◌≡◌, ℕ, ◌+◌, ◌==◌, Bool, true, false, if◌then◌else◌, List, [], ◌∷◌, ◌++◌, get_or, slice_get, Option, None, Some, option_and_then, Ok, Err, refl, sym, ap, ◌∙◌, append_assoc, append-nil}
use Rattle.std.specs.Option.{option_map_or}
use Rattle.std.specs.List.{position}
use Rattle.std.proofs.lemmas.Bool.{eqb-true}
use Rattle.std.proofs.lemmas.Grind.{flat_map-append}
use Rattle.std.proofs.lemmas.List.Quantifiers.{position-Some}
use Rattle.std.proofs.lemmas.Option.{slice_get-get_or}
use Rattle.circus_value.specs.ValueTree.{ValueTree}
use Rattle.circus_value.specs.declared.outcome.Outcome.{Outcome}
use Rattle.circus_collate.specs.declared.deployment.Host.{Host}
use Rattle.circus_collate.specs.declared.deployment.Deployment.{Deployment}
use Rattle.circus_model.specs.NextTurn.{NextTurn}
use Rattle.circus_model.specs.declared.signature.Signature.{Signature}
use Rattle.circus_outside.specs.declared.link.TakenFrom.{TakenFrom}
use Rattle.circus_outside.specs.declared.link.TakenFrom.TheVariants.{From, Nothing}
use Rattle.circus_node.specs.declared.event.Event.{Event}
use Rattle.circus_node.specs.declared.event.Event.TheVariants.{Datagram, Tick, Down, Join}
use Rattle.circus_node.specs.declared.event.Give.{Give}
use Rattle.circus_node.specs.NodeState.{NodeState}
use Rattle.circus_node.specs.Step as step
use Rattle.circus_serve.specs.declared.happening.Happening.{Happening}
use Rattle.circus_serve.specs.declared.happening.Happening.TheVariants.{Stepped, Foreign}
use Rattle.circus_serve.specs.Happened.{port_of, peer_at, taken_by, take_of, takes_in}
use Rattle.circus_serve.specs.Serving.{Served, Progress, on, spent, and_then, conclude_event, with_foreign, is_spare, at_boot, event_comes, suspects_by, all_declared, comes, take_comes, all_took, begin_serving, serve_takes}

pub takes_in-append : (d : Deployment) (xs ys : List Happening) → takes_in d (xs ++ ys) ≡ takes_in d xs ++ takes_in d ys
takes_in-append d xs ys = flat_map-append (take_of d) xs ys

-- where a node is served on, these takes were made, and no others
abbrev HasTaken : {M : Type 0} → Deployment → List TakenFrom → Progress M → Type 0
HasTaken {M} d takes progress = (t : Served M) → progress ≡ on t → takes_in d t.happened ≡ takes

on_same : {M : Type 0} (s t : Served M) → on s ≡ on t → s ≡ t
on_same s t is = cc

module _ {M : Type 0} (d : Deployment) where
  taken_on : (s : Served M) → HasTaken d (takes_in d s.happened) (on s)
  taken_on s t is = ap (λ (u : Served M). takes_in d u.happened) (sym (on_same s t is))

  taken_then : (next : Served M → Progress M) (takes more : List TakenFrom) → ((s : Served M) → HasTaken d (takes_in d s.happened ++ more) (next s))
      → (progress : Progress M) → HasTaken d takes progress → HasTaken d (takes ++ more) (and_then next progress)
  taken_then next takes more each (on s) so_far t is = each s t is ∙ ap (λ z. z ++ more) (so_far s refl)
  taken_then next takes more each (spent node happened) so_far t is = absurd cc

  taken_concluded : (event : Event) (s : Served M) (end : step.Ended M) → HasTaken d (takes_in d s.happened ++ taken_by d event) (conclude_event event s end)
  taken_concluded event s (Ok ended) t is =
      let next : Happening = Stepped event ended.1.gives ended.1.differences in
      let u : Served M = record { node = ended.0; next = s.next + 1; happened = s.happened ++ next ∷ [] } in
      taken_on u t is ∙ takes_in-append d s.happened (next ∷ []) ∙ ap (λ z. takes_in d s.happened ++ z) (append-nil (taken_by d event))
  taken_concluded event s (Err node) t is = absurd cc

module _ {M : Type 0} (declared : M → Signature) (turn : M → List ValueTree → ℕ → List ValueTree → List Outcome → NextTurn) (d : Deployment) where
  taken_event : (event : Event) (s : Served M) → HasTaken d (takes_in d s.happened ++ taken_by d event) (event_comes declared turn event s)
  unfolding event_comes
  taken_event event s = taken_concluded d event s (step.step_node declared turn s.next event s.node)

  -- a declaration takes nothing
  taken_declared : (nodes : List ℕ) (s : Served M) → HasTaken d (takes_in d s.happened ++ []) (all_declared declared turn nodes s)
  taken_declared [] s t is = taken_on d s t is ∙ sym (append-nil (takes_in d s.happened))
  taken_declared (node ∷ others) s t is =
      taken_then d (all_declared declared turn others) (takes_in d s.happened ++ []) [] (taken_declared others) (event_comes declared turn (Down node) s) (taken_event (Down node) s) t is
      ∙ append-nil (takes_in d s.happened ++ [])

  taken_comes : (event : Event) (s : Served M) → HasTaken d (takes_in d s.happened ++ taken_by d event) (comes declared turn event s)
  taken_comes event s t is =
      taken_then d (all_declared declared turn (suspects_by declared turn event s)) (takes_in d s.happened ++ taken_by d event) [] (taken_declared (suspects_by declared turn event s))
      (event_comes declared turn event s) (taken_event event s) t is
      ∙ append-nil (takes_in d s.happened ++ taken_by d event)

  -- ---- the port of a peer

  is_at : (xs : List Host) (port number : ℕ) → position (λ (h : Host). h.port == port) xs ≡ Some number → option_map_or (λ (h : Host). h.port) (slice_get xs number) 0 ≡ port
  is_at [] port number is = absurd cc
  is_at (host ∷ hosts) port number is =
      let at = position-Some (λ (h : Host). h.port == port) (host ∷ hosts) number host is in
      ap (λ (h : Option Host). option_map_or (λ (h : Host). h.port) h 0) (slice_get-get_or (host ∷ hosts) number host at.0)
      ∙ eqb-true (get_or (host ∷ hosts) number host).port port at.1

  port_of_peer : (own port from : ℕ) → peer_at d own port ≡ Some from → port_of d from ≡ port
  port_of_peer own port from is = by_place (position (λ (h : Host). h.port == port) d.nodes) refl is
    where
      by_place : (p : Option ℕ) → position (λ (h : Host). h.port == port) d.nodes ≡ p → option_and_then (λ node. if node == own then None else Some node) p ≡ Some from → port_of d from ≡ port
      by_place None place peer = absurd cc
      by_place (Some node) place peer = by_own (node == own) peer
        where
          by_own : (b : Bool) → (if b then None else Some node) ≡ Some from → port_of d from ≡ port
          by_own true peer = absurd cc
          by_own false peer = let same : node ≡ from = cc in is_at d.nodes port from (place ∙ ap Some same)

  -- ---- takes

  taken_took : (own : ℕ) (taken : TakenFrom) (s : Served M) → HasTaken d (takes_in d s.happened ++ taken ∷ []) (take_comes declared turn d own taken s)
  taken_took own (From port bytes) s = by_peer (peer_at d own port) refl
    where
      by_peer : (peer : Option ℕ) → peer_at d own port ≡ peer
          → HasTaken d (takes_in d s.happened ++ From port bytes ∷ []) (option_map_or (λ from. comes declared turn (Datagram from bytes) s) peer (on (with_foreign port bytes s)))
      by_peer None peer t is = taken_on d (with_foreign port bytes s) t is ∙ takes_in-append d s.happened (Foreign port bytes ∷ [])
      by_peer (Some from) peer t is = taken_comes (Datagram from bytes) s t is ∙ ap (λ p. takes_in d s.happened ++ From p bytes ∷ []) (port_of_peer own port from peer)
  taken_took own Nothing s = taken_comes Tick s

  taken_all : (own : ℕ) (takes : List TakenFrom) (s : Served M) → HasTaken d (takes_in d s.happened ++ takes) (all_took declared turn d own takes s)
  taken_all own [] s t is = taken_on d s t is ∙ sym (append-nil (takes_in d s.happened))
  taken_all own (taken ∷ others) s t is =
      taken_then d (all_took declared turn d own others) (takes_in d s.happened ++ taken ∷ []) others (taken_all own others) (take_comes declared turn d own taken s) (taken_took own taken s) t is
      ∙ append_assoc (takes_in d s.happened) (taken ∷ []) others

  taken_begun : (booted : NodeState M) (gives : List Give) → HasTaken d [] (begin_serving declared turn booted gives)
  taken_begun booted gives = by_spare (is_spare booted)
    where
      by_spare : (b : Bool) → HasTaken d [] (if b then comes declared turn Join (at_boot booted gives) else on (at_boot booted gives))
      by_spare true t is = taken_comes Join (at_boot booted gives) t is
      by_spare false t is = taken_on d (at_boot booted gives) t is

  pub taken_in_all : (own : ℕ) (booted : NodeState M) (gives : List Give) (takes : List TakenFrom) (last : Served M)
      → serve_takes declared turn d own booted gives takes ≡ on last → takes_in d last.happened ≡ takes
  taken_in_all own booted gives takes last is =
      taken_then d (all_took declared turn d own takes) [] takes (taken_all own takes) (begin_serving declared turn booted gives) (taken_begun booted gives) last is
