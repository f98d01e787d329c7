-- What happens to a node stands behind what happened before, and so does what it gives.
use Rattle.std.proofs.Common.{◌≡◌, ℕ, List, [], ◌∷◌, ◌++◌, map, flat_map, Option, None, Some, Ok, Err, refl, sym, ap, ◌∙◌, append_assoc, append-nil}
use Rattle.std.proofs.lemmas.List.{map-append}
use Rattle.std.proofs.lemmas.Grind.{flat_map-append}
use Rattle.std.specs.Option.{option_map_or}
use Rattle.circus_value.specs.ValueTree.{ValueTree}
use Rattle.circus_value.specs.declared.outcome.Outcome.{Outcome}
use Rattle.circus_collate.specs.declared.deployment.Deployment.{Deployment}
use Rattle.circus_model.specs.NextTurn.{NextTurn}
use Rattle.circus_model.specs.declared.signature.Signature.{Signature}
use Rattle.circus_outside.specs.declared.link.TakenFrom.{TakenFrom}
use Rattle.circus_outside.specs.declared.link.TakenFrom.TheVariants.{From, Nothing}
use Rattle.circus_node.specs.declared.event.Event.{Event}
use Rattle.circus_node.specs.declared.event.Event.TheVariants.{Datagram, Tick, Down}
use Rattle.circus_node.specs.declared.event.Give.{Give}
use Rattle.circus_node.specs.Step as step
use Rattle.circus_serve.specs.declared.happening.Happening.{Happening}
use Rattle.circus_serve.specs.declared.happening.Happening.TheVariants.{Stepped, Foreign}
use Rattle.circus_serve.specs.Happened.{port_of, peer_at, gives_in, given_in}
use Rattle.circus_serve.specs.Serving.{Served, Progress, on, spent, happened_by, and_then, conclude_event, event_comes, all_declared, suspects_by, comes, take_comes, all_took, with_foreign}

pub given_in-append : (d : Deployment) (xs ys : List Happening) → given_in d (xs ++ ys) ≡ given_in d xs ++ given_in d ys
given_in-append d xs ys =
    ap (map (λ (give : Give). (port_of d give.to, give.bytes))) (flat_map-append gives_in xs ys)
    ∙ map-append (λ (give : Give). (port_of d give.to, give.bytes)) (flat_map gives_in xs) (flat_map gives_in ys)

-- this happened, and then maybe more
pub record Extends {M : Type 0} (before : List Happening) (progress : Progress M) : Type 0 where
  pub later : List Happening
  pub is : happened_by progress ≡ before ++ later

module _ {M : Type 0} where
  concluded_extends : (event : Event) (s : Served M) (end : step.Ended M) → Extends s.happened (conclude_event event s end)
  concluded_extends event s (Ok ended) = record { later = Stepped event ended.1.gives ended.1.differences ∷ []; is = refl }
  concluded_extends event s (Err node) = record { later = []; is = sym (append-nil s.happened) }

  pub then_extends : (next : Served M → Progress M) → ((s : Served M) → Extends s.happened (next s)) → (before : List Happening) (progress : Progress M) → Extends before progress
      → Extends before (and_then next progress)
  then_extends next each before (on s) so_far =
      let more = each s in
      record {
        later = so_far.later ++ more.later;
        is = more.is ∙ ap (λ z. z ++ more.later) so_far.is ∙ append_assoc before so_far.later more.later;
      }
  then_extends next each before (spent node happened) so_far = record { later = so_far.later; is = so_far.is }

module _ {M : Type 0} (declared : M → Signature) (turn : M → List ValueTree → ℕ → List ValueTree → List Outcome → NextTurn) where
  pub event_extends : (event : Event) (s : Served M) → Extends s.happened (event_comes declared turn event s)
  unfolding event_comes
  event_extends event s = concluded_extends event s (step.step_node declared turn s.next event s.node)

  pub declared_extends : (nodes : List ℕ) (s : Served M) → Extends s.happened (all_declared declared turn nodes s)
  declared_extends [] s = record { later = []; is = sym (append-nil s.happened) }
  declared_extends (node ∷ others) s =
      then_extends (all_declared declared turn others) (declared_extends others) s.happened (event_comes declared turn (Down node) s) (event_extends (Down node) s)

  pub comes_extends : (event : Event) (s : Served M) → Extends s.happened (comes declared turn event s)
  comes_extends event s =
      then_extends (all_declared declared turn (suspects_by declared turn event s)) (declared_extends (suspects_by declared turn event s)) s.happened (event_comes declared turn event s)
      (event_extends event s)

  pub took_extends : (d : Deployment) (own : ℕ) (taken : TakenFrom) (s : Served M) → Extends s.happened (take_comes declared turn d own taken s)
  took_extends d own (From port bytes) s = by_peer (peer_at d own port)
    where
      by_peer : (peer : Option ℕ) → Extends s.happened (option_map_or (λ from. comes declared turn (Datagram from bytes) s) peer (on (with_foreign port bytes s)))
      by_peer None = record { later = Foreign port bytes ∷ []; is = refl }
      by_peer (Some from) = comes_extends (Datagram from bytes) s
  took_extends d own Nothing s = comes_extends Tick s

  -- takes, one behind the others
  pub all_took-push : (d : Deployment) (own : ℕ) (takes : List TakenFrom) (taken : TakenFrom) (s : Served M)
      → all_took declared turn d own (takes ++ taken ∷ []) s ≡ and_then (take_comes declared turn d own taken) (all_took declared turn d own takes s)
  all_took-push d own [] taken s = ends (take_comes declared turn d own taken s)
    where
      ends : (p : Progress M) → and_then (all_took declared turn d own []) p ≡ p
      ends (on t) = refl
      ends (spent node happened) = refl
  all_took-push d own (first ∷ others) taken s = by_first (λ t. all_took-push d own others taken t) (take_comes declared turn d own first s)
    where
      by_first : ((t : Served M) → all_took declared turn d own (others ++ taken ∷ []) t ≡ and_then (take_comes declared turn d own taken) (all_took declared turn d own others t)) → (p : Progress M)
          → and_then (all_took declared turn d own (others ++ taken ∷ [])) p ≡ and_then (take_comes declared turn d own taken) (and_then (all_took declared turn d own others) p)
      by_first later (on t) = later t
      by_first later (spent node happened) = refl
