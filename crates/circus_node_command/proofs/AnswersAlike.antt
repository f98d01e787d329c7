-- Serving a node answers the same with the behaviour of its module.
use Rattle.std.proofs.Common.{◌≡◌, ℕ, ◌⊎◌, inl, inr, List, ◌++◌, refl, sym, ◌∙◌, ap}
use Rattle.circus_value.specs.ValueTree.{ValueTree}
use Rattle.circus_value.specs.declared.outcome.Outcome.{Outcome}
use Rattle.circus_collate.specs.declared.deployment.Deployment.{Deployment}
use Rattle.circus_model.specs.NextTurn.{NextTurn}
use Rattle.circus_model.specs.Behaviour.{Behaviour}
use Rattle.circus_model.specs.declared.signature.Signature.{Signature}
use Rattle.circus_outside.specs.declared.link.TakenFrom.{TakenFrom}
use Rattle.circus_node.specs.declared.event.Give.{Give}
use Rattle.circus_node.specs.NodeState.{NodeState}
use Rattle.circus_node.specs.Alike.{declared_of, turn_of, node_as}
use Rattle.circus_serve.specs.Happened.{given_in}
use Rattle.circus_serve.specs.Serving.{Progress, on, spent, happened_by, serve_takes}
use Rattle.circus_serve.specs.Outside.{Tells}
use Rattle.circus_serve.specs.Recorded.{Recorded}
use Rattle.circus_serve.specs.Answers.{WasServed, IsServed, IsSpent, IsPartGiven, HasTakeFailed, HasGiveFailed, HasBindFailed}
use Rattle.circus_node_command.specs.Alike.{served_as, progress_as, recorded_as}
use Rattle.circus_node_command.proofs.ServingAlike.{serving_as}

module _ {M : Type 0} (declared : M → Signature) (turn : M → List ValueTree → ℕ → List ValueTree → List Outcome → NextTurn) (first : M → List ValueTree) where
  happened_as : (p : Progress M) → happened_by (progress_as declared turn first p) ≡ happened_by p
  happened_as (on s) = refl
  happened_as (spent node happened) = refl

  module _ (d : Deployment) (own : ℕ) (booted : NodeState M) (gives : List Give) where
    abbrev after : List TakenFrom → Progress M
    after takes = serve_takes declared turn d own booted gives takes

    abbrev seen : NodeState Behaviour
    seen = node_as declared turn first booted

    abbrev also_after : List TakenFrom → Progress Behaviour
    also_after takes = serve_takes declared_of turn_of d own seen gives takes

    -- what it comes to over takes
    comes_to_as : (takes : List TakenFrom) (p : Progress M) → after takes ≡ p → also_after takes ≡ progress_as declared turn first p
    comes_to_as takes p is = sym (serving_as declared turn first d own booted gives takes) ∙ ap (progress_as declared turn first) is

    all_happened_as : (takes : List TakenFrom) → happened_by (also_after takes) ≡ happened_by (after takes)
    all_happened_as takes = ap happened_by (comes_to_as takes (after takes) refl) ∙ happened_as (after takes)

    was_served_as : (takes : List TakenFrom) → WasServed declared turn d own booted gives takes → WasServed declared_of turn_of d own seen gives takes
    was_served_as takes was = λ before last is.
        let (s, at) = was before last is in
        (served_as declared turn first s, comes_to_as before (on s) at)

    part_given_as : (takes : List TakenFrom) (given : List (ℕ × List ℕ)) (part : IsPartGiven declared turn d own booted gives takes given)
        → IsPartGiven declared_of turn_of d own seen gives takes given
    part_given_as takes given part =
        record {
          before = was_served_as takes part.before;
          rest = part.rest;
          whole = ap (given_in d) (all_happened_as takes) ∙ part.whole;
          earlier = λ before last is.
              let (more, all) = part.earlier before last is in
              (more, all ∙ ap (λ happened. given_in d happened ++ more) (sym (all_happened_as before)));
        }

    module _ (turns : ℕ) (old new : Tells) where
      pub is_served_as : (recorded : Recorded M) → IsServed declared turn d own booted gives turns old new recorded
          → IsServed declared_of turn_of d own seen gives turns old new (recorded_as declared turn first recorded)
      is_served_as recorded is =
          record {
            takes = is.takes;
            all = is.all;
            last = served_as declared turn first is.last;
            is = comes_to_as is.takes (on is.last) is.is;
            happened = is.happened;
            node = ap (node_as declared turn first) is.node;
            link = is.link;
          }

      pub is_spent_as : (peer : ℕ) → IsSpent declared turn d own booted gives turns old new peer → IsSpent declared_of turn_of d own seen gives turns old new peer
      is_spent_as peer is =
          record {
            takes = is.takes;
            few = is.few;
            before = was_served_as is.takes is.before;
            happened = is.happened;
            is = comes_to_as is.takes (spent peer is.happened) is.is;
            link = is.link;
          }

      take_failed_as : HasTakeFailed declared turn d own booted gives turns old new → HasTakeFailed declared_of turn_of d own seen gives turns old new
      take_failed_as failed =
          record {
            takes = failed.takes;
            few = failed.few;
            last = served_as declared turn first failed.last;
            is = comes_to_as failed.takes (on failed.last) failed.is;
            link = failed.link;
          }

      give_failed_as : HasGiveFailed declared turn d own booted gives turns old new → HasGiveFailed declared_of turn_of d own seen gives turns old new
      unfolding part_given_as
      give_failed_as failed =
          record {
            takes = failed.takes;
            few = failed.few;
            given = failed.given;
            part = part_given_as failed.takes failed.given failed.part;
            missing = failed.missing;
            link = failed.link;
          }

      pub link_failed_as : HasBindFailed declared turn d own booted gives old new
          ⊎ (HasTakeFailed declared turn d own booted gives turns old new ⊎ HasGiveFailed declared turn d own booted gives turns old new)
          → HasBindFailed declared_of turn_of d own seen gives old new
          ⊎ (HasTakeFailed declared_of turn_of d own seen gives turns old new ⊎ HasGiveFailed declared_of turn_of d own seen gives turns old new)
      link_failed_as (inl failed) = inl failed
      link_failed_as (inr (inl failed)) = inr (inl (take_failed_as failed))
      link_failed_as (inr (inr failed)) = inr (inr (give_failed_as failed))
