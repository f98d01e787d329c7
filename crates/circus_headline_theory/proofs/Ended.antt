-- The facts of a world in which every root has ended show it.
use Rattle.std.proofs.Common.{◌≡◌, ℕ, ◌*◌, ◌<◌, ◌≤◌, true, List, [], Option, None, Some, length, map, refl, sym, ap, ◌∙◌, arith}
use Rattle.std.specs.Prelude.{slice_get, option_map}
use Rattle.std.proofs.lemmas.Option.{none-some, same_Some, slice_get-map}
use Rattle.circus_value.specs.Among.{is_among}
use Rattle.circus_collate.specs.declared.deployment.Deployment.{Deployment}
use Rattle.circus_collate.specs.declared.deployment.Troupe.{Troupe}
use Rattle.circus_model.specs.Behaviour.{Behaviour}
use Rattle.circus_model.specs.Execution.{history_of}
use Rattle.circus_record.specs.declared.record.MemberRecord.{MemberRecord}
use Rattle.circus_node.specs.Accepting.{is_root}
use Rattle.circus_node.specs.Alike.{declared_of, turn_of}
use Rattle.circus_world.specs.WorldState.{WorldState, Standing}
use Rattle.circus_world_theory.specs.Worlds.{IsPlainWorldOf}
use Rattle.circus_world_theory.specs.Done.{AskEnough, IsDone, RootsAreDone}
use Rattle.circus_world_theory.specs.Enough.{all_segments}
use Rattle.circus_world_theory.proofs.Quiescence.Plain.{plain_roots_are_done, plain_few_sent}
use Rattle.circus_settle.specs.Settled.{Delivered, first_deliveries, HasSettled}
use Rattle.circus_settle.proofs.AllDelivered.{alone, first_once, all_quiet}
use Rattle.circus_settle.proofs.Leading.{led}
use Rattle.circus_settle.proofs.Sufficing.{all_given}
use Rattle.circus_headline_theory.specs.Facts.{NodeFacts, RootsEnd, node_facts, facts_of}

pub facts_end : {M : Type 0} (d : Deployment) (w : WorldState M) → RootsAreDone d w → RootsEnd d (facts_of w)
facts_end {M} d w done = λ node troupe t n kept root there among at is. by_node node troupe t n kept (slice_get w.nodes node) refl
    root there among (sym (slice_get-map node_facts w.nodes node) ∙ at) is
  where
    by_node : (node troupe : ℕ) (t : Troupe) (n : NodeFacts) (kept : MemberRecord) (o : Option (Standing M)) → slice_get w.nodes node ≡ o
        → is_root d troupe ≡ true → slice_get d.troupes troupe ≡ Some t → is_among t.founders node ≡ true → option_map node_facts o ≡ Some n → n.member ≡ Some kept → IsDone kept
    by_node node troupe t n kept None found root there among at is = absurd (none-some n at)
    by_node node troupe t n kept (Some s) found root there among at is =
        done node troupe t s kept root there among found (ap (λ (x : NodeFacts). x.member) (same_Some (node_facts s) n at) ∙ is)

-- ---- worlds that have settled from boot

pub left_few : (d : Deployment) (program : List Behaviour) (hosted : List (Option Behaviour)) (given : ℕ) (booted last : WorldState Behaviour) → IsPlainWorldOf d program hosted (first_deliveries given) booted last
    → given < length last.sent → given < 2 * all_segments d (history_of program)
left_few d program hosted given booted last world left =
    let few = plain_few_sent d program hosted (first_deliveries given) booted last world (alone 0 given) (first_once given) in
    omega (arith, few, left)

module _ (d : Deployment) (program : List Behaviour) (hosted : List (Option Behaviour)) (most : ℕ) (booted : WorldState Behaviour) (done : Delivered Behaviour)
    (world : IsPlainWorldOf d program hosted [] booted booted) (enough : 2 * all_segments d (history_of program) ≤ most) (settled : HasSettled declared_of turn_of most booted done) where
  -- what the first deliveries have led to
  led_to : IsPlainWorldOf d program hosted (first_deliveries done.given) booted done.world
  led_to = record {
    deployment = world.deployment;
    troupes = world.troupes;
    modules = world.modules;
    agree = world.agree;
    hosts = world.hosts;
    boots = world.boots;
    leads = (led declared_of turn_of most booted done settled).lead;
  }

  pub none_left : done.given ≡ length done.world.sent
  none_left =
      let l = led declared_of turn_of most booted done settled in
      let few = plain_few_sent d program hosted (first_deliveries done.given) booted done.world led_to (alone 0 done.given) (first_once done.given) in
      all_given done.given (length done.world.sent) most (2 * all_segments d (history_of program)) l.sent l.all few enough

  pub roots_end : AskEnough d (map declared_of program) → RootsEnd d (facts_of done.world)
  roots_end asks =
      facts_end d done.world
      (plain_roots_are_done d program hosted (first_deliveries done.given) booted done.world led_to (all_quiet done.world done.given none_left) asks)
