-- Where enough deliveries are made nothing is left, and where nothing is left every root ends.
use Rattle.std.proofs.Common.{◌≡◌, inl, inr, ℕ, ◌*◌, ◌<◌, ◌≤◌, List, [], Option, length, map, arith}
use Rattle.std.proofs.lemmas.Bool.{cases_lt}
use Rattle.circus_value.specs.ValueTree.{ValueTree}
use Rattle.circus_value.specs.declared.outcome.Outcome.{Outcome}
use Rattle.circus_collate.specs.declared.deployment.Deployment.{Deployment}
use Rattle.circus_model.specs.NextTurn.{NextTurn}
use Rattle.circus_model.specs.Behaviour.{IsModule, behaviours}
use Rattle.circus_model.specs.Execution.{history_of}
use Rattle.circus_model.specs.declared.signature.Signature.{Signature}
use Rattle.circus_performing.specs.Record.{behaviour}
use Rattle.circus_world.specs.WorldState.{WorldState}
use Rattle.circus_world_theory.specs.Worlds.{IsWorldOf}
use Rattle.circus_world_theory.specs.Done.{AskEnough, RootsAreDone}
use Rattle.circus_world_theory.specs.Enough.{all_segments}
use Rattle.circus_world_theory.proofs.Quiescence.Bounding.{few_sent}
use Rattle.circus_world_theory.proofs.Quiescence.Finally.{roots_are_done}
use Rattle.circus_settle.specs.Settled.{Delivered, first_deliveries, HasSettled}
use Rattle.circus_settle.proofs.AllDelivered.{alone, first_once, all_quiet}
use Rattle.circus_settle.proofs.Leading.{led}

-- a world that few more datagrams were sent in than were delivered has settled to the end
pub all_given : (given sent most enough : ℕ) → given ≤ sent → (given < sent → given ≡ most) → sent ≤ enough → enough ≤ most → given ≡ sent
all_given given sent most enough le all few many = elim (cases_lt given sent) [
  | inl less ↦ (let is = all less in omega (arith, is, less, few, many))
  | inr not_ ↦ omega (arith, le, not_)
]

module _ {M : Type 0} (declared : M → Signature) (turn : M → List ValueTree → ℕ → List ValueTree → List Outcome → NextTurn) (first : M → List ValueTree)
    (lawful : (hosted : M) → IsModule (behaviour declared turn first hosted))
    (d : Deployment) (modules : List M) (hosted : List (Option M)) (most : ℕ) (booted : WorldState M) (done : Delivered M)
    (world : IsWorldOf declared turn first d modules hosted [] booted booted)
    (enough : 2 * all_segments d (history_of (behaviours declared turn first modules)) ≤ most) (settled : HasSettled declared turn most booted done) where
  -- what the first deliveries have led to
  led_to : IsWorldOf declared turn first d modules hosted (first_deliveries done.given) booted done.world
  led_to = record {
    deployment = world.deployment;
    troupes = world.troupes;
    agree = world.agree;
    hosts = world.hosts;
    boots = world.boots;
    leads = (led declared turn most booted done settled).lead;
  }

  pub none_left : done.given ≡ length done.world.sent
  none_left =
      let l = led declared turn most booted done settled in
      let few = few_sent declared turn first lawful d modules hosted (first_deliveries done.given) booted done.world led_to (alone 0 done.given) (first_once done.given) in
      all_given done.given (length done.world.sent) most (2 * all_segments d (history_of (behaviours declared turn first modules))) l.sent l.all few enough

  pub roots_end : AskEnough d (map declared modules) → RootsAreDone d done.world
  roots_end asks =
      roots_are_done declared turn first lawful d modules hosted (first_deliveries done.given) booted done.world led_to (all_quiet done.world done.given none_left) asks
