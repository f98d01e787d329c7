use Rattle.std.proofs.Common.{ℕ, [], ◌∷◌, take, Some}
use Rattle.circus_collate.specs.declared.deployment.Troupe.{Troupe}
use Rattle.circus_model.specs.Behaviour.{Behaviour}
use Rattle.circus_audit.specs.declared.given.GivenEvent.{GivenEvent}
use Rattle.circus_verdict.specs.Seen.Living.{IsOf, IsReady, LivesThrough}
use Rattle.circus_verdict.proofs.living.live.Given as goal

-- it has lived through the events before this one
abbrev pub invariant-loop-place : goal.invariant-loop-place
invariant-loop-place l = record {
  ready : IsReady l.of.deployment.now l.of.home.now l.of.signature.now l.of.kept.now l.lived;
  lived : (b : Behaviour) (node number : ℕ) (troupe : Troupe) (boot : GivenEvent) → IsOf l.of.deployment.now l.of.home.now l.of.signature.now b node number troupe
      → LivesThrough l.of.deployment.now b node number troupe l.of.kept.now (boot ∷ []) (Some l.fn.begun)
      → LivesThrough l.of.deployment.now b node number troupe l.of.kept.now (boot ∷ take l.place l.later) (Some l.lived);
}
