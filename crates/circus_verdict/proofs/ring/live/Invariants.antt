use Rattle.std.proofs.Common.{[], ◌∷◌, take, Some}
use Rattle.circus_audit.specs.declared.given.GivenEvent.{GivenEvent}
use Rattle.circus_verdict.specs.Seen.Ringing.{IsReady, LivesThrough}
use Rattle.circus_verdict.proofs.ring.live.Given as goal

-- it has lived through the events before this one
abbrev pub invariant-loop-told : goal.invariant-loop-told
invariant-loop-told l = record {
  ready : IsReady l.deployment l.node l.rung;
  lived : (boot : GivenEvent) → LivesThrough l.deployment l.node (boot ∷ []) (Some l.fn.begun) → LivesThrough l.deployment l.node (boot ∷ take l.told-index l.later) (Some l.rung);
}
