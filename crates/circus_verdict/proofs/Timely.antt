-- A run of a member is in time by its record, at boot and in each step in which something happens.
use Rattle.std.proofs.Common.{◌≡◌, ℕ, List, Some}
use Rattle.circus_collate.specs.declared.deployment.Deployment.{Deployment}
use Rattle.circus_collate.specs.declared.deployment.Troupe.{Troupe}
use Rattle.circus_model.specs.Behaviour.{Behaviour}
use Rattle.circus_record.specs.declared.record.MemberRecord.{MemberRecord}
use Rattle.circus_member_rules.specs.declared.occurrence.Effect.{Effect}
use Rattle.circus_member_rules.specs.declared.occurrence.Occurrence.{Occurrence}
use Rattle.circus_node.specs.Trace as trace
use Rattle.circus_node.specs.Trace.{Trace}
use Rattle.circus_node.specs.declared.event.Event.{Event}
use Rattle.circus_node.specs.declared.event.Outputs.{Outputs}
use Rattle.circus_headline_theory.specs.ServedRun.{IsNumbered}
use Rattle.circus_dues.specs.Dues.{BeginsInTime, GoesOnInTime}
use Rattle.circus_dues.specs.NodeRuns.{BeginsWith, at_boot, begins, happens, here, known, lived}
use Rattle.circus_dues.proofs.InTime.{begins_in_time, goes_in_time}
use Rattle.circus_verdict.specs.Seen.Living.{IsEvaluatedIn}
use Rattle.circus_verdict.proofs.Auditing.{rises}
use Rattle.circus_verdict.proofs.Beginnings.{begins_first}

module _ (d : Deployment) (b : Behaviour) (node number : ℕ) (troupe : Troupe) (kept : MemberRecord) where
  pub begins_timely : (t : Trace) → IsNumbered t → IsEvaluatedIn d b node number troupe kept t
      → BeginsInTime (here d b node number troupe kept) (known d b node number troupe kept) (begins d b node number troupe kept) b.first kept b.declared.procedures (at_boot d b node number troupe kept)
  begins_timely t numbered e =
      let h = begins_first t in
      begins_in_time d b node number troupe kept t (rises t numbered) e.goes e.boots e.within e.active e.from_first e.follows h.made h.outputs h.began

  pub goes_on_timely : (t u : Trace) (at : ℕ) (event : Event) (made : List Effect) (outputs : Outputs) (o : Occurrence) → IsNumbered t → IsEvaluatedIn d b node number troupe kept t
      → BeginsWith t (trace.stepped u at event made outputs) → happens d b node number troupe kept u event ≡ Some o
      → GoesOnInTime (here d b node number troupe kept) (known d b node number troupe kept) (begins d b node number troupe kept) b.first kept b.declared.procedures (at_boot d b node number troupe kept)
      (lived d b node number troupe kept u) at o
  goes_on_timely t u at event made outputs o numbered e began is =
      goes_in_time d b node number troupe kept t (rises t numbered) e.goes e.boots e.within e.active e.from_first e.follows u at event made outputs began o is
