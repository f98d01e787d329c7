-- What isn't in time stays so in a step.
use Rattle.std.proofs.Common.{◌≡◌, ℕ, false, List}
use Rattle.circus_model.specs.declared.signature.ProcedureShape.{ProcedureShape}
use Rattle.circus_record.specs.declared.record.MemberRecord.{MemberRecord}
use Rattle.circus_member_rules.specs.declared.place.Place.{Place}
use Rattle.circus_member_rules.specs.declared.occurrence.Occurrence.{Occurrence}
use Rattle.circus_dues.specs.declared.owing.Owing.{Owing}
use Rattle.circus_dues.specs.Seen.Owing.{behind, gone_on, given_states, stepped}
use Rattle.circus_dues.proofs.StepComingBehind.{untimely_then}
use Rattle.circus_dues.proofs.StepGoingStill.{give_untimely, go_untimely}
use Rattle.circus_dues.proofs.StepStartingNone.{start_untimely}

pub stepped_late : (place : Place) (kept : MemberRecord) (at : ℕ) (procedures : List ProcedureShape) (o : Occurrence) (d : Owing) → d.is_timely ≡ false → (stepped place kept at procedures o d).is_timely ≡ false
stepped_late place kept at procedures o d late =
    let come = behind kept at o d in
    let gone = gone_on place kept at come in
    start_untimely place kept at procedures (given_states gone) (give_untimely gone (go_untimely place kept at come (untimely_then kept at d o late)))
