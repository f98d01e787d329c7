-- What a step that returns keeps and makes is what its record owes.
use Rattle.std.specs.Prelude.{OnOk, IfOk}
use Rattle.std.proofs.Common.{◌≡◌, ℕ, ◌<◌, List, Option, Result, Ok, Err, sym, subst}
use Rattle.circus_value.specs.ValueTree.{ValueTree}
use Rattle.circus_collate.specs.declared.view.View.{View}
use Rattle.circus_transfer.specs.declared.joiner.Joiner.{Joiner}
use Rattle.circus_model.specs.declared.signature.Signature.{Signature}
use Rattle.circus_record.specs.declared.record.MemberRecord.{MemberRecord}
use Rattle.circus_member_rules.specs.declared.place.Place.{Place}
use Rattle.circus_member_rules.specs.declared.occurrence.Difference.{Difference}
use Rattle.circus_member_rules.specs.declared.occurrence.Effect.{Effect}
use Rattle.circus_member_rules.specs.declared.occurrence.Occurrence.{Occurrence}
use Rattle.circus_member_theory.specs.Past.{Past, Rises, now}
use Rattle.circus_dues.specs.Dues.{DuesState, IsInTimeSoFar, TellsStep}
use Rattle.circus_dues.specs.declared.owing.Owing.{Owing}
use Rattle.circus_dues.specs.Seen.Owing.{stepped, made_by_step, told_by}
use Rattle.circus_dues.proofs.StepWhole.{tells_step}

module _ (place : Place) (signature : Signature) (kept : MemberRecord) (at : ℕ) (o : Occurrence) (d : Owing) where
  abbrev holds : Owing → DuesState
  holds e = record { place = place; signature = signature; kept = kept; owing = e }

  abbrev then : Owing
  then = stepped place kept at signature.procedures o d

  abbrev made : List Effect
  made = made_by_step place kept at signature.procedures o d

  -- of one that was in time so far
  abbrev Tells : DuesState → Owing → List Effect → Option Difference → Type 0
  Tells old e effects told =
      (boot : List View) (begins : Joiner) (first : List ValueTree) (at_boot : ℕ) (p : Past)
      → Rises p → now p < at → IsInTimeSoFar boot begins first at_boot p old → TellsStep boot begins first at_boot p at o (holds e) effects told

  tells : (old : DuesState) → holds d ≡ old → (e : Owing) (effects : List Effect) (told : Option Difference)
      → e ≡ then → effects ≡ made → told ≡ told_by o d → Tells old e effects told
  tells old was e effects told is made_is told_is boot begins first at_boot p rises later so =
      subst (λ x. TellsStep boot begins first at_boot p at o (holds x) effects told) (sym is)
      (subst (λ x. TellsStep boot begins first at_boot p at o (holds then) x told) (sym made_is)
      (subst (λ x. TellsStep boot begins first at_boot p at o (holds then) made x) (sym told_is)
      (tells_step boot begins first at_boot p at o rises later place signature kept d (subst (IsInTimeSoFar boot begins first at_boot p) (sym was) so))))

  pub tells_where_done : {E : Type 0} (old : DuesState) → holds d ≡ old → (e : Owing) (r : Result (List Effect × Option Difference) E)
      → OnOk r (e ≡ then) → IfOk r (λ done. done.0 ≡ made) → IfOk r (λ done. done.1 ≡ told_by o d) → IfOk r (λ done. Tells old e done.0 done.1)
  tells_where_done old was e (Ok done) is made_is told_is = tells old was e done.0 done.1 is made_is told_is
  tells_where_done old was e (Err fault) is made_is told_is = tt
