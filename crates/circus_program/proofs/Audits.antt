-- What an audit comes to: one end, with status 0 where the record is a true one, else with 13.
use Rattle.std.proofs.Common.{◌≡◌, ℕ, ◌⊎◌, inl, inr, List, Result, Ok, Err, IfOk, refl, sym, ap, subst, ◌∙◌}
use Rattle.circus_config.specs.declared.plan.Plan.{Plan}
use Rattle.circus_config.specs.Program.{IsPlan}
use Rattle.circus_plan_modules.specs.Loaded.{behaviours_in}
use Rattle.circus_audit.specs.declared.given.Given.{Given}
use Rattle.circus_audit.proofs.Beginnings.{none_of_record, one_line}
use Rattle.circus_audit.proofs.OneReading.{one_given}
use Rattle.circus_verdict.specs.declared.verdict.Verdict.{Verdict}
use Rattle.circus_verdict.specs.declared.verdict.Verdict.TheVariants.{Yes, NotARun, Run}
use Rattle.circus_verdict.specs.Verdict.{IsVerdict}
use Rattle.circus_verdict.proofs.OneVerdict.{verdict_one}
use Rattle.circus_commands.specs.declared.status.Status.{Status}
use Rattle.circus_commands.specs.declared.status.Status.TheVariants.{Done, BadRecord}
use Rattle.circus_commands.specs.Ending.{Ending}
use Rattle.circus_commands.specs.declared.ending.Ending as coded
use Rattle.circus_commands.specs.Seen.Ending.{ending_of}
use Rattle.circus_simulation.specs.Booted.{names_in}
use Rattle.circus_program.specs.Accepted.{HasModuleNames}
use Rattle.circus_program.specs.Audit.{IsRecord, IsBadAt, IsJudged, verdict_end, bad_line_end, IsEndOfAudit, IsRefusedRecord, IsTrueRecord}

-- ---- one end

-- of one text of a plan one thing is said
module _ (plan : Plan) (plan_is : IsPlan plan) (named : HasModuleNames plan) (text : List ℕ) where
  judged_one : (given other : Given) (one another : Verdict) → IsJudged plan text given one → IsJudged plan text other another
      → verdict_end ((names_in plan).node given.node) one ≡ verdict_end ((names_in plan).node other.node) another
  judged_one given other one another is also =
      let same = one_given plan given other text plan_is named.names named.words is.is_record.0 is.is_record.1 also.is_record.1 in
      let moved = subst (λ (g : Given). IsVerdict plan.deployment (behaviours_in plan) g one) same is.verdict_is in
      let verdicts = verdict_one plan.deployment (behaviours_in plan) other one another moved also.verdict_is in
      λ i. verdict_end ((names_in plan).node (same i).node) (verdicts i)

  pub audit_one : (one another : Ending) → IsEndOfAudit plan text one → IsEndOfAudit plan text another → one ≡ another
  audit_one one another (inl (given, verdict, judged, is)) (inl (other, said, also, so)) =
      is ∙ judged_one given other verdict said judged also ∙ sym so
  audit_one one another (inl (given, verdict, judged, is)) (inr (number, bad, so)) = absurd (none_of_record plan given text number judged.is_record.1 bad)
  audit_one one another (inr (number, bad, is)) (inl (given, verdict, judged, so)) = absurd (none_of_record plan given text number judged.is_record.1 bad)
  audit_one one another (inr (number, bad, is)) (inr (other, also, so)) = is ∙ ap bad_line_end (one_line plan text number other bad also) ∙ sym so

-- ---- of an end that was made

-- of a record of which this is said
pub judged_ends : {E : Type 0} (plan : Plan) (text : List ℕ) (given : Given) (verdict : Verdict) (r : Result coded.Ending E) → IsRecord plan text given → IsVerdict plan.deployment (behaviours_in plan) given verdict
    → IfOk r (λ e. ending_of e ≡ verdict_end ((names_in plan).node given.node) verdict) → IfOk r (λ e. IsEndOfAudit plan text (ending_of e))
judged_ends plan text given verdict (Ok e) is_record verdict_is is = inl (given, verdict, record { is_record = is_record; verdict_is = verdict_is }, is)
judged_ends plan text given verdict (Err e) is_record verdict_is is = tt

-- of a text with a bad line
pub bad_line_ends : {E : Type 0} (plan : Plan) (text : List ℕ) (number : ℕ) (r : Result coded.Ending E) → IsBadAt plan text number → IfOk r (λ e. ending_of e ≡ bad_line_end number)
    → IfOk r (λ e. IsEndOfAudit plan text (ending_of e))
bad_line_ends plan text number (Ok e) bad is = inr (number, bad, is)
bad_line_ends plan text number (Err e) bad is = tt

-- ---- and its status

abbrev pub IsStatusOfAudit : Plan → List ℕ → Status → Type 0
IsStatusOfAudit plan text status = ((status ≡ Done) × IsTrueRecord plan text) ⊎ ((status ≡ BadRecord) × IsRefusedRecord plan text)

pub audit_status : (plan : Plan) (text : List ℕ) (ending : Ending) → IsEndOfAudit plan text ending → IsStatusOfAudit plan text ending.status
audit_status plan text ending (inl (given, Yes, judged, is)) = inl (ap (λ (e : Ending). e.status) is, (given, judged))
audit_status plan text ending (inl (given, NotARun, judged, is)) = inr (ap (λ (e : Ending). e.status) is, inr (inl (given, judged)))
audit_status plan text ending (inl (given, Run wrong, judged, is)) = inr (ap (λ (e : Ending). e.status) is, inr (inr (given, wrong, judged)))
audit_status plan text ending (inr (number, bad, is)) = inr (ap (λ (e : Ending). e.status) is, inl (number, bad))

-- a status that no audit ends with
pub never_audits : (status : Status) (plan : Plan) (text : List ℕ) (ending : Ending) → IsEndOfAudit plan text ending → (Done ≡ status → ⊥) → (BadRecord ≡ status → ⊥) → ending.status ≡ status → ⊥
never_audits status plan text ending end no_done no_bad same = elim (audit_status plan text ending end) [
  | inl (done, why) ↦ no_done (sym done ∙ same)
  | inr (bad, why) ↦ no_bad (sym bad ∙ same)
]

-- ---- and where the reason holds the end is that one

pub record EndsAudit (plan : Plan) (text : List ℕ) (status : Status) : Type 0 where
  pub ending : Ending
  pub end : IsEndOfAudit plan text ending
  pub status_is : ending.status ≡ status

pub ends_true : (plan : Plan) (text : List ℕ) → IsTrueRecord plan text → EndsAudit plan text Done
ends_true plan text (given, judged) =
    record { ending = verdict_end ((names_in plan).node given.node) Yes; end = inl (given, Yes, judged, refl); status_is = refl }

pub ends_bad : (plan : Plan) (text : List ℕ) → IsRefusedRecord plan text → EndsAudit plan text BadRecord
ends_bad plan text (inl (number, bad)) = record { ending = bad_line_end number; end = inr (number, bad, refl); status_is = refl }
ends_bad plan text (inr (inl (given, judged))) =
    record { ending = verdict_end ((names_in plan).node given.node) NotARun; end = inl (given, NotARun, judged, refl); status_is = refl }
ends_bad plan text (inr (inr (given, wrong, judged))) =
    record { ending = verdict_end ((names_in plan).node given.node) (Run wrong); end = inl (given, Run wrong, judged, refl); status_is = refl }
