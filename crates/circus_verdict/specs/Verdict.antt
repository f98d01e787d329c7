-- What is said of a record.
use Rattle.std.specs.Prelude.{ℕ, ◌≡◌, true, List, slice_get, Some}
use Rattle.circus_collate.specs.declared.deployment.Deployment.{Deployment}
use Rattle.circus_model.specs.Behaviour.{Behaviour}
use Rattle.circus_model.specs.Execution.{history_of}
use Rattle.circus_record.specs.declared.record.MemberRecord.{MemberRecord}
use Rattle.circus_performing.specs.Performing.{is_active}
use Rattle.circus_member_theory.specs.Stands.{Stands}
use Rattle.circus_node.specs.Accepting.{troupe_at}
use Rattle.circus_node.specs.Trace.{Trace}
use Rattle.circus_headline_theory.specs.NodeRun.{state_at_activation}
use Rattle.circus_audit.specs.declared.given.Given.{Given}
use Rattle.circus_verdict.specs.declared.verdict.Verdict.{Verdict}
use Rattle.circus_verdict.specs.declared.verdict.Verdict.TheVariants.{Yes, NotARun, Run}
use Rattle.circus_verdict.specs.Audited.{IsRunOf, IsAuditedBy, IsAudited}
use Rattle.circus_verdict.specs.Beside.{IsFirstWrong}

module _ (d : Deployment) (program : List Behaviour) (given : Given) where
  -- where a record is that of an active member, what that performed are runs of the history of the program
  abbrev pub StandsWhereActive : Type 0
  StandsWhereActive =
      (number : ℕ) (hosted : Behaviour) (kept : MemberRecord)
      → troupe_at d given.node ≡ Some number → slice_get program number ≡ Some hosted
      → given.member ≡ Some kept → is_active kept.phase ≡ true
      → Stands (history_of program) number hosted.first kept

  -- the record of an active member is audited and doesn't stand, and this is the first place that is wrong
  pub record DoesNotStand (wrong : ℕ) : Type 0 where
    pub lived : Trace
    pub audited : IsAuditedBy d program given lived
    pub number : ℕ
    pub kept : MemberRecord
    pub is_number : troupe_at d given.node ≡ Some number
    pub is_kept : given.member ≡ Some kept
    pub active : is_active kept.phase ≡ true
    pub run : IsRunOf d program given.node number lived kept
    pub falls : Stands (history_of program) number run.hosted.first kept → ⊥
    pub first_wrong : IsFirstWrong (history_of program) number run.hosted.first
        (state_at_activation d run.hosted given.node number run.troupe kept lived) kept wrong

  abbrev pub IsVerdict : Verdict → Type 0
  IsVerdict Yes = IsAudited d program given × StandsWhereActive
  IsVerdict NotARun = IsAudited d program given → ⊥
  IsVerdict (Run wrong) = DoesNotStand wrong
