-- What is known of a record as it is judged.
use Rattle.std.specs.Prelude.{ℕ, ◌≡◌, ◌+◌, ◌≤◌, Bool, true, false, List, [], length, All, Option, None, Some, IfSome, slice_get}
use Rattle.circus_limits.specs.Limits.{most_asks}
use Rattle.circus_value.specs.ValueTree.{ValueTree}
use Rattle.circus_collate.specs.declared.deployment.Deployment.{Deployment}
use Rattle.circus_model.specs.Behaviour.{Behaviour}
use Rattle.circus_record.specs.declared.record.AskRecord.{AskRecord}
use Rattle.circus_record.specs.declared.record.MemberRecord.{MemberRecord}
use Rattle.circus_record.specs.declared.record.RunRecord.{RunRecord}
use Rattle.circus_node.specs.Accepting.{troupe_at}
use Rattle.circus_node.specs.Trace.{Trace}
use Rattle.circus_world.specs.Legal.{is_spare}
use Rattle.circus_headline_theory.specs.NodeRun.{state_at_activation}
use Rattle.circus_headline_theory.specs.Numbers.{HasNumbers}
use Rattle.circus_headline_theory.specs.ServedRun.{IsNumbered}
use Rattle.circus_dues.specs.Seen.Sound.{IsSayable}
use Rattle.circus_audit.specs.declared.given.Given.{Given}
use Rattle.circus_verdict.specs.Audited.{events_in, JoinsSo, Awaits, IsRunOf}

-- the places of the runs are numbers that a line may have
abbrev pub FewRuns : Option MemberRecord → Type 0
FewRuns None = Unit {0}
FewRuns (Some kept) = kept.from + length kept.runs ≤ 4294967296

-- a run made no more asks than one may, and each clock that it shows behind one, or at its end, has so many counts
abbrev pub HasCounts : ℕ → Option (List ℕ) → Type 0
HasCounts modules clock = IfSome clock (λ counts. length counts ≡ modules)

pub record IsCounted (modules : ℕ) (run : RunRecord) : Type 0 where
  pub few : length run.asks ≤ most_asks
  pub after : All (λ (ask : AskRecord). HasCounts modules ask.after) run.asks
  pub end : HasCounts modules run.end

-- where the runs of a member are so, what it says may be written into messages
abbrev pub MaySay : Deployment → List Behaviour → Given → Type 0
MaySay d program given =
    (number : ℕ) (b : Behaviour) (kept : MemberRecord)
    → troupe_at d given.node ≡ Some number → slice_get program number ≡ Some b
    → given.member ≡ Some kept → All (IsCounted (length d.troupes)) kept.runs → IsSayable b.declared (length d.troupes) kept

-- the events of a record as a node of the program gives them
pub record AreEvents (d : Deployment) (program : List Behaviour) (given : Given) (lived : Trace) : Type 0 where
  pub events : given.events ≡ events_in lived
  pub numbered : IsNumbered lived
  pub joins : JoinsSo (is_spare d given.node) given.events
  pub declares : Awaits lived []
  pub numbers : HasNumbers d given.node lived

-- and a member has this record then, and became active with this state
pub record HasRunSo (d : Deployment) (program : List Behaviour) (given : Given) (kept : MemberRecord) (begun : List ValueTree) : Type 0 where
  pub lived : Trace
  pub number : ℕ
  pub are : AreEvents d program given lived
  pub hosts : troupe_at d given.node ≡ Some number
  pub run : IsRunOf d program given.node number lived kept
  pub activation : begun ≡ state_at_activation d run.hosted given.node number run.troupe kept lived

-- the record of a member, of which this is said: all of it where it is active, else that of one that has done nothing
abbrev pub whole_record : Bool → MemberRecord → MemberRecord → MemberRecord
whole_record true said nothing = said
whole_record false said nothing = nothing
