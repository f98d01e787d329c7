-- What a member knows of what came to it, where nothing is lost.
use Rattle.std.specs.Prelude.{◌≡◌, ◌≢◌, ℕ, suc, ◌<◌, ◌⊎◌, true, false, List, [], length, take, Some, slice_get}
use Rattle.std.specs.List.{list_any}
use Rattle.circus_value.specs.Among.{is_among}
use Rattle.circus_value.specs.declared.caller.Caller.{Caller}
use Rattle.circus_collate.specs.Giving.{is_from}
use Rattle.circus_collate.specs.declared.deployment.Deployment.{Deployment}
use Rattle.circus_collate.specs.declared.deployment.Troupe.{Troupe}
use Rattle.circus_model.specs.Execution.{is_spent}
use Rattle.circus_record.specs.declared.record.AskRecord.{AskRecord}
use Rattle.circus_record.specs.declared.record.MemberRecord.{MemberRecord}
use Rattle.circus_record.specs.declared.record.RunRecord.{RunRecord}
use Rattle.circus_gather.specs.declared.held.HeldCall.{HeldCall}
use Rattle.circus_fanout.specs.Asking.{Asking}
use Rattle.circus_performing.specs.Performing.{last_of, open_ask, clock_after}
use Rattle.circus_wire.specs.WireActs.{WireActs}
use Rattle.circus_member_rules.specs.OpenAsks.{asking_of}
use Rattle.circus_member_rules.specs.declared.occurrence.Purpose.{Purpose}
use Rattle.circus_member_rules.specs.declared.occurrence.Purpose.TheVariants as for
use Rattle.circus_member_rules.specs.GoneOn.{HasGoneOn}
use Rattle.circus_member_rules.specs.MemberState.{MemberState}
use Rattle.circus_node.specs.NodeState.{member}
use Rattle.circus_world.specs.WorldState.{WorldState, Standing}
use Rattle.circus_world_theory.specs.Agreeing.{HasCalled, HasCalledFor, HasReturned}

-- the record has an ask of a module, which was made with calls left
pub record Recorded (kept : MemberRecord) (index number callee : ℕ) : Type 0 where
  pub run : RunRecord
  pub ask : AskRecord
  pub run_is : slice_get kept.runs index ≡ Some run
  pub ask_is : slice_get run.asks number ≡ Some ask
  pub callee_is : ask.callee ≡ callee
  pub calls_left : is_spent (clock_after run.entry (take number run.asks)) ≡ false

-- an ask of a module is the one that waits for its reply
pub record IsOpenAt (kept : MemberRecord) (index number callee : ℕ) : Type 0 where
  pub run : RunRecord
  pub ask : AskRecord
  pub last : last_of kept.runs ≡ Some run
  pub is_open : open_ask kept ≡ Some ask
  pub callee_is : ask.callee ≡ callee
  pub index_is : suc index ≡ length kept.runs
  pub number_is : suc number ≡ length run.asks

-- the call of a caller waits for its return
pub record IsWaiting {M : Type 0} (m : MemberState M) (caller : Caller) : Type 0 where
  pub place : ℕ
  pub call : HeldCall
  pub there : slice_get m.gathered.held place ≡ Some call
  pub is_of : call.sender ≡ caller

-- nothing has been said to a member, and no call waits there
pub record IsSilent {M : Type 0} (m : MemberState M) : Type 0 where
  pub held : m.gathered.held ≡ []
  pub said : (index number callee : ℕ) → IsOpenAt m.performing.kept index number callee
      → (asking : Asking) → asking_of m.asks (record { run = index; ask = number }) ≡ Some asking
      → asking.said ≡ []

pub record IsTold {M : Type 0} (d : Deployment) (acts : ℕ → WireActs Purpose) (node : ℕ)
    (m : MemberState M) : Type 0 where
  -- each founder of the troupe that an ask goes to was called
  pub called : (index number callee other : ℕ) (t : Troupe)
      → Recorded m.performing.kept index number callee
      → slice_get d.troupes callee ≡ Some t → is_among t.founders other ≡ true
      → (k : ℕ)
      × HasCalledFor d acts node other k (for.Ask (record { run = index; ask = number }) callee)
  -- each call that another node made here waits, or has its return
  pub heard : (caller : Caller) (message : List ℕ)
      → caller.node < length d.nodes → caller.node ≢ node
      → HasCalled d acts caller.node node caller.number message
      → ((back : List ℕ) × HasReturned d acts node caller.node caller.number back)
      ⊎ IsWaiting m caller
  -- what was returned to the calls of an ask that waits has been said to it
  pub said : (other k index number callee asked : ℕ) (message : List ℕ)
      → other < length d.nodes → other ≢ node → HasReturned d acts other node k message
      → HasCalledFor d acts node other k (for.Ask (record { run = index; ask = number }) asked)
      → IsOpenAt m.performing.kept index number callee
      → (asking : Asking) → asking_of m.asks (record { run = index; ask = number }) ≡ Some asking
      → list_any (is_from other) asking.said ≡ true
  -- and it has gone on as far as it can
  pub gone : HasGoneOn m ⊎ IsSilent m

-- each member of a world knows all that
abbrev pub AllTold : {M : Type 0} → Deployment → (ℕ → WireActs Purpose) → WorldState M → Type 0
AllTold {M} d acts w =
    (node : ℕ) (s : Standing M) (m : MemberState M)
    → slice_get w.nodes node ≡ Some s → s.node.acting ≡ member m → IsTold d acts node m
