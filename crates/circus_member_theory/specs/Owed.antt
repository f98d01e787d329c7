-- What a member has made is what it owes.
use Rattle.std.specs.Prelude.{◌≡◌, ℕ, false, List, [], All, filter}
use Rattle.circus_value.specs.ValueTree.{ValueTree}
use Rattle.circus_value.specs.declared.caller.Caller.{Caller}
use Rattle.circus_transfer.specs.declared.joiner.Joiner.{Joiner}
use Rattle.circus_collate.specs.declared.view.View.{View}
use Rattle.circus_record.specs.declared.record.MemberRecord.{MemberRecord}
use Rattle.circus_gather.specs.declared.held.HeldCall.{HeldCall}
use Rattle.circus_member_rules.specs.declared.place.Place.{Place}
use Rattle.circus_member_rules.specs.declared.occurrence.Effect.{Effect}
use Rattle.circus_member_theory.specs.Past.{Past}
use Rattle.circus_member_theory.specs.Asks.{is_of_ask, calls_owed}
use Rattle.circus_member_theory.specs.Made.{is_caller, returns_to, at_most_one, asks, requests, callers}
use Rattle.circus_member_theory.specs.Requests.{is_request, requests_owed}
use Rattle.circus_member_theory.specs.Returns.{return_owed}
use Rattle.circus_member_theory.specs.Snapshots.{snapshot_owed}

-- of a member of a troupe, in this phase at boot, with this record at the end of a past, in which
-- it made this
module _ (troupe : ℕ) (begins : Joiner) (kept : MemberRecord) (p : Past)
    (made : List (ℕ × Effect)) where
  -- the returns to a call that came in a step are the one that it is owed, if any, in the step in
  -- which it is
  abbrev pub IsReturned : ℕ × HeldCall → Type 0
  IsReturned e = returns_to e.1.sender made ≡ at_most_one (return_owed troupe begins kept e.0 e.1 p)

-- of one that had this state at boot: those to a state request are the snapshot that it is owed
module _ (begins : Joiner) (first : List ValueTree) (kept : MemberRecord) (p : Past)
    (made : List (ℕ × Effect)) where
  abbrev pub IsGivenState : ℕ × Caller → Type 0
  IsGivenState e = returns_to e.1 made ≡ at_most_one (snapshot_owed begins first kept e.0 p)

module _ (troupe : ℕ) (begins : Joiner) (first : List ValueTree) (kept : MemberRecord) (p : Past)
    (made : List (ℕ × Effect)) where
  pub record AreReturned : Type 0 where
    pub returns : All (IsReturned troupe begins kept p made) (asks p)
    pub snapshots : All (IsGivenState begins first kept p made) (requests p)
    -- who made no call gets none
    pub others : (c : Caller) → All (λ (other : Caller). is_caller c other ≡ false) (callers p)
        → returns_to c made ≡ []

-- of a member that stands here, with these views at boot: the calls that are no asks are those that
-- it owes, in their order
module _ (place : Place) (boot : List View) (begins : Joiner) (kept : MemberRecord) (p : Past)
    (made : List (ℕ × Effect)) where
  pub record AreRequested : Type 0 where
    pub requests : filter (λ (e : ℕ × Effect). is_request e.1) made
        ≡ requests_owed place boot begins kept p

-- and so are the calls of asks
module _ (place : Place) (boot : List View) (kept : MemberRecord) (p : Past)
    (made : List (ℕ × Effect)) where
  pub record AreAsked : Type 0 where
    pub calls : filter (λ (e : ℕ × Effect). is_of_ask e.1) made ≡ calls_owed place boot kept p
