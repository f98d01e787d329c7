-- What is promised of a whole run, over what a report shows of it.
use Rattle.std.specs.Prelude.{ℕ, ◌≡◌, ◌<◌, ◌≤◌, List, length, All, AllPairs, Some, is_some, slice_get}
use Rattle.circus_collate.specs.declared.deployment.Deployment.{Deployment}
use Rattle.circus_collate.specs.declared.deployment.Troupe.{Troupe}
use Rattle.circus_collate.specs.declared.view.View.{View}
use Rattle.circus_model.specs.Agree.{IsAt}
use Rattle.circus_model.specs.Behaviour.{Behaviour}
use Rattle.circus_record.specs.declared.record.MemberRecord.{MemberRecord}
use Rattle.circus_member_rules.specs.Rules.{ringmaster}
use Rattle.circus_node.specs.Accepting.{troupe_at}
use Rattle.circus_schedule.specs.declared.line.Line.{Line}
use Rattle.circus_world.specs.Lines.{IsBetween}
use Rattle.circus_world.specs.Sent.{Sent}
use Rattle.circus_headline_theory.specs.Facts.{Facts, NodeFacts, AllStand}
use Rattle.circus_headline_theory.specs.NodeRun.{IsNodeRun}
use Rattle.circus_headline_theory.specs.Trace.{events_of}
use Rattle.circus_node.specs.Trace.{Trace}
use Rattle.circus_headline_theory.specs.Events.{crash_in, events_for}
use Rattle.circus_headline_theory.specs.Legality.{AreLegal}
use Rattle.circus_headline_theory.specs.RingRun.{IsRingRun}
use Rattle.circus_headline_theory.specs.Sendings.{SentWhatWasGiven}

-- a node lived through what the lines gave to it, and all that is from it is what it gave
pub record LivedThrough (node : ℕ) (lines : List Line) (sent : List Sent) (t : Trace) : Type 0 where
  pub events_are : events_of t ≡ events_for node sent lines
  pub sent_is : SentWhatWasGiven node sent t

-- so did the node of a member of a troupe, which has this record, and it is a node run
pub record HasRun (d : Deployment) (b : Behaviour) (node number : ℕ) (troupe : Troupe) (lines : List Line) (sent : List Sent) (kept : MemberRecord) : Type 0 where
  pub trace : Trace
  pub lived : LivedThrough node lines sent trace
  pub is : IsNodeRun d b node number troupe trace kept

-- so did the Ringmaster's node, and it keeps these views
pub record HasRingRun (d : Deployment) (lines : List Line) (sent : List Sent) (views : List View) : Type 0 where
  pub trace : Trace
  pub lived : LivedThrough ringmaster lines sent trace
  pub is : IsRingRun d ringmaster trace views

-- a node is shown as crashed where the lines crash it, and with a record where it hosts a member
pub record IsShown (d : Deployment) (lines : List Line) (facts : Facts) (node : ℕ) : Type 0 where
  pub shown : NodeFacts
  pub there : slice_get facts.nodes node ≡ Some shown
  pub crashed_is : shown.crashed ≡ crash_in node lines
  pub hosts : is_some shown.member ≡ is_some (troupe_at d node)

pub record Headline (d : Deployment) (program : List Behaviour) (lines : List Line) (facts : Facts) : Type 0 where
  -- each line is legal behind those before it
  pub legal : AreLegal d facts.sent lines
  -- there is a module for each troupe, and each node of the program is shown, and nothing else
  pub modules : length program ≡ length d.troupes
  pub all : length facts.nodes ≡ length d.nodes
  pub nodes : (node : ℕ) → node < length d.nodes → IsShown d lines facts node
  -- each datagram goes from one of them to another one, and none is of an earlier step than one before it
  pub between : All (IsBetween (length d.nodes)) facts.sent
  pub in_order : AllPairs (λ (earlier later : Sent). earlier.step ≤ later.step) facts.sent
  -- each member's node lived through what the lines gave to it, sent all that is from it, and is a node run
  pub runs : (node number : ℕ) (troupe : Troupe) (b : Behaviour) (n : NodeFacts) (kept : MemberRecord) → slice_get facts.nodes node ≡ Some n
      → n.member ≡ Some kept → troupe_at d node ≡ Some number → slice_get d.troupes number ≡ Some troupe → IsAt program number b
      → HasRun d b node number troupe lines facts.sent kept
  -- what each active member performed are the next runs of its module in the history of the program
  pub stand : AllStand d program facts
  -- the Ringmaster's views are those that the ring's rule gives for the requests that it accepted, in order
  pub views : HasRingRun d lines facts.sent facts.views
