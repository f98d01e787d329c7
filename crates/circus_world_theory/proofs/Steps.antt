-- What a step of a node gives, and what it gives at boot.
use Rattle.std.proofs.Common.{◌≡◌, ℕ, zero, suc, ◌-◌, ◌<◌, ◌≤◌, Bool, true, false, cond, List, [], ◌∷◌, ◌++◌, length, Option, Result, Ok, Err, All, refl, sym, ap, subst, arith}
use Rattle.std.specs.Prelude.{flat_map}
use Rattle.std.proofs.lemmas.List.{append-nil}
use Rattle.std.proofs.lemmas.List.Concat.{flat_map-append}
use Rattle.std.proofs.lemmas.List.Elements.{All-nil, All-append}
use Rattle.circus_value.specs.ValueTree.{ValueTree}
use Rattle.circus_value.specs.declared.outcome.Outcome.{Outcome}
use Rattle.circus_segment.specs.Segment.{Piece, IsSegment, reading}
use Rattle.circus_segment.specs.declared.fault.SegmentFault.{SegmentFault}
use Rattle.circus_collate.specs.declared.deployment.Deployment.{Deployment}
use Rattle.circus_model.specs.NextTurn.{NextTurn}
use Rattle.circus_model.specs.declared.signature.Signature.{Signature}
use Rattle.circus_exchange.specs.Limits.{never_used}
use Rattle.circus_pair.specs.Lawful.{is_stopped_after}
use Rattle.circus_wire.specs.declared.delivery.Batch.{Batch}
use Rattle.circus_wire.specs.Wire.{WireState, Beginning, IsOther, node_at, after_datagram, sent_by_datagram, heard_from, all_ticked, sent_by_tick, stopped_at}
use Rattle.circus_wire.specs.WireActs.{WireAct, WireActs, begun, followed_by, CameFrom, TickAll, StopOf, acts_at}
use Rattle.circus_wire.specs.WireStanding.{WireStands, pair_of, owed_to, ticks_below}
use Rattle.circus_wire.proofs.Owing.{tick_owed}
use Rattle.circus_wire.proofs.Performing.{came_stands, came_owes}
use Rattle.circus_wire.proofs.Standing.{stands_begun, stands_ticked, stands_stopped}
use Rattle.circus_member_rules.specs.declared.occurrence.Purpose.{Purpose}
use Rattle.circus_node.specs.declared.event.Event.{Event}
use Rattle.circus_node.specs.declared.event.Event.TheVariants.{Datagram, Tick, Down, Join}
use Rattle.circus_node.specs.declared.event.Outputs.{Outputs}
use Rattle.circus_node.specs.Booting.{home_of, made_at_boot, boot_node, fresh_wire}
use Rattle.circus_node.specs.Making.{hears, learns_down, is_told_to_join}
use Rattle.circus_node.specs.NodeState.{NodeState}
use Rattle.circus_node.specs.Sending.{gives_of}
use Rattle.circus_node.specs.Step.{CanCome, step_node}
use Rattle.circus_world_theory.specs.Histories.{beginning_of}
use Rattle.circus_world_theory.specs.NodeActs.{with_all, acts_of_datagram, acts_in, acts_at_boot}
use Rattle.circus_world_theory.proofs.Given.{HaveGiven, OfGives, HoldsBy, Carries, peer_by, peer_at_place, owed_holds, given_by, given_carries, GivesSo, with_both, same_end, concluded_gives}

-- ---- a datagram

module _ (b : Beginning) (acts : WireActs Purpose) (w : WireState Purpose) (from : ℕ) (other : IsOther w from) (stands : WireStands w b acts) where
  datagram_stands : (segment : Result Piece SegmentFault) → ((s : Piece) → segment ≡ Ok s → IsSegment s)
      → WireStands (after_datagram w from segment) b (with_all acts (acts_of_datagram from segment))
  datagram_stands (Ok s) is = came_stands b acts w from s s other stands refl (is s refl) (after_datagram w from (Ok s)) refl
  datagram_stands (Err fault) is = stands

  datagram_gives : (P : OfGives) (segment : Result Piece SegmentFault) → ((s : Piece) → segment ≡ Ok s → IsSegment s) → ((s : Piece) → segment ≡ Ok s → HoldsBy b P acts (CameFrom from s))
      → All (P (with_all acts (acts_of_datagram from segment))) (gives_of (sent_by_datagram w from segment))
  datagram_gives P (Ok s) is holds =
      owed_holds b P acts (CameFrom from s) (after_datagram w from (Ok s)) (sent_by_datagram w from (Ok s)) (holds s refl) (datagram_stands (Ok s) is) (peer_by b acts w from stands other)
      (ap (λ (x : Batch). x.datagrams) (came_owes b acts w from s s other stands refl (is s refl)))
  datagram_gives P (Err fault) is holds = All-nil (P acts)

-- ---- a tick

module _ (b : Beginning) (P : OfGives) (acts : WireActs Purpose) (holds : HoldsBy b P acts TickAll) (w : WireState Purpose) (stands : WireStands w b (followed_by acts TickAll)) where
  ticks_given : (places : ℕ) → places ≤ b.nodes - 1 → All (P (followed_by acts TickAll)) (flat_map gives_of (ticks_below b acts places))
  unfolding ticks_below
  ticks_given zero low = All-nil (P (followed_by acts TickAll))
  ticks_given (suc place) low =
      subst (All (P (followed_by acts TickAll))) (sym (flat_map-append gives_of (ticks_below b acts place) _))
      (All-append (P (followed_by acts TickAll)) (flat_map gives_of (ticks_below b acts place)) _
      (ticks_given place (omega (arith, low))) (by_test (is_stopped_after (acts_at (pair_of b) (node_at b.own place) acts))))
    where
      owed : Batch
      owed = owed_to b acts TickAll (node_at b.own place)

      by_test : (down : Bool) → All (P (followed_by acts TickAll)) (flat_map gives_of (cond down [] (owed ∷ [])))
      by_test true = All-nil (P (followed_by acts TickAll))
      by_test false = subst (All (P (followed_by acts TickAll))) (sym (append-nil (gives_of owed))) (owed_holds b P acts TickAll w owed holds stands (peer_at_place b place (omega (arith, low)) stands.one) refl)

tick_gives : (b : Beginning) (P : OfGives) (acts : WireActs Purpose) (w : WireState Purpose) → HoldsBy b P acts TickAll → WireStands w b acts
    → All (P (followed_by acts TickAll)) (flat_map gives_of (sent_by_tick w))
tick_gives b P acts w holds stands =
    subst (λ (l : List Batch). All (P (followed_by acts TickAll)) (flat_map gives_of l)) (sym (tick_owed w b acts stands))
    (ticks_given b P acts holds (all_ticked w) (stands_ticked b acts w stands) (b.nodes - 1) (omega arith))

-- ---- a step

-- a datagram that comes spells a segment where it is read as one
abbrev pub IsRead : Event → Type 0
IsRead (Datagram from bytes) = (s : Piece) → reading bytes ≡ Ok s → IsSegment s
IsRead Tick = Unit {0}
IsRead (Down node) = Unit {0}
IsRead Join = Unit {0}

-- it holds of what an event makes the pairs send, and of what is handed over then; at a tick nothing is
abbrev pub Brings : Beginning → OfGives → WireActs Purpose → Event → Type 0
Brings b P acts (Datagram from bytes) = Carries b P × ((s : Piece) → reading bytes ≡ Ok s → HoldsBy b P acts (CameFrom from s))
Brings b P acts Tick = HoldsBy b P acts TickAll
Brings b P acts (Down node) = Carries b P
Brings b P acts Join = Carries b P

pub given_brings : (b : Beginning) (acts : WireActs Purpose) (event : Event) → Brings b (HaveGiven b) acts event
given_brings b acts (Datagram from bytes) = (given_carries b, λ s is. given_by b acts (CameFrom from s))
given_brings b acts Tick = given_by b acts TickAll
given_brings b acts (Down node) = given_carries b
given_brings b acts Join = given_carries b

module _ {M : Type 0} (declared : M → Signature) (turn : M → List ValueTree → ℕ → List ValueTree → List Outcome → NextTurn) where
  -- behind what came, what is handed over
  behind : (b : Beginning) (P : OfGives) (acts : WireActs Purpose) (some more : List (WireAct Purpose)) (r : NodeState M × Outputs)
      → GivesSo b P (with_all (with_all acts some) more) r → GivesSo b P (with_all acts (some ++ more)) r
  behind b P acts some more r gives = subst (λ x. GivesSo b P x r) (sym (with_both acts some more)) gives

  pub step_gives : (b : Beginning) (P : OfGives) → b.first ≤ never_used → (acts : WireActs Purpose) (at : ℕ) (event : Event) (n : NodeState M) (r : NodeState M × Outputs) → Brings b P acts event
      → WireStands n.wire b acts → CanCome n event → IsRead event → step_node declared turn at event n ≡ Ok r → GivesSo b P (with_all acts (acts_in declared turn at event n)) r
  step_gives b P low acts at (Datagram from bytes) n r brings stands can read is =
      let m = hears declared turn n.deployment at from (heard_from n.wire from (reading bytes)) n.acting in
      let wire = after_datagram n.wire from (reading bytes) in
      behind b P acts (acts_of_datagram from (reading bytes)) _ r
      (concluded_gives b P brings.0 low (with_all acts (acts_of_datagram from (reading bytes))) (record n { wire = wire; acting = m.acting }) (gives_of (sent_by_datagram n.wire from (reading bytes))) m r
      (datagram_stands b acts n.wire from can stands (reading bytes) read) (datagram_gives b acts n.wire from can stands P (reading bytes) read brings.1) is)
  step_gives b P low acts at Tick n r brings stands can read is =
      subst (GivesSo b P (followed_by acts TickAll)) (same_end _ r is)
      (record { stands = stands_ticked b acts n.wire stands; given = tick_gives b P acts n.wire brings stands })
  step_gives b P low acts at (Down node) n r brings stands can read is =
      let m = learns_down declared turn at node n.acting in
      concluded_gives b P brings low (followed_by acts (StopOf node)) (record n { wire = stopped_at n.wire node; acting = m.acting }) [] m r
      (stands_stopped b acts n.wire node can.0 stands) (All-nil (P (followed_by acts (StopOf node)))) is
  step_gives b P low acts at Join n r brings stands can read is =
      let m = is_told_to_join declared turn at n.acting in
      concluded_gives b P brings low acts (record n { acting = m.acting }) [] m r stands (All-nil (P acts)) is

  module _ (first : M → List ValueTree) where
    pub boot_gives : (d : Deployment) (hosted : Option M) (node : ℕ) (P : OfGives) (r : NodeState M × Outputs) → node < length d.nodes → Carries (beginning_of d node) P
        → boot_node declared turn first d hosted node ≡ Ok r → GivesSo (beginning_of d node) P (with_all begun (acts_at_boot declared turn first d hosted node)) r
    boot_gives d hosted node P r within carries is =
        let m = made_at_boot declared turn first d (home_of d node) hosted in
        concluded_gives (beginning_of d node) P carries (omega arith) begun (record { deployment = d; wire = fresh_wire d node; acting = m.acting; dropped = 0 }) [] m r
        (stands_begun (beginning_of d node) (fresh_wire d node) within refl) (All-nil (P begun)) is
