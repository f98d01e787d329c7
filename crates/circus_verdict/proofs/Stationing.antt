-- What comes of an event at the pairs of a node is what is owed for it, and so is what is made, behind it.
use Rattle.std.specs.Bool.{Decides}
use Rattle.std.proofs.Common.{◌≡◌, ◌≢◌, ◌⊎◌, ℕ, ◌<◌, ◌&&◌, Bool, true, false, List, [], ◌∷◌, ◌++◌, length, Result, Ok, Err, refl, sym, ap, subst, ◌∙◌, arith, append-nil}
use Rattle.std.specs.Prelude.{All, flat_map, if◌then◌else◌}
use Rattle.std.proofs.lemmas.List.Elements.{All-head, All-tail}
use Rattle.circus_segment.specs.Segment.{reading}
use Rattle.circus_collate.specs.declared.deployment.Deployment.{Deployment}
use Rattle.circus_wire.specs.Wire.{WireState, Beginning, Remains, IsOther}
use Rattle.circus_exchange.specs.Limits.{never_used}
use Rattle.circus_wire.specs.WireActs.{WireAct, WireActs, CallTo, AnswerTo, TickAll, made_to}
use Rattle.circus_wire.specs.WireStanding.{WireStands}
use Rattle.circus_wire.proofs.Owing.{tick_owed, suspects_owed}
use Rattle.circus_wire.proofs.Standing.{stands_ticked, stands_stopped}
use Rattle.circus_member_rules.specs.declared.occurrence.Difference.{Difference}
use Rattle.circus_member_rules.specs.declared.occurrence.Effect.{Effect}
use Rattle.circus_member_rules.specs.declared.occurrence.Effect.TheVariants as makes
use Rattle.circus_member_rules.specs.declared.occurrence.Purpose.{Purpose}
use Rattle.circus_node.specs.Sending.{sent, gives_of, is_sendable, all_handed}
use Rattle.circus_node.specs.Seen.Sent as sending
use Rattle.circus_node.specs.declared.event.Event.{Event}
use Rattle.circus_node.specs.declared.event.Event.TheVariants as comes
use Rattle.circus_node.specs.declared.event.Give.{Give}
use Rattle.circus_node.specs.declared.event.StepFault.{StepFault}
use Rattle.circus_node.specs.declared.event.StepFault.TheVariants as fault
use Rattle.circus_world_theory.specs.Histories.{beginning_of}
use Rattle.circus_world_theory.specs.NodeActs.{with_all, came_by, handed_by}
use Rattle.circus_world_theory.proofs.Given.{with_both}
use Rattle.circus_headline_theory.specs.Peers.{ComeOfPeers, GoesToPeer}
use Rattle.circus_headline_theory.specs.Trace.{handed_over, acts_in_step, gives_for, gives_for_all}
use Rattle.circus_headline_theory.proofs.Accepting.{heard_as}
use Rattle.circus_headline_theory.proofs.Datagrams.AtPairs.{other_by}
use Rattle.circus_headline_theory.proofs.Datagrams.Theorem.{is_read}
use Rattle.circus_headline_theory.proofs.Handing.{up_is}
use Rattle.circus_headline_theory.proofs.Sends.{gives_both, numbers_stand, IsSpent, HandsSo, all_on, datagram_stands, datagram_of, datagram_gives}
use Rattle.circus_verdict.specs.Seen.Living.{ComesSo}
use Rattle.circus_audit.specs.declared.given.GivenEvent.{GivenEvent}
use Rattle.circus_verdict.specs.Seen.Station.{IsFormatted, AreOf, StandFor, MayComeTo, came_to, wire_behind, IsOwed, IsHanded, IsHandedOver, TellsOf}
use Rattle.circus_verdict.specs.declared.station.Pairs.{Pairs}

module _ (d : Deployment) (node : ℕ) (acts : WireActs Purpose) (p : Pairs) (stand : StandFor d node acts p) where
  abbrev began : Beginning
  began = beginning_of d node

  pub came_owed : (event : Event) → ComesSo d node event → IsOwed d node acts event (came_to p.wire event)
  came_owed (comes.Datagram from bytes) so =
      let other = other_by began acts p.wire from stand.stands so.other in
      let read = is_read (comes.Datagram from bytes) so.octets in
      record {
        gives = datagram_gives began acts p.wire from other stand.stands stand.of_peers (reading bytes) read;
        suspects = refl;
        heard = sym (heard_as began acts p.wire from (reading bytes) other stand.stands read);
      }
  came_owed comes.Tick so =
      record {
        gives = ap (flat_map gives_of) (tick_owed p.wire began acts stand.stands) ∙ sym (append-nil (gives_for began acts TickAll));
        suspects = suspects_owed p.wire began acts stand.stands;
        heard = refl;
      }
  came_owed (comes.Down other) so = record { gives = refl; suspects = refl; heard = refl }
  came_owed comes.Join so = record { gives = refl; suspects = refl; heard = refl }

  pub came_stand : (event : Event) → ComesSo d node event → (q : Pairs) → q.wire ≡ wire_behind p.wire event → StandFor d node (with_all acts (came_by event)) q
  came_stand event so q is = record { stands = subst (λ w. WireStands w began (with_all acts (came_by event))) (sym is) (stands_so event so); of_peers = peers_so event so }
    where
      stands_so : (e : Event) → ComesSo d node e → WireStands (wire_behind p.wire e) began (with_all acts (came_by e))
      stands_so (comes.Datagram from bytes) so =
          datagram_stands began acts p.wire from (other_by began acts p.wire from stand.stands so.other) stand.stands stand.of_peers (reading bytes) (is_read (comes.Datagram from bytes) so.octets)
      stands_so comes.Tick so = stands_ticked began acts p.wire stand.stands
      stands_so (comes.Down other) so = stands_stopped began acts p.wire other (other_by began acts p.wire other stand.stands so.other).0 stand.stands
      stands_so comes.Join so = stand.stands

      peers_so : (e : Event) → ComesSo d node e → ComeOfPeers began (with_all acts (came_by e))
      peers_so (comes.Datagram from bytes) so =
          datagram_of began acts p.wire from (other_by began acts p.wire from stand.stands so.other) stand.stands stand.of_peers (reading bytes)
      peers_so comes.Tick so = (stand.of_peers, tt)
      peers_so (comes.Down other) so = (stand.of_peers, tt)
      peers_so comes.Join so = stand.of_peers

is_other : (d : Deployment) (node : ℕ) (p : Pairs) → AreOf d node p → (other : ℕ) → (other ≢ node) × (other < length d.nodes) → IsOther p.wire other
is_other d node p a other so =
    let less = so.1 in
    let many = a.pairs in
    ((λ same. so.0 (same ∙ a.own)), omega (arith, less, many))

-- there is still one with each other node, and what is of another node may come there
pub still_of : (d : Deployment) (node : ℕ) (p q : Pairs) → Remains p.wire q.wire → AreOf d node p → AreOf d node q
still_of d node p q remains a = record { own = remains.own ∙ a.own; pairs = remains.pairs ∙ a.pairs }

pub may_come_there : (d : Deployment) (node : ℕ) (p : Pairs) → AreOf d node p → (event : Event) → ComesSo d node event → MayComeTo p.wire event
may_come_there d node p a (comes.Datagram from bytes) so = is_other d node p a from so.other
may_come_there d node p a comes.Tick so = tt
may_come_there d node p a (comes.Down other) so = is_other d node p a other so.other
may_come_there d node p a comes.Join so = tt

-- they keep to their format
pub still_formatted : (p q : Pairs) → q.format ≡ p.format → Remains p.wire q.wire → IsFormatted p → IsFormatted q
still_formatted p q same remains f = record { one = subst (λ n. (n ≡ 1) ⊎ (n ≡ 2)) (sym same) f.one; same = remains.format ∙ f.same ∙ sym same }

-- ---- what is made is handed over

module _ (b : Beginning) (acts : WireActs Purpose) (w : WireState Purpose) (stands : WireStands w b acts) where
  one_alike : (e : Effect) → GoesToPeer b e → handed_by w e ≡ handed_over b acts e
  one_alike (makes.Call to message purpose) peer =
      let up = up_is b acts w to stands (other_by b acts w to stands peer) in
      let format = stands.format in
      λ j. if up j && is_sendable (format j) message then CallTo to message purpose ∷ [] else []
  one_alike (makes.Answer caller message) peer = (let format = stands.format in λ j. if is_sendable (format j) message then AnswerTo caller message ∷ [] else [])

  all_alike : (made : List Effect) → All (GoesToPeer b) made → flat_map (handed_by w) made ≡ flat_map (handed_over b acts) made
  all_alike [] all = refl
  all_alike (e ∷ made) all =
      let one = one_alike e (All-head (GoesToPeer b) e made all) in
      let rest = all_alike made (All-tail (GoesToPeer b) e made all) in
      λ j. one j ++ rest j

module _ (d : Deployment) (own : ℕ) (acts : WireActs Purpose) (came : List (WireAct Purpose)) (made : List Effect) (p q : Pairs) (given gives : List Give)
    (stand : StandFor d own (with_all acts came) p) (same : given ≡ gives_for_all (beginning_of d own) acts came) (peers : All (GoesToPeer (beginning_of d own)) made) where
  abbrev pairs : Beginning
  pairs = beginning_of d own

  abbrev behind : WireActs Purpose
  behind = with_all acts came

  abbrev handed : List (WireAct Purpose)
  handed = flat_map (handed_over pairs behind) made

  -- what handing over comes to
  hands : HandsSo pairs (with_all behind handed) p.wire (given ++ gives_for_all pairs behind handed) (all_handed (sent p.wire given) made)
  hands =
      subst (λ l. HandsSo pairs (with_all behind l) p.wire (given ++ gives_for_all pairs behind l) (all_handed (sent p.wire given) made)) (all_alike pairs behind p.wire stand.stands made peers)
      (all_on pairs (omega arith) behind p.wire (sent p.wire given) given made (record { stands = stand.stands; of_peers = stand.of_peers; up = λ node. refl; format = refl }, refl))

  -- all that happens in the step
  step_acts : with_all behind handed ≡ with_all acts (acts_in_step pairs acts came made)
  step_acts = sym (with_both acts came handed)

  step_gives : given ++ gives_for_all pairs behind handed ≡ gives_for_all pairs acts (acts_in_step pairs acts came made)
  step_gives = ap (λ l. l ++ gives_for_all pairs behind handed) same ∙ sym (gives_both pairs acts came handed)

  pub handed_so : {A : Type 0} (r : Result A StepFault) → sending.IsHanded r q.wire gives (all_handed (sent p.wire given) made) → IsHanded d own acts came made r q gives
  handed_so (Ok unit) is =
      let h = subst (HandsSo pairs (with_all behind handed) p.wire (given ++ gives_for_all pairs behind handed)) is hands in
      let stands = subst (λ a. WireStands q.wire pairs a) step_acts h.0.stands in
      let of_peers = subst (ComeOfPeers pairs) step_acts h.0.of_peers in
      record {
        stand = record { stands = stands; of_peers = of_peers };
        gives_are = h.1 ∙ step_gives;
        numbers = λ to. (let few = numbers_stand pairs (with_all acts (acts_in_step pairs acts came made)) q.wire (omega arith) stands of_peers to in omega (arith, few));
      }
  handed_so (Err (fault.Spent to)) is =
      let many = subst (λ a. IsSpent pairs a to) step_acts (subst (HandsSo pairs (with_all behind handed) p.wire (given ++ gives_for_all pairs behind handed)) is hands) in
      omega (arith, many)
  handed_so (Err fault.NoMemory) is = tt

-- ---- what a record tells of it

module _ (d : Deployment) (node : ℕ) (acts : WireActs Purpose) (came : List (WireAct Purpose)) (made : List Effect) where
  -- a call had no number
  pub spent_over : (p : Pairs) (gives : List Give) (f : StepFault) (to : ℕ) → f ≡ fault.Spent to → IsHanded {A = Unit {0}} d node acts came made (Err f) p gives
      → IsHandedOver d node acts came made p gives false
  spent_over p gives f to is so few =
      let many : never_used < made_to to (with_all acts (acts_in_step (beginning_of d node) acts came made)) =
      subst (λ f. IsHanded {A = Unit {0}} d node acts came made (Err f) p gives) is so in
      let most = few to in
      omega (arith, many, most)

  module _ (differ : List Difference) (told : GivenEvent) (p : Pairs) (gives : List Give) where
    pub untold_numbers : (has : Bool) → has ≡ false → IsHandedOver d node acts came made p gives has → TellsOf d node acts came made differ told p false
    untold_numbers true is handed told_of = cc
    untold_numbers false is handed told_of = handed told_of.numbers

    pub untold_gives : (has : Bool) → has ≡ true → IsHandedOver d node acts came made p gives has → (told.gives ≡ gives → ⊥) → TellsOf d node acts came made differ told p false
    untold_gives true is step other told_of = other (told_of.gives ∙ sym step.gives_are)
    untold_gives false is step other told_of = cc

    pub tells_then : (has : Bool) → has ≡ true → IsHandedOver d node acts came made p gives has → told.gives ≡ gives → (r : Bool) → Decides r (told.differences ≡ differ) → TellsOf d node acts came made differ told p r
    tells_then true is step same true decides =
        record { is = record { numbers = step.numbers; gives = same ∙ step.gives_are; differences = decides.0 refl }; stand = step.stand }
    tells_then true is step same false decides = λ told_of. absurd (let clash : false ≡ true = decides.1 told_of.differences in cc)
    tells_then false is step same r decides = cc
