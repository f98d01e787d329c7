-- A message that arrives was handed over.
use Rattle.std.proofs.Common.{◌≡◌, ◌≢◌, ℕ, ◌<◌, Bool, true, false, cond, List, [], ◌∷◌, ◌++◌, length, All, Option, None, Some, Result, Ok, Err, refl, sym, ap, subst, ◌∙◌}
use Rattle.std.specs.Prelude.{slice_get}
use Rattle.circus_value.specs.declared.caller.Caller.{Caller}
use Rattle.circus_segment.specs.Segment.{Piece, IsSegment, reading}
use Rattle.circus_segment.specs.declared.fault.SegmentFault.{SegmentFault}
use Rattle.circus_collate.specs.declared.deployment.Deployment.{Deployment}
use Rattle.circus_exchange.specs.declared.taken.Arrived.{Arrived}
use Rattle.circus_exchange.specs.declared.taken.Arrived.TheVariants.{Nothing, ArrivedCall, ArrivedReturn}
use Rattle.circus_exchange.specs.Exchange.{start}
use Rattle.circus_pair.specs.Acts.{Acts, Came, more, end_after}
use Rattle.circus_pair.specs.Handed.{call_at, return_at}
use Rattle.circus_pair.specs.Lawful.{AreLawful}
use Rattle.circus_pair.specs.Sending.{takes_after}
use Rattle.circus_pair.specs.Standing.{arrival_after}
use Rattle.circus_pair.specs.TwoEnds.{Arrival, WasSent, arrived_in, handed_over, arrivals_of, sent_by}
use Rattle.circus_pair.proofs.Following.{arrives_as_owed}
use Rattle.circus_wire.specs.declared.delivery.Heard.{Heard}
use Rattle.circus_wire.specs.declared.delivery.Heard.TheVariants.{Dropped, Taken, Called, Returned}
use Rattle.circus_wire.specs.Wire.{hear_arrival, told_return, heard_from}
use Rattle.circus_wire.specs.WireActs.{WireActs, purpose_of}
use Rattle.circus_wire.specs.WireStanding.{pair_of}
use Rattle.circus_wire.proofs.Performing.{came_tells}
use Rattle.circus_member_rules.specs.declared.occurrence.Purpose.{Purpose}
use Rattle.circus_world.specs.Sent.{Sent}
use Rattle.circus_world.specs.WorldState.{WorldState, Standing}
use Rattle.circus_world.proofs.ComeLemmas.{datagram_may_come, goes_there}
use Rattle.circus_world.proofs.SlotLemmas.{all_at}
use Rattle.circus_world_theory.specs.Histories.{beginning_of}
use Rattle.circus_world_theory.proofs.Given.{get_behind}
use Rattle.circus_world_theory.proofs.Talks.{talks_on, agree}
use Rattle.circus_world_theory.proofs.Worlds.{Stands, IsGiven, at_pair, is_other, lawful_at, came_sent}

-- ---- what is told of a segment says what arrived

nothing_called : (caller : Caller) (message : List ℕ) → ◌≡◌ {A = Heard Purpose} Taken (Called caller message) → ⊥
nothing_called caller message is = cc

nothing_returned : (call : ℕ) (purpose : Purpose) (message : List ℕ) → ◌≡◌ {A = Heard Purpose} Taken (Returned call purpose message) → ⊥
nothing_returned call purpose message is = cc

called_is : (purposes : ℕ → Option Purpose) (node : ℕ) (taken : Bool) (a : Arrived) (caller : Caller) (message : List ℕ)
    → cond taken (hear_arrival purposes node a) Dropped ≡ Called caller message → (caller.node ≡ node) × (a ≡ ArrivedCall caller.number message)
called_is purposes node false a caller message is = absurd (let clash : ◌≡◌ {A = Heard Purpose} Dropped (Called caller message) = is in cc)
called_is purposes node true Nothing caller message is = absurd (nothing_called caller message is)
called_is purposes node true (ArrivedCall number m) caller message is =
    let who : Caller = record { node = node; number = number } in
    let same : who ≡ caller = cc in
    let bytes : m ≡ message = cc in
    (ap (λ (c : Caller). c.node) (sym same), ap (λ k. ArrivedCall k m) (ap (λ (c : Caller). c.number) same) ∙ ap (ArrivedCall caller.number) bytes)
called_is purposes node true (ArrivedReturn number m) caller message is = absurd (by_purpose (purposes number) is)
  where
    by_purpose : (o : Option Purpose) → told_return number m o ≡ Called caller message → ⊥
    by_purpose None is = nothing_called caller message is
    by_purpose (Some purpose) is = cc

returned_is : (purposes : ℕ → Option Purpose) (node : ℕ) (taken : Bool) (a : Arrived) (call : ℕ) (purpose : Purpose) (message : List ℕ)
    → cond taken (hear_arrival purposes node a) Dropped ≡ Returned call purpose message → (a ≡ ArrivedReturn call message) × (purposes call ≡ Some purpose)
returned_is purposes node false a call purpose message is = absurd (let clash : ◌≡◌ {A = Heard Purpose} Dropped (Returned call purpose message) = is in cc)
returned_is purposes node true Nothing call purpose message is = absurd (nothing_returned call purpose message is)
returned_is purposes node true (ArrivedCall number m) call purpose message is = absurd (clash (record { node = node; number = number }) is)
  where
    clash : (who : Caller) → ◌≡◌ {A = Heard Purpose} (Called who m) (Returned call purpose message) → ⊥
    clash who is = cc
returned_is purposes node true (ArrivedReturn number m) call purpose message is = by_purpose (purposes number) refl is
  where
    by_purpose : (o : Option Purpose) → purposes number ≡ o → told_return number m o ≡ Returned call purpose message
        → (ArrivedReturn number m ≡ ArrivedReturn call message) × (purposes call ≡ Some purpose)
    by_purpose None at is = absurd (nothing_returned call purpose message is)
    by_purpose (Some p) at is =
        let number_is : number ≡ call = cc in
        let purpose_is : p ≡ purpose = cc in
        let bytes : m ≡ message = cc in
        (ap (λ k. ArrivedReturn k m) number_is ∙ ap (ArrivedReturn call) bytes, ap purposes (sym number_is) ∙ at ∙ ap (λ (x : Purpose). Some x) purpose_is)

-- ---- a datagram that was sent

last_holds : {X : Type 0} (Holds : X → Type 0) (xs : List X) (x : X) → All Holds (xs ++ x ∷ []) → Holds x
last_holds Holds xs x all = (let found = get_behind xs (x ∷ []) 0 x refl in all_at Holds (xs ++ x ∷ []) found.0 x all found.1)

module _ {M : Type 0} (d : Deployment) (acts : ℕ → WireActs Purpose) (w : WorldState M) (so_far : Stands d acts w)
    (number : ℕ) (sent : Sent) (s : Standing M) (there : slice_get w.sent number ≡ Some sent) (at : slice_get w.nodes sent.to ≡ Some s) where
  abbrev here : Acts
  here = at_pair d acts sent.to sent.from

  abbrev yonder : Acts
  yonder = at_pair d acts sent.from sent.to

  from_below : sent.from < length d.nodes
  from_below = subst (λ k. sent.from < k) so_far.all (datagram_may_come w number sent so_far.sound there).0

  to_below : sent.to < length d.nodes
  to_below = subst (λ k. sent.to < k) so_far.all (goes_there w number sent so_far.sound there)

  differs : sent.from ≢ sent.to
  differs = (datagram_may_come w number sent so_far.sound there).1

  module _ (p : Piece) (read : reading sent.bytes ≡ Ok p) where
    came : IsSegment p × WasSent (sent_by (start 0 d.format) yonder) (Came p)
    came = came_sent d acts w so_far sent.from sent.to sent.bytes p from_below to_below differs (all_at (IsGiven d acts) w.sent number sent so_far.sent there) read

    -- what arrives by it was handed over
    handed : (a : Arrival) → arrivals_of (arrival_after (start 0 d.format) here p) ≡ a ∷ [] → handed_over 0 yonder a.kind a.call ≡ Some a.message
    handed a is =
        let e = start 0 d.format in
        let lawful : AreLawful 0 d.format here = lawful_at d sent.to sent.from s.node.wire (acts sent.to) (so_far.stands sent.to s at) from_below differs in
        let talks = talks_on d.format here yonder (Came p) (so_far.talks sent.to sent.from to_below from_below (λ same. differs (sym same))) came.0 came.1 in
        let arrives = arrives_as_owed (end_after e here) 0 d.format here (record { lawful = lawful; is = refl }) p came.0 in
        last_holds (λ (x : Arrival). handed_over 0 yonder x.kind x.call ≡ Some x.message) (arrived_in e here) a
        (subst (λ l. All (λ (x : Arrival). handed_over 0 yonder x.kind x.call ≡ Some x.message) (arrived_in e here ++ l)) (ap arrivals_of arrives ∙ is)
        (agree d.format (more here (Came p)) yonder so_far.known talks).0.sent)

    heard : heard_from s.node.wire sent.from (Ok p)
        ≡ cond (takes_after (start 0 d.format) here p) (hear_arrival (purpose_of (start 0 d.format) sent.from (acts sent.to)) sent.from (arrival_after (start 0 d.format) here p)) Dropped
    heard =
        let stands = so_far.stands sent.to s at in
        came_tells (beginning_of d sent.to) (acts sent.to) s.node.wire sent.from p p (is_other d sent.to sent.from s.node.wire (acts sent.to) stands from_below differs) stands refl came.0

  pub call_handed : (caller : Caller) (message : List ℕ) → heard_from s.node.wire sent.from (reading sent.bytes) ≡ Called caller message
      → (caller.node ≡ sent.from) × (call_at 0 yonder caller.number ≡ Some message)
  call_handed caller message is = by_segment (reading sent.bytes) refl is
    where
      by_segment : (segment : Result Piece SegmentFault) → reading sent.bytes ≡ segment → heard_from s.node.wire sent.from segment ≡ Called caller message
          → (caller.node ≡ sent.from) × (call_at 0 yonder caller.number ≡ Some message)
      by_segment (Ok p) read is =
          let arrived = called_is _ sent.from _ (arrival_after (start 0 d.format) here p) caller message (sym (heard p read) ∙ is) in
          (arrived.0, handed p read (record { kind = 0; call = caller.number; message = message }) (ap arrivals_of arrived.1))
      by_segment (Err fault) read is = absurd (let clash : ◌≡◌ {A = Heard Purpose} Dropped (Called caller message) = is in cc)

  pub return_handed : (call : ℕ) (purpose : Purpose) (message : List ℕ) → heard_from s.node.wire sent.from (reading sent.bytes) ≡ Returned call purpose message
      → (return_at yonder call ≡ Some message) × (purpose_of (pair_of (beginning_of d sent.to)) sent.from (acts sent.to) call ≡ Some purpose)
  return_handed call purpose message is = by_segment (reading sent.bytes) refl is
    where
      by_segment : (segment : Result Piece SegmentFault) → reading sent.bytes ≡ segment → heard_from s.node.wire sent.from segment ≡ Returned call purpose message
          → (return_at yonder call ≡ Some message) × (purpose_of (pair_of (beginning_of d sent.to)) sent.from (acts sent.to) call ≡ Some purpose)
      by_segment (Ok p) read is =
          let arrived = returned_is (purpose_of (start 0 d.format) sent.from (acts sent.to)) sent.from _ (arrival_after (start 0 d.format) here p) call purpose message (sym (heard p read) ∙ is) in
          (handed p read (record { kind = 1; call = call; message = message }) (ap arrivals_of arrived.0), arrived.1)
      by_segment (Err fault) read is = absurd (let clash : ◌≡◌ {A = Heard Purpose} Dropped (Returned call purpose message) = is in cc)
