-- What a node hands over in a step is what it makes, and calls that were made stay.
use Rattle.std.proofs.Common.{◌≡◌, ℕ, Bool, true, false, cond, ◌&&◌, List, [], ◌∷◌, ◌++◌, All, Some, Result, Ok, Err}
use Rattle.std.specs.Prelude.{flat_map}
use Rattle.std.proofs.lemmas.List.Elements.{All-head, All-tail}
use Rattle.circus_value.specs.declared.caller.Caller.{Caller}
use Rattle.circus_segment.specs.Segment.{Piece, reading}
use Rattle.circus_segment.specs.declared.fault.SegmentFault.{SegmentFault}
use Rattle.circus_pair.specs.Handed.{call_at}
use Rattle.circus_wire.specs.Wire.{WireState, Beginning, is_up}
use Rattle.circus_wire.specs.WireActs.{WireAct, WireActs, followed_by, CallTo, AnswerTo, acts_at}
use Rattle.circus_wire.specs.WireStanding.{pair_of}
use Rattle.circus_member_rules.specs.declared.occurrence.Purpose.{Purpose}
use Rattle.circus_member_rules.specs.declared.occurrence.Effect.{Effect}
use Rattle.circus_member_rules.specs.declared.occurrence.Effect.TheVariants as made
use Rattle.circus_node.specs.declared.event.Event.{Event}
use Rattle.circus_node.specs.declared.event.Event.TheVariants as comes
use Rattle.circus_node.specs.Sending.{is_sendable}
use Rattle.circus_world_theory.specs.NodeActs.{with_all, acts_of_datagram, came_by, handed_by}
use Rattle.circus_world_theory.proofs.Saying.{IsSaid, AllSaid, call_stays}

pub calls_stay : (b : Beginning) (acts : WireActs Purpose) (later : List (WireAct Purpose)) (node n : ℕ) (found : List ℕ)
    → call_at b.first (acts_at (pair_of b) node acts) n ≡ Some found
    → call_at b.first (acts_at (pair_of b) node (with_all acts later)) n ≡ Some found
calls_stay b acts [] node n found is = is
calls_stay b acts (act ∷ later) node n found is = calls_stay b (followed_by acts act) later node n found (call_stays b acts act node n found is)

module _ (OfCall : Purpose → List ℕ → Type 0) (OfReturn : Caller → List ℕ → Type 0) where
  abbrev EachSaid : List (WireAct Purpose) → Type 0
  EachSaid [] = Unit {0}
  EachSaid (act ∷ acts) = IsSaid OfCall OfReturn act × EachSaid acts

  -- what is made is of a kind
  abbrev pub IsMade : Effect → Type 0
  IsMade (made.Call to message purpose) = OfCall purpose message
  IsMade (made.Answer caller message) = OfReturn caller message

  both_said : (some later : List (WireAct Purpose)) → EachSaid some → EachSaid later → EachSaid (some ++ later)
  both_said [] later first rest = rest
  both_said (act ∷ some) later first rest = (first.0, both_said some later first.1 rest)

  more_said : (acts : WireActs Purpose) (later : List (WireAct Purpose)) → AllSaid OfCall OfReturn acts → EachSaid later → AllSaid OfCall OfReturn (with_all acts later)
  more_said acts [] said each = said
  more_said acts (act ∷ later) said each = more_said (followed_by acts act) later (said, each.0) each.1

  came_said : (event : Event) → EachSaid (came_by event)
  came_said (comes.Datagram from bytes) = by_segment (reading bytes)
    where
      by_segment : (segment : Result Piece SegmentFault) → EachSaid (acts_of_datagram from segment)
      by_segment (Ok s) = (tt, tt)
      by_segment (Err fault) = tt
  came_said comes.Tick = (tt, tt)
  came_said (comes.Down node) = (tt, tt)
  came_said comes.Join = tt

  one_handed : (w : WireState Purpose) (e : Effect) → IsMade e → EachSaid (handed_by w e)
  one_handed w (made.Call to message purpose) so = by_test (is_up w to && is_sendable w.format message)
    where
      by_test : (b : Bool) → EachSaid (cond b (CallTo to message purpose ∷ []) [])
      by_test true = (so, tt)
      by_test false = tt
  one_handed w (made.Answer caller message) so = by_test (is_sendable w.format message)
    where
      by_test : (b : Bool) → EachSaid (cond b (AnswerTo caller message ∷ []) [])
      by_test true = (so, tt)
      by_test false = tt

  all_handed_said : (w : WireState Purpose) (effects : List Effect) → All IsMade effects → EachSaid (flat_map (handed_by w) effects)
  all_handed_said w [] so = tt
  all_handed_said w (e ∷ effects) so =
      both_said (handed_by w e) (flat_map (handed_by w) effects) (one_handed w e (All-head IsMade e effects so)) (all_handed_said w effects (All-tail IsMade e effects so))

  -- at boot
  pub boot_said : (acts : WireActs Purpose) (w : WireState Purpose) (effects : List Effect) → AllSaid OfCall OfReturn acts → All IsMade effects
      → AllSaid OfCall OfReturn (with_all acts (flat_map (handed_by w) effects))
  boot_said acts w effects said so = more_said acts (flat_map (handed_by w) effects) said (all_handed_said w effects so)

  -- in a step
  pub step_said : (acts : WireActs Purpose) (event : Event) (w : WireState Purpose) (effects : List Effect) → AllSaid OfCall OfReturn acts → All IsMade effects
      → AllSaid OfCall OfReturn (with_all acts (came_by event ++ flat_map (handed_by w) effects))
  step_said acts event w effects said so =
      more_said acts (came_by event ++ flat_map (handed_by w) effects) said
      (both_said (came_by event) (flat_map (handed_by w) effects) (came_said event) (all_handed_said w effects so))
