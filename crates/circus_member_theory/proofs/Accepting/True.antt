-- What is accepted of true messages is true.
use Rattle.std.proofs.Common.{◌≡◌, ℕ, ◌<◌, List, Some}
use Rattle.circus_value.specs.ValueTree.{ValueTree}
use Rattle.circus_value.specs.declared.caller.Caller.{Caller}
use Rattle.circus_value.specs.declared.outcome.Outcome.{Outcome}
use Rattle.circus_collate.specs.declared.deployment.Deployment.{Deployment}
use Rattle.circus_model.specs.Agree.{IsAt, AreModules, Agree}
use Rattle.circus_model.specs.Behaviour.{Behaviour}
use Rattle.circus_model.specs.Execution.{history_of}
use Rattle.circus_model.specs.NextTurn.{NextTurn}
use Rattle.circus_model.specs.declared.signature.Signature.{Signature}
use Rattle.circus_performing.specs.Record.{behaviour}
use Rattle.circus_wire.specs.declared.delivery.Heard.TheVariants as hears
use Rattle.circus_member_rules.specs.declared.occurrence.Occurrence.{Occurrence}
use Rattle.circus_member_rules.specs.declared.occurrence.Purpose.{Purpose}
use Rattle.circus_member_rules.specs.MemberState.{MemberState}
use Rattle.circus_member_rules.specs.Proper.{AreProper}
use Rattle.circus_member_theory.specs.Truth.{IsTrueMember, IsTrueOccurrence, IsTrueCallFor, IsTrueReturn}
use Rattle.circus_node.specs.Accepting.{occurrence_of_heard}
use Rattle.circus_member_theory.proofs.Accepting.TrueCalls.{called_true}
use Rattle.circus_member_theory.proofs.Accepting.TrueReturns.{returned_true}

module _ {M : Type 0} (declared : M → Signature) (turn : M → List ValueTree → ℕ → List ValueTree → List Outcome → NextTurn) (first : M → List ValueTree)
    (program : List Behaviour) (agree : Agree program) (are : AreModules program) (proper : AreProper program) (d : Deployment) (troupe : ℕ) (Called : Caller → List ℕ → Type 0) where
  -- a call that arrives: its message is a true one of some troupe, for some purpose
  pub call_is_true : (m : MemberState M) (from client : ℕ) (firsts : List ValueTree) (Other : Caller → List ℕ → Type 0)
      (sender : Caller) (message : List ℕ) (purpose : Purpose) (o : Occurrence)
      → m.place.troupe ≡ troupe → IsTrueCallFor (history_of program) client firsts Other purpose message → Called sender message
      → occurrence_of_heard d (declared m.performing.hosted) m from (hears.Called sender message) ≡ Some o
      → IsTrueOccurrence (history_of program) troupe (first m.performing.hosted) Called m o
  call_is_true m from client firsts Other sender message purpose o own true_call called is =
      called_true (history_of program) troupe (first m.performing.hosted) Called m d (declared m.performing.hosted) m.place.troupe own sender o
      client firsts Other purpose message true_call called is

  -- a return that arrives to an own call that was made for a purpose; `server` is the troupe of the node that returns
  pub return_is_true : (m : MemberState M) (from number server : ℕ) (firsts : List ValueTree) (caller : Caller) (purpose : Purpose) (call message : List ℕ) (o : Occurrence)
      → IsAt program troupe (behaviour declared turn first m.performing.hosted)
      → IsTrueMember (history_of program) troupe (first m.performing.hosted) Called m
      → IsTrueCallFor (history_of program) troupe (first m.performing.hosted) Called purpose call
      → IsTrueReturn (history_of program) server firsts (λ c l. l ≡ call) caller message
      → (server ≡ troupe → firsts ≡ first m.performing.hosted) → server < 32 → troupe < 32
      → occurrence_of_heard d (declared m.performing.hosted) m from (hears.Returned number purpose message) ≡ Some o
      → IsTrueOccurrence (history_of program) troupe (first m.performing.hosted) Called m o
  return_is_true m from number server firsts caller purpose call message o at_own true_member true_call true_return own low own_low is =
      returned_true declared turn first program agree are proper d troupe Called m at_own server firsts caller call message from o
      purpose true_member true_call true_return own low own_low is
