-- That a node keeps the record of what its member does.
use Rattle.std.specs.Prelude.{ℕ, List}
use Rattle.circus_value.specs.ValueTree.{ValueTree}
use Rattle.circus_value.specs.declared.outcome.Outcome.{Outcome}
use Rattle.circus_model.specs.NextTurn.{NextTurn}
use Rattle.circus_model.specs.declared.signature.Signature.{Signature}
use Rattle.circus_performing.specs.Record.{IsRecord, behaviour}
use Rattle.circus_node.specs.NodeState.{Acting, member, ringmaster}

module _ {M : Type 0} (declared : M → Signature) (turn : M → List ValueTree → ℕ → List ValueTree → List Outcome → NextTurn) (first : M → List ValueTree) where
  -- what a member keeps is a record of its module's runs; the Ringmaster keeps none
  abbrev pub IsRecorded : Acting M → Type 0
  IsRecorded (member m) = IsRecord (behaviour declared turn first m.performing.hosted) m.performing.began m.performing.kept
  IsRecorded (ringmaster kept) = Unit {0}
