-- When what happened to a served node is a node run.
use Rattle.std.specs.Prelude.{ℕ, ◌≡◌, ◌+◌, List, [], ◌∷◌, ◌++◌}
use Rattle.circus_value.specs.Parts.{AreOctets}
use Rattle.circus_collate.specs.declared.deployment.Deployment.{Deployment}
use Rattle.circus_collate.specs.declared.deployment.Troupe.{Troupe}
use Rattle.circus_model.specs.Behaviour.{Behaviour}
use Rattle.circus_outside.specs.declared.link.TakenFrom.{TakenFrom}
use Rattle.circus_outside.specs.declared.link.TakenFrom.TheVariants.{From, Nothing}
use Rattle.circus_record.specs.declared.record.MemberRecord.{MemberRecord}
use Rattle.circus_node.specs.Trace as trace
use Rattle.circus_node.specs.Trace.{Trace}
use Rattle.circus_serve.specs.declared.happening.Happening.{Happening}
use Rattle.circus_serve.specs.declared.happening.Happening.TheVariants.{Booted, Stepped, Foreign}
use Rattle.circus_headline_theory.specs.Trace.{now}
use Rattle.circus_headline_theory.specs.NodeRun.{IsNodeRun}

-- what is taken is bytes
abbrev pub IsOfOctets : TakenFrom → Type 0
IsOfOctets (From port bytes) = AreOctets bytes
IsOfOctets Nothing = Unit {0}

-- what happened at the node itself: a foreign datagram is no event
abbrev pub own_happenings : List Happening → List Happening
own_happenings [] = []
own_happenings (Booted gives ∷ others) = Booted gives ∷ own_happenings others
own_happenings (Stepped event gives differences ∷ others) = Stepped event gives differences ∷ own_happenings others
own_happenings (Foreign port bytes ∷ others) = own_happenings others

-- what the record of a served node shows of a trace
abbrev pub shown_of : Trace → List Happening
shown_of (trace.booted made outputs) = Booted outputs.gives ∷ []
shown_of (trace.stepped t at event made outputs) = shown_of t ++ Stepped event outputs.gives outputs.differences ∷ []

-- its events are numbered from 1 on
abbrev pub IsNumbered : Trace → Type 0
IsNumbered (trace.booted made outputs) = Unit {0}
IsNumbered (trace.stepped t at event made outputs) = IsNumbered t × (at ≡ now t + 1)

-- a trace that shows just this, with the record of the member in the end, is a node run
pub record IsServedRun (d : Deployment) (b : Behaviour) (node number : ℕ) (troupe : Troupe) (happened : List Happening) (kept : MemberRecord) : Type 0 where
  pub lived : Trace
  pub shows : own_happenings happened ≡ shown_of lived
  pub numbered : IsNumbered lived
  pub is : IsNodeRun d b node number troupe lived kept

-- so it is as far as it came, with the record that the member had then
pub record IsServedSoFar (d : Deployment) (b : Behaviour) (node number : ℕ) (troupe : Troupe) (happened : List Happening) : Type 0 where
  pub kept : MemberRecord
  pub is : IsServedRun d b node number troupe happened kept
