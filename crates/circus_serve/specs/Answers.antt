-- What serving a node answers.
use Rattle.std.specs.Prelude.{ℕ, ◌≡◌, ◌⊎◌, ◌<◌, ◌≤◌, List, [], ◌∷◌, ◌++◌, length, map, Result, Ok, Err}
use Rattle.circus_value.specs.ValueTree.{ValueTree}
use Rattle.circus_value.specs.declared.outcome.Outcome.{Outcome}
use Rattle.circus_collate.specs.declared.deployment.Deployment.{Deployment}
use Rattle.circus_model.specs.NextTurn.{NextTurn}
use Rattle.circus_model.specs.declared.signature.Signature.{Signature}
use Rattle.circus_outside.specs.Link.{Taken, failed, taken_of}
use Rattle.circus_outside.specs.declared.link.TakenFrom.{TakenFrom}
use Rattle.circus_node.specs.declared.event.Give.{Give}
use Rattle.circus_node.specs.NodeState.{NodeState}
use Rattle.circus_serve.specs.declared.happening.Happening.{Happening}
use Rattle.circus_serve.specs.declared.fault.ServeFault.{ServeFault}
use Rattle.circus_serve.specs.declared.fault.ServeFault.TheVariants as fault
use Rattle.circus_serve.specs.Happened.{port_of, given_in}
use Rattle.circus_serve.specs.Serving.{Served, Progress, on, spent, happened_by, serve_takes}
use Rattle.circus_serve.specs.Outside.{Tells, Asked, IsAsked}
use Rattle.circus_serve.specs.Recorded.{Recorded}

-- the node's port alone was bound, and this was taken and given
abbrev pub asked_of_link : Deployment → ℕ → List Taken → List (ℕ × List ℕ) → Asked
asked_of_link d own taken given = record { bound = port_of d own ∷ []; taken = taken; given = given }

module _ {M : Type 0} (declared : M → Signature) (turn : M → List ValueTree → ℕ → List ValueTree → List Outcome → NextTurn) where
  module _ (d : Deployment) (own : ℕ) (booted : NodeState M) (gives : List Give) where
    abbrev after : List TakenFrom → Progress M
    after takes = serve_takes declared turn d own booted gives takes

    -- the node was served on, up to the last of these takes
    abbrev pub WasServed : List TakenFrom → Type 0
    WasServed takes = (before : List TakenFrom) (last : TakenFrom) → takes ≡ before ++ last ∷ [] → (s : Served M) × (after before ≡ on s)

    -- all takes were made, and the record is that of the node over them
    pub record IsServed (turns : ℕ) (old new : Tells) (recorded : Recorded M) : Type 0 where
      pub takes : List TakenFrom
      pub all : length takes ≡ turns
      pub last : Served M
      pub is : after takes ≡ on last
      pub happened : recorded.happened ≡ last.happened
      pub node : recorded.node ≡ last.node
      pub link : IsAsked old new (asked_of_link d own (map taken_of takes) (given_in d last.happened))

    -- behind these takes a step has no number left to a node; all was given that was sent before it
    pub record IsSpent (turns : ℕ) (old new : Tells) (node : ℕ) : Type 0 where
      pub takes : List TakenFrom
      pub few : length takes ≤ turns
      pub before : WasServed takes
      pub happened : List Happening
      pub is : after takes ≡ spent node happened
      pub link : IsAsked old new (asked_of_link d own (map taken_of takes) (given_in d happened))

    -- a take failed, behind these
    pub record HasTakeFailed (turns : ℕ) (old new : Tells) : Type 0 where
      pub takes : List TakenFrom
      pub few : length takes < turns
      pub last : Served M
      pub is : after takes ≡ on last
      pub link : IsAsked old new (asked_of_link d own (map taken_of takes ++ failed ∷ []) (given_in d last.happened))

    -- of what was to be given by these takes this part was given, with all that the takes before the last gave
    pub record IsPartGiven (takes : List TakenFrom) (given : List (ℕ × List ℕ)) : Type 0 where
      pub before : WasServed takes
      pub rest : List (ℕ × List ℕ)
      pub whole : given_in d (happened_by (after takes)) ≡ given ++ rest
      pub earlier : (first : List TakenFrom) (last : TakenFrom) → takes ≡ first ++ last ∷ []
          → (more : List (ℕ × List ℕ)) × (given ≡ given_in d (happened_by (after first)) ++ more)

    -- a give failed, behind these takes
    pub record HasGiveFailed (turns : ℕ) (old new : Tells) : Type 0 where
      pub takes : List TakenFrom
      pub few : length takes ≤ turns
      pub given : List (ℕ × List ℕ)
      pub part : IsPartGiven takes given
      pub missing : (part.rest ≡ []) → ⊥
      pub link : IsAsked old new (asked_of_link d own (map taken_of takes) given)

    -- the node's port could not be bound
    abbrev pub HasBindFailed : Tells → Tells → Type 0
    HasBindFailed old new = IsAsked old new (asked_of_link d own [] [])

    -- memory ran out: in bind, or behind these takes
    pub record HasStopped (turns : ℕ) (old new : Tells) : Type 0 where
      pub takes : List TakenFrom
      pub few : length takes ≤ turns
      pub given : List (ℕ × List ℕ)
      pub part : IsPartGiven takes given
      pub link : IsAsked old new (asked_of_link d own (map taken_of takes) given)

    abbrev pub IsAnswer : ℕ → Tells → Tells → Result (Recorded M) ServeFault → Type 0
    IsAnswer turns old new (Ok recorded) = IsServed turns old new recorded
    IsAnswer turns old new (Err (fault.Spent node)) = IsSpent turns old new node
    IsAnswer turns old new (Err fault.LinkFailed) = HasBindFailed old new ⊎ (HasTakeFailed turns old new ⊎ HasGiveFailed turns old new)
    IsAnswer turns old new (Err fault.NoMemory) = (new ≡ old) ⊎ HasStopped turns old new
