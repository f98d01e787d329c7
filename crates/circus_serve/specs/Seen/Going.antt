-- How a node that is served goes on, by a part of the code.
use Rattle.std.specs.Prelude.{◌≡◌, List, ◌++◌, Result, Ok, Err}
use Rattle.circus_collate.specs.declared.deployment.Deployment.{Deployment}
use Rattle.circus_serve.specs.declared.happening.Happening.{Happening}
use Rattle.circus_serve.specs.declared.fault.ServeFault.{ServeFault}
use Rattle.circus_serve.specs.declared.fault.ServeFault.TheVariants as fault
use Rattle.circus_serve.specs.Happened.{given_in}
use Rattle.circus_serve.specs.Serving.{Served, Progress, on, spent, happened_by}
use Rattle.circus_serve.specs.Outside.{Tells}
use Rattle.circus_serve.specs.Seen.Asking.{HasGiven}
use Rattle.circus_serve.specs.declared.serving.Serving.{Serving}

abbrev pub served_of : {M P : Type 0} → Serving M P → Served M
served_of s = record { node = s.core; next = s.log.next; happened = s.log.happened }

module _ {M A : Type 0} (state : A → Served M) where
  -- this is where it goes on, but where the link failed and for want of memory
  abbrev pub GoesTo : Progress M → Result A ServeFault → Type 0
  GoesTo progress (Ok answer) = progress ≡ on (state answer)
  GoesTo progress (Err (fault.Spent node)) = progress ≡ spent node (happened_by progress)
  GoesTo progress (Err fault.LinkFailed) = Unit {0}
  GoesTo progress (Err fault.NoMemory) = Unit {0}

  -- behind what happened before it goes on so, and what it gives then is given
  pub record HasGone (d : Deployment) (old new : Tells) (before : List Happening) (progress : Progress M) (result : Result A ServeFault) : Type 0 where
    pub later : List Happening
    pub happened : happened_by progress ≡ before ++ later
    pub goes : GoesTo progress result
    pub given : HasGiven old new (given_in d later) result
