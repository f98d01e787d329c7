-- The answer that the least fault gives.
use Rattle.std.specs.Prelude.{ℕ, suc, ◌==◌, cond, List, [], ◌∷◌, take, Option, Some, None}
use Rattle.circus_fault.specs.declared.fault.Fault.{Fault}
use Rattle.circus_resolve.specs.declared.cause.CheckCause.{CheckCause}
use Rattle.circus_resolve.specs.declared.cause.CheckCause.TheVariants as cause
use Rattle.circus_idl.specs.declared.interface.Procedure.{Procedure}
use Rattle.circus_idl.specs.declared.interface.Interface.{Interface}
use Rattle.circus_lang.specs.ModuleTree.{ModuleTree}
use Rattle.circus_check.specs.declared.check_fault.CheckFault.{CheckFault}
use Rattle.circus_check.specs.declared.check_fault.CheckFault.TheVariants as answer
use Rattle.circus_limits.specs.Limits.{most_modules}
use Rattle.circus_check.specs.Reach.{Shared, shared_at}
use Rattle.circus_check.specs.Scope.{implemented_by}
use Rattle.circus_check.specs.Faults.{first_missing}

-- at a place: the first of the first ones there
abbrev pub or_else : {X : Type 0} → Option X → Option X → Option X
or_else None other = other
or_else (Some x) other = Some x

-- what the module whose name stands at a place lacks
abbrev pub lacks : List Interface → ℕ → List ModuleTree → Option Procedure
lacks interfaces place [] = None
lacks interfaces place (m ∷ ms) =
    or_else (cond (m.name.at == place) (first_missing (implemented_by interfaces m.interface) m.procedures) None) (lacks interfaces place ms)

-- which module the root whose name stands at a place shares, with which other root
pub record SharedBy : Type 0 where
  pub shared : Shared
  pub second : ℕ

abbrev pub shared_by : ℕ → Option Shared → Option SharedBy
shared_by second None = None
shared_by second (Some s) = Some (record { shared = s; second = second })

abbrev pub shares : List ModuleTree → ℕ → ℕ → List ModuleTree → Option SharedBy
shares modules place i [] = None
shares modules place i (m ∷ ms) =
    or_else (cond (m.name.at == place) (shared_by i (shared_at modules i)) None) (shares modules place (suc i) ms)

-- the answers that tell more than a place; a fault of either cause stands at a name of which there is something to tell
abbrev pub missing_at : ℕ → Option Procedure → CheckFault
missing_at place None = answer.Missing place []
missing_at place (Some p) = answer.Missing place p.name

abbrev pub shared_told : ℕ → Option SharedBy → CheckFault
shared_told place None = answer.Shared place 0 0 0
shared_told place (Some s) = answer.Shared place s.shared.«module» s.shared.first s.second

module _ (interfaces : List Interface) (modules : List ModuleTree) where
  -- the answer to a fault at a place, of this cause
  abbrev pub answer_at : ℕ → CheckCause → CheckFault
  answer_at place cause.Unknown = answer.Unknown place
  answer_at place cause.Repeated = answer.Repeated place
  answer_at place cause.OutOfRange = answer.OutOfRange place
  answer_at place cause.TooLarge = answer.TooLarge place
  answer_at place cause.Mistyped = answer.Mistyped place
  answer_at place cause.Unfinished = answer.Unfinished place
  answer_at place cause.Forward = answer.Forward place
  answer_at place cause.TooMany = answer.TooMany place
  answer_at place cause.Missing = missing_at place (lacks interfaces place (take (suc most_modules) modules))
  answer_at place cause.Shared = shared_told place (shares modules place 0 (take (suc most_modules) modules))

  abbrev pub answer_of : Fault CheckCause → CheckFault
  answer_of f = answer_at f.place f.cause
