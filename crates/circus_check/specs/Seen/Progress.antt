-- What is made and found of the modules so far.
use Rattle.std.specs.Prelude.{◌≡◌, ◌≤◌, ℕ, suc, min, List, ◌++◌, length, map, drop, take, Option, Some, None, option_map, slice_get, IfNone}
use Rattle.circus_fault.specs.declared.fault.Fault.{Fault}
use Rattle.circus_fault.specs.Least.{least_from}
use Rattle.circus_resolve.specs.declared.cause.CheckCause.{CheckCause}
use Rattle.circus_resolve.specs.Causes.{rank}
use Rattle.circus_resolve.specs.Faults.{Faults}
use Rattle.circus_idl.specs.declared.interface.Interface.{Interface}
use Rattle.circus_lang.specs.ModuleTree.{ModuleTree}
use Rattle.circus_check.specs.declared.checking.Progress.{Progress}
use Rattle.circus_check.specs.declared.module.Program.{Program}
use Rattle.circus_check.specs.declared.reach.Shared.{Shared}
use Rattle.circus_check.specs.Faults.{faults, modules_faults}
use Rattle.circus_limits.specs.Limits.{most_modules}
use Rattle.circus_check.specs.Meaning.{modules_meant}
use Rattle.circus_check.specs.Reach.{shared_at}
use Rattle.circus_check.specs.Resolved.{module_as}
use Rattle.circus_check.specs.Seen.Programs.{modules_in, interfaces_in}
use Rattle.circus_check.specs.Seen.Rows.{Tells, shared_as}

-- the least of all that is found so far, where these modules are left from a number on
pub record Found (interfaces : List Interface) (modules : List ModuleTree) (best : Option (Fault CheckCause)) (i : ℕ) (left : List ModuleTree) : Type 0 where
  pub all : Faults
  pub least : best ≡ least_from rank None all
  pub whole : all ++ modules_faults interfaces modules all i left ≡ faults interfaces modules

-- what stands of the modules below a number
pub record IsProgress (p : Program) (progress : Progress) (i : ℕ) : Type 0 where
  pub told : Tells progress.reach (modules_in p)
  pub rows : length progress.reach.rows ≡ min i (suc most_modules)
  pub as_many : length progress.shares.items ≡ min i (suc most_modules)
  pub shared : (n : ℕ) (s : Option Shared) → slice_get progress.shares.items n ≡ Some s → option_map shared_as s ≡ shared_at (modules_in p) n
  pub found : Found (interfaces_in p) (modules_in p) progress.best.fault i (drop i (take (suc most_modules) (modules_in p)))
  pub few : IfNone progress.best.fault (i ≤ most_modules)
  pub meant : IfNone progress.best.fault (map module_as progress.made ++ modules_meant (interfaces_in p) (modules_in p) i (drop i (modules_in p)) ≡ modules_meant (interfaces_in p) (modules_in p) 0 (modules_in p))
