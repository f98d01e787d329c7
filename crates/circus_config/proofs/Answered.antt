-- The answers that faults of interfaces, modules and deployments give are told as the faults are.
use Rattle.std.proofs.Common.{◌≡◌, ℕ, List, refl, sym, ◌∙◌, ap, Option, Some, None}
use Rattle.circus_fault.specs.declared.fault.Fault.{Fault}
use Rattle.circus_idl.specs.declared.fault.Cause as idl
use Rattle.circus_idl.specs.declared.fault.Cause.TheVariants as interface
use Rattle.circus_idl.specs.Answer as of_interface
use Rattle.circus_idl.specs.declared.interface.Procedure.{Procedure}
use Rattle.circus_idl.specs.declared.interface.Interface.{Interface}
use Rattle.circus_resolve.specs.declared.cause.CheckCause.{CheckCause}
use Rattle.circus_resolve.specs.declared.cause.CheckCause.TheVariants as check
use Rattle.circus_lang.specs.ModuleTree.{ModuleTree}
use Rattle.circus_check.specs.Answer as of_modules
use Rattle.circus_check.specs.Answer.{SharedBy}
use Rattle.circus_deployment.specs.declared.cause.Cause as deployed
use Rattle.circus_deployment.specs.declared.cause.Cause.TheVariants as deployment
use Rattle.circus_deployment.specs.Answer as of_deployment
use Rattle.circus_config.specs.Told.{interface_told, module_names, shared_cause, lacking_cause, module_cause, module_told, deployment_cause, deployment_told, interface_cause}
use Rattle.circus_config.specs.Seen.{found_at, interface_answer, modules_answer, deployment_answer}

-- ---- what is told

some_of : {X : Type 0} (x y : X) → Some x ≡ Some y → x ≡ y
some_of x y same = cc

none_of : {X : Type 0} (x : X) → None ≡ Some x → ⊥
none_of x same = cc

module _ {A X : Type 0} (told : A → Option X) where
  pub told_is : (a b : A) (x y : X) → told a ≡ Some x → a ≡ b → told b ≡ Some y → x ≡ y
  told_is a b x y of_a same of_b = some_of x y (sym of_a ∙ ap told same ∙ of_b)

  pub told_something : (a none : A) (x : X) → told a ≡ Some x → told none ≡ None → a ≡ none → ⊥
  told_something a none x of_a of_none same = none_of x (sym of_none ∙ ap told (sym same) ∙ of_a)

-- ---- interfaces

interface_at : (place : ℕ) (c : idl.Cause) → interface_answer (of_interface.answer_at place c) ≡ found_at place (interface_cause c)
interface_at place interface.Expected = refl
interface_at place interface.Deep = refl
interface_at place interface.Unknown = refl
interface_at place interface.Repeated = refl
interface_at place interface.OutOfRange = refl
interface_at place interface.TooLarge = refl

pub interface_answered : (f : Fault idl.Cause) → interface_answer (of_interface.answer_of f) ≡ Some (interface_told f)
interface_answered f = interface_at f.place f.cause

-- ---- modules

shared_at : (names : List (List ℕ)) (place : ℕ) (o : Option SharedBy) → modules_answer names (of_modules.shared_told place o) ≡ found_at place (shared_cause names o)
shared_at names place None = refl
shared_at names place (Some s) = refl

missing_at : (names : List (List ℕ)) (place : ℕ) (o : Option Procedure) → modules_answer names (of_modules.missing_at place o) ≡ found_at place (lacking_cause o)
missing_at names place None = refl
missing_at names place (Some p) = refl

module _ (interfaces : List Interface) (modules : List ModuleTree) where
  modules_at : (place : ℕ) (c : CheckCause) → modules_answer (module_names modules) (of_modules.answer_at interfaces modules place c) ≡ found_at place (module_cause interfaces modules place c)
  modules_at place check.Unknown = refl
  modules_at place check.Repeated = refl
  modules_at place check.OutOfRange = refl
  modules_at place check.TooLarge = refl
  modules_at place check.Mistyped = refl
  modules_at place check.Unfinished = refl
  modules_at place check.Forward = refl
  modules_at place check.Shared = shared_at _ place _
  modules_at place check.Missing = missing_at _ place _
  modules_at place check.TooMany = refl

  pub modules_answered : (f : Fault CheckCause) → modules_answer (module_names modules) (of_modules.answer_of interfaces modules f) ≡ Some (module_told interfaces modules f)
  modules_answered f = modules_at f.place f.cause

-- ---- deployments

deployment_at : (lacks : Option (List ℕ)) (place : ℕ) (c : deployed.Cause) → deployment_answer (of_deployment.answer_at lacks place c) ≡ found_at place (deployment_cause lacks c)
deployment_at lacks place deployment.Unknown = refl
deployment_at lacks place deployment.Repeated = refl
deployment_at lacks place deployment.OutOfRange = refl
deployment_at lacks place deployment.Missing = refl
deployment_at lacks place deployment.TooMany = refl

pub deployment_answered : (lacks : Option (List ℕ)) (f : Fault deployed.Cause) → deployment_answer (of_deployment.answer_of lacks f) ≡ Some (deployment_told lacks f)
deployment_answered lacks f = deployment_at lacks f.place f.cause
