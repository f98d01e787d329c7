-- The faults of interfaces, modules and deployments keep their order as they are told.
use Rattle.std.proofs.Common.{◌≡◌, ℕ, ◌+◌, cond, List, refl, ◌∙◌, Option, Some, None, nat_lt, arith}
use Rattle.std.proofs.lemmas.Bool.Decides.{nat_tests}
use Rattle.circus_idl.specs.declared.fault.Cause as idl
use Rattle.circus_idl.specs.declared.fault.Cause.TheVariants as interface
use Rattle.circus_idl.specs.declared.interface.Procedure.{Procedure}
use Rattle.circus_idl.specs.declared.interface.Interface.{Interface}
use Rattle.circus_idl.specs.Rank as of_interface
use Rattle.circus_resolve.specs.declared.cause.CheckCause.{CheckCause}
use Rattle.circus_resolve.specs.declared.cause.CheckCause.TheVariants as check
use Rattle.circus_resolve.specs.Causes.{rank}
use Rattle.circus_lang.specs.ModuleTree.{ModuleTree}
use Rattle.circus_check.specs.Answer.{SharedBy}
use Rattle.circus_deployment.specs.declared.cause.Cause as deployed
use Rattle.circus_deployment.specs.declared.cause.Cause.TheVariants as deployment
use Rattle.circus_deployment.specs.Rank as of_deployment
use Rattle.circus_config.specs.Rank.{rank_of}
use Rattle.circus_config.specs.Told.{module_names, interface_cause, interface_told, shared_cause, lacking_cause, module_cause, module_told, deployment_cause, deployment_told}
use Rattle.circus_config.proofs.LeastTold.{KeepsOrder}

moved : (a b n : ℕ) → nat_lt (n + a) (n + b) ≡ nat_lt a b
moved a b n = grind (arith, nat_tests)

-- ---- interfaces

interface_rank : (c : idl.Cause) → rank_of (interface_cause c) ≡ 3 + of_interface.rank_of c
interface_rank interface.Expected = refl
interface_rank interface.Deep = refl
interface_rank interface.Unknown = refl
interface_rank interface.Repeated = refl
interface_rank interface.OutOfRange = refl
interface_rank interface.TooLarge = refl

pub interfaces_in_order : KeepsOrder of_interface.rank_of rank_of interface_told
interfaces_in_order = record {
  place = λ f. refl;
  order = λ f g. (λ i. nat_lt (interface_rank f.cause i) (interface_rank g.cause i)) ∙ moved (of_interface.rank_of f.cause) (of_interface.rank_of g.cause) 3;
}

-- ---- modules

shared_rank : (names : List (List ℕ)) (o : Option SharedBy) → rank_of (shared_cause names o) ≡ 12
shared_rank names None = refl
shared_rank names (Some s) = refl

lacking_rank : (o : Option Procedure) → rank_of (lacking_cause o) ≡ 13
lacking_rank None = refl
lacking_rank (Some p) = refl

module _ (interfaces : List Interface) (modules : List ModuleTree) where
  module_rank : (place : ℕ) (c : CheckCause) → rank_of (module_cause interfaces modules place c) ≡ 5 + rank c
  module_rank place check.Unknown = refl
  module_rank place check.Repeated = refl
  module_rank place check.OutOfRange = refl
  module_rank place check.TooLarge = refl
  module_rank place check.Mistyped = refl
  module_rank place check.Unfinished = refl
  module_rank place check.Forward = refl
  module_rank place check.Shared = shared_rank (module_names modules) _
  module_rank place check.Missing = lacking_rank _
  module_rank place check.TooMany = refl

  pub modules_in_order : KeepsOrder rank rank_of (module_told interfaces modules)
  modules_in_order = record {
    place = λ f. refl;
    order = λ f g. (λ i. nat_lt (module_rank f.place f.cause i) (module_rank g.place g.cause i)) ∙ moved (rank f.cause) (rank g.cause) 5;
  }

-- ---- deployments

-- which of the causes of program files the one of this rank is
spread : ℕ → ℕ
spread n = cond (nat_lt n 3) (5 + n) (10 + n)

spread_in_order : (a b : ℕ) → nat_lt (spread a) (spread b) ≡ nat_lt a b
unfolding spread
spread_in_order a b = grind (arith, nat_tests)

deployment_rank : (lacks : Option (List ℕ)) (c : deployed.Cause) → rank_of (deployment_cause lacks c) ≡ spread (of_deployment.rank_of c)
unfolding spread
deployment_rank lacks deployment.Unknown = refl
deployment_rank lacks deployment.Repeated = refl
deployment_rank lacks deployment.OutOfRange = refl
deployment_rank lacks deployment.Missing = refl
deployment_rank lacks deployment.TooMany = refl

pub deployments_in_order : (lacks : Option (List ℕ)) → KeepsOrder of_deployment.rank_of rank_of (deployment_told lacks)
deployments_in_order lacks = record {
  place = λ f. refl;
  order = λ f g. (λ i. nat_lt (deployment_rank lacks f.cause i) (deployment_rank lacks g.cause i)) ∙ spread_in_order (of_deployment.rank_of f.cause) (of_deployment.rank_of g.cause);
}
