-- What is found of a deployment.
use Rattle.std.proofs.Common.{◌≡◌, ℕ, Bool, true, false, List, Bor, Option, Some, None, refl, ◌∙◌, ap}
use Rattle.std.specs.Prelude.{is_some, is_none, not, option_map, option_copied}
use Rattle.circus_syntax.specs.declared.named.Named.{Named}
use Rattle.circus_fault.specs.declared.fault.Fault.{Fault}
use Rattle.circus_fault.specs.Least.{least_from, faults_if}
use Rattle.circus_fault.specs.Known.{Known, nobody}
use Rattle.circus_lang.specs.ModuleTree.{ModuleTree}
use Rattle.circus_troupe.specs.declared.deployment_text.TroupeText.{TroupeText}
use Rattle.circus_troupe.specs.declared.deployment_text.DeploymentText.{DeploymentText}
use Rattle.circus_deployment.specs.declared.cause.Cause.{Cause}
use Rattle.circus_deployment.specs.declared.cause.Cause.TheVariants.{Missing}
use Rattle.circus_deployment.specs.Rank.{rank_of}
use Rattle.circus_deployment.specs.Nodes.{nodes_of, module_numbers, troupe_numbers}
use Rattle.circus_deployment.specs.Faults.{no_nodes, nodes_faults, troupes_faults, first_without_troupe, deployment_faults}
use Rattle.circus_deployment.proofs.LeastOf.{least_three}

pub none_told : {X : Type 0} (o : Option X) (b : Bool) → is_some o ≡ not b → b ≡ is_none o
none_told None true is = refl
none_told None false is = absurd (cc)
none_told (Some x) true is = absurd (cc)
none_told (Some x) false is = refl

pub some_told : (o : Option (Bor Named)) → is_some o ≡ is_some (option_map (λ (n : Named). n.name) (option_copied o))
some_told None = refl
some_told (Some n) = refl

-- the first module without a troupe
pub lacks_is : (modules : List ModuleTree) (d : DeploymentText) (troupes : Known) (ts : List TroupeText) (lacks : Option (List ℕ)) → ts ≡ d.troupes → troupes ≡ troupe_numbers ts → lacks ≡ first_without_troupe troupes modules
    → lacks ≡ first_without_troupe (troupe_numbers d.troupes) modules
lacks_is modules d troupes ts lacks ts_is troupes_is told = told ∙ ap (λ k. first_without_troupe k modules) (troupes_is ∙ ap troupe_numbers ts_is)

-- the least of all faults
pub all_found : (modules : List ModuleTree) (end : ℕ) (d : DeploymentText) (numbers : Known) (ts : List TroupeText) (one two three : Option (Fault Cause)) (lacks : Option (List ℕ)) (b : Bool)
    → numbers ≡ module_numbers modules → ts ≡ d.troupes → lacks ≡ first_without_troupe (troupe_numbers d.troupes) modules → b ≡ is_some lacks
    → one ≡ least_from rank_of None (nodes_faults no_nodes (nodes_of d)) → two ≡ least_from rank_of one (troupes_faults numbers nobody 0 ts) → three ≡ least_from rank_of two (faults_if b end Missing)
    → three ≡ least_from rank_of None (deployment_faults modules end d)
all_found modules end d numbers ts one two three lacks b numbers_is ts_is told lacking_one first second third =
    least_three None one two three (nodes_faults no_nodes (nodes_of d)) (troupes_faults (module_numbers modules) nobody 0 d.troupes) (faults_if (is_some (first_without_troupe (troupe_numbers d.troupes) modules)) end Missing)
    first
    (second ∙ ap (λ k. least_from rank_of one (troupes_faults k nobody 0 ts)) numbers_is ∙ ap (λ l. least_from rank_of one (troupes_faults (module_numbers modules) nobody 0 l)) ts_is)
    (third ∙ ap (λ t. least_from rank_of two (faults_if t end Missing)) (lacking_one ∙ ap is_some told))
