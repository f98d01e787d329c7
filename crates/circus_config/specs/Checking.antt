-- The faults of the pass that checks: all those of modules over the interfaces, and those of the deployment over the modules.
use Rattle.std.specs.Prelude.{ℕ, List, ◌++◌, map}
use Rattle.circus_fault.specs.declared.fault.Fault.{Fault}
use Rattle.circus_idl.specs.declared.interface.Interface.{Interface}
use Rattle.circus_lang.specs.ModuleTree.{ModuleTree}
use Rattle.circus_check.specs.Plain.{all}
use Rattle.circus_troupe.specs.declared.deployment_text.DeploymentText.{DeploymentText}
use Rattle.circus_deployment.specs.Nodes.{troupe_numbers}
use Rattle.circus_deployment.specs.Faults.{first_without_troupe, deployment_faults}
use Rattle.circus_config.specs.declared.program_fault.ProgramCause.{ProgramCause}
use Rattle.circus_config.specs.Told.{module_told, deployment_told}

-- where the file ends here
abbrev pub checked_faults : List Interface → List ModuleTree → ℕ → DeploymentText → List (Fault ProgramCause)
checked_faults interfaces modules end d =
    map (module_told interfaces modules) (all interfaces modules)
    ++ map (deployment_told (first_without_troupe (troupe_numbers d.troupes) modules)) (deployment_faults modules end d)
