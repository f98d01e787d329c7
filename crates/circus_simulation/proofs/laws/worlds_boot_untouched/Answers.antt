use Rattle.circus_simulation.proofs.Untouched.{booted_new}
use Rattle.circus_simulation.proofs.laws.worlds_boot_untouched.Goals as goal

pub returns-clause-untouched : goal.returns-clause-untouched
returns-clause-untouched g c = λ deployment modules world is.
    (booted_new g.M.Module.declared g.M.Module.turn g.M.Module.first deployment modules world is).untouched

pub returns-clause-steps : goal.returns-clause-steps
returns-clause-steps g c = λ deployment modules world is.
    (booted_new g.M.Module.declared g.M.Module.turn g.M.Module.first deployment modules world is).steps
