use Rattle.std.proofs.Common.{map, ◌∙◌, ap}
use Rattle.circus_machine.specs.Modules.{turn_with}
use Rattle.circus_machine.specs.declared.text.TextModule.{TextModule}
use Rattle.circus_check.specs.Resolved.{module_as}
use Rattle.circus_modules.specs.Behaviours.{program_of}
use Rattle.circus_plan_modules.proofs.Fitting.{meant_of_troupes}
use Rattle.circus_plan_modules.proofs.loaded.load.Goals as goal

pub returns-clause-fit : goal.returns-clause-fit
returns-clause-fit c =
    let plan = c.args.plan in
    meant_of_troupes (λ (m : TextModule). record {
      declared = m.parts.value.signature;
      turn = turn_with m.parts.value.signature m.parts.value.bodies;
      first = m.parts.value.first;
    })
    c.in_ok-interfaces.modules.items plan.deployment plan.checked.interfaces (map module_as plan.checked.modules) c.requires.obey c.requires.well_formed c.requires.roots
    (c.in_ok-interfaces.ensures.behave ∙ ap (λ limit. program_of limit plan.checked.interfaces (map module_as plan.checked.modules)) c.limit-limit.ensures)
    c.in_ok-interfaces.ensures.agree
