use Rattle.std.proofs.Common.{ap, ◌∙◌}
use Rattle.circus_machine.specs.Modules.{turn_with}
use Rattle.circus_machine.specs.declared.text.TextModule.{TextModule}
use Rattle.circus_check.specs.Resolved.{module_as}
use Rattle.circus_modules.specs.Zeros.{zeros}
use Rattle.circus_modules.specs.Behaviours.{behaviour_of}
use Rattle.circus_modules.proofs.Behaving.{meant_so, of_parts}
use Rattle.circus_modules.proofs.text_modules.text_module.Goals as goal

pub returns : goal.returns
returns c =
    of_parts (λ (m : TextModule). m.parts.value.signature) (λ (m : TextModule). turn_with m.parts.value.signature m.parts.value.bodies) (λ (m : TextModule). m.parts.value.first) c.in_ok-signature.signature c.in_ok-first.first c.in_ok-bodies.bodies
    (behaviour_of c.args.limit c.args.interfaces.now c.args.implemented.now (module_as c.args.«module»))
    (meant_so c.args.limit c.args.interfaces.now c.args.implemented.now (module_as c.args.«module») c.in_ok-signature.signature c.in_ok-first.first c.in_ok-bodies.bodies c.in_ok-signature.ensures (c.in_ok-first.ensures ∙ ap zeros c.as_slice.ensures) c.in_ok-bodies.ensures)
    c.new.result c.new.ensures.declared c.new.ensures.turn c.new.ensures.first
