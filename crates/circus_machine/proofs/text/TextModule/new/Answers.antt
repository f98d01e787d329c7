use Rattle.std.proofs.Math.Logic.{∥∥₁_elim}
use Rattle.circus_machine.specs.Modules.{behaves}
use Rattle.circus_machine.specs.Seen.Once.{one_way}
use Rattle.circus_machine.proofs.Abiding.{abides}
use Rattle.circus_machine.proofs.text.TextModule.new.Goals as goal

pub invariant_of-parts : goal.invariant_of-parts
invariant_of-parts c = record {
  lawful = ∥∥₁_elim c.requires.bodies (one_way (behaves c.args.signature c.args.first c.args.bodies)) (λ bodies. abides c.args.signature c.args.first c.args.bodies c.requires.first bodies);
}
