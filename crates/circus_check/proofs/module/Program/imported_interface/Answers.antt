use Rattle.std.proofs.Common.{Some, None, subst, refl}
use Rattle.circus_check.specs.Naming.{Import}
use Rattle.circus_check.specs.Seen.Programs.{IsImported, modules_in, interfaces_in}
use Rattle.circus_check.proofs.module.Program.imported_interface.Goals as goal

pub returns-in-Good : goal.returns-in-Good
returns-in-Good c = subst (λ (i : Import). IsImported (interfaces_in c.args.self.now) (modules_in c.args.self.now) (Some i) (Some c.interface_of_module.result)) c.in-Good.ensures c.interface_of_module.ensures

pub returns-in-Forward : goal.returns-in-Forward
returns-in-Forward c = subst (λ (i : Import). IsImported (interfaces_in c.args.self.now) (modules_in c.args.self.now) (Some i) (Some None)) c.in-Forward.ensures refl

pub returns-in-NoModule : goal.returns-in-NoModule
returns-in-NoModule c = subst (λ (i : Import). IsImported (interfaces_in c.args.self.now) (modules_in c.args.self.now) (Some i) (Some None)) c.in-NoModule.ensures refl
