use Rattle.std.proofs.Common.{Option, Some, sym, subst}
use Rattle.circus_syntax.specs.declared.named.Named.{Named}
use Rattle.circus_check.specs.Seen.Programs.{IsTableOf, interfaces_in}
use Rattle.circus_check.proofs.module.Program.interface.Goals as goal

pub returns-in-None : goal.returns-in-None
returns-in-None c = subst (λ (name : Option Named). IsTableOf (interfaces_in c.args.self.now) name (Some c.args.self.now.nothing)) (sym c.in-None.is) c.requires.nothing

pub returns-in-Some : goal.returns-in-Some
returns-in-Some c = subst (λ (name : Option Named). IsTableOf (interfaces_in c.args.self.now) name c.interface_named.result) (sym c.in-Some.is) c.interface_named.ensures
