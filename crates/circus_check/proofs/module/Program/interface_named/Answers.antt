use Rattle.std.proofs.Common.{None, subst, refl}
use Rattle.circus_check.specs.Naming.{at_number}
use Rattle.circus_check.specs.Seen.Programs.{IsTable, interfaces_in}
use Rattle.circus_check.proofs.OwnTables.{item_read, table_at}
use Rattle.circus_check.proofs.module.Program.interface_named.Goals as goal

pub returns-in-Some : goal.returns-in-Some
returns-in-Some c =
    let interfaces = interfaces_in c.args.self.now in
    let n = c.in-Some.number in
    let known = c.args.self.now.known.now in
    let found = c.get.result in
    subst (λ i. IsTable (at_number interfaces i) found) c.in-Some.ensures
    (table_at known interfaces n found c.requires.told (item_read known n found c.get.ensures.lookup.3))

pub returns-in-None : goal.returns-in-None
returns-in-None c = subst (λ i. IsTable (at_number (interfaces_in c.args.self.now) i) None) c.in-None.ensures refl
