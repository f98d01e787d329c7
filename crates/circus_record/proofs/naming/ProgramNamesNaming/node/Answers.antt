use Rattle.std.proofs.Common.{IsAscii, sym, subst}
use Rattle.circus_record.proofs.NamesOf.{ascii_at}
use Rattle.circus_record.proofs.naming.ProgramNamesNaming.node.Goals as goal

pub ascii_text-requires : goal.ascii_text-requires
ascii_text-requires c = subst IsAscii (sym c.node_name.ensures) (ascii_at c.self.inside.nodes.now c.args.number c.self.invariant.0)
