use Rattle.std.proofs.lemmas.Map.Text.{btree_map_updates_str}
use Rattle.circus_fault.specs.Seen.Tables.{known_of}
use Rattle.circus_fault.proofs.tables.Names.insert.Goals as goal

pub returns-clause-added : goal.returns-clause-added
unfolding known_of
returns-clause-added c = λ i other. btree_map_updates_str c.args.name.now c.args.self.now.table c.insert.new.self _ c.in_ok-insert.ensures.updates other i
