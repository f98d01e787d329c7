use Rattle.circus_idl.proofs.TypesPut.{put_known, put_sized, put_formed}
use Rattle.circus_idl.proofs.types.Types.put.Goals as goal

pub returns-clause-known : goal.returns-clause-known
returns-clause-known c = put_known c.args.name.now c.args.self.now.table c.insert.new.self (record { measure = c.args.measure; shape = c.args.shape }) c.in_ok-insert.ensures.updates

pub returns-clause-sized : goal.returns-clause-sized
returns-clause-sized c = put_sized c.args.name.now c.args.self.now.table c.insert.new.self (record { measure = c.args.measure; shape = c.args.shape }) c.in_ok-insert.ensures.updates

pub returns-clause-formed : goal.returns-clause-formed
returns-clause-formed c = put_formed c.args.name.now c.args.self.now.table c.insert.new.self (record { measure = c.args.measure; shape = c.args.shape }) c.in_ok-insert.ensures.updates
