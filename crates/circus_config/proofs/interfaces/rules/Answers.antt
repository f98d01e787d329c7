use Rattle.circus_syntax.specs.InterfaceTree.{interface_of}
use Rattle.circus_idl.specs.Faults as idl
use Rattle.circus_config.proofs.Rules.{fault_told}
use Rattle.circus_config.proofs.interfaces.rules.Goals as goal

pub returns-in_ok-of_interface-in-Err-clause-found : goal.returns-in_ok-of_interface-in-Err-clause-found
returns-in_ok-of_interface-in-Err-clause-found c =
    fault_told _ _ _ _ (idl.read_faults c.args.stop.now (interface_of c.args.text.now)) c.in_ok-of_interface-in-Err.ensures c.in-Err.ensures.err c.keep.ensures
