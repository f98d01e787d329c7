use Rattle.std.proofs.Common.{◌≡◌, drop, take, map, None}
use Rattle.std.specs.Prelude.{IfNone}
use Rattle.circus_syntax.specs.InterfaceTree.{interface_of}
use Rattle.circus_fault.specs.Least.{least_from}
use Rattle.circus_fault.specs.Stopping.{stop_faults}
use Rattle.circus_fault.specs.Seen.Tables.{known_of}
use Rattle.circus_idl.specs.Faults.{cut_of}
use Rattle.circus_config.specs.declared.program_fault.ProgramCause.TheVariants.{Syntax, Deep}
use Rattle.circus_config.specs.Rank.{rank_of}
use Rattle.circus_config.specs.Reading.{interfaces_faults, read_faults}
use Rattle.circus_config.specs.Program.{EachMeans}
use Rattle.circus_config.specs.Seen.{least_fault}
use Rattle.circus_config.proofs.interfaces.interfaces.Given as goal

-- the interfaces that are left decide with what is kept, a stop is found, and those so far are made where nothing is
abbrev pub invariant-loop-number : goal.invariant-loop-number
invariant-loop-number l = record {
  found :
      least_from rank_of (least_fault l.least) (interfaces_faults (cut_of l.stop) (known_of l.names) l.number (map interface_of (drop l.number l.texts)))
      ≡ least_from rank_of None (read_faults l.stop (map interface_of l.texts));
  stopped : least_from rank_of (least_fault l.least) (stop_faults Syntax Deep l.stop) ≡ least_fault l.least;
  means : IfNone l.least.found (EachMeans (map interface_of (take l.number l.texts)) l.made);
}
