use Rattle.std.proofs.Common.{◌≡◌, drop}
use Rattle.circus_fault.specs.Least.{least_from}
use Rattle.circus_fault.specs.Known.{nobody, numbers_behind}
use Rattle.circus_fault.specs.Seen.Tables.{known_of}
use Rattle.circus_place.specs.Rank.{rank_of}
use Rattle.circus_place.specs.declared.text.MachineText.{MachineText}
use Rattle.circus_place.specs.Faults.{machines_faults, numbers_of}
use Rattle.circus_place.proofs.check.machines.Given as goal

-- the machines that are left decide with what is kept
abbrev pub invariant-loop-number : goal.invariant-loop-number
invariant-loop-number l = record {
  found :
      least_from rank_of l.best.fault (machines_faults (known_of l.names) l.number (drop l.number l.machines))
      ≡ least_from rank_of l.fn.best.fault (machines_faults nobody 0 l.machines);
  numbered : numbers_behind (λ (m : MachineText). m.name.name) (known_of l.names) l.number (drop l.number l.machines) ≡ numbers_of l.machines;
}
