use Rattle.std.proofs.Common.{◌≡◌, drop}
use Rattle.circus_fault.specs.Least.{least_from}
use Rattle.circus_fault.specs.Known.{nobody, numbers_behind}
use Rattle.circus_fault.specs.Seen.Tables.{known_of}
use Rattle.circus_troupe.specs.declared.deployment_text.TroupeText.{TroupeText}
use Rattle.circus_deployment.specs.Rank.{rank_of}
use Rattle.circus_deployment.specs.Nodes.{troupe_numbers}
use Rattle.circus_deployment.specs.Faults.{troupes_faults}
use Rattle.circus_deployment.proofs.troupes.check_troupes.Given as goal

-- the troupes that are left decide with what is kept
abbrev pub invariant-loop-number : goal.invariant-loop-number
invariant-loop-number l = record {
  found :
      least_from rank_of l.best.fault (troupes_faults (known_of l.modules) (known_of l.troupes) l.number (drop l.number l.texts))
      ≡ least_from rank_of l.fn.best.fault (troupes_faults (known_of l.modules) nobody 0 l.texts);
  numbered : numbers_behind (λ (t : TroupeText). t.name.name) (known_of l.troupes) l.number (drop l.number l.texts) ≡ troupe_numbers l.texts;
}
