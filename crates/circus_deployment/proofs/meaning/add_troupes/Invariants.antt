use Rattle.std.proofs.Common.{◌≡◌, ◌++◌, drop}
use Rattle.std.specs.List.{AllByRecursion, flat_map}
use Rattle.circus_fault.specs.Seen.Tables.{known_of}
use Rattle.circus_deployment.specs.InRange.{IsTroupeInRange}
use Rattle.circus_deployment.specs.Meaning.{hosts_meant}
use Rattle.circus_deployment.specs.Seen.{as_words}
use Rattle.circus_deployment.proofs.meaning.add_troupes.Given as goal

-- what is made so far, and of what is left
abbrev pub invariant-loop-troupe : goal.invariant-loop-troupe
invariant-loop-troupe l = record {
  in_range : AllByRecursion IsTroupeInRange (drop l.troupe-index l.troupes);
  made : l.nodes ++ flat_map (hosts_meant (as_words (known_of l.modules))) (drop l.troupe-index l.troupes) ≡ l.fn.nodes ++ flat_map (hosts_meant (as_words (known_of l.modules))) l.troupes;
}
