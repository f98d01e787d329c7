use Rattle.std.proofs.Common.{◌≡◌, ◌++◌, drop, map}
use Rattle.circus_deployment.specs.InRange.{AreHostsInRange}
use Rattle.circus_deployment.specs.Meaning.{host_meant}
use Rattle.circus_deployment.proofs.meaning.add_hosts.Given as goal

-- what is made so far, and of what is left
abbrev pub invariant-loop-text : goal.invariant-loop-text
invariant-loop-text l = record {
  in_range : AreHostsInRange (drop l.text-index l.hosts);
  made : l.nodes ++ map (host_meant l.hosted) (drop l.text-index l.hosts) ≡ l.fn.nodes ++ map (host_meant l.hosted) l.hosts;
}
