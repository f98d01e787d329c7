-- What is found so far, with more faults.
use Rattle.std.specs.Prelude.{not, ◌||◌}
use Rattle.circus_fault.specs.Least.{least_from, is_clean}
use Rattle.circus_resolve.specs.declared.findings.Findings.{Findings}
use Rattle.circus_resolve.specs.Causes.{rank}
use Rattle.circus_resolve.specs.Faults.{Faults}

abbrev pub with_faults : Findings → Faults → Findings
with_faults found faults = record {
  best = record { fault = least_from rank found.best.fault faults };
  any = not (is_clean faults) || found.any;
}
