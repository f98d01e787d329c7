use Rattle.std.proofs.Common.{◌≡◌, drop}
use Rattle.std.specs.List.{list_all}
use Rattle.circus_audit.specs.Seen.Outlook.{is_within}
use Rattle.circus_audit.proofs.outlook.all_within.Given as goal

-- those that are left decide
abbrev pub invariant-loop-each : goal.invariant-loop-each
invariant-loop-each l = list_all (is_within l.fn.from l.fn.last) (drop l.each-index l.expected) ≡ list_all (is_within l.fn.from l.fn.last) l.expected
