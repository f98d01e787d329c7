use Rattle.std.proofs.Common.{◌≡◌, drop}
use Rattle.std.specs.List.{list_all}
use Rattle.circus_audit.specs.Seen.Outlook.{is_asked}
use Rattle.circus_audit.proofs.outlook.all_asked.Given as goal

-- those that are left decide
abbrev pub invariant-loop-each : goal.invariant-loop-each
invariant-loop-each l = list_all (is_asked l.fn.run l.fn.asks) (drop l.each-index l.expected) ≡ list_all (is_asked l.fn.run l.fn.asks) l.expected
