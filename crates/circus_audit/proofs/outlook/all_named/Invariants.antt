use Rattle.std.proofs.Common.{◌≡◌, drop}
use Rattle.std.specs.List.{list_all}
use Rattle.circus_audit.specs.Seen.Outlook.{is_named}
use Rattle.circus_audit.proofs.outlook.all_named.Given as goal

-- those that are left decide
abbrev pub invariant-loop-each : goal.invariant-loop-each
invariant-loop-each l = list_all (is_named l.fn.kept) (drop l.each-index l.expected) ≡ list_all (is_named l.fn.kept) l.expected
