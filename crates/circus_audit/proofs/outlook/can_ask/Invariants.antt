use Rattle.std.proofs.Common.{◌≡◌, drop}
use Rattle.std.specs.List.{list_any}
use Rattle.circus_audit.specs.Seen.Outlook.{has_procedures}
use Rattle.circus_audit.proofs.outlook.can_ask.Given as goal

-- those that are left decide
abbrev pub invariant-loop-import : goal.invariant-loop-import
invariant-loop-import l = list_any has_procedures (drop l.import-index l.imports) ≡ list_any has_procedures l.imports
