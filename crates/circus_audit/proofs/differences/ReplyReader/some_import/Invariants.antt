use Rattle.std.proofs.Common.{◌≡◌, drop, map}
use Rattle.std.specs.List.{list_any}
use Rattle.circus_record.specs.Naming.{host_name}
use Rattle.circus_audit.specs.Seen.Outlook.{some_procedure}
use Rattle.circus_audit.proofs.differences.ReplyReader.some_import.Given as goal

-- those that are left decide
abbrev pub invariant-loop-import : goal.invariant-loop-import
invariant-loop-import l = list_any (some_procedure (map host_name l.self.nodes.now) l.self.modules l.self.own l.imports l.expected l.place.run l.place.ask) (drop l.import-index l.imports) ≡ list_any (some_procedure (map host_name l.self.nodes.now) l.self.modules l.self.own l.imports l.expected l.place.run l.place.ask) l.imports
