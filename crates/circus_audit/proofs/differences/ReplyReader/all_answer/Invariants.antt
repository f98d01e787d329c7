use Rattle.std.proofs.Common.{◌≡◌, drop, map}
use Rattle.std.specs.List.{list_all}
use Rattle.circus_record.specs.Naming.{host_name}
use Rattle.circus_audit.specs.Seen.Outlook.{answers_if}
use Rattle.circus_audit.proofs.differences.ReplyReader.all_answer.Given as goal

-- those that are left decide
abbrev pub invariant-loop-each : goal.invariant-loop-each
invariant-loop-each l = list_all (answers_if (map host_name l.self.nodes.now) l.self.modules l.self.own l.imports l.place.run l.place.ask l.callee.module l.callee.procedure) (drop l.each-index l.expected) ≡ list_all (answers_if (map host_name l.self.nodes.now) l.self.modules l.self.own l.imports l.place.run l.place.ask l.callee.module l.callee.procedure) l.expected
