use Rattle.std.proofs.Common.{◌≡◌, drop, map}
use Rattle.std.specs.List.{list_any}
use Rattle.circus_record.specs.Naming.{host_name}
use Rattle.circus_model.specs.declared.signature.ProcedureShape.{ProcedureShape}
use Rattle.circus_audit.specs.Seen.Outlook.{all_answer}
use Rattle.circus_audit.proofs.differences.ReplyReader.some_procedure.Given as goal

-- those that are left decide
abbrev pub invariant-loop-procedure : goal.invariant-loop-procedure
invariant-loop-procedure l = list_any (λ (p : ProcedureShape). all_answer (map host_name l.self.nodes.now) l.self.modules l.self.own l.imports l.expected l.place.run l.place.ask l.import.module p.number) (drop l.procedure-index l.import.procedures) ≡ list_any (λ (p : ProcedureShape). all_answer (map host_name l.self.nodes.now) l.self.modules l.self.own l.imports l.expected l.place.run l.place.ask l.import.module p.number) l.import.procedures
