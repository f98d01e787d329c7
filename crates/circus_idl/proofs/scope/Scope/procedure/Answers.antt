use Rattle.std.proofs.Common.{◌++◌, ◌∙◌, ap, List}
use Rattle.circus_fault.specs.declared.fault.Fault.{Fault}
use Rattle.circus_fault.specs.Least.{least_from}
use Rattle.circus_fault.specs.Seen.Tables.{known_of, holds_number}
use Rattle.circus_fault.proofs.LeastMore.{least_then}
use Rattle.circus_idl.specs.declared.fault.Cause.{Cause}
use Rattle.circus_idl.specs.Rank.{rank_of}
use Rattle.circus_idl.specs.declared.scope.Scope.{Scope}
use Rattle.circus_idl.specs.Seen.Known.{is_known, type_measure}
use Rattle.circus_idl.specs.Seen.Scoped.{before_of, cut_in}
use Rattle.circus_idl.specs.Inside.{repeated_name, repeated_number, above}
use Rattle.circus_idl.specs.Faults.{together_faults, fields_faults, fields_parts, reports_faults}
use Rattle.circus_type.specs.Seen.Measured.{cut_off}
use Rattle.circus_idl.proofs.scope.Scope.procedure.Goals as goal

pub returns-clause-found : goal.returns-clause-found
returns-clause-found c =
    let s = c.args.self.now in
    let p = c.args.procedure.now in
    let before = before_of s in
    let best = s.best.fault in
    let name = repeated_name before.names p.name in
    let together = together_faults cut_off (cut_in s) before.types before.sizes p.name p.arguments in
    let arguments = fields_faults cut_off (cut_in s) before.types before.sizes before.parts p.arguments in
    let results = fields_faults cut_off (cut_in s) before.types before.sizes (fields_parts cut_off before.sizes before.parts p.arguments) p.results in
    let reports = reports_faults before.errors p.reports in
    let number = repeated_number before.procedure_numbers p.number in
    let found : Scope → List (Fault Cause) = λ t. fields_faults cut_off (cut_in t) (is_known t.types) (type_measure t.types) t.parts p.arguments in
    let found_results : Scope → List (Fault Cause) = λ t. fields_faults cut_off (cut_in t) (is_known t.types) (type_measure t.types) t.parts p.results in
    let kept = c.in_ok-fields.ensures.others
    ∙ ap (λ (t : Scope). record t { best = c.fields.new.self.best; parts = fields_parts cut_off (type_measure t.types) t.parts p.arguments }) c.in_ok-arguments_together.ensures.others in
    let errors = ap (λ (t : Scope). known_of t.errors) c.in_ok-fields-2.ensures.others ∙ ap (λ (t : Scope). known_of t.errors) kept in
    let numbers = ap (λ (t : Scope). holds_number t.procedure_numbers) c.reports.ensures.others
    ∙ ap (λ (t : Scope). holds_number t.procedure_numbers) c.in_ok-fields-2.ensures.others
    ∙ ap (λ (t : Scope). holds_number t.procedure_numbers) kept in
    let b1 = c.meet_name.new.best.fault in
    let b2 = c.arguments_together.new.self.best.fault in
    let b3 = c.fields.new.self.best.fault in
    let b4 = c.fields-2.new.self.best.fault in
    let b5 = c.reports.new.self.best.fault in
    let b6 = c.meet_number.new.best.fault in
    least_then rank_of best b6 c.note_above.new.best.fault (name ++ together ++ arguments ++ results ++ reports ++ number) (above 65535 p.number)
    (least_then rank_of best b5 b6 (name ++ together ++ arguments ++ results ++ reports) number
    (least_then rank_of best b4 b5 (name ++ together ++ arguments ++ results) reports
    (least_then rank_of best b3 b4 (name ++ together ++ arguments) results
    (least_then rank_of best b2 b3 (name ++ together) arguments
    (least_then rank_of best b1 b2 name together c.in_ok-meet_name.ensures.found c.in_ok-arguments_together.ensures.found)
    (c.in_ok-fields.ensures.found ∙ ap (λ t. least_from rank_of b2 (found t)) c.in_ok-arguments_together.ensures.others))
    (c.in_ok-fields-2.ensures.found ∙ ap (λ t. least_from rank_of b3 (found_results t)) kept))
    (c.reports.ensures.found ∙ ap (λ e. least_from rank_of b4 (reports_faults e p.reports)) errors))
    (c.in_ok-meet_number.ensures.found ∙ ap (λ n. least_from rank_of b5 (repeated_number n p.number)) numbers))
    c.note_above.ensures
