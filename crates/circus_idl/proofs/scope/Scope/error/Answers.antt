use Rattle.std.proofs.Common.{◌++◌, ◌∙◌, ap}
use Rattle.circus_fault.specs.Least.{least_from}
use Rattle.circus_fault.specs.Seen.Tables.{holds_number}
use Rattle.circus_fault.proofs.LeastMore.{least_then}
use Rattle.circus_idl.specs.Rank.{rank_of}
use Rattle.circus_idl.specs.declared.scope.Scope.{Scope}
use Rattle.circus_idl.specs.Seen.Scoped.{before_of, cut_in}
use Rattle.circus_idl.specs.Inside.{repeated_name, repeated_number, above}
use Rattle.circus_idl.specs.Faults.{fields_faults}
use Rattle.circus_type.specs.Seen.Measured.{cut_off}
use Rattle.circus_idl.proofs.scope.Scope.error.Goals as goal

pub returns-clause-found : goal.returns-clause-found
returns-clause-found c =
    let s = c.args.self.now in
    let e = c.args.error.now in
    let before = before_of s in
    let best = s.best.fault in
    let name = repeated_name before.names e.name in
    let fields = fields_faults cut_off (cut_in s) before.types before.sizes before.parts e.arguments in
    let number = repeated_number before.error_numbers e.number in
    least_then rank_of best c.meet_number.new.best.fault c.note_above.new.best.fault (name ++ fields ++ number) (above 59999 e.number)
    (least_then rank_of best c.fields.new.self.best.fault c.meet_number.new.best.fault (name ++ fields) number
    (least_then rank_of best c.meet_name.new.best.fault c.fields.new.self.best.fault name fields c.in_ok-meet_name.ensures.found c.in_ok-fields.ensures.found)
    (c.in_ok-meet_number.ensures.found ∙ ap (λ (t : Scope). least_from rank_of c.fields.new.self.best.fault (repeated_number (holds_number t.error_numbers) e.number)) c.in_ok-fields.ensures.others))
    c.note_above.ensures
