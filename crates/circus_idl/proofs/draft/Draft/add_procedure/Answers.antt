use Rattle.std.proofs.Common.{◌≡◌, ◌∙◌, ap, sym, subst, not, None}
use Rattle.circus_syntax.specs.InterfaceTree.{a_procedure}
use Rattle.circus_fault.specs.Seen.Tables.{known_of}
use Rattle.circus_type.specs.declared.measuring.Measure.{Measure}
use Rattle.circus_type.specs.Seen.Measured.{cut_off}
use Rattle.circus_idl.specs.InRange.{AreWords}
use Rattle.circus_idl.specs.Seen.Scoped.{before_of, cut_in}
use Rattle.circus_idl.specs.Faults.{Before, declared_faults}
use Rattle.circus_idl.proofs.DraftMore.{none_from, holds_of_none, none_before}
use Rattle.circus_idl.proofs.DeclaredInRange.{none_found, procedure_in_range}
use Rattle.circus_idl.proofs.draft.Draft.add_procedure.Goals as goal

pub procedure_meant-requires-clause-number : goal.procedure_meant-requires-clause-number
procedure_meant-requires-clause-number c =
    let scope = c.args.self.now.scope in
    let fault = c.procedure.new.self.best.fault in
    let none : fault ≡ None = none_from fault (c.is_none.ensures ∙ ap not c.if-is_none.true) in
    (procedure_in_range cut_off (cut_in scope) (before_of scope) c.args.procedure.now
    (none_found scope.best.fault (declared_faults cut_off (cut_in scope) (before_of scope) (a_procedure c.args.procedure.now)) (sym c.in_ok-procedure.ensures.found ∙ none))).0

pub procedure_meant-requires-clause-arguments : goal.procedure_meant-requires-clause-arguments
procedure_meant-requires-clause-arguments c =
    let scope = c.args.self.now.scope in
    let fault = c.procedure.new.self.best.fault in
    let none : fault ≡ None = none_from fault (c.is_none.ensures ∙ ap not c.if-is_none.true) in
    (procedure_in_range cut_off (cut_in scope) (before_of scope) c.args.procedure.now
    (none_found scope.best.fault (declared_faults cut_off (cut_in scope) (before_of scope) (a_procedure c.args.procedure.now)) (sym c.in_ok-procedure.ensures.found ∙ none))).1

pub procedure_meant-requires-clause-results : goal.procedure_meant-requires-clause-results
procedure_meant-requires-clause-results c =
    let scope = c.args.self.now.scope in
    let fault = c.procedure.new.self.best.fault in
    let none : fault ≡ None = none_from fault (c.is_none.ensures ∙ ap not c.if-is_none.true) in
    (procedure_in_range cut_off (cut_in scope) (before_of scope) c.args.procedure.now
    (none_found scope.best.fault (declared_faults cut_off (cut_in scope) (before_of scope) (a_procedure c.args.procedure.now)) (sym c.in_ok-procedure.ensures.found ∙ none))).2

pub procedure_meant-requires-clause-errors : goal.procedure_meant-requires-clause-errors
procedure_meant-requires-clause-errors c =
    let scope = c.args.self.now.scope in
    let fault = c.procedure.new.self.best.fault in
    let none : fault ≡ None = none_from fault (c.is_none.ensures ∙ ap not c.if-is_none.true) in
    let first = none_before scope.best.fault (declared_faults cut_off (cut_in scope) (before_of scope) (a_procedure c.args.procedure.now)) (sym c.in_ok-procedure.ensures.found ∙ none) in
    subst AreWords (sym (ap (λ (b : Before Measure). b.errors) c.in_ok-procedure.ensures.behind)) (holds_of_none scope.best.fault (AreWords (known_of scope.errors)) first c.requires)
