use Rattle.std.proofs.Common.{◌≡◌, ◌∙◌, ap, sym, not, None}
use Rattle.circus_syntax.specs.InterfaceTree.{an_error}
use Rattle.circus_type.specs.Seen.Measured.{cut_off}
use Rattle.circus_idl.specs.Seen.Scoped.{before_of, cut_in}
use Rattle.circus_idl.specs.Faults.{declared_faults}
use Rattle.circus_idl.proofs.DraftMore.{none_from}
use Rattle.circus_idl.proofs.DeclaredInRange.{none_found, error_in_range}
use Rattle.circus_idl.proofs.draft.Draft.add_error.Goals as goal

pub word-requires : goal.word-requires
word-requires c =
    let scope = c.args.self.now.scope in
    let fault = c.error.new.self.best.fault in
    let none : fault ≡ None = none_from fault (c.is_none.ensures ∙ ap not c.if-is_none.true) in
    (error_in_range cut_off (cut_in scope) (before_of scope) c.args.error.now
    (none_found scope.best.fault (declared_faults cut_off (cut_in scope) (before_of scope) (an_error c.args.error.now)) (sym c.in_ok-error.ensures.found ∙ none))).0

pub fields_meant-requires : goal.fields_meant-requires
fields_meant-requires c =
    let scope = c.args.self.now.scope in
    let fault = c.error.new.self.best.fault in
    let none : fault ≡ None = none_from fault (c.is_none.ensures ∙ ap not c.if-is_none.true) in
    (error_in_range cut_off (cut_in scope) (before_of scope) c.args.error.now
    (none_found scope.best.fault (declared_faults cut_off (cut_in scope) (before_of scope) (an_error c.args.error.now)) (sym c.in_ok-error.ensures.found ∙ none))).1
