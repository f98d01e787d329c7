use Rattle.std.proofs.Common.{◌≡◌, ◌++◌, ◌+◌, Option, Some, None, ◌∙◌, sym, ap, map, min, not, is_none}
use denote.Ref.{Bor}
use Rattle.circus_statement.specs.StatementTree.{statement_trees}
use Rattle.circus_fault.specs.Least.{least_from, faults_if}
use Rattle.circus_fault.specs.Seen.Tables.{holds_name}
use Rattle.circus_fault.proofs.LeastMore.{least_then}
use Rattle.circus_fault.proofs.LeastIs.{none_result}
use Rattle.circus_type.specs.Inside.{no_name, repeated_name}
use Rattle.circus_type.specs.Limits.{most_parts}
use Rattle.circus_type.specs.Scale.{written_out}
use Rattle.circus_type.specs.Seen.Measured.{cut_off}
use Rattle.circus_resolve.specs.declared.cause.CheckCause.TheVariants.{Unknown, Unfinished}
use Rattle.circus_resolve.specs.Causes.{rank, of_type}
use Rattle.circus_body.specs.Ending.{all_end}
use Rattle.circus_body.specs.declared.context.Offered.{Offered as Procedure}
use Rattle.circus_body.specs.Context.{Offered}
use Rattle.circus_body.specs.Seen.Named.{known_offer}
use Rattle.circus_lang.specs.ModuleTree.{module_of, procedure_of, variable_of}
use Rattle.circus_check.specs.Faults.{variables_faults, variables_parts, also_fields, also_variables, arguments_of, offer_of, unknown_place, forms}
use Rattle.circus_check.specs.Scope.{offered_here, implemented_by}
use Rattle.circus_check.specs.Seen.Programs.{modules_in, interfaces_in}
use Rattle.circus_check.specs.Seen.Scoped.{unknown_in, form_in, size_in}
use Rattle.circus_check.specs.Seen.Tables.{either}
use Rattle.circus_check.proofs.OwnTables.{unknown_are, forms_are, sizes_are}
use Rattle.circus_check.proofs.VariablesFound.{either_none, also_either, variables_cut, variables_counted}
use Rattle.circus_check.proofs.procedures.head.Goals as goal

none_offer : (o : Option (Bor Procedure)) (x : Option Offered) → known_offer o ≡ x → is_none o ≡ is_none x
none_offer None x is = ap is_none is
none_offer (Some p) x is = ap is_none is

pub returns-clause-found : goal.returns-clause-found
returns-clause-found c = λ before full.
    let program = c.args.program.now in
    let interfaces = interfaces_in program in
    let modules = modules_in program in
    let own = c.args.own.now in
    let m = module_of own.text.now in
    let p = procedure_of c.args.procedure.now in
    let name = p.name in
    let best = c.args.best.now.fault in
    let off = offer_of interfaces modules own.number m p in
    let offers : known_offer c.offer_named-offers.result ≡ off = c.offer_named-offers.ensures ∙ ap (offered_here (implemented_by interfaces own.text.now.interface)) c.as_slice.ensures in
    let outer = also_variables (map variable_of own.text.now.variables) no_name in
    let arguments = arguments_of off in
    let names : either (holds_name c.args.so_far.now.state) (holds_name c.in_ok-names.names) ≡ also_fields arguments outer =
    (λ i. either (c.requires.state i) ((c.in_ok-names.ensures ∙ ap (λ o. also_fields (arguments_of o) no_name) offers) i))
    ∙ sym (also_either arguments outer no_name) ∙ ap (also_fields arguments) (either_none outer) in
    let earlier = also_fields arguments outer in
    let vs = map variable_of c.args.procedure.now.variables in
    let none = faults_if (is_none off) name.at Unknown in
    let repeated = repeated_name of_type (holds_name c.args.so_far.now.procedures) name in
    let unfinished = faults_if (not (all_end (statement_trees c.args.procedure.now.statements))) name.at Unfinished in
    let list = variables_faults written_out (unknown_place interfaces modules own.number m) (forms interfaces modules own.number m) before earlier vs in
    let is_list : variables_faults cut_off (unknown_in own.types) (size_in own.types) c.args.parts.now (either (holds_name c.args.so_far.now.state) (holds_name c.in_ok-names.names)) (map variable_of c.as_slice-list.result.now) ≡ list =
    (λ i. variables_faults cut_off (unknown_in own.types) (sizes_are program own c.requires.own i) (full i) (names i) (map variable_of (c.as_slice-list.ensures i)))
    ∙ variables_cut (unknown_in own.types) (form_in own.types) before earlier vs
    ∙ (λ i. variables_faults written_out (unknown_are program own c.requires.own i) (forms_are program own c.requires.own i) before earlier vs) in
    least_then rank best c.note-2.new.self.fault c.variables.new.best.fault (none ++ repeated ++ unfinished) list
    (least_then rank best c.meet_name.new.best.fault c.note-2.new.self.fault (none ++ repeated) unfinished
    (least_then rank best c.note.new.self.fault c.meet_name.new.best.fault none repeated
    (c.note.ensures ∙ ap (λ b. least_from rank best (faults_if b name.at Unknown)) (none_result c.is_none.result c.offer_named-offers.result c.is_none.ensures ∙ none_offer c.offer_named-offers.result off offers)) c.in_ok-meet_name.ensures.found)
    (c.note-2.ensures ∙ ap (λ b. least_from rank c.meet_name.new.best.fault (faults_if (not b) name.at Unfinished)) c.all_end.ensures))
    (c.in_ok-variables.ensures.found ∙ ap (least_from rank c.note-2.new.self.fault) is_list)

pub returns-clause-counted : goal.returns-clause-counted
returns-clause-counted c = λ before full.
    let own = c.args.own.now in
    let list = map variable_of c.as_slice-list.result.now in
    c.in_ok-variables.ensures.counted
    ∙ (λ i. variables_parts cut_off (sizes_are c.args.program.now own c.requires.own i) (full i) list)
    ∙ variables_counted (form_in own.types) before list
    ∙ ap (λ vs. min (variables_parts written_out (form_in own.types) before (map variable_of vs)) (1 + most_parts)) c.as_slice-list.ensures
