use Rattle.std.proofs.Common.{◌∙◌, ap, map, ◌≡◌, is_some}
use Rattle.std.proofs.lemmas.Result.{on_ok_weaker}
use Rattle.circus_fault.specs.Least.{least_from}
use Rattle.circus_fault.specs.Seen.Tables.{holds_name}
use Rattle.circus_fault.proofs.LeastMore.{least_then}
use Rattle.circus_type.specs.Scale.{written_out}
use Rattle.circus_type.specs.Seen.Measured.{cut_off}
use Rattle.circus_resolve.specs.Causes.{rank}
use Rattle.circus_lang.specs.ModuleTree.{module_of, variable_of}
use Rattle.circus_check.specs.Faults.{variables_faults, variables_parts, state_faults, parameters_of}
use Rattle.circus_check.specs.Scope.{implemented_by}
use Rattle.circus_check.specs.Seen.Programs.{interfaces_in, parameters_in}
use Rattle.circus_check.specs.Seen.Scoped.{unknown_in, form_in}
use Rattle.circus_check.specs.Seen.Tables.{either}
use Rattle.circus_check.proofs.OwnTables.{sizes_are, parameters_are}
use Rattle.circus_check.proofs.VariablesFound.{either_none, variables_cut, variables_counted, on_any}
use Rattle.circus_check.proofs.module.check_state.Goals as goal

pub returns-clause-found : goal.returns-clause-found
returns-clause-found c =
    let program = c.args.program.now in
    let own = c.args.own.now in
    let best = c.args.best.now.fault in
    let interface = implemented_by (interfaces_in program) own.text.now.interface in
    let vs = map variable_of own.text.now.variables in
    let m = module_of own.text.now in
    let unknown = unknown_in own.types in
    let forms = form_in own.types in
    let outer : holds_name c.in_ok-outer.outer ≡ parameters_of interface = c.in_ok-outer.ensures ∙ ap parameters_in c.requires.own.order ∙ parameters_are interface in
    let none : either (holds_name c.in_ok-outer.outer) (holds_name c.new-names.result) ≡ parameters_of interface =
    (λ i. either (outer i) (λ name. is_some (c.new-names.ensures i name))) ∙ either_none (parameters_of interface) in
    let variables = variables_faults written_out unknown forms 0 (parameters_of interface) vs in
    let first =
    c.in_ok-variables.ensures.found
    ∙ ap (least_from rank best) ((λ i. variables_faults cut_off unknown (sizes_are program own c.requires.own i) (c.requires.first i) (none i) (map variable_of (c.as_slice-list.ensures i))) ∙ variables_cut unknown forms 0 (parameters_of interface) vs) in
    on_ok_weaker c.state_size.result (λ found.
    least_then rank best c.variables.new.best.fault c.state_size.new.best.fault variables (state_faults unknown forms (parameters_of interface) m) first
    (found ∙ (λ i. least_from rank c.variables.new.best.fault (state_faults unknown forms (outer i) (record m { variables = map variable_of (c.as_slice-list.ensures i) })))))
    c.state_size.ensures

pub returns-clause-counted : goal.returns-clause-counted
returns-clause-counted c =
    let own = c.args.own.now in
    on_any c.state_size.result
    (c.in_ok-variables.ensures.counted
    ∙ (λ i. variables_parts cut_off (sizes_are c.args.program.now own c.requires.own i) (c.requires.first i) (map variable_of (c.as_slice-list.ensures i)))
    ∙ variables_counted (form_in own.types) 0 (map variable_of own.text.now.variables))
