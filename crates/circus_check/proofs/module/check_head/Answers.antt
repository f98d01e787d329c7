use Rattle.std.proofs.Common.{◌≡◌, ◌++◌, ◌∙◌, ap, sym, append_assoc}
use Rattle.std.proofs.lemmas.Result.{on_ok_weaker}
use Rattle.circus_fault.specs.Least.{least_from}
use Rattle.circus_fault.proofs.LeastMore.{least_then}
use Rattle.circus_type.specs.Scale.{written_out}
use Rattle.circus_resolve.specs.Causes.{rank}
use Rattle.circus_lang.specs.ModuleTree.{module_of}
use Rattle.circus_check.specs.Scope.{implemented_by}
use Rattle.circus_check.specs.Faults.{name_faults, interface_faults, imports_faults, missing_faults, variables_faults, state_faults, parameters_of}
use Rattle.circus_check.specs.Seen.Programs.{modules_in, interfaces_in, missing_among}
use Rattle.circus_check.specs.Seen.Scoped.{unknown_in, form_in}
use Rattle.circus_check.proofs.OwnTables.{unknown_are, forms_are, missing_are}
use Rattle.circus_check.proofs.module.check_head.Goals as goal

pub returns-clause-found : goal.returns-clause-found
returns-clause-found c =
    let program = c.args.program.now in
    let own = c.args.own.now in
    let interfaces = interfaces_in program in
    let modules = modules_in program in
    let i = own.number in
    let m = module_of own.text.now in
    let interface = implemented_by interfaces m.interface in
    let best = c.args.best.now.fault in
    let named = name_faults modules i m in
    let implements = interface_faults interfaces m.interface in
    let imports = imports_faults modules i m.imports in
    let missing = missing_faults interface m in
    let head = named ++ implements ++ imports ++ missing in
    let variables = variables_faults written_out (unknown_in own.types) (form_in own.types) 0 (parameters_of interface) m.variables in
    let state = state_faults (unknown_in own.types) (form_in own.types) (parameters_of interface) m in
    let b1 = c.check_name.new.best.fault in
    let b2 = c.check_interface.new.best.fault in
    let b3 = c.check_imports.new.best.fault in
    let b4 = c.check_missing.new.best.fault in
    let first : b4 ≡ least_from rank best head =
    least_then rank best b3 b4 (named ++ implements ++ imports) missing
    (least_then rank best b2 b3 (named ++ implements) imports
    (least_then rank best b1 b2 named implements c.check_name.ensures c.check_interface.ensures)
    (c.check_imports.ensures ∙ ap (λ ns. least_from rank b2 (imports_faults modules i ns)) c.as_slice.ensures))
    (c.in_ok-check_missing.ensures ∙ ap (least_from rank b3) (ap (λ o. missing_among o m) c.requires.own.order ∙ missing_are interface m)) in
    on_ok_weaker c.check_state.result (λ found.
    least_then rank best b4 c.check_state.new.best.fault head (variables ++ state) first found
    ∙ ap (least_from rank best) (sym (append_assoc head variables state))
    ∙ (λ j. let unknown = unknown_are program own c.requires.own j in let forms = forms_are program own c.requires.own j in
    least_from rank best ((head ++ variables_faults written_out unknown forms 0 (parameters_of interface) m.variables) ++ state_faults unknown forms (parameters_of interface) m)))
    c.check_state.ensures.found
