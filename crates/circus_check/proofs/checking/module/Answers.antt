use Rattle.std.proofs.Common.{◌≡◌, ◌+◌, ◌∙◌, ap, sym, subst, arith, min, map, None}
use Rattle.circus_type.specs.Inside.{no_name}
use Rattle.circus_type.specs.Limits.{most_parts}
use Rattle.circus_type.specs.Scale.{written_out}
use Rattle.circus_lang.specs.ModuleTree.{module_of, variable_of}
use Rattle.circus_check.specs.InRange.{AreVariablesInRange}
use Rattle.circus_check.specs.Faults.{forms, variables_parts, procedures_faults, head_faults, fields_of}
use Rattle.circus_check.specs.Seen.Programs.{modules_in, interfaces_in}
use Rattle.circus_check.specs.Seen.Scoped.{form_in}
use Rattle.circus_check.proofs.ModulesFound.{state_in_range, state_few, head_then, as_found, nothing_found, where_none, if_none}
use Rattle.circus_check.proofs.OwnTables.{forms_are}
use Rattle.circus_check.proofs.CleanVariables.{as_many_variables}
use Rattle.std.proofs.lemmas.List.{length-map}
use Rattle.circus_check.proofs.checking.module.Goals as goal
use Rattle.circus_check.proofs.checking.module.Goals.{in-None+in_ok-variables-in-None, in-Some}

pub returns-clause-found : goal.returns-clause-found
returns-clause-found c = λ found before.
    let own = c.args.own.now in
    let interfaces = interfaces_in c.args.program.now in
    let modules = modules_in c.args.program.now in
    let m = module_of own.text.now in
    let parts = variables_parts written_out (forms interfaces modules own.number m) 0 m.variables in
    let counted = c.in_ok-check_head.ensures.counted ∙ ap (λ f. min (variables_parts written_out f 0 m.variables) (1 + most_parts)) (forms_are c.args.program.now own c.requires.own) in
    head_then c.args.best.now.fault c.check_head.new.best.fault c.check_procedures.new.best.fault found (head_faults interfaces modules own.number m)
    (λ fs. procedures_faults interfaces modules own.number m fs parts no_name m.procedures)
    c.in_ok-check_head.ensures.found (λ fs is. c.in_ok-bodies.ensures.found fs parts is counted) before

pub returns-clause-meant : goal.returns-clause-meant
returns-clause-meant c =
    let own = c.args.own.now in
    let m = module_of own.text.now in
    let head = c.check_head.new.best.fault in
    let interfaces = interfaces_in c.args.program.now in
    let modules = modules_in c.args.program.now in
    let parts = c.check_head.new.parts in
    let all = as_found head in
    let procedures = c.in_ok-bodies.ensures.found all.0 parts all.1 (omega (arith, c.in_ok-check_head.ensures.counted)) in
    if_none c.check_procedures.new.best.fault _ (λ none.
    let none_before : head ≡ None = (nothing_found head (procedures_faults interfaces modules own.number m all.0 parts no_name m.procedures) (sym procedures ∙ none)).0 in
    let variables : c.match-best.variables ≡ fields_of (forms (interfaces_in c.args.program.now) (modules_in c.args.program.now) own.number m) m.variables = elim c.match-best.branch [
      | in-None+in_ok-variables-in-None w ↦
          w.variables-is ∙ w.in_ok-variables-in-None.ensures ∙ ap (λ vs. fields_of (form_in own.types) (map variable_of vs)) w.as_slice.ensures ∙ ap (λ f. fields_of f m.variables) (forms_are c.args.program.now own c.requires.own)
      | in-Some w ↦ absurd (let some = sym none_before ∙ w.in-Some.is in cc)
    ] in
    λ i. record {
      name = c.in_ok-copy.ensures i;
      root = m.root;
      interface = c.interface_number.ensures i;
      imports = c.in_ok-import_numbers.ensures i;
      variables = variables i;
      bodies = where_none c.check_procedures.new.best.fault _ c.in_ok-bodies.ensures.meant none i;
    })

pub fields-requires : goal.fields-requires
fields-requires c =
    let own = c.args.own.now in
    let interfaces = interfaces_in c.args.program.now in
    let modules = modules_in c.args.program.now in
    let m = module_of own.text.now in
    let head = head_faults interfaces modules own.number m in
    let clean = (nothing_found c.args.best.now.fault head (sym c.in_ok-check_head.ensures.found ∙ c.in-None.is)).1 in
    subst (λ vs. AreVariablesInRange (map variable_of vs)) (sym c.as_slice.ensures) (state_in_range interfaces modules own.number m clean)

pub check_procedures-requires-clause-few : goal.check_procedures-requires-clause-few
check_procedures-requires-clause-few c =
    let own = c.args.own.now in
    let interfaces = interfaces_in c.args.program.now in
    let modules = modules_in c.args.program.now in
    let m = module_of own.text.now in
    let head = head_faults interfaces modules own.number m in
    let best = c.check_head.new.best.fault in
    let counted = c.in_ok-check_head.ensures.counted ∙ ap (λ f. min (variables_parts written_out f 0 m.variables) (1 + most_parts)) (forms_are c.args.program.now own c.requires.own) in
    if_none best _ (λ none.
    let clean = (nothing_found c.args.best.now.fault head (sym c.in_ok-check_head.ensures.found ∙ none)).1 in
    let few = state_few interfaces modules own.number m clean in
    (omega (arith, counted, few, as_many_variables (forms interfaces modules own.number m) 0 m.variables, length-map own.text.now.variables variable_of), omega (arith, counted, few)))
