use Rattle.std.proofs.Common.{◌≡◌, ◌+◌, min, sym, ◌∙◌, ap, arith}
use Rattle.std.proofs.lemmas.Result.{on_ok_weaker}
use Rattle.circus_fault.specs.Seen.Tables.{holds_name}
use Rattle.circus_type.specs.Limits.{most_parts}
use Rattle.circus_body.specs.Seen.Named.{known_offer, offered_as}
use Rattle.circus_lang.specs.ModuleTree.{module_of, procedure_of, variable_of}
use Rattle.circus_check.specs.Faults.{forms, procedure_faults}
use Rattle.circus_check.proofs.CleanVariables.{as_many_variables}
use Rattle.circus_resolve.proofs.Shapes.{field_count_is}
use Rattle.std.proofs.lemmas.List.{length-map}
use Rattle.circus_check.specs.Seen.Programs.{modules_in, interfaces_in}
use Rattle.circus_check.proofs.ProceduresFound.{whole_found, whole_none, nothing_offered, locals_in_range, locals_few, offered_few, found_none, kept_none, of_none, if_none_by, if_lost}
use Rattle.circus_check.proofs.procedures.procedure.Goals as goal

pub returns-in-Some-clause-found : goal.returns-in-Some-clause-found
returns-in-Some-clause-found c =
    let own = c.args.own.now in
    on_ok_weaker c.body.result (λ then found before first full.
    whole_found (interfaces_in c.args.program.now) (modules_in c.args.program.now) own.number (module_of own.text.now) found before (holds_name c.args.so_far.now.procedures) (procedure_of c.args.text.now)
    c.args.best.now.fault c.head.new.best.fault c.body.new.best.fault first (c.in_ok-offers.ensures.found before full) then)
    c.body.ensures.found

pub returns-in-None-clause-found : goal.returns-in-None-clause-found
returns-in-None-clause-found c = λ found before first full.
    let own = c.args.own.now in
    let interfaces = interfaces_in c.args.program.now in
    let modules = modules_in c.args.program.now in
    let m = module_of own.text.now in
    let p = procedure_of c.args.text.now in
    let best = c.args.best.now.fault in
    let names = holds_name c.args.so_far.now.procedures in
    let is = c.in_ok-offers.ensures.found before full in
    whole_none interfaces modules own.number m found before names p best c.head.new.best.fault first is
    (nothing_offered interfaces modules own.number m before names p best c.head.new.best.fault is (sym c.in_ok-offers.ensures.offered ∙ ap known_offer c.in-None.is))

pub returns-in-None-clause-meant : goal.returns-in-None-clause-meant
returns-in-None-clause-meant c =
    let own = c.args.own.now in
    let parts = c.args.parts.now in
    let full : parts ≡ min parts (1 + most_parts) = omega (arith, c.requires.small) in
    if_lost _ c.head.new.best.fault
    (nothing_offered (interfaces_in c.args.program.now) (modules_in c.args.program.now) own.number (module_of own.text.now) parts (holds_name c.args.so_far.now.procedures) (procedure_of c.args.text.now) c.args.best.now.fault c.head.new.best.fault
    (c.in_ok-offers.ensures.found parts full) (sym c.in_ok-offers.ensures.offered ∙ ap known_offer c.in-None.is))

pub body-requires-clause-offers : goal.body-requires-clause-offers
body-requires-clause-offers c = sym (ap known_offer c.in-Some.is) ∙ c.in_ok-offers.ensures.offered

-- where no fault is kept behind the head none was kept before it
pub body-requires-clause-around : goal.body-requires-clause-around
body-requires-clause-around c =
    let own = c.args.own.now in
    let parts = c.args.parts.now in
    let full : parts ≡ min parts (1 + most_parts) = omega (arith, c.requires.small) in
    let heads = procedure_faults (interfaces_in c.args.program.now) (modules_in c.args.program.now) own.number (module_of own.text.now) parts (holds_name c.args.so_far.now.procedures) (procedure_of c.args.text.now) in
    if_none_by c.head.new.best.fault (λ none. of_none c.args.best.now.fault _ c.requires.around (kept_none heads c.args.best.now.fault (sym (c.in_ok-offers.ensures.found parts full) ∙ none)))

-- and there are few variables
pub body-requires-clause-few : goal.body-requires-clause-few
body-requires-clause-few c =
    let own = c.args.own.now in
    let interfaces = interfaces_in c.args.program.now in
    let modules = modules_in c.args.program.now in
    let m = module_of own.text.now in
    let names = holds_name c.args.so_far.now.procedures in
    let p = procedure_of c.args.text.now in
    let parts = c.args.parts.now in
    let best = c.args.best.now.fault in
    let full : parts ≡ min parts (1 + most_parts) = omega (arith, c.requires.small) in
    let head = procedure_faults interfaces modules own.number m parts names p in
    let found = c.in_ok-offers.ensures.found parts full in
    let offers = c.in-Some.offers.now in
    let arguments = offered_few interfaces c.requires.program.obey own.text.now.interface p.name.name (offered_as offers) (sym c.in_ok-offers.ensures.offered ∙ ap known_offer c.in-Some.is) in
    if_none_by c.head.new.best.fault (λ none.
    let are = of_none best _ c.requires.few (kept_none head best (sym found ∙ none)) in
    let locals = locals_few interfaces modules own.number m parts names p (found_none head best c.head.new.best.fault found none) are.1 in
    omega (arith, are.0, locals, as_many_variables (forms interfaces modules own.number m) parts p.body.variables, length-map c.args.text.now.variables variable_of, arguments, field_count_is offers.arguments.now))

-- where no fault is kept behind the head none was found in it
pub body-requires-clause-in_range : goal.body-requires-clause-in_range
body-requires-clause-in_range c =
    let own = c.args.own.now in
    let interfaces = interfaces_in c.args.program.now in
    let modules = modules_in c.args.program.now in
    let m = module_of own.text.now in
    let names = holds_name c.args.so_far.now.procedures in
    let p = procedure_of c.args.text.now in
    let parts = c.args.parts.now in
    let full : parts ≡ min parts (1 + most_parts) = omega (arith, c.requires.small) in
    let head = procedure_faults interfaces modules own.number m parts names p in
    if_none_by c.head.new.best.fault (λ none. locals_in_range interfaces modules own.number m parts names p (found_none head c.args.best.now.fault c.head.new.best.fault (c.in_ok-offers.ensures.found parts full) none))
