use Rattle.std.proofs.Common.{map, sym, subst, ap, ◌∙◌}
use Rattle.std.specs.List.{AllByRecursion}
use Rattle.circus_model.specs.Agree.{Agree}
use Rattle.circus_check.specs.declared.checked.ResolvedModule.{ResolvedModule}
use Rattle.circus_check.specs.Resolved.{module_as}
use Rattle.circus_modules.specs.Signatures.{interface_numbers}
use Rattle.circus_modules.specs.Behaviours.{behaviour_of}
use Rattle.circus_modules.specs.Seen.Made.{CanBeMade}
use Rattle.circus_modules.proofs.Agreeing.{modules_agree}
use Rattle.circus_modules.proofs.Making.{implemented_as}
use Rattle.circus_modules.proofs.Whole.{all_can_be_made}
use Rattle.circus_modules.proofs.text_modules.modules_of.Goals as goal

pub text_modules-requires : goal.text_modules-requires
text_modules-requires c =
    let modules = map module_as c.args.checked.modules in
    let numbers = c.as_slice-3.ensures.value ∙ c.in_ok-implemented.ensures ∙ ap (map (λ (m : ResolvedModule). m.interface)) c.as_slice.ensures ∙ implemented_as c.args.checked.modules in
    subst (λ ns. AllByRecursion (CanBeMade c.args.limit c.as_slice-2.result.now ns) modules) (sym numbers)
    (subst (λ is. AllByRecursion (CanBeMade c.args.limit is (interface_numbers modules)) modules) (sym c.as_slice-2.ensures)
    (all_can_be_made c.args.limit c.args.checked.interfaces modules c.requires.least c.requires.obey c.requires.well_formed))

pub returns-clause-behave : goal.returns-clause-behave
returns-clause-behave c =
    let numbers = c.as_slice-3.ensures.value ∙ c.in_ok-implemented.ensures ∙ ap (map (λ (m : ResolvedModule). m.interface)) c.as_slice.ensures ∙ implemented_as c.args.checked.modules in
    c.in_ok-made.ensures ∙ (λ i. map (behaviour_of c.args.limit (c.as_slice-2.ensures i) (numbers i)) (map module_as c.args.checked.modules))

pub returns-clause-agree : goal.returns-clause-agree
returns-clause-agree c =
    let numbers = c.as_slice-3.ensures.value ∙ c.in_ok-implemented.ensures ∙ ap (map (λ (m : ResolvedModule). m.interface)) c.as_slice.ensures ∙ implemented_as c.args.checked.modules in
    let behave = c.in_ok-made.ensures ∙ (λ i. map (behaviour_of c.args.limit (c.as_slice-2.ensures i) (numbers i)) (map module_as c.args.checked.modules)) in
    subst Agree (sym behave) (modules_agree c.args.limit c.args.checked.interfaces (map module_as c.args.checked.modules) c.requires.well_formed c.requires.most)
