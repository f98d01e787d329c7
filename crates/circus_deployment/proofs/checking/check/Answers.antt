use Rattle.std.proofs.Common.{inr, map, sym, ◌∙◌, ap, subst, arith}
use Rattle.std.specs.Prelude.{option_map, option_copied}
use Rattle.std.proofs.lemmas.List.{length-map}
use Rattle.circus_syntax.specs.declared.named.Named.{Named}
use Rattle.circus_fault.specs.Seen.Tables.{known_of}
use Rattle.circus_fault.proofs.LeastIs.{no_least}
use Rattle.circus_lang.specs.ModuleTree.{module_of}
use Rattle.circus_collate.specs.Deployment.{IsDeployment}
use Rattle.circus_collate.specs.declared.deployment.Troupe.{Troupe}
use Rattle.circus_collate.specs.declared.deployment.Deployment.{Deployment}
use Rattle.circus_deployment.specs.Rank.{rank_of}
use Rattle.circus_deployment.specs.Faults.{deployment_faults}
use Rattle.circus_deployment.specs.Answer.{answer_of}
use Rattle.circus_deployment.proofs.Checked.{some_told, lacks_is, all_found}
use Rattle.circus_deployment.proofs.Obeying.{obeys, few_nodes, is_in_range, made_as_meant, roots_kept}
use Rattle.circus_deployment.proofs.checking.check.Goals as goal

pub returns-in-Some-clause-err : goal.returns-in-Some-clause-err
returns-in-Some-clause-err c =
    let lacks = lacks_is (map module_of c.args.modules.now) c.args.text.now (known_of c.in_ok-troupes.troupes) c.as_slice.result.now (option_map (λ (n : Named). n.name) (option_copied c.first_without_troupe-lacks.result)) c.as_slice.ensures
    c.in_ok-troupes.ensures.numbered c.first_without_troupe-lacks.ensures in
    let found = all_found (map module_of c.args.modules.now) c.args.end c.args.text.now (known_of c.in_ok-numbers.numbers) c.as_slice.result.now c.check_nodes.new.best.fault c.check_troupes.new.best.fault c.note.new.self.fault
    (option_map (λ (n : Named). n.name) (option_copied c.first_without_troupe-lacks.result)) c.is_some.result c.in_ok-numbers.ensures c.as_slice.ensures lacks (c.is_some.ensures ∙ some_told c.first_without_troupe-lacks.result)
    c.in_ok-check_nodes.ensures c.in_ok-troupes.ensures.found c.note.ensures in
    inr (c.in-Some.fault, sym found ∙ c.in-Some.is, c.in_ok-answer-in-Some.ensures ∙ ap (λ l. answer_of l c.in-Some.fault) lacks)

pub deployment_of-requires-clause-few : goal.deployment_of-requires-clause-few
deployment_of-requires-clause-few c =
    let lacks = lacks_is (map module_of c.args.modules.now) c.args.text.now (known_of c.in_ok-troupes.troupes) c.as_slice.result.now (option_map (λ (n : Named). n.name) (option_copied c.first_without_troupe-lacks.result)) c.as_slice.ensures
    c.in_ok-troupes.ensures.numbered c.first_without_troupe-lacks.ensures in
    let found = all_found (map module_of c.args.modules.now) c.args.end c.args.text.now (known_of c.in_ok-numbers.numbers) c.as_slice.result.now c.check_nodes.new.best.fault c.check_troupes.new.best.fault c.note.new.self.fault
    (option_map (λ (n : Named). n.name) (option_copied c.first_without_troupe-lacks.result)) c.is_some.result c.in_ok-numbers.ensures c.as_slice.ensures lacks (c.is_some.ensures ∙ some_told c.first_without_troupe-lacks.result)
    c.in_ok-check_nodes.ensures c.in_ok-troupes.ensures.found c.note.ensures in
    few_nodes (map module_of c.args.modules.now) c.args.end c.args.text.now (no_least rank_of (deployment_faults (map module_of c.args.modules.now) c.args.end c.args.text.now) (sym found ∙ c.in-None.is))

pub deployment_of-requires-clause-in_range : goal.deployment_of-requires-clause-in_range
deployment_of-requires-clause-in_range c =
    let lacks = lacks_is (map module_of c.args.modules.now) c.args.text.now (known_of c.in_ok-troupes.troupes) c.as_slice.result.now (option_map (λ (n : Named). n.name) (option_copied c.first_without_troupe-lacks.result)) c.as_slice.ensures
    c.in_ok-troupes.ensures.numbered c.first_without_troupe-lacks.ensures in
    let found = all_found (map module_of c.args.modules.now) c.args.end c.args.text.now (known_of c.in_ok-numbers.numbers) c.as_slice.result.now c.check_nodes.new.best.fault c.check_troupes.new.best.fault c.note.new.self.fault
    (option_map (λ (n : Named). n.name) (option_copied c.first_without_troupe-lacks.result)) c.is_some.result c.in_ok-numbers.ensures c.as_slice.ensures lacks (c.is_some.ensures ∙ some_told c.first_without_troupe-lacks.result)
    c.in_ok-check_nodes.ensures c.in_ok-troupes.ensures.found c.note.ensures in
    is_in_range (map module_of c.args.modules.now) c.args.end c.args.text.now (no_least rank_of (deployment_faults (map module_of c.args.modules.now) c.args.end c.args.text.now) (sym found ∙ c.in-None.is))

pub returns-clause-faultless : goal.returns-clause-faultless
returns-clause-faultless c =
    let lacks = lacks_is (map module_of c.args.modules.now) c.args.text.now (known_of c.in_ok-troupes.troupes) c.as_slice.result.now (option_map (λ (n : Named). n.name) (option_copied c.first_without_troupe-lacks.result)) c.as_slice.ensures
    c.in_ok-troupes.ensures.numbered c.first_without_troupe-lacks.ensures in
    let found = all_found (map module_of c.args.modules.now) c.args.end c.args.text.now (known_of c.in_ok-numbers.numbers) c.as_slice.result.now c.check_nodes.new.best.fault c.check_troupes.new.best.fault c.note.new.self.fault
    (option_map (λ (n : Named). n.name) (option_copied c.first_without_troupe-lacks.result)) c.is_some.result c.in_ok-numbers.ensures c.as_slice.ensures lacks (c.is_some.ensures ∙ some_told c.first_without_troupe-lacks.result)
    c.in_ok-check_nodes.ensures c.in_ok-troupes.ensures.found c.note.ensures in
    no_least rank_of (deployment_faults (map module_of c.args.modules.now) c.args.end c.args.text.now) (sym found ∙ c.in-None.is)

pub returns-clause-meant : goal.returns-clause-meant
returns-clause-meant c = λ few.
    c.in_ok-deployment_of-in-None.ensures ∙ made_as_meant (map module_of c.args.modules.now) c.args.format c.args.text.now (omega (arith, few, length-map c.args.modules.now module_of))

pub returns-clause-deployment : goal.returns-clause-deployment
returns-clause-deployment c = λ in_format few distinct good.
    let lacks = lacks_is (map module_of c.args.modules.now) c.args.text.now (known_of c.in_ok-troupes.troupes) c.as_slice.result.now (option_map (λ (n : Named). n.name) (option_copied c.first_without_troupe-lacks.result)) c.as_slice.ensures
    c.in_ok-troupes.ensures.numbered c.first_without_troupe-lacks.ensures in
    let found = all_found (map module_of c.args.modules.now) c.args.end c.args.text.now (known_of c.in_ok-numbers.numbers) c.as_slice.result.now c.check_nodes.new.best.fault c.check_troupes.new.best.fault c.note.new.self.fault
    (option_map (λ (n : Named). n.name) (option_copied c.first_without_troupe-lacks.result)) c.is_some.result c.in_ok-numbers.ensures c.as_slice.ensures lacks (c.is_some.ensures ∙ some_told c.first_without_troupe-lacks.result)
    c.in_ok-check_nodes.ensures c.in_ok-troupes.ensures.found c.note.ensures in
    subst IsDeployment (sym (c.in_ok-deployment_of-in-None.ensures ∙ made_as_meant (map module_of c.args.modules.now) c.args.format c.args.text.now (omega (arith, few, length-map c.args.modules.now module_of))))
    (obeys (map module_of c.args.modules.now) c.args.end c.args.format c.args.text.now in_format (omega (arith, few, length-map c.args.modules.now module_of)) distinct good (no_least rank_of (deployment_faults (map module_of c.args.modules.now) c.args.end c.args.text.now) (sym found ∙ c.in-None.is)))

pub returns-clause-roots : goal.returns-clause-roots
returns-clause-roots c =
    let lacks = lacks_is (map module_of c.args.modules.now) c.args.text.now (known_of c.in_ok-troupes.troupes) c.as_slice.result.now (option_map (λ (n : Named). n.name) (option_copied c.first_without_troupe-lacks.result)) c.as_slice.ensures
    c.in_ok-troupes.ensures.numbered c.first_without_troupe-lacks.ensures in
    let found = all_found (map module_of c.args.modules.now) c.args.end c.args.text.now (known_of c.in_ok-numbers.numbers) c.as_slice.result.now c.check_nodes.new.best.fault c.check_troupes.new.best.fault c.note.new.self.fault
    (option_map (λ (n : Named). n.name) (option_copied c.first_without_troupe-lacks.result)) c.is_some.result c.in_ok-numbers.ensures c.as_slice.ensures lacks (c.is_some.ensures ∙ some_told c.first_without_troupe-lacks.result)
    c.in_ok-check_nodes.ensures c.in_ok-troupes.ensures.found c.note.ensures in
    ap (λ (d : Deployment). map (λ (t : Troupe). t.root) d.troupes) c.in_ok-deployment_of-in-None.ensures
    ∙ roots_kept (map module_of c.args.modules.now) c.args.end c.args.format c.args.text.now (no_least rank_of (deployment_faults (map module_of c.args.modules.now) c.args.end c.args.text.now) (sym found ∙ c.in-None.is))
