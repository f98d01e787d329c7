-- Bodies that aren't looked into change no answer, since modules that stand in a text are in its order.
use Rattle.std.proofs.Common.{◌≡◌, ℕ, suc, List, [], ◌++◌, map, take, refl, sym, ◌∙◌, ap, subst, None, append_assoc}
use Rattle.std.specs.Prelude.{option_map}
use Rattle.circus_text.specs.declared.token.Token.{Token}
use Rattle.circus_text.specs.Division.{AreTokensOf}
use Rattle.circus_text.proofs.TokensLie.{tokens_in, tokens_in_order}
use Rattle.circus_syntax.specs.Placed.{Due, AreDue}
use Rattle.circus_syntax.specs.Spelling.{each, spelling}
use Rattle.circus_expression.specs.Ending.{Are}
use Rattle.circus_fault.specs.Least.{least_from}
use Rattle.circus_fault.proofs.LeastIs.{no_least}
use Rattle.circus_fault.proofs.LeastMore.{least_more}
use Rattle.circus_resolve.specs.Causes.{rank}
use Rattle.circus_idl.specs.declared.interface.Interface.{Interface}
use Rattle.circus_lang.specs.ModuleTree.{ModuleTree}
use Rattle.circus_lang.specs.WrittenModule.{spelling_module}
use Rattle.circus_troupe.specs.declared.deployment_text.DeploymentText.{DeploymentText}
use Rattle.circus_troupe.specs.DeploymentSpelling.{spelling_deployment}
use Rattle.circus_file.specs.WrittenProgram.{WrittenProgram, spelling_heading, spelling_program, IsProgram}
use Rattle.circus_file.specs.ProgramTree.{program_stands_for}
use Rattle.circus_limits.specs.Limits.{most_modules}
use Rattle.circus_check.specs.Faults.{faults}
use Rattle.circus_check.specs.Plain.{all}
use Rattle.circus_check.specs.TextOrder.{AreModulesOf}
use Rattle.circus_check.proofs.ModulesInText.{in_order}
use Rattle.circus_check.proofs.SameLeast.{modules_same}
use Rattle.circus_deployment.specs.Nodes.{troupe_numbers}
use Rattle.circus_deployment.specs.Faults.{first_without_troupe, deployment_faults}
use Rattle.circus_config.specs.Rank.{rank_of}
use Rattle.circus_config.specs.Told.{module_told, deployment_told}
use Rattle.circus_config.specs.Checking.{checked_faults}
use Rattle.circus_config.specs.Program.{placed_tokens}
use Rattle.circus_config.specs.Seen.{looked_faults}
use Rattle.circus_config.proofs.LeastTold.{least_told}
use Rattle.circus_config.proofs.ToldInOrder.{modules_in_order}

-- the modules of a file stand in it
pub modules_in_text : (text : List ℕ) (found : List Token) (w : WrittenProgram) → AreTokensOf text found → Are spelling_program IsProgram (placed_tokens text found) w → AreModulesOf text (program_stands_for w).modules
modules_in_text text found w tokens are =
    let head = spelling_heading w.format in
    let interfaces = each spelling w.interfaces in
    let rest = each spelling_module w.modules ++ spelling_deployment w.deployment in
    record {
      found = found;
      tokens = tokens;
      before = head ++ interfaces;
      after = spelling_deployment w.deployment;
      written = w.modules;
      good = are.good.1;
      spelled = subst (λ (ds : List Due). AreDue ds (placed_tokens text found)) (sym (append_assoc head interfaces rest)) are.spelled;
      stand = refl;
    }

module _ (text : List ℕ) (interfaces : List Interface) (modules : List ModuleTree) (end : ℕ) (d : DeploymentText) (are : AreModulesOf text modules) where
  of_modules : least_from rank None (faults interfaces modules) ≡ least_from rank None (all interfaces modules)
  of_modules =
      modules_same interfaces modules 0 (take (suc most_modules) modules) [] [] refl
      (in_order interfaces modules text are (tokens_in text are.found are.tokens, tokens_in_order text are.found are.tokens))

  pub same_least : least_from rank_of None (looked_faults interfaces modules end d) ≡ least_from rank_of None (checked_faults interfaces modules end d)
  same_least =
      let told = module_told interfaces modules in
      let deployed = map (deployment_told (first_without_troupe (troupe_numbers d.troupes) modules)) (deployment_faults modules end d) in
      let order = modules_in_order interfaces modules in
      least_more rank_of None (map told (faults interfaces modules)) deployed
      ∙ ap (λ b. least_from rank_of b deployed)
      (least_told order None (faults interfaces modules) ∙ ap (option_map told) of_modules ∙ sym (least_told order None (all interfaces modules)))
      ∙ sym (least_more rank_of None (map told (all interfaces modules)) deployed)

  pub none_looked : looked_faults interfaces modules end d ≡ [] → checked_faults interfaces modules end d ≡ []
  none_looked none = no_least rank_of (checked_faults interfaces modules end d) (sym same_least ∙ ap (least_from rank_of None) none)

  -- bodies that are all without a fault
  pub none_behind : all interfaces modules ≡ [] → faults interfaces modules ≡ []
  none_behind none = no_least rank (faults interfaces modules) (of_modules ∙ ap (least_from rank None) none)
