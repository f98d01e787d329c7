-- The names of modules that a plan of a program keeps apart are those of its modules, and words.
use Rattle.std.proofs.Common.{◌≡◌, ℕ, suc, List, [], ◌∷◌, map, refl, sym, ap, subst, ◌∙◌}
use Rattle.std.specs.List.{AllByRecursion}
use Rattle.circus_text.specs.Form.{IsWord}
use Rattle.circus_syntax.specs.Spelling.{IsEach}
use Rattle.circus_idl.specs.declared.interface.Interface.{Interface}
use Rattle.circus_lang.specs.ModuleTree.{ModuleTree}
use Rattle.circus_lang.specs.ModuleStanding.{module_stands_for}
use Rattle.circus_lang.specs.WrittenModule.{WrittenModule, serving, root, IsModule}
use Rattle.circus_file.specs.ProgramTree.{ProgramTree}
use Rattle.circus_check.specs.Meaning.{ModuleMeant, modules_meant}
use Rattle.circus_check.specs.Resolved.{module_as}
use Rattle.circus_config.specs.declared.plan.Plan.{Plan}
use Rattle.circus_config.specs.Told.{module_names}
use Rattle.circus_config.specs.Program.{IsProgramOf}

module_word : (w : WrittenModule) → IsModule w → IsWord (module_stands_for w).name.name
module_word (serving n i ns vs ps) good = good.0.0.formed
module_word (root n ns vs at b) good = good.0.0.formed

modules_words : (ws : List WrittenModule) → IsEach IsModule ws → AllByRecursion IsWord (module_names (map module_stands_for ws))
modules_words [] good = tt
modules_words (w ∷ ws) good = (module_word w good.0, modules_words ws good.1)

names_meant : (interfaces : List Interface) (modules : List ModuleTree) (i : ℕ) (ms : List ModuleTree) → map (λ (m : ModuleMeant). m.name) (modules_meant interfaces modules i ms) ≡ module_names ms
names_meant interfaces modules i [] = refl
names_meant interfaces modules i (m ∷ ms) = ap (λ l. m.name.name ∷ l) (names_meant interfaces modules (suc i) ms)

pub names_of : (text : List ℕ) (plan : Plan) → IsProgramOf text plan → plan.names ≡ map (λ (m : ModuleMeant). m.name) (map module_as plan.checked.modules)
names_of text plan means =
    means.names ∙ sym (ap (map (λ (m : ModuleMeant). m.name)) means.modules ∙ names_meant plan.checked.interfaces means.tree.modules 0 means.tree.modules)

pub words_of : (text : List ℕ) (plan : Plan) → IsProgramOf text plan → AllByRecursion IsWord plan.names
words_of text plan means =
    subst (AllByRecursion IsWord) (sym means.names)
    (subst (λ (t : ProgramTree). AllByRecursion IsWord (module_names t.modules)) (sym means.file.stands) (modules_words means.file.written.modules means.file.spelled.good.1))
