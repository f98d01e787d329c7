-- Modules that stand one behind the other in a text.
use Rattle.std.specs.Prelude.{◌≡◌, ℕ, List, ◌++◌, map}
use Rattle.circus_text.specs.declared.token.Token.{Token}
use Rattle.circus_text.specs.Division.{AreTokensOf}
use Rattle.circus_syntax.specs.Placed.{placed_of, Due, AreDue}
use Rattle.circus_syntax.specs.Spelling.{each, IsEach}
use Rattle.circus_lang.specs.ModuleTree.{ModuleTree}
use Rattle.circus_lang.specs.ModuleStanding.{module_stands_for}
use Rattle.circus_lang.specs.WrittenModule.{WrittenModule, spelling_module, IsModule}

-- among the tokens of the text stand modules, one behind the other, which stand for these trees
pub record AreModulesOf (text : List ℕ) (modules : List ModuleTree) : Type 0 where
  pub found : List Token
  pub tokens : AreTokensOf text found
  -- what stands before them, and behind them
  pub before : List Due
  pub after : List Due
  pub written : List WrittenModule
  pub good : IsEach IsModule written
  pub spelled : AreDue (before ++ (each spelling_module written ++ after)) (map (placed_of text) found)
  pub stand : modules ≡ map module_stands_for written
