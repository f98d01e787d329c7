-- Modules as reading gives them.
use Rattle.std.specs.Prelude.{◌≡◌}
use Rattle.circus_lang.specs.ModuleStanding.{module_stands_for}
use Rattle.circus_lang.specs.ModuleTree.{ModuleTree}
use Rattle.circus_lang.specs.WrittenModule.{WrittenModule, IsModule}

-- the tree of a module as it is written
pub record IsRead (m : ModuleTree) : Type 0 where
  pub written : WrittenModule
  pub good : IsModule written
  pub stands : m ≡ module_stands_for written
