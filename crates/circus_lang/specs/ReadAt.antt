-- What reading a module at a token of a text answers.
use Rattle.std.specs.Prelude.{◌≡◌, ℕ, ◌+◌, ◌-◌, List, ◌++◌, length}
use Rattle.circus_text.specs.declared.token.Token.{Token}
use Rattle.circus_syntax.specs.Placed.{Placed, AreWithin}
use Rattle.circus_syntax.specs.Read.{placed_from}
use Rattle.circus_syntax.specs.Reader.{open_at}
use Rattle.circus_syntax.specs.Spelling.{most_levels}
use Rattle.circus_expression.specs.Ending.{Are}
use Rattle.circus_expression.specs.Standing.{show_as}
use Rattle.circus_lang.specs.declared.read.ReadModule.{ReadModule}
use Rattle.circus_lang.specs.ModuleTree.{ModuleTree, module_of}
use Rattle.circus_lang.specs.ModuleReading.{module_text}
use Rattle.circus_lang.specs.ModuleStanding.{module_stands_for}
use Rattle.circus_lang.specs.WrittenModule.{WrittenModule, spelling_module, IsModule}

-- the tree, what is left and the stop are those of the reader at these tokens
pub record Answers (text : List ℕ) (ts : List Token) (at : ℕ) (read : ReadModule) : Type 0 where
  pub left : List Placed
  pub is : show_as module_stands_for (module_text most_levels (open_at (placed_from text ts at) (length text))) ≡ (module_of read.«module», record { rest = left; end = length text; stop = read.stop })
  pub next : read.next ≡ length ts - length left

-- the tokens from this one up to the next are those of a module of no more levels than there may be, which stands for this tree
pub record IsReadAt (text : List ℕ) (ts : List Token) (at : ℕ) (tree : ModuleTree) (next : ℕ) : Type 0 where
  pub own : List Placed
  pub rest : List Placed
  pub written : WrittenModule
  pub whole : placed_from text ts at ≡ own ++ rest
  pub spelled : Are spelling_module IsModule own written
  pub within : AreWithin most_levels (spelling_module written)
  pub stands : tree ≡ module_stands_for written
  pub next_is : next ≡ at + length own
