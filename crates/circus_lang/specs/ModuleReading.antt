-- The productions of modules, as they read.
use Rattle.std.specs.Prelude.{ℕ, Bool, ◌||◌, List, [], codes}
use Rattle.circus_syntax.specs.declared.named.Named.{Named}
use Rattle.circus_syntax.specs.Placed.{Placed, word, sign}
use Rattle.circus_syntax.specs.Reader.{Reader, nothing, both, map_read, either, repeat_while}
use Rattle.circus_syntax.specs.Reading.{expect_token, fixed_at, name, names, behind, type}
use Rattle.circus_statement.specs.StatementReading.{is_word, semicolon, list_end, block}
use Rattle.circus_lang.specs.ModuleTree.{VariableTree}
use Rattle.circus_lang.specs.WrittenModule.{WrittenBody, WrittenProcedure, WrittenModule, serving, root}

unfoldable pub imports : Reader → List Named × Reader
imports = either (is_word (codes "IMPORTS")) (behind (word (codes "IMPORTS")) names) (nothing [])

-- what stands behind the names of a module, up to its variables
unfoldable pub heading : Reader → List Named × Reader
heading = map_read (λ x. x.0) (both imports (both semicolon (expect_token (word (codes "BEGIN")))))

unfoldable pub variable : ℕ → Reader → VariableTree × Reader
variable levels =
    map_read (λ x. record { name = x.1.0; shape = x.1.1.1.0 })
    (both (expect_token (word (codes "VAR"))) (both name (both (expect_token (sign (codes ":"))) (both (type levels) semicolon))))

unfoldable pub variables : ℕ → Reader → List VariableTree × Reader
variables levels = repeat_while (is_word (codes "VAR")) (variable levels)

unfoldable pub body : ℕ → Reader → WrittenBody × Reader
body levels =
    map_read (λ x. record { variables = x.0; statements = x.1.0 }) (both (variables levels) (both (block levels (codes "BEGIN")) list_end))

unfoldable pub procedure : ℕ → Reader → WrittenProcedure × Reader
procedure levels = map_read (λ x. record { name = x.1.0; body = x.1.1 }) (both (expect_token (word (codes "PROCEDURE"))) (both name (body levels)))

unfoldable pub procedures : ℕ → Reader → List WrittenProcedure × Reader
procedures levels = repeat_while (is_word (codes "PROCEDURE")) (procedure levels)

-- the procedure of a root, with the place of its word MAIN
unfoldable pub main_procedure : ℕ → Reader → (ℕ × WrittenBody) × Reader
main_procedure levels = both (fixed_at (word (codes "MAIN"))) (body levels)

unfoldable pub module_end : Reader → Unit {0} × Reader
module_end = map_read (λ x. tt) (both (expect_token (word (codes "END"))) (expect_token (sign (codes "."))))

unfoldable pub serving_module : ℕ → Reader → WrittenModule × Reader
serving_module levels =
    map_read (λ x. serving x.1.0 x.1.1.1.0 x.1.1.1.1.0 x.1.1.1.1.1.0 x.1.1.1.1.1.1.0)
    (both (expect_token (word (codes "MODULE"))) (both name (both (expect_token (word (codes "IMPLEMENTS"))) (both name
    (both heading (both (variables levels) (both (procedures levels) module_end)))))))

unfoldable pub root_module : ℕ → Reader → WrittenModule × Reader
root_module levels =
    map_read (λ x. root x.1.0 x.1.1.0 x.1.1.1.0 x.1.1.1.1.0.0 x.1.1.1.1.0.1)
    (both (expect_token (word (codes "ROOT"))) (both name (both heading (both (variables levels) (both (main_procedure levels) module_end)))))

unfoldable pub module_text : ℕ → Reader → WrittenModule × Reader
module_text levels = either (is_word (codes "ROOT")) (root_module levels) (serving_module levels)

-- what a module begins with
abbrev pub begins_module : Placed → Bool
begins_module t = is_word (codes "MODULE") t || is_word (codes "ROOT") t
