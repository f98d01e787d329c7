-- The productions of program files, as they read.
use Rattle.std.specs.Prelude.{ℕ, List, codes}
use Rattle.circus_syntax.specs.InterfaceTree.{InterfaceTree}
use Rattle.circus_syntax.specs.Placed.{word, digits, is_lexeme, is_name}
use Rattle.circus_syntax.specs.Reader.{Reader, both, map_read, either, repeat_while}
use Rattle.circus_syntax.specs.Reading.{expect_token, interface}
use Rattle.circus_statement.specs.StatementReading.{semicolon}
use Rattle.circus_lang.specs.WrittenModule.{WrittenModule}
use Rattle.circus_lang.specs.ModuleReading.{begins_module, module_text}
use Rattle.circus_troupe.specs.declared.deployment_text.DeploymentText.{DeploymentText}
use Rattle.circus_troupe.specs.DeploymentReading.{deployment}
use Rattle.circus_file.specs.declared.program_text.Format.{Format}
use Rattle.circus_file.specs.declared.program_text.Format.TheVariants.{One, Two}
use Rattle.circus_file.specs.WrittenProgram.{WrittenProgram}

unfoldable pub format_number : Reader → Format × Reader
format_number = either (is_lexeme (digits (codes "2"))) (map_read (λ x. Two) (expect_token (digits (codes "2")))) (map_read (λ x. One) (expect_token (digits (codes "1"))))

unfoldable pub heading : Reader → Format × Reader
heading = map_read (λ x. x.1.0) (both (expect_token (word (codes "CIRCUS"))) (both format_number semicolon))

unfoldable pub interfaces : ℕ → Reader → List InterfaceTree × Reader
interfaces levels = repeat_while is_name (interface levels)

unfoldable pub modules : ℕ → Reader → List WrittenModule × Reader
modules levels = repeat_while begins_module (module_text levels)

abbrev pub program_of_parts : Format × (List InterfaceTree × (List WrittenModule × DeploymentText)) → WrittenProgram
program_of_parts x = record { format = x.0; interfaces = x.1.0; modules = x.1.1.0; deployment = x.1.1.1 }

unfoldable pub program : ℕ → Reader → WrittenProgram × Reader
program levels = map_read program_of_parts (both heading (both (interfaces levels) (both (modules levels) deployment)))
