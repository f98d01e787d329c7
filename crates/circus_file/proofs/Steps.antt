-- What is read of program files stands for its trees, step by step.
use Rattle.std.proofs.Common.{◌≡◌, ℕ, List, [], map, refl, sym, ◌∙◌, ap}
use Rattle.circus_syntax.specs.InterfaceTree.{InterfaceTree}
use Rattle.circus_syntax.specs.Placed.{is_name}
use Rattle.circus_syntax.specs.Reader.{Reader}
use Rattle.circus_syntax.specs.Reading.{interface}
use Rattle.circus_syntax.proofs.Loops.{goes_on}
use Rattle.circus_expression.specs.Standing.{show_as}
use Rattle.circus_statement.proofs.Steps.{go_on}
use Rattle.circus_lang.specs.ModuleTree.{ModuleTree}
use Rattle.circus_lang.specs.ModuleReading.{begins_module, module_text}
use Rattle.circus_lang.specs.ModuleStanding.{module_stands_for}
use Rattle.circus_troupe.specs.declared.deployment_text.DeploymentText.{DeploymentText}
use Rattle.circus_troupe.specs.DeploymentReading.{deployment}
use Rattle.circus_file.specs.declared.program_text.Format.{Format}
use Rattle.circus_file.specs.ProgramReading.{heading, interfaces, modules, program}
use Rattle.circus_file.specs.ProgramTree.{ProgramTree, program_stands_for}

pub interfaces_begin : (n : ℕ) (r : Reader) (none : List InterfaceTree) → none ≡ [] → interfaces n r ≡ goes_on is_name (interface n) none r
unfolding interfaces
interfaces_begin n r none empty = ap (λ l. goes_on is_name (interface n) l r) (sym empty)

pub modules_begin : (n : ℕ) (r : Reader) (none : List ModuleTree) → none ≡ [] → show_as (map module_stands_for) (modules n r) ≡ go_on module_stands_for begins_module (module_text n) none r
unfolding modules
modules_begin n r none empty = ap (λ l. go_on module_stands_for begins_module (module_text n) l r) (sym empty)

program_tree : Format → List InterfaceTree → List ModuleTree → DeploymentText → ProgramTree
program_tree f is ms d = record { format = f; interfaces = is; modules = ms; deployment = d }

pub program_is : (n : ℕ) (r s t u v : Reader) (f : Format) (is : List InterfaceTree) (ms : List ModuleTree) (d : DeploymentText) → heading r ≡ (f, s) → interfaces n s ≡ (is, t) → show_as (map module_stands_for) (modules n t) ≡ (ms, u) → deployment u ≡ (d, v)
    → show_as program_stands_for (program n r) ≡ (record { format = f; interfaces = is; modules = ms; deployment = d }, v)
unfolding program program_tree
program_is n r s t u v f is ms d a b c e =
    front
    ∙ ap (λ (q : List ModuleTree × Reader). (program_tree f is q.0 (deployment q.1).0, (deployment q.1).1)) c
    ∙ ap (λ (q : DeploymentText × Reader). (program_tree f is ms q.0, q.1)) e
  where
    front : show_as program_stands_for (program n r) ≡ (program_tree f is (map module_stands_for (modules n t).0) (deployment (modules n t).1).0, (deployment (modules n t).1).1)
    front = rw (a, b) refl
