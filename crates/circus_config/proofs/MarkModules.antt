-- What stands behind the interfaces of a file keeps the marks in their places.
use Rattle.std.proofs.Common.{ℕ, List, []}
use Rattle.std.specs.Prelude.{codes}
use Rattle.circus_syntax.specs.declared.stopping.StopCause.TheVariants.{Unexpected}
use Rattle.circus_syntax.specs.Placed.{word, sign}
use Rattle.circus_syntax.specs.Reader.{both}
use Rattle.circus_statement.specs.StatementReading.{is_word}
use Rattle.circus_lang.specs.WrittenModule.{serving, root}
use Rattle.circus_lang.specs.ModuleReading.{imports, heading, variable, variables, body, procedure, procedures, main_procedure, module_end, serving_module, root_module, module_text, begins_module}
use Rattle.circus_troupe.specs.declared.deployment_text.WrittenKind.{WrittenKind}
use Rattle.circus_troupe.specs.declared.deployment_text.WrittenKind.TheVariants.{First, Majority, Unanimous, AtLeast, Watchdog}
use Rattle.circus_troupe.specs.DeploymentReading.{ringmaster, kind_by, at_least, call_kind, reply_kind, host, hosts, spares, troupe_of_parts, troupe, troupes, any_token, text_end, deployment}
use Rattle.circus_file.specs.ProgramReading.{modules}
use Rattle.circus_config.proofs.Marks.{Keeps, keeps_stopped, keeps_nothing, keeps_both, keeps_mapped, keeps_either, keeps_optional, keeps_repeated, keeps_fixed, keeps_fixed_at, keeps_name, keeps_number, keeps_behind, keeps_list}
use Rattle.circus_config.proofs.MarkTypes.{keeps_names, keeps_type}
use Rattle.circus_config.proofs.MarkStatements.{keeps_semicolon, keeps_list_end, keeps_block}

-- ---- modules

keeps_heading : Keeps heading
unfolding heading imports
keeps_heading =
    keeps_mapped (λ x. x.0)
    (keeps_both (keeps_either (is_word (codes "IMPORTS")) (keeps_behind (word (codes "IMPORTS")) keeps_names) (keeps_nothing [])) (keeps_both keeps_semicolon (keeps_fixed (word (codes "BEGIN")))))

keeps_end : Keeps module_end
unfolding module_end
keeps_end = keeps_mapped (λ x. tt) (keeps_both (keeps_fixed (word (codes "END"))) (keeps_fixed (sign (codes "."))))

module _ (n : ℕ) where
  keeps_variables : Keeps (variables n)
  unfolding variables variable
  keeps_variables =
      keeps_repeated (is_word (codes "VAR"))
      (keeps_mapped (λ x. record { name = x.1.0; shape = x.1.1.1.0 })
      (keeps_both (keeps_fixed (word (codes "VAR"))) (keeps_both keeps_name (keeps_both (keeps_fixed (sign (codes ":"))) (keeps_both (keeps_type n) keeps_semicolon)))))

  keeps_body : Keeps (body n)
  unfolding body
  keeps_body = keeps_mapped (λ x. record { variables = x.0; statements = x.1.0 }) (keeps_both keeps_variables (keeps_both (keeps_block n (codes "BEGIN")) keeps_list_end))

  keeps_procedures : Keeps (procedures n)
  unfolding procedures procedure
  keeps_procedures =
      keeps_repeated (is_word (codes "PROCEDURE"))
      (keeps_mapped (λ x. record { name = x.1.0; body = x.1.1 }) (keeps_both (keeps_fixed (word (codes "PROCEDURE"))) (keeps_both keeps_name keeps_body)))

  keeps_serving : Keeps (serving_module n)
  unfolding serving_module
  keeps_serving =
      keeps_mapped (λ x. serving x.1.0 x.1.1.1.0 x.1.1.1.1.0 x.1.1.1.1.1.0 x.1.1.1.1.1.1.0)
      (keeps_both (keeps_fixed (word (codes "MODULE"))) (keeps_both keeps_name (keeps_both (keeps_fixed (word (codes "IMPLEMENTS"))) (keeps_both keeps_name
      (keeps_both keeps_heading (keeps_both keeps_variables (keeps_both keeps_procedures keeps_end)))))))

  keeps_root : Keeps (root_module n)
  unfolding root_module main_procedure
  keeps_root =
      keeps_mapped (λ x. root x.1.0 x.1.1.0 x.1.1.1.0 x.1.1.1.1.0.0 x.1.1.1.1.0.1)
      (keeps_both (keeps_fixed (word (codes "ROOT"))) (keeps_both keeps_name (keeps_both keeps_heading (keeps_both keeps_variables (keeps_both (keeps_both (keeps_fixed_at (word (codes "MAIN"))) keeps_body) keeps_end)))))

  keeps_modules : Keeps (modules n)
  unfolding modules module_text
  keeps_modules = keeps_repeated begins_module (keeps_either (is_word (codes "ROOT")) keeps_root keeps_serving)

-- ---- the deployment

keeps_kind : (w : List ℕ) (k : WrittenKind) → Keeps (kind_by w k)
keeps_kind w k = keeps_mapped (λ at. record { at = at; kind = k }) (keeps_fixed_at (word w))

keeps_call_kind : Keeps call_kind
unfolding call_kind at_least
keeps_call_kind =
    keeps_either (is_word (codes "AT")) (keeps_mapped (λ x. record { at = x.0; kind = AtLeast x.1.1 }) (keeps_both (keeps_fixed_at (word (codes "AT"))) (keeps_both (keeps_fixed (word (codes "LEAST"))) keeps_number)))
    (keeps_either (is_word (codes "MAJORITY")) (keeps_kind (codes "MAJORITY") Majority)
    (keeps_either (is_word (codes "UNANIMOUS")) (keeps_kind (codes "UNANIMOUS") Unanimous) (keeps_kind (codes "FIRST") First)))

keeps_reply_kind : Keeps reply_kind
unfolding reply_kind
keeps_reply_kind = keeps_either (is_word (codes "WATCHDOG")) (keeps_kind (codes "WATCHDOG") Watchdog) keeps_call_kind

keeps_hosts : Keeps hosts
unfolding hosts host
keeps_hosts = keeps_list (keeps_mapped (λ x. record { name = x.0; port = x.1.1 }) (keeps_both keeps_name (keeps_both (keeps_fixed (word (codes "PORT"))) keeps_number)))

keeps_troupes : Keeps troupes
unfolding troupes troupe spares
keeps_troupes =
    keeps_repeated (is_word (codes "TROUPE"))
    (keeps_mapped troupe_of_parts
    (keeps_both (keeps_fixed (word (codes "TROUPE"))) (keeps_both keeps_name (keeps_both (keeps_fixed (word (codes "CALLS"))) (keeps_both keeps_call_kind (keeps_both (keeps_fixed (word (codes "REPLIES"))) (keeps_both keeps_reply_kind
    (keeps_both (keeps_fixed (word (codes "MEMBERS"))) (keeps_both keeps_hosts (keeps_both (keeps_optional (is_word (codes "SPARES")) (keeps_behind (word (codes "SPARES")) keeps_hosts)) keeps_semicolon))))))))))

keeps_deployment : Keeps deployment
unfolding deployment ringmaster text_end
keeps_deployment =
    keeps_mapped (λ x. record { ringmaster = x.0; troupes = x.1.0 })
    (keeps_both
    (keeps_mapped (λ x. record { name = x.1.0; port = x.1.1.1.0 })
    (keeps_both (keeps_fixed (word (codes "RINGMASTER"))) (keeps_both keeps_name (keeps_both (keeps_fixed (word (codes "PORT"))) (keeps_both keeps_number keeps_semicolon)))))
    (keeps_both keeps_troupes (keeps_either any_token (keeps_stopped Unexpected (λ at. tt)) (keeps_nothing tt))))

pub keeps_behind_interfaces : (n : ℕ) → Keeps (both (modules n) deployment)
keeps_behind_interfaces n = keeps_both (keeps_modules n) keeps_deployment
