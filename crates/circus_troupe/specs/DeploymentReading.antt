-- The productions of deployments, as they read.
use Rattle.std.specs.Prelude.{ℕ, Bool, true, List, Option, codes}
use Rattle.circus_syntax.specs.declared.named.Named.{Named}
use Rattle.circus_syntax.specs.declared.stopping.StopCause.TheVariants.{Unexpected}
use Rattle.circus_syntax.specs.Placed.{Placed, word}
use Rattle.circus_syntax.specs.Reader.{Reader, stop_reading, nothing, both, map_read, either, optional, repeat_while}
use Rattle.circus_syntax.specs.Reading.{expect_token, fixed_at, name, number, behind, comma_list}
use Rattle.circus_statement.specs.StatementReading.{is_word, semicolon}
use Rattle.circus_troupe.specs.declared.deployment_text.RingmasterText.{RingmasterText}
use Rattle.circus_troupe.specs.declared.deployment_text.WrittenKind.{WrittenKind}
use Rattle.circus_troupe.specs.declared.deployment_text.WrittenKind.TheVariants.{First, Majority, Unanimous, AtLeast, Watchdog}
use Rattle.circus_troupe.specs.declared.deployment_text.KindText.{KindText}
use Rattle.circus_troupe.specs.declared.deployment_text.HostText.{HostText}
use Rattle.circus_troupe.specs.declared.deployment_text.TroupeText.{TroupeText}
use Rattle.circus_troupe.specs.declared.deployment_text.DeploymentText.{DeploymentText}

unfoldable pub ringmaster : Reader → RingmasterText × Reader
ringmaster =
    map_read (λ x. record { name = x.1.0; port = x.1.1.1.0 })
    (both (expect_token (word (codes "RINGMASTER"))) (both name (both (expect_token (word (codes "PORT"))) (both number semicolon))))

-- the kind that is this word
abbrev pub kind_by : List ℕ → WrittenKind → Reader → KindText × Reader
kind_by w k = map_read (λ at. record { at = at; kind = k }) (fixed_at (word w))

unfoldable pub at_least : Reader → KindText × Reader
at_least =
    map_read (λ x. record { at = x.0; kind = AtLeast x.1.1 }) (both (fixed_at (word (codes "AT"))) (both (expect_token (word (codes "LEAST"))) number))

-- where none begins it is read as FIRST, which stops
unfoldable pub call_kind : Reader → KindText × Reader
call_kind =
    either (is_word (codes "AT")) at_least
    (either (is_word (codes "MAJORITY")) (kind_by (codes "MAJORITY") Majority)
    (either (is_word (codes "UNANIMOUS")) (kind_by (codes "UNANIMOUS") Unanimous)
    (kind_by (codes "FIRST") First)))

unfoldable pub reply_kind : Reader → KindText × Reader
reply_kind = either (is_word (codes "WATCHDOG")) (kind_by (codes "WATCHDOG") Watchdog) call_kind

unfoldable pub host : Reader → HostText × Reader
host = map_read (λ x. record { name = x.0; port = x.1.1 }) (both name (both (expect_token (word (codes "PORT"))) number))

unfoldable pub hosts : Reader → List HostText × Reader
hosts = comma_list host

unfoldable pub spares : Reader → Option (List HostText) × Reader
spares = optional (is_word (codes "SPARES")) (behind (word (codes "SPARES")) hosts)

abbrev pub troupe_of_parts : Unit {0} × (Named × (Unit {0} × (KindText × (Unit {0} × (KindText × (Unit {0} × (List HostText × (Option (List HostText) × Unit {0})))))))) → TroupeText
troupe_of_parts x = record {
  name = x.1.0;
  calls = x.1.1.1.0;
  replies = x.1.1.1.1.1.0;
  members = x.1.1.1.1.1.1.1.0;
  spares = x.1.1.1.1.1.1.1.1.0;
}

unfoldable pub troupe : Reader → TroupeText × Reader
troupe =
    map_read troupe_of_parts
    (both (expect_token (word (codes "TROUPE"))) (both name (both (expect_token (word (codes "CALLS"))) (both call_kind (both (expect_token (word (codes "REPLIES"))) (both reply_kind
    (both (expect_token (word (codes "MEMBERS"))) (both hosts (both spares semicolon)))))))))

unfoldable pub troupes : Reader → List TroupeText × Reader
troupes = repeat_while (is_word (codes "TROUPE")) troupe

abbrev pub any_token : Placed → Bool
any_token t = true

-- there is no token more
unfoldable pub text_end : Reader → Unit {0} × Reader
text_end = either any_token (stop_reading Unexpected (λ at. tt)) (nothing tt)

unfoldable pub deployment : Reader → DeploymentText × Reader
deployment = map_read (λ x. record { ringmaster = x.0; troupes = x.1.0 }) (both ringmaster (both troupes text_end))
