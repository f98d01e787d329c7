use Rattle.std.proofs.Common.{◌≡◌, ℕ, true, Option, Some, None, refl, sym, ◌∙◌}
use Rattle.std.specs.Prelude.{is_some, slice_get}
use Rattle.circus_collate.specs.declared.deployment.Deployment.{Deployment}
use Rattle.circus_collate.specs.declared.deployment.Host.{Host}
use Rattle.circus_record.specs.MemberText.{IsHosted}
use Rattle.tests_command.proofs.calls.is_hosted.Goals as goal

is_hosted : (d : Deployment) (node : ℕ) (host : Host) → slice_get d.nodes node ≡ Some host → is_some host.module ≡ true → IsHosted d node
is_hosted d node host at some = by_module host.module refl some
  where
    by_module : (o : Option ℕ) → host.module ≡ o → is_some o ≡ true → IsHosted d node
    by_module None is some = absurd (cc)
    by_module (Some troupe) is some = record { host = host; is_host = at; troupe = troupe; is_troupe = is }

pub returns-in-Some : goal.returns-in-Some
returns-in-Some c = λ some.
    let at : slice_get c.args.deployment.now.nodes c.args.node ≡ Some c.in-Some.host.now = cc (c.in-Some.ensures, c.from.ensures) in
    is_hosted c.args.deployment.now c.args.node c.in-Some.host.now at (sym c.is_some.ensures ∙ some)
