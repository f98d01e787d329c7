use Rattle.std.proofs.Common.{[], ◌∷◌, ◌++◌, sym, ◌∙◌, ap}
use Rattle.circus_syntax.specs.Reading.{behind}
use Rattle.circus_syntax.proofs.Tokens.{comma_sign, is_comma}
use Rattle.circus_syntax.proofs.Loops.{comma_step, comma_shorter, goes_end}
use Rattle.circus_troupe.specs.DeploymentReading.{host}
use Rattle.circus_troupe.proofs.Deployments.{sound_host}
use Rattle.circus_troupe.proofs.Steps.{hosts_begin}
use Rattle.circus_troupe.proofs.deployment_reading.hosts.Goals as goal

pub loop-reader-init : goal.loop-reader-init
loop-reader-init c =
    hosts_begin c.args.reader.now c.host.new.reader c.in_ok-host.field-0 c.push.new.self c.in_ok-host.ensures (c.in_ok-push.ensures.ok ∙ ap (λ l. l ++ c.in_ok-host.field-0 ∷ []) c.new-hosts.ensures)

pub loop-reader-smaller : goal.loop-reader-smaller
loop-reader-smaller c =
    comma_shorter sound_host c.loop-reader.reader c.sign.new.self c.host-in-loop-reader.new.reader c.in_ok-host-2.field-0 c.sees_sign.result
    c.sees_sign.ensures c.loop-reader-test.true c.sign.ensures c.in_ok-host-2.ensures

pub loop-reader-preserved : goal.loop-reader-preserved
loop-reader-preserved c =
    comma_step sound_host _ c.loop-reader.hosts c.push-in-loop-reader.new.self c.loop-reader.reader c.sign.new.self c.host-in-loop-reader.new.reader c.in_ok-host-2.field-0 c.sees_sign.result
    c.loop-reader.invariant c.sees_sign.ensures c.loop-reader-test.true c.sign.ensures c.in_ok-host-2.ensures c.in_ok-push-2.ensures.ok

pub returns : goal.returns
returns c = c.loop-reader.invariant ∙ goes_end is_comma (behind comma_sign host) c.loop-reader.hosts c.loop-reader.reader (sym c.sees_sign.ensures ∙ c.loop-reader-test.false)
