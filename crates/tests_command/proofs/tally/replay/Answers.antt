use Rattle.std.proofs.Common.{◌≡◌, [], ◌∷◌, ◌++◌, length, arith, length-append}
use Rattle.circus_schedule.specs.declared.line.Line.TheVariants.{Deliver}
use Rattle.circus_world.proofs.SoundLemmas.{step_sound}
use Rattle.tests_command.proofs.Leading.{one_more, steps_led}
use Rattle.circus_plan_modules.proofs.Named.{nodes_ascii}
use Rattle.tests_command.proofs.tally.replay.Goals as goal

pub line-requires-clause-few : goal.line-requires-clause-few
line-requires-clause-few g c =
    let led = c.loop-number.invariant in
    let steps : c.loop-number.running.steps ≡ length led.lines =
    steps_led g.M.Module.declared g.M.Module.turn g.M.Module.first c.args.deployment c.args.modules.items led.lines
    c.in_ok-world.world c.in_ok-running.running c.loop-number.running c.in_ok-world.ensures c.in_ok-running.ensures.same led.lead in
    omega (arith, led.count, c.loop-number-test.true)

pub loop-number-preserved : goal.loop-number-preserved
loop-number-preserved g c =
    let declared = g.M.Module.declared in
    let turn = g.M.Module.turn in
    let led = c.loop-number.invariant in
    let line = Deliver c.loop-number.number in
    let before = c.loop-number.running in
    let last = c.in_ok-running-2.running in
    let run = c.in_ok-running-2.ensures.run in
    record {
      sound = step_sound declared turn line before last led.sound run.1;
      lines = led.lines ++ line ∷ [];
      lead = one_more declared turn led.lines line c.in_ok-running.running before last led.lead
          (record { named = tt; legal = run.0; stepped_is = run.1 });
      count = omega (arith, length-append led.lines (line ∷ []), led.count);
    }

pub finish-requires-clause-nodes : goal.finish-requires-clause-nodes
finish-requires-clause-nodes g c = nodes_ascii c.loop-number.running.deployment c.loop-number.invariant.sound.deployment
