use Rattle.std.proofs.Common.{ℕ, ◌+◌, ◌∙◌, List, ◌∷◌, get_or, drop, drop_of_length-le, refl, sym, ap, subst, arith}
use Rattle.circus_schedule.specs.declared.line.Line.{Line}
use Rattle.circus_schedule.specs.declared.line.Line.TheVariants.{Deliver}
use Rattle.circus_schedule.specs.Meaning.{NamesBelow}
use Rattle.circus_simulation.proofs.SteppingLines.{stepped_keeps}
use Rattle.circus_program.proofs.Following.{lines_from}
use Rattle.circus_program.proofs.Stepping.{IsLeft, left-next, left-cut}
use Rattle.circus_program.specs.Replay.{follow_lines}
use Rattle.circus_program.proofs.drawing.step_all.Goals as goal

pub loop-place-init : goal.loop-place-init
loop-place-init g c = record { deployed = refl; nodes = refl; steps = omega arith; left = λ names end. refl }

pub step-requires-clause-named : goal.step-requires-clause-named
step-requires-clause-named g c =
    subst (λ (n : ℕ). NamesBelow n (get_or c.args.lines.now c.loop-place.place (Deliver 0))) (sym c.loop-place.invariant.nodes)
    (c.requires.below c.loop-place.place (Deliver 0) c.loop-place-test.true)

pub returns-in-Err-clause-followed : goal.returns-in-Err-clause-followed
returns-in-Err-clause-followed g c =
    let declared = g.M.Module.declared in
    let turn = g.M.Module.turn in
    let lines = c.args.lines.now in
    let place = c.loop-place.place in
    let line = get_or lines place (Deliver 0) in
    let w = c.loop-place.world in
    let left = subst (λ (l : List Line). IsLeft declared turn lines c.args.world (place + 1) l w) (lines_from lines place (Deliver 0) c.loop-place-test.true) c.loop-place.invariant.left in
    left-cut declared turn lines c.args.world (place + 1) line (drop (place + 1) lines) w c.in-Err.fault left c.in-Err.ensures

pub loop-place-preserved : goal.loop-place-preserved
loop-place-preserved g c =
    let declared = g.M.Module.declared in
    let turn = g.M.Module.turn in
    let lines = c.args.lines.now in
    let place = c.loop-place.place in
    let line = get_or lines place (Deliver 0) in
    let w = c.loop-place.world in
    let next = c.in-Ok.world in
    let left = subst (λ (l : List Line). IsLeft declared turn lines c.args.world (place + 1) l w) (lines_from lines place (Deliver 0) c.loop-place-test.true) c.loop-place.invariant.left in
    let keeps = stepped_keeps declared turn line w next c.in-Ok.ensures.1 in
    record {
      deployed = keeps.deployment ∙ c.loop-place.invariant.deployed;
      nodes = keeps.nodes ∙ c.loop-place.invariant.nodes;
      steps = omega (arith, keeps.steps, c.loop-place.invariant.steps);
      left = left-next declared turn lines c.args.world (place + 1) line (drop (place + 1) lines) w next left c.in-Ok.ensures;
    }

pub returns-clause-followed : goal.returns-clause-followed
returns-clause-followed g c =
    let declared = g.M.Module.declared in
    let turn = g.M.Module.turn in
    let place = c.loop-place.place in
    let w = c.loop-place.world in
    λ names end.
    c.loop-place.invariant.left names end
    ∙ ap (λ (l : List Line). follow_lines declared turn names end (place + 1) l w) (drop_of_length-le c.args.lines.now c.loop-place-test.false)

pub returns-clause-deployed : goal.returns-clause-deployed
returns-clause-deployed g c = c.loop-place.invariant.deployed
