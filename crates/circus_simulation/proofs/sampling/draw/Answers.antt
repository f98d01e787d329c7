use Rattle.std.proofs.Common.{◌+◌, ◌-◌, ◌++◌, suc, List, [], ◌∷◌, Err, sym, ap, subst, ◌∙◌, arith, zero-add}
use Rattle.std.proofs.lemmas.List.{append-nil}
use Rattle.std.proofs.lemmas.Result.{err_from_is_err_and}
use Rattle.circus_schedule.specs.declared.line.Line.{Line}
use Rattle.circus_simulation.specs.Sampled.{sample_lines, lines_drawn}
use Rattle.circus_simulation.specs.Answers.{IsSampled}
use Rattle.circus_simulation.proofs.Possible.{named, legal}
use Rattle.circus_simulation.proofs.Drawing.{next_is, kept, left_behind, goes_on, lines_go_on, ends}
use Rattle.circus_simulation.proofs.sampling.draw.Goals as goal

pub loop-init : goal.loop-init
loop-init g c =
    record {
      live = c.requires.live;
      spares = c.requires.spares;
      few = c.requires.few;
      same = λ left all. ap (λ k. sample_lines g.M.Module.declared g.M.Module.turn k c.args.seed c.args.world) (sym (zero-add left) ∙ all);
      noted = (
        [],
        c.requires.begun,
        λ left all. ap (λ k. lines_drawn g.M.Module.declared g.M.Module.turn k c.args.seed c.args.world) (sym (zero-add left) ∙ all),
      );
    }

pub step-requires-clause-named : goal.step-requires-clause-named
step-requires-clause-named g c =
    let is = next_is c.loop.word c.next_word-word.result c.facts_of.result c.loop.world c.sample_line-line.result
    c.next_word-word.ensures c.facts_of.ensures.facts c.sample_line-line.ensures.drawn c.sample_line-line.ensures.possible in
    named c.loop.world c.sample_line-line.result is.possible

pub step-requires-clause-legal : goal.step-requires-clause-legal
step-requires-clause-legal g c =
    let is = next_is c.loop.word c.next_word-word.result c.facts_of.result c.loop.world c.sample_line-line.result
    c.next_word-word.ensures c.facts_of.ensures.facts c.sample_line-line.ensures.drawn c.sample_line-line.ensures.possible in
    legal c.loop.world c.sample_line-line.result c.loop.invariant.live is.possible

pub returns-in_err-world-clause-sampled : goal.returns-in_err-world-clause-sampled
returns-in_err-world-clause-sampled g c =
    let declared = g.M.Module.declared in
    let turn = g.M.Module.turn in
    let line = c.sample_line-line.result in
    let is = next_is c.loop.word c.next_word-word.result c.facts_of.result c.loop.world line
    c.next_word-word.ensures c.facts_of.ensures.facts c.sample_line-line.ensures.drawn c.sample_line-line.ensures.possible in
    let left = c.args.steps - (c.loop.counter + 1) in
    let same = c.loop.invariant.same (suc left) (omega (arith, c.loop-test.true)) in
    let end = err_from_is_err_and c.from_residual-in_err-world.result c.from_residual-in_err-world.ensures.1 in
    subst (λ r. IsSampled declared turn c.args.steps c.args.seed c.args.world r) (sym end.1)
    (subst (λ f. IsSampled declared turn c.args.steps c.args.seed c.args.world (Err f)) (sym end.2)
    (ends declared turn left c.loop.word c.loop.world line c.args.steps c.args.seed c.args.world c.in_err-world.field-0.0 is c.in_err-world.ensures same))

pub loop-preserved : goal.loop-preserved
loop-preserved g c =
    let declared = g.M.Module.declared in
    let turn = g.M.Module.turn in
    let line = c.sample_line-line.result in
    let next = c.in_ok-world.world in
    let is = next_is c.loop.word c.next_word-word.result c.facts_of.result c.loop.world line
    c.next_word-word.ensures c.facts_of.ensures.facts c.sample_line-line.ensures.drawn c.sample_line-line.ensures.possible in
    let noted = c.loop.invariant.noted in
    let keeps = kept declared turn c.loop.word c.loop.world next line is c.loop.invariant.live c.in_ok-world.ensures in
    record {
      live = keeps.none;
      spares = left_behind line c.loop.spares.now c.left_by-spares.result.now c.loop.world next c.loop.invariant.spares c.left_by-spares.ensures keeps;
      few = omega (arith, keeps.steps, c.loop.invariant.few);
      same = λ left all.
          goes_on declared turn left c.loop.word c.next_word-word.result c.loop.world next line (sample_lines declared turn c.args.steps c.args.seed c.args.world)
          is c.next_word-word.ensures c.in_ok-world.ensures (c.loop.invariant.same (suc left) (omega (arith, all)));
      noted = (
        noted.0 ++ line ∷ [],
        c.in_ok-note.ensures c.args.notes.now noted.0 noted.1,
        λ left all.
            lines_go_on declared turn left c.loop.word c.next_word-word.result c.loop.world next line noted.0 (lines_drawn declared turn c.args.steps c.args.seed c.args.world)
            is c.next_word-word.ensures c.in_ok-world.ensures (noted.2 (suc left) (omega (arith, all))),
      );
    }

pub returns-clause-sampled : goal.returns-clause-sampled
returns-clause-sampled g c = sym (c.loop.invariant.same 0 (omega (arith, c.loop-test.false, c.loop.auto.counter-end)))

pub returns-clause-noted : goal.returns-clause-noted
returns-clause-noted g c =
    let noted = c.loop.invariant.noted in
    let whole = sym (append-nil noted.0) ∙ noted.2 0 (omega (arith, c.loop-test.false, c.loop.auto.counter-end)) in
    subst (λ (lines : List Line). g.N.Noting.noted c.args.notes.now lines c.loop.notes) whole noted.1
