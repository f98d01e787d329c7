use Rattle.std.proofs.Common.{◌+◌, ◌∙◌, ap, sym, map, drop}
use Rattle.circus_fault.specs.Least.{least_from}
use Rattle.circus_fault.specs.Seen.Tables.{holds_name}
use Rattle.circus_type.proofs.Dropped.{drop_more}
use Rattle.circus_type.specs.Seen.Measured.{cut_off}
use Rattle.circus_resolve.specs.Causes.{rank}
use Rattle.circus_lang.specs.ModuleTree.{variable_of}
use Rattle.circus_check.specs.Faults.{variables_faults, variables_parts, also_variables}
use Rattle.circus_check.specs.Seen.Scoped.{unknown_in, size_in}
use Rattle.circus_check.specs.Seen.Tables.{either}
use Rattle.circus_check.proofs.VariablesFound.{variables_step}
use Rattle.circus_check.proofs.variables.variables.Goals as goal

pub loop-variable-preserved : goal.loop-variable-preserved
loop-variable-preserved c =
    let v = c.variable-item.result in
    let old = c.loop-variable in
    let rest = map variable_of (drop (old.variable-index + 1) c.args.list.now) in
    let left = drop_more c.args.list.now old.variable-index v c.loop-variable-test.true c.variable-item.is in
    let unknown = unknown_in c.args.scope.now in
    let sizes = size_in c.args.scope.now in
    let outer = holds_name c.args.outer.now in
    record {
      found = variables_step unknown sizes outer (holds_name old.names) (holds_name c.meet.new.names) (variable_of v) rest old.best.fault c.meet.new.best.fault c.whole.new.best.fault _ old.parts c.whole.new.parts
          c.in_ok-meet.ensures.found c.in_ok-meet.ensures.added c.in_ok-whole.ensures.found c.in_ok-whole.ensures.counted
          (ap (λ vs. least_from rank old.best.fault (variables_faults cut_off unknown sizes old.parts (either outer (holds_name old.names)) (map variable_of vs))) (sym left) ∙ old.invariant.found);
      counted = ap (λ p. variables_parts cut_off sizes p rest) c.in_ok-whole.ensures.counted
          ∙ ap (λ vs. variables_parts cut_off sizes old.parts (map variable_of vs)) (sym left) ∙ old.invariant.counted;
      names = ap (also_variables rest) c.in_ok-meet.ensures.added ∙ ap (λ vs. also_variables (map variable_of vs) (holds_name old.names)) (sym left) ∙ old.invariant.names;
    }
