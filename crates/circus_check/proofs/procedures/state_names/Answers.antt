use Rattle.std.proofs.Common.{◌+◌, ◌∙◌, ap, sym, map, drop}
use Rattle.circus_fault.specs.Seen.Tables.{holds_name}
use Rattle.circus_type.proofs.Dropped.{drop_more}
use Rattle.circus_lang.specs.ModuleTree.{variable_of}
use Rattle.circus_check.specs.Faults.{also_variables}
use Rattle.circus_check.proofs.VariablesFound.{none_held}
use Rattle.circus_check.proofs.procedures.state_names.Goals as goal

pub loop-variable-preserved : goal.loop-variable-preserved
loop-variable-preserved c =
    let vs = c.args.state.now in
    let old = c.loop-variable in
    let left = drop_more vs old.variable-index c.variable-item.result c.loop-variable-test.true c.variable-item.is in
    ap (also_variables (map variable_of (drop (old.variable-index + 1) vs))) c.in_ok-add_name.ensures
    ∙ ap (λ ws. also_variables (map variable_of ws) (holds_name old.names)) (sym left) ∙ old.invariant

pub loop-variable-init : goal.loop-variable-init
loop-variable-init c = ap (also_variables (map variable_of c.args.state.now)) (none_held c.new-names.result c.new-names.ensures)
