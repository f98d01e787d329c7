use Rattle.std.proofs.Common.{◌≡◌, ◌+◌, ◌∙◌, [], ap, sym, map, drop, is_none, is_some, None}
use Rattle.std.proofs.lemmas.List.{drop_all}
use Rattle.circus_fault.specs.Least.{least_from}
use Rattle.circus_fault.specs.Seen.Tables.{holds_name}
use Rattle.circus_type.proofs.Dropped.{drop_more}
use Rattle.circus_fault.proofs.LeastIs.{clean_is, none_result}
use Rattle.circus_resolve.specs.Causes.{rank}
use Rattle.circus_lang.specs.ModuleTree.{variable_of}
use Rattle.circus_check.specs.Faults.{plain_faults}
use Rattle.circus_check.specs.Seen.Scoped.{unknown_in}
use Rattle.circus_check.specs.Seen.Tables.{either}
use Rattle.circus_check.proofs.VariablesFound.{either_none, plain_step}
use Rattle.circus_check.proofs.variables.are_plain.Goals as goal

pub loop-variable-init : goal.loop-variable-init
loop-variable-init c =
    let outer = holds_name c.args.outer.now in
    ap (λ names. least_from rank None (plain_faults (unknown_in c.args.scope.now) names (map variable_of c.args.list.now)))
    ((λ i. either outer (λ name. is_some (c.new-names.ensures i name))) ∙ either_none outer)

pub loop-variable-preserved : goal.loop-variable-preserved
loop-variable-preserved c =
    let v = c.variable-item.result in
    let old = c.loop-variable in
    let rest = map variable_of (drop (old.variable-index + 1) c.args.list.now) in
    let left = drop_more c.args.list.now old.variable-index v c.loop-variable-test.true c.variable-item.is in
    let unknown = unknown_in c.args.scope.now in
    let outer = holds_name c.args.outer.now in
    plain_step unknown outer (holds_name old.names) (holds_name c.meet.new.names) (variable_of v) rest old.own.fault c.meet.new.best.fault c.check_inside.new.best.fault _
    c.in_ok-meet.ensures.found c.in_ok-meet.ensures.added c.in_ok-check_inside.ensures
    (ap (λ vs. least_from rank old.own.fault (plain_faults unknown (either outer (holds_name old.names)) (map variable_of vs))) (sym left) ∙ old.invariant)

-- no variable is left
pub returns : goal.returns
returns c =
    let old = c.loop-variable in
    let unknown = unknown_in c.args.scope.now in
    let names = either (holds_name c.args.outer.now) (holds_name old.names) in
    let end : map variable_of (drop old.variable-index c.args.list.now) ≡ [] = ap (map variable_of) (drop_all old.variable-index c.args.list.now c.loop-variable-test.false) in
    let whole = ap (λ vs. least_from rank old.own.fault (plain_faults unknown names vs)) (sym end) ∙ old.invariant in
    none_result c.is_none.result _ c.is_none.ensures ∙ ap is_none whole ∙ clean_is rank (plain_faults unknown (holds_name c.args.outer.now) (map variable_of c.args.list.now))
