use Rattle.std.proofs.Common.{ℕ, ◌+◌, ◌∙◌, Bool, List, ap, sym, map, drop, ◌||◌}
use Rattle.std.specs.Prelude.{bytes_eq}
use Rattle.circus_fault.specs.Seen.Tables.{holds_name}
use Rattle.circus_type.proofs.Dropped.{drop_more}
use Rattle.circus_lang.specs.ModuleTree.{procedure_of}
use Rattle.circus_check.specs.Faults.{has_procedure}
use Rattle.circus_check.proofs.VariablesFound.{or_swap}
use Rattle.circus_check.proofs.module.procedure_names.Goals as goal

pub loop-procedure-preserved : goal.loop-procedure-preserved
loop-procedure-preserved c = λ name.
    let ps = c.args.procedures.now in
    let old = c.loop-procedure in
    let p = c.procedure-item.result in
    let rest = has_procedure (map procedure_of (drop (old.procedure-index + 1) ps)) name in
    let left = drop_more ps old.procedure-index p c.loop-procedure-test.true c.procedure-item.is in
    ap (λ (f : List ℕ → Bool). f name || rest) c.in_ok-add_name.ensures
    ∙ or_swap (bytes_eq p.name.name name) (holds_name old.names name) rest
    ∙ ap (λ qs. holds_name old.names name || has_procedure (map procedure_of qs) name) (sym left) ∙ old.invariant name
