use Rattle.std.proofs.Common.{◌≡◌, ◌+◌, ◌∙◌, true, false, cond, Some, ap, sym, map, drop, not, is_some}
use Rattle.circus_fault.specs.Seen.Tables.{known_of}
use Rattle.circus_type.proofs.Dropped.{drop_more}
use Rattle.circus_lang.specs.ModuleTree.{procedure_of}
use Rattle.circus_check.specs.Faults.{has_procedure, lacking_of}
use Rattle.circus_check.proofs.module.first_missing.Goals as goal

pub loop-procedure-preserved : goal.loop-procedure-preserved
loop-procedure-preserved c =
    let order = c.args.order.now in
    let ps = map procedure_of c.args.procedures.now in
    let i = c.loop-procedure.procedure-index in
    let p = c.procedure-item.result in
    let left = drop_more order i p c.loop-procedure-test.true c.procedure-item.is in
    let held : has_procedure ps p.name ≡ true =
    sym (c.in_ok-names.ensures p.name) ∙ sym (ap is_some (c.get.ensures ∙ ap (known_of c.in_ok-names.names) c.as_slice.ensures)) ∙ c.is_none.ensures ∙ ap not c.if-is_none.false in
    sym (ap (λ b. cond b (lacking_of (drop (i + 1) order) ps) (Some p)) held)
    ∙ ap (λ qs. lacking_of qs ps) (sym left) ∙ c.loop-procedure.invariant

pub returns-then-is_none : goal.returns-then-is_none
returns-then-is_none c =
    let order = c.args.order.now in
    let ps = map procedure_of c.args.procedures.now in
    let i = c.loop-procedure.procedure-index in
    let p = c.procedure-item.result in
    let left = drop_more order i p c.loop-procedure-test.true c.procedure-item.is in
    let lacks : has_procedure ps p.name ≡ false =
    sym (c.in_ok-names.ensures p.name) ∙ sym (ap is_some (c.get.ensures ∙ ap (known_of c.in_ok-names.names) c.as_slice.ensures)) ∙ c.is_none.ensures ∙ ap not c.if-is_none.true in
    sym (ap (λ b. cond b (lacking_of (drop (i + 1) order) ps) (Some p)) lacks)
    ∙ ap (λ qs. lacking_of qs ps) (sym left) ∙ c.loop-procedure.invariant
