use Rattle.std.proofs.Common.{◌∙◌, subst, sym}
use Rattle.std.proofs.lemmas.Bool.{false≢true}
use Rattle.std.proofs.lemmas.List.{append_cancel_left}
use Rattle.circus_schedule.specs.WrittenLine.{IsName}
use Rattle.circus_schedule.proofs.written.name_behind.Goals as goal

pub returns-else-is_name-clause-none : goal.returns-else-is_name-clause-none
returns-else-is_name-clause-none c = λ name named same.
    let behind = append_cancel_left c.args.beginning.now c.in_ok-name.name.now name (sym c.in_ok-name.ensures ∙ same) in
    false≢true (sym c.if-is_name.false ∙ c.is_name.ensures.1 (subst IsName (sym behind) named))
