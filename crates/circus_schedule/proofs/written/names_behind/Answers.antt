use Rattle.std.proofs.Common.{◌∙◌, ◌++◌, ◌∷◌, refl, subst, sym}
use Rattle.std.proofs.lemmas.Bool.{false≢true}
use Rattle.std.proofs.lemmas.List.{append_cancel_left}
use Rattle.circus_schedule.specs.WrittenLine.{IsName}
use Rattle.circus_schedule.proofs.Cutting.{same_cut, uncut}
use Rattle.circus_schedule.proofs.Names.{name_lacks}
use Rattle.circus_schedule.proofs.written.names_behind.Goals as goal

pub returns-in_err-first-clause-none : goal.returns-in_err-first-clause-none
returns-in_err-first-clause-none c = rw c.from_residual-in_err-first.ensures (λ first second named called same.
    uncut 32 c.in_ok-text_behind.field-0.now first second c.in_err-first.ensures.none
    (append_cancel_left c.args.beginning.now c.in_ok-text_behind.field-0.now (first ++ 32 ∷ second) (sym c.in_ok-text_behind.ensures ∙ same)))

pub returns-else-are_names-clause-none : goal.returns-else-are_names-clause-none
returns-else-are_names-clause-none c = λ first second named called same.
    let cut = c.in_ok-first.ensures.some in
    let behind = append_cancel_left c.args.beginning.now c.in_ok-text_behind.field-0.now (first ++ 32 ∷ second) (sym c.in_ok-text_behind.ensures ∙ same) in
    let parts = same_cut 32 c.in_ok-first.first.now first c.in_ok-first.second.now second cut.1 (name_lacks 32 refl first named) (sym cut.0 ∙ behind) in
    false≢true (sym c.if-are_names.false ∙ c.are_names.ensures.1 (subst IsName (sym parts.0) named, subst IsName (sym parts.1) called))
