use Rattle.std.proofs.Common.{◌<◌, arith}
use Rattle.circus_header.specs.Seen.Layout.{ended, end}
use Rattle.circus_header.specs.Seen.Layouts.{clock_layout}
use Rattle.circus_header.specs.declared.answer.ReturnHeader.TheVariants.{Reply}
use Rattle.circus_header.proofs.Steps.{next_read, next_failed, then_read, then_failed, return_at, return_beyond}
use Rattle.circus_header.proofs.reading.any_return.Goals as goal

pub returns-in_err-kind : goal.returns-in_err-kind
returns-in_err-kind g c = next_failed c.in_err-kind.ensures c.from_residual.ensures

pub returns-in_err-clock-in-0 : goal.returns-in_err-clock-in-0
returns-in_err-clock-in-0 g c =
    next_read c.in_ok-kind.ensures (return_at c.in_ok-kind.kind 0 c.in-0.is (then_failed (clock_layout 1) (λ clock. end (Reply clock)) c.in_err-clock-in-0.ensures c.from_residual-in_err-clock-in-0.ensures))

pub returns-in_ok-clock-in-0 : goal.returns-in_ok-clock-in-0
returns-in_ok-clock-in-0 g c =
    next_read c.in_ok-kind.ensures (return_at c.in_ok-kind.kind 0 c.in-0.is (then_read (clock_layout 1) (λ clock. end (Reply clock)) c.in_ok-clock-in-0.ensures ended))

pub returns-in_err-incarnation-in-1 : goal.returns-in_err-incarnation-in-1
returns-in_err-incarnation-in-1 g c =
    next_read c.in_ok-kind.ensures (return_at c.in_ok-kind.kind 1 c.in-1.is (next_failed c.in_err-incarnation-in-1.ensures c.from_residual-in_err-incarnation-in-1.ensures))

pub returns-in_ok-incarnation-in-1 : goal.returns-in_ok-incarnation-in-1
returns-in_ok-incarnation-in-1 g c =
    next_read c.in_ok-kind.ensures (return_at c.in_ok-kind.kind 1 c.in-1.is (next_read c.in_ok-incarnation-in-1.ensures ended))

pub returns-in_err-first-in-2 : goal.returns-in_err-first-in-2
returns-in_err-first-in-2 g c =
    next_read c.in_ok-kind.ensures (return_at c.in_ok-kind.kind 2 c.in-2.is (next_failed c.in_err-first-in-2.ensures c.from_residual-in_err-first-in-2.ensures))

pub returns-in_ok-first-in-2 : goal.returns-in_ok-first-in-2
returns-in_ok-first-in-2 g c =
    next_read c.in_ok-kind.ensures (return_at c.in_ok-kind.kind 2 c.in-2.is (next_read c.in_ok-first-in-2.ensures ended))

pub returns-in_err-count-in-3 : goal.returns-in_err-count-in-3
returns-in_err-count-in-3 g c =
    next_read c.in_ok-kind.ensures (return_at c.in_ok-kind.kind 3 c.in-3.is (next_failed c.in_err-count-in-3.ensures c.from_residual-in_err-count-in-3.ensures))

pub returns-in_ok-count-in-3 : goal.returns-in_ok-count-in-3
returns-in_ok-count-in-3 g c =
    next_read c.in_ok-kind.ensures (return_at c.in_ok-kind.kind 3 c.in-3.is (next_read c.in_ok-count-in-3.ensures ended))

pub returns-in_default : goal.returns-in_default
returns-in_default g c =
    let beyond : 3 < c.in_ok-kind.kind = omega arith in
    next_read c.in_ok-kind.ensures (return_beyond c.in_ok-kind.kind beyond ended)
