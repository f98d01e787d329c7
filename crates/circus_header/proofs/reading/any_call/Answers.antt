use Rattle.std.proofs.Common.{◌<◌, arith}
use Rattle.circus_header.specs.Seen.Layout.{ended, end}
use Rattle.circus_header.specs.Seen.Layouts.{ask_layout, request_layout}
use Rattle.circus_header.specs.declared.call.Call.TheVariants.{Ask, Ring}
use Rattle.circus_header.proofs.Steps.{next_read, next_failed, then_read, then_failed, call_at, call_beyond}
use Rattle.circus_header.proofs.reading.any_call.Goals as goal

pub returns-in_err-kind : goal.returns-in_err-kind
returns-in_err-kind g c = next_failed c.in_err-kind.ensures c.from_residual.ensures

pub returns-in_err-header-in-0 : goal.returns-in_err-header-in-0
returns-in_err-header-in-0 g c =
    next_read c.in_ok-kind.ensures (call_at c.in_ok-kind.kind 0 c.in-0.is (then_failed ask_layout (λ h. end (Ask h)) c.in_err-header-in-0.ensures c.from_residual-in_err-header-in-0.ensures))

pub returns-in_err-request-in-1 : goal.returns-in_err-request-in-1
returns-in_err-request-in-1 g c =
    next_read c.in_ok-kind.ensures (call_at c.in_ok-kind.kind 1 c.in-1.is (then_failed request_layout (λ r. end (Ring r)) c.in_err-request-in-1.ensures c.from_residual-in_err-request-in-1.ensures))

pub returns-in_ok-header-in-0 : goal.returns-in_ok-header-in-0
returns-in_ok-header-in-0 g c =
    next_read c.in_ok-kind.ensures (call_at c.in_ok-kind.kind 0 c.in-0.is (then_read ask_layout (λ h. end (Ask h)) c.in_ok-header-in-0.ensures ended))

pub returns-in_ok-request-in-1 : goal.returns-in_ok-request-in-1
returns-in_ok-request-in-1 g c =
    next_read c.in_ok-kind.ensures (call_at c.in_ok-kind.kind 1 c.in-1.is (then_read request_layout (λ r. end (Ring r)) c.in_ok-request-in-1.ensures ended))

pub returns-in_default : goal.returns-in_default
returns-in_default g c =
    let beyond : 1 < c.in_ok-kind.kind = omega arith in
    next_read c.in_ok-kind.ensures (call_beyond c.in_ok-kind.kind beyond c.fetch.ensures)
