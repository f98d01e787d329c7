use Rattle.std.proofs.Common.{inl, inr, sym, ◌∙◌}
use Rattle.circus_header.specs.Reading.{calls}
use Rattle.circus_header.specs.Seen.Layouts.{call_layout}
use Rattle.circus_header.proofs.Calls.{under_calls}
use Rattle.circus_header.proofs.Answering.{answer_failed, answer_whole, answer_excess}
use Rattle.circus_header.proofs.reading.whole_call.Goals as goal

pub returns-in_err-call : goal.returns-in_err-call
returns-in_err-call g c = answer_failed calls (g.S.ByteSource.octets c.args.source.now) call_layout _ _ under_calls c.in_err-call.ensures c.from_residual.ensures

pub returns-then-has_body : goal.returns-then-has_body
returns-then-has_body g c =
    answer_whole calls (g.S.ByteSource.octets c.args.source.now) call_layout c.in_ok-call.call c.in_ok-call.end under_calls c.in_ok-call.ensures (inl (sym c.has_body.ensures ∙ c.if-has_body.true))

pub returns-then-end-len : goal.returns-then-end-len
returns-then-end-len g c =
    answer_excess calls (g.S.ByteSource.octets c.args.source.now) call_layout c.in_ok-call.call c.in_ok-call.end under_calls c.in_ok-call.ensures (sym c.has_body.ensures ∙ c.if-has_body.false) (rw c.len.ensures at c.if-end-len.true)

pub returns : goal.returns
returns g c =
    answer_whole calls (g.S.ByteSource.octets c.args.source.now) call_layout c.in_ok-call.call c.in_ok-call.end under_calls c.in_ok-call.ensures (inr (rw c.len.ensures at c.if-end-len.false))
