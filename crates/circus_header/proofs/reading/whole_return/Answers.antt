use Rattle.std.proofs.Common.{inl, inr, sym, ◌∙◌}
use Rattle.circus_header.specs.Reading.{returns as headers}
use Rattle.circus_header.specs.Seen.Layouts.{return_layout}
use Rattle.circus_header.proofs.Returns.{under_returns}
use Rattle.circus_header.proofs.Answering.{answer_failed, answer_whole, answer_excess}
use Rattle.circus_header.proofs.reading.whole_return.Goals as goal

pub returns-in_err-header : goal.returns-in_err-header
returns-in_err-header g c = answer_failed headers (g.S.ByteSource.octets c.args.source.now) return_layout _ _ under_returns c.in_err-header.ensures c.from_residual.ensures

pub returns-then-has_rest : goal.returns-then-has_rest
returns-then-has_rest g c =
    answer_whole headers (g.S.ByteSource.octets c.args.source.now) return_layout c.in_ok-header.header c.in_ok-header.end under_returns c.in_ok-header.ensures (inl (sym c.has_rest.ensures ∙ c.if-has_rest.true))

pub returns-then-end-len : goal.returns-then-end-len
returns-then-end-len g c =
    answer_excess headers (g.S.ByteSource.octets c.args.source.now) return_layout c.in_ok-header.header c.in_ok-header.end under_returns c.in_ok-header.ensures (sym c.has_rest.ensures ∙ c.if-has_rest.false) (rw c.len.ensures at c.if-end-len.true)

pub returns : goal.returns
returns g c =
    answer_whole headers (g.S.ByteSource.octets c.args.source.now) return_layout c.in_ok-header.header c.in_ok-header.end under_returns c.in_ok-header.ensures (inr (rw c.len.ensures at c.if-end-len.false))
