use Rattle.std.proofs.Common.{◌≡◌, ◌+◌, ◌-◌, subst, arith}
use Rattle.circus_header.specs.Seen.Layout.{of_long, numbers, Reading}
use Rattle.circus_header.proofs.Steps.{number_more, number_failed, number_end, none_read}
use Rattle.circus_header.proofs.reading.longs.Goals as goal

pub loop-i-init : goal.loop-i-init
loop-i-init g c r d =
    let all : c.args.count - 0 ≡ c.args.count = omega arith in
    let from_all = subst (λ k. Reading (g.S.ByteSource.octets c.args.source.now) (numbers of_long 0 4294967295 k c.new-clock.result) c.args.from r) all d in
    subst (λ w. Reading (g.S.ByteSource.octets c.args.source.now) (numbers of_long 0 4294967295 c.args.count w) c.args.from r) c.new-clock.ensures from_all

pub returns-in_err-number : goal.returns-in_err-number
returns-in_err-number g c =
    c.loop-i.invariant _ (number_failed (g.S.ByteSource.octets c.args.source.now) of_long 0 4294967295 c.args.count c.loop-i._i c.loop-i.clock c.loop-i.at
    (omega arith) c.in_err-number.ensures c.from_residual.ensures)

pub returns-in_err-push : goal.returns-in_err-push
returns-in_err-push g c = none_read c.from_residual-in_err-push.ensures

pub loop-i-preserved : goal.loop-i-preserved
loop-i-preserved g c r d =
    c.loop-i.invariant r (number_more (g.S.ByteSource.octets c.args.source.now) of_long 0 4294967295 c.args.count c.loop-i._i c.loop-i.clock c.loop-i.at
    (omega arith) c.in_ok-number.ensures
    (subst (λ w. Reading (g.S.ByteSource.octets c.args.source.now) (numbers of_long 0 4294967295 (c.args.count - (c.loop-i._i + 1)) w) c.in_ok-number.next r) c.in_ok-push.ensures.ok d))

pub returns : goal.returns
returns g c =
    c.loop-i.invariant _ (number_end (g.S.ByteSource.octets c.args.source.now) of_long 0 4294967295 c.args.count c.loop-i._i c.loop-i.clock c.loop-i.at c.loop-i-test.false)
