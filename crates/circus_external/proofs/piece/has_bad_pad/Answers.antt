use Rattle.std.proofs.Common.{◌+◌, ◌<◌, length, drop, sym, ◌∙◌, arith, ap, not, nat_eq, Some, ◌&&◌}
use Rattle.std.specs.Prelude.{slice_index}
use Rattle.std.specs.Option.{option_eq}
use Rattle.circus_external.proofs.PieceLemmas.{bad_byte}
use Rattle.circus_external.proofs.piece.has_bad_pad.Goals as goal

pub returns-then-len-eq1 : goal.returns-then-len-eq1
returns-then-len-eq1 g c =
    let few : c.args.at + c.args.len < length (g.S.ByteSource.octets c.args.source.now) = omega arith in
    c.ne.ensures ∙ ap (λ o. not (option_eq nat_eq o (Some 0))) c.byte.ensures ∙ bad_byte (g.S.ByteSource.octets c.args.source.now) c.args.at c.args.len few
    ∙ ap (λ m. (nat_eq m 1) && not (nat_eq (slice_index (drop c.args.at (g.S.ByteSource.octets c.args.source.now)) c.args.len) 0)) (sym c.if-len-eq1.true)
