use Rattle.std.proofs.Common.{ℕ, ◌+◌, ◌*◌, get_or, slice_index, ap, ◌∙◌, arith}
use Rattle.hex.specs.Hex.{lower_digits}
use Rattle.hex.proofs.Pairs.{encode_step, encode_done}
use Rattle.circus_report.specs.declared.fill.TheConstants.{PAIRS}
use Rattle.circus_report.proofs.PairTable.{pair_at}
use Rattle.circus_report.proofs.fill.write_pairs.Goals as goal

pub bytes-preserved : goal.bytes-preserved
bytes-preserved c =
    let byte : ℕ = slice_index c.args.bytes.now c.bytes.place in
    let pair = pair_at byte (omega arith) in
    encode_step lower_digits c.args.bytes.now c.bytes.digits c.bytes.place _ _ (omega arith) (omega arith)
    (ap (λ (b : ℕ). get_or PAIRS (b * 2) 0) c.from-pair.ensures ∙ pair.0) (ap (λ (b : ℕ). get_or PAIRS (b * 2 + 1) 0) c.from-pair.ensures ∙ pair.1) c.bytes.invariant

pub returns : goal.returns
returns c = encode_done lower_digits c.args.bytes.now c.bytes.digits c.bytes.place (omega arith) (omega arith) c.bytes.invariant
