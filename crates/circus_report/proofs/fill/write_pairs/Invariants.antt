use Rattle.std.proofs.Common.{◌≡◌, ◌*◌, ◌++◌, take, drop}
use Rattle.hex.specs.Hex.{encode_lower}
use Rattle.circus_report.proofs.fill.write_pairs.Given as goal

-- the digits of the front are written, and those of the others are left
abbrev pub invariant-bytes : goal.invariant-bytes
invariant-bytes l =
    take (2 * l.place) l.digits ++ encode_lower (drop l.place l.bytes) ≡ encode_lower l.bytes
