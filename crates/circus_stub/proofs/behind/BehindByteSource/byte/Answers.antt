use Rattle.std.proofs.Common.{◌≤◌, length, drop, sym, ◌∙◌, arith, length-drop}
use Rattle.std.proofs.lemmas.Option.{slice_get_past}
use Rattle.circus_stub.proofs.UnpackLemmas.{slice_get-drop}
use Rattle.circus_stub.proofs.behind.BehindByteSource.byte.Goals as goal

pub returns-then-at-saturating_sub : goal.returns-then-at-saturating_sub
returns-then-at-saturating_sub g c =
    c.byte.ensures ∙ sym (slice_get-drop (g.S.ByteSource.octets c.args.self.now.source.now) c.args.self.now.at c.args.at)

pub returns-else-at-saturating_sub : goal.returns-else-at-saturating_sub
returns-else-at-saturating_sub g c =
    let bytes = g.S.ByteSource.octets c.args.self.now.source.now in
    let past : length (drop c.args.self.now.at bytes) ≤ c.args.at = omega (arith, length-drop c.args.self.now.at bytes) in
    sym (slice_get_past (drop c.args.self.now.at bytes) c.args.at past)
