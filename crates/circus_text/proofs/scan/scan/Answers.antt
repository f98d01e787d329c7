use Rattle.std.proofs.Common.{sym, subst}
use Rattle.std.proofs.lemmas.List.{take_rest}
use Rattle.circus_text.proofs.Scanning.{ReadTo, read_more}
use Rattle.circus_text.proofs.scan.scan.Goals as goal

-- one piece more, and the token that it is
pub loop-at-preserved : goal.loop-at-preserved
loop-at-preserved c =
    let found = rw take_rest at c.in-Piece.ensures in
    subst (ReadTo _ _) (sym c.in_ok-push_token-in-Piece.ensures) (read_more c.args.text.now c.loop-at.at c.in-Piece.len c.loop-at.found c.in-Piece.form c.loop-at.invariant found.0 found.1)
