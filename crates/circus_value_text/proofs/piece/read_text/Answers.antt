use Rattle.std.proofs.Common.{List, ℕ, drop, codes}
use Rattle.std.proofs.lemmas.Result.{err_from_is_err_and}
use Rattle.circus_value_text.specs.Reading.{octets_read}
use Rattle.circus_value_text.proofs.PieceLemmas.{between_fault}
use Rattle.circus_value_text.proofs.piece.read_text.Goals as goal

pub returns-in_err-octets : goal.returns-in_err-octets
returns-in_err-octets c =
    let p = err_from_is_err_and c.from_residual-in_err-octets.result c.from_residual-in_err-octets.ensures.1 in
    let text = c.args.text.now in
    rw (p.1, p.2)
    (between_fault (λ (bs : List ℕ). bs) (λ (bs : List ℕ). bs) text c.in_err-octets.field-0.0 (codes "\"") (codes "\"") (drop c.args.at text) (drop c.in_ok-inner.inner text) (octets_read 65535) c.in_ok-inner.ensures.1 c.in_err-octets.ensures)
