use Rattle.circus_verdict.proofs.BesideLemmas.{as_many}
use Rattle.circus_verdict.proofs.beside.are_answered_so.Goals as goal

pub returns-then-asks-made : goal.returns-then-asks-made
returns-then-asks-made c =
    (λ clash. cc, λ are. absurd (c.if-asks-made.true (as_many c.args.asks.now c.args.made.now are)))
