use Rattle.std.proofs.Common.{ap, sym, ◌∙◌, arith}
use Rattle.circus_segment.specs.Segment.{reading}
use Rattle.circus_segment.proofs.Spellings.{read_again, read_spelled}
use Rattle.circus_segment.proofs.segment.read_segment.Goals as goal

pub returns-in_err-segment-clause-only : goal.returns-in_err-segment-clause-only
returns-in_err-segment-clause-only c p s e = ap reading e ∙ read_again p s

pub returns-in-Some-clause-only : goal.returns-in-Some-clause-only
returns-in-Some-clause-only c p s e = ap reading e ∙ read_again p s

pub returns-in-None-clause-read : goal.returns-in-None-clause-read
returns-in-None-clause-read c =
    read_spelled c.args.bytes.now _ (λ i. omega (arith, c.type_inv.bytes i)) c.in_ok-segment.ensures.0 c.in_ok-segment.ensures.1 (sym c.refusal.ensures ∙ c.in-None.is)

pub returns-in-None-clause-only : goal.returns-in-None-clause-only
returns-in-None-clause-only c p s e = ap reading e ∙ read_again p s
