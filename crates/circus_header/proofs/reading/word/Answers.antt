use Rattle.std.proofs.Common.{inl, inr, arith}
use Rattle.circus_header.specs.Seen.Layout.{ended, cut, out, more}
use Rattle.circus_header.proofs.reading.word.Goals as goal

pub returns-in_default : goal.returns-in_default
returns-in_default g c = cut c.in_default.ensures.short

pub returns-then-number-least : goal.returns-then-number-least
returns-then-number-least g c =
    out c.in-Some.number (record { room = omega arith; here = c.in-Some.ensures.stands })
    (elim c.then-number-least.either [ inl below ↦ inl below | inr above ↦ inr above.1 ])

pub returns : goal.returns
returns g c =
    more c.in-Some.number (record { room = omega arith; here = c.in-Some.ensures.stands }) c.if-number-least.false c.if-most-number.false ended
