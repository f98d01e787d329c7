-- A message on its way, without where it lies in memory.
use Rattle.circus_segment.specs.Cut.{Outgoing}
use Rattle.circus_segment.specs.declared.cut.Cut.{Cut}

abbrev pub outgoing_of : Cut → Outgoing
outgoing_of c = record { format = c.format; kind = c.kind; call = c.call; total = c.total; message = c.message.now }
