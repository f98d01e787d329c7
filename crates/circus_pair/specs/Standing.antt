-- What a pair stands for.
use Rattle.std.specs.Prelude.{◌≡◌, ℕ, if◌then◌else◌}
use Rattle.circus_exchange.specs.declared.exchange.Exchange.{Exchange}
use Rattle.circus_exchange.specs.declared.taken.Arrived.{Arrived}
use Rattle.circus_exchange.specs.declared.taken.Arrived.TheVariants.{Nothing}
use Rattle.circus_exchange.specs.Exchange.{start}
use Rattle.circus_segment.specs.Segment.{Piece}
use Rattle.circus_pair.specs.Acts.{Acts, end_after, taken_by, arrival_by}
use Rattle.circus_pair.specs.Lawful.{AreLawful}
use Rattle.circus_pair.specs.Sending.{takes_after}

-- a pair of a format whose first call has a number, after a lawful list of acts
pub record StandsFor (pair : Exchange) (first format : ℕ) (acts : Acts) : Type 0 where
  pub lawful : AreLawful first format acts
  pub is : pair ≡ end_after (start first format) acts

-- what arrives by a segment that comes after these acts
abbrev pub arrival_after : Exchange → Acts → Piece → Arrived
arrival_after e acts s = if takes_after e acts s then arrival_by (taken_by e acts) s else Nothing
