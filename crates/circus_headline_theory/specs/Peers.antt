-- That what happened at the pairs of a node is of other nodes: nothing comes of a node that is none of them, and nothing is called there.
use Rattle.std.specs.Prelude.{ℕ, ◌≢◌, ◌<◌}
use Rattle.circus_wire.specs.Wire.{Beginning}
use Rattle.circus_wire.specs.WireActs.{WireAct, WireActs, begun, followed_by, CallTo, AnswerTo, CameFrom, TickAll, StopOf}
use Rattle.circus_member_rules.specs.declared.occurrence.Effect.{Effect}
use Rattle.circus_member_rules.specs.declared.occurrence.Effect.TheVariants as makes
use Rattle.circus_member_rules.specs.declared.occurrence.Purpose.{Purpose}

abbrev pub IsPeer : Beginning → ℕ → Type 0
IsPeer b node = (node ≢ b.own) × (node < b.nodes)

abbrev pub ComesOfPeer : Beginning → WireAct Purpose → Type 0
ComesOfPeer b (CallTo to message purpose) = IsPeer b to
ComesOfPeer b (AnswerTo caller message) = Unit {0}
ComesOfPeer b (CameFrom from s) = IsPeer b from
ComesOfPeer b TickAll = Unit {0}
ComesOfPeer b (StopOf node) = Unit {0}

abbrev pub ComeOfPeers : Beginning → WireActs Purpose → Type 0
ComeOfPeers b begun = Unit {0}
ComeOfPeers b (followed_by acts act) = ComeOfPeers b acts × ComesOfPeer b act

-- what is made calls none but these
abbrev pub GoesToPeer : Beginning → Effect → Type 0
GoesToPeer b (makes.Call to message purpose) = IsPeer b to
GoesToPeer b (makes.Answer caller message) = Unit {0}
