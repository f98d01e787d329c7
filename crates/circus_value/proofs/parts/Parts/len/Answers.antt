use Rattle.std.proofs.Common.{subst, rules}
use Rattle.circus_value.specs.Parts.{AreOctets}
use Rattle.circus_value.proofs.Octets.{both_octets}
use Rattle.circus_value.proofs.parts.Parts.len.Goals as goal

pub returns-clause-octets : goal.returns-clause-octets
returns-clause-octets c =
    let first : AreOctets c.as_slice-first.result.now = search rules in
    subst AreOctets c.self.view_is (both_octets c.self.inside.first c.self.inside.tail (subst AreOctets c.as_slice-first.ensures first) c.len.ensures.octets)
