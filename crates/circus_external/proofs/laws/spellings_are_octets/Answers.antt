use Rattle.circus_external.proofs.OctetsSpelled.{spelled_octets, fields_spelled_octets}
use Rattle.circus_external.proofs.laws.spellings_are_octets.Goals as goal

pub returns-clause-value : goal.returns-clause-value
returns-clause-value c = spelled_octets

pub returns-clause-fields : goal.returns-clause-fields
returns-clause-fields c = fields_spelled_octets
