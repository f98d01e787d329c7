use Rattle.circus_config.proofs.OneReading.{same_stop, one_interfaces}
use Rattle.circus_config.proofs.laws.one_reading.Goals as goal

pub returns-clause-stop : goal.returns-clause-stop
returns-clause-stop c = same_stop

pub returns-clause-interfaces : goal.returns-clause-interfaces
returns-clause-interfaces c = one_interfaces
