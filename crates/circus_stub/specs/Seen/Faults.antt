-- Faults of values as faults of stubs.
use Rattle.circus_external.specs.declared.fault.ExternalFault.{ExternalFault}
use Rattle.circus_external.specs.declared.fault.ExternalFault.TheVariants as external
use Rattle.circus_stub.specs.declared.fault.StubFault.{StubFault}
use Rattle.circus_stub.specs.declared.fault.StubFault.TheVariants.{Short, NotAValue, BadPad, NoMemory}

abbrev pub stub_fault : ExternalFault → StubFault
stub_fault (external.Short place) = Short place
stub_fault (external.NotAValue place) = NotAValue place
stub_fault (external.BadPad place) = BadPad place
stub_fault external.NoMemory = NoMemory
