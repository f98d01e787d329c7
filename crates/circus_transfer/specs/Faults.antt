-- The fault of what stands behind the count of a snapshot.
use Rattle.circus_external.specs.declared.fault.ExternalFault.{ExternalFault}
use Rattle.circus_external.specs.declared.fault.ExternalFault.TheVariants as E
use Rattle.circus_transfer.specs.declared.fault.TransferFault.{TransferFault}
use Rattle.circus_transfer.specs.declared.fault.TransferFault.TheVariants as T

abbrev pub fault_of : ExternalFault → TransferFault
fault_of (E.Short place) = T.Short place
fault_of (E.NotAValue place) = T.NotAValue place
fault_of (E.BadPad place) = T.BadPad place
fault_of E.NoMemory = T.NoMemory
