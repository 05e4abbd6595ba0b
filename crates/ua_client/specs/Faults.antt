-- What a fault of an encoding is to a client.
use Rattle.ua_binary.specs.declared.fault.BinaryFault.{BinaryFault}
use Rattle.ua_binary.specs.declared.fault.BinaryFault.TheVariants as binary
use Rattle.ua_client.specs.declared.fault.ClientFault.{ClientFault}
use Rattle.ua_client.specs.declared.fault.ClientFault.TheVariants.{Format, OutOfMemory}

-- want of memory stays what it is, and every other one is one fault
abbrev pub fault_of : BinaryFault → ClientFault
fault_of cause =
    elim cause [
      | binary.Short ↦ Format
      | binary.BadLength ↦ Format
      | binary.BadUtf8 ↦ Format
      | binary.BadEncodingByte ↦ Format
      | binary.OutOfMemory ↦ OutOfMemory
    ]
