-- The faults of records.
use Rattle.std.specs.Prelude.{ℕ}
use Rattle.ua_variant.specs.declared.fault.VariantFault.{VariantFault}
use Rattle.ua_variant.specs.declared.fault.VariantFault.TheVariants as value
use Rattle.ua_binary.specs.declared.fault.BinaryFault.{BinaryFault}
use Rattle.ua_binary.specs.declared.fault.BinaryFault.TheVariants as binary
use Rattle.records.specs.declared.fault.RecordFault.{RecordFault}
use Rattle.records.specs.declared.fault.RecordFault.TheVariants.{Binary, BadField, NotCanonical, OutOfMemory}

-- a fault of the encoding as one of a record
abbrev pub binary_fault : BinaryFault → RecordFault
binary_fault fault = elim fault [ binary.OutOfMemory ↦ OutOfMemory | _ ↦ Binary ]

-- the same of a value's fault
abbrev pub value_fault : VariantFault → RecordFault
value_fault fault = elim fault [ value.OutOfMemory ↦ OutOfMemory | _ ↦ Binary ]

-- the number that scripts and logs show
abbrev pub fault_number : RecordFault → ℕ
fault_number Binary = 1
fault_number BadField = 2
fault_number NotCanonical = 3
fault_number OutOfMemory = 4
