-- The faults of vectors.
use Rattle.std.specs.Prelude.{ℕ}
use Rattle.ua_binary.specs.declared.fault.BinaryFault.{BinaryFault}
use Rattle.ua_binary.specs.declared.fault.BinaryFault.TheVariants as binary
use Rattle.stamp.specs.declared.fault.VectorFault.{VectorFault}
use Rattle.stamp.specs.declared.fault.VectorFault.TheVariants.{NotAscending, BadNumber, Binary, OutOfMemory}

-- a fault of the encoding as one of a vector
abbrev pub vector_fault : BinaryFault → VectorFault
vector_fault fault = elim fault [ binary.OutOfMemory ↦ OutOfMemory | _ ↦ Binary ]

-- the number that scripts and logs show
abbrev pub fault_number : VectorFault → ℕ
fault_number NotAscending = 1
fault_number BadNumber = 2
fault_number Binary = 3
fault_number OutOfMemory = 4
