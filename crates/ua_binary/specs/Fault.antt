-- The numbers of the faults, and the status codes that tell them (Part 4, 7.39).
use Rattle.std.specs.Prelude.{ℕ}
use Rattle.ua_binary.specs.declared.codes.Status.{Status}
use Rattle.ua_binary.specs.declared.codes.TheConstants.Status.{BAD_DECODING_ERROR, BAD_OUT_OF_MEMORY}
use Rattle.ua_binary.specs.declared.fault.BinaryFault.{BinaryFault}
use Rattle.ua_binary.specs.declared.fault.BinaryFault.TheVariants.{Short, BadLength, BadUtf8, BadEncodingByte, OutOfMemory}

-- the number that scripts and logs show
abbrev pub binary_fault_number : BinaryFault → ℕ
binary_fault_number Short = 1
binary_fault_number BadLength = 2
binary_fault_number BadUtf8 = 3
binary_fault_number BadEncodingByte = 4
binary_fault_number OutOfMemory = 5

-- want of memory has a code of its own
abbrev pub binary_fault_status : BinaryFault → Status
binary_fault_status OutOfMemory = BAD_OUT_OF_MEMORY
binary_fault_status fault = BAD_DECODING_ERROR
