-- The faults of this crate, and those of the binary encoding as such.
use Rattle.std.specs.Prelude.{ℕ}
use Rattle.ua_binary.specs.declared.fault.BinaryFault.{BinaryFault}
use Rattle.ua_binary.specs.declared.fault.BinaryFault.TheVariants as binary
use Rattle.ua_binary.specs.declared.codes.Status.{Status}
use Rattle.ua_binary.specs.declared.codes.TheConstants.Status.{BAD_OUT_OF_MEMORY, BAD_DECODING_ERROR}
use Rattle.ua_variant.specs.declared.fault.VariantFault.{VariantFault}
use Rattle.ua_variant.specs.declared.fault.VariantFault.TheVariants.{Short, BadLength, BadUtf8, BadEncodingByte, OutOfMemory, TypeUnsupported}

-- a fault of the binary encoding as one of this crate
abbrev pub variant_fault : BinaryFault → VariantFault
variant_fault fault =
    elim fault [
      | binary.Short ↦ Short
      | binary.BadLength ↦ BadLength
      | binary.BadUtf8 ↦ BadUtf8
      | binary.BadEncodingByte ↦ BadEncodingByte
      | binary.OutOfMemory ↦ OutOfMemory
    ]

-- the number that scripts and logs show
abbrev pub variant_fault_number : VariantFault → ℕ
variant_fault_number Short = 1
variant_fault_number BadLength = 2
variant_fault_number BadUtf8 = 3
variant_fault_number BadEncodingByte = 4
variant_fault_number OutOfMemory = 5
variant_fault_number TypeUnsupported = 6

-- want of memory has a code of its own
abbrev pub variant_fault_status : VariantFault → Status
variant_fault_status OutOfMemory = BAD_OUT_OF_MEMORY
variant_fault_status fault = BAD_DECODING_ERROR
