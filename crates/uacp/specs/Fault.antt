-- What a fault is called outside: by its number, and by the status code that an Error tells (Part
-- 6, 7.1.2.5 and 7.1.5).
use Rattle.std.specs.Prelude.{ℕ}
use Rattle.ua_binary.specs.declared.codes.Status.{Status}
use Rattle.ua_binary.specs.declared.codes.TheConstants.Status.{BAD_OUT_OF_MEMORY, BAD_DECODING_ERROR, BAD_TCP_MESSAGE_TYPE_INVALID, BAD_TCP_MESSAGE_TOO_LARGE, BAD_CONNECTION_REJECTED}
use Rattle.ua_binary.specs.declared.fault.BinaryFault.{BinaryFault}
use Rattle.ua_binary.specs.declared.fault.BinaryFault.TheVariants as binary
use Rattle.uacp.specs.declared.types.UacpFault.{UacpFault}
use Rattle.uacp.specs.declared.types.UacpFault.TheVariants.{TypeInvalid, TooLarge, SizeTooSmall, HelloInvalid, BuffersTooSmall, OutOfMemory}

abbrev pub uacp_fault_number : UacpFault → ℕ
uacp_fault_number TypeInvalid = 1
uacp_fault_number TooLarge = 2
uacp_fault_number SizeTooSmall = 3
uacp_fault_number HelloInvalid = 4
uacp_fault_number BuffersTooSmall = 5
uacp_fault_number OutOfMemory = 6

-- the status code of the Error message that refuses a chunk (Part 6, 7.1.2.5)
abbrev pub uacp_fault_status : UacpFault → Status
uacp_fault_status fault =
    elim fault [
      | TypeInvalid ↦ BAD_TCP_MESSAGE_TYPE_INVALID
      | TooLarge ↦ BAD_TCP_MESSAGE_TOO_LARGE
      | SizeTooSmall ↦ BAD_DECODING_ERROR
      | HelloInvalid ↦ BAD_DECODING_ERROR
      | BuffersTooSmall ↦ BAD_CONNECTION_REJECTED
      | OutOfMemory ↦ BAD_OUT_OF_MEMORY
    ]

-- a fault of the encoding, as the greeting tells it
abbrev pub fault_of : BinaryFault → UacpFault
fault_of binary.Short = HelloInvalid
fault_of binary.BadLength = HelloInvalid
fault_of binary.BadUtf8 = HelloInvalid
fault_of binary.BadEncodingByte = HelloInvalid
fault_of binary.OutOfMemory = OutOfMemory
