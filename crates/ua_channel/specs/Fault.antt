-- What a fault is called outside: by its number, and by the status code that an Error tells (Part
-- 6, 7.1.2.5).
use Rattle.std.specs.Prelude.{ℕ}
use Rattle.ua_binary.specs.declared.codes.Status.{Status}
use Rattle.ua_binary.specs.declared.codes.TheConstants.Status.{BAD_OUT_OF_MEMORY, BAD_DECODING_ERROR, BAD_SECURE_CHANNEL_ID_INVALID, BAD_REQUEST_TYPE_INVALID, BAD_SECURITY_MODE_REJECTED, BAD_SECURITY_POLICY_REJECTED, BAD_TCP_MESSAGE_TOO_LARGE, BAD_SECURE_CHANNEL_TOKEN_UNKNOWN, BAD_SEQUENCE_NUMBER_INVALID}
use Rattle.ua_channel.specs.declared.fault.ChannelFault.{ChannelFault}
use Rattle.ua_channel.specs.declared.fault.ChannelFault.TheVariants.{Policy, Mode, RequestType, ChannelId, Token, Sequence, TooManyChunks, TooLarge, Decoding, OutOfMemory}

abbrev pub channel_fault_number : ChannelFault → ℕ
channel_fault_number Policy = 1
channel_fault_number Mode = 2
channel_fault_number RequestType = 3
channel_fault_number ChannelId = 4
channel_fault_number Token = 5
channel_fault_number Sequence = 6
channel_fault_number TooManyChunks = 7
channel_fault_number TooLarge = 8
channel_fault_number Decoding = 9
channel_fault_number OutOfMemory = 10

-- the status code that refuses a chunk (Part 6, 7.1.2.5)
abbrev pub channel_fault_status : ChannelFault → Status
channel_fault_status Policy = BAD_SECURITY_POLICY_REJECTED
channel_fault_status Mode = BAD_SECURITY_MODE_REJECTED
channel_fault_status RequestType = BAD_REQUEST_TYPE_INVALID
channel_fault_status ChannelId = BAD_SECURE_CHANNEL_ID_INVALID
channel_fault_status Token = BAD_SECURE_CHANNEL_TOKEN_UNKNOWN
channel_fault_status Sequence = BAD_SEQUENCE_NUMBER_INVALID
channel_fault_status TooManyChunks = BAD_TCP_MESSAGE_TOO_LARGE
channel_fault_status TooLarge = BAD_TCP_MESSAGE_TOO_LARGE
channel_fault_status Decoding = BAD_DECODING_ERROR
channel_fault_status OutOfMemory = BAD_OUT_OF_MEMORY
