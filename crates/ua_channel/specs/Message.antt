-- The bytes of a message.
use Rattle.std.specs.Prelude.{ℕ, List}
use Rattle.ua_channel.specs.declared.message.Lies.{Lies}
use Rattle.ua_channel.specs.declared.message.Lies.TheVariants.{InChunk, Joined}

-- the bytes of a message, wherever they lie
abbrev pub bytes_in : Lies → List ℕ
bytes_in (InChunk bytes) = bytes.now
bytes_in (Joined bytes) = bytes
