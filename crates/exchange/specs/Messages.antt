-- The types of what is said in a dialog, by names that crates above can use.
use Rattle.exchange.specs.declared.message.Header.{Header as FrameHeader}
use Rattle.exchange.specs.declared.message.Message.{Message as Said}
use Rattle.exchange.specs.declared.message.Party.{Party as One}

-- who takes frames: the archive's id, and the replica's number
abbrev pub Party : Type 0
Party = One

-- what a frame's header says
abbrev pub Header : Type 0
Header = FrameHeader

-- what a frame says
abbrev pub Message : Type 0
Message = Said
