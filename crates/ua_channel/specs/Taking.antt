-- What taking a chunk answers, and what a channel knows after it.
use Rattle.std.specs.Prelude.{◌≡◌, ◌<◌, ◌≤◌, ◌+◌, ℕ, List, [], ◌++◌, length, max, Some, None, true, false, Result, Ok, Err}
use Rattle.uacp.specs.declared.types.Letter.{Letter}
use Rattle.uacp.specs.declared.types.Letter.TheVariants.{Final, More, Abort}
use Rattle.uacp.specs.declared.types.Chunk.{Chunk}
use Rattle.uacp.specs.declared.greeting.Hello.{Hello}
use Rattle.uacp.specs.declared.greeting.Ack.{Ack}
use Rattle.uacp.specs.Stream.{ChunkContent}
use Rattle.ua_channel.specs.declared.fault.ChannelFault.{ChannelFault}
use Rattle.ua_channel.specs.declared.fault.ChannelFault.TheVariants.{OutOfMemory}
use Rattle.ua_channel.specs.declared.taken.Taken.{Taken}
use Rattle.ua_channel.specs.declared.taken.Taken.TheVariants as taken
use Rattle.ua_channel.specs.declared.placed.PlacedChunk.{PlacedChunk}
use Rattle.ua_channel.specs.declared.placed.PlacedChunk.TheVariants as lent
use Rattle.ua_channel.specs.Placed.{Placed, Opens, Says, Closes, Heard, placed_chunk}
use Rattle.ua_channel.specs.declared.headers.Numbers.{Numbers}

-- a chunk that is lent
abbrev pub piece_of : Chunk → ChunkContent
piece_of chunk = record { kind = chunk.kind; letter = chunk.letter; body = chunk.body.now }

-- a chunk that is placed in memory of another
abbrev pub placed_of : PlacedChunk → Placed
placed_of (lent.Opens sequence asked) = Opens sequence asked
placed_of (lent.Says letter numbers body) = Says letter numbers body.now
placed_of (lent.Closes numbers) = Closes numbers

-- what a well placed chunk is answered: a request to open; the body of a message, where it ends
-- one; the end of the channel
abbrev pub taken_answer : Heard → Placed → Taken
taken_answer heard (Opens sequence asked) =
    taken.Opening
    (record {
      request_id = sequence.1;
      handle = asked.handle;
      lifetime = asked.lifetime;
      token = heard.openings + 1;
    })
taken_answer heard (Says Final numbers body) =
    taken.Message numbers.request_id (heard.bytes ++ body)
taken_answer heard (Says More numbers body) = taken.Nothing
taken_answer heard (Says Abort numbers body) = taken.Aborted numbers.request_id
taken_answer heard (Closes numbers) = taken.Closed

-- no message is open
abbrev pub with_none_open : Heard → Heard
with_none_open heard = record heard { chunks = 0; request = 0; bytes = [] }

-- what is known behind one chunk more of the open message
abbrev pub heard_more : Heard → Numbers → List ℕ → Heard
heard_more heard numbers body =
    record heard {
      last = Some numbers.number;
      token = max heard.token numbers.token;
      chunks = heard.chunks + 1;
      request = numbers.request_id;
      bytes = heard.bytes ++ body;
    }

-- behind the last chunk of a message, with these numbers
abbrev pub heard_whole : Heard → Numbers → Heard
heard_whole heard numbers =
    record heard { last = Some numbers.number; token = max heard.token numbers.token }

-- what is known once a well placed chunk is taken
abbrev pub heard_after : Heard → Placed → Heard
heard_after heard (Opens sequence asked) =
    with_none_open (record heard { openings = heard.openings + 1; last = Some sequence.0 })
heard_after heard (Says More numbers body) = heard_more heard numbers body
heard_after heard (Says letter numbers body) = with_none_open (heard_whole heard numbers)
heard_after heard (Closes numbers) =
    with_none_open (record heard { last = Some numbers.number; ended = true })

-- memory is taken for the body of a message alone
abbrev pub TakesMemory : Placed → Type 0
TakesMemory (Opens sequence asked) = ⊥
TakesMemory (Says Final numbers body) = 0 < length body
TakesMemory (Says More numbers body) = 0 < length body
TakesMemory (Says Abort numbers body) = ⊥
TakesMemory (Closes numbers) = ⊥

-- what a channel is: what it knows of the chunks that it took, the sequence number of the next
-- chunk that it writes, how many bytes such a chunk may have, and how many bytes and chunks a
-- message that it writes; 0 is no limit
abbrev pub ChannelState : Type 0
ChannelState = record { heard : Heard; next : ℕ; limit : ℕ; max_message : ℕ; max_chunks : ℕ }

-- a new channel; a chunk that is written has a byte of its message at least
abbrev pub new_channel : Hello → Ack → ChannelState
new_channel hello ack = record {
  next = 1;
  limit = max 25 ack.send_size;
  max_message = hello.max_message;
  max_chunks = hello.max_chunks;
  heard =
      record
      { ended = false; openings = 0; last = None; token = 1; chunks = 0; request = 0; bytes = [] };
}

-- the chunk isn't taken: its fault ends the channel; or memory for a well placed one was wanting,
-- and all is as it was
abbrev pub Refuses : ChannelState → ChunkContent → ChannelFault → ChannelState → Type 0
Refuses old chunk OutOfMemory new =
    ((placed : Placed) × (placed_chunk old.heard chunk ≡ Ok placed) × TakesMemory placed)
    × (new ≡ old)
Refuses old chunk fault new =
    (placed_chunk old.heard chunk ≡ Err fault)
    × (new ≡ record old { heard = record old.heard { ended = true } })

-- what is judged is told so
abbrev pub IsJudged : Result Placed ChannelFault → Result PlacedChunk ChannelFault → Type 0
IsJudged judged (Ok placed) = judged ≡ Ok (placed_of placed)
IsJudged judged (Err fault) = judged ≡ Err fault

-- there is room for the body of a message, unless it is given up
abbrev pub HasRoomFor : Heard → Letter → List ℕ → Type 0
HasRoomFor heard Final body = (heard.chunks < 64) × (length heard.bytes + length body ≤ 4194304)
HasRoomFor heard More body = (heard.chunks < 64) × (length heard.bytes + length body ≤ 4194304)
HasRoomFor heard Abort body = Unit {0}

-- and a token id for an opening
abbrev pub HasRoom : Heard → Placed → Type 0
HasRoom heard (Opens sequence asked) = heard.openings < 4294967295
HasRoom heard (Says letter numbers body) = HasRoomFor heard letter body
HasRoom heard (Closes numbers) = Unit {0}

-- a well placed chunk is answered and known from then on, or memory for it was wanting
abbrev pub Accepts : Heard → Placed → Result Taken ChannelFault → Heard → Type 0
Accepts old placed (Ok taken) new =
    (taken ≡ taken_answer old placed) × (new ≡ heard_after old placed)
Accepts old placed (Err fault) new = (fault ≡ OutOfMemory) × TakesMemory placed × (new ≡ old)

-- what a take does: a well placed chunk is answered and known from then on; another is refused
abbrev pub Takes : ChannelState → ChunkContent → Result Taken ChannelFault → ChannelState → Type 0
Takes old chunk (Ok taken) new =
    (placed : Placed) × (placed_chunk old.heard chunk ≡ Ok placed)
    × (taken ≡ taken_answer old.heard placed)
    × (new ≡ record old { heard = heard_after old.heard placed })
Takes old chunk (Err fault) new = Refuses old chunk fault new

-- it is open: an opening was taken, and neither CLO nor a fault
abbrev pub IsReady : ChannelState → Type 0
IsReady state = (state.heard.ended ≡ false) × (0 < state.heard.openings)

-- what asks for an answer leaves the channel open
abbrev pub LeavesReady : Taken → ChannelState → Type 0
LeavesReady taken.Nothing state = Unit {0}
LeavesReady (taken.Opening request) state = IsReady state
LeavesReady (taken.Message request bytes) state = IsReady state
LeavesReady (taken.Aborted request) state = Unit {0}
LeavesReady taken.Closed state = Unit {0}
