-- Whole runs of a channel's calls.
use Rattle.std.specs.Prelude.{◌≡◌, ◌≢◌, ◌+◌, ℕ, List, [], ◌∷◌, true, false, Result, Ok, Err}
use Rattle.uacp.specs.Stream.{ChunkContent}
use Rattle.ua_channel.specs.declared.fault.ChannelFault.{ChannelFault}
use Rattle.ua_channel.specs.declared.fault.ChannelFault.TheVariants.{ChannelId, OutOfMemory}
use Rattle.ua_channel.specs.declared.taken.Taken.{Taken}
use Rattle.ua_channel.specs.Placed.{Placed, Heard, heard_of, placed_chunk, is_more}
use Rattle.ua_channel.specs.Taking.{ChannelState, Takes, Refuses, taken_answer}
use Rattle.ua_channel.specs.Sending.{number_after}

-- what a call did
pub data ChannelCall : Type 0 where
  -- take answered this chunk, or refused it for a fault of its own
  Took : ChunkContent → Result Taken ChannelFault → ChannelCall
  -- take ran out of memory at this chunk
  Starved : ChunkContent → ChannelCall
  -- put_opened or wrap wrote so many chunks
  Wrote : ℕ → ChannelCall

abbrev pub DoesChannelCall : ChannelState → ChannelCall → ChannelState → Type 0
DoesChannelCall old (Took chunk result) new =
    Takes old chunk result new × (result ≢ Err OutOfMemory)
DoesChannelCall old (Starved chunk) new = Refuses old chunk OutOfMemory new
DoesChannelCall old (Wrote count) new = new ≡ record old { next = number_after old.next count }

-- one call after the other
abbrev pub RunsChannel : ChannelState → List ChannelCall → ChannelState → Type 0
RunsChannel old [] new = new ≡ old
RunsChannel old (event ∷ events) new =
    (between : ChannelState) × DoesChannelCall old event between × RunsChannel between events new

-- the chunks that were taken or refused
abbrev pub chunks_of_run : List ChannelCall → List ChunkContent
chunks_of_run [] = []
chunks_of_run (Took chunk result ∷ events) = chunk ∷ chunks_of_run events
chunks_of_run (Starved chunk ∷ events) = chunks_of_run events
chunks_of_run (Wrote count ∷ events) = chunks_of_run events

-- what they were answered
abbrev pub answers_of_run : List ChannelCall → List (Result Taken ChannelFault)
answers_of_run [] = []
answers_of_run (Took chunk result ∷ events) = result ∷ answers_of_run events
answers_of_run (Starved chunk ∷ events) = answers_of_run events
answers_of_run (Wrote count ∷ events) = answers_of_run events

-- how many chunks were written
abbrev pub written_of_run : List ChannelCall → ℕ
written_of_run [] = 0
written_of_run (Took chunk result ∷ events) = written_of_run events
written_of_run (Starved chunk ∷ events) = written_of_run events
written_of_run (Wrote count ∷ events) = count + written_of_run events

-- once a chunk is ill placed, no later one is taken
abbrev pub all_refused : List ChunkContent → List (Result Taken ChannelFault)
all_refused [] = []
all_refused (chunk ∷ chunks) = Err ChannelId ∷ all_refused chunks

-- a well placed chunk is answered by its place, and the answers go on; an ill placed one is
-- answered by its fault, and no later one is taken
abbrev pub goes_on : Heard → Result Placed ChannelFault
    → (Placed → List (Result Taken ChannelFault)) → List ChunkContent
    → List (Result Taken ChannelFault)
goes_on heard (Ok placed) later chunks = Ok (taken_answer heard placed) ∷ later placed
goes_on heard (Err fault) later chunks = Err fault ∷ all_refused chunks

-- what some chunks are answered, each by the chunks before it, the newest of them first
abbrev pub answers_to : List Placed → List ChunkContent → List (Result Taken ChannelFault)
answers_to past [] = []
answers_to past (chunk ∷ chunks) =
    goes_on (heard_of past) (placed_chunk (heard_of past) chunk)
    (λ placed. answers_to (placed ∷ past) chunks) chunks

-- C chunks alone
abbrev pub AreMore : List Placed → Type 0
AreMore [] = Unit {0}
AreMore (chunk ∷ older) = (is_more chunk ≡ true) × AreMore older

-- no C chunk stands last
abbrev pub IsBetween : List Placed → Type 0
IsBetween [] = Unit {0}
IsBetween (chunk ∷ older) = is_more chunk ≡ false

-- some chunks that were taken, the newest first: each was well placed by those before it
abbrev pub AreTaken : List Placed → Type 0
AreTaken [] = Unit {0}
AreTaken (placed ∷ older) =
    ((chunk : ChunkContent) × (placed_chunk (heard_of older) chunk ≡ Ok placed)) × AreTaken older

-- the chunks that are taken of some, the newest first, where each is judged by the ones before it:
-- as many as come before the first ill placed one
abbrev pub taken_by : (Placed → List Placed) → List Placed → Result Placed ChannelFault
    → List Placed
taken_by later past (Ok placed) = later placed
taken_by later past (Err fault) = past

abbrev pub taken_of : List Placed → List ChunkContent → List Placed
taken_of past [] = past
taken_of past (chunk ∷ chunks) =
    taken_by (λ placed. taken_of (placed ∷ past) chunks) past (placed_chunk (heard_of past) chunk)
