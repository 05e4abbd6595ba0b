-- What the server's steps come to.
use Rattle.std.specs.Prelude.{◌≡◌, ◌≤◌, ◌<◌, ◌+◌, ◌*◌, ℕ, true, List, [], ◌∷◌, ◌++◌, length, Option, None, Some, Result, Ok, Err}
use Rattle.ua_binary.specs.declared.codes.Status.{Status}
use Rattle.ua_binary.specs.declared.codes.TheConstants.Status.{BAD_OUT_OF_MEMORY}
use Rattle.uacp.specs.Stream.{ChunkContent}
use Rattle.uacp.specs.Held.{IntakeState, next_of}
use Rattle.uacp.specs.Chunks.{chunk_header}
use Rattle.uacp.specs.Greeting.{error}
use Rattle.ua_channel.specs.Taking.{ChannelState}
use Rattle.ua_channel.specs.Sending.{message_bytes, chunk_count, number_after}
use Rattle.ua_session.specs.Sessions as session
use Rattle.ua_settings.specs.Settings.{SettingsValues}
use Rattle.records.specs.Contents.{Content}
use Rattle.archive.specs.Store.{Store, StepResult, faults_of}
use Rattle.archive.specs.Steps.{Transitions}
use Rattle.historian.specs.Services.{ServerConfig, site_of}
use Rattle.ua_connection.specs.declared.outcome.Served.{Served}
use Rattle.ua_connection.specs.declared.outcome.Served.TheVariants.{EndOfInput, Refused}
use Rattle.counted_io.specs.declared.fault.ServeFault.{ServeFault}
use Rattle.counted_io.specs.declared.fault.ServeFault.TheVariants.{Read, Write, TooLong, OutOfMemory}
use Rattle.ua_connection.specs.declared.turn.Step.{Step}
use Rattle.ua_connection.specs.declared.turn.Step.TheVariants.{NeedsInput, Acknowledged, Continues, Ended}
use Rattle.ua_connection.specs.Environments.{Environment, or_out_of_memory, YieldsWith}
use Rattle.ua_connection.specs.Passing.{LineEvent, Went, AreWrites, came_of, went_of}
use Rattle.ua_connection.specs.Run.{AnswersStream}
use Rattle.ua_connection.specs.Serving.{ArePrompt}
use Rattle.ua_connection.specs.Client.{Client, new_client, ClientState, Ending, Answering, refuse, channel_chunk_answer, chunk_answer, chunks}

-- what a connection keeps: what is known of its client, and the bytes that came and weren't
-- answered yet
pub record ConnectionState : Type 0 where
  pub client : Client
  pub waiting : List ℕ

-- no whole chunk and no fault stands first
abbrev pub NeedsBytes : ConnectionState → Type 0
NeedsBytes link = chunk_header link.client.greeted link.client.limit link.waiting ≡ Ok None

-- 1,000,000 chunks at most were taken, each of 65,536 bytes at most
abbrev pub IsSmall : ConnectionState → Type 0
IsSmall link = (link.client.taken ≤ 1000000) × (link.client.limit ≤ 65536)

-- what a connection keeps, by its intake, the number of chunks that were taken, its channel and its
-- sessions
abbrev pub link_of : IntakeState → ℕ → Option ChannelState → session.SessionsState → ConnectionState
link_of held taken channel sessions = record {
  client =
      record {
        greeted = held.greeted;
        limit = held.limit;
        taken = taken;
        channel = channel;
        sessions = sessions;
      };
  waiting = held.waiting;
}

-- ---- turns

-- the end that a turn is, if it is one
abbrev pub ending_of : Result Step ServeFault → Option Ending
ending_of (Ok NeedsInput) = None
ending_of (Ok (Acknowledged limit)) = None
ending_of (Ok Continues) = None
ending_of (Ok (Ended served)) = Some (Ok served)
ending_of (Err fault) = Some (Err fault)

-- what ends a stretch: nothing more waits, or the connection ends
abbrev pub end_of : Result Step ServeFault → Option (Result (Option Served) ServeFault)
end_of (Ok NeedsInput) = Some (Ok None)
end_of (Ok (Acknowledged limit)) = None
end_of (Ok Continues) = None
end_of (Ok (Ended served)) = Some (Ok (Some served))
end_of (Err fault) = Some (Err fault)

-- ends that answering makes itself; a greeting grants chunks of n bytes at most
abbrev pub IsOwn : (waits : Type 0) → ℕ → Result Step ServeFault → Type 0
IsOwn waits n (Ok NeedsInput) = waits
IsOwn waits n (Ok (Acknowledged limit)) = limit ≤ n
IsOwn waits n (Ok Continues) = Unit {0}
IsOwn waits n (Ok (Ended EndOfInput)) = ⊥
IsOwn waits n (Ok (Ended served)) = Unit {0}
IsOwn waits n (Err Read) = ⊥
IsOwn waits n (Err Write) = ⊥
IsOwn waits n (Err fault) = Unit {0}

-- a chunk more was taken, later ones have this many bytes at most, and the channel and the sessions
-- are these
abbrev pub went : Client → ℕ → Option ChannelState → session.SessionsState → Client
went client limit channel sessions =
    record {
      greeted = true;
      limit = limit;
      taken = client.taken + 1;
      channel = channel;
      sessions = sessions;
    }

-- the client behind a turn that is no end
abbrev pub client_after : Client → Result Step ServeFault → Option ChannelState
    → session.SessionsState → Client
client_after client (Ok NeedsInput) channel sessions =
    record client { channel = channel; sessions = sessions }
client_after client (Ok (Acknowledged limit)) channel sessions = went client limit channel sessions
client_after client (Ok Continues) channel sessions = went client client.limit channel sessions
client_after client (Ok (Ended served)) channel sessions =
    record client { channel = channel; sessions = sessions }
client_after client (Err fault) channel sessions =
    record client { channel = channel; sessions = sessions }

-- a client with these sessions, and what the archive holds
abbrev pub standing_of : Client → session.SessionsState → Content → ClientState
standing_of client sessions content =
    record { client = record client { sessions = sessions }; content = content }

-- ---- steps

-- By this, and no more, of the outside these bytes are made, and this end if there is one; then the
-- archive holds S, and unless it is the end the client stands so.
pub record Replies (given : Answering) (used : Environment) (made : List ℕ) (ending : Option Ending)
    (client : Client) (S : Content) : Type 0 where
  pub last : ClientState
  pub content : last.content ≡ S
  pub goes : ending ≡ None → last.client ≡ client
  pub does : YieldsWith given used (record { out = made; ending = ending; state = last })

-- these bytes were appended: of each content that may be held before, what is given makes just
-- these, this end, and the client that goes on, by all that came from outside
pub record Answered (old new : Store) (given : Content → Answering) (used : Environment)
    (before after : List ℕ) (ending : Option Ending) (client : Client) : Type 0 where
  pub made : List ℕ
  pub appended : after ≡ before ++ made
  pub moves : Transitions old new used.marks
      (λ marks R S. Replies (given R) (record used { marks = marks }) made ending client S)

-- the same by steps that ask no archive
pub record AnsweredHere (given : Content → Answering) (used : List StepResult)
    (before after : List ℕ) (ending : Option Ending) (client : Client) : Type 0 where
  pub quiet : faults_of used ≡ []
  pub made : List ℕ
  pub appended : after ≡ before ++ made
  pub replies : (R : Content)
      → Replies (given R) (record { marks = used; readings = [] }) made ending client R

-- memory for a chunk of the channel is had, and it is answered; or it is wanting
abbrev pub channel_chunk_answer_or_starved : ServerConfig → ClientState → Option ChannelState
    → ChunkContent → Answering
channel_chunk_answer_or_starved config standing channel piece =
    or_out_of_memory (channel_chunk_answer config standing channel piece)
    (refuse standing BAD_OUT_OF_MEMORY)

-- the same of any chunk
abbrev pub chunk_answer_or_starved : ServerConfig → ClientState → ChunkContent → Answering
chunk_answer_or_starved config standing piece =
    or_out_of_memory (chunk_answer config standing piece.kind piece)
    (refuse standing BAD_OUT_OF_MEMORY)

-- ---- stretches of the answer

-- by this, and no more, of the outside the answer to the bytes that wait begins with these bytes,
-- and with this end if there is one; then the archive holds S, and unless it is the end the
-- connection goes on like this
pub record AnswersBytes (config : ServerConfig) (link : ConnectionState) (R : Content)
    (used : Environment) (made : List ℕ) (ending : Option Ending) (next : ConnectionState)
    (S : Content) : Type 0 where
  pub last : ClientState
  pub content : last.content ≡ S
  pub goes : ending ≡ None → last.client ≡ next.client
  pub answers : AnswersStream (chunks config)
      (record { client = link.client; content = R }) link.waiting used
      (record { out = made; ending = ending; state = last }) next.waiting

-- a stretch of the answer over an archive
abbrev pub Advances : SettingsValues → Store → Store → ConnectionState → Environment → List ℕ
    → Option Ending → ConnectionState → Type 0
Advances settings old new link used made ending next =
    Transitions old new used.marks
    (λ marks R S.
    AnswersBytes (site_of settings old) link R
    (record used { marks = marks }) made ending next S)

-- the same, where the bytes were appended
abbrev pub AdvancesInto : SettingsValues → Store → Store → ConnectionState → Environment → List ℕ
    → List ℕ → Option Ending → ConnectionState → Type 0
AdvancesInto settings old new link used before after ending next =
    (made : List ℕ) × (after ≡ before ++ made)
    × Advances settings old new link used made ending next

-- ---- parts

-- an ERR with this code was appended, or memory for it was wanting
abbrev pub Refuses : Status → Ending → List ℕ → List ℕ → Type 0
Refuses code (Ok served) before after =
    (served ≡ Refused code) × (after ≡ before ++ error.canon code)
Refuses code (Err fault) before after = (fault ≡ OutOfMemory) × (after ≡ before)

abbrev pub RefusesTurn : Status → Result Step ServeFault → List ℕ → List ℕ → Type 0
RefusesTurn code (Ok turn) before after =
    (turn ≡ Ended (Refused code)) × (after ≡ before ++ error.canon code)
RefusesTurn code (Err fault) before after = (fault ≡ OutOfMemory) × (after ≡ before)

-- a body was sent, or memory for it was wanting
abbrev pub SendsTurn : ChannelState → ℕ → List ℕ → Result Step ServeFault → List ℕ → List ℕ
    → ChannelState → Type 0
SendsTurn old request body (Ok turn) before after new =
    (turn ≡ Continues) × (after ≡ before ++ message_bytes old request body)
    × (new ≡ record old { next = number_after old.next (chunk_count old body) })
SendsTurn old request body (Err fault) before after new = (fault ≡ OutOfMemory) × (after ≡ before)

-- ---- what is left

-- what an intake would give next is what stands first in the bytes that wait
abbrev pub IsNextCurrent : IntakeState → Type 0
IsNextCurrent held = next_of held ≡ chunk_header held.greeted held.limit held.waiting

-- fewer bytes wait, by one chunk, which has at most 65,536
abbrev pub IsChunkLess : List ℕ → List ℕ → Type 0
IsChunkLess old new = (length new < length old) × (length old ≤ length new + 65536)

-- a chunk was given out of the intake
pub record GivesOne (old new : IntakeState) : Type 0 where
  pub greeted : new.greeted ≡ true
  pub limit : new.limit ≡ old.limit
  pub failed : new.failed ≡ None
  pub less : IsChunkLess old.waiting new.waiting

-- what a turn leaves in the intake
abbrev pub LeavesIntake : Result Step ServeFault → IntakeState → IntakeState → Type 0
LeavesIntake (Ok NeedsInput) old new = new ≡ old
LeavesIntake (Ok (Acknowledged limit)) old new = GivesOne old new
LeavesIntake (Ok Continues) old new = GivesOne old new
LeavesIntake (Ok (Ended served)) old new = (new.limit ≡ old.limit) × IsNextCurrent new
LeavesIntake (Err fault) old new = (new.limit ≡ old.limit) × IsNextCurrent new

-- what was taken and what is left came to no less than before
abbrev pub IsNoLess : ConnectionState → ConnectionState → Type 0
IsNoLess old new =
    65536 * old.client.taken + length old.waiting ≤ 65536 * new.client.taken + length new.waiting

-- a turn that goes on leaves fewer bytes
abbrev pub Shortens : Result Step ServeFault → ConnectionState → ConnectionState → Type 0
Shortens (Ok NeedsInput) old new = IsNoLess old new
Shortens (Ok (Acknowledged limit)) old new =
    (length new.waiting < length old.waiting) × IsNoLess old new
Shortens (Ok Continues) old new = (length new.waiting < length old.waiting) × IsNoLess old new
Shortens (Ok (Ended served)) old new = Unit {0}
Shortens (Err fault) old new = Unit {0}

-- a chunk that goes on is no chunk too many
abbrev pub IsCounted : ℕ → Result Step ServeFault → Type 0
IsCounted taken (Ok NeedsInput) = Unit {0}
IsCounted taken (Ok (Acknowledged limit)) = taken < 1000000
IsCounted taken (Ok Continues) = taken < 1000000
IsCounted taken (Ok (Ended served)) = Unit {0}
IsCounted taken (Err fault) = Unit {0}

-- ---- what was written

-- this is the answer to the chunks at hand; where the writer failed, a first part of that
abbrev pub DrainsTo : SettingsValues → Store → Store → ConnectionState → Environment → List ℕ
    → Result (Option Served) ServeFault → ConnectionState → Type 0
DrainsTo settings old new link used out (Ok None) next =
    Advances settings old new link used out None next
DrainsTo settings old new link used out (Ok (Some served)) next =
    Advances settings old new link used out (Some (Ok served)) next
DrainsTo settings old new link used out (Err Write) next =
    (unsent : List ℕ) × (ending : Option Ending)
    × Advances settings old new link used (out ++ unsent) ending next
DrainsTo settings old new link used out (Err fault) next =
    Advances settings old new link used out (Some (Err fault)) next

-- the chunks at hand were answered, and the answer was written
abbrev pub SentAll : SettingsValues → Store → Store → ConnectionState → Environment → List LineEvent
    → Result (Option Served) ServeFault → ConnectionState → Type 0
SentAll settings old new link used events result next =
    AreWrites events × DrainsTo settings old new link used (went_of events) result next

-- the answer so far, and what went out of it
abbrev pub DrainedSoFar : SettingsValues → Store → Store → ConnectionState → Environment
    → List LineEvent → ConnectionState → Type 0
DrainedSoFar settings old new link used events next =
    AreWrites events × Advances settings old new link used (went_of events) None next

-- ends of a stretch that answering makes itself
abbrev pub IsOwnEnd : (waits : Type 0) → Result (Option Served) ServeFault → Type 0
IsOwnEnd waits (Ok None) = waits
IsOwnEnd waits (Ok (Some EndOfInput)) = ⊥
IsOwnEnd waits (Ok (Some served)) = Unit {0}
IsOwnEnd waits (Err Read) = ⊥
IsOwnEnd waits (Err fault) = Unit {0}

-- ---- the whole connection

-- before the first chunk
abbrev pub new_link : ConnectionState
new_link = record { client = new_client; waiting = [] }

-- by what passed so far the connection stands like this, and whenever more was read, all that had
-- come till then was answered
abbrev pub ServesSoFar : SettingsValues → Store → Store → (first : List ℕ) → List LineEvent
    → Environment → ConnectionState → Type 0
ServesSoFar settings old new first events used link = Transitions old new used.marks (λ marks R S.
    AnswersBytes (site_of settings old)
    (record { client = new_client; waiting = first ++ came_of events }) R
    (record used { marks = marks }) (went_of events) None link S
    × ArePrompt (site_of settings old) R (record used { marks = marks }) first [] events)

-- an ERR with this code was written, or a first part of it where the writer failed, or nothing
-- where memory for it was wanting
abbrev pub SendsRefusal : Status → List LineEvent → Ending → Type 0
SendsRefusal code events (Ok served) =
    (served ≡ Refused code) × (events ≡ Went (error.canon code) ∷ [])
SendsRefusal code events (Err Read) = ⊥
SendsRefusal code events (Err Write) =
    (sent unsent : List ℕ) × (error.canon code ≡ sent ++ unsent) × (events ≡ Went sent ∷ [])
SendsRefusal code events (Err TooLong) = ⊥
SendsRefusal code events (Err OutOfMemory) = events ≡ []
