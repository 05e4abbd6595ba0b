-- Chunks are counted, and answers go item by item.
use Rattle.std.proofs.Common.{◌≡◌, ◌==◌, ◌+◌, ℕ, ℤ, Bool, true, false, List, [], ◌∷◌, drop, Some, None, Ok, Err, refl, ap, ◌∙◌, eq-eqb}
use Rattle.std.specs.Prelude.{Option, Result}
use Rattle.std.proofs.lemmas.Bool.{eqb-true}
use Rattle.ua_binary.specs.declared.codes.Status.{Status}
use Rattle.ua_binary.specs.declared.codes.TheConstants.Status.{BAD_OUT_OF_MEMORY, BAD_TCP_MESSAGE_TYPE_INVALID}
use Rattle.ua_binary.specs.declared.values.Ticks.{Ticks}
use Rattle.uacp.specs.declared.types.UacpFault.{UacpFault}
use Rattle.uacp.specs.declared.types.Kind.{Kind}
use Rattle.uacp.specs.declared.types.Kind.TheVariants.{Hello, Open, Close, Message}
use Rattle.uacp.specs.declared.greeting.Hello.{Hello as HelloNumbers}
use Rattle.uacp.specs.declared.greeting.Ack.{Ack}
use Rattle.uacp.specs.Stream.{ChunkContent}
use Rattle.uacp.specs.Greeting.{hello_at, ack_of}
use Rattle.uacp.specs.Fault.{uacp_fault_status}
use Rattle.ua_channel.specs.Fault as channel
use Rattle.ua_channel.specs.declared.fault.ChannelFault.{ChannelFault}
use Rattle.ua_channel.specs.declared.taken.Taken.{Taken}
use Rattle.ua_channel.specs.declared.taken.Taken.TheVariants as taken
use Rattle.ua_channel.specs.Placed.{Placed, placed_chunk}
use Rattle.ua_channel.specs.Taking.{ChannelState, heard_after, taken_answer}
use Rattle.archive.specs.Store.{StepResult, Done, NoMemory, RecordStands, StoreFailed}
use Rattle.historian.specs.Services.{ServerConfig, MessageOutcome, answered as performed}
use Rattle.counted_io.specs.declared.fault.ServeFault.TheVariants.{TooLong}
use Rattle.archive.specs.Steps.{give, and_then}
use Rattle.ua_connection.specs.Environments.{Environment, WithEnvironment, by_marks, or_out_of_memory, clock}
use Rattle.ua_connection.specs.Run.{Reply, stream_answered, with_later, ended}
use Rattle.ua_connection.proofs.RunParts.{stepped}
use Rattle.ua_connection.specs.Client.{ClientState, Item, whole, malformed, partial, Ending, Answering, ends, goes, refuse, acknowledged, greeted, opened, outcome_response, responded, answer_to_taken, chunk_answer, item_answer, answer, chunks, next}
use Rattle.ua_connection.specs.Client.{placed_answer, channel_chunk_answer}
use Rattle.ua_connection.proofs.Runs.{answered-step}
use Rattle.ua_connection.proofs.Cutting.{falls}

pub one_too_many : (config : ServerConfig) (standing : ClientState) (piece : ChunkContent)
    (later : Environment) → standing.client.taken ≡ 1000000
    → item_answer config standing (whole piece) later ≡ (ends standing [] (Err TooLong), later)
one_too_many config standing piece later many =
    let test : (standing.client.taken == 1000000) ≡ true =
    eq-eqb standing.client.taken 1000000 many in rw test refl

-- a reply that doesn't end by TooLong, and counts one where it doesn't end
record Counts (n : ℕ) (reply : Reply ClientState Ending) : Type 0 where
  sooner : reply.ending ≡ Some (Err TooLong) → n ≡ 1000000
  each : reply.ending ≡ None → reply.state.client.taken ≡ n + 1

-- whatever the outside gives
abbrev Counted : ℕ → Answering → Type 0
Counted n f = (marks : List StepResult) (readings : List ℤ)
    → Counts n (f (record { marks = marks; readings = readings })).0

made-counts : (n : ℕ) (went starved : Answering) → Counted n went → Counted n starved
    → Counted n (or_out_of_memory went starved)
made-counts n went starved a b [] readings = a [] readings
made-counts n went starved a b (Done ∷ marks) readings = a marks readings
made-counts n went starved a b (NoMemory ∷ marks) readings = b marks readings
made-counts n went starved a b (RecordStands ∷ marks) readings = a marks readings
made-counts n went starved a b (StoreFailed fault ∷ marks) readings = a marks readings

then-counts : {A : Type 0} (n : ℕ) (m : WithEnvironment A) (f : A → Answering)
    → ((a : A) → Counted n (f a)) → Counted n (and_then m f)
then-counts n m f counts marks readings = let r =
    m (record { marks = marks; readings = readings }) in counts r.0 r.1.marks r.1.readings

goes-counts : (standing : ClientState) (out : List ℕ) (channel : Option ChannelState)
    → Counted standing.client.taken (give (goes standing out channel))
goes-counts standing out channel marks readings =
    record { sooner = λ e. absurd cc; each = λ e. refl }

refuse-counts : (n : ℕ) (standing : ClientState) (code : Status) → Counted n (refuse standing code)
refuse-counts n standing code = made-counts n _ _ (λ marks readings.
    record { sooner = λ e. absurd cc; each = λ e. absurd cc })
    (λ marks readings. record { sooner = λ e. absurd cc; each = λ e. absurd cc })

acknowledged-counts : (standing : ClientState) (hello : HelloNumbers) (ack : Result Ack UacpFault)
    → Counted standing.client.taken (acknowledged standing hello ack)
acknowledged-counts standing hello (Err fault) =
    refuse-counts standing.client.taken standing (uacp_fault_status fault)
acknowledged-counts standing hello (Ok ack) =
    made-counts standing.client.taken _ _ (λ marks readings.
    record { sooner = λ e. absurd cc; each = λ e. refl })
    (refuse-counts standing.client.taken standing BAD_OUT_OF_MEMORY)

greeted-counts : (standing : ClientState) (hello : Result HelloNumbers UacpFault)
    → Counted standing.client.taken (greeted standing hello)
greeted-counts standing (Err fault) =
    refuse-counts standing.client.taken standing (uacp_fault_status fault)
greeted-counts standing (Ok hello) = acknowledged-counts standing hello (ack_of hello)

told-counts : (standing : ClientState) (state : ChannelState) (request : ℕ) (message : List ℕ)
    (now : Ticks) (outcome : MessageOutcome)
    → Counted standing.client.taken (outcome_response standing state request message now outcome)
told-counts standing state request message now outcome =
    made-counts standing.client.taken _ _ (λ marks readings.
    record { sooner = λ e. absurd cc; each = λ e. refl })
    (made-counts standing.client.taken _ _ (λ marks readings.
    record { sooner = λ e. absurd cc; each = λ e. refl })
    (λ marks readings. record { sooner = λ e. absurd cc; each = λ e. absurd cc }))

come-counts : (config : ServerConfig) (standing : ClientState) (state : ChannelState) (come : Taken)
    → Counted standing.client.taken (answer_to_taken config standing state come)
come-counts config standing state taken.Nothing = goes-counts standing [] (Some state)
come-counts config standing state (taken.Opening request) =
    then-counts standing.client.taken clock (opened standing state request)
    (λ now. made-counts standing.client.taken _ _ (λ marks readings.
    record { sooner = λ e. absurd cc; each = λ e. refl })
    (refuse-counts standing.client.taken standing BAD_OUT_OF_MEMORY))
come-counts config standing state (taken.Message request message) =
    then-counts standing.client.taken clock (responded config standing state request message)
    (λ now. then-counts standing.client.taken (by_marks
    (performed config now message standing.client.sessions standing.content))
    (outcome_response standing state request message now)
    (λ outcome. told-counts standing state request message now outcome))
come-counts config standing state (taken.Aborted request) = goes-counts standing [] (Some state)
come-counts config standing state taken.Closed =
    λ marks readings. record { sooner = λ e. absurd cc; each = λ e. absurd cc }

placed-counts : (config : ServerConfig) (standing : ClientState) (state : ChannelState)
    (placed : Result Placed ChannelFault)
    → Counted standing.client.taken (placed_answer config standing state placed)
placed-counts config standing state (Ok placed) =
    come-counts config standing (record state { heard = heard_after state.heard placed })
    (taken_answer state.heard placed)
placed-counts config standing state (Err fault) =
    refuse-counts standing.client.taken standing (channel.channel_fault_status fault)

on-counts : (config : ServerConfig) (standing : ClientState) (channel : Option ChannelState)
    (piece : ChunkContent) → Counted standing.client.taken
    (channel_chunk_answer config standing channel piece)
on-counts config standing None piece =
    refuse-counts standing.client.taken standing BAD_TCP_MESSAGE_TYPE_INVALID
on-counts config standing (Some state) piece =
    placed-counts config standing state (placed_chunk state.heard piece)

piece-counts : (config : ServerConfig) (standing : ClientState) (kind : Kind) (piece : ChunkContent)
    → Counted standing.client.taken (chunk_answer config standing kind piece)
piece-counts config standing Hello piece = greeted-counts standing (hello_at piece.body)
piece-counts config standing Open piece = on-counts config standing standing.client.channel piece
piece-counts config standing Close piece = on-counts config standing standing.client.channel piece
piece-counts config standing Message piece = on-counts config standing standing.client.channel piece

tested-counts : (config : ServerConfig) (standing : ClientState) (piece : ChunkContent)
    (test : Bool)
    → (standing.client.taken == 1000000) ≡ test
    → Counted standing.client.taken (item_answer config standing (whole piece))
tested-counts config standing piece true is marks readings =
    rw is (record {
      sooner = λ e. eqb-true standing.client.taken 1000000 is;
      each =
          λ e. absurd cc;
    })
tested-counts config standing piece false is marks readings =
    rw is (piece-counts config standing piece.kind piece marks readings)

item-counts : (config : ServerConfig) (standing : ClientState) (item : Item)
    → Counted standing.client.taken (item_answer config standing item)
item-counts config standing (whole piece) =
    tested-counts config standing piece (standing.client.taken == 1000000) refl
item-counts config standing (malformed fault) =
    refuse-counts standing.client.taken standing (uacp_fault_status fault)
item-counts config standing partial =
    λ marks readings. record { sooner = λ e. absurd cc; each = λ e. absurd cc }

counts : (config : ServerConfig) (standing : ClientState) (item : Item)
    → Counted standing.client.taken (answer config standing item)
counts config standing item = made-counts standing.client.taken (item_answer config standing item)
    (refuse standing BAD_OUT_OF_MEMORY) (item-counts config standing item)
    (refuse-counts standing.client.taken standing BAD_OUT_OF_MEMORY)

pub no_sooner : (config : ServerConfig) (standing : ClientState) (item : Item)
    (outside : Environment)
    → (answer config standing item outside).0.ending ≡ Some (Err TooLong)
    → standing.client.taken ≡ 1000000
no_sooner config standing item outside e =
    (counts config standing item outside.marks outside.readings).sooner e

pub each : (config : ServerConfig) (standing : ClientState) (item : Item) (outside : Environment)
    → (answer config standing item outside).0.ending ≡ None
    → (answer config standing item outside).0.state.client.taken ≡ standing.client.taken + 1
each config standing item outside e =
    (counts config standing item outside.marks outside.readings).each e

pub first_item : (config : ServerConfig) (standing : ClientState) (bytes : List ℕ) (item : Item × ℕ)
    (outside : Environment) → next standing bytes ≡ Some item
    → stream_answered (chunks config) standing bytes outside
    ≡ and_then (answer config standing item.0) (λ reply.
    with_later (stream_answered (chunks config) reply.state (drop item.1 bytes)) reply) outside
first_item config standing bytes item outside stands =
    answered-step (chunks config) (falls config) standing bytes outside
    ∙ ap (λ (o : Option (Item × ℕ)).
    stepped (stream_answered (chunks config)) (chunks config) standing bytes o outside) stands

pub no_item : (config : ServerConfig) (standing : ClientState) (bytes : List ℕ)
    (outside : Environment) → next standing bytes ≡ None
    → stream_answered (chunks config) standing bytes outside
    ≡ ended (chunks config) standing outside
no_item config standing bytes outside none =
    answered-step (chunks config) (falls config) standing bytes outside
    ∙ ap (λ (o : Option (Item × ℕ)).
    stepped (stream_answered (chunks config)) (chunks config) standing bytes o outside) none

pub ruleset counting = (one_too_many, no_sooner, each, first_item, no_item)
