-- The answer to a connection's bytes is the answer to its chunks.
use Rattle.std.proofs.Common.{◌≡◌, ◌==◌, ◌+◌, ◌<◌, ℕ, zero, suc, ℤ, Bool, true, false, List, [], ◌∷◌, ◌++◌, length, drop, take, Some, None, Ok, Err, refl, sym, ap, ◌∙◌, subst, arith}
use Rattle.std.specs.Prelude.{Option, Result, if◌then◌else◌}
use Rattle.std.proofs.lemmas.List.{append-nil, length-append, length-drop}
use Rattle.std.proofs.lemmas.List.{take-append-drop}
use Rattle.std.proofs.Math.Seq.{drop-append_seam, take-append_seam}
use Rattle.ua_binary.specs.declared.codes.Status.{Status}
use Rattle.ua_binary.specs.declared.codes.TheConstants.Status.{BAD_OUT_OF_MEMORY, BAD_TCP_MESSAGE_TYPE_INVALID}
use Rattle.ua_binary.specs.declared.values.Ticks.{Ticks}
use Rattle.uacp.specs.declared.types.UacpFault.{UacpFault}
use Rattle.uacp.specs.declared.types.Header.{Header}
use Rattle.uacp.specs.declared.types.Letter.{Letter}
use Rattle.uacp.specs.declared.types.Letter.TheVariants.{Final, More, Abort}
use Rattle.uacp.specs.declared.types.Kind.{Kind}
use Rattle.uacp.specs.declared.types.Kind.TheVariants.{Hello, Open, Close, Message}
use Rattle.uacp.specs.declared.greeting.Hello.{Hello as HelloNumbers}
use Rattle.uacp.specs.declared.greeting.Ack.{Ack}
use Rattle.uacp.specs.Stream.{ChunkContent, piece_at, MayStand, IsChunk, IsRest, AreChunks, AreChunksThenRest, greeted_by}
use Rattle.uacp.specs.Chunks.{chunk_header}
use Rattle.uacp.specs.Greeting.{hello_at, ack_of}
use Rattle.uacp.specs.Fault.{uacp_fault_status}
use Rattle.uacp.proofs.Cuts.{cut-fault, cut-within}
use Rattle.uacp.proofs.Streams.{chunk-cut, rest-cut, chunk-stands, none-stands, fault-stands}
use Rattle.ua_channel.specs.Fault as channel
use Rattle.ua_channel.specs.declared.fault.ChannelFault.{ChannelFault}
use Rattle.ua_channel.specs.declared.taken.OpenRequest.{OpenRequest}
use Rattle.ua_channel.specs.Placed.{Placed, Opens, Says, Closes, Heard, heard_of, open_run, bodies_of, placed_chunk}
use Rattle.ua_channel.specs.Taking.{ChannelState, new_channel, taken_answer}
use Rattle.ua_channel.proofs.Takings.{after-heard}
use Rattle.records.specs.Contents.{Content}
use Rattle.archive.specs.Store.{StepResult, Done, NoMemory, RecordStands, StoreFailed}
use Rattle.archive.specs.Steps.{give, and_then}
use Rattle.historian.specs.Services.{ServerConfig, MessageOutcome, answered as performed}
use Rattle.counted_io.specs.declared.fault.ServeFault.TheVariants.{Read, Write, TooLong, OutOfMemory}
use Rattle.ua_connection.specs.declared.outcome.Served.TheVariants.{EndOfInput, Closed, Refused}
use Rattle.ua_connection.specs.Environments.{Environment, before, WithEnvironment, by_marks, or_out_of_memory, clock}
use Rattle.ua_connection.specs.Run.{Reply, stream_answered, with_later, AnswersStream}
use Rattle.ua_connection.specs.Client.{ClientState, Item, whole, malformed, partial, Ending, Answering, ends, goes, refuse, acknowledged, greeted, opened, outcome_response, responded, answer_to_taken, placed_answer, channel_chunk_answer, chunk_answer, item_answer, answer, found, chunks, next}
use Rattle.ua_connection.specs.Serving.{new_standing, IsServed}
use Rattle.ua_connection.specs.Conversation.{limits_by, IsGranted, opening_behind, had, well_placed_answer, answer_behind, counted_chunk_answer, taken_with, channel_answer, rest_answer, chunks_answer, Chunked, stream_answer, IsConversed}
use Rattle.ua_connection.proofs.RunParts.{joined_by}
use Rattle.ua_connection.proofs.Cutting.{next-some}
use Rattle.ua_connection.proofs.Steps.{tried-same}
use Rattle.ua_connection.proofs.Counting.{first_item, no_item}

-- ---- what a chunk leaves

-- the channel knows just these chunks
abbrev Knows : ClientState → List Placed → Type 0
Knows standing past = (state : ChannelState) → standing.client.channel ≡ Some state
    → state.heard ≡ heard_of past

-- where a reply doesn't end the connection, later chunks are judged by this limit, and the channel
-- knows these
record Leaves (size : ℕ) (past : List Placed) (reply : Reply ClientState Ending) : Type 0 where
  greeted : reply.ending ≡ None → reply.state.client.greeted ≡ true
  limit : reply.ending ≡ None → reply.state.client.limit ≡ size
  knows : reply.ending ≡ None → Knows reply.state past

-- whatever the outside gives
abbrev Leaving : ℕ → List Placed → Answering → Type 0
Leaving limit past f = (marks : List StepResult) (readings : List ℤ)
    → Leaves limit past (f (record { marks = marks; readings = readings })).0

leaves-end : (limit : ℕ) (past : List Placed) (standing : ClientState) (out : List ℕ)
    (ending : Ending) → Leaves limit past (ends standing out ending)
leaves-end limit past standing out ending =
    record { greeted = λ e. absurd cc; limit = λ e. absurd cc; knows = λ e. absurd cc }

made-leaves : (limit : ℕ) (past : List Placed) (went starved : Answering) → Leaving limit past went
    → Leaving limit past starved → Leaving limit past (or_out_of_memory went starved)
made-leaves limit past went starved a b [] readings = a [] readings
made-leaves limit past went starved a b (Done ∷ marks) readings = a marks readings
made-leaves limit past went starved a b (NoMemory ∷ marks) readings = b marks readings
made-leaves limit past went starved a b (RecordStands ∷ marks) readings = a marks readings
made-leaves limit past went starved a b (StoreFailed fault ∷ marks) readings = a marks readings

then-leaves : {A : Type 0} (limit : ℕ) (past : List Placed) (m : WithEnvironment A)
    (f : A → Answering) → ((a : A) → Leaving limit past (f a)) → Leaving limit past (and_then m f)
then-leaves limit past m f leaves marks readings = let r =
    m (record { marks = marks; readings = readings }) in leaves r.0 r.1.marks r.1.readings

-- the channel that goes on knows the chunks
leaves-goes : (standing : ClientState) (out : List ℕ) (state : ChannelState) (past : List Placed)
    → state.heard ≡ heard_of past → Leaves standing.client.limit past
    (goes standing out (Some state))
leaves-goes standing out state past knows = record {
  greeted = λ e. refl;
  limit = λ e. refl;
  knows = λ e other is. let same : state ≡ other = cc in
      ap (λ (s : ChannelState). s.heard) (sym same) ∙ knows;
}

refuse-leaves : (limit : ℕ) (past : List Placed) (standing : ClientState) (code : Status)
    → Leaving limit past (refuse standing code)
refuse-leaves limit past standing code =
    made-leaves limit past _ _ (λ marks readings. leaves-end limit past standing _ _)
    (λ marks readings. leaves-end limit past standing _ _)

told-leaves : (standing : ClientState) (state : ChannelState) (past : List Placed) (request : ℕ)
    (message : List ℕ) (now : Ticks) (outcome : MessageOutcome) → state.heard ≡ heard_of past
    → Leaving standing.client.limit past
    (outcome_response standing state request message now outcome)
told-leaves standing state past request message now outcome knows =
    let new : ClientState = record {
      client =
          record standing.client { sessions = outcome.0.1 };
      content = outcome.1;
    } in
    made-leaves standing.client.limit past _ _ (λ marks readings. leaves-goes new _ _ past knows)
    (made-leaves standing.client.limit past _ _ (λ marks readings. leaves-goes new _ _ past knows)
    (λ marks readings. leaves-end standing.client.limit past new _ _))

open-leaves : (standing : ClientState) (state : ChannelState) (past : List Placed)
    (request : OpenRequest) → state.heard ≡ heard_of past
    → Leaving standing.client.limit past (and_then clock (opened standing state request))
open-leaves standing state past request knows =
    then-leaves standing.client.limit past clock (opened standing state request)
    (λ now. made-leaves standing.client.limit past _ _
    (λ marks readings. leaves-goes standing _ _ past knows)
    (refuse-leaves standing.client.limit past standing BAD_OUT_OF_MEMORY))

message-leaves : (config : ServerConfig) (standing : ClientState) (state : ChannelState)
    (past : List Placed) (request : ℕ) (message : List ℕ) → state.heard ≡ heard_of past
    → Leaving standing.client.limit past (and_then clock
    (responded config standing state request message))
message-leaves config standing state past request message knows =
    then-leaves standing.client.limit past clock (responded config standing state request message)
    (λ now. then-leaves standing.client.limit past
    (by_marks (performed config now message standing.client.sessions standing.content))
    (outcome_response standing state request message now)
    (λ outcome. told-leaves standing state past request message now outcome knows))

well-leaves : (config : ServerConfig) (standing : ClientState) (state : ChannelState)
    (past : List Placed) (placed : Placed) → state.heard ≡ heard_of (placed ∷ past)
    → Leaving standing.client.limit (placed ∷ past)
    (well_placed_answer config standing state past placed)
well-leaves config standing state past (Opens sequence asked) knows =
    open-leaves standing state (Opens sequence asked ∷ past)
    (opening_behind past sequence.1 asked.handle asked.lifetime) knows
well-leaves config standing state past (Says Final numbers body) knows =
    message-leaves config standing state (Says Final numbers body ∷ past) numbers.request_id
    (bodies_of (open_run past) ++ body) knows
well-leaves config standing state past (Says More numbers body) knows =
    λ marks readings. leaves-goes standing [] state (Says More numbers body ∷ past) knows
well-leaves config standing state past (Says Abort numbers body) knows =
    λ marks readings. leaves-goes standing [] state (Says Abort numbers body ∷ past) knows
well-leaves config standing state past (Closes numbers) knows =
    λ marks readings. leaves-end standing.client.limit (Closes numbers ∷ past) standing [] _

-- the answer to a judged chunk, and the chunks that were taken with it
abbrev answered_judged : ServerConfig → List Placed → ClientState → ChannelState
    → Result Placed ChannelFault → Answering
answered_judged config past standing state given = elim given [
  | Ok placed ↦ well_placed_answer config standing
      (record state { heard = heard_of (placed ∷ past) }) past placed
  | Err fault ↦ refuse standing (channel.channel_fault_status fault)
]

abbrev with_placed : List Placed → Result Placed ChannelFault → List Placed
with_placed past given = elim given [ Ok placed ↦ placed ∷ past | Err fault ↦ past ]

judged-leaves : (config : ServerConfig) (standing : ClientState) (state : ChannelState)
    (past : List Placed) (given : Result Placed ChannelFault)
    → Leaving standing.client.limit (with_placed past given)
    (answered_judged config past standing state given)
judged-leaves config standing state past (Ok placed) =
    well-leaves config standing (record state { heard = heard_of (placed ∷ past) }) past placed refl
judged-leaves config standing state past (Err fault) =
    refuse-leaves standing.client.limit past standing (channel.channel_fault_status fault)

-- the answer over a channel, if there is one
abbrev answered_over : ServerConfig → List Placed → ClientState → ChunkContent → Option ChannelState
    → Answering
answered_over config past standing piece given =
    elim given [
      | None ↦ refuse standing BAD_TCP_MESSAGE_TYPE_INVALID
      | Some state ↦
          answer_behind config past standing state piece
    ]

over-leaves : (config : ServerConfig) (standing : ClientState) (past : List Placed)
    (piece : ChunkContent) (given : Option ChannelState)
    → Leaving standing.client.limit (taken_with past piece)
    (answered_over config past standing piece given)
over-leaves config standing past piece None =
    refuse-leaves standing.client.limit
    (taken_with past piece) standing BAD_TCP_MESSAGE_TYPE_INVALID
over-leaves config standing past piece (Some state) =
    judged-leaves config standing state past (placed_chunk (heard_of past) piece)

either-leaves : (limit : ℕ) (past : List Placed) (test : Bool) (f g : Answering)
    → Leaving limit past f → Leaving limit past g → Leaving limit past (if test then f else g)
either-leaves limit past true f g a b = a
either-leaves limit past false f g a b = b

next-leaves : (config : ServerConfig) (standing : ClientState) (past : List Placed)
    (piece : ChunkContent) → Leaving standing.client.limit (taken_with past piece)
    (had standing (counted_chunk_answer config past standing piece))
next-leaves config standing past piece =
    let limit = standing.client.limit in
    let all = taken_with past piece in
    made-leaves limit all _ _
    (either-leaves limit all (standing.client.taken == 1000000) _ _
    (λ marks readings. leaves-end limit all standing [] (Err TooLong))
    (over-leaves config standing past piece standing.client.channel))
    (refuse-leaves limit all standing BAD_OUT_OF_MEMORY)

-- ---- the same answers

-- a well placed chunk comes to its answer
well-same : (config : ServerConfig) (standing : ClientState) (state : ChannelState)
    (past : List Placed) (placed : Placed)
    → answer_to_taken config standing state (taken_answer (heard_of past) placed)
    ≡ well_placed_answer config standing state past placed
well-same config standing state past (Opens sequence asked) = refl
well-same config standing state past (Says Final numbers body) = refl
well-same config standing state past (Says More numbers body) = refl
well-same config standing state past (Says Abort numbers body) = refl
well-same config standing state past (Closes numbers) = refl

judged-same : (config : ServerConfig) (standing : ClientState) (state : ChannelState)
    (past : List Placed) (given : Result Placed ChannelFault)
    → placed_answer config standing (record state { heard = heard_of past }) given
    ≡ answered_judged config past standing state given
judged-same config standing state past (Ok placed) =
    ap (λ (h : Heard). answer_to_taken config standing (record state { heard = h })
    (taken_answer (heard_of past) placed)) (after-heard past placed)
    ∙ well-same config standing (record state { heard = heard_of (placed ∷ past) }) past placed
judged-same config standing state past (Err fault) = refl

-- over a channel that knows these chunks
over-same : (config : ServerConfig) (standing : ClientState) (past : List Placed)
    (piece : ChunkContent) (given : Option ChannelState)
    → ((state : ChannelState) → given ≡ Some state → state.heard ≡ heard_of past)
    → channel_chunk_answer config standing given piece
    ≡ answered_over config past standing piece given
over-same config standing past piece None knows = refl
over-same config standing past piece (Some state) knows =
    ap (λ (h : Heard). placed_answer config standing (record state { heard = h })
    (placed_chunk h piece)) (knows state refl)
    ∙ judged-same config standing state past (placed_chunk (heard_of past) piece)

-- a chunk of the channel is answered by its place
next-same : (config : ServerConfig) (standing : ClientState) (past : List Placed)
    (piece : ChunkContent) → Knows standing past → (piece.kind ≡ Hello → ⊥)
    → item_answer config standing (whole piece) ≡ counted_chunk_answer config past standing piece
next-same config standing past piece knows other =
    ap (λ (f : Answering). if standing.client.taken == 1000000 then give
    (ends standing [] (Err TooLong)) else f)
    (tried-same config standing piece.kind piece other
    ∙ over-same config standing past piece standing.client.channel knows)

-- ---- what goes on

-- replies that are one where the connection goes on
joined-on : (reply : Reply ClientState Ending) (a b : Answering) (left : Environment)
    → (reply.ending ≡ None → a left ≡ b left) → with_later a reply left ≡ with_later b reply left
joined-on reply a b left same = go reply.ending refl
  where
    go : (o : Option Ending) → reply.ending ≡ o
        → joined_by a reply o left ≡ joined_by b reply o left
    go (Some e) is = refl
    go None is = ap (λ (r : Reply ClientState Ending × Environment). let z :
        Reply ClientState Ending × Environment = (record r.0 { out = reply.out ++ r.0.out }, r.1) in
        z) (same is)

-- an answer that always ends the connection is followed by nothing
abbrev Always : Answering → Type 0
Always f = (marks : List StepResult) (readings : List ℤ)
    → (ending : Ending) × ((f (record { marks = marks; readings = readings })).0.ending
    ≡ Some ending)

made-always : (went starved : Answering) → Always went → Always starved
    → Always (or_out_of_memory went starved)
made-always went starved a b [] readings = a [] readings
made-always went starved a b (Done ∷ marks) readings = a marks readings
made-always went starved a b (NoMemory ∷ marks) readings = b marks readings
made-always went starved a b (RecordStands ∷ marks) readings = a marks readings
made-always went starved a b (StoreFailed fault ∷ marks) readings = a marks readings

refuse-always : (standing : ClientState) (code : Status) → Always (refuse standing code)
refuse-always standing code = made-always _ _ (λ marks readings. (_, refl))
    (λ marks readings. (_, refl))

always-alone : (f : Answering) (later : Reply ClientState Ending → Answering)
    (outside : Environment) → Always f
    → and_then f (λ reply. with_later (later reply) reply) outside ≡ f outside
always-alone f later outside always = go (f outside).0.ending refl
  where
    go : (o : Option Ending) → (f outside).0.ending ≡ o
        → joined_by (later (f outside).0) (f outside).0 o (f outside).1 ≡ f outside
    go None is = let all = always outside.marks outside.readings in let wrong = sym is ∙ all.1 in
        absurd cc
    go (Some e) is = refl

-- ---- the rest

-- what stands first always ends the connection
item-ends : (config : ServerConfig) (standing : ClientState) (bytes : List ℕ) (item : Item × ℕ)
    (outside : Environment) → next standing bytes ≡ Some item
    → Always (answer config standing item.0)
    → stream_answered (chunks config) standing bytes outside ≡ answer config standing item.0 outside
item-ends config standing bytes item outside stands always =
    first_item config standing bytes item outside stands
    ∙ always-alone (answer config standing item.0)
    (λ reply. stream_answered (chunks config) reply.state (drop item.1 bytes)) outside always

no-fault : (greeted : Bool) (limit : ℕ) (fault : UacpFault)
    → chunk_header greeted limit [] ≡ Err fault → ⊥
no-fault greeted limit fault cuts = let long = cut-fault greeted limit [] fault cuts in
    omega (arith, long)

rest-answered : (config : ServerConfig) (standing : ClientState) (rest : List ℕ)
    (fault : Option UacpFault) (outside : Environment)
    → IsRest standing.client.greeted standing.client.limit rest fault
    → stream_answered (chunks config) standing rest outside
    ≡ rest_answer fault rest standing outside
rest-answered config standing [] None outside ends_so = no_item config standing [] outside refl
rest-answered config standing (b ∷ bytes) None outside ends_so =
    item-ends config standing (b ∷ bytes) (partial, length (b ∷ bytes)) outside
    (next-some standing (b ∷ bytes) (omega arith)
    ∙ ap (λ o. Some (found (b ∷ bytes) o))
    (rest-cut standing.client.greeted standing.client.limit (b ∷ bytes) None ends_so))
    (made-always _ _ (λ marks readings. (_, refl)) (refuse-always standing BAD_OUT_OF_MEMORY))
rest-answered config standing [] (Some fault) outside ends_so =
    absurd (no-fault standing.client.greeted standing.client.limit fault
    (rest-cut standing.client.greeted standing.client.limit [] (Some fault) ends_so))
rest-answered config standing (b ∷ bytes) (Some fault) outside ends_so =
    item-ends config standing (b ∷ bytes) (malformed fault, length (b ∷ bytes)) outside
    (next-some standing (b ∷ bytes) (omega arith)
    ∙ ap (λ o. Some (found (b ∷ bytes) o))
    (rest-cut standing.client.greeted standing.client.limit (b ∷ bytes) (Some fault) ends_so))
    (made-always _ _ (refuse-always standing (uacp_fault_status fault))
    (refuse-always standing BAD_OUT_OF_MEMORY))

-- ---- one chunk

-- a chunk stands first
stands-first : (standing : ClientState) (piece : ChunkContent) (chunk more : List ℕ)
    → IsChunk standing.client.greeted standing.client.limit piece chunk
    → next standing (chunk ++ more) ≡ Some (whole piece, length chunk)
stands-first standing piece chunk more is =
    let long = is.heads.long in
    next-some standing (chunk ++ more) (omega (arith, long, length-append chunk more))
    ∙ ap (λ o. Some (found (chunk ++ more) o))
    (chunk-cut standing.client.greeted standing.client.limit piece chunk more is)
    ∙ ap (λ (b : List ℕ). let p : ChunkContent =
    record { kind = piece.kind; letter = piece.letter; body = b } in Some (whole p, length chunk))
    (ap (drop 8) (take-append_seam chunk more) ∙ is.body)

may-not : (kind : Kind) (letter : Letter) → MayStand true kind letter → kind ≡ Hello → ⊥
may-not Hello letter may is = absurd may
may-not Open letter may is = cc
may-not Close letter may is = cc
may-not Message letter may is = cc

-- a chunk stands first, and its answer is known; behind it the rest is answered so
chunk-answered : (config : ServerConfig) (standing : ClientState) (piece : ChunkContent)
    (chunk more : List ℕ) (f : Answering) (later : ClientState → Answering) (outside : Environment)
    → IsChunk standing.client.greeted standing.client.limit piece chunk
    → item_answer config standing (whole piece) ≡ f
    → ((had standing f outside).0.ending ≡ None
    → stream_answered (chunks config) (had standing f outside).0.state more
    (had standing f outside).1
    ≡ later (had standing f outside).0.state (had standing f outside).1)
    → stream_answered (chunks config) standing (chunk ++ more) outside
    ≡ and_then (had standing f) (λ reply. with_later (later reply.state) reply) outside
chunk-answered config standing piece chunk more f later outside one is behind =
    let r = had standing f outside in
    first_item config standing (chunk ++ more) (whole piece, length chunk) outside
    (stands-first standing piece chunk more one)
    ∙ ap (λ (g : Answering). and_then (had standing g)
    (λ reply. with_later (stream_answered (chunks config) reply.state
    (drop (length chunk) (chunk ++ more))) reply) outside) is
    ∙ ap (λ (b : List ℕ). with_later (stream_answered (chunks config) r.0.state b) r.0 r.1)
    (drop-append_seam chunk more)
    ∙ joined-on r.0 (stream_answered (chunks config) r.0.state more) (later r.0.state) r.1 behind

-- ---- the chunks of the channel

channel-answered : (config : ServerConfig) (granted : ℕ) (rest : List ℕ) (fault : Option UacpFault)
    (pieces : List ChunkContent) (past : List Placed) (standing : ClientState) (bytes : List ℕ)
    (outside : Environment)
    → AreChunks true (λ k. granted) bytes pieces rest → IsRest true granted rest fault
    → standing.client.greeted ≡ true → standing.client.limit ≡ granted → Knows standing past
    → stream_answered (chunks config) standing bytes outside
    ≡ channel_answer config (rest_answer fault rest) past standing pieces outside
channel-answered config granted rest fault [] past standing bytes outside are ends_so greets limits
    knows =
    let P : Bool → Type 0 = λ g. IsRest g standing.client.limit rest fault in
    let Q : ℕ → Type 0 = λ l. IsRest true l rest fault in
    ap (λ (b : List ℕ). stream_answered (chunks config) standing b outside) are
    ∙ rest-answered config standing rest fault outside
    (subst P (sym greets) (subst Q (sym limits) ends_so))
channel-answered config granted rest fault (piece ∷ pieces) past standing bytes outside
    (chunk, more, is, one, later) ends_so greets limits knows =
    let P : Bool → Type 0 = λ g. IsChunk g standing.client.limit piece chunk in
    let Q : ℕ → Type 0 = λ l. IsChunk true l piece chunk in
    let here = subst P (sym greets) (subst Q (sym limits) one) in
    let f : Answering = counted_chunk_answer config past standing piece in
    let r = had standing f outside in
    let leaves = next-leaves config standing past piece outside.marks outside.readings in
    ap (λ (b : List ℕ). stream_answered (chunks config) standing b outside) is
    ∙ chunk-answered config standing piece chunk more f
    (λ s. channel_answer config (rest_answer fault rest) (taken_with past piece) s pieces) outside
    here
    (next-same config standing past piece knows (may-not piece.kind piece.letter one.heads.stands))
    (λ goes_on. channel-answered config granted rest fault pieces
    (taken_with past piece) r.0.state more r.1 later ends_so (leaves.greeted goes_on)
    (leaves.limit goes_on ∙ limits) (leaves.knows goes_on))

-- ---- the whole connection

greeted-leaves : (standing : ClientState) (granted : ℕ) (result : Result HelloNumbers UacpFault)
    → ((hello : HelloNumbers) (ack : Ack) → result ≡ Ok hello → ack_of hello ≡ Ok ack
    → granted ≡ ack.receive_size)
    → Leaving granted [] (greeted standing result)
greeted-leaves standing granted (Err fault) grants =
    refuse-leaves granted [] standing (uacp_fault_status fault)
greeted-leaves standing granted (Ok hello) grants = go (ack_of hello) refl
  where
    go : (a : Result Ack UacpFault) → ack_of hello ≡ a
        → Leaving granted [] (acknowledged standing hello a)
    go (Err fault) is = refuse-leaves granted [] standing (uacp_fault_status fault)
    go (Ok ack) is =
        let limited : ClientState =
        record standing { client = record standing.client { limit = ack.receive_size } } in
        let P : ℕ → Type 0 = λ l. Leaving l [] (acknowledged standing hello (Ok ack)) in
        subst P (sym (grants hello ack refl is))
        (made-leaves ack.receive_size [] _ _ (λ marks readings.
        leaves-goes limited _ (new_channel hello ack) [] refl)
        (refuse-leaves ack.receive_size [] standing BAD_OUT_OF_MEMORY))

hello-first : (kind : Kind) (letter : Letter) → MayStand false kind letter → kind ≡ Hello
hello-first Hello letter may = refl
hello-first Open letter may = absurd may
hello-first Close letter may = absurd may
hello-first Message letter may = absurd may

greeted-on : (pieces : List ChunkContent) → greeted_by true pieces ≡ true
greeted-on [] = refl
greeted-on (piece ∷ pieces) = greeted-on pieces

limits-on : (granted : ℕ) (pieces : List ChunkContent) (first : ChunkContent)
    → limits_by granted (length (first ∷ pieces)) ≡ granted
limits-on granted pieces first = refl

-- the Hello is answered
hello-same : (config : ServerConfig) (R : Content) (piece : ChunkContent) → piece.kind ≡ Hello
    → item_answer config (new_standing R) (whole piece)
    ≡ greeted (new_standing R) (hello_at piece.body)
hello-same config R piece is = ap (λ (k : Kind). chunk_answer config (new_standing R) k piece) is

connection-answered : (config : ServerConfig) (R : Content) (granted : ℕ) (bytes rest : List ℕ)
    (fault : Option UacpFault) (pieces : List ChunkContent) (outside : Environment)
    → AreChunksThenRest (limits_by granted) bytes pieces rest fault → IsGranted pieces granted
    → stream_answered (chunks config) (new_standing R) bytes outside
    ≡ chunks_answer config (rest_answer fault rest) (new_standing R) pieces outside
connection-answered config R granted bytes rest fault [] outside splits grants =
    ap (λ (b : List ℕ). stream_answered (chunks config) (new_standing R) b outside) splits.chunks
    ∙ rest-answered config (new_standing R) rest fault outside splits.ends
connection-answered config R granted bytes rest fault (piece ∷ pieces) outside splits grants =
    let are = splits.chunks in
    let standing = new_standing R in
    let f : Answering = greeted standing (hello_at piece.body) in
    let r = had standing f outside in
    let leaves = made-leaves granted [] f (refuse standing BAD_OUT_OF_MEMORY)
    (greeted-leaves standing granted (hello_at piece.body) grants)
    (refuse-leaves granted [] standing BAD_OUT_OF_MEMORY) outside.marks outside.readings in
    let P : Bool → Type 0 = λ g. IsRest g granted rest fault in
    let Q : ℕ → Type 0 = λ l. IsRest (greeted_by true pieces) l rest fault in
    let ends_so = subst P (greeted-on pieces)
    (subst Q (limits-on granted pieces piece) splits.ends) in
    ap (λ (b : List ℕ). stream_answered (chunks config) standing b outside) are.2
    ∙ chunk-answered config standing piece are.0 are.1 f
    (λ s. channel_answer config (rest_answer fault rest) [] s pieces) outside are.3
    (hello-same config R piece (hello-first piece.kind piece.letter are.3.heads.stands))
    (λ goes_on. channel-answered config granted rest fault pieces [] r.0.state are.1 r.1 are.4
    ends_so
    (leaves.greeted goes_on) (leaves.limit goes_on) (leaves.knows goes_on))

-- the answer to a stream is the answer to its chunks
pub stream-answered : (config : ServerConfig) (R : Content) (bytes : List ℕ)
    (stream : Chunked bytes)
    (outside : Environment) → stream_answered (chunks config) (new_standing R) bytes outside
    ≡ stream_answer config R bytes stream outside
stream-answered config R bytes stream outside =
    connection-answered config R stream.granted bytes stream.rest stream.fault stream.pieces outside
    stream.splits stream.grants

-- ---- each stream is split so

-- whole chunks and a rest stand there
abbrev Found : Bool → (ℕ → ℕ) → List ℕ → Type 0
Found greeted limits bytes =
    (pieces : List ChunkContent) × (rest : List ℕ) × (fault : Option UacpFault)
    × AreChunks greeted limits bytes pieces rest
    × IsRest (greeted_by greeted pieces) (limits (length pieces)) rest fault

-- a chunk is cut off, and fewer bytes are left
cut-off : (greeted : Bool) (limit : ℕ) (bytes : List ℕ) (header : Header)
    → chunk_header greeted limit bytes ≡ Ok (Some header)
    → (length (drop header.size bytes) < length bytes)
    × (bytes ≡ take header.size bytes ++ drop header.size bytes)
    × IsChunk greeted limit (piece_at header bytes) (take header.size bytes)
cut-off greeted limit bytes header is =
    let within = cut-within greeted limit bytes header is in (
      omega (arith, within.0, within.1, length-drop header.size bytes),
      sym (take-append-drop header.size bytes),
      (chunk-stands greeted limit bytes header is).1,
    )

found-as : (greeted : Bool) (limits : ℕ → ℕ) (bytes : List ℕ)
    → ((next : ℕ → ℕ) (more : List ℕ) → length more < length bytes → Found true next more)
    → (o : Result (Option Header) UacpFault) → chunk_header greeted (limits 0) bytes ≡ o
    → Found greeted limits bytes
found-as greeted limits bytes later (Ok None) is =
    ([], bytes, None, refl, (none-stands greeted (limits 0) bytes).0 is)
found-as greeted limits bytes later (Err fault) is =
    ([], bytes, Some fault, refl, (fault-stands greeted (limits 0) bytes fault).0 is)
found-as greeted limits bytes later (Ok (Some header)) is =
    let off = cut-off greeted (limits 0) bytes header is in
    let l = later (λ k. limits (suc k)) (drop header.size bytes) off.0 in (
      piece_at header bytes ∷ l.0,
      l.1,
      l.2,
      (
        take header.size bytes,
        drop header.size bytes,
        off.1,
        off.2,
        l.3,
      ),
      l.4,
    )

found-by : (n : ℕ) (greeted : Bool) (limits : ℕ → ℕ) (bytes : List ℕ) → length bytes < n
    → Found greeted limits bytes
found-by zero greeted limits bytes few = absurd (omega (arith, few))
found-by (suc n) greeted limits bytes few =
    found-as greeted limits bytes (λ next more less.
    found-by n true next more (omega (arith, few, less)))
    (chunk_header greeted (limits 0) bytes) refl

-- what a Hello's body is granted, 0 where that is nothing
abbrev granted_ack : Result Ack UacpFault → ℕ
granted_ack given = elim given [ Ok ack ↦ ack.receive_size | Err fault ↦ 0 ]

abbrev granted_hello : Result HelloNumbers UacpFault → ℕ
granted_hello given = elim given [ Ok hello ↦ granted_ack (ack_of hello) | Err fault ↦ 0 ]

splits-as : (bytes : List ℕ) (o : Result (Option Header) UacpFault)
    → chunk_header false 65536 bytes ≡ o → Chunked bytes
splits-as bytes (Ok None) is =
    record {
      granted = 0;
      pieces = [];
      rest = bytes;
      fault = None;
      splits =
          record { chunks = refl; ends = (none-stands false 65536 bytes).0 is };
      grants = tt;
    }
splits-as bytes (Err fault) is =
    record {
      granted = 0;
      pieces = [];
      rest = bytes;
      fault = Some fault;
      splits =
          record { chunks = refl; ends = (fault-stands false 65536 bytes fault).0 is };
      grants = tt;
    }
splits-as bytes (Ok (Some header)) is =
    let off = cut-off false 65536 bytes header is in
    let more = drop header.size bytes in
    let granted = granted_hello (hello_at (piece_at header bytes).body) in
    let l = found-by (length more + 1) true (λ k. granted) more (omega arith) in
    record {
      granted = granted;
      pieces = piece_at header bytes ∷ l.0;
      rest = l.1;
      fault = l.2;
      splits = record { chunks = (take header.size bytes, more, off.1, off.2, l.3); ends = l.4 };
      grants = λ hello ack is_hello is_ack. ap granted_hello is_hello ∙ ap granted_ack is_ack;
    }

pub stream-chunked : (bytes : List ℕ) → Chunked bytes
stream-chunked bytes = splits-as bytes (chunk_header false 65536 bytes) refl

-- ---- what serving a client comes to

conversed-by : (config : ServerConfig) (R : Content) (came out : List ℕ) (used : Environment)
    (ending : Ending) (last : ClientState)
    → ((later : Environment) → stream_answered (chunks config) (new_standing R) came
    (before used later) ≡ (record { out = out; ending = Some ending; state = last }, later))
    → IsConversed config R came used out ending last
conversed-by config R came out used ending last is =
    let stream = stream-chunked came in
    record {
      stream = stream;
      answers =
          λ later. sym (stream-answered config R came stream (before used later)) ∙ is later;
    }

-- an end of the answer's own
conversed-end : (config : ServerConfig) (R : Content) (came out : List ℕ) (used : Environment)
    (ending : Ending) (last : ClientState)
    → (rest : List ℕ) × AnswersStream (chunks config) (new_standing R) came used
    (record { out = out; ending = Some ending; state = last }) rest
    → IsConversed config R came used out ending last
conversed-end config R came out used ending last ends_so =
    conversed-by config R came out used ending last
    (λ later. ap (λ (b : List ℕ). stream_answered (chunks config) (new_standing R) b
    (before used later)) (sym (append-nil came)) ∙ ends_so.1.goes [] later)

pub served-conversed : (config : ServerConfig) (R : Content) (came out : List ℕ)
    (used : Environment)
    (ending : Ending) (last : ClientState)
    → IsServed (chunks config) (new_standing R) came used out ending last
    → (ending ≡ Err Read → ⊥) → (ending ≡ Err Write → ⊥)
    → IsConversed config R came used out ending last
served-conversed config R came out used (Ok EndOfInput) last served read write =
    conversed-by config R came out used (Ok EndOfInput) last served
served-conversed config R came out used (Ok Closed) last served read write =
    conversed-end config R came out used (Ok Closed) last served
served-conversed config R came out used (Ok (Refused code)) last served read write =
    conversed-end config R came out used (Ok (Refused code)) last served
served-conversed config R came out used (Err Read) last served read write = absurd (read refl)
served-conversed config R came out used (Err Write) last served read write = absurd (write refl)
served-conversed config R came out used (Err TooLong) last served read write =
    conversed-end config R came out used (Err TooLong) last served
served-conversed config R came out used (Err OutOfMemory) last served read write =
    conversed-end config R came out used (Err OutOfMemory) last served

pub ruleset conversing = (stream-chunked, stream-answered)
