-- What the steps of answering one chunk do.
use Rattle.std.proofs.Common.{◌≡◌, ◌-◌, ◌*◌, ℕ, ℤ, Bool, true, false, nat_le, List, [], ◌∷◌, ◌++◌, length, Some, None, Ok, Err, refl, sym, ◌∙◌, ap, subst, inl, inr}
use Rattle.std.specs.Prelude.{◌==◌, ◌&&◌, ◌||◌, if◌then◌else◌, Option, Result}
use Rattle.std.proofs.lemmas.Bool.{lt-leb}
use Rattle.std.proofs.lemmas.List.{append-nil}
use Rattle.ua_binary.specs.declared.codes.Status.{Status}
use Rattle.ua_binary.specs.declared.codes.TheConstants.Status.{BAD_OUT_OF_MEMORY, BAD_RESPONSE_TOO_LARGE, BAD_TCP_MESSAGE_TYPE_INVALID}
use Rattle.ua_binary.specs.declared.values.Ticks.{Ticks}
use Rattle.uacp.specs.declared.types.UacpFault.{UacpFault}
use Rattle.uacp.specs.declared.types.Kind.{Kind}
use Rattle.uacp.specs.declared.types.Kind.TheVariants.{Hello, Open, Close, Message}
use Rattle.uacp.specs.declared.greeting.Hello.{Hello as HelloNumbers}
use Rattle.uacp.specs.declared.greeting.Ack.{Ack}
use Rattle.uacp.specs.Stream.{ChunkContent}
use Rattle.uacp.specs.Greeting.{acknowledge, error, hello_at, ack_of}
use Rattle.uacp.specs.Fault.{uacp_fault_status}
use Rattle.ua_channel.specs.Fault as channel
use Rattle.ua_channel.specs.declared.fault.ChannelFault.{ChannelFault}
use Rattle.ua_channel.specs.declared.fault.ChannelFault.TheVariants as fault
use Rattle.ua_channel.specs.declared.taken.OpenRequest.{OpenRequest}
use Rattle.ua_channel.specs.declared.taken.Taken.{Taken}
use Rattle.ua_channel.specs.Placed.{Placed}
use Rattle.ua_channel.specs.Taking.{ChannelState, new_channel, heard_after, Refuses as RefusesChunk, Takes as TakesChunk}
use Rattle.ua_channel.specs.Sending.{opened_chunk, number_after, message_bytes, chunk_count, is_fitting}
use Rattle.ua_session.specs.Sessions as session
use Rattle.records.specs.Contents.{Content}
use Rattle.archive.specs.Store.{Store, StepResult, Done, NoMemory, faults_of}
use Rattle.archive.specs.Steps.{Refines, Yields as DoesMarked, give, and_then}
use Rattle.archive.proofs.Acting.{moves-none-by, moves-behind-quiet, moves-before-quiet}
use Rattle.historian.specs.Services.{ServerConfig, MessageOutcome, answered as performed}
use Rattle.historian.specs.Requests.{handle_of}
use Rattle.historian.specs.Answers.{Response, TellsResponse, response, service_fault}
use Rattle.ua_connection.specs.declared.outcome.Served.TheVariants.{Closed}
use Rattle.counted_io.specs.declared.fault.ServeFault.{ServeFault}
use Rattle.counted_io.specs.declared.fault.ServeFault.TheVariants.{OutOfMemory}
use Rattle.ua_connection.specs.declared.turn.Step.{Step}
use Rattle.ua_connection.specs.declared.turn.Step.TheVariants.{NeedsInput, Acknowledged, Continues, Ended}
use Rattle.ua_connection.specs.Environments.{Environment, before, by_marks, or_out_of_memory, clock, YieldsWith}
use Rattle.ua_connection.specs.Run.{Reply}
use Rattle.ua_connection.specs.Client.{Client, ClientState, Ending, Answering, ends, goes, refuse, acknowledged, greeted, opened, fitted, outcome_response, responded, answer_to_taken, chunk_answer}
use Rattle.ua_connection.specs.Client.{placed_answer, channel_chunk_answer}
use Rattle.ua_connection.specs.Turns.{channel_chunk_answer_or_starved, chunk_answer_or_starved, Replies, Answered, AnsweredHere, RefusesTurn, SendsTurn, ending_of, went, client_after, standing_of}
use Rattle.ua_connection.proofs.Outsides.{marked, read, empty_environment, does-then, does-marked, does-clock, does-made, does-starved}

-- ---- replies

-- an end, behind which nothing goes on
pub replies-end : (f : Answering) (used : Environment) (out : List ℕ) (ending : Ending)
    (client : Client) (standing : ClientState) → YieldsWith f used (ends standing out ending)
    → Replies f used out (Some ending) client standing.content
replies-end f used out ending client standing does =
    record { last = standing; content = refl; goes = λ e. absurd cc; does = does }

pub replies-by : (f g : Answering) (used more : Environment) (out : List ℕ) (ending : Option Ending)
    (client : Client) (S : Content)
    → ((r : Reply ClientState Ending) → YieldsWith f used r → YieldsWith g more r)
    → Replies f used out ending client S → Replies g more out ending client S
replies-by f g used more out ending client S so r =
    record {
      last = r.last;
      content = r.content;
      goes = r.goes;
      does =
          so (record { out = out; ending = ending; state = r.last }) r.does;
    }

pub here-by : (f g : Content → Answering) (used more : List StepResult) (old new : List ℕ)
    (ending : Option Ending) (client : Client) → faults_of more ≡ []
    → ((R : Content) (r : Reply ClientState Ending) → YieldsWith (f R) (marked used) r
    → YieldsWith (g R) (marked more) r) → AnsweredHere f used old new ending client
    → AnsweredHere g more old new ending client
here-by f g used more old new ending client quiet so h = record {
  quiet = quiet;
  made = h.made;
  appended = h.appended;
  replies = λ R. replies-by (f R) (g R) (marked used) (marked more) h.made ending client R (so R)
      (h.replies R);
}

-- the same answer in other words, behind steps in whose way no fault of the store came
pub answered-by : (a b : Store) (f g : Content → Answering) (quiet used : Environment)
    (old new : List ℕ) (ending : Option Ending) (client : Client) → faults_of quiet.marks ≡ []
    → ((marks : List StepResult) (R : Content) (r : Reply ClientState Ending)
    → YieldsWith (f R) (record used { marks = marks }) r
    → YieldsWith (g R) (before quiet (record used { marks = marks })) r)
    → Answered a b f used old new ending client
    → Answered a b g (before quiet used) old new ending client
answered-by a b f g quiet used old new ending client none so h = record {
  made = h.made;
  appended = h.appended;
  moves = moves-behind-quiet a b quiet.marks used.marks
      (λ marks R S. Replies (f R) (record used { marks = marks }) h.made ending client S)
      (λ marks R S. Replies (g R) (record (before quiet used) { marks = marks }) h.made ending
      client S) none
      (λ ms R S r. replies-by (f R) (g R) (record used { marks = ms })
      (before quiet (record used { marks = ms })) h.made ending client S (so ms R) r) h.moves;
}

-- no archive is asked
pub answered-here : (a : Store) (f : Content → Answering) (used : List StepResult)
    (old new : List ℕ) (ending : Option Ending) (client : Client)
    → AnsweredHere f used old new ending client
    → Answered a a f (marked used) old new ending client
answered-here a f used old new ending client h = record {
  made = h.made;
  appended = h.appended;
  moves = moves-none-by a used h.quiet (λ marks R S.
      Replies (f R) (marked marks) h.made ending client S) h.replies;
}

pub answered-client : (a b : Store) (f : Content → Answering) (used : Environment)
    (old new : List ℕ) (ending : Option Ending) (client other : Client) → client ≡ other
    → Answered a b f used old new ending client → Answered a b f used old new ending other
answered-client a b f used old new ending client other same h =
    let P : Client → Type 0 = λ c. Answered a b f used old new ending c in subst P same h

-- ---- a mark more

pub here-fine : (f g : Content → Answering) (used : List StepResult) (old new : List ℕ)
    (ending : Option Ending) (client : Client) → AnsweredHere f used old new ending client
    → AnsweredHere (λ R. or_out_of_memory (f R) (g R)) (Done ∷ used) old new ending client
here-fine f g used old new ending client h =
    here-by f (λ R. or_out_of_memory (f R) (g R)) used (Done ∷ used) old new ending client h.quiet
    (λ R r does. does-made (f R) (g R) (marked used) r does) h

pub here-starved : (f g : Content → Answering) (used : List StepResult) (old new : List ℕ)
    (ending : Option Ending) (client : Client) → AnsweredHere g used old new ending client
    → AnsweredHere (λ R. or_out_of_memory (f R) (g R)) (NoMemory ∷ used) old new ending client
here-starved f g used old new ending client h =
    here-by g (λ R. or_out_of_memory (f R) (g R)) used
    (NoMemory ∷ used) old new ending client h.quiet
    (λ R r does. does-starved (f R) (g R) (marked used) r does) h

pub answered-fine : (a b : Store) (f g : Content → Answering) (used : Environment)
    (old new : List ℕ) (ending : Option Ending) (client : Client)
    → Answered a b f used old new ending client
    → Answered a b (λ R. or_out_of_memory (f R) (g R))
    (before (marked (Done ∷ [])) used) old new ending client
answered-fine a b f g used old new ending client h =
    answered-by a b f (λ R. or_out_of_memory (f R) (g R))
    (marked (Done ∷ [])) used old new ending client refl
    (λ ms R r does. does-made (f R) (g R) (record used { marks = ms }) r does) h

-- a reading more
pub answered-timed : (a b : Store) (f : Content → Ticks → Answering) (now : ℤ) (used : Environment)
    (old new : List ℕ) (ending : Option Ending) (client : Client)
    → Answered a b (λ R. f R (record { 0 = now })) used old new ending client
    → Answered a b (λ R. and_then clock (f R)) (before (read now) used) old new ending client
answered-timed a b f now used old new ending client h =
    answered-by a b (λ R. f R (record { 0 = now })) (λ R. and_then clock (f R))
    (read now) used old new ending client refl
    (λ ms R r does. does-then clock (f R) (read now) (record used { marks = ms })
    (record { 0 = now }) r (does-clock now) does) h

-- ---- refusals

-- an ERR was made, or memory for it was wanting
pub here-refused : (code : Status) (standing : Content → ClientState) (next : Client)
    (old new : List ℕ) (result : Result Step ServeFault)
    → ((R : Content) → (standing R).content ≡ R) → RefusesTurn code result old new
    → (used : List StepResult) × AnsweredHere (λ R. refuse (standing R) code) used old new
    (ending_of result) next
here-refused code standing next old new (Ok turn) is refuses =
    let P : Step → Type 0 = λ t. (used : List StepResult)
    × AnsweredHere (λ R. refuse (standing R) code) used old new (ending_of (Ok t)) next in
    subst P (sym refuses.0) (
      Done ∷ [],
      record {
        quiet = refl;
        made = error.canon code;
        appended = refuses.1;
        replies = λ R. record {
          last = standing R;
          content = is R;
          goes = λ e. absurd cc;
          does =
              record { does = λ later. refl };
        };
      },
    )
here-refused code standing next old new (Err fault) is refuses =
    let P : ServeFault → Type 0 = λ f. (used : List StepResult)
    × AnsweredHere (λ R. refuse (standing R) code) used old new (ending_of (Err f)) next in
    subst P (sym refuses.0) (
      NoMemory ∷ [],
      record {
        quiet = refl;
        made = [];
        appended = refuses.1 ∙ sym (append-nil old);
        replies = λ R. record {
          last = standing R;
          content = is R;
          goes = λ e. absurd cc;
          does =
              record { does = λ later. refl };
        };
      },
    )

-- memory for a step was wanting, and that was told
pub here-memory : (f : Content → Answering) (standing : Content → ClientState) (next : Client)
    (old new : List ℕ) (result : Result Step ServeFault)
    → ((R : Content) → (standing R).content ≡ R)
    → RefusesTurn BAD_OUT_OF_MEMORY result old new
    → (used : List StepResult) × AnsweredHere (λ R.
    or_out_of_memory (f R) (refuse (standing R) BAD_OUT_OF_MEMORY)) used old new
    (ending_of result) next
here-memory f standing next old new result is refuses =
    let h = here-refused BAD_OUT_OF_MEMORY standing next old new result is refuses in (
      NoMemory ∷ h.0,
      here-starved f (λ R. refuse (standing R) BAD_OUT_OF_MEMORY) h.0 old new
          (ending_of result) next h.1,
    )

-- ---- the greeting

abbrev pub at : Client → Content → ClientState
at client R = record { client = client; content = R }

pub greet-refused : (hello : Result HelloNumbers UacpFault) (fault : UacpFault) (code : Status)
    (client next : Client) (old new : List ℕ) (result : Result Step ServeFault) → Err fault ≡ hello
    → code ≡ uacp_fault_status fault
    → RefusesTurn code result old new
    → (used : List StepResult) × AnsweredHere (λ R. greeted (at client R) hello) used old new
    (ending_of result) next
greet-refused hello fault code client next old new result is told refuses =
    let P : Result HelloNumbers UacpFault → Type 0 =
    λ h. (used : List StepResult)
    × AnsweredHere (λ R. greeted (at client R) h) used old new (ending_of result) next in
    let Q : Status → Type 0 = λ c. RefusesTurn c result old new in
    subst P is (here-refused (uacp_fault_status fault) (at client) next old new result (λ R. refl)
    (subst Q told refuses))

pub greet-ungranted : (hello : Result HelloNumbers UacpFault) (numbers : HelloNumbers)
    (fault : UacpFault) (code : Status) (client next : Client) (old new : List ℕ)
    (result : Result Step ServeFault) → Ok numbers ≡ hello
    → Err fault ≡ ack_of numbers → code ≡ uacp_fault_status fault → RefusesTurn code result old new
    → (used : List StepResult) × AnsweredHere (λ R. greeted (at client R) hello) used old new
    (ending_of result) next
greet-ungranted hello numbers fault code client next old new result is granted told refuses =
    let P : Result HelloNumbers UacpFault → Type 0 =
    λ h. (used : List StepResult)
    × AnsweredHere (λ R. greeted (at client R) h) used old new (ending_of result) next in
    let G : Result Ack UacpFault → Type 0 =
    λ a. (used : List StepResult)
    × AnsweredHere (λ R. acknowledged (at client R) numbers a) used old new
    (ending_of result) next in
    let Q : Status → Type 0 = λ c. RefusesTurn c result old new in
    subst P is (subst G granted (here-refused (uacp_fault_status fault)
    (at client) next old new result (λ R. refl) (subst Q told refuses)))

pub greet-granted : (hello : Result HelloNumbers UacpFault) (numbers : HelloNumbers) (ack : Ack)
    (client next : Client) (old new : List ℕ) (result : Result Step ServeFault) → Ok numbers ≡ hello
    → Ok ack ≡ ack_of numbers
    → (used : List StepResult) × AnsweredHere
    (λ R. acknowledged (at client R) numbers (Ok ack)) used old new (ending_of result) next
    → (used : List StepResult) × AnsweredHere (λ R. greeted (at client R) hello) used old new
    (ending_of result) next
greet-granted hello numbers ack client next old new result is granted so =
    let P : Result HelloNumbers UacpFault → Type 0 =
    λ h. (used : List StepResult)
    × AnsweredHere (λ R. greeted (at client R) h) used old new (ending_of result) next in
    let G : Result Ack UacpFault → Type 0 =
    λ a. (used : List StepResult)
    × AnsweredHere (λ R. acknowledged (at client R) numbers a) used old new
    (ending_of result) next in
    subst P is (subst G granted so)

pub acknowledges : (hello : HelloNumbers) (ack : Ack) (client : Client) (state : ChannelState)
    (old new : List ℕ) → new ≡ old ++ acknowledge.canon ack → state ≡ new_channel hello ack
    → (used : List StepResult) × AnsweredHere
    (λ R. acknowledged (at client R) hello (Ok ack)) used old new None
    (went client ack.receive_size (Some state) client.sessions)
acknowledges hello ack client state old new made begins = (
  Done ∷ [],
  record {
    quiet = refl;
    made = acknowledge.canon ack;
    appended = made;
    replies = λ R. record {
      last = record {
        client = went client ack.receive_size
            (Some (new_channel hello ack)) client.sessions;
        content = R;
      };
      content = refl;
      goes = λ e. ap (λ (s : ChannelState). went client ack.receive_size (Some s) client.sessions)
          (sym begins);
      does = record { does = λ later. refl };
    };
  },
)

-- ---- the channel

pub opens : (state new_state : ChannelState) (request : OpenRequest) (now : Ticks) (client : Client)
    (old new : List ℕ) → new ≡ old ++ opened_chunk state.next request now
    → new_state ≡ record state { next = number_after state.next 1 }
    → (used : List StepResult) × AnsweredHere
    (λ R. opened (at client R) state request now) used old new None
    (went client client.limit (Some new_state) client.sessions)
opens state new_state request now client old new made after = (
  Done ∷ [],
  record {
    quiet = refl;
    made = opened_chunk state.next request now;
    appended = made;
    replies = λ R. record {
      last = record {
        client = went client client.limit
            (Some (record state { next = number_after state.next 1 })) client.sessions;
        content = R;
      };
      content = refl;
      goes = λ e. ap (λ (s : ChannelState). went client client.limit (Some s) client.sessions)
          (sym after);
      does = record { does = λ later. refl };
    };
  },
)

-- nothing is written, and the connection goes on
pub passes-by : (a : Store) (client : Client) (sessions : session.SessionsState)
    (state : ChannelState) (bytes : List ℕ)
    → Answered a a (λ R. give (goes (standing_of client sessions R) [] (Some state)))
    empty_environment bytes bytes None (went client client.limit (Some state) sessions)
passes-by a client sessions state bytes =
    answered-here a (λ R. give (goes (standing_of client sessions R) [] (Some state))) [] bytes
    bytes None (went client client.limit (Some state) sessions)
    (record {
      quiet = refl;
      made = [];
      appended = sym (append-nil bytes);
      replies = λ R. record {
        last =
            record { client = went client client.limit (Some state) sessions; content = R };
        content =
            refl;
        goes = λ e. refl;
        does = record { does = λ later. refl };
      };
    })

-- the client closed its channel
pub closes : (a : Store) (client next : Client) (sessions : session.SessionsState) (bytes : List ℕ)
    → Answered a a (λ R. give (ends (standing_of client sessions R) [] (Ok Closed)))
    empty_environment bytes bytes (Some (Ok Closed)) next
closes a client next sessions bytes =
    answered-here a (λ R. give (ends (standing_of client sessions R) [] (Ok Closed))) [] bytes bytes
    (Some (Ok Closed)) next
    (record {
      quiet = refl;
      made = [];
      appended = sym (append-nil bytes);
      replies = λ R. record {
        last = standing_of client sessions R;
        content = refl;
        goes =
            λ e. absurd cc;
        does = record { does = λ later. refl };
      };
    })

-- ---- messages

-- what a service did, and then how that is told
pub tells : (a b : Store) (config : ServerConfig) (client next : Client)
    (sessions : session.SessionsState) (state : ChannelState) (request : ℕ) (message : List ℕ)
    (now : Ticks) (ms vs : List StepResult) (answer : Response × session.SessionsState)
    (old new out : List ℕ) (ending : Option Ending) → faults_of vs ≡ []
    → Refines a b ms (performed config now message sessions) answer → new ≡ old ++ out
    → ((R S : Content) → Replies (outcome_response
    (standing_of client sessions R) state request message now (answer, S))
    (marked vs) out ending next S)
    → (used : List StepResult) × Answered a b (λ R.
    responded config (standing_of client sessions R) state request message now)
    (marked used) old new ending next
tells a b config client next sessions state request message now ms vs answer old new out ending
    quiet
    acts appended so = (
      ms ++ vs,
      record {
        made = out;
        appended = appended;
        moves = moves-before-quiet a b ms vs (λ marks R S.
            DoesMarked (performed config now message sessions R) marks (answer, S))
            (λ marks R S. Replies (responded config
            (standing_of client sessions R) state request message now)
            (marked marks) out ending next S) quiet (λ ks R S d.
            let f : MessageOutcome → Answering =
            outcome_response (standing_of client sessions R) state request message now in
            let r = so R S in
            record {
              last = r.last;
              content = r.content;
              goes = r.goes;
              does = does-then (by_marks (performed config now message sessions R)) f (marked ks)
                  (marked vs) (answer, S) (record { out = out; ending = ending; state = r.last })
                  (does-marked (performed config now message sessions R) ks (answer, S) d) r.does;
            }) acts;
      },
    )

-- a response that is too large is sent as the ServiceFault that says so is
fits-same : (state : ChannelState) (now : Ticks) (handle : ℕ) (told : Response) (body : List ℕ)
    → TellsResponse now handle told body
    → fitted state now handle body ≡ fitted state now handle (response now handle told)
fits-same state now handle told body (inl whole) =
    ap (λ (b : List ℕ). fitted state now handle b) whole.0
fits-same state now handle told body (inr (large, is)) =
    ap (λ (b : List ℕ). fitted state now handle b) is
    ∙ (either (is_fitting state (length fault)) ∙ sym refused)
  where
    fault : List ℕ
    fault = service_fault now handle BAD_RESPONSE_TOO_LARGE

    either : (b : Bool) → (if b then fault else fault) ≡ fault
    either true = refl
    either false = refl

    refused : fitted state now handle (response now handle told) ≡ fault
    refused = let n = length (response now handle told) in
        let within = (state.max_message == 0 || nat_le n state.max_message)
        && (state.max_chunks == 0 || nat_le n (state.max_chunks * (state.limit - 24))) in
        ap (λ (b : Bool). if b && within then response now handle told else fault)
        (lt-leb n 16777216 large)

-- a response was sent
pub sends-response : (a b : Store) (config : ServerConfig) (client : Client)
    (sessions : session.SessionsState) (state new_state : ChannelState) (request : ℕ)
    (message : List ℕ) (now : Ticks) (handle : ℕ) (ms : List StepResult) (response_told : Response)
    (left : session.SessionsState)
    (old new body : List ℕ) → handle ≡ handle_of message
    → TellsResponse now (handle_of message) response_told body
    → Refines a b ms (performed config now message sessions) (response_told, left)
    → new ≡ old ++ message_bytes state request (fitted state now handle body)
    → new_state ≡ record state {
      next =
          number_after state.next (chunk_count state (fitted state now handle body));
    }
    → (used : List StepResult) × Answered a b (λ R.
    responded config (standing_of client sessions R) state request message now)
    (marked used) old new None (went client client.limit (Some new_state) left)
sends-response a b config client sessions state new_state request message now handle ms
    response_told
    left old new body is made acts appended after =
    let text = fitted state now (handle_of message)
    (response now (handle_of message) response_told) in
    let same : fitted state now handle body ≡ text =
    ap (λ (h : ℕ). fitted state now h body) is
    ∙ fits-same state now (handle_of message) response_told body made in
    tells a b config client (went client client.limit (Some new_state) left) sessions state request
    message now ms (Done ∷ []) (response_told, left) old new
    (message_bytes state request text) None refl acts
    (appended ∙ ap (λ (t : List ℕ). old ++ message_bytes state request t) same)
    (λ R S. record {
      last = record {
        client = went client client.limit
            (Some (record state { next = number_after state.next (chunk_count state text) })) left;
        content = S;
      };
      content = refl;
      goes = λ e. ap (λ (s : ChannelState). went client client.limit (Some s) left)
          (sym (after ∙ ap (λ (t : List ℕ). let s : ChannelState =
          record state { next = number_after state.next (chunk_count state t) } in s) same));
      does = record { does = λ later. refl };
    })

-- memory for the response was wanting, and that was told, or memory for that too
pub sends-starved : (a b : Store) (config : ServerConfig) (client : Client)
    (sessions : session.SessionsState) (state new_state : ChannelState) (request : ℕ)
    (message : List ℕ) (now : Ticks) (handle : ℕ) (ms : List StepResult)
    (answer : Response × session.SessionsState)
    (old new : List ℕ) (result : Result Step ServeFault) → handle ≡ handle_of message
    → Refines a b ms (performed config now message sessions) answer
    → SendsTurn state request (service_fault now handle BAD_OUT_OF_MEMORY) result old new new_state
    → (used : List StepResult) × Answered a b (λ R.
    responded config (standing_of client sessions R) state request message now)
    (marked used) old new
    (ending_of result) (client_after client result (Some new_state) answer.1)
sends-starved a b config client sessions state new_state request message now handle ms answer old
    new
    (Ok turn) is acts sends =
    let text = service_fault now (handle_of message) BAD_OUT_OF_MEMORY in
    let same : service_fault now handle BAD_OUT_OF_MEMORY ≡ text =
    ap (λ (h : ℕ). service_fault now h BAD_OUT_OF_MEMORY) is in
    let P : Step → Type 0 = λ t. (used : List StepResult)
    × Answered a b (λ R. responded config
    (standing_of client sessions R) state request message now) (marked used) old new
    (ending_of (Ok t)) (client_after client (Ok t) (Some new_state) answer.1) in
    subst P (sym sends.0)
    (tells a b config client (went client client.limit (Some new_state) answer.1) sessions state
    request message now ms (NoMemory ∷ Done ∷ []) answer old new
    (message_bytes state request text) None refl acts
    (sends.1 ∙ ap (λ (t : List ℕ). old ++ message_bytes state request t) same)
    (λ R S. record {
      last = record {
        client = went client client.limit
            (Some (record state { next = number_after state.next (chunk_count state text) }))
            answer.1;
        content = S;
      };
      content = refl;
      goes = λ e. ap (λ (s : ChannelState). went client client.limit (Some s) answer.1)
          (sym (sends.2 ∙ ap (λ (t : List ℕ). let s : ChannelState =
          record state { next = number_after state.next (chunk_count state t) } in s) same));
      does = record { does = λ later. refl };
    }))
sends-starved a b config client sessions state new_state request message now handle ms answer old
    new
    (Err fault) is acts sends =
    let P : ServeFault → Type 0 = λ f. (used : List StepResult)
    × Answered a b (λ R. responded config
    (standing_of client sessions R) state request message now) (marked used) old new
    (ending_of (Err f)) (client_after client (Err f) (Some new_state) answer.1) in
    subst P (sym sends.0)
    (tells a b config client (client_after client (Err OutOfMemory) (Some new_state) answer.1)
    sessions state request message now ms (NoMemory ∷ NoMemory ∷ []) answer old new []
    (Some (Err OutOfMemory)) refl acts (sends.1 ∙ sym (append-nil old))
    (λ R S. record {
      last = standing_of client answer.1 S;
      content = refl;
      goes =
          λ e. absurd cc;
      does = record { does = λ later. refl };
    }))

-- ---- chunks

-- what is known of a client but for its sessions
pub behind-same : (client : Client) (channel : Option ChannelState)
    (sessions left : session.SessionsState) (result : Result Step ServeFault)
    → client_after (record client { sessions = sessions }) result channel left
    ≡ client_after client result channel left
behind-same client channel sessions left (Ok NeedsInput) = refl
behind-same client channel sessions left (Ok (Acknowledged limit)) = refl
behind-same client channel sessions left (Ok Continues) = refl
behind-same client channel sessions left (Ok (Ended served)) = refl
behind-same client channel sessions left (Err fault) = refl

pub behind-channel : (client : Client) (old channel : Option ChannelState)
    (left : session.SessionsState) (result : Result Step ServeFault)
    → client_after (record client { channel = old }) result channel left
    ≡ client_after client result channel left
behind-channel client old channel left (Ok NeedsInput) = refl
behind-channel client old channel left (Ok (Acknowledged limit)) = refl
behind-channel client old channel left (Ok Continues) = refl
behind-channel client old channel left (Ok (Ended served)) = refl
behind-channel client old channel left (Err fault) = refl

-- a chunk came where there is no channel
pub unopened : (a : Store) (config : ServerConfig) (client next : Client)
    (sessions : session.SessionsState) (channel : Option ChannelState) (piece : ChunkContent)
    (code : Status) (old new : List ℕ) (result : Result Step ServeFault) → channel ≡ None
    → code ≡ BAD_TCP_MESSAGE_TYPE_INVALID → RefusesTurn code result old new
    → (used : List StepResult) × Answered a a (λ R.
    channel_chunk_answer_or_starved config (standing_of client sessions R) channel piece)
    (marked used) old new (ending_of result) next
unopened a config client next sessions channel piece code old new result is told refuses =
    let Q : Status → Type 0 = λ c. RefusesTurn c result old new in
    let P : Option ChannelState → Type 0 =
    λ c. (used : List StepResult)
    × Answered a a (λ R. channel_chunk_answer_or_starved config
    (standing_of client sessions R) c piece) (marked used) old new (ending_of result) next in
    let h = here-refused BAD_TCP_MESSAGE_TYPE_INVALID
    (standing_of client sessions) next old new result (λ R. refl) (subst Q told refuses) in
    subst P (sym is) (
      Done ∷ h.0,
      answered-here a (λ R. channel_chunk_answer_or_starved config
          (standing_of client sessions R) None piece) (Done ∷ h.0) old new (ending_of result) next
          (here-fine (λ R. refuse (standing_of client sessions R) BAD_TCP_MESSAGE_TYPE_INVALID)
          (λ R. refuse (standing_of client sessions R) BAD_OUT_OF_MEMORY) h.0 old new
          (ending_of result) next h.1),
    )

-- a chunk that isn't taken
refused-by : (a : Store) (config : ServerConfig) (client next : Client)
    (sessions : session.SessionsState) (state new_state : ChannelState) (piece : ChunkContent)
    (fault : ChannelFault) (old new : List ℕ) (result : Result Step ServeFault)
    → RefusesChunk state piece fault new_state
    → RefusesTurn (channel.channel_fault_status fault) result old new
    → (used : List StepResult) × Answered a a (λ R.
    channel_chunk_answer_or_starved config (standing_of client sessions R) (Some state) piece)
    (marked used) old new (ending_of result) next
refused-by a config client next sessions state new_state piece fault.OutOfMemory old new result
    refuses sends =
    let f : Content → Answering = λ R.
    channel_chunk_answer config (standing_of client sessions R) (Some state) piece in
    let h = here-memory f (standing_of client sessions) next old new result (λ R. refl) sends in (
      h.0,
      answered-here a (λ R. channel_chunk_answer_or_starved config (standing_of client sessions R)
          (Some state) piece) h.0 old new (ending_of result) next h.1,
    )
refused-by a config client next sessions state new_state piece fault old new result refuses sends =
    let h = here-refused (channel.channel_fault_status fault)
    (standing_of client sessions) next old new result (λ R. refl) sends in
    let G : Result Placed ChannelFault → Type 0 =
    λ j. AnsweredHere (λ R. placed_answer config (standing_of client sessions R) state j) h.0 old
    new (ending_of result) next in (
      Done ∷ h.0,
      answered-here a (λ R. channel_chunk_answer_or_starved config (standing_of client sessions R)
          (Some state) piece) (Done ∷ h.0) old new (ending_of result) next
          (here-fine (λ R. channel_chunk_answer config (standing_of client sessions R)
          (Some state) piece) (λ R. refuse (standing_of client sessions R) BAD_OUT_OF_MEMORY)
          h.0 old new (ending_of result) next (subst G (sym refuses.0) h.1)),
    )

pub untaken : (a : Store) (config : ServerConfig) (client next : Client)
    (sessions : session.SessionsState) (channel_old : Option ChannelState)
    (state new_state : ChannelState) (piece : ChunkContent) (fault : ChannelFault) (code : Status)
    (old new : List ℕ) (result : Result Step ServeFault)
    → channel_old ≡ Some state → RefusesChunk state piece fault new_state
    → code ≡ channel.channel_fault_status fault → RefusesTurn code result old new
    → (used : List StepResult) × Answered a a (λ R.
    channel_chunk_answer_or_starved config (standing_of client sessions R) channel_old piece)
    (marked used) old new (ending_of result) next
untaken a config client next sessions channel_old state new_state piece fault code old new result is
    refuses told sends =
    let Q : Status → Type 0 = λ c. RefusesTurn c result old new in
    let P : Option ChannelState → Type 0 =
    λ c. (used : List StepResult)
    × Answered a a (λ R. channel_chunk_answer_or_starved config
    (standing_of client sessions R) c piece) (marked used) old new (ending_of result) next in
    subst P (sym is) (refused-by a config client next sessions state new_state piece fault old new
    result refuses (subst Q told sends))

-- a chunk that is taken
pub taken-answered : (a b : Store) (config : ServerConfig) (client next : Client)
    (sessions : session.SessionsState) (channel_old : Option ChannelState)
    (state new_state : ChannelState) (piece : ChunkContent) (come : Taken) (used : Environment)
    (old new : List ℕ) (ending : Option Ending)
    → channel_old ≡ Some state → TakesChunk state piece (Ok come) new_state
    → Answered a b (λ R. answer_to_taken config (standing_of client sessions R) new_state come) used
    old new ending next
    → Answered a b (λ R. channel_chunk_answer_or_starved config
    (standing_of client sessions R) channel_old piece)
    (before (marked (Done ∷ [])) used) old new ending next
taken-answered a b config client next sessions channel_old state new_state piece come used old new
    ending is takes so =
    let placed = takes.0 in
    let P : Option ChannelState → Type 0 =
    λ c. Answered a b (λ R. channel_chunk_answer_or_starved config
    (standing_of client sessions R) c piece)
    (before (marked (Done ∷ [])) used) old new ending next in
    let A : ChannelState → Type 0 =
    λ s. Answered a b (λ R. answer_to_taken config (standing_of client sessions R) s come) used
    old new ending next in
    let B : Taken → Type 0 = λ t. Answered a b (λ R.
    answer_to_taken config (standing_of client sessions R)
    (record state { heard = heard_after state.heard placed }) t) used old new ending next in
    let G : Result Placed ChannelFault → Type 0 =
    λ j. Answered a b (λ R. placed_answer config (standing_of client sessions R) state j) used old
    new ending next in
    subst P (sym is)
    (answered-fine a b (λ R. channel_chunk_answer config (standing_of client sessions R)
    (Some state) piece) (λ R. refuse (standing_of client sessions R) BAD_OUT_OF_MEMORY) used old
    new ending next
    (subst G (sym takes.1) (subst B takes.2 (subst A takes.3 so))))

-- any chunk, where no answer of the greeting stands behind a channel's
pub tried-hello : (a : Store) (config : ServerConfig) (client next other : Client)
    (sessions : session.SessionsState) (kind : Kind) (piece : ChunkContent) (body : List ℕ)
    (used : List StepResult) (old new : List ℕ) (ending : Option Ending) → piece.kind ≡ Hello
    → piece.body ≡ body → next ≡ other
    → AnsweredHere (λ R. greeted (standing_of client sessions R) (hello_at body)) used old new
    ending next
    → Answered a a (λ R. chunk_answer_or_starved config (standing_of client sessions R) piece)
    (before (marked (Done ∷ [])) (marked used)) old new ending other
tried-hello a config client next other sessions kind piece body used old new ending is same to h =
    let P : Kind → Type 0 = λ k. Answered a a (λ R.
    or_out_of_memory (chunk_answer config (standing_of client sessions R) k piece)
    (refuse (standing_of client sessions R) BAD_OUT_OF_MEMORY))
    (before (marked (Done ∷ [])) (marked used)) old new ending other in
    let Q : List ℕ → Type 0 = λ b. AnsweredHere (λ R.
    greeted (standing_of client sessions R) (hello_at b)) used old new ending next in
    let f : Content → Answering = λ R.
    greeted (standing_of client sessions R) (hello_at piece.body) in
    let g : Content → Answering = λ R. refuse (standing_of client sessions R) BAD_OUT_OF_MEMORY in
    subst P (sym is)
    (answered-client a a (λ R. or_out_of_memory (f R) (g R))
    (before (marked (Done ∷ [])) (marked used)) old new ending next other to
    (answered-fine a a f g (marked used) old new ending next
    (answered-here a f used old new ending next (subst Q (sym same) h))))

pub tried-same : (config : ServerConfig) (standing : ClientState) (kind : Kind)
    (piece : ChunkContent)
    → (kind ≡ Hello → ⊥) → chunk_answer config standing kind piece
    ≡ channel_chunk_answer config standing standing.client.channel piece
tried-same config standing Hello piece other = absurd (other refl)
tried-same config standing Open piece other = refl
tried-same config standing Close piece other = refl
tried-same config standing Message piece other = refl

pub tried-other : (a b : Store) (config : ServerConfig) (client next : Client)
    (sessions : session.SessionsState) (piece : ChunkContent) (used : Environment)
    (old new : List ℕ) (ending : Option Ending) → (piece.kind ≡ Hello → ⊥)
    → Answered a b (λ R. channel_chunk_answer_or_starved config
    (standing_of client sessions R) client.channel piece) used old new ending next
    → Answered a b (λ R. chunk_answer_or_starved config (standing_of client sessions R) piece) used
    old new ending next
tried-other a b config client next sessions piece used old new ending other h =
    let f : Content → Answering = λ R.
    channel_chunk_answer_or_starved config (standing_of client sessions R) client.channel piece in
    let g : Content → Answering = λ R.
    chunk_answer_or_starved config (standing_of client sessions R) piece in
    answered-by a b f g empty_environment used old new ending next refl
    (λ ms R r does.
    let D : Answering → Type 0 = λ m.
    YieldsWith (or_out_of_memory m (refuse (standing_of client sessions R) BAD_OUT_OF_MEMORY))
    (record used { marks = ms }) r in
    subst D (sym (tried-same config (standing_of client sessions R) piece.kind piece other)) does) h
