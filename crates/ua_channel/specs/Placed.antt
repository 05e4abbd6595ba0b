-- Which chunks of a channel are well placed, by the chunks before them (Part 6, 6.7.2; Part 4,
-- 5.6.2).
use Rattle.std.specs.Prelude.{◌+◌, ℕ, pos, List, [], ◌∷◌, ◌++◌, length, max, Option, None, Some, Bool, true, false, not, ◌&&◌, ◌||◌, ◌==◌, nat_lt, nat_le, if◌then◌else◌, Result, Ok, Err}
use Rattle.std.specs.Str.{bytes_eq}
use Rattle.std.specs.Ordering.{int_eq}
use Rattle.ua_binary.specs.declared.fault.BinaryFault.{BinaryFault}
use Rattle.ua_binary.specs.Format.{◌>>=◌, Reading, with_fault, raised, whole}
use Rattle.ua_binary.specs.Rules.{checked}
use Rattle.uacp.specs.declared.types.Kind.TheVariants.{Hello, Open, Close, Message}
use Rattle.uacp.specs.declared.types.Letter.{Letter}
use Rattle.uacp.specs.declared.types.Letter.TheVariants.{Final, More, Abort}
use Rattle.uacp.specs.Stream.{ChunkContent}
use Rattle.ua_channel.specs.declared.fault.ChannelFault.{ChannelFault}
use Rattle.ua_channel.specs.declared.fault.ChannelFault.TheVariants.{Policy, Mode, RequestType, ChannelId, Token, Sequence, TooManyChunks, TooLarge, Decoding}
use Rattle.ua_channel.specs.declared.headers.Numbers.{Numbers}
use Rattle.ua_channel.specs.declared.headers.OpenRequestBody.{OpenRequestBody}
use Rattle.ua_channel.specs.Headers.{policy_none, security_header, sequence_header, message_header, open_request}

-- a chunk that was taken, as it is read
pub data Placed : Type 0 where
  -- OPN, by its sequence number and request id, and what it asks
  Opens : ℕ × ℕ → OpenRequestBody → Placed
  -- MSG, by its letter, its numbers and the bytes behind them
  Says : Letter → Numbers → List ℕ → Placed
  -- CLO, by its numbers
  Closes : Numbers → Placed

-- ---- what is known of the chunks before: of a list of them, the newest first

-- how many opened the channel
abbrev pub openings_of : List Placed → ℕ
openings_of [] = 0
openings_of (Opens sequence asked ∷ older) = openings_of older + 1
openings_of (Says letter numbers body ∷ older) = openings_of older
openings_of (Closes numbers ∷ older) = openings_of older

-- one of them closed it
abbrev pub is_closed : List Placed → Bool
is_closed [] = false
is_closed (Opens sequence asked ∷ older) = is_closed older
is_closed (Says letter numbers body ∷ older) = is_closed older
is_closed (Closes numbers ∷ older) = true

abbrev pub number_of_chunk : Placed → ℕ
number_of_chunk (Opens sequence asked) = sequence.0
number_of_chunk (Says letter numbers body) = numbers.number
number_of_chunk (Closes numbers) = numbers.number

-- the sequence number of the newest
abbrev pub newest_number : List Placed → Option ℕ
newest_number [] = None
newest_number (chunk ∷ older) = Some (number_of_chunk chunk)

-- the greatest token id of the MSG chunks, 1 where there is none
abbrev pub greatest_token : List Placed → ℕ
greatest_token [] = 1
greatest_token (Opens sequence asked ∷ older) = greatest_token older
greatest_token (Says letter numbers body ∷ older) = max (greatest_token older) numbers.token
greatest_token (Closes numbers ∷ older) = greatest_token older

-- another chunk of its message follows
abbrev pub is_more : Placed → Bool
is_more (Opens sequence asked) = false
is_more (Says Final numbers body) = false
is_more (Says More numbers body) = true
is_more (Says Abort numbers body) = false
is_more (Closes numbers) = false

-- the open message: the run of C chunks that stands last
abbrev pub open_run : List Placed → List Placed
open_run [] = []
open_run (chunk ∷ older) = if is_more chunk then chunk ∷ open_run older else []

abbrev pub body_of_chunk : Placed → List ℕ
body_of_chunk (Opens sequence asked) = []
body_of_chunk (Says letter numbers body) = body
body_of_chunk (Closes numbers) = []

-- their bodies joined, the oldest first
abbrev pub bodies_of : List Placed → List ℕ
bodies_of [] = []
bodies_of (chunk ∷ older) = bodies_of older ++ body_of_chunk chunk

abbrev pub request_of_chunk : Placed → ℕ
request_of_chunk (Opens sequence asked) = sequence.1
request_of_chunk (Says letter numbers body) = numbers.request_id
request_of_chunk (Closes numbers) = numbers.request_id

-- the request id of the newest, 0 where there is none
abbrev pub newest_request : List Placed → ℕ
newest_request [] = 0
newest_request (chunk ∷ older) = request_of_chunk chunk

-- what the rules look at
pub record Heard : Type 0 where
  -- no further chunk is well placed
  pub ended : Bool
  pub openings : ℕ
  -- the newest chunk's sequence number
  pub last : Option ℕ
  -- the greatest token id of the MSG chunks
  pub token : ℕ
  -- the open message: how many chunks, their request id, their bodies joined
  pub chunks : ℕ
  pub request : ℕ
  pub bytes : List ℕ

abbrev pub heard_of : List Placed → Heard
heard_of past = record {
  ended = is_closed past;
  openings = openings_of past;
  last = newest_number past;
  token = greatest_token past;
  chunks = length (open_run past);
  request = newest_request (open_run past);
  bytes = bodies_of (open_run past);
}

-- ---- the rules

-- the first sequence number is taken as it comes; the next one is greater by one, or, near the end
-- of the numbers, begins anew below 1,024
abbrev pub is_next_number : Option ℕ → ℕ → Bool
is_next_number given number =
    elim given [
      | None ↦ true
      | Some last ↦ (number == last + 1) || (nat_lt 4294966271 last && nat_lt number 1024)
    ]

-- the token of a MSG or CLO chunk is the newest one, or the one before it
abbrev pub is_token : Heard → Numbers → Bool
is_token heard numbers =
    not (numbers.token == 0)
    && ((numbers.token == heard.openings) || (numbers.token + 1 == heard.openings))

-- of a MSG or CLO chunk
abbrev pub number_rules : Heard → Numbers → List (Bool × ChannelFault)
number_rules heard numbers =
    (not (heard.openings == 0), ChannelId) ∷ (numbers.channel_id == 1, ChannelId)
    ∷ (is_token heard numbers, Token)
    ∷ (is_next_number heard.last numbers.number, Sequence)
    ∷ ((heard.chunks == 0) || (heard.request == numbers.request_id), Sequence) ∷ []

-- of a MSG chunk besides: at most 64 chunks and 4,194,304 bytes a message; what gives a message up
-- counts toward neither
abbrev pub size_rules : Heard → Letter → List ℕ → List (Bool × ChannelFault)
size_rules heard letter body =
    elim letter [
      | Abort ↦ []
      | _ ↦ (nat_lt heard.chunks 64, TooManyChunks)
          ∷ (nat_le (length heard.bytes + length body) 4194304, TooLarge) ∷ []
    ]

-- by what it asks: mode 1 is None, and token ids have 32 bits
abbrev pub asked_rules : Heard → OpenRequestBody → List (Bool × ChannelFault)
asked_rules heard asked = (
  if heard.openings == 0 then int_eq asked.request_type (pos 0)
      else int_eq asked.request_type (pos 1),
  RequestType,
) ∷ (int_eq asked.mode (pos 1), Mode)
    ∷ (nat_lt heard.openings 4294967295, Token) ∷ []

-- a fault of the encoding is Decoding
abbrev pub with_decoding_fault : {A : Type 0} → Reading BinaryFault A → Reading ChannelFault A
with_decoding_fault reading = with_fault (λ _. Decoding) reading

-- all of some bytes are a request for a channel
abbrev pub asked_at : List ℕ → Result OpenRequestBody ChannelFault
asked_at bytes = whole Decoding (raised (λ _. Decoding) open_request) bytes

-- of an OPN chunk: its policy, and the channel, 1 but for the first opening
abbrev pub security_rules : Heard → ℕ × Option (List ℕ) → List (Bool × ChannelFault)
security_rules heard (channel, policy) =
    (elim policy [ None ↦ false | Some uri ↦ bytes_eq uri policy_none ], Policy)
    ∷ ((heard.openings == 0) || (channel == 1), ChannelId) ∷ []

-- and its place: it comes next, and no message is open
abbrev pub sequence_rules : Heard → ℕ → List (Bool × ChannelFault)
sequence_rules heard number =
    (is_next_number heard.last number, Sequence) ∷ (heard.chunks == 0, Sequence) ∷ []

-- an OPN chunk
abbrev pub opening_judged : Heard → List ℕ → Result Placed ChannelFault
opening_judged heard body =
    with_decoding_fault (security_header.read body)
    >>= λ security. checked (security_rules heard security.0)
    >>= λ _. with_decoding_fault (sequence_header.read security.1)
    >>= λ (sequence, asked_bytes). checked (sequence_rules heard sequence.0)
    >>= λ _. asked_at asked_bytes
    >>= λ asked. checked (asked_rules heard asked) >>= λ _. Ok (Opens sequence asked)

-- a MSG chunk
abbrev pub message_judged : Heard → Letter → List ℕ → Result Placed ChannelFault
message_judged heard letter body =
    with_decoding_fault (message_header.read body)
    >>= λ header. checked (number_rules heard header.0)
    >>= λ _. checked (size_rules heard letter header.1) >>= λ _.
    Ok (Says letter header.0 header.1)

-- a CLO chunk, whose body isn't read
abbrev pub closing_judged : Heard → List ℕ → Result Placed ChannelFault
closing_judged heard body =
    with_decoding_fault (message_header.read body)
    >>= λ header. checked (number_rules heard header.0) >>= λ _. Ok (Closes header.0)

-- the chunk as it is read, where it is well placed, or else its first fault
abbrev pub placed_chunk : Heard → ChunkContent → Result Placed ChannelFault
placed_chunk heard chunk =
    if heard.ended then Err ChannelId
    else elim chunk.kind [
      | Hello ↦ Err Decoding
      | Open ↦ opening_judged heard chunk.body
      | Close ↦ closing_judged heard chunk.body
      | Message ↦ message_judged heard chunk.letter chunk.body
    ]
