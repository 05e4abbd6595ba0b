-- Messages of the chunks that were taken, and the numbers of those that are written.
use Rattle.std.proofs.Common.{◌≡◌, ℕ, ◌+◌, ◌-◌, ◌%◌, ◌<◌, ◌≤◌, Bool, true, false, cond, List, [], ◌∷◌, ◌++◌, length, Ok, Err, refl, sym, ap, subst, ◌∙◌, arith, not, ◌==◌, nat_lt, nat_le}
use Rattle.std.specs.Prelude.{Result, IfOk}
use Rattle.std.proofs.Math.Nat.{mod-add-mod}
use Rattle.std.proofs.lemmas.Bool.Decides.{nat_tests}
use Rattle.std.proofs.lemmas.List.{length-append}
use Rattle.ua_binary.specs.Format.{◌>>=◌}
use Rattle.uacp.specs.declared.types.Kind.{Kind}
use Rattle.uacp.specs.declared.types.Kind.TheVariants.{Hello, Open, Close, Message}
use Rattle.uacp.specs.declared.types.Letter.{Letter}
use Rattle.uacp.specs.declared.types.Letter.TheVariants.{Final, More, Abort}
use Rattle.uacp.specs.declared.greeting.Hello.{Hello as Greeting}
use Rattle.uacp.specs.declared.greeting.Ack.{Ack}
use Rattle.uacp.specs.Stream.{ChunkContent}
use Rattle.ua_channel.specs.declared.fault.ChannelFault.{ChannelFault}
use Rattle.ua_channel.specs.declared.headers.Numbers.{Numbers}
use Rattle.ua_channel.specs.declared.taken.Taken.{Taken}
use Rattle.ua_channel.specs.declared.taken.Taken.TheVariants as taken
use Rattle.ua_channel.specs.Headers.{security_header, sequence_header, message_header}
use Rattle.ua_binary.specs.Rules.{checked}
use Rattle.ua_channel.specs.Placed.{Placed, Opens, Says, Closes, Heard, heard_of, placed_chunk, with_decoding_fault, asked_at, asked_rules, number_rules, size_rules, open_run, bodies_of}
use Rattle.ua_channel.proofs.PlacedParts.{sequence_rules, security_rules, judged_by}
use Rattle.ua_channel.specs.Taking.{ChannelState, new_channel, taken_answer, heard_after, HasRoomFor, Takes, LeavesReady}
use Rattle.ua_channel.specs.Sending.{number_after, IsNumber}
use Rattle.ua_channel.specs.Run.{ChannelCall, Took, Starved, Wrote, RunsChannel, written_of_run, AreMore, IsBetween, AreTaken}
use Rattle.ua_channel.proofs.Takings.{refuses-told}
use Rattle.ua_channel.proofs.Sendings.{number_after-none}

-- ---- messages

open_run-append : (run older : List Placed) → IsBetween older → AreMore run
    → open_run (run ++ older) ≡ run
open_run-append [] [] between more = refl
open_run-append [] (chunk ∷ older) between more = rw between refl
open_run-append (chunk ∷ run) older between more =
    rw (more.0) (ap (λ chunks. chunk ∷ chunks) (open_run-append run older between more.1))

pub message-run : (older run : List Placed) (numbers : Numbers) (body : List ℕ) → IsBetween older
    → AreMore run
    → taken_answer (heard_of (run ++ older)) (Says Final numbers body)
    ≡ taken.Message numbers.request_id (bodies_of run ++ body)
message-run older run numbers body between more =
    ap (λ chunks. taken.Message numbers.request_id (bodies_of chunks ++ body))
    (open_run-append run older between more)

-- ---- a chunk that was judged well placed has room in its message

abbrev Room : Heard → Result Placed ChannelFault → Type 0
Room heard (Ok (Opens sequence asked)) = Unit {0}
Room heard (Ok (Says letter numbers body)) = HasRoomFor heard letter body
Room heard (Ok (Closes numbers)) = Unit {0}
Room heard (Err fault) = Unit {0}

bind_room : {A : Type 0} (heard : Heard) (r : Result A ChannelFault)
    (f : A → Result Placed ChannelFault) → ((a : A) → r ≡ Ok a → Room heard (f a))
    → Room heard (r >>= f)
bind_room heard (Ok a) f room = room a refl
bind_room heard (Err fault) f room = tt

both_hold : (a b : Bool) (d e : ChannelFault) → (let none : Unit {0} = tt in
    cond a (cond b (Ok none) (Err e)) (Err d)) ≡ Ok tt → (a ≡ true) × (b ≡ true)
both_hold true true d e h = (refl, refl)
both_hold true false d e h = absurd cc
both_hold false b d e h = absurd cc

fewer : (a b : ℕ) → nat_lt a b ≡ true → a < b
fewer a b e = grind (arith, nat_tests)

no_more : (a b : ℕ) → nat_le a b ≡ true → a ≤ b
no_more a b e = grind (arith, nat_tests)

size_room : (heard : Heard) (letter : Letter) (body : List ℕ)
    → checked (size_rules heard letter body) ≡ Ok tt → HasRoomFor heard letter body
size_room heard Final body e = let h = both_hold _ _ _ _ e in (fewer _ _ h.0, no_more _ _ h.1)
size_room heard More body e = let h = both_hold _ _ _ _ e in (fewer _ _ h.0, no_more _ _ h.1)
size_room heard Abort body e = tt

judged_by_room : (heard : Heard) (kind : Kind) (letter : Letter) (body : List ℕ)
    → Room heard (judged_by heard kind letter body)
judged_by_room heard Hello letter body = tt
judged_by_room heard Open letter body =
    bind_room heard (with_decoding_fault (security_header.read body)) _ (λ security _.
    bind_room heard (checked (security_rules heard security.0)) _ (λ _ _.
    bind_room heard (with_decoding_fault (sequence_header.read security.1)) _ (λ sequence _.
    bind_room heard (checked (sequence_rules heard sequence.0)) _ (λ _ _.
    bind_room heard (asked_at sequence.1) _ (λ asked _.
    bind_room heard (checked (asked_rules heard asked)) _ (λ _ _. tt))))))
judged_by_room heard Close letter body =
    bind_room heard (with_decoding_fault (message_header.read body)) _ (λ header _.
    bind_room heard (checked (number_rules heard header.0)) _ (λ _ _. tt))
judged_by_room heard Message letter body =
    bind_room heard (with_decoding_fault (message_header.read body)) _ (λ header _.
    bind_room heard (checked (number_rules heard header.0)) _ (λ _ _.
    bind_room heard (checked (size_rules heard letter header.1)) _
    (λ _ e. size_room heard letter header.1 e)))

ended_room : (heard : Heard) (e : Bool) (r : Result Placed ChannelFault) (fault : ChannelFault)
    → Room heard r → Room heard (cond e (Err fault) r)
ended_room heard true r fault room = tt
ended_room heard false r fault room = room

judged_room : (heard : Heard) (chunk : ChunkContent) (placed : Placed)
    → placed_chunk heard chunk ≡ Ok placed → Room heard (Ok placed)
judged_room heard chunk placed e =
    subst (Room heard) e (ended_room heard heard.ended
    (judged_by heard chunk.kind chunk.letter chunk.body) _
    (judged_by_room heard chunk.kind chunk.letter chunk.body))

-- ---- a chunk of a message is taken where the channel is open alone

abbrev IsOpened : Heard → Result Placed ChannelFault → Type 0
IsOpened heard (Ok (Opens sequence asked)) = Unit {0}
IsOpened heard (Ok (Says letter numbers body)) = 0 < heard.openings
IsOpened heard (Ok (Closes numbers)) = Unit {0}
IsOpened heard (Err fault) = Unit {0}

bind_opened : {A : Type 0} (heard : Heard) (r : Result A ChannelFault)
    (f : A → Result Placed ChannelFault) → ((a : A) → r ≡ Ok a → IsOpened heard (f a))
    → IsOpened heard (r >>= f)
bind_opened heard (Ok a) f opened = opened a refl
bind_opened heard (Err fault) f opened = tt

first_holds : (t : Bool) (rest : Result (Unit {0}) ChannelFault) (fault : ChannelFault)
    → cond t rest (Err fault) ≡ Ok tt → t ≡ true
first_holds true rest fault e = refl
first_holds false rest fault e = absurd cc

some_openings : (n : ℕ) → not (n == 0) ≡ true → 0 < n
some_openings n e = grind (arith, nat_tests)

judged_by_opened : (heard : Heard) (kind : Kind) (letter : Letter) (body : List ℕ)
    → IsOpened heard (judged_by heard kind letter body)
judged_by_opened heard Hello letter body = tt
judged_by_opened heard Open letter body =
    bind_opened heard (with_decoding_fault (security_header.read body)) _ (λ security _.
    bind_opened heard (checked (security_rules heard security.0)) _ (λ _ _.
    bind_opened heard (with_decoding_fault (sequence_header.read security.1)) _ (λ sequence _.
    bind_opened heard (checked (sequence_rules heard sequence.0)) _ (λ _ _.
    bind_opened heard (asked_at sequence.1) _ (λ asked _.
    bind_opened heard (checked (asked_rules heard asked)) _ (λ _ _. tt))))))
judged_by_opened heard Close letter body =
    bind_opened heard (with_decoding_fault (message_header.read body)) _ (λ header _.
    bind_opened heard (checked (number_rules heard header.0)) _ (λ _ _. tt))
judged_by_opened heard Message letter body =
    bind_opened heard (with_decoding_fault (message_header.read body)) _ (λ header _.
    bind_opened heard (checked (number_rules heard header.0)) _ (λ _ e.
    bind_opened heard (checked (size_rules heard letter header.1)) _
    (λ _ _. some_openings heard.openings (first_holds _ _ _ e))))

ended_opened : (heard : Heard) (e : Bool) (r : Result Placed ChannelFault) (fault : ChannelFault)
    → IsOpened heard r → IsOpened heard (cond e (Err fault) r)
ended_opened heard true r fault opened = tt
ended_opened heard false r fault opened = opened

judged_opened : (heard : Heard) (chunk : ChunkContent) (placed : Placed)
    → placed_chunk heard chunk ≡ Ok placed → IsOpened heard (Ok placed)
judged_opened heard chunk placed e =
    subst (IsOpened heard) e (ended_opened heard heard.ended
    (judged_by heard chunk.kind chunk.letter chunk.body) _
    (judged_by_opened heard chunk.kind chunk.letter chunk.body))

not_ended : (e : Bool) (r : Result Placed ChannelFault) (fault : ChannelFault) (placed : Placed)
    → cond e (Err fault) r ≡ Ok placed → e ≡ false
not_ended true r fault placed h = absurd cc
not_ended false r fault placed h = refl

leaves_ready : (heard : Heard) (new : ChannelState) (placed : Placed) → heard.ended ≡ false
    → IsOpened heard (Ok placed) → new.heard ≡ heard_after heard placed
    → LeavesReady (taken_answer heard placed) new
leaves_ready heard new (Opens sequence asked) going opened is =
    (ap (λ (h : Heard). h.ended) is ∙ going, omega (arith, ap (λ (h : Heard). h.openings) is))
leaves_ready heard new (Says Final numbers body) going opened is = (
  ap (λ (h : Heard). h.ended) is ∙ going,
  omega (arith, opened, ap (λ (h : Heard). h.openings) is),
)
leaves_ready heard new (Says More numbers body) going opened is = tt
leaves_ready heard new (Says Abort numbers body) going opened is = tt
leaves_ready heard new (Closes numbers) going opened is = tt

pub takes-ready : (old new : ChannelState) (chunk : ChunkContent)
    (result : Result Taken ChannelFault) → Takes old chunk result new
    → IfOk result (λ t. LeavesReady t new)
takes-ready old new chunk (Ok t) takes =
    let going = not_ended old.heard.ended
    (judged_by old.heard chunk.kind chunk.letter chunk.body) _ takes.0 takes.1 in
    let opened = judged_opened old.heard chunk takes.0 takes.1 in
    let P : Taken → Type 0 = λ u. LeavesReady u new in
    subst P (sym takes.2) (leaves_ready old.heard new takes.0 going opened
    (ap (λ (s : ChannelState). s.heard) takes.3))
takes-ready old new chunk (Err fault) takes = tt

abbrev IsBounded : List Placed → Type 0
IsBounded run = (length run ≤ 64) × (length (bodies_of run) ≤ 4194304)

run_bounded : (past : List Placed) → AreTaken past → IsBounded (open_run past)
run_bounded [] taken = (omega arith, omega arith)
run_bounded (Opens sequence asked ∷ older) taken = (omega arith, omega arith)
run_bounded (Says Final numbers body ∷ older) taken = (omega arith, omega arith)
run_bounded (Says More numbers body ∷ older) taken =
    let room = judged_room (heard_of older) taken.0.0 (Says More numbers body) taken.0.1 in
    (omega (arith, room.0), omega (arith, room.1, length-append (bodies_of (open_run older)) body))
run_bounded (Says Abort numbers body ∷ older) taken = (omega arith, omega arith)
run_bounded (Closes numbers ∷ older) taken = (omega arith, omega arith)

pub run-chunks : (past : List Placed) → AreTaken past → length (open_run past) ≤ 64
run-chunks past taken = (run_bounded past taken).0

pub run-bytes : (past : List Placed) → AreTaken past → length (bodies_of (open_run past)) ≤ 4194304
run-bytes past taken = (run_bounded past taken).1

pub message-bounds : (older : List Placed) (numbers : Numbers) (body : List ℕ)
    → AreTaken (Says Final numbers body ∷ older)
    → (length (open_run older) < 64) × (length (bodies_of (open_run older) ++ body) ≤ 4194304)
message-bounds older numbers body taken =
    let room = judged_room (heard_of older) taken.0.0 (Says Final numbers body) taken.0.1 in
    (room.0, omega (arith, room.1, length-append (bodies_of (open_run older)) body))

-- ---- numbers

number_after-again : (number a b : ℕ)
    → number_after (number_after number a) b ≡ number_after number (a + b)
number_after-again number a b =
    let once : ℕ = (number - 1 + a) % 4294966272 in
    let first : once + 1 - 1 + b ≡ once + b = omega arith in
    let last : number - 1 + a + b ≡ number - 1 + (a + b) = omega arith in
    ap (λ n. n % 4294966272 + 1) first ∙ ap (λ n. n + 1) (mod-add-mod (number - 1 + a) 4294966272 b)
    ∙ ap (λ n. n % 4294966272 + 1) last

number_after-is : (number k : ℕ) → IsNumber (number_after number k)
number_after-is number k = (omega arith, omega arith)

next_of_run : (events : List ChannelCall) (old new : ChannelState) → IsNumber old.next
    → RunsChannel old events new → new.next ≡ number_after old.next (written_of_run events)
next_of_run [] old new is run = ap (λ (s : ChannelState). s.next) run
    ∙ sym (number_after-none old.next is)
next_of_run (Took chunk (Ok t) ∷ events) old new is run =
    let same : run.0.next ≡ old.next = ap (λ (s : ChannelState). s.next) run.1.0.3 in
    next_of_run events run.0 new (subst IsNumber (sym same) is) run.2
    ∙ ap (λ n. number_after n (written_of_run events)) same
next_of_run (Took chunk (Err fault) ∷ events) old new is run =
    let refuses = refuses-told old run.0 chunk fault (λ e. run.1.1 (ap Err e)) run.1.0 in
    let same : run.0.next ≡ old.next = ap (λ (s : ChannelState). s.next) refuses.1 in
    next_of_run events run.0 new (subst IsNumber (sym same) is) run.2
    ∙ ap (λ n. number_after n (written_of_run events)) same
next_of_run (Starved chunk ∷ events) old new is run =
    let same : run.0.next ≡ old.next = ap (λ (s : ChannelState). s.next) run.1.1 in
    next_of_run events run.0 new (subst IsNumber (sym same) is) run.2
    ∙ ap (λ n. number_after n (written_of_run events)) same
next_of_run (Wrote count ∷ events) old new is run =
    let now : run.0.next ≡ number_after old.next count = ap (λ (s : ChannelState). s.next) run.1 in
    next_of_run events run.0 new (subst IsNumber (sym now) (number_after-is old.next count)) run.2
    ∙ ap (λ n. number_after n (written_of_run events)) now
    ∙ number_after-again old.next count (written_of_run events)

pub run-number : (hello : Greeting) (ack : Ack) (events : List ChannelCall) (state : ChannelState)
    → RunsChannel (new_channel hello ack) events state
    → state.next ≡ written_of_run events % 4294966272 + 1
run-number hello ack events state run =
    let first : 1 - 1 + written_of_run events ≡ written_of_run events = omega arith in
    next_of_run events (new_channel hello ack) state (omega arith, omega arith) run
    ∙ ap (λ n. n % 4294966272 + 1) first

pub ruleset messages = (message-run, run-chunks, run-bytes, message-bounds, run-number)
