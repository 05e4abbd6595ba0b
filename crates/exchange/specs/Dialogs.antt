-- A dialog between two replicas: what an end makes of each frame that it takes, and what it
-- answers. Both ends of a dialog, over memory or over a connection, are these.
use Rattle.std.specs.Prelude.{◌≡◌, ◌⊎◌, ⊤, ℕ, zero, suc, ◌+◌, ◌-◌, ◌^◌, ◌<◌, min, nat_le, Bool, true, false, List, [], ◌∷◌, ◌++◌, take, length, Option, None, Some, unwrap_or, Result, Ok, Err, IfOk, IfErr, IfSome, if◌then◌else◌, option_to_list}
use Rattle.std.specs.Option.{option_map_or, option_or, option_and_then}
use Rattle.std.specs.Result.{result_unwrap_or, result_err}
use Rattle.stamp.specs.Numbers.{number_of}
use Rattle.records.specs.Contents.{Content, numbers_of, finding, learned, merged}
use Rattle.records.specs.declared.record.Record.{Record}
use Rattle.archive.specs.declared.fault.StoreFault.{StoreFault}
use Rattle.archive.specs.declared.fault.StoreFault.TheVariants.{Broken}
use Rattle.archive.specs.declared.fault.LearnFault.TheVariants as refused
use Rattle.archive.specs.Store.{Store, CountsFaults, KeepsContent, answer_to}
use Rattle.exchange.specs.declared.fault.ExchangeFault.{ExchangeFault}
use Rattle.exchange.specs.declared.fault.ExchangeFault.TheVariants.{Frame, Learn, OutOfMemory, TooLong}
use Rattle.exchange.specs.declared.fault.ExchangeFault.TheVariants as exchange
use Rattle.exchange.specs.declared.message.FrameKind.{FrameKind}
use Rattle.exchange.specs.declared.message.FrameKind.TheVariants.{Vector, Records}
use Rattle.exchange.specs.declared.message.Title.{Title}
use Rattle.exchange.specs.declared.message.Message.{Message}
use Rattle.exchange.specs.declared.message.Message.TheVariants.{Asks, Carries, Ends}
use Rattle.exchange.specs.declared.message.State.{State}
use Rattle.exchange.specs.declared.message.State.TheVariants.{Pulling, Pushing, Serving, Done, Failed}
use Rattle.exchange.specs.Fault.{exchange_number, store_fault_of}
use Rattle.exchange.specs.Batches.{batch_of, IsOfAnswer}
use Rattle.exchange.specs.Merging.{learned_of, MayBeLeft}
use Rattle.exchange.specs.declared.message.Party.{Party}
use Rattle.exchange.specs.declared.dialog.Reply.{Reply}
use Rattle.exchange.specs.declared.dialog.Progress.{Progress}
use Rattle.exchange.specs.Frames.{message_at, frame_of, HasFrame}

-- ---- what an end says

-- the title of a frame that an end sends while it holds this
abbrev pub title_by : Party → Content → Title
title_by p R = record { id = p.id; sender = p.own; vector = numbers_of R }

-- the frame that asks for what the sender lacks, and says what it holds
abbrev pub asking_frame : Party → Content → List ℕ
asking_frame p R = frame_of (Asks (title_by p R))

-- ---- what a frame comes to

-- what is answered to the caller and to the peer, the content after it, and the number that the
-- peer ended the dialog by
pub record Turn : Type 0 where
  pub result : Result State ExchangeFault
  pub reply : Option Message
  pub content : Content
  pub code : Option ℕ

-- how many records the turn added to what was held before it
abbrev pub added_to : Content → Turn → ℕ
added_to R turn = length turn.content - length R

-- a fault is told by its number, and ends the dialog
abbrev pub failing : Content → ExchangeFault → Turn
failing R fault =
    record
    { result = Err fault; reply = Some (Ends (exchange_number fault)); content = R; code = None }

-- records go out
abbrev pub carrying : Party → State → Content → List Record → Turn
carrying p state R batch =
    record
    { result = Ok state; reply = Some (Carries (title_by p R) batch); content = R; code = None }

-- what the peer lacks goes out, or the end, where it lacks nothing
abbrev pub pushing : Party → Content → List Record → Turn
pushing p R list =
    elim list [
      | [] ↦ record { result = Ok Done; reply = Some (Ends 0); content = R; code = None }
      | r ∷ rs ↦ carrying p Pushing R (r ∷ rs)
    ]

-- the peer ended the dialog
abbrev pub ended_by : Content → ℕ → Turn
ended_by R v =
    elim v [
      | zero ↦ record { result = Ok Done; reply = None; content = R; code = None }
      | suc n ↦ record { result = Ok Failed; reply = None; content = R; code = Some (suc n) }
    ]

-- why a batch isn't learned as a whole: its first record that is refused, by the number of those
-- before it
abbrev pub refusal : ℕ → Content → List Record → Option ExchangeFault
refusal k R [] = None
refusal k R (r ∷ rs) =
    elim (answer_to (finding R r))
    [ Ok added ↦ refusal (suc k) (unwrap_or (learned R r) R) rs | Err cause ↦ Some (Learn k cause) ]

-- a batch is learned, and the own vector answers it
abbrev pub learning : Party → State → Content → List Record → Turn
learning p state R rs =
    elim (refusal 0 R rs) [
      | None ↦ record {
        result = Ok state;
        reply = Some (Asks (title_by p (merged rs R)));
        content = merged rs R;
        code = None;
      }
      | Some fault ↦ failing (merged rs R) fault
    ]

-- the initiator isn't told that all is well
abbrev pub broken_off : Content → ℕ → Turn
broken_off R v = elim v [ zero ↦ failing R Frame | suc n ↦ ended_by R (suc n) ]

-- what an end in this state makes of what the peer says, where nothing comes in the way
abbrev pub turned : Party → State → Content → Message → Turn
turned p Pulling R (Carries t rs) =
    elim rs
    [ [] ↦ pushing p R (batch_of R (number_of t.vector)) | r ∷ rs ↦ learning p Pulling R (r ∷ rs) ]
turned p Pulling R (Ends n) = broken_off R n
turned p Pushing R (Asks t) = pushing p R (batch_of R (number_of t.vector))
turned p Pushing R (Ends n) = broken_off R n
turned p Serving R (Asks t) = carrying p Serving R (batch_of R (number_of t.vector))
turned p Serving R (Carries t rs) = learning p Serving R rs
turned p Serving R (Ends n) = ended_by R n
turned p state R m = failing R Frame

-- an end in this state asks its store for what answers the message
abbrev pub asks_store : State → Message → Bool
asks_store Pulling (Carries t rs) = true
asks_store Pushing (Asks t) = true
asks_store Serving (Asks t) = true
asks_store Serving (Carries t rs) = true
asks_store state m = false

-- what a broken store comes to where these were to be learned: none is, and so it is told
abbrev pub broken_at : List Record → ExchangeFault
broken_at rs = elim rs [ [] ↦ exchange.Store Broken | r ∷ rs ↦ Learn 0 (refused.Store Broken) ]

-- ---- what comes in the way

-- what came in the way of one turn of a dialog
pub data Way : Type 0 where
  -- nothing; memory was wanting before anything was done; or it was wanting behind all that was to
  -- be learned
  Clear Unread Starved : Way
  -- so many records were learned, and then the store failed
  Stopped : (learned : ℕ) → StoreFault → Way
  -- or the store failed there
  Met : StoreFault → Way

-- a batch is stopped at one of its records
abbrev pub IsWay : List Record → Way → Type 0
IsWay rs way = elim way [ Stopped learned fault ↦ learned < length rs | _ ↦ ⊤ ]

-- the fault of the store in it
abbrev pub fault_on : Way → Option StoreFault
fault_on way = elim way [ Stopped learned fault ↦ Some fault | Met fault ↦ Some fault | _ ↦ None ]

abbrev pub is_bare : Message → Bool
is_bare (Carries t []) = true
is_bare m = false

-- the records that a message carries
abbrev pub records_in : Message → List Record
records_in v = elim v [ Asks t ↦ [] | Carries t rs ↦ rs | Ends n ↦ [] ]

-- a turn, by what came in its way; rs are the records of the frame
abbrev pub gone : Way → Content → List Record → Turn → Turn
gone Clear R rs turn = turn
gone Unread R rs turn = failing R OutOfMemory
gone (Stopped learned fault) R rs turn =
    failing (merged (take learned rs) R) (Learn learned (refused.Store fault))
gone Starved R rs turn = failing turn.content OutOfMemory
gone (Met fault) R rs turn = failing turn.content (exchange.Store fault)

-- how many of the records are learned on this way
abbrev pub learned_in : Way → List Record → Turn → ℕ
learned_in Unread rs turn = 0
learned_in (Stopped learned fault) rs turn = learned
learned_in way rs turn = learned_of rs turn.result

-- how many records an answer carries
abbrev pub carried : Option Message → ℕ
carried reply = option_map_or (λ m. length (records_in m)) reply 0

-- ---- an end

-- a count stops at the greatest u32
abbrev pub capped : ℕ → ℕ
capped n = min n (2 ^ 32 - 1)

-- a count behind a turn: one that met a fault doesn't count
abbrev pub counted_by : Result State ExchangeFault → ℕ → ℕ → ℕ
counted_by result count more = elim result [ Ok state ↦ capped (count + more) | Err fault ↦ count ]

-- how an end stands between two frames
pub record DialogState : Type 0 where
  pub state : State
  -- the frames that it took, at most 1,000,000
  pub taken : ℕ
  -- the nonzero number that the peer ended the dialog by, if it did
  pub code : Option ℕ
  -- whether an initiator has sent its first frame; true of the end that answers
  pub started : Bool
  -- how many records its turns added; those of a turn that ended in a fault don't count
  pub learned : ℕ
  -- how many records its turns sent
  pub sent : ℕ

-- a dialog in this state is over
abbrev pub is_over : State → Bool
is_over state = elim state [ Done ↦ true | Failed ↦ true | _ ↦ false ]

-- the end of the dialog may come at any time; else each state waits for its own
abbrev pub is_due : State → FrameKind → Bool
is_due state kind =
    elim state [
      | Pulling ↦ elim kind [ Vector ↦ false | _ ↦ true ]
      | Pushing ↦ elim kind [ Records ↦ false | _ ↦ true ]
      | _ ↦ true
    ]

-- why a frame of this kind isn't taken; an end takes 1,000,000 frames at most
abbrev pub unfit : DialogState → FrameKind → Option ExchangeFault
unfit s kind =
    if is_over s.state then Some Frame
    else if nat_le 1000000 s.taken then Some TooLong
    else if is_due s.state kind then None
    else Some Frame

-- the message that a frame is to an end that stands so, or why it is none
abbrev pub received : Party → DialogState → FrameKind → List ℕ → Result Message ExchangeFault
received p s kind body = option_map_or (λ fault. Err fault) (unfit s kind) (message_at p kind body)

-- the turn that a frame comes to, which was read so, by what came in its way
abbrev pub answered_to : Party → State → Content → Way → Result Message ExchangeFault → Turn
answered_to p state R way result =
    elim result [
      | Ok m ↦ gone way R (records_in m) (turned p state R m)
      | Err fault ↦ gone way R [] (failing R fault)
    ]

-- how many of its records are learned
abbrev pub learned_at : Party → State → Content → Way → Result Message ExchangeFault → ℕ
learned_at p state R way (Ok m) = learned_in way (records_in m) (turned p state R m)
learned_at p state R way (Err fault) = 0

-- what an end makes of a frame
abbrev pub frame_answered : Party → DialogState → Content → Way → FrameKind → List ℕ → Turn
frame_answered p s R way kind body = answered_to p s.state R way (received p s kind body)

-- an end's state behind a frame of this kind, by its state and content before it and by the turn; a
-- frame that isn't fit doesn't count, and a fault makes it Failed
abbrev pub standing_after : DialogState → Content → FrameKind → Turn → DialogState
standing_after s R kind turn = record {
  state = result_unwrap_or turn.result Failed;
  taken = elim (unfit s kind) [ None ↦ s.taken + 1 | Some fault ↦ s.taken ];
  code = option_or turn.code s.code;
  started = s.started;
  learned = counted_by turn.result s.learned (added_to R turn);
  sent = counted_by turn.result s.sent (carried turn.reply);
}

-- ---- the calls

-- the end of a dialog that an archive is
abbrev pub party_of : Store → Party
party_of s = record { id = s.id; own = s.own }

-- what is held, as far as it is known: of a broken store nothing is
abbrev pub IsHeld : Store → Content → Type 0
IsHeld s R = s.broken ≡ false → s.content ≡ R

-- a message was handled where this was held: the state, the answer, the peer's number and how many
-- records were added are those of the turn, or its fault is told
abbrev pub ReportsTurn : Content → Turn → Result Reply ExchangeFault → Type 0
ReportsTurn R turn (Ok reply) =
    (turn.result ≡ Ok reply.state) × (turn.reply ≡ reply.message) × (turn.code ≡ reply.code)
    × (capped (added_to R turn) ≡ reply.learned)
ReportsTurn R turn (Err fault) = turn ≡ failing turn.content fault

-- what is answered behind so many records that were learned
abbrev pub with_learned : ℕ → Result Reply ExchangeFault → Result Reply ExchangeFault
with_learned learned (Ok reply) = Ok (record reply { learned = learned })
with_learned learned (Err fault) = Err fault

abbrev pub IsSpelledReply : Reply → Type 0
IsSpelledReply reply = IfSome reply.message HasFrame

-- some records were to be learned and the turn to be made that this makes of what is held; by what
-- came in its way it was, or wasn't
pub record Handles (old new : Store) (rs : List Record) (turn : Content → Turn)
    (result : Result Reply ExchangeFault) : Type 0 where
  pub way : Way
  pub outside : IsWay rs way
  pub clear : IfOk result (λ _. way ≡ Clear)
  pub tells : new.honest → (R : Content) → IsHeld old R
      → ReportsTurn R (gone way R rs (turn R)) result
  pub spelled : IfOk result IsSpelledReply
  pub content : new.honest → new.broken ≡ false
      → new.content ≡ (gone way old.content rs (turn old.content)).content
  pub crash : new.honest → (left : Content) → new.may_hold left
      → MayBeLeft old rs (learned_in way rs (turn old.content)) left
  pub passes : CountsFaults old new (option_to_list (fault_on way))

-- the reply is written; where memory for what tells a fault is wanting too, that is told instead,
-- and nothing is written
abbrev pub Writes : Turn → Result State ExchangeFault → List ℕ → List ℕ → Type 0
Writes turn result old new =
    ((result ≡ turn.result) × (new ≡ old ++ option_map_or frame_of turn.reply []))
    ⊎
    ((fault : ExchangeFault) × (turn.result ≡ Err fault) × (result ≡ Err OutOfMemory) × (new ≡ old))

-- the records of a message that was read, none of one that wasn't
abbrev pub records_read : Result Message ExchangeFault → List Record
records_read result = elim result [ Ok m ↦ records_in m | Err fault ↦ [] ]

-- by what came in its way, an end made this of a frame
pub record Takes (old new : Store) (before after : DialogState) (kind : FrameKind)
    (body out written : List ℕ) (result : Result State ExchangeFault) : Type 0 where
  pub way : Way
  pub outside : IsWay (records_read (received (party_of old) before kind body)) way
  pub writes : new.honest → (R : Content) → IsHeld old R
      → Writes (frame_answered (party_of old) before R way kind body) result out written
  pub stands : new.honest → (R : Content) → IsHeld old R
      → after ≡ standing_after before R kind (frame_answered (party_of old) before R way kind body)
  pub content : new.honest → new.broken ≡ false
      → new.content ≡ (frame_answered (party_of old) before old.content way kind body).content
  pub crash : new.honest → (left : Content) → new.may_hold left
      → MayBeLeft old (records_read (received (party_of old) before kind body))
      (learned_at (party_of old) before.state old.content way
      (received (party_of old) before kind body)) left
  pub passes : CountsFaults old new (option_to_list (fault_on way))
  -- a broken store is told where it is asked, and nothing was learned, or memory was wanting
  pub ended : old.broken ≡ true → IfOk (received (party_of old) before kind body)
      (λ m. asks_store before.state m ≡ true
      → (result ≡ Err (broken_at (records_in m))) ⊎ (result ≡ Err OutOfMemory))
  -- whatever the store, frames are counted
  pub counted : after.taken
      ≡ (elim (unfit before kind) [ None ↦ before.taken + 1 | Some fault ↦ before.taken ])
  -- and the dialog goes on only behind one that may be taken
  pub fit : IfOk result (λ _. unfit before kind ≡ None)
  pub started : after.started ≡ before.started

-- a message that carries no record
abbrev pub carries_none : Reply → Bool
carries_none reply = option_map_or is_bare reply.message false

-- the own vector was written; or a fault came, and nothing was
pub record Greets (old new : Store) (out written : List ℕ)
    (result : Result (Unit {0}) ExchangeFault) : Type 0 where
  pub frame : new.honest
      → IfOk result (λ _. written ≡ out ++ frame_of (Asks (title_by (party_of old) old.content)))
  pub kept : IfErr result (λ fault. IsOfAnswer fault × (written ≡ out))
  pub ended : old.broken ≡ true → result ≡ Err (exchange.Store Broken)
  pub stays : KeepsContent old new
  pub passes : CountsFaults old new
      (option_to_list (option_and_then store_fault_of (result_err result)))

-- a fault is told to the peer, or memory for that is wanting
abbrev pub TellsFault : ExchangeFault → Result State ExchangeFault → List ℕ → List ℕ → Type 0
TellsFault fault result out written =
    ((result ≡ Err fault) × (written ≡ out ++ frame_of (Ends (exchange_number fault))))
    ⊎ ((result ≡ Err OutOfMemory) × (written ≡ out))

-- a turn was made where this was held, and its answer written; or its fault is still to be told
abbrev pub Sends : Content → Turn → Result Progress ExchangeFault → List ℕ → List ℕ → Type 0
Sends R turn (Ok done) out written =
    (turn.result ≡ Ok done.state) × (turn.code ≡ done.code)
    × (written ≡ out ++ option_map_or frame_of turn.reply [])
    × (capped (added_to R turn) ≡ done.learned) × (carried turn.reply ≡ done.sent)
Sends R turn (Err fault) out written = (turn ≡ failing turn.content fault) × (written ≡ out)

-- what was handled is written, or memory for that is wanting
abbrev pub SendsHandled : Result Reply ExchangeFault → Result Progress ExchangeFault → List ℕ
    → List ℕ → Type 0
SendsHandled (Ok reply) (Ok done) out written =
    (done
    ≡ record {
      state = reply.state;
      code = reply.code;
      learned = reply.learned;
      sent = carried reply.message;
    }) × (written ≡ out ++ option_map_or frame_of reply.message [])
SendsHandled (Ok reply) (Err fault) out written = (fault ≡ OutOfMemory) × (written ≡ out)
SendsHandled (Err fault) (Ok done) out written = ⊥
SendsHandled (Err fault) (Err told) out written = (told ≡ fault) × (written ≡ out)

-- what was received was answered
pub record AnswersTo (old new : Store) (state : State) (received : Result Message ExchangeFault)
    (out written : List ℕ) (result : Result Progress ExchangeFault) : Type 0 where
  pub way : Way
  -- what wasn't received moves nothing
  pub unmoved : IfErr received (λ _. way ≡ Clear)
  -- and its fault is told, whatever the store
  pub untaken : IfErr received (λ fault. result ≡ Err fault)
  pub outside : IsWay (records_read received) way
  pub sends : new.honest → (R : Content) → IsHeld old R
      → Sends R (answered_to (party_of old) state R way received) result out written
  pub content : new.honest → new.broken ≡ false
      → new.content ≡ (answered_to (party_of old) state old.content way received).content
  pub crash : new.honest → (left : Content) → new.may_hold left
      → MayBeLeft old (records_read received)
      (learned_at (party_of old) state old.content way received) left
  pub passes : CountsFaults old new (option_to_list (fault_on way))
  pub ended : old.broken ≡ true
      → IfOk received (λ m. asks_store state m ≡ true → result ≡ Err (broken_at (records_in m)))

-- an end stands as what was answered says, and a fault is told
abbrev pub Concludes : DialogState → DialogState → Result Progress ExchangeFault
    → Result State ExchangeFault → List ℕ → List ℕ → Type 0
Concludes before after (Ok done) result out written =
    (after
    ≡ record before {
      state = done.state;
      code = option_or done.code before.code;
      learned = capped (before.learned + done.learned);
      sent = capped (before.sent + done.sent);
    })
    × (result ≡ Ok done.state) × (written ≡ out)
Concludes before after (Err fault) result out written =
    (after ≡ record before { state = Failed }) × TellsFault fault result out written
