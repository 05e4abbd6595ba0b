-- The first frame of what came, for `first_message` and `next_message`.
use Rattle.std.proofs.Common.{◌≡◌, ◌+◌, false, [], ◌∷◌, take, drop, length, Some, Result, Ok, Err, sym, ap, ◌∙◌}
use Rattle.std.specs.Prelude.{IfOk}
use Rattle.std.proofs.lemmas.List.{take-append-drop}
use Rattle.records.specs.Spelling.{GivesUnless}
use Rattle.exchange.specs.declared.fault.ExchangeFault.{ExchangeFault}
use Rattle.exchange.specs.declared.fault.ExchangeFault.TheVariants.{OutOfMemory}
use Rattle.exchange.specs.declared.message.Frame.{Frame as Lent}
use Rattle.exchange.specs.Frames.{message_at, ReceivedFrames, Gives, next_of, after_next}
use Rattle.exchange.specs.Messages.{Party, Message}
use Rattle.exchange.specs.Streams.{FrameContent, AreFrames, header_of}
use Rattle.exchange.proofs.StreamLemmas.{given_frame, next_sound}
use Rattle.peer_check.specs.Comparing.{SaysFirst}

-- a frame that is given out is the first of what waits
cut_first : (held left : ReceivedFrames) (frame : Lent) → Gives held (Ok (Some frame))
    → left ≡ after_next held (next_of held)
    → AreFrames held.waiting (record { kind = frame.kind; body = frame.body.now } ∷ []) left.waiting
cut_first held left frame gives is =
    let piece : FrameContent = record { kind = frame.kind; body = frame.body.now } in
    let sound = next_sound held (Ok (Some (header_of (record { kind = frame.kind; body = frame.body.now })))) gives.0 (λ e. cc) in
    let rest : left ≡ record held { waiting = drop (8 + length frame.body.now) held.waiting } =
    is ∙ ap (after_next held) gives.0 in (
      take (8 + length frame.body.now) held.waiting,
      drop (8 + length frame.body.now) held.waiting,
      sym (take-append-drop (8 + length frame.body.now) held.waiting),
      given_frame held.waiting piece sound.1 gives.1 gives.2,
      sym (ap (λ (h : ReceivedFrames). h.waiting) rest),
    )

-- and says what its body does
pub says-first : (p : Party) (held left : ReceivedFrames) (frame : Lent)
    (result : Result Message ExchangeFault) → held.failed ≡ false → Gives held (Ok (Some frame))
    → left ≡ after_next held (next_of held)
    → GivesUnless OutOfMemory result (message_at p frame.kind frame.body.now)
    → IfOk result (SaysFirst p held.waiting left.waiting)
says-first p held left frame (Ok told) sound gives is says =
    (record { kind = frame.kind; body = frame.body.now }, cut_first held left frame gives is, says)
says-first p held left frame (Err fault) sound gives is says = tt

-- and the bytes are sound behind it
pub stays-sound : (p : Party) (held left : ReceivedFrames) (frame : Lent) → held.failed ≡ false
    → Gives held (Ok (Some frame)) → left ≡ after_next held (next_of held) → left.failed ≡ false
stays-sound p held left frame sound gives is =
    ap (λ (h : ReceivedFrames). h.failed) (is ∙ ap (after_next held) gives.0) ∙ sound
