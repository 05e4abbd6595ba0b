-- What is made of bytes that came.
use Rattle.std.specs.Prelude.{◌≡◌, ℕ, Bool, true, false, List, [], Option, None, Some, Ok, Err, if◌then◌else◌}
use Rattle.ua_binary.specs.declared.codes.TheConstants.Status.{BAD_OUT_OF_MEMORY}
use Rattle.uacp.specs.Greeting.{error}
use Rattle.exchange.specs.declared.fault.ExchangeFault.TheVariants as exchange
use Rattle.exchange.specs.Frames.{end_frame}
use Rattle.counted_io.specs.declared.fault.ServeFault.TheVariants.{OutOfMemory}
use Rattle.ua_connection.specs.declared.outcome.Served.TheVariants.{Refused}
use Rattle.ua_peers.specs.declared.peers.PeerEnded.TheVariants.{Failed}
use Rattle.conversation.specs.declared.ended.Ended.{Ended}
use Rattle.conversation.specs.declared.ended.Ended.TheVariants as ended
use Rattle.conversation.specs.declared.other_end.OtherEnd.{OtherEnd}
use Rattle.conversation.specs.declared.other_end.OtherEnd.TheVariants.{Peer, Over}
use Rattle.conversation.specs.OtherEnds.{ConversationEnding, moved_by, with_bytes}

-- it is known to be a peer
abbrev pub is_peer : OtherEnd → Bool
is_peer other = elim other [ Peer peer ↦ true | _ ↦ false ]

-- what tells that memory is wanting: to a peer an RXE with 4, to anyone else an ERR
abbrev pub starved_message : OtherEnd → List ℕ
starved_message other = if is_peer other then end_frame 4 else error.canon BAD_OUT_OF_MEMORY

-- how a connection ends for which there was no memory
abbrev pub starved_end : OtherEnd → Ended
starved_end other =
    if is_peer other then ended.Peer (Failed exchange.OutOfMemory)
    else ended.Client (Refused BAD_OUT_OF_MEMORY)

-- it was told that memory is wanting; or memory for that was wanting too, and nothing was
abbrev pub TellsStarved : OtherEnd → (made : List ℕ) → ConversationEnding → Type 0
TellsStarved other made (Ok end) = (made ≡ starved_message other) × (end ≡ starved_end other)
TellsStarved other made (Err fault) = (made ≡ []) × (fault ≡ OutOfMemory)

-- bytes were taken; or memory for them was wanting, which ends the connection
abbrev pub TakesBytes : OtherEnd → List ℕ → (made : List ℕ) → Option ConversationEnding
    → OtherEnd → Type 0
TakesBytes old bytes made None new = (made ≡ []) × (new ≡ with_bytes old bytes)
TakesBytes old bytes made (Some ending) new =
    TellsStarved old made ending × (new ≡ Over (moved_by old))
