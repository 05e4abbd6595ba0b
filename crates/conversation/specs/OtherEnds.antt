-- Who is at the other end of a connection, by what came.
use Rattle.std.specs.Prelude.{◌≡◌, ℕ, nat_lt, Bool, false, List, ◌++◌, length, Option, None, Some, Result, if◌then◌else◌}
use Rattle.exchange.specs.Dialogs.{DialogState}
use Rattle.counted_io.specs.declared.fault.ServeFault.{ServeFault}
use Rattle.ua_session.specs.Sessions.{has_user}
use Rattle.ua_connection.specs.Client.{new_client}
use Rattle.ua_peers.specs.Peers.{responding}
use Rattle.ua_peers.specs.Talking.{IsReady}
use Rattle.ua_peers.specs.declared.calling.Synced.{Synced}
use Rattle.conversation.specs.declared.ended.Ended.{Ended}
use Rattle.conversation.specs.declared.door.Door.{Door}
use Rattle.conversation.specs.declared.other_end.PeerDialog.{PeerDialog}
use Rattle.conversation.specs.declared.other_end.OtherEnd.{OtherEnd}
use Rattle.conversation.specs.declared.other_end.OtherEnd.TheVariants.{Unknown, Client, Peer, Browser, Stranger, Over}
use Rattle.conversation.specs.Doors.{is_peers}
use Rattle.web_connection.specs.Answers.{with_input}

-- how a connection ended, or the fault that ended it
abbrev pub ConversationEnding : Type 0
ConversationEnding = Result Ended ServeFault

-- a dialog that stands so, of which these bytes weren't taken yet; it is heard once a frame was
abbrev pub peer_at : DialogState → List ℕ → PeerDialog
peer_at dialog waiting = record {
  dialog = dialog;
  frames = record { waiting = waiting; failed = false };
  is_heard = nat_lt 0 dialog.taken;
}

-- who is at the other end of a connection at this door where these are the first bytes: three of
-- them tell
abbrev pub known_by : Door → List ℕ → OtherEnd
known_by door came =
    if nat_lt (length came) 3 then Unknown door came
    else if is_peers door came then Peer (peer_at responding came)
    else Client (record { client = new_client; waiting = came })

-- the other end, once it brought these bytes more
abbrev pub with_bytes : OtherEnd → List ℕ → OtherEnd
with_bytes other bytes = elim other [
  | Unknown door letters ↦ known_by door (letters ++ bytes)
  | Client link ↦ Client (record link { waiting = link.waiting ++ bytes })
  | Peer peer ↦ Peer (record peer {
    frames = record peer.frames { waiting = peer.frames.waiting ++ bytes };
  })
  | Browser web ↦ Browser (with_input web bytes)
  | Stranger ↦ Stranger
  | Over moved ↦ Over moved
]

-- no record
abbrev pub none_moved : Synced
none_moved = record { learned = 0; sent = 0 }

-- how many records were moved by its dialog; none where it is no peer
abbrev pub moved_by : OtherEnd → Synced
moved_by other = elim other [
  | Peer peer ↦ record { learned = peer.dialog.learned; sent = peer.dialog.sent }
  | Over moved ↦ moved
  | _ ↦ none_moved
]

-- the other end after an answer, which may have ended the connection
abbrev pub unless_over : Option ConversationEnding → OtherEnd → OtherEnd
unless_over ending other = elim ending [ None ↦ other | Some end ↦ Over (moved_by other) ]

-- a session of it was activated, or a whole frame of it came
abbrev pub is_established : OtherEnd → Bool
is_established other = elim other [
  | Client link ↦ has_user link.client.sessions
  | Peer peer ↦ peer.is_heard
  | _ ↦ false
]

-- a peer's dialog takes frames, and no fault stopped it
abbrev pub IsUsable : OtherEnd → Type 0
IsUsable other = elim other [
  | Peer peer ↦ IsReady peer.dialog × (peer ≡ peer_at peer.dialog peer.frames.waiting)
  | _ ↦ Unit {0}
]
