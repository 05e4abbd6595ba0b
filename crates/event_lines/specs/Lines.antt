-- The lines of a server's log: what each says of an event, byte by byte.
use Rattle.std.specs.Prelude.{◌≡◌, ℕ, ℤ, ◌==◌, List, [], ◌∷◌, ◌++◌, codes, Option, Some, None, if◌then◌else◌}
use Rattle.std.specs.Fmt.{decimal}
use Rattle.std.specs.Net.Text.{socket_text}
use Rattle.std.specs.declared.net.socket_addr.SocketAddr.{SocketAddr}
use Rattle.ua_binary.specs.declared.codes.Status.{Status}
use Rattle.ua_binary.specs.declared.values.NodeId.{NodeId}
use Rattle.ua_session.specs.declared.audit.UpdateAudit.{UpdateAudit}
use Rattle.ua_session.specs.declared.audit.UpdateKind.{UpdateKind}
use Rattle.ua_session.specs.declared.audit.UpdateKind.TheVariants.{Insert, Replace, Update, DeleteRange, DeleteAtTime, Other}
use Rattle.history_text.specs.Statuses.{status_text}
use Rattle.history_text.specs.Times.{IsTimeText}
use Rattle.history_csv.specs.Nodes.{node_text}
use Rattle.event_lines.specs.Names.{quoted_name}
use Rattle.event_lines.specs.declared.lines.Moved.{Moved}

-- a line says when something was, in steps of 100 ns since 1601, and behind a blank what it was
abbrev pub IsEventLine : (at : ℤ) → (event : List ℕ) → List ℕ → Type 0
IsEventLine at event line = (time : List ℕ)
    × IsTimeText (record { ticks = at; pico = 0 }) time × (line ≡ time ++ 32 ∷ event)

-- ---- what is said, by its parts

-- who is at the other end: the address, where it is known
abbrev pub from_text : Option SocketAddr → List ℕ
from_text from = elim from [ Some address ↦ socket_text address | None ↦ codes "somebody" ]

-- a number of what has this name, which gets an s but for one
abbrev pub amount_text : ℕ → (noun : List ℕ) → List ℕ
amount_text n noun = decimal n ++ 32 ∷ noun ++ (if n == 1 then [] else codes "s")

-- the node, where it is an archived variable
abbrev pub archived_text : Option NodeId → List ℕ
archived_text node = elim node [ Some node ↦ node_text node | None ↦ codes "another node" ]

-- what was asked of a node, with how many values or times were answered one by one
abbrev pub asked_text : UpdateKind → (values : ℕ) → List ℕ
asked_text kind values =
    elim kind [
      | Insert ↦ codes "asked to insert " ++ amount_text values (codes "value")
      | Replace ↦ codes "asked to replace " ++ amount_text values (codes "value")
      | Update ↦ codes "asked to update " ++ amount_text values (codes "value")
      | DeleteRange ↦ codes "asked to delete a range"
      | DeleteAtTime ↦ codes "asked to delete the values at " ++ amount_text values (codes "time")
      | Other ↦ codes "asked for an update that isn't served,"
    ]

-- how many records an exchange moved, each way
abbrev pub moved_text : Moved → List ℕ
moved_text moved =
    codes " (learned " ++ decimal moved.learned ++ codes ", sent " ++ decimal moved.sent
    ++ codes ")"

-- the same, where there was an exchange
abbrev pub exchanged_text : Option Moved → List ℕ
exchanged_text moved = elim moved [ Some moved ↦ moved_text moved | None ↦ [] ]

-- where clients come to, and where peers do: there too, or to an address of their own
abbrev pub doors_text : (clients : List ℕ) → (peers : Option (List ℕ)) → List ℕ
doors_text clients peers = elim peers [
  | None ↦ codes "clients and peers at " ++ clients
  | Some own ↦ codes "clients at " ++ clients ++ codes ", peers at " ++ own
]

-- where browsers come to, if they do
abbrev pub browsers_text : (browsers : Option (List ℕ)) → List ℕ
browsers_text browsers =
    elim browsers [ Some address ↦ codes ", browsers at " ++ address | None ↦ [] ]

-- how many records are held, where that is known
abbrev pub records_text : (records : Option ℕ) → List ℕ
records_text records = elim records [
  | Some count ↦ codes "; " ++ amount_text count (codes "record")
  | None ↦ []
]

-- ---- what is said of an event

-- the program of this version serves this replica of this archive, from now on, at these places;
-- so many records are held
abbrev pub start_text : (version archive : List ℕ) → (replica : ℕ) → (places : List ℕ)
    → (records : Option ℕ) → List ℕ
start_text version archive replica places records =
    codes "started: version " ++ version ++ codes ", archive " ++ archive ++ codes ", replica "
    ++ decimal replica ++ codes "; " ++ places ++ records_text records

-- somebody came in by one of the server's doors
abbrev pub connected_text : Option SocketAddr → (door : List ℕ) → List ℕ
connected_text from door = from_text from ++ codes " connected to " ++ door

-- somebody asked to activate a session by this name, and was let in, or refused so
abbrev pub login_text : Option SocketAddr → (name : List ℕ) → Option Status → List ℕ
login_text from name refused =
    from_text from ++ elim refused [
      | None ↦ codes " logged in as " ++ quoted_name name
      | Some why ↦ codes " was refused as " ++ quoted_name name ++ codes ": " ++ status_text why
    ]

-- one of the details of a HistoryUpdate was answered to a user
abbrev pub update_text : Option SocketAddr → (user : List ℕ) → UpdateAudit → List ℕ
update_text from user update =
    from_text from ++ codes " as " ++ quoted_name user ++ 32 ∷ asked_text update.kind update.values
    ++ codes " of " ++ archived_text update.node ++ codes ": " ++ status_text update.worst

-- a browser gave credentials that are no user's
abbrev pub denial_text : Option SocketAddr → List ℕ
denial_text from = from_text from ++ codes " was refused as a browser: no such user or password"

-- the store broke, and is served on
abbrev pub broken_text : List ℕ
broken_text = codes "store broken"

-- a connection ended, which was there for so many milliseconds, and was answered so often; what was
-- learned and sent, where it was a peer's
abbrev pub end_text : Option SocketAddr → (milliseconds answered : ℕ) → (reason : List ℕ)
    → Option Moved → List ℕ
end_text from milliseconds answered reason moved =
    from_text from ++ codes " ended after " ++ decimal milliseconds ++ codes " ms and "
    ++ amount_text answered (codes "answer") ++ codes ": " ++ reason ++ exchanged_text moved

-- a peer was called
abbrev pub call_text : (address reason : List ℕ) → Moved → List ℕ
call_text address reason moved =
    codes "peer " ++ address ++ codes " called: " ++ reason ++ moved_text moved
