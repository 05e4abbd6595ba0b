-- Each event's line is one line.
use Rattle.std.proofs.Common.{◌==◌, [], ℕ, List, refl, sym, subst}
use Rattle.std.proofs.lemmas.Bool.{cond_both}
use Rattle.std.specs.Prelude.{◌++◌, codes, Option, Some, None, IfSome}
use Rattle.std.specs.declared.net.socket_addr.SocketAddr.{SocketAddr}
use Rattle.ua_binary.specs.declared.codes.Status.{Status}
use Rattle.ua_session.specs.declared.audit.UpdateAudit.{UpdateAudit}
use Rattle.ua_session.specs.declared.audit.UpdateKind.{UpdateKind}
use Rattle.ua_session.specs.declared.audit.UpdateKind.TheVariants.{Insert, Replace, Update, DeleteRange, DeleteAtTime, Other}
use Rattle.event_lines.specs.Lines.{from_text, amount_text, asked_text, moved_text, exchanged_text, archived_text, doors_text, browsers_text, records_text, start_text, connected_text, login_text, denial_text, update_text, broken_text, end_text, call_text}
use Rattle.event_lines.specs.OneLine.{IsOneLine, IsToldOnOneLine}
use Rattle.event_lines.specs.declared.lines.Moved.{Moved}
use Rattle.event_lines.proofs.OneLineLemmas.{said, onto, ◌&◌, number}
use Rattle.event_lines.proofs.OneLineTexts.{socket, moment, status_is, name_is}

-- a line is one line if what it says of its event is
told : (event : List ℕ) → IsOneLine event → IsToldOnOneLine event
told event is at line (time, when, made) =
    subst IsOneLine (sym made)
    (moment (record { ticks = at; pico = 0 }) time when & onto 32 refl is)

-- ---- the parts

from_is : (from : Option SocketAddr) → IsOneLine (from_text from)
from_is (Some address) = socket address
from_is None = said (codes "somebody") refl

amount : (n : ℕ) → (noun : List ℕ) → IsOneLine noun → IsOneLine (amount_text n noun)
amount n noun is =
    number n & onto 32 refl is
    & cond_both (n == 1) [] (codes "s") IsOneLine (λ _. said [] refl)
    (λ _. said (codes "s") refl)

values : (n : ℕ) → IsOneLine (amount_text n (codes "value"))
values n = amount n (codes "value") (said (codes "value") refl)

asked : (kind : UpdateKind) → (n : ℕ) → IsOneLine (asked_text kind n)
asked Insert n = said (codes "asked to insert ") refl & values n
asked Replace n = said (codes "asked to replace ") refl & values n
asked Update n = said (codes "asked to update ") refl & values n
asked DeleteRange n = said (codes "asked to delete a range") refl
asked DeleteAtTime n =
    said (codes "asked to delete the values at ") refl
    & amount n (codes "time") (said (codes "time") refl)
asked Other n = said (codes "asked for an update that isn't served,") refl

moved_is : (moved : Moved) → IsOneLine (moved_text moved)
moved_is moved =
    said (codes " (learned ") refl & number moved.learned & said (codes ", sent ") refl
    & number moved.sent & said (codes ")") refl

exchanged : (moved : Option Moved) → IsOneLine (exchanged_text moved)
exchanged (Some moved) = moved_is moved
exchanged None = said [] refl

doors : (clients : List ℕ) → (peers : Option (List ℕ)) → IsOneLine clients
    → IfSome peers IsOneLine → IsOneLine (doors_text clients peers)
doors clients None is own = said (codes "clients and peers at ") refl & is
doors clients (Some peers) is own =
    said (codes "clients at ") refl & is & said (codes ", peers at ") refl & own

page : (browsers : Option (List ℕ)) → IfSome browsers IsOneLine → IsOneLine (browsers_text browsers)
page None is = said [] refl
page (Some address) is = said (codes ", browsers at ") refl & is

held : (records : Option ℕ) → IsOneLine (records_text records)
held None = said [] refl
held (Some count) =
    said (codes "; ") refl & amount count (codes "record") (said (codes "record") refl)

-- ---- the events

pub started : (version archive : List ℕ) (replica : ℕ) (clients : List ℕ)
    (peers browsers : Option (List ℕ)) (records : Option ℕ) → IsOneLine version
    → IsOneLine archive → IsOneLine clients → IfSome peers IsOneLine
    → IfSome browsers IsOneLine → IsToldOnOneLine (start_text version archive replica
    (doors_text clients peers ++ browsers_text browsers) records)
started version archive replica clients peers browsers records program id at own web =
    told
    (start_text version archive replica (doors_text clients peers ++ browsers_text browsers)
    records)
    (said (codes "started: version ") refl & program & said (codes ", archive ") refl & id
    & said (codes ", replica ") refl & number replica & said (codes "; ") refl
    & (doors clients peers at own & page browsers web) & held records)

pub connected : (from : Option SocketAddr) → (door : List ℕ) → IsOneLine door
    → IsToldOnOneLine (connected_text from door)
connected from door is =
    told (connected_text from door) (from_is from & said (codes " connected to ") refl & is)

pub login : (from : Option SocketAddr) → (name : List ℕ) → (refused : Option Status)
    → IsToldOnOneLine (login_text from name refused)
login from name None =
    told (login_text from name None)
    (from_is from & (said (codes " logged in as ") refl & name_is name))
login from name (Some code) =
    told (login_text from name (Some code))
    (from_is from & (said (codes " was refused as ") refl & name_is name
    & said (codes ": ") refl & status_is code))

pub updated : (from : Option SocketAddr) → (user : List ℕ) → (update : UpdateAudit)
    → IsOneLine (archived_text update.node) → IsToldOnOneLine (update_text from user update)
updated from user update is =
    told (update_text from user update)
    (from_is from & said (codes " as ") refl & name_is user
    & onto 32 refl (asked update.kind update.values) & said (codes " of ") refl & is
    & said (codes ": ") refl & status_is update.worst)

pub denied : (from : Option SocketAddr) → IsToldOnOneLine (denial_text from)
denied from =
    told (denial_text from)
    (from_is from & said (codes " was refused as a browser: no such user or password") refl)

pub broken : IsToldOnOneLine broken_text
broken = told broken_text (said (codes "store broken") refl)

pub ended : (from : Option SocketAddr) → (milliseconds answered : ℕ) → (reason : List ℕ)
    → (moved : Option Moved) → IsOneLine reason
    → IsToldOnOneLine (end_text from milliseconds answered reason moved)
ended from milliseconds answered reason moved is =
    told (end_text from milliseconds answered reason moved)
    (from_is from & said (codes " ended after ") refl & number milliseconds
    & said (codes " ms and ") refl
    & amount answered (codes "answer") (said (codes "answer") refl)
    & said (codes ": ") refl & is & exchanged moved)

pub called : (address reason : List ℕ) → (moved : Moved) → IsOneLine address → IsOneLine reason
    → IsToldOnOneLine (call_text address reason moved)
called address reason moved at why =
    told (call_text address reason moved)
    (said (codes "peer ") refl & at & said (codes " called: ") refl & why & moved_is moved)
