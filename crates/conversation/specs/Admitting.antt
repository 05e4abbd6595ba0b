-- Which records the settings take from peers, and what becomes of a frame that brings others.
use Rattle.std.specs.Prelude.{◌≡◌, ℕ, ℤ, ◌==◌, ◌&&◌, ◌||◌, not, is_some, nat_lt, ◌^◌, Bool, true, false, List, [], ◌∷◌, Option, None, Some, Result, Ok, Err, if◌then◌else◌}
use Rattle.std.specs.List.{list_any}
use Rattle.std.specs.Option.{option_and_then}
use Rattle.records.specs.Spelling.{GivesUnless}
use Rattle.records.specs.Contents.{vec}
use Rattle.archive.specs.Store.{Store, Asks}
use Rattle.archive.specs.declared.fault.StoreFault.{StoreFault}
use Rattle.exchange.specs.Admissions.{Admission, is_open, first_frame, first_admitted}
use Rattle.exchange.specs.declared.admission.Bound.{Bound}
use Rattle.exchange.specs.Dialogs.{TellsFault}
use Rattle.exchange.specs.Messages.{Party}
use Rattle.exchange.specs.declared.fault.ExchangeFault.{ExchangeFault}
use Rattle.exchange.specs.declared.fault.ExchangeFault.TheVariants.{OutOfMemory, Store as StoreMet}
use Rattle.exchange.specs.declared.message.FrameKind.TheVariants.{Records}
use Rattle.exchange.specs.declared.message.State.{State}
use Rattle.exchange.specs.Streams.{FrameContent}
use Rattle.ua_session.specs.declared.audit.AuditEvent.{AuditEvent}
use Rattle.ua_session.specs.declared.audit.UpdateAudit.{UpdateAudit}
use Rattle.ua_session.specs.declared.audit.AuditEvent.TheVariants.{Update}
use Rattle.counted_io.specs.declared.fault.ServeFault.{ServeFault}
use Rattle.ua_settings.specs.Settings.{SettingsValues}
use Rattle.ua_peers.specs.Peers.{ended_as, is_silent}
use Rattle.ua_peers.specs.declared.peers.PeerEnded.{PeerEnded}

-- ---- records of one's own number

-- this frame brings records
abbrev pub brings_records : Option FrameContent → Bool
brings_records given = elim given [
  | None ↦ false
  | Some frame ↦ (elim frame.kind [ Records ↦ true | _ ↦ false ])
]

-- whether an archive is asked how many records of its own number it holds: where peers have a door
-- that names no replicas, and a frame stands first that brings records
abbrev pub is_own_asked : SettingsValues → (waiting : List ℕ) → Bool
is_own_asked settings waiting = elim settings.door [
  | None ↦ false
  | Some door ↦ not (is_some door.replicas) && brings_records (first_frame waiting)
]

-- the archive told how many it holds; or it wasn't asked, and stays as it is
abbrev pub AsksOwn : {A : Type 0} → (A → Store) → (asked : Bool) → (old new : A)
    → Result (Option ℕ) StoreFault → Type 0
AsksOwn state true old new result =
    Asks (state old) (state new) result
    (λ held. held ≡ Some (vec (state old).content (state old).own))
AsksOwn state false old new result = (new ≡ old) × (result ≡ Ok None)

-- whether records of this replica's own number are taken back, once so many are held: where they
-- were before, or none is held
abbrev pub restoring_with : (restoring : Bool) → (held : Option ℕ) → Bool
restoring_with restoring None = restoring
restoring_with restoring (Some held) = restoring || held == 0

-- the same, where a fault of the store may have come in place of how many are held
abbrev pub restoring_behind : (restoring : Bool) → Result (Option ℕ) StoreFault → Bool
restoring_behind restoring asked =
    elim asked [ Ok held ↦ restoring_with restoring held | Err met ↦ restoring ]

-- something was done of details: values have a status each, or all went well; whom the server
-- refuses to write gets a bad status and no others
abbrev pub was_done : UpdateAudit → Bool
was_done update = nat_lt 0 update.values || nat_lt update.worst.0 (2 ^ 30)

-- a client's update of which something was done: from then on none are taken back
abbrev pub restoring_unless : (restoring : Bool) → Option AuditEvent → Bool
restoring_unless restoring event =
    elim event [
      | Some (Update user updates) ↦ restoring && not (list_any was_done updates)
      | _ ↦ restoring
    ]

-- the greatest number that is taken of them: that of the last one that is held, unless they come
-- back
abbrev pub own_bound : (restoring : Bool) → (own : ℕ) → (held : Option ℕ) → Option Bound
own_bound restoring own None = None
own_bound restoring own (Some held) =
    if restoring then None else Some (record { replica = own; number = held })

-- ---- at a door

-- which records are taken from peers at this time, where there is this bound: all, where peers
-- have no door of their own
abbrev pub admission_at : SettingsValues → (time : ℤ) → Option Bound → Admission
admission_at settings time bound = elim settings.door [
  | None ↦ record { replicas = None; bound = None; ahead = None; time = time }
  | Some door ↦
      record { replicas = door.replicas; bound = bound; ahead = door.ahead; time = time }
]

-- how many seconds a record's tick may be ahead of the time; none: any number
abbrev pub ahead_at : SettingsValues → Option ℕ
ahead_at settings = option_and_then (λ door. door.ahead) settings.door

-- the clock gave this time, once, where the settings say how far a tick may be ahead of it; else it
-- wasn't asked
abbrev pub IsTimed : SettingsValues → (readings : List ℤ) → (time : ℤ) → Type 0
IsTimed settings readings time = elim (ahead_at settings) [
  | None ↦ readings ≡ []
  | Some seconds ↦ readings ≡ time ∷ []
]

-- the records of the frame that stands first are taken by a party at this time, where there is this
-- bound
abbrev pub IsAdmitted : SettingsValues → (time : ℤ) → Option Bound → Party → (waiting : List ℕ)
    → Type 0
IsAdmitted settings time bound p waiting =
    first_admitted (admission_at settings time bound) p waiting ≡ Ok tt

-- the settings limit which records are taken, and the first one of the first frame that isn't taken
-- is refused by this fault; or the fault is OutOfMemory, which says nothing of the records
pub record IsUnadmitted (settings : SettingsValues) (time : ℤ) (bound : Option Bound) (p : Party)
    (waiting : List ℕ) (fault : ExchangeFault) : Type 0 where
  pub closed : is_open (admission_at settings time bound) ≡ false
  pub why : GivesUnless OutOfMemory (Err fault)
      (first_admitted (admission_at settings time bound) p waiting)

-- why a frame isn't taken by a party, once its archive was asked how many records of its own number
-- it holds: the archive met this fault, or the records aren't taken
abbrev pub IsReason : SettingsValues → (time : ℤ) → (restoring : Bool) → Party
    → (waiting : List ℕ) → Result (Option ℕ) StoreFault → ExchangeFault → Type 0
IsReason settings time restoring p waiting (Err met) fault = fault ≡ StoreMet met
IsReason settings time restoring p waiting (Ok held) fault =
    let bound = own_bound (restoring_with restoring held) p.own held in
    IsUnadmitted settings time bound p waiting fault

-- the first frame isn't taken: the peer was told why, and the dialog is over
pub record Refuses (settings : SettingsValues) (time : ℤ) (restoring : Bool) (p : Party)
    (waiting : List ℕ) (asked : Result (Option ℕ) StoreFault) (said : List ℕ)
    (ends : Option (Result PeerEnded ServeFault)) : Type 0 where
  pub fault : ExchangeFault
  pub why : IsReason settings time restoring p waiting asked fault
  pub told : Result State ExchangeFault
  pub tells : TellsFault fault told [] said
  pub ended : ends ≡ ended_as None (is_silent said) told

-- ---- ahead of a frame's turn

-- what was said where some first records of a frame were learned ahead of its turn: nothing, and
-- the dialog goes on; or why one wasn't learned, and the dialog is over
abbrev pub TellsAhead : Result (Option ℕ) ExchangeFault → (said : List ℕ)
    → Option (Result PeerEnded ServeFault) → Type 0
TellsAhead (Ok None) said ends = ⊥
TellsAhead (Ok (Some added)) said ends = (said ≡ []) × (ends ≡ None)
TellsAhead (Err fault) said ends =
    (told : Result State ExchangeFault) × TellsFault fault told [] said
    × (ends ≡ ended_as None (is_silent said) told)
