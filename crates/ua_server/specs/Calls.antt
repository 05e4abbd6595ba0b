-- A peer that is called by hand: what is exchanged with it, and what is told of a number that was
-- given twice.
use Rattle.std.specs.Prelude.{◌≡◌, ◌⊎◌, ℕ, List, [], ◌∷◌, ◌++◌, if◌then◌else◌, Option, None, Some, Result, Ok, Err, IfOk, codes}
use Rattle.std.specs.Fmt.{decimal}
use Rattle.std.specs.Result.{result_map_both}
use Rattle.csv.specs.Writing.{default_writer, row_text}
use Rattle.records.specs.declared.record.Record.{Record}
use Rattle.records.specs.declared.shown.Entry.{Entry}
use Rattle.records.specs.Records.{is_delete}
use Rattle.archive.specs.Store.{Store}
use Rattle.counted_io.specs.Bytes.{AppendsPart}
use Rattle.exchange.specs.Dialogs.{party_of}
use Rattle.history_csv.specs.Rows.{AreChangeFields}
use Rattle.peer_check.specs.Comparing.{ComparesWith, AsksAlone, AsksOnly}
use Rattle.command_line.specs.declared.line.SyncWords.{SyncWords}
use Rattle.peer_check.specs.declared.comparing.Clash.{Clash}
use Rattle.peer_check.specs.declared.comparing.Extent.{Extent}
use Rattle.peer_check.specs.declared.comparing.Extent.TheVariants.{Last, All}
use Rattle.ua_peers.specs.Calling.{Syncs}
use Rattle.ua_peers.specs.declared.calling.Synced.{Synced}
use Rattle.ua_peers.specs.declared.calling.SyncFault.{SyncFault}
use Rattle.ua_server.specs.declared.calls.CallFault.{CallFault}
use Rattle.ua_server.specs.declared.calls.CallFault.TheVariants as call

-- ---- the call

-- a fault of a comparison or of a dialog, as one of a call
abbrev pub dialog_fault : SyncFault → CallFault
dialog_fault fault = call.Sync fault

-- what the words of `sync` ask to be compared before records are exchanged: nothing, the last
-- records that both hold, or all of them
abbrev pub compared_before : SyncWords → Option Extent
compared_before asked =
    if asked.verify then Some All else if asked.check then Some Last else None

-- so much of what both hold was compared over a connection, and this was found
pub record HasCompared (extent : Extent) (old new : Store)
    (unread left before after : Option (List ℕ))
    (found : Result (Option Clash) SyncFault) : Type 0 where
  pub alone : AsksAlone old new found
  pub says : AsksOnly (party_of old) before after
  pub finds : IfOk found (ComparesWith extent old new unread left before after)

-- a dialog was had over a connection, and the call ended as it did
abbrev pub HasDialog : (old new : Store) → (unread left before after : Option (List ℕ))
    → Result Synced CallFault → Type 0
HasDialog old new unread left before after ending =
    (synced : Result Synced SyncFault) × Syncs old new unread left before after synced
    × (ending ≡ result_map_both (λ moved. moved) dialog_fault synced)

-- nothing clashed, and a dialog was had after it; held tells what an archive holds
pub record AgreesFirst {A : Type 0} (extent : Extent) (held : A → Store) (old new : A)
    (unread left before after : Option (List ℕ)) (ending : Result Synced CallFault) : Type 0 where
  pub middle : A
  pub rest : Option (List ℕ)
  pub between : Option (List ℕ)
  pub agrees : HasCompared extent (held old) (held middle) unread rest before between (Ok None)
  pub dialog : HasDialog (held middle) (held new) rest left between after ending

-- a clash was found, or comparing met a fault, and no record moved
abbrev pub EndsCompared : Extent → (old new : Store) → (unread left before after : Option (List ℕ))
    → Result Synced CallFault → Type 0
EndsCompared extent old new unread left before after ending =
    ((clash : Clash) × HasCompared extent old new unread left before after (Ok (Some clash))
    × (ending ≡ Err (call.Clash clash)))
    ⊎ ((fault : SyncFault) × HasCompared extent old new unread left before after (Err fault)
    × (ending ≡ Err (dialog_fault fault)))

-- a peer was called to exchange records with it; where that is asked for, so much of what both hold
-- was compared before, and a clash or a fault of that ended the call
abbrev pub Exchanges : {A : Type 0} → (held : A → Store) → (compared : Option Extent)
    → (old new : A) → (unread left before after : Option (List ℕ)) → Result Synced CallFault
    → Type 0
Exchanges held None old new unread left before after ending =
    HasDialog (held old) (held new) unread left before after ending
Exchanges held (Some extent) old new unread left before after ending =
    AgreesFirst extent held old new unread left before after ending
    ⊎ EndsCompared extent (held old) (held new) unread left before after ending

-- ---- what is told of a clash

-- a record as a modification that shows its own value, and none where it deleted one
abbrev pub entry_of : Record → Entry
entry_of r = record {
  time = r.time;
  value = if is_delete r.asked then None else Some r.value;
  kind = r.asked;
  tick = r.tick;
  origin = r.origin;
  user = r.user;
}

-- what stands in front of a record's row: where it is held, its replica and its number
abbrev pub row_front : (place : List ℕ) → Record → List ℕ
row_front place r =
    place ++ (codes "," ++ (decimal r.origin ++ (codes "," ++ (decimal r.number ++ codes ","))))

-- a row of the table, and after that what the record is
abbrev pub IsClashRow : (place : List ℕ) → Record → List ℕ → Type 0
IsClashRow place r row =
    (fields : List (List ℕ)) × AreChangeFields r.node (entry_of r) fields
    × (row ≡ row_front place r ++ row_text default_writer fields)

-- the names of its columns
abbrev pub clash_names : List ℕ
clash_names = codes "held,replica,number,node,time,value,status,change,changed,user" ++ 10 ∷ []

-- a table of two records of one number, as CSV
abbrev pub IsClashTable : Clash → List ℕ → Type 0
IsClashTable clash table =
    (held : List ℕ) × (brought : List ℕ) × IsClashRow (codes "here") clash.held held
    × IsClashRow (codes "there") clash.brought brought
    × (table ≡ clash_names ++ (held ++ brought))

-- the line that says of which records no table can be made
abbrev pub unshown_line : Clash → List ℕ
unshown_line clash =
    codes "two records of replica " ++ (decimal clash.held.origin ++ (codes ", number "
    ++ (decimal clash.held.number ++ (codes ", which can't be shown" ++ 10 ∷ []))))

-- such a table was printed; or, where memory for it was wanting or a value has no text, a line that
-- says of which records: all of it, or a first part
abbrev pub PrintsClash : Clash → (before after : Option (List ℕ)) → Type 0
PrintsClash clash before after =
    ((table : List ℕ) × IsClashTable clash table × AppendsPart before after table)
    ⊎ AppendsPart before after (unshown_line clash)
