-- What an archive holds of the variables of settings, a fact a line.
use Rattle.std.specs.Prelude.{◌≡◌, ℕ, nat_lt, Bool, false, not, List, [], ◌∷◌, ◌++◌, slice_get, codes, Option, None, Some, Result, Ok, Err, if◌then◌else◌}
use Rattle.std.specs.Fmt.{decimal}
use Rattle.std.specs.List.{flat_map, range_with_len}
use Rattle.std.specs.Option.{option_map, option_map_or}
use Rattle.std.specs.Io.KnownBytes.{Appends}
use Rattle.counted_io.specs.Bytes.{AppendsPart}
use Rattle.stamp.specs.Numbers.{number_of}
use Rattle.ua_binary.specs.declared.values.NodeId.{NodeId}
use Rattle.ua_binary.specs.declared.values.NodeId.TheVariants.{Named}
use Rattle.ua_variant.specs.Variant.{has_type}
use Rattle.ua_variant.specs.declared.value.ValueType.{ValueType}
use Rattle.ua_space.specs.declared.layout.Layout.{Layout}
use Rattle.ua_space.specs.Space.{value_type_at}
use Rattle.records.specs.Contents.{Content, vec}
use Rattle.records.specs.declared.shown.Held.{Held}
use Rattle.archive.specs.Reading.{lives, in_direction}
use Rattle.archive.specs.Store.{Store, StepResult, faults_of}
use Rattle.archive.specs.Steps.{Transitions}
use Rattle.archive.specs.declared.fault.StoreFault.{StoreFault}
use Rattle.archive.specs.declared.reading.Direction.{Direction}
use Rattle.archive.specs.declared.reading.Direction.TheVariants.{Forward, Backward}
use Rattle.history_text.specs.Times.{IsTimeText}
use Rattle.history_csv.specs.Rows.{time_of}
use Rattle.history_report.specs.Tables.{legible}
use Rattle.history_report.specs.Reports.{AreLines}
use Rattle.settings_check.specs.declared.fault.CheckFault.{CheckFault}
use Rattle.settings_check.specs.declared.fault.CheckFault.TheVariants as fault
use Rattle.settings_check.specs.declared.asking.Seen.{Seen}
use Rattle.settings_check.specs.declared.asking.Ends.{Ends}
use Rattle.settings_check.specs.Texts.{text_of}
use Rattle.settings_check.specs.Facts.{counted_noun}
use Rattle.settings_check.specs.Warnings.{warned}
use Rattle.settings_check.specs.Nodes.{variable_ids}

-- ---- records

-- how many records a replica made, if it made any
abbrev pub record_line : (replica number : ℕ) → List (List ℕ)
record_line replica number =
    if nat_lt 0 number then (counted_noun number (codes " record of replica ")
    (codes " records of replica ") ++ decimal replica) ∷ [] else []

-- the vector has the number of each replica's last record
abbrev pub IsVectorOf : List ℕ → Content → Type 0
IsVectorOf numbers R = (replica : ℕ) → number_of numbers replica ≡ vec R replica

-- how many of the records that are held each replica made, where numbers say how many
abbrev pub record_lines : (numbers : ℕ → ℕ) → List (List ℕ)
record_lines numbers =
    flat_map (λ replica. record_line replica (numbers replica)) (range_with_len 1 64)

-- ---- what is held of a variable

-- a value isn't of the type that is wanted
abbrev pub is_other : Option ValueType → Held → Bool
is_other wanted held =
    elim wanted [
      | None ↦ false
      | Some type ↦ elim held.value.value [ None ↦ false | Some value ↦ not (has_type value type) ]
    ]

-- what is told of a live value
abbrev pub seen_of : Option ValueType → Held → Seen
seen_of wanted held = record { time = held.time; other = is_other wanted held }

-- what is told of a node's first live value in a direction: forward its first, backward its last
abbrev pub end_of : Content → NodeId → Option ValueType → Direction → Option Seen
end_of R node wanted way =
    option_map (seen_of wanted) (slice_get (in_direction way (lives R node)) 0)

-- what is told of the first and the last live value of a variable
abbrev pub ends_of : Layout → Content → NodeId → Ends
ends_of space R node =
    let wanted = value_type_at space node in
    record { first = end_of R node wanted Forward; last = end_of R node wanted Backward }

-- ---- lines

-- the text of a variable's id
abbrev pub id_text : NodeId → List ℕ
id_text node = elim node [ Named namespace id ↦ id | _ ↦ [] ]

-- the same as it is shown
abbrev pub shown_id : NodeId → List ℕ
shown_id node = legible (id_text node)

-- the words tell the times of two values
abbrev pub TellsTimes : (first last : Seen) → List ℕ → Type 0
TellsTimes first last words =
    (a : List ℕ) × (b : List ℕ) × (words ≡ codes ": values from " ++ a ++ codes " to " ++ b)
    × IsTimeText (time_of first.time) a × IsTimeText (time_of last.time) b

-- the words tell from when to when there are values, if there are any
abbrev pub TellsEnds : Ends → List ℕ → Type 0
TellsEnds ends words =
    elim ends.first [
      | None ↦ words ≡ codes ": no values"
      | Some first ↦ elim ends.last
          [ None ↦ words ≡ codes ": no values" | Some last ↦ TellsTimes first last words ]
    ]

-- the last value has another type than the settings say now
abbrev pub type_warning : NodeId → Ends → List (List ℕ)
type_warning node ends =
    warned (option_map_or (λ last. last.other) ends.last false)
    (codes "the settings say another type than that of the last value of " ++ shown_id node)

-- the text tells a variable: from when to when it has values, and that the last has another type
abbrev pub TellsVariable : NodeId → Ends → List ℕ → Type 0
TellsVariable node ends text =
    (words : List ℕ) × TellsEnds ends words
    × (text ≡ text_of ((shown_id node ++ words) ∷ type_warning node ends))

-- the text tells these variables, one after the other
abbrev pub TellsVariables : Layout → Content → List NodeId → List ℕ → Type 0
TellsVariables space R nodes text =
    AreLines (λ node. TellsVariable node (ends_of space R node)) nodes text

-- the text tells what an archive holds: the records of each replica, and then each variable
abbrev pub TellsStore : Layout → Content → List ℕ → Type 0
TellsStore space R text =
    (values : List ℕ) × (text ≡ text_of (record_lines (vec R)) ++ values)
    × TellsVariables space R (variable_ids space) values

-- ---- what is printed

-- an archive was asked, which stays as it is, and this holds of what it held; its store met these
-- faults, and no other
abbrev pub Reads : Store → Store → List StoreFault → (Content → Type 0) → Type 0
Reads old new faults Holds =
    (used : List StepResult)
    × Transitions old new used (λ marks R S. (S ≡ R) × ((faults_of used ≡ faults) × Holds R))

-- the fault of the store by which a check ended, if it is one of the store's
abbrev pub check_faults : Result (Unit {0}) CheckFault → List StoreFault
check_faults result = elim result [ Err (fault.Store why) ↦ why ∷ [] | _ ↦ [] ]

-- the text that tells what a content holds was printed, or a first part of it where a write failed;
-- else nothing was printed
abbrev pub PrintsStored : Layout → (before after : Option (List ℕ))
    → Result (Unit {0}) CheckFault → Content → Type 0
PrintsStored space before after result R =
    elim result [
      | Ok done ↦ (text : List ℕ) × TellsStore space R text × Appends before after text
      | Err fault.Write ↦ (text : List ℕ) × TellsStore space R text × AppendsPart before after text
      | Err why ↦ Appends before after []
    ]

-- the same of an archive that was asked
abbrev pub PrintsStore : Layout → Store → Store → (before after : Option (List ℕ))
    → Result (Unit {0}) CheckFault → Type 0
PrintsStore space old new before after result =
    Reads old new (check_faults result) (PrintsStored space before after result)
