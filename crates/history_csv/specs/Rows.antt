-- How a node's history is written as CSV, a value or a modification a row, and a row read again.
use Rattle.std.specs.Prelude.{◌≡◌, ◌⊎◌, ℕ, nat_lt, ℤ, ⊤, List, [], ◌∷◌, ◌++◌, codes, Bool, true, false, Option, Some, None, ok_or, unwrap_or, Result, Ok, Err, MatchResult, if◌then◌else◌}
use Rattle.std.specs.Str.{bytes_eq}
use Rattle.csv.specs.Machine.{next_record}
use Rattle.csv.specs.Reading.{default_config}
use Rattle.csv.specs.declared.parser.State.TheVariants.{StartRecord}
use Rattle.csv.specs.Writing.{default_writer, row_text}
use Rattle.ua_binary.specs.declared.codes.Status.{Status}
use Rattle.ua_binary.specs.declared.values.NodeId.{NodeId}
use Rattle.ua_variant.specs.Scalar.{scalar_number}
use Rattle.ua_variant.specs.Values.{array_number}
use Rattle.ua_variant.specs.declared.value.ValueType.{ValueType}
use Rattle.ua_variant.specs.declared.value.Variant.{Variant}
use Rattle.ua_variant.specs.declared.value.Variant.TheVariants.{Null, Scalar, Array}
use Rattle.ua_variant.specs.declared.data.DataValue.{DataValue}
use Rattle.ua_variant.specs.declared.update_type.HistoryUpdateType.{HistoryUpdateType}
use Rattle.ua_variant.specs.declared.update_type.HistoryUpdateType.TheVariants.{Insert, Replace, Update, Delete}
use Rattle.records.specs.Moments.{moment, ticks_of, pico_of}
use Rattle.records.specs.declared.shown.Held.{Held}
use Rattle.records.specs.declared.shown.Entry.{Entry}
use Rattle.history_text.specs.Arrays.{◌>>?◌, array_in, array_again, IsArrayText, IsUnwrittenArray}
use Rattle.history_text.specs.Statuses.{kept, status_in, status_text}
use Rattle.history_text.specs.Times.{◌>>=◌, time_in, IsTimeText}
use Rattle.history_text.specs.Values.{value_in, read_back, IsUnwritten, IsValueText}
use Rattle.history_text.specs.declared.times.Time.{Time}
use Rattle.history_text.specs.declared.fault.TextFault.{TextFault}
use Rattle.history_text.specs.declared.fault.TextFault.TheVariants.{NoTime, NoStatus}
use Rattle.history_csv.specs.Nodes.{node_in, node_text}
use Rattle.history_csv.specs.declared.fields.Row.{Row}
use Rattle.history_csv.specs.declared.fault.RowFault.{RowFault}
use Rattle.history_csv.specs.declared.fault.RowFault.TheVariants as fault

-- ---- reading

-- the answer is given, unless memory ran out
abbrev pub Answers : {A : Type 0} → Result A RowFault → Result A RowFault → Type 0
Answers answer result =
    MatchResult result (λ v. answer ≡ Ok v) (λ e. (e ≡ fault.OutOfMemory) ⊎ (answer ≡ Err e))

-- the moment of these parts, where its picoseconds are at most 9,999 steps of 10
abbrev pub moment_by_parts : Time → Option ℤ
moment_by_parts time = if nat_lt 9999 time.pico then None else Some (moment time.ticks time.pico)

-- the moment that a text says
abbrev pub moment_in : List ℕ → Option ℤ
moment_in text = time_in text >>= moment_by_parts

-- the value of a type that a text says, one or an array
abbrev pub variant_in : (type : ValueType) → List ℕ → Result Variant TextFault
variant_in type text =
    if type.array then (array_in type.number text >>? λ array. Ok (Array array))
    else (value_in type.number text >>? λ value. Ok (Scalar value))

-- the same, but an empty text that is no value of the type says that there is none
abbrev pub optional_in : (type : ValueType) → List ℕ → Result (Option Variant) RowFault
optional_in type text =
    elim (variant_in type text) [
      | Ok value ↦ Ok (Some value)
      | Err why ↦ if bytes_eq text [] then Ok None else Err (fault.Value why)
    ]

-- the second step from what the first one gave, if it gave something
abbrev pub and_read : {A B : Type 0} → Result A RowFault → (A → Result B RowFault)
    → Result B RowFault
and_read (Ok x) f = f x
and_read (Err e) f = Err e

-- the row that four texts say
abbrev pub row_in : (type : ValueType) → (node time value status : List ℕ) → Result Row RowFault
row_in type node time value status =
    and_read (ok_or (node_in node) fault.Node) λ node.
    and_read (ok_or (moment_in time) (fault.Time NoTime)) λ time.
    and_read (optional_in type value) λ value.
    and_read (ok_or (status_in status) (fault.Status NoStatus)) λ status.
    Ok (record { node = node; time = time; value = value; status = status })

-- the row that fields say: four
abbrev pub row_of : (type : ValueType) → List (List ℕ) → Result Row RowFault
row_of type (node ∷ time ∷ value ∷ status ∷ []) = row_in type node time value status
row_of type _ = Err fault.Fields

-- ---- writing

-- the fields of the header over values
abbrev pub value_names : List (List ℕ)
value_names = codes "node" ∷ codes "time" ∷ codes "value" ∷ codes "status" ∷ []

-- the fields of the header over modifications
abbrev pub change_names : List (List ℕ)
change_names = value_names ++ codes "change" ∷ codes "changed" ∷ codes "user" ∷ []

-- the parts of a moment
abbrev pub time_of : ℤ → Time
time_of time = record { ticks = ticks_of time; pico = pico_of time }

-- a text that is written for a value that may be none: nothing then
abbrev pub IsVariantText : Option Variant → List ℕ → Type 0
IsVariantText given text =
    elim given [
      | None ↦ text ≡ []
      | Some v ↦ elim v [
        | Null ↦ text ≡ []
        | Scalar s ↦ IsValueText s text
        | Array a ↦ IsArrayText a text
      ]
    ]

-- the text of a status, which is good where there is none
abbrev pub code_text : Option Status → List ℕ
code_text status = status_text (unwrap_or status (record { 0 = 0 }))

-- a value has no text: its type isn't written, or it is an array of such a type
abbrev pub IsTextless : Option Variant → Type 0
IsTextless given =
    elim given [
      | None ↦ ⊥
      | Some v ↦ elim v [ Null ↦ ⊥ | Scalar s ↦ IsUnwritten s | Array a ↦ IsUnwrittenArray a ]
    ]

-- the texts of a value and of its status
abbrev pub AreDataTexts : DataValue → (value status : List ℕ) → Type 0
AreDataTexts given value status = IsVariantText given.value value
    × (status ≡ code_text given.status)

-- the fields of a live value's row
abbrev pub AreValueFields : NodeId → Held → List (List ℕ) → Type 0
AreValueFields node held (name ∷ time ∷ value ∷ status ∷ []) =
    (name ≡ node_text node) × IsTimeText (time_of held.time) time
    × AreDataTexts held.value value status
AreValueFields node held _ = ⊥

-- what was done, in a word
abbrev pub change_word : HistoryUpdateType → List ℕ
change_word kind =
    elim kind [
      | Insert ↦ codes "insert"
      | Replace ↦ codes "replace"
      | Update ↦ codes "update"
      | Delete ↦ codes "delete"
    ]

-- the texts of a value that a modification shows and of its status: nothing where it shows none
abbrev pub AreShownTexts : Option DataValue → (value status : List ℕ) → Type 0
AreShownTexts shown value status =
    elim shown [
      | None ↦ (value ≡ []) × (status ≡ [])
      | Some given ↦ AreDataTexts given value status
    ]

-- a modification shows a value that has no text
abbrev pub ShowsTextless : Option DataValue → Type 0
ShowsTextless shown = elim shown [ None ↦ ⊥ | Some given ↦ IsTextless given.value ]

-- the fields of a modification's row: those of the value that it shows, what was done, when, by
-- whom
abbrev pub AreChangeFields : NodeId → Entry → List (List ℕ) → Type 0
AreChangeFields node entry (name ∷ time ∷ value ∷ status ∷ change ∷ changed ∷ user ∷ []) =
    (name ≡ node_text node) × IsTimeText (time_of entry.time) time
    × AreShownTexts entry.value value status × (change ≡ change_word entry.kind)
    × IsTimeText (record { ticks = entry.tick; pico = 0 }) changed × (user ≡ entry.user)
AreChangeFields node entry _ = ⊥

-- a row is appended, of such fields
abbrev pub IsAppended : (old new : List ℕ) → (List (List ℕ) → Type 0) → Type 0
IsAppended old new AreFields =
    (fields : List (List ℕ)) × (new ≡ old ++ row_text default_writer fields) × AreFields fields

-- ---- what is read again

-- the type of a value, where there is one
abbrev pub IsTypeOf : (type : ValueType) → Option Variant → Type 0
IsTypeOf type given =
    elim given [
      | None ↦ ⊤
      | Some v ↦ elim v [
        | Null ↦ ⊤
        | Scalar s ↦ type ≡ record { number = scalar_number s; array = false }
        | Array a ↦ type ≡ record { number = array_number a; array = true }
      ]
    ]

-- what is read of a value that was written: of none, what an empty field says
abbrev pub read_again : (type : ValueType) → Option Variant → Result (Option Variant) RowFault
read_again type given =
    elim given [
      | None ↦ optional_in type []
      | Some v ↦ elim v [
        | Null ↦ optional_in type []
        | Scalar s ↦ Ok (Some (Scalar (read_back s)))
        | Array a ↦ Ok (Some (Array (array_again a)))
      ]
    ]

-- the row that is read of one that was written
abbrev pub row_again : (type : ValueType) → NodeId → Held → Result Row RowFault
row_again type node held =
    and_read (read_again type held.value.value) λ value.
    Ok (record {
      node = node;
      time = held.time;
      value = value;
      status = kept (unwrap_or held.value.status (record { 0 = 0 }));
    })

-- the fields of a live value's row, which are read as that value
abbrev pub AreReadFields : NodeId → Held → List (List ℕ) → Type 0
AreReadFields node held fields = AreValueFields node held fields
    × ((type : ValueType) → IsTypeOf type held.value.value
    → row_of type fields ≡ row_again type node held)

-- the row that a text begins by, as the kit's `csv` reads it
abbrev pub row_at : (type : ValueType) → List ℕ → Result Row RowFault
row_at type text =
    elim (next_record default_config StartRecord [] [] text)
    [ Some read ↦ row_of type read.0 | None ↦ Err fault.Fields ]
