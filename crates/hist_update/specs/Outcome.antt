-- What one operation of an update comes to over a content (Part 11, HistoryUpdate): a code, and the
-- record that it adds, if any.
use Rattle.std.specs.Prelude.{ℕ, ◌≤◌, ◌+◌, nat_lt, ℤ, pos, int_lt, Bool, true, if◌then◌else◌, length, Option, Some, None, is_some, unwrap_or, Result, Ok, Err}
use Rattle.std.specs.Option.{option_and_then, option_map_or, ok_or}
use Rattle.stamp.specs.Limits.{lift}
use Rattle.ua_binary.specs.Format.{◌>>=◌}
use Rattle.ua_binary.specs.declared.values.NodeId.{NodeId}
use Rattle.ua_variant.specs.Variant.{has_type}
use Rattle.ua_variant.specs.declared.data.DataValue.{DataValue}
use Rattle.ua_variant.specs.declared.value.Variant.{Variant}
use Rattle.ua_variant.specs.declared.value.ValueType.{ValueType}
use Rattle.records.specs.Contents.{Content, vec, top, put}
use Rattle.records.specs.Records.{live_value, is_delete}
use Rattle.records.specs.Moments.{moment, ticks_of}
use Rattle.records.specs.Spelling.{empty, fields, longest}
use Rattle.records.specs.declared.record.Record.{Record}
use Rattle.ua_variant.specs.declared.update_type.HistoryUpdateType.{HistoryUpdateType}
use Rattle.ua_variant.specs.declared.update_type.HistoryUpdateType.TheVariants.{Delete}
use Rattle.archive.specs.Growth.{id_length, is_possible}
use Rattle.hist_update.specs.declared.request.Request.{Request}
use Rattle.ua_binary.specs.declared.codes.Status.{Status}
use Rattle.ua_binary.specs.declared.codes.TheConstants.Status.{GOOD, GOOD_ENTRY_INSERTED, GOOD_ENTRY_REPLACED, BAD_RESOURCE_UNAVAILABLE, BAD_ENCODING_LIMITS_EXCEEDED, BAD_INVALID_TIMESTAMP, BAD_TYPE_MISMATCH, BAD_ENTRY_EXISTS, BAD_NO_ENTRY_EXISTS}

-- a write of one value to a node of this type, or a delete at one moment
pub data Operation : Type 0 where
  Write : (asked : HistoryUpdateType) → ValueType → DataValue → Operation
  DeleteAt : ℤ → Operation

-- what is to be changed, once that is clear
abbrev pub Change : Type 0
Change = record { time : ℤ; asked : HistoryUpdateType; value : DataValue }

-- the record of a change, made by this replica, with this number and tick
abbrev pub record_by : Request → ℕ → ℕ → ℤ → Change → Record
record_by request own number tick change =
    record {
      origin = own;
      number = number;
      tick = tick;
      node = request.node;
      time = change.time;
      asked = change.asked;
      user = request.user;
      value = change.value;
    }

-- what a caller sees to: the node's id and the user's name have at most 256 bytes each
pub record IsRequest (request : Request) : Type 0 where
  pub node : id_length request.node ≤ 256
  pub user : length request.user ≤ 256

-- ---- what is refused whatever is held

-- the picoseconds, 0 where there are none
abbrev pub source_pico : DataValue → ℕ
source_pico v = unwrap_or v.source_pico 0

-- the moment, where there is a source time of at least 1
abbrev pub source_time : DataValue → Option ℤ
source_time v =
    option_and_then
    (λ t. if int_lt t.0 (pos 1) then None else Some (moment t.0 (source_pico v))) v.source_time

-- a value that isn't there fits each type, as a null one does
abbrev pub fits_type : ValueType → Option Variant → Bool
fits_type type given = elim given [ None ↦ true | Some v ↦ has_type v type ]

-- the record has the source time, and so its value doesn't
abbrev pub writing : HistoryUpdateType → DataValue → ℤ → Change
writing asked v time =
    record { time = time; asked = asked; value = record v { source_time = None } }

-- the source time of a value that may be written to a node of this type
abbrev pub time_judged : ValueType → DataValue → Result ℤ Status
time_judged type v =
    ok_or (source_time v) BAD_INVALID_TIMESTAMP >>= λ time. if fits_type type v.value then Ok time
    else Err BAD_TYPE_MISMATCH

-- a change whose record fits into a frame, or that it doesn't
abbrev pub checked_size : Request → ℕ → Change → Result Change Status
checked_size request own change =
    if nat_lt longest (length (fields.canon (record_by request own 1 (pos 1) change)))
    then Err BAD_ENCODING_LIMITS_EXCEEDED else Ok change

-- the change that an operation asks for
abbrev pub change_by : Request → ℕ → Operation → Result Change Status
change_by request own (Write asked type v) =
    time_judged type v >>= λ time. checked_size request own (writing asked v time)
change_by request own (DeleteAt time) =
    if int_lt (ticks_of time) (pos 1) then Err BAD_INVALID_TIMESTAMP
    else Ok (record { time = time; asked = Delete; value = empty })

-- ---- what a content makes of it

-- what one operation comes to: it is refused, or adds a record, with this status each
pub data Outcome : Type 0 where
  Refused : Status → Outcome
  Added : Status → Record → Outcome

-- an insert onto a live value, and a replacement or a delete of none, are not possible
abbrev pub conflict : HistoryUpdateType → (live : Bool) → Option Status
conflict asked live =
    if is_possible asked live then None
    else Some (if live then BAD_ENTRY_EXISTS else BAD_NO_ENTRY_EXISTS)

-- the status of an operation that was done, by whether a value was live before (Part 11, 6.8.2)
abbrev pub done : HistoryUpdateType → (live : Bool) → Status
done asked live =
    if is_delete asked then GOOD else if live then GOOD_ENTRY_REPLACED else GOOD_ENTRY_INSERTED

-- a value is live at a node and time
abbrev pub is_live : Content → NodeId → ℤ → Bool
is_live R node time = is_some (live_value R node time)

-- a change is made, unless it isn't possible or no tick is left: its record is its origin's next,
-- with the tick that follows all that are held
abbrev pub checked_change : Content → ℕ → Request → Change → (live : Bool) → Option Status → Outcome
checked_change R own request change live given = option_map_or Refused given (
    option_map_or
    (λ tick. Added (done change.asked live) (record_by request own (vec R own + 1) tick change))
    (lift request.reading (top R)) (Refused BAD_RESOURCE_UNAVAILABLE))

-- why it is refused, or the record to add
abbrev pub outcome : Content → ℕ → Request → Operation → Outcome
outcome R own request operation =
    elim (change_by request own operation) [
      | Err code ↦ Refused code
      | Ok change ↦ checked_change R own request change (is_live R request.node change.time)
          (conflict change.asked (is_live R request.node change.time))
    ]

-- the status that tells an outcome
abbrev pub code_in : Outcome → Status
code_in outcome = elim outcome [ Refused code ↦ code | Added code r ↦ code ]

-- the content that it leaves
abbrev pub content_after : Content → Outcome → Content
content_after R outcome = elim outcome [ Refused code ↦ R | Added code r ↦ put r R ]
