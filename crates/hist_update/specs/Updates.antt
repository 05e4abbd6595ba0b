-- Updates over a content, by what comes in the way of their steps (Part 11, HistoryUpdate).
use Rattle.std.specs.Prelude.{◌≡◌, ◌||◌, ℕ, ℤ, ◌-ℤ◌, pos, int_lt, Bool, true, false, if◌then◌else◌, List, [], ◌∷◌, map, length, nat_lt, Option, Some, None, unwrap_or, is_ok, ⊤}
use Rattle.std.specs.Ordering.{int_eq}
use Rattle.std.specs.Option.{option_map_or}
use Rattle.ua_binary.specs.declared.codes.Status.{Status}
use Rattle.ua_binary.specs.declared.codes.TheConstants.Status.{GOOD, BAD_HISTORY_OPERATION_INVALID, BAD_NO_DATA, BAD_TOO_MANY_OPERATIONS, BAD_HISTORY_OPERATION_UNSUPPORTED, BAD_INVALID_TIMESTAMP_ARGUMENT}
use Rattle.ua_binary.specs.declared.values.NodeId.{NodeId}
use Rattle.ua_binary.specs.declared.values.Ticks.{Ticks}
use Rattle.ua_variant.specs.declared.data.DataValue.{DataValue}
use Rattle.ua_variant.specs.declared.value.ValueType.{ValueType}
use Rattle.ua_variant.specs.declared.update_type.HistoryUpdateType.{HistoryUpdateType}
use Rattle.ua_services.specs.declared.updates.HistoryUpdateResult.{HistoryUpdateResult}
use Rattle.records.specs.Moments.{moment}
use Rattle.records.specs.Contents.{Content}
use Rattle.archive.specs.declared.reading.Direction.TheVariants.{Forward}
use Rattle.archive.specs.Fault.{status_told}
use Rattle.archive.specs.Reading.{range_of}
use Rattle.archive.specs.Steps.{Fallible, give, step, memory, and_then, each}
use Rattle.archive.specs.Store.{StepResult, Done, RecordStands, breaks}
use Rattle.hist_update.specs.declared.request.Request.{Request}
use Rattle.hist_update.specs.Codes.{asked_by, list_refusal, first_other}
use Rattle.hist_update.specs.Outcome.{Operation, Write, DeleteAt, Outcome, change_by, outcome, code_in, content_after}

-- ---- operations

-- the status of an operation, by the result of its step
abbrev pub code_by : Outcome → StepResult → Status
code_by o mark = unwrap_or (status_told mark) (code_in o)

-- an operation that something came in the way of changes nothing, but where the store broke and its
-- record stands
abbrev pub left_by : Content → Outcome → StepResult → Content
left_by R o mark = elim mark [ Done ↦ content_after R o | RecordStands ↦ content_after R o | _ ↦ R ]

-- one operation is one step: its code, and what it leaves
abbrev pub update_one : ℕ → Request → Operation → Content → Fallible (Status × Content)
update_one own request operation R =
    step
    (λ mark. (
      code_by (outcome R own request operation) mark,
      left_by R (outcome R own request operation) mark,
    ))

-- a list of them, each over what those before it left
abbrev pub update_all : ℕ → Request → List Operation → Content → Fallible (List Status × Content)
update_all own request = each (update_one own request)

-- ---- whole updates

-- what an update is answered, and what it leaves
abbrev pub Updated : Type 0
Updated = HistoryUpdateResult × Content

-- refused as a whole
abbrev pub refused_update : Status → HistoryUpdateResult
refused_update code = record { status = code; operation_results = [] }

-- where there is no reason to refuse it, it goes on
abbrev pub unless : Option Status → Content → Fallible Updated → Fallible Updated
unless given R more = elim given [ Some code ↦ give (refused_update code, R) | None ↦ more ]

-- a step first: what is told of what comes in its way refuses the update as a whole, and else it
-- goes on
abbrev pub past : Fallible (Option Status) → Content → Fallible Updated → Fallible Updated
past first R more = and_then first (λ reason. unless reason R more)

-- a step for the memory of the codes, and then the operations
abbrev pub begin : ℕ → Request → (List Status → Status) → List Operation → Content
    → Fallible Updated
begin own request status operations R =
    past memory R
    (and_then (update_all own request operations R)
    (λ p. give (record { status = status p.0; operation_results = p.0 }, p.1)))

-- ---- writes of values (Part 11, UpdateDataDetails)

-- why they are refused as a whole
abbrev pub data_refusal : Option HistoryUpdateType → ℕ → Option Status
data_refusal asked count =
    option_map_or (λ _. list_refusal 1000 count) asked (Some BAD_HISTORY_OPERATION_INVALID)

-- a write of each value, where it is known how
abbrev pub writes : Option HistoryUpdateType → ValueType → List DataValue → List Operation
writes asked type values = option_map_or (λ kind. map (Write kind type) values) asked []

-- UpdateDataDetails (Part 11, 6.8.2), of a variable of this type
abbrev pub update_data : ℕ → Request → ValueType → ℤ → List DataValue → Content → Fallible Updated
update_data own request type perform values R =
    unless (data_refusal (asked_by perform) (length values)) R
    (begin own request (λ codes. GOOD) (writes (asked_by perform) type values) R)

-- ---- deletes at source times, without picoseconds (Part 11, DeleteAtTimeDetails)

-- a delete at each of the times
abbrev pub deletes_at : List Ticks → List Operation
deletes_at times = map (λ t. DeleteAt (moment t.0 0)) times

-- DeleteAtTimeDetails (Part 11, 6.8.6): at most 1,000 times
abbrev pub delete_at : ℕ → Request → List Ticks → Content → Fallible Updated
delete_at own request times R =
    unless (list_refusal 1000 (length times)) R
    (begin own request (λ codes. GOOD) (deletes_at times) R)

-- ---- deletes of all values of a stretch of time (Part 11, DeleteRawModifiedDetails)

-- the last moment of the stretch from start up to but without end; of one whose start and end are
-- equal, the last one of that time
abbrev pub last_moment_of_range : ℤ → ℤ → ℤ
last_moment_of_range start end_ = moment (if int_eq start end_ then end_ else end_ -ℤ pos 1) 9999

-- the moments of the node's live values from start up to but without end
abbrev pub live_times_in : Content → NodeId → ℤ → ℤ → List ℤ
live_times_in R node start end_ =
    map (λ h. h.time) (range_of R node (moment start 0) (last_moment_of_range start end_) Forward)

-- why it is refused by what it says itself
abbrev pub stretch_refusal : Bool → ℤ → ℤ → Option Status
stretch_refusal modified start end_ =
    if modified then Some BAD_HISTORY_OPERATION_UNSUPPORTED
    else if int_lt start (pos 1) || int_lt end_ start then Some BAD_INVALID_TIMESTAMP_ARGUMENT
    else None

-- why it is refused for what was listed
abbrev pub listing_refusal : List ℤ → Option Status
listing_refusal list =
    elim list [
      | [] ↦ Some BAD_NO_DATA
      | t ∷ times ↦ if nat_lt 1000 (length (t ∷ times)) then Some BAD_TOO_MANY_OPERATIONS else None
    ]

-- the moments that were listed are deleted at, and the first code that isn't Good is the status
abbrev pub delete_listed : ℕ → Request → List ℤ → Content → Fallible Updated
delete_listed own request times R =
    unless (listing_refusal times) R (begin own request first_other (map DeleteAt times) R)

-- a step for the listing, and then the deletes
abbrev pub delete_raw : ℕ → Request → Bool → Ticks → Ticks → Content → Fallible Updated
delete_raw own request modified start end_ R =
    unless (stretch_refusal modified start.0 end_.0) R
    (past (step status_told) R
    (delete_listed own request (live_times_in R request.node start.0 end_.0) R))

-- ---- a broken store

-- of some steps, of which it is known whether each needs the store: once it is broken, one that
-- needs it has something in its way
abbrev pub AreEnded : Bool → List Bool → List StepResult → Type 0
AreEnded broken [] marks = ⊤
AreEnded broken (needs ∷ steps) [] = ⊤
AreEnded broken (needs ∷ steps) (mark ∷ marks) =
    (broken ≡ true → mark ≡ Done → needs ≡ false) × AreEnded (broken || breaks mark) steps marks

-- an operation needs it where what it says itself doesn't refuse it
abbrev pub needs_store : ℕ → Request → Operation → Bool
needs_store own request operation = is_ok (change_by request own operation)

-- the step for memory needs none
abbrev pub needs_of : ℕ → Request → List Operation → List Bool
needs_of own request operations = false ∷ map (needs_store own request) operations

-- the listing needs it
abbrev pub needs_of_stretch : ℕ → Request → Ticks → Ticks → Content → List Bool
needs_of_stretch own request start end_ R =
    true ∷ needs_of own request (map DeleteAt (live_times_in R request.node start.0 end_.0))
