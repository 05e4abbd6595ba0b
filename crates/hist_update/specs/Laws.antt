-- What is said of updates in general.
use Rattle.std.specs.Prelude.{◌≡◌, ◌⊎◌, ℕ, ◌≤◌, ◌<◌, ℤ, pos, ◌≤ℤ◌, ◌<ℤ◌, Bool, false, true, List, [], ◌∷◌, slice_get, Some, Ok}
use Rattle.std.specs.Int.{w64, int_min}
use Rattle.std.specs.Int.RustNames.{FitsSigned}
use Rattle.std.specs.List.{AllByRecursion}
use Rattle.std.specs.Str.{is_utf8}
use Rattle.stamp.specs.Limits.{greatest}
use Rattle.ua_binary.specs.Binary.{IsNodeId}
use Rattle.ua_binary.specs.declared.codes.Status.{Status}
use Rattle.ua_binary.specs.declared.values.NodeId.{NodeId}
use Rattle.ua_services.specs.declared.updates.HistoryUpdateResult.{HistoryUpdateResult}
use Rattle.ua_variant.specs.DataValue.{IsDataValue}
use Rattle.records.specs.Moments.{ticks_of}
use Rattle.records.specs.Contents.{Content, put}
use Rattle.records.specs.Lists.{Has}
use Rattle.records.specs.Records.{is_delete}
use Rattle.records.specs.declared.record.Record.{Record}
use Rattle.archive.specs.declared.fault.StoreFault.TheVariants.{Broken}
use Rattle.archive.specs.Fault.{store_fault_status}
use Rattle.archive.specs.Store.{StepResult, RecordStands}
use Rattle.hist_update.specs.declared.request.Request.{Request}
use Rattle.hist_update.specs.Outcome.{Operation, Write, DeleteAt, change_by, is_live}

-- the severity of a code is that of its two highest bits (Part 4, 7.39)
abbrev pub IsBad : Status → Type 0
IsBad code = 2147483648 ≤ code.0

-- the severity of the status is Good (Part 4, 7.39)
abbrev pub IsGood : Status → Type 0
IsGood code = code.0 < 1073741824

-- a record of what the operation asks for, made by this replica for this node and user
pub record IsRecordOf (request : Request) (own : ℕ) (operation : Operation)
    (r : Record) : Type 0 where
  pub origin : r.origin ≡ own
  pub node : r.node ≡ request.node
  pub user : r.user ≡ request.user
  pub change : change_by request own operation
      ≡ Ok (record { time = r.time; asked = r.asked; value = r.value })

-- the operation at this place was answered by this Good code
pub record IsAnsweredGood (operations : List Operation) (codes : List Status) (k : ℕ)
    (operation : Operation) : Type 0 where
  pub asked : slice_get operations k ≡ Some operation
  pub code : Status
  pub told : slice_get codes k ≡ Some code
  pub good : IsGood code

-- it is new behind this content, above every tick that is held there, and of the request's moment
-- or later, as far as ticks go
pub record IsNewBehind (R : Content) (request : Request) (r : Record) : Type 0 where
  pub above : (s : Record) → Has R s → s.tick <ℤ r.tick
  pub timed : int_min request.reading (pos greatest) ≤ℤ r.tick

-- the second content has the record of what the operation asks for, and it is new behind the first
abbrev pub HasRecordOf : (before after : Content) → Request → ℕ → Operation → Type 0
HasRecordOf before after request own operation =
    (r : Record) × Has after r × IsRecordOf request own operation r × IsNewBehind before request r

-- the record of an operation stands behind a break only where this says that one may
abbrev pub MayStandBehindBreak : (may : Bool) → List StepResult → Type 0
MayStandBehindBreak may marks = AllByRecursion (λ mark. mark ≡ RecordStands → may ≡ true) marks

-- the code is Good, or the store broke and the record stands
abbrev pub IsDone : (may : Bool) → Status → Type 0
IsDone may code = IsGood code ⊎ ((may ≡ true) × (code ≡ store_fault_status Broken))

-- One operation after the other: where its code is Bad nothing was added, and where it is Good its
-- record was, which is new behind what was held then; so it may be where the store broke. Nothing
-- else was.
abbrev pub AddsEach : (may : Bool) → Request → ℕ → List Operation → List Status → Content → Content
    → Type 0
AddsEach may request own [] codes R S = (codes ≡ []) × (S ≡ R)
AddsEach may request own (operation ∷ operations) [] R S = ⊥
AddsEach may request own (operation ∷ operations) (code ∷ codes) R S =
    (IsBad code × AddsEach may request own operations codes R S)
    ⊎
    (IsDone may code × (r : Record) × IsRecordOf request own operation r × IsNewBehind R request r
    × AddsEach may request own operations codes (put r R) S)

-- the same of a call's result; one that is refused as a whole has no codes and added nothing
abbrev pub AddsFor : (may : Bool) → Request → ℕ → List Operation → HistoryUpdateResult → Content
    → Content → Type 0
AddsFor may request own operations result R S =
    AddsEach may request own operations result.operation_results R S
    ⊎ ((result.operation_results ≡ []) × (S ≡ R))

-- the request's node and user are such as can be spelled
pub record IsSpelledRequest (request : Request) : Type 0 where
  pub node : IsNodeId request.node
  pub user : is_utf8 request.user ≡ true

-- the operation has what its encoding can carry
abbrev pub IsOperation : Operation → Type 0
IsOperation operation =
    elim operation [
      | Write asked type v ↦ (is_delete asked ≡ false) × IsDataValue v
      | DeleteAt time ↦ FitsSigned w64 (ticks_of time)
    ]

-- the moments from start up to but without end, or all moments of the one time where both are equal
abbrev pub IsInStretch : ℤ → ℤ → ℤ → Type 0
IsInStretch start end_ time =
    (start ≤ℤ ticks_of time)
    × ((ticks_of time <ℤ end_) ⊎ ((start ≡ end_) × (ticks_of time ≡ start)))

-- a live value stands at this time, and a delete of the stretch takes it
abbrev pub IsDoomed : Content → NodeId → ℤ → ℤ → ℤ → Type 0
IsDoomed R node start end_ time = (is_live R node time ≡ true) × IsInStretch start end_ time
