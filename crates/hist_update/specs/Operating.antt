-- One operation over an archive, and several.
use Rattle.std.specs.Prelude.{◌≡◌, ◌≤◌, ◌+◌, min, nat_lt, ℤ, pos, ◌≤ℤ◌, Bool, true, false, List, [], ◌∷◌, map, length, Option, Some, None, IfSome, unwrap_or, Result, Ok, Err, IsErr}
use Rattle.stamp.specs.Limits.{greatest, lift}
use Rattle.ua_binary.specs.declared.codes.Status.{Status}
use Rattle.ua_binary.specs.declared.codes.TheConstants.Status.{BAD_RESOURCE_UNAVAILABLE, BAD_ENCODING_LIMITS_EXCEEDED}
use Rattle.ua_services.specs.declared.updates.HistoryUpdateResult.{HistoryUpdateResult}
use Rattle.ua_variant.specs.DataValue.{IsShortData}
use Rattle.records.specs.Moments.{ticks_of}
use Rattle.records.specs.Contents.{vec, top}
use Rattle.records.specs.Spelling.{fields, longest, is_value_for}
use Rattle.records.specs.declared.record.Record.{Record}
use Rattle.archive.specs.declared.fault.LearnFault.{LearnFault}
use Rattle.archive.specs.declared.fault.LearnFault.TheVariants as learn
use Rattle.archive.specs.declared.setback.StepError.TheVariants as setback
use Rattle.archive.specs.Fault.{step_error_status, mark_of}
use Rattle.archive.specs.Steps.{Refines}
use Rattle.archive.specs.Store.{Store, StepResult, Done, Learns}
use Rattle.hist_update.specs.declared.request.Request.{Request}
use Rattle.hist_update.specs.declared.operate.OperationError.{OperationError}
use Rattle.hist_update.specs.declared.operate.OperationError.TheVariants as undone
use Rattle.hist_update.specs.declared.operate.ChangePlace.{ChangePlace}
use Rattle.hist_update.specs.Outcome.{Operation, DeleteAt, Change, change_by, is_live, conflict, record_by}
use Rattle.archive.specs.Growth.{id_length}
use Rattle.hist_update.specs.Updates.{update_one, update_all, begin, listing_refusal, delete_listed, AreEnded, needs_store, needs_of}

-- ---- one operation

-- what comes in an operation's way where the archive doesn't learn its record
abbrev pub of_learn : LearnFault → OperationError
of_learn (learn.Store fault) = undone.Failed (setback.Store fault)
of_learn fault = undone.Refused BAD_RESOURCE_UNAVAILABLE

-- the status that a client is told of an operation
abbrev pub code_told : Result Status OperationError → Status
code_told (Ok code) = code
code_told (Err (undone.Refused code)) = code
code_told (Err (undone.Failed cause)) = step_error_status cause

-- what came in its way
abbrev pub mark_in : Result Status OperationError → StepResult
mark_in (Ok code) = Done
mark_in (Err (undone.Refused code)) = Done
mark_in (Err (undone.Failed cause)) = mark_of cause

-- it was done, or refused, or something came in its way
pub record Operates (old new : Store) (request : Request) (operation : Operation)
    (result : Result Status OperationError) : Type 0 where
  pub acts : Refines old new (mark_in result ∷ []) (update_one old.own request operation)
      (code_told result)
  pub ended : old.broken ≡ true → mark_in result ≡ Done
      → IsErr (change_by request old.own operation)

-- ---- how it is done

-- what the archive told of the place of a change
pub record IsChangePlace (old : Store) (request : Request) (time : ℤ)
    (place : ChangePlace) : Type 0 where
  pub live : place.live ≡ is_live old.content request.node time
  pub origin : place.origin ≡ old.own
  pub number : place.number ≡ min (vec old.content old.own + 1) greatest
  pub tick : place.tick ≡ lift request.reading (top old.content)

-- its number is one that a record may have
abbrev pub IsNumber : ChangePlace → Type 0
IsNumber place = (1 ≤ place.number) × (place.number ≤ greatest)

-- the record that is made of a change and its place, also where no tick is left
abbrev pub candidate_of : Request → ChangePlace → Change → Record
candidate_of request place change =
    record_by request place.origin place.number (unwrap_or place.tick (pos greatest)) change

-- lawful but for its size, and for what each value of its type is
pub record IsDraft (r : Record) : Type 0 where
  pub number : (1 ≤ r.number) × (r.number ≤ greatest)
  pub node : id_length r.node ≤ 256
  pub time : pos 1 ≤ℤ ticks_of r.time
  pub user : length r.user ≤ 256
  pub value : IsShortData r.value
  pub suits : is_value_for r.asked r.value ≡ true

-- its bytes are more than a record may have
abbrev pub is_long : Record → Bool
is_long r = nat_lt longest (length (fields.canon r))

-- what is told where no tick is left
abbrev pub tick_refusal : Option ℤ → Option Status
tick_refusal None = Some BAD_RESOURCE_UNAVAILABLE
tick_refusal (Some tick) = None

-- what is told of a change that isn't made: that its record is too long, before all else; what
-- its details refuse; that no tick is left
abbrev pub refusal_by : Bool → Option Status → Option ℤ → Option Status
refusal_by true refusal tick = Some BAD_ENCODING_LIMITS_EXCEEDED
refusal_by false (Some code) tick = Some code
refusal_by false None tick = tick_refusal tick

-- what is told of the change by this record, where it isn't made
abbrev pub refusal : Record → ChangePlace → Option Status
refusal r place = refusal_by (is_long r) (conflict r.asked place.live) place.tick

-- what an operation is told whose record the archive answered so
abbrev pub told_of : Result Bool LearnFault → Status → Result Status OperationError
told_of (Ok added) code = Ok code
told_of (Err fault) code = Err (of_learn fault)

-- the archive was asked to learn a record, and what it answered is told
abbrev pub Submits : Store → Store → Record → Status → Result Status OperationError → Type 0
Submits old new r code result =
    (answer : Result Bool LearnFault) × Learns old new r answer × (result ≡ told_of answer code)

-- ---- several

-- operations, one after the other, with a mark for each
pub record Operations (old new : Store) (request : Request) (operations : List Operation)
    (codes : List Status) : Type 0 where
  pub used : List StepResult
  pub acts : Refines old new used (update_all old.own request operations) codes
  pub ended : AreEnded old.broken (map (needs_store old.own request) operations) used
  pub marks : length used ≡ length operations
  pub count : length codes ≡ length operations

-- memory for the codes, and then operations
pub record Begins (old new : Store) (request : Request) (status : List Status → Status)
    (operations : List Operation) (result : HistoryUpdateResult) : Type 0 where
  pub used : List StepResult
  pub acts : Refines old new used (begin old.own request status operations) result
  pub ended : AreEnded old.broken (needs_of old.own request operations) used

-- the same, where a listing isn't refused
pub record BeginsListed (old new : Store) (request : Request) (times : List ℤ)
    (result : HistoryUpdateResult) : Type 0 where
  pub used : List StepResult
  pub acts : Refines old new used (delete_listed old.own request times) result
  pub ended : AreEnded old.broken (needs_of old.own request (map DeleteAt times)) used
  pub none : IfSome (listing_refusal times) (λ code. used ≡ [])
