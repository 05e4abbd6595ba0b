-- What the response to a HistoryUpdate tells, and what is held for it (Part 4, 5.11.5).
use Rattle.std.specs.Prelude.{◌≡◌, ◌⊎◌, ℕ, Bool, List, [], ◌∷◌, map, slice_get, Some, Ok}
use Rattle.ua_binary.specs.declared.codes.Status.{Status}
use Rattle.ua_binary.specs.declared.values.NodeId.{NodeId}
use Rattle.ua_binary.specs.declared.values.Ticks.{Ticks}
use Rattle.ua_variant.specs.declared.value.ValueType.{ValueType}
use Rattle.ua_services.specs.Updates.{Details, UpdateData, DeleteRawModified, DeleteAtTime, Other}
use Rattle.ua_services.specs.declared.updates.HistoryUpdateResult.{HistoryUpdateResult}
use Rattle.records.specs.Contents.{Content}
use Rattle.hist_update.specs.Codes.{asked_by}
use Rattle.hist_update.specs.Outcome.{Operation, DeleteAt}
use Rattle.hist_update.specs.Updates.{writes, deletes_at, live_times_in}
use Rattle.hist_update.specs.Laws.{IsGood, HasRecordOf, AddsFor}
use Rattle.historian.specs.Updating.{node_asked, type_granted, asked_for}
use Rattle.historian.specs.UserSpaces.{UserSpace}

-- the operations that details ask of a variable of this type where this is held: its values, the
-- times to delete at, or those of the live values in the stretch to delete
abbrev pub operations_of : ValueType → Content → Details → List Operation
operations_of type R (UpdateData (node, (perform, values))) = writes (asked_by perform) type values
operations_of type R (DeleteRawModified (node, (modified, (start, finish)))) =
    map DeleteAt (live_times_in R node start.0 finish.0)
operations_of type R (DeleteAtTime (node, times)) = deletes_at times
operations_of type R Other = []

-- where a user asked at this moment for the details, over R, each operation whose code is Good in
-- the result was granted to that user, and has its record in S, one that is new after R
pub record IsHeldFor (own : ℕ) (seen : UserSpace) (user : List ℕ) (now : Ticks) (R : Content)
    (details : Details) (result : HistoryUpdateResult) (S : Content) : Type 0 where
  pub held : (k : ℕ) (code : Status) → slice_get result.operation_results k ≡ Some code
      → IsGood code
      → (node : NodeId) × (type : ValueType) × (operation : Operation)
      × (node_asked details ≡ Some node) × (type_granted seen (Some node) ≡ Ok type)
      × (slice_get (operations_of type R details) k ≡ Some operation)
      × HasRecordOf R S (asked_for user now node) own operation

-- these details added what their result tells, over R: a record for each operation whose code is
-- Good, one after the other, and for one that broke the store where a record may stand after a
-- break, and nothing else; or they were refused, and added nothing
abbrev pub AddsFrom : (may : Bool) → ℕ → UserSpace → List ℕ → Ticks → Content → Details
    → HistoryUpdateResult → Content → Type 0
AddsFrom may own seen user now R details result S =
    ((node : NodeId) × (type : ValueType) × (node_asked details ≡ Some node)
    × (type_granted seen (Some node) ≡ Ok type)
    × AddsFor may (asked_for user now node) own (operations_of type R details) result R S)
    ⊎ ((result.operation_results ≡ []) × (S ≡ R))

-- so did all of them, each after those before it
abbrev pub AddsAll : (may : Bool) → ℕ → UserSpace → List ℕ → Ticks → List Details
    → List HistoryUpdateResult → Content → Content → Type 0
AddsAll may own seen user now [] results R S = (results ≡ []) × (S ≡ R)
AddsAll may own seen user now (details ∷ more) [] R S = ⊥
AddsAll may own seen user now (details ∷ more) (result ∷ results) R S =
    (T : Content) × AddsFrom may own seen user now R details result T
    × AddsAll may own seen user now more results T S
