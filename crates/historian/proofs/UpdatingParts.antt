-- Names for parts of the definitions in specs/Updating, for the lemmas on these parts.
use Rattle.std.specs.Prelude.{ℕ, Option, Some, None, Result, Ok, Err}
use Rattle.ua_binary.specs.declared.codes.Status.{Status}
use Rattle.ua_binary.specs.declared.values.NodeId.{NodeId}
use Rattle.ua_variant.specs.declared.value.ValueType.{ValueType}
use Rattle.ua_services.specs.Updates.{Details}
use Rattle.records.specs.Contents.{Content}
use Rattle.archive.specs.Steps.{Fallible, give, memory, and_then}
use Rattle.hist_update.specs.declared.request.Request.{Request}
use Rattle.hist_update.specs.Updates.{Updated, refused_update}
use Rattle.historian.specs.Updating.{update_of}

abbrev pub updated_unless : ℕ → (NodeId → Request) → ValueType → Details → Content → Option Status
    → Fallible Updated
updated_unless own request type details R given =
    elim given [
      | Some status ↦ give (refused_update status, R)
      | None ↦
          update_of own request type details R
    ]

-- one step for the memory of the request, and then the update
abbrev pub update_by : ℕ → (NodeId → Request) → Details → Content → Result ValueType Status
    → Fallible Updated
update_by own request details R result =
    elim result [
      | Err status ↦ give (refused_update status, R)
      | Ok type ↦
          and_then memory (λ given. elim given [
            | Some status ↦ give (refused_update status, R)
            | None ↦
                update_of own request type details R
          ])
    ]
