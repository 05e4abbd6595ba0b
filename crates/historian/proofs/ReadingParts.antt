-- Names for parts of the definitions in specs/Reading, for the lemmas on these parts.
use Rattle.std.specs.Prelude.{ℕ, Bool, List, Option, Some, None, Result, Ok, Err, [], ◌∷◌}
use Rattle.ua_binary.specs.declared.codes.Status.{Status}
use Rattle.ua_binary.specs.declared.codes.TheConstants.Status.{BAD_TIMESTAMPS_TO_RETURN_INVALID, BAD_WAITING_FOR_INITIAL_DATA}
use Rattle.ua_binary.specs.declared.values.Ticks.{Ticks}
use Rattle.ua_binary.specs.Format.{◌>>=◌}
use Rattle.ua_variant.specs.declared.data.DataValue.{DataValue}
use Rattle.ua_services.specs.Attributes.{ReadFields}
use Rattle.ua_services.specs.History.{HistoryReadFields}
use Rattle.ua_services.specs.declared.attributes.TimestampsToReturn.{TimestampsToReturn}
use Rattle.ua_services.specs.declared.history.HistoryReadResult.{HistoryReadResult}
use Rattle.ua_space.specs.declared.attributes.Answered.{Answered}
use Rattle.ua_space.specs.declared.attributes.Answered.TheVariants.{Value, Archived}
use Rattle.ua_space.specs.declared.layout.Layout.{Layout}
use Rattle.records.specs.Contents.{Content}
use Rattle.archive.specs.Fault.{status_told}
use Rattle.archive.specs.Steps.{Fallible, give, step, memory, and_then}
use Rattle.hist_read.specs.Node.{read_node, refused_read}
use Rattle.hist_read.specs.declared.query.Query.{Query}
use Rattle.historian.specs.Answers.{Values, Histories}
use Rattle.records.specs.declared.shown.Held.{Held}
use Rattle.hist_read.specs.Showing.{at_time}
use Rattle.historian.specs.UserSpaces.{UserSpace}
use Rattle.historian.specs.Reading.{Served, item_at, answer_items, latest, read_history_of, read_item, released, valued}

abbrev pub histories_by : List ℕ → Layout → Bool → List HistoryReadFields → Content
    → Result Query Status → Served
histories_by id space release nodes R result =
    elim result [
      | Err status ↦ give (Err status, R)
      | Ok query ↦
          answer_items Histories (read_history_of id space query release) nodes R
    ]

-- one step for the memory of the node's id, and then the read of the node
abbrev pub history_by : List ℕ → Query → Bool → HistoryReadFields → Content
    → Result (Unit {0}) Status → Fallible (HistoryReadResult × Content)
history_by id query release item R result =
    and_then {A = Option Status} (elim result [ Err status ↦ give (Some status) | Ok _ ↦ memory ])
    (λ reason.
    elim reason [
      | Some status ↦ give (refused_read status, R)
      | None ↦
          and_then (read_node id item.0 query item.1.1.1 R) (λ p. give (released release p.0, p.1))
    ])

abbrev pub read_by : UserSpace → Ticks → Option TimestampsToReturn → List ReadFields → Content → Served
read_by space now given nodes R = elim given [
  | None ↦
      give (Err BAD_TIMESTAMPS_TO_RETURN_INVALID, R)
  | Some stamps ↦
      answer_items Values (read_item space now stamps) nodes R
]

-- want of memory may come in the way of any item, and a fault of the store where the archive gives
-- the value
abbrev pub telling : Result Answered Status → Fallible (Option Status)
telling answered = elim answered [ Ok Archived ↦ step status_told | _ ↦ memory ]

abbrev pub value_of : Ticks → ReadFields → Content → Answered → Result DataValue Status
value_of now item R v = elim v [
  | Value value ↦ Ok (valued now item.1.0 value)
  | Archived ↦
      latest item.0 R
]

abbrev pub item_value : Ticks → UserSpace → ReadFields → Content → Result DataValue Status
item_value now space item R = item_at space item >>= λ v.
    elim v [ Value value ↦ Ok (valued now item.1.0 value) | Archived ↦ latest item.0 R ]

-- a live value as it is stored, with its source time
abbrev pub stored : List Held → Result DataValue Status
stored list = elim list [
  | [] ↦ Err BAD_WAITING_FOR_INITIAL_DATA
  | h ∷ held ↦
      Ok (at_time h.time h.value)
]
