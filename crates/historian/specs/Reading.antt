-- Reads of attributes (Part 4, 5.11.2) and of history (Part 4, 5.11.3).
use Rattle.std.specs.Prelude.{◌≡◌, ◌==◌, ◌&&◌, ◌||◌, not, nat_eq, nat_le, ℕ, Bool, true, false, if◌then◌else◌, List, [], ◌∷◌, length, codes, Option, Some, None, is_some, unwrap_or, Result, Ok, Err}
use Rattle.std.specs.Cmp.Lexicographic.{pointwise}
use Rattle.ua_binary.specs.declared.codes.Status.{Status}
use Rattle.ua_binary.specs.declared.codes.TheConstants.Status.{GOOD, BAD_NODE_ID_UNKNOWN, BAD_INDEX_RANGE_INVALID, BAD_DATA_ENCODING_UNSUPPORTED, BAD_WAITING_FOR_INITIAL_DATA, BAD_TIMESTAMPS_TO_RETURN_INVALID, BAD_HISTORY_OPERATION_UNSUPPORTED, BAD_OUT_OF_MEMORY}
use Rattle.ua_binary.specs.declared.values.NodeId.{NodeId}
use Rattle.ua_binary.specs.declared.values.QualifiedName.{QualifiedName}
use Rattle.ua_binary.specs.declared.values.Ticks.{Ticks}
use Rattle.ua_binary.specs.Format.{◌>>=◌, IsOrStarved}
use Rattle.ua_binary.specs.Rules.{checked}
use Rattle.ua_variant.specs.declared.data.DataValue.{DataValue}
use Rattle.ua_variant.specs.declared.value.Variant.{Variant}
use Rattle.ua_services.specs.Attributes.{ReadFields, ReadAsked}
use Rattle.ua_services.specs.History.{HistoryReadFields, HistoryAsked}
use Rattle.ua_services.specs.declared.attributes.TimestampsToReturn.{TimestampsToReturn}
use Rattle.ua_services.specs.declared.attributes.TimestampsToReturn.TheVariants.{Neither}
use Rattle.ua_services.specs.declared.history.HistoryReadDetails.{HistoryReadDetails}
use Rattle.ua_services.specs.declared.history.HistoryReadDetails.TheVariants.{ReadRawModified, Other}
use Rattle.ua_services.specs.declared.history.HistoryReadResult.{HistoryReadResult}
use Rattle.ua_services.specs.declared.history.HistoryData.TheVariants.{Nothing}
use Rattle.ua_space.specs.declared.attributes.Answered.{Answered}
use Rattle.ua_space.specs.declared.attributes.Answered.TheVariants.{Value, Archived}
use Rattle.ua_space.specs.declared.layout.Layout.{Layout}
use Rattle.ua_space.specs.Space.{node_at, value_type_at}
use Rattle.records.specs.Contents.{Content}
use Rattle.records.specs.Spelling.{empty}
use Rattle.archive.specs.declared.reading.Direction.TheVariants.{Backward}
use Rattle.archive.specs.Fault.{status_told}
use Rattle.archive.specs.Reading.{range_of}
use Rattle.archive.specs.Steps.{Fallible, give, step, memory, and_then, each}
use Rattle.hist_read.specs.Asking.{first_time}
use Rattle.hist_read.specs.Reads.{greatest_time}
use Rattle.hist_read.specs.Showing.{at_time, with_status, with_stamps}
use Rattle.hist_read.specs.Node.{read_node, refused_read}
use Rattle.hist_read.specs.declared.query.Query.{Query}
use Rattle.historian.specs.Answers.{Answer, Response, Values, Histories}
use Rattle.historian.specs.UserSpaces.{UserSpace, seen_attribute}
use Rattle.hist_update.specs.Codes.{list_refusal}

-- ---- lists of items

-- what a service of an archive comes to: its response, and the content that it leaves
abbrev pub Served : Type 0
Served = Fallible (Response × Content)

-- where there is no reason to refuse the service, it goes on
abbrev pub unless_refused : Option Status → Content → Served → Served
unless_refused given R more = elim given [ Some status ↦ give (Err status, R) | None ↦ more ]

-- one step for the memory of the answers, and then the items in order, each over what those before
-- it left
abbrev pub answer_items : {X Y : Type 0} → (List Y → Answer)
    → (X → Content → Fallible (Y × Content)) → List X → Content → Served
answer_items answer item xs R =
    and_then memory
    (λ reason.
    unless_refused reason R (and_then (each item xs R) (λ p. give (Ok (answer p.0), p.1))))

-- ---- what is refused of an item, whichever node it is of

-- a text that is null or empty; as an index range it stands for the whole value
abbrev pub is_null_or_empty : Option (List ℕ) → Bool
is_null_or_empty given = elim given [ None ↦ true | Some [] ↦ true | Some (byte ∷ bytes) ↦ false ]

-- the default encoding; the namespace isn't looked at
abbrev pub is_default : QualifiedName → Bool
is_default name =
    is_null_or_empty name.name || pointwise nat_eq (unwrap_or name.name []) (codes "Default Binary")

-- no range of an index, and no encoding but the default
abbrev pub value_rules : Option (List ℕ) → QualifiedName → List (Bool × Status)
value_rules range encoding =
    (is_null_or_empty range, BAD_INDEX_RANGE_INVALID)
    ∷ (is_default encoding, BAD_DATA_ENCODING_UNSUPPORTED)
    ∷ []

-- ---- Read

-- a value that no archive keeps: as the attribute Value, which is 13, it is of the moment of the
-- read, and else it has no moment of its own
abbrev pub valued : Ticks → ℕ → Variant → DataValue
valued now attribute value =
    record empty { value = Some value; source_time = if attribute == 13 then Some now else None }

-- the value of an archived variable is the live one of the greatest source time
abbrev pub latest : NodeId → Content → Result DataValue Status
latest node R =
    elim (range_of R node first_time greatest_time Backward)
    [ [] ↦ Err BAD_WAITING_FOR_INITIAL_DATA | h ∷ held ↦ Ok (at_time h.time h.value) ]

-- what gives the value of an item: by node and attribute, then index range, then data encoding
abbrev pub item_at : UserSpace → ReadFields → Result Answered Status
item_at seen (node, (attribute, (range, encoding))) =
    seen_attribute seen node attribute >>= λ answered. checked (value_rules range encoding)
    >>= λ _. Ok answered

-- what gives the value of an item was found so: by its attribute, or want of memory for that, and
-- then
-- by its range and encoding
abbrev pub FindsItem : UserSpace → ReadFields → Result Answered Status → Type 0
FindsItem seen (node, (attribute, (range, encoding))) found =
    (read : Result Answered Status)
    × IsOrStarved BAD_OUT_OF_MEMORY (seen_attribute seen node attribute) read
    × (found ≡ (read >>= λ answered. checked (value_rules range encoding) >>= λ _. Ok answered))

-- what came in the way of an item is told in the place of its value
abbrev pub unless_met : Option Status → Result DataValue Status → Result DataValue Status
unless_met given value = elim given [ Some status ↦ Err status | None ↦ value ]

-- a refused item is its status alone; others have the moments that are wanted, where that of the
-- server is the moment of the read
abbrev pub item_told : TimestampsToReturn → Ticks → Result DataValue Status → DataValue
item_told stamps now result =
    elim result [
      | Err status ↦ with_status (Some status) empty
      | Ok value ↦ with_stamps stamps (record value { server_time = Some now; server_pico = None })
    ]

-- what a value comes to, by what is told of what comes in its way, in one step
abbrev pub value_step : Fallible (Option Status) → (Content → Result DataValue Status) → Content
    → Fallible (Result DataValue Status × Content)
value_step told value R = and_then told (λ reason. give (unless_met reason (value R), R))

-- the attribute that an item asks for
abbrev pub attribute_of : ReadFields → ℕ
attribute_of (node, (attribute, more)) = attribute

-- what an item gives: an attribute's value now, or the latest value that is archived
abbrev pub value_of_item : UserSpace → Ticks → ReadFields → Content → Result DataValue Status
value_of_item seen now item R =
    item_at seen item >>= λ v.
    elim v [ Value value ↦ Ok (valued now (attribute_of item) value) | Archived ↦ latest item.0 R ]

-- each item is one step
abbrev pub read_item : UserSpace → Ticks → TimestampsToReturn → ReadFields → Content
    → Fallible (DataValue × Content)
read_item seen now stamps item R =
    and_then (elim (item_at seen item) [ Ok Archived ↦ step status_told | _ ↦ memory ]) (λ reason.
    give (item_told stamps now (unless_met reason (value_of_item seen now item R)), R))

-- 1,000 items at most
abbrev pub read : UserSpace → Ticks → ReadAsked → Content → Served
read seen now asked R = unless_refused (list_refusal 1000 (length asked.1)) R (
    elim asked.0 [
      | None ↦ give (Err BAD_TIMESTAMPS_TO_RETURN_INVALID, R)
      | Some stamps ↦ answer_items Values (read_item seen now stamps) asked.1 R
    ])

-- ---- HistoryRead

-- of a node that is archived; then as of other values
abbrev pub history_rules : Layout → HistoryReadFields → List (Bool × Status)
history_rules space (node, (range, (encoding, point))) =
    (is_some (node_at space node), BAD_NODE_ID_UNKNOWN)
    ∷ (is_some (value_type_at space node), BAD_HISTORY_OPERATION_UNSUPPORTED)
    ∷ value_rules range encoding

-- where continuation points are only given back, what isn't refused shows nothing
abbrev pub released : Bool → HistoryReadResult → HistoryReadResult
released release result =
    if release && not (nat_le 2147483648 result.status.0)
    then record { status = GOOD; continuation_point = None; history_data = Nothing } else result

-- a node is read, and its point is dropped where that is asked for
abbrev pub read_released : List ℕ → Query → Bool → HistoryReadFields → Content
    → Fallible (HistoryReadResult × Content)
read_released id query release (node, (range, (encoding, point))) R =
    and_then (read_node id node query point R) (λ p. give (released release p.0, p.1))

-- one node of a HistoryRead: its rules first, and then the read
abbrev pub read_history_of : List ℕ → Layout → Query → Bool → HistoryReadFields → Content
    → Fallible (HistoryReadResult × Content)
read_history_of id space query release item R =
    and_then {A = Option Status} (elim (checked (history_rules space item))
    [ Err status ↦ give (Some status) | Ok _ ↦ memory ])
    (λ reason. elim reason
    [ Some status ↦ give (refused_read status, R) | None ↦ read_released id query release item R ])

-- the query that each node is read by, or why all are refused: timestamps are judged first
abbrev pub query_of : HistoryReadDetails → Option TimestampsToReturn → Result Query Status
query_of details None = Err BAD_TIMESTAMPS_TO_RETURN_INVALID
query_of details (Some Neither) = Err BAD_TIMESTAMPS_TO_RETURN_INVALID
query_of Other (Some stamps) = Err BAD_HISTORY_OPERATION_UNSUPPORTED
query_of (ReadRawModified details) (Some stamps) =
    Ok (record { details = details; stamps = stamps })

-- 100 nodes at most
abbrev pub read_history : List ℕ → Layout → HistoryAsked → Content → Served
read_history id space (details, (stamps, (release, nodes))) R =
    unless_refused (list_refusal 100 (length nodes)) R (
    elim (query_of details stamps) [
      | Err status ↦ give (Err status, R)
      | Ok query ↦ answer_items Histories (read_history_of id space query release) nodes R
    ])
