-- HistoryUpdate (Part 4, 5.11.5; Part 11, 6.8).
use Rattle.std.specs.Prelude.{ℕ, List, length, Option, Some, None, Result, Ok, Err}
use Rattle.std.specs.Option.{ok_or}
use Rattle.ua_binary.specs.Format.{◌>>=◌}
use Rattle.ua_binary.specs.declared.codes.Status.{Status}
use Rattle.ua_binary.specs.declared.codes.TheConstants.Status.{BAD_NODE_ID_UNKNOWN, BAD_USER_ACCESS_DENIED, BAD_HISTORY_OPERATION_UNSUPPORTED}
use Rattle.ua_binary.specs.declared.values.NodeId.{NodeId}
use Rattle.ua_binary.specs.declared.values.Ticks.{Ticks}
use Rattle.ua_variant.specs.declared.value.ValueType.{ValueType}
use Rattle.ua_services.specs.Updates.{Details, UpdateData, DeleteRawModified, DeleteAtTime, Other}
use Rattle.ua_session.specs.declared.identity.Access.TheVariants.{Read, Write}
use Rattle.ua_space.specs.declared.layout.Layout.{Layout}
use Rattle.ua_space.specs.Space.{node_at, OfVariable}
use Rattle.records.specs.Contents.{Content}
use Rattle.archive.specs.Steps.{Fallible, give, memory}
use Rattle.hist_update.specs.declared.request.Request.{Request}
use Rattle.hist_update.specs.Updates.{Updated, refused_update, past, update_data, delete_raw, delete_at}
use Rattle.historian.specs.Answers.{Updated as AllUpdated}
use Rattle.hist_update.specs.Codes.{list_refusal}
use Rattle.historian.specs.Reading.{Served, unless_refused, answer_items}
use Rattle.historian.specs.UserSpaces.{UserSpace}

-- the node of which details ask an update; none for details of another type
abbrev pub node_asked : Details → Option NodeId
node_asked details =
    elim details [
      | UpdateData d ↦ Some d.0
      | DeleteRawModified d ↦ Some d.0
      | DeleteAtTime d ↦ Some d.0
      | Other ↦ None
    ]

-- the type of the archived variable of which they ask it, or why it is refused
abbrev pub type_asked : Layout → Option NodeId → Result ValueType Status
type_asked space asked =
    ok_or asked BAD_HISTORY_OPERATION_UNSUPPORTED >>= λ id.
    ok_or (node_at space id) BAD_NODE_ID_UNKNOWN >>= λ node.
    ok_or
    (elim node [
      | OfVariable variable ↦ Some variable.value_type
      | _ ↦ None
    ]) BAD_HISTORY_OPERATION_UNSUPPORTED

-- the type of the archived variable whose history a user may update, or why it is refused: one who
-- only reads may update none
abbrev pub type_granted : UserSpace → Option NodeId → Result ValueType Status
type_granted seen asked =
    type_asked seen.layout asked >>= λ type.
    elim seen.access [ Read ↦ Err BAD_USER_ACCESS_DENIED | Write ↦ Ok type ]

-- the update of a variable of this type
abbrev pub update_of : ℕ → (NodeId → Request) → ValueType → Details → Content → Fallible Updated
update_of own request type (UpdateData (node, (perform, values))) R =
    update_data own (request node) type perform values R
update_of own request type (DeleteRawModified (node, (modified, (start, finish)))) R =
    delete_raw own (request node) modified start finish R
update_of own request type (DeleteAtTime (node, times)) R = delete_at own (request node) times R
update_of own request type Other R = give (refused_update BAD_HISTORY_OPERATION_UNSUPPORTED, R)

-- this user asks at this moment for an update of a node
abbrev pub asked_for : List ℕ → Ticks → NodeId → Request
asked_for user now node = record { node = node; user = user; reading = now.0 }

-- one of the updates of a HistoryUpdate: refused for its node, or for its user; or an update of
-- that node's history
abbrev pub update_item : ℕ → UserSpace → List ℕ → Ticks → Details → Content → Fallible Updated
update_item own seen user now details R =
    elim (type_granted seen (node_asked details)) [
      | Err status ↦ give (refused_update status, R)
      | Ok type ↦ past memory R (update_of own (asked_for user now) type details R)
    ]

-- 100 details at most
abbrev pub update_history : ℕ → UserSpace → List ℕ → Ticks → List Details → Content → Served
update_history own seen user now details R =
    unless_refused (list_refusal 100 (length details)) R
    (answer_items AllUpdated (update_item own seen user now) details R)
