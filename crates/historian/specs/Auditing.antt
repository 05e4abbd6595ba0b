-- What a log of the server is told of activations and updates (Part 5, 6.4).
use Rattle.std.specs.Prelude.{ℕ, ℤ, pos, ◌/◌, ◌^◌, nat_lt, List, [], ◌∷◌, ◌||◌, length, map, slice_get, slice_set, codes, Option, option_and_then, None, Some, is_some, unwrap_or, Bool, true, Ok, if◌then◌else◌}
use Rattle.std.specs.Ordering.{int_eq}
use Rattle.std.specs.Fmt.Cut.{cut_to}
use Rattle.std.specs.Result.{result_err}
use Rattle.ua_binary.specs.declared.codes.Status.{Status}
use Rattle.ua_binary.specs.declared.codes.TheConstants.Status.{GOOD}
use Rattle.ua_binary.specs.declared.values.NodeId.{NodeId}
use Rattle.ua_session.specs.Users.{Claim, Anonymous, Named, Other}
use Rattle.ua_session.specs.Sessions.{SessionsState, with_audit}
use Rattle.ua_session.specs.declared.audit.AuditEvent.{AuditEvent}
use Rattle.ua_session.specs.declared.audit.AuditEvent.TheVariants.{Activation, Update}
use Rattle.ua_session.specs.declared.audit.UpdateAudit.{UpdateAudit}
use Rattle.ua_session.specs.declared.audit.UpdateKind.{UpdateKind}
use Rattle.ua_session.specs.declared.audit.UpdateKind.TheVariants as kind
use Rattle.ua_services.specs.Updates.{Details, UpdateData, DeleteRawModified, DeleteAtTime, Other as OtherDetails}
use Rattle.ua_services.specs.declared.updates.HistoryUpdateResult.{HistoryUpdateResult}
use Rattle.ua_space.specs.declared.layout.Layout.{Layout}
use Rattle.ua_settings.specs.Settings.{SettingsValues}
use Rattle.ua_space.specs.Space.{value_type_at}
use Rattle.historian.specs.Answers.{Response, Updated}
use Rattle.historian.specs.Updating.{node_asked}

-- ---- activations

-- the name by which somebody asks to be let in
abbrev pub claimed_name : Claim → List ℕ
claimed_name Anonymous = codes "anonymous"
claimed_name (Named name password algorithm) = unwrap_or name []
claimed_name Other = []

-- somebody who asked so was answered this
abbrev pub activation_event : Claim → Response → AuditEvent
activation_event claim response = Activation (cut_to 256 (claimed_name claim)) (result_err response)

-- ---- updates

-- the node of which details ask an update, where it is an archived variable
abbrev pub archived_node : Layout → Details → Option NodeId
archived_node space details =
    option_and_then (λ id. if is_some (value_type_at space id) then Some id else None)
    (node_asked details)

-- what a number asks to be done with values
abbrev pub kind_numbered : ℤ → UpdateKind
kind_numbered perform =
    if int_eq perform (pos 1) then kind.Insert else if int_eq perform (pos 2) then kind.Replace
    else if int_eq perform (pos 3) then kind.Update else kind.Other

-- what details ask
abbrev pub kind_asked : Details → UpdateKind
kind_asked details =
    elim details [
      | UpdateData (node, (perform, values)) ↦ kind_numbered perform
      | DeleteRawModified d ↦ kind.DeleteRange
      | DeleteAtTime d ↦ kind.DeleteAtTime
      | OtherDetails ↦ kind.Other
    ]

-- the two highest bits of a status: 0 is good, 1 uncertain, 2 bad
abbrev pub severity : Status → ℕ
severity status = status.0 / 2 ^ 30

-- the one of the worse severity, and of equal ones the first
abbrev pub worse : Status → Status → Status
worse one other = if nat_lt (severity one) (severity other) then other else one

-- the first of the worst severity, of this one and some more
abbrev pub worst_of : Status → List Status → Status
worst_of status [] = status
worst_of status (code ∷ codes) = worst_of (worse status code) codes

-- what details ask, of which nothing was answered yet
abbrev pub asked_audit : Layout → Details → UpdateAudit
asked_audit space details = record {
  node = archived_node space details;
  kind = kind_asked details;
  values = 0;
  worst = GOOD;
}

-- the same, which was answered so
abbrev pub answered_audit : UpdateAudit → HistoryUpdateResult → UpdateAudit
answered_audit audit result = record audit {
  values = length result.operation_results;
  worst = worst_of result.status result.operation_results;
}

-- some of which the one at this place, if there is one, was answered so
abbrev pub audits_with : List UpdateAudit → (place : ℕ) → HistoryUpdateResult → List UpdateAudit
audits_with audits place result =
    elim (slice_get audits place) [
      | None ↦ audits
      | Some audit ↦ slice_set audits place (answered_audit audit result)
    ]

-- each of some, answered so in this order
abbrev pub answered_audits : List UpdateAudit → List HistoryUpdateResult → List UpdateAudit
answered_audits [] results = []
answered_audits (audit ∷ audits) [] = audit ∷ audits
answered_audits (audit ∷ audits) (result ∷ results) =
    answered_audit audit result ∷ answered_audits audits results

-- this user asked so, and was answered so
abbrev pub update_event : Layout → (user : List ℕ) → List Details → List HistoryUpdateResult
    → AuditEvent
update_event space user asked results =
    Update (cut_to 256 user) (answered_audits (map (asked_audit space) asked) results)

-- whether what updates come to is noted: for a log of events; and where peers have a door, since
-- a store that lost its records may take those of its own number back from peers there only until
-- a client updates it
abbrev pub notes_updates : SettingsValues → Bool
notes_updates settings = settings.events || is_some settings.door

-- what a response to these updates of a user brings to be noted, where it is: a refusal of all of
-- them brings nothing
abbrev pub updates_audited : (noted : Bool) → Layout → (user : List ℕ) → List Details → Response
    → Option AuditEvent
updates_audited true space user asked (Ok (Updated results)) =
    Some (update_event space user asked results)
updates_audited noted space user asked response = None

-- the sessions, in which this was done last, if something was
abbrev pub noting : Option AuditEvent → SessionsState → SessionsState
noting None sessions = sessions
noting (Some event) sessions = with_audit event sessions
