-- What a service leaves of the content: each but HistoryUpdate, and that of a user who may only read,
-- leaves it as it was (`readers_change_nothing`).
use Rattle.std.proofs.Common.{◌≡◌, ◌∙◌, ℕ, Bool, true, false, List, [], ◌∷◌, length, Some, None, Ok, Err, refl, ap, sym, subst}
use Rattle.std.specs.Prelude.{Option, Result, IfOk}
use Rattle.std.specs.Option.{option_map_or}
use Rattle.ua_binary.specs.declared.codes.Status.{Status}
use Rattle.ua_binary.specs.declared.codes.TheConstants.Status.{BAD_USER_ACCESS_DENIED}
use Rattle.ua_binary.specs.Format.{◌>>=◌}
use Rattle.ua_binary.specs.Rules.{checked}
use Rattle.ua_binary.specs.declared.values.NodeId.{NodeId}
use Rattle.ua_binary.specs.declared.values.Ticks.{Ticks}
use Rattle.ua_variant.specs.declared.value.ValueType.{ValueType}
use Rattle.ua_services.specs.Attributes.{ReadFields, ReadAsked}
use Rattle.ua_services.specs.declared.attributes.TimestampsToReturn.{TimestampsToReturn}
use Rattle.ua_services.specs.History.{HistoryReadFields, HistoryAsked}
use Rattle.ua_services.specs.declared.history.HistoryReadDetails.{HistoryReadDetails}
use Rattle.ua_services.specs.declared.history.HistoryReadResult.{HistoryReadResult}
use Rattle.ua_services.specs.Updates.{Details}
use Rattle.ua_session.specs.declared.fault.SessionFault.{SessionFault}
use Rattle.ua_session.specs.declared.identity.Access.{Access}
use Rattle.ua_session.specs.declared.identity.Access.TheVariants as may
use Rattle.ua_session.specs.Sessions.{SessionsState, create_answer, activate_answer, close_answer, user_at}
use Rattle.ua_session.specs.Users.{access_of}
use Rattle.ua_space.specs.declared.layout.Layout.{Layout}
use Rattle.records.specs.Contents.{Content}
use Rattle.archive.specs.Store.{StepResult, Done}
use Rattle.archive.specs.Fault.{status_told}
use Rattle.archive.specs.Steps.{Fallible, give, step, memory, and_then, each}
use Rattle.hist_read.specs.Node.{Behind, read_node, checked_read, refused_read, page_from}
use Rattle.hist_read.specs.declared.query.Query.{Query}
use Rattle.hist_update.specs.Codes.{list_refusal}
use Rattle.historian.specs.Answers.{Answer, Response, Values, Histories, Updated as AllUpdated}
use Rattle.historian.specs.Reading.{Served, unless_refused, answer_items, read_item, read, history_rules, read_released, read_history_of, query_of, read_history}
use Rattle.historian.specs.Requests.{Call, GetEndpoints, CreateSession, ActivateSession, CloseSession, Browse, Read, HistoryRead, HistoryUpdate}
use Rattle.historian.specs.Services.{ServerConfig, served, in_session, updates_of, OnlyReads}
use Rattle.historian.specs.Updating.{type_asked, node_asked, asked_for, update_item, update_history}
use Rattle.historian.specs.UserSpaces.{UserSpace, space_for}
use Rattle.historian.proofs.ReadingParts.{read_by, history_by, histories_by}
use Rattle.historian.proofs.UpdatingParts.{update_by}

-- the content that steps leave
abbrev Leaves : {X : Type 0} → (Content → Fallible (X × Content)) → Type 0
Leaves f = (R : Content) (marks : List StepResult) → (f R marks).0.1 ≡ R

-- one step that leaves it, whatever came in its way
step-leaves : {X : Type 0} (f : StepResult → X × Content) (R : Content)
    → ((mark : StepResult) → (f mark).1 ≡ R) → (marks : List StepResult)
    → (step f marks).0.1 ≡ R
step-leaves f R leaves [] = leaves Done
step-leaves f R leaves (mark ∷ marks) = leaves mark

-- items, each of which leaves it
each-leaves : {X Y : Type 0} (f : X → Content → Fallible (Y × Content)) → ((x : X) → Leaves (f x))
    → (xs : List X) → Leaves (each f xs)
each-leaves f leaves [] R marks = refl
each-leaves f leaves (x ∷ xs) R marks =
    each-leaves f leaves xs (f x R marks).0.1 (f x R marks).1 ∙ leaves x R marks

items-leave : {X Y : Type 0} (answer : List Y → Answer) (f : X → Content → Fallible (Y × Content))
    → ((x : X) → Leaves (f x)) → (xs : List X) → Leaves (answer_items answer f xs)
items-leave answer f leaves xs R marks = by (memory marks).0
  where
    by : (reason : Option Status) → (unless_refused reason R (and_then (each f xs R)
        (λ p. give (Ok (answer p.0), p.1))) (memory marks).1).0.1 ≡ R
    by None = each-leaves f leaves xs R (memory marks).1
    by (Some status) = refl

refused-leaves : (given : Option Status) (more : Content → Served) → Leaves more
    → Leaves (λ R. unless_refused given R (more R))
refused-leaves None more leaves R marks = leaves R marks
refused-leaves (Some status) more leaves R marks = refl

-- ---- reads

read-leaves : (seen : UserSpace) (now : Ticks) (asked : ReadAsked) → Leaves (read seen now asked)
read-leaves seen now asked =
    refused-leaves (list_refusal 1000 (length asked.1)) (read_by seen now asked.0 asked.1)
    (by asked.0)
  where
    by : (given : Option TimestampsToReturn) → Leaves (read_by seen now given asked.1)
    by None R marks = refl
    by (Some stamps) R marks =
        items-leave Values (read_item seen now stamps) (λ item S later. refl) asked.1 R marks

-- a read of a node, by what is refused whatever is held
abbrev page_by : List ℕ → NodeId → Query → Content → Result (Option Behind) Status
    → Fallible (HistoryReadResult × Content)
page_by id node query R checked = elim checked [
  | Err status ↦ give (refused_read status, R)
  | Ok behind ↦ step (λ mark.
      (option_map_or refused_read (status_told mark) (page_from R id node query behind), R))
]

node-leaves : (id : List ℕ) (node : NodeId) (query : Query) (point : Option (List ℕ))
    → Leaves (read_node id node query point)
node-leaves id node query point R marks = by (checked_read id node query.details point)
  where
    by : (checked : Result (Option Behind) Status) → (page_by id node query R checked marks).0.1 ≡ R
    by (Err status) = refl
    by (Ok behind) = step-leaves (λ mark.
        (option_map_or refused_read (status_told mark) (page_from R id node query behind), R)) R
        (λ mark. refl) marks

-- a read of a node, by why it is refused, if it is
abbrev released_by : List ℕ → Query → Bool → HistoryReadFields → Content → Option Status
    → Fallible (HistoryReadResult × Content)
released_by id query release item R reason = elim reason [
  | Some status ↦ give (refused_read status, R)
  | None ↦ read_released id query release item R
]

history-leaves : (id : List ℕ) (space : Layout) (query : Query) (release : Bool)
    (item : HistoryReadFields) → Leaves (read_history_of id space query release item)
history-leaves id space query release item R marks = by (checked (history_rules space item))
  where
    released-leaves : (reason : Option Status) (later : List StepResult)
        → (released_by id query release item R reason later).0.1 ≡ R
    released-leaves None later = node-leaves id item.0 query item.1.1.1 R later
    released-leaves (Some status) later = refl

    by : (judged : Result (Unit {0}) Status) → (history_by id query release item R judged marks).0.1
        ≡ R
    by (Err status) = refl
    by (Ok done) = released-leaves (memory marks).0 (memory marks).1

histories-leave : (id : List ℕ) (space : Layout) (asked : HistoryAsked)
    → Leaves (read_history id space asked)
histories-leave id space asked =
    let nodes = asked.1.1.1 in
    let release = asked.1.1.0 in
    refused-leaves (list_refusal 100 (length nodes))
    (λ R. histories_by id space release nodes R (query_of asked.0 asked.1.0))
    (by (query_of asked.0 asked.1.0))
  where
    by : (result : Result Query Status)
        → Leaves (λ R. histories_by id space asked.1.1.0 asked.1.1.1 R result)
    by (Err status) R marks = refl
    by (Ok query) R marks =
        items-leave Histories (read_history_of id space query asked.1.1.0)
        (history-leaves id space query asked.1.1.0) asked.1.1.1 R marks

-- ---- updates

-- whatever a user asks who may only read, it is refused
denied : (type : Result ValueType Status) (access : Access) → access ≡ may.Read
    → (status : Status) × ((type >>= λ type. elim access
    [ may.Read ↦ Err BAD_USER_ACCESS_DENIED | may.Write ↦ Ok type ]) ≡ Err status)
denied (Err status) access is = (status, refl)
denied (Ok type) may.Read is = (BAD_USER_ACCESS_DENIED, refl)
denied (Ok type) may.Write is = absurd cc

update-leaves : (own : ℕ) (seen : UserSpace) (user : List ℕ) (now : Ticks) → seen.access ≡ may.Read
    → (details : Details) → Leaves (update_item own seen user now details)
update-leaves own seen user now reads details R marks =
    let refused = denied (type_asked seen.layout (node_asked details)) seen.access reads in
    let P : Result ValueType Status → Type 0 = λ type.
    (update_by own (asked_for user now) details R type marks).0.1 ≡ R in
    subst P (sym refused.1) refl

updates-leave : (own : ℕ) (seen : UserSpace) (user : List ℕ) (now : Ticks) (details : List Details)
    → seen.access ≡ may.Read → Leaves (update_history own seen user now details)
updates-leave own seen user now details reads =
    refused-leaves (list_refusal 100 (length details))
    (answer_items AllUpdated (update_item own seen user now) details)
    (items-leave AllUpdated (update_item own seen user now)
    (update-leaves own seen user now reads) details)

-- ---- services

session-leaves : (sessions : SessionsState) (found : Result (List ℕ) SessionFault)
    (service : List ℕ → Fallible (Response × Content)) (R : Content)
    → IfOk found (λ user. (marks : List StepResult) → (service user marks).0.1 ≡ R)
    → (marks : List StepResult) → (in_session sessions found service R marks).0.1 ≡ R
session-leaves sessions (Err fault) service R leaves marks = refl
session-leaves sessions (Ok user) service R leaves marks = leaves marks

any_user : (found : Result (List ℕ) SessionFault) (P : List ℕ → Type 0) → ((user : List ℕ) → P user)
    → IfOk found P
any_user (Err fault) P all = tt
any_user (Ok user) P all = all user

reading_user : (found : Result (List ℕ) SessionFault) (P Q : List ℕ → Type 0)
    → ((user : List ℕ) → P user → Q user) → IfOk found P → IfOk found Q
reading_user (Err fault) P Q to is = tt
reading_user (Ok user) P Q to is = to user is

-- updates for a user who may only read, if somebody activated the session
updates-unheld : (config : ServerConfig) (now : Ticks) (details : List Details)
    (sessions : SessionsState) (R : Content) (found : Result (List ℕ) SessionFault)
    → IfOk found (λ user. access_of config.settings.users user ≡ may.Read)
    → (marks : List StepResult) → (updates_of config now details sessions found R marks).0.1 ≡ R
updates-unheld config now details sessions R (Err fault) reads marks = refl
updates-unheld config now details sessions R (Ok user) reads marks =
    updates-leave config.own (space_for config.settings user) user now details reads R marks

pub service-leaves : (config : ServerConfig) (now : Ticks) (token : NodeId) (call : Call)
    (sessions : SessionsState) (R : Content) (marks : List StepResult)
    → OnlyReads config.settings sessions token
    → (served config now token call sessions R marks).0.1 ≡ R
service-leaves config now token (GetEndpoints profiles) sessions R marks reads = refl
service-leaves config now token (CreateSession timeout) sessions R [] reads = refl
service-leaves config now token (CreateSession timeout) sessions R (mark ∷ marks) reads = refl
service-leaves config now token (ActivateSession claim) sessions R [] reads = refl
service-leaves config now token (ActivateSession claim) sessions R (mark ∷ marks) reads = refl
service-leaves config now token CloseSession sessions R marks reads = refl
service-leaves config now token (Browse nodes) sessions R marks reads =
    session-leaves sessions (user_at sessions token) _ R
    (any_user (user_at sessions token) _ (λ user later. refl)) marks
service-leaves config now token (Read asked) sessions R marks reads =
    session-leaves sessions (user_at sessions token)
    (λ user. read (space_for config.settings user) now asked R) R
    (any_user (user_at sessions token) _
    (λ user. read-leaves (space_for config.settings user) now asked R)) marks
service-leaves config now token (HistoryRead asked) sessions R marks reads =
    session-leaves sessions (user_at sessions token)
    (λ user. read_history config.id config.settings.space asked R) R
    (any_user (user_at sessions token) _
    (λ user. histories-leave config.id config.settings.space asked R)) marks
service-leaves config now token (HistoryUpdate details) sessions R marks reads =
    updates-unheld config now details sessions R (user_at sessions token) reads marks

pub ruleset leaving = (service-leaves)
