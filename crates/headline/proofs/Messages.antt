-- Replicas that have learned the same answer whole messages that read history alike.
use Rattle.std.proofs.Common.{◌≡◌, ℕ, Bool, true, false, List, [], ◌∷◌, length, Option, Some, None, Result, Ok, Err, refl, sym, ap, ◌∙◌, ◌⊎◌, subst, inl, inr}
use Rattle.ua_binary.specs.declared.codes.Status.{Status}
use Rattle.ua_binary.specs.declared.codes.TheConstants.Status.{BAD_OUT_OF_MEMORY}
use Rattle.ua_binary.specs.declared.values.NodeId.{NodeId}
use Rattle.ua_binary.specs.declared.values.Ticks.{Ticks}
use Rattle.ua_binary.specs.Rules.{checked}
use Rattle.ua_services.specs.History.{HistoryAsked, HistoryReadFields}
use Rattle.ua_services.specs.declared.history.HistoryReadResult.{HistoryReadResult}
use Rattle.ua_session.specs.Sessions.{SessionsState, user_at}
use Rattle.ua_session.specs.declared.fault.SessionFault.{SessionFault}
use Rattle.ua_space.specs.declared.layout.Layout.{Layout}
use Rattle.records.specs.Contents.{Content}
use Rattle.archive.specs.declared.fault.StoreFault.{StoreFault}
use Rattle.archive.specs.declared.fault.StoreFault.TheVariants as store
use Rattle.archive.specs.Store.{StepResult, Done, NoMemory, RecordStands, StoreFailed}
use Rattle.archive.specs.Steps.{give, memory, and_then, each}
use Rattle.hist_read.specs.declared.query.Query.{Query}
use Rattle.hist_read.specs.Node.{Behind, checked_read, page_from, read_node, refused_read}
use Rattle.hist_read.proofs.NodeParts.{read_from, told}
use Rattle.hist_update.specs.Codes.{list_refusal}
use Rattle.historian.specs.Answers as answer
use Rattle.historian.specs.Answers.{Response, Histories}
use Rattle.historian.specs.Reading.{history_rules, released, read_history_of, query_of, read_history, unless_refused, answer_items}
use Rattle.historian.specs.Requests.{HistoryRead, Request}
use Rattle.historian.specs.Services.{ServerConfig as Server, answered_request, in_session}
use Rattle.headline.specs.Answers.{ReportsNoFailure}
use Rattle.headline.specs.Messages.{AsksHistory, response_of, AreSameResults, IsStarved, AreAlike, AreFree}

-- ---- one node

module _ (id : List ℕ) (space : Layout) (query : Query) (release : Bool) (R : Content) where
  -- a fault that is reported is reported also where the points are only given back
  reported : (answer : HistoryReadResult) (fault : StoreFault) (only : Bool)
      → ReportsNoFailure (released only (told answer (StoreFailed fault))) → ⊥
  reported answer store.OutOfMemory false free = free.memory refl
  reported answer store.Refused false free = free.store refl
  reported answer store.WrongReplica false free = free.store refl
  reported answer store.WrongArchive false free = free.store refl
  reported answer store.Broken false free = free.store refl
  reported answer store.OutOfMemory true free = free.memory refl
  reported answer store.Refused true free = free.store refl
  reported answer store.WrongReplica true free = free.store refl
  reported answer store.WrongArchive true free = free.store refl
  reported answer store.Broken true free = free.store refl

  starved : (answer : HistoryReadResult) (only : Bool)
      → ReportsNoFailure (released only (told answer NoMemory)) → ⊥
  starved answer false free = free.memory refl
  starved answer true free = free.memory refl

  broke : (answer : HistoryReadResult) (only : Bool)
      → ReportsNoFailure (released only (told answer RecordStands)) → ⊥
  broke answer false free = free.store refl
  broke answer true free = free.store refl

  -- a read of a node, by what is judged of it
  abbrev node_by : NodeId → Result (Option Behind) Status → List StepResult
      → (HistoryReadResult × Content) × List StepResult
  node_by node j marks = read_from id node query R j marks

  node_stays : (node : NodeId) (j : Result (Option Behind) Status) (marks : List StepResult)
      → (node_by node j marks).0.1 ≡ R
  node_stays node (Err status) marks = refl
  node_stays node (Ok behind) [] = refl
  node_stays node (Ok behind) (mark ∷ marks) = refl

  node_free : (node : NodeId) (j : Result (Option Behind) Status) (marks : List StepResult)
      → ReportsNoFailure (released release (node_by node j marks).0.0)
      → released release (node_by node j marks).0.0 ≡ released release (node_by node j []).0.0
  node_free node (Err status) marks free = refl
  node_free node (Ok behind) [] free = refl
  node_free node (Ok behind) (Done ∷ marks) free = refl
  node_free node (Ok behind) (NoMemory ∷ marks) free =
      absurd (starved (page_from R id node query behind) release free)
  node_free node (Ok behind) (RecordStands ∷ marks) free =
      absurd (broke (page_from R id node query behind) release free)
  node_free node (Ok behind) (StoreFailed fault ∷ marks) free =
      absurd (reported (page_from R id node query behind) fault release free)

  -- an item of the list, by what its rules say
  abbrev item_by : HistoryReadFields → Result (Unit {0}) Status → List StepResult
      → (HistoryReadResult × Content) × List StepResult
  item_by item ruled =
      and_then {A = Option Status} (elim ruled [ Err status ↦ give (Some status) | Ok _ ↦ memory ])
      (λ reason.
      elim reason [
        | Some status ↦ give (refused_read status, R)
        | None ↦
            and_then (read_node id item.0 query item.1.1.1 R)
            (λ p. give (released release p.0, p.1))
      ])

  item_stays : (item : HistoryReadFields) (ruled : Result (Unit {0}) Status)
      (marks : List StepResult) → (item_by item ruled marks).0.1 ≡ R
  item_stays item (Err status) marks = refl
  item_stays item (Ok u) [] = node_stays item.0 (checked_read id item.0 query.details item.1.1.1) []
  item_stays item (Ok u) (Done ∷ marks) =
      node_stays item.0 (checked_read id item.0 query.details item.1.1.1) marks
  item_stays item (Ok u) (NoMemory ∷ marks) = refl
  item_stays item (Ok u) (RecordStands ∷ marks) =
      node_stays item.0 (checked_read id item.0 query.details item.1.1.1) (RecordStands ∷ marks)
  item_stays item (Ok u) (StoreFailed fault ∷ marks) =
      node_stays item.0 (checked_read id item.0 query.details item.1.1.1)
      (StoreFailed fault ∷ marks)

  item_free : (item : HistoryReadFields) (ruled : Result (Unit {0}) Status)
      (marks : List StepResult) → ReportsNoFailure (item_by item ruled marks).0.0
      → (item_by item ruled marks).0.0 ≡ (item_by item ruled []).0.0
  item_free item (Err status) marks free = refl
  item_free item (Ok u) [] free = refl
  item_free item (Ok u) (Done ∷ marks) free =
      node_free item.0 (checked_read id item.0 query.details item.1.1.1) marks free
  item_free item (Ok u) (NoMemory ∷ marks) free = absurd (free.memory refl)
  item_free item (Ok u) (RecordStands ∷ marks) free =
      node_free item.0 (checked_read id item.0 query.details item.1.1.1) (RecordStands ∷ marks) free
  item_free item (Ok u) (StoreFailed fault ∷ marks) free =
      node_free item.0 (checked_read id item.0 query.details item.1.1.1)
      (StoreFailed fault ∷ marks) free

  -- ---- the list

  abbrev item_of : HistoryReadFields → Content → List StepResult
      → (HistoryReadResult × Content) × List StepResult
  item_of item S marks = read_history_of id space query release item S marks

  -- what each item is answered that reports nothing
  abbrev AreSo : List HistoryReadFields → List HistoryReadResult → Type 0
  AreSo [] [] = Unit {0}
  AreSo (x ∷ xs) (y ∷ ys) = (ReportsNoFailure y → y ≡ (item_of x R []).0.0) × AreSo xs ys
  AreSo xs ys = ⊥

  all_so : (xs : List HistoryReadFields) (S : Content) (marks : List StepResult) → S ≡ R
      → AreSo xs (each (read_history_of id space query release) xs S marks).0.0
  all_so [] S marks same = tt
  all_so (x ∷ xs) S marks same =
      let here = item_of x S marks in
      let ruled = checked (history_rules space x) in
      let stays : here.0.1 ≡ R = subst (λ (Q : Content). (item_of x Q marks).0.1 ≡ R) (sym same)
      (item_stays x ruled marks) in (
        subst (λ (Q : Content). ReportsNoFailure (item_of x Q marks).0.0
            → (item_of x Q marks).0.0 ≡ (item_of x R []).0.0) (sym same) (item_free x ruled marks),
        all_so xs here.0.1 here.1 stays,
      )

  same_each : (xs : List HistoryReadFields) (ys zs : List HistoryReadResult) → AreSo xs ys
      → AreSo xs zs → AreSameResults ys zs
  same_each [] [] [] a b = tt
  same_each [] [] (z ∷ zs) a b = absurd b
  same_each [] (y ∷ ys) zs a b = absurd a
  same_each (x ∷ xs) [] zs a b = absurd a
  same_each (x ∷ xs) (y ∷ ys) [] a b = absurd b
  same_each (x ∷ xs) (y ∷ ys) (z ∷ zs) a b =
      (λ free free'. a.0 free ∙ sym (b.0 free'), same_each xs ys zs a.1 b.1)

  -- ---- the service

  abbrev listed : List HistoryReadFields → Option Status → List StepResult
      → (Response × Content) × List StepResult
  listed xs reason =
      unless_refused reason R (and_then (each (read_history_of id space query release) xs R)
      (λ p. give (Ok (Histories p.0), p.1)))

  list_alike : (xs : List HistoryReadFields) (marks more : List StepResult)
      → AreAlike (listed xs None marks).0.0 (listed xs None more).0.0
  list_alike xs marks more =
      same_each xs (each (read_history_of id space query release) xs R marks).0.0
      (each (read_history_of id space query release) xs R more).0.0 (all_so xs R marks refl)
      (all_so xs R more refl)

  -- one of them may be refused for want of memory
  memory_alike : (xs : List HistoryReadFields) (marks more : List StepResult)
      → AreAlike (answer_items Histories (read_history_of id space query release) xs R marks).0.0
      (answer_items Histories (read_history_of id space query release) xs R more).0.0
  memory_alike xs [] [] = list_alike xs [] []
  memory_alike xs [] (Done ∷ more) = list_alike xs [] more
  memory_alike xs [] (NoMemory ∷ more) = inr (inr refl)
  memory_alike xs [] (RecordStands ∷ more) = list_alike xs [] (RecordStands ∷ more)
  memory_alike xs [] (StoreFailed f ∷ more) = list_alike xs [] (StoreFailed f ∷ more)
  memory_alike xs (Done ∷ marks) [] = list_alike xs marks []
  memory_alike xs (Done ∷ marks) (Done ∷ more) = list_alike xs marks more
  memory_alike xs (Done ∷ marks) (NoMemory ∷ more) = inr (inr refl)
  memory_alike xs (Done ∷ marks) (RecordStands ∷ more) = list_alike xs marks (RecordStands ∷ more)
  memory_alike xs (Done ∷ marks) (StoreFailed f ∷ more) = list_alike xs marks (StoreFailed f ∷ more)
  memory_alike xs (NoMemory ∷ marks) more = inr (inl refl)
  memory_alike xs (RecordStands ∷ marks) [] = list_alike xs (RecordStands ∷ marks) []
  memory_alike xs (RecordStands ∷ marks) (Done ∷ more) = list_alike xs (RecordStands ∷ marks) more
  memory_alike xs (RecordStands ∷ marks) (NoMemory ∷ more) = inr (inr refl)
  memory_alike xs (RecordStands ∷ marks) (RecordStands ∷ more) =
      list_alike xs (RecordStands ∷ marks) (RecordStands ∷ more)
  memory_alike xs (RecordStands ∷ marks) (StoreFailed f ∷ more) =
      list_alike xs (RecordStands ∷ marks) (StoreFailed f ∷ more)
  memory_alike xs (StoreFailed e ∷ marks) [] = list_alike xs (StoreFailed e ∷ marks) []
  memory_alike xs (StoreFailed e ∷ marks) (Done ∷ more) = list_alike xs (StoreFailed e ∷ marks) more
  memory_alike xs (StoreFailed e ∷ marks) (NoMemory ∷ more) = inr (inr refl)
  memory_alike xs (StoreFailed e ∷ marks) (RecordStands ∷ more) =
      list_alike xs (StoreFailed e ∷ marks) (RecordStands ∷ more)
  memory_alike xs (StoreFailed e ∷ marks) (StoreFailed f ∷ more) =
      list_alike xs (StoreFailed e ∷ marks) (StoreFailed f ∷ more)

module _ (id : List ℕ) (space : Layout) (asked : HistoryAsked) (R : Content) where
  -- by what is refused of the whole
  abbrev whole_by : Option Status → Result Query Status → List StepResult
      → (Response × Content) × List StepResult
  whole_by refusal query =
      unless_refused refusal R (elim query [
        | Err status ↦ give (Err status, R)
        | Ok q ↦
            answer_items Histories (read_history_of id space q asked.1.1.0) asked.1.1.1 R
      ])

  whole_alike : (refusal : Option Status) (query : Result Query Status)
      (marks more : List StepResult)
      → AreAlike (whole_by refusal query marks).0.0 (whole_by refusal query more).0.0
  whole_alike (Some status) query marks more = inl refl
  whole_alike None (Err status) marks more = inl refl
  whole_alike None (Ok q) marks more = memory_alike id space q asked.1.1.0 R asked.1.1.1 marks more

  history_alike : (marks more : List StepResult)
      → AreAlike (read_history id space asked R marks).0.0 (read_history id space asked R more).0.0
  history_alike marks more = whole_alike (list_refusal 100 (length asked.1.1.1))
      (query_of asked.0 asked.1.0) marks more

-- ---- a message

-- what the service answered, by these marks, or want of memory for the request
abbrev IsRead : List ℕ → Layout → HistoryAsked → Content → Response → Type 0
IsRead id space asked R response =
    ((marks : List StepResult) × (response ≡ (read_history id space asked R marks).0.0))
    ⊎ IsStarved response

module _ (server : Server) (now : Ticks) (asked : HistoryAsked) (token : NodeId)
    (sessions : SessionsState) (R : Content) where
  abbrev in_user : Result (List ℕ) SessionFault → List StepResult → Response
  in_user user marks = (in_session sessions user
      (λ u. read_history server.id server.settings.space asked R) R marks).0.0.0

  session_read : (user : List ℕ) (marks : List StepResult) → user_at sessions token ≡ Ok user
      → in_user (user_at sessions token) marks
      ≡ (read_history server.id server.settings.space asked R marks).0.0
  session_read user marks e = subst (λ u. in_user u marks
      ≡ (read_history server.id server.settings.space asked R marks).0.0) (sym e) refl

  abbrev by_request : Result Request Status → List StepResult → Response
  by_request request marks = (answered_request server now request sessions R marks).0.0.0

  request_read : (user : List ℕ) (marks : List StepResult) → user_at sessions token ≡ Ok user
      → IsRead server.id server.settings.space asked R
      (by_request (Ok (token, Some (HistoryRead asked))) marks)
  request_read user [] e = inl ([], session_read user [] e)
  request_read user (Done ∷ marks) e = inl (marks, session_read user marks e)
  request_read user (NoMemory ∷ marks) e = inr refl
  request_read user (RecordStands ∷ marks) e = inl (marks, session_read user marks e)
  request_read user (StoreFailed fault ∷ marks) e = inl (marks, session_read user marks e)

  clear_read : (user : List ℕ) → user_at sessions token ≡ Ok user
      → by_request (Ok (token, Some (HistoryRead asked))) []
      ≡ (read_history server.id server.settings.space asked R []).0.0
  clear_read user e = session_read user [] e

message_read : (server : Server) (now : Ticks) (message : List ℕ) (asked : HistoryAsked)
    (sessions : SessionsState) (R : Content) (marks : List StepResult)
    → AsksHistory message asked sessions
    → IsRead server.id server.settings.space asked R
    (response_of server now message sessions R marks)
message_read server now message asked sessions R marks (token, user, is, known) =
    subst (λ request. IsRead server.id server.settings.space asked R
    (by_request server now asked token sessions R request marks)) (sym is)
    (request_read server now asked token sessions R user marks known)

message_clear : (server : Server) (now : Ticks) (message : List ℕ) (asked : HistoryAsked)
    (sessions : SessionsState) (R : Content) → AsksHistory message asked sessions
    → response_of server now message sessions R []
    ≡ (read_history server.id server.settings.space asked R []).0.0
message_clear server now message asked sessions R (token, user, is, known) =
    subst (λ request. by_request server now asked token sessions R request []
    ≡ (read_history server.id server.settings.space asked R []).0.0) (sym is)
    (clear_read server now asked token sessions R user known)

starved_other : (one : Response) → AreAlike one (Err BAD_OUT_OF_MEMORY)
starved_other (Err code) = inr (inr refl)
starved_other (Ok (answer.Endpoints a)) = inr (inr refl)
starved_other (Ok (answer.Created a)) = inr (inr refl)
starved_other (Ok answer.Activated) = inr (inr refl)
starved_other (Ok answer.Closed) = inr (inr refl)
starved_other (Ok (answer.Browsed a)) = inr (inr refl)
starved_other (Ok (answer.Values a)) = inr (inr refl)
starved_other (Ok (answer.Histories a)) = inr (inr refl)
starved_other (Ok (answer.Updated a)) = inr (inr refl)

reads_alike : (id : List ℕ) (space : Layout) (asked : HistoryAsked) (R : Content)
    (one other : Response) → IsRead id space asked R one → IsRead id space asked R other
    → AreAlike one other
reads_alike id space asked R one other (inr starved) b =
    subst (λ (r : Response). AreAlike r other) (sym starved) (inr (inl refl))
reads_alike id space asked R one other (inl a) (inr starved) =
    subst (AreAlike one) (sym starved) (starved_other one)
reads_alike id space asked R one other (inl a) (inl b) =
    subst (λ (r : Response). AreAlike r other) (sym a.1)
    (subst (AreAlike (read_history id space asked R a.0).0.0) (sym b.1)
    (history_alike id space asked R a.0 b.0))

pub messages_alike : (here there : Server) (now then : Ticks) (message other : List ℕ)
    (asked : HistoryAsked) (sessions others : SessionsState) (R : Content)
    (marks more : List StepResult)
    → here.id ≡ there.id → here.settings.space ≡ there.settings.space
    → AsksHistory message asked sessions → AsksHistory other asked others
    → AreAlike (response_of here now message sessions R marks)
    (response_of there then other others R more)
messages_alike here there now then message other asked sessions others R marks more id space asks
    asks' =
    let a = message_read here now message asked sessions R marks asks in
    let b = message_read there then other asked others R more asks' in
    let at : IsRead here.id here.settings.space asked R
    (response_of there then other others R more) =
    subst (λ (i : List ℕ). IsRead i here.settings.space asked R
    (response_of there then other others R more)) (sym id)
    (subst (λ (l : Layout). IsRead there.id l asked R (response_of there then other others R more))
    (sym space) b) in
    reads_alike here.id here.settings.space asked R (response_of here now message sessions R marks)
    (response_of there then other others R more) a at

pub messages_clear : (here there : Server) (now then : Ticks) (message other : List ℕ)
    (asked : HistoryAsked) (sessions others : SessionsState) (R : Content)
    → here.id ≡ there.id → here.settings.space ≡ there.settings.space
    → AsksHistory message asked sessions → AsksHistory other asked others
    → response_of here now message sessions R [] ≡ response_of there then other others R []
messages_clear here there now then message other asked sessions others R id space asks asks' =
    message_clear here now message asked sessions R asks
    ∙ (ap (λ (i : List ℕ). (read_history i here.settings.space asked R []).0.0) id
    ∙ (ap (λ (l : Layout). (read_history there.id l asked R []).0.0) space
    ∙ sym (message_clear there then other asked others R asks')))

-- ---- results that report nothing

pub free_same : (results others : List HistoryReadResult) → AreSameResults results others
    → AreFree results → AreFree others → results ≡ others
free_same [] [] same free free' = refl
free_same [] (y ∷ ys) same free free' = absurd same
free_same (x ∷ xs) [] same free free' = absurd same
free_same (x ∷ xs) (y ∷ ys) same free free' =
    ap (λ (r : HistoryReadResult). r ∷ xs) (same.0 free.0 free'.0)
    ∙ ap (λ (l : List HistoryReadResult). y ∷ l) (free_same xs ys same.1 free.1 free'.1)
