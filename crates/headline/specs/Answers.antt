-- What replicas answer to reads of history.
use Rattle.std.specs.Prelude.{◌≡◌, ◌⊎◌, ℕ, false, List, [], map, Option}
use Rattle.std.specs.List.{AllByRecursion}
use Rattle.ua_binary.specs.declared.values.NodeId.{NodeId}
use Rattle.ua_binary.specs.declared.codes.TheConstants.Status.{BAD_OUT_OF_MEMORY, BAD_RESOURCE_UNAVAILABLE}
use Rattle.ua_services.specs.History.{history_fields, history_read_response}
use Rattle.ua_services.specs.declared.history.HistoryReadResult.{HistoryReadResult}
use Rattle.archive.specs.Store.{Store, StepResult, IsQuiescent}
use Rattle.archive.specs.Steps.{Refines}
use Rattle.hist_read.specs.declared.query.Query.{Query}
use Rattle.hist_read.specs.Node.{read_node}
use Rattle.hist_read.specs.Chains.{Page}
use Rattle.exchange.specs.Worlds.{ReplicaState}
use Rattle.records.specs.Contents.{Content}

-- ---- replicas of a world

-- what is asked of history: the details and the times that are wanted, and each node with the
-- continuation point that it goes on from, if any
abbrev pub HistoryQuery : Type 0
HistoryQuery = record { query : Query; nodes : List (NodeId × Option (List ℕ)) }

-- the result of a read, apart from what it leaves
abbrev pub result_in : (HistoryReadResult × Content) × List StepResult → HistoryReadResult
result_in ((result, content), marks) = result

-- the answer of a replica that nothing comes in the way of
abbrev pub replica_answer : Query → ReplicaState → NodeId → Option (List ℕ) → HistoryReadResult
replica_answer query s node point = result_in (read_node s.id node query point s.content [])

-- the answers of a replica to the nodes of a query
abbrev pub results_of : HistoryQuery → ReplicaState → List HistoryReadResult
results_of asked s = map (λ item. replica_answer asked.query s item.0 item.1) asked.nodes

-- the bytes of a response with these results, after its header
abbrev pub bytes_of : List HistoryReadResult → List ℕ
bytes_of results = history_read_response.canon (map history_fields results)

-- pages that were taken at two replicas, in any turns
abbrev pub AreFromEither : ReplicaState → ReplicaState → List Page → Type 0
AreFromEither s t pages =
    AllByRecursion (λ page. (page.content ≡ s.content) ⊎ (page.content ≡ t.content)) pages

-- ---- archives

-- its store returned what was written to it, and isn't broken, and so what it holds is what an
-- opening finds
pub record IsInUse (a : Store) : Type 0 where
  pub honest : a.honest
  pub unbroken : a.broken ≡ false
  pub durable : IsQuiescent a

-- the archive is in use, and holds what a replica of a world does
pub record IsReplicaOf (a : Store) (s : ReplicaState) : Type 0 where
  pub used : IsInUse a
  pub id : a.id ≡ s.id
  pub content : a.content ≡ s.content

-- an archive was read, and this was answered
abbrev pub IsReadAnswered : Store → Store → NodeId → Query → Option (List ℕ) → HistoryReadResult
    → Type 0
IsReadAnswered old new node query point result =
    (used : List StepResult) × Refines old new used (read_node old.id node query point) result

-- it reports neither want of memory nor a fault of the store
pub record ReportsNoFailure (result : HistoryReadResult) : Type 0 where
  pub memory : result.status ≡ BAD_OUT_OF_MEMORY → ⊥
  pub store : result.status ≡ BAD_RESOURCE_UNAVAILABLE → ⊥
