-- What replicas answer to whole messages that read history (Part 4, 5.11.3).
use Rattle.std.specs.Prelude.{◌≡◌, ◌⊎◌, ⊤, ℕ, List, [], ◌∷◌, Some, Ok, Err}
use Rattle.std.specs.List.{AllByRecursion}
use Rattle.ua_binary.specs.declared.codes.TheConstants.Status.{BAD_OUT_OF_MEMORY}
use Rattle.ua_binary.specs.declared.values.NodeId.{NodeId}
use Rattle.ua_binary.specs.declared.values.Ticks.{Ticks}
use Rattle.ua_services.specs.History.{HistoryAsked}
use Rattle.ua_services.specs.declared.history.HistoryReadResult.{HistoryReadResult}
use Rattle.ua_session.specs.Sessions.{SessionsState, user_at}
use Rattle.records.specs.Contents.{Content}
use Rattle.archive.specs.Store.{StepResult}
use Rattle.historian.specs.Answers.{Response, Histories}
use Rattle.historian.specs.Requests.{HistoryRead, request_in}
use Rattle.historian.specs.Services.{ServerConfig as Server, answered}
use Rattle.exchange.specs.Worlds.{ReplicaState}
use Rattle.headline.specs.Answers.{ReportsNoFailure}
use Rattle.ua_connection.specs.Client.{response_in}

-- the server is of this replica's archive
abbrev pub IsServerOf : Server → ReplicaState → Type 0
IsServerOf server s = server.id ≡ s.id

-- both servers have the same nodes
abbrev pub HaveSameNodes : Server → Server → Type 0
HaveSameNodes one other = one.settings.space ≡ other.settings.space

-- the message asks this of history, in a session that was activated
abbrev pub AsksHistory : List ℕ → HistoryAsked → SessionsState → Type 0
AsksHistory message asked sessions =
    (token : NodeId) × (user : List ℕ) × (request_in message ≡ Ok (token, Some (HistoryRead asked)))
    × (user_at sessions token ≡ Ok user)

-- the response of a server to a message, at this moment, over what is held, by what came in its way
abbrev pub response_of : Server → Ticks → List ℕ → SessionsState → Content → List StepResult
    → Response
response_of server now message sessions R marks =
    response_in (answered server now message sessions R marks).0

-- as many results, and the two of each node are one, but where either reports want of memory or a
-- fault of the store
abbrev pub AreSameResults : List HistoryReadResult → List HistoryReadResult → Type 0
AreSameResults [] [] = ⊤
AreSameResults (x ∷ xs) (y ∷ ys) =
    (ReportsNoFailure x → ReportsNoFailure y → x ≡ y) × AreSameResults xs ys
AreSameResults xs ys = ⊥

-- the whole is refused by Bad_OutOfMemory; a single result's own want of memory is no such thing
abbrev pub IsStarved : Response → Type 0
IsStarved response = response ≡ Err BAD_OUT_OF_MEMORY

-- both have the same results, or both are refused as a whole by the same code; or one of them is
-- refused for want of memory
abbrev pub AreAlike : Response → Response → Type 0
AreAlike (Ok (Histories results)) (Ok (Histories others)) = AreSameResults results others
AreAlike one other = (one ≡ other) ⊎ (IsStarved one ⊎ IsStarved other)

-- no result reports want of memory or a fault of the store
abbrev pub AreFree : List HistoryReadResult → Type 0
AreFree results = AllByRecursion ReportsNoFailure results
