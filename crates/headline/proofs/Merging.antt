-- Merging what replicas hold.
use Rattle.std.proofs.Common.{◌≡◌, ℕ, ◌≤◌, List, [], ◌∷◌, ◌++◌, filter, take, length, Option, sym, ap, ◌∙◌, subst, arith}
use Rattle.std.specs.Prelude.{slice_get, slice_set}
use Rattle.std.specs.Option.{option_map_or}
use Rattle.records.specs.Records.{missing, is_beyond}
use Rattle.records.specs.declared.record.Record.{Record}
use Rattle.records.specs.Contents.{vec, join, merged}
use Rattle.records.proofs.ContentLemmas.{above_left, has-join_right, join_least}
use Rattle.records.proofs.LackLemmas.{missing_first}
use Rattle.records.proofs.MissingLemmas.{merged_missing}
use Rattle.exchange.specs.Worlds.{ReplicaState, World, Sends, Delivers, IsReplicaAt, run}
use Rattle.exchange.proofs.WorldLemmas.{get-set_same, get_last}
use Rattle.headline.specs.Executions.{Execution, IsExecution, IsStateAt, IsReachable, world_at}
use Rattle.headline.specs.Joins.{IsLeastAbove}
use Rattle.headline.proofs.Times.{lawful_was, together}

pub least_above : (p : Execution) (s t : ReplicaState) → IsExecution p → IsReachable p s
    → IsReachable p t → IsLeastAbove s.content t.content (join s.content t.content)
least_above p s t past a b =
    let same = (together p s t past a b).compatible in (
      above_left s.content t.content same,
      has-join_right s.content t.content same,
      join_least s.content t.content,
    )

pub learns_join : (p : Execution) (s t : ReplicaState) (count : ℕ) → IsExecution p → IsReachable p s
    → IsReachable p t → length (filter (is_beyond (vec s.content)) t.content) ≤ count
    → merged (missing t.content (vec s.content) count) s.content ≡ join s.content t.content
learns_join p s t count past a b few =
    merged_missing s.content t.content count (lawful_was p s past a).closed
    (lawful_was p t past b).closed (together p s t past a b).compatible few

-- what was sent is delivered whole
exchanged : (w : World) (i j count : ℕ) (s t : ReplicaState) → IsReplicaAt w i s → IsReplicaAt w j t
    → IsReplicaAt (run (Sends j (vec s.content) count ∷ Delivers i (length w.pool) count ∷ []) w) i
    (record s { content = merged (take count (missing t.content (vec s.content) count)) s.content })
exchanged w i j count s t one other =
    let batch = missing t.content (vec s.content) count in
    let new : ReplicaState = record s { content = merged (take count batch) s.content } in
    let deliver = λ (pool : List (List Record)) (o : Option ReplicaState).
    option_map_or (λ (b : List Record).
    option_map_or (λ (x : ReplicaState).
    slice_set w.replicas i (record x { content = merged (take count b) x.content })) o
    w.replicas) (slice_get pool (length w.pool)) w.replicas in
    let pooled : option_map_or (λ (x : ReplicaState). w.pool
    ++ (missing x.content (vec s.content) count ∷ [])) (slice_get w.replicas j) w.pool
    ≡ w.pool ++ (batch ∷ []) =
    ap (λ (o : Option ReplicaState).
    option_map_or (λ (x : ReplicaState). w.pool
    ++ (missing x.content (vec s.content) count ∷ [])) o w.pool) other in
    let sites : deliver (option_map_or
    (λ (x : ReplicaState). w.pool ++ (missing x.content (vec s.content) count ∷ []))
    (slice_get w.replicas j) w.pool) (slice_get w.replicas i) ≡ slice_set w.replicas i new =
    ap (λ (pool : List (List Record)). deliver pool (slice_get w.replicas i)) pooled
    ∙ (ap (λ (o : Option ReplicaState). deliver (w.pool ++ (batch ∷ [])) o) one
    ∙ ap (λ (o : Option (List Record)).
    option_map_or (λ (b : List Record).
    slice_set w.replicas i (record s { content = merged (take count b) s.content })) o w.replicas)
    (get_last w.pool batch)) in
    ap (λ (l : List ReplicaState). slice_get l i) sites ∙ get-set_same w.replicas i new s one

pub delivers_join : (p : Execution) (time i j count : ℕ) (s t : ReplicaState) → IsExecution p
    → IsStateAt p time i s → IsStateAt p time j t
    → length (filter (is_beyond (vec s.content)) t.content) ≤ count
    → IsReplicaAt (run (Sends j (vec s.content) count
    ∷ Delivers i (length (world_at p time).pool) count ∷ []) (world_at p time)) i
    (record s { content = join s.content t.content })
delivers_join p time i j count s t past one other few =
    let w = world_at p time in
    let batch = missing t.content (vec s.content) count in
    let whole : take count batch ≡ batch =
    sym (missing_first t.content (vec s.content) count count (omega arith)) in
    let joined = learns_join p s t count past (time, i, one) (time, j, other) few in
    subst (λ R. IsReplicaAt (run
    (Sends j (vec s.content) count ∷ Delivers i (length w.pool) count ∷ []) w) i
    (record s { content = R })) (ap (λ b. merged b s.content) whole ∙ joined)
    (exchanged w i j count s t one other)
