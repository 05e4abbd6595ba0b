-- The frames of a dialog as deliveries.
use Rattle.std.proofs.Common.{◌≡◌, ℕ, List, [], ◌∷◌, take, Option, Some, Result, refl, sym, ap, ◌∙◌, subst, inl, inr}
use Rattle.std.specs.Prelude.{slice_get, slice_set}
use Rattle.std.specs.Option.{option_map_or}
use Rattle.records.specs.Contents.{Content, merged}
use Rattle.records.specs.declared.record.Record.{Record}
use Rattle.exchange.specs.declared.fault.ExchangeFault.{ExchangeFault}
use Rattle.exchange.specs.Messages.{Party, Message}
use Rattle.exchange.specs.Dialogs.{received, records_read, learned_at}
use Rattle.exchange.specs.Worlds.{ReplicaState, World, Event, Delivers, IsReplicaAt, IsUpdated, delivered, after_event, run}
use Rattle.exchange.proofs.WorldLemmas.{get-set_same, get-set_other}
use Rattle.exchange.proofs.LeftLemmas.{merged_none, answered_left}
use Rattle.ua_peers.specs.Peers.{Taken, Side, side_after, after_all}
use Rattle.ua_peers.specs.Events.{IsSent, WereSent, AreDeliveries}

pub delivered_here : (w : World) (i : ℕ) (s : ReplicaState) (batch count : ℕ) (rs : List Record)
    → IsReplicaAt w i s → slice_get w.pool batch ≡ Some rs
    → IsUpdated w (after_event w (Delivers i batch count)) i s (merged (take count rs) s.content)
delivered_here w i s batch count rs at sent =
    let there : ReplicaState = record s { content = merged (take count rs) s.content } in
    let all : option_map_or (delivered i count w.replicas) (slice_get w.pool batch) w.replicas
    ≡ delivered i count w.replicas rs =
    ap (λ (o : Option (List Record)). option_map_or (delivered i count w.replicas) o w.replicas)
    sent in
    let one : delivered i count w.replicas rs ≡ slice_set w.replicas i there =
    ap (λ (o : Option ReplicaState).
    option_map_or (λ (x : ReplicaState).
    slice_set w.replicas i (record x { content = merged (take count rs) x.content })) o
    w.replicas) at in
    record {
      here = ap (λ (l : List ReplicaState). slice_get l i) (all ∙ one)
          ∙ get-set_same w.replicas i there s at;
      others = λ j other. ap (λ (l : List ReplicaState). slice_get l j) (all ∙ one)
          ∙ get-set_other w.replicas i j there other;
      pool = refl;
    }

abbrev Brings : Party → ℕ → World → ReplicaState → List Taken → Side → Type 0
Brings p i w s taken side = (events : List Event) × AreDeliveries i events
    × IsUpdated w (run events w) i s (after_all p side taken).content

pub deliveries : (p : Party) (taken : List Taken) (w : World) (i : ℕ) (s : ReplicaState)
    (side : Side) → IsReplicaAt w i s → s.content ≡ side.content → WereSent w.pool p side taken
    → (events : List Event) × AreDeliveries i events
    × IsUpdated w (run events w) i s (after_all p side taken).content
deliveries p [] w i s side at same sent = (
  [],
  tt,
  subst (λ (R : Content). IsUpdated w w i s R) same
      (record { here = at; others = λ j other. refl; pool = refl }),
)
deliveries p (t ∷ later) w i s side at same sent =
    go (λ v z held now rest. deliveries p later v i z (side_after p side t) held now rest) sent.0
  where
    got : Result Message ExchangeFault
    got = received p side.standing t.frame.kind t.frame.body

    count : ℕ
    count = learned_at p side.standing.state side.content t.way got

    left : (side_after p side t).content ≡ merged (take count (records_read got)) side.content
    left = answered_left p side.standing.state side.content t.way got

    go : ((v : World) (z : ReplicaState) → IsReplicaAt v i z
        → z.content ≡ (side_after p side t).content → WereSent v.pool p (side_after p side t) later
        → Brings p i v z later (side_after p side t)) → IsSent w.pool (records_read got)
        → Brings p i w s (t ∷ later) side
    go rest_of (inl none) =
        let kept : (side_after p side t).content ≡ side.content =
        left ∙ (ap (λ (rs : List Record). merged (take count rs) side.content) none
        ∙ merged_none count side.content) in
        rest_of w s at (same ∙ sym kept) sent.1
    go rest_of (inr q) =
        let w' : World = after_event w (Delivers i q.0 count) in
        let one : IsUpdated w w' i s (merged (take count (records_read got)) s.content) =
        delivered_here w i s q.0 count (records_read got) at q.1 in
        let rest = rest_of w' (record s
        { content = merged (take count (records_read got)) s.content }) one.here
        (ap (merged (take count (records_read got))) same ∙ sym left) sent.1 in (
          Delivers i q.0 count ∷ rest.0,
          ((q.0, count, refl), rest.1),
          record {
            here = rest.2.here;
            others =
                λ j other. rest.2.others j other ∙ one.others j other;
            pool =
                rest.2.pool ∙ one.pool;
          },
        )
