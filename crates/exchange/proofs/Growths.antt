-- What some updates of a replica make of what it holds, as events of a world.
use Rattle.std.proofs.Common.{◌≡◌, ℕ, List, [], ◌∷◌, refl, sym, ap, ◌∙◌, subst, inl, inr}
use Rattle.records.specs.Lists.{Has}
use Rattle.records.specs.Contents.{Content, put}
use Rattle.records.specs.Spelling.{IsLawfulRecord}
use Rattle.records.specs.declared.record.Record.{Record}
use Rattle.records.proofs.PutLemmas.{has-put}
use Rattle.archive.specs.Growth.{GrowsBy, Grows}
use Rattle.hist_update.specs.Outcome.{outcome, content_after}
use Rattle.hist_update.proofs.Grown.{IsAddedBy, added_by}
use Rattle.exchange.specs.Worlds.{World, ReplicaState, Event, Operates, IsReplicaAt, IsUpdated, AreUpdates, operated, run, after_event}
use Rattle.exchange.proofs.WorldLemmas.{operated_here}

-- what is held stays held
kept : (rs : List Record) (own : ℕ) (R S : Content) (r : Record) → GrowsBy rs own R S → Has R r
    → Has S r
kept [] own R S r same h = subst (λ (Q : Content). Has Q r) (sym same) h
kept (next ∷ rs) own R S r grows h = kept rs own (put next R) S r grows.1 (has-put next R r (inr h))

abbrev Happened : World → ℕ → ReplicaState → Content → Type 0
Happened w i s S = (events : List Event) × AreUpdates i events × IsUpdated w (run events w) i s S

happens : (rs : List Record) (own : ℕ) (R S : Content) (w : World) (i : ℕ) (s : ReplicaState)
    → GrowsBy rs own R S → ((r : Record) → Has S r → IsLawfulRecord r) → IsReplicaAt w i s
    → s.number ≡ own → s.content ≡ R → Happened w i s S
happens [] own R S w i s same lawful at number content = (
  [],
  tt,
  subst (IsUpdated w w i s) (content ∙ sym same)
      (record { here = at; others = λ j other. refl; pool = refl }),
)
happens (r ∷ rs) own R S w i s grows lawful at number content =
    let by : IsAddedBy own R r = added_by own R r grows.0
    (lawful r (kept rs own (put r R) S r grows.1 (has-put r R r (inl refl)))) in
    let left : operated by.request by.operation s ≡ put r R =
    ap (λ (n : ℕ). content_after s.content (outcome s.content n by.request by.operation)) number
    ∙ (ap (λ (Q : Content). content_after Q (outcome Q own by.request by.operation)) content
    ∙ ap (content_after R) by.adds) in
    let first = operated_here w i s by.request by.operation at in
    let there : IsReplicaAt (after_event w (Operates i by.request by.operation)) i
    (record s { content = put r R }) =
    subst (λ (Q : Content). IsReplicaAt (after_event w (Operates i by.request by.operation)) i
    (record s { content = Q })) left first.here in
    let later = happens rs own (put r R) S (after_event w (Operates i by.request by.operation)) i
    (record s { content = put r R }) grows.1 lawful there number refl in (
      Operates i by.request by.operation ∷ later.0,
      ((by.request, by.operation, refl, by.lawful, by.spelled, by.suits), later.1),
      record {
        here = later.2.here;
        others =
            λ j other. later.2.others j other ∙ first.others j other;
        pool =
            later.2.pool ∙ first.pool;
      },
    )

pub updates_happen : (own : ℕ) (R S : Content) (w : World) (i : ℕ) (s : ReplicaState)
    → Grows own R S → ((r : Record) → Has S r → IsLawfulRecord r) → IsReplicaAt w i s
    → s.number ≡ own → s.content ≡ R → Happened w i s S
updates_happen own R S w i s grows lawful at number content =
    happens grows.0 own R S w i s grows.1 lawful at number content
