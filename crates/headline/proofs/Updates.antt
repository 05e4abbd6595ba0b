-- Updates of a past, and their records.
use Rattle.std.proofs.Common.{◌≡◌, suc, ◌+◌, ◌≤◌, List, [], ◌∷◌, Some, refl, sym, ap, ◌∙◌, subst, inl, inr, ◌⊎◌, Less}
use Rattle.std.specs.Prelude.{◌↔◌}
use Rattle.stamp.specs.Limits.{lift}
use Rattle.ua_binary.specs.declared.codes.Status.{Status}
use Rattle.records.specs.Lists.{Has, Rises}
use Rattle.records.specs.Records.{record_stamp_cmp, versions}
use Rattle.records.specs.declared.record.Record.{Record}
use Rattle.records.specs.Contents.{Content, IsLatest, vec, top, put}
use Rattle.records.proofs.CloseLemmas.{closed_stamps}
use Rattle.records.proofs.ContentLemmas.{vec_bounds}
use Rattle.records.proofs.LatestLemmas.{story_rises, story_has}
use Rattle.records.proofs.PutLemmas.{has-put}
use Rattle.records.proofs.Sorting.{all-has}
use Rattle.archive.specs.Store.{Done}
use Rattle.hist_update.specs.declared.request.Request.{Request}
use Rattle.hist_update.specs.Outcome.{Operation, Added, outcome, content_after}
use Rattle.hist_update.specs.Laws.{IsGood, IsRecordOf}
use Rattle.hist_update.proofs.Answered.{good_done}
use Rattle.hist_update.proofs.NewRecords.{made}
use Rattle.exchange.specs.Worlds.{ReplicaState, Operates, IsReplicaAt, after_event}
use Rattle.exchange.proofs.WorldLemmas.{list_run, next_world}
use Rattle.headline.specs.Executions.{Execution, IsExecution, IsReachable, WasAnswered, WasRecorded, world_at}
use Rattle.headline.proofs.Times.{lawful_was, together}

-- ---- the record of an update

pub recorded : (p : Execution) (s : ReplicaState) (request : Request) (op : Operation)
    (code : Status) → IsExecution p → WasAnswered p s request op code → IsGood code
    → (r : Record) × WasRecorded p s request op r × IsRecordOf request s.number op r
    × (r.number ≡ vec s.content s.number + 1) × (lift request.reading (top s.content) ≡ Some r.tick)
recorded p s request op code past answered good =
    let d = good_done s.content s.number request op Done (subst IsGood (sym answered.4) good) in
    let m = made s.content s.number request op _ d.0 d.1 in (
      d.0,
      (code, answered, d.1 ∙ ap (λ c. Added c d.0) answered.4),
      d.3,
      ap (λ (x : Record). x.number) m.is,
      m.lifts ∙ ap Some (sym (ap (λ (x : Record). x.tick) m.is)),
    )

-- the replica behind its update
with_record : (p : Execution) (s : ReplicaState) (request : Request) (op : Operation) (r : Record)
    → WasRecorded p s request op r → IsReachable p (record s { content = put r s.content })
with_record p s request op r recorded =
    let a = recorded.1 in
    let w = world_at p a.0 in
    let there : IsReplicaAt (after_event w (Operates a.1 request op)) a.1
    (record s { content = content_after s.content (outcome s.content s.number request op) }) =
    (list_run (op ∷ []) w a.1 s request a.3).here in
    let changed : IsReplicaAt (after_event w (Operates a.1 request op)) a.1
    (record s { content = put r s.content }) =
    subst (λ o. IsReplicaAt (after_event w (Operates a.1 request op)) a.1
    (record s { content = content_after s.content o })) recorded.2 there in (
      suc a.0,
      a.1,
      subst (λ v. IsReplicaAt v a.1 (record s { content = put r s.content }))
          (sym (next_world p.events a.0 p.start (Operates a.1 request op) a.2)) changed,
    )

pub has_learned : (p : Execution) (s t : ReplicaState) (request : Request) (op : Operation)
    (r : Record) → IsExecution p → WasRecorded p s request op r → IsReachable p t
    → Has t.content r ↔ (r.number ≤ vec t.content r.origin)
has_learned p s t request op r past recorded was = (
  vec_bounds t.content r,
  λ le.
      let here = with_record p s request op r recorded in
      let own : Has (put r s.content) r = has-put r s.content r (inl refl) in
      let one = (lawful_was p (record s { content = put r s.content }) past here).closed.numbers r
      own in
      let named = (lawful_was p t past was).closed.whole r.origin r.number one le in
      let same : r ≡ named.0 = (together p
      (record s { content = put r s.content }) t past here was).compatible r named.0 own named.1
      (sym named.2.0) (sym named.2.1) in
      subst (Has t.content) (sym same) named.1,
)

-- ---- the greatest stamp

greatest : (xs : List Record) (r : Record) → Rises record_stamp_cmp xs → Has xs r
    → (z : Record) × Has xs z × ((y : Record) → Has xs y → (y ≡ z) ⊎ (record_stamp_cmp y z ≡ Less))
greatest [] r up h = absurd h
greatest (x ∷ []) r up h = (x, inl refl, λ y m. elim m [ inl e ↦ inl (sym e) | inr k ↦ absurd k ])
greatest (x ∷ z ∷ zs) r up h =
    let m = greatest (z ∷ zs) z up.1 (inl refl) in (
      m.0,
      inr m.1,
      λ y k. elim k [
        | inl e ↦
            inr (subst (λ a. record_stamp_cmp a m.0 ≡ Less) e
            (all-has (λ b. record_stamp_cmp x b ≡ Less) (z ∷ zs) m.0 up.0 m.1))
        | inr n ↦ m.2 y n
      ],
    )

pub has_latest : (p : Execution) (t : ReplicaState) (r : Record) → IsExecution p → IsReachable p t
    → Has t.content r
    → (last : Record) × IsLatest t.content last × (last.node ≡ r.node) × (last.time ≡ r.time)
    × ((r ≡ last) ⊎ (record_stamp_cmp r last ≡ Less))
has_latest p t r past was h =
    let R = t.content in
    let own = (story_has R r.node r.time r).1 (h, refl, refl) in
    let m = greatest (versions R r.node r.time) r (story_rises R r.node r.time
    (closed_stamps R (lawful_was p t past was).closed)) own in
    let z = (story_has R r.node r.time m.0).0 m.1 in (
      m.0,
      record {
        there = z.0;
        above =
            λ y k e f. m.2 y ((story_has R r.node r.time y).1 (k, e ∙ z.1, f ∙ z.2));
      },
      z.1,
      z.2,
      m.2 r own,
    )

-- another record of its node and time has a greater stamp
pub record HasLater (R : Content) (r : Record) : Type 0 where
  pub later : Record
  pub there : Has R later
  pub node : later.node ≡ r.node
  pub time : later.time ≡ r.time
  pub greater : record_stamp_cmp r later ≡ Less

pub later_from : (p : Execution) (t : ReplicaState) (r : Record) → IsExecution p → IsReachable p t
    → Has t.content r → (IsLatest t.content r → ⊥) → HasLater t.content r
later_from p t r past was h not =
    let m = has_latest p t r past was h in
    elim m.4 [
      | inl same ↦ absurd (not (subst (IsLatest t.content) (sym same) m.1))
      | inr less ↦
          record { later = m.0; there = m.1.there; node = m.2; time = m.3; greater = less }
    ]
