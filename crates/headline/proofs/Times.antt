-- Replicas of a past, at any times.
use Rattle.std.proofs.Common.{◌≡◌, ℕ, zero, suc, ◌≤◌, List, [], ◌∷◌, take, length, Option, Some, None, refl, sym, ap, ◌∙◌, subst, arith, inl, inr, ◌⊎◌}
use Rattle.std.specs.Prelude.{slice_get, slice_set, ◌↔◌}
use Rattle.std.specs.List.{AllByRecursion}
use Rattle.std.specs.Option.{option_map_or}
use Rattle.std.proofs.lemmas.Option.{same_Some}
use Rattle.stamp.specs.Limits.{IsReplica}
use Rattle.records.specs.declared.record.Record.{Record}
use Rattle.records.specs.Contents.{Content, HasName, AreCompatible, vec, merged}
use Rattle.records.proofs.ContentLemmas.{vec_bounds, vec_attained, compatible_back, same_content}
use Rattle.records.proofs.LackLemmas.{has_from_take}
use Rattle.records.proofs.LearnLemmas.{closed-merged, has_from_merged}
use Rattle.archive.specs.Store.{Done, IsLawfulContent}
use Rattle.hist_update.specs.declared.request.Request.{Request}
use Rattle.hist_update.specs.Outcome.{Operation, IsRequest, outcome, code_in}
use Rattle.hist_update.specs.Laws.{IsSpelledRequest, IsOperation}
use Rattle.hist_update.proofs.LawfulUpdates.{updated_lawful}
use Rattle.exchange.specs.Worlds.{ReplicaState, World, Event, Operates, Sends, Delivers, Restarts, IsReplicaAt, IsConsistent, operated, delivered, after_event, run}
use Rattle.exchange.proofs.WorldLemmas.{get-set_cases, has_from_get, with_content, run_sound, empty_sound, Grows, run_grown, times_grown}
use Rattle.headline.specs.Executions.{IsBeginning, IsLawfulEvent, Execution, IsExecution, world_at, IsStateAt, IsReachable, HaveLearnedSameNames, HasSameVector, Covers}

pub begins_sound : (w : World) → IsBeginning w → IsConsistent w
begins_sound w is = empty_sound w (λ i j s t a b. (is.together i j s t a b).1)
    (λ i j s t a b. (is.together i j s t a b).0)
    (record { replicas = λ i s a. (is.replicas i s a).2; pool = is.pool })

pub sound_at : (p : Execution) → IsExecution p → (time : ℕ) → IsConsistent (world_at p time)
sound_at p past time = run_sound p.start (take time p.events) (begins_sound p.start past.begins)

-- its number is one of a replica, and its id an archive's
pub replica_at : (p : Execution) (time place : ℕ) (s : ReplicaState) → IsExecution p
    → IsStateAt p time place s → IsReplica s.number × (length s.id ≡ 16)
replica_at p time place s past there =
    let x = (run_grown (take time p.events) p.start).back place s there in
    let is = past.begins.replicas place x.0 x.1 in
    (subst IsReplica (sym x.2.number) is.0, ap length x.2.id ∙ is.1)

-- ---- lawful contents

-- each replica holds a lawful content, and has a replica's number
record AreLawful (w : World) : Type 0 where
  content : (i : ℕ) (s : ReplicaState) → IsReplicaAt w i s → IsLawfulContent s.content
  number : (i : ℕ) (s : ReplicaState) → IsReplicaAt w i s → IsReplica s.number

with_lawful : (w : World) (i : ℕ) (s : ReplicaState) (R : Content) → IsReplicaAt w i s → AreLawful w
    → IsLawfulContent R → AreLawful (with_content w i s R)
with_lawful w i s R at lawful fresh = record {
  content = λ j a p. elim (get-set_cases w.replicas i j _ a p) [
    | inl h ↦ subst IsLawfulContent (ap (λ (x : ReplicaState). x.content) h.1) fresh
    | inr h ↦ lawful.content j a h.1
  ];
  number = λ j a p. elim (get-set_cases w.replicas i j _ a p) [
    | inl h ↦ subst IsReplica (ap (λ (x : ReplicaState). x.number) h.1) (lawful.number i s at)
    | inr h ↦ lawful.number j a h.1
  ];
}

lawful_operated : (w : World) (i : ℕ) (s : ReplicaState) (request : Request) (op : Operation)
    → IsReplicaAt w i s → AreLawful w
    → IsRequest request × IsSpelledRequest request × IsOperation op
    → IsLawfulContent (operated request op s)
lawful_operated w i s request op at lawful is =
    updated_lawful s.content (operated request op s) s.number request (op ∷ []) (Done ∷ [])
    (code_in (outcome s.content s.number request op) ∷ []) (record { does = λ later. refl })
    (lawful.number i s at) is.0 is.1 (is.2, tt) (lawful.content i s at)

lawful_merged : (w : World) (i b m : ℕ) (s : ReplicaState) (batch : List Record) → IsConsistent w
    → IsReplicaAt w i s → slice_get w.pool b ≡ Some batch → AreLawful w
    → IsLawfulContent (merged (take m batch) s.content)
lawful_merged w i b m s batch sound at there lawful = record {
  closed = closed-merged (take m batch) s.content (lawful.content i s at).closed;
  records = λ r h. elim (has_from_merged (take m batch) s.content r h) [
    | inl k ↦ (lawful.content i s at).records r k
    | inr k ↦
        let x = sound.known batch (has_from_get w.pool b batch there) r
        (has_from_take m batch r k) in
        (lawful.content x.0 x.1 x.2).records r x.3
  ];
}

lawful_step : (w : World) (e : Event) → IsConsistent w → AreLawful w → IsLawfulEvent e
    → AreLawful (after_event w e)
lawful_step w (Operates i request op) sound lawful is = go (slice_get w.replicas i) refl
  where
    go : (o : Option ReplicaState) → slice_get w.replicas i ≡ o
        → AreLawful (record {
          replicas =
              option_map_or (λ s. slice_set w.replicas i
              (record s { content = operated request op s })) o
              w.replicas;
          pool = w.pool;
        })
    go None at = lawful
    go (Some s) at = with_lawful w i s _ at lawful (lawful_operated w i s request op at lawful is)
lawful_step w (Sends i v k) sound lawful is =
    record { content = lawful.content; number = lawful.number }
lawful_step w (Delivers i b m) sound lawful is = go (slice_get w.pool b) refl
  where
    at_site : (batch : List Record) → slice_get w.pool b ≡ Some batch → (o : Option ReplicaState)
        → slice_get w.replicas i ≡ o
        → AreLawful (record {
          replicas =
              option_map_or (λ s. slice_set w.replicas i
              (record s { content = merged (take m batch) s.content })) o w.replicas;
          pool = w.pool;
        })
    at_site batch there None at = lawful
    at_site batch there (Some s) at =
        with_lawful w i s _ at lawful (lawful_merged w i b m s batch sound at there lawful)

    go : (o : Option (List Record)) → slice_get w.pool b ≡ o
        → AreLawful (record {
          replicas =
              option_map_or (delivered i m w.replicas) o w.replicas;
          pool = w.pool;
        })
    go None there = lawful
    go (Some batch) there = at_site batch there (slice_get w.replicas i) refl
lawful_step w (Restarts i) sound lawful is = lawful

lawful_run : (events : List Event) (n : ℕ) (w : World) → IsConsistent w → AreLawful w
    → AllByRecursion IsLawfulEvent events → AreLawful (run (take n events) w)
lawful_run events zero w sound lawful is = lawful
lawful_run [] (suc n) w sound lawful is = lawful
lawful_run (e ∷ es) (suc n) w sound lawful is =
    lawful_run es n (after_event w e) (run_sound w (e ∷ []) sound)
    (lawful_step w e sound lawful is.0) is.1

lawful_empty : IsLawfulContent []
lawful_empty = record {
  closed = record {
    ordered = tt;
    numbers = λ r h. absurd h;
    whole = λ origin number one few. absurd (omega (arith, one, few));
    ticks = λ r h. absurd h;
    rising = λ r s h. absurd h;
  };
  records = λ r h. absurd h;
}

pub lawful_at : (p : Execution) (time place : ℕ) (s : ReplicaState) → IsExecution p
    → IsStateAt p time place s → IsLawfulContent s.content
lawful_at p time place s past there =
    let first : AreLawful p.start = record {
      content = λ i a at. subst IsLawfulContent (sym (past.begins.replicas i a at).2) lawful_empty;
      number = λ i a at. (past.begins.replicas i a at).0;
    } in
    (lawful_run p.events time p.start (begins_sound p.start past.begins) first past.lawful).content
    place s there

pub lawful_was : (p : Execution) (s : ReplicaState) → IsExecution p → IsReachable p s
    → IsLawfulContent s.content
lawful_was p s past was = lawful_at p was.0 was.1 s past was.2

pub sixteen_was : (p : Execution) (s : ReplicaState) → IsExecution p → IsReachable p s
    → length s.id ≡ 16
sixteen_was p s past was = (replica_at p was.0 was.1 s past was.2).1

-- ---- two replicas

le_or : (m n : ℕ) → (m ≤ n) ⊎ (n ≤ m)
le_or zero n = inl (omega arith)
le_or (suc m) zero = inr (omega arith)
le_or (suc m) (suc n) = elim (le_or m n) [ inl h ↦ inl (omega arith) | inr h ↦ inr (omega arith) ]

-- they are of one archive, and hold no two records of one name
pub record AreTogether (s t : ReplicaState) : Type 0 where
  pub id : s.id ≡ t.id
  pub compatible : AreCompatible s.content t.content

from_earlier : (p : Execution) (s t : ReplicaState) (m n i j : ℕ) → IsExecution p → m ≤ n
    → IsStateAt p m i s → IsStateAt p n j t → AreTogether s t
from_earlier p s t m n i j past le one other =
    let x = (times_grown p.events m n p.start le).forth i s one in
    let sound = sound_at p past n in
    let same : AreCompatible x.0.content t.content = sound.compatible i j x.0 t x.1 other in
    record {
      id = sym x.2.id ∙ sound.one i j x.0 t x.1 other;
      compatible = λ r z h k e f. same r z (x.2.within r h) k e f;
    }

pub together : (p : Execution) (s t : ReplicaState) → IsExecution p → IsReachable p s
    → IsReachable p t → AreTogether s t
together p s t past a b = elim (le_or a.0 b.0) [
  | inl le ↦ from_earlier p s t a.0 b.0 a.1 b.1 past le a.2 b.2
  | inr le ↦
      let back = from_earlier p t s b.0 a.0 b.1 a.1 past le b.2 a.2 in
      record { id = sym back.id; compatible = compatible_back t.content s.content back.compatible }
]

-- what holds the same names has the same vector
names_vec : (R S : Content) → ((origin number : ℕ) → HasName R origin number
    → HasName S origin number) → (origin : ℕ) → vec R origin ≤ vec S origin
names_vec R S names origin = elim (vec_attained R origin) [
  | inl none ↦ omega (arith, none)
  | inr named ↦
      let z = names origin (vec R origin) named in
      let le : z.0.number ≤ vec S origin =
      subst (λ o. z.0.number ≤ vec S o) z.2.0 (vec_bounds S z.0 z.1) in
      let e = z.2.1 in
      omega (arith, le, e)
]

pub even_same : (p : Execution) (s t : ReplicaState) → IsExecution p → IsReachable p s
    → IsReachable p t → HasSameVector s t → s.content ≡ t.content
even_same p s t past a b even =
    same_content s.content t.content (lawful_was p s past a).closed (lawful_was p t past b).closed
    (together p s t past a b).compatible even

pub names_even : (s t : ReplicaState) → HaveLearnedSameNames s t → HasSameVector s t
names_even s t same origin =
    let one = names_vec s.content t.content (λ o n. (same o n).0) origin in
    let other = names_vec t.content s.content (λ o n. (same o n).1) origin in
    omega (arith, one, other)

pub learned_even : (p : Execution) (s t : ReplicaState) → IsExecution p → IsReachable p s
    → IsReachable p t → HaveLearnedSameNames s t ↔ HasSameVector s t
learned_even p s t past a b = (
  names_even s t,
  λ even.
      let e = even_same p s t past a b even in
      λ origin number. (
        subst (λ R. HasName R origin number) e,
        subst (λ R. HasName R origin number) (sym e),
      ),
)

pub same_learned : (p : Execution) (s t : ReplicaState) → IsExecution p → IsReachable p s
    → IsReachable p t → HaveLearnedSameNames s t → (s.id ≡ t.id) × (s.content ≡ t.content)
same_learned p s t past a b same =
    ((together p s t past a b).id, even_same p s t past a b (names_even s t same))

-- a replica at a later time
pub later_covers : (p : Execution) (now then place : ℕ) (t u : ReplicaState) → IsExecution p
    → now ≤ then → IsStateAt p now place t → IsStateAt p then place u
    → (t.id ≡ u.id) × (t.number ≡ u.number) × Covers u t
later_covers p now then place t u past le one other =
    let x = (times_grown p.events now then p.start le).forth place t one in
    let same : x.0 ≡ u = same_Some _ _ (sym x.1 ∙ other) in
    let g = subst (Grows t) same x.2 in (
      sym g.id,
      sym g.number,
      λ origin.
          names_vec t.content u.content
          (λ o n named. (named.0, g.within named.0 named.1, named.2)) origin,
    )
