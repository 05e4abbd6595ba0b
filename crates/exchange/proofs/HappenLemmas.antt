-- One event in a world of archives, and one after the other.
use Rattle.std.proofs.Common.{◌≡◌, ℕ, zero, suc, ◌+◌, ◌<◌, ◌≤◌, Bool, true, List, [], ◌∷◌, ◌++◌, map, take, length, get_or, Option, Some, None, option_map, Result, Ok, Err, IsErr, IfOk, true≢false, ◌||◌, refl, sym, ap, ◌∙◌, subst, arith, inl, inr, option_to_list}
use Rattle.std.specs.Prelude.{slice_get, slice_set}
use Rattle.std.specs.Option.{option_map_or}
use Rattle.std.proofs.lemmas.Option.{none-some, same_Some, slice_get-get_or, slice_get-map, slice_get_past, slice_get_within}
use Rattle.records.specs.Contents.{Content, merged}
use Rattle.records.specs.Records.{missing}
use Rattle.records.specs.declared.record.Record.{Record}
use Rattle.archive.specs.declared.fault.StoreFault.{StoreFault}
use Rattle.archive.specs.Store.{Store, Asks}
use Rattle.archive.proofs.Calls.{passes-none}
use Rattle.archive.proofs.Acting.{left-stays}
use Rattle.hist_update.specs.declared.request.Request.{Request}
use Rattle.hist_update.specs.Outcome.{Operation, outcome, content_after}
use Rattle.exchange.specs.declared.world.Halted.{Halted}
use Rattle.exchange.specs.Worlds.{ReplicaState, World, Event, Operates, Sends, Delivers, Restarts, after_event, run, operated, sent, delivered}
use Rattle.exchange.specs.Running.{IsSiteOf, world_of, Halts, AreSites, AreHonest, IsBroken, Comes, Happens, RunsWorld, Turned, Turns, IsSame, IsSameOr, HasLearnedFirst, Gives, came_in, HasSome, place_of, reads_store, turned, pooled, IsHalf, Became, TurnsBy}
use Rattle.std.proofs.lemmas.List.{take_all, set-set}
use Rattle.std.specs.List.{list_any}
use Rattle.std.proofs.lemmas.Bool.{cases_eq, cases_lt}
use Rattle.archive.specs.Store.{is_break}
use Rattle.exchange.proofs.WorldLemmas.{next_world, get-set_same, get-set_other}

-- ---- what was sent

pub sent_none : {X : Type 0} (a b : Store) (pool : List (List Record)) (v : ℕ → ℕ) (limit : ℕ)
    (fault : StoreFault) (end : Halted) (P : X → Type 0) → Asks {A = X} a b (Err fault) P
    → Gives a b pool pool v limit (Err end)
sent_none a b pool v limit fault end P asks = record {
  faults = option_to_list (Some fault);
  passes = asks.leaves.passes;
  ended = λ broken. refl;
  stays = λ honest R h. left-stays a b
      (option_to_list (Some fault)) R asks.stays asks.leaves.passes honest h;
  batch = λ honest R h. tt;
}

-- ---- what is delivered

twice : {X : Type 0} (k n : ℕ) (xs : List X) → (j : ℕ) × (j ≤ n) × (take k (take n xs) ≡ take j xs)
twice zero n xs = (0, omega arith, refl)
twice (suc k) zero xs = (0, omega arith, refl)
twice (suc k) (suc n) [] = (0, omega arith, refl)
twice (suc k) (suc n) (x ∷ xs) = let m = twice k n xs in
    (suc m.0, omega (arith, m.1), ap (λ l. x ∷ l) m.2)

pub came_none : (a : Store) (pool : List (List Record)) (place count : ℕ)
    → slice_get pool place ≡ None → Turns a a (came_in pool place count) (HasSome pool place count)
    (Ok tt)
came_none a pool place count none = record {
  faults = [];
  passes = passes-none a;
  came = λ honest S h. (
    S,
    h,
    sym (ap (λ (o : Option (List Record)).
        option_map_or (λ batch. merged (take count batch) S) o S) none),
  );
}

pub came_some : (a b : Store) (pool : List (List Record)) (place count : ℕ) (rs first : List Record)
    (result : Result (Unit {0}) Halted) → slice_get pool place ≡ Some rs → first ≡ take count rs
    → Turns a b (merged first) (HasLearnedFirst first) result
    → Turns a b (came_in pool place count) (HasSome pool place count) result
came_some a b pool place count rs first result some is turns = record {
  faults = turns.faults;
  passes = turns.passes;
  came = λ honest S h. let (R, was, so) = turns.came honest S h in
      (R, was, by_result result R S so);
}
  where
    came_at : (k : ℕ) (R : Content) → came_in pool place k R ≡ merged (take k rs) R
    came_at k R = ap (λ (o : Option (List Record)).
        option_map_or (λ batch. merged (take k batch) R) o R) some

    by_result : (res : Result (Unit {0}) Halted) (R S : Content)
        → Turned (merged first) (HasLearnedFirst first) res R S
        → Turned (came_in pool place count) (HasSome pool place count) res R S
    by_result (Ok u) R S so = so ∙ (ap (λ l. merged l R) is ∙ sym (came_at count R))
    by_result (Err end) R S so =
        let m = twice so.0 count rs in (
          m.0,
          m.1,
          so.1 ∙ (ap (λ l. merged (take so.0 l) R) is
              ∙ (ap (λ l. merged l R) m.2 ∙ sym (came_at m.0 R))),
        )

-- ---- an event at its replica

-- of a replica whose change doesn't touch the batches
module _ (a b : Store) (pool : List (List Record)) (e : Event) (change : Content → Content)
    (Leaves : Content → Content → Type 0)
    (so : (s : ReplicaState) → IsSiteOf a s → change s.content ≡ turned s pool e)
    (half : (s : ReplicaState) (S : Content) → IsSiteOf a s → Leaves s.content S
    → IsHalf b.broken s pool e S) (quiet : (s : ReplicaState) → pool ≡ pooled s pool e)
  where
    pub turns_by : (result : Result (Unit {0}) Halted) → Turns a b change Leaves result
        → (a.broken ≡ true → reads_store e ≡ true → IsErr result) → TurnsBy a b pool pool e result
    turns_by result turns ended = record {
      faults = turns.faults;
      passes = turns.passes;
      ended = ended;
      came = λ honest t is.
          let (R, was, came) = turns.came honest t.content is.content in
          let s : ReplicaState = record t { content = R } in
          let there : IsSiteOf a s = record {
            id = sym turns.passes.id ∙ is.id;
            number =
                sym turns.passes.own ∙ is.number;
            content = was;
          } in
          (s, there, by_result s t.content there result came);
    }
      where
        by_result : (s : ReplicaState) (S : Content) → IsSiteOf a s
            → (res : Result (Unit {0}) Halted) → Turned change Leaves res s.content S
            → Became b.broken s pool pool e res (record s { content = S })
        by_result s S there (Ok u) came = (
          ap (λ (Q : Content). let t : ReplicaState = record s { content = Q } in t)
              (came ∙ so s there),
          quiet s,
        )
        by_result s S there (Err end) came = (S, half s S there came, refl)

pub operates_by : (a b : Store) (pool : List (List Record)) (i : ℕ) (request : Request)
    (op : Operation) (result : Result (Unit {0}) Halted)
    → Turns a b (λ R. content_after R (outcome R a.own request op))
    (IsSameOr b.broken (λ R. content_after R (outcome R a.own request op))) result
    → TurnsBy a b pool pool (Operates i request op) result
operates_by a b pool i request op result turns =
    turns_by a b pool (Operates i request op) (λ R. content_after R (outcome R a.own request op))
    (IsSameOr b.broken (λ R. content_after R (outcome R a.own request op))) so
    (λ s S is left. elim left [ inl same ↦ inl same | inr more ↦ inr (more.0, more.1 ∙ so s is) ])
    (λ s. refl) result turns (λ broken reads. absurd (true≢false (sym reads)))
  where
    so : (s : ReplicaState) → IsSiteOf a s
        → content_after s.content (outcome s.content a.own request op) ≡ operated request op s
    so s is = ap (λ (n : ℕ). content_after s.content (outcome s.content n request op)) is.number

pub delivers_by : (a b : Store) (pool : List (List Record)) (i place count : ℕ)
    (result : Result (Unit {0}) Halted)
    → Turns a b (came_in pool place count) (HasSome pool place count) result
    → TurnsBy a b pool pool (Delivers i place count) result
delivers_by a b pool i place count result turns =
    turns_by a b pool (Delivers i place count) (came_in pool place count) (HasSome pool place count)
    (λ s is. refl) (λ s S is e. e) (λ s. refl) result turns
    (λ broken reads. absurd (true≢false (sym reads)))

pub restarts_by : (a b : Store) (pool : List (List Record)) (i : ℕ)
    (result : Result (Unit {0}) Halted) → Turns a b (λ R. R) IsSame result
    → (a.broken ≡ true → IsErr result) → TurnsBy a b pool pool (Restarts i) result
restarts_by a b pool i result turns ended =
    turns_by a b pool (Restarts i) (λ R. R) IsSame (λ s is. refl) (λ s S is e. e)
    (λ s. refl) result turns (λ broken reads. ended broken)

pub sends_by : (a b : Store) (pool later : List (List Record)) (i : ℕ) (v : ℕ → ℕ) (limit : ℕ)
    (result : Result (Unit {0}) Halted) → Gives a b pool later v limit result
    → TurnsBy a b pool later (Sends i v limit) result
sends_by a b pool later i v limit result gives = record {
  faults = gives.faults;
  passes = gives.passes;
  ended = λ broken reads. gives.ended broken;
  came = λ honest t is. (
    t,
    record {
      id = sym gives.passes.id ∙ is.id;
      number = sym gives.passes.own ∙ is.number;
      content =
          gives.stays honest t.content is.content;
    },
    by_result t result (gives.batch honest t.content is.content),
  );
}
  where
    by_result : (t : ReplicaState) (res : Result (Unit {0}) Halted)
        → IfOk res (λ _. later ≡ pool ++ missing t.content v limit ∷ [])
        → Became b.broken t pool later (Sends i v limit) res t
    by_result t (Ok u) batch = (refl, batch)
    by_result t (Err end) batch = (t.content, refl, refl)

-- ---- an event in a world

pub set_same : {X : Type 0} (xs : List X) (i : ℕ) (x : X) → slice_get xs i ≡ Some x
    → slice_set xs i x ≡ xs
set_same [] i x e = refl
set_same (y ∷ ys) zero x e = ap (λ z. z ∷ ys) (sym (same_Some _ _ e))
set_same (y ∷ ys) (suc i) x e = ap (λ l. y ∷ l) (set_same ys i x e)

abbrev now_there : List ReplicaState → ℕ → ReplicaState → Content → List ReplicaState
now_there sites i s R = slice_set sites i (record s { content = R })

module _ (sites : List ReplicaState) (pool : List (List Record)) where
  -- where its replica isn't there
  step_none : (e : Event) → slice_get sites (place_of e) ≡ None
      → after_event (world_of sites pool) e ≡ world_of sites pool
  step_none (Operates i request op) none =
      ap (λ (o : Option ReplicaState).
      world_of (option_map_or (λ s. now_there sites i s (operated request op s)) o sites) pool) none
  step_none (Sends i v limit) none =
      ap (λ (o : Option ReplicaState). world_of sites (option_map_or (sent v limit pool) o pool))
      none
  step_none (Delivers i b count) none = by_batch (slice_get pool b)
    where
      by_batch : (o : Option (List Record))
          → world_of (option_map_or (delivered i count sites) o sites) pool ≡ world_of sites pool
      by_batch None = refl
      by_batch (Some batch) = ap (λ (o : Option ReplicaState).
          world_of (option_map_or (λ s. now_there sites i s (merged (take count batch) s.content)) o
          sites) pool) none
  step_none (Restarts i) none = refl

  -- and where it is
  step_sites : (e : Event) (s : ReplicaState) → slice_get sites (place_of e) ≡ Some s
      → (after_event (world_of sites pool) e).replicas
      ≡ now_there sites (place_of e) s (turned s pool e)
  step_sites (Operates i request op) s some =
      ap (λ (o : Option ReplicaState).
      option_map_or (λ x. now_there sites i x (operated request op x)) o sites) some
  step_sites (Sends i v limit) s some = sym (set_same sites i s some)
  step_sites (Delivers i b count) s some = by_batch (slice_get pool b)
    where
      by_batch : (o : Option (List Record))
          → option_map_or (delivered i count sites) o sites
          ≡ now_there sites i s (option_map_or
          (λ batch. merged (take count batch) s.content) o s.content)
      by_batch None = sym (set_same sites i s some)
      by_batch (Some batch) = ap (λ (o : Option ReplicaState).
          option_map_or (λ x. now_there sites i x (merged (take count batch) x.content)) o sites)
          some
  step_sites (Restarts i) s some = sym (set_same sites i s some)

  step_pool : (e : Event) (s : ReplicaState) → slice_get sites (place_of e) ≡ Some s
      → (after_event (world_of sites pool) e).pool ≡ pooled s pool e
  step_pool (Operates i request op) s some = refl
  step_pool (Sends i v limit) s some =
      ap (λ (o : Option ReplicaState). option_map_or (sent v limit pool) o pool) some
  step_pool (Delivers i b count) s some = refl
  step_pool (Restarts i) s some = refl

  step_half : (Broke : ℕ → Type 0) (broken : Bool) (e : Event) (s : ReplicaState) (S : Content)
      → (broken ≡ true → Broke (place_of e)) → slice_get sites (place_of e) ≡ Some s
      → IsHalf broken s pool e S
      → Halts Broke (world_of sites pool) e (now_there sites (place_of e) s S)
  step_half Broke broken (Operates i request op) s S broke some (inl is) =
      inl (ap (now_there sites i s) is ∙ set_same sites i s some)
  step_half Broke broken (Operates i request op) s S broke some (inr is) =
      inr (
        broke is.0,
        ap (now_there sites i s) is.1
            ∙ sym (step_sites (Operates i request op) s some),
      )
  step_half Broke broken (Sends i v limit) s S broke some is =
      ap (now_there sites i s) is ∙ set_same sites i s some
  step_half Broke broken (Delivers i b count) s S broke some is =
      (is.0, is.1, ap (now_there sites i s) is.2 ∙ sym (step_sites (Delivers i b is.0) s some))
  step_half Broke broken (Restarts i) s S broke some is =
      ap (now_there sites i s) is ∙ set_same sites i s some

module _ {A : Type 0} (state : A → Store) where
  pub site_there : (archives : List A) (sites : List ReplicaState) (i : ℕ) (a : A)
      → AreSites state archives sites → slice_get archives i ≡ Some a
      → (s : ReplicaState) × (slice_get sites i ≡ Some s) × IsSiteOf (state a) s
  site_there [] [] i a are e = absurd (none-some _ e)
  site_there [] (s ∷ sites) i a are e = absurd are
  site_there (x ∷ archives) [] i a are e = absurd are
  site_there (x ∷ archives) (s ∷ sites) zero a are e =
      (s, refl, subst (λ y. IsSiteOf (state y) s) (same_Some _ _ e) are.0)
  site_there (x ∷ archives) (s ∷ sites) (suc i) a are e = site_there archives sites i a are.1 e

  pub sites_set : (archives : List A) (sites : List ReplicaState) (i : ℕ) (b : A) (s : ReplicaState)
      → AreSites state archives sites → IsSiteOf (state b) s
      → AreSites state (slice_set archives i b) (slice_set sites i s)
  sites_set [] [] i b s are is = tt
  sites_set [] (x ∷ sites) i b s are is = absurd are
  sites_set (x ∷ archives) [] i b s are is = absurd are
  sites_set (x ∷ archives) (y ∷ sites) zero b s are is = (is, are.1)
  sites_set (x ∷ archives) (y ∷ sites) (suc i) b s are is =
      (are.0, sites_set archives sites i b s are.1 is)

  site_none : (archives : List A) (sites : List ReplicaState) (i : ℕ)
      → AreSites state archives sites → slice_get archives i ≡ None → slice_get sites i ≡ None
  site_none [] [] i are e = refl
  site_none [] (s ∷ sites) i are e = absurd are
  site_none (x ∷ archives) [] i are e = absurd are
  site_none (x ∷ archives) (s ∷ sites) zero are e = absurd (none-some _ (sym e))
  site_none (x ∷ archives) (s ∷ sites) (suc i) are e = site_none archives sites i are.1 e

  -- before one of them was put in its place, the others were what they are, and it was that of what
  -- stood there
  sites_before : (archives : List A) (left : List ReplicaState) (i : ℕ) (a b : A)
      → slice_get archives i ≡ Some a → AreSites state (slice_set archives i b) left
      → (t : ReplicaState) × (slice_get left i ≡ Some t) × IsSiteOf (state b) t
      × ((s : ReplicaState) → IsSiteOf (state a) s → AreSites state archives (slice_set left i s))
  sites_before [] left i a b e are = absurd (none-some _ e)
  sites_before (x ∷ archives) [] zero a b e are = absurd are
  sites_before (x ∷ archives) [] (suc i) a b e are = absurd are
  sites_before (x ∷ archives) (t ∷ left) zero a b e are = (
    t,
    refl,
    are.0,
    λ s is. (
      subst (λ y. IsSiteOf (state y) s) (sym (same_Some _ _ e)) is,
      are.1,
    ),
  )
  sites_before (x ∷ archives) (t ∷ left) (suc i) a b e are =
      let (u, there, is, before) = sites_before archives left i a b e are.1 in
      (u, there, is, λ s now. (are.0, before s now))

  honest_there : (archives : List A) (i : ℕ) (a b : A) → slice_get archives i ≡ Some a
      → AreHonest state (slice_set archives i b) → (state b).honest
  honest_there [] i a b e honest = absurd (none-some _ e)
  honest_there (x ∷ archives) zero a b e honest = honest.0
  honest_there (x ∷ archives) (suc i) a b e honest = honest_there archives i a b e honest.1

  honest_before : (archives : List A) (i : ℕ) (a b : A) → slice_get archives i ≡ Some a
      → (state a).honest → AreHonest state (slice_set archives i b) → AreHonest state archives
  honest_before [] i a b e was honest = tt
  honest_before (x ∷ archives) zero a b e was honest =
      (subst (λ y. (state y).honest) (sym (same_Some _ _ e)) was, honest.1)
  honest_before (x ∷ archives) (suc i) a b e was honest =
      (honest.0, honest_before archives i a b e was honest.1)

  module _ (archives : List A) (pool : List (List Record)) (e : Event) where
    pub happens_none : slice_get archives (place_of e) ≡ None
        → Happens state archives archives pool pool e (Ok tt)
    happens_none none = record {
      honest = λ honest. honest;
      stays = λ i broken. broken;
      ended = λ broken reads. absurd (none-some _ (sym none ∙ broken.1));
      came = λ honest left are. (
        left,
        are,
        sym (step_none left pool e (site_none archives left (place_of e) are none)),
      );
    }

    module _ (later : List (List Record)) (a b : A)
        (there : slice_get archives (place_of e) ≡ Some a) where
      abbrev archives_then : List A
      archives_then = slice_set archives (place_of e) b

      broke : (state b).broken ≡ true → IsBroken state archives_then (place_of e)
      broke broken = (b, get-set_same archives (place_of e) b a there, broken)

      pub happens : (result : Result (Unit {0}) Halted)
          → TurnsBy (state a) (state b) pool later e result
          → Happens state archives archives_then pool later e result
      happens result turns = record {
        honest = λ honest. honest_before archives (place_of e) a b there
            (turns.passes.honest (honest_there archives (place_of e) a b there honest)) honest;
        stays = λ i broken. elim (cases_eq i (place_of e)) [
          | inl here ↦ subst (IsBroken state archives_then) (sym here)
              (broke (broken_then (was_broken i here broken)))
          | inr other ↦ (
            broken.0,
            get-set_other archives (place_of e) i b other ∙ broken.1,
            broken.2,
          )
        ];
        ended = λ broken reads. turns.ended (was_broken (place_of e) refl broken) reads;
        came = λ honest left are.
            let (t, at, is, before) = sites_before archives left (place_of e) a b there are in
            let (s, was, became) =
            turns.came (honest_there archives (place_of e) a b there honest) t is in
            let sites = slice_set left (place_of e) s in
            (sites, before s was, by_result left s t at result became);
      }
        where
          was_broken : (i : ℕ) → i ≡ place_of e → IsBroken state archives i
              → (state a).broken ≡ true
          was_broken i here broken =
              subst (λ y. (state y).broken ≡ true)
              (same_Some _ _ (sym broken.1 ∙ (ap (slice_get archives) here ∙ there))) broken.2

          broken_then : (state a).broken ≡ true → (state b).broken ≡ true
          broken_then broken = turns.passes.broken
              ∙ ap (λ (x : Bool). x || list_any is_break turns.faults) broken

          -- where it stood, it stands again
          again : (left : List ReplicaState) (s t : ReplicaState)
              → slice_get left (place_of e) ≡ Some t
              → slice_set (slice_set left (place_of e) s) (place_of e) t ≡ left
          again left s t at = set-set left (place_of e) s t ∙ set_same left (place_of e) t at

          by_result : (left : List ReplicaState) (s t : ReplicaState)
              → slice_get left (place_of e) ≡ Some t → (res : Result (Unit {0}) Halted)
              → Became (state b).broken s pool later e res t
              → Comes state archives_then e res (world_of (slice_set left (place_of e) s) pool)
              (world_of left later)
          by_result left s t at (Ok u) became =
              let sites = slice_set left (place_of e) s in
              let here = get-set_same left (place_of e) s t at in
              let same : left ≡ (after_event (world_of sites pool) e).replicas =
              sym (again left s t at) ∙ (ap (slice_set sites (place_of e)) became.0
              ∙ sym (step_sites sites pool e s here)) in
              let batches : later ≡ (after_event (world_of sites pool) e).pool =
              became.1 ∙ sym (step_pool sites pool e s here) in
              ap (λ (l : List ReplicaState). world_of l later) same
              ∙ ap (world_of (after_event (world_of sites pool) e).replicas) batches
          by_result left s t at (Err end) became =
              let sites = slice_set left (place_of e) s in
              let here = get-set_same left (place_of e) s t at in
              let half = step_half sites pool (IsBroken state archives_then)
              (state b).broken e s became.0 broke here became.1 in
              subst (Halts (IsBroken state archives_then) (world_of sites pool) e)
              (ap (slice_set sites (place_of e)) (sym became.2) ∙ again left s t at) half

    pub happens_at : (i : ℕ) → i ≡ place_of e → (later : List (List Record)) (a b : A)
        → slice_get archives i ≡ Some a → (result : Result (Unit {0}) Halted)
        → TurnsBy (state a) (state b) pool later e result
        → Happens state archives (slice_set archives i b) pool later e result
    happens_at i same later a b there result t =
        subst (λ n. Happens state archives (slice_set archives n b) pool later e result) (sym same)
        (happens later a b (ap (slice_get archives) (sym same) ∙ there) result t)

    pub happens_past : (i : ℕ) → i ≡ place_of e → length archives ≤ i
        → Happens state archives archives pool pool e (Ok tt)
    happens_past i same past = happens_none (ap (slice_get archives) (sym same)
        ∙ slice_get_past archives i past)

  -- ---- one after the other

  -- so many of the events happened
  pub record RanSo (old now : List A) (pool : List (List Record)) (events : List Event) (n : ℕ) :
      Type 0 where
    pub honest : AreHonest state now → AreHonest state old
    pub stays : (i : ℕ) → IsBroken state old i → IsBroken state now i
    pub ended : (m : ℕ) (event : Event) → m < n → slice_get events m ≡ Some event
        → reads_store event ≡ true → IsBroken state old (place_of event) → ⊥
    pub ran : AreHonest state now → (left : List ReplicaState) → AreSites state now left
        → (sites : List ReplicaState) × AreSites state old sites
        × (world_of left pool ≡ run (take n events) (world_of sites []))

  pub ran_none : (old : List A) (events : List Event) → RanSo old old [] events 0
  ran_none old events = record {
    honest = λ honest. honest;
    stays = λ i broken. broken;
    ended = λ m event less. absurd (omega (arith, less));
    ran = λ honest left are. (left, are, refl);
  }

  -- all of them did
  pub ran_all : (old now : List A) (pool : List (List Record)) (events : List Event) (n : ℕ)
      → RanSo old now pool events n → length events ≤ n → RunsWorld state old now events (Ok tt)
  ran_all old now pool events n so all = record {
    ran = λ honest left are.
        let (sites, was, world) = so.ran honest left are in (
          sites,
          was,
          ap (λ (w : World). w.replicas) world
              ∙ ap (λ es. (run es (world_of sites [])).replicas) (take_all n events all),
        );
    ended = λ m event there. so.ended m event (below (length events) n m
        (slice_get_within events m event there) all) there;
  }
    where
      below : (k n m : ℕ) → m < k → k ≤ n → m < n
      below k n m less le = omega (arith, less, le)

  module _ (old now new : List A) (pool later : List (List Record)) (events : List Event) (n : ℕ)
      (e : Event) (so : RanSo old now pool events n) (next : slice_get events n ≡ Some e) where
    pub ran_more : Happens state now new pool later e (Ok tt) → RanSo old new later events (n + 1)
    ran_more happens = record {
      honest = λ honest. so.honest (happens.honest honest);
      stays = λ i broken. happens.stays i (so.stays i broken);
      ended = λ m event less there reads broken. elim (cases_lt m n) [
        | inl before ↦ so.ended m event before there reads broken
        | inr behind ↦
            let here : m ≡ n = omega (arith, less, behind) in
            let is : event ≡ e = same_Some _ _ (sym there ∙ (ap (slice_get events) here ∙ next)) in
            absurd (true≢false (sym
            (happens.ended (so.stays (place_of e)
            (subst (λ (x : Event). IsBroken state old (place_of x)) is broken))
            (subst (λ (x : Event). reads_store x ≡ true) is reads))))
      ];
      ran = λ honest left are.
          let (between, were, came) = happens.came honest left are in
          let (sites, was, world) = so.ran (happens.honest honest) between were in
          let one : suc n ≡ n + 1 = omega arith in (
            sites,
            was,
            came ∙ (ap (λ w. after_event w e) world
                ∙ (sym (next_world events n (world_of sites []) e next)
                ∙ ap (λ k. run (take k events) (world_of sites [])) one)),
          );
    }

    pub ran_stops : (end : Halted) → Happens state now new pool later e (Err end)
        → RunsWorld state old new events (Err n)
    ran_stops end happens = record {
      ran = λ honest left are.
          let (between, were, came) = happens.came honest left are in
          let (sites, was, world) = so.ran (happens.honest honest) between were in
          (sites, was, (e, next, subst (λ w. Halts (IsBroken state new) w e left) world came));
      ended = λ m event there reads broken.
          at_most m (λ less. so.ended m event less there reads broken);
    }
      where
        at_most : (m : ℕ) → (m < n → ⊥) → n ≤ m
        at_most m over = elim (cases_lt m n) [ inl less ↦ absurd (over less) | inr le ↦ le ]

-- the item at a place, of a mapped list
pub next_mapped : {X Y : Type 0} (f : X → Y) (xs : List X) (i : ℕ) (d x : X) → i < length xs
    → x ≡ get_or xs i d → slice_get (map f xs) i ≡ Some (f x)
next_mapped f xs i d x lt is = slice_get-map f xs i
    ∙ ap (option_map f) (slice_get-get_or xs i d lt ∙ ap Some (sym is))

pub past_mapped : {X Y : Type 0} (f : X → Y) (xs : List X) (i : ℕ) → length xs ≤ i
    → slice_get (map f xs) i ≡ None
past_mapped f xs i le = slice_get-map f xs i ∙ ap (option_map f) (slice_get_past xs i le)
