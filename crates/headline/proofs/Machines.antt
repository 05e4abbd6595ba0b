-- Machines hold what the replicas of a past do.
use Rattle.std.proofs.Common.{◌≡◌, ℕ, zero, suc, List, [], ◌∷◌, ◌++◌, map, length, Option, Some, refl, sym, ap, ◌∙◌, subst, arith, inl, inr}
use Rattle.std.specs.Prelude.{slice_get, slice_set}
use Rattle.std.specs.List.{AllByRecursion}
use Rattle.std.proofs.lemmas.Bool.{cases_eq}
use Rattle.std.proofs.lemmas.List.{take_all}
use Rattle.std.proofs.lemmas.Option.{none-some, same_Some}
use Rattle.stamp.specs.Limits.{IsReplica}
use Rattle.ua_binary.specs.declared.values.NodeId.{NodeId}
use Rattle.ua_services.specs.declared.history.HistoryReadResult.{HistoryReadResult}
use Rattle.records.specs.Lists.{Has}
use Rattle.records.specs.Contents.{Content, vec}
use Rattle.records.specs.Spelling.{IsLawfulRecord}
use Rattle.records.specs.declared.record.Record.{Record}
use Rattle.archive.specs.Store.{Store, IsSettled, IsLeft}
use Rattle.archive.proofs.Acting.{left-alone}
use Rattle.hist_read.specs.declared.query.Query.{Query}
use Rattle.exchange.specs.Dialogs.{party_of}
use Rattle.exchange.specs.Meetings.{CanMeet}
use Rattle.exchange.specs.Running.{AreSites, IsSiteOf}
use Rattle.exchange.specs.Worlds as worlds
use Rattle.exchange.specs.Worlds.{ReplicaState, World, Event, IsReplicaAt, IsConsistent, AreUpdates, run}
use Rattle.exchange.proofs.WorldLemmas.{get-set_same, get-set_other}
use Rattle.exchange.proofs.HappenLemmas.{site_there, sites_set, set_same}
use Rattle.exchange.proofs.ConverseLemmas.{IsParty}
use Rattle.ua_peers.specs.Events.{IsExchange, AreExchanges}
use Rattle.ua_server.proofs.Updated.{updates_made}
use Rattle.ua_peers.proofs.Exchanged.{run_append, exchanged, ends_kept}
use Rattle.headline.specs.Executions.{IsLawfulEvent, Execution, IsExecution, world_at, IsStateAt, IsReachable, HaveLearnedSameNames, IsBeginning}
use Rattle.headline.specs.Answers.{IsInUse, IsReplicaOf, IsReadAnswered, ReportsNoFailure}
use Rattle.headline.specs.Machines.{RestartsAs, IsMachine, AreInUse, AreNew, Simulates, ExtendsTo, Serves, MachinesSync, Restarts}
use Rattle.headline.proofs.Times.{sound_at, replica_at, learned_even}
use Rattle.headline.proofs.Alike.{answered_alike}

-- ---- lists

-- lists that have the same at each place are one
same_lists : {X : Type 0} (xs ys : List X) → ((i : ℕ) → slice_get xs i ≡ slice_get ys i) → xs ≡ ys
same_lists [] [] same = refl
same_lists [] (y ∷ ys) same = absurd (none-some y (same 0))
same_lists (x ∷ xs) [] same = absurd (none-some x (sym (same 0)))
same_lists (x ∷ xs) (y ∷ ys) same =
    ap (λ z. z ∷ xs) (same_Some x y (same 0))
    ∙ ap (λ l. y ∷ l) (same_lists xs ys (λ i. same (suc i)))

pub set_by : {X : Type 0} (xs ys : List X) (i : ℕ) (x y : X) → slice_get xs i ≡ Some x
    → slice_get ys i ≡ Some y → ((j : ℕ) → (j ≡ i → ⊥) → slice_get ys j ≡ slice_get xs j)
    → ys ≡ slice_set xs i y
set_by xs ys i x y at now others = same_lists ys (slice_set xs i y) (λ j. elim (cases_eq j i) [
  | inl e ↦ ap (slice_get ys) e ∙ (now
      ∙ (sym (get-set_same xs i y x at) ∙ ap (slice_get (slice_set xs i y)) (sym e)))
  | inr other ↦ others j other ∙ sym (get-set_other xs i j y other)
])

get_map : {X Y : Type 0} (f : X → Y) (xs : List X) (i : ℕ) (y : Y) → slice_get (map f xs) i ≡ Some y
    → (x : X) × (slice_get xs i ≡ Some x) × (y ≡ f x)
get_map f [] i y e = absurd (none-some y e)
get_map f (x ∷ xs) zero y e = (x, refl, sym (same_Some _ _ e))
get_map f (x ∷ xs) (suc i) y e = get_map f xs i y e

pub all_there : {X : Type 0} (P : X → Type 0) (xs : List X) (i : ℕ) (x : X) → AllByRecursion P xs
    → slice_get xs i ≡ Some x → P x
all_there P [] i x all e = absurd (none-some x e)
all_there P (y ∷ xs) zero x all e = subst P (same_Some _ _ e) all.0
all_there P (y ∷ xs) (suc i) x all e = all_there P xs i x all.1 e

pub all_set : {X : Type 0} (P : X → Type 0) (xs : List X) (i : ℕ) (x : X) → AllByRecursion P xs
    → P x
    → AllByRecursion P (slice_set xs i x)
all_set P [] i x all is = tt
all_set P (y ∷ xs) zero x all is = (is, all.1)
all_set P (y ∷ xs) (suc i) x all is = (all.0, all_set P xs i x all.1 is)

all_append : {X : Type 0} (P : X → Type 0) (xs ys : List X) → AllByRecursion P xs
    → AllByRecursion P ys → AllByRecursion P (xs ++ ys)
all_append P [] ys all more = more
all_append P (x ∷ xs) ys all more = (all.0, all_append P xs ys all.1 more)

-- ---- lawful events

pub updates_lawful : (i : ℕ) (events : List Event) → AreUpdates i events
    → AllByRecursion IsLawfulEvent events
updates_lawful i [] are = tt
updates_lawful i (e ∷ es) are = (
  subst IsLawfulEvent (sym are.0.2) (are.0.3, are.0.4, are.0.5),
  updates_lawful i es are.1,
)

pub exchange_lawful : (i : ℕ) (e : Event) → IsExchange i e → IsLawfulEvent e
exchange_lawful i e (inl sends) = subst IsLawfulEvent (sym sends.2) tt
exchange_lawful i e (inr delivers) = subst IsLawfulEvent (sym delivers.2) tt

exchanges_lawful : (i j : ℕ) (events : List Event) → AreExchanges i j events
    → AllByRecursion IsLawfulEvent events
exchanges_lawful i j [] are = tt
exchanges_lawful i j (e ∷ es) are = (
  elim are.0 [ inl h ↦ exchange_lawful i e h | inr h ↦ exchange_lawful j e h ],
  exchanges_lawful i j es are.1,
)

-- ---- one machine

settled : (a : Store) → IsInUse a → IsSettled a
settled a used = used.durable used.honest used.unbroken

-- it is left with what it holds
held_by : (a : Store) (R : Content) → IsInUse a → a.content ≡ R → IsLeft a R
held_by a R used held = inl (used.unbroken, held)

-- and it holds what its replica does
pub in_site : (a : Store) (s : ReplicaState) → IsInUse a → IsSiteOf a s → a.content ≡ s.content
in_site a s used is = sym (left-alone a s.content used.durable used.honest used.unbroken is.content)

-- the end of a past is a time of it
pub ends_at : (p : Execution) → world_at p (length p.events) ≡ run p.events p.start
ends_at p = ap (λ (l : List Event). run l p.start)
    (take_all (length p.events) p.events (omega arith))

module _ {A : Type 0} (state : A → Store) where
  -- ---- the beginning

  abbrev pub first_site : A → ReplicaState
  first_site a = record { id = (state a).id; number = (state a).own; content = [] }

  first_sites : (machines : List A) → AreInUse state machines
      → AllByRecursion (λ a. (state a).content ≡ []) machines
      → AreSites state machines (map first_site machines)
  first_sites [] used empty = tt
  first_sites (a ∷ machines) used empty = (
    record { id = refl; number = refl; content = held_by (state a) [] used.0 empty.0 },
    first_sites machines used.1 empty.1,
  )

  abbrev pub first_world : List A → World
  first_world machines = record { replicas = map first_site machines; pool = [] }

  pub beginning : (machines : List A) → AreNew state machines → IsBeginning (first_world machines)
  beginning machines new = record {
    replicas = λ i s at.
        let a = get_map first_site machines i s at in
        let is = all_there (λ a. IsReplica (state a).own × (length (state a).id ≡ 16)) machines i
        a.0 new.replicas a.1 in
        subst (λ (x : ReplicaState). IsReplica x.number × (length x.id ≡ 16) × (x.content ≡ []))
        (sym a.2) (is.0, is.1, refl);
    together = λ i j s t at to.
        let a = get_map first_site machines i s at in
        let b = get_map first_site machines j t to in (
          ap (λ (x : ReplicaState). x.id) a.2 ∙ (new.one i j a.0 b.0 a.1 b.1
              ∙ ap (λ (x : ReplicaState). x.id) (sym b.2)),
          λ e. new.apart i j a.0 b.0 a.1 b.1 (ap (λ (x : ReplicaState). x.number) (sym a.2)
              ∙ (e ∙ ap (λ (x : ReplicaState). x.number) b.2)),
        );
    pool = refl;
  }

  pub begun : (machines : List A) → AreNew state machines
      → (p : Execution) × (p.events ≡ []) × Simulates state p machines
  begun machines new = (
    record { start = first_world machines; events = [] },
    refl,
    record {
      past = record {
        begins = beginning machines new;
        lawful = tt;
      };
      used = new.used;
      hold = first_sites machines new.used new.empty;
    },
  )

  -- ---- what happens since

  -- lawful events, behind which the machines hold what the replicas do
  pub simulates_on : (p : Execution) (machines : List A) (more : List Event) → IsExecution p
      → AreInUse state machines → AllByRecursion IsLawfulEvent more
      → AreSites state machines (run more (run p.events p.start)).replicas
      → Simulates state (record p { events = p.events ++ more }) machines
  simulates_on p machines more past used lawful hold = record {
    past = record {
      begins = past.begins;
      lawful =
          all_append IsLawfulEvent p.events more past.lawful lawful;
    };
    used = used;
    hold = subst (λ (w : World). AreSites state machines w.replicas)
        (sym (run_append p.events more p.start)) hold;
  }

  goes_on : (p : Execution) (machines : List A) (more : List Event) → IsExecution p
      → AreInUse state machines → AllByRecursion IsLawfulEvent more
      → AreSites state machines (run more (run p.events p.start)).replicas
      → ExtendsTo state p machines
  goes_on p machines more past used lawful hold = (
    record p { events = p.events ++ more },
    (more, refl),
    simulates_on p machines more past used lawful hold,
  )

  -- a machine that goes on holds what its replica does
  pub goes_as : (left later : Store) (s : ReplicaState) → RestartsAs left later → left.id ≡ s.id
      → left.own ≡ s.number → IsSiteOf later (record s { content = later.content })
  goes_as left later s goes id own = record {
    id = goes.id ∙ id;
    number = goes.own ∙ own;
    content =
        held_by later later.content goes.used refl;
  }

  pub lawful_later : (a : Store) → IsInUse a → (r : Record) → Has a.content r → IsLawfulRecord r
  lawful_later a used r h = (settled a used).lawful.records r h

  pub served : (p : Execution) (old new : List A) → Simulates state p old → Serves state old new
      → ExtendsTo state p new
  served p old new are serves =
      let w = run p.events p.start in
      let site = site_there state old w.replicas serves.place serves.before are.hold serves.there in
      let s = site.0 in
      let used = all_there (λ a. IsInUse (state a)) old serves.place serves.before are.used
      serves.there in
      let made = updates_made serves.settings (state serves.before)
      (state serves.behind) serves.first serves.unread serves.left serves.written serves.after
      serves.given serves.ending serves.serves used.durable used.unbroken serves.honest
      w serves.place s (state serves.later).content serves.goes.content
      (lawful_later (state serves.later) serves.goes.used) site.1 (sym site.2.number)
      (sym (in_site (state serves.before) s used site.2)) in
      let v = run made.0 w in
      let t : ReplicaState = record s { content = (state serves.later).content } in
      let sites : v.replicas ≡ slice_set w.replicas serves.place t =
      set_by w.replicas v.replicas serves.place s t site.1 made.2.here made.2.others in
      let passes = serves.serves.served.passes in
      let hold : AreSites state (slice_set old serves.place serves.later)
      (slice_set w.replicas serves.place t) =
      sites_set state old w.replicas serves.place serves.later t are.hold
      (goes_as (state serves.behind) (state serves.later) s serves.goes (passes.id ∙ site.2.id)
      (passes.own ∙ site.2.number)) in
      subst (ExtendsTo state p) (sym serves.now)
      (goes_on p (slice_set old serves.place serves.later) made.0 are.past
      (all_set (λ a. IsInUse (state a)) old serves.place serves.later are.used serves.goes.used)
      (updates_lawful serves.place made.0 made.1)
      (subst (AreSites state (slice_set old serves.place serves.later)) (sym sites) hold))

  -- two machines of a past may meet
  may_meet : (p : Execution) (machines : List A) (i j : ℕ) (a b : A) → Simulates state p machines
      → (i ≡ j → ⊥) → IsMachine state machines i a → IsMachine state machines j b
      → CanMeet (state a) (state b) × IsParty (party_of (state a)) × IsParty (party_of (state b))
  may_meet p machines i j a b are other at to =
      let w = run p.events p.start in
      let x = site_there state machines w.replicas i a are.hold at in
      let y = site_there state machines w.replicas j b are.hold to in
      let used = all_there (λ a. IsInUse (state a)) machines i a are.used at in
      let used' = all_there (λ a. IsInUse (state a)) machines j b are.used to in
      let sound : IsConsistent w =
      subst IsConsistent (ends_at p) (sound_at p are.past (length p.events)) in
      let is = replica_at p (length p.events) i x.0 are.past
      (subst (λ (v : World). IsReplicaAt v i x.0) (sym (ends_at p)) x.1) in
      let is' = replica_at p (length p.events) j y.0 are.past
      (subst (λ (v : World). IsReplicaAt v j y.0) (sym (ends_at p)) y.1) in
      let content : (state a).content ≡ x.0.content = in_site (state a) x.0 used x.2 in
      let content' : (state b).content ≡ y.0.content = in_site (state b) y.0 used' y.2 in (
        record {
          id = x.2.id ∙ (sound.one i j x.0 y.0 x.1 y.1 ∙ sym y.2.id);
          apart = λ e. other (sound.apart i j x.0 y.0 x.1 y.1 (sym x.2.number ∙ (e ∙ y.2.number)));
          one = (used.durable, used.unbroken);
          other = (used'.durable, used'.unbroken);
          compatible = λ r z h k. sound.compatible i j x.0 y.0 x.1 y.1 r z
              (subst (λ (S : Content). Has S r) content h)
              (subst (λ (S : Content). Has S z) content' k);
        },
        record { id = ap length x.2.id ∙ is.1; own = subst IsReplica (sym x.2.number) is.0 },
        record { id = ap length y.2.id ∙ is'.1; own = subst IsReplica (sym y.2.number) is'.0 },
      )

  pub met : (p : Execution) (old new : List A) → Simulates state p old → MachinesSync state old new
      → ExtendsTo state p new
  met p old new are meet =
      let w = run p.events p.start in
      let x = site_there state old w.replicas meet.caller meet.before are.hold meet.there in
      let y = site_there state old w.replicas meet.peer meet.peer_before are.hold meet.peer_there in
      let used = all_there (λ a. IsInUse (state a)) old meet.caller meet.before are.used meet.there
      in
      let used' = all_there (λ a. IsInUse (state a)) old meet.peer meet.peer_before are.used
      meet.peer_there in
      let can = may_meet p old meet.caller meet.peer meet.before meet.peer_before are meet.apart
      meet.there meet.peer_there in
      let A' = (state meet.later).content in
      let B' = (state meet.peer_later).content in
      let traded = exchanged (state meet.before) (state meet.behind) (state meet.peer_before)
      (state meet.peer_behind) w meet.caller meet.peer x.0 y.0 A' B' can.1 can.2 can.0
      meet.honest.0 meet.honest.1 meet.ends meet.goes.content meet.peer_goes.content
      meet.apart x.1 (sym (in_site (state meet.before) x.0 used x.2)) y.1
      (sym (in_site (state meet.peer_before) y.0 used' y.2)) in
      let events = traded.0 in
      let to = traded.2 in
      let v = run events w in
      let s : ReplicaState = record x.0 { content = A' } in
      let t : ReplicaState = record y.0 { content = B' } in
      let one = slice_set w.replicas meet.caller s in
      let kept = ends_kept (state meet.before) (state meet.behind) (state meet.peer_before)
      (state meet.peer_behind) meet.ends in
      let sites : v.replicas ≡ slice_set one meet.peer t =
      set_by one v.replicas meet.peer y.0 t (get-set_other w.replicas meet.caller meet.peer s
      (λ e. meet.apart (sym e)) ∙ y.1) to.there
      (λ j other. elim (cases_eq j meet.caller) [
        | inl e ↦ ap (slice_get v.replicas) e ∙ (to.here
            ∙ (sym (get-set_same w.replicas meet.caller s x.0 x.1) ∙ ap (slice_get one) (sym e)))
        | inr there ↦ to.others j there other ∙ sym (get-set_other w.replicas meet.caller j s there)
      ]) in
      let half = sites_set state old w.replicas meet.caller meet.later s are.hold
      (goes_as (state meet.behind) (state meet.later) x.0 meet.goes (kept.0 ∙ x.2.id)
      (kept.1 ∙ x.2.number)) in
      let hold = sites_set state (slice_set old meet.caller meet.later) one meet.peer
      meet.peer_later t half (goes_as (state meet.peer_behind)
      (state meet.peer_later) y.0 meet.peer_goes (kept.2 ∙ y.2.id) (kept.3 ∙ y.2.number)) in
      let machines = slice_set (slice_set old meet.caller meet.later) meet.peer meet.peer_later in
      subst (ExtendsTo state p) (sym meet.now)
      (goes_on p machines events are.past
      (all_set (λ a. IsInUse (state a))
      (slice_set old meet.caller meet.later) meet.peer meet.peer_later
      (all_set (λ a. IsInUse (state a)) old meet.caller meet.later are.used meet.goes.used)
      meet.peer_goes.used)
      (exchanges_lawful meet.caller meet.peer events traded.1)
      (subst (AreSites state machines) (sym sites) hold))

  pub restarted : (p : Execution) (old new : List A) → Simulates state p old
      → Restarts state old new → ExtendsTo state p new
  restarted p old new are restarts =
      let w = run p.events p.start in
      let x = site_there state old w.replicas restarts.place restarts.before are.hold restarts.there
      in
      let used = all_there (λ a. IsInUse (state a)) old restarts.place restarts.before are.used
      restarts.there in
      let left : (state restarts.later).content ≡ (state restarts.before).content =
      elim restarts.goes.content [
        | inl is ↦ sym is.1
        | inr found ↦
            (settled (state restarts.before) used).only (state restarts.later).content found
      ] in
      let content : (state restarts.later).content ≡ x.0.content =
      left ∙ in_site (state restarts.before) x.0 used x.2 in
      let hold = sites_set state old w.replicas restarts.place restarts.later x.0 are.hold
      (record {
        id = restarts.goes.id ∙ x.2.id;
        number = restarts.goes.own ∙ x.2.number;
        content =
            held_by (state restarts.later) x.0.content restarts.goes.used content;
      }) in
      subst (ExtendsTo state p) (sym restarts.now)
      (goes_on p (slice_set old restarts.place restarts.later)
      (worlds.Restarts restarts.place ∷ []) are.past
      (all_set (λ a. IsInUse (state a)) old restarts.place restarts.later are.used
      restarts.goes.used) (tt, tt)
      (subst (AreSites state (slice_set old restarts.place restarts.later))
      (set_same w.replicas restarts.place x.0 x.1) hold))

  -- ---- what that says of them

  pub replica_now : (p : Execution) (machines : List A) (place : ℕ) (a : A)
      → Simulates state p machines → IsMachine state machines place a
      → (s : ReplicaState) × IsStateAt p (length p.events) place s × IsReplicaOf (state a) s
      × ((state a).own ≡ s.number) × ((state a).content ≡ s.content)
  replica_now p machines place a are at =
      let x = site_there state machines (run p.events p.start).replicas place a are.hold at in
      let used = all_there (λ a. IsInUse (state a)) machines place a are.used at in (
        x.0,
        subst (λ (v : World). IsReplicaAt v place x.0) (sym (ends_at p)) x.1,
        record { used = used; id = x.2.id; content = in_site (state a) x.0 used x.2 },
        x.2.number,
        in_site (state a) x.0 used x.2,
      )

  pub alike : (p : Execution) (machines : List A) (i j : ℕ) (a b c d : A) (node : NodeId)
      (query : Query) (point : Option (List ℕ)) (one other : HistoryReadResult)
      → Simulates state p machines → IsMachine state machines i a → IsMachine state machines j b
      → ((origin : ℕ) → vec (state a).content origin ≡ vec (state b).content origin)
      → (state c).honest → (state d).honest
      → IsReadAnswered (state a) (state c) node query point one
      → IsReadAnswered (state b) (state d) node query point other → ReportsNoFailure one
      → ReportsNoFailure other → one ≡ other
  alike p machines i j a b c d node query point one other are at to even honest honest' asked asked'
      free free' =
      let x = replica_now p machines i a are at in
      let y = replica_now p machines j b are to in
      let was : IsReachable p x.0 = (length p.events, i, x.1) in
      let was' : IsReachable p y.0 = (length p.events, j, y.1) in
      let same : HaveLearnedSameNames x.0 y.0 =
      (learned_even p x.0 y.0 are.past was was').1
      (λ origin. ap (λ (S : Content). vec S origin) (sym x.4)
      ∙ (even origin ∙ ap (λ (S : Content). vec S origin) y.4)) in
      answered_alike p x.0 y.0 (state a) (state c) (state b)
      (state d) node query point one other are.past was was' same x.2 y.2 honest honest' asked
      asked' free free'
