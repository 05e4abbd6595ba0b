-- What happens at a plant, turn by turn, is what happens to the replicas of a past.
use Rattle.std.proofs.Common.{◌≡◌, ◌<◌, ◌^◌, ℕ, Bool, true, false, List, [], ◌∷◌, ◌++◌, map, length, Option, Some, None, option_to_list, Result, Ok, Err, refl, sym, ap, ◌∙◌, subst, inl, inr}
use Rattle.std.specs.Prelude.{slice_set}
use Rattle.std.specs.List.{AllByRecursion}
use Rattle.std.specs.Option.{option_map_or}
use Rattle.stamp.specs.Limits.{IsReplica}
use Rattle.records.specs.Lists.{Has}
use Rattle.records.specs.Contents.{Content}
use Rattle.records.specs.declared.record.Record.{Record}
use Rattle.records.proofs.ContentLemmas.{has_from_append}
use Rattle.archive.specs.declared.fault.StoreFault.{StoreFault}
use Rattle.archive.specs.Store.{Store, CountsFaults, KeepsContent}
use Rattle.archive.proofs.Acting.{left-alone, left-stays}
use Rattle.counted_io.specs.declared.fault.ServeFault.{ServeFault}
use Rattle.conversation.specs.Admitting.{TellsAhead}
use Rattle.exchange.specs.declared.fault.ExchangeFault.{ExchangeFault}
use Rattle.exchange.specs.declared.message.Message.TheVariants.{Asks, Ends}
use Rattle.exchange.specs.declared.message.State.{State}
use Rattle.exchange.specs.Fault.{exchange_number}
use Rattle.exchange.specs.Admissions.{first_frame}
use Rattle.exchange.specs.Ahead.{first_records}
use Rattle.exchange.specs.Messages.{Party}
use Rattle.exchange.specs.Dialogs.{DialogState, TellsFault, title_by, unfit, received, records_read, party_of}
use Rattle.exchange.specs.Frames.{message_at}
use Rattle.exchange.specs.Streams.{FrameContent}
use Rattle.exchange.specs.Running.{AreSites, IsSiteOf}
use Rattle.exchange.specs.Worlds.{ReplicaState, World, Event, IsReplicaAt, IsConsistent, run}
use Rattle.exchange.proofs.ConverseLemmas.{IsParty, title_spelled}
use Rattle.exchange.proofs.HappenLemmas.{site_there, sites_set}
use Rattle.ua_peers.specs.Events.{IsSent, WereSent, IsExchange}
use Rattle.ua_peers.specs.Peers.{Taken, Side, side_of, side_after}
use Rattle.ua_peers.specs.Wires.{IsStartOf}
use Rattle.ua_peers.specs.declared.peers.PeerEnded.{PeerEnded}
use Rattle.ua_peers.proofs.Exchanged.{run_append}
use Rattle.ua_peers.proofs.Joined.{numbered}
use Rattle.conversation.specs.Starting.{GreetsPeer}
use Rattle.headline.specs.Answers.{IsInUse}
use Rattle.headline.specs.Executions.{IsLawfulEvent, Execution, IsExecution}
use Rattle.headline.specs.Machines.{Simulates}
use Rattle.headline.specs.Plants.{records_at, BringsSent, AreUnforged, IsReplaced, AreLawfulBatches, AnswersMessage, AnswersFrames, BeginsCall, Plant, IsNewPlant, PlantSimulates, PlantExtendsTo, LearnsRecords, RefusesRecords, TakesTurn, IsClientTurn, IsPeerTurn, IsCallTurn, IsLearningTurn, IsRefusalTurn, IsRestart, IsPlantStep, ArePlantSteps, AreSimulated}
use Rattle.headline.proofs.Machines.{begun, restarted, simulates_on, set_by, all_there, all_set, updates_lawful, exchange_lawful, in_site, goes_as, lawful_later, ends_at}
use Rattle.headline.proofs.Times.{sound_at, replica_at, lawful_at}
use Rattle.headline.proofs.Streams.{frame_in}
use Rattle.headline.proofs.Turns.{IsWord, answer_made, frames_made, ahead_made, keeps_run, brings_on, brings_word}

-- ---- frames that come

brings_part : (pool : List (List Record)) (made said : List ℕ) → IsStartOf made said
    → BringsSent pool said → BringsSent pool made
brings_part pool made said part brings frame is p =
    brings frame (frame_in frame made said part is) p

-- a frame that isn't forged brings what was sent, however the end stands that reads it
one_sent : (written : List (List ℕ)) (pool : List (List Record)) (p : Party) (s : DialogState)
    (frame : FrameContent) → ((bytes : List ℕ) → Has written bytes → BringsSent pool bytes)
    → AreUnforged written p (frame ∷ [])
    → IsSent pool (records_read (received p s frame.kind frame.body))
one_sent written pool p s frame brings are = go (unfit s frame.kind) (elim are.0 [
  | inl none ↦ inl none
  | inr was ↦ brings was.0 was.1 frame was.2 p
])
  where
    go : (o : Option ExchangeFault) → IsSent pool (records_at p frame)
        → IsSent pool (records_read
        (option_map_or (λ f. Err f) o (message_at p frame.kind frame.body)))
    go None was = was
    go (Some f) was = inl refl

-- so do the frames that an end takes
unforged_sent : (written : List (List ℕ)) (pool : List (List Record)) (p : Party)
    (taken : List Taken) (side : Side)
    → ((bytes : List ℕ) → Has written bytes → BringsSent pool bytes)
    → AreUnforged written p (map (λ t. t.frame) taken) → WereSent pool p side taken
unforged_sent written pool p [] side brings are = tt
unforged_sent written pool p (t ∷ ts) side brings are = (
  one_sent written pool p side.standing t.frame brings (are.0, tt),
  unforged_sent written pool p ts (side_after p side t) brings are.1,
)

-- and the one that stands first, if it is whole
first_sent : (written : List (List ℕ)) (pool : List (List Record)) (p : Party) (s : DialogState)
    (o : Option FrameContent) → ((bytes : List ℕ) → Has written bytes → BringsSent pool bytes)
    → AreUnforged written p (option_to_list o)
    → IsSent pool (option_map_or (λ frame. records_read (received p s frame.kind frame.body)) o [])
first_sent written pool p s None brings are = inl refl
first_sent written pool p s (Some frame) brings are =
    one_sent written pool p s frame brings are

exchanges_lawful : (i : ℕ) (events : List Event) → AllByRecursion (IsExchange i) events
    → AllByRecursion IsLawfulEvent events
exchanges_lawful i [] are = tt
exchanges_lawful i (e ∷ es) are = (exchange_lawful i e are.0, exchanges_lawful i es are.1)

-- what tells a fault brings no records
fault_word : (pool : List (List Record)) (fault : ExchangeFault)
    (told : Result State ExchangeFault) (said : List ℕ) → TellsFault fault told [] said
    → IsWord pool said
fault_word pool fault told said (inl tells) = let n = numbered fault in
    inr (Ends (exchange_number fault), subst (λ k. k < 2 ^ 32) (sym n.2) n.1, tells.1, inl refl)
fault_word pool fault told said (inr none) = inl none.1

-- what is said where records were to be learned ahead brings no records
ahead_word : (pool : List (List Record)) (result : Result (Option ℕ) ExchangeFault)
    (said : List ℕ) (ends : Option (Result PeerEnded ServeFault)) → TellsAhead result said ends
    → IsWord pool said
ahead_word pool (Ok None) said ends tells = absurd tells
ahead_word pool (Ok (Some added)) said ends tells = inl tells.0
ahead_word pool (Err fault) said ends tells = fault_word pool fault tells.0 said tells.1

-- ---- the past

-- what is on its way at its end is lawful
lawful_pool : (p : Execution) → IsExecution p → AreLawfulBatches (run p.events p.start).pool
lawful_pool p past batch h r k =
    let w : World = run p.events p.start in
    let sound : IsConsistent w =
    subst IsConsistent (ends_at p) (sound_at p past (length p.events)) in
    let x = sound.known batch h r k in
    (lawful_at p (length p.events) x.0 x.1 past
    (subst (λ (v : World). IsReplicaAt v x.0 x.1) (sym (ends_at p)) x.2)).records r x.3

-- the frame by which a call begins, of either kind, leaves what is held
greeted : (checks : Bool) (a b : Store) (frame : List ℕ) (result : Result (Unit {0}) ExchangeFault)
    → GreetsPeer checks a b frame result
    → (faults : List StoreFault) × KeepsContent a b × CountsFaults a b faults
greeted true a b frame result greets = (_, greets.stays, greets.passes)
greeted false a b frame result greets = (_, greets.stays, greets.passes)

module _ {A : Type 0} (state : A → Store) where
  pub plant_begun : (plant : Plant A) → IsNewPlant state plant
      → (p : Execution) × (p.events ≡ []) × PlantSimulates state p plant
  plant_begun plant new = let past = begun state plant.machines new.machines in (
    past.0,
    past.1,
    record {
      machines = past.2;
      written = λ bytes h.
          absurd (subst (λ (l : List (List ℕ)). Has l bytes) new.written h);
    },
  )

  -- events at the machine that turned
  turned : (Does : Store → Store → List ℕ → Type 0) (p : Execution) (old new : Plant A)
      → PlantSimulates state p old → (turn : TakesTurn state Does old new) (s : ReplicaState)
      → IsReplicaAt (run p.events p.start) turn.place s → IsSiteOf (state turn.before) s
      → (state turn.acts.behind).id ≡ (state turn.before).id
      → (state turn.acts.behind).own ≡ (state turn.before).own
      → (events : List Event) → AllByRecursion IsLawfulEvent events
      → IsReplaced (run p.events p.start) (run events (run p.events p.start)) turn.place s
      (state turn.later).content
      → BringsSent (run events (run p.events p.start)).pool turn.made
      → PlantExtendsTo state p new
  turned Does p old new are turn s at is id own events lawful after brings = (
    q,
    (events, refl),
    record {
      machines = subst (λ (l : List A). Simulates state q l)
          (ap (λ (x : Plant A). x.machines) (sym turn.now))
          (simulates_on state p machines events are.machines.past
          (all_set (λ a. IsInUse (state a)) old.machines turn.place turn.later are.machines.used
          turn.acts.goes.used) lawful
          (subst (AreSites state machines) (sym sites)
          (sites_set state old.machines w.replicas turn.place turn.later t are.machines.hold
          (goes_as state (state turn.acts.behind) (state turn.later) s turn.acts.goes (id ∙ is.id)
          (own ∙ is.number)))));
      written = λ bytes h. subst (λ (x : World). BringsSent x.pool bytes)
          (sym (run_append p.events events p.start))
          (all_bring bytes (subst (λ (x : Plant A). Has x.written bytes) turn.now h));
    },
  )
    where
      w : World
      w = run p.events p.start

      v : World
      v = run events w

      q : Execution
      q = record p { events = p.events ++ events }

      machines : List A
      machines = slice_set old.machines turn.place turn.later

      t : ReplicaState
      t = record s { content = (state turn.later).content }

      sites : v.replicas ≡ slice_set w.replicas turn.place t
      sites = set_by w.replicas v.replicas turn.place s t at after.here after.others

      all_bring : (bytes : List ℕ) → Has (old.written ++ (turn.made ∷ [])) bytes
          → BringsSent v.pool bytes
      all_bring bytes h = elim (has_from_append old.written (turn.made ∷ []) bytes h) [
        | inl before ↦ brings_on w.pool v.pool bytes (keeps_run events w) (are.written bytes before)
        | inr now ↦ elim now [
          | inl e ↦ subst (BringsSent v.pool) e brings
          | inr none ↦ absurd none
        ]
      ]

  -- the replica of a machine at the end of a past
  record IsThere (p : Execution) (place : ℕ) (a : A) : Type 0 where
    s : ReplicaState
    at : IsReplicaAt (run p.events p.start) place s
    is : IsSiteOf (state a) s
    used : IsInUse (state a)
    content : s.content ≡ (state a).content
    party : IsParty (party_of (state a))

  there : (Does : Store → Store → List ℕ → Type 0) (p : Execution) (old new : Plant A)
      → PlantSimulates state p old → (turn : TakesTurn state Does old new)
      → IsThere p turn.place turn.before
  there Does p old new are turn =
      let w : World = run p.events p.start in
      let x = site_there state old.machines w.replicas turn.place turn.before are.machines.hold
      turn.there in
      let used = all_there (λ a. IsInUse (state a)) old.machines turn.place turn.before
      are.machines.used turn.there in
      let replica = replica_at p (length p.events) turn.place x.0 are.machines.past
      (subst (λ (v : World). IsReplicaAt v turn.place x.0) (sym (ends_at p)) x.1) in
      record {
        s = x.0;
        at = x.1;
        is = x.2;
        used = used;
        content = sym (in_site (state turn.before) x.0 used x.2);
        party = record {
          id = ap length x.2.id ∙ replica.1;
          own = subst IsReplica (sym x.2.number) replica.0;
        };
      }

  pub client_served : (p : Execution) (old new : Plant A) → PlantSimulates state p old
      → IsClientTurn state old new → PlantExtendsTo state p new
  client_served p old new are turn =
      let x = there AnswersMessage p old new are turn in
      let does = turn.acts.does in
      let w : World = run p.events p.start in
      let made = answer_made does.settings (state turn.before) (state turn.acts.behind) does.link
      does.next does.used does.answer does.ending does.advances x.used.durable x.used.unbroken
      turn.acts.honest w turn.place x.s (state turn.later).content turn.acts.goes.content
      (lawful_later state (state turn.later) turn.acts.goes.used) x.at (sym x.is.number) x.content
      in
      turned AnswersMessage p old new are turn x.s x.at x.is does.advances.passes.id
      does.advances.passes.own made.0 (updates_lawful turn.place made.0 made.1)
      (record { here = made.2.here; others = made.2.others })
      (brings_word (run made.0 w).pool turn.made (inl does.silent))

  pub peer_served : (p : Execution) (old new : Plant A) → PlantSimulates state p old
      → IsPeerTurn state old new → PlantExtendsTo state p new
  peer_served p old new are turn =
      let x = there (AnswersFrames old.written) p old new are turn in
      let does = turn.acts.does in
      let w : World = run p.events p.start in
      let a : Store = state turn.before in
      let made = frames_made a (state turn.acts.behind) does.start does.last does.came does.said
      does.rest does.ending does.talks x.used.durable x.used.unbroken turn.acts.honest w turn.place
      x.s (state turn.later).content x.party turn.acts.goes.content
      (unforged_sent old.written w.pool (party_of a) does.talks.taken (side_of does.start a.content)
      are.written does.unforged) (lawful_pool p are.machines.past) x.at x.content in
      turned (AnswersFrames old.written) p old new are turn x.s x.at x.is does.talks.passes.id
      does.talks.passes.own made.0 (exchanges_lawful turn.place made.0 made.1) made.2
      (brings_part (run made.0 w).pool turn.made does.said does.part made.3)

  pub peer_called : (p : Execution) (old new : Plant A) → PlantSimulates state p old
      → IsCallTurn state old new → PlantExtendsTo state p new
  peer_called p old new are turn =
      let x = there BeginsCall p old new are turn in
      let w : World = run p.events p.start in
      let a : Store = state turn.before in
      let does = turn.acts.does in
      let asked = greeted does.0 a (state turn.acts.behind) does.1 does.2 does.3 in
      let left = left-stays a (state turn.acts.behind) _ (state turn.later).content asked.1
      asked.2 turn.acts.honest turn.acts.goes.content in
      let same : (state turn.later).content ≡ x.s.content =
      left-alone a (state turn.later).content x.used.durable x.used.honest x.used.unbroken left
      ∙ sym x.content in
      turned BeginsCall p old new are turn x.s x.at x.is asked.2.id asked.2.own [] tt
      (record {
        here = subst (λ (R : Content). IsReplicaAt w turn.place (record x.s { content = R }))
            (sym same) x.at;
        others = λ j other. refl;
      })
      (brings_part w.pool turn.made does.1 does.4 (word does.0 does.1 does.2 does.3 x))
    where
      word : (checks : Bool) (frame : List ℕ) (result : Result (Unit {0}) ExchangeFault)
          → GreetsPeer checks (state turn.before) (state turn.acts.behind) frame result
          → IsThere p turn.place turn.before → BringsSent (run p.events p.start).pool frame
      word true frame (Ok u) greets x =
          let before = greets.frame turn.acts.honest in
          brings_word (run p.events p.start).pool frame (inr (
            Asks (record {
              id = (party_of (state turn.before)).id;
              sender = (party_of (state turn.before)).own;
              vector = before.0;
            }),
            record { id = x.party.id; sender = x.party.own; vector = before.1.vector },
            before.2,
            inl refl,
          ))
      word true frame (Err f) greets x =
          brings_word (run p.events p.start).pool frame (inl greets.kept.1)
      word false frame (Ok u) greets x = brings_word (run p.events p.start).pool frame (inr (
        Asks (title_by (party_of (state turn.before)) (state turn.before).content),
        title_spelled (party_of (state turn.before)) (state turn.before).content x.party
            (x.used.durable x.used.honest x.used.unbroken).lawful,
        greets.frame turn.acts.honest,
        inl refl,
      ))
      word false frame (Err f) greets x =
          brings_word (run p.events p.start).pool frame (inl greets.kept.1)

  pub peer_learned : (p : Execution) (old new : Plant A) → PlantSimulates state p old
      → IsLearningTurn state old new → PlantExtendsTo state p new
  peer_learned p old new are turn =
      let x = there (LearnsRecords old.written) p old new are turn in
      let does = turn.acts.does in
      let w : World = run p.events p.start in
      let a : Store = state turn.before in
      let made = ahead_made a (state turn.acts.behind) does.start does.last
      (first_records (party_of a) does.start does.came) does.result does.learns x.used.durable
      x.used.unbroken turn.acts.honest w turn.place x.s (state turn.later).content
      turn.acts.goes.content
      (first_sent old.written w.pool (party_of a) does.start (first_frame does.came) are.written
      does.unforged) x.at x.content in
      let pool : List (List Record) = (run made.events w).pool in
      turned (LearnsRecords old.written) p old new are turn x.s x.at x.is does.learns.passes.id
      does.learns.passes.own made.events (exchanges_lawful turn.place made.events made.are)
      made.after (brings_part pool turn.made does.said does.part (brings_word pool does.said
      (ahead_word pool does.result does.said does.ends does.told)))

  pub peer_refused : (p : Execution) (old new : Plant A) → PlantSimulates state p old
      → IsRefusalTurn state old new → PlantExtendsTo state p new
  peer_refused p old new are turn =
      let x = there RefusesRecords p old new are turn in
      let w : World = run p.events p.start in
      let a : Store = state turn.before in
      let does = turn.acts.does in
      let left = left-stays a (state turn.acts.behind) _ (state turn.later).content does.stays
      does.passes turn.acts.honest turn.acts.goes.content in
      let same : (state turn.later).content ≡ x.s.content =
      left-alone a (state turn.later).content x.used.durable x.used.honest x.used.unbroken left
      ∙ sym x.content in
      turned RefusesRecords p old new are turn x.s x.at x.is does.passes.id does.passes.own [] tt
      (record {
        here = subst (λ (R : Content). IsReplicaAt w turn.place (record x.s { content = R }))
            (sym same) x.at;
        others = λ j other. refl;
      })
      (brings_part w.pool turn.made does.said does.part
      (brings_word w.pool does.said (fault_word w.pool does.fault does.told does.said does.tells)))

  pub one_restarted : (p : Execution) (old new : Plant A) → PlantSimulates state p old
      → IsRestart state old new → PlantExtendsTo state p new
  one_restarted p old new are restarts =
      let w : World = run p.events p.start in
      let (q, on, is) = restarted state p old.machines new.machines are.machines restarts.0 in
      let ends : run q.events q.start ≡ run on.0 w =
      ap (λ (x : Execution). run x.events x.start) on.1 ∙ run_append p.events on.0 p.start in (
        q,
        on,
        record {
          machines = is;
          written = λ bytes h. subst (λ (x : World). BringsSent x.pool bytes) (sym ends)
              (brings_on w.pool (run on.0 w).pool bytes (keeps_run on.0 w)
              (are.written bytes (subst (λ (l : List (List ℕ)). Has l bytes) restarts.1 h)));
        },
      )

  pub stepped : (p : Execution) (old new : Plant A) → PlantSimulates state p old
      → IsPlantStep state old new → PlantExtendsTo state p new
  stepped p old new are (inl (inl turn)) = client_served p old new are turn
  stepped p old new are (inl (inr (inl turn))) = peer_served p old new are turn
  stepped p old new are (inl (inr (inr (inl turn)))) = peer_learned p old new are turn
  stepped p old new are (inl (inr (inr (inr turn)))) = peer_refused p old new are turn
  stepped p old new are (inr (inl turn)) = peer_called p old new are turn
  stepped p old new are (inr (inr restarts)) = one_restarted p old new are restarts

  pub all_stepped : (p : Execution) (plant : Plant A) (later : List (Plant A))
      → PlantSimulates state p plant → ArePlantSteps state plant later → AreSimulated state p later
  all_stepped p plant [] are steps = tt
  all_stepped p plant (next ∷ later) are steps =
      let one = stepped p plant next are steps.0 in
      (one.0, one.1, one.2, all_stepped one.0 next later one.2 steps.1)
