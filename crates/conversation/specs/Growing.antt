-- Lemmas: by an answer what is held only grows. A trait's law may name only what stands here.
use Rattle.std.proofs.Common.{◌≡◌, ℕ, Bool, true, false, List, [], ◌∷◌, ◌++◌, take, Option, Result, refl, sym, ◌∙◌, subst, inl, inr}
use Rattle.records.specs.Lists.{Has}
use Rattle.records.specs.Contents.{Content, IsWithin, put}
use Rattle.records.proofs.PutLemmas.{has-put}
use Rattle.records.proofs.PartLemmas.{batch_above}
use Rattle.records.specs.declared.record.Record.{Record}
use Rattle.archive.specs.Growth.{GrowsBy}
use Rattle.archive.specs.declared.fault.StoreFault.{StoreFault}
use Rattle.archive.specs.Store.{Store, StepResult, Asks, IsLeft}
use Rattle.archive.specs.Steps.{Transitions}
use Rattle.archive.proofs.Acting.{left-stays}
use Rattle.archive.proofs.Calls.{passes-none, passes-then}
use Rattle.exchange.specs.Ahead.{LearnsAhead}
use Rattle.exchange.specs.Merging.{MayBeLeft}
use Rattle.exchange.specs.Messages.{Party}
use Rattle.exchange.specs.declared.fault.ExchangeFault.{ExchangeFault}
use Rattle.exchange.specs.Dialogs.{DialogState, Greets, received, records_read, learned_at, party_of}
use Rattle.exchange.proofs.HandleLemmas.{unbroken_before}
use Rattle.exchange.proofs.LeftLemmas.{answered_left}
use Rattle.counted_io.specs.declared.fault.ServeFault.{ServeFault}
use Rattle.ua_peers.specs.declared.peers.PeerEnded.{PeerEnded}
use Rattle.ua_peers.specs.Peers.{Taken, Side, side_of, side_after, after_all, IsLeftBy, Talks}
use Rattle.peer_check.specs.Beginning.{GreetsBefore}
use Rattle.peer_check.specs.declared.comparing.Clash.{Clash}
use Rattle.peer_check.proofs.Outcomes.{asked_for}
use Rattle.conversation.specs.Admitting.{AsksOwn}
use Rattle.conversation.specs.Comparing.{ComparesFirst}
use Rattle.conversation.specs.Moves.{OnlyGrows}

-- the same content in other words
within_same : (R S T : Content) → IsWithin R S → S ≡ T → IsWithin R T
within_same R S T first e r h = subst (λ (Q : Content). Has Q r) e (first r h)

-- updates
updates_within : (rs : List Record) (own : ℕ) (R S : Content) → GrowsBy rs own R S → IsWithin R S
updates_within [] own R S e r h = subst (λ (Q : Content). Has Q r) (sym e) h
updates_within (x ∷ rs) own R S g r h =
    updates_within rs own (put x R) S g.1 r (has-put x R r (inr h))

-- one frame
frame_within : (p : Party) (side : Side) (t : Taken)
    → IsWithin side.content (side_after p side t).content
frame_within p side t =
    let state = side.standing.state in
    let read = received p side.standing t.frame.kind t.frame.body in
    let learned = take (learned_at p state side.content t.way read) (records_read read) in
    within_same side.content _ _ (batch_above side.content learned)
    (sym (answered_left p state side.content t.way read))

-- some frames
frames_within : (p : Party) (taken : List Taken) (side : Side)
    → IsWithin side.content (after_all p side taken).content
frames_within p [] side r h = h
frames_within p (t ∷ later) side r h =
    frames_within p later (side_after p side t) r (frame_within p side t r h)

-- what a crash leaves of some frames
left_within : (p : Party) (taken : List Taken) (side : Side) (left : Content)
    → IsLeftBy p side taken left → IsWithin side.content left
left_within p [] side left e r h = subst (λ (Q : Content). Has Q r) (sym e) h
left_within p (t ∷ []) side left so r h =
    within_same side.content _ left (batch_above side.content _) (sym so.3) r h
left_within p (t ∷ u ∷ later) side left so r h =
    left_within p (u ∷ later) (side_after p side t) left so r (frame_within p side t r h)

-- no answer
pub grows_none : (a : Store) → OnlyGrows a a
grows_none a =
    record { faults = []; passes = passes-none a; grows = λ honest S left. (S, left, λ r h. h) }

-- some answers, and then others
pub grows_more : (a b c : Store) → OnlyGrows a b → OnlyGrows b c → OnlyGrows a c
grows_more a b c first later = record {
  faults = first.faults ++ later.faults;
  passes = passes-then a b c first.faults later.faults first.passes later.passes;
  grows = λ honest T left.
      let (S, between, more) = later.grows honest T left in
      let (R, before, less) = first.grows (later.passes.honest honest) S between in
      (R, before, λ r h. more r (less r h));
}

-- the frame that asks
pub greets_grow : (a b : Store) (out written : List ℕ) (result : Result (Unit {0}) ExchangeFault)
    → Greets a b out written result → OnlyGrows a b
greets_grow a b out written result greets = record {
  faults = _;
  passes = greets.passes;
  grows = λ honest S left.
      (S, left-stays a b _ S greets.stays greets.passes honest left, λ r h. h);
}

-- one that asks for the last record of each replica too
pub greets_before_grow : (a b : Store) (out written : List ℕ)
    (result : Result (Unit {0}) ExchangeFault) → GreetsBefore a b out written result
    → OnlyGrows a b
greets_before_grow a b out written result greets = record {
  faults = _;
  passes = greets.passes;
  grows = λ honest S left.
      (S, left-stays a b _ S greets.stays greets.passes honest left, λ r h. h);
}

-- what is asked of an archive
asks_grow : {X : Type 0} (a b : Store) (result : Result X StoreFault) (P : X → Type 0)
    → Asks a b result P → OnlyGrows a b
asks_grow a b result P asked = record {
  faults = _;
  passes = asked.leaves.passes;
  grows = λ honest S left.
      (S, left-stays a b _ S asked.stays asked.leaves.passes honest left, λ r h. h);
}

-- how many records of its own it holds
pub own_grows : {A : Type 0} (state : A → Store) (asks : Bool) (v w : A)
    (result : Result (Option ℕ) StoreFault) → AsksOwn state asks v w result
    → OnlyGrows (state v) (state w)
own_grows state true v w result asked = asks_grow (state v) (state w) result _ asked
own_grows state false v w result same =
    subst (λ u. OnlyGrows (state v) (state u)) (sym same.0) (grows_none (state v))

-- whether a number was given twice
pub compared_grows : {A : Type 0} (state : A → Store) (compares : Bool) (waiting : List ℕ) (v w : A)
    (found : Result (Option Clash) ExchangeFault)
    → ComparesFirst state compares waiting v w found → OnlyGrows (state v) (state w)
compared_grows state true waiting v w found (inl asks) =
    let asked = asked_for (state v) (state w) found _ asks in
    asks_grow (state v) (state w) asked.0 _ asked.1
compared_grows state true waiting v w found (inr same) =
    subst (λ u. OnlyGrows (state v) (state u)) (sym same.0) (grows_none (state v))
compared_grows state false waiting v w found same =
    subst (λ u. OnlyGrows (state v) (state u)) (sym same.0) (grows_none (state v))

-- what may be left of some first records
rs_within : (a : Store) (rs : List Record) (learned : ℕ) (S : Content) → MayBeLeft a rs learned S
    → (R : Content) × IsLeft a R × IsWithin R S
rs_within a rs learned S (inl before) = (S, inr before.0, λ r h. h)
rs_within a rs learned S (inr more) = (
  a.content,
  inl (more.0, refl),
  within_same a.content _ S (batch_above a.content (take more.1 rs)) (sym more.4),
)

-- records that are learned ahead
pub ahead_grows : (a b : Store) (before after : DialogState) (rs : List Record)
    (result : Result (Option ℕ) ExchangeFault) → LearnsAhead a b before after rs result
    → OnlyGrows a b
ahead_grows a b before after rs result learns =
    record { faults = _; passes = learns.passes; grows = by }
  where
    by : b.honest → (S : Content) → IsLeft b S → (R : Content) × IsLeft a R × IsWithin R S
    by honest S (inl held) = (
      a.content,
      inl (unbroken_before a b _ learns.passes held.0, refl),
      within_same a.content _ S (batch_above a.content (take learns.learned rs))
          (sym (learns.content honest held.0) ∙ held.1),
    )
    by honest S (inr found) = rs_within a rs learns.learned S (learns.crash honest S found)

-- a client's step
pub transitions_grow : (a b : Store) (used : List StepResult)
    (To : List StepResult → Content → Content → Type 0) → Transitions a b used To → OnlyGrows a b
transitions_grow a b used To t = record {
  faults = _;
  passes = t.passes;
  grows = λ honest S left.
      let (marks, found, R, before, so, grown) = t.acts honest S left in
      (R, before, updates_within grown.0 a.own R S grown.1);
}

-- a peer's frames
pub talks_grow : (a b : Store) (start last : DialogState) (came out rest : List ℕ)
    (ending : Option (Result PeerEnded ServeFault)) → Talks start a b came out rest ending last
    → OnlyGrows a b
talks_grow a b start last came out rest ending talks =
    record { faults = _; passes = talks.passes; grows = by }
  where
    by : b.honest → (S : Content) → IsLeft b S → (R : Content) × IsLeft a R × IsWithin R S
    by honest S (inl held) =
        let now = talks.content honest a.content (λ u. refl) held.0 in
        let grown = frames_within (party_of a) talks.taken (side_of start a.content) in (
          a.content,
          inl (unbroken_before a b _ talks.passes held.0, refl),
          within_same a.content _ S grown (sym now ∙ held.1),
        )
    by honest S (inr found) = elim (talks.crash honest a.content (λ u. refl) S found) [
      | inl before ↦ (S, inr before.0, λ r h. h)
      | inr more ↦ (
        a.content,
        inl (more.0, refl),
        left_within (party_of a) talks.taken (side_of start a.content) S more.1,
      )
    ]
