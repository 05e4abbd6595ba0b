-- How many records a dialog adds to what is held.
use Rattle.std.proofs.Common.{◌≡◌, ℕ, zero, suc, ◌+◌, ◌-◌, ◌^◌, ◌≤◌, Bool, true, false, List, [], ◌∷◌, ◌++◌, take, length, Option, Some, None, Result, Ok, Err, IfOk, refl, sym, ◌∙◌, ap, subst, arith, inl, inr, option_to_list}
use Rattle.std.specs.Prelude.{⊤}
use Rattle.std.proofs.Math.Bool.{or-false}
use Rattle.std.proofs.lemmas.Option.{same_Some}
use Rattle.stamp.specs.Numbers.{number_of}
use Rattle.records.specs.Contents.{Content}
use Rattle.records.specs.declared.record.Record.{Record}
use Rattle.archive.specs.declared.fault.StoreFault.{StoreFault}
use Rattle.archive.specs.Store.{Store, CountsFaults}
use Rattle.exchange.specs.declared.fault.ExchangeFault.{ExchangeFault}
use Rattle.exchange.specs.declared.message.State.{State}
use Rattle.exchange.specs.declared.message.State.TheVariants.{Pulling, Pushing, Serving, Done, Failed}
use Rattle.exchange.specs.declared.message.Message.TheVariants.{Asks, Carries, Ends}
use Rattle.exchange.specs.Batches.{batch_of}
use Rattle.exchange.specs.Messages.{Party, Message}
use Rattle.exchange.specs.Dialogs.{Turn, failing, pushing, refusal, turned, Way, Clear, Unread, Stopped, Starved, Met, gone, fault_on, DialogState, received, answered_to, party_of, Writes, capped, counted_by, added_to}
use Rattle.exchange.proofs.DialogsParts.{learnt}
use Rattle.exchange.proofs.MergeLemmas.{grown}
use Rattle.counted_io.specs.declared.fault.ServeFault.{ServeFault}
use Rattle.ua_peers.specs.declared.peers.PeerEnded.{PeerEnded}
use Rattle.ua_peers.specs.declared.peers.PeerEnded.TheVariants as parted
use Rattle.ua_peers.specs.declared.calling.Synced.{Synced}
use Rattle.ua_peers.specs.declared.calling.SyncFault.{SyncFault}
use Rattle.ua_peers.specs.Peers.{Taken, Side, side_of, turn_of, side_after, after_all, AreAnswered, AreOpen, failed_as, ended_as, is_silent, IsEnd, Talks, Speaks}
use Rattle.ua_peers.proofs.PeersParts.{is_open, faults_met}
use Rattle.ua_peers.specs.Calling.{calling, synced_by, Syncs, Adds}
use Rattle.ua_peers.proofs.Talks.{clear-so, written-so}

-- ---- no turn loses a record

pushed : (p : Party) (R : Content) (rs : List Record) → length R ≤ length (pushing p R rs).content
pushed p R [] = omega arith
pushed p R (r ∷ rs) = omega arith

learnt-grows : (p : Party) (state : State) (n : ℕ) (S : Content) (fault : Option ExchangeFault)
    → n ≤ length S → n ≤ length (learnt p state S fault).content
learnt-grows p state n S None le = le
learnt-grows p state n S (Some fault) le = le

turned-grows : (p : Party) (state : State) (R : Content) (m : Message)
    → length R ≤ length (turned p state R m).content
turned-grows p Pulling R (Asks t) = omega arith
turned-grows p Pulling R (Carries t []) = pushed p R (batch_of R (number_of t.vector))
turned-grows p Pulling R (Carries t (r ∷ rs)) =
    learnt-grows p Pulling (length R) _ (refusal 0 R (r ∷ rs)) (grown (r ∷ rs) R)
turned-grows p Pulling R (Ends zero) = omega arith
turned-grows p Pulling R (Ends (suc n)) = omega arith
turned-grows p Pushing R (Asks t) = pushed p R (batch_of R (number_of t.vector))
turned-grows p Pushing R (Carries t rs) = omega arith
turned-grows p Pushing R (Ends zero) = omega arith
turned-grows p Pushing R (Ends (suc n)) = omega arith
turned-grows p Serving R (Asks t) = omega arith
turned-grows p Serving R (Carries t rs) =
    learnt-grows p Serving (length R) _ (refusal 0 R rs) (grown rs R)
turned-grows p Serving R (Ends zero) = omega arith
turned-grows p Serving R (Ends (suc n)) = omega arith
turned-grows p Done R m = omega arith
turned-grows p Failed R m = omega arith

gone-grows : (way : Way) (R : Content) (rs : List Record) (turn : Turn)
    → length R ≤ length turn.content → length R ≤ length (gone way R rs turn).content
gone-grows Clear R rs turn le = le
gone-grows Unread R rs turn le = omega arith
gone-grows (Stopped learned fault) R rs turn le = grown (take learned rs) R
gone-grows Starved R rs turn le = le
gone-grows (Met fault) R rs turn le = le

answered-grows : (p : Party) (state : State) (R : Content) (way : Way)
    (r : Result Message ExchangeFault) → length R ≤ length (answered_to p state R way r).content
answered-grows p state R way (Ok m) =
    gone-grows way R _ (turned p state R m) (turned-grows p state R m)
answered-grows p state R way (Err fault) = gone-grows way R [] (failing R fault) (omega arith)

-- ---- turns that met no fault

abbrev AreFine : List Taken → Type 0
AreFine [] = ⊤
AreFine (t ∷ later) = ((state : State) × (t.result ≡ Ok state)) × AreFine later

fine-turn : (p : Party) (side : Side) (t : Taken) (state : State) → t.result ≡ Ok state
    → Writes (turn_of p side t) t.result [] t.said → (turn_of p side t).result ≡ Ok state
fine-turn p side t state is writes =
    written-so (turn_of p side t) state t.said (subst
    (λ (r : Result State ExchangeFault). Writes (turn_of p side t) r [] t.said) is writes)

no-faults : (p : Party) (side : Side) (taken : List Taken) → AreAnswered p side taken
    → AreFine taken → faults_met taken ≡ []
no-faults p side [] answered fine = refl
no-faults p side (t ∷ later) answered fine =
    let went = fine-turn p side t fine.0.0 fine.0.1 answered.0.1 in
    let none : fault_on t.way ≡ None =
    clear-so p side.standing.state fine.0.0 side.content t.way
    (received p side.standing t.frame.kind t.frame.body) went in
    ap (λ (o : Option StoreFault). option_to_list o ++ faults_met later) none
    ∙ no-faults p (side_after p side t) later answered.1 fine.1

counts-on : (n m k before now later : ℕ) → n ≤ m → m ≤ k → now ≡ capped (before + (m - n))
    → later ≡ capped (now + (k - m)) → later ≡ capped (before + (k - n))
counts-on n m k before now later one two is so = omega (arith, one, two, is, so)

grows : (p : Party) (side : Side) (taken : List Taken) → side.standing.learned ≤ 2 ^ 32 - 1
    → AreAnswered p side taken → AreFine taken
    → (length side.content ≤ length (after_all p side taken).content)
    × ((after_all p side taken).standing.learned
    ≡ capped (side.standing.learned
    + (length (after_all p side taken).content - length side.content)))
grows p side [] few answered fine = (omega arith, omega (arith, few))
grows p side (t ∷ later) few answered fine =
    let went = fine-turn p side t fine.0.0 fine.0.1 answered.0.1 in
    let now : (side_after p side t).standing.learned
    ≡ capped (side.standing.learned + added_to side.content (turn_of p side t)) =
    ap (λ (r : Result State ExchangeFault).
    counted_by r side.standing.learned (added_to side.content (turn_of p side t))) went in
    let more = answered-grows p side.standing.state side.content t.way
    (received p side.standing t.frame.kind t.frame.body) in
    let rest = grows p (side_after p side t) later (omega (arith, now)) answered.1 fine.1 in (
      omega (arith, more, rest.0),
      counts-on (length side.content) (length (turn_of p side t).content)
          (length (after_all p (side_after p side t) later).content) side.standing.learned
          (side_after p side t).standing.learned (after_all p
          (side_after p side t) later).standing.learned more rest.0 now rest.1,
    )

-- ---- a dialog that came to its end

fine-open : (taken : List Taken) → AreOpen taken → AreFine taken
fine-open [] goes = tt
fine-open (t ∷ later) goes = (went t.result refl goes.0, fine-open later goes.1)
  where
    went : (r : Result State ExchangeFault) → t.result ≡ r → is_open r ≡ true
        → (state : State) × (t.result ≡ Ok state)
    went (Ok state) is on = (state, is)
    went (Err fault) is on = absurd (cc)

fine-append : (xs ys : List Taken) → AreFine xs → AreFine ys → AreFine (xs ++ ys)
fine-append [] ys a b = b
fine-append (x ∷ xs) ys a b = (a.0, fine-append xs ys a.1 b)

not-failed : (silent : Bool) (fault : ExchangeFault) → failed_as silent fault ≡ Ok parted.Done → ⊥
not-failed true fault is = cc
not-failed false fault is = cc

last-fine : (code : Option ℕ) (silent : Bool) (result : Result State ExchangeFault)
    → ended_as code silent result ≡ Some (Ok parted.Done) → (state : State) × (result ≡ Ok state)
last-fine code silent (Ok state) is = (state, refl)
last-fine code silent (Err fault) is = absurd (not-failed silent fault (same_Some _ _ is))

done-fine : (taken : List Taken) (code : Option ℕ) (rest beside : List ℕ)
    → IsEnd taken code rest beside (Some (Ok parted.Done)) → AreFine taken
done-fine taken code rest beside is = elim is [
  | inl f ↦ subst AreFine (sym f.0.all) (fine-append f.0.before (f.0.last ∷ [])
      (fine-open f.0.before f.0.goes) (
        last-fine code
            (is_silent f.0.last.said) f.0.last.result f.0.ends,
        tt,
      ))
  | inr q ↦ elim q [
    | inl b ↦ absurd (not-failed (is_silent beside) b.fault b.ends)
    | inr w ↦ absurd (let none = w.ends in cc)
  ]
]

from-none : (n m : ℕ) → n ≡ capped (0 + m) → n ≡ capped m
from-none n m is = omega (arith, is)

talk-adds : (a b : Store) (came out rest : List ℕ) (last : DialogState)
    → Talks calling a b came out rest (Some (Ok parted.Done)) last → b.honest → a.broken ≡ false
    → last.learned ≡ capped (length b.content - length a.content)
talk-adds a b came out rest last talks h u =
    let fine = done-fine talks.taken last.code rest talks.beside talks.ends in
    let answered = talks.answered h a.content (λ x. refl) in
    let quiet : CountsFaults a b [] =
    subst (λ (faults : List StoreFault). CountsFaults a b faults)
    (no-faults (party_of a) (side_of calling a.content) talks.taken answered fine) talks.passes
    in
    let used : b.broken ≡ false = quiet.broken ∙ (or-false a.broken ∙ u) in
    let more = grows (party_of a) (side_of calling a.content) talks.taken
    (omega arith) answered fine in
    let counts : (after_all (party_of a) (side_of calling a.content) talks.taken).standing.learned
    ≡ capped (length (after_all (party_of a) (side_of calling a.content) talks.taken).content -
    length a.content) = from-none _ _ more.1 in
    ap (λ (s : DialogState). s.learned) (talks.stands h a.content (λ x. refl))
    ∙ (counts ∙ ap (λ (R : Content). capped (length R - length a.content))
    (sym (talks.content h a.content (λ x. refl) used)))

pub adds-so : (a b : Store) (unread left before written : Option (List ℕ))
    (result : Result Synced SyncFault) → Syncs a b unread left before written result
    → Adds a b result
adds-so a b unread left before written result syncs h u = elim syncs [
  | inl unasked ↦ subst (λ (r : Result Synced SyncFault). IfOk r is_so) (sym unasked.told) tt
  | inr sent ↦ elim sent [
    | inl unsent ↦ subst (λ (r : Result Synced SyncFault). IfOk r is_so) (sym unsent.told) tt
    | inr asked ↦ subst (λ (r : Result Synced SyncFault). IfOk r is_so) (sym asked.told)
        (ends asked.last asked.meets.came asked.meets.out asked.ending asked.meets.speaks)
  ]
]
  where
    is_so : Synced → Type 0
    is_so synced = synced.learned ≡ capped (length b.content - length a.content)

    ends : (last : DialogState) (came out : List ℕ) (ending : Result PeerEnded ServeFault)
        → Speaks calling a b came out ending last → IfOk (synced_by last ending) is_so
    ends last came out (Ok parted.EndOfInput) speaks = tt
    ends last came out (Ok parted.Done) speaks = talk-adds a b came out speaks.0 last speaks.1 h u
    ends last came out (Ok (parted.Refused n)) speaks = tt
    ends last came out (Ok (parted.Failed fault)) speaks = tt
    ends last came out (Err fault) speaks = tt
