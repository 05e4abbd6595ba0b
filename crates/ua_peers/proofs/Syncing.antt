-- A dialog behind its first frame.
use Rattle.std.proofs.Common.{◌≡◌, List, ℕ, [], ◌++◌, Option, Some, None, Result, Ok, Err, refl, ap, ◌∙◌, subst, inl, inr}
use Rattle.std.proofs.Math.Bool.{or-false}
use Rattle.std.specs.Io.KnownBytes.{Appends}
use Rattle.std.proofs.KnownBytes.{Consumes-nil, Appends-nil}
use Rattle.archive.specs.Store.{Store, CountsFaults, KeepsContent}
use Rattle.exchange.specs.declared.fault.ExchangeFault.{ExchangeFault}
use Rattle.exchange.specs.Dialogs.{DialogState, Greets}
use Rattle.exchange.proofs.HandleLemmas.{unbroken_before}
use Rattle.counted_io.specs.declared.fault.ServeFault.{ServeFault}
use Rattle.counted_io.specs.declared.fault.ServeFault.TheVariants.{Read, Write, TooLong, OutOfMemory}
use Rattle.ua_peers.specs.declared.peers.PeerEnded.{PeerEnded}
use Rattle.ua_peers.specs.declared.peers.PeerEnded.TheVariants as parted
use Rattle.ua_peers.specs.declared.calling.Synced.{Synced}
use Rattle.ua_peers.specs.declared.calling.SyncFault.{SyncFault}
use Rattle.ua_peers.specs.declared.calling.SyncFault.TheVariants.{Connection, Exchange}
use Rattle.counted_io.specs.Bytes.{AppendsPart}
use Rattle.ua_peers.specs.Peers.{Talks, Speaks, MeetsTo}
use Rattle.ua_peers.specs.Calling.{calling, synced_by, Syncs}
use Rattle.ua_peers.proofs.Talks.{talks-then}

-- calls that show nothing
talks-quiet : (start : DialogState) (a b : Store) (rest : List ℕ) → KeepsContent a b
    → CountsFaults a b [] → Talks start a b rest [] rest None start
talks-quiet start a b rest stays passes = record {
  taken = [];
  beside = [];
  frames = refl;
  wrote = refl;
  ends = (tt, refl);
  passes = passes;
  answered = λ h R held. tt;
  stands = λ h R held. refl;
  content = λ h R held u. stays.content h u ∙ held (unbroken_before a b [] passes u);
  used = λ h u o. passes.broken ∙ (or-false a.broken ∙ u);
  crash = λ h R held left m. inl (stays.crash h left m, λ u. refl);
}

speaks-behind : (start last : DialogState) (a b c : Store) (came out : List ℕ)
    (ending : Result PeerEnded ServeFault) → KeepsContent a b → CountsFaults a b []
    → Speaks start b c came out ending last → Speaks start a c came out ending last
speaks-behind start last a b c came out (Ok parted.EndOfInput) stays passes s = (
  s.0,
  s.1,
  talks-then start start last a b c came [] came out s.0 None
      (talks-quiet start a b came stays passes) s.2,
)
speaks-behind start last a b c came out (Ok parted.Done) stays passes s = (
  s.0,
  talks-then start start last a b c came [] came out s.0 (Some (Ok parted.Done))
      (talks-quiet start a b came stays passes) s.1,
)
speaks-behind start last a b c came out (Ok (parted.Refused n)) stays passes s = (
  s.0,
  talks-then start start last a b c came [] came out s.0 (Some (Ok (parted.Refused n)))
      (talks-quiet start a b came stays passes) s.1,
)
speaks-behind start last a b c came out (Ok (parted.Failed fault)) stays passes s = (
  s.0,
  talks-then start start last a b c came [] came out s.0 (Some (Ok (parted.Failed fault)))
      (talks-quiet start a b came stays passes) s.1,
)
speaks-behind start last a b c came out (Err Read) stays passes s = (
  s.0,
  s.1,
  talks-then start start last a b c came [] came out s.0 None
      (talks-quiet start a b came stays passes) s.2,
)
speaks-behind start last a b c came out (Err Write) stays passes s = (
  s.0,
  s.1,
  s.2,
  talks-then start start last a b c came [] came (out ++ s.0) s.1 s.2
      (talks-quiet start a b came stays passes) s.3,
)
speaks-behind start last a b c came out (Err TooLong) stays passes s = (
  s.0,
  talks-then start start last a b c came [] came out s.0 (Some (Err TooLong))
      (talks-quiet start a b came stays passes) s.1,
)
speaks-behind start last a b c came out (Err OutOfMemory) stays passes s = (
  s.0,
  talks-then start start last a b c came [] came out s.0 (Some (Err OutOfMemory))
      (talks-quiet start a b came stays passes) s.1,
)

meets-behind : (start last : DialogState) (a b c : Store)
    (unread left before after : Option (List ℕ)) (ending : Result PeerEnded ServeFault)
    → KeepsContent a b → CountsFaults a b []
    → MeetsTo start b c [] unread left before after ending last
    → MeetsTo start a c [] unread left before after ending last
meets-behind start last a b c unread left before after ending stays passes m =
    record {
      came = m.came;
      out = m.out;
      read = m.read;
      over = m.over;
      written = m.written;
      speaks =
          speaks-behind start last a b c m.came m.out ending stays passes m.speaks;
    }

honest-so : (b c : Store) (start last : DialogState) (came out : List ℕ)
    (ending : Result PeerEnded ServeFault) → Speaks start b c came out ending last → c.honest
    → b.honest
honest-so b c start last came out (Ok parted.EndOfInput) s = s.2.passes.honest
honest-so b c start last came out (Ok parted.Done) s = s.1.passes.honest
honest-so b c start last came out (Ok (parted.Refused n)) s = s.1.passes.honest
honest-so b c start last came out (Ok (parted.Failed fault)) s = s.1.passes.honest
honest-so b c start last came out (Err Read) s = s.2.passes.honest
honest-so b c start last came out (Err Write) s = s.3.passes.honest
honest-so b c start last came out (Err TooLong) s = s.1.passes.honest
honest-so b c start last came out (Err OutOfMemory) s = s.1.passes.honest

pub syncs-unasked : (a b : Store) (unread before : Option (List ℕ)) (empty out : List ℕ)
    (started : Result (Unit {0}) ExchangeFault) (fault : ExchangeFault) → empty ≡ []
    → Greets a b empty out started → started ≡ Err fault
    → Syncs a b unread unread before before (Err (Exchange fault))
syncs-unasked a b unread before empty out started fault none greets is =
    let failed : Greets a b [] out (Err fault) =
    subst (λ (r : Result (Unit {0}) ExchangeFault). Greets a b [] out r) is
    (subst (λ (e : List ℕ). Greets a b e out started) none greets) in
    inl (record {
      fault = fault;
      told = refl;
      greets =
          subst (λ (o : List ℕ). Greets a b [] o (Err fault)) failed.kept.1 failed;
      read =
          Consumes-nil unread;
      written = Appends-nil before;
    })

pub syncs-unsent : (a b : Store) (unread before after : Option (List ℕ)) (empty out : List ℕ)
    (started : Result (Unit {0}) ExchangeFault) (fault : ServeFault) → empty ≡ []
    → Greets a b empty out started → started ≡ Ok tt
    → AppendsPart before after out → ◌≡◌ {A = Result (Unit {0}) ServeFault} (Err fault) (Err Write)
    → Syncs a b unread unread before after (Err (Connection fault))
syncs-unsent a b unread before after empty out started fault none greets is part same =
    let write : fault ≡ Write = cc in
    let made : Greets a b [] out (Ok tt) =
    subst (λ (r : Result (Unit {0}) ExchangeFault). Greets a b [] out r) is
    (subst (λ (e : List ℕ). Greets a b e out started) none greets) in
    inr (inl (record {
      frame = out;
      told = ap (λ (f : ServeFault). let r : Result Synced SyncFault =
          Err (Connection f) in r) write;
      greets = made;
      read = Consumes-nil unread;
      written =
          part;
    }))

pub syncs-asked : (a b c : Store) (unread left before between after : Option (List ℕ))
    (empty out : List ℕ) (started : Result (Unit {0}) ExchangeFault)
    (ending : Result PeerEnded ServeFault) (result : Result Synced SyncFault)
    (start last : DialogState)
    → empty ≡ [] → Greets a b empty out started → started ≡ Ok tt → Appends before between out
    → start ≡ calling → MeetsTo start b c [] unread left between after ending last
    → result ≡ synced_by last ending
    → Syncs a c unread left before after result
syncs-asked a b c unread left before between after empty out started ending result start last none
    greets is appends at meets told =
    let made : Greets a b [] out (Ok tt) =
    subst (λ (r : Result (Unit {0}) ExchangeFault). Greets a b [] out r) is
    (subst (λ (e : List ℕ). Greets a b e out started) none greets) in
    let so : MeetsTo calling b c [] unread left between after ending last =
    subst (λ (s : DialogState). MeetsTo s b c [] unread left between after ending last) at meets in
    inr (inr (record {
      frame = out;
      is = λ h. made.frame (honest-so b c calling last so.came so.out ending so.speaks h);
      between = between;
      written = appends;
      ending = ending;
      last = last;
      told = told;
      meets = meets-behind calling last a b c unread left between after ending made.stays
          made.passes so;
    }))
