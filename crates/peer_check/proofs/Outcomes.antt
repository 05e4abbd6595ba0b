-- What a comparison over a connection comes to, for `compare_round` and `compare`.
use Rattle.std.proofs.Common.{◌≡◌, ℕ, List, [], ◌∷◌, ◌++◌, Option, Some, None, false, Result, Ok, Err, refl, sym, ap, ◌∙◌, subst, append_assoc}
use Rattle.std.specs.Prelude.{⊤, is_some}
use Rattle.std.specs.List.{AllByRecursion, flat_map}
use Rattle.std.specs.Io.KnownBytes.{Appends}
use Rattle.std.proofs.KnownBytes.{Appends-trans}
use Rattle.std.proofs.lemmas.Bool.{true≢false}
use Rattle.std.proofs.lemmas.List.{append-nil}
use Rattle.stamp.specs.Numbers.{number_of}
use Rattle.records.specs.Contents.{Content, vec, AreCompatible}
use Rattle.records.specs.declared.record.Record.{Record}
use Rattle.archive.specs.declared.fault.StoreFault.{StoreFault}
use Rattle.archive.specs.Store.{Store, Asks, CountsFaults}
use Rattle.archive.proofs.Calls.{asks-then, asks-second, asks-failed, left_in_use}
use Rattle.counted_io.specs.Bytes.{AppendsPart}
use Rattle.exchange.specs.declared.fault.ExchangeFault.{ExchangeFault}
use Rattle.exchange.specs.declared.fault.ExchangeFault.TheVariants as exchange
use Rattle.exchange.specs.Batches.{AsksFor}
use Rattle.exchange.specs.Dialogs.{party_of}
use Rattle.exchange.specs.Messages.{Party}
use Rattle.ua_peers.specs.declared.calling.SyncFault.{SyncFault}
use Rattle.ua_peers.specs.declared.calling.SyncFault.TheVariants as sync
use Rattle.peer_check.specs.declared.comparing.Clash.{Clash}
use Rattle.peer_check.specs.Clashes.{FindsClash}
use Rattle.peer_check.specs.Comparing.{asking, Wire, HearsFrom, IsBeforeShared, Answers, AsksOnly, AsksAlone}
use Rattle.peer_check.specs.declared.comparing.Extent.{Extent}

-- ---- what the archive was asked

-- it answered
pub alone_asked : {A B : Type 0} (a b : Store) (x : A) (P : A → Type 0)
    (result : Result B SyncFault) → Asks a b (Ok x) P → AsksAlone a b result
alone_asked a b x P result p =
    (Ok tt, record { answer = λ h. tt; stays = p.stays; leaves = p.leaves }, tt)

-- or it didn't, which is told
pub alone_failed : {A B : Type 0} (a b : Store) (fault : ExchangeFault) (P : A → Type 0)
    (result : Result B SyncFault) → AsksFor {A = A} a b (Err fault) P
    → result ≡ Err (sync.Exchange fault) → AsksAlone a b result
alone_failed a b (exchange.Store met) P result p is =
    (Err met, asks-failed a b met P (λ u. ⊤) p, is)
alone_failed a b exchange.OutOfMemory P result p is = (Ok tt, p, tt)
alone_failed a b exchange.Frame P result p is = absurd p
alone_failed a b exchange.WrongArchive P result p is = absurd p
alone_failed a b (exchange.Learn learned cause) P result p is = absurd p
alone_failed a b exchange.SelfPeer P result p is = absurd p
alone_failed a b exchange.TooLong P result p is = absurd p
alone_failed a b exchange.PeerFormat P result p is = absurd p
alone_failed a b exchange.AheadOfClock P result p is = absurd p
alone_failed a b exchange.NotAdmitted P result p is = absurd p
alone_failed a b exchange.GivenTwice P result p is = absurd p

-- whatever came of it
pub asked_for : {A : Type 0} (a b : Store) (result : Result A ExchangeFault) (P : A → Type 0)
    → AsksFor a b result P
    → (asked : Result (Unit {0}) StoreFault) × Asks a b asked (λ _. ⊤)
asked_for a b (Ok x) P p =
    (Ok tt, record { answer = λ h. tt; stays = p.stays; leaves = p.leaves })
asked_for a b (Err fault) P p =
    let failed = alone_failed {B = Unit {0}} a b fault P (Err (sync.Exchange fault)) p refl in
    (failed.0, failed.1)

-- behind an answer it met no fault
pub alone_ok : {B : Type 0} (b d : Store) (x : B) → AsksAlone b d (Ok x)
    → Asks {A = Unit {0}} b d (Ok tt) (λ _. ⊤)
alone_ok b d x (Ok done, asks, told) = asks
alone_ok b d x (Err met, asks, told) = absurd cc

-- what was asked before counts too
pub alone_then : {A B C : Type 0} (a b d : Store) (x : A) (P : A → Type 0) (r : Result B SyncFault)
    (s : Result C SyncFault) → Asks a b (Ok x) P → AsksAlone b d r
    → ((fault : SyncFault) → r ≡ Err fault → s ≡ Err fault) → AsksAlone a d s
alone_then a b d x P r s first (Ok done, asks, told) same =
    (Ok tt, asks-then a b d x (Ok tt) P (λ _. ⊤) (λ _. ⊤) first asks (λ h k px e. tt), tt)
alone_then a b d x P r s first (Err met, asks, told) same = (
  Err met,
  asks-second a b d x met P (λ _. ⊤) (λ _. ⊤) first asks,
  same (sync.Exchange (exchange.Store met)) told,
)

-- ---- who asks

-- calls of an archive leave it whose it is
pub same_party : (a b : Store) (faults : List StoreFault) → CountsFaults a b faults
    → party_of b ≡ party_of a
same_party a b faults passes = ap (λ (id : List ℕ). let p : Party = record { id = id; own = b.own } in p) passes.id
    ∙ ap (λ (own : ℕ). let p : Party = record { id = a.id; own = own } in p) passes.own

-- a question by the one, and what was heard by the other, are of a third that both are
pub answers_by : (p q r : Party) (numbers theirs : List ℕ) (old new : Wire) (brought : List Record)
    → q ≡ p → r ≡ p → Appends old.written new.written (asking q numbers)
    → HearsFrom r theirs old.waiting new.waiting old.unread new.unread brought
    → Answers p numbers theirs old new brought
answers_by p q r numbers theirs old new brought asker hearer asks hears = record {
  asks = subst (λ (x : Party). Appends old.written new.written (asking x numbers)) asker asks;
  hears = subst (λ (x : Party). HearsFrom x theirs old.waiting new.waiting old.unread new.unread
      brought) hearer hears;
}

-- ---- what was written

-- all of some bytes is a part of them
pub part_of_whole : (before after : Option (List ℕ)) (bytes : List ℕ) → Appends before after bytes
    → AppendsPart before after bytes
part_of_whole before after bytes sent = (bytes, [], sym (append-nil bytes), sent)

-- one question, or a first part of it
pub said_one : (p : Party) (numbers : List ℕ) (before after : Option (List ℕ))
    → AppendsPart before after (asking p numbers) → AsksOnly p before after
said_one p numbers before after part =
    (numbers ∷ [], (part.0, part.1, append-nil (asking p numbers) ∙ part.2, part.3))

-- a question behind others
pub said_more : (p : Party) (asked : List (List ℕ)) (numbers : List ℕ)
    → flat_map (asking p) (asked ++ (numbers ∷ [])) ≡ flat_map (asking p) asked ++ asking p numbers
said_more p [] numbers = append-nil (asking p numbers)
said_more p (x ∷ asked) numbers =
    ap (λ bytes. asking p x ++ bytes) (said_more p asked numbers)
    ∙ sym (append_assoc (asking p x) (flat_map (asking p) asked) (asking p numbers))

-- questions behind others
said_all : (p : Party) (asked more : List (List ℕ))
    → flat_map (asking p) (asked ++ more) ≡ flat_map (asking p) asked ++ flat_map (asking p) more
said_all p [] more = refl
said_all p (x ∷ asked) more =
    ap (λ bytes. asking p x ++ bytes) (said_all p asked more)
    ∙ sym (append_assoc (asking p x) (flat_map (asking p) asked) (flat_map (asking p) more))

-- and perhaps the last in part
pub said_then : (p : Party) (asked : List (List ℕ)) (before between after : Option (List ℕ))
    → Appends before between (flat_map (asking p) asked) → AsksOnly p between after
    → AsksOnly p before after
said_then p asked before between after whole (more, (sent, unsent, is, rest)) = (
  asked ++ more,
  (
    flat_map (asking p) asked ++ sent,
    unsent,
    said_all p asked more ∙ ap (λ bytes. flat_map (asking p) asked ++ bytes) is
        ∙ sym (append_assoc (flat_map (asking p) asked) sent unsent),
    Appends-trans before between after (flat_map (asking p) asked) sent whole rest,
  ),
)

-- one question more
pub said_next : (p : Party) (asked : List (List ℕ)) (numbers : List ℕ)
    (before between after : Option (List ℕ)) → Appends before between (flat_map (asking p) asked)
    → Appends between after (asking p numbers)
    → Appends before after (flat_map (asking p) (asked ++ (numbers ∷ [])))
said_next p asked numbers before between after sent more =
    subst (λ (bytes : List ℕ). Appends before after bytes) (sym (said_more p asked numbers))
    (Appends-trans before between after (flat_map (asking p) asked) (asking p numbers) sent more)

-- all of some questions
pub said_whole : (p : Party) (asked : List (List ℕ)) (before after : Option (List ℕ))
    → Appends before after (flat_map (asking p) asked) → AsksOnly p before after
said_whole p asked before after sent =
    (asked, part_of_whole before after (flat_map (asking p) asked) sent)

-- ---- what is found

-- a content tells its numbers, and the peer was asked for what is compared
abbrev pub BeginsAt : Extent → Content → (ours theirs first : List ℕ) → Type 0
BeginsAt extent R ours theirs first =
    ((replica : ℕ) → number_of ours replica ≡ vec R replica) × IsBeforeShared extent R theirs first

-- over the content before both calls
pub finds_before : {A : Type 0} (a b : Store) (x : A) (P : A → Type 0)
    (brought : List Record) (found : Option Clash) → Asks a b (Ok x) P → b.honest
    → FindsClash b.content brought found → FindsClash a.content brought found
finds_before a b x P brought found p honest finds =
    subst (λ (R : Content). FindsClash R brought found)
    (p.stays.content honest (left_in_use a b p.leaves)) finds

-- one more answer in which nothing clashes
pub agree_more : (a b d : Store) (Begins : Type 0) (earlier : List (List Record))
    (brought : List Record)
    → Asks {A = Unit {0}} a b (Ok tt) (λ _. Begins × AllByRecursion (AreCompatible a.content) earlier)
    → Asks {A = Unit {0}} b d (Ok tt) (λ _. ⊤) → (d.honest → FindsClash b.content brought None)
    → Asks {A = Unit {0}} a d (Ok tt) (λ _. Begins × AllByRecursion (AreCompatible a.content) (brought ∷ earlier))
agree_more a b d Begins earlier brought first asks finds =
    asks-then a b d tt (Ok tt) (λ _. Begins × AllByRecursion (AreCompatible a.content) earlier)
    (λ _. ⊤) (λ _. Begins × AllByRecursion (AreCompatible a.content) (brought ∷ earlier)) first asks
    (λ h same px e. (
      px.0,
      (subst (λ (R : Content). AreCompatible R brought) same (finds h), px.1),
    ))

-- what is no clash is none
pub not_some : {A : Type 0} (found : Option A) → is_some found ≡ false → found ≡ None
not_some None is = refl
not_some (Some x) is = absurd (true≢false is)
