-- An archive that was asked how many records of its own it holds: for `answer_frame`, `answer_peer`
-- and what only grows.
use Rattle.std.proofs.Common.{◌≡◌, ◌∙◌, ℕ, Bool, true, false, List, [], Option, None, Result, Ok, sym, ap, subst, inl, inr}
use Rattle.std.proofs.Math.Bool.{or-false}
use Rattle.records.specs.Contents.{Content}
use Rattle.archive.specs.declared.fault.StoreFault.{StoreFault}
use Rattle.archive.specs.Store.{Store, KeepsContent, CountsFaults}
use Rattle.archive.proofs.Calls.{passes-none, stays-none, passes-then}
use Rattle.exchange.specs.Messages.{Party}
use Rattle.exchange.specs.Dialogs.{DialogState, IsHeld, party_of}
use Rattle.exchange.proofs.HandleLemmas.{unbroken_before}
use Rattle.counted_io.specs.declared.fault.ServeFault.{ServeFault}
use Rattle.ua_peers.specs.declared.peers.PeerEnded.{PeerEnded}
use Rattle.ua_peers.specs.Peers.{side_of, after_all, AreAnswered, IsLeftBy, Talks, TalksOnce}
use Rattle.exchange.specs.declared.fault.ExchangeFault.{ExchangeFault}
use Rattle.peer_check.specs.declared.comparing.Clash.{Clash}
use Rattle.peer_check.proofs.Outcomes.{asked_for}
use Rattle.conversation.specs.Admitting.{AsksOwn}
use Rattle.conversation.specs.Comparing.{ComparesFirst}

-- what is held stays, and each fault of the store is counted
pub record Leaves (a b : Store) : Type 0 where
  pub faults : List StoreFault
  pub stays : KeepsContent a b
  pub passes : CountsFaults a b faults

pub own_leaves : {A : Type 0} (state : A → Store) (asks : Bool) (v w : A)
    (result : Result (Option ℕ) StoreFault) → AsksOwn state asks v w result
    → Leaves (state v) (state w)
own_leaves state true v w result asked =
    record { faults = _; stays = asked.stays; passes = asked.leaves.passes }
own_leaves state false v w result same =
    subst (λ u. Leaves (state v) (state u)) (sym same.0)
    (record { faults = []; stays = stays-none (state v); passes = passes-none (state v) })

-- where it was answered, no fault came
pub own_answered : {A : Type 0} (state : A → Store) (asks : Bool) (v w : A) (held : Option ℕ)
    → AsksOwn state asks v w (Ok held)
    → KeepsContent (state v) (state w) × CountsFaults (state v) (state w) []
own_answered state true v w held asked = (asked.stays, asked.leaves.passes)
own_answered state false v w held same =
    subst (λ u. KeepsContent (state v) (state u) × CountsFaults (state v) (state u) [])
    (sym same.0) (stays-none (state v), passes-none (state v))

-- the same where records of a call's first frame may have been compared
pub compared_leaves : {A : Type 0} (state : A → Store) (compares : Bool) (waiting : List ℕ)
    (v w : A) (found : Result (Option Clash) ExchangeFault)
    → ComparesFirst state compares waiting v w found → Leaves (state v) (state w)
compared_leaves state true waiting v w found (inl asks) =
    let asked = asked_for (state v) (state w) found _ asks in
    record { faults = _; stays = asked.1.stays; passes = asked.1.leaves.passes }
compared_leaves state true waiting v w found (inr same) =
    subst (λ u. Leaves (state v) (state u)) (sym same.0)
    (record { faults = []; stays = stays-none (state v); passes = passes-none (state v) })
compared_leaves state false waiting v w found same =
    subst (λ u. Leaves (state v) (state u)) (sym same.0)
    (record { faults = []; stays = stays-none (state v); passes = passes-none (state v) })

pub none_found : {A : Type 0} (state : A → Store) (compares : Bool) (waiting : List ℕ) (v w : A)
    → ComparesFirst state compares waiting v w (Ok None)
    → KeepsContent (state v) (state w) × CountsFaults (state v) (state w) []
none_found state true waiting v w (inl asked) = (asked.stays, asked.leaves.passes)
none_found state true waiting v w (inr same) =
    subst (λ u. KeepsContent (state v) (state u) × CountsFaults (state v) (state u) [])
    (sym same.0) (stays-none (state v), passes-none (state v))
none_found state false waiting v w same =
    subst (λ u. KeepsContent (state v) (state u) × CountsFaults (state v) (state u) [])
    (sym same.0) (stays-none (state v), passes-none (state v))

-- what is held stays through both
pub leaves_behind : (a b c : Store) → KeepsContent a b → CountsFaults a b [] → Leaves b c
    → Leaves a c
leaves_behind a b c stays passes later = record {
  faults = later.faults;
  stays = record {
    content = λ honest used. later.stays.content honest used
        ∙ stays.content (later.passes.honest honest)
        (unbroken_before b c _ later.passes used);
    crash = λ honest left found.
        stays.crash (later.passes.honest honest) left (later.stays.crash honest left found);
  };
  passes = passes-then a b c [] later.faults passes later.passes;
}

-- the archive stands for the same party
pub same_party : (a b : Store) (faults : List StoreFault) → CountsFaults a b faults
    → party_of b ≡ party_of a
same_party a b faults passes =
    ap (λ i. let p : Party = record { id = i; own = b.own } in p) passes.id
    ∙ ap (λ n. let p : Party = record { id = a.id; own = n } in p) passes.own

-- a dialog over what an archive holds once it was asked is one over what it held before, by the
-- same frames
unfoldable pub talks_behind : (a b c : Store) (start last : DialogState) (came out rest : List ℕ)
    (ending : Option (Result PeerEnded ServeFault)) → KeepsContent a b → CountsFaults a b []
    → Talks start b c came out rest ending last → Talks start a c came out rest ending last
talks_behind a b c start last came out rest ending stays passes talks = record {
  taken = talks.taken;
  beside = talks.beside;
  frames = talks.frames;
  wrote = talks.wrote;
  ends = talks.ends;
  passes = passes-then a b c [] _ passes talks.passes;
  answered = λ honest R held.
      subst (λ p. AreAnswered p (side_of start R) talks.taken) same
      (talks.answered honest R (still R honest held));
  stands = λ honest R held.
      subst (λ p. last ≡ (after_all p (side_of start R) talks.taken).standing) same
      (talks.stands honest R (still R honest held));
  content = λ honest R held.
      subst (λ p. IsHeld c (after_all p (side_of start R) talks.taken).content) same
      (talks.content honest R (still R honest held));
  used = λ honest unbroken none. talks.used honest (whole unbroken) none;
  crash = λ honest R held left found. elim (talks.crash honest R (still R honest held) left found) [
    | inl before ↦ inl (
      stays.crash (talks.passes.honest honest) left before.0,
      λ unbroken. subst (λ p. (after_all p (side_of start R) talks.taken).content ≡ R) same
          (before.1 (whole unbroken)),
    )
    | inr more ↦ inr (
      unbroken_before a b _ passes more.0,
      subst (λ p. IsLeftBy p (side_of start R) talks.taken left) same more.1,
    )
  ];
}
  where
    same : party_of b ≡ party_of a
    same = same_party a b [] passes

    still : (R : Content) → c.honest → IsHeld a R → IsHeld b R
    still R honest held unbroken =
        stays.content (talks.passes.honest honest) unbroken
        ∙ held (unbroken_before a b _ passes unbroken)

    whole : a.broken ≡ false → b.broken ≡ false
    whole unbroken = passes.broken ∙ or-false a.broken ∙ unbroken

-- the same of one frame at most
pub talks_once_behind : (a b c : Store) (start last : DialogState) (came out rest : List ℕ)
    (ending : Option (Result PeerEnded ServeFault)) → KeepsContent a b → CountsFaults a b []
    → TalksOnce start b c came out rest ending last → TalksOnce start a c came out rest ending last
unfolding talks_behind
talks_once_behind a b c start last came out rest ending stays passes once = record {
  talks = talks_behind a b c start last came out rest ending stays passes once.talks;
  one = once.one;
  some = once.some;
}
