-- A call that compares the first frame, for `answer_compared` and `a_first_frame_agrees`.
use Rattle.std.proofs.Common.{◌≡◌, ◌∙◌, ℕ, Bool, true, false, List, ◌∷◌, Option, None, Some, Result, Ok, Err, refl, sym, ap, subst, inl, inr}
use Rattle.records.specs.Lists.{Has}
use Rattle.records.specs.Contents.{Content, HasName}
use Rattle.records.specs.declared.record.Record.{Record}
use Rattle.records.proofs.ContentLemmas.{has-append}
use Rattle.archive.specs.Store.{Store}
use Rattle.exchange.specs.Dialogs.{party_of}
use Rattle.exchange.specs.declared.fault.ExchangeFault.{ExchangeFault}
use Rattle.multiplex.specs.declared.stay.Party.{Party}
use Rattle.multiplex.specs.declared.stay.Party.TheVariants.{Accepted, Called}
use Rattle.peer_check.specs.Beginning.{first_brought}
use Rattle.peer_check.specs.Clashes.{IsClash, StandsBehind}
use Rattle.peer_check.specs.declared.comparing.Clash.{Clash}
use Rattle.conversation.specs.declared.other_end.PeerDialog.{PeerDialog}
use Rattle.conversation.specs.declared.world.World.{World}
use Rattle.conversation.specs.Comparing.{compares_first, ComparesFirst, comparing_fault, LogsClash, FindsNone}
use Rattle.conversation.specs.Events.{Telling}

-- no fault, so nothing was found
none-so : (found : Result (Option Clash) ExchangeFault) → comparing_fault found ≡ None
    → found ≡ Ok None
none-so (Ok None) none = refl
none-so (Ok (Some clash)) none = absurd cc
none-so (Err fault) none = absurd cc

-- then nothing was told
log-stays : {L : Type 0} (told : Telling L) (party : Party)
    (found : Result (Option Clash) ExchangeFault) (old new : L) → found ≡ Ok None
    → LogsClash told party found old new → new ≡ old
log-stays told (Called callee) (Ok None) old new none logs = logs
log-stays told (Called callee) (Ok (Some clash)) old new none logs = absurd cc
log-stays told (Called callee) (Err fault) old new none logs = absurd cc
log-stays told (Accepted origin) found old new none logs = logs

module _ {A C L : Type 0} (state : A → Store) (told : Telling L) (party : Party)
    (peer : PeerDialog) where
  -- the server's archive and the log alone changed
  abbrev Changed : (v u : World A C L) → Type 0
  Changed v u = u ≡ record v { server = record v.server { replica = u.server.replica }; log = u.log }

  pub finds-none : (v u : World A C L) (found : Result (Option Clash) ExchangeFault)
      → ComparesFirst state (compares_first v.server.settings party peer) peer.frames.waiting
      v.server.replica.archive u.server.replica.archive found
      → LogsClash told party found v.log u.log → comparing_fault found ≡ None → Changed v u
      → FindsNone state party peer v u
  finds-none v u found compares logs none same =
      let is = none-so found none in (
        same ∙ ap (λ (l : L). let w : World A C L =
            record v { server = record v.server { replica = u.server.replica }; log = l } in w)
            (log-stays told party found v.log u.log is logs),
        subst (λ (r : Result (Option Clash) ExchangeFault). ComparesFirst state
            (compares_first v.server.settings party peer) peer.frames.waiting
            v.server.replica.archive u.server.replica.archive r) is compares,
      )

-- ---- what it finds

module _ {A : Type 0} (state : A → Store) (waiting : List ℕ) (v w : A)
    (honest : (state w).honest) where
  -- what the frame brings, and what is held before
  abbrev brought : List Record
  brought = first_brought (party_of (state v)) waiting

  abbrev held : Content
  held = (state v).content

  -- nothing: what the frame brings by a name that is held is held
  pub agrees : (r : Record) (compares : Bool) → ComparesFirst state compares waiting v w (Ok None)
      → compares ≡ true → Has brought r → HasName held r.origin r.number → Has held r
  agrees r true (inl asked) is there named =
      let one : named.0 ≡ r = asked.answer honest named.0 r named.1 there named.2.0 named.2.1 in
      subst (Has held) one named.1
  agrees r true (inr (same, inl starved)) is there named = absurd cc
  agrees r true (inr (same, inr none)) is there named =
      absurd (subst (λ (rs : List Record). Has rs r) none.0 there)
  agrees r false same is there named = absurd cc

  -- what stands behind others stands among all
  stands_among : (r : Record) → StandsBehind held brought r → Has brought r
  stands_among r (before, after, parts, agree) = subst (λ (rs : List Record). Has rs r) (sym parts)
      (has-append before (r ∷ after) r (inr (inl refl)))

  -- two records
  pub differs : (clash : Clash) (compares : Bool)
      → ComparesFirst state compares waiting v w (Ok (Some clash))
      → (compares ≡ true) × IsClash held clash × Has brought clash.brought
  differs clash true (inl asked) =
      let found = asked.answer honest in
      (refl, found.0, stands_among clash.brought found.1)
  differs clash true (inr (same, inl starved)) = absurd cc
  differs clash true (inr (same, inr (none, found))) = absurd cc
  differs clash false (same, found) = absurd cc
