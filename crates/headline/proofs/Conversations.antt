-- What is answered on one connection of many is a turn of a machine.
use Rattle.std.proofs.Common.{◌≡◌, ◌<◌, ◌≤◌, ℕ, ℤ, Bool, true, false, List, [], ◌++◌, map, take, Option, None, Some, option_to_list, Result, Ok, Err, refl, sym, ap, subst, ◌∙◌, inl, inr}
use Rattle.std.proofs.lemmas.List.{append-nil}
use Rattle.records.specs.Contents.{Content, merged}
use Rattle.records.specs.declared.record.Record.{Record}
use Rattle.archive.specs.Store.{Store, AfterCall, KeepsContent}
use Rattle.archive.proofs.Calls.{passes-then, in_use, left_in_use}
use Rattle.counted_io.specs.declared.fault.ServeFault.{ServeFault}
use Rattle.exchange.specs.declared.fault.ExchangeFault.{ExchangeFault}
use Rattle.exchange.specs.declared.fault.ExchangeFault.TheVariants as exchange
use Rattle.exchange.specs.Admissions.{first_frame}
use Rattle.exchange.specs.Ahead.{first_records, new_among, piece, ReportsAhead, LearnsAhead}
use Rattle.exchange.specs.Dialogs.{DialogState, party_of}
use Rattle.exchange.specs.Merging.{StopsAt}
use Rattle.exchange.specs.Messages.{Party}
use Rattle.ua_connection.specs.Turns.{ConnectionState}
use Rattle.ua_peers.specs.Wires.{IsStartOf}
use Rattle.ua_peers.specs.declared.peers.PeerEnded.{PeerEnded}
use Rattle.ua_peers.specs.declared.calling.SyncFault.{SyncFault}
use Rattle.ua_peers.specs.declared.calling.SyncFault.TheVariants.{Exchange}
use Rattle.ua_settings.specs.declared.peers.PeerCall.{PeerCall}
use Rattle.conversation.specs.declared.other_end.OtherEnd.{OtherEnd}
use Rattle.conversation.specs.declared.other_end.PeerDialog.{PeerDialog}
use Rattle.conversation.specs.declared.world.World.{World}
use Rattle.conversation.specs.OtherEnds.{ConversationEnding}
use Rattle.conversation.specs.Admitting.{AsksOwn}
use Rattle.conversation.specs.Answering.{AnswersClient, AnswersPeer, LearnsFromPeer, RefusesPeer, EndsByComparing, Tells}
use Rattle.conversation.specs.Comparing.{ComparesFirst, FindsNone}
use Rattle.conversation.specs.Closing.{TellsCallOf}
use Rattle.conversation.specs.Events.{Telling}
use Rattle.conversation.specs.OtherEnds.{none_moved}
use Rattle.multiplex.specs.declared.stay.Party.{Party as OtherParty}
use Rattle.multiplex.specs.declared.stay.Stay.{Stay}
use Rattle.ua_peers.specs.declared.calling.Synced.{Synced}
use Rattle.conversation.specs.Starting.{AsksPeer, BeginsBy, StartsCall}
use Rattle.conversation.proofs.Asked.{own_leaves, own_answered, compared_leaves, none_found, leaves_behind, same_party, talks_behind}
use Rattle.headline.specs.Machines.{RestartsAs, IsMachine}
use Rattle.headline.specs.Plants.{AreUnforged, BeginsCall, Plant, plant_after, IsClientTurn, IsPeerTurn, IsCallTurn, IsLearningTurn, IsRefusalTurn}

-- what is written is what was said, or nothing
told_part : (said made : List ℕ) (ends : Option (Result PeerEnded ServeFault))
    (ending : Option ConversationEnding) → Tells said ends made ending → IsStartOf made said
told_part said made ends ending (inl all) = ([], sym all.0 ∙ sym (append-nil made))
told_part said made ends ending (inr none) = (said, told none.0)
  where
    told : made ≡ [] → said ≡ made ++ said
    told e = ap (λ (l : List ℕ). l ++ said) (sym e)

-- the frame that asks was made and is written, or not kept
begun_by : (checks : Bool) (a b : Store) (made : List ℕ) (result : Result (Unit {0}) ExchangeFault)
    → AsksPeer checks a b made result → BeginsCall a b made
begun_by checks a b made result (inl greets) =
    (checks, made, result, greets, ([], sym (append-nil made)))
begun_by checks a b made result (inr (frame, greets, none, starved)) =
    (checks, frame, Ok tt, greets, (frame, ap (λ (l : List ℕ). l ++ frame) (sym none)))

-- records that are learned ahead over what an archive holds behind a query are learned over what it
-- held before, since an archive that answers is in use
learned_behind : (a b c : Store) (start last : DialogState) (rs : List Record)
    (result : Result (Option ℕ) ExchangeFault) → KeepsContent a b → AfterCall a b None
    → LearnsAhead b c start last rs result → LearnsAhead a c start last rs result
learned_behind a b c start last rs result stays leaves learns = record {
  learned = learns.learned;
  tells = told result learns.tells;
  few = λ honest. subst (λ (R : Content). new_among (take learns.learned rs) R ≤ piece)
      (same honest) (learns.few honest);
  stands = learns.stands;
  content = λ honest used. learns.content honest used
      ∙ ap (merged (take learns.learned rs)) (same honest);
  crash = λ honest left found. elim (learns.crash honest left found) [
    | inl before ↦ inl (stays.crash (learns.passes.honest honest) left before.0, before.1)
    | inr more ↦ inr (
      in_use a b leaves,
      more.1,
      more.2,
      more.3,
      more.4 ∙ ap (merged (take more.1 rs)) (same honest),
    )
  ];
  passes = passes-then a b c [] _ leaves.passes learns.passes;
}
  where
    same : c.honest → b.content ≡ a.content
    same honest = stays.content (learns.passes.honest honest) (left_in_use a b leaves)

    told : (r : Result (Option ℕ) ExchangeFault) → ReportsAhead b c rs learns.learned r
        → ReportsAhead a c rs learns.learned r
    told (Ok None) tells = record {
      content = λ honest used. tells.content honest used ∙ same honest;
      crash = λ honest left found.
          stays.crash (learns.passes.honest honest) left (tells.crash honest left found);
    }
    told (Ok (Some added)) tells = λ honest.
        subst (λ (R : Content). (added ≡ new_among (take learns.learned rs) R) × (0 < added))
        (same honest) (tells honest)
    told (Err (exchange.Learn count cause)) tells = λ honest.
        subst (λ (R : Content). StopsAt R rs learns.learned cause) (same honest) (tells honest)
    told (Err (exchange.Store fault)) tells = tells
    told (Err exchange.Frame) tells = absurd tells
    told (Err exchange.WrongArchive) tells = absurd tells
    told (Err exchange.OutOfMemory) tells = absurd tells
    told (Err exchange.SelfPeer) tells = absurd tells
    told (Err exchange.TooLong) tells = absurd tells
    told (Err exchange.PeerFormat) tells = absurd tells
    told (Err exchange.AheadOfClock) tells = absurd tells
    told (Err exchange.NotAdmitted) tells = absurd tells
    told (Err exchange.GivenTwice) tells = absurd tells

-- so they are where it may have been asked how many records of its own number it holds
ahead_behind : {A : Type 0} (state : A → Store) (asks : Bool) (v w : A) (held : Option ℕ)
    (c : Store) (start last : DialogState) (waiting : List ℕ)
    (result : Result (Option ℕ) ExchangeFault) → AsksOwn state asks v w (Ok held)
    → LearnsAhead (state w) c start last (first_records (party_of (state w)) start waiting) result
    → LearnsAhead (state v) c start last (first_records (party_of (state v)) start waiting) result
ahead_behind state true v w held c start last waiting result asked learns =
    learned_behind (state v) (state w) c start last
    (first_records (party_of (state v)) start waiting) result asked.stays asked.leaves
    (subst (λ (p : Party). LearnsAhead (state w) c start last (first_records p start waiting)
    result) (same_party (state v) (state w) [] asked.leaves.passes) learns)
ahead_behind {A} state false v w held c start last waiting result same learns =
    subst (λ (u : A). LearnsAhead (state u) c start last
    (first_records (party_of (state u)) start waiting) result) same.0 learns

-- and so they are where a call compared the first frame before, and found no number given twice
compared_behind : {A : Type 0} (state : A → Store) (compares : Bool) (first : List ℕ) (v w : A)
    (c : Store) (start last : DialogState) (waiting : List ℕ)
    (result : Result (Option ℕ) ExchangeFault) → ComparesFirst state compares first v w (Ok None)
    → LearnsAhead (state w) c start last (first_records (party_of (state w)) start waiting) result
    → LearnsAhead (state v) c start last (first_records (party_of (state v)) start waiting) result
compared_behind state true first v w c start last waiting result (inl asked) learns =
    learned_behind (state v) (state w) c start last
    (first_records (party_of (state v)) start waiting) result asked.stays asked.leaves
    (subst (λ (p : Party). LearnsAhead (state w) c start last (first_records p start waiting)
    result) (same_party (state v) (state w) [] asked.leaves.passes) learns)
compared_behind {A} state true first v w c start last waiting result (inr same) learns =
    subst (λ (u : A). LearnsAhead (state u) c start last
    (first_records (party_of (state u)) start waiting) result) same.0 learns
compared_behind {A} state false first v w c start last waiting result same learns =
    subst (λ (u : A). LearnsAhead (state u) c start last
    (first_records (party_of (state u)) start waiting) result) same.0 learns

module _ {A C L : Type 0} (state : A → Store) where
  pub client_turns : (gave : C → List ℤ → C → Type 0) (told : Telling L) (stay : Stay)
      (v w : World A C L) (link : ConnectionState) (made : List ℕ) (ending : Option ConversationEnding) (next : OtherEnd) (old : Plant A)
      (place : ℕ) (later : A) → AnswersClient state gave told stay v link made ending w next
      → IsMachine state old.machines place v.server.replica.archive
      → (state w.server.replica.archive).honest
      → RestartsAs (state w.server.replica.archive) (state later)
      → IsClientTurn state old (plant_after old place later [])
  client_turns gave told stay v w link made ending next old place later answers there honest goes = record {
    place = place;
    before = v.server.replica.archive;
    later = later;
    made = [];
    there = there;
    acts = record {
      behind = w.server.replica.archive;
      does = record {
        settings = v.server.settings;
        link = link;
        used = answers.used;
        answer = made;
        ending = answers.ends;
        next = answers.later;
        advances = answers.advances;
        silent = refl;
      };
      honest = honest;
      goes = goes;
    };
    now = refl;
  }

  pub peer_turns : (gave : C → List ℤ → C → Type 0) (party : OtherParty) (v u w : World A C L)
      (peer : PeerDialog) (made : List ℕ)
      (ending : Option ConversationEnding) (next : OtherEnd) (old : Plant A) (place : ℕ) (later : A)
      → FindsNone state party peer v u → (answers : AnswersPeer state gave u peer made ending w next)
      → AreUnforged old.written (party_of (state v.server.replica.archive))
      (map (λ t. t.frame) answers.once.talks.taken)
      → IsMachine state old.machines place v.server.replica.archive
      → (state w.server.replica.archive).honest
      → RestartsAs (state w.server.replica.archive) (state later)
      → IsPeerTurn state old (plant_after old place later made)
  unfolding talks_behind
  peer_turns gave party v u w peer made ending next old place later none answers unforged there
      honest goes =
      let first = none_found state _ _ _ _ none.1 in
      let kept = own_answered state _ _ answers.between _ answers.takes.asks in
      record {
        place = place;
        before = v.server.replica.archive;
        later = later;
        made = made;
        there = there;
        acts = record {
          behind = w.server.replica.archive;
          does = record {
            start = peer.dialog;
            came = peer.frames.waiting;
            said = answers.said;
            rest = answers.rest;
            ending = answers.ends;
            last = answers.last;
            talks = talks_behind _ _ _ _ _ _ _ _ _ first.0 first.1
                (talks_behind _ _ _ _ _ _ _ _ _ kept.0 kept.1 answers.once.talks);
            unforged = unforged;
            part = told_part answers.said made answers.ends ending answers.tells;
          };
          honest = honest;
          goes = goes;
        };
        now = refl;
      }

  pub learning_turns : (gave : C → List ℤ → C → Type 0) (party : OtherParty) (v u w : World A C L)
      (peer : PeerDialog) (made : List ℕ) (ending : Option ConversationEnding) (next : OtherEnd)
      (old : Plant A) (place : ℕ) (later : A) → FindsNone state party peer v u
      → LearnsFromPeer state gave u peer made ending w next
      → AreUnforged old.written (party_of (state v.server.replica.archive))
      (option_to_list (first_frame peer.frames.waiting))
      → IsMachine state old.machines place v.server.replica.archive
      → (state w.server.replica.archive).honest
      → RestartsAs (state w.server.replica.archive) (state later)
      → IsLearningTurn state old (plant_after old place later made)
  learning_turns gave party v u w peer made ending next old place later none learns unforged there
      honest goes =
      record {
        place = place;
        before = v.server.replica.archive;
        later = later;
        made = made;
        there = there;
        acts = record {
          behind = w.server.replica.archive;
          does = record {
            start = peer.dialog;
            last = learns.last;
            came = peer.frames.waiting;
            result = learns.result;
            said = learns.said;
            ends = learns.ends;
            learns = compared_behind state _ _ v.server.replica.archive u.server.replica.archive
                (state w.server.replica.archive) peer.dialog learns.last peer.frames.waiting
                learns.result none.1
                (ahead_behind state _ u.server.replica.archive learns.between learns.takes.held
                (state w.server.replica.archive) peer.dialog learns.last peer.frames.waiting
                learns.result learns.takes.asks learns.learns);
            unforged = unforged;
            told = learns.told;
            part = told_part learns.said made learns.ends ending learns.tells;
          };
          honest = honest;
          goes = goes;
        };
        now = refl;
      }

  pub refusal_turns : (gave : C → List ℤ → C → Type 0) (party : OtherParty) (v u w : World A C L)
      (peer : PeerDialog) (made : List ℕ) (ending : Option ConversationEnding) (next : OtherEnd)
      (old : Plant A) (place : ℕ) (later : A) → FindsNone state party peer v u
      → RefusesPeer state gave u peer made ending w next
      → IsMachine state old.machines place v.server.replica.archive
      → (state w.server.replica.archive).honest
      → RestartsAs (state w.server.replica.archive) (state later)
      → IsRefusalTurn state old (plant_after old place later made)
  refusal_turns gave party v u w peer made ending next old place later none refuses there honest
      goes =
      let first = none_found state _ _ _ _ none.1 in
      let left = leaves_behind _ _ _ first.0 first.1
      (own_leaves state _ _ _ refuses.asked refuses.asks) in record {
        place = place;
        before = v.server.replica.archive;
        later = later;
        made = made;
        there = there;
        acts = record {
          behind = w.server.replica.archive;
          does = record {
            fault = refuses.refuses.fault;
            told = refuses.refuses.told;
            said = refuses.said;
            faults = left.faults;
            stays = left.stays;
            passes = left.passes;
            tells = refuses.refuses.tells;
            part = told_part refuses.said made refuses.ends ending refuses.tells;
          };
          honest = honest;
          goes = goes;
        };
        now = refl;
      }

  -- a call was ended by what it found, or met, as it compared the first frame
  pub comparing_turns : (told : Telling L) (party : OtherParty) (v w : World A C L)
      (peer : PeerDialog) (made : List ℕ) (ending : Option ConversationEnding) (next : OtherEnd)
      (old : Plant A) (place : ℕ) (later : A)
      → EndsByComparing state told party v peer made ending w next
      → IsMachine state old.machines place v.server.replica.archive
      → (state w.server.replica.archive).honest
      → RestartsAs (state w.server.replica.archive) (state later)
      → IsRefusalTurn state old (plant_after old place later made)
  comparing_turns told party v w peer made ending next old place later ends there honest goes =
      let left = compared_leaves state _ _ _ _ ends.found ends.compares in record {
        place = place;
        before = v.server.replica.archive;
        later = later;
        made = made;
        there = there;
        acts = record {
          behind = w.server.replica.archive;
          does = record {
            fault = ends.fault;
            told = ends.result;
            said = ends.said;
            faults = left.faults;
            stays = left.stays;
            passes = left.passes;
            tells = ends.tells;
            part = told_part ends.said made _ ending ends.written;
          };
          honest = honest;
          goes = goes;
        };
        now = refl;
      }

  -- how a call ended was told, and the archive stays
  told_same : (gave : C → List ℤ → C → Type 0) (told : Telling L) (callee : ℕ)
      (v w : World A C L) (outcome : Result (Unit {0}) SyncFault) (moved : Synced)
      (peer : Option PeerCall) → TellsCallOf gave told v callee outcome moved w peer
      → w.server.replica.archive ≡ v.server.replica.archive
  told_same gave told callee v w outcome moved None e =
      ap (λ (u : World A C L). u.server.replica.archive) e
  told_same gave told callee v w outcome moved (Some peer) ends =
      ap (λ (u : World A C L). u.server.replica.archive) ends.same

  begun_same : (gave : C → List ℤ → C → Type 0) (told : Telling L) (callee : ℕ)
      (v w : World A C L) (other : Option OtherEnd) (result : Result (Unit {0}) ExchangeFault)
      → BeginsBy gave told callee v other w result
      → w.server.replica.archive ≡ v.server.replica.archive
  begun_same gave told callee v w other (Ok done) so =
      ap (λ (u : World A C L). u.server.replica.archive) so.1
  begun_same gave told callee v w other (Err fault) so =
      told_same gave told callee v w (Err (Exchange fault)) none_moved _ so.1

  pub call_turns : (gave : C → List ℤ → C → Type 0) (told : Telling L) (callee : ℕ)
      (v w : World A C L) (made : List ℕ) (other : Option OtherEnd) (old : Plant A) (place : ℕ)
      (later : A) → StartsCall state gave told callee v made other w
      → IsMachine state old.machines place v.server.replica.archive
      → (state w.server.replica.archive).honest
      → RestartsAs (state w.server.replica.archive) (state later)
      → IsCallTurn state old (plant_after old place later made)
  call_turns gave told callee v w made other old place later starts there honest goes =
      let same = begun_same gave told callee starts.between w other starts.result starts.begins in
      record {
        place = place;
        before = v.server.replica.archive;
        later = later;
        made = made;
        there = there;
        acts = record {
          behind = starts.between.server.replica.archive;
          does = begun_by _ _ _ made starts.result starts.asks;
          honest = subst (λ (x : A). (state x).honest) same honest;
          goes = subst (λ (x : A). RestartsAs (state x) (state later)) same goes;
        };
        now = refl;
      }
