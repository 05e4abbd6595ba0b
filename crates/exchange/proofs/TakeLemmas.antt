-- What an end makes of a frame.
use Rattle.std.proofs.Common.{◌≡◌, ◌⊎◌, ℕ, zero, suc, ◌+◌, true, arith, List, [], ◌++◌, take, Option, Some, None, Result, Ok, Err, IfOk, refl, sym, ap, ◌∙◌, subst, inl, inr, option_to_list}
use Rattle.std.specs.Option.{option_map_or, option_or}
use Rattle.std.specs.Result.{result_unwrap_or}
use Rattle.stamp.specs.Numbers.{number_of, IsVector}
use Rattle.ua_binary.specs.Format.{Puts}
use Rattle.records.specs.Contents.{Content, vec, merged}
use Rattle.records.specs.Spelling.{GivesUnless}
use Rattle.archive.specs.Store.{Store, Asks, CountsFaults}
use Rattle.std.proofs.lemmas.Option.{none-some}
use Rattle.exchange.specs.declared.fault.ExchangeFault.{ExchangeFault}
use Rattle.exchange.specs.declared.fault.ExchangeFault.TheVariants as exchange
use Rattle.exchange.specs.declared.message.FrameKind.{FrameKind}
use Rattle.exchange.specs.declared.message.Title.{Title}
use Rattle.exchange.specs.declared.message.Message.{Message}
use Rattle.exchange.specs.declared.message.Message.TheVariants as message
use Rattle.exchange.specs.declared.message.State.{State}
use Rattle.exchange.specs.declared.message.State.TheVariants as state
use Rattle.exchange.specs.declared.dialog.Reply.{Reply}
use Rattle.exchange.specs.declared.dialog.Progress.{Progress}
use Rattle.exchange.specs.Frames.{frame_of, message_at}
use Rattle.exchange.specs.Dialogs.{Turn, failing, turned, Unread, Starved, IsWay, gone, learned_in, learned_at, fault_on, records_in, records_read, DialogState, unfit, received, frame_answered, answered_to, standing_after, party_of, IsHeld, Handles, Writes, Takes, Greets, Sends, SendsHandled, AnswersTo, Concludes, capped, counted_by, added_to, carried, asks_store, broken_at}
use Rattle.exchange.proofs.DialogsParts.{bytes_of, taken_after}
use Rattle.exchange.specs.Merging.{MayBeLeft}
use Rattle.exchange.proofs.HandleLemmas.{title_in, title_is}

-- ---- what was handled is written

ok_reply : {reply : Reply} {fault : ExchangeFault}
    → ◌≡◌ {A = Result Reply ExchangeFault} (Ok reply) (Err fault) → ⊥
ok_reply e = cc

err_reply : (f g : ExchangeFault) → ◌≡◌ {A = Result Reply ExchangeFault} (Err f) (Err g) → f ≡ g
err_reply f g e = cc

pub answers_sent : (a c : Store) (state : State) (m : Message)
    (handled : Result Reply ExchangeFault) (result : Result Progress ExchangeFault)
    (out written : List ℕ)
    → Handles a c (records_in m) (λ R. turned (party_of a) state R m) handled
    → (a.broken ≡ true → asks_store state m ≡ true → handled ≡ Err (broken_at (records_in m)))
    → SendsHandled handled result out written → AnswersTo a c state (Ok m) out written result
answers_sent a c state m (Ok reply) (Ok done) out written handles ended sends = record {
  way = handles.way;
  ended = λ broken asks. absurd (ok_reply (ended broken asks));
  unmoved = tt;
  untaken = tt;
  outside = handles.outside;
  sends = λ h R held.
      let told = handles.tells h R held in (
        told.0 ∙ ap (λ (d : Progress). Ok d.state) (sym sends.0),
        told.2 ∙ ap (λ (d : Progress). d.code) (sym sends.0),
        sends.1 ∙ ap (λ o. out ++ bytes_of o) (sym told.1),
        told.3 ∙ ap (λ (d : Progress). d.learned) (sym sends.0),
        ap carried told.1 ∙ ap (λ (d : Progress). d.sent) (sym sends.0),
      );
  content = handles.content;
  crash = handles.crash;
  passes = handles.passes;
}
answers_sent a c state m (Ok reply) (Err fault) out written handles ended sends = record {
  way = Starved;
  ended = λ broken asks. absurd (ok_reply (ended broken asks));
  unmoved = tt;
  untaken = tt;
  outside = tt;
  sends = λ h R held. (ap (failing _) (sym sends.0), sends.1);
  content = λ h u. subst (λ w. c.content
      ≡ (gone w a.content (records_in m) (turned (party_of a) state a.content m)).content)
      handles.clear (handles.content h u);
  crash = λ h left m'. subst (λ w.
      MayBeLeft a (records_in m) (learned_in w (records_in m)
      (turned (party_of a) state a.content m)) left) handles.clear (handles.crash h left m');
  passes = subst (λ w. CountsFaults a c (option_to_list (fault_on w))) handles.clear handles.passes;
}
answers_sent a c state m (Err fault) (Ok done) out written handles ended sends = absurd sends
answers_sent a c state m (Err fault) (Err told) out written handles ended sends = record {
  way = handles.way;
  ended = λ broken asks. ap (λ f. Err f) (sends.0 ∙ err_reply fault _ (ended broken asks));
  unmoved = tt;
  untaken = tt;
  outside = handles.outside;
  sends = λ h R held. (handles.tells h R held ∙ ap (failing _) (sym sends.0), sends.1);
  content = handles.content;
  crash = handles.crash;
  passes = handles.passes;
}

-- ---- the end stands as it says

module _ (a c : Store) (before counted after : DialogState) (kind : FrameKind)
    (out mid written : List ℕ) (result : Result State ExchangeFault)
    (counts : counted ≡ record before { taken = taken_after (unfit before kind) before.taken })
  where
    writes : (R : Content) (turn : Turn) (answered : Result Progress ExchangeFault)
        → Sends R turn answered out mid → Concludes counted after answered result mid written
        → Writes turn result out written
    writes R turn (Ok done) sends concludes = inl (concludes.1 ∙ sym sends.0, concludes.2 ∙ sends.2)
    writes R turn (Err fault) sends concludes = elim concludes.1 [
      | inl told ↦ inl (
        told.0 ∙ sym (ap (λ (t : Turn). t.result) sends.0),
        told.1 ∙ (ap (λ o. o ++ frame_of (message.Ends
            (Rattle.exchange.specs.Fault.exchange_number fault))) sends.1
            ∙ ap (λ (t : Turn). out ++ bytes_of t.reply) (sym sends.0)),
      )
      | inr starved ↦ inr (
        fault,
        ap (λ (t : Turn). t.result) sends.0,
        starved.0,
        starved.1
            ∙ sends.1,
      )
    ]

    -- an end whose turn went well, by what was told of it
    abbrev goes_by : Result State ExchangeFault → Option ℕ → (learned sent : ℕ) → DialogState
    goes_by r code learned sent = record {
      state = result_unwrap_or r state.Failed;
      taken = taken_after (unfit before kind) before.taken;
      code = option_or code before.code;
      started = before.started;
      learned = counted_by r before.learned learned;
      sent = counted_by r before.sent sent;
    }

    capped_twice : (n m : ℕ) → capped (n + capped m) ≡ capped (n + m)
    capped_twice n m = omega arith

    stands : (R : Content) (turn : Turn) (answered : Result Progress ExchangeFault)
        → Sends R turn answered out mid → Concludes counted after answered result mid written
        → after ≡ standing_after before R kind turn
    stands R turn (Ok done) sends concludes =
        concludes.0
        ∙ (ap (λ (s : DialogState). let t : DialogState =
        record s {
          state = done.state;
          code = option_or done.code s.code;
          learned =
              capped (s.learned + done.learned);
          sent = capped (s.sent + done.sent);
        } in t) counts
        ∙ (ap (λ n. let t : DialogState =
        record (goes_by (Ok done.state) done.code done.learned done.sent) { learned = n } in t)
        (ap (λ n. capped (before.learned + n)) (sym sends.3)
        ∙ capped_twice before.learned (added_to R turn))
        ∙ (ap (λ r. goes_by r done.code (added_to R turn) done.sent) (sym sends.0)
        ∙ (ap (λ code. goes_by turn.result code (added_to R turn) done.sent) (sym sends.1)
        ∙ ap (goes_by turn.result turn.code (added_to R turn)) (sym sends.4)))))
    stands R turn (Err fault) sends concludes =
        concludes.0
        ∙ (ap (λ (s : DialogState). let t : DialogState = record s { state = state.Failed } in t)
        counts
        ∙ ap (λ (x : Turn). goes_by x.result x.code (added_to R x) (carried x.reply)) (sym sends.0))

    taken_is : (answered : Result Progress ExchangeFault)
        → Concludes counted after answered result mid written
        → after.taken ≡ taken_after (unfit before kind) before.taken
    taken_is (Ok done) concludes = ap (λ (s : DialogState). s.taken) concludes.0
        ∙ ap (λ (s : DialogState). s.taken) counts
    taken_is (Err fault) concludes =
        ap (λ (s : DialogState). s.taken) concludes.0 ∙ ap (λ (s : DialogState). s.taken) counts

    started_is : (answered : Result Progress ExchangeFault)
        → Concludes counted after answered result mid written → after.started ≡ before.started
    started_is (Ok done) concludes =
        ap (λ (s : DialogState). s.started) concludes.0 ∙ ap (λ (s : DialogState). s.started) counts
    started_is (Err fault) concludes =
        ap (λ (s : DialogState). s.started) concludes.0 ∙ ap (λ (s : DialogState). s.started) counts

    could : (o : Option ExchangeFault) (message : Result Message ExchangeFault) (m : Message)
        → option_map_or (λ f. Err f) o message ≡ Ok m → o ≡ None
    could None message m e = refl
    could (Some fault) message m e = absurd (cc)

    always : {X : Type 0} (r : Result State ExchangeFault) → X → IfOk r (λ _. X)
    always (Ok s) x = x
    always (Err f) x = tt

    failed : (fault : ExchangeFault) (answered : Result Progress ExchangeFault)
        → answered ≡ Err fault
        → Concludes counted after answered result mid written
        → IfOk result (λ _. unfit before kind ≡ None)
    failed fault (Ok done) is concludes = absurd (cc)
    failed fault (Err told) is concludes = elim concludes.1 [
      | inl told ↦ subst (λ (r : Result State ExchangeFault).
          IfOk r (λ _. unfit before kind ≡ None))
          (sym told.0) tt
      | inr starved ↦ subst (λ (r : Result State ExchangeFault).
          IfOk r (λ _. unfit before kind ≡ None)) (sym starved.0) tt
    ]

    -- what was answered is told, or memory for that was wanting
    told : (fault : ExchangeFault) (answered : Result Progress ExchangeFault) → answered ≡ Err fault
        → Concludes counted after answered result mid written
        → (result ≡ Err fault) ⊎ (result ≡ Err exchange.OutOfMemory)
    told fault (Ok done) is concludes = absurd (cc)
    told fault (Err f) is concludes = elim concludes.1 [
      | inl said ↦ inl (said.0 ∙ ap (λ g. Err g) (err_progress f fault is))
      | inr starved ↦ inr starved.0
    ]
      where
        err_progress : (f g : ExchangeFault)
            → ◌≡◌ {A = Result Progress ExchangeFault} (Err f) (Err g)
            → f ≡ g
        err_progress f g e = cc

    -- whatever the message is, that is told of a broken store
    ended_by : (r : Result Message ExchangeFault) (answered : Result Progress ExchangeFault)
        → IfOk r (λ m. asks_store before.state m ≡ true → answered ≡ Err (broken_at (records_in m)))
        → Concludes counted after answered result mid written
        → IfOk r (λ m. asks_store before.state m ≡ true
        → (result ≡ Err (broken_at (records_in m))) ⊎ (result ≡ Err exchange.OutOfMemory))
    ended_by (Ok m) answered ended concludes =
        λ asks. told (broken_at (records_in m)) answered (ended asks) concludes
    ended_by (Err fault) answered ended concludes = tt

    starved_by : (r : Result Message ExchangeFault) (answered : Result Progress ExchangeFault)
        → answered ≡ Err exchange.OutOfMemory → Concludes counted after answered result mid written
        → IfOk r (λ m. asks_store before.state m ≡ true
        → (result ≡ Err (broken_at (records_in m))) ⊎ (result ≡ Err exchange.OutOfMemory))
    starved_by (Ok m) answered is concludes =
        λ asks. elim (told exchange.OutOfMemory answered is concludes)
        [ inl e ↦ inr e | inr e ↦ inr e ]
    starved_by (Err fault) answered is concludes = tt

    -- where the dialog goes on, the frame could be taken
    fits : (message r : Result Message ExchangeFault) (answered : Result Progress ExchangeFault)
        → option_map_or (λ f. Err f) (unfit before kind) message ≡ r
        → AnswersTo a c before.state r out mid answered
        → Concludes counted after answered result mid written
        → IfOk result (λ _. unfit before kind ≡ None)
    fits message (Ok m) answered e answers concludes =
        always result (could (unfit before kind) message m e)
    fits message (Err fault) answered e answers concludes =
        failed fault answered answers.untaken concludes

    -- what was received is what the frame says
    takes_it : (body : List ℕ) (answered : Result Progress ExchangeFault)
        → AnswersTo a c before.state (received (party_of a) before kind body) out mid answered
        → Concludes counted after answered result mid written
        → Takes a c before after kind body out written result
    takes_it body answered answers concludes = record {
      way = answers.way;
      outside = answers.outside;
      writes = λ h R held. writes R _ answered (answers.sends h R held) concludes;
      stands = λ h R held. stands R _ answered (answers.sends h R held) concludes;
      content = answers.content;
      crash = answers.crash;
      passes = answers.passes;
      ended = λ broken. ended_by (received (party_of a) before kind body) answered
          (answers.ended broken) concludes;
      counted = taken_is answered concludes;
      fit = fits (message_at (party_of a) kind body)
          (received (party_of a) before kind body) answered refl answers concludes;
      started = started_is answered concludes;
    }

    -- memory was wanting before it was known
    unread : (body : List ℕ) (answered : Result Progress ExchangeFault)
        → AnswersTo a c before.state (Err exchange.OutOfMemory) out mid answered
        → Concludes counted after answered result mid written
        → Takes a c before after kind body out written result
    unread body answered answers concludes = record {
      way = Unread;
      outside = outside (received (party_of a) before kind body);
      writes = λ h R held. writes R (Rattle.exchange.specs.Dialogs.frame_answered
          (party_of a) before R Unread kind body) answered
          (same R (received (party_of a) before kind body) (sends h R held)) concludes;
      stands = λ h R held. stands R (Rattle.exchange.specs.Dialogs.frame_answered
          (party_of a) before R Unread kind body) answered
          (same R (received (party_of a) before kind body) (sends h R held)) concludes;
      content = λ h u. subst (λ w. c.content
          ≡ (gone w a.content [] (failing a.content exchange.OutOfMemory)).content) answers.unmoved
          (answers.content h u) ∙ left (received (party_of a) before kind body);
      crash = λ h left m. subst (λ n.
          MayBeLeft a (records_read (received (party_of a) before kind body)) n left)
          (sym (none_in (received (party_of a) before kind body))) (elim (answers.crash h left m) [
            | inl old ↦ inl (old.0, refl)
            | inr q ↦ inr (q.0, 0, omega arith, omega arith, q.4 ∙ none q.1)
          ]);
      passes = subst (λ w. CountsFaults a c (option_to_list (fault_on w))) answers.unmoved
          answers.passes;
      ended = λ broken. starved_by (received (party_of a) before kind body) answered answers.untaken
          concludes;
      counted = taken_is answered concludes;
      fit = failed exchange.OutOfMemory answered answers.untaken concludes;
      started = started_is answered concludes;
    }
      where
        outside : (r : Result Message ExchangeFault) → IsWay (records_read r) Unread
        outside r = tt

        sends : c.honest → (R : Content) → IsHeld a R
            → Sends R (failing R exchange.OutOfMemory) answered out mid
        sends h R held = subst (λ w.
            Sends R (gone w R [] (failing R exchange.OutOfMemory)) answered out mid) answers.unmoved
            (answers.sends h R held)

        same : (R : Content) (r : Result Message ExchangeFault)
            → Sends R (failing R exchange.OutOfMemory) answered out mid
            → Sends R (answered_to (party_of a) before.state R Unread r) answered out mid
        same R (Ok m) s = s
        same R (Err f) s = s

        left : (r : Result Message ExchangeFault)
            → a.content ≡ (answered_to (party_of a) before.state a.content Unread r).content
        left (Ok m) = refl
        left (Err f) = refl

        none_in : (r : Result Message ExchangeFault)
            → learned_at (party_of a) before.state a.content Unread r ≡ 0
        none_in (Ok m) = refl
        none_in (Err f) = refl

        none : (k : ℕ) → merged (take k []) a.content
            ≡ merged (take 0 (records_read (received (party_of a) before kind body))) a.content
        none zero = refl
        none (suc k) = refl

    pub takes : (body : List ℕ) (got : Result Message ExchangeFault)
        (answered : Result Progress ExchangeFault)
        → GivesUnless exchange.OutOfMemory got (received (party_of a) before kind body)
        → AnswersTo a c before.state got out mid answered
        → Concludes counted after answered result mid written
        → Takes a c before after kind body out written result
    takes body (Ok m) answered gives answers concludes =
        takes_it body answered (subst (λ r. AnswersTo a c before.state r out mid answered)
        (sym gives) answers) concludes
    takes body (Err exchange.OutOfMemory) answered gives answers concludes =
        unread body answered answers concludes
    takes body (Err exchange.Frame) answered gives answers concludes =
        takes_it body answered (subst (λ r. AnswersTo a c before.state r out mid answered)
        (sym (gives (λ e. cc))) answers) concludes
    takes body (Err exchange.WrongArchive) answered gives answers concludes =
        takes_it body answered (subst (λ r. AnswersTo a c before.state r out mid answered)
        (sym (gives (λ e. cc))) answers) concludes
    takes body (Err (exchange.Learn k cause)) answered gives answers concludes =
        takes_it body answered (subst (λ r. AnswersTo a c before.state r out mid answered)
        (sym (gives (λ e. cc))) answers) concludes
    takes body (Err exchange.SelfPeer) answered gives answers concludes =
        takes_it body answered (subst (λ r. AnswersTo a c before.state r out mid answered)
        (sym (gives (λ e. cc))) answers) concludes
    takes body (Err (exchange.Store fault)) answered gives answers concludes =
        takes_it body answered (subst (λ r. AnswersTo a c before.state r out mid answered)
        (sym (gives (λ e. cc))) answers) concludes
    takes body (Err exchange.PeerFormat) answered gives answers concludes =
        takes_it body answered (subst (λ r. AnswersTo a c before.state r out mid answered)
        (sym (gives (λ e. cc))) answers) concludes
    takes body (Err exchange.AheadOfClock) answered gives answers concludes =
        takes_it body answered (subst (λ r. AnswersTo a c before.state r out mid answered)
        (sym (gives (λ e. cc))) answers) concludes
    takes body (Err exchange.NotAdmitted) answered gives answers concludes =
        takes_it body answered (subst (λ r. AnswersTo a c before.state r out mid answered)
        (sym (gives (λ e. cc))) answers) concludes
    takes body (Err exchange.GivenTwice) answered gives answers concludes =
        takes_it body answered (subst (λ r. AnswersTo a c before.state r out mid answered)
        (sym (gives (λ e. cc))) answers) concludes
    takes body (Err exchange.TooLong) answered gives answers concludes =
        takes_it body answered (subst (λ r. AnswersTo a c before.state r out mid answered)
        (sym (gives (λ e. cc))) answers) concludes

-- ---- the first frame

pub greets : (a b : Store) (v out written : List ℕ) (t : Title)
    (result : Result (Unit {0}) ExchangeFault)
    → Asks a b (Ok v) (λ v. (replica : ℕ) → number_of v replica ≡ vec a.content replica)
    → IsVector v → t ≡ title_in b v
    → Puts exchange.OutOfMemory result out written (frame_of (message.Asks t))
    → Greets a b out written result
greets a b v out written t (Ok u) asks is e puts = record {
  frame = λ h. puts ∙ ap (λ (x : Title). out ++ frame_of (message.Asks x))
      (e ∙ title_is a b v asks is h);
  kept = tt;
  ended = λ x. absurd (none-some _ (asks.leaves.ended x));
  stays = asks.stays;
  passes = asks.leaves.passes;
}
greets a b v out written t (Err fault) asks is e puts = record {
  frame = λ h. tt;
  kept = (subst Rattle.exchange.specs.Batches.IsOfAnswer (sym puts.0) tt, puts.1);
  ended = λ x. absurd (none-some _ (asks.leaves.ended x));
  stays = asks.stays;
  passes = subst (λ f. CountsFaults a b (option_to_list
      (Rattle.exchange.specs.Fault.store_fault_of f))) (sym puts.0) asks.leaves.passes;
}
