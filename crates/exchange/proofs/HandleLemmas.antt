-- What an end makes of a message, call by call.
use Rattle.std.proofs.Common.{◌≡◌, ◌⊎◌, ◌<◌, ℕ, zero, suc, ◌+◌, ◌-◌, true, false, Bool, List, [], ◌∷◌, take, length, Option, Some, None, Result, Ok, Err, IfOk, IfErr, refl, sym, ap, ◌∙◌, subst, arith, inl, inr, option_to_list}
use Rattle.std.proofs.lemmas.List.{take_all}
use Rattle.std.proofs.lemmas.Bool.{true≢false}
use Rattle.std.proofs.lemmas.Option.{none-some, same_Some}
use Rattle.std.specs.Prelude.{⊤, slice_get, unwrap_or, ◌||◌}
use Rattle.std.specs.Option.{option_map_or, option_and_then}
use Rattle.std.specs.Result.{is_ok}
use Rattle.std.specs.List.{list_any}
use Rattle.stamp.specs.Numbers.{number_of, IsVector}
use Rattle.records.specs.Contents.{Content, vec, put, Finding, Adds, Holds, Clash, Gap, TickTooFar, TickNotRising, finding, learned, merged}
use Rattle.records.proofs.ContentsParts.{after_finding}
use Rattle.records.specs.declared.record.Record.{Record}
use Rattle.archive.specs.declared.fault.StoreFault.{StoreFault}
use Rattle.archive.specs.declared.fault.StoreFault.TheVariants.{Broken}
use Rattle.archive.specs.declared.fault.LearnFault.{LearnFault}
use Rattle.archive.specs.declared.fault.LearnFault.TheVariants as refused
use Rattle.archive.specs.Store.{Store, Asks, CountsFaults, IsLawfulContent, is_break, answer_to}
use Rattle.archive.proofs.Calls.{passes-none, passes-leaves, passes-then, in_use, left_in_use}
use Rattle.exchange.specs.declared.fault.ExchangeFault.{ExchangeFault}
use Rattle.exchange.specs.declared.fault.ExchangeFault.TheVariants as exchange
use Rattle.exchange.specs.declared.message.Title.{Title}
use Rattle.exchange.specs.declared.message.Message.{Message}
use Rattle.exchange.specs.declared.message.Message.TheVariants as message
use Rattle.exchange.specs.declared.message.State.{State}
use Rattle.exchange.specs.declared.message.State.TheVariants as state
use Rattle.exchange.specs.declared.dialog.Reply.{Reply}
use Rattle.exchange.specs.declared.replica.Batch.{Batch}
use Rattle.exchange.specs.Batches.{batch_of, AnswersBatch}
use Rattle.exchange.specs.Frames.{IsTitle}
use Rattle.exchange.specs.Fault.{store_fault_of}
use Rattle.exchange.specs.Merging.{learned_all, IsRefusal, Meets, learned_of, MayBeLeft, Merges}
use Rattle.exchange.proofs.MergeLemmas.{merged_stops}
use Rattle.exchange.specs.declared.message.Party.{Party}
use Rattle.records.specs.Contents.{numbers_of}
use Rattle.exchange.specs.Dialogs.{ended_by, broken_off, is_bare, refusal, title_by, Turn, failing, carrying, pushing, learning, Way, Clear, Unread, Stopped, Starved, Met, IsWay, gone, learned_in, fault_on, party_of, IsHeld, ReportsTurn, IsSpelledReply, Handles, broken_at, carries_none, capped, with_learned}
use Rattle.exchange.proofs.DialogsParts.{asking, refusal_by, learnt, pulled}
use Rattle.archive.proofs.Vectors.{told_is}

abbrev pub reply_by : State → Message → Reply
reply_by state m = record { state = state; message = Some m; code = None; learned = 0 }

-- nothing was added where the content stays
none_added : (R : Content) → capped (length R - length R) ≡ 0
none_added R = omega arith

abbrev pub title_in : Store → List ℕ → Title
title_in b v = record { id = b.id; sender = b.own; vector = v }

-- ---- the own vector

module _ (a b : Store) where
  lawful_in : {A : Type 0} (x : A) (P : A → Type 0) → Asks a b (Ok x) P → b.honest
      → IsLawfulContent a.content
  lawful_in x P asks h = (asks.leaves.before (asks.leaves.passes.honest h)
      (in_use a b asks.leaves)).lawful

  pub title_is : (v : List ℕ) → Asks a b (Ok v) (λ v. (replica : ℕ)
      → number_of v replica ≡ vec a.content replica) → IsVector v → b.honest
      → title_in b v ≡ title_by (party_of a) a.content
  title_is v asks is h =
      let vector : v ≡ numbers_of a.content =
      told_is a.content v (lawful_in v _ asks h) is (asks.answer h) in
      ap (λ i. let t : Title = record { id = i; sender = b.own; vector = v } in t)
      asks.leaves.passes.id
      ∙ (ap (λ n. let t : Title = record { id = a.id; sender = n; vector = v } in t)
      asks.leaves.passes.own
      ∙ ap (λ w. let t : Title = record { id = a.id; sender = a.own; vector = w } in t) vector)

  pub ask_ok : (v : List ℕ) (state : State) (reply : Reply)
      → Asks a b (Ok v) (λ v. (replica : ℕ) → number_of v replica ≡ vec a.content replica)
      → IsVector v
      → IsTitle (title_in b v) → reply ≡ reply_by state (message.Asks (title_in b v))
      → Handles a b [] (asking (party_of a) state) (Ok reply)
  ask_ok v state reply asks is fits e = record {
    way = Clear;
    outside = tt;
    clear = refl;
    tells = λ h R held. subst (λ R. ReportsTurn R (asking (party_of a) state R) (Ok reply))
        (held (in_use a b asks.leaves)) (
          ap (λ (r : Reply). Ok r.state) (sym e),
          ap (λ t. Some (message.Asks t)) (sym (title_is v asks is h))
              ∙ ap (λ (r : Reply). r.message) (sym e),
          ap (λ (r : Reply). r.code) (sym e),
          none_added a.content ∙ ap (λ (r : Reply). r.learned) (sym e),
        );
    spelled = subst IsSpelledReply (sym e) fits;
    content = λ h u. asks.stays.content h u;
    crash = λ h left m. inl (asks.stays.crash h left m, refl);
    passes = passes-leaves a b None asks.leaves;
  }

  -- the store failed
  pub fails : {A : Type 0} (fault : StoreFault) (P : A → Type 0) (turn : Content → Turn)
      → Asks {A = A} a b (Err fault) P → (turn a.content).content ≡ a.content
      → learned_of [] (turn a.content).result ≡ 0 → Handles a b [] turn (Err (exchange.Store fault))
  fails fault P turn asks e none = record {
    way = Met fault;
    outside = tt;
    clear = tt;
    tells = λ h R held. refl;
    spelled = tt;
    content = λ h u. asks.stays.content h u ∙ sym e;
    crash = λ h left m. inl (asks.stays.crash h left m, none);
    passes = passes-leaves a b (Some fault) asks.leaves;
  }

-- ---- what a vector lacks

module _ (a b c : Store) (v : List ℕ) (w : ℕ
    → ℕ) (asks : Asks a b (Ok v) (λ v. (replica : ℕ) → number_of v replica ≡ vec a.content replica))
  where
    kept : c.honest → (c.honest → b.honest) → b.content ≡ a.content
    kept h back = asks.stays.content (back h) (left_in_use a b asks.leaves)

    pub carry_fails : (fault : ExchangeFault) (turn : Content → Turn)
        → AnswersBatch b c w (Err fault)
        → (turn a.content).content ≡ a.content → learned_of [] (turn a.content).result ≡ 0
        → Handles a c [] turn (Err fault)
    carry_fails exchange.OutOfMemory turn answers e none = record {
      way = Starved;
      outside = tt;
      clear = tt;
      tells = λ h R held. refl;
      spelled = tt;
      content = λ h u. answers.stays.content h u ∙ (kept h answers.passes.honest ∙ sym e);
      crash = λ h left m. inl (
        asks.stays.crash (answers.passes.honest h) left
            (answers.stays.crash h left m),
        none,
      );
      passes = passes-then a b c [] [] (passes-leaves a b None asks.leaves) answers.passes;
    }
    carry_fails (exchange.Store fault) turn answers e none = record {
      way = Met fault;
      outside = tt;
      clear = tt;
      tells = λ h R held. refl;
      spelled = tt;
      content = λ h u. answers.stays.content h u ∙ (kept h answers.passes.honest ∙ sym e);
      crash = λ h left m. inl (
        asks.stays.crash (answers.passes.honest h) left
            (answers.stays.crash h left m),
        none,
      );
      passes = passes-then a b c [] (fault ∷ [])
          (passes-leaves a b None asks.leaves) answers.passes;
    }
    carry_fails exchange.Frame turn answers e none = absurd answers.only
    carry_fails exchange.WrongArchive turn answers e none = absurd answers.only
    carry_fails (exchange.Learn learned cause) turn answers e none = absurd answers.only
    carry_fails exchange.SelfPeer turn answers e none = absurd answers.only
    carry_fails exchange.TooLong turn answers e none = absurd answers.only
    carry_fails exchange.PeerFormat turn answers e none = absurd answers.only
    carry_fails exchange.AheadOfClock turn answers e none = absurd answers.only
    carry_fails exchange.NotAdmitted turn answers e none = absurd answers.only
    carry_fails exchange.GivenTwice turn answers e none = absurd answers.only

    -- memory was wanting for what is sent, or a store that isn't honest gave what can't be
    pub carry_starves : (batch : Batch) (fault : ExchangeFault) (turn : Content → Turn)
        → AnswersBatch b c w (Ok batch) → fault ≡ exchange.OutOfMemory
        → (turn a.content).content ≡ a.content → learned_of [] (turn a.content).result ≡ 0
        → Handles a c [] turn (Err fault)
    carry_starves batch fault turn answers f e none =
        subst (λ x. Handles a c [] turn (Err x)) (sym f) (record {
          way = Starved;
          outside = tt;
          clear = tt;
          tells = λ h R held. refl;
          spelled = tt;
          content = λ h u. answers.stays.content h u ∙ (kept h answers.passes.honest ∙ sym e);
          crash = λ h left m. inl (
            asks.stays.crash (answers.passes.honest h) left
                (answers.stays.crash h left m),
            none,
          );
          passes = passes-then a b c [] [] (passes-leaves a b None asks.leaves) answers.passes;
        })

    pub carry_ok : (batch : Batch) (state : State) (reply : Reply) → AnswersBatch b c w (Ok batch)
        → IsVector v → IsSpelledReply reply
        → reply ≡ reply_by state (message.Carries (title_in c v) batch.records)
        → Handles a c [] (λ R. carrying (party_of a) state R (batch_of R w)) (Ok reply)
    carry_ok batch state reply answers is spelled e = record {
      way = Clear;
      outside = tt;
      clear = refl;
      tells = λ h R held. subst (λ R.
          ReportsTurn R (carrying (party_of a) state R (batch_of R w)) (Ok reply))
          (held (in_use a b asks.leaves)) (
            ap (λ (r : Reply). Ok r.state) (sym e),
            ap (λ t. Some (message.Carries t (batch_of a.content w))) (sym (title h))
                ∙ (ap (λ rs. Some (message.Carries (title_in c v) rs)) (sym (records h))
                ∙ ap (λ (r : Reply). r.message) (sym e)),
            ap (λ (r : Reply). r.code) (sym e),
            none_added a.content ∙ ap (λ (r : Reply). r.learned) (sym e),
          );
      spelled = spelled;
      content = λ h u. answers.stays.content h u ∙ kept h answers.passes.honest;
      crash = λ h left m. inl (
        asks.stays.crash (answers.passes.honest h) left
            (answers.stays.crash h left m),
        refl,
      );
      passes = passes-then a b c [] [] (passes-leaves a b None asks.leaves) answers.passes;
    }
      where
        title : c.honest → title_in c v ≡ title_by (party_of a) a.content
        title h =
            ap (λ i. let t : Title = record { id = i; sender = c.own; vector = v } in t)
            answers.passes.id
            ∙ (ap (λ n. let t : Title = record { id = b.id; sender = n; vector = v } in t)
            answers.passes.own
            ∙ title_is a b v asks is (answers.passes.honest h))

        records : c.honest → batch.records ≡ batch_of a.content w
        records h =
            let same : b.content ≡ a.content = kept h answers.passes.honest in
            answers.batch h ∙ ap (λ R. batch_of R w) same

-- what was to be sent is, or memory was wanting
pub carry_sends : (a b c : Store) (v : List ℕ) (w : ℕ → ℕ) (batch : Batch) (state : State)
    (t : Title) (result : Result Reply ExchangeFault)
    → Asks a b (Ok v) (λ v. (replica : ℕ) → number_of v replica ≡ vec a.content replica)
    → AnswersBatch b c w (Ok batch) → IsVector v → t ≡ title_in c v
    → IfOk result (λ r. (r ≡ reply_by state (message.Carries t batch.records)) × IsSpelledReply r)
    → IfErr result (λ e. e ≡ exchange.OutOfMemory)
    → Handles a c [] (λ R. carrying (party_of a) state R (batch_of R w)) result
carry_sends a b c v w batch state t (Ok reply) asks answers is e ok err =
    carry_ok a b c v w asks batch state reply answers is ok.1
    (ok.0 ∙ ap (λ (x : Title). reply_by state (message.Carries x batch.records)) e)
carry_sends a b c v w batch state t (Err fault) asks answers is e ok err =
    carry_starves a b c v w asks batch fault _ answers err refl refl

-- ---- pushing

told_clear : (a c : Store) (turn : Content → Turn) (reply : Reply)
    → (handles : Handles a c [] turn (Ok reply)) → c.honest → (R : Content) → IsHeld a R
    → ReportsTurn R (turn R) (Ok reply)
told_clear a c turn reply handles h R held =
    subst (λ w. ReportsTurn R (gone w R [] (turn R)) (Ok reply)) handles.clear
    (handles.tells h R held)

left_clear : (a c : Store) (turn : Content → Turn) (reply : Reply)
    → (handles : Handles a c [] turn (Ok reply)) → c.honest → c.broken ≡ false
    → c.content ≡ (turn a.content).content
left_clear a c turn reply handles h u =
    subst (λ w. c.content ≡ (gone w a.content [] (turn a.content)).content) handles.clear
    (handles.content h u)

pub pushed_content : (p : Party) (R : Content) (rs : List Record) → (pushing p R rs).content ≡ R
pushed_content p R [] = refl
pushed_content p R (r ∷ rs) = refl

-- where there are no records a crash leaves what it could leave, or the content
left_none : (a : Store) (n : ℕ) (left : Content) → MayBeLeft a [] n left
    → a.may_hold left ⊎ ((a.broken ≡ false) × (left ≡ a.content))
left_none a n left (inl old) = inl old.0
left_none a n left (inr q) = inr (q.0, q.4 ∙ none q.1)
  where
    none : (k : ℕ) → merged (take k []) a.content ≡ a.content
    none zero = refl
    none (suc k) = refl

none_left : (a : Store) (n : ℕ) (left : Content) → n ≡ 0
    → a.may_hold left ⊎ ((a.broken ≡ false) × (left ≡ a.content)) → MayBeLeft a [] n left
none_left a n left none (inl old) = inl (old, none)
none_left a n left none (inr q) = inr (q.0, 0, omega (arith, none), omega arith, q.1)

pushed_none : (p : Party) (R : Content) (rs : List Record) (w : Way) → IsWay [] w
    → learned_in w [] (pushing p R rs) ≡ 0
pushed_none p R [] Clear is = refl
pushed_none p R (r ∷ rs) Clear is = refl
pushed_none p R rs Unread is = refl
pushed_none p R rs (Stopped k fault) is = absurd (omega (arith, is))
pushed_none p R [] Starved is = refl
pushed_none p R (r ∷ rs) Starved is = refl
pushed_none p R [] (Met fault) is = refl
pushed_none p R (r ∷ rs) (Met fault) is = refl

-- what was to carry records carries none: the dialog ends
pub push_ends : (a c : Store) (rs : Content → List Record) (reply ends : Reply)
    → Handles a c [] (λ R. carrying (party_of a) state.Pushing R (rs R)) (Ok reply)
    → carries_none reply ≡ true
    → ends ≡ reply_by state.Done (message.Ends 0)
    → Handles a c [] (λ R. pushing (party_of a) R (rs R)) (Ok ends)
push_ends a c rs reply ends handles none e = record {
  way = Clear;
  outside = tt;
  clear = refl;
  tells = λ h R held. tells R (rs R) (told_clear a c
      (λ R. carrying (party_of a) state.Pushing R (rs R)) reply handles h R held);
  spelled = subst IsSpelledReply (sym e) (omega arith);
  content = λ h u. left_clear a c (λ R. carrying (party_of a) state.Pushing R (rs R)) reply handles
      h u ∙ sym (pushed_content (party_of a) a.content (rs a.content));
  crash = λ h left m. none_left a _ left (pushed_none (party_of a) a.content
      (rs a.content) Clear tt) (left_none a _ left (handles.crash h left m));
  passes = subst (λ w. CountsFaults a c (option_to_list (fault_on w))) handles.clear handles.passes;
}
  where
    tells : (R : Content) (xs : List Record)
        → ReportsTurn R (carrying (party_of a) state.Pushing R xs) (Ok reply)
        → ReportsTurn R (pushing (party_of a) R xs) (Ok ends)
    tells R [] told = (
      ap (λ (r : Reply). Ok r.state) (sym e),
      ap (λ (r : Reply). r.message) (sym e),
      ap (λ (r : Reply). r.code) (sym e),
      none_added R
          ∙ ap (λ (r : Reply). r.learned) (sym e),
    )
    tells R (x ∷ xs) told = absurd (true≢false
        (sym none ∙ ap (λ o. option_map_or is_bare o false) (sym told.1)))

-- it carries some
pub push_goes : (a c : Store) (rs : Content → List Record) (reply : Reply)
    → Handles a c [] (λ R. carrying (party_of a) state.Pushing R (rs R)) (Ok reply)
    → carries_none reply ≡ false
    → Handles a c [] (λ R. pushing (party_of a) R (rs R)) (Ok reply)
push_goes a c rs reply handles some = record {
  way = Clear;
  outside = tt;
  clear = refl;
  tells = λ h R held. tells R (rs R) (told_clear a c
      (λ R. carrying (party_of a) state.Pushing R (rs R)) reply handles h R held);
  spelled = handles.spelled;
  content = λ h u. left_clear a c (λ R. carrying (party_of a) state.Pushing R (rs R)) reply handles
      h u ∙ sym (pushed_content (party_of a) a.content (rs a.content));
  crash = λ h left m. none_left a _ left (pushed_none (party_of a) a.content
      (rs a.content) Clear tt) (left_none a _ left (handles.crash h left m));
  passes = subst (λ w. CountsFaults a c (option_to_list (fault_on w))) handles.clear handles.passes;
}
  where
    tells : (R : Content) (xs : List Record)
        → ReportsTurn R (carrying (party_of a) state.Pushing R xs) (Ok reply)
        → ReportsTurn R (pushing (party_of a) R xs) (Ok reply)
    tells R [] told = absurd (true≢false (ap (λ o. option_map_or is_bare o false) told.1 ∙ some))
    tells R (x ∷ xs) told = told

-- ---- learning

fault_told : (R X : Content) (f : ExchangeFault) (result : Result Reply ExchangeFault)
    → ReportsTurn R (failing X f) result → result ≡ Err f
fault_told R X f (Ok reply) told = absurd (true≢false (sym (ap is_ok told.0)))
fault_told R X f (Err g) told = sym (ap (λ (t : Turn). err_of t.result) told)
  where
    err_of : Result State ExchangeFault → Result Reply ExchangeFault
    err_of (Ok s) = Err f
    err_of (Err g) = Err g

tells_fault : (R Y : Content) (f : ExchangeFault) (result : Result Reply ExchangeFault)
    → result ≡ Err f → ReportsTurn R (failing Y f) result
tells_fault R Y f result e = subst (ReportsTurn R (failing Y f)) (sym e) refl

-- what was to carry records failed
pub push_fails : (a c : Store) (rs : Content → List Record) (fault : ExchangeFault)
    → Handles a c [] (λ R. carrying (party_of a) state.Pushing R (rs R)) (Err fault)
    → Handles a c [] (λ R. pushing (party_of a) R (rs R)) (Err fault)
push_fails a c rs fault handles = record {
  way = handles.way;
  outside = handles.outside;
  clear = tt;
  tells = λ h R held. tells R handles.way handles.outside (handles.tells h R held);
  spelled = tt;
  content = λ h u. handles.content h u ∙ left handles.way;
  crash = λ h left m. none_left a _ left (pushed_none (party_of a) a.content
      (rs a.content) handles.way handles.outside) (left_none a _ left (handles.crash h left m));
  passes = handles.passes;
}
  where
    tells : (R : Content) (w : Way) → IsWay [] w
        → ReportsTurn R (gone w R [] (carrying (party_of a) state.Pushing R (rs R))) (Err fault)
        → ReportsTurn R (gone w R [] (pushing (party_of a) R (rs R))) (Err fault)
    tells R Clear is told = absurd (true≢false (ap is_ok (ap (λ (t : Turn). t.result) told)))
    tells R Unread is told = told
    tells R (Stopped k f) is told = absurd (omega (arith, is))
    tells R Starved is told = tells_fault R _ _ (Err fault) (fault_told R _ _ (Err fault) told)
    tells R (Met f) is told = tells_fault R _ _ (Err fault) (fault_told R _ _ (Err fault) told)

    left : (w : Way) → (gone w a.content []
        (carrying (party_of a) state.Pushing a.content (rs a.content))).content
        ≡ (gone w a.content [] (pushing (party_of a) a.content (rs a.content))).content
    left Clear = sym (pushed_content (party_of a) a.content (rs a.content))
    left Unread = refl
    left (Stopped k f) = refl
    left Starved = sym (pushed_content (party_of a) a.content (rs a.content))
    left (Met f) = sym (pushed_content (party_of a) a.content (rs a.content))

-- where all are learned, nothing is refused
none_refused_all : (rs : List Record) (k : ℕ) (R S : Content) → learned_all rs R ≡ Some S
    → refusal k R rs ≡ None
none_refused_all [] k R S e = refl
none_refused_all (r ∷ rs) k R S e = go (λ T h. none_refused_all rs (suc k) T S h) (finding R r) refl
  where
    go : ((T : Content) → learned_all rs T ≡ Some S → refusal (suc k) T rs ≡ None) → (f : Finding)
        → finding R r ≡ f → refusal_by (refusal (suc k) (unwrap_or (learned R r) R) rs) k
        (answer_to (finding R r)) ≡ None
    go later Adds is =
        let got : learned R r ≡ Some (put r R) = ap (after_finding R r) is in
        ap (λ f. refusal_by (refusal (suc k) (unwrap_or (learned R r) R) rs) k (answer_to f)) is
        ∙ (ap (λ o. refusal (suc k) (unwrap_or o R) rs) got
        ∙ later (put r R) (sym (ap (option_and_then (learned_all rs)) got) ∙ e))
    go later Holds is =
        let got : learned R r ≡ Some R = ap (after_finding R r) is in
        ap (λ f. refusal_by (refusal (suc k) (unwrap_or (learned R r) R) rs) k (answer_to f)) is
        ∙ (ap (λ o. refusal (suc k) (unwrap_or o R) rs) got
        ∙ later R (sym (ap (option_and_then (learned_all rs)) got) ∙ e))
    go later Clash is = absurd (none-some _
        (sym (ap (λ f. option_and_then (learned_all rs) (after_finding R r f)) is) ∙ e))
    go later (Gap m n) is = absurd (none-some _
        (sym (ap (λ f. option_and_then (learned_all rs) (after_finding R r f)) is) ∙ e))
    go later TickTooFar is = absurd (none-some _
        (sym (ap (λ f. option_and_then (learned_all rs) (after_finding R r f)) is) ∙ e))
    go later TickNotRising is = absurd (none-some _
        (sym (ap (λ f. option_and_then (learned_all rs) (after_finding R r f)) is) ∙ e))

-- the first that is refused is told
first_refused : (rs : List Record) (k j : ℕ) (R S : Content) (next : Record) (cause : LearnFault)
    → learned_all (take k rs) R ≡ Some S → slice_get rs k ≡ Some next
    → answer_to (finding S next) ≡ Err cause
    → refusal j R rs ≡ Some (exchange.Learn (j + k) cause)
first_refused [] k j R S next cause e there told = absurd (none-some _ there)
first_refused (r ∷ rs) zero j R S next cause e there told =
    let here : R ≡ S = same_Some _ _ e in
    let same : r ≡ next = same_Some _ _ there in
    let is : answer_to (finding R r) ≡ Err cause =
    ap (λ x. answer_to (finding R x)) same
    ∙ (ap (λ T. answer_to (finding T next)) here ∙ told) in
    let at : j ≡ j + 0 = omega arith in
    ap (refusal_by (refusal (suc j) (unwrap_or (learned R r) R) rs) j) is
    ∙ ap (λ n. Some (exchange.Learn n cause)) at
first_refused (r ∷ rs) (suc k) j R S next cause e there told =
    go (λ T h. first_refused rs k (suc j) T S next cause h there told) (finding R r) refl
  where
    later : ((T : Content) → learned_all (take k rs) T ≡ Some S
        → refusal (suc j) T rs ≡ Some (exchange.Learn (suc j + k) cause)) → (T : Content)
        → learned R r ≡ Some T → refusal (suc j) (unwrap_or (learned R r) R) rs
        ≡ Some (exchange.Learn (j + suc k) cause)
    later rest T got =
        let at : suc j + k ≡ j + suc k = omega arith in
        ap (λ o. refusal (suc j) (unwrap_or o R) rs) got
        ∙ (rest T (sym (ap (option_and_then (learned_all (take k rs))) got) ∙ e)
        ∙ ap (λ n. Some (exchange.Learn n cause)) at)

    none : learned R r ≡ None → refusal j R (r ∷ rs) ≡ Some (exchange.Learn (j + suc k) cause)
    none is = absurd (none-some _ (sym (ap (option_and_then (learned_all (take k rs))) is) ∙ e))

    go : ((T : Content) → learned_all (take k rs) T ≡ Some S
        → refusal (suc j) T rs ≡ Some (exchange.Learn (suc j + k) cause)) → (f : Finding)
        → finding R r ≡ f → refusal j R (r ∷ rs) ≡ Some (exchange.Learn (j + suc k) cause)
    go rest Adds is = ap (λ f. refusal_by (refusal (suc j) (unwrap_or (learned R r) R) rs) j
        (answer_to f)) is ∙ later rest (put r R) (ap (after_finding R r) is)
    go rest Holds is = ap (λ f. refusal_by (refusal (suc j) (unwrap_or (learned R r) R) rs) j
        (answer_to f)) is ∙ later rest R (ap (after_finding R r) is)
    go rest Clash is = none (ap (after_finding R r) is)
    go rest (Gap m n) is = none (ap (after_finding R r) is)
    go rest TickTooFar is = none (ap (after_finding R r) is)
    go rest TickNotRising is = none (ap (after_finding R r) is)

pub learnt_content : (p : Party) (state : State) (R : Content) (o : Option ExchangeFault)
    → (learnt p state R o).content ≡ R
learnt_content p state R None = refl
learnt_content p state R (Some fault) = refl

pub unbroken_before : (a b : Store) (faults : List StoreFault) → CountsFaults a b faults
    → b.broken ≡ false → a.broken ≡ false
unbroken_before a b faults passes u = go a.broken refl
  where
    go : (x : Bool) → a.broken ≡ x → a.broken ≡ false
    go true e = absurd (true≢false
        (sym (passes.broken ∙ ap (λ y. y || list_any is_break faults) e) ∙ u))
    go false e = e

party_kept : (a b : Store) (faults : List StoreFault) → CountsFaults a b faults
    → party_of b ≡ party_of a
party_kept a b faults passes =
    ap (λ i. let p : Party = record { id = i; own = b.own } in p) passes.id
    ∙ ap (λ n. let p : Party = record { id = a.id; own = n } in p) passes.own

-- what comes in the way of the vector comes behind the batch
abbrev lifted : Way → Way
lifted Clear = Clear
lifted Unread = Starved
lifted (Stopped k fault) = Stopped k fault
lifted Starved = Starved
lifted (Met fault) = Met fault

-- all were learned, and the own vector is to be sent
module _ (a b c : Store) (rs : List Record) (n : ℕ) (state : State)
    (asked : Result Reply ExchangeFault)
    (merges : Merges a b rs (Ok n)) (handles : Handles b c [] (asking (party_of b) state) asked)
    (ended : b.broken ≡ true → asked ≡ Err (exchange.Store Broken)) where
  learning_is : c.honest → learning (party_of a) state a.content rs
      ≡ asking (party_of a) state (merged rs a.content)
  learning_is h = ap (learnt (party_of a) state (merged rs a.content))
      (none_refused_all rs 0 a.content (merged rs a.content)
      (merges.tells (handles.passes.honest h)).0)

  left_is : c.honest → b.broken ≡ false → b.content ≡ merged rs a.content
  left_is h u = merges.content (handles.passes.honest h) u
      ∙ ap (λ xs. merged xs a.content) (take_all (length rs) rs (omega arith))

  asking_is : c.honest → b.broken ≡ false
      → asking (party_of b) state b.content ≡ learning (party_of a) state a.content rs
  asking_is h u =
      ap (λ p. asking p state b.content) (party_kept a b [] merges.passes)
      ∙ (ap (asking (party_of a) state) (left_is h u) ∙ sym (learning_is h))

  lifted_outside : (w : Way) → IsWay [] w → IsWay rs (lifted w)
  lifted_outside Clear is = tt
  lifted_outside Unread is = tt
  lifted_outside (Stopped k fault) is = absurd (omega (arith, is))
  lifted_outside Starved is = tt
  lifted_outside (Met fault) is = tt

  -- so many were added
  behind_tells : c.honest → (r : Result Reply ExchangeFault)
      → asking (party_of b) state b.content ≡ learning (party_of a) state a.content rs
      → ReportsTurn b.content (asking (party_of b) state b.content) r
      → ReportsTurn a.content (learning (party_of a) state a.content rs) (with_learned n r)
  behind_tells h (Ok reply) same told = (
    ap (λ (t : Turn). t.result) (sym same) ∙ told.0,
    ap (λ (t : Turn). t.reply) (sym same) ∙ told.1,
    ap (λ (t : Turn). t.code) (sym same) ∙ told.2,
    ap (λ (R : Content). capped (length R - length a.content))
        (learnt_content (party_of a) state (merged rs a.content) (refusal 0 a.content rs))
        ∙ sym (merges.tells (handles.passes.honest h)).1,
  )
  behind_tells h (Err fault) same told =
      absurd (true≢false (ap is_ok (ap (λ (t : Turn). t.result) told)))

  lifted_tells : (w : Way) → c.honest → IsWay [] w
      → ReportsTurn b.content (gone w b.content [] (asking (party_of b) state b.content)) asked
      → (R : Content) → IsHeld a R
      → ReportsTurn R (gone (lifted w) R rs (learning (party_of a) state R rs))
      (with_learned n asked)
  lifted_tells Clear h is told R held = go b.broken refl
    where
      go : (x : Bool) → b.broken ≡ x
          → ReportsTurn R (learning (party_of a) state R rs) (with_learned n asked)
      go true e = absurd (true≢false
          (ap is_ok (ap (λ (t : Turn).
          t.result) (subst (ReportsTurn b.content (asking (party_of b) state b.content))
          (ended e) told))))
      go false e = subst (λ R. ReportsTurn R (learning (party_of a) state R rs)
          (with_learned n asked)) (held (unbroken_before a b [] merges.passes e))
          (behind_tells h asked (asking_is h e) told)
  lifted_tells Unread h is told R held =
      tells_fault R _ _ (with_learned n asked) (ap (with_learned n)
      (fault_told b.content _ _ asked told))
  lifted_tells (Stopped k fault) h is told R held = absurd (omega (arith, is))
  lifted_tells Starved h is told R held =
      tells_fault R _ _ (with_learned n asked) (ap (with_learned n)
      (fault_told b.content _ _ asked told))
  lifted_tells (Met fault) h is told R held =
      tells_fault R _ _ (with_learned n asked) (ap (with_learned n)
      (fault_told b.content _ _ asked told))

  left_by : (w : Way) → IsWay [] w
      → (gone w b.content [] (asking (party_of b) state b.content)).content ≡ b.content
  left_by Clear is = refl
  left_by Unread is = refl
  left_by (Stopped k fault) is = absurd (omega (arith, is))
  left_by Starved is = refl
  left_by (Met fault) is = refl

  lifted_left : (w : Way) → IsWay [] w
      → (gone (lifted w) a.content rs (learning (party_of a) state a.content rs)).content
      ≡ merged rs a.content
  lifted_left Clear is = learnt_content (party_of a) state (merged rs a.content)
      (refusal 0 a.content rs)
  lifted_left Unread is = learnt_content (party_of a) state (merged rs a.content)
      (refusal 0 a.content rs)
  lifted_left (Stopped k fault) is = absurd (omega (arith, is))
  lifted_left Starved is = learnt_content (party_of a) state (merged rs a.content)
      (refusal 0 a.content rs)
  lifted_left (Met fault) is = learnt_content (party_of a) state (merged rs a.content)
      (refusal 0 a.content rs)

  lifted_learned : c.honest → (w : Way) → IsWay [] w
      → learned_in (lifted w) rs (learning (party_of a) state a.content rs) ≡ length rs
  lifted_learned h Clear is = ap (λ (t : Turn). learned_of rs t.result) (learning_is h)
  lifted_learned h Unread is = ap (λ (t : Turn). learned_of rs t.result) (learning_is h)
  lifted_learned h (Stopped k fault) is = absurd (omega (arith, is))
  lifted_learned h Starved is = ap (λ (t : Turn). learned_of rs t.result) (learning_is h)
  lifted_learned h (Met fault) is = ap (λ (t : Turn). learned_of rs t.result) (learning_is h)

  lifted_faults : (w : Way) → fault_on (lifted w) ≡ fault_on w
  lifted_faults Clear = refl
  lifted_faults Unread = refl
  lifted_faults (Stopped k fault) = refl
  lifted_faults Starved = refl
  lifted_faults (Met fault) = refl

  lifted_clear : (r : Result Reply ExchangeFault) → IfOk r (λ _. handles.way ≡ Clear)
      → IfOk (with_learned n r) (λ _. lifted handles.way ≡ Clear)
  lifted_clear (Ok reply) e = ap lifted e
  lifted_clear (Err fault) e = tt

  behind_spelled : (r : Result Reply ExchangeFault) → IfOk r IsSpelledReply
      → IfOk (with_learned n r) IsSpelledReply
  behind_spelled (Ok reply) is = is
  behind_spelled (Err fault) is = tt

  pub learn_asks : Handles a c rs (λ R. learning (party_of a) state R rs) (with_learned n asked)
  learn_asks = record {
    way = lifted handles.way;
    outside = lifted_outside handles.way handles.outside;
    clear = lifted_clear asked handles.clear;
    tells = λ h. lifted_tells handles.way h handles.outside (handles.tells h b.content (λ u. refl));
    spelled = behind_spelled asked handles.spelled;
    content = λ h u.
        let used : b.broken ≡ false = unbroken_before b c _ handles.passes u in
        handles.content h u ∙ (left_by handles.way handles.outside
        ∙ (left_is h used ∙ sym (lifted_left handles.way handles.outside)));
    crash = λ h left m. subst (λ n. MayBeLeft a rs n left)
        (sym (lifted_learned h handles.way handles.outside))
        (elim (left_none b _ left (handles.crash h left m)) [
          | inl before ↦ merges.crash (handles.passes.honest h) left before
          | inr q ↦ inr (
            unbroken_before a b [] merges.passes q.0,
            length rs,
            omega arith,
            omega arith,
            q.1 ∙ (left_is h q.0 ∙ ap (λ xs. merged xs a.content)
                (sym (take_all (length rs) rs (omega arith)))),
          )
        ]);
    passes = subst (λ o. CountsFaults a c (option_to_list o)) (sym (lifted_faults handles.way))
        (passes-then a b c [] (option_to_list (fault_on handles.way)) merges.passes handles.passes);
  }

-- a broken store refuses the first record; where there is none, it is asked for the vector
pub learn_ended : (a b : Store) (rs : List Record) (n : ℕ) (asked : Result Reply ExchangeFault)
    → Merges a b rs (Ok n) → (b.broken ≡ true → asked ≡ Err (exchange.Store Broken))
    → a.broken ≡ true → with_learned n asked ≡ Err (broken_at rs)
learn_ended a b [] n asked merges ended broken =
    ap (with_learned n) (ended (merges.passes.broken ∙ ap (λ (x : Bool). x || false) broken))
learn_ended a b (r ∷ rs) n asked merges ended broken =
    absurd (ok_err (merges.ended broken (omega arith)))
  where
    ok_err : ◌≡◌ {A = Result ℕ ExchangeFault} (Ok n) (Err (exchange.Learn 0 (refused.Store Broken)))
        → ⊥
    ok_err e = cc

pub merge_ended : (a b : Store) (rs : List Record) (fault : ExchangeFault)
    → Merges a b rs (Err fault) → a.broken ≡ true → fault ≡ broken_at rs
merge_ended a b (r ∷ rs) fault merges broken =
    err_is fault (exchange.Learn 0 (refused.Store Broken)) (merges.ended broken (omega arith))
  where
    err_is : (f g : ExchangeFault) → ◌≡◌ {A = Result ℕ ExchangeFault} (Err f) (Err g) → f ≡ g
    err_is f g e = cc
merge_ended a b [] (exchange.Learn k cause) merges broken = absurd (omega (arith, merges.tells.0))
merge_ended a b [] exchange.Frame merges broken = absurd merges.tells
merge_ended a b [] exchange.WrongArchive merges broken = absurd merges.tells
merge_ended a b [] exchange.OutOfMemory merges broken = absurd merges.tells
merge_ended a b [] exchange.SelfPeer merges broken = absurd merges.tells
merge_ended a b [] (exchange.Store f) merges broken = absurd merges.tells
merge_ended a b [] exchange.TooLong merges broken = absurd merges.tells
merge_ended a b [] exchange.PeerFormat merges broken = absurd merges.tells
merge_ended a b [] exchange.AheadOfClock merges broken = absurd merges.tells
merge_ended a b [] exchange.NotAdmitted merges broken = absurd merges.tells
merge_ended a b [] exchange.GivenTwice merges broken = absurd merges.tells

meets_refusal : (S : Content) (r : Record) (cause : LearnFault) → IsRefusal cause → Meets S r cause
    → answer_to (finding S r) ≡ Err cause
meets_refusal S r (refused.Gap held got) is met = met
meets_refusal S r refused.Clash is met = met
meets_refusal S r refused.TickNotRising is met = met
meets_refusal S r refused.TickTooFar is met = met
meets_refusal S r (refused.Store fault) is met = absurd is

no_fault : (k : ℕ) (cause : LearnFault) → IsRefusal cause
    → option_to_list (store_fault_of (exchange.Learn k cause)) ≡ []
no_fault k (refused.Gap held got) is = refl
no_fault k refused.Clash is = refl
no_fault k refused.TickNotRising is = refl
no_fault k refused.TickTooFar is = refl
no_fault k (refused.Store fault) is = absurd is

refuses : (a b : Store) (rs : List Record) (state : State) (k : ℕ) (cause : LearnFault)
    → Merges a b rs (Err (exchange.Learn k cause)) → IsRefusal cause
    → Handles a b rs (λ R. learning (party_of a) state R rs) (Err (exchange.Learn k cause))
refuses a b rs state k cause merges is = record {
  way = Clear;
  outside = tt;
  clear = tt;
  tells = λ h R held. subst (λ R. ReportsTurn R (learning (party_of a) state R rs)
      (Err (exchange.Learn k cause))) (held (used a.broken refl))
      (turn h ∙ ap (λ R. failing R (exchange.Learn k cause))
      (sym (learnt_content (party_of a) state (merged rs a.content) (refusal 0 a.content rs))));
  spelled = tt;
  content = λ h u. merges.content h u
      ∙ (sym (merged_stops a.content rs k cause (merges.tells.1 h) is)
      ∙ sym (learnt_content (party_of a) state (merged rs a.content) (refusal 0 a.content rs)));
  crash = λ h left m. subst (λ n. MayBeLeft a rs n left)
      (sym (ap (λ (t : Turn). learned_of rs t.result) (turn h))) (merges.crash h left m);
  passes = subst (CountsFaults a b) (no_fault k cause is) merges.passes;
}
  where
    turn : b.honest → learning (party_of a) state a.content rs
        ≡ failing (merged rs a.content) (exchange.Learn k cause)
    turn h =
        let stops = merges.tells.1 h in
        let is_refused = first_refused rs k 0 a.content
        (merged (take k rs) a.content) stops.next cause stops.held stops.there
        (meets_refusal _ stops.next cause is stops.met) in
        let at : 0 + k ≡ k = omega arith in
        ap (learnt (party_of a) state (merged rs a.content))
        (is_refused ∙ ap (λ n. Some (exchange.Learn n cause)) at)

    refused_by : Result ℕ ExchangeFault → Type 0
    refused_by (Err (exchange.Learn k cause)) = IsRefusal cause
    refused_by result = ⊤

    few : (n : ℕ) → k < n → 0 < n
    few n less = omega (arith, less)

    -- a broken store refuses no record
    used : (x : Bool) → a.broken ≡ x → a.broken ≡ false
    used true e = absurd (subst refused_by (merges.ended e (few (length rs) merges.tells.0)) is)
    used false e = e

-- one was refused, or the store failed at it
pub learn_stops : (a b : Store) (rs : List Record) (state : State) (fault : ExchangeFault)
    → Merges a b rs (Err fault) → Handles a b rs (λ R. learning (party_of a) state R rs) (Err fault)
learn_stops a b rs state (exchange.Learn k (refused.Store fault)) merges = record {
  way = Stopped k fault;
  outside = merges.tells.0;
  clear = tt;
  tells = λ h R held. refl;
  spelled = tt;
  content = λ h u. merges.content h u;
  crash = merges.crash;
  passes = merges.passes;
}
learn_stops a b rs state (exchange.Learn k refused.Clash) merges =
    refuses a b rs state k refused.Clash merges tt
learn_stops a b rs state (exchange.Learn k (refused.Gap held got)) merges =
    refuses a b rs state k (refused.Gap held got) merges tt
learn_stops a b rs state (exchange.Learn k refused.TickNotRising) merges =
    refuses a b rs state k refused.TickNotRising merges tt
learn_stops a b rs state (exchange.Learn k refused.TickTooFar) merges =
    refuses a b rs state k refused.TickTooFar merges tt
learn_stops a b rs state exchange.Frame merges = absurd merges.tells
learn_stops a b rs state exchange.WrongArchive merges = absurd merges.tells
learn_stops a b rs state exchange.OutOfMemory merges = absurd merges.tells
learn_stops a b rs state exchange.SelfPeer merges = absurd merges.tells
learn_stops a b rs state (exchange.Store fault) merges = absurd merges.tells
learn_stops a b rs state exchange.TooLong merges = absurd merges.tells
learn_stops a b rs state exchange.PeerFormat merges = absurd merges.tells
learn_stops a b rs state exchange.AheadOfClock merges = absurd merges.tells
learn_stops a b rs state exchange.NotAdmitted merges = absurd merges.tells
learn_stops a b rs state exchange.GivenTwice merges = absurd merges.tells

-- the initiator pulls: a batch of no record is answered by what the peer lacks, and others are
-- learned
pub pulled_none : (a c : Store) (t : Title) (rs : List Record) (result : Result Reply ExchangeFault)
    → rs ≡ [] → Handles a c [] (λ R. pushing (party_of a) R (batch_of R (number_of t.vector)))
    result
    → Handles a c rs (λ R. pulled (party_of a) R t rs) result
pulled_none a c t [] result none handles = handles
pulled_none a c t (r ∷ rs) result none handles = absurd (cc)

pub pulled_some : (a c : Store) (t : Title) (rs : List Record) (result : Result Reply ExchangeFault)
    → (rs ≡ [] → ⊥) → Handles a c rs (λ R. learning (party_of a) state.Pulling R rs) result
    → Handles a c rs (λ R. pulled (party_of a) R t rs) result
pulled_some a c t [] result some handles = absurd (some refl)
pulled_some a c t (r ∷ rs) result some handles = handles

-- the store wasn't asked
pub unmoved : (a : Store) (rs : List Record) (turn : Content → Turn)
    (result : Result Reply ExchangeFault) → ((R : Content) → ReportsTurn R (turn R) result)
    → (turn a.content).content ≡ a.content → learned_of rs (turn a.content).result ≡ 0
    → IfOk result IsSpelledReply → Handles a a rs turn result
unmoved a rs turn result told kept none spelled = record {
  way = Clear;
  outside = tt;
  clear = clear result;
  tells = λ h R held. told R;
  spelled = spelled;
  content = λ h u. sym kept;
  crash = λ h left m. inl (m, none);
  passes = passes-none a;
}
  where
    clear : (r : Result Reply ExchangeFault) → IfOk r (λ _. Clear ≡ Clear)
    clear (Ok reply) = refl
    clear (Err fault) = tt

pub broken_kept : (R : Content) (n : ℕ) → (broken_off R n).content ≡ R
broken_kept R zero = refl
broken_kept R (suc n) = refl

pub broken_none : (R : Content) (n : ℕ) → learned_of [] (broken_off R n).result ≡ 0
broken_none R zero = refl
broken_none R (suc n) = refl

pub breaks_off : (n : ℕ) (reply : Reply) → (n ≡ 0 → ⊥)
    → ((R : Content) → ReportsTurn R (ended_by R n) (Ok reply)) → (R : Content)
    → ReportsTurn R (broken_off R n) (Ok reply)
breaks_off zero reply some told R = absurd (some refl)
breaks_off (suc n) reply some told R = told R
