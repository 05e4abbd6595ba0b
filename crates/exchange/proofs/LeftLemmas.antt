-- What is held behind a frame, record by record.
use Rattle.std.proofs.Common.{◌≡◌, ◌⊎◌, ℕ, zero, suc, ◌-◌, ◌≤◌, List, [], ◌∷◌, take, length, Option, Some, None, Result, Ok, Err, refl, sym, ap, ◌∙◌, arith, inl, inr}
use Rattle.std.proofs.lemmas.List.{take_all}
use Rattle.std.proofs.lemmas.Option.{none-some, same_Some}
use Rattle.std.specs.Prelude.{unwrap_or}
use Rattle.std.specs.Option.{option_map_or}
use Rattle.records.specs.Lists.{Has}
use Rattle.records.specs.Contents.{Content, put, Finding, Adds, Holds, Clash, Gap, TickTooFar, TickNotRising, finding, learned, merged}
use Rattle.records.proofs.ContentsParts.{after_finding}
use Rattle.records.specs.declared.record.Record.{Record}
use Rattle.archive.specs.declared.fault.LearnFault.{LearnFault}
use Rattle.archive.specs.declared.fault.LearnFault.TheVariants as refused
use Rattle.archive.specs.Store.{answer_to}
use Rattle.exchange.specs.declared.fault.ExchangeFault.{ExchangeFault}
use Rattle.exchange.specs.declared.fault.ExchangeFault.TheVariants as exchange
use Rattle.exchange.specs.declared.message.Message.{Message}
use Rattle.exchange.specs.declared.message.Message.TheVariants as message
use Rattle.exchange.specs.declared.message.State.{State}
use Rattle.exchange.specs.declared.message.State.TheVariants as state
use Rattle.exchange.specs.declared.message.Party.{Party}
use Rattle.exchange.specs.Merging.{learned_of}
use Rattle.exchange.specs.Dialogs.{refusal, learning, turned, ended_by, Way, Clear, Unread, Stopped, Starved, Met, learned_at, records_in, records_read, answered_to}
use Rattle.exchange.proofs.DialogsParts.{refusal_by, learnt}
use Rattle.exchange.proofs.HandleLemmas.{learnt_content, pushed_content, broken_kept}

pub merged_none : (n : ℕ) (R : Content) → merged (take n []) R ≡ R
merged_none zero R = refl
merged_none (suc n) R = refl

-- ---- refusals

-- a refusal is that of a record
refused_one : (rs : List Record) (j : ℕ) (R : Content) (fault : ExchangeFault)
    → refusal j R rs ≡ Some fault → (k : ℕ) × (cause : LearnFault)
    × (fault ≡ exchange.Learn k cause)
refused_one [] j R fault e = absurd (none-some _ e)
refused_one (r ∷ rs) j R fault e =
    go (λ T. refused_one rs (suc j) T fault) (answer_to (finding R r)) refl
  where
    go : ((T : Content) → refusal (suc j) T rs ≡ Some fault
        → (k : ℕ) × (cause : LearnFault) × (fault ≡ exchange.Learn k cause))
        → (a : Result _ LearnFault) → answer_to (finding R r) ≡ a
        → (k : ℕ) × (cause : LearnFault) × (fault ≡ exchange.Learn k cause)
    go rest (Ok added) is = rest (unwrap_or (learned R r) R)
        (sym (ap (refusal_by (refusal (suc j) (unwrap_or (learned R r) R) rs) j) is) ∙ e)
    go rest (Err cause) is = (
      j,
      cause,
      same_Some _ _ (sym e ∙ ap (refusal_by (refusal (suc j) (unwrap_or (learned R r) R) rs) j)
          is),
    )

abbrev number_in : Option ExchangeFault → ℕ
number_in (Some (exchange.Learn k cause)) = k
number_in other = 0

-- the records behind the first that is refused aren't learned
refused_rest : (rs : List Record) (j k : ℕ) (R : Content) (cause : LearnFault)
    → refusal j R rs ≡ Some (exchange.Learn k cause)
    → (j ≤ k) × (merged (take (k - j) rs) R ≡ merged rs R)
refused_rest [] j k R cause e = absurd (none-some _ e)
refused_rest (r ∷ rs) j k R cause e = go (λ T. refused_rest rs (suc j) k T cause) (finding R r) refl
  where
    later : (T : Content) → learned R r ≡ Some T
        → (suc j ≤ k) × (merged (take (k - suc j) rs) T ≡ merged rs T)
        → (j ≤ k) × (merged (take (k - j) (r ∷ rs)) R ≡ merged (r ∷ rs) R)
    later T got is =
        let le = is.0 in
        let more : k - j ≡ suc (k - suc j) = omega (arith, le) in
        let below : j ≤ k = omega (arith, le) in (
          below,
          ap (λ n. merged (take n (r ∷ rs)) R) more
              ∙ (ap (λ o. option_map_or (merged (take (k - suc j) rs)) o R) got
              ∙ (is.1 ∙ sym (ap (λ o. option_map_or (merged rs) o R) got))),
        )

    here : (c : LearnFault) → answer_to (finding R r) ≡ Err c → learned R r ≡ None
        → (j ≤ k) × (merged (take (k - j) (r ∷ rs)) R ≡ merged (r ∷ rs) R)
    here c is none =
        let at : k ≡ j = ap number_in (sym e
        ∙ ap (refusal_by (refusal (suc j) (unwrap_or (learned R r) R) rs) j) is) in
        let zero : k - j ≡ 0 = omega (arith, at) in
        let below : j ≤ k = omega (arith, at) in (
          below,
          ap (λ n. merged (take n (r ∷ rs)) R) zero
              ∙ sym (ap (λ o. option_map_or (merged rs) o R) none),
        )

    go : ((T : Content) → refusal (suc j) T rs ≡ Some (exchange.Learn k cause)
        → (suc j ≤ k) × (merged (take (k - suc j) rs) T ≡ merged rs T)) → (f : Finding)
        → finding R r ≡ f → (j ≤ k) × (merged (take (k - j) (r ∷ rs)) R ≡ merged (r ∷ rs) R)
    go rest Adds is =
        let got : learned R r ≡ Some (put r R) = ap (after_finding R r) is in
        later (put r R) got (rest (put r R)
        (sym (ap (λ f. refusal_by (refusal (suc j) (unwrap_or (learned R r) R) rs) j
        (answer_to f)) is ∙ ap (λ o. refusal (suc j) (unwrap_or o R) rs) got) ∙ e))
    go rest Holds is =
        let got : learned R r ≡ Some R = ap (after_finding R r) is in
        later R got (rest R (sym
        (ap (λ f. refusal_by (refusal (suc j) (unwrap_or (learned R r) R) rs) j (answer_to f))
        is ∙ ap (λ o. refusal (suc j) (unwrap_or o R) rs) got) ∙ e))
    go rest Clash is = here refused.Clash (ap answer_to is) (ap (after_finding R r) is)
    go rest (Gap held got) is = here (refused.Gap held got) (ap answer_to is)
        (ap (after_finding R r) is)
    go rest TickTooFar is = here refused.TickTooFar (ap answer_to is) (ap (after_finding R r) is)
    go rest TickNotRising is = here refused.TickNotRising (ap answer_to is)
        (ap (after_finding R r) is)

-- ---- what a turn leaves is what was held with the records that it learned

learning_left : (p : Party) (state : State) (R : Content) (rs : List Record)
    → (learning p state R rs).content
    ≡ merged (take (learned_of rs (learning p state R rs).result) rs) R
learning_left p state R rs = learnt_content p state (merged rs R) (refusal 0 R rs)
    ∙ sym (go (refusal 0 R rs) refl)
  where
    go : (o : Option ExchangeFault) → refusal 0 R rs ≡ o
        → merged (take (learned_of rs (learnt p state (merged rs R) o).result) rs) R ≡ merged rs R
    go None is = ap (λ xs. merged xs R) (take_all (length rs) rs (omega arith))
    go (Some (exchange.Learn k cause)) is =
        let all : k ≡ k - 0 = omega arith in
        ap (λ n. merged (take n rs) R) all ∙ (refused_rest rs 0 k R cause is).1
    go (Some exchange.Frame) is = absurd (let x = (refused_one rs 0 R exchange.Frame is).2 in cc)
    go (Some exchange.WrongArchive) is = absurd (let x =
        (refused_one rs 0 R exchange.WrongArchive is).2 in cc)
    go (Some exchange.OutOfMemory) is = absurd (let x =
        (refused_one rs 0 R exchange.OutOfMemory is).2 in cc)
    go (Some exchange.SelfPeer) is = absurd (let x = (refused_one rs 0 R exchange.SelfPeer is).2 in
        cc)
    go (Some (exchange.Store fault)) is = absurd (let x =
        (refused_one rs 0 R (exchange.Store fault) is).2 in cc)
    go (Some exchange.TooLong) is = absurd (let x = (refused_one rs 0 R exchange.TooLong is).2 in
        cc)
    go (Some exchange.PeerFormat) is = absurd (let x =
        (refused_one rs 0 R exchange.PeerFormat is).2 in cc)
    go (Some exchange.AheadOfClock) is = absurd (let x =
        (refused_one rs 0 R exchange.AheadOfClock is).2 in cc)
    go (Some exchange.NotAdmitted) is = absurd (let x =
        (refused_one rs 0 R exchange.NotAdmitted is).2 in cc)
    go (Some exchange.GivenTwice) is = absurd (let x =
        (refused_one rs 0 R exchange.GivenTwice is).2 in cc)

ended_kept : (R : Content) (n : ℕ) → (ended_by R n).content ≡ R
ended_kept R zero = refl
ended_kept R (suc n) = refl

turned_left : (p : Party) (s : State) (R : Content) (m : Message)
    → (turned p s R m).content ≡ merged (take (learned_of (records_in m) (turned p s R m).result)
    (records_in m)) R
turned_left p state.Pulling R (message.Asks t) = refl
turned_left p state.Pulling R (message.Carries t []) = pushed_content p R _ ∙ sym (merged_none _ R)
turned_left p state.Pulling R (message.Carries t (r ∷ rs)) =
    learning_left p state.Pulling R (r ∷ rs)
turned_left p state.Pulling R (message.Ends n) = broken_kept R n ∙ sym (merged_none _ R)
turned_left p state.Pushing R (message.Asks t) = pushed_content p R _ ∙ sym (merged_none _ R)
turned_left p state.Pushing R (message.Carries t rs) = refl
turned_left p state.Pushing R (message.Ends n) = broken_kept R n ∙ sym (merged_none _ R)
turned_left p state.Serving R (message.Asks t) = refl
turned_left p state.Serving R (message.Carries t rs) = learning_left p state.Serving R rs
turned_left p state.Serving R (message.Ends n) = ended_kept R n ∙ sym (merged_none _ R)
turned_left p state.Done R m = refl
turned_left p state.Failed R m = refl

pub answered_left : (p : Party) (s : State) (R : Content) (w : Way)
    (r : Result Message ExchangeFault)
    → (answered_to p s R w r).content ≡ merged (take (learned_at p s R w r) (records_read r)) R
answered_left p s R Clear (Ok m) = turned_left p s R m
answered_left p s R Unread (Ok m) = refl
answered_left p s R (Stopped k fault) (Ok m) = refl
answered_left p s R Starved (Ok m) = turned_left p s R m
answered_left p s R (Met fault) (Ok m) = turned_left p s R m
answered_left p s R Clear (Err f) = refl
answered_left p s R Unread (Err f) = refl
answered_left p s R (Stopped k fault) (Err f) = merged_none k R
answered_left p s R Starved (Err f) = refl
answered_left p s R (Met fault) (Err f) = refl

-- ---- one record more

pub next_merged : (rs : List Record) (n : ℕ) (R : Content)
    → (merged (take (suc n) rs) R ≡ merged (take n rs) R)
    ⊎ ((r : Record) × Has rs r × (finding (merged (take n rs) R) r ≡ Adds)
    × (merged (take (suc n) rs) R ≡ put r (merged (take n rs) R)))
next_merged [] n R = inl (merged_none (suc n) R ∙ sym (merged_none n R))
next_merged (x ∷ xs) zero R = go (finding R x) refl
  where
    go : (f : Finding) → finding R x ≡ f
        → (merged (take 1 (x ∷ xs)) R ≡ R) ⊎ ((r : Record) × Has (x ∷ xs) r × (finding R r ≡ Adds)
        × (merged (take 1 (x ∷ xs)) R ≡ put r R))
    go Adds is = inr (
      x,
      inl refl,
      is,
      ap (λ f. option_map_or (merged []) (after_finding R x f) R) is,
    )
    go Holds is = inl (ap (λ f. option_map_or (merged []) (after_finding R x f) R) is)
    go Clash is = inl (ap (λ f. option_map_or (merged []) (after_finding R x f) R) is)
    go (Gap held got) is = inl (ap (λ f. option_map_or (merged []) (after_finding R x f) R) is)
    go TickTooFar is = inl (ap (λ f. option_map_or (merged []) (after_finding R x f) R) is)
    go TickNotRising is = inl (ap (λ f. option_map_or (merged []) (after_finding R x f) R) is)
next_merged (x ∷ xs) (suc n) R = go (λ T. next_merged xs n T) (learned R x) refl
  where
    at : (k : ℕ) (o : Option Content) → learned R x ≡ o
        → merged (x ∷ take k xs) R ≡ option_map_or (merged (take k xs)) o R
    at k o is = ap (λ o. option_map_or (merged (take k xs)) o R) is

    go : ((T : Content) → (merged (take (suc n) xs) T ≡ merged (take n xs) T)
        ⊎ ((r : Record) × Has xs r × (finding (merged (take n xs) T) r ≡ Adds)
        × (merged (take (suc n) xs) T ≡ put r (merged (take n xs) T)))) → (o : Option Content)
        → learned R x ≡ o
        → (merged (x ∷ take (suc n) xs) R ≡ merged (x ∷ take n xs) R)
        ⊎ ((r : Record) × Has (x ∷ xs) r × (finding (merged (x ∷ take n xs) R) r ≡ Adds)
        × (merged (x ∷ take (suc n) xs) R ≡ put r (merged (x ∷ take n xs) R)))
    go rest None is = inl (at (suc n) None is ∙ sym (at n None is))
    go rest (Some T) is = elim (rest T) [
      | inl e ↦ inl (at (suc n) (Some T) is ∙ (e ∙ sym (at n (Some T) is)))
      | inr q ↦ inr (
        q.0,
        inr q.1,
        ap (λ S. finding S q.0) (at n (Some T) is) ∙ q.2,
        at (suc n) (Some T) is ∙ (q.3 ∙ ap (put q.0) (sym (at n (Some T) is))),
      )
    ]
