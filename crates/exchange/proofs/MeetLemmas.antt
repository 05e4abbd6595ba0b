-- Two ends over memory.
use Rattle.std.proofs.Common.{◌≡◌, ℕ, ◌+◌, false, List, [], ◌∷◌, ◌++◌, drop, take, length, Option, Some, None, Result, Ok, Err, refl, sym, ap, ◌∙◌, subst, inl, inr, ◌⊎◌, option_to_list}
use Rattle.records.specs.Contents.{Content}
use Rattle.archive.specs.declared.fault.StoreFault.{StoreFault}
use Rattle.archive.specs.declared.fault.LearnFault.TheVariants as refused
use Rattle.archive.specs.Store.{Store, CountsFaults, KeepsContent}
use Rattle.archive.proofs.Calls.{passes-none}
use Rattle.exchange.specs.declared.fault.ExchangeFault.{ExchangeFault}
use Rattle.exchange.specs.declared.fault.ExchangeFault.TheVariants as exchange
use Rattle.exchange.specs.declared.message.Frame.{Frame as Lent}
use Rattle.exchange.specs.declared.message.FrameKind.{FrameKind}
use Rattle.exchange.specs.declared.message.Header.{Header}
use Rattle.exchange.specs.declared.message.Message.{Message}
use Rattle.exchange.specs.declared.message.State.{State}
use Rattle.exchange.specs.Frames.{kind_of, frame_body_of, frame_of, frame_header, ReceivedFrames, Gives, HasFrame}
use Rattle.exchange.specs.Dialogs.{Turn, failing, turned, Way, Clear, Unread, Stopped, Starved, Met, gone, fault_on, records_in, DialogState, received, frame_answered, standing_after, party_of, Writes, Takes}
use Rattle.exchange.proofs.DialogsParts.{bytes_of}
use Rattle.exchange.specs.Meetings.{IsOfOutside, Hands, IsStoreFaultAmong}
use Rattle.exchange.proofs.FrameLemmas.{cut_own, body_own}

-- ---- the frame that was handed over

waiting : List ℕ → ReceivedFrames
waiting bytes = record { waiting = bytes; failed = false }

header_of : Result (Option Header) ExchangeFault → Option Header
header_of (Ok o) = o
header_of (Err f) = None

pub given_own : (m : Message) (bytes : List ℕ) (frame : Lent) → HasFrame m → bytes ≡ frame_of m
    → Gives (record { waiting = bytes; failed = false }) (Ok (Some frame))
    → (frame.kind ≡ kind_of m) × (frame.body.now ≡ frame_body_of m)
given_own m bytes frame is e gives =
    let own : Header = record { kind = kind_of m; size = 8 + length (frame_body_of m) } in
    let lent : Header = record { kind = frame.kind; size = 8 + length frame.body.now } in
    let same : ◌≡◌ {A = Result (Option Header) ExchangeFault} (Ok (Some lent)) (Ok (Some own)) =
    sym gives.0 ∙ (ap frame_header e ∙ cut_own m is) in
    let header : lent ≡ own = cc in
    let size : 8 + length frame.body.now ≡ 8 + length (frame_body_of m) =
    ap (λ (h : Header). h.size) header in (
      ap (λ (h : Header). h.kind) header,
      gives.2 ∙ (ap (λ n. drop 8 (take n bytes)) size
          ∙ (ap (λ b. drop 8 (take (8 + length (frame_body_of m)) b)) e ∙ body_own m)),
    )

pub none_own : (m : Message) (bytes : List ℕ) → HasFrame m → bytes ≡ frame_of m
    → frame_header bytes ≡ Ok None → ⊥
none_own m bytes is e none =
    let own : Header = record { kind = kind_of m; size = 8 + length (frame_body_of m) } in
    let same : ◌≡◌ {A = Result (Option Header) ExchangeFault} (Ok None) (Ok (Some own)) =
    sym none ∙ (ap frame_header e ∙ cut_own m is) in cc

pub fault_own : (m : Message) (bytes : List ℕ) (fault : ExchangeFault) → HasFrame m
    → bytes ≡ frame_of m → frame_header bytes ≡ Err fault → ⊥
fault_own m bytes fault is e none =
    let own : Header = record { kind = kind_of m; size = 8 + length (frame_body_of m) } in
    let same : ◌≡◌ {A = Result (Option Header) ExchangeFault} (Err fault) (Ok (Some own)) =
    sym none ∙ (ap frame_header e ∙ cut_own m is) in cc

-- ---- one end, of a message that it received

-- nothing came in its way
pub record Clearly (old new : Store) (before after : DialogState) (m : Message) (out now : List ℕ)
    (s : State) : Type 0 where
  pub result : (turned (party_of old) before.state old.content m).result ≡ Ok s
  pub written : now ≡ out ++ bytes_of (turned (party_of old) before.state old.content m).reply
  pub stands : after ≡ standing_after before old.content (kind_of m)
      (turned (party_of old) before.state old.content m)
  pub content : new.broken ≡ false
      → new.content ≡ (turned (party_of old) before.state old.content m).content
  pub passes : CountsFaults old new []

-- a fault is no Ok
pub no_ok : (R : Content) (f : ExchangeFault) (s : State) (out written : List ℕ)
    → Writes (failing R f) (Ok s) out written → ⊥
no_ok R f s out written (inl e) = cc
no_ok R f s out written (inr e) = let x = e.2 in cc

-- what is told where a fault comes
pub told_or : (R : Content) (f g : ExchangeFault) (out written : List ℕ)
    → Writes (failing R f) (Err g) out written → (g ≡ f) ⊎ (g ≡ exchange.OutOfMemory)
told_or R f g out written (inl e) = inl cc
told_or R f g out written (inr e) = let x = e.2 in inr cc

module _ (old new : Store) (before after : DialogState) (m : Message) (out written : List ℕ)
    (got : received (party_of old) before (kind_of m) (frame_body_of m) ≡ Ok m)
    (honest : new.honest) where
  abbrev by_way : Way → Turn
  by_way w = gone w old.content (records_in m) (turned (party_of old) before.state old.content m)

  answer_is : (w : Way) → frame_answered (party_of old) before old.content w (kind_of m)
      (frame_body_of m) ≡ by_way w
  answer_is w = ap (Rattle.exchange.specs.Dialogs.answered_to
      (party_of old) before.state old.content w) got

  wrote : (result : Result State ExchangeFault) (takes :
      Takes old new before after (kind_of m) (frame_body_of m) out written result)
      → Writes (by_way takes.way) result out written
  wrote result takes = subst (λ t. Writes t result out written) (answer_is takes.way)
      (takes.writes honest old.content (λ u. refl))

  -- only a clear way leads to an Ok
  clear : (s : State) (w : Way) → Writes (by_way w) (Ok s) out written → w ≡ Clear
  clear s Clear told = refl
  clear s Unread told = absurd (no_ok old.content exchange.OutOfMemory s out written told)
  clear s (Stopped k fault) told =
      absurd (no_ok (by_way (Stopped k fault)).content
      (exchange.Learn k (refused.Store fault)) s out written told)
  clear s Starved told = absurd (no_ok
      (by_way Starved).content exchange.OutOfMemory s out written told)
  clear s (Met fault) told = absurd (no_ok (by_way (Met fault)).content
      (exchange.Store fault) s out written told)

  pub clearly : (s : State) → Takes old new before after (kind_of m) (frame_body_of m) out written
      (Ok s) → Clearly old new before after m out written s
  clearly s takes =
      let is : takes.way ≡ Clear = clear s takes.way (wrote (Ok s) takes) in
      let turn : frame_answered (party_of old) before old.content takes.way (kind_of m)
      (frame_body_of m) ≡ turned (party_of old) before.state old.content m =
      answer_is takes.way ∙ ap by_way is in
      let wrote : Writes (turned (party_of old) before.state old.content m) (Ok s) out written =
      subst (λ t. Writes t (Ok s) out written) turn
      (takes.writes honest old.content (λ u. refl)) in
      record {
        result = result wrote;
        written = bytes wrote;
        stands = takes.stands honest old.content (λ u. refl)
            ∙ ap (standing_after before old.content (kind_of m)) turn;
        content = λ u. takes.content honest u ∙ ap (λ (t : Turn). t.content) turn;
        passes = subst (λ w. CountsFaults old new (option_to_list (fault_on w))) is takes.passes;
      }
    where
      result : Writes (turned (party_of old) before.state old.content m) (Ok s) out written
          → (turned (party_of old) before.state old.content m).result ≡ Ok s
      result (inl e) = sym e.0
      result (inr e) = let x = e.2 in cc

      bytes : Writes (turned (party_of old) before.state old.content m) (Ok s) out written
          → written ≡ out ++ bytes_of (turned (party_of old) before.state old.content m).reply
      bytes (inl e) = e.1
      bytes (inr e) = let x = e.2 in cc

  -- where the turn has an answer, an Err is of the outside
  pub of_outside : (s : State) (fault : ExchangeFault)
      → (turned (party_of old) before.state old.content m).result ≡ Ok s
      → (takes : Takes old new before after (kind_of m) (frame_body_of m) out written (Err fault))
      → IsOfOutside fault × IsStoreFaultAmong fault (option_to_list (fault_on takes.way))
  of_outside s fault fine takes = go takes.way (wrote (Err fault) takes)
    where
      is_either : (g : ExchangeFault) (faults : List StoreFault)
          → IsOfOutside g × IsStoreFaultAmong g faults
          → (fault ≡ g) ⊎ (fault ≡ exchange.OutOfMemory)
          → IsOfOutside fault × IsStoreFaultAmong fault faults
      is_either g faults is (inl e) =
          subst (λ x. IsOfOutside x × IsStoreFaultAmong x faults) (sym e) is
      is_either g faults is (inr e) =
          subst (λ x. IsOfOutside x × IsStoreFaultAmong x faults) (sym e) (tt, tt)

      go : (w : Way) → Writes (by_way w) (Err fault) out written
          → IsOfOutside fault × IsStoreFaultAmong fault (option_to_list (fault_on w))
      go Clear (inl e) = let x = e.0 in cc
      go Clear (inr e) = let x = e.1 in cc
      go Unread told = is_either exchange.OutOfMemory [] (tt, tt)
          (told_or (by_way Unread).content exchange.OutOfMemory fault out written told)
      go (Stopped k f) told = is_either (exchange.Learn k (refused.Store f)) (f ∷ []) (tt, inl refl)
          (told_or (by_way (Stopped k f)).content
          (exchange.Learn k (refused.Store f)) fault out written told)
      go Starved told = is_either exchange.OutOfMemory [] (tt, tt)
          (told_or (by_way Starved).content exchange.OutOfMemory fault out written told)
      go (Met f) told = is_either (exchange.Store f) (f ∷ []) (tt, inl refl)
          (told_or (by_way (Met f)).content (exchange.Store f) fault out written told)

-- ---- handing over

pub stays_none : (a : Store) → KeepsContent a a
stays_none a = record { content = λ h u. refl; crash = λ h left m. m }

abbrev pub IsNone : Result (Option Lent) ExchangeFault → Type 0
IsNone (Ok None) = Unit {0}
IsNone (Ok (Some frame)) = ⊥
IsNone (Err fault) = Unit {0}

pub hand_starves : (a : Store) (before : DialogState) (bytes out : List ℕ) (fault : ExchangeFault)
    → fault ≡ exchange.OutOfMemory → Hands a a before before bytes out out (Err fault)
hand_starves a before bytes out fault e = record {
  takes = λ m is same. inl (stays_none a, passes-none a, ap (λ f. Err f) e);
  started = refl;
  faults = [];
  passes = passes-none a;
}

pub hand_wrong : (a : Store) (before : DialogState) (bytes out : List ℕ) (held : ReceivedFrames)
    (answer : Result (Option Lent) ExchangeFault) (fault : ExchangeFault)
    → held ≡ record { waiting = [] ++ bytes; failed = false }
    → Gives held answer → IsNone answer → Hands a a before before bytes out out (Err fault)
hand_wrong a before bytes out held answer fault e gives none = record {
  takes = λ m is same. absurd (no answer none (subst (λ h. Gives h answer) e gives) m is same);
  started = refl;
  faults = [];
  passes = passes-none a;
}
  where
    no : (r : Result (Option Lent) ExchangeFault) → IsNone r
        → Gives (record { waiting = bytes; failed = false }) r → (m : Message) → HasFrame m
        → bytes ≡ frame_of m → ⊥
    no (Ok None) none gives m is same = none_own m bytes is same gives
    no (Ok (Some frame)) none gives m is same = none
    no (Err fault) none gives m is same = fault_own m bytes fault is same gives

pub hand_takes : (a c : Store) (before after : DialogState) (bytes out written : List ℕ)
    (held : ReceivedFrames) (frame : Lent) (result : Result State ExchangeFault)
    → held ≡ record { waiting = [] ++ bytes; failed = false }
    → Gives held (Ok (Some frame))
    → Takes a c before after frame.kind frame.body.now out written result
    → Hands a c before after bytes out written result
hand_takes a c before after bytes out written held frame result e gives takes = record {
  takes = λ m is same.
      let own = given_own m bytes frame is same (subst (λ h. Gives h (Ok (Some frame))) e gives) in
      inr (subst (λ b. IsTaken (kind_of m) b) own.1
      (subst (λ k. IsTaken k frame.body.now) own.0 (takes, refl)));
  started = takes.started;
  faults = option_to_list (fault_on takes.way);
  passes = takes.passes;
}
  where
    IsTaken : FrameKind → List ℕ → Type 0
    IsTaken kind body = (taken : Takes a c before after kind body out written result)
        × (option_to_list (fault_on takes.way) ≡ option_to_list (fault_on taken.way))
