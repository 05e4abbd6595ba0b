-- A whole dialog over memory.
use Rattle.std.proofs.Common.{◌≡◌, ℕ, zero, suc, ◌+◌, ◌*◌, ◌<◌, ◌≤◌, true, false, Bool, List, [], ◌∷◌, ◌++◌, take, length, Some, None, Result, Ok, Err, refl, sym, ap, ◌∙◌, subst, arith, inl, inr, ◌⊎◌, option_to_list}
use Rattle.std.specs.Prelude.{nat_lt, Option, IfSome}
use Rattle.std.specs.Option.{option_map_or}
use Rattle.records.specs.Lists.{Has}
use Rattle.archive.specs.declared.fault.StoreFault.{StoreFault}
use Rattle.exchange.specs.Dialogs.{fault_on}
use Rattle.std.proofs.Math.Bool.{or-false}
use Rattle.std.proofs.lemmas.Bool.{cases_Bool, ltb-true, ltb-false}
use Rattle.records.specs.Contents.{Content, merged}
use Rattle.archive.specs.declared.fault.LearnFault.TheVariants as refused
use Rattle.archive.specs.Store.{Store, IsQuiescent, IsLawfulContent, KeepsContent, IsLeft}
use Rattle.archive.proofs.Calls.{passes-none, passes-then}
use Rattle.exchange.specs.declared.fault.ExchangeFault.{ExchangeFault}
use Rattle.exchange.specs.declared.fault.ExchangeFault.TheVariants as exchange
use Rattle.stamp.specs.Limits.{IsReplica}
use Rattle.exchange.specs.declared.message.FrameKind.{FrameKind}
use Rattle.exchange.specs.declared.message.Message.TheVariants as message
use Rattle.exchange.specs.declared.message.State.{State}
use Rattle.exchange.specs.declared.message.State.TheVariants as state
use Rattle.exchange.specs.declared.message.Party.{Party}
use Rattle.exchange.specs.Fault.{store_fault_of}
use Rattle.exchange.specs.Batches.{IsOfAnswer}
use Rattle.exchange.specs.declared.message.Message.{Message}
use Rattle.exchange.specs.declared.message.Title.{Title}
use Rattle.exchange.specs.Frames.{kind_of, frame_body_of, frame_of, IsTitle, HasFrame}
use Rattle.exchange.proofs.FrameLemmas.{read_other}
use Rattle.exchange.proofs.HandleLemmas.{unbroken_before}
use Rattle.exchange.specs.Dialogs.{title_by, records_in, Turn, failing, Way, Clear, Unread, Stopped, Starved, Met, IsWay, gone, DialogState, unfit, received, records_read, party_of, Writes, Takes, Greets}
use Rattle.exchange.specs.Meetings.{IsBetween, AreJoined, AreTooMany, AreWhole, CanMeet, End, LeavesFirst, begun, IsOfOutside, IsOfMeeting, IsStoreFaultAmong, Converses, Hands, fresh_end}
use Rattle.exchange.proofs.DialogLemmas.{between_first}
use Rattle.exchange.proofs.MeetLemmas.{no_ok, told_or, stays_none}
use Rattle.exchange.proofs.ConverseLemmas.{most_frames, title_spelled, due_serving, IsParty, UnderWay, WayBack, AreOf, rests_hold, sent_few, sent_spelled, replied_spelled, end_of, waiting_at, finishes, finishes_whole, party_stays, falls, falls_between, falls_first, falls_back_first, rests_first, stays_first, goes_back, falls_back, falls_back_between, goes_on}

-- ---- so far

-- they may meet
abbrev pub MayMeet : Store → Store → Type 0
MayMeet a b = (a.id ≡ b.id) × (a.own ≡ b.own → ⊥)

-- the initiator's first frame waits for the responder, and both are as they were
pub record IsFirst (a0 b0 a b : Store) (second : DialogState) (there : List ℕ) : Type 0 where
  pub one : KeepsContent a0 a
  pub other : KeepsContent b0 b
  pub rests : IsQuiescent b
  pub title : Title
  pub spelled : IsTitle title
  pub id : title.id ≡ a0.id
  pub own : title.sender ≡ a0.own
  pub bytes : there ≡ frame_of (message.Asks title)
  pub serving : second.state ≡ state.Serving
  pub taken : second.taken < most_frames

pub record Talk (a0 b0 a b : Store) (first second : DialogState) (there : List ℕ) (n round : ℕ) :
    Type 0 where
  pub of : AreOf a0 b0 a b
  pub started : first.started ≡ true
  pub started_other : second.started ≡ true
  pub count : n ≡ 2 * round + 1
  pub way : a.honest → b.honest → CanMeet a0 b0
      → UnderWay a0 b0 a b first second there n round × (round ≤ most_frames)
  pub alone : a.honest → b.honest → (MayMeet a0 b0 → ⊥) → IsFirst a0 b0 a b second there

pub record TalkBack (a0 b0 a b : Store) (first second : DialogState) (back : List ℕ) (n round : ℕ) :
    Type 0 where
  pub of : AreOf a0 b0 a b
  pub started : first.started ≡ true
  pub started_other : second.started ≡ true
  pub count : n ≡ 2 * round + 2
  pub way : a.honest → b.honest → CanMeet a0 b0
      → WayBack a0 b0 a b first second back n round × (round < most_frames)
  pub apart : a.honest → b.honest → (MayMeet a0 b0 → ⊥) → ⊥

of_meeting : (f : ExchangeFault) → IsOfOutside f → IsOfMeeting f
of_meeting exchange.OutOfMemory is = tt
of_meeting (exchange.Store fault) is = tt
of_meeting (exchange.Learn k (refused.Store fault)) is = tt
of_meeting (exchange.Learn k refused.Clash) is = absurd is
of_meeting (exchange.Learn k (refused.Gap held got)) is = absurd is
of_meeting (exchange.Learn k refused.TickNotRising) is = absurd is
of_meeting (exchange.Learn k refused.TickTooFar) is = absurd is
of_meeting exchange.Frame is = absurd is
of_meeting exchange.WrongArchive is = absurd is
of_meeting exchange.SelfPeer is = absurd is
of_meeting exchange.TooLong is = absurd is
of_meeting exchange.PeerFormat is = absurd is
of_meeting exchange.AheadOfClock is = absurd is
of_meeting exchange.NotAdmitted is = absurd is
of_meeting exchange.GivenTwice is = absurd is

of_answer : (f : ExchangeFault) → IsOfAnswer f → IsOfOutside f
of_answer exchange.OutOfMemory is = tt
of_answer (exchange.Store fault) is = tt
of_answer (exchange.Learn k cause) is = absurd is
of_answer exchange.Frame is = absurd is
of_answer exchange.WrongArchive is = absurd is
of_answer exchange.SelfPeer is = absurd is
of_answer exchange.TooLong is = absurd is
of_answer exchange.PeerFormat is = absurd is
of_answer exchange.AheadOfClock is = absurd is
of_answer exchange.NotAdmitted is = absurd is
of_answer exchange.GivenTwice is = absurd is

not_long : (f : ExchangeFault) → IsOfOutside f → f ≡ exchange.TooLong → ⊥
not_long f is e = subst IsOfOutside e is

err_is : (f g : ExchangeFault) → ◌≡◌ {A = Result ℕ ExchangeFault} (Err f) (Err g) → f ≡ g
err_is f g e = cc

has_more : (xs ys : List StoreFault) (f : StoreFault) → Has ys f → Has (xs ++ ys) f
has_more [] ys f h = h
has_more (x ∷ xs) ys f h = inr (has_more xs ys f h)

has_less : (xs ys : List StoreFault) (f : StoreFault) → Has xs f → Has (xs ++ ys) f
has_less [] ys f h = absurd h
has_less (x ∷ xs) ys f (inl e) = inl e
has_less (x ∷ xs) ys f (inr h) = inr (has_less xs ys f h)

more_told : (fault : ExchangeFault) (xs ys : List StoreFault) → IsStoreFaultAmong fault ys
    → IsStoreFaultAmong fault (xs ++ ys)
more_told fault xs ys told = go (store_fault_of fault) told
  where
    go : (o : Option StoreFault) → IfSome o (Has ys) → IfSome o (Has (xs ++ ys))
    go None h = tt
    go (Some f) h = has_more xs ys f h

less_told : (fault : ExchangeFault) (xs ys : List StoreFault) → IsStoreFaultAmong fault xs
    → IsStoreFaultAmong fault (xs ++ ys)
less_told fault xs ys told = go (store_fault_of fault) told
  where
    go : (o : Option StoreFault) → IfSome o (Has xs) → IfSome o (Has (xs ++ ys))
    go None h = tt
    go (Some f) h = has_less xs ys f h

all_told : (o : Option StoreFault) → IfSome o (Has (option_to_list o ++ []))
all_told None = tt
all_told (Some f) = inl refl

-- ---- the first frame

module _ (a0 b0 a : Store) (there : List ℕ) where
  pub start_fails : (fault : ExchangeFault) → Greets a0 a [] there (Err fault)
      → Converses a0 b0 a b0 (Err fault)
  start_fails fault greets = record {
    joined = λ h k meet. tt;
    dialog = λ h k meet. tt;
    between = λ h k meet. (
      of_meeting fault (of_answer fault greets.kept.0),
      record {
        one = λ left m. rests_hold a0.content b0.content a0
            (greets.passes.honest h) meet.one.0 meet.one.1
            (between_first a0.content b0.content (meet.one.0
            (greets.passes.honest h) meet.one.1).lawful) left (greets.stays.crash h left m);
        other = λ left m. rests_hold b0.content a0.content b0 k meet.other.0 meet.other.1
            (between_first b0.content a0.content (meet.other.0 k meet.other.1).lawful) left m;
      },
    );
    cut = λ h k meet. (
      [],
      begun a0 b0,
      message.Asks (title_by (party_of a0) a0.content),
      refl,
      refl,
      inr (
        refl,
        (
          rests_first b0 [] k meet.other.0 meet.other.1,
          stays_first a0 a [] (greets.passes.honest h) meet.one.0 meet.one.1 h greets.stays,
        ),
      ),
    );
    refused = λ h k none. (refl, greets.stays, stays_none b0);
    long = λ h k meet e. absurd (not_long fault (of_answer fault greets.kept.0)
        (err_is fault exchange.TooLong e));
    full = λ h k meet e. absurd (not_long fault (of_answer fault greets.kept.0)
        (err_is fault exchange.TooLong e));
    told = λ h k meet. all_told (store_fault_of fault);
    faults = option_to_list (store_fault_of fault);
    passes = greets.passes;
    others = [];
    passes_other = passes-none b0;
  }

  pub talk_starts : (first second : DialogState) (u : Unit {0}) → Greets a0 a [] there (Ok u)
      → first ≡ record {
        state = state.Pulling;
        taken = 0;
        code = None;
        started = true;
        learned =
            0;
        sent = 0;
      }
      → second ≡ record {
        state = state.Serving;
        taken = 0;
        code = None;
        started = true;
        learned =
            0;
        sent = 0;
      } → IsQuiescent a → IsParty (party_of a0) → IsQuiescent b0
      → Talk a0 b0 a b0 first second there 1 0
  talk_starts first second u greets e f rests party rests_other = record {
    of = record { faults = []; passes = greets.passes; others = []; passes_other = passes-none b0 };
    started = ap (λ (s : DialogState). s.started) e;
    started_other = ap (λ (s : DialogState). s.started) f;
    count = refl;
    way = λ h k meet.
        let ha = greets.passes.honest h in
        let unbroken : a.broken ≡ false =
        greets.passes.broken ∙ (or-false a0.broken ∙ meet.one.1) in
        let content : a.content ≡ a0.content = greets.stays.content h unbroken in (
          record {
            m = message.Asks (title_by (party_of a0) a0.content);
            bytes = greets.frame h;
            one = subst (IsBetween a0.content b0.content) (sym content)
                (between_first a0.content b0.content (meet.one.0 ha meet.one.1).lawful);
            other = between_first b0.content a0.content (meet.other.0 k meet.other.1).lawful;
            sent = subst (λ s. Rattle.exchange.proofs.DialogLemmas.Sent
                (party_of a0) a0.content b0.content a.content b0.content 1 s
                (message.Asks (title_by (party_of a0) a0.content)))
                (sym (ap (λ (s : DialogState). s.state) e)) (
                  ap (title_by (party_of a0)) (sym content),
                  (
                    omega (arith, ap length content),
                    omega (arith, ap length content),
                    omega arith,
                  ),
                );
            frames = [];
            spoken =
                ap (λ (x : End). waiting_at x (end_of a first)
                (Some (message.Asks (title_by (party_of a0) a0.content)))) (ap (end_of b0) f)
                ∙ ap (λ (x : End).
                waiting_at (fresh_end state.Serving b0) x
                (Some (message.Asks (title_by (party_of a0) a0.content))))
                (ap (λ (p : Party). let x : End =
                record { party = p; standing = first; content = a.content } in x)
                (party_stays a0 a [] greets.passes)
                ∙ (ap (λ (s : DialogState). let x : End =
                record { party = party_of a0; standing = s; content = a.content } in x) e
                ∙ ap (λ (R : Content). let x : End =
                record (fresh_end state.Pulling a0) { content = R } in x) content));
            written = refl;
            serving = ap (λ (s : DialogState). s.state) f;
            taken = ap (λ (s : DialogState). s.taken) e;
            taken_other = ap (λ (s : DialogState). s.taken) f;
            used = ((rests, unbroken), meet.other);
          },
          omega arith,
        );
    alone = λ h k none. record {
      one = greets.stays;
      other = stays_none b0;
      rests = rests_other;
      title = title_by (party_of a0) a0.content;
      spelled = title_spelled (party_of a0) a0.content party (lawful h);
      id = refl;
      own = refl;
      bytes = greets.frame h;
      serving = ap (λ (s : DialogState). s.state) f;
      taken = let none_taken : second.taken ≡ 0 = ap (λ (s : DialogState). s.taken) f in
          omega (arith, none_taken);
    };
  }
    where
      used : (x : Bool) → a0.broken ≡ x → a0.broken ≡ false
      used true e = let failed = greets.ended e in absurd (cc)
      used false e = e

      lawful : a.honest → IsLawfulContent a0.content
      lawful h =
          let unbroken : a.broken ≡ false =
          greets.passes.broken ∙ (or-false a0.broken ∙ used a0.broken refl) in
          subst IsLawfulContent (greets.stays.content h unbroken) (rests h unbroken).lawful

-- ---- the responder's turn

ok_memory : (s : State) → ◌≡◌ {A = Result State ExchangeFault} (Ok s) (Err exchange.OutOfMemory) → ⊥
ok_memory s e = cc

fault_memory : (f : ExchangeFault)
    → ◌≡◌ {A = Result State ExchangeFault} (Err f) (Err exchange.OutOfMemory)
    → f ≡ exchange.OutOfMemory
fault_memory f e = cc

-- the frame isn't taken
module _ (refusal : ExchangeFault) (b c : Store) (before after : DialogState) (kind : FrameKind)
    (body out written : List ℕ) (hc : c.honest) (full : received (party_of b) before kind body
    ≡ Err refusal) where
  abbrev by_way : Way → Turn
  by_way w = gone w b.content [] (failing b.content refusal)

  told : (result : Result State ExchangeFault) (takes :
      Takes b c before after kind body out written result)
      → Writes (by_way takes.way) result out written
  told result takes = subst (λ t. Writes t result out written)
      (ap (Rattle.exchange.specs.Dialogs.answered_to (party_of b) before.state b.content takes.way)
      full) (takes.writes hc b.content (λ u. refl))

  full_fails : (s : State) → Takes b c before after kind body out written (Ok s) → ⊥
  full_fails s takes = go takes.way (told (Ok s) takes)
    where
      go : (w : Way) → Writes (by_way w) (Ok s) out written → ⊥
      go Clear t = no_ok b.content refusal s out written t
      go Unread t = no_ok b.content exchange.OutOfMemory s out written t
      go (Stopped k f) t = no_ok (by_way (Stopped k f)).content
          (exchange.Learn k (refused.Store f)) s out written t
      go Starved t = no_ok b.content exchange.OutOfMemory s out written t
      go (Met f) t = no_ok b.content (exchange.Store f) s out written t

  full_falls : IsOfMeeting refusal × IsStoreFaultAmong refusal []
      → (fault : ExchangeFault) (takes : Takes b c before after kind body out written (Err fault))
      → IsOfMeeting fault × IsStoreFaultAmong fault (option_to_list (fault_on takes.way))
  full_falls of fault takes = go takes.way (told (Err fault) takes)
    where
      either : (g : ExchangeFault) (faults : List StoreFault)
          → IsOfMeeting g × IsStoreFaultAmong g faults
          → (fault ≡ g) ⊎ (fault ≡ exchange.OutOfMemory)
          → IsOfMeeting fault × IsStoreFaultAmong fault faults
      either g faults is (inl e) =
          subst (λ x. IsOfMeeting x × IsStoreFaultAmong x faults) (sym e) is
      either g faults is (inr e) =
          subst (λ x. IsOfMeeting x × IsStoreFaultAmong x faults) (sym e) (tt, tt)

      go : (w : Way) → Writes (by_way w) (Err fault) out written
          → IsOfMeeting fault × IsStoreFaultAmong fault (option_to_list (fault_on w))
      go Clear t = either refusal [] of (told_or b.content refusal fault out written t)
      go Unread t = either exchange.OutOfMemory [] (tt, tt)
          (told_or b.content exchange.OutOfMemory fault out written t)
      go (Stopped k f) t = either (exchange.Learn k (refused.Store f)) (f ∷ []) (tt, inl refl)
          (told_or (by_way (Stopped k f)).content
          (exchange.Learn k (refused.Store f)) fault out written t)
      go Starved t = either exchange.OutOfMemory [] (tt, tt)
          (told_or b.content exchange.OutOfMemory fault out written t)
      go (Met f) t = either (exchange.Store f) (f ∷ []) (tt, inl refl)
          (told_or (by_way (Met f)).content (exchange.Store f) fault out written t)

  full_left : (result : Result State ExchangeFault)
      → Takes b c before after kind body out written result → c.broken ≡ false
      → c.content ≡ b.content
  full_left result takes u =
      takes.content hc u
      ∙ (ap (λ r. (Rattle.exchange.specs.Dialogs.answered_to
      (party_of b) before.state b.content takes.way r).content) full
      ∙ go takes.way (subst (λ r. IsWay (records_read r) takes.way) full takes.outside))
    where
      go : (w : Way) → IsWay [] w → (by_way w).content ≡ b.content
      go Clear is = refl
      go Unread is = refl
      go (Stopped k f) is = absurd (omega (arith, is))
      go Starved is = refl
      go (Met f) is = refl

  full_holds : (result : Result State ExchangeFault)
      → Takes b c before after kind body out written result → (left : Content) → c.may_hold left
      → b.may_hold left ⊎ ((b.broken ≡ false) × (left ≡ b.content))
  full_holds result takes left m = elim (takes.crash hc left m) [
    | inl old ↦ inl old.0
    | inr q ↦ inr (
      q.0,
      q.4 ∙ (ap (λ r. merged (take q.1 (records_read r)) b.content) full
          ∙ none q.1),
    )
  ]
    where
      none : (k : ℕ) → merged (take k []) b.content ≡ b.content
      none zero = refl
      none (suc k) = refl

full_unfit : (s : DialogState) (k : FrameKind) → s.state ≡ state.Serving → s.taken ≡ most_frames
    → unfit s k ≡ Some exchange.TooLong
full_unfit s k is e = rw (is, e) refl

long_memory : exchange.TooLong ≡ exchange.OutOfMemory → ⊥
long_memory e = cc

module _ (a0 b0 : Store) (party : IsParty (party_of a0)) (party_other : IsParty (party_of b0)) where
  module _ (a b c : Store) (first second after : DialogState) (there back : List ℕ) (n round : ℕ)
      (talk : Talk a0 b0 a b first second there n round) where
    module _ (ha : a.honest) (hb : b.honest) (hc : c.honest) (meet : CanMeet a0 b0) where
      way : UnderWay a0 b0 a b first second there n round
      way = (talk.way ha hb meet).0

      spelled : HasFrame way.m
      spelled = sent_spelled (party_of a0) a0.content b0.content a.content b.content n first.state
          way.m party way.one.lawful way.sent

      full_got : round ≡ most_frames
          → received (party_of b) second (kind_of way.m) (frame_body_of way.m)
          ≡ Err exchange.TooLong
      full_got e = ap (λ (o : Option ExchangeFault).
          option_map_or (λ f. Err f) o (Rattle.exchange.specs.Frames.message_at (party_of b)
          (kind_of way.m) (frame_body_of way.m))) (full_unfit second (kind_of way.m) way.serving
          (way.taken_other ∙ e))

      at_most : (x : Bool) → nat_lt round most_frames ≡ x → x ≡ false → round ≡ most_frames
      at_most x e f = let le = (talk.way ha hb meet).1 in let ge =
          ltb-false round most_frames (e ∙ f) in omega (arith, le, ge)

      done : Hands b c second after there [] back (Ok state.Done)
          → AreJoined a0.content b0.content a.content c.content n
      done hands = elim (hands.takes way.m spelled way.bytes) [
        | inl none ↦ absurd (ok_memory state.Done none.2)
        | inr pair ↦ elim (cases_Bool (nat_lt round most_frames)) [
          | inl t ↦ finishes a0 b0 meet (talk.of.passes.honest ha)
              (talk.of.passes_other.honest hb) party party_other a b c first second after there []
              back n round talk.of way (ltb-true _ _ t) hc ha pair.0
          | inr f ↦ absurd (full_fails exchange.TooLong b c second after (kind_of way.m)
              (frame_body_of way.m) [] back hc (full_got (at_most _ f refl)) state.Done pair.0)
        ]
      ]

      whole : Hands b c second after there [] back (Ok state.Done) → AreWhole a0 b0 a c n
      whole hands = elim (hands.takes way.m spelled way.bytes) [
        | inl none ↦ absurd (ok_memory state.Done none.2)
        | inr pair ↦ elim (cases_Bool (nat_lt round most_frames)) [
          | inl t ↦ finishes_whole a0 b0 meet (talk.of.passes.honest ha)
              (talk.of.passes_other.honest hb) party party_other a b c first second after there []
              back n round talk.of way (ltb-true _ _ t) hc ha pair.0
          | inr f ↦ absurd (full_fails exchange.TooLong b c second after (kind_of way.m)
              (frame_body_of way.m) [] back hc (full_got (at_most _ f refl)) state.Done pair.0)
        ]
      ]

      ongoing : (s : State) → (s ≡ state.Done → ⊥) → IsQuiescent c
          → Hands b c second after there [] back (Ok s)
          → WayBack a0 b0 a c first after back (n + 1) round × (round < most_frames)
      ongoing s goes rests hands = elim (hands.takes way.m spelled way.bytes) [
        | inl none ↦ absurd (ok_memory s none.2)
        | inr pair ↦ elim (cases_Bool (nat_lt round most_frames)) [
          | inl t ↦ (
            goes_back a0 b0 meet (talk.of.passes.honest ha)
                (talk.of.passes_other.honest hb) party party_other a b c first second after there []
                back n round talk.of way (ltb-true _ _ t) hc ha s goes rests pair.0,
            ltb-true _ _ t,
          )
          | inr f ↦ absurd (full_fails exchange.TooLong b c second after (kind_of way.m)
              (frame_body_of way.m) [] back hc (full_got (at_most _ f refl)) s pair.0)
        ]
      ]

      failed : (fault : ExchangeFault) (hands : Hands b c second after there [] back (Err fault))
          → IsOfMeeting fault × ((left : Content) → c.may_hold left
          → IsBetween b0.content a0.content left) × IsStoreFaultAmong fault hands.faults
      failed fault hands = elim (hands.takes way.m spelled way.bytes) [
        | inl none ↦ (
          subst IsOfMeeting (sym (fault_memory fault none.2)) tt,
          λ left m. rests_hold b0.content a0.content b hb way.used.1.0 way.used.1.1 way.other left
              (none.0.crash hc left m),
          subst (λ x. IsStoreFaultAmong x hands.faults) (sym (fault_memory fault none.2)) tt,
        )
        | inr pair ↦ elim (cases_Bool (nat_lt round most_frames)) [
          | inl t ↦ (
            of_meeting fault (falls a0 b0 meet (talk.of.passes.honest ha)
                (talk.of.passes_other.honest hb) party party_other a b c first second after there []
                back n round talk.of way (ltb-true _ _ t) hc ha fault pair.0).0,
            falls_between a0 b0 meet (talk.of.passes.honest ha)
                (talk.of.passes_other.honest hb) party party_other a b c first second after there []
                back n round talk.of way (ltb-true _ _ t) hc ha (Err fault) pair.0 hb,
            subst (IsStoreFaultAmong fault) (sym pair.1)
                (falls a0 b0 meet (talk.of.passes.honest ha)
                (talk.of.passes_other.honest hb) party party_other a b c first second after there []
                back n round talk.of way (ltb-true _ _ t) hc ha fault pair.0).1,
          )
          | inr f ↦ (
            (full_falls exchange.TooLong b c second after (kind_of way.m)
                (frame_body_of way.m) [] back hc (full_got (at_most _ f refl))
                (tt, tt) fault pair.0).0,
            λ left m. elim (full_holds exchange.TooLong b c second after (kind_of way.m)
                (frame_body_of way.m) [] back hc (full_got (at_most _ f refl))
                (Err fault) pair.0 left m) [
                  | inl old ↦ rests_hold b0.content a0.content b hb way.used.1.0 way.used.1.1
                      way.other
                      left old
                  | inr q ↦ subst (IsBetween b0.content a0.content) (sym q.1) way.other
                ],
            subst (IsStoreFaultAmong fault) (sym pair.1)
                (full_falls exchange.TooLong b c second after (kind_of way.m)
                (frame_body_of way.m) [] back hc (full_got (at_most _ f refl))
                (tt, tt) fault pair.0).1,
          )
        ]
      ]

      long : (fault : ExchangeFault) → Hands b c second after there [] back (Err fault)
          → fault ≡ exchange.TooLong → c.broken ≡ false
          → 999999 + (length a0.content + length b0.content) ≤ length a.content + length c.content
      long fault hands e u = elim (hands.takes way.m spelled way.bytes) [
        | inl none ↦ absurd (long_memory (sym e ∙ fault_memory fault none.2))
        | inr pair ↦ elim (cases_Bool (nat_lt round most_frames)) [
          | inl t ↦ absurd (not_long fault (falls a0 b0 meet (talk.of.passes.honest ha)
              (talk.of.passes_other.honest hb) party party_other a b c first second after there []
              back n round talk.of way (ltb-true _ _ t) hc ha fault pair.0).0 e)
          | inr f ↦
              let left = ap length (full_left exchange.TooLong b c second after (kind_of way.m)
              (frame_body_of way.m) [] back hc (full_got (at_most _ f refl))
              (Err fault) pair.0 u) in
              let few = sent_few (party_of a0) a0.content b0.content a.content b.content n
              first.state way.m way.sent in
              let full = at_most _ f refl in
              let count = talk.count in
              omega (arith, left, few, full, count)
        ]
      ]

      -- what the responder is left with
      cut_off : (fault : ExchangeFault) → Hands b c second after there [] back (Err fault)
          → LeavesFirst c b.content (records_in way.m)
      cut_off fault hands left m = elim (hands.takes way.m spelled way.bytes) [
        | inl none ↦ stays_first b c
            (records_in way.m) hb way.used.1.0 way.used.1.1 hc none.0 left m
        | inr pair ↦ elim (cases_Bool (nat_lt round most_frames)) [
          | inl t ↦ falls_first a0 b0 meet (talk.of.passes.honest ha)
              (talk.of.passes_other.honest hb) party party_other a b c first second after there []
              back n round talk.of way (ltb-true _ _ t) hc ha (Err fault) pair.0 hb left m
          | inr f ↦ (0, untaken (full_got (at_most _ f refl)) pair.0 m)
        ]
      ]
        where
          untaken : received (party_of b) second (kind_of way.m) (frame_body_of way.m)
              ≡ Err exchange.TooLong
              → Takes b c second after (kind_of way.m) (frame_body_of way.m) [] back (Err fault)
              → IsLeft c left → left ≡ b.content
          untaken got takes (inl held) =
              sym held.1 ∙ full_left exchange.TooLong b c second after (kind_of way.m)
              (frame_body_of way.m) [] back hc got (Err fault) takes held.0
          untaken got takes (inr found) =
              elim (full_holds exchange.TooLong b c second after (kind_of way.m)
              (frame_body_of way.m) [] back hc got (Err fault) takes left found) [
                | inl old ↦ (way.used.1.0 hb way.used.1.1).only left old
                | inr q ↦ q.1
              ]

      -- the responder took all of its frames, and another one came
      too_many : (fault : ExchangeFault) → Hands b c second after there [] back (Err fault)
          → fault ≡ exchange.TooLong → AreTooMany a0 b0
      too_many fault hands e = elim (hands.takes way.m spelled way.bytes) [
        | inl none ↦ absurd (long_memory (sym e ∙ fault_memory fault none.2))
        | inr pair ↦ elim (cases_Bool (nat_lt round most_frames)) [
          | inl t ↦ absurd (not_long fault (falls a0 b0 meet (talk.of.passes.honest ha)
              (talk.of.passes_other.honest hb) party party_other a b c first second after there []
              back n round talk.of way (ltb-true _ _ t) hc ha fault pair.0).0 e)
          | inr f ↦ (
            way.frames,
            waiting_at (end_of b second) (end_of a first) (Some way.m),
            way.spoken,
            (way.m, refl),
            way.taken_other ∙ at_most _ f refl,
          )
        ]
      ]

    -- replicas that may not meet
    module _ (ha : a.honest) (hb : b.honest) (hc : c.honest) (none : MayMeet a0 b0 → ⊥) where
      first_frame : IsFirst a0 b0 a b second there
      first_frame = talk.alone ha hb none

      abbrev asked : Message
      asked = message.Asks first_frame.title

      turned_away : (f : ExchangeFault)
          × (received (party_of b) second (kind_of asked) (frame_body_of asked) ≡ Err f)
      turned_away =
          let read = read_other (party_of b) first_frame.title first_frame.spelled (λ met. none (
            sym first_frame.id ∙ (met.0 ∙ talk.of.passes_other.id),
            λ e. met.1 (first_frame.own ∙ (e ∙ sym talk.of.passes_other.own)),
          )) in (
            read.0,
            ap (λ (o : Option ExchangeFault).
                option_map_or (λ f.
                Err f) o (Rattle.exchange.specs.Frames.message_at (party_of b) (kind_of asked)
                (frame_body_of asked))) (due_serving second
                (kind_of asked) first_frame.serving first_frame.taken) ∙ read.1,
          )

      no_answer : (s : State) → Hands b c second after there [] back (Ok s) → ⊥
      no_answer s hands = elim (hands.takes asked first_frame.spelled first_frame.bytes) [
        | inl none ↦ ok_memory s none.2
        | inr pair ↦ full_fails turned_away.0 b c second after (kind_of asked)
            (frame_body_of asked) [] back hc turned_away.1 s pair.0
      ]

      stays : (fault : ExchangeFault) → Hands b c second after there [] back (Err fault)
          → KeepsContent b0 c
      stays fault hands = elim (hands.takes asked first_frame.spelled first_frame.bytes) [
        | inl none ↦ record {
          content = λ h u. none.0.content h u
              ∙ first_frame.other.content hb (unbroken_before b c hands.faults hands.passes u);
          crash = λ h left m. first_frame.other.crash hb left (none.0.crash h left m);
        }
        | inr pair ↦ record {
          content = λ h u. full_left turned_away.0 b c second after (kind_of asked)
              (frame_body_of asked) [] back hc turned_away.1 (Err fault) pair.0 u
              ∙ first_frame.other.content hb (unbroken_before b c hands.faults hands.passes u);
          crash = λ h left m. elim (full_holds turned_away.0 b c second after (kind_of asked)
              (frame_body_of asked) [] back hc turned_away.1 (Err fault) pair.0 left m) [
                | inl old ↦ first_frame.other.crash hb left old
                | inr q ↦ first_frame.other.crash hb left
                    (subst b.may_hold (sym q.1) (first_frame.rests hb q.0).stays)
              ];
        }
      ]

    pub talk_done : Hands b c second after there [] back (Ok state.Done)
        → Converses a0 b0 a c (Ok n)
    talk_done hands = record {
      joined = λ h k meet. done h (hands.passes.honest k) k meet hands;
      cut = λ h k meet. tt;
      dialog = λ h k meet. whole h (hands.passes.honest k) k meet hands;
      between = λ h k meet. tt;
      told = λ h k meet. tt;
      refused = λ h k none. absurd (no_answer h (hands.passes.honest k) k none state.Done hands);
      long = λ h k meet e. absurd (not_err e);
      full = λ h k meet e. absurd (not_err e);
      faults = talk.of.faults;
      passes = talk.of.passes;
      others = talk.of.others ++ hands.faults;
      passes_other = passes-then b0 b c talk.of.others hands.faults talk.of.passes_other
          hands.passes;
    }
      where
        not_err : ◌≡◌ {A = Result ℕ ExchangeFault} (Ok n) (Err exchange.TooLong) → ⊥
        not_err e = cc

    pub talk_fails : (fault : ExchangeFault) → Hands b c second after there [] back (Err fault)
        → Converses a0 b0 a c (Err fault)
    talk_fails fault hands = record {
      joined = λ h k meet. tt;
      dialog = λ h k meet. tt;
      cut = λ h k meet.
          let w = way h (hands.passes.honest k) k meet in (
            w.frames,
            waiting_at (end_of b second) (end_of a first) (Some w.m),
            w.m,
            w.spoken,
            refl,
            inr (
              party_stays b0 b talk.of.others talk.of.passes_other,
              (
                cut_off h (hands.passes.honest k) k meet fault hands,
                rests_first a [] h w.used.0.0 w.used.0.1,
              ),
            ),
          );
      between = λ h k meet.
          let is = failed h (hands.passes.honest k) k meet fault hands in
          let w = way h (hands.passes.honest k) k meet in (
            is.0,
            record {
              one = λ left m.
                  rests_hold a0.content b0.content a h w.used.0.0 w.used.0.1 w.one left m;
              other =
                  is.1;
            },
          );
      told = λ h k meet. more_told fault talk.of.faults (talk.of.others ++ hands.faults)
          (more_told fault talk.of.others hands.faults
          (failed h (hands.passes.honest k) k meet fault hands).2);
      refused = λ h k none. (
        refl,
        (first_frame h (hands.passes.honest k) k none).one,
        stays h (hands.passes.honest k) k none fault hands,
      );
      long = λ h k meet e u v. long h (hands.passes.honest k) k meet fault hands
          (err_is fault exchange.TooLong e) v;
      full = λ h k meet e. too_many h (hands.passes.honest k) k meet fault hands
          (err_is fault exchange.TooLong e);
      faults = talk.of.faults;
      passes = talk.of.passes;
      others = talk.of.others ++ hands.faults;
      passes_other = passes-then b0 b c talk.of.others hands.faults talk.of.passes_other
          hands.passes;
    }

    pub talk_back : (s : State) → (s ≡ state.Done → ⊥) → IsQuiescent c
        → Hands b c second after there [] back (Ok s)
        → TalkBack a0 b0 a c first after back (n + 1) round
    talk_back s goes rests hands = record {
      of = record {
        faults = talk.of.faults;
        passes = talk.of.passes;
        others =
            talk.of.others ++ hands.faults;
        passes_other =
            passes-then b0 b c talk.of.others hands.faults talk.of.passes_other hands.passes;
      };
      started = talk.started;
      started_other = hands.started ∙ talk.started_other;
      count = let e = talk.count in omega (arith, e);
      way = λ h k meet. ongoing h (hands.passes.honest k) k meet s goes rests hands;
      apart = λ h k none. no_answer h (hands.passes.honest k) k none s hands;
    }

  module _ (a b c : Store) (first second after : DialogState) (back there : List ℕ) (n round : ℕ)
      (talk : TalkBack a0 b0 a b first second back n round) where
    module _ (ha : a.honest) (hb : b.honest) (hc : c.honest) (meet : CanMeet a0 b0) where
      way_back : WayBack a0 b0 a b first second back n round
      way_back = (talk.way ha hb meet).0

      spelled_of : HasFrame way_back.m
      spelled_of = replied_spelled
          (party_of b0) a0.content b0.content a.content b.content n first.state way_back.m
          party_other way_back.other.lawful way_back.replied

      failed_back : (fault : ExchangeFault) (hands :
          Hands a c first after back [] there (Err fault))
          → IsOfOutside fault × ((left : Content) → c.may_hold left
          → IsBetween a0.content b0.content left) × IsStoreFaultAmong fault hands.faults
      failed_back fault hands = elim (hands.takes way_back.m spelled_of way_back.bytes) [
        | inl none ↦ (
          subst IsOfOutside (sym (fault_memory fault none.2)) tt,
          λ left m. rests_hold a0.content b0.content a ha way_back.used.0.0 way_back.used.0.1
              way_back.one left (none.0.crash hc left m),
          subst (λ x. IsStoreFaultAmong x hands.faults) (sym (fault_memory fault none.2)) tt,
        )
        | inr pair ↦ (
          (falls_back a0 b0 meet (talk.of.passes.honest ha)
              (talk.of.passes_other.honest hb) party party_other a b c first second after back there
              n round talk.of way_back (talk.way ha hb meet).1 hc fault pair.0).0,
          falls_back_between a0 b0 meet (talk.of.passes.honest ha)
              (talk.of.passes_other.honest hb) party party_other a b c first second after back there
              n round talk.of way_back (talk.way ha hb meet).1 hc (Err fault) pair.0 ha,
          subst (IsStoreFaultAmong fault) (sym pair.1)
              (falls_back a0 b0 meet (talk.of.passes.honest ha)
              (talk.of.passes_other.honest hb) party party_other a b c first second after back there
              n round talk.of way_back (talk.way ha hb meet).1 hc fault pair.0).1,
        )
      ]

      -- what the initiator is left with
      cut_back : (fault : ExchangeFault) → Hands a c first after back [] there (Err fault)
          → LeavesFirst c a.content (records_in way_back.m)
      cut_back fault hands left m = elim (hands.takes way_back.m spelled_of way_back.bytes) [
        | inl none ↦ stays_first a c
            (records_in way_back.m) ha way_back.used.0.0 way_back.used.0.1 hc none.0 left m
        | inr pair ↦ falls_back_first a0 b0 meet (talk.of.passes.honest ha)
            (talk.of.passes_other.honest hb) party party_other a b c first second after back there n
            round talk.of way_back (talk.way ha hb meet).1 hc (Err fault) pair.0 ha left m
      ]

      ongoing_back : (s : State) → IsQuiescent c → Hands a c first after back [] there (Ok s)
          → UnderWay a0 b0 c b after second there (n + 1) (round + 1) × (round + 1 ≤ most_frames)
      ongoing_back s rests hands = elim (hands.takes way_back.m spelled_of way_back.bytes) [
        | inl none ↦ absurd (ok_memory s none.2)
        | inr pair ↦
            let few = (talk.way ha hb meet).1 in (
              goes_on a0 b0 meet (talk.of.passes.honest ha)
                  (talk.of.passes_other.honest hb) party party_other a b c first second after back
                  there n round talk.of way_back few hc s rests pair.0,
              omega (arith, few),
            )
      ]

    pub back_fails : (fault : ExchangeFault) → Hands a c first after back [] there (Err fault)
        → Converses a0 b0 c b (Err fault)
    back_fails fault hands = record {
      joined = λ h k meet. tt;
      dialog = λ h k meet. tt;
      cut = λ h k meet.
          let w = way_back (hands.passes.honest h) k h meet in (
            w.frames,
            waiting_at (end_of a first) (end_of b second) (Some w.m),
            w.m,
            w.spoken,
            refl,
            inl (
              party_stays a0 a talk.of.faults talk.of.passes,
              (
                cut_back (hands.passes.honest h) k h meet fault hands,
                rests_first b [] k w.used.1.0 w.used.1.1,
              ),
            ),
          );
      between = λ h k meet.
          let is = failed_back (hands.passes.honest h) k h meet fault hands in
          let w = way_back (hands.passes.honest h) k h meet in (
            of_meeting fault is.0,
            record {
              one = is.1;
              other =
                  λ left m. rests_hold b0.content a0.content b k w.used.1.0 w.used.1.1 w.other left
                  m;
            },
          );
      told = λ h k meet. less_told fault (talk.of.faults ++ hands.faults) talk.of.others
          (more_told fault talk.of.faults hands.faults
          (failed_back (hands.passes.honest h) k h meet fault hands).2);
      refused = λ h k none. absurd (talk.apart (hands.passes.honest h) k none);
      long = λ h k meet e u v. absurd (not_long fault
          (failed_back (hands.passes.honest h) k h meet fault hands).0
          (err_is fault exchange.TooLong e));
      full = λ h k meet e. absurd (not_long fault
          (failed_back (hands.passes.honest h) k h meet fault hands).0
          (err_is fault exchange.TooLong e));
      faults = talk.of.faults ++ hands.faults;
      passes = passes-then a0 a c talk.of.faults hands.faults talk.of.passes hands.passes;
      others = talk.of.others;
      passes_other = talk.of.passes_other;
    }

    pub back_goes : (s : State) → IsQuiescent c → Hands a c first after back [] there (Ok s)
        → Talk a0 b0 c b after second there (n + 1) (round + 1)
    back_goes s rests hands = record {
      of = record {
        faults = talk.of.faults ++ hands.faults;
        passes =
            passes-then a0 a c talk.of.faults hands.faults talk.of.passes hands.passes;
        others =
            talk.of.others;
        passes_other = talk.of.passes_other;
      };
      started = hands.started ∙ talk.started;
      started_other = talk.started_other;
      count = let e = talk.count in omega (arith, e);
      way = λ h k meet. ongoing_back (hands.passes.honest h) k h meet s rests hands;
      alone = λ h k none. absurd (talk.apart (hands.passes.honest h) k none);
    }

-- so many frames don't come
pub talk_ends : (a0 b0 a b : Store) (first second : DialogState) (there : List ℕ) (n round : ℕ)
    → Talk a0 b0 a b first second there n round → most_frames < round
    → Converses a0 b0 a b (Err exchange.TooLong)
talk_ends a0 b0 a b first second there n round talk past = record {
  joined = λ h k meet. tt;
  dialog = λ h k meet. tt;
  cut = λ h k meet. absurd (over h k meet);
  between = λ h k meet. absurd (over h k meet);
  told = λ h k meet. tt;
  refused = λ h k none. let first = talk.alone h k none in (refl, first.one, first.other);
  long = λ h k meet e u v. absurd (over h k meet);
  full = λ h k meet e. absurd (over h k meet);
  faults = talk.of.faults;
  passes = talk.of.passes;
  others = talk.of.others;
  passes_other = talk.of.passes_other;
}
  where
    over : a.honest → b.honest → CanMeet a0 b0 → ⊥
    over h k meet = let le = (talk.way h k meet).1 in omega (arith, le, past)

pub hands_from : (a c : Store) (before after : DialogState) (bytes there out written : List ℕ)
    (result : Result State ExchangeFault) → bytes ≡ there → out ≡ []
    → Hands a c before after bytes out written result
    → Hands a c before after there [] written result
hands_from a c before after bytes there out written result e f hands =
    subst (λ b. Hands a c before after b [] written result) e
    (subst (λ o. Hands a c before after bytes o written result) f hands)

pub party_is : (s : Store) (p : Party) → p ≡ party_of s → length p.id ≡ 16 → IsReplica p.own
    → IsParty (party_of s)
party_is s p e id own = subst IsParty e (record { id = id; own = own })
