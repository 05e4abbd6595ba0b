-- The steps of a dialog over a connection.
use Rattle.std.proofs.Common.{◌≡◌, ℕ, ◌+◌, ◌<◌, ◌||◌, Bool, true, false, cond, List, [], ◌∷◌, ◌++◌, take, drop, length, Option, Some, None, Result, Ok, Err, refl, sym, ◌∙◌, ap, subst, arith, append_assoc, nat_lt, nat_le}
use Rattle.std.specs.Prelude.{⊤, unwrap_or}
use Rattle.ua_binary.specs.Binary as binary
use Rattle.std.specs.Io.KnownBytes.{Appends, Consumes, Keeps, IsAtEnd}
use Rattle.std.proofs.KnownBytes.{Appends-trans, Appends-nil, Consumes-trans, Consumes-nil, Consumes-kept}
use Rattle.std.proofs.lemmas.List.{append-nil, length-drop}
use Rattle.std.proofs.lemmas.Bool.{ltb-false, ltb-true, lt-ltb, true≢false}
use Rattle.archive.specs.Store.{Store}
use Rattle.exchange.specs.declared.fault.ExchangeFault.{ExchangeFault}
use Rattle.exchange.specs.declared.fault.ExchangeFault.TheVariants as exchange
use Rattle.exchange.specs.declared.message.Frame.{Frame as Lent}
use Rattle.exchange.specs.declared.message.FrameKind.{FrameKind}
use Rattle.exchange.specs.declared.message.State.{State}
use Rattle.exchange.specs.declared.message.State.TheVariants.{Pulling, Pushing, Serving, Done, Failed}
use Rattle.exchange.specs.Batches.{longest_frame}
use Rattle.exchange.specs.Messages.{Header}
use Rattle.exchange.specs.Frames.{end_frame, frame_header, titled, kind_at, frame_size_at, no_frames, ReceivedFrames, Gives, next_of, after_next}
use Rattle.exchange.specs.Streams.{FrameContent, header_of}
use Rattle.exchange.specs.Dialogs.{DialogState, is_over, is_due, unfit, Takes, TellsFault}
use Rattle.exchange.proofs.DialogsParts.{taken_after}
use Rattle.counted_io.specs.declared.fault.ServeFault.{ServeFault}
use Rattle.counted_io.specs.declared.fault.ServeFault.TheVariants.{Read, Write, TooLong, OutOfMemory}
use Rattle.ua_peers.specs.declared.peers.PeerEnded.{PeerEnded}
use Rattle.ua_peers.specs.declared.peers.PeerEnded.TheVariants as parted
use Rattle.counted_io.specs.Bytes.{AppendsPart}
use Rattle.ua_peers.specs.Peers.{failed_as, ended_as, is_silent, Talks, TalksOnce, Speaks, MeetsTo}
use Rattle.ua_peers.specs.Talking.{ending_of, stop_of, ending_in, IsReady, TakesOne, LeavesOne, IsNoLess, IsDrained, LeavesAll, AnswersAll, SentAllReplies, TellsWant, DrainedSoFar, MeetsSoFar}
use Rattle.ua_peers.proofs.Talks.{talks-start, talks-then, talks-more, talks-starved, once-start, once-frame, once-malformed}

-- ---- the ends of a dialog that the server spells itself

pub end-one : (82 ∷ 88 ∷ 69 ∷ 70 ∷ 12 ∷ 0 ∷ 0 ∷ 0 ∷ 1 ∷ 0 ∷ 0 ∷ 0 ∷ []) ≡ end_frame 1
unfolding binary.unsigned
end-one = refl

pub end-four : (82 ∷ 88 ∷ 69 ∷ 70 ∷ 12 ∷ 0 ∷ 0 ∷ 0 ∷ 4 ∷ 0 ∷ 0 ∷ 0 ∷ []) ≡ end_frame 4
unfolding binary.unsigned
end-four = refl

-- ---- what stands first

-- no fault but Frame stands where a frame would
malformed-if : (b : Bool) (t : Result (Option Header) ExchangeFault) (fault : ExchangeFault)
    → ((f : ExchangeFault) → t ≡ Err f → f ≡ exchange.Frame) → cond b (Ok None) t ≡ Err fault
    → fault ≡ exchange.Frame
malformed-if true t fault all e = absurd (cc)
malformed-if false t fault all e = all fault e

malformed-sized : (b c : Bool) (h : Header) (f : ExchangeFault)
    → ◌≡◌ {A = Result (Option Header) ExchangeFault}
    (cond b (Err exchange.Frame) (cond c (Ok None) (Ok (Some h)))) (Err f) → f ≡ exchange.Frame
malformed-sized true c h f e = cc
malformed-sized false true h f e = absurd (cc)
malformed-sized false false h f e = absurd (cc)

malformed-titled : (n : ℕ) (head : List ℕ) (kind : Option FrameKind) (f : ExchangeFault)
    → titled n head kind ≡ Err f → f ≡ exchange.Frame
malformed-titled n head None f e = cc
malformed-titled n head (Some kind) f e =
    malformed-sized (nat_lt (frame_size_at head) 12 || nat_lt longest_frame (frame_size_at head))
    (nat_lt n (frame_size_at head)) (record { kind = kind; size = frame_size_at head }) f e

malformed-cut : (bytes : List ℕ) (fault : ExchangeFault) → frame_header bytes ≡ Err fault
    → fault ≡ exchange.Frame
unfolding frame_header
malformed-cut bytes fault e = malformed-if (nat_lt (length bytes) 8)
    (titled (length bytes) (take 8 bytes) (kind_at (take 8 bytes))) fault
    (malformed-titled (length bytes) (take 8 bytes) (kind_at (take 8 bytes))) e

-- what is no whole frame is short
short-if : (b : Bool) (t : Result (Option Header) ExchangeFault) (n : ℕ) → nat_lt n 8 ≡ b
    → (t ≡ Ok None → n < 2097152) → cond b (Ok None) t ≡ Ok None → n < 2097152
short-if true t n is all e = let low = ltb-true _ _ is in omega (arith, low)
short-if false t n is all e = all e

not-or : (b c : Bool) → (b || c) ≡ false → c ≡ false
not-or false c e = e
not-or true c e = absurd (true≢false e)

short-sized : (b c : Bool) (h : Header)
    → ◌≡◌ {A = Result (Option Header) ExchangeFault}
    (cond b (Err exchange.Frame) (cond c (Ok None) (Ok (Some h)))) (Ok None)
    → (b ≡ false) × (c ≡ true)
short-sized true c h e = absurd (cc)
short-sized false true h e = (refl, refl)
short-sized false false h e = absurd (cc)

short-titled : (n : ℕ) (head : List ℕ) (kind : Option FrameKind) → titled n head kind ≡ Ok None
    → n < 2097152
short-titled n head None e = absurd (cc)
short-titled n head (Some kind) e =
    let s = short-sized (nat_lt (frame_size_at head) 12
    || nat_lt longest_frame (frame_size_at head)) (nat_lt n (frame_size_at head))
    (record { kind = kind; size = frame_size_at head }) e in
    let low = ltb-true _ _ s.1 in
    let high = ltb-false _ _ (not-or (nat_lt (frame_size_at head) 12)
    (nat_lt longest_frame (frame_size_at head)) s.0) in
    omega (arith, low, high)

pub short-cut : (bytes : List ℕ) → frame_header bytes ≡ Ok None → length bytes < 2097152
unfolding frame_header
short-cut bytes e = short-if (nat_lt (length bytes) 8)
    (titled (length bytes) (take 8 bytes) (kind_at (take 8 bytes))) (length bytes) refl
    (short-titled (length bytes) (take 8 bytes) (kind_at (take 8 bytes))) e

few-cut : (bytes : List ℕ) → length bytes < 8 → frame_header bytes ≡ Ok None
unfolding frame_header
few-cut bytes few = let low : nat_lt (length bytes) 8 ≡ true = lt-ltb _ _ few in rw low refl

-- ---- the first frame

next-cut : (held : ReceivedFrames) → held.failed ≡ false → next_of held ≡ frame_header held.waiting
next-cut held sound = go held.failed sound
  where
    go : (x : Bool) → x ≡ false → cond x (Err exchange.Frame) (frame_header held.waiting)
        ≡ frame_header held.waiting
    go false p = refl
    go true p = absurd (true≢false p)

pub first-none : (a : Store) (s : DialogState) (held left : ReceivedFrames) (out : List ℕ)
    → held.failed ≡ false → next_of held ≡ Ok None → left ≡ after_next held (next_of held)
    → out ≡ []
    → TalksOnce s a a held.waiting out left.waiting None s
first-none a s held left out sound e is none =
    let same : left ≡ held = is ∙ ap (after_next held) e in
    subst (λ (o : List ℕ). TalksOnce s a a held.waiting o left.waiting None s) (sym none)
    (subst (λ (h : ReceivedFrames). TalksOnce s a a held.waiting [] h.waiting None s) (sym same)
    (once-start s a held.waiting (sym (next-cut held sound) ∙ e)))

pub leaves-none : (s : DialogState) (held left : ReceivedFrames) → held.failed ≡ false
    → next_of held ≡ Ok None → left ≡ after_next held (next_of held) → LeavesOne held left s s None
leaves-none s held left sound e is =
    (sym (next-cut held sound) ∙ e, is ∙ ap (after_next held) e, refl)

piece_of : Lent → FrameContent
piece_of frame = record { kind = frame.kind; body = frame.body.now }

pub first-some : (a b : Store) (before next : DialogState) (held left : ReceivedFrames)
    (frame : Lent) (empty out : List ℕ) (result : Result State ExchangeFault) → held.failed ≡ false
    → Gives held (Ok (Some frame))
    → left ≡ after_next held (next_of held) → empty ≡ []
    → Takes a b before next frame.kind frame.body.now empty out result
    → TalksOnce before a b held.waiting out left.waiting
    (ended_as next.code (is_silent out) result) next
first-some a b before next held left frame empty out result sound gives is none takes =
    let piece : FrameContent = record { kind = frame.kind; body = frame.body.now } in
    let stands : frame_header held.waiting
    ≡ Ok (Some (header_of (record { kind = frame.kind; body = frame.body.now }))) =
    sym (next-cut held sound) ∙ gives.0 in
    let rest : left.waiting ≡ drop (8 + length frame.body.now) held.waiting =
    ap (λ (h : ReceivedFrames). h.waiting) (is ∙ ap (after_next held) gives.0) in
    let taken : Takes a b before next frame.kind frame.body.now [] out result =
    subst (λ (o : List ℕ). Takes a b before next frame.kind frame.body.now o out result) none
    takes in
    subst (λ (w : List ℕ). TalksOnce before a b held.waiting out w
    (ended_as next.code (is_silent out) result) next) (sym rest)
    (once-frame a b before next (record { kind = frame.kind; body = frame.body.now }) held.waiting
    out result stands gives.1 gives.2 taken)

few-if : (over due : Bool) (b : Bool)
    → cond over (Some exchange.Frame) (cond b (Some exchange.TooLong)
    (cond due None (Some exchange.Frame))) ≡ None → b ≡ false
few-if true due b e = absurd (cc)
few-if false due true e = absurd (cc)
few-if false due false e = refl

few-so : (s : DialogState) (kind : FrameKind) → unfit s kind ≡ None → s.taken < 1000000
few-so s kind e = ltb-so (few-if (is_over s.state) (is_due s.state kind) (nat_le 1000000 s.taken) e)
  where
    ltb-so : nat_le 1000000 s.taken ≡ false → s.taken < 1000000
    ltb-so e = grind (arith, e)

pub leaves-some : (a b : Store) (before next : DialogState) (held left : ReceivedFrames)
    (frame : Lent) (empty out : List ℕ) (result : Result State ExchangeFault) → held.failed ≡ false
    → Gives held (Ok (Some frame))
    → left ≡ after_next held (next_of held)
    → Takes a b before next frame.kind frame.body.now empty out result
    → LeavesOne held left before next (Some result)
leaves-some a b before next held left frame empty out (Err fault) sound gives is takes = tt
leaves-some a b before next held left frame empty out (Ok state) sound gives is takes =
    let same = is ∙ ap (after_next held) gives.0 in
    let rest : left.waiting ≡ drop (8 + length frame.body.now) held.waiting =
    ap (λ (h : ReceivedFrames). h.waiting) same in
    let count : length left.waiting ≡ length (drop (8 + length frame.body.now) held.waiting) =
    ap length rest in
    let low = gives.1.0 in
    let whole = gives.1.1 in
    let most = gives.1.2 in
    record {
      sound = ap (λ (h : ReceivedFrames). h.failed) same ∙ sound;
      less = omega (arith, count, length-drop (8 + length frame.body.now) held.waiting, low, whole);
      most = omega (
        arith,
        count,
        length-drop (8 + length frame.body.now) held.waiting,
        most,
        whole,
      );
      counted = takes.counted ∙ ap
          (λ (o : Option ExchangeFault). taken_after o before.taken) takes.fit;
      few = few-so before frame.kind takes.fit;
    }

pub first-malformed : (a : Store) (s : DialogState) (held left : ReceivedFrames)
    (fault told : ExchangeFault) (out : List ℕ) → held.failed ≡ false → next_of held ≡ Err fault
    → left ≡ after_next held (next_of held)
    → TellsFault exchange.Frame (Err told) [] out
    → TalksOnce s a a held.waiting out left.waiting (ended_as s.code (is_silent out) (Err told)) s
first-malformed a s held left fault told out sound e is tells =
    let cuts : frame_header held.waiting ≡ Err fault = sym (next-cut held sound) ∙ e in
    let malformed : frame_header held.waiting ≡ Err exchange.Frame =
    cuts ∙ ap (λ (f : ExchangeFault). let r : Result (Option Header) ExchangeFault = Err f in r)
    (malformed-cut held.waiting fault cuts) in
    let rest : left.waiting ≡ held.waiting =
    ap (λ (h : ReceivedFrames). h.waiting) (is ∙ ap (after_next held) e) in
    subst (λ (w : List ℕ). TalksOnce s a a held.waiting out w
    (Some (failed_as (is_silent out) told)) s)
    (sym rest) (once-malformed a s held.waiting out told malformed tells)

-- ---- a stretch

-- what goes on has no end
pub goes-so : (code : Option ℕ) (silent : Bool) (first : Option (Result State ExchangeFault))
    → None ≡ stop_of code silent first
    → (state : State) × (first ≡ Some (Ok state)) × (ending_of code silent first ≡ None)
goes-so code silent None e = absurd (cc)
goes-so code silent (Some (Ok Pulling)) e = (Pulling, refl, refl)
goes-so code silent (Some (Ok Pushing)) e = (Pushing, refl, refl)
goes-so code silent (Some (Ok Serving)) e = (Serving, refl, refl)
goes-so code silent (Some (Ok Done)) e = absurd (cc)
goes-so code silent (Some (Ok Failed)) e = absurd (cc)
goes-so code true (Some (Err fault)) e = absurd (cc)
goes-so code false (Some (Err fault)) e = absurd (cc)

-- the ends that frames come to
abbrev pub IsStop : Result (Option PeerEnded) ServeFault → Type 0
IsStop (Ok (Some parted.EndOfInput)) = ⊥
IsStop (Ok p) = ⊤
IsStop (Err OutOfMemory) = ⊤
IsStop (Err fault) = ⊥

pub record Stops (ending : Option (Result PeerEnded ServeFault))
    (first : Option (Result State ExchangeFault)) (end : Result (Option PeerEnded) ServeFault) :
    Type 0 where
  pub stop : IsStop end
  pub is : ending ≡ ending_in end
  pub none : end ≡ Ok None → first ≡ None

pub stops-so : (code : Option ℕ) (silent : Bool) (first : Option (Result State ExchangeFault))
    (end : Result (Option PeerEnded) ServeFault) → Some end ≡ stop_of code silent first
    → Stops (ending_of code silent first) first end
stops-so code silent None end e =
    let same : end ≡ Ok None = cc in
    subst (λ (x : Result (Option PeerEnded) ServeFault). Stops None None x) (sym same)
    (record { stop = tt; is = refl; none = λ q. refl })
stops-so code silent (Some (Ok Pulling)) end e = absurd (cc)
stops-so code silent (Some (Ok Pushing)) end e = absurd (cc)
stops-so code silent (Some (Ok Serving)) end e = absurd (cc)
stops-so code silent (Some (Ok Done)) end e =
    let same : end ≡ Ok (Some parted.Done) = cc in
    subst (λ (x : Result (Option PeerEnded) ServeFault).
    Stops (Some (Ok parted.Done)) (Some (Ok Done)) x) (sym same)
    (record { stop = tt; is = refl; none = λ q. absurd (cc) })
stops-so code silent (Some (Ok Failed)) end e =
    let same : end ≡ Ok (Some (parted.Refused (unwrap_or code 0))) = cc in
    subst (λ (x : Result (Option PeerEnded) ServeFault).
    Stops (Some (Ok (parted.Refused (unwrap_or code 0)))) (Some (Ok Failed)) x) (sym same)
    (record { stop = tt; is = refl; none = λ q. absurd (cc) })
stops-so code true (Some (Err fault)) end e =
    let same : end ≡ Err OutOfMemory = cc in
    subst (λ (x : Result (Option PeerEnded) ServeFault).
    Stops (Some (Err OutOfMemory)) (Some (Err fault)) x) (sym same)
    (record { stop = tt; is = refl; none = λ q. absurd (cc) })
stops-so code false (Some (Err fault)) end e =
    let same : end ≡ Ok (Some (parted.Failed fault)) = cc in
    subst (λ (x : Result (Option PeerEnded) ServeFault).
    Stops (Some (Ok (parted.Failed fault))) (Some (Err fault)) x) (sym same)
    (record { stop = tt; is = refl; none = λ q. absurd (cc) })

pub stop-unwritten : (code : Option ℕ) (silent : Bool) (first : Option (Result State ExchangeFault))
    → Some (Err Write) ≡ stop_of code silent first → ⊥
stop-unwritten code silent first e = (stops-so code silent first (Err Write) e).stop

pub drains-start : (start : DialogState) (a : Store) (written : Option (List ℕ)) (rest : List ℕ)
    → DrainedSoFar start a a written written rest rest start
drains-start start a written rest = ([], Appends-nil written, talks-start start a rest)

pub drains-more : (start mid last : DialogState) (a b c : Store)
    (old written sent : Option (List ℕ)) (came rest left said : List ℕ) (silent : Bool)
    (first : Option (Result State ExchangeFault)) → DrainedSoFar start a b old written came rest mid
    → Talks mid b c rest said left (ending_of last.code silent first) last
    → None ≡ stop_of last.code silent first → Appends written sent said
    → DrainedSoFar start a c old sent came left last
drains-more start mid last a b c old written sent came rest left said silent first so talks e
    appends =
    let goes = goes-so last.code silent first e in
    let on : Talks mid b c rest said left None last =
    subst (λ (x : Option (Result PeerEnded ServeFault)). Talks mid b c rest said left x last)
    goes.2 talks in (
      so.0 ++ said,
      Appends-trans old written sent so.0 said so.1 appends,
      talks-then start mid last a b c came so.0 rest said left None so.2 on,
    )

answers-so : (start last : DialogState) (a c : Store) (came out left : List ℕ)
    (end : Result (Option PeerEnded) ServeFault) → IsStop end
    → Talks start a c came out left (ending_in end) last
    → AnswersAll start a c came out left end last
answers-so start last a c came out left (Ok None) stop talks = talks
answers-so start last a c came out left (Ok (Some p)) stop talks = talks
answers-so start last a c came out left (Err OutOfMemory) stop talks = talks
answers-so start last a c came out left (Err Read) stop talks = absurd stop
answers-so start last a c came out left (Err Write) stop talks = absurd stop
answers-so start last a c came out left (Err TooLong) stop talks = absurd stop

pub drains-end : (start mid last : DialogState) (a b c : Store) (old written sent : Option (List ℕ))
    (came rest left said : List ℕ) (silent : Bool) (first : Option (Result State ExchangeFault))
    (end : Result (Option PeerEnded) ServeFault)
    → DrainedSoFar start a b old written came rest mid
    → Talks mid b c rest said left (ending_of last.code silent first) last
    → Some end ≡ stop_of last.code silent first → Appends written sent said
    → SentAllReplies start a c old sent came left end last
drains-end start mid last a b c old written sent came rest left said silent first end so talks e
    appends =
    let stops = stops-so last.code silent first end e in
    let all = talks-then start mid last a b c came so.0 rest said left
    (ending_of last.code silent first) so.2 talks in (
      so.0 ++ said,
      Appends-trans old written sent so.0 said so.1 appends,
      answers-so start last a c came (so.0 ++ said) left end stops.stop
          (subst (λ (x : Option (Result PeerEnded ServeFault)).
          Talks start a c came (so.0 ++ said) left x last) stops.is all),
    )

pub drains-part : (start mid last : DialogState) (a b c : Store)
    (old written sent : Option (List ℕ)) (came rest left said : List ℕ)
    (ending : Option (Result PeerEnded ServeFault)) (result : Result (Option PeerEnded) ServeFault)
    → DrainedSoFar start a b old written came rest mid → Talks mid b c rest said left ending last
    → AppendsPart written sent said → result ≡ Err Write
    → SentAllReplies start a c old sent came left result last
drains-part start mid last a b c old written sent came rest left said ending result so talks part is
    =
    let all = talks-then start mid last a b c came so.0 rest said left ending so.2 talks in
    subst (λ (x : Result (Option PeerEnded) ServeFault).
    SentAllReplies start a c old sent came left x last) (sym is) (
      so.0 ++ part.0,
      Appends-trans old written sent so.0 part.0 so.1 part.3,
      (
        part.1,
        ending,
        subst (λ (o : List ℕ). Talks start a c came o left ending last)
            (ap (λ (o : List ℕ). so.0 ++ o) part.2 ∙ sym (append_assoc so.0 part.0 part.1)) all,
      ),
    )

-- ---- what is left

pub ready-more : (mid last : DialogState) (frames left : ReceivedFrames) (code : Option ℕ)
    (silent : Bool) (first : Option (Result State ExchangeFault)) → None ≡ stop_of code silent first
    → last.started ≡ true → LeavesOne frames left mid last first
    → IsReady last × TakesOne frames left mid last
ready-more mid last frames left code silent first e started leaves =
    let goes = goes-so code silent first e in
    let one : TakesOne frames left mid last =
    subst (λ (f : Option (Result State ExchangeFault)). LeavesOne frames left mid last f) goes.1
    leaves in
    let counted = one.counted in
    let few = one.few in
    (record { started = started; few = omega (arith, counted, few) }, one)

pub no-less-more : (start mid last : DialogState) (frames held left : ReceivedFrames)
    → IsNoLess frames held start mid → TakesOne held left mid last → IsNoLess frames left start last
no-less-more start mid last frames held left less one =
    let counted = one.counted in
    let most = one.most in
    omega (arith, less, counted, most)

pub leaves-end : (start mid last : DialogState) (frames held left : ReceivedFrames)
    (code : Option ℕ) (silent : Bool) (first : Option (Result State ExchangeFault))
    (end : Result (Option PeerEnded) ServeFault) → Some end ≡ stop_of code silent first
    → LeavesOne held left mid last first → IsReady mid → held.failed ≡ false
    → IsNoLess frames held start mid → LeavesAll frames left start last end
leaves-end start mid last frames held left code silent first end e leaves ready sound less =
    go end (stops-so code silent first end e)
  where
    go : (x : Result (Option PeerEnded) ServeFault) → Stops (ending_of code silent first) first x
        → LeavesAll frames left start last x
    go (Ok None) s =
        let none : LeavesOne held left mid last None =
        subst (λ (f : Option (Result State ExchangeFault)). LeavesOne held left mid last f)
        (s.none refl) leaves in
        let drained : IsDrained frames held start mid =
        record { sound = sound; short = none.0; no_less = less; ready = ready } in
        subst (λ (h : ReceivedFrames). IsDrained frames h start last) (sym none.1)
        (subst (λ (t : DialogState). IsDrained frames held start t) (sym none.2) drained)
    go (Ok (Some parted.EndOfInput)) s = absurd s.stop
    go (Ok (Some parted.Done)) s = tt
    go (Ok (Some (parted.Refused n))) s = tt
    go (Ok (Some (parted.Failed fault))) s = tt
    go (Err Read) s = absurd s.stop
    go (Err Write) s = tt
    go (Err TooLong) s = tt
    go (Err OutOfMemory) s = tt

-- ---- the whole dialog

meets-first : (start : DialogState) (a : Store) (unread written : Option (List ℕ)) (first : List ℕ)
    → MeetsSoFar start a a first unread unread written written first start
meets-first start a unread written first = record {
  came = [];
  out = [];
  read = Consumes-nil unread;
  written = Appends-nil written;
  talks = subst (λ (c : List ℕ). Talks start a a c [] first None start) (sym (append-nil first))
      (talks-start start a first);
}

pub meets-start : (start : DialogState) (a : Store) (unread written : Option (List ℕ))
    (first : List ℕ) (frames fed : ReceivedFrames) → frames ≡ no_frames
    → fed ≡ record frames { waiting = frames.waiting ++ first }
    → MeetsSoFar start a a first unread unread written written fed.waiting start
meets-start start a unread written first frames fed is more =
    let waits : fed.waiting ≡ first =
    ap (λ (h : ReceivedFrames). h.waiting) more
    ∙ ap (λ (h : ReceivedFrames). h.waiting ++ first) is in
    subst (λ (w : List ℕ). MeetsSoFar start a a first unread unread written written w start)
    (sym waits) (meets-first start a unread written first)

pub starts-short : (frames fed : ReceivedFrames) (first : List ℕ) → frames ≡ no_frames
    → fed ≡ record frames { waiting = frames.waiting ++ first } → length first < 8
    → (fed.failed ≡ false) × (frame_header fed.waiting ≡ Ok None)
starts-short frames fed first is more few =
    let waits : fed.waiting ≡ first =
    ap (λ (h : ReceivedFrames). h.waiting) more
    ∙ ap (λ (h : ReceivedFrames). h.waiting ++ first) is in (
      ap (λ (h : ReceivedFrames). h.failed) more ∙ ap (λ (h : ReceivedFrames). h.failed) is,
      subst (λ (w : List ℕ). frame_header w ≡ Ok None) (sym waits) (few-cut first few),
    )

-- more bytes came
meets-more : (start last : DialogState) (a b : Store) (first : List ℕ)
    (unread left rest old written : Option (List ℕ)) (frames piece : List ℕ)
    → MeetsSoFar start a b first unread left old written frames last → Consumes left rest piece
    → MeetsSoFar start a b first unread rest old written (frames ++ piece) last
meets-more start last a b first unread left rest old written frames piece so read = record {
  came = so.came ++ piece;
  out = so.out;
  read = Consumes-trans unread left rest so.came piece so.read read;
  written = so.written;
  talks = subst (λ (c : List ℕ). Talks start a b c so.out (frames ++ piece) None last)
      (append_assoc first so.came piece) (talks-more start last a b
      (first ++ so.came) so.out frames piece so.talks);
}

pub meets-fed : (start last : DialogState) (a b : Store) (first : List ℕ)
    (unread left rest old written : Option (List ℕ)) (frames fed : ReceivedFrames) (piece : List ℕ)
    → MeetsSoFar start a b first unread left old written frames.waiting last
    → Consumes left rest piece
    → fed ≡ record frames { waiting = frames.waiting ++ piece }
    → MeetsSoFar start a b first unread rest old written fed.waiting last
meets-fed start last a b first unread left rest old written frames fed piece so read is =
    subst (λ (w : List ℕ). MeetsSoFar start a b first unread rest old written w last)
    (sym (ap (λ (h : ReceivedFrames). h.waiting) is))
    (meets-more start last a b first unread left rest old written frames.waiting piece so read)

pub meets-drained : (start mid last : DialogState) (a b c : Store) (first : List ℕ)
    (unread left old written sent : Option (List ℕ)) (frames next : List ℕ)
    → MeetsSoFar start a b first unread left old written frames mid
    → SentAllReplies mid b c written sent frames next (Ok None) last
    → MeetsSoFar start a c first unread left old sent next last
meets-drained start mid last a b c first unread left old written sent frames next so drained =
    record {
      came = so.came;
      out = so.out ++ drained.0;
      read = so.read;
      written = Appends-trans old written sent so.out drained.0 so.written drained.1;
      talks = talks-then start mid last a b c
          (first ++ so.came) so.out frames drained.0 next None so.talks drained.2;
    }

pub meets-end : (start last : DialogState) (a b : Store) (first : List ℕ)
    (unread left rest old written : Option (List ℕ)) (frames bytes : List ℕ)
    → MeetsSoFar start a b first unread left old written frames last → Consumes left rest bytes
    → bytes ≡ [] → IsAtEnd rest
    → frame_header frames ≡ Ok None
    → MeetsTo start a b first unread rest old written (Ok parted.EndOfInput) last
meets-end start last a b first unread left rest old written frames bytes so read none end short =
    record {
      came = so.came;
      out = so.out;
      read = subst (λ (l : List ℕ). Consumes unread rest l) (append-nil so.came)
          (Consumes-trans unread left rest so.came [] so.read
          (subst (λ (l : List ℕ). Consumes left rest l) none read));
      over = λ q. end;
      written = so.written;
      speaks = (frames, short, so.talks);
    }

pub meets-failed : (start last : DialogState) (a b : Store) (first : List ℕ)
    (unread left rest old written : Option (List ℕ)) (frames : List ℕ)
    (result : Result PeerEnded ServeFault)
    → MeetsSoFar start a b first unread left old written frames last → Keeps left rest
    → frame_header frames ≡ Ok None → result ≡ Err Read
    → MeetsTo start a b first unread rest old written result last
meets-failed start last a b first unread left rest old written frames result so kept short is =
    subst (λ (x : Result PeerEnded ServeFault).
    MeetsTo start a b first unread rest old written x last) (sym is)
    (record {
      came = so.came;
      out = so.out;
      read =
          Consumes-kept unread left rest so.came so.read kept;
      over = λ q. absurd (cc);
      written =
          so.written;
      speaks = (frames, short, so.talks);
    })

-- memory for what came was wanting
meets-want : (start last : DialogState) (a b : Store) (first : List ℕ)
    (unread left old written sent : Option (List ℕ)) (frames : List ℕ)
    (result : Result PeerEnded ServeFault)
    → MeetsSoFar start a b first unread left old written frames last
    → TellsWant written sent result → MeetsTo start a b first unread left old sent result last
meets-want start last a b first unread left old written sent frames result so tells =
    go result tells
  where
    all : Talks start a b (first ++ so.came) (so.out ++ end_frame 4) frames
        (Some (Ok (parted.Failed exchange.OutOfMemory))) last
    all = talks-starved start last a b (first ++ so.came) so.out frames so.talks

    go : (r : Result PeerEnded ServeFault) → TellsWant written sent r
        → MeetsTo start a b first unread left old sent r last
    go (Ok p) t =
        subst (λ (x : PeerEnded). MeetsTo start a b first unread left old sent (Ok x) last)
        (sym {b = parted.Failed exchange.OutOfMemory} t.0)
        (record {
          came = so.came;
          out = so.out ++ end_frame 4;
          read = so.read;
          over = λ q. absurd (cc);
          written = Appends-trans old written sent so.out (end_frame 4) so.written t.1;
          speaks = (frames, all);
        })
    go (Err Read) t = absurd t
    go (Err Write) t = record {
      came = so.came;
      out = so.out ++ t.0;
      read = so.read;
      over = λ q. absurd (cc);
      written = Appends-trans old written sent so.out t.0 so.written t.3;
      speaks = (
        t.1,
        frames,
        Some (Ok (parted.Failed exchange.OutOfMemory)),
        subst (λ (o : List ℕ). Talks start a b (first ++ so.came) o frames
            (Some (Ok (parted.Failed exchange.OutOfMemory))) last)
            (ap (λ (o : List ℕ). so.out ++ o) t.2 ∙ sym (append_assoc so.out t.0 t.1)) all,
      );
    }
    go (Err TooLong) t = absurd t
    go (Err OutOfMemory) t = absurd t

pub meets-starved : (start last : DialogState) (a b : Store) (first : List ℕ)
    (unread left rest old written sent : Option (List ℕ)) (frames piece : List ℕ)
    (result : Result PeerEnded ServeFault)
    → MeetsSoFar start a b first unread left old written frames last
    → Consumes left rest piece → TellsWant written sent result
    → MeetsTo start a b first unread rest old sent result last
meets-starved start last a b first unread left rest old written sent frames piece result so read
    tells =
    meets-want start last a b first unread rest old written sent (frames ++ piece) result
    (meets-more start last a b first unread left rest old written frames piece so read) tells

pub meets-unfed : (start : DialogState) (a : Store) (unread written sent : Option (List ℕ))
    (first : List ℕ) (result : Result PeerEnded ServeFault) → TellsWant written sent result
    → MeetsTo start a a first unread unread written sent result start
meets-unfed start a unread written sent first result tells =
    meets-want start start a a first unread unread written written sent first result
    (meets-first start a unread written first) tells

-- the dialog ended
pub meets-stop : (start mid last : DialogState) (a b c : Store) (first : List ℕ)
    (unread left old written sent : Option (List ℕ)) (held next : ReceivedFrames) (p : PeerEnded)
    → MeetsSoFar start a b first unread left old written held.waiting mid
    → SentAllReplies mid b c written sent held.waiting next.waiting (Ok (Some p)) last
    → LeavesAll held next mid last (Ok (Some p))
    → MeetsTo start a c first unread left old sent (Ok p) last
meets-stop start mid last a b c first unread left old written sent held next p so drained leaves =
    record {
      came = so.came;
      out = so.out ++ drained.0;
      read = so.read;
      over = λ q. absurd (own p leaves q);
      written = Appends-trans old written sent so.out drained.0 so.written drained.1;
      speaks = speaks p leaves (talks-then start mid last a b c
          (first ++ so.came) so.out held.waiting drained.0 next.waiting
          (Some (Ok p)) so.talks drained.2);
    }
  where
    own : (p : PeerEnded) → LeavesAll held next mid last (Ok (Some p))
        → ◌≡◌ {A = Result PeerEnded ServeFault} (Ok p) (Ok parted.EndOfInput) → ⊥
    own parted.EndOfInput leaves q = leaves
    own parted.Done leaves q = cc
    own (parted.Refused n) leaves q = cc
    own (parted.Failed fault) leaves q = cc

    speaks : (p : PeerEnded) → LeavesAll held next mid last (Ok (Some p))
        → Talks start a c (first ++ so.came) (so.out ++ drained.0) next.waiting (Some (Ok p)) last
        → Speaks start a c (first ++ so.came) (so.out ++ drained.0) (Ok p) last
    speaks parted.EndOfInput leaves talks = absurd leaves
    speaks parted.Done leaves talks = (next.waiting, talks)
    speaks (parted.Refused n) leaves talks = (next.waiting, talks)
    speaks (parted.Failed fault) leaves talks = (next.waiting, talks)

-- a fault ended it
pub meets-fault : (start mid last : DialogState) (a b c : Store) (first : List ℕ)
    (unread left old written sent : Option (List ℕ)) (held next : ReceivedFrames)
    (fault : ServeFault) → MeetsSoFar start a b first unread left old written held.waiting mid
    → SentAllReplies mid b c written sent held.waiting next.waiting (Err fault) last
    → LeavesAll held next mid last (Err fault)
    → MeetsTo start a c first unread left old sent (Err fault) last
meets-fault start mid last a b c first unread left old written sent held next fault so drained
    leaves = record {
      came = so.came;
      out = so.out ++ drained.0;
      read = so.read;
      over = λ q. absurd (cc);
      written = Appends-trans old written sent so.out drained.0 so.written drained.1;
      speaks = speaks fault leaves drained.2;
    }
  where
    speaks : (f : ServeFault) → LeavesAll held next mid last (Err f)
        → AnswersAll mid b c held.waiting drained.0 next.waiting (Err f) last
        → Speaks start a c (first ++ so.came) (so.out ++ drained.0) (Err f) last
    speaks Read leaves answers = absurd leaves
    speaks Write leaves answers = (
      answers.0,
      next.waiting,
      answers.1,
      subst (λ (o : List ℕ). Talks start a c (first ++ so.came) o next.waiting answers.1 last)
          (sym (append_assoc so.out drained.0 answers.0))
          (talks-then start mid last a b c (first ++ so.came) so.out held.waiting
          (drained.0 ++ answers.0) next.waiting answers.1 so.talks answers.2),
    )
    speaks TooLong leaves answers = (
      next.waiting,
      talks-then start mid last a b c
          (first ++ so.came) so.out held.waiting drained.0 next.waiting
          (Some (Err TooLong)) so.talks answers,
    )
    speaks OutOfMemory leaves answers = (
      next.waiting,
      talks-then start mid last a b c
          (first ++ so.came) so.out held.waiting drained.0 next.waiting
          (Some (Err OutOfMemory)) so.talks answers,
    )
