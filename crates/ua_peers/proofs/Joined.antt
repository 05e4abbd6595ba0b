-- Two ends of a dialog over a connection: where the one that began comes to its end, both hold the
-- join.
use Rattle.std.proofs.Common.{◌≡◌, ◌≢◌, ◌⊎◌, ℕ, suc, ◌+◌, ◌^◌, ◌<◌, Bool, true, false, List, [], ◌∷◌, ◌++◌, map, take, drop, length, Option, Some, None, Result, Ok, Err, refl, sym, ◌∙◌, ap, subst, append_assoc, arith, inl, inr}
use Rattle.std.specs.Prelude.{nat_le}
use Rattle.std.specs.List.{flat_map}
use Rattle.std.specs.Option.{option_map_or}
use Rattle.std.specs.Result.{result_unwrap_or}
use Rattle.std.specs.Int.{w32}
use Rattle.std.proofs.Math.Seq.{take-append_seam, drop-append_seam}
use Rattle.std.proofs.lemmas.Bool.{true≢false}
use Rattle.std.proofs.lemmas.List.{append-nil, take_all}
use Rattle.std.proofs.lemmas.Option.{same_Some}
use Rattle.ua_binary.specs.Binary.{unsigned}
use Rattle.records.specs.Contents.{Content, AreCompatible, join, merged}
use Rattle.records.specs.declared.record.Record.{Record}
use Rattle.archive.specs.Store.{Store, IsLawfulContent}
use Rattle.exchange.specs.declared.fault.ExchangeFault.{ExchangeFault}
use Rattle.exchange.specs.declared.fault.ExchangeFault.TheVariants as exchange
use Rattle.exchange.specs.declared.message.FrameKind.{FrameKind}
use Rattle.exchange.specs.declared.message.FrameKind.TheVariants as kind
use Rattle.exchange.specs.declared.message.Message.TheVariants.{Asks, Carries, Ends}
use Rattle.exchange.specs.declared.message.State.{State}
use Rattle.exchange.specs.declared.message.State.TheVariants.{Pulling, Pushing, Serving, Done, Failed}
use Rattle.exchange.specs.Messages.{Party, Header, Message}
use Rattle.exchange.specs.Frames.{end_frame, frame_header, frame_letters, kind_of, frame_body_of, frame_of, message_at, HasFrame}
use Rattle.exchange.specs.Dialogs.{asking_frame, Turn, Way, Clear, Unread, Stopped, Starved, Met, DialogState, failing, is_over, is_due, unfit, received, records_read, learned_at, turned, answered_to, title_by, party_of, IsHeld, Writes}
use Rattle.exchange.specs.Fault.{exchange_number}
use Rattle.exchange.specs.Streams.{FrameContent, AreFrames}
use Rattle.exchange.proofs.DialogsParts.{bytes_of}
use Rattle.exchange.specs.Meetings.{IsBetween, AreJoined, CanMeet, checked_title}
use Rattle.exchange.proofs.FrameLemmas.{read_own, cut_own, body_own}
use Rattle.exchange.proofs.StreamLemmas.{cut_append}
use Rattle.exchange.proofs.LeftLemmas.{merged_none, answered_left}
use Rattle.exchange.proofs.DialogLemmas.{Sent, Replied, Answers, responds, initiates, meets, between_first}
use Rattle.exchange.proofs.ConverseLemmas.{IsParty, sent_spelled, replied_spelled, sent_checked, replied_checked}
use Rattle.counted_io.specs.declared.fault.ServeFault.{ServeFault}
use Rattle.ua_peers.specs.declared.peers.PeerEnded.{PeerEnded}
use Rattle.ua_peers.specs.declared.peers.PeerEnded.TheVariants as parted
use Rattle.ua_peers.specs.Calling.{calling}
use Rattle.ua_peers.specs.Wires.{IsStartOf}
use Rattle.ua_peers.specs.Peers.{Talks, responding, side_of, Taken, Side, turn_of, side_after, after_all, AreAnswered, AreOpen, failed_as, ended_as, is_silent, IsEnd}
use Rattle.ua_peers.proofs.PeersParts.{is_open}

-- ---- the frame that stands first

frame_long : (kind : FrameKind) (body : List ℕ)
    → length (frame_letters kind ++ ((unsigned w32).canon (8 + length body) ++ body))
    ≡ 8 + length body
unfolding unsigned
frame_long kind.Vector body = omega arith
frame_long kind.Records body = omega arith
frame_long kind.End body = omega arith

same_front : {X : Type 0} (xs ys cs bs : List X) → xs ++ cs ≡ ys ++ bs → length xs ≡ length ys
    → (xs ≡ ys) × (cs ≡ bs)
same_front xs ys cs bs e n = (
  sym (take-append_seam xs cs) ∙ (ap (take (length xs)) e
      ∙ (ap (λ k. take k (ys ++ bs)) n ∙ take-append_seam ys bs)),
  sym (drop-append_seam xs cs) ∙ (ap (drop (length xs)) e
      ∙ (ap (λ k. drop k (ys ++ bs)) n ∙ drop-append_seam ys bs)),
)

settled : (bytes : List ℕ) (h : Header) → frame_header bytes ≡ Ok (Some h)
    → frame_header bytes ≢ Ok None
settled bytes h e none = let x = sym e ∙ none in cc

whole_in : (bytes more : List ℕ) (h : Header) → frame_header bytes ≡ Ok (Some h)
    → frame_header (bytes ++ more) ≡ Ok (Some h)
whole_in bytes more h e = cut_append bytes more (settled bytes h e) ∙ e

-- a message that went out, and what came at the other end
pub first_frame : (m : Message) (piece : FrameContent) (pieces : List FrameContent)
    (came rest later more : List ℕ) → HasFrame m → AreFrames came (piece ∷ pieces) rest
    → frame_of m ++ more ≡ came ++ later
    → (piece.kind ≡ kind_of m) × (piece.body ≡ frame_body_of m) × (came' : List ℕ)
    × AreFrames came' pieces rest × (more ≡ came' ++ later)
first_frame m piece pieces came rest later more is frames e =
    let chunk : List ℕ = frames.0 in
    let out : frame_of m ++ more ≡ frames.0 ++ (frames.1 ++ later) =
    e ∙ (ap (λ (l : List ℕ). l ++ later) frames.2 ∙ append_assoc frames.0 frames.1 later) in
    let own : Header = record { kind = kind_of m; size = 8 + length (frame_body_of m) } in
    let other : Header = record { kind = piece.kind; size = length frames.0 } in
    let same : ◌≡◌ {A = Result (Option Header) ExchangeFault} (Ok (Some other)) (Ok (Some own)) =
    sym (whole_in frames.0 (frames.1 ++ later) other frames.3.whole)
    ∙ (ap frame_header (sym out) ∙ whole_in (frame_of m) more own (cut_own m is)) in
    let header : other ≡ own = cc in
    let size : length frames.0 ≡ 8 + length (frame_body_of m) =
    ap (λ (h : Header). h.size) header in
    let long : length (frame_of m) ≡ length frames.0 =
    frame_long (kind_of m) (frame_body_of m) ∙ sym size in
    let parts = same_front (frame_of m) frames.0 more (frames.1 ++ later) out long in
    let body : drop 8 (frame_of m) ≡ frame_body_of m =
    ap (drop 8) (sym (take_all (8 + length (frame_body_of m)) (frame_of m)
    (omega (arith, frame_long (kind_of m) (frame_body_of m))))) ∙ body_own m in (
      ap (λ (h : Header). h.kind) header,
      sym frames.3.body ∙ (ap (drop 8) (sym parts.0) ∙ body),
      frames.1,
      frames.4,
      parts.1,
    )

-- where nothing went out no frame came
pub no_frame : (piece : FrameContent) (pieces : List FrameContent) (came rest later : List ℕ)
    → AreFrames came (piece ∷ pieces) rest → [] ≡ came ++ later → ⊥
unfolding frame_header
no_frame piece pieces came rest later frames e =
    go frames.0 frames.3.whole (e ∙
    (ap (λ (l : List ℕ). l ++ later) frames.2 ∙ append_assoc frames.0 frames.1 later))
  where
    go : (chunk : List ℕ) → frame_header chunk
        ≡ Ok (Some (record { kind = piece.kind; size = length chunk }))
        → [] ≡ chunk ++ (frames.1 ++ later) → ⊥
    go [] whole none = cc
    go (x ∷ xs) whole none = cc

-- ---- one end takes a message

-- a fault was told, or memory for that was wanting
abbrev IsFaulty : Result State ExchangeFault → List ℕ → Type 0
IsFaulty result said = (fault : ExchangeFault) × (result ≡ Err fault)
    × ((said ≡ []) ⊎ ((number : ℕ) × (suc number < 2 ^ 32) × (said ≡ end_frame (suc number))))

pub numbered : (fault : ExchangeFault)
    → (number : ℕ) × (suc number < 2 ^ 32) × (exchange_number fault ≡ suc number)
numbered exchange.Frame = (0, omega arith, refl)
numbered exchange.WrongArchive = (1, omega arith, refl)
numbered (exchange.Learn learned cause) = (2, omega arith, refl)
numbered exchange.OutOfMemory = (3, omega arith, refl)
numbered exchange.SelfPeer = (4, omega arith, refl)
numbered (exchange.Store fault) = (5, omega arith, refl)
numbered exchange.TooLong = (6, omega arith, refl)
numbered exchange.PeerFormat = (7, omega arith, refl)
numbered exchange.AheadOfClock = (8, omega arith, refl)
numbered exchange.NotAdmitted = (9, omega arith, refl)
numbered exchange.GivenTwice = (10, omega arith, refl)

failing_said : (R : Content) (fault : ExchangeFault) (result : Result State ExchangeFault)
    (said : List ℕ) → Writes (failing R fault) result [] said → IsFaulty result said
failing_said R fault result said (inl e) = let n = numbered fault in
    (fault, e.0, inr (n.0, n.1, e.1 ∙ ap end_frame n.2))
failing_said R fault result said (inr e) = (exchange.OutOfMemory, e.2, inl e.3)

fit_or : (s : DialogState) (k : FrameKind) → is_over s.state ≡ false → is_due s.state k ≡ true
    → (unfit s k ≡ None) ⊎ (unfit s k ≡ Some exchange.TooLong)
fit_or s k over due = go (nat_le 1000000 s.taken) refl
  where
    go : (b : Bool) → nat_le 1000000 s.taken ≡ b
        → (unfit s k ≡ None) ⊎ (unfit s k ≡ Some exchange.TooLong)
    go true e = inr (rw (over, e) refl)
    go false e = inl (rw (over, e, due) refl)

module _ (p : Party) (side : Side) (t : Taken) (m : Message) (kind : t.frame.kind ≡ kind_of m)
    (body : t.frame.body ≡ frame_body_of m) where
  pub got_by : received p side.standing t.frame.kind t.frame.body
      ≡ received p side.standing (kind_of m) (frame_body_of m)
  got_by = ap (λ k. received p side.standing k t.frame.body) kind
      ∙ ap (received p side.standing (kind_of m)) body

  turn_by : (r : Result Message ExchangeFault)
      → received p side.standing (kind_of m) (frame_body_of m) ≡ r
      → turn_of p side t ≡ answered_to p side.standing.state side.content t.way r
  turn_by r e = ap (answered_to p side.standing.state side.content t.way) (got_by ∙ e)

  -- it makes of it what it makes of the message, or a fault comes
  takes_as : HasFrame m → checked_title p m → is_over side.standing.state ≡ false
      → is_due side.standing.state (kind_of m) ≡ true → Writes (turn_of p side t) t.result [] t.said
      → ((turn_of p side t ≡ turned p side.standing.state side.content m)
      × Writes (turned p side.standing.state side.content m) t.result [] t.said)
      ⊎ IsFaulty t.result t.said
  takes_as spelled checked over due writes = elim (fit_or side.standing (kind_of m) over due) [
    | inl fit ↦ by_way t.way (turn_by (Ok m)
        (ap (λ (o : Option ExchangeFault).
        option_map_or (λ f. Err f) o (message_at p (kind_of m) (frame_body_of m))) fit
        ∙ read_own p m spelled checked))
    | inr full ↦ inr (refused t.way (turn_by (Err exchange.TooLong)
        (ap (λ (o : Option ExchangeFault).
        option_map_or (λ f. Err f) o (message_at p (kind_of m) (frame_body_of m))) full)))
  ]
    where
      faulty : (X : Content) (fault : ExchangeFault) → turn_of p side t ≡ failing X fault
          → IsFaulty t.result t.said
      faulty X fault e = failing_said X fault t.result t.said
          (subst (λ (x : Turn). Writes x t.result [] t.said) e writes)

      by_way : (w : Way) → turn_of p side t
          ≡ answered_to p side.standing.state side.content w (Ok m)
          → ((turn_of p side t ≡ turned p side.standing.state side.content m)
          × Writes (turned p side.standing.state side.content m) t.result [] t.said)
          ⊎ IsFaulty t.result t.said
      by_way Clear e = inl (e, subst (λ (x : Turn). Writes x t.result [] t.said) e writes)
      by_way Unread e = inr (faulty _ _ e)
      by_way (Stopped k fault) e = inr (faulty _ _ e)
      by_way Starved e = inr (faulty _ _ e)
      by_way (Met fault) e = inr (faulty _ _ e)

      refused : (w : Way) → turn_of p side t
          ≡ answered_to p side.standing.state side.content w (Err exchange.TooLong)
          → IsFaulty t.result t.said
      refused Clear e = faulty _ _ e
      refused Unread e = faulty _ _ e
      refused (Stopped k fault) e = faulty _ _ e
      refused Starved e = faulty _ _ e
      refused (Met fault) e = faulty _ _ e

-- an answer was written
clear_so : (turn : Turn) (result : Result State ExchangeFault) (said : List ℕ) (s : State)
    (answer : Option Message) → turn.result ≡ Ok s → turn.reply ≡ answer
    → Writes turn result [] said → (result ≡ Ok s) × (said ≡ bytes_of answer)
clear_so turn result said s answer fine reply (inl e) = (e.0 ∙ fine, e.1 ∙ ap bytes_of reply)
clear_so turn result said s answer fine reply (inr e) = absurd (let x = sym fine ∙ e.1 in cc)

-- the end of the dialog is due in each state that isn't over
end_due : (s : State) → is_over s ≡ false → is_due s kind.End ≡ true
end_due Pulling over = refl
end_due Pushing over = refl
end_due Serving over = refl
end_due Done over = absurd (true≢false over)
end_due Failed over = absurd (true≢false over)

-- an end that is told a fault fails
told_end : (p : Party) (s : State) (R : Content) (number : ℕ) → is_over s ≡ false
    → (turned p s R (Ends (suc number))).result ≡ Ok Failed
told_end p Pulling R number over = refl
told_end p Pushing R number over = refl
told_end p Serving R number over = refl
told_end p Done R number over = absurd (true≢false over)
told_end p Failed R number over = absurd (true≢false over)

-- the end that began goes on, or is done
abbrev IsFine : Result State ExchangeFault → Type 0
IsFine result = (is_open result ≡ true) ⊎ (result ≡ Ok Done)

not_fine : (result : Result State ExchangeFault) (said : List ℕ) → IsFine result
    → IsFaulty result said → ⊥
not_fine result said (inl on) faulty = true≢false (sym on ∙ ap is_open faulty.1)
not_fine result said (inr done) faulty = let x = sym done ∙ faulty.1 in cc

fails_not_fine : (result : Result State ExchangeFault) → IsFine result → result ≡ Ok Failed → ⊥
fails_not_fine result (inl on) e = true≢false (sym on ∙ ap is_open e)
fails_not_fine result (inr done) e = let x = sym done ∙ e in cc

no_end_told : (p : Party) (side : Side) (t : Taken) (number : ℕ) → suc number < 2 ^ 32
    → t.frame.kind ≡ kind.End → t.frame.body ≡ frame_body_of (Ends (suc number))
    → is_over side.standing.state ≡ false
    → Writes (turn_of p side t) t.result [] t.said → IsFine t.result → ⊥
no_end_told p side t number small kind body over writes fine =
    elim (takes_as p side t (Ends (suc number)) kind body small tt over
    (end_due side.standing.state over) writes) [
      | inl clear ↦
          let so = clear_so (turned p side.standing.state side.content (Ends (suc number))) t.result
          t.said Failed _ (told_end p side.standing.state side.content number over) refl clear.1
          in
          fails_not_fine t.result fine so.0
      | inr faulty ↦ not_fine t.result t.said fine faulty
    ]

-- ---- how the other end's dialog ends

-- nothing more was written, or one frame that tells a fault
abbrev pub IsLastWord : List ℕ → Type 0
IsLastWord beside = (beside ≡ []) ⊎ ((number : ℕ) × (suc number < 2 ^ 32)
    × (beside ≡ end_frame (suc number)))

abbrev pub GoesOn : List Taken → List ℕ → Type 0
GoesOn [] beside = IsLastWord beside
GoesOn (y ∷ ys) beside = ((is_open y.result ≡ true) × GoesOn ys beside)
    ⊎ ((ys ≡ []) × (beside ≡ []))

open_goes : (ys : List Taken) (beside : List ℕ) → AreOpen ys → IsLastWord beside → GoesOn ys beside
open_goes [] beside on word = word
open_goes (y ∷ ys) beside on word = inl (on.0, open_goes ys beside on.1 word)

last_goes : (before : List Taken) (last : Taken) → AreOpen before
    → GoesOn (before ++ (last ∷ [])) []
last_goes [] last on = inr (refl, refl)
last_goes (y ∷ ys) last on = inl (on.0, last_goes ys last on.1)

pub goes_by : (ys : List Taken) (code : Option ℕ) (rest beside : List ℕ)
    (ending : Option (Result PeerEnded ServeFault)) → IsEnd ys code rest beside ending
    → GoesOn ys beside
goes_by ys code rest beside None e = open_goes ys beside e.0 (inl e.1)
goes_by ys code rest beside (Some ending) e = elim e [
  | inl f ↦ subst (GoesOn ys) (sym f.1) (subst (λ (l : List Taken). GoesOn l []) (sym f.0.all)
      (last_goes f.0.before f.0.last f.0.goes))
  | inr q ↦ elim q [
    | inl b ↦ open_goes ys beside b.goes (elim b.told [
      | inl told ↦ inr (0, omega arith, told.1)
      | inr silent ↦ inl silent.1
    ])
    | inr w ↦ open_goes ys beside w.goes (inr (3, omega arith, w.told))
  ]
]

-- the end that began came to its end by its last frame
pub done_by : (xs : List Taken) (code : Option ℕ) (rest beside : List ℕ)
    → IsEnd xs code rest beside (Some (Ok parted.Done))
    → (before : List Taken) × (last : Taken) × (xs ≡ before ++ (last ∷ [])) × AreOpen before
    × (last.result ≡ Ok Done) × (beside ≡ [])
done_by xs code rest beside e = elim e [
  | inl f ↦ (
    f.0.before,
    f.0.last,
    f.0.all,
    f.0.goes,
    done f.0.last.result (is_silent f.0.last.said) f.0.ends,
    f.1,
  )
  | inr q ↦ elim q [
    | inl b ↦ absurd (failed (is_silent beside) b.fault b.ends)
    | inr w ↦ absurd (let none = w.ends in cc)
  ]
]
  where
    failed : (silent : Bool) (fault : ExchangeFault) → failed_as silent fault ≡ Ok parted.Done → ⊥
    failed true fault is = cc
    failed false fault is = cc

    done : (result : Result State ExchangeFault) (silent : Bool)
        → ended_as code silent result ≡ Some (Ok parted.Done) → result ≡ Ok Done
    done (Ok Done) silent is = refl
    done (Ok Failed) silent is = absurd (cc)
    done (Ok Pulling) silent is = absurd (cc)
    done (Ok Pushing) silent is = absurd (cc)
    done (Ok Serving) silent is = absurd (cc)
    done (Err fault) silent is = absurd (failed silent fault (same_Some _ _ is))

-- ---- both ends

module _ (p q : Party) (R S : Content) (lawful : IsLawfulContent R) (lawful' : IsLawfulContent S)
    (compatible : AreCompatible R S) (id : p.id ≡ q.id) (apart : p.own ≡ q.own → ⊥)
    (party : IsParty p) (party' : IsParty q) where
  sent_open : (A B : Content) (n : ℕ) (s : State) (m : Message) → Sent p R S A B n s m
      → (s ≡ Done → ⊥) → is_over s ≡ false
  sent_open A B n Pulling m sent going = refl
  sent_open A B n Pushing m sent going = refl
  sent_open A B n Serving m sent going = refl
  sent_open A B n Done m sent going = absurd (going refl)
  sent_open A B n Failed m sent going = absurd sent

  replied_due : (A B : Content) (n : ℕ) (s : State) (m : Message) → Replied q R S A B n s m
      → is_due s (kind_of m) ≡ true
  replied_due A B n Pulling (Asks t) r = absurd r
  replied_due A B n Pulling (Carries t rs) r = refl
  replied_due A B n Pulling (Ends c) r = absurd r
  replied_due A B n Pushing (Asks t) r = refl
  replied_due A B n Pushing (Carries t rs) r = absurd r
  replied_due A B n Pushing (Ends c) r = absurd r
  replied_due A B n Serving m r = absurd r
  replied_due A B n Done m r = absurd r
  replied_due A B n Failed m r = absurd r

  serving_due : (k : FrameKind) → is_due Serving k ≡ true
  serving_due kind.Vector = refl
  serving_due kind.Records = refl
  serving_due kind.End = refl

  -- what the responder makes of a frame of the initiator, where the dialog isn't done
  module _ (a b : Side) (n : ℕ) (s : State) (m : Message) (one : IsBetween R S a.content)
      (other : IsBetween S R b.content) (sent : Sent p R S a.content b.content n s m)
      (serving : b.standing.state ≡ Serving)
      (y : Taken) (kind : y.frame.kind ≡ kind_of m) (body : y.frame.body ≡ frame_body_of m)
      (writes : Writes (turn_of q b y) y.result [] y.said) where
    taken_there : ((turn_of q b y ≡ turned q Serving b.content m)
        × Writes (turned q Serving b.content m) y.result [] y.said) ⊎ IsFaulty y.result y.said
    taken_there = subst (λ (x : State).
        ((turn_of q b y ≡ turned q x b.content m)
        × Writes (turned q x b.content m) y.result [] y.said) ⊎ IsFaulty y.result y.said) serving
        (takes_as q b y m kind body
        (sent_spelled p R S a.content b.content n s m party one.lawful sent)
        (sent_checked p q R S a.content b.content n s m id apart sent)
        (ap is_over serving) (ap (λ (x : State). is_due x (kind_of m)) serving
        ∙ serving_due (kind_of m)) writes)

  -- a frame without records leaves what is held
  keeps : (b : Side) (y : Taken) → records_read (received q b.standing y.frame.kind y.frame.body)
      ≡ [] → (side_after q b y).content ≡ b.content
  keeps b y none =
      let count : ℕ = learned_at q b.standing.state b.content y.way
      (received q b.standing y.frame.kind y.frame.body) in
      answered_left q b.standing.state b.content y.way
      (received q b.standing y.frame.kind y.frame.body)
      ∙ (ap (λ (rs : List Record).
      merged (take (learned_at q b.standing.state b.content y.way
      (received q b.standing y.frame.kind y.frame.body)) rs) b.content) none
      ∙ merged_none _ b.content)

  end_read : (b : Side) (y : Taken) (c : ℕ) → c < 2 ^ 32 → b.standing.state ≡ Serving
      → y.frame.kind ≡ kind.End → y.frame.body ≡ frame_body_of (Ends c)
      → records_read (received q b.standing y.frame.kind y.frame.body) ≡ []
  end_read b y c small serving same body =
      elim (fit_or b.standing kind.End (ap is_over serving)
      (ap (λ (s : State). is_due s kind.End) serving)) [
        | inl fit ↦ ap records_read (got_by q b y (Ends c) same body
            ∙ (ap (λ (o : Option ExchangeFault).
            option_map_or (λ f. Err f) o (message_at q kind.End (frame_body_of (Ends c)))) fit
            ∙ read_own q (Ends c) small tt))
        | inr full ↦ ap records_read (got_by q b y (Ends c) same body
            ∙ ap (λ (o : Option ExchangeFault).
            option_map_or (λ f. Err f) o (message_at q kind.End (frame_body_of (Ends c)))) full)
      ]

  -- the end of the dialog leaves what the responder holds, and nothing is taken behind it
  at_end : (a b : Side) (n : ℕ) (m : Message) (ys : List Taken) (came rest later beside : List ℕ)
      → IsBetween R S a.content → IsBetween S R b.content → Sent p R S a.content b.content n Done m
      → b.standing.state ≡ Serving → AreAnswered q b ys → GoesOn ys beside
      → AreFrames came (map (λ t. t.frame) ys) rest → frame_of m ++ [] ≡ came ++ later
      → (after_all q b ys).content ≡ b.content
  at_end a b n m [] came rest later beside one other sent serving answered goes frames out = refl
  at_end a b n (Asks t) (y ∷ ys) came rest later beside one other sent serving answered goes frames
      out = absurd sent
  at_end a b n (Carries t rs) (y ∷ ys) came rest later beside one other sent serving answered goes
      frames out = absurd sent
  at_end a b n (Ends c) (y ∷ ys) came rest later beside one other sent serving answered goes frames
      out =
      let small : c < 2 ^ 32 = let zero = sent.0 in omega (arith, zero) in
      let f = first_frame (Ends c) y.frame
      (map (λ t. t.frame) ys) came rest later [] small frames out in
      let kept = keeps b y (end_read b y c small serving f.0 f.1) in
      elim goes [
        | inl on ↦ absurd (closed (ended_there f.0 f.1) on.0)
        | inr none ↦ ap (λ (l : List Taken). (after_all q (side_after q b y) l).content) none.0
            ∙ kept
      ]
    where
      responded : (turned q Serving b.content (Ends c)).result ≡ Ok Done
      responded = elim (responds p q R S lawful lawful' compatible a.content b.content n Done
          (Ends c) one other sent) [ inl end ↦ end.1.result | inr more ↦ absurd more.2 ]

      ended_there : y.frame.kind ≡ kind.End → y.frame.body ≡ frame_body_of (Ends c)
          → (y.result ≡ Ok Done) ⊎ IsFaulty y.result y.said
      ended_there same body = elim (taken_there a b n Done
          (Ends c) one other sent serving y same body answered.0.1) [
            | inl clear ↦ inl (clear_so
                (turned q Serving b.content (Ends c)) y.result y.said Done _ responded refl
                clear.1).0
            | inr faulty ↦ inr faulty
          ]

      closed : (y.result ≡ Ok Done) ⊎ IsFaulty y.result y.said → is_open y.result ≡ true → ⊥
      closed (inl done) on = true≢false (sym on ∙ ap is_open done)
      closed (inr faulty) on = true≢false (sym on ∙ ap is_open faulty.1)

  -- the end that began takes no end by a fault
  no_last_word : (a : Side) (x : Taken) (pieces : List FrameContent) (came rest later word : List ℕ)
      → is_over a.standing.state ≡ false → Writes (turn_of p a x) x.result [] x.said
      → IsFine x.result
      → AreFrames came (x.frame ∷ pieces) rest → IsLastWord word → word ≡ came ++ later → ⊥
  no_last_word a x pieces came rest later word over writes fine frames (inl none) out =
      no_frame x.frame pieces came rest later frames (sym none ∙ out)
  no_last_word a x pieces came rest later word over writes fine frames (inr told) out =
      let f = first_frame (Ends (suc told.0)) x.frame pieces came rest later [] told.1 frames
      (append-nil (end_frame (suc told.0)) ∙ (sym told.2 ∙ out)) in
      no_end_told p a x told.0 told.1 f.0 f.1 over writes fine

  -- one frame of the responder, and what the other end makes of it
  record Step (a b : Side) (n : ℕ) (x : Taken) (xs ys : List Taken)
      (rest later rest' later' beside : List ℕ) : Type 0 where
    y : Taken
    ys' : List Taken
    all : ys ≡ y ∷ ys'
    state : State
    m : Message
    result : x.result ≡ Ok state
    stands : (side_after p a x).standing.state ≡ state
    one : IsBetween R S (side_after p a x).content
    other : IsBetween S R (side_after q b y).content
    sent : Sent p R S (side_after p a x).content (side_after q b y).content (n + 1 + 1) state m
    serving : (side_after q b y).standing.state ≡ Serving
    answered : AreAnswered q (side_after q b y) ys'
    goes : GoesOn ys' beside
    came : List ℕ
    frames : AreFrames came (map (λ t. t.frame) xs) rest
    out : flat_map (λ t. t.said) ys' ++ beside ≡ came ++ later
    came' : List ℕ
    frames' : AreFrames came' (map (λ t. t.frame) ys') rest'
    out' : frame_of m ++ flat_map (λ t. t.said) xs ≡ came' ++ later'

  step : (a b : Side) (n : ℕ) (m : Message) (x : Taken) (xs ys : List Taken)
      (came rest later came' rest' later' beside : List ℕ) → IsBetween R S a.content
      → IsBetween S R b.content
      → Sent p R S a.content b.content n a.standing.state m → (a.standing.state ≡ Done → ⊥)
      → b.standing.state ≡ Serving → Writes (turn_of p a x) x.result [] x.said → IsFine x.result
      → AreAnswered q b ys → GoesOn ys beside
      → AreFrames came (x.frame ∷ map (λ t. t.frame) xs) rest
      → flat_map (λ t. t.said) ys ++ beside ≡ came ++ later
      → AreFrames came' (map (λ t. t.frame) ys) rest'
      → frame_of m ++ (x.said ++ flat_map (λ t. t.said) xs) ≡ came' ++ later'
      → Step a b n x xs ys rest later rest' later' beside
  step a b n m x xs [] came rest later came' rest' later' beside one other sent going serving writes
      fine answered goes frames out frames' out' =
      absurd (no_last_word a x (map (λ t. t.frame) xs) came rest later beside
      (sent_open a.content b.content n a.standing.state m sent going) writes fine frames goes
      out)
  step a b n m x xs (y ∷ ys) came rest later came' rest' later' beside one other sent going serving
      writes fine answered goes frames out frames' out' =
      let f' = first_frame m y.frame (map (λ t. t.frame) ys) came' rest' later'
      (x.said ++ flat_map (λ t. t.said) xs)
      (sent_spelled p R S a.content b.content n a.standing.state m party one.lawful sent)
      frames' out' in
      elim (taken_there a b n a.standing.state m one other sent serving y f'.0 f'.1 answered.0.1) [
        | inl clear ↦ clearly f'.2 f'.3 f'.4 clear.0 clear.1
        | inr faulty ↦ absurd (faultily faulty goes)
      ]
    where
      over : is_over a.standing.state ≡ false
      over = sent_open a.content b.content n a.standing.state m sent going

      faultily : IsFaulty y.result y.said → GoesOn (y ∷ ys) beside → ⊥
      faultily faulty (inl on) = true≢false (sym on.0 ∙ ap is_open faulty.1)
      faultily faulty (inr none) =
          let nothing : flat_map (λ t. t.said) ys ++ beside ≡ [] =
          ap (λ (l : List Taken). flat_map (λ t. t.said) l ++ beside) none.0 ∙ none.1 in
          let whole : y.said ≡ came ++ later =
          sym (append-nil y.said) ∙ (ap (λ (l : List ℕ). y.said ++ l) (sym nothing)
          ∙ (sym (append_assoc y.said (flat_map (λ t. t.said) ys) beside) ∙ out)) in
          no_last_word a x (map (λ t. t.frame) xs) came rest later y.said over writes fine frames
          faulty.2 whole

      goes_then : GoesOn (y ∷ ys) beside → GoesOn ys beside
      goes_then (inl on) = on.1
      goes_then (inr none) = subst (λ (l : List Taken). GoesOn l beside) (sym none.0) (inl none.1)

      clearly : (came1' : List ℕ) → AreFrames came1' (map (λ t. t.frame) ys) rest'
          → x.said ++ flat_map (λ t. t.said) xs ≡ came1' ++ later'
          → turn_of q b y ≡ turned q Serving b.content m
          → Writes (turned q Serving b.content m) y.result [] y.said
          → Step a b n x xs (y ∷ ys) rest later rest' later' beside
      clearly came1' frames1' out1' turn wrote =
          elim (responds p q R S lawful lawful' compatible a.content b.content n a.standing.state m
          one other sent) [
            | inl end ↦ absurd (going end.0)
            | inr more ↦ replied more.0 more.1 more.2
          ]
        where
          B : Content
          B = (turned q Serving b.content m).content

          replied : (m' : Message)
              → Answers S R b.content Serving (Some m') (turned q Serving b.content m)
              → Replied q R S a.content B (n + 1) a.standing.state m'
              → Step a b n x xs (y ∷ ys) rest later rest' later' beside
          replied m' answers is =
              let so = clear_so (turned q Serving b.content m) y.result y.said Serving
              (Some m') answers.result answers.reply wrote in
              let whole : frame_of m' ++ (flat_map (λ t. t.said) ys ++ beside) ≡ came ++ later =
              ap (λ (l : List ℕ). l ++ (flat_map (λ t. t.said) ys ++ beside)) (sym so.1)
              ∙ (sym (append_assoc y.said (flat_map (λ t. t.said) ys) beside) ∙ out) in
              let spelled : HasFrame m' =
              replied_spelled q R S a.content B
              (n + 1) a.standing.state m' party' answers.between.lawful is in
              let f = first_frame m' x.frame (map (λ t. t.frame) xs) came rest later
              (flat_map (λ t. t.said) ys ++ beside) spelled frames whole in
              let checked = replied_checked p q R S a.content B (n + 1) a.standing.state m' (sym id)
              (λ e. apart (sym e)) is in
              elim (takes_as p a x m' f.0 f.1 spelled checked over
              (replied_due a.content B (n + 1) a.standing.state m' is) writes) [
                | inl clear ↦ initiated m' answers is f.2 f.3 f.4 clear.0 clear.1
                | inr faulty ↦ absurd (not_fine x.result x.said fine faulty)
              ]
            where
              initiated : (m' : Message)
                  → Answers S R b.content Serving (Some m') (turned q Serving b.content m)
                  → Replied q R S a.content B (n + 1) a.standing.state m' → (came1 : List ℕ)
                  → AreFrames came1 (map (λ t. t.frame) xs) rest
                  → flat_map (λ t. t.said) ys ++ beside ≡ came1 ++ later
                  → turn_of p a x ≡ turned p a.standing.state a.content m'
                  → Writes (turned p a.standing.state a.content m') x.result [] x.said
                  → Step a b n x xs (y ∷ ys) rest later rest' later' beside
              initiated m' answers is came1 frames1 out1 turn_here wrote_here =
                  let to = initiates p q R S lawful lawful' compatible a.content B
                  (n + 1) a.standing.state m' one answers.between is in
                  let so = clear_so (turned p a.standing.state a.content m') x.result x.said to.0
                  (Some to.1) to.2.result to.2.reply wrote_here in
                  let here : (side_after p a x).content
                  ≡ (turned p a.standing.state a.content m').content =
                  ap (λ (t : Turn). t.content) turn_here in
                  let there : (side_after q b y).content ≡ B = ap (λ (t : Turn). t.content) turn in
                  record {
                    y = y;
                    ys' = ys;
                    all = refl;
                    state = to.0;
                    m = to.1;
                    result = so.0;
                    stands = ap (λ (t : Turn). result_unwrap_or t.result Failed) turn_here
                        ∙ ap (λ (r : Result State ExchangeFault). result_unwrap_or r Failed)
                        to.2.result;
                    one = subst (IsBetween R S) (sym here) to.2.between;
                    other = subst (IsBetween S R) (sym there) answers.between;
                    sent = subst (λ (X : Content).
                        Sent p R S X (side_after q b y).content (n + 1 + 1) to.0 to.1) (sym here)
                        (subst (λ (Y : Content).
                        Sent p R S (turned p a.standing.state a.content m').content Y
                        (n + 1 + 1) to.0 to.1) (sym there) to.3);
                    serving = ap (λ (t : Turn). result_unwrap_or t.result Failed) turn
                        ∙ ap (λ (r : Result State ExchangeFault). result_unwrap_or r Failed)
                        answers.result;
                    answered = answered.1;
                    goes = goes_then goes;
                    came = came1;
                    frames = frames1;
                    out = out1;
                    came' = came1';
                    frames' = frames1';
                    out' = ap (λ (l : List ℕ). l ++ flat_map (λ t. t.said) xs) (sym so.1) ∙ out1';
                  }

  pub joined : (before : List Taken) (last : Taken) (ys : List Taken) (a b : Side) (n : ℕ)
      (m : Message) (came rest later came' rest' later' beside : List ℕ) → AreOpen before
      → last.result ≡ Ok Done
      → AreAnswered p a (before ++ (last ∷ [])) → AreAnswered q b ys → GoesOn ys beside
      → IsBetween R S a.content → IsBetween S R b.content
      → Sent p R S a.content b.content n a.standing.state m
      → (a.standing.state ≡ Done → ⊥) → b.standing.state ≡ Serving
      → AreFrames came (map (λ t. t.frame) (before ++ (last ∷ []))) rest
      → flat_map (λ t. t.said) ys ++ beside ≡ came ++ later
      → AreFrames came' (map (λ t. t.frame) ys) rest'
      → frame_of m ++ flat_map (λ t. t.said) (before ++ (last ∷ [])) ≡ came' ++ later'
      → ((after_all p a (before ++ (last ∷ []))).content ≡ join R S)
      × ((after_all q b ys).content ≡ join R S)
  joined [] last ys a b n m came rest later came' rest' later' beside on done answers answered goes
      one other sent going serving frames out frames' out' =
      let s = step a b n m last [] ys came rest later came' rest' later' beside one other sent going
      serving answers.0.1 (inr done) answered goes frames out frames' out' in
      let ended : s.state ≡ Done = same_state s.state (sym s.result ∙ done) in
      let last_sent : Sent p R S (side_after p a last).content (side_after q b s.y).content
      (n + 1 + 1) Done s.m = subst (λ (x : State).
      Sent p R S (side_after p a last).content (side_after q b s.y).content (n + 1 + 1) x s.m)
      ended s.sent in
      let met = both (side_after p a last) (side_after q b s.y)
      (n + 1 + 1) s.m s.one s.other last_sent in
      let kept = at_end (side_after p a last) (side_after q b s.y)
      (n + 1 + 1) s.m s.ys' s.came' rest' later' beside s.one s.other last_sent s.serving
      s.answered s.goes s.frames' s.out' in
      (met.one, ap (λ (l : List Taken). (after_all q b l).content) s.all ∙ (kept ∙ met.other))
    where
      same_state : (x : State) → ◌≡◌ {A = Result State ExchangeFault} (Ok x) (Ok Done) → x ≡ Done
      same_state x e = cc

      both : (a b : Side) (n : ℕ) (m : Message) → IsBetween R S a.content → IsBetween S R b.content
          → Sent p R S a.content b.content n Done m → AreJoined R S a.content b.content n
      both a b n m one other sent =
          elim (responds p q R S lawful lawful' compatible a.content b.content n Done m one other
          sent) [
            | inl end ↦ meets p q R S lawful lawful' compatible a.content b.content n one other
                end.3
                end.4 end.5
            | inr more ↦ absurd more.2
          ]
  joined (x ∷ before) last ys a b n m came rest later came' rest' later' beside on done answers
      answered goes one other sent going serving frames out frames' out' =
      let s = step a b n m x (before ++ (last ∷ [])) ys came rest later came' rest' later' beside
      one other sent going serving answers.0.1
      (inl on.0) answered goes frames out frames' out' in
      let ongoing : (s.state ≡ Done → ⊥) =
      λ e. true≢false (sym on.0 ∙ (ap is_open s.result ∙ ap (λ (y : State). is_open (Ok y)) e))
      in
      let r = joined before last s.ys' (side_after p a x) (side_after q b s.y)
      (n + 1 + 1) s.m s.came rest later s.came' rest' later' beside on.1 done answers.1
      s.answered s.goes s.one s.other
      (subst (λ (y : State). Sent p R S (side_after p a x).content (side_after q b s.y).content
      (n + 1 + 1) y s.m) (sym s.stands) s.sent)
      (λ e. ongoing (sym s.stands ∙ e)) s.serving s.frames s.out s.frames' s.out' in
      (r.0, ap (λ (l : List Taken). (after_all q b l).content) s.all ∙ r.1)

-- ---- two archives

pub both_hold : (s s' t t' : Store) (came out rest came' out' rest' : List ℕ)
    (last last' : DialogState) (ending : Option (Result PeerEnded ServeFault))
    → IsParty (party_of s) → IsParty (party_of t) → CanMeet s t → s'.honest → t'.honest
    → Talks calling s s' came out rest (Some (Ok parted.Done)) last
    → Talks responding t t' came' out' rest' ending last' → IsStartOf came out'
    → IsStartOf came' (asking_frame (party_of s) s.content ++ out)
    → IsHeld s' (join s.content t.content) × IsHeld t' (join s.content t.content)
both_hold s s' t t' came out rest came' out' rest' last last' ending party party' meet h h' talks
    talks' part part' =
    let lawful = (meet.one.0 (talks.passes.honest h) meet.one.1).lawful in
    let lawful' = (meet.other.0 (talks'.passes.honest h') meet.other.1).lawful in
    let d = done_by talks.taken last.code rest talks.beside talks.ends in
    let went : frame_of (Asks (title_by (party_of s) s.content))
    ++ flat_map (λ t. t.said) (d.0 ++ (d.1 ∷ [])) ≡ came' ++ part'.0 =
    ap (λ (l : List Taken). frame_of (Asks (title_by (party_of s) s.content))
    ++ flat_map (λ t. t.said) l) (sym d.2)
    ∙ (ap (λ (o : List ℕ). frame_of (Asks (title_by (party_of s) s.content)) ++ o)
    (sym (talks.wrote ∙ (ap (λ (o : List ℕ). flat_map (λ t. t.said) talks.taken ++ o) d.5
    ∙ append-nil (flat_map (λ t. t.said) talks.taken)))) ∙ part'.1) in
    let r = joined (party_of s) (party_of t) s.content t.content lawful lawful' meet.compatible
    meet.id meet.apart party party' d.0 d.1 talks'.taken (side_of calling s.content)
    (side_of responding t.content) 1
    (Asks (title_by (party_of s) s.content)) came rest part.0 came' rest' part'.0 talks'.beside d.3
    d.4
    (subst (λ (l : List Taken). AreAnswered (party_of s) (side_of calling s.content) l) d.2
    (talks.answered h s.content (λ u. refl))) (talks'.answered h' t.content (λ u. refl))
    (goes_by talks'.taken last'.code rest' talks'.beside ending talks'.ends)
    (between_first s.content t.content lawful) (between_first t.content s.content lawful')
    (refl, (omega arith, omega arith, omega arith)) not_done refl
    (subst (λ (l : List Taken). AreFrames came (map (λ t. t.frame) l) rest) d.2 talks.frames)
    (sym talks'.wrote ∙ part.1) talks'.frames went in (
      λ u. talks.content h s.content (λ x. refl) u
          ∙ (ap (λ (l : List Taken). (after_all (party_of s) (side_of calling s.content) l).content)
          d.2 ∙ r.0),
      λ u. talks'.content h' t.content (λ x. refl) u ∙ r.1,
    )
  where
    not_done : ◌≡◌ {A = State} Pulling Done → ⊥
    not_done e = cc
