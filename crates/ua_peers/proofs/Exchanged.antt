-- What a call between two replicas leaves, as sends and deliveries.
use Rattle.std.proofs.Common.{◌≡◌, ◌⊎◌, ℕ, zero, suc, ◌+◌, ◌^◌, ◌<◌, false, List, [], ◌∷◌, ◌++◌, map, take, length, Option, Some, None, Result, Ok, Err, refl, sym, ap, ◌∙◌, subst, append_assoc, arith, inl, inr}
use Rattle.std.specs.Prelude.{slice_get, nat_lt, true}
use Rattle.std.specs.List.{flat_map}
use Rattle.std.specs.Option.{option_map_or}
use Rattle.std.proofs.lemmas.Bool.{true≢false, cases_Bool, ltb-true, ltb-false}
use Rattle.std.proofs.lemmas.List.{append-nil}
use Rattle.stamp.specs.Numbers.{number_of}
use Rattle.records.specs.Records.{missing}
use Rattle.records.specs.Lists.{Has}
use Rattle.records.specs.Contents.{Content, Adds, finding, merged, put, IsClosed}
use Rattle.records.proofs.ContentLemmas.{has-append, has_from_append}
use Rattle.records.proofs.PutLemmas.{has-put}
use Rattle.records.proofs.LearnLemmas.{has-merged, next_found, closed-next}
use Rattle.records.specs.declared.record.Record.{Record}
use Rattle.archive.specs.declared.fault.LearnFault.TheVariants as refused
use Rattle.archive.specs.Store.{Store, IsQuiescent, IsLawfulContent, IsLeft}
use Rattle.exchange.specs.declared.fault.ExchangeFault.{ExchangeFault}
use Rattle.exchange.specs.declared.fault.ExchangeFault.TheVariants as exchange
use Rattle.exchange.specs.declared.message.Message.TheVariants.{Asks, Carries, Ends}
use Rattle.exchange.specs.declared.message.State.{State}
use Rattle.exchange.specs.declared.message.State.TheVariants.{Pulling, Pushing, Serving, Done, Failed}
use Rattle.exchange.specs.declared.message.Title.{Title}
use Rattle.exchange.specs.Messages.{Party, Message}
use Rattle.exchange.specs.Frames.{end_frame, kind_of, frame_body_of, frame_of, message_at, checked_sender, HasFrame}
use Rattle.exchange.specs.Dialogs.{asking_frame, Turn, Way, Clear, Unread, Stopped, Starved, Met, title_by, failing, carrying, pushing, ended_by, turned, gone, unfit, received, records_in, records_read, learned_at, answered_to, party_of, Writes}
use Rattle.exchange.specs.Fault.{exchange_number}
use Rattle.exchange.specs.Batches.{batch_of, IsBatchFor}
use Rattle.exchange.specs.Streams.{AreFrames}
use Rattle.exchange.proofs.DialogsParts.{asking, learnt, bytes_of}
use Rattle.exchange.specs.Meetings.{IsBetween, CanMeet, checked_title}
use Rattle.exchange.specs.Worlds.{ReplicaState, World, Event, Sends, Delivers, IsReplicaAt, sent, after_event, run}
use Rattle.exchange.proofs.FrameLemmas.{read_own}
use Rattle.exchange.proofs.TitleLemmas.{batch_is}
use Rattle.exchange.proofs.WorldLemmas.{get_last}
use Rattle.exchange.proofs.OneMore.{all_but, merged_one}
use Rattle.exchange.proofs.LeftLemmas.{merged_none, answered_left, next_merged}
use Rattle.exchange.proofs.DialogLemmas.{batch_has, between_first, between_merged}
use Rattle.exchange.proofs.ConverseLemmas.{IsParty, title_spelled, carries_spelled, check_title}
use Rattle.counted_io.specs.declared.fault.ServeFault.{ServeFault}
use Rattle.counted_io.specs.declared.fault.ServeFault.TheVariants as fault
use Rattle.ua_peers.specs.declared.peers.PeerEnded.{PeerEnded}
use Rattle.ua_peers.specs.declared.peers.PeerEnded.TheVariants as parted
use Rattle.ua_peers.specs.Wires.{IsStartOf}
use Rattle.ua_peers.specs.Calling.{calling}
use Rattle.ua_peers.specs.Peers.{Taken, Side, side_of, turn_of, side_after, after_all, AreAnswered, message_to, learned_by, IsLeftBy, responding, Talks, Speaks}
use Rattle.ua_peers.proofs.PeersParts.{is_open}
use Rattle.ua_peers.specs.Events.{AreExchanges, AreUpdated, AreEnds}
use Rattle.ua_peers.proofs.Delivered.{delivered_here}
use Rattle.ua_peers.proofs.Joined.{first_frame, no_frame, numbered, got_by, IsLastWord, GoesOn, goes_by}

-- ---- what a dialog may leave

-- the records that came in some frames
abbrev records_of : Party → Side → List Taken → List Record
records_of p side [] = []
records_of p side (t ∷ later) = records_read (received p side.standing t.frame.kind t.frame.body)
    ++ records_of p (side_after p side t) later

-- this content, or it with one of these records more, which may be added to it
abbrev HasAtMostOneMore : Content → List Record → Content → Type 0
HasAtMostOneMore R rs left = (left ≡ R) ⊎ ((r : Record) × Has rs r × (finding R r ≡ Adds)
    × (left ≡ put r R))

more-in : (R : Content) (rs more : List Record) (left : Content)
    → ((r : Record) → Has rs r → Has more r)
    → HasAtMostOneMore R rs left → HasAtMostOneMore R more left
more-in R rs more left has (inl is) = inl is
more-in R rs more left has (inr q) = inr (q.0, has q.0 q.1, q.2, q.3)

-- what the last frame may leave is what is held behind it, or that with one record more
left-more : (p : Party) (side : Side) (taken : List Taken) (left : Content)
    → IsLeftBy p side taken left
    → HasAtMostOneMore (after_all p side taken).content (records_of p side taken) left
left-more p side [] left by = inl by
left-more p side (t ∷ []) left by = go (cases_Bool (nat_lt n by.0))
  where
    rs : List Record
    rs = records_read (message_to p side t)

    n : ℕ
    n = learned_by p side t

    with-first : ℕ → Content
    with-first k = merged (take k rs) side.content

    is : (side_after p side t).content ≡ with-first n
    is = answered_left p side.standing.state side.content t.way (message_to p side t)

    last : by.0 ≡ suc n → HasAtMostOneMore (side_after p side t).content (rs ++ []) left
    last more = elim (next_merged rs n side.content) [
      | inl same ↦ inl (by.3 ∙ (ap with-first more ∙ (same ∙ sym is)))
      | inr one ↦ inr (
        one.0,
        subst (λ (l : List Record). Has l one.0) (sym (append-nil rs)) one.1,
        subst (λ (X : Content). finding X one.0 ≡ Adds) (sym is) one.2,
        by.3 ∙ (ap with-first more ∙ (one.3 ∙ ap (put one.0) (sym is))),
      )
    ]

    go : (nat_lt n by.0 ≡ true) ⊎ (nat_lt n by.0 ≡ false)
        → HasAtMostOneMore (side_after p side t).content (rs ++ []) left
    go (inl above) =
        let more = ltb-true n by.0 above in
        let most = by.2 in
        last (omega (arith, more, most))
    go (inr not-above) =
        let most = ltb-false n by.0 not-above in
        let least = by.1 in
        let same : by.0 ≡ n = omega (arith, most, least) in
        inl (by.3 ∙ (ap with-first same ∙ sym is))
left-more p side (t ∷ u ∷ later) left by =
    more-in (after_all p side (t ∷ u ∷ later)).content
    (records_of p (side_after p side t) (u ∷ later)) (records_of p side (t ∷ u ∷ later)) left
    (λ r has. has-append (records_read (message_to p side t))
    (records_of p (side_after p side t) (u ∷ later)) r (inr has))
    (left-more p (side_after p side t) (u ∷ later) left by)

-- ---- what an end says

-- a frame of an end that holds this: its vector, with a batch of what it holds or without, or an
-- end
abbrev IsFrom : Party → Content → Message → Type 0
IsFrom p A (Asks t) = t ≡ title_by p A
IsFrom p A (Carries t rs) = (t ≡ title_by p A) × (v : ℕ → ℕ) × IsBatchFor A v rs
IsFrom p A (Ends n) = n < 2 ^ 32

-- such a frame answers, or none does, and the end is over
abbrev IsAnswer : Party → Turn → Type 0
IsAnswer p turn = ((turn.reply ≡ None) × (is_open turn.result ≡ false))
    ⊎ ((m : Message) × (turn.reply ≡ Some m) × IsFrom p turn.content m)

fails : (p : Party) (R : Content) (f : ExchangeFault) → IsAnswer p (failing R f)
fails p R f = let n = numbered f in
    inr (Ends (exchange_number f), refl, subst (λ (k : ℕ). k < 2 ^ 32) (sym n.2) n.1)

asks : (p : Party) (s : State) (R : Content) → IsAnswer p (asking p s R)
asks p s R = inr (Asks (title_by p R), refl, refl)

carries : (p : Party) (s : State) (R : Content) (v : ℕ → ℕ) (rs : List Record) → IsBatchFor R v rs
    → IsAnswer p (carrying p s R rs)
carries p s R v rs is = inr (Carries (title_by p R) rs, refl, (refl, v, is))

pushes : (p : Party) (R : Content) (v : ℕ → ℕ) (rs : List Record) → IsBatchFor R v rs
    → IsAnswer p (pushing p R rs)
pushes p R v [] is = inr (Ends 0, refl, omega arith)
pushes p R v (r ∷ rs) is = carries p Pushing R v (r ∷ rs) is

learns : (p : Party) (s : State) (R : Content) (refusal : Option ExchangeFault)
    → IsAnswer p (learnt p s R refusal)
learns p s R None = asks p s R
learns p s R (Some f) = fails p R f

ends_by : (p : Party) (R : Content) (n : ℕ) → IsAnswer p (ended_by R n)
ends_by p R zero = inl (refl, refl)
ends_by p R (suc n) = inl (refl, refl)

breaks_off : (p : Party) (R : Content) (n : ℕ)
    → IsAnswer p (Rattle.exchange.specs.Dialogs.broken_off R n)
breaks_off p R zero = fails p R exchange.Frame
breaks_off p R (suc n) = ends_by p R (suc n)

turns : (p : Party) (s : State) (R : Content) (m : Message) → IsLawfulContent R
    → IsAnswer p (turned p s R m)
turns p Pulling R (Asks t) lawful = fails p R exchange.Frame
turns p Pulling R (Carries t []) lawful =
    pushes p R (number_of t.vector) (batch_of R (number_of t.vector))
    (batch_is R (number_of t.vector) lawful)
turns p Pulling R (Carries t (r ∷ rs)) lawful = learns p Pulling (merged (r ∷ rs) R) _
turns p Pulling R (Ends n) lawful = breaks_off p R n
turns p Pushing R (Asks t) lawful =
    pushes p R (number_of t.vector) (batch_of R (number_of t.vector))
    (batch_is R (number_of t.vector) lawful)
turns p Pushing R (Carries t rs) lawful = fails p R exchange.Frame
turns p Pushing R (Ends n) lawful = breaks_off p R n
turns p Serving R (Asks t) lawful =
    carries p Serving R (number_of t.vector) (batch_of R (number_of t.vector))
    (batch_is R (number_of t.vector) lawful)
turns p Serving R (Carries t rs) lawful = learns p Serving (merged rs R) _
turns p Serving R (Ends n) lawful = ends_by p R n
turns p Done R m lawful = fails p R exchange.Frame
turns p Failed R m lawful = fails p R exchange.Frame

answers : (p : Party) (way : Way) (R : Content) (rs : List Record) (turn : Turn) → IsAnswer p turn
    → IsAnswer p (gone way R rs turn)
answers p Clear R rs turn is = is
answers p Unread R rs turn is = fails p R exchange.OutOfMemory
answers p (Stopped k f) R rs turn is =
    fails p (merged (take k rs) R) (exchange.Learn k (refused.Store f))
answers p Starved R rs turn is = fails p turn.content exchange.OutOfMemory
answers p (Met f) R rs turn is = fails p turn.content (exchange.Store f)

answers_to : (p : Party) (s : State) (R : Content) (way : Way) (r : Result Message ExchangeFault)
    → IsLawfulContent R → IsAnswer p (answered_to p s R way r)
answers_to p s R way (Ok m) lawful =
    answers p way R (records_in m) (turned p s R m) (turns p s R m lawful)
answers_to p s R way (Err f) lawful = answers p way R [] (failing R f) (fails p R f)

-- what was written for a turn: such a frame, or nothing, and the end is over
abbrev IsWord : Party → Content → Result State ExchangeFault → List ℕ → Type 0
IsWord p A result said = ((said ≡ []) × (is_open result ≡ false))
    ⊎ ((m : Message) × (said ≡ frame_of m) × IsFrom p A m)

word_of : (p : Party) (turn : Turn) (result : Result State ExchangeFault) (said : List ℕ)
    → Writes turn result [] said → IsAnswer p turn → IsWord p turn.content result said
word_of p turn result said (inl w) (inl none) =
    inl (w.1 ∙ ap bytes_of none.0, ap is_open w.0 ∙ none.1)
word_of p turn result said (inl w) (inr some) = inr (some.0, w.1 ∙ ap bytes_of some.1, some.2)
word_of p turn result said (inr w) is = inl (w.3, ap is_open w.2)

from_spelled : (p : Party) (A : Content) (m : Message) → IsParty p → IsLawfulContent A
    → IsFrom p A m → HasFrame m
from_spelled p A (Asks t) party lawful is =
    subst (λ (x : Title). HasFrame (Asks x)) (sym is) (title_spelled p A party lawful)
from_spelled p A (Carries t rs) party lawful is =
    subst (λ (x : Title). HasFrame (Carries x rs)) (sym is.0)
    (carries_spelled p A is.1 rs party lawful is.2)
from_spelled p A (Ends n) party lawful is = is

from_checked : (p q : Party) (A : Content) (m : Message) → p.id ≡ q.id → (p.own ≡ q.own → ⊥)
    → IsFrom p A m → checked_title q m
from_checked p q A (Asks t) id apart is =
    subst (λ (x : Title). checked_sender q x ≡ Ok tt) (sym is) (check_title p q A id apart)
from_checked p q A (Carries t rs) id apart is =
    subst (λ (x : Title). checked_sender q x ≡ Ok tt) (sym is.0) (check_title p q A id apart)
from_checked p q A (Ends n) id apart is = tt

-- ---- one frame is taken

-- the records of the message, or none, where no frame is taken any more
took : (p : Party) (side : Side) (t : Taken) (m : Message) → t.frame.kind ≡ kind_of m
    → t.frame.body ≡ frame_body_of m → HasFrame m → checked_title p m
    → (records_read (received p side.standing t.frame.kind t.frame.body) ≡ records_in m)
    ⊎ (records_read (received p side.standing t.frame.kind t.frame.body) ≡ [])
took p side t m kind body spelled is = go (unfit side.standing (kind_of m)) refl
  where
    got : records_read (received p side.standing t.frame.kind t.frame.body)
        ≡ records_read (received p side.standing (kind_of m) (frame_body_of m))
    got = ap records_read (got_by p side t m kind body)

    go : (o : Option ExchangeFault) → unfit side.standing (kind_of m) ≡ o
        → (records_read (received p side.standing t.frame.kind t.frame.body) ≡ records_in m)
        ⊎ (records_read (received p side.standing t.frame.kind t.frame.body) ≡ [])
    go None e = inl (got ∙ ap records_read (ap
        (λ (o : Option ExchangeFault).
        option_map_or (λ f. Err f) o (message_at p (kind_of m) (frame_body_of m))) e
        ∙ read_own p m spelled is))
    go (Some f) e = inr (got
        ∙ ap (λ (o : Option ExchangeFault).
        records_read (option_map_or (λ f. Err f) o (message_at p (kind_of m) (frame_body_of m)))) e)

-- what is held then is what was held with some first ones of these records
left_by : (p : Party) (side : Side) (t : Taken) (rs : List Record)
    → records_read (received p side.standing t.frame.kind t.frame.body) ≡ rs
    → (count : ℕ) × ((side_after p side t).content ≡ merged (take count rs) side.content)
left_by p side t rs e =
    let count : ℕ = learned_at p side.standing.state side.content t.way
    (received p side.standing t.frame.kind t.frame.body) in (
      count,
      answered_left p side.standing.state side.content t.way
          (received p side.standing t.frame.kind t.frame.body)
          ∙ ap (λ (l : List Record). merged (take count l) side.content) e,
    )

kept_by : (p : Party) (side : Side) (t : Taken)
    → records_read (received p side.standing t.frame.kind t.frame.body) ≡ []
    → (side_after p side t).content ≡ side.content
kept_by p side t e = let left = left_by p side t [] e in left.1 ∙ merged_none left.0 side.content

-- what is held stays held
held_on : (p : Party) (side : Side) (ts : List Taken) (r : Record) → Has side.content r
    → Has (after_all p side ts).content r
held_on p side [] r h = h
held_on p side (t ∷ ts) r h =
    let left = left_by p side t (records_read (received p side.standing t.frame.kind t.frame.body))
    refl in
    held_on p (side_after p side t) ts r (subst (λ (R : Content). Has R r) (sym left.1)
    (has-merged (take left.0 (records_read
    (received p side.standing t.frame.kind t.frame.body))) side.content r h))

-- behind a frame and others the end holds what it held, and no record came to it
abbrev Idles : Party → Side → Taken → List Taken → Type 0
Idles p side t us = ((after_all p (side_after p side t) us).content ≡ side.content)
    × (records_read (received p side.standing t.frame.kind t.frame.body)
    ++ records_of p (side_after p side t) us ≡ [])

-- an end that is told nothing more, or a fault, holds what it held, and no record came to it
idle : (p : Party) (side : Side) (ts : List Taken) (word came rest later : List ℕ) → IsLastWord word
    → AreFrames came (map (λ t. t.frame) ts) rest → word ≡ came ++ later
    → ((after_all p side ts).content ≡ side.content) × (records_of p side ts ≡ [])
idle p side [] word came rest later is frames out = (refl, refl)
idle p side (t ∷ ts) word came rest later (inl none) frames out =
    absurd (no_frame t.frame (map (λ t. t.frame) ts) came rest later frames (sym none ∙ out))
idle p side (t ∷ ts) word came rest later (inr told) frames out = go ts frames
  where
    go : (us : List Taken) → AreFrames came (t.frame ∷ map (λ t. t.frame) us) rest
        → Idles p side t us
    go us frames =
        let f = first_frame (Ends (suc told.0)) t.frame
        (map (λ t. t.frame) us) came rest later [] told.1 frames
        (append-nil (end_frame (suc told.0)) ∙ (sym told.2 ∙ out)) in
        let none : records_read (received p side.standing t.frame.kind t.frame.body) ≡ [] =
        elim (took p side t (Ends (suc told.0)) f.0 f.1 told.1 tt) [ inl e ↦ e | inr e ↦ e ] in
        behind us f.2 f.3 f.4 none
      where
        behind : (us : List Taken) (came' : List ℕ) → AreFrames came' (map (λ t. t.frame) us) rest
            → [] ≡ came' ++ later → records_read
            (received p side.standing t.frame.kind t.frame.body) ≡ [] → Idles p side t us
        behind [] came' frames' out' none =
            (kept_by p side t none, ap (λ (l : List Record). l ++ []) none)
        behind (u ∷ us) came' frames' out' none =
            absurd (no_frame u.frame (map (λ t. t.frame) us) came' rest later frames' out')

-- ---- in the world

-- what one replica sent came to the other
sent_over : (w : World) (i j limit count : ℕ) (v : ℕ → ℕ) (s t : ReplicaState) → (j ≡ i → ⊥)
    → IsReplicaAt w i s → IsReplicaAt w j t
    → AreUpdated w (run (Sends j v limit ∷ Delivers i (length w.pool) count ∷ []) w) i j s t
    (merged (take count (missing t.content v limit)) s.content) t.content
sent_over w i j limit count v s t other one two =
    let pool : (after_event w (Sends j v limit)).pool ≡ w.pool ++ (missing t.content v limit ∷ []) =
    ap (λ (o : Option ReplicaState). option_map_or (sent v limit w.pool) o w.pool) two in
    let there : slice_get (after_event w (Sends j v limit)).pool (length w.pool)
    ≡ Some (missing t.content v limit) =
    ap (λ (l : List (List Record)). slice_get l (length w.pool)) pool
    ∙ get_last w.pool (missing t.content v limit) in
    let u = delivered_here (after_event w (Sends j v limit)) i s (length w.pool) count
    (missing t.content v limit) one there in
    record { here = u.here; there = u.others j other ∙ two; others = λ k a b. u.others k a }

abbrev Trades : World → (i j : ℕ) → ReplicaState → ReplicaState → Content → Content → Type 0
Trades w i j s t A B = (events : List Event) × AreExchanges i j events
    × AreUpdated w (run events w) i j s t A B

swap_each : (i j : ℕ) (events : List Event) → AreExchanges i j events → AreExchanges j i events
swap_each i j [] are = tt
swap_each i j (e ∷ es) are = (elim are.0 [ inl h ↦ inr h | inr h ↦ inl h ], swap_each i j es are.1)

swapped : (w : World) (i j : ℕ) (s t : ReplicaState) (A B : Content) → Trades w i j s t A B
    → Trades w j i t s B A
swapped w i j s t A B trades = (
  trades.0,
  swap_each i j trades.0 trades.1,
  record {
    here = trades.2.there;
    there = trades.2.here;
    others =
        λ k a b. trades.2.others k b a;
  },
)

pub run_append : (es fs : List Event) (w : World) → run (es ++ fs) w ≡ run fs (run es w)
run_append [] fs w = refl
run_append (e ∷ es) fs w = run_append es fs (after_event w e)

each_append : (i j : ℕ) (es fs : List Event) → AreExchanges i j es → AreExchanges i j fs
    → AreExchanges i j (es ++ fs)
each_append i j [] fs are more = more
each_append i j (e ∷ es) fs are more = (are.0, each_append i j es fs are.1 more)

trades_then : (w : World) (i j : ℕ) (s t : ReplicaState) (A B C D : Content)
    (first : Trades w i j s t A B)
    → Trades (run first.0 w) i j (record s { content = A }) (record t { content = B }) C D
    → Trades w i j s t C D
trades_then w i j s t A B C D first more = (
  first.0 ++ more.0,
  each_append i j first.0 more.0 first.1 more.1,
  subst (λ (v : World). AreUpdated w v i j s t C D) (sym (run_append first.0 more.0 w))
      (record {
        here = more.2.here;
        there = more.2.there;
        others =
            λ k a b. more.2.others k a b ∙ first.2.others k a b;
      }),
)

-- what came to one end, and what that made of it
received_in : (w : World) (i j : ℕ) (s t : ReplicaState) (p q : Party) (a b : Side) (x : Taken)
    (m : Message) → (j ≡ i → ⊥) → IsReplicaAt w i s → s.content ≡ a.content → IsReplicaAt w j t
    → t.content ≡ b.content → IsFrom q b.content m
    → (records_read (received p a.standing x.frame.kind x.frame.body) ≡ records_in m)
    ⊎ (records_read (received p a.standing x.frame.kind x.frame.body) ≡ [])
    → Trades w i j s t (side_after p a x).content b.content
received_in w i j s t p q a b x m other one same two same' is got = by m is got
  where
    quiet : (side_after p a x).content ≡ a.content
        → Trades w i j s t (side_after p a x).content b.content
    quiet kept = (
      [],
      tt,
      record {
        here = subst (λ (R : Content). IsReplicaAt w i (record s { content = R }))
            (same ∙ sym kept) one;
        there = subst (λ (R : Content). IsReplicaAt w j (record t { content = R })) same' two;
        others = λ k c d. refl;
      },
    )

    by : (m : Message) → IsFrom q b.content m
        → (records_read (received p a.standing x.frame.kind x.frame.body) ≡ records_in m)
        ⊎ (records_read (received p a.standing x.frame.kind x.frame.body) ≡ [])
        → Trades w i j s t (side_after p a x).content b.content
    by m is (inr none) = quiet (kept_by p a x none)
    by (Asks title) is (inl got) = quiet (kept_by p a x got)
    by (Ends n) is (inl got) = quiet (kept_by p a x got)
    by (Carries title rs) is (inl got) =
        let batch = is.2 in
        let left = left_by p a x rs got in
        let first : rs ≡ missing t.content is.1 batch.count =
        batch.first ∙ ap (λ (R : Content). missing R is.1 batch.count) (sym same') in
        let now : merged (take left.0 (missing t.content is.1 batch.count)) s.content
        ≡ (side_after p a x).content =
        ap (λ (l : List Record). merged (take left.0 l) s.content) (sym first)
        ∙ (ap (merged (take left.0 rs)) same ∙ sym left.1) in (
          Sends j is.1 batch.count ∷ Delivers i (length w.pool) left.0 ∷ [],
          (inr (inl (is.1, batch.count, refl)), (inl (inr (length w.pool, left.0, refl)), tt)),
          subst (λ (R : Content). AreUpdated w (run
              (Sends j is.1 batch.count ∷ Delivers i (length w.pool) left.0 ∷ []) w) i j s t R
              b.content) now
              (subst (λ (R : Content).
              AreUpdated w (run (Sends j is.1 batch.count ∷ Delivers i (length w.pool) left.0
              ∷ []) w) i j s t (merged
              (take left.0 (missing t.content is.1 batch.count)) s.content) R) same'
              (sent_over w i j batch.count left.0 is.1 s t other one two)),
        )

between_then : (p q : Party) (R S : Content) (a b : Side) (x : Taken) (m : Message)
    → IsBetween R S a.content → IsBetween S R b.content → IsFrom q b.content m
    → (records_read (received p a.standing x.frame.kind x.frame.body) ≡ records_in m)
    ⊎ (records_read (received p a.standing x.frame.kind x.frame.body) ≡ [])
    → IsBetween R S (side_after p a x).content
between_then p q R S a b x m one other is got = by m is got
  where
    quiet : (side_after p a x).content ≡ a.content → IsBetween R S (side_after p a x).content
    quiet kept = subst (IsBetween R S) (sym kept) one

    by : (m : Message) → IsFrom q b.content m
        → (records_read (received p a.standing x.frame.kind x.frame.body) ≡ records_in m)
        ⊎ (records_read (received p a.standing x.frame.kind x.frame.body) ≡ [])
        → IsBetween R S (side_after p a x).content
    by m is (inr none) = quiet (kept_by p a x none)
    by (Asks title) is (inl got) = quiet (kept_by p a x got)
    by (Ends n) is (inl got) = quiet (kept_by p a x got)
    by (Carries title rs) is (inl got) =
        let left = left_by p a x rs got in
        subst (IsBetween R S) (sym left.1)
        (between_merged R S a.content b.content rs left.0 one other
        (λ r h. batch_has b.content is.1 rs r is.2 h))

-- ---- frame by frame

-- what is on its way to an end: a frame of the other; or nothing, and nothing more comes
abbrev IsOnWay : Party → Content → List ℕ → List Taken → List ℕ → Type 0
IsOnWay q B word ys beside = ((word ≡ []) × (ys ≡ []) × (beside ≡ []))
    ⊎ ((m : Message) × (word ≡ frame_of m) × IsFrom q B m)

goes_then : (x : Taken) (xs : List Taken) (beside : List ℕ) → GoesOn (x ∷ xs) beside
    → GoesOn xs beside
goes_then x xs beside (inl on) = on.1
goes_then x xs beside (inr none) =
    subst (λ (l : List Taken). GoesOn l beside) (sym none.0) (inl none.1)

on_way : (p : Party) (A : Content) (x : Taken) (xs : List Taken) (beside : List ℕ)
    → GoesOn (x ∷ xs) beside → IsWord p A x.result x.said → IsOnWay p A x.said xs beside
on_way p A x xs beside goes (inr told) = inr told
on_way p A x xs beside (inl on) (inl none) = absurd (true≢false (sym on.0 ∙ none.1))
on_way p A x xs beside (inr last) (inl none) = inl (none.0, last.0, last.1)

-- a record of a frame is held by the end that sent it
from_held : (p : Party) (A : Content) (m : Message) (r : Record) → IsFrom p A m
    → Has (records_in m) r → Has A r
from_held p A (Asks t) r is h = absurd h
from_held p A (Carries t rs) r is h = batch_has A is.1 rs r is.2 h
from_held p A (Ends n) r is h = absurd h

-- what two ends leave: sends and deliveries do the same, each holds its own and some of the
-- other's, and knows all that it sent
record Traded (w : World) (i j : ℕ) (s t : ReplicaState) (p q : Party) (R S : Content) (a b : Side)
    (xs ys : List Taken) : Type 0 where
  trades : Trades w i j s t (after_all p a xs).content (after_all q b ys).content
  one : IsBetween R S (after_all p a xs).content
  other : IsBetween S R (after_all q b ys).content
  knows : (r : Record) → Has (records_of p a xs) r → Has (after_all q b ys).content r
  known : (r : Record) → Has (records_of q b ys) r → Has (after_all p a xs).content r

-- one end takes what is on its way, and then the other what it said; each frame is less to come
trade : (n : ℕ) (p q : Party) (R S : Content) (w : World) (i j : ℕ) (s t : ReplicaState)
    (a b : Side) (xs ys : List Taken) (word came rest later came' rest' later' beside beside' :
    List ℕ) → p.id ≡ q.id → (p.own ≡ q.own → ⊥) → IsParty p → IsParty q
    → (i ≡ j → ⊥) → length xs + length ys < n → IsBetween R S a.content → IsBetween S R b.content
    → IsReplicaAt w i s → s.content ≡ a.content → IsReplicaAt w j t → t.content ≡ b.content
    → AreAnswered p a xs → AreAnswered q b ys
    → GoesOn xs beside → GoesOn ys beside' → IsOnWay q b.content word ys beside'
    → AreFrames came (map (λ t. t.frame) xs) rest
    → word ++ (flat_map (λ t. t.said) ys ++ beside') ≡ came ++ later
    → AreFrames came' (map (λ t. t.frame) ys) rest'
    → flat_map (λ t. t.said) xs ++ beside ≡ came' ++ later'
    → Traded w i j s t p q R S a b xs ys
trade zero p q R S w i j s t a b xs ys word came rest later came' rest' later' beside beside' id
    apart party party' other less one two at same at' same' answered answered' goes goes' way frames
    out frames' out' = absurd (omega (arith, less))
trade (suc n) p q R S w i j s t a b [] ys word came rest later came' rest' later' beside beside' id
    apart party party' other less one two at same at' same' answered answered' goes goes' way frames
    out frames' out' =
    let kept = idle q b ys beside came' rest' later' goes frames' out' in
    record {
      trades = (
        [],
        tt,
        record {
          here = subst (λ (R : Content). IsReplicaAt w i (record s { content = R })) same at;
          there = subst (λ (R : Content). IsReplicaAt w j (record t { content = R }))
              (same' ∙ sym kept.0) at';
          others = λ k c d. refl;
        },
      );
      one = one;
      other = subst (IsBetween S R) (sym kept.0) two;
      knows = λ r h. absurd h;
      known = λ r h. absurd (subst (λ (l : List Record). Has l r) kept.1 h);
    }
trade (suc n) p q R S w i j s t a b
    (x ∷ xs) ys word came rest later came' rest' later' beside beside' id apart party party' other
    less one two at same at' same' answered answered' goes goes' way frames out frames' out' =
    elim way [
      | inl none ↦ absurd (no_frame x.frame (map (λ t. t.frame) xs) came rest later frames
          (sym (nothing none.0 none.1 none.2) ∙ out))
      | inr told ↦
          let m : Message = told.0 in
          let whole : frame_of m ++ (flat_map (λ t. t.said) ys ++ beside') ≡ came ++ later =
          ap (λ (l : List ℕ). l ++ (flat_map (λ t. t.said) ys ++ beside')) (sym told.1) ∙ out in
          let spelled = from_spelled q b.content m party' two.lawful told.2 in
          let f = first_frame m x.frame (map (λ t. t.frame) xs) came rest later
          (flat_map (λ t. t.said) ys ++ beside') spelled frames whole in
          let got = took p a x m f.0 f.1 spelled (from_checked q p b.content m (sym id)
          (λ e. apart (sym e)) told.2) in
          let here = received_in w i j s t p q a b x m
          (λ e. other (sym e)) at same at' same' told.2 got in
          let between = between_then p q R S a b x m one two told.2 got in
          let said = word_of p (turn_of p a x) x.result x.said answered.0.1
          (answers_to p a.standing.state a.content x.way
          (received p a.standing x.frame.kind x.frame.body) one.lawful) in
          let more = trade n q p S R (run here.0 w) j i (record t { content = b.content })
          (record s { content = (side_after p a x).content }) b
          (side_after p a x) ys xs x.said came' rest' later' f.2 rest later beside' beside (sym id)
          (λ e. apart (sym e)) party' party (λ e. other (sym e))
          (omega (arith, less)) two between here.2.there refl here.2.here refl answered' answered.1
          goes' (goes_then x xs beside goes)
          (on_way p (side_after p a x).content x xs beside goes said) frames'
          (sym (append_assoc x.said (flat_map (λ t. t.said) xs) beside) ∙ out') f.3 f.4 in
          record {
            trades =
                trades_then w i j s t (side_after p a x).content b.content
                (after_all p a (x ∷ xs)).content (after_all q b ys).content here
                (swapped (run here.0 w) j i (record t { content = b.content })
                (record s { content = (side_after p a x).content }) (after_all q b ys).content
                (after_all p a (x ∷ xs)).content more.trades);
            one = more.other;
            other = more.one;
            knows = λ r h. elim (has_from_append
                (records_read (received p a.standing x.frame.kind x.frame.body))
                (records_of p (side_after p a x) xs) r h) [
                  | inl first ↦ held_on q b ys r (came_from m told.2 got r first)
                  | inr then ↦ more.known r then
                ];
            known = more.knows;
          }
    ]
  where
    nothing : word ≡ [] → ys ≡ [] → beside' ≡ []
        → word ++ (flat_map (λ t. t.said) ys ++ beside') ≡ []
    nothing e f g = ap (λ (l : List ℕ). l ++ (flat_map (λ t. t.said) ys ++ beside')) e
        ∙ (ap (λ (l : List Taken). flat_map (λ t. t.said) l ++ beside') f ∙ g)

    came_from : (m : Message) → IsFrom q b.content m
        → (records_read (received p a.standing x.frame.kind x.frame.body) ≡ records_in m)
        ⊎ (records_read (received p a.standing x.frame.kind x.frame.body) ≡ []) → (r : Record)
        → Has (records_read (received p a.standing x.frame.kind x.frame.body)) r → Has b.content r
    came_from m is (inl e) r h = from_held q b.content m r is
        (subst (λ (l : List Record). Has l r) e h)
    came_from m is (inr e) r h = absurd (subst (λ (l : List Record). Has l r) e h)

-- ---- two archives

-- what was written is of a dialog that went so
record IsPartOf (start : Rattle.exchange.specs.Dialogs.DialogState) (old new : Store)
    (came out : List ℕ) : Type 0 where
  whole : List ℕ
  rest : List ℕ
  ending : Option (Result PeerEnded ServeFault)
  last : Rattle.exchange.specs.Dialogs.DialogState
  unsent : List ℕ
  parts : whole ≡ out ++ unsent
  talks : Talks start old new came whole rest ending last

spoken : (start last : Rattle.exchange.specs.Dialogs.DialogState) (old new : Store)
    (came out : List ℕ) (ending : Result PeerEnded ServeFault)
    → Speaks start old new came out ending last → IsPartOf start old new came out
spoken start last old new came out (Ok parted.EndOfInput) s =
    record {
      whole = out;
      rest = s.0;
      ending = None;
      last = last;
      unsent = [];
      parts =
          sym (append-nil out);
      talks = s.2;
    }
spoken start last old new came out (Ok parted.Done) s =
    record {
      whole = out;
      rest = s.0;
      ending = Some (Ok parted.Done);
      last = last;
      unsent =
          [];
      parts = sym (append-nil out);
      talks = s.1;
    }
spoken start last old new came out (Ok (parted.Refused k)) s =
    record {
      whole = out;
      rest = s.0;
      ending = Some (Ok (parted.Refused k));
      last = last;
      unsent =
          [];
      parts = sym (append-nil out);
      talks = s.1;
    }
spoken start last old new came out (Ok (parted.Failed f)) s =
    record {
      whole = out;
      rest = s.0;
      ending = Some (Ok (parted.Failed f));
      last = last;
      unsent =
          [];
      parts = sym (append-nil out);
      talks = s.1;
    }
spoken start last old new came out (Err fault.Read) s =
    record {
      whole = out;
      rest = s.0;
      ending = None;
      last = last;
      unsent = [];
      parts =
          sym (append-nil out);
      talks = s.2;
    }
spoken start last old new came out (Err fault.Write) s =
    record {
      whole = out ++ s.0;
      rest = s.1;
      ending = s.2;
      last = last;
      unsent = s.0;
      parts =
          refl;
      talks = s.3;
    }
spoken start last old new came out (Err fault.TooLong) s =
    record {
      whole = out;
      rest = s.0;
      ending = Some (Err fault.TooLong);
      last = last;
      unsent =
          [];
      parts = sym (append-nil out);
      talks = s.1;
    }
spoken start last old new came out (Err fault.OutOfMemory) s =
    record {
      whole = out;
      rest = s.0;
      ending = Some (Err fault.OutOfMemory);
      last = last;
      unsent =
          [];
      parts = sym (append-nil out);
      talks = s.1;
    }

part_of : (came out whole unsent : List ℕ) → whole ≡ out ++ unsent → IsStartOf came out
    → IsStartOf came whole
part_of came out whole unsent parts first = (
  first.0 ++ unsent,
  parts ∙ (ap (λ (l : List ℕ). l ++ unsent) first.1
      ∙ append_assoc came first.0 unsent),
)

-- both stores keep their names
pub ends_kept : (c c' d d' : Store) → AreEnds c c' d d'
    → (c'.id ≡ c.id) × (c'.own ≡ c.own) × (d'.id ≡ d.id) × (d'.own ≡ d.own)
ends_kept c c' d d' ends =
    let caller = spoken calling ends.last c c' ends.came ends.out ends.ending ends.calls in
    let responder = spoken responding ends.last_there d d' ends.came_there ends.out_there
    ends.ending_there ends.responds in (
      caller.talks.passes.id,
      caller.talks.passes.own,
      responder.talks.passes.id,
      responder.talks.passes.own,
    )

-- what an archive holds behind a dialog, or an opening may find
left_at : (start : Rattle.exchange.specs.Dialogs.DialogState) (old new : Store) (came out : List ℕ)
    (part : IsPartOf start old new came out) (A : Content) → IsQuiescent old → old.broken ≡ false
    → new.honest → IsLeft new A
    → HasAtMostOneMore (after_all (party_of old)
    (side_of start old.content) part.talks.taken).content
    (records_of (party_of old) (side_of start old.content) part.talks.taken) A
left_at start old new came out part A rests used honest (inl held) =
    inl (sym held.1 ∙ part.talks.content honest old.content (λ u. refl) held.0)
left_at start old new came out part A rests used honest (inr found) =
    elim (part.talks.crash honest old.content (λ u. refl) A found) [
      | inl before ↦ inl ((rests (part.talks.passes.honest honest) used).only A before.0
          ∙ sym (before.1 used))
      | inr more ↦ left-more (party_of old) (side_of start old.content) part.talks.taken A more.1
    ]

-- one record more that the other holds
trades_more : (w : World) (i j : ℕ) (s t : ReplicaState) (S T A : Content) (rs : List Record)
    → (j ≡ i → ⊥) → IsClosed S → IsClosed T → ((r : Record) → Has rs r → Has T r)
    → Trades w i j s t S T → HasAtMostOneMore S rs A
    → Trades w i j s t A T × IsClosed A × ((r : Record) → Has S r → Has A r)
trades_more w i j s t S T A rs other closed closed' knows base (inl same) = (
  subst (λ (Q : Content). Trades w i j s t Q T) (sym same) base,
  subst IsClosed (sym same) closed,
  λ r h. subst (λ (Q : Content). Has Q r) (sym same) h,
)
trades_more w i j s t S T A rs other closed closed' knows base (inr one) =
    let r = one.0 in
    let there = knows r one.1 in
    let v = run base.0 w in
    let more : Trades v i j (record s { content = S }) (record t { content = T }) (put r S) T = (
      Sends j (all_but T r) 1 ∷ Delivers i (length v.pool) 1 ∷ [],
      (inr (inl (all_but T r, 1, refl)), (inl (inr (length v.pool, 1, refl)), tt)),
      subst (λ (Q : Content). AreUpdated v (run
          (Sends j (all_but T r) 1 ∷ Delivers i (length v.pool) 1 ∷ []) v) i j
          (record s { content = S }) (record t { content = T }) Q T)
          (merged_one S T r closed' there one.2)
          (sent_over v i j 1 1 (all_but T r) (record s { content = S })
          (record t { content = T }) other base.2.here base.2.there),
    ) in (
      subst (λ (Q : Content). Trades w i j s t Q T) (sym one.3)
          (trades_then w i j s t S T (put r S) T base more),
      subst IsClosed (sym one.3) (closed-next S r closed (next_found S r one.2)),
      λ z h. subst (λ (Q : Content). Has Q z) (sym one.3) (has-put r S z (inr h)),
    )

pub exchanged : (c c' d d' : Store) (w : World) (i j : ℕ) (s t : ReplicaState) (A B : Content)
    → IsParty (party_of c) → IsParty (party_of d) → CanMeet c d → c'.honest → d'.honest
    → AreEnds c c' d d' → IsLeft c' A → IsLeft d' B
    → (i ≡ j → ⊥) → IsReplicaAt w i s → s.content ≡ c.content → IsReplicaAt w j t
    → t.content ≡ d.content → Trades w i j s t A B
exchanged c c' d d' w i j s t A B party party' meet honest honest' ends left left' other at same at'
    same' =
    let lawful = (meet.one.0 (caller.talks.passes.honest honest) meet.one.1).lawful in
    let lawful' = (meet.other.0 (responder.talks.passes.honest honest') meet.other.1).lawful in
    let a = side_of calling c.content in
    let b = side_of responding d.content in
    let came = part_of ends.came ends.out_there responder.whole responder.unsent responder.parts
    ends.back in
    let whole : asking_frame (party_of c) c.content ++ caller.whole
    ≡ (asking_frame (party_of c) c.content ++ ends.out) ++ caller.unsent =
    ap (λ (l : List ℕ). asking_frame (party_of c) c.content ++ l) caller.parts
    ∙ sym (append_assoc (asking_frame (party_of c) c.content) ends.out caller.unsent) in
    let went = part_of ends.came_there (asking_frame (party_of c) c.content ++ ends.out)
    (asking_frame (party_of c) c.content ++ caller.whole) caller.unsent whole ends.forth in
    let traded = trade (suc (length responder.talks.taken + length caller.talks.taken)) (party_of d)
    (party_of c) d.content c.content w j i t s b a responder.talks.taken caller.talks.taken
    (asking_frame (party_of c) c.content)
    ends.came_there responder.rest went.0 ends.came caller.rest came.0 responder.talks.beside
    caller.talks.beside (sym meet.id) (λ e. meet.apart (sym e)) party' party
    (λ e. other (sym e)) (omega arith)
    (between_first d.content c.content lawful')
    (between_first c.content d.content lawful) at' same' at same
    (responder.talks.answered honest' d.content (λ u. refl))
    (caller.talks.answered honest c.content (λ u. refl))
    (goes_by responder.talks.taken responder.last.code responder.rest responder.talks.beside
    responder.ending responder.talks.ends)
    (goes_by caller.talks.taken caller.last.code caller.rest caller.talks.beside caller.ending
    caller.talks.ends)
    (inr (Asks (title_by (party_of c) c.content), refl, refl)) responder.talks.frames
    (ap (λ (l : List ℕ). asking_frame (party_of c) c.content ++ l) (sym caller.talks.wrote)
    ∙ went.1) caller.talks.frames (sym responder.talks.wrote ∙ came.1) in
    let S = (after_all (party_of c) a caller.talks.taken).content in
    let T = (after_all (party_of d) b responder.talks.taken).content in
    let here = trades_more w i j s t S T A (records_of (party_of c) a caller.talks.taken)
    (λ e. other (sym e)) traded.other.lawful.closed traded.one.lawful.closed traded.known
    (swapped w j i t s T S traded.trades)
    (left_at calling c c' ends.came ends.out caller A meet.one.0 meet.one.1 honest left) in
    let there = trades_more w j i t s T A B
    (records_of (party_of d) b responder.talks.taken) other traded.one.lawful.closed here.1
    (λ r h. here.2 r (traded.knows r h))
    (swapped w i j s t A T here.0)
    (left_at responding d d' ends.came_there ends.out_there responder B meet.other.0
    meet.other.1 honest' left') in
    swapped w j i t s B A there.0
  where
    caller : IsPartOf calling c c' ends.came ends.out
    caller = spoken calling ends.last c c' ends.came ends.out ends.ending ends.calls

    responder : IsPartOf responding d d' ends.came_there ends.out_there
    responder = spoken responding ends.last_there d d' ends.came_there ends.out_there
        ends.ending_there ends.responds
