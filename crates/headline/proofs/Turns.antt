-- One turn of a machine as events of a world: updates, or sends and deliveries.
use Rattle.std.proofs.Common.{◌≡◌, ◌⊎◌, ℕ, zero, suc, ◌+◌, ◌^◌, ◌<◌, false, List, [], ◌∷◌, ◌++◌, take, drop, length, Option, Some, None, Result, Ok, Err, refl, sym, ap, ◌∙◌, subst, append_assoc, arith, inl, inr}
use Rattle.std.specs.Prelude.{slice_get}
use Rattle.std.specs.List.{AllByRecursion, flat_map}
use Rattle.std.specs.Option.{option_map_or}
use Rattle.std.specs.Int.{w32}
use Rattle.std.proofs.lemmas.List.{append-nil, take_all}
use Rattle.std.proofs.lemmas.Option.{none-some}
use Rattle.ua_binary.specs.Binary.{unsigned}
use Rattle.ua_binary.specs.Format.{◌>>=◌, ◌▸◌, items, whole}
use Rattle.stamp.specs.Numbers.{number_of}
use Rattle.records.specs.Records.{missing}
use Rattle.records.specs.Lists.{Has}
use Rattle.records.specs.Contents.{Content, merged}
use Rattle.records.specs.Spelling.{IsLawfulRecord}
use Rattle.records.specs.declared.record.Record.{Record}
use Rattle.records.proofs.ContentLemmas.{has_from_append}
use Rattle.records.proofs.LackLemmas.{has_from_take, missing_within}
use Rattle.records.proofs.LearnLemmas.{closed-merged, has_from_merged}
use Rattle.archive.specs.declared.fault.LearnFault.TheVariants as refused
use Rattle.archive.specs.Growth.{Grows}
use Rattle.archive.specs.Store.{Store, IsQuiescent, IsLawfulContent, IsLeft}
use Rattle.archive.proofs.Acting.{left-alone}
use Rattle.ua_settings.specs.Settings.{SettingsValues}
use Rattle.counted_io.specs.declared.fault.ServeFault.{ServeFault}
use Rattle.exchange.specs.declared.fault.ExchangeFault.{ExchangeFault}
use Rattle.exchange.specs.declared.fault.ExchangeFault.TheVariants as exchange
use Rattle.exchange.specs.Ahead.{LearnsAhead}
use Rattle.exchange.specs.declared.message.FrameKind.{FrameKind}
use Rattle.exchange.specs.declared.message.FrameKind.TheVariants.{Vector, Records, End}
use Rattle.exchange.specs.Messages.{Party, Header, Message}
use Rattle.exchange.specs.declared.message.Message.TheVariants.{Asks, Carries, Ends}
use Rattle.exchange.specs.declared.message.State.{State}
use Rattle.exchange.specs.declared.message.State.TheVariants.{Pulling, Pushing, Serving, Done, Failed}
use Rattle.exchange.specs.declared.message.Title.{Title}
use Rattle.exchange.specs.Batches.{batch_of, IsBatchFor}
use Rattle.exchange.specs.Dialogs.{DialogState, Turn, Way, Clear, Unread, Stopped, Starved, Met, title_by, failing, pushing, ended_by, broken_off, turned, gone, records_in, records_read, answered_to, party_of, Writes}
use Rattle.exchange.specs.Fault.{exchange_number}
use Rattle.exchange.specs.Frames.{title, count, code, length_prefixed_record, message_at, frame_letters, kind_of, frame_body_of, frame_of, checked_sender, HasFrame}
use Rattle.exchange.specs.Streams.{FrameContent, IsFrame, AreFrames}
use Rattle.exchange.specs.Worlds.{ReplicaState, World, Event, Operates, Sends, Delivers, Restarts, IsReplicaAt, IsUpdated, AreUpdates, sent, after_event, run}
use Rattle.exchange.proofs.ConverseLemmas.{IsParty, title_spelled, carries_spelled, check_title}
use Rattle.exchange.proofs.DialogsParts.{bytes_of, learnt}
use Rattle.exchange.proofs.FrameLemmas.{read_own, cut_own, body_own}
use Rattle.exchange.proofs.Growths.{updates_happen}
use Rattle.exchange.proofs.LeftLemmas.{merged_none, answered_left}
use Rattle.exchange.proofs.TitleLemmas.{batch_is}
use Rattle.exchange.proofs.WorldLemmas.{get_last, has_from_get}
use Rattle.ua_connection.specs.Client.{Ending}
use Rattle.ua_connection.specs.Environments.{Environment}
use Rattle.ua_connection.specs.Turns.{ConnectionState, Advances}
use Rattle.ua_peers.specs.declared.peers.PeerEnded.{PeerEnded}
use Rattle.ua_peers.specs.Events.{IsSent, WereSent, IsExchange}
use Rattle.ua_peers.specs.Peers.{Taken, Side, side_of, turn_of, side_after, after_all, AreAnswered, message_to, learned_by, IsLeftBy, IsEnd, Talks}
use Rattle.ua_peers.proofs.Delivered.{delivered_here}
use Rattle.ua_peers.proofs.Exchanged.{run_append}
use Rattle.ua_peers.proofs.Joined.{first_frame, no_frame, numbered}
use Rattle.headline.specs.Plants.{records_at, BringsSent, AreWholeFrames, IsReplaced, AreLawfulBatches}

-- ---- updates

module _ (settings : SettingsValues) (a b : Store) (link next : ConnectionState)
    (used : Environment) (made : List ℕ) (ending : Option Ending)
    (advances : Advances settings a b link used made ending next)
    (rests : IsQuiescent a) (whole : a.broken ≡ false) (honest : b.honest) where
  -- what the archive is left with came of what it held
  grown : (R : Content) → IsLeft b R → Grows a.own a.content R
  grown R left =
      let moved = advances.acts honest R left in
      let same = left-alone a moved.2 rests (advances.passes.honest honest) whole moved.3 in
      subst (λ (S : Content). Grows a.own S R) same moved.5

  pub answer_made : (w : World) (i : ℕ) (s : ReplicaState) (R : Content) → IsLeft b R
      → ((r : Record) → Has R r → IsLawfulRecord r) → IsReplicaAt w i s → s.number ≡ a.own
      → s.content ≡ a.content
      → (events : List Event) × AreUpdates i events × IsUpdated w (run events w) i s R
  answer_made w i s R is lawful at number content =
      updates_happen a.own a.content R w i s (grown R is) lawful at number content

-- ---- what is on its way stays there

get_append : {X : Type 0} (xs ys : List X) (i : ℕ) (x : X) → slice_get xs i ≡ Some x
    → slice_get (xs ++ ys) i ≡ Some x
get_append [] ys i x e = absurd (none-some x e)
get_append (y ∷ xs) ys zero x e = e
get_append (y ∷ xs) ys (suc i) x e = get_append xs ys i x e

-- one pool has all batches of another one, at their places
abbrev pub Keeps : List (List Record) → List (List Record) → Type 0
Keeps pool later = (more : List (List Record)) × (later ≡ pool ++ more)

keeps_all : (pool : List (List Record)) → Keeps pool pool
keeps_all pool = ([], sym (append-nil pool))

keeps_then : (a b c : List (List Record)) → Keeps a b → Keeps b c → Keeps a c
keeps_then a b c first later = (
  first.0 ++ later.0,
  later.1 ∙ (ap (λ (l : List (List Record)). l ++ later.0) first.1
      ∙ append_assoc a first.0 later.0),
)

keeps_event : (e : Event) (w : World) → Keeps w.pool (after_event w e).pool
keeps_event (Operates i request op) w = keeps_all w.pool
keeps_event (Sends i v limit) w = go (slice_get w.replicas i)
  where
    go : (o : Option ReplicaState) → Keeps w.pool (option_map_or (sent v limit w.pool) o w.pool)
    go None = keeps_all w.pool
    go (Some s) = (missing s.content v limit ∷ [], refl)
keeps_event (Delivers i batch n) w = keeps_all w.pool
keeps_event (Restarts i) w = keeps_all w.pool

pub keeps_run : (events : List Event) (w : World) → Keeps w.pool (run events w).pool
keeps_run [] w = keeps_all w.pool
keeps_run (e ∷ es) w = keeps_then w.pool (after_event w e).pool (run es (after_event w e)).pool
    (keeps_event e w) (keeps_run es (after_event w e))

sent_on : (pool later : List (List Record)) (rs : List Record) → Keeps pool later → IsSent pool rs
    → IsSent later rs
sent_on pool later rs keeps (inl none) = inl none
sent_on pool later rs keeps (inr q) = inr (
  q.0,
  ap (λ (l : List (List Record)). slice_get l q.0) keeps.1 ∙ get_append pool keeps.0 q.0 rs q.1,
)

pub brings_on : (pool later : List (List Record)) (bytes : List ℕ) → Keeps pool later
    → BringsSent pool bytes → BringsSent later bytes
brings_on pool later bytes keeps brings frame is p =
    sent_on pool later (records_at p frame) keeps (brings frame is p)

-- ---- what is written is read

-- a frame that asks, or ends, brings no records
asks_none : (p : Party) (body : List ℕ) → records_read (message_at p Vector body) ≡ []
asks_none p body = go (whole exchange.Frame title body)
  where
    met : (t : Title) (c : Result (Unit {0}) ExchangeFault)
        → records_read (c >>= λ _. Ok (Asks t)) ≡ []
    met t (Ok u) = refl
    met t (Err f) = refl

    go : (r : Result Title ExchangeFault)
        → records_read (r >>= λ t. checked_sender p t >>= λ _. Ok (Asks t)) ≡ []
    go (Ok t) = met t (checked_sender p t)
    go (Err f) = refl

ends_none : (p : Party) (body : List ℕ) → records_read (message_at p End body) ≡ []
ends_none p body = go (whole exchange.Frame code body)
  where
    go : (r : Result ℕ ExchangeFault) → records_read (r >>= λ n. Ok (Ends n)) ≡ []
    go (Ok n) = refl
    go (Err f) = refl

-- what one reads in a frame with records another one reads too, or no message
read_alike : (q p : Party) (body : List ℕ) (m : Message) → message_at q Records body ≡ Ok m
    → (records_read (message_at p Records body) ≡ records_in m)
    ⊎ (records_read (message_at p Records body) ≡ [])
read_alike q p body m = go ((title ▸ count).read body)
  where
    both : (c d : Result (Unit {0}) ExchangeFault) (read : Result Message ExchangeFault)
        → (c >>= λ _. read) ≡ Ok m → (records_read (d >>= λ _. read) ≡ records_in m)
        ⊎ (records_read (d >>= λ _. read) ≡ [])
    both (Ok u) (Ok v) read e = inl (ap records_read e)
    both (Ok u) (Err f) read e = inr refl
    both (Err f) d read e = absurd cc

    go : (r : Result ((Title × ℕ) × List ℕ) ExchangeFault)
        → (r >>= λ ((t, n), rest). checked_sender q t
        >>= λ _. whole exchange.Frame (items n length_prefixed_record) rest
        >>= λ rs. Ok (Carries t rs)) ≡ Ok m
        → (records_read (r >>= λ ((t, n), rest). checked_sender p t
        >>= λ _. whole exchange.Frame (items n length_prefixed_record) rest
        >>= λ rs. Ok (Carries t rs)) ≡ records_in m)
        ⊎ (records_read (r >>= λ ((t, n), rest). checked_sender p t
        >>= λ _. whole exchange.Frame (items n length_prefixed_record) rest
        >>= λ rs. Ok (Carries t rs)) ≡ [])
    go (Ok h) e = both (checked_sender q h.0.0) (checked_sender p h.0.0)
        (whole exchange.Frame (items h.0.1 length_prefixed_record) h.1
        >>= λ rs. Ok (Carries h.0.0 rs)) e
    go (Err f) e = absurd cc

-- whoever reads the frame of a message reads its records, or none
read_by : (p : Party) (m : Message) → HasFrame m
    → (records_read (message_at p (kind_of m) (frame_body_of m)) ≡ records_in m)
    ⊎ (records_read (message_at p (kind_of m) (frame_body_of m)) ≡ [])
read_by p (Asks t) is = inr (asks_none p (frame_body_of (Asks t)))
read_by p (Carries t rs) is =
    let q : Party = record { id = t.id; own = suc t.sender } in
    let writer : Party = record { id = t.id; own = t.sender } in
    read_alike q p (frame_body_of (Carries t rs)) (Carries t rs) (read_own q (Carries t rs) is
    (check_title writer q [] refl (λ e. omega (arith, e))))
read_by p (Ends n) is = inr (ends_none p (frame_body_of (Ends n)))

-- nothing, or the frame of a message whose records were sent
abbrev pub IsWord : List (List Record) → List ℕ → Type 0
IsWord pool said = (said ≡ [])
    ⊎ ((m : Message) × HasFrame m × (said ≡ frame_of m) × IsSent pool (records_in m))

word_on : (pool later : List (List Record)) (said : List ℕ) → Keeps pool later → IsWord pool said
    → IsWord later said
word_on pool later said keeps (inl none) = inl none
word_on pool later said keeps (inr told) =
    inr (told.0, told.1, told.2, sent_on pool later (records_in told.0) keeps told.3)

words_on : (pool later : List (List Record)) (taken : List Taken) → Keeps pool later
    → AllByRecursion (λ t. IsWord pool t.said) taken
    → AllByRecursion (λ t. IsWord later t.said) taken
words_on pool later [] keeps words = tt
words_on pool later (t ∷ ts) keeps words =
    (word_on pool later t.said keeps words.0, words_on pool later ts keeps words.1)

module _ (pool : List (List Record)) (frame : FrameContent) (p : Party) where
  -- its records were sent
  abbrev WasSent : Type 0
  WasSent = IsSent pool (records_at p frame)

  frame_sent : (m : Message) → HasFrame m → frame.kind ≡ kind_of m → frame.body ≡ frame_body_of m
      → IsSent pool (records_in m) → WasSent
  frame_sent m is kind body was =
      let same : records_at p frame ≡ records_read (message_at p (kind_of m) (frame_body_of m)) =
      ap (λ (k : FrameKind). records_read (message_at p k frame.body)) kind
      ∙ ap (λ (b : List ℕ). records_read (message_at p (kind_of m) b)) body in
      elim (read_by p m is) [
        | inl read ↦ subst (IsSent pool) (sym (same ∙ read)) was
        | inr none ↦ inl (same ∙ none)
      ]

  -- so it is where the frame stands in these bytes
  abbrev AreSentIn : List ℕ → Type 0
  AreSentIn bytes = (frames : List FrameContent) (rest : List ℕ) → AreFrames bytes frames rest
      → Has frames frame → WasSent

  nothing_sent : AreSentIn []
  nothing_sent [] rest are h = absurd h
  nothing_sent (piece ∷ pieces) rest are h = absurd (no_frame piece pieces [] rest [] are refl)

  word_sent : (said more : List ℕ) → IsWord pool said → AreSentIn more → AreSentIn (said ++ more)
  word_sent said more word later [] rest are h = absurd h
  word_sent said more (inl none) later (piece ∷ pieces) rest are h =
      later (piece ∷ pieces) rest (subst (λ (l : List ℕ). AreFrames l (piece ∷ pieces) rest)
      (ap (λ (l : List ℕ). l ++ more) none) are) h
  word_sent said more (inr told) later (piece ∷ pieces) rest are h =
      let m : Message = told.0 in
      let f = first_frame m piece pieces (said ++ more) rest [] more told.1 are
      (ap (λ (l : List ℕ). l ++ more) (sym told.2) ∙ sym (append-nil (said ++ more))) in
      elim h [
        | inl e ↦ frame_sent m told.1
            (ap (λ (x : FrameContent). x.kind) (sym e) ∙ f.0)
            (ap (λ (x : FrameContent). x.body) (sym e) ∙ f.1) told.3
        | inr g ↦ later pieces rest (subst (λ (l : List ℕ). AreFrames l pieces rest)
            (sym (f.4 ∙ append-nil f.2)) f.3) g
      ]

  words_sent : (taken : List Taken) (beside : List ℕ)
      → AllByRecursion (λ t. IsWord pool t.said) taken → IsWord pool beside
      → AreSentIn (flat_map (λ t. t.said) taken ++ beside)
  words_sent [] beside words last = subst AreSentIn (append-nil beside)
      (word_sent beside [] last nothing_sent)
  words_sent (t ∷ ts) beside words last = subst AreSentIn
      (sym (append_assoc t.said (flat_map (λ t. t.said) ts) beside))
      (word_sent t.said (flat_map (λ t. t.said) ts ++ beside) words.0
      (words_sent ts beside words.1 last))

pub brings_word : (pool : List (List Record)) (said : List ℕ) → IsWord pool said
    → BringsSent pool said
brings_word pool said word frame is p =
    words_sent pool frame p [] said tt word is.0 is.1 is.2 is.3

-- ---- what is written is whole frames

frame_long : (kind : FrameKind) (body : List ℕ)
    → length (frame_letters kind ++ ((unsigned w32).canon (8 + length body) ++ body))
    ≡ 8 + length body
unfolding unsigned
frame_long Vector body = omega arith
frame_long Records body = omega arith
frame_long End body = omega arith

message_frame : (m : Message) → HasFrame m
    → IsFrame (record { kind = kind_of m; body = frame_body_of m }) (frame_of m)
message_frame m is =
    let long : length (frame_of m) ≡ 8 + length (frame_body_of m) =
    frame_long (kind_of m) (frame_body_of m) in
    record {
      whole = cut_own m is ∙ ap (λ (n : ℕ). let r : Result (Option Header) ExchangeFault =
          Ok (Some (record { kind = kind_of m; size = n })) in r) (sym long);
      body = ap (drop 8) (sym (take_all (8 + length (frame_body_of m)) (frame_of m)
          (omega (arith, long)))) ∙ body_own m;
    }

whole_then : (xs ys : List ℕ) (fs gs : List FrameContent) → AreFrames xs fs []
    → AreFrames ys gs [] → AreFrames (xs ++ ys) (fs ++ gs) []
whole_then xs ys [] gs are more = subst (λ (l : List ℕ). AreFrames (l ++ ys) gs []) (sym are) more
whole_then xs ys (f ∷ fs) gs are more = (
  are.0,
  are.1 ++ ys,
  ap (λ (l : List ℕ). l ++ ys) are.2 ∙ append_assoc are.0 are.1 ys,
  are.3,
  whole_then are.1 ys fs gs are.4 more,
)

word_whole : (pool : List (List Record)) (said : List ℕ) → IsWord pool said → AreWholeFrames said
word_whole pool said (inl none) = ([], none)
word_whole pool said (inr told) =
    let frame : FrameContent = record { kind = kind_of told.0; body = frame_body_of told.0 } in (
      frame ∷ [],
      (
        said,
        [],
        sym (append-nil said),
        subst (IsFrame frame) (sym told.2) (message_frame told.0 told.1),
        refl,
      ),
    )

words_whole : (pool : List (List Record)) (taken : List Taken) (beside : List ℕ)
    → AllByRecursion (λ t. IsWord pool t.said) taken → IsWord pool beside
    → AreWholeFrames (flat_map (λ t. t.said) taken ++ beside)
words_whole pool [] beside words last = word_whole pool beside last
words_whole pool (t ∷ ts) beside words last =
    let first = word_whole pool t.said words.0 in
    let later = words_whole pool ts beside words.1 last in (
      first.0 ++ later.0,
      subst (λ (l : List ℕ). AreFrames l (first.0 ++ later.0) [])
          (sym (append_assoc t.said (flat_map (λ t. t.said) ts) beside))
          (whole_then t.said (flat_map (λ t. t.said) ts ++ beside) first.0 later.0 first.1 later.1),
    )

-- ---- what an end says

-- its vector, what was asked for of all that it held when it took a frame without records, or an
-- end
abbrev Says : Party → Content → (brought : List Record) → Content → Message → Type 0
Says p R brought A (Asks t) = t ≡ title_by p A
Says p R brought A (Carries t rs) =
    (t ≡ title_by p R) × (brought ≡ []) × ((v : ℕ → ℕ) × IsBatchFor R v rs)
Says p R brought A (Ends n) = n < 2 ^ 32

-- it is answered so, or by nothing
abbrev IsFair : Party → Content → (brought : List Record) → Turn → Type 0
IsFair p R brought turn = (turn.reply ≡ None)
    ⊎ ((m : Message) × (turn.reply ≡ Some m) × Says p R brought turn.content m)

fails : (p : Party) (R : Content) (brought : List Record) (A : Content) (f : ExchangeFault)
    → IsFair p R brought (failing A f)
fails p R brought A f = let n = numbered f in
    inr (Ends (exchange_number f), refl, subst (λ (k : ℕ). k < 2 ^ 32) (sym n.2) n.1)

learns : (p : Party) (R : Content) (brought : List Record) (s : State) (A : Content)
    (refusal : Option ExchangeFault) → IsFair p R brought (learnt p s A refusal)
learns p R brought s A None = inr (Asks (title_by p A), refl, refl)
learns p R brought s A (Some f) = fails p R brought A f

pushes : (p : Party) (R : Content) (v : ℕ → ℕ) (rs : List Record) → IsBatchFor R v rs
    → IsFair p R [] (pushing p R rs)
pushes p R v [] is = inr (Ends 0, refl, omega arith)
pushes p R v (r ∷ rs) is = inr (Carries (title_by p R) (r ∷ rs), refl, (refl, refl, (v, is)))

ends_by : (p : Party) (R : Content) (brought : List Record) (n : ℕ)
    → IsFair p R brought (ended_by R n)
ends_by p R brought zero = inl refl
ends_by p R brought (suc n) = inl refl

breaks_off : (p : Party) (R : Content) (brought : List Record) (n : ℕ)
    → IsFair p R brought (broken_off R n)
breaks_off p R brought zero = fails p R brought R exchange.Frame
breaks_off p R brought (suc n) = ends_by p R brought (suc n)

fair_turn : (p : Party) (s : State) (R : Content) (m : Message) → IsLawfulContent R
    → IsFair p R (records_in m) (turned p s R m)
fair_turn p Pulling R (Asks t) lawful = fails p R [] R exchange.Frame
fair_turn p Pulling R (Carries t []) lawful =
    pushes p R (number_of t.vector) (batch_of R (number_of t.vector))
    (batch_is R (number_of t.vector) lawful)
fair_turn p Pulling R (Carries t (r ∷ rs)) lawful =
    learns p R (r ∷ rs) Pulling (merged (r ∷ rs) R) _
fair_turn p Pulling R (Ends n) lawful = breaks_off p R [] n
fair_turn p Pushing R (Asks t) lawful =
    pushes p R (number_of t.vector) (batch_of R (number_of t.vector))
    (batch_is R (number_of t.vector) lawful)
fair_turn p Pushing R (Carries t rs) lawful = fails p R rs R exchange.Frame
fair_turn p Pushing R (Ends n) lawful = breaks_off p R [] n
fair_turn p Serving R (Asks t) lawful = inr (
  Carries (title_by p R) (batch_of R (number_of t.vector)),
  refl,
  (refl, refl, (number_of t.vector, batch_is R (number_of t.vector) lawful)),
)
fair_turn p Serving R (Carries t rs) lawful = learns p R rs Serving (merged rs R) _
fair_turn p Serving R (Ends n) lawful = ends_by p R [] n
fair_turn p Done R m lawful = fails p R (records_in m) R exchange.Frame
fair_turn p Failed R m lawful = fails p R (records_in m) R exchange.Frame

fair_way : (p : Party) (way : Way) (R : Content) (brought rs : List Record) (turn : Turn)
    → IsFair p R brought turn → IsFair p R brought (gone way R rs turn)
fair_way p Clear R brought rs turn is = is
fair_way p Unread R brought rs turn is = fails p R brought R exchange.OutOfMemory
fair_way p (Stopped k f) R brought rs turn is =
    fails p R brought (merged (take k rs) R) (exchange.Learn k (refused.Store f))
fair_way p Starved R brought rs turn is = fails p R brought turn.content exchange.OutOfMemory
fair_way p (Met f) R brought rs turn is = fails p R brought turn.content (exchange.Store f)

fair_answer : (p : Party) (s : State) (R : Content) (way : Way) (r : Result Message ExchangeFault)
    → IsLawfulContent R → IsFair p R (records_read r) (answered_to p s R way r)
fair_answer p s R way (Ok m) lawful =
    fair_way p way R (records_in m) (records_in m) (turned p s R m) (fair_turn p s R m lawful)
fair_answer p s R way (Err f) lawful = fair_way p way R [] [] (failing R f) (fails p R [] R f)

-- what is written for the turn
abbrev IsSaying : Party → Content → (brought : List Record) → Content → List ℕ → Type 0
IsSaying p R brought A said =
    (said ≡ []) ⊎ ((m : Message) × (said ≡ frame_of m) × Says p R brought A m)

saying : (p : Party) (R : Content) (brought : List Record) (turn : Turn)
    (result : Result State ExchangeFault) (said : List ℕ) → Writes turn result [] said
    → IsFair p R brought turn → IsSaying p R brought turn.content said
saying p R brought turn result said (inl w) (inl none) = inl (w.1 ∙ ap bytes_of none)
saying p R brought turn result said (inl w) (inr some) =
    inr (some.0, w.1 ∙ ap bytes_of some.1, some.2)
saying p R brought turn result said (inr w) fair = inl w.3

-- ---- frames that come to one replica

exchange_append : (i : ℕ) (es fs : List Event) → AllByRecursion (IsExchange i) es
    → AllByRecursion (IsExchange i) fs → AllByRecursion (IsExchange i) (es ++ fs)
exchange_append i [] fs are more = more
exchange_append i (e ∷ es) fs are more = (are.0, exchange_append i es fs are.1 more)

-- what is on its way is lawful also with a batch more of what is held
lawful_sent : (pool : List (List Record)) (R : Content) (v : ℕ → ℕ) (limit : ℕ)
    → AreLawfulBatches pool → IsLawfulContent R
    → AreLawfulBatches (pool ++ (missing R v limit ∷ []))
lawful_sent pool R v limit lawful holds batch h r k = elim (has_from_append pool _ batch h) [
  | inl old ↦ lawful batch old r k
  | inr new ↦ elim new [
    | inl e ↦ holds.records r
        (missing_within R v limit r (subst (λ (b : List Record). Has b r) (sym e) k)).0
    | inr none ↦ absurd none
  ]
]

lawful_merged : (pool : List (List Record)) (R : Content) (n : ℕ) (rs : List Record)
    → AreLawfulBatches pool → IsLawfulContent R → IsSent pool rs
    → IsLawfulContent (merged (take n rs) R)
lawful_merged pool R n rs lawful holds was = record {
  closed = closed-merged (take n rs) R holds.closed;
  records = λ r h. elim (has_from_merged (take n rs) R r h) [
    | inl a ↦ holds.records r a
    | inr b ↦ elim was [
      | inl none ↦
          absurd (subst (λ (l : List Record). Has l r) none (has_from_take n rs r b))
      | inr q ↦ lawful rs (has_from_get pool q.0 rs q.1) r (has_from_take n rs r b)
    ]
  ];
}

-- events by which the replica comes to hold this, and what was said to the frames was sent
record Comes (w : World) (i : ℕ) (s : ReplicaState) (R : Content)
    (taken : List Taken) : Type 0 where
  events : List Event
  are : AllByRecursion (IsExchange i) events
  after : IsReplaced w (run events w) i s R
  lawful : AreLawfulBatches (run events w).pool
  words : AllByRecursion (λ t. IsWord (run events w).pool t.said) taken

-- events by which the replica comes to hold this, where nothing was sent
pub record Arrives (w : World) (i : ℕ) (s : ReplicaState) (R : Content) : Type 0 where
  pub events : List Event
  pub are : AllByRecursion (IsExchange i) events
  pub after : IsReplaced w (run events w) i s R
  pub pool : (run events w).pool ≡ w.pool

-- so many first records come to the replica, if there are any
arrived : (w : World) (i : ℕ) (s : ReplicaState) (A R : Content) (rs : List Record) (n : ℕ)
    → IsReplicaAt w i s → s.content ≡ A → IsSent w.pool rs → R ≡ merged (take n rs) A
    → Arrives w i s R
arrived w i s A R rs n at same (inl none) is =
    let stays : R ≡ s.content =
    is ∙ (ap (λ (l : List Record). merged (take n l) A) none ∙ (merged_none n A ∙ sym same)) in
    record {
      events = [];
      are = tt;
      after = record {
        here = subst (λ (S : Content). IsReplicaAt w i (record s { content = S })) (sym stays) at;
        others = λ j other. refl;
      };
      pool = refl;
    }
arrived w i s A R rs n at same (inr q) is =
    let came = delivered_here w i s q.0 n rs at q.1 in
    let now : merged (take n rs) s.content ≡ R = ap (merged (take n rs)) same ∙ sym is in
    record {
      events = Delivers i q.0 n ∷ [];
      are = (inr (q.0, n, refl), tt);
      after = record {
        here = subst (λ (S : Content).
            IsReplicaAt (after_event w (Delivers i q.0 n)) i (record s { content = S }))
            now came.here;
        others = came.others;
      };
      pool = came.pool;
    }

module _ (p : Party) (party : IsParty p) (i : ℕ) where
  -- one frame, of whose records so many are learned
  one_comes : (w : World) (s : ReplicaState) (side : Side) (t : Taken) (n : ℕ) (R : Content)
      → IsReplicaAt w i s → s.content ≡ side.content → IsLawfulContent side.content
      → AreLawfulBatches w.pool → IsSent w.pool (records_read (message_to p side t))
      → Writes (turn_of p side t) t.result [] t.said
      → R ≡ merged (take n (records_read (message_to p side t))) side.content
      → Comes w i s R (t ∷ [])
  one_comes w s side t n R at same holds lawful was writes is =
      go (saying p side.content rs (turn_of p side t) t.result t.said writes
      (fair_answer p side.standing.state side.content t.way (message_to p side t) holds))
    where
      rs : List Record
      rs = records_read (message_to p side t)

      stays : rs ≡ [] → R ≡ s.content
      stays none = is ∙ (ap (λ (l : List Record). merged (take n l) side.content) none
          ∙ (merged_none n side.content ∙ sym same))

      then : IsLawfulContent (side_after p side t).content
      then = subst IsLawfulContent
          (sym (answered_left p side.standing.state side.content t.way (message_to p side t)))
          (lawful_merged w.pool side.content (learned_by p side t) rs lawful holds was)

      -- it is answered by no records
      plain : ((pool : List (List Record)) → IsWord pool t.said) → Comes w i s R (t ∷ [])
      plain word = let came = arrived w i s side.content R rs n at same was is in record {
        events = came.events;
        are = came.are;
        after = came.after;
        lawful = subst AreLawfulBatches (sym came.pool) lawful;
        words = (word (run came.events w).pool, tt);
      }

      go : IsSaying p side.content rs (turn_of p side t).content t.said → Comes w i s R (t ∷ [])
      go (inl none) = plain (λ pool. inl none)
      go (inr told) = by told.0 told.1 told.2
        where
          by : (m : Message) → t.said ≡ frame_of m
              → Says p side.content rs (turn_of p side t).content m → Comes w i s R (t ∷ [])
          by (Asks x) said says = plain (λ pool. inr (
            Asks x,
            subst (λ (y : Title). HasFrame (Asks y)) (sym says)
                (title_spelled p (side_after p side t).content party then),
            said,
            inl refl,
          ))
          by (Ends k) said says = plain (λ pool. inr (Ends k, says, said, inl refl))
          by (Carries x batch) said says =
              let v : ℕ → ℕ = says.2.0 in
              let for = says.2.1 in
              let pool : (after_event w (Sends i v for.count)).pool
              ≡ w.pool ++ (missing s.content v for.count ∷ []) =
              ap (λ (o : Option ReplicaState). option_map_or (sent v for.count w.pool) o w.pool) at
              in
              let first : missing s.content v for.count ≡ batch =
              ap (λ (S : Content). missing S v for.count) same ∙ sym for.first in
              let there : slice_get (after_event w (Sends i v for.count)).pool (length w.pool)
              ≡ Some batch =
              ap (λ (l : List (List Record)). slice_get l (length w.pool)) pool
              ∙ (get_last w.pool (missing s.content v for.count) ∙ ap Some first) in
              record {
                events = Sends i v for.count ∷ [];
                are = (inl (v, for.count, refl), tt);
                after = record {
                  here = subst (λ (S : Content). IsReplicaAt w i (record s { content = S }))
                      (sym (stays says.1)) at;
                  others = λ j other. refl;
                };
                lawful = subst AreLawfulBatches (sym pool)
                    (lawful_sent w.pool s.content v for.count lawful
                    (subst IsLawfulContent (sym same) holds));
                words = (
                  inr (
                    Carries x batch,
                    subst (λ (y : Title). HasFrame (Carries y batch)) (sym says.0)
                        (carries_spelled p side.content v batch party holds for),
                    said,
                    inr (length w.pool, there),
                  ),
                  tt,
                );
              }

  all_sent_on : (pool later : List (List Record)) (taken : List Taken) (side : Side)
      → Keeps pool later → WereSent pool p side taken → WereSent later p side taken
  all_sent_on pool later [] side keeps was = tt
  all_sent_on pool later (t ∷ ts) side keeps was = (
    sent_on pool later (records_read (message_to p side t)) keeps was.0,
    all_sent_on pool later ts (side_after p side t) keeps was.1,
  )

  -- frames one after the other, of which the last may have left this
  all_come : (taken : List Taken) (w : World) (s : ReplicaState) (side : Side) (R : Content)
      → IsReplicaAt w i s → s.content ≡ side.content → IsLawfulContent side.content
      → AreLawfulBatches w.pool → WereSent w.pool p side taken → AreAnswered p side taken
      → IsLeftBy p side taken R → Comes w i s R taken
  all_come [] w s side R at same holds lawful was answered left = record {
    events = [];
    are = tt;
    after = record {
      here = subst (λ (S : Content). IsReplicaAt w i (record s { content = S }))
          (same ∙ sym left) at;
      others = λ j other. refl;
    };
    lawful = lawful;
    words = tt;
  }
  all_come (t ∷ []) w s side R at same holds lawful was answered left =
      one_comes w s side t left.0 R at same holds lawful was.0 answered.0.1 left.3
  all_come (t ∷ u ∷ later) w s side R at same holds lawful was answered left =
      let S : Content = (side_after p side t).content in
      let is : S ≡ merged (take (learned_by p side t) (records_read (message_to p side t)))
      side.content = answered_left p side.standing.state side.content t.way (message_to p side t)
      in
      let first = one_comes w s side t (learned_by p side t) S at same holds lawful was.0
      answered.0.1 is in
      let v : World = run first.events w in
      let more = all_come (u ∷ later) v (record s { content = S }) (side_after p side t) R
      first.after.here refl
      (subst IsLawfulContent (sym is) (lawful_merged w.pool side.content (learned_by p side t)
      (records_read (message_to p side t)) lawful holds was.0)) first.lawful
      (all_sent_on w.pool v.pool (u ∷ later) (side_after p side t) (keeps_run first.events w)
      was.1) answered.1 left in
      let joined : run (first.events ++ more.events) w ≡ run more.events v =
      run_append first.events more.events w in
      record {
        events = first.events ++ more.events;
        are = exchange_append i first.events more.events first.are more.are;
        after = subst (λ (x : World). IsReplaced w x i s R) (sym joined) (record {
          here = more.after.here;
          others = λ j other. more.after.others j other ∙ first.after.others j other;
        });
        lawful = subst (λ (x : World). AreLawfulBatches x.pool) (sym joined) more.lawful;
        words = subst (λ (x : World). AllByRecursion (λ y. IsWord x.pool y.said) (t ∷ u ∷ later))
            (sym joined) (
              word_on v.pool (run more.events v).pool t.said (keeps_run more.events v)
                  first.words.0,
              more.words,
            );
      }

-- ---- a dialog over an archive

-- what is held behind the frames is what the last one may leave
left_all : (p : Party) (taken : List Taken) (side : Side) (R : Content)
    → R ≡ (after_all p side taken).content → IsLeftBy p side taken R
left_all p [] side R is = is
left_all p (t ∷ []) side R is = (
  learned_by p side t,
  omega arith,
  omega arith,
  is ∙ answered_left p side.standing.state side.content t.way (message_to p side t),
)
left_all p (t ∷ u ∷ later) side R is = left_all p (u ∷ later) (side_after p side t) R is

-- what was written behind the answers to the frames brings no records
beside_word : (pool : List (List Record)) (taken : List Taken) (last : Option ℕ)
    (rest beside : List ℕ) (ending : Option (Result PeerEnded ServeFault))
    → IsEnd taken last rest beside ending → IsWord pool beside
beside_word pool taken last rest beside None is = inl is.1
beside_word pool taken last rest beside (Some end) (inl by) = inl by.1
beside_word pool taken last rest beside (Some end) (inr (inl by)) = elim by.told [
  | inl told ↦ let n = numbered exchange.Frame in inr (
    Ends (exchange_number exchange.Frame),
    subst (λ (k : ℕ). k < 2 ^ 32) (sym n.2) n.1,
    told.1,
    inl refl,
  )
  | inr none ↦ inl none.1
]
beside_word pool taken last rest beside (Some end) (inr (inr by)) =
    inr (Ends 4, omega arith, by.told, inl refl)

module _ (a b : Store) (start last : DialogState) (came out rest : List ℕ)
    (ending : Option (Result PeerEnded ServeFault))
    (talks : Talks start a b came out rest ending last)
    (rests : IsQuiescent a) (whole : a.broken ≡ false) (honest : b.honest) where
  -- what the archive is left with is what the last frame may leave
  left_by : (R : Content) → IsLeft b R
      → IsLeftBy (party_of a) (side_of start a.content) talks.taken R
  left_by R (inl held) = left_all (party_of a) talks.taken (side_of start a.content) R
      (sym held.1 ∙ talks.content honest a.content (λ u. refl) held.0)
  left_by R (inr found) = elim (talks.crash honest a.content (λ u. refl) R found) [
    | inl before ↦ left_all (party_of a) talks.taken (side_of start a.content) R
        ((rests (talks.passes.honest honest) whole).only R before.0 ∙ sym (before.1 whole))
    | inr more ↦ more.1
  ]

  pub frames_made : (w : World) (i : ℕ) (s : ReplicaState) (R : Content) → IsParty (party_of a)
      → IsLeft b R → WereSent w.pool (party_of a) (side_of start a.content) talks.taken
      → AreLawfulBatches w.pool → IsReplicaAt w i s → s.content ≡ a.content
      → (events : List Event) × AllByRecursion (IsExchange i) events
      × IsReplaced w (run events w) i s R × BringsSent (run events w).pool out × AreWholeFrames out
  frames_made w i s R party left was lawful at same =
      let come = all_come (party_of a) party i talks.taken w s (side_of start a.content) R at same
      (rests (talks.passes.honest honest) whole).lawful lawful was
      (talks.answered honest a.content (λ u. refl)) (left_by R left) in
      let pool : List (List Record) = (run come.events w).pool in
      let beside : IsWord pool talks.beside =
      beside_word pool talks.taken last.code rest talks.beside ending talks.ends in (
        come.events,
        come.are,
        come.after,
        λ frame is p. words_sent pool frame p talks.taken talks.beside come.words beside is.0 is.1
            (subst (λ (l : List ℕ). AreFrames l is.0 is.1) talks.wrote is.2) is.3,
        subst AreWholeFrames (sym talks.wrote)
            (words_whole pool talks.taken talks.beside come.words beside),
      )

-- ---- records that are learned ahead of their frame's turn

module _ (a b : Store) (start last : DialogState) (rs : List Record)
    (result : Result (Option ℕ) ExchangeFault) (learns : LearnsAhead a b start last rs result)
    (rests : IsQuiescent a) (whole : a.broken ≡ false) (honest : b.honest) where
  -- what the archive is left with is what it held, with some first ones of them
  ahead_left : (R : Content) → IsLeft b R → (k : ℕ) × (R ≡ merged (take k rs) a.content)
  ahead_left R (inl held) = (learns.learned, sym held.1 ∙ learns.content honest held.0)
  ahead_left R (inr found) = elim (learns.crash honest R found) [
    | inl before ↦ (0, (rests (learns.passes.honest honest) whole).only R before.0)
    | inr more ↦ (more.1, more.4)
  ]

  pub ahead_made : (w : World) (i : ℕ) (s : ReplicaState) (R : Content) → IsLeft b R
      → IsSent w.pool rs → IsReplicaAt w i s → s.content ≡ a.content → Arrives w i s R
  ahead_made w i s R left was at same = let k = ahead_left R left in
      arrived w i s a.content R rs k.0 at same was k.1
