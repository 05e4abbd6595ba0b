-- How the frames of a dialog make the dialog.
use Rattle.std.proofs.Common.{◌≡◌, ◌⊎◌, ℕ, suc, ◌+◌, Bool, true, false, List, [], ◌∷◌, ◌++◌, map, take, drop, length, Option, Some, None, Result, Ok, Err, refl, sym, ◌∙◌, ap, subst, append_assoc, arith, inl, inr, option_to_list}
use Rattle.std.specs.List.{flat_map}
use Rattle.std.proofs.lemmas.Option.{none-some}
use Rattle.std.proofs.lemmas.List.{map-append, append-nil, take-append-drop, take_all}
use Rattle.std.proofs.lemmas.Grind.{flat_map-append}
use Rattle.std.proofs.Math.Bool.{or-false}
use Rattle.std.proofs.lemmas.Bool.{true≢false}
use Rattle.records.specs.Contents.{Content, merged}
use Rattle.records.specs.declared.record.Record.{Record}
use Rattle.archive.specs.declared.fault.StoreFault.{StoreFault}
use Rattle.archive.specs.Store.{Store, CountsFaults}
use Rattle.archive.proofs.Calls.{passes-none, passes-then}
use Rattle.exchange.specs.declared.fault.ExchangeFault.{ExchangeFault}
use Rattle.exchange.specs.declared.fault.ExchangeFault.TheVariants as exchange
use Rattle.exchange.specs.declared.message.State.{State}
use Rattle.exchange.specs.declared.message.State.TheVariants.{Pulling, Pushing, Serving, Done, Failed}
use Rattle.exchange.specs.Messages.{Party, Message}
use Rattle.exchange.specs.Frames.{end_frame, frame_header}
use Rattle.exchange.specs.Streams.{FrameContent, AreFrames, header_of}
use Rattle.exchange.specs.Dialogs.{Turn, Way, Clear, Unread, Stopped, Starved, Met, DialogState, fault_on, received, records_in, records_read, learned_at, answered_to, frame_answered, party_of, IsHeld, Writes, Takes, TellsFault}
use Rattle.exchange.proofs.StreamLemmas.{given_frame}
use Rattle.exchange.specs.Merging.{MayBeLeft, learned_of}
use Rattle.exchange.proofs.HandleLemmas.{unbroken_before}
use Rattle.exchange.proofs.LeftLemmas.{answered_left}
use Rattle.counted_io.specs.declared.fault.ServeFault.{ServeFault}
use Rattle.ua_peers.specs.declared.peers.PeerEnded.{PeerEnded}
use Rattle.ua_peers.specs.declared.peers.PeerEnded.TheVariants as parted
use Rattle.ua_peers.specs.Peers.{Taken, Side, side_of, turn_of, side_after, after_all, AreAnswered, message_to, learned_by, IsLeftBy, AreOpen, failed_as, ended_as, is_silent, IsEnd, Talks, TalksOnce}
use Rattle.ua_peers.proofs.PeersParts.{faults_met, is_open}

-- ---- lists of frames

answered-append : (p : Party) (side : Side) (xs ys : List Taken) → AreAnswered p side xs
    → AreAnswered p (after_all p side xs) ys → AreAnswered p side (xs ++ ys)
answered-append p side [] ys a b = b
answered-append p side (x ∷ xs) ys a b = (a.0, answered-append p (side_after p side x) xs ys a.1 b)

after-append : (p : Party) (side : Side) (xs ys : List Taken)
    → after_all p side (xs ++ ys) ≡ after_all p (after_all p side xs) ys
after-append p side [] ys = refl
after-append p side (x ∷ xs) ys = after-append p (side_after p side x) xs ys

open-append : (xs ys : List Taken) → AreOpen xs → AreOpen ys → AreOpen (xs ++ ys)
open-append [] ys a b = b
open-append (x ∷ xs) ys a b = (a.0, open-append xs ys a.1 b)

frames-append : (bytes : List ℕ) (ps qs : List FrameContent) (mid rest : List ℕ)
    → AreFrames bytes ps mid → AreFrames mid qs rest → AreFrames bytes (ps ++ qs) rest
frames-append bytes [] qs mid rest f g = subst (λ (b : List ℕ). AreFrames b qs rest) (sym f) g
frames-append bytes (p ∷ ps) qs mid rest f g =
    (f.0, f.1, f.2, f.3, frames-append f.1 ps qs mid rest f.4 g)

frames-more : (bytes : List ℕ) (ps : List FrameContent) (rest piece : List ℕ)
    → AreFrames bytes ps rest → AreFrames (bytes ++ piece) ps (rest ++ piece)
frames-more bytes [] rest piece f = ap (λ (b : List ℕ). b ++ piece) f
frames-more bytes (p ∷ ps) rest piece f = (
  f.0,
  f.1 ++ piece,
  ap (λ (b : List ℕ). b ++ piece) f.2 ∙ append_assoc f.0 f.1 piece,
  f.3,
  frames-more f.1 ps rest piece f.4,
)

end-behind : (xs ys : List Taken) (code : Option ℕ) (rest beside : List ℕ)
    (ending : Option (Result PeerEnded ServeFault)) → AreOpen xs → IsEnd ys code rest beside ending
    → IsEnd (xs ++ ys) code rest beside ending
end-behind xs ys code rest beside None on e = (open-append xs ys on e.0, e.1)
end-behind xs ys code rest beside (Some ending) on e = elim e [
  | inl f ↦ inl (
    record {
      before = xs ++ f.0.before;
      last = f.0.last;
      all = ap (λ (l : List Taken). xs ++ l) f.0.all
          ∙ sym (append_assoc xs f.0.before (f.0.last ∷ []));
      goes = open-append xs f.0.before on f.0.goes;
      ends = f.0.ends;
    },
    f.1,
  )
  | inr q ↦ elim q [
    | inl b ↦ inr (inl
        (record {
          goes = open-append xs ys on b.goes;
          malformed = b.malformed;
          fault = b.fault;
          told =
              b.told;
          ends = b.ends;
        }))
    | inr w ↦ inr (inr
        (record { goes = open-append xs ys on w.goes; told = w.told; ends = w.ends }))
  ]
]

-- ---- what a frame may leave

pub written-so : (turn : Turn) (next : State) (said : List ℕ) → Writes turn (Ok next) [] said
    → turn.result ≡ Ok next
written-so turn next said w = elim w [
  | inl told ↦ sym told.0
  | inr starved ↦ absurd (cc)
]

-- where the dialog goes on, all records of the frame were learned
all-learned : (p : Party) (state next : State) (R : Content) (way : Way)
    (r : Result Message ExchangeFault)
    → (answered_to p state R way r).result ≡ Ok next
    → learned_at p state R way r ≡ length (records_read r)
all-learned p state next R Clear (Ok m) e =
    ap (λ (v : Result State ExchangeFault). learned_of (records_in m) v) e
all-learned p state next R Clear (Err f) e = refl
all-learned p state next R Unread (Ok m) e = absurd (cc)
all-learned p state next R Unread (Err f) e = refl
all-learned p state next R Starved (Ok m) e = absurd (cc)
all-learned p state next R Starved (Err f) e = refl
all-learned p state next R (Stopped learned fault) (Ok m) e = absurd (cc)
all-learned p state next R (Stopped learned fault) (Err f) e = refl
all-learned p state next R (Met fault) (Ok m) e = absurd (cc)
all-learned p state next R (Met fault) (Err f) e = refl

-- so it leaves what the side holds then
open-left : (p : Party) (side : Side) (t : Taken) (left : Content) → AreAnswered p side (t ∷ [])
    → AreOpen (t ∷ []) → IsLeftBy p side (t ∷ []) left → left ≡ (side_after p side t).content
open-left p side t left answers on by = go t.result refl
  where
    rs : List Record
    rs = records_read (message_to p side t)

    held : (side_after p side t).content ≡ merged (take (learned_by p side t) rs) side.content
    held = answered_left p side.standing.state side.content t.way (message_to p side t)

    go : (result : Result State ExchangeFault) → t.result ≡ result
        → left ≡ (side_after p side t).content
    go (Err fault) is = absurd (true≢false (sym on.0 ∙ ap is_open is))
    go (Ok next) is =
        let w = subst (λ (r : Result State ExchangeFault). Writes (turn_of p side t) r [] t.said) is
        answers.0.1 in
        let all : learned_by p side t ≡ length rs =
        all-learned p side.standing.state next side.content t.way (message_to p side t)
        (written-so (turn_of p side t) next t.said w) in
        let least = by.1 in
        let whole : take by.0 rs ≡ rs = take_all by.0 rs (omega (arith, least, all)) in
        let same : take (learned_by p side t) rs ≡ rs =
        take_all (learned_by p side t) rs (omega (arith, all)) in
        by.3 ∙ (ap (λ (l : List Record). merged l side.content) (whole ∙ sym same) ∙ sym held)

-- what is held behind the last frame may be left
holds-left : (p : Party) (side : Side) (taken : List Taken)
    → IsLeftBy p side taken (after_all p side taken).content
holds-left p side [] = refl
holds-left p side (t ∷ []) = (
  learned_by p side t,
  omega arith,
  omega arith,
  answered_left p side.standing.state side.content t.way (message_to p side t),
)
holds-left p side (t ∷ u ∷ later) = holds-left p (side_after p side t) (u ∷ later)

-- an open dialog leaves what the side holds then
all-open-left : (p : Party) (side : Side) (taken : List Taken) (left : Content)
    → AreAnswered p side taken → AreOpen taken → IsLeftBy p side taken left
    → left ≡ (after_all p side taken).content
all-open-left p side [] left answers on by = by
all-open-left p side (t ∷ []) left answers on by = open-left p side t left answers on by
all-open-left p side (t ∷ u ∷ later) left answers on by =
    all-open-left p (side_after p side t) (u ∷ later) left answers.1 on.1 by

-- and what frames behind it may leave, the whole may
left-behind : (p : Party) (side : Side) (xs ys : List Taken) (left : Content)
    → IsLeftBy p (after_all p side xs) ys left → IsLeftBy p side (xs ++ ys) left
left-behind p side [] ys left by = by
left-behind p side (x ∷ []) [] left by =
    subst (IsLeftBy p side (x ∷ [])) (sym by) (holds-left p side (x ∷ []))
left-behind p side (x ∷ []) (y ∷ ys) left by = by
left-behind p side (x ∷ z ∷ xs) ys left by = left-behind p (side_after p side x) (z ∷ xs) ys left by

-- ---- dialogs

-- nothing came yet
pub talks-start : (start : DialogState) (a : Store) (rest : List ℕ)
    → Talks start a a rest [] rest None start
talks-start start a rest = record {
  taken = [];
  beside = [];
  frames = refl;
  wrote = refl;
  ends = (tt, refl);
  passes = passes-none a;
  answered = λ h R held. tt;
  stands = λ h R held. refl;
  content = λ h R held. held;
  used = λ h u o. u;
  crash = λ h R held left m. inl (m, λ u. refl);
}

pub once-start : (start : DialogState) (a : Store) (rest : List ℕ) → frame_header rest ≡ Ok None
    → TalksOnce start a a rest [] rest None start
unfolding talks-start
once-start start a rest short =
    record { talks = talks-start start a rest; one = omega (arith); some = λ none goes. short }

same-party : (a b : Store) (faults : List StoreFault) → CountsFaults a b faults
    → party_of b ≡ party_of a
same-party a b faults p =
    ap (λ (l : List ℕ). let q : Party = record { id = l; own = b.own } in q) p.id
    ∙ ap (λ (n : ℕ). let q : Party = record { id = a.id; own = n } in q) p.own

same-side : (x : Side) (s : DialogState) → s ≡ x.standing → side_of s x.content ≡ x
same-side x s e = ap (λ (t : DialogState). side_of t x.content) e

-- one stretch after another
pub talks-then : (start mid last : DialogState) (a b c : Store) (came out rest more left : List ℕ)
    (ending : Option (Result PeerEnded ServeFault)) → Talks start a b came out rest None mid
    → Talks mid b c rest more left ending last
    → Talks start a c came (out ++ more) left ending last
talks-then start mid last a b c came out rest more left ending t s =
    let before : c.honest → b.honest = s.passes.honest in
    let party : party_of b ≡ party_of a = same-party a b (faults_met t.taken) t.passes in
    let then : Content → Side = λ R. after_all (party_of a) (side_of start R) t.taken in
    let at : (h : c.honest) (R : Content) → IsHeld a R → side_of mid (then R).content ≡ then R =
    λ h R held. same-side (then R) mid (t.stands (before h) R held) in
    let whole : (h : c.honest) (R : Content) → IsHeld a R
    → after_all (party_of b) (side_of mid (then R).content) s.taken
    ≡ after_all (party_of a) (side_of start R) (t.taken ++ s.taken) =
    λ h R held.
    ap (λ (q : Party). after_all q (side_of mid (then R).content) s.taken) party
    ∙ (ap (λ (x : Side). after_all (party_of a) x s.taken) (at h R held)
    ∙ sym (after-append (party_of a) (side_of start R) t.taken s.taken)) in
    record {
      taken = t.taken ++ s.taken;
      beside = s.beside;
      frames = subst (λ (ps : List FrameContent). AreFrames came ps left)
          (sym (map-append (λ (t : Taken). t.frame) t.taken s.taken))
          (frames-append came (map (λ t. t.frame) t.taken)
          (map (λ t. t.frame) s.taken) rest left t.frames s.frames);
      wrote =
          ap (λ (o : List ℕ). o ++ more) (t.wrote
          ∙ (ap (λ (o : List ℕ). flat_map (λ t. t.said) t.taken ++ o) t.ends.1
          ∙ append-nil (flat_map (λ t. t.said) t.taken)))
          ∙ (ap (λ (o : List ℕ). flat_map (λ t. t.said) t.taken ++ o) s.wrote
          ∙ (sym (append_assoc (flat_map (λ t. t.said) t.taken)
          (flat_map (λ t. t.said) s.taken) s.beside)
          ∙ ap (λ (o : List ℕ). o ++ s.beside) (sym
          (flat_map-append (λ (t : Taken). t.said) t.taken s.taken))));
      ends = end-behind t.taken s.taken last.code left s.beside ending t.ends.0 s.ends;
      passes = subst (λ (fs : List StoreFault). CountsFaults a c fs)
          (sym (flat_map-append (λ (t : Taken). option_to_list (fault_on t.way)) t.taken s.taken))
          (passes-then a b c (faults_met t.taken) (faults_met s.taken) t.passes s.passes);
      answered = λ h R held.
          answered-append (party_of a) (side_of start R) t.taken s.taken
          (t.answered (before h) R held)
          (subst (λ (x : Side). AreAnswered (party_of a) x s.taken) (at h R held)
          (subst (λ (q : Party). AreAnswered q (side_of mid (then R).content) s.taken) party
          (s.answered h (then R).content (t.content (before h) R held))));
      stands = λ h R held. s.stands h (then R).content (t.content (before h) R held)
          ∙ ap (λ (x : Side). x.standing) (whole h R held);
      content = λ h R held u. s.content h (then R).content (t.content (before h) R held) u
          ∙ ap (λ (x : Side). x.content) (whole h R held);
      used = λ h u o. s.used h (t.used (before h) u refl) o;
      crash = λ h R held x m.
          let held-then = t.content (before h) R held in
          elim (s.crash h (then R).content held-then x m) [
            | inl p ↦ elim (t.crash (before h) R held x p.0) [
              | inl q ↦ inl (
                q.0,
                λ u. ap (λ (y : Side). y.content) (sym (whole h R held))
                    ∙ (p.1 (t.used (before h) u refl) ∙ q.1 u),
              )
              | inr q ↦
                  let same : x ≡ (then R).content =
                  all-open-left (party_of a) (side_of start R) t.taken x
                  (t.answered (before h) R held) t.ends.0 q.1 in
                  let stays : x ≡ (after_all (party_of a) (side_of start R)
                  (t.taken ++ s.taken)).content =
                  same ∙ (sym (p.1 (t.used (before h) q.0 refl))
                  ∙ ap (λ (y : Side). y.content) (whole h R held)) in
                  inr (
                    q.0,
                    subst (IsLeftBy (party_of a) (side_of start R) (t.taken ++ s.taken)) (sym stays)
                        (holds-left (party_of a) (side_of start R) (t.taken ++ s.taken)),
                  )
            ]
            | inr p ↦ inr (
              unbroken_before a b (faults_met t.taken) t.passes p.0,
              left-behind (party_of a) (side_of start R) t.taken s.taken x
                  (subst (λ (y : Side). IsLeftBy (party_of a) y s.taken x) (at h R held)
                  (subst (λ (q : Party). IsLeftBy q (side_of mid (then R).content) s.taken x) party
                  p.1)),
            )
          ];
    }

-- more bytes came
pub talks-more : (start last : DialogState) (a b : Store) (came out rest piece : List ℕ)
    → Talks start a b came out rest None last
    → Talks start a b (came ++ piece) out (rest ++ piece) None last
talks-more start last a b came out rest piece t = record {
  taken = t.taken;
  beside = t.beside;
  frames = frames-more came (map (λ t. t.frame) t.taken) rest piece t.frames;
  wrote = t.wrote;
  ends = t.ends;
  passes = t.passes;
  answered = t.answered;
  stands = t.stands;
  content = t.content;
  used = t.used;
  crash = t.crash;
}

-- memory for what came was wanting
pub talks-starved : (start last : DialogState) (a b : Store) (came out rest : List ℕ)
    → Talks start a b came out rest None last
    → Talks start a b came (out ++ end_frame 4) rest
    (Some (Ok (parted.Failed exchange.OutOfMemory))) last
talks-starved start last a b came out rest t = record {
  taken = t.taken;
  beside = end_frame 4;
  frames = t.frames;
  wrote = ap (λ (o : List ℕ). o ++ end_frame 4) (t.wrote
      ∙ (ap (λ (o : List ℕ). flat_map (λ t. t.said) t.taken ++ o) t.ends.1
      ∙ append-nil (flat_map (λ t. t.said) t.taken)));
  ends = inr (inr (record { goes = t.ends.0; told = refl; ends = refl }));
  passes = t.passes;
  answered = t.answered;
  stands = t.stands;
  content = t.content;
  used = λ h u o. absurd (cc);
  crash = t.crash;
}

-- ---- one frame

-- where the dialog goes on, no fault of the store came in the way
pub clear-so : (p : Party) (state next : State) (R : Content) (way : Way)
    (r : Result Message ExchangeFault) → (answered_to p state R way r).result ≡ Ok next
    → fault_on way ≡ None
clear-so p state next R Clear r e = refl
clear-so p state next R Unread r e = refl
clear-so p state next R Starved r e = refl
clear-so p state next R (Stopped learned fault) (Ok m) e = absurd (cc)
clear-so p state next R (Stopped learned fault) (Err f) e = absurd (cc)
clear-so p state next R (Met fault) (Ok m) e = absurd (cc)
clear-so p state next R (Met fault) (Err f) e = absurd (cc)

end-one : (frame : FrameContent) (way : Way) (said : List ℕ) (result : Result State ExchangeFault)
    (code : Option ℕ) (rest : List ℕ)
    → IsEnd ((record { frame = frame; way = way; result = result; said = said }) ∷ []) code rest []
    (ended_as code (is_silent said) result)
end-one frame way said (Ok Pulling) code rest = ((refl, tt), refl)
end-one frame way said (Ok Pushing) code rest = ((refl, tt), refl)
end-one frame way said (Ok Serving) code rest = ((refl, tt), refl)
end-one frame way said (Ok Done) code rest =
    inl (
      record {
        before = [];
        last = record {
          frame = frame;
          way = way;
          result = Ok Done;
          said =
              said;
        };
        all = refl;
        goes = tt;
        ends = refl;
      },
      refl,
    )
end-one frame way said (Ok Failed) code rest =
    inl (
      record {
        before = [];
        last = record {
          frame = frame;
          way = way;
          result = Ok Failed;
          said =
              said;
        };
        all = refl;
        goes = tt;
        ends = refl;
      },
      refl,
    )
end-one frame way said (Err fault) code rest =
    inl (
      record {
        before = [];
        last = record {
          frame = frame;
          way = way;
          result = Err fault;
          said =
              said;
        };
        all = refl;
        goes = tt;
        ends = refl;
      },
      refl,
    )

goes-on : (code : Option ℕ) (silent : Bool) (result : Result State ExchangeFault)
    → ended_as code silent result ≡ None → (next : State) × (result ≡ Ok next)
goes-on code silent (Ok state) e = (state, refl)
goes-on code silent (Err fault) e = absurd (cc)

still-used : (a b : Store) (fault : Option StoreFault) → CountsFaults a b (option_to_list fault)
    → fault ≡ None → a.broken ≡ false → b.broken ≡ false
still-used a b fault p none u =
    let q : CountsFaults a b [] = subst (λ (f : Option StoreFault).
    CountsFaults a b (option_to_list f)) none p in
    q.broken ∙ (or-false a.broken ∙ u)

-- one frame, by what the store may hold behind it
left-frame : (a : Store) (before : DialogState) (R : Content) (t : Taken) (left : Content)
    → IsHeld a R
    → MayBeLeft a (records_read (message_to (party_of a) (side_of before R) t))
    (learned_by (party_of a) (side_of before a.content) t) left
    → (a.may_hold left × (a.broken ≡ false
    → (side_after (party_of a) (side_of before R) t).content ≡ R))
    ⊎ ((a.broken ≡ false) × IsLeftBy (party_of a) (side_of before R) (t ∷ []) left)
left-frame a before R t left held (inl old) =
    let p = party_of a in
    let r = message_to p (side_of before a.content) t in
    inl (
      old.0,
      λ u.
          subst (λ (S : Content). (answered_to p before.state S t.way r).content ≡ S) (held u)
          (answered_left p before.state a.content t.way r
          ∙ ap (λ (n : ℕ). merged (take n (records_read r)) a.content) old.1),
    )
left-frame a before R t left held (inr q) =
    let last : IsLeftBy (party_of a) (side_of before a.content) (t ∷ []) left =
    (q.1, q.2, q.3, q.4) in
    inr (
      q.0,
      subst (λ (S : Content). IsLeftBy (party_of a) (side_of before S) (t ∷ []) left)
          (held q.0) last,
    )

pub talks-frame : (a b : Store) (before next : DialogState) (frame : FrameContent)
    (waiting said : List ℕ) (result : Result State ExchangeFault)
    → frame_header waiting ≡ Ok (Some (header_of frame))
    → Rattle.exchange.specs.Frames.IsWholeFrame waiting (header_of frame)
    → frame.body ≡ drop 8 (take (8 + length frame.body) waiting)
    → Takes a b before next frame.kind frame.body [] said result
    → Talks before a b waiting said (drop (8 + length frame.body) waiting)
    (ended_as next.code (is_silent said) result) next
talks-frame a b before next frame waiting said result stands within body takes =
    let t : Taken = record { frame = frame; way = takes.way; result = result; said = said } in
    record {
      taken = t ∷ [];
      beside = [];
      frames = (
        take (8 + length frame.body) waiting,
        drop (8 + length frame.body) waiting,
        sym (take-append-drop (8 + length frame.body) waiting),
        given_frame waiting frame stands within body,
        refl,
      );
      wrote = sym (append-nil (said ++ []) ∙ append-nil said);
      ends = end-one frame takes.way said result next.code (drop (8 + length frame.body) waiting);
      passes = subst (λ (fs : List StoreFault). CountsFaults a b fs)
          (sym (append-nil (option_to_list (fault_on takes.way)))) takes.passes;
      answered = λ h R held. ((takes.outside, takes.writes h R held), tt);
      stands = λ h R held. takes.stands h R held;
      content = λ h R held u. takes.content h u
          ∙ ap (λ (S : Content). (frame_answered
          (party_of a) before S takes.way frame.kind frame.body).content)
          (held (unbroken_before a b _ takes.passes u));
      used = λ h u o.
          let on = goes-on next.code (is_silent said) result o in
          let w = subst (λ (r : Result State ExchangeFault).
          Writes (frame_answered (party_of a) before a.content takes.way frame.kind frame.body)
          r [] said) on.1 (takes.writes h a.content (λ x. refl)) in
          let none = clear-so (party_of a) before.state on.0 a.content takes.way
          (received (party_of a) before frame.kind frame.body)
          (written-so (frame_answered
          (party_of a) before a.content takes.way frame.kind frame.body) on.0 said w) in
          still-used a b (fault_on takes.way) takes.passes none u;
      crash = λ h R held left m. left-frame a before R t left held (takes.crash h left m);
    }

pub once-frame : (a b : Store) (before next : DialogState) (frame : FrameContent)
    (waiting said : List ℕ) (result : Result State ExchangeFault)
    → frame_header waiting ≡ Ok (Some (header_of frame))
    → Rattle.exchange.specs.Frames.IsWholeFrame waiting (header_of frame)
    → frame.body ≡ drop 8 (take (8 + length frame.body) waiting)
    → Takes a b before next frame.kind frame.body [] said result
    → TalksOnce before a b waiting said (drop (8 + length frame.body) waiting)
    (ended_as next.code (is_silent said) result) next
unfolding talks-frame
once-frame a b before next frame waiting said result stands within body takes = record {
  talks = talks-frame a b before next frame waiting said result stands within body takes;
  one = omega (arith);
  some = λ none goes. absurd (cc);
}

-- what came is no frame
pub talks-malformed : (a : Store) (before : DialogState) (waiting beside : List ℕ)
    (fault : ExchangeFault)
    → frame_header waiting ≡ Err exchange.Frame → TellsFault exchange.Frame (Err fault) [] beside
    → Talks before a a waiting beside waiting (Some (failed_as (is_silent beside) fault)) before
talks-malformed a before waiting beside fault malformed told = record {
  taken = [];
  beside = beside;
  frames = refl;
  wrote = refl;
  ends = inr (inl (record {
    goes = tt;
    malformed = malformed;
    fault = fault;
    told = told;
    ends =
        refl;
  }));
  passes = passes-none a;
  answered = λ h R held. tt;
  stands = λ h R held. refl;
  content = λ h R held. held;
  used = λ h u o. absurd (cc);
  crash = λ h R held left m. inl (m, λ u. refl);
}

pub once-malformed : (a : Store) (before : DialogState) (waiting beside : List ℕ)
    (fault : ExchangeFault)
    → frame_header waiting ≡ Err exchange.Frame → TellsFault exchange.Frame (Err fault) [] beside
    → TalksOnce before a a waiting beside waiting (Some (failed_as (is_silent beside) fault)) before
unfolding talks-malformed
once-malformed a before waiting beside fault malformed told = record {
  talks = talks-malformed a before waiting beside fault malformed told;
  one = omega (arith);
  some = λ none goes. absurd (none-some _ (sym goes));
}
