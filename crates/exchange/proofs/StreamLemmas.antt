-- A dialog's bytes are one stream of frames, whatever pieces they come in.
use Rattle.std.proofs.Common.{◌≡◌, ◌≢◌, ℕ, ◌+◌, ◌≤◌, Bool, true, false, ◌||◌, cond, List, [], ◌∷◌, ◌++◌, length, take, drop, Some, None, Ok, Err, refl, sym, ◌∙◌, ap, subst, arith, rules, nat_lt}
use Rattle.std.specs.Prelude.{Option, Result}
use Rattle.std.proofs.lemmas.List.{take-append-le, length-append, append_assoc, append-nil, take-take, length-take, take-append-drop}
use Rattle.std.proofs.lemmas.Bool.{ltb-false, ltb-true, le-ltb, true≢false}
use Rattle.std.proofs.Math.Seq.{drop-append_seam, take-append_seam}
use Rattle.exchange.specs.declared.fault.ExchangeFault.{ExchangeFault}
use Rattle.exchange.specs.declared.fault.ExchangeFault.TheVariants.{Frame}
use Rattle.exchange.specs.declared.message.FrameKind.{FrameKind}
use Rattle.exchange.specs.declared.message.Header.{Header}
use Rattle.exchange.specs.Batches.{longest_frame}
use Rattle.exchange.specs.Frames.{frame_header, titled, kind_at, frame_size_at, ReceivedFrames, no_frames, next_of, after_next, IsWholeFrame}
use Rattle.exchange.specs.Streams.{FrameContent, IsFrame, AreFrames, verdict, AreFramesThenRest, FramesCall, Fed, Gave, Waited, Refused, header_of, DoesFramesCall, RunsFrames, fed_of, given_of, ended}

-- ---- what stands first, whatever follows

chosen_more : {X : Type 0} (b c d : Bool) (x u v : X) → (d ≡ true → c ≡ true)
    → cond b x (cond c u v) ≢ u → cond b x (cond d u v) ≡ cond b x (cond c u v)
chosen_more true c d x u v more settled = refl
chosen_more false true d x u v more settled = absurd (settled refl)
chosen_more false false false x u v more settled = refl
chosen_more false false true x u v more settled = absurd (true≢false (sym (more refl)))

fewer : (n k size : ℕ) → n ≤ k → nat_lt k size ≡ true → nat_lt n size ≡ true
fewer n k size le more = grind (arith, rules)

titled_more : (n k : ℕ) (head : List ℕ) (kind : Option FrameKind) → n ≤ k
    → titled n head kind ≢ Ok None → titled k head kind ≡ titled n head kind
titled_more n k head None le settled = refl
titled_more n k head (Some kind) le settled =
    chosen_more (nat_lt (frame_size_at head) 12 || nat_lt longest_frame (frame_size_at head))
    (nat_lt n (frame_size_at head)) (nat_lt k (frame_size_at head)) (Err Frame) (Ok None)
    (Ok (Some (record { kind = kind; size = frame_size_at head })))
    (fewer n k (frame_size_at head) le) settled

settled_if : {X : Type 0} (b : Bool) (u v : X) → cond b u v ≢ u → b ≡ false
settled_if true u v settled = absurd (settled refl)
settled_if false u v settled = refl

cut_long : (bytes : List ℕ) → nat_lt (length bytes) 8 ≡ false
    → frame_header bytes ≡ titled (length bytes) (take 8 bytes) (kind_at (take 8 bytes))
unfolding frame_header
cut_long bytes long = rw long refl

cut_eight : (bytes : List ℕ) → frame_header bytes ≢ Ok None → nat_lt (length bytes) 8 ≡ false
unfolding frame_header
cut_eight bytes settled = settled_if (nat_lt (length bytes) 8) (Ok None)
    (titled (length bytes) (take 8 bytes) (kind_at (take 8 bytes))) settled

pub cut_append : (front more : List ℕ) → frame_header front ≢ Ok None
    → frame_header (front ++ more) ≡ frame_header front
cut_append front more settled =
    let short = cut_eight front settled in
    let eight : 8 ≤ length front = ltb-false _ _ short in
    let long : nat_lt (length (front ++ more)) 8 ≡ false =
    le-ltb _ _ (omega (arith, eight, length-append front more)) in
    let same : take 8 (front ++ more) ≡ take 8 front = take-append-le 8 front more eight in
    let le : length front ≤ length (front ++ more) = omega (arith, length-append front more) in
    cut_long (front ++ more) long
    ∙ (ap (λ head. titled (length (front ++ more)) head (kind_at head)) same
    ∙ (titled_more (length front) (length (front ++ more)) (take 8 front)
    (kind_at (take 8 front)) le (λ e. settled (cut_long front short ∙ e))
    ∙ sym (cut_long front short)))

some_not_none : (h : Header) (r : Result (Option Header) ExchangeFault) → r ≡ Ok (Some h)
    → r ≢ Ok None
some_not_none h r e f = cc

err_not_none : (r : Result (Option Header) ExchangeFault) → r ≡ Err Frame → r ≢ Ok None
err_not_none r e f = cc

-- ---- a frame by itself

sized_front : (b c d : Bool) (n size : ℕ) (kind : FrameKind) (h : Header) → nat_lt n size ≡ c
    → nat_lt h.size size ≡ d
    → ◌≡◌ {A = Result (Option Header) ExchangeFault}
    (cond b (Err Frame) (cond c (Ok None) (Ok (Some (record { kind = kind; size = size })))))
    (Ok (Some h))
    → ◌≡◌ {A = Result (Option Header) ExchangeFault}
    (cond b (Err Frame) (cond d (Ok None) (Ok (Some (record { kind = kind; size = size })))))
    (Ok (Some h))
sized_front true c d n size kind h p q e = absurd (cc)
sized_front false true d n size kind h p q e = absurd (cc)
sized_front false false false n size kind h p q e = e
sized_front false false true n size kind h p q e =
    let made : Header = record { kind = kind; size = size } in
    let same : made ≡ h = cc in
    let size_is : size ≡ h.size = ap (λ (x : Header). x.size) same in
    let below = ltb-true _ _ q in
    absurd (omega (arith, size_is, below))

titled_front : (n : ℕ) (head : List ℕ) (kind : Option FrameKind) (h : Header)
    → titled n head kind ≡ Ok (Some h) → titled h.size head kind ≡ Ok (Some h)
titled_front n head None h e = absurd (cc)
titled_front n head (Some kind) h e =
    sized_front (nat_lt (frame_size_at head) 12 || nat_lt longest_frame (frame_size_at head))
    (nat_lt n (frame_size_at head)) (nat_lt h.size (frame_size_at head)) n
    (frame_size_at head) kind h refl refl e

cut_front : (bytes : List ℕ) (h : Header) → IsWholeFrame bytes h → frame_header bytes ≡ Ok (Some h)
    → frame_header (take h.size bytes) ≡ Ok (Some h)
cut_front bytes h within e =
    let long : nat_lt (length bytes) 8 ≡ false = le-ltb _ _ (omega (arith, within.0, within.1)) in
    let count : length (take h.size bytes) ≡ h.size =
    omega (arith, length-take h.size bytes, within.1) in
    let enough : nat_lt (length (take h.size bytes)) 8 ≡ false =
    le-ltb _ _ (omega (arith, count, within.0)) in
    let head : take 8 (take h.size bytes) ≡ take 8 bytes =
    take-take 8 h.size bytes (omega (arith, within.0)) in
    cut_long (take h.size bytes) enough
    ∙ (ap (λ n. titled n (take 8 (take h.size bytes)) (kind_at (take 8 (take h.size bytes)))) count
    ∙ (ap (λ (x : List ℕ). titled h.size x (kind_at x)) head
    ∙ titled_front (length bytes) (take 8 bytes) (kind_at (take 8 bytes)) h
    (sym (cut_long bytes long) ∙ e)))

-- what is given out is a whole frame
pub given_frame : (bytes : List ℕ) (piece : FrameContent)
    → frame_header bytes ≡ Ok (Some (header_of piece)) → IsWholeFrame bytes (header_of piece)
    → piece.body ≡ drop 8 (take (8 + length piece.body) bytes)
    → IsFrame piece (take (8 + length piece.body) bytes)
given_frame bytes piece e within body =
    let size : ℕ = 8 + length piece.body in
    let count : length (take (8 + length piece.body) bytes) ≡ 8 + length piece.body =
    omega (arith, length-take (8 + length piece.body) bytes, within.1) in
    record {
      whole = cut_front bytes (header_of piece) within e
          ∙ ap (λ n. let r : Result (Option Header) ExchangeFault =
          Ok (Some (record { kind = piece.kind; size = n })) in r) (sym count);
      body = sym body;
    }

-- ---- runs

pub next_sound : (held : ReceivedFrames) (r : Result (Option Header) ExchangeFault)
    → next_of held ≡ r → r ≢ Err Frame → (held.failed ≡ false) × (frame_header held.waiting ≡ r)
next_sound held r e sound = go held.failed refl e
  where
    go : (x : Bool) → held.failed ≡ x → cond x (Err Frame) (frame_header held.waiting) ≡ r
        → (held.failed ≡ false) × (frame_header held.waiting ≡ r)
    go true p q = absurd (sound (sym q))
    go false p q = (p, q)

some_fine : (h : Header) (r : Result (Option Header) ExchangeFault) → r ≡ Ok (Some h)
    → r ≢ Err Frame
some_fine h r e f = cc

none_fine : (r : Result (Option Header) ExchangeFault) → r ≡ Ok None → r ≢ Err Frame
none_fine r e f = cc

-- the bytes that waited and those that were fed are the frames given out and the bytes that wait
kept : (events : List FramesCall) (held held' : ReceivedFrames) → RunsFrames held events held'
    → AreFrames (held.waiting ++ fed_of events) (given_of events) held'.waiting
kept [] held held' run = append-nil held.waiting ∙ sym (ap (λ (h : ReceivedFrames). h.waiting) run)
kept (Fed bytes ∷ events) held held' run =
    let now : ReceivedFrames = record held { waiting = held.waiting ++ bytes } in
    let later = kept events now held' (subst
    (λ (h : ReceivedFrames). RunsFrames h events held') run.1 run.2) in
    subst (λ (all : List ℕ). AreFrames all (given_of events) held'.waiting)
    (append_assoc held.waiting bytes (fed_of events)) later
kept (Gave piece ∷ events) held held' run =
    let size : ℕ = 8 + length piece.body in
    let now : ReceivedFrames = record held { waiting = drop (8 + length piece.body) held.waiting }
    in
    let between : run.0 ≡ now = run.1.1 ∙ ap (after_next held) run.1.0.0 in
    let later = kept events now held' (subst
    (λ (h : ReceivedFrames). RunsFrames h events held') between run.2) in
    let sound = next_sound held (Ok (Some (header_of piece))) run.1.0.0
    (some_fine (header_of piece) (Ok (Some (header_of piece))) refl) in
    let apart : held.waiting ++ fed_of events
    ≡ take (8 + length piece.body) held.waiting
    ++ (drop (8 + length piece.body) held.waiting ++ fed_of events) =
    ap (λ (bytes : List ℕ). bytes ++ fed_of events)
    (sym (take-append-drop (8 + length piece.body) held.waiting))
    ∙ append_assoc (take (8 + length piece.body) held.waiting)
    (drop (8 + length piece.body) held.waiting) (fed_of events) in (
      take (8 + length piece.body) held.waiting,
      drop (8 + length piece.body) held.waiting ++ fed_of events,
      apart,
      given_frame held.waiting piece sound.1 run.1.0.1 run.1.0.2,
      later,
    )
kept (Waited ∷ events) held held' run =
    let between : run.0 ≡ held = run.1.1 ∙ ap (after_next held) run.1.0 in
    kept events held held' (subst (λ (h : ReceivedFrames). RunsFrames h events held') between run.2)
kept (Refused ∷ events) held held' run =
    let now : ReceivedFrames = record held { failed = true } in
    let between : run.0 ≡ now = run.1.1 ∙ ap (after_next held) run.1.0 in
    kept events now held' (subst (λ (h : ReceivedFrames). RunsFrames h events held') between run.2)

pub frames_kept : (events : List FramesCall) (held : ReceivedFrames)
    → RunsFrames no_frames events held → AreFrames (fed_of events) (given_of events) held.waiting
frames_kept events held run = kept events no_frames held run

-- where it failed, the fault stands at what waits
abbrev IsStuck : ReceivedFrames → Type 0
IsStuck held = held.failed ≡ true → frame_header held.waiting ≡ Err Frame

refused_so : (held : ReceivedFrames) → IsStuck held → next_of held ≡ Err Frame
    → frame_header held.waiting ≡ Err Frame
refused_so held stuck e = go held.failed refl e
  where
    go : (x : Bool) → held.failed ≡ x → cond x (Err Frame) (frame_header held.waiting) ≡ Err Frame
        → frame_header held.waiting ≡ Err Frame
    go true p q = stuck p
    go false p q = q

does_stuck : (held held' : ReceivedFrames) (event : FramesCall) → DoesFramesCall held event held'
    → IsStuck held → IsStuck held'
does_stuck held held' (Fed bytes) does stuck =
    let now : ReceivedFrames = record held { waiting = held.waiting ++ bytes } in
    subst IsStuck (sym {b = now} does) (λ f. let e = stuck f in
    cut_append held.waiting bytes (err_not_none (frame_header held.waiting) e) ∙ e)
does_stuck held held' (Gave piece) does stuck =
    let now : ReceivedFrames = record held { waiting = drop (8 + length piece.body) held.waiting }
    in
    let between : held' ≡ now = does.1 ∙ ap (after_next held) does.0.0 in
    let sound = next_sound held (Ok (Some (header_of piece))) does.0.0
    (some_fine (header_of piece) (Ok (Some (header_of piece))) refl) in
    subst IsStuck (sym between) (λ f. absurd (true≢false (sym f ∙ sound.0)))
does_stuck held held' Waited does stuck =
    let between : held' ≡ held = does.1 ∙ ap (after_next held) does.0 in
    subst IsStuck (sym between) stuck
does_stuck held held' Refused does stuck =
    let now : ReceivedFrames = record held { failed = true } in
    let between : held' ≡ now = does.1 ∙ ap (after_next held) does.0 in
    subst IsStuck (sym between) (λ f. refused_so held stuck does.0)

runs_stuck : (events : List FramesCall) (held held' : ReceivedFrames) → RunsFrames held events held'
    → IsStuck held → IsStuck held'
runs_stuck [] held held' run stuck = subst IsStuck (sym run) stuck
runs_stuck (event ∷ events) held held' run stuck =
    runs_stuck events run.0 held' run.2 (does_stuck held run.0 event run.1 stuck)

record Last (held : ReceivedFrames) (events : List FramesCall) (event : FramesCall)
    (held' : ReceivedFrames) : Type 0 where
  between : ReceivedFrames
  before : RunsFrames held events between
  last : DoesFramesCall between event held'

last_of : (held : ReceivedFrames) (events : List FramesCall) (event : FramesCall)
    (held' : ReceivedFrames) → RunsFrames held (events ++ (event ∷ [])) held'
    → Last held events event held'
last_of held [] event held' run = record {
  between = held;
  before = refl;
  last =
      subst (DoesFramesCall held event) (sym run.2) run.1;
}
last_of held (x ∷ events) event held' run =
    let later = last_of run.0 events event held' run.2 in
    record { between = later.between; before = (run.0, run.1, later.before); last = later.last }

ends_so : (held : ReceivedFrames) (failed : Bool) (held' : ReceivedFrames) → IsStuck held
    → DoesFramesCall held (ended failed) held'
    → (held'.waiting ≡ held.waiting) × (frame_header held.waiting ≡ verdict failed)
ends_so held false held' stuck does = (
  ap (λ (h : ReceivedFrames). h.waiting) (does.1 ∙ ap (after_next held) does.0),
  (next_sound held (Ok None) does.0 (none_fine (Ok None) refl)).1,
)
ends_so held true held' stuck does = (
  ap (λ (h : ReceivedFrames). h.waiting) (does.1 ∙ ap (after_next held) does.0),
  refused_so held stuck does.0,
)

pub frames_end : (events : List FramesCall) (failed : Bool) (held : ReceivedFrames)
    → RunsFrames no_frames (events ++ (ended failed ∷ [])) held
    → AreFramesThenRest (fed_of events) (given_of events) held.waiting failed
frames_end events failed held run =
    let parts = last_of no_frames events (ended failed) held run in
    let stuck = runs_stuck events no_frames parts.between parts.before
    (λ f. absurd (true≢false (sym f))) in
    let told = ends_so parts.between failed held stuck parts.last in
    subst (λ (rest : List ℕ). AreFramesThenRest (fed_of events) (given_of events) rest failed)
    (sym told.0) (record {
      frames = frames_kept events parts.between parts.before;
      ends =
          told.1;
    })

-- ---- one reading

verdict_one : (f g : Bool) → verdict f ≡ verdict g → f ≡ g
verdict_one false false e = refl
verdict_one true true e = refl
verdict_one false true e = absurd (cc)
verdict_one true false e = absurd (cc)

no_frame : (f : Bool) (h : Header) → verdict f ≡ Ok (Some h) → ⊥
no_frame false h e = cc
no_frame true h e = cc

frame_cut : (piece : FrameContent) (chunk more : List ℕ) → IsFrame piece chunk
    → frame_header (chunk ++ more) ≡ Ok (Some (record { kind = piece.kind; size = length chunk }))
frame_cut piece chunk more is = cut_append chunk more
    (some_not_none (record { kind = piece.kind; size = length chunk })
    (frame_header chunk) is.whole) ∙ is.whole

same_header : (a b : Header) (r : Result (Option Header) ExchangeFault) → r ≡ Ok (Some a)
    → r ≡ Ok (Some b) → a ≡ b
same_header a b r e f = cc

-- of two frames that stand first, both are the first
first_one : (p q : FrameContent) (chunk chunk' more more' : List ℕ) → IsFrame p chunk
    → IsFrame q chunk' → chunk ++ more ≡ chunk' ++ more' → (p ≡ q) × (more ≡ more')
first_one p q chunk chunk' more more' is is' e =
    let a : Header = record { kind = p.kind; size = length chunk } in
    let b : Header = record { kind = q.kind; size = length chunk' } in
    let same : a ≡ b = same_header a b (frame_header (chunk ++ more)) (frame_cut p chunk more is)
    (ap frame_header e ∙ frame_cut q chunk' more' is') in
    let count : length chunk ≡ length chunk' = ap (λ (h : Header). h.size) same in
    let kinds : p.kind ≡ q.kind = ap (λ (h : Header). h.kind) same in
    let chunks : chunk ≡ chunk' = sym (take-append_seam chunk more)
    ∙ (ap (take (length chunk)) e ∙ (ap (λ n. take n (chunk' ++ more')) count
    ∙ take-append_seam chunk' more')) in
    let rests : more ≡ more' = sym (drop-append_seam chunk more)
    ∙ (ap (drop (length chunk)) e ∙ (ap (λ n. drop n (chunk' ++ more')) count
    ∙ drop-append_seam chunk' more')) in
    let bodies : p.body ≡ q.body = sym is.body ∙ (ap (drop 8) chunks ∙ is'.body) in (
      ap (λ (k : FrameKind). let r : FrameContent = record { kind = k; body = p.body } in r) kinds
          ∙ ap (λ (l : List ℕ). let r : FrameContent = record { kind = q.kind; body = l } in r)
          bodies,
      rests,
    )

pub readings_one : (bytes : List ℕ) (ps qs : List FrameContent) (rest rest' : List ℕ) (f g : Bool)
    → AreFramesThenRest bytes ps rest f → AreFramesThenRest bytes qs rest' g
    → (ps ≡ qs) × (rest ≡ rest') × (f ≡ g)
readings_one bytes [] [] rest rest' f g s t =
    let same : rest ≡ rest' = sym s.frames ∙ t.frames in
    (refl, same, verdict_one f g (sym s.ends ∙ (ap frame_header same ∙ t.ends)))
readings_one bytes [] (q ∷ qs) rest rest' f g s t =
    absurd (no_frame f _ (sym s.ends
    ∙ (ap frame_header (sym s.frames ∙ t.frames.2)
    ∙ frame_cut q t.frames.0 t.frames.1 t.frames.3)))
readings_one bytes (p ∷ ps) [] rest rest' f g s t =
    absurd (no_frame g _ (sym t.ends
    ∙ (ap frame_header (sym t.frames ∙ s.frames.2)
    ∙ frame_cut p s.frames.0 s.frames.1 s.frames.3)))
readings_one bytes (p ∷ ps) (q ∷ qs) rest rest' f g s t =
    let one = first_one p q s.frames.0 t.frames.0 s.frames.1 t.frames.1 s.frames.3 t.frames.3
    (sym s.frames.2 ∙ t.frames.2) in
    let later = readings_one s.frames.1 ps qs rest rest' f g
    (record { frames = s.frames.4; ends = s.ends })
    (record {
      frames = subst (λ (m : List ℕ). AreFrames m qs rest') (sym one.1) t.frames.4;
      ends =
          t.ends;
    }) in (
      ap (λ (x : FrameContent). x ∷ ps) one.0 ∙ ap (λ (l : List FrameContent). q ∷ l) later.0,
      later.1,
      later.2,
    )

pub runs_one : (events events' : List FramesCall) (f g : Bool) (held held' : ReceivedFrames)
    → RunsFrames no_frames (events ++ (ended f ∷ [])) held
    → RunsFrames no_frames (events' ++ (ended g ∷ [])) held' → fed_of events ≡ fed_of events'
    → (given_of events ≡ given_of events') × (held.waiting ≡ held'.waiting) × (f ≡ g)
runs_one events events' f g held held' run run' same =
    readings_one (fed_of events) (given_of events) (given_of events') held.waiting held'.waiting f g
    (frames_end events f held run)
    (subst (λ (bytes : List ℕ). AreFramesThenRest bytes (given_of events') held'.waiting g)
    (sym same) (frames_end events' g held' run'))
